-- Rows that look, set values and make records, and give such an answer as waits or lets a thread start behind looks
-- alone: how they are put together, and what follows.
use Rattle.std.proofs.Common.{◌≡◌, ℕ, zero, suc, ◌+◌, Bool, true, false, cond, inl, inr, ◌&&◌, ◌||◌, refl, sym, ap, subst, ◌∙◌}
use Rattle.py_data.specs.declared.change.Change.TheVariants.{Set}
use Rattle.py_data.specs.declared.value.Value.{Value}
use Rattle.py_data.specs.declared.record.Got.{Got}
use Rattle.py_data.specs.declared.record.Got.TheVariants.{Is, Raise}
use Rattle.py_data.specs.Heap.{Rec}
use Rattle.py_data.specs.Looking.{IsLook, each_row, got_row}
use Rattle.py_data.specs.Row.{Call, Reply, Row, Ret, Do, Read, Find, Edit, Make, Start, Put, Take, MidLine, SetMidLine, bind}
use Rattle.py_data.specs.Sense.{Run}
use Rattle.py_data.specs.Sight.{Sight, Act, Does}
use Rattle.py_data.specs.Steady.{shrinks, WritesThen, Calm}
use Rattle.py_data.proofs.CalmRows.{ret_calm, do_calm}
use Rattle.py_data.proofs.OnlyLooks.{OnlyLooks, only_bind}
use Rattle.obj_threads.specs.declared.answer.Answer.{Answer}
use Rattle.obj_threads.specs.Arguments.{answered}
use Rattle.obj_threads.specs.Quiet.{IsGotPending, Never, BehindLooks, IsUntouched, PendingLaw, IsHeapCall, OnlyCalls, IsInside, InsideLaw}

-- ---- looks alone

pub only_each : {S A : Type 0} (f : ℕ → A → Row S (Got A)) → ((i : ℕ) (a : A) → OnlyLooks (f i a)) → (i m : ℕ) (a : A)
    → OnlyLooks (each_row f i m a)
unfolding each_row OnlyLooks
only_each f n i zero a = tt
only_each {S} {A} f n i (suc m) a = only_bind (f i a) (got_row (each_row f (i + 1) m)) (n i a)
    (more (only_each f n (i + 1) m))
  where
    more : ((a : A) → OnlyLooks (each_row f (i + 1) m a)) → (g : Got A) → OnlyLooks (got_row (each_row f (i + 1) m) g)
    more n (Is a) = n a
    more n (Raise e) = tt

-- ---- calls that make nothing shorter, and neither touch the world nor start a thread

-- a look, a value that is set, or a new record
abbrev pub IsMild : {S : Type 0} → Call S → Type 0
IsMild (Read a) = Unit {0}
IsMild (Find d key) = Unit {0}
IsMild (Edit a (Set i x)) = Unit {0}
IsMild (Make r) = Unit {0}
IsMild _ = ⊥

look_mild : {S : Type 0} (c : Call S) → IsLook c → IsMild c
look_mild (Read a) i = tt
look_mild (Find d key) i = tt
look_mild _ i = absurd i

mild_heap : {S : Type 0} (c : Call S) → IsMild c → IsHeapCall c
mild_heap (Read a) i = tt
mild_heap (Find d key) i = tt
mild_heap (Edit a (Set j x)) i = tt
mild_heap (Make r) i = tt
mild_heap _ i = absurd i

mild_shrinks : {S : Type 0} (c : Call S) → IsMild c → shrinks c ≡ false
mild_shrinks (Read a) i = refl
mild_shrinks (Find d key) i = refl
mild_shrinks (Edit a (Set j x)) i = refl
mild_shrinks (Make r) i = refl
mild_shrinks _ i = absurd i

mild_asks : {S A : Type 0} (c : Call S) (k : Reply c → Row S A) → IsMild c → WritesThen c k
mild_asks MidLine k i = absurd i
mild_asks _ k i = tt

pub mild_inside : {S A : Type 0} (row : Row S A) → OnlyCalls IsMild row → OnlyCalls IsHeapCall row
unfolding OnlyCalls
mild_inside (Ret a) i = tt
mild_inside (Do c k) i = (mild_heap c i.0, λ r. mild_inside (k r) (i.1 r))

pub mild_calm : {S A : Type 0} (row : Row S A) → OnlyCalls IsMild row → Calm row
unfolding OnlyCalls
mild_calm {S} (Ret a) i = ret_calm S a
mild_calm (Do c k) i = do_calm c k (mild_shrinks c i.0) (mild_asks c k i.0) (λ r. mild_calm (k r) (i.1 r))

-- ---- both at once

pub record IsGood {S : Type 0} (row : Row S (Got Answer)) : Type 0 where
  pub mild : OnlyCalls IsMild row
  pub pending : BehindLooks IsGotPending row

module _ (S : Type 0) where
  pub good_ret : (x : Got Answer) → IsGood {S = S} (Ret x)
  unfolding OnlyCalls BehindLooks
  good_ret x = record { mild = tt; pending = tt }

  pub good_cond : (b : Bool) (p q : Row S (Got Answer)) → IsGood p → IsGood q → IsGood (cond b p q)
  good_cond true p q i j = i
  good_cond false p q i j = j

  mild_looks : {A : Type 0} (row : Row S A) (f : A → Row S (Got Answer)) → OnlyLooks row → ((a : A) → IsGood (f a)) →
      OnlyCalls IsMild (bind row f)
  unfolding OnlyLooks OnlyCalls bind
  mild_looks (Ret a) f i n = (n a).mild
  mild_looks (Do c k) f i n = (look_mild c i.0, λ r. mild_looks (k r) f (i.1 r) n)

  pending_looks : {A : Type 0} (row : Row S A) (f : A → Row S (Got Answer)) → OnlyLooks row → ((a : A) → IsGood (f a))
      → BehindLooks IsGotPending (bind row f)
  unfolding OnlyLooks BehindLooks bind
  pending_looks (Ret a) f i n = (n a).pending
  pending_looks (Do c k) f i n = inl (i.0, λ r. pending_looks (k r) f (i.1 r) n)

  -- looks come first
  pub good_looks : {A : Type 0} (row : Row S A) (f : A → Row S (Got Answer)) → OnlyLooks row → ((a : A) → IsGood (f a))
      → IsGood (bind row f)
  good_looks row f i n = record { mild = mild_looks row f i n; pending = pending_looks row f i n }

  -- a call, and then a value
  pub good_set : (a i : ℕ) (x y : Value) → IsGood {S = S} (Do (Edit a (Set i x)) (λ u. Ret (answered y)))
  unfolding OnlyCalls BehindLooks Never
  good_set a i x y = record { mild = (tt, λ u. tt); pending = inr (λ u i. i) }

  pub good_make : (r : Rec) (f : ℕ → Value) → IsGood {S = S} (Do (Make r) (λ a. Ret (answered (f a))))
  unfolding OnlyCalls BehindLooks Never
  good_make r f = record { mild = (tt, λ a. tt); pending = inr (λ a i. i) }

  pub good_makes : (r : Rec) (q : ℕ → Rec) (f : ℕ → Value) →
      IsGood {S = S} (Do (Make r) (λ a. Do (Make (q a)) (λ b. Ret (answered (f b)))))
  unfolding OnlyCalls BehindLooks Never
  good_makes r q f = record { mild = (tt, λ a. (tt, λ b. tt)); pending = inr (λ a b i. i) }

-- ---- what follows

never_does : {S A : Type 0} (p : A → Type 0) (row : Row S A) (s t : Sight S) (y : A) → Never p row → Does row s y t →
    p y → ⊥
unfolding Run Never
never_does p (Ret a) s t y n d i = n (subst p d.0 i)
never_does p (Do c k) s t y n d i = never_does p (k d.0) d.1 t y (n d.0) d.3 i

module _ {S : Type 0} where
  look_untouched : (c : Call S) → IsLook c → (s : Sight S) (r : Reply c) (t : Sight S) → Act c s r t → IsUntouched s t
  look_untouched (Read a) i s r t d = record {
    heap = ap (λ z. z.heap) d.1;
    made = ap (λ z. z.made) d.1;
    started =
        ap (λ z. z.started) d.1;
    world = ap (λ z. z.world) d.1;
    used = ap (λ z. z.used) d.1;
  }
  look_untouched (Find x key) i s r t d =
      record {
        heap = ap (λ z. z.heap) d.4;
        made = ap (λ z. z.made) d.4;
        started = ap (λ z. z.started) d.4;
        world =
            ap (λ z. z.world) d.4;
        used = ap (λ z. z.used) d.4;
      }
  look_untouched (Edit a c) i s r t d = absurd i
  look_untouched (Make q) i s r t d = absurd i
  look_untouched (Start q) i s r t d = absurd i
  look_untouched (Put on bytes) i s r t d = absurd i
  look_untouched (Take most) i s r t d = absurd i
  look_untouched MidLine i s r t d = absurd i
  look_untouched (SetMidLine mid) i s r t d = absurd i

  untouched_then : (s t w : Sight S) → IsUntouched s t → IsUntouched t w → IsUntouched s w
  untouched_then s t w x y = record {
    heap = y.heap ∙ x.heap;
    made = y.made ∙ x.made;
    started = y.started ∙ x.started;
    world = y.world ∙ x.world;
    used = y.used ∙ x.used;
  }

  pub pending_does : {A : Type 0} (p : A → Type 0) (row : Row S A) (s t : Sight S) (y : A) → BehindLooks p row → p y →
      Does row s y t → IsUntouched s t
  unfolding Run BehindLooks
  pending_does p (Ret a) s t y b i d = subst (IsUntouched s) (sym d.1)
      (record { heap = refl; made = refl; started = refl; world = refl; used = refl })
  pending_does p (Do c k) s t y b i d = elim b [
    | inl l ↦ untouched_then s d.1 t (look_untouched c l.0 s d.0 d.1 d.2)
        (pending_does p (k d.0) d.1 t y (l.1 d.0) i d.3)
    | inr n ↦ absurd (never_does p (k d.0) d.1 t y (n d.0) d.3 i)
  ]

  call_inside : (c : Call S) → IsHeapCall c → (s : Sight S) (r : Reply c) (t : Sight S) → Act c s r t → IsInside s t
  call_inside (Read a) i s r t d = record {
    started = ap (λ z. z.started) d.1;
    world = ap (λ z. z.world) d.1;
    used =
        ap (λ z. z.used) d.1;
  }
  call_inside (Find x key) i s r t d = record {
    started = ap (λ z. z.started) d.4;
    world = ap (λ z. z.world) d.4;
    used = ap (λ z. z.used) d.4;
  }
  call_inside (Edit a c) i s r t d = record {
    started = ap (λ z. z.started) d.3;
    world = ap (λ z. z.world) d.3;
    used =
        ap (λ z. z.used) d.3;
  }
  call_inside (Make q) i s r t d = record {
    started = ap (λ z. z.started) d.1;
    world = ap (λ z. z.world) d.1;
    used =
        ap (λ z. z.used) d.1;
  }
  call_inside (Start q) i s r t d = absurd i
  call_inside (Put on bytes) i s r t d = absurd i
  call_inside (Take most) i s r t d = absurd i
  call_inside MidLine i s r t d = absurd i
  call_inside (SetMidLine mid) i s r t d = absurd i

  pub inside_does : {A : Type 0} (row : Row S A) (s t : Sight S) (y : A) → OnlyCalls IsHeapCall row → Does row s y t →
      IsInside s t
  unfolding Run OnlyCalls
  inside_does (Ret a) s t y o d = subst (IsInside s) (sym d.1) (record { started = refl; world = refl; used = refl })
  inside_does (Do c k) s t y o d =
      let x = call_inside c o.0 s d.0 d.1 d.2 in
      let n = inside_does (k d.0) d.1 t y (o.1 d.0) d.3 in
      record { started = n.started ∙ x.started; world = n.world ∙ x.world; used = n.used ∙ x.used }

pub pending_law : (S : Type 0) → PendingLaw S
pending_law S row s t y b i d = pending_does IsGotPending row s t y b i d

pub inside_law : (S : Type 0) → InsideLaw S
inside_law S row s t y o d = inside_does row s t y o d
