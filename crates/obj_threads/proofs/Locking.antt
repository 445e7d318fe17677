-- What the methods of locks do, over each view.
use Rattle.std.proofs.Common.{◌≡◌, ◌≢◌, ℕ, Bool, true, false, eqb, List, [], ◌∷◌, codes, Option, Some, None, inl, inr, ◌⊎◌, refl, sym, ap, subst, ◌∙◌}
use Rattle.std.specs.Prelude.{slice_set}
use Rattle.std.proofs.lemmas.Bool.{cases_Bool, eqb-true}
use Rattle.py_base.specs.Numbers.{builtin_number}
use Rattle.py_data.specs.declared.change.Change.{Change}
use Rattle.py_data.specs.declared.change.Change.TheVariants.{Set}
use Rattle.py_data.specs.declared.value.Value.{Value}
use Rattle.py_data.specs.declared.value.Value.TheVariants.{None as NoneValue, Bool as BoolValue}
use Rattle.py_data.specs.declared.record.Got.{Got}
use Rattle.py_data.specs.declared.record.Got.TheVariants.{Is, Raise}
use Rattle.py_data.specs.Changes.{after}
use Rattle.py_data.specs.Heap.{Heap, Rec, at, put_at, value_at}
use Rattle.py_data.specs.Looking.{IsLook, kind_row, look_row}
use Rattle.py_data.specs.Row.{Call, Reply, Row, Ret, Do, Read, Find, Edit, Make, Start, Put, Take, MidLine, SetMidLine, bind}
use Rattle.py_data.specs.Sense.{Sense, Lawful, Effect, Run}
use Rattle.py_data.proofs.Grow.{with_rec_here, with_rec_there}
use Rattle.py_data.proofs.OnlyLooks.{OnlyLooks}
use Rattle.py_data.proofs.Rows.{bind_run}
use Rattle.py_data.proofs.Same.{one_rec}
use Rattle.py_data.proofs.Steps.{at_is}
use Rattle.obj_class.specs.Bases.{ref}
use Rattle.obj_nest.specs.Truth.{truth_row}
use Rattle.obj_threads.specs.declared.answer.Answer.{Answer}
use Rattle.obj_threads.specs.declared.answer.Answer.TheVariants.{Waits}
use Rattle.obj_threads.specs.Arguments.{answered, is_set}
use Rattle.obj_threads.specs.Laws.{IsLock, LockIsNow, LockDone, LockLaw}
use Rattle.obj_threads.specs.Locks.{held_answer, held_row, hold_row, acquire_by, acquire_row, acquire_with, free_row, release_by, release_row, locked_row, bare_lock_row, unasked_lock_row, lock_by, lock_keyed, lock_of, lock_at, lock_row, unlocked_fault}
use Rattle.obj_threads.proofs.Quiet.{only_truth}

module _ {S X : Type 0} (u : Sense S X) (L : Lawful u) where
  -- ---- looks leave the heap
  look_same : (c : Call S) → IsLook c → (p : Bool) (h : Heap) (r : Reply c) (h1 : Heap) → Effect p c h r h1 → h1 ≡ h
  look_same (Read a) i p h r h1 e = e.1
  look_same (Find d key) i p h r h1 e = e.2
  look_same (Edit a c) i p h r h1 e = absurd i
  look_same (Make q) i p h r h1 e = absurd i
  look_same (Start s) i p h r h1 e = absurd i
  look_same (Put on bytes) i p h r h1 e = absurd i
  look_same (Take most) i p h r h1 e = absurd i
  look_same MidLine i p h r h1 e = absurd i
  look_same (SetMidLine mid) i p h r h1 e = absurd i

  only_same : {A : Type 0} (row : Row S A) (v w : X) (y : A) → OnlyLooks row → Run u row v y w → u.heap w ≡ u.heap v
  unfolding OnlyLooks Run
  only_same (Ret a) v w y o d = ap u.heap d.1
  only_same (Do c k) v w y o d = only_same (k d.0) d.1 w y (o.1 d.0) d.3 ∙
      look_same c o.0 u.partial (u.heap v) d.0 (u.heap d.1) (L.effect c v d.0 d.1 d.2)

  -- a record that is there is looked at, and the row goes on over the same heap
  pub record WentOn {A : Type 0} (row : Row S A) (h : Heap) (y : A) (w : X) : Type 0 where
    pub from : X
    pub same : u.heap from ≡ h
    pub run : Run u row from y w

  pub read_on : {A : Type 0} (a : ℕ) (k : Rec → Row S A) (h : Heap) (v w : X) (y : A) (r : Rec) → h a ≡ Some r →
      u.heap v ≡ h → Run u (Do (Read a) k) v y w → WentOn (k r) h y w
  unfolding Run
  read_on a k h v w y r here e d =
      let f = L.effect (Read a) v d.0 d.1 d.2 in
      record {
        from = d.1;
        same = f.1 ∙ e;
        run =
            subst (λ q. Run u (k q) d.1 y w) (one_rec (h a) r d.0 here (sym (ap (λ g. g a) e) ∙ f.0)) d.3;
      }

  module _ (a : ℕ) (h : Heap) (held : Bool) (l : IsLock h a held) where
    -- the method of a lock is done without keywords
    method_on : (m : ℕ) (args : List Value) (v w : X) (y : Got Answer) → u.heap v ≡ h →
        Run u (lock_row m (ref a) args []) v y w → WentOn (lock_by m a args) h y w
    unfolding lock_row lock_at kind_row bind lock_of lock_keyed
    method_on m args v w y e d =
        let n = read_on a (λ r. lock_of m a args [] r.kind) h v w y l.lock l.here e d in
        subst (λ k. WentOn (lock_of m a args [] k) h y w) l.kind n

    -- and the lock's value is looked at
    value_on : (f : Value → Row S (Got Answer)) (v w : X) (y : Got Answer) → u.heap v ≡ h →
        Run u (bind (look_row a 0) f) v y w → WentOn (f (BoolValue held)) h y w
    unfolding look_row bind
    value_on f v w y e d =
        let n = read_on a (λ r. f (value_at r.values 0)) h v w y l.lock l.here e d in
        subst (λ vs. WentOn (f (value_at vs 0)) h y w) l.values n

    acquire_on : (o : Option Value) (v w : X) (y : Got Answer) → u.heap v ≡ h → Run u (acquire_row a o) v y w →
        WentOn (acquire_by a o held) h y w
    unfolding acquire_row
    acquire_on o v w y e d = value_on (λ x. acquire_by a o (is_set x)) v w y e d

    acquired : (args : List Value) (v w : X) (y : Got Answer) → u.heap v ≡ h →
        LockDone u (codes "lock.acquire") a args v y w → WentOn (acquire_with a args) h y w
    unfolding lock_by
    acquired args v w y e d = method_on (builtin_number (codes "lock.acquire")) args v w y e d

    released : (v w : X) (y : Got Answer) → u.heap v ≡ h → LockDone u (codes "lock.release") a [] v y w →
        WentOn (release_by a held) h y w
    unfolding lock_by unasked_lock_row bare_lock_row release_row
    released v w y e d =
        let n = method_on (builtin_number (codes "lock.release")) [] v w y e d in
        value_on (λ x. release_by a (is_set x)) n.from w y n.same n.run

    asked : (v w : X) (y : Got Answer) → u.heap v ≡ h → LockDone u (codes "lock.locked") a [] v y w →
        (y ≡ answered (BoolValue held)) × (u.heap w ≡ h)
    unfolding lock_by unasked_lock_row bare_lock_row locked_row Run
    asked v w y e d =
        let n = method_on (builtin_number (codes "lock.locked")) [] v w y e d in
        let z = value_on (λ x. Ret (answered (BoolValue (is_set x)))) n.from w y n.same n.run in
        (z.run.0, ap u.heap z.run.1 ∙ z.same)

    -- the lock's value is set
    set_on : (b : Bool) (x : Value) (v w : X) (y : Got Answer) → u.heap v ≡ h →
        Run u (Do (Edit a (Set 0 (BoolValue b))) (λ i. Ret (answered x))) v y w →
        (y ≡ answered x) × LockIsNow h (u.heap w) a b
    unfolding Run
    set_on b x v w y e d =
        let c : Change = Set 0 (BoolValue b) in
        let f = L.effect (Edit a c) v d.0 d.1 d.2 in
        let q = after c l.lock in
        let now : u.heap w ≡ put_at h a q = ap u.heap d.3.1 ∙
        (f.1 ∙ (ap (λ g. put_at g a (after c (at g a))) e ∙
        ap (λ r. put_at h a (after c r)) (at_is h a l.lock l.here))) in (
          d.3.0,
          record {
            lock = record {
              lock = q;
              here = ap (λ g. g a) now ∙ with_rec_here a q h;
              kind = l.kind;
              values =
                  ap (λ vs. slice_set vs 0 (BoolValue b)) l.values;
            };
            others = λ n d. ap (λ g. g n) now ∙ elsewhere n d;
          },
        )
      where
        elsewhere : (n : ℕ) → n ≢ a → put_at h a (after (Set 0 (BoolValue b)) l.lock) n ≡ h n
        elsewhere n d = elim (cases_Bool (eqb n a)) [
          | inl y ↦ absurd (d (eqb-true n a y))
          | inr f ↦
              with_rec_there a n (after (Set 0 (BoolValue b)) l.lock) h f
        ]

  -- ---- the laws
  free_acquired : (a : ℕ) (h : Heap) (l : IsLock h a false) (o : Option Value) (v w : X) (y : Got Answer) →
      u.heap v ≡ h → Run u (acquire_row a o) v y w → (y ≡ answered (BoolValue true)) × LockIsNow h (u.heap w) a true
  unfolding acquire_by hold_row
  free_acquired a h l o v w y e d =
      let n = acquire_on a h false l o v w y e d in
      set_on a h false l true (BoolValue true) n.from w y n.same n.run

  held_none : (a : ℕ) (h : Heap) (l : IsLock h a true) (v w : X) (y : Got Answer) → u.heap v ≡ h →
      Run u (acquire_row a None) v y w → (y ≡ Is Waits) × (u.heap w ≡ h)
  unfolding acquire_by held_row Run
  held_none a h l v w y e d =
      let n = acquire_on a h true l None v w y e d in
      (n.run.0, ap u.heap n.run.1 ∙ n.same)

  waits_or_not : (b : Bool) → held_answer b ≡ Is Waits ⊎ held_answer b ≡ answered (BoolValue false)
  waits_or_not true = inl refl
  waits_or_not false = inr refl

  held_some : (a : ℕ) (h : Heap) (l : IsLock h a true) (x : Value) (v w : X) (y : Got Answer) → u.heap v ≡ h →
      Run u (acquire_row a (Some x)) v y w → (y ≡ Is Waits ⊎ y ≡ answered (BoolValue false)) × (u.heap w ≡ h)
  unfolding acquire_by held_row Run
  held_some a h l x v w y e d =
      let n = acquire_on a h true l (Some x) v w y e d in
      let b = bind_run u (truth_row x) (λ b. Ret (held_answer b)) n.from y w n.run in (
        subst (λ z. z ≡ Is Waits ⊎ z ≡ answered (BoolValue false)) (sym b.3.0) (waits_or_not b.0),
        ap u.heap b.3.1 ∙
            (only_same (truth_row x) n.from b.1 b.0 (only_truth S x) b.2 ∙ n.same),
      )

  held_false : (a : ℕ) (h : Heap) (l : IsLock h a true) (v w : X) (y : Got Answer) → u.heap v ≡ h →
      Run u (acquire_row a (Some (BoolValue false))) v y w → y ≡ answered (BoolValue false)
  unfolding acquire_by held_row truth_row bind Run
  held_false a h l v w y e d =
      let n = acquire_on a h true l (Some (BoolValue false)) v w y e d in
      n.run.0

  held_released : (a : ℕ) (h : Heap) (l : IsLock h a true) (v w : X) (y : Got Answer) → u.heap v ≡ h →
      LockDone u (codes "lock.release") a [] v y w → (y ≡ answered NoneValue) × LockIsNow h (u.heap w) a false
  unfolding release_by free_row
  held_released a h l v w y e d =
      let n = released a h true l v w y e d in
      set_on a h true l false NoneValue n.from w y n.same n.run

  free_released : (a : ℕ) (h : Heap) (l : IsLock h a false) (v w : X) (y : Got Answer) → u.heap v ≡ h →
      LockDone u (codes "lock.release") a [] v y w → (y ≡ Raise unlocked_fault) × (u.heap w ≡ h)
  unfolding release_by Run
  free_released a h l v w y e d =
      let n = released a h false l v w y e d in
      (n.run.0, ap u.heap n.run.1 ∙ n.same)

  either_free : (a : ℕ) (x : Value) (v w : X) (y : Got Answer) → IsLock (u.heap v) a false →
      LockDone u (codes "lock.acquire") a [] v y w ⊎ LockDone u (codes "lock.acquire") a (x ∷ []) v y w
      → (y ≡ answered (BoolValue true)) × LockIsNow (u.heap v) (u.heap w) a true
  unfolding acquire_with
  either_free a x v w y l (inl d) =
      let n = acquired a (u.heap v) false l [] v w y refl d in
      free_acquired a (u.heap v) l None n.from w y n.same n.run
  either_free a x v w y l (inr d) =
      let n = acquired a (u.heap v) false l (x ∷ []) v w y refl d in
      free_acquired a (u.heap v) l (Some x) n.from w y n.same n.run

  pub lock_law : LockLaw u
  unfolding acquire_with
  lock_law = record {
    acquire_free = either_free;
    acquire_held = λ a v w y l d. let n = acquired a (u.heap v) true l [] v w y refl d in
        held_none a (u.heap v) l n.from w y n.same n.run;
    acquire_asked = λ a x v w y l d. let n = acquired a (u.heap v) true l (x ∷ []) v w y refl d in
        held_some a (u.heap v) l x n.from w y n.same n.run;
    acquire_unwilling = λ a v w y l d. let n = acquired a (u.heap v) true l (BoolValue false ∷ []) v w y refl d in
        held_false a (u.heap v) l n.from w y n.same n.run;
    release_held = λ a v w y l d. held_released a (u.heap v) l v w y refl d;
    release_free = λ a v w y l d. free_released a (u.heap v) l v w y refl d;
    locked = λ a held v w y l d. asked a (u.heap v) held l v w y refl d;
  }
