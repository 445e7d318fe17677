-- What a row that holds does, and how what holds of rows is put together.
use Rattle.std.proofs.Common.{arith, ◌≡◌, ℕ, zero, suc, ◌≤◌, true, false, List, [], ◌∷◌, ◌++◌, append_assoc, append-nil, length, Option, Some, None, refl, sym, ap, subst, ◌∙◌}
use Rattle.std.specs.Prelude.{is_some, take, ◌==◌, if◌then◌else◌}
use Rattle.std.specs.Io.BufRead.{take_through}
use Rattle.std.proofs.lemmas.List.{length-take}
use Rattle.py_data.specs.Every.{Every}
use Rattle.py_data.specs.Shape.{find}
use Rattle.py_data.specs.Heap.{Rec, Heap, put_at}
use Rattle.py_data.specs.Changes.{after}
use Rattle.py_data.specs.Row.{Call, Reply, Row, Ret, Do, Read, Find, Edit, Make, Start, Put, Take, MidLine, SetMidLine, bind}
use Rattle.py_data.specs.Sense.{Sense, Lawful, Asks, Effect, Safe, Run}
use Rattle.py_data.specs.Sight.{Sight, Act}
use Rattle.py_data.specs.World.{IsLine}
use Rattle.py_data.specs.Order.{Rules, IsOrdered, Extends, AreLasting, StatesLast}
use Rattle.py_data.specs.Holds.{Tends, Holds}
use Rattle.py_data.specs.OrderLaws.{HoldsSafe, HoldsRun, HoldsBind, HoldsDoes, Held}
use Rattle.py_data.proofs.Calls.{call_ordered}
use Rattle.py_data.proofs.EveryLemmas.{every_and}
use Rattle.py_data.proofs.Keep.{extends_same, extends_then}
use Rattle.py_data.proofs.Parts.{safe_shown}
use Rattle.py_data.proofs.Steps.{at_is}

-- ---- the pure meaning of a call has its effect
through_short : (b : ℕ) (xs : List ℕ) (most : ℕ) → length xs ≤ most → length (take_through b xs) ≤ most
through_short b [] most i = i
through_short b (x ∷ xs) zero i = absurd (omega (arith, i))
through_short b (x ∷ xs) (suc most) i =
    elim (x == b) as (λ t. length (if t then x ∷ [] else x ∷ take_through b xs) ≤ suc most)
    [ true ↦ omega arith | false ↦ omega (arith, through_short b xs most (omega (arith, i))) ]

line_short : (input : Option (List ℕ)) (most : ℕ) (l : List ℕ) → IsLine input most l → length l ≤ most
line_short None most l i = i
line_short (Some xs) most l i = subst (λ z. length z ≤ most) (sym i)
    (through_short 10 (take most xs) most (omega (arith, length-take most xs)))

pub act_effect : {S : Type 0} (c : Call S) (s : Sight S) (r : Reply c) (t : Sight S) → Act c s r t →
    Effect false c s.heap r t.heap
act_effect (Read a) s r t d = (d.0, ap (λ z. z.heap) d.1)
act_effect (Find x key) s o t d = (
  ap is_some d.1,
  d.3 ∙ sym (ap (λ r. find_in r) (at_is s.heap x d.0 d.1)),
  ap (λ z. z.heap) d.4,
  tt,
)
  where
    find_in : Rec → Option ℕ
    find_in r = find s.heap r.values key
act_effect (Edit a c) s r t d = (
  ap is_some d.1,
  ap (λ z. z.heap) d.3 ∙
      sym (ap (λ r. put_at s.heap a (after c r)) (at_is s.heap a d.0 d.1)),
)
act_effect (Make q) s n t d = (d.0, ap (λ z. z.heap) d.1, refl)
act_effect (Start p) s r t d = ap (λ z. z.heap) d
act_effect (Put on bytes) s r t d = ap (λ z. z.heap) d
act_effect (Take most) s l t d = (line_short s.world.input most l d.0, ap (λ z. z.heap) d.1)
act_effect MidLine s mid t d = ap (λ z. z.heap) d.1
act_effect (SetMidLine mid) s r t d = ap (λ z. z.heap) d

-- the states that a call starts
abbrev started_by : {S : Type 0} → Call S → List S
started_by (Start p) = p ∷ []
started_by _ = []

act_started : {S : Type 0} (c : Call S) (s : Sight S) (r : Reply c) (t : Sight S) → Act c s r t →
    t.started ≡ s.started ++ started_by c
act_started (Read a) s r t d = ap (λ z. z.started) d.1 ∙ sym (append-nil s.started)
act_started (Find x key) s r t d = ap (λ z. z.started) d.4 ∙ sym (append-nil s.started)
act_started (Edit a c) s r t d = ap (λ z. z.started) d.3 ∙ sym (append-nil s.started)
act_started (Make q) s r t d = ap (λ z. z.started) d.1 ∙ sym (append-nil s.started)
act_started (Start p) s r t d = ap (λ z. z.started) d
act_started (Put on bytes) s r t d = ap (λ z. z.started) d ∙ sym (append-nil s.started)
act_started (Take most) s r t d = ap (λ z. z.started) d.1 ∙ sym (append-nil s.started)
act_started MidLine s r t d = ap (λ z. z.started) d.1 ∙ sym (append-nil s.started)
act_started (SetMidLine mid) s r t d = ap (λ z. z.started) d ∙ sym (append-nil s.started)

-- ---- how what holds of rows is put together
module _ {S : Type 0} (rules : Rules) (stands : Heap → S → Type 0) where
  pub holds_ret : {A : Type 0} (p : A → Heap → Type 0) (a : A) (h : Heap) → p a h → Holds rules stands p (Ret a) h
  unfolding Holds
  holds_ret p a h i = i

  pub holds_do : {A : Type 0} (p : A → Heap → Type 0) (c : Call S) (k : Reply c → Row S A) (h : Heap) →
      Asks false c h → Tends rules stands c h
      → ((r : Reply c) (h1 : Heap) → Effect false c h r h1 → IsOrdered rules h1 → Extends h h1 →
      Holds rules stands p (k r) h1) → Holds rules stands p (Do c k) h
  unfolding Holds
  holds_do p c k h a t f = (a, t, f)

  pub holds_weaken : {A : Type 0} (p q : A → Heap → Type 0) → ((a : A) (h : Heap) → p a h → q a h) →
      (row : Row S A) (h : Heap) → Holds rules stands p row h → Holds rules stands q row h
  unfolding Holds
  holds_weaken p q f (Ret a) h i = f a h i
  holds_weaken p q f (Do c k) h i = (i.0, i.1, λ r h1 e order x. holds_weaken p q f (k r) h1 (i.2 r h1 e order x))

  bind_from : {A B : Type 0} (p : A → Heap → Type 0) (q : B → Heap → Type 0) (row : Row S A) (f : A → Row S B)
      (h0 h : Heap) → Extends h0 h → IsOrdered rules h → Holds rules stands p row h
      → ((a : A) (h1 : Heap) → IsOrdered rules h1 → Extends h0 h1 → p a h1 → Holds rules stands q (f a) h1) →
      Holds rules stands q (bind row f) h
  unfolding Holds bind
  bind_from p q (Ret a) f h0 h x order i n = n a h order x i
  bind_from p q (Do c k) f h0 h x order i n = (
    i.0,
    i.1,
    λ r h1 e order1 y. bind_from p q (k r) f h0 h1 (extends_then h0 h h1 x y) order1 (i.2 r h1 e order1 y)
        n,
  )

  pub holds_bind : {A B : Type 0} (p : A → Heap → Type 0) (q : B → Heap → Type 0) → HoldsBind rules stands p q
  holds_bind p q row f h order i n = bind_from p q row f h h (extends_same h) order i n

  module _ (last : AreLasting rules) where
    -- a row that holds is safe
    whole_safe : {A : Type 0} (p : A → Heap → Type 0) (row : Row S A) (h : Heap) → IsOrdered rules h →
        Holds rules stands p row h → Safe false row h
    unfolding Holds Safe
    whole_safe p (Ret a) h order i = tt
    whole_safe p (Do c k) h order i = (
      i.0,
      λ r h1 e. let o = call_ordered rules last stands c h h1 r i.0 i.1 e order in
          whole_safe p (k r) h1 o.0 (i.2 r h1 e o.0 o.1),
    )

    pub holds_safe : {A : Type 0} (p : A → Heap → Type 0) → HoldsSafe rules stands p
    holds_safe p partial row g h shown order i = safe_shown partial row g h shown (whole_safe p row h order i)

    -- what it has left, over each view of a whole heap
    pub holds_run : {X A : Type 0} (u : Sense S X) → Lawful u → (p : A → Heap → Type 0) → HoldsRun rules stands p u
    unfolding Holds Run
    holds_run u L p whole (Ret a) v w y i order d =
        subst (λ z. p y (u.heap z) × IsOrdered rules (u.heap z) × Extends (u.heap v) (u.heap z)) (sym d.1)
        (subst (λ z. p z (u.heap v)) (sym d.0) i, order, extends_same (u.heap v))
    holds_run u L p whole (Do c k) v w y i order d =
        let e = subst (λ b. Effect b c (u.heap v) d.0 (u.heap d.1)) whole (L.effect c v d.0 d.1 d.2) in
        let o = call_ordered rules last stands c (u.heap v) (u.heap d.1) d.0 i.0 i.1 e order in
        let n = holds_run u L p whole (k d.0) d.1 w y (i.2 d.0 (u.heap d.1) e o.0 o.1) o.0 d.3 in
        (n.0, n.1, extends_then (u.heap v) (u.heap d.1) (u.heap w) o.1 n.2)

    module _ (stay : StatesLast rules stands) where
      started_stand : (c : Call S) (h h1 : Heap) → Tends rules stands c h → IsOrdered rules h → Extends h h1 →
          Every (stands h1) (started_by c)
      started_stand (Start p) h h1 t order x = (stay h h1 p order x t, tt)
      started_stand (Read a) h h1 t order x = tt
      started_stand (Find d key) h h1 t order x = tt
      started_stand (Edit a c) h h1 t order x = tt
      started_stand (Make r) h h1 t order x = tt
      started_stand (Put on bytes) h h1 t order x = tt
      started_stand (Take most) h h1 t order x = tt
      started_stand MidLine h h1 t order x = tt
      started_stand (SetMidLine mid) h h1 t order x = tt

      pub holds_does : {A : Type 0} (p : A → Heap → Type 0) → HoldsDoes rules stands p
      unfolding Holds Run
      holds_does p (Ret a) s t y i order d =
          subst (λ z. Held rules stands p s z t) (sym d.0)
          (subst (λ z. Held rules stands p s a z) (sym d.1)
          (record {
            answer = i;
            order = order;
            extends = extends_same s.heap;
            started = [];
            more =
                sym (append-nil s.started);
            each = tt;
          }))
      holds_does p (Do c k) s t y i order d =
          let e = act_effect c s d.0 d.1 d.2 in
          let o = call_ordered rules last stands c s.heap d.1.heap d.0 i.0 i.1 e order in
          let n = holds_does p (k d.0) d.1 t y (i.2 d.0 d.1.heap e o.0 o.1) o.0 d.3 in
          let x = extends_then s.heap d.1.heap t.heap o.1 n.extends in
          record {
            answer = n.answer;
            order = n.order;
            extends = x;
            started = started_by c ++ n.started;
            more = n.more ∙ (ap (λ z. z ++ n.started) (act_started c s d.0 d.1 d.2) ∙
                append_assoc s.started (started_by c) n.started);
            each = every_and (stands t.heap) (started_by c) n.started (started_stand c s.heap t.heap i.1 order x)
                n.each;
          }
