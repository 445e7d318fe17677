-- How the parts of a row's meaning are put together.
use Rattle.std.proofs.Common.{◌≡◌, ℕ, Bool, Option, Some, Result, Ok, Err, MatchResult, inl, inr, refl, sym, ap, subst, unwrap_or}
use Rattle.py_data.specs.declared.stop.Stop.{Stop}
use Rattle.py_data.specs.declared.stop.Stop.TheVariants.{OutOfMemory}
use Rattle.py_data.specs.Heap.{Heap, Rec, at, blank}
use Rattle.py_data.specs.Row.{Call, Reply, Row, Ret, Do, Read, bind}
use Rattle.py_data.specs.Sense.{Sense, Lawful, Asks, Safe, Run, Stopped, Meets}

module _ {S X : Type 0} (u : Sense S X) where
  module _ {A : Type 0} where
    pub run_ret : (a : A) (v : X) → Run u (Ret a) v a v
    unfolding Run
    run_ret a v = (refl, refl)

    pub run_do : (c : Call S) (k : Reply c → Row S A) (v m w : X) (r : Reply c) (b : A) → u.does c v r m →
        Run u (k r) m b w → Run u (Do c k) v b w
    unfolding Run
    run_do c k v m w r b d h = (r, m, d, h)

    pub own_memory : (p : Row S A) (v : X) → Stopped u p v OutOfMemory v
    unfolding Stopped
    own_memory (Ret a) v = (refl, refl)
    own_memory (Do c k) v = inl (refl, refl)

    pub stop_refused : (c : Call S) (k : Reply c → Row S A) (v w : X) (e : Stop) → u.refuses c v e w →
        Stopped u (Do c k) v e w
    unfolding Stopped
    stop_refused c k v w e h = inr (inl h)

    pub stop_later : (c : Call S) (k : Reply c → Row S A) (v m w : X) (r : Reply c) (e : Stop) → u.does c v r m →
        Stopped u (k r) m e w → Stopped u (Do c k) v e w
    unfolding Stopped
    stop_later c k v m w r e d h = inr (inr (r, m, d, h))

  module _ {A B : Type 0} where
    pub run_bind : (p : Row S A) (f : A → Row S B) (v m w : X) (a : A) (b : B) → Run u p v a m → Run u (f a) m b w →
        Run u (bind p f) v b w
    unfolding Run bind
    run_bind (Ret x) f v m w a b h g = subst (λ z. Run u (f z) v b w) h.0 (subst (λ z. Run u (f a) z b w) h.1 g)
    run_bind (Do c k) f v m w a b h g = (h.0, h.1, h.2, run_bind (k h.0) f h.1 m w a b h.3 g)

    -- and back
    pub bind_run : (p : Row S A) (f : A → Row S B) (v : X) (b : B) (w : X) → Run u (bind p f) v b w →
        (a : A) × (m : X) × Run u p v a m × Run u (f a) m b w
    unfolding Run bind
    bind_run (Ret x) f v b w h = (x, v, (refl, refl), h)
    bind_run (Do c k) f v b w h = let r = bind_run (k h.0) f h.1 b w h.3 in (r.0, r.1, (h.0, h.1, h.2, r.2), r.3)

    pub stop_first : (p : Row S A) (f : A → Row S B) (v w : X) (e : Stop) → Stopped u p v e w →
        Stopped u (bind p f) v e w
    unfolding Stopped bind
    stop_first (Ret x) f v w e h = subst (λ z. Stopped u (f x) v z w) (sym h.0)
        (subst (λ z. Stopped u (f x) v OutOfMemory z) (sym h.1) (own_memory (f x) v))
    stop_first (Do c k) f v w e h = elim h [
      | inl mine ↦ inl mine
      | inr g ↦ elim g [
        | inl refused ↦ inr (inl refused)
        | inr d ↦ inr (inr (d.0, d.1, d.2, stop_first (k d.0) f d.1 w e d.3))
      ]
    ]

    pub stop_then : (p : Row S A) (f : A → Row S B) (v m w : X) (a : A) (e : Stop) → Run u p v a m →
        Stopped u (f a) m e w → Stopped u (bind p f) v e w
    unfolding Run Stopped bind
    stop_then (Ret x) f v m w a e h g = subst (λ z. Stopped u (f z) v e w) h.0
        (subst (λ z. Stopped u (f a) z e w) h.1 g)
    stop_then (Do c k) f v m w a e h g = inr (inr (h.0, h.1, h.2, stop_then (k h.0) f h.1 m w a e h.3 g))

pub some_is : (o : Option Rec) (r : Rec) → o ≡ Some r → unwrap_or o blank ≡ r
some_is o r e = ap (λ o. unwrap_or o blank) e

module _ {S X : Type 0} {u : Sense S X} where
  -- what a look leaves and shows
  pub read_heap : (L : Lawful u) (a : ℕ) (v w : X) (r : Rec) → u.does (Read a) v r w → u.heap w ≡ u.heap v
  read_heap L a v w r d = (L.effect (Read a) v r w d).1

  pub read_at : (L : Lawful u) (a : ℕ) (v w : X) (r : Rec) → u.does (Read a) v r w → at (u.heap v) a ≡ r
  unfolding at
  read_at L a v w r d = some_is (u.heap v a) r (L.effect (Read a) v r w d).0

  pub read_seen : (L : Lawful u) (a : ℕ) (v w : X) (r : Rec) → u.does (Read a) v r w → u.seen a w
  read_seen L a v w r d = L.seen (Read a) v r w a d refl

  -- a second look at a record
  pub again : (L : Lawful u) (a : ℕ) (v m w : X) (r q : Rec) → u.does (Read a) v r m → u.does (Read a) m q w → w ≡ m
  again L a v m w r q d g = L.same a m q w (read_seen L a v m r d) g

  pub not_again : (L : Lawful u) (a : ℕ) (v m w : X) (r : Rec) (e : Stop) → u.does (Read a) v r m →
      u.refuses (Read a) m e w → ⊥
  not_again L a v m w r e d g = L.sure a m e w (read_seen L a v m r d) g

module _ {S A : Type 0} where
  pub safe_asks : (p : Bool) (c : Call S) (k : Reply c → Row S A) (h : Heap) → Safe p (Do c k) h → Asks p c h
  unfolding Safe
  safe_asks p c k h s = s.0

module _ {S X A : Type 0} {u : Sense S X} where
  pub safe_next : (L : Lawful u) (c : Call S) (k : Reply c → Row S A) (v m : X) (r : Reply c) →
      Safe u.partial (Do c k) (u.heap v) → u.does c v r m → Safe u.partial (k r) (u.heap m)
  unfolding Safe
  safe_next L c k v m r s d = s.1 r (u.heap m) (L.effect c v r m d)

module _ {S X A : Type 0} (u : Sense S X) where
  pub meets_ret : (a : A) (v : X) → Meets u (Ret a) v v (Ok a)
  unfolding Meets
  meets_ret a v = run_ret u a v

  pub meets_own : (p : Row S A) (v : X) → Meets u p v v (Err OutOfMemory)
  unfolding Meets
  meets_own p v = own_memory u p v

  pub meets_refused : (c : Call S) (k : Reply c → Row S A) (v w : X) (e : Stop) → u.refuses c v e w →
      Meets u (Do c k) v w (Err e)
  unfolding Meets
  meets_refused c k v w e h = stop_refused u c k v w e h

  pub meets_do : (c : Call S) (k : Reply c → Row S A) (v m w : X) (r : Reply c) (res : Result A Stop) →
      u.does c v r m → Meets u (k r) m w res → Meets u (Do c k) v w res
  unfolding Meets
  meets_do c k v m w r (Ok b) d h = run_do u c k v m w r b d h
  meets_do c k v m w r (Err e) d h = stop_later u c k v m w r e d h

  pub meets_answer : (a : A) (v : X) (res : Result A Stop) → MatchResult res (λ x. x ≡ a) (λ e. e ≡ OutOfMemory) →
      Meets u (Ret a) v v res
  unfolding Meets
  meets_answer a v (Ok x) h = subst (λ y. Run u (Ret a) v y v) (sym h) (run_ret u a v)
  meets_answer a v (Err e) h = subst (λ y. Stopped u (Ret a) v y v) (sym h) (own_memory u (Ret a) v)

-- what a safe row asks after a look at a record
pub asks_after : {S X A : Type 0} {u : Sense S X} (L : Lawful u) (a : ℕ) (k : Rec → Row S A) (v m : X) (r : Rec)
    (c : Call S) (k2 : Reply c → Row S A)
    → Safe u.partial (Do (Read a) k) (u.heap v) → u.does (Read a) v r m → k r ≡ Do c k2 → Asks u.partial c (u.heap m)
asks_after {u = u} L a k v m r c k2 s d e =
    safe_asks u.partial c k2 (u.heap m) (subst (λ q. Safe u.partial q (u.heap m)) e (safe_next L (Read a) k v m r s d))

pub ruleset row_steps = (
  meets_ret,
  meets_own,
  meets_refused,
  meets_do,
  meets_answer,
  read_heap,
  read_at,
  again,
  not_again,
  safe_asks,
  asks_after,
)

-- for operations that look at a record once and change it
pub ruleset change_steps = (meets_ret, meets_own, meets_refused, meets_do, meets_answer, safe_asks, asks_after)
