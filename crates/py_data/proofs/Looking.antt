-- Rows that only look: how what holds of them is put together, and what follows from it.
use Rattle.std.proofs.Common.{◌≡◌, ℕ, true, false, length, Option, Some, None, refl, sym, ap, subst, ◌∙◌}
use Rattle.std.specs.Prelude.{is_some, MatchOption}
use Rattle.py_data.specs.declared.value.Value.{Value}
use Rattle.py_data.specs.Heap.{Rec, Heap, Has, value_at}
use Rattle.py_data.specs.Shape.{Fits, find}
use Rattle.py_data.specs.Row.{Call, Reply, Row, Ret, Do, Read, Find, Edit, Make, Start, Put, Take, MidLine, SetMidLine, bind}
use Rattle.py_data.specs.Sense.{Sense, Lawful, Asks, Effect, Run}
use Rattle.py_data.specs.Order.{Rules}
use Rattle.py_data.specs.Holds.{Tends, Holds}
use Rattle.py_data.specs.Looking.{IsLook, Looks, kind_row, size_row, look_row, bytes_row}
use Rattle.py_data.specs.OrderLaws.{LooksHold, LooksRun, LooksBind}
use Rattle.py_data.proofs.Same.{one_rec}
use Rattle.py_data.proofs.Steps.{at_is}

-- a record that is there may be looked at
pub look_asks : (S : Type 0) (h : Heap) (a : ℕ) → Has h a → Asks {S = S} false (Read a) h
unfolding Asks
look_asks S h a i = by (h a) i
  where
    by : (o : Option Rec) → is_some o ≡ true → MatchOption o (false ≡ true) (λ r. Unit {0})
    by None i = absurd cc
    by (Some r) i = tt

pub looks_ret : (S : Type 0) {A : Type 0} (p : A → Type 0) (a : A) (h : Heap) → p a → Looks {S = S} p (Ret a) h
unfolding Looks
looks_ret S p a h i = i

-- a look leaves the heap
look_stays : {S : Type 0} (c : Call S) → IsLook c → (p : _) (h : Heap) (r : Reply c) (h1 : Heap) → Effect p c h r h1 →
    h1 ≡ h
look_stays (Read a) i p h r h1 e = e.1
look_stays (Find d key) i p h r h1 e = e.2
look_stays (Edit a c) i p h r h1 e = absurd i
look_stays (Make r) i p h n h1 e = absurd i
look_stays (Start s) i p h r h1 e = absurd i
look_stays (Put on bytes) i p h r h1 e = absurd i
look_stays (Take most) i p h r h1 e = absurd i
look_stays MidLine i p h r h1 e = absurd i
look_stays (SetMidLine mid) i p h r h1 e = absurd i

-- and what it answers doesn't depend on how much a view shows
look_whole : {S : Type 0} (c : Call S) → IsLook c → (p : _) (h : Heap) (r : Reply c) (h1 : Heap) → Effect p c h r h1 →
    Effect false c h r h1
look_whole (Read a) i p h r h1 e = e
look_whole (Find d key) i p h r h1 e = (e.0, e.1, e.2, tt)
look_whole (Edit a c) i p h r h1 e = absurd i
look_whole (Make r) i p h n h1 e = absurd i
look_whole (Start s) i p h r h1 e = absurd i
look_whole (Put on bytes) i p h r h1 e = absurd i
look_whole (Take most) i p h r h1 e = absurd i
look_whole MidLine i p h r h1 e = absurd i
look_whole (SetMidLine mid) i p h r h1 e = absurd i

look_tends : {S : Type 0} (rules : Rules) (stands : Heap → S → Type 0) (c : Call S) → IsLook c → (h : Heap) →
    Tends rules stands c h
look_tends rules stands (Read a) i h = tt
look_tends rules stands (Find d key) i h = tt
look_tends rules stands (Edit a c) i h = absurd i
look_tends rules stands (Make r) i h = absurd i
look_tends rules stands (Start s) i h = absurd i
look_tends rules stands (Put on bytes) i h = absurd i
look_tends rules stands (Take most) i h = absurd i
look_tends rules stands MidLine i h = absurd i
look_tends rules stands (SetMidLine mid) i h = absurd i

module _ {S A : Type 0} where
  pub looks_read : (p : A → Type 0) (a : ℕ) (k : Rec → Row S A) (h : Heap) (r : Rec) → h a ≡ Some r → Looks p (k r) h →
      Looks p (Do (Read a) k) h
  unfolding Looks
  looks_read p a k h r e i = (
    tt,
    look_asks S h a (ap is_some e),
    λ q f.
        subst (λ z. Looks p (k z) h) (one_rec (h a) q r f.0 e) i,
  )

  pub looks_find : (p : A → Type 0) (d : ℕ) (key : Value) (k : Option ℕ → Row S A) (h : Heap) (r : Rec) →
      h d ≡ Some r → Fits h r key → Looks p (k (find h r.values key)) h → Looks p (Do (Find d key) k) h
  unfolding Looks Asks
  looks_find p d key k h r e f i = (
    tt,
    subst (λ o. MatchOption o (false ≡ true) (λ r. Fits h r key)) (sym e) f,
    λ o g.
        subst (λ z. Looks p (k z) h) (sym (g.1 ∙ ap (λ z. find h z.values key) (at_is h d r e))) i,
  )

  pub looks_weaken : (p q : A → Type 0) → ((a : A) → p a → q a) → (row : Row S A) (h : Heap) → Looks p row h →
      Looks q row h
  unfolding Looks
  looks_weaken p q f (Ret a) h i = f a i
  looks_weaken p q f (Do c k) h i = (i.0, i.1, λ r e. looks_weaken p q f (k r) h (i.2 r e))

  pub looks_then : {B : Type 0} (p : A → Type 0) (q : B → Type 0) (row : Row S A) (f : A → Row S B) (h : Heap) →
      Looks p row h → ((a : A) → p a → Looks q (f a) h) → Looks q (bind row f) h
  unfolding Looks bind
  looks_then p q (Ret a) f h i n = n a i
  looks_then p q (Do c k) f h i n = (i.0, i.1, λ r e. looks_then p q (k r) f h (i.2 r e) n)

  pub looks_bind : {B : Type 0} (p : A → Heap → Type 0) (q : B → Heap → Type 0) → LooksBind S p q
  looks_bind p q row f h i n = looks_then (λ a. p a h) (λ b. q b h) row f h i n

  module _ (rules : Rules) (stands : Heap → S → Type 0) (p : A → Type 0) (h : Heap) where
    from : (row : Row S A) (g : Heap) → g ≡ h → Looks p row h → Holds rules stands (λ a h1. (h1 ≡ h) × p a) row g
    unfolding Looks Holds
    from (Ret a) g e i = (e, i)
    from (Do c k) g e i = (
      subst (λ z. Asks false c z) (sym e) i.1,
      look_tends rules stands c i.0 g,
      λ r h1 f order x.
          let same = look_stays c i.0 false g r h1 f ∙ e in
          from (k r) h1 same (i.2 r (subst (λ z. Effect false c h r z) same (subst (λ z. Effect false c z r h1) e f))),
    )

    -- it holds as any row does: for all rules, and whatever states may stand
    pub looks_held : (row : Row S A) → Looks p row h → Holds rules stands (λ a h1. (h1 ≡ h) × p a) row h
    looks_held row i = from row h refl i

  pub looks_hold : (rules : Rules) (stands : Heap → S → Type 0) (p : A → Heap → Type 0) → LooksHold rules stands p
  looks_hold rules stands p row h i = looks_held rules stands (λ a. p a h) h row i

module _ {S X : Type 0} (u : Sense S X) (L : Lawful u) {A : Type 0} where
  ran_from : (p : A → Type 0) (h : Heap) (row : Row S A) (v w : X) (y : A) → u.heap v ≡ h → Looks p row h →
      Run u row v y w → p y × (u.heap w ≡ h)
  unfolding Looks Run
  ran_from p h (Ret a) v w y e i r = (subst p (sym r.0) i, ap u.heap r.1 ∙ e)
  ran_from p h (Do c k) v w y e i r =
      let f = L.effect c v r.0 r.1 r.2 in
      let same = look_stays c i.0 u.partial (u.heap v) r.0 (u.heap r.1) f ∙ e in
      let whole = look_whole c i.0 u.partial (u.heap v) r.0 (u.heap r.1) f in
      ran_from p h (k r.0) r.1 w y same (i.2 r.0
      (subst (λ z. Effect false c h r.0 z) same (subst (λ z. Effect false c z r.0 (u.heap r.1)) e whole))) r.3

  pub looks_run : (p : A → Heap → Type 0) → LooksRun u p
  looks_run p row v w y i r = ran_from (λ a. p a (u.heap v)) (u.heap v) row v w y refl i r

-- a record that is there
pub some_of : (o : Option Rec) → is_some o ≡ true → (r : Rec) × (o ≡ Some r)
some_of None e = absurd (let q : false ≡ true = e in cc)
some_of (Some r) e = (r, refl)

-- ---- looks at one record
module _ (S : Type 0) (h : Heap) (a : ℕ) (r : Rec) (e : h a ≡ Some r) where
  pub kind_looks : Looks {S = S} (λ k. k ≡ r.kind) (kind_row a) h
  unfolding kind_row
  kind_looks = looks_read (λ k. k ≡ r.kind) a (λ r. Ret r.kind) h r e (looks_ret S (λ k. k ≡ r.kind) r.kind h refl)

  pub size_looks : Looks {S = S} (λ n. n ≡ length r.values) (size_row a) h
  unfolding size_row
  size_looks = looks_read (λ n. n ≡ length r.values) a (λ r. Ret (length r.values)) h r e
      (looks_ret S (λ n. n ≡ length r.values) (length r.values) h refl)

  pub look_looks : (i : ℕ) → Looks {S = S} (λ x. x ≡ value_at r.values i) (look_row a i) h
  unfolding look_row
  look_looks i = looks_read (λ x. x ≡ value_at r.values i) a (λ r. Ret (value_at r.values i)) h r e
      (looks_ret S (λ x. x ≡ value_at r.values i) (value_at r.values i) h refl)

  pub bytes_looks : Looks {S = S} (λ bs. bs ≡ r.bytes) (bytes_row a) h
  unfolding bytes_row
  bytes_looks = looks_read (λ bs. bs ≡ r.bytes) a (λ r. Ret r.bytes) h r e
      (looks_ret S (λ bs. bs ≡ r.bytes) r.bytes h refl)
