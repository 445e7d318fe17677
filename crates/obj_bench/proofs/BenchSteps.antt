-- What an operation leaves over a view whose heap is in order.
use Rattle.std.proofs.Common.{arith, ◌≡◌, ℕ, ℤ, ◌<◌, Bool, true, false, Option, None, Some, List, [], ◌∷◌, ◌++◌, length, remove, take, Ok, refl, sym, ap, subst, ◌∙◌}
use Rattle.std.specs.Prelude.{slice_index_or, is_some}
use Rattle.py_data.specs.declared.value.Addr.{Addr}
use Rattle.py_data.specs.declared.value.Value.{Value}
use Rattle.py_data.specs.declared.value.Value.TheVariants.{Unset, Int, Ref}
use Rattle.py_base.specs.declared.kind.Kind.{Kind}
use Rattle.py_base.specs.declared.kind.Kind.TheVariants.{Dict, Cell, Function, Class, Range}
use Rattle.py_data.specs.Range.{IsRange}
use Rattle.py_data.specs.Shape.{KindIn}
use Rattle.py_data.specs.Every.{Every}
use Rattle.py_data.specs.Heap.{Heap, Rec, at, new_rec}
use Rattle.py_data.specs.Closed.{IsItem}
use Rattle.py_data.specs.Order.{AreLasting, IsOrdered, FitsAt}
use Rattle.py_data.specs.Holds.{Holds}
use Rattle.py_data.specs.Looking.{Looks, bytes_row}
use Rattle.py_data.specs.Row.{Row, Ret, Do, Read, Make}
use Rattle.py_data.specs.Sense.{Sense, Lawful, Asks, IsLive, Safe, Meets, ShownOf}
use Rattle.py_data.proofs.EveryLemmas.{every_and, every_less, every_take}
use Rattle.py_data.proofs.Holding.{holds_ret, holds_safe, holds_run}
use Rattle.py_data.proofs.HoldingCalls.{holds_make}
use Rattle.py_data.proofs.Making.{made_fits}
use Rattle.py_data.proofs.Rows.{meets_ret, meets_do}
use Rattle.py_data.proofs.ItemLemmas.{item_at, items_stay}
use Rattle.py_data.proofs.Looking.{look_asks, looks_held, looks_weaken, bytes_looks}
use Rattle.py_data.proofs.Steps.{live_after}
use Rattle.obj_class.specs.NewRoots.{roots_row}
use Rattle.obj_class.specs.Roots.{IsRoots}
use Rattle.obj_class.proofs.RootsHold.{roots_hold}
use Rattle.obj_class.proofs.RootsKept.{roots_stay}
use Rattle.obj_bench.specs.Bench.{free, any_state, Good, GoodWith, Ready}

last : AreLasting free
last = record { function = λ h h1 vs x f. tt }

shown : (p : Bool) (h : Heap) → p ≡ false → ShownOf p h h
shown p h e = subst (λ b. ShownOf b h h) (sym e) refl

module _ {S X : Type 0} {u : Sense S X} {roots : ℕ} {stack : List Value} {v : X} where
  -- a value of the stack stands in the heap
  pub good_item : (i : ℕ) (x : Value) → i < length stack → ((d : Value) → x ≡ slice_index_or stack i d) →
      Good u roots stack v → IsItem (u.heap v) x
  good_item i x less e g = subst (IsItem (u.heap v)) (sym (e Unset)) (item_at (u.heap v) stack i less g.items)

  module _ {A : Type 0} (p : A → Heap → Type 0) (row : Row S A) (good : Good u roots stack v)
      (holds : Holds free any_state p row (u.heap v)) where
    pub good_safe : Safe u.partial row (u.heap v)
    good_safe = holds_safe free any_state last p u.partial row (u.heap v) (u.heap v)
        (shown u.partial (u.heap v) good.whole) good.order holds

    pub good_done : (L : Lawful u) (w : X) (y : A) → Meets u row v w (Ok y) → GoodWith u roots p stack y w
    unfolding Meets
    good_done L w y m =
        let r = holds_run free any_state last u L p good.whole row v w y holds good.order m in
        record {
          good = record {
            whole = good.whole;
            live = live_after u L row v w y m good.live;
            order = r.1;
            listed =
                roots_stay (u.heap v) (u.heap w) roots r.2 good.listed;
            items =
                items_stay (u.heap v) (u.heap w) r.2 stack good.items;
          };
          answer = r.0;
        }

  -- a row that only looks
  module _ {A : Type 0} (p : A → Type 0) (row : Row S A) (good : Good u roots stack v) (looks : Looks p row (u.heap v))
    where
      pub look_safe : Safe u.partial row (u.heap v)
      look_safe = good_safe (λ a h1. (h1 ≡ u.heap v) × p a) row good (looks_held free any_state p (u.heap v) row looks)

      pub look_done : (L : Lawful u) (w : X) (y : A) → Meets u row v w (Ok y) → Good u roots stack w
      look_done L w y m = let d = good_done (λ a h1. (h1 ≡ u.heap v) × p a) row good
          (looks_held free any_state p (u.heap v) row looks) L w y m in d.good

  -- a further value, and the first ones
  pub good_push : (x : Value) → GoodWith u roots (λ x h. IsItem h x) stack x v → Good u roots (stack ++ x ∷ []) v
  good_push x g = record {
    whole = g.good.whole;
    live = g.good.live;
    order = g.good.order;
    listed = g.good.listed;
    items = every_and (IsItem (u.heap v)) stack (x ∷ []) g.good.items (g.answer, tt);
  }

  pub good_less : (n : ℕ) → Good u roots stack v → Good u roots (remove stack n) v
  good_less n g = record {
    whole = g.whole;
    live = g.live;
    order = g.order;
    listed = g.listed;
    items =
        every_less (IsItem (u.heap v)) stack n g.items;
  }

  pub good_take : (n : ℕ) → Good u roots stack v → Good u roots (take n stack) v
  good_take n g = record {
    whole = g.whole;
    live = g.live;
    order = g.order;
    listed = g.listed;
    items =
        every_take (IsItem (u.heap v)) stack n g.items;
  }

  -- a value that was made, once the values above a place are gone
  pub good_cut : (p : Value → Heap → Type 0) (x : Value) (n : ℕ) (taken : List Value) → taken ≡ take n stack →
      GoodWith u roots p stack x v → GoodWith u roots p taken x v
  good_cut p x n taken e g = subst (λ s. GoodWith u roots p s x v) (sym e)
      (record { good = good_take n g.good; answer = g.answer })

kind_there : (o : Option Rec) (p : Kind → Type 0) → KindIn o p → is_some o ≡ true
kind_there None p i = absurd i
kind_there (Some r) p i = refl

module _ {S X : Type 0} {u : Sense S X} {roots : ℕ} {stack : List Value} {v : X} (good : Good u roots stack v) (a : ℕ)
  where
    -- a record that is there may be looked at
    pub good_asks : IsItem (u.heap v) (Ref (record { 0 = a })) → Asks {S = S} u.partial (Read a) (u.heap v)
    good_asks i = subst (λ p. Asks {S = S} p (Read a) (u.heap v)) (sym good.whole) (look_asks S (u.heap v) a i.0)

    -- and so may one whose kind is known
    pub kind_asks : (p : Kind → Type 0) → KindIn (u.heap v a) p → Asks {S = S} u.partial (Read a) (u.heap v)
    kind_asks p i = subst (λ q. Asks {S = S} q (Read a) (u.heap v)) (sym good.whole)
        (look_asks S (u.heap v) a (kind_there (u.heap v a) p i))

    -- its bytes are a look
    pub bytes_look : (p : Kind → Type 0) → KindIn (u.heap v a) p →
        Looks {S = S} (λ bs. Unit {0}) (bytes_row a) (u.heap v)
    bytes_look p i = by (u.heap v a) refl i
      where
        by : (o : Option Rec) → u.heap v a ≡ o → KindIn o p → Looks {S = S} (λ bs. Unit {0}) (bytes_row a) (u.heap v)
        by None e i = absurd i
        by (Some r) e i = looks_weaken (λ bs. bs ≡ r.bytes) (λ bs. Unit {0}) (λ bs f. tt) (bytes_row a) (u.heap v)
            (bytes_looks S (u.heap v) a r e)

    -- a look leaves all as it is
    pub good_looked : (L : Lawful u) (w : X) (r : Rec) → u.does (Read a) v r w → Good u roots stack w
    good_looked L w r d =
        let e = (L.effect (Read a) v r w d).1 in
        record {
          whole = good.whole;
          live = L.live (Read a) v r w d;
          order = subst (IsOrdered free) (sym e) good.order;
          listed = subst (λ h. IsRoots h roots) (sym e) good.listed;
          items =
              subst (λ h. Every (IsItem h) stack) (sym e) good.items;
        }

    pub kind_seen : (L : Lawful u) (w : X) (k : Kind) → u.does (Read a) v (at (u.heap v) a) w →
        k ≡ (at (u.heap v) a).kind → KindIn (u.heap w a) (λ q. q ≡ k)
    kind_seen L w k d e =
        let f = L.effect (Read a) v (at (u.heap v) a) w d in
        subst (λ o. KindIn o (λ q. q ≡ k)) (sym (ap (λ h. h a) f.1 ∙ f.0)) (sym e)

-- ---- records that are made
module _ {S X : Type 0} {u : Sense S X} {roots : ℕ} {stack : List Value} {v : X} (good : Good u roots stack v)
    (r : Rec) (fits : (a : ℕ) → FitsAt free (u.heap v) a r) where
  pub good_makes : Asks {S = S} u.partial (Make r) (u.heap v)
  unfolding Asks
  good_makes = let one = fits 0 in subst (λ p. Asks {S = S} p (Make r) (u.heap v)) (sym good.whole)
      (one.closed.shaped, one.short.0, one.short.1)

  pub good_made : (L : Lawful u) (w : X) (a : ℕ) → u.does (Make r) v a w →
      GoodWith u roots (λ x h. IsItem h x) stack (Ref (record { 0 = a })) w
  good_made L w a d =
      let row : Row S Value = Do (Make r) (λ a. Ret (Ref (record { 0 = a }))) in
      good_done (λ x h. IsItem h x) row good
      (holds_make free any_state (λ x h. IsItem h x) r (λ a. Ret (Ref (record { 0 = a }))) (u.heap v) fits
      (λ a h1 order x e i. holds_ret free any_state (λ x h. IsItem h x) (Ref (record { 0 = a })) h1 i)) L w
      (Ref (record { 0 = a }))
      (meets_do u (Make r) (λ a. Ret (Ref (record { 0 = a }))) v w w a (Ok (Ref (record { 0 = a }))) d
      (meets_ret u (Ref (record { 0 = a })) w))

-- an empty dictionary, and a range
pub dict_fits : (h : Heap) (a : ℕ) → FitsAt free h a (new_rec Dict [] [])
dict_fits h a =
    made_fits free h a Dict [] [] (λ e. let z : Dict ≡ Class = e in cc) (λ e. let z : Dict ≡ Function = e in cc)
    (λ e. let z : Dict ≡ Cell = e in cc) tt (tt, tt) refl (omega arith) (omega arith)

pub range_fits : (h : Heap) (a : ℕ) (start stop step : ℤ) → IsRange (Int start ∷ Int stop ∷ Int step ∷ []) →
    FitsAt free h a (new_rec Range (Int start ∷ Int stop ∷ Int step ∷ []) [])
range_fits h a start stop step i =
    made_fits free h a Range (Int start ∷ Int stop ∷ Int step ∷ []) [] (λ e. let z : Range ≡ Class = e in cc)
    (λ e. let z : Range ≡ Function = e in cc) (λ e. let z : Range ≡ Cell = e in cc) (
      (tt, λ e. let z : Int start ≡ Unset = e in cc),
      ((tt, λ e. let z : Int stop ≡ Unset = e in cc), ((tt, λ e. let z : Int step ≡ Unset = e in cc), tt)),
    ) i refl
    (omega arith) (omega arith)

-- an empty heap is in order
empty_order : (h : Heap) → ((a : ℕ) → h a ≡ None) → IsOrdered free h
empty_order h e = record { each = λ a r f. let no : ◌≡◌ {A = Option Rec} None (Some r) = sym (e a) ∙ f in absurd cc }

module _ {S X : Type 0} (u : Sense S X) (v : X) where
  pub ready_empty : u.partial ≡ false → IsLive u v → u.heap v ≡ (λ a. None) → Ready u v
  ready_empty whole live e = record {
    whole = whole;
    live = live;
    order =
        empty_order (u.heap v) (λ a. ap (λ h. h a) e);
  }

-- the list of roots is made
module _ {S X : Type 0} {u : Sense S X} {v : X} (ready : Ready u v) where
  abbrev AreRoots : Addr → Heap → Type 0
  AreRoots a h = IsRoots h a.0

  pub roots_safe : Safe u.partial (roots_row {S = S}) (u.heap v)
  roots_safe = holds_safe free any_state last AreRoots u.partial roots_row (u.heap v) (u.heap v)
      (shown u.partial (u.heap v) ready.whole) ready.order (roots_hold free any_state (u.heap v) ready.order (λ a. tt))

  pub roots_done : (L : Lawful u) (w : X) (a : Addr) → Meets u roots_row v w (Ok a) → Good u a.0 [] w
  unfolding Meets
  roots_done L w a m =
      let r = holds_run free any_state last u L AreRoots ready.whole roots_row v w a
      (roots_hold free any_state (u.heap v) ready.order (λ a. tt)) ready.order m in
      record {
        whole = ready.whole;
        live = live_after u L roots_row v w a m ready.live;
        order = r.1;
        listed = r.0;
        items = tt;
      }
