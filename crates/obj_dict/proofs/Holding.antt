-- Over each heap in order the operations on a dictionary hold.
use Rattle.std.proofs.Common.{arith, ◌≡◌, ℕ, ◌+◌, ◌*◌, ◌<◌, ◌≤◌, Bool, true, false, cond, ltb, List, [], ◌∷◌, ◌++◌, length, Option, Some, None, refl, sym, ap, subst, ◌∙◌, lit<, length-append}
use Rattle.std.specs.Prelude.{is_some}
use Rattle.std.proofs.lemmas.Bool.{ltb-true}
use Rattle.py_base.specs.declared.kind.Kind.TheVariants.{List as ListKind, Tuple, Dict, Cell}
use Rattle.py_data.specs.declared.value.Value.{Value}
use Rattle.py_data.specs.declared.value.Value.TheVariants.{Unset, None as NoneValue, Bool as BoolValue, Int, Ref, Builtin}
use Rattle.py_data.specs.declared.change.Change.TheVariants as change
use Rattle.py_data.specs.declared.record.Got.{Got}
use Rattle.py_data.specs.declared.record.Got.TheVariants.{Is, Raise}
use Rattle.py_data.specs.declared.record.TheConstants.{LENGTH_LIMIT}
use Rattle.py_data.specs.Every.{Every}
use Rattle.py_data.specs.Fault.{hash_fault, key_fault, memory_fault}
use Rattle.py_data.specs.Heap.{Rec, Heap, is_tracked, value_at, new_rec}
use Rattle.py_data.specs.Shape.{IsKey, KindIn, find, is_key_kind}
use Rattle.py_data.specs.Changes.{IsValuePlace}
use Rattle.py_data.specs.Closed.{IsItem}
use Rattle.py_data.specs.Row.{Row, Ret, Do, Read, Find, Edit, bind}
use Rattle.py_data.specs.Order.{Rules, IsOrdered, MayPut}
use Rattle.py_data.specs.Holds.{Holds}
use Rattle.py_data.specs.Looking.{Looks}
use Rattle.py_data.specs.Answers.{IsGot, IfItem, IsAnswer, IsDone}
use Rattle.py_data.proofs.EveryLemmas.{every_and}
use Rattle.py_data.proofs.Holding.{holds_ret, holds_bind}
use Rattle.py_data.proofs.HoldingCalls.{pairs_of, holds_read, holds_find, holds_edit, holds_make, holds_looks}
use Rattle.py_data.proofs.ItemLemmas.{item_at, item_stays, items_stay, fit_items}
use Rattle.py_data.proofs.Looking.{looks_ret, looks_read}
use Rattle.py_data.proofs.Making.{sequence_fits}
use Rattle.obj_dict.specs.declared.listing.Part.{Part}
use Rattle.obj_dict.specs.declared.listing.Part.TheVariants.{Keys, Values, Items}
use Rattle.obj_dict.specs.Dict.{key_row, if_key, value_of_pair, get_row, push_at, set_pair, set_row, drop_found, del_row}
use Rattle.obj_dict.specs.Listing.{half, list_row, tuples_row, half_row, pairs_row, list_of_row}
use Rattle.obj_dict.specs.HoldsLaws.{IsDictAt, DictHolds}
use Rattle.obj_dict.proofs.FindSteps.{within}

-- the dictionary at an address of a heap in order
record At (h : Heap) (d : ℕ) : Type 0 where
  rec : Rec
  here : h d ≡ Some rec
  kind : rec.kind ≡ Dict
  items : Every (IsItem h) rec.values
  short : length rec.values ≤ LENGTH_LIMIT

at_of : (rules : Rules) (h : Heap) (d : ℕ) → IsOrdered rules h → IsDictAt h d → At h d
at_of rules h d order i = by (h d) refl i
  where
    by : (o : Option Rec) → h d ≡ o → KindIn o (λ k. k ≡ Dict) → At h d
    by None e i = absurd i
    by (Some r) e i =
        let fit = order.each d r e in
        record {
          rec = r;
          here = e;
          kind = i;
          items =
              fit_items rules h d r fit (λ c. let z : Dict ≡ Cell = sym i ∙ c in cc);
          short = fit.short.0;
        }

-- ---- the parts of a dictionary
half_every : (P : Value → Type 0) (second : Bool) (vs : List Value) → Every P vs → Every P (half second vs)
half_every P second [] i = tt
half_every P second (k ∷ []) i = tt
half_every P true (k ∷ x ∷ rest) i = (i.1.0, half_every P true rest i.1.1)
half_every P false (k ∷ x ∷ rest) i = (i.0, half_every P false rest i.1.1)

half_short : (second : Bool) (vs : List Value) → length (half second vs) ≤ length vs
half_short second [] = omega arith
half_short second (k ∷ []) = omega arith
half_short second (k ∷ x ∷ rest) = let l = half_short second rest in omega arith

module _ {S : Type 0} (rules : Rules) (stands : Heap → S → Type 0) where
  -- ---- keys
  -- whether a value can be a key is looked up; where it can, it is one
  key_looks : (key : Value) (h : Heap) → IsItem h key → Looks {S = S} (λ b. b ≡ true → IsKey h key) (key_row key) h
  unfolding key_row
  key_looks (Ref a) h i = by (h a.0) refl
    where
      by : (o : Option Rec) → h a.0 ≡ o → Looks {S = S} (λ b. b ≡ true → KindIn (h a.0) (λ k. is_key_kind k ≡ true))
          (Do (Read a.0) (λ r. Ret (is_key_kind r.kind))) h
      by None e = absurd (let z : false ≡ true = sym (ap is_some e) ∙ i.0 in cc)
      by (Some r) e =
          let key : Bool → Type 0 = λ b. b ≡ true → KindIn (h a.0) (λ k. is_key_kind k ≡ true) in
          looks_read key a.0 (λ r. Ret (is_key_kind r.kind)) h r e
          (looks_ret S key (is_key_kind r.kind) h
          (λ t. subst (λ o. KindIn o (λ k. is_key_kind k ≡ true)) (sym e) t))
  key_looks Unset h i = looks_ret S (λ b. b ≡ true → IsKey h Unset) false h (λ t. absurd cc)
  key_looks NoneValue h i = looks_ret S (λ b. b ≡ true → IsKey h NoneValue) true h (λ t. tt)
  key_looks (BoolValue b) h i = looks_ret S (λ c. c ≡ true → IsKey h (BoolValue b)) true h (λ t. tt)
  key_looks (Int n) h i = looks_ret S (λ b. b ≡ true → IsKey h (Int n)) true h (λ t. tt)
  key_looks (Builtin n) h i = looks_ret S (λ b. b ≡ true → IsKey h (Builtin n)) true h (λ t. tt)

  -- a row for a key, where it can be one
  keyed_holds : {A : Type 0} (p : A → Heap → Type 0) (rest : Row S (Got A)) (key : Value) (h : Heap) →
      IsOrdered rules h → IsItem h key
      → (IsKey h key → Holds rules stands (IsGot p) rest h) →
      Holds rules stands (IsGot p) (bind (key_row key) (if_key rest)) h
  unfolding if_key
  keyed_holds p rest key h order i n = holds_looks rules stands (IsGot p) (λ b. b ≡ true → IsKey h key) (key_row key)
      (if_key rest) h order (key_looks key h i) by
    where
      by : (b : Bool) → (b ≡ true → IsKey h key) → Holds rules stands (IsGot p) (if_key rest b) h
      by true k = n (k refl)
      by false k = holds_ret rules stands (IsGot p) (Raise hash_fault) h (lit< tt, lit< tt, tt)

  -- a key is looked for in the dictionary at an address
  found_holds : {A : Type 0} (p : A → Heap → Type 0) (d : ℕ) (key : Value) (k : Option ℕ → Row S (Got A)) (h : Heap) →
      IsOrdered rules h → IsItem h key → (a : At h d)
      → ((o : Option ℕ) → find h a.rec.values key ≡ o → IsKey h key → Holds rules stands (IsGot p) (k o) h) →
      Holds rules stands (IsGot p) (bind (key_row key) (if_key (Do (Find d key) k))) h
  found_holds p d key k h order i a n =
      keyed_holds p (Do (Find d key) k) key h order i
      (λ is. holds_find rules stands (IsGot p) d key k h a.rec order a.here a.kind is
      (n (find h a.rec.values key) refl is))

  -- ---- get
  value_holds : (d : ℕ) (key : Value) (h : Heap) (a : At h d) (o : Option ℕ) → find h a.rec.values key ≡ o →
      Holds rules stands (IsGot IfItem) (value_of_pair {S = S} d o) h
  unfolding value_of_pair
  value_holds d key h a None f = holds_ret rules stands (IsGot IfItem) (Is None) h tt
  value_holds d key h a (Some i) f =
      let w = within h a.rec.values key 0 i f in
      let less : 2 * i + 1 < length a.rec.values = let l = w.1 in omega arith in
      holds_read rules stands (IsGot IfItem) d (λ r. Ret (Is (Some (value_at r.values (2 * i + 1))))) h a.rec a.here
      (holds_ret rules stands (IsGot IfItem) (Is (Some (value_at a.rec.values (2 * i + 1)))) h
      (item_at h a.rec.values (2 * i + 1) less a.items))

  get_holds : (h : Heap) (d : ℕ) (key : Value) → IsOrdered rules h → IsDictAt h d → IsItem h key →
      Holds rules stands (IsGot IfItem) (get_row d key) h
  unfolding get_row
  get_holds h d key order dict i = let a = at_of rules h d order dict in
      found_holds IfItem d key (value_of_pair d) h order i a (λ o f k. value_holds d key h a o f)

  -- ---- set
  pushed_holds : (d : ℕ) (key x : Value) (h : Heap) → IsOrdered rules h → (a : At h d) → IsKey h key → IsItem h key →
      IsItem h x → find h a.rec.values key ≡ None
      → Holds rules stands IsDone (push_at {S = S} d key x a.rec) h
  pushed_holds d key x h order a k ik ix f = by (ltb (length a.rec.values + 1) LENGTH_LIMIT) refl
    where
      by : (b : Bool) → ltb (length a.rec.values + 1) LENGTH_LIMIT ≡ b →
          Holds rules stands IsDone (cond b (Do (Edit d (change.Pair key x)) (λ _. Ret (Is tt)))
          (Ret (Raise memory_fault))) h
      by true t =
          let less = ltb-true (length a.rec.values + 1) LENGTH_LIMIT t in
          holds_edit rules stands IsDone d (change.Pair key x) (λ _. Ret (Is tt)) h a.rec order a.here (a.kind, less)
          ((a.kind, k, pairs_of rules h d a.rec order a.here a.kind), f) (ik, ix)
          (λ h1 order1 x1 e. holds_ret rules stands IsDone (Is tt) h1 tt)
      by false t = holds_ret rules stands IsDone (Raise memory_fault) h (lit< tt, lit< tt, tt)

  pair_holds : (d : ℕ) (key x : Value) (h : Heap) → IsOrdered rules h → (a : At h d) → IsItem h key → IsItem h x →
      (o : Option ℕ) → find h a.rec.values key ≡ o → IsKey h key
      → Holds rules stands IsDone (set_pair {S = S} d key x o) h
  unfolding set_pair
  pair_holds d key x h order a ik ix None f k = holds_read rules stands IsDone d (push_at d key x) h a.rec a.here
      (pushed_holds d key x h order a k ik ix f)
  pair_holds d key x h order a ik ix (Some i) f k =
      let w = within h a.rec.values key 0 i f in
      let less : 2 * i + 1 < length a.rec.values = let l = w.1 in omega arith in
      holds_edit rules stands IsDone d (change.Set (2 * i + 1) x) (λ _. Ret (Is tt)) h a.rec order a.here
      (ap is_tracked a.kind, less) (subst (λ z. IsValuePlace z (2 * i + 1)) (sym a.kind) (i, refl))
      (subst (λ z. MayPut rules h d z (2 * i + 1) x) (sym a.kind) ix)
      (λ h1 order1 x1 e. holds_ret rules stands IsDone (Is tt) h1 tt)

  set_holds : (h : Heap) (d : ℕ) (key x : Value) → IsOrdered rules h → IsDictAt h d → IsItem h key → IsItem h x →
      Holds rules stands IsDone (set_row d key x) h
  unfolding set_row
  set_holds h d key x order dict ik ix = let a = at_of rules h d order dict in
      found_holds (λ u h. Unit {0}) d key (set_pair d key x) h order ik a (pair_holds d key x h order a ik ix)

  -- ---- del
  dropped_holds : (d : ℕ) (key : Value) (h : Heap) → IsOrdered rules h → (a : At h d) → IsItem h key → (o : Option ℕ) →
      find h a.rec.values key ≡ o → Holds rules stands IsAnswer (drop_found {S = S} d key o) h
  unfolding drop_found
  dropped_holds d key h order a ik None f = holds_ret rules stands IsAnswer (Raise (key_fault key)) h
      (lit< tt, lit< tt, ik)
  dropped_holds d key h order a ik (Some i) f =
      let w = within h a.rec.values key 0 i f in
      let less : 2 * i + 1 < length a.rec.values = let l = w.1 in omega arith in
      let item = item_at h a.rec.values (2 * i + 1) less a.items in
      holds_read rules stands IsAnswer d
      (λ r. Do (Edit d (change.Unpair i)) (λ _. Ret (Is (value_at r.values (2 * i + 1))))) h a.rec a.here
      (holds_edit rules stands IsAnswer d (change.Unpair i) (λ _. Ret (Is (value_at a.rec.values (2 * i + 1)))) h a.rec
      order a.here (a.kind, less) tt tt
      (λ h1 order1 x1 e. holds_ret rules stands IsAnswer (Is (value_at a.rec.values (2 * i + 1))) h1
      (item_stays h h1 x1 (value_at a.rec.values (2 * i + 1)) item)))

  del_holds : (h : Heap) (d : ℕ) (key : Value) → IsOrdered rules h → IsDictAt h d → IsItem h key →
      Holds rules stands IsAnswer (del_row d key) h
  unfolding del_row
  del_holds h d key order dict ik =
      let a = at_of rules h d order dict in found_holds (λ v h. IsItem h v) d key (drop_found d key) h order ik a
      (λ o f k. dropped_holds d key h order a ik o f)

  -- ---- lists
  made_holds : (items : List Value) (h : Heap) → Every (IsItem h) items → length items ≤ LENGTH_LIMIT →
      Holds rules stands IsAnswer (list_row {S = S} items) h
  made_holds items h i l =
      let row : ℕ → Row S (Got Value) = λ b. Ret (Is (Ref (record { 0 = b }))) in
      holds_make rules stands IsAnswer (new_rec ListKind items []) row h
      (λ a. sequence_fits rules h a ListKind items tt i l)
      (λ a h1 order x e item. holds_ret rules stands IsAnswer (Is (Ref (record { 0 = a }))) h1 item)

  half_holds : (h : Heap) (d : ℕ) (second : Bool) → IsOrdered rules h → IsDictAt h d →
      Holds rules stands IsAnswer (bind (half_row d second) list_row) h
  half_holds h d second order dict =
      let a = at_of rules h d order dict in
      let items = half second a.rec.values in
      let is : List Value → Type 0 = λ vs. vs ≡ items in
      holds_looks rules stands IsAnswer is (half_row d second) list_row h order
      (looks_read is d (λ r. Ret (half second r.values)) h a.rec a.here (looks_ret S is items h refl))
      (λ vs e. subst (λ l. Holds rules stands IsAnswer (list_row {S = S} l) h) (sym e)
      (made_holds items h (half_every (IsItem h) second a.rec.values a.items)
      (let l = half_short second a.rec.values in let m = a.short in omega arith)))

  -- as many items as a list may have
  abbrev AreItems : List Value → Heap → Type 0
  AreItems vs h = Every (IsItem h) vs × (length vs ≤ LENGTH_LIMIT)

  tuples_hold : (made vs : List Value) (h : Heap) → IsOrdered rules h → Every (IsItem h) made → Every (IsItem h) vs →
      length made + length vs ≤ LENGTH_LIMIT → Holds rules stands AreItems (tuples_row {S = S} made vs) h
  unfolding tuples_row
  tuples_hold made [] h order i j l = holds_ret rules stands AreItems made h (i, omega arith)
  tuples_hold made (k ∷ []) h order i j l = holds_ret rules stands AreItems made h (i, omega arith)
  tuples_hold made (k ∷ x ∷ rest) h order i j l =
      let row : ℕ → Row S (List Value) = λ b. tuples_row (made ++ Ref (record { 0 = b }) ∷ []) rest in
      holds_make rules stands AreItems (new_rec Tuple (k ∷ x ∷ []) []) row h
      (λ a. sequence_fits rules h a Tuple (k ∷ x ∷ []) tt (j.0, (j.1.0, tt)) (omega arith))
      (λ a h1 order1 y e item.
      tuples_hold (made ++ Ref (record { 0 = a }) ∷ []) rest h1 order1
      (every_and (IsItem h1) made (Ref (record { 0 = a }) ∷ []) (items_stay h h1 y made i) (item, tt))
      (items_stay h h1 y rest j.1.1)
      (omega (arith, l, length-append made (Ref (record { 0 = a }) ∷ []))))

  items_hold : (h : Heap) (d : ℕ) → IsOrdered rules h → IsDictAt h d →
      Holds rules stands IsAnswer (bind (pairs_row d) list_row) h
  items_hold h d order dict =
      let a = at_of rules h d order dict in
      holds_bind rules stands AreItems IsAnswer (pairs_row d) list_row h order
      (holds_read rules stands AreItems d (λ r. tuples_row [] r.values) h a.rec a.here
      (tuples_hold [] a.rec.values h order tt a.items (let l = a.short in omega arith)))
      (λ vs h1 order1 x i. made_holds vs h1 i.0 i.1)

  list_holds : (h : Heap) (d : ℕ) (part : Part) → IsOrdered rules h → IsDictAt h d →
      Holds rules stands IsAnswer (list_of_row d part) h
  unfolding list_of_row
  list_holds h d Keys order dict = half_holds h d false order dict
  list_holds h d Values order dict = half_holds h d true order dict
  list_holds h d Items order dict = items_hold h d order dict

  pub dict_holds : DictHolds rules stands
  dict_holds = record { get = get_holds; set = set_holds; del = del_holds; list_of = list_holds }
