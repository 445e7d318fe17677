-- Over each heap in order the list of roots can be made, and is one.
use Rattle.std.proofs.Common.{arith, ◌≡◌, ℕ, zero, suc, ◌+◌, ◌<◌, ◌≤◌, Bool, true, false, cond, eqb, leb, List, [], ◌∷◌, ◌++◌, codes, length, Some, refl, sym, ap, subst, ◌∙◌, lit<, pos, length-append}
use Rattle.std.specs.Prelude.{get_or, is_some}
use Rattle.std.proofs.Math.ListN.{get_or-append}
use Rattle.std.proofs.Math.Seq.{get_or-append_seam}
use Rattle.std.proofs.lemmas.Bool.{eqb-true, leb-true}
use Rattle.py_base.specs.Numbers.{class_count, class_names, class_number}
use Rattle.py_base.specs.declared.kind.Kind.TheVariants.{Str, Tuple, Dict, Cell, Function, Class}
use Rattle.py_data.specs.declared.value.Addr.{Addr}
use Rattle.py_data.specs.declared.value.Value.{Value}
use Rattle.py_data.specs.declared.value.Value.TheVariants.{Unset, None as NoneValue, Bool as BoolValue, Int, Ref, Builtin}
use Rattle.py_data.specs.Closed.{IsItem, BasesEnd, base_of}
use Rattle.py_data.specs.Every.{Every}
use Rattle.py_data.specs.Heap.{Heap, Rec, value_at, new_rec}
use Rattle.py_data.specs.Holds.{Holds}
use Rattle.py_data.specs.Order.{Rules, FitsAt, IsOrdered, Extends}
use Rattle.py_data.specs.Row.{Ret}
use Rattle.py_data.specs.Shape.{RefTo, NoneOr}
use Rattle.py_data.proofs.EveryLemmas.{every_and}
use Rattle.py_data.proofs.Holding.{holds_ret, holds_bind}
use Rattle.py_data.proofs.HoldingCalls.{holds_make}
use Rattle.py_data.proofs.ItemLemmas.{item_stays, items_stay}
use Rattle.py_data.proofs.Keep.{extends_then, ref_stays}
use Rattle.py_data.proofs.Making.{made_fits, sequence_fits, text_fits}
use Rattle.obj_class.specs.Bases.{ref}
use Rattle.obj_class.specs.Exceptions.{made_row}
use Rattle.obj_class.specs.NewRoots.{class_of_row, new_class_row, next_root_row, roots_behind_row, roots_from, roots_listed_row, roots_row}
use Rattle.obj_class.specs.Roots.{HasClass, IsRoots, class_place, own_name, root_base}
use Rattle.obj_class.proofs.ExceptionClasses.{base_number, lower, other_number}
use Rattle.obj_class.proofs.FaultHolds.{make_then, made_here, made_ref}
use Rattle.obj_class.proofs.Parts.{is_at}
use Rattle.obj_class.proofs.RootsKept.{class_stays, fixed_stays}

-- a class that was made
record IsNew (base : Value) (text : List ℕ) (x : Value) (h : Heap) : Type 0 where
  address : ℕ
  is : x ≡ ref address
  name : ℕ
  dict : ℕ
  here : h address ≡ Some (new_rec Class (ref name ∷ base ∷ ref dict ∷ []) [])
  text_here : h name ≡ Some (new_rec Str [] text)
  item : IsItem h x

-- the classes of the first numbers stand behind the Cell
record Made (h : Heap) (vs : List Value) (n : ℕ) : Type 0 where
  count : length vs ≡ n + 1
  counts : RefTo h Cell (value_at vs 0)
  items : Every (IsItem h) vs
  classes : (k : ℕ) → k < n → HasClass h vs k

-- ---- bases

one_or_none : (n : ℕ) → n < class_count → (b : Bool) → eqb n 1 ≡ b → eqb n 0 ≡ false → base_number n < n
one_or_none n l true e f = subst (λ n. base_number n < n) (sym (eqb-true n 1 e)) (lit< tt)
one_or_none n l false e f = (lower n (more n e f) l).1
  where
    more : (n : ℕ) → eqb n 1 ≡ false → eqb n 0 ≡ false → 1 < n
    more zero e f = absurd (let q : true ≡ false = f in cc)
    more (suc zero) e f = absurd (let q : true ≡ false = e in cc)
    more (suc (suc n)) e f = omega arith

pub before : (n : ℕ) → n < class_count → eqb n 0 ≡ false → base_number n < n
before n l f = one_or_none n l (eqb n 1) refl f

-- what stands in a list stands there still behind further values
kept_value : (vs : List Value) (x : Value) (i : ℕ) → i < length vs → value_at (vs ++ x ∷ []) i ≡ value_at vs i
kept_value vs x i l = get_or-append vs (x ∷ []) Unset i l

kept_base : (vs : List Value) (x : Value) (n : ℕ) → n < class_count → n < length vs →
    root_base (vs ++ x ∷ []) n ≡ root_base vs n
kept_base vs x n l m = by (eqb n 0) refl
  where
    by : (b : Bool) → eqb n 0 ≡ b → cond b NoneValue (value_at (vs ++ x ∷ []) (class_place (base_number n))) ≡ cond b
        NoneValue (value_at vs (class_place (base_number n)))
    by true e = refl
    by false e = let less = before n l e in kept_value vs x (class_place (base_number n)) (omega (arith, less, m))

module _ (h : Heap) (vs : List Value) (n : ℕ) (made : Made h vs n) (less : n < class_count) where
  -- the base of the next class is there
  base_there : NoneOr (RefTo h Class) (root_base vs n) × IsItem h (root_base vs n)
  base_there = by (eqb n 0) refl
    where
      some : (x : Value) (a : ℕ) (r : Rec) → x ≡ ref a → h a ≡ Some r → r.kind ≡ Class →
          NoneOr (RefTo h Class) x × IsItem h x
      some x a r e f k = subst (λ x. NoneOr (RefTo h Class) x × IsItem h x) (sym e)
          (subst (λ k. RefTo h k (ref a)) k (made_ref h a r f), (ap is_some f, λ q. let z : ref a ≡ Unset = q in cc))

      by : (b : Bool) → eqb n 0 ≡ b → NoneOr (RefTo h Class)
          (cond b NoneValue (value_at vs (class_place (base_number n)))) × IsItem h
          (cond b NoneValue (value_at vs (class_place (base_number n))))
      by true e = (tt, (tt, λ q. let z : NoneValue ≡ Unset = q in cc))
      by false e =
          let c = made.classes (base_number n) (before n less e) in
          some (value_at vs (class_place (base_number n))) c.address c.class c.is c.here c.kind

  -- the next class stands behind those before it
  with_class : (h1 : Heap) (x : Value) → Extends h h1 → IsNew (root_base vs n) (own_name n) x h1 →
      Made h1 (vs ++ x ∷ []) (n + 1)
  with_class h1 x e c = record {
    count = length-append vs (x ∷ []) ∙ ap (λ m. m + 1) made.count;
    counts = subst (RefTo h1 Cell) (sym (kept_value vs x 0 (omega (arith, made.count))))
        (ref_stays h h1 e Cell (value_at vs 0) made.counts);
    items = every_and (IsItem h1) vs (x ∷ []) (items_stay h h1 e vs made.items) (c.item, tt);
    classes = λ k l. either k l (eqb k n) refl;
  }
    where
      seam : value_at (vs ++ x ∷ []) (class_place n) ≡ x
      seam = let place : class_place n ≡ length vs = omega (arith, made.count) in ap (value_at (vs ++ x ∷ [])) place ∙
          get_or-append_seam vs x [] Unset

      last : HasClass h1 (vs ++ x ∷ []) n
      last = record {
        address = c.address;
        is = seam ∙ c.is;
        class = new_rec Class (ref c.name ∷ root_base vs n ∷ ref c.dict ∷ []) [];
        here = c.here;
        kind = refl;
        name = c.name;
        named = refl;
        text = c.text_here;
        base = sym (kept_base vs x n less (omega (arith, made.count)));
      }

      earlier : (k : ℕ) → k < n → HasClass h1 (vs ++ x ∷ []) k
      earlier k l =
          let o = class_stays h h1 vs k e (made.classes k l) in
          record {
            address = o.address;
            is = kept_value vs x (class_place k) (omega (arith, l, made.count)) ∙ o.is;
            class = o.class;
            here = o.here;
            kind = o.kind;
            name = o.name;
            named = o.named;
            text = o.text;
            base = o.base ∙ sym (kept_base vs x k (omega (arith, l, less)) (omega (arith, l, made.count)));
          }

      strictly : (k : ℕ) → k < n + 1 → eqb k n ≡ false → k < n
      strictly k l q = let d = other_number k n q in omega (arith, l, d)

      either : (k : ℕ) → k < n + 1 → (b : Bool) → eqb k n ≡ b → HasClass h1 (vs ++ x ∷ []) k
      either k l true q = subst (HasClass h1 (vs ++ x ∷ [])) (sym (eqb-true k n q)) last
      either k l false q = earlier k (strictly k l q)

module _ (rules : Rules) (h : Heap) (order : IsOrdered rules h) where
  bases_end : (x : Value) → NoneOr (RefTo h Class) x → (n : ℕ) × BasesEnd h n x
  bases_end NoneValue i = (0, tt)
  bases_end (Ref c) i =
      let t = is_at h Class c.0 i in
      let b = (order.each c.0 t.rec t.here).closed.bases t.kind in
      (suc b.0, subst (λ o. BasesEnd h b.0 (base_of o)) (sym t.here) b.1)
  bases_end Unset i = absurd i
  bases_end (BoolValue b) i = absurd i
  bases_end (Int n) i = absurd i
  bases_end (Builtin b) i = absurd i

  pub class_fits : (a : ℕ) (name base dict : Value) → RefTo h Str name → NoneOr (RefTo h Class) base →
      RefTo h Dict dict → IsItem h name → IsItem h base → IsItem h dict →
      FitsAt rules h a (new_rec Class (name ∷ base ∷ dict ∷ []) [])
  class_fits a name base dict n b d i j k = record {
    closed = record {
      refers = (i.0, (j.0, (k.0, tt)));
      shaped = ((n, b, d), refl, (i.1, (j.1, (k.1, tt))));
      bases =
          λ e. bases_end base b;
    };
    short = (omega arith, omega arith);
    function = λ e. absurd (let q : Class ≡ Function = e in cc);
    cell = λ e. absurd (let q : Class ≡ Cell = e in cc);
  }

  no_pairs_fit : (a : ℕ) → FitsAt rules h a (new_rec Dict [] [])
  no_pairs_fit a = made_fits rules h a Dict [] [] (λ e. let q : Dict ≡ Class = e in cc)
      (λ e. let q : Dict ≡ Function = e in cc) (λ e. let q : Dict ≡ Cell = e in cc) tt (tt, tt) refl (omega arith)
      (omega arith)

  cell_fits : (a : ℕ) → rules.cell a (Int (pos 1)) → FitsAt rules h a (new_rec Cell (Int (pos 1) ∷ []) [])
  cell_fits a c = record {
    closed = record {
      refers = (tt, tt);
      shaped = (tt, refl, tt);
      bases = λ e.
          absurd (let q : Cell ≡ Class = e in cc);
    };
    short = (omega arith, omega arith);
    function = λ e. absurd (let q : Cell ≡ Function = e in cc);
    cell = λ e. c;
  }

-- names are short
all_short : List (List ℕ) → Bool
all_short [] = true
all_short (x ∷ xs) = cond (leb (length x) 100) (all_short xs) false

first_short : (x : List ℕ) (b more : Bool) → leb (length x) 100 ≡ b → cond b more false ≡ true →
    (length x ≤ 100) × (more ≡ true)
first_short x true more f e = (leb-true (length x) 100 f, e)
first_short x false more f e = absurd (let q : false ≡ true = e in cc)

get_short : (xs : List (List ℕ)) (n : ℕ) → all_short xs ≡ true → length (get_or xs n []) ≤ 100
unfolding all_short
get_short [] n e = omega arith
get_short (x ∷ xs) zero e = (first_short x (leb (length x) 100) (all_short xs) refl e).0
get_short (x ∷ xs) (suc n) e = get_short xs n (first_short x (leb (length x) 100) (all_short xs) refl e).1

short_name : (n : ℕ) → length (own_name n) ≤ 1_048_576
unfolding all_short
short_name n = by (eqb n (class_number (codes "thread.error")))
  where
    by : (b : Bool) → length (cond b (codes "error") (get_or class_names n [])) ≤ 1_048_576
    by true = omega arith
    by false = let s = get_short class_names n refl in omega (arith, s)

module _ {S : Type 0} (rules : Rules) (stands : Heap → S → Type 0) where
  new_class_holds : (h : Heap) (base : Value) (text : List ℕ) → IsOrdered rules h → NoneOr (RefTo h Class) base →
      IsItem h base → length text ≤ 1_048_576 → Holds rules stands (IsNew base text) (new_class_row {S = S} base text) h
  unfolding new_class_row class_of_row made_row
  new_class_holds h base text order b i l =
      make_then rules stands (IsNew base text) (new_rec Str [] text) (λ name. class_of_row base name) h
      (λ a. text_fits rules h a text l)
      (λ s h1 order1 x1 e1 here1 item1.
      make_then rules stands (IsNew base text) (new_rec Dict [] [])
      (λ dict. made_row (new_rec Class (ref s ∷ base ∷ dict ∷ []) [])) h1 (λ a. no_pairs_fit rules h1 order1 a)
      (λ d h2 order2 x2 e2 here2 item2.
      let x12 = extends_then h h1 h2 x1 x2 in
      let made = new_rec Class (ref s ∷ base ∷ ref d ∷ []) [] in
      let named = fixed_stays h1 h2 s (new_rec Str [] text) x2 here1 refl in
      holds_make rules stands (IsNew base text) made (λ a. Ret (ref a)) h2
      (λ a. class_fits rules h2 order2 a (ref s) base (ref d) (made_ref h2 s (new_rec Str [] text) named)
      (none_stays h h2 x12 base b) (made_ref h2 d (new_rec Dict [] []) here2) (item_stays h1 h2 x2 (ref s) item1)
      (item_stays h h2 x12 base i) item2)
      (λ c h3 order3 x3 e3 item3. holds_ret rules stands (IsNew base text) (ref c) h3 (record {
        address = c;
        is = refl;
        name = s;
        dict = d;
        here = made_here h2 h3 c made e3;
        text_here = fixed_stays h2 h3 s (new_rec Str [] text) x3 named refl;
        item = item3;
      }))))
    where
      none_stays : (h h1 : Heap) → Extends h h1 → (x : Value) → NoneOr (RefTo h Class) x → NoneOr (RefTo h1 Class) x
      none_stays h h1 e NoneValue i = tt
      none_stays h h1 e (Ref c) i = ref_stays h h1 e Class (Ref c) i
      none_stays h h1 e Unset i = absurd i
      none_stays h h1 e (BoolValue b) i = absurd i
      none_stays h h1 e (Int n) i = absurd i
      none_stays h h1 e (Builtin b) i = absurd i

  next_holds : (h : Heap) (vs : List Value) (n : ℕ) → IsOrdered rules h → n < class_count → Made h vs n →
      Holds rules stands (λ ws h1. Made h1 ws (n + 1)) (next_root_row {S = S} n vs) h
  unfolding next_root_row
  next_holds h vs n order less made =
      let b = base_there h vs n made less in
      holds_bind rules stands (IsNew (root_base vs n) (own_name n)) (λ ws h1. Made h1 ws (n + 1))
      (new_class_row (root_base vs n) (own_name n)) (λ c. Ret (vs ++ c ∷ [])) h order
      (new_class_holds h (root_base vs n) (own_name n) order b.0 b.1 (short_name n))
      (λ c h1 order1 x1 new. holds_ret rules stands (λ ws h1. Made h1 ws (n + 1)) (vs ++ c ∷ []) h1
      (with_class h vs n made less h1 c x1 new))

  from_holds : (m n : ℕ) (h : Heap) (vs : List Value) → n + m ≡ class_count → IsOrdered rules h → Made h vs n →
      Holds rules stands (λ ws h1. Made h1 ws class_count) (roots_from {S = S} n m vs) h
  unfolding roots_from
  from_holds zero n h vs e order made = let all : n ≡ class_count = omega (arith, e) in
      holds_ret rules stands (λ ws h1. Made h1 ws class_count) vs h (subst (Made h vs) all made)
  from_holds (suc m) n h vs e order made =
      holds_bind rules stands (λ ws h1. Made h1 ws (n + 1)) (λ ws h1. Made h1 ws class_count) (next_root_row n vs)
      (λ ws. roots_from (n + 1) m ws) h order (next_holds h vs n order (omega (arith, e)) made)
      (λ ws h1 order1 x1 more. from_holds m (n + 1) h1 ws (omega (arith, e)) order1 more)

  listed_holds : (h : Heap) (vs : List Value) → Made h vs class_count →
      Holds rules stands (λ a h1. IsRoots h1 a.0) (roots_listed_row {S = S} vs) h
  unfolding roots_listed_row
  listed_holds h vs made =
      let p : Addr → Heap → Type 0 = λ a h1. IsRoots h1 a.0 in
      let list = new_rec Tuple vs [] in
      holds_make rules stands p list (λ a. Ret (record { 0 = a })) h
      (λ a. sequence_fits rules h a Tuple vs tt made.items (omega (arith, made.count)))
      (λ a h1 order1 x1 e1 item1. holds_ret rules stands p (record { 0 = a }) h1 (record {
        list = list;
        here = made_here h h1 a list e1;
        kind = refl;
        counts = ref_stays h h1 x1 Cell (value_at vs 0) made.counts;
        classes = λ n l. class_stays h h1 vs n x1 (made.classes n l);
      }))

  pub roots_hold : (h : Heap) → IsOrdered rules h → ((a : ℕ) → rules.cell a (Int (pos 1))) →
      Holds rules stands (λ a h1. IsRoots h1 a.0) (roots_row {S = S}) h
  unfolding roots_row roots_behind_row
  roots_hold h order cell =
      let p : Addr → Heap → Type 0 = λ a h1. IsRoots h1 a.0 in
      let one = new_rec Cell (Int (pos 1) ∷ []) [] in
      make_then rules stands p one (λ cell. roots_behind_row cell) h (λ a. cell_fits rules h order a (cell a))
      (λ c h1 order1 x1 e1 here1 item1.
      holds_bind rules stands (λ ws h1. Made h1 ws class_count) p (roots_from 0 class_count (ref c ∷ []))
      (λ vs. roots_listed_row vs) h1 order1
      (from_holds class_count 0 h1 (ref c ∷ []) refl order1
      (record {
        count = refl;
        counts = made_ref h1 c one here1;
        items = (item1, tt);
        classes = λ k l.
            absurd (omega (arith, l));
      }))
      (λ vs h2 order2 x2 made. listed_holds h2 vs made))
