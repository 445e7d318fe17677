-- SETUP makes the roots of a right program.
use Rattle.std.proofs.Common.{arith, ◌≡◌, ◌≢◌, ◌⊎◌, inl, inr, ℕ, zero, suc, ◌+◌, ◌<◌, ◌≤◌, ◌==◌, Bool, true, false, cond, leb, ltb, List, [], ◌∷◌, ◌++◌, length, map, Option, Some, None, refl, sym, ap, subst, ◌∙◌, codes, get_or}
use Rattle.std.proofs.lemmas.Bool.{cases_Bool, leb-true, ltb-true}
use Rattle.std.proofs.lemmas.Bool.Decides.{nat_tests}
use Rattle.std.proofs.lemmas.List.{length-append, length-map}
use Rattle.py_base.specs.Numbers.{class_count, class_number}
use Rattle.py_base.specs.declared.kind.Kind.TheVariants.{Str, Tuple, Dict, Cell, Class, Function}
use Rattle.py_data.specs.declared.value.Value.{Value}
use Rattle.py_data.specs.declared.value.Value.TheVariants.{Unset, None as NoneValue, Bool as BoolValue, Int, Ref, Builtin}
use Rattle.py_data.specs.declared.record.TheConstants.{LENGTH_LIMIT}
use Rattle.py_data.specs.Changes.{IsShort}
use Rattle.py_data.specs.Closed.{IsItem, BasesEnd}
use Rattle.py_data.specs.Every.{Every}
use Rattle.py_data.specs.Heap.{Heap, Rec, is_tracked, value_at, new_rec}
use Rattle.py_data.specs.Holds.{Holds}
use Rattle.py_data.specs.Order.{IsOrdered, Extends, FitsAt}
use Rattle.py_data.specs.Row.{Row, Ret, bind}
use Rattle.py_data.specs.Shape.{RefTo, KindIn, NoneOr, IsShaped}
use Rattle.py_data.proofs.EveryLemmas.{every_and}
use Rattle.py_data.proofs.Holding.{holds_ret, holds_bind}
use Rattle.py_data.proofs.ItemLemmas.{items_stay}
use Rattle.py_data.proofs.Keep.{ref_stays}
use Rattle.py_data.proofs.Making.{text_fits, sequence_fits}
use Rattle.py_code.specs.declared.program.Program.{Program}
use Rattle.py_code.specs.declared.program.Root.{Root}
use Rattle.py_code.specs.Right.{IsRightProgram, first_text, texts_of, names_of, text_root, cell_root, class_root, class_roots}
use Rattle.obj_class.specs.Bases.{ref}
use Rattle.obj_class.specs.Exceptions.{made_row}
use Rattle.obj_class.specs.Roots.{HasClass, base_names, own_name, class_place, root_class, root_base}
use Rattle.obj_class.proofs.RootsKept.{fixed_stays}
use Rattle.py_frames.specs.declared.next.Next.{Next}
use Rattle.py_frames.specs.declared.next.Next.TheVariants.{Begins}
use Rattle.py_frames.specs.GlobalRows.{first_cell}
use Rattle.py_frames.specs.Raising.{place_in}
use Rattle.py_frames.specs.SetupRows.{named_class, class_dict, class_root as class_root_row, cell_start, root_by, roots_row, begun_row}
use Rattle.py_frames.specs.Sound.{AreRoots, rules_of}
use Rattle.py_frames.proofs.FunctionHolds.{base_ends}
use Rattle.py_frames.proofs.Given.{every_of, at_ref, ref_item}
use Rattle.py_frames.proofs.Making.{empty_dict, holds_made, holds_free}

-- ---- lists by places

at_left : (vs : List Value) (x : Value) (i : ℕ) → i < length vs → value_at (vs ++ x ∷ []) i ≡ value_at vs i
at_left [] x i l = absurd (omega (arith, l))
at_left (v ∷ vs) x zero l = refl
at_left (v ∷ vs) x (suc i) l = at_left vs x i (omega (arith, l))

at_last : (vs : List Value) (x : Value) → value_at (vs ++ x ∷ []) (length vs) ≡ x
at_last [] x = refl
at_last (v ∷ vs) x = at_last vs x

one_more : (vs : List Value) (x : Value) → length (vs ++ x ∷ []) ≡ length vs + 1
one_more vs x = length-append vs (x ∷ [])

less_or_last : (i n : ℕ) → i < n + 1 → (i < n) ⊎ (i ≡ n)
less_or_last i n l = elim (cases_Bool (ltb i n)) [
  | inl y ↦ inl (ltb-true i n y)
  | inr z ↦ inr (not_less i n z l)
]
  where
    not_less : (i n : ℕ) → ltb i n ≡ false → i < n + 1 → i ≡ n
    not_less i n e l = let m : n ≤ i = grind (arith, nat_tests) in omega (arith, l, m)

-- ---- tests of so many numbers

-- a test holds of m numbers from k on
abbrev all_from : (ℕ → Bool) → ℕ → ℕ → Bool
all_from t k zero = true
all_from t k (suc m) = cond (t k) (all_from t (k + 1) m) false

tested : (t : ℕ → Bool) (n k m : ℕ) → all_from t k m ≡ true → k ≤ n → n < k + m → t n ≡ true
tested t n k zero e l g = absurd (omega (arith, l, g))
tested t n k (suc m) e l g = by (t k) refl e (λ more y. tested t n (k + 1) m more y (omega (arith, g)))
  where
    by : (b : Bool) → t k ≡ b → cond b (all_from t (k + 1) m) false ≡ true →
        (all_from t (k + 1) m ≡ true → k + 1 ≤ n → t n ≡ true) → t n ≡ true
    by true i more next = elim (less_or_last k n (omega (arith, l))) [
      | inl y ↦ next more (omega (arith, y))
      | inr z ↦ subst (λ n. t n ≡ true) z i
    ]
    by false i more next = absurd (let z : false ≡ true = more in cc)

-- ---- a base has a lower number, and a class a short name

abbrev base_number : ℕ → ℕ
base_number n = class_number (get_or base_names n [])

lower : (n : ℕ) → 0 < n → n < class_count → base_number n < n
lower n l g = ltb-true (base_number n) n
    (tested (λ n. ltb (base_number n) n) n 1 19 refl (omega (arith, l)) (omega (arith, g)))

short_name : (n : ℕ) → n < class_count → length (own_name n) ≤ LENGTH_LIMIT
short_name n g = let l = leb-true (length (own_name n)) 100
    (tested (λ n. leb (length (own_name n)) 100) n 0 20 refl (omega arith) (omega (arith, g))) in omega (arith, l)

-- the base of a class doesn't depend on what comes behind it
same_base : (vs : List Value) (x : Value) (n : ℕ) → n < class_count → class_place n ≤ length vs →
    root_base (vs ++ x ∷ []) n ≡ root_base vs n
same_base vs x n g l = by (n == class_number (codes "object")) refl
  where
    by : (b : Bool) → (n == class_number (codes "object")) ≡ b →
        cond b NoneValue (root_class (vs ++ x ∷ []) (get_or base_names n [])) ≡ cond b NoneValue
        (root_class vs (get_or base_names n []))
    by true e = refl
    by false e =
        let some : 0 < n = grind (arith, nat_tests) in
        let m = lower n some g in
        at_left vs x (class_place (base_number n)) (omega (arith, m, l))

-- ---- the roots so far

pub record Begun (p : Program) (count : ℕ) (h : Heap) (vs : List Value) : Type 0 where
  pub some : 0 < length vs
  pub counts : value_at vs 0 ≡ ref count
  pub cell : RefTo h Cell (ref count)
  pub classes : (n : ℕ) → n < class_count → class_place n < length vs → HasClass h vs n
  pub texts : (k : ℕ) → first_text ≤ k → k < first_cell p → k < length vs → RefTo h Str (value_at vs k)
  pub cells : (k : ℕ) → first_cell p ≤ k → k < length vs → RefTo h Cell (value_at vs k)
  pub apart : (k : ℕ) → first_cell p ≤ k → k < length vs → value_at vs k ≢ ref count
  pub items : Every (IsItem h) vs

class_more : (h h1 : Heap) (vs : List Value) (x : Value) (n : ℕ) → Extends h h1 → n < class_count →
    class_place n < length vs → HasClass h vs n → HasClass h1 (vs ++ x ∷ []) n
class_more h h1 vs x n y g l c = record {
  address = c.address;
  is = at_left vs x (class_place n) l ∙ c.is;
  class = c.class;
  here = fixed_stays h h1 c.address c.class y c.here (ap is_tracked c.kind);
  kind = c.kind;
  name = c.name;
  named = c.named;
  text = fixed_stays h h1 c.name (new_rec Str [] (own_name n)) y c.text refl;
  base = c.base ∙ sym (same_base vs x n g (omega (arith, l)));
}

-- a root more, of the kind that its place asks for
begun_more : (p : Program) (count : ℕ) (h h1 : Heap) (vs : List Value) (x : Value) → Begun p count h vs →
    Extends h h1 → IsItem h1 x → ((n : ℕ) → n < class_count → class_place n ≡ length vs → HasClass h1 (vs ++ x ∷ []) n)
    → (first_text ≤ length vs → length vs < first_cell p → RefTo h1 Str x) →
    (first_cell p ≤ length vs → RefTo h1 Cell x × (x ≢ ref count)) → Begun p count h1 (vs ++ x ∷ [])
begun_more p count h h1 vs x b y item class text cell =
    let long = one_more vs x in
    record {
      some = omega (arith, long);
      counts = at_left vs x 0 b.some ∙ b.counts;
      cell = ref_stays h h1 y Cell (ref count) b.cell;
      classes = λ n g l. elim (less_or_last (class_place n) (length vs) (omega (arith, l, long))) [
        | inl z ↦ class_more h h1 vs x n y g z (b.classes n g z)
        | inr z ↦ class n g z
      ];
      texts = λ k a g l. elim (less_or_last k (length vs) (omega (arith, l, long))) [
        | inl z ↦ subst (RefTo h1 Str) (sym (at_left vs x k z)) (ref_stays h h1 y Str (value_at vs k) (b.texts k a g z))
        | inr z ↦ subst (λ k. RefTo h1 Str (value_at (vs ++ x ∷ []) k)) (sym z)
            (subst (RefTo h1 Str) (sym (at_last vs x))
            (text (subst (λ k. first_text ≤ k) z a) (subst (λ k. k < first_cell p) z g)))
      ];
      cells = λ k a l. elim (less_or_last k (length vs) (omega (arith, l, long))) [
        | inl z ↦ subst (RefTo h1 Cell) (sym (at_left vs x k z)) (ref_stays h h1 y Cell (value_at vs k) (b.cells k a z))
        | inr z ↦ subst (λ k. RefTo h1 Cell (value_at (vs ++ x ∷ []) k)) (sym z)
            (subst (RefTo h1 Cell) (sym (at_last vs x)) (cell (subst (λ k. first_cell p ≤ k) z a)).0)
      ];
      apart = λ k a l. elim (less_or_last k (length vs) (omega (arith, l, long))) [
        | inl z ↦ subst (λ v. v ≢ ref count) (sym (at_left vs x k z)) (b.apart k a z)
        | inr z ↦ subst (λ k. value_at (vs ++ x ∷ []) k ≢ ref count) (sym z)
            (subst (λ v. v ≢ ref count) (sym (at_last vs x)) (cell (subst (λ k. first_cell p ≤ k) z a)).1)
      ];
      items = every_and (IsItem h1) vs (x ∷ []) (items_stay h h1 y vs b.items) (item, tt);
    }

-- ---- which root stands at a place

pub record ClassAt (k : ℕ) (r : Root) : Type 0 where
  pub number : ℕ
  pub there : number < class_count
  pub place : k ≡ class_place number
  pub is : r ≡ class_root number

pub record TextAt (p : Program) (k : ℕ) (r : Root) : Type 0 where
  pub text : List ℕ
  pub first : first_text ≤ k
  pub last : k < first_cell p
  pub short : length text ≤ LENGTH_LIMIT
  pub is : r ≡ text_root text

pub record CellAt (p : Program) (k : ℕ) (r : Root) : Type 0 where
  pub name : List ℕ
  pub first : first_cell p ≤ k
  pub is : r ≡ cell_root name

abbrev pub RootAt : Program → ℕ → Root → Type 0
RootAt p k r = ClassAt k r ⊎ (TextAt p k r ⊎ CellAt p k r)

abbrev pub RootsFrom : Program → ℕ → List Root → Type 0
RootsFrom p k [] = Unit {0}
RootsFrom p k (r ∷ rs) = RootAt p k r × RootsFrom p (k + 1) rs

from_both : (p : Program) (k m : ℕ) (rs qs : List Root) → RootsFrom p k rs → m ≡ k + length rs → RootsFrom p m qs →
    RootsFrom p k (rs ++ qs)
from_both p k m [] qs i e j = subst (λ k. RootsFrom p k qs) (let z : m ≡ k = omega (arith, e) in z) j
from_both p k m (r ∷ rs) qs i e j = (i.0, from_both p (k + 1) m rs qs i.1 (omega (arith, e)) j)

from_classes : (p : Program) (c n : ℕ) → c + n ≤ class_count → RootsFrom p (class_place c) (class_roots c n)
from_classes p c zero l = tt
from_classes p c (suc n) l = (
  inl (record { number = c; there = omega (arith, l); place = refl; is = refl }),
  subst (λ k. RootsFrom p k (class_roots (c + 1) n)) (let z : class_place (c + 1) ≡ class_place c + 1 =
      omega arith in z) (from_classes p (c + 1) n (omega (arith, l))),
)

from_texts : (p : Program) (k : ℕ) (ts : List (List ℕ)) → first_text ≤ k → k + length ts ≤ first_cell p →
    Every (λ t. length t ≤ LENGTH_LIMIT) ts → RootsFrom p k (map text_root ts)
from_texts p k [] a b s = tt
from_texts p k (t ∷ ts) a b s = (
  inr (inl
      (record { text = t; first = a; last = omega (arith, b); short = s.0; is = refl })),
  from_texts p (k + 1) ts (omega (arith, a)) (omega (arith, b)) s.1,
)

from_cells : (p : Program) (k : ℕ) (ns : List (List ℕ)) → first_cell p ≤ k → RootsFrom p k (map cell_root ns)
from_cells p k [] a = tt
from_cells p k (n ∷ ns) a = (
  inr (inr (record { name = n; first = a; is = refl })),
  from_cells p (k + 1) ns (omega (arith, a)),
)

-- all roots behind the first
abbrev pub rest_of : Program → List Root
rest_of p = class_roots 0 class_count ++ map text_root (texts_of p.roots) ++ map cell_root (names_of p.roots)

pub roots_from : (p : Program) → IsRightProgram p → RootsFrom p 1 (rest_of p)
roots_from p right =
    let texts = texts_of p.roots in
    let names = names_of p.roots in
    let long : length (map text_root texts) ≡ length texts = length-map texts text_root in
    let short : Every (λ t. length t ≤ LENGTH_LIMIT) texts = every_of (λ t. length t ≤ 1048576) texts right.roots.short
    in
    from_both p 1 first_text (class_roots 0 class_count) (map text_root texts ++ map cell_root names)
    (from_classes p 0 class_count (omega arith)) refl
    (from_both p first_text (first_cell p) (map text_root texts) (map cell_root names)
    (from_texts p first_text texts (omega arith) (omega arith) short) (omega (arith, long))
    (from_cells p (first_cell p) names (omega arith)))

-- ---- the rows

-- the roots of the program stand there
abbrev pub IsBegun : Program → ℕ → Next → Heap → Type 0
IsBegun p count (Begins a) h = AreRoots p h count a.0
IsBegun p count _ h = ⊥

module _ {S : Type 0} (p : Program) (count : ℕ) (stands : Heap → S → Type 0) where
  abbrev Kept : {A : Type 0} → (A → Heap → Type 0) → Row S A → Heap → Type 0
  Kept q row h = Holds (rules_of p count) stands q row h

  -- a record is made, and a row goes on with it
  made_then : {A : Type 0} (q : A → Heap → Type 0) (r : Rec) (g : Value → Row S A) (h : Heap) →
      ((a : ℕ) → FitsAt (rules_of p count) h a r)
      → ((a : ℕ) (h1 : Heap) → IsOrdered (rules_of p count) h1 → Extends h h1 → h1 a ≡ Some r → IsItem h1 (ref a) →
      Kept q (g (ref a)) h1) → Kept q (bind (made_row r) g) h
  unfolding made_row bind
  made_then q r g h fit n = let one = fit 0 in holds_made (rules_of p count) stands q r (λ a. g (ref a)) h
      one.closed.shaped one.short (λ a u. fit a) n

  made_last : (q : Value → Heap → Type 0) (r : Rec) (h : Heap) → IsShaped h r → IsShort r →
      ((a : ℕ) → h a ≡ None → FitsAt (rules_of p count) h a r)
      → ((a : ℕ) (h1 : Heap) → h a ≡ None → IsOrdered (rules_of p count) h1 → Extends h h1 → h1 a ≡ Some r →
      IsItem h1 (ref a) → q (ref a) h1) → Kept q (made_row r) h
  unfolding made_row
  made_last q r h shaped short fit n = holds_free (rules_of p count) stands q r (λ a. Ret (ref a)) h shaped short fit
      (λ a h1 free order x e item. holds_ret (rules_of p count) stands q (ref a) h1 (n a h1 free order x e item))

  -- ---- a class
  base_fits : (h : Heap) (vs : List Value) (n : ℕ) → Begun p count h vs → n < class_count → class_place n ≡ length vs →
      NoneOr (RefTo h Class) (root_base vs n)
  base_fits h vs n b g l = by (n == class_number (codes "object")) refl
    where
      by : (w : Bool) → (n == class_number (codes "object")) ≡ w →
          NoneOr (RefTo h Class) (cond w NoneValue (root_class vs (get_or base_names n [])))
      by true e = tt
      by false e =
          let some : 0 < n = grind (arith, nat_tests) in
          let m = lower n some g in
          let c = b.classes (base_number n) (omega (arith, m, g)) (omega (arith, m, l)) in
          subst (NoneOr (RefTo h Class)) (sym c.is) (at_ref h Class c.address c.class c.here c.kind)

  base_item : (h : Heap) (v : Value) → NoneOr (RefTo h Class) v → IsItem h v
  base_item h NoneValue i = (tt, λ q. let z : NoneValue ≡ Unset = q in cc)
  base_item h (Ref a) i = ref_item h Class (Ref a) i
  base_item h Unset i = absurd i
  base_item h (BoolValue b) i = absurd i
  base_item h (Int n) i = absurd i
  base_item h (Builtin b) i = absurd i

  bases_end : (h : Heap) (v : Value) → IsOrdered (rules_of p count) h → NoneOr (RefTo h Class) v →
      (n : ℕ) × BasesEnd h n v
  bases_end h NoneValue order i = (0, tt)
  bases_end h (Ref a) order i = base_ends (rules_of p count) h (Ref a) order i
  bases_end h Unset order i = absurd i
  bases_end h (BoolValue b) order i = absurd i
  bases_end h (Int n) order i = absurd i
  bases_end h (Builtin b) order i = absurd i

  none_or_stays : (h h1 : Heap) (v : Value) → Extends h h1 → NoneOr (RefTo h Class) v → NoneOr (RefTo h1 Class) v
  none_or_stays h h1 NoneValue x i = tt
  none_or_stays h h1 (Ref a) x i = ref_stays h h1 x Class (Ref a) i
  none_or_stays h h1 Unset x i = absurd i
  none_or_stays h h1 (BoolValue b) x i = absurd i
  none_or_stays h h1 (Int n) x i = absurd i
  none_or_stays h h1 (Builtin b) x i = absurd i

  class_fits : (h : Heap) (a : ℕ) (name base dict : Value) → IsOrdered (rules_of p count) h → RefTo h Str name →
      NoneOr (RefTo h Class) base → RefTo h Dict dict →
      FitsAt (rules_of p count) h a (new_rec Class (name ∷ base ∷ dict ∷ []) [])
  class_fits h a name base dict order s b d =
      let i = ref_item h Str name s in
      let j = base_item h base b in
      let k = ref_item h Dict dict d in
      record {
        closed = record {
          refers = (i.0, (j.0, (k.0, tt)));
          shaped = ((s, b, d), refl, (i.1, (j.1, (k.1, tt))));
          bases = λ e. bases_end h base order b;
        };
        short = (omega arith, omega arith);
        function = λ e. absurd (let q : Class ≡ Function = e in cc);
        cell = λ e. absurd (let q : Class ≡ Cell = e in cc);
      }

  abbrev Next_begun : List Value → Value → Heap → Type 0
  Next_begun vs x h = Begun p count h (vs ++ x ∷ [])

  begun_stays : (h h1 : Heap) (vs : List Value) → Extends h h1 → Begun p count h vs → Begun p count h1 vs
  begun_stays h h1 vs x b = record {
    some = b.some;
    counts = b.counts;
    cell = ref_stays h h1 x Cell (ref count) b.cell;
    classes = λ n g l.
        let c = b.classes n g l in
        record {
          address = c.address;
          is = c.is;
          class = c.class;
          here =
              fixed_stays h h1 c.address c.class x c.here (ap is_tracked c.kind);
          kind = c.kind;
          name = c.name;
          named =
              c.named;
          text = fixed_stays h h1 c.name (new_rec Str [] (own_name n)) x c.text refl;
          base = c.base;
        };
    texts = λ k a g l. ref_stays h h1 x Str (value_at vs k) (b.texts k a g l);
    cells = λ k a l. ref_stays h h1 x Cell (value_at vs k) (b.cells k a l);
    apart = b.apart;
    items = items_stay h h1 x vs b.items;
  }

  class_place_same : (n m : ℕ) → class_place n ≡ class_place m → n ≡ m
  class_place_same n m e = omega (arith, e)

  class_root_holds : (n : ℕ) (vs : List Value) (h : Heap) → IsOrdered (rules_of p count) h → Begun p count h vs →
      n < class_count → class_place n ≡ length vs → Kept (Next_begun vs) (class_root_row n vs) h
  unfolding class_root_row class_dict named_class
  class_root_holds n vs h order b g l =
      made_then (Next_begun vs) (new_rec Str [] (own_name n)) (λ name. class_dict n vs name) h
      (λ a. text_fits (rules_of p count) h a (own_name n) (short_name n g))
      (λ s h1 order1 x1 e1 i1.
      made_then (Next_begun vs) (new_rec Dict [] []) (λ dict. named_class n vs (ref s) dict) h1
      (λ a. empty_dict (rules_of p count) h1 a)
      (λ d h2 order2 x2 e2 i2.
      let b2 = begun_stays h1 h2 vs x2 (begun_stays h h1 vs x1 b) in
      let s2 = fixed_stays h1 h2 s (new_rec Str [] (own_name n)) x2 e1 refl in
      let name2 = at_ref h2 Str s (new_rec Str [] (own_name n)) s2 refl in
      let base2 = base_fits h2 vs n b2 g l in
      let made = new_rec Class (ref s ∷ root_base vs n ∷ ref d ∷ []) [] in
      let fit : (a : ℕ) → FitsAt (rules_of p count) h2 a made = λ a.
      class_fits h2 a (ref s) (root_base vs n) (ref d) order2 name2 base2
      (at_ref h2 Dict d (new_rec Dict [] []) e2 refl) in
      let one = fit 0 in
      made_last (Next_begun vs) made h2 one.closed.shaped one.short (λ a u. fit a)
      (λ a h3 free order3 x3 e3 i3.
      begun_more p count h2 h3 vs (ref a) b2 x3 i3
      (λ m k z.
      let same : n ≡ m = class_place_same n m (l ∙ sym z) in
      subst (HasClass h3 (vs ++ ref a ∷ [])) same
      (record {
        address = a;
        is = ap (λ k. value_at (vs ++ ref a ∷ []) k) l ∙ at_last vs (ref a);
        class = made;
        here = e3;
        kind = refl;
        name = s;
        named = refl;
        text = fixed_stays h2 h3 s (new_rec Str [] (own_name n)) x3 s2 refl;
        base = sym (same_base vs (ref a) n g (omega (arith, l)));
      }))
      (λ u w. absurd (omega (arith, l, g, u)))
      (λ u. absurd (omega (arith, l, g, u))))))

  -- ---- a string
  text_root_holds : (t : List ℕ) (vs : List Value) (h : Heap) → Begun p count h vs → first_text ≤ length vs →
      length vs < first_cell p → length t ≤ LENGTH_LIMIT → Kept (Next_begun vs) (made_row (new_rec Str [] t)) h
  text_root_holds t vs h b l m s =
      let one = text_fits (rules_of p count) h 0 t s in
      made_last (Next_begun vs) (new_rec Str [] t) h one.closed.shaped one.short
      (λ a u. text_fits (rules_of p count) h a t s)
      (λ a h1 free order x e i.
      begun_more p count h h1 vs (ref a) b x i (λ n g z. absurd (omega (arith, l, g, z)))
      (λ u w. at_ref h1 Str a (new_rec Str [] t) e refl) (λ u. absurd (omega (arith, m, u))))

  -- ---- a Cell of a global name, which isn't that of the count
  other_cell : (h : Heap) (a : ℕ) → RefTo h Cell (ref count) → h a ≡ None → a ≢ count
  other_cell h a i e q = by (h count) i (ap h (sym q) ∙ e)
    where
      by : (o : Option Rec) → KindIn o (λ k. k ≡ Cell) → o ≡ None → ⊥
      by None j f = j
      by (Some r) j f = let z : Some r ≡ None = f in cc

  cell_fits : (h : Heap) (a : ℕ) → a ≢ count → FitsAt (rules_of p count) h a (new_rec Cell (Unset ∷ []) [])
  unfolding rules_of
  cell_fits h a n = record {
    closed = record {
      refers = (tt, tt);
      shaped = (tt, refl, tt);
      bases = λ e.
          absurd (let q : Cell ≡ Class = e in cc);
    };
    short = (omega arith, omega arith);
    function = λ e. absurd (let q : Cell ≡ Function = e in cc);
    cell = λ e w. absurd (n w);
  }

  ref_place : (a b : ℕ) → ref a ≡ ref b → a ≡ b
  ref_place a b e = ap place_in e

  cell_root_holds : (vs : List Value) (h : Heap) → Begun p count h vs → first_cell p ≤ length vs →
      Kept (Next_begun vs) (made_row (new_rec Cell (Unset ∷ []) [])) h
  cell_root_holds vs h b l =
      made_last (Next_begun vs) (new_rec Cell (Unset ∷ []) []) h (tt, refl, tt) (omega arith, omega arith)
      (λ a e. cell_fits h a (other_cell h a b.cell e))
      (λ a h1 free order x e i.
      begun_more p count h h1 vs (ref a) b x i (λ n g z. absurd (omega (arith, l, g, z)))
      (λ u w. absurd (omega (arith, l, w)))
      (λ u. (
        at_ref h1 Cell a (new_rec Cell (Unset ∷ []) []) e refl,
        λ q.
            other_cell h a b.cell free (ref_place a count q),
      )))

  -- ---- one root, and all of them
  start_of : (vs : List Value) → 0 < length vs → cell_start vs ≡ Unset
  start_of [] l = absurd (omega (arith, l))
  start_of (v ∷ vs) l = refl

  root_holds : (r : Root) (vs : List Value) (h : Heap) → IsOrdered (rules_of p count) h → Begun p count h vs →
      RootAt p (length vs) r → Kept (Next_begun vs) (root_by r vs r.kind) h
  unfolding root_by
  root_holds r vs h order b (inl c) = subst (λ r. Kept (Next_begun vs) (root_by r vs r.kind) h) (sym c.is)
      (class_root_holds c.number vs h order b c.there (sym c.place))
  root_holds r vs h order b (inr (inl t)) = subst (λ r. Kept (Next_begun vs) (root_by r vs r.kind) h) (sym t.is)
      (text_root_holds t.text vs h b t.first t.last t.short)
  root_holds r vs h order b (inr (inr c)) =
      subst (λ r. Kept (Next_begun vs) (root_by r vs r.kind) h) (sym c.is)
      (subst (λ x. Kept (Next_begun vs) (made_row (new_rec Cell (x ∷ []) [])) h) (sym (start_of vs b.some))
      (cell_root_holds vs h b c.first))

  -- so many roots more
  abbrev pub All_begun : ℕ → List Value → Heap → Type 0
  All_begun n vs h = Begun p count h vs × (length vs ≡ n)

  pub roots_hold : (rs : List Root) (vs : List Value) (n : ℕ) (h : Heap) → IsOrdered (rules_of p count) h →
      Begun p count h vs → RootsFrom p (length vs) rs → n ≡ length vs + length rs →
      Kept (All_begun n) (roots_row rs vs) h
  unfolding roots_row
  roots_hold [] vs n h order b i e = holds_ret (rules_of p count) stands (All_begun n) vs h
      (b, (let z : length vs ≡ n = omega (arith, e) in z))
  roots_hold (r ∷ rs) vs n h order b i e =
      holds_bind (rules_of p count) stands (Next_begun vs) (All_begun n) (root_by r vs r.kind)
      (λ x. roots_row rs (vs ++ x ∷ [])) h order (root_holds r vs h order b i.0)
      (λ x h1 order1 y b1.
      let long = one_more vs x in
      roots_hold rs (vs ++ x ∷ []) n h1 order1 b1 (subst (λ k. RootsFrom p k rs) (sym long) i.1)
      (omega (arith, e, long)))

  -- ---- the list of roots
  pub begun_holds : (vs : List Value) (h : Heap) → Begun p count h vs → length vs ≡ length p.roots →
      length p.roots ≤ LENGTH_LIMIT → first_cell p ≤ length p.roots → Kept (IsBegun p count) (begun_row vs) h
  unfolding begun_row
  begun_holds vs h b l m n =
      let fit : (a : ℕ) → FitsAt (rules_of p count) h a (new_rec Tuple vs []) = λ a.
      sequence_fits (rules_of p count) h a Tuple vs tt b.items (omega (arith, l, m)) in
      let one = fit 0 in
      holds_made (rules_of p count) stands (IsBegun p count) (new_rec Tuple vs [])
      (λ a. Ret (Begins (record { 0 = a }))) h one.closed.shaped one.short (λ a u. fit a)
      (λ a h1 order x e i.
      let c = begun_stays h h1 vs x b in
      holds_ret (rules_of p count) stands (IsBegun p count) (Begins (record { 0 = a })) h1
      (record {
        known = record {
          list = new_rec Tuple vs [];
          here = e;
          kind = refl;
          counts =
              subst (RefTo h1 Cell) (sym c.counts) c.cell;
          classes = λ k g. c.classes k g (omega (arith, g, l, n));
        };
        counts = c.counts;
        texts = λ k u w. c.texts k u w (omega (arith, w, l, n));
        cells = λ k u w. c.cells k u (omega (arith, w, l));
        apart = λ k u w. c.apart k u (omega (arith, w, l));
      }))
