-- The tests of a list of roots are what makes it right.
use Rattle.std.proofs.Common.{◌≡◌, ◌∙◌, ◌↔◌, ◌+◌, ◌-◌, ◌<◌, ◌≤◌, ◌^◌, ◌==◌, ◌&&◌, ◌||◌, ℕ, zero, suc, List, [], ◌∷◌, ◌++◌, Bool, true, false, All, ap, sym, subst, refl, arith, length, map, not, nat_lt, Option, Some, None}
use Rattle.std.specs.Prelude.{if◌then◌else◌, IsTrue, MatchOption}
use Rattle.std.specs.List.{last_or}
use Rattle.std.proofs.lemmas.Bool.{and_parts, eq-eqb, eqb-true, ltb-false, le-ltb, or_from, or_parts}
use Rattle.std.proofs.lemmas.List.Elements.{All-nil, All-cons, All-head, All-tail}
use Rattle.py_base.specs.declared.kind.Kind.{Kind}
use Rattle.py_base.specs.declared.kind.Kind.TheVariants.{Str, Tuple, List as ListKind, Dict, Cell, Function, Class, Instance, Method, Iter as IterKind, Range, Lock, Thread}
use Rattle.py_code.specs.declared.program.Root.{Root}
use Rattle.py_base.specs.NameLists.{has}
use Rattle.py_code.specs.Right.{cell_root, cells_of, class_root, class_roots, differ, HasRoots, main_name, names_of, own_name, roots_of, text_root, texts_by, texts_of}
use Rattle.py_verify.specs.inner.Tests.{any_long, are_cells, are_classes, are_roots, are_texts, is_cell_by, is_class_by, is_empty, is_long_by, is_text_by, IsFormed}

abbrev root : Kind → ℕ → List ℕ → Root
root k n x = record { kind = k; number = n; bytes = x }

empty_is : (x : List ℕ) → is_empty x ≡ true → x ≡ []
empty_is [] h = refl
empty_is (b ∷ x) h = absurd (cc)

cell_is : (k : Kind) (n : ℕ) (x : List ℕ) → is_cell_by k n ≡ true → root k n x ≡ cell_root x
cell_is Str n x h = absurd (cc)
cell_is Tuple n x h = absurd (cc)
cell_is ListKind n x h = absurd (cc)
cell_is Dict n x h = absurd (cc)
cell_is Cell n x h = let e : n ≡ 0 = eqb-true n 0 h in ap (λ m. record { kind = Cell; number = m; bytes = x }) e
cell_is Function n x h = absurd (cc)
cell_is Class n x h = absurd (cc)
cell_is Instance n x h = absurd (cc)
cell_is Method n x h = absurd (cc)
cell_is IterKind n x h = absurd (cc)
cell_is Range n x h = absurd (cc)
cell_is Lock n x h = absurd (cc)
cell_is Thread n x h = absurd (cc)

text_is : (k : Kind) (n : ℕ) (x : List ℕ) → is_text_by k n ≡ true → root k n x ≡ text_root x
text_is Str n x h = let e : n ≡ 0 = eqb-true n 0 h in ap (λ m. record { kind = Str; number = m; bytes = x }) e
text_is Tuple n x h = absurd (cc)
text_is ListKind n x h = absurd (cc)
text_is Dict n x h = absurd (cc)
text_is Cell n x h = absurd (cc)
text_is Function n x h = absurd (cc)
text_is Class n x h = absurd (cc)
text_is Instance n x h = absurd (cc)
text_is Method n x h = absurd (cc)
text_is IterKind n x h = absurd (cc)
text_is Range n x h = absurd (cc)
text_is Lock n x h = absurd (cc)
text_is Thread n x h = absurd (cc)

class_is : (c : ℕ) (k : Kind) (n : ℕ) (x : List ℕ) → is_class_by c k n x ≡ true → root k n x ≡ class_root c
class_is c Str n x h = absurd (cc)
class_is c Tuple n x h = absurd (cc)
class_is c ListKind n x h = absurd (cc)
class_is c Dict n x h = absurd (cc)
class_is c Cell n x h = absurd (cc)
class_is c Function n x h = absurd (cc)
class_is c Class n x h = let p = and_parts (n == c) (is_empty x) h in let e : n ≡ c = eqb-true n c p.0 in
    ap (λ m. record { kind = Class; number = m; bytes = x }) e ∙
    ap (λ y. record { kind = Class; number = c; bytes = y }) (empty_is x p.1)
class_is c Instance n x h = absurd (cc)
class_is c Method n x h = absurd (cc)
class_is c IterKind n x h = absurd (cc)
class_is c Range n x h = absurd (cc)
class_is c Lock n x h = absurd (cc)
class_is c Thread n x h = absurd (cc)

-- the strings and the cells of the roots are these
abbrev Tells : List Root → List (List ℕ) → List (List ℕ) → Type 0
Tells rs ts ns = (texts_of rs ≡ ts) × (cells_of rs ≡ ns)

abbrev IsMade : List Root → Type 0
IsMade rs = rs ≡ map text_root (texts_of rs) ++ map cell_root (cells_of rs)

-- the one way: a list that passes is made of its strings and cells
cells_made : (rs : List Root) → are_cells rs ≡ true → (rs ≡ map cell_root (cells_of rs)) × (texts_of rs ≡ [])
unfolding texts_of cells_of
cells_made [] h = (refl, refl)
cells_made (r ∷ rs) h =
    let p = and_parts (is_cell_by r.kind r.number) (are_cells rs) h in
    let e : r ≡ cell_root r.bytes = cell_is r.kind r.number r.bytes p.0 in
    let m = cells_made rs p.1 in
    subst (λ y. (y ∷ rs ≡ map cell_root (cells_of (y ∷ rs))) × (texts_of (y ∷ rs) ≡ [])) (sym e)
    (ap (λ l. cell_root r.bytes ∷ l) m.0, m.1)

texts_made : (rs : List Root) → are_texts rs ≡ true → IsMade rs
unfolding texts_of cells_of
texts_made [] h = refl
texts_made (r ∷ rs) h = by_test (is_text_by r.kind r.number) refl h (texts_made rs)
  where
    by_test : (b : Bool) → is_text_by r.kind r.number ≡ b → (if b then are_texts rs else are_cells (r ∷ rs)) ≡ true →
        (are_texts rs ≡ true → IsMade rs) → IsMade (r ∷ rs)
    by_test true e g more = subst (λ y. IsMade (y ∷ rs)) (sym (text_is r.kind r.number r.bytes e))
        (ap (λ l. text_root r.bytes ∷ l) (more g))
    by_test false e g more = let m = cells_made (r ∷ rs) g in m.0 ∙
        ap (λ ts. map text_root ts ++ map cell_root (cells_of (r ∷ rs))) (sym m.1)

classes_made : (n c : ℕ) (rs : List Root) → are_classes n c rs ≡ true →
    rs ≡ class_roots c n ++ map text_root (texts_of rs) ++ map cell_root (cells_of rs)
unfolding texts_of cells_of
classes_made zero c rs h = texts_made rs h
classes_made (suc n) c [] h = absurd (cc)
classes_made (suc n) c (r ∷ rs) h =
    let p = and_parts (is_class_by c r.kind r.number r.bytes) (are_classes n (c + 1) rs) h in
    let e : r ≡ class_root c = class_is c r.kind r.number r.bytes p.0 in
    subst (λ y. y ∷ rs ≡ class_roots c (suc n) ++ map text_root (texts_of (y ∷ rs)) ++ map cell_root
    (cells_of (y ∷ rs))) (sym e) (ap (λ l. class_root c ∷ l) (classes_made n (c + 1) rs p.1))

roots_made : (rs : List Root) → are_roots rs ≡ true → rs ≡ roots_of (texts_of rs) (names_of rs)
unfolding texts_of cells_of
roots_made [] h = absurd (cc)
roots_made (r ∷ rs) h =
    let p = and_parts (is_cell_by r.kind r.number && is_empty r.bytes) (are_classes 20 0 rs) h in
    let q = and_parts (is_cell_by r.kind r.number) (is_empty r.bytes) p.0 in
    let e : r ≡ cell_root r.bytes = cell_is r.kind r.number r.bytes q.0 in
    let z : r ≡ cell_root [] = e ∙ ap cell_root (empty_is r.bytes q.1) in
    subst (λ y. y ∷ rs ≡ roots_of (texts_of (y ∷ rs)) (names_of (y ∷ rs))) (sym z)
    (ap (λ l. cell_root [] ∷ l) (classes_made 20 0 rs p.1))

-- the other way: what is made so passes
cells_pass : (ns : List (List ℕ)) → are_cells (map cell_root ns) ≡ true
cells_pass [] = refl
cells_pass (x ∷ ns) = cells_pass ns

texts_pass : (ts ns : List (List ℕ)) → are_texts (map text_root ts ++ map cell_root ns) ≡ true
texts_pass [] [] = refl
texts_pass [] (x ∷ ns) = cells_pass ns
texts_pass (x ∷ ts) ns = texts_pass ts ns

class_pass : (c : ℕ) → (c == c) ≡ true
class_pass c = eq-eqb c c refl

classes_pass : (n c : ℕ) (rs : List Root) → are_texts rs ≡ true → are_classes n c (class_roots c n ++ rs) ≡ true
classes_pass zero c rs h = h
classes_pass (suc n) c rs h = rw (class_pass c) (classes_pass n (c + 1) rs h)

roots_pass : (ts ns : List (List ℕ)) → are_roots (roots_of ts ns) ≡ true
roots_pass ts ns = classes_pass 20 0 (map text_root ts ++ map cell_root ns) (texts_pass ts ns)

-- strings that are not too long
short_from : (rs : List Root) → any_long rs ≡ false → All (λ t. length t ≤ 1048576) (texts_of rs)
unfolding texts_of
short_from [] h = All-nil (λ t. length t ≤ 1048576)
short_from (r ∷ rs) h = let p = or_parts (is_long_by r.kind r.bytes) (any_long rs) h in
    by_kind r.kind r.bytes p.0 (short_from rs p.1)
  where
    by_kind : (k : Kind) (x : List ℕ) → is_long_by k x ≡ false → All (λ t. length t ≤ 1048576) (texts_of rs) →
        All (λ t. length t ≤ 1048576) (texts_by k x (texts_of rs))
    by_kind Str x p more = All-cons (λ t. length t ≤ 1048576) x (texts_of rs) (ltb-false 1048576 (length x) p) more
    by_kind Tuple x p more = more
    by_kind ListKind x p more = more
    by_kind Dict x p more = more
    by_kind Cell x p more = more
    by_kind Function x p more = more
    by_kind Class x p more = more
    by_kind Instance x p more = more
    by_kind Method x p more = more
    by_kind IterKind x p more = more
    by_kind Range x p more = more
    by_kind Lock x p more = more
    by_kind Thread x p more = more

short_to : (rs : List Root) → All (λ t. length t ≤ 1048576) (texts_of rs) → any_long rs ≡ false
unfolding texts_of
short_to [] h = refl
short_to (r ∷ rs) h = by_kind r.kind r.bytes (short_to rs) h
  where
    by_kind : (k : Kind) (x : List ℕ) → (All (λ t. length t ≤ 1048576) (texts_of rs) → any_long rs ≡ false) →
        All (λ t. length t ≤ 1048576) (texts_by k x (texts_of rs)) → (is_long_by k x || any_long rs) ≡ false
    by_kind Str x more g = or_from (nat_lt 1048576 (length x)) (any_long rs)
        (le-ltb 1048576 (length x) (All-head (λ t. length t ≤ 1048576) x (texts_of rs) g))
        (more (All-tail (λ t. length t ≤ 1048576) x (texts_of rs) g))
    by_kind Tuple x more g = more g
    by_kind ListKind x more g = more g
    by_kind Dict x more g = more g
    by_kind Cell x more g = more g
    by_kind Function x more g = more g
    by_kind Class x more g = more g
    by_kind Instance x more g = more g
    by_kind Method x more g = more g
    by_kind IterKind x more g = more g
    by_kind Range x more g = more g
    by_kind Lock x more g = more g
    by_kind Thread x more g = more g

-- the three tests together
pub formed_from : (rs : List Root) → are_roots rs ≡ true → length rs < 2 ^ 16 → any_long rs ≡ false → IsFormed rs
formed_from rs h few long = record { form = roots_made rs h; few = few; short = short_from rs long }

pub formed_roots : (rs : List Root) → IsFormed rs → are_roots rs ≡ true
formed_roots rs f = ap are_roots f.form ∙ roots_pass (texts_of rs) (names_of rs)

pub formed_short : (rs : List Root) → IsFormed rs → any_long rs ≡ false
formed_short rs f = short_to rs f.short

pub not_listed : (ok : Bool) (rs : List Root) → ok ≡ are_roots rs → ok ≡ false → IsTrue false ↔ IsFormed rs
not_listed ok rs is bad = (λ e. absurd (cc), λ f. let h = formed_roots rs f in absurd (cc))

pub too_many : (rs : List Root) → 65535 < length rs → IsTrue false ↔ IsFormed rs
too_many rs lt = (λ e. absurd (cc), λ f. let h = f.few in absurd (omega (arith, h, lt)))

pub all_formed : (ok long : Bool) (rs : List Root) → ok ≡ are_roots rs → ok ≡ true → length rs ≤ 65535 →
    long ≡ any_long rs → IsTrue (not long) ↔ IsFormed rs
all_formed ok true rs is good le e = (λ h. absurd (cc), λ f. let h = formed_short rs f in absurd (cc))
all_formed ok false rs is good le e = (λ h. formed_from rs (sym is ∙ good) (omega (arith, le)) (sym e), λ f. refl)

-- a list that has its form begins with a cell, and the other cells are those of the names
pub names_rest : (rs : List Root) (r : Root) (rest : List Root) → rs ≡ r ∷ rest → IsFormed rs →
    names_of rs ≡ cells_of rest
unfolding cells_of
names_rest rs r rest e f =
    let h : are_roots (r ∷ rest) ≡ true = ap are_roots (sym e) ∙ formed_roots rs f in
    let p = and_parts (is_cell_by r.kind r.number && is_empty r.bytes) (are_classes 20 0 rest) h in
    let q = and_parts (is_cell_by r.kind r.number) (is_empty r.bytes) p.0 in
    let c : r ≡ cell_root r.bytes = cell_is r.kind r.number r.bytes q.0 in
    ap names_of e ∙ ap (λ y. names_of (y ∷ rest)) c

pub formed_some : (rs : List Root) → rs ≡ [] → IsFormed rs → ⊥
formed_some rs e f = let h : are_roots [] ≡ true = ap are_roots (sym e) ∙ formed_roots rs f in absurd (cc)

pub roots_formed : (rs : List Root) → HasRoots rs → IsFormed rs
roots_formed rs h = record { form = h.form; few = h.few; short = h.short }

-- what is left to test of a list that has its form
pub roots_apart : (rs : List Root) (r : Root) (rest : List Root) → rs ≡ r ∷ rest → differ [] (cells_of rest) ≡ false →
    HasRoots rs → ⊥
roots_apart rs r rest e no_two h =
    let n = names_rest rs r rest e (roots_formed rs h) in
    let a : differ [] (cells_of rest) ≡ true = ap (differ []) (sym n) ∙ h.apart in
    absurd (cc)

pub roots_main : (ok : Bool) (rs : List Root) (r : Root) (rest : List Root) (names : List (List ℕ)) → rs ≡ r ∷ rest →
    names ≡ cells_of rest → (IsTrue ok ↔ (IsTrue (has own_name names) → last_or None (texts_of rs) ≡ Some main_name)) →
    ok ≡ false → HasRoots rs → ⊥
roots_main ok rs r rest names e is iff bad h =
    let n = names_rest rs r rest e (roots_formed rs h) in
    let m : IsTrue (has own_name names) → last_or None (texts_of rs) ≡ Some main_name = λ y.
    h.main (ap (has own_name) (n ∙ sym is) ∙ y) in
    let y : IsTrue ok = iff.1 m in
    absurd (cc)

pub roots_right : (ok : Bool) (rs : List Root) (r : Root) (rest : List Root) (names : List (List ℕ)) → rs ≡ r ∷ rest →
    IsFormed rs → names ≡ cells_of rest → differ [] (cells_of rest) ≡ true →
    (IsTrue ok ↔ (IsTrue (has own_name names) → last_or None (texts_of rs) ≡ Some main_name)) → ok ≡ true →
    (names ≡ names_of rs) × HasRoots rs
roots_right ok rs r rest names e f is apart iff good =
    let n = names_rest rs r rest e f in
    let m = iff.0 good in (
      is ∙ sym n,
      record {
        form = f.form;
        few = f.few;
        short = f.short;
        apart = ap (differ []) n ∙ apart;
        main = λ y.
            m (ap (has own_name) (is ∙ sym n) ∙ y);
      },
    )

-- a loop over the classes
abbrev Passes : ℕ → List Root → List Root → Type 0
Passes c rest all = are_classes (20 - c) c rest ≡ are_classes 20 0 all

left_over : (c : ℕ) → c < 20 → 20 - c ≡ suc (20 - (c + 1))
left_over c lt = omega (arith, lt)

pub class_none : (c : ℕ) (rest all : List Root) → c < 20 → rest ≡ [] → Passes c rest all → false ≡ are_classes 20 0 all
class_none c rest all lt e inv = sym (ap (λ n. are_classes n c []) (left_over c lt)) ∙
    ap (are_classes (20 - c) c) (sym e) ∙ inv

one_class : (c : ℕ) (rest all : List Root) (r : Root) (more : List Root) → c < 20 → rest ≡ r ∷ more → Passes c rest all
    → (is_class_by c r.kind r.number r.bytes && are_classes (20 - (c + 1)) (c + 1) more) ≡ are_classes 20 0 all
one_class c rest all r more lt e inv = sym (ap (λ n. are_classes n c (r ∷ more)) (left_over c lt)) ∙
    ap (are_classes (20 - c) c) (sym e) ∙ inv

pub class_bad : (ok : Bool) (c : ℕ) (rest all : List Root) (r : Root) (more : List Root) → c < 20 → rest ≡ r ∷ more →
    ok ≡ is_class_by c r.kind r.number r.bytes → ok ≡ false → Passes c rest all → false ≡ are_classes 20 0 all
class_bad ok c rest all r more lt e is bad inv = ap (λ b. b && are_classes (20 - (c + 1)) (c + 1) more) (sym bad ∙ is)
    ∙ one_class c rest all r more lt e inv

pub class_more : (ok : Bool) (c : ℕ) (rest all : List Root) (r : Root) (more : List Root) → c < 20 → rest ≡ r ∷ more →
    ok ≡ is_class_by c r.kind r.number r.bytes → ok ≡ true → Passes c rest all → Passes (c + 1) more all
class_more ok c rest all r more lt e is good inv = ap (λ b. b && are_classes (20 - (c + 1)) (c + 1) more)
    (sym good ∙ is) ∙ one_class c rest all r more lt e inv

pub class_end : (ok : Bool) (c : ℕ) (rest all : List Root) → 20 ≤ c → ok ≡ are_texts rest → Passes c rest all →
    ok ≡ are_classes 20 0 all
class_end ok c rest all le is inv = let z : 20 - c ≡ 0 = omega (arith, le) in is ∙
    sym (ap (λ n. are_classes n c rest) z) ∙ inv

-- what the search for two equal names answers
pub names_none : (v : Option (List (List ℕ))) (ns : List (List ℕ)) → v ≡ None →
    MatchOption v (differ [] ns ≡ false) (λ s. (s ≡ ns) × (differ [] ns ≡ true)) → differ [] ns ≡ false
names_none None ns e m = m
names_none (Some x) ns e m = absurd (cc)

pub names_some : (v : Option (List (List ℕ))) (ns x : List (List ℕ)) → v ≡ Some x →
    MatchOption v (differ [] ns ≡ false) (λ s. (s ≡ ns) × (differ [] ns ≡ true)) → (x ≡ ns) × (differ [] ns ≡ true)
names_some None ns x e m = absurd (cc)
names_some (Some y) ns x e m = let k : y ≡ x = cc in (sym k ∙ m.0, m.1)
