-- The roots of a program are right, where it isn't too large.
use Rattle.std.proofs.Common.{◌≡◌, ◌∙◌, ℕ, ◌≤◌, List, [], ◌∷◌, ◌++◌, Option, Some, None, Bool, true, false, nat_lt, refl, sym, ap, subst, arith, length, append_assoc}
use Rattle.std.specs.Prelude.{All, IsTrue, if◌then◌else◌, codes}
use Rattle.std.specs.List.{last_or, list_any}
use Rattle.std.specs.Str.{bytes_eq}
use Rattle.std.proofs.lemmas.Bool.{ltb-false, or_parts}
use Rattle.std.proofs.lemmas.List.Elements.{All-nil, All-cons, All-append}
use Rattle.std.proofs.lemmas.List.Folds.{list_any-append}
use Rattle.py_code.specs.Right.{HasRoots, differ, own_name, main_name, roots_of}
use Rattle.py_code.proofs.RightRows.{texts_told, names_told}
use Rattle.py_tree.specs.declared.stmt.Stmt.{Stmt}
use Rattle.py_templates.specs.Names.{main_texts}
use Rattle.py_templates.specs.Uses.{Use, Text, Global, Keys, cells_from}
use Rattle.py_base.specs.NameLists.{has, with_name}
use Rattle.py_templates.specs.Whole as whole

-- names that are put in once differ
differ_more : (before xs : List (List ℕ)) (x : List ℕ) → differ before xs ≡ true → has x (before ++ xs) ≡ false →
    differ before (xs ++ x ∷ []) ≡ true
differ_more before [] x d h = by_test (has x before)
    (or_parts (has x before) false (sym (list_any-append (bytes_eq x) before []) ∙ h)).0
  where
    by_test : (b : Bool) → b ≡ false → (if b then false else true) ≡ true
    by_test true e = absurd (cc)
    by_test false e = refl
differ_more before (y ∷ xs) x d h = by_test (has y before) d
    (λ e. differ_more (before ++ y ∷ []) xs x e (ap (has x) (append_assoc before (y ∷ []) xs) ∙ h))
  where
    by_test : (b : Bool) → (if b then false else differ (before ++ y ∷ []) xs) ≡ true →
        (differ (before ++ y ∷ []) xs ≡ true → differ (before ++ y ∷ []) (xs ++ x ∷ []) ≡ true) →
        (if b then false else differ (before ++ y ∷ []) (xs ++ x ∷ [])) ≡ true
    by_test true e more = absurd (cc)
    by_test false e more = more e

differ_with : (ns : List (List ℕ)) (x : List ℕ) → differ [] ns ≡ true → differ [] (with_name ns x) ≡ true
differ_with ns x d = by_test (has x ns) refl
  where
    by_test : (b : Bool) → has x ns ≡ b → differ [] (if b then ns else ns ++ x ∷ []) ≡ true
    by_test true e = d
    by_test false e = differ_more [] ns x d e

pub cells_differ : (ns : List (List ℕ)) (us : List Use) → differ [] ns ≡ true → differ [] (cells_from ns us) ≡ true
cells_differ ns [] d = d
cells_differ ns (Text x ∷ us) d = cells_differ ns us d
cells_differ ns (Global x ∷ us) d = cells_differ (with_name ns x) us (differ_with ns x d)
cells_differ ns (Keys c ks ∷ us) d = cells_differ ns us d

last_is : (o : Option (List ℕ)) (xs : List (List ℕ)) (x : List ℕ) → last_or o (xs ++ x ∷ []) ≡ Some x
last_is o [] x = refl
last_is o (y ∷ xs) x = last_is (Some y) xs x

main_last : (ts cs : List (List ℕ)) → IsTrue (has own_name cs) → last_or None (ts ++ main_texts cs) ≡ Some main_name
main_last ts cs h = by_test (has own_name cs) h
  where
    by_test : (b : Bool) → b ≡ true → last_or None (ts ++ (if b then codes "__main__" ∷ [] else [])) ≡ Some main_name
    by_test true e = last_is None ts main_name
    by_test false e = absurd (cc)

all_short : (ts : List (List ℕ)) → list_any whole.is_long ts ≡ false → All (λ t. length t ≤ 1048576) ts
all_short [] h = All-nil (λ t. length t ≤ 1048576)
all_short (t ∷ ts) h = let q = or_parts (whole.is_long t) (list_any whole.is_long ts) h in
    All-cons (λ t. length t ≤ 1048576) t ts (ltb-false 1048576 (length t) q.0) (all_short ts q.1)

main_short : (cs : List (List ℕ)) → All (λ t. length t ≤ 1048576) (main_texts cs)
main_short cs = by_test (has own_name cs)
  where
    by_test : (b : Bool) → All (λ t. length t ≤ 1048576) (if b then codes "__main__" ∷ [] else [])
    by_test true = All-cons (λ t. length t ≤ 1048576) main_name [] (omega arith) (All-nil (λ t. length t ≤ 1048576))
    by_test false = All-nil (λ t. length t ≤ 1048576)

-- the parts of what is too large
if_none : (b : Bool) (l : Option ℕ) → (if b then Some 1 else l) ≡ None → (b ≡ false) × (l ≡ None)
if_none true l e = absurd (cc)
if_none false l e = (refl, e)

if_false : (b c : Bool) → (if b then true else c) ≡ false → (b ≡ false) × (c ≡ false)
if_false true c e = absurd (cc)
if_false false c e = (refl, e)

module _ (locals : List (List (List ℕ))) (ss : List Stmt) where
  pub parts : whole.too_large locals ss ≡ None →
      (whole.too_many locals ss ≡ false) × (whole.large_bodies (whole.names_of locals ss) 0 (whole.bodies ss) ≡ None)
  parts e = if_none (whole.too_many locals ss) (whole.large_bodies (whole.names_of locals ss) 0 (whole.bodies ss)) e

  pub roots_right : whole.too_many locals ss ≡ false → HasRoots (whole.roots locals ss)
  roots_right e =
      let p = if_false (nat_lt 65535 (length (whole.bodies ss)))
      (if nat_lt 65535 (length (whole.roots locals ss)) then true else list_any whole.is_long
      (whole.texts locals ss)) e in
      let q = if_false (nat_lt 65535 (length (whole.roots locals ss))) (list_any whole.is_long (whole.texts locals ss))
      p.1 in
      let ts = whole.texts locals ss ++ main_texts (whole.cells locals ss) in
      let cs = whole.cells locals ss in
      let few = ltb-false 65535 (length (whole.roots locals ss)) q.0 in
      let short = All-append (λ t. length t ≤ 1048576) (whole.texts locals ss) (main_texts cs)
      (all_short (whole.texts locals ss) q.1) (main_short cs) in
      record {
        form = λ i. roots_of (sym (texts_told ts cs) i) (sym (names_told ts cs) i);
        few = omega (arith, few);
        short = subst (All (λ t. length t ≤ 1048576)) (sym (texts_told ts cs)) short;
        apart = ap (differ []) (names_told ts cs) ∙ cells_differ [] (whole.uses locals ss) refl;
        main = λ h. ap (last_or None) (texts_told ts cs) ∙
            main_last (whole.texts locals ss) cs (ap (has own_name) (sym (names_told ts cs)) ∙ h);
      }
