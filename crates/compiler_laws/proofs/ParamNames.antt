-- The parameters of a `def` that isn't refused differ, and names that differ and stand in a list are no more than it is
-- long.
use Rattle.std.proofs.Common.{◌≡◌, ◌||◌, ℕ, ◌≤◌, Bool, true, false, List, [], ◌∷◌, ◌++◌, length, map, refl, sym, ◌∙◌, subst}
use Rattle.std.specs.Prelude.{if◌then◌else◌}
use Rattle.std.specs.Cmp.{IsEquivalence, decided}
use Rattle.std.specs.List.{AllByRecursion, IsDistinct}
use Rattle.std.specs.Str.{bytes_eq}
use Rattle.std.proofs.lemmas.Bool.{or_parts}
use Rattle.std.proofs.lemmas.List.Folds.{list_any-append}
use Rattle.std.proofs.lemmas.Map.Made.{length-le_from_is_member}
use Rattle.std.proofs.lemmas.Slice.Eq.{bytes_eq-Decides}
use Rattle.py_tree.specs.declared.stmt.Param.{Param}
use Rattle.py_names.specs.declared.event.Event.TheVariants.{Doubled}
use Rattle.py_base.specs.NameLists.{has, with_name}
use Rattle.py_names.specs.Outline.{label, repeated, read_some, parameters}
use Rattle.compiler_laws.proofs.Clear.{Clears, clear_front, clear_back}

same_name : IsEquivalence bytes_eq
same_name = decided bytes_eq bytes_eq-Decides

-- ---- names that differ

-- from these, and from one another
pub record Differ (before : List (List ℕ)) (xs : List (List ℕ)) : Type 0 where
  pub apart : AllByRecursion (λ x. has x before ≡ false) xs
  pub distinct : IsDistinct bytes_eq xs

abbrev pub param_names : List Param → List (List ℕ)
param_names ps = map (λ p. p.name) ps

-- those that differ from a list with one more name
parted : (before : List (List ℕ)) (x : List ℕ) (xs : List (List ℕ)) →
    AllByRecursion (λ y. has y (before ++ x ∷ []) ≡ false) xs →
    AllByRecursion (λ y. has y before ≡ false) xs × AllByRecursion (λ y. bytes_eq x y ≡ false) xs
parted before x [] h = (tt, tt)
parted before x (y ∷ xs) h =
    let p = or_parts (has y before) (bytes_eq y x || false) (sym (list_any-append (bytes_eq y) before (x ∷ [])) ∙ h.0)
    in
    let q = or_parts (bytes_eq y x) false p.1 in
    let r = parted before x xs h.1 in
    ((p.0, r.0), (same_name.symm x y ∙ q.0, r.1))

differ_more : (before : List (List ℕ)) (x : List ℕ) (xs : List (List ℕ)) → has x before ≡ false →
    Differ (with_name before x) xs → Differ before (x ∷ xs)
unfolding IsDistinct
differ_more before x xs e d =
    let p = parted before x xs (subst (λ b.
    AllByRecursion (λ y. has y (if b then before else before ++ x ∷ []) ≡ false) xs) e d.apart) in
    record { apart = (e, p.0); distinct = (p.1, d.distinct) }

not_repeated : (l : ℕ) (before : List (List ℕ)) (x : List ℕ) → Clears (repeated l before x) → has x before ≡ false
not_repeated l before x h = by_test (has x before) h
  where
    by_test : (b : Bool) → Clears (if b then Doubled l ∷ [] else []) → b ≡ false
    by_test true g = absurd g.each.0
    by_test false g = refl

-- The parameters of a `def` that isn't refused differ.
pub params_differ : (l : ℕ) (before : List (List ℕ)) (ps : List Param) → Clears (parameters l before ps) →
    Differ before (param_names ps)
unfolding IsDistinct
params_differ l before [] h = record { apart = tt; distinct = tt }
params_differ l before (p ∷ ps) h =
    let more = parameters l (with_name before p.name) ps in
    let one = clear_front (label l p.name ++ repeated l before p.name) (read_some l p.default)
    (clear_front (label l p.name ++ repeated l before p.name ++ read_some l p.default) more h) in
    differ_more before p.name (param_names ps)
    (not_repeated l before p.name (clear_back (label l p.name) (repeated l before p.name) one))
    (params_differ l (with_name before p.name) ps
    (clear_back (label l p.name ++ repeated l before p.name ++ read_some l p.default) more h))

-- Names that differ and are in a list are no more than it is long.
pub no_more : (xs ys : List (List ℕ)) → Differ [] xs → ((x : List ℕ) → has x xs ≡ true → has x ys ≡ true) →
    length xs ≤ length ys
no_more xs ys d h = length-le_from_is_member same_name xs ys d.distinct h
