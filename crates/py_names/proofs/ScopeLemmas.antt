-- The laws of scopes.
use Rattle.std.proofs.Common.{◌≡◌, ℕ, Bool, true, false, cond, not, ◌&&◌, ◌||◌, List, [], ◌∷◌, ◌++◌, filter, Option, Some, None, refl, sym, ap, ◌∙◌}
use Rattle.std.specs.List.{list_any, AllByRecursion, IsDistinct}
use Rattle.std.specs.Str.{bytes_eq}
use Rattle.std.proofs.lemmas.Bool.{or_right}
use Rattle.std.proofs.lemmas.Cmp.{nat_list_eq_equiv}
use Rattle.std.proofs.lemmas.Map.Keys.{IsDistinct-push}
use Rattle.std.proofs.lemmas.List.Folds.{list_any-append}
use Rattle.std.proofs.lemmas.Slice.Eq.{bytes_eq-Decides}
use Rattle.py_names.specs.declared.event.Event.{Event}
use Rattle.py_names.specs.declared.event.Event.TheVariants.{Enter, Leave, Takes, Uses, Binds, Declares, Misplaced, Doubled}
use Rattle.py_names.specs.declared.event.BodyKind.TheVariants.{Module}
use Rattle.py_base.specs.NameLists.{has, with_name}
use Rattle.py_names.specs.Scopes.{noted, noted_all, mention, binding, declaration, kind_of, is_module, no_names, names_from, is_local, is_global, scope_of}
use Rattle.py_names.specs.ScopeLaws.{names_it, mentions, binds, declares, is_own}

pub or_false : (a : Bool) → (a || false) ≡ a
or_false true = refl
or_false false = refl

or_true : (a : Bool) → (a || true) ≡ true
or_true true = refl
or_true false = refl

pub or_assoc : (a b d : Bool) → ((a || b) || d) ≡ (a || (b || d))
or_assoc true b d = refl
or_assoc false b d = refl

turned : (a b : Bool) → (not a && b) ≡ (b && not a)
turned true true = refl
turned true false = refl
turned false true = refl
turned false false = refl

-- ---- lists of names

module _ (n : List ℕ) where
  pub has-with : (ns : List (List ℕ)) (m : List ℕ) → has n (with_name ns m) ≡ (has n ns || bytes_eq n m)
  has-with ns m = go (has m ns) refl
    where
      same : (q : Bool) → bytes_eq n m ≡ q → has m ns ≡ true → has n ns ≡ (has n ns || q)
      same false g f = sym (or_false (has n ns))
      same true g f = ap (λ z. has z ns) ((bytes_eq-Decides n m).0 g) ∙ f ∙ sym (or_true (has n ns))

      go : (q : Bool) → has m ns ≡ q → has n (cond q ns (ns ++ m ∷ [])) ≡ (has n ns || bytes_eq n m)
      go true f = same (bytes_eq n m) refl f
      go false f = list_any-append (bytes_eq n) ns (m ∷ []) ∙ ap (λ z. has n ns || z) (or_false (bytes_eq n m))

  has_noted : (ns : List (List ℕ)) (o : Option (List ℕ)) → has n (noted ns o) ≡ (has n ns || names_it n o)
  has_noted ns None = sym (or_false (has n ns))
  has_noted ns (Some m) = has-with ns m

  pub has-all : (f : Event → Option (List ℕ)) (ns : List (List ℕ)) (es : List Event) →
      has n (noted_all f ns es) ≡ (has n ns || list_any (λ e. names_it n (f e)) es)
  has-all f ns [] = sym (or_false (has n ns))
  has-all f ns (e ∷ es) =
      has-all f (noted ns (f e)) es ∙ ap (λ z. z || list_any (λ x. names_it n (f x)) es) (has_noted ns (f e))
      ∙ or_assoc (has n ns) (names_it n (f e)) (list_any (λ x. names_it n (f x)) es)

  kept : (q b h r p : Bool) → (b ≡ true → q ≡ p) → h ≡ (p && r) → cond q (b || h) h ≡ (p && (b || r))
  kept true false h r p e f = f
  kept false false h r p e f = f
  kept true true h r p e f = ap (λ z. z && true) (e refl)
  kept false true h r p e f = f ∙ ap (λ z. z && r) (sym (e refl)) ∙ ap (λ z. z && true) (e refl)

  has_cond : (q : Bool) (x : List ℕ) (ns : List (List ℕ)) →
      has n (cond q (x ∷ ns) ns) ≡ cond q (bytes_eq n x || has n ns) (has n ns)
  has_cond true x ns = refl
  has_cond false x ns = refl

  has_filter : (p : List ℕ → Bool) (ns : List (List ℕ)) → has n (filter p ns) ≡ (p n && has n ns)
  has_filter p [] = nothing (p n)
    where
      nothing : (a : Bool) → false ≡ (a && false)
      nothing true = refl
      nothing false = refl
  has_filter p (x ∷ ns) =
      has_cond (p x) x (filter p ns)
      ∙ kept (p x) (bytes_eq n x) (has n (filter p ns)) (has n ns) (p n) (λ e. sym (ap p ((bytes_eq-Decides n x).0 e)))
      (has_filter p ns)

  -- ---- bodies

  same_front : (q a b : Bool) → (a ≡ true → b ≡ true) → (q || a) ≡ true → (q || b) ≡ true
  same_front true a b f e = refl
  same_front false a b f e = f e

  mentions_bound : (es : List Event) → binds es n ≡ true → mentions es n ≡ true
  mentions_bound [] e = e
  mentions_bound (Enter k ∷ es) e = mentions_bound es e
  mentions_bound (Leave ∷ es) e = mentions_bound es e
  mentions_bound (Takes m ∷ es) e = same_front (bytes_eq n m) (binds es n) (mentions es n) (mentions_bound es) e
  mentions_bound (Uses l m ∷ es) e = or_right (bytes_eq n m) (mentions es n) (mentions_bound es e)
  mentions_bound (Binds l m ∷ es) e = same_front (bytes_eq n m) (binds es n) (mentions es n) (mentions_bound es) e
  mentions_bound (Declares l m ∷ es) e = or_right (bytes_eq n m) (mentions es n) (mentions_bound es e)
  mentions_bound (Misplaced l ∷ es) e = mentions_bound es e
  mentions_bound (Doubled l ∷ es) e = mentions_bound es e

  own : (es : List Event) → is_local (names_from no_names es) n ≡ is_own es n
  own es =
      ap (λ z. not (is_module (kind_of Module es)) && (z && not (has n (noted_all declaration [] es))))
      (has-all binding [] es)
      ∙ ap (λ z. not (is_module (kind_of Module es)) && (binds es n && not z)) (has-all declaration [] es)

  absorbed : (a b d m : Bool) → (b ≡ true → m ≡ true) → ((a && (b && d)) && m) ≡ (a && (b && d))
  absorbed false b d m f = refl
  absorbed true false d m f = refl
  absorbed true true false m f = refl
  absorbed true true true m f = f refl

  pub local_law : (es : List Event) → has n (scope_of (names_from no_names es)).locals ≡ is_own es n
  local_law es =
      has_filter (is_local (names_from no_names es)) (noted_all mention [] es)
      ∙ ap (λ z. z && has n (noted_all mention [] es)) (own es) ∙ ap (λ z. is_own es n && z) (has-all mention [] es)
      ∙ absorbed (not (is_module (kind_of Module es))) (binds es n) (not (declares es n)) (mentions es n)
      (mentions_bound es)

  pub others_law : (es : List Event) → has n (scope_of (names_from no_names es)).globals ≡
      (mentions es n && not (is_own es n))
  others_law es =
      has_filter (is_global (names_from no_names es)) (noted_all mention [] es)
      ∙ ap (λ z. not z && has n (noted_all mention [] es)) (own es) ∙
      ap (λ z. not (is_own es n) && z) (has-all mention [] es)
      ∙ turned (is_own es n) (mentions es n)

-- ---- each name once

noted_once : (ns : List (List ℕ)) (o : Option (List ℕ)) → IsDistinct bytes_eq ns → IsDistinct bytes_eq (noted ns o)
noted_once ns None d = d
noted_once ns (Some m) d = by_test (has m ns) refl
  where
    by_test : (q : Bool) → has m ns ≡ q → IsDistinct bytes_eq (cond q ns (ns ++ m ∷ []))
    by_test true e = d
    by_test false e = IsDistinct-push nat_list_eq_equiv ns m d e

all_once : (f : Event → Option (List ℕ)) (ns : List (List ℕ)) (es : List Event) → IsDistinct bytes_eq ns →
    IsDistinct bytes_eq (noted_all f ns es)
all_once f ns [] d = d
all_once f ns (e ∷ es) d = all_once f (noted ns (f e)) es (noted_once ns (f e) d)

mentioned_once : (es : List Event) → IsDistinct bytes_eq (noted_all mention [] es)
unfolding IsDistinct
mentioned_once es = all_once mention [] es tt

-- names that differ from one, and names that differ, without some of them
apart_kept : (m : List ℕ) (q : Bool) (x : List ℕ) (ns : List (List ℕ)) → bytes_eq m x ≡ false →
    AllByRecursion (λ y. bytes_eq m y ≡ false) ns → AllByRecursion (λ y. bytes_eq m y ≡ false) (cond q (x ∷ ns) ns)
apart_kept m true x ns e a = (e, a)
apart_kept m false x ns e a = a

apart_filter : (m : List ℕ) (p : List ℕ → Bool) (ns : List (List ℕ)) → AllByRecursion (λ y. bytes_eq m y ≡ false) ns →
    AllByRecursion (λ y. bytes_eq m y ≡ false) (filter p ns)
apart_filter m p [] a = tt
apart_filter m p (x ∷ ns) a = apart_kept m (p x) x (filter p ns) a.0 (apart_filter m p ns a.1)

once_kept : (q : Bool) (x : List ℕ) (ns : List (List ℕ)) → AllByRecursion (λ y. bytes_eq x y ≡ false) ns →
    IsDistinct bytes_eq ns → IsDistinct bytes_eq (cond q (x ∷ ns) ns)
unfolding IsDistinct
once_kept true x ns a d = (a, d)
once_kept false x ns a d = d

once_filter : (p : List ℕ → Bool) (ns : List (List ℕ)) → IsDistinct bytes_eq ns → IsDistinct bytes_eq (filter p ns)
unfolding IsDistinct
once_filter p [] d = tt
once_filter p (x ∷ ns) d = once_kept (p x) x (filter p ns) (apart_filter x p ns d.0) (once_filter p ns d.1)

pub locals_once : (es : List Event) → IsDistinct bytes_eq (scope_of (names_from no_names es)).locals
locals_once es = once_filter (is_local (names_from no_names es)) (noted_all mention [] es) (mentioned_once es)

pub others_once : (es : List Event) → IsDistinct bytes_eq (scope_of (names_from no_names es)).globals
others_once es = once_filter (is_global (names_from no_names es)) (noted_all mention [] es) (mentioned_once es)
