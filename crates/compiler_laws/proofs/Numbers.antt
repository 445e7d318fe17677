-- What is used has its number: each string and each global name is in its list, and each keyword list in its body's.
use Rattle.std.proofs.Common.{◌≡◌, ◌∙◌, ◌||◌, ◌==◌, ℕ, suc, ◌+◌, ◌<◌, List, [], ◌∷◌, ◌++◌, Some, None, Bool, true, false, cond, nat_lt, refl, sym, ap, subst, arith, length, map, get_or, unwrap_or}
use Rattle.std.specs.Prelude.{if◌then◌else◌}
use Rattle.std.specs.Bool.{Decides}
use Rattle.std.specs.Cmp.Lexicographic.{pointwise_decides}
use Rattle.std.specs.List.{list_any, position_or_len}
use Rattle.std.specs.Str.{bytes_eq}
use Rattle.std.proofs.lemmas.Bool.{ltb-true, or_left, or_right, eq-eqb}
use Rattle.std.proofs.lemmas.List.{get_or-map, length-map}
use Rattle.std.proofs.lemmas.List.Folds.{list_any-append}
use Rattle.std.proofs.lemmas.Slice.Eq.{bytes_eq-Decides}
use Rattle.py_templates.specs.Names.{number_in, text, same_names, list_number}
use Rattle.py_base.specs.NameLists.{has, with_name}
use Rattle.py_templates.specs.Uses.{Use, Text, Global, Keys, with_keys, texts_from, cells_from, keys_from}
use Rattle.py_templates.proofs.ExprInduct.{Every}
use Rattle.py_templates.proofs.Homes.{any_place, KeysFit}
use Rattle.compiler_laws.proofs.World.{known, inside, lim, Covers, Wide}

-- a name that is in a list has a number below its length
pub number_small : (x : List ℕ) (ns : List (List ℕ)) → has x ns ≡ true → number_in x ns < length ns
number_small x ns h =
    let e : nat_lt (position_or_len (bytes_eq x) ns) (length ns) ≡ true = sym (any_place (bytes_eq x) ns) ∙ h in
    let l = ltb-true (position_or_len (bytes_eq x) ns) (length ns) e in
    let n : number_in x ns ≡ position_or_len (bytes_eq x) ns =
    ap (λ b. unwrap_or (cond b (Some (position_or_len (bytes_eq x) ns)) None) 0) e in
    subst (λ i. i < length ns) (sym n) l

-- texts that are equal, and lists of names
bytes_same : (x : List ℕ) → bytes_eq x x ≡ true
bytes_same x = (bytes_eq-Decides x x).1 refl

names_decide : (xs ys : List (List ℕ)) → Decides (same_names xs ys) (xs ≡ ys)
names_decide = pointwise_decides bytes_eq-Decides

names_same : (xs : List (List ℕ)) → same_names xs xs ≡ true
names_same xs = (names_decide xs xs).1 refl

-- a list that grows keeps what it has, and has what was added
module _ {A : Type 0} (same : A → A → Bool) (alike : (x : A) → same x x ≡ true) where
  abbrev grown : List A → A → List A
  grown ns x = if list_any (same x) ns then ns else ns ++ x ∷ []

  pub still : (ns : List A) (x y : A) → list_any (same y) ns ≡ true → list_any (same y) (grown ns x) ≡ true
  still ns x y h = by_test (list_any (same x) ns)
    where
      by_test : (b : Bool) → list_any (same y) (if b then ns else ns ++ x ∷ []) ≡ true
      by_test true = h
      by_test false = list_any-append (same y) ns (x ∷ []) ∙
          or_left (list_any (same y) ns) (list_any (same y) (x ∷ [])) h

  pub added : (ns : List A) (x : A) → list_any (same x) (grown ns x) ≡ true
  added ns x = by_test (list_any (same x) ns) refl
    where
      by_test : (b : Bool) → list_any (same x) ns ≡ b → list_any (same x) (if b then ns else ns ++ x ∷ []) ≡ true
      by_test true e = e
      by_test false e = list_any-append (same x) ns (x ∷ []) ∙
          or_right (list_any (same x) ns) (list_any (same x) (x ∷ [])) (or_left (same x x) false (alike x))

-- strings
texts_keep : (ns : List (List ℕ)) (us : List Use) (y : List ℕ) → has y ns ≡ true → has y (texts_from ns us) ≡ true
texts_keep ns [] y h = h
texts_keep ns (Text x ∷ us) y h = texts_keep (with_name ns x) us y (still bytes_eq bytes_same ns x y h)
texts_keep ns (Global x ∷ us) y h = texts_keep ns us y h
texts_keep ns (Keys c ks ∷ us) y h = texts_keep ns us y h

cells_keep : (ns : List (List ℕ)) (us : List Use) (y : List ℕ) → has y ns ≡ true → has y (cells_from ns us) ≡ true
cells_keep ns [] y h = h
cells_keep ns (Text x ∷ us) y h = cells_keep ns us y h
cells_keep ns (Global x ∷ us) y h = cells_keep (with_name ns x) us y (still bytes_eq bytes_same ns x y h)
cells_keep ns (Keys c ks ∷ us) y h = cells_keep ns us y h

keys_step : (j c : ℕ) (kss : List (List (List ℕ))) (ks y : List (List ℕ)) → list_any (same_names y) kss ≡ true →
    list_any (same_names y) (if j == c then with_keys kss ks else kss) ≡ true
keys_step j c kss ks y h = by_test (j == c)
  where
    by_test : (b : Bool) → list_any (same_names y) (if b then with_keys kss ks else kss) ≡ true
    by_test true = still same_names names_same kss ks y h
    by_test false = h

keys_keep : (j : ℕ) (kss : List (List (List ℕ))) (us : List Use) (y : List (List ℕ)) →
    list_any (same_names y) kss ≡ true → list_any (same_names y) (keys_from j kss us) ≡ true
keys_keep j kss [] y h = h
keys_keep j kss (Text x ∷ us) y h = keys_keep j kss us y h
keys_keep j kss (Global x ∷ us) y h = keys_keep j kss us y h
keys_keep j kss (Keys c ks ∷ us) y h = keys_keep j (if j == c then with_keys kss ks else kss) us y
    (keys_step j c kss ks y h)

-- what each use is in: a list of strings, of global names, of the keyword lists of its body
abbrev pub Noted : List (List ℕ) → List (List ℕ) → (ℕ → List (List (List ℕ))) → Use → Type 0
Noted ts cs kss (Text x) = has x ts ≡ true
Noted ts cs kss (Global x) = has x cs ≡ true
Noted ts cs kss (Keys c ks) = list_any (same_names ks) (kss c) ≡ true

pub all_noted : (ts cs : List (List ℕ)) (kss : ℕ → List (List (List ℕ))) (us : List Use) →
    Every (Noted (texts_from ts us) (cells_from cs us) (λ j. keys_from j (kss j) us)) us
all_noted ts cs kss [] = tt
all_noted ts cs kss (Text x ∷ us) = (
  texts_keep (with_name ts x) us x (added bytes_eq bytes_same ts x),
  all_noted (with_name ts x) cs kss us,
)
all_noted ts cs kss (Global x ∷ us) = (
  cells_keep (with_name cs x) us x (added bytes_eq bytes_same cs x),
  all_noted ts (with_name cs x) kss us,
)
all_noted ts cs kss (Keys c ks ∷ us) = (
  keys_keep c (if c == c then with_keys (kss c) ks else kss c) us ks
      (here (c == c) (eq-eqb c c refl)),
  all_noted ts cs (λ j. if j == c then with_keys (kss j) ks else kss j) us,
)
  where
    here : (b : Bool) → b ≡ true → list_any (same_names ks) (if b then with_keys (kss c) ks else kss c) ≡ true
    here true e = added same_names names_same (kss c) ks
    here false e = absurd (cc)

-- the number of a keyword list that is there
pub record ListAt (i : ℕ) (ks : List (List ℕ)) (kss : List (List (List ℕ))) : Type 0 where
  pub place : ℕ
  pub number : list_number i ks kss ≡ i + place
  pub within : place < length kss
  pub is : get_or kss place [] ≡ ks

pub list_at : (i : ℕ) (ks : List (List ℕ)) (kss : List (List (List ℕ))) → list_any (same_names ks) kss ≡ true →
    ListAt i ks kss
list_at i ks [] h = absurd (cc)
list_at i ks (x ∷ xs) h = by_test (same_names ks x) refl h (list_at (i + 1) ks xs)
  where
    by_test : (b : Bool) → same_names ks x ≡ b → (b || list_any (same_names ks) xs) ≡ true →
        (list_any (same_names ks) xs ≡ true → ListAt (i + 1) ks xs) → ListAt i ks (x ∷ xs)
    by_test true e g more = record {
      place = 0;
      number = ap (λ b. if b then i else list_number (i + 1) ks xs) e ∙
          omega arith;
      within = omega arith;
      is = sym ((names_decide ks x).0 e);
    }
    by_test false e g more = let r = more g in let n = r.number in let w = r.within in
        record {
          place = suc r.place;
          number = ap (λ b. if b then i else list_number (i + 1) ks xs) e ∙
              omega (arith, n);
          within = omega (arith, w);
          is = r.is;
        }

-- so what is noted has its number
module _ (locals : ℕ → List (List ℕ)) (texts cells : List (List ℕ)) (keys : ℕ → List (List (List ℕ))) (params : List ℕ)
  where
    keys_covered : (c : ℕ) (ks : List (List ℕ)) → list_any (same_names ks) (keys c) ≡ true →
        KeysFit (lim locals texts cells keys params c 0 0) (known locals texts cells keys params c false)
        (inside locals texts cells keys params c false) ks
    keys_covered c ks h =
        let r = list_at 0 ks (keys c) h in
        let t = text (known locals texts cells keys params c false) in
        let z : list_number 0 ks (keys c) ≡ r.place = r.number ∙ omega arith in
        let w = r.within in
        let m = length-map (keys c) (map t) in (
          subst (λ i. i < length (map (map t) (keys c))) (sym z) (omega (arith, w, m)),
          ap (λ i. get_or (map (map t) (keys c)) i []) z ∙ get_or-map (map t) (keys c) r.place [] [] w ∙
              ap (map t) r.is,
        )

    covered : (u : Use) → Noted texts cells keys u → Covers locals texts cells keys params u
    covered (Text x) h = let l = number_small x texts h in (omega arith, omega (arith, l))
    covered (Global x) h = let l = number_small x cells h in (omega arith, omega (arith, l))
    covered (Keys c ks) h = keys_covered c ks h

    pub wide : (us : List Use) → Every (Noted texts cells keys) us → Wide locals texts cells keys params us
    wide [] h = tt
    wide (u ∷ us) h = (covered u h.0, wide us h.1)
