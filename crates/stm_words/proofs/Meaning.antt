-- Uses of options and what they mean; and uses that mean nothing, whatever comes behind them.
use Rattle.std.proofs.Common.{◌≡◌, ◌∙◌, ℕ, Bool, cond, true, false, refl, sym, ap, subst, List, [], ◌∷◌, ◌++◌, Option, Some, None, codes, append_assoc}
use Rattle.std.specs.Prelude.{option_and_then}
use Rattle.std.specs.Str.{bytes_eq}
use Rattle.stm_words.specs.declared.call.Options.{Options}
use Rattle.stm_words.specs.declared.call.Script.{Script}
use Rattle.stm_words.specs.Options.{Setting, Segments, Length, Pages, Budget, Workload, Use, Place, Value, name_of, given_by, number_or, options_from, places, script_of, values, with_use, ◌>>=◌}

abbrev pub answer : List Use → Option Options
answer us = options_from (given_by us)

-- ---- lists of uses

pub places_append : (us ws : List Use) → places (us ++ ws) ≡ places us ++ places ws
places_append [] ws = refl
places_append (Place v ∷ us) ws = ap (λ vs. v ∷ vs) (places_append us ws)
places_append (Value t v ∷ us) ws = places_append us ws

pub values_append : (s : Setting) (us ws : List Use) → values s (us ++ ws) ≡ values s us ++ values s ws
values_append s [] ws = refl
values_append s (Place v ∷ us) ws = values_append s us ws
values_append s (Value t v ∷ us) ws = go (bytes_eq (name_of t) (name_of s)) (values_append s us ws)
  where
    go : (b : Bool) → values s (us ++ ws) ≡ values s us ++ values s ws
        → cond b (v ∷ values s (us ++ ws)) (values s (us ++ ws)) ≡ cond b (v ∷ values s us) (values s us) ++ values s ws
    go true e = ap (λ vs. v ∷ vs) e
    go false e = e

pub same_name : (s : Setting) → bytes_eq (name_of s) (name_of s) ≡ true
same_name Segments = refl
same_name Length = refl
same_name Pages = refl
same_name Budget = refl
same_name Workload = refl

pub values_own : (s : Setting) (v : List ℕ) (us : List Use) → values s (Value s v ∷ us) ≡ v ∷ values s us
values_own s v us = ap (λ b. cond b (v ∷ values s us) (values s us)) (same_name s)

-- ---- what nothing can be made of

abbrev pub options_by : Option Script → (s l p b : Option ℕ) → Option Options
options_by o s l p b = do
  script ← o
  segments ← s
  length ← l
  pages ← p
  budget ← b
  Some (record { script = script; segments = segments; length = length; pages = pages; budget = budget })

no_segments : (o : Option Script) (s l p b : Option ℕ) → s ≡ None → options_by o s l p b ≡ None
no_segments None s l p b h = refl
no_segments (Some x) s l p b h = ap (λ s'. options_by (Some x) s' l p b) h

no_length : (o : Option Script) (s l p b : Option ℕ) → l ≡ None → options_by o s l p b ≡ None
no_length None s l p b h = refl
no_length (Some x) None l p b h = refl
no_length (Some x) (Some y) l p b h = ap (λ l'. options_by (Some x) (Some y) l' p b) h

no_pages : (o : Option Script) (s l p b : Option ℕ) → p ≡ None → options_by o s l p b ≡ None
no_pages None s l p b h = refl
no_pages (Some x) None l p b h = refl
no_pages (Some x) (Some y) None p b h = refl
no_pages (Some x) (Some y) (Some z) p b h = ap (λ p'. options_by (Some x) (Some y) (Some z) p' b) h

no_budget : (o : Option Script) (s l p b : Option ℕ) → b ≡ None → options_by o s l p b ≡ None
no_budget None s l p b h = refl
no_budget (Some x) None l p b h = refl
no_budget (Some x) (Some y) None p b h = refl
no_budget (Some x) (Some y) (Some z) None b h = refl
no_budget (Some x) (Some y) (Some z) (Some u) b h = ap (λ b'. options_by (Some x) (Some y) (Some z) (Some u) b') h

abbrev script_in : List Use → Option Script
script_in us = script_of (places us) (values Workload us)

abbrev segments_in : List Use → Option ℕ
segments_in us = number_or 4 1 8 (values Segments us)

abbrev length_in : List Use → Option ℕ
length_in us = number_or 1000 1 1000000 (values Length us)

abbrev pages_in : List Use → Option ℕ
pages_in us = number_or 16384 1 65536 (values Pages us)

abbrev budget_in : List Use → Option ℕ
budget_in us = number_or 1000000000000 1 1000000000000000 (values Budget us)

no_script : (us : List Use) → script_in us ≡ None → answer us ≡ None
no_script us h = ap (λ o. options_by o (segments_in us) (length_in us) (pages_in us) (budget_in us)) h

-- the values of that setting let nothing be made of all
abbrev pub Refused : Setting → List (List ℕ) → Type 0
Refused Segments vs = number_or 4 1 8 vs ≡ None
Refused Length vs = number_or 1000 1 1000000 vs ≡ None
Refused Pages vs = number_or 16384 1 65536 vs ≡ None
Refused Budget vs = number_or 1000000000000 1 1000000000000000 vs ≡ None
Refused Workload vs = (files : List (List ℕ)) → script_of files vs ≡ None

pub refused : (s : Setting) (us : List Use) → Refused s (values s us) → answer us ≡ None
refused Segments us h = no_segments (script_in us) (segments_in us) (length_in us) (pages_in us) (budget_in us) h
refused Length us h = no_length (script_in us) (segments_in us) (length_in us) (pages_in us) (budget_in us) h
refused Pages us h = no_pages (script_in us) (segments_in us) (length_in us) (pages_in us) (budget_in us) h
refused Budget us h = no_budget (script_in us) (segments_in us) (length_in us) (pages_in us) (budget_in us) h
refused Workload us h = no_script us (h (places us))

-- more values than one
two_numbers : (usual least most : ℕ) (v : List ℕ) (xs : List (List ℕ)) (w : List ℕ) (ys : List (List ℕ))
    → number_or usual least most (v ∷ xs ++ w ∷ ys) ≡ None
two_numbers usual least most v [] w ys = refl
two_numbers usual least most v (x ∷ xs) w ys = refl

two_demos : (files : List (List ℕ)) (v : List ℕ) (xs : List (List ℕ)) (w : List ℕ) (ys : List (List ℕ))
    → script_of files (v ∷ xs ++ w ∷ ys) ≡ None
two_demos [] v [] w ys = refl
two_demos [] v (x ∷ xs) w ys = refl
two_demos (f ∷ []) v xs w ys = refl
two_demos (f ∷ g ∷ fs) v xs w ys = refl

two_files : (v : List ℕ) (xs : List (List ℕ)) (w : List ℕ) (ys demos : List (List ℕ))
    → script_of (v ∷ xs ++ w ∷ ys) demos ≡ None
two_files v [] w ys demos = refl
two_files v (x ∷ xs) w ys demos = refl

two_refused : (s : Setting) (v : List ℕ) (xs : List (List ℕ)) (w : List ℕ) (ys : List (List ℕ))
    → Refused s (v ∷ xs ++ w ∷ ys)
two_refused Segments v xs w ys = two_numbers 4 1 8 v xs w ys
two_refused Length v xs w ys = two_numbers 1000 1 1000000 v xs w ys
two_refused Pages v xs w ys = two_numbers 16384 1 65536 v xs w ys
two_refused Budget v xs w ys = two_numbers 1000000000000 1 1000000000000000 v xs w ys
two_refused Workload v xs w ys = λ files. two_demos files v xs w ys

-- the value `-`, which is no number
dash_refused : (s : Setting) (xs ys : List (List ℕ)) → Refused s (xs ++ codes "-" ∷ ys)
dash_refused s (x ∷ xs) ys = two_refused s x xs (codes "-") ys
dash_refused s [] (y ∷ ys) = two_refused s (codes "-") [] y ys
dash_refused Segments [] [] = refl
dash_refused Length [] [] = refl
dash_refused Pages [] [] = refl
dash_refused Budget [] [] = refl
dash_refused Workload [] [] = no_demo
  where
    no_demo : (files : List (List ℕ)) → script_of files (codes "-" ∷ []) ≡ None
    no_demo [] = refl
    no_demo (f ∷ []) = refl
    no_demo (f ∷ g ∷ fs) = refl

-- ---- uses that mean nothing, whatever comes behind

abbrev pub Doomed : List Use → Type 0
Doomed us = (more : List Use) → answer (us ++ more) ≡ None

-- one use more, and what comes behind it
one_more : (us : List Use) (u : Use) (more : List Use) → (us ++ u ∷ []) ++ more ≡ us ++ u ∷ more
one_more us u more = append_assoc us (u ∷ []) more

pub twice_a_value : (us : List Use) (s : Setting) (v : List ℕ) (xs : List (List ℕ)) (w : List ℕ)
    → values s us ≡ v ∷ xs → Doomed (us ++ Value s w ∷ [])
twice_a_value us s v xs w has more =
    let all : values s (us ++ Value s w ∷ more) ≡ v ∷ xs ++ w ∷ values s more = values_append s us (Value s w ∷ more)
    ∙ ap (λ vs. vs ++ values s (Value s w ∷ more)) has
    ∙ ap (λ vs. (v ∷ xs) ++ vs) (values_own s w more) in
    ap answer (one_more us (Value s w) more)
    ∙ refused s (us ++ Value s w ∷ more) (subst (Refused s) (sym all) (two_refused s v xs w (values s more)))

pub twice_a_place : (us : List Use) (v : List ℕ) (xs : List (List ℕ)) (w : List ℕ) → places us ≡ v ∷ xs
    → Doomed (us ++ Place w ∷ [])
twice_a_place us v xs w has more =
    let all : places (us ++ Place w ∷ more) ≡ v ∷ xs ++ w ∷ places more = places_append us (Place w ∷ more)
    ∙ ap (λ vs. vs ++ w ∷ places more) has in
    ap answer (one_more us (Place w) more)
    ∙ no_script (us ++ Place w ∷ more)
    (ap (λ vs. script_of vs (values Workload (us ++ Place w ∷ more))) all ∙ two_files v xs w (places more) _)

pub a_dash : (us : List Use) (s : Setting) → Doomed (us ++ Value s (codes "-") ∷ [])
a_dash us s more =
    let all : values s (us ++ Value s (codes "-") ∷ more)
    ≡ values s us ++ codes "-" ∷ values s more = values_append s us (Value s (codes "-") ∷ more)
    ∙ ap (λ vs. values s us ++ vs) (values_own s (codes "-") more) in
    ap answer (one_more us (Value s (codes "-")) more)
    ∙ refused s (us ++ Value s (codes "-") ∷ more)
    (subst (Refused s) (sym all) (dash_refused s (values s us) (values s more)))

-- ---- what comes of uses and of those behind

-- what the uses mean with those behind, if there are any
abbrev pub ends : List Use → Option (List Use) → Option Options
ends us more = option_and_then (λ ws. answer (us ++ ws)) more

pub ends_with : (us : List Use) (u : Use) (more : Option (List Use))
    → ends us (with_use u more) ≡ ends (us ++ u ∷ []) more
ends_with us u None = refl
ends_with us u (Some ws) = ap answer (sym (one_more us u ws))

pub doomed_ends : (us : List Use) (more : Option (List Use)) → Doomed us → ends us more ≡ None
doomed_ends us None h = refl
doomed_ends us (Some ws) h = h ws
