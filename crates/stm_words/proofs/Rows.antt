-- The rows of `clap` for uses, and what its command makes of one more.
use Rattle.std.proofs.Common.{◌≡◌, ◌∙◌, ℕ, Bool, cond, true, false, refl, sym, ap, subst, List, [], ◌∷◌, ◌++◌, map, Option, Some, None, codes, append-nil, inl, inr, true≢false}
use Rattle.std.specs.Prelude.{◌⊎◌, ◌||◌, ◌&&◌, find, option_and_then, option_to_list, slice_get}
use Rattle.std.specs.Str.{bytes_eq}
use Rattle.std.proofs.lemmas.Slice.Eq.{bytes_eq-Decides}
use Rattle.std.proofs.lemmas.List.{map-append}
use Rattle.clap.specs.Kinds.{Kinds, or_else}
use Rattle.clap.specs.Faults.{use_fault}
use Rattle.clap.specs.Simple.{Shape, built}
use Rattle.clap.specs.Walk.{Row, Rule, Text, arg_by_id, at_row, first_of, has_row, more_values, used, with_values, without}
use Rattle.clap.specs.declared.builder.action.ArgAction.TheVariants.{Set}
use Rattle.clap.specs.declared.builder.value_parser.Reading.TheVariants.{AsWritten}
use Rattle.clap.specs.declared.builder.value_parser.ValueParser.TheVariants as vp
use Rattle.clap.specs.declared.error.kind.ErrorKind.TheVariants as kind
use Rattle.clap.specs.declared.parser.matches.ValueSource.TheVariants.{CommandLine}
use Rattle.stm_words.specs.declared.call.Options.{Options}
use Rattle.stm_words.specs.inner.Given.{pystm_app}
use Rattle.stm_words.specs.Options.{Setting, Segments, Length, Pages, Budget, Workload, Use, Place, Value, Given, name_of, given_by, options_from, places, values}
use Rattle.stm_words.proofs.Meaning.{Doomed, answer, places_append, twice_a_place, twice_a_value, values_append}

-- ---- the command as it is built

-- a rule of one text, given by no option and at no place
abbrev text_rule : Text → Rule
text_rule name = record {
  id = name;
  long = None;
  aliases = [];
  short = None;
  short_aliases = [];
  index = None;
  action = Some Set;
  range = Some (record { start_inclusive = 1; end_inclusive = 1 });
  value_names = 0;
  defaults = [];
  missing = [];
  trailing_var_arg = false;
  parser = Some vp.String;
  ignore_case = false;
  required = false;
  is_simple = true;
  is_free = true;
}

abbrev pub rule_of_setting : Setting → Rule
rule_of_setting s = record (text_rule (name_of s)) { long = Some (name_of s) }

abbrev pub file_rule : Rule
file_rule = record (text_rule (codes "file")) { index = Some 1 }

abbrev pub rules : List Rule
rules =
    rule_of_setting Segments ∷ rule_of_setting Length ∷ rule_of_setting Pages ∷ rule_of_setting Budget ∷
    rule_of_setting Workload ∷ file_rule ∷ []

abbrev pub shape : Shape
shape = record {
  name = codes "pystm";
  aliases = [];
  rules = rules;
  is_plain = true;
  is_leaf = true;
  no_binary_name = true;
  disable_help_flag = true;
  disable_help_subcommand = true;
  disable_version_flag = false;
  propagate_version = false;
  has_version = false;
  has_long_version = false;
  args_override_self = false;
  arg_required_else_help = false;
  subcommand_required = false;
  subcommand_negates_reqs = false;
  is_built = true;
}

pub built_is : built pystm_app ≡ record { top = shape; subs = [] }
built_is = refl

-- ---- the rows of uses

abbrev pub id_of : Use → Text
id_of (Place v) = codes "file"
id_of (Value s v) = name_of s

abbrev pub text_of : Use → Text
text_of (Place v) = v
text_of (Value s v) = v

abbrev pub row_of : Use → Row
row_of u = record {
  id = id_of u;
  values = text_of u ∷ [];
  count = None;
  source = Some CommandLine;
  reading =
      AsWritten;
}

abbrev pub rows : List Use → List Row
rows us = map row_of us

abbrev pub is_cons : {X : Type 0} → List X → Bool
is_cons [] = false
is_cons (x ∷ xs) = true

pub is_nil : {X : Type 0} (xs : List X) → is_cons xs ≡ false → xs ≡ []
is_nil [] e = refl
is_nil (x ∷ xs) e = absurd (true≢false e)

pub file_other : (s : Setting) → bytes_eq (codes "file") (name_of s) ≡ false
file_other Segments = refl
file_other Length = refl
file_other Pages = refl
file_other Budget = refl
file_other Workload = refl

other_file : (s : Setting) → bytes_eq (name_of s) (codes "file") ≡ false
other_file Segments = refl
other_file Length = refl
other_file Pages = refl
other_file Budget = refl
other_file Workload = refl

pub has_value : (s : Setting) (us : List Use) → has_row (name_of s) (rows us) ≡ is_cons (values s us)
has_value s [] = refl
has_value s (Place v ∷ us) = ap (λ b. b || has_row (name_of s) (rows us)) (file_other s) ∙ has_value s us
has_value s (Value t v ∷ us) = go (bytes_eq (name_of t) (name_of s)) (has_value s us)
  where
    go : (b : Bool) → has_row (name_of s) (rows us) ≡ is_cons (values s us)
        → (b || has_row (name_of s) (rows us)) ≡ is_cons (cond b (v ∷ values s us) (values s us))
    go true e = refl
    go false e = e

pub has_place : (us : List Use) → has_row (codes "file") (rows us) ≡ is_cons (places us)
has_place [] = refl
has_place (Place v ∷ us) = refl
has_place (Value t v ∷ us) = ap (λ b. b || has_row (codes "file") (rows us)) (other_file t) ∙ has_place us

abbrev first_in : Option Row → Option Text
first_in row = option_and_then (λ r. slice_get r.values 0) row

pub first_value : (s : Setting) (us : List Use) → first_of (name_of s) (rows us) ≡ slice_get (values s us) 0
first_value s [] = refl
first_value s (Place v ∷ us) = ap (λ b. first_in (cond b (Some (row_of (Place v)))
    (find (λ r. bytes_eq r.id (name_of s)) (rows us)))) (file_other s) ∙ first_value s us
first_value s (Value t v ∷ us) = go (bytes_eq (name_of t) (name_of s)) (first_value s us)
  where
    go : (b : Bool) → first_of (name_of s) (rows us) ≡ slice_get (values s us) 0
        → first_in (cond b (Some (row_of (Value t v)))
        (find (λ r. bytes_eq r.id (name_of s)) (rows us))) ≡ slice_get (cond b (v ∷ values s us) (values s us)) 0
    go true e = refl
    go false e = e

pub first_place : (us : List Use) → first_of (codes "file") (rows us) ≡ slice_get (places us) 0
first_place [] = refl
first_place (Place v ∷ us) = refl
first_place (Value t v ∷ us) =
    ap (λ b. first_in (cond b (Some (row_of (Value t v))) (find (λ r. bytes_eq r.id (codes "file")) (rows us))))
    (other_file t) ∙ first_place us

-- ---- uses of which none is doubled

abbrev pub IsShort : List (List ℕ) → Type 0
IsShort [] = Unit {0}
IsShort (v ∷ []) = Unit {0}
IsShort (v ∷ w ∷ vs) = ⊥

listed_first : (vs : List (List ℕ)) → IsShort vs → option_to_list (slice_get vs 0) ≡ vs
listed_first [] h = refl
listed_first (v ∷ []) h = refl
listed_first (v ∷ w ∷ vs) h = absurd h

pub record Single (us : List Use) : Type 0 where
  pub places : IsShort (places us)
  pub values : (s : Setting) → IsShort (values s us)

-- what rows give, as `Given` has it
abbrev pub given_in : List Row → Given
given_in rs = record {
  files = option_to_list (first_of (codes "file") rs);
  segments = option_to_list (first_of (codes "segments") rs);
  lengths = option_to_list (first_of (codes "length") rs);
  pages = option_to_list (first_of (codes "pages") rs);
  budgets = option_to_list (first_of (codes "budget") rs);
  demos = option_to_list (first_of (codes "demo") rs);
}

abbrev pub finish : List Row → Option Options
finish rs = options_from (given_in rs)

value_listed : (s : Setting) (us : List Use) → Single us → option_to_list (first_of (name_of s) (rows us)) ≡ values s us
value_listed s us single = ap option_to_list (first_value s us) ∙ listed_first _ (single.values s)

place_listed : (us : List Use) → Single us → option_to_list (first_of (codes "file") (rows us)) ≡ places us
place_listed us single = ap option_to_list (first_place us) ∙ listed_first _ single.places

pub finished : (us : List Use) → Single us → finish (rows us) ≡ answer us
finished us single =
    let same : given_in (rows us) ≡ given_by us = λ i. record {
      files = place_listed us single i;
      segments = value_listed Segments us single i;
      lengths = value_listed Length us single i;
      pages = value_listed Pages us single i;
      budgets = value_listed Budget us single i;
      demos = value_listed Workload us single i;
    } in
    ap options_from same

-- ---- one use more

neither : (a b : Bool) → (a || b) ≡ false → (a ≡ false) × (b ≡ false)
neither true b e = absurd (true≢false e)
neither false b e = (refl, e)

fresh_row : (id : Text) (change : Row → List Row) (missing rs : List Row) → has_row id rs ≡ false
    → at_row id change missing rs ≡ rs ++ missing
fresh_row id change missing [] e = refl
fresh_row id change missing (r ∷ rs) e =
    let parts = neither (bytes_eq r.id id) (has_row id rs) e in
    ap (λ b. cond b (change r ++ rs) (r ∷ at_row id change missing rs)) parts.0
    ∙ ap (λ more. r ∷ more) (fresh_row id change missing rs parts.1)

abbrev pub rule_of_use : Use → Rule
rule_of_use (Place v) = file_rule
rule_of_use (Value s v) = rule_of_setting s

pub rule_by_id : (u : Use) → arg_by_id rules (id_of u) ≡ Some (rule_of_use u)
rule_by_id (Place v) = refl
rule_by_id (Value Segments v) = refl
rule_by_id (Value Length v) = refl
rule_by_id (Value Pages v) = refl
rule_by_id (Value Budget v) = refl
rule_by_id (Value Workload v) = refl

abbrev new_rows : Text → Text → List Row → List Row
new_rows id v rs = with_values id AsWritten CommandLine (v ∷ []) (without id rs)

used_by_rule : (u : Use) (rs : List Row) → used (rule_of_use u) (text_of u ∷ []) rs ≡ new_rows (id_of u) (text_of u) rs
used_by_rule (Place v) rs = refl
used_by_rule (Value s v) rs = refl

used_rows : (u : Use) (rs : List Row) → has_row (id_of u) rs ≡ false
    → used (rule_of_use u) (text_of u ∷ []) rs ≡ rs ++ row_of u ∷ []
used_rows u rs e =
    let kept : without (id_of u) rs ≡ rs = fresh_row (id_of u) (λ _. []) [] rs e ∙ append-nil rs in
    used_by_rule u rs ∙ ap (λ xs. with_values (id_of u) AsWritten CommandLine (text_of u ∷ []) xs) kept
    ∙ fresh_row (id_of u) (more_values CommandLine (text_of u ∷ [])) (row_of u ∷ []) rs e

-- what a use is refused for: that there is one already
abbrev pub repeated : Bool → Kinds
repeated b = cond b (kind.ArgumentConflict ∷ []) []

use_refused : (u : Use) (rs : List Row)
    → use_fault false (rule_of_use u) (text_of u ∷ []) rs ≡ repeated (has_row (id_of u) rs)
use_refused (Place v) rs = elim (has_row (codes "file") rs) as (λ b. or_else (cond (b && true)
    (kind.ArgumentConflict ∷ []) []) [] ≡ repeated b) [ true ↦ refl | false ↦ refl ]
use_refused (Value s v) rs = elim (has_row (name_of s) rs) as (λ b. or_else (cond (b && true)
    (kind.ArgumentConflict ∷ []) []) [] ≡ repeated b) [ true ↦ refl | false ↦ refl ]

short_more : (vs ws : List (List ℕ)) (v : List ℕ) → is_cons vs ≡ false → ws ≡ vs ++ v ∷ [] → IsShort ws
short_more vs ws v e is =
    let one : v ∷ [] ≡ ws = sym (is ∙ ap (λ xs. xs ++ v ∷ []) (is_nil vs e)) in
    subst IsShort one tt

single_place : (us : List Use) (v : List ℕ) → has_row (codes "file") (rows us) ≡ false → Single us
    → Single (us ++ Place v ∷ [])
single_place us v none single = record {
  places = short_more (places us) _ v (sym (has_place us) ∙ none) (places_append us (Place v ∷ []));
  values = λ s. subst IsShort (sym (values_append s us (Place v ∷ []) ∙ append-nil (values s us))) (single.values s);
}

single_value : (us : List Use) (t : Setting) (v : List ℕ) → has_row (name_of t) (rows us) ≡ false → Single us
    → Single (us ++ Value t v ∷ [])
single_value us t v none single = record {
  places = subst IsShort (sym (places_append us (Value t v ∷ []) ∙ append-nil (places us))) single.places;
  values = λ s. go s (bytes_eq (name_of t) (name_of s)) refl;
}
  where
    go : (s : Setting) (b : Bool) → bytes_eq (name_of t) (name_of s) ≡ b → IsShort (values s (us ++ Value t v ∷ []))
    go s false e =
        let same : values s (us ++ Value t v ∷ []) ≡ values s us = values_append s us (Value t v ∷ [])
        ∙ ap (λ b. values s us ++ cond b (v ∷ []) []) e ∙ append-nil (values s us) in
        subst IsShort (sym same) (single.values s)
    go s true e =
        let alike : name_of t ≡ name_of s = (bytes_eq-Decides (name_of t) (name_of s)).0 e in
        let absent : has_row (name_of s) (rows us) ≡ false = ap (λ n. has_row n (rows us)) (sym alike) ∙ none in
        short_more (values s us) _ v (sym (has_value s us) ∙ absent)
        (values_append s us (Value t v ∷ []) ∙ ap (λ b. values s us ++ cond b (v ∷ []) []) e)

-- a use more: it is not there yet, or there is one, and then all is refused
pub record Adds (us : List Use) (u : Use) : Type 0 where
  pub quiet : use_fault false (rule_of_use u) (text_of u ∷ []) (rows us) ≡ []
  pub rows : used (rule_of_use u) (text_of u ∷ []) (rows us) ≡ rows (us ++ u ∷ [])
  pub single : Single (us ++ u ∷ [])

pub record Repeats (us : List Use) (u : Use) : Type 0 where
  pub fault : use_fault false (rule_of_use u) (text_of u ∷ []) (rows us) ≡ kind.ArgumentConflict ∷ []
  pub doomed : Doomed (us ++ u ∷ [])

single_more : (us : List Use) (u : Use) → has_row (id_of u) (rows us) ≡ false → Single us → Single (us ++ u ∷ [])
single_more us (Place v) none single = single_place us v none single
single_more us (Value s v) none single = single_value us s v none single

doubled_value : (us : List Use) (s : Setting) (w : List ℕ) (vs : List (List ℕ)) → values s us ≡ vs → is_cons vs ≡ true
    → Doomed (us ++ Value s w ∷ [])
doubled_value us s w [] e c = absurd (true≢false (sym c))
doubled_value us s w (v ∷ vs) e c = twice_a_value us s v vs w e

doubled_place : (us : List Use) (w : List ℕ) (vs : List (List ℕ)) → places us ≡ vs → is_cons vs ≡ true
    → Doomed (us ++ Place w ∷ [])
doubled_place us w [] e c = absurd (true≢false (sym c))
doubled_place us w (v ∷ vs) e c = twice_a_place us v vs w e

doubled : (us : List Use) (u : Use) → has_row (id_of u) (rows us) ≡ true → Doomed (us ++ u ∷ [])
doubled us (Place v) e = doubled_place us v _ refl (sym (has_place us) ∙ e)
doubled us (Value s v) e = doubled_value us s v _ refl (sym (has_value s us) ∙ e)

pub adds : (us : List Use) (u : Use) → Single us → Adds us u ⊎ Repeats us u
adds us u single = go (has_row (id_of u) (rows us)) refl
  where
    go : (b : Bool) → has_row (id_of u) (rows us) ≡ b → Adds us u ⊎ Repeats us u
    go false e = inl (record {
      quiet = use_refused u (rows us) ∙ ap repeated e;
      rows = used_rows u (rows us) e ∙ sym (map-append row_of us (u ∷ []));
      single = single_more us u e single;
    })
    go true e = inr (record { fault = use_refused u (rows us) ∙ ap repeated e; doomed = doubled us u e })
