-- What `clap` makes of the words, against what the words give.
use Rattle.std.proofs.Common.{◌≡◌, ◌∙◌, Bool, cond, true, false, refl, sym, ap, ap₂, subst, List, [], ◌∷◌, map, Option, Some, None, codes, string_bytes}
use Rattle.std.proofs.Common.{String, inl, inr, option_to_list}
use Rattle.std.specs.Prelude.{◌||◌, option_map, is_some}
use Rattle.std.specs.List.{fold}
use Rattle.std.proofs.lemmas.Str.{IsUtf8-string_bytes}
use Rattle.clap.proofs.WalkLemmas.{first_value-rows}
use Rattle.clap.specs.Values.{kind_of}
use Rattle.clap.specs.Matches.{first_value, found_of}
use Rattle.clap.specs.declared.error.Error.{Error}
use Rattle.clap.specs.declared.parser.matches.Found.{Found}
use Rattle.clap.specs.declared.parser.matches.ArgMatches.{ArgMatches}
use Rattle.stm_words.specs.declared.error.WordsError.TheVariants.{Usage, OutOfMemory}
use Rattle.stm_words.specs.declared.words.Given.{Given as Texts}
use Rattle.clap.specs.Kinds.{HasKind, IsAmong, Kinds, or_else}
use Rattle.clap.specs.Faults.{check_fault, default_fault, defaults_fault, given_default_fault, entered_fault, fault_of, is_simple_and_free, settle_fault, turn_fault, walk_fault}
use Rattle.clap.specs.Simple.{App, HasMatchesOf, entered, matches_of}
use Rattle.clap.specs.Walk.{Held, Row, Rule, Text, Walk, default_rows, finished, has_row, is_empty, nothing_held, reading_by, rows_of, settled, walk, walk_from, walked, with_default}
use Rattle.clap.specs.declared.error.kind.ErrorKind.{ErrorKind}
use Rattle.stm_words.specs.declared.call.Options.{Options}
use Rattle.stm_words.specs.inner.Given.{error_of, given_of, pystm_app}
use Rattle.stm_words.specs.Options.{options_from, options_of}
use Rattle.stm_words.proofs.Forms.{same_ends}
use Rattle.stm_words.proofs.Rows.{Single, finish, given_in, rules, shape}
use Rattle.stm_words.proofs.Steps.{AreUtf8, walks}
use Rattle.stm_words.proofs.Walking.{if_none, outcome}

-- ---- behind the walk

abbrev built_app : App
built_app = record { top = shape; subs = [] }

-- no argument has a default
abbrev Bare : List Rule → Type 0
Bare [] = Unit {0}
Bare (a ∷ more) = (a.defaults ≡ []) × Bare more

either_way : {X : Type 0} (b : Bool) (x : X) → cond b x x ≡ x
either_way true x = refl
either_way false x = refl

no_default : (rows : List Row) (a : Rule) → a.defaults ≡ [] → with_default rows a ≡ rows
no_default rows a e = ap (λ vs. cond (has_row a.id rows) rows (default_rows a.id (reading_by a) vs rows)) e
    ∙ either_way (has_row a.id rows) rows

no_defaults : (rows : List Row) (all : List Rule) → Bare all → fold with_default rows all ≡ rows
no_defaults rows [] h = refl
no_defaults rows (a ∷ more) h = ap (λ rs. fold with_default rs more) (no_default rows a h.0) ∙ no_defaults rows more h.1

no_default_fault : (rows : List Row) (a : Rule) → a.defaults ≡ [] → default_fault rows a ≡ []
no_default_fault rows a e = ap (λ vs. cond (has_row a.id rows || is_empty vs) [] (given_default_fault a vs)) e
    ∙ go (has_row a.id rows)
  where
    go : (b : Bool) → cond (b || true) [] (given_default_fault a []) ≡ []
    go true = refl
    go false = refl

no_defaults_fault : (rows : List Row) (all : List Rule) → Bare all → defaults_fault rows all ≡ []
unfolding defaults_fault
no_defaults_fault rows [] h = refl
no_defaults_fault rows (a ∷ more) h = ap (λ ks. or_else ks (defaults_fault (with_default rows a) more))
    (no_default_fault rows a h.0) ∙ no_defaults_fault (with_default rows a) more h.1

bare : Bare rules
bare = (refl, (refl, (refl, (refl, (refl, (refl, tt))))))

-- there is no subcommand
no_entered : (stop : Option (Text × List Text)) → entered built_app stop ≡ None
no_entered None = refl
no_entered (Some p) = refl

no_entered_fault : (stop : Option (Text × List Text)) → entered_fault built_app stop ≡ []
no_entered_fault None = refl
no_entered_fault (Some p) = refl

or_none : (ks : Kinds) → or_else ks [] ≡ ks
or_none [] = refl
or_none (k ∷ ks) = refl

-- behind the walk the pending argument alone may be wrong
ends_right : (h : Held) (stop : Option (Text × List Text))
    → or_else (entered_fault built_app stop)
    (or_else (settle_fault rules false h)
    (or_else (defaults_fault (settled rules h).rows rules)
    (check_fault shape (finished rules h) (is_some (entered built_app stop)))))
    ≡ settle_fault rules false h
ends_right h stop =
    ap₂ (λ ks e. or_else ks (or_else (settle_fault rules false h)
    (or_else (defaults_fault (settled rules h).rows rules) (check_fault shape (finished rules h) (is_some e)))))
    (no_entered_fault stop) (no_entered stop)
    ∙ ap (λ ks. or_else (settle_fault rules false h) (or_else ks []))
    (no_defaults_fault (settled rules h).rows rules bare) ∙ or_none (settle_fault rules false h)

-- ---- the walk as a whole

first_fault : (t f s : Kinds) (r o : Option Options) → if_none (or_else f s) r ≡ o
    → if_none (or_else (or_else t f) s) r ≡ if_none t o
first_fault [] f s r o e = e
first_fault (k ∷ ks) f s r o e = refl

end_of : Walk → List Text → Held
end_of w words = (fold (walked rules []) w words).held

whole : (w : Walk) (words : List Text)
    → if_none (or_else (walk_fault shape [] w words) (settle_fault rules false (end_of w words)))
    (finish (settled rules (end_of w words)).rows) ≡ outcome w words
unfolding walk_fault end_of
whole w [] = refl
whole w (x ∷ xs) = first_fault (turn_fault shape [] w x)
    (walk_fault shape [] (walked rules [] w x) xs) _ _ _ (whole (walked rules [] w x) xs)

nothing_single : Single []
nothing_single = record { places = tt; values = λ s. tt }

-- what comes of the words by `clap`
pub taken : (words : List Text) → AreUtf8 words
    → if_none (fault_of pystm_app words) (finish (matches_of pystm_app words)) ≡ options_of words
unfolding end_of
taken words utf8 =
    let w = walk rules [] nothing_held words in
    ap₂ (λ ks rs. if_none (or_else (walk_fault shape [] (walk_from nothing_held) words) ks) (finish rs))
    (ends_right w.held w.stopped) (no_defaults (settled rules w.held).rows rules bare)
    ∙ whole (walk_from nothing_held) words ∙ (walks words utf8).rest [] None false nothing_single tt
    ∙ sym (same_ends words None [])

pub right : (words : List Text) → AreUtf8 words → fault_of pystm_app words ≡ []
    → finish (matches_of pystm_app words) ≡ options_of words
right words utf8 e = sym (ap (λ ks. if_none ks (finish (matches_of pystm_app words))) e) ∙ taken words utf8

pub wrong : (words : List Text) → AreUtf8 words → (k : ErrorKind) (ks : Kinds) → fault_of pystm_app words ≡ k ∷ ks
    → options_of words ≡ None
wrong words utf8 k ks e = sym (taken words utf8) ∙ ap (λ kinds. if_none kinds (finish (matches_of pystm_app words))) e

-- ---- what the caller of `clap` reads

pub strings_utf8 : {Z : Type 0} (words : List (String Z)) → AreUtf8 (map string_bytes words)
strings_utf8 [] = tt
strings_utf8 (w ∷ ws) = (IsUtf8-string_bytes w, strings_utf8 ws)

abbrev IsSimple : App → Type 0
IsSimple a = is_simple_and_free a ≡ true

simple : IsSimple pystm_app
simple = refl

pub no_fault : (a : App) (words : List Text) → a ≡ pystm_app → (IsSimple a → fault_of a words ≡ [])
    → fault_of pystm_app words ≡ []
no_fault a words is clause = ap (λ x. fault_of x words) (sym is) ∙ clause (ap is_simple_and_free is ∙ simple)

pub some_fault : (a : App) (words : List Text) (e : Error) → a ≡ pystm_app
    → (IsSimple a → HasKind (fault_of a words) e) → HasKind (fault_of pystm_app words) e
some_fault a words e is clause = subst (λ x. HasKind (fault_of x words) e) is (clause (ap is_simple_and_free is
    ∙ simple))

pub same_rows : (a : App) (words : List Text) (m : ArgMatches) → a ≡ pystm_app → HasMatchesOf a words m
    → rows_of (found_of m) ≡ matches_of pystm_app words
same_rows a words m is clause = (subst (λ x. HasMatchesOf x words m) is clause refl).0

-- the texts that the matches give mean what the words mean
pub given_right : (f : Found) (words : List Text) (g : Texts) → AreUtf8 words → fault_of pystm_app words ≡ []
    → rows_of f ≡ matches_of pystm_app words
    → option_map (λ s. s.now) g.file ≡ first_value f (codes "file")
    → option_map (λ s. s.now) g.segments ≡ first_value f (codes "segments")
    → option_map (λ s. s.now) g.length ≡ first_value f (codes "length")
    → option_map (λ s. s.now) g.pages ≡ first_value f (codes "pages")
    → option_map (λ s. s.now) g.budget ≡ first_value f (codes "budget")
    → option_map (λ s. s.now) g.demo ≡ first_value f (codes "demo")
    → options_from (given_of g) ≡ options_of words
given_right f words g utf8 none rows file segments length pages budget demo =
    let same : given_of g ≡ given_in (rows_of f) = λ i. record {
      files = option_to_list ((file ∙ first_value-rows f (codes "file")) i);
      segments = option_to_list ((segments ∙ first_value-rows f (codes "segments")) i);
      lengths = option_to_list ((length ∙ first_value-rows f (codes "length")) i);
      pages = option_to_list ((pages ∙ first_value-rows f (codes "pages")) i);
      budgets = option_to_list ((budget ∙ first_value-rows f (codes "budget")) i);
      demos = option_to_list ((demo ∙ first_value-rows f (codes "demo")) i);
    } in
    ap options_from same ∙ ap finish rows ∙ right words utf8 none

-- an error that isn't want of memory comes of words that give no options
pub given_wrong : (words : List Text) (e : Error) → AreUtf8 words → HasKind (fault_of pystm_app words) e
    → error_of (kind_of e) ≡ Usage → options_of words ≡ None
given_wrong words e utf8 (inl memory) usage =
    let both : OutOfMemory ≡ Usage = ap error_of (sym memory) ∙ usage in absurd (cc)
given_wrong words e utf8 (inr among) usage = go (fault_of pystm_app words) refl among
  where
    go : (kinds : Kinds) → fault_of pystm_app words ≡ kinds → IsAmong (kind_of e) kinds → options_of words ≡ None
    go [] is none = absurd none
    go (k ∷ ks) is some = wrong words utf8 k ks is
