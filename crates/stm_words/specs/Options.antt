-- Which options the words of a call give, or that they give none. States `docs/LANGUAGE.md`, "The words of a call".
use Rattle.std.specs.Prelude.{◌≡◌, ℕ, ◌≤◌, ◌==◌, ◌&&◌, Bool, false, List, [], ◌∷◌, ◌++◌, map, length, nat_le, if◌then◌else◌, Option, Some, None, find, codes, option_map, option_and_then}
use Rattle.std.specs.List.{list_all, list_any, before_first, after_first}
use Rattle.std.specs.Fmt.{decimal}
use Rattle.std.specs.Str.{bytes_eq}
use Rattle.std.specs.Char.{is_ascii_digit}
use Rattle.std.specs.Str.Parse.{digits_value}
use Rattle.stm_words.specs.declared.call.Options.{Options}
use Rattle.stm_words.specs.declared.call.Script.{Script}
use Rattle.stm_words.specs.declared.call.Script.TheVariants.{Source, File, Demo}

-- ---- the options

-- What an option sets.
pub data Setting : Type 0 where
  Segments : Setting
  Length : Setting
  Pages : Setting
  Budget : Setting
  Workload : Setting

-- the name of its option
abbrev pub name_of : Setting → List ℕ
name_of Segments = codes "segments"
name_of Length = codes "length"
name_of Pages = codes "pages"
name_of Budget = codes "budget"
name_of Workload = codes "demo"

abbrev pub settings : List Setting
settings = Segments ∷ Length ∷ Pages ∷ Budget ∷ Workload ∷ []

-- the setting whose option has that name
abbrev pub setting_named : List ℕ → Option Setting
setting_named name = find (λ s. bytes_eq (name_of s) name) settings

-- ---- a word by itself

-- What a word is before a word `--`: a positional; an option that waits for its value, or that has it behind `=`; the
-- word `--`; or none of these.
pub data Word : Type 0 where
  Positional : List ℕ → Word
  Alone : Setting → Word
  Valued : Setting → List ℕ → Word
  Rest : Word
  NoWord : Word

abbrev pub is_dash : ℕ → Bool
is_dash b = b == 45

abbrev pub is_equals : ℕ → Bool
is_equals b = b == 61

abbrev pub begins_with_dash : List ℕ → Bool
begins_with_dash [] = false
begins_with_dash (b ∷ bs) = is_dash b

abbrev pub of_setting : (Setting → Word) → Option Setting → Word
of_setting word None = NoWord
of_setting word (Some s) = word s

-- the word of an option, by what stands behind its `--`: the name reaches to the first `=`, if there is one
abbrev pub option_word : List ℕ → Word
option_word text =
    of_setting (λ s. if list_any is_equals text then Valued s (after_first is_equals text) else Alone s)
    (setting_named (before_first is_equals text))

abbrev pub after_two_dashes : List ℕ → Word
after_two_dashes [] = Rest
after_two_dashes (b ∷ bs) = option_word (b ∷ bs)

abbrev pub after_dash : List ℕ → Word
after_dash [] = Positional (codes "-")
after_dash (b ∷ bs) = if is_dash b then after_two_dashes bs else NoWord

abbrev pub word_of : List ℕ → Word
word_of [] = Positional []
word_of (b ∷ bs) = if is_dash b then after_dash bs else Positional (b ∷ bs)

-- ---- what the words give, in their order

-- A positional, or the value of an option.
pub data Use : Type 0 where
  Place : List ℕ → Use
  Value : Setting → List ℕ → Use

abbrev pub with_use : Use → Option (List Use) → Option (List Use)
with_use u = option_map (λ us. u ∷ us)

-- what a word and those behind it give: `more` is what those behind it give, where an option may wait for its value
abbrev pub after_word : Word → (Option Setting → Option (List Use)) → List (List ℕ) → Option (List Use)
after_word (Positional v) more words = with_use (Place v) (more None)
after_word (Alone s) more words = more (Some s)
after_word (Valued s v) more words = with_use (Value s v) (more None)
after_word Rest more words = Some (map Place words)
after_word NoWord more words = None

-- what the words give, where an option may wait for its value
abbrev pub uses_from : List (List ℕ) → Option Setting → Option (List Use)
uses_from [] None = Some []
uses_from [] (Some s) = None
uses_from (w ∷ ws) None = after_word (word_of w) (uses_from ws) ws
uses_from (w ∷ ws) (Some s) = if begins_with_dash w then None else with_use (Value s w) (uses_from ws None)

-- the positionals among the uses
abbrev pub places : List Use → List (List ℕ)
places [] = []
places (Place v ∷ us) = v ∷ places us
places (Value s v ∷ us) = places us

-- the values of a setting among the uses
abbrev pub values : Setting → List Use → List (List ℕ)
values s [] = []
values s (Place v ∷ us) = values s us
values s (Value t v ∷ us) = if bytes_eq (name_of t) (name_of s) then v ∷ values s us else values s us

-- What was given of each, in the order of the words.
pub record Given : Type 0 where
  pub files : List (List ℕ)
  pub segments : List (List ℕ)
  pub lengths : List (List ℕ)
  pub pages : List (List ℕ)
  pub budgets : List (List ℕ)
  pub demos : List (List ℕ)

abbrev pub given_by : List Use → Given
given_by us = record {
  files = places us;
  segments = values Segments us;
  lengths = values Length us;
  pages = values Pages us;
  budgets = values Budget us;
  demos = values Workload us;
}

-- ---- what they mean

-- one to sixteen digits
abbrev pub is_numeral : List ℕ → Bool
is_numeral text = list_all is_ascii_digit text && nat_le 1 (length text) && nat_le (length text) 16

-- the number that they write
abbrev pub numeral : List ℕ → Option ℕ
numeral text = if is_numeral text then Some (digits_value 10 text) else None

abbrev pub in_range : (least most : ℕ) → ℕ → Option ℕ
in_range least most n = if nat_le least n && nat_le n most then Some n else None

abbrev pub number : (least most : ℕ) → List ℕ → Option ℕ
number least most text = option_and_then (in_range least most) (numeral text)

-- the usual number where none is given, and no number where more than one is
abbrev pub number_or : (usual least most : ℕ) → List (List ℕ) → Option ℕ
number_or usual least most [] = Some usual
number_or usual least most (text ∷ []) = number least most text
number_or usual least most (text ∷ more ∷ rest) = None

-- the script that a positional names: `-` the source, and another text, unless it is empty, a file
abbrev pub script_at : List ℕ → Option Script
script_at [] = None
script_at (b ∷ bs) = Some (if bytes_eq (b ∷ bs) (codes "-") then Source else File (b ∷ bs))

-- the script: there is one positional or one workload, and not the other
abbrev pub script_of : (files demos : List (List ℕ)) → Option Script
script_of (text ∷ []) [] = script_at text
script_of [] (text ∷ []) = option_map Demo (number 0 1000000 text)
script_of _ _ = None

infixl 10 ◌>>=◌
abbrev pub ◌>>=◌ : {A B : Type 0} → Option A → (A → Option B) → Option B
o >>= f = option_and_then f o

abbrev pub options_from : Given → Option Options
options_from g = do
  script ← script_of g.files g.demos
  segments ← number_or 4 1 8 g.segments
  length ← number_or 1000 1 1000000 g.lengths
  pages ← number_or 16384 1 65536 g.pages
  budget ← number_or 1000000000000 1 1000000000000000 g.budgets
  Some (record { script = script; segments = segments; length = length; pages = pages; budget = budget })

-- The options that the words give, if they give any.
abbrev pub options_of : List (List ℕ) → Option Options
options_of words = uses_from words None >>= λ us. options_from (given_by us)

-- ---- the options that words give

-- the name of a file isn't empty and isn't `-`, and the number of a workload is at most a million
abbrev pub IsScript : Script → Type 0
IsScript Source = Unit {0}
IsScript (File name) = (1 ≤ length name) × (bytes_eq name (codes "-") ≡ false)
IsScript (Demo n) = n ≤ 1000000

-- Each number is in its range.
pub record IsWithin (o : Options) : Type 0 where
  pub script : IsScript o.script
  pub segments : (1 ≤ o.segments) × (o.segments ≤ 8)
  pub steps : (1 ≤ o.length) × (o.length ≤ 1000000)
  pub pages : (1 ≤ o.pages) × (o.pages ≤ 65536)
  pub budget : (1 ≤ o.budget) × (o.budget ≤ 1000000000000000)

abbrev pub option_words : Setting → ℕ → List (List ℕ)
option_words s n = (codes "--" ++ name_of s) ∷ decimal n ∷ []

abbrev pub script_words : Script → List (List ℕ)
script_words Source = codes "-" ∷ []
script_words (File name) = codes "--" ∷ name ∷ []
script_words (Demo n) = option_words Workload n

-- Words that give these options.
abbrev pub words_for : Options → List (List ℕ)
words_for o =
    option_words Segments o.segments ++ option_words Length o.length ++ option_words Pages o.pages
    ++ option_words Budget o.budget ++ script_words o.script
