-- What code and proofs say to each other of the words that `clap` read: nothing public rests on it.
use Rattle.std.specs.Prelude.{ℕ, true, List, Option, Some, codes, option_map}
use Rattle.std.specs.Option.{option_to_list}
use Rattle.std.specs.Borrow.{Bor}
use Rattle.clap.specs.Words.{App, Rule, new_app, new_rule, with_rule}
use Rattle.clap.specs.declared.error.kind.ErrorKind.{ErrorKind}
use Rattle.clap.specs.declared.error.kind.ErrorKind.TheVariants as kind
use Rattle.stm_words.specs.declared.error.WordsError.{WordsError}
use Rattle.stm_words.specs.declared.error.WordsError.TheVariants.{Usage, OutOfMemory}
use Rattle.stm_words.specs.declared.limits.Limits.{Limits}
use Rattle.stm_words.specs.declared.words.Given.{Given as Texts}
use Rattle.stm_words.specs.Options.{Given, number_or}

-- the error of a call, by the error of `clap`
abbrev pub error_of : ErrorKind → WordsError
error_of kind.OutOfMemory = OutOfMemory
error_of _ = Usage

-- a text that may be given, as a list
abbrev pub listed : Option (Bor (List ℕ)) → List (List ℕ)
listed text = option_to_list (option_map (λ s. s.now) text)

abbrev pub given_of : Texts → Given
given_of g = record {
  files = listed g.file;
  segments = listed g.segments;
  lengths = listed g.length;
  pages = listed g.pages;
  budgets = listed g.budget;
  demos = listed g.demo;
}

abbrev pub number_within : Limits → List (List ℕ) → Option ℕ
number_within limits = number_or limits.usual limits.least limits.most

-- ---- the command

abbrev pub option_rule : List ℕ → Rule
option_rule name = record (new_rule name) { long = Some name }

-- the command without its arguments
abbrev pub bare_app : App
bare_app =
    let a = new_app (codes "pystm") in
    record a { top = record a.top { no_binary_name = true; disable_help_flag = true } }

abbrev pub with_option : App → List ℕ → App
with_option a name = with_rule a (option_rule name)

abbrev pub pystm_app : App
pystm_app =
    with_rule (with_option (with_option (with_option (with_option (with_option bare_app (codes "segments"))
    (codes "length")) (codes "pages")) (codes "budget")) (codes "demo")) (new_rule (codes "file"))
