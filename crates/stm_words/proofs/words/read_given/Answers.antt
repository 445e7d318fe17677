use Rattle.std.proofs.Common.{◌≡◌, ◌∙◌, map, string_bytes, sym}
use Rattle.clap.specs.Matches.{found_of}
use Rattle.clap.specs.Values.{kind_of}
use Rattle.stm_words.specs.inner.Given.{error_of}
use Rattle.stm_words.specs.declared.error.WordsError.TheVariants.{Usage}
use Rattle.stm_words.proofs.Taken.{given_right, given_wrong, no_fault, same_rows, some_fault, strings_utf8}
use Rattle.stm_words.proofs.words.read_given.Goals as goal

pub returns-clause-given : goal.returns-clause-given
returns-clause-given c =
    let words = map string_bytes c.args.words.now in
    let parse = c.in-Ok.ensures in
    given_right (found_of c.in-Ok.matches) words _ (strings_utf8 c.args.words.now)
    (no_fault _ words c.in_ok-command.ensures parse.kinds)
    (same_rows _ words c.in-Ok.matches c.in_ok-command.ensures parse.matches)
    c.get_str.ensures c.get_str-2.ensures c.get_str-3.ensures c.get_str-4.ensures c.get_str-5.ensures
    c.get_str-6.ensures

pub returns-in-Err-clause-usage : goal.returns-in-Err-clause-usage
returns-in-Err-clause-usage c = λ usage.
    let words = map string_bytes c.args.words.now in
    let faulty = some_fault _ words c.in-Err.error c.in_ok-command.ensures c.in-Err.ensures.kinds in
    let was : error_of (kind_of c.in-Err.error) ≡ Usage = sym c.refusal.ensures ∙ cc in
    given_wrong words c.in-Err.error (strings_utf8 c.args.words.now) faulty was
