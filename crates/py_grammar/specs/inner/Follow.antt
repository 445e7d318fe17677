-- The mirror of the code: nothing public rests on it.
-- What may follow an expression without being taken for a part of it. It belongs to the reading of `Reading`, which
-- `docs/LANGUAGE.md`, "Grammar", is the rule of.
use Rattle.std.specs.Prelude.{ℕ, zero, suc, Bool, false, not, ◌&&◌, ◌||◌}
use Rattle.py_tokens.specs.declared.token.TokenKind.{TokenKind}
use Rattle.py_grammar.specs.declared.rung.Rung.{Rung}
use Rattle.py_grammar.specs.declared.rung.Rung.TheVariants.{Trailed, Powered, Signed, Chained, Negated, Chosen, Listed}
use Rattle.py_grammar.specs.inner.Reading.{rung_of, is_op, is_keyword, is_some, comes, trails, links, sign_of, string_of, is_unicode}

-- what a rung takes after the level below it
abbrev pub takes : Rung → TokenKind → Bool
takes Trailed kind = trails kind
takes Powered kind = is_op 4 kind
takes Signed kind = false
takes (Chained l) kind = links l kind
takes Negated kind = false
takes Chosen kind = is_keyword 16 kind
takes Listed kind = is_op 38 kind || comes 14 kind

-- what a rung takes before it
abbrev pub heads : Rung → TokenKind → Bool
heads Signed kind = is_some (sign_of kind)
heads Negated kind = is_keyword 21 kind
heads Chosen kind = is_keyword 20 kind
heads _ kind = false

abbrev pub stops : ℕ → TokenKind → Bool
stops zero kind = not (is_some (string_of kind) || is_unicode kind)
stops (suc n) kind = stops n kind && not (takes (rung_of n) kind)
