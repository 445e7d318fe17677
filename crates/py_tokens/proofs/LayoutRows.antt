-- Worked rows: on which line an Indent, a Dedent and a bad dedent stand.
use Rattle.std.proofs.Common.{◌≡◌, codes, List, [], ◌∷◌, Ok, Err, refl}
use Rattle.py_base.specs.declared.refusal.Refusal.TheVariants.{BadDedent}
use Rattle.py_tokens.specs.declared.keyword.TheConstants as keyword
use Rattle.py_tokens.specs.declared.operator.TheConstants as operator
use Rattle.py_tokens.specs.declared.token.Token.{Token}
use Rattle.py_tokens.specs.declared.token.TokenKind.TheVariants as k
use Rattle.py_tokens.specs.Place.{place, token_at}
use Rattle.py_tokens.specs.Characters.{text_characters}
use Rattle.py_tokens.specs.Names.{name_at}
use Rattle.py_tokens.specs.Numbers.{number_at}
use Rattle.py_tokens.specs.Words.{word_at, cut}
use Rattle.py_tokens.specs.Layout.{laid, lexed, tokens_of_text}

-- `if x:` on line 1
abbrev head : List Token → List Token
head ts =
    token_at (k.Keyword keyword.IF) (place 0 2 1) ∷ token_at (k.Name (codes "x")) (place 3 4 1) ∷ token_at
    (k.Op operator.COLON) (place 4 5 1)
    ∷ token_at k.Newline (place 5 6 1) ∷ ts

-- the line's first token stands on its first line
plain : tokens_of_text (codes "if x:\n  y\n") ≡ Ok (head (
    token_at k.Indent (place 8 8 2) ∷ token_at (k.Name (codes "y")) (place 8 9 2) ∷ token_at k.Newline (place 9 10 2)
    ∷ token_at k.Dedent (place 10 10 2) ∷ token_at k.End (place 10 10 2) ∷ []
    ))
unfolding tokens_of_text lexed laid text_characters cut word_at name_at number_at
plain = refl

-- the line begins on line 2, and its first token stands on line 3
indent : tokens_of_text (codes "if x:\n  \\\n y\n") ≡ Ok (head (
    token_at k.Indent (place 8 8 2) ∷ token_at (k.Name (codes "y")) (place 11 12 3) ∷ token_at k.Newline (place 12 13 3)
    ∷ token_at k.Dedent (place 13 13 3) ∷ token_at k.End (place 13 13 3) ∷ []
    ))
unfolding tokens_of_text lexed laid text_characters cut word_at name_at number_at
indent = refl

-- the last line begins on line 3, and two joints lead to its first token on line 5
dedent : tokens_of_text (codes "if x:\n  y\n\\\n\\\nz\n") ≡ Ok (head (
    token_at k.Indent (place 8 8 2) ∷ token_at (k.Name (codes "y")) (place 8 9 2) ∷ token_at k.Newline (place 9 10 2)
    ∷ token_at k.Dedent (place 10 10 3) ∷ token_at (k.Name (codes "z")) (place 14 15 5) ∷ token_at k.Newline
    (place 15 16 5)
    ∷ token_at k.End (place 16 16 5) ∷ []
    ))
unfolding tokens_of_text lexed laid text_characters cut word_at name_at number_at
dedent = refl

-- a column that isn't on the stack, behind a joint
bad_dedent : tokens_of_text (codes "if x:\n  y\n \\\nz\n") ≡ Err (BadDedent 3)
unfolding tokens_of_text lexed laid text_characters cut word_at name_at number_at
bad_dedent = refl
