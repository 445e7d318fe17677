-- Names, keywords and operators. States `docs/LANGUAGE.md`, "Names and keywords" and "Operators".
use Rattle.std.specs.Prelude.{ℕ, Bool, true, ◌&&◌, if◌then◌else◌, List, [], ◌∷◌, length, map, drop, Option, Some, None, Ok}
use Rattle.std.specs.Str.{bytes_eq}
use Rattle.py_tokens.specs.declared.character.Character.{Character}
use Rattle.py_tokens.specs.declared.class.Class.TheVariants.{Byte, Name, Quote}
use Rattle.py_tokens.specs.declared.literal.Prefix.{Prefix}
use Rattle.py_tokens.specs.declared.token.TokenKind.{TokenKind}
use Rattle.py_tokens.specs.declared.token.TokenKind.TheVariants as k
use Rattle.py_tokens.specs.Characters.{byte_of}
use Rattle.py_tokens.specs.Classes.{next_is, run, after}
use Rattle.py_tokens.specs.Numbers.{Read}
use Rattle.py_tokens.specs.Strings.{prefix_of, string_at}
use Rattle.py_tokens.specs.Tables.{keywords}

-- the number of a word in the table
abbrev pub word_number : List (List ℕ × ℕ) → List ℕ → Option ℕ
word_number [] name = None
word_number (w ∷ ws) name = if bytes_eq w.0 name then Some w.1 else word_number ws name

abbrev pub name_kind : Option ℕ → List ℕ → TokenKind
name_kind (Some n) name = k.Keyword n
name_kind None name = k.Name name

abbrev pub named : ℕ → List Character → List Character → Option Prefix → Read
named line name rest (Some p) = string_at line p rest
named line name rest None = Ok (name_kind (word_number keywords (map byte_of name)) (map byte_of name), rest)

-- the name at the front; a prefix and quotes begin a string
unfoldable pub name_at : ℕ → List Character → Read
name_at line cs = let rest = after Name cs in
    named line (run Name cs) rest (if next_is Quote rest then prefix_of (run Name cs) else None)

-- the characters begin with these bytes
abbrev pub begins : List ℕ → List Character → Bool
begins [] cs = true
begins (b ∷ bs) cs = next_is (Byte b) cs && begins bs (drop 1 cs)

-- the number of the first operator of the table that is at the front, and how many characters it has
abbrev pub operator_at : List (List ℕ × ℕ) → List Character → Option (ℕ × ℕ)
operator_at [] cs = None
operator_at (o ∷ os) cs = if begins o.0 cs then Some (o.1, length o.0) else operator_at os cs
