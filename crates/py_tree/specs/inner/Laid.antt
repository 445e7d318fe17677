-- What code and proofs say to each other: nothing public rests on it.
-- Which lexemes are laid out as a text's tokens are, so that they can be written and read again. States
-- `docs/LANGUAGE.md`, "The canonical text".
use Rattle.std.specs.Prelude.{◌≡◌, ℕ, pos, ◌+◌, ◌-◌, ◌^◌, ◌<◌, ◌≤◌, ◌==◌, Bool, true, false, ◌&&◌, if◌then◌else◌, List, [], ◌∷◌, None, All}
use Rattle.std.specs.List.{list_any, list_all}
use Rattle.py_tokens.specs.declared.class.Class.TheVariants as class
use Rattle.py_tokens.specs.declared.token.TokenKind.{TokenKind}
use Rattle.py_tokens.specs.declared.token.TokenKind.TheVariants.{Name, Keyword, Int, Str, Op, Newline, Indent, Dedent, End, Other}
use Rattle.py_tokens.specs.Classes.{holds}
use Rattle.py_tokens.specs.Names.{word_number}
use Rattle.py_tokens.specs.Tables.{keywords, operators}
use Rattle.py_tokens.specs.Words.{is_opening, is_closing}
use Rattle.py_tree.specs.Lexeme.{Lexeme}

-- ---- single tokens

abbrev pub is_name : List ℕ → Bool
is_name [] = false
is_name (b ∷ bs) = holds class.NameStart b && list_all (holds class.Name) bs

abbrev pub has_number : List (List ℕ × ℕ) → ℕ → Bool
has_number table n = list_any (λ w. w.1 == n) table

-- a token of the language that stands in a line, as a text may have it
abbrev pub IsWord : TokenKind → Type 0
IsWord (Name bs) = (is_name bs ≡ true) × (word_number keywords bs ≡ None)
IsWord (Keyword n) = has_number keywords n ≡ true
IsWord (Int n) = (k : ℕ) × (n ≡ pos k) × (k < 2 ^ 63)
IsWord (Str bs) = All (λ b. b < 256) bs
IsWord (Op n) = has_number operators n ≡ true
IsWord _ = ⊥

-- ---- lines

-- where a lexeme stands: at a line's start, after an Indent or a Dedent there, or within a line and so many brackets
pub data Stand : Type 0 where
  Start : Stand
  Indented : Stand
  Dedented : Stand
  Within : ℕ → Stand

abbrev pub brackets : Stand → ℕ
brackets (Within n) = n
brackets _ = 0

abbrev pub after_word : TokenKind → ℕ → ℕ
after_word (Op o) n = if is_opening o then n + 1 else (if is_closing o then n - 1 else n)
after_word _ n = n

-- a Dedent or the end may stand here
abbrev pub MayClose : Stand → Type 0
MayClose Start = Unit {0}
MayClose Dedented = Unit {0}
MayClose _ = ⊥

-- Of one lexeme of this kind and line, after this line, inside so many blocks: what is asked of it, of those after it,
-- and of the last. Those that lay lines out have no line.
abbrev pub Stands : TokenKind → ℕ → ℕ → ℕ → Stand → (ℕ → ℕ → Stand → Type 0) → Type 0 → Type 0
Stands Newline at line depth s rest last = (s ≡ Within 0) × rest (line + 1) depth Start × (at ≡ 0)
Stands Indent at line depth s rest last = (s ≡ Start) × rest line (depth + 1) Indented × (at ≡ 0)
Stands Dedent at line depth s rest last = MayClose s × (0 < depth) × rest line (depth - 1) Dedented × (at ≡ 0)
Stands End at line depth s rest last = MayClose s × (depth ≡ 0) × last × (at ≡ 0)
Stands (Name bs) at line depth s rest last = (line ≤ at) × IsWord (Name bs) × rest at depth (Within (brackets s))
Stands (Keyword n) at line depth s rest last = (line ≤ at) × IsWord (Keyword n) × rest at depth (Within (brackets s))
Stands (Int n) at line depth s rest last = (line ≤ at) × IsWord (Int n) × rest at depth (Within (brackets s))
Stands (Str bs) at line depth s rest last = (line ≤ at) × IsWord (Str bs) × rest at depth (Within (brackets s))
Stands (Op n) at line depth s rest last =
    (line ≤ at) × IsWord (Op n) × rest at depth (Within (after_word (Op n) (brackets s)))
Stands (Other o) at line depth s rest last = ⊥

-- Logical lines with the indentation between them, on lines that don't fall: from this line and depth on.
abbrev pub IsLaid : ℕ → ℕ → Stand → List Lexeme → Type 0
IsLaid line depth s [] = ⊥
IsLaid line depth s (l ∷ ls) = Stands l.kind l.line line depth s (λ n d t. IsLaid n d t ls) (ls ≡ [])
