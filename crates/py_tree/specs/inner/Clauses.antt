-- What code and proofs say to each other: nothing public rests on it.
-- The lexemes of clauses and of statements one after another, as they are written. States `docs/LANGUAGE.md`, "The
-- canonical text".
use Rattle.std.specs.Prelude.{ℕ, Bool, ◌==◌, ◌||◌, if◌then◌else◌, List, [], ◌∷◌, ◌++◌, Option, Some, None}
use Rattle.py_tokens.specs.declared.keyword.TheConstants as keyword
use Rattle.py_tokens.specs.declared.operator.TheConstants as operator
use Rattle.py_tokens.specs.declared.token.TokenKind.{TokenKind}
use Rattle.py_tokens.specs.declared.token.TokenKind.TheVariants.{Keyword, Op}
use Rattle.py_tree.specs.declared.stmt.Arm.{Arm}
use Rattle.py_tree.specs.declared.stmt.Clause.{Clause}
use Rattle.py_tree.specs.declared.stmt.Handler.{Handler}
use Rattle.py_tree.specs.Lexeme.{Lexeme}
use Rattle.py_tree.specs.Spelling.{words}
use Rattle.py_tree.specs.Canonical.{Piece, Simple, Compound, on, newline, ending, in_order, block_lexemes, expr_or, led_or, head, pieces}

-- ---- clauses

-- an arm after its keyword
abbrev pub lexemes_arm : TokenKind → Arm → List Lexeme
lexemes_arm w a = head a.line (w ∷ words a.test) ++ block_lexemes a.line (pieces a.body)

abbrev pub lexemes_arms : TokenKind → List Arm → List Lexeme
lexemes_arms w [] = []
lexemes_arms w (a ∷ as') = lexemes_arm w a ++ lexemes_arms w as'

-- `if` and what follows
abbrev pub lexemes_if : List Arm → List Lexeme
lexemes_if [] = []
lexemes_if (a ∷ as') = lexemes_arm (Keyword keyword.IF) a ++ lexemes_arms (Keyword keyword.ELIF) as'

abbrev pub lexemes_clause : TokenKind → Clause → List Lexeme
lexemes_clause w c = head c.line (w ∷ []) ++ block_lexemes c.line (pieces c.body)

abbrev pub lexemes_clause_or : TokenKind → Option Clause → List Lexeme
lexemes_clause_or w None = []
lexemes_clause_or w (Some c) = lexemes_clause w c

abbrev pub lexemes_handler : Handler → List Lexeme
lexemes_handler h = head h.line (Keyword keyword.EXCEPT ∷ expr_or h.test ++ led_or (Keyword keyword.AS) h.target) ++
    block_lexemes h.line (pieces h.body)

abbrev pub lexemes_handlers : List Handler → List Lexeme
lexemes_handlers [] = []
lexemes_handlers (h ∷ hs) = lexemes_handler h ++ lexemes_handlers hs

-- ---- statements one after another

-- the line of a simple statement
abbrev pub simple_line : Piece → Option ℕ
simple_line (Simple line ws) = Some line
simple_line (Compound ls) = None

-- without what ends a simple one
abbrev pub piece_lexemes : Piece → List Lexeme
piece_lexemes (Simple line ws) = on line ws
piece_lexemes (Compound ls) = ls

-- what ends a simple statement of this line, if there is one, before a simple one of that line, if there is one
abbrev pub joint : Bool → Option ℕ → Option ℕ → List Lexeme
joint short None next = []
joint short (Some line) None = newline
joint short (Some line) (Some next) = if short || (line == next) then on line (Op operator.SEMICOLON ∷ []) else newline

-- statements after a simple one of this line, if there is one, that isn't ended yet
abbrev pub resumed : Bool → Option ℕ → List Piece → List Lexeme
resumed short None ps = in_order short ps
resumed short (Some line) ps = ending short line ps ++ in_order short ps
