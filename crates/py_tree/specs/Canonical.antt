-- The canonical text of a module: its lexemes, in the order of the grammar, as they are written.
-- States `docs/LANGUAGE.md`, "The canonical text".
-- All words of a simple statement stand on its line, and those of a clause up to its colon on the clause's line.
use Rattle.std.specs.Prelude.{ℕ, ◌==◌, Bool, true, false, ◌||◌, if◌then◌else◌, List, [], ◌∷◌, ◌++◌, map, Option, Some, None}
use Rattle.py_tokens.specs.declared.keyword.TheConstants as keyword
use Rattle.py_tokens.specs.declared.operator.TheConstants as operator
use Rattle.py_tokens.specs.declared.token.TokenKind.{TokenKind}
use Rattle.py_tokens.specs.declared.token.TokenKind.TheVariants.{Name, Keyword, Op, Newline, Indent, Dedent, End}
use Rattle.py_tree.specs.Lexeme.{Lexeme, lexeme}
use Rattle.py_tree.specs.Spelling.{Words, commas, round, words}
use Rattle.py_tree.specs.Writing.{written, first_pen}
use Rattle.py_tree.specs.declared.expr.Expr.{Expr}
use Rattle.py_tree.specs.declared.expr.Operator.{Operator}
use Rattle.py_tree.specs.declared.expr.Operator.TheVariants as op
use Rattle.py_tree.specs.declared.stmt.Stmt.{Stmt}
use Rattle.py_tree.specs.declared.stmt.Module.{Module}
use Rattle.py_tree.specs.declared.stmt.Imported.{Imported}
use Rattle.py_tree.specs.declared.stmt.Param.{Param}
use Rattle.py_tree.specs.declared.stmt.Stmt.TheOpen as open'
use Rattle.py_tree.specs.declared.stmt.Stmt.TheFolds.{fold-Stmt}

-- ---- lexemes

-- these words on a line
abbrev pub on : ℕ → Words → List Lexeme
on line [] = []
on line (k ∷ ks) = lexeme k line ∷ on line ks

abbrev pub newline : List Lexeme
newline = lexeme Newline 0 ∷ []

-- ---- lists of statements

-- A simple statement has its line and its words, and nothing that ends it yet; a compound one all its lexemes.
pub data Piece : Type 0 where
  Simple : ℕ → Words → Piece
  Compound : List Lexeme → Piece

-- What ends a simple statement of this line before these: a semicolon before a simple one on the same line, or on any
-- line where all stand on their clause's line.
abbrev pub ending : Bool → ℕ → List Piece → List Lexeme
ending short line (Simple next ws ∷ ps) = if short || (line == next) then on line (Op operator.SEMICOLON ∷ []) else
    newline
ending short line _ = newline

abbrev pub in_order : Bool → List Piece → List Lexeme
in_order short [] = []
in_order short (Simple line ws ∷ ps) = on line ws ++ ending short line ps ++ in_order short ps
in_order short (Compound ls ∷ ps) = ls ++ in_order short ps

-- the first is a simple statement on this line
abbrev pub begins_on : ℕ → List Piece → Bool
begins_on line (Simple next ws ∷ ps) = line == next
begins_on line _ = false

-- The block of a clause of this line: on that line if its first statement is, and else indented.
abbrev pub block_lexemes : ℕ → List Piece → List Lexeme
block_lexemes line ps =
    if begins_on line ps then in_order true ps else
    newline ++ lexeme Indent 0 ∷ in_order false ps ++ lexeme Dedent 0 ∷ []

-- ---- the words of statements

abbrev pub all : List Expr → List Words
all es = map words es

-- each with this word after it
abbrev pub ended : TokenKind → List Words → Words
ended k [] = []
ended k (ws ∷ wss) = ws ++ k ∷ ended k wss

abbrev pub expr_or : Option Expr → Words
expr_or None = []
expr_or (Some a) = words a

-- with this word before it, if it is there
abbrev pub led_or : TokenKind → Option Expr → Words
led_or k None = []
led_or k (Some a) = k ∷ words a

-- an assignment with an operator
abbrev pub assigning : Operator → Words
assigning op.Power = Op operator.POWER_ASSIGN ∷ []
assigning op.Floor = Op operator.FLOOR_ASSIGN ∷ []
assigning op.ShiftRight = Op operator.SHIFT_RIGHT_ASSIGN ∷ []
assigning op.ShiftLeft = Op operator.SHIFT_LEFT_ASSIGN ∷ []
assigning op.Plus = Op operator.PLUS_ASSIGN ∷ []
assigning op.Minus = Op operator.MINUS_ASSIGN ∷ []
assigning op.Times = Op operator.STAR_ASSIGN ∷ []
assigning op.Divide = Op operator.SLASH_ASSIGN ∷ []
assigning op.Remainder = Op operator.PERCENT_ASSIGN ∷ []
assigning op.BitAnd = Op operator.AMPERSAND_ASSIGN ∷ []
assigning op.BitOr = Op operator.BAR_ASSIGN ∷ []
assigning op.BitXor = Op operator.CARET_ASSIGN ∷ []
assigning _ = []

abbrev pub trailing : Bool → Words
trailing true = Op operator.COMMA ∷ []
trailing false = []

abbrev pub name_words : List ℕ → Words
name_words n = Name n ∷ []

abbrev pub bound_words : Option (List ℕ) → Words
bound_words None = []
bound_words (Some n) = Keyword keyword.AS ∷ Name n ∷ []

abbrev pub imported_words : Imported → Words
imported_words i = Name i.name ∷ bound_words i.bound

abbrev pub param_words : Param → Words
param_words p = Name p.name ∷ led_or (Op operator.ASSIGN) p.default

abbrev pub base_words : Option Expr → Words
base_words None = []
base_words (Some a) = round (words a)

abbrev pub head : ℕ → Words → List Lexeme
head line ws = on line (ws ++ Op operator.COLON ∷ [])

-- ---- statements

-- a clause, but for the keyword that it begins with
abbrev pub Headless : Type 0
Headless = TokenKind → List Lexeme

abbrev pub clause_or : TokenKind → Option Headless → List Lexeme
clause_or k None = []
clause_or k (Some f) = f k

abbrev pub clauses : TokenKind → List Headless → List Lexeme
clauses k [] = []
clauses k (f ∷ fs) = f k ++ clauses k fs

-- `if`, and then `elif`
abbrev pub arms : List Headless → List Lexeme
arms [] = []
arms (f ∷ fs) = f (Keyword keyword.IF) ++ clauses (Keyword keyword.ELIF) fs

abbrev pub all_lexemes : List (List Lexeme) → List Lexeme
all_lexemes [] = []
all_lexemes (ls ∷ lss) = ls ++ all_lexemes lss

abbrev pub stmt_piece : open'.Stmt-F Piece Headless Headless (List Lexeme) → Piece
stmt_piece (open'.Do l e) = Simple l (words e)
stmt_piece (open'.Assign l es e) = Simple l (ended (Op operator.ASSIGN) (all es) ++ words e)
stmt_piece (open'.Augment l e o f) = Simple l (words e ++ assigning o ++ words f)
stmt_piece (open'.Print l es b) = Simple l (Keyword keyword.PRINT ∷ commas (all es) ++ trailing b)
stmt_piece (open'.Pass l) = Simple l (Keyword keyword.PASS ∷ [])
stmt_piece (open'.Break l) = Simple l (Keyword keyword.BREAK ∷ [])
stmt_piece (open'.Continue l) = Simple l (Keyword keyword.CONTINUE ∷ [])
stmt_piece (open'.Return l e) = Simple l (Keyword keyword.RETURN ∷ expr_or e)
stmt_piece (open'.Raise l e f) = Simple l (Keyword keyword.RAISE ∷ expr_or e ++ led_or (Op operator.COMMA) f)
stmt_piece (open'.Del l es) = Simple l (Keyword keyword.DEL ∷ commas (all es))
stmt_piece (open'.Global l ns) = Simple l (Keyword keyword.GLOBAL ∷ commas (map name_words ns))
stmt_piece (open'.Assert l e f) = Simple l (Keyword keyword.ASSERT ∷ words e ++ led_or (Op operator.COMMA) f)
stmt_piece (open'.Import l is) = Simple l (Keyword keyword.IMPORT ∷ commas (map imported_words is))
stmt_piece (open'.From l m is) = Simple l
    (Keyword keyword.FROM ∷ Name m ∷ Keyword keyword.IMPORT ∷ commas (map imported_words is))
stmt_piece (open'.If fs d) = Compound (arms fs ++ clause_or (Keyword keyword.ELSE) d)
stmt_piece (open'.While f d) = Compound (f (Keyword keyword.WHILE) ++ clause_or (Keyword keyword.ELSE) d)
stmt_piece (open'.For l t e ps d) = Compound
    (head l (Keyword keyword.FOR ∷ words t ++ Keyword keyword.IN ∷ words e) ++ block_lexemes l ps ++ clause_or
    (Keyword keyword.ELSE) d)
stmt_piece (open'.Try f hs d e) = Compound
    (f (Keyword keyword.TRY) ++ all_lexemes hs ++ clause_or (Keyword keyword.ELSE) d ++ clause_or
    (Keyword keyword.FINALLY) e)
stmt_piece (open'.Def l n as' ps) = Compound
    (head l (Keyword keyword.DEF ∷ Name n ∷ round (commas (map param_words as'))) ++ block_lexemes l ps)
stmt_piece (open'.Class l n e ps) = Compound
    (head l (Keyword keyword.CLASS ∷ Name n ∷ base_words e) ++ block_lexemes l ps)

abbrev pub arm_lexemes : open'.Arm-F Piece Headless Headless (List Lexeme) → Headless
arm_lexemes a = λ k. head a.line (k ∷ words a.test) ++ block_lexemes a.line a.body

abbrev pub clause_lexemes : open'.Clause-F Piece Headless Headless (List Lexeme) → Headless
clause_lexemes c = λ k. head c.line (k ∷ []) ++ block_lexemes c.line c.body

abbrev pub handler_lexemes : open'.Handler-F Piece Headless Headless (List Lexeme) → List Lexeme
handler_lexemes h = head h.line (Keyword keyword.EXCEPT ∷ expr_or h.test ++ led_or (Keyword keyword.AS) h.target) ++
    block_lexemes h.line h.body

unfoldable pub piece : Stmt → Piece
piece = fold-Stmt Piece Headless Headless (List Lexeme) stmt_piece arm_lexemes clause_lexemes handler_lexemes

-- ---- modules

abbrev pub pieces : List Stmt → List Piece
pieces ss = map piece ss

abbrev pub lexemes : Module → List Lexeme
lexemes m = in_order false (pieces m.body) ++ lexeme End 0 ∷ []

abbrev pub module_text : Module → List ℕ
module_text m = written first_pen (lexemes m)
