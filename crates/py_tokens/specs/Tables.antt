-- The keywords and the operators, each with its number. States `docs/LANGUAGE.md`, "Names and keywords" and
-- "Operators".
use Rattle.std.specs.Prelude.{ℕ, List, [], ◌∷◌, codes}
use Rattle.py_tokens.specs.declared.keyword.TheConstants as keyword
use Rattle.py_tokens.specs.declared.operator.TheConstants as operator

abbrev pub keywords : List (List ℕ × ℕ)
keywords =
    (codes "and", keyword.AND) ∷ (codes "as", keyword.AS) ∷ (codes "assert", keyword.ASSERT) ∷
    (codes "break", keyword.BREAK) ∷
    (codes "class", keyword.CLASS) ∷ (codes "continue", keyword.CONTINUE) ∷ (codes "def", keyword.DEF) ∷
    (codes "del", keyword.DEL) ∷
    (codes "elif", keyword.ELIF) ∷ (codes "else", keyword.ELSE) ∷ (codes "except", keyword.EXCEPT) ∷
    (codes "exec", keyword.EXEC) ∷
    (codes "finally", keyword.FINALLY) ∷ (codes "for", keyword.FOR) ∷ (codes "from", keyword.FROM) ∷
    (codes "global", keyword.GLOBAL) ∷
    (codes "if", keyword.IF) ∷ (codes "import", keyword.IMPORT) ∷ (codes "in", keyword.IN) ∷ (codes "is", keyword.IS) ∷
    (codes "lambda", keyword.LAMBDA) ∷ (codes "not", keyword.NOT) ∷ (codes "or", keyword.OR) ∷
    (codes "pass", keyword.PASS) ∷
    (codes "print", keyword.PRINT) ∷ (codes "raise", keyword.RAISE) ∷ (codes "return", keyword.RETURN) ∷
    (codes "try", keyword.TRY) ∷
    (codes "while", keyword.WHILE) ∷ (codes "with", keyword.WITH) ∷ (codes "yield", keyword.YIELD) ∷
    []

-- Longer ones come first, so that the first that fits is the longest.
abbrev pub operators : List (List ℕ × ℕ)
operators =
    (codes "**=", operator.POWER_ASSIGN) ∷ (codes "//=", operator.FLOOR_ASSIGN) ∷
    (codes ">>=", operator.SHIFT_RIGHT_ASSIGN) ∷ (codes "<<=", operator.SHIFT_LEFT_ASSIGN) ∷
    (codes "**", operator.POWER) ∷ (codes "//", operator.FLOOR) ∷ (codes "<<", operator.SHIFT_LEFT) ∷
    (codes ">>", operator.SHIFT_RIGHT) ∷
    (codes "<=", operator.LESS_EQUAL) ∷ (codes ">=", operator.GREATER_EQUAL) ∷ (codes "==", operator.EQUAL) ∷
    (codes "!=", operator.NOT_EQUAL) ∷
    (codes "<>", operator.NOT_EQUAL) ∷ (codes "+=", operator.PLUS_ASSIGN) ∷ (codes "-=", operator.MINUS_ASSIGN) ∷
    (codes "*=", operator.STAR_ASSIGN) ∷
    (codes "/=", operator.SLASH_ASSIGN) ∷ (codes "%=", operator.PERCENT_ASSIGN) ∷
    (codes "&=", operator.AMPERSAND_ASSIGN) ∷ (codes "|=", operator.BAR_ASSIGN) ∷
    (codes "^=", operator.CARET_ASSIGN) ∷ (codes "+", operator.PLUS) ∷ (codes "-", operator.MINUS) ∷
    (codes "*", operator.STAR) ∷
    (codes "/", operator.SLASH) ∷ (codes "%", operator.PERCENT) ∷ (codes "&", operator.AMPERSAND) ∷
    (codes "|", operator.BAR) ∷
    (codes "^", operator.CARET) ∷ (codes "~", operator.TILDE) ∷ (codes "<", operator.LESS) ∷
    (codes ">", operator.GREATER) ∷
    (codes "(", operator.OPEN_ROUND) ∷ (codes ")", operator.CLOSE_ROUND) ∷ (codes "[", operator.OPEN_SQUARE) ∷
    (codes "]", operator.CLOSE_SQUARE) ∷
    (codes "{", operator.OPEN_BRACE) ∷ (codes "}", operator.CLOSE_BRACE) ∷ (codes ",", operator.COMMA) ∷
    (codes ":", operator.COLON) ∷
    (codes ".", operator.DOT) ∷ (codes ";", operator.SEMICOLON) ∷ (codes "=", operator.ASSIGN) ∷
    (codes "@", operator.AT) ∷
    (codes "`", operator.BACKQUOTE) ∷
    []
