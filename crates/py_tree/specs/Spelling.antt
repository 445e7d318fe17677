-- The words that spell an expression, without their lines. States `docs/LANGUAGE.md`, "The canonical text" and
-- "Grammar".
-- Parentheses stand where the tree has them, round each tuple, and nowhere else. No comma trails but that of a tuple of
-- one.
use Rattle.std.specs.Prelude.{List, [], ◌∷◌, ◌++◌, Option, Some, None}
use Rattle.py_tokens.specs.declared.keyword.TheConstants as keyword
use Rattle.py_tokens.specs.declared.operator.TheConstants as operator
use Rattle.py_tokens.specs.declared.token.TokenKind.{TokenKind}
use Rattle.py_tokens.specs.declared.token.TokenKind.TheVariants.{Name, Keyword, Int, Str, Op}
use Rattle.py_tree.specs.declared.expr.Expr.{Expr}
use Rattle.py_tree.specs.declared.expr.Link.{Link}
use Rattle.py_tree.specs.declared.expr.Pair.{Pair}
use Rattle.py_tree.specs.declared.expr.Trailer.{Trailer}
use Rattle.py_tree.specs.declared.expr.Named.{Named}
use Rattle.py_tree.specs.declared.expr.Operator.{Operator}
use Rattle.py_tree.specs.declared.expr.Operator.TheVariants as op
use Rattle.py_tree.specs.declared.expr.Sign.{Sign}
use Rattle.py_tree.specs.declared.expr.Sign.TheVariants as sign
use Rattle.py_tree.specs.declared.expr.Expr.TheOpen as open'
use Rattle.py_tree.specs.declared.expr.Expr.TheFolds.{fold-Expr, fold-Link, fold-Pair, fold-Trailer, fold-Named}

abbrev pub Words : Type 0
Words = List TokenKind

-- ---- operators

abbrev pub operator_words : Operator → Words
operator_words op.Or = Keyword keyword.OR ∷ []
operator_words op.And = Keyword keyword.AND ∷ []
operator_words op.Less = Op operator.LESS ∷ []
operator_words op.Greater = Op operator.GREATER ∷ []
operator_words op.Equal = Op operator.EQUAL ∷ []
operator_words op.GreaterEqual = Op operator.GREATER_EQUAL ∷ []
operator_words op.LessEqual = Op operator.LESS_EQUAL ∷ []
operator_words op.NotEqual = Op operator.NOT_EQUAL ∷ []
operator_words op.In = Keyword keyword.IN ∷ []
operator_words op.NotIn = Keyword keyword.NOT ∷ Keyword keyword.IN ∷ []
operator_words op.Is = Keyword keyword.IS ∷ []
operator_words op.IsNot = Keyword keyword.IS ∷ Keyword keyword.NOT ∷ []
operator_words op.BitOr = Op operator.BAR ∷ []
operator_words op.BitXor = Op operator.CARET ∷ []
operator_words op.BitAnd = Op operator.AMPERSAND ∷ []
operator_words op.ShiftLeft = Op operator.SHIFT_LEFT ∷ []
operator_words op.ShiftRight = Op operator.SHIFT_RIGHT ∷ []
operator_words op.Plus = Op operator.PLUS ∷ []
operator_words op.Minus = Op operator.MINUS ∷ []
operator_words op.Times = Op operator.STAR ∷ []
operator_words op.Divide = Op operator.SLASH ∷ []
operator_words op.Floor = Op operator.FLOOR ∷ []
operator_words op.Remainder = Op operator.PERCENT ∷ []
operator_words op.Power = Op operator.POWER ∷ []

abbrev pub sign_words : Sign → Words
sign_words sign.Plus = Op operator.PLUS ∷ []
sign_words sign.Minus = Op operator.MINUS ∷ []
sign_words sign.Invert = Op operator.TILDE ∷ []

-- ---- lists, brackets and what may be left out

-- each with this word before it
abbrev pub led : TokenKind → List Words → Words
led k [] = []
led k (ws ∷ wss) = k ∷ ws ++ led k wss

-- with commas between them
abbrev pub commas : List Words → Words
commas [] = []
commas (ws ∷ wss) = ws ++ led (Op operator.COMMA) wss

-- one after another
abbrev pub all_words : List Words → Words
all_words [] = []
all_words (ws ∷ wss) = ws ++ all_words wss

abbrev pub round : Words → Words
round ws = Op operator.OPEN_ROUND ∷ ws ++ Op operator.CLOSE_ROUND ∷ []

abbrev pub square : Words → Words
square ws = Op operator.OPEN_SQUARE ∷ ws ++ Op operator.CLOSE_SQUARE ∷ []

abbrev pub brace : Words → Words
brace ws = Op operator.OPEN_BRACE ∷ ws ++ Op operator.CLOSE_BRACE ∷ []

-- with a comma after a single one
abbrev pub tuple_words : List Words → Words
tuple_words (ws ∷ []) = ws ++ Op operator.COMMA ∷ []
tuple_words wss = commas wss

abbrev pub words_or : Option Words → Words
words_or None = []
words_or (Some ws) = ws

-- ---- expressions

abbrev pub expr_words : open'.Expr-F Words Words Words Words Words → Words
expr_words (open'.Name n) = Name n ∷ []
expr_words (open'.Int n) = Int n ∷ []
expr_words (open'.Str s) = Str s ∷ []
expr_words (open'.Group ws) = round ws
expr_words (open'.Tuple wss) = round (tuple_words wss)
expr_words (open'.List wss) = square (commas wss)
expr_words (open'.Dict wss) = brace (commas wss)
expr_words (open'.Trail ws wss) = ws ++ all_words wss
expr_words (open'.Power ws vs) = ws ++ Op operator.POWER ∷ vs
expr_words (open'.Unary s ws) = sign_words s ++ ws
expr_words (open'.Chain l ws wss) = ws ++ all_words wss
expr_words (open'.Not ws) = Keyword keyword.NOT ∷ ws
expr_words (open'.Choice xs cs ys) = xs ++ Keyword keyword.IF ∷ cs ++ Keyword keyword.ELSE ∷ ys

abbrev pub trailer_words : open'.Trailer-F Words Words Words Words Words → Words
trailer_words (open'.Attribute n) = Op operator.DOT ∷ Name n ∷ []
trailer_words (open'.Index ws) = square ws
trailer_words (open'.Slice ws vs) = square (words_or ws ++ Op operator.COLON ∷ words_or vs)
trailer_words (open'.Call wss vss) = round (commas (wss ++ vss))

abbrev pub link_words : open'.Link-F Words Words Words Words Words → Words
link_words l = operator_words l.operator ++ l.operand

abbrev pub named_words : open'.Named-F Words Words Words Words Words → Words
named_words n = Name n.name ∷ Op operator.ASSIGN ∷ n.value

abbrev pub pair_words : open'.Pair-F Words Words Words Words Words → Words
pair_words p = p.key ++ Op operator.COLON ∷ p.value

unfoldable pub words : Expr → Words
words = fold-Expr Words Words Words Words Words expr_words trailer_words link_words named_words pair_words

unfoldable pub words_trailer : Trailer → Words
words_trailer = fold-Trailer Words Words Words Words Words expr_words trailer_words link_words named_words pair_words

unfoldable pub words_link : Link → Words
words_link = fold-Link Words Words Words Words Words expr_words trailer_words link_words named_words pair_words

unfoldable pub words_named : Named → Words
words_named = fold-Named Words Words Words Words Words expr_words trailer_words link_words named_words pair_words

unfoldable pub words_pair : Pair → Words
words_pair = fold-Pair Words Words Words Words Words expr_words trailer_words link_words named_words pair_words
