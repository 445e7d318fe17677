-- The kinds of the tokens that the grammar names. States `docs/LANGUAGE.md`, "Names and keywords" and "Operators".
use Rattle.py_tokens.specs.declared.keyword.TheConstants as keyword
use Rattle.py_tokens.specs.declared.operator.TheConstants as operator
use Rattle.py_tokens.specs.declared.token.TokenKind.{TokenKind}
use Rattle.py_tokens.specs.declared.token.TokenKind.TheVariants.{Keyword, Op}

abbrev pub and_ : TokenKind
and_ = Keyword keyword.AND

abbrev pub as_ : TokenKind
as_ = Keyword keyword.AS

abbrev pub assert_ : TokenKind
assert_ = Keyword keyword.ASSERT

abbrev pub break_ : TokenKind
break_ = Keyword keyword.BREAK

abbrev pub class_ : TokenKind
class_ = Keyword keyword.CLASS

abbrev pub continue_ : TokenKind
continue_ = Keyword keyword.CONTINUE

abbrev pub def_ : TokenKind
def_ = Keyword keyword.DEF

abbrev pub del_ : TokenKind
del_ = Keyword keyword.DEL

abbrev pub elif_ : TokenKind
elif_ = Keyword keyword.ELIF

abbrev pub else_ : TokenKind
else_ = Keyword keyword.ELSE

abbrev pub except_ : TokenKind
except_ = Keyword keyword.EXCEPT

abbrev pub exec_ : TokenKind
exec_ = Keyword keyword.EXEC

abbrev pub finally_ : TokenKind
finally_ = Keyword keyword.FINALLY

abbrev pub for_ : TokenKind
for_ = Keyword keyword.FOR

abbrev pub from_ : TokenKind
from_ = Keyword keyword.FROM

abbrev pub global_ : TokenKind
global_ = Keyword keyword.GLOBAL

abbrev pub if_ : TokenKind
if_ = Keyword keyword.IF

abbrev pub import_ : TokenKind
import_ = Keyword keyword.IMPORT

abbrev pub in_ : TokenKind
in_ = Keyword keyword.IN

abbrev pub is_ : TokenKind
is_ = Keyword keyword.IS

abbrev pub lambda_ : TokenKind
lambda_ = Keyword keyword.LAMBDA

abbrev pub not_ : TokenKind
not_ = Keyword keyword.NOT

abbrev pub or_ : TokenKind
or_ = Keyword keyword.OR

abbrev pub pass_ : TokenKind
pass_ = Keyword keyword.PASS

abbrev pub print_ : TokenKind
print_ = Keyword keyword.PRINT

abbrev pub raise_ : TokenKind
raise_ = Keyword keyword.RAISE

abbrev pub return_ : TokenKind
return_ = Keyword keyword.RETURN

abbrev pub try_ : TokenKind
try_ = Keyword keyword.TRY

abbrev pub while_ : TokenKind
while_ = Keyword keyword.WHILE

abbrev pub with_ : TokenKind
with_ = Keyword keyword.WITH

abbrev pub yield_ : TokenKind
yield_ = Keyword keyword.YIELD

abbrev pub power : TokenKind
power = Op operator.POWER

abbrev pub floor : TokenKind
floor = Op operator.FLOOR

abbrev pub shift_left : TokenKind
shift_left = Op operator.SHIFT_LEFT

abbrev pub shift_right : TokenKind
shift_right = Op operator.SHIFT_RIGHT

abbrev pub less_equal : TokenKind
less_equal = Op operator.LESS_EQUAL

abbrev pub greater_equal : TokenKind
greater_equal = Op operator.GREATER_EQUAL

abbrev pub equal : TokenKind
equal = Op operator.EQUAL

abbrev pub not_equal : TokenKind
not_equal = Op operator.NOT_EQUAL

abbrev pub plus : TokenKind
plus = Op operator.PLUS

abbrev pub minus : TokenKind
minus = Op operator.MINUS

abbrev pub star : TokenKind
star = Op operator.STAR

abbrev pub slash : TokenKind
slash = Op operator.SLASH

abbrev pub percent : TokenKind
percent = Op operator.PERCENT

abbrev pub ampersand : TokenKind
ampersand = Op operator.AMPERSAND

abbrev pub bar : TokenKind
bar = Op operator.BAR

abbrev pub caret : TokenKind
caret = Op operator.CARET

abbrev pub tilde : TokenKind
tilde = Op operator.TILDE

abbrev pub less : TokenKind
less = Op operator.LESS

abbrev pub greater : TokenKind
greater = Op operator.GREATER

abbrev pub open_round : TokenKind
open_round = Op operator.OPEN_ROUND

abbrev pub close_round : TokenKind
close_round = Op operator.CLOSE_ROUND

abbrev pub open_square : TokenKind
open_square = Op operator.OPEN_SQUARE

abbrev pub close_square : TokenKind
close_square = Op operator.CLOSE_SQUARE

abbrev pub open_brace : TokenKind
open_brace = Op operator.OPEN_BRACE

abbrev pub close_brace : TokenKind
close_brace = Op operator.CLOSE_BRACE

abbrev pub comma : TokenKind
comma = Op operator.COMMA

abbrev pub colon : TokenKind
colon = Op operator.COLON

abbrev pub dot : TokenKind
dot = Op operator.DOT

abbrev pub semicolon : TokenKind
semicolon = Op operator.SEMICOLON

abbrev pub assign : TokenKind
assign = Op operator.ASSIGN

abbrev pub at_sign : TokenKind
at_sign = Op operator.AT

abbrev pub backquote : TokenKind
backquote = Op operator.BACKQUOTE
