-- The tokens that operators, modules and their members are spelled with. States `docs/LANGUAGE.md`, "Grammar".
use Rattle.std.specs.Prelude.{codes, ℕ, Bool, ◌==◌, ◌&&◌, ◌||◌, List, [], ◌∷◌, Option, Some, None, if◌then◌else◌}
use Rattle.std.specs.Str.{bytes_eq}
use Rattle.py_tokens.specs.declared.token.Token.{Token}
use Rattle.py_tokens.specs.declared.token.TokenKind.{TokenKind}
use Rattle.py_grammar.specs.Codes as c
use Rattle.py_tokens.specs.declared.token.Place.{Place}
use Rattle.py_tokens.specs.Place.{token_at as at}
use Rattle.py_tree.specs.declared.expr.Level.{Level}
use Rattle.py_tree.specs.declared.expr.Level.TheVariants as level
use Rattle.py_tree.specs.declared.expr.Operator.{Operator}
use Rattle.py_tree.specs.declared.expr.Operator.TheVariants as op
use Rattle.py_tree.specs.declared.expr.Sign.{Sign}
use Rattle.py_tree.specs.declared.expr.Sign.TheVariants as sign

-- the line on which these tokens begin
abbrev pub line_of : List Token → ℕ
line_of [] = 0
line_of (t ∷ ts) = t.line

-- the level of expressions that the operands of a level of operators have
abbrev pub below : Level → ℕ
below level.Term = 3
below level.Sum = 4
below level.Shift = 5
below level.BitAnd = 6
below level.BitXor = 7
below level.BitOr = 8
below level.Compare = 9
below level.And = 11
below level.Or = 12

-- the level that an operator belongs to; `**` belongs to none
abbrev pub level_of : Operator → Option Level
level_of op.Or = Some level.Or
level_of op.And = Some level.And
level_of op.Less = Some level.Compare
level_of op.Greater = Some level.Compare
level_of op.Equal = Some level.Compare
level_of op.GreaterEqual = Some level.Compare
level_of op.LessEqual = Some level.Compare
level_of op.NotEqual = Some level.Compare
level_of op.In = Some level.Compare
level_of op.NotIn = Some level.Compare
level_of op.Is = Some level.Compare
level_of op.IsNot = Some level.Compare
level_of op.BitOr = Some level.BitOr
level_of op.BitXor = Some level.BitXor
level_of op.BitAnd = Some level.BitAnd
level_of op.ShiftLeft = Some level.Shift
level_of op.ShiftRight = Some level.Shift
level_of op.Plus = Some level.Sum
level_of op.Minus = Some level.Sum
level_of op.Times = Some level.Term
level_of op.Divide = Some level.Term
level_of op.Floor = Some level.Term
level_of op.Remainder = Some level.Term
level_of op.Power = None

-- the token that an operator begins with
abbrev pub first_word : Operator → TokenKind
first_word op.Or = c.or_
first_word op.And = c.and_
first_word op.Less = c.less
first_word op.Greater = c.greater
first_word op.Equal = c.equal
first_word op.GreaterEqual = c.greater_equal
first_word op.LessEqual = c.less_equal
first_word op.NotEqual = c.not_equal
first_word op.In = c.in_
first_word op.NotIn = c.not_
first_word op.Is = c.is_
first_word op.IsNot = c.is_
first_word op.BitOr = c.bar
first_word op.BitXor = c.caret
first_word op.BitAnd = c.ampersand
first_word op.ShiftLeft = c.shift_left
first_word op.ShiftRight = c.shift_right
first_word op.Plus = c.plus
first_word op.Minus = c.minus
first_word op.Times = c.star
first_word op.Divide = c.slash
first_word op.Floor = c.floor
first_word op.Remainder = c.percent
first_word op.Power = c.power

-- the second token of those that have two
abbrev pub more_words : Operator → Place → List Token
more_words op.NotIn q = at c.in_ q ∷ []
more_words op.IsNot q = at c.not_ q ∷ []
more_words _ q = []

-- how an operator is spelled; the second place is that of a second token
abbrev pub spelled : Operator → Place → Place → List Token
spelled o p q = at (first_word o) p ∷ more_words o q

abbrev pub sign_word : Sign → TokenKind
sign_word sign.Plus = c.plus
sign_word sign.Minus = c.minus
sign_word sign.Invert = c.tilde

-- the operator of an assignment such as `+=`, by its token's number
abbrev pub assigned : ℕ → Option Operator
assigned n =
    if n == 0 then Some op.Power else
    (if n == 1 then Some op.Floor else
    (if n == 2 then Some op.ShiftRight else
    (if n == 3 then Some op.ShiftLeft else
    (if n == 13 then Some op.Plus else
    (if n == 14 then Some op.Minus else
    (if n == 15 then Some op.Times else
    (if n == 16 then Some op.Divide else
    (if n == 17 then Some op.Remainder else
    (if n == 18 then Some op.BitAnd else
    (if n == 19 then Some op.BitOr else
    (if n == 20 then Some op.BitXor else None)))))))))))

abbrev pub is_module : List ℕ → Bool
is_module n = bytes_eq n (codes "thread") || bytes_eq n (codes "threading")

-- what may be imported from a module
abbrev pub is_member : List ℕ → List ℕ → Bool
is_member m n =
    (bytes_eq m (codes "thread") && (bytes_eq n (codes "start_new_thread") ||
    (bytes_eq n (codes "allocate_lock") || bytes_eq n (codes "error")))) ||
    (bytes_eq m (codes "threading") && (bytes_eq n (codes "Thread") || bytes_eq n (codes "Lock")))

-- the token's number of the assignment with an operator, such as `+=`
abbrev pub augment_word : Operator → Option ℕ
augment_word op.Power = Some 0
augment_word op.Floor = Some 1
augment_word op.ShiftRight = Some 2
augment_word op.ShiftLeft = Some 3
augment_word op.Plus = Some 13
augment_word op.Minus = Some 14
augment_word op.Times = Some 15
augment_word op.Divide = Some 16
augment_word op.Remainder = Some 17
augment_word op.BitAnd = Some 18
augment_word op.BitOr = Some 19
augment_word op.BitXor = Some 20
augment_word _ = None
