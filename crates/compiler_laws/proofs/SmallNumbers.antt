-- Operators and signs have small numbers.
use Rattle.std.proofs.Common.{◌<◌, arith}
use Rattle.py_tree.specs.declared.expr.Operator.{Operator}
use Rattle.py_tree.specs.declared.expr.Operator.TheVariants as op
use Rattle.py_tree.specs.declared.expr.Sign.{Sign}
use Rattle.py_tree.specs.declared.expr.Sign.TheVariants as sign
use Rattle.py_templates.specs.Expressions.{operator, sign_number}

pub operator_small : (o : Operator) → operator o < 12
operator_small op.Or = omega arith
operator_small op.And = omega arith
operator_small op.Less = omega arith
operator_small op.Greater = omega arith
operator_small op.Equal = omega arith
operator_small op.GreaterEqual = omega arith
operator_small op.LessEqual = omega arith
operator_small op.NotEqual = omega arith
operator_small op.In = omega arith
operator_small op.NotIn = omega arith
operator_small op.Is = omega arith
operator_small op.IsNot = omega arith
operator_small op.BitOr = omega arith
operator_small op.BitXor = omega arith
operator_small op.BitAnd = omega arith
operator_small op.ShiftLeft = omega arith
operator_small op.ShiftRight = omega arith
operator_small op.Plus = omega arith
operator_small op.Minus = omega arith
operator_small op.Times = omega arith
operator_small op.Divide = omega arith
operator_small op.Floor = omega arith
operator_small op.Remainder = omega arith
operator_small op.Power = omega arith

pub sign_small : (g : Sign) → sign_number g < 3
sign_small sign.Plus = omega arith
sign_small sign.Minus = omega arith
sign_small sign.Invert = omega arith
