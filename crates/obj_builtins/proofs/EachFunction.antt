-- What holds of the row of each builtin function holds of the row of a number.
use Rattle.std.proofs.Common.{ℕ, Bool, true, false, ◌==◌, cond, List}
use Rattle.std.specs.Prelude.{codes}
use Rattle.py_base.specs.Numbers.{builtin_number}
use Rattle.py_data.specs.declared.value.Value.{Value}
use Rattle.py_data.specs.declared.record.Got.{Got}
use Rattle.py_data.specs.declared.record.Got.TheVariants.{Raise}
use Rattle.py_data.specs.Fault.{operand_fault}
use Rattle.py_data.specs.Row.{Row, Ret}
use Rattle.obj_str.specs.Methods.{only, both}
use Rattle.obj_builtins.specs.declared.best.Side.TheVariants.{Least, Greatest}
use Rattle.obj_builtins.specs.Arguments.{few}
use Rattle.obj_builtins.specs.Lengths.{len_row}
use Rattle.obj_builtins.specs.Ranges.{bounds_of, range_row, xrange_row}
use Rattle.obj_builtins.specs.Numbers.{int_row, bool_row, abs_row, chr_row}
use Rattle.obj_builtins.specs.Texts.{str_row, repr_row, ord_row}
use Rattle.obj_builtins.specs.Gathering.{list_row, tuple_row, dict_row, sorted_by}
use Rattle.obj_builtins.specs.Kinds.{isinstance_row}
use Rattle.obj_builtins.specs.Best.{best_row}
use Rattle.obj_builtins.specs.Sums.{sum_row}
use Rattle.obj_builtins.specs.Functions.{later_row, function_row}

module _ {S : Type 0} (P : Row S (Got Value) → Type 0) (roots : ℕ) (args : List Value) where
  -- it holds of the row of each function, with these arguments
  pub record Each : Type 0 where
    pub len : P (len_row (only args))
    pub range : P (range_row (bounds_of args))
    pub xrange : P (xrange_row (bounds_of args))
    pub str : P (str_row roots (few args))
    pub repr : P (repr_row roots (only args))
    pub int : P (int_row (few args))
    pub bool : P (bool_row (few args))
    pub list : P (list_row (few args))
    pub tuple : P (tuple_row (few args))
    pub dict : P (dict_row (few args))
    pub isinstance : P (isinstance_row roots (both args))
    pub ord : P (ord_row (only args))
    pub chr : P (chr_row (only args))
    pub abs : P (abs_row (only args))
    pub min : P (best_row Least args)
    pub max : P (best_row Greatest args)
    pub sum : P (sum_row (only args))
    pub sorted : P (sorted_by (only args))
    pub other : P (Ret (Raise operand_fault))

  either : (b : Bool) (p q : Row S (Got Value)) → P p → P q → P (cond b p q)
  either true p q s t = s
  either false p q s t = t

  later_each : (b : ℕ) → Each → P (later_row roots b args)
  unfolding later_row
  later_each b e =
      either (b == builtin_number (codes "dict")) _ _ e.dict
      (either (b == builtin_number (codes "isinstance")) _ _ e.isinstance
      (either (b == builtin_number (codes "ord")) _ _ e.ord
      (either (b == builtin_number (codes "chr")) _ _ e.chr
      (either (b == builtin_number (codes "abs")) _ _ e.abs
      (either (b == builtin_number (codes "min")) _ _ e.min
      (either (b == builtin_number (codes "max")) _ _ e.max
      (either (b == builtin_number (codes "sum")) _ _ e.sum
      (either (b == builtin_number (codes "sorted")) _ _ e.sorted e.other))))))))

  pub each_function : (b : ℕ) → Each → P (function_row roots b args)
  unfolding function_row
  each_function b e =
      either (b == builtin_number (codes "len")) _ _ e.len
      (either (b == builtin_number (codes "range")) _ _ e.range
      (either (b == builtin_number (codes "xrange")) _ _ e.xrange
      (either (b == builtin_number (codes "str")) _ _ e.str
      (either (b == builtin_number (codes "repr")) _ _ e.repr
      (either (b == builtin_number (codes "int")) _ _ e.int
      (either (b == builtin_number (codes "bool")) _ _ e.bool
      (either (b == builtin_number (codes "list")) _ _ e.list
      (either (b == builtin_number (codes "tuple")) _ _ e.tuple (later_each b e)))))))))
