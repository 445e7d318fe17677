-- The builtin functions by their numbers. States `docs/LANGUAGE.md`, "Builtins" and "Numbers and names".
use Rattle.std.specs.Prelude.{ℕ, ◌==◌, cond, List, codes}
use Rattle.py_base.specs.Numbers.{builtin_number}
use Rattle.py_data.specs.declared.value.Value.{Value}
use Rattle.py_data.specs.declared.record.Got.{Got}
use Rattle.py_data.specs.declared.record.Got.TheVariants.{Raise}
use Rattle.py_data.specs.Fault.{operand_fault}
use Rattle.py_data.specs.Row.{Row, Ret}
use Rattle.obj_str.specs.Methods.{only, both}
use Rattle.obj_builtins.specs.declared.best.Side.TheVariants.{Least, Greatest}
use Rattle.obj_builtins.specs.Arguments.{few}
use Rattle.obj_builtins.specs.Lengths.{len_row}
use Rattle.obj_builtins.specs.Ranges.{bounds_of, range_row, xrange_row}
use Rattle.obj_builtins.specs.Numbers.{int_row, bool_row, abs_row, chr_row}
use Rattle.obj_builtins.specs.Texts.{str_row, repr_row, ord_row}
use Rattle.obj_builtins.specs.Gathering.{list_row, tuple_row, dict_row, sorted_by}
use Rattle.obj_builtins.specs.Kinds.{isinstance_row}
use Rattle.obj_builtins.specs.Best.{best_row}
use Rattle.obj_builtins.specs.Sums.{sum_row}

-- the functions behind `tuple`; `unsupported operand` for any other number
unfoldable pub later_row : {S : Type 0} → ℕ → ℕ → List Value → Row S (Got Value)
later_row roots b args =
    cond (b == builtin_number (codes "dict")) (dict_row (few args))
    (cond (b == builtin_number (codes "isinstance")) (isinstance_row roots (both args))
    (cond (b == builtin_number (codes "ord")) (ord_row (only args))
    (cond (b == builtin_number (codes "chr")) (chr_row (only args))
    (cond (b == builtin_number (codes "abs")) (abs_row (only args))
    (cond (b == builtin_number (codes "min")) (best_row Least args)
    (cond (b == builtin_number (codes "max")) (best_row Greatest args)
    (cond (b == builtin_number (codes "sum")) (sum_row (only args))
    (cond (b == builtin_number (codes "sorted")) (sorted_by (only args)) (Ret (Raise operand_fault))))))))))

-- the address of the list of roots, the builtin's number, its arguments
unfoldable pub function_row : {S : Type 0} → ℕ → ℕ → List Value → Row S (Got Value)
function_row roots b args =
    cond (b == builtin_number (codes "len")) (len_row (only args))
    (cond (b == builtin_number (codes "range")) (range_row (bounds_of args))
    (cond (b == builtin_number (codes "xrange")) (xrange_row (bounds_of args))
    (cond (b == builtin_number (codes "str")) (str_row roots (few args))
    (cond (b == builtin_number (codes "repr")) (repr_row roots (only args))
    (cond (b == builtin_number (codes "int")) (int_row (few args))
    (cond (b == builtin_number (codes "bool")) (bool_row (few args))
    (cond (b == builtin_number (codes "list")) (list_row (few args))
    (cond (b == builtin_number (codes "tuple")) (tuple_row (few args)) (later_row roots b args)))))))))
