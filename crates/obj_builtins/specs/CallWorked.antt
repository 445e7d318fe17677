-- Calls of builtins, worked by hand. States `docs/LANGUAGE.md`, "Builtins" and "Numbers and names".
use Rattle.std.specs.Prelude.{◌≡◌, pos, codes, true, false, [], ◌∷◌, None, refl}
use Rattle.std.specs.Io.BufRead.{strip_last}
use Rattle.py_base.specs.declared.kind.Kind.TheVariants.{Str, List as ListKind}
use Rattle.py_base.specs.Numbers.{builtin_number}
use Rattle.py_data.specs.declared.value.Value.TheVariants.{Unset, None as NoneValue, Int}
use Rattle.py_data.specs.declared.record.Got.{Got}
use Rattle.py_data.specs.declared.record.Got.TheVariants.{Raise}
use Rattle.py_data.specs.Fault.{argument_fault, operand_fault}
use Rattle.py_data.specs.Row.{Row, Ret, bind}
use Rattle.obj_class.specs.Bases.{ref}
use Rattle.obj_threads.specs.declared.answer.Answer.{Answer}
use Rattle.obj_threads.specs.Arguments.{callable_fault}
use Rattle.obj_threads.specs.Threads.{thread_call_row, member_row}
use Rattle.obj_builtins.specs.Calls.{call_row, function_keyed, input_call, input_keyed, is_function, is_object_method, method_keyed, method_of, object_row, other_row}
use Rattle.obj_builtins.specs.Input.{end_fault, input_row, line_row}

module _ (S : Type 0) where
  abbrev Answers : Type 0
  Answers = Row S (Got Answer)

  -- a number has no method, whatever the arguments are; and a list has none of strings
  number_has_none : ◌≡◌ {A = Answers} (call_row 3 None (builtin_number (codes "list.append")) (Int (pos 5)) []
      (ref 8 ∷ NoneValue ∷ [])) (Ret (Raise operand_fault))
  unfolding call_row object_row
  number_has_none = refl

  list_does_not_join : ◌≡◌ {A = Answers} (method_of (builtin_number (codes "str.join")) 7 [] [] ListKind)
      (Ret (Raise operand_fault))
  unfolding method_of
  list_does_not_join = refl

  -- keywords are for `Thread` alone
  no_keyword_for_strings : ◌≡◌ {A = Answers}
      (method_keyed (builtin_number (codes "str.upper")) 7 [] (ref 8 ∷ NoneValue ∷ []) Str) (Ret (Raise argument_fault))
  unfolding method_keyed
  no_keyword_for_strings = refl

  no_keyword_for_len : ◌≡◌ {A = Answers}
      (call_row 3 None (builtin_number (codes "len")) Unset [] (ref 8 ∷ NoneValue ∷ [])) (Ret (Raise argument_fault))
  unfolding call_row function_keyed
  no_keyword_for_len = refl

  no_keyword_for_input : ◌≡◌ {A = Answers}
      (call_row 3 None (builtin_number (codes "raw_input")) Unset [] (ref 8 ∷ NoneValue ∷ []))
      (Ret (Raise argument_fault))
  unfolding call_row other_row input_keyed
  no_keyword_for_input = refl

  -- a prompt alone
  two_prompts : ◌≡◌ {A = Answers} (call_row 3 None (builtin_number (codes "raw_input")) Unset (ref 8 ∷ ref 9 ∷ []) [])
      (Ret (Raise argument_fault))
  unfolding call_row other_row input_keyed input_call input_row bind
  two_prompts = refl

  modules_are_not_called : ◌≡◌ {A = Answers} (call_row 3 None (builtin_number (codes "thread")) Unset [] [])
      (Ret (Raise callable_fault))
  unfolding call_row other_row thread_call_row member_row
  modules_are_not_called = refl

  -- nothing taken is the end, and a newline alone is an empty line
  end_of_input : ◌≡◌ {A = Row S (Got _)} (line_row []) (Ret (Raise end_fault))
  unfolding line_row
  end_of_input = refl

-- ---- lines
newline_goes : strip_last 10 (codes "ab\n") ≡ codes "ab"
newline_goes = refl

one_newline_goes : strip_last 10 (codes "ab\n\n") ≡ codes "ab\n"
one_newline_goes = refl

empty_line : strip_last 10 (codes "\n") ≡ []
empty_line = refl

no_newline : strip_last 10 (codes "ab") ≡ codes "ab"
no_newline = refl

-- ---- numbers
sorted_is_a_function : is_function (builtin_number (codes "sorted")) ≡ true
sorted_is_a_function = refl

raw_input_is_none : is_function (builtin_number (codes "raw_input")) ≡ false
raw_input_is_none = refl

acquire_is_no_object_method : is_object_method (builtin_number (codes "lock.acquire")) ≡ false
acquire_is_no_object_method = refl
