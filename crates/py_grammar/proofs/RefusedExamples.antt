-- Examples of what is refused, and of where, through the reading function.
use Rattle.std.proofs.Common.{◌≡◌, ℤ, [], ◌∷◌, Err, refl}
use Rattle.py_tokens.specs.declared.token.Other.TheVariants as other
use Rattle.py_tokens.specs.declared.token.TokenKind.TheVariants as k
use Rattle.py_base.specs.declared.refusal.Construct.TheVariants as left
use Rattle.py_grammar.specs.declared.fault.Fault.TheVariants.{Unexpected, LeftOut}
use Rattle.py_grammar.specs.inner.Reading.{op_at, keyword_at, name_at, strings_at, tests_at, round_at, list_at, pairs_at, dict_at, atom_at, named_at, args_at, slice_at, subscript_at, call_at, trailer_at, trailers_at, trail_at, power_at, links_at, chain_at, choice_at, after_at, level_at, reads}
use Rattle.py_grammar.specs.inner.Aiming.{grown_at, risen_at, element_at, next_at, elements_at, closed_at, aim_round, aim_list, aim_at}
use Rattle.py_grammar.specs.inner.Lines.{plain_at, maybe_at, checked, targets_at, loops_at, loop_at, equals_at, run_at, names_at, import_name_at, renamed_at, imported_at, imports_at, print_at, raise_at, assert_at, from_at, running_at, simple_at, line_more, line_at, body_at, arm_at, elifs_at, clause_at, caught_at, handler_at, handlers_at, try_at, param_at, params_at, def_at, base_at, class_at, statement_at, suite_at, block_at, line_of_at, statements_at, body_more, module_at}
use Rattle.py_grammar.proofs.ExampleTokens.{tk, told}

module _ (one : ℤ) where
  -- expressions that are left out
  leaves_out_expressions :
      -- `x = FLOAT`
      (told (module_at 40 (tk (k.Name (120 ∷ [])) ∷ tk (k.Op 42) ∷ tk (k.Other other.Float) ∷ tk (k.Newline) ∷
      tk (k.End) ∷ [])) ≡ Err (LeftOut left.Float, 3)) ×
      -- `x [ 1 : 2 ] = 3`
      (told (module_at 40 (tk (k.Name (120 ∷ [])) ∷ tk (k.Op 34) ∷ tk (k.Int one) ∷ tk (k.Op 39) ∷ tk (k.Int one) ∷
      tk (k.Op 35) ∷ tk (k.Op 42) ∷ tk (k.Int one) ∷ tk (k.Newline) ∷ tk (k.End) ∷ []))
      ≡ Err (LeftOut left.SliceForm, 4)) ×
      -- `x [ 1 : 2 : 3 ]`
      (told (module_at 40 (tk (k.Name (120 ∷ [])) ∷ tk (k.Op 34) ∷ tk (k.Int one) ∷ tk (k.Op 39) ∷ tk (k.Int one) ∷
      tk (k.Op 39) ∷ tk (k.Int one) ∷ tk (k.Op 35) ∷ tk (k.Newline) ∷ tk (k.End) ∷ []))
      ≡ Err (LeftOut left.SliceForm, 5)) ×
      -- `x [ 1 : 2 , 3 ]`
      (told (module_at 40 (tk (k.Name (120 ∷ [])) ∷ tk (k.Op 34) ∷ tk (k.Int one) ∷ tk (k.Op 39) ∷ tk (k.Int one) ∷
      tk (k.Op 38) ∷ tk (k.Int one) ∷ tk (k.Op 35) ∷ tk (k.Newline) ∷ tk (k.End) ∷ []))
      ≡ Err (LeftOut left.SliceForm, 5)) ×
      -- `f ( * x )`
      (told (module_at 40 (tk (k.Name (102 ∷ [])) ∷ tk (k.Op 32) ∷ tk (k.Op 23) ∷ tk (k.Name (120 ∷ [])) ∷
      tk (k.Op 33) ∷ tk (k.Newline) ∷ tk (k.End) ∷ [])) ≡ Err (LeftOut left.StarArgument, 5)) ×
      -- `f ( x for y`
      (told (module_at 40 (tk (k.Name (102 ∷ [])) ∷ tk (k.Op 32) ∷ tk (k.Name (120 ∷ [])) ∷ tk (k.Keyword 13) ∷
      tk (k.Name (121 ∷ [])) ∷ tk (k.Newline) ∷ tk (k.End) ∷ [])) ≡ Err (LeftOut left.Comprehension, 4)) ×
      -- `{ 1 , 2 }`
      (told (module_at 40 (tk (k.Op 36) ∷ tk (k.Int one) ∷ tk (k.Op 38) ∷ tk (k.Int one) ∷ tk (k.Op 37) ∷
      tk (k.Newline) ∷ tk (k.End) ∷ [])) ≡ Err (LeftOut left.Set, 5)) ×
      -- `{ 1 }`
      (told (module_at 40 (tk (k.Op 36) ∷ tk (k.Int one) ∷ tk (k.Op 37) ∷ tk (k.Newline) ∷ tk (k.End) ∷ []))
      ≡ Err (LeftOut left.Set, 3))
  unfolding op_at keyword_at name_at strings_at tests_at round_at list_at pairs_at dict_at atom_at named_at args_at
      slice_at subscript_at call_at trailer_at trailers_at trail_at power_at links_at chain_at choice_at after_at
      level_at reads plain_at maybe_at checked targets_at loops_at loop_at equals_at run_at names_at
      import_name_at renamed_at imported_at imports_at print_at raise_at assert_at from_at running_at simple_at
      line_more line_at body_at arm_at elifs_at clause_at caught_at handler_at handlers_at try_at param_at
      params_at def_at base_at class_at statement_at suite_at block_at line_of_at statements_at body_more
      module_at
  leaves_out_expressions = (refl, refl, refl, refl, refl, refl, refl, refl)

  -- more of them
  leaves_out_more :
      -- `{ 1 : 2 for`
      (told (module_at 40 (tk (k.Op 36) ∷ tk (k.Int one) ∷ tk (k.Op 39) ∷ tk (k.Int one) ∷ tk (k.Keyword 13) ∷
      tk (k.Newline) ∷ tk (k.End) ∷ [])) ≡ Err (LeftOut left.Comprehension, 3)) ×
      -- `[ x for`
      (told (module_at 40 (tk (k.Op 34) ∷ tk (k.Name (120 ∷ [])) ∷ tk (k.Keyword 13) ∷ tk (k.Newline) ∷
      tk (k.End) ∷ [])) ≡ Err (LeftOut left.Comprehension, 3)) ×
      -- `lambda : x`
      (told (module_at 40 (tk (k.Keyword 20) ∷ tk (k.Op 39) ∷ tk (k.Name (120 ∷ [])) ∷ tk (k.Newline) ∷
      tk (k.End) ∷ [])) ≡ Err (LeftOut left.Lambda, 5)) ×
      -- `( yield`
      (told (module_at 40 (tk (k.Op 32) ∷ tk (k.Keyword 30) ∷ tk (k.Newline) ∷ tk (k.End) ∷ []))
      ≡ Err (LeftOut left.Generator, 3)) ×
      -- `STR UNI`
      (told (module_at 40 (tk (k.Str (97 ∷ [])) ∷ tk (k.Other other.Unicode) ∷ tk (k.Newline) ∷ tk (k.End) ∷ []))
      ≡ Err (LeftOut left.Unicode, 3)) ×
      -- `` x`
      (told (module_at 40 (tk (k.Op 44) ∷ tk (k.Name (120 ∷ [])) ∷ tk (k.Newline) ∷ tk (k.End) ∷ []))
      ≡ Err (LeftOut left.Backquote, 4)) ×
      -- `print LONG`
      (told (module_at 40 (tk (k.Keyword 24) ∷ tk (k.Other other.Long) ∷ tk (k.Newline) ∷ tk (k.End) ∷ []))
      ≡ Err (LeftOut left.Long, 3))
  unfolding op_at keyword_at name_at strings_at tests_at round_at list_at pairs_at dict_at atom_at named_at args_at
      slice_at subscript_at call_at trailer_at trailers_at trail_at power_at links_at chain_at choice_at after_at
      level_at reads plain_at maybe_at checked targets_at loops_at loop_at equals_at run_at names_at
      import_name_at renamed_at imported_at imports_at print_at raise_at assert_at from_at running_at simple_at
      line_more line_at body_at arm_at elifs_at clause_at caught_at handler_at handlers_at try_at param_at
      params_at def_at base_at class_at statement_at suite_at block_at line_of_at statements_at body_more
      module_at
  leaves_out_more = (refl, refl, refl, refl, refl, refl, refl)

  -- statements that are left out
  leaves_out_statements :
      -- `with x`
      (told (module_at 40 (tk (k.Keyword 29) ∷ tk (k.Name (120 ∷ [])) ∷ tk (k.Newline) ∷ tk (k.End) ∷ []))
      ≡ Err (LeftOut left.With, 4)) ×
      -- `@ x`
      (told (module_at 40 (tk (k.Op 43) ∷ tk (k.Name (120 ∷ [])) ∷ tk (k.Newline) ∷ tk (k.End) ∷ []))
      ≡ Err (LeftOut left.Decorator, 4)) ×
      -- `exec x`
      (told (module_at 40 (tk (k.Keyword 11) ∷ tk (k.Name (120 ∷ [])) ∷ tk (k.Newline) ∷ tk (k.End) ∷ []))
      ≡ Err (LeftOut left.Exec, 4)) ×
      -- `import os`
      (told (module_at 40 (tk (k.Keyword 17) ∷ tk (k.Name (111 ∷ 115 ∷ [])) ∷ tk (k.Newline) ∷ tk (k.End) ∷ []))
      ≡ Err (LeftOut left.Import, 3)) ×
      -- `from thread import Thread`
      (told (module_at 40 (tk (k.Keyword 14) ∷ tk (k.Name (116 ∷ 104 ∷ 114 ∷ 101 ∷ 97 ∷ 100 ∷ [])) ∷
      tk (k.Keyword 17) ∷ tk (k.Name (84 ∷ 104 ∷ 114 ∷ 101 ∷ 97 ∷ 100 ∷ [])) ∷ tk (k.Newline) ∷ tk (k.End) ∷ []))
      ≡ Err (LeftOut left.Import, 3)) ×
      -- `from os`
      (told (module_at 40 (tk (k.Keyword 14) ∷ tk (k.Name (111 ∷ 115 ∷ [])) ∷ tk (k.Newline) ∷ tk (k.End) ∷ []))
      ≡ Err (LeftOut left.Import, 3)) ×
      -- `print >> f`
      (told (module_at 40 (tk (k.Keyword 24) ∷ tk (k.Op 7) ∷ tk (k.Name (102 ∷ [])) ∷ tk (k.Newline) ∷
      tk (k.End) ∷ [])) ≡ Err (LeftOut left.PrintTo, 4))
  unfolding op_at keyword_at name_at strings_at tests_at round_at list_at pairs_at dict_at atom_at named_at args_at
      slice_at subscript_at call_at trailer_at trailers_at trail_at power_at links_at chain_at choice_at after_at
      level_at reads plain_at maybe_at checked targets_at loops_at loop_at equals_at run_at names_at
      import_name_at renamed_at imported_at imports_at print_at raise_at assert_at from_at running_at simple_at
      line_more line_at body_at arm_at elifs_at clause_at caught_at handler_at handlers_at try_at param_at
      params_at def_at base_at class_at statement_at suite_at block_at line_of_at statements_at body_more
      module_at
  leaves_out_statements = (refl, refl, refl, refl, refl, refl, refl)

  -- more of them
  leaves_out_more_statements :
      -- `raise a , b , c`
      (told (module_at 40 (tk (k.Keyword 25) ∷ tk (k.Name (97 ∷ [])) ∷ tk (k.Op 38) ∷ tk (k.Name (98 ∷ [])) ∷
      tk (k.Op 38) ∷ tk (k.Name (99 ∷ [])) ∷ tk (k.Newline) ∷ tk (k.End) ∷ [])) ≡ Err (LeftOut left.Traceback, 4)) ×
      -- `class C ( A , B )`
      (told (module_at 40 (tk (k.Keyword 4) ∷ tk (k.Name (67 ∷ [])) ∷ tk (k.Op 32) ∷ tk (k.Name (65 ∷ [])) ∷
      tk (k.Op 38) ∷ tk (k.Name (66 ∷ [])) ∷ tk (k.Op 33) ∷ tk (k.Newline) ∷ tk (k.End) ∷ []))
      ≡ Err (LeftOut left.MultipleBases, 5)) ×
      -- `def f ( ( a`
      (told (module_at 40 (tk (k.Keyword 6) ∷ tk (k.Name (102 ∷ [])) ∷ tk (k.Op 32) ∷ tk (k.Op 32) ∷
      tk (k.Name (97 ∷ [])) ∷ tk (k.Newline) ∷ tk (k.End) ∷ [])) ≡ Err (LeftOut left.TupleArgument, 4)) ×
      -- `def f ( * a`
      (told (module_at 40 (tk (k.Keyword 6) ∷ tk (k.Name (102 ∷ [])) ∷ tk (k.Op 32) ∷ tk (k.Op 23) ∷
      tk (k.Name (97 ∷ [])) ∷ tk (k.Newline) ∷ tk (k.End) ∷ [])) ≡ Err (LeftOut left.StarArgument, 4)) ×
      -- `yield x`
      (told (module_at 40 (tk (k.Keyword 30) ∷ tk (k.Name (120 ∷ [])) ∷ tk (k.Newline) ∷ tk (k.End) ∷ []))
      ≡ Err (LeftOut left.Generator, 4)) ×
      -- `x = yield`
      (told (module_at 40 (tk (k.Name (120 ∷ [])) ∷ tk (k.Op 42) ∷ tk (k.Keyword 30) ∷ tk (k.Newline) ∷
      tk (k.End) ∷ [])) ≡ Err (LeftOut left.Generator, 3)) ×
      -- `x [ 1 : 2 ] += 3`
      (told (module_at 40 (tk (k.Name (120 ∷ [])) ∷ tk (k.Op 34) ∷ tk (k.Int one) ∷ tk (k.Op 39) ∷ tk (k.Int one) ∷
      tk (k.Op 35) ∷ tk (k.Op 13) ∷ tk (k.Int one) ∷ tk (k.Newline) ∷ tk (k.End) ∷ []))
      ≡ Err (LeftOut left.SliceForm, 4))
  unfolding op_at keyword_at name_at strings_at tests_at round_at list_at pairs_at dict_at atom_at named_at args_at
      slice_at subscript_at call_at trailer_at trailers_at trail_at power_at links_at chain_at choice_at after_at
      level_at reads plain_at maybe_at checked targets_at loops_at loop_at equals_at run_at names_at
      import_name_at renamed_at imported_at imports_at print_at raise_at assert_at from_at running_at simple_at
      line_more line_at body_at arm_at elifs_at clause_at caught_at handler_at handlers_at try_at param_at
      params_at def_at base_at class_at statement_at suite_at block_at line_of_at statements_at body_more
      module_at
  leaves_out_more_statements = (refl, refl, refl, refl, refl, refl, refl)

  -- unexpected tokens in expressions
  refuses_expressions :
      -- `print 1 +`
      (told (module_at 40 (tk (k.Keyword 24) ∷ tk (k.Int one) ∷ tk (k.Op 21) ∷ tk (k.Newline) ∷ tk (k.End) ∷ []))
      ≡ Err (Unexpected, 2)) ×
      -- `f ( x , y for`
      (told (module_at 40 (tk (k.Name (102 ∷ [])) ∷ tk (k.Op 32) ∷ tk (k.Name (120 ∷ [])) ∷ tk (k.Op 38) ∷
      tk (k.Name (121 ∷ [])) ∷ tk (k.Keyword 13) ∷ tk (k.Newline) ∷ tk (k.End) ∷ [])) ≡ Err (Unexpected, 3)) ×
      -- `x + lambda`
      (told (module_at 40 (tk (k.Name (120 ∷ [])) ∷ tk (k.Op 21) ∷ tk (k.Keyword 20) ∷ tk (k.Newline) ∷
      tk (k.End) ∷ [])) ≡ Err (Unexpected, 3)) ×
      -- `f ( a = 1 , 2 )`
      (told (module_at 40 (tk (k.Name (102 ∷ [])) ∷ tk (k.Op 32) ∷ tk (k.Name (97 ∷ [])) ∷ tk (k.Op 42) ∷
      tk (k.Int one) ∷ tk (k.Op 38) ∷ tk (k.Int one) ∷ tk (k.Op 33) ∷ tk (k.Newline) ∷ tk (k.End) ∷ []))
      ≡ Err (Unexpected, 4)) ×
      -- `f ( a = 1 , b )`
      (told (module_at 40 (tk (k.Name (102 ∷ [])) ∷ tk (k.Op 32) ∷ tk (k.Name (97 ∷ [])) ∷ tk (k.Op 42) ∷
      tk (k.Int one) ∷ tk (k.Op 38) ∷ tk (k.Name (98 ∷ [])) ∷ tk (k.Op 33) ∷ tk (k.Newline) ∷ tk (k.End) ∷ []))
      ≡ Err (Unexpected, 3)) ×
      -- `x [ 1 , 2 : 3 ]`
      (told (module_at 40 (tk (k.Name (120 ∷ [])) ∷ tk (k.Op 34) ∷ tk (k.Int one) ∷ tk (k.Op 38) ∷ tk (k.Int one) ∷
      tk (k.Op 39) ∷ tk (k.Int one) ∷ tk (k.Op 35) ∷ tk (k.Newline) ∷ tk (k.End) ∷ [])) ≡ Err (Unexpected, 5)) ×
      -- `x . 1`
      (told (module_at 40 (tk (k.Name (120 ∷ [])) ∷ tk (k.Op 40) ∷ tk (k.Int one) ∷ tk (k.Newline) ∷ tk (k.End) ∷ []))
      ≡ Err (Unexpected, 3)) ×
      -- `( x`
      (told (module_at 40 (tk (k.Op 32) ∷ tk (k.Name (120 ∷ [])) ∷ tk (k.Newline) ∷ tk (k.End) ∷ []))
      ≡ Err (Unexpected, 2)) ×
      -- `a not b`
      (told (module_at 40 (tk (k.Name (97 ∷ [])) ∷ tk (k.Keyword 21) ∷ tk (k.Name (98 ∷ [])) ∷ tk (k.Newline) ∷
      tk (k.End) ∷ [])) ≡ Err (Unexpected, 3)) ×
      -- `x , *`
      (told (module_at 40 (tk (k.Name (120 ∷ [])) ∷ tk (k.Op 38) ∷ tk (k.Op 23) ∷ tk (k.Newline) ∷ tk (k.End) ∷ []))
      ≡ Err (Unexpected, 3))
  unfolding op_at keyword_at name_at strings_at tests_at round_at list_at pairs_at dict_at atom_at named_at args_at
      slice_at subscript_at call_at trailer_at trailers_at trail_at power_at links_at chain_at choice_at after_at
      level_at reads plain_at maybe_at checked targets_at loops_at loop_at equals_at run_at names_at
      import_name_at renamed_at imported_at imports_at print_at raise_at assert_at from_at running_at simple_at
      line_more line_at body_at arm_at elifs_at clause_at caught_at handler_at handlers_at try_at param_at
      params_at def_at base_at class_at statement_at suite_at block_at line_of_at statements_at body_more
      module_at
  refuses_expressions = (refl, refl, refl, refl, refl, refl, refl, refl, refl, refl)

  -- unexpected tokens in statements
  refuses_statements :
      -- `print yield`
      (told (module_at 40 (tk (k.Keyword 24) ∷ tk (k.Keyword 30) ∷ tk (k.Newline) ∷ tk (k.End) ∷ []))
      ≡ Err (Unexpected, 3)) ×
      -- `x ; with y`
      (told (module_at 40 (tk (k.Name (120 ∷ [])) ∷ tk (k.Op 41) ∷ tk (k.Keyword 29) ∷ tk (k.Name (121 ∷ [])) ∷
      tk (k.Newline) ∷ tk (k.End) ∷ [])) ≡ Err (Unexpected, 4)) ×
      -- `def f ( a = 1 , b )`
      (told (module_at 40 (tk (k.Keyword 6) ∷ tk (k.Name (102 ∷ [])) ∷ tk (k.Op 32) ∷ tk (k.Name (97 ∷ [])) ∷
      tk (k.Op 42) ∷ tk (k.Int one) ∷ tk (k.Op 38) ∷ tk (k.Name (98 ∷ [])) ∷ tk (k.Op 33) ∷ tk (k.Newline) ∷
      tk (k.End) ∷ [])) ≡ Err (Unexpected, 3)) ×
      -- `1 = x`
      (told (module_at 40 (tk (k.Int one) ∷ tk (k.Op 42) ∷ tk (k.Name (120 ∷ [])) ∷ tk (k.Newline) ∷ tk (k.End) ∷ []))
      ≡ Err (Unexpected, 4)) ×
      -- `( x ) += 1`
      (told (module_at 40 (tk (k.Op 32) ∷ tk (k.Name (120 ∷ [])) ∷ tk (k.Op 33) ∷ tk (k.Op 13) ∷ tk (k.Int one) ∷
      tk (k.Newline) ∷ tk (k.End) ∷ [])) ≡ Err (Unexpected, 4)) ×
      -- `x < y = 1`
      (told (module_at 40 (tk (k.Name (120 ∷ [])) ∷ tk (k.Op 30) ∷ tk (k.Name (121 ∷ [])) ∷ tk (k.Op 42) ∷
      tk (k.Int one) ∷ tk (k.Newline) ∷ tk (k.End) ∷ [])) ≡ Err (Unexpected, 4)) ×
      -- `try : pass NL else`
      (told (module_at 40 (tk (k.Keyword 27) ∷ tk (k.Op 39) ∷ tk (k.Keyword 23) ∷ tk (k.Newline) ∷ tk (k.Keyword 9) ∷
      tk (k.Newline) ∷ tk (k.End) ∷ [])) ≡ Err (Unexpected, 3))
  unfolding op_at keyword_at name_at strings_at tests_at round_at list_at pairs_at dict_at atom_at named_at args_at
      slice_at subscript_at call_at trailer_at trailers_at trail_at power_at links_at chain_at choice_at after_at
      level_at reads plain_at maybe_at checked targets_at loops_at loop_at equals_at run_at names_at
      import_name_at renamed_at imported_at imports_at print_at raise_at assert_at from_at running_at simple_at
      line_more line_at body_at arm_at elifs_at clause_at caught_at handler_at handlers_at try_at param_at
      params_at def_at base_at class_at statement_at suite_at block_at line_of_at statements_at body_more
      module_at
  refuses_statements = (refl, refl, refl, refl, refl, refl, refl)

  -- more of them
  refuses_more_statements :
      -- `except`
      (told (module_at 40 (tk (k.Keyword 10) ∷ tk (k.Newline) ∷ tk (k.End) ∷ [])) ≡ Err (Unexpected, 3)) ×
      -- `try : pass NL except : pass NL except E`
      (told (module_at 40 (tk (k.Keyword 27) ∷ tk (k.Op 39) ∷ tk (k.Keyword 23) ∷ tk (k.Newline) ∷ tk (k.Keyword 10) ∷
      tk (k.Op 39) ∷ tk (k.Keyword 23) ∷ tk (k.Newline) ∷ tk (k.Keyword 10) ∷ tk (k.Name (69 ∷ [])) ∷ tk (k.Newline) ∷
      tk (k.End) ∷ [])) ≡ Err (Unexpected, 4)) ×
      -- `( ) = x`
      (told (module_at 40 (tk (k.Op 32) ∷ tk (k.Op 33) ∷ tk (k.Op 42) ∷ tk (k.Name (120 ∷ [])) ∷ tk (k.Newline) ∷
      tk (k.End) ∷ [])) ≡ Err (Unexpected, 4)) ×
      -- `if x : if y : pass`
      (told (module_at 40 (tk (k.Keyword 16) ∷ tk (k.Name (120 ∷ [])) ∷ tk (k.Op 39) ∷ tk (k.Keyword 16) ∷
      tk (k.Name (121 ∷ [])) ∷ tk (k.Op 39) ∷ tk (k.Keyword 23) ∷ tk (k.Newline) ∷ tk (k.End) ∷ []))
      ≡ Err (Unexpected, 6)) ×
      -- `IN`
      (told (module_at 40 (tk (k.Indent) ∷ tk (k.Newline) ∷ tk (k.End) ∷ [])) ≡ Err (Unexpected, 3)) ×
      -- `f ( a ) = 1`
      (told (module_at 40 (tk (k.Name (102 ∷ [])) ∷ tk (k.Op 32) ∷ tk (k.Name (97 ∷ [])) ∷ tk (k.Op 33) ∷
      tk (k.Op 42) ∷ tk (k.Int one) ∷ tk (k.Newline) ∷ tk (k.End) ∷ [])) ≡ Err (Unexpected, 4)) ×
      -- `import thread . x`
      (told (module_at 40 (tk (k.Keyword 17) ∷ tk (k.Name (116 ∷ 104 ∷ 114 ∷ 101 ∷ 97 ∷ 100 ∷ [])) ∷ tk (k.Op 40) ∷
      tk (k.Name (120 ∷ [])) ∷ tk (k.Newline) ∷ tk (k.End) ∷ [])) ≡ Err (Unexpected, 4))
  unfolding op_at keyword_at name_at strings_at tests_at round_at list_at pairs_at dict_at atom_at named_at args_at
      slice_at subscript_at call_at trailer_at trailers_at trail_at power_at links_at chain_at choice_at after_at
      level_at reads plain_at maybe_at checked targets_at loops_at loop_at equals_at run_at names_at
      import_name_at renamed_at imported_at imports_at print_at raise_at assert_at from_at running_at simple_at
      line_more line_at body_at arm_at elifs_at clause_at caught_at handler_at handlers_at try_at param_at
      params_at def_at base_at class_at statement_at suite_at block_at line_of_at statements_at body_more
      module_at
  refuses_more_statements = (refl, refl, refl, refl, refl, refl, refl)

  -- in the targets of `del` and `for`
  refuses_aimed :
      -- `del x [ : ]`
      (told (module_at 40 (tk (k.Keyword 7) ∷ tk (k.Name (120 ∷ [])) ∷ tk (k.Op 34) ∷ tk (k.Op 39) ∷ tk (k.Op 35) ∷
      tk (k.Newline) ∷ tk (k.End) ∷ [])) ≡ Err (LeftOut left.SliceForm, 2)) ×
      -- `for x [ : ] in`
      (told (module_at 40 (tk (k.Keyword 13) ∷ tk (k.Name (120 ∷ [])) ∷ tk (k.Op 34) ∷ tk (k.Op 39) ∷ tk (k.Op 35) ∷
      tk (k.Keyword 18) ∷ tk (k.Newline) ∷ tk (k.End) ∷ [])) ≡ Err (LeftOut left.SliceForm, 3)) ×
      -- `for x + y`
      (told (module_at 40 (tk (k.Keyword 13) ∷ tk (k.Name (120 ∷ [])) ∷ tk (k.Op 21) ∷ tk (k.Name (121 ∷ [])) ∷
      tk (k.Newline) ∷ tk (k.End) ∷ [])) ≡ Err (Unexpected, 4))
  unfolding op_at keyword_at name_at strings_at tests_at round_at list_at pairs_at dict_at atom_at named_at args_at
      slice_at subscript_at call_at trailer_at trailers_at trail_at power_at links_at chain_at choice_at after_at
      level_at reads plain_at maybe_at checked targets_at loops_at loop_at equals_at run_at names_at
      import_name_at renamed_at imported_at imports_at print_at raise_at assert_at from_at running_at simple_at
      line_more line_at body_at arm_at elifs_at clause_at caught_at handler_at handlers_at try_at param_at
      params_at def_at base_at class_at statement_at suite_at block_at line_of_at statements_at body_more
      module_at grown_at risen_at element_at next_at elements_at closed_at aim_round aim_list aim_at
  refuses_aimed = (refl, refl, refl)
