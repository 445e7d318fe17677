-- Examples at the limit of height, through the reading function.
use Rattle.std.proofs.Common.{◌≡◌, ℤ, [], ◌∷◌, Ok, Err, refl}
use Rattle.py_tokens.specs.declared.token.Other.TheVariants as other
use Rattle.py_tokens.specs.declared.token.TokenKind.TheVariants as k
use Rattle.py_base.specs.declared.refusal.Construct.TheVariants as left
use Rattle.py_grammar.specs.declared.fault.Fault.TheVariants.{LeftOut, Deep}
use Rattle.py_grammar.specs.inner.Reading.{op_at, keyword_at, name_at, strings_at, tests_at, round_at, list_at, pairs_at, dict_at, atom_at, named_at, args_at, slice_at, subscript_at, call_at, trailer_at, trailers_at, trail_at, power_at, links_at, chain_at, choice_at, after_at, level_at, reads}
use Rattle.py_grammar.specs.inner.Aiming.{grown_at, risen_at, element_at, next_at, elements_at, closed_at, aim_round, aim_list, aim_at}
use Rattle.py_grammar.specs.inner.Lines.{plain_at, maybe_at, checked, targets_at, loops_at, loop_at, equals_at, run_at, names_at, import_name_at, renamed_at, imported_at, imports_at, print_at, raise_at, assert_at, from_at, running_at, simple_at, line_more, line_at, body_at, arm_at, elifs_at, clause_at, caught_at, handler_at, handlers_at, try_at, param_at, params_at, def_at, base_at, class_at, statement_at, suite_at, block_at, line_of_at, statements_at, body_more, module_at}
use Rattle.py_grammar.proofs.ExampleTokens.{tk, told, many}

module _ (one : ℤ) where
  -- with budgets of 1 to 3
  heights :
      -- `print ( 1 )`, with budget 3
      (told (statements_at 40 3 (tk (k.Keyword 24) ∷ tk (k.Op 32) ∷ tk (k.Int one) ∷ tk (k.Op 33) ∷ tk (k.Newline) ∷
      tk (k.End) ∷ [])) ≡ Ok 1) ×
      -- `print ( ( 1 ) )`, with budget 3
      (told (statements_at 40 3 (tk (k.Keyword 24) ∷ tk (k.Op 32) ∷ tk (k.Op 32) ∷ tk (k.Int one) ∷ tk (k.Op 33) ∷
      tk (k.Op 33) ∷ tk (k.Newline) ∷ tk (k.End) ∷ [])) ≡ Err (Deep, 5)) ×
      -- `if x : pass`, with budget 2
      (told (statements_at 40 2 (tk (k.Keyword 16) ∷ tk (k.Name (120 ∷ [])) ∷ tk (k.Op 39) ∷ tk (k.Keyword 23) ∷
      tk (k.Newline) ∷ tk (k.End) ∷ [])) ≡ Err (Deep, 6)) ×
      -- `if x : pass`, with budget 3
      (told (statements_at 40 3 (tk (k.Keyword 16) ∷ tk (k.Name (120 ∷ [])) ∷ tk (k.Op 39) ∷ tk (k.Keyword 23) ∷
      tk (k.Newline) ∷ tk (k.End) ∷ [])) ≡ Ok 1) ×
      -- `x`, with budget 1
      (told (statements_at 40 1 (tk (k.Name (120 ∷ [])) ∷ tk (k.Newline) ∷ tk (k.End) ∷ [])) ≡ Err (Deep, 3)) ×
      -- `x + y`, with budget 2
      (told (statements_at 40 2 (tk (k.Name (120 ∷ [])) ∷ tk (k.Op 21) ∷ tk (k.Name (121 ∷ [])) ∷ tk (k.Newline) ∷
      tk (k.End) ∷ [])) ≡ Err (Deep, 4)) ×
      -- `x + y`, with budget 3
      (told (statements_at 40 3 (tk (k.Name (120 ∷ [])) ∷ tk (k.Op 21) ∷ tk (k.Name (121 ∷ [])) ∷ tk (k.Newline) ∷
      tk (k.End) ∷ [])) ≡ Ok 1)
  unfolding op_at keyword_at name_at strings_at tests_at round_at list_at pairs_at dict_at atom_at named_at args_at
      slice_at subscript_at call_at trailer_at trailers_at trail_at power_at links_at chain_at choice_at after_at
      level_at reads plain_at maybe_at checked targets_at loops_at loop_at equals_at run_at names_at
      import_name_at renamed_at imported_at imports_at print_at raise_at assert_at from_at running_at simple_at
      line_more line_at body_at arm_at elifs_at clause_at caught_at handler_at handlers_at try_at param_at
      params_at def_at base_at class_at statement_at suite_at block_at line_of_at statements_at body_more
      module_at
  heights = (refl, refl, refl, refl, refl, refl, refl)

  -- more of them
  more_heights :
      -- `print`, with budget 1
      (told (statements_at 40 1 (tk (k.Keyword 24) ∷ tk (k.Newline) ∷ tk (k.End) ∷ [])) ≡ Ok 1) ×
      -- `print FLOAT`, with budget 1
      (told (statements_at 40 1 (tk (k.Keyword 24) ∷ tk (k.Other other.Float) ∷ tk (k.Newline) ∷ tk (k.End) ∷ []))
      ≡ Err (LeftOut left.Float, 3)) ×
      -- `print ( )`, with budget 2
      (told (statements_at 40 2 (tk (k.Keyword 24) ∷ tk (k.Op 32) ∷ tk (k.Op 33) ∷ tk (k.Newline) ∷ tk (k.End) ∷ []))
      ≡ Ok 1) ×
      -- `f ( )`, with budget 2
      (told (statements_at 40 2 (tk (k.Name (102 ∷ [])) ∷ tk (k.Op 32) ∷ tk (k.Op 33) ∷ tk (k.Newline) ∷
      tk (k.End) ∷ [])) ≡ Err (Deep, 4)) ×
      -- `x , y`, with budget 2
      (told (statements_at 40 2 (tk (k.Name (120 ∷ [])) ∷ tk (k.Op 38) ∷ tk (k.Name (121 ∷ [])) ∷ tk (k.Newline) ∷
      tk (k.End) ∷ [])) ≡ Err (Deep, 4)) ×
      -- `- x`, with budget 2
      (told (statements_at 40 2 (tk (k.Op 22) ∷ tk (k.Name (120 ∷ [])) ∷ tk (k.Newline) ∷ tk (k.End) ∷ []))
      ≡ Err (Deep, 4)) ×
      -- `print not x`, with budget 2
      (told (statements_at 40 2 (tk (k.Keyword 24) ∷ tk (k.Keyword 21) ∷ tk (k.Name (120 ∷ [])) ∷ tk (k.Newline) ∷
      tk (k.End) ∷ [])) ≡ Err (Deep, 4))
  unfolding op_at keyword_at name_at strings_at tests_at round_at list_at pairs_at dict_at atom_at named_at args_at
      slice_at subscript_at call_at trailer_at trailers_at trail_at power_at links_at chain_at choice_at after_at
      level_at reads plain_at maybe_at checked targets_at loops_at loop_at equals_at run_at names_at
      import_name_at renamed_at imported_at imports_at print_at raise_at assert_at from_at running_at simple_at
      line_more line_at body_at arm_at elifs_at clause_at caught_at handler_at handlers_at try_at param_at
      params_at def_at base_at class_at statement_at suite_at block_at line_of_at statements_at body_more
      module_at
  more_heights = (refl, refl, refl, refl, refl, refl, refl)

  -- targets in `for`
  aimed_heights :
      -- `for x , y in z : pass`, with budget 3
      (told (statements_at 40 3 (tk (k.Keyword 13) ∷ tk (k.Name (120 ∷ [])) ∷ tk (k.Op 38) ∷ tk (k.Name (121 ∷ [])) ∷
      tk (k.Keyword 18) ∷ tk (k.Name (122 ∷ [])) ∷ tk (k.Op 39) ∷ tk (k.Keyword 23) ∷ tk (k.Newline) ∷
      tk (k.End) ∷ [])) ≡ Ok 1) ×
      -- `for x [ 1 ] , y in z : pass`, with budget 3
      (told (statements_at 40 3 (tk (k.Keyword 13) ∷ tk (k.Name (120 ∷ [])) ∷ tk (k.Op 34) ∷ tk (k.Int one) ∷
      tk (k.Op 35) ∷ tk (k.Op 38) ∷ tk (k.Name (121 ∷ [])) ∷ tk (k.Keyword 18) ∷ tk (k.Name (122 ∷ [])) ∷
      tk (k.Op 39) ∷ tk (k.Keyword 23) ∷ tk (k.Newline) ∷ tk (k.End) ∷ [])) ≡ Err (Deep, 8))
  unfolding op_at keyword_at name_at strings_at tests_at round_at list_at pairs_at dict_at atom_at named_at args_at
      slice_at subscript_at call_at trailer_at trailers_at trail_at power_at links_at chain_at choice_at after_at
      level_at reads plain_at maybe_at checked targets_at loops_at loop_at equals_at run_at names_at
      import_name_at renamed_at imported_at imports_at print_at raise_at assert_at from_at running_at simple_at
      line_more line_at body_at arm_at elifs_at clause_at caught_at handler_at handlers_at try_at param_at
      params_at def_at base_at class_at statement_at suite_at block_at line_of_at statements_at body_more
      module_at grown_at risen_at element_at next_at elements_at closed_at aim_round aim_list aim_at
  aimed_heights = (refl, refl)

  -- print with 50 parentheses round 1
  fifty_brackets :
      told (module_at 110 (tk (k.Keyword 24) ∷ many 50 (tk (k.Op 32)) (tk (k.Int one) ∷
      many 50 (tk (k.Op 33)) (tk (k.Newline) ∷ tk (k.End) ∷ [])))) ≡ Ok 0
  unfolding op_at keyword_at name_at strings_at tests_at round_at list_at pairs_at dict_at atom_at named_at args_at
      slice_at subscript_at call_at trailer_at trailers_at trail_at power_at links_at chain_at choice_at after_at
      level_at reads plain_at maybe_at checked targets_at loops_at loop_at equals_at run_at names_at
      import_name_at renamed_at imported_at imports_at print_at raise_at assert_at from_at running_at simple_at
      line_more line_at body_at arm_at elifs_at clause_at caught_at handler_at handlers_at try_at param_at
      params_at def_at base_at class_at statement_at suite_at block_at line_of_at statements_at body_more
      module_at
  fifty_brackets = refl

  -- with 97, as many as there may be
  most_brackets :
      told (module_at 204 (tk (k.Keyword 24) ∷ many 97 (tk (k.Op 32)) (tk (k.Int one) ∷
      many 97 (tk (k.Op 33)) (tk (k.Newline) ∷ tk (k.End) ∷ [])))) ≡ Ok 0
  unfolding op_at keyword_at name_at strings_at tests_at round_at list_at pairs_at dict_at atom_at named_at args_at
      slice_at subscript_at call_at trailer_at trailers_at trail_at power_at links_at chain_at choice_at after_at
      level_at reads plain_at maybe_at checked targets_at loops_at loop_at equals_at run_at names_at
      import_name_at renamed_at imported_at imports_at print_at raise_at assert_at from_at running_at simple_at
      line_more line_at body_at arm_at elifs_at clause_at caught_at handler_at handlers_at try_at param_at
      params_at def_at base_at class_at statement_at suite_at block_at line_of_at statements_at body_more
      module_at
  most_brackets = refl

  -- with 98
  too_many_brackets :
      told (module_at 206 (tk (k.Keyword 24) ∷ many 98 (tk (k.Op 32)) (tk (k.Int one) ∷
      many 98 (tk (k.Op 33)) (tk (k.Newline) ∷ tk (k.End) ∷ [])))) ≡ Err (Deep, 101)
  unfolding op_at keyword_at name_at strings_at tests_at round_at list_at pairs_at dict_at atom_at named_at args_at
      slice_at subscript_at call_at trailer_at trailers_at trail_at power_at links_at chain_at choice_at after_at
      level_at reads plain_at maybe_at checked targets_at loops_at loop_at equals_at run_at names_at
      import_name_at renamed_at imported_at imports_at print_at raise_at assert_at from_at running_at simple_at
      line_more line_at body_at arm_at elifs_at clause_at caught_at handler_at handlers_at try_at param_at
      params_at def_at base_at class_at statement_at suite_at block_at line_of_at statements_at body_more
      module_at
  too_many_brackets = refl
