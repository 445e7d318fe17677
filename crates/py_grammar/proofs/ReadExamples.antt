-- Examples of what is read, through the reading function.
use Rattle.std.proofs.Common.{◌≡◌, ℤ, [], ◌∷◌, Ok, false, Some, None, refl}
use Rattle.py_tokens.specs.declared.token.TokenKind.TheVariants as k
use Rattle.py_tree.specs.declared.expr.Expr.TheVariants as e
use Rattle.py_tree.specs.declared.expr.Level.TheVariants as level
use Rattle.py_tree.specs.declared.expr.Operator.TheVariants as op
use Rattle.py_tree.specs.declared.expr.Sign.TheVariants as sign
use Rattle.py_tree.specs.declared.expr.Trailer.TheVariants as t
use Rattle.py_tree.specs.declared.stmt.Stmt.TheVariants as s
use Rattle.py_grammar.specs.inner.Reading.{op_at, keyword_at, name_at, strings_at, tests_at, round_at, list_at, pairs_at, dict_at, atom_at, named_at, args_at, slice_at, subscript_at, call_at, trailer_at, trailers_at, trail_at, power_at, links_at, chain_at, choice_at, after_at, level_at, reads}
use Rattle.py_grammar.specs.inner.Aiming.{grown_at, risen_at, element_at, next_at, elements_at, closed_at, aim_round, aim_list, aim_at}
use Rattle.py_grammar.specs.inner.Lines.{plain_at, maybe_at, checked, targets_at, loops_at, loop_at, equals_at, run_at, names_at, import_name_at, renamed_at, imported_at, imports_at, print_at, raise_at, assert_at, from_at, running_at, simple_at, line_more, line_at, body_at, arm_at, elifs_at, clause_at, caught_at, handler_at, handlers_at, try_at, param_at, params_at, def_at, base_at, class_at, statement_at, suite_at, block_at, line_of_at, statements_at, body_more, module_at}
use Rattle.py_grammar.proofs.ExampleTokens.{tk, told}

module _ (one : ℤ) where
  -- simple statements, to their end
  reads_simple :
      -- `print 7 / 2 , - 7 / 2`
      (told (module_at 40 (tk (k.Keyword 24) ∷ tk (k.Int one) ∷ tk (k.Op 24) ∷ tk (k.Int one) ∷ tk (k.Op 38) ∷
      tk (k.Op 22) ∷ tk (k.Int one) ∷ tk (k.Op 24) ∷ tk (k.Int one) ∷ tk (k.Newline) ∷ tk (k.End) ∷ [])) ≡ Ok 0) ×
      -- `x = 1`
      (told (module_at 40 (tk (k.Name (120 ∷ [])) ∷ tk (k.Op 42) ∷ tk (k.Int one) ∷ tk (k.Newline) ∷ tk (k.End) ∷ []))
      ≡ Ok 0) ×
      -- `x = y = 1 , 2`
      (told (module_at 40 (tk (k.Name (120 ∷ [])) ∷ tk (k.Op 42) ∷ tk (k.Name (121 ∷ [])) ∷ tk (k.Op 42) ∷
      tk (k.Int one) ∷ tk (k.Op 38) ∷ tk (k.Int one) ∷ tk (k.Newline) ∷ tk (k.End) ∷ [])) ≡ Ok 0) ×
      -- `x . y [ 1 ] += 2`
      (told (module_at 40 (tk (k.Name (120 ∷ [])) ∷ tk (k.Op 40) ∷ tk (k.Name (121 ∷ [])) ∷ tk (k.Op 34) ∷
      tk (k.Int one) ∷ tk (k.Op 35) ∷ tk (k.Op 13) ∷ tk (k.Int one) ∷ tk (k.Newline) ∷ tk (k.End) ∷ [])) ≡ Ok 0) ×
      -- `print x ,`
      (told (module_at 40 (tk (k.Keyword 24) ∷ tk (k.Name (120 ∷ [])) ∷ tk (k.Op 38) ∷ tk (k.Newline) ∷
      tk (k.End) ∷ [])) ≡ Ok 0) ×
      -- `f ( x , y = 1 , )`
      (told (module_at 40 (tk (k.Name (102 ∷ [])) ∷ tk (k.Op 32) ∷ tk (k.Name (120 ∷ [])) ∷ tk (k.Op 38) ∷
      tk (k.Name (121 ∷ [])) ∷ tk (k.Op 42) ∷ tk (k.Int one) ∷ tk (k.Op 38) ∷ tk (k.Op 33) ∷ tk (k.Newline) ∷
      tk (k.End) ∷ [])) ≡ Ok 0) ×
      -- `x [ : ] . y = 1`
      (told (module_at 40 (tk (k.Name (120 ∷ [])) ∷ tk (k.Op 34) ∷ tk (k.Op 39) ∷ tk (k.Op 35) ∷ tk (k.Op 40) ∷
      tk (k.Name (121 ∷ [])) ∷ tk (k.Op 42) ∷ tk (k.Int one) ∷ tk (k.Newline) ∷ tk (k.End) ∷ [])) ≡ Ok 0) ×
      -- `from thread import error as e , allocate_lock`
      (told (module_at 40 (tk (k.Keyword 14) ∷ tk (k.Name (116 ∷ 104 ∷ 114 ∷ 101 ∷ 97 ∷ 100 ∷ [])) ∷
      tk (k.Keyword 17) ∷ tk (k.Name (101 ∷ 114 ∷ 114 ∷ 111 ∷ 114 ∷ [])) ∷ tk (k.Keyword 1) ∷ tk (k.Name (101 ∷ [])) ∷
      tk (k.Op 38) ∷ tk (k.Name (97 ∷ 108 ∷ 108 ∷ 111 ∷ 99 ∷ 97 ∷ 116 ∷ 101 ∷ 95 ∷ 108 ∷ 111 ∷ 99 ∷ 107 ∷ [])) ∷
      tk (k.Newline) ∷ tk (k.End) ∷ [])) ≡ Ok 0) ×
      -- `x = { 1 : 2 , } [ 1 ]`
      (told (module_at 40 (tk (k.Name (120 ∷ [])) ∷ tk (k.Op 42) ∷ tk (k.Op 36) ∷ tk (k.Int one) ∷ tk (k.Op 39) ∷
      tk (k.Int one) ∷ tk (k.Op 38) ∷ tk (k.Op 37) ∷ tk (k.Op 34) ∷ tk (k.Int one) ∷ tk (k.Op 35) ∷ tk (k.Newline) ∷
      tk (k.End) ∷ [])) ≡ Ok 0)
  unfolding op_at keyword_at name_at strings_at tests_at round_at list_at pairs_at dict_at atom_at named_at args_at
      slice_at subscript_at call_at trailer_at trailers_at trail_at power_at links_at chain_at choice_at after_at
      level_at reads plain_at maybe_at checked targets_at loops_at loop_at equals_at run_at names_at
      import_name_at renamed_at imported_at imports_at print_at raise_at assert_at from_at running_at simple_at
      line_more line_at body_at arm_at elifs_at clause_at caught_at handler_at handlers_at try_at param_at
      params_at def_at base_at class_at statement_at suite_at block_at line_of_at statements_at body_more
      module_at
  reads_simple = (refl, refl, refl, refl, refl, refl, refl, refl, refl)

  -- more of them
  reads_more_simple :
      -- `x if y else z if w else v`
      (told (module_at 40 (tk (k.Name (120 ∷ [])) ∷ tk (k.Keyword 16) ∷ tk (k.Name (121 ∷ [])) ∷ tk (k.Keyword 9) ∷
      tk (k.Name (122 ∷ [])) ∷ tk (k.Keyword 16) ∷ tk (k.Name (119 ∷ [])) ∷ tk (k.Keyword 9) ∷
      tk (k.Name (118 ∷ [])) ∷ tk (k.Newline) ∷ tk (k.End) ∷ [])) ≡ Ok 0) ×
      -- `not x is not y in z`
      (told (module_at 40 (tk (k.Keyword 21) ∷ tk (k.Name (120 ∷ [])) ∷ tk (k.Keyword 19) ∷ tk (k.Keyword 21) ∷
      tk (k.Name (121 ∷ [])) ∷ tk (k.Keyword 18) ∷ tk (k.Name (122 ∷ [])) ∷ tk (k.Newline) ∷ tk (k.End) ∷ []))
      ≡ Ok 0) ×
      -- `assert x , y ; raise`
      (told (module_at 40 (tk (k.Keyword 2) ∷ tk (k.Name (120 ∷ [])) ∷ tk (k.Op 38) ∷ tk (k.Name (121 ∷ [])) ∷
      tk (k.Op 41) ∷ tk (k.Keyword 25) ∷ tk (k.Newline) ∷ tk (k.End) ∷ [])) ≡ Ok 0) ×
      -- `2 ** - 3 ** 4`
      (told (module_at 40 (tk (k.Int one) ∷ tk (k.Op 4) ∷ tk (k.Op 22) ∷ tk (k.Int one) ∷ tk (k.Op 4) ∷
      tk (k.Int one) ∷ tk (k.Newline) ∷ tk (k.End) ∷ [])) ≡ Ok 0) ×
      -- `STR STR`
      (told (module_at 40 (tk (k.Str (97 ∷ [])) ∷ tk (k.Str (97 ∷ [])) ∷ tk (k.Newline) ∷ tk (k.End) ∷ [])) ≡ Ok 0) ×
      -- `x . y = 1`
      (told (module_at 40 (tk (k.Name (120 ∷ [])) ∷ tk (k.Op 40) ∷ tk (k.Name (121 ∷ [])) ∷ tk (k.Op 42) ∷
      tk (k.Int one) ∷ tk (k.Newline) ∷ tk (k.End) ∷ [])) ≡ Ok 0) ×
      -- `( x , y ) = z`
      (told (module_at 40 (tk (k.Op 32) ∷ tk (k.Name (120 ∷ [])) ∷ tk (k.Op 38) ∷ tk (k.Name (121 ∷ [])) ∷
      tk (k.Op 33) ∷ tk (k.Op 42) ∷ tk (k.Name (122 ∷ [])) ∷ tk (k.Newline) ∷ tk (k.End) ∷ [])) ≡ Ok 0) ×
      -- `import thread , threading as t`
      (told (module_at 40 (tk (k.Keyword 17) ∷ tk (k.Name (116 ∷ 104 ∷ 114 ∷ 101 ∷ 97 ∷ 100 ∷ [])) ∷ tk (k.Op 38) ∷
      tk (k.Name (116 ∷ 104 ∷ 114 ∷ 101 ∷ 97 ∷ 100 ∷ 105 ∷ 110 ∷ 103 ∷ [])) ∷ tk (k.Keyword 1) ∷
      tk (k.Name (116 ∷ [])) ∷ tk (k.Newline) ∷ tk (k.End) ∷ [])) ≡ Ok 0)
  unfolding op_at keyword_at name_at strings_at tests_at round_at list_at pairs_at dict_at atom_at named_at args_at
      slice_at subscript_at call_at trailer_at trailers_at trail_at power_at links_at chain_at choice_at after_at
      level_at reads plain_at maybe_at checked targets_at loops_at loop_at equals_at run_at names_at
      import_name_at renamed_at imported_at imports_at print_at raise_at assert_at from_at running_at simple_at
      line_more line_at body_at arm_at elifs_at clause_at caught_at handler_at handlers_at try_at param_at
      params_at def_at base_at class_at statement_at suite_at block_at line_of_at statements_at body_more
      module_at
  reads_more_simple = (refl, refl, refl, refl, refl, refl, refl, refl)

  -- compound statements
  reads_compound :
      -- `if x : NL IN pass NL DE elif y : pass NL else : pass`
      (told (module_at 40 (tk (k.Keyword 16) ∷ tk (k.Name (120 ∷ [])) ∷ tk (k.Op 39) ∷ tk (k.Newline) ∷
      tk (k.Indent) ∷ tk (k.Keyword 23) ∷ tk (k.Newline) ∷ tk (k.Dedent) ∷ tk (k.Keyword 8) ∷ tk (k.Name (121 ∷ [])) ∷
      tk (k.Op 39) ∷ tk (k.Keyword 23) ∷ tk (k.Newline) ∷ tk (k.Keyword 9) ∷ tk (k.Op 39) ∷ tk (k.Keyword 23) ∷
      tk (k.Newline) ∷ tk (k.End) ∷ [])) ≡ Ok 0) ×
      -- `def f ( a , b = 1 , ) : return a`
      (told (module_at 40 (tk (k.Keyword 6) ∷ tk (k.Name (102 ∷ [])) ∷ tk (k.Op 32) ∷ tk (k.Name (97 ∷ [])) ∷
      tk (k.Op 38) ∷ tk (k.Name (98 ∷ [])) ∷ tk (k.Op 42) ∷ tk (k.Int one) ∷ tk (k.Op 38) ∷ tk (k.Op 33) ∷
      tk (k.Op 39) ∷ tk (k.Keyword 26) ∷ tk (k.Name (97 ∷ [])) ∷ tk (k.Newline) ∷ tk (k.End) ∷ [])) ≡ Ok 0) ×
      -- `class C ( ) : pass`
      (told (module_at 40 (tk (k.Keyword 4) ∷ tk (k.Name (67 ∷ [])) ∷ tk (k.Op 32) ∷ tk (k.Op 33) ∷ tk (k.Op 39) ∷
      tk (k.Keyword 23) ∷ tk (k.Newline) ∷ tk (k.End) ∷ [])) ≡ Ok 0) ×
      -- `while 1 : pass`
      (told (module_at 40 (tk (k.Keyword 28) ∷ tk (k.Int one) ∷ tk (k.Op 39) ∷ tk (k.Keyword 23) ∷ tk (k.Newline) ∷
      tk (k.End) ∷ [])) ≡ Ok 0) ×
      -- `def f ( ) : NL IN global x ; NL x = 1 NL DE`
      (told (module_at 40 (tk (k.Keyword 6) ∷ tk (k.Name (102 ∷ [])) ∷ tk (k.Op 32) ∷ tk (k.Op 33) ∷ tk (k.Op 39) ∷
      tk (k.Newline) ∷ tk (k.Indent) ∷ tk (k.Keyword 15) ∷ tk (k.Name (120 ∷ [])) ∷ tk (k.Op 41) ∷ tk (k.Newline) ∷
      tk (k.Name (120 ∷ [])) ∷ tk (k.Op 42) ∷ tk (k.Int one) ∷ tk (k.Newline) ∷ tk (k.Dedent) ∷ tk (k.End) ∷ []))
      ≡ Ok 0)
  unfolding op_at keyword_at name_at strings_at tests_at round_at list_at pairs_at dict_at atom_at named_at args_at
      slice_at subscript_at call_at trailer_at trailers_at trail_at power_at links_at chain_at choice_at after_at
      level_at reads plain_at maybe_at checked targets_at loops_at loop_at equals_at run_at names_at
      import_name_at renamed_at imported_at imports_at print_at raise_at assert_at from_at running_at simple_at
      line_more line_at body_at arm_at elifs_at clause_at caught_at handler_at handlers_at try_at param_at
      params_at def_at base_at class_at statement_at suite_at block_at line_of_at statements_at body_more
      module_at
  reads_compound = (refl, refl, refl, refl, refl)

  -- targets in `for`, `del` and `except`
  reads_aimed :
      -- `for x , in y : pass`
      (told (module_at 40 (tk (k.Keyword 13) ∷ tk (k.Name (120 ∷ [])) ∷ tk (k.Op 38) ∷ tk (k.Keyword 18) ∷
      tk (k.Name (121 ∷ [])) ∷ tk (k.Op 39) ∷ tk (k.Keyword 23) ∷ tk (k.Newline) ∷ tk (k.End) ∷ [])) ≡ Ok 0) ×
      -- `del x , ( y ) , [ ]`
      (told (module_at 40 (tk (k.Keyword 7) ∷ tk (k.Name (120 ∷ [])) ∷ tk (k.Op 38) ∷ tk (k.Op 32) ∷
      tk (k.Name (121 ∷ [])) ∷ tk (k.Op 33) ∷ tk (k.Op 38) ∷ tk (k.Op 34) ∷ tk (k.Op 35) ∷ tk (k.Newline) ∷
      tk (k.End) ∷ [])) ≡ Ok 0) ×
      -- `try : pass NL except E , e : pass NL except : pass NL else : pass NL finally : pass`
      (told (module_at 40 (tk (k.Keyword 27) ∷ tk (k.Op 39) ∷ tk (k.Keyword 23) ∷ tk (k.Newline) ∷ tk (k.Keyword 10) ∷
      tk (k.Name (69 ∷ [])) ∷ tk (k.Op 38) ∷ tk (k.Name (101 ∷ [])) ∷ tk (k.Op 39) ∷ tk (k.Keyword 23) ∷
      tk (k.Newline) ∷ tk (k.Keyword 10) ∷ tk (k.Op 39) ∷ tk (k.Keyword 23) ∷ tk (k.Newline) ∷ tk (k.Keyword 9) ∷
      tk (k.Op 39) ∷ tk (k.Keyword 23) ∷ tk (k.Newline) ∷ tk (k.Keyword 12) ∷ tk (k.Op 39) ∷ tk (k.Keyword 23) ∷
      tk (k.Newline) ∷ tk (k.End) ∷ [])) ≡ Ok 0)
  unfolding op_at keyword_at name_at strings_at tests_at round_at list_at pairs_at dict_at atom_at named_at args_at
      slice_at subscript_at call_at trailer_at trailers_at trail_at power_at links_at chain_at choice_at after_at
      level_at reads plain_at maybe_at checked targets_at loops_at loop_at equals_at run_at names_at
      import_name_at renamed_at imported_at imports_at print_at raise_at assert_at from_at running_at simple_at
      line_more line_at body_at arm_at elifs_at clause_at caught_at handler_at handlers_at try_at param_at
      params_at def_at base_at class_at statement_at suite_at block_at line_of_at statements_at body_more
      module_at grown_at risen_at element_at next_at elements_at closed_at aim_round aim_list aim_at
  reads_aimed = (refl, refl, refl)

  -- with their trees
  reads_trees :
      -- `print 7 / 2 , - 7 / 2`
      (module_at 40 (tk (k.Keyword 24) ∷ tk (k.Int one) ∷ tk (k.Op 24) ∷ tk (k.Int one) ∷ tk (k.Op 38) ∷ tk (k.Op 22) ∷
      tk (k.Int one) ∷ tk (k.Op 24) ∷ tk (k.Int one) ∷ tk (k.Newline) ∷ tk (k.End) ∷ []) ≡ Ok (
        record {
          body = s.Print 1 (e.Chain level.Term (e.Int one)
              (record { operator = op.Divide; operand = e.Int one } ∷ []) ∷ e.Chain level.Term
              (e.Unary sign.Minus (e.Int one))
              (record { operator = op.Divide; operand = e.Int one } ∷ []) ∷ []) false ∷ [];
        },
        [],
      )) ×
      -- `x = 1`
      (module_at 40 (tk (k.Name (120 ∷ [])) ∷ tk (k.Op 42) ∷ tk (k.Int one) ∷ tk (k.Newline) ∷ tk (k.End) ∷ []) ≡ Ok
      (record { body = s.Assign 1 (e.Name (120 ∷ []) ∷ []) (e.Int one) ∷ [] }, [])) ×
      -- `2 ** - 3 ** 4`
      (module_at 40 (tk (k.Int one) ∷ tk (k.Op 4) ∷ tk (k.Op 22) ∷ tk (k.Int one) ∷ tk (k.Op 4) ∷ tk (k.Int one) ∷ tk
      (k.Newline) ∷ tk (k.End) ∷ []) ≡ Ok (
        record { body = s.Do 1 (e.Power (e.Int one) (e.Unary sign.Minus (e.Power (e.Int one) (e.Int one)))) ∷ [] },
        [],
      )) ×
      -- `x . y ( 1 , z = 2 ) [ 1 : ]`
      (module_at 40 (tk (k.Name (120 ∷ [])) ∷ tk (k.Op 40) ∷ tk (k.Name (121 ∷ [])) ∷ tk (k.Op 32) ∷ tk (k.Int one) ∷
      tk (k.Op 38) ∷ tk (k.Name (122 ∷ [])) ∷ tk (k.Op 42) ∷ tk (k.Int one) ∷ tk (k.Op 33) ∷ tk (k.Op 34) ∷ tk
      (k.Int one) ∷ tk (k.Op 39) ∷ tk (k.Op 35) ∷ tk (k.Newline) ∷ tk (k.End) ∷ []) ≡ Ok (
        record {
          body = s.Do 1 (e.Trail (e.Name (120 ∷ []))
              (t.Attribute (121 ∷ []) ∷ t.Call (e.Int one ∷ []) (record { name = 122 ∷ []; value = e.Int one } ∷ []) ∷
              t.Slice
              (Some (e.Int one)) None ∷ [])) ∷ [];
        },
        [],
      )) ×
      -- `STR STR`
      (module_at 40 (tk (k.Str (97 ∷ [])) ∷ tk (k.Str (97 ∷ [])) ∷ tk (k.Newline) ∷ tk (k.End) ∷ []) ≡ Ok
      (record { body = s.Do 1 (e.Str (97 ∷ 97 ∷ [])) ∷ [] }, [])) ×
      -- `if x : pass NL else : pass ; break`
      (module_at 40 (tk (k.Keyword 16) ∷ tk (k.Name (120 ∷ [])) ∷ tk (k.Op 39) ∷ tk (k.Keyword 23) ∷ tk (k.Newline) ∷
      tk (k.Keyword 9) ∷ tk (k.Op 39) ∷ tk (k.Keyword 23) ∷ tk (k.Op 41) ∷ tk (k.Keyword 3) ∷ tk (k.Newline) ∷ tk
      (k.End) ∷ []) ≡ Ok (
        record {
          body =
              s.If (record { line = 1; test = e.Name (120 ∷ []); body = s.Pass 1 ∷ [] } ∷ [])
              (Some (record { line = 1; body = s.Pass 1 ∷ s.Break 1 ∷ [] })) ∷ [];
        },
        [],
      ))
  unfolding op_at keyword_at name_at strings_at tests_at round_at list_at pairs_at dict_at atom_at named_at args_at
      slice_at subscript_at call_at trailer_at trailers_at trail_at power_at links_at chain_at choice_at after_at
      level_at reads plain_at maybe_at checked targets_at loops_at loop_at equals_at run_at names_at
      import_name_at renamed_at imported_at imports_at print_at raise_at assert_at from_at running_at simple_at
      line_more line_at body_at arm_at elifs_at clause_at caught_at handler_at handlers_at try_at param_at
      params_at def_at base_at class_at statement_at suite_at block_at line_of_at statements_at body_more
      module_at
  reads_trees = (refl, refl, refl, refl, refl, refl)
