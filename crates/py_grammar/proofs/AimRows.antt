-- Examples of targets at the limit of height.
use Rattle.std.proofs.Common.{◌≡◌, ℕ, ℤ, ◌+◌, List, [], ◌∷◌, Result, Ok, Err, refl}
use Rattle.py_tokens.specs.declared.token.Token.{Token}
use Rattle.py_tokens.specs.declared.token.Other.TheVariants as other
use Rattle.py_tokens.specs.declared.token.TokenKind.{TokenKind}
use Rattle.py_tokens.specs.declared.token.TokenKind.TheVariants as k
use Rattle.py_tokens.specs.Place.{token_at as at}
use Rattle.py_base.specs.declared.refusal.Construct.TheVariants as left
use Rattle.py_grammar.specs.declared.fault.Fault.{Fault}
use Rattle.py_grammar.specs.declared.fault.Fault.TheVariants.{Unexpected, LeftOut, Deep}
use Rattle.py_grammar.specs.inner.Reading.{op_at, keyword_at, name_at, strings_at, tests_at, round_at, list_at, pairs_at, dict_at, atom_at, named_at, args_at, slice_at, subscript_at, call_at, trailer_at, trailers_at, trail_at, power_at, links_at, chain_at, choice_at, after_at, level_at, reads, Reads}
use Rattle.py_grammar.specs.inner.Aiming.{grown_at, risen_at, element_at, next_at, elements_at, closed_at, aim_round, aim_list, aim_at}

-- a token
abbrev tk : TokenKind → Token
tk kind = at kind (record { from = 0; to = 0; line = 1 })

abbrev length' : {A : Type 0} → List A → ℕ
length' [] = 0
length' (y ∷ ys) = length' ys + 1

-- how many tokens are left, and what the first of them is refused for
abbrev told : {A : Type 0} → Reads A → Result ℕ (Fault × ℕ)
told (Ok v) = Ok (length' v.1)
told (Err v) = Err (v.0, length' v.1)

module _ (one : ℤ) where
  -- `a NL` with 1
  a1 : told (aim_at 40 1 (tk (k.Name (97 ∷ [])) ∷ tk k.Newline ∷ [])) ≡ Ok 1
  unfolding op_at keyword_at name_at strings_at tests_at round_at list_at pairs_at dict_at atom_at named_at args_at
      slice_at subscript_at call_at trailer_at trailers_at trail_at power_at links_at chain_at choice_at after_at
      level_at reads grown_at risen_at element_at next_at elements_at closed_at aim_round aim_list aim_at
  a1 = refl

  -- `a . b NL` with 1
  a2 : told (aim_at 40 1 (tk (k.Name (97 ∷ [])) ∷ tk (k.Op 40) ∷ tk (k.Name (98 ∷ [])) ∷ tk k.Newline ∷ [])) ≡ Err
      (Deep, 3)
  unfolding op_at keyword_at name_at strings_at tests_at round_at list_at pairs_at dict_at atom_at named_at args_at
      slice_at subscript_at call_at trailer_at trailers_at trail_at power_at links_at chain_at choice_at after_at
      level_at reads grown_at risen_at element_at next_at elements_at closed_at aim_round aim_list aim_at
  a2 = refl

  -- `a . b NL` with 2
  a3 : told (aim_at 40 2 (tk (k.Name (97 ∷ [])) ∷ tk (k.Op 40) ∷ tk (k.Name (98 ∷ [])) ∷ tk k.Newline ∷ [])) ≡ Ok 1
  unfolding op_at keyword_at name_at strings_at tests_at round_at list_at pairs_at dict_at atom_at named_at args_at
      slice_at subscript_at call_at trailer_at trailers_at trail_at power_at links_at chain_at choice_at after_at
      level_at reads grown_at risen_at element_at next_at elements_at closed_at aim_round aim_list aim_at
  a3 = refl

  -- `1 . b NL` with 1
  a4 : told (aim_at 40 1 (tk (k.Int one) ∷ tk (k.Op 40) ∷ tk (k.Name (98 ∷ [])) ∷ tk k.Newline ∷ [])) ≡ Err (Deep, 4)
  unfolding op_at keyword_at name_at strings_at tests_at round_at list_at pairs_at dict_at atom_at named_at args_at
      slice_at subscript_at call_at trailer_at trailers_at trail_at power_at links_at chain_at choice_at after_at
      level_at reads grown_at risen_at element_at next_at elements_at closed_at aim_round aim_list aim_at
  a4 = refl

  -- `1 . b NL` with 2
  a5 : told (aim_at 40 2 (tk (k.Int one) ∷ tk (k.Op 40) ∷ tk (k.Name (98 ∷ [])) ∷ tk k.Newline ∷ [])) ≡ Ok 1
  unfolding op_at keyword_at name_at strings_at tests_at round_at list_at pairs_at dict_at atom_at named_at args_at
      slice_at subscript_at call_at trailer_at trailers_at trail_at power_at links_at chain_at choice_at after_at
      level_at reads grown_at risen_at element_at next_at elements_at closed_at aim_round aim_list aim_at
  a5 = refl

  -- `( a )` with 1
  a6 : told (aim_at 40 1 (tk (k.Op 32) ∷ tk (k.Name (97 ∷ [])) ∷ tk (k.Op 33) ∷ [])) ≡ Err (Deep, 3)
  unfolding op_at keyword_at name_at strings_at tests_at round_at list_at pairs_at dict_at atom_at named_at args_at
      slice_at subscript_at call_at trailer_at trailers_at trail_at power_at links_at chain_at choice_at after_at
      level_at reads grown_at risen_at element_at next_at elements_at closed_at aim_round aim_list aim_at
  a6 = refl

  -- `[ ] NL` with 1
  a7 : told (aim_at 40 1 (tk (k.Op 34) ∷ tk (k.Op 35) ∷ tk k.Newline ∷ [])) ≡ Ok 1
  unfolding op_at keyword_at name_at strings_at tests_at round_at list_at pairs_at dict_at atom_at named_at args_at
      slice_at subscript_at call_at trailer_at trailers_at trail_at power_at links_at chain_at choice_at after_at
      level_at reads grown_at risen_at element_at next_at elements_at closed_at aim_round aim_list aim_at
  a7 = refl

  -- `[ a ] NL` with 1
  a8 : told (aim_at 40 1 (tk (k.Op 34) ∷ tk (k.Name (97 ∷ [])) ∷ tk (k.Op 35) ∷ tk k.Newline ∷ [])) ≡ Err (Deep, 3)
  unfolding op_at keyword_at name_at strings_at tests_at round_at list_at pairs_at dict_at atom_at named_at args_at
      slice_at subscript_at call_at trailer_at trailers_at trail_at power_at links_at chain_at choice_at after_at
      level_at reads grown_at risen_at element_at next_at elements_at closed_at aim_round aim_list aim_at
  a8 = refl

  -- `[ a ] NL` with 2
  a9 : told (aim_at 40 2 (tk (k.Op 34) ∷ tk (k.Name (97 ∷ [])) ∷ tk (k.Op 35) ∷ tk k.Newline ∷ [])) ≡ Ok 1
  unfolding op_at keyword_at name_at strings_at tests_at round_at list_at pairs_at dict_at atom_at named_at args_at
      slice_at subscript_at call_at trailer_at trailers_at trail_at power_at links_at chain_at choice_at after_at
      level_at reads grown_at risen_at element_at next_at elements_at closed_at aim_round aim_list aim_at
  a9 = refl

  -- `( 1 ) . x NL` with 2
  a10 : told (aim_at 40 2 (tk (k.Op 32) ∷ tk (k.Int one) ∷ tk (k.Op 33) ∷ tk (k.Op 40) ∷ tk (k.Name (120 ∷ [])) ∷ tk
      k.Newline ∷ [])) ≡ Err (Deep, 5)
  unfolding op_at keyword_at name_at strings_at tests_at round_at list_at pairs_at dict_at atom_at named_at args_at
      slice_at subscript_at call_at trailer_at trailers_at trail_at power_at links_at chain_at choice_at after_at
      level_at reads grown_at risen_at element_at next_at elements_at closed_at aim_round aim_list aim_at
  a10 = refl

  -- `( 1 ) . x NL` with 3
  a11 : told (aim_at 40 3 (tk (k.Op 32) ∷ tk (k.Int one) ∷ tk (k.Op 33) ∷ tk (k.Op 40) ∷ tk (k.Name (120 ∷ [])) ∷ tk
      k.Newline ∷ [])) ≡ Ok 1
  unfolding op_at keyword_at name_at strings_at tests_at round_at list_at pairs_at dict_at atom_at named_at args_at
      slice_at subscript_at call_at trailer_at trailers_at trail_at power_at links_at chain_at choice_at after_at
      level_at reads grown_at risen_at element_at next_at elements_at closed_at aim_round aim_list aim_at
  a11 = refl

  -- `( a ) NL` with 2
  a12 : told (aim_at 40 2 (tk (k.Op 32) ∷ tk (k.Name (97 ∷ [])) ∷ tk (k.Op 33) ∷ tk k.Newline ∷ [])) ≡ Ok 1
  unfolding op_at keyword_at name_at strings_at tests_at round_at list_at pairs_at dict_at atom_at named_at args_at
      slice_at subscript_at call_at trailer_at trailers_at trail_at power_at links_at chain_at choice_at after_at
      level_at reads grown_at risen_at element_at next_at elements_at closed_at aim_round aim_list aim_at
  a12 = refl

  -- `( a , 1 ) NL` with 2
  a13 : told (aim_at 40 2 (tk (k.Op 32) ∷ tk (k.Name (97 ∷ [])) ∷ tk (k.Op 38) ∷ tk (k.Int one) ∷ tk (k.Op 33) ∷ tk
      k.Newline ∷ [])) ≡ Err (Deep, 3)
  unfolding op_at keyword_at name_at strings_at tests_at round_at list_at pairs_at dict_at atom_at named_at args_at
      slice_at subscript_at call_at trailer_at trailers_at trail_at power_at links_at chain_at choice_at after_at
      level_at reads grown_at risen_at element_at next_at elements_at closed_at aim_round aim_list aim_at
  a13 = refl

  -- `( ) . x NL` with 2
  a14 : told (aim_at 40 2 (tk (k.Op 32) ∷ tk (k.Op 33) ∷ tk (k.Op 40) ∷ tk (k.Name (120 ∷ [])) ∷ tk k.Newline ∷ [])) ≡
      Ok 1
  unfolding op_at keyword_at name_at strings_at tests_at round_at list_at pairs_at dict_at atom_at named_at args_at
      slice_at subscript_at call_at trailer_at trailers_at trail_at power_at links_at chain_at choice_at after_at
      level_at reads grown_at risen_at element_at next_at elements_at closed_at aim_round aim_list aim_at
  a14 = refl

  -- `( ( a , 1 ) . x , b ) NL` with 3
  a15 : told (aim_at 40 3 (tk (k.Op 32) ∷ tk (k.Op 32) ∷ tk (k.Name (97 ∷ [])) ∷ tk (k.Op 38) ∷ tk (k.Int one) ∷ tk
      (k.Op 33) ∷ tk (k.Op 40) ∷ tk (k.Name (120 ∷ [])) ∷ tk (k.Op 38) ∷ tk (k.Name (98 ∷ [])) ∷ tk (k.Op 33) ∷ tk
      k.Newline ∷ [])) ≡ Err (Deep, 8)
  unfolding op_at keyword_at name_at strings_at tests_at round_at list_at pairs_at dict_at atom_at named_at args_at
      slice_at subscript_at call_at trailer_at trailers_at trail_at power_at links_at chain_at choice_at after_at
      level_at reads grown_at risen_at element_at next_at elements_at closed_at aim_round aim_list aim_at
  a15 = refl

  -- `( a , 1 ) . x NL` with 3
  a16 : told (aim_at 40 3 (tk (k.Op 32) ∷ tk (k.Name (97 ∷ [])) ∷ tk (k.Op 38) ∷ tk (k.Int one) ∷ tk (k.Op 33) ∷ tk
      (k.Op 40) ∷ tk (k.Name (120 ∷ [])) ∷ tk k.Newline ∷ [])) ≡ Ok 1
  unfolding op_at keyword_at name_at strings_at tests_at round_at list_at pairs_at dict_at atom_at named_at args_at
      slice_at subscript_at call_at trailer_at trailers_at trail_at power_at links_at chain_at choice_at after_at
      level_at reads grown_at risen_at element_at next_at elements_at closed_at aim_round aim_list aim_at
  a16 = refl

  -- `( a . b , c ) NL` with 3
  a17 : told (aim_at 40 3 (tk (k.Op 32) ∷ tk (k.Name (97 ∷ [])) ∷ tk (k.Op 40) ∷ tk (k.Name (98 ∷ [])) ∷ tk (k.Op 38) ∷
      tk (k.Name (99 ∷ [])) ∷ tk (k.Op 33) ∷ tk k.Newline ∷ [])) ≡ Ok 1
  unfolding op_at keyword_at name_at strings_at tests_at round_at list_at pairs_at dict_at atom_at named_at args_at
      slice_at subscript_at call_at trailer_at trailers_at trail_at power_at links_at chain_at choice_at after_at
      level_at reads grown_at risen_at element_at next_at elements_at closed_at aim_round aim_list aim_at
  a17 = refl

  -- `( a . b , 1 . x ) NL` with 3
  a18 : told (aim_at 40 3 (tk (k.Op 32) ∷ tk (k.Name (97 ∷ [])) ∷ tk (k.Op 40) ∷ tk (k.Name (98 ∷ [])) ∷ tk (k.Op 38) ∷
      tk (k.Int one) ∷ tk (k.Op 40) ∷ tk (k.Name (120 ∷ [])) ∷ tk (k.Op 33) ∷ tk k.Newline ∷ [])) ≡ Ok 1
  unfolding op_at keyword_at name_at strings_at tests_at round_at list_at pairs_at dict_at atom_at named_at args_at
      slice_at subscript_at call_at trailer_at trailers_at trail_at power_at links_at chain_at choice_at after_at
      level_at reads grown_at risen_at element_at next_at elements_at closed_at aim_round aim_list aim_at
  a18 = refl

  -- `( a . b , 1 ) NL` with 3
  a19 : told (aim_at 40 3 (tk (k.Op 32) ∷ tk (k.Name (97 ∷ [])) ∷ tk (k.Op 40) ∷ tk (k.Name (98 ∷ [])) ∷ tk (k.Op 38) ∷
      tk (k.Int one) ∷ tk (k.Op 33) ∷ tk k.Newline ∷ [])) ≡ Err (Deep, 2)
  unfolding op_at keyword_at name_at strings_at tests_at round_at list_at pairs_at dict_at atom_at named_at args_at
      slice_at subscript_at call_at trailer_at trailers_at trail_at power_at links_at chain_at choice_at after_at
      level_at reads grown_at risen_at element_at next_at elements_at closed_at aim_round aim_list aim_at
  a19 = refl

  -- `( a . b , c + d ) . x NL` with 3
  a20 : told (aim_at 40 3 (tk (k.Op 32) ∷ tk (k.Name (97 ∷ [])) ∷ tk (k.Op 40) ∷ tk (k.Name (98 ∷ [])) ∷ tk (k.Op 38) ∷
      tk (k.Name (99 ∷ [])) ∷ tk (k.Op 21) ∷ tk (k.Name (100 ∷ [])) ∷ tk (k.Op 33) ∷ tk (k.Op 40) ∷ tk
      (k.Name (120 ∷ [])) ∷ tk k.Newline ∷ [])) ≡ Err (Deep, 6)
  unfolding op_at keyword_at name_at strings_at tests_at round_at list_at pairs_at dict_at atom_at named_at args_at
      slice_at subscript_at call_at trailer_at trailers_at trail_at power_at links_at chain_at choice_at after_at
      level_at reads grown_at risen_at element_at next_at elements_at closed_at aim_round aim_list aim_at
  a20 = refl

  -- `( 1 , a . b ) . x NL` with 3
  a21 : told (aim_at 40 3 (tk (k.Op 32) ∷ tk (k.Int one) ∷ tk (k.Op 38) ∷ tk (k.Name (97 ∷ [])) ∷ tk (k.Op 40) ∷ tk
      (k.Name (98 ∷ [])) ∷ tk (k.Op 33) ∷ tk (k.Op 40) ∷ tk (k.Name (120 ∷ [])) ∷ tk k.Newline ∷ [])) ≡ Err (Deep, 6)
  unfolding op_at keyword_at name_at strings_at tests_at round_at list_at pairs_at dict_at atom_at named_at args_at
      slice_at subscript_at call_at trailer_at trailers_at trail_at power_at links_at chain_at choice_at after_at
      level_at reads grown_at risen_at element_at next_at elements_at closed_at aim_round aim_list aim_at
  a21 = refl

  -- `( a [ 1 : 2 ] ) NL` with 3
  a22 : told (aim_at 40 3 (tk (k.Op 32) ∷ tk (k.Name (97 ∷ [])) ∷ tk (k.Op 34) ∷ tk (k.Int one) ∷ tk (k.Op 39) ∷ tk
      (k.Int one) ∷ tk (k.Op 35) ∷ tk (k.Op 33) ∷ tk k.Newline ∷ [])) ≡ Err (Deep, 2)
  unfolding op_at keyword_at name_at strings_at tests_at round_at list_at pairs_at dict_at atom_at named_at args_at
      slice_at subscript_at call_at trailer_at trailers_at trail_at power_at links_at chain_at choice_at after_at
      level_at reads grown_at risen_at element_at next_at elements_at closed_at aim_round aim_list aim_at
  a22 = refl

  -- `( a [ 1 : 2 ] ) NL` with 4
  a23 : told (aim_at 40 4 (tk (k.Op 32) ∷ tk (k.Name (97 ∷ [])) ∷ tk (k.Op 34) ∷ tk (k.Int one) ∷ tk (k.Op 39) ∷ tk
      (k.Int one) ∷ tk (k.Op 35) ∷ tk (k.Op 33) ∷ tk k.Newline ∷ [])) ≡ Ok 1
  unfolding op_at keyword_at name_at strings_at tests_at round_at list_at pairs_at dict_at atom_at named_at args_at
      slice_at subscript_at call_at trailer_at trailers_at trail_at power_at links_at chain_at choice_at after_at
      level_at reads grown_at risen_at element_at next_at elements_at closed_at aim_round aim_list aim_at
  a23 = refl

  -- `( a for b` with 2
  a24 : told (aim_at 40 2 (tk (k.Op 32) ∷ tk (k.Name (97 ∷ [])) ∷ tk (k.Keyword 13) ∷ tk (k.Name (98 ∷ [])) ∷ [])) ≡
      Err ((LeftOut left.Comprehension), 2)
  unfolding op_at keyword_at name_at strings_at tests_at round_at list_at pairs_at dict_at atom_at named_at args_at
      slice_at subscript_at call_at trailer_at trailers_at trail_at power_at links_at chain_at choice_at after_at
      level_at reads grown_at risen_at element_at next_at elements_at closed_at aim_round aim_list aim_at
  a24 = refl

  -- `( 1.5` with 2
  a25 : told (aim_at 40 2 (tk (k.Op 32) ∷ tk (k.Other other.Float) ∷ [])) ≡ Err ((LeftOut left.Float), 1)
  unfolding op_at keyword_at name_at strings_at tests_at round_at list_at pairs_at dict_at atom_at named_at args_at
      slice_at subscript_at call_at trailer_at trailers_at trail_at power_at links_at chain_at choice_at after_at
      level_at reads grown_at risen_at element_at next_at elements_at closed_at aim_round aim_list aim_at
  a25 = refl

  -- `( yield` with 2
  a26 : told (aim_at 40 2 (tk (k.Op 32) ∷ tk (k.Keyword 30) ∷ [])) ≡ Err ((LeftOut left.Generator), 1)
  unfolding op_at keyword_at name_at strings_at tests_at round_at list_at pairs_at dict_at atom_at named_at args_at
      slice_at subscript_at call_at trailer_at trailers_at trail_at power_at links_at chain_at choice_at after_at
      level_at reads grown_at risen_at element_at next_at elements_at closed_at aim_round aim_list aim_at
  a26 = refl

  -- `( a b` with 2
  a27 : told (aim_at 40 2 (tk (k.Op 32) ∷ tk (k.Name (97 ∷ [])) ∷ tk (k.Name (98 ∷ [])) ∷ [])) ≡ Err (Unexpected, 1)
  unfolding op_at keyword_at name_at strings_at tests_at round_at list_at pairs_at dict_at atom_at named_at args_at
      slice_at subscript_at call_at trailer_at trailers_at trail_at power_at links_at chain_at choice_at after_at
      level_at reads grown_at risen_at element_at next_at elements_at closed_at aim_round aim_list aim_at
  a27 = refl

  -- `( lambda` with 2
  a28 : told (aim_at 40 2 (tk (k.Op 32) ∷ tk (k.Keyword 20) ∷ [])) ≡ Err ((LeftOut left.Lambda), 1)
  unfolding op_at keyword_at name_at strings_at tests_at round_at list_at pairs_at dict_at atom_at named_at args_at
      slice_at subscript_at call_at trailer_at trailers_at trail_at power_at links_at chain_at choice_at after_at
      level_at reads grown_at risen_at element_at next_at elements_at closed_at aim_round aim_list aim_at
  a28 = refl

  -- `- a` with 1
  a29 : told (aim_at 40 1 (tk (k.Op 22) ∷ tk (k.Name (97 ∷ [])) ∷ [])) ≡ Err (Unexpected, 2)
  unfolding op_at keyword_at name_at strings_at tests_at round_at list_at pairs_at dict_at atom_at named_at args_at
      slice_at subscript_at call_at trailer_at trailers_at trail_at power_at links_at chain_at choice_at after_at
      level_at reads grown_at risen_at element_at next_at elements_at closed_at aim_round aim_list aim_at
  a29 = refl

  -- `( - a ) . x` with 2
  a30 : told (aim_at 40 2 (tk (k.Op 32) ∷ tk (k.Op 22) ∷ tk (k.Name (97 ∷ [])) ∷ tk (k.Op 33) ∷ tk (k.Op 40) ∷ tk
      (k.Name (120 ∷ [])) ∷ [])) ≡ Err (Deep, 5)
  unfolding op_at keyword_at name_at strings_at tests_at round_at list_at pairs_at dict_at atom_at named_at args_at
      slice_at subscript_at call_at trailer_at trailers_at trail_at power_at links_at chain_at choice_at after_at
      level_at reads grown_at risen_at element_at next_at elements_at closed_at aim_round aim_list aim_at
  a30 = refl

  -- `( - a ) . x` with 3
  a31 : told (aim_at 40 3 (tk (k.Op 32) ∷ tk (k.Op 22) ∷ tk (k.Name (97 ∷ [])) ∷ tk (k.Op 33) ∷ tk (k.Op 40) ∷ tk
      (k.Name (120 ∷ [])) ∷ [])) ≡ Err (Deep, 5)
  unfolding op_at keyword_at name_at strings_at tests_at round_at list_at pairs_at dict_at atom_at named_at args_at
      slice_at subscript_at call_at trailer_at trailers_at trail_at power_at links_at chain_at choice_at after_at
      level_at reads grown_at risen_at element_at next_at elements_at closed_at aim_round aim_list aim_at
  a31 = refl

  -- `( - a ) . x NL` with 4
  a32 : told (aim_at 40 4 (tk (k.Op 32) ∷ tk (k.Op 22) ∷ tk (k.Name (97 ∷ [])) ∷ tk (k.Op 33) ∷ tk (k.Op 40) ∷ tk
      (k.Name (120 ∷ [])) ∷ tk k.Newline ∷ [])) ≡ Ok 1
  unfolding op_at keyword_at name_at strings_at tests_at round_at list_at pairs_at dict_at atom_at named_at args_at
      slice_at subscript_at call_at trailer_at trailers_at trail_at power_at links_at chain_at choice_at after_at
      level_at reads grown_at risen_at element_at next_at elements_at closed_at aim_round aim_list aim_at
  a32 = refl

  -- `( a if b else c ) . x NL` with 4
  a33 : told (aim_at 40 4 (tk (k.Op 32) ∷ tk (k.Name (97 ∷ [])) ∷ tk (k.Keyword 16) ∷ tk (k.Name (98 ∷ [])) ∷ tk
      (k.Keyword 9) ∷ tk (k.Name (99 ∷ [])) ∷ tk (k.Op 33) ∷ tk (k.Op 40) ∷ tk (k.Name (120 ∷ [])) ∷ tk k.Newline ∷
      [])) ≡ Ok 1
  unfolding op_at keyword_at name_at strings_at tests_at round_at list_at pairs_at dict_at atom_at named_at args_at
      slice_at subscript_at call_at trailer_at trailers_at trail_at power_at links_at chain_at choice_at after_at
      level_at reads grown_at risen_at element_at next_at elements_at closed_at aim_round aim_list aim_at
  a33 = refl

  -- `( a if b else c ) . x NL` with 3
  a34 : told (aim_at 40 3 (tk (k.Op 32) ∷ tk (k.Name (97 ∷ [])) ∷ tk (k.Keyword 16) ∷ tk (k.Name (98 ∷ [])) ∷ tk
      (k.Keyword 9) ∷ tk (k.Name (99 ∷ [])) ∷ tk (k.Op 33) ∷ tk (k.Op 40) ∷ tk (k.Name (120 ∷ [])) ∷ tk k.Newline ∷
      [])) ≡ Err (Deep, 8)
  unfolding op_at keyword_at name_at strings_at tests_at round_at list_at pairs_at dict_at atom_at named_at args_at
      slice_at subscript_at call_at trailer_at trailers_at trail_at power_at links_at chain_at choice_at after_at
      level_at reads grown_at risen_at element_at next_at elements_at closed_at aim_round aim_list aim_at
  a34 = refl

  -- `f ( 1 ) NL` with 2
  a35 : told (aim_at 40 2 (tk (k.Name (102 ∷ [])) ∷ tk (k.Op 32) ∷ tk (k.Int one) ∷ tk (k.Op 33) ∷ tk k.Newline ∷ []))
      ≡ Ok 1
  unfolding op_at keyword_at name_at strings_at tests_at round_at list_at pairs_at dict_at atom_at named_at args_at
      slice_at subscript_at call_at trailer_at trailers_at trail_at power_at links_at chain_at choice_at after_at
      level_at reads grown_at risen_at element_at next_at elements_at closed_at aim_round aim_list aim_at
  a35 = refl

  -- `[ f ( 1 ) ] NL` with 3
  a36 : told (aim_at 40 3 (tk (k.Op 34) ∷ tk (k.Name (102 ∷ [])) ∷ tk (k.Op 32) ∷ tk (k.Int one) ∷ tk (k.Op 33) ∷ tk
      (k.Op 35) ∷ tk k.Newline ∷ [])) ≡ Err (Deep, 2)
  unfolding op_at keyword_at name_at strings_at tests_at round_at list_at pairs_at dict_at atom_at named_at args_at
      slice_at subscript_at call_at trailer_at trailers_at trail_at power_at links_at chain_at choice_at after_at
      level_at reads grown_at risen_at element_at next_at elements_at closed_at aim_round aim_list aim_at
  a36 = refl

  -- `[ f ( 1 ) ] NL` with 2
  a37 : told (aim_at 40 2 (tk (k.Op 34) ∷ tk (k.Name (102 ∷ [])) ∷ tk (k.Op 32) ∷ tk (k.Int one) ∷ tk (k.Op 33) ∷ tk
      (k.Op 35) ∷ tk k.Newline ∷ [])) ≡ Err (Deep, 5)
  unfolding op_at keyword_at name_at strings_at tests_at round_at list_at pairs_at dict_at atom_at named_at args_at
      slice_at subscript_at call_at trailer_at trailers_at trail_at power_at links_at chain_at choice_at after_at
      level_at reads grown_at risen_at element_at next_at elements_at closed_at aim_round aim_list aim_at
  a37 = refl

  -- `[ f ( 1 ) . x , ] NL` with 3
  a38 : told (aim_at 40 3 (tk (k.Op 34) ∷ tk (k.Name (102 ∷ [])) ∷ tk (k.Op 32) ∷ tk (k.Int one) ∷ tk (k.Op 33) ∷ tk
      (k.Op 40) ∷ tk (k.Name (120 ∷ [])) ∷ tk (k.Op 38) ∷ tk (k.Op 35) ∷ tk k.Newline ∷ [])) ≡ Ok 1
  unfolding op_at keyword_at name_at strings_at tests_at round_at list_at pairs_at dict_at atom_at named_at args_at
      slice_at subscript_at call_at trailer_at trailers_at trail_at power_at links_at chain_at choice_at after_at
      level_at reads grown_at risen_at element_at next_at elements_at closed_at aim_round aim_list aim_at
  a38 = refl

  -- `'' '' . x NL` with 2
  a39 : told (aim_at 40 2 (tk (k.Str []) ∷ tk (k.Str []) ∷ tk (k.Op 40) ∷ tk (k.Name (120 ∷ [])) ∷ tk k.Newline ∷ []))
      ≡ Ok 1
  unfolding op_at keyword_at name_at strings_at tests_at round_at list_at pairs_at dict_at atom_at named_at args_at
      slice_at subscript_at call_at trailer_at trailers_at trail_at power_at links_at chain_at choice_at after_at
      level_at reads grown_at risen_at element_at next_at elements_at closed_at aim_round aim_list aim_at
  a39 = refl

  -- `'' '' . x NL` with 1
  a40 : told (aim_at 40 1 (tk (k.Str []) ∷ tk (k.Str []) ∷ tk (k.Op 40) ∷ tk (k.Name (120 ∷ [])) ∷ tk k.Newline ∷ []))
      ≡ Err (Deep, 5)
  unfolding op_at keyword_at name_at strings_at tests_at round_at list_at pairs_at dict_at atom_at named_at args_at
      slice_at subscript_at call_at trailer_at trailers_at trail_at power_at links_at chain_at choice_at after_at
      level_at reads grown_at risen_at element_at next_at elements_at closed_at aim_round aim_list aim_at
  a40 = refl

  -- `{ 1 : a } . x NL` with 3
  a41 : told (aim_at 40 3 (tk (k.Op 36) ∷ tk (k.Int one) ∷ tk (k.Op 39) ∷ tk (k.Name (97 ∷ [])) ∷ tk (k.Op 37) ∷ tk
      (k.Op 40) ∷ tk (k.Name (120 ∷ [])) ∷ tk k.Newline ∷ [])) ≡ Ok 1
  unfolding op_at keyword_at name_at strings_at tests_at round_at list_at pairs_at dict_at atom_at named_at args_at
      slice_at subscript_at call_at trailer_at trailers_at trail_at power_at links_at chain_at choice_at after_at
      level_at reads grown_at risen_at element_at next_at elements_at closed_at aim_round aim_list aim_at
  a41 = refl

  -- `{ 1 : a } . x NL` with 2
  a42 : told (aim_at 40 2 (tk (k.Op 36) ∷ tk (k.Int one) ∷ tk (k.Op 39) ∷ tk (k.Name (97 ∷ [])) ∷ tk (k.Op 37) ∷ tk
      (k.Op 40) ∷ tk (k.Name (120 ∷ [])) ∷ tk k.Newline ∷ [])) ≡ Err (Deep, 7)
  unfolding op_at keyword_at name_at strings_at tests_at round_at list_at pairs_at dict_at atom_at named_at args_at
      slice_at subscript_at call_at trailer_at trailers_at trail_at power_at links_at chain_at choice_at after_at
      level_at reads grown_at risen_at element_at next_at elements_at closed_at aim_round aim_list aim_at
  a42 = refl

  -- `( { } ) . x NL` with 2
  a43 : told (aim_at 40 2 (tk (k.Op 32) ∷ tk (k.Op 36) ∷ tk (k.Op 37) ∷ tk (k.Op 33) ∷ tk (k.Op 40) ∷ tk
      (k.Name (120 ∷ [])) ∷ tk k.Newline ∷ [])) ≡ Err (Deep, 6)
  unfolding op_at keyword_at name_at strings_at tests_at round_at list_at pairs_at dict_at atom_at named_at args_at
      slice_at subscript_at call_at trailer_at trailers_at trail_at power_at links_at chain_at choice_at after_at
      level_at reads grown_at risen_at element_at next_at elements_at closed_at aim_round aim_list aim_at
  a43 = refl

  -- `( ( 1 ) ) . x NL` with 4
  a44 : told (aim_at 40 4 (tk (k.Op 32) ∷ tk (k.Op 32) ∷ tk (k.Int one) ∷ tk (k.Op 33) ∷ tk (k.Op 33) ∷ tk (k.Op 40) ∷
      tk (k.Name (120 ∷ [])) ∷ tk k.Newline ∷ [])) ≡ Ok 1
  unfolding op_at keyword_at name_at strings_at tests_at round_at list_at pairs_at dict_at atom_at named_at args_at
      slice_at subscript_at call_at trailer_at trailers_at trail_at power_at links_at chain_at choice_at after_at
      level_at reads grown_at risen_at element_at next_at elements_at closed_at aim_round aim_list aim_at
  a44 = refl

  -- `( ( 1 ) ) . x NL` with 3
  a45 : told (aim_at 40 3 (tk (k.Op 32) ∷ tk (k.Op 32) ∷ tk (k.Int one) ∷ tk (k.Op 33) ∷ tk (k.Op 33) ∷ tk (k.Op 40) ∷
      tk (k.Name (120 ∷ [])) ∷ tk k.Newline ∷ [])) ≡ Err (Deep, 6)
  unfolding op_at keyword_at name_at strings_at tests_at round_at list_at pairs_at dict_at atom_at named_at args_at
      slice_at subscript_at call_at trailer_at trailers_at trail_at power_at links_at chain_at choice_at after_at
      level_at reads grown_at risen_at element_at next_at elements_at closed_at aim_round aim_list aim_at
  a45 = refl

  -- `( ( 1 ) . x ) NL` with 4
  a46 : told (aim_at 40 4 (tk (k.Op 32) ∷ tk (k.Op 32) ∷ tk (k.Int one) ∷ tk (k.Op 33) ∷ tk (k.Op 40) ∷ tk
      (k.Name (120 ∷ [])) ∷ tk (k.Op 33) ∷ tk k.Newline ∷ [])) ≡ Ok 1
  unfolding op_at keyword_at name_at strings_at tests_at round_at list_at pairs_at dict_at atom_at named_at args_at
      slice_at subscript_at call_at trailer_at trailers_at trail_at power_at links_at chain_at choice_at after_at
      level_at reads grown_at risen_at element_at next_at elements_at closed_at aim_round aim_list aim_at
  a46 = refl

  -- `( ( 1 ) . x , 2 ** 3 ) . y NL` with 4
  a47 : told (aim_at 40 4 (tk (k.Op 32) ∷ tk (k.Op 32) ∷ tk (k.Int one) ∷ tk (k.Op 33) ∷ tk (k.Op 40) ∷ tk
      (k.Name (120 ∷ [])) ∷ tk (k.Op 38) ∷ tk (k.Int one) ∷ tk (k.Op 4) ∷ tk (k.Int one) ∷ tk (k.Op 33) ∷ tk (k.Op 40)
      ∷ tk (k.Name (121 ∷ [])) ∷ tk k.Newline ∷ [])) ≡ Err (Deep, 6)
  unfolding op_at keyword_at name_at strings_at tests_at round_at list_at pairs_at dict_at atom_at named_at args_at
      slice_at subscript_at call_at trailer_at trailers_at trail_at power_at links_at chain_at choice_at after_at
      level_at reads grown_at risen_at element_at next_at elements_at closed_at aim_round aim_list aim_at
  a47 = refl
