-- What the grammar of expressions has, with or without a mark, is read, or refused as what is left out.
use Rattle.std.proofs.Common.{◌≡◌, ℕ, zero, suc, ◌-◌, ◌≤◌, Bool, true, false, List, [], ◌∷◌, ◌++◌, length, Ok, Option, Some, inl, inr, refl, sym, ap, ◌∙◌, append_assoc, arith, length-append}
use Rattle.py_tokens.specs.declared.token.Token.{Token}
use Rattle.py_tokens.specs.declared.token.TokenKind.TheVariants as k
use Rattle.py_tokens.specs.declared.token.Other.TheVariants as other
use Rattle.py_tokens.specs.declared.token.Place.{Place}
use Rattle.py_tokens.specs.Place.{token_at as at}
use Rattle.py_tree.specs.declared.expr.Expr.{Expr}
use Rattle.py_tree.specs.declared.expr.Level.{Level}
use Rattle.py_tree.specs.Height.{height}
use Rattle.py_tree.specs.Form.{form}
use Rattle.py_grammar.specs.Words.{below}
use Rattle.py_grammar.specs.Grammar.{Marks}
use Rattle.py_grammar.specs.declared.tall.Tall.{Tall}
use Rattle.py_grammar.specs.inner.Tall.{plain, push, none, start, push_link, push_pair, push_named, push_trailer, of_name, of_tuple, of_list, of_dict, of_trail, of_power, of_sign, of_chain, of_not, of_choice, of_index, of_slice, of_call}
use Rattle.py_tree.specs.Height.{tops, tops_links, tops_pairs, tops_named, tops_trailers, height_trailer}
use Rattle.py_tree.proofs.Heights as hh
use Rattle.py_tree.specs.declared.expr.Expr.TheVariants as e
use Rattle.py_tree.specs.declared.expr.Link.{Link}
use Rattle.py_tree.specs.declared.expr.Pair.{Pair}
use Rattle.py_tree.specs.declared.expr.Named.{Named}
use Rattle.py_tree.specs.declared.expr.Trailer.{Trailer}
use Rattle.py_tree.specs.declared.expr.Trailer.TheVariants as t
use Rattle.py_grammar.specs.inner.Reading.{◌>>=◌, first, rest, comes, rung_of, rung_at, reads, atom_at, trail_at, power_at, chain_at, choice_at, after_at, trails, links_at}
use Rattle.py_grammar.proofs.Steps.{of, Reaches, then_reads, at_same, reads_atom, reads_up, quiet, after_quiet}
use Rattle.py_grammar.proofs.Facts.{no_head, not_keyword, stops_down, takes_not, rung_below}
use Rattle.py_grammar.proofs.Values.{plus_tests, push_tests, plus_links, push_links, plus_pairs, push_pairs, plus_named, push_nameds, plus_trailers, push_trailers, of_r, of_or, as_name, as_int, as_group, as_unit, as_tuple, as_no_list, as_list, as_dict, as_power, as_sign, as_chain, as_not, as_choice, as_attribute, as_index, as_slice, as_call}
use Rattle.py_grammar.specs.inner.Follow.{stops}
use Rattle.py_grammar.specs.Words.{spelled}
use Rattle.py_grammar.proofs.Begin.{tests_headed, begin_op, more_headed, commas_headed, headed, begin, long, as_value, s_name, s_int, s_other, s_backquote, s_unit, s_yield, s_no_list, s_no_dict, s_round, s_list, s_dict, s_op, s_else, s_trail, s_power, s_sign, s_not, s_chain, s_choice, s_after, s_tests, s_tests_end, no_comma, no_test}
use Rattle.py_grammar.specs.Grammar as G
use Rattle.py_grammar.specs.Grammar.{Is, Tests, Commas, Exprs, Pairs, Links, Trailers, Trails, Maybe, Args}
use Rattle.py_tree.specs.Height.{top_or}
use Rattle.py_grammar.specs.inner.Reading.{round_close, list_close, dict_close, dict_value, tests_at, pairs_at, op_at, keyword_at, trailers_at, trailer_at, subscript_at, index_close, slice_at, slice_close, args_at, arg_by, named_at, keyed}
use Rattle.py_grammar.specs.Codes as c
use Rattle.py_base.specs.declared.refusal.Construct.TheVariants as left
use Rattle.py_grammar.proofs.ReadSteps.{tests_nil, links_nil, tests_trailing, three, links_first, s_links_end, s_links, pairs_headed, links_none, trail_first, trailers_first, trail_value, choice_plain, pair_value, pair_more, s_pairs, s_pairs_end, pairs_trailing, pairs_one, dict_one, trailers_nil, trail_long, s_trailers, s_trailers_end, s_attribute, s_subscript, s_first, s_colon, s_upper, s_no_upper, s_no_call, s_call, reads_after, index_first, args_first, keyed_no, args_go, tests_one, arg_next, arg_end, arg_comma, arg_more, two_reads, strings, nameds_one, call_one, call_more, name_14, named_next, s_named_end, s_named_comma, s_named, s_named_starred, s_named_double, s_starred, s_double_starred}

mutual
  pub complete : {x : Marks} {n : ℕ} {a : Expr} {ts : List Token} → Is x n a ts → (g d : ℕ) (rest : List Token) →
      length ts ≤ g → height a ≤ d → stops n (first rest) ≡ true →
      Reaches x ((reads g d).read n (ts ++ rest)) (of a) rest
  complete (G.up n {x = x} {a = a} {ts = ts} l p) g d rest b h s =
      at_same x _ _ (of a) rest (reads_up g d n (ts ++ rest) (omega (arith, hh.height_pos a)))
      (quiet x (rung_of n) (reads g (d - 1)) g d ((reads g d).read n) (ts ++ rest) rest (of a)
      (no_head n (first (ts ++ rest)) (omega arith) (begin (headed p) rest)) (takes_not n (first rest) s)
      (complete p g d rest b h (stops_down n (first rest) s)))
  complete (G.name x n p) g d rest b h s =
      as_value x _ _ _ rest (as_name n) (inl (reads_atom g d _ (omega (arith, hh.height_name n)) ∙
      s_name (reads g (d - 1)) g n p rest))
  complete (G.int x n p) g d rest b h s =
      as_value x _ _ _ rest (as_int n) (inl (reads_atom g d _ (omega (arith, hh.height_int n)) ∙
      s_int (reads g (d - 1)) g n p rest))
  complete (G.strings {x = x} {s = w} {ts = ts} p) g d rest b h s =
      strings p g d rest b (omega (arith, hh.height_str w)) s
  complete (G.group p q {x = x} {a = a} {ts = ts} r) g d rest b h s =
      let up = hh.height_group a in let low = hh.height_pos a in
      at_same x _ _ (of (e.Group a)) rest
      (reads_atom g d _ (omega arith) ∙ ap (λ w. atom_at (reads g (d - 1)) g (at c.open_round p ∷ w))
      (append_assoc ts (at c.close_round q ∷ []) rest) ∙
      s_round (reads g (d - 1)) g p (ts ++ at c.close_round q ∷ rest) (begin (headed r) _))
      (then_reads x _ (round_close (reads g (d - 1)) g) (of a) (at c.close_round q ∷ rest) _ rest
      (complete r g (d - 1) (at c.close_round q ∷ rest) (omega (arith, length-append ts (at c.close_round q ∷ [])))
      (omega arith) refl)
      (inl (ap (λ v. Ok (v, rest)) (as_group a))))
  complete (G.unit x p q) g d rest b h s =
      as_value x _ _ _ rest as_unit (inl (reads_atom g d _ (omega (arith, hh.height_tuple [])) ∙
      s_unit (reads g (d - 1)) g p q rest))
  complete (G.round p q {x = x} {es = es} {ts = ts} r) g d rest b h s =
      at_same x _ _ (of (e.Tuple es)) rest
      (reads_atom g d _ (omega (arith, hh.height_tuple es)) ∙
      ap (λ w. atom_at (reads g (d - 1)) g (at c.open_round p ∷ w))
      (append_assoc ts (at c.close_round q ∷ []) rest) ∙
      s_round (reads g (d - 1)) g p (ts ++ at c.close_round q ∷ rest) (begin (commas_headed r) _))
      (complete_round r g (d - 1) q rest (omega (arith, length-append ts (at c.close_round q ∷ [])))
      (omega (arith, hh.height_tuple es)))
  complete (G.no_list x p q) g d rest b h s =
      as_value x _ _ _ rest as_no_list (inl (reads_atom g d _ (omega (arith, hh.height_list [])) ∙
      s_no_list (reads g (d - 1)) g p q rest))
  complete (G.list p q {x = x} {es = es} {ts = ts} r) g d rest b h s =
      at_same x _ _ (of (e.List es)) rest
      (reads_atom g d _ (omega (arith, hh.height_list es)) ∙
      ap (λ w. atom_at (reads g (d - 1)) g (at c.open_square p ∷ w))
      (append_assoc ts (at c.close_square q ∷ []) rest) ∙
      s_list (reads g (d - 1)) g p (ts ++ at c.close_square q ∷ rest) (begin (tests_headed r) _))
      (complete_list r g (d - 1) q rest (omega (arith, length-append ts (at c.close_square q ∷ [])))
      (omega (arith, hh.height_list es)))
  complete (G.no_dict x p q) g d rest b h s =
      as_value x _ _ _ rest (as_dict [])
      (inl (reads_atom g d _ (omega (arith, hh.height_dict [])) ∙ s_no_dict (reads g (d - 1)) g p q rest))
  complete (G.dict p q {x = x} {ps = ps} {ts = ts} r) g d rest b h s =
      at_same x _ _ (of (e.Dict ps)) rest
      (reads_atom g d _ (omega (arith, hh.height_dict ps)) ∙
      ap (λ w. atom_at (reads g (d - 1)) g (at c.open_brace p ∷ w))
      (append_assoc ts (at c.close_brace q ∷ []) rest) ∙
      s_dict (reads g (d - 1)) g p (ts ++ at c.close_brace q ∷ rest) (begin (pairs_headed r) _))
      (complete_dict r g (d - 1) q rest (omega (arith, length-append ts (at c.close_brace q ∷ [])))
      (omega (arith, hh.height_dict ps)))
  complete (G.trail {x = x} {a = a} {rs = rs} {ts = ts} {us = us} p q) g d rest b h s =
      let up = hh.height_trail a rs in let low = hh.height_pos a in let len = length-append ts us in let first' =
      trailers_first q rest in
      at_same x _ _ (of (e.Trail a rs)) rest
      (reads_up g d 0 _ (omega arith) ∙ ap (λ w. (reads g d).read 0 w >>= trail_at (reads g (d - 1)) g d)
      (append_assoc ts us rest))
      (then_reads x _ (trail_at (reads g (d - 1)) g d) (of a) (us ++ rest) _ rest
      (complete p g d (us ++ rest) (omega arith) (omega arith) first'.1)
      (at_same x _ _ _ rest (s_trail (reads g (d - 1)) g d (of a) (us ++ rest) first'.0 (omega arith))
      (then_reads x _ (λ rs. Ok (of_trail (of a) rs.0, rs.1)) (plus_trailers (plain [] 0) rs) rest _ rest
      (complete_trailers q g (d - 1) g (plain [] 0) rest (omega arith) (omega arith) (omega arith)
      (takes_not 0 (first rest) s))
      (inl (ap (λ v. Ok (v, rest)) (trail_value a q))))))
  complete (G.power p {x = x} {a = a} {b = a'} {ts = ts} {us = us} q r) g d rest b h s =
      let up = hh.height_power a a' in let low = hh.height_pos a in let low' = hh.height_pos a' in let len =
      length-append ts (at c.power p ∷ us) in
      at_same x _ _ (of (e.Power a a')) rest
      (reads_up g d 1 _ (omega arith) ∙ ap (λ w. (reads g d).read 1 w >>= power_at (reads g (d - 1)) d)
      (append_assoc ts (at c.power p ∷ us) rest))
      (then_reads x _ (power_at (reads g (d - 1)) d) (of a) (at c.power p ∷ us ++ rest) _ rest
      (complete q g d (at c.power p ∷ us ++ rest) (omega arith) (omega arith) refl)
      (at_same x _ _ _ rest (s_power (reads g (d - 1)) d (of a) p (us ++ rest) (omega arith))
      (then_reads x _ (λ b. Ok (of_power (of a) b.0, b.1)) (of a') rest _ rest
      (complete r g (d - 1) rest (omega arith) (omega arith) (three (first rest) s))
      (inl (ap (λ v. Ok (v, rest)) (as_power a a'))))))
  complete (G.signed w p {x = x} {a = a} {ts = ts} q) g d rest b h s =
      let up = hh.height_unary w a in let low = hh.height_pos a in
      at_same x _ _ (of (e.Unary w a)) rest
      (reads_up g d 2 _ (omega arith) ∙ s_sign (reads g (d - 1)) d ((reads g d).read 2) w p (ts ++ rest)
      (omega arith))
      (then_reads x _ (λ a. Ok (of_sign w a.0, a.1)) (of a) rest _ rest
      (complete q g (d - 1) rest (omega arith) (omega arith) s) (inl (ap (λ v. Ok (v, rest)) (as_sign w a))))
  complete (G.chain l {x = x} {a = a} {ls = ls} {ts = ts} {us = us} p q) g d rest b h s =
      let up = hh.height_chain l a ls in let low = hh.height_pos a in let len = length-append ts us in let first' =
      links_first q rest in
      at_same x _ _ (of (e.Chain l a ls)) rest
      (reads_up g d (below l) _ (omega arith) ∙
      ap (λ r. rung_at r (reads g (d - 1)) g d ((reads g d).read (below l)) ((ts ++ us) ++ rest)) (rung_below l) ∙
      ap (λ w. (reads g d).read (below l) w >>= chain_at l ((reads g (d - 1)).read (below l)) g d)
      (append_assoc ts us rest))
      (then_reads x _ (chain_at l ((reads g (d - 1)).read (below l)) g d) (of a) (us ++ rest) _ rest
      (complete p g d (us ++ rest) (omega arith) (omega arith) first'.1)
      (at_same x _ _ _ rest (s_chain l ((reads g (d - 1)).read (below l)) g d (of a) (us ++ rest) first'.0
      (omega arith))
      (then_reads x _ (λ ls. Ok (of_chain l (of a) ls.0, ls.1)) (plus_links (plain [] 0) ls) rest _ rest
      (complete_links q g (d - 1) g (plain [] 0) rest (omega arith) (omega arith) (omega arith) s)
      (inl (ap (λ v. Ok (v, rest)) (as_chain l a ls))))))
  complete (G.negated p {x = x} {a = a} {ts = ts} q) g d rest b h s =
      let up = hh.height_not a in let low = hh.height_pos a in
      at_same x _ _ (of (e.Not a)) rest (reads_up g d 10 _ (omega arith) ∙
      s_not (reads g (d - 1)) g d ((reads g d).read 10) p (ts ++ rest) (omega arith))
      (then_reads x _ (λ a. Ok (of_not a.0, a.1)) (of a) rest _ rest
      (complete q g (d - 1) rest (omega arith) (omega arith) s) (inl (ap (λ v. Ok (v, rest)) (as_not a))))
  complete (G.choice p q {x = x} {a = a} {b = b'} {d = d'} {ts = ts} {us = us} {vs = vs} i j m) g d rest b h s =
      let up = hh.height_choice a b' d' in let low = hh.height_pos a in let low' = hh.height_pos b' in let low'' =
      hh.height_pos d' in
      let len = length-append (ts ++ at c.if_ p ∷ us) (at c.else_ q ∷ vs) in let len' =
      length-append ts (at c.if_ p ∷ us) in
      at_same x _ _ (of (e.Choice a b' d')) rest
      (reads_up g d 13 _ (omega arith) ∙
      choice_plain g d ((((ts ++ at c.if_ p ∷ us) ++ at c.else_ q ∷ vs) ++ rest))
      (not_keyword 13 20 (first (((ts ++ at c.if_ p ∷ us) ++ at c.else_ q ∷ vs) ++ rest)) refl
      (begin (more_headed (at c.else_ q ∷ vs) (more_headed (at c.if_ p ∷ us) (headed i))) rest))
      ∙ ap (λ w. (reads g d).read 13 w >>= choice_at (reads g (d - 1)) d)
      (append_assoc (ts ++ at c.if_ p ∷ us) (at c.else_ q ∷ vs) rest ∙
      append_assoc ts (at c.if_ p ∷ us) (at c.else_ q ∷ vs ++ rest)))
      (then_reads x _ (choice_at (reads g (d - 1)) d) (of a) (at c.if_ p ∷ us ++ (at c.else_ q ∷ vs ++ rest)) _ rest
      (complete i g d _ (omega arith) (omega arith) refl)
      (at_same x _ _ _ rest (s_choice (reads g (d - 1)) d (of a) p (us ++ (at c.else_ q ∷ vs ++ rest)) (omega arith))
      (then_reads x _ (λ b. keyword_at 9 b.1 >>= λ w.
      ((reads g (d - 1)).read 14 w.1 >>= λ y. Ok (of_choice (of a) b.0 y.0, y.1))) (of b')
      (at c.else_ q ∷ vs ++ rest) _ rest
      (complete j g (d - 1) _ (omega arith) (omega arith) refl)
      (at_same x _ _ _ rest (ap (λ r. r >>= λ w.
      ((reads g (d - 1)).read 14 w.1 >>= λ y. Ok (of_choice (of a) (of b') y.0, y.1))) (s_else q (vs ++ rest)))
      (then_reads x _ (λ y. Ok (of_choice (of a) (of b') y.0, y.1)) (of d') rest _ rest
      (complete m g (d - 1) rest (omega arith) (omega arith) s)
      (inl (ap (λ v. Ok (v, rest)) (as_choice a b' d'))))))))
  complete (G.float p) g d rest b h s = inr (
    left.Float,
    _,
    refl,
    reads_atom g d _ (omega (arith, hh.height_tuple []))
        ∙ s_other (reads g (d - 1)) g other.Float p rest left.Float refl,
  )
  complete (G.long p) g d rest b h s = inr (
    left.Long,
    _,
    refl,
    reads_atom g d _ (omega (arith, hh.height_tuple [])) ∙
        s_other (reads g (d - 1)) g other.Long p rest left.Long refl,
  )
  complete (G.backquote p) g d rest b h s =
      inr (
        left.Backquote,
        _,
        refl,
        reads_atom g d _ (omega (arith, hh.height_tuple [])) ∙
            s_backquote (reads g (d - 1)) g p rest,
      )
  complete (G.lambda p) g d rest b h s =
      inr (left.Lambda, _, refl, reads_up g d 13 _ (omega (arith, hh.height_tuple [])))
  complete (G.yielded p q) g d rest b h s =
      inr (
        left.Generator,
        _,
        refl,
        reads_atom g d _ (omega (arith, hh.height_tuple [])) ∙
            s_yield (reads g (d - 1)) g p q rest,
      )
  complete (G.generator p q {a = a} {ts = ts} r) g d rest b h s =
      let up = hh.height_group a in let low = hh.height_pos a in
      at_same (Some left.Comprehension) _ _ (of (e.Group a)) rest
      (reads_atom g d _ (omega arith) ∙ ap (λ w. atom_at (reads g (d - 1)) g (at c.open_round p ∷ w))
      (append_assoc ts (at c.for_ q ∷ []) rest) ∙ s_round (reads g (d - 1)) g p (ts ++ at c.for_ q ∷ rest)
      (begin (headed r) _))
      (then_reads (Some left.Comprehension) _ (round_close (reads g (d - 1)) g) (of a) (at c.for_ q ∷ rest) _ rest
      (complete r g (d - 1) (at c.for_ q ∷ rest) (omega (arith, length-append ts (at c.for_ q ∷ []))) (omega arith)
      refl)
      (inr (left.Comprehension, _, refl, refl)))
  complete (G.comprehension p q {a = a} {ts = ts} r) g d rest b h s =
      let up = hh.height_list (a ∷ []) in let low = hh.height_pos a in
      at_same (Some left.Comprehension) _ _ (of (e.List (a ∷ []))) rest
      (reads_atom g d _ (omega arith) ∙ ap (λ w. atom_at (reads g (d - 1)) g (at c.open_square p ∷ w))
      (append_assoc ts (at c.for_ q ∷ []) rest) ∙ s_list (reads g (d - 1)) g p (ts ++ at c.for_ q ∷ rest)
      (begin (headed r) _))
      (then_reads (Some left.Comprehension) _ (list_close (reads g (d - 1)) g) (of a) (at c.for_ q ∷ rest) _ rest
      (complete r g (d - 1) (at c.for_ q ∷ rest) (omega (arith, length-append ts (at c.for_ q ∷ []))) (omega arith)
      refl)
      (inr (left.Comprehension, _, refl, refl)))
  complete (G.set_of p q {a = a} {ts = ts} r) g d rest b h s =
      let up = hh.height_dict (record { key = a; value = a } ∷ []) in let low = hh.height_pos a in
      at_same (Some left.Comprehension) _ _ (of (e.Dict (record { key = a; value = a } ∷ []))) rest
      (reads_atom g d _ (omega arith) ∙ ap (λ w. atom_at (reads g (d - 1)) g (at c.open_brace p ∷ w))
      (append_assoc ts (at c.for_ q ∷ []) rest) ∙ s_dict (reads g (d - 1)) g p (ts ++ at c.for_ q ∷ rest)
      (begin (headed r) _))
      (then_reads (Some left.Comprehension) _ (dict_value (reads g (d - 1)) g) (of a) (at c.for_ q ∷ rest) _ rest
      (complete r g (d - 1) (at c.for_ q ∷ rest) (omega (arith, length-append ts (at c.for_ q ∷ []))) (omega arith)
      refl)
      (inr (left.Comprehension, _, refl, refl)))
  complete (G.dict_of p q q' {a = a} {b = b'} {ts = ts} {us = us} i j) g d rest b h s =
      let up = hh.height_dict (record { key = a; value = b' } ∷ []) in let low = hh.height_pos a in let low' =
      hh.height_pos b' in
      let len = length-append (ts ++ at c.colon q ∷ us) (at c.for_ q' ∷ []) in let len' =
      length-append ts (at c.colon q ∷ us) in
      at_same (Some left.Comprehension) _ _ (of (e.Dict (record { key = a; value = b' } ∷ []))) rest
      (reads_atom g d _ (omega arith) ∙ ap (λ w. atom_at (reads g (d - 1)) g (at c.open_brace p ∷ w))
      (append_assoc (ts ++ at c.colon q ∷ us) (at c.for_ q' ∷ []) rest ∙
      append_assoc ts (at c.colon q ∷ us) (at c.for_ q' ∷ rest)) ∙
      s_dict (reads g (d - 1)) g p (ts ++ (at c.colon q ∷ us ++ at c.for_ q' ∷ rest)) (begin (headed i) _))
      (then_reads (Some left.Comprehension) _ (dict_value (reads g (d - 1)) g) (of a)
      (at c.colon q ∷ us ++ at c.for_ q' ∷ rest) _ rest
      (complete i g (d - 1) _ (omega arith) (omega arith) refl)
      (then_reads (Some left.Comprehension) _ (dict_close (reads g (d - 1)) g (of a)) (of b') (at c.for_ q' ∷ rest) _
      rest (complete j g (d - 1) _ (omega arith) (omega arith) refl) (inr (left.Comprehension, _, refl, refl))))
  complete (G.set p q {a = a} {ts = ts} r) g d rest b h s =
      let up = hh.height_dict (record { key = a; value = a } ∷ []) in let low = hh.height_pos a in
      at_same (Some left.Set) _ _ (of (e.Dict (record { key = a; value = a } ∷ []))) rest
      (reads_atom g d _ (omega arith) ∙ ap (λ w. atom_at (reads g (d - 1)) g (at c.open_brace p ∷ w))
      (append_assoc ts (at c.comma q ∷ []) rest) ∙ s_dict (reads g (d - 1)) g p (ts ++ at c.comma q ∷ rest)
      (begin (headed r) _))
      (then_reads (Some left.Set) _ (dict_value (reads g (d - 1)) g) (of a) (at c.comma q ∷ rest) _ rest
      (complete r g (d - 1) (at c.comma q ∷ rest) (omega (arith, length-append ts (at c.comma q ∷ []))) (omega arith)
      refl)
      (inr (left.Set, _, refl, refl)))
  complete (G.set_one p q {a = a} {ts = ts} r) g d rest b h s =
      let up = hh.height_dict (record { key = a; value = a } ∷ []) in let low = hh.height_pos a in
      at_same (Some left.Set) _ _ (of (e.Dict (record { key = a; value = a } ∷ []))) rest
      (reads_atom g d _ (omega arith) ∙ ap (λ w. atom_at (reads g (d - 1)) g (at c.open_brace p ∷ w))
      (append_assoc ts (at c.close_brace q ∷ []) rest) ∙
      s_dict (reads g (d - 1)) g p (ts ++ at c.close_brace q ∷ rest) (begin (headed r) _))
      (then_reads (Some left.Set) _ (dict_value (reads g (d - 1)) g) (of a) (at c.close_brace q ∷ rest) _ rest
      (complete r g (d - 1) (at c.close_brace q ∷ rest) (omega (arith, length-append ts (at c.close_brace q ∷ [])))
      (omega arith) refl)
      (inr (left.Set, _, refl, refl)))

  -- after `(`, with what reads the inside
  complete_round : {x : Marks} {es : List Expr} {ts : List Token} → Commas x es ts →
      (g d : ℕ) (q : Place) (rest : List Token) → length ts ≤ g → tops es ≤ d →
      Reaches x ((reads g d).read 14 (ts ++ at c.close_round q ∷ rest) >>= round_close (reads g d) g) (of (e.Tuple es))
      rest
  complete_round (G.lone p {x = x} {a = a} {ts = ts} r) g d q rest b h =
      let len = length-append ts (at c.comma p ∷ []) in
      at_same x _ _ _ rest (ap (λ w. (reads g d).read 14 w >>= round_close (reads g d) g)
      (append_assoc ts (at c.comma p ∷ []) (at c.close_round q ∷ rest)))
      (then_reads x _ (round_close (reads g d) g) (of a) (at c.comma p ∷ at c.close_round q ∷ rest) _ rest
      (complete r g d _ (omega arith) (omega arith) refl)
      (inl (ap (λ r. r >>= λ es. (op_at 33 es.1 >>= λ close. Ok (of_tuple (es.0).0, close.1)))
      (tests_trailing ((reads g d).read 14) g (start (of a)) p (at c.close_round q ∷ rest) (omega arith) refl)
      ∙ ap (λ r. r >>= λ close. Ok (of_tuple (start (of a)), close.1)) (s_op 33 q rest) ∙
      ap (λ v. Ok (v, rest)) (ap of_tuple (sym (tests_nil (start (of a)))) ∙ as_tuple a []))))
  complete_round (G.several p {x = x} {a = a} {es = es} {b = t} {ts = ts} {us = us} r m) g d q rest b h =
      let len = length-append ts (at c.comma p ∷ us) in
      at_same x _ _ _ rest (ap (λ w. (reads g d).read 14 w >>= round_close (reads g d) g)
      (append_assoc ts (at c.comma p ∷ us) (at c.close_round q ∷ rest)))
      (then_reads x _ (round_close (reads g d) g) (of a) (at c.comma p ∷ us ++ at c.close_round q ∷ rest) _ rest
      (complete r g d _ (omega arith) (omega arith) refl)
      (then_reads x _ (λ es. op_at 33 es.1 >>= λ close. Ok (of_tuple (es.0).0, close.1))
      (plus_tests (start (of a)) es, t) (at c.close_round q ∷ rest) _ rest
      (complete_tests m g d g (start (of a)) p (at c.close_round q ∷ rest) (omega arith) (omega arith) (omega arith)
      refl)
      (inl (ap (λ r. r >>= λ close. Ok (of_tuple (plus_tests (start (of a)) es), close.1)) (s_op 33 q rest) ∙
      ap (λ v. Ok (v, rest)) (as_tuple a es)))))

  complete_after : {x : Marks} {es : List Expr} {ts : List Token} → Commas x es ts → (g d : ℕ) (rest : List Token) →
      length ts ≤ g → height (e.Tuple es) ≤ d → stops 15 (first rest) ≡ true →
      Reaches x ((reads g d).read 14 (ts ++ rest) >>= λ a. after_at (reads g (d - 1)) g d a.0 a.1) (of (e.Tuple es))
      rest
  complete_after (G.lone p {x = x} {a = a} {ts = ts} r) g d rest b h s =
      let len = length-append ts (at c.comma p ∷ []) in let up = hh.height_tuple (a ∷ []) in
      at_same x _ _ _ rest (ap (λ w. (reads g d).read 14 w >>= λ a. after_at (reads g (d - 1)) g d a.0 a.1)
      (append_assoc ts (at c.comma p ∷ []) rest))
      (then_reads x _ (λ a. after_at (reads g (d - 1)) g d a.0 a.1) (of a) (at c.comma p ∷ rest) _ rest
      (complete r g d _ (omega arith) (omega arith) refl)
      (inl (s_after (reads g (d - 1)) g d (of a) p rest (omega arith)
      ∙ ap (λ r. r >>= λ es. Ok (of_tuple (es.0).0, es.1))
      (tests_trailing ((reads g (d - 1)).read 14) g (start (of a)) p rest (omega arith) (no_test (first rest) s))
      ∙ ap (λ v. Ok (v, rest)) (ap of_tuple (sym (tests_nil (start (of a)))) ∙ as_tuple a []))))
  complete_after (G.several p {x = x} {a = a} {es = es} {b = t} {ts = ts} {us = us} r m) g d rest b h s =
      let len = length-append ts (at c.comma p ∷ us) in let up = hh.height_tuple (a ∷ es) in
      at_same x _ _ _ rest (ap (λ w. (reads g d).read 14 w >>= λ a. after_at (reads g (d - 1)) g d a.0 a.1)
      (append_assoc ts (at c.comma p ∷ us) rest))
      (then_reads x _ (λ a. after_at (reads g (d - 1)) g d a.0 a.1) (of a) (at c.comma p ∷ us ++ rest) _ rest
      (complete r g d _ (omega arith) (omega arith) refl)
      (at_same x _ _ _ rest (s_after (reads g (d - 1)) g d (of a) p (us ++ rest) (omega arith))
      (then_reads x _ (λ es. Ok (of_tuple (es.0).0, es.1)) (plus_tests (start (of a)) es, t) rest _ rest
      (complete_tests m g (d - 1) g (start (of a)) p rest (omega arith) (omega arith) (omega arith) s)
      (inl (ap (λ v. Ok (v, rest)) (as_tuple a es))))))

  -- further tests, after the comma before them
  pub complete_tests : {x : Marks} {es : List Expr} {t : Bool} {ts : List Token} → Tests x es t ts →
      (g d f : ℕ) (found : Tall (List Expr)) (q : Place) (rest : List Token) → length ts ≤ g → length ts ≤ f →
      tops es ≤ d → stops 15 (first rest) ≡ true →
      Reaches x (tests_at ((reads g d).read 14) f found (at c.comma q ∷ ts ++ rest)) (plus_tests found es, t) rest
  complete_tests (G.only r) g d zero found q rest b l h s = absurd (omega (arith, long (headed r)))
  complete_tests (G.only {x = x} {a = a} {ts = ts} r) g d (suc f) found q rest b l h s =
      at_same x _ _ _ rest (s_tests ((reads g d).read 14) f found q (ts ++ rest) (begin (headed r) rest))
      (then_reads x _ (λ a. tests_at ((reads g d).read 14) f (push found a.0) a.1) (of a) rest _ rest
      (complete r g d rest b (omega arith) (stops_down 14 (first rest) s))
      (inl (s_tests_end ((reads g d).read 14) f (push found (of a)) rest (no_comma (first rest) s) ∙
      ap (λ v. Ok ((v, false), rest)) (sym (tests_nil (push found (of a))) ∙ push_tests found a []))))
  complete_tests (G.only_comma p {ts = ts} r) g d zero found q rest b l h s =
      absurd (omega (arith, long (headed r), length-append ts (at c.comma p ∷ [])))
  complete_tests (G.only_comma p {x = x} {a = a} {ts = ts} r) g d (suc f) found q rest b l h s =
      let len = length-append ts (at c.comma p ∷ []) in let pos = long (headed r) in
      at_same x _ _ _ rest (ap (λ w. tests_at ((reads g d).read 14) (suc f) found (at c.comma q ∷ w))
      (append_assoc ts (at c.comma p ∷ []) rest) ∙
      s_tests ((reads g d).read 14) f found q (ts ++ at c.comma p ∷ rest) (begin (headed r) _))
      (then_reads x _ (λ a. tests_at ((reads g d).read 14) f (push found a.0) a.1) (of a) (at c.comma p ∷ rest) _ rest
      (complete r g d _ (omega arith) (omega arith) refl)
      (inl (tests_trailing ((reads g d).read 14) f (push found (of a)) p rest (omega arith) (no_test (first rest) s) ∙
      ap (λ v. Ok ((v, true), rest)) (sym (tests_nil (push found (of a))) ∙ push_tests found a []))))
  complete_tests (G.more_tests p {ts = ts} {us = us} r m) g d zero found q rest b l h s =
      absurd (omega (arith, long (headed r), length-append ts (at c.comma p ∷ us)))
  complete_tests (G.more_tests p {x = x} {a = a} {es = es} {b = t} {ts = ts} {us = us} r m) g d (suc f) found q rest b
      l h s =
      let len = length-append ts (at c.comma p ∷ us) in let pos = long (headed r) in
      at_same x _ _ _ rest (ap (λ w. tests_at ((reads g d).read 14) (suc f) found (at c.comma q ∷ w))
      (append_assoc ts (at c.comma p ∷ us) rest) ∙
      s_tests ((reads g d).read 14) f found q (ts ++ (at c.comma p ∷ us ++ rest)) (begin (headed r) _))
      (then_reads x _ (λ a. tests_at ((reads g d).read 14) f (push found a.0) a.1) (of a) (at c.comma p ∷ us ++ rest) _
      rest (complete r g d _ (omega arith) (omega arith) refl)
      (as_value x _ _ _ rest (ap (λ v. (v, t)) (push_tests found a es))
      (complete_tests m g d f (push found (of a)) p rest (omega arith) (omega arith) (omega arith) s)))

  pub complete_links : {x : Marks} {l : Level} {ls : List Link} {us : List Token} → Links x l ls us →
      (g d f : ℕ) (found : Tall (List Link)) (rest : List Token) → length us ≤ g → length us ≤ f → tops_links ls ≤ d →
      stops (suc (below l)) (first rest) ≡ true →
      Reaches x (links_at l ((reads g d).read (below l)) f found (us ++ rest)) (plus_links found ls) rest
  complete_links (G.link l o p q m r) g d zero found rest b i h s = absurd (omega arith)
  complete_links (G.link l o p q {x = x} {a = a} {ts = ts} m r) g d (suc f) found rest b i h s =
      let len = length-append (spelled o p q) ts in
      at_same x _ _ _ rest (ap (links_at l ((reads g d).read (below l)) (suc f) found)
      (append_assoc (spelled o p q) ts rest) ∙ s_links l ((reads g d).read (below l)) f o p q found (ts ++ rest) m
      (begin (headed r) rest))
      (then_reads x _ (λ a. links_at l ((reads g d).read (below l)) f (push_link found o a.0) a.1) (of a) rest _ rest
      (complete r g d rest (omega arith) (omega arith) (stops_down (below l) (first rest) s))
      (inl (s_links_end l ((reads g d).read (below l)) f (push_link found o (of a)) rest
      (links_none l (first rest) (takes_not (below l) (first rest) s))
      ∙ ap (λ v. Ok (v, rest)) (sym (links_nil (push_link found o (of a)) refl) ∙ push_links found o a []))))
  complete_links (G.more_links l o p q m r w) g d zero found rest b i h s = absurd (omega arith)
  complete_links (G.more_links l o p q {x = x} {a = a} {ls = ls} {ts = ts} {us = us} m r w) g d (suc f) found rest b i
      h s =
      let len = length-append (spelled o p q ++ ts) us in let len' = length-append (spelled o p q) ts in
      at_same x _ _ _ rest (ap (links_at l ((reads g d).read (below l)) (suc f) found)
      (append_assoc (spelled o p q ++ ts) us rest ∙ append_assoc (spelled o p q) ts (us ++ rest)) ∙
      s_links l ((reads g d).read (below l)) f o p q found (ts ++ (us ++ rest)) m (begin (headed r) _))
      (then_reads x _ (λ a. links_at l ((reads g d).read (below l)) f (push_link found o a.0) a.1) (of a) (us ++ rest)
      _ rest (complete r g d _ (omega arith) (omega arith) (links_first w rest).1)
      (as_value x _ _ _ rest (push_links found o a ls)
      (complete_links w g d f (push_link found o (of a)) rest (omega arith) (omega arith) (omega arith) s)))

  -- after `[`
  complete_list : {x : Marks} {es : List Expr} {t : Bool} {ts : List Token} → Tests x es t ts →
      (g d : ℕ) (q : Place) (rest : List Token) → length ts ≤ g → tops es ≤ d →
      Reaches x ((reads g d).read 14 (ts ++ at c.close_square q ∷ rest) >>= list_close (reads g d) g) (of (e.List es))
      rest
  complete_list (G.only {x = x} {a = a} {ts = ts} r) g d q rest b h =
      then_reads x _ (list_close (reads g d) g) (of a) (at c.close_square q ∷ rest) _ rest
      (complete r g d _ b (omega arith) refl)
      (inl (ap (λ r. r >>= λ es. (op_at 35 es.1 >>= λ close. Ok (of_list (es.0).0, close.1)))
      (s_tests_end ((reads g d).read 14) g (start (of a)) (at c.close_square q ∷ rest) refl)
      ∙ ap (λ r. r >>= λ close. Ok (of_list (start (of a)), close.1)) (s_op 35 q rest) ∙
      ap (λ v. Ok (v, rest)) (ap of_list (sym (tests_nil (start (of a)))) ∙ as_list a [])))
  complete_list (G.only_comma p {x = x} {a = a} {ts = ts} r) g d q rest b h =
      let len = length-append ts (at c.comma p ∷ []) in
      at_same x _ _ _ rest (ap (λ w. (reads g d).read 14 w >>= list_close (reads g d) g)
      (append_assoc ts (at c.comma p ∷ []) (at c.close_square q ∷ rest)))
      (then_reads x _ (list_close (reads g d) g) (of a) (at c.comma p ∷ at c.close_square q ∷ rest) _ rest
      (complete r g d _ (omega arith) (omega arith) refl)
      (inl (ap (λ r. r >>= λ es. (op_at 35 es.1 >>= λ close. Ok (of_list (es.0).0, close.1)))
      (tests_trailing ((reads g d).read 14) g (start (of a)) p (at c.close_square q ∷ rest) (omega arith) refl)
      ∙ ap (λ r. r >>= λ close. Ok (of_list (start (of a)), close.1)) (s_op 35 q rest) ∙
      ap (λ v. Ok (v, rest)) (ap of_list (sym (tests_nil (start (of a)))) ∙ as_list a []))))
  complete_list (G.more_tests p {x = x} {a = a} {es = es} {b = t} {ts = ts} {us = us} r m) g d q rest b h =
      let len = length-append ts (at c.comma p ∷ us) in
      at_same x _ _ _ rest (ap (λ w. (reads g d).read 14 w >>= list_close (reads g d) g)
      (append_assoc ts (at c.comma p ∷ us) (at c.close_square q ∷ rest)))
      (then_reads x _ (list_close (reads g d) g) (of a) (at c.comma p ∷ us ++ at c.close_square q ∷ rest) _ rest
      (complete r g d _ (omega arith) (omega arith) refl)
      (then_reads x _ (λ es. op_at 35 es.1 >>= λ close. Ok (of_list (es.0).0, close.1))
      (plus_tests (start (of a)) es, t) (at c.close_square q ∷ rest) _ rest
      (complete_tests m g d g (start (of a)) p (at c.close_square q ∷ rest) (omega arith) (omega arith) (omega arith)
      refl)
      (inl (ap (λ r. r >>= λ close. Ok (of_list (plus_tests (start (of a)) es), close.1)) (s_op 35 q rest) ∙
      ap (λ v. Ok (v, rest)) (as_list a es)))))

  -- after `{`
  complete_dict : {x : Marks} {ps : List Pair} {ts : List Token} → Pairs x ps ts →
      (g d : ℕ) (q : Place) (rest : List Token) → length ts ≤ g → tops_pairs ps ≤ d →
      Reaches x ((reads g d).read 14 (ts ++ at c.close_brace q ∷ rest) >>= dict_value (reads g d) g) (of (e.Dict ps))
      rest
  complete_dict (G.pair p {x = x} {a = a} {b = b'} {ts = ts} {us = us} i j) g d q rest b h =
      let len = length-append ts (at c.colon p ∷ us) in
      at_same x _ _ _ rest (ap (λ w. (reads g d).read 14 w >>= dict_value (reads g d) g)
      (append_assoc ts (at c.colon p ∷ us) (at c.close_brace q ∷ rest)))
      (then_reads x _ (dict_value (reads g d) g) (of a) (at c.colon p ∷ us ++ at c.close_brace q ∷ rest) _ rest
      (complete i g d _ (omega arith) (omega arith) refl)
      (then_reads x _ (dict_close (reads g d) g (of a)) (of b') (at c.close_brace q ∷ rest) _ rest
      (complete j g d _ (omega arith) (omega arith) refl)
      (inl (ap (λ r. r >>= λ ps. (op_at 37 ps.1 >>= λ close. Ok (of_dict ps.0, close.1)))
      (s_pairs_end ((reads g d).read 14) g (push_pair (plain [] 0) (of a) (of b')) (at c.close_brace q ∷ rest) refl)
      ∙ ap (λ r. r >>= λ close. Ok (of_dict (push_pair (plain [] 0) (of a) (of b')), close.1)) (s_op 37 q rest) ∙
      ap (λ v. Ok (v, rest)) (dict_one a b')))))
  complete_dict (G.pair_comma p p' {x = x} {a = a} {b = b'} {ts = ts} {us = us} i j) g d q rest b h =
      let len = length-append (ts ++ at c.colon p ∷ us) (at c.comma p' ∷ []) in let len' =
      length-append ts (at c.colon p ∷ us) in
      at_same x _ _ _ rest (ap (λ w. (reads g d).read 14 w >>= dict_value (reads g d) g)
      (append_assoc (ts ++ at c.colon p ∷ us) (at c.comma p' ∷ []) (at c.close_brace q ∷ rest) ∙
      append_assoc ts (at c.colon p ∷ us) (at c.comma p' ∷ at c.close_brace q ∷ rest)))
      (then_reads x _ (dict_value (reads g d) g) (of a)
      (at c.colon p ∷ us ++ at c.comma p' ∷ at c.close_brace q ∷ rest) _ rest
      (complete i g d _ (omega arith) (omega arith) refl)
      (then_reads x _ (dict_close (reads g d) g (of a)) (of b') (at c.comma p' ∷ at c.close_brace q ∷ rest) _ rest
      (complete j g d _ (omega arith) (omega arith) refl)
      (inl (ap (λ r. r >>= λ ps. (op_at 37 ps.1 >>= λ close. Ok (of_dict ps.0, close.1)))
      (pairs_trailing ((reads g d).read 14) g (push_pair (plain [] 0) (of a) (of b')) p'
      (at c.close_brace q ∷ rest) (omega arith) refl)
      ∙ ap (λ r. r >>= λ close. Ok (of_dict (push_pair (plain [] 0) (of a) (of b')), close.1)) (s_op 37 q rest) ∙
      ap (λ v. Ok (v, rest)) (dict_one a b')))))
  complete_dict (G.more_pairs p p' {x = x} {a = a} {b = b'} {ps = ps} {ts = ts} {us = us} {vs = vs} i j m) g d q rest b
      h =
      let len = length-append (ts ++ at c.colon p ∷ us) (at c.comma p' ∷ vs) in let len' =
      length-append ts (at c.colon p ∷ us) in
      at_same x _ _ _ rest (ap (λ w. (reads g d).read 14 w >>= dict_value (reads g d) g)
      (append_assoc (ts ++ at c.colon p ∷ us) (at c.comma p' ∷ vs) (at c.close_brace q ∷ rest) ∙
      append_assoc ts (at c.colon p ∷ us) (at c.comma p' ∷ vs ++ at c.close_brace q ∷ rest)))
      (then_reads x _ (dict_value (reads g d) g) (of a)
      (at c.colon p ∷ us ++ (at c.comma p' ∷ vs ++ at c.close_brace q ∷ rest)) _ rest
      (complete i g d _ (omega arith) (omega arith) refl)
      (then_reads x _ (dict_close (reads g d) g (of a)) (of b') (at c.comma p' ∷ vs ++ at c.close_brace q ∷ rest) _
      rest (complete j g d _ (omega arith) (omega arith) refl)
      (then_reads x _ (λ ps. op_at 37 ps.1 >>= λ close. Ok (of_dict ps.0, close.1))
      (plus_pairs (push_pair (plain [] 0) (of a) (of b')) ps) (at c.close_brace q ∷ rest) _ rest
      (complete_pairs m g d g (push_pair (plain [] 0) (of a) (of b')) p' (at c.close_brace q ∷ rest) (omega arith)
      (omega arith) (omega arith) refl)
      (inl (ap (λ r. r >>= λ close. Ok (of_dict (plus_pairs (push_pair (plain [] 0) (of a) (of b')) ps), close.1))
      (s_op 37 q rest) ∙ ap (λ v. Ok (v, rest)) (ap of_dict (push_pairs (plain [] 0) a b' ps) ∙
      as_dict (record { key = a; value = b' } ∷ ps)))))))

  complete_pairs : {x : Marks} {ps : List Pair} {ts : List Token} → Pairs x ps ts →
      (g d f : ℕ) (found : Tall (List Pair)) (q : Place) (rest : List Token) → length ts ≤ g → length ts ≤ f →
      tops_pairs ps ≤ d → stops 15 (first rest) ≡ true →
      Reaches x (pairs_at ((reads g d).read 14) f found (at c.comma q ∷ ts ++ rest)) (plus_pairs found ps) rest
  complete_pairs (G.pair p {ts = ts} {us = us} i j) g d zero found q rest b l h s =
      absurd (omega (arith, length-append ts (at c.colon p ∷ us)))
  complete_pairs (G.pair p {x = x} {a = a} {b = b'} {ts = ts} {us = us} i j) g d (suc f) found q rest b l h s =
      let len = length-append ts (at c.colon p ∷ us) in
      at_same x _ _ _ rest (ap (λ w. pairs_at ((reads g d).read 14) (suc f) found (at c.comma q ∷ w))
      (append_assoc ts (at c.colon p ∷ us) rest) ∙
      s_pairs ((reads g d).read 14) f found q (ts ++ (at c.colon p ∷ us ++ rest)) (begin (headed i) _))
      (then_reads x _ (pair_more ((reads g d).read 14) f found) (of a) (at c.colon p ∷ us ++ rest) _ rest
      (complete i g d _ (omega arith) (omega arith) refl)
      (at_same x _ _ _ rest (ap (λ r. r >>= pair_value ((reads g d).read 14) f found (of a)) (s_op 39 p (us ++ rest)))
      (then_reads x _ (λ b. pairs_at ((reads g d).read 14) f (push_pair found (of a) b.0) b.1) (of b') rest _ rest
      (complete j g d rest (omega arith) (omega arith) (stops_down 14 (first rest) s))
      (inl (s_pairs_end ((reads g d).read 14) f (push_pair found (of a) (of b')) rest (no_comma (first rest) s) ∙
      ap (λ v. Ok (v, rest)) (pairs_one found a b'))))))
  complete_pairs (G.pair_comma p p' {ts = ts} {us = us} i j) g d zero found q rest b l h s =
      absurd (omega (arith, length-append (ts ++ at c.colon p ∷ us) (at c.comma p' ∷ [])))
  complete_pairs (G.pair_comma p p' {x = x} {a = a} {b = b'} {ts = ts} {us = us} i j) g d (suc f) found q rest b l h s =
      let len = length-append (ts ++ at c.colon p ∷ us) (at c.comma p' ∷ []) in let len' =
      length-append ts (at c.colon p ∷ us) in
      at_same x _ _ _ rest (ap (λ w. pairs_at ((reads g d).read 14) (suc f) found (at c.comma q ∷ w))
      (append_assoc (ts ++ at c.colon p ∷ us) (at c.comma p' ∷ []) rest ∙
      append_assoc ts (at c.colon p ∷ us) (at c.comma p' ∷ rest)) ∙
      s_pairs ((reads g d).read 14) f found q (ts ++ (at c.colon p ∷ us ++ at c.comma p' ∷ rest))
      (begin (headed i) _))
      (then_reads x _ (pair_more ((reads g d).read 14) f found) (of a) (at c.colon p ∷ us ++ at c.comma p' ∷ rest) _
      rest (complete i g d _ (omega arith) (omega arith) refl)
      (at_same x _ _ _ rest (ap (λ r. r >>= pair_value ((reads g d).read 14) f found (of a))
      (s_op 39 p (us ++ at c.comma p' ∷ rest)))
      (then_reads x _ (λ b. pairs_at ((reads g d).read 14) f (push_pair found (of a) b.0) b.1) (of b')
      (at c.comma p' ∷ rest) _ rest (complete j g d _ (omega arith) (omega arith) refl)
      (inl (pairs_trailing ((reads g d).read 14) f (push_pair found (of a) (of b')) p' rest
      (omega (arith, long (headed i))) (no_test (first rest) s) ∙ ap (λ v. Ok (v, rest)) (pairs_one found a b'))))))
  complete_pairs (G.more_pairs p p' {ts = ts} {us = us} {vs = vs} i j m) g d zero found q rest b l h s =
      absurd (omega (arith, length-append (ts ++ at c.colon p ∷ us) (at c.comma p' ∷ vs)))
  complete_pairs (G.more_pairs p p' {x = x} {a = a} {b = b'} {ps = ps} {ts = ts} {us = us} {vs = vs} i j m) g d (suc f)
      found q rest b l h s =
      let len = length-append (ts ++ at c.colon p ∷ us) (at c.comma p' ∷ vs) in let len' =
      length-append ts (at c.colon p ∷ us) in
      at_same x _ _ _ rest (ap (λ w. pairs_at ((reads g d).read 14) (suc f) found (at c.comma q ∷ w))
      (append_assoc (ts ++ at c.colon p ∷ us) (at c.comma p' ∷ vs) rest ∙
      append_assoc ts (at c.colon p ∷ us) (at c.comma p' ∷ vs ++ rest)) ∙
      s_pairs ((reads g d).read 14) f found q (ts ++ (at c.colon p ∷ us ++ (at c.comma p' ∷ vs ++ rest)))
      (begin (headed i) _))
      (then_reads x _ (pair_more ((reads g d).read 14) f found) (of a)
      (at c.colon p ∷ us ++ (at c.comma p' ∷ vs ++ rest)) _ rest (complete i g d _ (omega arith) (omega arith) refl)
      (at_same x _ _ _ rest (ap (λ r. r >>= pair_value ((reads g d).read 14) f found (of a))
      (s_op 39 p (us ++ (at c.comma p' ∷ vs ++ rest))))
      (then_reads x _ (λ b. pairs_at ((reads g d).read 14) f (push_pair found (of a) b.0) b.1) (of b')
      (at c.comma p' ∷ vs ++ rest) _ rest (complete j g d _ (omega arith) (omega arith) refl)
      (as_value x _ _ _ rest (push_pairs found a b' ps)
      (complete_pairs m g d f (push_pair found (of a) (of b')) p' rest (omega arith) (omega arith) (omega arith)
      s)))))

  pub complete_trailers : {x : Marks} {rs : List Trailer} {us : List Token} → Trailers x rs us →
      (g d f : ℕ) (found : Tall (List Trailer)) (rest : List Token) → length us ≤ g → length us ≤ f →
      tops_trailers rs ≤ d → trails (first rest) ≡ false → Reaches x (trailers_at (reads g d) g f found (us ++ rest))
      (plus_trailers found rs) rest
  complete_trailers (G.last r) g d zero found rest b i h s = absurd (omega (arith, trail_long r))
  complete_trailers (G.last {x = x} {r = w} {ts = ts} r) g d (suc f) found rest b i h s =
      at_same x _ _ _ rest (s_trailers (reads g d) g f found (ts ++ rest) (trail_first r rest).0)
      (then_reads x _ (λ r. trailers_at (reads g d) g f (push_trailer found r.0) r.1) (of_r w) rest _ rest
      (complete_trail r g d rest b (omega arith))
      (inl (s_trailers_end (reads g d) g f (push_trailer found (of_r w)) rest s ∙
      ap (λ v. Ok (v, rest)) (sym (trailers_nil (push_trailer found (of_r w))) ∙ push_trailers found w []))))
  complete_trailers (G.more_trailers {ts = ts} {us = us} r q) g d zero found rest b i h s =
      absurd (omega (arith, trail_long r, length-append ts us))
  complete_trailers (G.more_trailers {x = x} {r = w} {rs = rs} {ts = ts} {us = us} r q) g d (suc f) found rest b i h s =
      let len = length-append ts us in let pos = trail_long r in
      at_same x _ _ _ rest (ap (trailers_at (reads g d) g (suc f) found) (append_assoc ts us rest) ∙
      s_trailers (reads g d) g f found (ts ++ (us ++ rest)) (trail_first r (us ++ rest)).0)
      (then_reads x _ (λ r. trailers_at (reads g d) g f (push_trailer found r.0) r.1) (of_r w) (us ++ rest) _ rest
      (complete_trail r g d (us ++ rest) (omega arith) (omega arith))
      (as_value x _ _ _ rest (push_trailers found w rs)
      (complete_trailers q g d f (push_trailer found (of_r w)) rest (omega arith) (omega arith) (omega arith) s)))

  complete_trail : {x : Marks} {r : Trailer} {us : List Token} → Trails x r us → (g d : ℕ) (rest : List Token) →
      length us ≤ g → height_trailer r ≤ d → Reaches x (trailer_at (reads g d) g (us ++ rest)) (of_r r) rest
  complete_trail (G.attribute x n p q) g d rest b h =
      inl (s_attribute (reads g d) g n p q rest ∙ ap (λ v. Ok (v, rest)) (as_attribute n))
  complete_trail (G.index p q {x = x} {a = a} {ts = ts} r) g d rest b h =
      at_same x _ _ _ rest (s_subscript (reads g d) g p _ ∙
      ap (subscript_at (reads g d)) (append_assoc ts (at c.close_square q ∷ []) rest) ∙
      s_first (reads g d) (ts ++ at c.close_square q ∷ rest) (index_first r _))
      (complete_index r g d q rest (omega (arith, length-append ts (at c.close_square q ∷ [])))
      (omega (arith, hh.height_index a)))
  complete_trail (G.slice p q r {x = x} {a = a} {b = b'} {ts = ts} {us = us} i j) g d rest b h =
      let len = length-append (ts ++ at c.colon q ∷ us) (at c.close_square r ∷ []) in let len' =
      length-append ts (at c.colon q ∷ us) in let up = hh.height_slice a b' in
      at_same x _ _ _ rest (s_subscript (reads g d) g p _ ∙
      ap (subscript_at (reads g d)) (append_assoc (ts ++ at c.colon q ∷ us) (at c.close_square r ∷ []) rest ∙
      append_assoc ts (at c.colon q ∷ us) (at c.close_square r ∷ rest)))
      (bound i g d q (us ++ at c.close_square r ∷ rest) (of_r (t.Slice a b')) rest (omega arith) (omega arith)
      (upper j g d (of_or a) (at c.close_square r ∷ rest) (of_r (t.Slice a b')) rest (omega arith) (omega arith) refl
      refl
      (inl (ap (λ r. r >>= λ close. Ok (of_slice (of_or a) (of_or b'), close.1)) (s_op 35 r rest) ∙
      ap (λ v. Ok (v, rest)) (as_slice a b')))))
  complete_trail (G.no_call x p q) g d rest b h =
      inl (s_no_call (reads g d) g p q rest ∙ ap (λ v. Ok (v, rest)) (as_call [] []))
  complete_trail (G.call p q {x = x} {es = es} {ns = ns} {ts = ts} r) g d rest b h =
      let len = length-append ts (at c.close_round q ∷ []) in let up = hh.height_call es ns in
      at_same x _ _ _ rest (ap (λ w. trailer_at (reads g d) g (at c.open_round p ∷ w))
      (append_assoc ts (at c.close_round q ∷ []) rest) ∙ s_call (reads g d) g p (ts ++ at c.close_round q ∷ rest)
      (args_first r _))
      (then_reads x _ (λ x. op_at 33 x.1 >>= λ close. Ok (x.0, close.1))
      (of_call (plus_tests none es) (plus_named (plain [] 0) ns)) (at c.close_round q ∷ rest) _ rest
      (complete_args r g d g none q rest (omega arith) (omega arith) (omega arith) (omega arith))
      (inl (ap (λ r. r >>= λ close. Ok (of_call (plus_tests none es) (plus_named (plain [] 0) ns), close.1))
      (s_op 33 q rest) ∙ ap (λ v. Ok (v, rest)) (as_call es ns))))
  complete_trail (G.generator_call p q {a = a} {ts = ts} r) g d rest b h =
      let len = length-append ts (at c.for_ q ∷ []) in let up = hh.height_call (a ∷ []) [] in
      at_same (Some left.Comprehension) _ _ _ rest
      (ap (λ w. trailer_at (reads g d) g (at c.open_round p ∷ w)) (append_assoc ts (at c.for_ q ∷ []) rest) ∙
      s_call (reads g d) g p (ts ++ at c.for_ q ∷ rest) (begin_op 33 refl (headed r) _) ∙
      ap (λ r. r >>= λ x. (op_at 33 x.1 >>= λ close. Ok (x.0, close.1)))
      (args_go ((reads g d).read 14) g none (ts ++ at c.for_ q ∷ rest) (omega arith) (begin (headed r) _)))
      (two_reads (Some left.Comprehension) ((reads g d).read 14 (ts ++ at c.for_ q ∷ rest))
      (λ a. arg_by ((reads g d).read 14) (g - 1) (args_at ((reads g d).read 14) (g - 1)) none a
      (keyed a.0.form (first (ts ++ at c.for_ q ∷ rest)) (first a.1)))
      (λ x. op_at 33 x.1 >>= λ close. Ok (x.0, close.1)) (of a) (at c.for_ q ∷ rest) (of_r (t.Call (a ∷ []) []))
      rest left.Comprehension (at c.for_ q ∷ rest) refl
      (complete r g d _ (omega arith) (omega arith) refl)
      (ap (λ o. arg_by ((reads g d).read 14) (g - 1) (args_at ((reads g d).read 14) (g - 1)) none
      (of a, at c.for_ q ∷ rest) o) (keyed_no (form a) _ c.for_ refl)))
  complete_trail (G.long_slice p q r {a = a} {b = b'} {ts = ts} {us = us} i j) g d rest b h =
      let len = length-append (ts ++ at c.colon q ∷ us) (at c.colon r ∷ []) in let len' =
      length-append ts (at c.colon q ∷ us) in let up = hh.height_slice a b' in
      at_same (Some left.SliceForm) _ _ _ rest
      (s_subscript (reads g d) g p _ ∙
      ap (subscript_at (reads g d)) (append_assoc (ts ++ at c.colon q ∷ us) (at c.colon r ∷ []) rest ∙
      append_assoc ts (at c.colon q ∷ us) (at c.colon r ∷ rest)))
      (bound i g d q (us ++ at c.colon r ∷ rest) (of_r (t.Slice a b')) rest (omega arith) (omega arith)
      (upper j g d (of_or a) (at c.colon r ∷ rest) (of_r (t.Slice a b')) rest (omega arith) (omega arith) refl refl
      (inr (left.SliceForm, _, refl, refl))))
  complete_trail (G.slices p q r {a = a} {b = b'} {ts = ts} {us = us} i j) g d rest b h =
      let len = length-append (ts ++ at c.colon q ∷ us) (at c.comma r ∷ []) in let len' =
      length-append ts (at c.colon q ∷ us) in let up = hh.height_slice a b' in
      at_same (Some left.SliceForm) _ _ _ rest
      (s_subscript (reads g d) g p _ ∙
      ap (subscript_at (reads g d)) (append_assoc (ts ++ at c.colon q ∷ us) (at c.comma r ∷ []) rest ∙
      append_assoc ts (at c.colon q ∷ us) (at c.comma r ∷ rest)))
      (bound i g d q (us ++ at c.comma r ∷ rest) (of_r (t.Slice a b')) rest (omega arith) (omega arith)
      (upper j g d (of_or a) (at c.comma r ∷ rest) (of_r (t.Slice a b')) rest (omega arith) (omega arith) refl refl
      (inr (left.SliceForm, _, refl, refl))))

  -- before the colon of a slice
  bound : {x : Marks} {a : Option Expr} {ts : List Token} → Maybe x a ts →
      (g d : ℕ) (q : Place) (us : List Token) (v : Tall Trailer) (vs : List Token) → length ts ≤ g → top_or a ≤ d →
      Reaches x (slice_at (reads g d) (of_or a) us) v vs →
      Reaches x (subscript_at (reads g d) (ts ++ at c.colon q ∷ us)) v vs
  bound (G.nothing x) g d q us v vs b h r = at_same x _ _ v vs (s_colon (reads g d) q us) r
  bound (G.just {x = x} {a = a} {ts = ts} p) g d q us v vs b h r =
      at_same x _ _ v vs (s_first (reads g d) (ts ++ at c.colon q ∷ us) (begin_op 39 refl (headed p) _))
      (then_reads x _ (index_close (reads g d)) (of a) (at c.colon q ∷ us) v vs (complete p g d _ b h refl) r)

  -- after the colon of a slice
  upper : {x : Marks} {b : Option Expr} {us : List Token} → Maybe x b us →
      (g d : ℕ) (a : Option (Tall Expr)) (ws : List Token) (v : Tall Trailer) (vs : List Token) → length us ≤ g →
      top_or b ≤ d → comes 14 (first ws) ≡ false → stops 14 (first ws) ≡ true →
      Reaches x (slice_close a (of_or b) ws) v vs → Reaches x (slice_at (reads g d) a (us ++ ws)) v vs
  upper (G.nothing x) g d a ws v vs b h k s r = at_same x _ _ v vs (s_no_upper (reads g d) a ws k) r
  upper (G.just {x = x} {a = a'} {ts = ts} p) g d a ws v vs b h k s r =
      at_same x _ _ v vs (s_upper (reads g d) a (ts ++ ws) (begin (headed p) ws))
      (then_reads x _ (λ b. slice_close a (Some b.0) b.1) (of a') ws v vs (complete p g d ws b h s) r)

  complete_index : {x : Marks} {a : Expr} {ts : List Token} → Exprs x a ts → (g d : ℕ) (q : Place) (rest : List Token)
      → length ts ≤ g → height a ≤ d → Reaches x
      ((reads g d).read 14 (ts ++ at c.close_square q ∷ rest) >>= index_close (reads g d)) (of_r (t.Index a)) rest
  complete_index (G.single {x = x} {a = a} p) g d q rest b h =
      then_reads x _ (index_close (reads g d)) (of a) (at c.close_square q ∷ rest) _ rest (complete p g d _ b h refl)
      (inl (ap (λ r. r >>= λ b. (op_at 35 b.1 >>= λ close. Ok (of_index b.0, close.1)))
      (reads_after g d (of a) (at c.close_square q ∷ rest) (omega (arith, hh.height_pos a)) ∙
      after_quiet (reads g (d - 1)) g d (of a) (at c.close_square q ∷ rest) refl)
      ∙ ap (λ r. r >>= λ close. Ok (of_index (of a), close.1)) (s_op 35 q rest) ∙ ap (λ v. Ok (v, rest)) (as_index a)))
  complete_index (G.tuple (G.lone p {x = x} {a = a} {ts = ts} r)) g d q rest b h =
      let len = length-append ts (at c.comma p ∷ []) in let up = hh.height_tuple (a ∷ []) in
      at_same x _ _ _ rest (ap (λ w. (reads g d).read 14 w >>= index_close (reads g d))
      (append_assoc ts (at c.comma p ∷ []) (at c.close_square q ∷ rest)))
      (then_reads x _ (index_close (reads g d)) (of a) (at c.comma p ∷ at c.close_square q ∷ rest) _ rest
      (complete r g d _ (omega arith) (omega arith) refl)
      (inl (ap (λ r. r >>= λ b. (op_at 35 b.1 >>= λ close. Ok (of_index b.0, close.1)))
      (reads_after g d (of a) (at c.comma p ∷ at c.close_square q ∷ rest) (omega arith) ∙
      s_after (reads g (d - 1)) g d (of a) p (at c.close_square q ∷ rest) (omega arith)
      ∙ ap (λ r. r >>= λ es. Ok (of_tuple (es.0).0, es.1))
      (tests_trailing ((reads g (d - 1)).read 14) g (start (of a)) p (at c.close_square q ∷ rest) (omega arith)
      refl)
      ∙ ap (λ v. Ok (v, at c.close_square q ∷ rest)) (ap of_tuple (sym (tests_nil (start (of a)))) ∙ as_tuple a []))
      ∙ ap (λ r. r >>= λ close. Ok (of_index (of (e.Tuple (a ∷ []))), close.1)) (s_op 35 q rest) ∙
      ap (λ v. Ok (v, rest)) (as_index (e.Tuple (a ∷ []))))))
  complete_index (G.tuple (G.several p {x = x} {a = a} {es = es} {b = t'} {ts = ts} {us = us} r m)) g d q rest b h =
      let len = length-append ts (at c.comma p ∷ us) in let up = hh.height_tuple (a ∷ es) in
      at_same x _ _ _ rest (ap (λ w. (reads g d).read 14 w >>= index_close (reads g d))
      (append_assoc ts (at c.comma p ∷ us) (at c.close_square q ∷ rest)))
      (then_reads x _ (index_close (reads g d)) (of a) (at c.comma p ∷ us ++ at c.close_square q ∷ rest) _ rest
      (complete r g d _ (omega arith) (omega arith) refl)
      (then_reads x _ (λ b. op_at 35 b.1 >>= λ close. Ok (of_index b.0, close.1)) (of (e.Tuple (a ∷ es)))
      (at c.close_square q ∷ rest) _ rest
      (at_same x _ _ _ (at c.close_square q ∷ rest) (reads_after g d (of a) _ (omega arith) ∙
      s_after (reads g (d - 1)) g d (of a) p (us ++ at c.close_square q ∷ rest) (omega arith))
      (then_reads x _ (λ es. Ok (of_tuple (es.0).0, es.1)) (plus_tests (start (of a)) es, t')
      (at c.close_square q ∷ rest) _ (at c.close_square q ∷ rest)
      (complete_tests m g (d - 1) g (start (of a)) p (at c.close_square q ∷ rest) (omega arith) (omega arith)
      (omega arith) refl)
      (inl (ap (λ v. Ok (v, at c.close_square q ∷ rest)) (as_tuple a es)))))
      (inl (ap (λ r. r >>= λ close. Ok (of_index (of (e.Tuple (a ∷ es))), close.1)) (s_op 35 q rest) ∙
      ap (λ v. Ok (v, rest)) (as_index (e.Tuple (a ∷ es)))))))

  complete_args : {x : Marks} {es : List Expr} {ns : List Named} {ts : List Token} → Args x es ns ts →
      (g d f : ℕ) (found : Tall (List Expr)) (q : Place) (rest : List Token) → length ts ≤ g → length ts ≤ f →
      tops es ≤ d → tops_named ns ≤ d → Reaches x
      (args_at ((reads g d).read 14) f found (ts ++ at c.close_round q ∷ rest))
      (of_call (plus_tests found es) (plus_named (plain [] 0) ns)) (at c.close_round q ∷ rest)
  complete_args (G.arg {x = x} {a = a} {ts = ts} r) g d f found q rest b l h h2 =
      let pos = long (headed r) in
      at_same x _ _ _ _ (args_go ((reads g d).read 14) f found (ts ++ at c.close_round q ∷ rest) (omega arith)
      (begin (headed r) _))
      (then_reads x _ (arg_next ((reads g d).read 14) (f - 1) found (ts ++ at c.close_round q ∷ rest)) (of a)
      (at c.close_round q ∷ rest) _ _ (complete r g d _ b (omega arith) refl)
      (inl (arg_end ((reads g d).read 14) (f - 1) found (ts ++ at c.close_round q ∷ rest) a q rest ∙
      ap (λ v. Ok (of_call v (plain [] 0), at c.close_round q ∷ rest)) (tests_one found a))))
  complete_args (G.arg_comma p {x = x} {a = a} {ts = ts} r) g d f found q rest b l h h2 =
      let pos = long (headed r) in let len = length-append ts (at c.comma p ∷ []) in
      at_same x _ _ _ _ (ap (args_at ((reads g d).read 14) f found)
      (append_assoc ts (at c.comma p ∷ []) (at c.close_round q ∷ rest)) ∙
      args_go ((reads g d).read 14) f found (ts ++ at c.comma p ∷ at c.close_round q ∷ rest) (omega arith)
      (begin (headed r) _))
      (then_reads x _ (arg_next ((reads g d).read 14) (f - 1) found (ts ++ at c.comma p ∷ at c.close_round q ∷ rest))
      (of a) (at c.comma p ∷ at c.close_round q ∷ rest) _ _ (complete r g d _ (omega arith) (omega arith) refl)
      (inl (arg_comma ((reads g d).read 14) (f - 1) found (ts ++ at c.comma p ∷ at c.close_round q ∷ rest) a p q rest ∙
      ap (λ v. Ok (of_call v (plain [] 0), at c.close_round q ∷ rest)) (tests_one found a))))
  complete_args (G.more_args p {x = x} {a = a} {es = es} {ns = ns} {ts = ts} {us = us} r w) g d f found q rest b l h
      h2 =
      let pos = long (headed r) in let len = length-append ts (at c.comma p ∷ us) in
      at_same x _ _ _ _ (ap (args_at ((reads g d).read 14) f found)
      (append_assoc ts (at c.comma p ∷ us) (at c.close_round q ∷ rest)) ∙
      args_go ((reads g d).read 14) f found (ts ++ (at c.comma p ∷ us ++ at c.close_round q ∷ rest)) (omega arith)
      (begin (headed r) _))
      (then_reads x _ (arg_next ((reads g d).read 14) (f - 1) found
      (ts ++ (at c.comma p ∷ us ++ at c.close_round q ∷ rest))) (of a)
      (at c.comma p ∷ us ++ at c.close_round q ∷ rest) _ _ (complete r g d _ (omega arith) (omega arith) refl)
      (at_same x _ _ _ _ (arg_more ((reads g d).read 14) (f - 1) found
      (ts ++ (at c.comma p ∷ us ++ at c.close_round q ∷ rest)) a p (us ++ at c.close_round q ∷ rest)
      (args_first w _))
      (as_value x _ _ _ _ (ap (λ v. of_call v (plus_named (plain [] 0) ns)) (push_tests found a es))
      (complete_args w g d (f - 1) (push found (of a)) q rest (omega arith) (omega arith) (omega arith) h2))))
  complete_args (G.named n p i {x = x} {a = a} {ts = ts} r) g d f found q rest b l h h2 =
      let low = hh.height_pos a in
      at_same x _ _ _ _ (args_go ((reads g d).read 14) f found
      (at (k.Name n) p ∷ at c.assign i ∷ ts ++ at c.close_round q ∷ rest) (omega arith) refl)
      (then_reads x _ (arg_next ((reads g d).read 14) (f - 1) found
      (at (k.Name n) p ∷ at c.assign i ∷ ts ++ at c.close_round q ∷ rest)) (of_name n)
      (at c.assign i ∷ ts ++ at c.close_round q ∷ rest) _ _
      (inl (name_14 g d n p (at c.assign i ∷ ts ++ at c.close_round q ∷ rest) (omega arith) refl))
      (then_reads x _ (named_next ((reads g d).read 14) (f - 1) found n) (of a) (at c.close_round q ∷ rest) _ _
      (complete r g d _ (omega arith) (omega arith) refl)
      (inl (ap (λ r. r >>= λ ns. Ok (of_call found ns.0, ns.1))
      (s_named_end ((reads g d).read 14) (f - 1) (push_named (plain [] 0) n (of a)) (at c.close_round q ∷ rest)
      refl) ∙ ap (λ v. Ok (v, at c.close_round q ∷ rest)) (call_one found n a)))))
  complete_args (G.named_comma n p i j {x = x} {a = a} {ts = ts} r) g d f found q rest b l h h2 =
      let low = hh.height_pos a in let len = length-append ts (at c.comma j ∷ []) in
      at_same x _ _ _ _ (ap (λ w. args_at ((reads g d).read 14) f found (at (k.Name n) p ∷ at c.assign i ∷ w))
      (append_assoc ts (at c.comma j ∷ []) (at c.close_round q ∷ rest)) ∙
      args_go ((reads g d).read 14) f found
      (at (k.Name n) p ∷ at c.assign i ∷ (ts ++ at c.comma j ∷ at c.close_round q ∷ rest)) (omega arith) refl)
      (then_reads x _ (arg_next ((reads g d).read 14) (f - 1) found
      (at (k.Name n) p ∷ at c.assign i ∷ (ts ++ at c.comma j ∷ at c.close_round q ∷ rest))) (of_name n)
      (at c.assign i ∷ (ts ++ at c.comma j ∷ at c.close_round q ∷ rest)) _ _
      (inl (name_14 g d n p (at c.assign i ∷ (ts ++ at c.comma j ∷ at c.close_round q ∷ rest)) (omega arith) refl))
      (then_reads x _ (named_next ((reads g d).read 14) (f - 1) found n) (of a)
      (at c.comma j ∷ at c.close_round q ∷ rest) _ _ (complete r g d _ (omega arith) (omega arith) refl)
      (inl (ap (λ r. r >>= λ ns. Ok (of_call found ns.0, ns.1))
      (s_named_comma ((reads g d).read 14) (f - 1) (push_named (plain [] 0) n (of a)) j q rest (omega arith)) ∙
      ap (λ v. Ok (v, at c.close_round q ∷ rest)) (call_one found n a)))))
  complete_args (G.more_named n p i j {x = x} {a = a} {ns = ns} {ts = ts} {us = us} r w) g d f found q rest b l h h2 =
      let low = hh.height_pos a in let len = length-append ts (at c.comma j ∷ us) in
      at_same x _ _ _ _ (ap (λ w. args_at ((reads g d).read 14) f found (at (k.Name n) p ∷ at c.assign i ∷ w))
      (append_assoc ts (at c.comma j ∷ us) (at c.close_round q ∷ rest)) ∙
      args_go ((reads g d).read 14) f found
      (at (k.Name n) p ∷ at c.assign i ∷ (ts ++ (at c.comma j ∷ us ++ at c.close_round q ∷ rest))) (omega arith)
      refl)
      (then_reads x _ (arg_next ((reads g d).read 14) (f - 1) found
      (at (k.Name n) p ∷ at c.assign i ∷ (ts ++ (at c.comma j ∷ us ++ at c.close_round q ∷ rest)))) (of_name n)
      (at c.assign i ∷ (ts ++ (at c.comma j ∷ us ++ at c.close_round q ∷ rest))) _ _
      (inl (name_14 g d n p (at c.assign i ∷ (ts ++ (at c.comma j ∷ us ++ at c.close_round q ∷ rest))) (omega arith)
      refl))
      (then_reads x _ (named_next ((reads g d).read 14) (f - 1) found n) (of a)
      (at c.comma j ∷ us ++ at c.close_round q ∷ rest) _ _ (complete r g d _ (omega arith) (omega arith) refl)
      (then_reads x _ (λ ns. Ok (of_call found ns.0, ns.1)) (plus_named (push_named (plain [] 0) n (of a)) ns)
      (at c.close_round q ∷ rest) _ _
      (complete_named w g d (f - 1) (push_named (plain [] 0) n (of a)) j q rest (omega arith) (omega arith)
      (omega arith))
      (inl (ap (λ v. Ok (v, at c.close_round q ∷ rest)) (call_more found n a ns))))))
  complete_args (G.starred p) g d zero found q rest b l h h2 = absurd (omega arith)
  complete_args (G.starred p) g d (suc f) found q rest b l h h2 =
      inr (left.StarArgument, _, refl, s_starred ((reads g d).read 14) f found p (at c.close_round q ∷ rest))
  complete_args (G.double_starred p) g d zero found q rest b l h h2 = absurd (omega arith)
  complete_args (G.double_starred p) g d (suc f) found q rest b l h h2 =
      inr (left.StarArgument, _, refl, s_double_starred ((reads g d).read 14) f found p (at c.close_round q ∷ rest))

  -- further arguments by keyword, after the comma before them
  complete_named : {x : Marks} {ns : List Named} {ts : List Token} → Args x [] ns ts →
      (g d f : ℕ) (found : Tall (List Named)) (j q : Place) (rest : List Token) → length ts ≤ g → length ts ≤ f →
      tops_named ns ≤ d → Reaches x (named_at ((reads g d).read 14) f found
      (at c.comma j ∷ ts ++ at c.close_round q ∷ rest)) (plus_named found ns) (at c.close_round q ∷ rest)
  complete_named (G.named n p i r) g d zero found j q rest b l h = absurd (omega arith)
  complete_named (G.named n p i {x = x} {a = a} {ts = ts} r) g d (suc f) found j q rest b l h =
      at_same x _ _ _ _ (s_named ((reads g d).read 14) f found j n p i (ts ++ at c.close_round q ∷ rest))
      (then_reads x _ (λ a. named_at ((reads g d).read 14) f (push_named found n a.0) a.1) (of a)
      (at c.close_round q ∷ rest) _ _ (complete r g d _ (omega arith) (omega arith) refl)
      (inl (s_named_end ((reads g d).read 14) f (push_named found n (of a)) (at c.close_round q ∷ rest) refl ∙
      ap (λ v. Ok (v, at c.close_round q ∷ rest)) (nameds_one found n a))))
  complete_named (G.named_comma n p i i' r) g d zero found j q rest b l h = absurd (omega arith)
  complete_named (G.named_comma n p i i' {x = x} {a = a} {ts = ts} r) g d (suc f) found j q rest b l h =
      let len = length-append ts (at c.comma i' ∷ []) in
      at_same x _ _ _ _ (ap (λ w. named_at ((reads g d).read 14) (suc f) found
      (at c.comma j ∷ at (k.Name n) p ∷ at c.assign i ∷ w))
      (append_assoc ts (at c.comma i' ∷ []) (at c.close_round q ∷ rest)) ∙
      s_named ((reads g d).read 14) f found j n p i (ts ++ at c.comma i' ∷ at c.close_round q ∷ rest))
      (then_reads x _ (λ a. named_at ((reads g d).read 14) f (push_named found n a.0) a.1) (of a)
      (at c.comma i' ∷ at c.close_round q ∷ rest) _ _ (complete r g d _ (omega arith) (omega arith) refl)
      (inl (s_named_comma ((reads g d).read 14) f (push_named found n (of a)) i' q rest (omega arith) ∙
      ap (λ v. Ok (v, at c.close_round q ∷ rest)) (nameds_one found n a))))
  complete_named (G.more_named n p i i' r w) g d zero found j q rest b l h = absurd (omega arith)
  complete_named (G.more_named n p i i' {x = x} {a = a} {ns = ns} {ts = ts} {us = us} r w) g d (suc f) found j q rest b
      l h =
      let len = length-append ts (at c.comma i' ∷ us) in
      at_same x _ _ _ _ (ap (λ w. named_at ((reads g d).read 14) (suc f) found
      (at c.comma j ∷ at (k.Name n) p ∷ at c.assign i ∷ w))
      (append_assoc ts (at c.comma i' ∷ us) (at c.close_round q ∷ rest)) ∙
      s_named ((reads g d).read 14) f found j n p i (ts ++ (at c.comma i' ∷ us ++ at c.close_round q ∷ rest)))
      (then_reads x _ (λ a. named_at ((reads g d).read 14) f (push_named found n a.0) a.1) (of a)
      (at c.comma i' ∷ us ++ at c.close_round q ∷ rest) _ _ (complete r g d _ (omega arith) (omega arith) refl)
      (as_value x _ _ _ _ (push_nameds found n a ns)
      (complete_named w g d f (push_named found n (of a)) i' q rest (omega arith) (omega arith) (omega arith))))
  complete_named (G.starred p) g d zero found j q rest b l h = absurd (omega arith)
  complete_named (G.starred p) g d (suc f) found j q rest b l h =
      inr (left.StarArgument, _, refl, s_named_starred ((reads g d).read 14) f found j p (at c.close_round q ∷ rest))
  complete_named (G.double_starred p) g d zero found j q rest b l h = absurd (omega arith)
  complete_named (G.double_starred p) g d (suc f) found j q rest b l h =
      inr (left.StarArgument, _, refl, s_named_double ((reads g d).read 14) f found j p (at c.close_round q ∷ rest))

pub complete_exprs : {x : Marks} {a : Expr} {ts : List Token} → Exprs x a ts → (g d : ℕ) (rest : List Token) →
    length ts ≤ g → height a ≤ d → stops 15 (first rest) ≡ true →
    Reaches x ((reads g d).read 15 (ts ++ rest)) (of a) rest
complete_exprs (G.single {x = x} {a = a} {ts = ts} p) g d rest b h s =
    at_same x _ _ (of a) rest (reads_up g d 14 (ts ++ rest) (omega (arith, hh.height_pos a)))
    (quiet x (rung_of 14) (reads g (d - 1)) g d ((reads g d).read 14) (ts ++ rest) rest (of a) refl
    (takes_not 14 (first rest) s) (complete p g d rest b h (stops_down 14 (first rest) s)))
complete_exprs (G.tuple {x = x} {es = es} {ts = ts} r) g d rest b h s =
    at_same x _ _ (of (e.Tuple es)) rest (reads_up g d 14 _ (omega (arith, hh.height_tuple es)))
    (complete_after r g d rest b h s)
