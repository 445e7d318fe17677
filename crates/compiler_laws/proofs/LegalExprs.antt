-- The expressions of a text are sane: they compare by operators that compare.
use Rattle.std.proofs.Common.{◌≡◌, ◌∙◌, ◌&&◌, ℕ, Bool, true, List, [], Option, Some, None, refl}
use Rattle.std.proofs.lemmas.Bool.{and_from}
use Rattle.py_tokens.specs.declared.token.Token.{Token}
use Rattle.py_tree.specs.declared.expr.Expr.{Expr}
use Rattle.py_tree.specs.declared.expr.Trailer.{Trailer}
use Rattle.py_tree.specs.declared.expr.Link.{Link}
use Rattle.py_tree.specs.declared.expr.Named.{Named}
use Rattle.py_tree.specs.declared.expr.Pair.{Pair}
use Rattle.py_tree.specs.declared.expr.Level.{Level}
use Rattle.py_tree.specs.declared.expr.Level.TheVariants as level
use Rattle.py_tree.specs.declared.expr.Operator.{Operator}
use Rattle.py_tree.specs.declared.expr.Operator.TheVariants as op
use Rattle.py_grammar.specs.Words.{level_of}
use Rattle.py_grammar.specs.Grammar as G
use Rattle.py_grammar.specs.Grammar.{Marks, Is, Tests, Commas, Exprs, Pairs, Links, Trailers, Trails, Maybe, Args}
use Rattle.py_templates.specs.Expressions.{operator}
use Rattle.compiler_laws.proofs.Sane.{fits_level, sane, sane_trailer, all_sane, sane_some, sane_links, sane_named, sane_pairs, sane_trailers}
use Rattle.compiler_laws.proofs.SaneRows.{sane_name, sane_int, sane_str, sane_group, sane_tuple, sane_list, sane_dict, sane_trail, sane_power, sane_unary, sane_chain, sane_not, sane_choice, sane_attribute, sane_index, sane_slice, sane_call}

-- operators that compare have numbers of comparisons
compare_fits : (o : Operator) (b : Bool) → level_of o ≡ Some level.Compare → b ≡ true →
    fits_level level.Compare (operator o, b) ≡ true
compare_fits op.Or b e f = absurd (cc)
compare_fits op.And b e f = absurd (cc)
compare_fits op.Less b e f = f
compare_fits op.Greater b e f = f
compare_fits op.Equal b e f = f
compare_fits op.GreaterEqual b e f = f
compare_fits op.LessEqual b e f = f
compare_fits op.NotEqual b e f = f
compare_fits op.In b e f = f
compare_fits op.NotIn b e f = f
compare_fits op.Is b e f = f
compare_fits op.IsNot b e f = f
compare_fits op.BitOr b e f = absurd (cc)
compare_fits op.BitXor b e f = absurd (cc)
compare_fits op.BitAnd b e f = absurd (cc)
compare_fits op.ShiftLeft b e f = absurd (cc)
compare_fits op.ShiftRight b e f = absurd (cc)
compare_fits op.Plus b e f = absurd (cc)
compare_fits op.Minus b e f = absurd (cc)
compare_fits op.Times b e f = absurd (cc)
compare_fits op.Divide b e f = absurd (cc)
compare_fits op.Floor b e f = absurd (cc)
compare_fits op.Remainder b e f = absurd (cc)
compare_fits op.Power b e f = absurd (cc)

level_fits : (v : Level) (o : Operator) (b : Bool) → level_of o ≡ Some v → b ≡ true →
    fits_level v (operator o, b) ≡ true
level_fits level.Compare o b e f = compare_fits o b e f
level_fits level.Or o b e f = f
level_fits level.And o b e f = f
level_fits level.BitOr o b e f = f
level_fits level.BitXor o b e f = f
level_fits level.BitAnd o b e f = f
level_fits level.Shift o b e f = f
level_fits level.Sum o b e f = f
level_fits level.Term o b e f = f

-- expressions of a text are sane
mutual
  pub expr_sane : {x : Marks} {n : ℕ} {a : Expr} {ts : List Token} → Is x n a ts → x ≡ None → sane a ≡ true
  expr_sane (G.Is.up _ _ h) z = expr_sane h z
  expr_sane (G.Is.name _ n _) z = sane_name n
  expr_sane (G.Is.int _ n _) z = sane_int n
  expr_sane (G.Is.strings {s = v} h) z = sane_str v
  expr_sane (G.Is.group _ _ {a = a} h) z = sane_group a ∙ expr_sane h z
  expr_sane (G.Is.unit _ _ _) z = sane_tuple []
  expr_sane (G.Is.round _ _ {es = es} h) z = sane_tuple es ∙ commas_sane h z
  expr_sane (G.Is.no_list _ _ _) z = sane_list []
  expr_sane (G.Is.list _ _ {es = es} h) z = sane_list es ∙ tests_sane h z
  expr_sane (G.Is.no_dict _ _ _) z = sane_dict []
  expr_sane (G.Is.dict _ _ {ps = ps} h) z = sane_dict ps ∙ pairs_sane h z
  expr_sane (G.Is.trail {a = a} {rs = rs} h1 h2) z = sane_trail a rs ∙
      and_from (sane a) (sane_trailers rs) (expr_sane h1 z) (trailers_sane h2 z)
  expr_sane (G.Is.power _ {a = a} {b = b} h1 h2) z = sane_power a b ∙
      and_from (sane a) (sane b) (expr_sane h1 z) (expr_sane h2 z)
  expr_sane (G.Is.signed g _ {a = a} h) z = sane_unary g a ∙ expr_sane h z
  expr_sane (G.Is.chain l {a = a} {ls = ls} h1 h2) z = sane_chain l a ls ∙
      and_from (sane a) (sane_links l ls) (expr_sane h1 z) (links_sane h2 z)
  expr_sane (G.Is.negated _ {a = a} h) z = sane_not a ∙ expr_sane h z
  expr_sane (G.Is.choice _ _ {a = a} {b = b} {d = d} h1 h2 h3) z = sane_choice a b d ∙
      and_from (sane a) (sane b && sane d) (expr_sane h1 z)
      (and_from (sane b) (sane d) (expr_sane h2 z) (expr_sane h3 z))
  expr_sane (G.Is.float _) z = absurd (cc)
  expr_sane (G.Is.long _) z = absurd (cc)
  expr_sane (G.Is.backquote _) z = absurd (cc)
  expr_sane (G.Is.lambda _) z = absurd (cc)
  expr_sane (G.Is.yielded _ _) z = absurd (cc)
  expr_sane (G.Is.generator _ _ h1) z = absurd (cc)
  expr_sane (G.Is.comprehension _ _ h1) z = absurd (cc)
  expr_sane (G.Is.set_of _ _ h1) z = absurd (cc)
  expr_sane (G.Is.dict_of _ _ _ h1 h2) z = absurd (cc)
  expr_sane (G.Is.set _ _ h1) z = absurd (cc)
  expr_sane (G.Is.set_one _ _ h1) z = absurd (cc)

  pub exprs_sane : {x : Marks} {a : Expr} {ts : List Token} → Exprs x a ts → x ≡ None → sane a ≡ true
  exprs_sane (G.Exprs.single h) z = expr_sane h z
  exprs_sane (G.Exprs.tuple {es = es} h) z = sane_tuple es ∙ commas_sane h z

  pub tests_sane : {x : Marks} {as' : List Expr} {b : Bool} {ts : List Token} → Tests x as' b ts → x ≡ None →
      all_sane as' ≡ true
  tests_sane (G.Tests.only {a = a} h) z = and_from (sane a) true (expr_sane h z) refl
  tests_sane (G.Tests.only_comma _ {a = a} h) z = and_from (sane a) true (expr_sane h z) refl
  tests_sane (G.Tests.more_tests _ {a = a} {es = es} h1 h2) z =
      and_from (sane a) (all_sane es) (expr_sane h1 z) (tests_sane h2 z)

  commas_sane : {x : Marks} {as' : List Expr} {ts : List Token} → Commas x as' ts → x ≡ None → all_sane as' ≡ true
  commas_sane (G.Commas.lone _ {a = a} h) z = and_from (sane a) true (expr_sane h z) refl
  commas_sane (G.Commas.several _ {a = a} {es = es} h1 h2) z =
      and_from (sane a) (all_sane es) (expr_sane h1 z) (tests_sane h2 z)

  pairs_sane : {x : Marks} {ps : List Pair} {ts : List Token} → Pairs x ps ts → x ≡ None → sane_pairs ps ≡ true
  pairs_sane (G.Pairs.pair _ {a = a} {b = b} h1 h2) z =
      and_from (sane a && sane b) true (and_from (sane a) (sane b) (expr_sane h1 z) (expr_sane h2 z)) refl
  pairs_sane (G.Pairs.pair_comma _ _ {a = a} {b = b} h1 h2) z =
      and_from (sane a && sane b) true (and_from (sane a) (sane b) (expr_sane h1 z) (expr_sane h2 z)) refl
  pairs_sane (G.Pairs.more_pairs _ _ {a = a} {b = b} {ps = ps} h1 h2 h3) z =
      and_from (sane a && sane b) (sane_pairs ps) (and_from (sane a) (sane b) (expr_sane h1 z) (expr_sane h2 z))
      (pairs_sane h3 z)

  links_sane : {x : Marks} {l : Level} {ls : List Link} {ts : List Token} → Links x l ls ts → x ≡ None →
      sane_links l ls ≡ true
  links_sane (G.Links.link l o _ _ {a = a} q h) z =
      and_from (fits_level l (operator o, sane a)) true (level_fits l o (sane a) q (expr_sane h z)) refl
  links_sane (G.Links.more_links l o _ _ {a = a} {ls = ls} q h1 h2) z =
      and_from (fits_level l (operator o, sane a)) (sane_links l ls) (level_fits l o (sane a) q (expr_sane h1 z))
      (links_sane h2 z)

  trailers_sane : {x : Marks} {rs : List Trailer} {ts : List Token} → Trailers x rs ts → x ≡ None →
      sane_trailers rs ≡ true
  trailers_sane (G.Trailers.last {r = r} h) z = and_from (sane_trailer r) true (trailer_sane h z) refl
  trailers_sane (G.Trailers.more_trailers {r = r} {rs = rs} h1 h2) z =
      and_from (sane_trailer r) (sane_trailers rs) (trailer_sane h1 z) (trailers_sane h2 z)

  trailer_sane : {x : Marks} {r : Trailer} {ts : List Token} → Trails x r ts → x ≡ None → sane_trailer r ≡ true
  trailer_sane (G.Trails.attribute _ n _ _) z = sane_attribute n
  trailer_sane (G.Trails.index _ _ {a = a} h) z = sane_index a ∙ exprs_sane h z
  trailer_sane (G.Trails.slice _ _ _ {a = a} {b = b} h1 h2) z = sane_slice a b ∙
      and_from (sane_some a) (sane_some b) (maybe_sane h1 z) (maybe_sane h2 z)
  trailer_sane (G.Trails.no_call _ _ _) z = sane_call [] []
  trailer_sane (G.Trails.call _ _ {es = es} {ns = ns} h) z = let r = arguments_sane h z in sane_call es ns ∙
      and_from (all_sane es) (sane_named ns) r.0 r.1
  trailer_sane (G.Trails.generator_call _ _ h1) z = absurd (cc)
  trailer_sane (G.Trails.long_slice _ _ _ h1 h2) z = absurd (cc)
  trailer_sane (G.Trails.slices _ _ _ h1 h2) z = absurd (cc)

  pub maybe_sane : {x : Marks} {a : Option Expr} {ts : List Token} → Maybe x a ts → x ≡ None → sane_some a ≡ true
  maybe_sane (G.Maybe.nothing _) z = refl
  maybe_sane (G.Maybe.just h) z = expr_sane h z

  arguments_sane : {x : Marks} {es : List Expr} {ns : List Named} {ts : List Token} → Args x es ns ts → x ≡ None →
      (all_sane es ≡ true) × (sane_named ns ≡ true)
  arguments_sane (G.Args.arg {a = a} h) z = (and_from (sane a) true (expr_sane h z) refl, refl)
  arguments_sane (G.Args.arg_comma _ {a = a} h) z = (and_from (sane a) true (expr_sane h z) refl, refl)
  arguments_sane (G.Args.more_args _ {a = a} {es = es} h1 h2) z = let r = arguments_sane h2 z in
      (and_from (sane a) (all_sane es) (expr_sane h1 z) r.0, r.1)
  arguments_sane (G.Args.named _ _ _ {a = a} h) z = (refl, and_from (sane a) true (expr_sane h z) refl)
  arguments_sane (G.Args.named_comma _ _ _ _ {a = a} h) z = (refl, and_from (sane a) true (expr_sane h z) refl)
  arguments_sane (G.Args.more_named _ _ _ _ {a = a} {ns = ns} h1 h2) z = let r = arguments_sane h2 z in
      (refl, and_from (sane a) (sane_named ns) (expr_sane h1 z) r.1)
  arguments_sane (G.Args.starred _) z = absurd (cc)
  arguments_sane (G.Args.double_starred _) z = absurd (cc)
