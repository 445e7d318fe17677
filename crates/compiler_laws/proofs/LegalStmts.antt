-- The statements of a text whose names resolve are legal; so the module is legal.
use Rattle.std.proofs.Common.{◌≡◌, ◌∙◌, ◌&&◌, Bool, true, false, not, List, [], ◌∷◌, ◌++◌, map, Option, Some, None, refl, sym, ap, subst, append_assoc}
use Rattle.std.proofs.lemmas.Bool.{and_parts, and_from}
use Rattle.py_tokens.specs.declared.token.Token.{Token}
use Rattle.py_tree.specs.Form.{form, is_target, is_single, all_targets}
use Rattle.py_tree.specs.declared.expr.Expr.{Expr}
use Rattle.py_tree.specs.declared.expr.Expr.TheVariants as e
use Rattle.py_tree.specs.declared.stmt.Stmt.{Stmt}
use Rattle.py_tree.specs.declared.stmt.Stmt.TheVariants as s
use Rattle.py_tree.specs.declared.stmt.Param.{Param}
use Rattle.py_tree.specs.declared.stmt.Arm.{Arm}
use Rattle.py_tree.specs.declared.stmt.Clause.{Clause}
use Rattle.py_tree.specs.declared.stmt.Handler.{Handler}
use Rattle.py_tree.specs.declared.stmt.Module.{Module}
use Rattle.py_grammar.specs.Words.{line_of}
use Rattle.py_grammar.specs.Grammar.{Marks}
use Rattle.py_grammar.specs.Statements as S
use Rattle.py_grammar.specs.Statements.{slices, Target, Targets, Loops, Equals, Simple, Line, Parameter, Parameters, Params, Base, Caught, Statement, Suite, Block, Elifs, Else, Finally, Excepts, Compound, Body, IsModule}
use Rattle.py_tree.proofs.Forms.{form_tuple}
use Rattle.py_names.specs.declared.event.Event.{Event}
use Rattle.py_names.specs.declared.event.Event.TheVariants.{Leave}
use Rattle.py_names.specs.declared.statement.Where.{Where}
use Rattle.py_names.specs.Outline.{outside, inside_function, inside_loop, inside_finally, inside_clause, says, says_block, says_arms, says_clause, says_handlers, outline}
use Rattle.py_names.specs.Scopes.{fault}
use Rattle.py_names.proofs.Says.{says_break, says_continue, says_raise, says_if, says_while, says_for, says_try, says_def, says_class}
use Rattle.compiler_laws.proofs.Clear.{Clears, clear_front, clear_back, only_true, outline_clear}
use Rattle.compiler_laws.proofs.LegalRows.{legal_arm, legal_arms, legal_clause, legal_handlers, clause_there, legal_do, legal_assign, legal_augment, legal_print, legal_pass, legal_break, legal_continue, legal_return, legal_raise, legal_del, legal_global, legal_assert, legal_import, legal_from, legal_if, legal_while, legal_for, legal_try, legal_def, legal_class}
use Rattle.compiler_laws.proofs.Sane.{sane, all_sane, sane_some}
use Rattle.compiler_laws.proofs.Legal.{are_targets, is_target_of, sane_defaults, legal, legal_all}
use Rattle.compiler_laws.proofs.Legal as legality
use Rattle.compiler_laws.proofs.SaneRows.{sane_tuple}
use Rattle.compiler_laws.proofs.LegalExprs.{expr_sane, exprs_sane, tests_sane, maybe_sane}

-- targets
targets_cons : (a : Expr) (es : List Expr) → is_target false (form a) ≡ true → sane a ≡ true → are_targets es ≡ true →
    are_targets (a ∷ es) ≡ true
targets_cons a es h g others =
    let p = and_parts (all_targets false (map form es)) (all_sane es) others in
    and_from (is_target false (form a) && all_targets false (map form es)) (sane a && all_sane es)
    (and_from (is_target false (form a)) (all_targets false (map form es)) h p.0)
    (and_from (sane a) (all_sane es) g p.1)

target_fits : {x : Marks} {a : Expr} {ts : List Token} → Target x a ts → x ≡ None → is_target false (form a) ≡ true
target_fits {a = a} h z = subst (λ y. is_target (slices y) (form a) ≡ true) z h.is

targets_fit : {x : Marks} {es : List Expr} {ts : List Token} → Targets x es ts → x ≡ None → are_targets es ≡ true
targets_fit (S.Targets.one {a = a} h) z = targets_cons a [] (target_fits h z) (expr_sane h.spells z) refl
targets_fit (S.Targets.more _ {a = a} {es = es} h others) z =
    targets_cons a es (target_fits h z) (expr_sane h.spells z) (targets_fit others z)

-- the targets of `for`
tuple_target : (a : Expr) (es : List Expr) → are_targets (a ∷ es) ≡ true → is_target_of (e.Tuple (a ∷ es)) ≡ true
tuple_target a es h =
    let p = and_parts (all_targets false (map form (a ∷ es))) (all_sane (a ∷ es)) h in
    and_from (is_target false (form (e.Tuple (a ∷ es)))) (sane (e.Tuple (a ∷ es)))
    (ap (is_target false) (form_tuple a es) ∙ p.0) (sane_tuple (a ∷ es) ∙ p.1)

loop_target_fits : {x : Marks} {a : Expr} {ts : List Token} → Loops x a ts → x ≡ None → is_target_of a ≡ true
loop_target_fits (S.Loops.single {a = a} h) z = and_from (is_target false (form a)) (sane a) (target_fits h z)
    (expr_sane h.spells z)
loop_target_fits (S.Loops.lone _ {a = a} h) z =
    tuple_target a [] (targets_cons a [] (target_fits h z) (expr_sane h.spells z) refl)
loop_target_fits (S.Loops.several _ {a = a} {b = b} {es = es} h others) z =
    tuple_target a (b ∷ es) (targets_cons a (b ∷ es) (target_fits h z) (expr_sane h.spells z) (targets_fit others z))
loop_target_fits (S.Loops.several_comma _ _ {a = a} {b = b} {es = es} h others) z =
    tuple_target a (b ∷ es) (targets_cons a (b ∷ es) (target_fits h z) (expr_sane h.spells z) (targets_fit others z))

-- targets and a value
pub record Given (es : List Expr) (b : Expr) : Type 0 where
  pub targets : are_targets es ≡ true
  pub value : sane b ≡ true

equals_fits : {x : Marks} {es : List Expr} {b : Expr} {ts : List Token} → Equals x es b ts → x ≡ None → Given es b
equals_fits (S.Equals.value h) z = record { targets = refl; value = exprs_sane h z }
equals_fits (S.Equals.equals _ {a = a} {es = es} h is others) z = let r = equals_fits others z in record {
  targets = targets_cons a es (subst (λ y. is_target (slices y) (form a) ≡ true) z is) (exprs_sane h z) r.targets;
  value = r.value;
}
equals_fits (S.Equals.yielded _) z = absurd (cc)

-- ---- statements

-- whether it is legal where it stands
abbrev IsLegal : Stmt → Where → Type 0
IsLegal a w = legality.legal a w.in_loop w.in_clause ≡ true

clear_as : (a : Stmt) (w : Where) {es : List Event} → says a w ≡ es → Clears (says a w) → Clears es
clear_as a w q c = subst Clears q c

simple_legal : {x : Marks} {a : Stmt} {ts : List Token} → Simple x a ts → x ≡ None → (w : Where) → Clears (says a w) →
    IsLegal a w
simple_legal (S.Simple.run {a = a} {ts = ts} h) z w c = let l = line_of ts in legal_do l a w.in_loop w.in_clause ∙
    exprs_sane h z
simple_legal (S.Simple.assign {a = a} {b = b} {es = es} {ts = ts} h) z w c = let l = line_of ts in let r =
    equals_fits h z in legal_assign l (a ∷ es) b w.in_loop w.in_clause ∙
    and_from (are_targets (a ∷ es)) (sane b) r.targets r.value
simple_legal (S.Simple.augment n o _ {a = a} {b = b} {ts = ts} q h is k) z w c =
    let l = line_of ts in
    let one : is_single false (form a) ≡ true = subst (λ y. is_single (slices y) (form a) ≡ true) z is in
    legal_augment l a o b w.in_loop w.in_clause ∙ and_from (is_single false (form a) && sane a) (sane b)
    (and_from (is_single false (form a)) (sane a) one (exprs_sane h z)) (exprs_sane k z)
simple_legal (S.Simple.print_end _ p) z w c = legal_print p.line [] false w.in_loop w.in_clause
simple_legal (S.Simple.print p {es = es} {b = b} h) z w c = legal_print p.line es b w.in_loop w.in_clause ∙
    tests_sane h z
simple_legal (S.Simple.pass _ p) z w c = legal_pass p.line w.in_loop w.in_clause
simple_legal (S.Simple.break _ p) z w c = legal_break p.line w.in_loop w.in_clause ∙
    only_true w.in_loop p.line (clear_as (s.Break p.line) w (says_break p.line w) c)
simple_legal (S.Simple.continue _ p) z w c = legal_continue p.line w.in_loop w.in_clause ∙
    (and_parts w.in_loop (not w.in_finally)
    (only_true (w.in_loop && not w.in_finally) p.line (clear_as (s.Continue p.line) w (says_continue p.line w) c))).0
simple_legal (S.Simple.return_none _ p) z w c = legal_return p.line None w.in_loop w.in_clause
simple_legal (S.Simple.return p {a = a} h) z w c = legal_return p.line (Some a) w.in_loop w.in_clause ∙ exprs_sane h z
simple_legal (S.Simple.raise_none _ p) z w c = legal_raise p.line None None w.in_loop w.in_clause ∙
    only_true w.in_clause p.line (clear_as (s.Raise p.line None None) w (says_raise p.line None None w) c)
simple_legal (S.Simple.raise_one p {a = a} h) z w c = legal_raise p.line (Some a) None w.in_loop w.in_clause ∙
    and_from (sane a) true (expr_sane h z) refl
simple_legal (S.Simple.raise_two p _ {a = a} {b = b} h k) z w c =
    legal_raise p.line (Some a) (Some b) w.in_loop w.in_clause ∙
    and_from (sane a) (sane b) (expr_sane h z) (expr_sane k z)
simple_legal (S.Simple.del p {es = es} h) z w c = legal_del p.line es w.in_loop w.in_clause ∙ targets_fit h z
simple_legal (S.Simple.global _ p {ns = ns} h) z w c = legal_global p.line ns w.in_loop w.in_clause
simple_legal (S.Simple.assert_one p {a = a} h) z w c = legal_assert p.line a None w.in_loop w.in_clause ∙
    and_from (sane a) true (expr_sane h z) refl
simple_legal (S.Simple.assert_two p _ {a = a} {b = b} h k) z w c = legal_assert p.line a (Some b) w.in_loop w.in_clause
    ∙ and_from (sane a) (sane b) (expr_sane h z) (expr_sane k z)
simple_legal (S.Simple.import p {is = is} h) z w c = legal_import p.line is w.in_loop w.in_clause
simple_legal (S.Simple.from m p _ _ {is = is} q h) z w c = legal_from p.line m is w.in_loop w.in_clause
simple_legal (S.Simple.exec _) z w c = absurd (cc)
simple_legal (S.Simple.yield _) z w c = absurd (cc)
simple_legal (S.Simple.augment_yield _ _ _ _ q h is) z w c = absurd (cc)
simple_legal (S.Simple.print_to _ _) z w c = absurd (cc)
simple_legal (S.Simple.traceback _ _ _ h k) z w c = absurd (cc)
simple_legal (S.Simple.from_wrong _ _ _ q) z w c = absurd (cc)

-- statements one after another
abbrev AreLegal : List Stmt → Where → Type 0
AreLegal ss w = legal_all ss w.in_loop w.in_clause ≡ true

one_legal : (a : Stmt) (w : Where) → IsLegal a w → AreLegal (a ∷ []) w
one_legal a w h = and_from (legality.legal a w.in_loop w.in_clause) true h refl

more_legal : (a : Stmt) (ss : List Stmt) (w : Where) → IsLegal a w → AreLegal ss w → AreLegal (a ∷ ss) w
more_legal a ss w h g = and_from (legality.legal a w.in_loop w.in_clause) (legal_all ss w.in_loop w.in_clause) h g

says_join : (ss rs : List Stmt) (w : Where) → says_block (ss ++ rs) w ≡ says_block ss w ++ says_block rs w
says_join [] rs w = refl
says_join (a ∷ ss) rs w = ap (λ y. says a w ++ y) (says_join ss rs w) ∙
    sym (append_assoc (says a w) (says_block ss w) (says_block rs w))

legal_join : (ss rs : List Stmt) (l c : Bool) → legal_all ss l c ≡ true → legal_all rs l c ≡ true →
    legal_all (ss ++ rs) l c ≡ true
legal_join [] rs l c h g = g
legal_join (a ∷ ss) rs l c h g = let p = and_parts (legality.legal a l c) (legal_all ss l c) h in
    and_from (legality.legal a l c) (legal_all (ss ++ rs) l c) p.0 (legal_join ss rs l c p.1 g)

line_legal : {x : Marks} {ss : List Stmt} {ts : List Token} → Line x ss ts → x ≡ None → (w : Where) →
    Clears (says_block ss w) → AreLegal ss w
line_legal (S.Line.end _ {a = a} h) z w c = one_legal a w (simple_legal h z w (clear_front _ _ c))
line_legal (S.Line.end_semicolon _ _ {a = a} h) z w c = one_legal a w (simple_legal h z w (clear_front _ _ c))
line_legal (S.Line.more _ {a = a} {as' = ss} h others) z w c =
    more_legal a ss w (simple_legal h z w (clear_front _ _ c)) (line_legal others z w (clear_back _ _ c))

-- the heads of compound statements
parameter_sane : {x : Marks} {b : Bool} {a : Param} {ts : List Token} → Parameter x b a ts → x ≡ None →
    (ps : List Param) → sane_defaults ps ≡ true → sane_defaults (a ∷ ps) ≡ true
parameter_sane (S.Parameter.plain _ n _) z ps others = others
parameter_sane (S.Parameter.default n _ _ {a = a} h) z ps others =
    and_from (sane a) (sane_defaults ps) (expr_sane h z) others

parameters_sane : {x : Marks} {b : Bool} {ps : List Param} {ts : List Token} → Parameters x b ps ts → x ≡ None →
    sane_defaults ps ≡ true
parameters_sane (S.Parameters.one _ _ q h) z = parameter_sane h z [] refl
parameters_sane (S.Parameters.one_comma _ _ _ q h) z = parameter_sane h z [] refl
parameters_sane (S.Parameters.more _ _ _ {as' = ps} q h others) z = parameter_sane h z ps (parameters_sane others z)
parameters_sane (S.Parameters.starred _ _) z = absurd (cc)
parameters_sane (S.Parameters.double_starred _ _) z = absurd (cc)
parameters_sane (S.Parameters.tuple _ _) z = absurd (cc)

params_sane : {x : Marks} {ps : List Param} {ts : List Token} → Params x ps ts → x ≡ None → sane_defaults ps ≡ true
params_sane (S.Params.none _) z = refl
params_sane (S.Params.some h) z = parameters_sane h z

base_sane : {x : Marks} {a : Option Expr} {ts : List Token} → Base x a ts → x ≡ None → sane_some a ≡ true
base_sane (S.Base.none _) z = refl
base_sane (S.Base.round _ _ h) z = maybe_sane h z
base_sane (S.Base.bases _ _ h) z = absurd (cc)

caught_fits : {x : Marks} {a b : Option Expr} {ts : List Token} → Caught x a b ts → x ≡ None →
    (sane_some a && legality.target_some b) ≡ true
caught_fits (S.Caught.all _) z = refl
caught_fits (S.Caught.test {a = a} h) z = and_from (sane a) true (expr_sane h z) refl
caught_fits (S.Caught.named _ {a = a} {b = b} h k) z =
    and_from (sane a) (is_target_of b) (expr_sane h z)
    (and_from (is_target false (form b)) (sane b) (target_fits k z) (expr_sane k.spells z))
caught_fits (S.Caught.comma _ {a = a} {b = b} h k) z =
    and_from (sane a) (is_target_of b) (expr_sane h z)
    (and_from (is_target false (form b)) (sane b) (target_fits k z) (expr_sane k.spells z))

record LegalHandlers (hs : List Handler) (w : Where) : Type 0 where
  legal : legal_handlers hs w.in_loop w.in_clause ≡ true
  there : (d : Option Clause) → clause_there hs d ≡ true

mutual
  pub statement_legal : {x : Marks} {ss : List Stmt} {ts : List Token} → Statement x ss ts → x ≡ None → (w : Where) →
      Clears (says_block ss w) → AreLegal ss w
  statement_legal (S.Statement.line h) z w c = line_legal h z w c
  statement_legal (S.Statement.compound {a = a} h) z w c = one_legal a w (compound_legal h z w (clear_front _ _ c))
  statement_legal (S.Statement.decorated _) z w c = absurd (cc)
  statement_legal (S.Statement.with' _) z w c = absurd (cc)

  suite_legal : {x : Marks} {ss : List Stmt} {ts : List Token} → Suite x ss ts → x ≡ None → (w : Where) →
      Clears (says_block ss w) → AreLegal ss w
  suite_legal (S.Suite.last_of h) z w c = statement_legal h z w c
  suite_legal (S.Suite.then {as' = ss} {bs = rs} h k) z w c = let d : Clears (says_block ss w ++ says_block rs w) =
      subst Clears (says_join ss rs w) c in
      legal_join ss rs w.in_loop w.in_clause (statement_legal h z w (clear_front _ _ d))
      (suite_legal k z w (clear_back _ _ d))

  block_legal : {x : Marks} {ss : List Stmt} {ts : List Token} → Block x ss ts → x ≡ None → (w : Where) →
      Clears (says_block ss w) → AreLegal ss w
  block_legal (S.Block.short h) z w c = line_legal h z w c
  block_legal (S.Block.long _ _ _ h) z w c = suite_legal h z w c

  elifs_legal : {x : Marks} {rs : List Arm} {ts : List Token} → Elifs x rs ts → x ≡ None → (w : Where) →
      Clears (says_arms rs w) → legal_arms rs w.in_loop w.in_clause ≡ true
  elifs_legal (S.Elifs.no_elif _) z w c = refl
  elifs_legal (S.Elifs.elif p _ {a = a} {as' = ss} {rs = rs} h k others) z w c =
      let g = block_legal k z w (clear_back _ _ (clear_front _ _ c)) in
      and_from (sane a && legal_all ss w.in_loop w.in_clause) (legal_arms rs w.in_loop w.in_clause)
      (and_from (sane a) (legal_all ss w.in_loop w.in_clause) (expr_sane h z) g)
      (elifs_legal others z w (clear_back _ _ c))

  else_legal : {x : Marks} {d : Option Clause} {ts : List Token} → Else x d ts → x ≡ None → (w : Where) →
      Clears (says_clause d w) → legal_clause d w.in_loop w.in_clause ≡ true
  else_legal (S.Else.no_else _) z w c = refl
  else_legal (S.Else.else' _ _ h) z w c = block_legal h z w c

  finally_legal : {x : Marks} {d : Option Clause} {ts : List Token} → Finally x d ts → x ≡ None → (w : Where) →
      Clears (says_clause d w) → legal_clause d w.in_loop w.in_clause ≡ true
  finally_legal (S.Finally.no_finally _) z w c = refl
  finally_legal (S.Finally.finally _ _ h) z w c = block_legal h z w c

  excepts_legal : {x : Marks} {hs : List Handler} {ts : List Token} → Excepts x hs ts → x ≡ None → (w : Where) →
      Clears (says_handlers hs w) → LegalHandlers hs w
  excepts_legal (S.Excepts.except_one p _ {a = a} {b = b} {as' = ss} h k) z w c =
      let q = caught_fits h z in
      let g = block_legal k z w (clear_back _ _ (clear_front _ _ c)) in
      record {
        legal = and_from ((sane_some a && legality.target_some b) && legal_all ss w.in_loop w.in_clause) true
            (and_from (sane_some a && legality.target_some b) (legal_all ss w.in_loop w.in_clause) q g) refl;
        there =
            λ d. refl;
      }
  excepts_legal (S.Excepts.except_more p _ {a = a} {b = b} {as' = ss} {hs = hs} h k others) z w c =
      let q = caught_fits h z in
      let g = block_legal k z w (clear_back _ _ (clear_front _ _ c)) in
      let r = excepts_legal others z w (clear_back _ _ c) in
      record {
        legal = and_from ((sane a && legality.target_some b) && legal_all ss w.in_loop w.in_clause)
            (legal_handlers hs w.in_loop w.in_clause)
            (and_from (sane a && legality.target_some b) (legal_all ss w.in_loop w.in_clause) q g) r.legal;
        there = λ d.
            refl;
      }

  compound_legal : {x : Marks} {a : Stmt} {ts : List Token} → Compound x a ts → x ≡ None → (w : Where) →
      Clears (says a w) → IsLegal a w
  compound_legal (S.Compound.if' p _ {a = a} {as' = ss} {rs = rs} {d = d} h k others last) z w c =
      let arms : List Arm = record { line = p.line; test = a; body = ss } ∷ rs in
      let y = clear_as (s.If arms d) w (says_if arms d w) c in
      let g = block_legal k z w (clear_back _ _ (clear_front _ _ (clear_front _ _ y))) in
      let r = elifs_legal others z w (clear_back _ _ (clear_front _ _ y)) in
      let v = else_legal last z w (clear_back _ _ y) in
      legal_if arms d w.in_loop w.in_clause ∙
      and_from (legal_arms arms w.in_loop w.in_clause) (legal_clause d w.in_loop w.in_clause)
      (and_from (sane a && legal_all ss w.in_loop w.in_clause) (legal_arms rs w.in_loop w.in_clause)
      (and_from (sane a) (legal_all ss w.in_loop w.in_clause) (expr_sane h z) g) r) v
  compound_legal (S.Compound.while p _ {a = a} {as' = ss} {d = d} h k last) z w c =
      let arm : Arm = record { line = p.line; test = a; body = ss } in
      let y = clear_as (s.While arm d) w (says_while arm d w) c in
      let g = block_legal k z (inside_loop w) (clear_back _ _ (clear_front _ _ y)) in
      let v = else_legal last z w (clear_back _ _ y) in
      legal_while arm d w.in_loop w.in_clause ∙
      and_from (legal_arm arm true w.in_clause) (legal_clause d w.in_loop w.in_clause)
      (and_from (sane a) (legal_all ss true w.in_clause) (expr_sane h z) g) v
  compound_legal (S.Compound.for' p _ _ {a = a} {b = b} {as' = ss} {d = d} t h k last) z w c =
      let y = clear_as (s.For p.line a b ss d) w (says_for p.line a b ss d w) c in
      let q = loop_target_fits t z in
      let g = block_legal k z (inside_loop w) (clear_back _ _ (clear_front _ _ y)) in
      let v = else_legal last z w (clear_back _ _ y) in
      legal_for p.line a b ss d w.in_loop w.in_clause ∙
      and_from (is_target_of a && sane b) (legal_all ss true w.in_clause && legal_clause d w.in_loop w.in_clause)
      (and_from (is_target_of a) (sane b) q (exprs_sane h z))
      (and_from (legal_all ss true w.in_clause) (legal_clause d w.in_loop w.in_clause) g v)
  compound_legal (S.Compound.try p _ {as' = ss} {hs = hs} {d = d} {f = f} k ex last fin) z w c =
      let b : Clause = record { line = p.line; body = ss } in
      let y = clear_as (s.Try b hs d f) w (says_try b hs d f w) c in
      let g = block_legal k z w (clear_front _ _ (clear_front _ _ (clear_front _ _ y))) in
      let r = excepts_legal ex z (inside_clause w) (clear_back _ _ (clear_front _ _ (clear_front _ _ y))) in
      let v = else_legal last z w (clear_back _ _ (clear_front _ _ y)) in
      let u = finally_legal fin z (inside_finally w) (clear_back _ _ y) in
      legal_try b hs d f w.in_loop w.in_clause ∙
      and_from (legal_all ss w.in_loop w.in_clause)
      (legal_handlers hs w.in_loop true &&
      (legal_clause d w.in_loop w.in_clause && (legal_clause f w.in_loop w.in_clause && clause_there hs d))) g
      (and_from (legal_handlers hs w.in_loop true)
      (legal_clause d w.in_loop w.in_clause && (legal_clause f w.in_loop w.in_clause && clause_there hs d)) r.legal
      (and_from (legal_clause d w.in_loop w.in_clause) (legal_clause f w.in_loop w.in_clause && clause_there hs d)
      v (and_from (legal_clause f w.in_loop w.in_clause) (clause_there hs d) u (r.there d))))
  compound_legal (S.Compound.try_finally p _ {as' = ss} {f = f} k fin) z w c =
      let b : Clause = record { line = p.line; body = ss } in
      let y = clear_as (s.Try b [] None (Some f)) w (says_try b [] None (Some f) w) c in
      let g = block_legal k z w (clear_front _ _ (clear_front _ _ (clear_front _ _ y))) in
      let u = finally_legal fin z (inside_finally w) (clear_back _ _ y) in
      legal_try b [] None (Some f) w.in_loop w.in_clause ∙
      and_from (legal_all ss w.in_loop w.in_clause) (legal_clause (Some f) w.in_loop w.in_clause && true) g
      (and_from (legal_clause (Some f) w.in_loop w.in_clause) true u refl)
  compound_legal (S.Compound.def n p _ _ _ _ {ps = ps} {as' = ss} h k) z w c =
      let y = clear_as (s.Def p.line n ps ss) w (says_def p.line n ps ss w) c in
      let g = block_legal k z inside_function (clear_back _ _ (clear_front _ _ y)) in
      legal_def p.line n ps ss w.in_loop w.in_clause ∙ and_from (sane_defaults ps) (legal_all ss false false)
      (params_sane h z) g
  compound_legal (S.Compound.class n p _ _ {a = a} {as' = ss} h k) z w c =
      let y = clear_as (s.Class p.line n a ss) w (says_class p.line n a ss w) c in
      let g = block_legal k z outside (clear_back _ _ (clear_front _ _ y)) in
      legal_class p.line n a ss w.in_loop w.in_clause ∙
      and_from (sane_some a) (legal_all ss false false) (base_sane h z) g

body_legal : {x : Marks} {ss : List Stmt} {ts : List Token} → Body x ss ts → x ≡ None → (w : Where) →
    Clears (says_block ss w) → AreLegal ss w
body_legal (S.Body.end _ _) z w c = refl
body_legal (S.Body.newline _ h) z w c = body_legal h z w c
body_legal (S.Body.more {as' = ss} {bs = rs} h k) z w c = let d : Clears (says_block ss w ++ says_block rs w) =
    subst Clears (says_join ss rs w) c in
    legal_join ss rs w.in_loop w.in_clause (statement_legal h z w (clear_front _ _ d))
    (body_legal k z w (clear_back _ _ d))

-- The module of a text where no place of its outline is refused is legal.
pub legal_text : (m : Module) (ts : List Token) → IsModule m ts → fault (outline m) ≡ None →
    legal_all m.body false false ≡ true
unfolding outline
legal_text m ts h q =
    let c : Clears (says_block m.body outside ++ Leave ∷ []) = record { each = (outline_clear m q).each.1 } in
    body_legal h refl outside (clear_front (says_block m.body outside) (Leave ∷ []) c)
