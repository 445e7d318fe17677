-- The equations of the code of statements, and of their weights.
use Rattle.std.proofs.Common.{◌≡◌, ℕ, ◌+◌, Bool, true, false, List, [], ◌∷◌, ◌++◌, map, length, Option, Some, None, refl, sym, ap, ◌∙◌, arith, append-nil}
use Rattle.py_tree.specs.declared.expr.Expr.{Expr}
use Rattle.py_tree.specs.declared.expr.Operator.{Operator}
use Rattle.py_tree.specs.declared.stmt.Stmt.{Stmt}
use Rattle.py_tree.specs.declared.stmt.Imported.{Imported}
use Rattle.py_tree.specs.declared.stmt.Param.{Param}
use Rattle.py_tree.specs.declared.stmt.Arm.{Arm}
use Rattle.py_tree.specs.declared.stmt.Clause.{Clause}
use Rattle.py_tree.specs.declared.stmt.Handler.{Handler}
use Rattle.py_tree.specs.declared.stmt.Stmt.TheVariants as s
use Rattle.py_tree.specs.declared.stmt.Stmt.TheOpen as open'
use Rattle.py_tree.specs.declared.stmt.Stmt.TheFolds.{fold-Arm, fold-Clause, fold-Handler, fold-roll-Stmt, fold_out-Arm, fold_out-Clause, fold_out-Handler}
use Rattle.py_templates.specs.declared.way.Way.TheVariants.{Break, Continue}
use Rattle.py_templates.specs.Template.{row}
use Rattle.py_templates.specs.Table.{Around, InTry, try_except, nothing, expression, way_out, return, def, class}
use Rattle.py_templates.specs.Names.{Known, home}
use Rattle.py_templates.specs.Expressions.{coded, add_at, operator, value, values, value_some, all_deleted}
use Rattle.py_templates.specs.Statements.{Stated, Armed, Claused, Handled, still, block, count, inners, armed_count, armed_inner, assigned, printed, raised, asserted, imported, taken_from, deletion, base, defaults, other, finally, inner_body, stmt_step, arm_step, clause_step, handler_step, stated, all_stated, stated_arm, stated_arms, stated_clause, stated_some, stated_block, stated_handler, stated_handlers, handled, handled_count}
use Rattle.py_templates.specs.inner.Compounds.{otherwise, if_code, while_code, for_code, tried_of}
use Rattle.py_templates.specs.inner.Weights as w
use Rattle.py_templates.specs.inner.Weights.{total, weight_step, weight, weights, weights_arms, weights_handlers, weights_some}

folded_arm : Arm → Armed
folded_arm = fold-Arm Stated Armed Claused Handled stmt_step arm_step clause_step handler_step

folded_clause : Clause → Claused
folded_clause = fold-Clause Stated Armed Claused Handled stmt_step arm_step clause_step handler_step

folded_handler : Handler → Handled
folded_handler = fold-Handler Stated Armed Claused Handled stmt_step arm_step clause_step handler_step

all_same : (ss : List Stmt) → map stated ss ≡ all_stated ss
all_same [] = refl
all_same (x ∷ ss) = ap (λ z. stated x ∷ z) (all_same ss)

arm_same : (a : Arm) → folded_arm a ≡ stated_arm a
unfolding folded_arm stated
arm_same a = fold_out-Arm Stated Armed Claused Handled stmt_step arm_step clause_step handler_step a ∙
    ap (λ z. record { line = a.line; test = a.test; block = block z }) (all_same a.body)

clause_same : (a : Clause) → folded_clause a ≡ stated_clause a
unfolding folded_clause stated
clause_same a = fold_out-Clause Stated Armed Claused Handled stmt_step arm_step clause_step handler_step a ∙
    ap (λ z. record { line = a.line; block = block z }) (all_same a.body)

handler_same : (a : Handler) → folded_handler a ≡ stated_handler a
unfolding folded_handler stated
handler_same a = fold_out-Handler Stated Armed Claused Handled stmt_step arm_step clause_step handler_step a ∙
    ap (λ z. record { line = a.line; test = a.test; target = a.target; block = block z }) (all_same a.body)

arms_same : (xs : List Arm) → map folded_arm xs ≡ stated_arms xs
arms_same [] = refl
arms_same (a ∷ xs) = ap (λ z. z ∷ map folded_arm xs) (arm_same a) ∙ ap (λ z. stated_arm a ∷ z) (arms_same xs)

handlers_same : (xs : List Handler) → map folded_handler xs ≡ stated_handlers xs
handlers_same [] = refl
handlers_same (a ∷ xs) = ap (λ z. z ∷ map folded_handler xs) (handler_same a) ∙
    ap (λ z. stated_handler a ∷ z) (handlers_same xs)

pub stated_do : (ln : ℕ) (x : Expr) → stated (s.Do ln x) ≡ still (λ n c. expression ln (value n ln x))
unfolding stated folded_arm folded_clause folded_handler
stated_do ln x = ap stated (sym (s.rolls-Do ln x)) ∙ fold-roll-Stmt Stated Armed Claused Handled stmt_step arm_step
    clause_step handler_step (open'.Do ln x)

pub stated_assign : (ln : ℕ) (ts : List Expr) (x : Expr) → stated (s.Assign ln ts x) ≡ still (λ n c. assigned n ln ts x)
unfolding stated folded_arm folded_clause folded_handler
stated_assign ln ts x = ap stated (sym (s.rolls-Assign ln ts x)) ∙
    fold-roll-Stmt Stated Armed Claused Handled stmt_step arm_step clause_step handler_step (open'.Assign ln ts x)

pub stated_augment : (ln : ℕ) (t : Expr) (o : Operator) (x : Expr) →
    stated (s.Augment ln t o x) ≡ still (λ n c. add_at ln (coded n ln t).place (operator o) (value n ln x))
unfolding stated folded_arm folded_clause folded_handler
stated_augment ln t o x = ap stated (sym (s.rolls-Augment ln t o x)) ∙
    fold-roll-Stmt Stated Armed Claused Handled stmt_step arm_step clause_step handler_step (open'.Augment ln t o x)

pub stated_print : (ln : ℕ) (xs : List Expr) (b : Bool) → stated (s.Print ln xs b) ≡ still (λ n c. printed n ln xs b)
unfolding stated folded_arm folded_clause folded_handler
stated_print ln xs b = ap stated (sym (s.rolls-Print ln xs b)) ∙
    fold-roll-Stmt Stated Armed Claused Handled stmt_step arm_step clause_step handler_step (open'.Print ln xs b)

pub stated_pass : (ln : ℕ) → stated (s.Pass ln) ≡ still (λ n c. nothing ln)
unfolding stated folded_arm folded_clause folded_handler
stated_pass ln = ap stated (sym (s.rolls-Pass ln)) ∙ fold-roll-Stmt Stated Armed Claused Handled stmt_step arm_step
    clause_step handler_step (open'.Pass ln)

pub stated_break : (ln : ℕ) → stated (s.Break ln) ≡ still (λ n c. way_out ln Break c)
unfolding stated folded_arm folded_clause folded_handler
stated_break ln = ap stated (sym (s.rolls-Break ln)) ∙ fold-roll-Stmt Stated Armed Claused Handled stmt_step arm_step
    clause_step handler_step (open'.Break ln)

pub stated_continue : (ln : ℕ) → stated (s.Continue ln) ≡ still (λ n c. way_out ln Continue c)
unfolding stated folded_arm folded_clause folded_handler
stated_continue ln = ap stated (sym (s.rolls-Continue ln)) ∙ fold-roll-Stmt Stated Armed Claused Handled stmt_step
    arm_step clause_step handler_step (open'.Continue ln)

pub stated_return : (ln : ℕ) (x : Option Expr) → stated (s.Return ln x) ≡ still (λ n c. return ln (value_some n ln x) c)
unfolding stated folded_arm folded_clause folded_handler
stated_return ln x = ap stated (sym (s.rolls-Return ln x)) ∙ fold-roll-Stmt Stated Armed Claused Handled stmt_step
    arm_step clause_step handler_step (open'.Return ln x)

pub stated_raise : (ln : ℕ) (x : Option Expr) (v : Option Expr) →
    stated (s.Raise ln x v) ≡ still (λ n c. raised n ln c x v)
unfolding stated folded_arm folded_clause folded_handler
stated_raise ln x v = ap stated (sym (s.rolls-Raise ln x v)) ∙ fold-roll-Stmt Stated Armed Claused Handled stmt_step
    arm_step clause_step handler_step (open'.Raise ln x v)

pub stated_del : (ln : ℕ) (ts : List Expr) → stated (s.Del ln ts) ≡ still (λ n c. deletion ln (all_deleted n ln ts))
unfolding stated folded_arm folded_clause folded_handler
stated_del ln ts = ap stated (sym (s.rolls-Del ln ts)) ∙ fold-roll-Stmt Stated Armed Claused Handled stmt_step arm_step
    clause_step handler_step (open'.Del ln ts)

pub stated_global : (ln : ℕ) (xs : List (List ℕ)) → stated (s.Global ln xs) ≡ still (λ n c. nothing ln)
unfolding stated folded_arm folded_clause folded_handler
stated_global ln xs = ap stated (sym (s.rolls-Global ln xs)) ∙ fold-roll-Stmt Stated Armed Claused Handled stmt_step
    arm_step clause_step handler_step (open'.Global ln xs)

pub stated_assert : (ln : ℕ) (x : Expr) (m : Option Expr) → stated (s.Assert ln x m) ≡ still (λ n c. asserted n ln x m)
unfolding stated folded_arm folded_clause folded_handler
stated_assert ln x m = ap stated (sym (s.rolls-Assert ln x m)) ∙
    fold-roll-Stmt Stated Armed Claused Handled stmt_step arm_step clause_step handler_step (open'.Assert ln x m)

pub stated_import : (ln : ℕ) (is : List Imported) → stated (s.Import ln is) ≡ still (λ n c. row (imported n ln is))
unfolding stated folded_arm folded_clause folded_handler
stated_import ln is = ap stated (sym (s.rolls-Import ln is)) ∙ fold-roll-Stmt Stated Armed Claused Handled stmt_step
    arm_step clause_step handler_step (open'.Import ln is)

pub stated_from : (ln : ℕ) (m : List ℕ) (is : List Imported) →
    stated (s.From ln m is) ≡ still (λ n c. row (taken_from n ln is))
unfolding stated folded_arm folded_clause folded_handler
stated_from ln m is = ap stated (sym (s.rolls-From ln m is)) ∙ fold-roll-Stmt Stated Armed Claused Handled stmt_step
    arm_step clause_step handler_step (open'.From ln m is)

pub stated_if : (as' : List Arm) (e : Option Clause) →
    stated (s.If as' e) ≡ record {
      bodies = armed_count (stated_arms as') + (otherwise e).bodies;
      code = λ n c f.
          if_code n c f as' e;
      inner = λ f. armed_inner (stated_arms as') f ++ (otherwise e).inner
          (f + armed_count (stated_arms as'));
    }
unfolding stated folded_arm folded_clause folded_handler
stated_if as' None = ap stated (sym (s.rolls-If as' None)) ∙ fold-roll-Stmt Stated Armed Claused Handled stmt_step
    arm_step clause_step handler_step (open'.If as' None)
    ∙ ap (λ z. stmt_step (open'.If z None)) (arms_same as')
stated_if as' (Some e1) = ap stated (sym (s.rolls-If as' (Some e1))) ∙
    fold-roll-Stmt Stated Armed Claused Handled stmt_step arm_step clause_step handler_step (open'.If as' (Some e1))
    ∙ ap (λ z. stmt_step (open'.If z (Some (folded_clause e1)))) (arms_same as')
    ∙ ap (λ z. stmt_step (open'.If (stated_arms as') (Some z))) (clause_same e1)

pub stated_while : (a : Arm) (e : Option Clause) →
    stated (s.While a e) ≡ record {
      bodies = count (all_stated a.body) + (otherwise e).bodies;
      code = λ n c f.
          while_code n c f a e;
      inner = λ f. inners (all_stated a.body) f ++ (otherwise e).inner
          (f + count (all_stated a.body));
    }
unfolding stated folded_arm folded_clause folded_handler
stated_while a None = ap stated (sym (s.rolls-While a None)) ∙ fold-roll-Stmt Stated Armed Claused Handled stmt_step
    arm_step clause_step handler_step (open'.While a None)
    ∙ ap (λ z. stmt_step (open'.While z None)) (arm_same a)
stated_while a (Some e1) = ap stated (sym (s.rolls-While a (Some e1))) ∙
    fold-roll-Stmt Stated Armed Claused Handled stmt_step arm_step clause_step handler_step (open'.While a (Some e1))
    ∙ ap (λ z. stmt_step (open'.While z (Some (folded_clause e1)))) (arm_same a)
    ∙ ap (λ z. stmt_step (open'.While (stated_arm a) (Some z))) (clause_same e1)

pub stated_for : (ln : ℕ) (t : Expr) (x : Expr) (ss : List Stmt) (e : Option Clause) →
    stated (s.For ln t x ss e) ≡ record {
      bodies = count (all_stated ss) + (otherwise e).bodies;
      code = λ n c f.
          for_code n c f ln t x ss e;
      inner = λ f.
          inners (all_stated ss) f ++ (otherwise e).inner (f + count (all_stated ss));
    }
unfolding stated folded_arm folded_clause folded_handler
stated_for ln t x ss None = ap stated (sym (s.rolls-For ln t x ss None)) ∙
    fold-roll-Stmt Stated Armed Claused Handled stmt_step arm_step clause_step handler_step (open'.For ln t x ss None)
    ∙ ap (λ z. stmt_step (open'.For ln t x z None)) (all_same ss)
stated_for ln t x ss (Some e1) = ap stated (sym (s.rolls-For ln t x ss (Some e1))) ∙
    fold-roll-Stmt Stated Armed Claused Handled stmt_step arm_step clause_step handler_step
    (open'.For ln t x ss (Some e1))
    ∙ ap (λ z. stmt_step (open'.For ln t x z (Some (folded_clause e1)))) (all_same ss)
    ∙ ap (λ z. stmt_step (open'.For ln t x (all_stated ss) (Some z))) (clause_same e1)

pub stated_try : (t : Clause) (hs : List Handler) (e : Option Clause) (d : Option Clause) →
    stated (s.Try t hs e d) ≡ finally t.line (tried_of t hs e) (stated_some d)
unfolding stated folded_arm folded_clause folded_handler
stated_try t hs None None = ap stated (sym (s.rolls-Try t hs None None)) ∙
    fold-roll-Stmt Stated Armed Claused Handled stmt_step arm_step clause_step handler_step (open'.Try t hs None None)
    ∙ ap (λ z. stmt_step (open'.Try z (map folded_handler hs) None None)) (clause_same t)
    ∙ ap (λ z. stmt_step (open'.Try (stated_clause t) z None None)) (handlers_same hs)
stated_try t hs None (Some d1) = ap stated (sym (s.rolls-Try t hs None (Some d1))) ∙
    fold-roll-Stmt Stated Armed Claused Handled stmt_step arm_step clause_step handler_step
    (open'.Try t hs None (Some d1))
    ∙ ap (λ z. stmt_step (open'.Try z (map folded_handler hs) None (Some (folded_clause d1)))) (clause_same t)
    ∙ ap (λ z. stmt_step (open'.Try (stated_clause t) z None (Some (folded_clause d1)))) (handlers_same hs)
    ∙ ap (λ z. stmt_step (open'.Try (stated_clause t) (stated_handlers hs) None (Some z))) (clause_same d1)
stated_try t hs (Some e1) None = ap stated (sym (s.rolls-Try t hs (Some e1) None)) ∙
    fold-roll-Stmt Stated Armed Claused Handled stmt_step arm_step clause_step handler_step
    (open'.Try t hs (Some e1) None)
    ∙ ap (λ z. stmt_step (open'.Try z (map folded_handler hs) (Some (folded_clause e1)) None)) (clause_same t)
    ∙ ap (λ z. stmt_step (open'.Try (stated_clause t) z (Some (folded_clause e1)) None)) (handlers_same hs)
    ∙ ap (λ z. stmt_step (open'.Try (stated_clause t) (stated_handlers hs) (Some z) None)) (clause_same e1)
stated_try t hs (Some e1) (Some d1) = ap stated (sym (s.rolls-Try t hs (Some e1) (Some d1))) ∙
    fold-roll-Stmt Stated Armed Claused Handled stmt_step arm_step clause_step handler_step
    (open'.Try t hs (Some e1) (Some d1))
    ∙ ap (λ z. stmt_step (open'.Try z (map folded_handler hs) (Some (folded_clause e1)) (Some (folded_clause d1))))
    (clause_same t)
    ∙ ap (λ z. stmt_step (open'.Try (stated_clause t) z (Some (folded_clause e1)) (Some (folded_clause d1))))
    (handlers_same hs)
    ∙ ap (λ z. stmt_step (open'.Try (stated_clause t) (stated_handlers hs) (Some z) (Some (folded_clause d1))))
    (clause_same e1)
    ∙ ap (λ z. stmt_step (open'.Try (stated_clause t) (stated_handlers hs) (Some (stated_clause e1)) (Some z)))
    (clause_same d1)

pub stated_def : (ln : ℕ) (x : List ℕ) (ps : List Param) (ss : List Stmt) →
    stated (s.Def ln x ps ss) ≡ record {
      bodies = 1 + count (all_stated ss);
      code = λ n c f.
          def ln (values n ln (defaults ps)) f (home n x);
      inner = inner_body ln x false (length ps) (all_stated ss);
    }
unfolding stated folded_arm folded_clause folded_handler
stated_def ln x ps ss = ap stated (sym (s.rolls-Def ln x ps ss)) ∙
    fold-roll-Stmt Stated Armed Claused Handled stmt_step arm_step clause_step handler_step (open'.Def ln x ps ss)
    ∙ ap (λ z. stmt_step (open'.Def ln x ps z)) (all_same ss)

pub stated_class : (ln : ℕ) (x : List ℕ) (b : Option Expr) (ss : List Stmt) →
    stated (s.Class ln x b ss) ≡ record {
      bodies = 1 + count (all_stated ss);
      code = λ n c f.
          class ln (base n ln b) f (home n x);
      inner = inner_body ln x true 0 (all_stated ss);
    }
unfolding stated folded_arm folded_clause folded_handler
stated_class ln x b ss = ap stated (sym (s.rolls-Class ln x b ss)) ∙
    fold-roll-Stmt Stated Armed Claused Handled stmt_step arm_step clause_step handler_step (open'.Class ln x b ss)
    ∙ ap (λ z. stmt_step (open'.Class ln x b z)) (all_same ss)

-- weights

weight_arm : Arm → ℕ
weight_arm = fold-Arm ℕ ℕ ℕ ℕ weight_step w.arm_step w.clause_step w.handler_step

weight_clause : Clause → ℕ
weight_clause = fold-Clause ℕ ℕ ℕ ℕ weight_step w.arm_step w.clause_step w.handler_step

weight_handler : Handler → ℕ
weight_handler = fold-Handler ℕ ℕ ℕ ℕ weight_step w.arm_step w.clause_step w.handler_step

weights_same : (ss : List Stmt) → total (map weight ss) ≡ weights ss
weights_same [] = refl
weights_same (x ∷ ss) = ap (λ z. weight x + z) (weights_same ss)

warm_same : (a : Arm) → weight_arm a ≡ weights a.body
unfolding weight_arm weight
warm_same a = fold_out-Arm ℕ ℕ ℕ ℕ weight_step w.arm_step w.clause_step w.handler_step a ∙ weights_same a.body

wclause_same : (a : Clause) → weight_clause a ≡ weights a.body
unfolding weight_clause weight
wclause_same a = fold_out-Clause ℕ ℕ ℕ ℕ weight_step w.arm_step w.clause_step w.handler_step a ∙ weights_same a.body

whandler_same : (a : Handler) → weight_handler a ≡ weights a.body
unfolding weight_handler weight
whandler_same a = fold_out-Handler ℕ ℕ ℕ ℕ weight_step w.arm_step w.clause_step w.handler_step a ∙ weights_same a.body

warms_same : (xs : List Arm) → total (map weight_arm xs) ≡ weights_arms xs
warms_same [] = refl
warms_same (a ∷ xs) = ap (λ z. z + total (map weight_arm xs)) (warm_same a) ∙
    ap (λ z. weights a.body + z) (warms_same xs)

whandlers_same : (xs : List Handler) → total (map weight_handler xs) ≡ weights_handlers xs
whandlers_same [] = refl
whandlers_same (a ∷ xs) = ap (λ z. z + total (map weight_handler xs)) (whandler_same a) ∙
    ap (λ z. weights a.body + z) (whandlers_same xs)

pub weight_if : (as' : List Arm) (e : Option Clause) → weight (s.If as' e) ≡ 8 + (weights_arms as' + weights_some e)
unfolding weight weight_arm weight_clause weight_handler
weight_if as' None = ap weight (sym (s.rolls-If as' None)) ∙
    fold-roll-Stmt ℕ ℕ ℕ ℕ weight_step w.arm_step w.clause_step w.handler_step (open'.If as' None)
    ∙ ap (λ z. 8 + (z + 0)) (warms_same as')
weight_if as' (Some e1) = ap weight (sym (s.rolls-If as' (Some e1))) ∙
    fold-roll-Stmt ℕ ℕ ℕ ℕ weight_step w.arm_step w.clause_step w.handler_step (open'.If as' (Some e1))
    ∙ ap (λ z. 8 + (z + weight_clause e1)) (warms_same as')
    ∙ ap (λ z. 8 + (weights_arms as' + z)) (wclause_same e1)

pub weight_while : (a : Arm) (e : Option Clause) → weight (s.While a e) ≡ 8 + (weights a.body + weights_some e)
unfolding weight weight_arm weight_clause weight_handler
weight_while a None = ap weight (sym (s.rolls-While a None)) ∙
    fold-roll-Stmt ℕ ℕ ℕ ℕ weight_step w.arm_step w.clause_step w.handler_step (open'.While a None)
    ∙ ap (λ z. 8 + (z + 0)) (warm_same a)
weight_while a (Some e1) = ap weight (sym (s.rolls-While a (Some e1))) ∙
    fold-roll-Stmt ℕ ℕ ℕ ℕ weight_step w.arm_step w.clause_step w.handler_step (open'.While a (Some e1))
    ∙ ap (λ z. 8 + (z + weight_clause e1)) (warm_same a)
    ∙ ap (λ z. 8 + (weights a.body + z)) (wclause_same e1)

pub weight_for : (ln : ℕ) (t : Expr) (x : Expr) (ss : List Stmt) (e : Option Clause) →
    weight (s.For ln t x ss e) ≡ 8 + (weights ss + weights_some e)
unfolding weight weight_arm weight_clause weight_handler
weight_for ln t x ss None = ap weight (sym (s.rolls-For ln t x ss None)) ∙
    fold-roll-Stmt ℕ ℕ ℕ ℕ weight_step w.arm_step w.clause_step w.handler_step (open'.For ln t x ss None)
    ∙ ap (λ z. 8 + (z + 0)) (weights_same ss)
weight_for ln t x ss (Some e1) = ap weight (sym (s.rolls-For ln t x ss (Some e1))) ∙
    fold-roll-Stmt ℕ ℕ ℕ ℕ weight_step w.arm_step w.clause_step w.handler_step (open'.For ln t x ss (Some e1))
    ∙ ap (λ z. 8 + (z + weight_clause e1)) (weights_same ss)
    ∙ ap (λ z. 8 + (weights ss + z)) (wclause_same e1)

pub weight_try : (t : Clause) (hs : List Handler) (e : Option Clause) (d : Option Clause) →
    weight (s.Try t hs e d) ≡ 16 + (weights t.body + (weights_handlers hs + (weights_some e + weights_some d)))
unfolding weight weight_arm weight_clause weight_handler
weight_try t hs None None = ap weight (sym (s.rolls-Try t hs None None)) ∙
    fold-roll-Stmt ℕ ℕ ℕ ℕ weight_step w.arm_step w.clause_step w.handler_step (open'.Try t hs None None)
    ∙ ap (λ z. 16 + (z + (total (map weight_handler hs) + (0 + 0)))) (wclause_same t)
    ∙ ap (λ z. 16 + (weights t.body + (z + (0 + 0)))) (whandlers_same hs)
weight_try t hs None (Some d1) = ap weight (sym (s.rolls-Try t hs None (Some d1))) ∙
    fold-roll-Stmt ℕ ℕ ℕ ℕ weight_step w.arm_step w.clause_step w.handler_step (open'.Try t hs None (Some d1))
    ∙ ap (λ z. 16 + (z + (total (map weight_handler hs) + (0 + weight_clause d1)))) (wclause_same t)
    ∙ ap (λ z. 16 + (weights t.body + (z + (0 + weight_clause d1)))) (whandlers_same hs)
    ∙ ap (λ z. 16 + (weights t.body + (weights_handlers hs + (0 + z)))) (wclause_same d1)
weight_try t hs (Some e1) None = ap weight (sym (s.rolls-Try t hs (Some e1) None)) ∙
    fold-roll-Stmt ℕ ℕ ℕ ℕ weight_step w.arm_step w.clause_step w.handler_step (open'.Try t hs (Some e1) None)
    ∙ ap (λ z. 16 + (z + (total (map weight_handler hs) + (weight_clause e1 + 0)))) (wclause_same t)
    ∙ ap (λ z. 16 + (weights t.body + (z + (weight_clause e1 + 0)))) (whandlers_same hs)
    ∙ ap (λ z. 16 + (weights t.body + (weights_handlers hs + (z + 0)))) (wclause_same e1)
weight_try t hs (Some e1) (Some d1) = ap weight (sym (s.rolls-Try t hs (Some e1) (Some d1))) ∙
    fold-roll-Stmt ℕ ℕ ℕ ℕ weight_step w.arm_step w.clause_step w.handler_step (open'.Try t hs (Some e1) (Some d1))
    ∙ ap (λ z. 16 + (z + (total (map weight_handler hs) + (weight_clause e1 + weight_clause d1)))) (wclause_same t)
    ∙ ap (λ z. 16 + (weights t.body + (z + (weight_clause e1 + weight_clause d1)))) (whandlers_same hs)
    ∙ ap (λ z. 16 + (weights t.body + (weights_handlers hs + (z + weight_clause d1)))) (wclause_same e1)
    ∙ ap (λ z. 16 + (weights t.body + (weights_handlers hs + (weights e1.body + z)))) (wclause_same d1)

pub weight_def : (ln : ℕ) (x : List ℕ) (ps : List Param) (ss : List Stmt) → weight (s.Def ln x ps ss) ≡ 8 + weights ss
unfolding weight weight_arm weight_clause weight_handler
weight_def ln x ps ss = ap weight (sym (s.rolls-Def ln x ps ss)) ∙
    fold-roll-Stmt ℕ ℕ ℕ ℕ weight_step w.arm_step w.clause_step w.handler_step (open'.Def ln x ps ss)
    ∙ ap (λ z. 8 + z) (weights_same ss)

pub weight_class : (ln : ℕ) (x : List ℕ) (b : Option Expr) (ss : List Stmt) →
    weight (s.Class ln x b ss) ≡ 8 + weights ss
unfolding weight weight_arm weight_clause weight_handler
weight_class ln x b ss = ap weight (sym (s.rolls-Class ln x b ss)) ∙
    fold-roll-Stmt ℕ ℕ ℕ ℕ weight_step w.arm_step w.clause_step w.handler_step (open'.Class ln x b ss)
    ∙ ap (λ z. 8 + z) (weights_same ss)

-- a `try` with or without its finally

finally_bodies : (ln : ℕ) (t : Stated) (d : Option Claused) → (finally ln t d).bodies ≡ t.bodies + (other d).bodies
finally_bodies ln t None = omega arith
finally_bodies ln t (Some d) = refl

finally_inner : (ln : ℕ) (t : Stated) (d : Option Claused) (f : ℕ) →
    (finally ln t d).inner f ≡ t.inner f ++ (other d).inner (f + t.bodies)
finally_inner ln t None f = sym (append-nil (t.inner f))
finally_inner ln t (Some d) f = refl

pub bodies_try : (t : Clause) (hs : List Handler) (e d : Option Clause) →
    (stated (s.Try t hs e d)).bodies ≡ (tried_of t hs e).bodies + (otherwise d).bodies
bodies_try t hs e d = ap (λ z. z.bodies) (stated_try t hs e d) ∙ finally_bodies t.line (tried_of t hs e) (stated_some d)

pub inner_try : (t : Clause) (hs : List Handler) (e d : Option Clause) (f : ℕ) →
    (stated (s.Try t hs e d)).inner f ≡ (tried_of t hs e).inner f ++ (otherwise d).inner (f + (tried_of t hs e).bodies)
inner_try t hs e d f = ap (λ z. z.inner f) (stated_try t hs e d) ∙
    finally_inner t.line (tried_of t hs e) (stated_some d) f

pub ruleset body_rules = (
  stated_do,
  stated_assign,
  stated_augment,
  stated_print,
  stated_pass,
  stated_break,
  stated_continue,
  stated_return,
  stated_raise,
  stated_del,
  stated_global,
  stated_assert,
  stated_import,
  stated_from,
  stated_if,
  stated_while,
  stated_for,
  stated_def,
  stated_class,
  weight_if,
  weight_while,
  weight_for,
  weight_def,
  weight_class,
  weight_try,
  bodies_try,
  inner_try,
)

-- a `try` with except clauses
pub try_code : (t : Clause) (hs : List Handler) (x : Handler) (xs : List Handler) (e : Option Clause) (n : Known)
    (c : List Around) (f : ℕ) → hs ≡ x ∷ xs →
    (tried_of t hs e).code n c f ≡ try_except t.line ((stated_block t.body).code n (InTry ∷ c) f)
    (handled (stated_handlers hs) n c (f + count (all_stated t.body)))
    ((otherwise e).code n c (f + count (all_stated t.body) + handled_count (stated_handlers hs)))
try_code t hs x xs e n c f eq = rw eq refl
