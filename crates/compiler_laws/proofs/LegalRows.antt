-- The equations of `legal`.
use Rattle.std.proofs.Common.{◌≡◌, ℕ, Bool, true, false, ◌&&◌, List, [], ◌∷◌, map, Option, Some, None, refl, sym, ap, ◌∙◌}
use Rattle.py_tree.specs.declared.expr.Expr.{Expr}
use Rattle.py_tree.specs.declared.expr.Operator.{Operator}
use Rattle.py_tree.specs.declared.stmt.Stmt.{Stmt}
use Rattle.py_tree.specs.declared.stmt.Imported.{Imported}
use Rattle.py_tree.specs.declared.stmt.Param.{Param}
use Rattle.py_tree.specs.declared.stmt.Arm.{Arm}
use Rattle.py_tree.specs.declared.stmt.Clause.{Clause}
use Rattle.py_tree.specs.declared.stmt.Handler.{Handler}
use Rattle.py_tree.specs.declared.stmt.Stmt.TheVariants as s
use Rattle.py_tree.specs.declared.stmt.Stmt.TheOpen as open'
use Rattle.py_tree.specs.declared.stmt.Stmt.TheFolds.{fold-roll-Stmt, fold_out-Arm, fold_out-Clause, fold_out-Handler}
use Rattle.py_tree.specs.Form.{form, is_single}
use Rattle.compiler_laws.proofs.Sane.{sane, all_sane, sane_some}
use Rattle.compiler_laws.proofs.Legal.{Legal, always, both, all_legal, is_target_of, are_targets, target_some, sane_defaults, raises, stmt_step, arm_step, clause_step, handler_step, legal, legal_by_arm, legal_by_clause, legal_by_handler, legal_all}

-- parts in turn
abbrev pub legal_arm : Arm → Legal
legal_arm a = both (always (sane a.test)) (legal_all a.body)

abbrev pub legal_arms : List Arm → Legal
legal_arms [] l c = true
legal_arms (a ∷ as') l c = legal_arm a l c && legal_arms as' l c

abbrev pub legal_clause : Option Clause → Legal
legal_clause None l c = true
legal_clause (Some d) l c = legal_all d.body l c

abbrev pub legal_handler : Handler → Legal
legal_handler h = both (always (sane_some h.test && target_some h.target)) (legal_all h.body)

abbrev pub legal_handlers : List Handler → Legal
legal_handlers [] l c = true
legal_handlers (h ∷ hs) l c = legal_handler h l c && legal_handlers hs l c

abbrev pub clause_there : List Handler → Option Clause → Bool
clause_there [] None = true
clause_there [] (Some e) = false
clause_there (h ∷ hs) e = true

arm : (a : Arm) → legal_by_arm a ≡ legal_arm a
unfolding legal_by_arm legal
arm a = fold_out-Arm Legal Legal Legal Legal stmt_step arm_step clause_step handler_step a

clause : (a : Clause) → legal_by_clause a ≡ legal_all a.body
unfolding legal_by_clause legal
clause a = fold_out-Clause Legal Legal Legal Legal stmt_step arm_step clause_step handler_step a

handler : (h : Handler) → legal_by_handler h ≡ legal_handler h
unfolding legal_by_handler legal
handler h = fold_out-Handler Legal Legal Legal Legal stmt_step arm_step clause_step handler_step h

arms : (as' : List Arm) (l c : Bool) → all_legal (map legal_by_arm as') l c ≡ legal_arms as' l c
arms [] l c = refl
arms (a ∷ as') l c = ap (λ g. g l c && all_legal (map legal_by_arm as') l c) (arm a) ∙
    ap (λ z. legal_arm a l c && z) (arms as' l c)

handlers : (hs : List Handler) (l c : Bool) → all_legal (map legal_by_handler hs) l c ≡ legal_handlers hs l c
handlers [] l c = refl
handlers (h ∷ hs) l c = ap (λ g. g l c && all_legal (map legal_by_handler hs) l c) (handler h) ∙
    ap (λ z. legal_handler h l c && z) (handlers hs l c)

pub legal_do : (ln : ℕ) (e : Expr) (l c : Bool) → legal (s.Do ln e) l c ≡ sane e
unfolding legal legal_by_arm legal_by_clause legal_by_handler
legal_do ln e l c = ap (λ z. legal z l c) (sym (s.rolls-Do ln e)) ∙
    ap (λ f. f l c) (fold-roll-Stmt Legal Legal Legal Legal stmt_step arm_step clause_step handler_step (open'.Do ln e))

pub legal_assign : (ln : ℕ) (ts : List Expr) (e : Expr) (l c : Bool) →
    legal (s.Assign ln ts e) l c ≡ (are_targets ts && sane e)
unfolding legal legal_by_arm legal_by_clause legal_by_handler
legal_assign ln ts e l c = ap (λ z. legal z l c) (sym (s.rolls-Assign ln ts e)) ∙
    ap (λ f. f l c) (fold-roll-Stmt Legal Legal Legal Legal stmt_step arm_step clause_step handler_step
    (open'.Assign ln ts e))

pub legal_augment : (ln : ℕ) (t : Expr) (o : Operator) (e : Expr) (l c : Bool) →
    legal (s.Augment ln t o e) l c ≡ ((is_single false (form t) && sane t) && sane e)
unfolding legal legal_by_arm legal_by_clause legal_by_handler
legal_augment ln t o e l c = ap (λ z. legal z l c) (sym (s.rolls-Augment ln t o e)) ∙
    ap (λ f. f l c) (fold-roll-Stmt Legal Legal Legal Legal stmt_step arm_step clause_step handler_step
    (open'.Augment ln t o e))

pub legal_print : (ln : ℕ) (es : List Expr) (comma : Bool) (l c : Bool) → legal (s.Print ln es comma) l c ≡ all_sane es
unfolding legal legal_by_arm legal_by_clause legal_by_handler
legal_print ln es comma l c = ap (λ z. legal z l c) (sym (s.rolls-Print ln es comma)) ∙
    ap (λ f. f l c) (fold-roll-Stmt Legal Legal Legal Legal stmt_step arm_step clause_step handler_step
    (open'.Print ln es comma))

pub legal_pass : (ln : ℕ) (l c : Bool) → legal (s.Pass ln) l c ≡ true
unfolding legal legal_by_arm legal_by_clause legal_by_handler
legal_pass ln l c = ap (λ z. legal z l c) (sym (s.rolls-Pass ln)) ∙
    ap (λ f. f l c) (fold-roll-Stmt Legal Legal Legal Legal stmt_step arm_step clause_step handler_step (open'.Pass ln))

pub legal_break : (ln : ℕ) (l c : Bool) → legal (s.Break ln) l c ≡ l
unfolding legal legal_by_arm legal_by_clause legal_by_handler
legal_break ln l c = ap (λ z. legal z l c) (sym (s.rolls-Break ln)) ∙
    ap (λ f. f l c) (fold-roll-Stmt Legal Legal Legal Legal stmt_step arm_step clause_step handler_step
    (open'.Break ln))

pub legal_continue : (ln : ℕ) (l c : Bool) → legal (s.Continue ln) l c ≡ l
unfolding legal legal_by_arm legal_by_clause legal_by_handler
legal_continue ln l c = ap (λ z. legal z l c) (sym (s.rolls-Continue ln)) ∙
    ap (λ f. f l c) (fold-roll-Stmt Legal Legal Legal Legal stmt_step arm_step clause_step handler_step
    (open'.Continue ln))

pub legal_raise : (ln : ℕ) (e v : Option Expr) (l c : Bool) → legal (s.Raise ln e v) l c ≡ raises e v l c
unfolding legal legal_by_arm legal_by_clause legal_by_handler
legal_raise ln None None l c = ap (λ z. legal z l c) (sym (s.rolls-Raise ln None None)) ∙
    ap (λ f. f l c) (fold-roll-Stmt Legal Legal Legal Legal stmt_step arm_step clause_step handler_step
    (open'.Raise ln None None))
legal_raise ln None (Some v) l c = ap (λ z. legal z l c) (sym (s.rolls-Raise ln None (Some v))) ∙
    ap (λ f. f l c) (fold-roll-Stmt Legal Legal Legal Legal stmt_step arm_step clause_step handler_step
    (open'.Raise ln None (Some v)))
legal_raise ln (Some e) None l c = ap (λ z. legal z l c) (sym (s.rolls-Raise ln (Some e) None)) ∙
    ap (λ f. f l c) (fold-roll-Stmt Legal Legal Legal Legal stmt_step arm_step clause_step handler_step
    (open'.Raise ln (Some e) None))
legal_raise ln (Some e) (Some v) l c = ap (λ z. legal z l c) (sym (s.rolls-Raise ln (Some e) (Some v))) ∙
    ap (λ f. f l c) (fold-roll-Stmt Legal Legal Legal Legal stmt_step arm_step clause_step handler_step
    (open'.Raise ln (Some e) (Some v)))

pub legal_del : (ln : ℕ) (ts : List Expr) (l c : Bool) → legal (s.Del ln ts) l c ≡ are_targets ts
unfolding legal legal_by_arm legal_by_clause legal_by_handler
legal_del ln ts l c = ap (λ z. legal z l c) (sym (s.rolls-Del ln ts)) ∙
    ap (λ f. f l c) (fold-roll-Stmt Legal Legal Legal Legal stmt_step arm_step clause_step handler_step
    (open'.Del ln ts))

pub legal_global : (ln : ℕ) (xs : List (List ℕ)) (l c : Bool) → legal (s.Global ln xs) l c ≡ true
unfolding legal legal_by_arm legal_by_clause legal_by_handler
legal_global ln xs l c = ap (λ z. legal z l c) (sym (s.rolls-Global ln xs)) ∙
    ap (λ f. f l c) (fold-roll-Stmt Legal Legal Legal Legal stmt_step arm_step clause_step handler_step
    (open'.Global ln xs))

pub legal_import : (ln : ℕ) (is : List Imported) (l c : Bool) → legal (s.Import ln is) l c ≡ true
unfolding legal legal_by_arm legal_by_clause legal_by_handler
legal_import ln is l c = ap (λ z. legal z l c) (sym (s.rolls-Import ln is)) ∙
    ap (λ f. f l c) (fold-roll-Stmt Legal Legal Legal Legal stmt_step arm_step clause_step handler_step
    (open'.Import ln is))

pub legal_from : (ln : ℕ) (m : List ℕ) (is : List Imported) (l c : Bool) → legal (s.From ln m is) l c ≡ true
unfolding legal legal_by_arm legal_by_clause legal_by_handler
legal_from ln m is l c = ap (λ z. legal z l c) (sym (s.rolls-From ln m is)) ∙
    ap (λ f. f l c) (fold-roll-Stmt Legal Legal Legal Legal stmt_step arm_step clause_step handler_step
    (open'.From ln m is))

pub legal_return : (ln : ℕ) (e : Option Expr) (l c : Bool) → legal (s.Return ln e) l c ≡ sane_some e
unfolding legal legal_by_arm legal_by_clause legal_by_handler
legal_return ln None l c = ap (λ z. legal z l c) (sym (s.rolls-Return ln None)) ∙
    ap (λ f. f l c) (fold-roll-Stmt Legal Legal Legal Legal stmt_step arm_step clause_step handler_step
    (open'.Return ln None))
legal_return ln (Some e) l c = ap (λ z. legal z l c) (sym (s.rolls-Return ln (Some e))) ∙
    ap (λ f. f l c) (fold-roll-Stmt Legal Legal Legal Legal stmt_step arm_step clause_step handler_step
    (open'.Return ln (Some e)))

pub legal_assert : (ln : ℕ) (t : Expr) (m : Option Expr) (l c : Bool) →
    legal (s.Assert ln t m) l c ≡ (sane t && sane_some m)
unfolding legal legal_by_arm legal_by_clause legal_by_handler
legal_assert ln t None l c = ap (λ z. legal z l c) (sym (s.rolls-Assert ln t None)) ∙
    ap (λ f. f l c) (fold-roll-Stmt Legal Legal Legal Legal stmt_step arm_step clause_step handler_step
    (open'.Assert ln t None))
legal_assert ln t (Some m) l c = ap (λ z. legal z l c) (sym (s.rolls-Assert ln t (Some m))) ∙
    ap (λ f. f l c) (fold-roll-Stmt Legal Legal Legal Legal stmt_step arm_step clause_step handler_step
    (open'.Assert ln t (Some m)))

pub legal_if : (as' : List Arm) (d : Option Clause) (l c : Bool) →
    legal (s.If as' d) l c ≡ (legal_arms as' l c && legal_clause d l c)
unfolding legal legal_by_arm legal_by_clause legal_by_handler
legal_if as' None l c = ap (λ z. legal z l c) (sym (s.rolls-If as' None)) ∙
    ap (λ f. f l c) (fold-roll-Stmt Legal Legal Legal Legal stmt_step arm_step clause_step handler_step
    (open'.If as' None)) ∙ ap (λ z. z && true) (arms as' l c)
legal_if as' (Some d) l c = ap (λ z. legal z l c) (sym (s.rolls-If as' (Some d))) ∙
    ap (λ f. f l c) (fold-roll-Stmt Legal Legal Legal Legal stmt_step arm_step clause_step handler_step
    (open'.If as' (Some d))) ∙ ap (λ z. z && legal_by_clause d l c) (arms as' l c) ∙
    ap (λ g. legal_arms as' l c && g l c) (clause d)

pub legal_while : (a : Arm) (d : Option Clause) (l c : Bool) →
    legal (s.While a d) l c ≡ (legal_arm a true c && legal_clause d l c)
unfolding legal legal_by_arm legal_by_clause legal_by_handler
legal_while a None l c = ap (λ z. legal z l c) (sym (s.rolls-While a None)) ∙
    ap (λ f. f l c) (fold-roll-Stmt Legal Legal Legal Legal stmt_step arm_step clause_step handler_step
    (open'.While a None)) ∙ ap (λ g. g true c && true) (arm a)
legal_while a (Some d) l c = ap (λ z. legal z l c) (sym (s.rolls-While a (Some d))) ∙
    ap (λ f. f l c) (fold-roll-Stmt Legal Legal Legal Legal stmt_step arm_step clause_step handler_step
    (open'.While a (Some d))) ∙ ap (λ g. g true c && legal_by_clause d l c) (arm a) ∙
    ap (λ g. legal_arm a true c && g l c) (clause d)

pub legal_for : (ln : ℕ) (t x : Expr) (ss : List Stmt) (d : Option Clause) (l c : Bool) →
    legal (s.For ln t x ss d) l c ≡ ((is_target_of t && sane x) && (legal_all ss true c && legal_clause d l c))
unfolding legal legal_by_arm legal_by_clause legal_by_handler
legal_for ln t x ss None l c = ap (λ z. legal z l c) (sym (s.rolls-For ln t x ss None)) ∙
    ap (λ f. f l c) (fold-roll-Stmt Legal Legal Legal Legal stmt_step arm_step clause_step handler_step
    (open'.For ln t x ss None))
legal_for ln t x ss (Some d) l c = ap (λ z. legal z l c) (sym (s.rolls-For ln t x ss (Some d))) ∙
    ap (λ f. f l c) (fold-roll-Stmt Legal Legal Legal Legal stmt_step arm_step clause_step handler_step
    (open'.For ln t x ss (Some d))) ∙ ap (λ g. (is_target_of t && sane x) && (legal_all ss true c && g l c)) (clause d)

pub legal_try : (b : Clause) (hs : List Handler) (d f : Option Clause) (l c : Bool) →
    legal (s.Try b hs d f) l c ≡ (legal_all b.body l c &&
    (legal_handlers hs l true && (legal_clause d l c && (legal_clause f l c && clause_there hs d))))
unfolding legal legal_by_arm legal_by_clause legal_by_handler
legal_try b [] None None l c = ap (λ z. legal z l c) (sym (s.rolls-Try b [] None None)) ∙
    ap (λ f. f l c) (fold-roll-Stmt Legal Legal Legal Legal stmt_step arm_step clause_step handler_step
    (open'.Try b [] None None)) ∙ ap (λ g.
    g l c && (all_legal (map legal_by_handler []) l true && (true && (true && true)))) (clause b) ∙
    ap (λ z. legal_all b.body l c && (z && (true && (true && true)))) (handlers [] l true)
legal_try b [] None (Some f) l c = ap (λ z. legal z l c) (sym (s.rolls-Try b [] None (Some f))) ∙
    ap (λ f. f l c) (fold-roll-Stmt Legal Legal Legal Legal stmt_step arm_step clause_step handler_step
    (open'.Try b [] None (Some f))) ∙ ap
    (λ g. g l c && (all_legal (map legal_by_handler []) l true && (true && (legal_by_clause f l c && true))))
    (clause b) ∙ ap (λ z. legal_all b.body l c && (z && (true && (legal_by_clause f l c && true))))
    (handlers [] l true) ∙ ap (λ g. legal_all b.body l c && (legal_handlers [] l true && (true && (g l c && true))))
    (clause f)
legal_try b [] (Some d) None l c = ap (λ z. legal z l c) (sym (s.rolls-Try b [] (Some d) None)) ∙
    ap (λ f. f l c) (fold-roll-Stmt Legal Legal Legal Legal stmt_step arm_step clause_step handler_step
    (open'.Try b [] (Some d) None)) ∙ ap
    (λ g. g l c && (all_legal (map legal_by_handler []) l true && (legal_by_clause d l c && (true && false))))
    (clause b) ∙ ap (λ z. legal_all b.body l c && (z && (legal_by_clause d l c && (true && false))))
    (handlers [] l true) ∙ ap (λ g. legal_all b.body l c && (legal_handlers [] l true && (g l c && (true && false))))
    (clause d)
legal_try b [] (Some d) (Some f) l c = ap (λ z. legal z l c) (sym (s.rolls-Try b [] (Some d) (Some f))) ∙
    ap (λ f. f l c) (fold-roll-Stmt Legal Legal Legal Legal stmt_step arm_step clause_step handler_step
    (open'.Try b [] (Some d) (Some f))) ∙
    ap (λ g. g l c && (all_legal (map legal_by_handler []) l true &&
    (legal_by_clause d l c && (legal_by_clause f l c && false)))) (clause b) ∙
    ap (λ z. legal_all b.body l c && (z && (legal_by_clause d l c && (legal_by_clause f l c && false))))
    (handlers [] l true) ∙ ap (λ g. legal_all b.body l c &&
    (legal_handlers [] l true && (g l c && (legal_by_clause f l c && false)))) (clause d) ∙
    ap (λ g. legal_all b.body l c && (legal_handlers [] l true && (legal_all d.body l c && (g l c && false))))
    (clause f)
legal_try b (h ∷ hs) None None l c = ap (λ z. legal z l c) (sym (s.rolls-Try b (h ∷ hs) None None)) ∙
    ap (λ f. f l c) (fold-roll-Stmt Legal Legal Legal Legal stmt_step arm_step clause_step handler_step
    (open'.Try b (h ∷ hs) None None)) ∙ ap
    (λ g. g l c && (all_legal (map legal_by_handler (h ∷ hs)) l true && (true && (true && true)))) (clause b) ∙
    ap (λ z. legal_all b.body l c && (z && (true && (true && true)))) (handlers (h ∷ hs) l true)
legal_try b (h ∷ hs) None (Some f) l c = ap (λ z. legal z l c) (sym (s.rolls-Try b (h ∷ hs) None (Some f))) ∙
    ap (λ f. f l c) (fold-roll-Stmt Legal Legal Legal Legal stmt_step arm_step clause_step handler_step
    (open'.Try b (h ∷ hs) None (Some f))) ∙
    ap (λ g. g l c && (all_legal (map legal_by_handler (h ∷ hs)) l true && (true && (legal_by_clause f l c && true))))
    (clause b) ∙ ap (λ z. legal_all b.body l c && (z && (true && (legal_by_clause f l c && true))))
    (handlers (h ∷ hs) l true) ∙ ap (λ g.
    legal_all b.body l c && (legal_handlers (h ∷ hs) l true && (true && (g l c && true)))) (clause f)
legal_try b (h ∷ hs) (Some d) None l c = ap (λ z. legal z l c) (sym (s.rolls-Try b (h ∷ hs) (Some d) None)) ∙
    ap (λ f. f l c) (fold-roll-Stmt Legal Legal Legal Legal stmt_step arm_step clause_step handler_step
    (open'.Try b (h ∷ hs) (Some d) None)) ∙
    ap (λ g. g l c && (all_legal (map legal_by_handler (h ∷ hs)) l true && (legal_by_clause d l c && (true && true))))
    (clause b) ∙ ap (λ z. legal_all b.body l c && (z && (legal_by_clause d l c && (true && true))))
    (handlers (h ∷ hs) l true) ∙ ap (λ g.
    legal_all b.body l c && (legal_handlers (h ∷ hs) l true && (g l c && (true && true)))) (clause d)
legal_try b (h ∷ hs) (Some d) (Some f) l c = ap (λ z. legal z l c) (sym (s.rolls-Try b (h ∷ hs) (Some d) (Some f))) ∙
    ap (λ f. f l c) (fold-roll-Stmt Legal Legal Legal Legal stmt_step arm_step clause_step handler_step
    (open'.Try b (h ∷ hs) (Some d) (Some f))) ∙
    ap (λ g. g l c && (all_legal (map legal_by_handler (h ∷ hs)) l true &&
    (legal_by_clause d l c && (legal_by_clause f l c && true)))) (clause b) ∙
    ap (λ z. legal_all b.body l c && (z && (legal_by_clause d l c && (legal_by_clause f l c && true))))
    (handlers (h ∷ hs) l true) ∙ ap (λ g.
    legal_all b.body l c && (legal_handlers (h ∷ hs) l true && (g l c && (legal_by_clause f l c && true)))) (clause d)
    ∙ ap (λ g. legal_all b.body l c && (legal_handlers (h ∷ hs) l true && (legal_all d.body l c && (g l c && true))))
    (clause f)

pub legal_def : (ln : ℕ) (x : List ℕ) (ps : List Param) (ss : List Stmt) (l c : Bool) →
    legal (s.Def ln x ps ss) l c ≡ (sane_defaults ps && legal_all ss false false)
unfolding legal legal_by_arm legal_by_clause legal_by_handler
legal_def ln x ps ss l c = ap (λ z. legal z l c) (sym (s.rolls-Def ln x ps ss)) ∙
    ap (λ f. f l c) (fold-roll-Stmt Legal Legal Legal Legal stmt_step arm_step clause_step handler_step
    (open'.Def ln x ps ss))

pub legal_class : (ln : ℕ) (x : List ℕ) (e : Option Expr) (ss : List Stmt) (l c : Bool) →
    legal (s.Class ln x e ss) l c ≡ (sane_some e && legal_all ss false false)
unfolding legal legal_by_arm legal_by_clause legal_by_handler
legal_class ln x None ss l c = ap (λ z. legal z l c) (sym (s.rolls-Class ln x None ss)) ∙
    ap (λ f. f l c) (fold-roll-Stmt Legal Legal Legal Legal stmt_step arm_step clause_step handler_step
    (open'.Class ln x None ss))
legal_class ln x (Some e) ss l c = ap (λ z. legal z l c) (sym (s.rolls-Class ln x (Some e) ss)) ∙
    ap (λ f. f l c) (fold-roll-Stmt Legal Legal Legal Legal stmt_step arm_step clause_step handler_step
    (open'.Class ln x (Some e) ss))
