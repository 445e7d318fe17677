-- The equations of `stmt_uses`.
use Rattle.std.proofs.Common.{◌≡◌, ℕ, Bool, true, false, List, [], ◌∷◌, ◌++◌, map, Option, Some, None, refl, sym, ap, ◌∙◌}
use Rattle.py_tree.specs.declared.expr.Expr.{Expr}
use Rattle.py_tree.specs.declared.expr.Operator.{Operator}
use Rattle.py_tree.specs.declared.stmt.Stmt.{Stmt}
use Rattle.py_tree.specs.declared.stmt.Imported.{Imported}
use Rattle.py_tree.specs.declared.stmt.Param.{Param}
use Rattle.py_tree.specs.declared.stmt.Arm.{Arm}
use Rattle.py_tree.specs.declared.stmt.Clause.{Clause}
use Rattle.py_tree.specs.declared.stmt.Handler.{Handler}
use Rattle.py_tree.specs.declared.stmt.Stmt.TheVariants as s
use Rattle.py_tree.specs.declared.stmt.Stmt.TheOpen as open'
use Rattle.py_tree.specs.declared.stmt.Stmt.TheFolds.{fold-Arm, fold-Clause, fold-Handler, fold-roll-Stmt, fold_out-Arm, fold_out-Clause, fold_out-Handler}
use Rattle.py_tree.proofs.Talls.{tall_if, tall_while, tall_for, tall_try, tall_def, tall_class}
use Rattle.py_templates.specs.Uses.{Uses, name_bound, read, target, read_all, target_all, read_some, target_some, read_defaults, import_use, quiet, in_turn, none_used, all_in_turn, body_used, stmt_step, arm_step, clause_step, handler_step, stmt_uses}
use Rattle.py_uses.specs.inner.Tallies.{locals_in, block_uses, arm_uses, arms_uses, clause_uses, handler_uses, handlers_uses}

module _ (all : List (List (List ℕ))) where
  abbrev L : ℕ → List (List ℕ)
  L = locals_in all

  folded_arm : Arm → Uses
  folded_arm = fold-Arm Uses Uses Uses Uses (stmt_step L) (arm_step L) (clause_step L) (handler_step L)

  folded_clause : Clause → Uses
  folded_clause = fold-Clause Uses Uses Uses Uses (stmt_step L) (arm_step L) (clause_step L) (handler_step L)

  folded_handler : Handler → Uses
  folded_handler = fold-Handler Uses Uses Uses Uses (stmt_step L) (arm_step L) (clause_step L) (handler_step L)

  pub block : (ss : List Stmt) → all_in_turn (map (stmt_uses L) ss) ≡ block_uses all ss
  block [] = refl
  block (x ∷ ss) = ap (λ z. in_turn (stmt_uses L x) z) (block ss)

  arm : (a : Arm) → folded_arm a ≡ arm_uses all a
  unfolding folded_arm stmt_uses
  arm a = fold_out-Arm Uses Uses Uses Uses (stmt_step L) (arm_step L) (clause_step L) (handler_step L) a ∙
      ap (λ z. in_turn (quiet (λ b. read b a.test)) z) (block a.body)

  clause : (a : Clause) → folded_clause a ≡ block_uses all a.body
  unfolding folded_clause stmt_uses
  clause a = fold_out-Clause Uses Uses Uses Uses (stmt_step L) (arm_step L) (clause_step L) (handler_step L) a ∙
      block a.body

  handler : (h : Handler) → folded_handler h ≡ handler_uses all h
  unfolding folded_handler stmt_uses
  handler h = fold_out-Handler Uses Uses Uses Uses (stmt_step L) (arm_step L) (clause_step L) (handler_step L) h ∙
      ap (λ z. in_turn (quiet (λ b. read_some b h.test ++ target_some b h.target)) z) (block h.body)

  arms : (as' : List Arm) → all_in_turn (map folded_arm as') ≡ arms_uses all as'
  arms [] = refl
  arms (a ∷ as') = rw (arm a) (ap (λ z. in_turn (arm_uses all a) z) (arms as'))

  handlers : (hs : List Handler) → all_in_turn (map folded_handler hs) ≡ handlers_uses all hs
  handlers [] = refl
  handlers (h ∷ hs) = rw (handler h) (ap (λ z. in_turn (handler_uses all h) z) (handlers hs))

  pub uses_do : (l : ℕ) (e : Expr) → stmt_uses L (s.Do l e) ≡ quiet (λ b. read b e)
  unfolding stmt_uses folded_arm folded_clause folded_handler
  uses_do l e = ap (stmt_uses L) (sym (s.rolls-Do l e)) ∙ fold-roll-Stmt Uses Uses Uses Uses (stmt_step L) (arm_step L)
      (clause_step L) (handler_step L) (open'.Do l e)

  pub uses_assign : (l : ℕ) (ts : List Expr) (e : Expr) →
      stmt_uses L (s.Assign l ts e) ≡ quiet (λ b. target_all b ts ++ read b e)
  unfolding stmt_uses folded_arm folded_clause folded_handler
  uses_assign l ts e = ap (stmt_uses L) (sym (s.rolls-Assign l ts e)) ∙
      fold-roll-Stmt Uses Uses Uses Uses (stmt_step L) (arm_step L) (clause_step L) (handler_step L)
      (open'.Assign l ts e)

  pub uses_augment : (l : ℕ) (t : Expr) (o : Operator) (e : Expr) →
      stmt_uses L (s.Augment l t o e) ≡ quiet (λ b. read b t ++ target b t ++ read b e)
  unfolding stmt_uses folded_arm folded_clause folded_handler
  uses_augment l t o e = ap (stmt_uses L) (sym (s.rolls-Augment l t o e)) ∙
      fold-roll-Stmt Uses Uses Uses Uses (stmt_step L) (arm_step L) (clause_step L) (handler_step L)
      (open'.Augment l t o e)

  pub uses_print : (l : ℕ) (es : List Expr) (c : Bool) → stmt_uses L (s.Print l es c) ≡ quiet (λ b. read_all b es)
  unfolding stmt_uses folded_arm folded_clause folded_handler
  uses_print l es c = ap (stmt_uses L) (sym (s.rolls-Print l es c)) ∙
      fold-roll-Stmt Uses Uses Uses Uses (stmt_step L) (arm_step L) (clause_step L) (handler_step L)
      (open'.Print l es c)

  pub uses_pass : (l : ℕ) → stmt_uses L (s.Pass l) ≡ none_used
  unfolding stmt_uses folded_arm folded_clause folded_handler
  uses_pass l = ap (stmt_uses L) (sym (s.rolls-Pass l)) ∙ fold-roll-Stmt Uses Uses Uses Uses (stmt_step L) (arm_step L)
      (clause_step L) (handler_step L) (open'.Pass l)

  pub uses_break : (l : ℕ) → stmt_uses L (s.Break l) ≡ none_used
  unfolding stmt_uses folded_arm folded_clause folded_handler
  uses_break l = ap (stmt_uses L) (sym (s.rolls-Break l)) ∙
      fold-roll-Stmt Uses Uses Uses Uses (stmt_step L) (arm_step L) (clause_step L) (handler_step L) (open'.Break l)

  pub uses_continue : (l : ℕ) → stmt_uses L (s.Continue l) ≡ none_used
  unfolding stmt_uses folded_arm folded_clause folded_handler
  uses_continue l = ap (stmt_uses L) (sym (s.rolls-Continue l)) ∙
      fold-roll-Stmt Uses Uses Uses Uses (stmt_step L) (arm_step L) (clause_step L) (handler_step L) (open'.Continue l)

  pub uses_return : (l : ℕ) (e : Option Expr) → stmt_uses L (s.Return l e) ≡ quiet (λ b. read_some b e)
  unfolding stmt_uses folded_arm folded_clause folded_handler
  uses_return l e = ap (stmt_uses L) (sym (s.rolls-Return l e)) ∙
      fold-roll-Stmt Uses Uses Uses Uses (stmt_step L) (arm_step L) (clause_step L) (handler_step L) (open'.Return l e)

  pub uses_raise : (l : ℕ) (e : Option Expr) (v : Option Expr) →
      stmt_uses L (s.Raise l e v) ≡ quiet (λ b. read_some b e ++ read_some b v)
  unfolding stmt_uses folded_arm folded_clause folded_handler
  uses_raise l e v = ap (stmt_uses L) (sym (s.rolls-Raise l e v)) ∙
      fold-roll-Stmt Uses Uses Uses Uses (stmt_step L) (arm_step L) (clause_step L) (handler_step L) (open'.Raise l e v)

  pub uses_del : (l : ℕ) (ts : List Expr) → stmt_uses L (s.Del l ts) ≡ quiet (λ b. target_all b ts)
  unfolding stmt_uses folded_arm folded_clause folded_handler
  uses_del l ts = ap (stmt_uses L) (sym (s.rolls-Del l ts)) ∙
      fold-roll-Stmt Uses Uses Uses Uses (stmt_step L) (arm_step L) (clause_step L) (handler_step L) (open'.Del l ts)

  pub uses_global : (l : ℕ) (xs : List (List ℕ)) → stmt_uses L (s.Global l xs) ≡ none_used
  unfolding stmt_uses folded_arm folded_clause folded_handler
  uses_global l xs = ap (stmt_uses L) (sym (s.rolls-Global l xs)) ∙
      fold-roll-Stmt Uses Uses Uses Uses (stmt_step L) (arm_step L) (clause_step L) (handler_step L) (open'.Global l xs)

  pub uses_assert : (l : ℕ) (t : Expr) (m : Option Expr) →
      stmt_uses L (s.Assert l t m) ≡ quiet (λ b. read b t ++ read_some b m)
  unfolding stmt_uses folded_arm folded_clause folded_handler
  uses_assert l t m = ap (stmt_uses L) (sym (s.rolls-Assert l t m)) ∙
      fold-roll-Stmt Uses Uses Uses Uses (stmt_step L) (arm_step L) (clause_step L) (handler_step L)
      (open'.Assert l t m)

  pub uses_import : (l : ℕ) (is : List Imported) → stmt_uses L (s.Import l is) ≡ quiet (λ b. import_use b is)
  unfolding stmt_uses folded_arm folded_clause folded_handler
  uses_import l is = ap (stmt_uses L) (sym (s.rolls-Import l is)) ∙
      fold-roll-Stmt Uses Uses Uses Uses (stmt_step L) (arm_step L) (clause_step L) (handler_step L) (open'.Import l is)

  pub uses_from : (l : ℕ) (m : List ℕ) (is : List Imported) → stmt_uses L (s.From l m is) ≡ quiet (λ b. import_use b is)
  unfolding stmt_uses folded_arm folded_clause folded_handler
  uses_from l m is = ap (stmt_uses L) (sym (s.rolls-From l m is)) ∙
      fold-roll-Stmt Uses Uses Uses Uses (stmt_step L) (arm_step L) (clause_step L) (handler_step L) (open'.From l m is)

  pub uses_if : (as' : List Arm) (d : Option Clause) → stmt_uses L (s.If as' d) ≡ in_turn (arms_uses all as')
      (clause_uses all d)
  unfolding stmt_uses folded_arm folded_clause folded_handler
  uses_if as' None = ap (stmt_uses L) (sym (s.rolls-If as' None)) ∙
      fold-roll-Stmt Uses Uses Uses Uses (stmt_step L) (arm_step L) (clause_step L) (handler_step L)
      (open'.If as' None) ∙ ap (λ z. in_turn z none_used) (arms as')
  uses_if as' (Some d) = ap (stmt_uses L) (sym (s.rolls-If as' (Some d))) ∙
      fold-roll-Stmt Uses Uses Uses Uses (stmt_step L) (arm_step L) (clause_step L) (handler_step L)
      (open'.If as' (Some d)) ∙ ap (λ z. in_turn z (folded_clause d)) (arms as') ∙
      ap (λ z. in_turn (arms_uses all as') z) (clause d)

  pub uses_while : (a : Arm) (d : Option Clause) →
      stmt_uses L (s.While a d) ≡ in_turn (arm_uses all a) (clause_uses all d)
  unfolding stmt_uses folded_arm folded_clause folded_handler
  uses_while a None = ap (stmt_uses L) (sym (s.rolls-While a None)) ∙
      fold-roll-Stmt Uses Uses Uses Uses (stmt_step L) (arm_step L) (clause_step L) (handler_step L)
      (open'.While a None) ∙ ap (λ z. in_turn z none_used) (arm a)
  uses_while a (Some d) = ap (stmt_uses L) (sym (s.rolls-While a (Some d))) ∙
      fold-roll-Stmt Uses Uses Uses Uses (stmt_step L) (arm_step L) (clause_step L) (handler_step L)
      (open'.While a (Some d)) ∙ ap (λ z. in_turn z (folded_clause d)) (arm a) ∙
      ap (λ z. in_turn (arm_uses all a) z) (clause d)

  pub uses_for : (l : ℕ) (t : Expr) (x : Expr) (ss : List Stmt) (d : Option Clause) →
      stmt_uses L (s.For l t x ss d) ≡ in_turn (quiet (λ b. target b t ++ read b x))
      (in_turn (block_uses all ss) (clause_uses all d))
  unfolding stmt_uses folded_arm folded_clause folded_handler
  uses_for l t x ss None = ap (stmt_uses L) (sym (s.rolls-For l t x ss None)) ∙
      fold-roll-Stmt Uses Uses Uses Uses (stmt_step L) (arm_step L) (clause_step L) (handler_step L)
      (open'.For l t x ss None) ∙ ap (λ z. in_turn (quiet (λ b. target b t ++ read b x)) (in_turn z none_used))
      (block ss)
  uses_for l t x ss (Some d) = ap (stmt_uses L) (sym (s.rolls-For l t x ss (Some d))) ∙
      fold-roll-Stmt Uses Uses Uses Uses (stmt_step L) (arm_step L) (clause_step L) (handler_step L)
      (open'.For l t x ss (Some d)) ∙ ap
      (λ z. in_turn (quiet (λ b. target b t ++ read b x)) (in_turn z (folded_clause d))) (block ss) ∙
      ap (λ z. in_turn (quiet (λ b. target b t ++ read b x)) (in_turn (block_uses all ss) z)) (clause d)

  pub uses_try : (t : Clause) (hs : List Handler) (d : Option Clause) (f : Option Clause) →
      stmt_uses L (s.Try t hs d f) ≡ in_turn (block_uses all t.body)
      (in_turn (handlers_uses all hs) (in_turn (clause_uses all d) (clause_uses all f)))
  unfolding stmt_uses folded_arm folded_clause folded_handler
  uses_try t hs None None = ap (stmt_uses L) (sym (s.rolls-Try t hs None None)) ∙
      fold-roll-Stmt Uses Uses Uses Uses (stmt_step L) (arm_step L) (clause_step L) (handler_step L)
      (open'.Try t hs None None) ∙ ap (λ z.
      in_turn z (in_turn (all_in_turn (map folded_handler hs)) (in_turn (none_used) (none_used)))) (clause t) ∙
      ap (λ z. in_turn (block_uses all t.body) (in_turn z (in_turn (none_used) (none_used)))) (handlers hs)
  uses_try t hs None (Some f) = ap (stmt_uses L) (sym (s.rolls-Try t hs None (Some f))) ∙
      fold-roll-Stmt Uses Uses Uses Uses (stmt_step L) (arm_step L) (clause_step L) (handler_step L)
      (open'.Try t hs None (Some f)) ∙ ap
      (λ z. in_turn z (in_turn (all_in_turn (map folded_handler hs)) (in_turn (none_used) (folded_clause f))))
      (clause t) ∙ ap (λ z. in_turn (block_uses all t.body) (in_turn z (in_turn (none_used) (folded_clause f))))
      (handlers hs) ∙ ap (λ z. in_turn (block_uses all t.body) (in_turn (handlers_uses all hs) (in_turn none_used z)))
      (clause f)
  uses_try t hs (Some d) None = ap (stmt_uses L) (sym (s.rolls-Try t hs (Some d) None)) ∙
      fold-roll-Stmt Uses Uses Uses Uses (stmt_step L) (arm_step L) (clause_step L) (handler_step L)
      (open'.Try t hs (Some d) None) ∙ ap
      (λ z. in_turn z (in_turn (all_in_turn (map folded_handler hs)) (in_turn (folded_clause d) (none_used))))
      (clause t) ∙ ap (λ z. in_turn (block_uses all t.body) (in_turn z (in_turn (folded_clause d) (none_used))))
      (handlers hs) ∙ ap (λ z. in_turn (block_uses all t.body)
      (in_turn (handlers_uses all hs) (in_turn z (none_used)))) (clause d)
  uses_try t hs (Some d) (Some f) = ap (stmt_uses L) (sym (s.rolls-Try t hs (Some d) (Some f))) ∙
      fold-roll-Stmt Uses Uses Uses Uses (stmt_step L) (arm_step L) (clause_step L) (handler_step L)
      (open'.Try t hs (Some d) (Some f)) ∙
      ap (λ z. in_turn z (in_turn (all_in_turn (map folded_handler hs)) (in_turn (folded_clause d) (folded_clause f))))
      (clause t) ∙ ap (λ z. in_turn (block_uses all t.body) (in_turn z (in_turn (folded_clause d) (folded_clause f))))
      (handlers hs) ∙ ap (λ z. in_turn (block_uses all t.body)
      (in_turn (handlers_uses all hs) (in_turn z (folded_clause f)))) (clause d) ∙
      ap (λ z. in_turn (block_uses all t.body) (in_turn (handlers_uses all hs) (in_turn (clause_uses all (Some d)) z)))
      (clause f)

  pub uses_def : (l : ℕ) (x : List ℕ) (ps : List Param) (ss : List Stmt) →
      stmt_uses L (s.Def l x ps ss) ≡ body_used L (λ b. name_bound b x ++ read_defaults b ps) false (block_uses all ss)
  unfolding stmt_uses folded_arm folded_clause folded_handler
  uses_def l x ps ss = ap (stmt_uses L) (sym (s.rolls-Def l x ps ss)) ∙
      fold-roll-Stmt Uses Uses Uses Uses (stmt_step L) (arm_step L) (clause_step L) (handler_step L)
      (open'.Def l x ps ss) ∙ ap (λ z. body_used L (λ b. name_bound b x ++ read_defaults b ps) false z) (block ss)

  pub uses_class : (l : ℕ) (x : List ℕ) (e : Option Expr) (ss : List Stmt) →
      stmt_uses L (s.Class l x e ss) ≡ body_used L (λ b. name_bound b x ++ read_some b e) true (block_uses all ss)
  unfolding stmt_uses folded_arm folded_clause folded_handler
  uses_class l x e ss = ap (stmt_uses L) (sym (s.rolls-Class l x e ss)) ∙
      fold-roll-Stmt Uses Uses Uses Uses (stmt_step L) (arm_step L) (clause_step L) (handler_step L)
      (open'.Class l x e ss) ∙ ap (λ z. body_used L (λ b. name_bound b x ++ read_some b e) true z) (block ss)

pub ruleset stmt_rules = (
  uses_do,
  uses_assign,
  uses_augment,
  uses_print,
  uses_pass,
  uses_break,
  uses_continue,
  uses_return,
  uses_raise,
  uses_del,
  uses_global,
  uses_assert,
  uses_import,
  uses_from,
  uses_if,
  uses_while,
  uses_for,
  uses_try,
  uses_def,
  uses_class,
  tall_if,
  tall_while,
  tall_for,
  tall_try,
  tall_def,
  tall_class,
)
