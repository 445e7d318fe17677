-- The equations of `says`.
use Rattle.std.proofs.Common.{◌≡◌, ℕ, Bool, ◌&&◌, not, List, [], ◌∷◌, ◌++◌, map, Option, Some, None, refl, sym, ap, ◌∙◌}
use Rattle.py_tree.specs.declared.expr.Expr.{Expr}
use Rattle.py_tree.specs.declared.expr.Operator.{Operator}
use Rattle.py_tree.specs.declared.stmt.Stmt.{Stmt}
use Rattle.py_tree.specs.declared.stmt.Imported.{Imported}
use Rattle.py_tree.specs.declared.stmt.Param.{Param}
use Rattle.py_tree.specs.declared.stmt.Arm.{Arm}
use Rattle.py_tree.specs.declared.stmt.Clause.{Clause}
use Rattle.py_tree.specs.declared.stmt.Handler.{Handler}
use Rattle.py_tree.specs.declared.stmt.Stmt.TheVariants as s
use Rattle.py_tree.specs.declared.stmt.Stmt.TheOpen as open'
use Rattle.py_tree.specs.declared.stmt.Stmt.TheFolds.{fold-Arm, fold-Clause, fold-Handler, fold-roll-Stmt, fold_out-Arm, fold_out-Clause, fold_out-Handler}
use Rattle.py_tree.proofs.Talls.{tall_if, tall_while, tall_for, tall_try, tall_def, tall_class}
use Rattle.py_names.specs.declared.event.BodyKind.TheVariants as kind
use Rattle.py_names.specs.declared.event.Event.TheVariants.{Enter, Leave}
use Rattle.py_names.specs.declared.statement.Where.{Where}
use Rattle.py_names.specs.Outline.{bound_name, read, target, read_all, target_all, read_some, target_some, outside, inside_function, inside_loop, inside_finally, inside_clause, only_where, declared, imported, Says, says_all, parameters, takes, raises, stmt_step, arm_step, clause_step, handler_step, says, says_block, says_arm, says_arms, says_clause, says_handler, says_handlers}

folded_arm : Arm → Says
folded_arm = fold-Arm Says Says Says Says stmt_step arm_step clause_step handler_step

folded_clause : Clause → Says
folded_clause = fold-Clause Says Says Says Says stmt_step arm_step clause_step handler_step

folded_handler : Handler → Says
folded_handler = fold-Handler Says Says Says Says stmt_step arm_step clause_step handler_step

block : (ss : List Stmt) (w : Where) → says_all (map says ss) w ≡ says_block ss w
block [] w = refl
block (x ∷ ss) w = ap (λ z. says x w ++ z) (block ss w)

arm : (a : Arm) (w : Where) → folded_arm a w ≡ says_arm a w
unfolding folded_arm says
arm a w = ap (λ f. f w) (fold_out-Arm Says Says Says Says stmt_step arm_step clause_step handler_step a) ∙
    ap (λ z. read a.line a.test ++ z) (block a.body w)

clause : (a : Clause) (w : Where) → folded_clause a w ≡ says_block a.body w
unfolding folded_clause says
clause a w = ap (λ f. f w) (fold_out-Clause Says Says Says Says stmt_step arm_step clause_step handler_step a) ∙
    block a.body w

handler : (h : Handler) (w : Where) → folded_handler h w ≡ says_handler h w
unfolding folded_handler says
handler h w = ap (λ f. f w) (fold_out-Handler Says Says Says Says stmt_step arm_step clause_step handler_step h) ∙
    ap (λ z. read_some h.line h.test ++ target_some h.line h.target ++ z) (block h.body w)

arms : (as' : List Arm) (w : Where) → says_all (map folded_arm as') w ≡ says_arms as' w
arms [] w = refl
arms (a ∷ as') w = rw (arm a w) (ap (λ z. says_arm a w ++ z) (arms as' w))

handlers : (hs : List Handler) (w : Where) → says_all (map folded_handler hs) w ≡ says_handlers hs w
handlers [] w = refl
handlers (h ∷ hs) w = rw (handler h w) (ap (λ z. says_handler h w ++ z) (handlers hs w))

pub says_do : (l : ℕ) (a : Expr) (w : Where) → says (s.Do l a) w ≡ read l a
unfolding says folded_arm folded_clause folded_handler
says_do l a w = ap (λ z. says z w) (sym (s.rolls-Do l a)) ∙
    ap (λ f. f w) (fold-roll-Stmt Says Says Says Says stmt_step arm_step clause_step handler_step (open'.Do l a))

pub says_assign : (l : ℕ) (ts : List Expr) (a : Expr) (w : Where) →
    says (s.Assign l ts a) w ≡ target_all l ts ++ read l a
unfolding says folded_arm folded_clause folded_handler
says_assign l ts a w = ap (λ z. says z w) (sym (s.rolls-Assign l ts a)) ∙
    ap (λ f. f w) (fold-roll-Stmt Says Says Says Says stmt_step arm_step clause_step handler_step (open'.Assign l ts a))

pub says_augment : (l : ℕ) (t : Expr) (q : Operator) (a : Expr) (w : Where) →
    says (s.Augment l t q a) w ≡ target l t ++ read l a
unfolding says folded_arm folded_clause folded_handler
says_augment l t q a w = ap (λ z. says z w) (sym (s.rolls-Augment l t q a)) ∙
    ap (λ f. f w) (fold-roll-Stmt Says Says Says Says stmt_step arm_step clause_step handler_step
    (open'.Augment l t q a))

pub says_print : (l : ℕ) (as' : List Expr) (b : Bool) (w : Where) → says (s.Print l as' b) w ≡ read_all l as'
unfolding says folded_arm folded_clause folded_handler
says_print l as' b w = ap (λ z. says z w) (sym (s.rolls-Print l as' b)) ∙
    ap (λ f. f w) (fold-roll-Stmt Says Says Says Says stmt_step arm_step clause_step handler_step (open'.Print l as' b))

pub says_pass : (l : ℕ) (w : Where) → says (s.Pass l) w ≡ []
unfolding says folded_arm folded_clause folded_handler
says_pass l w = ap (λ z. says z w) (sym (s.rolls-Pass l)) ∙
    ap (λ f. f w) (fold-roll-Stmt Says Says Says Says stmt_step arm_step clause_step handler_step (open'.Pass l))

pub says_break : (l : ℕ) (w : Where) → says (s.Break l) w ≡ only_where w.in_loop l
unfolding says folded_arm folded_clause folded_handler
says_break l w = ap (λ z. says z w) (sym (s.rolls-Break l)) ∙
    ap (λ f. f w) (fold-roll-Stmt Says Says Says Says stmt_step arm_step clause_step handler_step (open'.Break l))

pub says_continue : (l : ℕ) (w : Where) → says (s.Continue l) w ≡ only_where (w.in_loop && not w.in_finally) l
unfolding says folded_arm folded_clause folded_handler
says_continue l w = ap (λ z. says z w) (sym (s.rolls-Continue l)) ∙
    ap (λ f. f w) (fold-roll-Stmt Says Says Says Says stmt_step arm_step clause_step handler_step (open'.Continue l))

pub says_return : (l : ℕ) (a : Option Expr) (w : Where) → says (s.Return l a) w ≡ only_where w.function l ++ read_some
    l a
unfolding says folded_arm folded_clause folded_handler
says_return l a w = ap (λ z. says z w) (sym (s.rolls-Return l a)) ∙
    ap (λ f. f w) (fold-roll-Stmt Says Says Says Says stmt_step arm_step clause_step handler_step (open'.Return l a))

pub says_raise : (l : ℕ) (a : Option Expr) (v : Option Expr) (w : Where) → says (s.Raise l a v) w ≡ raises l a v w
unfolding says folded_arm folded_clause folded_handler
says_raise l a v w = ap (λ z. says z w) (sym (s.rolls-Raise l a v)) ∙
    ap (λ f. f w) (fold-roll-Stmt Says Says Says Says stmt_step arm_step clause_step handler_step (open'.Raise l a v))

pub says_del : (l : ℕ) (ts : List Expr) (w : Where) → says (s.Del l ts) w ≡ target_all l ts
unfolding says folded_arm folded_clause folded_handler
says_del l ts w = ap (λ z. says z w) (sym (s.rolls-Del l ts)) ∙
    ap (λ f. f w) (fold-roll-Stmt Says Says Says Says stmt_step arm_step clause_step handler_step (open'.Del l ts))

pub says_global : (l : ℕ) (ns : List (List ℕ)) (w : Where) → says (s.Global l ns) w ≡ declared l ns
unfolding says folded_arm folded_clause folded_handler
says_global l ns w = ap (λ z. says z w) (sym (s.rolls-Global l ns)) ∙
    ap (λ f. f w) (fold-roll-Stmt Says Says Says Says stmt_step arm_step clause_step handler_step (open'.Global l ns))

pub says_assert : (l : ℕ) (a : Expr) (m : Option Expr) (w : Where) → says (s.Assert l a m) w ≡ read l a ++ read_some l m
unfolding says folded_arm folded_clause folded_handler
says_assert l a m w = ap (λ z. says z w) (sym (s.rolls-Assert l a m)) ∙
    ap (λ f. f w) (fold-roll-Stmt Says Says Says Says stmt_step arm_step clause_step handler_step (open'.Assert l a m))

pub says_import : (l : ℕ) (is : List Imported) (w : Where) → says (s.Import l is) w ≡ imported l is
unfolding says folded_arm folded_clause folded_handler
says_import l is w = ap (λ z. says z w) (sym (s.rolls-Import l is)) ∙
    ap (λ f. f w) (fold-roll-Stmt Says Says Says Says stmt_step arm_step clause_step handler_step (open'.Import l is))

pub says_from : (l : ℕ) (m : List ℕ) (is : List Imported) (w : Where) → says (s.From l m is) w ≡ imported l is
unfolding says folded_arm folded_clause folded_handler
says_from l m is w = ap (λ z. says z w) (sym (s.rolls-From l m is)) ∙
    ap (λ f. f w) (fold-roll-Stmt Says Says Says Says stmt_step arm_step clause_step handler_step (open'.From l m is))

pub says_if : (as' : List Arm) (d : Option Clause) (w : Where) → says (s.If as' d) w ≡ says_arms as' w ++ says_clause d
    w
unfolding says folded_arm folded_clause folded_handler
says_if as' None w = ap (λ z. says z w) (sym (s.rolls-If as' None)) ∙
    ap (λ f. f w) (fold-roll-Stmt Says Says Says Says stmt_step arm_step clause_step handler_step (open'.If as' None))
    ∙ ap (λ z. z ++ []) (arms as' w)
says_if as' (Some d) w = ap (λ z. says z w) (sym (s.rolls-If as' (Some d))) ∙
    ap (λ f. f w) (fold-roll-Stmt Says Says Says Says stmt_step arm_step clause_step handler_step
    (open'.If as' (Some d))) ∙ ap (λ z. z ++ folded_clause d w) (arms as' w) ∙
    ap (λ z. says_arms as' w ++ z) (clause d w)

pub says_while : (a : Arm) (d : Option Clause) (w : Where) →
    says (s.While a d) w ≡ says_arm a (inside_loop w) ++ says_clause d w
unfolding says folded_arm folded_clause folded_handler
says_while a None w = ap (λ z. says z w) (sym (s.rolls-While a None)) ∙
    ap (λ f. f w) (fold-roll-Stmt Says Says Says Says stmt_step arm_step clause_step handler_step (open'.While a None))
    ∙ ap (λ z. z ++ []) (arm a (inside_loop w))
says_while a (Some d) w = ap (λ z. says z w) (sym (s.rolls-While a (Some d))) ∙
    ap (λ f. f w) (fold-roll-Stmt Says Says Says Says stmt_step arm_step clause_step handler_step
    (open'.While a (Some d))) ∙ ap (λ z. z ++ folded_clause d w) (arm a (inside_loop w)) ∙
    ap (λ z. says_arm a (inside_loop w) ++ z) (clause d w)

pub says_for : (l : ℕ) (t : Expr) (a : Expr) (ss : List Stmt) (d : Option Clause) (w : Where) →
    says (s.For l t a ss d) w ≡ target l t ++ read l a ++ says_block ss (inside_loop w) ++ says_clause d w
unfolding says folded_arm folded_clause folded_handler
says_for l t a ss None w = ap (λ z. says z w) (sym (s.rolls-For l t a ss None)) ∙
    ap (λ f. f w) (fold-roll-Stmt Says Says Says Says stmt_step arm_step clause_step handler_step
    (open'.For l t a ss None)) ∙ ap (λ z. target l t ++ read l a ++ z ++ []) (block ss (inside_loop w))
says_for l t a ss (Some d) w = ap (λ z. says z w) (sym (s.rolls-For l t a ss (Some d))) ∙
    ap (λ f. f w) (fold-roll-Stmt Says Says Says Says stmt_step arm_step clause_step handler_step
    (open'.For l t a ss (Some d))) ∙ ap (λ z. target l t ++ read l a ++ z ++ folded_clause d w)
    (block ss (inside_loop w)) ∙ ap (λ z. target l t ++ read l a ++ says_block ss (inside_loop w) ++ z) (clause d w)

pub says_try : (b : Clause) (hs : List Handler) (d : Option Clause) (f : Option Clause) (w : Where) →
    says (s.Try b hs d f) w ≡ says_block b.body w ++ says_handlers hs (inside_clause w) ++ says_clause d w ++
    says_clause f (inside_finally w)
unfolding says folded_arm folded_clause folded_handler
says_try b hs None None w = ap (λ z. says z w) (sym (s.rolls-Try b hs None None)) ∙
    ap (λ f. f w) (fold-roll-Stmt Says Says Says Says stmt_step arm_step clause_step handler_step
    (open'.Try b hs None None)) ∙ ap (λ z. z ++ says_all (map folded_handler hs) (inside_clause w) ++ [] ++ [])
    (clause b w) ∙ ap (λ z. says_block b.body w ++ z ++ [] ++ []) (handlers hs (inside_clause w))
says_try b hs None (Some f) w = ap (λ z. says z w) (sym (s.rolls-Try b hs None (Some f))) ∙
    ap (λ f. f w) (fold-roll-Stmt Says Says Says Says stmt_step arm_step clause_step handler_step
    (open'.Try b hs None (Some f))) ∙ ap
    (λ z. z ++ says_all (map folded_handler hs) (inside_clause w) ++ [] ++ folded_clause f (inside_finally w))
    (clause b w) ∙ ap (λ z. says_block b.body w ++ z ++ [] ++ folded_clause f (inside_finally w))
    (handlers hs (inside_clause w)) ∙ ap (λ z. says_block b.body w ++ says_handlers hs (inside_clause w) ++ [] ++ z)
    (clause f (inside_finally w))
says_try b hs (Some d) None w = ap (λ z. says z w) (sym (s.rolls-Try b hs (Some d) None)) ∙
    ap (λ f. f w) (fold-roll-Stmt Says Says Says Says stmt_step arm_step clause_step handler_step
    (open'.Try b hs (Some d) None)) ∙ ap
    (λ z. z ++ says_all (map folded_handler hs) (inside_clause w) ++ folded_clause d w ++ []) (clause b w) ∙
    ap (λ z. says_block b.body w ++ z ++ folded_clause d w ++ []) (handlers hs (inside_clause w)) ∙
    ap (λ z. says_block b.body w ++ says_handlers hs (inside_clause w) ++ z ++ []) (clause d w)
says_try b hs (Some d) (Some f) w = ap (λ z. says z w) (sym (s.rolls-Try b hs (Some d) (Some f))) ∙
    ap (λ f. f w) (fold-roll-Stmt Says Says Says Says stmt_step arm_step clause_step handler_step
    (open'.Try b hs (Some d) (Some f))) ∙
    ap (λ z. z ++ says_all (map folded_handler hs) (inside_clause w) ++ folded_clause d w ++ folded_clause f
    (inside_finally w)) (clause b w) ∙ ap
    (λ z. says_block b.body w ++ z ++ folded_clause d w ++ folded_clause f (inside_finally w))
    (handlers hs (inside_clause w)) ∙ ap
    (λ z. says_block b.body w ++ says_handlers hs (inside_clause w) ++ z ++ folded_clause f (inside_finally w))
    (clause d w) ∙ ap (λ z. says_block b.body w ++ says_handlers hs (inside_clause w) ++ says_block d.body w ++ z)
    (clause f (inside_finally w))

pub says_def : (l : ℕ) (n : List ℕ) (ps : List Param) (ss : List Stmt) (w : Where) →
    says (s.Def l n ps ss) w ≡ bound_name l n ++ parameters l [] ps ++ Enter kind.Function ∷ takes ps ++ says_block ss
    inside_function ++ Leave ∷ []
unfolding says folded_arm folded_clause folded_handler
says_def l n ps ss w = ap (λ z. says z w) (sym (s.rolls-Def l n ps ss)) ∙
    ap (λ f. f w) (fold-roll-Stmt Says Says Says Says stmt_step arm_step clause_step handler_step
    (open'.Def l n ps ss)) ∙ ap (λ z. bound_name l n ++ parameters l [] ps ++ Enter kind.Function ∷ takes ps ++ z ++
    Leave ∷ []) (block ss inside_function)

pub says_class : (l : ℕ) (n : List ℕ) (a : Option Expr) (ss : List Stmt) (w : Where) →
    says (s.Class l n a ss) w ≡ bound_name l n ++ read_some l a ++ (Enter kind.Class ∷ []) ++ says_block ss outside ++
    Leave ∷ []
unfolding says folded_arm folded_clause folded_handler
says_class l n a ss w = ap (λ z. says z w) (sym (s.rolls-Class l n a ss)) ∙
    ap (λ f. f w) (fold-roll-Stmt Says Says Says Says stmt_step arm_step clause_step handler_step
    (open'.Class l n a ss)) ∙ ap (λ z. bound_name l n ++ read_some l a ++ (Enter kind.Class ∷ []) ++ z ++ Leave ∷ [])
    (block ss outside)

pub ruleset says_rules = (
  says_do,
  says_assign,
  says_augment,
  says_print,
  says_pass,
  says_break,
  says_continue,
  says_return,
  says_raise,
  says_del,
  says_global,
  says_assert,
  says_import,
  says_from,
  says_if,
  says_while,
  says_for,
  says_try,
  says_def,
  says_class,
  tall_if,
  tall_while,
  tall_for,
  tall_try,
  tall_def,
  tall_class,
)
