-- The mirror of the code: nothing public rests on it.
-- What is still to be emitted of an expression or a target, and what it means that it was. It belongs to `Expressions`.
use Rattle.std.specs.Prelude.{◌≡◌, ℕ, ◌+◌, List, [], ◌∷◌, length, Option, Some, None}
use Rattle.py_code.specs.declared.instr.Instr.{Instr}
use Rattle.py_code.specs.declared.instr.Instr.TheVariants.{Compare, Const}
use Rattle.py_code.specs.declared.instr.Constant.TheVariants.{None as NoValue}
use Rattle.py_tree.specs.declared.expr.Expr.{Expr}
use Rattle.py_tree.specs.declared.expr.Link.{Link}
use Rattle.py_tree.specs.declared.expr.Named.{Named}
use Rattle.py_tree.specs.declared.expr.Operator.{Operator}
use Rattle.py_tree.specs.declared.expr.Pair.{Pair}
use Rattle.py_tree.specs.declared.expr.Trailer.{Trailer}
use Rattle.py_emit.specs.declared.draft.Draft.TheVariants.{Op as DraftOp, To as DraftTo}
use Rattle.py_emit.specs.declared.draft.Far.{Far}
use Rattle.py_emit.specs.declared.task.Task.{Task}
use Rattle.py_emit.specs.declared.task.Task.TheVariants as task
use Rattle.py_templates.specs.Template.{Piece, row}
use Rattle.py_templates.specs.Names.{Known}
use Rattle.py_emit.specs.inner.State.{St, put, marked, jump_of, frame_there, no_frames, Emitted}
use Rattle.py_templates.specs.Expressions.{operator, coded, add_at, value, stored, deleted, values, all_stored, all_deleted, linked, links, firsts, last_operand, betweens, last_link, pairs, key_values, behind, trailers}

-- a task, without the references to its trees
pub data Todo : Type 0 where
  Value : Expr → Todo
  Values : List Expr → Todo
  Behind : List Trailer → Todo
  Pairs : List Pair → Todo
  Keys : List Named → Todo
  Links : List Link → Todo
  Kept : Far → ℕ → Expr → List Link → Todo
  Between : ℕ → Link → List Link → Todo
  Store : Expr → Todo
  Stores : List Expr → Todo
  Delete : Expr → Todo
  Deletes : List Expr → Todo
  Augment : Expr → Operator → Expr → Todo
  Op : Instr → Todo
  To : Far → ℕ → Todo
  Mark : ℕ → Todo

abbrev pub plain : Task → Todo
plain (task.Value x) = Value x.now
plain (task.Values xs) = Values xs.now
plain (task.Behind ts) = Behind ts.now
plain (task.Pairs ps) = Pairs ps.now
plain (task.Keys ks) = Keys ks.now
plain (task.Links ls) = Links ls.now
plain (task.Kept f l a ls) = Kept f l a.now ls.now
plain (task.Between l x ls) = Between l x.now ls.now
plain (task.Store x) = Store x.now
plain (task.Stores xs) = Stores xs.now
plain (task.Delete x) = Delete x.now
plain (task.Deletes xs) = Deletes xs.now
plain (task.Augment x o y) = Augment x.now o y.now
plain (task.Op i) = Op i
plain (task.To f l) = To f l
plain (task.Mark l) = Mark l

module _ (n : Known) (ln : ℕ) where
  -- the operands of `and` or `or` of which each but the last decides, and the last
  abbrev pub deciding : Far → Expr → List Link → List Piece
  deciding f a ls = firsts ln (jump_of f) (value n ln a) (linked n ln ls)

  abbrev pub deciding_last : Expr → List Link → Piece
  deciding_last a ls = last_operand ln (value n ln a) (linked n ln ls)

  -- an operator with its operand
  abbrev pub linked_one : Link → ℕ × Piece
  linked_one l = (operator l.operator, value n ln l.operand)

  abbrev pub added : Expr → Operator → Expr → Piece
  added x o y = add_at ln (coded n ln x).place (operator o) (value n ln y)

  -- what it means that a task was done
  abbrev pub Runs : Todo → St → St → Type 0
  Runs (Value x) e m = Emitted e m (value n ln x) no_frames
  Runs (Values xs) e m = Emitted e m (row (values n ln xs)) no_frames
  Runs (Behind ts) e m = Emitted e m (row (behind n ln (trailers n ln ts))) no_frames
  Runs (Pairs ps) e m = Emitted e m (row (pairs n ln ps)) no_frames
  Runs (Keys ks) e m = Emitted e m (row (key_values n ln ks)) no_frames
  Runs (Links ls) e m = Emitted e m (row (links ln (linked n ln ls))) no_frames
  Runs (Kept f l a ls) e m = (k : St) × Emitted e k (row (deciding f a ls)) (λ places. frame_there l 1 0 places ∷ []) ×
      Emitted k m (deciding_last a ls) no_frames
  Runs (Between f x ls) e m = (l : ℕ) → f ≡ l + 1 →
      (j : St) × (k : St) × Emitted e j (row (betweens ln (linked_one x) (linked n ln ls)))
      (λ places. frame_there l 2 0 places ∷ []) × Emitted j k (last_link (linked_one x) (linked n ln ls)).1 no_frames ×
      (m ≡ put k ln (DraftOp (Compare (last_link (linked_one x) (linked n ln ls)).0)))
  Runs (Store x) e m = Emitted e m (stored n ln x) no_frames
  Runs (Stores xs) e m = Emitted e m (row (all_stored n ln xs)) no_frames
  Runs (Delete x) e m = Emitted e m (deleted n ln x) no_frames
  Runs (Deletes xs) e m = Emitted e m (row (all_deleted n ln xs)) no_frames
  Runs (Augment x o y) e m = Emitted e m (added x o y) no_frames
  Runs (Op i) e m = m ≡ put e ln (DraftOp i)
  Runs (To f l) e m = m ≡ put e ln (DraftTo f l)
  Runs (Mark l) e m = m ≡ marked e l

  -- that tasks were done in turn
  abbrev pub RunsAll : List Todo → St → St → Type 0
  RunsAll [] e m = e ≡ m
  RunsAll (t ∷ ts) e m = (k : St) × Runs t e k × RunsAll ts k m

  -- how many instructions a task adds
  abbrev pub size : Todo → ℕ
  size (Value x) = (value n ln x).size
  size (Values xs) = (row (values n ln xs)).size
  size (Behind ts) = (row (behind n ln (trailers n ln ts))).size
  size (Pairs ps) = (row (pairs n ln ps)).size
  size (Keys ks) = (row (key_values n ln ks)).size
  size (Links ls) = (row (links ln (linked n ln ls))).size
  size (Kept f l a ls) = (row (deciding f a ls)).size + (deciding_last a ls).size
  size (Between l x ls) = (row (betweens ln (linked_one x) (linked n ln ls))).size +
      ((last_link (linked_one x) (linked n ln ls)).1.size + 1)
  size (Store x) = (stored n ln x).size
  size (Stores xs) = (row (all_stored n ln xs)).size
  size (Delete x) = (deleted n ln x).size
  size (Deletes xs) = (row (all_deleted n ln xs)).size
  size (Augment x o y) = (added x o y).size
  size (Op i) = 1
  size (To f l) = 1
  size (Mark l) = 0

  abbrev pub sizes : List Todo → ℕ
  sizes [] = 0
  sizes (t ∷ ts) = size t + sizes ts

-- Where the tasks behind are done from the state behind on, those before are done from the state before.
pub record Leads (n : Known) (ln : ℕ) (before : List Todo) (e0 : St) (after : List Todo) (e1 : St) : Type 0 where
  pub whole : (e' : St) → RunsAll n ln after e1 e' → RunsAll n ln before e0 e'
  pub size : length e0.code + sizes n ln before ≡ length e1.code + sizes n ln after

-- a bound of a slice, or None
abbrev pub bound_task : Option Expr → Todo
bound_task None = Op (Const NoValue)
bound_task (Some x) = Value x
