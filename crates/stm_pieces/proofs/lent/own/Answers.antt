use Rattle.std.proofs.Common.{Option, Some, sym, ◌∙◌, ap}
use Rattle.std.specs.Ordering.{nat_cmp}
use Rattle.std.specs.BTreeMap as tree
use Rattle.py_data.specs.Heap.{Heap, Rec}
use Rattle.lock_run.specs.Space.{space_heap}
use Rattle.stm_pieces.specs.Terms.{laid_over, loaned_in}
use Rattle.stm_pieces.proofs.Laying.{laid_own, own_here, not_changed}
use Rattle.stm_pieces.proofs.lent.own.Goals as goal

pub returns-in-Ok-clause-own : goal.returns-in-Ok-clause-own
returns-in-Ok-clause-own c =
    own_here (space_heap c.args.changed.now) (space_heap c.add.new.self)
    (λ b. loaned_in (tree.get nat_cmp c.args.loaned.now b)) c.args.a c.in_ok-copied-in-Some.copied
    (not_changed (space_heap c.args.changed.now c.args.a) (sym c.has.ensures ∙ c.if-has.false))
    (ap loaned_in (sym c.in-Some.ensures.value) ∙
    ap {A = Rec} {B = Option Rec} Some (sym c.in_ok-copied-in-Some.ensures))
    c.in-Ok.ensures.heap

pub returns-in-Ok-clause-heap : goal.returns-in-Ok-clause-heap
returns-in-Ok-clause-heap c =
    let loaned : Heap = λ b. loaned_in (tree.get nat_cmp c.args.loaned.now b) in
    ap (λ h. laid_over h loaned) c.in-Ok.ensures.heap ∙
    laid_own (space_heap c.args.changed.now) loaned c.args.a c.in_ok-copied-in-Some.copied
    (not_changed (space_heap c.args.changed.now c.args.a) (sym c.has.ensures ∙ c.if-has.false))
    (ap loaned_in (sym c.in-Some.ensures.value) ∙
    ap {A = Rec} {B = Option Rec} Some (sym c.in_ok-copied-in-Some.ensures))

pub returns-in-Err-clause-heap : goal.returns-in-Err-clause-heap
returns-in-Err-clause-heap c =
    ap (λ h. laid_over h (λ b. loaned_in (tree.get nat_cmp c.args.loaned.now b))) c.in-Err.ensures.err
