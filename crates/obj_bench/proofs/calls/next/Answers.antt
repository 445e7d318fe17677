use Rattle.std.proofs.Common.{◌≡◌, ℕ, ap}
use Rattle.std.specs.Prelude.{is_some}
use Rattle.py_base.specs.declared.kind.Kind.TheVariants.{Iter}
use Rattle.obj_seq.proofs.Holding.{at_of}
use Rattle.obj_seq.proofs.HoldingGather.{seq_holds}
use Rattle.obj_seq.specs.HoldsLaws.{IsIterAt}
use Rattle.obj_seq.specs.Iter.{next_row}
use Rattle.py_data.specs.declared.value.Value.TheVariants.{Unset, Ref}
use Rattle.py_data.specs.Answers.{IsGot, IfItem}
use Rattle.py_data.specs.Closed.{IsItem}
use Rattle.py_data.specs.Heap.{Heap}
use Rattle.obj_bench.specs.Bench.{free, any_state}
use Rattle.obj_bench.proofs.BenchSteps.{good_safe, good_done}
use Rattle.obj_bench.proofs.calls.next.Goals as goal

-- an iterator is a value that may be an item
iter_item : (h : Heap) (it : ℕ) → IsIterAt h it → IsItem h (Ref (record { 0 = it }))
iter_item h it k = let t = at_of h it (λ k. k ≡ Iter) k in
    (ap is_some t.here, λ e. let z : Ref (record { 0 = it }) ≡ Unset = e in cc)

pub next-requires-clause-safe : goal.next-requires-clause-safe
next-requires-clause-safe g c =
    let h = g.V.View.sense.heap c.args.v.now in
    good_safe (IsGot IfItem) (next_row c.args.a.0) c.requires.good
    ((seq_holds free any_state).next h c.args.a.0 c.requires.good.order (iter_item h c.args.a.0 c.requires.at))

pub returns : goal.returns
returns g c =
    let h = g.V.View.sense.heap c.args.v.now in
    good_done (IsGot IfItem) (next_row c.args.a.0) c.requires.good
    ((seq_holds free any_state).next h c.args.a.0 c.requires.good.order (iter_item h c.args.a.0 c.requires.at)) g.met.V.View.lawful _ _
    c.in_ok-got.ensures
