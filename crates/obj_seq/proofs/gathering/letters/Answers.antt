use Rattle.std.proofs.Common.{◌+◌, ◌∙◌, take, drop, sym, ap, subst, arith}
use Rattle.py_data.specs.Heap.{at}
use Rattle.py_data.specs.declared.stop.Stop.TheVariants.{OutOfMemory}
use Rattle.py_data.proofs.Steps.{leads_asks, leads_own, leads_refused, stop_as}
use Rattle.obj_seq.proofs.Forms.{copied_byte}
use Rattle.obj_seq.proofs.GatherSteps.{stands_asks, Lettering, lettering_looked, lettering_here, lettering_next, lettering_more, lettering_last}
use Rattle.obj_seq.proofs.gathering.letters.Goals as goal

pub byte_len-requires-clause-there : goal.byte_len-requires-clause-there
byte_len-requires-clause-there g c = stands_asks c.requires.stands

pub returns-in_err-made : goal.returns-in_err-made
returns-in_err-made g c =
    let h = lettering_looked g.met.V.View.lawful c.turns.invariant c.in_ok-copy_bytes.ensures.look.0 in
    stop_as _ _ _ _ OutOfMemory _ (leads_own h.leads) c.from_residual-in_err-made.ensures.1

pub make-requires-clause-shape : goal.make-requires-clause-shape
make-requires-clause-shape g c =
    let h = lettering_looked g.met.V.View.lawful c.turns.invariant c.in_ok-copy_bytes.ensures.look.0 in
    let e = copied_byte _ _ c.turns.i (omega (arith, c.turns.invariant.count, c.turns-test.true))
    (c.in_ok-copy_bytes.ensures.bytes ∙ ap (λ bs. take 1 (drop c.turns.i bs)) (lettering_here c.turns.invariant)) in
    leads_asks (lettering_next h _ _ c.turns-test.true e c.in_ok-made.ensures)

pub returns-in_err-letter : goal.returns-in_err-letter
returns-in_err-letter g c =
    let h = lettering_looked g.met.V.View.lawful c.turns.invariant c.in_ok-copy_bytes.ensures.look.0 in
    let e = copied_byte _ _ c.turns.i (omega (arith, c.turns.invariant.count, c.turns-test.true))
    (c.in_ok-copy_bytes.ensures.bytes ∙ ap (λ bs. take 1 (drop c.turns.i bs)) (lettering_here c.turns.invariant)) in
    stop_as _ _ _ _ _ _ (leads_refused (lettering_next h _ _ c.turns-test.true e c.in_ok-made.ensures)
    c.in_err-letter.ensures) c.from_residual-in_err-letter.ensures.1

pub returns-in_err-push : goal.returns-in_err-push
returns-in_err-push g c =
    let h = lettering_looked g.met.V.View.lawful c.turns.invariant c.in_ok-copy_bytes.ensures.look.0 in
    let e = copied_byte _ _ c.turns.i (omega (arith, c.turns.invariant.count, c.turns-test.true))
    (c.in_ok-copy_bytes.ensures.bytes ∙ ap (λ bs. take 1 (drop c.turns.i bs)) (lettering_here c.turns.invariant)) in
    let m = lettering_more g.met.V.View.lawful h _ _ c.in_ok-letter.letter.0 _ c.turns-test.true e c.in_ok-made.ensures
    c.in_ok-letter.ensures in
    stop_as _ _ _ _ OutOfMemory _ (leads_own m.leads) c.from_residual-in_err-push.ensures.1

pub turns-preserved : goal.turns-preserved
turns-preserved g c =
    let h = lettering_looked g.met.V.View.lawful c.turns.invariant c.in_ok-copy_bytes.ensures.look.0 in
    let e = copied_byte _ _ c.turns.i (omega (arith, c.turns.invariant.count, c.turns-test.true))
    (c.in_ok-copy_bytes.ensures.bytes ∙ ap (λ bs. take 1 (drop c.turns.i bs)) (lettering_here c.turns.invariant)) in
    let m = lettering_more g.met.V.View.lawful h _ _ c.in_ok-letter.letter.0 _ c.turns-test.true e c.in_ok-made.ensures
    c.in_ok-letter.ensures in
    subst (λ refs. Lettering g.V.View.sense c.args.a.0 c.in_ok-n.n
    (at (g.V.View.sense.heap c.args.v.now) c.args.a.0).bytes (c.turns.i + 1) refs c.args.v.now c.make.new.self)
    (sym c.in_ok-push.ensures.ok) m

pub returns : goal.returns
returns g c = lettering_last c.turns.invariant c.turns-test.false
