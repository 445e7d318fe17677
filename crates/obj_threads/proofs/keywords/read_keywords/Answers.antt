use Rattle.std.proofs.Common.{arith, ℕ, length, refl, subst, Ok}
use Rattle.std.specs.Prelude.{◌/◌}
use Rattle.py_data.specs.declared.record.Got.{Got}
use Rattle.py_data.specs.Row.{Row}
use Rattle.py_data.specs.Sense.{Meets}
use Rattle.py_data.proofs.Steps.{stop_as}
use Rattle.py_data.proofs.Turns.{each_safe, each_stop, each_more, each_raised, each_end}
use Rattle.obj_threads.specs.declared.keywords.Keywords.{Keywords}
use Rattle.obj_threads.specs.Keywords.{keyword_row}
use Rattle.obj_threads.proofs.Turns.{keywords_begin}
use Rattle.obj_threads.proofs.keywords.read_keywords.Goals as goal

pub turns-init : goal.turns-init
turns-init g c = keywords_begin c.args.keys.now (length c.args.keys.now / 2) _ c.no_keywords-k.result refl
    c.no_keywords-k.ensures c.requires.safe c.requires.live

pub keyword-requires-clause-live : goal.keyword-requires-clause-live
keyword-requires-clause-live g c = c.turns.invariant.live

pub keyword-requires-clause-safe : goal.keyword-requires-clause-safe
keyword-requires-clause-safe g c = each_safe (keyword_row c.args.keys.now) c.turns.i (length c.args.keys.now / 2)
    c.turns.k (omega arith) c.turns.invariant

pub returns-in_err-next : goal.returns-in_err-next
returns-in_err-next g c = stop_as _ _ _ _ _ _
    (each_stop (keyword_row c.args.keys.now) _ _ c.turns.i (length c.args.keys.now / 2) c.turns.k (omega arith)
    c.turns.invariant c.in_err-next.ensures) c.from_residual.ensures.1

pub returns-in-Raise : goal.returns-in-Raise
returns-in-Raise g c =
    let f : ℕ → Keywords → Row g.row.S.Denot (Got Keywords) = keyword_row c.args.keys.now in
    each_raised f g.met.V.View.lawful _ c.turns.i (length c.args.keys.now / 2) c.turns.k c.in-Raise.e (omega arith)
    c.turns.invariant (subst (λ r. Meets g.V.View.sense (f c.turns.i c.turns.k) c.turns.v c.keyword.new.v (Ok r))
    c.in-Raise.is c.in_ok-next.ensures)

pub turns-preserved : goal.turns-preserved
turns-preserved g c =
    let f : ℕ → Keywords → Row g.row.S.Denot (Got Keywords) = keyword_row c.args.keys.now in
    each_more f g.met.V.View.lawful _ c.turns.i (length c.args.keys.now / 2) c.turns.k c.in-Is.more (omega arith)
    c.turns.invariant (subst (λ r. Meets g.V.View.sense (f c.turns.i c.turns.k) c.turns.v c.keyword.new.v (Ok r))
    c.in-Is.is c.in_ok-next.ensures)

pub returns : goal.returns
returns g c = each_end (keyword_row c.args.keys.now) c.turns.i (length c.args.keys.now / 2) c.turns.k (omega arith)
    c.turns.invariant
