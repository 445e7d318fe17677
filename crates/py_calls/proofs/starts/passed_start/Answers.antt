use Rattle.std.proofs.Common.{◌≡◌, ◌++◌, ℕ, ap, sym, subst}
use Rattle.py_data.specs.Sense.{Safe}
use Rattle.py_data.proofs.Steps.{live_after, safe_then}
use Rattle.py_frames.specs.Binding.{bound_row, plainly}
use Rattle.py_frames.specs.CallRows.{function_start, thread_row}
use Rattle.py_frames.specs.ClassCalls.{Site}
use Rattle.py_calls.proofs.starts.passed_start.Goals as goal

pub thread_row-requires-clause-live : goal.thread_row-requires-clause-live
thread_row-requires-clause-live g c = let s = c.args.s.now in
    live_after g.V.View.sense g.met.V.View.lawful
    (bound_row s.program (plainly (c.args.before.now ++ c.args.args.now)) c.args.f.0) _ _
    c.in_ok-got.got c.in_ok-got.ensures c.requires.live

pub thread_row-requires-clause-safe : goal.thread_row-requires-clause-safe
unfolding function_start
thread_row-requires-clause-safe g c =
    let s = c.args.s.now in
    let roots : Site → ℕ = λ z. z.roots in
    let e : s.roots ≡ c.s.inside.roots.0 = sym (ap roots c.s.view_is) in
    subst (λ z. Safe g.V.View.sense.partial (thread_row z c.args.thread c.in_ok-got.got)
    (g.V.View.sense.heap c.bound_plainly.new.v)) e
    (safe_then g.V.View.sense g.met.V.View.lawful
    (bound_row s.program (plainly (c.args.before.now ++ c.args.args.now)) c.args.f.0)
    (thread_row s.roots c.args.thread) _ _ c.in_ok-got.got c.requires.safe c.in_ok-got.ensures)
