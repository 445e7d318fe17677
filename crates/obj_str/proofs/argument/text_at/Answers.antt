use Rattle.std.proofs.Common.{sym, ap, ◌∙◌}
use Rattle.py_data.proofs.Steps.{stop_as}
use Rattle.obj_seq.specs.Iter.{is_str}
use Rattle.obj_str.proofs.Copied.{bytes_safe, bytes_again, text_met, text_stopped, text_stands}
use Rattle.obj_str.proofs.argument.text_at.Goals as goal

pub bytes_of-requires-clause-safe : goal.bytes_of-requires-clause-safe
bytes_of-requires-clause-safe g c =
    bytes_safe g.met.V.View.lawful c.args.a.0 _
    (text_stands g.met.V.View.lawful c.args.a.0 _ _ c.in_ok-kind.ensures.0
    (ap is_str (sym c.in_ok-kind.ensures.1 ∙ c.in-Str.is)))

pub returns-in_err-bytes_of-in-Str : goal.returns-in_err-bytes_of-in-Str
returns-in_err-bytes_of-in-Str g c =
    stop_as _ _ _ _ _ _
    (text_stopped g.met.V.View.lawful c.args.a.0 _ _ c.in_ok-kind.ensures.0
    (ap is_str (sym c.in_ok-kind.ensures.1 ∙ c.in-Str.is)) c.requires.safe c.requires.live _ _
    c.in_err-bytes_of-in-Str.ensures)
    c.from_residual-in_err-bytes_of-in-Str.ensures.1

pub returns-in_ok-bytes_of-in-Str : goal.returns-in_ok-bytes_of-in-Str
returns-in_ok-bytes_of-in-Str g c =
    text_met g.met.V.View.lawful c.args.a.0 _ _ c.in_ok-kind.ensures.0
    (ap is_str (sym c.in_ok-kind.ensures.1 ∙ c.in-Str.is)) c.requires.safe c.requires.live _ _
    c.in_ok-bytes_of-in-Str.ensures
