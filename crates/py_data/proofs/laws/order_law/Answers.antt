use Rattle.std.proofs.Common.{◌≡◌, Option, Some, None}
use Rattle.py_data.specs.Heap.{Rec}
use Rattle.py_data.proofs.Keep.{extends_same, extends_then, fit_stays}
use Rattle.py_data.proofs.Refits.{change_fits}
use Rattle.py_data.proofs.laws.order_law.Goals as goal

pub returns-clause-extends : goal.returns-clause-extends
returns-clause-extends g c = record { same = extends_same; then = extends_then }

pub returns-clause-order : goal.returns-clause-order
returns-clause-order g c = record {
  empty = record { each = λ a r e. let no : ◌≡◌ {A = Option Rec} None (Some r) = e in absurd cc };
  closed = λ h order a r e. let fit = order.each a r e in fit.closed;
  short = λ h order. record { each = λ a r e. let fit = order.each a r e in fit.short };
  stays = λ h h1 a r order x fit. fit_stays h h1 x g.D.Demands.rules order g.D.Demands.lasting a r fit;
  change = λ h a x r fit allows suits puts. change_fits g.D.Demands.rules h a x r fit allows suits puts;
}
