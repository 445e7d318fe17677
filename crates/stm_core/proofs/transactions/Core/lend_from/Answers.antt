use Rattle.std.proofs.Common.{Some, ◌∙◌, ap}
use Rattle.std.proofs.lemmas.Result.{IfOk-weaker}
use Rattle.stm_core.proofs.Lending.{hand_read}
use Rattle.stm_core.proofs.transactions.Core.lend_from.Goals as goal

pub returns-clause-loan : goal.returns-clause-loan
returns-clause-loan g c = IfOk-weaker c.lend_out.result _ _ (λ l h. record {
  work = c.in-Runs.work;
  is = hand_read c.args.self.now.books.hands.items c.args.k c.index.result.now c.requires.runs c.index.ensures ∙
      ap Some c.in-Runs.is;
  loan = h;
}) c.lend_out.ensures.loan
