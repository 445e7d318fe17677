use Rattle.std.proofs.Common.{◌≡◌, length, ap, arith}
use Rattle.lock_run.proofs.Naming.{pair_within}
use Rattle.lock_run.proofs.plain.PlainViewView.find_key.Goals as goal

pub returns-clause-fits : goal.returns-clause-fits
returns-clause-fits g c =
    let same : length c.values.result.now ≡ length c.in-Some.r.now.values = ap length c.values.ensures.values in
    let short = c.values.ensures.short.0 in
    pair_within _ _ _ c.find_pair.ensures.within (omega arith)
