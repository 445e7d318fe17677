use Rattle.std.proofs.Common.{refl, arith, rules}
use Rattle.stm_top.proofs.script.load_file.Goals as goal

pub returns-then-len-gt-SCRIPT_LIMIT-clause-none : goal.returns-then-len-gt-SCRIPT_LIMIT-clause-none
returns-then-len-gt-SCRIPT_LIMIT-clause-none g c = (
  c.in-Ok.text.items,
  search rules,
  omega (arith, c.if-len-gt-SCRIPT_LIMIT.true, c.len.ensures, c.in-Ok.text.ok.0, c.in-Ok.ensures.short),
  refl,
)
