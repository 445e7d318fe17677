use Rattle.std.proofs.Common.{subst, IsTrue}
use Rattle.std.specs.Prelude.{◌↔◌}
use Rattle.py_code.specs.Typing.{AllForward}
use Rattle.py_verify.proofs.context.Context.goes_forward.Goals as goal

pub returns : goal.returns
returns c =
    let here = subst (λ is. IsTrue c.all_forward.result ↔ AllForward c.bounds.result is) c.as_slice.ensures
    c.all_forward.ensures in
    subst (λ k. IsTrue c.all_forward.result ↔ AllForward k c.args.code.now.instrs) c.bounds.ensures here
