use Rattle.std.proofs.Common.{subst, IsTrue}
use Rattle.std.specs.Prelude.{◌↔◌}
use Rattle.py_code.specs.Effects.{Forward}
use Rattle.py_verify.specs.inner.Flows.{flow_of}
use Rattle.py_verify.proofs.context.is_forward.Goals as goal

pub returns : goal.returns
returns c =
    let here = subst (λ n. IsTrue c.is_forward.result ↔ Forward n (flow_of c.effect_in.result.flow)) c.first.ensures
    c.is_forward.ensures in
    subst (λ e. IsTrue c.is_forward.result ↔ Forward c.args.bounds.now.first e.flow) c.effect_in.ensures here
