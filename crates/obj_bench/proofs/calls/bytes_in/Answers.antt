use Rattle.py_data.specs.Looking.{bytes_row}
use Rattle.obj_bench.proofs.BenchSteps.{bytes_look, look_safe, look_done}
use Rattle.obj_bench.proofs.calls.bytes_in.Goals as goal

pub bytes_of-requires-clause-safe : goal.bytes_of-requires-clause-safe
bytes_of-requires-clause-safe g c = look_safe _ (bytes_row c.args.a.0) c.requires.good
    (bytes_look c.requires.good _ _ c.requires.at)

pub returns : goal.returns
returns g c = look_done _ (bytes_row c.args.a.0) c.requires.good (bytes_look c.requires.good _ _ c.requires.at)
    g.met.V.View.lawful _ _ c.in_ok-text.ensures
