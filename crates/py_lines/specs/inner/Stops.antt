-- The mirror of the code: nothing public rests on it.
-- What may follow a target, by where it stands.
use Rattle.py_lines.specs.declared.target.TargetPlace.{TargetPlace}
use Rattle.py_lines.specs.declared.target.TargetPlace.TheVariants.{Del, For, Except, Assign}
use Rattle.py_grammar.specs.inner.Reading.{is_op}
use Rattle.py_grammar.specs.inner.Lines.{Stop, ends_del, ends_loop, ends_caught}

abbrev pub stop_of : TargetPlace → Stop
stop_of Del = ends_del
stop_of For = ends_loop
stop_of Except = ends_caught
stop_of Assign = is_op 42
