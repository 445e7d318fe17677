-- The mirror of the code: nothing public rests on it.
-- The code's effects as those of the table of instructions.
use Rattle.std.specs.Prelude.{ℕ, ◌+◌, Option, Some, None, if◌then◌else◌}
use Rattle.py_code.specs.Effects.{Effect, Flow, On, Ends, Over, Fork, Opens, Closes, goes_on}
use Rattle.py_verify.specs.declared.effect.Flow.{Flow as CodeFlow}
use Rattle.py_verify.specs.declared.effect.Flow.TheVariants.{On as GoesOn, Ends as Stops, Over as GoesOver, Fork as Forks, Opens as Enters, Closes as Leaves}
use Rattle.py_verify.specs.declared.effect.Effect.{Effect as CodeEffect}

abbrev pub flow_of : CodeFlow → Flow
flow_of GoesOn = On
flow_of Stops = Ends
flow_of (GoesOver t) = Over t
flow_of (Forks t n) = Fork t n
flow_of (Enters t) = Opens t
flow_of Leaves = Closes

abbrev pub effect_of : CodeEffect → Effect
effect_of e = record { pops = e.pops; pushes = e.pushes; flow = flow_of e.flow }

-- the place of the next instruction, or none where it may not follow
abbrev pub next_of : Flow → ℕ → Option ℕ
next_of f p = if goes_on f then Some (p + 1) else None
