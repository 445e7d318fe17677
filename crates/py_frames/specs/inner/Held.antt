-- What code and proofs say to each other: nothing public rests on it. The values that are held in place, or in a list.
use Rattle.std.specs.Prelude.{List, []}
use Rattle.py_data.specs.declared.value.Value.{Value}
use Rattle.py_frames.specs.declared.pushed.Held.{Held}
use Rattle.py_frames.specs.declared.pushed.Held.TheVariants.{Nothing, One, Two, More}

abbrev pub held_values : Held → List Value
held_values Nothing = []
held_values (One xs) = xs
held_values (Two xs) = xs
held_values (More xs) = xs
