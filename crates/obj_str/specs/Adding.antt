-- What adding an item's text to a text does.
-- Nothing here is to be believed: nothing public rests on it.
use Rattle.std.specs.Prelude.{◌≡◌, ℕ, List, Option, Result, Ok, Err}
use Rattle.py_data.specs.declared.stop.Stop.{Stop}
use Rattle.py_data.specs.declared.value.Value.{Value}
use Rattle.py_data.specs.declared.record.Got.{Got}
use Rattle.py_data.specs.declared.record.Got.TheVariants.{Is, Raise}
use Rattle.py_data.specs.Sense.{Sense, Meets}
use Rattle.obj_str.specs.Cutting.{more_of}
use Rattle.obj_str.specs.Methods.{text_item}

-- the item's text was read, and the answer is the text with it
abbrev pub Adds : {S X : Type 0} → Sense S X → List ℕ → Option (List ℕ) → Value → X → X →
    Result (Got (Option (List ℕ))) Stop → Type 0
Adds {S} u sep text x v w (Ok (Is longer)) = (p : List ℕ) × Meets u (text_item {S = S} x) v w (Ok (Is p)) ×
    (longer ≡ more_of sep text p)
Adds {S} u sep text x v w (Ok (Raise e)) = Meets u (text_item {S = S} x) v w (Ok (Raise e))
Adds {S} u sep text x v w (Err e) = Meets u (text_item {S = S} x) v w (Err e)

-- the same, of the test alone whether the item is a text
abbrev pub Tells : {S X : Type 0} → Sense S X → Value → X → X → Result (Got (Unit {0})) Stop → Type 0
Tells {S} u x v w (Ok (Is t)) = (p : List ℕ) × Meets u (text_item {S = S} x) v w (Ok (Is p))
Tells {S} u x v w (Ok (Raise e)) = Meets u (text_item {S = S} x) v w (Ok (Raise e))
Tells {S} u x v w (Err e) = Meets u (text_item {S = S} x) v w (Err e)
