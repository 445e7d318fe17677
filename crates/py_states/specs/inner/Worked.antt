-- Two frames as they lie in memory: a call of code 5 in a frame of code 2 that has an open block.
-- Nothing here is to be believed.
use Rattle.std.specs.Prelude.{◌≡◌, pos, List, [], ◌∷◌, None, refl}
use Rattle.py_data.specs.declared.value.Value.{Value}
use Rattle.py_data.specs.declared.value.Value.TheVariants.{Unset, Int}
use Rattle.py_frames.specs.declared.state.Block.{Block}
use Rattle.py_frames.specs.declared.state.Frame.{Frame}
use Rattle.py_states.specs.declared.head.Head.{Head}
use Rattle.py_states.specs.inner.Laid.{laid}

abbrev outer_head : Head
outer_head = record { code = 2; pc = 8; made = Unset; names = None; base = 0; slots = 1; blocks = 1 }

abbrev inner_head : Head
inner_head = record { code = 5; pc = 3; made = Unset; names = None; base = 3; slots = 2; blocks = 0 }

abbrev held : List Value
held = Int (pos 10) ∷ Int (pos 11) ∷ Int (pos 12) ∷ Int (pos 20) ∷ Unset ∷ Int (pos 21) ∷ []

abbrev opened_block : Block
opened_block = record { handler = 9; height = 1 }

abbrev inner : Frame
inner = record {
  code = 5;
  pc = 3;
  slots = Int (pos 20) ∷ Unset ∷ [];
  stack = Int (pos 21) ∷ [];
  blocks = [];
  made = Unset;
  names = None;
}

abbrev outer : Frame
outer = record {
  code = 2;
  pc = 8;
  slots = Int (pos 10) ∷ [];
  stack = Int (pos 11) ∷ Int (pos 12) ∷ [];
  blocks = opened_block ∷ [];
  made = Unset;
  names = None;
}

two_frames : laid (inner_head ∷ outer_head ∷ []) held (opened_block ∷ []) ≡ inner ∷ outer ∷ []
two_frames = refl
