-- How frames lie in memory: the values of all frames one behind the other, those of the innermost frame last, and in
-- the same way their blocks.
-- What code and proofs say to each other: nothing public rests on it.
use Rattle.std.specs.Prelude.{◌≡◌, ℕ, ◌+◌, ◌≤◌, List, [], ◌∷◌, ◌==◌, cond, length, take, drop, Option, Some, None}
use Rattle.py_data.specs.declared.value.Value.{Value}
use Rattle.py_frames.specs.declared.state.Block.{Block}
use Rattle.py_frames.specs.declared.state.Frame.{Frame}
use Rattle.py_states.specs.declared.head.Head.{Head}

-- the frame of a head, with its values (the slots and then the stack) and its blocks
abbrev pub frame_of : Head → List Value → List Block → Frame
frame_of h vs bs = record {
  code = h.code;
  pc = h.pc;
  slots = take h.slots vs;
  stack = drop h.slots vs;
  blocks = bs;
  made = h.made;
  names = h.names;
}

-- The frames of these heads, the innermost first. Of the values the last ones are the innermost frame's, of the blocks
-- the first.
abbrev pub laid : List Head → List Value → List Block → List Frame
laid [] vs bs = []
laid (h ∷ hs) vs bs = frame_of h (drop h.base vs) (take h.blocks bs) ∷ laid hs (take h.base vs) (drop h.blocks bs)

-- there is all that the heads tell, and nothing else
abbrev pub IsLaid : List Head → List Value → List Block → Type 0
IsLaid [] vs bs = (vs ≡ []) × (bs ≡ [])
IsLaid (h ∷ hs) vs bs =
    (h.base + h.slots ≤ length vs) × (h.blocks ≤ length bs) × IsLaid hs (take h.base vs) (drop h.blocks bs)

-- the place of the first of these heads that has a block, where the first of all has the place i
abbrev pub opening : ℕ → List Head → Option ℕ
opening i [] = None
opening i (h ∷ hs) = cond (h.blocks == 0) (opening (i + 1) hs) (Some i)

-- the first of these heads tells another place
abbrev pub moved : ℕ → List Head → List Head
moved t [] = []
moved t (h ∷ hs) = record h { pc = t } ∷ hs
