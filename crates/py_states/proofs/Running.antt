-- What callers need of a thread that has a frame.
use Rattle.std.proofs.Common.{arith, ◌≡◌, ℕ, ◌<◌, List, [], ◌∷◌, length, drop, refl, ap}
use Rattle.py_code.specs.declared.program.Program.{Program}
use Rattle.py_frames.specs.declared.state.Frame.{Frame}
use Rattle.py_frames.specs.declared.next.Next.{Next}
use Rattle.py_frames.specs.State.{State, settled}
use Rattle.py_states.specs.Innermost.{innermost, settled_in}

-- its frames are the innermost one, and those round it
pub there_is : (fs : List Frame) → 0 < length fs → fs ≡ innermost fs ∷ drop 1 fs
there_is [] l = absurd (omega (arith, l))
there_is (f ∷ fs) l = refl

-- the end of its step is that of the innermost frame
pub settled_there : (p : Program) (s : State) (n : ℕ) (next : Next) (f : Frame) (fs : List Frame) → s.frames ≡ f ∷ fs →
    settled_in p s n next s.frames ≡ settled p s n f fs next
settled_there p s n next f fs e = ap (settled_in p s n next) e
