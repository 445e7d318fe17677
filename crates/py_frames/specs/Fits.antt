-- What an instruction may lead to, by its row of the table of effects: how many values it pushes, and where it goes on.
-- States `docs/LANGUAGE.md`, "Instructions".
use Rattle.std.specs.Prelude.{◌≡◌, ℕ, ◌<◌, length}
use Rattle.py_base.specs.declared.kind.Kind.TheVariants.{Instance}
use Rattle.py_data.specs.Closed.{Refers}
use Rattle.py_data.specs.Every.{Every}
use Rattle.py_data.specs.Heap.{Heap}
use Rattle.py_data.specs.Shape.{RefTo}
use Rattle.py_code.specs.declared.program.Program.{Program}
use Rattle.py_code.specs.Effects.{Flow, On, Over, Fork, Opens as OpensFlow, Closes as ClosesFlow, Effect}
use Rattle.py_frames.specs.declared.state.Frame.{Frame}
use Rattle.py_frames.specs.declared.next.Next.{Next}
use Rattle.py_frames.specs.declared.next.Next.TheVariants.{Goes, Jumps, Stores, Opens, Closes, Enters, Leaves, Fails, Begins, Throws, Waits}
use Rattle.py_frames.specs.Sound.{IsFrame}

-- the next place may follow, with the blocks as they are
abbrev pub IsThrough : Flow → Type 0
IsThrough On = Unit {0}
IsThrough (Fork t n) = Unit {0}
IsThrough _ = ⊥

-- this place may follow, with so many values pushed
abbrev pub IsTo : Flow → ℕ → ℕ → Type 0
IsTo (Over u) t n = (t ≡ u) × (n ≡ 0)
IsTo (Fork u m) t n = (t ≡ u) × (n ≡ m)
IsTo _ t n = ⊥

-- a block with this handler begins
abbrev pub IsOpening : Flow → ℕ → Type 0
IsOpening (OpensFlow u) t = t ≡ u
IsOpening _ t = ⊥

-- a block ends
abbrev pub IsClosing : Flow → Type 0
IsClosing ClosesFlow = Unit {0}
IsClosing _ = ⊥

abbrev pub Fits : Program → Effect → Frame → Next → Heap → Type 0
Fits p e f (Goes ys) h = IsThrough e.flow × (length ys ≡ e.pushes) × Every (Refers h) ys
Fits p e f (Jumps t ys) h = IsTo e.flow t (length ys) × Every (Refers h) ys
Fits p e f (Stores i x) h = IsThrough e.flow × (e.pushes ≡ 0) × (i < length f.slots) × Refers h x
Fits p e f (Opens t) h = IsOpening e.flow t × (e.pops ≡ 0) × (e.pushes ≡ 0)
Fits p e f Closes h = IsClosing e.flow × (e.pushes ≡ 0)
Fits p e f (Enters g) h = IsThrough e.flow × (e.pushes ≡ 1) × IsFrame p h 0 g
Fits p e f (Leaves x) h = Refers h x
Fits p e f (Fails x) h = RefTo h Instance x
Fits p e f (Begins a) h = ⊥
Fits p e f (Throws x) h = RefTo h Instance x
Fits p e f Waits h = Unit {0}
