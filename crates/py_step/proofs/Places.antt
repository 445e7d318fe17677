-- What a program has at a place.
use Rattle.std.proofs.Common.{◌≡◌, ℕ, Option, None, ap, subst, slice_get}
use Rattle.py_code.specs.declared.instr.Instr.{Instr}
use Rattle.py_code.specs.declared.program.Code.{Code}
use Rattle.py_code.specs.declared.program.Program.{Program}
use Rattle.py_frames.specs.declared.state.Frame.{Frame}
use Rattle.py_frames.specs.State.{no_code, instr_at}
use Rattle.py_parts.proofs.Places.{none_at}

-- a code that isn't there has no instructions
pub no_instr : (p : Program) (f : Frame) (n : ℕ) → n ≡ f.code → None ≡ slice_get p.codes n →
    ◌≡◌ {A = Option Instr} None (instr_at p f)
no_instr p f n e none =
    let g : Code → Option Instr = λ c. slice_get c.instrs f.pc in
    ap g (none_at p.codes f.code no_code (subst (λ k. ◌≡◌ {A = Option Code} None (slice_get p.codes k)) e none))
