-- What contracts of this crate see of the frames in memory. Nothing here is to be believed.
use Rattle.std.specs.Prelude.{ℕ, ◌≤◌, List}
use Rattle.py_frames.specs.declared.state.Frame.{Frame}

-- frames, the innermost first, and for how much more there is memory already
pub record Framed : Type 0 where
  pub frames : List Frame
  pub more_values : ℕ
  pub more_frames : ℕ
  pub more_blocks : ℕ

-- there is memory for so many values, frames and blocks more
abbrev pub HasRoom : ℕ → ℕ → ℕ → Framed → Type 0
HasRoom values frames blocks a = (values ≤ a.more_values) × (frames ≤ a.more_frames) × (blocks ≤ a.more_blocks)
