-- The mirror of the code: nothing public rests on it.
-- What the parts of the search for a typing promise each other.
use Rattle.std.specs.Prelude.{◌≡◌, ℕ, ◌+◌, ◌<◌, ◌≤◌, ◌⊎◌, List, Option, Some, None, Bool, true, false, length, slice_get, All, Contains, sum_by}
use Rattle.py_code.specs.declared.instr.Instr.{Instr}
use Rattle.py_code.specs.Effects.{Limits, Sh}
use Rattle.py_code.specs.Typing.{shape_at, start, RightAt, IsTyping}

-- what the one says of a place, the other says too
abbrev pub Below : List (Option Sh) → List (Option Sh) → Type 0
Below t u = (p : ℕ) (s : Sh) → shape_at t p ≡ Some s → shape_at u p ≡ Some s

-- a place, if there is one, has this shape
abbrev pub Has : List (Option Sh) → Option ℕ → Sh → Type 0
Has t to s = (q : ℕ) → to ≡ Some q → shape_at t q ≡ Some s

abbrev pub spare : Option Sh → ℕ
spare None = 2
spare (Some s) = 0

-- how much work can still come
abbrev pub left : List (Option Sh) → List ℕ → ℕ
left t w = sum_by spare t + length w

-- what is new in t' is in the work, and what was in the work is still there
pub record Grew (t t' : List (Option Sh)) (w w' : List ℕ) : Type 0 where
  pub keeps : Below t t'
  pub long : length t' ≡ length t
  pub fresh : (p : ℕ) (s : Sh) → shape_at t' p ≡ Some s → Contains w' p ⊎ (shape_at t p ≡ Some s)
  pub kept : (p : ℕ) → Contains w p → Contains w' p
  pub places : All (λ p. p < length t) w → All (λ p. p < length t) w'
  pub work : left t' w' ≤ left t w

-- the place, if there is one, got the shape, and nothing was said that a typing may deny
pub record Flowed (t t' : List (Option Sh)) (w w' : List ℕ) (to : Option ℕ) (s : Sh) : Type 0 where
  pub grew : Grew t t' w w'
  pub here : Has t' to s
  pub least : (u : List (Option Sh)) → Has u to s → Below t u → Below t' u

-- where the answer is no, no typing gives the place that shape
abbrev pub Flows : Bool → List (Option Sh) → List (Option Sh) → List ℕ → List ℕ → Option ℕ → Sh → Type 0
Flows true t t' w w' to s = Flowed t t' w w' to s
Flows false t t' w w' to s = (u : List (Option Sh)) → length u ≡ length t → Has u to s → Below t u → ⊥

pub record Visited (k : Limits) (code : List Instr) (p : ℕ) (t t' : List (Option Sh)) (w w' : List ℕ) : Type 0 where
  pub grew : Grew t t' w w'
  pub right : (i : Instr) (s : Sh) → slice_get code p ≡ Some i → shape_at t p ≡ Some s → RightAt k t' p i s
  pub least : (u : List (Option Sh)) → IsTyping k code u → Below t u → Below t' u

abbrev pub Visits : Bool → Limits → List Instr → ℕ → List (Option Sh) → List (Option Sh) → List ℕ → List ℕ → Type 0
Visits true k code p t t' w w' = Visited k code p t t' w w'
Visits false k code p t t' w w' = (u : List (Option Sh)) → IsTyping k code u → Below t u → ⊥

-- how far the search has come: what it found is below every typing
pub record Going (k : Limits) (code : List Instr) (t : List (Option Sh)) (w : List ℕ) : Type 0 where
  pub long : length t ≡ length code
  pub starts : shape_at t 0 ≡ Some start
  pub least : (u : List (Option Sh)) → IsTyping k code u → Below t u
  pub done : (q : ℕ) (i : Instr) (s : Sh) → slice_get code q ≡ Some i → shape_at t q ≡ Some s →
      Contains w q ⊎ RightAt k t q i s
  pub places : All (λ p. p < length code) w
