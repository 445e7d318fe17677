-- The mirror of the code: nothing public rests on it.
-- The tests of a list of roots and of instructions, root by root and instruction by instruction.
use Rattle.std.specs.Prelude.{◌≡◌, ℕ, zero, suc, ◌+◌, ◌<◌, ◌≤◌, ◌^◌, All, ◌==◌, ◌&&◌, Bool, true, false, if◌then◌else◌, nat_lt, List, [], ◌∷◌, length}
use Rattle.std.specs.List.{list_any}
use Rattle.py_base.specs.declared.kind.Kind.{Kind}
use Rattle.py_base.specs.declared.kind.Kind.TheVariants.{Str, Cell, Class}
use Rattle.py_code.specs.declared.instr.Instr.{Instr}
use Rattle.py_code.specs.declared.instr.Instr.TheVariants.{Setup}
use Rattle.py_code.specs.declared.program.Root.{Root}
use Rattle.py_code.specs.Right.{names_of, roots_of, texts_of}

-- no bytes
abbrev pub is_empty : List ℕ → Bool
is_empty [] = true
is_empty (x ∷ xs) = false

-- a root of a kind and its bytes, and no number
abbrev pub is_text_by : Kind → ℕ → Bool
is_text_by Str n = n == 0
is_text_by _ n = false

abbrev pub is_cell_by : Kind → ℕ → Bool
is_cell_by Cell n = n == 0
is_cell_by _ n = false

-- class c, without bytes
abbrev pub is_class_by : ℕ → Kind → ℕ → List ℕ → Bool
is_class_by c Class n x = (n == c) && is_empty x
is_class_by c _ n x = false

-- the cells of the global names
abbrev pub are_cells : List Root → Bool
are_cells [] = true
are_cells (r ∷ rs) = is_cell_by r.kind r.number && are_cells rs

-- strings, as long as there are some, and then those cells
abbrev pub are_texts : List Root → Bool
are_texts [] = true
are_texts (r ∷ rs) = if is_text_by r.kind r.number then are_texts rs else are_cells (r ∷ rs)

-- so many classes from number c on, and then those strings and cells
abbrev pub are_classes : ℕ → ℕ → List Root → Bool
are_classes zero c rs = are_texts rs
are_classes (suc n) c [] = false
are_classes (suc n) c (r ∷ rs) = is_class_by c r.kind r.number r.bytes && are_classes n (c + 1) rs

-- the cell of the count of threads, and then the classes
abbrev pub are_roots : List Root → Bool
are_roots [] = false
are_roots (r ∷ rs) = is_cell_by r.kind r.number && is_empty r.bytes && are_classes 20 0 rs

-- a string of more than 1,048,576 bytes
abbrev pub is_long_by : Kind → List ℕ → Bool
is_long_by Str x = nat_lt 1048576 (length x)
is_long_by _ x = false

abbrev pub any_long : List Root → Bool
any_long rs = list_any (λ r. is_long_by r.kind r.bytes) rs

-- the roots have their form and order, they are not too many, and none is too long
pub record IsFormed (rs : List Root) : Type 0 where
  pub form : rs ≡ roots_of (texts_of rs) (names_of rs)
  pub few : length rs < 2 ^ 16
  pub short : All (λ t. length t ≤ 1048576) (texts_of rs)

abbrev pub is_setup : Instr → Bool
is_setup Setup = true
is_setup _ = false

abbrev pub no_setup : List Instr → Bool
no_setup [] = true
no_setup (i ∷ is) = if is_setup i then false else no_setup is
