-- What `raw_input` writes, takes and answers, in the words in which `src/call_laws.rt` ensures it.
-- States `docs/LANGUAGE.md`, "Reading the input".
use Rattle.std.specs.Prelude.{◌≡◌, ℕ, false, List, [], ◌∷◌, ◌++◌, Some}
use Rattle.std.specs.Io.BufRead.{strip_last}
use Rattle.py_base.specs.declared.kind.Kind.TheVariants.{Str}
use Rattle.py_data.specs.declared.value.Value.{Value}
use Rattle.py_data.specs.declared.record.Got.{Got}
use Rattle.py_data.specs.declared.record.Got.TheVariants.{Is, Raise}
use Rattle.py_data.specs.Heap.{Heap, new_rec}
use Rattle.py_data.specs.Sight.{Sight, Does}
use Rattle.py_data.specs.World.{World, IsLine, took}
use Rattle.obj_class.specs.Bases.{ref}
use Rattle.obj_class.specs.Telling.{told_row}
use Rattle.obj_builtins.specs.Input.{end_fault, input_row, line_limit}

-- the answer to a line: a new string of it without its newline; to nothing EOFError
abbrev pub IsRead : List ℕ → Got Value → Heap → Type 0
IsRead [] y h = y ≡ Raise end_fault
IsRead (x ∷ xs) y h = (a : ℕ) × (y ≡ Is (ref a)) × (h a ≡ Some (new_rec Str [] (strip_last 10 (x ∷ xs))))

-- the next line was taken of a world, nothing else of it changed, and the answer is that line
pub record IsTaken {S : Type 0} (w : World) (y : Got Value) (t : Sight S) : Type 0 where
  pub line : List ℕ
  pub next : IsLine w.input line_limit line
  pub world : t.world ≡ took line w
  pub read : IsRead line y t.heap

-- the world once a prompt was written: it is behind the output, which isn't in the middle of a line
abbrev pub prompted : List ℕ → World → World
prompted text w = record w { out = w.out ++ text; mid = false }

-- what follows the prompt's text, over what it leaves
abbrev pub IsAsked : {S : Type 0} → Got (List ℕ) → Sight S → Got Value → Sight S → Type 0
IsAsked (Is text) m y t = IsTaken (prompted text m.world) y t
IsAsked (Raise e) m y t = (y ≡ Raise e) × (t ≡ m)

-- the prompt's text was told, and what follows it was done
pub record IsPrompted {S : Type 0} (roots : ℕ) (x : Value) (s : Sight S) (y : Got Value) (t : Sight S) : Type 0 where
  pub text : Got (List ℕ)
  pub between : Sight S
  pub told : Does (told_row roots x false) s text between
  pub asked : IsAsked text between y t

pub record InputLaw (S : Type 0) : Type 0 where
  -- without a prompt nothing is written, and the flag stays
  pub bare : (roots : ℕ) (s t : Sight S) (y : Got Value) → Does (input_row roots []) s y t → IsTaken s.world y t
  -- a prompt is written once and as it is; where its text raises, nothing is written or taken
  pub prompt : (roots : ℕ) (x : Value) (s t : Sight S) (y : Got Value) → Does (input_row roots (x ∷ [])) s y t →
      IsPrompted roots x s y t
