-- When a program is right: its roots, what each code is by itself, and what the codes say of one another.
-- States `docs/LANGUAGE.md`, "Right programs".
use Rattle.std.specs.Prelude.{◌≡◌, ℕ, zero, suc, ◌+◌, ◌<◌, ◌≤◌, ◌^◌, ◌==◌, codes, List, [], ◌∷◌, ◌++◌, Option, Some, None, Bool, true, false, IsTrue, All, if◌then◌else◌, drop, length, map, slice_get}
use Rattle.std.specs.List.{flat_map, last_or, list_any}
use Rattle.py_base.specs.NameLists.{has}
use Rattle.py_base.specs.declared.kind.Kind.{Kind}
use Rattle.py_base.specs.declared.kind.Kind.TheVariants.{Str, Cell, Class}
use Rattle.py_base.specs.Numbers.{class_count}
use Rattle.py_code.specs.declared.instr.Instr.{Instr}
use Rattle.py_code.specs.declared.instr.Instr.TheVariants.{LoadName, StoreName, DelName, MakeFunction, ClassBody}
use Rattle.py_code.specs.declared.program.Root.{Root}
use Rattle.py_code.specs.declared.program.Code.{Code}
use Rattle.py_code.specs.declared.program.Program.{Program}
use Rattle.py_code.specs.Effects.{Limits}
use Rattle.py_code.specs.Typing.{IsRight, AllForward, HasNoSetup, BeginsWithSetup}

-- ---- the roots

abbrev pub text_root : List ℕ → Root
text_root x = record { kind = Str; number = 0; bytes = x }

abbrev pub cell_root : List ℕ → Root
cell_root x = record { kind = Cell; number = 0; bytes = x }

abbrev pub class_root : ℕ → Root
class_root c = record { kind = Class; number = c; bytes = [] }

-- so many classes, from number c on
abbrev pub class_roots : ℕ → ℕ → List Root
class_roots c zero = []
class_roots c (suc n) = class_root c ∷ class_roots (c + 1) n

-- the cell of the count of threads, the classes, the strings, the cells of the global names
abbrev pub roots_of : List (List ℕ) → List (List ℕ) → List Root
roots_of texts names = cell_root [] ∷ class_roots 0 class_count ++ map text_root texts ++ map cell_root names

-- the number of the first string
abbrev pub first_text : ℕ
first_text = 1 + class_count

-- the strings among the roots
abbrev pub texts_by : Kind → List ℕ → List (List ℕ) → List (List ℕ)
texts_by Str x more = x ∷ more
texts_by _ x more = more

unfoldable pub texts_of : List Root → List (List ℕ)
texts_of [] = []
texts_of (r ∷ rs) = texts_by r.kind r.bytes (texts_of rs)

-- the names of the cells among the roots
abbrev pub cells_by : Kind → List ℕ → List (List ℕ) → List (List ℕ)
cells_by Cell x more = x ∷ more
cells_by _ x more = more

unfoldable pub cells_of : List Root → List (List ℕ)
cells_of [] = []
cells_of (r ∷ rs) = cells_by r.kind r.bytes (cells_of rs)

-- the global names: those of the cells behind the first, which is that of the count of threads
abbrev pub names_of : List Root → List (List ℕ)
names_of rs = drop 1 (cells_of rs)

-- each of these names differs from those before it
abbrev pub differ : List (List ℕ) → List (List ℕ) → Bool
differ before [] = true
differ before (x ∷ xs) = if has x before then false else differ (before ++ x ∷ []) xs

abbrev pub own_name : List ℕ
own_name = codes "__name__"

abbrev pub main_name : List ℕ
main_name = codes "__main__"

-- the list of roots has its form and order, and its strings and names are right
pub record HasRoots (rs : List Root) : Type 0 where
  pub form : rs ≡ roots_of (texts_of rs) (names_of rs)
  pub few : length rs < 2 ^ 16
  pub short : All (λ t. length t ≤ 1048576) (texts_of rs)
  pub apart : IsTrue (differ [] (names_of rs))
  pub main : IsTrue (has own_name (names_of rs)) → last_or None (texts_of rs) ≡ Some main_name

-- ---- what the codes say of one another

-- CLASS_BODY of this code
abbrev pub opens_body : ℕ → Instr → Bool
opens_body f (ClassBody g) = g == f
opens_body f _ = false

-- the instructions of all codes
abbrev pub all_instrs : List Code → List Instr
all_instrs cs = flat_map (λ c. c.instrs) cs

-- a code is that of a class body where a CLASS_BODY names it
abbrev pub is_body : List Code → ℕ → Bool
is_body cs f = list_any (opens_body f) (all_instrs cs)

-- a string that is a global name too
abbrev pub HasCell : List (List ℕ) → Kind → List ℕ → Type 0
HasCell names Str x = IsTrue (has x names)
HasCell names _ x = Unit {0}

abbrev pub HasCellAt : List (List ℕ) → Option Root → Type 0
HasCellAt names None = Unit {0}
HasCellAt names (Some r) = HasCell names r.kind r.bytes

-- What holds of an instruction in code n, whether it is reached or not: only a class body uses its dictionary, and what
-- it loads by a name is the name of a cell too; a function is none of a class body; and nothing leads back to the first
-- code.
abbrev pub Belongs : List Code → List Root → ℕ → Instr → Type 0
Belongs cs rs n (LoadName r) = IsTrue (is_body cs n) × HasCellAt (names_of rs) (slice_get rs r)
Belongs cs rs n (StoreName r) = IsTrue (is_body cs n)
Belongs cs rs n (DelName r) = IsTrue (is_body cs n)
Belongs cs rs n (MakeFunction f d) = (0 < f) × (is_body cs f ≡ false)
Belongs cs rs n (ClassBody f) = 0 < f
Belongs cs rs n _ = Unit {0}

-- ---- the codes

-- no instruction of the first code, reached or not, leads back to SETUP
abbrev pub first_place : ℕ → ℕ
first_place zero = 1
first_place (suc n) = 0

abbrev pub limits_of : List Code → List Root → ℕ → Code → Limits
limits_of cs rs n c = record {
  slots = length c.slots;
  keys = c.keys;
  strings = first_text;
  cells = first_text + length (texts_of rs);
  roots = length rs;
  params = map (λ x. x.params) cs;
  first = first_place n;
}

-- SETUP is the first instruction of the first code, and stands nowhere else
abbrev pub SetsUp : ℕ → List Instr → Type 0
SetsUp zero is = BeginsWithSetup is
SetsUp (suc n) is = HasNoSetup is

-- a code by its number, in a program of these codes and roots
pub record IsRightCode (cs : List Code) (rs : List Root) (n : ℕ) (c : Code) : Type 0 where
  pub lined : length c.lines ≡ length c.instrs
  pub slotted : c.params ≤ length c.slots
  pub sets_up : SetsUp n c.instrs
  pub belongs : All (Belongs cs rs n) c.instrs
  pub forward : AllForward (limits_of cs rs n c) c.instrs
  pub typed : IsRight (limits_of cs rs n c) c.instrs

-- the codes from number n on
abbrev pub AreRight : List Code → List Root → ℕ → List Code → Type 0
AreRight cs rs n [] = Unit {0}
AreRight cs rs n (c ∷ more) = IsRightCode cs rs n c × AreRight cs rs (n + 1) more

-- what is tested of a program: the machine that runs it then lacks no operand, slot, place or root
pub record IsRightProgram (p : Program) : Type 0 where
  pub roots : HasRoots p.roots
  pub first : 0 < length p.codes
  pub each : AreRight p.codes p.roots 0 p.codes
