-- Templates with labels and hidden slots, and the code that they stand for. States `docs/LANGUAGE.md`, "Code of a
-- tree".
use Rattle.std.specs.Prelude.{ℕ, zero, suc, ◌+◌, List, [], ◌∷◌, ◌++◌, Bool, false, nat_eq, if◌then◌else◌, drop, get_or, map}
use Rattle.py_code.specs.declared.instr.Instr.{Instr}

-- what a construct shows to its parts: the places of its labels, and its hidden slot
pub record Frame : Type 0 where
  pub labels : List ℕ
  pub slot : ℕ

-- A piece of code: how many instructions and hidden slots it has, the line of each instruction, and its instructions
-- inside these constructs (the innermost first), from this place on, with this slot as its first hidden one.
pub record Piece : Type 0 where
  pub size : ℕ
  pub slots : ℕ
  pub lines : List ℕ
  pub code : List Frame → ℕ → ℕ → List Instr

-- A part of a template. A number d counts constructs outwards: 0 is the template's own.
pub data Part : Type 0 where
  Op : Instr → Part  -- an instruction
  Hidden : ℕ → (ℕ → Instr) → Part  -- an instruction on the hidden slot of construct d
  To : ℕ → (ℕ → Instr) → ℕ → Part  -- an instruction that names a label of construct d
  Here : ℕ → Part  -- the template's own label stands here
  Alone : Piece → Part  -- the code of a part that names nothing round it
  Sub : ℕ → Piece → Part  -- the code of a part that stands outside of so many constructs

abbrev pub part_size : Part → ℕ
part_size (Here l) = 0
part_size (Alone b) = b.size
part_size (Sub d b) = b.size
part_size _ = 1

abbrev pub part_slots : Part → ℕ
part_slots (Alone b) = b.slots
part_slots (Sub d b) = b.slots
part_slots _ = 0

abbrev pub part_lines : ℕ → Part → List ℕ
part_lines line (Here l) = []
part_lines line (Alone b) = b.lines
part_lines line (Sub d b) = b.lines
part_lines line _ = line ∷ []

abbrev pub size_of : List Part → ℕ
size_of [] = 0
size_of (x ∷ xs) = part_size x + size_of xs

abbrev pub slots_of : List Part → ℕ
slots_of [] = 0
slots_of (x ∷ xs) = part_slots x + slots_of xs

abbrev pub lines_of : ℕ → List Part → List ℕ
lines_of line [] = []
lines_of line (x ∷ xs) = part_lines line x ++ lines_of line xs

-- the place of a label, where the template begins at p
abbrev pub stands : Part → ℕ → Bool
stands (Here m) l = nat_eq m l
stands _ l = false

abbrev pub place_of : List Part → ℕ → ℕ → ℕ
place_of [] l p = p
place_of (x ∷ xs) l p = if stands x l then p else place_of xs l (p + part_size x)

-- the places of so many labels, from label l on
abbrev pub labels_from : List Part → ℕ → ℕ → ℕ → List ℕ
labels_from xs p zero l = []
labels_from xs p (suc n) l = place_of xs l p ∷ labels_from xs p n (suc l)

abbrev pub no_frame : Frame
no_frame = record { labels = []; slot = 0 }

abbrev pub label_at : List Frame → ℕ → ℕ → ℕ
label_at env d l = get_or (get_or env d no_frame).labels l 0

abbrev pub slot_at : List Frame → ℕ → ℕ
slot_at env d = (get_or env d no_frame).slot

-- the instructions of a part, where the template's own construct is the first of these
abbrev pub part_code : List Frame → Part → ℕ → ℕ → List Instr
part_code env (Op i) p k = i ∷ []
part_code env (Hidden d j) p k = j (slot_at env d) ∷ []
part_code env (To d j l) p k = j (label_at env d l) ∷ []
part_code env (Here l) p k = []
part_code env (Alone b) p k = b.code [] p k
part_code env (Sub d b) p k = b.code (drop d env) p k

abbrev pub code_of : List Frame → List Part → ℕ → ℕ → List Instr
code_of env [] p k = []
code_of env (x ∷ xs) p k = part_code env x p k ++ code_of env xs (p + part_size x) (k + part_slots x)

-- where a template has no hidden slot, its construct shows 0
abbrev pub own_slot : ℕ → ℕ → ℕ
own_slot zero k = 0
own_slot (suc n) k = k

-- The piece that a template stands for, with its own instructions on this line, with own hidden slots (0 or 1; it comes
-- before those of the parts), and with labels 0 to count - 1.
abbrev pub template : ℕ → ℕ → ℕ → List Part → Piece
template line own count xs = record {
  size = size_of xs;
  slots = own + slots_of xs;
  lines = lines_of line xs;
  code = λ env p k. code_of (record { labels = labels_from xs p count 0; slot = own_slot own k } ∷ env) xs p (k + own);
}

-- one piece after another, inside the same constructs
abbrev pub row : List Piece → Piece
row bs = template 0 0 0 (map (Sub 1) bs)
