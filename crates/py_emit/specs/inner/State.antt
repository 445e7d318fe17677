-- The mirror of the code: nothing public rests on it.
-- What the emitter holds, and what it means that a piece was emitted. It belongs to `Template`.
use Rattle.std.specs.Prelude.{◌≡◌, ℕ, zero, suc, ◌+◌, ◌<◌, ◌≤◌, List, [], ◌∷◌, ◌++◌, Option, Some, None, length, get_or, map, slice_set, replicate, unwrap_or}
use Rattle.py_code.specs.declared.instr.Instr.{Instr}
use Rattle.py_code.specs.declared.instr.Instr.TheVariants.{Jump, JumpFalse, KeepFalse, KeepTrue, Next, Try}
use Rattle.py_emit.specs.declared.draft.Draft.{Draft}
use Rattle.py_emit.specs.declared.draft.Draft.TheVariants.{Op as DraftOp, To as DraftTo}
use Rattle.py_emit.specs.declared.draft.Far.{Far}
use Rattle.py_emit.specs.declared.draft.Far.TheVariants.{Always, IfFalse, KeepingFalse, KeepingTrue, Nexting, Trying}
use Rattle.py_templates.specs.Template.{Frame, Piece}

-- the drafts and lines so far, the places of the labels so far, and the next hidden slot
pub record St : Type 0 where
  pub code : List Draft
  pub lines : List ℕ
  pub labels : List (Option ℕ)
  pub slots : ℕ

abbrev pub fresh : ℕ → St
fresh k = record { code = []; lines = []; labels = []; slots = k }

abbrev pub put : St → ℕ → Draft → St
put e line d = record { code = e.code ++ d ∷ []; lines = e.lines ++ line ∷ []; labels = e.labels; slots = e.slots }

abbrev pub marked : St → ℕ → St
marked e l = record {
  code = e.code;
  lines = e.lines;
  labels = slice_set e.labels l (Some (length e.code));
  slots =
      e.slots;
}

-- a template with so many labels and hidden slots begins
abbrev pub opened : St → ℕ → ℕ → St
opened e count own = record {
  code = e.code;
  lines = e.lines;
  labels = e.labels ++ replicate count None;
  slots =
      e.slots + own;
}

abbrev pub jump_of : Far → ℕ → Instr
jump_of Always q = Jump q
jump_of IfFalse q = JumpFalse q
jump_of KeepingFalse q = KeepFalse q
jump_of KeepingTrue q = KeepTrue q
jump_of Nexting q = Next q
jump_of Trying q = Try q

-- the instruction, where the labels name these places
abbrev pub done_one : List ℕ → Draft → Instr
done_one ls (DraftOp i) = i
done_one ls (DraftTo f l) = jump_of f (get_or ls l 0)

abbrev pub done : List ℕ → List Draft → List Instr
done ls ds = map (done_one ls) ds

-- the number of a label of the template whose first label has this number
abbrev pub number : ℕ → ℕ → ℕ
number base zero = base
number base (suc l) = base + suc l

-- a construct, where its labels are so many from a number on
abbrev pub labels_there : List ℕ → ℕ → ℕ → ℕ → List ℕ
labels_there ls base zero l = []
labels_there ls base (suc n) l = get_or ls (number base l) 0 ∷ labels_there ls base n (suc l)

abbrev pub frame_there : ℕ → ℕ → ℕ → List ℕ → Frame
frame_there base count slot ls = record { labels = labels_there ls base count 0; slot = slot }

abbrev pub no_frames : List ℕ → List Frame
no_frames ls = []

-- these places are those of all labels that stand somewhere
abbrev pub Agree : List (Option ℕ) → List ℕ → Type 0
Agree labels ls = (l p : ℕ) → get_or labels l None ≡ Some p → get_or ls l 0 ≡ p

-- from e0 on a piece was emitted, inside constructs that hang on the places of the labels
pub record Emitted (e0 e1 : St) (b : Piece) (env : List ℕ → List Frame) : Type 0 where
  pub size : length e1.code ≡ length e0.code + b.size
  pub slots : e1.slots ≡ e0.slots + b.slots
  pub lines : e1.lines ≡ e0.lines ++ b.lines
  pub more : length e0.labels ≤ length e1.labels
  pub kept : (l : ℕ) → l < length e0.labels → get_or e1.labels l None ≡ get_or e0.labels l None
  pub code : (ls : List ℕ) → Agree e1.labels ls → done ls e1.code ≡ done ls e0.code ++ b.code (env ls) (length e0.code)
      e0.slots

-- the places of the labels; 0 where one stands nowhere
abbrev pub places_of : List (Option ℕ) → List ℕ
places_of labels = map (λ o. unwrap_or o 0) labels
