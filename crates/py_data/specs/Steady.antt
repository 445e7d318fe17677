-- Rows in whose course no record is longer than it was before them or is at their end, and which ask whether the output
-- is in mid line only where they write next.
-- States `docs/HEAP.md`, "Rows that hold".
use Rattle.std.specs.Prelude.{◌≡◌, ◌⊎◌, ℕ, ◌≤◌, Bool, true, false, ◌||◌, ◌&&◌, [], ◌∷◌, length, Some, refl}
use Rattle.py_data.specs.declared.change.Change.{Change}
use Rattle.py_data.specs.declared.change.Change.TheVariants.{Push, Cut, Pair, Unpair}
use Rattle.py_base.specs.declared.kind.Kind.TheVariants.{List as ListKind}
use Rattle.py_data.specs.declared.value.Value.TheVariants.{None as NoneValue}
use Rattle.py_data.specs.Heap.{Rec, Heap, new_rec}
use Rattle.py_data.specs.Row.{Call, Reply, Row, Ret, Do, Edit, Make, Put, MidLine}
use Rattle.py_data.specs.Sense.{Sense, Run, Upto}

-- a change that makes a record longer
abbrev pub lengthens : Change → Bool
lengthens (Push x) = true
lengthens (Pair key x) = true
lengthens _ = false

-- a change that makes it shorter
abbrev pub shortens : Change → Bool
shortens (Cut n) = true
shortens (Unpair n) = true
shortens _ = false

-- a call that makes a record longer, or a new one
abbrev pub grows : {S : Type 0} → Call S → Bool
grows (Edit a c) = lengthens c
grows (Make r) = true
grows _ = false

-- a call that makes a record shorter
abbrev pub shrinks : {S : Type 0} → Call S → Bool
shrinks (Edit a c) = shortens c
shrinks _ = false

-- the next call of a row writes
abbrev pub Writes : {S A : Type 0} → Row S A → Type 0
Writes (Do (Put on bytes) k) = Unit {0}
Writes _ = ⊥

-- what comes behind a call that asks whether the output is in mid line
abbrev pub WritesThen : {S A : Type 0} (c : Call S) → (Reply c → Row S A) → Type 0
WritesThen MidLine k = (mid : Bool) → Writes (k mid)
WritesThen _ k = Unit {0}

-- a row that asks for it writes next
abbrev pub AsksToPrint : {S A : Type 0} → Row S A → Type 0
AsksToPrint (Ret a) = Unit {0}
AsksToPrint (Do c k) = WritesThen c k × ((r : Reply c) → AsksToPrint (k r))

-- once something has grown, nothing shrinks, and a row asks to write; the flag says whether something grew before
unfoldable pub Steady : {S A : Type 0} → Bool → Row S A → Type 0
Steady grown (Ret a) = Unit {0}
Steady grown (Do c k) = (((grown && shrinks c) ≡ false) × WritesThen c k) ×
    ((r : Reply c) → Steady (grown || grows c) (k r))

-- a row that makes nothing shorter: it is steady, whatever grew before it
abbrev pub Calm : {S A : Type 0} → Row S A → Type 0
Calm row = (grown : Bool) → Steady grown row

-- no record of the first heap has more values than it has in the second
abbrev pub NoLonger : Heap → Heap → Type 0
NoLonger h h1 = (a : ℕ) (r : Rec) → h a ≡ Some r → (q : Rec) × (h1 a ≡ Some q) × (length r.values ≤ length q.values)

-- at each point of a steady row no record is longer than before the row, or none is longer than at its end
abbrev pub SteadyLaw : {S X : Type 0} → Sense S X → Type 0 → Type 0
SteadyLaw {S} {X} u A =
    (row left : Row S A) (v m w : X) (x : A) → Steady false row → Upto u row v left m → Run u left m x w
    → NoLonger (u.heap m) (u.heap v) ⊎ NoLonger (u.heap m) (u.heap w)

-- a steady row asks to write
abbrev pub AskingLaw : Type 0 → Type 0 → Type 0
AskingLaw S A = (grown : Bool) (row : Row S A) → Steady grown row → AsksToPrint row

-- ---- worked rows

-- a cut and then a push is steady, a push and then a cut isn't, nor is a cut behind a make
abbrev none : Unit {0}
none = tt

abbrev cut : {A : Type 0} → Row (Unit {0}) A → Row (Unit {0}) A
cut row = Do (Edit 0 (Cut 1)) (λ _. row)

abbrev push : {A : Type 0} → Row (Unit {0}) A → Row (Unit {0}) A
push row = Do (Edit 0 (Push NoneValue)) (λ _. row)

cut_and_pushed : Steady false (cut (push (Ret none)))
unfolding Steady
cut_and_pushed = ((refl, tt), λ u. ((refl, tt), λ u. tt))

pushed_and_cut : Steady false (push (cut (Ret none))) → ⊥
unfolding Steady
pushed_and_cut s = let e = (s.1 tt).0.0 in cc

made_and_cut : Steady false (Do (Make (new_rec ListKind (NoneValue ∷ NoneValue ∷ []) [])) (λ a. cut (Ret a))) → ⊥
unfolding Steady
made_and_cut s = let e = (s.1 0).0.0 in cc

-- who asks and doesn't write isn't steady
asked_in_vain : Steady {S = Unit {0}} false (Do MidLine (λ mid. Ret none)) → ⊥
unfolding Steady
asked_in_vain s = s.0.1 false
