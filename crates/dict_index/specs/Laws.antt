-- What keeps an index right, and what it answers. States `docs/HEAP.md`, "The index of a dictionary".
use Rattle.std.specs.Prelude.{◌≡◌, ℕ, ◌+◌, ◌-◌, ◌*◌, ◌<◌, List, ◌∷◌, [], ◌++◌, length, remove, Some, None, false}
use Rattle.py_data.specs.declared.value.Value.{Value}
use Rattle.py_data.specs.Heap.{Rec, Heap, value_at, is_tracked}
use Rattle.py_data.specs.Shape.{ArePairs, KeysDiffer, IsKey, find}
use Rattle.dict_index.specs.Keys.{class_of}
use Rattle.dict_index.specs.Slots.{put}
use Rattle.dict_index.specs.Index.{IsIndex, IsRight, FirstEmpty, IsBlank}
use Rattle.dict_index.specs.Leaving.{Gapped, lowered, skip}

-- an index is right in one way
abbrev pub RightLaw : Type 0
RightLaw = (home : ℕ → ℕ) (n : ℕ) (w : ℕ → ℕ) (m : ℕ) → ((j : ℕ) → j < m → home j < n)
    → (IsIndex home n w m → IsRight home n w m) × (IsRight home n w m → IsIndex home n w m)

-- words that agree on the slots, and homes that agree on the pairs, are the same index
abbrev pub FrameLaw : Type 0
FrameLaw = (home other : ℕ → ℕ) (n m : ℕ) (w v : ℕ → ℕ) → 0 < n → ((j : ℕ) → j < m → home j < n) → IsIndex home n w m
    → ((s : ℕ) → s < n → v s ≡ w s) → ((j : ℕ) → j < m → other j ≡ home j) → IsIndex other n v m

-- no word is the index of no pair
abbrev pub BlankLaw : Type 0
BlankLaw = (home : ℕ → ℕ) (n : ℕ) (w : ℕ → ℕ) → IsBlank n w → IsIndex home n w 0

-- a pair more, whose number is put into the first empty slot from its home on
abbrev pub EnterLaw : Type 0
EnterLaw = (home : ℕ → ℕ) (n : ℕ) (w : ℕ → ℕ) (m s : ℕ) → ((j : ℕ) → j < m + 1 → home j < n) → IsIndex home n w m
    → FirstEmpty n w (home m) s → IsIndex home n (put s (m + 1) w) (m + 1)

-- a pair that is gone, once the gap is closed and the numbers of later pairs have fallen
abbrev pub LeaveLaw : Type 0
LeaveLaw = (home : ℕ → ℕ) (n : ℕ) (w : ℕ → ℕ) (m p : ℕ) → p < m → ((j : ℕ) → j < m → home j < n) → Gapped home n w m p
    → IsIndex (λ j. home (skip p j)) n (λ s. lowered (p + 1) (w s)) (m - 1)

-- ---- keys

-- a pair at the end leaves the keys before it, and no two keys are equal still
abbrev pub PairLaw : Type 0
PairLaw = (h : Heap) (vs : List Value) (key v : Value) → ArePairs h vs → KeysDiffer h vs → IsKey h key
    → find h vs key ≡ None → ArePairs h (vs ++ key ∷ v ∷ []) × KeysDiffer h (vs ++ key ∷ v ∷ [])

-- a pair that is gone leaves the keys of the others, and no two keys are equal still
abbrev pub DropLaw : Type 0
DropLaw = (h : Heap) (vs : List Value) (p : ℕ) → ArePairs h vs → KeysDiffer h vs → 2 * p + 1 < length vs
    → ArePairs h (remove (remove vs (2 * p)) (2 * p)) × KeysDiffer h (remove (remove vs (2 * p)) (2 * p))
    × ((j : ℕ) → value_at (remove (remove vs (2 * p)) (2 * p)) (2 * j) ≡ value_at vs (2 * skip p j))

-- each fixed record of one heap is one of the other: so it is from the image to what a segment sees, from there to what
-- it sees after another one's publishing, and from what a step began with to what stands after it
abbrev pub KeepsFixed : Heap → Heap → Type 0
KeepsFixed h g = (a : ℕ) (r : Rec) → h a ≡ Some r → is_tracked r.kind ≡ false → g a ≡ Some r

-- keys stay keys, of the same classes, and differ still, in a heap that keeps fixed records
abbrev pub KeptLaw : Type 0
KeptLaw = (h g : Heap) (vs : List Value) → KeepsFixed h g → ArePairs h vs → KeysDiffer h vs
    → ArePairs g vs × KeysDiffer g vs
    × ((j : ℕ) → 2 * j + 1 < length vs → class_of g (value_at vs (2 * j)) ≡ class_of h (value_at vs (2 * j)))
