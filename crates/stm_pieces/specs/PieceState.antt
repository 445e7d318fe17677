-- What a piece view holds, as values, and what each of its calls does to it. States `docs/HEAP.md`, "The piece view".
use Rattle.std.specs.Prelude.{◌≡◌, ◌⊎◌, ℕ, ◌+◌, ◌<◌, ◌≤◌, Bool, true, false, cond, eqb, List, [], ◌∷◌, ◌++◌, Option, Some, None, length, MatchOption}
use Rattle.py_data.specs.declared.value.Addr.{Addr}
use Rattle.py_data.specs.declared.stop.Stop.{Stop}
use Rattle.py_data.specs.declared.stop.Stop.TheVariants.{NeedSolo, NeedHeap, OutOfMemory}
use Rattle.py_data.specs.declared.change.Change.{Change}
use Rattle.py_data.specs.declared.change.Change.TheVariants.{Push, Pair}
use Rattle.py_data.specs.Changes.{after, Suits, Outgrows}
use Rattle.py_data.specs.Collection.{places}
use Rattle.py_data.specs.Heap.{Heap, Has, Marks, Rec, put_at, no_records}
use Rattle.py_data.specs.Shape.{Fits, find}
use Rattle.py_data.specs.Sight.{mem}
use Rattle.py_data.specs.Row.{Call, Reply, Read, Find, Edit, Make, Start, Put, Take, MidLine, SetMidLine}
use Rattle.stm_pieces.specs.Replay.{MayChange, Replays}

-- the records as they were loaned, as they stand, and as they stood when the step was opened; the changes that led from
-- the loan to where they stand, and those that had been made when the step was opened; the addresses that are loaned,
-- in their order; how many values each record may have, and which may be changed; whether it may print, and the Stop of
-- the step
pub record PieceState : Type 0 where
  pub loaned : Heap
  pub heap : Heap
  pub base : Heap
  pub edits : List (Addr × Change)
  pub kept : List (Addr × Change)
  pub names : List Addr
  pub most : ℕ → ℕ
  pub locked : Marks
  pub solo : Bool
  pub stopped : Option Stop

-- nothing is loaned
abbrev pub nothing_loaned : PieceState
nothing_loaned = record {
  loaned = no_records;
  heap = no_records;
  base = no_records;
  edits = [];
  kept = [];
  names = [];
  most = λ a. 0;
  locked = λ a. false;
  solo = false;
  stopped = None;
}

-- what stands is the base
abbrev pub with_base : PieceState → PieceState
with_base d = record d { base = d.heap; kept = d.edits }

-- the same but at one place
abbrev pub but_at : {A : Type 0} → (ℕ → A) → ℕ → A → ℕ → A
but_at f a x = λ b. cond (eqb b a) x (f b)

-- one record more, which may be as long as it is
abbrev pub with_loaned : ℕ → Rec → Bool → PieceState → PieceState
with_loaned a r locked d = record d {
  loaned = put_at d.loaned a r;
  heap = put_at d.heap a r;
  base = put_at d.heap a r;
  kept = d.edits;
  names = d.names ++ record { 0 = a } ∷ [];
  most = but_at d.most a (length r.values);
  locked = but_at d.locked a locked;
}

-- nothing was changed yet
pub record IsFresh (d : PieceState) : Type 0 where
  pub heap : d.heap ≡ d.loaned
  pub edits : d.edits ≡ []

-- the names are the addresses of the loaned records, and only such a record is locked
pub record IsNamed (d : PieceState) : Type 0 where
  pub named : (a : ℕ) (r : Rec) → d.loaned a ≡ Some r → mem a (places d.names) ≡ true
  pub there : (a : ℕ) → mem a (places d.names) ≡ true → Has d.loaned a
  pub held : (a : ℕ) → d.locked a ≡ true → Has d.loaned a

-- each record may be as long as it is
abbrev pub IsTight : PieceState → Type 0
IsTight d = (a : ℕ) (r : Rec) → d.heap a ≡ Some r → d.most a ≡ length r.values

-- the same records are loaned, on the same terms
pub record SameTerms (d e : PieceState) : Type 0 where
  pub loaned : e.loaned ≡ d.loaned
  pub names : e.names ≡ d.names
  pub most : e.most ≡ d.most
  pub locked : e.locked ≡ d.locked
  pub solo : e.solo ≡ d.solo

-- how many values a change adds
abbrev pub growth : Change → ℕ
growth (Push x) = 1
growth (Pair key x) = 2
growth _ = 0

-- the record at an address was changed, and that was noted
abbrev pub with_edit : ℕ → Change → Rec → PieceState → PieceState
with_edit a c q d = record d { heap = put_at d.heap a (after c q); edits = d.edits ++ (record { 0 = a }, c) ∷ [] }

-- a record is there that may be changed so, and it was
abbrev pub Changes : ℕ → Change → PieceState → PieceState → Type 0
Changes a c d e = (q : Rec) × MayChange d.locked d.heap a c q × (length q.values + growth c ≤ d.most a) ×
    (e ≡ with_edit a c q d)

-- the changes of e are those of d and more, which lead from the records of d to those of e
pub record Replayed (d e : PieceState) : Type 0 where
  pub more : List (Addr × Change)
  pub edits : e.edits ≡ d.edits ++ more
  pub leads : Replays d.locked more d.heap e.heap

-- what each call answers and leaves
abbrev pub PieceDoes : {S : Type 0} (c : Call S) → PieceState → Reply c → PieceState → Type 0
PieceDoes (Read a) d r e = (d.heap a ≡ Some r) × (e ≡ d)
PieceDoes (Find a key) d o e = (q : Rec) × (d.heap a ≡ Some q) × Fits d.heap q key × (o ≡ find d.heap q.values key) ×
    (e ≡ d)
PieceDoes (Edit a c) d r e = Changes a c d e
PieceDoes (Make q) d n e = ⊥
PieceDoes (Start s) d r e = ⊥
PieceDoes (Put on bytes) d r e = ⊥
PieceDoes (Take most) d l e = ⊥
PieceDoes MidLine d b e = e ≡ d
PieceDoes (SetMidLine b) d r e = (d.solo ≡ true) × (e ≡ d)

-- the terms or the room of a record don't allow a change, or a new pair's key can't be looked for among its keys
abbrev pub Hinders : PieceState → ℕ → Change → Rec → Type 0
Hinders d a c r = (d.locked a ≡ false) ⊎ ((d.most a < length r.values + growth c) ⊎ (Outgrows c r ⊎
    (Suits false d.heap c r → ⊥)))

-- the record isn't loaned, or that hinders the change
abbrev pub Lacks : PieceState → ℕ → Change → Type 0
Lacks d a c = MatchOption (d.heap a) (Unit {0}) (Hinders d a c)

-- where the view needs the heap
abbrev pub NeedsHeap : {S : Type 0} → Call S → PieceState → Type 0
NeedsHeap (Read a) d = d.heap a ≡ None
NeedsHeap (Find a key) d = MatchOption (d.heap a) (Unit {0}) (λ r. Fits d.heap r key → ⊥)
NeedsHeap (Edit a c) d = Lacks d a c
NeedsHeap (Make q) d = Unit {0}
NeedsHeap (Start s) d = Unit {0}
NeedsHeap _ d = ⊥

-- a call that prints or reads
abbrev pub Outer : {S : Type 0} → Call S → Type 0
Outer (Put on bytes) = Unit {0}
Outer (Take most) = Unit {0}
Outer _ = ⊥

-- a call that changes a record
abbrev pub IsEdit : {S : Type 0} → Call S → Type 0
IsEdit (Edit a c) = Unit {0}
IsEdit _ = ⊥

-- the Stops of a piece view, with what each of them tells
abbrev pub Why : {S : Type 0} → Stop → Call S → PieceState → Type 0
Why NeedHeap c d = NeedsHeap c d
Why NeedSolo c d = Outer c
Why OutOfMemory c d = IsEdit c
Why _ c d = ⊥

-- a call that was refused: nothing changed
abbrev pub PieceRefuses : {S : Type 0} → Call S → PieceState → Stop → PieceState → Type 0
PieceRefuses c d s e = (e ≡ record d { stopped = Some s }) × Why s c d

-- a step is opened: what stands now is its base
abbrev pub PieceOpens : PieceState → PieceState → Type 0
PieceOpens d e = e ≡ record d { base = d.heap; kept = d.edits; stopped = None }

-- a step is taken back: the records are as when it was opened, and no more changes are made than were then
abbrev pub PieceUndoes : PieceState → PieceState → Type 0
PieceUndoes d e = e ≡ record d { heap = d.base; edits = d.kept; stopped = None }

-- a look changes nothing at all
abbrev pub Still : {S X : Type 0} → Call S → X → X → Type 0
Still (Read a) v w = w ≡ v
Still (Find a key) v w = w ≡ v
Still _ v w = Unit {0}
