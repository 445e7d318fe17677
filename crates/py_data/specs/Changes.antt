-- What a change makes of a record, and when it may be made; and records within the limit of length.
-- States `docs/HEAP.md`, "Records" and "Views".
use Rattle.std.specs.Prelude.{◌≡◌, ℕ, ◌+◌, ◌*◌, ◌<◌, ◌≤◌, Bool, true, false, length, Some, None}
use Rattle.py_data.specs.declared.value.Value.{Value}
use Rattle.py_base.specs.declared.kind.Kind.{Kind}
use Rattle.py_base.specs.declared.kind.Kind.TheVariants.{List as ListKind, Dict}
use Rattle.py_data.specs.declared.record.TheConstants.{LENGTH_LIMIT}
use Rattle.py_data.specs.Heap.{Heap, Rec, put_at, is_tracked, with_value, with_push, cut_to, with_pair, without_pair}
use Rattle.py_data.specs.Shape.{Fits, find}
use Rattle.py_data.specs.declared.change.Change.{Change}
use Rattle.py_data.specs.declared.change.Change.TheVariants.{Set, Push, Cut, Pair, Unpair}

-- the record after a change
abbrev pub after : Change → Rec → Rec
after (Set i x) r = with_value i x r
after (Push x) r = with_push x r
after (Cut n) r = cut_to n r
after (Pair key x) r = with_pair key x r
after (Unpair k) r = without_pair k r

-- the kinds of record that a change is for
abbrev pub IsFor : Change → Kind → Type 0
IsFor (Set i x) k = is_tracked k ≡ true
IsFor (Push x) k = k ≡ ListKind
IsFor (Cut n) k = k ≡ ListKind
IsFor (Pair key x) k = k ≡ Dict
IsFor (Unpair n) k = k ≡ Dict

-- a record of so many values has the place, the pair or the room under the limit that a change needs
abbrev pub AllowsOn : Change → ℕ → Type 0
AllowsOn (Set i x) n = i < n
AllowsOn (Push x) n = n < LENGTH_LIMIT
AllowsOn (Cut k) n = Unit {0}
AllowsOn (Pair key x) n = n + 1 < LENGTH_LIMIT
AllowsOn (Unpair k) n = 2 * k + 1 < n

-- a change of the record may be made
abbrev pub Allows : Change → Rec → Type 0
Allows c r = IsFor c r.kind × AllowsOn c (length r.values)

-- of a dictionary's values only those of its pairs may be set, not the keys
abbrev pub IsValuePlace : Kind → ℕ → Type 0
IsValuePlace Dict i = (k : ℕ) × (i ≡ 2 * k + 1)
IsValuePlace _ i = Unit {0}

-- A key that is looked for in a dictionary. Over a part of a heap nothing is asked: the view tests what it lacks.
abbrev pub AsksKey : Bool → Heap → Value → Rec → Type 0
AsksKey true h key r = r.kind ≡ Dict
AsksKey false h key r = Fits h r key

-- What a view asks of a change besides, so that a dictionary stays one: a set puts a value, not a key, and the key of a
-- new pair isn't there.
abbrev pub Suits : Bool → Heap → Change → Rec → Type 0
Suits partial h (Set i x) r = IsValuePlace r.kind i
Suits partial h (Pair key x) r = AsksKey partial h key r × (find h r.values key ≡ None)
Suits partial h _ r = Unit {0}

-- the record has no room for what a change adds
abbrev pub Outgrows : Change → Rec → Type 0
Outgrows (Push x) r = length r.values ≡ r.room
Outgrows (Pair key x) r = length r.values ≡ r.room
Outgrows _ r = ⊥

-- another record in the place of one that is there
abbrev pub Replaced : ℕ → (Rec → Rec) → Heap → Heap → Type 0
Replaced a f h h1 = (q : Rec) × (h a ≡ Some q) × (h1 ≡ put_at h a (f q))

-- no record has more values or bytes than the limit
abbrev pub IsShort : Rec → Type 0
IsShort r = (length r.values ≤ LENGTH_LIMIT) × (length r.bytes ≤ LENGTH_LIMIT)

-- all records of a heap are within the limit
pub record AreShort (h : Heap) : Type 0 where
  pub each : (a : ℕ) (r : Rec) → h a ≡ Some r → IsShort r
