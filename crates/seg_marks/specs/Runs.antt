-- Runs of calls, and what is marked and held after them. States `docs/HEAP.md`, "Markers and locks".
use Rattle.std.specs.Prelude.{◌≡◌, ℕ, Bool, true, false, cond, ◌||◌, eqb, List, [], ◌∷◌, ◌++◌, Option, Some, None}
use Rattle.py_data.specs.Heap.{Marks}
use Rattle.py_data.specs.Sight.{no_marks, with_mark}

-- a segment begins, marks a granule, or locks one; or a granule is unlocked
pub data Call : Type 0 where
  Begin : ℕ → Call
  Mark : ℕ → ℕ → Call
  Lock : ℕ → ℕ → Call
  Unlock : ℕ → Call

-- ---- what a call leaves

-- the same with x for one number
abbrev pub put : {A : Type 0} → ℕ → A → (ℕ → A) → ℕ → A
put k x f = λ j. cond (eqb j k) x (f j)

abbrev pub marked_by : Call → (ℕ → Marks) → ℕ → Marks
marked_by (Begin k) m = put k no_marks m
marked_by (Mark k g) m = put k (with_mark g (m k)) m
marked_by (Lock k g) m = m
marked_by (Unlock g) m = m

abbrev pub held_by : Call → (ℕ → Option ℕ) → ℕ → Option ℕ
held_by (Begin k) h = h
held_by (Mark k g) h = h
held_by (Lock k g) h = put g (Some k) h
held_by (Unlock g) h = put g None h

-- ---- what calls leave, the first one first

abbrev pub nothing_marked : ℕ → Marks
nothing_marked k = no_marks

abbrev pub nobody : ℕ → Option ℕ
nobody g = None

abbrev pub after : {S : Type 0} → (Call → S → S) → List Call → S → S
after f [] s = s
after f (c ∷ cs) s = after f cs (f c s)

-- ---- what is marked and held, by the calls alone

abbrev pub begins : ℕ → Call → Bool
begins k (Begin j) = eqb k j
begins k (Mark j g) = false
begins k (Lock j g) = false
begins k (Unlock g) = false

-- it says anew who holds the granule
abbrev pub settles : ℕ → Call → Bool
settles g (Begin j) = false
settles g (Mark j h) = false
settles g (Lock j h) = eqb g h
settles g (Unlock h) = eqb g h

abbrev pub any_of : (Call → Bool) → List Call → Bool
any_of p [] = false
any_of p (c ∷ cs) = p c || any_of p cs

-- one of the calls is c, and none behind it is as p says
pub record Since (p : Call → Bool) (c : Call) (calls : List Call) : Type 0 where
  pub before : List Call
  pub behind : List Call
  pub parts : calls ≡ before ++ c ∷ behind
  pub last : any_of p behind ≡ false

-- a granule is marked where the segment marked it after it last began
abbrev pub MarkedLaw : Type 0
MarkedLaw = (calls : List Call) (k g : ℕ)
    → (after marked_by calls nothing_marked k g ≡ true → Since (begins k) (Mark k g) calls)
    × (Since (begins k) (Mark k g) calls → after marked_by calls nothing_marked k g ≡ true)

-- a granule is held by the segment that locked it, where it was neither locked nor unlocked since
abbrev pub HeldLaw : Type 0
HeldLaw = (calls : List Call) (k g : ℕ)
    → (after held_by calls nobody g ≡ Some k → Since (settles g) (Lock k g) calls)
    × (Since (settles g) (Lock k g) calls → after held_by calls nobody g ≡ Some k)
