-- What the calls of a paged store do to its state. What code and proofs say to each other: nothing public rests on it.
use Rattle.std.specs.Prelude.{◌≡◌, ℕ, ◌+◌, ◌-◌, ◌<◌, ◌≤◌, Bool, true, false, cond, ◌||◌, eqb, ltb, [], ◌∷◌, ◌++◌}
use Rattle.py_data.specs.Heap.{Marks}
use Rattle.py_data.specs.Sight.{no_marks, with_mark}
use Rattle.paged_store.specs.Words.{Words}
use Rattle.paged_store.specs.inner.Formed.{Formed, Lays}
use Rattle.paged_store.specs.State.{Hand, State}

-- the same with x for one number
abbrev pub put : {A : Type 0} → ℕ → A → (ℕ → A) → ℕ → A
put k x f = λ j. cond (eqb j k) x (f j)

abbrev pub nowhere : ℕ → Bool
nowhere p = false

abbrev pub never : ℕ → ℕ
never p = 0

-- no record in hand, over these words
abbrev pub empty_hand : Words → Hand
empty_hand w = record { word = w; holds = nowhere; touched = nowhere; taken = never }

-- a store without records, over these words
abbrev pub new_state : Words → ℕ → ℕ → ℕ → State
new_state w reserved segments limit = record {
  shared = w;
  image = nowhere;
  now = λ k. empty_hand w;
  before = λ k. empty_hand w;
  changed = λ k. [];
  made = λ k. [];
  kept_made = λ k. [];
  looked = λ k. no_marks;
  spare = never;
  reserved = reserved;
  segments = segments;
  limit = limit;
}

-- ---- looks

abbrev pub looks : ℕ → Marks → State → State
looks k m s = record s { looked = put k m s.looked }

abbrev pub begins : ℕ → State → State
begins k s = looks k no_marks s

abbrev pub marks : ℕ → ℕ → State → State
marks k a s = looks k (with_mark a (s.looked k)) s

-- ---- locks

abbrev pub with_held : ℕ → Hand → Hand
with_held a h = record h { holds = λ b. eqb b a || h.holds b }

-- a record of the image that no segment holds
abbrev pub locks : ℕ → ℕ → State → State
locks k a s = record s {
  now = put k (with_held a (s.now k)) s.now;
  before = put k (with_held a (s.before k)) s.before;
  changed = put k (s.changed k ++ a ∷ []) s.changed;
  looked = put k (with_mark a (s.looked k)) s.looked;
}

-- ---- words

-- the segment's words are w, it may have written the places of t besides, and has taken the extents of e
abbrev pub written : Words → (ℕ → Bool) → (ℕ → ℕ) → Hand → Hand
written w t e h = record h {
  word = w;
  touched = λ p. t p || (ltb 0 (e p) || h.touched p);
  taken = λ p. e p + h.taken p;
}

-- what is given back and what is reserved
abbrev pub stocked : (ℕ → ℕ) → ℕ → State → State
stocked spare reserved s = record s { spare = spare; reserved = reserved }

-- What is asked of it: places that are nobody's, each at most once, below what is reserved, which doesn't fall.
pub record Stocks (own : Words) (s : State) (spare : ℕ → ℕ) (reserved : ℕ) : Type 0 where
  pub free : (p : ℕ) → 0 < spare p → (own p ≡ 0) × (p < reserved)
  pub once : (p : ℕ) → spare p ≤ 1
  pub more : s.reserved ≤ reserved

-- a record that the segment holds is written, with the extents of e
abbrev pub writes : ℕ → Words → (ℕ → Bool) → (ℕ → ℕ) → State → State
writes k w t e s = record s { now = put k (written w t e (s.now k)) s.now }

-- a record is made
abbrev pub makes : ℕ → ℕ → Words → (ℕ → ℕ) → State → State
makes k a w e s = record s {
  now = put k (with_held a (written w nowhere e (s.now k))) s.now;
  made = put k (s.made k ++ a ∷ []) s.made;
}

-- of each place the owner, where the places of e are a's now
abbrev pub owned : (ℕ → ℕ) → ℕ → Words → Words
owned e a own = λ p. cond (eqb (e p) 0) (own p) a

-- of each place the role, where those of e have these roles now
abbrev pub parted : (ℕ → ℕ) → (ℕ → ℕ) → Words → Words
parted e part role = λ p. cond (eqb (e p) 0) (role p) (part p)

-- What is asked of words w of the segment that stand for other words of the record at a, with the extents of e, whose
-- places were nobody's and have these roles now: no other place has another word.
pub record Rewrites (own role : Words) (s : State) (k a : ℕ) (w : Words) (t : ℕ → Bool) (e part : ℕ → ℕ)
    : Type 0 where
  pub once : (p : ℕ) → e p ≤ 1
  pub free : (p : ℕ) → 0 < e p → (own p ≡ 0) × (s.spare p ≡ 0) × (p < s.reserved)
  pub untouched : (p : ℕ) → t p ≡ false → e p ≡ 0 → w p ≡ (s.now k).word p
  pub touches : (p : ℕ) → t p ≡ true → own p ≡ a
  pub lays : Lays (owned e a own) (parted e part role) w a
  pub formed : Formed w a

-- ---- steps

-- of each place the owner, where the places of t are nobody's again
abbrev pub freed : (ℕ → Bool) → Words → Words
freed t own = λ p. cond (t p) 0 (own p)

-- a step begins
abbrev pub opens : ℕ → State → State
opens k s = record s { before = put k (s.now k) s.before; kept_made = put k (s.made k) s.kept_made }

-- the step is taken back, and what it took is given back
abbrev pub undoes : ℕ → State → State
undoes k s = record s {
  now = put k (s.before k) s.now;
  made = put k (s.kept_made k) s.made;
  spare = λ p. s.spare p + ((s.now k).taken p - (s.before k).taken p);
}

-- ---- ends

-- the segment holds nothing any more
abbrev pub ends : ℕ → Words → State → State
ends k w s = record s {
  now = put k (empty_hand w) s.now;
  before = put k (empty_hand w) s.before;
  changed = put k [] s.changed;
  made = put k [] s.made;
  kept_made = put k [] s.kept_made;
}

-- words w, but those of v in the places of t
abbrev pub given : (ℕ → Bool) → Words → Words → Words
given t v w = λ p. cond (t p) (v p) (w p)

-- words in which those are a hand's that it touched
abbrev pub given_by : Hand → Words → Words
given_by h w = given h.touched h.word w

abbrev pub gives : Hand → Hand → Hand
gives from h = record h { word = given_by from h.word }

-- what the segment touched is in the shared words, and in those of all segments
abbrev pub publishes : ℕ → State → State
publishes k s = ends k (s.now k).word (record s {
  shared = given_by (s.now k) s.shared;
  image = λ a. s.image a || (s.now k).holds a;
  now = λ j. gives (s.now k) (s.now j);
  before = λ j. gives (s.now k) (s.before j);
})

-- the place is in an extent that the segment took
abbrev pub took : State → ℕ → ℕ → Bool
took s k p = ltb 0 ((s.now k).taken p)

-- what the segment touched are the shared words again, and what it took is given back
abbrev pub drops : ℕ → State → State
drops k s = ends k (given (s.now k).touched s.shared (s.now k).word)
    (record s { spare = λ p. s.spare p + (s.now k).taken p })
