-- When a state is sound: whose places are whose, and how a segment's hands and the shared words fit each other.
-- What code and proofs say to each other: nothing public rests on it.
use Rattle.std.specs.Prelude.{◌≡◌, ℕ, ◌<◌, ◌≤◌, Bool, true, false, ◌||◌, ltb}
use Rattle.py_data.specs.Sight.{mem}
use Rattle.paged_store.specs.Words.{Words, in_record}
use Rattle.paged_store.specs.State.{Hand, State}
use Rattle.paged_store.specs.inner.Formed.{Formed, Lays}

-- the place is in an extent that was taken since a hand b, now h
abbrev pub taken_since : Hand → Hand → ℕ → Bool
taken_since b h p = ltb (b.taken p) (h.taken p)

-- the place is in an extent that the segment's open step took
abbrev pub fresh : State → ℕ → ℕ → Bool
fresh s k p = taken_since (s.before k) (s.now k) p

-- a hand fits the image, whose words are shared, where each place is of one record at most
pub record FitsHand (own role shared : Words) (image : ℕ → Bool) (h : Hand) : Type 0 where
  pub lays : (a : ℕ) → h.holds a ≡ true → Lays own role h.word a
  pub formed : (a : ℕ) → h.holds a ≡ true → Formed h.word a
  pub touched : (p : ℕ) → h.touched p ≡ true → h.holds (own p) ≡ true
  pub same : (p : ℕ) → h.touched p ≡ false → h.word p ≡ shared p
  pub taken : (p : ℕ) → 0 < h.taken p → h.touched p ≡ true
  pub once : (p : ℕ) → h.taken p ≤ 1
  pub kept : (a p : ℕ) → image a ≡ true → in_record shared a p ≡ true → h.taken p ≡ 0

-- the hand b of a step's beginning is what is left of the hand h once the step is taken back
pub record FitsBefore (h b : Hand) : Type 0 where
  pub holds : (a : ℕ) → b.holds a ≡ true → h.holds a ≡ true
  pub taken : (p : ℕ) → b.taken p ≤ h.taken p
  pub touched : (p : ℕ) → taken_since b h p ≡ true → b.touched p ≡ false
  pub records : (a p : ℕ) → b.holds a ≡ true → in_record b.word a p ≡ true → taken_since b h p ≡ false

-- `own` and `role` say to which record each place belongs, and to which part of it; 0 is nobody
pub record Sound (own role : Words) (s : State) : Type 0 where
  pub lays : (a : ℕ) → s.image a ≡ true → Lays own role s.shared a
  pub formed : (a : ℕ) → s.image a ≡ true → Formed s.shared a
  pub now : (k : ℕ) → FitsHand own role s.shared s.image (s.now k)
  pub before : (k : ℕ) → FitsHand own role s.shared s.image (s.before k)
  pub step : (k : ℕ) → FitsBefore (s.now k) (s.before k)
  pub held : (k a : ℕ) → (s.now k).holds a ≡ (mem a (s.changed k) || mem a (s.made k))
  pub held_before : (k a : ℕ) → (s.before k).holds a ≡ (mem a (s.changed k) || mem a (s.kept_made k))
  pub apart : (i j a : ℕ) → (s.now i).holds a ≡ true → (s.now j).holds a ≡ true → i ≡ j
  pub nobody : s.image 0 ≡ false
  pub held_some : (k : ℕ) → (s.now k).holds 0 ≡ false
  pub spare : (p : ℕ) → 0 < s.spare p → own p ≡ 0
  pub spare_once : (p : ℕ) → s.spare p ≤ 1
  pub beyond : (p : ℕ) → s.reserved ≤ p → (own p ≡ 0) × (s.spare p ≡ 0)
