-- What bytes of markers and locks say after a write.
use Rattle.std.proofs.Common.{◌≡◌, ℕ, zero, suc, replicate, [], ap, ◌<◌, true, eqb, List, length, get_or, set, refl, ◌∙◌, inl, inr, arith}
use Rattle.std.proofs.lemmas.List.{get_or-set_same, get_or-set_other}
use Rattle.std.proofs.lemmas.Bool.Decides.{eqb_tells}
use Rattle.py_data.specs.Heap.{Marks}
use Rattle.py_data.specs.Sight.{no_marks, with_mark}
use Rattle.seg_marks.specs.Marks.{Row, row_marks, no_row, holder_by, holders_at}
use Rattle.seg_marks.specs.Runs.{put, nothing_marked, nobody}

same_at_all : {A : Type 0} (f g : ℕ → A) → ((p : ℕ) → f p ≡ g p) → f ≡ g
same_at_all f g h = λ i p. h p i

-- a granule is marked
pub row_mark : (r : Row) (g : ℕ) → g < length r.bytes
    → row_marks (record { version = r.version; bytes = set r.bytes g r.version }) ≡ with_mark g (row_marks r)
unfolding row_marks
row_mark r g within = same_at_all _ _ (λ h. elim (eqb_tells h g) [
  | inl e ↦ rw (e.1, get_or-set_same r.bytes g r.version 0 within, itself r.version, itself g) refl
  | inr e ↦ rw (e.0, get_or-set_other r.bytes g h r.version 0 e.1) refl
])
  where
    itself : (n : ℕ) → eqb n n ≡ true
    itself n = elim (eqb_tells n n) [ inl e ↦ e.0 | inr e ↦ absurd (e.1 refl) ]

-- the version is later than all marks
pub row_begin : (version : ℕ) (bytes : List ℕ) → ((g : ℕ) → get_or bytes g 0 < version)
    → row_marks (record { version = version; bytes = bytes }) ≡ no_marks
unfolding row_marks
row_begin version bytes below = same_at_all _ _ (λ g. elim (eqb_tells (get_or bytes g 0) version) [
  | inl e ↦ absurd (omega (arith, e.1, below g))
  | inr e ↦ e.0
])

-- a lock byte is written
pub lock_set : (locks : List ℕ) (g b : ℕ) → g < length locks
    → holders_at (set locks g b) ≡ put g (holder_by b) (holders_at locks)
unfolding holders_at
lock_set locks g b within = same_at_all _ _ (λ h. elim (eqb_tells h g) [
  | inl e ↦ rw (e.0, e.1, get_or-set_same locks g b 0 within) refl
  | inr e ↦ rw (e.0, get_or-set_other locks g h b 0 e.1) refl
])

-- ---- bytes as they are at first

zero_at : (n g : ℕ) → get_or {A = ℕ} (replicate n 0) g 0 ≡ 0
zero_at zero g = refl
zero_at (suc n) zero = refl
zero_at (suc n) (suc g) = zero_at n g

pub none_marked : (rows : List Row) (k n : ℕ)
    → rows ≡ replicate k (record { version = 255; bytes = replicate n 0 })
    → (λ j. row_marks (get_or rows j no_row)) ≡ nothing_marked
none_marked xs k n e = ap {B = ℕ → Marks} (λ rows j. row_marks (get_or rows j no_row)) e ∙ (λ i j. rows k j i)
  where
    rows : (k j : ℕ)
        → row_marks (get_or (replicate k (record { version = 255; bytes = replicate n 0 })) j no_row) ≡ no_marks
    rows zero j = row_begin 1 [] (λ g. omega arith)
    rows (suc k) zero = row_begin 255 (replicate n 0) (λ g. omega (arith, zero_at n g))
    rows (suc k) (suc j) = rows k j

pub none_held : (locks : List ℕ) (n : ℕ) → locks ≡ replicate n 0 → holders_at locks ≡ nobody
unfolding holders_at
none_held locks n e = same_at_all _ _ (λ g. ap (λ xs. holder_by (get_or xs g 0)) e ∙ ap holder_by (zero_at n g))
