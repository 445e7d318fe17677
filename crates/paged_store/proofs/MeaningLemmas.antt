-- What a state means, where one segment's fields are others.
use Rattle.std.proofs.Common.{◌≡◌, ◌≢◌, ℕ, Bool, true, false, cond, eqb, List, Some, None, inl, inr, refl, sym, ◌∙◌, ap}
use Rattle.std.proofs.lemmas.Bool.{cond-true, cond-false}
use Rattle.std.proofs.lemmas.Bool.Decides.{eqb_tells}
use Rattle.py_data.specs.Heap.{Rec, Heap, Marks, put_at}
use Rattle.seg_store.specs.Meaning.{Part, with_part}
use Rattle.seg_store.proofs.Sees.{same_number, other_number}
use Rattle.paged_store.specs.Words.{Words, decode}
use Rattle.paged_store.specs.State.{Hand, State, heap_of, part_in, meaning_in}
use Rattle.paged_store.specs.inner.Moves.{put}

pub put_here : {A : Type 0} (k : ℕ) (x : A) (f : ℕ → A) → put k x f k ≡ x
put_here k x f = cond-true (eqb k k) x (f k) (same_number k)

pub put_there : {A : Type 0} (k j : ℕ) (x : A) (f : ℕ → A) → j ≢ k → put k x f j ≡ f j
put_there k j x f n = cond-false (eqb j k) x (f j) (other_number j k n)

-- ---- heaps of records in words

pub some_same : (t : Bool) (r q : Rec) → (t ≡ true → r ≡ q) → cond t (Some r) None ≡ cond t (Some q) None
some_same true r q f = ap (λ (x : Rec). Some x) (f refl)
some_same false r q f = refl

-- words that have the same records there
pub heap_same : (there : ℕ → Bool) (w v : Words) → ((a : ℕ) → there a ≡ true → decode w a ≡ decode v a)
    → heap_of there w ≡ heap_of there v
heap_same there w v f = λ i a. some_same (there a) (decode w a) (decode v a) (f a) i

-- words that have another record at one address
pub heap_put : (there more : ℕ → Bool) (w v : Words) (a : ℕ) (r : Rec) → more a ≡ true → decode v a ≡ r
    → ((b : ℕ) → b ≢ a → more b ≡ there b)
    → ((b : ℕ) → b ≢ a → there b ≡ true → decode v b ≡ decode w b) → heap_of more v ≡ put_at (heap_of there w) a r
heap_put there more w v a r is e same f = λ i b. here b i
  where
    here : (b : ℕ) → heap_of more v b ≡ put_at (heap_of there w) a r b
    here b = elim (eqb_tells b a) [
      | inl y ↦ ap (heap_of more v) y.1 ∙ cond-true (more a) (Some (decode v a)) None is ∙ ap (λ (x : Rec). Some x) e
          ∙ sym (cond-true (eqb b a) (Some r) (heap_of there w b) y.0)
      | inr n ↦ ap (λ t. cond t (Some (decode v b)) None) (same b n.1)
          ∙ some_same (there b) (decode v b) (decode w b) (f b n.1)
          ∙ sym (cond-false (eqb b a) (Some r) (heap_of there w b) n.0)
    ]

-- ---- a segment's part

-- the part that these fields stand for
abbrev pub part_by : Hand → Hand → List ℕ → List ℕ → Marks → List ℕ → Part
part_by h b changed made looked kept = record {
  changes = heap_of h.holds h.word;
  changed = changed;
  made = made;
  looked = looked;
  kept = heap_of b.holds b.word;
  kept_made = kept;
}

parts_put : (k : ℕ) (q : Part) (s t : State) → part_in t k ≡ q → ((j : ℕ) → j ≢ k → part_in t j ≡ part_in s j)
    → (j : ℕ) → part_in t j ≡ cond (eqb j k) q (part_in s j)
parts_put k q s t here there j = elim (eqb_tells j k) [
  | inl y ↦ ap (part_in t) y.1 ∙ here ∙ sym (cond-true (eqb j k) q (part_in s j) y.0)
  | inr n ↦ there j n.1 ∙ sym (cond-false (eqb j k) q (part_in s j) n.0)
]

-- a state with another part for a segment, and another image
pub meaning_put : (k : ℕ) (q : Part) (image : Heap) (s t : State) → heap_of t.image t.shared ≡ image → part_in t k ≡ q
    → ((j : ℕ) → j ≢ k → part_in t j ≡ part_in s j)
    → t.segments ≡ s.segments → t.limit ≡ s.limit → meaning_in t
    ≡ record (with_part k q (meaning_in s)) { image = image }
unfolding meaning_in
meaning_put k q image s t is here there segments limit = λ i. record {
  image = is i;
  part = λ j. parts_put k q s t here there j i;
  segments = segments i;
  limit = limit i;
}

-- a state with another part for a segment alone
pub meaning_set : (k : ℕ) (q : Part) (s t : State) → t.image ≡ s.image → t.shared ≡ s.shared → part_in t k ≡ q
    → ((j : ℕ) → j ≢ k → part_in t j ≡ part_in s j)
    → t.segments ≡ s.segments → t.limit ≡ s.limit → meaning_in t ≡ with_part k q (meaning_in s)
unfolding meaning_in
meaning_set k q s t image shared here there segments limit =
    meaning_put k q (heap_of s.image s.shared) s t (λ i. heap_of (image i) (shared i)) here there segments limit
