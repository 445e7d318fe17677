-- The extents that are in use in a store, worked by hand. States `docs/HEAP.md`, "Extents".
use Rattle.std.specs.Prelude.{◌≡◌, ◌≢◌, ℕ, ◌+◌, ◌^◌, ◌<◌, ◌≤◌, cond, eqb, [], ◌∷◌, refl, Some, None}
use Rattle.std.proofs.Common.{inl, inr, subst, arith}
use Rattle.std.proofs.Math.Pow.{pow-lt}
use Rattle.std.proofs.lemmas.Bool.{cases_lt}
use Rattle.std.proofs.lemmas.Bool.Decides.{eqb_tells}
use Rattle.py_base.specs.declared.kind.Kind.TheVariants.{Cell, Tuple}
use Rattle.py_data.specs.Heap.{Rec, Heap, new_rec, no_records, put_at, room_of}
use Rattle.seg_store.specs.Meaning.{Part, Meaning, no_part}
use Rattle.seg_store.specs.declared.store.StoreFault.TheVariants.{Full, OutOfMemory}
use Rattle.seg_store.specs.Extents.{class_holding, extents, one_if, words_in}
use Rattle.seg_store.specs.Sums.{sum_below}
use Rattle.seg_store.specs.Telling.{in_use, use_with, words_with, Rises, RisesTo, Fits, IsOver, IsTelling}
use Rattle.seg_store.specs.Worked.{nones, a_list}

abbrev a_cell : Rec
a_cell = new_rec Cell (nones 1) []

-- a Cell, and a List of 256 values with room for no more
abbrev two_records : Heap
two_records = put_at (put_at no_records 1 a_cell) 4 (a_list 256 256 0)

-- the List with a value more
abbrev grown : Rec
grown = a_list 257 512 0

-- a segment has the List with a value more
abbrev grown_part : Part
grown_part = record no_part { changes = put_at no_records 4 grown; changed = 4 ∷ [] }

-- a segment made a Cell
abbrev made_part : ℕ → Part
made_part n = record no_part { changes = put_at no_records n a_cell; made = n ∷ [] }

-- the two records, in a store of 4,096 words with what two segments have in hand
abbrev a_store : Part → Part → Meaning
a_store p q = record {
  image = two_records;
  part = λ k. cond (eqb k 0) p (cond (eqb k 1) q no_part);
  segments = 2;
  limit = 4_096;
}

-- ---- what is in use

-- the two headers, and a body of the List
headers_used : in_use (a_store no_part no_part) 2 ≡ 3
unfolding in_use sum_below class_holding extents room_of
headers_used = refl

-- a body of each record
bodies_used : in_use (a_store no_part no_part) 1 ≡ 2
unfolding in_use sum_below class_holding extents room_of
bodies_used = refl

-- the List has its header and its smaller bodies once, whoever sees it
headers_used_still : in_use (a_store grown_part no_part) 2 ≡ 3
unfolding in_use sum_below class_holding extents room_of
headers_used_still = refl

-- the body that the List grew by is a segment's
next_unused : in_use (a_store no_part no_part) 10 ≡ 0
unfolding in_use sum_below class_holding extents room_of
next_unused = refl

next_used : in_use (a_store grown_part no_part) 10 ≡ 1
unfolding in_use sum_below class_holding extents room_of
next_used = refl

-- the segments' add up
both_used : in_use (a_store (made_part 7) (made_part 9)) 2 ≡ 5
unfolding in_use sum_below class_holding extents room_of
both_used = refl

-- what would be in use with the List grown, and with a Cell made
would_grow : use_with (a_store no_part no_part) (Some (a_list 256 256 0)) grown 10 ≡ 1
unfolding in_use sum_below class_holding extents room_of
would_grow = refl

would_make : use_with (a_store grown_part no_part) None a_cell 2 ≡ 4
unfolding in_use sum_below class_holding extents room_of
would_make = refl

-- ---- peaks

-- the peaks are what is in use: two words, 6 of the Cell, 1,026 of the List and 1,024 of its next body
all_words : IsTelling 2_058 (a_store grown_part no_part) (in_use (a_store grown_part no_part))
unfolding in_use sum_below class_holding extents words_in room_of
all_words = record { within = λ c l. omega arith; words = refl }

-- a new store has taken two words
first_words : IsTelling 2 (record { image = no_records; part = λ k. no_part; segments = 1; limit = 512 }) (λ c. 0)
unfolding in_use sum_below words_in
first_words = record { within = λ c l. omega arith; words = refl }

-- a peak rises to what is in use, and doesn't fall with it
peak_rises : Rises (Some (λ c. 1)) (Some (λ c. 3)) (λ c. 3)
peak_rises = λ c l. refl

peak_stays : Rises (Some (λ c. 3)) (Some (λ c. 3)) (λ c. 1)
peak_stays = λ c l. refl

-- a call that was refused may have taken less
peak_between : RisesTo (Some (λ c. 1)) (Some (λ c. 2)) (λ c. 3)
peak_between = λ c l. (omega arith, omega arith)

-- a store doesn't cease to tell
none_ceases : Rises (Some (λ c. 0)) None (λ c. 0) → ⊥
none_ceases x = x

none_begins : RisesTo None (Some (λ c. 0)) (λ c. 0) → ⊥
none_begins x = x

-- ---- a full heap

abbrev a_tuple : ℕ → Rec
a_tuple n = new_rec Tuple (nones n) []

-- the List, and Tuples of 2, 64 and 256 values, in a store of 2,048 words
abbrev full_image : Heap
full_image = put_at (put_at (put_at (put_at no_records 1 (a_tuple 2)) 4 (a_list 256 256 0)) 6 (a_tuple 64)) 9
    (a_tuple 256)

abbrev full_store : Meaning
full_store = record { image = full_image; part = λ k. no_part; segments = 2; limit = 2_048 }

-- two words, 8, 1,026, 132 and 516
full_words : IsTelling 1_684 full_store (in_use full_store)
unfolding in_use sum_below class_holding extents words_in room_of
full_words = record { within = λ c l. omega arith; words = refl }

-- The next body of the List has 1,024 words, and none of its class was in use before: with it 2,708 words would be
-- taken.
next_words : words_with (in_use full_store) (use_with full_store (Some (a_list 256 256 0)) grown) ≡ 2_708
unfolding in_use sum_below class_holding extents words_in room_of
next_words = refl

unused : in_use full_store 10 ≡ 0
unfolding in_use sum_below class_holding extents room_of
unused = refl

would_use : use_with full_store (Some (a_list 256 256 0)) grown 10 ≡ 1
unfolding in_use sum_below class_holding extents room_of
would_use = refl

next_over : IsOver (Some (in_use full_store)) (use_with full_store (Some (a_list 256 256 0)) grown)
    (Full 1_684 1_024 2_048)
next_over = record {
  class = 10;
  low = omega arith;
  high = omega arith;
  words = refl;
  more = let u = unused in let w = would_use in omega arith;
  over = let e = next_words in omega arith;
}

-- no extent of another class is needed
used_before : in_use full_store 9 ≡ 2
unfolding in_use sum_below class_holding extents room_of
used_before = refl

used_then : use_with full_store (Some (a_list 256 256 0)) grown 9 ≡ 2
unfolding in_use sum_below class_holding extents room_of
used_then = refl

other_class : IsOver (Some (in_use full_store)) (use_with full_store (Some (a_list 256 256 0)) grown)
    (Full 1_684 512 2_048) → ⊥
other_class o = let e = o.words in elim (eqb_tells o.class 9) [
  | inl y ↦
      let more : in_use full_store 9 < use_with full_store (Some (a_list 256 256 0)) grown 9 =
      subst (λ c. in_use full_store c < use_with full_store (Some (a_list 256 256 0)) grown c) y.1 o.more in
      let u = used_before in
      let w = used_then in
      omega arith
  | inr n ↦ elim (cases_lt o.class 9) [
    | inl l ↦ let p : 2 ^ o.class < 512 = pow-lt l in omega arith
    | inr l ↦ let m = n.1 in let p : 512 < 2 ^ o.class = pow-lt (other_above o.class l m) in omega arith
  ]
]
  where
    other_above : (c : ℕ) → 9 ≤ c → c ≢ 9 → 9 < c
    other_above c l m = grind arith

-- a Cell fits
cell_words : words_with (in_use full_store) (use_with full_store None a_cell) ≡ 1_690
unfolding in_use sum_below class_holding extents words_in room_of
cell_words = refl

cell_fits : Fits (Some (in_use full_store)) (use_with full_store None a_cell) 2_048
cell_fits = let e = cell_words in omega arith

-- Where an extent of the class was in use before, the next body fits, though no word is left: that extent was given
-- back.
abbrev one_spare : ℕ → ℕ
one_spare c = in_use full_store c + one_if (eqb c 10)

spare_words : words_with one_spare (use_with full_store (Some (a_list 256 256 0)) grown) ≡ 2_708
unfolding in_use sum_below class_holding extents words_in room_of
spare_words = refl

spare_serves : Fits (Some one_spare) (use_with full_store (Some (a_list 256 256 0)) grown) 2_708
spare_serves = let e = spare_words in omega arith

-- of want of memory nothing is said
memory_free : IsOver (Some (in_use full_store)) (use_with full_store None a_cell) OutOfMemory
memory_free = tt
