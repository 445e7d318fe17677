-- How many extents records have, beside how many a store counts, over the store's calls.
use Rattle.std.proofs.Common.{◌≡◌, ◌≢◌, ℕ, ◌+◌, ◌-◌, ◌/◌, ◌<◌, ◌≤◌, true, false, cond, eqb, Option, Some, None, is_some, ◌⊎◌, inl, inr, refl, sym, ◌∙◌, ap, arith}
use Rattle.std.proofs.lemmas.Bool.{cond-true, cond-false, or_cases, or_left, or_right}
use Rattle.std.proofs.lemmas.Bool.Decides.{eqb_tells}
use Rattle.py_data.specs.Heap.{Rec, Heap, Has, at, put_at, no_records}
use Rattle.py_data.specs.Sight.{mem}
use Rattle.py_data.proofs.Grow.{mem_append}
use Rattle.seg_store.specs.Meaning.{Part, Meaning, over, overlay, sees, saw, holds, with_part}
use Rattle.seg_store.specs.Calls.{begun, marked, locked, changed, made, opened, undone, ended, after_begin, after_mark, after_lock, after_change, after_make, after_open, after_undo, after_publish, after_drop}
use Rattle.seg_store.specs.Store.{IsStore, IsFree}
use Rattle.seg_store.specs.Extents.{extents, extents_of}
use Rattle.seg_store.specs.Sums.{sum_below, asked, gained}
use Rattle.seg_store.specs.Telling.{in_use}
use Rattle.seg_store.proofs.Sees.{own_part, overlay_put, lock_shows}
use Rattle.paged_store.specs.inner.Counted.{Counts, Gains, IsCounted}
use Rattle.paged_store.proofs.Keeping.{unheld}
use Rattle.paged_store.proofs.OverLemmas.{put_self}
use Rattle.paged_store.proofs.SumLemmas.{sum_same, sum_none, sum_both, sum_put}

-- ---- what one heap has beyond another

-- each record of g has at least the extents of that of h
abbrev HasMore : Heap → Heap → Type 0
HasMore h g = (a c : ℕ) → 1 ≤ c → extents_of (h a) c ≤ extents_of (g a) c

gained_asked : (n : ℕ) (h g : Heap) → HasMore h g → (c : ℕ) → 1 ≤ c → asked n h c + gained n h g c ≡ asked n g c
gained_asked n h g more c l =
    let both : sum_below n (λ a. extents_of (h a) c + (extents_of (g a) c - extents_of (h a) c))
    ≡ asked n h c + gained n h g c =
    sum_both n (λ a. extents_of (h a) c) (λ a. extents_of (g a) c - extents_of (h a) c) in
    sym both ∙ sum_same n (λ a. extents_of (h a) c + (extents_of (g a) c - extents_of (h a) c))
    (λ a. extents_of (g a) c) (λ a b. let m = more a c l in omega arith)

-- what the one has and what the other gains are what the other has
pub gains_asked : (n : ℕ) (h g : Heap) (f : ℕ → ℕ) → Gains n h g f → (c : ℕ) → 1 ≤ c
    → asked n h c + f c ≡ asked n g c
gains_asked n h g f w c l =
    let e = gained_asked n h g w.more c l in
    let s = w.sum c l in
    omega arith

pub asked_gains : (n : ℕ) (h g : Heap) (f : ℕ → ℕ) → HasMore h g
    → ((c : ℕ) → 1 ≤ c → asked n h c + f c ≡ asked n g c) → Gains n h g f
asked_gains n h g f more sums = record {
  more = more;
  sum = λ c l. let e = gained_asked n h g more c l in let s = sums c l in omega arith;
}

-- nothing is gained
pub gains_none : (n : ℕ) (h : Heap) → Gains n h h (λ c. 0)
gains_none n h = asked_gains n h h (λ c. 0) (λ a c l. omega arith) (λ c l. omega arith)

-- the same records and numbers
pub gains_same : (n n1 : ℕ) (h g h1 g1 : Heap) (f f1 : ℕ → ℕ) → Gains n h g f → n1 ≡ n
    → ((a : ℕ) → h1 a ≡ h a) → ((a : ℕ) → g1 a ≡ g a) → ((c : ℕ) → 1 ≤ c → f1 c ≡ f c) → Gains n1 h1 g1 f1
gains_same n n1 h g h1 g1 f f1 w e p q r = record { more = more; sum = λ c l. sum c ∙ w.sum c l ∙ sym (r c l) }
  where
    more : (a c : ℕ) → 1 ≤ c → extents_of (h1 a) c ≤ extents_of (g1 a) c
    more a c l =
        let x : extents_of (h1 a) c ≡ extents_of (h a) c = ap (λ o. extents_of o c) (p a) in
        let y : extents_of (g1 a) c ≡ extents_of (g a) c = ap (λ o. extents_of o c) (q a) in
        let m = w.more a c l in
        omega arith

    sum : (c : ℕ) → gained n1 h1 g1 c ≡ gained n h g c
    sum c = λ i. gained (e i) (λ a. p a i) (λ a. q a i) c

-- other heaps: at each address the first's record is the same and so is the second's, or nothing is gained there
pub gains_moved : (n : ℕ) (h g h1 g1 : Heap) (f : ℕ → ℕ) → Gains n h g f
    → ((a : ℕ) → ((h1 a ≡ h a) × (g1 a ≡ g a)) ⊎ ((g1 a ≡ h1 a) × (g a ≡ h a))) → Gains n h1 g1 f
gains_moved n h g h1 g1 f w e = record {
  more = λ a c l. more a c (e a) l;
  sum = λ c l. sum_same n (λ a. extents_of (g1 a) c - extents_of (h1 a) c)
      (λ a. extents_of (g a) c - extents_of (h a) c) (λ a b. beyond a c (e a)) ∙ w.sum c l;
}
  where
    has : (c : ℕ) (o p : Option Rec) → o ≡ p → extents_of o c ≡ extents_of p c
    has c o p q = ap (λ z. extents_of z c) q

    more : (a c : ℕ) → ((h1 a ≡ h a) × (g1 a ≡ g a)) ⊎ ((g1 a ≡ h1 a) × (g a ≡ h a)) → 1 ≤ c
        → extents_of (h1 a) c ≤ extents_of (g1 a) c
    more a c (inl s) l =
        let x = has c (h1 a) (h a) s.0 in
        let y = has c (g1 a) (g a) s.1 in
        let m = w.more a c l in
        omega arith
    more a c (inr s) l = let x = has c (g1 a) (h1 a) s.0 in omega arith

    beyond : (a c : ℕ) → ((h1 a ≡ h a) × (g1 a ≡ g a)) ⊎ ((g1 a ≡ h1 a) × (g a ≡ h a))
        → extents_of (g1 a) c - extents_of (h1 a) c ≡ extents_of (g a) c - extents_of (h a) c
    beyond a c (inl s) =
        let x = has c (h1 a) (h a) s.0 in
        let y = has c (g1 a) (g a) s.1 in
        omega arith
    beyond a c (inr s) =
        let x = has c (g1 a) (h1 a) s.0 in
        let y = has c (g a) (h a) s.1 in
        omega arith

-- a record with d more of each class
pub gains_put : (n : ℕ) (h g : Heap) (f d : ℕ → ℕ) (a : ℕ) (r : Rec) → Gains n h g f → a < n
    → ((c : ℕ) → 1 ≤ c → extents r c ≡ extents_of (g a) c + d c) → Gains n h (put_at g a r) (λ c. f c + d c)
gains_put n h g f d a r w within e = asked_gains n h (put_at g a r) (λ c. f c + d c) more sums
  where
    put : (c b : ℕ) → extents_of (put_at g a r b) c ≡ cond (eqb b a) (extents r c) (extents_of (g b) c)
    put c b = elim (eqb b a) as
        (λ t. extents_of (cond t (Some r) (g b)) c ≡ cond t (extents r c) (extents_of (g b) c))
        [ true ↦ refl | false ↦ refl ]

    more : (b c : ℕ) → 1 ≤ c → extents_of (h b) c ≤ extents_of (put_at g a r b) c
    more b c l = elim (eqb_tells b a) [
      | inl y ↦
          let m = w.more b c l in
          let x = e c l in
          let z : extents_of (g b) c ≡ extents_of (g a) c = ap (λ i. extents_of (g i) c) y.1 in
          let p = put c b ∙ cond-true (eqb b a) (extents r c) (extents_of (g b) c) y.0 in
          omega arith
      | inr d ↦
          let m = w.more b c l in
          let p = put c b ∙ cond-false (eqb b a) (extents r c) (extents_of (g b) c) d.0 in
          omega arith
    ]

    sums : (c : ℕ) → 1 ≤ c → asked n h c + (f c + d c) ≡ asked n (put_at g a r) c
    sums c l =
        let s : asked n (put_at g a r) c + extents_of (g a) c ≡ asked n g c + extents r c =
        sum_put n a (extents r c) (λ b. extents_of (put_at g a r b) c) (λ b. extents_of (g b) c) within (put c) in
        let x = e c l in
        let y = gains_asked n h g f w c l in
        omega arith

-- of each segment, where segment k alone has another heap
pub gains_each : (n k : ℕ) (h g : Heap) (x : ℕ → ℕ) (old new : ℕ → Heap) (f f1 : ℕ → ℕ → ℕ)
    → ((j : ℕ) → Gains n h (old j) (f j)) → Gains n h g x
    → ((j b : ℕ) → new j b ≡ cond (eqb j k) (g b) (old j b))
    → ((j c : ℕ) → 1 ≤ c → f1 j c ≡ cond (eqb j k) (x c) (f j c)) → (j : ℕ) → Gains n h (new j) (f1 j)
gains_each n k h g x old new f f1 each own heaps counts j = elim (eqb_tells j k) [
  | inl y ↦ gains_same n n h g h (new j) x (f1 j) own refl (λ a. refl)
      (λ b. heaps j b ∙ cond-true (eqb j k) (g b) (old j b) y.0)
      (λ c l. counts j c l ∙ cond-true (eqb j k) (x c) (f j c) y.0)
  | inr d ↦ gains_same n n h (old j) h (new j) (f j) (f1 j) (each j) refl (λ a. refl)
      (λ b. heaps j b ∙ cond-false (eqb j k) (g b) (old j b) d.0)
      (λ c l. counts j c l ∙ cond-false (eqb j k) (x c) (f j c) d.0)
]

-- ---- what is counted

pub in_use_counted : (m : Meaning) (n : Counts) → IsCounted m n → (c : ℕ) → 1 ≤ c → in_use m c + n.spare c ≡ n.total c
unfolding in_use
in_use_counted m n w c l =
    let s : sum_below m.segments (λ k. gained (m.limit / 2) m.image (sees m k) c) ≡
    sum_below m.segments (λ k. n.now k c) = sum_same m.segments
    (λ k. gained (m.limit / 2) m.image (sees m k) c) (λ k. n.now k c) (λ k b. (w.now k).sum c l) in
    let a = w.all c l in
    omega arith

-- where the image and the bounds stay, and the sums still fit
counted_still : (m u : Meaning) (n n1 : Counts) → IsCounted m n → u.image ≡ m.image → u.limit ≡ m.limit
    → u.segments ≡ m.segments
    → ((c : ℕ) → 1 ≤ c → sum_below m.segments (λ k. n1.now k c) + n1.spare c + n.total c
    ≡ sum_below m.segments (λ k. n.now k c) + n.spare c + n1.total c)
    → ((k : ℕ) → Gains (m.limit / 2) m.image (sees u k) (n1.now k))
    → ((k : ℕ) → Gains (m.limit / 2) m.image (saw u k) (n1.before k)) → IsCounted u n1
counted_still m u n n1 w image limit segments sums now before = record {
  all = all;
  now = λ k. moved (sees u k) (n1.now k) (now k);
  before = λ k. moved (saw u k) (n1.before k) (before k);
}
  where
    moved : (g : Heap) (f : ℕ → ℕ) → Gains (m.limit / 2) m.image g f → Gains (u.limit / 2) u.image g f
    moved g f x = gains_same (m.limit / 2) (u.limit / 2) m.image g u.image g f f x (ap (λ z. z / 2) limit)
        (λ a. ap (λ (h : Heap). h a) image) (λ a. refl) (λ c l. refl)

    all : (c : ℕ) → 1 ≤ c
        → asked (u.limit / 2) u.image c + sum_below u.segments (λ k. n1.now k c) + n1.spare c ≡ n1.total c
    all c l =
        let e : asked (u.limit / 2) u.image c ≡ asked (m.limit / 2) m.image c =
        (λ i. asked (limit i / 2) (image i) c) in
        let s : sum_below u.segments (λ k. n1.now k c) ≡ sum_below m.segments (λ k. n1.now k c) =
        ap (λ z. sum_below z (λ k. n1.now k c)) segments in
        let a = w.all c l in
        let x = sums c l in
        omega arith

-- the same counts
pub counted_as : (m : Meaning) (a b : Counts) → IsCounted m a
    → ((c : ℕ) → 1 ≤ c → b.spare c ≡ a.spare c) → ((c : ℕ) → 1 ≤ c → b.total c ≡ a.total c)
    → ((k c : ℕ) → 1 ≤ c → b.now k c ≡ a.now k c) → ((k c : ℕ) → 1 ≤ c → b.before k c ≡ a.before k c)
    → IsCounted m b
counted_as m a b w spare total now before = counted_still m m a b w refl refl refl sums
    (λ k. gains_same (m.limit / 2) (m.limit / 2) m.image (sees m k) m.image (sees m k) (a.now k) (b.now k) (w.now k)
    refl (λ i. refl) (λ i. refl) (now k))
    (λ k. gains_same (m.limit / 2) (m.limit / 2) m.image (saw m k) m.image (saw m k) (a.before k) (b.before k)
    (w.before k) refl (λ i. refl) (λ i. refl) (before k))
  where
    sums : (c : ℕ) → 1 ≤ c → sum_below m.segments (λ k. b.now k c) + b.spare c + a.total c
        ≡ sum_below m.segments (λ k. a.now k c) + a.spare c + b.total c
    sums c l =
        let s = sum_same m.segments (λ k. b.now k c) (λ k. a.now k c) (λ k i. now k c l) in
        let x = spare c l in
        let y = total c l in
        omega arith

-- the same image and bounds, and what each segment sees and saw
pub counted_same : (m u : Meaning) (n : Counts) → IsCounted m n → u.image ≡ m.image → u.limit ≡ m.limit
    → u.segments ≡ m.segments → ((j a : ℕ) → sees u j a ≡ sees m j a) → ((j a : ℕ) → saw u j a ≡ saw m j a)
    → IsCounted u n
counted_same m u n w image limit segments seen before = counted_still m u n n w image limit segments
    (λ c l. refl)
    (λ k. gains_same (m.limit / 2) (m.limit / 2) m.image (sees m k) m.image (sees u k) (n.now k) (n.now k) (w.now k)
    refl (λ a. refl) (seen k) (λ c l. refl))
    (λ k. gains_same (m.limit / 2) (m.limit / 2) m.image (saw m k) m.image (saw u k) (n.before k) (n.before k)
    (w.before k) refl (λ a. refl) (before k) (λ c l. refl))

-- ---- a record in the place of another, or of none

-- segment k has a record with d more extents of each class, which are new or were given back
pub counted_put : (m u : Meaning) (n n1 : Counts) (k a : ℕ) (r : Rec) (d : ℕ → ℕ) → IsCounted m n
    → u.image ≡ m.image → u.limit ≡ m.limit → u.segments ≡ m.segments
    → ((j b : ℕ) → sees u j b ≡ cond (eqb j k) (put_at (sees m k) a r b) (sees m j b))
    → ((j b : ℕ) → saw u j b ≡ saw m j b) → k < m.segments → a < m.limit / 2
    → ((c : ℕ) → 1 ≤ c → extents r c ≡ extents_of (sees m k a) c + d c)
    → ((j c : ℕ) → 1 ≤ c → n1.now j c ≡ cond (eqb j k) (n.now k c + d c) (n.now j c))
    → ((j c : ℕ) → 1 ≤ c → n1.before j c ≡ n.before j c)
    → ((c : ℕ) → 1 ≤ c → d c + n1.spare c + n.total c ≡ n.spare c + n1.total c) → IsCounted u n1
counted_put m u n n1 k a r d w image limit segments seen still segment within more now before rest =
    counted_still m u n n1 w image limit segments sums
    (gains_each (m.limit / 2) k m.image (put_at (sees m k) a r) (λ c. n.now k c + d c) (sees m) (sees u) n.now n1.now
    w.now (gains_put (m.limit / 2) m.image (sees m k) (n.now k) d a r (w.now k) within more) seen now)
    (λ j. gains_same (m.limit / 2) (m.limit / 2) m.image (saw m j) m.image (saw u j) (n.before j) (n1.before j)
    (w.before j) refl (λ b. refl) (still j) (before j))
  where
    sums : (c : ℕ) → 1 ≤ c → sum_below m.segments (λ j. n1.now j c) + n1.spare c + n.total c
        ≡ sum_below m.segments (λ j. n.now j c) + n.spare c + n1.total c
    sums c l =
        let s : sum_below m.segments (λ j. n1.now j c) + n.now k c ≡
        sum_below m.segments (λ j. n.now j c) + (n.now k c + d c) = sum_put m.segments k (n.now k c + d c)
        (λ j. n1.now j c) (λ j. n.now j c) segment (λ j. now j c l) in
        let x = rest c l in
        omega arith

-- what segments see with another part for segment k
sees_part : (k : ℕ) (p : Part) (m : Meaning) (g : Heap) → overlay m.image p.changes ≡ g
    → (j b : ℕ) → sees (with_part k p m) j b ≡ cond (eqb j k) (g b) (sees m j b)
sees_part k p m g e j b = elim (eqb j k) as
    (λ t. over ((cond t p (m.part j)).changes b) (m.image b) ≡ cond t (g b) (sees m j b))
    [ true ↦ ap (λ (h : Heap). h b) e | false ↦ refl ]

saw_part : (k : ℕ) (p : Part) (m : Meaning) (g : Heap) → overlay m.image p.kept ≡ g
    → (j b : ℕ) → saw (with_part k p m) j b ≡ cond (eqb j k) (g b) (saw m j b)
saw_part k p m g e j b = elim (eqb j k) as
    (λ t. over ((cond t p (m.part j)).kept b) (m.image b) ≡ cond t (g b) (saw m j b))
    [ true ↦ ap (λ (h : Heap). h b) e | false ↦ refl ]

cond_own : (k j : ℕ) (f : ℕ → Option Rec) → cond (eqb j k) (f k) (f j) ≡ f j
cond_own k j f = ap (λ (g : ℕ → Option Rec). g j) (put_self k (f k) f refl)

saw_still : (k : ℕ) (p : Part) (m : Meaning) → p.kept ≡ (m.part k).kept
    → (j b : ℕ) → saw (with_part k p m) j b ≡ saw m j b
saw_still k p m e j b = saw_part k p m (saw m k) (ap (overlay m.image) e) j b ∙ cond_own k j (λ i. saw m i b)

pub counted_change : (m : Meaning) (n n1 : Counts) (k a : ℕ) (f : Rec → Rec) (d : ℕ → ℕ) → IsCounted m n
    → k < m.segments → a < m.limit / 2
    → ((c : ℕ) → 1 ≤ c → extents (f (at (sees m k) a)) c ≡ extents_of (sees m k a) c + d c)
    → ((j c : ℕ) → 1 ≤ c → n1.now j c ≡ cond (eqb j k) (n.now k c + d c) (n.now j c))
    → ((j c : ℕ) → 1 ≤ c → n1.before j c ≡ n.before j c)
    → ((c : ℕ) → 1 ≤ c → d c + n1.spare c + n.total c ≡ n.spare c + n1.total c)
    → IsCounted (after_change k a f m) n1
counted_change m n n1 k a f d w segment within more now before rest =
    let r = f (at (sees m k) a) in
    let p = changed a r (m.part k) in
    counted_put m (after_change k a f m) n n1 k a r d w refl refl refl
    (sees_part k p m (put_at (sees m k) a r) (overlay_put m.image (m.part k).changes a r)) (saw_still k p m refl)
    segment within more now before rest

pub counted_make : (m : Meaning) (n n1 : Counts) (k x : ℕ) (r : Rec) → IsFree m x → IsCounted m n
    → k < m.segments → x < m.limit / 2
    → ((j c : ℕ) → 1 ≤ c → n1.now j c ≡ cond (eqb j k) (n.now k c + extents r c) (n.now j c))
    → ((j c : ℕ) → 1 ≤ c → n1.before j c ≡ n.before j c)
    → ((c : ℕ) → 1 ≤ c → extents r c + n1.spare c + n.total c ≡ n.spare c + n1.total c)
    → IsCounted (after_make k x r m) n1
counted_make m n n1 k x r free w segment within now before rest =
    let p = made x r (m.part k) in
    counted_put m (after_make k x r m) n n1 k x r (extents r) w refl refl refl
    (sees_part k p m (put_at (sees m k) x r) (overlay_put m.image (m.part k).changes x r)) (saw_still k p m refl)
    segment within more now before rest
  where
    none : sees m k x ≡ None
    none = ap (λ o. over o (m.image x)) (free.changes k) ∙ free.image

    more : (c : ℕ) → 1 ≤ c → extents r c ≡ extents_of (sees m k x) c + extents r c
    more c l = let e : extents_of (sees m k x) c ≡ 0 = ap (λ o. extents_of o c) none in omega arith

-- ---- a step is taken back, or a transaction ends

-- the sum where segment k alone has another number
sums_moved : (m : Meaning) (n n1 : Counts) (k : ℕ) (x : ℕ → ℕ) → k < m.segments
    → ((j c : ℕ) → 1 ≤ c → n1.now j c ≡ cond (eqb j k) (x c) (n.now j c)) → (c : ℕ) → 1 ≤ c
    → sum_below m.segments (λ j. n1.now j c) + n.now k c ≡ sum_below m.segments (λ j. n.now j c) + x c
sums_moved m n n1 k x segment now c l =
    sum_put m.segments k (x c) (λ j. n1.now j c) (λ j. n.now j c) segment (λ j. now j c l)

pub counted_undo : (m : Meaning) (n n1 : Counts) (k : ℕ) → IsCounted m n → k < m.segments
    → ((j c : ℕ) → 1 ≤ c → n1.now j c ≡ cond (eqb j k) (n.before k c) (n.now j c))
    → ((j c : ℕ) → 1 ≤ c → n1.before j c ≡ n.before j c) → ((c : ℕ) → 1 ≤ c → n1.total c ≡ n.total c)
    → ((c : ℕ) → 1 ≤ c → n1.spare c + n.before k c ≡ n.spare c + n.now k c) → IsCounted (after_undo k m) n1
counted_undo m n n1 k w segment now before total spare = counted_still m (after_undo k m) n n1 w refl refl refl sums
    (gains_each (m.limit / 2) k m.image (saw m k) (n.before k) (sees m) (sees (after_undo k m)) n.now n1.now w.now
    (w.before k) (sees_part k (undone (m.part k)) m (saw m k) refl) now)
    (λ j. gains_same (m.limit / 2) (m.limit / 2) m.image (saw m j) m.image (saw (after_undo k m) j) (n.before j)
    (n1.before j) (w.before j) refl (λ b. refl) (saw_still k (undone (m.part k)) m refl j) (before j))
  where
    sums : (c : ℕ) → 1 ≤ c → sum_below m.segments (λ j. n1.now j c) + n1.spare c + n.total c
        ≡ sum_below m.segments (λ j. n.now j c) + n.spare c + n1.total c
    sums c l =
        let s = sums_moved m n n1 k (n.before k) segment now c l in
        let x = total c l in
        let y = spare c l in
        omega arith

pub counted_drop : (m : Meaning) (n n1 : Counts) (k : ℕ) → IsCounted m n → k < m.segments
    → ((j c : ℕ) → 1 ≤ c → n1.now j c ≡ cond (eqb j k) 0 (n.now j c))
    → ((j c : ℕ) → 1 ≤ c → n1.before j c ≡ cond (eqb j k) 0 (n.before j c))
    → ((c : ℕ) → 1 ≤ c → n1.total c ≡ n.total c)
    → ((c : ℕ) → 1 ≤ c → n1.spare c ≡ n.spare c + n.now k c) → IsCounted (after_drop k m) n1
counted_drop m n n1 k w segment now before total spare = counted_still m (after_drop k m) n n1 w refl refl refl sums
    (gains_each (m.limit / 2) k m.image m.image (λ c. 0) (sees m) (sees (after_drop k m)) n.now n1.now w.now
    (gains_none (m.limit / 2) m.image) (sees_part k (ended (m.part k)) m m.image refl) now)
    (gains_each (m.limit / 2) k m.image m.image (λ c. 0) (saw m) (saw (after_drop k m)) n.before n1.before w.before
    (gains_none (m.limit / 2) m.image) (saw_part k (ended (m.part k)) m m.image refl) before)
  where
    sums : (c : ℕ) → 1 ≤ c → sum_below m.segments (λ j. n1.now j c) + n1.spare c + n.total c
        ≡ sum_below m.segments (λ j. n.now j c) + n.spare c + n1.total c
    sums c l =
        let s = sums_moved m n n1 k (λ c. 0) segment now c l in
        let x = total c l in
        let y = spare c l in
        omega arith

-- one record or another, which are the same where a record o lies over them
beside : (o x y : Option Rec) → (is_some o ≡ true → x ≡ y)
    → ((x ≡ y) × (over o x ≡ over o y)) ⊎ ((over o x ≡ x) × (over o y ≡ y))
beside None x y e = inr (refl, refl)
beside (Some r) x y e = inl (e refl, refl)

-- what another segment has lies over records of the image that segment k hasn't changed
module _ (r : ℕ) (m : Meaning) (k : ℕ) (store : IsStore r m) where
  pub now_held : (j b : ℕ) → is_some ((m.part j).changes b) ≡ true → holds (m.part j) b ≡ true
  now_held j b e = sym (store.changes j b) ∙ e

  pub then_held : (j b : ℕ) → is_some ((m.part j).kept b) ≡ true → holds (m.part j) b ≡ true
  then_held j b e = elim (or_cases (mem b (m.part j).changed) (mem b (m.part j).kept_made) (sym (store.kept j b) ∙ e)) [
    | inl x ↦ or_left _ _ x
    | inr x ↦ or_right _ _ (ap (mem b) (store.front j).1 ∙ mem_append b (m.part j).kept_made (store.front j).0 ∙
        or_left _ _ x)
  ]

  -- with a heap of records that segment j holds
  gains_published : (j : ℕ) (x : Heap) (f : ℕ → ℕ) → j ≢ k
      → ((b : ℕ) → is_some (x b) ≡ true → holds (m.part j) b ≡ true)
      → Gains (m.limit / 2) m.image (overlay m.image x) f
      → Gains (m.limit / 2) (sees m k) (overlay (sees m k) x) f
  gains_published j x f d held w = gains_moved (m.limit / 2) m.image (overlay m.image x) (sees m k)
      (overlay (sees m k) x) f w
      (λ b. beside (x b) (sees m k b) (m.image b) (λ e. unheld r m k b store (store.apart j k b d (held b e))))

  -- of each segment, with its heap of changes now or as its step began
  gains_ended : (part : Part → Heap) (f f1 : ℕ → ℕ → ℕ) → part (ended (m.part k)) ≡ no_records
      → ((j b : ℕ) → is_some (part (m.part j) b) ≡ true → holds (m.part j) b ≡ true)
      → ((j : ℕ) → Gains (m.limit / 2) m.image (overlay m.image (part (m.part j))) (f j))
      → ((j c : ℕ) → 1 ≤ c → f1 j c ≡ cond (eqb j k) 0 (f j c)) → (j : ℕ)
      → Gains (m.limit / 2) (sees m k) (overlay (sees m k) (part ((after_publish k m).part j))) (f1 j)
  gains_ended part f f1 none held each counts j = elim (eqb_tells j k) [
    | inl y ↦ gains_same (m.limit / 2) (m.limit / 2) (sees m k) (sees m k) (sees m k)
        (overlay (sees m k) (part ((after_publish k m).part j))) (λ c. 0) (f1 j)
        (gains_none (m.limit / 2) (sees m k)) refl (λ b. refl)
        (λ b. ap (λ (p : Part). over (part p b) (sees m k b))
        (cond-true (eqb j k) (ended (m.part k)) (m.part j) y.0) ∙ ap (λ (h : Heap). over (h b) (sees m k b)) none)
        (λ c l. counts j c l ∙ cond-true (eqb j k) 0 (f j c) y.0)
    | inr d ↦ gains_same (m.limit / 2) (m.limit / 2) (sees m k) (overlay (sees m k) (part (m.part j))) (sees m k)
        (overlay (sees m k) (part ((after_publish k m).part j))) (f j) (f1 j)
        (gains_published j (part (m.part j)) (f j) d.1 (held j) (each j)) refl (λ b. refl)
        (λ b. ap (λ (p : Part). over (part p b) (sees m k b))
        (cond-false (eqb j k) (ended (m.part k)) (m.part j) d.0))
        (λ c l. counts j c l ∙ cond-false (eqb j k) 0 (f j c) d.0)
  ]

pub counted_publish : (r : ℕ) (m : Meaning) (n n1 : Counts) (k : ℕ) → IsStore r m → IsCounted m n → k < m.segments
    → ((j c : ℕ) → 1 ≤ c → n1.now j c ≡ cond (eqb j k) 0 (n.now j c))
    → ((j c : ℕ) → 1 ≤ c → n1.before j c ≡ cond (eqb j k) 0 (n.before j c))
    → ((c : ℕ) → 1 ≤ c → n1.spare c ≡ n.spare c) → ((c : ℕ) → 1 ≤ c → n1.total c ≡ n.total c)
    → IsCounted (after_publish k m) n1
counted_publish r m n n1 k store w segment now before spare total = record {
  all = all;
  now = gains_ended r m k store (λ p. p.changes) n.now n1.now refl (now_held r m k store) w.now now;
  before = gains_ended r m k store (λ p. p.kept) n.before n1.before refl (then_held r m k store) w.before before;
}
  where
    all : (c : ℕ) → 1 ≤ c
        → asked (m.limit / 2) (sees m k) c + sum_below m.segments (λ j. n1.now j c) + n1.spare c ≡ n1.total c
    all c l =
        let s = sums_moved m n n1 k (λ c. 0) segment now c l in
        let g = gains_asked (m.limit / 2) m.image (sees m k) (n.now k) (w.now k) c l in
        let a = w.all c l in
        let x = spare c l in
        let y = total c l in
        omega arith

-- ---- nothing is taken, nor given back

-- another part for segment k, which sees and saw what it did
counted_part : (m : Meaning) (n : Counts) (k : ℕ) (p : Part) → IsCounted m n → overlay m.image p.changes ≡ sees m k
    → overlay m.image p.kept ≡ saw m k → IsCounted (with_part k p m) n
counted_part m n k p w seen before = counted_same m (with_part k p m) n w refl refl refl
    (λ j b. sees_part k p m (sees m k) seen j b ∙ cond_own k j (λ i. sees m i b))
    (λ j b. saw_part k p m (saw m k) before j b ∙ cond_own k j (λ i. saw m i b))

pub counted_begin : (m : Meaning) (n : Counts) (k : ℕ) → IsCounted m n → IsCounted (after_begin k m) n
counted_begin m n k w = counted_part m n k (begun (m.part k)) w refl refl

pub counted_mark : (m : Meaning) (n : Counts) (k a : ℕ) → IsCounted m n → IsCounted (after_mark k a m) n
counted_mark m n k a w = counted_part m n k (marked a (m.part k)) w refl refl

pub counted_lock : (r : ℕ) (m : Meaning) (n : Counts) (k a : ℕ) → IsStore r m → Has (sees m k) a → IsCounted m n
    → IsCounted (after_lock k a m) n
counted_lock r m n k a store there w =
    let p = locked a (at (sees m k) a) (m.part k) in
    let shows = lock_shows r m k a store there in
    let own = own_part k p m in
    counted_part m n k p w (sym (ap (λ (q : Part). overlay m.image q.changes) own) ∙ shows.seen)
    (sym (ap (λ (q : Part). overlay m.image q.kept) own) ∙ shows.before)

pub counted_open : (m : Meaning) (n : Counts) (k : ℕ) → IsCounted m n
    → IsCounted (after_open k m) (record n { before = λ j. cond (eqb j k) (n.now k) (n.before j) })
counted_open m n k w = counted_still m (after_open k m) n n1 w refl refl refl (λ c l. refl)
    (λ j. gains_same (m.limit / 2) (m.limit / 2) m.image (sees m j) m.image (sees (after_open k m) j) (n.now j)
    (n.now j) (w.now j) refl (λ b. refl) (seen j) (λ c l. refl))
    (gains_each (m.limit / 2) k m.image (sees m k) (n.now k) (saw m) (saw (after_open k m)) n.before n1.before
    w.before (w.now k) (saw_part k (opened (m.part k)) m (sees m k) refl) counts)
  where
    n1 : Counts
    n1 = record n { before = λ j. cond (eqb j k) (n.now k) (n.before j) }

    seen : (j b : ℕ) → sees (after_open k m) j b ≡ sees m j b
    seen j b = sees_part k (opened (m.part k)) m (sees m k) refl j b ∙ cond_own k j (λ i. sees m i b)

    counts : (j c : ℕ) → 1 ≤ c → n1.before j c ≡ cond (eqb j k) (n.now k c) (n.before j c)
    counts j c l = elim (eqb j k) as
        (λ t. cond t (n.now k) (n.before j) c ≡ cond t (n.now k c) (n.before j c)) [ true ↦ refl | false ↦ refl ]

-- a store without records
pub counted_new : (m : Meaning) (n : Counts) → ((a : ℕ) → m.image a ≡ None)
    → ((j a : ℕ) → (m.part j).changes a ≡ None) → ((j a : ℕ) → (m.part j).kept a ≡ None)
    → ((c : ℕ) → 1 ≤ c → n.spare c ≡ 0) → ((c : ℕ) → 1 ≤ c → n.total c ≡ 0)
    → ((j c : ℕ) → 1 ≤ c → n.now j c ≡ 0) → ((j c : ℕ) → 1 ≤ c → n.before j c ≡ 0) → IsCounted m n
counted_new m n image changes kept spare total now before = record {
  all = all;
  now = λ j. each (m.part j).changes (n.now j) (changes j) (now j);
  before = λ j. each (m.part j).kept (n.before j) (kept j) (before j);
}
  where
    each : (x : Heap) (f : ℕ → ℕ) → ((a : ℕ) → x a ≡ None) → ((c : ℕ) → 1 ≤ c → f c ≡ 0)
        → Gains (m.limit / 2) m.image (overlay m.image x) f
    each x f none zeros = gains_same (m.limit / 2) (m.limit / 2) m.image m.image m.image (overlay m.image x)
        (λ c. 0) f (gains_none (m.limit / 2) m.image) refl (λ a. refl)
        (λ a. ap (λ o. over o (m.image a)) (none a)) zeros

    all : (c : ℕ) → 1 ≤ c
        → asked (m.limit / 2) m.image c + sum_below m.segments (λ j. n.now j c) + n.spare c ≡ n.total c
    all c l =
        let a = sum_none (m.limit / 2) (λ a. extents_of (m.image a) c)
        (λ a b. ap (λ o. extents_of o c) (image a)) in
        let s = sum_none m.segments (λ j. n.now j c) (λ j b. now j c l) in
        let x = spare c l in
        let y = total c l in
        omega arith
