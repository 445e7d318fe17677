-- What a store tells of its extents.
use Rattle.std.proofs.Common.{◌≡◌, ℕ, ◌+◌, ◌^◌, ◌<◌, ◌≤◌, max, eqb, List, [], ◌∷◌, ◌++◌, length, Option, Some, inl, inr, refl, sym, ap, arith}
use Rattle.std.proofs.lemmas.Bool.Decides.{eqb_tells}
use Rattle.py_data.specs.declared.record.Record.{Record}
use Rattle.py_data.specs.Heap.{Rec}
use Rattle.seg_store.specs.declared.store.StoreFault.{StoreFault}
use Rattle.seg_store.specs.declared.store.StoreFault.TheVariants.{Full, OutOfMemory}
use Rattle.seg_store.specs.Extents.{extents, extents_of, words_in}
use Rattle.seg_store.specs.Telling.{in_use, use_with, Rises, RisesTo, Fits, IsOver, IsTelling}
use Rattle.seg_store.specs.Store.{IsStore}
use Rattle.seg_store.proofs.WordSums.{words_le, words_more}
use Rattle.page_table.specs.Pages.{Table, limit}
use Rattle.paged_store.specs.Words.{Words}
use Rattle.paged_store.specs.inner.Claiming.{extent_for, times, RisesBy, Denies}
use Rattle.paged_store.specs.inner.Growing.{grown_class, grown_index, grown_extents}
use Rattle.paged_store.specs.inner.Making.{body_class, index_class, made_extents}
use Rattle.paged_store.specs.State.{meaning_in}
use Rattle.paged_store.specs.Paged.{Paged, one_if, state_of}
use Rattle.paged_store.specs.inner.Fine.{of_class, counts_of, Fine}
use Rattle.paged_store.proofs.CountLemmas.{in_use_counted}
use Rattle.paged_store.proofs.EndLemmas.{class_both}
use Rattle.paged_store.proofs.ExtentCounts.{no_class}

-- ---- classes of extents that are taken

pub class_for : (c class place : ℕ) → 1 ≤ c → of_class c (extent_for class place) ≡ one_if (eqb c class)
class_for c class place l = elim (eqb_tells class 0) [
  | inl e ↦ rw e.0 (sym (no_class c class l e.1))
  | inr n ↦ rw n.0 (omega arith)
]

pub grown_classes : (c : ℕ) (w : Words) (a body index : ℕ) → 1 ≤ c → of_class c (grown_extents w a body index)
    ≡ times c (grown_class w a ∷ grown_index w a ∷ 0 ∷ [])
grown_classes c w a body index l =
    let e = class_both c (extent_for (grown_class w a) body) (extent_for (grown_index w a) index) in
    let x = class_for c (grown_class w a) body l in
    let y = class_for c (grown_index w a) index l in
    let z = no_class c 0 l refl in
    omega (arith, e, x, y, z)

pub made_classes : (c : ℕ) (r : Record) (head body index : ℕ) → 1 ≤ c → of_class c (made_extents r head body index)
    ≡ times c (2 ∷ body_class r ∷ index_class r ∷ [])
made_classes c r head body index l =
    let e = class_both c (extent_for 2 head) (extent_for (body_class r) body ++ extent_for (index_class r) index) in
    let d = class_both c (extent_for (body_class r) body) (extent_for (index_class r) index) in
    let x = class_for c 2 head l in
    let y = class_for c (body_class r) body l in
    let z = class_for c (index_class r) index l in
    omega (arith, e, d, x, y, z)

-- ---- peaks

abbrev pub spare_of : Paged → ℕ → ℕ
spare_of p c = length (p.table.shelf c).spare

abbrev pub total_of : Paged → ℕ → ℕ
total_of p c = (p.table.shelf c).total

abbrev pub used_in : Paged → ℕ → ℕ
used_in p = in_use (meaning_in (state_of p))

limit_is : (p : Paged) → (meaning_in (state_of p)).limit ≡ limit p.table
unfolding meaning_in state_of
limit_is p = refl

pub counted_use : (p : Paged) → Fine p → (c : ℕ) → 1 ≤ c → used_in p c + spare_of p c ≡ total_of p c
counted_use p f c l = in_use_counted (meaning_in (state_of p)) (counts_of p) f.counted c l

pub used_within : (p : Paged) → Fine p → (c : ℕ) → 1 ≤ c → used_in p c ≤ total_of p c
used_within p f c l = let e = counted_use p f c l in omega (arith, e)

-- no extent was taken
pub still_rises : (p q : Paged) → Fine q → total_of q ≡ total_of p →
    Rises (Some (total_of p)) (Some (total_of q)) (used_in q)
still_rises p q g h = λ c l. let e = ap (λ (f : ℕ → ℕ). f c) h in let w = used_within q g c l in omega (arith, e, w)

pub still_rises_to : (f g most : ℕ → ℕ) → g ≡ f → RisesTo (Some f) (Some g) most
still_rises_to f g most h = λ c l. let e = ap (λ (f : ℕ → ℕ). f c) h in (omega (arith, e), omega (arith, e))

-- extents were taken
pub taken_rises : (p q : Paged) → Fine p → Fine q → (wanted : List ℕ) → RisesBy wanted p.table q.table →
    ((c : ℕ) → 1 ≤ c → times c wanted + spare_of q c + total_of p c ≡ spare_of p c + total_of q c) →
    Rises (Some (total_of p)) (Some (total_of q)) (used_in q)
taken_rises p q f g wanted rises count = λ c l.
    let r = rises c l in
    let low = r.0 in
    let high = r.1 in
    let n = count c l in
    let x = counted_use p f c l in
    let y = counted_use q g c l in
    omega (arith, low, high, n, x, y)

-- and the words with them are within the limit
pub taken_fits : (p q : Paged) → Fine p → Fine q → (wanted : List ℕ) (o : Option Rec) (r : Rec) →
    RisesBy wanted p.table q.table →
    ((c : ℕ) → 1 ≤ c → times c wanted + spare_of q c + total_of p c ≡ spare_of p c + total_of q c) →
    ((c : ℕ) → 1 ≤ c → extents r c ≡ extents_of o c + times c wanted) →
    q.table.reserved ≡ 2 + words_in (total_of q) → q.table.reserved ≤ limit p.table →
    Fits (Some (total_of p)) (use_with (meaning_in (state_of p)) o r) (meaning_in (state_of p)).limit
taken_fits p q f g wanted o r rises count more filled within =
    let now : ℕ → ℕ = use_with (meaning_in (state_of p)) o r in
    let words : words_in (λ c. max (total_of p c) (now c)) ≤ words_in (total_of q) =
    words_le (λ c. max (total_of p c) (now c)) (total_of q) less in
    let e = limit_is p in
    omega (arith, words, filled, within, e)
  where
    less : (c : ℕ) → 1 ≤ c → max (total_of p c) (use_with (meaning_in (state_of p)) o r c) ≤ total_of q c
    less c l =
        let rise : total_of q c ≡ max (total_of p c) (used_in q c) = taken_rises p q f g wanted rises count c l in
        let n = count c l in
        let x = counted_use p f c l in
        let y = counted_use q g c l in
        let m = more c l in
        omega (arith, rise, n, x, y, m)

-- a record with as many extents takes no words
pub still_fits : (p : Paged) (o : Option Rec) (r : Rec) → IsStore p.table.reserved (meaning_in (state_of p)) →
    IsTelling p.table.reserved (meaning_in (state_of p)) (total_of p) →
    ((c : ℕ) → 1 ≤ c → extents r c ≡ extents_of o c + times c []) →
    Fits (Some (total_of p)) (use_with (meaning_in (state_of p)) o r) (meaning_in (state_of p)).limit
still_fits p o r store tells same =
    let now : ℕ → ℕ = use_with (meaning_in (state_of p)) o r in
    let words : words_in (λ c. max (total_of p c) (now c)) ≤ words_in (total_of p) =
    words_le (λ c. max (total_of p c) (now c)) (total_of p)
    (λ c l. let e = same c l in let w = tells.within c l in omega (arith, e, w)) in
    omega (arith, words, tells.words, store.room)

-- they can't be had, and what is ever new rises no further
pub refused_rises : (p : Paged) (u : Table) → Fine p → (wanted : List ℕ) (o : Option Rec) (r : Rec) →
    RisesBy wanted p.table u → ((c : ℕ) → 1 ≤ c → extents r c ≡ extents_of o c + times c wanted) →
    RisesTo (Some (total_of p)) (Some (λ c. (u.shelf c).total)) (use_with (meaning_in (state_of p)) o r)
refused_rises p u f wanted o r rises more = λ c l.
    let h = rises c l in
    let low = h.0 in
    let high = h.1 in
    let n = more c l in
    let x = counted_use p f c l in
    (low, omega (arith, low, high, n, x))

-- they can't be had, and with them the words would be above the limit
pub refused_over : (p : Paged) (u : Table) → Fine p → (wanted : List ℕ) (o : Option Rec) (r : Rec) (e : StoreFault) →
    u.reserved ≡ 2 + words_in (λ c. (u.shelf c).total) → RisesBy wanted p.table u → Denies wanted p.table u e →
    ((c : ℕ) → 1 ≤ c → extents r c ≡ extents_of o c + times c wanted) →
    IsOver (Some (total_of p)) (use_with (meaning_in (state_of p)) o r) e
refused_over p u f wanted o r OutOfMemory filled rises d more = tt
refused_over p u f wanted o r (Full reserved need limit) filled rises d more =
    let new : ℕ → ℕ = λ c. (u.shelf c).total in
    let now : ℕ → ℕ = use_with (meaning_in (state_of p)) o r in
    let most : ℕ → ℕ = λ c. max (total_of p c) (now c) in
    let short = d.short in
    let n = more d.class d.low in
    let x = counted_use p f d.class d.low in
    let less : new d.class < now d.class = omega (arith, short, n, x) in
    let rise = (rises d.class d.low).0 in
    let words : words_in new + 2 ^ d.class ≤ words_in most =
    words_more d.class new most d.low d.high (omega (arith, less))
    (λ c l. (refused_rises p u f wanted o r rises more c l).1) in
    record {
      class = d.class;
      low = d.low;
      high = d.high;
      words = d.need;
      more = omega (arith, rise, less);
      over = omega (arith, words, filled, d.over, d.reserved, d.need);
    }
