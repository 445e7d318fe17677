-- Extents in use, at most, and the words that were taken.
use Rattle.std.proofs.Common.{◌≡◌, ℕ, ◌+◌, ◌-◌, ◌*◌, ◌^◌, ◌≤◌, max, List, [], ◌∷◌, ◌++◌, length, Ok, Err, refl, sym, ap, ◌∙◌, subst, inl, inr, arith, length-append}
use Rattle.std.proofs.lemmas.Bool.Decides.{eqb_tells}
use Rattle.seg_store.specs.declared.store.StoreFault.TheVariants.{Full, OutOfMemory}
use Rattle.seg_store.specs.Extents.{words_in}
use Rattle.page_table.specs.Pages.{put, Shelf, Table, IsTable}
use Rattle.page_table.specs.Reserving.{Reserves, after_give_back}
use Rattle.page_table.specs.Counting.{in_use, IsCall, Takes, Gives, Leaves, IsRun, Begins, Goes, most_in_use}
use Rattle.page_table.proofs.Spans.{put_here, put_elsewhere, same_at_all}
use Rattle.page_table.proofs.Keeping.{filled_more}

-- no more were given back than were ever new
abbrev pub HasBack : Table → ℕ → Type 0
HasBack t c = length (t.shelf c).spare ≤ (t.shelf c).total

-- the number of a class before and after
pub record Peaks (t u : Table) (c : ℕ) : Type 0 where
  pub peak : (u.shelf c).total ≡ max (t.shelf c).total (in_use u c)
  pub back : length (u.shelf c).spare ≤ (u.shelf c).total

peaks_same : (t u : Table) (c : ℕ) → length (t.shelf c).spare ≤ (t.shelf c).total → u.shelf c ≡ t.shelf c → Peaks t u c
peaks_same t u c l e =
    let total : (u.shelf c).total ≡ (t.shelf c).total = ap (λ (s : Shelf). s.total) e in
    let spare : length (u.shelf c).spare ≡ length (t.shelf c).spare = ap (λ (s : Shelf). length s.spare) e in
    record { peak = omega arith; back = omega arith }

pub one_more : (xs ys : List ℕ) (p : ℕ) → ys ≡ xs ++ p ∷ [] → length ys ≡ length xs + 1
one_more xs ys p e = ap (λ (z : List ℕ). length z) e ∙ length-append xs (p ∷ [])

-- class c has another shelf
peaks_put : (t u : Table) (c d : ℕ) (s : Shelf) → u.shelf ≡ put c s t.shelf → HasBack t d
    → (s.total ≡ max (t.shelf c).total (s.total - length s.spare)) × (length s.spare ≤ s.total) → Peaks t u d
peaks_put t u c d s e back new = elim (eqb_tells d c) [
  | inl h ↦
      let here : u.shelf d ≡ s = ap (λ (f : ℕ → Shelf). f d) e ∙ put_here c d s t.shelf h.1 in
      let old : (t.shelf d).total ≡ (t.shelf c).total = ap (λ i. (t.shelf i).total) h.1 in
      let total : (u.shelf d).total ≡ s.total = ap (λ (z : Shelf). z.total) here in
      let spare : length (u.shelf d).spare ≡ length s.spare = ap (λ (z : Shelf). length z.spare) here in
      let a = new.0 in
      let b = new.1 in
      record { peak = omega arith; back = omega arith }
  | inr h ↦ peaks_same t u d back (ap (λ (f : ℕ → Shelf). f d) e ∙ put_elsewhere c d s t.shelf h.1)
]

-- each call makes the peak the greater of the old peak and the number in use
pub call_peaks : (t u : Table) (d : ℕ) → ((c : ℕ) → HasBack t c) → IsCall t u → Peaks t u d
call_peaks t u d back (Takes c (Ok p) low high r) = elim r [
  | inl a ↦
      let len = one_more (u.shelf c).spare (t.shelf c).spare p a.spare in
      let b : length (t.shelf c).spare ≤ (t.shelf c).total = back c in
      peaks_put t u c d _ (ap (λ (z : Table). z.shelf) a.table) (back d) (omega (arith, len, b), omega (arith, len, b))
  | inr a ↦
      peaks_put t u c d _ (ap (λ (z : Table). z.shelf) a.table) (back d) (omega arith, omega arith)
]
call_peaks t u d back (Takes c (Err (Full a b m)) low high r) =
    peaks_same t u d (back d) (ap (λ (z : Table). z.shelf d) r.0)
call_peaks t u d back (Takes c (Err OutOfMemory) low high r) =
    peaks_same t u d (back d) (ap (λ (z : Table). z.shelf d) r.0)
call_peaks t u d back (Gives c p out e) =
    let len = one_more (t.shelf c).spare ((t.shelf c).spare ++ p ∷ []) p refl in
    peaks_put t u c d _ (ap (λ (z : Table). z.shelf) e) (back d) (omega (arith, len, out), omega (arith, len, out))
call_peaks t u d back (Leaves e f) = peaks_same t u d (back d) (ap (λ (z : ℕ → Shelf). z d) e)

pub peak_law : (t u : Table) (c : ℕ) → IsTable t → IsCall t u → (u.shelf c).total ≡ max (t.shelf c).total (in_use u c)
peak_law t u c h call = (call_peaks t u c h.back call).peak

pub spare_law : (t : Table) (c : ℕ) → (t.shelf c).spare ≡ [] → in_use t c ≡ (t.shelf c).total
spare_law t c e = let z : length (t.shelf c).spare ≡ 0 = ap (λ (l : List ℕ). length l) e in omega arith

-- ---- what is in use after a call

use_put : (t u : Table) (c n : ℕ) (s : Shelf) → u.shelf ≡ put c s t.shelf → s.total - length s.spare ≡ n
    → in_use u ≡ put c n (in_use t)
use_put t u c n s e f = same_at_all _ _ (λ d. elim (eqb_tells d c) [
  | inl h ↦ ap (λ (z : Shelf). z.total - length z.spare) (ap (λ (z : ℕ → Shelf). z d) e ∙ put_here c d s t.shelf h.1)
      ∙ f ∙ sym (put_here c d n (in_use t) h.1)
  | inr h ↦ ap (λ (z : Shelf). z.total - length z.spare)
      (ap (λ (z : ℕ → Shelf). z d) e ∙ put_elsewhere c d s t.shelf h.1) ∙ sym (put_elsewhere c d n (in_use t) h.1)
])

pub take_law : (c p : ℕ) (t u : Table) → IsTable t → Reserves c t u (Ok p)
    → in_use u ≡ put c (in_use t c + 1) (in_use t)
take_law c p t u h r = elim r [
  | inl a ↦
      let len = one_more (u.shelf c).spare (t.shelf c).spare p a.spare in
      let b = h.back c in
      use_put t u c (in_use t c + 1) _ (ap (λ (z : Table). z.shelf) a.table) (omega (arith, len, b))
  | inr a ↦
      let none : length (t.shelf c).spare ≡ 0 = ap (λ (l : List ℕ). length l) a.none_spare in
      use_put t u c (in_use t c + 1) _ (ap (λ (z : Table). z.shelf) a.table) (omega (arith, none))
]

pub give_law : (c p : ℕ) (t : Table) → in_use (after_give_back c p t) ≡ put c (in_use t c - 1) (in_use t)
give_law c p t =
    let len = one_more (t.shelf c).spare ((t.shelf c).spare ++ p ∷ []) p refl in
    use_put t (after_give_back c p t) c (in_use t c - 1) _ refl (omega (arith, len))

-- ---- over a run

-- the words that were taken are those of the extents that were ever new
abbrev IsFilled : Table → Type 0
IsFilled t = t.reserved ≡ 2 + words_in (λ c. (t.shelf c).total)

filled_same : (t u : Table) → IsFilled t → u.reserved ≡ t.reserved → ((c : ℕ) → (u.shelf c).total ≡ (t.shelf c).total)
    → IsFilled u
filled_same t u h e f = e ∙ h ∙ ap (λ g. 2 + words_in g) (same_at_all _ _ (λ c. sym (f c)))

put_total : (c : ℕ) (s : Shelf) (t : Table) → s.total ≡ (t.shelf c).total → (d : ℕ)
    → (put c s t.shelf d).total ≡ (t.shelf d).total
put_total c s t e d = elim (eqb_tells d c) [
  | inl h ↦ ap (λ (z : Shelf). z.total) (put_here c d s t.shelf h.1) ∙ e ∙ ap (λ i. (t.shelf i).total) (sym h.1)
  | inr h ↦ ap (λ (z : Shelf). z.total) (put_elsewhere c d s t.shelf h.1)
]

call_filled : (t u : Table) → IsFilled t → IsCall t u → IsFilled u
call_filled t u h (Takes c (Ok p) low high r) = elim r [
  | inl a ↦ filled_same t u h (ap (λ (z : Table). z.reserved) a.table)
      (λ d. ap (λ (z : Table). (z.shelf d).total) a.table ∙ put_total c _ t refl d)
  | inr a ↦
      let e : u.reserved ≡ t.reserved + 2 ^ c = ap (λ (z : Table). z.reserved) a.table in
      let f : words_in (λ d. (u.shelf d).total) ≡ words_in (λ d. (t.shelf d).total) + 2 ^ c * 1 =
      ap (λ (z : Table). words_in (λ d. (z.shelf d).total)) a.table ∙ filled_more c 1 _ t low high refl in
      omega (arith, e, f, h)
]
call_filled t u h (Takes c (Err (Full a b m)) low high r) = subst IsFilled (sym r.0) h
call_filled t u h (Takes c (Err OutOfMemory) low high r) = subst IsFilled (sym r.0) h
call_filled t u h (Gives c p out e) =
    filled_same t u h (ap (λ (z : Table). z.reserved) e)
    (λ d. ap (λ (z : Table). (z.shelf d).total) e ∙ put_total c _ t refl d)
call_filled t u h (Leaves e f) = filled_same t u h f (λ d. ap (λ (z : ℕ → Shelf). (z d).total) e)

record Told (before : List Table) (t : Table) : Type 0 where
  pub peak : (c : ℕ) → (t.shelf c).total ≡ most_in_use c (t ∷ before)
  pub back : (c : ℕ) → length (t.shelf c).spare ≤ (t.shelf c).total
  pub filled : t.reserved ≡ 2 + words_in (λ c. (t.shelf c).total)

told : (segments pages : ℕ) (before : List Table) (t : Table) → IsRun segments pages before t → Told before t
unfolding words_in
told segments pages before t Begins = record { peak = λ c. refl; back = λ c. omega arith; filled = nothing }
  where
    nothing : 2 ≡ 2 + words_in (λ c. 0)
    nothing = refl
told segments pages before u (Goes earlier t u1 run call) =
    let h = told segments pages earlier t run in
    record {
      peak = λ c. (call_peaks t u c h.back call).peak ∙ ap (λ x. max x (in_use u c)) (h.peak c);
      back = λ c. (call_peaks t u c h.back call).back;
      filled = call_filled t u h.filled call;
    }

pub counting_law : (segments pages : ℕ) (before : List Table) (t : Table) → IsRun segments pages before t
    → t.reserved ≡ 2 + words_in (λ c. most_in_use c (t ∷ before))
counting_law segments pages before t run =
    let h = told segments pages before t run in
    h.filled ∙ ap (λ g. 2 + words_in g) (same_at_all _ _ h.peak)
