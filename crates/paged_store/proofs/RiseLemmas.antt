-- What is ever new of a class rises at most to what would be in use with the extents that are wanted.
use Rattle.std.proofs.Common.{◌≡◌, ℕ, ◌+◌, ◌-◌, ◌≤◌, max, List, [], ◌∷◌, ◌++◌, length, Result, Ok, Err, inl, inr, refl, ◌∙◌, ap, arith}
use Rattle.std.proofs.lemmas.Bool.Decides.{eqb_tells}
use Rattle.seg_store.specs.declared.store.StoreFault.{StoreFault}
use Rattle.seg_store.specs.declared.store.StoreFault.TheVariants.{Full, OutOfMemory}
use Rattle.page_table.specs.Pages.{Table, IsTable, Shelf}
use Rattle.page_table.specs.Reserving.{Reserves}
use Rattle.page_table.specs.Counting.{in_use, Takes}
use Rattle.page_table.proofs.Spans.{put_here, put_elsewhere}
use Rattle.page_table.proofs.CountingLemmas.{peak_law, take_law}
use Rattle.paged_store.specs.declared.extent.Extent.{Extent}
use Rattle.paged_store.specs.Paged.{one_if}
use Rattle.paged_store.specs.inner.Fine.{of_class}
use Rattle.paged_store.specs.inner.Ending.{GivenBack}
use Rattle.paged_store.specs.inner.Claiming.{Claims, times, RisesBy}
use Rattle.paged_store.proofs.ClaimLemmas.{times_both}

-- as many of each class were ever new before
pub rises_same : (wanted : List ℕ) (t u : Table) → ((c : ℕ) → (u.shelf c).total ≡ (t.shelf c).total) →
    RisesBy wanted t u
rises_same wanted t u same = λ c l. let e = same c in (omega (arith, e), omega (arith, e))

pub rises_none : (wanted : List ℕ) (t : Table) → RisesBy wanted t t
rises_none wanted t = rises_same wanted t t (λ c. refl)

-- it stays where it rose to
pub rises_still : (wanted : List ℕ) (t u v : Table) → RisesBy wanted t u →
    ((c : ℕ) → (v.shelf c).total ≡ (u.shelf c).total) → RisesBy wanted t v
rises_still wanted t u v rise same = λ c l. let e = same c in let a = (rise c l).0 in let b = (rise c l).1 in
    (omega (arith, e, a), omega (arith, e, b))

-- the shelves stay after it
pub rises_kept : (wanted : List ℕ) (t u v : Table) → RisesBy wanted t u → v.shelf ≡ u.shelf → RisesBy wanted t v
rises_kept wanted t u v rise e = rises_still wanted t u v rise (λ c. ap (λ (f : ℕ → Shelf). (f c).total) e)

-- the shelves stayed before it, and the classes have other names
pub rises_from : (wanted named : List ℕ) (t t1 u : Table) → wanted ≡ named → t1.shelf ≡ t.shelf →
    RisesBy wanted t1 u → RisesBy named t u
rises_from wanted named t t1 u w e rise = λ c l.
    let total : (t1.shelf c).total ≡ (t.shelf c).total = ap (λ (f : ℕ → Shelf). (f c).total) e in
    let used : in_use t1 c ≡ in_use t c = ap (λ (f : ℕ → Shelf). (f c).total - length (f c).spare) e in
    let a = (rise c l).0 in let b = (rise c l).1 in let n = ap (times c) w in
    (omega (arith, total, a), omega (arith, total, used, b, n))

-- more is wanted
pub rises_more : (wanted others : List ℕ) (t u : Table) → RisesBy wanted t u → RisesBy (wanted ++ others) t u
rises_more wanted others t u rise = λ c l. let a = (rise c l).0 in let b = (rise c l).1 in let e =
    times_both c wanted others in
    (a, omega (arith, b, e))

-- others are wanted once some were taken
pub rises_then : (wanted others : List ℕ) (xs : List Extent) (t u v : Table) → RisesBy wanted t u → Claims xs t u →
    ((k : ℕ) → 1 ≤ k → of_class k xs ≡ times k wanted) → RisesBy others u v → RisesBy (wanted ++ others) t v
rises_then wanted others xs t u v first claims same second = λ c l.
    let a = (first c l).0 in let b = (first c l).1 in let m = (second c l).0 in let n = (second c l).1 in
    let e = times_both c wanted others in let k = claims.count c in let s = same c l in
    (omega (arith, a, m), omega (arith, b, n, e, k, s))

-- and if the others were refused, those that were taken are given back
pub rises_back : (wanted others : List ℕ) (xs : List Extent) (t u v w : Table) → RisesBy wanted t u → Claims xs t u →
    ((k : ℕ) → 1 ≤ k → of_class k xs ≡ times k wanted) → RisesBy others u v → GivenBack xs v w →
    RisesBy (wanted ++ others) t w
rises_back wanted others xs t u v w first claims same second back =
    rises_still (wanted ++ others) t v w (rises_then wanted others xs t u v first claims same second) back.total

-- one extent is wanted
pub rises_one : (class : ℕ) (t u : Table) (r : Result ℕ StoreFault) → IsTable t → 1 ≤ class → class ≤ 21 →
    Reserves class t u r → RisesBy (class ∷ []) t u
rises_one class t u (Err (Full a b m)) table low high h =
    rises_same (class ∷ []) t u (λ c. ap (λ (z : Table). (z.shelf c).total) h.0)
rises_one class t u (Err OutOfMemory) table low high h =
    rises_same (class ∷ []) t u (λ c. ap (λ (z : Table). (z.shelf c).total) h.0)
rises_one class t u (Ok p) table low high h = λ c l.
    let peak : (u.shelf c).total ≡ max (t.shelf c).total (in_use u c) =
    peak_law t u c table (Takes class (Ok p) low high h) in
    let used = ap (λ (f : ℕ → ℕ). f c) (take_law class p t u table h) in (
      omega (arith, peak),
      elim (eqb_tells c class) [
        | inl y ↦ (let one = ap one_if y.0 in
            let here = used ∙ put_here class c (in_use t class + 1) (in_use t) y.1 in
            let same : in_use t c ≡ in_use t class = ap (in_use t) y.1 in omega (arith, peak, one, here, same))
        | inr n ↦ (let none = ap one_if n.0 in
            let there = used ∙ put_elsewhere class c (in_use t class + 1) (in_use t) n.1 in
            omega (arith, peak, none, there))
      ],
    )
