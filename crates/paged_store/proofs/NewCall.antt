-- A new store, on its fields.
use Rattle.std.proofs.Common.{◌≡◌, ℕ, zero, suc, ◌-◌, ◌*◌, ◌≤◌, Bool, true, false, cond, eqb, List, [], ◌∷◌, ◌++◌, length, get_or, take, replicate, slice_get, Option, Some, refl, sym, ◌∙◌, ap, subst, arith}
use Rattle.std.proofs.lemmas.List.{length-replicate}
use Rattle.seg_store.proofs.Slices.{push_table}
use Rattle.seg_store.specs.Meaning.{Meaning}
use Rattle.seg_store.specs.Store.{IsEmpty}
use Rattle.seg_marks.specs.Marks.{Marked, marks_of, holders_of, HasSizes}
use Rattle.seg_marks.specs.Runs.{nothing_marked, nobody}
use Rattle.page_table.specs.Pages.{Table, new_table}
use Rattle.page_table.specs.Lists.{Lists, table_of}
use Rattle.paged_store.specs.declared.draft.Draft.{Draft}
use Rattle.paged_store.specs.inner.Moves.{never, new_state}
use Rattle.paged_store.specs.Paged.{no_draft, drafted, drafted_in, Paged, state_of, paged_by}
use Rattle.paged_store.specs.inner.Fine.{counts_of, sum_to, Fits}
use Rattle.paged_store.specs.Stores.{new_meaning}
use Rattle.paged_store.proofs.NewState.{new_sound, new_kept, new_means}
use Rattle.paged_store.proofs.FineLemmas.{Leaves, leaves_by}
use Rattle.paged_store.proofs.CountLemmas.{counted_new}
use Rattle.paged_store.proofs.KeyedLemmas.{keyed_new}
use Rattle.paged_store.proofs.IndexedLemmas.{new_indexed}
use Rattle.paged_store.proofs.EndLemmas.{empty_fits}
use Rattle.paged_store.proofs.StoreCalls.{Stands}

-- one draft more, with nothing in it
pub draft_more : (ds : List Draft) (d : Draft) → ((k : ℕ) → drafted_in (slice_get ds k) ≡ no_draft) →
    drafted d ≡ no_draft → (k : ℕ) → drafted_in (slice_get (ds ++ d ∷ []) k) ≡ no_draft
draft_more ds d f e k = ap (λ (t : ℕ → Option Draft). drafted_in (t k)) (push_table ds d) ∙
    by_test (eqb k (length ds)) (slice_get ds k) (f k)
  where
    by_test : (t : Bool) (o : Option Draft) → drafted_in o ≡ no_draft → drafted_in (cond t (Some d) o) ≡ no_draft
    by_test true o q = e
    by_test false o q = q

-- no record is of the image
abbrev NonePresent : List Bool → Type 0
NonePresent ps = (a : ℕ) → get_or ps a false ≡ false

abbrev pub new_paged : ℕ → ℕ → List Bool → Paged
new_paged segments pages ps = record {
  table = new_table segments pages;
  present = ps;
  holder = nobody;
  looked = nothing_marked;
  drafts = λ k. no_draft;
}

no_sum : (n : ℕ) → sum_to n (λ k. 0) ≡ 0
no_sum zero = refl
no_sum (suc n) = let e = no_sum n in omega (arith, e)

new_fits : (segments pages : ℕ) (ps : List Bool) → Fits (new_paged segments pages ps)
new_fits segments pages ps = record {
  drafts = λ k. empty_fits (new_table segments pages) (length ps) k;
  holders = λ k a. refl;
  counted = λ c. let e = no_sum segments in omega (arith, e);
}

new_is : (segments pages : ℕ) (ps : List Bool) → NonePresent ps
    → state_of (new_paged segments pages ps) ≡ new_state (λ p. 0) 2 segments (512 * pages)
unfolding state_of
new_is segments pages ps none = λ i. record (new_state (λ p. 0) 2 segments (512 * pages)) { image = λ a. none a i }

new_leaves : (segments pages : ℕ) (ps : List Bool) → NonePresent ps → 1 ≤ segments → segments ≤ 8 → 1 ≤ pages →
    Leaves (new_paged segments pages ps) (new_meaning segments (512 * pages))
new_leaves segments pages ps none some few page =
    leaves_by (new_paged segments pages ps) (new_state (λ p. 0) 2 segments (512 * pages))
    (new_meaning segments (512 * pages)) (new_fits segments pages ps) (new_is segments pages ps none)
    ∣ (never, (never, new_sound (λ p. 0) 2 segments (512 * pages))) ∣₁
    (new_means (λ p. 0) 2 segments (512 * pages)) (new_kept 2 segments (512 * pages) some few (omega arith))
    (counted_new (new_meaning segments (512 * pages)) (counts_of (new_paged segments pages ps)) (λ a. refl)
    (λ j a. refl) (λ j a. refl) (λ c l. refl) (λ c l. refl) (λ j c l. refl) (λ j c l. refl))
    ∣ keyed_new (new_meaning segments (512 * pages)) (λ a. refl) (λ j a. refl) (λ j a. refl) ∣₁
    (new_indexed (λ p. 0) 2 segments (512 * pages))

-- flags that are false
none_flags : (n : ℕ) (ps : List Bool) → ps ≡ replicate n false → NonePresent ps
none_flags n ps e a = ap (λ xs. get_or xs a false) e ∙ all n a
  where
    all : (n a : ℕ) → get_or (replicate n false) a false ≡ false
    all zero a = refl
    all (suc n) zero = refl
    all (suc n) (suc a) = all n a

-- flags that were added to none
pub only_flags : (n m : ℕ) (ps xs : List Bool) → ps ≡ take n xs ++ replicate (n - m) false → xs ≡ [] → m ≡ 0 →
    ps ≡ replicate n false
only_flags n m ps xs e none is = e ∙ (λ i. take n (none i) ++ replicate (n - is i) false) ∙ all n
  where
    all : (n : ℕ) → (take n [] ++ replicate (n - 0) false) ≡ replicate n false
    all zero = refl
    all (suc n) = ap (λ i. replicate i false) (let e : suc n - 0 ≡ suc n = omega arith in e)

pub new_stands : (segments pages : ℕ) (t : Lists) (ps : List Bool) (m : Marked) (ds : List Draft) → 1 ≤ segments →
    segments ≤ 8 → 1 ≤ pages
    → table_of t ≡ new_table segments pages → ps ≡ replicate (256 * pages) false → marks_of m ≡ nothing_marked →
    holders_of m ≡ nobody → HasSizes segments (256 * pages) m → length ds ≡ segments →
    ((k : ℕ) → drafted_in (slice_get ds k) ≡ no_draft)
    → Stands t ps m ds (new_meaning segments (512 * pages))
new_stands segments pages t ps m ds some few page table present marks holders sizes count none =
    let is : paged_by t ps m ds ≡ new_paged segments pages ps = λ i.
    record { table = table i; present = ps; holder = holders i; looked = marks i; drafts = λ k. none k i } in
    let v = subst (λ p. Leaves p (new_meaning segments (512 * pages))) (sym is)
    (new_leaves segments pages ps (none_flags (256 * pages) ps present) some few page) in
    record {
      sound = record {
        count = count ∙ sym (ap (λ (x : Table). x.segments) table);
        rows = sizes.segments ∙ sym (ap (λ (x : Table). x.segments) table);
        addresses = sizes.granules ∙ sym (ap length present ∙ length-replicate (256 * pages) false);
        bound = (let e = ap (λ (x : Table). x.pages) table in let g = sizes.granules in omega (arith, e, g));
        fine = v.fine;
      };
      means = v.means;
    }

-- what means that is empty
pub new_empty : (segments limit : ℕ) (m : Meaning) (peaks : ℕ → ℕ) → m ≡ new_meaning segments limit →
    ((c : ℕ) → peaks c ≡ 0) → IsEmpty m (Some peaks)
new_empty segments limit m peaks e none = record {
  image = λ a. ap (λ (x : Meaning). x.image a) e;
  changed = λ j. ap (λ (x : Meaning). (x.part j).changed) e;
  made = λ j. ap (λ (x : Meaning). (x.part j).made) e;
  none = none;
}
