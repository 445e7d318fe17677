-- What a store counts of extents, where a segment has another draft.
use Rattle.std.proofs.Common.{◌≡◌, ℕ, ◌+◌, ◌*◌, ◌/◌, ◌<◌, ◌≤◌, Bool, true, false, cond, eqb, length, refl, sym, ap, ◌∙◌, subst, arith}
use Rattle.std.proofs.lemmas.Bool.{or_right}
use Rattle.std.proofs.lemmas.List.{take_all}
use Rattle.std.proofs.Math.Logic.{∥∥₁_elim}
use Rattle.std.proofs.Props.{props}
use Rattle.seg_store.specs.Meaning.{Meaning, sees, saw}
use Rattle.seg_store.specs.Sums.{sum_below, asked}
use Rattle.page_table.specs.Pages.{Table}
use Rattle.paged_store.specs.Words.{Words, in_head, in_body, in_index}
use Rattle.paged_store.specs.State.{meaning_in}
use Rattle.paged_store.specs.inner.Sound.{Sound}
use Rattle.paged_store.specs.inner.Moves.{put}
use Rattle.paged_store.specs.inner.Counted.{Counts, Gains, IsCounted}
use Rattle.paged_store.specs.Paged.{Drafted, Paged, state_of, taken_then}
use Rattle.paged_store.specs.inner.Fine.{of_class, held_by, counted_by, counts_of, Fine}
use Rattle.paged_store.specs.inner.Drafts.{step_opened}
use Rattle.paged_store.proofs.OverLemmas.{put_over, put_still}
use Rattle.paged_store.proofs.SpanLemmas.{head_at, in_first}
use Rattle.paged_store.proofs.SightLemmas.{seen_reserved}
use Rattle.paged_store.proofs.FineLemmas.{known_of}

-- the extents of a class that segments took, where segment k has another draft
pub now_put : (k : ℕ) (d : Drafted) (ds : ℕ → Drafted) (j c : ℕ) → of_class c (put k d ds j).taken
    ≡ cond (eqb j k) (of_class c d.taken) (of_class c (ds j).taken)
now_put k d ds j c = ap (λ (g : ℕ → ℕ). g j) (put_over (λ j x. of_class c x.taken) k d ds)

pub then_put : (k : ℕ) (d : Drafted) (ds : ℕ → Drafted) (j c : ℕ) → of_class c (taken_then (put k d ds j))
    ≡ cond (eqb j k) (of_class c (taken_then d)) (of_class c (taken_then (ds j)))
then_put k d ds j c = ap (λ (g : ℕ → ℕ). g j) (put_over (λ j x. of_class c (taken_then x)) k d ds)

-- a draft that has taken the same extents
pub counts_still : (t : Table) (k : ℕ) (d : Drafted) (ds : ℕ → Drafted) → d.taken ≡ (ds k).taken →
    taken_then d ≡ taken_then (ds k) → counted_by t (put k d ds) ≡ counted_by t ds
counts_still t k d ds now before = λ i. record (counted_by t ds) {
  now = λ j c. put_still (λ j x. of_class c x.taken) k d ds (ap (of_class c) now) i j;
  before = λ j c. put_still (λ j x. of_class c (taken_then x)) k d ds (ap (of_class c) before) i j;
}

-- all that it took, it had taken when its step began
pub opened_before : (p : Paged) (k j c : ℕ) → of_class c (taken_then (put k (step_opened (p.drafts k)) p.drafts j))
    ≡ cond (eqb j k) ((counts_of p).now k) ((counts_of p).before j) c
opened_before p k j c = then_put k (step_opened (p.drafts k)) p.drafts j c
    ∙ ap (λ xs. cond (eqb j k) (of_class c xs) (of_class c (taken_then (p.drafts j))))
    (take_all (length (p.drafts k).taken) (p.drafts k).taken (omega arith))
    ∙ by_test (eqb j k)
  where
    by_test : (b : Bool) → cond b (of_class c (p.drafts k).taken) (of_class c (taken_then (p.drafts j)))
        ≡ cond b ((counts_of p).now k) ((counts_of p).before j) c
    by_test true = refl
    by_test false = refl

pub opened_now : (p : Paged) (k j c : ℕ) → of_class c (put k (step_opened (p.drafts k)) p.drafts j).taken
    ≡ of_class c (p.drafts j).taken
opened_now p k j c = ap (λ (g : ℕ → ℕ). g j)
    (put_still (λ j x. of_class c x.taken) k (step_opened (p.drafts k)) p.drafts
    refl)

-- a record that a segment holds stands below half of the limit
pub held_below : (p : Paged) (k a : ℕ) → Fine p → held_by (p.drafts k) a ≡ true →
    a < (meaning_in (state_of p)).limit / 2
unfolding meaning_in state_of
held_below p k a f held = ∥∥₁_elim f.sound (hlevel props) (λ x. by_sound x.0 x.1.0 x.1.1)
  where
    by_sound : (own role : Words) → Sound own role (state_of p) → a < (meaning_in (state_of p)).limit / 2
    by_sound own role g =
        let w : Words = p.table.word k in
        let l : 2 * a + 3 < p.table.reserved = seen_reserved own role (state_of p) k g a (2 * a + 3)
        (or_right _ _ held)
        (in_first (in_head a (2 * a + 3)) (in_body w a (2 * a + 3)) (in_index w a (2 * a + 3))
        (head_at a 3 (omega arith))) in
        let r = (known_of p f).room in omega (arith, l, r)

-- no segment took an extent, and where more are new they are spare
pub counted_rest : (m : Meaning) (n u : Counts) → IsCounted m n → u.now ≡ n.now → u.before ≡ n.before →
    ((c : ℕ) → 1 ≤ c → u.spare c + n.total c ≡ n.spare c + u.total c) → IsCounted m u
counted_rest m n u w now before rest = record {
  all = all;
  now = λ k. subst (λ g. Gains (m.limit / 2) m.image (sees m k) (g k)) (sym now) (w.now k);
  before = λ k. subst (λ g. Gains (m.limit / 2) m.image (saw m k) (g k)) (sym before) (w.before k);
}
  where
    all : (c : ℕ) → 1 ≤ c
        → asked (m.limit / 2) m.image c + sum_below m.segments (λ k. u.now k c) + u.spare c ≡ u.total c
    all c l =
        let e : sum_below m.segments (λ k. u.now k c) ≡ sum_below m.segments (λ k. n.now k c) =
        ap (λ (g : ℕ → ℕ → ℕ). sum_below m.segments (λ k. g k c)) now in
        let a = w.all c l in
        let r = rest c l in
        omega (arith, e, a, r)
