-- A segment's looks are others, or its step begins, on a store's fields.
use Rattle.std.proofs.Common.{◌≡◌, ℕ, ◌+◌, ◌≤◌, Bool, cond, ◌||◌, eqb, length, take, refl, sym, ◌∙◌, ap, subst, arith}
use Rattle.std.proofs.Math.Logic.{∥∥₁_map}
use Rattle.std.proofs.lemmas.List.{take_all, drop_all}
use Rattle.py_data.specs.Heap.{Marks}
use Rattle.py_data.specs.Sight.{mem, no_marks, with_mark}
use Rattle.seg_store.specs.Calls.{after_begin, after_mark, after_open}
use Rattle.page_table.specs.Pages.{Table}
use Rattle.paged_store.specs.State.{State, meaning_in}
use Rattle.paged_store.specs.inner.Moves.{put, begins, marks, opens}
use Rattle.paged_store.specs.Paged.{Drafted, Paged, state_of, hand_now, hand_before, word_before, in_spans, in_extents, extents_at}
use Rattle.paged_store.specs.inner.Fine.{of_class, sum_to, counts_of, FitsTable, Fits, Fine}
use Rattle.paged_store.specs.inner.Drafts.{step_opened}
use Rattle.paged_store.proofs.OverLemmas.{over_each, put_over, put_self, put_still}
use Rattle.paged_store.proofs.StateLemmas.{put_each}
use Rattle.paged_store.proofs.LookMoves.{begins_sound, begins_means, marks_sound, marks_means}
use Rattle.paged_store.proofs.StepMoves.{opens_sound, opens_means}
use Rattle.paged_store.proofs.Keeping.{begin_kept, mark_kept, open_kept}
use Rattle.paged_store.proofs.FineLemmas.{known_of, Leaves, leaves_by}
use Rattle.paged_store.proofs.CountLemmas.{counted_as, counted_begin, counted_mark, counted_open}
use Rattle.paged_store.proofs.KeyedLemmas.{keyed_begin, keyed_mark, keyed_open}
use Rattle.paged_store.proofs.IndexedLemmas.{begins_indexed, marks_indexed, opens_indexed}
use Rattle.paged_store.proofs.CountCalls.{opened_now, opened_before}

-- ---- another draft for a segment

abbrev pub with_draft : ℕ → Drafted → Paged → Paged
with_draft k d p = record p { drafts = put k d p.drafts }

-- the state has other fields of that segment
pub state_put : (p : Paged) (k : ℕ) (d : Drafted) → state_of (with_draft k d p) ≡ record (state_of p) {
  now = put k (hand_now p.table k d) (state_of p).now;
  before = put k (hand_before p.table k d) (state_of p).before;
  changed = put k d.changed (state_of p).changed;
  made = put k d.made (state_of p).made;
  kept_made = put k (take d.made_before d.made) (state_of p).kept_made;
}
unfolding state_of
state_put p k d = λ i. record (state_of p) {
  now = put_over (hand_now p.table) k d p.drafts i;
  before = put_over (hand_before p.table) k d p.drafts i;
  changed = put_over (λ j x. x.changed) k d p.drafts i;
  made = put_over (λ j x. x.made) k d p.drafts i;
  kept_made = put_over (λ j x. take x.made_before x.made) k d p.drafts i;
}

-- the records of a draft
abbrev pub in_hand : ℕ → Drafted → ℕ → Bool
in_hand k d a = mem a d.changed || mem a d.made

-- the same records and extents in hand
pub fits_put : (p : Paged) (k : ℕ) (d : Drafted) → Fits p → FitsTable p.table (length p.present) k d →
    d.changed ≡ (p.drafts k).changed → d.made ≡ (p.drafts k).made → d.taken ≡ (p.drafts k).taken
    → Fits (with_draft k d p)
fits_put p k d f here changed made taken = record {
  drafts = put_each (λ j x. FitsTable p.table (length p.present) j x) k d p.drafts here (λ j n. f.drafts j);
  holders = λ j a. f.holders j a ∙ sym (λ i. held i j a);
  counted = λ c. subst (λ g. sum_to p.table.segments g + length (p.table.shelf c).spare ≤ (p.table.shelf c).total)
      (sym (put_still (λ j x. of_class c x.taken) k d p.drafts (ap (of_class c) taken))) (f.counted c);
}
  where
    held : over_each in_hand (put k d p.drafts) ≡ over_each in_hand p.drafts
    held = put_still in_hand k d p.drafts (λ i a. mem a (changed i) || mem a (made i))

opened_fits : (t : Table) (n k : ℕ) (d : Drafted) → FitsTable t n k d → FitsTable t n k (step_opened d)
opened_fits t n k d f = record {
  spans = f.spans;
  taken = f.taken;
  classes = f.classes;
  notes = λ p e. absurd (cc);
  noted_touched = λ p e. absurd (cc);
  holds = f.holds;
  spans_before = omega arith;
  taken_before = omega arith;
  made_before = omega arith;
  once = λ a e. ap (mem a) (drop_all (length d.made) d.made (omega arith));
}

-- ---- begins, marks and steps

-- the same but for looks
fits_looked : (p : Paged) (m : ℕ → Marks) → Fits p → Fits (record p { looked = m })
fits_looked p m f = record { drafts = f.drafts; holders = f.holders; counted = f.counted }

pub begin_leaves : (p : Paged) (k : ℕ) → Fine p →
    Leaves (record p { looked = put k no_marks p.looked }) (after_begin k (meaning_in (state_of p)))
unfolding state_of
begin_leaves p k f =
    let s : State = state_of p in
    let w = known_of p f in
    leaves_by (record p { looked = put k no_marks p.looked }) (begins k s) (after_begin k (meaning_in s))
    (fits_looked p (put k no_marks p.looked) f.fits) refl
    (∥∥₁_map f.sound (λ x. (x.0, (x.1.0, begins_sound x.0 x.1.0 s k x.1.1)))) (begins_means s k)
    (begin_kept p.table.reserved p.table.reserved k (meaning_in s) w w.room)
    (counted_begin (meaning_in s) (counts_of p) k f.counted)
    (∥∥₁_map f.keyed (λ q. keyed_begin (meaning_in s) k q))
    (begins_indexed s k f.indexed)

pub mark_leaves : (p : Paged) (k a : ℕ) → Fine p →
    Leaves (record p { looked = put k (with_mark a (p.looked k)) p.looked }) (after_mark k a (meaning_in (state_of p)))
unfolding state_of
mark_leaves p k a f =
    let s : State = state_of p in
    let w = known_of p f in
    leaves_by (record p { looked = put k (with_mark a (p.looked k)) p.looked }) (marks k a s)
    (after_mark k a (meaning_in s))
    (fits_looked p (put k (with_mark a (p.looked k)) p.looked) f.fits) refl
    (∥∥₁_map f.sound (λ x. (x.0, (x.1.0, marks_sound x.0 x.1.0 s k a x.1.1)))) (marks_means s k a)
    (mark_kept p.table.reserved p.table.reserved k (meaning_in s) w w.room a)
    (counted_mark (meaning_in s) (counts_of p) k a f.counted)
    (∥∥₁_map f.keyed (λ q. keyed_mark (meaning_in s) k a q))
    (marks_indexed s k a f.indexed)

-- the hand that a step begins with
opened_hand : (t : Table) (k : ℕ) (d : Drafted) → hand_before t k (step_opened d) ≡ hand_now t k d
opened_hand t k d = λ i. record (hand_now t k d) {
  word = λ p. word p i;
  holds = λ a. mem a d.changed || mem a (take_all (length d.made) d.made (omega arith) i);
  touched = λ p. in_spans (take_all (length d.spans) d.spans (omega arith) i) p || in_extents
      (take_all (length d.taken) d.taken (omega arith) i) p;
  taken = λ p. extents_at (take_all (length d.taken) d.taken (omega arith) i) p;
}
  where
    word : (p : ℕ) → word_before t k (step_opened d) p ≡ t.word k p
    word p = ap (λ xs. cond (in_extents xs p) (t.shared p) (t.word k p))
        (drop_all (length d.taken) d.taken (omega arith))

pub open_leaves : (p : Paged) (k : ℕ) (ds : ℕ → Drafted) → Fine p → ds ≡ put k (step_opened (p.drafts k)) p.drafts →
    Leaves (record p { drafts = ds }) (after_open k (meaning_in (state_of p)))
unfolding state_of
open_leaves p k ds f e =
    let s : State = state_of p in
    let w = known_of p f in
    let d : Drafted = step_opened (p.drafts k) in
    let is : state_of (with_draft k d p) ≡ opens k s = state_put p k d ∙ (λ i. record s {
      now = put_self k (s.now k) s.now refl i;
      before = put k (opened_hand p.table k (p.drafts k) i) s.before;
      changed = put_self k (s.changed k) s.changed refl i;
      made = put_self k (s.made k) s.made refl i;
      kept_made = put k (take_all (length d.made) d.made (omega arith) i) s.kept_made;
    }) in
    subst (λ x. Leaves (record p { drafts = x }) (after_open k (meaning_in s))) (sym e)
    (leaves_by (with_draft k d p) (opens k s) (after_open k (meaning_in s))
    (fits_put p k d f.fits (opened_fits p.table (length p.present) k (p.drafts k) (f.fits.drafts k)) refl refl refl)
    is (∥∥₁_map f.sound (λ x. (x.0, (x.1.0, opens_sound x.0 x.1.0 s k x.1.1)))) (opens_means s k)
    (open_kept p.table.reserved p.table.reserved k (meaning_in s) w w.room)
    (counted_as (after_open k (meaning_in s)) (record (counts_of p) {
      before = λ j. cond (eqb j k) ((counts_of p).now k)
          ((counts_of p).before j);
    }) (counts_of (with_draft k d p)) (counted_open (meaning_in s) (counts_of p) k f.counted)
    (λ c l. refl) (λ c l. refl) (λ j c l. opened_now p k j c) (λ j c l. opened_before p k j c))
    (∥∥₁_map f.keyed (λ q. keyed_open (meaning_in s) k q))
    (opens_indexed s k f.indexed))

-- the drafts as they were
pub same_leaves : (p : Paged) (k : ℕ) (ds : ℕ → Drafted) → Fine p → ds ≡ put k (p.drafts k) p.drafts →
    Leaves (record p { drafts = ds }) (meaning_in (state_of p))
same_leaves p k ds f e = subst (λ x. Leaves (record p { drafts = x }) (meaning_in (state_of p)))
    (sym (e ∙ put_self k (p.drafts k) p.drafts refl)) (record { fine = f; means = refl })
