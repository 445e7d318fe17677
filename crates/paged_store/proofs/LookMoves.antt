-- A segment's looks are others: no record changes.
use Rattle.std.proofs.Common.{◌≡◌, ℕ, refl}
use Rattle.py_data.specs.Heap.{Marks}
use Rattle.py_data.specs.Sight.{no_marks, with_mark}
use Rattle.seg_store.specs.Meaning.{with_part}
use Rattle.seg_store.specs.Calls.{after_begin, after_mark}
use Rattle.paged_store.specs.Words.{Words}
use Rattle.paged_store.specs.State.{State, part_in, meaning_in}
use Rattle.paged_store.specs.inner.Sound.{Sound}
use Rattle.paged_store.specs.inner.Moves.{looks, begins, marks}
use Rattle.paged_store.proofs.MeaningLemmas.{put_here, put_there, part_by, meaning_set}

pub looks_sound : (own role : Words) (s : State) (k : ℕ) (m : Marks) → Sound own role s → Sound own role (looks k m s)
looks_sound own role s k m g = record {
  lays = g.lays;
  formed = g.formed;
  now = g.now;
  before = g.before;
  step = g.step;
  held = g.held;
  held_before = g.held_before;
  apart = g.apart;
  nobody = g.nobody;
  held_some = g.held_some;
  spare = g.spare;
  spare_once = g.spare_once;
  beyond = g.beyond;
}

pub begins_sound : (own role : Words) (s : State) (k : ℕ) → Sound own role s → Sound own role (begins k s)
begins_sound own role s k g = looks_sound own role s k no_marks g

pub marks_sound : (own role : Words) (s : State) (k a : ℕ) → Sound own role s → Sound own role (marks k a s)
marks_sound own role s k a g = looks_sound own role s k (with_mark a (s.looked k)) g

looks_mean : (s : State) (k : ℕ) (m : Marks) → meaning_in (looks k m s)
    ≡ with_part k (record (part_in s k) { looked = m }) (meaning_in s)
looks_mean s k m = meaning_set k (record (part_in s k) { looked = m }) s (looks k m s) refl refl
    (λ i. part_by (s.now k) (s.before k) (s.changed k) (s.made k) (put_here k m s.looked i) (s.kept_made k))
    (λ j n i. part_by (s.now j) (s.before j) (s.changed j) (s.made j) (put_there k j m s.looked n i) (s.kept_made j))
    refl refl

pub begins_means : (s : State) (k : ℕ) → meaning_in (begins k s) ≡ after_begin k (meaning_in s)
unfolding meaning_in
begins_means s k = looks_mean s k no_marks

pub marks_means : (s : State) (k a : ℕ) → meaning_in (marks k a s) ≡ after_mark k a (meaning_in s)
unfolding meaning_in
marks_means s k a = looks_mean s k (with_mark a (s.looked k))
