-- A store without records.
use Rattle.std.proofs.Common.{◌≡◌, ℕ, ◌≤◌, [], refl, arith}
use Rattle.py_data.specs.Heap.{no_records}
use Rattle.seg_store.specs.Meaning.{Meaning, no_part}
use Rattle.seg_store.specs.Store.{IsStore}
use Rattle.paged_store.specs.Words.{Words}
use Rattle.paged_store.specs.State.{meaning_in}
use Rattle.paged_store.specs.inner.Sound.{Sound}
use Rattle.paged_store.specs.inner.Moves.{nowhere, never, empty_hand, new_state}
use Rattle.paged_store.proofs.FreeLemmas.{same_step, empty_fits}

-- every place is nobody's
pub new_sound : (w : Words) (reserved segments limit : ℕ) → Sound never never (new_state w reserved segments limit)
new_sound w reserved segments limit = record {
  lays = λ a e. absurd (cc);
  formed = λ a e. absurd (cc);
  now = λ k. empty_fits never never w nowhere w (λ p. refl);
  before = λ k. empty_fits never never w nowhere w (λ p. refl);
  step = λ k. same_step (empty_hand w);
  held = λ k a. refl;
  held_before = λ k a. refl;
  apart = λ i j a e f. absurd (cc);
  nobody = refl;
  held_some = λ k. refl;
  spare = λ p e. refl;
  spare_once = λ p. omega arith;
  beyond = λ p e. (refl, refl);
}

-- a meaning without records
abbrev pub no_meaning : ℕ → ℕ → Meaning
no_meaning segments limit = record { image = no_records; part = λ k. no_part; segments = segments; limit = limit }

pub new_kept : (reserved segments limit : ℕ) → 1 ≤ segments → segments ≤ 8 → reserved ≤ limit
    → IsStore reserved (no_meaning segments limit)
new_kept reserved segments limit some few room = record {
  some = some;
  few = few;
  room = room;
  changes = λ j a. refl;
  kept = λ j a. refl;
  front = λ j. ([], refl);
  locked = λ j a e. absurd (cc);
  unused = λ j a e. absurd (cc);
  apart = λ i j a d e. refl;
  stored = record { each = λ a r e. absurd (cc) };
  stored_changes = λ j. record { each = λ a r e. absurd (cc) };
  stored_kept = λ j. record { each = λ a r e. absurd (cc) };
}

pub new_means : (w : Words) (reserved segments limit : ℕ) → meaning_in (new_state w reserved segments limit)
    ≡ no_meaning segments limit
unfolding meaning_in
new_means w reserved segments limit = refl
