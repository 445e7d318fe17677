-- What a segment saw as its open step began stands in the words of that time.
use Rattle.std.proofs.Common.{◌≡◌, ℕ, true, ◌||◌}
use Rattle.std.proofs.lemmas.Bool.{both_ways, false_from_ne_true}
use Rattle.seg_store.specs.Meaning.{saw}
use Rattle.paged_store.specs.Words.{Words}
use Rattle.paged_store.specs.inner.Formed.{Lays}
use Rattle.paged_store.specs.State.{State, heap_of, meaning_in}
use Rattle.paged_store.specs.inner.Sound.{Sound}
use Rattle.paged_store.proofs.SightLemmas.{seen_lays, seen_words}
use Rattle.paged_store.proofs.FreeLemmas.{same_step}

-- the state as all open steps began
abbrev back : State → State
back s = record s { now = s.before; made = s.kept_made }

module _ (own role : Words) (s : State) (g : Sound own role s) where
  back_sound : Sound own role (back s)
  back_sound = record {
    lays = g.lays;
    formed = g.formed;
    now = g.before;
    before = g.before;
    step = λ k. same_step (s.before k);
    held = g.held_before;
    held_before = g.held_before;
    apart = λ i j a x y. g.apart i j a ((g.step i).holds a x) ((g.step j).holds a y);
    nobody = g.nobody;
    held_some = λ k. false_from_ne_true ((s.before k).holds 0)
        (λ x. both_ways _ (g.held_some k) ((g.step k).holds 0 x));
    spare = g.spare;
    spare_once = g.spare_once;
    beyond = g.beyond;
  }

  pub saw_lays : (k a : ℕ) → (s.image a || (s.before k).holds a) ≡ true → Lays own role (s.before k).word a
  saw_lays k a e = seen_lays own role (back s) k back_sound a e

  pub saw_words : (k : ℕ) → saw (meaning_in s) k ≡ heap_of (λ a. s.image a || (s.before k).holds a) (s.before k).word
  unfolding meaning_in
  saw_words k = seen_words own role (back s) k back_sound
