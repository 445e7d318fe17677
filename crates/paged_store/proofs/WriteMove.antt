-- A segment writes a record that it holds.
use Rattle.std.proofs.Common.{◌≡◌, ℕ, Bool, true, false, ◌||◌, Some, None, refl, sym, ◌∙◌, ap, unwrap_or}
use Rattle.std.proofs.lemmas.Bool.{cond-true}
use Rattle.py_data.specs.Heap.{Rec, at, blank}
use Rattle.py_data.specs.Sight.{mem}
use Rattle.seg_store.specs.Meaning.{over, sees}
use Rattle.seg_store.specs.Calls.{changed, after_change}
use Rattle.paged_store.specs.Words.{Words, decode}
use Rattle.paged_store.specs.State.{State, heap_of, part_in, meaning_in}
use Rattle.paged_store.specs.inner.Sound.{FitsHand, FitsBefore, Sound}
use Rattle.paged_store.specs.inner.Moves.{written, owned, parted, Rewrites, writes}
use Rattle.paged_store.proofs.StateLemmas.{put_each, put_apart}
use Rattle.paged_store.proofs.MeaningLemmas.{put_here, put_there, heap_put, part_by, meaning_set}
use Rattle.paged_store.proofs.RewriteLemmas.{image_rewritten, now_rewritten, before_rewritten, spare_rewritten, beyond_rewritten, hand_rewritten, step_rewritten, decode_other}

module _ (own role : Words) (s : State) (k a : ℕ) (w : Words) (t : ℕ → Bool) (e part : ℕ → ℕ) (g : Sound own role s)
    (h : (s.now k).holds a ≡ true) (r : Rewrites own role s k a w t e part) where
  pub writes_sound : Sound (owned e a own) (parted e part role) (writes k w t e s)
  writes_sound = record {
    lays = image_rewritten own role s k a w t e part g r;
    formed = g.formed;
    now = put_each (λ j x. FitsHand (owned e a own) (parted e part role) s.shared s.image x) k
        (written w t e (s.now k)) s.now
        (hand_rewritten own role s k a w t e part g r (s.now k).holds h (λ b x. x) (λ b n x. x))
        (λ j n. now_rewritten own role s k a w t e part g r j);
    before = before_rewritten own role s k a w t e part g r;
    step = put_each (λ j x. FitsBefore x (s.before j)) k (written w t e (s.now k)) s.now
        (step_rewritten own role s k a w t e part g r (s.now k).holds h (λ b x. x) (λ b n x. x)) (λ j n. g.step j);
    held = λ j b. put_each (λ j x. x.holds b ≡ (mem b (s.changed j) || mem b (s.made j))) k (written w t e (s.now k))
        s.now (g.held k b) (λ j n. g.held j b) j;
    held_before = g.held_before;
    apart = put_apart k (written w t e (s.now k)) s.now g.apart (λ j b n x y. n (g.apart j k b y x));
    nobody = g.nobody;
    held_some = put_each (λ j x. x.holds 0 ≡ false) k (written w t e (s.now k)) s.now (g.held_some k)
        (λ j n. g.held_some j);
    spare = spare_rewritten own role s k a w t e part g r;
    spare_once = g.spare_once;
    beyond = beyond_rewritten own role s k a w t e part g r;
  }

  seen : at (sees (meaning_in s) k) a ≡ decode (s.now k).word a
  unfolding meaning_in at
  seen = ap (λ o. unwrap_or (over o (heap_of s.image s.shared a)) blank)
      (cond-true ((s.now k).holds a) (Some (decode (s.now k).word a)) None h)

  part_written : (q : Rec) → decode w a ≡ q → part_in (writes k w t e s) k ≡ changed a q (part_in s k)
  part_written q d = (λ i. part_by (put_here k (written w t e (s.now k)) s.now i) (s.before k) (s.changed k)
      (s.made k) (s.looked k) (s.kept_made k))
      ∙ (λ i. record (part_in s k) {
        changes = heap_put (s.now k).holds (s.now k).holds (s.now k).word w a q h d
            (λ b n. refl) (λ b n x. decode_other own role s k a w t e part g r b n x) i;
      })

  pub writes_means : (f : Rec → Rec) → decode w a ≡ f (decode (s.now k).word a) → meaning_in (writes k w t e s)
      ≡ after_change k a f (meaning_in s)
  unfolding meaning_in
  writes_means f d = meaning_set k (changed a (f (at (sees (meaning_in s) k) a)) (part_in s k)) s (writes k w t e s)
      refl refl
      (part_written (f (at (sees (meaning_in s) k) a)) (d ∙ ap f (sym seen)))
      (λ j n i. part_by (put_there k j (written w t e (s.now k)) s.now n i) (s.before j) (s.changed j) (s.made j)
      (s.looked j) (s.kept_made j))
      refl refl
