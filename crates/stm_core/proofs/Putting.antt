-- Changes are made again in the store, in a step of a transaction that was taken out of its hand.
use Rattle.std.proofs.Common.{◌≡◌, ℕ, true, false, List, [], ◌∷◌, length, Option, Some, refl, sym, ◌∙◌, ap}
use Rattle.py_data.specs.declared.value.Addr.{Addr}
use Rattle.py_data.specs.declared.change.Change.{Change}
use Rattle.py_data.specs.Changes.{after}
use Rattle.py_data.specs.World.{World}
use Rattle.seg_store.specs.Meaning.{Part, Meaning}
use Rattle.seg_store.specs.Calls.{opened, after_change, after_open}
use Rattle.seg_store.proofs.Sees.{own_part}
use Rattle.stm_segment.specs.declared.books.Progress.{Progress}
use Rattle.stm_segment.specs.declared.books.Work.{Work}
use Rattle.stm_segment.specs.declared.books.Books.{Books}
use Rattle.stm_segment.specs.declared.cause.Cause.TheVariants.{OutOfMemory}
use Rattle.stm_segment.specs.CoreState.{Running, CoreState, with_segment, first_cause}
use Rattle.stm_core.specs.Advanced.{with_cause}
use Rattle.stm_core.specs.Solo.{up_to_whole}
use Rattle.stm_segment.specs.Books.{Worlds, Fit, transaction, core_of}
use Rattle.stm_core.specs.inner.Trying.{core_with}
use Rattle.stm_core.specs.inner.Replayed.{replayed}
use Rattle.stm_core.specs.inner.PutIn.{further, HasPutIn, HasFailed}
use Rattle.stm_core.specs.inner.Whole.{SameShape}
use Rattle.stm_core.proofs.Calling.{blank}
use Rattle.stm_segment.proofs.Changing.{fit_change}
use Rattle.stm_segment.proofs.Holding.{core_own}

-- ---- the changes, one after another

pub fit_replayed : {S : Type 0} (k : ℕ) (es : List (Addr × Change)) (m : Meaning) (b : Books S) (p : Progress S) →
    Fit k m b p → Fit k (replayed k es m) b p
fit_replayed k [] m b p h = h
fit_replayed k (e ∷ es) m b p h = fit_replayed k es (after_change k e.0.0 (after e.1) m) b p
    (fit_change k e.0.0 (after e.1) m b p h)

pub shape_replayed : (k : ℕ) (es : List (Addr × Change)) (m : Meaning) → SameShape m (replayed k es m)
shape_replayed k [] m = (refl, refl)
shape_replayed k (e ∷ es) m = shape_replayed k es (after_change k e.0.0 (after e.1) m)

-- ---- a step that is opened

-- the progress as a step is opened with it
abbrev open_progress : {S : Type 0} → Progress S → Progress S
open_progress p = record p { kept_names = length p.names; kept_started = length p.started }

module _ {S : Type 0} (k : ℕ) (m m0 : Meaning) (b : Books S) (x : Work S) (p : Progress S)
    (begun : m0 ≡ after_open k m) (progress : p ≡ open_progress x.progress) (fit : Fit k m b x.progress) where
  abbrev going : Work S
  going = record x { progress = p }

  core_opened : (w : Worlds) → core_of w m0 b ≡ core_of w m b
  core_opened w = ap (λ z. core_of w z b) begun ∙ core_own w k (opened (m.part k)) m b fit.out

  same_transaction : (own : World) → transaction own (m0.part k) going ≡ transaction own (m.part k) x
  same_transaction own =
      ap (λ (z : Meaning). transaction own (z.part k) going) begun ∙
      ap (λ (q : Part). transaction own q going) (own_part k (opened (m.part k)) m) ∙
      ap (λ (z : Progress S). transaction own (m.part k) (record x { progress = z })) progress

  -- it failed for want of memory
  pub failed_out : (m2 : Meaning) (b2 : Books S) → b2.cause ≡ first_cause b.cause OutOfMemory
      → (x.solo ≡ false → (b2.broken ≡ b.broken) ×
      ((w : Worlds) → core_of w m2 b2 ≡ with_cause OutOfMemory (core_of w m0 b)))
      → (x.solo ≡ true → (b2.broken ≡ Some (record { thread = x.thread; turns = length b2.history.entries })) ×
      ((w : Worlds) → (w1 : Worlds) × (core_of w1 m2 b2 ≡ with_cause OutOfMemory
      (up_to_whole k m0.segments (transaction w.own (m0.part k) going) x.steps (core_with w k m0 b going)))))
      → HasFailed k m b x m2 b2
  failed_out m2 b2 cause mortal solo = record {
    cause = cause;
    mortal = λ n. let h = mortal n in (h.0, λ w. h.1 w ∙ ap (with_cause OutOfMemory) (core_opened w));
    solo = λ y. let h = solo y in (h.0, λ w. let z = h.1 w in (z.0, z.1 ∙ ap (with_cause OutOfMemory) (up w)));
  }
    where
      segments : m0.segments ≡ m.segments
      segments = ap (λ (z : Meaning). z.segments) begun

      up : (w : Worlds) → up_to_whole k m0.segments (transaction w.own (m0.part k) going) x.steps
          (core_with w k m0 b going) ≡ up_to_whole k m.segments (transaction w.own (m.part k) x) x.steps
          (core_with w k m b x)
      up w i = up_to_whole k (segments i) (same_transaction w.own i) x.steps
          (with_segment k (Running (same_transaction w.own i)) (core_opened w i))

  -- the changes were made, and it was put back
  pub put_in : (edits : List (Addr × Change)) (n : ℕ) (last : Option S) (m1 m2 : Meaning) (y : Work S) (b2 : Books S)
      → m1 ≡ replayed k edits m0 → y ≡ further n last going → m2 ≡ m1 → b2.broken ≡ b.broken
      → ((w : Worlds) → core_of w m2 b2 ≡ core_with w k m1 b y) → HasPutIn k edits n last m b x m2 b2
  put_in edits n last m1 m2 y b2 made more same broken core = record {
    cause = ap (λ (c : CoreState S). c.cause) (core blank);
    broken = broken;
    store = same ∙ made ∙ ap (replayed k edits) begun;
    core = λ w. core w ∙ (λ i. core_with w k (sym same i) b (more i)) ∙
        ap (λ (z : Progress S). core_with w k m2 b (further n last (record x { progress = z }))) progress;
  }
