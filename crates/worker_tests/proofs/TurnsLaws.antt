-- Nothing here is to be believed: it is proved that a good core has as many turns as its history tells, and that what
-- has grown from it has no fewer.
use Rattle.std.specs.Prelude.{◌≡◌, ◌≤◌, ◌++◌, ℕ, List, Option, length}
use Rattle.std.proofs.Common.{subst, sym, ap, ◌∙◌}
use Rattle.std.proofs.Math.Nat.{le-add_right}
use Rattle.std.proofs.lemmas.List.{length-append}
use Rattle.py_data.specs.Heap.{Heap}
use Rattle.stm_io.specs.Outside.{SourceState, SinkState}
use Rattle.lock_run.specs.declared.turn.Turn.{Turn}
use Rattle.lock_run.specs.Prog.{Prog}
use Rattle.seg_store.specs.Meaning.{Meaning}
use Rattle.stm_core.specs.declared.transactions.Core.{Core}
use Rattle.stm_segment.specs.CoreState.{CoreState}
use Rattle.stm_core.specs.CoreHeld.{Says, IsGoodCore}
use Rattle.stm_workers.specs.Growth.{Grows}
use Rattle.worker_tests.specs.Turns.{turns_of}

no_shorter : {A : Type 0} (old new more : List A) → new ≡ old ++ more → length old ≤ length new
no_shorter old new more is = subst (λ n. length old ≤ n) (sym (ap length is ∙ length-append old more))
    (le-add_right (length old) (length more))

module _ {C S I O E T : Type 0} (input : I → SourceState) (out : O → SinkState) (err : E → SinkState)
    (prog : C → Prog T) (sound : C → Heap → List T → Type 0) (reserved : S → ℕ) (meaning : S → Meaning) where
  pub turns_told : (x : Core C S I O E T) (told : List Turn) → IsGoodCore input out err prog sound reserved meaning x →
      Says input out err prog meaning x (λ o. o.core.history ≡ told) → length told ≡ turns_of x
  turns_told x told good says =
      let stands = good.sane.stands in
      ap (λ (l : List Turn). length l) (sym (says good.sane.state stands) ∙
      ap (λ (c : CoreState T). c.history) stands.core)

  pub turns_grow : (peaks : S → Option (ℕ → ℕ)) (x y : Core C S I O E T) →
      IsGoodCore input out err prog sound reserved meaning x → Grows input out err prog meaning peaks x y →
      turns_of x ≤ turns_of y
  turns_grow peaks x y good grows =
      let stands = good.sane.stands in
      let grown = grows.leads good.sane.state stands in
      let same = sym (ap (λ (c : CoreState T). c.history) grown.1.core) ∙ grown.2.0.history ∙
      ap (λ (c : CoreState T). c.history ++ grown.2.0.turns) stands.core in
      no_shorter x.books.history.entries y.books.history.entries grown.2.0.turns same
