-- Nothing here is to be believed: these are the two laws that the lock asks for, proved. A core has grown from itself,
-- and what has grown in two steps has grown in one.
use Rattle.std.specs.Prelude.{ℕ, [], ◌++◌, Option}
use Rattle.std.proofs.Common.{sym, ◌∙◌, ap, append_assoc, append-nil}
use Rattle.stm_io.specs.Outside.{SourceState, SinkState}
use Rattle.lock_run.specs.Prog.{Prog}
use Rattle.seg_store.specs.Meaning.{Meaning}
use Rattle.stm_core.specs.declared.transactions.Core.{Core}
use Rattle.stm_segment.specs.CoreState.{CoreState}
use Rattle.stm_workers.specs.Growth.{ListsGrow, Grows}

pub lists_same : {T : Type 0} (c : CoreState T) → ListsGrow c c
lists_same c = record {
  turns = [];
  history = sym (append-nil c.history);
  new = [];
  conflicts =
      sym (append-nil c.conflicts);
}

pub lists_then : {T : Type 0} (c u v : CoreState T) → ListsGrow c u → ListsGrow u v → ListsGrow c v
lists_then c u v a b = record {
  turns = a.turns ++ b.turns;
  history = b.history ∙ ap (λ z. z ++ b.turns) a.history ∙ append_assoc c.history a.turns b.turns;
  new = a.new ++ b.new;
  conflicts = b.conflicts ∙ ap (λ z. z ++ b.new) a.conflicts ∙ append_assoc c.conflicts a.new b.new;
}

module _ {C S I O E T : Type 0} (input : I → SourceState) (out : O → SinkState) (err : E → SinkState)
    (prog : C → Prog T) (meaning : S → Meaning) (peaks : S → Option (ℕ → ℕ)) where
  pub grows_same : (x : Core C S I O E T) → Grows input out err prog meaning peaks x x
  grows_same x = record { leads = λ o stands. (o, stands, (lists_same o.core, λ e. e)) }

  pub grows_then : (x y z : Core C S I O E T) → Grows input out err prog meaning peaks x y →
      Grows input out err prog meaning peaks y z → Grows input out err prog meaning peaks x z
  grows_then x y z a b = record {
    leads = λ o stands.
        let u = a.leads o stands in
        let v = b.leads u.0 u.1 in
        (v.0, v.1, (lists_then o.core u.0.core v.0.core u.2.0 v.2.0, λ e. v.2.1 (u.2.1 e)));
  }
