-- What pieces, loans and the end keep of what explains a core's peaks.
use Rattle.std.proofs.Common.{◌≡◌, inl, inr, ℕ, Bool, true, false, Result, Ok, Err, refl, sym, subst}
use Rattle.std.specs.declared.alloc.AllocError.{AllocError}
use Rattle.py_data.specs.Heap.{Heap}
use Rattle.lock_run.specs.Prog.{Prog}
use Rattle.lock_run.specs.Machine.{Machine}
use Rattle.stm_pieces.specs.declared.loan.Loan.{Loan}
use Rattle.stm_core.specs.declared.answers.LoanError.{LoanError}
use Rattle.stm_core.specs.declared.answers.LoanError.TheVariants as error
use Rattle.stm_segment.specs.declared.cause.Cause.TheVariants.{OutOfMemory}
use Rattle.stm_core.specs.Advanced.{with_cause, Fails}
use Rattle.stm_segment.specs.CoreState.{Transaction, Idle, Running, CoreState, with_segment}
use Rattle.stm_core.specs.Finishing.{idle_core, SettlesSolo}
use Rattle.stm_core.specs.Good.{Good}
use Rattle.stm_core.specs.Outside.{Outer}
use Rattle.stm_core.specs.Pieces.{IsInstalled, IsLoaned}
use Rattle.heap_bound.specs.Laws.{InstallLaw, LoanLaw, EndLaw}
use Rattle.heap_bound.specs.Moments.{IsExplained}
use Rattle.heap_bound.proofs.Calling.{committed_explained, whole_explained}
use Rattle.heap_bound.proofs.Explaining.{explained_kept, explained_still}

module _ {S : Type 0} (p : Prog S) (start : Machine S) (most segments : ℕ) (f : ℕ → ℕ) where
  abbrev Explained : CoreState S → Type 0
  Explained c = IsExplained p start most segments f c

  -- there was no memory
  given_up : (k n reserved limit : ℕ) (o o1 : Outer S) → Good p start most o.core → Explained o.core →
      (x : Transaction S) → o.core.segments k ≡ Running x → (solo : Bool) →
      Fails solo p k n reserved limit OutOfMemory o x o1 → Explained o1.core
  given_up k n reserved limit o o1 good e x is false w =
      subst (λ (y : Outer S). Explained y.core) (sym w.1) (explained_kept p start most segments o.core
      (with_cause OutOfMemory (with_segment k Idle o.core)) f OutOfMemory e tt refl refl refl)
  given_up k n reserved limit o o1 good e x is true w =
      subst (λ (y : Outer S). Explained y.core) (sym w.1.gives)
      (whole_explained p start most segments f o.core good e k n x OutOfMemory is tt x.steps refl)

  installed : (k n reserved limit : ℕ) (loaned left : Heap) (steps : ℕ) (last : S) (r : Result ℕ AllocError)
      (o o1 : Outer S) → Good p start most o.core → Explained o.core →
      IsInstalled p most k n reserved limit loaned left steps last r o o1 → Explained o1.core
  installed k n reserved limit loaned left steps last (Ok i) o o1 good e h =
      subst (λ (y : Outer S). Explained y.core) (sym h.1.is)
      (explained_still p start most segments f o.core (with_segment k (Running h.1.after) o.core) e refl refl refl)
  installed k n reserved limit loaned left steps last (Err w) o o1 good e h =
      given_up k n reserved limit o o1 good e h.x h.runs h.x.solo h.fails

  loaned : (k : ℕ) (r : Result (Loan S) LoanError) (o o1 : Outer S) → Explained o.core → IsLoaned p most k r o o1 →
      Explained o1.core
  loaned k (Ok l) o o1 e h = subst (λ (y : Outer S). Explained y.core) (sym h.same) e
  loaned k (Err (error.Lost g)) o o1 e h =
      subst (λ (y : Outer S). Explained y.core) (sym h.1)
      (explained_still p start most segments f o.core (with_segment k Idle o.core) e refl refl refl)
  loaned k (Err error.OutOfMemory) o o1 e h = subst (λ (y : Outer S). Explained y.core) (sym h.2) e

  settled : (n : ℕ) (o o1 : Outer S) → Good p start most o.core → Explained o.core → SettlesSolo p n o o1 →
      Explained o1.core
  settled n o o1 good e s = elim s [
    | inl h ↦ subst (λ (y : Outer S). Explained y.core) (sym h.1) e
    | inr h ↦ committed_explained p start most segments f o.core good e h.0 n (Ok h.4) o1.core h.5.0
  ]

pub install_law : {S : Type 0} → InstallLaw S
install_law p start most segments f o o1 good e k n reserved limit loaned left steps last r h =
    installed p start most segments f k n reserved limit loaned left steps last r o o1 good e h

pub loan_law : {S : Type 0} → LoanLaw S
loan_law p start most segments f o o1 good e k r h = loaned p start most segments f k r o o1 e h

pub end_law : {S : Type 0} → EndLaw S
end_law p start most segments f o o1 good e n s =
    explained_still p start most segments f o1.core (idle_core o1.core)
    (settled p start most segments f n o o1 good e s) refl refl refl
