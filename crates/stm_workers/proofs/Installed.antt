-- What an installed piece makes of history and conflicts: nothing, or, where there was no memory, what a commit makes
-- of them.
-- And what it and a loan make of what explains the peaks.
use Rattle.std.proofs.Common.{◌≡◌, ℕ, zero, suc, Bool, true, false, cond, eqb, List, [], ◌∷◌, Option, Some, None, Result, Ok, Err, refl, sym, ◌∙◌, ap, subst, append-nil}
use Rattle.std.specs.List.{range_with_len}
use Rattle.std.specs.declared.alloc.AllocError.{AllocError}
use Rattle.stm_io.specs.Outside.{SourceState, SinkState}
use Rattle.lock_run.specs.Prog.{Prog}
use Rattle.py_data.specs.Heap.{Heap}
use Rattle.seg_store.specs.Meaning.{Meaning}
use Rattle.stm_segment.specs.declared.cause.Cause.TheVariants.{OutOfMemory}
use Rattle.stm_core.specs.declared.transactions.Core.{Core}
use Rattle.stm_core.specs.declared.answers.LoanError.{LoanError}
use Rattle.stm_core.specs.declared.answers.LoanError.TheVariants as error
use Rattle.stm_core.specs.Advanced.{with_cause, Fails}
use Rattle.stm_segment.specs.Conflict.{conflict}
use Rattle.stm_core.specs.CoreHeld.{core_client, core_limits, core_store, CoreStands, Leads, SameJob}
use Rattle.stm_segment.specs.CoreState.{Transaction, Segment, Idle, Doomed, Running, CoreState, turn_of, with_segment}
use Rattle.stm_core.specs.Moves.{published}
use Rattle.stm_core.specs.Outside.{Outer}
use Rattle.stm_core.specs.Passes.{met, doom_met, doom_one, doom_readers, after_commit}
use Rattle.stm_core.specs.Pieces.{IsInstalled, IsLoaned}
use Rattle.stm_core.specs.Solo.{up_to_whole}
use Rattle.stm_pieces.specs.declared.loan.Loan.{Loan}
use Rattle.heap_bound.specs.Laws.{InstallLaw, LoanLaw}
use Rattle.stm_workers.specs.Growth.{ListsGrow, HasExplained, Grows}
use Rattle.stm_workers.proofs.Explained.{StartOf, left, stands_good}
use Rattle.stm_workers.specs.inner.GrowthLaws.{lists_same, lists_then}

module _ {T : Type 0} where
  -- a state with the same lists
  same_lists : (c d e : CoreState T) → e.history ≡ d.history → e.conflicts ≡ d.conflicts → ListsGrow c d → ListsGrow c e
  same_lists c d e h f g = record {
    turns = g.turns;
    history = h ∙ g.history;
    new = g.new;
    conflicts = f ∙ g.conflicts;
  }

  -- one doom
  one_dooms : (i : ℕ) (x : Transaction T) (j : ℕ) (c : CoreState T) (s : Segment T) → ListsGrow c (doom_one i x j c s)
  one_dooms i x j c Idle = lists_same c
  one_dooms i x j c (Doomed f) = lists_same c
  one_dooms i x j c (Running y) = by_meeting (met x.changed y.looked)
    where
      by_meeting : (o : Option ℕ) → ListsGrow c (doom_met i x j y c o)
      by_meeting None = lists_same c
      by_meeting (Some a) = record {
        turns = [];
        history = sym (append-nil c.history);
        new = conflict i x j y a false 1 ∷ [];
        conflicts = refl;
      }

  -- the dooms of a commit
  all_doom : (i : ℕ) (x : Transaction T) (js : List ℕ) (c : CoreState T) → ListsGrow c (doom_readers i x js c)
  all_doom i x [] c = lists_same c
  all_doom i x (j ∷ js) c =
      lists_then c (next (eqb j i)) (doom_readers i x js (next (eqb j i))) (by_place (eqb j i))
      (all_doom i x js (next (eqb j i)))
    where
      next : Bool → CoreState T
      next b = cond b c (doom_one i x j c (c.segments j))

      by_place : (b : Bool) → ListsGrow c (next b)
      by_place true = lists_same c
      by_place false = one_dooms i x j c (c.segments j)

  -- a commit
  commit_lists : (k : ℕ) (x : Transaction T) (js : List ℕ) (c : CoreState T) → ListsGrow c (after_commit k x js c)
  commit_lists k x js c =
      let d = doom_readers k x js c in
      lists_then c d (published k x d) (all_doom k x js c) (record {
        turns = turn_of x ∷ [];
        history = refl;
        new = [];
        conflicts = sym (append-nil d.conflicts);
      })

  -- a commit up to the last whole step
  whole_lists : (k n : ℕ) (x : Transaction T) (steps : ℕ) (c : CoreState T) → ListsGrow c (up_to_whole k n x steps c)
  whole_lists k n x zero c = same_lists c c (with_segment k Idle c) refl refl (lists_same c)
  whole_lists k n x (suc i) c = commit_lists k x (range_with_len 0 n) c

  module _ (p : Prog T) (length k n reserved limit : ℕ) where
    -- want of memory
    fails_lists : (b : Bool) (x : Transaction T) (o o1 : Outer T) → Fails b p k n reserved limit OutOfMemory o x o1 →
        ListsGrow o.core o1.core
    fails_lists false x o o1 h =
        subst (λ (z : Outer T). ListsGrow o.core z.core) (sym h.1)
        (same_lists o.core o.core (with_cause OutOfMemory (with_segment k Idle o.core)) refl refl (lists_same o.core))
    fails_lists true x o o1 h =
        let u = up_to_whole k n x x.steps o.core in
        let f = ap (λ (z : Outer T). z.core) h.1.gives in
        same_lists o.core u o1.core (ap (λ (z : CoreState T). z.history) f) (ap (λ (z : CoreState T). z.conflicts) f)
        (whole_lists k n x x.steps o.core)

    install_lists : (g g1 : Heap) (m : ℕ) (q : T) (result : Result ℕ AllocError) (o o1 : Outer T) →
        IsInstalled p length k n reserved limit g g1 m q result o o1 → ListsGrow o.core o1.core
    install_lists g g1 m q (Ok i) o o1 h =
        let f = ap (λ (z : Outer T). z.core) h.1.is in
        same_lists o.core o.core o1.core (ap (λ (z : CoreState T). z.history) f)
        (ap (λ (z : CoreState T). z.conflicts) f) (lists_same o.core)
    install_lists g g1 m q (Err e) o o1 h = fails_lists h.x.solo h.x o o1 h.fails

    loan_lists : (result : Result (Loan T) LoanError) (o o1 : Outer T) → IsLoaned p length k result o o1 →
        ListsGrow o.core o1.core
    loan_lists (Ok l) o o1 h =
        subst (λ (z : Outer T). ListsGrow o.core z.core) (sym h.same) (lists_same o.core)
    loan_lists (Err (error.Lost f)) o o1 h =
        subst (λ (z : Outer T). ListsGrow o.core z.core) (sym h.1)
        (same_lists o.core o.core (with_segment k Idle o.core) refl refl (lists_same o.core))
    loan_lists (Err error.OutOfMemory) o o1 h =
        subst (λ (z : Outer T). ListsGrow o.core z.core) (sym h.2) (lists_same o.core)

module _ {C S I O E T : Type 0} (input : I → SourceState) (out : O → SinkState) (err : E → SinkState)
    (prog : C → Prog T) (meaning : S → Meaning) (peaks : S → Option (ℕ → ℕ)) (x y : Core C S I O E T)
    (job : SameJob meaning x y) where
  -- lists that grow in each state, in which the peaks stay explained, grow
  lists_grows : (R : Outer T → Outer T → Type 0) → ((o o1 : Outer T) → R o o1 → ListsGrow o.core o1.core)
      → ((o o1 : Outer T) → CoreStands input out err prog meaning x o → R o o1 →
      HasExplained input out err prog meaning peaks x o → HasExplained input out err prog meaning peaks y o1)
      → Leads input out err prog meaning x y R → Grows input out err prog meaning peaks x y
  lists_grows R lists keeps leads = record {
    leads = λ o stands. let u = leads o stands in (u.0, u.1, (lists o u.0 u.2, keeps o u.0 stands u.2));
  }

  pub install_grows : InstallLaw T → peaks (core_store y) ≡ peaks (core_store x) →
      (k reserved : ℕ) (g g1 : Heap) (m : ℕ) (q : T) (result : Result ℕ AllocError) →
      Leads input out err prog meaning x y
      (λ o o1. IsInstalled (prog (core_client x)) (core_limits meaning x).length k (core_limits meaning x).segments
      reserved (core_limits meaning x).words g g1 m q result o o1) → Grows input out err prog meaning peaks x y
  install_grows law same k reserved g g1 m q result =
      let l = core_limits meaning x in
      let p = prog (core_client x) in
      lists_grows (λ o o1. IsInstalled p l.length k l.segments reserved l.words g g1 m q result o o1)
      (install_lists p l.length k l.segments reserved l.words g g1 m q result)
      (λ o o1 stands h. left input out err prog meaning peaks x y job o o1 same (λ f e.
      law p (StartOf input out err prog meaning peaks x y job x) l.length l.segments f o o1
      (stands_good input out err prog meaning peaks x y job o stands) e k l.segments reserved l.words g g1 m q result
      h))

  pub loan_grows : LoanLaw T → peaks (core_store y) ≡ peaks (core_store x) → (k : ℕ)
      (result : Result (Loan T) LoanError) → Leads input out err prog meaning x y
      (λ o o1. IsLoaned (prog (core_client x)) (core_limits meaning x).length k result o o1) →
      Grows input out err prog meaning peaks x y
  loan_grows law same k result =
      let l = core_limits meaning x in
      let p = prog (core_client x) in
      lists_grows (λ o o1. IsLoaned p l.length k result o o1)
      (loan_lists p l.length k l.segments 0 l.words result)
      (λ o o1 stands h. left input out err prog meaning peaks x y job o o1 same (λ f e.
      law p (StartOf input out err prog meaning peaks x y job x) l.length l.segments f o o1
      (stands_good input out err prog meaning peaks x y job o stands) e k result h))
