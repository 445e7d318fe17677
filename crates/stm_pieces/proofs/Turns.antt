-- A turn of the loop that runs a piece.
use Rattle.std.proofs.Common.{◌≡◌, true, false, List, sym, ◌∙◌, subst}
use Rattle.py_data.specs.Heap.{Heap}
use Rattle.py_data.specs.declared.stop.Stop.{Stop}
use Rattle.py_data.specs.Row.{Ret}
use Rattle.py_data.specs.Sight.{opened}
use Rattle.py_data.specs.Steady.{AsksToPrint}
use Rattle.lock_run.specs.declared.client.Outcome.{Outcome}
use Rattle.lock_run.specs.declared.client.Outcome.TheVariants.{Done, Waits, Ended}
use Rattle.lock_run.specs.declared.client.Life.TheVariants.{Lives}
use Rattle.lock_run.specs.Prog.{Prog}
use Rattle.lock_run.specs.Client.{Stepped, StepStopped, StaysSound, WaitsQuietly, TellsLife, LifeAfter, Waiting}
use Rattle.lock_run.proofs.Following.{done_pure}
use Rattle.stm_pieces.specs.declared.run.PieceEnd.TheVariants as end
use Rattle.stm_pieces.specs.PieceState.{PieceState}
use Rattle.stm_pieces.specs.PieceSense.{piece_sense, piece_bracket}
use Rattle.stm_pieces.specs.Ends.{Hindered}
use Rattle.stm_pieces.specs.inner.Ending.{end_for}
use Rattle.stm_pieces.specs.inner.Walked.{Walked}
use Rattle.stm_pieces.specs.inner.Stepwise.{OneStep, NoStep}
use Rattle.stm_pieces.proofs.Walk.{walked_next, walked_pure, walked_same, some_world, life_next, state_waits, waits_here, done_back, stopped_back, done_not_waits, ended_not_waits}
use Rattle.stm_pieces.proofs.Coming.{hindered_stop}

module _ {S X : Type 0} (state : X → PieceState) (p : Prog S) (sound : Heap → List S → Type 0)
    (prints : (s : S) → AsksToPrint (p.row s)) (q : S) (v : X) (lives : p.life q ≡ Lives) where
  -- a step after which the thread lives
  pub turn_done : StaysSound p sound → TellsLife p → (o : Outcome) (q1 : S) (w : X) → o ≡ Done →
      Stepped (piece_sense state S) (piece_bracket state S) (p.row q) v o q1 w
      → OneStep p sound q (state v) true q1 (state w)
  turn_done law tells o q1 w e d = λ d0 n q0 k. (
    walked_next state p sound {v = v} k law prints lives o q1 w (λ f. done_not_waits (sym e ∙ f)) d,
    subst (λ z. LifeAfter z (p.life q1)) e (life_next state p sound {v = v} k tells prints lives o q1 w d),
  )

  -- a step whose row asks nothing
  pub turn_pure : StaysSound p sound → TellsLife p → (q1 : S) → p.row q ≡ Ret (Done, q1) →
      OneStep p sound q (state v) true q1 (state v)
  turn_pure law tells q1 e = λ d0 n q0 k.
      let s = opened S (state v).heap some_world in (
        walked_pure state p sound {v = v} k law lives q1 e,
        tells q q1 s s Done lives (done_pure (p.row q) s (Done, q1) e),
      )

  -- the thread's last step
  pub turn_ended : StaysSound p sound → TellsLife p → (o : Outcome) (q1 : S) (w : X) → o ≡ Ended →
      Stepped (piece_sense state S) (piece_bracket state S) (p.row q) v o q1 w
      → OneStep p sound q (state v) false q1 (state w)
  turn_ended law tells o q1 w e d = λ d0 n q0 k. (
    walked_next state p sound {v = v} k law prints lives o q1 w (λ f. ended_not_waits (sym e ∙ f)) d,
    subst (λ z. LifeAfter z (p.life q1)) e (life_next state p sound {v = v} k tells prints lives o q1 w d),
  )

  -- a step that waits
  pub turn_waits : WaitsQuietly p → (o : Outcome) (q1 : S) (w x : X) → o ≡ Waits →
      Stepped (piece_sense state S) (piece_bracket state S) (p.row q) v o q1 w → (piece_bracket state S).undoes w x
      → NoStep p sound q (state v) end.Waits q1 (state x)
  turn_waits quiet o q1 w x e d un = λ d0 n q0 k.
      let back = done_back state p sound q v o q1 w x d un in
      let same = state_waits state p sound {v = v} k quiet prints o q1 w e d in
      let waits = waits_here state p sound {v = v} k prints o q1 w e d in
      subst (λ z. Walked p sound d0 n q0 z (state x) × (p.life z ≡ Lives) × Hindered p z (state x) end.Waits)
      (sym same) (
        walked_same state p sound {v = v} k x back,
        lives,
        subst (λ h. Waiting (p.row q) h) (sym back.heap) waits,
      )

  -- a step that met a Stop
  pub turn_stopped : (e : Stop) (q1 : S) (x : X) → q1 ≡ q →
      StepStopped (piece_sense state S) (piece_bracket state S) (p.row q) v e x
      → NoStep p sound q (state v) (end_for e) q1 (state x)
  turn_stopped e q1 x same d = λ d0 n q0 k.
      let back = stopped_back state p sound q v e x d in
      subst (λ z. Walked p sound d0 n q0 z (state x) × (p.life z ≡ Lives) × Hindered p z (state x) (end_for e))
      (sym same) (
        walked_same state p sound {v = v} k x back,
        lives,
        hindered_stop state p sound {v = v} k prints e x d,
      )
