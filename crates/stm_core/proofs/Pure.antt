-- A step of a transaction whose row asks nothing: store, books and devices stay.
use Rattle.std.proofs.Common.{◌≡◌, ℕ, arith, [], None, refl, sym, ap, subst, inl}
use Rattle.std.proofs.lemmas.Bool.{or_left, cond-true}
use Rattle.py_data.specs.Row.{Ret}
use Rattle.py_data.specs.Sight.{Sight, Does, mem, opened, pure}
use Rattle.lock_run.specs.declared.client.Outcome.TheVariants.{Done}
use Rattle.lock_run.specs.declared.client.Life.TheVariants.{Lives}
use Rattle.lock_run.specs.Client.{TellsLife}
use Rattle.lock_run.specs.Prog.{Prog}
use Rattle.lock_run.proofs.Following.{run_upto, done_pure}
use Rattle.seg_store.specs.Meaning.{Meaning}
use Rattle.seg_store.specs.Store.{IsStore}
use Rattle.stm_segment.specs.declared.books.Work.{Work}
use Rattle.stm_segment.specs.declared.books.Books.{Books}
use Rattle.stm_segment.specs.CoreState.{no_world, sight_of}
use Rattle.stm_segment.specs.Conflict.{side}
use Rattle.stm_segment.specs.Books.{Worlds, transaction, Fit}
use Rattle.stm_segment.specs.inner.Halts.{gave_none}
use Rattle.stm_segment.specs.inner.Hold.{Hold, holding, sight}
use Rattle.stm_core.specs.inner.Whole.{stepped, StepDone}
use Rattle.stm_core.proofs.Advancing.{done_not_waits}
use Rattle.stm_core.proofs.Stepping.{world_of, sight_is, advances}
use Rattle.stm_core.proofs.Way.{at_used}

-- the same work, whose state was looked at and left
pub same_work : {S : Type 0} (x : Work S) (q : S) → q ≡ x.state → record x { state = q } ≡ x
same_work x q e = ap (λ z. record x { state = z }) e

-- after it the thread lives
pub pure_lives : {S : Type 0} (p : Prog S) (q q1 : S) → p.life q ≡ Lives → TellsLife p → p.row q ≡ Ret (Done, q1) →
    p.life q1 ≡ Lives
pure_lives {S} p q q1 lives tells e =
    let s = opened S (λ a. None) no_world in
    tells q q1 s s Done lives (done_pure (p.row q) s (Done, q1) e)

module _ {S : Type 0} (p : Prog S) (w : Worlds) (k : ℕ) (m : Meaning) (r : ℕ) (b : Books S) (x : Work S) (q : S)
    (fit : Fit k m b x.progress) (store : IsStore r m) (lives : p.life x.state ≡ Lives)
    (asks_nothing : p.row x.state ≡ Ret (Done, q)) where
  abbrev held : Hold S
  held = holding m r b x.progress gave_none

  begins : at_used (world_of w x.solo) x.solo (sight k held) ≡
      sight_of m.image w.committed (transaction w.own (m.part k) x)
  begins = sight_is w k m x held fit.own_names refl refl refl refl refl

  -- what the step begins with, and ends with
  abbrev first : Sight S
  first = at_used (world_of w x.solo) x.solo (sight k held)

  does : Does (p.row x.state) first (Done, q) first
  does = done_pure (p.row x.state) first (Done, q) asks_nothing

  pub pure_done : StepDone p w w.own k (side k (transaction w.own (m.part k) x)) Done m b x m b (record x { state = q })
  pure_done = record {
    dooms = [];
    others = refl;
    goes = λ n. advances p w w.own k m m r x (stepped (record x { state = q })) held held Done (world_of w x.solo)
        x.solo lives n does begins refl refl refl fit.own_names store (fit.locked k) refl refl refl refl
        (λ y. sym (cond-true x.solo w.own w.committed y)) (λ y. y);
    waits = λ n. absurd (done_not_waits n);
    mortal = λ y. refl;
    waiting = λ n. absurd (done_not_waits n);
    last = (Done, q);
    went = record {
      place = first;
      upto = run_upto pure (p.row x.state) (sight_of m.image w.committed (transaction w.own (m.part k) x)) (Done, q)
          first (subst (λ z. Does (p.row x.state) z (Done, q) first) begins does);
      looks = λ a l. inl l;
      locks = λ a l. inl (or_left (mem a (m.part k).changed) (mem a (m.part k).made) l);
      asked = λ i f l. absurd (omega (arith, l));
    };
  }
