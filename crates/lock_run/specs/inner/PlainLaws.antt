-- What code and proofs say to each other: nothing public rests on it.
-- A plain view keeps the laws of views: the proofs that `impl View for PlainView` cites. States `docs/HEAP.md`,
-- "Views".
use Rattle.std.specs.Prelude.{◌≡◌, ℕ, true, false}
use Rattle.std.proofs.Common.{ap, refl, ◌∙◌, sym, subst, IsSome}
use Rattle.py_data.specs.declared.stop.Stop.{Stop}
use Rattle.py_data.specs.declared.stop.Stop.TheVariants.{ReadFault, WriteFault, ErrFault, OutOfMemory}
use Rattle.py_data.specs.declared.stop.Out.TheVariants.{Output, ErrorOutput}
use Rattle.py_data.specs.declared.change.Change.{Change}
use Rattle.py_data.specs.Changes.{after}
use Rattle.py_data.specs.Heap.{put_at}
use Rattle.py_data.specs.Shape.{find}
use Rattle.py_data.specs.Row.{Call, Read, Find, Edit, Make, Start, Put, Take, MidLine, SetMidLine, Reply}
use Rattle.py_data.specs.Sense.{Lawful, IsBracket, Effect, Edits, can_refuse, WantsRoom, IfFull}
use Rattle.py_data.proofs.Steps.{at_is}
use Rattle.stm_io.specs.Outside.{SourceState, SinkState}
use Rattle.lock_run.specs.PlainState.{PlainState, PlainDoes, Changes, Why}
use Rattle.lock_run.specs.PlainSense.{plain_sense, plain_bracket, plain_stops}

-- a change of a record is one of the heap
changes_edits : {S : Type 0} (a : ℕ) (x : Change) (d e : PlainState S) → Changes a x d e →
    Edits a (after x) d.heap e.heap
changes_edits a x d e h = (
  subst IsSome (sym h.1) refl,
  ap (λ d. d.heap) h.3 ∙
      ap (λ q. put_at d.heap a (after x q)) (sym (at_is d.heap a h.0 h.1)),
)

-- each call does to the heap what such a call does over any view
pub plain_effect : {S : Type 0} (c : Call S) (d : PlainState S) (r : Reply c) (e : PlainState S) → PlainDoes c d r e →
    Effect false c d.heap r e.heap
plain_effect (Read a) d r e h = (h.0, ap (λ d. d.heap) h.1)
plain_effect (Find a key) d r e h = (
  subst IsSome (sym h.1) refl,
  h.3 ∙
      ap (λ q. find d.heap q.values key) (sym (at_is d.heap a h.0 h.1)),
  ap (λ d. d.heap) h.4,
  tt,
)
plain_effect (Edit a x) d r e h = changes_edits a x d e h
plain_effect (Make q) d n e h = (h.1, ap (λ d. d.heap) h.2, refl)
plain_effect (Start s) d r e h = ap (λ d. d.heap) h
plain_effect (Put Output b) d r e h = ap (λ d. d.heap) h.0
plain_effect (Put ErrorOutput b) d r e h = ap (λ d. d.heap) h.0
plain_effect (Take most) d r e h = (h.1, ap (λ d. d.heap) h.2)
plain_effect MidLine d r e h = ap (λ d. d.heap) h.1
plain_effect (SetMidLine b) d r e h = ap (λ d. d.heap) h

-- no call changes the base of the step
pub plain_base : {S : Type 0} (c : Call S) (d : PlainState S) (r : Reply c) (e : PlainState S) → PlainDoes c d r e →
    e.base ≡ d.base
plain_base (Read a) d r e h = ap (λ d. d.base) h.1
plain_base (Find a key) d r e h = ap (λ d. d.base) h.4
plain_base (Edit a x) d r e h = ap (λ d. d.base) h.3
plain_base (Make q) d n e h = ap (λ d. d.base) h.2
plain_base (Start s) d r e h = ap (λ d. d.base) h
plain_base (Put Output b) d r e h = ap (λ d. d.base) h.0
plain_base (Put ErrorOutput b) d r e h = ap (λ d. d.base) h.0
plain_base (Take most) d r e h = ap (λ d. d.base) h.2
plain_base MidLine d r e h = ap (λ d. d.base) h.1
plain_base (SetMidLine b) d r e h = ap (λ d. d.base) h

-- no look is refused
no_look_stops : {S : Type 0} (a : ℕ) (d e : PlainState S) (s : Stop) → Why s (Read a) d e → ⊥
no_look_stops a d e ReadFault w = w.0
no_look_stops a d e WriteFault w = w.0
no_look_stops a d e ErrFault w = w.0
no_look_stops a d e OutOfMemory w = w.0
no_look_stops a d e _ w = w

-- each Stop is one that such a call can meet, and one of those that a plain view gives
stop_cause : {S : Type 0} (c : Call S) (d e : PlainState S) (s : Stop) → Why s c d e →
    (can_refuse c s ≡ true) × (plain_stops s ≡ true) × IfFull s (WantsRoom c d.heap)
stop_cause (Take most) d e ReadFault w = (refl, refl, tt)
stop_cause _ d e ReadFault w = absurd w.0
stop_cause (Put Output b) d e WriteFault w = (refl, refl, tt)
stop_cause _ d e WriteFault w = absurd w.0
stop_cause (Put ErrorOutput b) d e ErrFault w = (refl, refl, tt)
stop_cause _ d e ErrFault w = absurd w.0
stop_cause (Read a) d e OutOfMemory w = absurd w.0
stop_cause (Find a key) d e OutOfMemory w = absurd w.0
stop_cause MidLine d e OutOfMemory w = absurd w.0
stop_cause (SetMidLine b) d e OutOfMemory w = absurd w.0
stop_cause (Put Output b) d e OutOfMemory w = (refl, refl, tt)
stop_cause (Put ErrorOutput b) d e OutOfMemory w = (refl, refl, tt)
stop_cause _ d e OutOfMemory w = (refl, refl, tt)
stop_cause _ d e _ w = absurd w

module _ {S I O E : Type 0} (input : I → SourceState) (out : O → SinkState) (err : E → SinkState) where
  pub plain_lawful : Lawful (plain_sense {S = S} input out err)
  plain_lawful = record {
    effect = λ c v r w d. plain_effect c _ r _ d.0;
    live = λ c v r w d. d.1;
    seen = λ c v r w a d t. tt;
    stays = λ c v r w a d s. tt;
    same = λ a v r w s d. d.2;
    sure = λ a v e w s h. no_look_stops a _ _ e h.1;
    halts = λ c v e w h. h.0.stopped;
    cause = λ c v e w h. stop_cause c _ _ e h.1;
  }

  pub plain_bracketed : IsBracket (plain_sense {S = S} input out err) (plain_bracket input out err)
  plain_bracketed = record {
    keeps = λ c v r w d. (plain_base c _ r _ d.0, refl);
    keeps_refused = λ c v e w h. (h.0.base, refl);
    opened = λ v w h. (ap (λ d. d.heap) h, ap (λ d. d.base) h, ap (λ d. d.stopped) h);
    undone = λ v w h. (ap (λ d. d.heap) h, ap (λ d. d.stopped) h);
    put = λ v w bytes d. refl;
  }
