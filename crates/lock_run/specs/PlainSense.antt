-- The state of a plain view, and what the view says of itself as a view. States `docs/HEAP.md`, "The plain view" and
-- "Views".
use Rattle.std.specs.Prelude.{◌≡◌, None, drop, Bool, true, false}
use Rattle.py_data.specs.declared.stop.Stop.{Stop}
use Rattle.py_data.specs.declared.stop.Stop.TheVariants.{ReadFault, WriteFault, ErrFault, OutOfMemory}
use Rattle.py_data.specs.Sense.{Sense, Bracket}
use Rattle.py_data.specs.Collection.{places}
use Rattle.stm_io.specs.Outside.{SourceState, SinkState}
use Rattle.lock_run.specs.declared.plain.PlainView.{PlainView}
use Rattle.lock_run.specs.PlainState.{PlainState, PlainDoes, PlainRefuses, PlainOpens, PlainUndoes, Still}
use Rattle.lock_run.specs.Given.{given_all, given_kept}
use Rattle.lock_run.specs.Space.{space_heap, space_base}

-- what a plain view holds, by what its devices tell of themselves
abbrev pub plain_state : {S I O E : Type 0} → (I → SourceState) → (O → SinkState) → (E → SinkState) → PlainView S I O E
    → PlainState S
plain_state input out err v = record {
  heap = space_heap v.space;
  base = space_base v.space;
  made = given_all v.given;
  kept = given_kept v.given;
  left = places (drop v.next v.plan);
  was_left = places (drop v.mark v.plan);
  free = v.free;
  bad = v.bad;
  started = v.started;
  stopped = v.stopped;
  mid = v.mid;
  was_mid = v.was_mid;
  input = (input v.input).told;
  ends = (input v.input).ends;
  out = (out v.output).told;
  err = (err v.errors).told;
  reads = (input v.input).faults;
  writes = (out v.output).faults;
  errs = (err v.errors).faults;
}

-- the Stops that a plain view can give
abbrev pub plain_stops : Stop → Bool
plain_stops ReadFault = true
plain_stops WriteFault = true
plain_stops ErrFault = true
plain_stops OutOfMemory = true
plain_stops _ = false

module _ {S I O E : Type 0} (input : I → SourceState) (out : O → SinkState) (err : E → SinkState) where
  -- its heap, its calls and its Stops
  abbrev pub plain_sense : Sense S (PlainView S I O E)
  plain_sense = record {
    heap = λ v. space_heap v.space;
    partial = false;
    stopped = λ v. v.stopped;
    can_stop = plain_stops;
    does = λ c v r w. PlainDoes c (plain_state input out err v) r (plain_state input out err w) × (w.stopped ≡ None) ×
        Still c v w;
    refuses = λ c v e w. PlainRefuses c (plain_state input out err v) e (plain_state input out err w);
    seen = λ a v. Unit {0};
  }

  -- how it opens a step and takes it back; it may always print
  abbrev pub plain_bracket : Bracket S (PlainView S I O E)
  plain_bracket = record {
    base = λ v. space_base v.space;
    solo = λ v. true;
    opens = λ v w. PlainOpens (plain_state input out err v) (plain_state input out err w);
    undoes = λ v w. PlainUndoes (plain_state input out err v) (plain_state input out err w);
  }
