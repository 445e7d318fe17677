-- A plain view is plain.
use Rattle.stm_io.specs.Outside.{SourceState, SinkState}
use Rattle.lock_run.specs.PlainSense.{plain_state, plain_sense, plain_bracket}
use Rattle.lock_run.proofs.Following.{IsPlain}

pub is_plain : {S I O E : Type 0} (input : I → SourceState) (out : O → SinkState) (err : E → SinkState)
    → IsPlain (plain_sense {S = S} input out err) (plain_bracket input out err) (plain_state input out err)
is_plain input out err = record {
  does = λ c v r w h. h.0;
  refuses = λ c v s w h. h;
  opens = λ v w h. h;
  undoes =
      λ v w h. h;
}
