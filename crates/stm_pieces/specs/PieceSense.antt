-- What a piece view says of itself as a view, for each type whose values hold a piece state. States `docs/HEAP.md`,
-- "The piece view" and "Views".
use Rattle.std.specs.Prelude.{◌≡◌, Bool, true, false, None}
use Rattle.py_data.specs.declared.stop.Stop.{Stop}
use Rattle.py_data.specs.declared.stop.Stop.TheVariants.{NeedSolo, NeedHeap, OutOfMemory}
use Rattle.py_data.specs.Heap.{Has}
use Rattle.py_data.specs.Sense.{Sense, Bracket}
use Rattle.stm_pieces.specs.PieceState.{PieceState, PieceDoes, PieceRefuses, PieceOpens, PieceUndoes, Still}

-- the Stops that a piece view can give
abbrev pub piece_stops : Stop → Bool
piece_stops NeedSolo = true
piece_stops NeedHeap = true
piece_stops OutOfMemory = true
piece_stops _ = false

module _ {X : Type 0} (state : X → PieceState) where
  -- its records, its calls and its Stops: it shows a part of a heap
  abbrev pub piece_sense : (S : Type 0) → Sense S X
  piece_sense S = record {
    heap = λ v. (state v).heap;
    partial = true;
    stopped = λ v. (state v).stopped;
    can_stop = piece_stops;
    does = λ c v r w. PieceDoes c (state v) r (state w) × ((state w).stopped ≡ None) × Still c v w;
    refuses = λ c v e w. PieceRefuses c (state v) e (state w);
    seen = λ a v. Has (state v).heap a;
  }

  -- how it opens a step and takes it back
  abbrev pub piece_bracket : (S : Type 0) → Bracket S X
  piece_bracket S = record {
    base = λ v. (state v).base;
    solo = λ v. (state v).solo;
    opens = λ v w. PieceOpens (state v) (state w);
    undoes = λ v w. PieceUndoes (state v) (state w);
  }
