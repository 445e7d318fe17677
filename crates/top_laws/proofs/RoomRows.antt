-- A heap that has room for a small run, and one that hasn't: the program and the history are those of the worked rows
-- of `heap_bound`. States `docs/HEAP.md`, "The bound on a full heap".
use Rattle.std.proofs.Common.{ℕ, ◌≤◌, [], ◌∷◌, sym, subst, arith}
use Rattle.stm_core.specs.Events.{Limits}
use Rattle.heap_bound.specs.Worked.{one_cell, cell_begins, cell_turn, cell_ends, cell_room}
use Rattle.heap_bound.proofs.GrowthRows.{bounds_growth, at_least_six}
use Rattle.top_laws.specs.Known.{HasRoom}

abbrev limits : ℕ → Limits
limits words = record { length = 10; budget = 100; segments = 2; words = words }

-- with 266 words there is room
has_room : HasRoom one_cell (limits 266) cell_begins (cell_turn ∷ []) cell_ends
has_room = record {
  bound = 6;
  bounds = bounds_growth 10;
  room = subst (λ n. n ≤ 266) (sym cell_room) (omega arith);
}

-- with one less there isn't
has_none : HasRoom one_cell (limits 265) cell_begins (cell_turn ∷ []) cell_ends → ⊥
has_none h = let least : 6 ≤ h.bound = at_least_six 10 h.bound (omega arith) h.bounds in
    let words = cell_room in let room = h.room in absurd (omega (arith, least, words, room))
