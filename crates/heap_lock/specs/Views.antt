-- What contracts see of a lock and of a seat. States `docs/HEAP.md`, "The heap lock".
use Rattle.std.specs.Prelude.{ℕ, Bool, List, Option}
use Rattle.atomic_table.specs.Seated.{TableId}

-- A lock: which one it is, and how many parts it has
pub record LockView : Type 0 where
  pub id : TableId
  pub parts : ℕ

-- A seat: of which lock it is, its parts with the highest first, whether it holds the value, and the job of the value.
-- Its job is Some: None is for a seat that was joined to another, and such a seat is gone
pub record SeatView (T J : Type 0) : Type 0 where
  pub lock : TableId
  pub parts : List ℕ
  pub holds : Bool
  pub job : Option J
  -- the values that it has seen: the one that it gave last or, before it gave one, the one that the lock was made with;
  -- and those of the seats that it was split from or that were joined to it
  pub seen : List T
  -- the value as it was taken, while the seat holds one
  pub taken : Option T
