-- What code and proofs say to each other: nothing public rests on it.
-- What the records of a loan are after one more was added. States `docs/HEAP.md`, "The piece view".
use Rattle.std.specs.Prelude.{◌≡◌, Bool, [], ◌∷◌, ◌++◌, Some, length}
use Rattle.py_data.specs.declared.value.Addr.{Addr}
use Rattle.py_data.specs.Heap.{Rec, put_at}
use Rattle.stm_pieces.specs.declared.lent.Lent.{Lent}
use Rattle.stm_pieces.specs.PieceState.{but_at}
use Rattle.stm_pieces.specs.LentOf.{terms_of, lent_heap, lent_base}

-- the same as before
pub record SameLent (l l1 : Lent) : Type 0 where
  pub terms : terms_of l1 ≡ terms_of l
  pub names : l1.names.items ≡ l.names.items
  pub heap : lent_heap l1 ≡ lent_heap l
  pub base : lent_base l1 ≡ lent_base l

-- one record more, which may be as long as it is
pub record LentMore (a : Addr) (r : Rec) (locked : Bool) (l l1 : Lent) : Type 0 where
  pub terms : terms_of l1 ≡ but_at (terms_of l) a.0
      (Some (record { entry = r; most = length r.values; locked = locked }))
  pub names : l1.names.items ≡ l.names.items ++ a ∷ []
  pub heap : lent_heap l1 ≡ put_at (lent_heap l) a.0 r
  pub base : lent_base l1 ≡ put_at (lent_base l) a.0 r
