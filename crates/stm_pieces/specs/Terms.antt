-- Records on terms, and the copies of those that were changed laid over them. States `docs/HEAP.md`, "The piece view".
use Rattle.std.specs.Prelude.{◌≡◌, ℕ, Bool, true, false, List, Option, Some, None, IsSome}
use Rattle.py_data.specs.declared.value.Addr.{Addr}
use Rattle.py_data.specs.Collection.{places}
use Rattle.py_data.specs.Heap.{Heap, Rec}
use Rattle.py_data.specs.Sight.{mem}
use Rattle.stm_pieces.specs.declared.lent.OnTerms.{OnTerms}

-- the record that is loaned on terms
abbrev pub loaned_in : Option OnTerms → Option Rec
loaned_in None = None
loaned_in (Some t) = Some t.entry

-- how many values a record may have, by its terms
abbrev pub most_in : Option OnTerms → ℕ
most_in None = 0
most_in (Some t) = t.most

-- whether it may be changed, by its terms
abbrev pub locked_in : Option OnTerms → Bool
locked_in None = false
locked_in (Some t) = t.locked

-- a changed record in place of the one that was loaned
abbrev pub over : Option Rec → Option Rec → Option Rec
over None y = y
over (Some r) y = Some r

-- changed records laid over those that are loaned
abbrev pub laid_over : Heap → Heap → Heap
laid_over changed loaned = λ a. over (changed a) (loaned a)

-- the names are the addresses at which a record is loaned
pub record AreNames (names : List Addr) (terms : ℕ → Option OnTerms) : Type 0 where
  pub named : (a : ℕ) (t : OnTerms) → terms a ≡ Some t → mem a (places names) ≡ true
  pub there : (a : ℕ) → mem a (places names) ≡ true → IsSome (terms a)
