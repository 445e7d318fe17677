-- Where a search over a piece view is refused.
use Rattle.std.proofs.Common.{◌≡◌, ℕ, Bool, false, List, Some, MatchOption, IsTrue, sym, ◌∙◌, ap, subst}
use Rattle.std.proofs.lemmas.Bool.{both_ways}
use Rattle.py_data.specs.declared.stop.Stop.{Stop}
use Rattle.py_data.specs.declared.stop.Stop.TheVariants.{NeedHeap}
use Rattle.py_data.specs.declared.value.Value.{Value}
use Rattle.py_data.specs.Heap.{Heap, Rec}
use Rattle.py_data.specs.Shape.{Fits, IsKey, ArePairs}
use Rattle.py_data.specs.Row.{Find}
use Rattle.stm_pieces.specs.PieceState.{PieceState, PieceRefuses, NeedsHeap, Why}

-- a key whose record isn't here, or that of another of the dictionary's isn't
pub search_needs : (h : Heap) (d : ℕ) (key : Value) (r : Rec) (values : List Value) (known : Bool) → Some r ≡ h d →
    values ≡ r.values → (IsKey h key × ArePairs h values → IsTrue known) → known ≡ false
    → MatchOption (h d) (Unit {0}) (λ q. Fits h q key → ⊥)
search_needs h d key r values known is same knows fails =
    subst (λ o. MatchOption o (Unit {0}) (λ q. Fits h q key → ⊥)) is
    (λ f. both_ways known fails (knows (f.1, subst (ArePairs h) (sym same) f.2)))

pub search_refused : (S : Type 0) (d e : PieceState) (a : ℕ) (key : Value) (s : Stop) → s ≡ NeedHeap →
    e ≡ record d { stopped = Some NeedHeap } → NeedsHeap {S = S} (Find a key) d →
    PieceRefuses {S = S} (Find a key) d s e
search_refused S d e a key s same is need = (
  is ∙ ap (λ z. record d { stopped = Some z }) (sym same),
  subst (λ z. Why {S = S} z (Find a key) d) (sym same) need,
)
