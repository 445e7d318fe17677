-- Records that operations make fit: lists, tuples and strings.
use Rattle.std.proofs.Common.{arith, ◌≡◌, ◌≢◌, ℕ, ◌≤◌, List, [], length, refl}
use Rattle.py_data.specs.declared.value.Value.{Value}
use Rattle.py_data.specs.declared.value.Value.TheVariants.{Unset}
use Rattle.py_base.specs.declared.kind.Kind.{Kind}
use Rattle.py_base.specs.declared.kind.Kind.TheVariants.{Str, List as ListKind, Tuple, Class, Function, Cell}
use Rattle.py_data.specs.declared.record.TheConstants.{LENGTH_LIMIT}
use Rattle.py_data.specs.Every.{Every}
use Rattle.py_data.specs.Heap.{Heap, new_rec}
use Rattle.py_data.specs.Shape.{HasShape, OnlyStrings, HoldsNoUnset}
use Rattle.py_data.specs.Closed.{Refers, IsItem}
use Rattle.py_data.specs.Answers.{IsSequenceKind}
use Rattle.py_data.specs.Order.{Rules, FitsAt}
use Rattle.py_data.proofs.EveryLemmas.{every_weaken}

module _ (rules : Rules) (h : Heap) where
  no_unset : (k : Kind) (vs : List Value) → Every (λ v. v ≢ Unset) vs → HoldsNoUnset k vs
  no_unset Cell vs i = tt
  no_unset _ vs i = i

  -- a record of items, of a kind of which a client asks nothing and which has no base
  pub made_fits : (a : ℕ) (k : Kind) (vs : List Value) (bs : List ℕ) → k ≢ Class → k ≢ Function → k ≢ Cell →
      Every (IsItem h) vs → HasShape h k vs → OnlyStrings k bs → length vs ≤ LENGTH_LIMIT → length bs ≤ LENGTH_LIMIT
      → FitsAt rules h a (new_rec k vs bs)
  made_fits a k vs bs class function cell i s o l m = record {
    closed = record {
      refers = every_weaken (IsItem h) (Refers h) (λ v p. p.0) vs i;
      shaped = (s, o, no_unset k vs (every_weaken (IsItem h) (λ v. v ≢ Unset) (λ v p. p.1) vs i));
      bases = λ e. absurd (class e);
    };
    short = (l, m);
    function = λ e. absurd (function e);
    cell = λ e. absurd (cell e);
  }

  -- a list or a tuple
  pub sequence_fits : (a : ℕ) (k : Kind) (vs : List Value) → IsSequenceKind k → Every (IsItem h) vs →
      length vs ≤ LENGTH_LIMIT → FitsAt rules h a (new_rec k vs [])
  sequence_fits a ListKind vs s i l =
      made_fits a ListKind vs [] (λ e. let q : ListKind ≡ Class = e in cc) (λ e. let q : ListKind ≡ Function = e in cc)
      (λ e. let q : ListKind ≡ Cell = e in cc) i tt refl l (omega arith)
  sequence_fits a Tuple vs s i l = made_fits a Tuple vs [] (λ e. let q : Tuple ≡ Class = e in cc)
      (λ e. let q : Tuple ≡ Function = e in cc) (λ e. let q : Tuple ≡ Cell = e in cc) i tt refl l (omega arith)
  sequence_fits a k vs s i l = absurd s

  -- a string
  pub text_fits : (a : ℕ) (bs : List ℕ) → length bs ≤ LENGTH_LIMIT → FitsAt rules h a (new_rec Str [] bs)
  text_fits a bs l = made_fits a Str [] bs (λ e. let q : Str ≡ Class = e in cc) (λ e. let q : Str ≡ Function = e in cc)
      (λ e. let q : Str ≡ Cell = e in cc) tt tt tt (omega arith) l
