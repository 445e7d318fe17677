-- A change of a tracked record keeps that it has one list alone, however this is asked of its kind.
use Rattle.std.proofs.Common.{◌≡◌, ℕ, Bool, true, false, List, refl, sym, subst}
use Rattle.py_data.specs.declared.change.Change.{Change}
use Rattle.py_data.specs.declared.change.Change.TheVariants.{Set, Push, Cut, Pair, Unpair}
use Rattle.py_data.specs.declared.value.Value.{Value}
use Rattle.py_base.specs.declared.kind.Kind.{Kind}
use Rattle.py_base.specs.declared.kind.Kind.TheVariants.{Str, Tuple, List as ListKind, Dict, Cell, Function, Class, Instance, Method, Iter, Range, Lock, Thread}
use Rattle.py_data.specs.Changes.{after}
use Rattle.py_data.specs.Heap.{Rec, is_tracked, has_bytes}

-- a tracked record has no bytes
no_bytes : (k : Kind) → is_tracked k ≡ true → has_bytes k ≡ false
no_bytes Str t = absurd (cc)
no_bytes Tuple t = refl
no_bytes ListKind t = refl
no_bytes Dict t = refl
no_bytes Cell t = refl
no_bytes Function t = refl
no_bytes Class t = refl
no_bytes Instance t = refl
no_bytes Method t = refl
no_bytes Iter t = refl
no_bytes Range t = refl
no_bytes Lock t = refl
no_bytes Thread t = refl

-- where nothing is asked of the values of a record without bytes, other values will do
module _ (asked : Bool → List Value → List ℕ → Type 0)
    (other : (vs ws : List Value) (bs : List ℕ) → asked false vs bs → asked false ws bs) where
  with_values : (k : Kind) (vs ws : List Value) (bs : List ℕ) → is_tracked k ≡ true → asked (has_bytes k) vs bs →
      asked (has_bytes k) ws bs
  with_values k vs ws bs t =
      subst (λ b. asked b vs bs → asked b ws bs) (sym (no_bytes k t)) (other vs ws bs)

  pub one_after : (c : Change) (q : Rec) → is_tracked q.kind ≡ true → asked (has_bytes q.kind) q.values q.bytes →
      asked (has_bytes (after c q).kind) (after c q).values (after c q).bytes
  one_after (Set i x) q t o = with_values q.kind q.values _ q.bytes t o
  one_after (Push x) q t o = with_values q.kind q.values _ q.bytes t o
  one_after (Cut n) q t o = with_values q.kind q.values _ q.bytes t o
  one_after (Pair key x) q t o = with_values q.kind q.values _ q.bytes t o
  one_after (Unpair n) q t o = with_values q.kind q.values _ q.bytes t o
