-- A List with room to spare wants no extent for a value more.
use Rattle.std.proofs.Common.{◌≡◌, ◌==◌, ℕ, ◌+◌, Bool, true, false, cond, length, Some, eqb, ap, sym, subst, refl, arith}
use Rattle.std.proofs.lemmas.Bool.{eqb-true}
use Rattle.py_data.specs.declared.value.Value.{Value}
use Rattle.py_base.specs.declared.kind.Kind.{Kind}
use Rattle.py_base.specs.declared.kind.Kind.TheVariants.{List as ListKind}
use Rattle.py_data.specs.Heap.{Rec, doubled, with_push}
use Rattle.seg_store.specs.Extents.{one_if, bodies, bodies_of, extents, Wants}

with_room : (r : Rec) (v : Value) (c : ℕ) → r.kind ≡ ListKind → (length r.values == r.room) ≡ false →
    extents (with_push v r) c ≡ extents r c
unfolding extents
with_room r v c k e =
    subst (λ (k : Kind). one_if (eqb c 2) + bodies_of (with_push v r) k c ≡ one_if (eqb c 2) + bodies_of r k c) (sym k)
    (ap (λ (b : Bool). one_if (eqb c 2) + bodies r.first (cond b (doubled r.room) r.room) c) e)

pub push_wants : (r : Rec) (v : Value) (n : ℕ) → r.kind ≡ ListKind → Wants (Some r) (with_push v r) n →
    length r.values ≡ r.room
push_wants r v n k w = by_test (length r.values == r.room) refl
  where
    by_test : (b : Bool) → (length r.values == r.room) ≡ b → length r.values ≡ r.room
    by_test true e = eqb-true (length r.values) r.room e
    by_test false e =
        let same = with_room r v w.class k e in
        let more = w.more in
        omega arith
