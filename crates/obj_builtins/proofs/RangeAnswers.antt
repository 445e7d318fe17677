-- What `range` and `xrange` have made.
use Rattle.std.proofs.Common.{arith, ◌≡◌, inl, inr, ℕ, zero, suc, ℤ, pos, ◌<◌, Bool, true, false, cond, leb, List, [], ◌∷◌, Some, codes, refl, sym, ap, subst, ◌∙◌}
use Rattle.std.specs.Ordering.{int_eq}
use Rattle.std.proofs.lemmas.Bool.{cases_lt}
use Rattle.std.proofs.lemmas.List.{get_or_append_left}
use Rattle.std.proofs.Math.Seq.{get_or-append_seam}
use Rattle.py_base.specs.Numbers.{builtin_number}
use Rattle.py_base.specs.declared.kind.Kind.{Kind}
use Rattle.py_base.specs.declared.kind.Kind.TheVariants.{List as ListKind, Range}
use Rattle.py_data.specs.declared.record.Fault.{Fault}
use Rattle.py_data.specs.declared.record.Got.{Got}
use Rattle.py_data.specs.declared.record.Got.TheVariants.{Is, Raise}
use Rattle.py_data.specs.declared.record.TheConstants.{LENGTH_LIMIT}
use Rattle.py_data.specs.declared.value.Value.{Value}
use Rattle.py_data.specs.declared.value.Value.TheVariants.{Unset, Int}
use Rattle.py_data.specs.Fault.{memory_fault}
use Rattle.py_data.specs.Heap.{Rec, new_rec, value_at}
use Rattle.py_data.specs.Range.{range_item}
use Rattle.py_data.specs.Row.{Row, Ret, Make}
use Rattle.py_data.specs.Sense.{Sense, Lawful, Run}
use Rattle.py_data.proofs.Steps.{put_here}
use Rattle.obj_class.specs.Bases.{ref}
use Rattle.obj_ops.specs.Numbers.{overflow_fault}
use Rattle.obj_ops.specs.Sequences.{made_row, new_items}
use Rattle.obj_seq.specs.Gather.{numbers}
use Rattle.obj_builtins.specs.declared.ranges.Bounds.{Bounds}
use Rattle.obj_builtins.specs.Lengths.{is_counted}
use Rattle.obj_builtins.specs.Ranges.{step_fault, bounds_of, count_in, numbers_made, numbers_within, range_row, range_values, range_made, range_within, xrange_row}
use Rattle.obj_builtins.specs.Functions.{function_row}
use Rattle.obj_builtins.specs.Laws.{IsRangeList, RangesLaw}
use Rattle.obj_builtins.proofs.Holding.{numbers_count}

-- the numbers by their places
number_at : (start step : ℤ) (n k : ℕ) → k < n → value_at (numbers start step n) k ≡ Int (range_item start step k)
number_at start step zero k l = absurd (omega (arith, l))
number_at start step (suc n) k l =
    elim (cases_lt k n) [
      | inl m ↦ get_or_append_left (numbers start step n) (Int (range_item start step n) ∷ []) Unset k
          (omega (arith, m, numbers_count start step n)) ∙ number_at start step n k m
      | inr m ↦
          let e : k ≡ n = omega (arith, l, m) in
          let c = numbers_count start step n in
          ap (λ j. value_at (numbers start step (suc n)) j) (e ∙ sym c) ∙
          (get_or-append_seam (numbers start step n) (Int (range_item start step n)) [] Unset ∙
          ap (λ j. Int (range_item start step j)) (sym e))
    ]

list_good : (b : Bounds) → IsRangeList b (new_rec ListKind (numbers b.start b.step (count_in b)) [])
list_good b = record {
  kind = refl;
  count = numbers_count b.start b.step (count_in b);
  item = λ k l. number_at b.start b.step (count_in b) k l;
}

module _ {S X : Type 0} (u : Sense S X) (L : Lawful u) where
  -- a record that was made is there
  made_is : (k : Kind) (vs : List Value) (v w : X) (y : Value) → Run u (made_row {S = S} k vs) v (Is y) w →
      (c : ℕ) × (y ≡ ref c) × (u.heap w c ≡ Some (new_rec k vs []))
  unfolding Run made_row
  made_is k vs v w y d =
      let f = L.effect (Make (new_rec k vs [])) v d.0 d.1 d.2 in
      let e : Is y ≡ Is (ref d.0) = d.3.0 in
      (d.0, cc, ap (λ h. h d.0) (ap u.heap d.3.1 ∙ f.1) ∙ put_here (u.heap v) d.0 (new_rec k vs []))

  -- what answers hasn't raised
  first_off : (b : Bool) (e : Fault) (row : Row S (Got Value)) (v w : X) (y : Value) →
      Run u (cond b (Ret (Raise e)) row) v (Is y) w → Run u row v (Is y) w
  unfolding Run
  first_off true e row v w y d = absurd (let q : Is y ≡ Raise e = d.0 in cc)
  first_off false e row v w y d = d

  last_off : (b : Bool) (e : Fault) (row : Row S (Got Value)) (v w : X) (y : Value) →
      Run u (cond b row (Ret (Raise e))) v (Is y) w → Run u row v (Is y) w
  unfolding Run
  last_off true e row v w y d = d
  last_off false e row v w y d = absurd (let q : Is y ≡ Raise e = d.0 in cc)

  range_is : (roots : ℕ) (args : List Value) (b : Bounds) (v w : X) (y : Value) → bounds_of args ≡ Some b →
      Run u (function_row {S = S} roots (builtin_number (codes "range")) args) v (Is y) w
      → (c : ℕ) × (made : Rec) × (y ≡ ref c) × (u.heap w c ≡ Some made) × IsRangeList b made
  unfolding function_row range_row numbers_within numbers_made new_items
  range_is roots args b v w y e d =
      let vs = numbers b.start b.step (count_in b) in
      let r : Run u (range_row {S = S} (Some b)) v (Is y) w = subst (λ o. Run u (range_row {S = S} o) v (Is y) w) e d in
      let s : Run u (cond (leb (count_in b) LENGTH_LIMIT) (made_row {S = S} ListKind vs) (Ret (Raise memory_fault))) v
      (Is y) w =
      first_off (int_eq b.step (pos 0)) step_fault
      (cond (leb (count_in b) LENGTH_LIMIT) (made_row {S = S} ListKind vs) (Ret (Raise memory_fault))) v w y r
      in
      let m = made_is ListKind vs v w y (last_off (leb (count_in b) LENGTH_LIMIT) memory_fault
      (made_row {S = S} ListKind vs) v w y s) in
      (m.0, new_rec ListKind vs [], m.1, m.2, list_good b)

  xrange_is : (roots : ℕ) (args : List Value) (b : Bounds) (v w : X) (y : Value) → bounds_of args ≡ Some b →
      Run u (function_row {S = S} roots (builtin_number (codes "xrange")) args) v (Is y) w
      → (c : ℕ) × (y ≡ ref c) × (u.heap w c ≡ Some (new_rec Range (range_values b) []))
  unfolding function_row xrange_row range_within range_made
  xrange_is roots args b v w y e d =
      let made : Row S (Got Value) = made_row Range (range_values b) in
      let r : Run u (xrange_row {S = S} (Some b)) v (Is y) w = subst (λ o. Run u (xrange_row {S = S} o) v (Is y) w) e d
      in
      let s : Run u (cond (is_counted (count_in b)) made (Ret (Raise overflow_fault))) v (Is y) w =
      first_off (int_eq b.step (pos 0)) step_fault
      (cond (is_counted (count_in b)) made (Ret (Raise overflow_fault))) v w y r in
      made_is Range (range_values b) v w y (last_off (is_counted (count_in b)) overflow_fault made v w y s)

  pub ranges_law : RangesLaw u
  ranges_law = record { range = range_is; xrange = xrange_is }
