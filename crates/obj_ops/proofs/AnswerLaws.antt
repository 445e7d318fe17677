-- What operators answer, in words of numbers and of lists.
use Rattle.std.proofs.Common.{◌≡◌, ◌≢◌, ℕ, ℤ, pos, ◌+◌, Bool, true, false, cond, leb, [], ◌++◌, length, Some, refl, sym, ap, subst, ◌∙◌, length-append}
use Rattle.std.specs.Ordering.{int_eq}
use Rattle.py_base.specs.declared.kind.Kind.TheVariants.{Str}
use Rattle.py_data.specs.declared.value.Value.{Value}
use Rattle.py_data.specs.declared.value.Value.TheVariants.{Int, Ref}
use Rattle.py_data.specs.declared.record.Got.{Got}
use Rattle.py_data.specs.declared.record.Got.TheVariants.{Is, Raise}
use Rattle.py_data.specs.declared.record.TheConstants.{LENGTH_LIMIT}
use Rattle.py_data.specs.Arithmetic.{floor_quotient, floor_remainder, IsFloorDivision}
use Rattle.py_data.specs.Fault.{memory_fault}
use Rattle.py_data.specs.Heap.{Rec, new_rec}
use Rattle.py_data.specs.Row.{Row, Ret, Do, Read, Make, bind}
use Rattle.py_data.specs.Sense.{Sense, Lawful, Run}
use Rattle.py_data.specs.Looking.{bytes_row}
use Rattle.py_data.proofs.FloorDivision.{divides}
use Rattle.py_data.proofs.Same.{one_rec}
use Rattle.py_data.proofs.Steps.{put_here}
use Rattle.obj_str.specs.Strings.{new_text}
use Rattle.obj_ops.specs.Numbers.{is_narrow, narrowed, divided, calculated, zero_fault, overflow_fault}
use Rattle.obj_ops.specs.Sequences.{values_row, made_row, new_items, joined_with, joined_items, joined_text_with, joined_texts}
use Rattle.obj_ops.specs.Laws.{DivisionLaw, JoinLaw, JoinTextsLaw}

-- ---- numbers
narrow_is : (z q : ℤ) → narrowed z ≡ Is (Int q) → z ≡ q
unfolding narrowed
narrow_is z q e = by (is_narrow z) e
  where
    by : (b : Bool) → cond b (Is (Int z)) (Raise overflow_fault) ≡ Is (Int q) → z ≡ q
    by true f = cc
    by false f = absurd cc

same_zero : (j : ℤ) → j ≡ pos 0 → int_eq j (pos 0) ≡ true
same_zero j e = ap (λ z. int_eq z (pos 0)) e

quotient_is : (f : ℤ → ℤ → ℤ) (i j q : ℤ) → divided f i j ≡ Is (Int q) → (j ≢ pos 0) × (f i j ≡ q)
unfolding divided
quotient_is f i j q e = by (int_eq j (pos 0)) refl e
  where
    by : (b : Bool) → int_eq j (pos 0) ≡ b → cond b (Raise zero_fault) (narrowed (f i j)) ≡ Is (Int q) →
        (j ≢ pos 0) × (f i j ≡ q)
    by true t g = absurd cc
    by false t g = (λ z. let w : true ≡ false = sym (same_zero j z) ∙ t in cc, narrow_is (f i j) q g)

pub division_law : DivisionLaw
unfolding calculated
division_law i j q r e f =
    let a = quotient_is floor_quotient i j q e in
    let b = quotient_is floor_remainder i j r f in
    subst (λ z. IsFloorDivision i j z r) a.1
    (subst (λ z. IsFloorDivision i j (floor_quotient i j) z) b.1 (divides i j a.0))

-- ---- sequences
module _ {S X : Type 0} (u : Sense S X) (L : Lawful u) where
  -- a new record, and a reference to it
  abbrev fresh : Rec → Row S (Got Value)
  fresh q = Do (Make q) (λ a. Ret (Is (Ref (record { 0 = a }))))

  made_is : (q : Rec) (n w : X) (y : Value) (b : Bool) → Run u (cond b (fresh q) (Ret (Raise memory_fault))) n (Is y) w
      → (c : ℕ) × (y ≡ Ref (record { 0 = c })) × (u.heap w c ≡ Some q)
  unfolding Run
  made_is q n w y true d =
      let f = L.effect (Make q) n d.0 d.1 d.2 in
      let e : Is y ≡ Is (Ref (record { 0 = d.0 })) = d.3.0 in
      (d.0, cc, ap (λ h. h d.0) (ap u.heap d.3.1 ∙ f.1) ∙ put_here (u.heap n) d.0 q)
  made_is q n w y false d = absurd (let e : Is y ≡ Raise memory_fault = d.0 in cc)

  pub join_law : JoinLaw u
  unfolding Run joined_items joined_with values_row bind new_items made_row
  join_law k a b r s v w y e f d =
      let one = L.effect (Read a) v d.0 d.1 d.2 in
      let g = d.3 in
      let two = L.effect (Read b) d.1 g.0 g.1 g.2 in
      let left : d.0 ≡ r = sym (one_rec (u.heap v a) d.0 r one.0 e) in
      let right : g.0 ≡ s = sym (one_rec (u.heap d.1 b) g.0 s two.0 (ap (λ h. h b) one.1 ∙ f)) in
      let vs = d.0.values ++ g.0.values in
      let m = made_is (new_rec k vs []) g.1 w y (leb (length d.0.values + length g.0.values) LENGTH_LIMIT) g.3 in
      let same : vs ≡ r.values ++ s.values = ap (λ z. z.values ++ g.0.values) left ∙
      ap (λ z. r.values ++ z.values) right in (
        m.0,
        new_rec k (r.values ++ s.values) [],
        m.1,
        m.2 ∙ ap (λ z. Some (new_rec k z [])) same,
        record { items = refl; count = length-append r.values s.values },
      )

  pub join_texts_law : JoinTextsLaw u
  unfolding Run joined_texts joined_text_with bytes_row bind new_text
  join_texts_law a b r s v w y e f d =
      let one = L.effect (Read a) v d.0 d.1 d.2 in
      let g = d.3 in
      let two = L.effect (Read b) d.1 g.0 g.1 g.2 in
      let left : d.0 ≡ r = sym (one_rec (u.heap v a) d.0 r one.0 e) in
      let right : g.0 ≡ s = sym (one_rec (u.heap d.1 b) g.0 s two.0 (ap (λ h. h b) one.1 ∙ f)) in
      let bs = d.0.bytes ++ g.0.bytes in
      let m = made_is (new_rec Str [] bs) g.1 w y (leb (length bs) LENGTH_LIMIT) g.3 in
      let same : bs ≡ r.bytes ++ s.bytes = ap (λ z. z.bytes ++ g.0.bytes) left ∙ ap (λ z. r.bytes ++ z.bytes) right in (
        m.0,
        new_rec Str [] (r.bytes ++ s.bytes),
        m.1,
        m.2 ∙ ap (λ z. Some (new_rec Str [] z)) same,
        record { bytes = refl; count = length-append r.bytes s.bytes },
      )
