-- What operators answer, in words of numbers and of lists. States `docs/LANGUAGE.md`, "Arithmetic" and "Operators on
-- sequences".
use Rattle.std.specs.Prelude.{◌≡◌, ℕ, ℤ, ◌+◌, [], ◌++◌, length, Some}
use Rattle.py_base.specs.declared.kind.Kind.{Kind}
use Rattle.py_base.specs.declared.kind.Kind.TheVariants.{Str}
use Rattle.py_data.specs.declared.value.Value.{Value}
use Rattle.py_data.specs.declared.value.Value.TheVariants.{Int, Ref}
use Rattle.py_data.specs.declared.record.Got.TheVariants.{Is}
use Rattle.py_data.specs.Arithmetic.{IsFloorDivision}
use Rattle.py_data.specs.Heap.{Rec, new_rec}
use Rattle.py_data.specs.Sense.{Sense, Run}
use Rattle.obj_ops.specs.declared.operator.Operator.TheVariants.{FloorDivide, Remainder}
use Rattle.obj_ops.specs.Numbers.{calculated}
use Rattle.obj_ops.specs.Sequences.{joined_items, joined_texts}

-- what `//` and `%` answer makes the dividend up again, and the remainder is on the divisor's side of 0
abbrev pub DivisionLaw : Type 0
DivisionLaw = (i j q r : ℤ) → calculated FloorDivide i j ≡ Is (Int q) → calculated Remainder i j ≡ Is (Int r) →
    IsFloorDivision i j q r

-- two sequences are joined to a new record of the items of both, which is as long as both
pub record IsJoined (k : Kind) (r s made : Rec) : Type 0 where
  pub items : made ≡ new_rec k (r.values ++ s.values) []
  pub count : length made.values ≡ length r.values + length s.values

abbrev pub JoinLaw : {S X : Type 0} → Sense S X → Type 0
JoinLaw {S} {X} u =
    (k : Kind) (a b : ℕ) (r s : Rec) (v w : X) (y : Value) → u.heap v a ≡ Some r → u.heap v b ≡ Some s →
    Run u (joined_items k a b) v (Is y) w
    → (c : ℕ) × (made : Rec) × (y ≡ Ref (record { 0 = c })) × (u.heap w c ≡ Some made) × IsJoined k r s made

-- two strings are joined to a new one of the bytes of both, which is as long as both
pub record IsJoinedText (r s made : Rec) : Type 0 where
  pub bytes : made ≡ new_rec Str [] (r.bytes ++ s.bytes)
  pub count : length made.bytes ≡ length r.bytes + length s.bytes

abbrev pub JoinTextsLaw : {S X : Type 0} → Sense S X → Type 0
JoinTextsLaw {S} {X} u =
    (a b : ℕ) (r s : Rec) (v w : X) (y : Value) → u.heap v a ≡ Some r → u.heap v b ≡ Some s →
    Run u (joined_texts a b) v (Is y) w
    → (c : ℕ) × (made : Rec) × (y ≡ Ref (record { 0 = c })) × (u.heap w c ≡ Some made) × IsJoinedText r s made
