-- A value is told by its two words, and a header's first word by its parts.
use Rattle.std.proofs.Common.{◌≡◌, ℕ, suc, ◌-◌, ◌^◌, ◌<◌, ◌≤◌, true, false, ℤ, pos, negsuc, refl, ap, inl, inr, arith, FitsSigned, w64, to_z, of_z}
use Rattle.std.proofs.Math.Nat.{mod-eq_of_lt}
use Rattle.std.proofs.lemmas.Bool.Decides.{leb_tells}
use Rattle.py_base.specs.declared.kind.Kind.{Kind}
use Rattle.py_base.specs.declared.kind.Kind.TheVariants.{Str, Tuple, List as ListKind, Dict, Cell, Function, Class, Instance, Method, Iter, Range, Lock, Thread}
use Rattle.py_data.specs.declared.value.Value.{Value}
use Rattle.py_data.specs.declared.value.Value.TheVariants.{Unset, None as NoneValue, Bool as BoolValue, Int, Ref, Builtin}
use Rattle.paged_store.specs.Words.{signed, unsigned, value_of, tag_of, payload_of, kind_at, kind_number}
use Rattle.paged_store.specs.inner.Formed.{FitsValue}

-- ---- whole numbers

-- a number in two's complement is read as std reads it
pub signed_is : (n : ℕ) → signed n ≡ to_z w64 n
unfolding signed
signed_is n = elim (leb_tells (suc n) (2 ^ 63)) [
  | inl e ↦ rw e.0 refl
  | inr e ↦ rw e.0 (ap negsuc (omega arith))
]

pub unsigned_is : (i : ℤ) → unsigned i ≡ of_z w64 i
unfolding unsigned
unsigned_is (pos n) = refl
unsigned_is (negsuc n) = omega arith

pub signed_back : (i : ℤ) → FitsSigned w64 i → signed (unsigned i) ≡ i
unfolding signed unsigned
signed_back (pos n) f = let l : n < 2 ^ 63 = f.sfits in elim (leb_tells (suc n) (2 ^ 63)) [
  | inl e ↦ rw e.0 refl
  | inr e ↦ absurd (omega arith)
]
signed_back (negsuc n) f = let l : n < 2 ^ 63 = f.sfits in elim (leb_tells (suc (2 ^ 64 - 1 - n)) (2 ^ 63)) [
  | inl e ↦ absurd (omega arith)
  | inr e ↦ rw e.0 (ap negsuc (omega arith))
]

pub unsigned_below : (i : ℤ) → FitsSigned w64 i → unsigned i < 2 ^ 64
unfolding unsigned
unsigned_below (pos n) f = let l : n < 2 ^ 63 = f.sfits in omega arith
unsigned_below (negsuc n) f = omega arith

-- ---- values

pub value_back : (v : Value) → FitsValue v → value_of (tag_of v) (payload_of v) ≡ v
unfolding value_of
value_back Unset f = refl
value_back NoneValue f = refl
value_back (BoolValue true) f = refl
value_back (BoolValue false) f = refl
value_back (Int i) f = ap Int (signed_back i f)
value_back (Ref a) f = ap {B = Value} (λ n. Ref (record { 0 = n })) (mod-eq_of_lt f)
value_back (Builtin n) f = ap Builtin (mod-eq_of_lt f)

pub tag_below : (v : Value) → tag_of v < 2 ^ 64
tag_below Unset = omega arith
tag_below NoneValue = omega arith
tag_below (BoolValue b) = omega arith
tag_below (Int i) = omega arith
tag_below (Ref a) = omega arith
tag_below (Builtin n) = omega arith

pub payload_below : (v : Value) → FitsValue v → payload_of v < 2 ^ 64
payload_below Unset f = omega arith
payload_below NoneValue f = omega arith
payload_below (BoolValue true) f = omega arith
payload_below (BoolValue false) f = omega arith
payload_below (Int i) f = unsigned_below i f
payload_below (Ref a) f = omega arith
payload_below (Builtin n) f = omega arith

-- ---- kinds

pub kind_back : (k : Kind) → kind_at (kind_number k) ≡ k
unfolding kind_at
kind_back Str = refl
kind_back Tuple = refl
kind_back ListKind = refl
kind_back Dict = refl
kind_back Cell = refl
kind_back Function = refl
kind_back Class = refl
kind_back Instance = refl
kind_back Method = refl
kind_back Iter = refl
kind_back Range = refl
kind_back Lock = refl
kind_back Thread = refl

pub kind_number_bounds : (k : Kind) → (1 ≤ kind_number k) × (kind_number k ≤ 13)
kind_number_bounds Str = (omega arith, omega arith)
kind_number_bounds Tuple = (omega arith, omega arith)
kind_number_bounds ListKind = (omega arith, omega arith)
kind_number_bounds Dict = (omega arith, omega arith)
kind_number_bounds Cell = (omega arith, omega arith)
kind_number_bounds Function = (omega arith, omega arith)
kind_number_bounds Class = (omega arith, omega arith)
kind_number_bounds Instance = (omega arith, omega arith)
kind_number_bounds Method = (omega arith, omega arith)
kind_number_bounds Iter = (omega arith, omega arith)
kind_number_bounds Range = (omega arith, omega arith)
kind_number_bounds Lock = (omega arith, omega arith)
kind_number_bounds Thread = (omega arith, omega arith)
