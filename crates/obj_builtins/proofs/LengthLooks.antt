-- To ask for a length takes looks alone.
use Rattle.std.proofs.Common.{◌≡◌, ℕ, ℤ, pos, ◌/◌, length, Option, Some, None, lit<, refl}
use Rattle.py_base.specs.declared.kind.Kind.{Kind}
use Rattle.py_base.specs.declared.kind.Kind.TheVariants.{Str, Tuple, List as ListKind, Dict, Range}
use Rattle.py_data.specs.declared.value.Value.{Value}
use Rattle.py_data.specs.declared.value.Value.TheVariants.{Unset, None as NoneValue, Bool as BoolValue, Int, Ref, Builtin}
use Rattle.py_data.specs.declared.record.Got.{Got}
use Rattle.py_data.specs.declared.record.Got.TheVariants.{Is, Raise}
use Rattle.py_data.specs.Answers.{IsAnswer}
use Rattle.py_data.specs.Closed.{IsItem}
use Rattle.py_data.specs.Fault.{argument_fault}
use Rattle.py_data.specs.Heap.{Rec, Heap, value_at}
use Rattle.py_data.specs.Looking.{Looks, kind_row, size_row, look_row}
use Rattle.py_data.specs.Row.{Row, Ret}
use Rattle.py_data.proofs.Looking.{looks_ret, looks_read, looks_then, kind_looks, size_looks, look_looks, some_of}
use Rattle.obj_ops.proofs.NumbersHold.{int_item}
use Rattle.obj_builtins.specs.Lengths.{range_count, counted, step_count, stop_count, numbers_length, byte_count, bytes_length, items_length, pairs_length, length_by, length_at, length_row}

module _ (S : Type 0) (h : Heap) where
  abbrev Told : Row S (Got Value) → Type 0
  Told row = Looks (λ g. IsAnswer g h) row h

  wrong : Told (Ret (Raise argument_fault))
  wrong = looks_ret S (λ g. IsAnswer g h) (Raise argument_fault) h (lit< tt, lit< tt, tt)

  counted_good : (o : Option ℤ) → IsAnswer (counted o) h
  counted_good (Some n) = int_item h n
  counted_good None = (lit< tt, lit< tt, tt)

  module _ (a : ℕ) (r : Rec) (e : h a ≡ Some r) where
    byte_count_looks : Looks {S = S} (λ n. n ≡ length r.bytes) (byte_count a) h
    unfolding byte_count
    byte_count_looks = looks_read (λ n. n ≡ length r.bytes) a (λ r. Ret (length r.bytes)) h r e
        (looks_ret S (λ n. n ≡ length r.bytes) (length r.bytes) h refl)

    bytes_told : Told (bytes_length a)
    unfolding bytes_length
    bytes_told = looks_then (λ n. n ≡ length r.bytes) (λ g. IsAnswer g h) (byte_count a) (λ n. Ret (Is (Int (pos n))))
        h byte_count_looks (λ n q. looks_ret S (λ g. IsAnswer g h) (Is (Int (pos n))) h (int_item h (pos n)))

    items_told : Told (items_length a)
    unfolding items_length
    items_told = looks_then (λ n. n ≡ length r.values) (λ g. IsAnswer g h) (size_row a) (λ n. Ret (Is (Int (pos n)))) h
        (size_looks S h a r e) (λ n q. looks_ret S (λ g. IsAnswer g h) (Is (Int (pos n))) h (int_item h (pos n)))

    pairs_told : Told (pairs_length a)
    unfolding pairs_length
    pairs_told =
        looks_then (λ n. n ≡ length r.values) (λ g. IsAnswer g h) (size_row a) (λ n. Ret (Is (Int (pos (n / 2))))) h
        (size_looks S h a r e)
        (λ n q. looks_ret S (λ g. IsAnswer g h) (Is (Int (pos (n / 2)))) h (int_item h (pos (n / 2))))

    step_told : (start stop : Value) → Told (step_count a start stop)
    unfolding step_count
    step_told start stop =
        looks_then (λ x. x ≡ value_at r.values 2) (λ g. IsAnswer g h) (look_row a 2)
        (λ step. Ret (counted (range_count start stop step))) h (look_looks S h a r e 2)
        (λ x q. looks_ret S (λ g. IsAnswer g h) (counted (range_count start stop x)) h
        (counted_good (range_count start stop x)))

    stop_told : (start : Value) → Told (stop_count a start)
    unfolding stop_count
    stop_told start = looks_then (λ x. x ≡ value_at r.values 1) (λ g. IsAnswer g h) (look_row a 1)
        (λ stop. step_count a start stop) h (look_looks S h a r e 1) (λ x q. step_told start x)

    numbers_told : Told (numbers_length a)
    unfolding numbers_length
    numbers_told = looks_then (λ x. x ≡ value_at r.values 0) (λ g. IsAnswer g h) (look_row a 0)
        (λ start. stop_count a start) h (look_looks S h a r e 0) (λ x q. stop_told x)

    kind_told : (k : Kind) → Told (length_by a k)
    unfolding length_by
    kind_told Str = bytes_told
    kind_told Tuple = items_told
    kind_told ListKind = items_told
    kind_told Dict = pairs_told
    kind_told Range = numbers_told
    kind_told _ = wrong

    at_told : Told (length_at a)
    unfolding length_at
    at_told = looks_then (λ k. k ≡ r.kind) (λ g. IsAnswer g h) (kind_row a) (λ k. length_by a k) h
        (kind_looks S h a r e) (λ k q. kind_told k)

  pub length_told : (x : Value) → IsItem h x → Told (length_row x)
  unfolding length_row
  length_told (Ref a) i = let r = some_of (h a.0) i.0 in at_told a.0 r.0 r.1
  length_told Unset i = wrong
  length_told NoneValue i = wrong
  length_told (BoolValue b) i = wrong
  length_told (Int n) i = wrong
  length_told (Builtin b) i = wrong
