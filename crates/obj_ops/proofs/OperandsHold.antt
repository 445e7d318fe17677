-- What operands and cases are over a heap.
use Rattle.std.proofs.Common.{◌≡◌, ℤ, Bool, true, false, Option, Some, None, refl, sym, subst}
use Rattle.std.specs.Prelude.{IfSome, is_some}
use Rattle.py_data.specs.declared.value.Addr.{Addr}
use Rattle.py_data.specs.declared.value.Value.{Value}
use Rattle.py_data.specs.declared.value.Value.TheVariants.{Unset, None as NoneValue, Bool as BoolValue, Int, Ref, Builtin}
use Rattle.py_base.specs.declared.kind.Kind.{Kind}
use Rattle.py_base.specs.declared.kind.Kind.TheVariants.{Str, Tuple, List as ListKind}
use Rattle.py_data.specs.Heap.{Rec, Heap}
use Rattle.py_data.specs.Shape.{KindIn}
use Rattle.py_data.specs.Closed.{IsItem}
use Rattle.py_data.specs.Answers.{IsSequenceKind}
use Rattle.py_data.specs.Order.{Rules, Extends}
use Rattle.py_data.specs.Holds.{Holds}
use Rattle.py_data.specs.Row.{Ret}
use Rattle.py_data.proofs.Keep.{kind_stays}
use Rattle.py_data.proofs.Holding.{holds_ret}
use Rattle.py_data.proofs.HoldingCalls.{holds_read}
use Rattle.obj_ops.specs.declared.operator.Operator.{Operator}
use Rattle.obj_ops.specs.declared.operator.Operator.TheVariants.{Add, Multiply, Remainder}
use Rattle.obj_ops.specs.declared.operand.Operand.{Operand}
use Rattle.obj_ops.specs.declared.operand.Operand.TheVariants.{Whole, Truth, Text, Sequence, Other}
use Rattle.obj_ops.specs.declared.operand.Case.{Case}
use Rattle.obj_ops.specs.declared.operand.Case.TheVariants.{Join, JoinTexts, Repeat, RepeatText, Format}
use Rattle.obj_ops.specs.Operands.{operand_of, operand_row, number_of, truth_of, tuple_of, list_of, both_numbers, both_truths, numbers_case, repeat_case, repeat_text_case, join_case, join_with, join_text_with, times_case, case_of}

-- a sequence of that kind stands at an address; a string does
abbrev pub IsAt : Heap → Kind → Addr → Type 0
IsAt h k a = IsSequenceKind k × KindIn (h a.0) (λ q. q ≡ k)

abbrev pub IsText : Heap → Addr → Type 0
IsText h a = KindIn (h a.0) (λ q. q ≡ Str)

unfoldable pub IsOperand : Operand → Heap → Type 0
IsOperand (Sequence k a) h = IsAt h k a
IsOperand (Text a) h = IsText h a
IsOperand _ h = Unit {0}

unfoldable pub IsCase : Heap → Case → Type 0
IsCase h (Join k a b) = IsAt h k a × IsAt h k b
IsCase h (JoinTexts a b) = IsText h a × IsText h b
IsCase h (Repeat k a n) = IsAt h k a
IsCase h (RepeatText a n) = IsText h a
IsCase h (Format a b) = IsText h a × IfSome b (IsAt h Tuple)
IsCase h _ = Unit {0}

-- ---- operands
operand_good : (h : Heap) (k : Kind) (a : Addr) → KindIn (h a.0) (λ q. q ≡ k) → IsOperand (operand_of k a) h
unfolding IsOperand
operand_good h Str a i = i
operand_good h Tuple a i = (tt, i)
operand_good h ListKind a i = (tt, i)
operand_good h k a i = tt

pub operand_stays : (h h1 : Heap) → Extends h h1 → (p : Operand) → IsOperand p h → IsOperand p h1
unfolding IsOperand
operand_stays h h1 x (Sequence k a) i = (i.0, kind_stays h h1 x a.0 (λ z. z ≡ k) i.1)
operand_stays h h1 x (Text a) i = kind_stays h h1 x a.0 (λ z. z ≡ Str) i
operand_stays h h1 x (Whole n) i = tt
operand_stays h h1 x (Truth b) i = tt
operand_stays h h1 x Other i = tt

-- a record that is there
pub some_rec : (o : Option Rec) → is_some o ≡ true → (r : Rec) × (o ≡ Some r)
some_rec None i = absurd (let z : false ≡ true = i in cc)
some_rec (Some r) i = (r, refl)

pub kind_here : (o : Option Rec) (r : Rec) → o ≡ Some r → KindIn o (λ z. z ≡ r.kind)
kind_here o r e = subst (λ z. KindIn z (λ q. q ≡ r.kind)) (sym e) refl

pub operand_holds : {S : Type 0} (rules : Rules) (stands : Heap → S → Type 0) (x : Value) (h : Heap) → IsItem h x →
    Holds rules stands IsOperand (operand_row x) h
unfolding operand_row IsOperand
operand_holds rules stands (Ref a) h i =
    let r = some_rec (h a.0) i.0 in
    holds_read rules stands IsOperand a.0 (λ r. Ret (operand_of r.kind a)) h r.0 r.1
    (holds_ret rules stands IsOperand (operand_of r.0.kind a) h
    (operand_good h r.0.kind a (kind_here (h a.0) r.0 r.1)))
operand_holds rules stands Unset h i = holds_ret rules stands IsOperand Other h tt
operand_holds rules stands NoneValue h i = holds_ret rules stands IsOperand Other h tt
operand_holds rules stands (BoolValue b) h i = holds_ret rules stands IsOperand (Truth b) h tt
operand_holds rules stands (Int n) h i = holds_ret rules stands IsOperand (Whole n) h tt
operand_holds rules stands (Builtin b) h i = holds_ret rules stands IsOperand Other h tt

-- ---- cases
module _ (h : Heap) where
  truths_good : (p q : Option Bool) (c : Case) → IsCase h c → IsCase h (both_truths p q c)
  unfolding IsCase
  truths_good (Some b) (Some d) c i = tt
  truths_good None q c i = i
  truths_good (Some b) None c i = i

  both_good : (p q : Option ℤ) → IsCase h (both_numbers p q)
  unfolding IsCase
  both_good (Some i) (Some j) = tt
  both_good None q = tt
  both_good (Some i) None = tt

  numbers_good : (p q : Operand) → IsCase h (numbers_case p q)
  numbers_good p q = truths_good (truth_of p) (truth_of q) (both_numbers (number_of p) (number_of q))
      (both_good (number_of p) (number_of q))

  repeat_good : (k : Kind) (a : Addr) (n : Option ℤ) → IsAt h k a → IsCase h (repeat_case k a n)
  unfolding IsCase
  repeat_good k a (Some n) i = i
  repeat_good k a None i = tt

  repeat_text_good : (a : Addr) (n : Option ℤ) → IsText h a → IsCase h (repeat_text_case a n)
  unfolding IsCase
  repeat_text_good a (Some n) i = i
  repeat_text_good a None i = tt

  join_good : (k l : Kind) (a b : Addr) → IsAt h k a → IsAt h l b → IsCase h (join_case k l a b)
  unfolding IsCase
  join_good Tuple Tuple a b i j = (i, j)
  join_good ListKind ListKind a b i j = (i, j)
  join_good k l a b i j = tt

  join_with_good : (k : Kind) (a : Addr) (q : Operand) → IsAt h k a → IsOperand q h → IsCase h (join_with k a q)
  unfolding IsCase IsOperand
  join_with_good k a (Sequence l b) i j = join_good k l a b i j
  join_with_good k a q i j = tt

  join_text_good : (a : Addr) (q : Operand) → IsText h a → IsOperand q h → IsCase h (join_text_with a q)
  unfolding IsCase IsOperand
  join_text_good a (Text b) i j = (i, j)
  join_text_good a q i j = tt

  times_good : (p q : Operand) → IsOperand q h → IsCase h (times_case p q)
  unfolding IsOperand
  times_good p (Text b) j = repeat_text_good b (number_of p) j
  times_good p (Sequence l b) j = repeat_good l b (number_of p) j
  times_good p q j = numbers_good p q

  tuple_good : (q : Operand) → IsOperand q h → IfSome (tuple_of q) (IsAt h Tuple)
  unfolding IsOperand
  tuple_good (Sequence Tuple a) j = j
  tuple_good q j = tt

  pub list_good : (q : Operand) → IsOperand q h → IfSome (list_of q) (IsAt h ListKind)
  unfolding IsOperand
  list_good (Sequence ListKind a) j = j
  list_good q j = tt

  pub case_good : (op : Operator) (p q : Operand) → IsOperand p h → IsOperand q h → IsCase h (case_of op p q)
  unfolding IsOperand IsCase
  case_good Add (Text a) q i j = join_text_good a q i j
  case_good Add (Sequence k a) q i j = join_with_good k a q i j
  case_good Add p q i j = numbers_good p q
  case_good Multiply (Text a) q i j = repeat_text_good a (number_of q) i
  case_good Multiply (Sequence k a) q i j = repeat_good k a (number_of q) i
  case_good Multiply p q i j = times_good p q j
  case_good Remainder (Text a) q i j = (i, tuple_good q j)
  case_good Remainder p q i j = numbers_good p q
  case_good op p q i j = numbers_good p q
