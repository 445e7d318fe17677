-- What the builtin functions answer, in words of numbers, of lists and of classes. States `docs/LANGUAGE.md`,
-- "Builtins".
use Rattle.std.specs.Prelude.{◌≡◌, ◌≢◌, ◌≤◌, ◌<◌, ℕ, ℤ, pos, ◌+ℤ◌, true, List, [], ◌∷◌, ◌++◌, length, take, codes, Some}
use Rattle.std.specs.Fmt.{signed_decimal}
use Rattle.std.specs.declared.cmp.Ordering.{Ordering}
use Rattle.std.specs.declared.cmp.Ordering.TheVariants.{Less, Greater as Above}
use Rattle.py_base.specs.Numbers.{builtin_number}
use Rattle.py_base.specs.declared.kind.Kind.TheVariants.{Str, List as ListKind, Class, Instance, Range}
use Rattle.py_data.specs.declared.value.Value.{Value}
use Rattle.py_data.specs.declared.value.Value.TheVariants.{Bool as BoolValue, Int}
use Rattle.py_data.specs.declared.record.Got.{Got}
use Rattle.py_data.specs.declared.record.Got.TheVariants.{Is}
use Rattle.py_data.specs.Closed.{IsItem}
use Rattle.py_data.specs.Comparing.{number_of, order}
use Rattle.py_data.specs.Every.{Every}
use Rattle.py_data.specs.Heap.{Heap, Rec, value_at, new_rec}
use Rattle.py_data.specs.Looking.{Looks}
use Rattle.py_data.specs.Order.{Rules, IsOrdered}
use Rattle.py_data.specs.Range.{range_length, range_item}
use Rattle.py_data.specs.Sense.{Sense, Run}
use Rattle.py_data.specs.Shape.{RefTo}
use Rattle.obj_class.specs.Bases.{ref, MOST_BASES, is_below}
use Rattle.obj_class.specs.Roots.{IsRoots, root_class}
use Rattle.obj_nest.specs.Laws.{IsNumber}
use Rattle.obj_ops.specs.Numbers.{is_narrow}
use Rattle.obj_str.specs.Pieces.{is_blank}
use Rattle.obj_builtins.specs.declared.best.Side.{Side}
use Rattle.obj_builtins.specs.declared.best.Side.TheVariants.{Least, Greatest}
use Rattle.obj_builtins.specs.declared.ranges.Bounds.{Bounds}
use Rattle.obj_builtins.specs.Ranges.{bounds_of, range_values}
use Rattle.obj_builtins.specs.Functions.{function_row}

-- ---- range and xrange

-- a list of the numbers of a range, in their order
pub record IsRangeList (b : Bounds) (made : Rec) : Type 0 where
  pub kind : made.kind ≡ ListKind
  pub count : length made.values ≡ range_length b.start b.stop b.step
  pub item : (k : ℕ) → k < range_length b.start b.stop b.step →
      value_at made.values k ≡ Int (range_item b.start b.step k)

-- where it answers, `range` has made a list of the numbers, and `xrange` a Range of the three numbers
pub record RangesLaw {S X : Type 0} (u : Sense S X) : Type 0 where
  pub range : (roots : ℕ) (args : List Value) (b : Bounds) (v w : X) (y : Value) → bounds_of args ≡ Some b →
      Run u (function_row roots (builtin_number (codes "range")) args) v (Is y) w
      → (c : ℕ) × (made : Rec) × (y ≡ ref c) × (u.heap w c ≡ Some made) × IsRangeList b made
  pub xrange : (roots : ℕ) (args : List Value) (b : Bounds) (v w : X) (y : Value) → bounds_of args ≡ Some b →
      Run u (function_row roots (builtin_number (codes "xrange")) args) v (Is y) w
      → (c : ℕ) × (y ≡ ref c) × (u.heap w c ≡ Some (new_rec Range (range_values b) []))

-- ---- int

abbrev pub IsBlank : ℕ → Type 0
IsBlank b = is_blank b ≡ true

-- of a string that is the text of a number of 64 bits, with blanks round it, `int` is that number
abbrev pub IntLaw : Type 0 → Type 0
IntLaw S =
    (h : Heap) (roots a : ℕ) (r : Rec) (i : ℤ) (front back : List ℕ) → h a ≡ Some r → r.kind ≡ Str → is_narrow i ≡ true
    → Every IsBlank front → Every IsBlank back → r.bytes ≡ front ++ (signed_decimal i ++ back)
    → Looks {S = S} (λ g. g ≡ Is (Int i)) (function_row roots (builtin_number (codes "int")) (ref a ∷ [])) h

-- ---- min and max

-- which order of two makes the first one better
abbrev pub wanted : Side → Ordering
wanted Least = Less
wanted Greatest = Above

abbrev pub IsBetter : Heap → Side → Value → Value → Type 0
IsBetter h side x y = order h x y ≡ Is (wanted side)

-- one of the values: better than each before it, and none behind it is better
pub record IsBest (h : Heap) (side : Side) (vs : List Value) (y : Value) : Type 0 where
  pub front : List Value
  pub back : List Value
  pub is : vs ≡ front ++ y ∷ back
  pub before : Every (λ x. IsBetter h side y x) front
  pub behind : Every (λ x. IsBetter h side x y → ⊥) back

abbrev pub GivesBest : Heap → Side → List Value → Got Value → Type 0
GivesBest h side vs g = (y : Value) × (g ≡ Is y) × IsBest h side vs y

-- of two numbers or more `min` is the first of the least, and `max` the first of the greatest
pub record BestLaw (S : Type 0) (rules : Rules) : Type 0 where
  pub min : (h : Heap) (roots : ℕ) (x y : Value) (zs : List Value) → IsOrdered rules h → Every (IsNumber h) (x ∷ y ∷ zs)
      → Looks {S = S} (GivesBest h Least (x ∷ y ∷ zs)) (function_row roots (builtin_number (codes "min")) (x ∷ y ∷ zs))
      h
  pub max : (h : Heap) (roots : ℕ) (x y : Value) (zs : List Value) → IsOrdered rules h → Every (IsNumber h) (x ∷ y ∷ zs)
      → Looks {S = S} (GivesBest h Greatest (x ∷ y ∷ zs))
      (function_row roots (builtin_number (codes "max")) (x ∷ y ∷ zs)) h

-- ---- sum

-- the values are these numbers
abbrev pub AreNumbers : List Value → List ℤ → Type 0
AreNumbers [] [] = Unit {0}
AreNumbers (x ∷ xs) (i ∷ is) = (number_of x ≡ Some i) × AreNumbers xs is
AreNumbers _ _ = ⊥

abbrev pub total : List ℤ → ℤ
total [] = pos 0
total (i ∷ is) = i +ℤ total is

-- of a list of numbers, of which so many from the front, whatever the count, have a sum that 64 bits hold, `sum` is
-- their sum
abbrev pub SumLaw : Type 0 → Type 0
SumLaw S =
    (h : Heap) (roots a : ℕ) (r : Rec) (is : List ℤ) → h a ≡ Some r → r.kind ≡ ListKind → AreNumbers r.values is →
    ((k : ℕ) → k ≤ length is → is_narrow (total (take k is)) ≡ true)
    → Looks {S = S} (λ g. g ≡ Is (Int (total is))) (function_row roots (builtin_number (codes "sum")) (ref a ∷ [])) h

-- ---- isinstance

pub record InstanceLaw (S : Type 0) (rules : Rules) : Type 0 where
  -- each value is an instance of the class `object`
  pub object : (h : Heap) (roots c : ℕ) (x : Value) → IsOrdered rules h → (r : IsRoots h roots) → IsItem h x →
      RefTo h Class (ref c) → root_class r.list.values (codes "object") ≡ ref c
      → Looks {S = S} (λ g. g ≡ Is (BoolValue true))
      (function_row roots (builtin_number (codes "isinstance")) (x ∷ ref c ∷ [])) h
  -- and of another class an instance is one where its own class is that class or below it
  pub own : (h : Heap) (roots a c : ℕ) (i : Rec) → IsOrdered rules h → (r : IsRoots h roots) → h a ≡ Some i →
      i.kind ≡ Instance → RefTo h Class (ref c) → root_class r.list.values (codes "object") ≢ ref c
      → Looks {S = S} (λ g. g ≡ Is (BoolValue (is_below h c MOST_BASES (value_at i.values 0))))
      (function_row roots (builtin_number (codes "isinstance")) (ref a ∷ ref c ∷ [])) h
