-- Over each heap in order each builtin function holds.
use Rattle.std.proofs.Common.{arith, ◌≡◌, ◌≢◌, ℕ, zero, suc, ℤ, pos, neg_ℤ, ◌+◌, ◌≤◌, ◌==◌, Bool, true, false, cond, leb, List, [], ◌∷◌, length, Option, Some, None, refl, sym, ap, ◌∙◌, lit<, length-append}
use Rattle.std.specs.Prelude.{IfSome, int_lt}
use Rattle.std.specs.Ordering.{int_eq}
use Rattle.std.proofs.lemmas.Bool.{leb-true}
use Rattle.py_base.specs.declared.kind.Kind.{Kind}
use Rattle.py_base.specs.declared.kind.Kind.TheVariants.{Str, Tuple, List as ListKind, Dict, Cell, Function, Class, Range}
use Rattle.py_data.specs.declared.value.Value.{Value}
use Rattle.py_data.specs.declared.value.Value.TheVariants.{Bool as BoolValue, Int, Ref}
use Rattle.py_data.specs.declared.record.Fault.{Fault}
use Rattle.py_data.specs.declared.record.Got.{Got}
use Rattle.py_data.specs.declared.record.Got.TheVariants.{Is, Raise}
use Rattle.py_data.specs.declared.record.TheConstants.{LENGTH_LIMIT}
use Rattle.py_data.specs.Answers.{IsGot, IsFault, IsAnswer, IsSequenceKind}
use Rattle.py_data.specs.Closed.{IsItem}
use Rattle.py_data.specs.Comparing.{number_of}
use Rattle.py_data.specs.Every.{Every}
use Rattle.py_data.specs.Fault.{memory_fault, operand_fault, argument_fault}
use Rattle.py_data.specs.Heap.{Heap, new_rec, value_at}
use Rattle.py_data.specs.Holds.{Holds}
use Rattle.py_data.specs.Looking.{bytes_row, each_row, got_row}
use Rattle.py_data.specs.Order.{Rules, FitsAt, IsOrdered}
use Rattle.py_data.specs.Range.{range_item}
use Rattle.py_data.specs.Row.{Row, Ret, bind}
use Rattle.py_data.specs.Shape.{KindIn, bit}
use Rattle.py_data.specs.Texts.{got_then}
use Rattle.py_data.specs.Truth.{truth}
use Rattle.py_data.proofs.EveryLemmas.{every_and}
use Rattle.py_data.proofs.Holding.{holds_ret, holds_bind}
use Rattle.py_data.proofs.HoldingCalls.{holds_make, holds_looks}
use Rattle.py_data.proofs.ItemLemmas.{item_at, items_stay}
use Rattle.py_data.proofs.Looking.{looks_ret, looks_then, bytes_looks}
use Rattle.py_data.proofs.Making.{made_fits, sequence_fits}
use Rattle.obj_seq.specs.Gather.{gather_row, numbers}
use Rattle.obj_seq.specs.HoldsLaws.{AreItems}
use Rattle.obj_seq.proofs.HoldingGather.{gather_holds}
use Rattle.obj_str.specs.Methods.{only, both}
use Rattle.obj_str.specs.Pieces.{strip}
use Rattle.obj_str.specs.Strings.{new_text}
use Rattle.obj_str.proofs.StrHolds.{new_text_holds}
use Rattle.obj_nest.specs.Ordering.{order_row}
use Rattle.obj_nest.specs.Truth.{truth_row}
use Rattle.obj_nest.proofs.NestLooks.{truth_looks}
use Rattle.obj_ops.specs.Format.{number_in}
use Rattle.obj_ops.specs.Numbers.{is_narrow, narrowed, overflow_fault}
use Rattle.obj_ops.specs.Sequences.{made_row, new_items}
use Rattle.obj_ops.proofs.Nested.{order_looks}
use Rattle.obj_ops.proofs.NumbersHold.{int_item, bool_item}
use Rattle.obj_class.specs.Roots.{IsRoots}
use Rattle.obj_class.specs.Telling.{told_row}
use Rattle.obj_class.proofs.Parts.{is_at}
use Rattle.obj_methods.specs.Sorting.{sorted_row}
use Rattle.obj_builtins.specs.declared.arguments.Few.{Few}
use Rattle.obj_builtins.specs.declared.arguments.Few.TheVariants.{Nothing, One, Many}
use Rattle.obj_builtins.specs.declared.arguments.Form.{Form}
use Rattle.obj_builtins.specs.declared.arguments.Form.TheVariants.{Number, Truth, Text, Items}
use Rattle.obj_builtins.specs.declared.best.Side.{Side}
use Rattle.obj_builtins.specs.declared.best.Side.TheVariants.{Least, Greatest}
use Rattle.obj_builtins.specs.declared.ranges.Bounds.{Bounds}
use Rattle.obj_builtins.specs.Arguments.{few, form_row}
use Rattle.obj_builtins.specs.Lengths.{is_counted, length_row, len_row}
use Rattle.obj_builtins.specs.Ranges.{step_fault, bounds_of, count_in, numbers_made, numbers_within, range_row, range_values, range_made, range_within, xrange_row}
use Rattle.obj_builtins.specs.Literals.{literal_fault, is_numeral, value_after, with_sign, signed_number, stripped_number, text_number}
use Rattle.obj_builtins.specs.Numbers.{read_row, int_of, int_alone, int_row, bool_alone, bool_row, absolute, absolute_in, abs_row, byte_fault, byte_of, letter_row, letter_of, chr_row}
use Rattle.obj_builtins.specs.Texts.{written_row, str_of, str_alone, str_row, repr_row, byte_value, byte_row, ord_of, ord_alone, ord_row}
use Rattle.obj_builtins.specs.Gathering.{items_made, gathered_row, list_row, tuple_of, tuple_alone, tuple_row, dict_row, sorted_items, sorted_alone, sorted_by}
use Rattle.obj_builtins.specs.Kinds.{isinstance_row}
use Rattle.obj_builtins.specs.Best.{sequence_fault, is_better, better, better_row, best_from, best_of, best_in, best_by, best_row}
use Rattle.obj_builtins.specs.Sums.{held, added, summed, sum_value, sum_items, sum_alone, sum_row}
use Rattle.obj_builtins.specs.Functions.{function_row}
use Rattle.obj_builtins.specs.HoldsLaws.{FunctionsHold}
use Rattle.obj_builtins.proofs.EachFunction.{Each, each_function}
use Rattle.obj_builtins.proofs.FormLooks.{IsForm, form_looks, answer_holds}
use Rattle.obj_builtins.proofs.LengthLooks.{length_told}
use Rattle.obj_builtins.proofs.KindLooks.{isinstance_tells}
use Rattle.obj_builtins.proofs.Told.{IsAny, AreSoMany, told_looks, sorted_holds}

-- ---- lists of items
numbers_items : (h : Heap) (start step : ℤ) (n : ℕ) → Every (IsItem h) (numbers start step n)
numbers_items h start step zero = tt
numbers_items h start step (suc n) = every_and (IsItem h) (numbers start step n) (Int (range_item start step n) ∷ [])
    (numbers_items h start step n) (int_item h (range_item start step n), tt)

pub numbers_count : (start step : ℤ) (n : ℕ) → length (numbers start step n) ≡ n
numbers_count start step zero = refl
numbers_count start step (suc n) = omega
    (arith, length-append (numbers start step n) (Int (range_item start step n) ∷ []), numbers_count start step n)

pub not_zero : (z : ℤ) → int_eq z (pos 0) ≡ false → z ≢ pos 0
not_zero z e q = let t : int_eq z (pos 0) ≡ true = ap (λ y. int_eq y (pos 0)) q in let f : true ≡ false = sym t ∙ e in
    cc

only_good : (h : Heap) (args : List Value) → Every (IsItem h) args → IfSome (only args) (IsItem h)
only_good h [] i = tt
only_good h (x ∷ []) i = i.0
only_good h (x ∷ y ∷ zs) i = tt

both_good : (h : Heap) (args : List Value) → Every (IsItem h) args →
    IfSome (both args) (λ p. IsItem h p.0 × IsItem h p.1)
both_good h [] i = tt
both_good h (x ∷ []) i = tt
both_good h (x ∷ y ∷ []) i = (i.0, i.1.0)
both_good h (x ∷ y ∷ z ∷ zs) i = tt

-- one argument is an item
IsFew : Heap → Few → Type 0
IsFew h (One x) = IsItem h x
IsFew h _ = Unit {0}

few_good : (h : Heap) (args : List Value) → Every (IsItem h) args → IsFew h (few args)
unfolding IsFew
few_good h [] i = tt
few_good h (x ∷ []) i = i.0
few_good h (x ∷ y ∷ zs) i = tt

-- ---- answers that take no look
module _ (h : Heap) where
  narrowed_good : (z : ℤ) → IsAnswer (narrowed z) h
  unfolding narrowed
  narrowed_good z = by (is_narrow z)
    where
      by : (b : Bool) → IsAnswer (cond b (Is (Int z)) (Raise overflow_fault)) h
      by true = int_item h z
      by false = (lit< tt, lit< tt, tt)

  signed_good : (text : List ℕ) (negative : Bool) (ds : List ℕ) → IsAnswer (signed_number text negative ds) h
  unfolding signed_number
  signed_good text negative ds = by (is_numeral ds)
    where
      by : (b : Bool) → IsAnswer (cond b (narrowed (with_sign negative (value_after 0 ds)))
          (Raise (literal_fault text))) h
      by true = narrowed_good (with_sign negative (value_after 0 ds))
      by false = (lit< tt, lit< tt, tt)

  cond_good : (b : Bool) (x y : Got Value) → IsAnswer x h → IsAnswer y h → IsAnswer (cond b x y) h
  cond_good true x y i j = i
  cond_good false x y i j = j

  stripped_good : (text bs : List ℕ) → IsAnswer (stripped_number text bs) h
  unfolding stripped_number
  stripped_good text [] = (lit< tt, lit< tt, tt)
  stripped_good text (b ∷ bs) =
      cond_good (b == 45) (signed_number text true bs)
      (cond (b == 43) (signed_number text false bs) (signed_number text false (b ∷ bs))) (signed_good text true bs)
      (cond_good (b == 43) (signed_number text false bs) (signed_number text false (b ∷ bs))
      (signed_good text false bs) (signed_good text false (b ∷ bs)))

  absolute_good : (o : Option ℤ) → IsAnswer (absolute_in o) h
  unfolding absolute_in absolute
  absolute_good (Some i) = narrowed_good (cond (int_lt i (pos 0)) (neg_ℤ i) i)
  absolute_good None = (lit< tt, lit< tt, tt)

  byte_good : (bs : List ℕ) → IsAnswer (byte_value bs) h
  byte_good [] = (lit< tt, lit< tt, tt)
  byte_good (b ∷ []) = int_item h (pos b)
  byte_good (b ∷ c ∷ ds) = (lit< tt, lit< tt, tt)

  held_good : (z : ℤ) → IsGot IsAny (held z) h
  unfolding held
  held_good z = by (is_narrow z)
    where
      by : (b : Bool) → IsGot IsAny (cond b (Is z) (Raise overflow_fault)) h
      by true = tt
      by false = (lit< tt, lit< tt, tt)

  added_good : (n : ℤ) (o : Option ℤ) → IsGot IsAny (added n o) h
  unfolding added
  added_good n (Some i) = held_good _
  added_good n None = (lit< tt, lit< tt, tt)

  summed_good : (n : ℤ) (vs : List Value) → IsGot IsAny (summed n vs) h
  unfolding summed
  summed_good n [] = tt
  summed_good n (x ∷ xs) = by (added n (number_of x)) (added_good n (number_of x)) (λ m. summed_good m xs)
    where
      by : (g : Got ℤ) → IsGot IsAny g h → ((m : ℤ) → IsGot IsAny (summed m xs) h) →
          IsGot IsAny (got_then g (λ m. summed m xs)) h
      by (Is m) i more = more m
      by (Raise e) i more = i

  sum_good : (g : Got ℤ) → IsGot IsAny g h → IsAnswer (got_then g (λ n. Is (Int n))) h
  sum_good (Is n) i = int_item h n
  sum_good (Raise e) i = i

  better_good : (side : Side) (best x : Value) (g : Got _) → IsItem h best → IsItem h x → IsGot IsAny g h →
      IsAnswer (better side best x g) h
  better_good side best x (Is o) i j k = by (is_better side o)
    where
      by : (b : Bool) → IsItem h (cond b x best)
      by true = j
      by false = i
  better_good side best x (Raise e) i j k = k

-- ---- rows
module _ {S : Type 0} (rules : Rules) (stands : Heap → S → Type 0) where
  abbrev Good : Row S (Got Value) → Heap → Type 0
  Good row h = Holds rules stands IsAnswer row h

  raises : (e : Fault) (h : Heap) → IsFault h e → Good (Ret (Raise e)) h
  raises e h i = holds_ret rules stands IsAnswer (Raise e) h i

  wrong : (h : Heap) → Good (Ret (Raise argument_fault)) h
  wrong h = raises argument_fault h (lit< tt, lit< tt, tt)

  answers : (g : Got Value) (h : Heap) → IsAnswer g h → Good (Ret g) h
  answers g h i = holds_ret rules stands IsAnswer g h i

  got_holds : {A : Type 0} (p : A → Heap → Type 0) (f : A → Row S (Got Value)) (g : Got A) (h : Heap) → IsGot p g h →
      ((a : A) → p a h → Good (f a) h) → Good (got_row f g) h
  got_holds p f (Is a) h i n = n a i
  got_holds p f (Raise e) h i n = raises e h i

  cond_holds : (b : Bool) (p q : Row S (Got Value)) (h : Heap) → Good p h → Good q h → Good (cond b p q) h
  cond_holds true p q h s t = s
  cond_holds false p q h s t = t

  -- a form comes first, which takes looks alone
  formed : (x : Value) (f : Form → Row S (Got Value)) (h : Heap) → IsOrdered rules h → IsItem h x →
      ((k : Form) → IsForm h k → Good (f k) h) → Good (bind (form_row x) f) h
  formed x f h order i n = holds_looks rules stands IsAnswer (IsForm h) (form_row x) f h order (form_looks S h x i.0) n

  -- all items of a value come first
  gathers : (x : Value) (f : List Value → Row S (Got Value)) (h : Heap) → IsOrdered rules h → IsItem h x →
      ((vs : List Value) (h1 : Heap) → IsOrdered rules h1 → AreItems vs h1 → Good (f vs) h1) →
      Good (bind (gather_row x) (got_row f)) h
  gathers x f h order i n = holds_bind rules stands (IsGot AreItems) IsAnswer (gather_row x) (got_row f) h order
      (gather_holds rules stands h x order i)
      (λ g h1 order1 y t. got_holds AreItems f g h1 t (λ vs is. n vs h1 order1 is))

  -- ---- new records
  makes : (k : Kind) (vs : List Value) (h : Heap) → ((a : ℕ) → FitsAt rules h a (new_rec k vs [])) →
      Good (made_row k vs) h
  unfolding made_row
  makes k vs h fit = holds_make rules stands IsAnswer (new_rec k vs []) (λ a. Ret (Is (Ref (record { 0 = a })))) h fit
      (λ a h1 order x f item. answers (Is (Ref (record { 0 = a }))) h1 item)

  news : (k : Kind) (n : ℕ) (vs : List Value) (h : Heap) → IsSequenceKind k → Every (IsItem h) vs → length vs ≡ n →
      Good (new_items k n vs) h
  unfolding new_items
  news k n vs h s i l = by (leb n LENGTH_LIMIT) refl
    where
      by : (b : Bool) → leb n LENGTH_LIMIT ≡ b → Good (cond b (made_row k vs) (Ret (Raise memory_fault))) h
      by true e = makes k vs h (λ a. sequence_fits rules h a k vs s i (omega (arith, l, leb-true n LENGTH_LIMIT e)))
      by false e = raises memory_fault h (lit< tt, lit< tt, tt)

  empty_dict : (h : Heap) → Good (made_row Dict []) h
  empty_dict h =
      makes Dict [] h (λ a. made_fits rules h a Dict [] [] (λ e. let q : Dict ≡ Class = e in cc)
      (λ e. let q : Dict ≡ Function = e in cc) (λ e. let q : Dict ≡ Cell = e in cc) tt (tt, tt) refl (omega arith)
      (omega arith))

  -- ---- len
  len_holds : (o : Option Value) (h : Heap) → IfSome o (IsItem h) → Good (len_row o) h
  unfolding len_row
  len_holds (Some x) h i = answer_holds rules stands (length_row x) h (length_told S h x i)
  len_holds None h i = wrong h

  -- ---- range and xrange
  range_holds : (o : Option Bounds) (h : Heap) → Good (range_row o) h
  unfolding range_row numbers_within numbers_made
  range_holds (Some b) h =
      cond_holds (int_eq b.step (pos 0)) (Ret (Raise step_fault))
      (new_items ListKind (count_in b) (numbers b.start b.step (count_in b))) h
      (raises step_fault h (lit< tt, lit< tt, tt))
      (news ListKind (count_in b) (numbers b.start b.step (count_in b)) h tt
      (numbers_items h b.start b.step (count_in b)) (numbers_count b.start b.step (count_in b)))
  range_holds None h = wrong h

  new_range : (b : Bounds) (h : Heap) → b.step ≢ pos 0 → Good (range_made b) h
  unfolding range_made
  new_range b h s = by (is_counted (count_in b)) refl
    where
      by : (t : Bool) → is_counted (count_in b) ≡ t →
          Good (cond t (made_row Range (range_values b)) (Ret (Raise overflow_fault))) h
      by true e =
          makes Range (range_values b) h
          (λ a. made_fits rules h a Range (range_values b) [] (λ e. let q : Range ≡ Class = e in cc)
          (λ e. let q : Range ≡ Function = e in cc) (λ e. let q : Range ≡ Cell = e in cc)
          (int_item h b.start, (int_item h b.stop, (int_item h b.step, tt)))
          (s, leb-true (count_in b) 9_223_372_036_854_775_807 e) refl (omega arith) (omega arith))
      by false e = raises overflow_fault h (lit< tt, lit< tt, tt)

  xrange_holds : (o : Option Bounds) (h : Heap) → Good (xrange_row o) h
  unfolding xrange_row range_within
  xrange_holds (Some b) h = by (int_eq b.step (pos 0)) refl
    where
      by : (t : Bool) → int_eq b.step (pos 0) ≡ t → Good (cond t (Ret (Raise step_fault)) (range_made b)) h
      by true e = raises step_fault h (lit< tt, lit< tt, tt)
      by false e = new_range b h (not_zero b.step e)
  xrange_holds None h = wrong h

  -- ---- int, bool, abs, chr
  read_holds : (a : ℕ) (h : Heap) → KindIn (h a) (λ k. k ≡ Str) → Good (read_row a) h
  unfolding read_row
  read_holds a h i =
      let t = is_at h Str a i in
      answer_holds rules stands (bind (bytes_row a) (λ bs. Ret (text_number bs))) h
      (looks_then (λ bs. bs ≡ t.rec.bytes) (λ g. IsAnswer g h) (bytes_row a) (λ bs. Ret (text_number bs)) h
      (bytes_looks S h a t.rec t.here)
      (λ bs e. looks_ret S (λ g. IsAnswer g h) (text_number bs) h (stripped_good h bs (strip bs))))

  int_of_holds : (f : Form) (h : Heap) → IsForm h f → Good (int_of f) h
  unfolding int_of IsForm
  int_of_holds (Number n) h i = answers (Is (Int n)) h (int_item h n)
  int_of_holds (Truth b) h i = answers (Is (Int (bit b))) h (int_item h (bit b))
  int_of_holds (Text a) h i = read_holds a.0 h i
  int_of_holds f h i = wrong h

  int_holds : (args : Few) (h : Heap) → IsOrdered rules h → IsFew h args → Good (int_row args) h
  unfolding int_row int_alone IsFew
  int_holds Nothing h order i = answers (Is (Int (pos 0))) h (int_item h (pos 0))
  int_holds (One x) h order i = formed x (λ f. int_of f) h order i (λ k t. int_of_holds k h t)
  int_holds Many h order i = wrong h

  bool_holds : (args : Few) (h : Heap) → IsOrdered rules h → IsFew h args → Good (bool_row args) h
  unfolding bool_row bool_alone IsFew
  bool_holds Nothing h order i = answers (Is (BoolValue false)) h (bool_item h false)
  bool_holds (One x) h order i =
      holds_looks rules stands IsAnswer (λ z. z ≡ truth h x) (truth_row x) (λ b. Ret (Is (BoolValue b))) h order
      (truth_looks S rules h x order i) (λ b e. answers (Is (BoolValue b)) h (bool_item h b))
  bool_holds Many h order i = wrong h

  abs_holds : (o : Option Value) (h : Heap) → Good (abs_row o) h
  unfolding abs_row
  abs_holds o h = answers (absolute_in (number_in o)) h (absolute_good h (number_in o))

  letter_holds : (o : Option ℕ) (h : Heap) → IsOrdered rules h → Good (letter_row o) h
  unfolding letter_row
  letter_holds (Some b) h order = new_text_holds rules stands h (b ∷ []) order
  letter_holds None h order = raises byte_fault h (lit< tt, lit< tt, tt)

  letter_of_holds : (o : Option ℤ) (h : Heap) → IsOrdered rules h → Good (letter_of o) h
  unfolding letter_of
  letter_of_holds (Some i) h order = letter_holds (byte_of i) h order
  letter_of_holds None h order = wrong h

  chr_holds : (o : Option Value) (h : Heap) → IsOrdered rules h → Good (chr_row o) h
  unfolding chr_row
  chr_holds o h order = letter_of_holds (number_in o) h order

  -- ---- str, repr, ord
  written_holds : (roots : ℕ) (x : Value) (quoted : Bool) (h : Heap) → IsOrdered rules h → IsRoots h roots →
      IsItem h x → Good (written_row roots x quoted) h
  unfolding written_row
  written_holds roots x quoted h order known i =
      holds_looks rules stands IsAnswer (λ g. IsGot IsAny g h) (told_row roots x quoted) (got_row new_text) h order
      (told_looks S rules h order roots x quoted known i)
      (λ g t. got_holds IsAny new_text g h t (λ bs u. new_text_holds rules stands h bs order))

  str_of_holds : (roots : ℕ) (x : Value) (f : Form) (h : Heap) → IsOrdered rules h → IsRoots h roots → IsItem h x →
      Good (str_of roots x f) h
  unfolding str_of
  str_of_holds roots x (Text a) h order known i = answers (Is x) h i
  str_of_holds roots x f h order known i = written_holds roots x false h order known i

  str_row_holds : (roots : ℕ) (args : Few) (h : Heap) → IsOrdered rules h → IsRoots h roots → IsFew h args →
      Good (str_row roots args) h
  unfolding str_row str_alone IsFew
  str_row_holds roots Nothing h order known i = new_text_holds rules stands h [] order
  str_row_holds roots (One x) h order known i =
      formed x (λ f. str_of roots x f) h order i (λ k t. str_of_holds roots x k h order known i)
  str_row_holds roots Many h order known i = wrong h

  repr_holds : (roots : ℕ) (o : Option Value) (h : Heap) → IsOrdered rules h → IsRoots h roots → IfSome o (IsItem h) →
      Good (repr_row roots o) h
  unfolding repr_row
  repr_holds roots (Some x) h order known i = written_holds roots x true h order known i
  repr_holds roots None h order known i = wrong h

  byte_holds : (a : ℕ) (h : Heap) → KindIn (h a) (λ k. k ≡ Str) → Good (byte_row a) h
  unfolding byte_row
  byte_holds a h i =
      let t = is_at h Str a i in
      answer_holds rules stands (bind (bytes_row a) (λ bs. Ret (byte_value bs))) h
      (looks_then (λ bs. bs ≡ t.rec.bytes) (λ g. IsAnswer g h) (bytes_row a) (λ bs. Ret (byte_value bs)) h
      (bytes_looks S h a t.rec t.here) (λ bs e. looks_ret S (λ g. IsAnswer g h) (byte_value bs) h (byte_good h bs)))

  ord_of_holds : (f : Form) (h : Heap) → IsForm h f → Good (ord_of f) h
  unfolding ord_of IsForm
  ord_of_holds (Text a) h i = byte_holds a.0 h i
  ord_of_holds f h i = wrong h

  ord_holds : (o : Option Value) (h : Heap) → IsOrdered rules h → IfSome o (IsItem h) → Good (ord_row o) h
  unfolding ord_row ord_alone
  ord_holds (Some x) h order i = formed x (λ f. ord_of f) h order i (λ k t. ord_of_holds k h t)
  ord_holds None h order i = wrong h

  -- ---- list, tuple, dict, sorted
  items_hold : (k : Kind) (vs : List Value) (h : Heap) → IsSequenceKind k → Every (IsItem h) vs →
      Good (items_made k vs) h
  unfolding items_made
  items_hold k vs h s i = news k (length vs) vs h s i refl

  gathered_holds : (k : Kind) (x : Value) (h : Heap) → IsOrdered rules h → IsSequenceKind k → IsItem h x →
      Good (gathered_row k x) h
  unfolding gathered_row
  gathered_holds k x h order s i = gathers x (items_made k) h order i (λ vs h1 order1 is. items_hold k vs h1 s is.0)

  list_holds : (args : Few) (h : Heap) → IsOrdered rules h → IsFew h args → Good (list_row args) h
  unfolding list_row IsFew
  list_holds Nothing h order i = makes ListKind [] h (λ a. sequence_fits rules h a ListKind [] tt tt (omega arith))
  list_holds (One x) h order i = gathered_holds ListKind x h order tt i
  list_holds Many h order i = wrong h

  tuple_of_holds : (x : Value) (f : Form) (h : Heap) → IsOrdered rules h → IsItem h x → Good (tuple_of x f) h
  unfolding tuple_of
  tuple_of_holds x (Items a) h order i = answers (Is x) h i
  tuple_of_holds x f h order i = gathered_holds Tuple x h order tt i

  tuple_holds : (args : Few) (h : Heap) → IsOrdered rules h → IsFew h args → Good (tuple_row args) h
  unfolding tuple_row tuple_alone IsFew
  tuple_holds Nothing h order i = makes Tuple [] h (λ a. sequence_fits rules h a Tuple [] tt tt (omega arith))
  tuple_holds (One x) h order i = formed x (λ f. tuple_of x f) h order i (λ k t. tuple_of_holds x k h order i)
  tuple_holds Many h order i = wrong h

  dict_holds : (args : Few) (h : Heap) → Good (dict_row args) h
  unfolding dict_row
  dict_holds Nothing h = empty_dict h
  dict_holds (One x) h = wrong h
  dict_holds Many h = wrong h

  sorted_items_hold : (vs : List Value) (h : Heap) → IsOrdered rules h → Every (IsItem h) vs → Good (sorted_items vs) h
  unfolding sorted_items
  sorted_items_hold vs h order i =
      holds_bind rules stands (IsGot (AreSoMany (length vs))) IsAnswer (sorted_row vs) (got_row (items_made ListKind))
      h order (sorted_holds rules stands h vs order i)
      (λ g h1 order1 x t. got_holds (AreSoMany (length vs)) (items_made ListKind) g h1 t
      (λ ws is. items_hold ListKind ws h1 tt is.0))

  sorted_by_holds : (o : Option Value) (h : Heap) → IsOrdered rules h → IfSome o (IsItem h) → Good (sorted_by o) h
  unfolding sorted_by sorted_alone
  sorted_by_holds (Some x) h order i = gathers x sorted_items h order i
      (λ vs h1 order1 is. sorted_items_hold vs h1 order1 is.0)
  sorted_by_holds None h order i = wrong h

  -- ---- isinstance
  isinstance_holds : (roots : ℕ) (o : Option (Value × Value)) (h : Heap) → IsOrdered rules h → IsRoots h roots →
      IfSome o (λ p. IsItem h p.0 × IsItem h p.1) → Good (isinstance_row roots o) h
  isinstance_holds roots o h order known i =
      answer_holds rules stands (isinstance_row roots o) h (isinstance_tells S rules h order roots known o i)

  -- ---- min, max
  better_holds : (side : Side) (x best : Value) (h : Heap) → IsOrdered rules h → IsItem h x → IsItem h best →
      Good (better_row side x best) h
  unfolding better_row
  better_holds side x best h order i j =
      holds_looks rules stands IsAnswer (λ g. IsGot IsAny g h) (order_row x best) (λ g. Ret (better side best x g)) h
      order (order_looks S rules h order x best i j)
      (λ g t. answers (better side best x g) h (better_good h side best x g j i t))

  turns_hold : (side : Side) (vs : List Value) (m i : ℕ) (best : Value) (h : Heap) → IsOrdered rules h →
      Every (IsItem h) vs → i + m ≤ length vs → IsItem h best →
      Good (each_row (λ i best. better_row side (value_at vs i) best) i m best) h
  unfolding each_row
  turns_hold side vs zero i best h order is l j = answers (Is best) h j
  turns_hold side vs (suc m) i best h order is l j =
      let f : ℕ → Value → Row S (Got Value) = λ i best. better_row side (value_at vs i) best in
      holds_bind rules stands IsAnswer IsAnswer (f i best) (got_row (each_row f (i + 1) m)) h order
      (better_holds side (value_at vs i) best h order (item_at h vs i (omega (arith, l)) is) j)
      (λ g h1 order1 x t. got_holds (λ v h. IsItem h v) (each_row f (i + 1) m) g h1 t
      (λ b k. turns_hold side vs m (i + 1) b h1 order1 (items_stay h h1 x vs is) (omega (arith, l)) k))

  best_holds : (side : Side) (vs : List Value) (h : Heap) → IsOrdered rules h → Every (IsItem h) vs →
      Good (best_of side vs) h
  unfolding best_of best_from
  best_holds side [] h order i = raises sequence_fault h (lit< tt, lit< tt, tt)
  best_holds side (x ∷ xs) h order i = turns_hold side xs (length xs) 0 x h order i.1 (omega arith) i.0

  best_by_holds : (side : Side) (args : List Value) (n : Few) (h : Heap) → IsOrdered rules h → Every (IsItem h) args →
      IsFew h n → Good (best_by side args n) h
  unfolding best_by best_in IsFew
  best_by_holds side args Nothing h order i j = wrong h
  best_by_holds side args (One x) h order i j =
      gathers x (best_of side) h order j (λ vs h1 order1 is. best_holds side vs h1 order1 is.0)
  best_by_holds side args Many h order i j = best_holds side args h order i

  best_row_holds : (side : Side) (args : List Value) (h : Heap) → IsOrdered rules h → Every (IsItem h) args →
      Good (best_row side args) h
  unfolding best_row
  best_row_holds side args h order i = best_by_holds side args (few args) h order i (few_good h args i)

  -- ---- sum
  sum_holds : (o : Option Value) (h : Heap) → IsOrdered rules h → IfSome o (IsItem h) → Good (sum_row o) h
  unfolding sum_row sum_alone sum_items
  sum_holds (Some x) h order i = gathers x (λ vs. Ret (sum_value vs)) h order i
      (λ vs h1 order1 is. answers (sum_value vs) h1 (sum_good h1 (summed (pos 0) vs) (summed_good h1 (pos 0) vs)))
  sum_holds None h order i = wrong h

  -- ---- all
  module _ (h : Heap) (order : IsOrdered rules h) (roots : ℕ) (known : IsRoots h roots) (b : ℕ) (args : List Value)
      (i : Every (IsItem h) args) where
    each_holds : Each (λ row. Good row h) roots args
    each_holds = record {
      len = len_holds (only args) h (only_good h args i);
      range = range_holds (bounds_of args) h;
      xrange = xrange_holds (bounds_of args) h;
      str = str_row_holds roots (few args) h order known (few_good h args i);
      repr = repr_holds roots (only args) h order known (only_good h args i);
      int = int_holds (few args) h order (few_good h args i);
      bool = bool_holds (few args) h order (few_good h args i);
      list = list_holds (few args) h order (few_good h args i);
      tuple = tuple_holds (few args) h order (few_good h args i);
      dict = dict_holds (few args) h;
      isinstance = isinstance_holds roots (both args) h order known (both_good h args i);
      ord = ord_holds (only args) h order (only_good h args i);
      chr = chr_holds (only args) h order;
      abs = abs_holds (only args) h;
      min = best_row_holds Least args h order i;
      max = best_row_holds Greatest args h order i;
      sum = sum_holds (only args) h order (only_good h args i);
      sorted = sorted_by_holds (only args) h order (only_good h args i);
      other = raises operand_fault h (lit< tt, lit< tt, tt);
    }

    all_hold : Good (function_row roots b args) h
    all_hold = each_function (λ row. Good row h) roots args b each_holds

  pub functions_hold : FunctionsHold rules stands
  functions_hold = record { function = λ h roots b args order known i. all_hold h order roots known b args i }
