-- Over each heap in order each operator holds.
use Rattle.std.proofs.Common.{arith, ◌≡◌, ℕ, zero, suc, ◌+◌, ◌*◌, ◌<◌, ◌≤◌, ◌==◌, Bool, true, false, cond, leb, List, [], ◌∷◌, ◌++◌, length, slice_get, Option, Some, None, refl, sym, ap, subst, ◌∙◌, lit<, length-append}
use Rattle.std.specs.Prelude.{is_some, IfSome}
use Rattle.std.specs.List.{repeat}
use Rattle.std.proofs.lemmas.Bool.{leb-true}
use Rattle.py_base.specs.declared.kind.Kind.{Kind}
use Rattle.py_base.specs.declared.kind.Kind.TheVariants.{Str, Tuple, List as ListKind, Dict, Range}
use Rattle.py_data.specs.declared.value.Addr.{Addr}
use Rattle.py_data.specs.declared.value.Value.{Value}
use Rattle.py_data.specs.declared.value.Value.TheVariants.{Unset, None as NoneValue, Bool as BoolValue, Int, Ref, Builtin}
use Rattle.py_data.specs.declared.change.Change.TheVariants as change
use Rattle.py_data.specs.declared.record.Got.{Got}
use Rattle.py_data.specs.declared.record.Got.TheVariants.{Is, Raise}
use Rattle.py_data.specs.declared.record.TheConstants.{LENGTH_LIMIT}
use Rattle.py_data.specs.Every.{Every}
use Rattle.py_data.specs.Fault.{memory_fault, operand_fault, argument_fault}
use Rattle.py_data.specs.Heap.{Rec, Heap, new_rec, value_at}
use Rattle.py_data.specs.Changes.{after}
use Rattle.py_data.specs.Shape.{KindIn}
use Rattle.py_data.specs.Closed.{IsItem}
use Rattle.py_data.specs.Comparing.{number_of, is_same}
use Rattle.py_data.specs.Texts.{got_then}
use Rattle.py_data.specs.Row.{Row, Ret, bind}
use Rattle.py_data.specs.Looking.{Looks, until_row, each_row, got_row, size_row, look_row, bytes_row}
use Rattle.py_data.specs.Order.{Rules, IsOrdered, Extends}
use Rattle.py_data.specs.Holds.{Holds}
use Rattle.py_data.specs.Answers.{IsGot, IsAnswer, IfItem, IsSequenceKind}
use Rattle.py_data.proofs.EveryLemmas.{every_and}
use Rattle.py_data.proofs.Holding.{holds_ret, holds_bind, holds_weaken}
use Rattle.py_data.proofs.HoldingCalls.{holds_read, holds_edit, holds_make, holds_looks}
use Rattle.py_data.proofs.ItemLemmas.{item_at, item_stays, items_stay, fit_items}
use Rattle.py_data.proofs.Keep.{kind_stays}
use Rattle.py_data.proofs.Looking.{looks_ret, looks_then, looks_held, size_looks, look_looks}
use Rattle.py_data.proofs.Making.{sequence_fits}
use Rattle.py_data.proofs.Steps.{put_here}
use Rattle.obj_seq.specs.Gather.{gather_row}
use Rattle.obj_seq.proofs.HoldingGather.{gather_holds}
use Rattle.obj_dict.specs.Dict.{get_row}
use Rattle.obj_dict.proofs.Holding.{dict_holds}
use Rattle.obj_str.specs.Strings.{new_text}
use Rattle.obj_str.specs.Pieces.{find}
use Rattle.obj_nest.specs.Equal.{equal_row}
use Rattle.obj_nest.specs.Ordering.{order_row}
use Rattle.obj_class.specs.Roots.{IsRoots}
use Rattle.obj_class.specs.Telling.{told_row}
use Rattle.obj_class.proofs.RootsKept.{roots_stay}
use Rattle.obj_ops.specs.declared.operator.Operator.{Operator}
use Rattle.obj_ops.specs.declared.operator.Operator.TheVariants.{Add}
use Rattle.obj_ops.specs.declared.operator.Comparison.{Comparison}
use Rattle.obj_ops.specs.declared.operator.Comparison.TheVariants.{Equal, NotEqual, In, NotIn, Is as Identical, IsNot}
use Rattle.obj_ops.specs.declared.operand.Operand.{Operand}
use Rattle.obj_ops.specs.declared.operand.Operand.TheVariants.{Text}
use Rattle.obj_ops.specs.declared.operand.Case.{Case}
use Rattle.obj_ops.specs.declared.operand.Case.TheVariants.{Join, JoinTexts, Repeat, RepeatText, Format}
use Rattle.obj_ops.specs.declared.format.Piece.{Piece}
use Rattle.obj_ops.specs.declared.format.Piece.TheVariants.{Byte, Number, Text as TextPiece, Unknown}
use Rattle.obj_ops.specs.declared.contain.Container.{Container}
use Rattle.obj_ops.specs.declared.contain.Container.TheVariants.{Items, Pairs, Bytes, Numbers as NumbersOf, Nothing}
use Rattle.obj_ops.specs.Numbers.{operator_of, sign_of}
use Rattle.obj_ops.specs.Operands.{operand_row, case_of}
use Rattle.obj_ops.specs.Sequences.{values_row, made_row, new_items, joined_with, joined_items, joined_text_with, joined_texts, times, repeated_items, new_repeated, repeated_text}
use Rattle.obj_ops.specs.Format.{format_fault, pieces, asked, grown, number_grown, number_in, text_grown, piece_row, piece_at, pieces_row, finished, formatted_row, arguments_row, template_row, format_row}
use Rattle.obj_ops.specs.Binary.{unary_row, signed_value, calculated_case, case_row, operand_with, operated_row, binary_row}
use Rattle.obj_ops.specs.InPlace.{push_row, pushed_row, appended_row, extended_row, kept_list, kept_row, changed_row, in_place_row}
use Rattle.obj_ops.specs.Contains.{container_of, container_row, item_row, goes_on, items_row, part_row, text_in_row, is_among, is_key_there, contained_row, contains_row}
use Rattle.obj_ops.specs.Compare.{suited, ordered_row, test_row, is_negated, told, compared_row, compare_row, comparison_of}
use Rattle.obj_ops.specs.HoldsLaws.{OpsHold}
use Rattle.obj_ops.proofs.Nested.{IsAny, equal_looks, order_looks, text_looks, new_text_holds}
use Rattle.obj_ops.proofs.NumbersHold.{case_answer, signed_good, bool_item}
use Rattle.obj_ops.proofs.OperandsHold.{IsAt, IsText, IsOperand, IsCase, operand_stays, operand_holds, case_good, list_good, some_rec, kind_here}

-- a list of items
abbrev AreItems : List Value → Heap → Type 0
AreItems vs h = Every (IsItem h) vs

-- the record of a kind
record_at : (o : Option Rec) (p : Kind → Type 0) → KindIn o p → (r : Rec) × (o ≡ Some r) × p r.kind
record_at None p i = absurd i
record_at (Some r) p i = (r, refl, i)

sequence_in : (o : Option Rec) (k : Kind) → IsSequenceKind k → KindIn o (λ q. q ≡ k) → KindIn o IsSequenceKind
sequence_in None k s i = absurd i
sequence_in (Some r) k s i = subst IsSequenceKind (sym i) s

repeat_items : (h : Heap) (n : ℕ) (vs : List Value) → Every (IsItem h) vs → Every (IsItem h) (repeat n vs)
repeat_items h zero vs i = tt
repeat_items h (suc n) vs i = every_and (IsItem h) vs (repeat n vs) i (repeat_items h n vs i)

repeat_length : (n : ℕ) (vs : List Value) → length (repeat n vs) ≡ n * length vs
repeat_length zero vs = omega arith
repeat_length (suc n) vs = length-append vs (repeat n vs) ∙
    (ap (λ k. length vs + k) (repeat_length n vs) ∙ (omega arith))

-- the item at a place, where there is one
get_item : (h : Heap) (vs : List Value) (n : ℕ) (x : Value) → slice_get vs n ≡ Some x → Every (IsItem h) vs → IsItem h x
get_item h [] n x e i = absurd (let q : ◌≡◌ {A = Option Value} None (Some x) = e in cc)
get_item h (v ∷ vs) zero x e i = let q : v ≡ x = cc in subst (IsItem h) q i.0
get_item h (v ∷ vs) (suc n) x e i = get_item h vs n x e i.1

module _ {S : Type 0} (rules : Rules) (stands : Heap → S → Type 0) where
  abbrev Good : Row S (Got Value) → Heap → Type 0
  Good row h = Holds rules stands IsAnswer row h

  -- ---- how rows are put together
  got_holds : {A B : Type 0} (p : A → Heap → Type 0) (q : B → Heap → Type 0) (f : A → Row S (Got B)) (g : Got A)
      (h : Heap) → IsGot p g h → ((a : A) → p a h → Holds rules stands (IsGot q) (f a) h) →
      Holds rules stands (IsGot q) (got_row f g) h
  got_holds p q f (Is a) h i n = n a i
  got_holds p q f (Raise e) h i n = holds_ret rules stands (IsGot q) (Raise e) h i

  looked_holds : {A : Type 0} (row : Row S (Got A)) (h : Heap) → Looks (λ g. IsGot IsAny g h) row h →
      Holds rules stands (IsGot IsAny) row h
  looked_holds row h i = holds_weaken rules stands (λ g h1. (h1 ≡ h) × IsGot IsAny g h) (IsGot IsAny)
      (λ g h1 t. subst (λ z. IsGot IsAny g z) (sym t.0) t.1) row h
      (looks_held rules stands (λ g. IsGot IsAny g h) h row i)

  -- ---- sequences
  values_hold : (k : Kind) (a : ℕ) (h : Heap) → IsOrdered rules h → IsSequenceKind k → KindIn (h a) (λ q. q ≡ k) →
      Holds rules stands AreItems (values_row a) h
  unfolding values_row
  values_hold k a h order s i =
      let r = record_at (h a) (λ q. q ≡ k) i in
      holds_read rules stands AreItems a (λ r. Ret r.values) h r.0 r.1
      (holds_ret rules stands AreItems r.0.values h
      (fit_items rules h a r.0 (order.each a r.0 r.1) (λ e. subst IsSequenceKind (sym r.2 ∙ e) s)))

  made_holds : (k : Kind) (n : ℕ) (vs : List Value) (h : Heap) → IsSequenceKind k → Every (IsItem h) vs →
      length vs ≡ n → Good (new_items k n vs) h
  unfolding new_items made_row
  made_holds k n vs h s i l = by (leb n LENGTH_LIMIT) refl
    where
      by : (b : Bool) → leb n LENGTH_LIMIT ≡ b → Good (cond b (made_row k vs) (Ret (Raise memory_fault))) h
      by true e =
          holds_make rules stands IsAnswer (new_rec k vs []) (λ a. Ret (Is (Ref (record { 0 = a })))) h
          (λ a. sequence_fits rules h a k vs s i (omega (arith, l, leb-true n LENGTH_LIMIT e)))
          (λ a h1 order x f item. holds_ret rules stands IsAnswer (Is (Ref (record { 0 = a }))) h1 item)
      by false e = holds_ret rules stands IsAnswer (Raise memory_fault) h (lit< tt, lit< tt, tt)

  join_holds : (k : Kind) (a b : Addr) (h : Heap) → IsOrdered rules h → IsAt h k a → IsAt h k b →
      Good (joined_items k a.0 b.0) h
  unfolding joined_items joined_with
  join_holds k a b h order i j =
      holds_bind rules stands AreItems IsAnswer (values_row a.0) (λ xs. joined_with k xs b.0) h order
      (values_hold k a.0 h order i.0 i.1)
      (λ xs h1 order1 x1 gx. holds_bind rules stands AreItems IsAnswer (values_row b.0)
      (λ ys. new_items k (length xs + length ys) (xs ++ ys)) h1 order1
      (values_hold k b.0 h1 order1 j.0 (kind_stays h h1 x1 b.0 (λ z. z ≡ k) j.1))
      (λ ys h2 order2 x2 gy. made_holds k (length xs + length ys) (xs ++ ys) h2 i.0
      (every_and (IsItem h2) xs ys (items_stay h1 h2 x2 xs gx) gy) (length-append xs ys)))

  repeat_holds : (k : Kind) (a : Addr) (n : ℕ) (h : Heap) → IsOrdered rules h → IsAt h k a →
      Good (repeated_items k a.0 n) h
  unfolding repeated_items
  repeat_holds k a n h order i =
      holds_bind rules stands AreItems IsAnswer (values_row a.0) (λ xs. new_items k (n * length xs) (repeat n xs)) h
      order (values_hold k a.0 h order i.0 i.1)
      (λ xs h1 order1 x1 gx. made_holds k (n * length xs) (repeat n xs) h1 i.0 (repeat_items h1 n xs gx)
      (repeat_length n xs))

  -- ---- strings
  bytes_hold : (a : ℕ) (h : Heap) → KindIn (h a) (λ q. q ≡ Str) → Holds rules stands IsAny (bytes_row a) h
  unfolding bytes_row
  bytes_hold a h i = let r = record_at (h a) (λ q. q ≡ Str) i in
      holds_read rules stands IsAny a (λ r. Ret r.bytes) h r.0 r.1 (holds_ret rules stands IsAny r.0.bytes h tt)

  join_texts_hold : (a b : Addr) (h : Heap) → IsOrdered rules h → IsText h a → IsText h b →
      Good (joined_texts a.0 b.0) h
  unfolding joined_texts joined_text_with
  join_texts_hold a b h order i j =
      holds_bind rules stands IsAny IsAnswer (bytes_row a.0) (λ xs. joined_text_with xs b.0) h order
      (bytes_hold a.0 h i)
      (λ xs h1 order1 x1 gx. holds_bind rules stands IsAny IsAnswer (bytes_row b.0) (λ ys. new_text (xs ++ ys)) h1
      order1 (bytes_hold b.0 h1 (kind_stays h h1 x1 b.0 (λ z. z ≡ Str) j))
      (λ ys h2 order2 x2 gy. new_text_holds rules stands h2 (xs ++ ys) order2))

  repeated_holds : (n : ℕ) (bs : List ℕ) (h : Heap) → IsOrdered rules h → Good (new_repeated n bs) h
  unfolding new_repeated
  repeated_holds n bs h order = by (leb (n * length bs) LENGTH_LIMIT)
    where
      by : (b : Bool) → Good (cond b (new_text (repeat n bs)) (Ret (Raise memory_fault))) h
      by true = new_text_holds rules stands h (repeat n bs) order
      by false = holds_ret rules stands IsAnswer (Raise memory_fault) h (lit< tt, lit< tt, tt)

  repeat_text_holds : (a : Addr) (n : ℕ) (h : Heap) → IsOrdered rules h → IsText h a → Good (repeated_text a.0 n) h
  unfolding repeated_text
  repeat_text_holds a n h order i = holds_bind rules stands IsAny IsAnswer (bytes_row a.0) (new_repeated n) h order
      (bytes_hold a.0 h i) (λ bs h1 order1 x1 g. repeated_holds n bs h1 order1)

  -- ---- templates
  grown_good : (text more : List ℕ) (h : Heap) → IsGot IsAny (grown text more) h
  unfolding grown
  grown_good text more h = by (leb (length text + length more) LENGTH_LIMIT)
    where
      by : (b : Bool) → IsGot IsAny (cond b (Is (text ++ more)) (Raise memory_fault)) h
      by true = tt
      by false = (lit< tt, lit< tt, tt)

  number_good : (text : List ℕ) (o : Option _) (h : Heap) → IsGot IsAny (number_grown text o) h
  unfolding number_grown
  number_good text (Some i) h = grown_good text _ h
  number_good text None h = (lit< tt, lit< tt, tt)

  then_good : (text : List ℕ) (g : Got (List ℕ)) (h : Heap) → IsGot IsAny g h → IsGot IsAny (got_then g (grown text)) h
  then_good text (Is more) h i = grown_good text more h
  then_good text (Raise e) h i = i

  text_hold : (roots : ℕ) (text : List ℕ) (o : Option Value) (h : Heap) → IsOrdered rules h → IsRoots h roots →
      IfSome o (IsItem h) → Holds rules stands (IsGot IsAny) (text_grown roots text o) h
  unfolding text_grown
  text_hold roots text None h order r i = holds_ret rules stands (IsGot IsAny) (Raise argument_fault) h
      (lit< tt, lit< tt, tt)
  text_hold roots text (Some x) h order r i =
      holds_bind rules stands (IsGot IsAny) (IsGot IsAny) (told_row roots x false)
      (λ more. Ret (got_then more (grown text))) h order
      (looked_holds (told_row roots x false) h (text_looks S rules h order roots r x false i))
      (λ g h1 order1 x1 t. holds_ret rules stands (IsGot IsAny) (got_then g (grown text)) h1 (then_good text g h1 t))

  argument_good : (args : List Value) (n : ℕ) (h : Heap) → Every (IsItem h) args → IfSome (slice_get args n) (IsItem h)
  argument_good args n h i = by (slice_get args n) refl
    where
      by : (o : Option Value) → slice_get args n ≡ o → IfSome o (IsItem h)
      by None e = tt
      by (Some x) e = get_item h args n x e i

  piece_holds : (roots : ℕ) (args : List Value) (p : Piece) (text : List ℕ) (h : Heap) → IsOrdered rules h →
      IsRoots h roots → Every (IsItem h) args → Holds rules stands (IsGot IsAny) (piece_row roots args p text) h
  unfolding piece_row
  piece_holds roots args (Byte x) text h order r i = holds_ret rules stands (IsGot IsAny) (grown text (x ∷ [])) h
      (grown_good text (x ∷ []) h)
  piece_holds roots args (Number n) text h order r i =
      holds_ret rules stands (IsGot IsAny) (number_grown text (number_in (slice_get args n))) h
      (number_good text (number_in (slice_get args n)) h)
  piece_holds roots args (TextPiece n) text h order r i =
      text_hold roots text (slice_get args n) h order r (argument_good args n h i)
  piece_holds roots args Unknown text h order r i = holds_ret rules stands (IsGot IsAny) (Raise format_fault) h
      (lit< tt, lit< tt, tt)

  each_holds : (roots : ℕ) (ps : List Piece) (args : List Value) (m i : ℕ) (text : List ℕ) (h : Heap) →
      IsOrdered rules h → IsRoots h roots → Every (IsItem h) args →
      Holds rules stands (IsGot IsAny) (each_row (λ i. piece_row roots args (piece_at ps i)) i m text) h
  unfolding each_row
  each_holds roots ps args zero i text h order r is = holds_ret rules stands (IsGot IsAny) (Is text) h tt
  each_holds roots ps args (suc m) i text h order r is =
      let f : ℕ → List ℕ → Row S (Got (List ℕ)) = λ i. piece_row roots args (piece_at ps i) in
      holds_bind rules stands (IsGot IsAny) (IsGot IsAny) (f i text) (got_row (each_row f (i + 1) m)) h order
      (piece_holds roots args (piece_at ps i) text h order r is)
      (λ g h1 order1 x1 t. got_holds IsAny IsAny (each_row f (i + 1) m) g h1 t
      (λ more u. each_holds roots ps args m (i + 1) more h1 order1 (roots_stay h h1 roots x1 r)
      (items_stay h h1 x1 args is)))

  pieces_hold : (roots : ℕ) (ps : List Piece) (args : List Value) (h : Heap) → IsOrdered rules h → IsRoots h roots →
      Every (IsItem h) args → Holds rules stands (IsGot IsAny) (pieces_row roots ps args) h
  unfolding pieces_row
  pieces_hold roots ps args h order r i = each_holds roots ps args (length ps) 0 [] h order r i

  finished_holds : (ps : List Piece) (args : List Value) (text : List ℕ) (h : Heap) → IsOrdered rules h →
      Good (finished ps args text) h
  unfolding finished
  finished_holds ps args text h order = by (asked ps == length args)
    where
      by : (b : Bool) → Good (cond b (new_text text) (Ret (Raise argument_fault))) h
      by true = new_text_holds rules stands h text order
      by false = holds_ret rules stands IsAnswer (Raise argument_fault) h (lit< tt, lit< tt, tt)

  formatted_holds : (roots : ℕ) (ps : List Piece) (args : List Value) (h : Heap) → IsOrdered rules h →
      IsRoots h roots → Every (IsItem h) args → Good (formatted_row roots ps args) h
  unfolding formatted_row
  formatted_holds roots ps args h order r i =
      holds_bind rules stands (IsGot IsAny) IsAnswer (pieces_row roots ps args) (got_row (finished ps args)) h order
      (pieces_hold roots ps args h order r i)
      (λ g h1 order1 x1 t. got_holds IsAny (λ v h. IsItem h v) (finished ps args) g h1 t
      (λ text u. finished_holds ps args text h1 order1))

  arguments_hold : (b : Option Addr) (y : Value) (h : Heap) → IsOrdered rules h → IfSome b (IsAt h Tuple) →
      IsItem h y → Holds rules stands AreItems (arguments_row b y) h
  unfolding arguments_row
  arguments_hold (Some b) y h order i j = values_hold Tuple b.0 h order i.0 i.1
  arguments_hold None y h order i j = holds_ret rules stands AreItems (y ∷ []) h (j, tt)

  tuple_stays : (b : Option Addr) (h h1 : Heap) → Extends h h1 → IfSome b (IsAt h Tuple) → IfSome b (IsAt h1 Tuple)
  tuple_stays (Some b) h h1 x i = (i.0, kind_stays h h1 x b.0 (λ z. z ≡ Tuple) i.1)
  tuple_stays None h h1 x i = tt

  format_holds : (roots : ℕ) (a : Addr) (b : Option Addr) (y : Value) (h : Heap) → IsOrdered rules h →
      IsRoots h roots → IsText h a → IfSome b (IsAt h Tuple) → IsItem h y → Good (format_row roots a.0 b y) h
  unfolding format_row template_row
  format_holds roots a b y h order r i j k =
      holds_bind rules stands IsAny IsAnswer (bytes_row a.0) (λ template. template_row roots template b y) h order
      (bytes_hold a.0 h i)
      (λ template h1 order1 x1 g. holds_bind rules stands AreItems IsAnswer (arguments_row b y)
      (formatted_row roots (pieces false 0 template)) h1 order1
      (arguments_hold b y h1 order1 (tuple_stays b h h1 x1 j) (item_stays h h1 x1 y k))
      (λ args h2 order2 x2 is. formatted_holds roots (pieces false 0 template) args h2 order2
      (roots_stay h1 h2 roots x2 (roots_stay h h1 roots x1 r)) is))

  -- ---- two operands
  case_holds : (roots : ℕ) (op : Operator) (y : Value) (c : Case) (h : Heap) → IsOrdered rules h → IsRoots h roots →
      IsCase h c → IsItem h y → Good (case_row roots op y c) h
  unfolding case_row IsCase
  case_holds roots op y (Join k a b) h order r g i = join_holds k a b h order g.0 g.1
  case_holds roots op y (JoinTexts a b) h order r g i = join_texts_hold a b h order g.0 g.1
  case_holds roots op y (Repeat k a n) h order r g i = repeat_holds k a (times n) h order g
  case_holds roots op y (RepeatText a n) h order r g i = repeat_text_holds a (times n) h order g
  case_holds roots op y (Format a b) h order r g i = format_holds roots a b y h order r g.0 g.1 i
  case_holds roots op y c h order r g i = holds_ret rules stands IsAnswer (calculated_case op c) h (case_answer h op c)

  with_holds : (roots : ℕ) (op : Operator) (p : Operand) (y : Value) (h : Heap) → IsOrdered rules h → IsRoots h roots →
      IsOperand p h → IsItem h y → Good (operand_with roots op p y) h
  unfolding operand_with
  with_holds roots op p y h order r g i =
      holds_bind rules stands IsOperand IsAnswer (operand_row y) (λ q. case_row roots op y (case_of op p q)) h order
      (operand_holds rules stands y h i)
      (λ q h1 order1 x1 gq. case_holds roots op y (case_of op p q) h1 order1 (roots_stay h h1 roots x1 r)
      (case_good h1 op p q (operand_stays h h1 x1 p g) gq) (item_stays h h1 x1 y i))

  binary_holds : (h : Heap) (roots op : ℕ) (x y : Value) → IsOrdered rules h → IsRoots h roots → IsItem h x →
      IsItem h y → Good (binary_row roots op x y) h
  unfolding binary_row operated_row
  binary_holds h roots op x y order r i j =
      holds_bind rules stands IsOperand IsAnswer (operand_row x) (λ p. operand_with roots (operator_of op) p y) h order
      (operand_holds rules stands x h i)
      (λ p h1 order1 x1 gp. with_holds roots (operator_of op) p y h1 order1 (roots_stay h h1 roots x1 r) gp
      (item_stays h h1 x1 y j))

  unary_holds : (h : Heap) (op : ℕ) (x : Value) → IsOrdered rules h → IsItem h x → Good (unary_row op x) h
  unfolding unary_row
  unary_holds h op x order i = holds_ret rules stands IsAnswer (signed_value (sign_of op) (number_of x)) h
      (signed_good h (sign_of op) (number_of x))

  -- ---- in place
  push_holds : (a : ℕ) (vs : List Value) (r : Rec) (h : Heap) → IsOrdered rules h → h a ≡ Some r → r.kind ≡ ListKind →
      length r.values + length vs ≤ LENGTH_LIMIT → Every (IsItem h) vs → Holds rules stands IsAny (push_row a vs) h
  unfolding push_row
  push_holds a [] r h order e k l i = holds_ret rules stands IsAny tt h tt
  push_holds a (x ∷ xs) r h order e k l i =
      holds_edit rules stands IsAny a (change.Push x) (λ _. push_row a xs) h r order e (k, omega (arith, l)) tt i.0
      (λ h1 order1 y f. push_holds a xs (after (change.Push x) r) h1 order1
      (ap (λ g. g a) f ∙ put_here h a (after (change.Push x) r)) k
      (omega (arith, l, length-append r.values (x ∷ []))) (items_stay h h1 y xs i.1))

  pushed_holds : (a : ℕ) (vs : List Value) (r : Rec) (h : Heap) → IsOrdered rules h → h a ≡ Some r → r.kind ≡ ListKind
      → Every (IsItem h) vs → Good (pushed_row a vs (length r.values)) h
  unfolding pushed_row
  pushed_holds a vs r h order e k i = by (leb (length r.values + length vs) LENGTH_LIMIT) refl
    where
      by : (b : Bool) → leb (length r.values + length vs) LENGTH_LIMIT ≡ b →
          Good (cond b (bind (push_row a vs) (λ _. Ret (Is (Ref (record { 0 = a }))))) (Ret (Raise memory_fault))) h
      by true t =
          let item : IsItem h (Ref (record { 0 = a })) =
          (ap is_some e, λ q. let z : Ref (record { 0 = a }) ≡ Unset = q in cc) in
          holds_bind rules stands IsAny IsAnswer (push_row a vs) (λ _. Ret (Is (Ref (record { 0 = a })))) h order
          (push_holds a vs r h order e k (leb-true (length r.values + length vs) LENGTH_LIMIT t) i)
          (λ u h1 order1 x1 g. holds_ret rules stands IsAnswer (Is (Ref (record { 0 = a }))) h1
          (item_stays h h1 x1 (Ref (record { 0 = a })) item))
      by false t = holds_ret rules stands IsAnswer (Raise memory_fault) h (lit< tt, lit< tt, tt)

  appended_holds : (a : ℕ) (vs : List Value) (h : Heap) → IsOrdered rules h → KindIn (h a) (λ k. k ≡ ListKind) →
      Every (IsItem h) vs → Good (appended_row a vs) h
  unfolding appended_row
  appended_holds a vs h order at i =
      let r = record_at (h a) (λ k. k ≡ ListKind) at in
      holds_looks rules stands IsAnswer (λ n. n ≡ length r.0.values) (size_row a) (pushed_row a vs) h order
      (size_looks S h a r.0 r.1) (λ n e.
      subst (λ z. Good (pushed_row a vs z) h) (sym e) (pushed_holds a vs r.0 h order r.1 r.2 i))

  pub extended_holds : (a : Addr) (y : Value) (h : Heap) → IsOrdered rules h → IsAt h ListKind a → IsItem h y →
      Good (extended_row a.0 y) h
  unfolding extended_row
  extended_holds a y h order at i =
      holds_bind rules stands (IsGot (λ vs h. Every (IsItem h) vs × (length vs ≤ LENGTH_LIMIT))) IsAnswer
      (gather_row y) (got_row (appended_row a.0)) h order (gather_holds rules stands h y order i)
      (λ g h1 order1 x1 t. got_holds (λ vs h. Every (IsItem h) vs × (length vs ≤ LENGTH_LIMIT)) (λ v h. IsItem h v)
      (appended_row a.0) g h1 t
      (λ vs is. appended_holds a.0 vs h1 order1 (kind_stays h h1 x1 a.0 (λ k. k ≡ ListKind) at.1) is.0))

  kept_good : (h : Heap) (op : Operator) (p : Operand) → IsOperand p h → IfSome (kept_list op p) (IsAt h ListKind)
  kept_good h Add p g = list_good h p g
  kept_good h op p g = tt

  kept_holds : (roots : ℕ) (op : Operator) (p : Operand) (y : Value) (o : Option Addr) (h : Heap) → IsOrdered rules h →
      IsRoots h roots → IfSome o (IsAt h ListKind) → IsOperand p h → IsItem h y → Good (kept_row roots op p y o) h
  unfolding kept_row
  kept_holds roots op p y (Some a) h order r k g i = extended_holds a y h order k i
  kept_holds roots op p y None h order r k g i = with_holds roots op p y h order r g i

  in_place_holds : (h : Heap) (roots op : ℕ) (x y : Value) → IsOrdered rules h → IsRoots h roots → IsItem h x →
      IsItem h y → Good (in_place_row roots op x y) h
  unfolding in_place_row changed_row
  in_place_holds h roots op x y order r i j =
      holds_bind rules stands IsOperand IsAnswer (operand_row x)
      (λ p. kept_row roots (operator_of op) p y (kept_list (operator_of op) p)) h order
      (operand_holds rules stands x h i)
      (λ p h1 order1 x1 gp. kept_holds roots (operator_of op) p y (kept_list (operator_of op) p) h1 order1
      (roots_stay h h1 roots x1 r) (kept_good h1 (operator_of op) p gp) gp (item_stays h h1 x1 y j))

  -- ---- what is in another value
  IsContainer : Container → Heap → Type 0
  IsContainer (Items a) h = KindIn (h a.0) IsSequenceKind
  IsContainer (Pairs a) h = KindIn (h a.0) (λ k. k ≡ Dict)
  IsContainer (Bytes a) h = IsText h a
  IsContainer (NumbersOf a) h = KindIn (h a.0) (λ k. k ≡ Range)
  IsContainer Nothing h = Unit {0}

  container_good : (h : Heap) (k : Kind) (a : Addr) → KindIn (h a.0) (λ q. q ≡ k) → IsContainer (container_of k a) h
  unfolding IsContainer
  container_good h Str a i = i
  container_good h Tuple a i = sequence_in (h a.0) Tuple tt i
  container_good h ListKind a i = sequence_in (h a.0) ListKind tt i
  container_good h Dict a i = i
  container_good h Range a i = i
  container_good h k a i = tt

  container_holds : (y : Value) (h : Heap) → IsItem h y → Holds rules stands IsContainer (container_row y) h
  unfolding container_row IsContainer
  container_holds (Ref a) h i =
      let r = some_rec (h a.0) i.0 in
      holds_read rules stands IsContainer a.0 (λ r. Ret (container_of r.kind a)) h r.0 r.1
      (holds_ret rules stands IsContainer (container_of r.0.kind a) h
      (container_good h r.0.kind a (kind_here (h a.0) r.0 r.1)))
  container_holds Unset h i = holds_ret rules stands IsContainer Nothing h tt
  container_holds NoneValue h i = holds_ret rules stands IsContainer Nothing h tt
  container_holds (BoolValue b) h i = holds_ret rules stands IsContainer Nothing h tt
  container_holds (Int n) h i = holds_ret rules stands IsContainer Nothing h tt
  container_holds (Builtin b) h i = holds_ret rules stands IsContainer Nothing h tt

  module _ (x : Value) (h : Heap) (order : IsOrdered rules h) (ix : IsItem h x) where
    abbrev Tells : Row S (Got Bool) → Type 0
    Tells row = Looks (λ g. IsGot IsAny g h) row h

    item_looks : (a : ℕ) (r : Rec) → h a ≡ Some r → Every (IsItem h) r.values → (i : ℕ) → i < length r.values →
        Tells (item_row x a i)
    unfolding item_row
    item_looks a r e is i l =
        looks_then (λ y. y ≡ value_at r.values i) (λ g. IsGot IsAny g h) (look_row a i) (equal_row x) h
        (look_looks S h a r e i)
        (λ y q. equal_looks S rules h order x y ix (subst (IsItem h) (sym q) (item_at h r.values i l is)))

    cond_looks : (b : Bool) (p q : Row S (Got Bool)) → Tells p → Tells q → Tells (cond b p q)
    cond_looks true p q s t = s
    cond_looks false p q s t = t

    items_look : (a : ℕ) (r : Rec) → h a ≡ Some r → Every (IsItem h) r.values → (m i : ℕ) → i + m ≤ length r.values →
        Tells (until_row (item_row x a) goes_on (Is false) i m)
    unfolding until_row
    items_look a r e is zero i l = looks_ret S (λ g. IsGot IsAny g h) (Is false) h tt
    items_look a r e is (suc m) i l =
        looks_then (λ g. IsGot IsAny g h) (λ g. IsGot IsAny g h) (item_row x a i)
        (λ g. cond (goes_on g) (until_row (item_row x a) goes_on (Is false) (i + 1) m) (Ret g)) h
        (item_looks a r e is i (omega (arith, l)))
        (λ g t. cond_looks (goes_on g) (until_row (item_row x a) goes_on (Is false) (i + 1) m) (Ret g)
        (items_look a r e is m (i + 1) (omega (arith, l))) (looks_ret S (λ g. IsGot IsAny g h) g h t))

    among_holds : (a : Addr) → KindIn (h a.0) IsSequenceKind →
        Holds rules stands (IsGot IsAny) (bind (size_row a.0) (items_row x a.0)) h
    unfolding items_row
    among_holds a at =
        let r = record_at (h a.0) IsSequenceKind at in
        let is = fit_items rules h a.0 r.0 (order.each a.0 r.0 r.1) (λ e. subst IsSequenceKind e r.2) in
        holds_looks rules stands (IsGot IsAny) (λ n. n ≡ length r.0.values) (size_row a.0) (items_row x a.0) h order
        (size_looks S h a.0 r.0 r.1)
        (λ n e. looked_holds (items_row x a.0 n) h (items_look a.0 r.0 r.1 is n 0 (omega (arith, e))))

  there_good : (g : Got (Option Value)) (h : Heap) → IsGot IfItem g h → IsGot IsAny (is_key_there g) h
  there_good (Is o) h i = tt
  there_good (Raise e) h i = i

  in_text_holds : (a : Addr) (p : Operand) (h : Heap) → IsOrdered rules h → IsText h a → IsOperand p h →
      Holds rules stands (IsGot IsAny) (text_in_row a.0 p) h
  unfolding text_in_row part_row IsOperand
  in_text_holds a (Text b) h order i j =
      holds_bind rules stands IsAny (IsGot IsAny) (bytes_row b.0) (part_row a.0) h order (bytes_hold b.0 h j)
      (λ part h1 order1 x1 g. holds_bind rules stands IsAny (IsGot IsAny) (bytes_row a.0)
      (λ bs. Ret (Is (is_some (find bs part)))) h1 order1
      (bytes_hold a.0 h1 (kind_stays h h1 x1 a.0 (λ z. z ≡ Str) i))
      (λ bs h2 order2 x2 g2. holds_ret rules stands (IsGot IsAny) (Is (is_some (find bs part))) h2 tt))
  in_text_holds a p h order i j = holds_ret rules stands (IsGot IsAny) (Raise operand_fault) h (lit< tt, lit< tt, tt)

  in_range_holds : (x : Value) (a : ℕ) (h : Heap) → IsOrdered rules h → KindIn (h a) (λ k. k ≡ Range) →
      Holds rules stands (IsGot IsAny) (bind (values_row a) (λ vs. Ret (Is (is_among vs (number_of x))))) h
  unfolding values_row bind
  in_range_holds x a h order i =
      let r = record_at (h a) (λ k. k ≡ Range) i in
      holds_read rules stands (IsGot IsAny) a (λ r. Ret (Is (is_among r.values (number_of x)))) h r.0 r.1
      (holds_ret rules stands (IsGot IsAny) (Is (is_among r.0.values (number_of x))) h tt)

  contained_holds : (x : Value) (c : Container) (h : Heap) → IsOrdered rules h → IsContainer c h → IsItem h x →
      Holds rules stands (IsGot IsAny) (contained_row x c) h
  unfolding contained_row IsContainer
  contained_holds x (Items a) h order g i = among_holds x h order i a g
  contained_holds x (Pairs a) h order g i =
      holds_bind rules stands (IsGot IfItem) (IsGot IsAny) (get_row a.0 x) (λ f. Ret (is_key_there f)) h order
      ((dict_holds rules stands).get h a.0 x order g i)
      (λ f h1 order1 x1 t. holds_ret rules stands (IsGot IsAny) (is_key_there f) h1 (there_good f h1 t))
  contained_holds x (Bytes a) h order g i =
      holds_bind rules stands IsOperand (IsGot IsAny) (operand_row x) (text_in_row a.0) h order
      (operand_holds rules stands x h i)
      (λ p h1 order1 x1 t. in_text_holds a p h1 order1 (kind_stays h h1 x1 a.0 (λ z. z ≡ Str) g) t)
  contained_holds x (NumbersOf a) h order g i = in_range_holds x a.0 h order g
  contained_holds x Nothing h order g i = holds_ret rules stands (IsGot IsAny) (Raise operand_fault) h
      (lit< tt, lit< tt, tt)

  contains_holds : (x y : Value) (h : Heap) → IsOrdered rules h → IsItem h x → IsItem h y →
      Holds rules stands (IsGot IsAny) (contains_row x y) h
  unfolding contains_row
  contains_holds x y h order i j =
      holds_bind rules stands IsContainer (IsGot IsAny) (container_row y) (contained_row x) h order
      (container_holds y h j) (λ c h1 order1 x1 g. contained_holds x c h1 order1 g (item_stays h h1 x1 x i))

  -- ---- comparisons
  suited_good : (c : Comparison) (g : Got _) (h : Heap) → IsGot IsAny g h → IsGot IsAny (suited c g) h
  suited_good c (Is o) h i = tt
  suited_good c (Raise e) h i = i

  told_good : (negated : Bool) (g : Got Bool) (h : Heap) → IsGot IsAny g h → IsAnswer (told negated g) h
  told_good negated (Is b) h i = bool_item h _
  told_good negated (Raise e) h i = i

  ordered_holds : (c : Comparison) (x y : Value) (h : Heap) → IsOrdered rules h → IsItem h x → IsItem h y →
      Holds rules stands (IsGot IsAny) (ordered_row c x y) h
  unfolding ordered_row
  ordered_holds c x y h order i j =
      holds_bind rules stands (IsGot IsAny) (IsGot IsAny) (order_row x y) (λ g. Ret (suited c g)) h order
      (looked_holds (order_row x y) h (order_looks S rules h order x y i j))
      (λ g h1 order1 x1 t. holds_ret rules stands (IsGot IsAny) (suited c g) h1 (suited_good c g h1 t))

  test_holds : (c : Comparison) (x y : Value) (h : Heap) → IsOrdered rules h → IsItem h x → IsItem h y →
      Holds rules stands (IsGot IsAny) (test_row c x y) h
  unfolding test_row
  test_holds Equal x y h order i j = looked_holds (equal_row x y) h (equal_looks S rules h order x y i j)
  test_holds NotEqual x y h order i j = looked_holds (equal_row x y) h (equal_looks S rules h order x y i j)
  test_holds In x y h order i j = contains_holds x y h order i j
  test_holds NotIn x y h order i j = contains_holds x y h order i j
  test_holds Identical x y h order i j = holds_ret rules stands (IsGot IsAny) (Is (is_same x y)) h tt
  test_holds IsNot x y h order i j = holds_ret rules stands (IsGot IsAny) (Is (is_same x y)) h tt
  test_holds c x y h order i j = ordered_holds c x y h order i j

  compare_holds : (h : Heap) (op : ℕ) (x y : Value) → IsOrdered rules h → IsItem h x → IsItem h y →
      Good (compare_row op x y) h
  unfolding compare_row compared_row
  compare_holds h op x y order i j =
      let c = comparison_of op in
      holds_bind rules stands (IsGot IsAny) IsAnswer (test_row c x y) (λ g. Ret (told (is_negated c) g)) h order
      (test_holds c x y h order i j)
      (λ g h1 order1 x1 t. holds_ret rules stands IsAnswer (told (is_negated c) g) h1 (told_good (is_negated c) g h1 t))

  pub ops_hold : OpsHold rules stands
  ops_hold = record { unary = unary_holds; binary = binary_holds; in_place = in_place_holds; compare = compare_holds }
