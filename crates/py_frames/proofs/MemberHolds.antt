-- Attributes, items and slices.
use Rattle.std.proofs.Common.{◌≡◌, ℕ, ℤ, ◌<◌, ◌≤◌, Bool, true, false, cond, leb, List, [], ◌∷◌, length, take, drop, Option, Some, None, refl, sym, subst, lit<}
use Rattle.std.specs.Option.{IfSome}
use Rattle.std.proofs.lemmas.Bool.{leb-true}
use Rattle.py_base.specs.declared.kind.Kind.{Kind}
use Rattle.py_base.specs.declared.kind.Kind.TheVariants.{Str, Tuple, List as ListKind, Dict, Cell, Function, Class, Instance, Method, Iter, Range, Lock, Thread}
use Rattle.py_base.specs.Numbers.{builtin_count}
use Rattle.py_data.specs.declared.value.Addr.{Addr}
use Rattle.py_data.specs.declared.value.Value.{Value}
use Rattle.py_data.specs.declared.value.Value.TheVariants.{Unset, None as NoneValue, Bool as BoolValue, Int, Ref, Builtin}
use Rattle.py_data.specs.declared.record.Fault.{Fault}
use Rattle.py_data.specs.declared.record.Got.{Got}
use Rattle.py_data.specs.declared.record.Got.TheVariants.{Is, Raise}
use Rattle.py_data.specs.declared.record.TheConstants.{LENGTH_LIMIT}
use Rattle.py_data.specs.Answers.{IsFault, IfItem, IsAnswer, IsDone, IsGot}
use Rattle.py_data.specs.Closed.{IsItem}
use Rattle.py_data.specs.Comparing.{number_of}
use Rattle.py_data.specs.Fault.{index_fault, operand_fault, memory_fault}
use Rattle.py_data.specs.Heap.{Heap, Rec, value_at, new_rec}
use Rattle.py_data.specs.Looking.{kind_row, bytes_row}
use Rattle.py_data.specs.Row.{Row, Ret, bind}
use Rattle.py_data.specs.Shape.{RefTo, KindIn}
use Rattle.py_data.specs.Texts.{got_then}
use Rattle.py_data.proofs.Holding.{holds_ret}
use Rattle.py_data.proofs.HoldingCalls.{holds_make}
use Rattle.py_data.proofs.ItemLemmas.{item_stays}
use Rattle.py_data.proofs.Looking.{kind_looks, bytes_looks}
use Rattle.py_data.proofs.Making.{text_fits}
use Rattle.py_code.specs.declared.program.Program.{Program}
use Rattle.py_code.specs.Effects.{Effect as InstrEffect}
use Rattle.py_code.specs.Right.{first_text}
use Rattle.obj_class.specs.declared.lookup.Found.{Found}
use Rattle.obj_class.specs.declared.lookup.Found.TheVariants.{Plain, Bound}
use Rattle.obj_class.specs.Named.{method_of}
use Rattle.obj_class.specs.AttrRows.{attr_row, set_attr_row, del_attr_row, find_attr_row, missing_row}
use Rattle.obj_class.specs.Attributes.{attribute, attribute_fault}
use Rattle.obj_class.specs.Bases.{ref}
use Rattle.obj_class.proofs.AttrHolds.{IsGood, attribute_good}
use Rattle.obj_class.proofs.ClassHolds.{class_holds}
use Rattle.obj_class.proofs.Parts.{is_at}
use Rattle.obj_dict.specs.Dict.{get_row, del_row}
use Rattle.obj_dict.proofs.Holding.{dict_holds}
use Rattle.obj_seq.specs.Seq.{place, bound_or}
use Rattle.obj_seq.specs.HoldsLaws.{IsSequenceAt}
use Rattle.obj_seq.proofs.HoldingGather.{seq_holds}
use Rattle.obj_str.specs.Strings.{new_text}
use Rattle.py_frames.specs.declared.state.Frame.{Frame}
use Rattle.py_frames.specs.declared.next.Next.{Next}
use Rattle.py_frames.specs.declared.next.Next.TheVariants.{Goes}
use Rattle.py_frames.specs.AttrInstrs.{loaded_attr, load_attr_row, stored_attr, store_attr_row, dropped_attr, del_attr_instr, missing_method, found_method, loaded_method, attr_or_method, method_or_attr, load_method_row}
use Rattle.py_frames.specs.Fits.{IsThrough, Fits}
use Rattle.py_frames.specs.GlobalRows.{first_cell}
use Rattle.py_frames.specs.ItemRows.{byte_row, byte_item_row, text_item, list_item, value_or_key, dict_item, item_by, item_of, load_item_row, set_list_item, set_by, set_item, store_item_row, del_list_item, del_key, del_by, del_item, del_item_instr, bounds_in, bound_in, bound_by, bytes_part, text_slice, slice_by, slice_at, slice_of, slice_instr}
use Rattle.py_frames.specs.Raising.{place_in, give}
use Rattle.py_frames.specs.Sound.{rules_of}
use Rattle.py_frames.proofs.Given.{Context, at_ref, ref_at, there_of}
use Rattle.py_frames.proofs.MethodNumbers.{method_below}
use Rattle.py_frames.proofs.Raised.{Keeps, Leads, Pushes, Passes, raises, leads_to, gives, finishes, then_holds, after_looks, after_root}

-- two values are pushed
abbrev pub PushesTwo : InstrEffect → Type 0
PushesTwo e = IsThrough e.flow × (e.pushes ≡ 2)

-- the name of a number
abbrev pub Names : Program → ℕ → Type 0
Names p n = (first_text ≤ n) × (n < first_cell p)

module _ {S : Type 0} (p : Program) (count roots : ℕ) (stands : Heap → S → Type 0) where
  abbrev Kept : {A : Type 0} → (A → Heap → Type 0) → Row S A → Heap → Type 0
  Kept q row h = Keeps p count roots stands q row h

  -- ---- operations answer

  -- the fault needs nothing of the heap
  raised : {A : Type 0} (q : A → Heap → Type 0) (fault : Fault) (h : Heap) → IsFault h fault →
      Kept (IsGot q) (Ret (Raise fault)) h
  raised q fault h i = holds_ret (rules_of p count) stands (IsGot q) (Raise fault) h i

  abbrev wrong : {A : Type 0} (q : A → Heap → Type 0) (h : Heap) → Kept (IsGot q) (Ret (Raise operand_fault)) h
  wrong q h = raised q operand_fault h (lit< tt, lit< tt, tt)

  -- of a record, by its kind
  pub after_kind : {B : Type 0} (z : B → Heap → Type 0) (a : Addr) (g : Kind → Row S B) (h : Heap) →
      Context p count roots h → IsItem h (Ref a) → ((k : Kind) → RefTo h k (Ref a) → Kept z (g k) h) →
      Kept z (bind (kind_row a.0) g) h
  after_kind z a g h c i n =
      let t = there_of h a i in
      after_looks p count roots stands (λ k. k ≡ t.0.kind) z (kind_row a.0) g h c (kind_looks S h a.0 t.0 t.1)
      (λ k q. n k (at_ref h k a.0 t.0 t.1 (sym q)))

  -- the bytes of a string
  after_bytes : {B : Type 0} (z : B → Heap → Type 0) (a : ℕ) (g : List ℕ → Row S B) (h : Heap) →
      Context p count roots h → RefTo h Str (ref a) → ((t : List ℕ) → Kept z (g t) h) → Kept z (bind (bytes_row a) g) h
  after_bytes z a g h c i n =
      let t = is_at h Str a i in
      after_looks p count roots stands (λ bs. bs ≡ t.rec.bytes) z (bytes_row a) g h c (bytes_looks S h a t.rec t.here)
      (λ bs q. n bs)

  -- a new string
  pub text_made : (bs : List ℕ) (h : Heap) → Context p count roots h → Kept IsAnswer (new_text bs) h
  unfolding new_text
  text_made bs h c = by (leb (length bs) LENGTH_LIMIT) refl
    where
      by : (b : Bool) → leb (length bs) LENGTH_LIMIT ≡ b →
          Kept IsAnswer (cond b (Rattle.obj_str.specs.Strings.made_text bs) (Ret (Raise memory_fault))) h
      by true t = holds_make (rules_of p count) stands IsAnswer (new_rec Str [] bs) (λ a. Ret (Is (ref a))) h
          (λ a. text_fits (rules_of p count) h a bs (leb-true (length bs) LENGTH_LIMIT t))
          (λ a h1 order x e item. holds_ret (rules_of p count) stands IsAnswer (Is (ref a)) h1 item)
      by false t = raised (λ v h. IsItem h v) memory_fault h (lit< tt, lit< tt, tt)

  -- ---- LOAD_ITEM
  byte_holds : (t : List ℕ) (o : Option ℕ) (h : Heap) → Context p count roots h → Kept IsAnswer (byte_row t o) h
  unfolding byte_row
  byte_holds t (Some k) h c = text_made (take 1 (drop k t)) h c
  byte_holds t None h c = raised (λ v h. IsItem h v) index_fault h (lit< tt, lit< tt, tt)

  text_item_holds : (a : ℕ) (o : Option ℤ) (h : Heap) → Context p count roots h → RefTo h Str (ref a) →
      Kept IsAnswer (text_item a o) h
  unfolding text_item byte_item_row
  text_item_holds a (Some i) h c s = after_bytes IsAnswer a (λ t. byte_row t (place i (length t))) h c s
      (λ t. byte_holds t (place i (length t)) h c)
  text_item_holds a None h c s = wrong (λ v h. IsItem h v) h

  list_item_holds : (a : ℕ) (o : Option ℤ) (h : Heap) → Context p count roots h → IsSequenceAt h a →
      Kept IsAnswer (list_item a o) h
  unfolding list_item
  list_item_holds a (Some i) h c s = let q = seq_holds (rules_of p count) stands in q.item h a i c.order s
  list_item_holds a None h c s = wrong (λ v h. IsItem h v) h

  sequence : (h : Heap) (a : ℕ) (k : Kind) → Rattle.py_data.specs.Answers.IsSequenceKind k → RefTo h k (ref a) →
      IsSequenceAt h a
  sequence h a k i s = by (h a) s
    where
      by : (o : Option Rec) → KindIn o (λ q. q ≡ k) → KindIn o Rattle.py_data.specs.Answers.IsSequenceKind
      by None j = absurd j
      by (Some r) j = subst Rattle.py_data.specs.Answers.IsSequenceKind (sym j) i

  or_key : (key : Value) (g : Got (Option Value)) (h : Heap) → IsItem h key → IsGot IfItem g h →
      IsAnswer (value_or_key key g) h
  unfolding value_or_key
  or_key key (Is (Some x)) h i j = j
  or_key key (Is None) h i j = (lit< tt, lit< tt, i)
  or_key key (Raise fault) h i j = j

  dict_item_holds : (d : ℕ) (key : Value) (h : Heap) → Context p count roots h → RefTo h Dict (ref d) → IsItem h key →
      Kept IsAnswer (dict_item d key) h
  unfolding dict_item
  dict_item_holds d key h c s i =
      let o = dict_holds (rules_of p count) stands in
      then_holds p count roots stands (IsGot IfItem) IsAnswer (get_row d key) (λ g. Ret (value_or_key key g)) h c
      (o.get h d key c.order s i)
      (λ g h1 c1 x j. holds_ret (rules_of p count) stands IsAnswer (value_or_key key g) h1
      (or_key key g h1 (item_stays h h1 x key i) j))

  item_by_holds : (a : ℕ) (i : Value) (k : Kind) (h : Heap) → Context p count roots h → RefTo h k (ref a) →
      IsItem h i → Kept IsAnswer (item_by a i k) h
  unfolding item_by
  item_by_holds a i Str h c s j = text_item_holds a (number_of i) h c s
  item_by_holds a i Tuple h c s j = list_item_holds a (number_of i) h c (sequence h a Tuple tt s)
  item_by_holds a i ListKind h c s j = list_item_holds a (number_of i) h c (sequence h a ListKind tt s)
  item_by_holds a i Dict h c s j = dict_item_holds a i h c s j
  item_by_holds a i Cell h c s j = wrong (λ v h. IsItem h v) h
  item_by_holds a i Function h c s j = wrong (λ v h. IsItem h v) h
  item_by_holds a i Class h c s j = wrong (λ v h. IsItem h v) h
  item_by_holds a i Instance h c s j = wrong (λ v h. IsItem h v) h
  item_by_holds a i Method h c s j = wrong (λ v h. IsItem h v) h
  item_by_holds a i Iter h c s j = wrong (λ v h. IsItem h v) h
  item_by_holds a i Range h c s j = wrong (λ v h. IsItem h v) h
  item_by_holds a i Lock h c s j = wrong (λ v h. IsItem h v) h
  item_by_holds a i Thread h c s j = wrong (λ v h. IsItem h v) h

  item_holds : (o i : Value) (h : Heap) → Context p count roots h → IsItem h o → IsItem h i →
      Kept IsAnswer (item_of o i) h
  unfolding item_of
  item_holds (Ref a) i h c s j = after_kind IsAnswer a (λ k. item_by a.0 i k) h c s
      (λ k q. item_by_holds a.0 i k h c q j)
  item_holds Unset i h c s j = wrong (λ v h. IsItem h v) h
  item_holds NoneValue i h c s j = wrong (λ v h. IsItem h v) h
  item_holds (BoolValue b) i h c s j = wrong (λ v h. IsItem h v) h
  item_holds (Int n) i h c s j = wrong (λ v h. IsItem h v) h
  item_holds (Builtin b) i h c s j = wrong (λ v h. IsItem h v) h

  -- ---- STORE_ITEM
  abbrev Any : Unit {0} → Heap → Type 0
  Any u h = Unit {0}

  set_list_holds : (a : ℕ) (x : Value) (o : Option ℤ) (h : Heap) → Context p count roots h → RefTo h ListKind (ref a) →
      IsItem h x → Kept IsDone (set_list_item a x o) h
  unfolding set_list_item
  set_list_holds a x (Some i) h c s j = let q = seq_holds (rules_of p count) stands in q.set_item h a i x c.order s j
  set_list_holds a x None h c s j = wrong Any h

  set_by_holds : (a : ℕ) (i x : Value) (k : Kind) (h : Heap) → Context p count roots h → RefTo h k (ref a) →
      IsItem h i → IsItem h x → Kept IsDone (set_by a i x k) h
  unfolding set_by
  set_by_holds a i x ListKind h c s j l = set_list_holds a x (number_of i) h c s l
  set_by_holds a i x Dict h c s j l = let o = dict_holds (rules_of p count) stands in o.set h a i x c.order s j l
  set_by_holds a i x Str h c s j l = wrong Any h
  set_by_holds a i x Tuple h c s j l = wrong Any h
  set_by_holds a i x Cell h c s j l = wrong Any h
  set_by_holds a i x Function h c s j l = wrong Any h
  set_by_holds a i x Class h c s j l = wrong Any h
  set_by_holds a i x Instance h c s j l = wrong Any h
  set_by_holds a i x Method h c s j l = wrong Any h
  set_by_holds a i x Iter h c s j l = wrong Any h
  set_by_holds a i x Range h c s j l = wrong Any h
  set_by_holds a i x Lock h c s j l = wrong Any h
  set_by_holds a i x Thread h c s j l = wrong Any h

  set_holds : (o i x : Value) (h : Heap) → Context p count roots h → IsItem h o → IsItem h i → IsItem h x →
      Kept IsDone (set_item o i x) h
  unfolding set_item
  set_holds (Ref a) i x h c s j l = after_kind IsDone a (λ k. set_by a.0 i x k) h c s
      (λ k q. set_by_holds a.0 i x k h c q j l)
  set_holds Unset i x h c s j l = wrong Any h
  set_holds NoneValue i x h c s j l = wrong Any h
  set_holds (BoolValue b) i x h c s j l = wrong Any h
  set_holds (Int n) i x h c s j l = wrong Any h
  set_holds (Builtin b) i x h c s j l = wrong Any h

  -- ---- DEL_ITEM
  del_list_holds : (a : ℕ) (o : Option ℤ) (h : Heap) → Context p count roots h → RefTo h ListKind (ref a) →
      Kept IsDone (del_list_item a o) h
  unfolding del_list_item
  del_list_holds a (Some i) h c s = let q = seq_holds (rules_of p count) stands in q.del_item h a i c.order s
  del_list_holds a None h c s = wrong Any h

  del_key_holds : (d : ℕ) (key : Value) (h : Heap) → Context p count roots h → RefTo h Dict (ref d) → IsItem h key →
      Kept IsDone (del_key d key) h
  unfolding del_key
  del_key_holds d key h c s i =
      let o = dict_holds (rules_of p count) stands in
      then_holds p count roots stands IsAnswer IsDone (del_row d key) (λ g. Ret (got_then g (λ x. Is tt))) h c
      (o.del h d key c.order s i) (λ g h1 c1 x j.
      holds_ret (rules_of p count) stands IsDone (got_then g (λ x. Is tt)) h1 (left g h1 j))
    where
      left : (g : Got Value) (h1 : Heap) → IsAnswer g h1 → IsDone (got_then g (λ x. Is tt)) h1
      left (Is x) h1 j = tt
      left (Raise fault) h1 j = j

  del_by_holds : (a : ℕ) (i : Value) (k : Kind) (h : Heap) → Context p count roots h → RefTo h k (ref a) → IsItem h i →
      Kept IsDone (del_by a i k) h
  unfolding del_by
  del_by_holds a i ListKind h c s j = del_list_holds a (number_of i) h c s
  del_by_holds a i Dict h c s j = del_key_holds a i h c s j
  del_by_holds a i Str h c s j = wrong Any h
  del_by_holds a i Tuple h c s j = wrong Any h
  del_by_holds a i Cell h c s j = wrong Any h
  del_by_holds a i Function h c s j = wrong Any h
  del_by_holds a i Class h c s j = wrong Any h
  del_by_holds a i Instance h c s j = wrong Any h
  del_by_holds a i Method h c s j = wrong Any h
  del_by_holds a i Iter h c s j = wrong Any h
  del_by_holds a i Range h c s j = wrong Any h
  del_by_holds a i Lock h c s j = wrong Any h
  del_by_holds a i Thread h c s j = wrong Any h

  del_holds : (o i : Value) (h : Heap) → Context p count roots h → IsItem h o → IsItem h i →
      Kept IsDone (del_item o i) h
  unfolding del_item
  del_holds (Ref a) i h c s j = after_kind IsDone a (λ k. del_by a.0 i k) h c s (λ k q. del_by_holds a.0 i k h c q j)
  del_holds Unset i h c s j = wrong Any h
  del_holds NoneValue i h c s j = wrong Any h
  del_holds (BoolValue b) i h c s j = wrong Any h
  del_holds (Int n) i h c s j = wrong Any h
  del_holds (Builtin b) i h c s j = wrong Any h

  -- ---- SLICE
  slice_by_holds : (a : ℕ) (b : Option ℤ × Option ℤ) (k : Kind) (h : Heap) → Context p count roots h →
      RefTo h k (ref a) → Kept IsAnswer (slice_by a b k) h
  unfolding slice_by text_slice
  slice_by_holds a b Str h c s =
      after_bytes IsAnswer a (λ t. new_text
      (bytes_part t (bound_or b.0 0 (length t)) (bound_or b.1 (length t) (length t)))) h c s
      (λ t. text_made (bytes_part t (bound_or b.0 0 (length t)) (bound_or b.1 (length t) (length t))) h c)
  slice_by_holds a b Tuple h c s = let q = seq_holds (rules_of p count) stands in
      q.slice h a b.0 b.1 c.order (sequence h a Tuple tt s)
  slice_by_holds a b ListKind h c s = let q = seq_holds (rules_of p count) stands in
      q.slice h a b.0 b.1 c.order (sequence h a ListKind tt s)
  slice_by_holds a b Dict h c s = wrong (λ v h. IsItem h v) h
  slice_by_holds a b Cell h c s = wrong (λ v h. IsItem h v) h
  slice_by_holds a b Function h c s = wrong (λ v h. IsItem h v) h
  slice_by_holds a b Class h c s = wrong (λ v h. IsItem h v) h
  slice_by_holds a b Instance h c s = wrong (λ v h. IsItem h v) h
  slice_by_holds a b Method h c s = wrong (λ v h. IsItem h v) h
  slice_by_holds a b Iter h c s = wrong (λ v h. IsItem h v) h
  slice_by_holds a b Range h c s = wrong (λ v h. IsItem h v) h
  slice_by_holds a b Lock h c s = wrong (λ v h. IsItem h v) h
  slice_by_holds a b Thread h c s = wrong (λ v h. IsItem h v) h

  -- bounds that can't be taken are unsupported operands
  abbrev AreBounds : Got (Option ℤ × Option ℤ) → Type 0
  AreBounds (Is b) = Unit {0}
  AreBounds (Raise fault) = fault ≡ operand_fault

  abbrev IsBound : Got (Option ℤ) → Type 0
  IsBound (Is b) = Unit {0}
  IsBound (Raise fault) = fault ≡ operand_fault

  number_bound : (o : Option ℤ) → IsBound (bound_by o)
  number_bound (Some i) = tt
  number_bound None = refl

  one_bound : (x : Value) → IsBound (bound_in x)
  one_bound NoneValue = tt
  one_bound Unset = number_bound (number_of Unset)
  one_bound (BoolValue b) = tt
  one_bound (Int n) = tt
  one_bound (Ref a) = refl
  one_bound (Builtin b) = refl

  both_bounds : (x y : Value) → AreBounds (bounds_in x y)
  both_bounds x y = by (bound_in x) (bound_in y) (one_bound x) (one_bound y)
    where
      by : (g q : Got (Option ℤ)) → IsBound g → IsBound q → AreBounds (got_then g (λ i. got_then q (λ j. Is (i, j))))
      by (Is i) (Is j) u v = tt
      by (Is i) (Raise fault) u v = v
      by (Raise fault) q u v = u

  slice_at_holds : (a : Addr) (g : Got (Option ℤ × Option ℤ)) (h : Heap) → Context p count roots h → IsItem h (Ref a) →
      AreBounds g → Kept IsAnswer (slice_at a.0 g) h
  unfolding slice_at
  slice_at_holds a (Is b) h c s i = after_kind IsAnswer a (λ k. slice_by a.0 b k) h c s
      (λ k q. slice_by_holds a.0 b k h c q)
  slice_at_holds a (Raise fault) h c s i =
      raised (λ v h. IsItem h v) fault h (subst (IsFault h) (sym i) (lit< tt, lit< tt, tt))

  slice_holds : (o : Value) (g : Got (Option ℤ × Option ℤ)) (h : Heap) → Context p count roots h → IsItem h o →
      AreBounds g → Kept IsAnswer (slice_of o g) h
  unfolding slice_of
  slice_holds (Ref a) g h c s i = slice_at_holds a g h c s i
  slice_holds Unset g h c s i = wrong (λ v h. IsItem h v) h
  slice_holds NoneValue g h c s i = wrong (λ v h. IsItem h v) h
  slice_holds (BoolValue b) g h c s i = wrong (λ v h. IsItem h v) h
  slice_holds (Int n) g h c s i = wrong (λ v h. IsItem h v) h
  slice_holds (Builtin b) g h c s i = wrong (λ v h. IsItem h v) h

  -- ---- a name that no attribute has
  abbrev Raises : Got Value → Heap → Type 0
  Raises (Is x) h = ⊥
  Raises (Raise fault) h = IsFault h fault

  missing_holds : (name : ℕ) (h : Heap) → Context p count roots h → RefTo h Str (ref name) →
      Kept Raises (missing_row name) h
  unfolding missing_row
  missing_holds name h c i = after_bytes Raises name (λ t. Ret (Raise (attribute_fault t))) h c i
      (λ t. holds_ret (rules_of p count) stands Raises (Raise (attribute_fault t)) h (lit< tt, lit< tt, tt))

  module _ (e : InstrEffect) (f : Frame) where
    abbrev Ok : Row S Next → Heap → Type 0
    Ok row h = Leads p count roots stands e f row h

    -- ---- the instructions on items
    pub load_item_holds : (o i : Value) (h : Heap) → Context p count roots h → Pushes e → IsItem h o → IsItem h i →
        Ok (load_item_row roots o i) h
    unfolding load_item_row
    load_item_holds o i h c t s j = gives p count roots stands e f (item_of o i) h c t (item_holds o i h c s j)

    pub store_item_holds : (x o i : Value) (h : Heap) → Context p count roots h → Passes e → IsItem h x → IsItem h o →
        IsItem h i → Ok (store_item_row roots x o i) h
    unfolding store_item_row
    store_item_holds x o i h c t l s j = finishes p count roots stands e f Any (set_item o i x) h c t
        (set_holds o i x h c s j l)

    pub del_item_holds : (o i : Value) (h : Heap) → Context p count roots h → Passes e → IsItem h o → IsItem h i →
        Ok (del_item_instr roots o i) h
    unfolding del_item_instr
    del_item_holds o i h c t s j = finishes p count roots stands e f Any (del_item o i) h c t (del_holds o i h c s j)

    pub slice_instr_holds : (o i j : Value) (h : Heap) → Context p count roots h → Pushes e → IsItem h o →
        Ok (slice_instr roots o i j) h
    unfolding slice_instr
    slice_instr_holds o i j h c t s = gives p count roots stands e f (slice_of o (bounds_in i j)) h c t
        (slice_holds o (bounds_in i j) h c s (both_bounds i j))

    -- ---- attributes
    abbrev name_at : (n : ℕ) (h : Heap) → Context p count roots h → ℕ
    name_at n h c = place_in (value_at c.rooted.known.list.values n)

    is_name : (n : ℕ) (h : Heap) (c : Context p count roots h) → Names p n → RefTo h Str (ref (name_at n h c))
    is_name n h c w = ref_at h Str (value_at c.rooted.known.list.values n) (c.rooted.texts n w.0 w.1)

    pub load_attr_holds : (n : ℕ) (o : Value) (h : Heap) → Context p count roots h → Names p n → Pushes e →
        IsItem h o → Ok (load_attr_row roots n o) h
    unfolding load_attr_row loaded_attr
    load_attr_holds n o h c w t i =
        let k = class_holds (rules_of p count) stands in
        after_root p count roots stands (Fits p e f) n (λ name. loaded_attr roots o (place_in name)) h c
        (gives p count roots stands e f (attr_row roots o (name_at n h c)) h c t
        (k.attr h roots (name_at n h c) o c.order c.rooted.known i (is_name n h c w)))

    pub store_attr_holds : (n : ℕ) (x o : Value) (h : Heap) → Context p count roots h → Names p n → Passes e →
        IsItem h x → IsItem h o → Ok (store_attr_row roots n x o) h
    unfolding store_attr_row stored_attr
    store_attr_holds n x o h c w t i j =
        let k = class_holds (rules_of p count) stands in
        after_root p count roots stands (Fits p e f) n (λ name. stored_attr roots x o (place_in name)) h c
        (finishes p count roots stands e f Any (set_attr_row o (name_at n h c) x) h c t
        (k.set_attr h (name_at n h c) o x c.order j (is_name n h c w) i))

    pub del_attr_holds : (n : ℕ) (o : Value) (h : Heap) → Context p count roots h → Names p n → Passes e → IsItem h o →
        Ok (del_attr_instr roots n o) h
    unfolding del_attr_instr dropped_attr
    del_attr_holds n o h c w t i =
        let k = class_holds (rules_of p count) stands in
        after_root p count roots stands (Fits p e f) n (λ name. dropped_attr roots o (place_in name)) h c
        (finishes p count roots stands e f Any (del_attr_row o (name_at n h c)) h c t
        (k.del_attr h (name_at n h c) o c.order i (is_name n h c w)))

    -- the attribute isn't there: nothing is pushed but an exception raised
    raised_given : (g : Got Value) (h : Heap) → Context p count roots h → Raises g h → Ok (give roots g) h
    unfolding give
    raised_given (Is x) h c i = absurd i
    raised_given (Raise fault) h c i = raises p count roots stands e f fault h c i

    missing_method_holds : (name : ℕ) (h : Heap) → Context p count roots h → RefTo h Str (ref name) →
        Ok (missing_method roots name) h
    unfolding missing_method
    missing_method_holds name h c i = then_holds p count roots stands Raises (Fits p e f) (missing_row name)
        (λ g. give roots g) h c (missing_holds name h c i) (λ g h1 c1 x j. raised_given g h1 c1 j)

    found_holds : (o : Value) (name : ℕ) (found : Option Found) (h : Heap) → (c : Context p count roots h) →
        RefTo h Str (ref name) → PushesTwo e → IsItem h o → IfSome found (IsGood (rules_of p count) h c.order) →
        Ok (found_method roots o name found) h
    unfolding found_method
    found_holds o name None h c s t i j = missing_method_holds name h c s
    found_holds o name (Some (Plain x)) h c s t i j = leads_to p count roots stands e f (Goes (x ∷ Unset ∷ [])) h
        (t.0, sym t.1, (j.0, (tt, tt)))
    found_holds o name (Some (Bound x)) h c s t i j = leads_to p count roots stands e f (Goes (x ∷ o ∷ [])) h
        (t.0, sym t.1, (j.0.0, (i.0, tt)))

    attr_or_method_holds : (n : ℕ) (o : Value) (h : Heap) → Context p count roots h → Names p n → PushesTwo e →
        IsItem h o → Ok (attr_or_method roots n o) h
    unfolding attr_or_method loaded_method
    attr_or_method_holds n o h c w t i =
        let k = class_holds (rules_of p count) stands in
        let name = name_at n h c in
        let s = is_name n h c w in
        let good = attribute_good (rules_of p count) h c.order roots name o c.rooted.known in
        after_root p count roots stands (Fits p e f) n (λ name. loaded_method roots o (place_in name)) h c
        (after_looks p count roots stands (λ z. z ≡ attribute h roots o name) (Fits p e f) (find_attr_row roots o name)
        (λ z. found_method roots o name z) h c (k.find_attr h roots name o c.order c.rooted.known i s)
        (λ z q. found_holds o name z h c s t i
        (subst (λ z. IfSome z (IsGood (rules_of p count) h c.order)) (sym q) good)))

    method_or_attr_holds : (n : ℕ) (o : Value) (b : Option ℕ) (h : Heap) → Context p count roots h → Names p n →
        PushesTwo e → IsItem h o → IfSome b (λ b. b < builtin_count) → Ok (method_or_attr roots n o b) h
    unfolding method_or_attr
    method_or_attr_holds n o (Some b) h c w t i l = leads_to p count roots stands e f (Goes (Builtin b ∷ o ∷ [])) h
        (t.0, sym t.1, (l, (i.0, tt)))
    method_or_attr_holds n o None h c w t i l = attr_or_method_holds n o h c w t i

    pub load_method_holds : (n : ℕ) (text : List ℕ) (o : Value) (h : Heap) → Context p count roots h → Names p n →
        PushesTwo e → IsItem h o → Ok (load_method_row roots n text o) h
    unfolding load_method_row
    load_method_holds n text (Ref a) h c w t i =
        after_kind (Fits p e f) a (λ k. method_or_attr roots n (Ref a) (method_of k text)) h c i
        (λ k q. method_or_attr_holds n (Ref a) (method_of k text) h c w t i (method_below k text))
    load_method_holds n text o h c w t i = attr_or_method_holds n o h c w t i
