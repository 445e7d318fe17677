-- Over each heap in order the methods of strings hold, and no record is longer in their course than before them or at
-- their end.
use Rattle.std.proofs.Common.{arith, ◌≡◌, ℕ, zero, suc, ◌≤◌, ◌==◌, Bool, true, false, cond, List, [], ◌∷◌, ◌++◌, length, Option, Some, None, refl, sym, subst, lit<, length-append}
use Rattle.std.specs.Prelude.{leb, pos, negsuc, is_some, IfSome, ◌+◌, ◌-◌, filter}
use Rattle.std.proofs.lemmas.Bool.{leb-true}
use Rattle.py_base.specs.declared.kind.Kind.TheVariants.{List as ListKind, Str}
use Rattle.py_data.specs.declared.value.Value.{Value}
use Rattle.py_data.specs.declared.value.Value.TheVariants.{Unset, None as NoneValue, Bool as BoolValue, Int, Ref, Builtin}
use Rattle.py_data.specs.declared.record.Fault.{Fault}
use Rattle.py_data.specs.declared.record.Got.{Got}
use Rattle.py_data.specs.declared.record.Got.TheVariants.{Is, Raise}
use Rattle.py_data.specs.declared.record.TheConstants.{LENGTH_LIMIT}
use Rattle.py_data.specs.Answers.{IsFault, IsGot, IsAnswer, IfItem}
use Rattle.py_data.specs.Closed.{IsItem}
use Rattle.py_data.specs.Every.{Every}
use Rattle.py_data.specs.Fault.{memory_fault, operand_fault, argument_fault}
use Rattle.py_data.specs.Heap.{Heap, Rec, new_rec}
use Rattle.py_data.specs.Holds.{Holds}
use Rattle.py_data.specs.Looking.{bytes_row, got_row}
use Rattle.py_data.specs.Order.{Rules, IsOrdered, Extends}
use Rattle.py_data.specs.Row.{Row, Ret, bind}
use Rattle.py_data.specs.Steady.{Steady, Calm}
use Rattle.py_data.proofs.CalmRows.{ret_calm, read_calm, make_calm, cond_calm, bind_steady, bind_calm, got_calm, bytes_calm}
use Rattle.py_data.proofs.EveryLemmas.{every_and, every_weaken}
use Rattle.py_data.proofs.Holding.{holds_ret, holds_bind}
use Rattle.py_data.proofs.HoldingCalls.{holds_read, holds_make, holds_looks}
use Rattle.py_data.proofs.ItemLemmas.{item_stays, items_stay}
use Rattle.py_data.proofs.Keep.{kind_stays}
use Rattle.py_data.proofs.Looking.{bytes_looks}
use Rattle.py_data.proofs.Making.{sequence_fits, text_fits}
use Rattle.obj_seq.proofs.Holding.{at_of, cond_holds}
use Rattle.obj_seq.proofs.HoldingGather.{gather_holds}
use Rattle.obj_seq.proofs.SteadyRows.{gather_steady}
use Rattle.obj_seq.specs.Gather.{gather_row}
use Rattle.obj_seq.specs.Iter.{is_str}
use Rattle.obj_str.specs.Cutting.{pieces_of}
use Rattle.obj_str.specs.HoldsLaws.{IsStrAt, StrHolds, StrSteady}
use Rattle.obj_str.specs.Methods.{separator_fault, only, both, text_in, text_at, text_item, texts_then, texts_row, items_row, join_with, piece_row, strings_then, new_list, list_row, cut_row, cut_at, is_none, split_at, split_with, split_row, bare_row, part_in, part_with, begins_value, ends_value, place_value, find_value, replace_in, replace_by, replace_with, method_row}
use Rattle.obj_str.specs.Pieces.{begins, ends, find, is_blank, onto, cut, split, cut_blanks, joined, has_bytes, strip, upper, lower, replaced}
use Rattle.obj_str.specs.Strings.{made_text, new_text}

-- ---- arguments
only_item : (h : Heap) (args : List Value) → Every (IsItem h) args → IfItem (only args) h
only_item h [] i = tt
only_item h (x ∷ []) i = i.0
only_item h (x ∷ y ∷ zs) i = tt

both_items : (h : Heap) (args : List Value) → Every (IsItem h) args →
    IfSome (both args) (λ p. IsItem h p.0 × IsItem h p.1)
both_items h [] i = tt
both_items h (x ∷ []) i = tt
both_items h (x ∷ y ∷ []) i = (i.0, i.1.0)
both_items h (x ∷ y ∷ z ∷ zs) i = tt

-- ---- answers
bool_item : (h : Heap) (b : Bool) → IsItem h (BoolValue b)
bool_item h b = (tt, λ e. let q : BoolValue b ≡ Unset = e in cc)

place_item : (h : Heap) (o : Option ℕ) → IsItem h (place_value o)
place_item h (Some k) = (tt, λ e. let q : Int (pos k) ≡ Unset = e in cc)
place_item h None = (tt, λ e. let q : Int (negsuc 0) ≡ Unset = e in cc)

-- ---- pieces are no longer than the text
abbrev IsShort : List ℕ → Type 0
IsShort p = length p ≤ LENGTH_LIMIT

-- one byte more before the first piece
short_onto : (b n : ℕ) (ps : List (List ℕ)) → Every (λ p. length p ≤ n) ps → Every (λ p. length p ≤ suc n) (onto b ps)
short_onto b n [] i = (omega arith, tt)
short_onto b n (p ∷ ps) i = (
  omega (arith, i.0),
  every_weaken (λ p. length p ≤ n) (λ p. length p ≤ suc n)
      (λ p l. omega (arith, l)) ps i.1,
)

short_more : (n : ℕ) (ps : List (List ℕ)) → Every (λ p. length p ≤ n) ps → Every (λ p. length p ≤ suc n) ([] ∷ ps)
short_more n ps i = (
  omega arith,
  every_weaken (λ p. length p ≤ n) (λ p. length p ≤ suc n) (λ p l. omega (arith, l)) ps
      i,
)

by_test : {A : Type 0} (P : A → Type 0) (t : Bool) (x y : A) → P x → P y → P (cond t x y)
by_test P true x y i j = i
by_test P false x y i j = j

short_cut : (n : ℕ) (sep bs : List ℕ) → Every (λ p. length p ≤ length bs) (cut n sep bs)
short_cut zero sep [] = (omega arith, tt)
short_cut (suc n) sep [] = (omega arith, tt)
short_cut (suc n) sep (b ∷ bs) = every_weaken (λ p. length p ≤ length bs) (λ p. length p ≤ suc (length bs))
    (λ p l. omega (arith, l)) (cut n sep bs) (short_cut n sep bs)
short_cut zero sep (b ∷ bs) =
    by_test (Every (λ p. length p ≤ suc (length bs))) (begins sep (b ∷ bs)) ([] ∷ cut (length sep - 1) sep bs)
    (onto b (cut zero sep bs))
    (short_more (length bs) (cut (length sep - 1) sep bs) (short_cut (length sep - 1) sep bs))
    (short_onto b (length bs) (cut zero sep bs) (short_cut zero sep bs))

short_blanks : (bs : List ℕ) → Every (λ p. length p ≤ length bs) (cut_blanks bs)
short_blanks [] = (omega arith, tt)
short_blanks (b ∷ bs) =
    by_test (Every (λ p. length p ≤ suc (length bs))) (is_blank b) ([] ∷ cut_blanks bs) (onto b (cut_blanks bs))
    (short_more (length bs) (cut_blanks bs) (short_blanks bs))
    (short_onto b (length bs) (cut_blanks bs) (short_blanks bs))

every_filter : (P : List ℕ → Type 0) (t : List ℕ → Bool) (ps : List (List ℕ)) → Every P ps → Every P (filter t ps)
every_filter P t [] i = tt
every_filter P t (p ∷ ps) i = by_test (Every P) (t p) (p ∷ filter t ps) (filter t ps) (i.0, every_filter P t ps i.1)
    (every_filter P t ps i.1)

pieces_short : (sep : Option (List ℕ)) (bs : List ℕ) → length bs ≤ LENGTH_LIMIT → Every IsShort (pieces_of sep bs)
pieces_short (Some sep) bs l = every_weaken (λ p. length p ≤ length bs) IsShort (λ p m. omega (arith, l, m))
    (split sep bs) (short_cut 0 sep bs)
pieces_short None bs l = every_filter IsShort has_bytes (cut_blanks bs)
    (every_weaken (λ p. length p ≤ length bs) IsShort (λ p m. omega (arith, l, m)) (cut_blanks bs) (short_blanks bs))

module _ {S : Type 0} (rules : Rules) (stands : Heap → S → Type 0) where
  raise_holds : {A : Type 0} (p : A → Heap → Type 0) (e : Fault) (h : Heap) → IsFault h e →
      Holds rules stands (IsGot p) (Ret (Raise e)) h
  raise_holds p e h i = holds_ret rules stands (IsGot p) (Raise e) h i

  -- a part that may raise comes first
  got_holds : {A B : Type 0} (p : A → Heap → Type 0) (q : B → Heap → Type 0) (row : Row S (Got A))
      (f : A → Row S (Got B)) (h : Heap) → IsOrdered rules h → Holds rules stands (IsGot p) row h
      → ((a : A) (h1 : Heap) → IsOrdered rules h1 → Extends h h1 → p a h1 → Holds rules stands (IsGot q) (f a) h1) →
      Holds rules stands (IsGot q) (bind row (got_row f)) h
  got_holds p q row f h order i n = holds_bind rules stands (IsGot p) (IsGot q) row (got_row f) h order i by
    where
      by : (g : Got _) (h1 : Heap) → IsOrdered rules h1 → Extends h h1 → IsGot p g h1 →
          Holds rules stands (IsGot q) (got_row f g) h1
      by (Is a) h1 order1 x j = n a h1 order1 x j
      by (Raise e) h1 order1 x j = holds_ret rules stands (IsGot q) (Raise e) h1 j

  -- ---- new records
  text_holds : (bs : List ℕ) (h : Heap) → length bs ≤ LENGTH_LIMIT → Holds rules stands IsAnswer (made_text bs) h
  text_holds bs h l =
      holds_make rules stands IsAnswer (new_rec Str [] bs) (λ a. Ret (Is (Ref (record { 0 = a })))) h
      (λ a. text_fits rules h a bs l)
      (λ a h1 order1 x e item. holds_ret rules stands IsAnswer (Is (Ref (record { 0 = a }))) h1 item)

  pub new_text_holds : (h : Heap) (bs : List ℕ) → IsOrdered rules h → Holds rules stands IsAnswer (new_text bs) h
  unfolding new_text
  new_text_holds h bs order =
      cond_holds rules stands IsAnswer (leb (length bs) LENGTH_LIMIT) (made_text bs) (Ret (Raise memory_fault)) h
      (λ fits. text_holds bs h (leb-true (length bs) LENGTH_LIMIT fits))
      (λ long. raise_holds (λ v h. IsItem h v) memory_fault h (lit< tt, lit< tt, tt))

  -- ---- texts among the arguments
  str_bytes : (h : Heap) (a : ℕ) (k : List ℕ → Row S (Got Value)) → IsOrdered rules h → IsStrAt h a →
      ((bs : List ℕ) → length bs ≤ LENGTH_LIMIT → Holds rules stands IsAnswer (k bs) h) →
      Holds rules stands IsAnswer (bind (bytes_row a) k) h
  str_bytes h a k order at n =
      let t = at_of h a (λ k. k ≡ Str) at in
      let short = (order.each a t.rec t.here).short.1 in
      holds_looks rules stands IsAnswer (λ bs. bs ≡ t.rec.bytes) (bytes_row a) k h order
      (bytes_looks S h a t.rec t.here) (λ bs e. n bs (subst (λ l. length l ≤ LENGTH_LIMIT) (sym e) short))

  str_stays : (h h1 : Heap) (a : ℕ) → Extends h h1 → IsStrAt h a → IsStrAt h1 a
  str_stays h h1 a x at = kind_stays h h1 x a (λ k. k ≡ Str) at

  -- a text that was read
  abbrev IsRead : List ℕ → Heap → Type 0
  IsRead p h = Unit {0}

  here_holds : (a : ℕ) (h : Heap) (o : Option Rec) → h a ≡ o → is_some o ≡ true →
      Holds rules stands (IsGot IsRead) (text_at a) h
  unfolding text_at
  here_holds a h None e i = absurd (let q : false ≡ true = i in cc)
  here_holds a h (Some r) e i =
      holds_read rules stands (IsGot IsRead) a text_in h r e
      (cond_holds rules stands (IsGot IsRead) (is_str r.kind) (Ret (Is r.bytes)) (Ret (Raise argument_fault)) h
      (λ y. holds_ret rules stands (IsGot IsRead) (Is r.bytes) h tt)
      (λ n. raise_holds IsRead argument_fault h (lit< tt, lit< tt, tt)))

  item_holds : (h : Heap) (x : Value) → IsItem h x → Holds rules stands (IsGot IsRead) (text_item x) h
  unfolding text_item
  item_holds h (Ref a) i = here_holds a.0 h (h a.0) refl i.0
  item_holds h Unset i = raise_holds IsRead argument_fault h (lit< tt, lit< tt, tt)
  item_holds h NoneValue i = raise_holds IsRead argument_fault h (lit< tt, lit< tt, tt)
  item_holds h (BoolValue b) i = raise_holds IsRead argument_fault h (lit< tt, lit< tt, tt)
  item_holds h (Int n) i = raise_holds IsRead argument_fault h (lit< tt, lit< tt, tt)
  item_holds h (Builtin b) i = raise_holds IsRead argument_fault h (lit< tt, lit< tt, tt)

  -- one text, and then what is done with it
  with_text : (h : Heap) (x : Value) (f : List ℕ → Row S (Got Value)) → IsOrdered rules h → IsItem h x →
      ((p : List ℕ) (h1 : Heap) → IsOrdered rules h1 → Extends h h1 → Holds rules stands IsAnswer (f p) h1) →
      Holds rules stands IsAnswer (bind (text_item x) (got_row f)) h
  with_text h x f order i n = got_holds IsRead (λ v h. IsItem h v) (text_item x) f h order (item_holds h x i)
      (λ p h1 order1 y j. n p h1 order1 y)

  -- ---- join
  texts_holds : (k : List (List ℕ) → Row S (Got Value)) →
      ((ps : List (List ℕ)) (h : Heap) → IsOrdered rules h → Holds rules stands IsAnswer (k ps) h) →
      (vs : List Value) (ps : List (List ℕ)) (h : Heap) → IsOrdered rules h → Every (IsItem h) vs
      → Holds rules stands IsAnswer (texts_then k vs ps) h
  unfolding texts_then
  texts_holds k n [] ps h order i = n ps h order
  texts_holds k n (x ∷ xs) ps h order i =
      with_text h x (λ p. texts_then k xs (ps ++ p ∷ [])) order i.0
      (λ p h1 order1 y. texts_holds k n xs (ps ++ p ∷ []) h1 order1 (items_stay h h1 y xs i.1))

  joins_holds : (h : Heap) (a : ℕ) (vs : List Value) → IsOrdered rules h → IsStrAt h a → Every (IsItem h) vs →
      Holds rules stands IsAnswer (items_row a vs) h
  unfolding items_row
  joins_holds h a vs order at i =
      str_bytes h a (λ sep. texts_row sep vs) order at
      (λ sep l. texts_holds (λ ps. new_text (joined sep ps))
      (λ ps h1 order1. new_text_holds h1 (joined sep ps) order1) vs [] h order i)

  abbrev AreItems : List Value → Heap → Type 0
  AreItems vs h = Every (IsItem h) vs × (length vs ≤ LENGTH_LIMIT)

  join_holds : (h : Heap) (a : ℕ) (o : Option Value) → IsOrdered rules h → IsStrAt h a → IfItem o h →
      Holds rules stands IsAnswer (join_with a o) h
  unfolding join_with
  join_holds h a (Some x) order at i =
      got_holds AreItems (λ v h. IsItem h v) (gather_row x) (items_row a) h order
      (gather_holds rules stands h x order i)
      (λ vs h1 order1 y j. joins_holds h1 a vs order1 (str_stays h h1 a y at) j.0)
  join_holds h a None order at i = raise_holds (λ v h. IsItem h v) argument_fault h (lit< tt, lit< tt, tt)

  -- ---- split
  list_holds : (h : Heap) (vs : List Value) → Every (IsItem h) vs → length vs ≤ LENGTH_LIMIT →
      Holds rules stands IsAnswer (new_list vs) h
  unfolding new_list
  list_holds h vs i l =
      holds_make rules stands IsAnswer (new_rec ListKind vs []) (λ a. Ret (Is (Ref (record { 0 = a })))) h
      (λ a. sequence_fits rules h a ListKind vs tt i l)
      (λ a h1 order1 x e item. holds_ret rules stands IsAnswer (Is (Ref (record { 0 = a }))) h1 item)

  strings_holds : (ps : List (List ℕ)) (vs : List Value) (h : Heap) → Every (IsItem h) vs → Every IsShort ps →
      length vs + length ps ≤ LENGTH_LIMIT → Holds rules stands IsAnswer (strings_then new_list ps vs) h
  unfolding strings_then piece_row bind
  strings_holds [] vs h i s l = list_holds h vs i (omega (arith, l))
  strings_holds (p ∷ ps) vs h i s l =
      holds_make rules stands IsAnswer (new_rec Str [] p)
      (λ a. strings_then new_list ps (vs ++ Ref (record { 0 = a }) ∷ [])) h (λ a. text_fits rules h a p s.0)
      (λ a h1 order1 x e item.
      strings_holds ps (vs ++ Ref (record { 0 = a }) ∷ []) h1
      (every_and (IsItem h1) vs (Ref (record { 0 = a }) ∷ []) (items_stay h h1 x vs i) (item, tt)) s.1
      (omega (arith, l, length-append vs (Ref (record { 0 = a }) ∷ []))))

  pieces_holds : (h : Heap) (ps : List (List ℕ)) → Every IsShort ps → Holds rules stands IsAnswer (list_row ps) h
  unfolding list_row
  pieces_holds h ps s =
      cond_holds rules stands IsAnswer (leb (length ps) LENGTH_LIMIT) (strings_then new_list ps [])
      (Ret (Raise memory_fault)) h
      (λ fits. strings_holds ps [] h tt s (omega (arith, leb-true (length ps) LENGTH_LIMIT fits)))
      (λ long. raise_holds (λ v h. IsItem h v) memory_fault h (lit< tt, lit< tt, tt))

  cuts_holds : (h : Heap) (a : ℕ) (sep : Option (List ℕ)) → IsOrdered rules h → IsStrAt h a →
      Holds rules stands IsAnswer (cut_row a sep) h
  unfolding cut_row
  cuts_holds h a sep order at = str_bytes h a (λ bs. list_row (pieces_of sep bs)) order at
      (λ bs l. pieces_holds h (pieces_of sep bs) (pieces_short sep bs l))

  cut_at_holds : (h : Heap) (a : ℕ) (sep : List ℕ) → IsOrdered rules h → IsStrAt h a →
      Holds rules stands IsAnswer (cut_at a sep) h
  unfolding cut_at
  cut_at_holds h a sep order at =
      cond_holds rules stands IsAnswer (has_bytes sep) (cut_row a (Some sep)) (Ret (Raise separator_fault)) h
      (λ y. cuts_holds h a (Some sep) order at)
      (λ n. raise_holds (λ v h. IsItem h v) separator_fault h (lit< tt, lit< tt, tt))

  split_at_holds : (h : Heap) (a : ℕ) (x : Value) → IsOrdered rules h → IsStrAt h a → IsItem h x →
      Holds rules stands IsAnswer (split_at a x) h
  unfolding split_at
  split_at_holds h a x order at i =
      cond_holds rules stands IsAnswer (is_none x) (cut_row a None) (bind (text_item x) (got_row (cut_at a))) h
      (λ y. cuts_holds h a None order at)
      (λ n. with_text h x (cut_at a) order i (λ p h1 order1 y. cut_at_holds h1 a p order1 (str_stays h h1 a y at)))

  split_one_holds : (h : Heap) (a : ℕ) (o : Option Value) → IsOrdered rules h → IsStrAt h a → IfItem o h →
      Holds rules stands IsAnswer (split_with a o) h
  unfolding split_with
  split_one_holds h a (Some x) order at i = split_at_holds h a x order at i
  split_one_holds h a None order at i = raise_holds (λ v h. IsItem h v) argument_fault h (lit< tt, lit< tt, tt)

  split_holds : (h : Heap) (a : ℕ) (args : List Value) → IsOrdered rules h → IsStrAt h a → Every (IsItem h) args →
      Holds rules stands IsAnswer (split_row a args) h
  split_holds h a args order at i =
      cond_holds rules stands IsAnswer (length args == 0) (cut_row a None) (split_with a (only args)) h
      (λ y. cuts_holds h a None order at) (λ n. split_one_holds h a (only args) order at (only_item h args i))

  -- ---- the others
  bare_holds : (f : List ℕ → List ℕ) (h : Heap) (a : ℕ) (args : List Value) → IsOrdered rules h → IsStrAt h a →
      Holds rules stands IsAnswer (bare_row f a args) h
  unfolding bare_row
  bare_holds f h a args order at =
      cond_holds rules stands IsAnswer (length args == 0) (bind (bytes_row a) (λ bs. new_text (f bs)))
      (Ret (Raise argument_fault)) h
      (λ y. str_bytes h a (λ bs. new_text (f bs)) order at (λ bs l. new_text_holds h (f bs) order))
      (λ n. raise_holds (λ v h. IsItem h v) argument_fault h (lit< tt, lit< tt, tt))

  part_holds : (f : List ℕ → List ℕ → Value) → ((h : Heap) (bs part : List ℕ) → IsItem h (f bs part)) →
      (h : Heap) (a : ℕ) (o : Option Value) → IsOrdered rules h → IsStrAt h a → IfItem o h →
      Holds rules stands IsAnswer (part_with f a o) h
  unfolding part_with part_in
  part_holds f n h a (Some x) order at i =
      with_text h x (part_in f a) order i
      (λ p h1 order1 y. str_bytes h1 a (λ bs. Ret (Is (f bs p))) order1 (str_stays h h1 a y at)
      (λ bs l. holds_ret rules stands IsAnswer (Is (f bs p)) h1 (n h1 bs p)))
  part_holds f n h a None order at i = raise_holds (λ v h. IsItem h v) argument_fault h (lit< tt, lit< tt, tt)

  replace_holds : (h : Heap) (a : ℕ) (o : Option (Value × Value)) → IsOrdered rules h → IsStrAt h a →
      IfSome o (λ p. IsItem h p.0 × IsItem h p.1) → Holds rules stands IsAnswer (replace_with a o) h
  unfolding replace_with replace_by replace_in
  replace_holds h a (Some p) order at i =
      with_text h p.0 (replace_by a p.1) order i.0
      (λ old h1 order1 y.
      with_text h1 p.1 (replace_in a old) order1 (item_stays h h1 y p.1 i.1)
      (λ new h2 order2 z. str_bytes h2 a (λ bs. new_text (replaced old new bs)) order2
      (str_stays h1 h2 a z (str_stays h h1 a y at)) (λ bs l. new_text_holds h2 (replaced old new bs) order2)))
  replace_holds h a None order at i = raise_holds (λ v h. IsItem h v) argument_fault h (lit< tt, lit< tt, tt)

  pub method_holds : (h : Heap) (m a : ℕ) (args : List Value) → IsOrdered rules h → IsStrAt h a → Every (IsItem h) args
      → Holds rules stands IsAnswer (method_row m a args) h
  unfolding method_row
  method_holds h m a args order at i =
      let o = only_item h args i in
      choose (m == 25) (join_with a (only args)) _ h (join_holds h a (only args) order at o)
      (choose (m == 26) (split_row a args) _ h (split_holds h a args order at i)
      (choose (m == 27) (bare_row strip a args) _ h (bare_holds strip h a args order at)
      (choose (m == 28) (bare_row upper a args) _ h (bare_holds upper h a args order at)
      (choose (m == 29) (bare_row lower a args) _ h (bare_holds lower h a args order at)
      (choose (m == 30) (part_with begins_value a (only args)) _ h
      (part_holds begins_value (λ h bs part. bool_item h (begins part bs)) h a (only args) order at o)
      (choose (m == 31) (part_with ends_value a (only args)) _ h
      (part_holds ends_value (λ h bs part. bool_item h (ends part bs)) h a (only args) order at o)
      (choose (m == 32) (part_with find_value a (only args)) _ h
      (part_holds find_value (λ h bs part. place_item h (find bs part)) h a (only args) order at o)
      (choose (m == 33) (replace_with a (both args)) _ h (replace_holds h a (both args) order at (both_items h args i))
      (raise_holds (λ v h. IsItem h v) operand_fault h (lit< tt, lit< tt, tt))))))))))
    where
      choose : (b : Bool) (row other : Row S (Got Value)) (h : Heap) → Holds rules stands IsAnswer row h →
          Holds rules stands IsAnswer other h → Holds rules stands IsAnswer (cond b row other) h
      choose true row other h i j = i
      choose false row other h i j = j

  pub str_holds : StrHolds rules stands
  str_holds = record { new_text = new_text_holds; method = method_holds }

-- ---- steady
module _ (S : Type 0) where
  -- the bytes of a string, and what follows
  then_calm : {A : Type 0} (a : ℕ) (k : List ℕ → Row S A) → ((bs : List ℕ) → Calm (k bs)) → Calm (bind (bytes_row a) k)
  then_calm a k n = bind_calm S (bytes_row a) k (bytes_calm S a) n

  text_calm : (x : Value) → Calm {S = S} (text_item x)
  unfolding text_item text_at
  text_calm (Ref a) = read_calm S a.0 text_in
      (λ r. cond_calm S (is_str r.kind) (Ret (Is r.bytes)) (Ret (Raise argument_fault)) (ret_calm S _) (ret_calm S _))
  text_calm Unset = ret_calm S _
  text_calm NoneValue = ret_calm S _
  text_calm (BoolValue b) = ret_calm S _
  text_calm (Int i) = ret_calm S _
  text_calm (Builtin b) = ret_calm S _

  with_calm : {B : Type 0} (x : Value) (f : List ℕ → Row S (Got B)) → ((p : List ℕ) → Calm {S = S} (f p)) →
      Calm {S = S} (bind (text_item x) (got_row f))
  with_calm x f n g = bind_steady S g (text_item x) (got_row f) (text_calm x g) (got_calm S f n)

  pub new_text_calm : (bs : List ℕ) → Calm {S = S} (new_text bs)
  unfolding new_text
  new_text_calm bs = cond_calm S (leb (length bs) LENGTH_LIMIT) (made_text bs) (Ret (Raise memory_fault))
      (make_calm S (new_rec Str [] bs) (λ a. Ret (Is (Ref (record { 0 = a })))) (λ a. ret_calm S _)) (ret_calm S _)

  texts_calm : (k : List (List ℕ) → Row S (Got Value)) → ((ps : List (List ℕ)) → Calm {S = S} (k ps)) →
      (vs : List Value) (ps : List (List ℕ)) → Calm {S = S} (texts_then k vs ps)
  unfolding texts_then
  texts_calm k n [] ps = n ps
  texts_calm k n (x ∷ xs) ps = with_calm x (λ p. texts_then k xs (ps ++ p ∷ [])) (λ p. texts_calm k n xs (ps ++ p ∷ []))

  items_calm : (a : ℕ) (vs : List Value) → Calm {S = S} (items_row a vs)
  unfolding items_row
  items_calm a vs = then_calm a (λ sep. texts_row sep vs)
      (λ sep. texts_calm (λ ps. new_text (joined sep ps)) (λ ps. new_text_calm (joined sep ps)) vs [])

  join_steady : (a : ℕ) (o : Option Value) → Steady {S = S} false (join_with a o)
  unfolding join_with
  join_steady a (Some x) = bind_steady S false (gather_row x) (got_row (items_row a)) (gather_steady S x)
      (got_calm S (items_row a) (items_calm a))
  join_steady a None = ret_calm S _ false

  strings_calm : (ps : List (List ℕ)) (vs : List Value) → Calm {S = S} (strings_then new_list ps vs)
  unfolding strings_then piece_row bind new_list
  strings_calm [] vs = make_calm S (new_rec ListKind vs []) (λ a. Ret (Is (Ref (record { 0 = a })))) (λ a. ret_calm S _)
  strings_calm (p ∷ ps) vs = make_calm S (new_rec Str [] p)
      (λ a. strings_then new_list ps (vs ++ Ref (record { 0 = a }) ∷ []))
      (λ a. strings_calm ps (vs ++ Ref (record { 0 = a }) ∷ []))

  cut_calm : (a : ℕ) (sep : Option (List ℕ)) → Calm {S = S} (cut_row a sep)
  unfolding cut_row list_row
  cut_calm a sep =
      then_calm a (λ bs. list_row (pieces_of sep bs))
      (λ bs. cond_calm S (leb (length (pieces_of sep bs)) LENGTH_LIMIT) (strings_then new_list (pieces_of sep bs) [])
      (Ret (Raise memory_fault)) (strings_calm (pieces_of sep bs) []) (ret_calm S _))

  cut_at_calm : (a : ℕ) (sep : List ℕ) → Calm {S = S} (cut_at a sep)
  unfolding cut_at
  cut_at_calm a sep = cond_calm S (has_bytes sep) (cut_row a (Some sep)) (Ret (Raise separator_fault))
      (cut_calm a (Some sep)) (ret_calm S _)

  split_one_calm : (a : ℕ) (o : Option Value) → Calm {S = S} (split_with a o)
  unfolding split_with split_at
  split_one_calm a (Some x) = cond_calm S (is_none x) (cut_row a None) (bind (text_item x) (got_row (cut_at a)))
      (cut_calm a None) (with_calm x (cut_at a) (cut_at_calm a))
  split_one_calm a None = ret_calm S _

  bare_calm : (f : List ℕ → List ℕ) (a : ℕ) (args : List Value) → Calm {S = S} (bare_row f a args)
  unfolding bare_row
  bare_calm f a args = cond_calm S (length args == 0) (bind (bytes_row a) (λ bs. new_text (f bs)))
      (Ret (Raise argument_fault)) (then_calm a (λ bs. new_text (f bs)) (λ bs. new_text_calm (f bs))) (ret_calm S _)

  part_calm : (f : List ℕ → List ℕ → Value) (a : ℕ) (o : Option Value) → Calm {S = S} (part_with f a o)
  unfolding part_with part_in
  part_calm f a (Some x) = with_calm x (part_in f a) (λ p. then_calm a (λ bs. Ret (Is (f bs p))) (λ bs. ret_calm S _))
  part_calm f a None = ret_calm S _

  replace_calm : (a : ℕ) (o : Option (Value × Value)) → Calm {S = S} (replace_with a o)
  unfolding replace_with replace_by replace_in
  replace_calm a (Some p) = with_calm p.0 (replace_by a p.1)
      (λ old. with_calm p.1 (replace_in a old)
      (λ new. then_calm a (λ bs. new_text (replaced old new bs)) (λ bs. new_text_calm (replaced old new bs))))
  replace_calm a None = ret_calm S _

  pub method_steady : (m a : ℕ) (args : List Value) → Steady {S = S} false (method_row m a args)
  unfolding method_row
  method_steady m a args =
      choose (m == 25) (join_with a (only args)) _ (join_steady a (only args))
      (choose (m == 26) (split_row a args) _
      (cond_calm S (length args == 0) (cut_row a None) (split_with a (only args)) (cut_calm a None)
      (split_one_calm a (only args)) false)
      (choose (m == 27) (bare_row strip a args) _ (bare_calm strip a args false)
      (choose (m == 28) (bare_row upper a args) _ (bare_calm upper a args false)
      (choose (m == 29) (bare_row lower a args) _ (bare_calm lower a args false)
      (choose (m == 30) (part_with begins_value a (only args)) _ (part_calm begins_value a (only args) false)
      (choose (m == 31) (part_with ends_value a (only args)) _ (part_calm ends_value a (only args) false)
      (choose (m == 32) (part_with find_value a (only args)) _ (part_calm find_value a (only args) false)
      (choose (m == 33) (replace_with a (both args)) _ (replace_calm a (both args) false) (ret_calm S _ false)))))))))
    where
      choose : (b : Bool) (row other : Row S (Got Value)) → Steady false row → Steady false other →
          Steady false (cond b row other)
      choose true row other i j = i
      choose false row other i j = j

  pub new_text_steady : (bs : List ℕ) → Steady {S = S} false (new_text bs)
  new_text_steady bs = new_text_calm bs false

  pub str_steady : StrSteady S
  str_steady = record { new_text = new_text_steady; method = method_steady }
