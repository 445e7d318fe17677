-- The row of sorting only looks, and what it answers.
use Rattle.std.proofs.Common.{◌≡◌, ◌⊎◌, inl, inr, ℕ, ℤ, Bool, true, false, cond, ◌&&◌, List, [], ◌∷◌, ◌++◌, length, map, Option, Some, None, refl, sym, ap, subst, ◌∙◌, append_assoc, append-nil}
use Rattle.std.specs.Prelude.{is_some}
use Rattle.py_base.specs.declared.kind.Kind.{Kind}
use Rattle.py_base.specs.declared.kind.Kind.TheVariants.{Str, Tuple, List as ListKind, Dict, Cell, Function, Class, Instance, Method, Iter, Range, Lock, Thread}
use Rattle.py_data.specs.declared.value.Addr.{Addr}
use Rattle.py_data.specs.declared.value.Value.{Value}
use Rattle.py_data.specs.declared.value.Value.TheVariants.{Unset, None as NoneValue, Bool as BoolValue, Int, Ref, Builtin}
use Rattle.py_data.specs.declared.record.Got.{Got}
use Rattle.py_data.specs.declared.record.Got.TheVariants.{Is, Raise}
use Rattle.py_data.specs.Closed.{IsItem}
use Rattle.py_data.specs.Comparing.{number_of}
use Rattle.py_data.specs.Every.{Every}
use Rattle.py_data.specs.Fault.{operand_fault}
use Rattle.py_data.specs.Heap.{Heap, Rec}
use Rattle.py_data.specs.Looking.{Looks, kind_row, bytes_row, got_row}
use Rattle.py_data.specs.Row.{Row, Ret}
use Rattle.py_data.specs.Shape.{KindIn}
use Rattle.py_data.proofs.Looking.{looks_ret, looks_then, looks_weaken, some_of, kind_looks, bytes_looks}
use Rattle.py_data.proofs.Steps.{at_is}
use Rattle.obj_seq.specs.Iter.{is_str}
use Rattle.obj_nest.specs.Laws.{IsNumber, IsString}
use Rattle.obj_methods.specs.declared.words.Word.{Word}
use Rattle.obj_methods.specs.Laws.{CanSort, IsSorted, SortedLaw}
use Rattle.obj_methods.specs.Sorting.{are_numbers, in_order, number_less, sorted_row, text_at, text_by, text_row, value_of, word_less, word_row, worded_row, words_row}
use Rattle.obj_methods.proofs.InOrder.{in_order_all, in_order_length, in_order_map}
use Rattle.obj_methods.proofs.OrderedValues.{bytes_in, sorted_numbers, sorted_strings, text_less}
use Rattle.obj_methods.proofs.SortedBy.{numbers_rank, texts_rank}

-- ---- what values are
numbers_of : (h : Heap) (vs : List Value) → are_numbers vs ≡ true → Every (IsNumber h) vs
numbers_of h [] e = tt
numbers_of h (x ∷ xs) e = by (number_of x) refl e (λ t. numbers_of h xs t)
  where
    by : (o : Option ℤ) → number_of x ≡ o → (is_some o && are_numbers xs) ≡ true →
        (are_numbers xs ≡ true → Every (IsNumber h) xs) → IsNumber h x × Every (IsNumber h) xs
    by None q e rest = absurd (let z : false ≡ true = e in cc)
    by (Some i) q e rest = ((i, q), rest e)

are_all : (h : Heap) (vs : List Value) → Every (IsNumber h) vs → are_numbers vs ≡ true
are_all h [] i = refl
are_all h (x ∷ xs) i = ap (λ o. is_some o && are_numbers xs) i.0.1 ∙ are_all h xs i.1

str_is : (k : Kind) → is_str k ≡ true → k ≡ Str
str_is Str e = refl
str_is Tuple e = absurd (let q : false ≡ true = e in cc)
str_is ListKind e = absurd (let q : false ≡ true = e in cc)
str_is Dict e = absurd (let q : false ≡ true = e in cc)
str_is Cell e = absurd (let q : false ≡ true = e in cc)
str_is Function e = absurd (let q : false ≡ true = e in cc)
str_is Class e = absurd (let q : false ≡ true = e in cc)
str_is Instance e = absurd (let q : false ≡ true = e in cc)
str_is Method e = absurd (let q : false ≡ true = e in cc)
str_is Iter e = absurd (let q : false ≡ true = e in cc)
str_is Range e = absurd (let q : false ≡ true = e in cc)
str_is Lock e = absurd (let q : false ≡ true = e in cc)
str_is Thread e = absurd (let q : false ≡ true = e in cc)

-- a value with its text
abbrev word_in : Heap → Value → Word
word_in h x = record { text = bytes_in h x; value = x }

values_back : (h : Heap) (xs : List Value) → map value_of (map (word_in h) xs) ≡ xs
values_back h [] = refl
values_back h (x ∷ xs) = ap (λ l. x ∷ l) (values_back h xs)

module _ (S : Type 0) (h : Heap) where
  -- ---- one text
  -- an item's text is read, or it is no string
  abbrev Told : Value → Got (List ℕ) → Type 0
  Told x g = (IsString h x × (g ≡ Is (bytes_in h x))) ⊎ ((IsString h x → ⊥) × (g ≡ Raise operand_fault))

  by_looks : (a : Addr) (r : Rec) (b : Bool) → h a.0 ≡ Some r → is_str r.kind ≡ b →
      Looks {S = S} (Told (Ref a)) (text_by a.0 b) h
  unfolding text_by bytes_in
  by_looks a r true e k =
      looks_then (λ bs. bs ≡ r.bytes) (Told (Ref a)) (bytes_row a.0) (λ bs. Ret (Is bs)) h (bytes_looks S h a.0 r e)
      (λ bs q. looks_ret S (Told (Ref a)) (Is bs) h
      (inl (
        subst (λ o. KindIn o (λ k. k ≡ Str)) (sym e) (str_is r.kind k),
        ap Is (q ∙ sym (ap (λ z. z.bytes) (at_is h a.0 r e))),
      )))
  by_looks a r false e k =
      let none : IsString h (Ref a) → ⊥ = λ i. let s : r.kind ≡ Str = subst (λ o. KindIn o (λ k. k ≡ Str)) e i in
      let q : false ≡ true = sym k ∙ ap is_str s in absurd cc in
      looks_ret S (Told (Ref a)) (Raise operand_fault) h (inr (none, refl))

  text_looks : (x : Value) → IsItem h x → Looks {S = S} (Told x) (text_row x) h
  unfolding text_row text_at
  text_looks (Ref a) i =
      let r = some_of (h a.0) i.0 in
      looks_then (λ k. k ≡ r.0.kind) (Told (Ref a)) (kind_row a.0) (λ k. text_by a.0 (is_str k)) h
      (kind_looks S h a.0 r.0 r.1)
      (λ k e. subst (λ z. Looks {S = S} (Told (Ref a)) (text_by a.0 (is_str z)) h) (sym e)
      (by_looks a r.0 (is_str r.0.kind) r.1 refl))
  text_looks Unset i = looks_ret S (Told Unset) (Raise operand_fault) h (inr (λ z. z, refl))
  text_looks NoneValue i = looks_ret S (Told NoneValue) (Raise operand_fault) h (inr (λ z. z, refl))
  text_looks (BoolValue b) i = looks_ret S (Told (BoolValue b)) (Raise operand_fault) h (inr (λ z. z, refl))
  text_looks (Int n) i = looks_ret S (Told (Int n)) (Raise operand_fault) h (inr (λ z. z, refl))
  text_looks (Builtin b) i = looks_ret S (Told (Builtin b)) (Raise operand_fault) h (inr (λ z. z, refl))

  -- ---- all texts
  -- all items are strings and their texts were read behind others, or one is no string
  abbrev AllTold : List Value → List Word → Got (List Word) → Type 0
  AllTold vs ws g = (Every (IsString h) vs × (g ≡ Is (ws ++ map (word_in h) vs))) ⊎
      ((Every (IsString h) vs → ⊥) × (g ≡ Raise operand_fault))

  word_looks : (x : Value) (ws : List Word) → IsItem h x → Looks {S = S} (AllTold (x ∷ []) ws) (word_row x ws) h
  unfolding word_row
  word_looks x ws i =
      looks_then (Told x) (AllTold (x ∷ []) ws) (text_row x)
      (got_row (λ bs. Ret (Is (ws ++ record { text = bs; value = x } ∷ [])))) h (text_looks x i) next
    where
      next : (g : Got (List ℕ)) → Told x g →
          Looks {S = S} (AllTold (x ∷ []) ws) (got_row (λ bs. Ret (Is (ws ++ record { text = bs; value = x } ∷ []))) g)
          h
      next g (inl t) =
          subst (λ z. Looks {S = S} (AllTold (x ∷ []) ws)
          (got_row (λ bs. Ret (Is (ws ++ record { text = bs; value = x } ∷ []))) z) h) (sym t.1)
          (looks_ret S (AllTold (x ∷ []) ws) (Is (ws ++ word_in h x ∷ [])) h (inl ((t.0, tt), refl)))
      next g (inr t) =
          subst (λ z. Looks {S = S} (AllTold (x ∷ []) ws)
          (got_row (λ bs. Ret (Is (ws ++ record { text = bs; value = x } ∷ []))) z) h) (sym t.1)
          (looks_ret S (AllTold (x ∷ []) ws) (Raise operand_fault) h (inr (λ s. t.0 s.0, refl)))

  words_looks : (vs : List Value) (ws : List Word) → Every (IsItem h) vs →
      Looks {S = S} (AllTold vs ws) (words_row vs ws) h
  unfolding words_row
  words_looks [] ws i = looks_ret S (AllTold [] ws) (Is ws) h (inl (tt, ap Is (sym (append-nil ws))))
  words_looks (x ∷ xs) ws i =
      looks_then (AllTold (x ∷ []) ws) (AllTold (x ∷ xs) ws) (word_row x ws) (got_row (words_row xs)) h
      (word_looks x ws i.0) (next (words_looks xs (ws ++ word_in h x ∷ []) i.1))
    where
      more : (g : Got (List Word)) → IsString h x → AllTold xs (ws ++ word_in h x ∷ []) g → AllTold (x ∷ xs) ws g
      more g s (inl t) = inl ((s, t.0), t.1 ∙ ap Is (append_assoc ws (word_in h x ∷ []) (map (word_in h) xs)))
      more g s (inr t) = inr (λ z. t.0 z.1, t.1)

      next : Looks {S = S} (AllTold xs (ws ++ word_in h x ∷ [])) (words_row xs (ws ++ word_in h x ∷ [])) h →
          (g : Got (List Word)) → AllTold (x ∷ []) ws g →
          Looks {S = S} (AllTold (x ∷ xs) ws) (got_row (words_row xs) g) h
      next rest g (inl t) =
          subst (λ z. Looks {S = S} (AllTold (x ∷ xs) ws) (got_row (words_row xs) z) h) (sym t.1)
          (looks_weaken (AllTold xs (ws ++ word_in h x ∷ [])) (AllTold (x ∷ xs) ws) (λ g. more g t.0.0)
          (words_row xs (ws ++ word_in h x ∷ [])) h rest)
      next rest g (inr t) =
          subst (λ z. Looks {S = S} (AllTold (x ∷ xs) ws) (got_row (words_row xs) z) h) (sym t.1)
          (looks_ret S (AllTold (x ∷ xs) ws) (Raise operand_fault) h (inr (λ s. t.0 (s.0, tt), refl)))

  -- ---- what is answered
  -- the values in order, which are items as the values are, or TypeError where they can't be sorted
  pub record Ordered (vs : List Value) (z : Got (List Value)) : Type 0 where
    pub can : CanSort h vs
    pub values : List Value
    pub is : z ≡ Is values
    pub sorted : IsSorted h vs values
    pub items : Every (IsItem h) values
    pub count : length values ≡ length vs

  abbrev pub Answered : List Value → Got (List Value) → Type 0
  Answered vs z = Ordered vs z ⊎ ((CanSort h vs → ⊥) × (z ≡ Raise operand_fault))

  numbers_answer : (vs : List Value) → Every (IsItem h) vs → Every (IsNumber h) vs →
      Answered vs (Is (in_order number_less vs))
  numbers_answer vs i n = inl (record {
    can = inl n;
    values = in_order number_less vs;
    is = refl;
    sorted = sorted_numbers h vs n;
    items = in_order_all number_less numbers_rank (IsItem h) vs i;
    count = in_order_length number_less numbers_rank vs;
  })

  strings_answer : (vs : List Value) → Every (IsItem h) vs → Every (IsString h) vs →
      Answered vs (Is (map value_of (in_order word_less (map (word_in h) vs))))
  strings_answer vs i n =
      let ys = in_order (text_less h) vs in
      inl (record {
        can = inr n;
        values = ys;
        is = ap (λ l. Is (map value_of l)) (in_order_map (word_in h) word_less vs) ∙ ap Is (values_back h ys);
        sorted = sorted_strings h vs n;
        items = in_order_all (text_less h) (texts_rank (bytes_in h)) (IsItem h) vs i;
        count = in_order_length (text_less h) (texts_rank (bytes_in h)) vs;
      })

  worded_looks : (vs : List Value) → Every (IsItem h) vs → are_numbers vs ≡ false →
      Looks {S = S} (Answered vs) (worded_row vs) h
  unfolding worded_row
  worded_looks vs i n = looks_then (AllTold vs []) (Answered vs) (words_row vs []) (got_row answer) h
      (words_looks vs [] i) next
    where
      answer : List Word → Row S (Got (List Value))
      answer ws = Ret (Is (map value_of (in_order word_less ws)))

      unable : (Every (IsString h) vs → ⊥) → CanSort h vs → ⊥
      unable s (inl c) = let q : false ≡ true = sym n ∙ are_all h vs c in absurd cc
      unable s (inr c) = s c

      next : (g : Got (List Word)) → AllTold vs [] g →
          Looks {S = S} (Answered vs) (got_row (λ ws. Ret (Is (map value_of (in_order word_less ws)))) g) h
      next g (inl t) =
          subst (λ z. Looks {S = S} (Answered vs) (got_row (λ ws. Ret (Is (map value_of (in_order word_less ws)))) z)
          h) (sym t.1)
          (looks_ret S (Answered vs) (Is (map value_of (in_order word_less (map (word_in h) vs)))) h
          (strings_answer vs i t.0))
      next g (inr t) =
          subst (λ z. Looks {S = S} (Answered vs) (got_row (λ ws. Ret (Is (map value_of (in_order word_less ws)))) z)
          h) (sym t.1) (looks_ret S (Answered vs) (Raise operand_fault) h (inr (unable t.0, refl)))

  pub sorted_looks : (vs : List Value) → Every (IsItem h) vs → Looks {S = S} (Answered vs) (sorted_row vs) h
  unfolding sorted_row
  sorted_looks vs i = by (are_numbers vs) refl
    where
      by : (b : Bool) → are_numbers vs ≡ b →
          Looks {S = S} (Answered vs) (cond b (Ret (Is (in_order number_less vs))) (worded_row vs)) h
      by true e = looks_ret S (Answered vs) (Is (in_order number_less vs)) h (numbers_answer vs i (numbers_of h vs e))
      by false e = worded_looks vs i e

  -- ---- by what the values are
  pub when_sorted : (vs : List Value) (z : Got (List Value)) → CanSort h vs → Answered vs z →
      (ys : List Value) × (z ≡ Is ys) × IsSorted h vs ys
  when_sorted vs z c (inl a) = (a.values, a.is, a.sorted)
  when_sorted vs z c (inr a) = absurd (a.0 c)

  pub when_refused : (vs : List Value) (z : Got (List Value)) → (CanSort h vs → ⊥) → Answered vs z →
      z ≡ Raise operand_fault
  when_refused vs z c (inl a) = absurd (c a.can)
  when_refused vs z c (inr a) = a.1

pub sorted_law : (S : Type 0) (rules : _) → SortedLaw S rules
sorted_law S rules = record {
  sorted = λ h vs order i c. looks_weaken (Answered S h vs) (λ z. (ys : List Value) × (z ≡ Is ys) × IsSorted h vs ys)
      (λ z a. when_sorted S h vs z c a) (sorted_row vs) h (sorted_looks S h vs i);
  refused = λ h vs order i c. looks_weaken (Answered S h vs) (λ z. z ≡ Raise operand_fault)
      (λ z a. when_refused S h vs z c a) (sorted_row vs) h (sorted_looks S h vs i);
}
