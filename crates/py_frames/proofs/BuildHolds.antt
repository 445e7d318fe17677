-- Tuples, lists and dictionaries that are made, taken apart, and gone through.
use Rattle.std.proofs.Common.{◌≡◌, ℕ, ◌==◌, Bool, true, false, cond, leb, List, [], ◌∷◌, length, reverse, Option, Some, None, refl, sym, subst, ◌∙◌, lit<}
use Rattle.std.proofs.lemmas.Bool.{leb-true, eqb-true}
use Rattle.std.proofs.lemmas.List.{length-reverse, reverse-append}
use Rattle.py_base.specs.declared.kind.Kind.{Kind}
use Rattle.py_base.specs.declared.kind.Kind.TheVariants.{Dict}
use Rattle.py_data.specs.declared.value.Value.{Value}
use Rattle.py_data.specs.declared.value.Value.TheVariants.{Unset, None as NoneValue, Bool as BoolValue, Int, Ref, Builtin}
use Rattle.py_data.specs.declared.record.Got.{Got}
use Rattle.py_data.specs.declared.record.Got.TheVariants.{Is, Raise}
use Rattle.py_data.specs.declared.record.TheConstants.{LENGTH_LIMIT}
use Rattle.py_data.specs.Answers.{IsFault, IfItem, IsDone, IsGot, IsSequenceKind}
use Rattle.py_data.specs.Closed.{Refers, IsItem}
use Rattle.py_data.specs.Every.{Every}
use Rattle.py_data.specs.Fault.{operand_fault, memory_fault}
use Rattle.py_data.specs.Heap.{Heap, Rec, new_rec}
use Rattle.py_data.specs.Looking.{Looks, got_row}
use Rattle.py_data.specs.Order.{Extends, FitsAt}
use Rattle.py_data.specs.Row.{Row, Ret, bind}
use Rattle.py_data.specs.Shape.{RefTo, is_key_kind}
use Rattle.py_data.proofs.EveryLemmas.{every_and, every_weaken}
use Rattle.py_data.proofs.Holding.{holds_ret}
use Rattle.py_data.proofs.ItemLemmas.{item_stays, items_stay}
use Rattle.py_data.proofs.Keep.{ref_stays}
use Rattle.py_data.proofs.Looking.{looks_ret, looks_read, looks_then}
use Rattle.py_data.proofs.Making.{sequence_fits}
use Rattle.py_code.specs.declared.program.Program.{Program}
use Rattle.py_code.specs.Effects.{Effect as InstrEffect}
use Rattle.obj_class.specs.Bases.{ref}
use Rattle.obj_class.specs.Exceptions.{made_row}
use Rattle.obj_dict.specs.Dict.{key_row, set_row}
use Rattle.obj_dict.proofs.Holding.{dict_holds}
use Rattle.obj_seq.specs.Gather.{gather_row}
use Rattle.obj_seq.specs.HoldsLaws.{AreItems, IsIterator}
use Rattle.obj_seq.specs.Iter.{iter_row, next_row}
use Rattle.obj_seq.proofs.HoldingGather.{seq_holds}
use Rattle.py_frames.specs.declared.state.Frame.{Frame}
use Rattle.py_frames.specs.declared.next.Next.{Next}
use Rattle.py_frames.specs.declared.next.Next.TheVariants.{Goes, Jumps}
use Rattle.py_frames.specs.BuildRows.{built_row, build_row, pairs_set, dict_or_raise, filled_dict, new_dict, all_keys_row, size_or_key, too_many_pairs, build_dict_row, spread, spread_row, unpack_row, iter_instr, next_or_end, next_instr}
use Rattle.py_frames.specs.Fits.{IsThrough, IsTo, Fits}
use Rattle.py_frames.specs.Raising.{raise_row, give, count_fault}
use Rattle.py_frames.specs.Sound.{rules_of}
use Rattle.py_frames.proofs.Given.{Context, context_stays, at_ref, there_of}
use Rattle.py_frames.proofs.Making.{empty_dict, holds_made}
use Rattle.py_frames.proofs.MemberHolds.{PushesTwo}
use Rattle.py_frames.proofs.Raised.{Keeps, Leads, Pushes, raises, goes_one, leads_to, then_holds, after_looks}

reversed_every : {A : Type 0} (P : A → Type 0) (xs : List A) → Every P xs → Every P (reverse xs)
reversed_every P [] i = tt
reversed_every P (x ∷ xs) i = subst (Every P) (sym (reverse-append (x ∷ []) xs))
    (every_and P (reverse xs) (x ∷ []) (reversed_every P xs i.1) (i.0, tt))

module _ {S : Type 0} (p : Program) (count roots : ℕ) (stands : Heap → S → Type 0) where
  abbrev Kept : {A : Type 0} → (A → Heap → Type 0) → Row S A → Heap → Type 0
  Kept q row h = Keeps p count roots stands q row h

  -- a record is made, and a row goes on with it
  pub after_made : {A : Type 0} (q : A → Heap → Type 0) (r : Rec) (g : Value → Row S A) (h : Heap) →
      Context p count roots h → ((a : ℕ) → FitsAt (rules_of p count) h a r)
      → ((a : ℕ) (h1 : Heap) → Context p count roots h1 → Extends h h1 → h1 a ≡ Some r → IsItem h1 (ref a) →
      Kept q (g (ref a)) h1) → Kept q (bind (made_row r) g) h
  unfolding made_row bind
  after_made q r g h c fit n =
      let one = fit 0 in
      holds_made (rules_of p count) stands q r (λ a. g (ref a)) h one.closed.shaped one.short (λ a u. fit a)
      (λ a h1 order x e item. n a h1 (context_stays p count roots h h1 x order c) x e item)

  module _ (e : InstrEffect) (f : Frame) where
    abbrev Ok : Row S Next → Heap → Type 0
    Ok row h = Leads p count roots stands e f row h

    -- ---- BUILD_TUPLE, BUILD_LIST
    pub build_holds : (k : Kind) (xs : List Value) (h : Heap) → Context p count roots h → Pushes e → IsSequenceKind k →
        Every (IsItem h) xs → Ok (build_row roots k xs) h
    unfolding build_row built_row
    build_holds k xs h c t s i = by (leb (length xs) LENGTH_LIMIT) refl
      where
        by : (b : Bool) → leb (length xs) LENGTH_LIMIT ≡ b →
            Ok (cond b (bind (made_row (new_rec k xs [])) (λ x. Ret (Goes (x ∷ [])))) (raise_row roots memory_fault)) h
        by true l = after_made (Fits p e f) (new_rec k xs []) (λ x. Ret (Goes (x ∷ []))) h c
            (λ a. sequence_fits (rules_of p count) h a k xs s i (leb-true (length xs) LENGTH_LIMIT l))
            (λ a h1 c1 x r item. goes_one p count roots stands e f (ref a) h1 t item.0)
        by false l = raises p count roots stands e f memory_fault h c (lit< tt, lit< tt, tt)

    -- ---- BUILD_DICT
    set_all : (d : ℕ) (xs : List Value) (h : Heap) → Context p count roots h → RefTo h Dict (ref d) →
        Every (IsItem h) xs → Kept IsDone (pairs_set d xs) h
    unfolding pairs_set
    set_all d (key ∷ x ∷ rest) h c s i =
        let o = dict_holds (rules_of p count) stands in
        then_holds p count roots stands IsDone IsDone (set_row d key x) (got_row (λ u. pairs_set d rest)) h c
        (o.set h d key x c.order s i.0 i.1.0)
        (more (λ h1 c1 y. set_all d rest h1 c1 (ref_stays h h1 y Dict (ref d) s) (items_stay h h1 y rest i.1.1)))
      where
        more : ((h1 : Heap) → Context p count roots h1 → Extends h h1 → Kept IsDone (pairs_set d rest) h1) →
            (g : Got (Unit {0})) (h1 : Heap) → Context p count roots h1 → Extends h h1 → IsDone g h1 →
            Kept IsDone (got_row (λ u. pairs_set d rest) g) h1
        more n (Is u) h1 c1 y j = n h1 c1 y
        more n (Raise fault) h1 c1 y j = holds_ret (rules_of p count) stands IsDone (Raise fault) h1 j
    set_all d [] h c s i = holds_ret (rules_of p count) stands IsDone (Is tt) h tt
    set_all d (key ∷ []) h c s i = holds_ret (rules_of p count) stands IsDone (Is tt) h tt

    filled_holds : (d : ℕ) (g : Got (Unit {0})) (h : Heap) → Context p count roots h → Pushes e → IsItem h (ref d) →
        IsDone g h → Ok (dict_or_raise roots (ref d) g) h
    unfolding dict_or_raise
    filled_holds d (Is u) h c t i j = goes_one p count roots stands e f (ref d) h t i.0
    filled_holds d (Raise fault) h c t i j = raises p count roots stands e f fault h c j

    new_dict_holds : (xs : List Value) (h : Heap) → Context p count roots h → Pushes e → Every (IsItem h) xs →
        Ok (new_dict roots xs) h
    unfolding new_dict filled_dict
    new_dict_holds xs h c t i =
        after_made (Fits p e f) (new_rec Dict [] []) (λ d. filled_dict roots xs d) h c
        (λ a. empty_dict (rules_of p count) h a)
        (λ d h1 c1 x r item.
        then_holds p count roots stands IsDone (Fits p e f) (pairs_set d xs) (λ g. dict_or_raise roots (ref d) g) h1 c1
        (set_all d xs h1 c1 (at_ref h1 Dict d (new_rec Dict [] []) r refl) (items_stay h h1 x xs i))
        (λ g h2 c2 y j. filled_holds d g h2 c2 t (item_stays h1 h2 y (ref d) item) j))

    -- whether a value can be a key is looked up
    key_looks : (key : Value) (h : Heap) → IsItem h key → Looks {S = S} (λ b. Unit {0}) (key_row key) h
    unfolding key_row
    key_looks (Ref a) h i = let t = there_of h a i in looks_read (λ b. Unit {0}) a.0 (λ r. Ret (is_key_kind r.kind)) h
        t.0 t.1 (looks_ret S (λ b. Unit {0}) (is_key_kind t.0.kind) h tt)
    key_looks Unset h i = looks_ret S (λ b. Unit {0}) false h tt
    key_looks NoneValue h i = looks_ret S (λ b. Unit {0}) true h tt
    key_looks (BoolValue b) h i = looks_ret S (λ b. Unit {0}) true h tt
    key_looks (Int n) h i = looks_ret S (λ b. Unit {0}) true h tt
    key_looks (Builtin b) h i = looks_ret S (λ b. Unit {0}) true h tt

    all_keys_looks : (xs : List Value) (h : Heap) → Every (IsItem h) xs →
        Looks {S = S} (λ b. Unit {0}) (all_keys_row xs) h
    unfolding all_keys_row
    all_keys_looks (key ∷ x ∷ rest) h i = looks_then (λ b. Unit {0}) (λ b. Unit {0}) (key_row key)
        (λ b. cond b (all_keys_row rest) (Ret false)) h (key_looks key h i.0) (by (all_keys_looks rest h i.1.1))
      where
        by : Looks {S = S} (λ b. Unit {0}) (all_keys_row rest) h → (b : Bool) → Unit {0} →
            Looks {S = S} (λ b. Unit {0}) (cond b (all_keys_row rest) (Ret false)) h
        by l true u = l
        by l false u = looks_ret S (λ b. Unit {0}) false h tt
    all_keys_looks [] h i = looks_ret S (λ b. Unit {0}) true h tt
    all_keys_looks (key ∷ []) h i = looks_ret S (λ b. Unit {0}) true h tt

    sized : (b : Bool) (h : Heap) → IsFault h (size_or_key b)
    sized true h = (lit< tt, lit< tt, tt)
    sized false h = (lit< tt, lit< tt, tt)

    pub build_dict_holds : (xs : List Value) (h : Heap) → Context p count roots h → Pushes e → Every (IsItem h) xs →
        Ok (build_dict_row roots xs) h
    unfolding build_dict_row too_many_pairs
    build_dict_holds xs h c t i = by (leb (length xs) LENGTH_LIMIT)
      where
        by : (b : Bool) → Ok (cond b (new_dict roots xs)
            (bind (all_keys_row xs) (λ b. raise_row roots (size_or_key b)))) h
        by true = new_dict_holds xs h c t i
        by false = after_looks p count roots stands (λ b. Unit {0}) (Fits p e f) (all_keys_row xs)
            (λ b. raise_row roots (size_or_key b)) h c (all_keys_looks xs h i)
            (λ b u. raises p count roots stands e f (size_or_key b) h c (sized b h))

    -- ---- UNPACK
    spread_holds : (n : ℕ) (g : Got (List Value)) (h : Heap) → Context p count roots h → IsThrough e.flow →
        e.pushes ≡ n → IsGot AreItems g h → Ok (spread roots n g) h
    unfolding spread
    spread_holds n (Is xs) h c t m i = by (length xs == n) refl
      where
        by : (b : Bool) → (length xs == n) ≡ b → Ok (cond b (Ret (Goes (reverse xs))) (raise_row roots count_fault)) h
        by true q = leads_to p count roots stands e f (Goes (reverse xs)) h (
          t,
          length-reverse xs ∙ (eqb-true (length xs) n q ∙ sym m),
          reversed_every (Refers h) xs (every_weaken (IsItem h) (Refers h) (λ v j. j.0) xs i.0),
        )
        by false q = raises p count roots stands e f count_fault h c (lit< tt, lit< tt, tt)
    spread_holds n (Raise fault) h c t m i = raises p count roots stands e f fault h c i

    pub unpack_holds : (n : ℕ) (x : Value) (h : Heap) → Context p count roots h → IsThrough e.flow → e.pushes ≡ n →
        IsItem h x → Ok (unpack_row roots n x) h
    unfolding unpack_row spread_row
    unpack_holds n x h c t m i = by (leb n LENGTH_LIMIT)
      where
        by : (b : Bool) → Ok (cond b (bind (gather_row x) (λ g. spread roots n g)) (raise_row roots memory_fault)) h
        by true = let q = seq_holds (rules_of p count) stands in
            then_holds p count roots stands (IsGot AreItems) (Fits p e f) (gather_row x) (λ g. spread roots n g) h c
            (q.gather h x c.order i) (λ g h1 c1 y j. spread_holds n g h1 c1 t m j)
        by false = raises p count roots stands e f memory_fault h c (lit< tt, lit< tt, tt)

    -- ---- ITER and NEXT
    iter_given : (g : Got Value) (h : Heap) → Context p count roots h → Pushes e → IsGot IsIterator g h →
        Ok (give roots g) h
    unfolding give
    iter_given (Is x) h c t i = goes_one p count roots stands e f x h t i.0.0
    iter_given (Raise fault) h c t i = raises p count roots stands e f fault h c i

    pub iter_holds : (x : Value) (h : Heap) → Context p count roots h → Pushes e → IsItem h x →
        Ok (iter_instr roots x) h
    unfolding iter_instr
    iter_holds x h c t i =
        let q = seq_holds (rules_of p count) stands in
        then_holds p count roots stands (IsGot IsIterator) (Fits p e f) (iter_row x) (λ g. give roots g) h c
        (q.make_iter h x c.order i) (λ g h1 c1 y j. iter_given g h1 c1 t j)

    ended_or_next : (t a : ℕ) (g : Got (Option Value)) (h : Heap) → Context p count roots h → PushesTwo e →
        IsTo e.flow t 0 → IsItem h (ref a) → IsGot IfItem g h → Ok (next_or_end roots t (ref a) g) h
    unfolding next_or_end
    ended_or_next t a (Is (Some y)) h c m l i j = leads_to p count roots stands e f (Goes (ref a ∷ y ∷ [])) h
        (m.0, sym m.1, (i.0, (j.0, tt)))
    ended_or_next t a (Is None) h c m l i j = leads_to p count roots stands e f (Jumps t []) h (l, tt)
    ended_or_next t a (Raise fault) h c m l i j = raises p count roots stands e f fault h c j

    pub next_holds : (t : ℕ) (x : Value) (h : Heap) → Context p count roots h → PushesTwo e → IsTo e.flow t 0 →
        IsItem h x → Ok (next_instr roots t x) h
    unfolding next_instr
    next_holds t (Ref a) h c m l i =
        let q = seq_holds (rules_of p count) stands in
        then_holds p count roots stands (IsGot IfItem) (Fits p e f) (next_row a.0)
        (λ g. next_or_end roots t (ref a.0) g) h c (q.next h a.0 c.order i)
        (λ g h1 c1 y j. ended_or_next t a.0 g h1 c1 m l (item_stays h h1 y (ref a.0) i) j)
    next_holds t Unset h c m l i = raises p count roots stands e f operand_fault h c (lit< tt, lit< tt, tt)
    next_holds t NoneValue h c m l i = raises p count roots stands e f operand_fault h c (lit< tt, lit< tt, tt)
    next_holds t (BoolValue b) h c m l i = raises p count roots stands e f operand_fault h c (lit< tt, lit< tt, tt)
    next_holds t (Int n) h c m l i = raises p count roots stands e f operand_fault h c (lit< tt, lit< tt, tt)
    next_holds t (Builtin b) h c m l i = raises p count roots stands e f operand_fault h c (lit< tt, lit< tt, tt)
