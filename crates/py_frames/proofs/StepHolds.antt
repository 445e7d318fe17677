-- Each instruction leads to what it may lead to.
use Rattle.std.proofs.Common.{arith, ◌≡◌, ◌≢◌, ℕ, zero, suc, ◌+◌, ◌-◌, ◌<◌, ◌≤◌, ◌||◌, Bool, true, false, List, [], ◌∷◌, ◌++◌, length, take, drop, map, Option, Some, None, IsTrue, refl, sym, ap, subst, ◌∙◌, get_or, slice_get, lit<}
use Rattle.std.specs.Prelude.{All, option_map}
use Rattle.std.specs.Option.{IfSome}
use Rattle.std.proofs.lemmas.List.{length-drop, length-append, length-map}
use Rattle.py_base.specs.Numbers.{number_in}
use Rattle.py_base.specs.declared.kind.Kind.TheVariants.{Tuple, List as ListKind, Dict}
use Rattle.py_data.specs.declared.value.Addr.{Addr}
use Rattle.py_data.specs.declared.value.Value.{Value}
use Rattle.py_data.specs.declared.value.Value.TheVariants.{Unset}
use Rattle.py_data.specs.Closed.{Refers, IsItem}
use Rattle.py_data.specs.Every.{Every}
use Rattle.py_data.specs.Heap.{Heap, value_at}
use Rattle.py_data.specs.Row.{Row}
use Rattle.py_data.specs.Shape.{RefTo}
use Rattle.py_data.proofs.EveryLemmas.{every_take}
use Rattle.py_data.proofs.ItemLemmas.{item_at}
use Rattle.py_code.specs.declared.instr.Instr.{Instr}
use Rattle.py_code.specs.declared.instr.Instr.TheVariants.{Setup, Const, Pop, Dup, Rot2, Dup2, Rot3, LoadLocal, StoreLocal, DelLocal, LoadGlobal, StoreGlobal, DelGlobal, LoadName, StoreName, DelName, LoadAttr, StoreAttr, DelAttr, LoadMethod, LoadItem, StoreItem, DelItem, Slice, Unary, Not, Binary, InPlace, Compare, Jump, JumpFalse, KeepFalse, KeepTrue, BuildTuple, BuildList, BuildDict, Unpack, Iter, Next as NextInstr, Call, CallMethod, Return, MakeFunction, ClassBody, Try, PopTry, ExcMatch, MakeRaised, Raise as RaiseInstr, PrintItem, PrintNewline}
use Rattle.py_code.specs.declared.program.Code.{Code}
use Rattle.py_code.specs.declared.program.Program.{Program}
use Rattle.py_code.specs.Effects.{Limits, Effect as InstrEffect, effect, Fine, IsText}
use Rattle.py_code.specs.Right.{IsRightProgram, Belongs, SetsUp, first_place, first_text, texts_of, names_of, is_body, class_roots, text_root, cell_root}
use Rattle.py_base.specs.Numbers.{class_count}
use Rattle.obj_class.specs.Bases.{ref}
use Rattle.py_frames.specs.declared.state.Frame.{Frame}
use Rattle.py_frames.specs.declared.next.Next.{Next}
use Rattle.py_frames.specs.declared.next.Next.TheVariants.{Goes, Jumps, Opens, Closes}
use Rattle.py_frames.specs.ClassCalls.{Site}
use Rattle.py_frames.specs.GlobalRows.{first_cell, cell_number, builtin_named}
use Rattle.py_frames.specs.Raising.{place_of}
use Rattle.py_frames.specs.Sound.{heights, HasNames, IsFrame, IsThread, IsState}
use Rattle.py_frames.specs.State.{State, no_code, code_at, root_name, slot_name, limits, pops, operands}
use Rattle.py_frames.specs.Steps.{given_in, instr_row, wanted, is_unset, has_unset}
use Rattle.py_frames.proofs.BuildHolds.{build_holds, build_dict_holds, unpack_holds, iter_holds, next_holds}
use Rattle.py_frames.proofs.CallHolds.{IsCall, value_call_holds}
use Rattle.py_frames.proofs.FunctionHolds.{make_function_holds, class_body_holds, return_holds}
use Rattle.py_frames.proofs.Given.{every_of, Context, right_at, some_at, value_refers}
use Rattle.py_frames.proofs.GlobalHolds.{number_within, builtin_constant, load_global_holds, store_global_holds, del_global_holds, load_name_holds, store_name_holds, del_name_holds}
use Rattle.py_frames.proofs.LocalHolds.{const_holds, load_local_holds, stores_holds, del_local_holds, unary_holds, not_holds, binary_holds, in_place_holds, compare_holds, jump_false_holds, keep_false_holds, keep_true_holds}
use Rattle.py_frames.proofs.MemberHolds.{load_attr_holds, store_attr_holds, del_attr_holds, load_method_holds, load_item_holds, store_item_holds, del_item_holds, slice_instr_holds}
use Rattle.py_frames.proofs.PrintHolds.{print_item_holds, print_newline_holds}
use Rattle.py_frames.proofs.RaiseHolds.{exc_match_holds, raise_holds, made_alone_holds, made_valued_holds}
use Rattle.py_frames.proofs.Settle.{every_drop}
use Rattle.py_frames.proofs.Raised.{Leads, leads_to, goes_on}

-- ---- operands

-- those that refer, where none is Unset, are items
pub are_items : (h : Heap) (xs : List Value) → Every (Refers h) xs → has_unset xs ≡ false → Every (IsItem h) xs
are_items h [] e n = tt
are_items h (x ∷ xs) e n = by (is_unset x) refl n (λ z. are_items h xs e.1 z)
  where
    by : (b : Bool) → is_unset x ≡ b → (b || has_unset xs) ≡ false → (has_unset xs ≡ false → Every (IsItem h) xs) →
        Every (IsItem h) (x ∷ xs)
    by true t n m = absurd (let q : true ≡ false = n in cc)
    by false t n m = ((e.0, λ u. let q : true ≡ false = sym (ap is_unset u) ∙ t in cc), m n)

-- all but the second
abbrev but_second : List Value → List Value
but_second xs = take 1 xs ++ drop 2 xs

pub second_refers : (P : Value → Type 0) (xs : List Value) → Every P xs → Every P (but_second xs)
second_refers P [] i = tt
second_refers P (x ∷ []) i = (i.0, tt)
second_refers P (x ∷ y ∷ xs) i = (i.0, i.1.1)

behind_second : (P : Value → Type 0) (xs : List Value) → Every P (but_second xs) → Every P (drop 2 xs)
behind_second P [] i = tt
behind_second P (x ∷ []) i = tt
behind_second P (x ∷ y ∷ xs) i = i.1

before_second : (h : Heap) (xs : List Value) → 0 < length xs → Every (IsItem h) (but_second xs) →
    IsItem h (value_at xs 0)
before_second h [] l i = absurd (omega (arith, l))
before_second h (x ∷ []) l i = i.0
before_second h (x ∷ y ∷ xs) l i = i.0

-- ---- what a program says of itself

params_at : (cs : List Code) (n : ℕ) → n < length (map (λ c. c.params) cs) →
    (n < length cs) × (get_or (map (λ c. c.params) cs) n 0 ≡ (get_or cs n no_code).params)
params_at [] n l = absurd (omega (arith, l))
params_at (c ∷ cs) zero l = (omega arith, refl)
params_at (c ∷ cs) (suc n) l = let r = params_at cs n (omega (arith, l)) in ((let z = r.0 in omega (arith, z)), r.1)

pub roots_long : (p : Program) → IsRightProgram p → length p.roots ≡ first_cell p + length (names_of p.roots)
roots_long p right =
    let texts = texts_of p.roots in
    let names = names_of p.roots in
    let a : length p.roots ≡ length (cell_root [] ∷ class_roots 0 class_count ++ map text_root texts ++ map cell_root
    names) = ap length right.roots.form in
    let b : length (map text_root texts ++ map cell_root names) ≡ length (map text_root texts) + length
    (map cell_root names) = length-append (map text_root texts) (map cell_root names) in
    let c : length (map text_root texts) ≡ length texts = length-map texts text_root in
    let d : length (map cell_root names) ≡ length names = length-map names cell_root in
    omega (arith, a, b, c, d)

cell_within : (p : Program) (name : List ℕ) → IsRightProgram p →
    IfSome (cell_number p name) (λ g. (first_cell p ≤ g) × (g < length p.roots))
cell_within p name right = by (number_in (names_of p.roots) name) (number_within (names_of p.roots) name)
  where
    by : (o : Option ℕ) → IfSome o (λ k. k < length (names_of p.roots)) →
        IfSome (option_map (λ k. first_cell p + k) o) (λ g. (first_cell p ≤ g) × (g < length p.roots))
    by None i = tt
    by (Some k) i = let e = roots_long p right in (omega arith, omega (arith, e, i))

-- SETUP stands nowhere but where the program begins
no_setup_by : (n : ℕ) (is : List Instr) (k : ℕ) → SetsUp n is → first_place n ≤ k → slice_get is k ≡ Some Setup → ⊥
no_setup_by (suc n) is k s l e = s k e
no_setup_by zero [] k s l e = absurd s
no_setup_by zero (i ∷ is) zero s l e = omega (arith, l)
no_setup_by zero (i ∷ is) (suc k) s l e = s.1 k e

-- what an instruction finds
pub record Found (p : Program) (count : ℕ) (roots : Addr) (h : Heap) (s : State) (f : Frame) (i : Instr) : Type 0 where
  pub context : Context p count roots.0 h
  pub thread : IsThread h s.thread
  pub frame : IsFrame p h 0 f
  pub at : slice_get (code_at p f.code).instrs f.pc ≡ Some i
  pub fine : Fine (limits p f) i (record { height = length f.stack + 0; blocks = heights f.blocks })

-- the Dict of a class body
body_dict : (h : Heap) (o : Option Addr) (made : Value) → HasNames h o made → o ≢ None → RefTo h Dict (ref (place_of o))
body_dict h (Some d) made i n = i.0
body_dict h None made i n = absurd (n refl)

module _ (p : Program) (right : IsRightProgram p) (count : ℕ) (roots : Addr) where
  abbrev Standing : Heap → State → Type 0
  Standing h s = IsState p roots h s

  abbrev pub To : InstrEffect → Frame → Row State Next → Heap → Type 0
  To e f row h = Leads p count roots.0 Standing e f row h

  module _ (h : Heap) (s : State) (f : Frame) (depth : ℕ) where
    abbrev site : Site
    site = record { program = p; roots = roots.0; thread = s.thread; depth = depth }

    abbrev k : Limits
    k = limits p f

    abbrev xs : Instr → List Value
    xs i = operands (pops p f i) f

    -- the operands are all there, and refer
    long : (i : Instr) → Found p count roots h s f i → length (xs i) ≡ pops p f i
    long i w = let o = w.fine.operands in let l : length (xs i) ≡ length f.stack - (length f.stack - pops p f i) =
        length-drop (length f.stack - pops p f i) f.stack in omega (arith, l, o)

    refer : (i : Instr) → Found p count roots h s f i → Every (Refers h) (xs i)
    refer i w = every_drop (Refers h) (length f.stack - pops p f i) f.stack w.frame.stacked

    -- the j-th of n operands, which are items
    item : (i : Instr) (j : ℕ) → Found p count roots h s f i → Every (IsItem h) (xs i) → j < pops p f i →
        IsItem h (value_at (xs i) j)
    item i j w g l = item_at h (xs i) j (let e = long i w in omega (arith, l, e)) g

    belongs : (i : Instr) → Found p count roots h s f i → Belongs p.codes p.roots f.code i
    belongs i w =
        let code = right_at p f.code right w.frame.is in
        let place = some_at (code_at p f.code).instrs f.pc i i w.at in
        subst (Belongs p.codes p.roots f.code) place.0 (code.belongs f.pc i place.1)

    dict : (i : Instr) → Found p count roots h s f i → IsTrue (is_body p.codes f.code) →
        RefTo h Dict (ref (place_of f.names))
    dict i w b = body_dict h f.names f.made w.frame.names (w.frame.body b)

    -- what a call gives
    call_given : (i : Instr) (m l : ℕ) (ys : List Value) → Every (IsItem h) ys → All (IsText k) (get_or k.keys l []) →
        length ys ≡ m + length (get_or k.keys l []) → IsCall p h (given_in site f m l ys)
    call_given i m l ys g names e = record {
      items = record { args = every_take (IsItem h) ys m g; values = every_drop (IsItem h) m ys g };
      names = every_of (λ n. (first_text ≤ n) × (n < first_cell p)) (get_or k.keys l []) names;
      long = let d : length (drop m ys) ≡ length ys - m = length-drop m ys in omega (arith, d, e);
    }

    -- each instruction, where no operand that it takes is nothing
    pub instr_holds : (i : Instr) → Found p count roots h s f i → Every (IsItem h) (wanted i (xs i)) →
        To (effect k i) f (instr_row site f (xs i) i) h
    unfolding instr_row
    instr_holds Setup w g = absurd (no_setup_by f.code (code_at p f.code).instrs f.pc
        (right_at p f.code right w.frame.is).sets_up w.frame.begun w.at)
    instr_holds (Const c) w g = const_holds p count roots.0 Standing (effect k (Const c)) f c k h w.context refl
        w.fine.known (tt, refl)
    instr_holds Pop w g = goes_on p count roots.0 Standing (effect k Pop) f h (tt, refl)
    instr_holds Dup w g = let v = value_refers h (xs Dup) 0 (refer Dup w) in
        leads_to p count roots.0 Standing (effect k Dup) f (Goes (value_at (xs Dup) 0 ∷ value_at (xs Dup) 0 ∷ [])) h
        (tt, refl, (v, (v, tt)))
    instr_holds Rot2 w g =
        let v = value_refers h (xs Rot2) 0 (refer Rot2 w) in
        let u = value_refers h (xs Rot2) 1 (refer Rot2 w) in
        leads_to p count roots.0 Standing (effect k Rot2) f (Goes (value_at (xs Rot2) 1 ∷ value_at (xs Rot2) 0 ∷ [])) h
        (tt, refl, (u, (v, tt)))
    instr_holds Dup2 w g =
        let v = value_refers h (xs Dup2) 0 (refer Dup2 w) in
        let u = value_refers h (xs Dup2) 1 (refer Dup2 w) in
        leads_to p count roots.0 Standing (effect k Dup2) f
        (Goes (value_at (xs Dup2) 0 ∷ value_at (xs Dup2) 1 ∷ value_at (xs Dup2) 0 ∷ value_at (xs Dup2) 1 ∷ [])) h
        (tt, refl, (v, (u, (v, (u, tt)))))
    instr_holds Rot3 w g =
        let v = value_refers h (xs Rot3) 0 (refer Rot3 w) in
        let u = value_refers h (xs Rot3) 1 (refer Rot3 w) in
        let t = value_refers h (xs Rot3) 2 (refer Rot3 w) in
        leads_to p count roots.0 Standing (effect k Rot3) f
        (Goes (value_at (xs Rot3) 2 ∷ value_at (xs Rot3) 0 ∷ value_at (xs Rot3) 1 ∷ [])) h
        (tt, refl, (t, (v, (u, tt))))
    instr_holds (LoadLocal j) w g = load_local_holds p count roots.0 Standing (effect k (LoadLocal j)) f
        (slot_name p f j) (value_at f.slots j) h w.context (tt, refl) (value_refers h f.slots j w.frame.held)
    instr_holds (StoreLocal j) w g =
        stores_holds p count roots.0 Standing (effect k (StoreLocal j)) f j (value_at (xs (StoreLocal j)) 0) h
        (tt, refl) (let l : j < length (code_at p f.code).slots = w.fine.known in let m = w.frame.slots in
        omega (arith, l, m)) (value_refers h (xs (StoreLocal j)) 0 (refer (StoreLocal j) w))
    instr_holds (DelLocal j) w g =
        del_local_holds p count roots.0 Standing (effect k (DelLocal j)) f (slot_name p f j) j (value_at f.slots j) h
        w.context (tt, refl) (let l : j < length (code_at p f.code).slots = w.fine.known in let m =
        w.frame.slots in omega (arith, l, m))
    instr_holds (LoadGlobal j) w g = load_global_holds p count roots.0 Standing (effect k (LoadGlobal j)) f k j
        (root_name p j) (builtin_named p (root_name p j)) h w.context refl w.fine.known
        (builtin_constant p k (root_name p j) refl) (tt, refl)
    instr_holds (StoreGlobal j) w g = store_global_holds p count roots.0 Standing (effect k (StoreGlobal j)) f j
        (value_at (xs (StoreGlobal j)) 0) h w.context w.fine.known
        (value_refers h (xs (StoreGlobal j)) 0 (refer (StoreGlobal j) w)) (tt, refl)
    instr_holds (DelGlobal j) w g = del_global_holds p count roots.0 Standing (effect k (DelGlobal j)) f j
        (root_name p j) h w.context w.fine.known (tt, refl)
    instr_holds (LoadName n) w g =
        load_name_holds p count roots.0 Standing (effect k (LoadName n)) f k (place_of f.names) n (root_name p n)
        (builtin_named p (root_name p n)) (cell_number p (root_name p n)) h w.context refl
        (dict (LoadName n) w (belongs (LoadName n) w).0) w.fine.known (cell_within p (root_name p n) right)
        (builtin_constant p k (root_name p n) refl) (tt, refl)
    instr_holds (StoreName n) w g =
        store_name_holds p count roots.0 Standing (effect k (StoreName n)) f (place_of f.names) n
        (value_at (xs (StoreName n)) 0) h w.context (dict (StoreName n) w (belongs (StoreName n) w)) w.fine.known
        (item (StoreName n) 0 w g (lit< tt)) (tt, refl)
    instr_holds (DelName n) w g = del_name_holds p count roots.0 Standing (effect k (DelName n)) f (place_of f.names) n
        (root_name p n) h w.context (dict (DelName n) w (belongs (DelName n) w)) w.fine.known (tt, refl)
    instr_holds (LoadAttr n) w g = load_attr_holds p count roots.0 Standing (effect k (LoadAttr n)) f n
        (value_at (xs (LoadAttr n)) 0) h w.context w.fine.known (tt, refl) (item (LoadAttr n) 0 w g (lit< tt))
    instr_holds (StoreAttr n) w g =
        store_attr_holds p count roots.0 Standing (effect k (StoreAttr n)) f n (value_at (xs (StoreAttr n)) 0)
        (value_at (xs (StoreAttr n)) 1) h w.context w.fine.known (tt, refl) (item (StoreAttr n) 0 w g (lit< tt))
        (item (StoreAttr n) 1 w g (lit< tt))
    instr_holds (DelAttr n) w g = del_attr_holds p count roots.0 Standing (effect k (DelAttr n)) f n
        (value_at (xs (DelAttr n)) 0) h w.context w.fine.known (tt, refl) (item (DelAttr n) 0 w g (lit< tt))
    instr_holds (LoadMethod n) w g = load_method_holds p count roots.0 Standing (effect k (LoadMethod n)) f n
        (root_name p n) (value_at (xs (LoadMethod n)) 0) h w.context w.fine.known (tt, refl)
        (item (LoadMethod n) 0 w g (lit< tt))
    instr_holds LoadItem w g = load_item_holds p count roots.0 Standing (effect k LoadItem) f
        (value_at (xs LoadItem) 0) (value_at (xs LoadItem) 1) h w.context (tt, refl) (item LoadItem 0 w g (lit< tt))
        (item LoadItem 1 w g (lit< tt))
    instr_holds StoreItem w g =
        store_item_holds p count roots.0 Standing (effect k StoreItem) f (value_at (xs StoreItem) 0)
        (value_at (xs StoreItem) 1) (value_at (xs StoreItem) 2) h w.context (tt, refl)
        (item StoreItem 0 w g (lit< tt)) (item StoreItem 1 w g (lit< tt)) (item StoreItem 2 w g (lit< tt))
    instr_holds DelItem w g = del_item_holds p count roots.0 Standing (effect k DelItem) f (value_at (xs DelItem) 0)
        (value_at (xs DelItem) 1) h w.context (tt, refl) (item DelItem 0 w g (lit< tt)) (item DelItem 1 w g (lit< tt))
    instr_holds Slice w g = slice_instr_holds p count roots.0 Standing (effect k Slice) f (value_at (xs Slice) 0)
        (value_at (xs Slice) 1) (value_at (xs Slice) 2) h w.context (tt, refl) (item Slice 0 w g (lit< tt))
    instr_holds (Unary o) w g = unary_holds p count roots.0 Standing (effect k (Unary o)) f o
        (value_at (xs (Unary o)) 0) h w.context (tt, refl) (item (Unary o) 0 w g (lit< tt))
    instr_holds Not w g = not_holds p count roots.0 Standing (effect k Not) f (value_at (xs Not) 0) h w.context
        (tt, refl) (item Not 0 w g (lit< tt))
    instr_holds (Binary o) w g = binary_holds p count roots.0 Standing (effect k (Binary o)) f o
        (value_at (xs (Binary o)) 0) (value_at (xs (Binary o)) 1) h w.context (tt, refl)
        (item (Binary o) 0 w g (lit< tt)) (item (Binary o) 1 w g (lit< tt))
    instr_holds (InPlace o) w g = in_place_holds p count roots.0 Standing (effect k (InPlace o)) f o
        (value_at (xs (InPlace o)) 0) (value_at (xs (InPlace o)) 1) h w.context (tt, refl)
        (item (InPlace o) 0 w g (lit< tt)) (item (InPlace o) 1 w g (lit< tt))
    instr_holds (Compare o) w g = compare_holds p count roots.0 Standing (effect k (Compare o)) f o
        (value_at (xs (Compare o)) 0) (value_at (xs (Compare o)) 1) h w.context (tt, refl)
        (item (Compare o) 0 w g (lit< tt)) (item (Compare o) 1 w g (lit< tt))
    instr_holds (Jump t) w g = leads_to p count roots.0 Standing (effect k (Jump t)) f (Jumps t []) h ((refl, refl), tt)
    instr_holds (JumpFalse t) w g = jump_false_holds p count roots.0 Standing (effect k (JumpFalse t)) f t
        (value_at (xs (JumpFalse t)) 0) h w.context ((tt, refl), (refl, refl)) (item (JumpFalse t) 0 w g (lit< tt))
    instr_holds (KeepFalse t) w g = keep_false_holds p count roots.0 Standing (effect k (KeepFalse t)) f t
        (value_at (xs (KeepFalse t)) 0) h w.context ((tt, refl), (refl, refl)) (item (KeepFalse t) 0 w g (lit< tt))
    instr_holds (KeepTrue t) w g = keep_true_holds p count roots.0 Standing (effect k (KeepTrue t)) f t
        (value_at (xs (KeepTrue t)) 0) h w.context ((tt, refl), (refl, refl)) (item (KeepTrue t) 0 w g (lit< tt))
    instr_holds (BuildTuple n) w g = build_holds p count roots.0 Standing (effect k (BuildTuple n)) f Tuple
        (xs (BuildTuple n)) h w.context (tt, refl) tt g
    instr_holds (BuildList n) w g = build_holds p count roots.0 Standing (effect k (BuildList n)) f ListKind
        (xs (BuildList n)) h w.context (tt, refl) tt g
    instr_holds (BuildDict n) w g = build_dict_holds p count roots.0 Standing (effect k (BuildDict n)) f
        (xs (BuildDict n)) h w.context (tt, refl) g
    instr_holds (Unpack n) w g = unpack_holds p count roots.0 Standing (effect k (Unpack n)) f n
        (value_at (xs (Unpack n)) 0) h w.context tt refl (item (Unpack n) 0 w g (lit< tt))
    instr_holds Iter w g = iter_holds p count roots.0 Standing (effect k Iter) f (value_at (xs Iter) 0) h w.context
        (tt, refl) (item Iter 0 w g (lit< tt))
    instr_holds (NextInstr t) w g = next_holds p count roots.0 Standing (effect k (NextInstr t)) f t
        (value_at (xs (NextInstr t)) 0) h w.context (tt, refl) (refl, refl) (item (NextInstr t) 0 w g (lit< tt))
    instr_holds (Call m l) w g =
        let all = xs (Call m l) in
        let e = long (Call m l) w in
        let d : length (drop 1 all) ≡ length all - 1 = length-drop 1 all in
        value_call_holds p count roots right (effect k (Call m l)) f s.thread depth Unset
        (given_in site f m l (drop 1 all)) (value_at all 0) h w.context (tt, refl) tt
        (item_at h all 0 (omega (arith, e)) g)
        (call_given (Call m l) m l (drop 1 all) (every_drop (IsItem h) 1 all g) w.fine.known.1 (omega (arith, d, e)))
    instr_holds (CallMethod m l) w g =
        let all = xs (CallMethod m l) in
        let e = long (CallMethod m l) w in
        let d : length (drop 2 all) ≡ length all - 2 = length-drop 2 all in
        value_call_holds p count roots right (effect k (CallMethod m l)) f s.thread depth (value_at all 1)
        (given_in site f m l (drop 2 all)) (value_at all 0) h w.context (tt, refl)
        (value_refers h all 1 (refer (CallMethod m l) w)) (before_second h all (omega (arith, e)) g)
        (call_given (CallMethod m l) m l (drop 2 all) (behind_second (IsItem h) all g) w.fine.known.1
        (omega (arith, d, e)))
    instr_holds Return w g =
        return_holds p count roots.0 Standing right (effect k Return) f s.thread (code_at p f.code).name (depth - 1)
        (value_at (xs Return) 0) f.made f.names h w.context w.thread
        (value_refers h (xs Return) 0 (refer Return w)) w.frame.names
    instr_holds (MakeFunction c m) w g =
        let b = belongs (MakeFunction c m) w in
        let fit = params_at p.codes c w.fine.known.0 in
        let few : m ≤ (code_at p c).params = let a = w.fine.known.1 in let z = fit.1 in omega (arith, a, z) in
        let e = long (MakeFunction c m) w in
        make_function_holds p count roots.0 Standing right (effect k (MakeFunction c m)) f (code_at p c).name c
        (xs (MakeFunction c m)) h w.context (tt, refl) g fit.0 b.0 b.1 (omega (arith, few, e))
    instr_holds (ClassBody c) w g =
        class_body_holds p count roots.0 Standing right (effect k (ClassBody c)) f s.thread depth c
        (value_at (xs (ClassBody c)) 0) h w.context (tt, refl) (item (ClassBody c) 0 w g (lit< tt))
        (params_at p.codes c w.fine.known).0 (belongs (ClassBody c) w)
    instr_holds (Try t) w g = leads_to p count roots.0 Standing (effect k (Try t)) f (Opens t) h (refl, refl, refl)
    instr_holds PopTry w g = leads_to p count roots.0 Standing (effect k PopTry) f Closes h (tt, refl)
    instr_holds ExcMatch w g = exc_match_holds p count roots.0 Standing right (effect k ExcMatch) f s.thread depth
        (value_at (xs ExcMatch) 0) (value_at (xs ExcMatch) 1) h w.context (tt, refl) (item ExcMatch 0 w g (lit< tt))
        (item ExcMatch 1 w g (lit< tt)).0
    instr_holds (MakeRaised zero) w g = made_alone_holds p count roots.0 Standing right (effect k (MakeRaised 0)) f
        s.thread depth (value_at (xs (MakeRaised 0)) 0) h w.context (tt, refl) (item (MakeRaised 0) 0 w g (lit< tt))
    instr_holds (MakeRaised (suc n)) w g =
        made_valued_holds p count roots.0 Standing right (effect k (MakeRaised (suc n))) f s.thread depth
        (value_at (xs (MakeRaised (suc n))) 0) (value_at (xs (MakeRaised (suc n))) 1) h w.context (tt, refl)
        (item (MakeRaised (suc n)) 0 w g (omega arith)) (item (MakeRaised (suc n)) 1 w g (omega arith))
    instr_holds RaiseInstr w g = raise_holds p count roots.0 Standing right (effect k RaiseInstr) f s.thread depth
        (value_at (xs RaiseInstr) 0) h w.context (item RaiseInstr 0 w g (lit< tt))
    instr_holds PrintItem w g = print_item_holds p count roots.0 Standing (effect k PrintItem) f
        (value_at (xs PrintItem) 0) h w.context (tt, refl) (item PrintItem 0 w g (lit< tt))
    instr_holds PrintNewline w g = print_newline_holds p count roots.0 Standing (effect k PrintNewline) f h w.context
        (tt, refl)
