-- Calls of any value, and threads that are started.
use Rattle.std.proofs.Common.{arith, ltb, true, ◌≡◌, ℕ, ◌+◌, ◌<◌, ◌≤◌, List, [], ◌∷◌, length, Option, Some, None, refl, sym, ap, subst, ◌∙◌, pos, lit<, inl, inr}
use Rattle.std.specs.Prelude.{option_map, negsuc}
use Rattle.std.specs.Option.{IfSome}
use Rattle.std.proofs.lemmas.Bool.{ltb-true}
use Rattle.py_base.specs.declared.kind.Kind.{Kind}
use Rattle.py_base.specs.declared.kind.Kind.TheVariants.{Str, Tuple, List as ListKind, Dict, Cell, Function, Class, Instance, Method, Iter, Range, Lock, Thread}
use Rattle.py_data.specs.declared.value.Addr.{Addr}
use Rattle.py_data.specs.declared.value.Value.{Value}
use Rattle.py_data.specs.declared.value.Value.TheVariants.{Unset, None as NoneValue, Bool as BoolValue, Int, Ref, Builtin}
use Rattle.py_data.specs.declared.change.Change.TheVariants as change
use Rattle.py_data.specs.declared.record.Got.{Got}
use Rattle.py_data.specs.declared.record.Got.TheVariants.{Is, Raise}
use Rattle.py_data.specs.Answers.{IsGot}
use Rattle.py_data.specs.Changes.{IsValuePlace}
use Rattle.py_data.specs.Closed.{Refers, IsItem}
use Rattle.py_data.specs.Every.{Every}
use Rattle.py_data.specs.Heap.{Heap, Rec, is_tracked, value_at}
use Rattle.py_data.specs.Looking.{Looks, kind_row}
use Rattle.py_data.specs.Order.{MayPut}
use Rattle.py_data.specs.Row.{Row, Ret, Do, Start}
use Rattle.py_data.specs.Sense.{Asks}
use Rattle.py_data.specs.Shape.{RefTo, HasShape, IsCallable}
use Rattle.py_data.proofs.Holding.{holds_do}
use Rattle.py_data.proofs.HoldingCalls.{holds_edit}
use Rattle.py_data.proofs.ItemLemmas.{fit_items, item_at}
use Rattle.py_data.proofs.Keep.{ref_stays, refers_stays}
use Rattle.py_data.proofs.Looking.{looks_ret, looks_then, kind_looks}
use Rattle.py_code.specs.declared.program.Program.{Program}
use Rattle.py_code.specs.Effects.{Effect as InstrEffect}
use Rattle.py_code.specs.Right.{IsRightProgram, first_text}
use Rattle.obj_class.specs.Bases.{ref}
use Rattle.obj_class.proofs.Parts.{is_at}
use Rattle.obj_threads.specs.declared.answer.Answer.{Answer}
use Rattle.obj_threads.specs.declared.answer.Answer.TheVariants.{Value as ValueAnswer, Waits as WaitsAnswer, Start as StartAnswer}
use Rattle.py_frames.specs.declared.state.Frame.{Frame}
use Rattle.py_frames.specs.declared.next.Next.{Next}
use Rattle.py_frames.specs.declared.next.Next.TheVariants.{Goes, Waits}
use Rattle.py_frames.specs.Binding.{Given, plainly, with_first, with_own, bound_row}
use Rattle.obj_class.specs.Attributes.{values_in}
use Rattle.obj_threads.specs.Starting.{has_room, first_in, thread_count}
use Rattle.obj_threads.specs.HoldsLaws.{IsTarget, IsCalled, IsUnstarted}
use Rattle.obj_builtins.specs.Calls.{call_row}
use Rattle.py_frames.specs.CallRows.{function_call, new_state, counted_row, started_row, numbered_start, thread_row, function_start, owned_start, target_start, kind_start, start_row, answered, keyed_call, key_pairs, keys_row, builtin_call, owned_call, method_of, method_call, record_call, value_call}
use Rattle.py_frames.specs.ClassCalls.{Site, entered_row}
use Rattle.py_frames.specs.Fits.{Fits}
use Rattle.py_frames.specs.GlobalRows.{first_cell}
use Rattle.py_frames.specs.Raising.{count_in, place_in, values_row, raise_row, call_fault}
use Rattle.py_frames.specs.Sound.{IsThreadCount, IsFrame, IsThread, IsState, rules_of}
use Rattle.py_frames.specs.State.{State}
use Rattle.py_frames.proofs.BindingHolds.{IsEntry, AreGiven, bound_looks, values_looks}
use Rattle.py_frames.proofs.BuiltinHolds.{call_holds}
use Rattle.py_frames.proofs.ClassHolds.{AreItemsGiven, refer_given, entered_holds, class_call_holds}
use Rattle.py_frames.proofs.FunctionHolds.{thread_set}
use Rattle.py_frames.proofs.Given.{Context, at_ref, ref_at, ref_item}
use Rattle.py_frames.proofs.MemberHolds.{after_kind}
use Rattle.py_frames.proofs.Raised.{Keeps, Leads, Pushes, raises, goes_one, leads_to, then_holds, after_look, after_looks, after_root}
use Rattle.py_frames.proofs.Settle.{frame_stays, thread_stays}

-- the number of a new thread, for which there is room
number_from : (v : Value) → IsThreadCount v → has_room v ≡ true → (1 ≤ count_in v) × (count_in v ≤ 1_023)
number_from (Int (pos n)) i e = (i.0, room_below n e)
  where
    room_below : (n : ℕ) → ltb n 1_024 ≡ true → n ≤ 1_023
    room_below n e = let l = ltb-true n 1_024 e in omega (arith, l)
number_from (Int (negsuc n)) i e = absurd i
number_from Unset i e = absurd i
number_from NoneValue i e = absurd i
number_from (BoolValue b) i e = absurd i
number_from (Ref a) i e = absurd i
number_from (Builtin b) i e = absurd i

-- the names of keywords are strings among the roots, and each has its value
pub record IsCall (p : Program) (h : Heap) (g : Given) : Type 0 where
  pub items : AreItemsGiven h g
  pub names : Every (λ n. (first_text ≤ n) × (n < first_cell p)) g.names
  pub long : length g.values ≡ length g.names

-- an object in front is an item, or there is none
pub own_call : (p : Program) (h : Heap) (own : Value) (g : Given) → Refers h own → IsCall p h g →
    IsCall p h (with_own own g)
own_call p h Unset g i c = c
own_call p h NoneValue g i c = record {
  items =
      record { args = ((tt, λ q. let z : NoneValue ≡ Unset = q in cc), c.items.args); values = c.items.values };
  names =
      c.names;
  long = c.long;
}
own_call p h (BoolValue b) g i c = record {
  items = record {
    args = ((tt, λ q. let z : BoolValue b ≡ Unset = q in cc), c.items.args);
    values =
        c.items.values;
  };
  names = c.names;
  long = c.long;
}
own_call p h (Int n) g i c = record {
  items =
      record { args = ((tt, λ q. let z : Int n ≡ Unset = q in cc), c.items.args); values = c.items.values };
  names =
      c.names;
  long = c.long;
}
own_call p h (Ref a) g i c = record {
  items =
      record { args = ((i, λ q. let z : Ref a ≡ Unset = q in cc), c.items.args); values = c.items.values };
  names =
      c.names;
  long = c.long;
}
own_call p h (Builtin b) g i c = record {
  items =
      record { args = ((i, λ q. let z : Builtin b ≡ Unset = q in cc), c.items.args); values = c.items.values };
  names =
      c.names;
  long = c.long;
}

first_call : (p : Program) (h : Heap) (x : Value) (g : Given) → IsItem h x → IsCall p h g → IsCall p h (with_first x g)
first_call p h x g i c = record {
  items = record { args = (i, c.items.args); values = c.items.values };
  names =
      c.names;
  long = c.long;
}

method_parts : (h : Heap) (vs : List Value) → HasShape h Method vs → IsCallable h (value_at vs 0) × (1 < length vs)
method_parts h [] s = absurd s
method_parts h (a ∷ []) s = absurd s
method_parts h (a ∷ b ∷ []) s = (s, omega arith)
method_parts h (a ∷ b ∷ c ∷ vs) s = absurd s

module _ (p : Program) (count : ℕ) (roots : Addr) (right : IsRightProgram p) (e : InstrEffect) (f : Frame) where
  abbrev Stands : Heap → State → Type 0
  Stands h s = IsState p roots h s

  abbrev Kept : {A : Type 0} → (A → Heap → Type 0) → Row State A → Heap → Type 0
  Kept q row h = Keeps p count roots.0 Stands q row h

  abbrev Ok : Row State Next → Heap → Type 0
  Ok row h = Leads p count roots.0 Stands e f row h

  -- ---- threads
  starts : (s : State) (x : Value) (h : Heap) → Pushes e → Stands h s → Refers h x →
      Ok (Do (Start s) (λ _. Ret (Goes (x ∷ [])))) h
  unfolding Asks
  starts s x h t i v = holds_do (rules_of p count) Stands (Fits p e f) (Start s) (λ _. Ret (Goes (x ∷ []))) h tt i
      (λ u h1 d order y. goes_one p count roots.0 Stands e f x h1 t (refers_stays h h1 y x v))

  cell_long : (h : Heap) (vs : List Value) → HasShape h Cell vs → 0 < length vs
  cell_long h [] s = absurd s
  cell_long h (v ∷ []) s = omega arith
  cell_long h (v ∷ w ∷ vs) s = absurd s

  -- the count rises, and the thread starts
  counted_holds : (thread : Option Addr) (g : Frame) (n : ℕ) (x : Value) (h : Heap) → Context p count roots.0 h →
      Pushes e → IsThread h thread → IsFrame p h 0 g → n ≤ 1_023 → Refers h x →
      Ok (counted_row roots.0 thread g count n x) h
  unfolding counted_row rules_of
  counted_holds thread g n x h c t i j l v =
      let r = c.rooted.known in
      let cell : RefTo h Cell (ref count) = subst (RefTo h Cell) c.rooted.counts r.counts in
      let q = is_at h Cell count cell in
      let shape : HasShape h Cell q.rec.values =
      subst (λ k. HasShape h k q.rec.values) q.kind (c.order.each count q.rec q.here).closed.shaped.0 in
      holds_edit (rules_of p count) Stands (Fits p e f) count (change.Set 0 (Int (pos (n + 1))))
      (λ _. Do (Start (new_state n roots.0 thread g)) (λ _. Ret (Goes (x ∷ [])))) h q.rec c.order q.here
      (ap is_tracked q.kind, cell_long h q.rec.values shape)
      (subst (λ k. IsValuePlace k 0) (sym q.kind) tt)
      (subst (λ k. MayPut (rules_of p count) h count k 0 (Int (pos (n + 1)))) (sym q.kind)
      (tt, λ w. (omega arith, omega (arith, l))))
      (λ h1 order1 y put.
      let s : Stands h1 (new_state n roots.0 thread g) =
      record { roots_are = refl; thread = thread_stays h h1 thread y i; goes = (frame_stays p h h1 0 g y j, tt) } in
      starts (new_state n roots.0 thread g) x h1 t s (refers_stays h h1 y x v))

  started_holds : (thread : Option Addr) (g : Frame) (n : ℕ) (h : Heap) → Context p count roots.0 h → Pushes e →
      IsThread h thread → IsFrame p h 0 g → 1 ≤ n → n ≤ 1_023 → Ok (started_row roots.0 thread g count n) h
  unfolding started_row
  started_holds None g n h c t i j l m = counted_holds None g n (Int (pos n)) h c t i j m tt
  started_holds (Some a) g n h c t i j l m =
      thread_set p count roots.0 Stands (Fits p e f) a 2 (Int (pos n))
      (λ _. counted_row roots.0 (Some a) g count n NoneValue) h c i (lit< tt) (l, m)
      (λ h1 c1 y. counted_holds (Some a) g n NoneValue h1 c1 t (ref_stays h h1 y Thread (Ref a) i)
      (frame_stays p h h1 0 g y j) m tt)

  -- there is room for a thread more
  abbrev HasRoom : Heap → Type 0
  HasRoom h = has_room (thread_count h roots.0) ≡ true

  numbered_holds : (thread : Option Addr) (g : Frame) (h : Heap) → Context p count roots.0 h → Pushes e →
      IsThread h thread → HasRoom h → IsFrame p h 0 g → Ok (numbered_start roots.0 thread g count) h
  unfolding numbered_start rules_of
  numbered_holds thread g h c t i o j =
      let r = c.rooted.known in
      let cell : RefTo h Cell (ref count) = subst (RefTo h Cell) c.rooted.counts r.counts in
      let q = is_at h Cell count cell in
      let at : thread_count h roots.0 ≡ value_at q.rec.values 0 =
      ap (λ z. first_in h (value_at (values_in z) 0)) r.here ∙
      (ap (first_in h) c.rooted.counts ∙ ap (λ z. value_at (values_in z) 0) q.here) in
      let n = number_from (value_at q.rec.values 0) ((c.order.each count q.rec q.here).cell q.kind refl)
      (ap has_room (sym at) ∙ o) in
      after_look p count roots.0 Stands (Fits p e f) count 0 q.rec
      (λ v. started_row roots.0 thread g count (count_in v)) h c q.here
      (started_holds thread g (count_in (value_at q.rec.values 0)) h c t i j n.0 n.1)

  thread_holds : (thread : Option Addr) (g : Got Frame) (h : Heap) → Context p count roots.0 h → Pushes e →
      IsThread h thread → HasRoom h → IsGot (IsEntry p) g h → Ok (thread_row roots.0 thread g) h
  unfolding thread_row
  thread_holds thread (Is g) h c t i o j =
      let at : place_in (value_at c.rooted.known.list.values 0) ≡ count = ap place_in c.rooted.counts in
      after_root p count roots.0 Stands (Fits p e f) 0 (λ c. numbered_start roots.0 thread g (place_in c)) h c
      (subst (λ z. Ok (numbered_start roots.0 thread g z) h) (sym at) (numbered_holds thread g h c t i o j.0))
  thread_holds thread (Raise fault) h c t i o j = raises p count roots.0 Stands e f fault h c j

  module _ (me : Option Addr) (depth : ℕ) where
    abbrev site : Site
    site = record { program = p; roots = roots.0; thread = me; depth = depth }

    wrong_call : (h : Heap) → Context p count roots.0 h → Ok (raise_row roots.0 call_fault) h
    wrong_call h c = raises p count roots.0 Stands e f call_fault h c (lit< tt, lit< tt, tt)

    plain_given : (h : Heap) (args : List Value) → Every (IsItem h) args → AreGiven h (plainly args)
    plain_given h args i = refer_given h (plainly args) (record { args = i; values = tt })

    function_start_holds : (thread : Option Addr) (args : List Value) (a : ℕ) (h : Heap) → Context p count roots.0 h →
        Pushes e → IsThread h thread → HasRoom h → RefTo h Function (ref a) → Every (IsItem h) args →
        Ok (function_start site thread args a) h
    unfolding function_start
    function_start_holds thread args a h c t i o j k =
        after_looks p count roots.0 Stands (λ x. IsGot (IsEntry p) x h) (Fits p e f) (bound_row p (plainly args) a)
        (λ g. thread_row roots.0 thread g) h c
        (bound_looks State p count roots.0 right (plainly args) a h c j (plain_given h args k))
        (λ x m. thread_holds thread x h c t i o m)

    -- a Method's own object is an item
    own_item : (h : Heap) (a : ℕ) (r : Rec) → Context p count roots.0 h → h a ≡ Some r → r.kind ≡ Method →
        IsItem h (value_at r.values 1)
    own_item h a r c here kind =
        let fit = c.order.each a r here in
        let shape : HasShape h Method r.values = subst (λ k. HasShape h k r.values) kind fit.closed.shaped.0 in
        item_at h r.values 1 (method_parts h r.values shape).1
        (fit_items (rules_of p count) h a r fit (λ z. let w : Method ≡ Cell = sym kind ∙ z in cc))

    method_start_holds : (thread : Option Addr) (args : List Value) (a : ℕ) (r : Rec) (h : Heap) →
        Context p count roots.0 h → Pushes e → IsThread h thread → HasRoom h → h a ≡ Some r → r.kind ≡ Method →
        RefTo h Function (value_at r.values 0) → Every (IsItem h) args
        → Ok (target_start site thread args a Method) h
    unfolding target_start owned_start
    method_start_holds thread args a r h c t i o here kind j k =
        after_look p count roots.0 Stands (Fits p e f) a 0 r (λ g. owned_start site thread args a (place_in g)) h c here
        (after_look p count roots.0 Stands (Fits p e f) a 1 r
        (λ own. function_start site thread (own ∷ args) (place_in (value_at r.values 0))) h c here
        (function_start_holds thread (value_at r.values 1 ∷ args) (place_in (value_at r.values 0)) h c t i o
        (ref_at h Function (value_at r.values 0) j) (own_item h a r c here kind, k)))

    -- a Function's kind is none of a Method's
    plain_start_holds : (thread : Option Addr) (args : List Value) (a : ℕ) (h : Heap) → Context p count roots.0 h →
        Pushes e → IsThread h thread → HasRoom h → RefTo h Function (ref a) → Every (IsItem h) args →
        Ok (target_start site thread args a Function) h
    unfolding target_start
    plain_start_holds thread args a h c t i o j k = function_start_holds thread args a h c t i o j k

    kind_start_holds : (thread : Option Addr) (target : Value) (args : List Value) (h : Heap) →
        Context p count roots.0 h → Pushes e → IsThread h thread → HasRoom h → IsTarget h target →
        Every (IsItem h) args → Ok (kind_start site thread (place_in target) args) h
    unfolding kind_start
    kind_start_holds thread target args h c t i o (inl j) k =
        let s = ref_at h Function target j in
        let q = is_at h Function (place_in target) s in
        after_looks p count roots.0 Stands (λ k. k ≡ q.rec.kind) (Fits p e f) (kind_row (place_in target))
        (λ k. target_start site thread args (place_in target) k) h c
        (kind_looks State h (place_in target) q.rec q.here)
        (λ z w. subst (λ z. Ok (target_start site thread args (place_in target) z) h) (sym (w ∙ q.kind))
        (plain_start_holds thread args (place_in target) h c t i o s k))
    kind_start_holds thread target args h c t i o (inr j) k =
        let at : place_in target ≡ j.address = ap place_in j.is in
        let here : h (place_in target) ≡ Some j.method = ap h at ∙ j.here in
        after_looks p count roots.0 Stands (λ k. k ≡ j.method.kind) (Fits p e f) (kind_row (place_in target))
        (λ k. target_start site thread args (place_in target) k) h c
        (kind_looks State h (place_in target) j.method here)
        (λ z w. subst (λ z. Ok (target_start site thread args (place_in target) z) h) (sym (w ∙ j.kind))
        (method_start_holds thread args (place_in target) j.method h c t i o here j.kind j.function k))

    start_holds : (thread : Option Addr) (target : Value) (args : ℕ) (h : Heap) → Context p count roots.0 h →
        Pushes e → IsThread h thread → HasRoom h → IsTarget h target → RefTo h Tuple (ref args) →
        Ok (start_row site thread target args) h
    unfolding start_row
    start_holds thread target args h c t i o j k =
        let q = is_at h Tuple args k in
        let items = fit_items (rules_of p count) h args q.rec (c.order.each args q.rec q.here)
        (λ z. let w : Tuple ≡ Cell = sym q.kind ∙ z in cc) in
        after_looks p count roots.0 Stands (λ vs. vs ≡ q.rec.values) (Fits p e f) (values_row args)
        (λ vs. kind_start site thread (place_in target) vs) h c (values_looks State h args q.rec q.here)
        (λ vs w. kind_start_holds thread target vs h c t i o j (subst (Every (IsItem h)) (sym w) items))

    -- ---- builtins
    if_thread : (h : Heap) (o : Option Addr) → IfSome o (λ a. IsUnstarted h a.0) → IsThread h o
    if_thread h None i = tt
    if_thread h (Some a) i = at_ref h Thread a.0 i.thread i.here i.kind

    answered_holds : (g : Got Answer) (h : Heap) → Context p count roots.0 h → Pushes e → IsGot (IsCalled roots.0) g h
        → Ok (answered site g) h
    unfolding answered
    answered_holds (Is (ValueAnswer x)) h c t i = goes_one p count roots.0 Stands e f x h t i.0
    answered_holds (Is WaitsAnswer) h c t i = leads_to p count roots.0 Stands e f Waits h tt
    answered_holds (Is (StartAnswer target args thread)) h c t i =
        start_holds thread target args.0 h c t (if_thread h thread i.3) i.4 i.1 i.2
    answered_holds (Raise fault) h c t i = raises p count roots.0 Stands e f fault h c i

    -- the names and values of keywords are items
    pairs_items : (h : Heap) (c : Context p count roots.0 h) (ns : List ℕ) (vs : List Value) →
        Every (λ n. (first_text ≤ n) × (n < first_cell p)) ns → Every (IsItem h) vs → length vs ≡ length ns →
        Every (IsItem h) (key_pairs c.rooted.known.list.values ns vs)
    pairs_items h c [] vs i j l = tt
    pairs_items h c (n ∷ ns) [] i j l = absurd (omega (arith, l))
    pairs_items h c (n ∷ ns) (v ∷ vs) i j l = (
      ref_item h Str (value_at c.rooted.known.list.values n) (c.rooted.texts n i.0.0 i.0.1),
      (j.0, pairs_items h c ns vs i.1 j.1 (omega (arith, l))),
    )

    keys_looks : (ns : List ℕ) (vs : List Value) (h : Heap) → Context p count roots.0 h →
        Every (λ n. (first_text ≤ n) × (n < first_cell p)) ns → Every (IsItem h) vs → length vs ≡ length ns →
        Looks {S = State} (λ z. Every (IsItem h) z) (keys_row roots.0 ns vs) h
    unfolding keys_row
    keys_looks [] vs h c i j l = looks_ret State (λ z. Every (IsItem h) z) [] h tt
    keys_looks (n ∷ ns) vs h c i j l =
        let r = c.rooted.known in
        looks_then (λ rs. rs ≡ r.list.values) (λ z. Every (IsItem h) z) (values_row roots.0)
        (λ rs. Ret (key_pairs rs (n ∷ ns) vs)) h (values_looks State h roots.0 r.list r.here)
        (λ rs w. looks_ret State (λ z. Every (IsItem h) z) (key_pairs rs (n ∷ ns) vs) h
        (subst (λ z. Every (IsItem h) (key_pairs z (n ∷ ns) vs)) (sym w) (pairs_items h c (n ∷ ns) vs i j l)))

    builtin_holds : (own : Value) (g : Given) (b : ℕ) (h : Heap) → Context p count roots.0 h → Pushes e →
        Refers h own → IsCall p h g → Ok (builtin_call site own g b) h
    unfolding builtin_call keyed_call
    builtin_holds own g b h c t i j =
        let me_at : Option ℕ = option_map (λ a. a.0) me in
        let k = call_holds (rules_of p count) Stands in
        after_looks p count roots.0 Stands (λ z. Every (IsItem h) z) (Fits p e f) (keys_row roots.0 g.names g.values)
        (λ keys. keyed_call site b own g.args keys) h c
        (keys_looks g.names g.values h c j.names j.items.values j.long)
        (λ keys m.
        then_holds p count roots.0 Stands (IsGot (IsCalled roots.0)) (Fits p e f)
        (call_row roots.0 me_at b own g.args keys) (λ g. answered site g) h c
        (k.call h roots.0 me_at b own g.args keys c.order c.rooted.known i j.items.args m)
        (λ x h1 c1 y n. answered_holds x h1 c1 t n))

    -- ---- what is called
    function_call_holds : (g : Given) (a : ℕ) (h : Heap) → Context p count roots.0 h → Pushes e →
        RefTo h Function (ref a) → IsCall p h g → Ok (function_call site g a) h
    unfolding function_call
    function_call_holds g a h c t i j =
        after_looks p count roots.0 Stands (λ x. IsGot (IsEntry p) x h) (Fits p e f) (bound_row p g a)
        (λ x. entered_row site x) h c (bound_looks State p count roots.0 right g a h c i (refer_given h g j.items))
        (λ x m. entered_holds p count roots.0 Stands right e f me depth x h c t m)

    owned_holds : (x : Value) (g : Given) (own : Value) (h : Heap) → Context p count roots.0 h → Pushes e →
        IsCallable h x → IsItem h own → IsCall p h g → Ok (owned_call site x g own) h
    unfolding owned_call
    owned_holds (Builtin b) g own h c t i j k = builtin_holds own g b h c t j.0 k
    owned_holds (Ref a) g own h c t i j k =
        function_call_holds (with_first own g) a.0 h c t i (first_call p h own g j k)
    owned_holds Unset g own h c t i j k = absurd i
    owned_holds NoneValue g own h c t i j k = absurd i
    owned_holds (BoolValue b) g own h c t i j k = absurd i
    owned_holds (Int n) g own h c t i j k = absurd i

    method_call_holds : (g : Given) (a : ℕ) (h : Heap) → Context p count roots.0 h → Pushes e → RefTo h Method (ref a)
        → IsCall p h g → Ok (method_call site g a) h
    unfolding method_call method_of
    method_call_holds g a h c t i j =
        let q = is_at h Method a i in
        let shape : HasShape h Method q.rec.values =
        subst (λ k. HasShape h k q.rec.values) q.kind (c.order.each a q.rec q.here).closed.shaped.0 in
        after_look p count roots.0 Stands (Fits p e f) a 0 q.rec (λ x. method_of site a g x) h c q.here
        (after_look p count roots.0 Stands (Fits p e f) a 1 q.rec
        (λ own. owned_call site (value_at q.rec.values 0) g own) h c q.here
        (owned_holds (value_at q.rec.values 0) g (value_at q.rec.values 1) h c t (method_parts h q.rec.values shape).0
        (own_item h a q.rec c q.here q.kind) j))

    record_call_holds : (g : Given) (a : Addr) (k : Kind) (h : Heap) → Context p count roots.0 h → Pushes e →
        RefTo h k (Ref a) → IsCall p h g → Ok (record_call site g a.0 k) h
    unfolding record_call
    record_call_holds g a Function h c t i j = function_call_holds g a.0 h c t i j
    record_call_holds g a Method h c t i j = method_call_holds g a.0 h c t i j
    record_call_holds g a Class h c t i j = class_call_holds p count roots.0 Stands right e f me depth g a.0 h c t i
        j.items
    record_call_holds g a Str h c t i j = wrong_call h c
    record_call_holds g a Tuple h c t i j = wrong_call h c
    record_call_holds g a ListKind h c t i j = wrong_call h c
    record_call_holds g a Dict h c t i j = wrong_call h c
    record_call_holds g a Cell h c t i j = wrong_call h c
    record_call_holds g a Instance h c t i j = wrong_call h c
    record_call_holds g a Iter h c t i j = wrong_call h c
    record_call_holds g a Range h c t i j = wrong_call h c
    record_call_holds g a Lock h c t i j = wrong_call h c
    record_call_holds g a Thread h c t i j = wrong_call h c

    pub value_call_holds : (own : Value) (g : Given) (x : Value) (h : Heap) → Context p count roots.0 h → Pushes e →
        Refers h own → IsItem h x → IsCall p h g → Ok (value_call site own g x) h
    unfolding value_call
    value_call_holds own g (Ref a) h c t i j k =
        after_kind p count roots.0 Stands (Fits p e f) a (λ q. record_call site (with_own own g) a.0 q) h c j
        (λ q l. record_call_holds (with_own own g) a q h c t l (own_call p h own g i k))
    value_call_holds own g (Builtin b) h c t i j k = builtin_holds own g b h c t i k
    value_call_holds own g Unset h c t i j k = wrong_call h c
    value_call_holds own g NoneValue h c t i j k = wrong_call h c
    value_call_holds own g (BoolValue b) h c t i j k = wrong_call h c
    value_call_holds own g (Int n) h c t i j k = wrong_call h c
