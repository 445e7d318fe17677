-- Global names, and the names of a class body.
use Rattle.std.proofs.Common.{arith, ◌≡◌, ◌≢◌, ℕ, ◌+◌, ◌*◌, ◌<◌, ◌≤◌, Bool, true, false, if◌then◌else◌, cond, List, [], ◌∷◌, length, Option, Some, None, refl, sym, ap, subst, ◌∙◌, codes, lit<}
use Rattle.std.specs.Option.{IfSome}
use Rattle.std.specs.Prelude.{option_map}
use Rattle.std.specs.Str.{bytes_eq}
use Rattle.py_base.specs.Numbers.{number_from, number_in}
use Rattle.py_base.specs.declared.kind.Kind.TheVariants.{Cell, Dict, Str}
use Rattle.py_data.specs.declared.value.Value.{Value}
use Rattle.py_data.specs.declared.value.Value.TheVariants.{Unset, None as NoneValue, Bool as BoolValue, Int, Ref, Builtin}
use Rattle.py_data.specs.declared.change.Change.TheVariants as change
use Rattle.py_data.specs.declared.record.Got.{Got}
use Rattle.py_data.specs.declared.record.Got.TheVariants.{Is, Raise}
use Rattle.py_data.specs.Answers.{IfItem, IsAnswer}
use Rattle.py_data.specs.Changes.{IsValuePlace}
use Rattle.py_data.specs.Closed.{Refers, IsItem}
use Rattle.py_data.specs.Every.{Every}
use Rattle.py_data.specs.Heap.{Heap, Rec, is_tracked, value_at}
use Rattle.py_data.specs.Looking.{Looks}
use Rattle.py_data.specs.Order.{MayPut}
use Rattle.py_data.specs.Row.{Row, Ret}
use Rattle.py_data.specs.Shape.{RefTo, HasShape, IsKey, find}
use Rattle.py_data.proofs.HoldingCalls.{holds_edit, pairs_of}
use Rattle.py_data.proofs.Looking.{looks_read, looks_ret, looks_find, looks_weaken}
use Rattle.py_code.specs.declared.instr.Constant.{Constant}
use Rattle.py_code.specs.declared.instr.Constant.TheVariants.{Truth, Builtin as BuiltinConstant, Root as RootConstant}
use Rattle.py_code.specs.declared.program.Program.{Program}
use Rattle.py_code.specs.Effects.{Effect as InstrEffect, Limits, IsConstant}
use Rattle.py_code.specs.Right.{first_text, own_name}
use Rattle.obj_class.specs.AttrRows.{pair_row, held_row}
use Rattle.obj_class.specs.Attributes.{of_pair, values_in}
use Rattle.obj_class.specs.Bases.{ref}
use Rattle.obj_class.proofs.Parts.{is_at, text_key, kept_item}
use Rattle.obj_dict.specs.Dict.{set_row, del_row}
use Rattle.obj_dict.proofs.Holding.{dict_holds}
use Rattle.py_frames.specs.declared.state.Frame.{Frame}
use Rattle.py_frames.specs.declared.next.Next.{Next}
use Rattle.py_frames.specs.declared.next.Next.TheVariants.{Goes}
use Rattle.py_frames.specs.Fits.{Fits}
use Rattle.py_frames.specs.GlobalRows.{first_cell, function_names, exception_names, function_named, class_or, main_place, builtin_named, name_fault, unbound_row, bound_row, load_cell_row, load_global_row, set_cell_row, store_global_row, cleared_row, clear_cell_row, del_global_row, outer_row, named_row, own_or_outer, load_name_row, put_name_row, store_name_row, gone_row, drop_name_row, del_name_row}
use Rattle.py_frames.specs.Raising.{place_in}
use Rattle.py_frames.specs.Sound.{rules_of}
use Rattle.py_frames.proofs.Given.{Context, named, ref_at, ref_item, value_refers}
use Rattle.py_frames.proofs.LocalHolds.{const_holds}
use Rattle.py_frames.proofs.Raised.{Leads, Pushes, Passes, raises, goes_one, goes_on, finishes, then_holds, after_look, after_looks, after_root}

-- ---- the numbers of names

numbered : (n : ℕ) (xs : List (List ℕ)) (x : List ℕ) → IfSome (number_from n xs x) (λ k. k < n + length xs)
numbered n [] x = tt
numbered n (y ∷ ys) x = by (bytes_eq y x) (number_from (n + 1) ys x) (numbered (n + 1) ys x)
  where
    by : (b : Bool) (o : Option ℕ) → IfSome o (λ k. k < n + 1 + length ys) →
        IfSome (if b then Some n else o) (λ k. k < n + length (y ∷ ys))
    by true o i = omega arith
    by false None i = tt
    by false (Some k) i = omega (arith, i)

pub number_within : (xs : List (List ℕ)) (x : List ℕ) → IfSome (number_in xs x) (λ k. k < length xs)
number_within xs x = more (number_in xs x) (numbered 0 xs x)
  where
    more : (o : Option ℕ) → IfSome o (λ k. k < 0 + length xs) → IfSome o (λ k. k < length xs)
    more None i = tt
    more (Some k) i = omega (arith, i)

-- ---- builtins that stand for a name are constants

constant_by : (k : Limits) (b : Bool) (c : Constant) (o : Option Constant) → IsConstant k c →
    IfSome o (λ c. IsConstant k c) → IfSome (cond b (Some c) o) (λ c. IsConstant k c)
constant_by k true c o i j = i
constant_by k false c o i j = j

pub builtin_constant : (p : Program) (k : Limits) (name : List ℕ) → k.cells ≡ first_cell p →
    IfSome (builtin_named p name) (λ c. IsConstant k c)
unfolding builtin_named
builtin_constant p k name e =
    let function = functions (number_in function_names name) (number_within function_names name) in
    let class = classes (number_in exception_names name) (function_named name) (number_within exception_names name)
    function in
    constant_by k (bytes_eq (codes "True") name) (Truth true) _ tt
    (constant_by k (bytes_eq (codes "False") name) (Truth false) _ tt
    (constant_by k (bytes_eq own_name name) (RootConstant (main_place p)) _ (omega arith, omega (arith, e)) class))
  where
    functions : (o : Option ℕ) → IfSome o (λ n. n < length function_names) →
        IfSome (option_map BuiltinConstant o) (λ c. IsConstant k c)
    functions None i = tt
    functions (Some n) i = omega (arith, i)

    classes : (o : Option ℕ) (more : Option Constant) → IfSome o (λ n. n < length exception_names) →
        IfSome more (λ c. IsConstant k c) → IfSome (class_or o more) (λ c. IsConstant k c)
    classes None more i j = j
    classes (Some n) more i j = (omega arith, omega (arith, i, e))

-- ---- what the dictionary of a class body has

pub text_is_key : (h : Heap) (key : Value) → RefTo h Str key → IsKey h key
text_is_key h (Ref a) i = text_key (h a.0) i
text_is_key h Unset i = absurd i
text_is_key h NoneValue i = absurd i
text_is_key h (BoolValue b) i = absurd i
text_is_key h (Int n) i = absurd i
text_is_key h (Builtin b) i = absurd i

module _ (S : Type 0) (p : Program) (count : ℕ) (h : Heap) (roots : ℕ) (c : Context p count roots h) where
  pair_looks : (d : ℕ) (r : Rec) → h d ≡ Some r → (o : Option ℕ) →
      Looks {S = S} (λ z. z ≡ of_pair r.values o) (pair_row d o) h
  unfolding pair_row
  pair_looks d r e None = looks_ret S (λ z. z ≡ None) None h refl
  pair_looks d r e (Some i) =
      let is : Option Value → Type 0 = λ z. z ≡ Some (value_at r.values (2 * i + 1)) in
      looks_read is d (λ r. Ret (Some (value_at r.values (2 * i + 1)))) h r e
      (looks_ret S is (Some (value_at r.values (2 * i + 1))) h refl)

  -- what a search in the Dict finds is an item
  pub held_looks : (d : ℕ) (key : Value) → RefTo h Dict (ref d) → IsKey h key →
      Looks {S = S} (λ z. IfItem z h) (held_row d key) h
  unfolding held_row
  held_looks d key i k =
      let t = is_at h Dict d i in
      let item : IfItem (of_pair t.rec.values (find h t.rec.values key)) h =
      subst (λ o. IfItem (of_pair (values_in o) (find h (values_in o) key)) h) t.here
      (kept_item (rules_of p count) h c.order (ref d) key i) in
      looks_find (λ z. IfItem z h) d key (pair_row d) h t.rec t.here
      (t.kind, k, pairs_of (rules_of p count) h d t.rec c.order t.here t.kind)
      (looks_weaken (λ z. z ≡ of_pair t.rec.values (find h t.rec.values key)) (λ z. IfItem z h)
      (λ z q. subst (λ z. IfItem z h) (sym q) item) (pair_row d (find h t.rec.values key)) h
      (pair_looks d t.rec t.here (find h t.rec.values key)))

-- a Cell has a place
cell_long : (h : Heap) (vs : List Value) → HasShape h Cell vs → 0 < length vs
cell_long h [] s = absurd s
cell_long h (v ∷ []) s = omega arith
cell_long h (v ∷ w ∷ vs) s = absurd s

module _ {S : Type 0} (p : Program) (count roots : ℕ) (stands : Heap → S → Type 0) (e : InstrEffect) (f : Frame) where
  abbrev Ok : Row S Next → Heap → Type 0
  Ok row h = Leads p count roots stands e f row h

  abbrev Is_root : ℕ → Type 0
  Is_root g = (first_cell p ≤ g) × (g < length p.roots)

  -- a value is set in a Cell that isn't that of the count
  set_cell_holds : (a : ℕ) (x : Value) (h : Heap) → Context p count roots h → RefTo h Cell (ref a) → a ≢ count →
      Refers h x → Passes e → Ok (set_cell_row a x) h
  unfolding set_cell_row rules_of
  set_cell_holds a x h c i other v t =
      let cell = is_at h Cell a i in
      let shape : HasShape h Cell cell.rec.values =
      subst (λ k. HasShape h k cell.rec.values) cell.kind (c.order.each a cell.rec cell.here).closed.shaped.0 in
      holds_edit (rules_of p count) stands (Fits p e f) a (change.Set 0 x) (λ _. Ret (Goes [])) h cell.rec c.order
      cell.here (ap is_tracked cell.kind, cell_long h cell.rec.values shape)
      (subst (λ k. IsValuePlace k 0) (sym cell.kind) tt)
      (subst (λ k. MayPut (rules_of p count) h a k 0 x) (sym cell.kind) (v, λ q. absurd (other q)))
      (λ h1 order1 y put. goes_on p count roots stands e f h1 t)

  -- the Cell of a global name
  record IsGlobal (h : Heap) (v : Value) : Type 0 where
    cell : RefTo h Cell (ref (place_in v))
    other : place_in v ≢ count
    rec : Rec
    here : h (place_in v) ≡ Some rec
    holds : Every (Refers h) rec.values

  global_at : (g : ℕ) (h : Heap) → (c : Context p count roots h) → Is_root g →
      IsGlobal h (value_at c.rooted.known.list.values g)
  global_at g h c l =
      let v = value_at c.rooted.known.list.values g in
      let i = c.rooted.cells g l.0 l.1 in
      let n = named h Cell v i in
      record {
        cell = ref_at h Cell v i;
        other = λ q. c.rooted.apart g l.0 l.1 (n.is ∙ ap ref q);
        rec = n.rec;
        here =
            n.here;
        holds = (c.order.each (place_in v) n.rec n.here).closed.refers;
      }

  unbound_holds : (k : Limits) (name : List ℕ) (o : Option Constant) (h : Heap) → Context p count roots h →
      k.cells ≡ first_cell p → IfSome o (λ c. IsConstant k c) → Pushes e → Ok (unbound_row roots name o) h
  unfolding unbound_row
  unbound_holds k name (Some b) h c m i t = const_holds p count roots stands e f b k h c m i t
  unbound_holds k name None h c m i t = raises p count roots stands e f (name_fault name) h c (lit< tt, lit< tt, tt)

  bound_holds : (k : Limits) (name : List ℕ) (o : Option Constant) (x : Value) (h : Heap) → Context p count roots h →
      k.cells ≡ first_cell p → IfSome o (λ c. IsConstant k c) → Pushes e → Refers h x → Ok (bound_row roots name o x) h
  unfolding bound_row
  bound_holds k name o Unset h c m i t v = unbound_holds k name o h c m i t
  bound_holds k name o NoneValue h c m i t v = goes_one p count roots stands e f NoneValue h t v
  bound_holds k name o (BoolValue b) h c m i t v = goes_one p count roots stands e f (BoolValue b) h t v
  bound_holds k name o (Int n) h c m i t v = goes_one p count roots stands e f (Int n) h t v
  bound_holds k name o (Ref a) h c m i t v = goes_one p count roots stands e f (Ref a) h t v
  bound_holds k name o (Builtin b) h c m i t v = goes_one p count roots stands e f (Builtin b) h t v

  pub load_global_holds : (k : Limits) (g : ℕ) (name : List ℕ) (o : Option Constant) (h : Heap) →
      Context p count roots h → k.cells ≡ first_cell p → Is_root g → IfSome o (λ c. IsConstant k c) → Pushes e →
      Ok (load_global_row roots g name o) h
  unfolding load_global_row load_cell_row
  load_global_holds k g name o h c m l i t =
      let v = value_at c.rooted.known.list.values g in
      let d = global_at g h c l in
      after_root p count roots stands (Fits p e f) g (λ c. load_cell_row roots name o (place_in c)) h c
      (after_look p count roots stands (Fits p e f) (place_in v) 0 d.rec (λ x. bound_row roots name o x) h c d.here
      (bound_holds k name o (value_at d.rec.values 0) h c m i t (value_refers h d.rec.values 0 d.holds)))

  pub store_global_holds : (g : ℕ) (x : Value) (h : Heap) → Context p count roots h → Is_root g → Refers h x →
      Passes e → Ok (store_global_row roots g x) h
  unfolding store_global_row
  store_global_holds g x h c l i t =
      let v = value_at c.rooted.known.list.values g in
      let d = global_at g h c l in
      after_root p count roots stands (Fits p e f) g (λ c. set_cell_row (place_in c) x) h c
      (set_cell_holds (place_in v) x h c d.cell d.other i t)

  cleared_holds : (name : List ℕ) (a : ℕ) (x : Value) (h : Heap) → Context p count roots h → RefTo h Cell (ref a) →
      a ≢ count → Passes e → Ok (cleared_row roots name a x) h
  unfolding cleared_row
  cleared_holds name a Unset h c i other t = raises p count roots stands e f (name_fault name) h c
      (lit< tt, lit< tt, tt)
  cleared_holds name a NoneValue h c i other t = set_cell_holds a Unset h c i other tt t
  cleared_holds name a (BoolValue b) h c i other t = set_cell_holds a Unset h c i other tt t
  cleared_holds name a (Int n) h c i other t = set_cell_holds a Unset h c i other tt t
  cleared_holds name a (Ref b) h c i other t = set_cell_holds a Unset h c i other tt t
  cleared_holds name a (Builtin b) h c i other t = set_cell_holds a Unset h c i other tt t

  pub del_global_holds : (g : ℕ) (name : List ℕ) (h : Heap) → Context p count roots h → Is_root g → Passes e →
      Ok (del_global_row roots g name) h
  unfolding del_global_row clear_cell_row
  del_global_holds g name h c l t =
      let v = value_at c.rooted.known.list.values g in
      let d = global_at g h c l in
      after_root p count roots stands (Fits p e f) g (λ c. clear_cell_row roots name (place_in c)) h c
      (after_look p count roots stands (Fits p e f) (place_in v) 0 d.rec (λ x. cleared_row roots name (place_in v) x) h
      c d.here (cleared_holds name (place_in v) (value_at d.rec.values 0) h c d.cell d.other t))

  -- ---- names of a class body
  abbrev Is_text : ℕ → Type 0
  Is_text n = (first_text ≤ n) × (n < first_cell p)

  outer_holds : (k : Limits) (name : List ℕ) (o : Option Constant) (g : Option ℕ) (h : Heap) → Context p count roots h
      → k.cells ≡ first_cell p → IfSome g Is_root → IfSome o (λ c. IsConstant k c) → Pushes e →
      Ok (outer_row roots name o g) h
  unfolding outer_row
  outer_holds k name o (Some g) h c m l i t = load_global_holds k g name o h c m l i t
  outer_holds k name o None h c m l i t = unbound_holds k name o h c m i t

  named_holds : (k : Limits) (name : List ℕ) (o : Option Constant) (g : Option ℕ) (x : Option Value) (h : Heap) →
      Context p count roots h → k.cells ≡ first_cell p → IfSome g Is_root → IfSome o (λ c. IsConstant k c) → Pushes e →
      IfItem x h → Ok (named_row roots name o g x) h
  unfolding named_row
  named_holds k name o g (Some x) h c m l i t j = goes_one p count roots stands e f x h t j.0
  named_holds k name o g None h c m l i t j = outer_holds k name o g h c m l i t

  pub load_name_holds : (k : Limits) (d n : ℕ) (name : List ℕ) (o : Option Constant) (g : Option ℕ) (h : Heap) →
      Context p count roots h → k.cells ≡ first_cell p → RefTo h Dict (ref d) → Is_text n → IfSome g Is_root →
      IfSome o (λ c. IsConstant k c) → Pushes e
      → Ok (load_name_row roots d n name o g) h
  unfolding load_name_row own_or_outer
  load_name_holds k d n name o g h c m dict w l i t =
      let key = value_at c.rooted.known.list.values n in
      let is_key = text_is_key h key (c.rooted.texts n w.0 w.1) in
      after_root p count roots stands (Fits p e f) n (λ key. own_or_outer roots d name o g key) h c
      (after_looks p count roots stands (λ z. IfItem z h) (Fits p e f) (held_row d key)
      (λ x. named_row roots name o g x) h c (held_looks S p count h roots c d key dict is_key)
      (λ x j. named_holds k name o g x h c m l i t j))

  pub store_name_holds : (d n : ℕ) (x : Value) (h : Heap) → Context p count roots h → RefTo h Dict (ref d) →
      Is_text n → IsItem h x → Passes e → Ok (store_name_row roots d n x) h
  unfolding store_name_row put_name_row
  store_name_holds d n x h c dict w i t =
      let key = value_at c.rooted.known.list.values n in
      let o = dict_holds (rules_of p count) stands in
      after_root p count roots stands (Fits p e f) n (λ key. put_name_row roots d x key) h c
      (finishes p count roots stands e f (λ u h. Unit {0}) (set_row d key x) h c t
      (o.set h d key x c.order dict (ref_item h Str key (c.rooted.texts n w.0 w.1)) i))

  gone_holds : (name : List ℕ) (g : Got Value) (h : Heap) → Context p count roots h → Passes e →
      Ok (gone_row roots name g) h
  unfolding gone_row
  gone_holds name (Is x) h c t = goes_on p count roots stands e f h t
  gone_holds name (Raise fault) h c t = raises p count roots stands e f (name_fault name) h c (lit< tt, lit< tt, tt)

  pub del_name_holds : (d n : ℕ) (name : List ℕ) (h : Heap) → Context p count roots h → RefTo h Dict (ref d) →
      Is_text n → Passes e → Ok (del_name_row roots d n name) h
  unfolding del_name_row drop_name_row
  del_name_holds d n name h c dict w t =
      let key = value_at c.rooted.known.list.values n in
      let o = dict_holds (rules_of p count) stands in
      after_root p count roots stands (Fits p e f) n (λ key. drop_name_row roots d name key) h c
      (then_holds p count roots stands IsAnswer (Fits p e f) (del_row d key) (λ g. gone_row roots name g) h c
      (o.del h d key c.order dict (ref_item h Str key (c.rooted.texts n w.0 w.1)))
      (λ g h1 c1 y j. gone_holds name g h1 c1 t))
