-- Constants, the stack, slots, operators and jumps.
use Rattle.std.proofs.Common.{arith, ◌≡◌, ℕ, ◌-◌, ◌<◌, ◌≤◌, Bool, true, false, not, List, [], ◌∷◌, length, sym, ap, subst, ◌∙◌, inl, inr, ltb, lit<}
use Rattle.std.proofs.lemmas.Bool.{ltb-true, cases_Bool}
use Rattle.std.proofs.lemmas.Bool.Decides.{nat_tests}
use Rattle.py_base.specs.declared.kind.Kind.TheVariants.{Str}
use Rattle.py_data.specs.declared.value.Value.{Value}
use Rattle.py_data.specs.declared.value.Value.TheVariants.{Unset, None as NoneValue, Bool as BoolValue, Int, Ref, Builtin}
use Rattle.py_data.specs.Closed.{Refers, IsItem}
use Rattle.py_data.specs.Heap.{Heap, value_at}
use Rattle.py_data.specs.Row.{Row, Ret, bind}
use Rattle.py_code.specs.declared.instr.Constant.{Constant}
use Rattle.py_code.specs.declared.instr.Constant.TheVariants.{None as NoneConstant, Truth, Int as IntConstant, Builtin as BuiltinConstant, Root as RootConstant}
use Rattle.py_code.specs.declared.program.Program.{Program}
use Rattle.py_code.specs.Effects.{Effect as InstrEffect, Limits, IsConstant}
use Rattle.py_code.specs.Right.{first_text}
use Rattle.obj_class.specs.Bases.{ref}
use Rattle.obj_class.specs.Roots.{class_place}
use Rattle.obj_nest.specs.Truth.{truth_row}
use Rattle.obj_nest.proofs.NestLooks.{nest_looks}
use Rattle.obj_ops.specs.Binary.{unary_row, binary_row}
use Rattle.obj_ops.specs.InPlace.{in_place_row}
use Rattle.obj_ops.specs.Compare.{compare_row}
use Rattle.obj_ops.proofs.Holding.{ops_hold}
use Rattle.py_data.specs.Truth.{truth}
use Rattle.py_frames.specs.declared.state.Frame.{Frame}
use Rattle.py_frames.specs.declared.next.Next.{Next}
use Rattle.py_frames.specs.declared.next.Next.TheVariants.{Goes, Jumps, Stores}
use Rattle.py_frames.specs.Fits.{IsTo, Fits}
use Rattle.py_frames.specs.GlobalRows.{first_cell}
use Rattle.py_frames.specs.LocalRows.{const_row, unbound_fault, load_local_row, del_local_row}
use Rattle.py_frames.specs.OperatorRows.{unary_instr, not_row, binary_instr, in_place_instr, compare_instr, fall_or_jump, jump_false_row, pop_or_keep, keep_false_row, keep_true_row}
use Rattle.py_frames.specs.Sound.{AreRoots, rules_of}
use Rattle.py_frames.proofs.Given.{Context, ref_item}
use Rattle.py_frames.proofs.Raised.{Leads, Pushes, Passes, raises, leads_to, goes_one, goes_on, gives, after_root, after_looks}

-- a root that is a class or a string
pub root_item : (p : Program) (count roots n : ℕ) (h : Heap) → (r : AreRoots p h count roots) → 0 < n →
    n < first_cell p → IsItem h (value_at r.known.list.values n)
root_item p count roots n h r a b = elim (cases_Bool (ltb n first_text)) [
  | inl y ↦ class_item n a (ltb-true n first_text y)
  | inr z ↦ ref_item h Str (value_at r.known.list.values n) (r.texts n (ltb_false n first_text z) b)
]
  where
    ltb_false : (n m : ℕ) → ltb n m ≡ false → m ≤ n
    ltb_false n m e = grind (arith, nat_tests)

    class_item : (n : ℕ) → 0 < n → n < first_text → IsItem h (value_at r.known.list.values n)
    class_item n a l =
        let m : ℕ = n - 1 in
        let c = r.known.classes m (omega (arith, a, l)) in
        let e : class_place m ≡ n = omega (arith, a) in
        let v : value_at r.known.list.values n ≡ ref c.address = ap (λ k. value_at r.known.list.values k) (sym e) ∙
        c.is in
        subst (IsItem h) (sym v) (
          ap Rattle.std.specs.Prelude.is_some c.here,
          λ q. let z : ref c.address ≡ Unset = q in
              cc,
        )

module _ {S : Type 0} (p : Program) (count roots : ℕ) (stands : Heap → S → Type 0) (e : InstrEffect) (f : Frame) where
  abbrev Ok : Row S Next → Heap → Type 0
  Ok row h = Leads p count roots stands e f row h

  abbrev push : (x : Value) (h : Heap) → Pushes e → Refers h x → Ok (Ret (Goes (x ∷ []))) h
  push x h t i = goes_one p count roots stands e f x h t i

  -- ---- CONST
  pub const_holds : (c : Constant) (k : Limits) (h : Heap) → Context p count roots h → k.cells ≡ first_cell p →
      IsConstant k c → Pushes e → Ok (const_row roots c) h
  unfolding const_row
  const_holds NoneConstant k h c m i t = push NoneValue h t tt
  const_holds (Truth b) k h c m i t = push (BoolValue b) h t tt
  const_holds (IntConstant j) k h c m i t = push (Int j) h t tt
  const_holds (BuiltinConstant b) k h c m i t = push (Builtin b) h t i
  const_holds (RootConstant j) k h c m i t =
      let item = root_item p count roots j h c.rooted i.0 (subst (λ z. j < z) m i.1) in
      after_root p count roots stands (Fits p e f) j (λ x. Ret (Goes (x ∷ []))) h c
      (push (value_at c.rooted.known.list.values j) h t item.0)

  -- ---- slots
  pub load_local_holds : (name : List ℕ) (x : Value) (h : Heap) → Context p count roots h → Pushes e → Refers h x →
      Ok (load_local_row roots name x) h
  unfolding load_local_row
  load_local_holds name Unset h c t i = raises p count roots stands e f (unbound_fault name) h c (lit< tt, lit< tt, tt)
  load_local_holds name NoneValue h c t i = push NoneValue h t i
  load_local_holds name (BoolValue b) h c t i = push (BoolValue b) h t i
  load_local_holds name (Int j) h c t i = push (Int j) h t i
  load_local_holds name (Ref a) h c t i = push (Ref a) h t i
  load_local_holds name (Builtin b) h c t i = push (Builtin b) h t i

  -- a slot of the frame gets a value
  pub stores_holds : (i : ℕ) (x : Value) (h : Heap) → Passes e → i < length f.slots → Refers h x →
      Ok (Ret (Stores i x)) h
  stores_holds i x h t l v = leads_to p count roots stands e f (Stores i x) h (t.0, t.1, l, v)

  pub del_local_holds : (name : List ℕ) (i : ℕ) (x : Value) (h : Heap) → Context p count roots h → Passes e →
      i < length f.slots → Ok (del_local_row roots name i x) h
  unfolding del_local_row
  del_local_holds name i Unset h c t l = raises p count roots stands e f (unbound_fault name) h c (lit< tt, lit< tt, tt)
  del_local_holds name i NoneValue h c t l = stores_holds i Unset h t l tt
  del_local_holds name i (BoolValue b) h c t l = stores_holds i Unset h t l tt
  del_local_holds name i (Int j) h c t l = stores_holds i Unset h t l tt
  del_local_holds name i (Ref a) h c t l = stores_holds i Unset h t l tt
  del_local_holds name i (Builtin b) h c t l = stores_holds i Unset h t l tt

  -- ---- operators
  pub unary_holds : (op : ℕ) (x : Value) (h : Heap) → Context p count roots h → Pushes e → IsItem h x →
      Ok (unary_instr roots op x) h
  unfolding unary_instr
  unary_holds op x h c t i = let o = ops_hold (rules_of p count) stands in
      gives p count roots stands e f (unary_row op x) h c t (o.unary h op x c.order i)

  pub binary_holds : (op : ℕ) (x y : Value) (h : Heap) → Context p count roots h → Pushes e → IsItem h x → IsItem h y →
      Ok (binary_instr roots op x y) h
  unfolding binary_instr
  binary_holds op x y h c t i j = let o = ops_hold (rules_of p count) stands in
      gives p count roots stands e f (binary_row roots op x y) h c t
      (o.binary h roots op x y c.order c.rooted.known i j)

  pub in_place_holds : (op : ℕ) (x y : Value) (h : Heap) → Context p count roots h → Pushes e → IsItem h x →
      IsItem h y → Ok (in_place_instr roots op x y) h
  unfolding in_place_instr
  in_place_holds op x y h c t i j = let o = ops_hold (rules_of p count) stands in
      gives p count roots stands e f (in_place_row roots op x y) h c t
      (o.in_place h roots op x y c.order c.rooted.known i j)

  pub compare_holds : (op : ℕ) (x y : Value) (h : Heap) → Context p count roots h → Pushes e → IsItem h x →
      IsItem h y → Ok (compare_instr roots op x y) h
  unfolding compare_instr
  compare_holds op x y h c t i j = let o = ops_hold (rules_of p count) stands in
      gives p count roots stands e f (compare_row op x y) h c t (o.compare h op x y c.order i j)

  -- ---- the truth of a value
  after_truth : (x : Value) (g : Bool → Row S Next) (h : Heap) → Context p count roots h → IsItem h x →
      ((b : Bool) → Ok (g b) h) → Ok (bind (truth_row x) g) h
  after_truth x g h c i n =
      let l = nest_looks S (rules_of p count) in
      after_looks p count roots stands (λ z. z ≡ truth h x) (Fits p e f) (truth_row x) g h c (l.truth h x c.order i)
      (λ b q. n b)

  pub not_holds : (x : Value) (h : Heap) → Context p count roots h → Pushes e → IsItem h x → Ok (not_row x) h
  unfolding not_row
  not_holds x h c t i = after_truth x (λ b. Ret (Goes (BoolValue (not b) ∷ []))) h c i
      (λ b. push (BoolValue (not b)) h t tt)

  -- a jump that may be taken, with so many values pushed there
  abbrev Forks : ℕ → ℕ → Type 0
  Forks t n = Passes e × IsTo e.flow t n

  pub jump_false_holds : (t : ℕ) (x : Value) (h : Heap) → Context p count roots h → Forks t 0 → IsItem h x →
      Ok (jump_false_row t x) h
  unfolding jump_false_row fall_or_jump
  jump_false_holds t x h c k i = after_truth x (λ b. Ret (fall_or_jump t b)) h c i by
    where
      by : (b : Bool) → Ok (Ret (fall_or_jump t b)) h
      by true = goes_on p count roots stands e f h k.0
      by false = leads_to p count roots stands e f (Jumps t []) h (k.1, tt)

  kept : (t : ℕ) (x : Value) (h : Heap) → Forks t 1 → Refers h x → (b : Bool) → Ok (Ret (pop_or_keep t x b)) h
  unfolding pop_or_keep
  kept t x h k i true = goes_on p count roots stands e f h k.0
  kept t x h k i false = leads_to p count roots stands e f (Jumps t (x ∷ [])) h (k.1, (i, tt))

  pub keep_false_holds : (t : ℕ) (x : Value) (h : Heap) → Context p count roots h → Forks t 1 → IsItem h x →
      Ok (keep_false_row t x) h
  unfolding keep_false_row
  keep_false_holds t x h c k i = after_truth x (λ b. Ret (pop_or_keep t x b)) h c i (kept t x h k i.0)

  pub keep_true_holds : (t : ℕ) (x : Value) (h : Heap) → Context p count roots h → Forks t 1 → IsItem h x →
      Ok (keep_true_row t x) h
  unfolding keep_true_row
  keep_true_holds t x h c k i = after_truth x (λ b. Ret (pop_or_keep t x (not b))) h c i (λ b. kept t x h k i.0 (not b))
