-- Instructions that ask nothing of the heap and raise nothing: their rows are at their ends, so their steps are done
-- at once.
use Rattle.std.proofs.Common.{arith, ◌≡◌, ℕ, ◌-◌, ◌≤◌, ℤ, Bool, true, false, List, [], ◌∷◌, length, drop, Option, Some, None, suc, refl, sym, ap, subst, ◌∙◌}
use Rattle.std.proofs.lemmas.List.{drop_all, length-drop}
use Rattle.py_data.specs.declared.record.Got.{Got}
use Rattle.py_data.specs.declared.record.Got.TheVariants.{Is}
use Rattle.py_data.specs.declared.value.Addr.{Addr}
use Rattle.py_data.specs.declared.value.Value.{Value}
use Rattle.py_data.specs.declared.value.Value.TheVariants.{Unset, None as NoneValue, Bool as Truth, Int, Ref, Builtin}
use Rattle.py_data.specs.Heap.{value_at}
use Rattle.py_data.specs.Row.{Row, Ret, bind}
use Rattle.py_code.specs.declared.instr.Constant.{Constant}
use Rattle.py_code.specs.declared.instr.Constant.TheVariants.{None as NoneConstant, Truth as TruthConstant, Int as IntConstant, Builtin as BuiltinConstant, Root as RootConstant}
use Rattle.py_code.specs.declared.instr.Instr.{Instr}
use Rattle.py_code.specs.declared.instr.Instr.TheVariants.{Const, LoadLocal, StoreLocal, Pop, Jump, JumpFalse, Binary, InPlace, Compare, Try, PopTry, Return}
use Rattle.py_code.specs.declared.program.Program.{Program}
use Rattle.lock_run.specs.declared.client.Outcome.{Outcome}
use Rattle.lock_run.specs.declared.client.Outcome.TheVariants.{Done, Ended, Waits as WaitsNow}
use Rattle.obj_nest.specs.Equal.{equal_row, equal_under}
use Rattle.obj_nest.specs.Ordering.{order_row, order_under}
use Rattle.obj_nest.specs.Truth.{truth_row}
use Rattle.obj_ops.specs.declared.operator.Operator.{Operator}
use Rattle.obj_ops.specs.declared.operator.Operator.TheVariants.{Or, Xor, And, ShiftLeft, ShiftRight, Add, Subtract, Multiply, Divide, FloorDivide, Remainder, Power}
use Rattle.obj_ops.specs.declared.operator.Comparison.{Comparison}
use Rattle.obj_ops.specs.declared.operator.Comparison.TheVariants.{Less, Greater, Equal, GreaterEqual, LessEqual, NotEqual, In, NotIn, Is as Identical, IsNot}
use Rattle.obj_ops.specs.Binary.{binary_row, operated_row, operand_with, case_row, calculated_case}
use Rattle.obj_ops.specs.Compare.{comparison_of, compare_row, compared_row, test_row, ordered_row}
use Rattle.obj_ops.specs.InPlace.{in_place_row, changed_row, kept_row}
use Rattle.obj_ops.specs.Numbers.{calculated, operator_of}
use Rattle.obj_ops.specs.Operands.{operand_row}
use Rattle.py_frames.specs.declared.next.Next.{Next}
use Rattle.py_frames.specs.declared.next.Next.TheVariants.{Goes, Jumps, Stores, Opens, Closes, Leaves}
use Rattle.py_frames.specs.declared.state.Frame.{Frame}
use Rattle.py_frames.specs.ClassCalls.{Site}
use Rattle.py_frames.specs.FunctionRows.{return_by, value_or_instance, leave_row, instance_row}
use Rattle.py_frames.specs.LocalRows.{const_row, load_local_row}
use Rattle.py_frames.specs.OperatorRows.{binary_instr, in_place_instr, compare_instr, jump_false_row, fall_or_jump}
use Rattle.py_frames.specs.Raising.{give}
use Rattle.py_frames.specs.State.{State, code_at, operands, pops, settled, slot_name}
use Rattle.py_frames.specs.Steps.{guarded_row, instr_row, site_of, step_at}
use Rattle.py_states.specs.Innermost.{innermost, settled_in, Follows, Settles}
use Rattle.py_step.specs.inner.Directly.{IsAtOnce, compares, constant_value}

-- ---- two numbers

module _ (S : Type 0) (i j : ℤ) where
  -- whatever the operator does
  pub operated : (roots : ℕ) (op : Operator) → operated_row {S = S} roots op (Int i) (Int j) ≡ Ret (calculated op i j)
  unfolding operated_row operand_row operand_with case_row calculated_case bind
  operated roots Or = refl
  operated roots Xor = refl
  operated roots And = refl
  operated roots ShiftLeft = refl
  operated roots ShiftRight = refl
  operated roots Add = refl
  operated roots Subtract = refl
  operated roots Multiply = refl
  operated roots Divide = refl
  operated roots FloorDivide = refl
  operated roots Remainder = refl
  operated roots Power = refl

  -- in place it is the same
  pub changed : (roots : ℕ) (op : Operator) → changed_row {S = S} roots op (Int i) (Int j) ≡ Ret (calculated op i j)
  unfolding changed_row kept_row operand_row operand_with case_row calculated_case bind
  changed roots Or = refl
  changed roots Xor = refl
  changed roots And = refl
  changed roots ShiftLeft = refl
  changed roots ShiftRight = refl
  changed roots Add = refl
  changed roots Subtract = refl
  changed roots Multiply = refl
  changed roots Divide = refl
  changed roots FloorDivide = refl
  changed roots Remainder = refl
  changed roots Power = refl

  -- what a comparison says
  answers : Bool → Row S (Got Value)
  answers b = Ret (Is (Truth b))

  said : (x b : Bool) → Some x ≡ Some b → answers x ≡ answers b
  said x b e = let q : x ≡ b = cc in ap answers q

  pub compared : (c : Comparison) (b : Bool) → compares c i j ≡ Some b →
      compared_row {S = S} c (Int i) (Int j) ≡ Ret (Is (Truth b))
  unfolding compared_row test_row ordered_row order_row order_under equal_row equal_under bind answers said
  compared Less b e = said _ b e
  compared Greater b e = said _ b e
  compared Equal b e = said _ b e
  compared GreaterEqual b e = said _ b e
  compared LessEqual b e = said _ b e
  compared NotEqual b e = said _ b e
  compared In b e = absurd (let q : None ≡ Some b = e in cc)
  compared NotIn b e = absurd (let q : None ≡ Some b = e in cc)
  compared Identical b e = said _ b e
  compared IsNot b e = said _ b e

-- ---- a step whose row is at its end

-- the row of the instruction at hand is at this end
abbrev LeadsTo : List Frame → ℕ → Instr → Next → Type 0
LeadsTo fs n i next = (z : Site) → guarded_row z (innermost fs) (operands n (innermost fs)) i ≡ Ret next

-- what it leads to was done, and the thread lives on
led : (p : Program) (s s1 : State) (n : ℕ) (i : Instr) (next : Next) (fs : List Frame) → pops p (innermost fs) i ≡ n →
    guarded_row (site_of p s (drop 1 fs)) (innermost fs) (operands n (innermost fs)) i ≡ Ret next →
    Settles (settled_in p s n next fs) Done s1 → step_at p s (innermost fs) (drop 1 fs) (Some i) ≡ Ret (Done, s1)
unfolding step_at bind
led p s s1 n i next [] e g h = absurd (let q : Done ≡ WaitsNow = ap (λ (z : Outcome × State). z.0) h in cc)
led p s s1 n i next (f ∷ fs) e g h =
    ap (λ m. bind (guarded_row (site_of p s fs) f (operands m f) i) (λ next. Ret (settled p s m f fs next))) e
    ∙ (ap (λ row. bind row (λ next. Ret (settled p s n f fs next))) g ∙ ap Ret (sym h))

followed : (s s1 : State) (n : ℕ) (i : Instr) (next : Next) (b : Bool) →
    ((p : Program) → pops p (innermost s.frames) i ≡ n) → LeadsTo s.frames n i next → Follows s n next b s1 →
    IsAtOnce s i b s1
followed s s1 n i next true e g h = λ p. led p s s1 n i next s.frames (e p) (g (site_of p s (drop 1 s.frames))) (h p)
followed s s1 n i next false e g h = h

-- ---- operands

pub none_of : (f : Frame) → operands 0 f ≡ []
none_of f = drop_all (length f.stack - 0) f.stack (omega arith)

at_most : (f : Frame) → length (operands 1 f) ≤ 1
at_most f = omega (arith, length-drop (length f.stack - 1) f.stack)

alone : (xs : List Value) (x : Value) → length xs ≤ 1 → x ≡ value_at xs 0 → (x ≡ Unset → ⊥) → xs ≡ x ∷ []
alone [] x l e n = absurd (n e)
alone (y ∷ []) x l e n = ap (λ z. z ∷ []) (sym e)
alone (y ∷ z ∷ xs) x l e n = absurd (omega (arith, l))

one_of : (f : Frame) (x : Value) → x ≡ value_at (operands 1 f) 0 → (x ≡ Unset → ⊥) → operands 1 f ≡ x ∷ []
one_of f x e n = alone (operands 1 f) x (at_most f) e n

truth_set : (b : Bool) → Truth b ≡ Unset → ⊥
truth_set b e = cc

-- ---- instructions

-- an answer that is given
gives : (roots : ℕ) (row : Row State (Got Value)) (x : Value) → row ≡ Ret (Is x) →
    bind row (give roots) ≡ Ret (Goes (x ∷ []))
unfolding bind give
gives roots row x e = ap (λ r. bind r (give roots)) e

pub valued : (roots : ℕ) (c : Constant) (x : Value) → constant_value c ≡ Some x →
    const_row {S = State} roots c ≡ Ret (Goes (x ∷ []))
unfolding const_row
valued roots NoneConstant x e = let q : NoneValue ≡ x = cc in ap (λ x. Ret (Goes (x ∷ []))) q
valued roots (TruthConstant b) x e = let q : Truth b ≡ x = cc in ap (λ x. Ret (Goes (x ∷ []))) q
valued roots (IntConstant n) x e = let q : Int n ≡ x = cc in ap (λ x. Ret (Goes (x ∷ []))) q
valued roots (BuiltinConstant b) x e = let q : Builtin b ≡ x = cc in ap (λ x. Ret (Goes (x ∷ []))) q
valued roots (RootConstant n) x e = absurd (let q : None ≡ Some x = e in cc)

loaded : (roots : ℕ) (name : List ℕ) (x : Value) → (x ≡ Unset → ⊥) →
    load_local_row {S = State} roots name x ≡ Ret (Goes (x ∷ []))
unfolding load_local_row
loaded roots name Unset n = absurd (n refl)
loaded roots name NoneValue n = refl
loaded roots name (Truth b) n = refl
loaded roots name (Int i) n = refl
loaded roots name (Ref a) n = refl
loaded roots name (Builtin b) n = refl

-- each row, over these operands
module _ (z : Site) (f : Frame) where
  const_row_is : (c : Constant) (x : Value) → constant_value c ≡ Some x →
      guarded_row z f [] (Const c) ≡ Ret (Goes (x ∷ []))
  unfolding guarded_row instr_row
  const_row_is c x e = valued z.roots c x e

  load_row_is : (j : ℕ) (x : Value) → x ≡ value_at f.slots j → (x ≡ Unset → ⊥) →
      guarded_row z f [] (LoadLocal j) ≡ Ret (Goes (x ∷ []))
  unfolding guarded_row instr_row
  load_row_is j x e n =
      ap (λ v. load_local_row {S = State} z.roots (slot_name z.program f j) v) (sym e)
      ∙ loaded z.roots (slot_name z.program f j) x n

  store_row_is : (j : ℕ) (x : Value) → (x ≡ Unset → ⊥) → guarded_row z f (x ∷ []) (StoreLocal j) ≡ Ret (Stores j x)
  unfolding guarded_row instr_row
  store_row_is j Unset n = absurd (n refl)
  store_row_is j NoneValue n = refl
  store_row_is j (Truth b) n = refl
  store_row_is j (Int i) n = refl
  store_row_is j (Ref a) n = refl
  store_row_is j (Builtin b) n = refl

  pop_row_is : (xs : List Value) → guarded_row z f xs Pop ≡ Ret (Goes [])
  unfolding guarded_row instr_row
  pop_row_is xs = refl

  jump_row_is : (t : ℕ) → guarded_row z f [] (Jump t) ≡ Ret (Jumps t [])
  unfolding guarded_row instr_row
  jump_row_is t = refl

  try_row_is : (t : ℕ) → guarded_row z f [] (Try t) ≡ Ret (Opens t)
  unfolding guarded_row instr_row
  try_row_is t = refl

  pop_try_row_is : guarded_row z f [] PopTry ≡ Ret Closes
  unfolding guarded_row instr_row
  pop_try_row_is = refl

  branch_row_is : (t : ℕ) (b : Bool) → guarded_row z f (Truth b ∷ []) (JumpFalse t) ≡ Ret (fall_or_jump t b)
  unfolding guarded_row instr_row jump_false_row truth_row bind
  branch_row_is t b = refl

  binary_row_is : (a b : ℤ) (op : ℕ) (x : ℤ) → calculated (operator_of op) a b ≡ Is (Int x) →
      guarded_row z f (Int a ∷ Int b ∷ []) (Binary op) ≡ Ret (Goes (Int x ∷ []))
  unfolding guarded_row instr_row binary_instr binary_row
  binary_row_is a b op x e = gives z.roots (binary_row z.roots op (Int a) (Int b)) (Int x)
      (operated State a b z.roots (operator_of op) ∙ ap Ret e)

  in_place_row_is : (a b : ℤ) (op : ℕ) (x : ℤ) → calculated (operator_of op) a b ≡ Is (Int x) →
      guarded_row z f (Int a ∷ Int b ∷ []) (InPlace op) ≡ Ret (Goes (Int x ∷ []))
  unfolding guarded_row instr_row in_place_instr in_place_row
  in_place_row_is a b op x e = gives z.roots (in_place_row z.roots op (Int a) (Int b)) (Int x)
      (changed State a b z.roots (operator_of op) ∙ ap Ret e)

  compare_row_is : (a b : ℤ) (op : ℕ) (c : Bool) → compares (comparison_of op) a b ≡ Some c →
      guarded_row z f (Int a ∷ Int b ∷ []) (Compare op) ≡ Ret (Goes (Truth c ∷ []))
  unfolding guarded_row instr_row compare_instr compare_row
  compare_row_is a b op c e = gives z.roots (compare_row op (Int a) (Int b)) (Truth c)
      (compared State a b (comparison_of op) c e)

  -- a frame that makes nothing, and stands on others
  returned_row_is : (x : Value) (depth n : ℕ) (made : Value) (names : Option Addr) → depth ≡ suc n → made ≡ Unset →
      names ≡ None →
      return_by {S = State} z.roots z.thread (code_at z.program f.code).name depth x made names ≡ Ret (Leaves x)
  unfolding return_by value_or_instance leave_row
  returned_row_is x depth n made names d e q =
      ap (return_by {S = State} z.roots z.thread (code_at z.program f.code).name depth x made) q
      ∙ (ap (value_or_instance {S = State} z.roots z.thread depth x) e ∙ ap (λ d. leave_row {S = State} z.thread d x) d)

  return_row_is : (x : Value) (n : ℕ) → (x ≡ Unset → ⊥) → z.depth - 1 ≡ suc n → f.made ≡ Unset → f.names ≡ None →
      guarded_row z f (x ∷ []) Return ≡ Ret (Leaves x)
  unfolding guarded_row instr_row
  return_row_is Unset n u d e q = absurd (u refl)
  return_row_is NoneValue n u d e q = returned_row_is NoneValue (z.depth - 1) n f.made f.names d e q
  return_row_is (Truth b) n u d e q = returned_row_is (Truth b) (z.depth - 1) n f.made f.names d e q
  return_row_is (Int i) n u d e q = returned_row_is (Int i) (z.depth - 1) n f.made f.names d e q
  return_row_is (Ref a) n u d e q = returned_row_is (Ref a) (z.depth - 1) n f.made f.names d e q
  return_row_is (Builtin b) n u d e q = returned_row_is (Builtin b) (z.depth - 1) n f.made f.names d e q

  -- a frame that makes an instance
  made_row_is : (m : Value) (names : Option Addr) → (m ≡ Unset → ⊥) → names ≡ None →
      return_by {S = State} z.roots z.thread (code_at z.program f.code).name (z.depth - 1) NoneValue m names
      ≡ Ret (Leaves m)
  unfolding return_by value_or_instance instance_row
  made_row_is m (Some d) u q = absurd (let r : Some d ≡ None = q in cc)
  made_row_is Unset None u q = absurd (u refl)
  made_row_is NoneValue None u q = refl
  made_row_is (Truth b) None u q = refl
  made_row_is (Int i) None u q = refl
  made_row_is (Ref a) None u q = refl
  made_row_is (Builtin b) None u q = refl

  init_row_is : (f.made ≡ Unset → ⊥) → f.names ≡ None → guarded_row z f (NoneValue ∷ []) Return ≡ Ret (Leaves f.made)
  unfolding guarded_row instr_row
  init_row_is u q = made_row_is f.made f.names u q

-- ---- their steps

-- over these operands
over_operands : (fs : List Frame) (n : ℕ) (i : Instr) (next : Next) (xs : List Value) → operands n (innermost fs) ≡ xs →
    ((z : Site) → guarded_row z (innermost fs) xs i ≡ Ret next) → LeadsTo fs n i next
over_operands fs n i next xs e g = λ z. ap (λ ys. guarded_row z (innermost fs) ys i) e ∙ g z

module _ (s s1 : State) (done : Bool) where
  abbrev top : Frame
  top = innermost s.frames

  pub const_done : (c : Constant) (x : Value) → constant_value c ≡ Some x → Follows s 0 (Goes (x ∷ [])) done s1 →
      IsAtOnce s (Const c) done s1
  const_done c x e h = followed s s1 0 (Const c) (Goes (x ∷ [])) done (λ p. refl)
      (over_operands s.frames 0 (Const c) (Goes (x ∷ [])) [] (none_of top) (λ z. const_row_is z top c x e)) h

  pub load_done : (j : ℕ) (x : Value) → x ≡ value_at top.slots j → (x ≡ Unset → ⊥) →
      Follows s 0 (Goes (x ∷ [])) done s1 → IsAtOnce s (LoadLocal j) done s1
  load_done j x e n h = followed s s1 0 (LoadLocal j) (Goes (x ∷ [])) done (λ p. refl)
      (over_operands s.frames 0 (LoadLocal j) (Goes (x ∷ [])) [] (none_of top) (λ z. load_row_is z top j x e n)) h

  pub store_done : (j : ℕ) (x : Value) → x ≡ value_at (operands 1 top) 0 → (x ≡ Unset → ⊥) →
      Follows s 1 (Stores j x) done s1 → IsAtOnce s (StoreLocal j) done s1
  store_done j x e n h = followed s s1 1 (StoreLocal j) (Stores j x) done (λ p. refl)
      (over_operands s.frames 1 (StoreLocal j) (Stores j x) (x ∷ []) (one_of top x e n) (λ z. store_row_is z top j x n))
      h

  pub pop_done : Follows s 1 (Goes []) done s1 → IsAtOnce s Pop done s1
  pop_done h = followed s s1 1 Pop (Goes []) done (λ p. refl) (λ z. pop_row_is z top (operands 1 top)) h

  pub jump_done : (i : Instr) (t : ℕ) → i ≡ Jump t → Follows s 0 (Jumps t []) done s1 → IsAtOnce s i done s1
  jump_done i t e h = subst (λ i. IsAtOnce s i done s1) (sym e)
      (followed s s1 0 (Jump t) (Jumps t []) done (λ p. refl)
      (over_operands s.frames 0 (Jump t) (Jumps t []) [] (none_of top) (λ z. jump_row_is z top t)) h)

  pub try_done : (i : Instr) (t : ℕ) → i ≡ Try t → Follows s 0 (Opens t) done s1 → IsAtOnce s i done s1
  try_done i t e h = subst (λ i. IsAtOnce s i done s1) (sym e)
      (followed s s1 0 (Try t) (Opens t) done (λ p. refl)
      (over_operands s.frames 0 (Try t) (Opens t) [] (none_of top) (λ z. try_row_is z top t)) h)

  pub pop_try_done : (i : Instr) → i ≡ PopTry → Follows s 0 Closes done s1 → IsAtOnce s i done s1
  pop_try_done i e h = subst (λ i. IsAtOnce s i done s1) (sym e)
      (followed s s1 0 PopTry Closes done (λ p. refl)
      (over_operands s.frames 0 PopTry Closes [] (none_of top) (λ z. pop_try_row_is z top)) h)

  -- the operand is this truth value
  one_truth : (x : Value) (c d : Bool) → x ≡ value_at (operands 1 top) 0 → x ≡ Truth c → c ≡ d →
      operands 1 top ≡ Truth d ∷ []
  one_truth x c d e q r = one_of top (Truth d) (sym (q ∙ ap Truth r) ∙ e) (truth_set d)

  branch_done : (t : ℕ) (c : Bool) → operands 1 top ≡ Truth c ∷ [] → Follows s 1 (fall_or_jump t c) done s1 →
      IsAtOnce s (JumpFalse t) done s1
  branch_done t c e h = followed s s1 1 (JumpFalse t) (fall_or_jump t c) done (λ p. refl)
      (over_operands s.frames 1 (JumpFalse t) (fall_or_jump t c) (Truth c ∷ []) e (λ z. branch_row_is z top t c)) h

  pub fall_done : (t : ℕ) (x : Value) (c : Bool) → x ≡ value_at (operands 1 top) 0 → x ≡ Truth c → c ≡ true →
      Follows s 1 (Goes []) done s1 → IsAtOnce s (JumpFalse t) done s1
  unfolding fall_or_jump
  fall_done t x c e q r h = branch_done t true (one_truth x c true e q r) h

  pub jump_false_done : (t : ℕ) (x : Value) (c : Bool) → x ≡ value_at (operands 1 top) 0 → x ≡ Truth c → c ≡ false →
      Follows s 1 (Jumps t []) done s1 → IsAtOnce s (JumpFalse t) done s1
  unfolding fall_or_jump
  jump_false_done t x c e q r h = branch_done t false (one_truth x c false e q r) h

  -- ---- over two numbers, and what the code sees of them
  module _ (i j a b : ℤ) (op : ℕ) (e : operands 2 top ≡ Int i ∷ Int j ∷ []) (is_i : a ≡ i) (is_j : b ≡ j) where
    seen : operands 2 top ≡ Int a ∷ Int b ∷ []
    seen = e ∙ sym (λ k. Int (is_i k) ∷ Int (is_j k) ∷ [])

    pub binary_done : (x w : ℤ) → w ≡ x → calculated (operator_of op) a b ≡ Is (Int x) →
        Follows s 2 (Goes (Int w ∷ [])) done s1 → IsAtOnce s (Binary op) done s1
    binary_done x w is_x q h = followed s s1 2 (Binary op) (Goes (Int x ∷ [])) done (λ p. refl)
        (over_operands s.frames 2 (Binary op) (Goes (Int x ∷ [])) (Int a ∷ Int b ∷ []) seen
        (λ z. binary_row_is z top a b op x q))
        (subst (λ w. Follows s 2 (Goes (Int w ∷ [])) done s1) is_x h)

    pub in_place_done : (x w : ℤ) → w ≡ x → calculated (operator_of op) a b ≡ Is (Int x) →
        Follows s 2 (Goes (Int w ∷ [])) done s1 → IsAtOnce s (InPlace op) done s1
    in_place_done x w is_x q h = followed s s1 2 (InPlace op) (Goes (Int x ∷ [])) done (λ p. refl)
        (over_operands s.frames 2 (InPlace op) (Goes (Int x ∷ [])) (Int a ∷ Int b ∷ []) seen
        (λ z. in_place_row_is z top a b op x q))
        (subst (λ w. Follows s 2 (Goes (Int w ∷ [])) done s1) is_x h)

    pub compare_done : (c : Bool) → compares (comparison_of op) a b ≡ Some c →
        Follows s 2 (Goes (Truth c ∷ [])) done s1 → IsAtOnce s (Compare op) done s1
    compare_done c q h = followed s s1 2 (Compare op) (Goes (Truth c ∷ [])) done (λ p. refl)
        (over_operands s.frames 2 (Compare op) (Goes (Truth c ∷ [])) (Int a ∷ Int b ∷ []) seen
        (λ z. compare_row_is z top a b op c q)) h

-- ---- RETURN

-- of None, from a frame that makes an instance
pub made_done : (s s1 : State) (b : Bool) (x m : Value) → x ≡ value_at (operands 1 (innermost s.frames)) 0 →
    x ≡ NoneValue → m ≡ (innermost s.frames).made → (m ≡ Unset → ⊥) → (innermost s.frames).names ≡ None →
    Follows s 1 (Leaves m) b s1 → IsAtOnce s Return b s1
made_done s s1 b x m e n d u q h =
    let top = innermost s.frames in
    let unset : NoneValue ≡ Unset → ⊥ = λ r. cc in
    followed s s1 1 Return (Leaves m) b (λ p. refl)
    (over_operands s.frames 1 Return (Leaves m) (NoneValue ∷ []) (one_of top NoneValue (sym n ∙ e) unset)
    (λ z. init_row_is z top (λ r. u (d ∙ r)) q ∙ ap (λ m. Ret (Leaves m)) (sym d))) h

-- the thread lives on, so the innermost frame stands on another one
left_by : (p : Program) (s s1 : State) (x : Value) (fs : List Frame) → operands 1 (innermost fs) ≡ x ∷ [] →
    (x ≡ Unset → ⊥) → (innermost fs).made ≡ Unset → (innermost fs).names ≡ None →
    Settles (settled_in p s 1 (Leaves x) fs) Done s1 →
    step_at p s (innermost fs) (drop 1 fs) (Some Return) ≡ Ret (Done, s1)
unfolding settled
left_by p s s1 x [] e n m q h = absurd (let r : Done ≡ WaitsNow = ap (λ (z : Outcome × State). z.0) h in cc)
left_by p s s1 x (f ∷ []) e n m q h = absurd (let r : Done ≡ Ended = ap (λ (z : Outcome × State). z.0) h in cc)
left_by p s s1 x (f ∷ g ∷ fs) e n m q h = led p s s1 1 Return (Leaves x) (f ∷ g ∷ fs) refl
    (ap (λ ys. guarded_row (site_of p s (g ∷ fs)) f ys Return) e
    ∙ return_row_is (site_of p s (g ∷ fs)) f x (length fs) n (omega arith) m q) h

pub return_done : (s s1 : State) (b : Bool) (x : Value) → x ≡ value_at (operands 1 (innermost s.frames)) 0 →
    (x ≡ Unset → ⊥) → (innermost s.frames).made ≡ Unset → (innermost s.frames).names ≡ None →
    Follows s 1 (Leaves x) b s1 → IsAtOnce s Return b s1
return_done s s1 true x e n m q h = λ p. left_by p s s1 x s.frames (one_of (innermost s.frames) x e n) n m q (h p)
return_done s s1 false x e n m q h = h
