-- Instructions that go by a fast path: their step is a part of its row, and what follows.
use Rattle.std.proofs.Common.{arith, ◌≡◌, ℕ, ◌+◌, ◌-◌, ◌<◌, Bool, true, false, cond, ltb, ◌==◌, ◌||◌, List, [], ◌∷◌, ◌++◌, append_assoc, length, get_or, take, drop, drop_of_length-le, drop-drop, Option, Some, None, option_map, Result, Ok, Err, refl, sym, subst, ap, ◌∙◌}
use Rattle.std.proofs.Math.Dec.{eqb-suc-zero}
use Rattle.std.proofs.lemmas.Bool.{lt-ltb}
use Rattle.std.proofs.lemmas.List.{length-drop, take-append-drop, take_all}
use Rattle.std.specs.Prelude.{IfOk, IfErr, OnErr}
use Rattle.py_base.specs.declared.kind.Kind.TheVariants.{Function}
use Rattle.py_data.specs.declared.value.Addr.{Addr}
use Rattle.py_data.specs.declared.stop.Stop.{Stop}
use Rattle.py_data.specs.declared.stop.Stop.TheVariants.{OutOfMemory}
use Rattle.py_data.specs.declared.record.Fault.{Fault}
use Rattle.py_data.specs.declared.record.Got.{Got}
use Rattle.py_data.specs.declared.record.Got.TheVariants.{Is, Raise}
use Rattle.py_data.specs.declared.value.Value.{Value}
use Rattle.py_data.specs.declared.value.Value.TheVariants.{Unset, None as NoneValue, Bool as Truth, Int, Ref, Builtin}
use Rattle.py_data.specs.Fault.{depth_fault, operand_fault}
use Rattle.py_data.proofs.Steps.{safe_first}
use Rattle.py_data.specs.Heap.{Heap, value_at}
use Rattle.py_data.specs.Row.{Row, Ret, Do, Read, bind}
use Rattle.py_data.specs.Sense.{Sense, Safe}
use Rattle.py_code.specs.declared.instr.Constant.{Constant}
use Rattle.py_code.specs.declared.instr.Constant.TheVariants.{Root}
use Rattle.py_code.specs.declared.instr.Instr.{Instr}
use Rattle.py_code.specs.declared.instr.Instr.TheVariants.{Const, Call, CallMethod, LoadAttr, LoadGlobal, LoadItem, LoadMethod, Next as NextInstr, StoreAttr, StoreGlobal, StoreItem}
use Rattle.py_code.specs.declared.program.Program.{Program}
use Rattle.py_data.specs.Looking.{kind_row, look_row, size_row}
use Rattle.lock_run.specs.declared.client.Outcome.{Outcome}
use Rattle.lock_run.specs.declared.client.Outcome.TheVariants.{Done}
use Rattle.obj_builtins.specs.Calls.{call_row}
use Rattle.obj_class.specs.declared.lookup.Found.{Found}
use Rattle.obj_class.specs.declared.lookup.Found.TheVariants.{Plain, Bound}
use Rattle.obj_class.specs.AttrRows.{find_attr_row}
use Rattle.obj_class.specs.Named.{method_of}
use Rattle.obj_seq.specs.Iter.{next_row}
use Rattle.obj_threads.specs.declared.answer.Answer.TheVariants.{Value as ValueAnswer}
use Rattle.py_frames.specs.declared.next.Next.{Next}
use Rattle.py_frames.specs.declared.next.Next.TheVariants.{Enters, Goes, Jumps}
use Rattle.py_frames.specs.declared.state.Frame.{Frame}
use Rattle.py_frames.specs.AttrInstrs.{attr_or_method, method_or_attr, load_attr_row, load_method_row, loaded_attr, loaded_method, found_method, store_attr_row, stored_attr}
use Rattle.py_frames.specs.Binding.{Given, bound_row, bound_to, defaulted_row, numbered_row, plainly, with_first, with_own}
use Rattle.py_frames.specs.BuildRows.{next_instr, next_or_end}
use Rattle.py_frames.specs.CallRows.{answered, builtin_call, function_call, keyed_call, keys_row, record_call, value_call}
use Rattle.py_frames.specs.ClassCalls.{entered_row, MOST_FRAMES}
use Rattle.py_frames.specs.GlobalRows.{builtin_named, load_cell_row, load_global_row, set_cell_row, store_global_row, unbound_row}
use Rattle.py_frames.specs.GlobalRows.{bound_row as named_row}
use Rattle.py_frames.specs.LocalRows.{const_row}
use Rattle.py_frames.specs.ItemRows.{item_of, load_item_row, set_item, store_item_row}
use Rattle.py_frames.specs.Raising.{place_in, place_of, raise_row, give, done, count_in, values_row}
use Rattle.py_frames.specs.State.{State, advanced, code_at, operands, pops, root_name, settled, with_frames}
use Rattle.py_frames.specs.Steps.{given_in, guarded_row, has_unset, instr_row, is_unset, step_at, wanted}
use Rattle.py_states.specs.Innermost.{innermost, settled_in, Settles}
use Rattle.py_step.specs.inner.FastPath.{arguments, attr_method, called, called_as, called_builtin, called_code, called_with, code_row, ending, ended, found_values, global_value, item_end, kind_method, method_by, named_attr, set_global, set_named_attr, site, value_of, IsCallee}
use Rattle.py_step.specs.inner.Directly.{constant_value}
use Rattle.py_step.specs.inner.Moves.{Moves}
use Rattle.py_step.specs.declared.calls.Callee.{Callee}
use Rattle.py_step.specs.declared.calls.Callee.TheVariants as callee
use Rattle.py_step.proofs.Directs.{none_of, valued}
use Rattle.py_step.proofs.Moving.{bind_bind, give_moved}

-- ---- what an answer leads to

module _ (p : Program) (s : State) (n a : ℕ) where
  pub given_value : (got : Got Value) (x : Value) → got ≡ Is x → ended p s n (give a got) ≡ ending p s n (Goes (x ∷ []))
  unfolding give bind
  given_value got x e = ap (λ g. ended p s n (give a g)) e

  pub given_raise : (got : Got Value) (x : Fault) → got ≡ Raise x → give {S = State} a got ≡ raise_row a x
  unfolding give
  given_raise got x e = ap (give a) e

  pub done_nothing : (got : Got (Unit {0})) (u : Unit {0}) → got ≡ Is u → ended p s n (done a got) ≡ ending p s n (Goes [])
  unfolding done bind
  done_nothing got u e = ap (λ g. ended p s n (done a g)) e

  pub done_raise : (got : Got (Unit {0})) (x : Fault) → got ≡ Raise x → done {S = State} a got ≡ raise_row a x
  unfolding done
  done_raise got x e = ap (done a) e

pub next_raise : (a t : ℕ) (it : Value) (got : Got (Option Value)) (x : Fault) → got ≡ Raise x →
    next_or_end {S = State} a t it got ≡ raise_row a x
unfolding next_or_end
next_raise a t it got x e = ap (next_or_end a t it) e

pub found_is : (p : Program) (s : State) (a : ℕ) (o : Value) (name : ℕ) (f : Found) →
    ended p s 1 (found_method a o name (Some f)) ≡ ending p s 1 (Goes (found_values o f))
unfolding found_method bind
found_is p s a o name (Plain x) = refl
found_is p s a o name (Bound f) = refl

pub answered_value : (p : Program) (s : State) (n : ℕ) (x : Value) →
    ended p s n (answered (site p s) (Is (ValueAnswer x))) ≡ ending p s n (Goes (x ∷ []))
unfolding answered bind
answered_value p s n x = refl

-- nothing was found, at the place of the roots as it was told
pub no_method_is : (p : Program) (s : State) (o : Value) (name a : ℕ) → a ≡ place_of s.roots →
    ended p s 1 (found_method (place_of s.roots) o name None) ≡ bind (found_method a o name None) (ending p s 1)
no_method_is p s o name a e = ap (λ a. ended p s 1 (found_method a o name None)) (sym e)

-- an exception, at the place of the roots as it was told
pub raised_at : (p : Program) (s : State) (n : ℕ) (x : Fault) (a : ℕ) → a ≡ place_of s.roots →
    ended p s n (raise_row (place_of s.roots) x) ≡ bind (raise_row a x) (ending p s n)
raised_at p s n x a e = ap (λ a. ended p s n (raise_row a x)) (sym e)

-- ---- an iterator that goes on

-- its next item is pushed on it
beside : (f : Frame) (it x : Value) (pc : ℕ) → operands 1 f ≡ it ∷ [] →
    advanced 0 (x ∷ []) pc f ≡ advanced 1 (it ∷ x ∷ []) pc f
beside f it x pc e =
    let under : List Value = take (length f.stack - 1) f.stack in
    let whole : take (length f.stack - 0) f.stack ≡ under ++ it ∷ [] =
    take_all (length f.stack - 0) f.stack (omega arith)
    ∙ (sym (take-append-drop (length f.stack - 1) f.stack) ∙ ap (λ ys. under ++ ys) e) in
    λ i. record f { pc = pc; stack = (ap (λ xs. xs ++ x ∷ []) whole ∙ append_assoc under (it ∷ []) (x ∷ [])) i }

beside_in : (p : Program) (s : State) (it x : Value) (fs : List Frame) → operands 1 (innermost fs) ≡ it ∷ [] →
    settled_in p s 0 (Goes (x ∷ [])) fs ≡ settled_in p s 1 (Goes (it ∷ x ∷ [])) fs
unfolding settled
beside_in p s it x [] e = refl
beside_in p s it x (f ∷ fs) e = λ i. (Done, with_frames s (beside f it x (f.pc + 1) e i ∷ fs))

module _ {X : Type 0} (u : Sense State X) (p : Program) (s : State) (a t : ℕ) (it : Value) where
  -- the frame's answer is that of the row
  pub item_moved : (o : Option Value) (v : X) (s1 : State) (r : Result Outcome Stop) →
      operands 1 (innermost s.frames) ≡ it ∷ [] → 0 < length s.frames →
      IfOk r (λ y. (p : Program) → Settles (item_end p s t o) y s1) → IfErr r (λ e. e ≡ OutOfMemory) →
      OnErr r (s1 ≡ s) → Moves u (ended p s 1 (next_or_end a t it (Is o))) v s v s1 r
  unfolding next_or_end bind
  item_moved (Some x) v s1 (Ok y) q l h c k = give_moved u p s 1 (Goes (it ∷ x ∷ [])) v s1 (Ok y) l
      (λ p. h p ∙ beside_in p s it x s.frames q) c k
  item_moved (Some x) v s1 (Err y) q l h c k = give_moved u p s 1 (Goes (it ∷ x ∷ [])) v s1 (Err y) l h c k
  item_moved None v s1 r q l h c k = give_moved u p s 1 (Jumps t []) v s1 r l h c k

-- ---- a global name, of the program at hand
abbrev pub bound_by : {S : Type 0} → Program → ℕ → List ℕ → Value → Row S Next
bound_by q a name x = named_row a name (builtin_named q name) x

pub unbound_at : (p q : Program) (s : State) (g a : ℕ) (name : List ℕ) → q ≡ p → name ≡ root_name q g →
    a ≡ place_of s.roots →
    ended p s 0 (bound_by p (place_of s.roots) (root_name p g) Unset) ≡ bind (bound_by q a name Unset) (ending p s 0)
unbound_at p q s g a name e f d = sym (λ i. ended p s 0 (bound_by (e i) (d i) ((f ∙ ap (λ r. root_name r g) e) i) Unset))

-- what stands for it was found
pub builtin_is : (p : Program) (a : ℕ) (name : List ℕ) (c : Constant) → builtin_named p name ≡ Some c →
    bound_by {S = State} p a name Unset ≡ const_row a c
unfolding named_row unbound_row
builtin_is p a name c e = ap (λ o. named_row a name o Unset) e

-- a root, at the place of the roots as it was told
pub root_is : (p : Program) (s : State) (n a : ℕ) → a ≡ place_of s.roots →
    ended p s 0 (const_row (place_of s.roots) (Root n)) ≡ bind (look_row a n) (λ x. ending p s 0 (Goes (x ∷ [])))
unfolding const_row bind
root_is p s n a e = bind_bind (look_row (place_of s.roots) n) (λ x. Ret (Goes (x ∷ []))) (ending p s 0)
    ∙ ap (λ b. bind (look_row b n) (λ x. ending p s 0 (Goes (x ∷ [])))) (sym e)

pub root_safe : (q : Bool) (n a b : ℕ) (h : Heap) → a ≡ b → Safe q (const_row {S = State} b (Root n)) h →
    Safe q (look_row {S = State} a n) h
unfolding const_row
root_safe q n a b h e z = subst (λ d. Safe q (look_row {S = State} d n) h) (sym e)
    (safe_first q (look_row b n) (λ x. Ret (Goes (x ∷ []))) h z)

-- any other constant
pub constant_is : (p : Program) (s : State) (a : ℕ) (c : Constant) (x : Value) → constant_value c ≡ Some x →
    ended p s 0 (const_row a c) ≡ ending p s 0 (Goes (x ∷ []))
unfolding bind
constant_is p s a c x e = ap (ended p s 0) (valued a c x e)

pub bound_value : (p : Program) (s : State) (a : ℕ) (name : List ℕ) (x : Value) → (x ≡ Unset → ⊥) →
    ended p s 0 (bound_by p a name x) ≡ ending p s 0 (Goes (x ∷ []))
unfolding named_row bind
bound_value p s a name Unset n = absurd (n refl)
bound_value p s a name NoneValue n = refl
bound_value p s a name (Truth b) n = refl
bound_value p s a name (Int i) n = refl
bound_value p s a name (Ref d) n = refl
bound_value p s a name (Builtin b) n = refl

-- ---- the step of an instruction all of whose operands hold something

is_set : (x : Value) → (x ≡ Unset → ⊥) → is_unset x ≡ false
is_set Unset n = absurd (n refl)
is_set NoneValue n = refl
is_set (Truth b) n = refl
is_set (Int i) n = refl
is_set (Ref a) n = refl
is_set (Builtin b) n = refl

set_two : (x y : Value) → (x ≡ Unset → ⊥) → (y ≡ Unset → ⊥) → has_unset (x ∷ y ∷ []) ≡ false
set_two x y n m = λ i. is_set x n i || (is_set y m i || false)

set_three : (x y z : Value) → (x ≡ Unset → ⊥) → (y ≡ Unset → ⊥) → (z ≡ Unset → ⊥) →
    has_unset (x ∷ y ∷ z ∷ []) ≡ false
set_three x y z n m k = λ i. is_set x n i || (is_set y m i || (is_set z k i || false))

module _ (p : Program) (s : State) where
  abbrev top : Frame
  top = innermost s.frames

  abbrev step : Instr → Row State (Outcome × State)
  step i = step_at p s top (drop 1 s.frames) (Some i)

  -- it goes by its row
  by_whole_row : (n : ℕ) (i : Instr) (xs : List Value) → pops p top i ≡ n → operands n top ≡ xs →
      has_unset (wanted i xs) ≡ false → step i ≡ ended p s n (instr_row (site p s) top xs i)
  unfolding step_at guarded_row
  by_whole_row n i xs e q h =
      ap (λ m. bind (guarded_row (site p s) top (operands m top) i)
      (λ next. Ret (settled p s m top (drop 1 s.frames) next))) e
      ∙ (ap (λ ys. ended p s n (guarded_row (site p s) top ys i)) q
      ∙ ap (λ c. ended p s n (cond c (raise_row (place_of s.roots) operand_fault) (instr_row (site p s) top xs i))) h)

  -- its part, and what is made of it
  parted : {A : Type 0} (n : ℕ) (i : Instr) (xs : List Value) (part : Row State A) (b : A → Row State Next) →
      pops p top i ≡ n → operands n top ≡ xs → has_unset (wanted i xs) ≡ false →
      instr_row (site p s) top xs i ≡ bind part b → step i ≡ bind part (λ a. ended p s n (b a))
  parted n i xs part b e q h w =
      by_whole_row n i xs e q h ∙ (ap (ended p s n) w ∙ bind_bind part b (ending p s n))

  pub const_is : (c : Constant) → step (Const c) ≡ ended p s 0 (const_row (place_of s.roots) c)
  unfolding instr_row
  const_is c = by_whole_row 0 (Const c) [] refl (none_of top) refl

  -- the place of the roots as it was told
  module _ (a : ℕ) (e : a ≡ place_of s.roots) where
    pub load_global_is : (g : ℕ) → step (LoadGlobal g) ≡
        bind (global_value a g) (λ x. ended p s 0 (bound_by p (place_of s.roots) (root_name p g) x))
    unfolding instr_row load_global_row load_cell_row look_row bind
    load_global_is g = parted 0 (LoadGlobal g) [] (global_value (place_of s.roots) g)
        (bound_by p (place_of s.roots) (root_name p g)) refl (none_of top) refl refl
        ∙ ap (λ b. bind (global_value b g) (λ x. ended p s 0 (bound_by p (place_of s.roots) (root_name p g) x))) (sym e)

    pub store_global_is : (g : ℕ) (x : Value) → operands 1 top ≡ x ∷ [] → (x ≡ Unset → ⊥) →
        step (StoreGlobal g) ≡ bind (set_global a g x) (λ u. ending p s 1 (Goes []))
    unfolding instr_row store_global_row set_cell_row look_row bind
    store_global_is g x q m = parted 1 (StoreGlobal g) (x ∷ []) (set_global (place_of s.roots) g x)
        (λ u. Ret (Goes [])) refl q (λ i. is_set x m i || false) refl
        ∙ ap (λ b. bind (set_global b g x) (λ u. ending p s 1 (Goes []))) (sym e)

    pub load_attr_is : (n : ℕ) (o : Value) → operands 1 top ≡ o ∷ [] → (o ≡ Unset → ⊥) →
        step (LoadAttr n) ≡ bind (named_attr a n o) (λ g. ended p s 1 (give (place_of s.roots) g))
    unfolding instr_row load_attr_row loaded_attr look_row bind
    load_attr_is n o q m = parted 1 (LoadAttr n) (o ∷ []) (named_attr (place_of s.roots) n o)
        (give (place_of s.roots)) refl q (λ i. is_set o m i || false) refl
        ∙ ap (λ b. bind (named_attr b n o) (λ g. ended p s 1 (give (place_of s.roots) g))) (sym e)

    pub store_attr_is : (n : ℕ) (x o : Value) → operands 2 top ≡ x ∷ o ∷ [] → (x ≡ Unset → ⊥) → (o ≡ Unset → ⊥) →
        step (StoreAttr n) ≡ bind (set_named_attr a n x o) (λ g. ended p s 2 (done (place_of s.roots) g))
    unfolding instr_row store_attr_row stored_attr look_row bind
    store_attr_is n x o q m k = parted 2 (StoreAttr n) (x ∷ o ∷ []) (set_named_attr (place_of s.roots) n x o)
        (done (place_of s.roots)) refl q (set_two x o m k) refl
        ∙ ap (λ b. bind (set_named_attr b n x o) (λ g. ended p s 2 (done (place_of s.roots) g))) (sym e)

    pub attr_method_is : (n : ℕ) (o : Value) →
        attr_method p s n o ≡ bind (look_row a n) (λ name. method_by p s o (place_in name))
    unfolding attr_or_method
    attr_method_is n o = bind_bind (look_row (place_of s.roots) n)
        (λ name. loaded_method (place_of s.roots) o (place_in name)) (ending p s 1)
        ∙ ap (λ b. bind (look_row b n) (λ name. method_by p s o (place_in name))) (sym e)

    pub method_by_is : (o : Value) (name : ℕ) → method_by p s o name
        ≡ bind (find_attr_row a o name) (λ f. ended p s 1 (found_method (place_of s.roots) o name f))
    unfolding loaded_method
    method_by_is o name = bind_bind (find_attr_row (place_of s.roots) o name) (found_method (place_of s.roots) o name)
        (ending p s 1)
        ∙ ap (λ b. bind (find_attr_row b o name) (λ f. ended p s 1 (found_method (place_of s.roots) o name f))) (sym e)

  pub load_item_is : (o i : Value) → operands 2 top ≡ o ∷ i ∷ [] → (o ≡ Unset → ⊥) → (i ≡ Unset → ⊥) →
      step LoadItem ≡ bind (item_of o i) (λ g. ended p s 2 (give (place_of s.roots) g))
  unfolding instr_row load_item_row
  load_item_is o i q n m = parted 2 LoadItem (o ∷ i ∷ []) (item_of o i) (give (place_of s.roots)) refl q
      (set_two o i n m) refl

  pub store_item_is : (x o i : Value) → operands 3 top ≡ x ∷ o ∷ i ∷ [] → (x ≡ Unset → ⊥) → (o ≡ Unset → ⊥) →
      (i ≡ Unset → ⊥) → step StoreItem ≡ bind (set_item o i x) (λ g. ended p s 3 (done (place_of s.roots) g))
  unfolding instr_row store_item_row
  store_item_is x o i q n m k = parted 3 StoreItem (x ∷ o ∷ i ∷ []) (set_item o i x) (done (place_of s.roots)) refl q
      (set_three x o i n m k) refl

  pub load_method_is : (n : ℕ) (a : Addr) → operands 1 top ≡ Ref a ∷ [] →
      step (LoadMethod n) ≡ bind (kind_row a.0) (λ k. kind_method p s n (Ref a) (method_of k (root_name p n)))
  unfolding instr_row load_method_row
  load_method_is n a q = parted 1 (LoadMethod n) (Ref a ∷ []) (kind_row a.0)
      (λ k. method_or_attr (place_of s.roots) n (Ref a) (method_of k (root_name p n))) refl q refl refl

  pub kind_method_is : (n : ℕ) (o : Value) (b : ℕ) →
      kind_method p s n o (Some b) ≡ ending p s 1 (Goes (Builtin b ∷ o ∷ []))
  unfolding method_or_attr bind
  kind_method_is n o b = refl

  pub no_kind_method_is : (n : ℕ) (o : Value) → kind_method p s n o None ≡ attr_method p s n o
  unfolding method_or_attr
  no_kind_method_is n o = refl

  pub next_is : (t : ℕ) (a : Addr) → operands 1 top ≡ Ref a ∷ [] →
      step (NextInstr t) ≡ bind (next_row a.0) (λ g. ended p s 1 (next_or_end (place_of s.roots) t (Ref a) g))
  unfolding instr_row next_instr
  next_is t a q = parted 1 (NextInstr t) (Ref a ∷ []) (next_row a.0) (next_or_end (place_of s.roots) t (Ref a)) refl q
      refl refl

-- ---- calls: what is called stands below n values, which are the arguments

is_unset_not : (x : Value) → is_unset x ≡ false → x ≡ Unset → ⊥
is_unset_not x e q = (cc)

with_own_is : (own : Value) (g : Given) → (own ≡ Unset → ⊥) → with_own own g ≡ with_first own g
with_own_is Unset g n = absurd (n refl)
with_own_is NoneValue g n = refl
with_own_is (Truth b) g n = refl
with_own_is (Int i) g n = refl
with_own_is (Ref a) g n = refl
with_own_is (Builtin b) g n = refl

left_unset : (a b : Bool) → (a || b) ≡ false → a ≡ false
left_unset true b e = e
left_unset false b e = refl

right_unset : (a b : Bool) → (a || b) ≡ false → b ≡ false
right_unset true b e = absurd (cc)
right_unset false b e = e

-- a list of which a test told that it is empty
pub empty_is : (xs : List ℕ) → true ≡ (length xs == 0) → xs ≡ []
empty_is [] e = refl
empty_is (x ∷ xs) e = absurd (let q : true ≡ false = e ∙ eqb-suc-zero (length xs) in cc)

-- one operand less
fewer : (m : ℕ) (f : Frame) (x : Value) (xs : List Value) → operands (m + 1) f ≡ x ∷ xs →
    length (operands (m + 1) f) ≡ m + 1 → operands m f ≡ xs
fewer m f x xs e l =
    let tall : length (drop (length f.stack - (m + 1)) f.stack) ≡ length f.stack - (length f.stack - (m + 1)) =
    length-drop (length f.stack - (m + 1)) f.stack in
    let next : length f.stack - m ≡ (length f.stack - (m + 1)) + 1 = omega (arith, tall, l) in
    ap (λ k. drop k f.stack) next
    ∙ (sym (drop-drop 1 (length f.stack - (m + 1)) f.stack) ∙ ap (drop 1) e)

module _ (p : Program) (s : State) (l : ℕ) where
  abbrev keys : List ℕ
  keys = get_or (code_at p (innermost s.frames).code).keys l []

  given_is : (m : ℕ) (args : List Value) → keys ≡ [] → length args ≡ m →
      given_in (site p s) (innermost s.frames) m l args ≡ plainly args
  given_is m args none few = λ i. record {
    args = take_all m args (omega (arith, few)) i;
    names = none i;
    values = drop_of_length-le args {i = m} (omega (arith, few)) i;
  }

  -- what stands below n values
  pub callee_is : (n k : ℕ) (f : Callee) (x : Value) (xs : List Value) → keys ≡ [] → k ≡ n + 1 →
      operands k (innermost s.frames) ≡ x ∷ xs → x ≡ value_of f → length xs ≡ n → has_unset xs ≡ false →
      IsCallee p s n l f
  callee_is n k f x xs none one e q few set =
      let whole : operands (n + 1) (innermost s.frames) ≡ x ∷ xs =
      ap (λ j. operands j (innermost s.frames)) (sym one) ∙ e in
      let rest : operands n (innermost s.frames) ≡ xs = fewer n (innermost s.frames) x xs whole
      (ap length whole ∙ omega (arith, few)) in
      record {
        keyless = none;
        below = whole ∙ (λ i. q i ∷ sym rest i);
        set = ap has_unset rest ∙ set;
        count = ap length rest ∙ few;
      }

  -- CALL
  module _ (m : ℕ) where
    abbrev args : List Value
    args = operands m (innermost s.frames)

    pops_is : keys ≡ [] → pops p (innermost s.frames) (Call m l) ≡ m + 1
    pops_is none = ap (λ ks. 1 + (m + length ks)) none ∙ omega arith

    pub call_record_is : (a : Addr) → IsCallee p s m l (callee.Record a) →
        step_at p s (innermost s.frames) (drop 1 s.frames) (Some (Call m l)) ≡ called p s m a.0
    unfolding instr_row value_call
    call_record_is a c = parted p s (m + 1) (Call m l) (Ref a ∷ args) (kind_row a.0)
        (λ k. record_call (site p s) (plainly args) a.0 k) (pops_is c.keyless) c.below c.set
        (ap (λ g. bind (kind_row a.0) (λ k. record_call (site p s) g a.0 k)) (given_is m args c.keyless c.count))

    pub call_builtin_is : (b : ℕ) → IsCallee p s m l (callee.Builtin b) →
        step_at p s (innermost s.frames) (drop 1 s.frames) (Some (Call m l)) ≡ called_builtin p s (m + 1) m Unset b
    unfolding instr_row value_call builtin_call keys_row keyed_call bind
    call_builtin_is b c = parted p s (m + 1) (Call m l) (Builtin b ∷ args)
        (call_row (place_of s.roots) (option_map (λ a. a.0) s.thread) b Unset args []) (answered (site p s))
        (pops_is c.keyless) c.below c.set
        (ap (λ g. builtin_call (site p s) Unset g b) (given_is m args c.keyless c.count))

  -- CALL_METHOD, whose object is the first of m + 1 arguments
  module _ (m : ℕ) where
    pops_more : keys ≡ [] → pops p (innermost s.frames) (CallMethod m l) ≡ m + 1 + 1
    pops_more none = ap (λ ks. 2 + (m + length ks)) none ∙ omega arith

    record_by : (a : Addr) (xs : List Value) → IsCallee p s (m + 1) l (callee.Record a) →
        operands (m + 1) (innermost s.frames) ≡ xs →
        step_at p s (innermost s.frames) (drop 1 s.frames) (Some (CallMethod m l)) ≡ called p s (m + 1) a.0
    unfolding instr_row value_call
    record_by a [] c e = absurd (omega (arith, c.count, ap length e))
    record_by a (own ∷ xs) c e =
        let set : is_unset own || has_unset xs ≡ false = ap has_unset (sym e) ∙ c.set in
        let few : length xs ≡ m = omega (arith, c.count, ap length e) in
        parted p s (m + 1 + 1) (CallMethod m l) (Ref a ∷ own ∷ xs) (kind_row a.0)
        (λ k. record_call (site p s) (arguments s (m + 1)) a.0 k) (pops_more c.keyless)
        (c.below ∙ ap (λ ys. Ref a ∷ ys) e) (right_unset (is_unset own) (has_unset xs) set)
        (ap (λ g. bind (kind_row a.0) (λ k. record_call (site p s) g a.0 k))
        (ap (with_own own) (given_is m xs c.keyless few)
        ∙ (with_own_is own (plainly xs) (is_unset_not own (left_unset (is_unset own) (has_unset xs) set))
        ∙ ap plainly (sym e))))

    builtin_by : (b : ℕ) (xs : List Value) → IsCallee p s (m + 1) l (callee.Builtin b) →
        operands (m + 1) (innermost s.frames) ≡ xs →
        step_at p s (innermost s.frames) (drop 1 s.frames) (Some (CallMethod m l))
        ≡ called_builtin p s (m + 2) m (value_at xs 0) b
    unfolding instr_row value_call builtin_call keys_row keyed_call bind
    builtin_by b [] c e = absurd (omega (arith, c.count, ap length e))
    builtin_by b (own ∷ xs) c e =
        let set : is_unset own || has_unset xs ≡ false = ap has_unset (sym e) ∙ c.set in
        let few : length xs ≡ m = omega (arith, c.count, ap length e) in
        let rest : operands m (innermost s.frames) ≡ xs = fewer m (innermost s.frames) own xs e c.count in
        parted p s (m + 2) (CallMethod m l) (Builtin b ∷ own ∷ xs)
        (call_row (place_of s.roots) (option_map (λ a. a.0) s.thread) b own xs []) (answered (site p s))
        (pops_more c.keyless ∙ omega arith) (ap (λ k. operands k (innermost s.frames)) (omega arith) ∙
        (c.below ∙ ap (λ ys. Builtin b ∷ ys) e)) (right_unset (is_unset own) (has_unset xs) set)
        (ap (λ g. builtin_call (site p s) own g b) (given_is m xs c.keyless few))
        ∙ ap (λ ys. bind (call_row (place_of s.roots) (option_map (λ a. a.0) s.thread) b own ys [])
        (λ g. ended p s (m + 2) (answered (site p s) g))) (sym rest)

    pub method_record_is : (a : Addr) → IsCallee p s (m + 1) l (callee.Record a) →
        step_at p s (innermost s.frames) (drop 1 s.frames) (Some (CallMethod m l)) ≡ called p s (m + 1) a.0
    method_record_is a c = record_by a (operands (m + 1) (innermost s.frames)) c refl

    pub method_builtin_is : (b : ℕ) (own : Value) → own ≡ value_at (operands (m + 1) (innermost s.frames)) 0 →
        IsCallee p s (m + 1) l (callee.Builtin b) →
        step_at p s (innermost s.frames) (drop 1 s.frames) (Some (CallMethod m l)) ≡ called_builtin p s (m + 2) m own b
    method_builtin_is b own e c = builtin_by b (operands (m + 1) (innermost s.frames)) c refl
        ∙ ap (λ x. called_builtin p s (m + 2) m x b) (sym e)

-- ---- the call of a function

module _ (p : Program) (s : State) (n : ℕ) where
  pub function_is : (a : ℕ) → called_as p s n a Function ≡ bind (code_row a) (λ c. called_code p s n a c)
  unfolding record_call function_call bound_row bind
  function_is a =
      ap (ended p s (n + 1)) (bind_bind (look_row a 1) (λ x. numbered_row p (arguments s n) a (count_in x))
      (entered_row (site p s)))
      ∙ (bind_bind (look_row a 1) (λ x. bind (numbered_row p (arguments s n) a (count_in x)) (entered_row (site p s)))
      (ending p s (n + 1))
      ∙ sym (bind_bind (look_row a 1) (λ x. Ret (count_in x)) (λ c. called_code p s n a c)))

  pub code_is : (a c : ℕ) → called_code p s n a c ≡ bind (look_row a 2) (λ d. called_with p s n c (place_in d))
  unfolding numbered_row
  code_is a c =
      ap (ended p s (n + 1)) (bind_bind (look_row a 2) (λ d. defaulted_row p (arguments s n) c (place_in d))
      (entered_row (site p s)))
      ∙ bind_bind (look_row a 2) (λ d. bind (defaulted_row p (arguments s n) c (place_in d)) (entered_row (site p s)))
      (ending p s (n + 1))

  -- with arguments that are all that the code takes, and a frame for which there is room
  pub plainly_is : (c d : ℕ) (f : Frame) → ((ds : List Value) → bound_to p (arguments s n) c ds ≡ Is f) →
      0 < length s.frames → length s.frames < MOST_FRAMES →
      called_with p s n c d ≡ bind (size_row d) (λ k. ending p s (n + 1) (Enters f))
  unfolding defaulted_row values_row size_row entered_row bind
  plainly_is c d f b some few =
      let room : ltb (length (drop 1 s.frames) + 1) MOST_FRAMES ≡ true =
      lt-ltb (length (drop 1 s.frames) + 1) MOST_FRAMES (omega (arith, length-drop 1 s.frames, some, few)) in
      λ i. Do (Read d) (λ r. (ap (λ x. ended p s (n + 1) (entered_row (site p s) x)) (b r.values)
      ∙ ap (λ t. ended p s (n + 1) (cond t (Ret (Enters f)) (raise_row (place_of s.roots) depth_fault))) room) i)
