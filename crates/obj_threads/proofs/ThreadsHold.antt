-- Over each heap in order the calls of builtins of `thread` and `threading` hold.
use Rattle.std.proofs.Common.{arith, ◌≡◌, ℕ, zero, suc, ◌+◌, ◌*◌, ◌<◌, ◌≤◌, ◌==◌, Bool, true, false, cond, List, [], ◌∷◌, length, codes, Option, Some, None, refl, sym, ap, subst, ◌∙◌, lit<}
use Rattle.std.specs.Prelude.{◌/◌}
use Rattle.std.specs.Str.{bytes_eq}
use Rattle.py_base.specs.declared.kind.Kind.{Kind}
use Rattle.py_base.specs.declared.kind.Kind.TheVariants.{Tuple, Cell, Function, Class, Lock, Thread}
use Rattle.py_base.specs.Numbers.{builtin_number}
use Rattle.py_data.specs.declared.change.Change.TheVariants.{Set}
use Rattle.py_data.specs.declared.value.Addr.{Addr}
use Rattle.py_data.specs.declared.value.Value.{Value}
use Rattle.py_data.specs.declared.value.Value.TheVariants.{Unset, None as NoneValue, Bool as BoolValue, Int, Ref, Builtin}
use Rattle.py_data.specs.declared.record.Fault.{Fault}
use Rattle.py_data.specs.declared.record.Got.{Got}
use Rattle.py_data.specs.declared.record.Got.TheVariants.{Is, Raise}
use Rattle.py_data.specs.Answers.{IsFault, IsGot, IfItem}
use Rattle.py_data.specs.Changes.{IsValuePlace}
use Rattle.py_data.specs.Closed.{Refers, IsItem}
use Rattle.py_data.specs.Every.{Every}
use Rattle.py_data.specs.Fault.{argument_fault, operand_fault}
use Rattle.py_data.specs.Heap.{Heap, Rec, value_at, new_rec, is_tracked}
use Rattle.py_data.specs.Holds.{Holds}
use Rattle.py_data.specs.Looking.{Looks, kind_row, look_row, bytes_row, each_row, got_row}
use Rattle.py_data.specs.Order.{Rules, FitsAt, IsOrdered, MayPut}
use Rattle.py_data.specs.Row.{Row, Ret, Do, Edit, bind}
use Rattle.py_data.specs.Shape.{HasShape, RefTo}
use Rattle.py_data.specs.Truth.{truth}
use Rattle.py_data.proofs.Holding.{holds_ret, holds_weaken}
use Rattle.py_data.proofs.HoldingCalls.{holds_edit, holds_make, holds_looks}
use Rattle.py_data.proofs.ItemLemmas.{item_at, item_stays, fit_items}
use Rattle.py_data.proofs.Looking.{looks_ret, looks_then, looks_weaken, looks_held, kind_looks, look_looks, bytes_looks, some_of}
use Rattle.py_data.proofs.Making.{made_fits, sequence_fits}
use Rattle.obj_nest.specs.Truth.{truth_row}
use Rattle.obj_nest.proofs.NestLooks as nest
use Rattle.obj_class.specs.Bases.{ref}
use Rattle.obj_class.specs.Roots.{IsRoots}
use Rattle.obj_class.proofs.FaultHolds.{made_here}
use Rattle.obj_threads.specs.declared.answer.Answer.{Answer}
use Rattle.obj_threads.specs.declared.answer.Answer.TheVariants.{Waits}
use Rattle.obj_threads.specs.declared.keywords.Keywords.{Keywords}
use Rattle.obj_threads.specs.Arguments.{answered, callable_fault, is_bare, is_set, is_none, is_method_of}
use Rattle.obj_threads.specs.HoldsLaws.{IsCalled, ThreadsHold}
use Rattle.obj_threads.specs.Keywords.{first_of, known, name_row, known_row, named_row, keyword_row, keywords_row, no_keywords, with_keyword}
use Rattle.obj_threads.specs.Locks.{made_lock, new_lock_row, held_answer, held_row, hold_row, acquire_by, acquire_row, acquire_with, free_row, release_by, release_row, locked_row, bare_lock_row, unasked_lock_row, lock_by, lock_keyed, lock_of, lock_at, lock_row, unlocked_fault}
use Rattle.obj_threads.specs.Starting.{tuple_row, begin_row, start_new_with, start_new_row}
use Rattle.obj_threads.specs.Threads.{made_thread, empty_row, thread_by, thread_with, thread_of_target, thread_given, thread_keyed, new_thread_row, start_called, start_fresh, start_by_number, start_row, joined, is_me, join_other, join_started, join_by_number, join_row, bare_thread_row, thread_bare, thread_of, thread_at, thread_row, makes_lock, member_row, thread_call_row, started_fault, unstarted_fault, current_fault}
use Rattle.obj_threads.proofs.Targets.{begin_looks, ref_is, ref_refers, tuple_looks, values_refer, IfTuple}

-- ---- values
bool_item : (h : Heap) (b : Bool) → IsItem h (BoolValue b)
bool_item h b = (tt, λ e. let q : BoolValue b ≡ Unset = e in cc)

none_item : (h : Heap) → IsItem h NoneValue
none_item h = (tt, λ e. let q : NoneValue ≡ Unset = e in cc)

-- a lock has one value, and a thread four
lock_length : (h : Heap) (vs : List Value) → HasShape h Lock vs → 0 < length vs
lock_length h [] s = absurd s
lock_length h (v ∷ vs) s = omega arith

thread_parts : (h : Heap) (vs : List Value) → HasShape h Thread vs → 2 < length vs
thread_parts h [] s = absurd s
thread_parts h (a ∷ []) s = absurd s
thread_parts h (a ∷ b ∷ []) s = absurd s
thread_parts h (a ∷ b ∷ c ∷ vs) s = omega arith

is_none_value : (x : Value) → is_none x ≡ true → x ≡ NoneValue
is_none_value NoneValue e = refl
is_none_value Unset e = absurd (let z : false ≡ true = e in cc)
is_none_value (BoolValue b) e = absurd (let z : false ≡ true = e in cc)
is_none_value (Int n) e = absurd (let z : false ≡ true = e in cc)
is_none_value (Ref a) e = absurd (let z : false ≡ true = e in cc)
is_none_value (Builtin b) e = absurd (let z : false ≡ true = e in cc)

-- ---- keywords
module _ (S : Type 0) (rules : Rules) (h : Heap) (order : IsOrdered rules h) where
  abbrev AreItems : Keywords → Type 0
  AreItems k = IfItem k.target h × IfItem k.args h

  abbrev AreGiven : Got Keywords → Type 0
  AreGiven g = IsGot (λ k h. IfItem k.target h × IfItem k.args h) g h

  first_item : (o : Option Value) (x : Value) → IfItem o h → IsItem h x → IfItem (first_of o x) h
  first_item (Some y) x i j = i
  first_item None x i j = j

  chosen : (k : Keywords) (x : Value) → AreItems k → IsItem h x → (target args : Bool) →
      AreGiven (known (cond target (Some (record k { target = first_of k.target x }))
      (cond args (Some (record k { args = first_of k.args x })) None)))
  chosen k x i j true args = (first_item k.target x i.0 j, i.1)
  chosen k x i j false true = (i.0, first_item k.args x i.1 j)
  chosen k x i j false false = (lit< tt, lit< tt, tt)

  name_looks : (x : Value) → Refers h x → Looks {S = S} (λ t. Unit {0}) (name_row x) h
  unfolding name_row
  name_looks (Ref a) i =
      let r = some_of (h a.0) i in
      looks_weaken (λ t. t ≡ r.0.bytes) (λ t. Unit {0}) (λ t e. tt) (bytes_row a.0) h (bytes_looks S h a.0 r.0 r.1)
  name_looks _ i = looks_ret S (λ t. Unit {0}) [] h tt

  named_looks : (name x : Value) (k : Keywords) → Refers h name → IsItem h x → AreItems k →
      Looks {S = S} AreGiven (named_row name x k) h
  unfolding named_row known_row
  named_looks name x k n i j =
      looks_then (λ t. Unit {0}) AreGiven (name_row name) (λ t. known_row (with_keyword k t x)) h (name_looks name n)
      (λ t u. looks_ret S AreGiven (known (with_keyword k t x)) h
      (chosen k x j i (bytes_eq (codes "target") t) (bytes_eq (codes "args") t)))

  module _ (keys : List Value) (items : Every (IsItem h) keys) where
    keyword_looks : (i : ℕ) (k : Keywords) → i < length keys / 2 → AreItems k →
        Looks {S = S} AreGiven (keyword_row keys i k) h
    unfolding keyword_row
    keyword_looks i k l j = named_looks (value_at keys (2 * i)) (value_at keys (2 * i + 1)) k
        (item_at h keys (2 * i) (omega (arith, l)) items).0 (item_at h keys (2 * i + 1) (omega (arith, l)) items) j

    each_looks : (i m : ℕ) (k : Keywords) → i + m ≤ length keys / 2 → AreItems k →
        Looks {S = S} AreGiven (each_row (keyword_row keys) i m k) h
    unfolding each_row
    each_looks i zero k l j = looks_ret S AreGiven (Is k) h j
    each_looks i (suc m) k l j = looks_then AreGiven AreGiven (keyword_row keys i k)
        (got_row (each_row (keyword_row keys) (i + 1) m)) h (keyword_looks i k (omega (arith, l)) j)
        (more (each_looks (i + 1) m))
      where
        more : ((k : Keywords) → i + 1 + m ≤ length keys / 2 → AreItems k →
            Looks {S = S} AreGiven (each_row (keyword_row keys) (i + 1) m k) h) → (g : Got Keywords) → AreGiven g →
            Looks {S = S} AreGiven (got_row (each_row (keyword_row keys) (i + 1) m) g) h
        more rest (Is k) j = rest k (omega (arith, l)) j
        more rest (Raise e) j = looks_ret S AreGiven (Raise e) h j

    keywords_looks : Looks {S = S} AreGiven (keywords_row keys) h
    unfolding keywords_row
    keywords_looks = each_looks 0 (length keys / 2) no_keywords (omega arith) (tt, tt)

module _ {S : Type 0} (rules : Rules) (stands : Heap → S → Type 0) (roots : ℕ) where
  abbrev IsGood : Got Answer → Heap → Type 0
  IsGood = IsGot (IsCalled roots)

  -- ---- parts
  raise_holds : (e : Fault) (h : Heap) → IsFault h e → Holds rules stands IsGood (Ret (Raise e)) h
  raise_holds e h i = holds_ret rules stands IsGood (Raise e) h i

  wrong_holds : (h : Heap) → Holds rules stands IsGood (Ret (Raise argument_fault)) h
  wrong_holds h = raise_holds argument_fault h (lit< tt, lit< tt, tt)

  wrong_kind_holds : (h : Heap) → Holds rules stands IsGood (Ret (Raise operand_fault)) h
  wrong_kind_holds h = raise_holds operand_fault h (lit< tt, lit< tt, tt)

  ret_holds : (x : Value) (h : Heap) → IsItem h x → Holds rules stands IsGood (Ret (answered x)) h
  ret_holds x h i = holds_ret rules stands IsGood (answered x) h i

  cond_holds : (b : Bool) (p q : Row S (Got Answer)) (h : Heap) → Holds rules stands IsGood p h →
      Holds rules stands IsGood q h → Holds rules stands IsGood (cond b p q) h
  cond_holds true p q h i j = i
  cond_holds false p q h i j = j

  -- a row that only looks
  looked_holds : (row : Row S (Got Answer)) (h : Heap) → Looks (λ z. IsGood z h) row h → Holds rules stands IsGood row h
  looked_holds row h i = holds_weaken rules stands (λ z h1. (h1 ≡ h) × IsGood z h) IsGood
      (λ z h1 j. subst (IsGood z) (sym j.0) j.1) row h (looks_held rules stands (λ z. IsGood z h) h row i)

  -- ---- locks
  new_lock_holds : (h : Heap) (args keys : List Value) → IsOrdered rules h →
      Holds rules stands IsGood (new_lock_row args keys) h
  unfolding new_lock_row made_lock
  new_lock_holds h args keys order =
      let made = new_rec Lock (BoolValue false ∷ []) [] in
      cond_holds (is_bare args keys) made_lock (Ret (Raise argument_fault)) h
      (holds_make rules stands IsGood made (λ a. Ret (answered (ref a))) h
      (λ a. made_fits rules h a Lock (BoolValue false ∷ []) [] (λ e. let q : Lock ≡ Class = e in cc)
      (λ e. let q : Lock ≡ Function = e in cc) (λ e. let q : Lock ≡ Cell = e in cc) (bool_item h false, tt) tt refl
      (omega arith) (omega arith))
      (λ a h1 order1 x e item. ret_holds (ref a) h1 item))
      (wrong_holds h)

  module _ (h : Heap) (order : IsOrdered rules h) (a : ℕ) (r : Rec) (here : h a ≡ Some r) (kind : r.kind ≡ Lock) where
    set_holds : (b : Bool) (y : Value) → ((h1 : Heap) → IsItem h1 y) →
        Holds rules stands IsGood (Do (Edit a (Set 0 (BoolValue b))) (λ u. Ret (answered y))) h
    set_holds b y i =
        let shape : HasShape h Lock r.values =
        subst (λ k. HasShape h k r.values) kind (order.each a r here).closed.shaped.0 in
        holds_edit rules stands IsGood a (Set 0 (BoolValue b)) (λ u. Ret (answered y)) h r order here
        (ap is_tracked kind, lock_length h r.values shape) (subst (λ k. IsValuePlace k 0) (sym kind) tt)
        (subst (λ k. MayPut rules h a k 0 (BoolValue b)) (sym kind) tt) (λ h1 order1 x e. ret_holds y h1 (i h1))

    held_holds : (o : Option Value) → IfItem o h → Holds rules stands IsGood (held_row o) h
    unfolding held_row
    held_holds None i = holds_ret rules stands IsGood (Is Waits) h tt
    held_holds (Some x) i =
        holds_looks rules stands IsGood (λ z. z ≡ truth h x) (truth_row x) (λ b. Ret (held_answer b)) h order
        (nest.truth_looks S rules h x order i)
        (λ b e. by b)
      where
        by : (b : Bool) → Holds rules stands IsGood (Ret (held_answer b)) h
        by true = holds_ret rules stands IsGood (Is Waits) h tt
        by false = ret_holds (BoolValue false) h (bool_item h false)

    acquire_holds : (o : Option Value) → IfItem o h → Holds rules stands IsGood (acquire_row a o) h
    unfolding acquire_row acquire_by hold_row
    acquire_holds o i =
        holds_looks rules stands IsGood (λ z. z ≡ value_at r.values 0) (look_row a 0)
        (λ held. acquire_by a o (is_set held)) h order (look_looks S h a r here 0)
        (λ held e. cond_holds (is_set held) (held_row o) (hold_row a) h (held_holds o i)
        (set_holds true (BoolValue true) (λ h1. bool_item h1 true)))

    acquire_with_holds : (args : List Value) → Every (IsItem h) args → Holds rules stands IsGood (acquire_with a args) h
    unfolding acquire_with
    acquire_with_holds [] i = acquire_holds None tt
    acquire_with_holds (x ∷ []) i = acquire_holds (Some x) i.0
    acquire_with_holds (x ∷ y ∷ zs) i = wrong_holds h

    release_holds : Holds rules stands IsGood (release_row a) h
    unfolding release_row release_by free_row
    release_holds =
        holds_looks rules stands IsGood (λ z. z ≡ value_at r.values 0) (look_row a 0)
        (λ held. release_by a (is_set held)) h order (look_looks S h a r here 0)
        (λ held e. cond_holds (is_set held) (free_row a) (Ret (Raise unlocked_fault)) h
        (set_holds false NoneValue none_item) (raise_holds unlocked_fault h (lit< tt, lit< tt, tt)))

    locked_holds : Holds rules stands IsGood (locked_row a) h
    unfolding locked_row
    locked_holds = holds_looks rules stands IsGood (λ z. z ≡ value_at r.values 0) (look_row a 0)
        (λ held. Ret (answered (BoolValue (is_set held)))) h order (look_looks S h a r here 0)
        (λ held e. ret_holds (BoolValue (is_set held)) h (bool_item h (is_set held)))

    lock_keyed_holds : (m : ℕ) (args keys : List Value) → Every (IsItem h) args →
        Holds rules stands IsGood (lock_keyed m a args keys) h
    unfolding lock_keyed lock_by unasked_lock_row bare_lock_row
    lock_keyed_holds m args keys i =
        cond_holds (length keys == 0) (lock_by m a args) (Ret (Raise argument_fault)) h
        (cond_holds (m == builtin_number (codes "lock.acquire")) (acquire_with a args) (unasked_lock_row m a args) h
        (acquire_with_holds args i)
        (cond_holds (length args == 0) (bare_lock_row m a) (Ret (Raise argument_fault)) h
        (cond_holds (m == builtin_number (codes "lock.release")) (release_row a) (locked_row a) h release_holds
        locked_holds) (wrong_holds h)))
        (wrong_holds h)

  lock_of_holds : (h : Heap) (m a : ℕ) (args keys : List Value) → IsOrdered rules h → Every (IsItem h) args →
      (r : Rec) → h a ≡ Some r → (k : Kind) → k ≡ r.kind → Holds rules stands IsGood (lock_of m a args keys k) h
  unfolding lock_of
  lock_of_holds h m a args keys order i r e Lock f = lock_keyed_holds h order a r e (sym f) m args keys i
  lock_of_holds h m a args keys order i r e _ f = wrong_kind_holds h

  lock_holds : (h : Heap) (m : ℕ) (own : Value) (args keys : List Value) → IsOrdered rules h → Refers h own →
      Every (IsItem h) args → Holds rules stands IsGood (lock_row m own args keys) h
  unfolding lock_row lock_at
  lock_holds h m (Ref a) args keys order there i =
      let r = some_of (h a.0) there in
      holds_looks rules stands IsGood (λ k. k ≡ r.0.kind) (kind_row a.0) (λ k. lock_of m a.0 args keys k) h order
      (kind_looks S h a.0 r.0 r.1) (lock_of_holds h m a.0 args keys order i r.0 r.1)
  lock_holds h m _ args keys order there i = wrong_kind_holds h

  -- ---- threads
  module _ (h : Heap) (order : IsOrdered rules h) where
    thread_fits : (f args : Value) → IsItem h f → IsItem h args → RefTo h Tuple args → (a : ℕ) →
        FitsAt rules h a (new_rec Thread (f ∷ args ∷ NoneValue ∷ BoolValue false ∷ []) [])
    thread_fits f args i j t a =
        made_fits rules h a Thread (f ∷ args ∷ NoneValue ∷ BoolValue false ∷ []) []
        (λ e. let q : Thread ≡ Class = e in cc) (λ e. let q : Thread ≡ Function = e in cc)
        (λ e. let q : Thread ≡ Cell = e in cc)
        (i, (j, (none_item h, (bool_item h false, tt)))) (t, tt, tt) refl (omega arith) (omega arith)

    made_thread_holds : (f args : Value) → IsItem h f → IsItem h args → RefTo h Tuple args →
        Holds rules stands IsGood (made_thread f args) h
    unfolding made_thread
    made_thread_holds f args i j t =
        holds_make rules stands IsGood (new_rec Thread (f ∷ args ∷ NoneValue ∷ BoolValue false ∷ []) [])
        (λ a. Ret (answered (ref a))) h (thread_fits f args i j t)
        (λ a h1 order1 x e item. ret_holds (ref a) h1 item)

    thread_by_holds : (f : Value) → IsItem h f → (o : Option Addr) → IfTuple S rules h order o →
        Holds rules stands IsGood (thread_by f o) h
    unfolding thread_by
    thread_by_holds f i (Some t) tuple =
        made_thread_holds f (Ref t) i (ref_refers h Tuple (Ref t) tuple, λ e. let q : Ref t ≡ Unset = e in cc) tuple
    thread_by_holds f i None tuple = wrong_holds h

  thread_with_holds : (h : Heap) → IsOrdered rules h → (f : Value) → IsItem h f → (o : Option Value) → IfItem o h →
      Holds rules stands IsGood (thread_with f o) h
  unfolding thread_with empty_row bind
  thread_with_holds h order f i None j =
      let made = new_rec Tuple [] [] in
      holds_make rules stands IsGood made (λ a. made_thread f (ref a)) h
      (λ a. sequence_fits rules h a Tuple [] tt tt (omega arith))
      (λ a h1 order1 x e item. made_thread_holds h1 order1 f (ref a) (item_stays h h1 x f i) item
      (ref_is h1 (record { 0 = a }) made Tuple (made_here h h1 a made e) refl))
  thread_with_holds h order f i (Some x) j = holds_looks rules stands IsGood (IfTuple S rules h order) (tuple_row x)
      (λ o. thread_by f o) h order (tuple_looks S rules h order x j.0) (thread_by_holds h order f i)

  of_target_holds : (h : Heap) → IsOrdered rules h → (args target : Option Value) → IfItem args h → IfItem target h →
      Holds rules stands IsGood (thread_of_target args target) h
  unfolding thread_of_target
  of_target_holds h order args (Some f) i j = thread_with_holds h order f j args i
  of_target_holds h order args None i j = wrong_holds h

  got_given_holds : (h : Heap) → IsOrdered rules h → (g : Got Keywords) →
      IsGot (λ k h. IfItem k.target h × IfItem k.args h) g h → Holds rules stands IsGood (got_row thread_given g) h
  unfolding thread_given
  got_given_holds h order (Is k) i = of_target_holds h order k.args k.target i.1 i.0
  got_given_holds h order (Raise e) i = raise_holds e h i

  new_thread_holds : (h : Heap) (args keys : List Value) → IsOrdered rules h → Every (IsItem h) keys →
      Holds rules stands IsGood (new_thread_row args keys) h
  unfolding new_thread_row thread_keyed
  new_thread_holds h args keys order i =
      cond_holds (length args == 0) (thread_keyed keys) (Ret (Raise argument_fault)) h
      (holds_looks rules stands IsGood (λ g. IsGot (λ k h. IfItem k.target h × IfItem k.args h) g h)
      (keywords_row keys) (got_row thread_given) h order (keywords_looks S rules h order keys i)
      (got_given_holds h order))
      (wrong_holds h)

  -- ---- start and join
  module _ (h : Heap) (order : IsOrdered rules h) (is_roots : IsRoots h roots) where
    start_with_holds : (args : List Value) → Every (IsItem h) args →
        Holds rules stands IsGood (start_new_with roots args) h
    unfolding start_new_with
    start_with_holds [] i = wrong_holds h
    start_with_holds (x ∷ []) i = wrong_holds h
    start_with_holds (f ∷ args ∷ []) i =
        looked_holds (begin_row roots f args None) h
        (begin_looks S rules h order roots is_roots f i.0 None tt args i.1.0.0)
    start_with_holds (x ∷ y ∷ z ∷ zs) i = wrong_holds h

    start_new_holds : (args keys : List Value) → Every (IsItem h) args →
        Holds rules stands IsGood (start_new_row roots args keys) h
    unfolding start_new_row
    start_new_holds args keys i = cond_holds (length keys == 0) (start_new_with roots args)
        (Ret (Raise argument_fault)) h (start_with_holds args i) (wrong_holds h)

    module _ (a : Addr) (r : Rec) (here : h a.0 ≡ Some r) (kind : r.kind ≡ Thread) where
      fresh_holds : value_at r.values 2 ≡ NoneValue → Holds rules stands IsGood (start_fresh roots a) h
      unfolding start_fresh start_called
      fresh_holds number =
          let fit = order.each a.0 r here in
          let shape : HasShape h Thread r.values = subst (λ k. HasShape h k r.values) kind fit.closed.shaped.0 in
          let long = thread_parts h r.values shape in
          let items = fit_items rules h a.0 r fit (λ e. let q : Thread ≡ Cell = sym kind ∙ e in cc) in
          let f = value_at r.values 0 in
          let args = value_at r.values 1 in
          holds_looks rules stands IsGood (λ z. z ≡ f) (look_row a.0 0) (λ f. start_called roots a f) h order
          (look_looks S h a.0 r here 0)
          (λ x e.
          subst (λ x. Holds rules stands IsGood (start_called roots a x) h) (sym e)
          (holds_looks rules stands IsGood (λ z. z ≡ args) (look_row a.0 1) (λ args. begin_row roots f args (Some a)) h
          order (look_looks S h a.0 r here 1)
          (λ y g.
          subst (λ y. Holds rules stands IsGood (begin_row roots f y (Some a)) h) (sym g)
          (looked_holds (begin_row roots f args (Some a)) h
          (begin_looks S rules h order roots is_roots f (item_at h r.values 0 (omega (arith, long)) items) (Some a)
          (record { thread = r; here = here; kind = kind; number = number }) args
          (values_refer S rules h order a.0 r here 1))))))

      by_number_holds : (n : Value) → n ≡ value_at r.values 2 → (b : Bool) → is_none n ≡ b →
          Holds rules stands IsGood (start_by_number roots a b) h
      unfolding start_by_number
      by_number_holds n e true f = fresh_holds (sym e ∙ is_none_value n f)
      by_number_holds n e false f = raise_holds started_fault h (lit< tt, lit< tt, tt)

      start_holds : Holds rules stands IsGood (start_row roots a) h
      unfolding start_row
      start_holds = holds_looks rules stands IsGood (λ z. z ≡ value_at r.values 2) (look_row a.0 2)
          (λ n. start_by_number roots a (is_none n)) h order (look_looks S h a.0 r here 2)
          (λ n e. by_number_holds n e (is_none n) refl)

      joined_holds : (b : Bool) → Holds rules stands IsGood (Ret (joined b)) h
      joined_holds true = ret_holds NoneValue h (none_item h)
      joined_holds false = holds_ret rules stands IsGood (Is Waits) h tt

      join_holds : (me : Option ℕ) → Holds rules stands IsGood (join_row me a.0) h
      unfolding join_row join_by_number join_started join_other
      join_holds me =
          holds_looks rules stands IsGood (λ z. z ≡ value_at r.values 2) (look_row a.0 2)
          (λ n. join_by_number me a.0 (is_none n)) h order (look_looks S h a.0 r here 2)
          (λ n e.
          cond_holds (is_none n) (Ret (Raise unstarted_fault)) (join_started me a.0) h
          (raise_holds unstarted_fault h (lit< tt, lit< tt, tt))
          (cond_holds (is_me me a.0) (Ret (Raise current_fault)) (join_other a.0) h
          (raise_holds current_fault h (lit< tt, lit< tt, tt))
          (holds_looks rules stands IsGood (λ z. z ≡ value_at r.values 3) (look_row a.0 3)
          (λ ended. Ret (joined (is_set ended))) h order (look_looks S h a.0 r here 3)
          (λ ended e. joined_holds (is_set ended)))))

      bare_holds : (me : Option ℕ) (m : ℕ) (args keys : List Value) →
          Holds rules stands IsGood (thread_bare roots me m a args keys) h
      unfolding thread_bare bare_thread_row
      bare_holds me m args keys =
          cond_holds (is_bare args keys) (bare_thread_row roots me m a) (Ret (Raise argument_fault)) h
          (cond_holds (m == builtin_number (codes "thread.start")) (start_row roots a) (join_row me a.0) h
          start_holds (join_holds me)) (wrong_holds h)

    thread_of_holds : (me : Option ℕ) (m : ℕ) (a : Addr) (args keys : List Value) (r : Rec) → h a.0 ≡ Some r →
        (k : Kind) → k ≡ r.kind → Holds rules stands IsGood (thread_of roots me m a args keys k) h
    unfolding thread_of
    thread_of_holds me m a args keys r e Thread f = bare_holds a r e (sym f) me m args keys
    thread_of_holds me m a args keys r e _ f = wrong_kind_holds h

    thread_holds : (me : Option ℕ) (m : ℕ) (own : Value) (args keys : List Value) → Refers h own →
        Holds rules stands IsGood (thread_row roots me m own args keys) h
    unfolding thread_row thread_at
    thread_holds me m (Ref a) args keys there =
        let r = some_of (h a.0) there in
        holds_looks rules stands IsGood (λ k. k ≡ r.0.kind) (kind_row a.0) (λ k. thread_of roots me m a args keys k) h
        order (kind_looks S h a.0 r.0 r.1) (thread_of_holds me m a args keys r.0 r.1)
    thread_holds me m _ args keys there = wrong_kind_holds h

    -- ---- all
    member_holds : (b : ℕ) (args keys : List Value) → Every (IsItem h) args → Every (IsItem h) keys →
        Holds rules stands IsGood (member_row roots b args keys) h
    unfolding member_row
    member_holds b args keys i j =
        cond_holds (b == builtin_number (codes "thread.start_new_thread")) (start_new_row roots args keys) _ h
        (start_new_holds args keys i)
        (cond_holds (makes_lock b) (new_lock_row args keys) _ h (new_lock_holds h args keys order)
        (cond_holds (b == builtin_number (codes "threading.Thread")) (new_thread_row args keys)
        (Ret (Raise callable_fault)) h (new_thread_holds h args keys order j)
        (raise_holds callable_fault h (lit< tt, lit< tt, tt))))

    call_holds : (me : Option ℕ) (b : ℕ) (own : Value) (args keys : List Value) → Refers h own → Every (IsItem h) args
        → Every (IsItem h) keys → Holds rules stands IsGood (thread_call_row roots me b own args keys) h
    unfolding thread_call_row
    call_holds me b own args keys there i j =
        cond_holds (is_method_of Lock b) (lock_row b own args keys) _ h (lock_holds h b own args keys order there i)
        (cond_holds (is_method_of Thread b) (thread_row roots me b own args keys) (member_row roots b args keys) h
        (thread_holds me b own args keys there) (member_holds b args keys i j))

pub threads_hold : {S : Type 0} (rules : Rules) (stands : Heap → S → Type 0) → ThreadsHold rules stands
threads_hold rules stands = record {
  call = λ h roots me b own args keys order is_roots there i j.
      call_holds rules stands roots h order is_roots me b own args keys there i j;
}
