-- When the call of a builtin waits: `acquire` of a held lock, `join` of a thread that has not ended, and no other.
use Rattle.std.proofs.Common.{arith, ◌≡◌, ℕ, ◌==◌, ◌<◌, ◌≤◌, ◌||◌, Bool, true, false, cond, List, [], ◌∷◌, length, Option, Some, None, inl, inr, refl, sym, ap, subst, ◌∙◌}
use Rattle.std.specs.Prelude.{◌⊎◌, ◌&&◌, not, codes}
use Rattle.std.proofs.lemmas.Bool.Decides.{nat_tests}
use Rattle.py_base.specs.Numbers.{builtin_number}
use Rattle.py_base.specs.declared.kind.Kind.{Kind}
use Rattle.py_base.specs.declared.kind.Kind.TheVariants.{Str, Tuple, List as ListKind, Dict, Cell, Function, Class, Instance, Method, Iter, Range, Lock, Thread}
use Rattle.py_data.specs.declared.record.Got.{Got}
use Rattle.py_data.specs.declared.record.Got.TheVariants.{Is, Raise}
use Rattle.py_data.specs.declared.value.Addr.{Addr}
use Rattle.py_data.specs.declared.value.Value.{Value}
use Rattle.py_data.specs.declared.value.Value.TheVariants.{Unset, None as NoneValue, Bool as BoolValue, Int, Ref, Builtin}
use Rattle.py_data.specs.Closed.{Refers}
use Rattle.py_data.specs.Every.{Every}
use Rattle.py_data.specs.Heap.{Heap, Has, at, value_at}
use Rattle.py_data.specs.Looking.{kind_row, look_row, got_row}
use Rattle.py_data.specs.Range.{IsRange}
use Rattle.py_data.specs.Fault.{argument_fault}
use Rattle.py_data.specs.Row.{Row, Ret, bind}
use Rattle.py_data.specs.Shape.{HasShape}
use Rattle.py_data.specs.Truth.{truth, truth_by, has_item}
use Rattle.obj_nest.specs.Truth.{bytes_filled, values_filled, step_with, stop_with, range_filled, filled_by, filled_row, truth_row}
use Rattle.obj_nest.proofs.Filled.{filled}
use Rattle.obj_threads.specs.declared.answer.Answer.{Answer}
use Rattle.obj_threads.specs.declared.answer.Answer.TheVariants.{Waits, Start}
use Rattle.obj_threads.specs.declared.keywords.Keywords.{Keywords}
use Rattle.obj_threads.specs.Arguments.{answered, is_bare, is_set, is_none, is_method_of}
use Rattle.obj_threads.specs.Keywords.{keywords_row}
use Rattle.obj_threads.specs.Locks.{made_lock, new_lock_row, held_answer, held_row, hold_row, acquire_by, acquire_row, acquire_with, free_row, release_by, release_row, locked_row, bare_lock_row, unasked_lock_row, lock_by, lock_keyed, lock_of, lock_at, lock_row}
use Rattle.obj_threads.specs.Quiet.{Never}
use Rattle.obj_threads.specs.Starting.{count_row, tuple_row, target_row, answer_row, room_row, start_by, start_called as start_tested, start_with, begin_row, start_new_with, start_new_row}
use Rattle.obj_threads.specs.Threads.{made_thread, empty_row, thread_by, thread_with, thread_of_target, thread_given, thread_keyed, new_thread_row, start_called, start_fresh, start_by_number, start_row, is_me, current_fault, joined, join_other, join_started, join_by_number, join_row, bare_thread_row, thread_bare, thread_of, thread_at, thread_row, member_row, thread_call_row}
use Rattle.obj_builtins.specs.Calls.{valued, str_call, list_call, dict_call, method_by, method_keyed, method_of, method_at, object_row, function_call, function_keyed, input_call, input_keyed, other_row, call_row}
use Rattle.py_step.specs.inner.Peeked.{Comes, Avoids, Tells, AnswersWait, AreClosed, IsOf}
use Rattle.py_step.proofs.PeekedRows.{there_at, tells_then, comes_kind, comes_look}
use Rattle.py_frames.proofs.WorkingRows.{never_ret, never_do, never_bind}

-- ---- the numbers

abbrev pub acquire : ℕ
acquire = builtin_number (codes "lock.acquire")

abbrev pub join : ℕ
join = builtin_number (codes "thread.join")

abbrev pub start : ℕ
start = builtin_number (codes "thread.start")

-- a record that is there has its kind's shape
shaped : (h : Heap) (closed : AreClosed h) (a : ℕ) (k : Kind) → Has h a → (at h a).kind ≡ k →
    HasShape h k (at h a).values
shaped h closed a k there e =
    let c = closed.each a (at h a) (there_at h a there) in
    subst (λ k. HasShape h k (at h a).values) e c.shaped.0

-- ---- truth

-- a range has three values
three : (vs : List Value) → IsRange vs → value_at vs 0 ∷ value_at vs 1 ∷ value_at vs 2 ∷ [] ≡ vs
three (Int i ∷ Int j ∷ Int k ∷ []) h = refl
three _ h = absurd h

module _ (S : Type 0) (h : Heap) where
  module _ (a : ℕ) (there : Has h a) where
    values_come : Comes {S = S} h (values_filled a) (truth_by Tuple (at h a).values (at h a).bytes)
    unfolding Comes values_filled
    values_come = (there, filled (at h a).values)

    range_comes : IsRange (at h a).values → Comes {S = S} h (range_filled a) (has_item (at h a).values)
    unfolding Comes range_filled stop_with step_with look_row bind
    range_comes i = (there, (there, (there, ap has_item (three (at h a).values i))))

    by_comes : (k : Kind) → ((k ≡ Range) → IsRange (at h a).values) →
        Comes {S = S} h (filled_by a k) (truth_by k (at h a).values (at h a).bytes)
    unfolding Comes filled_by bytes_filled
    by_comes Str i = (there, filled (at h a).bytes)
    by_comes Tuple i = values_come
    by_comes ListKind i = values_come
    by_comes Dict i = values_come
    by_comes Range i = range_comes (i refl)
    by_comes Cell i = refl
    by_comes Function i = refl
    by_comes Class i = refl
    by_comes Instance i = refl
    by_comes Method i = refl
    by_comes Iter i = refl
    by_comes Lock i = refl
    by_comes Thread i = refl

  module _ (closed : AreClosed h) where
    pub truth_comes : (x : Value) → Refers h x → Comes {S = S} h (truth_row x) (truth h x)
    unfolding Comes truth_row filled_row kind_row bind
    truth_comes (Ref a) i = (i, by_comes a.0 i (at h a.0).kind (λ e. shaped h closed a.0 Range i e))
    truth_comes Unset i = refl
    truth_comes NoneValue i = refl
    truth_comes (BoolValue b) i = refl
    truth_comes (Int n) i = refl
    truth_comes (Builtin n) i = refl

-- how many values a record of these kinds has
one_value : (h : Heap) (vs : List Value) → HasShape h Lock vs → length vs ≡ 1
one_value h (x ∷ []) i = refl
one_value h [] i = absurd i
one_value h (x ∷ y ∷ vs) i = absurd i

two_values : (h : Heap) (vs : List Value) → HasShape h Method vs → length vs ≡ 2
two_values h (x ∷ y ∷ []) i = refl
two_values h [] i = absurd i
two_values h (x ∷ []) i = absurd i
two_values h (x ∷ y ∷ z ∷ vs) i = absurd i

three_values : (h : Heap) (vs : List Value) → HasShape h Range vs → length vs ≡ 3
three_values h (Int i ∷ Int j ∷ Int k ∷ []) s = refl
three_values h _ s = absurd s

four_values : (h : Heap) (vs : List Value) → HasShape h Thread vs → length vs ≡ 4
four_values h (x ∷ y ∷ z ∷ w ∷ []) i = refl
four_values h [] i = absurd i
four_values h (x ∷ []) i = absurd i
four_values h (x ∷ y ∷ []) i = absurd i
four_values h (x ∷ y ∷ z ∷ []) i = absurd i
four_values h (x ∷ y ∷ z ∷ w ∷ v ∷ vs) i = absurd i

module _ (h : Heap) (closed : AreClosed h) (a : ℕ) (there : Has h a) where
  pub one_in_lock : (at h a).kind ≡ Lock → length (at h a).values ≡ 1
  one_in_lock e = one_value h (at h a).values (shaped h closed a Lock there e)

  pub two_in_method : (at h a).kind ≡ Method → length (at h a).values ≡ 2
  two_in_method e = two_values h (at h a).values (shaped h closed a Method there e)

  pub three_in_range : (at h a).kind ≡ Range → length (at h a).values ≡ 3
  three_in_range e = three_values h (at h a).values (shaped h closed a Range there e)

  pub four_in_thread : (at h a).kind ≡ Thread → length (at h a).values ≡ 4
  four_in_thread e = four_values h (at h a).values (shaped h closed a Thread there e)

  pub values_refer : Every (Refers h) (at h a).values
  values_refer = (closed.each a (at h a) (there_at h a there)).refers

-- ---- arguments, by how many there are

pub none_of : {A : Type 0} (xs : List A) → length xs < 1 → xs ≡ []
none_of [] i = refl
none_of (x ∷ xs) i = absurd (let e : ⊥ = omega (arith, i) in e)

pub one_of : (xs : List Value) → 1 ≤ length xs → length xs < 2 → xs ≡ value_at xs 0 ∷ []
one_of [] i j = absurd (let e : ⊥ = omega (arith, i) in e)
one_of (x ∷ []) i j = refl
one_of (x ∷ y ∷ xs) i j = absurd (let e : ⊥ = omega (arith, j) in e)

-- ---- what waits

some_not : (x : Value) (xs : List Value) → (length (x ∷ xs) == 0) ≡ false
some_not x xs = grind (arith, nat_tests)

value_not : (x : Value) → AnswersWait (answered x) → ⊥
value_not x e = let q : answered x ≡ Is Waits = e in cc

raise_not : (e : _) → AnswersWait (Raise e) → ⊥
raise_not e q = let z : ◌≡◌ {A = Got Answer} (Raise e) (Is Waits) = q in cc

module _ (S : Type 0) (h : Heap) where
  abbrev Told : Bool → Row S (Got Answer) → Type 0
  Told b row = Tells b AnswersWait h row

  -- the answer that waits
  waits : (z : Got Answer) → z ≡ Is Waits → Told true (Ret z)
  unfolding Comes
  waits z e = (z, e, refl)

  -- another answer
  goes : (z : Got Answer) → (AnswersWait z → ⊥) → Told false (Ret z)
  unfolding Avoids
  goes z n = n

  -- ---- acquire

  held_tells : (b : Bool) (x : Value) → Comes {S = S} h (truth_row x) b → Told b (held_row (Some x))
  unfolding held_row
  held_tells b x c = tells_then h b AnswersWait (truth_row x) (λ b. Ret (held_answer b)) b c (by b)
    where
      by : (b : Bool) → Told b (Ret (held_answer b))
      by true = waits _ refl
      by false = goes _ (value_not _)

  module _ (a : ℕ) (there : Has h a) where
    free_goes : (x : Option Value) → is_set (value_at (at h a).values 0) ≡ false → Told false (acquire_row a x)
    unfolding acquire_row acquire_by hold_row Avoids Never
    free_goes x e =
        let n : Told false (acquire_by a x false) = λ u q. value_not _ q in
        tells_then h false AnswersWait (look_row a 0) (λ held. acquire_by a x (is_set held))
        (value_at (at h a).values 0) (comes_look S h a there 0)
        (subst (λ b. Told false (acquire_by a x b)) (sym e) n)

    -- of a free lock
    pub free_tells : (args : List Value) → is_set (value_at (at h a).values 0) ≡ false →
        Told false (acquire_with a args)
    unfolding acquire_with Avoids
    free_tells [] e = free_goes None e
    free_tells (x ∷ []) e = free_goes (Some x) e
    free_tells (x ∷ y ∷ zs) e = raise_not _

    held_waits : (b : Bool) (x : Option Value) → is_set (value_at (at h a).values 0) ≡ true → Told b (held_row x) →
        Told b (acquire_row a x)
    unfolding acquire_row acquire_by
    held_waits b x e t =
        tells_then h b AnswersWait (look_row a 0) (λ held. acquire_by a x (is_set held)) (value_at (at h a).values 0)
        (comes_look S h a there 0)
        (subst (λ q. Told b (acquire_by a x q)) (sym e) t)

    -- of a held one without an argument, with one, and with more
    pub held_alone : (args : List Value) → args ≡ [] → is_set (value_at (at h a).values 0) ≡ true →
        Told true (acquire_with a args)
    unfolding acquire_with held_row
    held_alone args n e = subst (λ args. Told true (acquire_with a args)) (sym n)
        (held_waits true None e (waits _ refl))

    pub held_asked : (b : Bool) (args : List Value) (x : Value) → args ≡ x ∷ [] →
        is_set (value_at (at h a).values 0) ≡ true → Comes {S = S} h (truth_row x) b → Told b (acquire_with a args)
    unfolding acquire_with
    held_asked b args x n e c = subst (λ args. Told b (acquire_with a args)) (sym n)
        (held_waits b (Some x) e (held_tells b x c))

    pub many_goes : (args : List Value) → 2 ≤ length args → Told false (acquire_with a args)
    unfolding acquire_with Avoids
    many_goes [] i = absurd (let e : ⊥ = omega (arith, i) in e)
    many_goes (x ∷ []) i = absurd (let e : ⊥ = omega (arith, i) in e)
    many_goes (x ∷ y ∷ zs) i = raise_not _

    -- ---- join

    module _ (me : Option ℕ) where
      started : (b : Bool) (fresh : Bool) → is_none (value_at (at h a).values 2) ≡ fresh →
          Told b (join_by_number me a fresh) → Told b (join_row me a)
      unfolding join_row
      started b fresh e t =
          tells_then h b AnswersWait (look_row a 2) (λ n. join_by_number me a (is_none n)) (value_at (at h a).values 2)
          (comes_look S h a there 2)
          (subst (λ q. Told b (join_by_number me a q)) (sym e) t)

      -- of a thread that isn't started, of the calling one, and of another
      pub fresh_goes : is_none (value_at (at h a).values 2) ≡ true → Told false (join_row me a)
      unfolding join_by_number Avoids
      fresh_goes e = started false true e (raise_not _)

      mine : (b : Bool) (m : Bool) → is_me me a ≡ m → is_none (value_at (at h a).values 2) ≡ false →
          Told b (cond m (Ret (Raise current_fault)) (join_other a)) → Told b (join_row me a)
      unfolding join_by_number join_started
      mine b m e n t = started b false n
          (subst (λ q. Told b (cond q (Ret (Raise current_fault)) (join_other a))) (sym e) t)

      pub me_goes : is_none (value_at (at h a).values 2) ≡ false → is_me me a ≡ true → Told false (join_row me a)
      unfolding Avoids
      me_goes n e = mine false true e n (raise_not _)

      joined_tells : (ended : Bool) → Told (not ended) (Ret (joined ended))
      joined_tells false = waits _ refl
      joined_tells true = goes _ (value_not _)

      pub other_tells : (ended : Bool) → is_none (value_at (at h a).values 2) ≡ false → is_me me a ≡ false →
          is_set (value_at (at h a).values 3) ≡ ended → Told (not ended) (join_row me a)
      unfolding join_other
      other_tells ended n e i =
          let last : Told (not ended) (Ret (joined (is_set (value_at (at h a).values 3)))) =
          subst (λ b. Told (not ended) (Ret (joined b))) (sym i) (joined_tells ended) in
          mine (not ended) false e n (tells_then h (not ended) AnswersWait (look_row a 3)
          (λ ended. Ret (joined (is_set ended))) (value_at (at h a).values 3) (comes_look S h a there 3) last)

  -- ---- methods of locks and threads

  pub lock_tells : (b : Bool) (own : Value) (a : Addr) (args : List Value) → own ≡ Ref a → Has h a.0 →
      (at h a.0).kind ≡ Lock → Told b (acquire_with a.0 args) → Told b (lock_row acquire own args [])
  unfolding lock_row lock_at lock_of lock_keyed lock_by
  lock_tells b own a args e there k t =
      subst (λ own. Told b (lock_row acquire own args [])) (sym e)
      (tells_then h b AnswersWait (kind_row a.0) (λ k. lock_of acquire a.0 args [] k) (at h a.0).kind
      (comes_kind S h a.0 there) (subst (λ k. Told b (lock_of acquire a.0 args [] k)) (sym k) t))

  lock_kinds : (a : ℕ) (args : List Value) (k : Kind) → (k ≡ Lock → ⊥) → Told false (lock_of acquire a args [] k)
  unfolding lock_of Avoids
  lock_kinds a args Lock n = absurd (n refl)
  lock_kinds a args _ n = raise_not _

  pub lock_goes : (own : Value) (args : List Value) → Refers h own → (IsOf h Lock own → ⊥) →
      Told false (lock_row acquire own args [])
  unfolding lock_row lock_at Avoids
  lock_goes (Ref a) args i n = tells_then h false AnswersWait (kind_row a.0) (λ k. lock_of acquire a.0 args [] k)
      (at h a.0).kind (comes_kind S h a.0 i) (lock_kinds a.0 args (at h a.0).kind n)
  lock_goes _ args i n = raise_not _

  module _ (roots : ℕ) (me : Option ℕ) where
    pub thread_tells : (b : Bool) (own : Value) (a : Addr) (args : List Value) → own ≡ Ref a → args ≡ [] → Has h a.0 →
        (at h a.0).kind ≡ Thread → Told b (join_row me a.0) → Told b (thread_row roots me join own args [])
    unfolding thread_row thread_at thread_of thread_bare bare_thread_row
    thread_tells b own a args e n there k t =
        subst (λ own. Told b (thread_row roots me join own args [])) (sym e)
        (tells_then h b AnswersWait (kind_row a.0) (λ k. thread_of roots me join a args [] k) (at h a.0).kind
        (comes_kind S h a.0 there)
        (subst (λ k. Told b (thread_of roots me join a args [] k)) (sym k)
        (subst (λ args. Told b (thread_of roots me join a args [] Thread)) (sym n) t)))

    thread_kinds : (a : Addr) (args : List Value) (k : Kind) → (k ≡ Thread → ⊥) →
        Told false (thread_of roots me join a args [] k)
    unfolding thread_of Avoids
    thread_kinds a args Thread n = absurd (n refl)
    thread_kinds a args _ n = raise_not _

    pub thread_goes : (own : Value) (args : List Value) → Refers h own → (IsOf h Thread own → ⊥) →
        Told false (thread_row roots me join own args [])
    unfolding thread_row thread_at Avoids
    thread_goes (Ref a) args i n = tells_then h false AnswersWait (kind_row a.0)
        (λ k. thread_of roots me join a args [] k) (at h a.0).kind (comes_kind S h a.0 i)
        (thread_kinds a args (at h a.0).kind n)
    thread_goes _ args i n = raise_not _

    asked_of : (a : Addr) (x : Value) (xs : List Value) (k : Kind) →
        Told false (thread_of roots me join a (x ∷ xs) [] k)
    unfolding thread_of thread_bare Avoids
    asked_of a x xs Thread = subst (λ b.
        Told false (cond (b && true) (bare_thread_row roots me join a) (Ret (Raise argument_fault))))
        (sym (some_not x xs)) (raise_not _)
    asked_of a x xs _ = raise_not _

    -- with an argument
    pub asked_goes : (own : Value) (args : List Value) → 1 ≤ length args → Refers h own →
        Told false (thread_row roots me join own args [])
    unfolding thread_row thread_at Avoids
    asked_goes own [] n i = absurd (let e : ⊥ = omega (arith, n) in e)
    asked_goes (Ref a) (x ∷ xs) n i = tells_then h false AnswersWait (kind_row a.0)
        (λ k. thread_of roots me join a (x ∷ xs) [] k) (at h a.0).kind (comes_kind S h a.0 i)
        (asked_of a x xs (at h a.0).kind)
    asked_goes _ (x ∷ xs) n i = raise_not _

-- ---- every other builtin

-- neither of the two, or a keyword is given
abbrev pub IsOther : ℕ → List Value → Type 0
IsOther b keys = (((b == acquire) ≡ false) × ((b == join) ≡ false)) ⊎ ((length keys == 0) ≡ false)

-- a number that is neither of the two
pub neither : (b : ℕ) (keys : List Value) → (b ≡ acquire → ⊥) → (b ≡ join → ⊥) → IsOther b keys
neither b keys n m = inl (grind (arith, nat_tests, n), grind (arith, nat_tests, m))

-- the other method of threads
one_left : (b : ℕ) → (b == join) ≡ false → is_method_of Thread b ≡ true → (b == start) ≡ true
one_left b e i = by (b == start) (b == join) e i
  where
    by : (x y : Bool) → y ≡ false → (x || (y || false)) ≡ true → x ≡ true
    by true y e i = refl
    by false true e i = absurd (let q : true ≡ false = e in cc)
    by false false e i = i

both : (x y : Bool) → (x && y) ≡ true → y ≡ true
both true true e = refl
both true false e = e
both false true e = refl
both false false e = e

apart : (b : Bool) → b ≡ true → b ≡ false → ⊥
apart b e n = let q : true ≡ false = sym e ∙ n in cc

module _ (S : Type 0) where
  abbrev Goes : Row S (Got Answer) → Type 0
  Goes row = Never AnswersWait row

  gives : (x : Value) → Goes (Ret (answered x))
  gives x = never_ret S AnswersWait (answered x) (value_not x)

  raises : (e : _) → Goes (Ret (Raise e))
  raises e = never_ret S AnswersWait (Raise e) (raise_not e)

  next : {A : Type 0} (row : Row S A) (f : A → Row S (Got Answer)) → ((a : A) → Goes (f a)) → Goes (bind row f)
  next row f n = never_bind S AnswersWait row f n

  if_goes : (b : Bool) (p q : Row S (Got Answer)) → (b ≡ true → Goes p) → (b ≡ false → Goes q) → Goes (cond b p q)
  if_goes true p q i j = i refl
  if_goes false p q i j = j refl

  cond_goes : (b : Bool) (p q : Row S (Got Answer)) → Goes p → Goes q → Goes (cond b p q)
  cond_goes b p q i j = if_goes b p q (λ e. i) (λ e. j)

  valued_goes : (g : Got Value) → Goes (Ret (valued g))
  valued_goes (Is x) = gives x
  valued_goes (Raise e) = raises e

  -- ---- functions, and methods of strings, lists and dictionaries
  kinds_go : (m a : ℕ) (args : List Value) (k : Kind) → Goes (method_by m a args k)
  unfolding method_by str_call list_call dict_call
  kinds_go m a args Str = next _ _ valued_goes
  kinds_go m a args ListKind = next _ _ valued_goes
  kinds_go m a args Dict = next _ _ valued_goes
  kinds_go m a args _ = raises _

  object_goes : (m : ℕ) (own : Value) (args keys : List Value) → Goes (object_row m own args keys)
  unfolding object_row method_at method_of method_keyed
  object_goes m (Ref a) args keys = next (kind_row a.0) _
      (λ k. cond_goes _ _ _ (cond_goes _ _ _ (kinds_go m a.0 args k) (raises _)) (raises _))
  object_goes m _ args keys = raises _

  function_goes : (roots b : ℕ) (args keys : List Value) → Goes (function_keyed roots b args keys)
  unfolding function_keyed function_call
  function_goes roots b args keys = cond_goes _ _ _ (next _ _ valued_goes) (raises _)

  input_goes : (roots : ℕ) (args keys : List Value) → Goes (input_keyed roots args keys)
  unfolding input_keyed input_call
  input_goes roots args keys = cond_goes _ _ _ (next _ _ valued_goes) (raises _)

  -- ---- locks
  set_goes : (held : Bool) (a : ℕ) → Goes (release_by a held)
  unfolding release_by free_row
  set_goes held a = cond_goes _ _ _ (never_do S AnswersWait _ _ (λ u. gives _)) (raises _)

  unasked_goes : (m a : ℕ) (args : List Value) → Goes (unasked_lock_row m a args)
  unfolding unasked_lock_row bare_lock_row release_row locked_row
  unasked_goes m a args = cond_goes _ _ _
      (cond_goes _ _ _ (next _ _ (λ held. set_goes (is_set held) a)) (next _ _ (λ held. gives _))) (raises _)

  lock_of_goes : (m a : ℕ) (args keys : List Value) → IsOther m keys → (k : Kind) → Goes (lock_of m a args keys k)
  unfolding lock_of lock_keyed lock_by
  lock_of_goes m a args keys o Lock =
      if_goes (length keys == 0) (lock_by m a args) (Ret (Raise argument_fault)) (λ e. elim o [
        | inl n ↦ if_goes (m == acquire) (acquire_with a args) (unasked_lock_row m a args)
            (λ q. absurd (apart (m == acquire) q n.0)) (λ q. unasked_goes m a args)
        | inr n ↦ absurd (apart (length keys == 0) e n)
      ]) (λ e. raises argument_fault)
  lock_of_goes m a args keys o _ = raises _

  lock_row_goes : (m : ℕ) (own : Value) (args keys : List Value) → IsOther m keys → Goes (lock_row m own args keys)
  unfolding lock_row lock_at
  lock_row_goes m (Ref a) args keys o = next (kind_row a.0) _ (λ k. lock_of_goes m a.0 args keys o k)
  lock_row_goes m _ args keys o = raises _

  -- ---- threads
  room_goes : (f : Value) (t : Addr) (thread : Option Addr) (room : Bool) → Goes (answer_row f t thread room)
  unfolding answer_row
  room_goes f t thread true = never_ret S AnswersWait _
      (λ e. let q : ◌≡◌ {A = Got Answer} (Is (Start f t thread)) (Is Waits) = e in cc)
  room_goes f t thread false = raises _

  begun_goes : (roots : ℕ) (f : Value) (thread : Option Addr) (o : Option Addr) → Goes (start_with roots f thread o)
  unfolding start_with start_tested start_by room_row
  begun_goes roots f thread (Some t) = next (target_row f) _
      (λ good. cond_goes _ _ _ (next (count_row roots) _ (λ n. room_goes f t thread _)) (raises _))
  begun_goes roots f thread None = raises _

  begin_goes : (roots : ℕ) (f args : Value) (thread : Option Addr) → Goes (begin_row roots f args thread)
  unfolding begin_row
  begin_goes roots f args thread = next (tuple_row args) _ (λ o. begun_goes roots f thread o)

  new_start_goes : (roots : ℕ) (args keys : List Value) → Goes (start_new_row roots args keys)
  unfolding start_new_row start_new_with
  new_start_goes roots args keys = cond_goes _ _ _ (by args) (raises _)
    where
      by : (args : List Value) → Goes (start_new_with roots args)
      by [] = raises _
      by (x ∷ []) = raises _
      by (f ∷ args ∷ []) = begin_goes roots f args None
      by (x ∷ y ∷ z ∷ zs) = raises _

  new_lock_goes : (args keys : List Value) → Goes (new_lock_row args keys)
  unfolding new_lock_row made_lock
  new_lock_goes args keys = cond_goes _ _ _ (never_do S AnswersWait _ _ (λ a. gives _)) (raises _)

  made_goes : (f args : Value) → Goes (made_thread f args)
  unfolding made_thread
  made_goes f args = never_do S AnswersWait _ _ (λ a. gives _)

  by_goes : (f : Value) (o : Option Addr) → Goes (thread_by f o)
  unfolding thread_by
  by_goes f (Some t) = made_goes f _
  by_goes f None = raises _

  with_goes : (f : Value) (o : Option Value) → Goes (thread_with f o)
  unfolding thread_with
  with_goes f None = next empty_row _ (λ t. made_goes f t)
  with_goes f (Some x) = next (tuple_row x) _ (λ o. by_goes f o)

  target_goes : (args target : Option Value) → Goes (thread_of_target args target)
  unfolding thread_of_target
  target_goes args (Some f) = with_goes f args
  target_goes args None = raises _

  given_goes : (g : Got Keywords) → Goes (got_row thread_given g)
  unfolding thread_given
  given_goes (Is k) = target_goes k.args k.target
  given_goes (Raise e) = raises e

  new_thread_goes : (args keys : List Value) → Goes (new_thread_row args keys)
  unfolding new_thread_row thread_keyed
  new_thread_goes args keys = cond_goes _ _ _ (next (keywords_row keys) _ given_goes) (raises _)

  start_goes : (roots : ℕ) (a : Addr) → Goes (start_row roots a)
  unfolding start_row start_by_number start_fresh start_called
  start_goes roots a = next (look_row a.0 2) _
      (λ n. cond_goes _ _ _ (next (look_row a.0 0) _
      (λ f. next (look_row a.0 1) _ (λ args. begin_goes roots f args (Some a)))) (raises _))

  thread_of_goes : (roots : ℕ) (me : Option ℕ) (m : ℕ) (a : Addr) (args keys : List Value) → IsOther m keys →
      is_method_of Thread m ≡ true → (k : Kind) → Goes (thread_of roots me m a args keys k)
  unfolding thread_of thread_bare bare_thread_row
  thread_of_goes roots me m a args keys o i Thread =
      if_goes (is_bare args keys) (bare_thread_row roots me m a) (Ret (Raise argument_fault)) (λ e. elim o [
        | inl n ↦ if_goes (m == start) (start_row roots a) (join_row me a.0) (λ q. start_goes roots a)
            (λ q. absurd (apart (m == start) (one_left m n.1 i) q))
        | inr n ↦ absurd (apart (length keys == 0) (both (length args == 0) (length keys == 0) e) n)
      ]) (λ e. raises argument_fault)
  thread_of_goes roots me m a args keys o i _ = raises _

  thread_row_goes : (roots : ℕ) (me : Option ℕ) (m : ℕ) (own : Value) (args keys : List Value) → IsOther m keys →
      is_method_of Thread m ≡ true → Goes (thread_row roots me m own args keys)
  unfolding thread_row thread_at
  thread_row_goes roots me m (Ref a) args keys o i =
      next (kind_row a.0) _ (λ k. thread_of_goes roots me m a args keys o i k)
  thread_row_goes roots me m _ args keys o i = raises _

  member_goes : (roots b : ℕ) (args keys : List Value) → Goes (member_row roots b args keys)
  unfolding member_row
  member_goes roots b args keys = cond_goes _ _ _ (new_start_goes roots args keys)
      (cond_goes _ _ _ (new_lock_goes args keys) (cond_goes _ _ _ (new_thread_goes args keys) (raises _)))

  -- ---- the builtin of a number
  pub other_goes : (roots : ℕ) (me : Option ℕ) (b : ℕ) (own : Value) (args keys : List Value) → IsOther b keys →
      Goes (call_row roots me b own args keys)
  unfolding call_row other_row thread_call_row
  other_goes roots me b own args keys o =
      cond_goes _ _ _ (object_goes b own args keys)
      (cond_goes _ _ _ (function_goes roots b args keys) (cond_goes _ _ _ (input_goes roots args keys)
      (cond_goes _ _ _ (lock_row_goes b own args keys o)
      (if_goes _ _ _ (λ i. thread_row_goes roots me b own args keys o i) (λ i. member_goes roots b args keys)))))

module _ (S : Type 0) (h : Heap) (roots : ℕ) (me : Option ℕ) (own : Value) (args : List Value) (r : Bool) where
  pub acquire_tells : (b : ℕ) → b ≡ acquire → Tells {S = S} r AnswersWait h (lock_row acquire own args []) →
      Tells {S = S} r AnswersWait h (call_row roots me b own args [])
  unfolding call_row other_row thread_call_row
  acquire_tells b e t = subst (λ b. Tells {S = S} r AnswersWait h (call_row roots me b own args [])) (sym e) t

  pub join_tells : (b : ℕ) → b ≡ join → Tells {S = S} r AnswersWait h (thread_row roots me join own args []) →
      Tells {S = S} r AnswersWait h (call_row roots me b own args [])
  unfolding call_row other_row thread_call_row
  join_tells b e t = subst (λ b. Tells {S = S} r AnswersWait h (call_row roots me b own args [])) (sym e) t
