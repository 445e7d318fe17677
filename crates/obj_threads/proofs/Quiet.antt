-- Each call of a builtin of `thread` or `threading` looks, sets values and makes records, and waits or lets a thread
-- start behind looks alone.
use Rattle.std.proofs.Common.{ℕ, ◌==◌, true, false, List, [], ◌∷◌, length, codes, Option, Some, None}
use Rattle.std.specs.Prelude.{◌/◌, ◌*◌, ◌+◌}
use Rattle.py_base.specs.declared.kind.Kind.{Kind}
use Rattle.py_base.specs.declared.kind.Kind.TheVariants.{Str, Tuple, List as ListKind, Dict, Range, Function, Method, Lock, Thread}
use Rattle.py_base.specs.Numbers.{builtin_number}
use Rattle.py_data.specs.declared.value.Addr.{Addr}
use Rattle.py_data.specs.declared.value.Value.{Value}
use Rattle.py_data.specs.declared.value.Value.TheVariants.{None as NoneValue, Bool as BoolValue, Ref}
use Rattle.py_data.specs.declared.record.Got.{Got}
use Rattle.py_data.specs.declared.record.Got.TheVariants.{Is, Raise}
use Rattle.py_data.specs.Fault.{argument_fault}
use Rattle.py_data.specs.Heap.{new_rec, value_at}
use Rattle.py_data.specs.Looking.{kind_row, look_row, got_row}
use Rattle.py_data.specs.Row.{Ret, bind}
use Rattle.py_data.specs.Steady.{Calm}
use Rattle.py_data.proofs.OnlyLooks.{OnlyLooks, only_bind, only_bytes, only_kind, only_look}
use Rattle.obj_nest.specs.Truth.{bytes_filled, values_filled, step_with, stop_with, range_filled, filled_by, filled_row, truth_row}
use Rattle.obj_class.specs.Bases.{ref}
use Rattle.obj_threads.specs.declared.answer.Answer.TheVariants.{Waits}
use Rattle.obj_threads.specs.declared.keywords.Keywords.{Keywords}
use Rattle.obj_threads.specs.Arguments.{answered, callable_fault, is_bare, is_set, is_none, is_method_of}
use Rattle.obj_threads.specs.Keywords.{name_row, known_row, named_row, keyword_row, keywords_row, no_keywords, with_keyword}
use Rattle.obj_threads.specs.Locks.{made_lock, new_lock_row, held_answer, held_row, hold_row, acquire_by, acquire_row, acquire_with, free_row, release_by, release_row, locked_row, bare_lock_row, unasked_lock_row, lock_by, lock_keyed, lock_of, lock_at, lock_row, unlocked_fault}
use Rattle.obj_threads.specs.Quiet.{ThreadsQuiet}
use Rattle.obj_threads.specs.Starting.{has_room, cell_row, count_row, tuple_row, function_row, method_row, target_by, target_at, target_row, answer_row, room_row, start_by, start_called, start_with, begin_row, start_new_with, start_new_row, start_answer}
use Rattle.obj_threads.specs.Threads as threads
use Rattle.obj_threads.specs.Threads.{made_thread, empty_row, thread_by, thread_with, thread_of_target, thread_given, thread_keyed, new_thread_row, start_fresh, start_by_number, start_row, joined, is_me, join_other, join_started, join_by_number, join_row, bare_thread_row, thread_bare, thread_of, thread_at, thread_row, makes_lock, member_row, thread_call_row, started_fault, unstarted_fault, current_fault}
use Rattle.obj_threads.proofs.Kept.{IsGood, only_each, mild_inside, mild_calm, good_ret, good_cond, good_looks, good_set, good_make, good_makes}

module _ (S : Type 0) where
  -- ---- truth
  only_range : (a : ℕ) → OnlyLooks {S = S} (range_filled a)
  unfolding range_filled stop_with step_with look_row bind OnlyLooks
  only_range a = (tt, λ r. (tt, λ q. (tt, λ p. tt)))

  only_filled : (a : ℕ) (k : Kind) → OnlyLooks {S = S} (filled_by a k)
  unfolding filled_by bytes_filled values_filled OnlyLooks
  only_filled a Str = (tt, λ r. tt)
  only_filled a Tuple = (tt, λ r. tt)
  only_filled a ListKind = (tt, λ r. tt)
  only_filled a Dict = (tt, λ r. tt)
  only_filled a Range = only_range a
  only_filled a _ = tt

  pub only_truth : (x : Value) → OnlyLooks {S = S} (truth_row x)
  unfolding truth_row filled_row OnlyLooks
  only_truth (Ref a) = only_bind (kind_row a.0) (λ k. filled_by a.0 k) (only_kind S a.0) (only_filled a.0)
  only_truth _ = tt

  -- ---- locks
  good_new_lock : (args keys : List Value) → IsGood {S = S} (new_lock_row args keys)
  unfolding new_lock_row made_lock
  good_new_lock args keys = good_cond S (is_bare args keys) made_lock (Ret (Raise argument_fault))
      (good_make S (new_rec Lock (BoolValue false ∷ []) []) ref) (good_ret S (Raise argument_fault))

  good_held : (o : Option Value) → IsGood {S = S} (held_row o)
  unfolding held_row
  good_held None = good_ret S (Is Waits)
  good_held (Some x) = good_looks S (truth_row x) (λ b. Ret (held_answer b)) (only_truth x)
      (λ b. good_ret S (held_answer b))

  good_hold : (a : ℕ) → IsGood {S = S} (hold_row a)
  unfolding hold_row
  good_hold a = good_set S a 0 (BoolValue true) (BoolValue true)

  good_acquire : (a : ℕ) (o : Option Value) → IsGood {S = S} (acquire_row a o)
  unfolding acquire_row acquire_by
  good_acquire a o = good_looks S (look_row a 0) (λ held. acquire_by a o (is_set held)) (only_look S a 0)
      (λ held. good_cond S (is_set held) (held_row o) (hold_row a) (good_held o) (good_hold a))

  good_acquire_with : (a : ℕ) (args : List Value) → IsGood {S = S} (acquire_with a args)
  unfolding acquire_with
  good_acquire_with a [] = good_acquire a None
  good_acquire_with a (x ∷ []) = good_acquire a (Some x)
  good_acquire_with a (x ∷ y ∷ zs) = good_ret S (Raise argument_fault)

  good_free : (a : ℕ) → IsGood {S = S} (free_row a)
  unfolding free_row
  good_free a = good_set S a 0 (BoolValue false) NoneValue

  good_release : (a : ℕ) → IsGood {S = S} (release_row a)
  unfolding release_row release_by
  good_release a = good_looks S (look_row a 0) (λ held. release_by a (is_set held)) (only_look S a 0)
      (λ held. good_cond S (is_set held) (free_row a) (Ret (Raise unlocked_fault)) (good_free a)
      (good_ret S (Raise unlocked_fault)))

  good_locked : (a : ℕ) → IsGood {S = S} (locked_row a)
  unfolding locked_row
  good_locked a = good_looks S (look_row a 0) (λ held. Ret (answered (BoolValue (is_set held)))) (only_look S a 0)
      (λ held. good_ret S (answered (BoolValue (is_set held))))

  good_lock_by : (m a : ℕ) (args : List Value) → IsGood {S = S} (lock_by m a args)
  unfolding lock_by unasked_lock_row bare_lock_row
  good_lock_by m a args =
      good_cond S (m == builtin_number (codes "lock.acquire")) (acquire_with a args) (unasked_lock_row m a args)
      (good_acquire_with a args)
      (good_cond S (length args == 0) (bare_lock_row m a) (Ret (Raise argument_fault))
      (good_cond S (m == builtin_number (codes "lock.release")) (release_row a) (locked_row a) (good_release a)
      (good_locked a)) (good_ret S (Raise argument_fault)))

  good_lock_of : (m a : ℕ) (args keys : List Value) (k : Kind) → IsGood {S = S} (lock_of m a args keys k)
  unfolding lock_of lock_keyed
  good_lock_of m a args keys Lock = good_cond S (length keys == 0) (lock_by m a args) (Ret (Raise argument_fault))
      (good_lock_by m a args) (good_ret S (Raise argument_fault))
  good_lock_of m a args keys _ = good_ret S _

  pub good_lock : (m : ℕ) (own : Value) (args keys : List Value) → IsGood {S = S} (lock_row m own args keys)
  unfolding lock_row lock_at
  good_lock m (Ref a) args keys = good_looks S (kind_row a.0) (λ k. lock_of m a.0 args keys k) (only_kind S a.0)
      (good_lock_of m a.0 args keys)
  good_lock m _ args keys = good_ret S _

  -- ---- starts
  only_cell : (x : Value) → OnlyLooks {S = S} (cell_row x)
  unfolding cell_row OnlyLooks
  only_cell (Ref c) = only_look S c.0 0
  only_cell _ = tt

  only_count : (roots : ℕ) → OnlyLooks {S = S} (count_row roots)
  unfolding count_row
  only_count roots = only_bind (look_row roots 0) (λ cell. cell_row cell) (only_look S roots 0) only_cell

  only_tuple : (x : Value) → OnlyLooks {S = S} (tuple_row x)
  unfolding tuple_row kind_row bind OnlyLooks
  only_tuple (Ref a) = (tt, λ r. tt)
  only_tuple _ = tt

  only_function : (x : Value) → OnlyLooks {S = S} (function_row x)
  unfolding function_row kind_row bind OnlyLooks
  only_function (Ref a) = (tt, λ r. tt)
  only_function _ = tt

  only_target_by : (a : ℕ) (k : Kind) → OnlyLooks {S = S} (target_by a k)
  unfolding target_by method_row OnlyLooks
  only_target_by a Function = tt
  only_target_by a Method = only_bind (look_row a 0) (λ f. function_row f) (only_look S a 0) only_function
  only_target_by a _ = tt

  only_target : (x : Value) → OnlyLooks {S = S} (target_row x)
  unfolding target_row target_at OnlyLooks
  only_target (Ref a) = only_bind (kind_row a.0) (λ k. target_by a.0 k) (only_kind S a.0) (only_target_by a.0)
  only_target _ = tt

  good_room : (roots : ℕ) (f : Value) (t : Addr) (thread : Option Addr) → IsGood {S = S} (room_row roots f t thread)
  unfolding room_row answer_row
  good_room roots f t thread = good_looks S (count_row roots) (λ n. answer_row f t thread (has_room n))
      (only_count roots) (λ n. good_ret S (start_answer f t thread (has_room n)))

  good_start_with : (roots : ℕ) (f : Value) (thread o : Option Addr) → IsGood {S = S} (start_with roots f thread o)
  unfolding start_with start_called start_by
  good_start_with roots f thread (Some t) =
      good_looks S (target_row f) (λ good. start_by roots f t thread good) (only_target f)
      (λ good. good_cond S good (room_row roots f t thread) (Ret (Raise argument_fault)) (good_room roots f t thread)
      (good_ret S (Raise argument_fault)))
  good_start_with roots f thread None = good_ret S (Raise argument_fault)

  good_begin : (roots : ℕ) (f args : Value) (thread : Option Addr) → IsGood {S = S} (begin_row roots f args thread)
  unfolding begin_row
  good_begin roots f args thread = good_looks S (tuple_row args) (λ o. start_with roots f thread o) (only_tuple args)
      (good_start_with roots f thread)

  good_start_new_with : (roots : ℕ) (args : List Value) → IsGood {S = S} (start_new_with roots args)
  unfolding start_new_with
  good_start_new_with roots [] = good_ret S (Raise argument_fault)
  good_start_new_with roots (x ∷ []) = good_ret S (Raise argument_fault)
  good_start_new_with roots (f ∷ args ∷ []) = good_begin roots f args None
  good_start_new_with roots (x ∷ y ∷ z ∷ zs) = good_ret S (Raise argument_fault)

  good_start_new : (roots : ℕ) (args keys : List Value) → IsGood {S = S} (start_new_row roots args keys)
  unfolding start_new_row
  good_start_new roots args keys = good_cond S (length keys == 0) (start_new_with roots args)
      (Ret (Raise argument_fault)) (good_start_new_with roots args) (good_ret S (Raise argument_fault))

  -- ---- new threads
  only_name : (x : Value) → OnlyLooks {S = S} (name_row x)
  unfolding name_row OnlyLooks
  only_name (Ref a) = only_bytes S a.0
  only_name _ = tt

  only_keyword : (keys : List Value) (i : ℕ) (k : Keywords) → OnlyLooks {S = S} (keyword_row keys i k)
  unfolding keyword_row named_row known_row OnlyLooks
  only_keyword keys i k = only_bind (name_row (value_at keys (2 * i)))
      (λ t. known_row (with_keyword k t (value_at keys (2 * i + 1)))) (only_name (value_at keys (2 * i))) (λ t. tt)

  only_keywords : (keys : List Value) → OnlyLooks {S = S} (keywords_row keys)
  unfolding keywords_row
  only_keywords keys = only_each (keyword_row keys) (only_keyword keys) 0 (length keys / 2) no_keywords

  good_thread_by : (f : Value) (o : Option Addr) → IsGood {S = S} (thread_by f o)
  unfolding thread_by made_thread
  good_thread_by f (Some t) = good_make S (new_rec Thread (f ∷ Ref t ∷ NoneValue ∷ BoolValue false ∷ []) []) ref
  good_thread_by f None = good_ret S (Raise argument_fault)

  good_thread_with : (f : Value) (o : Option Value) → IsGood {S = S} (thread_with f o)
  unfolding thread_with empty_row made_thread bind
  good_thread_with f None = good_makes S (new_rec Tuple [] [])
      (λ t. new_rec Thread (f ∷ ref t ∷ NoneValue ∷ BoolValue false ∷ []) []) ref
  good_thread_with f (Some x) = good_looks S (tuple_row x) (λ o. thread_by f o) (only_tuple x) (good_thread_by f)

  good_of_target : (args target : Option Value) → IsGood {S = S} (thread_of_target args target)
  unfolding thread_of_target
  good_of_target args (Some f) = good_thread_with f args
  good_of_target args None = good_ret S (Raise argument_fault)

  good_got_given : (g : Got Keywords) → IsGood {S = S} (got_row thread_given g)
  unfolding thread_given
  good_got_given (Is k) = good_of_target k.args k.target
  good_got_given (Raise e) = good_ret S (Raise e)

  good_new_thread : (args keys : List Value) → IsGood {S = S} (new_thread_row args keys)
  unfolding new_thread_row thread_keyed
  good_new_thread args keys = good_cond S (length args == 0) (thread_keyed keys) (Ret (Raise argument_fault))
      (good_looks S (keywords_row keys) (got_row thread_given) (only_keywords keys) good_got_given)
      (good_ret S (Raise argument_fault))

  -- ---- threads
  good_start_fresh : (roots : ℕ) (a : Addr) → IsGood {S = S} (start_fresh roots a)
  unfolding start_fresh threads.start_called
  good_start_fresh roots a =
      good_looks S (look_row a.0 0) (λ f. threads.start_called roots a f) (only_look S a.0 0)
      (λ f. good_looks S (look_row a.0 1) (λ args. begin_row roots f args (Some a)) (only_look S a.0 1)
      (λ args. good_begin roots f args (Some a)))

  good_start : (roots : ℕ) (a : Addr) → IsGood {S = S} (start_row roots a)
  unfolding start_row start_by_number
  good_start roots a = good_looks S (look_row a.0 2) (λ n. start_by_number roots a (is_none n)) (only_look S a.0 2)
      (λ n. good_cond S (is_none n) (start_fresh roots a) (Ret (Raise started_fault)) (good_start_fresh roots a)
      (good_ret S (Raise started_fault)))

  good_join_other : (a : ℕ) → IsGood {S = S} (join_other a)
  unfolding join_other
  good_join_other a = good_looks S (look_row a 3) (λ ended. Ret (joined (is_set ended))) (only_look S a 3)
      (λ ended. good_ret S (joined (is_set ended)))

  good_join : (me : Option ℕ) (a : ℕ) → IsGood {S = S} (join_row me a)
  unfolding join_row join_by_number join_started
  good_join me a =
      good_looks S (look_row a 2) (λ n. join_by_number me a (is_none n)) (only_look S a 2)
      (λ n. good_cond S (is_none n) (Ret (Raise unstarted_fault)) (join_started me a)
      (good_ret S (Raise unstarted_fault))
      (good_cond S (is_me me a) (Ret (Raise current_fault)) (join_other a) (good_ret S (Raise current_fault))
      (good_join_other a)))

  good_bare : (roots : ℕ) (me : Option ℕ) (m : ℕ) (a : Addr) → IsGood {S = S} (bare_thread_row roots me m a)
  unfolding bare_thread_row
  good_bare roots me m a = good_cond S (m == builtin_number (codes "thread.start")) (start_row roots a)
      (join_row me a.0) (good_start roots a) (good_join me a.0)

  good_thread_of : (roots : ℕ) (me : Option ℕ) (m : ℕ) (a : Addr) (args keys : List Value) (k : Kind) →
      IsGood {S = S} (thread_of roots me m a args keys k)
  unfolding thread_of thread_bare
  good_thread_of roots me m a args keys Thread = good_cond S (is_bare args keys) (bare_thread_row roots me m a)
      (Ret (Raise argument_fault)) (good_bare roots me m a) (good_ret S (Raise argument_fault))
  good_thread_of roots me m a args keys _ = good_ret S _

  good_thread : (roots : ℕ) (me : Option ℕ) (m : ℕ) (own : Value) (args keys : List Value) →
      IsGood {S = S} (thread_row roots me m own args keys)
  unfolding thread_row thread_at
  good_thread roots me m (Ref a) args keys = good_looks S (kind_row a.0) (λ k. thread_of roots me m a args keys k)
      (only_kind S a.0) (good_thread_of roots me m a args keys)
  good_thread roots me m _ args keys = good_ret S _

  -- ---- all
  good_member : (roots b : ℕ) (args keys : List Value) → IsGood {S = S} (member_row roots b args keys)
  unfolding member_row
  good_member roots b args keys =
      good_cond S (b == builtin_number (codes "thread.start_new_thread")) (start_new_row roots args keys) _
      (good_start_new roots args keys)
      (good_cond S (makes_lock b) (new_lock_row args keys) _ (good_new_lock args keys)
      (good_cond S (b == builtin_number (codes "threading.Thread")) (new_thread_row args keys)
      (Ret (Raise callable_fault)) (good_new_thread args keys) (good_ret S (Raise callable_fault))))

  pub good_call : (roots : ℕ) (me : Option ℕ) (b : ℕ) (own : Value) (args keys : List Value) →
      IsGood {S = S} (thread_call_row roots me b own args keys)
  unfolding thread_call_row
  good_call roots me b own args keys =
      good_cond S (is_method_of Lock b) (lock_row b own args keys) _ (good_lock b own args keys)
      (good_cond S (is_method_of Thread b) (thread_row roots me b own args keys) (member_row roots b args keys)
      (good_thread roots me b own args keys) (good_member roots b args keys))

  pub calls_calm : (roots : ℕ) (me : Option ℕ) (b : ℕ) (own : Value) (args keys : List Value) →
      Calm {S = S} (thread_call_row roots me b own args keys)
  calls_calm roots me b own args keys = mild_calm (thread_call_row roots me b own args keys)
      (good_call roots me b own args keys).mild

  pub threads_quiet : ThreadsQuiet S
  threads_quiet = record {
    pending = λ roots me b own args keys. (good_call roots me b own args keys).pending;
    inside = λ roots me b own args keys. mild_inside (thread_call_row roots me b own args keys)
        (good_call roots me b own args keys).mild;
  }
