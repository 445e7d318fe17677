-- Calls of builtins of `thread` and `threading`, worked by hand. States `docs/LANGUAGE.md`, "Locks and threads".
use Rattle.std.specs.Prelude.{◌≡◌, pos, codes, true, false, [], ◌∷◌, Some, None, refl}
use Rattle.py_base.specs.declared.kind.Kind.TheVariants.{Lock, Thread}
use Rattle.py_base.specs.Numbers.{builtin_number}
use Rattle.py_data.specs.declared.change.Change.TheVariants.{Set}
use Rattle.py_data.specs.declared.value.Value.TheVariants.{Unset, None as NoneValue, Bool as BoolValue, Int}
use Rattle.py_data.specs.declared.record.Got.{Got}
use Rattle.py_data.specs.declared.record.Got.TheVariants.{Is, Raise}
use Rattle.py_data.specs.Fault.{argument_fault, operand_fault}
use Rattle.py_data.specs.Row.{Row, Ret, Do, Edit, bind}
use Rattle.obj_nest.specs.Truth.{truth_row}
use Rattle.obj_class.specs.Bases.{ref}
use Rattle.obj_threads.specs.declared.answer.Answer.{Answer}
use Rattle.obj_threads.specs.declared.answer.Answer.TheVariants.{Waits}
use Rattle.obj_threads.specs.declared.keywords.Keywords.{Keywords}
use Rattle.obj_threads.specs.Arguments.{answered, callable_fault, is_method_of}
use Rattle.obj_threads.specs.Keywords.{no_keywords, with_keyword}
use Rattle.obj_threads.specs.Locks.{acquire_by, held_row, hold_row, lock_keyed, lock_row, release_by, unlocked_fault}
use Rattle.obj_threads.specs.Starting.{full_fault, has_room, start_answer, start_new_row, start_new_with}
use Rattle.obj_threads.specs.Threads.{current_fault, join_by_number, join_started, member_row, new_thread_row, start_by_number, started_fault, thread_call_row, thread_of_target, unstarted_fault}

module _ (S : Type 0) where
  abbrev Answers : Type 0
  Answers = Row S (Got Answer)

  -- ---- locks
  free_is_held : ◌≡◌ {A = Answers} (acquire_by 7 None false)
      (Do (Edit 7 (Set 0 (BoolValue true))) (λ u. Ret (answered (BoolValue true))))
  unfolding acquire_by hold_row
  free_is_held = refl

  held_waits : ◌≡◌ {A = Answers} (acquire_by 7 None true) (Ret (Is Waits))
  unfolding acquire_by held_row
  held_waits = refl

  held_and_zero : ◌≡◌ {A = Answers} (acquire_by 7 (Some (Int (pos 0))) true) (Ret (answered (BoolValue false)))
  unfolding acquire_by held_row truth_row bind
  held_and_zero = refl

  held_and_one : ◌≡◌ {A = Answers} (acquire_by 7 (Some (Int (pos 1))) true) (Ret (Is Waits))
  unfolding acquire_by held_row truth_row bind
  held_and_one = refl

  free_is_not_released : ◌≡◌ {A = Answers} (release_by 7 false) (Ret (Raise unlocked_fault))
  unfolding release_by
  free_is_not_released = refl

  -- a number isn't a lock, whatever the arguments are; and no method of locks takes a keyword
  number_is_no_lock : ◌≡◌ {A = Answers} (thread_call_row 3 None (builtin_number (codes "lock.acquire")) (Int (pos 5))
      (NoneValue ∷ NoneValue ∷ []) []) (Ret (Raise operand_fault))
  unfolding thread_call_row lock_row
  number_is_no_lock = refl

  no_keyword_for_locks : ◌≡◌ {A = Answers}
      (lock_keyed (builtin_number (codes "lock.release")) 7 [] (ref 8 ∷ NoneValue ∷ [])) (Ret (Raise argument_fault))
  unfolding lock_keyed
  no_keyword_for_locks = refl

  -- ---- threads
  started_once : ◌≡◌ {A = Answers} (start_by_number 3 (record { 0 = 9 }) false) (Ret (Raise started_fault))
  unfolding start_by_number
  started_once = refl

  no_join_before_the_start : ◌≡◌ {A = Answers} (join_by_number (Some 4) 9 true) (Ret (Raise unstarted_fault))
  unfolding join_by_number
  no_join_before_the_start = refl

  no_join_of_oneself : ◌≡◌ {A = Answers} (join_started (Some 9) 9) (Ret (Raise current_fault))
  unfolding join_started
  no_join_of_oneself = refl

  no_thread_without_target : ◌≡◌ {A = Answers} (thread_of_target (Some (ref 2)) None) (Ret (Raise argument_fault))
  unfolding thread_of_target
  no_thread_without_target = refl

  no_thread_by_place : ◌≡◌ {A = Answers}
      (thread_call_row 3 None (builtin_number (codes "threading.Thread")) Unset (ref 2 ∷ []) [])
      (Ret (Raise argument_fault))
  unfolding thread_call_row member_row new_thread_row
  no_thread_by_place = refl

  one_argument_starts_nothing : ◌≡◌ {A = Answers}
      (thread_call_row 3 None (builtin_number (codes "thread.start_new_thread")) Unset (ref 2 ∷ []) [])
      (Ret (Raise argument_fault))
  unfolding thread_call_row member_row start_new_row start_new_with
  one_argument_starts_nothing = refl

  modules_are_not_called : ◌≡◌ {A = Answers} (thread_call_row 3 None (builtin_number (codes "threading")) Unset [] [])
      (Ret (Raise callable_fault))
  unfolding thread_call_row member_row
  modules_are_not_called = refl

-- ---- the limit: 1,024 threads and no more
room_for_the_last : has_room (Int (pos 1_023)) ≡ true
room_for_the_last = refl

no_room : has_room (Int (pos 1_024)) ≡ false
no_room = refl

no_number_no_room : has_room Unset ≡ false
no_number_no_room = refl

full_raises : start_answer (ref 2) (record { 0 = 4 }) None (has_room (Int (pos 1_024))) ≡ Raise full_fault
full_raises = refl

-- ---- keywords
abbrev one_target : Keywords
one_target = record no_keywords { target = Some (Int (pos 1)) }

target_is_known : with_keyword no_keywords (codes "target") (Int (pos 1)) ≡ Some one_target
target_is_known = refl

first_counts : with_keyword one_target (codes "target") (Int (pos 2)) ≡ Some one_target
first_counts = refl

unknown_keyword : with_keyword no_keywords (codes "name") (Int (pos 1)) ≡ None
unknown_keyword = refl

-- ---- numbers
acquire_is_of_locks : is_method_of Lock (builtin_number (codes "lock.acquire")) ≡ true
acquire_is_of_locks = refl

start_is_of_threads : is_method_of Thread (builtin_number (codes "thread.start")) ≡ true
start_is_of_threads = refl

start_new_is_of_the_module : is_method_of Thread (builtin_number (codes "thread.start_new_thread")) ≡ false
start_new_is_of_the_module = refl
