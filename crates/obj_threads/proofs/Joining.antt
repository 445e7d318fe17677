-- What the methods of threads do that start nothing, over each view.
use Rattle.std.proofs.Common.{◌≡◌, ℕ, ℤ, Bool, true, false, cond, [], codes, Option, refl, ap, subst, ◌∙◌}
use Rattle.py_base.specs.Numbers.{builtin_number}
use Rattle.py_data.specs.declared.value.Addr.{Addr}
use Rattle.py_data.specs.declared.value.Value.{Value}
use Rattle.py_data.specs.declared.value.Value.TheVariants.{None as NoneValue, Bool as BoolValue, Int}
use Rattle.py_data.specs.declared.record.Got.{Got}
use Rattle.py_data.specs.declared.record.Got.TheVariants.{Raise}
use Rattle.py_data.specs.Heap.{Heap, value_at}
use Rattle.py_data.specs.Looking.{kind_row, look_row}
use Rattle.py_data.specs.Row.{Row, Ret, bind}
use Rattle.py_data.specs.Sense.{Sense, Lawful, Run}
use Rattle.obj_class.specs.Bases.{ref}
use Rattle.obj_threads.specs.declared.answer.Answer.{Answer}
use Rattle.obj_threads.specs.Arguments.{is_none, is_set}
use Rattle.obj_threads.specs.Laws.{IsThread, ThreadDone, ThreadLaw}
use Rattle.obj_threads.specs.Threads.{thread_row, thread_at, thread_of, thread_bare, bare_thread_row, start_row, start_by_number, join_row, join_by_number, join_started, join_other, joined, is_me, started_fault, unstarted_fault, current_fault}
use Rattle.obj_threads.proofs.Locking.{WentOn, read_on}

module _ {S X : Type 0} (u : Sense S X) (L : Lawful u) where
  -- a row that answers at once
  answered_on : (x y : Got Answer) (h : Heap) (w : X) → WentOn {S = S} u L (Ret x) h y w → (y ≡ x) × (u.heap w ≡ h)
  unfolding Run
  answered_on x y h w n = (n.run.0, ap u.heap n.run.1 ∙ n.same)

  module _ (a : ℕ) (h : Heap) (number : Value) (ended : Bool) (l : IsThread h a number ended) where
    abbrev at : Addr
    at = record { 0 = a }

    -- the method of a thread is done
    method_on : (roots : ℕ) (me : Option ℕ) (m : ℕ) (v w : X) (y : Got Answer) → u.heap v ≡ h →
        Run u (thread_row roots me m (ref a) [] []) v y w → WentOn u L (bare_thread_row roots me m at) h y w
    unfolding thread_row thread_at kind_row bind thread_of thread_bare
    method_on roots me m v w y e d =
        let n = read_on u L a (λ r. thread_of roots me m at [] [] r.kind) h v w y l.thread l.here e d in
        subst (λ k. WentOn u L (thread_of roots me m at [] [] k) h y w) l.kind n

    -- and a value of the thread is looked at
    value_on : (i : ℕ) (x : Value) → value_at l.thread.values i ≡ x →
        (f : Value → Row S (Got Answer)) (v w : X) (y : Got Answer) → u.heap v ≡ h →
        Run u (bind (look_row a i) f) v y w → WentOn u L (f x) h y w
    unfolding look_row bind
    value_on i x p f v w y e d =
        let n = read_on u L a (λ r. f (value_at r.values i)) h v w y l.thread l.here e d in
        subst (λ x. WentOn u L (f x) h y w) p n

    started_on : (roots : ℕ) (me : Option ℕ) (v w : X) (y : Got Answer) → u.heap v ≡ h →
        ThreadDone u (codes "thread.start") roots me a v y w → WentOn u L (start_by_number roots at (is_none number)) h
        y w
    unfolding bare_thread_row start_row
    started_on roots me v w y e d =
        let n = method_on roots me (builtin_number (codes "thread.start")) v w y e d in
        value_on 2 number l.numbered (λ n. start_by_number roots at (is_none n)) n.from w y n.same n.run

    joined_on : (roots : ℕ) (me : Option ℕ) (v w : X) (y : Got Answer) → u.heap v ≡ h →
        ThreadDone u (codes "thread.join") roots me a v y w → WentOn u L (join_by_number me a (is_none number)) h y w
    unfolding bare_thread_row join_row
    joined_on roots me v w y e d =
        let n = method_on roots me (builtin_number (codes "thread.join")) v w y e d in
        value_on 2 number l.numbered (λ n. join_by_number me a (is_none n)) n.from w y n.same n.run

    other_on : (v w : X) (y : Got Answer) → u.heap v ≡ h → Run u (join_other a) v y w →
        WentOn u L (Ret (joined ended)) h y w
    unfolding join_other
    other_on v w y e d = value_on 3 (BoolValue ended) l.over (λ x. Ret (joined (is_set x))) v w y e d

  -- ---- the laws
  again : (roots : ℕ) (me : Option ℕ) (a : ℕ) (i : ℤ) (ended : Bool) (v w : X) (y : Got Answer) →
      IsThread (u.heap v) a (Int i) ended → ThreadDone u (codes "thread.start") roots me a v y w →
      (y ≡ Raise started_fault) × (u.heap w ≡ u.heap v)
  unfolding start_by_number
  again roots me a i ended v w y l d = answered_on (Raise started_fault) y (u.heap v) w
      (started_on a (u.heap v) (Int i) ended l roots me v w y refl d)

  fresh : (roots : ℕ) (me : Option ℕ) (a : ℕ) (ended : Bool) (v w : X) (y : Got Answer) →
      IsThread (u.heap v) a NoneValue ended → ThreadDone u (codes "thread.join") roots me a v y w →
      (y ≡ Raise unstarted_fault) × (u.heap w ≡ u.heap v)
  unfolding join_by_number
  fresh roots me a ended v w y l d = answered_on (Raise unstarted_fault) y (u.heap v) w
      (joined_on a (u.heap v) NoneValue ended l roots me v w y refl d)

  by_me : (roots : ℕ) (me : Option ℕ) (a : ℕ) (i : ℤ) (ended b : Bool) (v w : X) (y : Got Answer) →
      IsThread (u.heap v) a (Int i) ended → is_me me a ≡ b → ThreadDone u (codes "thread.join") roots me a v y w
      → WentOn u L (cond b (Ret (Raise current_fault)) (join_other a)) (u.heap v) y w
  unfolding join_by_number join_started
  by_me roots me a i ended b v w y l e d =
      subst (λ b. WentOn u L (cond b (Ret (Raise current_fault)) (join_other a)) (u.heap v) y w) e
      (joined_on a (u.heap v) (Int i) ended l roots me v w y refl d)

  pub thread_law : ThreadLaw u
  thread_law = record {
    start_again = again;
    join_fresh = fresh;
    join_own = λ roots me a i ended v w y l e d.
        answered_on (Raise current_fault) y (u.heap v) w (by_me roots me a i ended true v w y l e d);
    join_other = λ roots me a i ended v w y l e d.
        let n = by_me roots me a i ended false v w y l e d in
        answered_on (joined ended) y (u.heap v) w (other_on a (u.heap v) (Int i) ended l n.from w y n.same n.run);
  }
