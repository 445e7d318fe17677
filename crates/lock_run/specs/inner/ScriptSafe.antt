-- Each step of a script's thread has what its calls need. A law of clients, proved: nothing public rests on it.
use Rattle.std.specs.Prelude.{◌≡◌, ℕ, zero, suc, ◌+◌, Bool, true, false, List, [], length, Option, Some, None, slice_get, cond, ltb}
use Rattle.std.proofs.Common.{refl, sym, ap, subst, ◌∙◌, arith}
use Rattle.std.proofs.lemmas.Bool.{ltb-true}
use Rattle.py_data.specs.declared.value.Addr.{Addr}
use Rattle.py_data.specs.declared.value.Value.{Value}
use Rattle.py_data.specs.declared.value.Value.TheVariants.{Int}
use Rattle.py_base.specs.declared.kind.Kind.{Kind}
use Rattle.py_base.specs.declared.kind.Kind.TheVariants.{Cell, List as ListKind}
use Rattle.py_data.specs.declared.record.TheConstants.{LENGTH_LIMIT}
use Rattle.py_data.specs.declared.change.Change.TheVariants as change
use Rattle.py_data.specs.Heap.{Heap, Rec, is_tracked}
use Rattle.py_data.specs.Changes.{IsValuePlace}
use Rattle.py_data.specs.Row.{Ret, Do, Edit, Make}
use Rattle.py_data.specs.Sense.{Asks, Safe}
use Rattle.py_data.proofs.Steps.{there_is, asks_edit, safe_bind}
use Rattle.lock_run.specs.declared.script.Act.{Act}
use Rattle.lock_run.specs.declared.script.Act.TheVariants.{Look, Set, Push as PushAct, Put as PutAct}
use Rattle.lock_run.specs.declared.script.ScriptState.{ScriptState}
use Rattle.lock_run.specs.declared.script.ScriptState.TheVariants.{Prelude, Acts, Over}
use Rattle.lock_run.specs.Client.{IsSafe}
use Rattle.lock_run.specs.Script.{zero_cell, empty_list, with_cell, make_cells, start_threads, list_and_threads, prelude_row, look_row, set_row, push_row, act_row, act_at, now_done, at_act, script_row, script_prog, IsList, HasCells, HasList, IsStanding, ScriptSound}
use Rattle.lock_run.specs.inner.ScriptLaws.{one_of}

-- ---- the acts
value_place : (k : Kind) → k ≡ Cell → IsValuePlace k 0
value_place k e = subst (λ z. IsValuePlace z 0) (sym e) tt

module _ (S : Type 0) (h : Heap) where
  look_safe : (cells : List Addr) (k : ℕ) (o : Option Addr) → HasCells h cells → slice_get cells k ≡ o →
      Safe {S = S} false (look_row o) h
  unfolding look_row Safe Asks
  look_safe cells k None c e = tt
  look_safe cells k (Some a) c e =
      let i = c.each k a e in
      (there_is h a.0 i.rec false (λ r. Unit {0}) i.here tt, λ r h1 f. tt)

  set_safe : (cells : List Addr) (k : ℕ) (o : Option Addr) (v : Value) → HasCells h cells → slice_get cells k ≡ o →
      Safe {S = S} false (set_row o v) h
  unfolding set_row Safe Asks
  set_safe cells k None v c e = tt
  set_safe cells k (Some a) v c e =
      let i = c.each k a e in
      let one = i.so.1 in (
        asks_edit S false h a.0 i.rec (change.Set 0 v) i.here (ap is_tracked i.so.0, omega (arith, one))
            (value_place i.rec.kind i.so.0),
        λ r h1 f. tt,
      )

push_safe_if : (S : Type 0) (h : Heap) (list : Addr) (r : Rec) (v : Value) (b : Bool) → h list.0 ≡ Some r →
    r.kind ≡ ListKind → ltb (length r.values) LENGTH_LIMIT ≡ b
    → Safe {S = S} {A = Unit {0}} false (cond b (Do (Edit list.0 (change.Push v)) (λ _. Ret tt)) (Ret tt)) h
unfolding Safe Asks
push_safe_if S h list r v false here kind e = tt
push_safe_if S h list r v true here kind e = (
  asks_edit S false h list.0 r (change.Push v) here (kind, ltb-true (length r.values) LENGTH_LIMIT e) tt,
  λ x h1 f.
      tt,
)

push_safe : (S : Type 0) (h : Heap) (list : Addr) (v : Value) → HasList h list → Safe {S = S} false (push_row list v) h
unfolding push_row Safe Asks
push_safe S h list v l =
    let i = l.is in (
      there_is h list.0 i.rec false (λ r. Unit {0}) i.here tt,
      λ r h1 f. let here : h1 list.0 ≡ Some r =
          ap (λ g. g list.0) f.1 ∙ f.0 in push_safe_if S h1 list r v (ltb (length r.values) LENGTH_LIMIT) here
          (list_kind i.rec r (sym i.here ∙ f.0) i.so) refl,
    )
  where
    list_kind : (q r : Rec) → ◌≡◌ {A = Option Rec} (Some q) (Some r) → IsList q → IsList r
    list_kind q r e l = let f : q ≡ r = cc in subst IsList f l

pub act_safe : (S : Type 0) (h : Heap) (cells : List Addr) (list : Addr) (act : Act) →
    HasCells h cells × HasList h list → Safe {S = S} false (act_row cells list act) h
unfolding Safe Asks
act_safe S h cells list (Look k) l = look_safe S h cells k (slice_get cells k) l.0 refl
act_safe S h cells list (Set k n) l = set_safe S h cells k (slice_get cells k) (Int n) l.0 refl
act_safe S h cells list (PushAct n) l = push_safe S h list (Int n) l.1
act_safe S h cells list (PutAct byte) l = (tt, λ r h1 f. tt)

-- ---- the step of thread 0: a new Cell and a new List have their shapes, and a thread may always be started
pub cell_asks : (S : Type 0) (p : Bool) (h : Heap) → Asks {S = S} p (Make zero_cell) h
unfolding Asks
cell_asks S true h = (omega arith, omega arith)
cell_asks S false h = ((tt, refl, tt), omega arith, omega arith)

pub list_asks : (S : Type 0) (p : Bool) (h : Heap) → Asks {S = S} p (Make empty_list) h
unfolding Asks
list_asks S true h = (omega arith, omega arith)
list_asks S false h = ((tt, refl, tt), omega arith, omega arith)

pub cells_safe : (S : Type 0) (p : Bool) (n : ℕ) (cells : List Addr) (h : Heap) → Safe {S = S} p (make_cells n cells) h
unfolding make_cells Safe
cells_safe S p zero cells h = tt
cells_safe S p (suc n) cells h = (cell_asks S p h, λ a h1 e. cells_safe S p n (with_cell cells a) h1)

pub threads_safe : (p : Bool) (n number : ℕ) (cells : List Addr) (list : Addr) (h : Heap) →
    Safe p (start_threads n number cells list) h
unfolding start_threads Safe Asks
threads_safe p zero number cells list h = tt
threads_safe p (suc n) number cells list h = (tt, λ u h1 e. threads_safe p n (number + 1) cells list h1)

list_and_threads_safe : (count : ℕ) (cells : List Addr) (h : Heap) → Safe false (list_and_threads count cells) h
unfolding Safe
list_and_threads_safe count cells h = (
  list_asks ScriptState false h,
  λ a h1 e.
      threads_safe false count 0 cells (record { 0 = a }) h1,
)

prelude_safe : (n count : ℕ) (h : Heap) → Safe false (prelude_row n count) h
unfolding prelude_row
prelude_safe n count h = safe_bind false (make_cells n []) (list_and_threads count) h
    (cells_safe ScriptState false n [] h) (list_and_threads_safe count)

-- ---- the steps
at_act_safe : (lists : List (List Act)) (number done : ℕ) (cells : List Addr) (list : Addr) (o : Option Act) (h : Heap)
    → HasCells h cells × HasList h list → Safe false (at_act lists number done cells list o) h
unfolding Safe
at_act_safe lists number done cells list (Some act) h l =
    safe_bind false (act_row cells list act)
    (λ _. Ret (now_done (act_at lists number (done + 1)) number (done + 1) cells list)) h
    (act_safe ScriptState h cells list act l) (λ u h1. tt)
at_act_safe lists number done cells list None h l = tt

step_safe : (n : ℕ) (lists : List (List Act)) (s : ScriptState) (h : Heap) → IsStanding h s →
    Safe false (script_row n lists s) h
unfolding script_row Safe
step_safe n lists Prelude h l = safe_bind false (prelude_row n (length lists)) _ h (prelude_safe n (length lists) h)
    (λ u h1. tt)
step_safe n lists (Acts number done cells list) h l =
    at_act_safe lists number done cells list (act_at lists number done) h l
step_safe n lists Over h l = tt

pub script_sound_safe : (n : ℕ) (lists : List (List Act)) → IsSafe (script_prog n lists) ScriptSound
script_sound_safe n lists ss t s h l e lives = step_safe n lists s h (one_of h ss t s e l.all)
