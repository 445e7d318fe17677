-- What the threads of a script do, step by step, and over which heaps they may stand.
-- States `docs/HEAP.md`, "The one-lock machine".
use Rattle.std.specs.Prelude.{◌≡◌, ◌≢◌, ℕ, ◌+◌, ◌<◌, zero, suc, List, [], ◌∷◌, ◌++◌, length, slice_get, Option, Some, None, pos, cond, ltb, option_and_then, All}
use Rattle.py_data.specs.declared.value.Addr.{Addr}
use Rattle.py_data.specs.declared.value.Value.{Value}
use Rattle.py_data.specs.declared.value.Value.TheVariants.{Int}
use Rattle.py_base.specs.declared.kind.Kind.TheVariants.{Cell, List as ListKind}
use Rattle.py_data.specs.declared.stop.Out.TheVariants.{Output}
use Rattle.py_data.specs.declared.record.TheConstants.{LENGTH_LIMIT}
use Rattle.py_data.specs.Heap.{Heap, Rec, new_rec}
use Rattle.py_data.specs.Row.{Row, Ret, Do, Read, Edit, Make, Start, Put, bind}
use Rattle.py_data.specs.declared.change.Change.TheVariants as change
use Rattle.lock_run.specs.declared.client.Outcome.{Outcome}
use Rattle.lock_run.specs.declared.client.Outcome.TheVariants.{Done, Ended}
use Rattle.lock_run.specs.declared.client.Life.{Life}
use Rattle.lock_run.specs.declared.client.Life.TheVariants.{Lives, Ended as HasEnded}
use Rattle.lock_run.specs.declared.script.Act.{Act}
use Rattle.lock_run.specs.declared.script.Act.TheVariants.{Look, Set, Push as PushAct, Put as PutAct}
use Rattle.lock_run.specs.declared.script.Script.{Script}
use Rattle.lock_run.specs.declared.script.ScriptState.{ScriptState}
use Rattle.lock_run.specs.declared.script.ScriptState.TheVariants.{Prelude, Acts, Over}
use Rattle.lock_run.specs.Prog.{Prog}

-- how many Cells a script has, and its lists of acts
abbrev pub cells_in : Script → ℕ
cells_in c = c.cells

abbrev pub lists_in : Script → List (List Act)
lists_in c = c.lists.items

-- the acts name Cells that there are
abbrev pub IsFit : ℕ → Act → Type 0
IsFit cells (Look k) = k < cells
IsFit cells (Set k n) = k < cells
IsFit cells _ = Unit {0}

-- a list has an act, and each act is fit
abbrev pub HasFit : ℕ → List Act → Type 0
HasFit cells acts = (acts ≢ []) × All (IsFit cells) acts

abbrev pub AreFit : ℕ → List (List Act) → Type 0
AreFit cells lists = All (HasFit cells) lists

-- ---- the step of thread 0: the Cells, the List, and a thread for each list of acts
abbrev pub zero_cell : Rec
zero_cell = new_rec Cell (Int (pos 0) ∷ []) []

abbrev pub empty_list : Rec
empty_list = new_rec ListKind [] []

abbrev pub with_cell : List Addr → ℕ → List Addr
with_cell cells a = cells ++ record { 0 = a } ∷ []

unfoldable pub make_cells : {S : Type 0} → ℕ → List Addr → Row S (List Addr)
make_cells zero cells = Ret cells
make_cells (suc n) cells = Do (Make zero_cell) (λ a. make_cells n (with_cell cells a))

-- starts so many threads, whose lists of acts have the numbers from `number` on
unfoldable pub start_threads : ℕ → ℕ → List Addr → Addr → Row ScriptState (Unit {0})
start_threads zero number cells list = Ret tt
start_threads (suc n) number cells list =
    Do (Start (Acts number 0 cells list)) (λ _. start_threads n (number + 1) cells list)

abbrev pub list_and_threads : ℕ → List Addr → Row ScriptState (Unit {0})
list_and_threads count cells = Do (Make empty_list) (λ a. start_threads count 0 cells (record { 0 = a }))

unfoldable pub prelude_row : ℕ → ℕ → Row ScriptState (Unit {0})
prelude_row cells count = bind (make_cells cells []) (list_and_threads count)

-- ---- the acts. There is a Cell for each number in them
unfoldable pub look_row : {S : Type 0} → Option Addr → Row S (Unit {0})
look_row (Some a) = Do (Read a.0) (λ r. Ret tt)
look_row None = Ret tt

unfoldable pub set_row : {S : Type 0} → Option Addr → Value → Row S (Unit {0})
set_row (Some a) v = Do (Edit a.0 (change.Set 0 v)) (λ _. Ret tt)
set_row None v = Ret tt

-- a look at the List, and a push unless it is as long as a record may be
unfoldable pub push_row : {S : Type 0} → Addr → Value → Row S (Unit {0})
push_row list v = Do (Read list.0) (λ r.
    cond (ltb (length r.values) LENGTH_LIMIT) (Do (Edit list.0 (change.Push v)) (λ _. Ret tt)) (Ret tt))

abbrev pub act_row : {S : Type 0} → List Addr → Addr → Act → Row S (Unit {0})
act_row cells list (Look k) = look_row (slice_get cells k)
act_row cells list (Set k n) = set_row (slice_get cells k) (Int n)
act_row cells list (PushAct n) = push_row list (Int n)
act_row cells list (PutAct byte) = Do (Put Output (byte ∷ [])) (λ _. Ret tt)

-- ---- the steps
-- the act of a list that comes after so many
abbrev pub act_at : List (List Act) → ℕ → ℕ → Option Act
act_at lists number done = option_and_then (λ acts. slice_get acts done) (slice_get lists number)

-- where a thread stands that did so many acts: it has one left, or it has ended
abbrev pub now_done : Option Act → ℕ → ℕ → List Addr → Addr → Outcome × ScriptState
now_done (Some act) number done cells list = (Done, Acts number done cells list)
now_done None number done cells list = (Ended, Over)

abbrev pub at_act : List (List Act) → ℕ → ℕ → List Addr → Addr → Option Act → Row ScriptState (Outcome × ScriptState)
at_act lists number done cells list (Some act) =
    bind (act_row cells list act) (λ _. Ret (now_done (act_at lists number (done + 1)) number (done + 1) cells list))
at_act lists number done cells list None = Ret (Ended, Over)

unfoldable pub script_row : ℕ → List (List Act) → ScriptState → Row ScriptState (Outcome × ScriptState)
script_row n lists Prelude = bind (prelude_row n (length lists)) (λ _. Ret (Ended, Over))
script_row n lists (Acts number done cells list) = at_act lists number done cells list (act_at lists number done)
script_row n lists Over = Ret (Ended, Over)

abbrev pub script_life : ScriptState → Life
script_life Prelude = Lives
script_life (Acts number done cells list) = Lives
script_life Over = HasEnded

abbrev pub script_prog : ℕ → List (List Act) → Prog ScriptState
script_prog n lists = record { row = script_row n lists; life = script_life; first = Prelude }

-- ---- over which heaps the threads may stand
abbrev pub IsCell : Rec → Type 0
IsCell r = (r.kind ≡ Cell) × (length r.values ≡ 1)

abbrev pub IsList : Rec → Type 0
IsList r = r.kind ≡ ListKind

-- a record of such a form is there
pub record Is (form : Rec → Type 0) (h : Heap) (a : ℕ) : Type 0 where
  pub rec : Rec
  pub here : h a ≡ Some rec
  pub so : form rec

-- these are the addresses of Cells
pub record HasCells (h : Heap) (cells : List Addr) : Type 0 where
  pub each : (k : ℕ) (a : Addr) → slice_get cells k ≡ Some a → Is IsCell h a.0

-- this is the address of a List
pub record HasList (h : Heap) (list : Addr) : Type 0 where
  pub is : Is IsList h list.0

-- the addresses that a thread has are of Cells and a List
abbrev pub IsStanding : Heap → ScriptState → Type 0
IsStanding h Prelude = Unit {0}
IsStanding h (Acts number done cells list) = HasCells h cells × HasList h list
IsStanding h Over = Unit {0}

abbrev pub AreStanding : Heap → List ScriptState → Type 0
AreStanding h [] = Unit {0}
AreStanding h (s ∷ ss) = IsStanding h s × AreStanding h ss

pub record ScriptSound (h : Heap) (ss : List ScriptState) : Type 0 where
  pub all : AreStanding h ss
