-- A step that waits leaves all as it was, since it waits only behind looks.
use Rattle.std.proofs.Common.{◌≡◌, ℕ, Bool, true, false, cond, List, [], ◌∷◌, Option, Some, None, refl, sym, subst, inl, inr}
use Rattle.std.specs.Prelude.{option_map}
use Rattle.py_base.specs.declared.kind.Kind.{Kind}
use Rattle.py_base.specs.declared.kind.Kind.TheVariants.{Function, Class, Method}
use Rattle.py_data.specs.declared.value.Addr.{Addr}
use Rattle.py_data.specs.declared.value.Value.{Value}
use Rattle.py_data.specs.declared.value.Value.TheVariants.{Unset, None as NoneValue, Bool as BoolValue, Int, Ref, Builtin}
use Rattle.py_data.specs.declared.record.Got.{Got}
use Rattle.py_data.specs.declared.record.Got.TheVariants.{Is, Raise}
use Rattle.py_data.specs.Fault.{operand_fault}
use Rattle.py_data.specs.Looking.{look_row, kind_row}
use Rattle.py_data.specs.Row.{Row, Ret, Do, bind}
use Rattle.py_data.proofs.OnlyLooks.{OnlyLooks, only_bind, only_look, only_kind, only_ret}
use Rattle.py_code.specs.declared.instr.Instr.{Instr}
use Rattle.py_code.specs.declared.instr.Instr.TheVariants.{Setup, Const, Pop, Dup, Rot2, Dup2, Rot3, LoadLocal, StoreLocal, DelLocal, LoadGlobal, StoreGlobal, DelGlobal, LoadName, StoreName, DelName, LoadAttr, StoreAttr, DelAttr, LoadMethod, LoadItem, StoreItem, DelItem, Slice, Unary, Not, Binary, InPlace, Compare, Jump, JumpFalse, KeepFalse, KeepTrue, BuildTuple, BuildList, BuildDict, Unpack, Iter as IterInstr, Next as NextInstr, Call as CallInstr, CallMethod, Return, MakeFunction, ClassBody, Try, PopTry, ExcMatch, MakeRaised, Raise as RaiseInstr, PrintItem, PrintNewline}
use Rattle.py_code.specs.declared.program.Program.{Program}
use Rattle.lock_run.specs.declared.client.Outcome.{Outcome}
use Rattle.lock_run.specs.declared.client.Outcome.TheVariants.{Done, Ended, Waits as WaitsNow}
use Rattle.obj_threads.specs.declared.answer.Answer.{Answer}
use Rattle.obj_threads.specs.declared.answer.Answer.TheVariants.{Value as ValueAnswer, Waits as WaitsAnswer, Start as StartAnswer}
use Rattle.obj_threads.specs.Quiet.{Never, BehindLooks, IsGotPending}
use Rattle.obj_threads.proofs.Kept.{pending_does}
use Rattle.obj_threads.proofs.Quiet.{threads_quiet}
use Rattle.obj_builtins.specs.Calls.{call_row}
use Rattle.obj_builtins.proofs.CallQuiet.{call_quiet}
use Rattle.py_frames.specs.declared.state.Dying.{Dying}
use Rattle.py_frames.specs.declared.state.Frame.{Frame}
use Rattle.py_frames.specs.declared.next.Next.{Next}
use Rattle.py_frames.specs.declared.next.Next.TheVariants.{Goes, Jumps, Stores, Opens, Closes, Enters, Leaves, Fails, Begins, Throws, Waits}
use Rattle.py_frames.specs.Binding.{Given, with_own}
use Rattle.py_frames.specs.CallRows.{counted_row, started_row, numbered_start, thread_row, function_start, owned_start, target_start, kind_start, start_row, answered, keyed_call, keys_row, builtin_call, owned_call, method_of, method_call, record_call, value_call}
use Rattle.py_frames.specs.ClassCalls.{Site}
use Rattle.py_frames.specs.Laws.{WaitLaw}
use Rattle.py_frames.specs.PrintRows.{dying_row}
use Rattle.py_frames.specs.Raising.{place_of, values_row, raise_row}
use Rattle.py_frames.specs.State.{State, instr_at, pops, operands, with_frames, returned, settled}
use Rattle.py_frames.specs.Steps.{wanted, has_unset, instr_row, guarded_row, site_of, step_at, step_by, step_row}
use Rattle.py_frames.proofs.Outcomes.{Ends, ends_ret, ends_bind, ends_does}
use Rattle.py_frames.proofs.WorkingRows.{Waiting, Works, never_ret, never_do, never_bind, then_works, works, goes, jumps, stores, raises, const_works, load_local_works, del_local_works, load_global_works, store_global_works, del_global_works, load_name_works, store_name_works, del_name_works, load_attr_works, store_attr_works, del_attr_works, load_method_works, load_item_works, store_item_works, del_item_works, slice_works, unary_works, not_works, binary_works, in_place_works, compare_works, jump_false_works, keep_false_works, keep_true_works, build_works, build_dict_works, unpack_works, iter_works, next_works, make_function_works, class_body_works, return_works, class_call_works, function_call_works, exc_match_works, raise_works, made_raised_works, print_item_works, newline_works, setup_works}

-- ---- rows that wait behind looks alone

never_behind : {S A : Type 0} (p : A → Type 0) (row : Row S A) → Never p row → BehindLooks p row
unfolding Never BehindLooks
never_behind p (Ret a) n = tt
never_behind p (Do c k) n = inr n

behind_ret : (S : Type 0) {A : Type 0} (p : A → Type 0) (a : A) → BehindLooks {S = S} p (Ret a)
unfolding BehindLooks
behind_ret S p a = tt

behind_looks : {S A B : Type 0} (p : B → Type 0) (row : Row S A) (f : A → Row S B) → OnlyLooks row →
    ((a : A) → BehindLooks p (f a)) → BehindLooks p (bind row f)
unfolding OnlyLooks BehindLooks bind
behind_looks p (Ret a) f i n = n a
behind_looks p (Do c k) f i n = inl (i.0, λ r. behind_looks p (k r) f (i.1 r) n)

-- what follows an answer that is no such one is none either
never_after : {S A B : Type 0} (q : A → Type 0) (p : B → Type 0) (row : Row S A) (f : A → Row S B) → Never q row →
    ((a : A) → (q a → ⊥) → Never p (f a)) → Never p (bind row f)
unfolding Never bind
never_after q p (Ret a) f i n = n a i
never_after q p (Do c k) f i n = λ r. never_after q p (k r) f (i r) n

behind_bind : {S A B : Type 0} (q : A → Type 0) (p : B → Type 0) (row : Row S A) (f : A → Row S B) → BehindLooks q row
    → ((a : A) → BehindLooks p (f a)) → ((a : A) → (q a → ⊥) → Never p (f a)) → BehindLooks p (bind row f)
unfolding BehindLooks bind
behind_bind q p (Ret a) f i m n = m a
behind_bind q p (Do c k) f i m n = elim i [
  | inl l ↦ inl (l.0, λ r. behind_bind q p (k r) f (l.1 r) m n)
  | inr w ↦ inr (λ r. never_after q p (k r) f (w r) n)
]

behind_cond : {S A : Type 0} (p : A → Type 0) (b : Bool) (x y : Row S A) → BehindLooks p x → BehindLooks p y →
    BehindLooks p (cond b x y)
behind_cond p true x y i j = i
behind_cond p false x y i j = j

-- ---- calls

abbrev Quiet : Row State Next → Type 0
Quiet row = BehindLooks Waiting row

works_quiet : (row : Row State Next) → Works row → Quiet row
works_quiet row n = never_behind Waiting row n

counted_works : (roots : ℕ) (thread : Option Addr) (f : Frame) (count n : ℕ) (x : Value) →
    Works (counted_row roots thread f count n x)
unfolding counted_row
counted_works roots thread f count n x =
    never_do State Waiting _ _ (λ u. never_do State Waiting _ _ (λ v. goes State _))

started_works : (roots : ℕ) (thread : Option Addr) (f : Frame) (count n : ℕ) →
    Works (started_row roots thread f count n)
unfolding started_row
started_works roots (Some t) f count n =
    never_do State Waiting _ _ (λ u. counted_works roots (Some t) f count n NoneValue)
started_works roots None f count n = counted_works roots None f count n _

thread_works : (roots : ℕ) (thread : Option Addr) (g : Got Frame) → Works (thread_row roots thread g)
unfolding thread_row numbered_start
thread_works roots thread (Is f) = then_works State _ _
    (λ c. then_works State _ _ (λ v. started_works roots thread f _ _))
thread_works roots thread (Raise e) = raises State roots e

function_start_works : (s : Site) (thread : Option Addr) (args : List Value) (f : ℕ) →
    Works (function_start s thread args f)
unfolding function_start
function_start_works s thread args f = then_works State _ _ (λ g. thread_works s.roots thread g)

target_works : (s : Site) (thread : Option Addr) (args : List Value) (a : ℕ) (k : Kind) →
    Works (target_start s thread args a k)
unfolding target_start owned_start
target_works s thread args a Method = then_works State _ _
    (λ f. then_works State _ _ (λ own. function_start_works s thread _ _))
target_works s thread args a _ = function_start_works s thread args a

pub start_works : (s : Site) (thread : Option Addr) (target : Value) (args : ℕ) → Works (start_row s thread target args)
unfolding start_row kind_start
start_works s thread target args = then_works State _ _ (λ vs. then_works State _ _ (λ k. target_works s thread vs _ k))

answered_quiet : (s : Site) (g : Got Answer) → Quiet (answered s g)
unfolding answered
answered_quiet s (Is (ValueAnswer x)) = works_quiet _ (goes State _)
answered_quiet s (Is WaitsAnswer) = behind_ret State Waiting Waits
answered_quiet s (Is (StartAnswer target args thread)) = works_quiet _ (start_works s thread target args.0)
answered_quiet s (Raise e) = works_quiet _ (raises State s.roots e)

answered_works : (s : Site) (g : Got Answer) → (IsGotPending g → ⊥) → Works (answered s g)
unfolding answered
answered_works s (Is (ValueAnswer x)) n = goes State _
answered_works s (Is WaitsAnswer) n = absurd (n tt)
answered_works s (Is (StartAnswer target args thread)) n = absurd (n tt)
answered_works s (Raise e) n = raises State s.roots e

only_values : (a : ℕ) → OnlyLooks {S = State} (values_row a)
unfolding values_row OnlyLooks
only_values a = (tt, λ r. tt)

only_keys : (roots : ℕ) (ns : List ℕ) (vs : List Value) → OnlyLooks {S = State} (keys_row roots ns vs)
unfolding keys_row
only_keys roots [] vs = only_ret State _
only_keys roots (n ∷ ns) vs = only_bind (values_row roots) _ (only_values roots) (λ rs. only_ret State _)

builtin_quiet : (s : Site) (own : Value) (g : Given) (b : ℕ) → Quiet (builtin_call s own g b)
unfolding builtin_call keyed_call
builtin_quiet s own g b =
    let q = call_quiet State (threads_quiet State) in
    behind_looks Waiting (keys_row s.roots g.names g.values) (λ keys. keyed_call s b own g.args keys)
    (only_keys s.roots g.names g.values)
    (λ keys. behind_bind IsGotPending Waiting (call_row s.roots (option_map (λ a. a.0) s.thread) b own g.args keys)
    (λ g. answered s g) (q.pending s.roots (option_map (λ a. a.0) s.thread) b own g.args keys) (answered_quiet s)
    (answered_works s))

owned_quiet : (s : Site) (f : Value) (g : Given) (own : Value) → Quiet (owned_call s f g own)
unfolding owned_call
owned_quiet s (Builtin b) g own = builtin_quiet s own g b
owned_quiet s Unset g own = works_quiet _ (function_call_works State s _ _)
owned_quiet s NoneValue g own = works_quiet _ (function_call_works State s _ _)
owned_quiet s (BoolValue b) g own = works_quiet _ (function_call_works State s _ _)
owned_quiet s (Int n) g own = works_quiet _ (function_call_works State s _ _)
owned_quiet s (Ref a) g own = works_quiet _ (function_call_works State s _ _)

method_quiet : (s : Site) (g : Given) (a : ℕ) → Quiet (method_call s g a)
unfolding method_call method_of
method_quiet s g a = behind_looks Waiting (look_row a 0) _ (only_look State a 0)
    (λ f. behind_looks Waiting (look_row a 1) _ (only_look State a 1) (λ own. owned_quiet s f g own))

record_quiet : (s : Site) (g : Given) (a : ℕ) (k : Kind) → Quiet (record_call s g a k)
unfolding record_call
record_quiet s g a Function = works_quiet _ (function_call_works State s g a)
record_quiet s g a Method = method_quiet s g a
record_quiet s g a Class = works_quiet _ (class_call_works State s g a)
record_quiet s g a _ = works_quiet _ (raises State s.roots _)

value_quiet : (s : Site) (own : Value) (g : Given) (x : Value) → Quiet (value_call s own g x)
unfolding value_call
value_quiet s own g (Ref a) = behind_looks Waiting (kind_row a.0) _ (only_kind State a.0)
    (λ k. record_quiet s (with_own own g) a.0 k)
value_quiet s own g (Builtin b) = builtin_quiet s own g b
value_quiet s own g _ = works_quiet _ (raises State s.roots _)

-- ---- every instruction

-- the instruction calls a value
abbrev pub is_call : Instr → Bool
is_call (CallInstr m l) = true
is_call (CallMethod m l) = true
is_call _ = false

pub instr_works : (s : Site) (f : Frame) (xs : List Value) (i : Instr) → is_call i ≡ false → Works (instr_row s f xs i)
unfolding instr_row
instr_works s f xs Setup e = setup_works State s.program
instr_works s f xs (Const c) e = const_works State s.roots c
instr_works s f xs Pop e = goes State []
instr_works s f xs Dup e = goes State _
instr_works s f xs Rot2 e = goes State _
instr_works s f xs Dup2 e = goes State _
instr_works s f xs Rot3 e = goes State _
instr_works s f xs (LoadLocal i) e = load_local_works State s.roots _ _
instr_works s f xs (StoreLocal i) e = stores State i _
instr_works s f xs (DelLocal i) e = del_local_works State s.roots _ i _
instr_works s f xs (LoadGlobal g) e = load_global_works State s.roots g _ _
instr_works s f xs (StoreGlobal g) e = store_global_works State s.roots g _
instr_works s f xs (DelGlobal g) e = del_global_works State s.roots g _
instr_works s f xs (LoadName n) e = load_name_works State s.roots _ n _ _ _
instr_works s f xs (StoreName n) e = store_name_works State s.roots _ n _
instr_works s f xs (DelName n) e = del_name_works State s.roots _ n _
instr_works s f xs (LoadAttr n) e = load_attr_works State s.roots n _
instr_works s f xs (StoreAttr n) e = store_attr_works State s.roots n _ _
instr_works s f xs (DelAttr n) e = del_attr_works State s.roots n _
instr_works s f xs (LoadMethod n) e = load_method_works State s.roots n _ _
instr_works s f xs LoadItem e = load_item_works State s.roots _ _
instr_works s f xs StoreItem e = store_item_works State s.roots _ _ _
instr_works s f xs DelItem e = del_item_works State s.roots _ _
instr_works s f xs Slice e = slice_works State s.roots _ _ _
instr_works s f xs (Unary o) e = unary_works State s.roots o _
instr_works s f xs Not e = not_works State _
instr_works s f xs (Binary o) e = binary_works State s.roots o _ _
instr_works s f xs (InPlace o) e = in_place_works State s.roots o _ _
instr_works s f xs (Compare o) e = compare_works State s.roots o _ _
instr_works s f xs (Jump t) e = jumps State t []
instr_works s f xs (JumpFalse t) e = jump_false_works State t _
instr_works s f xs (KeepFalse t) e = keep_false_works State t _
instr_works s f xs (KeepTrue t) e = keep_true_works State t _
instr_works s f xs (BuildTuple n) e = build_works State s.roots _ xs
instr_works s f xs (BuildList n) e = build_works State s.roots _ xs
instr_works s f xs (BuildDict n) e = build_dict_works State s.roots xs
instr_works s f xs (Unpack n) e = unpack_works State s.roots n _
instr_works s f xs IterInstr e = iter_works State s.roots _
instr_works s f xs (NextInstr t) e = next_works State s.roots t _
instr_works s f xs (CallInstr m l) e = absurd (let q : true ≡ false = e in cc)
instr_works s f xs (CallMethod m l) e = absurd (let q : true ≡ false = e in cc)
instr_works s f xs Return e = return_works State s.roots s.thread _ _ _ f.made f.names
instr_works s f xs (MakeFunction c n) e = make_function_works State s.roots _ c xs
instr_works s f xs (ClassBody c) e = class_body_works State s c _
instr_works s f xs (Try t) e = works State (Opens t) (λ q. let z : Opens t ≡ Waits = q in cc)
instr_works s f xs PopTry e = works State Closes (λ q. let z : Closes ≡ Waits = q in cc)
instr_works s f xs ExcMatch e = exc_match_works State s.roots _ _
instr_works s f xs (MakeRaised n) e = made_raised_works State s xs n
instr_works s f xs RaiseInstr e = raise_works State s.roots _
instr_works s f xs PrintItem e = print_item_works State s.roots _
instr_works s f xs PrintNewline e = newline_works State

instr_quiet : (s : Site) (f : Frame) (xs : List Value) (i : Instr) → Quiet (instr_row s f xs i)
unfolding instr_row
instr_quiet s f xs (CallInstr m l) = value_quiet s _ _ _
instr_quiet s f xs (CallMethod m l) = value_quiet s _ _ _
instr_quiet s f xs i = works_quiet (instr_row s f xs i) (instr_works s f xs i refl)

guarded_quiet : (s : Site) (f : Frame) (xs : List Value) (i : Instr) → Quiet (guarded_row s f xs i)
unfolding guarded_row
guarded_quiet s f xs i = behind_cond Waiting (has_unset (wanted i xs)) (raise_row s.roots operand_fault)
    (instr_row s f xs i) (works_quiet _ (raises State s.roots _)) (instr_quiet s f xs i)

-- ---- a step

-- the step waits
abbrev pub Stays : Outcome × State → Type 0
Stays z = z.0 ≡ WaitsNow

-- a step that waits leaves the state
abbrev Same : State → Outcome × State → Type 0
Same s z = z.0 ≡ WaitsNow → z.1 ≡ s

done_not : Done ≡ WaitsNow → ⊥
done_not e = cc

ended_not : Ended ≡ WaitsNow → ⊥
ended_not e = cc

returned_not : (s : State) (x : Value) (fs : List Frame) → Stays (returned s x fs) → ⊥
returned_not s x [] e = ended_not e
returned_not s x (g ∷ fs) e = done_not e

pub settled_waits : (p : Program) (s : State) (n : ℕ) (f : Frame) (fs : List Frame) (next : Next) →
    Stays (settled p s n f fs next) → next ≡ Waits
unfolding settled
settled_waits p s n f fs (Goes ys) e = absurd (done_not e)
settled_waits p s n f fs (Jumps t ys) e = absurd (done_not e)
settled_waits p s n f fs (Stores i x) e = absurd (done_not e)
settled_waits p s n f fs (Opens t) e = absurd (done_not e)
settled_waits p s n f fs Closes e = absurd (done_not e)
settled_waits p s n f fs (Enters g) e = absurd (done_not e)
settled_waits p s n f fs (Leaves x) e = absurd (returned_not s x fs e)
settled_waits p s n f fs (Fails x) e = absurd (done_not e)
settled_waits p s n f fs (Begins a) e = absurd (done_not e)
settled_waits p s n f fs (Throws x) e = absurd (done_not e)
settled_waits p s n f fs Waits e = refl

settled_same : (p : Program) (s : State) (n : ℕ) (f : Frame) (fs : List Frame) (next : Next) →
    Same s (settled p s n f fs next)
unfolding settled
settled_same p s n f fs next e =
    let w = settled_waits p s n f fs next e in
    subst (λ next. (settled p s n f fs next).1 ≡ s) (sym w) refl

at_quiet : (p : Program) (s : State) (f : Frame) (fs : List Frame) (o : Option Instr) →
    BehindLooks Stays (step_at p s f fs o) × Ends (Same s) (step_at p s f fs o)
unfolding step_at
at_quiet p s f fs (Some i) =
    let n = pops p f i in
    let row = guarded_row (site_of p s fs) f (operands n f) i in
    let last : Next → Row State (Outcome × State) = λ next. Ret (settled p s n f fs next) in (
      behind_bind Waiting Stays row last (guarded_quiet (site_of p s fs) f (operands n f) i)
          (λ next. behind_ret State Stays (settled p s n f fs next))
          (λ next w. never_ret State Stays (settled p s n f fs next) (λ e. w (settled_waits p s n f fs next e))),
      ends_bind (Same s) row last (λ next.
          ends_ret State (Same s) (settled p s n f fs next) (settled_same p s n f fs next)),
    )
at_quiet p s f fs None = (
  behind_ret State Stays (Ended, with_frames s []),
  ends_ret State (Same s) (Ended, with_frames s []) (λ e. absurd (ended_not e)),
)

by_quiet : (p : Program) (s : State) (d : Option Dying) (fs : List Frame) →
    BehindLooks Stays (step_by p s d fs) × Ends (Same s) (step_by p s d fs)
unfolding step_by
by_quiet p s d [] = (behind_ret State Stays (Ended, s), ends_ret State (Same s) (Ended, s) (λ e. absurd (ended_not e)))
by_quiet p s (Some d) (f ∷ fs) =
    let row : Row State (Unit {0}) = dying_row (place_of s.roots) s.number s.thread d in
    let last : Unit {0} → Row State (Outcome × State) = λ u. Ret (Ended, with_frames s []) in (
      never_behind Stays (bind row last)
          (never_bind State Stays row last (λ u. never_ret State Stays (Ended, with_frames s []) ended_not)),
      ends_bind (Same s) row last (λ u. ends_ret State (Same s) (Ended, with_frames s []) (λ e. absurd (ended_not e))),
    )
by_quiet p s None (f ∷ fs) = at_quiet p s f fs (instr_at p f)

pub wait_law : WaitLaw
unfolding step_row
wait_law p s s1 x y d =
    let q = by_quiet p s s.dying s.frames in
    let same = ends_does (Same s) (step_row p s) x (WaitsNow, s1) y q.1 d in
    let u = pending_does Stays (step_row p s) x y (WaitsNow, s1) q.0 refl d in
    (same refl, record { heap = u.heap; made = u.made; started = u.started; world = u.world })
