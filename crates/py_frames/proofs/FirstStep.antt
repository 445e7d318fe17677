-- The first step of a right program: SETUP over no records.
use Rattle.std.proofs.Common.{arith, ◌≡◌, ℕ, suc, ◌+◌, ◌<◌, ◌==◌, ◌||◌, true, false, List, [], ◌∷◌, ◌++◌, length, Option, Some, None, refl, sym, ap, subst, ◌∙◌, pos, slice_get}
use Rattle.std.specs.Prelude.{All, is_some}
use Rattle.std.specs.List.{list_any}
use Rattle.std.proofs.lemmas.Bool.Decides.{nat_tests}
use Rattle.std.proofs.lemmas.List.Folds.{list_any-append}
use Rattle.py_base.specs.declared.kind.Kind.TheVariants.{Cell, Class, Function}
use Rattle.py_data.specs.declared.value.Addr.{Addr}
use Rattle.py_data.specs.declared.value.Value.TheVariants.{Unset, Int}
use Rattle.py_data.specs.Every.{Every}
use Rattle.py_data.specs.Heap.{Heap, Rec, no_records, new_rec}
use Rattle.py_data.specs.Holds.{Holds}
use Rattle.py_data.specs.Order.{IsOrdered, FitsAt}
use Rattle.py_data.specs.Row.{Row, Ret, Do, Make, bind}
use Rattle.py_data.specs.Sense.{Asks, Effect, Safe, Run}
use Rattle.py_data.specs.Sight.{Sight, Does, opened}
use Rattle.py_data.specs.World.{World}
use Rattle.py_data.proofs.Calls.{call_ordered}
use Rattle.py_data.proofs.Holding.{holds_ret, holds_bind, holds_safe, holds_does, act_effect}
use Rattle.py_code.specs.declared.instr.Instr.{Instr}
use Rattle.py_code.specs.declared.instr.Instr.TheVariants.{Setup, ClassBody}
use Rattle.py_code.specs.declared.program.Code.{Code}
use Rattle.py_code.specs.declared.program.Program.{Program}
use Rattle.py_code.specs.declared.program.Root.{Root}
use Rattle.py_code.specs.Right.{IsRightProgram, AreRight, Belongs, SetsUp, opens_body, all_instrs, is_body, cell_root}
use Rattle.lock_run.specs.declared.client.Outcome.{Outcome}
use Rattle.obj_class.specs.Bases.{ref}
use Rattle.obj_class.specs.Exceptions.{made_row}
use Rattle.obj_class.proofs.FaultHolds.{made_here}
use Rattle.py_frames.specs.declared.next.Next.{Next}
use Rattle.py_frames.specs.declared.next.Next.TheVariants.{Goes, Jumps, Stores, Opens, Closes, Enters, Leaves, Fails, Begins, Throws, Waits}
use Rattle.py_frames.specs.SetupRows.{root_by, roots_row, begun_row, setup_row}
use Rattle.py_frames.specs.Sound.{AreRoots, IsFrame, IsState, module_frame, first_state, rules_of}
use Rattle.py_frames.specs.State.{State, code_at, instr_at, settled}
use Rattle.py_frames.specs.Steps.{instr_row, guarded_row, step_at, step_by, step_row}
use Rattle.py_frames.proofs.FunctionHolds.{unset_held, unset_long}
use Rattle.py_frames.proofs.Given.{at_ref, right_at, functions_last}
use Rattle.py_frames.proofs.SetupHolds.{Begun, IsBegun, rest_of, roots_from, roots_hold, begun_holds}
use Rattle.py_frames.proofs.StepHolds.{roots_long}

-- ---- the first code is no class body's

not_opened : (cs : List Code) (rs : List Root) (n : ℕ) (i : Instr) → Belongs cs rs n i → opens_body 0 i ≡ false
not_opened cs rs n (ClassBody g) l = by g l
  where
    by : (g : ℕ) → 0 < g → (g == 0) ≡ false
    by g l = grind (arith, nat_tests)
not_opened cs rs n _ l = refl

none_of : (cs : List Code) (rs : List Root) (n : ℕ) (is : List Instr) → All (Belongs cs rs n) is →
    list_any (opens_body 0) is ≡ false
none_of cs rs n [] a = refl
none_of cs rs n (i ∷ is) a = ap (λ b. b || list_any (opens_body 0) is) (not_opened cs rs n i (a 0 i (omega arith))) ∙
    none_of cs rs n is (λ k d l. a (suc k) d (omega (arith, l)))

none_opens : (all : List Code) (rs : List Root) (n : ℕ) (cs : List Code) → AreRight all rs n cs →
    list_any (opens_body 0) (all_instrs cs) ≡ false
none_opens all rs n [] r = refl
none_opens all rs n (c ∷ cs) r =
    list_any-append (opens_body 0) c.instrs (all_instrs cs) ∙
    (ap (λ b. b || list_any (opens_body 0) (all_instrs cs)) (none_of all rs n c.instrs r.0.belongs) ∙
    none_opens all rs (n + 1) cs r.1)

module_is_none : (p : Program) → IsRightProgram p → is_body p.codes 0 ≡ false
module_is_none p right = none_opens p.codes p.roots 0 p.codes right.each

-- ---- SETUP is the first instruction

setup_first : (is : List Instr) → SetsUp 0 is → slice_get is 0 ≡ Some Setup
setup_first [] s = absurd s
setup_first (i ∷ is) s = ap Some s.0

pub first_instr : (p : Program) → IsRightProgram p → instr_at p (module_frame p) ≡ Some Setup
first_instr p right = setup_first (code_at p 0).instrs (right_at p 0 right right.first).sets_up

-- ---- the row of the first step

abbrev count_cell : Rec
count_cell = new_rec Cell (Int (pos 1) ∷ []) []

-- what is left once the Cell of the count is made
abbrev rest_row : Program → ℕ → Row State (Outcome × State)
rest_row p a = bind (bind (roots_row (rest_of p) (ref a ∷ [])) (λ vs. begun_row vs))
    (λ next. Ret (settled p (first_state p) 0 (module_frame p) [] next))

abbrev setup_by : Program → List Root → Row State (Outcome × State)
setup_by p rs = bind (bind (roots_row rs []) (λ vs. begun_row vs))
    (λ next. Ret (settled p (first_state p) 0 (module_frame p) [] next))

begins_so : (p : Program) → step_at p (first_state p) (module_frame p) [] (Some Setup) ≡ setup_by p p.roots
unfolding step_at guarded_row instr_row setup_row
begins_so p = refl

cell_first : (p : Program) → setup_by p (cell_root [] ∷ rest_of p) ≡ Do (Make count_cell) (rest_row p)
unfolding roots_row root_by made_row bind
cell_first p = refl

first_row : (p : Program) → IsRightProgram p → step_row p (first_state p) ≡ Do (Make count_cell) (rest_row p)
unfolding step_row step_by
first_row p right = ap (step_at p (first_state p) (module_frame p) []) (first_instr p right) ∙
    (begins_so p ∙ (ap (setup_by p) right.roots.form ∙ cell_first p))

-- ---- the heap that has the Cell of the count alone

cell_fits : (p : Program) (count : ℕ) (h : Heap) (a : ℕ) → FitsAt (rules_of p count) h a count_cell
unfolding rules_of
cell_fits p count h a = record {
  closed = record { refers = (tt, tt); shaped = (tt, refl, tt); bases = λ e. absurd (let q : Cell ≡ Class = e in cc) };
  short = (omega arith, omega arith);
  function = λ e. absurd (let q : Cell ≡ Function = e in cc);
  cell = λ e w. (omega arith, omega arith);
}

empty_ordered : (p : Program) (count : ℕ) → IsOrdered (rules_of p count) no_records
empty_ordered p count = record { each = λ a r e. absurd (let q : ◌≡◌ {A = Option Rec} None (Some r) = e in cc) }

-- no state is started
abbrev Nobody : Heap → State → Type 0
Nobody h s = ⊥

module _ (p : Program) (right : IsRightProgram p) (a : ℕ) (h1 : Heap)
    (effect : Effect {S = State} false (Make count_cell) no_records a h1) where
  pub one_ordered : IsOrdered (rules_of p a) h1
  unfolding Asks
  one_ordered =
      let one = cell_fits p a no_records 0 in
      (call_ordered (rules_of p a) (functions_last p a) Nobody (Make count_cell) no_records h1 a
      (one.closed.shaped, one.short.0, one.short.1) (λ b e. cell_fits p a no_records b) effect
      (empty_ordered p a)).0

  one_here : h1 a ≡ Some count_cell
  one_here = made_here no_records h1 a count_cell effect.1

  one_begun : Begun p a h1 (ref a ∷ [])
  one_begun =
      let cell = at_ref h1 Cell a count_cell one_here refl in
      record {
        some = omega arith;
        counts = refl;
        cell = cell;
        classes = λ n g l. absurd (omega (arith, l));
        texts = λ k u w l. absurd (omega (arith, u, l));
        cells = λ k u l. absurd (omega (arith, u, l));
        apart = λ k u l. absurd (omega (arith, u, l));
        items = ((ap is_some one_here, λ q. let z : ref a ≡ Unset = q in cc), tt);
      }

  -- the frame of the module, behind SETUP
  frame_after : (h : Heap) → IsFrame p h 0 (record (module_frame p) { pc = 1; stack = [] })
  frame_after h =
      let code = right_at p 0 right right.first in
      let r = code.typed.1.each 0 Setup (record { height = 0; blocks = [] }) (first_instr p right) code.typed.1.starts
      in
      record {
        is = right.first;
        typing = code.typed.0;
        typed = code.typed.1;
        shape = r.leads.next refl;
        begun = omega arith;
        blocks = tt;
        slots = unset_long (length (code_at p 0).slots);
        held = unset_held h (length (code_at p 0).slots);
        stacked = tt;
        names = tt;
        body = λ t. absurd (let z : true ≡ false = sym t ∙ module_is_none p right in cc);
      }

  -- the roots are there, and the state may stand over the heap
  abbrev pub HasBegun : Outcome × State → Heap → Type 0
  HasBegun z h = (roots : Addr) × AreRoots p h a roots.0 × IsState p roots h z.1

  settles : (next : Next) (h : Heap) → IsBegun p a next h →
      HasBegun (settled p (first_state p) 0 (module_frame p) [] next) h
  unfolding settled
  settles (Begins r) h i = (r, i, record { roots_are = refl; thread = tt; goes = (frame_after h, tt) })
  settles (Goes ys) h i = absurd i
  settles (Jumps t ys) h i = absurd i
  settles (Stores j x) h i = absurd i
  settles (Opens t) h i = absurd i
  settles Closes h i = absurd i
  settles (Enters g) h i = absurd i
  settles (Leaves x) h i = absurd i
  settles (Fails x) h i = absurd i
  settles (Throws x) h i = absurd i
  settles Waits h i = absurd i

  pub rest_holds : Holds (rules_of p a) Nobody HasBegun (rest_row p a) h1
  rest_holds =
      let n = length p.roots in
      let long = roots_long p right in
      let few = right.roots.few in
      let same : n ≡ length (cell_root [] ∷ rest_of p) = ap length right.roots.form in
      let all : n ≡ 1 + length (rest_of p) = omega (arith, same) in
      holds_bind (rules_of p a) Nobody (IsBegun p a) HasBegun
      (bind (roots_row (rest_of p) (ref a ∷ [])) (λ vs. begun_row vs))
      (λ next. Ret (settled p (first_state p) 0 (module_frame p) [] next)) h1 one_ordered
      (holds_bind (rules_of p a) Nobody (λ vs h. Begun p a h vs × (length vs ≡ n)) (IsBegun p a)
      (roots_row (rest_of p) (ref a ∷ [])) (λ vs. begun_row vs) h1 one_ordered
      (roots_hold p a Nobody (rest_of p) (ref a ∷ []) n h1 one_ordered one_begun (roots_from p right) all)
      (λ vs h2 order x i. begun_holds p a Nobody vs h2 i.0 i.1 (omega (arith, few)) (omega (arith, long))))
      (λ next h2 order x i. holds_ret (rules_of p a) Nobody HasBegun
      (settled p (first_state p) 0 (module_frame p) [] next) h2 (settles next h2 i))

-- ---- the laws for the first step

safe_make : (p : Program) → IsRightProgram p → Safe false (Do (Make count_cell) (rest_row p)) no_records
unfolding Safe Asks
safe_make p right =
    let one = cell_fits p 0 no_records 0 in (
      (one.closed.shaped, one.short.0, one.short.1),
      λ a h1 e. holds_safe (rules_of p a) Nobody (functions_last p a)
          (HasBegun p right a h1 e) false (rest_row p a) h1 h1 refl (one_ordered p right a h1 e)
          (rest_holds p right a h1 e),
    )

pub first_safe : (p : Program) → IsRightProgram p → Safe false (step_row p (first_state p)) no_records
first_safe p right = subst (λ row. Safe false row no_records) (sym (first_row p right)) (safe_make p right)

nobody : (h : Heap) (ss : List State) → Every (Nobody h) ss → ss ≡ []
nobody h [] i = refl
nobody h (s ∷ ss) i = absurd i.0

-- what the first step has left
pub record HasLeft (p : Program) (z : Outcome × State) (y : Sight State) : Type 0 where
  pub roots : Addr
  pub count : ℕ
  pub order : IsOrdered (rules_of p count) y.heap
  pub rooted : AreRoots p y.heap count roots.0
  pub state : IsState p roots y.heap z.1
  pub started : y.started ≡ []

made_first : (p : Program) → IsRightProgram p → (w : World) (z : Outcome × State) (y : Sight State) →
    Does (Do (Make count_cell) (rest_row p)) (opened State no_records w) z y → HasLeft p z y
unfolding Run
made_first p right w z y d =
    let a = d.0 in
    let m = d.1 in
    let e = act_effect (Make count_cell) (opened State no_records w) a m d.2 in
    let last = functions_last p a in
    let left = holds_does (rules_of p a) Nobody last (λ h h1 s order x i. i) (HasBegun p right a m.heap e)
    (rest_row p a) m y z (rest_holds p right a m.heap e) (one_ordered p right a m.heap e) d.3 in
    record {
      roots = left.answer.0;
      count = a;
      order = left.order;
      rooted = left.answer.1;
      state = left.answer.2;
      started = left.more ∙ (ap (λ z. z ++ left.started) (ap (λ z. z.started) d.2.1) ∙
          nobody y.heap left.started left.each);
    }

pub first_left : (p : Program) → IsRightProgram p → (w : World) (z : Outcome × State) (y : Sight State) →
    Does (step_row p (first_state p)) (opened State no_records w) z y → HasLeft p z y
first_left p right w z y d = made_first p right w z y
    (subst (λ row. Does row (opened State no_records w) z y) (first_row p right) d)
