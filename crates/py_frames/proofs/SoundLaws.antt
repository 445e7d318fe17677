-- The threads of a right program: each step has what its calls need, and leaves threads that may stand over the heap.
use Rattle.std.proofs.Common.{arith, ◌≡◌, ◌⊎◌, inl, inr, ℕ, zero, suc, ◌+◌, false, List, [], ◌∷◌, ◌++◌, length, Option, Some, None, refl, sym, ap, subst, ◌∙◌, slice_get, slice_set}
use Rattle.py_data.specs.Every.{Every}
use Rattle.py_data.specs.Heap.{Heap, no_records}
use Rattle.py_data.specs.Sense.{Safe}
use Rattle.py_data.specs.Sight.{Sight, Does, opened}
use Rattle.py_data.specs.World.{World}
use Rattle.py_data.proofs.EveryLemmas.{every_and, every_weaken}
use Rattle.py_data.proofs.Holding.{holds_safe, holds_does}
use Rattle.py_code.specs.declared.instr.Instr.TheVariants.{Setup}
use Rattle.py_code.specs.declared.program.Program.{Program}
use Rattle.py_code.specs.Effects.{Fine}
use Rattle.py_code.specs.Right.{IsRightProgram}
use Rattle.lock_run.specs.declared.client.Outcome.{Outcome}
use Rattle.lock_run.specs.declared.client.Life.TheVariants.{Lives}
use Rattle.py_frames.specs.declared.state.Frame.{Frame}
use Rattle.py_frames.specs.Laws.{FirstLaw, StepLaw, SafeLaw, IsEquipped, NeverLacksLaw}
use Rattle.py_frames.specs.Sound.{heights, IsBegin, AreFrames, CanGoOn, IsState, AreStates, module_frame, first_state, rules_of}
use Rattle.py_frames.specs.State.{State, limits, life_of}
use Rattle.py_frames.specs.Steps.{step_row}
use Rattle.py_frames.proofs.ClassHolds.{every_put}
use Rattle.py_frames.proofs.FirstStep.{HasLeft, first_instr, first_safe, first_left}
use Rattle.py_frames.proofs.Given.{right_at, functions_last, rooted_stays}
use Rattle.py_frames.proofs.Settle.{state_stays}
use Rattle.py_frames.proofs.StepSound.{instr_there, right_here, step_holds}

every_at : (P : State → Type 0) (ss : List State) (t : ℕ) (s : State) → Every P ss → slice_get ss t ≡ Some s → P s
every_at P [] t s i e = absurd (let q : ◌≡◌ {A = Option State} None (Some s) = e in cc)
every_at P (x ∷ ss) zero s i e = let q : x ≡ s = cc in subst P q i.0
every_at P (x ∷ ss) (suc t) s i e = every_at P ss t s i.1 e

-- the one element of a list
the_one : (x : State) (t : ℕ) (s : State) → slice_get (x ∷ []) t ≡ Some s → (t ≡ 0) × (s ≡ x)
the_one x zero s e = (refl, (let q : s ≡ x = cc in q))
the_one x (suc t) s e = absurd (let q : ◌≡◌ {A = Option State} None (Some s) = e in cc)

module _ (p : Program) (right : IsRightProgram p) where
  -- ---- once the roots are there
  later_step : (ss : List State) (t : ℕ) (s : State) (h : Heap) (w : World) (z : Outcome × State) (y : Sight State) →
      AreStates p h ss → slice_get ss t ≡ Some s → life_of s ≡ Lives → Does (step_row p s) (opened State h w) z y →
      AreStates p y.heap (slice_set (ss ++ y.started) t z.1)
  later_step ss t s h w z y i e l d =
      let stands : Heap → State → Type 0 = λ h s. IsState p i.roots h s in
      let st = every_at (stands h) ss t s i.each e in
      let holds = step_holds p right i.count i.roots h s (record { order = i.order; rooted = i.rooted }) st l in
      let last = functions_last p i.count in
      let left = holds_does (rules_of p i.count) (λ h s. IsState p i.roots h s) last
      (λ h h1 s order x j. state_stays p i.roots h h1 s x j) (λ q h. IsState p i.roots h q.1) (step_row p s)
      (opened State h w) y z holds i.order d in
      let others = every_weaken (λ s. IsState p i.roots h s) (λ s. IsState p i.roots y.heap s)
      (λ s j. state_stays p i.roots h y.heap s left.extends j) ss i.each in
      record {
        roots = i.roots;
        count = i.count;
        order = left.order;
        rooted = rooted_stays p i.count i.roots.0 h y.heap left.extends i.rooted;
        each =
            every_put (λ s. IsState p i.roots y.heap s) (ss ++ y.started) t z.1
            (subst (λ ts. Every (λ s. IsState p i.roots y.heap s) (ss ++ ts)) (sym left.more)
            (every_and (λ s. IsState p i.roots y.heap s) ss left.started others left.each)) left.answer;
      }

  later_safe : (ss : List State) (t : ℕ) (s : State) (h : Heap) → AreStates p h ss → slice_get ss t ≡ Some s →
      life_of s ≡ Lives → Safe false (step_row p s) h
  later_safe ss t s h i e l =
      let st = every_at (λ s. IsState p i.roots h s) ss t s i.each e in
      let holds = step_holds p right i.count i.roots h s (record { order = i.order; rooted = i.rooted }) st l in
      holds_safe (rules_of p i.count) (λ h s. IsState p i.roots h s) (functions_last p i.count)
      (λ q h. IsState p i.roots h q.1) false (step_row p s) h h refl i.order holds

  -- ---- before
  begin_states : (z : Outcome × State) (y : Sight State) (ss : List State) (t : ℕ) → ss ≡ first_state p ∷ [] → t ≡ 0 →
      HasLeft p z y → AreStates p y.heap (slice_set (ss ++ y.started) t z.1)
  begin_states z y ss t e at i =
      let all : ss ++ y.started ≡ first_state p ∷ [] = ap (λ ss. ss ++ y.started) e ∙
      ap (λ ts. first_state p ∷ ts) i.started in
      let set : slice_set (ss ++ y.started) t z.1 ≡ z.1 ∷ [] = ap (λ ss. slice_set ss t z.1) all ∙
      ap (λ t. slice_set (first_state p ∷ []) t z.1) at in
      record {
        roots = i.roots;
        count = i.count;
        order = i.order;
        rooted = i.rooted;
        each =
            subst (Every (λ s. IsState p i.roots y.heap s)) (sym set) (i.state, tt);
      }

  begin_step : (ss : List State) (t : ℕ) (s : State) (h : Heap) (w : World) (z : Outcome × State) (y : Sight State) →
      IsBegin p h ss → slice_get ss t ≡ Some s → Does (step_row p s) (opened State h w) z y →
      AreStates p y.heap (slice_set (ss ++ y.started) t z.1)
  begin_step ss t s h w z y i e d =
      let one = the_one (first_state p) t s (subst (λ ss. slice_get ss t ≡ Some s) i.states e) in
      let done : Does (step_row p (first_state p)) (opened State no_records w) z y =
      subst (λ g. Does (step_row p (first_state p)) (opened State g w) z y) i.heap
      (subst (λ s. Does (step_row p s) (opened State h w) z y) one.1 d) in
      begin_states z y ss t i.states one.0 (first_left p right w z y done)

  begin_safe : (ss : List State) (t : ℕ) (s : State) (h : Heap) → IsBegin p h ss → slice_get ss t ≡ Some s →
      Safe false (step_row p s) h
  begin_safe ss t s h i e =
      let one = the_one (first_state p) t s (subst (λ ss. slice_get ss t ≡ Some s) i.states e) in
      subst (λ s. Safe false (step_row p s) h) (sym one.1)
      (subst (λ g. Safe false (step_row p (first_state p)) g) (sym i.heap) (first_safe p right))

  step_by : (ss : List State) (t : ℕ) (s : State) (h : Heap) (w : World) (z : Outcome × State) (y : Sight State) →
      IsBegin p h ss ⊎ AreStates p h ss → slice_get ss t ≡ Some s → life_of s ≡ Lives →
      Does (step_row p s) (opened State h w) z y
      → IsBegin p y.heap (slice_set (ss ++ y.started) t z.1) ⊎ AreStates p y.heap (slice_set (ss ++ y.started) t z.1)
  step_by ss t s h w z y (inl i) e l d = inr (begin_step ss t s h w z y i e d)
  step_by ss t s h w z y (inr i) e l d = inr (later_step ss t s h w z y i e l d)

  safe_by : (ss : List State) (t : ℕ) (s : State) (h : Heap) → IsBegin p h ss ⊎ AreStates p h ss →
      slice_get ss t ≡ Some s → life_of s ≡ Lives → Safe false (step_row p s) h
  safe_by ss t s h (inl i) e l = begin_safe ss t s h i e
  safe_by ss t s h (inr i) e l = later_safe ss t s h i e l

  -- ---- nothing is lacked
  first_equipped : IsEquipped p (module_frame p)
  first_equipped =
      let code = right_at p 0 right right.first in
      let at = first_instr p right in
      let r = code.typed.1.each 0 Setup (record { height = 0; blocks = [] }) at code.typed.1.starts in
      record { code = right.first; instr = Setup; at = at; fine = r.fine }

  no_more : (n : ℕ) → n + 0 ≡ n
  no_more n = omega arith

  later_equipped : (h : Heap) (ss : List State) (t : ℕ) (s : State) (f : Frame) (fs : List Frame) → AreStates p h ss →
      slice_get ss t ≡ Some s → s.dying ≡ None → s.frames ≡ f ∷ fs → IsEquipped p f
  later_equipped h ss t s f fs i e dying frames =
      let st = every_at (λ s. IsState p i.roots h s) ss t s i.each e in
      let goes : AreFrames p h 0 (f ∷ fs) =
      subst (λ d. CanGoOn p h d (f ∷ fs)) dying (subst (λ w. CanGoOn p h s.dying w) frames st.goes) in
      let frame = goes.0 in
      let x = instr_there p h 0 f frame in
      let r = right_here p h f x.0 frame x.1 in
      record {
        code = frame.is;
        instr = x.0;
        at = x.1;
        fine =
            subst (λ n. Fine (limits p f) x.0 (record { height = n; blocks = heights f.blocks }))
            (no_more (length f.stack)) r.fine;
      }

  equipped_by : (h : Heap) (ss : List State) (t : ℕ) (s : State) (f : Frame) (fs : List Frame) →
      IsBegin p h ss ⊎ AreStates p h ss → slice_get ss t ≡ Some s → s.dying ≡ None → s.frames ≡ f ∷ fs → IsEquipped p f
  equipped_by h ss t s f fs (inl i) e dying frames =
      let one = the_one (first_state p) t s (subst (λ ss. slice_get ss t ≡ Some s) i.states e) in
      let same : f ∷ fs ≡ module_frame p ∷ [] = sym frames ∙ ap (λ s. s.frames) one.1 in
      let is : f ≡ module_frame p = cc in
      subst (IsEquipped p) (sym is) first_equipped
  equipped_by h ss t s f fs (inr i) e dying frames = later_equipped h ss t s f fs i e dying frames

pub first_law : FirstLaw
first_law p right = (right, inl (record { heap = refl; states = refl }))

pub step_law : StepLaw
step_law p ss t s h w o s1 y sound e l d = (sound.0, step_by p sound.0 ss t s h w (o, s1) y sound.1 e l d)

pub safe_law : SafeLaw
safe_law p ss t s h sound e l = safe_by p sound.0 ss t s h sound.1 e l

pub never_lacks_law : NeverLacksLaw
never_lacks_law p h ss t s f fs sound e dying frames = equipped_by p sound.0 h ss t s f fs sound.1 e dying frames
