-- How a step ends tells whether the thread lives on.
use Rattle.std.proofs.Common.{◌≡◌, ◌≢◌, ℕ, List, [], ◌∷◌, Option, Some, None, refl, sym, ap, subst}
use Rattle.py_data.specs.declared.value.Value.{Value}
use Rattle.py_data.specs.Row.{Reply, Row, Ret, Do, bind}
use Rattle.py_data.specs.Sense.{Run}
use Rattle.py_data.specs.Sight.{Sight, Does}
use Rattle.py_code.specs.declared.instr.Instr.{Instr}
use Rattle.py_code.specs.declared.program.Program.{Program}
use Rattle.lock_run.specs.declared.client.Outcome.{Outcome}
use Rattle.lock_run.specs.declared.client.Outcome.TheVariants.{Ended}
use Rattle.lock_run.specs.declared.client.Life.TheVariants.{Lives, Failed, Ended as HasEnded}
use Rattle.lock_run.specs.Client.{LifeAfter}
use Rattle.py_frames.specs.declared.state.Dying.{Dying}
use Rattle.py_frames.specs.declared.state.Frame.{Frame}
use Rattle.py_frames.specs.declared.next.Next.{Next}
use Rattle.py_frames.specs.declared.next.Next.TheVariants.{Goes, Jumps, Stores, Opens, Closes, Enters, Leaves, Fails, Begins, Throws, Waits}
use Rattle.py_frames.specs.Laws.{OutcomeLaw}
use Rattle.py_frames.specs.PrintRows.{dying_row}
use Rattle.py_frames.specs.Raising.{place_of}
use Rattle.py_frames.specs.State.{State, instr_at, line_at, life_by, life_of, pops, operands, unwound, with_frames, thrown_to, returned, settled}
use Rattle.py_frames.specs.Steps.{guarded_row, site_of, step_at, step_by, step_row}

-- each answer of the row has the property
unfoldable pub Ends : {S A : Type 0} → (A → Type 0) → Row S A → Type 0
Ends p (Ret a) = p a
Ends p (Do c k) = (r : Reply c) → Ends p (k r)

pub ends_ret : (S : Type 0) {A : Type 0} (p : A → Type 0) (a : A) → p a → Ends {S = S} p (Ret a)
unfolding Ends
ends_ret S p a i = i

pub ends_bind : {S A B : Type 0} (p : B → Type 0) (row : Row S A) (f : A → Row S B) → ((a : A) → Ends p (f a)) →
    Ends p (bind row f)
unfolding bind Ends
ends_bind p (Ret a) f n = n a
ends_bind p (Do c k) f n = λ r. ends_bind p (k r) f n

pub ends_does : {S A : Type 0} (p : A → Type 0) (row : Row S A) (s : Sight S) (y : A) (t : Sight S) → Ends p row →
    Does row s y t → p y
unfolding Run Ends
ends_does p (Ret a) s y t e d = subst p (sym d.0) e
ends_does p (Do c k) s y t e d = ends_does p (k d.0) d.1 y t (e d.0) d.3

-- the outcome tells the life of the state
abbrev Tells : Outcome × State → Type 0
Tells z = LifeAfter z.0 (life_of z.1)

over : (d : Option Dying) → life_by d [] ≢ Lives
over None e = let q : HasEnded ≡ Lives = e in cc
over (Some x) e = let q : Failed ≡ Lives = e in cc

thrown_lives : (s : State) (x : Value) (line : ℕ) (f : Frame) (fs gs : List Frame) → s.frames ≡ f ∷ fs →
    life_of (thrown_to s x line gs) ≡ Lives
thrown_lives s x line f fs (g ∷ gs) e = refl
thrown_lives s x line f fs [] e = ap (life_by (Some (record { exc = x; line = line }))) e

returned_tells : (s : State) (x : Value) (fs : List Frame) → Tells (returned s x fs)
returned_tells s x [] = over s.dying
returned_tells s x (g ∷ fs) = refl

settled_tells : (p : Program) (s : State) (n : ℕ) (f : Frame) (fs : List Frame) (next : Next) → s.frames ≡ f ∷ fs →
    Tells (settled p s n f fs next)
unfolding settled
settled_tells p s n f fs (Goes ys) e = refl
settled_tells p s n f fs (Jumps t ys) e = refl
settled_tells p s n f fs (Stores i x) e = refl
settled_tells p s n f fs (Opens t) e = refl
settled_tells p s n f fs Closes e = refl
settled_tells p s n f fs (Enters g) e = refl
settled_tells p s n f fs (Leaves x) e = returned_tells s x fs
settled_tells p s n f fs (Fails x) e = thrown_lives s x (line_at p f) f fs (unwound x fs) e
settled_tells p s n f fs (Begins a) e = refl
settled_tells p s n f fs (Throws x) e = thrown_lives s x (line_at p f) f fs (unwound x (f ∷ fs)) e
settled_tells p s n f fs Waits e = tt

at_tells : (p : Program) (s : State) (f : Frame) (fs : List Frame) (o : Option Instr) → s.frames ≡ f ∷ fs →
    Ends Tells (step_at p s f fs o)
unfolding step_at
at_tells p s f fs (Some i) e =
    ends_bind Tells (guarded_row (site_of p s fs) f (operands (pops p f i) f) i)
    (λ next. Ret (settled p s (pops p f i) f fs next))
    (λ next. ends_ret State Tells (settled p s (pops p f i) f fs next) (settled_tells p s (pops p f i) f fs next e))
at_tells p s f fs None e = ends_ret State Tells (Ended, with_frames s []) (over s.dying)

by_tells : (p : Program) (s : State) (d : Option Dying) (fs : List Frame) → s.frames ≡ fs → life_by d fs ≡ Lives →
    Ends Tells (step_by p s d fs)
unfolding step_by
by_tells p s d [] e l = absurd (over d l)
by_tells p s (Some d) (f ∷ fs) e l = ends_bind Tells (dying_row (place_of s.roots) s.number s.thread d)
    (λ _. Ret (Ended, with_frames s [])) (λ u. ends_ret State Tells (Ended, with_frames s []) (over s.dying))
by_tells p s None (f ∷ fs) e l = at_tells p s f fs (instr_at p f) e

pub outcome_law : OutcomeLaw
unfolding step_row
outcome_law p s s1 x y o l d = ends_does Tells (step_row p s) x (o, s1) y (by_tells p s s.dying s.frames refl l) d
