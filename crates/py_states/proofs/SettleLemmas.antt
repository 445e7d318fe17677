-- What each end of an instruction comes to, where there is a frame.
use Rattle.std.proofs.Common.{arith, ◌≡◌, ℕ, ◌+◌, ◌-◌, ◌<◌, List, [], ◌∷◌, length, drop, get_or, Some, Bool, Result, Ok, Err, IfOk, refl, sym, ap, subst, ◌∙◌}
use Rattle.std.specs.Prelude.{is_ok, OnErr}
use Rattle.py_data.specs.declared.value.Addr.{Addr}
use Rattle.py_data.specs.declared.value.Value.{Value}
use Rattle.py_code.specs.declared.program.Program.{Program}
use Rattle.lock_run.specs.declared.client.Outcome.{Outcome}
use Rattle.lock_run.specs.declared.client.Outcome.TheVariants.{Done, Waits as WaitsNow}
use Rattle.py_frames.specs.declared.state.Frame.{Frame}
use Rattle.py_frames.specs.declared.next.Next.{Next}
use Rattle.py_frames.specs.declared.next.Next.TheVariants.{Goes, Jumps, Stores, Opens, Closes, Enters, Leaves, Fails, Begins, Throws, Waits}
use Rattle.py_frames.specs.State.{State, advanced, closed, code_at, line_at, opened, passed, returned, settled, stored, thrown_to, unwound, with_frames}
use Rattle.py_states.specs.Innermost.{innermost, settled_in, Follows, Settles}
use Rattle.py_states.specs.inner.Changes.{on_top}

-- an end that is the same one
pub ended : {E : Type 0} (a b : Outcome × State) (r : Result Outcome E) (t : State) → IfOk r (λ o. Settles a o t) →
    a ≡ b → IfOk r (λ o. Settles b o t)
ended a b (Ok o) t i e = i ∙ e
ended a b (Err z) t i e = tt

-- what a state that has a frame comes to
abbrev Ends : Program → State → ℕ → Next → List Frame → Outcome × State → Type 0
Ends p s n next fs x = x ≡ settled_in p s n next fs

pub goes_is : (p : Program) (s : State) (n : ℕ) (next : Next) (zs ys : List Value) (fs : List Frame) → next ≡ Goes ys →
    zs ≡ ys → 0 < length fs
    → Ends p s n next fs (Done, with_frames s (on_top (λ f. advanced n zs (f.pc + 1) f) fs))
unfolding settled
goes_is p s n next zs ys [] e q l = absurd (omega (arith, l))
goes_is p s n next zs ys (f ∷ fs) e q l =
    let make : List Value → Outcome × State = λ us. (Done, with_frames s (advanced n us (f.pc + 1) f ∷ fs)) in
    ap make q ∙ sym (ap (settled p s n f fs) e)

pub jumps_is : (p : Program) (s : State) (n t : ℕ) (next : Next) (zs ys : List Value) (fs : List Frame) →
    next ≡ Jumps t ys → zs ≡ ys → 0 < length fs
    → Ends p s n next fs (Done, with_frames s (on_top (advanced n zs t) fs))
unfolding settled
jumps_is p s n t next zs ys [] e q l = absurd (omega (arith, l))
jumps_is p s n t next zs ys (f ∷ fs) e q l =
    let make : List Value → Outcome × State = λ us. (Done, with_frames s (advanced n us t f ∷ fs)) in
    ap make q ∙ sym (ap (settled p s n f fs) e)

pub stores_is : (p : Program) (s : State) (n i : ℕ) (next : Next) (x : Value) (fs : List Frame) → next ≡ Stores i x →
    0 < length fs
    → Ends p s n next fs (Done, with_frames s (on_top (λ f. stored i x (passed n f)) fs))
unfolding settled
stores_is p s n i next x [] e l = absurd (omega (arith, l))
stores_is p s n i next x (f ∷ fs) e l = sym (ap (settled p s n f fs) e)

pub opens_is : (p : Program) (s : State) (n t : ℕ) (next : Next) (fs : List Frame) → next ≡ Opens t → 0 < length fs
    → Ends p s n next fs (Done, with_frames s (on_top (λ f. opened t (length f.stack - n) (passed n f)) fs))
unfolding settled
opens_is p s n t next [] e l = absurd (omega (arith, l))
opens_is p s n t next (f ∷ fs) e l = sym (ap (settled p s n f fs) e)

pub closes_is : (p : Program) (s : State) (n : ℕ) (next : Next) (fs : List Frame) → next ≡ Closes → 0 < length fs
    → Ends p s n next fs (Done, with_frames s (on_top (λ f. closed (passed n f)) fs))
unfolding settled
closes_is p s n next [] e l = absurd (omega (arith, l))
closes_is p s n next (f ∷ fs) e l = sym (ap (settled p s n f fs) e)

pub enters_is : (p : Program) (s : State) (n : ℕ) (next : Next) (h g : Frame) (fs : List Frame) → next ≡ Enters g →
    h ≡ g → 0 < length fs
    → Ends p s n next fs (Done, with_frames s (h ∷ on_top (passed n) fs))
unfolding settled
enters_is p s n next h g [] e q l = absurd (omega (arith, l))
enters_is p s n next h g (f ∷ fs) e q l =
    let make : Frame → Outcome × State = λ z. (Done, with_frames s (z ∷ passed n f ∷ fs)) in
    ap make q ∙ sym (ap (settled p s n f fs) e)

pub leaves_is : (p : Program) (s : State) (n : ℕ) (next : Next) (x : Value) (fs : List Frame) → next ≡ Leaves x →
    0 < length fs
    → Ends p s n next fs (returned s x (drop 1 fs))
unfolding settled
leaves_is p s n next x [] e l = absurd (omega (arith, l))
leaves_is p s n next x (f ∷ fs) e l = sym (ap (settled p s n f fs) e)

pub begins_is : (p : Program) (s : State) (n : ℕ) (next : Next) (a : Addr) (fs : List Frame) → next ≡ Begins a →
    0 < length fs
    → Ends p s n next fs (Done, record (with_frames s (on_top (passed n) fs)) { roots = Some a })
unfolding settled
begins_is p s n next a [] e l = absurd (omega (arith, l))
begins_is p s n next a (f ∷ fs) e l = sym (ap (settled p s n f fs) e)

-- the line of the innermost frame's instruction
pub lined : (p : Program) (line code pc : ℕ) (f : Frame) → (let c = code_at p code in line ≡ get_or c.lines pc 0) →
    code ≡ f.code → pc ≡ f.pc → line ≡ line_at p f
lined p line code pc f e q r =
    let at : ℕ → ℕ → ℕ = λ i j. let c = code_at p i in get_or c.lines j 0 in
    e ∙ (λ i. at (q i) (r i))

-- an exception that is raised at this line
pub thrown_at : {E : Type 0} (s t : State) (x : Value) (line other : ℕ) (gs : List Frame) (r : Result Outcome E) →
    IfOk r (λ o. Settles (Done, thrown_to s x line gs) o t) → line ≡ other →
    IfOk r (λ o. Settles (Done, thrown_to s x other gs) o t)
thrown_at s t x line other gs r h e = subst (λ k. IfOk r (λ o. Settles (Done, thrown_to s x k gs) o t)) e h

pub fails_is : (p : Program) (s : State) (n : ℕ) (next : Next) (x : Value) (fs : List Frame) → next ≡ Fails x →
    0 < length fs → Ends p s n next fs (Done, thrown_to s x (line_at p (innermost fs)) (unwound x (drop 1 fs)))
unfolding settled
fails_is p s n next x [] e l = absurd (omega (arith, l))
fails_is p s n next x (f ∷ fs) e l = sym (ap (settled p s n f fs) e)

pub throws_is : (p : Program) (s : State) (n : ℕ) (next : Next) (x : Value) (fs : List Frame) → next ≡ Throws x →
    0 < length fs → Ends p s n next fs (Done, thrown_to s x (line_at p (innermost fs)) (unwound x (drop 0 fs)))
unfolding settled
throws_is p s n next x [] e l = absurd (omega (arith, l))
throws_is p s n next x (f ∷ fs) e l = sym (ap (settled p s n f fs) e)

pub waits_is : (p : Program) (s t : State) (n : ℕ) (next : Next) (fs : List Frame) → next ≡ Waits → t ≡ s →
    0 < length fs → Settles (settled_in p s n next fs) WaitsNow t
unfolding settled
waits_is p s t n next [] e q l = absurd (omega (arith, l))
waits_is p s t n next (f ∷ fs) e q l =
    let make : State → Outcome × State = λ z. (WaitsNow, z) in
    ap make q ∙ sym (ap (settled p s n f fs) e)

-- what has values on its stack is a frame
pub stacked : (m : ℕ) (fs : List Frame) → (let f = innermost fs in m < length f.stack) → 0 < length fs
stacked m [] l = absurd (omega (arith, l))
stacked m (f ∷ fs) l = omega arith

-- a step of which is told alone that the thread lives on
pub followed : {E : Type 0} (s t : State) (n : ℕ) (next : Next) (x : Outcome × State) (r : Result Outcome E)
    (b : Bool) → b ≡ is_ok r → IfOk r (λ o. Settles x o t) → OnErr r (t ≡ s) → x.0 ≡ Done →
    ((p : Program) → Ends p s n next s.frames x) → Follows s n next b t
followed s t n next x (Ok o) b e i j d h =
    let make : Outcome → Outcome × State = λ q. (q, t) in
    subst (λ b. Follows s n next b t) (sym e)
    (λ p. ap make (sym (ap (λ (z : Outcome × State). z.0) i ∙ d)) ∙ (i ∙ h p))
followed s t n next x (Err z) b e i j d h = subst (λ b. Follows s n next b t) (sym e) j

-- behind a return to a frame the thread lives on
pub stays : (s : State) (x : Value) (fs : List Frame) → 1 < length fs → (returned s x (drop 1 fs)).0 ≡ Done
stays s x [] l = absurd (omega (arith, l))
stays s x (f ∷ []) l = absurd (omega (arith, l))
stays s x (f ∷ g ∷ fs) l = refl
