-- What changes of the innermost frame come to together.
use Rattle.std.proofs.Common.{arith, ◌≡◌, ◌≢◌, ℕ, suc, ◌+◌, ◌-◌, ◌≤◌, true, List, [], ◌∷◌, ◌++◌, length, take, drop, Option, Some, None, refl, sym, ap, ◌∙◌, slice_get}
use Rattle.std.proofs.lemmas.List.{append_assoc, take_all, drop-drop}
use Rattle.py_data.specs.declared.value.Value.{Value}
use Rattle.py_frames.specs.declared.state.Block.{Block}
use Rattle.py_frames.specs.declared.state.Frame.{Frame}
use Rattle.py_frames.specs.State.{advanced, closed, handled, pushed, unwound, unwound_by}
use Rattle.py_states.specs.Innermost.{innermost}
use Rattle.py_states.specs.inner.Changes.{on_top, restacked, placed, caught, caught_by, catching, catching_by, IsThrown}

-- other values in the place of the operands, at another place
pub go_on_is : (n k place : ℕ) (ys : List Value) (fs : List Frame) → (let f = innermost fs in k ≡ length f.stack - n)
    → on_top (placed place) (on_top (restacked k ys) fs) ≡ on_top (advanced n ys place) fs
go_on_is n k place ys [] e = refl
go_on_is n k place ys (f ∷ fs) e = ap (λ m. placed place (restacked m ys f) ∷ fs) e

-- one value more
pub pushed_is : (k : ℕ) (x : Value) (fs : List Frame) → (let f = innermost fs in k ≡ length f.stack) →
    on_top (restacked k (x ∷ [])) fs ≡ on_top (pushed x) fs
pushed_is k x [] e = refl
pushed_is k x (f ∷ fs) e =
    let whole : take k f.stack ≡ f.stack = take_all k f.stack (omega (arith, e)) in
    let with : List Value → List Frame = λ vs. record f { stack = vs ++ x ∷ [] } ∷ fs in
    ap with whole

-- two values
pub both_is : (n place : ℕ) (x y : Value) (fs : List Frame) →
    on_top (pushed y) (on_top (advanced n (x ∷ []) place) fs) ≡ on_top (advanced n (x ∷ y ∷ []) place) fs
both_is n place x y [] = refl
both_is n place x y (f ∷ fs) =
    let below : List Value = take (length f.stack - n) f.stack in
    let whole : (below ++ x ∷ []) ++ y ∷ [] ≡ below ++ x ∷ y ∷ [] = simp append_assoc in
    let with : List Value → List Frame = λ vs. record f { pc = place; stack = vs } ∷ fs in
    ap with whole

-- ---- an exception is taken

caught_one : (x : Value) (f : Frame) (b : Block) (bs : List Block) → slice_get bs 0 ≡ Some b → f.blocks ≡ bs →
    placed b.handler (closed (restacked b.height (x ∷ []) f)) ≡ caught x f
caught_one x f b [] e q = absurd (cc)
caught_one x f b (c ∷ bs) e q =
    let same : b ≡ c = cc in
    let front : caught x f ≡ handled x f c bs = ap (caught_by x f) q in
    let rest : drop 1 f.blocks ≡ bs = ap (drop 1) q in
    let make : Block → List Block → Frame = λ z zs. handled x f z zs in
    (λ i. make (same i) (rest i)) ∙ sym front

pub caught_is : (x : Value) (b : Block) (fs : List Frame) → (let f = innermost fs in slice_get f.blocks 0 ≡ Some b)
    → on_top (placed b.handler) (on_top closed (on_top (restacked b.height (x ∷ [])) fs)) ≡ on_top (caught x) fs
caught_is x b [] e = refl
caught_is x b (f ∷ fs) e = ap (λ g. g ∷ fs) (caught_one x f b f.blocks e refl)

uncaught_one : (x : Value) (f : Frame) (bs : List Block) → slice_get bs 0 ≡ None → f ≡ caught_by x f bs
uncaught_one x f [] e = refl
uncaught_one x f (b ∷ bs) e = absurd (cc)

pub uncaught_is : (x : Value) (fs : List Frame) → (let f = innermost fs in slice_get f.blocks 0 ≡ None) →
    fs ≡ on_top (caught x) fs
uncaught_is x [] e = refl
uncaught_is x (f ∷ fs) e = ap (λ g. g ∷ fs) (uncaught_one x f f.blocks e)

-- ---- an exception goes out of frames that have no open block

none_by : (x : Value) (f : Frame) (fs us : List Frame) (i : ℕ) (bs : List Block) (r : Option ℕ) →
    catching_by i bs r ≡ None → (r ≡ None → us ≡ []) → unwound_by x f fs bs us ≡ []
none_by x f fs us i [] r e go = go e
none_by x f fs us i (b ∷ bs) r e go = absurd (cc)

unwound_none : (x : Value) (i : ℕ) (fs : List Frame) → catching i fs ≡ None → unwound x fs ≡ []
unwound_none x i [] e = refl
unwound_none x i (f ∷ fs) e = none_by x f fs (unwound x fs) i f.blocks (catching (i + 1) fs) e
    (λ q. unwound_none x (i + 1) fs q)

-- the frames us are these, of which the one at place p takes the exception, counted from i on
record Takes (x : Value) (i p : ℕ) (fs us : List Frame) : Type 0 where
  far : i ≤ p
  frames : us ≡ on_top (caught x) (drop (p - i) fs)
  some : us ≢ []

takes_by : (x : Value) (f : Frame) (fs us : List Frame) (i p : ℕ) (bs : List Block) (r : Option ℕ) → f.blocks ≡ bs →
    catching_by i bs r ≡ Some p
    → (r ≡ Some p → Takes x (i + 1) p fs us) → Takes x i p (f ∷ fs) (unwound_by x f fs bs us)
takes_by x f fs us i p [] r q e go =
    let t = go e in
    let l = t.far in
    let further : p - i ≡ suc (p - (i + 1)) = omega (arith, l) in
    record {
      far = omega (arith, l);
      frames = t.frames ∙ sym (ap (λ k. on_top (caught x) (drop k (f ∷ fs))) further);
      some = t.some;
    }
takes_by x f fs us i p (b ∷ bs) r q e go =
    let same : i ≡ p = cc in
    let here : p - i ≡ 0 = omega (arith, same) in
    record {
      far = omega (arith, same);
      frames = sym (ap (λ k. on_top (caught x) (drop k (f ∷ fs))) here ∙ ap (λ z. caught_by x f z ∷ fs) q);
      some = λ z. (cc);
    }

unwound_some : (x : Value) (i p : ℕ) (fs : List Frame) → catching i fs ≡ Some p → Takes x i p fs (unwound x fs)
unwound_some x i p [] e = absurd (cc)
unwound_some x i p (f ∷ fs) e = takes_by x f fs (unwound x fs) i p f.blocks (catching (i + 1) fs) refl e
    (λ q. unwound_some x (i + 1) p fs q)

pub thrown_none : (x : Value) (k : ℕ) (old : List Frame) → None ≡ catching k (drop k old) → unwound x (drop k old) ≡ []
thrown_none x k old e = unwound_none x k (drop k old) (sym e)

pub thrown_some : (x : Value) (k p : ℕ) (old new : List Frame) → Some p ≡ catching k (drop k old) →
    new ≡ on_top (caught x) (drop p old) → IsThrown (unwound x (drop k old)) old new true
thrown_some x k p old new e q =
    let t = unwound_some x k p (drop k old) (sym e) in
    let l = t.far in
    let far : k + (p - k) ≡ p = omega (arith, l) in
    (t.some, q ∙ sym (t.frames ∙ ap (on_top (caught x)) (drop-drop (p - k) k old ∙ ap (λ z. drop z old) far)))
