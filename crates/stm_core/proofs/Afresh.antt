-- What a row does up to a place doesn't depend on the bookkeeping that it began with.
use Rattle.std.proofs.Common.{◌≡◌, ℕ, refl, sym, ◌∙◌, ap, subst}
use Rattle.py_data.specs.Changes.{after}
use Rattle.py_data.specs.Heap.{Heap, put_at}
use Rattle.py_data.specs.Shape.{Fits, find}
use Rattle.py_data.specs.World.{World, wrote, took, IsLine}
use Rattle.py_data.specs.Sense.{Run, Upto}
use Rattle.py_data.specs.Row.{Call, Reply, Row, Ret, Do, Read, Find, Edit, Make, Start, Put, Take, MidLine, SetMidLine}
use Rattle.py_data.specs.Sight.{Sight, Act, Does, pure, opened, looked_at, edited, made_new, started_one, in_world}
use Rattle.py_data.proofs.Mirror.{does_afresh}
use Rattle.py_data.proofs.Whole.{upto_follows}
use Rattle.lock_run.specs.declared.client.Outcome.{Outcome}
use Rattle.lock_run.specs.declared.client.Outcome.TheVariants.{Waits as WaitsNow}
use Rattle.stm_segment.specs.Asking.{Reaches, CallWants, AsksToChange, AsksOutside, AsksRoom}

-- another sight of the same heap and the same world
abbrev Same : {S : Type 0} → Sight S → Sight S → Type 0
Same s t = (t.heap ≡ s.heap) × (t.world ≡ s.world)

-- each call is done there too
act_same : {S : Type 0} (c : Call S) (v : Sight S) (r : Reply c) (w s : Sight S) → Act c v r w → Same v s →
    (t : Sight S) × Act c s r t × Same w t
act_same {S} (Read a) v r w s h e = (
  looked_at a r s,
  (ap (λ (z : Heap). z a) e.0 ∙ h.0, refl),
  (e.0 ∙ sym (ap (λ (z : Sight S). z.heap) h.1), e.1 ∙ sym (ap (λ (z : Sight S). z.world) h.1)),
)
act_same {S} (Find d key) v r w s h e = (
  looked_at d h.0 s,
  (
    h.0,
    ap (λ (z : Heap). z d) e.0 ∙ h.1,
    subst (λ z. Fits z h.0 key) (sym e.0) h.2,
    h.3 ∙
        ap (λ z. find z h.0.values key) (sym e.0),
    refl,
  ),
  (e.0 ∙ sym (ap (λ (z : Sight S). z.heap) h.4), e.1 ∙ sym (ap (λ (z : Sight S). z.world) h.4)),
)
act_same {S} (Edit a x) v r w s h e = (
  edited a (after x h.0) s,
  (h.0, ap (λ (z : Heap). z a) e.0 ∙ h.1, h.2, refl),
  (
    ap (λ z. put_at z a (after x h.0)) e.0 ∙ sym (ap (λ (z : Sight S). z.heap) h.3),
    e.1 ∙
        sym (ap (λ (z : Sight S). z.world) h.3),
  ),
)
act_same {S} (Make q) v r w s h e = (
  made_new r q s,
  (ap (λ (z : Heap). z r) e.0 ∙ h.0, refl),
  (
    ap (λ z. put_at z r q) e.0 ∙ sym (ap (λ (z : Sight S). z.heap) h.1),
    e.1 ∙
        sym (ap (λ (z : Sight S). z.world) h.1),
  ),
)
act_same {S} (Start q) v r w s h e = (
  started_one q s,
  refl,
  (e.0 ∙ sym (ap (λ (z : Sight S). z.heap) h), e.1 ∙ sym (ap (λ (z : Sight S). z.world) h)),
)
act_same {S} (Put on bytes) v r w s h e = (
  in_world (wrote on bytes s.world) s,
  refl,
  (e.0 ∙ sym (ap (λ (z : Sight S). z.heap) h), ap (wrote on bytes) e.1 ∙ sym (ap (λ (z : Sight S). z.world) h)),
)
act_same {S} (Take most) v r w s h e = (
  in_world (took r s.world) s,
  (subst (λ (z : World). IsLine z.input most r) (sym e.1) h.0, refl),
  (e.0 ∙ sym (ap (λ (z : Sight S). z.heap) h.1), ap (took r) e.1 ∙ sym (ap (λ (z : Sight S). z.world) h.1)),
)
act_same {S} MidLine v r w s h e = (
  in_world s.world s,
  (h.0 ∙ ap (λ (z : World). z.mid) (sym e.1), refl),
  (e.0 ∙ sym (ap (λ (z : Sight S). z.heap) h.1), e.1 ∙ sym (ap (λ (z : Sight S). z.world) h.1)),
)
act_same {S} (SetMidLine b) v r w s h e = (
  in_world (record s.world { mid = b }) s,
  refl,
  (
    e.0 ∙ sym (ap (λ (z : Sight S). z.heap) h),
    ap (λ (z : World). record z { mid = b }) e.1 ∙
        sym (ap (λ (z : Sight S). z.world) h),
  ),
)

-- a kind of calls that the bookkeeping doesn't matter to
abbrev pub IsOfHeap : {S : Type 0} → (Call S → Sight S → Type 0) → Type 0
IsOfHeap {S} kind = (c : Call S) (v w : Sight S) → w.heap ≡ v.heap → kind c v → kind c w

-- a row comes to a call of such a kind whatever the bookkeeping
pub reaches_afresh : {S A : Type 0} (row : Row S A) (s t : Sight S) (kind : Call S → Sight S → Type 0) →
    IsOfHeap kind → t.heap ≡ s.heap → t.world ≡ s.world → Reaches row s kind → Reaches row t kind
reaches_afresh {S} row s t kind law eh ew m =
    let u = upto_follows pure pure Same (record { call = act_same }) row s (Do m.call m.next) m.place t m.upto (eh, ew)
    in
    record { call = m.call; next = m.next; place = u.0; upto = u.1; is = law m.call m.place u.0 u.2.0 m.is }

pub change_of_heap : {S : Type 0} (a : ℕ) → IsOfHeap {S = S} (AsksToChange a)
change_of_heap a c v w e h = h

pub outside_of_heap : {S : Type 0} → IsOfHeap {S = S} AsksOutside
outside_of_heap c v w e h = h

pub room_of_heap : {S : Type 0} (n : ℕ) → IsOfHeap {S = S} (AsksRoom n)
room_of_heap n c v w e h = subst (λ z. CallWants c z n) (sym e) h

-- and one that waits waits
pub waits_afresh : {S : Type 0} (row : Row S (Outcome × S)) (s t : Sight S) (h : Heap) (w : World) (q : S) →
    s.heap ≡ h → s.world ≡ w → Does row s (WaitsNow, q) t →
    (p : S) × (z : Sight S) × Does row (opened S h w) (WaitsNow, p) z
waits_afresh {S} row s t h w q eh ew d =
    let a = does_afresh row s t (WaitsNow, q) d in (
      q,
      a.0,
      subst (λ z. Does row (opened S h z) (WaitsNow, q) a.0) ew
          (subst (λ z. Does row (opened S z s.world) (WaitsNow, q) a.0) eh a.1.does),
    )

-- a row comes to the same rest of it in the same world, whatever the bookkeeping
pub upto_afresh : {S A : Type 0} (row left : Row S A) (s t place : Sight S) → t.heap ≡ s.heap → t.world ≡ s.world →
    Upto pure row s left place → (z : Sight S) × Upto pure row t left z × (z.world ≡ place.world)
upto_afresh row left s t place eh ew u =
    let r = upto_follows pure pure Same (record { call = act_same }) row s left place t u (eh, ew) in
    (r.0, r.1, r.2.1)

-- a row does the same in the same heap and world, whatever the bookkeeping
pub does_same : {S A : Type 0} (row : Row S A) (v s w : Sight S) (y : A) → Does row v y w → s.heap ≡ v.heap →
    s.world ≡ v.world → (t : Sight S) × Does row s y t
unfolding Run
does_same (Ret x) v s w y d eh ew = (s, (d.0, refl))
does_same (Do c k) v s w y d eh ew =
    let a = act_same c v d.0 d.1 s d.2 (eh, ew) in
    let z = does_same (k d.0) d.1 a.0 w y d.3 a.2.0 a.2.1 in
    (z.0, (d.0, a.0, a.1, z.1))
