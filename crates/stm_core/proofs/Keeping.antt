-- What a step over a segment's view keeps, whatever the world and whichever way it ends.
use Rattle.std.proofs.Common.{◌≡◌, ◌≤◌, ℕ, slice_get, refl, sym, ◌∙◌, ap, subst, inl, inr, arith, Result, Ok, Err, IfOk, IfErr, OnErr}
use Rattle.py_data.specs.declared.stop.Side.{Side}
use Rattle.py_data.specs.declared.stop.Stop.{Stop}
use Rattle.py_data.specs.Row.{Call, Reply, Row}
use Rattle.py_data.specs.Sense.{Stopped, Upto}
use Rattle.py_data.proofs.Whole.{upto_steps, stopped_at}
use Rattle.lock_run.specs.declared.client.Outcome.{Outcome}
use Rattle.lock_run.specs.Client.{Stepped, StepStopped}
use Rattle.lock_run.proofs.Following.{run_upto}
use Rattle.stm_segment.specs.Asking.{Changes}
use Rattle.stm_segment.specs.declared.halt.Halt.{Halt}
use Rattle.stm_segment.specs.Devices.{DeviceState, StopRose}
use Rattle.stm_segment.specs.inner.Halts.{stop_of, halt_for}
use Rattle.stm_segment.specs.inner.Hold.{Hold, Beside, SegRefuses, SegOpens, SegUndoes}
use Rattle.stm_segment.specs.inner.Outer.{OuterRefuses}
use Rattle.stm_segment.specs.inner.SegSense.{seg_sense, seg_bracket}
use Rattle.stm_core.proofs.Halting.{halt_given}
use Rattle.stm_core.proofs.Counting.{DevicesKept, kept_same, kept_then, does_keeps, refuses_keeps, refuses_rose, rose_after, rose_cut, StepLeaves, leaves_done, leaves_cut, flag_cut}
use Rattle.stm_core.proofs.Way.{call_beside, done_at}

-- ---- what a view holds

-- what a step of segment k leaves of store and books, but for what the segment sees and for dooms
pub record HoldKept {S : Type 0} (k : ℕ) (d e : Hold S) : Type 0 where
  pub image : e.meaning.image ≡ d.meaning.image
  pub segments : e.meaning.segments ≡ d.meaning.segments
  pub limit : e.meaning.limit ≡ d.meaning.limit
  pub reserved : d.reserved ≤ e.reserved
  pub hand : slice_get e.books.hands.items k ≡ slice_get d.books.hands.items k
  pub broken : e.books.broken ≡ d.books.broken

hold_then : {S : Type 0} (k : ℕ) (d e f : Hold S) → HoldKept k d e → HoldKept k e f → HoldKept k d f
hold_then k d e f a b = record {
  image = b.image ∙ a.image;
  segments = b.segments ∙ a.segments;
  limit = b.limit ∙ a.limit;
  reserved = let x = a.reserved in let y = b.reserved in omega (arith, x, y);
  hand = b.hand ∙ a.hand;
  broken = b.broken ∙ a.broken;
}

hold_beside : {S : Type 0} (P : ℕ → Type 0) (k : ℕ) (me : Side) (d e : Hold S) → Beside k me P d e → HoldKept k d e
hold_beside P k me d e h = record {
  image = h.image;
  segments = h.segments;
  limit = h.limit;
  reserved = h.reserved;
  hand = h.hand;
  broken = h.broken;
}

hold_opened : {S : Type 0} (k : ℕ) (d e : Hold S) → SegOpens k d e → HoldKept k d e
hold_opened {S} k d e h = record {
  image = ap (λ (z : Hold S). z.meaning.image) h;
  segments = ap (λ (z : Hold S). z.meaning.segments) h;
  limit = ap (λ (z : Hold S). z.meaning.limit) h;
  reserved = let a : e.reserved ≡ d.reserved = ap (λ (z : Hold S). z.reserved) h in omega (arith, a);
  hand = ap (λ (z : Hold S). slice_get z.books.hands.items k) h;
  broken = ap (λ (z : Hold S). z.books.broken) h;
}

hold_undone : {S : Type 0} (k : ℕ) (d e : Hold S) → SegUndoes k d e → HoldKept k d e
hold_undone {S} k d e h = record {
  image = ap (λ (z : Hold S). z.meaning.image) h;
  segments = ap (λ (z : Hold S). z.meaning.segments) h;
  limit = ap (λ (z : Hold S). z.meaning.limit) h;
  reserved = let a : e.reserved ≡ d.reserved = ap (λ (z : Hold S). z.reserved) h in omega (arith, a);
  hand = ap (λ (z : Hold S). slice_get z.books.hands.items k) h;
  broken = ap (λ (z : Hold S). z.books.broken) h;
}

-- ---- rows and steps

module _ {S X : Type 0} (hold : X → Hold S) (devices : X → DeviceState) (segment : X → ℕ) (me : X → Side)
    (same : X → X → Type 0) (same_refl : (v : X) → same v v) (same_then : (u v w : X) → same u v → same v w → same u w)
    (k : ℕ) (s : Side) where
  -- what calls of segment k keep, which acts for the side s
  pub record Kept (v w : X) : Type 0 where
    pub segment_is : segment w ≡ k
    pub me_is : me w ≡ s
    pub same_is : same v w
    pub holds : HoldKept k (hold v) (hold w)
    pub tells : DevicesKept s.solo (devices v) (devices w)

  abbrev Keeps : X → X → Type 0
  Keeps v w = segment v ≡ k → me v ≡ s → Kept v w

  keeps_none : (v : X) → Keeps v v
  keeps_none v ek es = record {
    segment_is = ek;
    me_is = es;
    same_is = same_refl v;
    holds = record { image = refl; segments = refl; limit = refl; reserved = omega arith; hand = refl; broken = refl };
    tells = kept_same s.solo (devices v) (devices v) refl;
  }

  keeps_join : (v m w : X) → Keeps v m → Keeps m w → Keeps v w
  keeps_join v m w f g ek es =
      let a = f ek es in
      let b = g a.segment_is a.me_is in
      record {
        segment_is = b.segment_is;
        me_is = b.me_is;
        same_is = same_then v m w a.same_is b.same_is;
        holds = hold_then k (hold v) (hold m) (hold w) a.holds b.holds;
        tells = kept_then s.solo (devices v) (devices m) (devices w) a.tells b.tells;
      }

  call_keeps : (c : Call S) (v : X) (r : Reply c) (w : X) → (seg_sense hold devices segment me same).does c v r w →
      Keeps v w
  call_keeps c v r w d ek es =
      let done = done_at hold devices segment me same k s c v r w ek es d in
      record {
        segment_is = d.2.segment_is ∙ ek;
        me_is = d.2.me_is ∙ es;
        same_is = d.2.same_is;
        holds = hold_beside (λ a. Changes a c) k s (hold v) (hold w) (call_beside k s c (hold v) r (hold w) done.0);
        tells = does_keeps s c (devices v) r (devices w) done.1;
      }

  -- a call that was refused, of this segment and side
  pub refused_at : (c : Call S) (v : X) (e : Stop) (w : X) → segment v ≡ k → me v ≡ s →
      (seg_sense hold devices segment me same).refuses c v e w →
      SegRefuses k s c (hold v) (hold w).last.halt (hold w) × OuterRefuses s c e (devices v) (devices w) ×
      (e ≡ stop_of (hold w).last.halt)
  refused_at c v e w ek es d = (
    subst (λ i. SegRefuses i s c (hold v) (hold w).last.halt (hold w)) ek
        (subst (λ z. SegRefuses (segment v) z c (hold v) (hold w).last.halt (hold w)) es d.0),
    subst (λ z. OuterRefuses z c e (devices v) (devices w)) es d.1,
    d.4,
  )

  refused_keeps : (c : Call S) (v : X) (e : Stop) (w : X) → (seg_sense hold devices segment me same).refuses c v e w →
      Keeps v w
  refused_keeps c v e w d ek es =
      let h = refused_at c v e w ek es d in
      record {
        segment_is = d.2.segment_is ∙ ek;
        me_is = d.2.me_is ∙ es;
        same_is = d.2.same_is;
        holds = hold_beside (λ a. Changes a c) k s (hold v) (hold w) h.0.beside;
        tells = refuses_keeps s c e (devices v) (devices w) h.1;
      }

  -- a row that was begun
  pub upto_keeps : {A : Type 0} (row : Row S A) (v : X) (left : Row S A) (m : X) →
      Upto (seg_sense hold devices segment me same) row v left m → segment v ≡ k → me v ≡ s → Kept v m
  upto_keeps row v left m h = upto_steps (seg_sense hold devices segment me same) Keeps keeps_none keeps_join
      call_keeps row v left m h

  -- a row that was stopped
  pub stop_keeps : {A : Type 0} (row : Row S A) (v : X) (e : Stop) (w : X) →
      Stopped (seg_sense hold devices segment me same) row v e w → segment v ≡ k → me v ≡ s →
      Kept v w × StopRose (halt_for e (hold w).last.halt) (devices v) (devices w)
  stop_keeps row v e w h ek es =
      let u = seg_sense hold devices segment me same in
      let a = stopped_at u row v e w h in
      let b = upto_keeps row v a.left a.place a.upto ek es in
      elim a.why [
        | inl x ↦ (
          subst (Kept v) (sym x.1) b,
          subst (λ z. StopRose (halt_for z (hold w).last.halt) (devices v) (devices w)) (sym x.0) tt,
        )
        | inr x ↦
            let r = refused_at x.0 a.place e w b.segment_is b.me_is x.3 in
            let halt : Halt = (hold w).last.halt in (
              keeps_join v a.place w (λ p q. b) (refused_keeps x.0 a.place e w x.3) ek es,
              subst (λ z. StopRose z (devices v) (devices w)) (sym (halt_given e halt r.2))
                  (rose_after halt (devices v) (devices a.place) (devices w) b.tells.counts
                  (refuses_rose k s x.0 halt (devices a.place) (devices w) _ (hold w) r.0.why
                  (subst (λ z. OuterRefuses s x.0 z (devices a.place) (devices w)) r.2 r.1))),
            )
      ]

  -- what a step keeps, from the view v on, which holds d and whose devices tell p
  pub record StepKept (v : X) (d : Hold S) (p : DeviceState) (u : X) (r : Result Outcome Stop) : Type 0 where
    pub segment_is : segment u ≡ k
    pub me_is : me u ≡ s
    pub same_is : same v u
    pub holds : HoldKept k d (hold u)
    pub leaves : StepLeaves s.solo p (devices u)
    pub flag : OnErr r ((devices u).mid ≡ p.mid)
    pub rose : IfErr r (λ e. StopRose (halt_for e (hold u).last.halt) p (devices u))

  step_kept : (row : Row S (Outcome × S)) (v : X) (r : Result Outcome Stop) (q : S) (u : X) → segment v ≡ k → me v ≡ s
      → IfOk r (λ o. Stepped (seg_sense hold devices segment me same) (seg_bracket hold devices segment me same) row v
      o q u)
      → IfErr r (λ e. StepStopped (seg_sense hold devices segment me same) (seg_bracket hold devices segment me same)
      row v e u) → StepKept v (hold v) (devices v) u r
  step_kept row v (Ok o) q u ek es ok err =
      let v1 = ok.0 in
      let op : SegOpens k (hold v) (hold v1) = subst (λ i. SegOpens i (hold v) (hold v1)) ek ok.1.0 in
      let b = upto_keeps row v1 _ u (run_upto (seg_sense hold devices segment me same) row v1 (o, q) u ok.2)
      (ok.1.2.segment_is ∙ ek) (ok.1.2.me_is ∙ es) in
      record {
        segment_is = b.segment_is;
        me_is = b.me_is;
        same_is = same_then v v1 u ok.1.2.same_is b.same_is;
        holds = hold_then k (hold v) (hold v1) (hold u) (hold_opened k (hold v) (hold v1) op) b.holds;
        leaves = leaves_done s.solo (devices v) (devices v1) (devices u) ok.1.1 b.tells;
        flag = tt;
        rose = tt;
      }
  step_kept row v (Err e) q u ek es ok err =
      let v1 = err.0 in
      let u1 = err.1 in
      let op : SegOpens k (hold v) (hold v1) = subst (λ i. SegOpens i (hold v) (hold v1)) ek err.2.0 in
      let b = stop_keeps row v1 e u1 err.3 (err.2.2.segment_is ∙ ek) (err.2.2.me_is ∙ es) in
      let un : SegUndoes k (hold u1) (hold u) = subst (λ i. SegUndoes i (hold u1) (hold u)) b.0.segment_is err.4.0 in
      record {
        segment_is = err.4.2.segment_is ∙ b.0.segment_is;
        me_is = err.4.2.me_is ∙ b.0.me_is;
        same_is = same_then v v1 u err.2.2.same_is (same_then v1 u1 u b.0.same_is err.4.2.same_is);
        holds = hold_then k (hold v) (hold v1) (hold u) (hold_opened k (hold v) (hold v1) op)
            (hold_then k (hold v1) (hold u1) (hold u) b.0.holds (hold_undone k (hold u1) (hold u) un));
        leaves = leaves_cut s.solo (devices v) (devices v1) (devices u1) (devices u) err.2.1 b.0.tells err.4.1;
        flag = flag_cut s.solo (devices v) (devices v1) (devices u1) (devices u) err.2.1 b.0.tells err.4.1;
        rose = subst (λ (z : Hold S). StopRose (halt_for e z.last.halt) (devices v) (devices u)) (sym un)
            (rose_cut (halt_for e (hold u1).last.halt) (devices v) (devices v1) (devices u1) (devices u) err.2.1 b.1
            err.4.1);
      }

  pub step_keeps : (row : Row S (Outcome × S)) (v : X) (d : Hold S) (p : DeviceState) (r : Result Outcome Stop) (q : S)
      (u : X) → hold v ≡ d → devices v ≡ p → segment v ≡ k → me v ≡ s
      → IfOk r (λ o. Stepped (seg_sense hold devices segment me same) (seg_bracket hold devices segment me same) row v
      o q u)
      → IfErr r (λ e. StepStopped (seg_sense hold devices segment me same) (seg_bracket hold devices segment me same)
      row v e u) → StepKept v d p u r
  step_keeps row v d p r q u ev pv ek es ok err =
      subst (λ z. StepKept v z p u r) ev
      (subst (λ z. StepKept v (hold v) z u r) pv (step_kept row v r q u ek es ok err))
