-- From calls to rows: what holds of each call holds of a row, and a row over one view is one over another that shows
-- the same.
use Rattle.std.proofs.Common.{refl, sym, subst, inl, inr}
use Rattle.py_data.specs.declared.stop.Stop.{Stop}
use Rattle.py_data.specs.Row.{Call, Reply, Row, Ret, Do}
use Rattle.py_data.specs.Sense.{Sense, Run, Stopped, Upto}
use Rattle.py_data.specs.Laws.{StoppedAt}

module _ {S X A : Type 0} (u : Sense S X) (P : X → X → Type 0) (none : (v : X) → P v v)
    (join : (v m w : X) → P v m → P m w → P v w) where
  pub run_steps : ((c : Call S) (v : X) (r : Reply c) (w : X) → u.does c v r w → P v w) →
      (row : Row S A) (v : X) (b : A) (w : X) → Run u row v b w → P v w
  unfolding Run
  run_steps call (Ret a) v b w h = subst (P v) (sym h.1) (none v)
  run_steps call (Do c k) v b w h = join v h.1 w (call c v h.0 h.1 h.2) (run_steps call (k h.0) h.1 b w h.3)

  pub upto_steps : ((c : Call S) (v : X) (r : Reply c) (w : X) → u.does c v r w → P v w) →
      (row : Row S A) (v : X) (q : Row S A) (w : X) → Upto u row v q w → P v w
  unfolding Upto
  upto_steps call (Ret a) v q w h = subst (P v) (sym h.1) (none v)
  upto_steps call (Do c k) v q w h = elim h [
    | inl e ↦ subst (P v) (sym e.1) (none v)
    | inr d ↦ join v d.1 w (call c v d.0 d.1 d.2) (upto_steps call (k d.0) d.1 q w d.3)
  ]

-- A relation between two views that each call keeps is kept by each row.
pub record Follows {S X Y : Type 0} (u : Sense S X) (z : Sense S Y) (R : X → Y → Type 0) : Type 0 where
  pub call : (c : Call S) (v : X) (r : Reply c) (w : X) (s : Y) → u.does c v r w → R v s →
      (t : Y) × z.does c s r t × R w t

module _ {S X Y A : Type 0} (u : Sense S X) (z : Sense S Y) (R : X → Y → Type 0) (f : Follows u z R) where
  pub run_follows : (row : Row S A) (v : X) (b : A) (w : X) (s : Y) → Run u row v b w → R v s →
      (t : Y) × Run z row s b t × R w t
  unfolding Run
  run_follows (Ret a) v b w s h r = (s, (h.0, refl), subst (λ x. R x s) (sym h.1) r)
  run_follows (Do c k) v b w s h r =
      let one = f.call c v h.0 h.1 s h.2 r in
      let more = run_follows (k h.0) h.1 b w one.0 h.3 one.2 in
      (more.0, (h.0, one.0, one.1, more.1), more.2)

  pub upto_follows : (row : Row S A) (v : X) (q : Row S A) (w : X) (s : Y) → Upto u row v q w → R v s →
      (t : Y) × Upto z row s q t × R w t
  unfolding Upto
  upto_follows (Ret a) v q w s h r = (s, (h.0, refl), subst (λ x. R x s) (sym h.1) r)
  upto_follows (Do c k) v q w s h r = elim h [
    | inl e ↦ (s, inl (e.0, refl), subst (λ x. R x s) (sym e.1) r)
    | inr d ↦
        let one = f.call c v d.0 d.1 s d.2 r in
        let more = upto_follows (k d.0) d.1 q w one.0 d.3 one.2 in
        (more.0, inr (d.0, one.0, one.1, more.1), more.2)
  ]

pub stopped_at : {S X A : Type 0} (u : Sense S X) (row : Row S A) (v : X) (e : Stop) (w : X) → Stopped u row v e w →
    StoppedAt u row v e w
unfolding Stopped Upto
stopped_at u (Ret a) v e w h = record { left = Ret a; place = v; upto = (refl, refl); why = inl h }
stopped_at u (Do c k) v e w h = elim h [
  | inl own ↦ record { left = Do c k; place = v; upto = inl (refl, refl); why = inl own }
  | inr g ↦ elim g [
    | inl refused ↦ record { left = Do c k; place = v; upto = inl (refl, refl); why = inr (c, k, refl, refused) }
    | inr d ↦ let s = stopped_at u (k d.0) d.1 e w d.3 in
        record { left = s.left; place = s.place; upto = inr (d.0, d.1, d.2, s.upto); why = s.why }
  ]
]
