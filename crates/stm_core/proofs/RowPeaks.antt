-- How the peaks of a view's store rise over a row: at most to what is in use at some place of it.
use Rattle.std.proofs.Common.{◌≡◌, ◌⊎◌, inl, inr, ℕ, ◌+◌, ◌≤◌, Option, sym, ap, subst, arith}
use Rattle.py_data.specs.declared.stop.Side.{Side}
use Rattle.py_data.specs.declared.stop.Stop.{Stop}
use Rattle.py_data.specs.Row.{Call, Reply, Row, Ret, Do, Read, Find, Edit, Make, Start, Put, Take, MidLine, SetMidLine}
use Rattle.py_data.specs.Sense.{Run, Stopped, Upto}
use Rattle.py_data.proofs.Whole.{stopped_at}
use Rattle.lock_run.proofs.Following.{run_upto, upto_none}
use Rattle.seg_store.specs.Meaning.{sees}
use Rattle.stm_segment.specs.Books.{Worlds}
use Rattle.stm_segment.specs.Devices.{DeviceState}
use Rattle.stm_segment.specs.InUse.{wants_more, next_more, RisesUpTo, IfTold}
use Rattle.stm_segment.specs.inner.Hold.{Hold}
use Rattle.stm_segment.specs.inner.SegSense.{seg_use, seg_sense, Tells, TellsRefused, told_sense}
use Rattle.stm_segment.proofs.Peaks.{told_same, told_then, rises_none}

module _ {S X : Type 0} (hold : X → Hold S) (devices : X → DeviceState) (segment : X → ℕ) (me : X → Side)
    (same : X → X → Type 0) (peaks : X → Option (ℕ → ℕ)) (w : Worlds) where
  -- what is in use where a view stands
  abbrev pub use_at : X → ℕ → ℕ
  use_at v c = seg_use w (segment v) (hold v).meaning (hold v).books c

  -- a place of a row over the view, at which so many extents of a class are in use, with those of the next call
  pub record UsedAt {A : Type 0} (row : Row S A) (v : X) (c n : ℕ) : Type 0 where
    pub left : Row S A
    pub place : X
    pub upto : Upto (seg_sense hold devices segment me same) row v left place
    pub most : n ≤ use_at place c + next_more left (sees (hold place).meaning (segment place)) c

  -- each peak, from class 1 on, is at most what it was, or at most what is in use at such a place
  abbrev pub RisesOn : {A : Type 0} → Row S A → X → (ℕ → ℕ) → (ℕ → ℕ) → Type 0
  RisesOn row v f g = (c : ℕ) → 1 ≤ c → (g c ≤ f c) ⊎ UsedAt row v c (g c)

  none_on : {A : Type 0} (row : Row S A) (v : X) (f : ℕ → ℕ) → RisesOn row v f f
  none_on row v f c lo = inl (omega arith)

  -- what a call that was done says of the peaks
  tells_there : (c : Call S) (v : X) (r : Reply c) (u : X) → Tells hold devices segment me same peaks c v r u →
      IfTold (peaks v) (peaks u) (λ f g. RisesUpTo f g (λ cl. use_at u cl + 0))
  tells_there (Edit a x) v r u t = t.rises w
  tells_there (Make q) v r u t = t.rises w
  tells_there (Read a) v r u t = rises_none (peaks v) (peaks u) _ t
  tells_there (Find a key) v r u t = rises_none (peaks v) (peaks u) _ t
  tells_there (Start s) v r u t = rises_none (peaks v) (peaks u) _ t
  tells_there (Put on bytes) v r u t = rises_none (peaks v) (peaks u) _ t
  tells_there (Take most) v r u t = rises_none (peaks v) (peaks u) _ t
  tells_there MidLine v r u t = rises_none (peaks v) (peaks u) _ t
  tells_there (SetMidLine b) v r u t = rises_none (peaks v) (peaks u) _ t

  refused_there : (c : Call S) (v : X) (e : Stop) (u : X) →
      TellsRefused hold devices segment me same peaks c v e u → IfTold (peaks v) (peaks u)
      (λ f g. RisesUpTo f g (λ cl. use_at v cl + wants_more c (sees (hold v).meaning (segment v)) cl))
  refused_there (Edit a x) v e u t = t.rises w
  refused_there (Make q) v e u t = t.rises w
  refused_there (Read a) v e u t = rises_none (peaks v) (peaks u) _ t
  refused_there (Find a key) v e u t = rises_none (peaks v) (peaks u) _ t
  refused_there (Start s) v e u t = rises_none (peaks v) (peaks u) _ t
  refused_there (Put on bytes) v e u t = rises_none (peaks v) (peaks u) _ t
  refused_there (Take most) v e u t = rises_none (peaks v) (peaks u) _ t
  refused_there MidLine v e u t = rises_none (peaks v) (peaks u) _ t
  refused_there (SetMidLine b) v e u t = rises_none (peaks v) (peaks u) _ t

  module _ {A : Type 0} where
    -- one call, and then others
    on_then : (c : Call S) (f : Reply c → Row S A) (v : X) (r : Reply c) (u : X) →
        (seg_sense hold devices segment me same).does c v r u → (p q s : ℕ → ℕ) →
        RisesUpTo p q (λ cl. use_at u cl + 0) → RisesOn (f r) u q s → RisesOn (Do c f) v p s
    unfolding Upto
    on_then c f v r u done p q s a b cl lo = elim (b cl lo) [
      | inl x ↦ elim (a cl lo) [
        | inl y ↦ inl (omega arith)
        | inr y ↦ inr (record {
          left = f r;
          place = u;
          upto = inr (r, u, done, upto_none (seg_sense hold devices segment me same) (f r) u);
          most = omega arith;
        })
      ]
      | inr x ↦ inr (record {
        left = x.left;
        place = x.place;
        upto = inr (r, u, done, x.upto);
        most = x.most;
      })
    ]

    -- a row that was begun
    upto_on : (row : Row S A) (v : X) (left : Row S A) (u : X) →
        Upto (told_sense hold devices segment me same peaks) row v left u →
        IfTold (peaks v) (peaks u) (RisesOn row v)
    unfolding Upto
    upto_on (Ret a) v left u d = told_same (peaks v) (peaks u) (RisesOn (Ret a) v) (none_on (Ret a) v) (ap peaks d.1)
    upto_on (Do c f) v left u d = elim d [
      | inl x ↦ told_same (peaks v) (peaks u) (RisesOn (Do c f) v) (none_on (Do c f) v) (ap peaks x.1)
      | inr y ↦ told_then (peaks v) (peaks y.1) (peaks u) (λ p q. RisesUpTo p q (λ cl. use_at y.1 cl + 0))
          (RisesOn (f y.0) y.1) (RisesOn (Do c f) v) (on_then c f v y.0 y.1 y.2.0)
          (tells_there c v y.0 y.1 y.2.1) (upto_on (f y.0) y.1 left u y.3)
    ]

    -- and over the view that says less
    upto_less : (row : Row S A) (v : X) (left : Row S A) (u : X) →
        Upto (told_sense hold devices segment me same peaks) row v left u →
        Upto (seg_sense hold devices segment me same) row v left u
    unfolding Upto
    upto_less (Ret a) v left u d = d
    upto_less (Do c f) v left u d = elim d [
      | inl x ↦ inl x
      | inr y ↦ inr (y.0, y.1, y.2.0, upto_less (f y.0) y.1 left u y.3)
    ]

    -- a row that was done
    pub run_on : (row : Row S A) (v : X) (y : A) (u : X) →
        Run (told_sense hold devices segment me same peaks) row v y u → IfTold (peaks v) (peaks u) (RisesOn row v)
    run_on row v y u d = upto_on row v (Ret y) u
        (run_upto (told_sense hold devices segment me same peaks) row v y u d)

    -- the next call was refused
    on_refused : (row : Row S A) (v : X) (c : Call S) (f : Reply c → Row S A) (left : Row S A) (place : X) →
        left ≡ Do c f → Upto (seg_sense hold devices segment me same) row v left place → (p q s : ℕ → ℕ) →
        RisesOn row v p q →
        RisesUpTo q s (λ cl. use_at place cl + wants_more c (sees (hold place).meaning (segment place)) cl) →
        RisesOn row v p s
    on_refused row v c f left place same_left upto p q s a b cl lo = elim (b cl lo) [
      | inl x ↦ elim (a cl lo) [
        | inl y ↦ inl (omega arith)
        | inr y ↦ inr (record {
          left = y.left;
          place = y.place;
          upto = y.upto;
          most = let l = y.most in omega arith;
        })
      ]
      | inr x ↦ inr (record {
        left = left;
        place = place;
        upto = upto;
        most = subst (λ (z : Row S A). s cl ≤ use_at place cl +
            next_more z (sees (hold place).meaning (segment place)) cl) (sym same_left) x;
      })
    ]

    -- a row that was stopped
    pub stop_on : (row : Row S A) (v : X) (e : Stop) (u : X) →
        Stopped (told_sense hold devices segment me same peaks) row v e u → IfTold (peaks v) (peaks u) (RisesOn row v)
    stop_on row v e u d =
        let a = stopped_at (told_sense hold devices segment me same peaks) row v e u d in
        let on : IfTold (peaks v) (peaks a.place) (RisesOn row v) = upto_on row v a.left a.place a.upto in
        elim a.why [
          | inl x ↦ subst (λ z. IfTold (peaks v) (peaks z) (RisesOn row v)) (sym x.1) on
          | inr x ↦ told_then (peaks v) (peaks a.place) (peaks u) (RisesOn row v)
              (λ q s. RisesUpTo q s (λ cl. use_at a.place cl +
              wants_more x.0 (sees (hold a.place).meaning (segment a.place)) cl)) (RisesOn row v)
              (on_refused row v x.0 x.1 a.left a.place x.2 (upto_less row v a.left a.place a.upto)) on
              (refused_there x.0 a.place e u x.3.1)
        ]
