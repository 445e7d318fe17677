-- What each call of a row leaves of a heap in order.
use Rattle.std.proofs.Common.{◌≡◌, ℕ, true, false, eqb, Option, Some, None, refl, sym, ap, subst, ◌∙◌, inl, inr}
use Rattle.std.specs.Prelude.{is_some}
use Rattle.std.proofs.lemmas.Bool.{cases_Bool, cond-true, eqb-true}
use Rattle.py_data.specs.declared.change.Change.{Change}
use Rattle.py_data.specs.Heap.{Rec, Heap, at, put_at, is_tracked}
use Rattle.py_data.specs.Changes.{after, Allows, Suits}
use Rattle.py_data.specs.Row.{Call, Reply, Read, Find, Edit, Make, Start, Put, Take, MidLine, SetMidLine}
use Rattle.py_data.specs.Sense.{Asks, IfThere, Effect}
use Rattle.py_data.specs.Order.{Rules, FitsAt, IsOrdered, Extends, AreLasting}
use Rattle.py_data.specs.Holds.{Refits, Tends}
use Rattle.py_data.proofs.Grow.{with_rec_there, kept_after, for_tracked}
use Rattle.py_data.proofs.Keep.{extends_same, fit_stays}
use Rattle.py_data.proofs.Same.{one_rec}
use Rattle.py_data.proofs.Steps.{at_is}

none_some : (o : Option Rec) (r : Rec) → o ≡ None → o ≡ Some r → ⊥
none_some o r e f = let g : ◌≡◌ {A = Option Rec} None (Some r) = sym e ∙ f in cc

-- another record in the place of a tracked one, of the same kind
edit_extends : (h : Heap) (a : ℕ) (r q : Rec) → h a ≡ Some r → q.kind ≡ r.kind → is_tracked r.kind ≡ true →
    Extends h (put_at h a q)
edit_extends h a r q e k t = record {
  kept = λ b s i.
      elim (cases_Bool (eqb b a)) [
        | inl y ↦
            let same : r ≡ s = one_rec (h a) s r (sym (ap h (eqb-true b a y)) ∙ i) e in
            record {
              now = q;
              here = cond-true (eqb b a) (Some q) (h b) y;
              kind = k ∙ ap (λ z. z.kind) same;
              fixed = λ f. absurd (let g : true ≡ false = sym t ∙ (ap (λ z. is_tracked z.kind) same ∙ f) in cc);
            }
        | inr n ↦ record { now = s; here = with_rec_there a b q h n ∙ i; kind = refl; fixed = λ f. refl }
      ];
}

make_extends : (h : Heap) (a : ℕ) (q : Rec) → h a ≡ None → Extends h (put_at h a q)
make_extends h a q e = record {
  kept = λ b s i.
      elim (cases_Bool (eqb b a)) [
        | inl y ↦ absurd (none_some (h a) s e (sym (ap h (eqb-true b a y)) ∙ i))
        | inr n ↦ record { now = s; here = with_rec_there a b q h n ∙ i; kind = refl; fixed = λ f. refl }
      ];
}

module _ (rules : Rules) (last : AreLasting rules) where
  -- a record that fits comes into a heap
  put_ordered : (h : Heap) (a : ℕ) (q : Rec) → IsOrdered rules h → Extends h (put_at h a q) → FitsAt rules h a q →
      IsOrdered rules (put_at h a q)
  put_ordered h a q order x f = record {
    each = λ b s i.
        elim (cases_Bool (eqb b a)) [
          | inl y ↦
              let same : q ≡ s = one_rec (put_at h a q b) s q i (cond-true (eqb b a) (Some q) (h b) y) in
              subst (λ z. FitsAt rules (put_at h a q) b z) same
              (subst (λ z. FitsAt rules (put_at h a q) z q) (sym (eqb-true b a y))
              (fit_stays h (put_at h a q) x rules order last a q f))
          | inr n ↦ fit_stays h (put_at h a q) x rules order last b s
              (order.each b s (sym (with_rec_there a b q h n) ∙ i))
        ];
  }

  abbrev Ordered : Heap → Heap → Type 0
  Ordered h h1 = IsOrdered rules h1 × Extends h h1

  same_ordered : (h h1 : Heap) → h1 ≡ h → IsOrdered rules h → Ordered h h1
  same_ordered h h1 e order = subst (Ordered h) (sym e) (order, extends_same h)

  edit_by : (h h1 : Heap) (a : ℕ) (c : Change) (o : Option Rec) → h a ≡ o → is_some o ≡ true →
      IfThere false o (λ r. Allows c r × Suits false h c r) → Refits rules h a (after c)
      → h1 ≡ put_at h a (after c (at h a)) → IsOrdered rules h → Ordered h h1
  edit_by h h1 a c None e i ask fit g order = absurd (let q : false ≡ true = i in cc)
  edit_by h h1 a c (Some r) e i ask fit g order =
      let now : h1 ≡ put_at h a (after c r) = g ∙ ap (λ z. put_at h a (after c z)) (at_is h a r e) in
      let x = edit_extends h a r (after c r) e (kept_after c r).kind (for_tracked c r.kind ask.0.0) in
      subst (Ordered h) (sym now) (put_ordered h a (after c r) order x (fit r e), x)

  -- what a call leaves of a heap in order
  pub call_ordered : {S : Type 0} (stands : Heap → S → Type 0) (c : Call S) (h h1 : Heap) (r : Reply c) →
      Asks false c h → Tends rules stands c h → Effect false c h r h1 → IsOrdered rules h → Ordered h h1
  unfolding Asks
  call_ordered stands (Read a) h h1 r i t e order = same_ordered h h1 e.1 order
  call_ordered stands (Find d key) h h1 r i t e order = same_ordered h h1 e.2 order
  call_ordered stands (Edit a c) h h1 r i t e order = edit_by h h1 a c (h a) refl e.0 i t e.1 order
  call_ordered stands (Make s) h h1 r i t e order =
      let x = make_extends h r s e.0 in
      subst (Ordered h) (sym e.1) (put_ordered h r s order x (t r e.0), x)
  call_ordered stands (Start s) h h1 r i t e order = same_ordered h h1 e order
  call_ordered stands (Put on bytes) h h1 r i t e order = same_ordered h h1 e order
  call_ordered stands (Take most) h h1 r i t e order = same_ordered h h1 e.1 order
  call_ordered stands MidLine h h1 r i t e order = same_ordered h h1 e order
  call_ordered stands (SetMidLine mid) h h1 r i t e order = same_ordered h h1 e order
