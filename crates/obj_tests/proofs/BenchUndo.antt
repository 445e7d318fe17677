-- Steps that are opened over a view whose heap is in order, and taken back.
use Rattle.std.proofs.Common.{◌≡◌, ℕ, List, length, Option, Some, None, unwrap_or, Result, Ok, Err, inl, inr, refl, sym, ap, subst, ◌∙◌}
use Rattle.std.specs.Prelude.{IfSome}
use Rattle.std.specs.Result.{result_err}
use Rattle.py_data.specs.declared.value.Value.{Value}
use Rattle.py_data.specs.declared.stop.Stop.{Stop}
use Rattle.py_base.specs.declared.kind.Kind.TheVariants.{List as ListKind}
use Rattle.py_data.specs.Heap.{Heap, Rec, blank, at, length_of}
use Rattle.py_data.specs.Shape.{KindIn}
use Rattle.py_data.specs.Every.{Every}
use Rattle.py_data.specs.Closed.{IsItem}
use Rattle.py_data.specs.Order.{IsOrdered}
use Rattle.py_data.specs.Row.{Row}
use Rattle.py_data.specs.Sense.{Sense, Bracket, IsBracket, Stopped, Meets}
use Rattle.py_data.proofs.Whole.{upto_steps, stopped_at}
use Rattle.obj_seq.specs.HoldsLaws.{IsListAt}
use Rattle.obj_class.specs.Roots.{IsRoots}
use Rattle.obj_bench.specs.Bench.{free, Good}

-- the length of a list is the count of its values
pub list_length : (h : Heap) (a : ℕ) → IsListAt h a → length_of (at h a) ≡ length (at h a).values
unfolding at
list_length h a k = by (h a) k
  where
    size : (r : Rec) → r.kind ≡ ListKind → length_of r ≡ length r.values
    size r e = cc

    by : (o : Option Rec) → KindIn o (λ q. q ≡ ListKind) →
        length_of (unwrap_or o blank) ≡ length (unwrap_or o blank).values
    by None k = absurd k
    by (Some r) k = size r k

-- the Stop of a row that was stopped
pub err_stopped : {S X A : Type 0} (u : Sense S X) (row : Row S A) (v w : X) (res : Result A Stop) →
    Meets u row v w res → IfSome (result_err res) (λ e. Stopped u row v e w)
unfolding Meets
err_stopped u row v w (Ok x) m = tt
err_stopped u row v w (Err e) m = m

module _ {S X : Type 0} {u : Sense S X} {b : Bracket S X} (B : IsBracket u b) where
  -- a step that is opened leaves the records as they are
  pub good_opened : {roots : ℕ} {stack : List Value} {v : X} (m : X) → b.opens v m → Good u roots stack v →
      Good u roots stack m
  good_opened {roots = roots} {stack = stack} m o g =
      let f = B.opened _ m o in
      record {
        whole = g.whole;
        live = f.2;
        order = subst (IsOrdered free) (sym f.0) g.order;
        listed =
            subst (λ h. IsRoots h roots) (sym f.0) g.listed;
        items =
            subst (λ h. Every (IsItem h) stack) (sym f.0) g.items;
      }

  -- a row that was stopped leaves the records as they were when the step was opened where it was
  stopped_base : {A : Type 0} (row : Row S A) (v w : X) (e : Stop) → Stopped u row v e w → b.base w ≡ b.base v
  stopped_base row v w e s =
      let a = stopped_at u row v e w s in
      let upto = upto_steps u (λ v w. b.base w ≡ b.base v) (λ v. refl) (λ v m w p q. q ∙ p)
      (λ c v r w d. (B.keeps c v r w d).0) row v a.left a.place a.upto in
      elim a.why [ inl own ↦ ap b.base own.1 ∙ upto | inr g ↦ (B.keeps_refused g.0 a.place e w g.3).0 ∙ upto ]

  -- opened, stopped and taken back: the heap is as it was
  pub undone_heap : {A : Type 0} (row : Row S A) {v m n w : X} (e : Stop) → b.opens v m → Stopped u row m e n →
      b.undoes n w → u.heap w ≡ u.heap v
  undone_heap row {m = m} {n = n} {w = w} e o s g = (B.undone n w g).0 ∙ stopped_base row m n e s ∙ (B.opened _ m o).1
