-- What can't be gone through, and a dictionary whose size changed.
use Rattle.std.proofs.Common.{◌≡◌, ◌≢◌, ℕ, ◌/◌, ◌==◌, Bool, true, false, cond, not, List, length, slice_get, Option, Some, None, inl, inr, refl, sym, ap, subst, ◌∙◌}
use Rattle.std.proofs.lemmas.Bool.{cases_Bool, cond-true, cond-false, ne_eqb}
use Rattle.py_base.specs.declared.kind.Kind.{Kind}
use Rattle.py_base.specs.declared.kind.Kind.TheVariants.{Str, Tuple, List as ListKind, Dict, Iter, Range}
use Rattle.py_data.specs.declared.value.Value.{Value}
use Rattle.py_data.specs.declared.value.Value.TheVariants.{Unset, None as NoneValue, Bool as BoolValue, Int, Ref, Builtin}
use Rattle.py_data.specs.declared.record.Got.{Got}
use Rattle.py_data.specs.declared.record.Got.TheVariants.{Raise}
use Rattle.py_data.specs.Fault.{iterable_fault, size_fault}
use Rattle.py_data.specs.Heap.{Rec}
use Rattle.py_data.specs.Row.{Ret, Do, Read}
use Rattle.py_data.specs.Sense.{Sense, Lawful, Run}
use Rattle.py_data.specs.Shape.{KindIn, is_iterable}
use Rattle.obj_seq.specs.Iter.{iter_of, count_of, is_iter, make_iter_row, go_or_end, byte_or_end, pick, has_changed, is_str, iter_parts, next_over, next_by, next_with}
use Rattle.obj_seq.specs.Laws.{NoIterLaw, SizeLaw, Says}
use Rattle.obj_seq.proofs.Leaving.{looked, says}

-- a kind that can't be gone through has no length to note
not_counted : (k : Kind) (vs : List Value) (bs : List ℕ) → is_iterable k ≡ false → count_of k vs bs ≡ None
not_counted Str vs bs e = absurd (let z : true ≡ false = e in cc)
not_counted Tuple vs bs e = absurd (let z : true ≡ false = e in cc)
not_counted ListKind vs bs e = absurd (let z : true ≡ false = e in cc)
not_counted Dict vs bs e = absurd (let z : true ≡ false = e in cc)
not_counted Range vs bs e = absurd (let z : true ≡ false = e in cc)
not_counted _ vs bs e = refl

pub iter_kind : (k : Kind) → is_iter k ≡ true → k ≡ Iter
iter_kind Iter e = refl
iter_kind _ e = absurd (let z : false ≡ true = e in cc)

is_false : (b : Bool) → (b ≡ true → ⊥) → b ≡ false
is_false b n = elim (cases_Bool b) [ inl y ↦ absurd (n y) | inr e ↦ e ]

-- no iterator is made
unmade : {S : Type 0} (a : ℕ) (o : Option ℕ) → o ≡ None → make_iter_row {S = S} a o ≡ Ret (Raise iterable_fault)
unfolding make_iter_row
unmade {S} a o e = ap (make_iter_row {S = S} a) e

no_iter : {S : Type 0} (a : ℕ) (r : Rec) → (is_iterable r.kind ≡ true → ⊥) → (r.kind ≡ Iter → ⊥) →
    iter_of {S = S} a r ≡ Ret (Raise iterable_fault)
no_iter a r n m =
    cond-false (is_iter r.kind) _ _ (is_false (is_iter r.kind) (λ y. m (iter_kind r.kind y))) ∙
    unmade a (count_of r.kind r.values r.bytes)
    (not_counted r.kind r.values r.bytes (is_false (is_iterable r.kind) n))

-- a dictionary that hasn't as many pairs
size_changed : {S : Type 0} (it at count : ℕ) (r : Rec) → r.kind ≡ Dict → length r.values / 2 ≢ count →
    next_over {S = S} it at count r ≡ Ret (Raise size_fault)
size_changed {S} it at count r e n =
    ap (λ k. cond (is_str k) (byte_or_end {S = S} it at (slice_get r.bytes at))
    (cond (has_changed k r.values count) (Ret (Raise size_fault)) (go_or_end it at (pick k r.values at)))) e
    ∙ cond-true (not (length r.values / 2 == count)) _ _ (ap not (ne_eqb (length r.values / 2) count n))

module _ {S X : Type 0} {u : Sense S X} (L : Lawful u) where
  raised : (v w : X) (res : Got Value) → Run u (Ret (Raise iterable_fault)) v res w →
      Says u (Raise iterable_fault) res v w
  unfolding Run
  raised v w res d = (d.0, ap u.heap d.1)

  at_record : (a : ℕ) (v w : X) (res : Got Value) →
      ((r : Rec) → u.heap v a ≡ Some r → iter_of {S = S} a r ≡ Ret (Raise iterable_fault)) →
      Run u (Do (Read a) (iter_of a)) v res w → Says u (Raise iterable_fault) res v w
  unfolding Run
  at_record a v w res n d = let f = L.effect (Read a) v d.0 d.1 d.2 in
      says L a (iter_of a) d.0 (Raise iterable_fault) res v w f.0 (n d.0 f.0) d

  pub no_iter_law : NoIterLaw u
  no_iter_law (Ref a) v w res n m d =
      at_record a.0 v w res
      (λ r e. no_iter a.0 r (λ i. n (subst (λ o. KindIn o (λ k. is_iterable k ≡ true)) (sym e) i))
      (λ i. m (subst (λ o. KindIn o (λ k. k ≡ Iter)) (sym e) i))) d
  no_iter_law Unset v w res n m d = raised v w res d
  no_iter_law NoneValue v w res n m d = raised v w res d
  no_iter_law (BoolValue b) v w res n m d = raised v w res d
  no_iter_law (Int i) v w res n m d = raised v w res d
  no_iter_law (Builtin b) v w res n m d = raised v w res d

  pub size_law : SizeLaw u
  unfolding next_by next_with
  size_law it d at count q r v w res e i f g k n s =
      let l = looked L it (λ q. next_by it (iter_parts q.kind q.values)) q v w res e s in
      let t = subst (λ vs. Run u (next_by {S = S} it (iter_parts Iter vs)) l.0 res w) f
      (subst (λ z. Run u (next_by {S = S} it (iter_parts z q.values)) l.0 res w) i l.2) in
      let z = says L d (next_over it at count) r (Raise size_fault) res l.0 w (ap (λ h. h d) l.1 ∙ g)
      (size_changed it at count r k n) t in
      (z.0, z.1 ∙ l.1)
