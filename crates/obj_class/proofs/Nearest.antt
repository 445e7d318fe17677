-- Which attribute comes first.
use Rattle.std.proofs.Common.{arith, ◌≡◌, ℕ, zero, suc, ◌<◌, ◌≤◌, Option, Some, None, refl, sym, ap, ◌∙◌}
use Rattle.std.specs.Prelude.{option_map}
use Rattle.py_data.specs.declared.value.Addr.{Addr}
use Rattle.py_data.specs.declared.value.Value.{Value}
use Rattle.py_data.specs.declared.value.Value.TheVariants.{Unset, None as NoneValue, Bool as BoolValue, Int, Ref, Builtin}
use Rattle.py_data.specs.Heap.{Heap, value_at}
use Rattle.py_data.specs.Closed.{base_of, BasesEnd}
use Rattle.obj_class.specs.Bases.{ref, MOST_BASES, up}
use Rattle.obj_class.specs.Attributes.{bound, inherited, kept_by, nearer, own_first, of_kind, of_record, IsNearest}
use Rattle.obj_class.specs.Laws.{AttributeLaw}
use Rattle.obj_class.proofs.Below.{up_none}

module _ (h : Heap) (key : Value) where
  fewer : (k : ℕ) (c : Addr) → kept_by h key (Ref c) ≡ None →
      ((j : ℕ) → j < k → kept_by h key (up h j (base_of (h c.0))) ≡ None) → (j : ℕ) → j < suc k →
      kept_by h key (up h j (Ref c)) ≡ None
  fewer k c first rest zero l = first
  fewer k c first rest (suc j) l = rest j (omega (arith, l))

  one_nearest : (c : Addr) (x : Value) (o more : Option Value) → kept_by h key (Ref c) ≡ o →
      (more ≡ Some x → IsNearest h key (base_of (h c.0)) x) → nearer o more ≡ Some x → IsNearest h key (Ref c) x
  one_nearest c x (Some y) more s f e = (0, s ∙ e, λ j l. absurd (omega (arith, l)))
  one_nearest c x None more s f e = let m = f e in (suc m.0, m.1, fewer m.0 c s m.2)

  no_value : {A : Type 0} (x : A) → ◌≡◌ {A = Option A} None (Some x) → ⊥
  no_value x e = cc

  nearest_is : (n : ℕ) (v x : Value) → inherited h key n v ≡ Some x → IsNearest h key v x
  unfolding inherited
  nearest_is zero v x e = absurd (no_value x e)
  nearest_is (suc n) (Ref c) x e = one_nearest c x (kept_by h key (Ref c)) (inherited h key n (base_of (h c.0))) refl
      (nearest_is n (base_of (h c.0)) x) e
  nearest_is (suc n) Unset x e = absurd (no_value x e)
  nearest_is (suc n) NoneValue x e = absurd (no_value x e)
  nearest_is (suc n) (BoolValue b) x e = absurd (no_value x e)
  nearest_is (suc n) (Int i) x e = absurd (no_value x e)
  nearest_is (suc n) (Builtin b) x e = absurd (no_value x e)

  -- a class keeps it after k steps, and none before
  abbrev After : ℕ → Value → Value → Type 0
  After k v x = (kept_by h key (up h k v) ≡ Some x) × ((j : ℕ) → j < k → kept_by h key (up h j v) ≡ None)

  none_after : (k : ℕ) (x : Value) → After k NoneValue x → ⊥
  none_after k x a = no_value x (sym (ap (kept_by h key) (up_none h k)) ∙ a.0)

  one_found : (m k : ℕ) (c : Addr) (x : Value) →
      ((j : ℕ) → After j (base_of (h c.0)) x → inherited h key m (base_of (h c.0)) ≡ Some x) → After k (Ref c) x →
      nearer (kept_by h key (Ref c)) (inherited h key m (base_of (h c.0))) ≡ Some x
  one_found m zero c x more a = ap (λ o. nearer o (inherited h key m (base_of (h c.0)))) a.0
  one_found m (suc k) c x more a =
      ap (λ o. nearer o (inherited h key m (base_of (h c.0)))) (a.1 0 (omega arith)) ∙
      more k (a.0, λ j l. a.1 (suc j) (omega (arith, l)))

  nearest_found : (n m k : ℕ) (v x : Value) → BasesEnd h n v → n ≤ m → After k v x → inherited h key m v ≡ Some x
  unfolding inherited
  nearest_found zero m k NoneValue x e l a = absurd (none_after k x a)
  nearest_found (suc n) m k NoneValue x e l a = absurd (none_after k x a)
  nearest_found (suc n) zero k (Ref c) x e l a = absurd (omega (arith, l))
  nearest_found (suc n) (suc m) k (Ref c) x e l a =
      one_found m k c x (λ j b. nearest_found n m j (base_of (h c.0)) x e (omega (arith, l)) b) a
  nearest_found n m k v x e l a = absurd e

pub attribute_law : AttributeLaw
attribute_law = record {
  own = λ h roots a name r x e k f.
      ap (of_record h (ref a) name) e ∙ (ap (of_kind h (ref a) name r.values) k ∙
      ap (λ o. own_first o (option_map (bound h) (inherited h (ref name) MOST_BASES (value_at r.values 0)))) f);
  class = λ h roots a name r e k f.
      ap (of_record h (ref a) name) e ∙ (ap (of_kind h (ref a) name r.values) k ∙
      ap (λ o. own_first o (option_map (bound h) (inherited h (ref name) MOST_BASES (value_at r.values 0)))) f);
  as_is = λ h roots a name r e k. ap (of_record h (ref a) name) e ∙ ap (of_kind h (ref a) name r.values) k;
  nearest = λ h key n v x e. nearest_is h key n v x e;
  found = λ h key n m v x e l a. nearest_found h key n m a.0 v x e l (a.1, a.2);
}
