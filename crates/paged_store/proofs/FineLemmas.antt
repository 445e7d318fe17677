-- What is known of a store that is fine, and how it stays fine.
use Rattle.std.proofs.Common.{◌≡◌, ℕ, Bool, true, false, List, [], ◌++◌, sym, ◌∙◌, ap, subst}
use Rattle.std.proofs.Math.Logic.{∥∥₁_elim, ∥∥₁_map}
use Rattle.std.proofs.Props.{props}
use Rattle.std.proofs.lemmas.List.{append_cancel_left}
use mathlib.Core.HLevel.{Σ_prop_path}
use base.Stored.{Coded-set}
use Rattle.std.specs.Coded.{coded_list}
use Rattle.py_data.specs.contracts.value.Value as value
use Rattle.py_data.specs.declared.value.Value.{Value}
use Rattle.seg_store.specs.Meaning.{Meaning}
use Rattle.seg_store.specs.Store.{NoneOf, IsStore}
use Rattle.paged_store.specs.Words.{Words}
use Rattle.paged_store.specs.State.{State, meaning_in}
use Rattle.paged_store.specs.inner.Sound.{Sound}
use Rattle.paged_store.specs.inner.Counted.{IsCounted}
use Rattle.paged_store.specs.inner.Keyed.{IsKeyed}
use Rattle.paged_store.specs.inner.Indexed.{HasIndexes}
use Rattle.paged_store.specs.Paged.{Paged, state_of}
use Rattle.paged_store.specs.inner.Fine.{counts_of, Fits, Fine}

front_prop : (xs ys : List ℕ) → IsProp ((more : List ℕ) × (ys ≡ xs ++ more))
front_prop xs ys = λ u v. Σ_prop_path (λ m. hlevel props) (append_cancel_left xs u.0 v.0 (sym u.1 ∙ v.1))

none_prop : (b : Bool) (vs : List Value) (bs : List ℕ) → IsProp (NoneOf b vs bs)
none_prop true vs bs = Coded-set (coded_list value.the_row.coded) vs []
none_prop false vs bs = hlevel props

is_store_prop : (n : ℕ) (m : Meaning) → IsProp (IsStore n m)
is_store_prop n m = hlevel (props, front_prop, none_prop)

-- what always holds of a store
pub known_of : (p : Paged) → Fine p → IsStore p.table.reserved (meaning_in (state_of p))
known_of p f = ∥∥₁_elim f.known (is_store_prop p.table.reserved (meaning_in (state_of p))) (λ w. w)

-- ---- a store after a call

-- it is fine, and means m
pub record Leaves (q : Paged) (m : Meaning) : Type 0 where
  pub fine : Fine q
  pub means : meaning_in (state_of q) ≡ m

abbrev pub IsSound : State → Type 0
IsSound s = ∥ ((own : Words) × ((role : Words) × Sound own role s)) ∥₁

pub leaves_by : (q : Paged) (s : State) (m : Meaning) → Fits q → state_of q ≡ s → IsSound s → meaning_in s ≡ m →
    IsStore q.table.reserved m → IsCounted m (counts_of q) → ∥ IsKeyed m ∥₁ → HasIndexes s →
    Leaves q m
leaves_by q s m fits is sound means known counted keyed indexed = record {
  fine = record {
    fits = fits;
    counted = subst (λ x. IsCounted x (counts_of q)) (sym (ap meaning_in is ∙ means)) counted;
    keyed = subst (λ x. ∥ IsKeyed x ∥₁) (sym (ap meaning_in is ∙ means)) keyed;
    indexed = subst HasIndexes (sym is) indexed;
    sound = subst IsSound (sym is) sound;
    known = ∣ subst (IsStore q.table.reserved) (sym (ap meaning_in is ∙ means)) known ∣₁;
  };
  means = ap meaning_in is ∙ means;
}

meanings_set : IsSet Meaning
meanings_set = hlevel props

-- a state is sound, and means m
pub record Went (s : State) (m : Meaning) : Type 0 where
  pub own : Words
  pub role : Words
  pub sound : Sound own role s
  pub means : meaning_in s ≡ m

-- a store after a call of which it takes soundness to say what it means
pub leaves_of : (p q : Paged) (s : State) (m : Meaning) → Fine p → Fits q → state_of q ≡ s →
    ((own role : Words) → Sound own role (state_of p) → Went s m) → IsStore q.table.reserved m →
    IsCounted m (counts_of q)
    → ∥ IsKeyed m ∥₁ → HasIndexes s → Leaves q m
leaves_of p q s m f fits is go known counted keyed indexed = leaves_by q s m fits is
    (∥∥₁_map f.sound (λ x. let w = go x.0 x.1.0 x.1.1 in (w.own, (w.role, w.sound))))
    (∥∥₁_elim f.sound (meanings_set (meaning_in s) m) (λ x. (go x.0 x.1.0 x.1.1).means))
    known counted keyed indexed
