-- A thread of a script stands over what the tests lend it: a Cell alone.
use Rattle.std.proofs.Common.{◌≡◌, ℕ, zero, suc, true, eqb, [], ◌∷◌, Option, Some, None, refl, sym, ◌∙◌, ap, subst, inl, inr, slice_get}
use Rattle.std.proofs.lemmas.Bool.{cases_Bool, eqb-true, eq-eqb, cond-true, cond-false}
use Rattle.py_data.specs.declared.value.Addr.{Addr}
use Rattle.py_data.specs.Heap.{Heap, Rec, put_at}
use Rattle.py_data.specs.Sense.{IsPart}
use Rattle.lock_run.specs.declared.script.ScriptState.{ScriptState}
use Rattle.lock_run.specs.declared.script.ScriptState.TheVariants.{Acts}
use Rattle.lock_run.specs.Client.{StandsIn}
use Rattle.lock_run.specs.Script.{empty_list, IsCell, IsList, Is, ScriptSound}

none_some : (o : Option Rec) (r : Rec) → o ≡ None → o ≡ Some r → ⊥
none_some o r e f = let g : ◌≡◌ {A = Option Rec} None (Some r) = sym e ∙ f in cc

put_here : (h : Heap) (a : ℕ) (r : Rec) → put_at h a r a ≡ Some r
put_here h a r = cond-true (eqb a a) (Some r) (h a) (eq-eqb a a refl)

-- the records with one more in a free place
new_part : (g : Heap) (l : ℕ) (q : Rec) → g l ≡ None → IsPart g (put_at g l q)
new_part g l q n b r e = elim (cases_Bool (eqb b l)) [
  | inl y ↦ absurd (none_some (g b) r (ap g (eqb-true b l y) ∙ n) e)
  | inr f ↦ cond-false (eqb b l) (Some q) (g b) f ∙ e
]

one_cell : (h : Heap) (a : Addr) (r : Rec) → h a.0 ≡ Some r → IsCell r → (k : ℕ) (b : Addr) →
    slice_get (a ∷ []) k ≡ Some b → Is IsCell h b.0
one_cell h a r is cell zero b e = let q : a ≡ b = cc in
    subst (λ (x : Addr). Is IsCell h x.0) q (record { rec = r; here = is; so = cell })
one_cell h a r is cell (suc k) b e = absurd cc

-- over a heap that has both
both_stand : (g h : Heap) (number done : ℕ) (a l : Addr) (r q : Rec) → IsPart g h → h a.0 ≡ Some r → IsCell r →
    h l.0 ≡ Some q → IsList q → StandsIn ScriptSound true g (Acts number done (a ∷ []) l)
both_stand g h number done a l r q part is cell il list = record {
  heap = h;
  shown = part;
  standing = (
    Acts number done (a ∷ []) l ∷ [],
    0,
    refl,
    record {
      all = (
        (record { each = one_cell h a r is cell }, record { is = record { rec = q; here = il; so = list } }),
        tt,
      );
    },
  );
}

-- over a part that has the Cell alone
pub cell_stands : (g : Heap) (s : ScriptState) (number done : ℕ) (a l : Addr) (r : Rec) →
    s ≡ Acts number done (a ∷ []) l → g a.0 ≡ Some r → IsCell r → g l.0 ≡ None → StandsIn ScriptSound true g s
cell_stands g s number done a l r e is cell none =
    let h = put_at g l.0 empty_list in
    let part = new_part g l.0 empty_list none in
    subst (StandsIn ScriptSound true g) (sym e)
    (both_stand g h number done a l r empty_list part (part a.0 r is) cell (put_here g l.0 empty_list) refl)
