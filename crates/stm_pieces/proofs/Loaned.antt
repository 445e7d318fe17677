-- Records that are loaned as long as they are, of which nothing was changed, and the parts of a view.
use Rattle.std.proofs.Common.{◌≡◌, ℕ, Bool, false, eqb, List, [], ◌∷◌, ◌++◌, refl, Option, Some, None, Result, Ok, Err, OnOk, OnErr, length, sym, ◌∙◌, ap, subst, inl, inr}
use Rattle.std.proofs.lemmas.Bool.{cases_Bool, cond-true, cond-false}
use Rattle.py_data.specs.declared.stop.Stop.{Stop}
use Rattle.py_data.specs.declared.value.Addr.{Addr}
use Rattle.py_data.specs.declared.change.Change.{Change}
use Rattle.py_data.specs.Heap.{Heap, Rec, put_at}
use Rattle.stm_pieces.specs.declared.lent.OnTerms.{OnTerms}
use Rattle.stm_pieces.specs.PieceState.{PieceState, IsTight, IsFresh, nothing_loaned, but_at, with_loaned, with_base}
use Rattle.stm_pieces.specs.Terms.{loaned_in, most_in, locked_in}
use Rattle.stm_pieces.proofs.Laying.{field_set}

none_some : (o : Option Rec) (r : Rec) → o ≡ None → o ≡ Some r → ⊥
none_some o r e f = let g : ◌≡◌ {A = Option Rec} None (Some r) = sym e ∙ f in cc

-- ---- records as long as they are
pub tight_nothing : (d : PieceState) → d ≡ nothing_loaned → IsTight d
tight_nothing d e a r is = absurd (none_some (d.heap a) r (ap (λ (z : PieceState). z.heap a) e) is)

pub alone_nothing : (d : PieceState) → d ≡ nothing_loaned → d.solo ≡ false
alone_nothing d e = ap (λ (z : PieceState). z.solo) e

tight_with : (d : PieceState) (a : ℕ) (q : Rec) (locked : Bool) → IsTight d → IsTight (with_loaned a q locked d)
tight_with d a q locked k b r is = elim (cases_Bool (eqb b a)) [
  | inl y ↦
      let z : ◌≡◌ {A = Option Rec} (Some q) (Some r) = sym (cond-true (eqb b a) (Some q) (d.heap b) y) ∙ is in
      let w : q ≡ r = cc in
      cond-true (eqb b a) (length q.values) (d.most b) y ∙ ap (λ (x : Rec). length x.values) w
  | inr n ↦
      cond-false (eqb b a) (length q.values) (d.most b) n ∙
      k b r (sym (cond-false (eqb b a) (Some q) (d.heap b) n) ∙ is)
]

pub tight_loaned : (d e : PieceState) (a : ℕ) (q : Rec) (locked : Bool) → IsTight d → e ≡ with_loaned a q locked d →
    IsTight e
tight_loaned d e a q locked k w = subst IsTight (sym w) (tight_with d a q locked k)

pub tight_based : (d e : PieceState) → IsTight d → e ≡ with_base d → IsTight e
tight_based d e k w = subst IsTight (sym w) k

-- a loan with one record more, or as it was
pub tight_added : (d e : PieceState) (a : ℕ) (q : Rec) (locked : Bool) {E : Type 0} (r : Result (Unit {0}) E) →
    OnOk r (e ≡ with_loaned a q locked d) → OnErr r (e ≡ with_base d) → IsTight d → IsTight e
tight_added d e a q locked (Ok u) y n k = tight_loaned d e a q locked k y
tight_added d e a q locked (Err w) y n k = tight_based d e k n

pub alone_added : (d e : PieceState) (a : ℕ) (q : Rec) (locked : Bool) {E : Type 0} (r : Result (Unit {0}) E) →
    OnOk r (e ≡ with_loaned a q locked d) → OnErr r (e ≡ with_base d) → d.solo ≡ false → e.solo ≡ false
alone_added d e a q locked (Ok u) y n k = ap (λ (z : PieceState). z.solo) y ∙ k
alone_added d e a q locked (Err w) y n k = ap (λ (z : PieceState). z.solo) n ∙ k

-- ---- a loan of which nothing was changed
pub fresh_nothing : (d : PieceState) → d ≡ nothing_loaned → IsFresh d
fresh_nothing d e = subst IsFresh (sym e) (record { heap = refl; edits = refl })

fresh_with : (d : PieceState) (a : ℕ) (q : Rec) (locked : Bool) → IsFresh d → IsFresh (with_loaned a q locked d)
fresh_with d a q locked f = record { heap = ap (λ h. put_at h a q) f.heap; edits = f.edits }

pub fresh_added : (d e : PieceState) (a : ℕ) (q : Rec) (locked : Bool) {E : Type 0} (r : Result (Unit {0}) E) →
    OnOk r (e ≡ with_loaned a q locked d) → OnErr r (e ≡ with_base d) → IsFresh d → IsFresh e
fresh_added d e a q locked (Ok u) y n f = subst IsFresh (sym y) (fresh_with d a q locked f)
fresh_added d e a q locked (Err w) y n f = subst IsFresh (sym n) (record { heap = f.heap; edits = f.edits })

-- ---- the parts of a piece view
-- the state with these parts
abbrev pub state_with : (ℕ → Option OnTerms) → Heap → Heap → List (Addr × Change) → List (Addr × Change) → List Addr →
    Bool → Option Stop → PieceState
state_with terms heap base edits before names solo stopped = record {
  loaned = λ a. loaned_in (terms a);
  heap = heap;
  base = base;
  edits = edits;
  kept = before;
  names = names;
  most = λ a. most_in (terms a);
  locked = λ a. locked_in (terms a);
  solo = solo;
  stopped = stopped;
}

-- with the same parts it is the same
pub states_same : (solo : Bool) (stopped : Option Stop) {terms terms1 : ℕ → Option OnTerms}
    {heap heap1 base base1 : Heap} {edits edits1 before before1 : List (Addr × Change)} {names names1 : List Addr} →
    terms1 ≡ terms → heap1 ≡ heap → base1 ≡ base → edits1 ≡ edits → before1 ≡ before → names1 ≡ names
    → state_with terms1 heap1 base1 edits1 before1 names1 solo stopped
    ≡ state_with terms heap base edits before names solo stopped
states_same solo stopped t h b e k n = λ i. state_with (t i) (h i) (b i) (e i) (k i) (n i) solo stopped

-- and with one record more it has that
pub states_lent : (solo : Bool) (stopped : Option Stop) (terms terms1 : ℕ → Option OnTerms)
    (heap base heap1 base1 : Heap) (edits edits1 before before1 : List (Addr × Change)) (names names1 : List Addr)
    (a : Addr) (q : Rec) (locked : Bool) →
    terms1 ≡ but_at terms a.0 (Some (record { entry = q; most = length q.values; locked = locked })) →
    heap1 ≡ put_at heap a.0 q → base1 ≡ put_at heap a.0 q → edits1 ≡ edits → before1 ≡ edits →
    names1 ≡ names ++ a ∷ []
    → state_with terms1 heap1 base1 edits1 before1 names1 solo stopped
    ≡ with_loaned a.0 q locked (state_with terms heap base edits before names solo stopped)
states_lent solo stopped terms terms1 heap base heap1 base1 edits edits1 before before1 names names1 a q
    locked t h b e k
    n =
    let u : OnTerms = record { entry = q; most = length q.values; locked = locked } in
    λ i. record {
      loaned = field_set loaned_in terms terms1 a.0 u t i;
      heap = h i;
      base = b i;
      edits = e i;
      kept = k i;
      names = n i;
      most = field_set most_in terms terms1 a.0 u t i;
      locked = field_set locked_in terms terms1 a.0 u t i;
      solo = solo;
      stopped = stopped;
    }
