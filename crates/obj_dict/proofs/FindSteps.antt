-- What follows once a key was looked for.
use Rattle.std.proofs.Common.{◌≡◌, ℕ, ◌+◌, ◌*◌, ◌<◌, ◌≤◌, Bool, true, false, cond, List, [], ◌∷◌, length, Option, Some, None, Ok, IsSome, unwrap_or, sym, subst, ◌∙◌, arith}
use Rattle.py_data.specs.declared.value.Value.{Value}
use Rattle.py_data.specs.declared.record.Got.{Got}
use Rattle.py_data.specs.Heap.{Heap, Rec, at, blank}
use Rattle.py_data.specs.Shape.{same_key, find_from}
use Rattle.py_data.specs.Row.{Row, Do, Find, bind}
use Rattle.py_data.specs.Sense.{Sense, Lawful, Safe, Meets, IfThere, IsLive}
use Rattle.py_data.specs.inner.Rest.{Leads}
use Rattle.py_data.proofs.Steps.{leads_begin, leads_do, safe_then}
use Rattle.obj_dict.specs.Dict.{key_row, if_key}

pub within : (h : Heap) (vs : List Value) (key : Value) (n i : ℕ) → find_from h n vs key ≡ Some i →
    (n ≤ i) × (2 * i + 1 < 2 * n + length vs)
within h [] key n i e = cc
within h (k ∷ []) key n i e = cc
within h (k ∷ v ∷ rest) key n i e = by (same_key h k key) (λ f. within h rest key (n + 1) i f) e
  where
    by : (b : Bool) → (find_from h (n + 1) rest key ≡ Some i → (n + 1 ≤ i) × (2 * i + 1 < 2 * (n + 1) + length rest)) →
        cond b (Some n) (find_from h (n + 1) rest key) ≡ Some i → (n ≤ i) × (2 * i + 1 < 2 * n + length (k ∷ v ∷ rest))
    by true g f = let q : n ≡ i = cc in (omega arith, omega arith)
    by false g f = let r = g f in let a = r.0 in let b = r.1 in (omega arith, omega arith)

-- the value of a pair that was found is there
pub value_there : {S X : Type 0} (u : Sense S X) (L : Lawful u) (d : ℕ) (key : Value) (m w : X) (o : Option ℕ) (i : ℕ)
    → u.does (Find d key) m o w → o ≡ Some i → IfThere u.partial (u.heap w d) (λ r. 2 * i + 1 < length r.values)
unfolding at
value_there u L d key m w o i h e =
    let f = L.effect (Find d key) m o w h in
    let g = within (u.heap m) (at (u.heap m) d).values key 0 i (sym f.1 ∙ e) in
    let less : 2 * i + 1 < length (at (u.heap m) d).values = let a = g.1 in omega arith in
    subst (λ k. IfThere u.partial (k d) (λ r. 2 * i + 1 < length r.values)) (sym f.2) (there (u.heap m d) f.0 less)
  where
    there : (p : Option Rec) → IsSome p → 2 * i + 1 < length (unwrap_or p blank).values →
        IfThere u.partial p (λ r. 2 * i + 1 < length r.values)
    there None h l = cc
    there (Some r) h l = l

module _ {S X A : Type 0} {u : Sense S X} (L : Lawful u) {d : ℕ} {key : Value} {v w : X} where
  -- what is left of a row once the key was looked for
  pub found_leads : (k : Option ℕ → Row S A) (o o1 : Option ℕ) → u.does (Find d key) v o w → o ≡ o1 →
      Safe u.partial (Do (Find d key) k) (u.heap v) → IsLive u v → Leads u (Do (Find d key) k) v (k o1) w
  found_leads k o o1 h e s l = subst (λ p. Leads u (Do (Find d key) k) v (k p) w) e
      (leads_do L o (leads_begin u (Do (Find d key) k) v s l) h)

-- what is asked once a value was found to be a possible key
pub keyed_safe : {S X A : Type 0} (u : Sense S X) (L : Lawful u) (key : Value) (row : Row S (Got A)) (v m : X)
    (b : Bool) → Safe u.partial (bind (key_row key) (if_key row)) (u.heap v) → Meets u (key_row key) v m (Ok b) →
    b ≡ true → Safe u.partial row (u.heap m)
unfolding if_key
keyed_safe {S} u L key row v m b s h e = subst (λ b. Safe u.partial (if_key row b) (u.heap m)) e
    (safe_then u L (key_row key) (if_key row) v m b s h)
