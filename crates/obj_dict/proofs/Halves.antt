-- The loops that list what a dictionary has.
use Rattle.std.proofs.Common.{◌≡◌, ◌≢◌, ℕ, zero, suc, ◌+◌, ◌*◌, ◌<◌, ◌≤◌, Bool, true, false, cond, eqb, List, [], ◌∷◌, ◌++◌, length, drop, take, Some, Result, Ok, Err, refl, sym, ap, subst, ◌∙◌, arith, add-one}
use Rattle.std.proofs.Math.Seq.{drop-cons}
use Rattle.std.proofs.lemmas.List.{length-drop}
use Rattle.std.proofs.lemmas.Bool.{cond-false, ne_eqb}
use Rattle.std.specs.Result.{IsErrAnd}
use Rattle.py_data.specs.declared.value.Value.{Value}
use Rattle.py_data.specs.declared.value.Value.TheVariants.{Unset, Ref}
use Rattle.py_base.specs.declared.kind.Kind.TheVariants.{Tuple}
use Rattle.py_data.specs.declared.stop.Stop.{Stop}
use Rattle.py_data.specs.declared.stop.Stop.TheVariants.{OutOfMemory}
use Rattle.py_data.specs.Heap.{Rec, at, value_at, new_rec}
use Rattle.py_data.specs.Row.{Row, Ret, Do, Read, Make}
use Rattle.py_data.specs.Sense.{Sense, Lawful, Meets, Safe}
use Rattle.py_data.specs.inner.Rest.{Leads, Stands}
use Rattle.py_data.proofs.AfterLook.{stands_made}
use Rattle.py_data.proofs.Rows.{meets_own, meets_do, read_heap, safe_next}
use Rattle.py_data.proofs.Steps.{stands_again, as_err, at_is, leads_do, leads_ret}
use Rattle.obj_dict.specs.Listing.{half, tuples_row}

pub half_next : (second : Bool) (vs : List Value) (i : ℕ) → 2 * i + 1 < length vs →
    half second (take (2 * (i + 1)) vs) ≡ half second (take (2 * i) vs) ++ value_at vs (2 * i + cond second 1 0) ∷ []
half_next second [] i h = absurd (omega arith)
half_next second (k ∷ []) i h = absurd (omega arith)
half_next true (k ∷ x ∷ rest) zero h = refl
half_next false (k ∷ x ∷ rest) zero h = refl
half_next second (k ∷ x ∷ rest) (suc i) h =
    let a : 2 * (suc i + 1) ≡ suc (suc (2 * (i + 1))) = omega arith in
    let b : 2 * suc i ≡ suc (suc (2 * i)) = omega arith in
    let c : 2 * suc i + cond second 1 0 ≡ suc (suc (2 * i + cond second 1 0)) = omega arith in
    rw (a, c, b) (ap (λ t. cond second x k ∷ t) (half_next second rest i (omega arith)))

pub half_end : (second : Bool) (vs : List Value) (i : ℕ) → length vs ≤ 2 * i + 1 →
    half second (take (2 * i) vs) ≡ half second vs
half_end second [] zero h = refl
half_end second (k ∷ []) zero h = refl
half_end second (k ∷ x ∷ rest) zero h = absurd (omega arith)
half_end second [] (suc i) h = let b : 2 * suc i ≡ suc (suc (2 * i)) = omega arith in rw b refl
half_end second (k ∷ []) (suc i) h = let b : 2 * suc i ≡ suc (suc (2 * i)) = omega arith in rw b refl
half_end second (k ∷ x ∷ rest) (suc i) h = let b : 2 * suc i ≡ suc (suc (2 * i)) = omega arith in
    rw b (ap (λ t. cond second x k ∷ t) (half_end second rest i (omega arith)))

-- before the turn for pair i
pub record Tupling {S X : Type 0} (u : Sense S X) (d n : ℕ) (vs : List Value) (i : ℕ) (refs : List Value)
    (v w : X) : Type 0 where
  pub leads : Leads u (tuples_row {S = S} [] vs) v (tuples_row refs (drop (2 * i) vs)) w
  pub now : Rec
  pub stands : Stands u d now w
  pub items : now.values ≡ vs
  pub count : length vs ≡ n

drop_pair : (vs : List Value) (i : ℕ) → 2 * i + 1 < length vs →
    drop (2 * i) vs ≡ value_at vs (2 * i) ∷ value_at vs (2 * i + 1) ∷ drop (2 * (i + 1)) vs
drop_pair vs i h =
    let a = drop-cons vs (2 * i) Unset (omega arith) in
    let b = drop-cons vs (2 * i + 1) Unset h in
    let c : 2 * (i + 1) ≡ suc (2 * i + 1) = omega arith in
    rw c (a ∙ ap (λ t. value_at vs (2 * i) ∷ t) (ap (λ j. drop j vs) (sym (add-one (2 * i))) ∙ b))

module _ {S X : Type 0} {u : Sense S X} {d n : ℕ} {vs : List Value} {i : ℕ} {refs : List Value} {v w : X} where
  pub tupling_next : Tupling u d n vs i refs v w → (key x : Value) (made : Rec) → 2 * i + 1 < n →
      key ≡ value_at vs (2 * i) → x ≡ value_at vs (2 * i + 1) → made ≡ new_rec Tuple (key ∷ x ∷ []) []
      → Leads u (tuples_row {S = S} [] vs) v
      (Do (Make made) (λ b. tuples_row (refs ++ Ref (record { 0 = b }) ∷ []) (drop (2 * (i + 1)) vs))) w
  unfolding tuples_row
  tupling_next h key x made less e f g =
      let inside : 2 * i + 1 < length vs = omega (arith, h.count) in
      let here : drop (2 * i) vs ≡ key ∷ x ∷ drop (2 * (i + 1)) vs = rw (e, f) (drop_pair vs i inside) in
      rw g (subst (λ l. Leads u (tuples_row {S = S} [] vs) v (tuples_row refs l) w) here h.leads)

  pub tupling_more : (L : Lawful u) → Tupling u d n vs i refs v w → (key x : Value) (made : Rec) (b : ℕ) (z : X) →
      2 * i + 1 < n → key ≡ value_at vs (2 * i) → x ≡ value_at vs (2 * i + 1) → made ≡ new_rec Tuple (key ∷ x ∷ []) []
      → u.does (Make made) w b z
      → Tupling u d n vs (i + 1) (refs ++ Ref (record { 0 = b }) ∷ []) v z
  tupling_more L h key x made b z less e f g m = record {
    leads = leads_do L b (tupling_next h key x made less e f g) m;
    now = h.now;
    stands = stands_made L h.stands m;
    items = h.items;
    count = h.count;
  }

  pub tupling_here : Tupling u d n vs i refs v w → (at (u.heap w) d).values ≡ vs
  tupling_here h = ap (λ r. r.values) (at_is (u.heap w) d h.now h.stands.is) ∙ h.items

  pub tupling_looked : (L : Lawful u) {q : Rec} {x : X} → Tupling u d n vs i refs v w → u.does (Read d) w q x → x ≡ w
  tupling_looked L {q = q} h r = stands_again L q h.stands r

pub tuples_end : {S : Type 0} (refs rest : List Value) → length rest ≤ 1 → tuples_row {S = S} refs rest ≡ Ret refs
unfolding tuples_row
tuples_end refs [] h = refl
tuples_end refs (k ∷ []) h = refl
tuples_end refs (k ∷ x ∷ rest) h = absurd (omega arith)

pub tupling_last : {S X : Type 0} {u : Sense S X} {d n : ℕ} {vs : List Value} {i : ℕ} {refs : List Value} {v w : X} →
    Tupling u d n vs i refs v w → n ≤ 2 * i + 1 → Meets u (tuples_row {S = S} [] vs) v w (Ok refs)
tupling_last {S = S} {u = u} {vs = vs} {i = i} {refs = refs} {v = v} {w = w} h less =
    leads_ret (subst (λ row. Leads u (tuples_row {S = S} [] vs) v row w)
    (tuples_end refs (drop (2 * i) vs) (omega (arith, length-drop (2 * i) vs, h.count))) h.leads)

-- both values of a pair were read
pub record PairRead {S X : Type 0} (u : Sense S X) (d n : ℕ) (vs : List Value) (i : ℕ) (refs : List Value) (v w : X)
    (k x : Value) : Type 0 where
  pub still : Tupling u d n vs i refs v w
  pub key : k ≡ value_at vs (2 * i)
  pub value : x ≡ value_at vs (2 * i + 1)

pub pair_read : {S X : Type 0} {u : Sense S X} (L : Lawful u) {d n : ℕ} {vs : List Value} {i : ℕ} {refs : List Value}
    {v w m1 m2 : X} {q p : Rec} (key x : Value) → Tupling u d n vs i refs v w → u.does (Read d) w q m1 →
    key ≡ value_at (at (u.heap w) d).values (2 * i)
    → u.does (Read d) m1 p m2 → x ≡ value_at (at (u.heap m1) d).values (2 * i + 1) → PairRead u d n vs i refs v m2 key x
pair_read {u = u} L {d = d} {n = n} {vs = vs} {i = i} {refs = refs} {v = v} key x h r e s f =
    let same1 = tupling_looked L h r in
    let h1 = subst (Tupling u d n vs i refs v) (sym same1) h in
    let same2 = tupling_looked L h1 s in
    record {
      still = subst (Tupling u d n vs i refs v) (sym same2) h1;
      key = e ∙ ap (λ l. value_at l (2 * i)) (tupling_here h);
      value = f ∙ ap (λ l. value_at l (2 * i + 1)) (tupling_here h1);
    }
