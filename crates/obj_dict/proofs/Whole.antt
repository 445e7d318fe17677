-- What the whole rows of dictionaries answer and leave.
use Rattle.std.proofs.Common.{◌≡◌, ℕ, zero, suc, ◌+◌, ◌*◌, ◌<◌, eqb, Bool, true, false, ltb, List, [], ◌∷◌, ◌++◌, length, set, remove, Option, Some, None, refl, sym, ap, subst, ◌∙◌, arith, append_assoc}
use Rattle.std.specs.Prelude.{slice_get, slice_set, option_and_then}
use Rattle.std.proofs.lemmas.Bool.{cond-true, cond-false, ne_eqb}
use Rattle.py_data.specs.declared.value.Value.{Value}
use Rattle.py_data.specs.declared.value.Value.TheVariants.{Unset, None as NoneValue, Bool as BoolValue, Int, Ref, Builtin}
use Rattle.py_data.specs.declared.record.Got.{Got}
use Rattle.py_data.specs.declared.record.Got.TheVariants.{Is, Raise}
use Rattle.py_data.specs.declared.record.TheConstants.{LENGTH_LIMIT}
use Rattle.py_data.specs.Heap.{Heap, Rec, at, value_at, with_value, with_pair, without_pair}
use Rattle.py_data.specs.Shape.{IsKey, KindIn, is_key_kind, find}
use Rattle.py_data.specs.declared.change.Change.TheVariants as change
use Rattle.py_data.specs.Row.{Row, Ret, Do, Read, Find, Edit, bind}
use Rattle.py_data.specs.Fault.{hash_fault, memory_fault}
use Rattle.py_data.specs.Sense.{Sense, Lawful, Edits, Run}
use Rattle.py_data.proofs.Steps.{at_is, put_here}
use Rattle.obj_dict.specs.Dict.{key_row, if_key, value_of_pair, push_at, set_pair, drop_found, get_row, set_row, del_row}
use Rattle.obj_dict.specs.Listing.{half}
use Rattle.obj_dict.specs.PairLaws.{ArePaired}
use Rattle.obj_dict.specs.Laws.{Leaves, value_of, HashLaw, GetLaw, SetLaw, NewLaw, FullLaw, DelLaw, LackLaw}
use Rattle.obj_dict.proofs.FindSteps.{within}
use Rattle.obj_dict.proofs.Pairing.{pair_law_shown, double, double_more}

-- the value of a pair, among the values
half_at : (vs : List Value) (i : ℕ) → 2 * i + 1 < length vs →
    slice_get (half true vs) i ≡ Some (value_at vs (2 * i + 1))
half_at [] i h = absurd (omega arith)
half_at (k ∷ []) i h = absurd (omega arith)
half_at (k ∷ x ∷ rest) zero h = refl
half_at (k ∷ x ∷ rest) (suc i) h = rw double_more (half_at rest i (omega arith))

-- a change of one value, a pair more and a pair less leave pairs
set_paired : (vs : List Value) (i : ℕ) (x : Value) → ArePaired vs → ArePaired (set vs i x)
set_paired [] zero x h = tt
set_paired [] (suc i) x h = tt
set_paired (k ∷ []) i x h = absurd h
set_paired (k ∷ y ∷ rest) zero x h = h
set_paired (k ∷ y ∷ rest) (suc zero) x h = h
set_paired (k ∷ y ∷ rest) (suc (suc i)) x h = set_paired rest i x h

push_paired : (vs : List Value) (key x : Value) → ArePaired vs → ArePaired (vs ++ key ∷ x ∷ [])
push_paired [] key x h = tt
push_paired (k ∷ []) key x h = absurd h
push_paired (k ∷ y ∷ rest) key x h = push_paired rest key x h

drop_paired : (vs : List Value) (k : ℕ) → 2 * k + 1 < length vs → ArePaired vs →
    ArePaired (remove (remove vs (2 * k)) (2 * k))
drop_paired [] k l h = absurd (omega arith)
drop_paired (y ∷ []) k l h = absurd h
drop_paired (y ∷ z ∷ rest) zero l h = h
drop_paired (y ∷ z ∷ rest) (suc k) l h = rw double (drop_paired rest k (omega arith) h)

-- one change of a dictionary
leaves : (d : ℕ) (f : Rec → Rec) (r : Rec) (keys values : List Value) (h h1 : Heap) → h d ≡ Some r → Edits d f h h1 →
    f r ≡ record r { values = (f r).values; room = (f r).room }
    → (ArePaired r.values → ArePaired (f r).values) → half false (f r).values ≡ keys → half true (f r).values ≡ values
    → Leaves d r keys values h h1
leaves d f r keys values h h1 e c s p ks vs = record {
  now = f r;
  is = ap (λ g. g d) c.1 ∙ put_here h d (f (at h d)) ∙ ap (λ q. Some (f q)) (at_is h d r e);
  same = s;
  paired = p;
  first = ks;
  second = vs;
  others = λ b n. ap (λ g. g b) c.1 ∙ cond-false (eqb b d) (Some (f (at h d))) (h b) (ne_eqb b d n);
}

module _ {S X : Type 0} {u : Sense S X} (L : Lawful u) where
  -- a value that can be a key: what follows was done, over the same records
  keyed : {A : Type 0} (rest : Row S (Got A)) (key : Value) (v w : X) (res : Got A) → IsKey (u.heap v) key →
      Run u (bind (key_row key) (if_key rest)) v res w
      → (m : X) × (u.heap m ≡ u.heap v) × Run u rest m res w
  unfolding key_row if_key bind Run
  keyed rest (Ref a) v w res k d =
      let f = L.effect (Read a.0) v d.0 d.1 d.2 in
      let e : is_key_kind d.0.kind ≡ true = subst (λ o. KindIn o (λ k. is_key_kind k ≡ true)) f.0 k in
      (d.1, f.1, subst (λ b. Run u (if_key rest b) d.1 res w) e d.3)
  keyed rest Unset v w res k d = absurd k
  keyed rest NoneValue v w res k d = (v, refl, d)
  keyed rest (BoolValue b) v w res k d = (v, refl, d)
  keyed rest (Int i) v w res k d = (v, refl, d)
  keyed rest (Builtin b) v w res k d = (v, refl, d)

  -- a value that can't
  unkeyed : {A : Type 0} (rest : Row S (Got A)) (key : Value) (v w : X) (res : Got A) → (IsKey (u.heap v) key → ⊥) →
      Run u (bind (key_row key) (if_key rest)) v res w
      → (res ≡ Raise hash_fault) × (u.heap w ≡ u.heap v)
  unfolding key_row if_key bind Run
  unkeyed rest (Ref a) v w res n d =
      let f = L.effect (Read a.0) v d.0 d.1 d.2 in
      by (is_key_kind d.0.kind) (λ k. n (subst (λ o. KindIn o (λ k. is_key_kind k ≡ true)) (sym f.0) k)) f.1 d.3
    where
      by : (b : Bool) → (b ≡ true → ⊥) → u.heap d.1 ≡ u.heap v → Run u (if_key rest b) d.1 res w →
          (res ≡ Raise hash_fault) × (u.heap w ≡ u.heap v)
      by true n e g = absurd (n refl)
      by false n e g = (g.0, ap u.heap g.1 ∙ e)
  unkeyed rest Unset v w res n d = (d.0, ap u.heap d.1)
  unkeyed rest NoneValue v w res n d = absurd (n tt)
  unkeyed rest (BoolValue b) v w res n d = absurd (n tt)
  unkeyed rest (Int i) v w res n d = absurd (n tt)
  unkeyed rest (Builtin b) v w res n d = absurd (n tt)

  -- a key was looked for: what follows was done with the place that it has, over the same records
  found : {A : Type 0} (k : Option ℕ → Row S (Got A)) (d : ℕ) (key : Value) (r : Rec) (v w : X) (res : Got A) →
      u.heap v d ≡ Some r → IsKey (u.heap v) key
      → Run u (bind (key_row key) (if_key (Do (Find d key) k))) v res w →
      (m : X) × (u.heap m ≡ u.heap v) × Run u (k (find (u.heap v) r.values key)) m res w
  unfolding Run
  found k d key r v w res e i g =
      let b = keyed (Do (Find d key) k) key v w res i g in
      let c = b.2 in
      let f = L.effect (Find d key) b.0 c.0 c.1 c.2 in
      let o : c.0 ≡ find (u.heap v) r.values key = f.1 ∙ ap (λ h. find h (at h d).values key) b.1 ∙
      ap (λ q. find (u.heap v) q.values key) (at_is (u.heap v) d r e) in
      (c.1, f.2 ∙ b.1, subst (λ o. Run u (k o) c.1 res w) o c.3)

  -- a look at the dictionary over the same records
  looked : {A : Type 0} (k : Rec → Row S A) (d : ℕ) (r : Rec) (v m w : X) (res : A) → u.heap v d ≡ Some r →
      u.heap m ≡ u.heap v → Run u (Do (Read d) k) m res w
      → (n : X) × (u.heap n ≡ u.heap v) × Run u (k r) n res w
  unfolding Run
  looked k d r v m w res e s g =
      let f = L.effect (Read d) m g.0 g.1 g.2 in
      let q : g.0 ≡ r = let h = sym f.0 ∙ ap (λ h. h d) s ∙ e in cc in
      (g.1, f.1 ∙ s, subst (λ q. Run u (k q) g.1 res w) q g.3)

  pub hash_law_shown : HashLaw u
  unfolding get_row set_row del_row
  hash_law_shown = (
    λ d key v w res n g. unkeyed (Do (Find d key) (value_of_pair d)) key v w res n g,
    λ x d key v w res n g. unkeyed (Do (Find d key) (set_pair d key x)) key v w res n g,
    λ d key v w res n g. unkeyed (Do (Find d key) (drop_found d key)) key v w res n g,
  )

  got : (d : ℕ) (key : Value) (r : Rec) (o : Option ℕ) (v m w : X) (res : Got (Option Value)) → u.heap v d ≡ Some r →
      u.heap m ≡ u.heap v → find (u.heap v) r.values key ≡ o
      → Run u (value_of_pair d o) m res w → (res ≡ Is (option_and_then (value_of r) o)) × (u.heap w ≡ u.heap v)
  unfolding value_of_pair Run
  got d key r None v m w res e s f g = (g.0, ap u.heap g.1 ∙ s)
  got d key r (Some i) v m w res e s f g =
      let l = looked (λ r. Ret (Is (Some (value_at r.values (2 * i + 1))))) d r v m w res e s g in
      let a = (within (u.heap v) r.values key 0 i f).1 in
      (l.2.0 ∙ ap (λ o. Is o) (sym (half_at r.values i (omega arith))), ap u.heap l.2.1 ∙ l.1)

  pub get_law_shown : GetLaw u
  unfolding get_row
  get_law_shown d key r v w res e i g =
      let f = found (value_of_pair d) d key r v w res e i g in
      got d key r (find (u.heap v) r.values key) v f.0 w res e f.1 refl f.2

  -- an edit over the same records
  edited : (d : ℕ) (f : Rec → Rec) (h h0 h1 : Heap) → h0 ≡ h → Edits d f h0 h1 → Edits d f h h1
  edited d f h h0 h1 e c = subst (λ h. Edits d f h h1) e c

  pub set_law : SetLaw u
  unfolding set_row set_pair Run
  set_law d key x r i v w res e k p g =
      let f = found (set_pair d key x) d key r v w res e k g in
      let c = subst (λ o. Run u (set_pair d key x o) f.0 res w) p f.2 in
      let a = (within (u.heap v) r.values key 0 i p).1 in
      let less : 2 * i + 1 < length r.values = omega arith in
      let c1 = edited d (with_value (2 * i + 1) x) (u.heap v) (u.heap f.0) (u.heap c.1) f.1
      (L.effect (Edit d (change.Set (2 * i + 1) x)) f.0 tt c.1 c.2) in
      let l = leaves d (with_value (2 * i + 1) x) r (half false r.values) (slice_set (half true r.values) i x)
      (u.heap v) (u.heap c.1) e c1 refl (set_paired r.values (2 * i + 1) x) (pair_law_shown.keys_stay r i x)
      (pair_law_shown.value_set r i x less) in (
        c.3.0,
        subst (λ z. Leaves d r (half false r.values) (slice_set (half true r.values) i x) (u.heap v) (u.heap z))
            (sym c.3.1) l,
      )

  -- what is done with a key that isn't there
  pushed : (d : ℕ) (key x : Value) (r : Rec) (v w : X) (res : Got (Unit {0})) → u.heap v d ≡ Some r →
      IsKey (u.heap v) key → find (u.heap v) r.values key ≡ None → Run u (set_row d key x) v res w
      → (n : X) × (u.heap n ≡ u.heap v) × Run u (push_at d key x r) n res w
  unfolding set_row set_pair
  pushed d key x r v w res e k p g =
      let f = found (set_pair d key x) d key r v w res e k g in
      let c = subst (λ o. Run u (set_pair d key x o) f.0 res w) p f.2 in
      looked (push_at d key x) d r v f.0 w res e f.1 c

  pub new_law : NewLaw u
  unfolding Run
  new_law d key x r v w res e k p a less g =
      let f = pushed d key x r v w res e k p g in
      let c = subst (λ q. Run u q f.0 res w)
      (cond-true (ltb (length r.values + 1) LENGTH_LIMIT) (Do (Edit d (change.Pair key x)) (λ _. Ret (Is tt)))
      (Ret (Raise memory_fault)) (grind arith)) f.2 in
      let c1 = edited d (with_pair key x) (u.heap v) (u.heap f.0) (u.heap c.1) f.1
      (L.effect (Edit d (change.Pair key x)) f.0 tt c.1 c.2) in
      let two = append_assoc r.values (key ∷ []) (x ∷ []) in
      let l = leaves d (with_pair key x) r (half false r.values ++ key ∷ []) (half true r.values ++ x ∷ []) (u.heap v)
      (u.heap c.1) e c1 refl (λ a. subst ArePaired (sym two) (push_paired r.values key x a))
      (pair_law_shown.pair_last false r key x a) (pair_law_shown.pair_last true r key x a) in (
        c.3.0,
        subst (λ z. Leaves d r (half false r.values ++ key ∷ []) (half true r.values ++ x ∷ []) (u.heap v)
            (u.heap z)) (sym c.3.1) l,
      )

  pub full_law : FullLaw u
  unfolding Run
  full_law d key x r v w res e k p more g =
      let f = pushed d key x r v w res e k p g in
      let c = subst (λ q. Run u q f.0 res w)
      (cond-false (ltb (length r.values + 1) LENGTH_LIMIT) (Do (Edit d (change.Pair key x)) (λ _. Ret (Is tt)))
      (Ret (Raise memory_fault)) (grind arith)) f.2 in
      (c.0, ap u.heap c.1 ∙ f.1)

  pub del_law : DelLaw u
  unfolding del_row drop_found Run
  del_law d key r i v w res e k p g =
      let f = found (drop_found d key) d key r v w res e k g in
      let c0 = subst (λ o. Run u (drop_found d key o) f.0 res w) p f.2 in
      let n = looked (λ r. Do (Edit d (change.Unpair i)) (λ _. Ret (Is (value_at r.values (2 * i + 1))))) d r v f.0 w
      res e f.1 c0 in
      let c = n.2 in
      let a = (within (u.heap v) r.values key 0 i p).1 in
      let less : 2 * i + 1 < length r.values = omega arith in
      let c1 = edited d (without_pair i) (u.heap v) (u.heap n.0) (u.heap c.1) n.1
      (L.effect (Edit d (change.Unpair i)) n.0 tt c.1 c.2) in
      let l = leaves d (without_pair i) r (remove (half false r.values) i) (remove (half true r.values) i) (u.heap v)
      (u.heap c.1) e c1 refl (drop_paired r.values i less) (pair_law_shown.gap_closed false r i less)
      (pair_law_shown.gap_closed true r i less) in (
        value_at r.values (2 * i + 1),
        c.3.0,
        half_at r.values i less,
        subst (λ z. Leaves d r (remove (half false r.values) i) (remove (half true r.values) i) (u.heap v)
            (u.heap z)) (sym c.3.1) l,
      )

  pub lack_law : LackLaw u
  unfolding del_row drop_found Run
  lack_law d key r v w res e k p g =
      let f = found (drop_found d key) d key r v w res e k g in
      let c = subst (λ o. Run u (drop_found d key o) f.0 res w) p f.2 in
      (c.0, ap u.heap c.1 ∙ f.1)
