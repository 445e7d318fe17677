-- Pairs with different keys: one more at the end, one that goes, and one with another value.
use Rattle.std.proofs.Common.{arith, ◌≡◌, ℕ, zero, suc, ◌+◌, ◌*◌, Bool, true, false, cond, eqb, List, [], ◌∷◌, ◌++◌, remove, set, Option, Some, None, refl, sym, ap, subst, ◌∙◌}
use Rattle.std.proofs.lemmas.Cmp.{int_eq_equiv, nat_eq_equiv, nat_list_eq_equiv}
use Rattle.py_data.specs.declared.value.Value.{Value}
use Rattle.py_data.specs.declared.value.Value.TheVariants.{Unset, None as NoneValue, Bool as BoolValue, Int, Ref, Builtin}
use Rattle.py_data.specs.Heap.{Heap}
use Rattle.py_data.specs.Shape.{bit, same_key, same_text, text_in, find_from, IsKey, ArePairs, KeysDiffer}

-- ---- equal keys, either way round
text_sym : (a b : Bool) (x y : Option (List ℕ)) → a ≡ b → same_text a x y ≡ same_text b y x
text_sym a b (Some xs) (Some ys) e = nat_list_eq_equiv.symm xs ys
text_sym a b None None e = e
text_sym a b None (Some y) e = e
text_sym a b (Some x) None e = e

pub key_sym : (h : Heap) (x y : Value) → same_key h x y ≡ same_key h y x
key_sym h (Int i) (Int j) = int_eq_equiv.symm i j
key_sym h (Int i) (BoolValue b) = int_eq_equiv.symm i (bit b)
key_sym h (BoolValue b) (Int j) = int_eq_equiv.symm (bit b) j
key_sym h (BoolValue b) (BoolValue c) = int_eq_equiv.symm (bit b) (bit c)
key_sym h NoneValue NoneValue = refl
key_sym h (Builtin i) (Builtin j) = nat_eq_equiv.symm i j
key_sym h (Ref a) (Ref b) = text_sym (eqb a.0 b.0) (eqb b.0 a.0) (text_in (h a.0)) (text_in (h b.0))
    (nat_eq_equiv.symm a.0 b.0)
key_sym h Unset Unset = refl
key_sym h Unset NoneValue = refl
key_sym h Unset (BoolValue c) = refl
key_sym h Unset (Int j) = refl
key_sym h Unset (Ref e) = refl
key_sym h Unset (Builtin m) = refl
key_sym h NoneValue Unset = refl
key_sym h NoneValue (BoolValue c) = refl
key_sym h NoneValue (Int j) = refl
key_sym h NoneValue (Ref e) = refl
key_sym h NoneValue (Builtin m) = refl
key_sym h (BoolValue b) Unset = refl
key_sym h (BoolValue b) NoneValue = refl
key_sym h (BoolValue b) (Ref e) = refl
key_sym h (BoolValue b) (Builtin m) = refl
key_sym h (Int i) Unset = refl
key_sym h (Int i) NoneValue = refl
key_sym h (Int i) (Ref e) = refl
key_sym h (Int i) (Builtin m) = refl
key_sym h (Ref a) Unset = refl
key_sym h (Ref a) NoneValue = refl
key_sym h (Ref a) (BoolValue c) = refl
key_sym h (Ref a) (Int j) = refl
key_sym h (Ref a) (Builtin m) = refl
key_sym h (Builtin n) Unset = refl
key_sym h (Builtin n) NoneValue = refl
key_sym h (Builtin n) (BoolValue c) = refl
key_sym h (Builtin n) (Int j) = refl
key_sym h (Builtin n) (Ref e) = refl

-- ---- dictionaries
-- a value that is found nowhere isn't equal to the first key
not_first : (h : Heap) (n : ℕ) (k v : Value) (rest : List Value) (key : Value) →
    find_from h n (k ∷ v ∷ rest) key ≡ None → (same_key h k key ≡ false) × (find_from h (n + 1) rest key ≡ None)
not_first h n k v rest key e = by (same_key h k key) refl
  where
    by : (b : Bool) → same_key h k key ≡ b → (same_key h k key ≡ false) × (find_from h (n + 1) rest key ≡ None)
    by true s = absurd (let f : ◌≡◌ {A = Option ℕ} (Some n) None =
        sym (ap (λ b. cond b (Some n) (find_from h (n + 1) rest key)) s) ∙ e in cc)
    by false s = (s, sym (ap (λ b. cond b (Some n) (find_from h (n + 1) rest key)) s) ∙ e)

none_from : (h : Heap) (n : ℕ) (k v : Value) (rest : List Value) (key : Value) → same_key h k key ≡ false →
    find_from h (n + 1) rest key ≡ None → find_from h n (k ∷ v ∷ rest) key ≡ None
none_from h n k v rest key s e = ap (λ b. cond b (Some n) (find_from h (n + 1) rest key)) s ∙ e

-- of pairs the count at which a search begins says nothing of whether a key is there
none_any : (h : Heap) (n m : ℕ) (vs : List Value) (key : Value) → find_from h n vs key ≡ None →
    find_from h m vs key ≡ None
none_any h n m [] key e = refl
none_any h n m (k ∷ []) key e = refl
none_any h n m (k ∷ v ∷ rest) key e = let s = not_first h n k v rest key e in
    none_from h m k v rest key s.0 (none_any h (n + 1) (m + 1) rest key s.1)

none_behind : (h : Heap) (n : ℕ) (vs : List Value) (key x k : Value) → ArePairs h vs → find_from h n vs k ≡ None →
    same_key h key k ≡ false → find_from h n (vs ++ key ∷ x ∷ []) k ≡ None
none_behind h n [] key x k p e s = none_from h n key x [] k s refl
none_behind h n (j ∷ []) key x k p e s = absurd p
none_behind h n (j ∷ v ∷ rest) key x k p e s = let f = not_first h n j v rest k e in
    none_from h n j v (rest ++ key ∷ x ∷ []) k f.0 (none_behind h (n + 1) rest key x k p.1 f.1 s)

-- ---- a pair with a new key comes last
pub pairs_last : (h : Heap) (vs : List Value) (key x : Value) → ArePairs h vs → IsKey h key →
    ArePairs h (vs ++ key ∷ x ∷ [])
pairs_last h [] key x p k = (k, tt)
pairs_last h (j ∷ []) key x p k = absurd p
pairs_last h (j ∷ v ∷ rest) key x p k = (p.0, pairs_last h rest key x p.1 k)

pub differ_last : (h : Heap) (vs : List Value) (key x : Value) → ArePairs h vs → KeysDiffer h vs →
    find_from h 0 vs key ≡ None → KeysDiffer h (vs ++ key ∷ x ∷ [])
differ_last h [] key x p d e = (refl, tt)
differ_last h (j ∷ []) key x p d e = absurd p
differ_last h (j ∷ v ∷ rest) key x p d e =
    let f = not_first h 0 j v rest key e in (
      none_behind h 0 rest key x j p.1 d.0 (key_sym h key j ∙ f.0),
      differ_last h rest key x p.1 d.1 (none_any h 1 0 rest key f.1),
    )

-- ---- a pair goes
abbrev pub gone : List Value → ℕ → List Value
gone vs k = remove (remove vs (2 * k)) (2 * k)

odd : (k : ℕ) → 2 * suc k + 1 ≡ suc (suc (2 * k + 1))
odd k = omega arith

two : (k : ℕ) → 2 * suc k ≡ suc (suc (2 * k))
two k = omega arith

pub pairs_gone : (h : Heap) (vs : List Value) (k : ℕ) → ArePairs h vs → ArePairs h (gone vs k)
pairs_gone h [] k p = subst (ArePairs h) (sym (none k)) tt
  where
    none : (k : ℕ) → gone [] k ≡ []
    none zero = refl
    none (suc k) = rw two refl
pairs_gone h (j ∷ []) k p = absurd p
pairs_gone h (j ∷ v ∷ rest) zero p = p.1
pairs_gone h (j ∷ v ∷ rest) (suc k) p = rw two (p.0, pairs_gone h rest k p.1)

none_gone : (h : Heap) (n : ℕ) (vs : List Value) (k : ℕ) (key : Value) → ArePairs h vs → find_from h n vs key ≡ None →
    find_from h n (gone vs k) key ≡ None
none_gone h n [] zero key p e = refl
none_gone h n [] (suc k) key p e = rw two refl
none_gone h n (j ∷ []) k key p e = absurd p
none_gone h n (j ∷ v ∷ rest) zero key p e = let f = not_first h n j v rest key e in none_any h (n + 1) n rest key f.1
none_gone h n (j ∷ v ∷ rest) (suc k) key p e = let f = not_first h n j v rest key e in
    rw two (none_from h n j v (gone rest k) key f.0 (none_gone h (n + 1) rest k key p.1 f.1))

pub differ_gone : (h : Heap) (vs : List Value) (k : ℕ) → ArePairs h vs → KeysDiffer h vs → KeysDiffer h (gone vs k)
differ_gone h [] zero p d = tt
differ_gone h [] (suc k) p d = rw two tt
differ_gone h (j ∷ []) k p d = absurd p
differ_gone h (j ∷ v ∷ rest) zero p d = d.1
differ_gone h (j ∷ v ∷ rest) (suc k) p d = rw two (none_gone h 0 rest k j p.1 d.0, differ_gone h rest k p.1 d.1)

-- ---- another value of a pair
set_none : (n : ℕ) (x : Value) → set [] n x ≡ []
set_none zero x = refl
set_none (suc n) x = refl

pub pairs_set : (h : Heap) (vs : List Value) (k : ℕ) (x : Value) → ArePairs h vs → ArePairs h (set vs (2 * k + 1) x)
pairs_set h [] k x p = subst (ArePairs h) (sym (set_none (2 * k + 1) x)) tt
pairs_set h (j ∷ []) k x p = absurd p
pairs_set h (j ∷ v ∷ rest) zero x p = p
pairs_set h (j ∷ v ∷ rest) (suc k) x p = rw odd (p.0, pairs_set h rest k x p.1)

find_set : (h : Heap) (n : ℕ) (vs : List Value) (k : ℕ) (x key : Value) → ArePairs h vs →
    find_from h n (set vs (2 * k + 1) x) key ≡ find_from h n vs key
find_set h n [] k x key p = ap (λ l. find_from h n l key) (set_none (2 * k + 1) x)
find_set h n (j ∷ []) k x key p = absurd p
find_set h n (j ∷ v ∷ rest) zero x key p = refl
find_set h n (j ∷ v ∷ rest) (suc k) x key p =
    rw odd (ap (cond (same_key h j key) (Some n)) (find_set h (n + 1) rest k x key p.1))

pub differ_set : (h : Heap) (vs : List Value) (k : ℕ) (x : Value) → ArePairs h vs → KeysDiffer h vs →
    KeysDiffer h (set vs (2 * k + 1) x)
differ_set h [] k x p d = subst (KeysDiffer h) (sym (set_none (2 * k + 1) x)) tt
differ_set h (j ∷ []) k x p d = absurd p
differ_set h (j ∷ v ∷ rest) zero x p d = d
differ_set h (j ∷ v ∷ rest) (suc k) x p d = rw odd (find_set h 0 rest k x j p.1 ∙ d.0, differ_set h rest k x p.1 d.1)
