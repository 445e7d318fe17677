-- Equality of keys is an equivalence.
use Rattle.std.proofs.Common.{◌≡◌, ◌≢◌, ℕ, ℤ, Bool, true, false, List, Option, Some, None, refl, sym, ap, ◌∙◌}
use Rattle.std.specs.Prelude.{eqb}
use Rattle.std.specs.Ordering.{int_eq}
use Rattle.std.proofs.lemmas.Bool.{eqb-true}
use Rattle.std.proofs.lemmas.Bool.Decides.{Decides-int_eq, Decides-eqb}
use Rattle.std.proofs.lemmas.Slice.Eq.{bytes_eq-Decides}
use Rattle.py_data.specs.declared.value.Value.{Value}
use Rattle.py_data.specs.declared.value.Value.TheVariants.{Unset, None as NoneValue, Bool as BoolValue, Int, Ref, Builtin}
use Rattle.py_data.specs.Heap.{Heap}
use Rattle.py_data.specs.Shape.{bit, same_key, same_text, same_bytes, text_in}
use Rattle.py_data.proofs.PairLists.{key_sym}

-- ---- equal to itself
text_same : (t : Option (List ℕ)) → same_text true t t ≡ true
text_same None = refl
text_same (Some bs) = (bytes_eq-Decides bs bs).1 refl

pub key_same : (h : Heap) (x : Value) → x ≢ Unset → same_key h x x ≡ true
key_same h (Int i) s = (Decides-int_eq i i).1 refl
key_same h (BoolValue b) s = (Decides-int_eq (bit b) (bit b)).1 refl
key_same h NoneValue s = refl
key_same h (Builtin n) s = (Decides-eqb n n).1 refl
key_same h (Ref a) s = ap (λ b. same_text b (text_in (h a.0)) (text_in (h a.0))) ((Decides-eqb a.0 a.0).1 refl) ∙
    text_same (text_in (h a.0))
key_same h Unset s = absurd (s refl)

-- ---- what is equal is equal to the same keys
bit_key : (h : Heap) (b : Bool) (z : Value) → same_key h (BoolValue b) z ≡ same_key h (Int (bit b)) z
bit_key h b (Int m) = refl
bit_key h b (BoolValue c) = refl
bit_key h b Unset = refl
bit_key h b NoneValue = refl
bit_key h b (Ref a) = refl
bit_key h b (Builtin n) = refl

-- two numbers that are equal
same_number : (h : Heap) (i j : ℤ) (z : Value) → int_eq i j ≡ true → same_key h (Int i) z ≡ same_key h (Int j) z
same_number h i j z e = ap (λ n. same_key h (Int n) z) ((Decides-int_eq i j).0 e)

-- addresses whose records are a string and none are different
apart : (h : Heap) (a c : ℕ) (bs : List ℕ) → text_in (h a) ≡ Some bs → text_in (h c) ≡ None → eqb a c ≡ false
apart h a c bs ea ec = by (eqb a c) refl
  where
    by : (b : Bool) → eqb a c ≡ b → b ≡ false
    by false e = refl
    by true e = absurd (let q : ◌≡◌ {A = Option (List ℕ)} (Some bs) None = sym ea ∙
        (ap (λ k. text_in (h k)) (eqb-true a c e) ∙ ec) in cc)

-- the same test of a third address: by the bytes of two strings, else by the address
module _ (h : Heap) (a b c : ℕ) where
  by_texts : (x y z : Option (List ℕ)) → text_in (h a) ≡ x → text_in (h b) ≡ y → text_in (h c) ≡ z →
      same_text (eqb a b) x y ≡ true → same_text (eqb a c) x z ≡ same_text (eqb b c) y z
  by_texts (Some xs) (Some ys) (Some zs) ex ey ez e = ap (λ l. same_bytes l zs) ((bytes_eq-Decides xs ys).0 e)
  by_texts (Some xs) (Some ys) None ex ey ez e = apart h a c xs ex ez ∙ sym (apart h b c ys ey ez)
  by_texts None None None ex ey ez e = ap (λ k. eqb k c) (eqb-true a b e)
  by_texts None None (Some zs) ex ey ez e = ap (λ k. eqb k c) (eqb-true a b e)
  by_texts (Some xs) None z ex ey ez e =
      absurd (let q : ◌≡◌ {A = Option (List ℕ)} (Some xs) None = sym ex ∙
      (ap (λ k. text_in (h k)) (eqb-true a b e) ∙ ey) in cc)
  by_texts None (Some ys) z ex ey ez e =
      absurd (let q : ◌≡◌ {A = Option (List ℕ)} None (Some ys) = sym ex ∙
      (ap (λ k. text_in (h k)) (eqb-true a b e) ∙ ey) in cc)

pub key_congr : (h : Heap) (x y z : Value) → same_key h x y ≡ true → same_key h x z ≡ same_key h y z
key_congr h (Int i) (Int j) z e = same_number h i j z e
key_congr h (Int i) (BoolValue c) z e = same_number h i (bit c) z e ∙ sym (bit_key h c z)
key_congr h (BoolValue b) (Int j) z e = bit_key h b z ∙ same_number h (bit b) j z e
key_congr h (BoolValue b) (BoolValue c) z e = bit_key h b z ∙ (same_number h (bit b) (bit c) z e ∙ sym (bit_key h c z))
key_congr h NoneValue NoneValue z e = refl
key_congr h (Builtin n) (Builtin m) z e = ap (λ k. same_key h (Builtin k) z) (eqb-true n m e)
key_congr h (Ref a) (Ref e1) z e = third z
  where
    third : (z : Value) → same_key h (Ref a) z ≡ same_key h (Ref e1) z
    third (Ref c) = by_texts h a.0 e1.0 c.0 (text_in (h a.0)) (text_in (h e1.0)) (text_in (h c.0)) refl refl refl e
    third Unset = refl
    third NoneValue = refl
    third (BoolValue c) = refl
    third (Int k) = refl
    third (Builtin n) = refl
key_congr h Unset Unset z e = absurd (let q : false ≡ true = e in cc)
key_congr h Unset NoneValue z e = absurd (let q : false ≡ true = e in cc)
key_congr h Unset (BoolValue c) z e = absurd (let q : false ≡ true = e in cc)
key_congr h Unset (Int j) z e = absurd (let q : false ≡ true = e in cc)
key_congr h Unset (Ref e1) z e = absurd (let q : false ≡ true = e in cc)
key_congr h Unset (Builtin m) z e = absurd (let q : false ≡ true = e in cc)
key_congr h NoneValue Unset z e = absurd (let q : false ≡ true = e in cc)
key_congr h NoneValue (BoolValue c) z e = absurd (let q : false ≡ true = e in cc)
key_congr h NoneValue (Int j) z e = absurd (let q : false ≡ true = e in cc)
key_congr h NoneValue (Ref e1) z e = absurd (let q : false ≡ true = e in cc)
key_congr h NoneValue (Builtin m) z e = absurd (let q : false ≡ true = e in cc)
key_congr h (BoolValue b) Unset z e = absurd (let q : false ≡ true = e in cc)
key_congr h (BoolValue b) NoneValue z e = absurd (let q : false ≡ true = e in cc)
key_congr h (BoolValue b) (Ref e1) z e = absurd (let q : false ≡ true = e in cc)
key_congr h (BoolValue b) (Builtin m) z e = absurd (let q : false ≡ true = e in cc)
key_congr h (Int i) Unset z e = absurd (let q : false ≡ true = e in cc)
key_congr h (Int i) NoneValue z e = absurd (let q : false ≡ true = e in cc)
key_congr h (Int i) (Ref e1) z e = absurd (let q : false ≡ true = e in cc)
key_congr h (Int i) (Builtin m) z e = absurd (let q : false ≡ true = e in cc)
key_congr h (Ref a) Unset z e = absurd (let q : false ≡ true = e in cc)
key_congr h (Ref a) NoneValue z e = absurd (let q : false ≡ true = e in cc)
key_congr h (Ref a) (BoolValue c) z e = absurd (let q : false ≡ true = e in cc)
key_congr h (Ref a) (Int j) z e = absurd (let q : false ≡ true = e in cc)
key_congr h (Ref a) (Builtin m) z e = absurd (let q : false ≡ true = e in cc)
key_congr h (Builtin n) Unset z e = absurd (let q : false ≡ true = e in cc)
key_congr h (Builtin n) NoneValue z e = absurd (let q : false ≡ true = e in cc)
key_congr h (Builtin n) (BoolValue c) z e = absurd (let q : false ≡ true = e in cc)
key_congr h (Builtin n) (Int j) z e = absurd (let q : false ≡ true = e in cc)
key_congr h (Builtin n) (Ref e1) z e = absurd (let q : false ≡ true = e in cc)

pub key_trans : (h : Heap) (x y z : Value) → same_key h x y ≡ true → same_key h y z ≡ true → same_key h x z ≡ true
key_trans h x y z e f = key_congr h x y z e ∙ f

pub key_turned : (h : Heap) (x y : Value) → same_key h x y ≡ true → same_key h y x ≡ true
key_turned h x y e = key_sym h y x ∙ e
