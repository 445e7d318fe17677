-- Keys are equal exactly where their classes are.
use Rattle.std.proofs.Common.{◌≡◌, ℕ, true, Bool, List, Option, Some, None, refl, sym, ap, subst}
use Rattle.std.proofs.lemmas.Bool.Decides.{Decides-int_eq, Decides-eqb}
use Rattle.std.specs.Cmp.Lexicographic.{bytes_decides}
use Rattle.py_data.specs.declared.value.Value.{Value}
use Rattle.py_data.specs.declared.value.Value.TheVariants.{Unset, None as NoneValue, Bool as BoolValue, Int, Ref, Builtin}
use Rattle.py_data.specs.Heap.{Heap}
use Rattle.py_data.specs.Shape.{same_key, same_text, text_in, bit, IsKey}
use Rattle.dict_index.specs.Keys.{KeyClass, Number, Text, Named, Built, text_or_name, class_of}

texts_alike : (a b : ℕ) (x y : Option (List ℕ)) (e : Bool) →
    (e ≡ true → text_or_name a x ≡ text_or_name b y) → same_text e x y ≡ true → text_or_name a x ≡ text_or_name b y
texts_alike a b (Some xs) (Some ys) e f h = ap Text ((bytes_decides xs ys).0 h)
texts_alike a b (Some xs) None e f h = f h
texts_alike a b None (Some ys) e f h = f h
texts_alike a b None None e f h = f h

pub same_class : (h : Heap) (x y : Value) → same_key h x y ≡ true → class_of h x ≡ class_of h y
same_class h (Int i) (Int j) e = ap Number ((Decides-int_eq i j).0 e)
same_class h (Int i) (BoolValue b) e = ap Number ((Decides-int_eq i (bit b)).0 e)
same_class h (BoolValue b) (Int j) e = ap Number ((Decides-int_eq (bit b) j).0 e)
same_class h (BoolValue b) (BoolValue c) e = ap Number ((Decides-int_eq (bit b) (bit c)).0 e)
same_class h NoneValue NoneValue e = refl
same_class h (Builtin i) (Builtin j) e = ap Built ((Decides-eqb i j).0 e)
same_class h (Ref a) (Ref b) e = texts_alike a.0 b.0 (text_in (h a.0)) (text_in (h b.0)) _
    (λ q. ap (λ n. text_or_name n (text_in (h n))) ((Decides-eqb a.0 b.0).0 q)) e
same_class h x y e = cc

alike_texts : (a b : ℕ) (x y : Option (List ℕ)) (e : Bool) → (a ≡ b → e ≡ true) →
    text_or_name a x ≡ text_or_name b y → same_text e x y ≡ true
alike_texts a b (Some xs) (Some ys) e f h = (bytes_decides xs ys).1 cc
alike_texts a b (Some xs) None e f h = cc
alike_texts a b None (Some ys) e f h = cc
alike_texts a b None None e f h = f cc

-- the class of a record
abbrev IsRefClass : KeyClass → Type 0
IsRefClass (Text bs) = Unit {0}
IsRefClass (Named a) = Unit {0}
IsRefClass _ = ⊥

of_record : (a : ℕ) (x : Option (List ℕ)) → IsRefClass (text_or_name a x)
of_record a None = tt
of_record a (Some bs) = tt

other : (c : KeyClass) (a : ℕ) (x : Option (List ℕ)) → c ≡ text_or_name a x → IsRefClass c
other c a x e = subst IsRefClass (sym e) (of_record a x)

pub class_same : (h : Heap) (x y : Value) → IsKey h x → class_of h x ≡ class_of h y → same_key h x y ≡ true
class_same h Unset y k e = absurd k
class_same h (Int i) (Int j) k e = (Decides-int_eq i j).1 cc
class_same h (Int i) (BoolValue b) k e = (Decides-int_eq i (bit b)).1 cc
class_same h (BoolValue b) (Int j) k e = (Decides-int_eq (bit b) j).1 cc
class_same h (BoolValue b) (BoolValue c) k e = (Decides-int_eq (bit b) (bit c)).1 cc
class_same h NoneValue NoneValue k e = refl
class_same h (Builtin i) (Builtin j) k e = (Decides-eqb i j).1 cc
class_same h (Ref a) (Ref b) k e = alike_texts a.0 b.0 (text_in (h a.0)) (text_in (h b.0)) _ (Decides-eqb a.0 b.0).1 e
class_same h NoneValue (Ref b) k e = absurd (other _ b.0 (text_in (h b.0)) e)
class_same h (Int i) (Ref b) k e = absurd (other _ b.0 (text_in (h b.0)) e)
class_same h (BoolValue i) (Ref b) k e = absurd (other _ b.0 (text_in (h b.0)) e)
class_same h (Builtin i) (Ref b) k e = absurd (other _ b.0 (text_in (h b.0)) e)
class_same h (Ref a) y k e = elim y as (λ y. class_of h (Ref a) ≡ class_of h y → same_key h (Ref a) y ≡ true) [
  | Ref b ↦ λ q. alike_texts a.0 b.0 (text_in (h a.0)) (text_in (h b.0)) _ (Decides-eqb a.0 b.0).1 q
  | Unset ↦ λ q. absurd (other _ a.0 (text_in (h a.0)) (sym q))
  | NoneValue ↦ λ q. absurd (other _ a.0 (text_in (h a.0)) (sym q))
  | BoolValue b ↦ λ q. absurd (other _ a.0 (text_in (h a.0)) (sym q))
  | Int b ↦ λ q. absurd (other _ a.0 (text_in (h a.0)) (sym q))
  | Builtin b ↦ λ q. absurd (other _ a.0 (text_in (h a.0)) (sym q))
] e
class_same h x y k e = cc
