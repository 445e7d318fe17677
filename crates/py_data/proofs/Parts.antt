-- What is safe over a heap is safe over a view of a part of it.
use Rattle.std.proofs.Common.{◌≡◌, ℕ, ◌+◌, Bool, true, false, cond, eqb, List, [], ◌∷◌, Option, Some, None, IsSome, MatchOption, refl, sym, ◌∙◌, ap, subst, inl, inr}
use Rattle.std.proofs.lemmas.Bool.{cases_Bool, eqb-true, cond-true, cond-false, both_ways, eq-eqb, and_from}
use Rattle.std.specs.Prelude.{nat_eq}
use Rattle.py_data.specs.declared.value.Value.{Value}
use Rattle.py_data.specs.declared.value.Value.TheVariants.{Ref}
use Rattle.py_data.specs.declared.change.Change.{Change}
use Rattle.py_data.specs.declared.change.Change.TheVariants.{Set, Push, Cut, Pair, Unpair}
use Rattle.py_data.specs.Changes.{after, Allows, AsksKey, Suits}
use Rattle.py_data.specs.Heap.{Heap, Rec, Has, at, put_at}
use Rattle.py_data.specs.Shape.{text_in, same_bytes, same_text, same_key, find, find_from}
use Rattle.py_data.specs.Row.{Call, Reply, Row, Ret, Do, Read, Find, Edit, Make, Start, Put, Take, MidLine, SetMidLine}
use Rattle.py_data.specs.Sense.{IsPart, ShownOf, Edits, Effect, IfThere, Asks, Safe}
use Rattle.py_data.proofs.Mirror.{find_there}
use Rattle.py_data.proofs.Steps.{at_is}

-- ---- a record of the part
some_of : (o : Option Rec) → IsSome o → (r : Rec) × (o ≡ Some r)
some_of None s = absurd cc
some_of (Some r) s = (r, refl)

pub part_has : (g h : Heap) → IsPart g h → (a : ℕ) → Has g a → Has h a
part_has g h q a s = let r = some_of (g a) s in subst IsSome (sym (q a r.0 r.1)) refl

pub part_at : (g h : Heap) → IsPart g h → (a : ℕ) → Has g a → at h a ≡ at g a
part_at g h q a s = let r = some_of (g a) s in at_is h a r.0 (q a r.0 r.1) ∙ sym (at_is g a r.0 r.1)

-- what is asked of a record of the whole, asked of one of the part
if_part : (P Q : Rec → Type 0) → ((r : Rec) → P r → Q r) → (o x : Option Rec) → ((r : Rec) → o ≡ Some r → x ≡ Some r) →
    MatchOption x (false ≡ true) P → MatchOption o (true ≡ true) Q
if_part P Q f None x q m = refl
if_part P Q f (Some r) x q m = f r (subst (λ o. MatchOption o (false ≡ true) P) (q r refl) m)

-- ---- keys

bytes_self : (xs : List ℕ) → same_bytes xs xs ≡ true
bytes_self [] = refl
bytes_self (x ∷ xs) = and_from (nat_eq x x) (same_bytes xs xs) (eq-eqb x x refl) (bytes_self xs)

text_self : (o : Option (List ℕ)) → same_text true o o ≡ true
text_self None = refl
text_self (Some xs) = bytes_self xs

text_part : (g h : Option Rec) → ((r : Rec) → g ≡ Some r → h ≡ Some r) → (xs : List ℕ) → text_in g ≡ Some xs →
    text_in h ≡ Some xs
text_part None h q xs e = cc
text_part (Some r) h q xs e = ap text_in (q r refl) ∙ e

both_texts : (x y : Option (List ℕ)) → same_text false x y ≡ true →
    (xs : List ℕ) × (ys : List ℕ) × (x ≡ Some xs) × (y ≡ Some ys) × (same_bytes xs ys ≡ true)
both_texts None y e = absurd cc
both_texts (Some xs) None e = absurd cc
both_texts (Some xs) (Some ys) e = (xs, ys, refl, refl, e)

-- two addresses that are the same key over a part are so over the whole
text_whole : (g h : Heap) → IsPart g h → (a b : ℕ) → same_text (eqb a b) (text_in (g a)) (text_in (g b)) ≡ true →
    same_text (eqb a b) (text_in (h a)) (text_in (h b)) ≡ true
text_whole g h q a b e = elim (cases_Bool (eqb a b)) [
  | inl y ↦ subst (λ t. same_text t (text_in (h a)) (text_in (h b)) ≡ true) (sym y)
      (subst (λ n. same_text true (text_in (h a)) (text_in (h n)) ≡ true) (eqb-true a b y) (text_self (text_in (h a))))
  | inr n ↦
      let t = both_texts (text_in (g a)) (text_in (g b))
      (subst (λ t. same_text t (text_in (g a)) (text_in (g b)) ≡ true) n e) in
      subst (λ x. same_text (eqb a b) x (text_in (h b)) ≡ true) (sym (text_part (g a) (h a) (q a) t.0 t.2))
      (subst (λ y. same_text (eqb a b) (Some t.0) y ≡ true) (sym (text_part (g b) (h b) (q b) t.1 t.3)) t.4)
]

key_whole : (g h : Heap) → IsPart g h → (k key : Value) → same_key g k key ≡ true → same_key h k key ≡ true
key_whole g h q (Ref a) (Ref b) e = text_whole g h q a.0 b.0 e
key_whole g h q k key e = e

-- a key that isn't there in the whole isn't there in the part
cond_none : (t s : Bool) (n : ℕ) (o p : Option ℕ) → (t ≡ true → s ≡ true) → (o ≡ None → p ≡ None) →
    cond s (Some n) o ≡ None → cond t (Some n) p ≡ None
cond_none true true n o p f g e = e
cond_none true false n o p f g e = absurd (both_ways false refl (f refl))
cond_none false true n o p f g e = absurd cc
cond_none false false n o p f g e = g e

none_part : (g h : Heap) → IsPart g h → (n : ℕ) (vs : List Value) (key : Value) → find_from h n vs key ≡ None →
    find_from g n vs key ≡ None
none_part g h q n [] key e = refl
none_part g h q n (k ∷ []) key e = refl
none_part g h q n (k ∷ v ∷ rest) key e =
    cond_none (same_key g k key) (same_key h k key) n (find_from h (n + 1) rest key) (find_from g (n + 1) rest key)
    (key_whole g h q k key) (none_part g h q (n + 1) rest key) e

-- ---- calls
-- what is asked of a change besides
suits_part : (c : Change) (g h : Heap) → IsPart g h → (r : Rec) → Suits false h c r → Suits true g c r
suits_part (Set i x) g h q r s = s
suits_part (Push x) g h q r s = tt
suits_part (Cut n) g h q r s = tt
suits_part (Pair key x) g h q r s = (s.0.0, none_part g h q 0 r.values key s.1)
suits_part (Unpair n) g h q r s = tt

-- the condition of a call over the whole gives the one over the part
pub asks_part : {S : Type 0} (c : Call S) (g h : Heap) → IsPart g h → Asks false c h → Asks true c g
unfolding Asks
asks_part (Read a) g h q s = if_part _ _ (λ r m. m) (g a) (h a) (q a) s
asks_part (Find d key) g h q s = if_part (AsksKey false h key) (AsksKey true g key) (λ r m. m.0) (g d) (h d) (q d) s
asks_part (Edit a c) g h q s = if_part (λ r. Allows c r × Suits false h c r) (λ r. Allows c r × Suits true g c r)
    (λ r m. (m.0, suits_part c g h q r m.1)) (g a) (h a) (q a) s
asks_part (Make r) g h q s = (s.1, s.2)
asks_part (Take most) g h q s = s
asks_part (Start p) g h q s = tt
asks_part (Put on bytes) g h q s = tt
asks_part MidLine g h q s = tt
asks_part (SetMidLine mid) g h q s = tt

-- what a call does over the part it does over the whole
abbrev pub DoesOver : {S : Type 0} (c : Call S) → Heap → Reply c → Heap → Type 0
DoesOver c h r g1 = (h1 : Heap) × Effect false c h r h1 × IsPart g1 h1

same_part : (g h g1 : Heap) → IsPart g h → g1 ≡ g → IsPart g1 h
same_part g h g1 q e = subst (λ x. IsPart x h) (sym e) q

put_part : (g h : Heap) (a : ℕ) (r : Rec) → IsPart g h → IsPart (put_at g a r) (put_at h a r)
put_part g h a r q b x e = elim (cases_Bool (eqb b a)) [
  | inl y ↦ cond-true (eqb b a) (Some r) (h b) y ∙ (sym (cond-true (eqb b a) (Some r) (g b) y) ∙ e)
  | inr n ↦ cond-false (eqb b a) (Some r) (h b) n ∙ q b x (sym (cond-false (eqb b a) (Some r) (g b) n) ∙ e)
]

edit_part : (a : ℕ) (f : Rec → Rec) (g h g1 : Heap) → IsPart g h → Edits a f g g1 →
    (h1 : Heap) × Edits a f h h1 × IsPart g1 h1
edit_part a f g h g1 q e = (
  put_at h a (f (at h a)),
  (part_has g h q a e.0, refl),
  subst (λ x. IsPart g1 (put_at h a (f x))) (sym (part_at g h q a e.0))
      (subst (λ x. IsPart x (put_at h a (f (at g a)))) (sym e.1) (put_part g h a (f (at g a)) q)),
)

pub effect_part : {S : Type 0} (c : Call S) (g h : Heap) (r : Reply c) (g1 : Heap) → IsPart g h → Effect true c g r g1
    → DoesOver c h r g1
effect_part (Read a) g h r g1 q e = (h, (q a r e.0, refl), same_part g h g1 q e.1)
effect_part (Find d key) g h o g1 q e = (
  h,
  (
    part_has g h q d e.0,
    e.1 ∙ (sym (find_there g h (λ b r is f. q b r is) 0 (at g d).values key e.3.1 e.3.0) ∙
        ap (λ r. find h r.values key) (sym (part_at g h q d e.0))),
    refl,
    tt,
  ),
  same_part g h g1 q e.2,
)
effect_part (Edit a c) g h u g1 q e = edit_part a (after c) g h g1 q e
effect_part (Make r) g h a g1 q e = absurd (both_ways true e.2 refl)
effect_part (Start s) g h u g1 q e = (h, refl, same_part g h g1 q e)
effect_part (Put on bytes) g h u g1 q e = (h, refl, same_part g h g1 q e)
effect_part (Take most) g h l g1 q e = (h, (e.0, refl), same_part g h g1 q e.1)
effect_part MidLine g h mid g1 q e = (h, refl, same_part g h g1 q e)
effect_part (SetMidLine mid) g h u g1 q e = (h, refl, same_part g h g1 q e)

-- ---- rows
pub safe_part : {S A : Type 0} (row : Row S A) (g h : Heap) → IsPart g h → Safe false row h → Safe true row g
unfolding Safe
safe_part (Ret a) g h q s = tt
safe_part (Do c k) g h q s = (
  asks_part c g h q s.0,
  λ r g1 e. let d = effect_part c g h r g1 q e in
      safe_part (k r) g1 d.0 d.2 (s.1 r d.0 d.1),
)

pub safe_shown : {S A : Type 0} (p : Bool) (row : Row S A) (g h : Heap) → ShownOf p g h → Safe false row h →
    Safe p row g
safe_shown true row g h q s = safe_part row g h q s
safe_shown false row g h e s = subst (λ x. Safe false row x) (sym e) s

-- what is asked of a record of the whole, asked of what a view shows
pub there_shown : (p : Bool) (g h : Heap) (a : ℕ) (P : Rec → Type 0) → ShownOf p g h → IfThere false (h a) P →
    IfThere p (g a) P
there_shown true g h a P q m = if_part P P (λ r x. x) (g a) (h a) (q a) m
there_shown false g h a P e m = subst (λ (x : Heap). IfThere false (x a) P) (sym e) m

-- what a call does over what a view shows it does over the whole
pub effect_shown : {S : Type 0} (p : Bool) (c : Call S) (g h : Heap) (r : Reply c) (g1 : Heap) → ShownOf p g h →
    Effect p c g r g1 → (h1 : Heap) × Effect false c h r h1 × ShownOf p g1 h1
effect_shown true c g h r g1 q e = effect_part c g h r g1 q e
effect_shown false c g h r g1 q e = (g1, subst (λ (x : Heap). Effect false c x r g1) q e, refl)

pub asks_shown : {S : Type 0} (p : Bool) (c : Call S) (g h : Heap) → ShownOf p g h → Asks false c h → Asks p c g
asks_shown true c g h q s = asks_part c g h q s
asks_shown false c g h e s = subst (λ (x : Heap). Asks false c x) (sym e) s
