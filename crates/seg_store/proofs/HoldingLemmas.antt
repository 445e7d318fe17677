-- The records that a segment holds, after each call.
use Rattle.std.proofs.Common.{◌≡◌, ◌⊎◌, inl, inr, ℕ, Bool, true, false, cond, ◌||◌, eqb, List, [], ◌∷◌, ◌++◌, length, take, zero, suc, Option, Some, Result, Ok, Err, OnOk, OnErr, is_some, refl, sym, ◌∙◌, ap, subst, ◌≢◌, arith, length-append, take_all}
use Rattle.std.proofs.Math.Bool.{or_assoc}
use Rattle.std.proofs.lemmas.Bool.Decides.{eqb_tells}
use Rattle.std.proofs.lemmas.List.{length-take, take-append-le}
use Rattle.py_data.specs.declared.change.Change.{Change}
use Rattle.py_data.specs.declared.value.Addr.{Addr}
use Rattle.py_data.specs.Changes.{after, Allows, Replaced}
use Rattle.py_data.specs.Collection.{places}
use Rattle.py_data.specs.Heap.{Rec, Heap, put_at, no_records}
use Rattle.py_data.specs.Sense.{IfThere}
use Rattle.py_data.specs.Sight.{mem}
use Rattle.seg_store.specs.inner.Holding.{IsGood, IsHeld}
use Rattle.seg_store.proofs.Sees.{mem_last, or_middle}
use Rattle.seg_store.proofs.Goodness.{good_change}

pub places_last : (xs : List Addr) (a : Addr) → places (xs ++ a ∷ []) ≡ places xs ++ a.0 ∷ []
places_last [] a = refl
places_last (x ∷ xs) a = ap (λ ns. x.0 ∷ ns) (places_last xs a)

mem_more : (b : ℕ) (a : Addr) (xs : List Addr) → mem b (places (xs ++ a ∷ [])) ≡ (eqb b a.0 || mem b (places xs))
mem_more b a xs = ap (mem b) (places_last xs a) ∙ mem_last b a.0 (places xs)

take_twice : {T : Type 0} (n : ℕ) (xs : List T) → take n (take n xs) ≡ take n xs
take_twice zero xs = refl
take_twice (suc n) [] = refl
take_twice (suc n) (x ∷ xs) = ap (λ ys. x ∷ ys) (take_twice n xs)

some_put : (h : Heap) (a : ℕ) (r : Rec) (b : ℕ) → is_some (put_at h a r b) ≡ (eqb b a || is_some (h b))
some_put h a r b = elim (eqb b a) as (λ t. is_some (cond t (Some r) (h b)) ≡ (t || is_some (h b)))
    [ true ↦ refl | false ↦ refl ]

-- where one is there already
some_again : (h : Heap) (a : ℕ) (q r : Rec) (b : ℕ) → h a ≡ Some q → is_some (put_at h a r b) ≡ is_some (h b)
some_again h a q r b e = some_put h a r b ∙ here (eqb_tells b a)
  where
    here : ((eqb b a ≡ true) × (b ≡ a)) ⊎ ((eqb b a ≡ false) × (b ≢ a)) → (eqb b a || is_some (h b)) ≡ is_some (h b)
    here (inl y) = ap (λ t. t || is_some (h b)) y.0 ∙ sym (ap is_some (ap h y.1 ∙ e))
    here (inr n) = ap (λ t. t || is_some (h b)) n.0

good_put : (h : Heap) (a : ℕ) (r : Rec) → IsGood r → ((b : ℕ) (q : Rec) → h b ≡ Some q → IsGood q) → (b : ℕ) (q : Rec)
    → put_at h a r b ≡ Some q → IsGood q
good_put h a r g f b q e = by_test (eqb b a) (h b) (f b) e
  where
    by_test : (t : Bool) (o : Option Rec) → ((q : Rec) → o ≡ Some q → IsGood q) → cond t (Some r) o ≡ Some q → IsGood q
    by_test true o f e = let s : r ≡ q = cc in subst IsGood s g
    by_test false o f e = f q e

pub held_none : (h b : Heap) (changed made : List Addr) (kept : ℕ) → h ≡ no_records → b ≡ no_records → changed ≡ [] →
    made ≡ [] → kept ≡ 0 → IsHeld h b changed made kept
held_none h b changed made kept eh eb ec em ek = rw (eh, eb, ec, em, ek) (record {
  now = λ a. refl;
  before = λ a. refl;
  front = omega arith;
  good = λ a r e. cc;
  good_before = λ a r e. cc;
})

module _ (h b : Heap) (changed made : List Addr) (kept : ℕ) (w : IsHeld h b changed made kept) where
  pub held_lock : (h1 b1 : Heap) (changed1 : List Addr) (a : Addr) (r : Rec) → IsGood r → h1 ≡ put_at h a.0 r →
      b1 ≡ put_at b a.0 r → changed1 ≡ changed ++ a ∷ [] → IsHeld h1 b1 changed1 made kept
  held_lock h1 b1 changed1 a r g eh eb ec = rw (eh, eb, ec) (record {
    now = λ x. more h (places made) w.now x;
    before = λ x. more b (places (take kept made)) w.before x;
    front = w.front;
    good = good_put h a.0 r g w.good;
    good_before = good_put b a.0 r g w.good_before;
  })
    where
      more : (h : Heap) (ms : List ℕ) → ((x : ℕ) → is_some (h x) ≡ (mem x (places changed) || mem x ms)) → (x : ℕ) →
          is_some (put_at h a.0 r x) ≡ (mem x (places (changed ++ a ∷ [])) || mem x ms)
      more h ms f x =
          some_put h a.0 r x ∙ ap (λ t. eqb x a.0 || t) (f x) ∙
          sym (or_assoc (eqb x a.0) (mem x (places changed)) (mem x ms))
          ∙ ap (λ t. t || mem x ms) (sym (mem_more x a changed))

  pub held_make : (h1 b1 : Heap) (made1 : List Addr) (a : Addr) (r : Rec) → IsGood r → h1 ≡ put_at h a.0 r → b1 ≡ b →
      made1 ≡ made ++ a ∷ [] → IsHeld h1 b1 changed made1 kept
  held_make h1 b1 made1 a r g eh eb em = rw (eh, eb, em) (record {
    now = λ x. some_put h a.0 r x ∙ ap (λ t. eqb x a.0 || t) (w.now x) ∙
        or_middle (mem x (places changed)) (eqb x a.0) (mem x (places made))
        ∙ ap (λ t. mem x (places changed) || t) (sym (mem_more x a made));
    before = λ x. w.before x ∙ ap (λ ms. mem x (places changed) || mem x (places ms))
        (sym (take-append-le kept made (a ∷ []) w.front));
    front = let e = length-append made (a ∷ []) in let f = w.front in omega arith;
    good = good_put h a.0 r g w.good;
    good_before = w.good_before;
  })

  pub held_change : (h1 b1 : Heap) (a : ℕ) (c : Change) → IfThere false (h a) (λ r. Allows c r) →
      Replaced a (after c) h h1 → b1 ≡ b → IsHeld h1 b1 changed made kept
  held_change h1 b1 a c t p eb =
      let k : Allows c p.0 = subst (λ o. IfThere false o (λ r. Allows c r)) p.1 t in
      let g : IsGood (after c p.0) = good_change p.0 c (after c p.0) k (w.good a p.0 p.1) refl in
      rw (p.2, eb) (record {
        now = λ x. some_again h a p.0 (after c p.0) x p.1 ∙ w.now x;
        before = w.before;
        front = w.front;
        good = good_put h a (after c p.0) g w.good;
        good_before = w.good_before;
      })

  -- where nothing changed
  pub held_same : (h1 b1 : Heap) → h1 ≡ h → b1 ≡ b → IsHeld h1 b1 changed made kept
  held_same h1 b1 eh eb = rw (eh, eb) w

  pub held_try : {T E : Type 0} (x : Result T E) (h1 b1 : Heap) (a : ℕ) (c : Change) →
      IfThere false (h a) (λ r. Allows c r) → OnOk x (Replaced a (after c) h h1) → OnErr x (h1 ≡ h) → b1 ≡ b →
      IsHeld h1 b1 changed made kept
  held_try (Ok x) h1 b1 a c t p q eb = held_change h1 b1 a c t p eb
  held_try (Err e) h1 b1 a c t p q eb = held_same h1 b1 q eb

  pub held_open : (h1 b1 : Heap) (kept1 : ℕ) → h1 ≡ h → b1 ≡ h → kept1 ≡ length made → IsHeld h1 b1 changed made kept1
  held_open h1 b1 kept1 eh eb ek = rw (eh, eb, ek) (record {
    now = w.now;
    before = λ x. w.now x ∙ ap (λ ms. mem x (places changed) || mem x (places ms))
        (sym (take_all (length made) made (omega arith)));
    front = omega arith;
    good = w.good;
    good_before = w.good;
  })

  pub held_undo : (h1 b1 : Heap) (made1 : List Addr) → h1 ≡ b → b1 ≡ b → made1 ≡ take kept made →
      IsHeld h1 b1 changed made1 kept
  held_undo h1 b1 made1 eh eb em = rw (eh, eb, em) (record {
    now = w.before;
    before = λ x. w.before x ∙ ap (λ ms. mem x (places changed) || mem x (places ms)) (sym (take_twice kept made));
    front = let e = length-take kept made in let f = w.front in omega arith;
    good = w.good_before;
    good_before = w.good_before;
  })
