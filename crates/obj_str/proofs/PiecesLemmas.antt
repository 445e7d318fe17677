-- Where a part stands in a text, and the pieces of a text that is cut there.
use Rattle.std.proofs.Common.{arith, ◌≡◌, ℕ, zero, suc, ◌+◌, ◌-◌, ◌<◌, ◌≤◌, Bool, true, false, cond, ◌&&◌, List, [], ◌∷◌, ◌++◌, length, take, drop, Option, Some, None, refl, sym, ap, subst, ◌∙◌, length-drop, take-append-drop}
use Rattle.std.specs.Prelude.{◌==◌, option_map, nat_eq}
use Rattle.std.specs.Cmp.Lexicographic.{pointwise}
use Rattle.std.proofs.lemmas.Bool.{eqb-true, eq-eqb, cond-true, cond-false}
use Rattle.memchr.specs.Find.{OccursAt, FindsNeedle}
use Rattle.memchr.proofs.lemmas.MatchLemmas.{OccursAt-part, OccursAt-from_part}
use Rattle.obj_str.specs.Pieces.{begins, find, onto, cut, split}

pub and_both : (a b : Bool) → (a && b) ≡ true → (a ≡ true) × (b ≡ true)
and_both true b e = (refl, e)
and_both false b e = absurd (let q : false ≡ true = e in cc)

-- ---- beginnings
-- the part, and what stands behind it
pub behind : (part bs : List ℕ) → begins part bs ≡ true → part ++ drop (length part) bs ≡ bs
behind [] bs e = refl
behind (s ∷ ss) [] e = absurd (let q : false ≡ true = e in cc)
behind (s ∷ ss) (b ∷ bs) e =
    let p = and_both (s == b) (begins ss bs) e in
    ap (λ x. x ∷ (ss ++ drop (length ss) bs)) (eqb-true s b p.0) ∙ ap (λ l. b ∷ l) (behind ss bs p.1)

pub begins_front : (part bs : List ℕ) → begins part (part ++ bs) ≡ true
begins_front [] bs = refl
begins_front (p ∷ ps) bs = rw (eq-eqb p p refl) (begins_front ps bs)

-- as the test on slices says it
pub begins_is : (part bs : List ℕ) → begins part bs ≡ pointwise nat_eq part (take (length part) bs)
begins_is [] bs = refl
begins_is (p ∷ ps) [] = refl
begins_is (p ∷ ps) (b ∷ bs) = ap (λ t. (p == b) && t) (begins_is ps bs)

pub begins_short : (part bs : List ℕ) → begins part bs ≡ true → length part ≤ length bs
begins_short [] bs e = omega arith
begins_short (s ∷ ss) [] e = absurd (let q : false ≡ true = e in cc)
begins_short (s ∷ ss) (b ∷ bs) e = let i = begins_short ss bs (and_both (s == b) (begins ss bs) e).1 in omega (arith, i)

-- ---- the least place
-- a part stands at a place, and at none before it
pub least : (bs part : List ℕ) (k : ℕ) → k ≤ length bs → begins part (drop k bs) ≡ true →
    ((j : ℕ) → j < k → begins part (drop j bs) ≡ false) → find bs part ≡ Some k
least [] part zero l e f = cond-true (begins part []) (Some 0) None e
least [] part (suc k) l e f = absurd (omega (arith, l))
least (b ∷ bs) part zero l e f = cond-true (begins part (b ∷ bs)) (Some 0) (option_map (λ k. k + 1) (find bs part)) e
least (b ∷ bs) part (suc k) l e f =
    let next : find bs part ≡ Some k = least bs part k (omega (arith, l)) e (λ j m. f (suc j) (omega (arith, m))) in
    let more : k + 1 ≡ suc k = omega arith in
    cond-false (begins part (b ∷ bs)) (Some 0) (option_map (λ k. k + 1) (find bs part)) (f 0 (omega arith)) ∙
    (ap (option_map (λ k. k + 1)) next ∙ ap Some more)

pub nowhere : (bs part : List ℕ) → ((j : ℕ) → j ≤ length bs → begins part (drop j bs) ≡ false) → find bs part ≡ None
nowhere [] part f = cond-false (begins part []) (Some 0) None (f 0 (omega arith))
nowhere (b ∷ bs) part f =
    cond-false (begins part (b ∷ bs)) (Some 0) (option_map (λ k. k + 1) (find bs part)) (f 0 (omega arith))
    ∙ ap (option_map (λ k. k + 1)) (nowhere bs part (λ j m. f (suc j) (omega (arith, m))))

-- what a search has answered is that place
begins_there : (bs part : List ℕ) (k : ℕ) → OccursAt bs part k → begins part (drop k bs) ≡ true
begins_there bs part k o = subst (λ l. begins part l ≡ true) (parts (OccursAt-part bs part k o))
    (begins_front part (drop (length part) (drop k bs)))
  where
    parts : take (length part) (drop k bs) ≡ part → part ++ drop (length part) (drop k bs) ≡ drop k bs
    parts e = ap (λ l. l ++ drop (length part) (drop k bs)) (sym e) ∙ take-append-drop (length part) (drop k bs)

occurs_there : (bs part : List ℕ) (k : ℕ) → k ≤ length bs → begins part (drop k bs) ≡ true → OccursAt bs part k
occurs_there bs part k l e =
    OccursAt-from_part bs part k (omega (arith, l, begins_short part (drop k bs) e, length-drop k bs))
    (ap (take (length part)) (sym (behind part (drop k bs) e)) ∙ front part (drop (length part) (drop k bs)))
  where
    front : (xs ys : List ℕ) → take (length xs) (xs ++ ys) ≡ xs
    front [] ys = refl
    front (x ∷ xs) ys = ap (λ l. x ∷ l) (front xs ys)

not_there : (bs part : List ℕ) (k : ℕ) → k ≤ length bs → ¬ OccursAt bs part k → begins part (drop k bs) ≡ false
not_there bs part k l n = by (begins part (drop k bs)) refl
  where
    by : (t : Bool) → begins part (drop k bs) ≡ t → t ≡ false
    by true e = absurd (n (occurs_there bs part k l e))
    by false e = refl

pub found : (bs part : List ℕ) (r : Option ℕ) → FindsNeedle bs part 0 r → r ≡ find bs part
found bs part None f = sym (nowhere bs part (λ j l. not_there bs part j l (f j (omega arith) (omega (arith, l)))))
found bs part (Some k) f =
    let high : k < length bs + 1 = f.0.high in
    sym (least bs part k (omega (arith, high)) (begins_there bs part k f.1)
    (λ j l. not_there bs part j (omega (arith, l, high)) (f.0.before j (omega arith) l)))

-- ---- cutting
pub cut_skip : (n : ℕ) (sep bs : List ℕ) → cut n sep bs ≡ split sep (drop n bs)
cut_skip zero sep bs = refl
cut_skip (suc n) sep [] = refl
cut_skip (suc n) sep (b ∷ bs) = cut_skip n sep bs

-- the text that is cut, by whether it begins with the separator
pub cut_here : (s : ℕ) (ss : List ℕ) (b : ℕ) (bs : List ℕ) → begins (s ∷ ss) (b ∷ bs) ≡ true →
    split (s ∷ ss) (b ∷ bs) ≡ [] ∷ split (s ∷ ss) (drop (length ss) bs)
cut_here s ss b bs e =
    let n : length (s ∷ ss) - 1 ≡ length ss = omega arith in
    cond-true (begins (s ∷ ss) (b ∷ bs)) ([] ∷ cut (length (s ∷ ss) - 1) (s ∷ ss) bs) (onto b (cut zero (s ∷ ss) bs)) e
    ∙ ap (λ l. [] ∷ l) (ap (λ k. cut k (s ∷ ss) bs) n ∙ cut_skip (length ss) (s ∷ ss) bs)

pub cut_later : (s : ℕ) (ss : List ℕ) (b : ℕ) (bs : List ℕ) → begins (s ∷ ss) (b ∷ bs) ≡ false →
    split (s ∷ ss) (b ∷ bs) ≡ onto b (split (s ∷ ss) bs)
cut_later s ss b bs e = cond-false (begins (s ∷ ss) (b ∷ bs)) ([] ∷ cut (length (s ∷ ss) - 1) (s ∷ ss) bs)
    (onto b (cut zero (s ∷ ss) bs)) e

-- the first piece is what stands before the least place of the separator
pub split_found : (s : ℕ) (ss bs : List ℕ) (k : ℕ) → find bs (s ∷ ss) ≡ Some k →
    split (s ∷ ss) bs ≡ take k bs ∷ split (s ∷ ss) (drop (k + length (s ∷ ss)) bs)
split_found s ss [] k f = absurd (let q : ◌≡◌ {A = Option ℕ} None (Some k) = f in cc)
split_found s ss (b ∷ bs) k f = by (begins (s ∷ ss) (b ∷ bs)) refl (λ n g. split_found s ss bs n g)
  where
    later : (o : Option ℕ) → find bs (s ∷ ss) ≡ o → option_map (λ k. k + 1) o ≡ Some k →
        begins (s ∷ ss) (b ∷ bs) ≡ false →
        ((n : ℕ) → find bs (s ∷ ss) ≡ Some n →
        split (s ∷ ss) bs ≡ take n bs ∷ split (s ∷ ss) (drop (n + length (s ∷ ss)) bs))
        → split (s ∷ ss) (b ∷ bs) ≡ take k (b ∷ bs) ∷ split (s ∷ ss) (drop (k + length (s ∷ ss)) (b ∷ bs))
    later None o e not next = absurd (let q : ◌≡◌ {A = Option ℕ} None (Some k) = e in cc)
    later (Some n) o e not next =
        let one : n + 1 ≡ k = cc in
        let more : suc n ≡ k = omega (arith, one) in
        subst (λ z. split (s ∷ ss) (b ∷ bs) ≡ take z (b ∷ bs) ∷ split (s ∷ ss) (drop (z + length (s ∷ ss)) (b ∷ bs)))
        more
        (cut_later s ss b bs not ∙ (ap (onto b) (next n o) ∙ ap (λ z. (b ∷ take n bs) ∷ split (s ∷ ss) z) (dropped n)))
      where
        dropped : (n : ℕ) → drop (n + length (s ∷ ss)) bs ≡ drop (suc n + length (s ∷ ss)) (b ∷ bs)
        dropped n = let e : suc n + length (s ∷ ss) ≡ suc (n + length (s ∷ ss)) = omega arith in
            ap (λ z. drop z (b ∷ bs)) (sym e)

    by : (t : Bool) → begins (s ∷ ss) (b ∷ bs) ≡ t →
        ((n : ℕ) → find bs (s ∷ ss) ≡ Some n →
        split (s ∷ ss) bs ≡ take n bs ∷ split (s ∷ ss) (drop (n + length (s ∷ ss)) bs)) →
        split (s ∷ ss) (b ∷ bs) ≡ take k (b ∷ bs) ∷ split (s ∷ ss) (drop (k + length (s ∷ ss)) (b ∷ bs))
    by true e next =
        let z : 0 ≡ k = let q : Some 0 ≡ Some k =
        sym (cond-true (begins (s ∷ ss) (b ∷ bs)) (Some 0) (option_map (λ k. k + 1) (find bs (s ∷ ss))) e) ∙ f in
        cc in
        let n : 0 + length (s ∷ ss) ≡ suc (length ss) = omega arith in
        subst (λ j. split (s ∷ ss) (b ∷ bs) ≡ take j (b ∷ bs) ∷ split (s ∷ ss) (drop (j + length (s ∷ ss)) (b ∷ bs))) z
        (cut_here s ss b bs e ∙ ap (λ j. [] ∷ split (s ∷ ss) (drop j (b ∷ bs))) (sym n))
    by false e next = later (find bs (s ∷ ss)) refl
        (sym (cond-false (begins (s ∷ ss) (b ∷ bs)) (Some 0) (option_map (λ k. k + 1) (find bs (s ∷ ss))) e) ∙ f) e next

-- and a text without the separator is one piece
pub split_whole : (s : ℕ) (ss bs : List ℕ) → find bs (s ∷ ss) ≡ None → split (s ∷ ss) bs ≡ bs ∷ []
split_whole s ss [] f = refl
split_whole s ss (b ∷ bs) f = by (begins (s ∷ ss) (b ∷ bs)) refl (split_whole s ss bs)
  where
    none : (o : Option ℕ) → option_map (λ k. k + 1) o ≡ None → o ≡ None
    none None e = refl
    none (Some n) e = absurd (let q : ◌≡◌ {A = Option ℕ} (Some (n + 1)) None = e in cc)

    by : (t : Bool) → begins (s ∷ ss) (b ∷ bs) ≡ t → (find bs (s ∷ ss) ≡ None → split (s ∷ ss) bs ≡ bs ∷ []) →
        split (s ∷ ss) (b ∷ bs) ≡ (b ∷ bs) ∷ []
    by true e next = absurd (let q : ◌≡◌ {A = Option ℕ} (Some 0) None =
        sym (cond-true (begins (s ∷ ss) (b ∷ bs)) (Some 0) (option_map (λ k. k + 1) (find bs (s ∷ ss))) e) ∙ f in cc)
    by false e next =
        let rest = none (find bs (s ∷ ss))
        (sym (cond-false (begins (s ∷ ss) (b ∷ bs)) (Some 0) (option_map (λ k. k + 1) (find bs (s ∷ ss))) e) ∙ f) in
        cut_later s ss b bs e ∙ ap (onto b) (next rest)

-- the same of what a search for the separator answers
pub piece_found : (sep bs : List ℕ) (k : ℕ) → 0 < length sep → FindsNeedle bs sep 0 (Some k) →
    split sep bs ≡ take k bs ∷ split sep (drop (k + length sep) bs)
piece_found [] bs k l f = absurd (omega (arith, l))
piece_found (s ∷ ss) bs k l f = split_found s ss bs k (sym (found bs (s ∷ ss) (Some k) f))

pub piece_last : (sep bs : List ℕ) → 0 < length sep → FindsNeedle bs sep 0 None → split sep bs ≡ bs ∷ []
piece_last [] bs l f = absurd (omega (arith, l))
piece_last (s ∷ ss) bs l f = split_whole s ss bs (sym (found bs (s ∷ ss) None f))

-- ---- there is a piece
pub record HasFirst (ps : List (List ℕ)) : Type 0 where
  pub first : List ℕ
  pub more : List (List ℕ)
  pub is : ps ≡ first ∷ more

first_onto : (b : ℕ) (ps : List (List ℕ)) → HasFirst (onto b ps)
first_onto b [] = record { first = b ∷ []; more = []; is = refl }
first_onto b (p ∷ ps) = record { first = b ∷ p; more = ps; is = refl }

first_by : (t : Bool) (x y : List (List ℕ)) → HasFirst x → HasFirst y → HasFirst (cond t x y)
first_by true x y i j = i
first_by false x y i j = j

first_cut : (n : ℕ) (sep bs : List ℕ) → HasFirst (cut n sep bs)
first_cut n sep [] = record { first = []; more = []; is = refl }
first_cut (suc n) sep (b ∷ bs) = first_cut n sep bs
first_cut zero sep (b ∷ bs) = first_by (begins sep (b ∷ bs)) ([] ∷ cut (length sep - 1) sep bs)
    (onto b (cut zero sep bs)) (record { first = []; more = cut (length sep - 1) sep bs; is = refl })
    (first_onto b (cut zero sep bs))

pub first_split : (sep bs : List ℕ) → HasFirst (split sep bs)
first_split sep bs = first_cut 0 sep bs
