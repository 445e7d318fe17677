-- Blanks at the ends of a text, and the words between its blanks.
use Rattle.std.proofs.Common.{arith, ◌≡◌, ℕ, zero, suc, ◌+◌, ◌<◌, ◌≤◌, Bool, true, false, cond, List, [], ◌∷◌, ◌++◌, length, take, drop, filter, refl, sym, ap, subst, ◌∙◌, length-drop}
use Rattle.std.proofs.lemmas.Bool.{cond-true, cond-false}
use Rattle.obj_str.specs.Pieces.{is_blank, onto, cut_blanks, has_bytes, words, without_front, kept, without_end, strip}
use Rattle.obj_str.specs.Cutting.{word_length}

-- ---- the front
-- blanks at the front are before each word
pub words_front : (bs : List ℕ) → words bs ≡ words (without_front bs)
words_front [] = refl
words_front (b ∷ bs) = by (is_blank b) refl (words_front bs)
  where
    by : (t : Bool) → is_blank b ≡ t → words bs ≡ words (without_front bs) →
        words (b ∷ bs) ≡ words (without_front (b ∷ bs))
    by true e next =
        ap (filter has_bytes) (cond-true (is_blank b) ([] ∷ cut_blanks bs) (onto b (cut_blanks bs)) e)
        ∙ (next ∙ ap words (sym (cond-true (is_blank b) (without_front bs) (b ∷ bs) e)))
    by false e next = ap words (sym (cond-false (is_blank b) (without_front bs) (b ∷ bs) e))

-- what is left begins with another byte than a blank
pub front_first : (bs : List ℕ) (x : ℕ) (xs : List ℕ) → without_front bs ≡ x ∷ xs → is_blank x ≡ false
front_first [] x xs e = absurd (let q : ◌≡◌ {A = List ℕ} [] (x ∷ xs) = e in cc)
front_first (b ∷ bs) x xs e = by (is_blank b) refl (front_first bs x xs)
  where
    by : (t : Bool) → is_blank b ≡ t → (without_front bs ≡ x ∷ xs → is_blank x ≡ false) → is_blank x ≡ false
    by true f next = next (sym (cond-true (is_blank b) (without_front bs) (b ∷ bs) f) ∙ e)
    by false f next =
        let same : b ∷ bs ≡ x ∷ xs = sym (cond-false (is_blank b) (without_front bs) (b ∷ bs) f) ∙ e in
        let first : b ≡ x = cc in
        subst (λ z. is_blank z ≡ false) first f

pub front_short : (bs : List ℕ) → length (without_front bs) ≤ length bs
front_short [] = omega arith
front_short (b ∷ bs) = by (is_blank b) (front_short bs)
  where
    by : (t : Bool) → length (without_front bs) ≤ length bs →
        length (cond t (without_front bs) (b ∷ bs)) ≤ suc (length bs)
    by true next = omega (arith, next)
    by false next = omega arith

-- ---- the first word
record Run (bs : List ℕ) : Type 0 where
  more : List (List ℕ)
  is : cut_blanks bs ≡ take (word_length bs) bs ∷ more
  then : cut_blanks (drop (word_length bs) bs) ≡ [] ∷ more

run : (bs : List ℕ) → Run bs
run [] = record { more = []; is = refl; then = refl }
run (b ∷ bs) = by (is_blank b) refl (run bs)
  where
    by : (t : Bool) → is_blank b ≡ t → Run bs → Run (b ∷ bs)
    by true e r =
        let n : word_length (b ∷ bs) ≡ 0 = cond-true (is_blank b) 0 (word_length bs + 1) e in
        let here : cut_blanks (b ∷ bs) ≡ [] ∷ cut_blanks bs =
        cond-true (is_blank b) ([] ∷ cut_blanks bs) (onto b (cut_blanks bs)) e in
        record {
          more = cut_blanks bs;
          is = here ∙ ap (λ k. take k (b ∷ bs) ∷ cut_blanks bs) (sym n);
          then = ap (λ k. cut_blanks (drop k (b ∷ bs))) n ∙ here;
        }
    by false e r =
        let n : word_length (b ∷ bs) ≡ suc (word_length bs) = cond-false (is_blank b) 0 (word_length bs + 1) e ∙
        (let q : word_length bs + 1 ≡ suc (word_length bs) = omega arith in q) in
        record {
          more = r.more;
          is = cond-false (is_blank b) ([] ∷ cut_blanks bs) (onto b (cut_blanks bs)) e ∙
              (ap (onto b) r.is ∙ ap (λ k. take k (b ∷ bs) ∷ r.more) (sym n));
          then = ap (λ k. cut_blanks (drop k (b ∷ bs))) n ∙ r.then;
        }

pub word_short : (bs : List ℕ) → word_length bs ≤ length bs
word_short [] = omega arith
word_short (b ∷ bs) = by (is_blank b) (word_short bs)
  where
    by : (t : Bool) → word_length bs ≤ length bs → cond t 0 (word_length bs + 1) ≤ suc (length bs)
    by true next = omega arith
    by false next = omega (arith, next)

pub word_some : (b : ℕ) (bs : List ℕ) → is_blank b ≡ false → 0 < word_length (b ∷ bs)
word_some b bs e = subst (λ n. 0 < n) (sym (cond-false (is_blank b) 0 (word_length bs + 1) e)) (omega arith)

-- a text that begins with another byte than a blank: its first word, and those behind it
pub words_run : (b : ℕ) (bs : List ℕ) → is_blank b ≡ false → words (b ∷ bs) ≡ take (word_length (b ∷ bs)) (b ∷ bs) ∷
    words (drop (word_length (b ∷ bs)) (b ∷ bs))
words_run b bs e =
    let r = run (b ∷ bs) in
    ap (filter has_bytes) r.is ∙ (first (word_length (b ∷ bs)) r.more (word_some b bs e) ∙
    ap (λ l. take (word_length (b ∷ bs)) (b ∷ bs) ∷ filter has_bytes l) (sym r.then))
  where
    first : (n : ℕ) (more : List (List ℕ)) → 0 < n → filter has_bytes (take n (b ∷ bs) ∷ more) ≡ take n (b ∷ bs) ∷
        filter has_bytes ([] ∷ more)
    first zero more l = absurd (omega (arith, l))
    first (suc n) more l = refl

-- ---- the end
-- by its last byte
pub end_last : (xs : List ℕ) (b : ℕ) → without_end (xs ++ b ∷ []) ≡ cond (is_blank b) (without_end xs) (xs ++ b ∷ [])
end_last [] b = refl
end_last (x ∷ xs) b = by (is_blank b) (end_last xs b)
  where
    some : (ys : List ℕ) → kept x (ys ++ b ∷ []) ≡ x ∷ (ys ++ b ∷ [])
    some [] = refl
    some (y ∷ ys) = refl

    by : (t : Bool) → without_end (xs ++ b ∷ []) ≡ cond t (without_end xs) (xs ++ b ∷ []) →
        kept x (without_end (xs ++ b ∷ [])) ≡ cond t (kept x (without_end xs)) (x ∷ (xs ++ b ∷ []))
    by true next = ap (kept x) next
    by false next = ap (kept x) next ∙ some xs

-- another byte than a blank at the end stays, and a blank goes
pub end_kept : (bs xs : List ℕ) (b : ℕ) → bs ≡ xs ++ b ∷ [] → is_blank b ≡ false → without_end bs ≡ bs
end_kept bs xs b e f = ap without_end e ∙
    (end_last xs b ∙ (cond-false (is_blank b) (without_end xs) (xs ++ b ∷ []) f ∙ sym e))

pub end_cut : (bs xs : List ℕ) (b : ℕ) → bs ≡ xs ++ b ∷ [] → is_blank b ≡ true → without_end bs ≡ without_end xs
end_cut bs xs b e f = ap without_end e ∙ (end_last xs b ∙ cond-true (is_blank b) (without_end xs) (xs ++ b ∷ []) f)

kept_twice : (b : ℕ) (ys : List ℕ) → without_end ys ≡ ys → without_end (kept b ys) ≡ kept b ys
kept_twice b [] e = by (is_blank b) refl
  where
    by : (t : Bool) → is_blank b ≡ t → without_end (cond t [] (b ∷ [])) ≡ cond t [] (b ∷ [])
    by true f = refl
    by false f = cond-false (is_blank b) [] (b ∷ []) f
kept_twice b (y ∷ ys) e = ap (kept b) e

end_twice : (bs : List ℕ) → without_end (without_end bs) ≡ without_end bs
end_twice [] = refl
end_twice (b ∷ bs) = kept_twice b (without_end bs) (end_twice bs)

-- the end of what begins with another byte than a blank
kept_front : (b : ℕ) (ys : List ℕ) → is_blank b ≡ false → without_front (kept b ys) ≡ kept b ys
kept_front b [] e = ap without_front (cond-false (is_blank b) [] (b ∷ []) e) ∙
    (cond-false (is_blank b) (without_front []) (b ∷ []) e ∙ sym (cond-false (is_blank b) [] (b ∷ []) e))
kept_front b (y ∷ ys) e = cond-false (is_blank b) (without_front (y ∷ ys)) (b ∷ y ∷ ys) e

pub strip_twice : (bs : List ℕ) → strip (strip bs) ≡ strip bs
strip_twice bs = by (without_front bs) refl
  where
    by : (ys : List ℕ) → without_front bs ≡ ys → without_end (without_front (without_end ys)) ≡ without_end ys
    by [] e = refl
    by (y ∷ ys) e = ap without_end (kept_front y (without_end ys) (front_first bs y ys e)) ∙ end_twice (y ∷ ys)

-- ---- the first word of any text
pub word_none : (bs rest : List ℕ) → rest ≡ without_front bs → length rest ≡ 0 → words bs ≡ []
word_none bs [] e l = words_front bs ∙ ap words (sym e)
word_none bs (x ∷ xs) e l = absurd (omega (arith, l))

pub word_first : (bs rest : List ℕ) → rest ≡ without_front bs → 0 < length rest →
    words bs ≡ take (word_length rest) rest ∷ words (drop (word_length rest) rest)
word_first bs [] e l = absurd (omega (arith, l))
word_first bs (x ∷ xs) e l = words_front bs ∙ (ap words (sym e) ∙ words_run x xs (front_first bs x xs (sym e)))

pub word_shorter : (bs rest : List ℕ) → rest ≡ without_front bs → 0 < length rest →
    length (drop (word_length rest) rest) < length bs
word_shorter bs [] e l = absurd (omega (arith, l))
word_shorter bs (x ∷ xs) e l =
    let some = word_some x xs (front_first bs x xs (sym e)) in
    omega (arith, some, word_short (x ∷ xs), length-drop (word_length (x ∷ xs)) (x ∷ xs), front_short bs, ap length e)
