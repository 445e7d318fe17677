-- Texts that grow as long as they are no longer than a string may be.
use Rattle.std.proofs.Common.{arith, ◌≡◌, ℕ, ◌+◌, ◌<◌, ◌≤◌, Bool, true, false, cond, List, [], ◌∷◌, ◌++◌, length, Option, Some, None, refl, sym, ap, ◌∙◌, append_assoc, length-append}
use Rattle.std.specs.Prelude.{leb}
use Rattle.std.proofs.lemmas.Bool.{cond-true, leb-true, leb-false, le-leb}
use Rattle.py_data.specs.declared.record.TheConstants.{LENGTH_LIMIT}
use Rattle.obj_str.specs.Cutting.{fitting}
use Rattle.obj_str.specs.Pieces.{joined, split, between_all, replaced}
use Rattle.obj_str.proofs.PiecesLemmas.{HasFirst, first_split}

-- by its length
pub fits : (bs : List ℕ) → length bs ≤ LENGTH_LIMIT → fitting bs ≡ Some bs
fits bs l = cond-true (leb (length bs) LENGTH_LIMIT) (Some bs) None (le-leb (length bs) LENGTH_LIMIT l)

pub not_fits : (bs : List ℕ) → LENGTH_LIMIT < length bs → fitting bs ≡ None
not_fits bs l = by (leb (length bs) LENGTH_LIMIT) refl
  where
    by : (t : Bool) → leb (length bs) LENGTH_LIMIT ≡ t → cond t (Some bs) None ≡ None
    by true e = absurd (let m = leb-true (length bs) LENGTH_LIMIT e in omega (arith, l, m))
    by false e = refl

pub fits_both : (xs ys : List ℕ) → length xs + length ys ≤ LENGTH_LIMIT → fitting (xs ++ ys) ≡ Some (xs ++ ys)
fits_both xs ys l = fits (xs ++ ys) (omega (arith, l, length-append xs ys))

pub fits_not : (xs ys : List ℕ) → LENGTH_LIMIT < length xs + length ys → fitting (xs ++ ys) ≡ None
fits_not xs ys l = not_fits (xs ++ ys) (omega (arith, l, length-append xs ys))

-- what it is where it fits
pub fitting_is : (bs t : List ℕ) → fitting bs ≡ Some t → t ≡ bs
fitting_is bs t e = by (leb (length bs) LENGTH_LIMIT) e
  where
    by : (b : Bool) → cond b (Some bs) None ≡ Some t → t ≡ bs
    by true e = let q : bs ≡ t = cc in sym q
    by false e = absurd (let q : ◌≡◌ {A = Option (List ℕ)} None (Some t) = e in cc)

-- a text that is too long stays so
pub fitting_more : (xs ys : List ℕ) → fitting xs ≡ None → fitting (xs ++ ys) ≡ None
fitting_more xs ys e = by (leb (length xs) LENGTH_LIMIT) refl e
  where
    by : (b : Bool) → leb (length xs) LENGTH_LIMIT ≡ b → cond b (Some xs) None ≡ None → fitting (xs ++ ys) ≡ None
    by true l f = absurd (let q : ◌≡◌ {A = Option (List ℕ)} (Some xs) None = f in cc)
    by false l f = fits_not xs ys (long (length xs) l)
      where
        long : (n : ℕ) → leb n LENGTH_LIMIT ≡ false → LENGTH_LIMIT < n + length ys
        long n l = omega (arith, leb-false n LENGTH_LIMIT l)

-- ---- pieces that are joined again
pub joined_first : (sep p : List ℕ) (ps : List (List ℕ)) → HasFirst ps →
    joined sep (p ∷ ps) ≡ (p ++ sep) ++ joined sep ps
joined_first sep p [] s = absurd (let q : ◌≡◌ {A = List (List ℕ)} [] (s.first ∷ s.more) = s.is in cc)
joined_first sep p (q ∷ ps) s = refl

-- one piece, with the new part, and then the others
pub joined_turn : (old new bs p more text : List ℕ) → split old bs ≡ p ∷ split old more →
    text ++ joined new (split old bs) ≡ (text ++ (p ++ new)) ++ joined new (split old more)
joined_turn old new bs p more text e =
    ap (λ l. text ++ joined new l) e ∙ (ap (λ l. text ++ l)
    (joined_first new p (split old more) (first_split old more)) ∙
    sym (append_assoc text (p ++ new) (joined new (split old more))))

pub between_turn : (new more text : List ℕ) (b : ℕ) → text ++ between_all new (b ∷ more) ≡ (text ++ (new ++ b ∷ [])) ++
    between_all new more
between_turn new more text b = ap (λ l. text ++ l) (sym (append_assoc new (b ∷ []) (between_all new more))) ∙
    sym (append_assoc text (new ++ b ∷ []) (between_all new more))

-- ---- replacing by whether the old part is empty
pub replaced_empty : (old new bs : List ℕ) → length old ≡ 0 → replaced old new bs ≡ between_all new bs
replaced_empty [] new bs e = refl
replaced_empty (o ∷ os) new bs e = absurd (omega (arith, e))

pub replaced_some : (old new bs : List ℕ) → 0 < length old → replaced old new bs ≡ joined new (split old bs)
replaced_some [] new bs e = absurd (omega (arith, e))
replaced_some (o ∷ os) new bs e = refl
