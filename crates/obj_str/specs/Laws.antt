-- What the functions on bytes mean, in words of texts and their parts. States `docs/LANGUAGE.md`, "Methods of strings".
use Rattle.std.specs.Prelude.{◌≡◌, ◌≢◌, ◌<◌, ◌≤◌, ℕ, true, false, List, [], ◌-◌, ◌++◌, length, take, drop, Some, None, ◌∷◌, Bool, filter, not}
use Rattle.py_data.specs.Every.{Every}
use Rattle.obj_str.specs.Pieces.{begins, ends, find, joined, split, words, has_bytes, is_blank, strip, upper, lower, replaced}

-- `find` answers a place where the part stands, and it stands at none before; and none where it stands nowhere
pub record FindLaw : Type 0 where
  pub there : (bs part : List ℕ) (k : ℕ) → find bs part ≡ Some k →
      k ≤ length bs × (drop k bs ≡ part ++ drop (length part) (drop k bs))
  pub least : (bs part : List ℕ) (k j : ℕ) → find bs part ≡ Some k → j < k → (rest : List ℕ) → drop j bs ≢ part ++ rest
  pub none : (bs part : List ℕ) (j : ℕ) → find bs part ≡ None → j ≤ length bs → (rest : List ℕ) →
      drop j bs ≢ part ++ rest

-- a text begins with a part exactly where it is the part and something behind it, and ends with one exactly where it is
-- something and then the part
pub record EndsLaw : Type 0 where
  pub begins_is : (part bs : List ℕ) → begins part bs ≡ true → bs ≡ part ++ drop (length part) bs
  pub is_begins : (part rest : List ℕ) → begins part (part ++ rest) ≡ true
  pub ends_is : (part bs : List ℕ) → ends part bs ≡ true → bs ≡ take (length bs - length part) bs ++ part
  pub is_ends : (part front : List ℕ) → ends part (front ++ part) ≡ true

-- the pieces of a text with the separator between them are the text, and the separator stands in none of them
pub record SplitLaw : Type 0 where
  pub joined : (sep bs : List ℕ) → sep ≢ [] → joined sep (split sep bs) ≡ bs
  pub none : (sep bs : List ℕ) → sep ≢ [] → Every (λ p. find p sep ≡ None) (split sep bs)

-- bytes that stand in none of others
abbrev pub SharesNone : List ℕ → List ℕ → Type 0
SharesNone xs ys = Every (λ x. Every (λ y. x ≢ y) ys) xs

-- where neither part is empty and they share no byte, no old part is left; and a part that replaces itself changes
-- nothing
pub record ReplaceLaw : Type 0 where
  pub none : (old new bs : List ℕ) → old ≢ [] → new ≢ [] → SharesNone old new → find (replaced old new bs) old ≡ None
  pub same : (part bs : List ℕ) → replaced part part bs ≡ bs

-- a word has bytes, and no blank
abbrev pub IsWord : List ℕ → Type 0
IsWord p = (has_bytes p ≡ true) × Every (λ b. is_blank b ≡ false) p

-- a byte that is no blank
abbrev pub is_other : ℕ → Bool
is_other b = not (is_blank b)

-- pieces one behind another
abbrev pub flat : List (List ℕ) → List ℕ
flat [] = []
flat (p ∷ ps) = p ++ flat ps

-- `split` by blanks gives words, and loses no byte but the blanks
pub record WordsLaw : Type 0 where
  pub are : (bs : List ℕ) → Every IsWord (words bs)
  pub kept : (bs : List ℕ) → flat (words bs) ≡ filter is_other bs

-- a text is blanks, then this one, then blanks
pub record IsBetween (bs text : List ℕ) : Type 0 where
  pub left : List ℕ
  pub right : List ℕ
  pub is : bs ≡ left ++ (text ++ right)
  pub left_blank : Every (λ b. is_blank b ≡ true) left
  pub right_blank : Every (λ b. is_blank b ≡ true) right

-- `strip` takes nothing but blanks from the ends, and leaves none there: twice is once
pub record StripLaw : Type 0 where
  pub between : (bs : List ℕ) → IsBetween bs (strip bs)
  pub twice : (bs : List ℕ) → strip (strip bs) ≡ strip bs

-- of a text in small letters `upper` is what it is of the text, and the other way round; both keep the length
pub record LettersLaw : Type 0 where
  pub upper_lower : (bs : List ℕ) → upper (lower bs) ≡ upper bs
  pub lower_upper : (bs : List ℕ) → lower (upper bs) ≡ lower bs
  pub upper_long : (bs : List ℕ) → length (upper bs) ≡ length bs
  pub lower_long : (bs : List ℕ) → length (lower bs) ≡ length bs
