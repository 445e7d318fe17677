-- The first line of what is held and what a reader has left, by the place of its newline.
use Rattle.std.proofs.Common.{◌≡◌, ◌≢◌, ℕ, ◌+◌, ◌-◌, ◌<◌, ◌≤◌, min, zero, suc, Bool, true, false, cond, eqb, eqb-true, List, [], ◌∷◌, ◌++◌, length, get_or, take, drop, slice_get, All, Option, Some, None, IfSome, refl, sym, ap, ◌∙◌, subst, append_assoc, append-nil, take-append-drop, arith}
use Rattle.std.proofs.Math.Seq.{take-append-add}
use Rattle.std.proofs.lemmas.List.{length-take, take_all, take-append-le}
use Rattle.std.proofs.lemmas.List.Elements.{All-head, All-tail}
use Rattle.std.proofs.lemmas.Option.{get_or_from_slice_get, slice_get_within}
use Rattle.std.specs.Io.BufRead.{take_through}
use Rattle.std.specs.Io.KnownBytes.{IsAtEnd, Keeps, prepend_known}
use Rattle.py_data.specs.World.{line_of}

-- bytes without a newline are all of their line
through_missed : (xs : List ℕ) → All (λ b. b ≢ 10) xs → take_through 10 xs ≡ xs
through_missed [] h = refl
through_missed (x ∷ xs) h = at (eqb x 10) refl (through_missed xs (All-tail (λ b. b ≢ 10) x xs h))
  where
    at : (b : Bool) → eqb x 10 ≡ b → take_through 10 xs ≡ xs → cond b (x ∷ []) (x ∷ take_through 10 xs) ≡ x ∷ xs
    at true is rest = absurd (All-head (λ b. b ≢ 10) x xs h (eqb-true x 10 is))
    at false is rest = ap (λ l. x ∷ l) rest

-- the line ends with the first newline, whatever follows
through_found : (xs zs : List ℕ) (i : ℕ) → All (λ b. b ≢ 10) (take i xs) → i < length xs → get_or xs i 0 ≡ 10 →
    take_through 10 (xs ++ zs) ≡ take (i + 1) xs
through_found [] zs i h within e = absurd (omega arith)
through_found (x ∷ xs) zs zero h within e = rw e refl
through_found (x ∷ xs) zs (suc i) h within e =
    let here : i < length xs = omega arith in
    at (eqb x 10) refl (through_found xs zs i (All-tail (λ b. b ≢ 10) x (take i xs) h) here e)
  where
    at : (b : Bool) → eqb x 10 ≡ b → take_through 10 (xs ++ zs) ≡ take (i + 1) xs →
        cond b (x ∷ []) (x ∷ take_through 10 (xs ++ zs)) ≡ take (suc i + 1) (x ∷ xs)
    at true is rest = absurd (All-head (λ b. b ≢ 10) x (take i xs) h (eqb-true x 10 is))
    at false is rest =
        let more : suc i + 1 ≡ suc (i + 1) = omega arith in
        rw more (ap (λ l. x ∷ l) rest)

-- the bytes that can be of the line begin with those that are held
front : (held rest : List ℕ) (most : ℕ) →
    take most (held ++ rest) ≡ take most held ++ take (most - length (take most held)) (drop most held ++ rest)
front held rest most =
    let w = take most held in
    let whole : held ++ rest ≡ w ++ (drop most held ++ rest) = ap (λ l. l ++ rest) (sym (take-append-drop most held)) ∙
    append_assoc w (drop most held) rest in
    let size : length w ≡ min most (length held) = length-take most held in
    let count : most ≡ length w + (most - length w) = omega arith in
    ap (take most) whole ∙ ap (λ n. take n (w ++ (drop most held ++ rest))) count ∙
    take-append-add w (drop most held ++ rest) (most - length w)

found : (held rest : List ℕ) (most i : ℕ) → All (λ b. b ≢ 10) (take i (take most held)) →
    slice_get (take most held) i ≡ Some 10 → take (i + 1) held ≡ line_of most (held ++ rest)
found held rest most i none here =
    let w = take most held in
    let within : i < length w = slice_get_within w i 10 here in
    let line = through_found w (take (most - length w) (drop most held ++ rest)) i none within
    (get_or_from_slice_get w i 10 0 here) in
    let same : take (i + 1) held ≡ take (i + 1) w = ap (take (i + 1)) (sym (take-append-drop most held)) ∙
    take-append-le (i + 1) w (drop most held) (omega arith) in
    same ∙ sym (ap (take_through 10) (front held rest most) ∙ line)

-- The same for what a reader had, where that is known.

-- `w` is the part of what is held that can be of the line, and its first newline is at `i`
pub found_known : (a r : Option (List ℕ)) (held w : List ℕ) (most i : ℕ) → Keeps a (prepend_known held r) →
    w ≡ take most held
    → All (λ b. b ≢ 10) (take i w) → slice_get w i ≡ Some 10 → IfSome a (λ xs. take (i + 1) held ≡ line_of most xs)
found_known None r held w most i k e none here = tt
found_known (Some x) None held w most i k e none here = absurd k
found_known (Some x) (Some y) held w most i k e none here =
    found held y most i (subst (λ l. All (λ b. b ≢ 10) (take i l)) e none)
    (subst (λ l. slice_get l i ≡ Some 10) e here) ∙ ap (line_of most) k

-- as many bytes as are wanted were seen, and none is a newline
pub full_known : (a r : Option (List ℕ)) (held : List ℕ) (most seen : ℕ) → Keeps a (prepend_known held r) →
    seen ≤ length held → seen ≡ most
    → All (λ b. b ≢ 10) (take seen held) → IfSome a (λ xs. take seen held ≡ line_of most xs)
full_known None r held most seen k within e none = tt
full_known (Some x) None held most seen k within e none = absurd k
full_known (Some x) (Some y) held most seen k within e none =
    sym (ap (λ n. take_through 10 (take n (held ++ y))) (sym e) ∙
    ap (take_through 10) (take-append-le seen held y within) ∙ through_missed (take seen held) none) ∙
    ap (line_of most) k

-- all bytes that there are were seen, and none is a newline
pub end_known : (a r : Option (List ℕ)) (held more : List ℕ) (most seen : ℕ) → Keeps a (prepend_known more r) →
    IsAtEnd r → length more ≡ length held
    → take (length held) more ≡ held → seen ≡ length held → seen ≤ most → All (λ b. b ≢ 10) (take seen held) →
    IfSome a (λ xs. take seen more ≡ line_of most xs)
end_known None r held more most seen k end size front all within none = tt
end_known (Some x) None held more most seen k end size front all within none = absurd k
end_known (Some x) (Some y) held more most seen k end size front all within none =
    let same : more ≡ held = sym (take_all (length held) more (omega arith)) ∙ front in
    let whole : take seen held ≡ held = take_all seen held (omega arith) in
    let line : x ≡ held = sym k ∙ ap (λ l. l ++ y) same ∙ ap (λ l. held ++ l) end ∙ append-nil held in
    ap (take seen) same ∙ whole
    ∙ sym (ap (line_of most) line ∙ ap (take_through 10) (take_all most held (omega arith)) ∙
    through_missed held (subst (All (λ b. b ≢ 10)) whole none))
