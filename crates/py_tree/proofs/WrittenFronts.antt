-- Which rule reads a word, by the class of its first byte, and the longest run of a class at a row.
use Rattle.std.proofs.Common.{◌≡◌, ℕ, ◌+◌, ◌==◌, Bool, true, false, ◌||◌, if◌then◌else◌, List, [], ◌∷◌, ◌++◌, length, map, take, drop, refl, ap, ◌∙◌, arith}
use Rattle.std.proofs.Math.Seq.{take-append_seam, drop-append_seam}
use Rattle.std.proofs.lemmas.Bool.{ne_eqb}
use Rattle.std.specs.List.{list_all}
use Rattle.py_tokens.specs.declared.character.Character.{Character}
use Rattle.py_tokens.specs.declared.class.Class.{Class}
use Rattle.py_tokens.specs.declared.class.Class.TheVariants as class
use Rattle.py_tokens.specs.Characters.{byte_of}
use Rattle.py_tokens.specs.Classes.{holds, run_len, run, after}
use Rattle.py_tokens.specs.Numbers.{ten, number_at}
use Rattle.py_tokens.specs.Strings.{prefix, string_at}
use Rattle.py_tokens.specs.Names.{name_at}
use Rattle.py_tokens.specs.Words.{token_word, token_front, word_at}
use Rattle.py_tree.proofs.WrittenRows.{row, quiet, both}

-- ---- tests of a byte

-- a byte of a class is none that the class lacks
pub other : (f : ℕ → Bool) (b x : ℕ) → f b ≡ true → f x ≡ false → (b == x) ≡ false
other f b x p q = ne_eqb b x (λ e. let no : ⊥ = cc (ap f e) in no)

pub skip : {A : Type 0} (p : Bool) (x y : A) → p ≡ false → (if p then x else y) ≡ y
skip true x y e = absurd (cc)
skip false x y e = refl

pub hit : {A : Type 0} (p : Bool) (x y : A) → p ≡ true → (if p then x else y) ≡ x
hit true x y e = refl
hit false x y e = absurd (cc)

none : (p q r : Bool) → p ≡ false → q ≡ false → r ≡ false → (p || q || r) ≡ false
none p q r e f g = rw (e, f, g) refl

some : (p q : Bool) → p ≡ true → (p || q) ≡ true
some p q e = rw e refl

-- what begins with a byte of a class that lacks line ends, blanks and the signs of comments and joints is a token
pub front : (f : ℕ → Bool) (size : ℕ) (c : Character) (cs : List Character) → f c.byte ≡ true → f 10 ≡ false →
    f 32 ≡ false → f 9 ≡ false → f 12 ≡ false → f 35 ≡ false → f 92 ≡ false →
    word_at size (c ∷ cs) ≡ token_front size c cs (c ∷ cs)
unfolding word_at
front f size c cs h e1 e2 e3 e4 e5 e6 =
    skip (c.byte == 10) _ _ (other f c.byte 10 h e1)
    ∙ (skip (holds class.Blank c.byte) _ _
    (none (c.byte == 32) (c.byte == 9) (c.byte == 12) (other f c.byte 32 h e2) (other f c.byte 9 h e3)
    (other f c.byte 12 h e4))
    ∙ (skip (c.byte == 35) _ _ (other f c.byte 35 h e5) ∙ skip (c.byte == 92) _ _ (other f c.byte 92 h e6)))

pub front_name : (size : ℕ) (c : Character) (cs : List Character) → holds class.NameStart c.byte ≡ true →
    word_at size (c ∷ cs) ≡ token_word size c (name_at c.line (c ∷ cs))
front_name size c cs h = front (holds class.NameStart) size c cs h refl refl refl refl refl refl ∙
    hit (holds class.NameStart c.byte) _ _ h

pub front_string : (size : ℕ) (c : Character) (cs : List Character) → holds class.NameStart c.byte ≡ false →
    holds class.Quote c.byte ≡ true → word_at size (c ∷ cs) ≡ token_word size c
    (string_at c.line (prefix false false) (c ∷ cs))
front_string size c cs n h = front (holds class.Quote) size c cs h refl refl refl refl refl refl ∙
    (skip (holds class.NameStart c.byte) _ _ n ∙ hit (holds class.Quote c.byte) _ _ h)

pub front_number : (size : ℕ) (c : Character) (cs : List Character) → holds class.NameStart c.byte ≡ false →
    holds ten c.byte ≡ true → word_at size (c ∷ cs) ≡ token_word size c (number_at c.line (c ∷ cs))
front_number size c cs n h =
    front (holds ten) size c cs h refl refl refl refl refl refl
    ∙ (skip (holds class.NameStart c.byte) _ _ n
    ∙ (skip (holds class.Quote c.byte) _ _
    (neither (c.byte == 39) (c.byte == 34) (other (holds ten) c.byte 39 h refl)
    (other (holds ten) c.byte 34 h refl))
    ∙ hit (holds ten c.byte || _) _ _ (some (holds ten c.byte) _ h)))
  where
    neither : (p q : Bool) → p ≡ false → q ≡ false → (p || q) ≡ false
    neither p q e f = rw (e, f) refl

pub quiet_by : (f : ℕ → Bool) → f 10 ≡ false → f 13 ≡ false → f 239 ≡ false → (bs : List ℕ) → list_all f bs ≡ true →
    quiet bs ≡ true
quiet_by f e1 e2 e3 [] h = refl
quiet_by f e1 e2 e3 (b ∷ bs) h =
    let each = both (f b) (list_all f bs) h in
    rw (other f b 10 each.0 e1, other f b 13 each.0 e2, other f b 239 each.0 e3) (quiet_by f e1 e2 e3 bs each.1)

-- ---- runs

pub bytes_row : (at line : ℕ) (bs : List ℕ) → map byte_of (row at line bs) ≡ bs
bytes_row at line [] = refl
bytes_row at line (b ∷ bs) = ap (λ z. b ∷ z) (bytes_row (at + 1) line bs)

run_len_row : (c : Class) (at line : ℕ) (bs : List ℕ) (e : Character) (rest : List Character) →
    list_all (holds c) bs ≡ true → holds c e.byte ≡ false →
    run_len c (row at line bs ++ e ∷ rest) ≡ length (row at line bs)
run_len_row c at line [] e rest h n = skip (holds c e.byte) _ _ n
run_len_row c at line (b ∷ bs) e rest h n =
    let each = both (holds c b) (list_all (holds c) bs) h in
    let more = run_len_row c (at + 1) line bs e rest each.1 n in
    hit (holds c b) _ _ each.0 ∙ omega (arith, more)

pub run_row : (c : Class) (at line : ℕ) (bs : List ℕ) (e : Character) (rest : List Character) →
    list_all (holds c) bs ≡ true → holds c e.byte ≡ false → run c (row at line bs ++ e ∷ rest) ≡ row at line bs
run_row c at line bs e rest h n = ap (λ z. take z (row at line bs ++ e ∷ rest)) (run_len_row c at line bs e rest h n) ∙
    take-append_seam (row at line bs) (e ∷ rest)

pub after_row : (c : Class) (at line : ℕ) (bs : List ℕ) (e : Character) (rest : List Character) →
    list_all (holds c) bs ≡ true → holds c e.byte ≡ false → after c (row at line bs ++ e ∷ rest) ≡ e ∷ rest
after_row c at line bs e rest h n = ap (λ z. drop z (row at line bs ++ e ∷ rest)) (run_len_row c at line bs e rest h n)
    ∙ drop-append_seam (row at line bs) (e ∷ rest)
