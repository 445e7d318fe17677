-- The equations of line ends and of escapes, by the first byte.
use Rattle.std.proofs.Common.{◌≡◌, ◌≢◌, ℕ, zero, suc, Bool, true, false, ◌==◌, ◌&&◌, if◌then◌else◌, List, [], ◌∷◌, ◌++◌, drop, option_map, Option, Some, None, refl, sym, ap, ◌∙◌, append_assoc, append-nil, eq-eqb}
use Rattle.std.proofs.lemmas.Bool.{ne_eqb}
use Rattle.py_text.specs.declared.literal.Escape.{Escape}
use Rattle.py_text.specs.Escape.{line_ends, after_line_end, escape_at, written, then_spelled, spelled}

-- ---- line ends

line_end_cases : (p q : Bool) (b c : ℕ) (bs : List ℕ) →
    (if p then (if q then 10 ∷ line_ends bs else 10 ∷ line_ends (c ∷ bs)) else b ∷ line_ends (c ∷ bs)) ≡
    (if p then 10 else b) ∷ line_ends (if p && q then bs else c ∷ bs)
line_end_cases true true b c bs = refl
line_end_cases true false b c bs = refl
line_end_cases false true b c bs = refl
line_end_cases false false b c bs = refl

pub line_ends_cons : (b : ℕ) (bs : List ℕ) → line_ends (b ∷ bs) ≡ (if b == 13 then 10 else b) ∷ line_ends
    (after_line_end b bs)
line_ends_cons b [] = refl
line_ends_cons b (c ∷ bs) = line_end_cases (b == 13) (c == 10) b c bs

-- ---- escapes

pub spelled_drop : (n : ℕ) (bs : List ℕ) → spelled n bs ≡ spelled 0 (drop n bs)
spelled_drop zero [] = refl
spelled_drop (suc n) [] = refl
spelled_drop zero (b ∷ bs) = refl
spelled_drop (suc n) (b ∷ bs) = spelled_drop n bs

-- what was written so far, and what the rest stands for
abbrev pub Reaches : List ℕ → List ℕ → List ℕ → Type 0
Reaches body text rest = spelled 0 body ≡ option_map (λ t. text ++ t) (spelled 0 rest)

grown : (text added : List ℕ) (r : Option (List ℕ)) → option_map (λ t. text ++ t) (option_map (λ t. added ++ t) r) ≡
    option_map (λ t. (text ++ added) ++ t) r
grown text added None = refl
grown text added (Some t) = ap (λ z. Some z) (sym (append_assoc text added t))

pub spelled_plain : (b : ℕ) (bs : List ℕ) → b ≢ 92 → spelled 0 (b ∷ bs) ≡ option_map (λ t. (b ∷ []) ++ t) (spelled 0 bs)
spelled_plain b bs n = rw (ne_eqb b 92 n) refl

spelled_escape : (b : ℕ) (bs : List ℕ) → b ≡ 92 → spelled 0 (b ∷ bs) ≡ then_spelled (escape_at bs) (λ n. spelled n bs)
spelled_escape b bs e = rw (eq-eqb b 92 e) refl

pub starts : (body : List ℕ) → Reaches body [] body
starts body = same (spelled 0 body)
  where
    same : (r : Option (List ℕ)) → r ≡ option_map (λ t. [] ++ t) r
    same None = refl
    same (Some t) = refl

pub plain_step : (body text text' rest more : List ℕ) (b : ℕ) → rest ≡ b ∷ more → b ≢ 92 → text' ≡ text ++ b ∷ [] →
    Reaches body text rest → Reaches body text' more
plain_step body text text' rest more b e n p r =
    r ∙ ap (λ z. option_map (λ t. text ++ t) (spelled 0 z)) e ∙
    ap (λ z. option_map (λ t. text ++ t) z) (spelled_plain b more n) ∙ grown text (b ∷ []) (spelled 0 more) ∙
    ap (λ z. option_map (λ t. z ++ t) (spelled 0 more)) (sym p)

pub escape_step : (body text text' rest more rest' : List ℕ) (b : ℕ) (e : Escape) → rest ≡ b ∷ more → b ≡ 92 →
    Some e ≡ escape_at more → text' ≡ text ++ written e.byte → rest' ≡ drop e.size more → Reaches body text rest →
    Reaches body text' rest'
escape_step body text text' rest more rest' b e p q f g h r =
    r ∙ ap (λ z. option_map (λ t. text ++ t) (spelled 0 z)) p
    ∙ ap (λ z. option_map (λ t. text ++ t) z)
    (spelled_escape b more q ∙ ap (λ z. then_spelled z (λ n. spelled n more)) (sym f))
    ∙ grown text (written e.byte) (spelled e.size more)
    ∙ ap (λ z. option_map (λ t. z ++ t) (spelled e.size more)) (sym g)
    ∙ ap (λ z. option_map (λ t. text' ++ t) z) (spelled_drop e.size more ∙ ap (spelled 0) (sym h))

pub no_escape : (body text rest more : List ℕ) (b : ℕ) → rest ≡ b ∷ more → b ≡ 92 → None ≡ escape_at more →
    Reaches body text rest → spelled 0 body ≡ None
no_escape body text rest more b p q f r =
    r ∙ ap (λ z. option_map (λ t. text ++ t) (spelled 0 z)) p
    ∙ ap (λ z. option_map (λ t. text ++ t) z)
    (spelled_escape b more q ∙ ap (λ z. then_spelled z (λ n. spelled n more)) (sym f))

pub ends : (body text rest : List ℕ) → rest ≡ [] → Reaches body text rest → spelled 0 body ≡ Some text
ends body text rest e r = r ∙ ap (λ z. option_map (λ t. text ++ t) (spelled 0 z)) e ∙ ap (λ z. Some z) (append-nil text)
