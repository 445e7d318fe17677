-- The tokens of a text are its longest pieces.
use Rattle.std.proofs.Common.{◌≡◌, ℕ, Bool, false, if◌then◌else◌, List, ◌∷◌, length, Option, Some, None, Ok, Err, ◌⊎◌, inl, inr, refl, sym, ap, ◌∙◌, subst, arith}
use Rattle.py_base.specs.declared.refusal.Refusal.{Refusal}
use Rattle.py_base.specs.declared.refusal.Refusal.TheVariants.{BadDedent}
use Rattle.py_tokens.specs.declared.character.Character.{Character}
use Rattle.py_tokens.specs.declared.token.Token.{Token}
use Rattle.py_tokens.specs.declared.token.TokenKind.{TokenKind}
use Rattle.py_tokens.specs.Characters.{text_characters, last_line}
use Rattle.py_tokens.specs.Place.{place}
use Rattle.py_tokens.specs.Words.{Cut, cut}
use Rattle.py_tokens.specs.Layout.{tokens_in, Laid, laid, lexed, tokens_of_text}
use Rattle.front_laws.specs.Spells as s
use Rattle.front_laws.specs.Spells.{Spells}
use Rattle.front_laws.specs.Pieces as p
use Rattle.front_laws.specs.Pieces.{Pieces, is_layout, in_line}
use Rattle.front_laws.proofs.LayoutLemmas.{LaidIs, laid_is}
use Rattle.front_laws.proofs.PieceLemmas.{CutIs, cut_is}

-- ---- tokens that are spelled are none of the layout

spelled_in_line : (cs : List Character) (kind : TokenKind) → Spells cs kind → is_layout kind ≡ false
spelled_in_line cs kind (s.keyword n h) = refl
spelled_in_line cs kind (s.name c ds first each none) = refl
spelled_in_line cs kind (s.operator n h) = refl
spelled_in_line cs kind (s.int whole small) = refl
spelled_in_line cs kind (s.long l whole e) = refl
spelled_in_line cs kind (s.float f) = refl
spelled_in_line cs kind (s.imaginary j f e) = refl
spelled_in_line cs kind (s.imaginary_whole d ds j each e) = refl
spelled_in_line cs kind (s.string l raw e) = refl
spelled_in_line cs kind (s.unicode_string l e) = refl

all_in_line : (size : ℕ) (cs : List Character) (ts : List Token) (e : Option Refusal) → Pieces size cs ts e →
    in_line ts ≡ ts
all_in_line size cs ts e p.end = refl
all_in_line size cs ts e (p.blank c {cs = ds} is more) = all_in_line size ds ts e more
all_in_line size cs ts e (p.line_end c {cs = ds} is more) = all_in_line size ds ts e more
all_in_line size cs ts e (p.comment c xs {cs = ds} is each stop more) = all_in_line size ds ts e more
all_in_line size cs ts e (p.joint c d {cs = ds} is line more) = all_in_line size ds ts e more
all_in_line size cs ts e (p.token c xs {cs = ds} {ts = us} kind longest more) =
    let t : Token = record { kind = kind; from = c.from; to = p.begin size ds; line = c.line } in
    ap (λ (b : Bool). if b then in_line us else t ∷ in_line us) (spelled_in_line (c ∷ xs) kind longest.spelled)
    ∙ ap (λ zs. t ∷ zs) (all_in_line size ds us e more)
all_in_line size cs ts e (p.none c x alone cause) = refl

-- ---- the law

Told : ℕ → List Character → Laid → Type 0
Told size cs (Ok ts) = Pieces size cs (in_line ts) None
Told size cs (Err e) = ((line : ℕ) × (e ≡ BadDedent line)) ⊎ ((ts : List Token) × Pieces size cs ts (Some e))

told : (size : ℕ) (cs : List Character) (c : Cut) (r : Laid) → CutIs size cs c → LaidIs (tokens_in c.words) c.stop r →
    Told size cs r
unfolding Told
told size cs c (Ok ts) is laid =
    let same : in_line ts ≡ is.0 = laid.0 ∙ ap (λ us. in_line us) (is.2 laid.1) ∙
    all_in_line size cs is.0 c.stop is.1 in
    subst (λ us. Pieces size cs us None) (sym same) (subst (λ e. Pieces size cs is.0 e) laid.1 is.1)
told size cs c (Err e) is (inl dedent) = inl dedent
told size cs c (Err e) is (inr stop) = inr (is.0, subst (λ x. Pieces size cs is.0 x) stop is.1)

text_told : (text : List ℕ) → Told (length text) (text_characters text) (tokens_of_text text)
unfolding tokens_of_text lexed
text_told text =
    let size = length text in
    let cs = text_characters text in
    let c = cut (length cs) size cs in
    told size cs c (laid (place size size (last_line 1 cs)) c.stop c.words) (cut_is size (length cs) cs (omega arith))
    (laid_is (place size size (last_line 1 cs)) c.stop c.words)

pub text_pieces : (text : List ℕ) (ts : List Token) → tokens_of_text text ≡ Ok ts →
    Pieces (length text) (text_characters text) (in_line ts) None
unfolding Told
text_pieces text ts e = subst (Told (length text) (text_characters text)) e (text_told text)

pub text_refused : (text : List ℕ) (e : Refusal) → tokens_of_text text ≡ Err e →
    ((line : ℕ) × (e ≡ BadDedent line)) ⊎ ((ts : List Token) × Pieces (length text) (text_characters text) ts (Some e))
unfolding Told
text_refused text e f = subst (Told (length text) (text_characters text)) f (text_told text)
