-- The loop over a text's words: what was added so far, and what the words that are left add.
use Rattle.std.proofs.Common.{◌≡◌, ℕ, zero, suc, ◌+◌, ◌-◌, ◌<◌, ◌≤◌, List, [], ◌∷◌, length, Some, None, Result, Ok, Err, refl, sym, ap, ◌∙◌, subst, arith}
use Rattle.py_base.specs.declared.refusal.Refusal.{Refusal}
use Rattle.py_tokens.specs.declared.character.Character.{Character}
use Rattle.py_tokens.specs.declared.error.TokenError.{TokenError}
use Rattle.py_tokens.specs.declared.error.TokenError.TheVariants.{Refused, OutOfMemory}
use Rattle.py_tokens.specs.declared.layout.Mode.{Mode}
use Rattle.py_tokens.specs.declared.layout.Mode.TheVariants.{Fresh}
use Rattle.py_tokens.specs.declared.token.Place.{Place}
use Rattle.py_tokens.specs.declared.token.Token.{Token}
use Rattle.py_tokens.specs.declared.token.TokenKind.TheVariants as k
use Rattle.py_tokens.specs.declared.word.Word.{Word}
use Rattle.py_tokens.specs.declared.word.Word.TheVariants.{Plain}
use Rattle.py_tokens.specs.Characters.{last_line}
use Rattle.py_tokens.specs.Place.{place, place_of, token_at}
use Rattle.py_tokens.specs.Words.{word_at, Cut, with_word, cut_more, cut, Reads}
use Rattle.py_tokens.specs.Layout.{before, laid, lexed}
use Rattle.py_tokens.specs.Tokens.{to_come, Lays, Finishes, Breaks, Stops, Tokenizes}
use Rattle.py_tokens.proofs.Stacks.{before_append, before_nothing}

abbrev pub end_of : ℕ → List Character → Place
end_of size all = place size size (last_line 1 all)

abbrev pub SameTokens : ℕ → List Character → List Token → Mode → List ℕ → Cut → Type 0
SameTokens size all out m stack c = lexed size all ≡ before out (to_come (end_of size all) c.stop m stack c.words)

pub begins : (size : ℕ) (all : List Character) → SameTokens size all [] (Fresh 0) (0 ∷ []) (cut (length all) size all)
unfolding lexed laid
begins size all = before_nothing _

cut_word : (n size : ℕ) (c : Character) (cs more : List Character) (w : Word) → word_at size (c ∷ cs) ≡ Ok (w, more) →
    cut (suc n) size (c ∷ cs) ≡ with_word w (cut n size more)
unfolding cut
cut_word n size c cs more w e = ap (cut_more c (cut n size)) e

abbrev stopped : Character → Refusal → Cut
stopped c e = record { words = Plain (token_at (k.Name []) (place_of c)) ∷ []; stop = Some e }

cut_bad : (n size : ℕ) (c : Character) (cs : List Character) (e : Refusal) → word_at size (c ∷ cs) ≡ Err e →
    cut (suc n) size (c ∷ cs) ≡ stopped c e
unfolding cut
cut_bad n size c cs e h = ap (cut_more c (cut n size)) h

abbrev ended : Cut
ended = record { words = []; stop = None }

cut_none : (n size : ℕ) → cut n size [] ≡ ended
unfolding cut
cut_none zero size = refl
cut_none (suc n) size = refl

cut_zero : (size : ℕ) (cs : List Character) → cut zero size cs ≡ ended
unfolding cut
cut_zero size cs = refl

turn : (n i : ℕ) → i < n → n - i ≡ suc (n - (i + 1))
turn n i h = omega arith

-- the cut of the rest, where a word was read at its front
word_next : (n i size : ℕ) (c : Character) (cs rest more : List Character) (w : Word) → i < n → rest ≡ c ∷ cs →
    word_at size rest ≡ Ok (w, more) → cut (n - i) size rest ≡ with_word w (cut (n - (i + 1)) size more)
word_next n i size c cs rest more w h e p =
    ap (λ z. cut z size rest) (turn n i h) ∙ ap (cut (suc (n - (i + 1))) size) e ∙
    cut_word (n - (i + 1)) size c cs more w (ap (word_at size) (sym e) ∙ p)

bad_next : (n i size : ℕ) (c : Character) (cs rest : List Character) (e : Refusal) → i < n → rest ≡ c ∷ cs →
    word_at size rest ≡ Err e → cut (n - i) size rest ≡ stopped c e
bad_next n i size c cs rest e h q p =
    ap (λ z. cut z size rest) (turn n i h) ∙ ap (cut (suc (n - (i + 1))) size) q ∙
    cut_bad (n - (i + 1)) size c cs e (ap (word_at size) (sym q) ∙ p)

pub steps : (size : ℕ) (all : List Character) (out out' : List Token) (m m' : Mode) (stack stack' : List ℕ) (n i : ℕ)
    (c : Character) (cs rest more : List Character) (w : Word) →
    i < n → rest ≡ c ∷ cs → word_at size rest ≡ Ok (w, more) → Lays (Ok m') m stack w stack' out out' →
    SameTokens size all out m stack (cut (n - i) size rest) →
    SameTokens size all out' m' stack' (cut (n - (i + 1)) size more)
steps size all out out' m m' stack stack' n i c cs rest more w h e p l s =
    let next : Cut = cut (n - (i + 1)) size more in
    subst (SameTokens size all out m stack) (word_next n i size c cs rest more w h e p) s
    ∙ ap (before out) (l.2 (end_of size all) next.stop next.words)
    ∙ before_append out l.0 (to_come (end_of size all) next.stop m' stack' next.words)
    ∙ ap (λ z. before z (to_come (end_of size all) next.stop m' stack' next.words)) (sym l.1)

pub fails : {X : Type 0} (view : X → List Token) (size : ℕ) (all : List Character) (e : TokenError)
    (out out' : List Token) (m : Mode) (stack stack' : List ℕ) (n i : ℕ) (c : Character)
    (cs rest more : List Character) (w : Word) →
    i < n → rest ≡ c ∷ cs → word_at size rest ≡ Ok (w, more) → Lays (Err e) m stack w stack' out out' →
    SameTokens size all out m stack (cut (n - i) size rest) → Tokenizes view (Err e) (lexed size all)
fails view size all OutOfMemory out out' m stack stack' n i c cs rest more w h e p l s = tt
fails view size all (Refused d) out out' m stack stack' n i c cs rest more w h e p l s =
    let next : Cut = cut (n - (i + 1)) size more in
    subst (SameTokens size all out m stack) (word_next n i size c cs rest more w h e p) s ∙
    ap (before out) (l (end_of size all) next.stop next.words)

breaks : {X : Type 0} (view : X → List Token) (size : ℕ) (all : List Character) (r : TokenError) (e : Refusal)
    (out : List Token) (m : Mode) (stack : List ℕ) (n i : ℕ) (c : Character) (cs rest : List Character) →
    i < n → rest ≡ c ∷ cs → word_at size rest ≡ Err e → Breaks r (place_of c) e m stack →
    SameTokens size all out m stack (cut (n - i) size rest) → Tokenizes view (Err r) (lexed size all)
breaks view size all OutOfMemory e out m stack n i c cs rest h q p b s = tt
breaks view size all (Refused r) e out m stack n i c cs rest h q p b s =
    subst (SameTokens size all out m stack) (bad_next n i size c cs rest e h q p) s ∙
    ap (before out) (b (end_of size all))

pub stops : {X Y : Type 0} (view : X → List Token) (rest_of : Y → List Character) (size : ℕ) (all : List Character)
    (r e : TokenError) (out : List Token) (m : Mode) (stack : List ℕ) (n i : ℕ) (c : Character)
    (cs rest : List Character) (p : Place) →
    i < n → rest ≡ c ∷ cs → Reads {W = Word} rest_of (Err e) (word_at size rest) → p ≡ place_of c → Stops r p e m stack
    →
    SameTokens size all out m stack (cut (n - i) size rest) → Tokenizes view (Err r) (lexed size all)
stops view rest_of size all r (Refused e) out m stack n i c cs rest p h q w at b s =
    breaks view size all r e out m stack n i c cs rest h q w (subst (λ z. Breaks r z e m stack) at b) s
stops view rest_of size all r OutOfMemory out m stack n i c cs rest p h q w at b s =
    subst (λ z. Tokenizes view (Err z) (lexed size all)) (sym b) tt

finishes : {X : Type 0} (view : X → List Token) (size : ℕ) (all : List Character) (r : Result X TokenError)
    (out : List Token) (m : Mode) (stack : List ℕ) (c : Cut) → c ≡ ended →
    Finishes view r (end_of size all) m stack out → SameTokens size all out m stack c →
    Tokenizes view r (lexed size all)
finishes view size all (Ok ts) out m stack c e f s = subst (SameTokens size all out m stack) e s ∙ f
finishes view size all (Err e') out m stack c e f s = subst (λ z. Tokenizes view (Err z) (lexed size all)) (sym f) tt

pub finishes_empty : {X : Type 0} (view : X → List Token) (size : ℕ) (all : List Character) (r : Result X TokenError)
    (out : List Token) (m : Mode) (stack : List ℕ) (n : ℕ) (rest : List Character) → rest ≡ [] →
    Finishes view r (end_of size all) m stack out → SameTokens size all out m stack (cut n size rest) →
    Tokenizes view r (lexed size all)
finishes_empty view size all r out m stack n rest e = finishes view size all r out m stack (cut n size rest)
    (ap (cut n size) e ∙ cut_none n size)

pub finishes_turns : {X : Type 0} (view : X → List Token) (size : ℕ) (all : List Character) (r : Result X TokenError)
    (out : List Token) (m : Mode) (stack : List ℕ) (n i : ℕ) (rest : List Character) → n ≤ i →
    Finishes view r (end_of size all) m stack out → SameTokens size all out m stack (cut (n - i) size rest) →
    Tokenizes view r (lexed size all)
finishes_turns view size all r out m stack n i rest h = let none : n - i ≡ 0 = omega arith in
    finishes view size all r out m stack (cut (n - i) size rest) (ap (λ z. cut z size rest) none ∙ cut_zero size rest)
