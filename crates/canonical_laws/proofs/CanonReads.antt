-- Tokens with these lexemes, and how they part where the lexemes part.
use Rattle.std.proofs.Common.{◌≡◌, ℕ, List, [], ◌∷◌, ◌++◌, map, refl, sym, ◌∙◌, subst, append-nil}
use Rattle.py_tokens.specs.declared.token.Token.{Token}
use Rattle.py_tokens.specs.declared.token.TokenKind.{TokenKind}
use Rattle.py_tokens.specs.declared.token.Place.{Place}
use Rattle.py_tokens.specs.Place.{token_at as at, place}
use Rattle.py_tree.specs.Lexeme.{Lexeme, lexeme, lexeme_of, line_kept}
use Rattle.py_tree.specs.Spelling.{Words}
use Rattle.py_tree.specs.Canonical.{on}
use Rattle.py_grammar.specs.Words.{line_of}
use Rattle.canonical_laws.proofs.CanonWords.{Spells, Nothing, nothing}

pub data Reads : List Lexeme → List Token → Type 0 where
  nil : Reads [] []
  cons : (l : Lexeme) (t : Token) {ls : List Lexeme} {ts : List Token} → lexeme_of t ≡ l → Reads ls ts →
      Reads (l ∷ ls) (t ∷ ts)

self : (ts : List Token) → Reads (map lexeme_of ts) ts
self [] = nil
self (t ∷ ts) = cons (lexeme_of t) t refl (self ts)

pub reads : (ts : List Token) (ls : List Lexeme) → map lexeme_of ts ≡ ls → Reads ls ts
reads ts ls e = subst (λ z. Reads z ts) e (self ts)

pub alike : {us vs : List Lexeme} {ts : List Token} → us ≡ vs → Reads us ts → Reads vs ts
alike {ts = ts} e s = subst (λ z. Reads z ts) e s

-- ---- parts

pub data Split (us vs : List Lexeme) : List Token → Type 0 where
  split : {ts ws : List Token} → Reads us ts → Reads vs ws → Split us vs (ts ++ ws)

split_more : (l : Lexeme) (t : Token) {us vs : List Lexeme} {ts : List Token} → lexeme_of t ≡ l → Split us vs ts →
    Split (l ∷ us) vs (t ∷ ts)
split_more l t e (split r s) = split (cons l t e r) s

pub splits : (us vs : List Lexeme) {ts : List Token} → Reads (us ++ vs) ts → Split us vs ts
splits [] vs r = split nil r
splits (l ∷ us) vs (cons l' t e r) = split_more l' t e (splits us vs r)

pub none : {ts : List Token} → Reads [] ts → Nothing ts
none nil = nothing

pub only : (us : List Lexeme) {ts : List Token} → Reads (us ++ []) ts → Reads us ts
only us r = alike (append-nil us) r

-- a first token of this kind
pub data Leads (κ : TokenKind) (line : ℕ) (ls : List Lexeme) : List Token → Type 0 where
  leads : (p : Place) {ts : List Token} → line_kept κ p.line ≡ line → Reads ls ts → Leads κ line ls (at κ p ∷ ts)

pub led_by : {κ : TokenKind} {line : ℕ} {ls : List Lexeme} {ts : List Token} → Reads (lexeme κ line ∷ ls) ts →
    Leads κ line ls ts
led_by (cons l t {ls} {ts} e r) = subst (λ z. Leads z.kind z.line ls (t ∷ ts)) e
    (leads (place t.from t.to t.line) refl r)

-- ---- words on a line

-- the line of a first token
abbrev pub BeginsOn : ℕ → List Token → Type 0
BeginsOn line [] = Unit {0}
BeginsOn line (t ∷ ts) = line_kept t.kind t.line ≡ line

-- These words, the first of them on this line.
pub record OnLine (line : ℕ) (ws : Words) (ts : List Token) : Type 0 where
  pub spells : Spells ws ts
  pub starts : BeginsOn line ts

on_head : {κ : TokenKind} {line : ℕ} {ws : Words} {ls : List Lexeme} {ts : List Token} →
    ((us : List Token) → Reads ls us → OnLine line ws us) → Leads κ line ls ts → OnLine line (κ ∷ ws) ts
on_head f (leads p e r) = record { spells = Spells.cons _ p (f _ r).spells; starts = e }

pub on_line : (line : ℕ) (ws : Words) (ts : List Token) → Reads (on line ws) ts → OnLine line ws ts
on_line line [] ts nil = record { spells = Spells.nil; starts = tt }
on_line line (κ ∷ ws) ts r = on_head (λ us s. on_line line ws us s) (led_by r)

-- a first token with a line
pub data Worded : List Token → Type 0 where
  worded : (κ : TokenKind) (p : Place) {us : List Token} → ((n : ℕ) → line_kept κ n ≡ n) → Worded (at κ p ∷ us)

pub line_is : {line : ℕ} {ts : List Token} → Worded ts → BeginsOn line ts → line_of ts ≡ line
line_is (worded κ p f) e = sym (f p.line) ∙ e

pub worded_more : {ts : List Token} (us : List Token) → Worded ts → Worded (ts ++ us)
worded_more us (worded κ p f) = worded κ p f

pub line_front : {ts : List Token} (us : List Token) → Worded ts → line_of (ts ++ us) ≡ line_of ts
line_front us (worded κ p f) = refl

pub begins_front : (line : ℕ) {ts : List Token} (us : List Token) → Worded ts → BeginsOn line (ts ++ us) →
    BeginsOn line ts
begins_front line us (worded κ p f) e = e
