-- Tokens that these words spell, and how they part where the words part.
use Rattle.std.proofs.Common.{◌≡◌, List, [], ◌∷◌, ◌++◌, subst, append-nil}
use Rattle.py_tokens.specs.declared.token.Token.{Token}
use Rattle.py_tokens.specs.declared.token.TokenKind.{TokenKind}
use Rattle.py_tokens.specs.declared.token.Place.{Place}
use Rattle.py_tokens.specs.Place.{token_at as at}
use Rattle.py_tree.specs.Spelling.{Words}

-- these words, at some places
pub data Spells : Words → List Token → Type 0 where
  nil : Spells [] []
  cons : (k : TokenKind) (p : Place) {ks : Words} {ts : List Token} → Spells ks ts → Spells (k ∷ ks) (at k p ∷ ts)

pub by : {us vs : Words} {ts : List Token} → us ≡ vs → Spells us ts → Spells vs ts
by {ts = ts} e s = subst (λ z. Spells z ts) e s

pub data First (k : TokenKind) (ks : Words) : List Token → Type 0 where
  first : (p : Place) {ts : List Token} → Spells ks ts → First k ks (at k p ∷ ts)

pub begins : {k : TokenKind} {ks : Words} {ts : List Token} → Spells (k ∷ ks) ts → First k ks ts
begins (cons k p s) = first p s

pub data Cut (us vs : Words) : List Token → Type 0 where
  cut : {ts ws : List Token} → Spells us ts → Spells vs ws → Cut us vs (ts ++ ws)

cut_more : (k : TokenKind) (p : Place) {us vs : Words} {ts : List Token} → Cut us vs ts → Cut (k ∷ us) vs (at k p ∷ ts)
cut_more k p (cut s t) = cut (cons k p s) t

pub cuts : (us vs : Words) {ts : List Token} → Spells (us ++ vs) ts → Cut us vs ts
cuts [] vs s = cut nil s
cuts (k ∷ us) vs (cons k' p s) = cut_more k' p (cuts us vs s)

-- nothing
pub data Nothing : List Token → Type 0 where
  nothing : Nothing []

pub ends : {ts : List Token} → Spells [] ts → Nothing ts
ends nil = nothing

-- a single word
pub data One (k : TokenKind) : List Token → Type 0 where
  one : (p : Place) → One k (at k p ∷ [])

one_first : {k : TokenKind} {ts : List Token} → First k [] ts → One k ts
one_first {k = k} (first p {ts} s) = one_more p (ends s)
  where
    one_more : (q : Place) {us : List Token} → Nothing us → One k (at k q ∷ us)
    one_more q nothing = one q

pub alone : {k : TokenKind} {ts : List Token} → Spells (k ∷ []) ts → One k ts
alone s = one_first (begins s)

-- two words
pub data Two (k l : TokenKind) : List Token → Type 0 where
  two : (p q : Place) → Two k l (at k p ∷ at l q ∷ [])

two_first : {k l : TokenKind} {ts : List Token} → First k (l ∷ []) ts → Two k l ts
two_first {k = k} {l = l} (first p s) = two_more p (alone s)
  where
    two_more : (q : Place) {us : List Token} → One l us → Two k l (at k q ∷ us)
    two_more q (one r) = two q r

pub both : {k l : TokenKind} {ts : List Token} → Spells (k ∷ l ∷ []) ts → Two k l ts
both s = two_first (begins s)

-- words before a last one
pub data Closed (ws : Words) (l : TokenKind) : List Token → Type 0 where
  closed : (q : Place) {ts : List Token} → Spells ws ts → Closed ws l (ts ++ at l q ∷ [])

closed_cut : {ws : Words} {l : TokenKind} {ts : List Token} → Cut ws (l ∷ []) ts → Closed ws l ts
closed_cut {ws = ws} {l = l} (cut s t) = closed_one s (alone t)
  where
    closed_one : {us vs : List Token} → Spells ws us → One l vs → Closed ws l (us ++ vs)
    closed_one r (one q) = closed q r

pub closes : (ws : Words) (l : TokenKind) {ts : List Token} → Spells (ws ++ l ∷ []) ts → Closed ws l ts
closes ws l s = closed_cut (cuts ws (l ∷ []) s)

-- words between two
pub data Enclosed (k l : TokenKind) (ws : Words) : List Token → Type 0 where
  enclosed : (p q : Place) {ts : List Token} → Spells ws ts → Enclosed k l ws (at k p ∷ ts ++ at l q ∷ [])

enclosed_first : {k l : TokenKind} {ws : Words} {ts : List Token} → First k (ws ++ l ∷ []) ts → Enclosed k l ws ts
enclosed_first {k = k} {l = l} {ws = ws} (first p s) = enclosed_closed p (closes ws l s)
  where
    enclosed_closed : (q : Place) {us : List Token} → Closed ws l us → Enclosed k l ws (at k q ∷ us)
    enclosed_closed q (closed r t) = enclosed q r t

pub encloses : (k l : TokenKind) (ws : Words) {ts : List Token} → Spells (k ∷ ws ++ l ∷ []) ts → Enclosed k l ws ts
encloses k l ws s = enclosed_first (begins s)

-- words on both sides of one
pub data Parted (us : Words) (k : TokenKind) (vs : Words) : List Token → Type 0 where
  parted : (p : Place) {ts ws : List Token} → Spells us ts → Spells vs ws → Parted us k vs (ts ++ at k p ∷ ws)

parted_cut : {us vs : Words} {k : TokenKind} {ts : List Token} → Cut us (k ∷ vs) ts → Parted us k vs ts
parted_cut {us = us} {vs = vs} {k = k} (cut s t) = parted_first s (begins t)
  where
    parted_first : {as' bs : List Token} → Spells us as' → First k vs bs → Parted us k vs (as' ++ bs)
    parted_first r (first p q) = parted p r q

pub parts : (us : Words) (k : TokenKind) (vs : Words) {ts : List Token} → Spells (us ++ k ∷ vs) ts → Parted us k vs ts
parts us k vs s = parted_cut (cuts us (k ∷ vs) s)

-- nothing after words
pub bare : (us : Words) {ts : List Token} → Spells (us ++ []) ts → Spells us ts
bare us s = by (append-nil us) s
