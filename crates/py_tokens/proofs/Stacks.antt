-- The stack of indentations, whose top is the last item of the code's.
use Rattle.std.proofs.Common.{◌≡◌, ℕ, ◌≤◌, List, [], ◌∷◌, ◌++◌, reverse, Result, Ok, Err, refl, sym, ap, ◌∙◌, append_assoc, append-nil, eq-eqb, le-ltb}
use Rattle.std.proofs.lemmas.List.{reverse-append}
use Rattle.std.proofs.lemmas.Bool.{ne_eqb}
use Rattle.py_tokens.specs.declared.error.TokenError.{TokenError}
use Rattle.py_tokens.specs.declared.error.TokenError.TheVariants.{Refused, OutOfMemory}
use Rattle.py_tokens.specs.declared.token.Place.{Place}
use Rattle.py_tokens.specs.declared.token.Token.{Token}
use Rattle.py_tokens.specs.declared.token.TokenKind.TheVariants as k
use Rattle.py_tokens.specs.Place.{token_at}
use Rattle.py_tokens.specs.Layout.{Laid, before, popped, indented}
use Rattle.py_tokens.specs.Tokens.{Moves}

pub before_append : (ts us : List Token) (r : Laid) → before ts (before us r) ≡ before (ts ++ us) r
before_append ts us (Ok vs) = ap (λ z. Ok z) (sym (append_assoc ts us vs))
before_append ts us (Err e) = refl

pub before_nothing : (r : Laid) → r ≡ before [] r
before_nothing (Ok vs) = refl
before_nothing (Err e) = refl

pub top_first : (xs : List ℕ) (x : ℕ) → reverse (xs ++ x ∷ []) ≡ x ∷ reverse xs
top_first xs x = reverse-append xs (x ∷ [])

keep : (p : Place) (c e : ℕ) (s : List ℕ) (go : List ℕ → Laid) → c ≡ e → popped p c (e ∷ s) go ≡ go (e ∷ s)
keep p c e s go h = rw (eq-eqb c e h) refl

drop_one : (p : Place) (c e : ℕ) (s : List ℕ) (go : List ℕ → Laid) → (c ≡ e → ⊥) → c ≤ e →
    popped p c (e ∷ s) go ≡ before (token_at k.Dedent p ∷ []) (popped p c s go)
drop_one p c e s go n h = rw (ne_eqb c e n) (rw (le-ltb e c h) refl)

less : (p : Place) (c e : ℕ) (s : List ℕ) (go : List ℕ → Laid) → c ≤ e → indented p c (e ∷ s) go ≡ popped p c (e ∷ s) go
less p c e s go h = rw (le-ltb e c h) refl

pub kept : (place : Place) (c e : ℕ) (rest old new : List ℕ) (out : List Token) → c ≡ e → old ≡ rest ++ e ∷ [] →
    new ≡ rest ++ e ∷ [] → Moves (Ok tt) (popped place c) (reverse old) (reverse new) out out
kept place c e rest old new out h p q = (
  [],
  sym (append-nil out),
  λ go.
      ap (λ z. popped place c (reverse z) go) p ∙ ap (λ z. popped place c z go) (top_first rest e) ∙
      keep place c e (reverse rest) go h ∙ ap go (sym (top_first rest e)) ∙ ap (λ z. go (reverse z)) (sym q) ∙
      before_nothing (go (reverse new)),
)

pub pops_more : (r : Result (Unit {0}) TokenError) (place : Place) (c e : ℕ) (rest old new : List ℕ)
    (out mid end : List Token) → (c ≡ e → ⊥) → c ≤ e → old ≡ rest ++ e ∷ [] → mid ≡ out ++ token_at k.Dedent place ∷ []
    →
    Moves r (popped place c) (reverse rest) new mid end → Moves r (popped place c) (reverse old) new out end
pops_more (Ok u) place c e rest old new out mid end n h p q m = (
  token_at k.Dedent place ∷ m.0,
  m.1 ∙ ap (λ z. z ++ m.0) q ∙ append_assoc out (token_at k.Dedent place ∷ []) m.0,
  λ go. ap (λ z. popped place c (reverse z) go) p ∙ ap (λ z. popped place c z go) (top_first rest e) ∙
      drop_one place c e (reverse rest) go n h ∙ ap (λ z. before (token_at k.Dedent place ∷ []) z) (m.2 go) ∙
      before_append (token_at k.Dedent place ∷ []) m.0 (go new),
)
pops_more (Err OutOfMemory) place c e rest old new out mid end n h p q m = tt
pops_more (Err (Refused l)) place c e rest old new out mid end n h p q m = λ go.
    ap (λ z. popped place c (reverse z) go) p ∙ ap (λ z. popped place c z go) (top_first rest e) ∙
    drop_one place c e (reverse rest) go n h ∙ ap (λ z. before (token_at k.Dedent place ∷ []) z) (m go)

pub no_more : (r : Result (Unit {0}) TokenError) (place : Place) (c e : ℕ) (rest old again new : List ℕ)
    (out end : List Token) → c ≤ e → old ≡ rest ++ e ∷ [] → again ≡ rest ++ e ∷ [] →
    Moves r (popped place c) (reverse again) new out end → Moves r (indented place c) (reverse old) new out end
no_more r place c e rest old again new out end h p q m = go r m
  where
    same : (go : List ℕ → Laid) → indented place c (reverse old) go ≡ popped place c (reverse again) go
    same go = ap (λ z. indented place c (reverse z) go) p ∙ ap (λ z. indented place c z go) (top_first rest e) ∙
        less place c e (reverse rest) go h ∙ ap (λ z. popped place c z go) (sym (top_first rest e)) ∙
        ap (λ z. popped place c (reverse z) go) (sym q)

    go : (r : Result (Unit {0}) TokenError) → Moves r (popped place c) (reverse again) new out end →
        Moves r (indented place c) (reverse old) new out end
    go (Ok u) m = (m.0, m.1, λ rest. same rest ∙ m.2 rest)
    go (Err OutOfMemory) m = tt
    go (Err (Refused l)) m = λ rest. same rest ∙ m rest
