-- The tokens of a text end with End, and End stands nowhere else.
use Rattle.std.proofs.Common.{◌≡◌, ℕ, List, [], ◌∷◌, length, Ok, ◌⊎◌, inl, inr, refl}
use Rattle.py_tokens.specs.declared.token.Token.{Token}
use Rattle.py_tokens.specs.declared.token.TokenKind.{TokenKind}
use Rattle.py_tokens.specs.declared.token.TokenKind.TheVariants as k
use Rattle.py_tokens.specs.Layout.{tokens_of_text}
use Rattle.py_tokens.specs.Stream.{after_kind, IsStream}
use Rattle.py_tokens.proofs.Streams.{stream_of}
use Rattle.py_grammar.specs.Refused.{EndsOnce}

-- what follows, by the kind of a token
by_kind : (kind : TokenKind) (depth : ℕ) (more : ℕ → Type 0) (last ends : Type 0) → ((d : ℕ) → more d → ends) →
    after_kind kind depth more last →
    ((kind ≡ k.End) × last) ⊎ ((kind ≡ k.End → ⊥) × ends)
by_kind k.End depth more last ends f h = inl (refl, h.1)
by_kind k.Indent depth more last ends f h = inr (λ e. cc, f _ h)
by_kind k.Dedent depth more last ends f h = inr (λ e. cc, f _ h.1)
by_kind k.Newline depth more last ends f h = inr (λ e. cc, f _ h)
by_kind (k.Name bs) depth more last ends f h = inr (λ e. cc, f _ h)
by_kind (k.Keyword n) depth more last ends f h = inr (λ e. cc, f _ h)
by_kind (k.Int n) depth more last ends f h = inr (λ e. cc, f _ h)
by_kind (k.Str bs) depth more last ends f h = inr (λ e. cc, f _ h)
by_kind (k.Op n) depth more last ends f h = inr (λ e. cc, f _ h)
by_kind (k.Other o) depth more last ends f h = inr (λ e. cc, f _ h)

pub ends : (size at depth : ℕ) (ts : List Token) → IsStream size at depth ts → EndsOnce ts
ends size at depth [] h = absurd h
ends size at depth (t ∷ ts) h = by_kind t.kind depth (λ d. IsStream size t.to d ts) (ts ≡ []) (EndsOnce ts)
    (λ d. ends size t.to d ts) h.3

pub ends_text : (text : List ℕ) (ts : List Token) → tokens_of_text text ≡ Ok ts → EndsOnce ts
ends_text text ts e = ends (length text) 0 0 ts (stream_of {X = List Token} (λ v. v) (Ok ts) text e)
