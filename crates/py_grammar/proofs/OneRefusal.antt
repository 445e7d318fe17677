-- A list of tokens is refused in one way: as reading refuses it.
use Rattle.std.proofs.Common.{◌≡◌, ℕ, List, [], ◌∷◌, ◌++◌, length, Ok, Err, refl, sym, ap, ◌∙◌, subst, append_assoc}
use Rattle.py_base.specs.declared.refusal.Construct.{Construct}
use Rattle.py_tokens.specs.declared.token.Token.{Token}
use Rattle.py_tree.specs.declared.stmt.Module.{Module}
use Rattle.py_grammar.specs.declared.fault.Fault.{Fault}
use Rattle.py_grammar.specs.declared.fault.Fault.TheVariants.{Unexpected, LeftOut, Deep}
use Rattle.py_grammar.specs.Statements.{IsModule}
use Rattle.py_grammar.specs.Refused.{Begins, BeginsWith, Because, RefusedAt, EndsOnce}
use Rattle.py_grammar.specs.Words.{line_of}
use Rattle.py_grammar.specs.inner.Reading.{Reads}
use Rattle.py_grammar.specs.inner.Lines.{module_at}
use Rattle.py_grammar.proofs.Results.{Refuses, found, refuses}

-- ---- of two places, one comes first

-- of two ways to part a list, one's first part is inside the other's
data Apart (as' bs : List Token) (a b : Token) (more rest : List Token) : Type 0 where
  Same : as' ≡ bs → a ≡ b → Apart as' bs a b more rest
  Before : (zs : List Token) → bs ≡ (as' ++ a ∷ []) ++ zs → Apart as' bs a b more rest
  Behind : (zs : List Token) → as' ≡ (bs ++ b ∷ []) ++ zs → Apart as' bs a b more rest

parts : (as' bs : List Token) (a b : Token) (more rest : List Token) → as' ++ a ∷ more ≡ bs ++ b ∷ rest →
    Apart as' bs a b more rest
parts [] [] a b more rest e = Same refl cc
parts [] (y ∷ ys) a b more rest e = let h : a ≡ y = cc in Before ys (ap (λ z. z ∷ ys) (sym h))
parts (x ∷ xs) [] a b more rest e = let h : x ≡ b = cc in Behind xs (ap (λ z. z ∷ xs) h)
parts (x ∷ xs) (y ∷ ys) a b more rest e =
    let h : x ≡ y = cc in
    let t : xs ++ a ∷ more ≡ ys ++ b ∷ rest = cc in
    deeper (parts xs ys a b more rest t) h
  where
    deeper : Apart xs ys a b more rest → x ≡ y → Apart (x ∷ xs) (y ∷ ys) a b more rest
    deeper (Same p q) h = Same (ap (λ z. z ∷ xs) h ∙ ap (λ zs. y ∷ zs) p) q
    deeper (Before zs p) h = Before zs (ap (λ z. z ∷ ys) (sym h) ∙ ap (λ l. x ∷ l) p)
    deeper (Behind zs p) h = Behind zs (ap (λ z. z ∷ xs) h ∙ ap (λ l. y ∷ l) p)

-- what begins with more tokens begins with less
begins_less : (d : ℕ) (front zs ts : List Token) → ts ≡ front ++ zs → Begins d ts → Begins d front
begins_less d front zs ts e (m, more, is, low) =
    (m, zs ++ more, subst (IsModule m) (ap (λ l. l ++ more) e ∙ append_assoc front zs more) is, low)

-- ---- one refusal

-- where one construct alone could be why, there is one reason
because_same : (f g : Fault) (ts : List Token) → ((c d : Construct) → f ≡ LeftOut c → BeginsWith d ts → c ≡ d) →
    Because f ts → Because g ts → f ≡ g
because_same Deep Deep ts alone a b = refl
because_same Deep (LeftOut c) ts alone (d, a) b = absurd (b.0 d a)
because_same Deep Unexpected ts alone (d, a) b = absurd (b.0 d a)
because_same (LeftOut c) Deep ts alone a (d, b) = absurd (a.0 d b)
because_same (LeftOut c) (LeftOut e) ts alone a b = ap (λ z. LeftOut z) (alone c e refl b.1)
because_same (LeftOut c) Unexpected ts alone a b = absurd (b.1 c a.1)
because_same Unexpected Deep ts alone a (d, b) = absurd (a.0 d b)
because_same Unexpected (LeftOut c) ts alone a b = absurd (a.1 c b.1)
because_same Unexpected Unexpected ts alone a b = refl

refused_same : (ts : List Token) (f g : Fault) (i j : ℕ) → Refuses ts f i → RefusedAt ts g j → (f ≡ g) × (i ≡ j)
refused_same ts f g i j r b =
    let a = r.is in by_parts (parts a.front b.front a.token b.token a.rest b.rest (sym a.split ∙ b.split))
  where
    by_parts : Apart r.is.front b.front r.is.token b.token r.is.rest b.rest → (f ≡ g) × (i ≡ j)
    by_parts (Before zs p) = absurd (r.is.here (begins_less 100 (r.is.front ++ r.is.token ∷ []) zs b.front p b.before))
    by_parts (Behind zs p) = absurd (b.here (begins_less 100 (b.front ++ b.token ∷ []) zs r.is.front p r.is.before))
    by_parts (Same p q) =
        let a = r.is in
        let upto : b.front ++ b.token ∷ [] ≡ a.front ++ a.token ∷ [] =
        ap (λ l. l ++ b.token ∷ []) (sym p) ∙ ap (λ t. a.front ++ t ∷ []) (sym q) in (
          because_same f g (a.front ++ a.token ∷ []) r.alone a.because (subst (Because g) upto b.because),
          a.line_is ∙ ap (λ t. t.line) q ∙ sym b.line_is,
        )

pub stops : (ts : List Token) (f : Fault) (line : ℕ) → EndsOnce ts → RefusedAt ts f line →
    (rest : List Token) × (module_at (length ts) ts ≡ Err (f, rest)) × (line ≡ line_of rest)
stops ts f line h a = go (module_at (length ts) ts) refl
  where
    go : (r : Reads Module) → module_at (length ts) ts ≡ r →
        (rest : List Token) × (module_at (length ts) ts ≡ Err (f, rest)) × (line ≡ line_of rest)
    go (Ok x) e =
        let is = found ts x.0 x.1 h e in
        let split = a.split ∙ sym (append_assoc a.front (a.token ∷ []) a.rest) in
        absurd (a.here (x.0, a.rest, subst (IsModule x.0) split is.0, is.1))
    go (Err x) e =
        let same = refused_same ts x.0 f (line_of x.1) line (refuses ts x.0 x.1 h e) a in
        (x.1, e ∙ ap (λ z. Err (z, x.1)) same.0, sym same.1)
