-- Bodies behind bodies.
use Rattle.std.proofs.Common.{◌≡◌, ℕ, ◌+◌, List, [], ◌∷◌, ◌++◌, length, sym, ap, ◌∙◌, append_assoc, append-nil, arith}
use Rattle.py_uses.specs.declared.bodies.Body.{Body as DeclaredBody}
use Rattle.py_templates.specs.Statements.{Body, Stated}
use Rattle.py_uses.specs.inner.Gathered.{body_of, numbered}

pub two : (a b d xs : List Body) (g : ℕ → List Body) (k m n : ℕ) → b ≡ a ++ xs → m ≡ k + n → d ≡ b ++ g m →
    d ≡ a ++ (xs ++ g (k + n))
two a b d xs g k m n h e h2 = h2 ∙ ap (λ z. z ++ g m) h ∙ append_assoc a xs (g m) ∙ ap (λ z. a ++ (xs ++ g z)) e

pub three : (a b d x : List Body) (ys : List Body) (g : ℕ → List Body) (w : List Body) (k m n l o : ℕ) → b ≡ a ++ ys →
    m ≡ k + n → d ≡ b ++ g m → l ≡ m + o → (h : ℕ → List Body) → x ≡ d ++ h l →
    x ≡ a ++ (ys ++ (g (k + n) ++ h (k + n + o)))
three a b d x ys g w k m n l o e1 e2 e3 e4 h e5 =
    e5 ∙ ap (λ z. z ++ h l) (two a b d ys g k m n e1 e2 e3) ∙ append_assoc a (ys ++ g (k + n)) (h l) ∙
    ap (λ z. a ++ z) (append_assoc ys (g (k + n)) (h l))
    ∙ ap (λ z. a ++ (ys ++ (g (k + n) ++ h z))) (e4 ∙ ap (λ z. z + o) e2)

pub inner_none : (s : Stated) (a : List Body) (f : ℕ) → s.inner f ≡ [] → a ≡ a ++ s.inner f
inner_none s a f h = sym (append-nil a) ∙ ap (λ z. a ++ z) (sym h)

pub numbered_more : (f : ℕ) (ys : List DeclaredBody) (y : DeclaredBody) →
    numbered f (ys ++ y ∷ []) ≡ numbered f ys ++ body_of (f + length ys) y ∷ []
numbered_more f [] y = let e : f ≡ f + 0 = omega arith in ap (λ z. body_of z y ∷ []) e
numbered_more f (x ∷ ys) y = let e : f + 1 + length ys ≡ f + length (x ∷ ys) = omega arith in
    ap (λ z. body_of f x ∷ z) (numbered_more (f + 1) ys y ∙ ap (λ z. numbered (f + 1) ys ++ body_of z y ∷ []) e)

pub numbered_end : (ys : List DeclaredBody) (y : DeclaredBody) →
    numbered 0 (ys ++ y ∷ []) ≡ numbered 0 ys ++ body_of (length ys) y ∷ []
numbered_end ys y = let e : 0 + length ys ≡ length ys = omega arith in numbered_more 0 ys y ∙
    ap (λ z. numbered 0 ys ++ body_of z y ∷ []) e
