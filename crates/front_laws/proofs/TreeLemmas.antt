-- A list of tokens has one module or one refusal, and a text one tree, which its canonical text has again.
use Rattle.std.proofs.Common.{◌≡◌, ℕ, ◌≤◌, ◌<◌, ◌⊎◌, inl, inr, List, [], ◌∷◌, length, Result, Ok, Err, All, refl, sym, ap, subst, ◌∙◌}
use Rattle.std.proofs.lemmas.List.{append_assoc}
use Rattle.py_tokens.specs.declared.token.Token.{Token}
use Rattle.py_tokens.specs.Layout.{tokens_of_text}
use Rattle.py_tree.specs.Canonical.{module_text}
use Rattle.py_tree.specs.declared.stmt.Module.{Module}
use Rattle.py_tree.specs.Tall.{tall_module}
use Rattle.py_grammar.specs.declared.fault.Fault.{Fault}
use Rattle.py_grammar.specs.inner.Lines.{module_at}
use Rattle.py_grammar.specs.inner.Reading.{Reads}
use Rattle.py_grammar.specs.Refused.{EndsOnce, RefusedAt}
use Rattle.py_grammar.specs.Statements.{IsModule}
use Rattle.py_grammar.specs.Words.{line_of}
use Rattle.front_laws.specs.Trees.{IsTree}

-- ---- of tokens

abbrev pub HasTree : List Token → Type 0
HasTree ts = ((m : Module) × IsModule m ts × (tall_module m ≤ 100)) ⊎ ((f : Fault) × (line : ℕ) × RefusedAt ts f line)

pub some_tree : ((ts : List Token) (m : Module) (rest : List Token) → EndsOnce ts →
    module_at (length ts) ts ≡ Ok (m, rest) → IsModule m ts × (tall_module m ≤ 100)) →
    ((ts : List Token) (f : Fault) (rest : List Token) → EndsOnce ts →
    module_at (length ts) ts ≡ Err (f, rest) → RefusedAt ts f (line_of rest)) →
    (ts : List Token) → EndsOnce ts → HasTree ts
some_tree found refused ts h = go (module_at (length ts) ts) refl
  where
    go : (r : Reads Module) → module_at (length ts) ts ≡ r → HasTree ts
    go (Ok x) e = let is = found ts x.0 x.1 h e in inl (x.0, is.0, is.1)
    go (Err x) e = inr (x.0, line_of x.1, refused ts x.0 x.1 h e)

-- no module of that height begins with the refused token
pub never_both : (ts : List Token) (m : Module) (f : Fault) (line : ℕ) →
    IsModule m ts → tall_module m ≤ 100 → RefusedAt ts f line → ⊥
never_both ts m f line is low r =
    let split = r.split ∙ sym (append_assoc r.front (r.token ∷ []) r.rest) in
    r.here (m, r.rest, subst (IsModule m) split is, low)

same_stop : (r : Reads Module) (x y : Fault × List Token) → r ≡ Err x → r ≡ Err y → x ≡ y
same_stop r x y p q = cc

pub same_refusal : ((ts : List Token) (f : Fault) (line : ℕ) → EndsOnce ts → RefusedAt ts f line →
    (rest : List Token) × (module_at (length ts) ts ≡ Err (f, rest)) × (line ≡ line_of rest)) →
    (ts : List Token) (f g : Fault) (i j : ℕ) → EndsOnce ts → RefusedAt ts f i → RefusedAt ts g j → (f ≡ g) × (i ≡ j)
same_refusal stops ts f g i j h a b =
    let x = stops ts f i h a in
    let y = stops ts g j h b in
    let same = same_stop (module_at (length ts) ts) (f, x.0) (g, y.0) x.1 y.1 in
    (ap (λ z. z.0) same, x.2 ∙ ap (λ z. line_of z.1) same ∙ sym y.2)

-- ---- of texts

same_ok : {A E : Type 0} (r : Result A E) (a b : A) → r ≡ Ok a → r ≡ Ok b → a ≡ b
same_ok r a b p q = cc

pub tree_again : ((text : List ℕ) (ts : List Token) (m : Module) → All (λ b. b < 256) text →
    tokens_of_text text ≡ Ok ts → IsModule m ts →
    (us : List Token) × (tokens_of_text (module_text m) ≡ Ok us) × IsModule m us) →
    (text : List ℕ) (m : Module) → All (λ b. b < 256) text → IsTree text m → IsTree (module_text m) m
tree_again again text m bytes t =
    let x = again text t.tokens m bytes t.are t.is in
    record { tokens = x.0; are = x.1; is = x.2; low = t.low }

pub same_tree : ((ts : List Token) (m n : Module) → IsModule m ts → IsModule n ts → m ≡ n) →
    (text : List ℕ) (m n : Module) → IsTree text m → IsTree text n → m ≡ n
same_tree one text m n a b =
    let ts = same_ok (tokens_of_text text) a.tokens b.tokens a.are b.are in
    one b.tokens m n (subst (IsModule m) ts a.is) b.is
