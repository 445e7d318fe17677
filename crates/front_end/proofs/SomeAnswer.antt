-- A text has a program, or is refused.
use Rattle.std.proofs.Common.{◌≡◌, ℕ, zero, suc, ◌+◌, ◌<◌, ◌≤◌, ◌⊎◌, inl, inr, List, [], ◌∷◌, length, slice_get, Option, Some, None, option_map, Result, Ok, Err, refl, sym, ap, subst, ◌∙◌, arith}
use Rattle.py_base.specs.declared.refusal.Refusal.{Refusal}
use Rattle.py_base.specs.declared.refusal.Refusal.TheVariants.{TooLarge}
use Rattle.py_tokens.specs.declared.token.Token.{Token}
use Rattle.py_tokens.specs.Layout.{Laid, tokens_of_text}
use Rattle.py_tree.specs.declared.stmt.Module.{Module}
use Rattle.py_tree.specs.Tall.{tall_module}
use Rattle.py_grammar.specs.declared.fault.Fault.{Fault}
use Rattle.py_grammar.specs.Refused.{refusal_of, RefusedAt, EndsOnce}
use Rattle.py_grammar.specs.Statements.{IsModule}
use Rattle.py_names.specs.declared.event.Event.{Event}
use Rattle.py_names.specs.declared.scope.Scope.{Scope}
use Rattle.py_names.specs.Outline.{outline}
use Rattle.py_names.specs.Scopes.{Names, bodies, body, scope_of, AreScopes, fault}
use Rattle.py_code.specs.declared.program.Program.{Program}
use Rattle.py_templates.specs.Compiles.{bound_in}
use Rattle.py_templates.specs.Whole.{program_of, too_large_in}
use Rattle.front_laws.specs.Trees.{IsTree}
use Rattle.front_end.specs.TextCode.{HasNoTree, HasScopes, HasNoScopes, HasCode, HasNoCode, IsRefused}

-- a program, or a refusal
abbrev pub HasAnswer : List ℕ → Type 0
HasAnswer text = ((p : Program) × HasCode text p) ⊎ ((r : Refusal) × IsRefused text r)

-- ---- scopes

-- the scopes of so many bodies, from this one on
scopes_from : (ℕ → Names) → ℕ → ℕ → List Scope
scopes_from b k zero = []
scopes_from b k (suc n) = scope_of (b k) ∷ scopes_from b (suc k) n

scopes_count : (b : ℕ → Names) (k n : ℕ) → length (scopes_from b k n) ≡ n
unfolding scopes_from
scopes_count b k zero = refl
scopes_count b k (suc n) = ap suc (scopes_count b (suc k) n)

scopes_each : (b : ℕ → Names) (k n i : ℕ) → i < n → slice_get (scopes_from b k n) i ≡ Some (scope_of (b (k + i)))
unfolding scopes_from
scopes_each b k zero i h = absurd (omega (arith, h))
scopes_each b k (suc n) zero h = let e : k ≡ k + 0 = omega arith in ap (λ j. Some (scope_of (b j))) e
scopes_each b k (suc n) (suc i) h = let e : suc k + i ≡ k + suc i = omega arith in
    scopes_each b (suc k) n i (omega (arith, h)) ∙ ap (λ j. Some (scope_of (b j))) e

some_scopes : (es : List Event) → (scopes : List Scope) × AreScopes es scopes
some_scopes es =
    let n = bodies 0 es in (
      scopes_from (body es) 0 n,
      record {
        count = scopes_count (body es) 0 n;
        each = λ k h. let e : 0 + k ≡ k = omega arith in scopes_each (body es) 0 n k h ∙
            ap (λ j. Some (scope_of (body es j))) e;
      },
    )

-- ---- the stages

with_scopes : (text : List ℕ) (tree : Module) (scopes : List Scope) (o : Option ℕ) → HasScopes text tree scopes →
    too_large_in (bound_in scopes) tree ≡ o → HasAnswer text
with_scopes text tree scopes None has e =
    inl (program_of (bound_in scopes) tree, record { tree = tree; scopes = scopes; has = has; fits = e; is = refl })
with_scopes text tree scopes (Some line) has e =
    inr (
      TooLarge line,
      inr (inr (inr (record {
        tree = tree;
        scopes = scopes;
        has = has;
        refused =
            ap (option_map TooLarge) e;
      }))),
    )

with_tree : (text : List ℕ) (tree : Module) (o : Option Refusal) → IsTree text tree → fault (outline tree) ≡ o →
    HasAnswer text
with_tree text tree None is e =
    let s = some_scopes (outline tree) in
    with_scopes text tree s.0 (too_large_in (bound_in s.0) tree) (record { is = is; allowed = e; are = s.1 }) refl
with_tree text tree (Some r) is e = inr (r, inr (inr (inl (record { tree = tree; is = is; refused = e }))))

module _ (some_tree : (ts : List Token) → EndsOnce ts →
    ((m : Module) × IsModule m ts × (tall_module m ≤ 100)) ⊎ ((f : Fault) × (line : ℕ) × RefusedAt ts f line))
    (ends : (text : List ℕ) (ts : List Token) → tokens_of_text text ≡ Ok ts → EndsOnce ts) where
  with_tokens : (text : List ℕ) (ts : List Token) → tokens_of_text text ≡ Ok ts → HasAnswer text
  with_tokens text ts are = go (some_tree ts (ends text ts are))
    where
      go : ((m : Module) × IsModule m ts × (tall_module m ≤ 100)) ⊎ ((f : Fault) × (line : ℕ) × RefusedAt ts f line) →
          HasAnswer text
      go (inl (m, is, low)) =
          with_tree text m (fault (outline m)) (record { tokens = ts; are = are; is = is; low = low }) refl
      go (inr (f, line, r)) =
          let none : HasNoTree text (refusal_of f line) =
          record { tokens = ts; are = are; fault = f; line = line; is = refl; refused = r } in
          inr (refusal_of f line, inr (inl none))

  of_tokens : (text : List ℕ) (r : Laid) → tokens_of_text text ≡ r → HasAnswer text
  of_tokens text (Ok ts) e = with_tokens text ts e
  of_tokens text (Err x) e = inr (x, inl e)

  pub some_answer : (text : List ℕ) → HasAnswer text
  some_answer text = of_tokens text (tokens_of_text text) refl
