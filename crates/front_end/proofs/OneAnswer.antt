-- A text has one program or one refusal.
use Rattle.std.proofs.Common.{◌≡◌, ℕ, zero, suc, ◌+◌, ◌<◌, ◌≤◌, inl, inr, List, [], ◌∷◌, length, slice_get, Option, Some, None, option_map, Result, Ok, Err, refl, sym, ap, subst, ◌∙◌, arith}
use Rattle.py_base.specs.declared.refusal.Refusal.{Refusal}
use Rattle.py_base.specs.declared.refusal.Refusal.TheVariants.{TooLarge}
use Rattle.py_tokens.specs.declared.token.Token.{Token}
use Rattle.py_tokens.specs.Layout.{tokens_of_text}
use Rattle.py_tree.specs.declared.stmt.Module.{Module}
use Rattle.py_tree.specs.Tall.{tall_module}
use Rattle.py_grammar.specs.declared.fault.Fault.{Fault}
use Rattle.py_grammar.specs.Refused.{refusal_of, RefusedAt, EndsOnce}
use Rattle.py_grammar.specs.Statements.{IsModule}
use Rattle.py_names.specs.declared.scope.Scope.{Scope}
use Rattle.py_names.specs.Outline.{outline}
use Rattle.py_names.specs.Scopes.{AreScopes, fault}
use Rattle.py_code.specs.declared.program.Program.{Program}
use Rattle.py_templates.specs.Compiles.{bound_in}
use Rattle.py_templates.specs.Whole.{program_of, too_large_in}
use Rattle.front_laws.specs.Trees.{IsTree}
use Rattle.front_end.specs.TextCode.{HasNoTree, HasScopes, HasNoScopes, HasCode, HasNoCode, IsRefused}

-- ---- lists and answers

-- lists of one length with the same items are one list
same_items : {A : Type 0} (xs ys : List A) → length xs ≡ length ys →
    ((k : ℕ) → k < length ys → slice_get xs k ≡ slice_get ys k) → xs ≡ ys
same_items [] [] n h = refl
same_items [] (y ∷ ys) n h = absurd (omega (arith, n))
same_items (x ∷ xs) [] n h = absurd (omega (arith, n))
same_items (x ∷ xs) (y ∷ ys) n h =
    let first : Some x ≡ Some y = h zero (omega arith) in
    let same : x ≡ y = cc in
    let rest : xs ≡ ys = same_items xs ys (omega (arith, n)) (λ k a. h (suc k) (omega (arith, a))) in
    ap (λ z. z ∷ xs) same ∙ ap (λ zs. y ∷ zs) rest

same_ok : {A E : Type 0} (r : Result A E) (a b : A) → r ≡ Ok a → r ≡ Ok b → a ≡ b
same_ok r a b p q = cc

ok_or_err : {A E : Type 0} (r : Result A E) (a : A) (e : E) → r ≡ Ok a → r ≡ Err e → ⊥
ok_or_err r a e p q = absurd (cc)

none_or_some : {A : Type 0} (o : Option A) (a : A) → o ≡ None → o ≡ Some a → ⊥
none_or_some o a p q = absurd (cc)

same_some : {A : Type 0} (o : Option A) (a b : A) → o ≡ Some a → o ≡ Some b → a ≡ b
same_some o a b p q = cc

-- ---- the stages

module _ (same_tree : (text : List ℕ) (m n : Module) → IsTree text m → IsTree text n → m ≡ n)
    (never_both : (ts : List Token) (m : Module) (f : Fault) (line : ℕ) →
    IsModule m ts → tall_module m ≤ 100 → RefusedAt ts f line → ⊥)
    (text : List ℕ) where
  tree_or_none : (t : Module) (r : Refusal) → IsTree text t → HasNoTree text r → ⊥
  tree_or_none t r a b =
      let ts = same_ok (tokens_of_text text) a.tokens b.tokens a.are b.are in
      never_both b.tokens t b.fault b.line (subst (IsModule t) ts a.is) a.low b.refused

  same_by_tree : (t u : Module) (xs ys : List Scope) → t ≡ u → AreScopes (outline t) xs → AreScopes (outline u) ys →
      xs ≡ ys
  same_by_tree t u xs ys e a b =
      let a' : AreScopes (outline u) xs = subst (λ m. AreScopes (outline m) xs) e a in
      same_items xs ys (a'.count ∙ sym b.count) (λ k lt. a'.each k (subst (λ n. k < n) b.count lt) ∙
      sym (b.each k (subst (λ n. k < n) b.count lt)))

  same_scopes : (t u : Module) (xs ys : List Scope) → HasScopes text t xs → HasScopes text u ys → xs ≡ ys
  same_scopes t u xs ys a b = same_by_tree t u xs ys (same_tree text t u a.is b.is) a.are b.are

  -- a tree with scopes has no place that is refused
  scopes_or_none : (t : Module) (xs : List Scope) (r : Refusal) → HasScopes text t xs → HasNoScopes text r → ⊥
  scopes_or_none t xs r a b = none_or_some (fault (outline t)) r a.allowed
      (ap (λ m. fault (outline m)) (same_tree text t b.tree a.is b.is) ∙ b.refused)

  same_large : (t u : Module) (xs ys : List Scope) → HasScopes text t xs → HasScopes text u ys →
      too_large_in (bound_in xs) t ≡ too_large_in (bound_in ys) u
  same_large t u xs ys a b = ap (λ s. too_large_in (bound_in s) t) (same_scopes t u xs ys a b) ∙
      ap (too_large_in (bound_in ys)) (same_tree text t u a.is b.is)

  pub one_program : (p q : Program) → HasCode text p → HasCode text q → p ≡ q
  one_program p q a b = a.is ∙ ap (λ s. program_of (bound_in s) a.tree)
      (same_scopes a.tree b.tree a.scopes b.scopes a.has b.has) ∙
      ap (program_of (bound_in b.scopes)) (same_tree text a.tree b.tree a.has.is b.has.is) ∙ sym b.is

  code_or_none : (p : Program) (r : Refusal) → HasCode text p → HasNoCode text r → ⊥
  code_or_none p r a b =
      let none : too_large_in (bound_in b.scopes) b.tree ≡ None =
      sym (same_large a.tree b.tree a.scopes b.scopes a.has b.has) ∙ a.fits in
      none_or_some (option_map TooLarge (too_large_in (bound_in b.scopes) b.tree)) r (ap (option_map TooLarge) none)
      b.refused

  pub program_or_refusal : (p : Program) (r : Refusal) → HasCode text p → IsRefused text r → ⊥
  program_or_refusal p r a (inl b) = ok_or_err (tokens_of_text text) a.has.is.tokens r a.has.is.are b
  program_or_refusal p r a (inr (inl b)) = tree_or_none a.tree r a.has.is b
  program_or_refusal p r a (inr (inr (inl b))) = scopes_or_none a.tree a.scopes r a.has b
  program_or_refusal p r a (inr (inr (inr b))) = code_or_none p r a b

  same_err : (r s : Refusal) → tokens_of_text text ≡ Err r → tokens_of_text text ≡ Err s → r ≡ s
  same_err r s p q = cc

  module _ (one_refused : (ts : List Token) (f g : Fault) (i j : ℕ) → EndsOnce ts →
      RefusedAt ts f i → RefusedAt ts g j → (f ≡ g) × (i ≡ j))
      (ends : (ts : List Token) → tokens_of_text text ≡ Ok ts → EndsOnce ts) where
    none_same : (r s : Refusal) → HasNoTree text r → HasNoTree text s → r ≡ s
    none_same r s a b =
        let ts = same_ok (tokens_of_text text) a.tokens b.tokens a.are b.are in
        let there : RefusedAt b.tokens a.fault a.line = subst (λ l. RefusedAt l a.fault a.line) ts a.refused in
        let same = one_refused b.tokens a.fault b.fault a.line b.line (ends b.tokens b.are) there b.refused in
        a.is ∙ ap (λ f. refusal_of f a.line) same.0 ∙ ap (refusal_of b.fault) same.1 ∙ sym b.is

    pub one_refusal : (r s : Refusal) → IsRefused text r → IsRefused text s → r ≡ s
    one_refusal r s (inl a) (inl b) = same_err r s a b
    one_refusal r s (inl a) (inr (inl b)) = absurd (ok_or_err (tokens_of_text text) b.tokens r b.are a)
    one_refusal r s (inl a) (inr (inr (inl b))) = absurd (ok_or_err (tokens_of_text text) b.is.tokens r b.is.are a)
    one_refusal r s (inl a) (inr (inr (inr b))) =
        absurd (ok_or_err (tokens_of_text text) b.has.is.tokens r b.has.is.are a)
    one_refusal r s (inr (inl a)) (inl b) = absurd (ok_or_err (tokens_of_text text) a.tokens s a.are b)
    one_refusal r s (inr (inl a)) (inr (inl b)) = none_same r s a b
    one_refusal r s (inr (inl a)) (inr (inr (inl b))) = absurd (tree_or_none b.tree r b.is a)
    one_refusal r s (inr (inl a)) (inr (inr (inr b))) = absurd (tree_or_none b.tree r b.has.is a)
    one_refusal r s (inr (inr (inl a))) (inl b) = absurd (ok_or_err (tokens_of_text text) a.is.tokens s a.is.are b)
    one_refusal r s (inr (inr (inl a))) (inr (inl b)) = absurd (tree_or_none a.tree s a.is b)
    one_refusal r s (inr (inr (inl a))) (inr (inr (inl b))) =
        let there = ap (λ m. fault (outline m)) (same_tree text b.tree a.tree b.is a.is) ∙ a.refused in
        same_some (fault (outline b.tree)) r s there b.refused
    one_refusal r s (inr (inr (inl a))) (inr (inr (inr b))) = absurd (scopes_or_none b.tree b.scopes r b.has a)
    one_refusal r s (inr (inr (inr a))) (inl b) =
        absurd (ok_or_err (tokens_of_text text) a.has.is.tokens s a.has.is.are b)
    one_refusal r s (inr (inr (inr a))) (inr (inl b)) = absurd (tree_or_none a.tree s a.has.is b)
    one_refusal r s (inr (inr (inr a))) (inr (inr (inl b))) = absurd (scopes_or_none a.tree a.scopes s a.has b)
    one_refusal r s (inr (inr (inr a))) (inr (inr (inr b))) =
        let large : option_map TooLarge (too_large_in (bound_in b.scopes) b.tree) ≡ Some r =
        ap (option_map TooLarge) (sym (same_large a.tree b.tree a.scopes b.scopes a.has b.has)) ∙ a.refused in
        same_some (option_map TooLarge (too_large_in (bound_in b.scopes) b.tree)) r s large b.refused
