-- Targets are read, and `del` with its targets.
use Rattle.std.proofs.Common.{◌≡◌, ℕ, zero, suc, ◌+◌, ◌-◌, ◌<◌, ◌≤◌, true, false, List, [], ◌∷◌, ◌++◌, length, Ok, Err, Some, None, inl, inr, refl, sym, ap, ◌∙◌, append_assoc, arith, length-append, le-ltb}
use Rattle.py_tokens.specs.declared.token.Token.{Token}
use Rattle.py_tokens.specs.declared.token.TokenKind.{TokenKind}
use Rattle.py_tokens.specs.declared.token.Place.{Place}
use Rattle.py_tokens.specs.Place.{token_at as at}
use Rattle.py_tree.specs.declared.expr.Expr.{Expr}
use Rattle.py_tree.specs.Height.{height}
use Rattle.py_tree.specs.Form.{form}
use Rattle.py_grammar.specs.Grammar.{Marks}
use Rattle.py_grammar.specs.declared.tall.Tall.{Tall}
use Rattle.py_grammar.specs.inner.Tall.{push, none, start}
use Rattle.py_tree.specs.Height.{tops}
use Rattle.py_tree.specs.Form.{is_target}
use Rattle.py_tree.proofs.Heights as hh
use Rattle.py_tree.specs.declared.form.Form.{Form}
use Rattle.py_grammar.specs.inner.Aiming.{Readers, readers}
use Rattle.py_grammar.specs.inner.Reading.{Reads, ◌>>=◌, first, rest, is_op}
use Rattle.py_grammar.proofs.Steps.{of, Reaches, then_reads, at_same}
use Rattle.py_grammar.proofs.Values.{plus_tests, push_tests}
use Rattle.py_grammar.specs.inner.Follow.{stops}
use Rattle.py_grammar.proofs.Begin.{headed, as_value, long}
use Rattle.py_grammar.proofs.AimClimbs.{Meets}
use Rattle.py_grammar.proofs.AimReads.{complete_aim}
use Rattle.py_grammar.proofs.ReadSteps.{tests_nil}
use Rattle.py_grammar.specs.Statements as S
use Rattle.py_grammar.specs.Statements.{slices, Target, Targets}
use Rattle.py_grammar.specs.inner.Lines.{simple_at, checked, Stop, ends_del, target_at, targets_at}
use Rattle.py_tree.specs.declared.stmt.Stmt.TheVariants as st
use Rattle.py_grammar.specs.Codes as c
use Rattle.py_base.specs.declared.refusal.Construct.TheVariants as left
use Rattle.py_grammar.proofs.AssignReads.{Ends, semicolon, newline, ends_op, Fit, fit}

-- ---- targets

-- With a mark a target wants a node more, as what becomes one does.
abbrev pub slack : Marks → ℕ
slack None = 0
slack (Some c) = 1

meets : (x : Marks) (d : ℕ) (f : Form) (h : ℕ) → slack x + h ≤ d → is_target (slices x) f ≡ true → Meets x d f h
meets None d f h i e = inr (refl, e, omega (arith, i))
meets (Some c) d f h i e = inl (omega (arith, i))

pub complete_target : {x : Marks} {a : Expr} {ts : List Token} → Target x a ts →
    (after : Stop) (g d : ℕ) (rest : List Token) → length ts ≤ g → slack x + height a ≤ d → stops 1 (first rest) ≡ true
    → after (first rest) ≡ true → Reaches x (target_at (readers g d) after (ts ++ rest)) (of a) rest
unfolding checked
complete_target {x = x} {a = a} {ts = ts} t after g d rest l h s e =
    then_reads x _ (checked after) (of a) rest _ rest
    (complete_aim g d x a ts rest t.spells (meets x d (form a) (height a) h t.is) l s)
    (go (fit is_target x (form a) t.is))
  where
    go : Fit is_target x (form a) → Reaches x (checked after (of a, rest)) (of a) rest
    go (inl v) = inl (rw v refl)
    go (inr v) = inr (left.SliceForm, rest, v.0, rw v.1 (rw v.2 (rw e refl)))

ends_target : (kind : TokenKind) → Ends kind → (stops 1 kind ≡ true) × (ends_del kind ≡ true)
ends_target kind semicolon = (refl, refl)
ends_target kind newline = (refl, refl)

s_targets_end : (under : Readers) (f : ℕ) (found : Tall (List Expr)) (us : List Token) → is_op 38 (first us) ≡ false →
    targets_at under f found us ≡ Ok (found, us)
unfolding targets_at
s_targets_end under zero found us h = refl
s_targets_end under (suc f) found us h = rw h refl

s_targets : (under : Readers) (f : ℕ) (found : Tall (List Expr)) (p : Place) (us : List Token) →
    targets_at under (suc f) found (at c.comma p ∷ us) ≡ (target_at under ends_del us >>= λ a.
    targets_at under f (push found a.0) a.1)
unfolding targets_at
s_targets under f found p us = refl

-- the targets of `del`, the first of which is read already
pub complete_targets : {x : Marks} {es : List Expr} {ts : List Token} → Targets x es ts →
    (g d f : ℕ) (found : Tall (List Expr)) (rest : List Token) → length ts ≤ g → length ts ≤ suc f →
    slack x + tops es ≤ d → Ends (first rest) →
    Reaches x (target_at (readers g d) ends_del (ts ++ rest) >>= λ a. targets_at (readers g d) f (push found a.0) a.1)
    (plus_tests found es) rest
complete_targets (S.one {x = x} {a = a} t) g d f found rest l m h s =
    let e = ends_target (first rest) s in
    then_reads x _ (λ a. targets_at (readers g d) f (push found a.0) a.1) (of a) rest _ rest
    (complete_target t ends_del g d rest l (omega arith) e.0 e.1)
    (inl (s_targets_end (readers g d) f (push found (of a)) rest (ends_op 38 refl _ s) ∙
    ap (λ v. Ok (v, rest)) (sym (tests_nil (push found (of a))) ∙ push_tests found a [])))
complete_targets (S.more p {x = x} {a = a} {es = es} {ts = ts} {us = us} t r) g d zero found rest l m h s =
    absurd (omega (arith, length-append ts (at c.comma p ∷ us), long (headed t.spells), targets_long r))
  where
    targets_long : {y : Marks} {fs : List Expr} {vs : List Token} → Targets y fs vs → 0 < length vs
    targets_long (S.one t) = long (headed t.spells)
    targets_long (S.more p {ts = ts} {us = us} t r) = omega (arith, length-append ts (at c.comma p ∷ us))
complete_targets (S.more p {x = x} {a = a} {es = es} {ts = ts} {us = us} t r) g d (suc f) found rest l m h s =
    let len = length-append ts (at c.comma p ∷ us) in let pos = long (headed t.spells) in
    at_same x _ _ _ rest (ap (λ w. target_at (readers g d) ends_del w >>= λ a.
    targets_at (readers g d) (suc f) (push found a.0) a.1) (append_assoc ts (at c.comma p ∷ us) rest))
    (then_reads x _ (λ a. targets_at (readers g d) (suc f) (push found a.0) a.1) (of a) (at c.comma p ∷ us ++ rest) _
    rest (complete_target t ends_del g d _ (omega arith) (omega arith) refl refl)
    (at_same x _ _ _ rest (s_targets (readers g d) f (push found (of a)) p (us ++ rest))
    (as_value x _ _ _ rest (push_tests found a es)
    (complete_targets r g d f (push found (of a)) rest (omega arith) (omega arith) (omega arith) s))))

s_del : (under : Readers) (g d : ℕ) (p : Place) (us : List Token) → 2 ≤ d →
    simple_at under g d (at c.del_ p ∷ us) ≡ (target_at under ends_del us >>= λ a.
    (targets_at under g (start a.0) a.1 >>= λ es. Ok (st.Del p.line es.0.tree, es.1)))
unfolding simple_at
s_del under g d p us h = rw (le-ltb d 2 h) refl

pub bind_bind : {A B C : Type 0} (r : Reads A) (f : A × List Token → Reads B) (h : B × List Token → Reads C) →
    (r >>= λ a. (f a >>= h)) ≡ ((r >>= f) >>= h)
bind_bind (Ok x) f h = refl
bind_bind (Err x) f h = refl

pub targets_long : {y : Marks} {fs : List Expr} {vs : List Token} → Targets y fs vs → (0 < length vs) × (0 < tops fs)
targets_long (S.one {a = a} t) = (long (headed t.spells), omega (arith, hh.height_pos a))
targets_long (S.more p {a = a} {ts = ts} {us = us} t r) =
    (omega (arith, length-append ts (at c.comma p ∷ us)), omega (arith, hh.height_pos a))

pub complete_del : {x : Marks} {es : List Expr} {ts : List Token} (p : Place) → Targets x es ts →
    (g d : ℕ) (rest : List Token) → length ts ≤ g → slack x + (tops es + 1) ≤ d → Ends (first rest) →
    Reaches x (simple_at (readers g (d - 1)) g d (at c.del_ p ∷ ts ++ rest)) (st.Del p.line es) rest
complete_del {x = x} {es = es} {ts = ts} p q g d rest l h s =
    let low = targets_long q in
    at_same x _ _ _ rest (s_del (readers g (d - 1)) g d p (ts ++ rest) (omega (arith, low.1)) ∙
    bind_bind (target_at (readers g (d - 1)) ends_del (ts ++ rest))
    (λ a. targets_at (readers g (d - 1)) g (start a.0) a.1) (λ es. Ok (st.Del p.line es.0.tree, es.1)))
    (then_reads x _ (λ es. Ok (st.Del p.line es.0.tree, es.1)) (plus_tests none es) rest _ rest
    (complete_targets q g (d - 1) g none rest l (omega arith) (omega arith) s) (inl refl))
