-- What stands at the head of a clause is read: a test, parameters, an exception and its target, a base.
use Rattle.std.proofs.Common.{◌≡◌, ℕ, zero, suc, ◌+◌, ◌<◌, ◌≤◌, max, ◌==◌, Bool, true, false, not, ◌||◌, List, [], ◌∷◌, ◌++◌, length, Ok, Err, Option, Some, None, inl, inr, refl, sym, ap, ◌∙◌, subst, append_assoc, if◌then◌else◌, arith, length-append, eq-eqb}
use Rattle.py_tokens.specs.declared.token.Token.{Token}
use Rattle.py_tokens.specs.declared.token.TokenKind.{TokenKind}
use Rattle.py_tokens.specs.declared.token.TokenKind.TheVariants as k
use Rattle.py_tokens.specs.declared.token.Place.{Place}
use Rattle.py_tokens.specs.Place.{token_at as at}
use Rattle.py_tree.specs.declared.expr.Expr.{Expr}
use Rattle.py_tree.specs.Height.{height}
use Rattle.py_grammar.specs.declared.fault.Fault.TheVariants.{LeftOut}
use Rattle.py_grammar.specs.Grammar.{Marks}
use Rattle.py_grammar.specs.inner.Aiming.{Readers, readers}
use Rattle.py_grammar.specs.inner.Reading.{Reads, ◌>>=◌, first, rest, is_op, is_keyword, is_some}
use Rattle.py_grammar.proofs.Steps.{of, Reaches, then_reads, at_same}
use Rattle.py_grammar.proofs.Values.{of_or}
use Rattle.py_grammar.specs.inner.Follow.{stops}
use Rattle.py_grammar.proofs.Begin.{headed, begin, as_value}
use Rattle.py_grammar.proofs.TargetReads.{slack, complete_target}
use Rattle.py_tree.specs.declared.stmt.Param.{Param}
use Rattle.py_grammar.proofs.Complete.{complete}
use Rattle.py_grammar.specs.Grammar as G
use Rattle.py_grammar.specs.Statements as S
use Rattle.py_grammar.specs.Statements.{Parameter, Later, Parameters, Base, Caught}
use Rattle.py_grammar.specs.inner.Lines.{ends_caught, maybe_at, Suite, body_at, arm_at, clause_at, caught_at, param_at, params_at, base_at}
use Rattle.py_tree.specs.declared.stmt.Stmt.{Stmt}
use Rattle.py_tree.specs.Tall.{defaults}
use Rattle.py_grammar.specs.Grammar.{Is}
use Rattle.py_tree.specs.Height.{top_or}
use Rattle.py_grammar.specs.inner.Reading.{op_at, name_at}
use Rattle.py_grammar.specs.Codes as c
use Rattle.py_base.specs.declared.refusal.Construct.TheVariants as left

-- what begins no further clause
abbrev pub clear : TokenKind → Bool
clear (k.Keyword m) = not (m == 8 || (m == 9 || (m == 10 || m == 12)))
clear _ = true

pub s_colon : (block : Suite) (p : Place) (us : List Token) → body_at block (at c.colon p ∷ us) ≡ block us
unfolding body_at op_at
s_colon block p us = refl

-- a test, a colon and a block that is known to be read
pub arm_ok : {x : Marks} {a : Expr} {ts : List Token} → Is x 14 a ts →
    (g d l : ℕ) (block : Suite) (q : Place) (us rest : List Token) (ss : List Stmt) → length ts ≤ g → height a ≤ d →
    Reaches x (block us) ss rest → Reaches x (arm_at (readers g d) block l (ts ++ at c.colon q ∷ us))
    (record { line = l; test = a; body = ss }) rest
unfolding arm_at
arm_ok {x = x} {a = a} {ts = ts} p g d l block q us rest ss b h r =
    then_reads x _ (λ a. body_at block a.1 >>= λ b. Ok (record { line = l; test = a.0.tree; body = b.0 }, b.1)) (of a)
    (at c.colon q ∷ us) _ rest (complete p g d _ b h refl)
    (at_same x _ _ _ rest (ap (λ r. r >>= λ b. Ok (record { line = l; test = a; body = b.0 }, b.1))
    (s_colon block q us)) (then_reads x _ (λ b. Ok (record { line = l; test = a; body = b.0 }, b.1)) ss rest _ rest
    r (inl refl)))

pub s_clause : (n : ℕ) (block : Suite) (p q : Place) (us : List Token) →
    clause_at n block (at (k.Keyword n) p ∷ at c.colon q ∷ us) ≡
    (block us >>= λ b. Ok (Some (record { line = p.line; body = b.0 }), b.1))
unfolding clause_at body_at op_at
s_clause n block p q us = rw (eq-eqb n n refl) refl

pub s_no_clause : (n : ℕ) (block : Suite) (us : List Token) → is_keyword n (first us) ≡ false →
    clause_at n block us ≡ Ok (None, us)
unfolding clause_at
s_no_clause n block us h = rw h refl

-- ---- parameters

param_ok : {x : Marks} {t : Bool} {a : Param} {ts : List Token} → Parameter x t a ts → (b : Bool) → Later b t →
    (g d : ℕ) (rest : List Token) → length ts ≤ g → top_or a.default ≤ d → stops 14 (first rest) ≡ true →
    is_op 42 (first rest) ≡ false → Reaches x (param_at (readers g d) b (ts ++ rest)) a rest
unfolding param_at name_at
param_ok (S.plain x n p) true w g d rest l h s e = absurd w
param_ok (S.plain x n p) false w g d rest l h s e = inl (rw e refl)
param_ok (S.default n p q {x = x} {a = a} {ts = ts} r) b w g d rest l h s e =
    then_reads x _ (λ a. Ok (record { name = n; default = Some a.0.tree }, a.1)) (of a) rest _ rest
    (complete r g d rest (omega arith) h s) (inl refl)

abbrev param_more : Readers → ℕ → List Param → Param × List Token → Reads (List Param)
param_more under g found p = if is_op 38 (first p.1) then
    (if is_op 33 (first (rest p.1)) then Ok (found ++ p.0 ∷ [], rest p.1) else params_at under g (is_some p.0.default)
    (found ++ p.0 ∷ []) (rest p.1)) else Ok (found ++ p.0 ∷ [], p.1)

s_params : (under : Readers) (g : ℕ) (b : Bool) (found : List Param) (us : List Token) →
    params_at under (suc g) b found us ≡ (param_at under b us >>= param_more under g found)
unfolding params_at
s_params under g b found us = refl

param_default : {x : Marks} {t : Bool} {a : Param} {ts : List Token} → Parameter x t a ts → is_some a.default ≡ t
param_default (S.plain x n p) = refl
param_default (S.default n p q r) = refl

param_long : {x : Marks} {t : Bool} {a : Param} {ts : List Token} → Parameter x t a ts → 0 < length ts
param_long (S.plain x n p) = omega arith
param_long (S.default n p q r) = omega arith

param_first : {x : Marks} {t : Bool} {a : Param} {ts : List Token} → Parameter x t a ts → (us : List Token) →
    is_op 33 (first (ts ++ us)) ≡ false
param_first (S.plain x n p) us = refl
param_first (S.default n p q r) us = refl

pub params_first : {x : Marks} {b : Bool} {ps : List Param} {ts : List Token} → Parameters x b ps ts →
    (us : List Token) → is_op 33 (first (ts ++ us)) ≡ false
params_first (S.one b d h r) us = param_first r us
params_first (S.one_comma b d p {ts = ts} h r) us =
    subst (λ z. is_op 33 (first z) ≡ false) (sym (append_assoc ts (at c.comma p ∷ []) us)) (param_first r _)
params_first (S.more b d p {ts = ts} {us = vs} h r w) us =
    subst (λ z. is_op 33 (first z) ≡ false) (sym (append_assoc ts (at c.comma p ∷ vs) us)) (param_first r _)
params_first (S.starred b p) us = refl
params_first (S.double_starred b p) us = refl
params_first (S.tuple b p) us = refl

param_mark : (under : Readers) (b : Bool) (p : Place) (us : List Token) →
    (param_at under b (at c.star p ∷ us) ≡ Err (LeftOut left.StarArgument, at c.star p ∷ us)) ×
    (param_at under b (at c.power p ∷ us) ≡ Err (LeftOut left.StarArgument, at c.power p ∷ us)) ×
    (param_at under b (at c.open_round p ∷ us) ≡ Err (LeftOut left.TupleArgument, at c.open_round p ∷ us))
unfolding param_at
param_mark under b p us = (refl, refl, refl)

pub complete_params : {x : Marks} {b : Bool} {ps : List Param} {ts : List Token} → Parameters x b ps ts →
    (g d f : ℕ) (found : List Param) (q : Place) (rest : List Token) → length ts ≤ g → length ts ≤ f →
    defaults ps ≤ d → Reaches x (params_at (readers g d) f b found (ts ++ at c.close_round q ∷ rest)) (found ++ ps)
    (at c.close_round q ∷ rest)
complete_params (S.one b t h r) g d zero found q rest l m k' = absurd (omega (arith, param_long r))
complete_params (S.one b t {x = x} {a = a} {ts = ts} h r) g d (suc f) found q rest l m k' =
    at_same x _ _ _ _ (s_params (readers g d) f b found (ts ++ at c.close_round q ∷ rest))
    (then_reads x _ (param_more (readers g d) f found) a (at c.close_round q ∷ rest) _ _
    (param_ok r b h g d _ l (omega arith) refl refl) (inl refl))
complete_params (S.one_comma b t p {ts = ts} h r) g d zero found q rest l m k' =
    absurd (omega (arith, length-append ts (at c.comma p ∷ [])))
complete_params (S.one_comma b t p {x = x} {a = a} {ts = ts} h r) g d (suc f) found q rest l m k' =
    at_same x _ _ _ _ (ap (params_at (readers g d) (suc f) b found)
    (append_assoc ts (at c.comma p ∷ []) (at c.close_round q ∷ rest)) ∙
    s_params (readers g d) f b found (ts ++ at c.comma p ∷ at c.close_round q ∷ rest))
    (then_reads x _ (param_more (readers g d) f found) a (at c.comma p ∷ at c.close_round q ∷ rest) _ _
    (param_ok r b h g d _ (omega (arith, length-append ts (at c.comma p ∷ []))) (omega arith) refl refl) (inl refl))
complete_params (S.more b t p {ts = ts} {us = us} h r w) g d zero found q rest l m k' =
    absurd (omega (arith, length-append ts (at c.comma p ∷ us)))
complete_params (S.more b t p {x = x} {a = a} {as' = ps} {ts = ts} {us = us} h r w) g d (suc f) found q rest l m k' =
    let len = length-append ts (at c.comma p ∷ us) in let pos = param_long r in
    at_same x _ _ _ _ (ap (params_at (readers g d) (suc f) b found)
    (append_assoc ts (at c.comma p ∷ us) (at c.close_round q ∷ rest)) ∙
    s_params (readers g d) f b found (ts ++ (at c.comma p ∷ us ++ at c.close_round q ∷ rest)))
    (then_reads x _ (param_more (readers g d) f found) a (at c.comma p ∷ us ++ at c.close_round q ∷ rest) _ _
    (param_ok r b h g d _ (omega arith) (omega arith) refl refl)
    (at_same x _ _ _ _ (param_goes (readers g d) f found a t p (us ++ at c.close_round q ∷ rest) (params_first w _)
    (param_default r))
    (as_value x _ _ _ _ (append_assoc found (a ∷ []) ps)
    (complete_params w g d f (found ++ a ∷ []) q rest (omega arith) (omega arith) (omega arith)))))
  where
    param_goes : (under : Readers) (f : ℕ) (found : List Param) (a : Param) (t : Bool) (p : Place) (us : List Token) →
        is_op 33 (first us) ≡ false → is_some a.default ≡ t →
        param_more under f found (a, at c.comma p ∷ us) ≡ params_at under f t (found ++ a ∷ []) us
    param_goes under f found a t p us h e = rw h (ap (λ z. params_at under f z (found ++ a ∷ []) us) e)
complete_params (S.starred b p) g d zero found q rest l m k' = absurd (omega arith)
complete_params (S.starred b p) g d (suc f) found q rest l m k' =
    inr (
      left.StarArgument,
      _,
      refl,
      s_params (readers g d) f b found _ ∙
          ap (λ r. r >>= param_more (readers g d) f found) (param_mark (readers g d) b p (at c.close_round q ∷ rest)).0,
    )
complete_params (S.double_starred b p) g d zero found q rest l m k' = absurd (omega arith)
complete_params (S.double_starred b p) g d (suc f) found q rest l m k' =
    inr (
      left.StarArgument,
      _,
      refl,
      s_params (readers g d) f b found _ ∙
          ap (λ r. r >>= param_more (readers g d) f found) (param_mark (readers g d) b p (at c.close_round q ∷ rest)).1,
    )
complete_params (S.tuple b p) g d zero found q rest l m k' = absurd (omega arith)
complete_params (S.tuple b p) g d (suc f) found q rest l m k' =
    inr (
      left.TupleArgument,
      _,
      refl,
      s_params (readers g d) f b found _ ∙
          ap (λ r. r >>= param_more (readers g d) f found) (param_mark (readers g d) b p (at c.close_round q ∷ rest)).2,
    )

-- ---- what stands between `except` and its colon

pub caught_ok : {x : Marks} {a b : Option Expr} {ts : List Token} → Caught x a b ts →
    (g d : ℕ) (q : Place) (rest : List Token) → length ts ≤ g → slack x + max (top_or a) (top_or b) ≤ d →
    Reaches x (caught_at (readers g d) (ts ++ at c.colon q ∷ rest)) (a, b) (at c.colon q ∷ rest)
unfolding caught_at
caught_ok (S.all x) g d q rest l h = inl refl
caught_ok (S.test {x = x} {a = a} {ts = ts} r) g d q rest l h =
    rw (begin (headed r) (at c.colon q ∷ rest))
    (then_reads x _ _ (of a) (at c.colon q ∷ rest) _ _ (complete r g d _ l (omega arith) refl) (inl refl))
caught_ok (S.named p {x = x} {a = a} {b = b} {ts = ts} {us = us} r t) g d q rest l h =
    let len = length-append ts (at c.as_ p ∷ us) in
    rw (append_assoc ts (at c.as_ p ∷ us) (at c.colon q ∷ rest))
    (rw (begin (headed r) (at c.as_ p ∷ us ++ at c.colon q ∷ rest))
    (then_reads x _ _ (of a) (at c.as_ p ∷ us ++ at c.colon q ∷ rest) _ _
    (complete r g d _ (omega arith) (omega arith) refl)
    (then_reads x _ (λ b. Ok ((Some a, Some b.0.tree), b.1)) (of b) (at c.colon q ∷ rest) _ _
    (complete_target t ends_caught g d _ (omega arith) (omega arith) refl refl) (inl refl))))
caught_ok (S.comma p {x = x} {a = a} {b = b} {ts = ts} {us = us} r t) g d q rest l h =
    let len = length-append ts (at c.comma p ∷ us) in
    rw (append_assoc ts (at c.comma p ∷ us) (at c.colon q ∷ rest))
    (rw (begin (headed r) (at c.comma p ∷ us ++ at c.colon q ∷ rest))
    (then_reads x _ _ (of a) (at c.comma p ∷ us ++ at c.colon q ∷ rest) _ _
    (complete r g d _ (omega arith) (omega arith) refl)
    (then_reads x _ (λ b. Ok ((Some a, Some b.0.tree), b.1)) (of b) (at c.colon q ∷ rest) _ _
    (complete_target t ends_caught g d _ (omega arith) (omega arith) refl refl) (inl refl))))

pub base_ok : {x : Marks} {a : Option Expr} {ts : List Token} → Base x a ts →
    (g d : ℕ) (q : Place) (rest : List Token) →
    length ts ≤ g → top_or a ≤ d → Reaches x (base_at (readers g d) (ts ++ at c.colon q ∷ rest)) (of_or a)
    (at c.colon q ∷ rest)
unfolding base_at maybe_at op_at
base_ok (S.none x) g d q rest l h = inl refl
base_ok (S.round p i (G.nothing x)) g d q rest l h = inl refl
base_ok (S.round p i {x = x} (G.just {a = a} {ts = ts} r)) g d q rest l h =
    let len = length-append ts (at c.close_round i ∷ []) in
    rw (append_assoc ts (at c.close_round i ∷ []) (at c.colon q ∷ rest))
    (rw (begin (headed r) (at c.close_round i ∷ at c.colon q ∷ rest))
    (then_reads x _ _ (Some (of a)) (at c.close_round i ∷ at c.colon q ∷ rest) _ _
    (then_reads x _ (λ a. Ok (Some a.0, a.1)) (of a) (at c.close_round i ∷ at c.colon q ∷ rest) _ _
    (complete r g d _ (omega arith) (omega arith) refl) (inl refl)) (inl refl)))
base_ok (S.bases p i {a = a} {ts = ts} r) g d q rest l h =
    let len = length-append ts (at c.comma i ∷ []) in
    rw (append_assoc ts (at c.comma i ∷ []) (at c.colon q ∷ rest))
    (rw (begin (headed r) (at c.comma i ∷ at c.colon q ∷ rest))
    (then_reads (Some left.MultipleBases) _ _ (Some (of a)) (at c.comma i ∷ at c.colon q ∷ rest) _ _
    (then_reads (Some left.MultipleBases) _ (λ a. Ok (Some a.0, a.1)) (of a) (at c.comma i ∷ at c.colon q ∷ rest) _
    _ (complete r g d _ (omega arith) (omega arith) refl) (inl refl)) (inr (left.MultipleBases, _, refl, refl))))
