-- What may follow a simple statement, and that expressions and assignments as statements are read.
use Rattle.std.proofs.Common.{◌≡◌, ℕ, zero, suc, ◌-◌, ◌<◌, ◌≤◌, ◌==◌, Bool, true, false, List, [], ◌∷◌, ◌++◌, length, Ok, Err, Some, None, ◌⊎◌, inl, inr, refl, sym, ap, ◌∙◌, subst, append_assoc, arith, length-append}
use Rattle.py_tokens.specs.declared.token.Token.{Token}
use Rattle.py_tokens.specs.declared.token.TokenKind.{TokenKind}
use Rattle.py_tokens.specs.declared.token.TokenKind.TheVariants as k
use Rattle.py_tokens.specs.declared.token.Place.{Place}
use Rattle.py_tokens.specs.Place.{token_at as at}
use Rattle.py_tree.specs.declared.expr.Expr.{Expr}
use Rattle.py_tree.specs.declared.expr.Operator.{Operator}
use Rattle.py_tree.specs.declared.expr.Operator.TheVariants as op
use Rattle.py_tree.specs.Height.{height}
use Rattle.py_tree.specs.Form.{form}
use Rattle.py_grammar.specs.declared.fault.Fault.TheVariants.{LeftOut}
use Rattle.py_grammar.specs.Grammar.{Marks}
use Rattle.py_grammar.specs.declared.tall.Tall.{Tall}
use Rattle.py_tree.specs.Height.{tops}
use Rattle.py_tree.specs.Form.{is_target}
use Rattle.py_tree.specs.declared.form.Form.{Form}
use Rattle.py_grammar.specs.inner.Aiming.{Readers, readers}
use Rattle.py_grammar.specs.inner.Reading.{Reader, ◌>>=◌, first, rest, is_op, is_keyword, comes, is_some}
use Rattle.py_grammar.proofs.Steps.{of, Reaches, then_reads, at_same}
use Rattle.py_grammar.proofs.Facts.{no, apart, comes_up, some_inj, not_keyword}
use Rattle.py_grammar.specs.inner.Follow.{stops}
use Rattle.py_grammar.proofs.Begin.{Headed, headed, more_headed, begin, commas_headed, as_value, long}
use Rattle.py_grammar.proofs.Complete.{complete_exprs}
use Rattle.py_grammar.specs.Grammar as G
use Rattle.py_grammar.specs.Statements as S
use Rattle.py_grammar.specs.Statements.{slices, Equals}
use Rattle.py_grammar.specs.inner.Lines.{simple_at, simple_by, running_at, run_at, run_or_assign, equals_at, checked, assigned_of, worded_at}
use Rattle.py_grammar.specs.Words.{augment_word, assigned}
use Rattle.py_grammar.specs.Words.{line_of}
use Rattle.py_tree.specs.declared.stmt.Stmt.{Stmt}
use Rattle.py_tree.specs.declared.stmt.Stmt.TheVariants as st
use Rattle.py_tree.specs.Tall.{tall}
use Rattle.py_tree.specs.Form.{is_single}
use Rattle.py_tree.proofs.Talls as ht
use Rattle.py_grammar.specs.Grammar.{Exprs}
use Rattle.py_grammar.specs.Codes as c
use Rattle.py_base.specs.declared.refusal.Construct.TheVariants as left

-- what may follow a simple statement
pub data Ends : TokenKind → Type 0 where
  semicolon : Ends c.semicolon
  newline : Ends k.Newline

pub exprs_headed : {x : Marks} {a : Expr} {ts : List Token} → Exprs x a ts → Headed 14 ts
exprs_headed (G.single p) = headed p
exprs_headed (G.tuple r) = commas_headed r

pub ends_stop : (kind : TokenKind) → Ends kind → stops 15 kind ≡ true
ends_stop kind semicolon = refl
ends_stop kind newline = refl

pub ends_op : (n : ℕ) → (41 == n) ≡ false → (kind : TokenKind) → Ends kind → is_op n kind ≡ false
ends_op n h kind semicolon = h
ends_op n h kind newline = refl

pub ends_word : (n : ℕ) (kind : TokenKind) → Ends kind → is_keyword n kind ≡ false
ends_word n kind semicolon = refl
ends_word n kind newline = refl

ends_assigned : (kind : TokenKind) → Ends kind → assigned_of kind ≡ None
ends_assigned kind semicolon = refl
ends_assigned kind newline = refl

pub ends_comes : (kind : TokenKind) → Ends kind → comes 14 kind ≡ false
ends_comes kind semicolon = refl
ends_comes kind newline = refl

line_same : {n : ℕ} {ts : List Token} → Headed n ts → (us : List Token) → line_of (ts ++ us) ≡ line_of ts
line_same h us = subst (λ z. line_of (z ++ us) ≡ line_of z) (sym h.split) refl

-- ---- a statement that begins with an expression

word_not : (n m : ℕ) → comes 15 (k.Keyword n) ≡ false → comes 15 (k.Keyword m) ≡ true → (m == n) ≡ false
word_not n m p q = apart (λ z. comes 15 (k.Keyword z)) n m p q

worded : (under : Readers) (g d n : ℕ) (other : Reader Stmt) (ts : List Token) → comes 15 (k.Keyword n) ≡ true →
    worded_at under g d n other ts ≡ other ts
worded under g d n other ts h =
    rw (word_not 24 n refl h) (rw (word_not 23 n refl h)
    (rw (word_not 3 n refl h) (rw (word_not 5 n refl h)
    (rw (word_not 26 n refl h) (rw (word_not 25 n refl h) (rw (word_not 7 n refl h) (rw (word_not 15 n refl h)
    (rw (word_not 2 n refl h) (rw (word_not 17 n refl h)
    (rw (word_not 14 n refl h) (rw (word_not 11 n refl h) (rw (word_not 30 n refl h) refl))))))))))))

by_running : (under : Readers) (g d : ℕ) (kind : TokenKind) (ts : List Token) → comes 15 kind ≡ true →
    simple_by under g d kind ts ≡ running_at under g ts
by_running under g d (k.Keyword n) ts h = worded under g d n (running_at under g) ts h
by_running under g d (k.Name m) ts h = refl
by_running under g d (k.Op m) ts h = refl
by_running under g d (k.Int m) ts h = refl
by_running under g d (k.Str m) ts h = refl
by_running under g d k.Newline ts h = refl
by_running under g d k.Indent ts h = refl
by_running under g d k.Dedent ts h = refl
by_running under g d k.End ts h = refl
by_running under g d (k.Other o) ts h = refl

pub runs : (under : Readers) (g d : ℕ) (ts : List Token) → comes 15 (first ts) ≡ true →
    simple_at under g d ts ≡ (under.read 15 ts >>= λ a. run_at under g (line_of ts) a (assigned_of (first a.1)))
unfolding simple_at running_at
runs under g d ts h = by_running under g d (first ts) ts h

s_run : (under : Readers) (g l : ℕ) (a : Tall Expr × List Token) →
    run_at under g l a None ≡ (equals_at under g [] a >>= λ x. Ok (run_or_assign l (x.0).0 (x.0).1, x.1))
unfolding run_at
s_run under g l a = refl

s_equals_end : (under : Readers) (f : ℕ) (found : List Expr) (a : Tall Expr) (us : List Token) →
    is_op 42 (first us) ≡ false → equals_at under f found (a, us) ≡ Ok ((found, a.tree), us)
unfolding equals_at
s_equals_end under zero found a us h = refl
s_equals_end under (suc f) found a us h = rw h refl

s_equals : (under : Readers) (f : ℕ) (found : List Expr) (a : Tall Expr) (p : Place) (us : List Token) →
    is_target false a.form ≡ true → is_keyword 30 (first us) ≡ false →
    equals_at under (suc f) found (a, at c.assign p ∷ us) ≡
    (under.read 15 us >>= equals_at under f (found ++ a.tree ∷ []))
unfolding equals_at checked
s_equals under f found a p us t h = rw t (rw h refl)

s_equals_yield : (under : Readers) (f : ℕ) (found : List Expr) (a : Tall Expr) (p q : Place) (us : List Token) →
    is_target false a.form ≡ true → equals_at under (suc f) found (a, at c.assign p ∷ at c.yield_ q ∷ us) ≡ Err
    (LeftOut left.Generator, at c.yield_ q ∷ us)
unfolding equals_at checked
s_equals_yield under f found a p q us t = rw t refl

s_equals_slice : (under : Readers) (f : ℕ) (found : List Expr) (a : Tall Expr) (p : Place) (us : List Token) →
    is_target false a.form ≡ false → is_target true a.form ≡ true →
    equals_at under (suc f) found (a, at c.assign p ∷ us) ≡ Err (LeftOut left.SliceForm, at c.assign p ∷ us)
unfolding equals_at checked
s_equals_slice under f found a p us n t = rw n (rw t refl)

slice_marks : (x : Marks) → slices x ≡ true → x ≡ Some left.SliceForm
slice_marks None h = no (sym h)
slice_marks (Some left.Float) h = no (sym h)
slice_marks (Some left.Long) h = no (sym h)
slice_marks (Some left.Unicode) h = no (sym h)
slice_marks (Some left.Backquote) h = no (sym h)
slice_marks (Some left.Lambda) h = no (sym h)
slice_marks (Some left.Decorator) h = no (sym h)
slice_marks (Some left.With) h = no (sym h)
slice_marks (Some left.Exec) h = no (sym h)
slice_marks (Some left.Generator) h = no (sym h)
slice_marks (Some left.Comprehension) h = no (sym h)
slice_marks (Some left.Set) h = no (sym h)
slice_marks (Some left.StarArgument) h = no (sym h)
slice_marks (Some left.TupleArgument) h = no (sym h)
slice_marks (Some left.Import) h = no (sym h)
slice_marks (Some left.PrintTo) h = no (sym h)
slice_marks (Some left.Traceback) h = no (sym h)
slice_marks (Some left.SliceForm) h = refl
slice_marks (Some left.MultipleBases) h = no (sym h)

-- a target, or a slice where the marks allow it
abbrev pub Fit : (Bool → Form → Bool) → Marks → Form → Type 0
Fit test x f = (test false f ≡ true) ⊎ ((x ≡ Some left.SliceForm) × (test false f ≡ false) × (test true f ≡ true))

pub fit : (test : Bool → Form → Bool) (x : Marks) (f : Form) → test (slices x) f ≡ true → Fit test x f
fit test x f h = go (test false f) (slices x) refl refl
  where
    go : (b d : Bool) → test false f ≡ b → slices x ≡ d → Fit test x f
    go true d e i = inl e
    go false true e i = inr (slice_marks x i, e, subst (λ z. test z f ≡ true) i h)
    go false false e i = no (sym h ∙ ap (λ z. test z f) i ∙ e)

equals_not : {x : Marks} {es : List Expr} {b : Expr} {us : List Token} → Equals x es b us → 0 < length us
equals_not (S.value p) = long (exprs_headed p)
equals_not (S.equals p {ts = ts} {us = us} q t m) = omega (arith, length-append ts (at c.assign p ∷ us))
equals_not (S.yielded p) = omega arith

-- after a target
complete_tail : {x : Marks} {es : List Expr} {b : Expr} {us : List Token} → Equals x es b us →
    (g d f : ℕ) (found : List Expr) (a : Expr) (p : Place) (rest : List Token) → length us ≤ g → length us ≤ f →
    tops es ≤ d → height b ≤ d → Ends (first rest) → Fit is_target x (form a) →
    Reaches x (equals_at (readers g d) f found (of a, at c.assign p ∷ us ++ rest)) (found ++ a ∷ es, b) rest
complete_tail (S.value q) g d zero found a p rest l m h k s t = absurd (omega (arith, long (exprs_headed q)))
complete_tail (S.value {x = x} {a = b} {ts = ts} q) g d (suc f) found a p rest l m h k s (inr t) =
    inr (left.SliceForm, _, t.0, s_equals_slice (readers g d) f found (of a) p (ts ++ rest) t.1 t.2)
complete_tail (S.value {x = x} {a = b} {ts = ts} q) g d (suc f) found a p rest l m h k s (inl t) =
    at_same x _ _ _ rest (s_equals (readers g d) f found (of a) p (ts ++ rest) t
    (not_keyword 14 30 (first (ts ++ rest)) refl (begin (exprs_headed q) rest)))
    (then_reads x _ (equals_at (readers g d) f (found ++ a ∷ [])) (of b) rest _ rest
    (complete_exprs q g d rest l k (ends_stop _ s))
    (inl (s_equals_end (readers g d) f (found ++ a ∷ []) (of b) rest (ends_op 42 refl _ s))))
complete_tail (S.equals i {ts = ts} {us = us} q t m) g d zero found a p rest l n h k s w =
    absurd (omega (arith, length-append ts (at c.assign i ∷ us)))
complete_tail (S.equals i {ts = ts} {us = us} q t m) g d (suc f) found a p rest l n h k s (inr w) =
    inr (left.SliceForm, _, w.0, s_equals_slice (readers g d) f found (of a) p _ w.1 w.2)
complete_tail (S.equals i {x = x} {a = a'} {b = b} {es = es} {ts = ts} {us = us} q t m) g d (suc f) found a p rest l n
    h k s (inl w) =
    let len = length-append ts (at c.assign i ∷ us) in let pos = long (exprs_headed q) in
    at_same x _ _ _ rest (ap (λ z. equals_at (readers g d) (suc f) found (of a, at c.assign p ∷ z))
    (append_assoc ts (at c.assign i ∷ us) rest) ∙
    s_equals (readers g d) f found (of a) p (ts ++ (at c.assign i ∷ us ++ rest)) w
    (not_keyword 14 30 (first (ts ++ (at c.assign i ∷ us ++ rest))) refl (begin (exprs_headed q) _)))
    (then_reads x _ (equals_at (readers g d) f (found ++ a ∷ [])) (of a') (at c.assign i ∷ us ++ rest) _ rest
    (complete_exprs q g d _ (omega arith) (omega arith) refl)
    (as_value x _ _ _ rest (ap (λ z. (z, b)) (append_assoc found (a ∷ []) (a' ∷ es)))
    (complete_tail m g d f (found ++ a ∷ []) a' i rest (omega arith) (omega arith) (omega arith) k s
    (fit is_target x (form a') t))))
complete_tail (S.yielded q) g d zero found a p rest l m h k s t = absurd (omega arith)
complete_tail (S.yielded q) g d (suc f) found a p rest l m h k s (inr t) =
    inr (left.SliceForm, _, t.0, s_equals_slice (readers g d) f found (of a) p _ t.1 t.2)
complete_tail (S.yielded q) g d (suc f) found a p rest l m h k s (inl t) =
    inr (left.Generator, _, refl, s_equals_yield (readers g d) f found (of a) p q rest t)

abbrev pub Read : Marks → Stmt → ℕ → ℕ → List Token → List Token → Type 0
Read x a g d ts rest = Reaches x (simple_at (readers g (d - 1)) g d (ts ++ rest)) a rest

pub complete_run : {x : Marks} {a : Expr} {ts : List Token} → Exprs x a ts → (g d : ℕ) (rest : List Token) →
    length ts ≤ g → tall (st.Do (line_of ts) a) ≤ d → Ends (first rest) → Read x (st.Do (line_of ts) a) g d ts rest
complete_run {x = x} {a = a} {ts = ts} q g d rest l h s =
    let up = ht.tall_do (line_of ts) a in
    at_same x _ _ _ rest (runs (readers g (d - 1)) g d (ts ++ rest)
    (comes_up 14 (first (ts ++ rest)) (begin (exprs_headed q) rest)))
    (then_reads x _ (λ a. run_at (readers g (d - 1)) g (line_of (ts ++ rest)) a (assigned_of (first a.1))) (of a) rest
    _ rest (complete_exprs q g (d - 1) rest l (omega arith) (ends_stop _ s))
    (inl (ap (run_at (readers g (d - 1)) g (line_of (ts ++ rest)) (of a, rest)) (ends_assigned _ s) ∙
    s_run (readers g (d - 1)) g (line_of (ts ++ rest)) (of a, rest)
    ∙ ap (λ r. r >>= λ x. Ok (run_or_assign (line_of (ts ++ rest)) (x.0).0 (x.0).1, x.1))
    (s_equals_end (readers g (d - 1)) g [] (of a) rest (ends_op 42 refl _ s))
    ∙ ap (λ z. Ok (st.Do z a, rest)) (line_same (exprs_headed q) rest))))

pub complete_assign : {x : Marks} {a b : Expr} {es : List Expr} {us ts : List Token} (p : Place) → Exprs x a ts →
    is_target (slices x) (form a) ≡ true → Equals x es b us → (g d : ℕ) (rest : List Token) →
    length (ts ++ at c.assign p ∷ us) ≤ g → tall (st.Assign (line_of (ts ++ at c.assign p ∷ us)) (a ∷ es) b) ≤ d →
    Ends (first rest) → Read x (st.Assign (line_of (ts ++ at c.assign p ∷ us)) (a ∷ es) b) g d
    (ts ++ at c.assign p ∷ us) rest
complete_assign {x = x} {a = a} {b = b} {es = es} {us = us} {ts = ts} p q t m g d rest l h s =
    let up = ht.tall_assign (line_of (ts ++ at c.assign p ∷ us)) (a ∷ es) b in let len =
    length-append ts (at c.assign p ∷ us) in
    let all = more_headed (at c.assign p ∷ us) (exprs_headed q) in let n =
    line_of ((ts ++ at c.assign p ∷ us) ++ rest) in
    at_same x _ _ _ rest (runs (readers g (d - 1)) g d ((ts ++ at c.assign p ∷ us) ++ rest)
    (comes_up 14 (first ((ts ++ at c.assign p ∷ us) ++ rest)) (begin all rest)) ∙
    ap (λ z. (readers g (d - 1)).read 15 z >>= λ a. run_at (readers g (d - 1)) g n a (assigned_of (first a.1)))
    (append_assoc ts (at c.assign p ∷ us) rest))
    (then_reads x _ (λ a. run_at (readers g (d - 1)) g n a (assigned_of (first a.1))) (of a)
    (at c.assign p ∷ us ++ rest) _ rest (complete_exprs q g (d - 1) _ (omega arith) (omega arith) refl)
    (at_same x _ _ _ rest (s_run (readers g (d - 1)) g n (of a, at c.assign p ∷ us ++ rest))
    (then_reads x _ (λ x. Ok (run_or_assign n (x.0).0 (x.0).1, x.1)) (a ∷ es, b) rest _ rest
    (complete_tail m g (d - 1) g [] a p rest (omega arith) (omega arith) (omega arith) (omega arith) s
    (fit is_target x (form a) t))
    (inl (ap (λ z. Ok (st.Assign z (a ∷ es) b, rest)) (line_same all rest))))))

pub augment_is : (o : Operator) (n : ℕ) → augment_word o ≡ Some n → assigned n ≡ Some o
augment_is op.Or n h = no (ap is_some (sym h))
augment_is op.And n h = no (ap is_some (sym h))
augment_is op.Less n h = no (ap is_some (sym h))
augment_is op.Greater n h = no (ap is_some (sym h))
augment_is op.Equal n h = no (ap is_some (sym h))
augment_is op.GreaterEqual n h = no (ap is_some (sym h))
augment_is op.LessEqual n h = no (ap is_some (sym h))
augment_is op.NotEqual n h = no (ap is_some (sym h))
augment_is op.In n h = no (ap is_some (sym h))
augment_is op.NotIn n h = no (ap is_some (sym h))
augment_is op.Is n h = no (ap is_some (sym h))
augment_is op.IsNot n h = no (ap is_some (sym h))
augment_is op.BitOr n h = subst (λ z. assigned z ≡ Some op.BitOr) (some_inj 19 n h) refl
augment_is op.BitXor n h = subst (λ z. assigned z ≡ Some op.BitXor) (some_inj 20 n h) refl
augment_is op.BitAnd n h = subst (λ z. assigned z ≡ Some op.BitAnd) (some_inj 18 n h) refl
augment_is op.ShiftLeft n h = subst (λ z. assigned z ≡ Some op.ShiftLeft) (some_inj 3 n h) refl
augment_is op.ShiftRight n h = subst (λ z. assigned z ≡ Some op.ShiftRight) (some_inj 2 n h) refl
augment_is op.Plus n h = subst (λ z. assigned z ≡ Some op.Plus) (some_inj 13 n h) refl
augment_is op.Minus n h = subst (λ z. assigned z ≡ Some op.Minus) (some_inj 14 n h) refl
augment_is op.Times n h = subst (λ z. assigned z ≡ Some op.Times) (some_inj 15 n h) refl
augment_is op.Divide n h = subst (λ z. assigned z ≡ Some op.Divide) (some_inj 16 n h) refl
augment_is op.Floor n h = subst (λ z. assigned z ≡ Some op.Floor) (some_inj 1 n h) refl
augment_is op.Remainder n h = subst (λ z. assigned z ≡ Some op.Remainder) (some_inj 17 n h) refl
augment_is op.Power n h = subst (λ z. assigned z ≡ Some op.Power) (some_inj 0 n h) refl

pub augment_stops : (o : Operator) (n : ℕ) → augment_word o ≡ Some n → stops 15 (k.Op n) ≡ true
augment_stops op.Or n h = no (ap is_some (sym h))
augment_stops op.And n h = no (ap is_some (sym h))
augment_stops op.Less n h = no (ap is_some (sym h))
augment_stops op.Greater n h = no (ap is_some (sym h))
augment_stops op.Equal n h = no (ap is_some (sym h))
augment_stops op.GreaterEqual n h = no (ap is_some (sym h))
augment_stops op.LessEqual n h = no (ap is_some (sym h))
augment_stops op.NotEqual n h = no (ap is_some (sym h))
augment_stops op.In n h = no (ap is_some (sym h))
augment_stops op.NotIn n h = no (ap is_some (sym h))
augment_stops op.Is n h = no (ap is_some (sym h))
augment_stops op.IsNot n h = no (ap is_some (sym h))
augment_stops op.BitOr n h = subst (λ z. stops 15 (k.Op z) ≡ true) (some_inj 19 n h) refl
augment_stops op.BitXor n h = subst (λ z. stops 15 (k.Op z) ≡ true) (some_inj 20 n h) refl
augment_stops op.BitAnd n h = subst (λ z. stops 15 (k.Op z) ≡ true) (some_inj 18 n h) refl
augment_stops op.ShiftLeft n h = subst (λ z. stops 15 (k.Op z) ≡ true) (some_inj 3 n h) refl
augment_stops op.ShiftRight n h = subst (λ z. stops 15 (k.Op z) ≡ true) (some_inj 2 n h) refl
augment_stops op.Plus n h = subst (λ z. stops 15 (k.Op z) ≡ true) (some_inj 13 n h) refl
augment_stops op.Minus n h = subst (λ z. stops 15 (k.Op z) ≡ true) (some_inj 14 n h) refl
augment_stops op.Times n h = subst (λ z. stops 15 (k.Op z) ≡ true) (some_inj 15 n h) refl
augment_stops op.Divide n h = subst (λ z. stops 15 (k.Op z) ≡ true) (some_inj 16 n h) refl
augment_stops op.Floor n h = subst (λ z. stops 15 (k.Op z) ≡ true) (some_inj 1 n h) refl
augment_stops op.Remainder n h = subst (λ z. stops 15 (k.Op z) ≡ true) (some_inj 17 n h) refl
augment_stops op.Power n h = subst (λ z. stops 15 (k.Op z) ≡ true) (some_inj 0 n h) refl

s_augment : (under : Readers) (g l : ℕ) (a : Tall Expr) (o : Operator) (t : Token) (us : List Token) →
    is_single false a.form ≡ true → is_keyword 30 (first us) ≡ false →
    run_at under g l (a, t ∷ us) (Some o) ≡ (under.read 15 us >>= λ b. Ok (st.Augment l a.tree o b.0.tree, b.1))
unfolding run_at
s_augment under g l a o t us h w = rw h (rw w refl)

s_augment_slice : (under : Readers) (g l : ℕ) (a : Tall Expr) (o : Operator) (t : Token) (us : List Token) →
    is_single false a.form ≡ false → is_single true a.form ≡ true →
    run_at under g l (a, t ∷ us) (Some o) ≡ Err (LeftOut left.SliceForm, t ∷ us)
unfolding run_at
s_augment_slice under g l a o t us h w = rw h (rw w refl)

pub complete_augment : {x : Marks} {a b : Expr} {ts us : List Token} (n : ℕ) (o : Operator) (p : Place) →
    augment_word o ≡ Some n → Exprs x a ts → is_single (slices x) (form a) ≡ true → Exprs x b us →
    (g d : ℕ) (rest : List Token) → length (ts ++ at (k.Op n) p ∷ us) ≤ g → tall (st.Augment (line_of ts) a o b) ≤ d →
    Ends (first rest) → Read x (st.Augment (line_of ts) a o b) g d (ts ++ at (k.Op n) p ∷ us) rest
complete_augment {x = x} {a = a} {b = b} {ts = ts} {us = us} n o p w q t r g d rest l h s =
    let up = ht.tall_augment (line_of ts) a o b in let len = length-append ts (at (k.Op n) p ∷ us) in
    let all = more_headed (at (k.Op n) p ∷ us) (exprs_headed q) in let m =
    line_of ((ts ++ at (k.Op n) p ∷ us) ++ rest) in
    let same : m ≡ line_of ts = ap line_of (append_assoc ts (at (k.Op n) p ∷ us) rest) ∙
    line_same (exprs_headed q) (at (k.Op n) p ∷ us ++ rest) in
    at_same x _ _ _ rest (runs (readers g (d - 1)) g d ((ts ++ at (k.Op n) p ∷ us) ++ rest)
    (comes_up 14 (first ((ts ++ at (k.Op n) p ∷ us) ++ rest)) (begin all rest)) ∙
    ap (λ z. (readers g (d - 1)).read 15 z >>= λ a. run_at (readers g (d - 1)) g m a (assigned_of (first a.1)))
    (append_assoc ts (at (k.Op n) p ∷ us) rest))
    (then_reads x _ (λ a. run_at (readers g (d - 1)) g m a (assigned_of (first a.1))) (of a)
    (at (k.Op n) p ∷ us ++ rest) _ rest
    (complete_exprs q g (d - 1) _ (omega arith) (omega arith) (augment_stops o n w))
    (at_same x _ _ _ rest (ap (run_at (readers g (d - 1)) g m (of a, at (k.Op n) p ∷ us ++ rest)) (augment_is o n w))
    (go m same (fit is_single x (form a) t))))
  where
    go : (m : ℕ) → m ≡ line_of ts → Fit is_single x (form a) →
        Reaches x (run_at (readers g (d - 1)) g m (of a, at (k.Op n) p ∷ us ++ rest) (Some o))
        (st.Augment (line_of ts) a o b) rest
    go m e (inr v) = inr (
      left.SliceForm,
      _,
      v.0,
      s_augment_slice (readers g (d - 1)) g m (of a) o (at (k.Op n) p)
          (us ++ rest) v.1 v.2,
    )
    go m e (inl v) = at_same x _ _ _ rest
        (s_augment (readers g (d - 1)) g m (of a) o (at (k.Op n) p) (us ++ rest) v
        (not_keyword 14 30 (first (us ++ rest)) refl (begin (exprs_headed r) rest)))
        (then_reads x _ (λ b. Ok (st.Augment m a o b.0.tree, b.1)) (of b) rest _ rest
        (complete_exprs r g (d - 1) rest (omega (arith, length-append ts (at (k.Op n) p ∷ us)))
        (omega (arith, ht.tall_augment (line_of ts) a o b)) (ends_stop _ s))
        (inl (ap (λ z. Ok (st.Augment z a o b, rest)) e)))
