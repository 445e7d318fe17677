-- What the grammar has of simple statements and of their lines is read, or refused as what is left out.
use Rattle.std.proofs.Common.{◌≡◌, ℕ, zero, suc, ◌+◌, ◌-◌, ◌≤◌, ◌==◌, Bool, true, false, ◌||◌, List, [], ◌∷◌, ◌++◌, length, Ok, Some, None, inl, inr, refl, sym, ap, ◌∙◌, subst, append_assoc, arith, length-append}
use Rattle.py_tokens.specs.declared.token.Token.{Token}
use Rattle.py_tokens.specs.declared.token.TokenKind.{TokenKind}
use Rattle.py_tokens.specs.declared.token.TokenKind.TheVariants as k
use Rattle.py_tokens.specs.declared.token.Place.{Place}
use Rattle.py_tokens.specs.Place.{token_at as at}
use Rattle.py_grammar.specs.Grammar.{Marks}
use Rattle.py_tree.proofs.Heights as hh
use Rattle.py_grammar.specs.inner.Aiming.{readers}
use Rattle.py_grammar.specs.inner.Reading.{Reader, ◌>>=◌, first, rest, comes}
use Rattle.py_grammar.proofs.Steps.{of, Reaches, then_reads, at_same}
use Rattle.py_grammar.proofs.Facts.{no, apart, comes_up}
use Rattle.py_grammar.proofs.Begin.{Headed, headed, more_headed, begin, tests_headed, as_value}
use Rattle.py_grammar.proofs.Complete.{complete, complete_exprs}
use Rattle.py_grammar.specs.Statements as S
use Rattle.py_grammar.specs.Statements.{Simple, Line}
use Rattle.py_grammar.specs.inner.Lines.{plain_at, line_at, line_more, simple_at, run_at, imported_at, imports_at, raise_at, assert_at, assigned_of, is_newline}
use Rattle.py_grammar.specs.Words.{is_module, is_member}
use Rattle.py_grammar.specs.Words.{line_of}
use Rattle.py_tree.specs.declared.stmt.Stmt.{Stmt}
use Rattle.py_tree.specs.declared.stmt.Stmt.TheVariants as st
use Rattle.py_tree.specs.Tall.{tall, talls}
use Rattle.py_tree.proofs.Talls as ht
use Rattle.py_grammar.specs.Codes as c
use Rattle.py_base.specs.declared.refusal.Construct.TheVariants as left
use Rattle.py_grammar.proofs.AssignReads.{Ends, semicolon, newline, exprs_headed, ends_op, runs, Read, complete_run, complete_assign, augment_is, augment_stops, complete_augment}
use Rattle.py_grammar.proofs.KeywordReads.{s_print_end, s_print, print_tests, s_return_none, s_raise_none, s_raise, s_raise_one, raise_end, s_raise_two, s_raise_end, s_traceback, s_assert, s_assert_one, s_assert_two, ends_14, complete_return}
use Rattle.py_grammar.proofs.TargetReads.{slack, bind_bind, complete_del}
use Rattle.py_grammar.proofs.NameReads.{complete_global, complete_imports, s_import, s_from, s_from_wrong, s_plain, s_print_to, s_augment_yield}

pub complete_simple : {x : Marks} {a : Stmt} {ts : List Token} → Simple x a ts → (g d : ℕ) (rest : List Token) →
    length ts ≤ g → slack x + tall a ≤ d → Ends (first rest) → Read x a g d ts rest
complete_simple (S.run q) g d rest l h s = complete_run q g d rest l (omega arith) s
complete_simple (S.assign (S.equals p q t m)) g d rest l h s = complete_assign p q t m g d rest l (omega arith) s
complete_simple (S.augment n o p w q t r) g d rest l h s = complete_augment n o p w q t r g d rest l (omega arith) s
complete_simple (S.print_end x p) g d rest l h s =
    inl ((s_plain (readers g (d - 1)) g d p rest).5 ∙ s_print_end (readers g (d - 1)) g p.line rest s)
complete_simple (S.print p {x = x} {es = es} {b = b} {ts = ts} q) g d rest l h s =
    at_same x _ _ _ rest ((s_plain (readers g (d - 1)) g d p (ts ++ rest)).5 ∙
    s_print (readers g (d - 1)) g p.line (ts ++ rest) (begin (tests_headed q) rest))
    (print_tests q g (d - 1) p.line rest (omega arith) (omega (arith, ht.tall_print p.line es b)) s)
complete_simple (S.pass x p) g d rest l h s = inl (s_plain (readers g (d - 1)) g d p rest).0
complete_simple (S.break x p) g d rest l h s = inl (s_plain (readers g (d - 1)) g d p rest).1
complete_simple (S.continue x p) g d rest l h s = inl (s_plain (readers g (d - 1)) g d p rest).2
complete_simple (S.return_none x p) g d rest l h s = inl (s_return_none (readers g (d - 1)) g d p rest s)
complete_simple (S.return p {a = a} q) g d rest l h s =
    complete_return p q g d rest (omega arith) (omega (arith, ht.tall_return p.line (Some a))) s
complete_simple (S.raise_none x p) g d rest l h s = inl (s_raise_none (readers g (d - 1)) g d p rest s)
complete_simple (S.raise_one p {x = x} {a = a} {ts = ts} q) g d rest l h s =
    at_same x _ _ _ rest (s_raise (readers g (d - 1)) g d p (ts ++ rest) (begin (headed q) rest))
    (then_reads x _ (raise_at (readers g (d - 1)) p.line) (of a) rest _ rest
    (complete q g (d - 1) rest (omega arith) (omega (arith, ht.tall_raise p.line (Some a) None)) (ends_14 rest s))
    (inl (s_raise_one (readers g (d - 1)) p.line (of a) rest (ends_op 38 refl _ s))))
complete_simple (S.raise_two p i {x = x} {a = a} {b = b} {ts = ts} {us = us} q r) g d rest l h s =
    let up = ht.tall_raise p.line (Some a) (Some b) in let len = length-append ts (at c.comma i ∷ us) in
    at_same x _ _ _ rest (ap (λ z. simple_at (readers g (d - 1)) g d (at c.raise_ p ∷ z))
    (append_assoc ts (at c.comma i ∷ us) rest) ∙
    s_raise (readers g (d - 1)) g d p (ts ++ (at c.comma i ∷ us ++ rest)) (begin (headed q) _))
    (then_reads x _ (raise_at (readers g (d - 1)) p.line) (of a) (at c.comma i ∷ us ++ rest) _ rest
    (complete q g (d - 1) _ (omega arith) (omega arith) refl)
    (at_same x _ _ _ rest (s_raise_two (readers g (d - 1)) p.line (of a) i (us ++ rest))
    (then_reads x _ (raise_end p.line (of a)) (of b) rest _ rest
    (complete r g (d - 1) rest (omega arith) (omega arith) (ends_14 rest s))
    (inl (s_raise_end p.line (of a) (of b) rest (ends_op 38 refl _ s))))))
complete_simple (S.del p {es = es} q) g d rest l h s =
    complete_del p q g d rest (omega arith) (omega (arith, ht.tall_del p.line es)) s
complete_simple (S.global x p q) g d rest l h s = inl (complete_global p q (readers g (d - 1)) g d rest (omega arith) s)
complete_simple (S.assert_one p {x = x} {a = a} {ts = ts} q) g d rest l h s =
    let up = ht.tall_assert p.line a None in let low = hh.height_pos a in
    at_same x _ _ _ rest (s_assert (readers g (d - 1)) g d p (ts ++ rest) (omega arith))
    (then_reads x _ (assert_at (readers g (d - 1)) p.line) (of a) rest _ rest
    (complete q g (d - 1) rest (omega arith) (omega arith) (ends_14 rest s))
    (inl (s_assert_one (readers g (d - 1)) p.line (of a) rest (ends_op 38 refl _ s))))
complete_simple (S.assert_two p i {x = x} {a = a} {b = b} {ts = ts} {us = us} q r) g d rest l h s =
    let up = ht.tall_assert p.line a (Some b) in let low = hh.height_pos a in let len =
    length-append ts (at c.comma i ∷ us) in
    at_same x _ _ _ rest (ap (λ z. simple_at (readers g (d - 1)) g d (at c.assert_ p ∷ z))
    (append_assoc ts (at c.comma i ∷ us) rest) ∙
    s_assert (readers g (d - 1)) g d p (ts ++ (at c.comma i ∷ us ++ rest)) (omega arith))
    (then_reads x _ (assert_at (readers g (d - 1)) p.line) (of a) (at c.comma i ∷ us ++ rest) _ rest
    (complete q g (d - 1) _ (omega arith) (omega arith) refl)
    (at_same x _ _ _ rest (s_assert_two (readers g (d - 1)) p.line (of a) i (us ++ rest))
    (then_reads x _ (λ b. Ok (st.Assert p.line a (Some b.0.tree), b.1)) (of b) rest _ rest
    (complete r g (d - 1) rest (omega arith) (omega arith) (ends_14 rest s)) (inl refl))))
complete_simple (S.import p {x = x} {is = is} {ts = ts} q) g d rest l h s =
    at_same x _ _ _ rest (s_import (readers g (d - 1)) g d p (ts ++ rest) ∙
    bind_bind (imported_at is_module (ts ++ rest)) (λ i. imports_at is_module g (i.0 ∷ []) i.1)
    (λ is. Ok (st.Import p.line is.0, is.1)))
    (then_reads x _ (λ is. Ok (st.Import p.line is.0, is.1)) is rest _ rest
    (complete_imports q g [] rest (omega arith) s) (inl refl))
complete_simple (S.from m p i j {x = x} {is = is} {ts = ts} w q) g d rest l h s =
    at_same x _ _ _ rest (s_from (readers g (d - 1)) g d m p i j (ts ++ rest) w ∙
    bind_bind (imported_at (is_member m) (ts ++ rest)) (λ i. imports_at (is_member m) g (i.0 ∷ []) i.1)
    (λ is. Ok (st.From p.line m is.0, is.1)))
    (then_reads x _ (λ is. Ok (st.From p.line m is.0, is.1)) is rest _ rest
    (complete_imports q g [] rest (omega arith) s) (inl refl))
complete_simple (S.exec p) g d rest l h s = inr (left.Exec, _, refl, (s_plain (readers g (d - 1)) g d p rest).3)
complete_simple (S.yield p) g d rest l h s = inr (left.Generator, _, refl, (s_plain (readers g (d - 1)) g d p rest).4)
complete_simple (S.augment_yield n o p i {a = a} {ts = ts} w q t) g d rest l h s =
    let up = ht.tall_augment (line_of ts) a o a in let len = length-append ts (at (k.Op n) p ∷ at c.yield_ i ∷ []) in
    let all = more_headed (at (k.Op n) p ∷ at c.yield_ i ∷ []) (exprs_headed q) in let m =
    line_of ((ts ++ at (k.Op n) p ∷ at c.yield_ i ∷ []) ++ rest) in
    at_same (Some left.Generator) _ _ _ rest
    (runs (readers g (d - 1)) g d ((ts ++ at (k.Op n) p ∷ at c.yield_ i ∷ []) ++ rest)
    (comes_up 14 (first ((ts ++ at (k.Op n) p ∷ at c.yield_ i ∷ []) ++ rest)) (begin all rest)) ∙
    ap (λ z. (readers g (d - 1)).read 15 z >>= λ a. run_at (readers g (d - 1)) g m a (assigned_of (first a.1)))
    (append_assoc ts (at (k.Op n) p ∷ at c.yield_ i ∷ []) rest))
    (then_reads (Some left.Generator) _ (λ a. run_at (readers g (d - 1)) g m a (assigned_of (first a.1))) (of a)
    (at (k.Op n) p ∷ at c.yield_ i ∷ rest) _ rest
    (complete_exprs q g (d - 1) _ (omega arith) (omega arith) (augment_stops o n w))
    (inr (
      left.Generator,
      _,
      refl,
      ap (run_at (readers g (d - 1)) g m (of a, at (k.Op n) p ∷ at c.yield_ i ∷ rest))
          (augment_is o n w) ∙ s_augment_yield (readers g (d - 1)) g m (of a) o (at (k.Op n) p) i rest t,
    )))
complete_simple (S.print_to p i) g d rest l h s =
    inr (
      left.PrintTo,
      _,
      refl,
      (s_plain (readers g (d - 1)) g d p (at c.shift_right i ∷ rest)).5 ∙
          s_print_to (readers g (d - 1)) g p.line i rest,
    )
complete_simple (S.traceback p i j {a = a} {b = b} {ts = ts} {us = us} q r) g d rest l h s =
    let up = ht.tall_raise p.line (Some a) (Some b) in let len =
    length-append (ts ++ at c.comma i ∷ us) (at c.comma j ∷ []) in let len' =
    length-append ts (at c.comma i ∷ us) in
    at_same (Some left.Traceback) _ _ _ rest
    (ap (λ z. simple_at (readers g (d - 1)) g d (at c.raise_ p ∷ z))
    (append_assoc (ts ++ at c.comma i ∷ us) (at c.comma j ∷ []) rest ∙
    append_assoc ts (at c.comma i ∷ us) (at c.comma j ∷ rest)) ∙
    s_raise (readers g (d - 1)) g d p (ts ++ (at c.comma i ∷ us ++ at c.comma j ∷ rest)) (begin (headed q) _))
    (then_reads (Some left.Traceback) _ (raise_at (readers g (d - 1)) p.line) (of a)
    (at c.comma i ∷ us ++ at c.comma j ∷ rest) _ rest (complete q g (d - 1) _ (omega arith) (omega arith) refl)
    (at_same (Some left.Traceback) _ _ _ rest
    (s_raise_two (readers g (d - 1)) p.line (of a) i (us ++ at c.comma j ∷ rest))
    (then_reads (Some left.Traceback) _ (raise_end p.line (of a)) (of b) (at c.comma j ∷ rest) _ rest
    (complete r g (d - 1) _ (omega arith) (omega arith) refl)
    (inr (left.Traceback, _, refl, s_traceback p.line (of a) (of b) j rest)))))
complete_simple (S.from_wrong m p i w) g d rest l h s =
    inr (left.Import, _, refl, s_from_wrong (readers g (d - 1)) g d m p i rest w)

-- ---- lines of simple statements

-- what no statement begins with
abbrev pub stray : TokenKind → Bool
stray k.Newline = true
stray k.Dedent = true
stray k.End = true
stray (k.Keyword m) = m == 8 || (m == 9 || (m == 10 || m == 12))
stray _ = false

not_stray : (kind : TokenKind) → comes 14 kind ≡ true → stray kind ≡ false
not_stray k.Newline h = no (sym h)
not_stray k.Dedent h = no (sym h)
not_stray k.End h = no (sym h)
not_stray (k.Keyword m) h = rw (apart (λ z. comes 14 (k.Keyword z)) 8 m refl h)
    (rw (apart (λ z. comes 14 (k.Keyword z)) 9 m refl h)
    (rw (apart (λ z. comes 14 (k.Keyword z)) 10 m refl h) (apart (λ z. comes 14 (k.Keyword z)) 12 m refl h)))
not_stray (k.Name m) h = refl
not_stray (k.Int m) h = refl
not_stray (k.Str m) h = refl
not_stray (k.Op m) h = refl
not_stray k.Indent h = refl
not_stray (k.Other o) h = refl

pub stray_newline : (kind : TokenKind) → stray kind ≡ false → is_newline kind ≡ false
stray_newline k.Newline h = no h
stray_newline k.Dedent h = refl
stray_newline k.End h = refl
stray_newline (k.Keyword m) h = refl
stray_newline (k.Name m) h = refl
stray_newline (k.Int m) h = refl
stray_newline (k.Str m) h = refl
stray_newline (k.Op m) h = refl
stray_newline k.Indent h = refl
stray_newline (k.Other o) h = refl

newline_not : {ts : List Token} → Headed 14 ts → (us : List Token) → stray (first (ts ++ us)) ≡ false
newline_not {ts = ts} h us = not_stray (first (ts ++ us)) (begin h us)

pub simple_first : {x : Marks} {a : Stmt} {ts : List Token} → Simple x a ts → (us : List Token) →
    stray (first (ts ++ us)) ≡ false
simple_first (S.run q) us = newline_not (exprs_headed q) us
simple_first (S.assign (S.equals p {us = vs} q t m)) us =
    newline_not (more_headed (at c.assign p ∷ vs) (exprs_headed q)) us
simple_first (S.augment n o p {us = vs} w q t r) us = newline_not (more_headed (at (k.Op n) p ∷ vs) (exprs_headed q)) us
simple_first (S.print_end x p) us = refl
simple_first (S.print p q) us = refl
simple_first (S.pass x p) us = refl
simple_first (S.break x p) us = refl
simple_first (S.continue x p) us = refl
simple_first (S.return_none x p) us = refl
simple_first (S.return p q) us = refl
simple_first (S.raise_none x p) us = refl
simple_first (S.raise_one p q) us = refl
simple_first (S.raise_two p i q r) us = refl
simple_first (S.del p q) us = refl
simple_first (S.global x p q) us = refl
simple_first (S.assert_one p q) us = refl
simple_first (S.assert_two p i q r) us = refl
simple_first (S.import p q) us = refl
simple_first (S.from m p i j w q) us = refl
simple_first (S.exec p) us = refl
simple_first (S.yield p) us = refl
simple_first (S.augment_yield n o p i w q t) us =
    newline_not (more_headed (at (k.Op n) p ∷ at c.yield_ i ∷ []) (exprs_headed q)) us
simple_first (S.print_to p i) us = refl
simple_first (S.traceback p i j q r) us = refl
simple_first (S.from_wrong m p i w) us = refl

s_line_end : (simple : Reader Stmt) (f : ℕ) (found : List Stmt) (p : Place) (us : List Token) →
    line_more simple (suc f) found (at k.Newline p ∷ us) ≡ Ok (found, us)
unfolding line_more plain_at
s_line_end simple f found p us = refl

s_line_semicolon : (simple : Reader Stmt) (f : ℕ) (found : List Stmt) (p q : Place) (us : List Token) →
    line_more simple (suc f) found (at c.semicolon p ∷ at k.Newline q ∷ us) ≡ Ok (found, us)
unfolding line_more
s_line_semicolon simple f found p q us = refl

s_line_more : (simple : Reader Stmt) (f : ℕ) (found : List Stmt) (p : Place) (us : List Token) →
    is_newline (first us) ≡ false → line_more simple (suc f) found (at c.semicolon p ∷ us) ≡
    (simple us >>= λ a. line_more simple f (found ++ a.0 ∷ []) a.1)
unfolding line_more
s_line_more simple f found p us h = rw h refl

pub line_first : {x : Marks} {ss : List Stmt} {ts : List Token} → Line x ss ts → (us : List Token) →
    stray (first (ts ++ us)) ≡ false
line_first (S.end p {ts = ts} q) us = subst (λ z. stray (first z) ≡ false)
    (sym (append_assoc ts (at k.Newline p ∷ []) us)) (simple_first q _)
line_first (S.end_semicolon p i {ts = ts} q) us =
    subst (λ z. stray (first z) ≡ false) (sym (append_assoc ts (at c.semicolon p ∷ at k.Newline i ∷ []) us))
    (simple_first q _)
line_first (S.more p {ts = ts} {us = vs} q r) us =
    subst (λ z. stray (first z) ≡ false) (sym (append_assoc ts (at c.semicolon p ∷ vs) us)) (simple_first q _)

line_more_complete : {x : Marks} {ss : List Stmt} {ts : List Token} → Line x ss ts →
    (g d f : ℕ) (found : List Stmt) (rest : List Token) → length ts ≤ g → length ts ≤ f → slack x + talls ss ≤ d →
    Reaches x (simple_at (readers g (d - 1)) g d (ts ++ rest) >>= λ a.
    line_more (simple_at (readers g (d - 1)) g d) f (found ++ a.0 ∷ []) a.1) (found ++ ss) rest
line_more_complete (S.end p {ts = ts} q) g d zero found rest l m h =
    absurd (omega (arith, length-append ts (at k.Newline p ∷ [])))
line_more_complete (S.end p {x = x} {a = a} {ts = ts} q) g d (suc f) found rest l m h =
    at_same x _ _ _ rest (ap (λ z. simple_at (readers g (d - 1)) g d z >>= λ a.
    line_more (simple_at (readers g (d - 1)) g d) (suc f) (found ++ a.0 ∷ []) a.1)
    (append_assoc ts (at k.Newline p ∷ []) rest))
    (then_reads x _ (λ a. line_more (simple_at (readers g (d - 1)) g d) (suc f) (found ++ a.0 ∷ []) a.1) a
    (at k.Newline p ∷ rest) _ rest (complete_simple q g d _ (omega (arith, length-append ts (at k.Newline p ∷ [])))
    (omega arith) newline)
    (inl (s_line_end (simple_at (readers g (d - 1)) g d) f (found ++ a ∷ []) p rest)))
line_more_complete (S.end_semicolon p i {ts = ts} q) g d zero found rest l m h =
    absurd (omega (arith, length-append ts (at c.semicolon p ∷ at k.Newline i ∷ [])))
line_more_complete (S.end_semicolon p i {x = x} {a = a} {ts = ts} q) g d (suc f) found rest l m h =
    at_same x _ _ _ rest (ap (λ z. simple_at (readers g (d - 1)) g d z >>= λ a.
    line_more (simple_at (readers g (d - 1)) g d) (suc f) (found ++ a.0 ∷ []) a.1)
    (append_assoc ts (at c.semicolon p ∷ at k.Newline i ∷ []) rest))
    (then_reads x _ (λ a. line_more (simple_at (readers g (d - 1)) g d) (suc f) (found ++ a.0 ∷ []) a.1) a
    (at c.semicolon p ∷ at k.Newline i ∷ rest) _ rest
    (complete_simple q g d _ (omega (arith, length-append ts (at c.semicolon p ∷ at k.Newline i ∷ [])))
    (omega arith) semicolon)
    (inl (s_line_semicolon (simple_at (readers g (d - 1)) g d) f (found ++ a ∷ []) p i rest)))
line_more_complete (S.more p {ts = ts} {us = us} q r) g d zero found rest l m h =
    absurd (omega (arith, length-append ts (at c.semicolon p ∷ us)))
line_more_complete (S.more p {x = x} {a = a} {as' = ss} {ts = ts} {us = us} q r) g d (suc f) found rest l m h =
    let len = length-append ts (at c.semicolon p ∷ us) in
    at_same x _ _ _ rest (ap (λ z. simple_at (readers g (d - 1)) g d z >>= λ a.
    line_more (simple_at (readers g (d - 1)) g d) (suc f) (found ++ a.0 ∷ []) a.1)
    (append_assoc ts (at c.semicolon p ∷ us) rest))
    (then_reads x _ (λ a. line_more (simple_at (readers g (d - 1)) g d) (suc f) (found ++ a.0 ∷ []) a.1) a
    (at c.semicolon p ∷ us ++ rest) _ rest (complete_simple q g d _ (omega arith) (omega arith) semicolon)
    (at_same x _ _ _ rest (s_line_more (simple_at (readers g (d - 1)) g d) f (found ++ a ∷ []) p (us ++ rest)
    (stray_newline _ (line_first r rest)))
    (as_value x _ _ _ rest (append_assoc found (a ∷ []) ss)
    (line_more_complete r g d f (found ++ a ∷ []) rest (omega arith) (omega arith) (omega arith)))))

pub complete_line : {x : Marks} {ss : List Stmt} {ts : List Token} → Line x ss ts → (g d : ℕ) (rest : List Token) →
    length ts ≤ g → slack x + talls ss ≤ d → Reaches x (line_at (readers g (d - 1)) g d (ts ++ rest)) ss rest
unfolding line_at
complete_line q g d rest l h = line_more_complete q g d g [] rest l l h
