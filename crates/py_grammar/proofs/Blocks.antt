-- What the grammar has of blocks, compound statements and modules is read, or refused as what is left out.
use Rattle.std.proofs.Common.{◌≡◌, ℕ, zero, suc, ◌+◌, ◌≤◌, true, false, List, [], ◌∷◌, ◌++◌, length, Ok, Option, Some, None, inl, inr, refl, sym, ap, ◌∙◌, append_assoc, append-nil, arith, length-append}
use Rattle.py_tokens.specs.declared.token.Token.{Token}
use Rattle.py_tokens.specs.declared.token.TokenKind.TheVariants as k
use Rattle.py_tokens.specs.declared.token.Place.{Place}
use Rattle.py_tokens.specs.Place.{token_at as at}
use Rattle.py_grammar.specs.Grammar.{Marks}
use Rattle.py_grammar.specs.inner.Aiming.{readers}
use Rattle.py_grammar.specs.inner.Reading.{◌>>=◌, first, rest, is_keyword}
use Rattle.py_grammar.proofs.Steps.{of, Reaches, then_reads, at_same}
use Rattle.py_grammar.proofs.Values.{of_or}
use Rattle.py_grammar.proofs.Begin.{as_value}
use Rattle.py_grammar.proofs.TargetReads.{slack}
use Rattle.py_grammar.proofs.Simple.{line_first, stray_newline, complete_line}
use Rattle.py_tree.specs.declared.stmt.Arm.{Arm}
use Rattle.py_tree.specs.declared.stmt.Clause.{Clause}
use Rattle.py_tree.specs.declared.stmt.Handler.{Handler}
use Rattle.py_grammar.proofs.Complete.{complete_exprs}
use Rattle.py_grammar.specs.Statements as S
use Rattle.py_grammar.specs.Statements.{Statement, Suite as Suites, Block, Elifs, Else, Finally, Excepts, Compound}
use Rattle.py_grammar.specs.inner.Lines.{body_at, elifs_at, clause_at, handlers_at, try_at, statement_at, suite_at, line_of_at, statements_at}
use Rattle.py_tree.specs.declared.stmt.Stmt.{Stmt}
use Rattle.py_tree.specs.declared.stmt.Stmt.TheVariants as st
use Rattle.py_tree.specs.Tall.{tall, talls, tall_arms, tall_clause, tall_handlers}
use Rattle.py_grammar.specs.inner.Tall.{tree_or}
use Rattle.py_tree.proofs.Talls as ht
use Rattle.py_grammar.specs.Codes as c
use Rattle.py_base.specs.declared.refusal.Construct.TheVariants as left
use Rattle.py_grammar.proofs.HeadReads.{clear, s_colon, arm_ok, s_clause, s_no_clause, params_first, complete_params, base_ok}
use Rattle.py_grammar.proofs.StatementReads.{st_any, line_pos, s_mark, line_ok, s_line_of}
use Rattle.py_grammar.proofs.BlockSteps.{s_block_line, s_block, suite_more, s_suite, clear_not, else_first, finally_first, s_if, s_while, s_elif, s_elif_end, suite_first, stray_clear, stray_dedent, talls_append, block_pos, goes, statement_long, compound_tall, parts2, st_two, single, def_end, s_def_end, s_def_none, s_def, s_class, tree_of_or, s_try, s_try_finally, try_tail, s_try_excepts, finally_is, excepts_is, handler_more, s_except, handler_last, handler_ok}
use Rattle.py_grammar.proofs.LoopReads.{complete_loop, for_body, for_more, s_for, s_in, s_for_body, Blocked}

mutual
  pub complete_statement : {x : Marks} {ss : List Stmt} {ts : List Token} → Statement x ss ts →
      (g d : ℕ) (rest : List Token) → length ts ≤ g → slack x + talls ss ≤ d → clear (first rest) ≡ true →
      Reaches x (statements_at g d (ts ++ rest)) ss rest
  complete_statement (S.line q) g d rest l h s = line_ok q g d rest l h
  complete_statement (S.compound {a = a} q) g zero rest l h s = absurd (omega (arith, ht.tall_pos a))
  complete_statement (S.compound {a = a} q) g (suc zero) rest l h s = absurd (omega (arith, compound_tall q))
  complete_statement (S.compound {a = a} q) g (suc (suc d)) rest l h s = complete_compound q g d rest l (omega arith) s
  complete_statement (S.decorated p) g d rest l h s = let q =
      st_any g d (at c.at_sign p ∷ rest) (omega (arith, ht.tall_pos (st.Pass p.line))) in
      inr (left.Decorator, _, refl, q.as' ∙ (s_mark q.parts' g d p rest).0)
  complete_statement (S.with' p) g d rest l h s = let q =
      st_any g d (at c.with_ p ∷ rest) (omega (arith, ht.tall_pos (st.Pass p.line))) in
      inr (left.With, _, refl, q.as' ∙ (s_mark q.parts' g d p rest).1)

  complete_block : {x : Marks} {ss : List Stmt} {ts : List Token} → Block x ss ts → (g d : ℕ) (rest : List Token) →
      length ts ≤ g → slack x + talls ss ≤ d → Reaches x (Blocked g d (ts ++ rest)) ss rest
  complete_block (S.short {x = x} {as' = ss} {ts = ts} q) g d rest l h =
      at_same x _ _ _ rest (s_block_line (line_of_at g d) (statements_at g d) g (ts ++ rest)
      (stray_newline _ (line_first q rest)) ∙ s_line_of g d (ts ++ rest) (omega (arith, line_pos q)))
      (complete_line q g d rest l h)
  complete_block (S.long p q r {x = x} {as' = ss} {ts = ts} w) g d rest l h =
      at_same x _ _ _ rest (s_block (line_of_at g d) (statements_at g d) g p q ((ts ++ at k.Dedent r ∷ []) ++ rest) ∙
      ap (suite_at (statements_at g d) g []) (append_assoc ts (at k.Dedent r ∷ []) rest))
      (complete_suite w g d g [] r rest (omega (arith, length-append ts (at k.Dedent r ∷ [])))
      (omega (arith, length-append ts (at k.Dedent r ∷ []))) h)

  complete_suite : {x : Marks} {ss : List Stmt} {ts : List Token} → Suites x ss ts →
      (g d f : ℕ) (found : List Stmt) (r : Place) (rest : List Token) → length ts ≤ g → suc (length ts) ≤ f →
      slack x + talls ss ≤ d → Reaches x (suite_at (statements_at g d) f found (ts ++ at k.Dedent r ∷ rest))
      (found ++ ss) rest
  complete_suite (S.last_of q) g d zero found r rest l m h = absurd (omega arith)
  complete_suite (S.last_of {x = x} {as' = ss} {ts = ts} q) g d (suc f) found r rest l m h =
      at_same x _ _ _ rest (s_suite (statements_at g d) f found (ts ++ at k.Dedent r ∷ rest))
      (then_reads x _ (suite_more (statements_at g d) f found) ss (at k.Dedent r ∷ rest) _ rest
      (complete_statement q g d (at k.Dedent r ∷ rest) l h refl) (inl refl))
  complete_suite (S.then q w) g d zero found r rest l m h = absurd (omega arith)
  complete_suite (S.then {x = x} {as' = ss} {bs = bs} {ts = ts} {us = us} q w) g d (suc f) found r rest l m h =
      let len = length-append ts us in let top = talls_append ss bs in let ahead =
      suite_first w (at k.Dedent r ∷ rest) in let pos = statement_long q in
      at_same x _ _ _ rest (ap (suite_at (statements_at g d) (suc f) found) (append_assoc ts us (at k.Dedent r ∷ rest))
      ∙ s_suite (statements_at g d) f found (ts ++ (us ++ at k.Dedent r ∷ rest)))
      (then_reads x _ (suite_more (statements_at g d) f found) ss (us ++ at k.Dedent r ∷ rest) _ rest
      (complete_statement q g d _ (omega arith) (omega arith)
      (stray_clear (first (us ++ at k.Dedent r ∷ rest)) ahead))
      (at_same x _ _ _ rest (goes (statements_at g d) f found ss (us ++ at k.Dedent r ∷ rest)
      (stray_dedent (first (us ++ at k.Dedent r ∷ rest)) ahead))
      (as_value x _ _ _ rest (append_assoc found ss bs)
      (complete_suite w g d f (found ++ ss) r rest (omega arith) (omega arith) (omega arith)))))

  complete_elifs : {x : Marks} {rs : List Arm} {ts : List Token} → Elifs x rs ts →
      (g d f : ℕ) (found : List Arm) (rest : List Token) → length ts ≤ g → length ts ≤ f →
      slack x + tall_arms rs ≤ suc d → is_keyword 8 (first rest) ≡ false →
      Reaches x (elifs_at (readers g (suc d)) (Blocked g d) f found (ts ++ rest)) (found ++ rs) rest
  complete_elifs (S.no_elif x) g d f found rest l m h s =
      inl (s_elif_end (readers g (suc d)) (Blocked g d) f found rest s ∙
      ap (λ z. Ok (z, rest)) (sym (append-nil found)))
  complete_elifs (S.elif p q a b r) g d zero found rest l m h s = absurd (omega arith)
  complete_elifs (S.elif p q {x = x} {a = a} {as' = ss} {rs = rs} {ts = ts} {us = us} {vs = vs} t b r) g d (suc f)
      found rest l m h s =
      let len = length-append (ts ++ at c.colon q ∷ us) vs in let len' = length-append ts (at c.colon q ∷ us) in
      at_same x _ _ _ rest (ap (λ z. elifs_at (readers g (suc d)) (Blocked g d) (suc f) found (at c.elif_ p ∷ z))
      (append_assoc (ts ++ at c.colon q ∷ us) vs rest ∙ append_assoc ts (at c.colon q ∷ us) (vs ++ rest)) ∙
      s_elif (readers g (suc d)) (Blocked g d) f found p (ts ++ (at c.colon q ∷ us ++ (vs ++ rest))))
      (then_reads x _ (λ a. elifs_at (readers g (suc d)) (Blocked g d) f (found ++ a.0 ∷ []) a.1)
      (record { line = p.line; test = a; body = ss }) (vs ++ rest) _ rest
      (arm_ok t g (suc d) p.line (Blocked g d) q (us ++ (vs ++ rest)) (vs ++ rest) ss (omega arith) (omega arith)
      (complete_block b g d (vs ++ rest) (omega arith) (omega arith)))
      (as_value x _ _ _ rest (append_assoc found (record { line = p.line; test = a; body = ss } ∷ []) rs)
      (complete_elifs r g d f (found ++ record { line = p.line; test = a; body = ss } ∷ []) rest (omega arith)
      (omega arith) (omega arith) s)))

  complete_else : {x : Marks} {o : Option Clause} {ts : List Token} → Else x o ts → (g d : ℕ) (rest : List Token) →
      length ts ≤ g → slack x + tall_clause o ≤ suc d → is_keyword 9 (first rest) ≡ false →
      Reaches x (clause_at 9 (Blocked g d) (ts ++ rest)) o rest
  complete_else (S.no_else x) g d rest l h s = inl (s_no_clause 9 (Blocked g d) rest s)
  complete_else (S.else' p q {x = x} {as' = ss} {ts = ts} b) g d rest l h s =
      at_same x _ _ _ rest (s_clause 9 (Blocked g d) p q (ts ++ rest))
      (then_reads x _ (λ b. Ok (Some (record { line = p.line; body = b.0 }), b.1)) ss rest _ rest
      (complete_block b g d rest (omega arith) (omega arith)) (inl refl))

  complete_compound : {x : Marks} {a : Stmt} {ts : List Token} → Compound x a ts → (g d : ℕ) (rest : List Token) →
      length ts ≤ g → slack x + tall a ≤ suc (suc d) → clear (first rest) ≡ true →
      Reaches x (statements_at g (suc (suc d)) (ts ++ rest)) (a ∷ []) rest
  complete_compound (S.if' p q {x = x} {a = a} {as' = ss} {rs = rs} {d = o} {ts = ts} {us = us} {vs = vs} {ws = ws} t b
      r e) g d rest l h s =
      let up = ht.tall_if (record { line = p.line; test = a; body = ss } ∷ rs) o in let pos = block_pos b in let cl =
      clear_not (first rest) s in
      let l1 = length-append ((ts ++ at c.colon q ∷ us) ++ vs) ws in let l2 =
      length-append (ts ++ at c.colon q ∷ us) vs in let l3 = length-append ts (at c.colon q ∷ us) in
      at_same x _ _ _ rest (st_two g d _ ∙ ap (λ z. statement_at (parts2 g d) g (suc (suc d)) (at c.if_ p ∷ z))
      (append_assoc ((ts ++ at c.colon q ∷ us) ++ vs) ws rest ∙
      append_assoc (ts ++ at c.colon q ∷ us) vs (ws ++ rest) ∙
      append_assoc ts (at c.colon q ∷ us) (vs ++ (ws ++ rest))) ∙
      s_if (parts2 g d) g (suc (suc d)) p (ts ++ (at c.colon q ∷ us ++ (vs ++ (ws ++ rest)))) (omega arith))
      (then_reads x _ (λ a. Ok (a.0 ∷ [], a.1)) (st.If (record { line = p.line; test = a; body = ss } ∷ rs) o) rest _
      rest
      (then_reads x _ (λ a. elifs_at (readers g (suc d)) (Blocked g d) g (a.0 ∷ []) a.1 >>= λ as'.
      (clause_at 9 (Blocked g d) as'.1 >>= λ d. Ok (st.If as'.0 d.0, d.1)))
      (record { line = p.line; test = a; body = ss }) (vs ++ (ws ++ rest)) _ rest
      (arm_ok t g (suc d) p.line (Blocked g d) q (us ++ (vs ++ (ws ++ rest))) (vs ++ (ws ++ rest)) ss (omega arith)
      (omega arith) (complete_block b g d (vs ++ (ws ++ rest)) (omega arith) (omega arith)))
      (then_reads x _ (λ as'. clause_at 9 (Blocked g d) as'.1 >>= λ d. Ok (st.If as'.0 d.0, d.1))
      (record { line = p.line; test = a; body = ss } ∷ rs) (ws ++ rest) _ rest
      (complete_elifs r g d g (record { line = p.line; test = a; body = ss } ∷ []) (ws ++ rest) (omega arith)
      (omega arith) (omega arith) (else_first e 8 refl rest cl.0))
      (then_reads x _ (λ d. Ok (st.If (record { line = p.line; test = a; body = ss } ∷ rs) d.0, d.1)) o rest _ rest
      (complete_else e g d rest (omega arith) (omega arith) cl.1) (inl refl))))
      (inl refl))
  complete_compound (S.while p q {x = x} {a = a} {as' = ss} {d = o} {ts = ts} {us = us} {vs = vs} t b e) g d rest l h
      s =
      let up = ht.tall_while (record { line = p.line; test = a; body = ss }) o in let pos = block_pos b in let cl =
      clear_not (first rest) s in
      let l2 = length-append (ts ++ at c.colon q ∷ us) vs in let l3 = length-append ts (at c.colon q ∷ us) in
      at_same x _ _ _ rest (st_two g d _ ∙ ap (λ z. statement_at (parts2 g d) g (suc (suc d)) (at c.while_ p ∷ z))
      (append_assoc (ts ++ at c.colon q ∷ us) vs rest ∙ append_assoc ts (at c.colon q ∷ us) (vs ++ rest)) ∙
      s_while (parts2 g d) g (suc (suc d)) p (ts ++ (at c.colon q ∷ us ++ (vs ++ rest))) (omega arith))
      (then_reads x _ (λ a. Ok (a.0 ∷ [], a.1)) (st.While (record { line = p.line; test = a; body = ss }) o) rest _ rest
      (then_reads x _ (λ a. clause_at 9 (Blocked g d) a.1 >>= λ d. Ok (st.While a.0 d.0, d.1))
      (record { line = p.line; test = a; body = ss }) (vs ++ rest) _ rest
      (arm_ok t g (suc d) p.line (Blocked g d) q (us ++ (vs ++ rest)) (vs ++ rest) ss (omega arith) (omega arith)
      (complete_block b g d (vs ++ rest) (omega arith) (omega arith)))
      (then_reads x _ (λ d. Ok (st.While (record { line = p.line; test = a; body = ss }) d.0, d.1)) o rest _ rest
      (complete_else e g d rest (omega arith) (omega arith) cl.1) (inl refl)))
      (inl refl))
  complete_compound (S.for' p q i {x = x} {a = a} {b = b'} {as' = ss} {d = o} {ts = ts} {us = us} {vs = vs} {ws = ws} t
      r b e) g d rest l h s =
      let up = ht.tall_for p.line a b' ss o in let pos = block_pos b in let cl = clear_not (first rest) s in
      let l1 = length-append ((ts ++ at c.in_ q ∷ us) ++ at c.colon i ∷ vs) ws in let l2 =
      length-append (ts ++ at c.in_ q ∷ us) (at c.colon i ∷ vs) in let l3 = length-append ts (at c.in_ q ∷ us) in
      at_same x _ _ _ rest (st_two g d _ ∙ ap (λ z. statement_at (parts2 g d) g (suc (suc d)) (at c.for_ p ∷ z))
      (append_assoc ((ts ++ at c.in_ q ∷ us) ++ at c.colon i ∷ vs) ws rest ∙
      append_assoc (ts ++ at c.in_ q ∷ us) (at c.colon i ∷ vs) (ws ++ rest) ∙
      append_assoc ts (at c.in_ q ∷ us) (at c.colon i ∷ vs ++ (ws ++ rest))) ∙
      s_for (parts2 g d) g (suc (suc d)) p (ts ++ (at c.in_ q ∷ us ++ (at c.colon i ∷ vs ++ (ws ++ rest))))
      (omega arith))
      (then_reads x _ single (st.For p.line a b' ss o) rest _ rest
      (then_reads x _ (for_more (readers g (suc d)) (Blocked g d) p.line) (of a)
      (at c.in_ q ∷ us ++ (at c.colon i ∷ vs ++ (ws ++ rest))) _ rest
      (complete_loop t g d q (us ++ (at c.colon i ∷ vs ++ (ws ++ rest))) (omega arith) (omega arith))
      (at_same x _ _ _ rest (s_in (readers g (suc d)) (Blocked g d) p.line (of a) q
      (us ++ (at c.colon i ∷ vs ++ (ws ++ rest))))
      (then_reads x _ (for_body (Blocked g d) p.line (of a)) (of b') (at c.colon i ∷ vs ++ (ws ++ rest)) _ rest
      (complete_exprs r g (suc d) _ (omega arith) (omega arith) refl)
      (at_same x _ _ _ rest (s_for_body (Blocked g d) p.line (of a) (of b') i (vs ++ (ws ++ rest)))
      (then_reads x _ (λ b. clause_at 9 (Blocked g d) b.1 >>= λ d. Ok (st.For p.line a b' b.0 d.0, d.1)) ss
      (ws ++ rest) _ rest (complete_block b g d (ws ++ rest) (omega arith) (omega arith))
      (then_reads x _ (λ d. Ok (st.For p.line a b' ss d.0, d.1)) o rest _ rest
      (complete_else e g d rest (omega arith) (omega arith) cl.1) (inl refl)))))))
      (inl refl))
  complete_compound (S.try p q {x = x} {as' = ss} {hs = hs} {d = o} {f = f} {ts = ts} {us = us} {vs = vs} {ws = ws} b r
      e w) g d rest l h s =
      let up = ht.tall_try (record { line = p.line; body = ss }) hs o f in let pos = block_pos b in let cl =
      clear_not (first rest) s in
      let l1 = length-append ((ts ++ us) ++ vs) ws in let l2 = length-append (ts ++ us) vs in let l3 =
      length-append ts us in
      at_same x _ _ _ rest (st_two g d _ ∙
      ap (λ z. statement_at (parts2 g d) g (suc (suc d)) (at c.try_ p ∷ at c.colon q ∷ z))
      (append_assoc ((ts ++ us) ++ vs) ws rest ∙ append_assoc (ts ++ us) vs (ws ++ rest) ∙
      append_assoc ts us (vs ++ (ws ++ rest))) ∙
      s_try (parts2 g d) g (suc (suc d)) p q (ts ++ (us ++ (vs ++ (ws ++ rest)))) (omega arith))
      (then_reads x _ (λ a. Ok (a.0 ∷ [], a.1)) (st.Try (record { line = p.line; body = ss }) hs o f) rest _ rest
      (then_reads x _ (λ b. try_at (readers g (suc d)) (Blocked g d) g (record { line = p.line; body = b.0 }) b.1) ss
      (us ++ (vs ++ (ws ++ rest))) _ rest (complete_block b g d _ (omega arith) (omega arith))
      (at_same x _ _ _ rest (s_try_excepts (readers g (suc d)) (Blocked g d) g (record { line = p.line; body = ss })
      (us ++ (vs ++ (ws ++ rest))) (excepts_is r _))
      (then_reads x _ (try_tail (Blocked g d) (record { line = p.line; body = ss })) hs (vs ++ (ws ++ rest)) _ rest
      (complete_excepts r g d g [] (vs ++ (ws ++ rest)) (omega arith) (omega arith) (omega arith)
      (else_first e 10 refl _ (finally_first w 10 refl rest cl.2)))
      (then_reads x _ (λ v. clause_at 12 (Blocked g d) v.1 >>= λ f.
      Ok (st.Try (record { line = p.line; body = ss }) hs v.0 f.0, f.1)) o (ws ++ rest) _ rest
      (complete_else e g d (ws ++ rest) (omega arith) (omega arith) (finally_first w 9 refl rest cl.1))
      (then_reads x _ (λ f. Ok (st.Try (record { line = p.line; body = ss }) hs o f.0, f.1)) f rest _ rest
      (complete_finally w g d rest (omega arith) (omega arith) cl.3) (inl refl))))))
      (inl refl))
  complete_compound (S.try_finally p q {x = x} {as' = ss} {f = f} {ts = ts} {us = us} b w) g d rest l h s =
      let up = ht.tall_try (record { line = p.line; body = ss }) [] None (Some f) in let pos = block_pos b in let len =
      length-append ts us in let cl = clear_not (first rest) s in
      at_same x _ _ _ rest (st_two g d _ ∙
      ap (λ z. statement_at (parts2 g d) g (suc (suc d)) (at c.try_ p ∷ at c.colon q ∷ z))
      (append_assoc ts us rest) ∙ s_try (parts2 g d) g (suc (suc d)) p q (ts ++ (us ++ rest)) (omega arith))
      (then_reads x _ (λ a. Ok (a.0 ∷ [], a.1)) (st.Try (record { line = p.line; body = ss }) [] None (Some f)) rest _
      rest
      (then_reads x _ (λ b. try_at (readers g (suc d)) (Blocked g d) g (record { line = p.line; body = b.0 }) b.1) ss
      (us ++ rest) _ rest (complete_block b g d (us ++ rest) (omega arith) (omega arith))
      (at_same x _ _ _ rest (s_try_finally (readers g (suc d)) (Blocked g d) g (record { line = p.line; body = ss })
      (us ++ rest) (finally_is w rest))
      (then_reads x _ (λ f. Ok (st.Try (record { line = p.line; body = ss }) [] None f.0, f.1)) (Some f) rest _ rest
      (complete_finally w g d rest (omega arith) (omega arith) cl.3) (inl refl))))
      (inl refl))
  complete_compound (S.def n p q i i' q' {x = x} {ps = ps} {as' = ss} {us = us} (S.none y) b) g d rest l h s =
      let up = ht.tall_def p.line n [] ss in let pos = block_pos b in
      at_same x _ _ _ rest (st_two g d _ ∙ s_def_none (parts2 g d) g (suc (suc d)) n p q i i' q' (us ++ rest)
      (omega arith))
      (then_reads x _ (λ a. Ok (a.0 ∷ [], a.1)) (st.Def p.line n [] ss) rest _ rest
      (then_reads x _ (λ b. Ok (st.Def p.line n [] b.0, b.1)) ss rest _ rest
      (complete_block b g d rest (omega arith) (omega arith)) (inl refl)) (inl refl))
  complete_compound (S.def n p q i i' q' {x = x} {ps = ps} {as' = ss} {ts = ts} {us = us} (S.some r) b) g d rest l h s =
      let up = ht.tall_def p.line n ps ss in let pos = block_pos b in let len =
      length-append ts (at c.close_round i' ∷ at c.colon q' ∷ us) in
      at_same x _ _ _ rest (st_two g d _ ∙
      ap (λ z. statement_at (parts2 g d) g (suc (suc d)) (at c.def_ p ∷ at (k.Name n) q ∷ at c.open_round i ∷ z))
      (append_assoc ts (at c.close_round i' ∷ at c.colon q' ∷ us) rest) ∙
      s_def (parts2 g d) g (suc (suc d)) n p q i (ts ++ (at c.close_round i' ∷ at c.colon q' ∷ us ++ rest))
      (params_first r _) (omega arith))
      (then_reads x _ (λ a. Ok (a.0 ∷ [], a.1)) (st.Def p.line n ps ss) rest _ rest
      (then_reads x _ (def_end (Blocked g d) p.line n) ps (at c.close_round i' ∷ at c.colon q' ∷ us ++ rest) _ rest
      (complete_params r g (suc d) g [] i' (at c.colon q' ∷ us ++ rest) (omega arith) (omega arith) (omega arith))
      (at_same x _ _ _ rest (s_def_end (Blocked g d) p.line n ps i' q' (us ++ rest))
      (then_reads x _ (λ b. Ok (st.Def p.line n ps b.0, b.1)) ss rest _ rest
      (complete_block b g d rest (omega arith) (omega arith)) (inl refl))))
      (inl refl))
  complete_compound (S.class n p q i {x = x} {a = a} {as' = ss} {ts = ts} {us = us} r b) g d rest l h s =
      let up = ht.tall_class p.line n a ss in let pos = block_pos b in let len = length-append ts (at c.colon i ∷ us) in
      at_same x _ _ _ rest (st_two g d _ ∙
      ap (λ z. statement_at (parts2 g d) g (suc (suc d)) (at c.class_ p ∷ at (k.Name n) q ∷ z))
      (append_assoc ts (at c.colon i ∷ us) rest) ∙
      s_class (parts2 g d) g (suc (suc d)) n p q (ts ++ (at c.colon i ∷ us ++ rest)) (omega arith))
      (then_reads x _ (λ a. Ok (a.0 ∷ [], a.1)) (st.Class p.line n a ss) rest _ rest
      (then_reads x _ (λ a. body_at (Blocked g d) a.1 >>= λ b. Ok (st.Class p.line n (tree_or a.0) b.0, b.1)) (of_or a)
      (at c.colon i ∷ us ++ rest) _ rest (base_ok r g (suc d) i (us ++ rest) (omega arith) (omega arith))
      (at_same x _ _ _ rest (ap (λ z. z >>= λ b. Ok (st.Class p.line n (tree_or (of_or a)) b.0, b.1))
      (s_colon (Blocked g d) i (us ++ rest)))
      (then_reads x _ (λ b. Ok (st.Class p.line n (tree_or (of_or a)) b.0, b.1)) ss rest _ rest
      (complete_block b g d rest (omega arith) (omega arith))
      (inl (ap (λ z. Ok (st.Class p.line n z ss, rest)) (tree_of_or a))))))
      (inl refl))

  complete_finally : {x : Marks} {o : Option Clause} {ts : List Token} → Finally x o ts → (g d : ℕ) (rest : List Token)
      → length ts ≤ g → slack x + tall_clause o ≤ suc d → is_keyword 12 (first rest) ≡ false →
      Reaches x (clause_at 12 (Blocked g d) (ts ++ rest)) o rest
  complete_finally (S.no_finally x) g d rest l h s = inl (s_no_clause 12 (Blocked g d) rest s)
  complete_finally (S.finally p q {x = x} {as' = ss} {ts = ts} b) g d rest l h s =
      at_same x _ _ _ rest (s_clause 12 (Blocked g d) p q (ts ++ rest))
      (then_reads x _ (λ b. Ok (Some (record { line = p.line; body = b.0 }), b.1)) ss rest _ rest
      (complete_block b g d rest (omega arith) (omega arith)) (inl refl))

  complete_excepts : {x : Marks} {hs : List Handler} {ts : List Token} → Excepts x hs ts →
      (g d f : ℕ) (found : List Handler) (rest : List Token) → length ts ≤ g → length ts ≤ f →
      slack x + tall_handlers hs ≤ suc d → is_keyword 10 (first rest) ≡ false →
      Reaches x (handlers_at (readers g (suc d)) (Blocked g d) f found (ts ++ rest)) (found ++ hs) rest
  complete_excepts (S.except_one p q r b) g d zero found rest l m h s = absurd (omega arith)
  complete_excepts (S.except_one p q {x = x} {a = a} {b = b'} {as' = ss} {ts = ts} {us = us} r b) g d (suc f) found
      rest l m h s =
      let len = length-append ts (at c.colon q ∷ us) in
      at_same x _ _ _ rest (ap (λ z. handlers_at (readers g (suc d)) (Blocked g d) (suc f) found (at c.except_ p ∷ z))
      (append_assoc ts (at c.colon q ∷ us) rest) ∙
      s_except (readers g (suc d)) (Blocked g d) f found p (ts ++ (at c.colon q ∷ us ++ rest)))
      (then_reads x _ (handler_more (readers g (suc d)) (Blocked g d) f found)
      (record { line = p.line; test = a; target = b'; body = ss }) rest _ rest
      (handler_ok r g (suc d) p.line (Blocked g d) q (us ++ rest) rest ss (omega arith) (omega arith)
      (complete_block b g d rest (omega arith) (omega arith)))
      (inl (handler_last (readers g (suc d)) (Blocked g d) f found
      (record { line = p.line; test = a; target = b'; body = ss }) rest s)))
  complete_excepts (S.except_more p q r b w) g d zero found rest l m h s = absurd (omega arith)
  complete_excepts (S.except_more p q {x = x} {a = a} {b = b'} {as' = ss} {hs = hs} {ts = ts} {us = us} {vs = vs} r b
      w) g d (suc f) found rest l m h s =
      let len = length-append (ts ++ at c.colon q ∷ us) vs in let len' = length-append ts (at c.colon q ∷ us) in
      at_same x _ _ _ rest (ap (λ z. handlers_at (readers g (suc d)) (Blocked g d) (suc f) found (at c.except_ p ∷ z))
      (append_assoc (ts ++ at c.colon q ∷ us) vs rest ∙ append_assoc ts (at c.colon q ∷ us) (vs ++ rest)) ∙
      s_except (readers g (suc d)) (Blocked g d) f found p (ts ++ (at c.colon q ∷ us ++ (vs ++ rest))))
      (then_reads x _ (handler_more (readers g (suc d)) (Blocked g d) f found)
      (record { line = p.line; test = Some a; target = b'; body = ss }) (vs ++ rest) _ rest
      (handler_ok r g (suc d) p.line (Blocked g d) q (us ++ (vs ++ rest)) (vs ++ rest) ss (omega arith) (omega arith)
      (complete_block b g d (vs ++ rest) (omega arith) (omega arith)))
      (as_value x _ _ _ rest (append_assoc found (record { line = p.line; test = Some a; target = b'; body = ss } ∷ [])
      hs) (complete_excepts w g d f (found ++ record { line = p.line; test = Some a; target = b'; body = ss } ∷ [])
      rest (omega arith) (omega arith) (omega arith) s)))
