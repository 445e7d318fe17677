-- What reading statements and blocks tells.
use Rattle.std.proofs.Common.{◌≡◌, ℕ, suc, ◌+◌, ◌≤◌, max, ◌==◌, Bool, true, false, ◌||◌, List, [], ◌∷◌, ◌++◌, length, Ok, Option, Some, None, sym, ap, ◌∙◌, subst, append_assoc, arith, length-append}
use Rattle.py_tokens.specs.declared.token.Token.{Token}
use Rattle.py_tokens.specs.declared.token.TokenKind.TheVariants as k
use Rattle.py_tokens.specs.declared.token.Place.{Place}
use Rattle.py_tokens.specs.Place.{token_at as at}
use Rattle.py_tree.specs.declared.expr.Expr.{Expr}
use Rattle.py_tree.specs.declared.expr.Expr.TheVariants as ex
use Rattle.py_tree.specs.Height.{height}
use Rattle.py_tree.proofs.Heights as hh
use Rattle.py_base.specs.declared.refusal.Construct.TheVariants as left
use Rattle.py_grammar.specs.Codes as c
use Rattle.py_grammar.specs.Grammar.{Marks, Is}
use Rattle.py_grammar.specs.inner.Aiming.{Readers}
use Rattle.py_grammar.specs.inner.Reading.{◌>>=◌, first, keyword_at}
use Rattle.py_grammar.proofs.Facts.{no}
use Rattle.py_grammar.proofs.Told.{Mode, low, marked, Fits, Opens, more, Told, told_take, told_bind, told_map, told_case, on, here, move, there}
use Rattle.py_grammar.proofs.Tells.{told_need_word, p0, word, free, length_after}
use Rattle.py_grammar.proofs.Simples.{Lowers}
use Rattle.py_grammar.specs.Statements as S
use Rattle.py_grammar.specs.Statements.{slices, Target, Targets, Loops, Equals}
use Rattle.py_grammar.specs.inner.Lines.{loop_at}
use Rattle.py_grammar.proofs.Targets.{TellExprs, told_exprs, exprs_word, word_target}
use Rattle.py_grammar.specs.Statements.{Names, Renamed, Imports, Simple}
use Rattle.py_tree.specs.declared.stmt.Stmt.{Stmt}
use Rattle.py_tree.specs.declared.stmt.Stmt.TheVariants as st
use Rattle.py_tree.specs.Tall.{tall}
use Rattle.py_tree.proofs.Talls as ht
use Rattle.py_grammar.proofs.Simples.{Targeting}
use Rattle.py_grammar.specs.Statements.{Line, Parameter, Later, Parameters, Params, Base, Caught, Statement, Suite as Suites, Block, Elifs, Else, Finally, Excepts, Compound}
use Rattle.py_grammar.specs.inner.Lines.{Suite, body_at, arm_at, elifs_at, clause_at, try_at, Parts, compound_at, is_compound}
use Rattle.py_tree.specs.declared.stmt.Arm.{Arm}
use Rattle.py_tree.specs.declared.stmt.Clause.{Clause}
use Rattle.py_tree.specs.Tall.{tall_block, tall_clause}
use Rattle.py_grammar.proofs.Bodies.{TellBlock, body0, pass0, block0, tall0, told_body, tell_arm, tell_elifs, tell_clause, tell_try}
use Rattle.py_grammar.proofs.Compounds.{tell_loop, tell_def, tell_class}

class_left : (a b d e f h : Bool) → a ≡ false → b ≡ false → d ≡ false → e ≡ false → f ≡ false →
    (a || (b || (d || (e || (f || h))))) ≡ true → h ≡ true
class_left true b d e f h p q r s t c' = no p
class_left false true d e f h p q r s t c' = no q
class_left false false true e f h p q r s t c' = no r
class_left false false false true f h p q r s t c' = no s
class_left false false false false true h p q r s t c' = no t
class_left false false false false false h p q r s t c' = c'

then_if : {x : Marks} (w y g d : ℕ) (p : Place) (v : Arm) (fs : List Token) (q : Place) (ts us : List Token) →
    fs ≡ ts ++ at c.colon q ∷ us → Is x 14 v.test ts → Block x v.body us →
    v ≡ record { line = p.line; test = v.test; body = v.body } →
    {rs : List Arm} {o : Option Clause} {vs ws : List Token} → Elifs x rs vs → Else x o ws →
    Compound x (st.If (v ∷ rs) o) (at c.if_ p ∷ ((fs ++ vs) ++ ws))
then_if {x = x} w y g d p v fs q ts us e is bs ve {rs = rs} {o = o} {vs = vs} {ws = ws} r t =
    subst (λ z. Compound x (st.If (z ∷ rs) o) (at c.if_ p ∷ ((fs ++ vs) ++ ws))) (sym ve)
    (subst (λ z. Compound x (st.If (record { line = p.line; test = v.test; body = v.body } ∷ rs) o)
    (at c.if_ p ∷ ((z ++ vs) ++ ws))) (sym e) (S.if' p q is bs r t))

then_while : {x : Marks} (p : Place) (v : Arm) (fs : List Token) (q : Place) (ts us : List Token) →
    fs ≡ ts ++ at c.colon q ∷ us → Is x 14 v.test ts → Block x v.body us →
    v ≡ record { line = p.line; test = v.test; body = v.body } → {o : Option Clause} {ws : List Token} → Else x o ws →
    Compound x (st.While v o) (at c.while_ p ∷ (fs ++ ws))
then_while {x = x} p v fs q ts us e is bs ve {o = o} {ws = ws} t =
    subst (λ z. Compound x (st.While z o) (at c.while_ p ∷ (fs ++ ws))) (sym ve)
    (subst (λ z. Compound x (st.While (record { line = p.line; test = v.test; body = v.body }) o)
    (at c.while_ p ∷ (z ++ ws))) (sym e) (S.while p q is bs t))

module _ (w y g d0 : ℕ) (under' under lower' lower : Readers) (below : Lowers y g (suc d0) under' under)
    (exprs : TellExprs y g (suc d0) (under'.read 15) (under.read 15)) (targets : Targeting y g (suc d0) under' under)
    (lowers : Targeting y g d0 lower' lower) (block' block : Suite) (tell : TellBlock y g (suc d0) block' block)
    (z2 : 2 ≤ suc d0) where
  abbrev CHole : List Token → Type 0
  CHole pre = (m : Mode) (a : Stmt) (us : List Token) → Compound m.marks a us → Fits m (tall a) (suc (suc d0)) →
      Opens m (pre ++ us)

  abbrev CRead : Stmt → List Token → Type 0
  CRead v fs = ((x : Marks) → Compound x v fs) × (tall v ≤ suc (suc d0))

  else_of : (x : Marks) (p q : Place) (ss : List Stmt) (us : List Token) → Block x ss us →
      Else x (Some (record { line = p.line; body = ss })) (at (k.Keyword 9) p ∷ at c.colon q ∷ us)
  else_of x p q ss us b = S.else' p q b

  tell_if : (p : Place) (pre ts : List Token) → length ts ≤ g → CHole pre →
      Told y (pre ++ at c.if_ p ∷ []) ts (λ us. arm_at under' block' p.line us >>= λ a.
      (elifs_at under' block' (more w g) (a.0 ∷ []) a.1 >>= λ as'.
      (clause_at 9 block' as'.1 >>= λ o. Ok (st.If as'.0 o.0, o.1)))) (λ v us. CRead v (at c.if_ p ∷ us))
      (arm_at under block p.line ts >>= λ a.
      (elifs_at under block g (a.0 ∷ []) a.1 >>= λ as'. (clause_at 9 block as'.1 >>= λ o. Ok (st.If as'.0 o.0, o.1))))
  tell_if p pre ts l hole =
      told_bind _ _ _ (tell_arm w y g (suc d0) under' under below targets block' block tell z2 p.line
      (pre ++ at c.if_ p ∷ []) ts l
      (λ m a ss q ts2 us r b h. let v : Arm = record { line = p.line; test = a; body = ss } in
      on [] (simp append_assoc) (hole m (st.If (v ∷ []) None) _
      (S.if' p q r b (S.no_elif m.marks) (S.no_else m.marks)) (λ z. omega (arith, h z, ht.tall_if (v ∷ []) None)))))
      (λ v fs rest q r. told_bind _ _ _ (tell_elifs w y g (suc d0) under' under below targets block' block tell z2 g
      (v ∷ []) ((pre ++ at c.if_ p ∷ []) ++ fs) rest (omega (arith, l, length_after ts fs rest q)) (omega arith)
      (λ m rs us s j. on [] (simp append_assoc)
      (hole m (st.If (v ∷ rs) None) _
      (then_if w y g d0 p v fs r.0 r.1 r.2 r.3 (r.4 m.marks) (r.5 m.marks) r.6 s (S.no_else m.marks))
      (λ z. omega (arith, r.7, j z, ht.tall_if (v ∷ rs) None)))))
      (λ as' gs rest2 q2 s. subst (λ z. Told y (((pre ++ at c.if_ p ∷ []) ++ fs) ++ gs) rest2
      (λ us. clause_at 9 block' us >>= λ o. Ok (st.If z o.0, o.1))
      (λ v2 us. CRead v2 (at c.if_ p ∷ (fs ++ (gs ++ us))))
      (clause_at 9 block rest2 >>= λ o. Ok (st.If z o.0, o.1))) (sym s.1)
      (told_map (λ o. st.If (v ∷ s.0) o)
      (tell_clause w y g (suc d0) under' under below targets block' block tell z2 9 Else S.no_else else_of
      (((pre ++ at c.if_ p ∷ []) ++ fs) ++ gs) rest2
      (omega (arith, l, length_after ts fs rest q, length_after rest gs rest2 q2))
      (λ m o us t j. here (simp append_assoc)
      (hole m (st.If (v ∷ s.0) o) _ (then_if w y g d0 p v fs r.0 r.1 r.2 r.3 (r.4 m.marks) (r.5 m.marks) r.6
      (s.2 m.marks) t) (λ z. omega (arith, r.7, s.3, j z, ht.tall_if (v ∷ s.0) o)))))
      (λ o us t. (
        (λ x. move (Compound x (st.If (v ∷ s.0) o)) (simp append_assoc)
            (then_if w y g d0 p v fs r.0 r.1 r.2 r.3 (r.4 x) (r.5 x) r.6 (s.2 x) (t.0 x))),
        omega (arith, r.7, s.3, t.1, ht.tall_if (v ∷ s.0) o),
      )))))

  tell_while : (p : Place) (pre ts : List Token) → length ts ≤ g → CHole pre →
      Told y (pre ++ at c.while_ p ∷ []) ts (λ us. arm_at under' block' p.line us >>= λ a.
      (clause_at 9 block' a.1 >>= λ o. Ok (st.While a.0 o.0, o.1))) (λ v us. CRead v (at c.while_ p ∷ us))
      (arm_at under block p.line ts >>= λ a. (clause_at 9 block a.1 >>= λ o. Ok (st.While a.0 o.0, o.1)))
  tell_while p pre ts l hole =
      told_bind _ _ _ (tell_arm w y g (suc d0) under' under below targets block' block tell z2 p.line
      (pre ++ at c.while_ p ∷ []) ts l
      (λ m a ss q ts2 us r b h. let v : Arm = record { line = p.line; test = a; body = ss } in
      on [] (simp append_assoc) (hole m (st.While v None) _ (S.while p q r b (S.no_else m.marks))
      (λ z. omega (arith, h z, ht.tall_while v None)))))
      (λ v fs rest q r. told_map (λ o. st.While v o)
      (tell_clause w y g (suc d0) under' under below targets block' block tell z2 9 Else S.no_else else_of
      ((pre ++ at c.while_ p ∷ []) ++ fs) rest (omega (arith, l, length_after ts fs rest q))
      (λ m o us t j. here (simp append_assoc)
      (hole m (st.While v o) _ (then_while p v fs r.0 r.1 r.2 r.3 (r.4 m.marks) (r.5 m.marks) r.6 t)
      (λ z. omega (arith, r.7, j z, ht.tall_while v o)))))
      (λ o us t. (
        (λ x. then_while p v fs r.0 r.1 r.2 r.3 (r.4 x) (r.5 x) r.6 (t.0 x)),
        omega (arith, r.7, t.1, ht.tall_while v o),
      )))

  tell_for : (p : Place) (pre ts : List Token) → length ts ≤ g → CHole pre →
      Told y (pre ++ at c.for_ p ∷ []) ts (λ us. loop_at under' lower' (more y (suc d0)) (more w g) us >>= λ t.
      (keyword_at 18 t.1 >>= λ word'. (under'.read 15 word'.1 >>= λ a.
      (body_at block' a.1 >>= λ b. (clause_at 9 block' b.1 >>= λ o.
      Ok (st.For p.line t.0.tree a.0.tree b.0 o.0, o.1)))))) (λ v us. CRead v (at c.for_ p ∷ us))
      (loop_at under lower (suc d0) g ts >>= λ t.
      (keyword_at 18 t.1 >>= λ word'. (under.read 15 word'.1 >>= λ a.
      (body_at block a.1 >>= λ b. (clause_at 9 block b.1 >>= λ o. Ok (st.For p.line t.0.tree a.0.tree b.0 o.0, o.1))))))
  tell_for p pre ts l hole =
      let nm : Expr = ex.Name [] in
      let fit : (t a : Expr) (ss : List Stmt) (o : Option Clause) →
      tall (st.For p.line t a ss o) ≡ max (max (height t) (height a)) (max (tall_block ss) (tall_clause o)) + 1 =
      λ t a ss o. ht.tall_for p.line t a ss o in
      told_bind _ _ _ (tell_loop w y g d0 under' under lower' lower targets lowers (pre ++ at c.for_ p ∷ []) ts l
      (on (word ++ at c.in_ p0 ∷ word ++ at c.colon p0 ∷ body0) (simp append_assoc)
      (hole low (st.For p.line nm nm pass0 None) _
      (S.for' p p0 p0 (S.Loops.single (word_target None)) (exprs_word None) (block0 None) (S.no_else None))
      (λ b. omega (arith, z2, tall0, hh.height_name [], fit nm nm pass0 None))))
      (λ m t us r h. on (at c.in_ p0 ∷ word ++ at c.colon p0 ∷ body0) (simp append_assoc)
      (hole m (st.For p.line t nm pass0 None) _
      (S.for' p p0 p0 r (exprs_word m.marks) (block0 m.marks) (S.no_else m.marks))
      (λ b. omega (arith, z2, h b, tall0, hh.height_name [], fit t nm pass0 None))))
      (λ t us p2 r. on (word ++ at c.colon p0 ∷ body0) (simp append_assoc)
      (hole (marked left.SliceForm) (st.For p.line t nm pass0 None) _
      (S.for' p p2 p0 r (exprs_word (Some left.SliceForm)) (block0 (Some left.SliceForm))
      (S.no_else (Some left.SliceForm))) free)))
      (λ v fs rest q r. subst (λ z. Told y ((pre ++ at c.for_ p ∷ []) ++ fs) rest (λ us. keyword_at 18 us >>= λ word'.
      (under'.read 15 word'.1 >>= λ a.
      (body_at block' a.1 >>= λ b. (clause_at 9 block' b.1 >>= λ o.
      Ok (st.For p.line z.tree a.0.tree b.0 o.0, o.1))))) (λ v2 us. CRead v2 (at c.for_ p ∷ (fs ++ us)))
      (keyword_at 18 rest >>= λ word'.
      (under.read 15 word'.1 >>= λ a.
      (body_at block a.1 >>= λ b. (clause_at 9 block b.1 >>= λ o.
      Ok (st.For p.line z.tree a.0.tree b.0 o.0, o.1)))))) (sym r.1)
      (told_need_word 18 _ _ (on (at c.in_ p0 ∷ word ++ at c.colon p0 ∷ body0) (simp append_assoc)
      (hole low (st.For p.line r.0 nm pass0 None) _
      (S.for' p p0 p0 (r.2 None) (exprs_word None) (block0 None) (S.no_else None))
      (λ b. omega (arith, z2, r.3, tall0, hh.height_name [], fit r.0 nm pass0 None))))
      (λ p2 us2 q2. told_exprs (suc d0) _ _
      (exprs (((pre ++ at c.for_ p ∷ []) ++ fs) ++ at c.in_ p2 ∷ []) us2
      (omega (arith, l, length_after ts fs rest q, ap length q2))
      (on (word ++ at c.colon p0 ∷ body0) (simp append_assoc)
      (hole low (st.For p.line r.0 nm pass0 None) _
      (S.for' p p2 p0 (r.2 None) (exprs_word None) (block0 None) (S.no_else None))
      (λ b. omega (arith, z2, r.3, tall0, hh.height_name [], fit r.0 nm pass0 None))))
      (λ m a vs s j. on (at c.colon p0 ∷ body0) (simp append_assoc)
      (hole m (st.For p.line r.0 a pass0 None) _
      (S.for' p p2 p0 (r.2 m.marks) s (block0 m.marks) (S.no_else m.marks))
      (λ b. omega (arith, z2, r.3, j b, tall0, fit r.0 a pass0 None)))))
      (λ a gs rest3 q3 is h. told_body g (suc d0) block' block _ _ tell
      (omega (arith, l, length_after ts fs rest q, ap length q2, length_after us2 gs rest3 q3)) z2
      (λ m p3 ss vs s j. on [] (simp append_assoc)
      (hole m (st.For p.line r.0 a ss None) _ (S.for' p p2 p3 (r.2 m.marks) (is m.marks) s (S.no_else m.marks))
      (λ b. omega (arith, r.3, h, j b, fit r.0 a ss None))))
      (λ p3 ss ks rest4 q4 bs h2. told_map (λ o. st.For p.line r.0 a ss o)
      (tell_clause w y g (suc d0) under' under below targets block' block tell z2 9 Else S.no_else else_of
      ((((((pre ++ at c.for_ p ∷ []) ++ fs) ++ at c.in_ p2 ∷ []) ++ gs) ++ at c.colon p3 ∷ ks)) rest4
      (omega (
        arith,
        l,
        length_after ts fs rest q,
        ap length q2,
        length_after us2 gs rest3 q3,
        ap length q4,
        length-append ks rest4,
      ))
      (λ m o us t j. here (simp append_assoc)
      (hole m (st.For p.line r.0 a ss o) _ (S.for' p p2 p3 (r.2 m.marks) (is m.marks) (bs m.marks) t)
      (λ z. omega (arith, r.3, h, h2, j z, fit r.0 a ss o)))))
      (λ o us t. (
        (λ x. move (Compound x (st.For p.line r.0 a ss o)) (simp append_assoc)
            (S.for' p p2 p3 (r.2 x) (is x) (bs x) (t.0 x))),
        omega (arith, r.3, h, h2, t.1, fit r.0 a ss o),
      )))))))

  abbrev parts' : Parts
  parts' = record { under = under'; lower = lower'; budget = more y (suc d0); block = block' }

  abbrev parts : Parts
  parts = record { under = under; lower = lower; budget = suc d0; block = block }

  tell_try_statement : (p : Place) (pre ts : List Token) → length ts ≤ g → CHole pre →
      Told y (pre ++ at c.try_ p ∷ []) ts
      (λ us. body_at block' us >>= λ b. try_at under' block' (more w g) (record { line = p.line; body = b.0 }) b.1)
      (λ v us. CRead v (at c.try_ p ∷ us))
      (body_at block ts >>= λ b. try_at under block g (record { line = p.line; body = b.0 }) b.1)
  tell_try_statement p pre ts l hole =
      let f0 : Clause = record { line = 0; body = pass0 } in
      told_body g (suc d0) block' block _ _ tell l z2
      (λ m p2 ss us r j. on (at c.finally_ p0 ∷ at c.colon p0 ∷ body0) (simp append_assoc)
      (hole m (st.Try (record { line = p.line; body = ss }) [] None (Some f0)) _
      (S.try_finally p p2 r (S.finally p0 p0 (block0 m.marks)))
      (λ z. omega (arith, z2, j z, tall0, ht.tall_try (record { line = p.line; body = ss }) [] None (Some f0)))))
      (λ p2 ss fs rest q bs h. tell_try w y g (suc d0) under' under below targets block' block tell z2 p p2 ss fs bs h
      pre rest (omega (arith, l, ap length q, length-append fs rest)) hole)

  pub tell_compound : (n : ℕ) → is_compound n ≡ true → (pre ts : List Token) → first ts ≡ k.Keyword n → length ts ≤ g →
      CHole pre → Told y pre ts (compound_at parts' (more w g) n) CRead (compound_at parts g n ts)
  tell_compound n ic pre ts f l hole =
      told_case n 16 f (λ p us e. rw e (told_take (tell_if p pre us (omega (arith, l, ap length e)) hole)))
      (λ e1. told_case n 28 f (λ p us e. rw e (told_take (tell_while p pre us (omega (arith, l, ap length e)) hole)))
      (λ e2. told_case n 13 f (λ p us e. rw e (told_take (tell_for p pre us (omega (arith, l, ap length e)) hole)))
      (λ e3. told_case n 27 f (λ p us e.
      rw e (told_take (tell_try_statement p pre us (omega (arith, l, ap length e)) hole)))
      (λ e4. told_case n 6 f (λ p us e. rw e
      (told_take (tell_def w y g (suc d0) under' under below block' block tell z2 p pre us
      (omega (arith, l, ap length e)) hole)))
      (λ e5. let h = there ts (k.Keyword 4) (f ∙ ap (λ z. k.Keyword z) (only_class e1 e2 e3 e4 e5)) (λ z. cc) in
      rw h.2 (told_take (tell_class w y g (suc d0) under' under below block' block tell z2 h.0 pre h.1
      (omega (arith, l, ap length h.2)) hole)))))))
    where
      only_class : (n == 16) ≡ false → (n == 28) ≡ false → (n == 13) ≡ false → (n == 27) ≡ false → (n == 6) ≡ false →
          n ≡ 4
      only_class e1 e2 e3 e4 e5 = let c' : (n == 4) ≡ true =
          class_left (n == 16) (n == 28) (n == 13) (n == 27) (n == 6) (n == 4) e1 e2 e3 e4 e5 ic in grind (arith, c')
