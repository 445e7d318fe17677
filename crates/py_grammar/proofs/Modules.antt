-- What reading blocks and modules tells.
use Rattle.std.proofs.Common.{◌≡◌, ℕ, zero, suc, ◌<◌, ◌≤◌, ◌==◌, true, List, [], ◌∷◌, ◌++◌, length, None, inl, inr, refl, sym, ap, ◌∙◌, subst, append_assoc, arith, length-append}
use Rattle.py_tokens.specs.declared.token.Token.{Token}
use Rattle.py_tokens.specs.declared.token.TokenKind.{TokenKind}
use Rattle.py_tokens.specs.declared.token.TokenKind.TheVariants as k
use Rattle.py_tokens.specs.declared.token.Place.{Place}
use Rattle.py_tokens.specs.Place.{token_at as at}
use Rattle.py_base.specs.declared.refusal.Construct.TheVariants as left
use Rattle.py_grammar.specs.Codes as c
use Rattle.py_grammar.specs.Grammar.{Marks}
use Rattle.py_grammar.specs.inner.Aiming.{readers}
use Rattle.py_grammar.specs.inner.Reading.{first}
use Rattle.py_grammar.proofs.Facts.{no}
use Rattle.py_grammar.proofs.Told.{Mode, any, low, marked, Fits, Opens, more, Told, told_done, told_left, told_deep, told_post, told_take, told_word, told_bind, told_map, told_case, told_when, told_kind, on, here}
use Rattle.py_grammar.proofs.Tells.{p0, word, is_word, free}
use Rattle.py_grammar.proofs.Atoms.{either}
use Rattle.py_grammar.specs.Statements as S
use Rattle.py_grammar.specs.Statements.{slices, Target, Targets, Loops, Equals}
use Rattle.py_grammar.specs.inner.Lines.{is_newline}
use Rattle.py_grammar.proofs.Targets.{exprs_word, word_target}
use Rattle.py_grammar.specs.Statements.{Names, Renamed, Imports, Simple}
use Rattle.py_tree.specs.declared.stmt.Stmt.{Stmt}
use Rattle.py_tree.specs.declared.stmt.Stmt.TheVariants as st
use Rattle.py_tree.specs.Tall.{tall, talls}
use Rattle.py_grammar.proofs.Simples.{Lowers, Targeting}
use Rattle.py_grammar.specs.Statements.{Line, Parameter, Later, Parameters, Params, Base, Caught, Statement, Suite as Suites, Block, Elifs, Else, Finally, Excepts, Compound}
use Rattle.py_grammar.specs.inner.Lines.{is_indent, is_dedent, line_at, Suite, Parts, compound_at, is_compound, statement_by, statement_at, suite_at, block_at}
use Rattle.py_grammar.proofs.BlockSteps.{talls_append}
use Rattle.py_grammar.proofs.LineTells.{only_newline, only_indent, told_plain}
use Rattle.py_grammar.proofs.Bodies.{TellBlock, body0, pass0, block0, tall0}
use Rattle.py_grammar.proofs.LineTells.{tell_line}
use Rattle.py_grammar.proofs.Targets.{tell_exprs}
use Rattle.py_grammar.proofs.Levels.{unders}
use Rattle.py_grammar.proofs.BlockSteps.{statement_long}
use Rattle.py_grammar.proofs.LineTells.{told_plain, only_newline, only_indent}
use Rattle.py_grammar.specs.Statements.{Body}

only_dedent : (x : TokenKind) → is_dedent x ≡ true → x ≡ k.Dedent
only_dedent k.Dedent e = refl
only_dedent x e = no (sym e)

abbrev pub StatementHole : ℕ → List Token → Type 0
StatementHole d pre = (m : Mode) (ss : List Stmt) (us : List Token) → Statement m.marks ss us → Fits m (talls ss) d →
    Opens m (pre ++ us)

abbrev pub ReadStatement : ℕ → List Stmt → List Token → Type 0
ReadStatement d v fs = ((x : Marks) → Statement x v fs) × (talls v ≤ d)

abbrev pub TellStatement : ℕ → ℕ → ℕ → Suite → Suite → Type 0
TellStatement y g d statement' statement = (pre ts : List Token) → length ts ≤ g → Opens low pre → StatementHole d pre
    → Told y pre ts statement' (ReadStatement d) (statement ts)

pub lowers : (w y g d : ℕ) → Lowers y g d (readers (more w g) (more y d)) (readers g d)
lowers w y g d = record { read = (unders w y g d).read }

-- ---- a statement

compound_start : (n : ℕ) → is_compound n ≡ true → (p : Place) →
    (us : List Token) × (a : Stmt) × Compound None a (at (k.Keyword n) p ∷ us)
compound_start n e p = elim (either (n == 16) _ e) [
  | inl q ↦ at_number 16 q (
    word ++ at c.colon p0 ∷ body0,
    _,
    S.if' p p0 (is_word 14 None (omega arith)) (block0 None)
        (S.no_elif None) (S.no_else None),
  )
  | inr e2 ↦ elim (either (n == 28) _ e2) [
    | inl q ↦ at_number 28 q (
      word ++ at c.colon p0 ∷ body0,
      _,
      S.while p p0 (is_word 14 None (omega arith)) (block0 None) (S.no_else None),
    )
    | inr e3 ↦ elim (either (n == 13) _ e3) [
      | inl q ↦ at_number 13 q (
        word ++ at c.in_ p0 ∷ word ++ at c.colon p0 ∷ body0,
        _,
        S.for' p p0 p0 (S.Loops.single (word_target None)) (exprs_word None) (block0 None) (S.no_else None),
      )
      | inr e4 ↦ elim (either (n == 27) _ e4) [
        | inl q ↦ at_number 27 q (
          at c.colon p0 ∷ body0 ++ at c.finally_ p0 ∷ at c.colon p0 ∷ body0,
          _,
          S.try_finally p p0 (block0 None) (S.finally p0 p0 (block0 None)),
        )
        | inr e5 ↦ elim (either (n == 6) _ e5) [
          | inl q ↦ at_number 6 q (
            at (k.Name []) p0 ∷ at c.open_round p0 ∷ at c.close_round p0 ∷ at c.colon p0 ∷
                body0,
            _,
            S.def [] p p0 p0 p0 p0 (S.Params.none None) (block0 None),
          )
          | inr q ↦ at_number 4 q (
            at (k.Name []) p0 ∷ at c.colon p0 ∷ body0,
            _,
            S.class [] p p0 p0 (S.Base.none None) (block0 None),
          )
        ]
      ]
    ]
  ]
]
  where
    at_number : (m : ℕ) → (n == m) ≡ true →
        ((us : List Token) × (a : Stmt) × Compound None a (at (k.Keyword m) p ∷ us)) →
        (us : List Token) × (a : Stmt) × Compound None a (at (k.Keyword n) p ∷ us)
    at_number m q h = let i : m ≡ n = grind (arith, q) in
        subst (λ z. (us : List Token) × (a : Stmt) × Compound None a (at (k.Keyword z) p ∷ us)) i h

module _ (w y g d : ℕ) (P' P : Parts) (e' : P'.under ≡ readers (more w g) (more y d)) (e : P.under ≡ readers g d)
    (targets : Targeting y g d (readers (more w g) (more y d)) (readers g d))
    (compound : (3 ≤ suc d) → (n : ℕ) → is_compound n ≡ true → (pre ts : List Token) → first ts ≡ k.Keyword n →
    length ts ≤ g → ((m : Mode) (a : Stmt) (us : List Token) → Compound m.marks a us → Fits m (tall a) (suc d) →
    Opens m (pre ++ us)) → Told y pre ts (compound_at P' (more w g) n)
    (λ v fs. ((x : Marks) → Compound x v fs) × (tall v ≤ suc d)) (compound_at P g n ts)) where
  tell_lined : (pre ts : List Token) → length ts ≤ g → Opens low pre → StatementHole (suc d) pre →
      Told y pre ts (line_at P'.under (more w g) (more y (suc d))) (ReadStatement (suc d))
      (line_at P.under g (suc d) ts)
  tell_lined pre ts l o hole = subst (λ z. Told y pre ts (line_at z (more w g) (more y (suc d)))
      (ReadStatement (suc d)) (line_at P.under g (suc d) ts)) (sym e')
      (subst (λ z. Told y pre ts (line_at (readers (more w g) (more y d)) (more w g) (more y (suc d)))
      (ReadStatement (suc d)) (line_at z g (suc d) ts)) (sym e)
      (told_post (λ v fs r. ((λ x. S.line (r.0 x)), r.1))
      (tell_line w y g d (readers (more w g) (more y d)) (readers g d) (lowers w y g d) (tell_exprs w y g d)
      targets pre ts l o (λ m ss us r h. hole m ss us (S.line r) h))))

  pub tell_statement_at : TellStatement y g (suc d) (statement_at P' (more w g) (more y (suc d)))
      (statement_at P g (suc d))
  unfolding statement_at
  tell_statement_at pre ts l o hole = told_kind (λ κ us. statement_by P' (more w g) (more y (suc d)) κ us)
      (go (first ts) refl)
    where
      go : (κ : TokenKind) → first ts ≡ κ → Told y pre ts (statement_by P' (more w g) (more y (suc d)) κ)
          (ReadStatement (suc d)) (statement_by P g (suc d) κ ts)
      go (k.Keyword n) f = told_case n 29 f
          (λ p us q. told_left c.with_ (ap first q) o
          (λ i. hole (marked left.With) (st.Pass i.line ∷ []) _ (S.with' i) free))
          (λ e1. told_when (is_compound n)
          (λ ic. told_deep (suc d) 3 (k.Keyword n) f o (λ p. let s = compound_start n ic p in
          on s.0 (simp append_assoc) (hole any (s.1 ∷ []) _ (S.compound s.2) free))
          (λ deep. told_map (λ a. a ∷ [])
          (compound deep n ic pre ts f l
          (λ m a us r h. hole m (a ∷ []) us (S.compound r) (λ b. omega (arith, h b))))
          (λ v fs r. ((λ x. S.compound (r.0 x)), omega (arith, r.1)))))
          (λ nc. tell_lined pre ts l o hole))
      go (k.Op n) f = told_when (n == 43)
          (λ q. told_left c.at_sign (f ∙ ap (λ z. k.Op z) (grind (arith, q))) o
          (λ i. hole (marked left.Decorator) (st.Pass i.line ∷ []) _ (S.decorated i) free))
          (λ q. tell_lined pre ts l o hole)
      go (k.Name n) f = tell_lined pre ts l o hole
      go (k.Int n) f = tell_lined pre ts l o hole
      go (k.Str n) f = tell_lined pre ts l o hole
      go k.Newline f = tell_lined pre ts l o hole
      go k.Indent f = tell_lined pre ts l o hole
      go k.Dedent f = tell_lined pre ts l o hole
      go k.End f = tell_lined pre ts l o hole
      go (k.Other x) f = tell_lined pre ts l o hole

-- ---- blocks

module _ (w y g d : ℕ) (statement' statement line' line : Suite) (tell : TellStatement y g d statement' statement)
    (tell_the_line : (pre ts : List Token) → length ts ≤ g → Opens low pre →
    ((m : Mode) (ss : List Stmt) (us : List Token) → Line m.marks ss us → Fits m (talls ss) d →
    Opens m (pre ++ us)) → Told y pre ts line' (λ v fs. ((x : Marks) → Line x v fs) × (talls v ≤ d)) (line ts))
    (z1 : 0 < d) where
  abbrev SuiteHole : List Token → Type 0
  SuiteHole pre = (m : Mode) (ss : List Stmt) (us : List Token) (r : Place) → Suites m.marks ss us →
      Fits m (talls ss) d → Opens m (pre ++ (us ++ at k.Dedent r ∷ []))

  tell_suite : (f : ℕ) (found : List Stmt) (pre ts : List Token) → length ts < f → f ≤ g → Opens low pre →
      SuiteHole pre →
      Told y pre ts (suite_at statement' (more w f) found)
      (λ v fs. (ss : List Stmt) × (us : List Token) × (r : Place) × (v ≡ found ++ ss) ×
      (fs ≡ us ++ at k.Dedent r ∷ []) × ((x : Marks) → Suites x ss us) × (talls ss ≤ d))
      (suite_at statement f found ts)
  unfolding suite_at
  tell_suite zero found pre ts l i o hole = absurd (omega (arith, l))
  tell_suite (suc f) found pre ts l i o hole =
      told_bind _ _ _ (tell pre ts (omega (arith, l, i)) o
      (λ m ss us r h. on (at k.Dedent p0 ∷ []) (simp append_assoc) (hole m ss us p0 (S.last_of r) h)))
      (λ ss fs rest q r. told_word is_dedent k.Dedent only_dedent refl
      (λ p us q2. rw q2 (told_take (told_done (ss, fs, p, refl, refl, (λ x. S.last_of (r.0 x)), r.1))))
      (λ e. told_post (λ v vs s. (
        ss ++ s.0,
        fs ++ s.1,
        s.2,
        s.3 ∙ append_assoc found ss s.0,
        ap (λ z. fs ++ z) s.4 ∙
            sym (append_assoc fs s.1 (at k.Dedent s.2 ∷ [])),
        (λ x. S.then (r.0 x) (s.5 x)),
        omega (arith, r.1, s.6, talls_append ss s.0),
      ))
      (tell_suite f (found ++ ss) (pre ++ fs) rest
      (omega (arith, l, ap length q, length-append fs rest, statement_long (r.0 None))) (omega (arith, i))
      (on (at k.Dedent p0 ∷ []) (simp append_assoc) (hole low ss fs p0 (S.last_of (r.0 None)) (λ b. r.1)))
      (λ m us2 vs p s j. here (simp append_assoc)
      (hole m (ss ++ us2) _ p (S.then (r.0 m.marks) s) (λ b. omega (arith, r.1, j b, talls_append ss us2)))))))

  pub tell_block : TellBlock y g (suc d) (block_at line' statement' (more w g)) (block_at line statement g)
  unfolding block_at
  tell_block pre ts l o hole = told_word is_newline k.Newline only_newline refl
      (λ p us q. rw q (told_take (told_plain is_indent k.Indent only_indent refl _ _
      (on (at k.Indent p0 ∷ body0 ++ at k.Dedent p0 ∷ []) (simp append_assoc)
      (hole low pass0 _ (S.long p p0 p0 (S.last_of (S.line (S.Line.end p0 (S.Simple.pass None p0)))))
      (λ b. omega (arith, z1, tall0))))
      (λ p2 us2 q2. told_post (λ v fs r. rw r.3 (rw r.4 ((λ x. S.long p p2 r.2 (r.5 x)), omega (arith, r.6))))
      (tell_suite g [] ((pre ++ at k.Newline p ∷ []) ++ at k.Indent p2 ∷ []) us2
      (omega (arith, l, ap length q, ap length q2)) (omega arith)
      (on (body0 ++ at k.Dedent p0 ∷ []) (simp append_assoc)
      (hole low pass0 _ (S.long p p2 p0 (S.last_of (S.line (S.Line.end p0 (S.Simple.pass None p0)))))
      (λ b. omega (arith, z1, tall0))))
      (λ m ss vs r s j. here (simp append_assoc) (hole m ss _ (S.long p p2 r s) (λ b. omega (arith, j b)))))))))
      (λ e. told_post (λ v fs r. ((λ x. S.short (r.0 x)), omega (arith, r.1)))
      (tell_the_line pre ts l o (λ m ss us r h. hole m ss us (S.short r) (λ b. omega (arith, h b)))))
