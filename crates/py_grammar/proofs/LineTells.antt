-- What reading a line of simple statements tells.
use Rattle.std.proofs.Common.{◌≡◌, ℕ, zero, suc, ◌<◌, ◌≤◌, Bool, true, false, not, List, [], ◌∷◌, ◌++◌, length, None, inl, inr, refl, sym, ap, ◌∙◌, subst, append_assoc, append-nil, arith, length-append}
use Rattle.py_tokens.specs.declared.token.Token.{Token}
use Rattle.py_tokens.specs.declared.token.TokenKind.{TokenKind}
use Rattle.py_tokens.specs.declared.token.TokenKind.TheVariants as k
use Rattle.py_tokens.specs.declared.token.Place.{Place}
use Rattle.py_tokens.specs.Place.{token_at as at}
use Rattle.py_tree.specs.declared.expr.Expr.{Expr}
use Rattle.py_base.specs.declared.refusal.Construct.TheVariants as left
use Rattle.py_grammar.specs.Codes as c
use Rattle.py_grammar.specs.Grammar.{Marks}
use Rattle.py_grammar.specs.inner.Aiming.{Readers}
use Rattle.py_grammar.specs.inner.Reading.{Reads, ◌>>=◌, rest, is_op}
use Rattle.py_grammar.proofs.Facts.{no}
use Rattle.py_grammar.proofs.Begin.{long}
use Rattle.py_grammar.proofs.Told.{Mode, low, marked, Fits, Opens, more, Told, told_done, told_refused, told_post, told_take, told_word, told_bind, on, here}
use Rattle.py_grammar.proofs.Tells.{only_op, p0, free, length_after}
use Rattle.py_grammar.proofs.Atoms.{either}
use Rattle.py_grammar.specs.Statements as S
use Rattle.py_grammar.specs.Statements.{Equals}
use Rattle.py_grammar.specs.inner.Lines.{is_newline}
use Rattle.py_grammar.proofs.Targets.{TellExprs}
use Rattle.py_grammar.proofs.AssignReads.{exprs_headed}
use Rattle.py_grammar.specs.Statements.{Simple}
use Rattle.py_grammar.specs.inner.Lines.{simple_at}
use Rattle.py_tree.specs.declared.stmt.Stmt.{Stmt}
use Rattle.py_tree.specs.Tall.{talls}
use Rattle.py_grammar.proofs.Simples.{Lowers, Targeting}
use Rattle.py_grammar.proofs.Worded.{tell_simple}
use Rattle.py_grammar.specs.Statements.{Line}
use Rattle.py_grammar.specs.inner.Lines.{is_indent, plain_at, line_more, line_at}

pub only_newline : (x : TokenKind) → is_newline x ≡ true → x ≡ k.Newline
only_newline k.Newline e = refl
only_newline x e = no (sym e)

pub only_indent : (x : TokenKind) → is_indent x ≡ true → x ≡ k.Indent
only_indent k.Indent e = refl
only_indent x e = no (sym e)

pub told_plain : {A : Type 0} {y : ℕ} {pre ts : List Token} {Q : A → List Token → Type 0} (p : TokenKind → Bool)
    (κ : TokenKind) → ((x : TokenKind) → p x ≡ true → x ≡ κ) → p k.End ≡ false →
    (K' K : Unit {0} × List Token → Reads A) → Opens low pre →
    ((i : Place) (us : List Token) → ts ≡ at κ i ∷ us →
    Told y (pre ++ at κ i ∷ []) us (λ vs. K' (tt, vs)) (λ b fs. Q b (at κ i ∷ fs)) (K (tt, us))) →
    Told y pre ts (λ us. plain_at p us >>= K') Q (plain_at p ts >>= K)
unfolding plain_at
told_plain {y = y} {pre = pre} {Q = Q} p κ is not K' K o h = told_bind K' K (λ u fs. (i : Place) × (fs ≡ at κ i ∷ []))
    (told_word p κ is not (λ i us q. rw q (told_take (told_done (i, refl)))) (λ q. told_refused o))
    (λ u fs rest e r. subst (λ z. Told y (pre ++ z) rest (λ us. K' (u, us)) (λ b us. Q b (z ++ us)) (K (u, rest)))
    (sym r.1) (h r.0 rest (e ∙ ap (λ z. z ++ rest) r.1)))

-- ---- lines

pub data FollowLine : Marks → List Stmt → List Token → Type 0 where
  end_line : (x : Marks) (p : Place) → FollowLine x [] (at k.Newline p ∷ [])
  semi_end : (x : Marks) (p q : Place) → FollowLine x [] (at c.semicolon p ∷ at k.Newline q ∷ [])
  further_line : (p : Place) {x : Marks} {ss : List Stmt} {us : List Token} → Line x ss us →
      FollowLine x ss (at c.semicolon p ∷ us)

then_line : {x : Marks} {a : Stmt} {ss : List Stmt} {ts us : List Token} → Simple x a ts → FollowLine x ss us →
    Line x (a ∷ ss) (ts ++ us)
then_line p (end_line _ q) = S.Line.end q p
then_line p (semi_end _ q r) = S.Line.end_semicolon q r p
then_line p (further_line q r) = S.Line.more q p r

equals_long : {x : Marks} {es : List Expr} {b : Expr} {fs : List Token} → Equals x es b fs → 0 < length fs
equals_long (S.Equals.value p) = long (exprs_headed p)
equals_long (S.Equals.equals p {ts = ts} {us = us} q t r) = omega (arith, length-append ts (at c.assign p ∷ us))
equals_long (S.Equals.yielded p) = omega arith

simple_long : {a : Stmt} {ts : List Token} → Simple None a ts → 0 < length ts
simple_long (S.Simple.run p) = long (exprs_headed p)
simple_long (S.Simple.assign p) = equals_long p
simple_long (S.Simple.augment n o p {ts = ts} {us = us} q r t v) = omega (arith, length-append ts (at (k.Op n) p ∷ us))
simple_long (S.Simple.print_end _ p) = omega arith
simple_long (S.Simple.print p q) = omega arith
simple_long (S.Simple.pass _ p) = omega arith
simple_long (S.Simple.break _ p) = omega arith
simple_long (S.Simple.continue _ p) = omega arith
simple_long (S.Simple.return_none _ p) = omega arith
simple_long (S.Simple.return p q) = omega arith
simple_long (S.Simple.raise_none _ p) = omega arith
simple_long (S.Simple.raise_one p q) = omega arith
simple_long (S.Simple.raise_two p q {ts = ts} {us = us} r t) = omega (arith, length-append ts (at c.comma q ∷ us))
simple_long (S.Simple.del p q) = omega arith
simple_long (S.Simple.global _ p q) = omega arith
simple_long (S.Simple.assert_one p q) = omega arith
simple_long (S.Simple.assert_two p q {ts = ts} {us = us} r t) = omega (arith, length-append ts (at c.comma q ∷ us))
simple_long (S.Simple.import p q) = omega arith
simple_long (S.Simple.from m p q r t v) = omega arith

module _ (w y g d : ℕ) (under' under : Readers) (below : Lowers y g d under' under)
    (exprs : TellExprs y g d (under'.read 15) (under.read 15)) (targets : Targeting y g d under' under) where
  abbrev pub LineHole : List Token → Type 0
  LineHole pre = (m : Mode) (ss : List Stmt) (us : List Token) → Line m.marks ss us → Fits m (talls ss) (suc d) →
      Opens m (pre ++ us)

  abbrev pub FollowHole : List Token → Type 0
  FollowHole pre = (m : Mode) (ss : List Stmt) (us : List Token) → FollowLine m.marks ss us → Fits m (talls ss) (suc d)
      → Opens m (pre ++ us)

  pub tell_line_more : (f : ℕ) (found : List Stmt) (pre ts : List Token) → length ts < f → f ≤ g → FollowHole pre →
      Told y pre ts (line_more (simple_at under' (more w g) (more y (suc d))) (more w f) found)
      (λ v fs. (ss : List Stmt) × (v ≡ found ++ ss) × ((x : Marks) → FollowLine x ss fs) × (talls ss ≤ suc d))
      (line_more (simple_at under g (suc d)) f found ts)
  unfolding line_more
  tell_line_more zero found pre ts l i hole = absurd (omega (arith, l))
  tell_line_more (suc f) found pre ts l i hole = told_word (is_op 41) c.semicolon (only_op 41) refl
      (λ p us q. rw q (told_take (told_word is_newline k.Newline only_newline refl
      (λ p2 us2 q2. rw q2 (told_take (told_done ([], sym (append-nil found), (λ x. semi_end x p p2), omega arith))))
      (λ e. told_bind _ _ _ (tell_simple w y g d under' under below exprs targets (pre ++ at c.semicolon p ∷ []) us
      (omega (arith, l, i, ap length q))
      (on (at k.Newline p0 ∷ []) (simp append_assoc) (hole low [] _ (semi_end None p p0) (λ b. omega arith)))
      (λ m a vs r h. on (at k.Newline p0 ∷ []) (simp append_assoc)
      (hole m (a ∷ []) _ (further_line p (S.Line.end p0 r)) (λ b. omega (arith, h b))))
      (λ a vs κ p2 r e2. elim (either (is_op 41 κ) (is_newline κ) e2) [
        | inl z ↦ rw (only_op 41 κ z) (on (at k.Newline p0 ∷ []) (simp append_assoc)
            (hole (marked left.SliceForm) (a ∷ []) _ (further_line p (S.Line.end_semicolon p2 p0 r)) free))
        | inr z ↦ rw (only_newline κ z) (here (simp append_assoc)
            (hole (marked left.SliceForm) (a ∷ []) _ (further_line p (S.Line.end p2 r)) free))
      ]))
      (λ a fs rest q3 r. told_post (λ v vs s. (
        a ∷ s.0,
        s.1 ∙ append_assoc found (a ∷ []) s.0,
        (λ x. further_line p (then_line (r.0 x) (s.2 x))),
        omega (arith, r.1, s.3),
      ))
      (tell_line_more f (found ++ a ∷ []) ((pre ++ at c.semicolon p ∷ []) ++ fs) rest
      (omega (arith, l, ap length q, length_after us fs rest q3)) (omega (arith, i))
      (λ m ss vs s j. here (simp append_assoc)
      (hole m (a ∷ ss) _ (further_line p (then_line (r.0 m.marks) s)) (λ b. omega (arith, r.1, j b))))))))))
      (λ e. told_plain is_newline k.Newline only_newline refl _ _
      (on (at k.Newline p0 ∷ []) refl (hole low [] _ (end_line None p0) (λ b. omega arith)))
      (λ p us q. told_done ([], sym (append-nil found), (λ x. end_line x p), omega arith)))

  pub tell_line : (pre ts : List Token) → length ts ≤ g → Opens low pre → LineHole pre →
      Told y pre ts (line_at under' (more w g) (more y (suc d)))
      (λ v fs. ((x : Marks) → Line x v fs) × (talls v ≤ suc d)) (line_at under g (suc d) ts)
  unfolding line_at
  tell_line pre ts l o hole = told_bind _ _ _ (tell_simple w y g d under' under below exprs targets pre ts l o
      (λ m a us r h. on (at k.Newline p0 ∷ []) (simp append_assoc)
      (hole m (a ∷ []) _ (S.Line.end p0 r) (λ b. omega (arith, h b))))
      (λ a us κ p r e. elim (either (is_op 41 κ) (is_newline κ) e) [
        | inl z ↦ rw (only_op 41 κ z) (on (at k.Newline p0 ∷ []) (simp append_assoc)
            (hole (marked left.SliceForm) (a ∷ []) _ (S.Line.end_semicolon p p0 r) free))
        | inr z ↦ rw (only_newline κ z) (hole (marked left.SliceForm) (a ∷ []) _ (S.Line.end p r) free)
      ]))
      (λ a fs rest q r. told_post (λ v us s. rw s.1 ((λ x. then_line (r.0 x) (s.2 x)), omega (arith, r.1, s.3)))
      (tell_line_more g (a ∷ []) (pre ++ fs) rest
      (omega (arith, l, ap length q, length-append fs rest, simple_long (r.0 None))) (omega arith)
      (λ m ss us s j. here (simp append_assoc)
      (hole m (a ∷ ss) _ (then_line (r.0 m.marks) s) (λ b. omega (arith, r.1, j b))))))
