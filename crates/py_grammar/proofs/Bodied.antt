-- What reading a module tells.
use Rattle.std.proofs.Common.{◌≡◌, ℕ, zero, suc, ◌<◌, ◌≤◌, true, false, List, [], ◌∷◌, ◌++◌, length, Err, Option, Some, None, ◌⊎◌, inl, inr, refl, sym, ap, ◌∙◌, subst, append_assoc, append-nil, arith, length-append}
use Rattle.py_tokens.specs.declared.token.Token.{Token}
use Rattle.py_tokens.specs.declared.token.TokenKind.{TokenKind}
use Rattle.py_tokens.specs.declared.token.TokenKind.TheVariants as k
use Rattle.py_tokens.specs.declared.token.Place.{Place}
use Rattle.py_tokens.specs.Place.{token_at as at}
use Rattle.py_grammar.specs.declared.fault.Fault.TheVariants.{Deep}
use Rattle.py_grammar.specs.Codes as c
use Rattle.py_grammar.specs.Grammar.{Marks}
use Rattle.py_grammar.specs.inner.Aiming.{readers}
use Rattle.py_grammar.specs.inner.Reading.{rest}
use Rattle.py_grammar.proofs.Facts.{no}
use Rattle.py_grammar.proofs.Told.{Mode, low, Fits, Opens, cut, more, Told, told_done, told_if, told_post, told_take, told_bind, on, here}
use Rattle.py_grammar.proofs.Tells.{p0}
use Rattle.py_grammar.specs.Statements as S
use Rattle.py_grammar.specs.Statements.{slices, Target, Targets, Loops, Equals}
use Rattle.py_grammar.specs.inner.Lines.{is_newline}
use Rattle.py_grammar.specs.Statements.{Names, Renamed, Imports, Simple}
use Rattle.py_tree.specs.declared.stmt.Stmt.{Stmt}
use Rattle.py_tree.specs.Tall.{talls}
use Rattle.py_grammar.proofs.Simples.{Targeting}
use Rattle.py_grammar.specs.Statements.{Line, Parameter, Later, Parameters, Params, Base, Caught, Statement, Suite as Suites, Block, Elifs, Else, Finally, Excepts, Compound}
use Rattle.py_grammar.specs.inner.Lines.{is_end, Suite, block_at, line_of_at, statements_at, body_more}
use Rattle.py_tree.specs.declared.stmt.Arm.{Arm}
use Rattle.py_tree.specs.declared.stmt.Clause.{Clause}
use Rattle.py_tree.specs.declared.stmt.Handler.{Handler}
use Rattle.py_grammar.proofs.BlockSteps.{talls_append}
use Rattle.py_grammar.proofs.LineTells.{only_newline}
use Rattle.py_grammar.proofs.LineTells.{tell_line}
use Rattle.py_grammar.proofs.Targets.{tell_exprs}
use Rattle.py_grammar.proofs.BlockSteps.{statement_long}
use Rattle.py_grammar.proofs.Wholes.{tell_compound}
use Rattle.py_grammar.proofs.LineTells.{only_newline}
use Rattle.py_grammar.specs.Statements.{Body}
use Rattle.py_grammar.proofs.Modules.{lowers, TellStatement, tell_statement_at, tell_block}
use Rattle.py_grammar.specs.Refused.{EndsOnce}

-- ---- the last token

abbrev Last : List Token → Type 0
Last ts = (fs : List Token) × (t : Token) × (ts ≡ fs ++ t ∷ []) × (is_end t.kind ≡ false)

last_front : (xs : List Token) {ts : List Token} → Last ts → Last (xs ++ ts)
last_front xs l = (xs ++ l.0, l.1, ap (λ z. xs ++ z) l.2 ∙ sym (append_assoc xs l.0 (l.1 ∷ [])), l.3)

abbrev MaybeLast : List Token → Type 0
MaybeLast ts = (ts ≡ []) ⊎ Last ts

last_after : {ts us : List Token} → Last ts → MaybeLast us → Last (ts ++ us)
last_after {ts = ts} l (inl e) = subst Last (sym (append-nil ts) ∙ ap (λ z. ts ++ z) (sym e)) l
last_after {ts = ts} l (inr m) = last_front ts m

line_last : {x : Marks} {ss : List Stmt} {ts : List Token} → Line x ss ts → Last ts
line_last (S.Line.end p {ts = ts} q) = (ts, at k.Newline p, refl, refl)
line_last (S.Line.end_semicolon p q {ts = ts} r) = (
  ts ++ at c.semicolon p ∷ [],
  at k.Newline q,
  sym (append_assoc ts (at c.semicolon p ∷ []) (at k.Newline q ∷ [])),
  refl,
)
line_last (S.Line.more p {ts = ts} {us = us} q r) = last_front ts (last_front (at c.semicolon p ∷ []) (line_last r))

block_last : {x : Marks} {ss : List Stmt} {ts : List Token} → Block x ss ts → Last ts
block_last (S.short r) = line_last r
block_last (S.long p q r {ts = ts} s) = (at k.Newline p ∷ at k.Indent q ∷ ts, at k.Dedent r, refl, refl)

elifs_last : {x : Marks} {rs : List Arm} {ts : List Token} → Elifs x rs ts → MaybeLast ts
elifs_last (S.no_elif x) = inl refl
elifs_last (S.elif p q {ts = ts} a b r) =
    inr (last_after (last_front (at c.elif_ p ∷ ts) (last_front (at c.colon q ∷ []) (block_last b))) (elifs_last r))

else_last : {x : Marks} {o : Option Clause} {ts : List Token} → Else x o ts → MaybeLast ts
else_last (S.no_else x) = inl refl
else_last (S.else' p q b) = inr (last_front (at c.else_ p ∷ at c.colon q ∷ []) (block_last b))

finally_last : {x : Marks} {o : Option Clause} {ts : List Token} → Finally x o ts → MaybeLast ts
finally_last (S.no_finally x) = inl refl
finally_last (S.finally p q b) = inr (last_front (at c.finally_ p ∷ at c.colon q ∷ []) (block_last b))

finally_some_last : {x : Marks} {f : Clause} {ts : List Token} → Finally x (Some f) ts → Last ts
finally_some_last (S.finally p q b) = last_front (at c.finally_ p ∷ at c.colon q ∷ []) (block_last b)

excepts_last : {x : Marks} {hs : List Handler} {ts : List Token} → Excepts x hs ts → Last ts
excepts_last (S.except_one p q {ts = ts} a b) =
    last_front (at c.except_ p ∷ ts) (last_front (at c.colon q ∷ []) (block_last b))
excepts_last (S.except_more p q {ts = ts} {us = us} a b r) = last_front ((at c.except_ p ∷ ts) ++ at c.colon q ∷ us)
    (excepts_last r)

compound_last : {x : Marks} {a : Stmt} {ts : List Token} → Compound x a ts → Last ts
compound_last (S.if' p q {ts = ts} a b r e) =
    last_after (last_after (last_front (at c.if_ p ∷ ts) (last_front (at c.colon q ∷ []) (block_last b)))
    (elifs_last r)) (else_last e)
compound_last (S.while p q {ts = ts} a b e) =
    last_after (last_front (at c.while_ p ∷ ts) (last_front (at c.colon q ∷ []) (block_last b))) (else_last e)
compound_last (S.for' p q r {ts = ts} {us = us} a b d e) =
    last_after (last_front ((at c.for_ p ∷ ts) ++ at c.in_ q ∷ us) (last_front (at c.colon r ∷ []) (block_last d)))
    (else_last e)
compound_last (S.try p q {ts = ts} b h e f) =
    last_after (last_after (last_front (at c.try_ p ∷ at c.colon q ∷ ts) (excepts_last h)) (else_last e))
    (finally_last f)
compound_last (S.try_finally p q {ts = ts} b f) = last_front (at c.try_ p ∷ at c.colon q ∷ ts) (finally_some_last f)
compound_last (S.def n p q r r' q' {ts = ts} a b) = last_front (at c.def_ p ∷ at (k.Name n) q ∷ at c.open_round r ∷ ts)
    (last_front (at c.close_round r' ∷ at c.colon q' ∷ []) (block_last b))
compound_last (S.class n p q r {ts = ts} a b) =
    last_front (at c.class_ p ∷ at (k.Name n) q ∷ ts) (last_front (at c.colon r ∷ []) (block_last b))

statement_last : {ss : List Stmt} {ts : List Token} → Statement None ss ts → Last ts
statement_last (S.line r) = line_last r
statement_last (S.compound r) = compound_last r

cons_none : (t : Token) (ts : List Token) → t ∷ ts ≡ [] → ⊥
cons_none t ts e = cc

app_none : (xs : List Token) (t : Token) → xs ++ t ∷ [] ≡ [] → ⊥
app_none [] t e = cons_none t [] e
app_none (x ∷ xs) t e = cons_none x (xs ++ t ∷ []) e

ends_last : (xs : List Token) (t : Token) → EndsOnce (xs ++ t ∷ []) → t.kind ≡ k.End
ends_last [] t (inl p) = p.0
ends_last [] t (inr p) = absurd p.1
ends_last (x ∷ xs) t (inl p) = absurd (app_none xs t p.1)
ends_last (x ∷ xs) t (inr p) = ends_last xs t p.1

not_end : (t : Token) → is_end t.kind ≡ false → t.kind ≡ k.End → ⊥
not_end t e q = no (sym (ap is_end q) ∙ e)

-- after what doesn't end in End more comes
more_comes : (pre fs rest : List Token) → EndsOnce (pre ++ (fs ++ rest)) → Last fs → 0 < length rest
more_comes pre fs [] h l = absurd (not_end l.1 l.3
    (ends_last (pre ++ l.0) l.1 (subst EndsOnce (ap (λ z. pre ++ z) (append-nil fs ∙ l.2) ∙
    sym (append_assoc pre l.0 (l.1 ∷ []))) h)))
more_comes pre fs (t ∷ rest) h l = omega arith

-- ---- statements with a budget

abbrev pub Targets' : ℕ → ℕ → ℕ → Type 0
Targets' w y g = (d : ℕ) → Targeting y g d (readers (more w g) (more y d)) (readers g d)

deep_block : Suite
deep_block us = Err (Deep, us)

low_statements : (w y g : ℕ) → Targets' w y g → TellStatement y g 1 (statements_at (more w g) (more y 1))
    (statements_at g 1)
unfolding statements_at
low_statements w zero g targets = tell_statement_at w 0 g 0
    (record { under = readers (more w g) 0; lower = readers (more w g) 0; budget = 0; block = λ us. Err (Deep, us) })
    (record { under = readers g 0; lower = readers g 0; budget = 0; block = λ us. Err (Deep, us) }) refl refl
    (targets 0) (λ h. absurd (omega (arith, h)))
low_statements w (suc y) g targets = tell_statement_at w (suc y) g 0
    (record {
      under = readers (more w g) (suc y);
      lower = readers (more w g) y;
      budget = suc y;
      block =
          block_at (line_of_at (more w g) y) (statements_at (more w g) y) (more w g);
    })
    (record { under = readers g 0; lower = readers g 0; budget = 0; block = λ us. Err (Deep, us) }) refl refl
    (targets 0) (λ h. absurd (omega (arith, h)))

pub tell_statements : (w y g : ℕ) → Targets' w y g → (d : ℕ) →
    TellStatement y g (suc d) (statements_at (more w g) (more y (suc d))) (statements_at g (suc d))
unfolding statements_at line_of_at
tell_statements w y g targets zero = low_statements w y g targets
tell_statements w y g targets (suc zero) =
    tell_statement_at w y g 1 (record {
      under = readers (more w g) (suc y);
      lower = readers (more w g) y;
      budget =
          suc y;
      block = block_at (line_of_at (more w g) y) (statements_at (more w g) y) (more w g);
    })
    (record {
      under = readers g 1;
      lower = readers g 0;
      budget = 1;
      block =
          block_at (line_of_at g 0) (statements_at g 0) g;
    }) refl refl (targets 1) (λ h. absurd (omega (arith, h)))
tell_statements w y g targets (suc (suc d)) = tell_statement_at w y g (suc (suc d))
    (record {
      under = readers (more w g) (suc (suc (more y d)));
      lower = readers (more w g) (suc (more y d));
      budget =
          suc (suc (more y d));
      block = block_at (line_of_at (more w g) (suc (more y d)))
          (statements_at (more w g) (suc (more y d))) (more w g);
    })
    (record {
      under = readers g (suc (suc d));
      lower = readers g (suc d);
      budget = suc (suc d);
      block =
          block_at (line_of_at g (suc d)) (statements_at g (suc d)) g;
    }) refl refl (targets (suc (suc d)))
    (λ h n ic pre ts f l hole. tell_compound w y g (suc d) (readers (more w g) (suc (suc (more y d))))
    (readers g (suc (suc d))) (readers (more w g) (suc (more y d))) (readers g (suc d))
    (lowers w y g (suc (suc d))) (tell_exprs w y g (suc (suc d))) (targets (suc (suc d))) (targets (suc d))
    (block_at (line_of_at (more w g) (suc (more y d))) (statements_at (more w g) (suc (more y d))) (more w g))
    (block_at (line_of_at g (suc d)) (statements_at g (suc d)) g)
    (tell_block w y g (suc d) (statements_at (more w g) (suc (more y d))) (statements_at g (suc d))
    (line_of_at (more w g) (suc (more y d))) (line_of_at g (suc d)) (tell_statements w y g targets d)
    (λ pre ts l o hole. tell_line w y g d (readers (more w g) (more y d)) (readers g d) (lowers w y g d)
    (tell_exprs w y g d) (targets d) pre ts l o hole) (omega arith))
    (omega (arith, h)) n ic pre ts f l hole)

-- ---- modules

abbrev pub BodyHole : ℕ → List Token → Type 0
BodyHole d pre = (m : Mode) (ss : List Stmt) (us : List Token) → Body m.marks ss us → Fits m (talls ss) d →
    Opens m (pre ++ us)

only_end : (x : TokenKind) → is_end x ≡ true → x ≡ k.End
only_end k.End e = refl
only_end x e = no (sym e)

module _ (w y g d : ℕ) (targets : Targets' w y g) where
  pub tell_body : (f : ℕ) (found : List Stmt) (pre ts : List Token) → length ts ≤ f → f ≤ g → 0 < length ts →
      EndsOnce (pre ++ ts) → BodyHole (suc d) pre →
      Told y pre ts (body_more (statements_at (more w g) (more y (suc d))) (more w f) found)
      (λ v fs. (ss : List Stmt) × (v ≡ found ++ ss) × ((x : Marks) → Body x ss fs) × (talls ss ≤ suc d))
      (body_more (statements_at g (suc d)) f found ts)
  unfolding body_more
  tell_body zero found pre ts l i n h hole = absurd (omega (arith, l, n))
  tell_body (suc f) found pre [] l i n h hole = absurd (omega (arith, n))
  tell_body (suc f) found pre (t ∷ us) l i n h hole =
      let p : Place = record { from = t.from; to = t.to; line = t.line } in
      let o : Opens low pre = cut low pre (at k.End p0 ∷ []) (hole low [] _ (S.Body.end None p0) (λ b. omega arith)) in
      told_if is_end (λ e. let same : t ≡ at k.End p = ap (λ z. at z p) (only_end t.kind e) in
      told_take (told_done (
        [],
        sym (append-nil found),
        (λ x. subst (λ z. Body x [] (z ∷ [])) (sym same) (S.Body.end x p)),
        omega arith,
      )))
      (λ e1. told_if is_newline
      (λ e. let same : t ≡ at k.Newline p = ap (λ z. at z p) (only_newline t.kind e) in
      told_take (told_post (λ v fs r. (
        r.0,
        r.1,
        (λ x. subst (λ z. Body x r.0 (z ∷ fs)) (sym same) (S.Body.newline p (r.2 x))),
        r.3,
      ))
      (tell_body f found (pre ++ t ∷ []) us (omega (arith, l)) (omega (arith, i))
      (more_comes pre (t ∷ []) us h ([], t, refl, e1)) (subst EndsOnce (sym (append_assoc pre (t ∷ []) us)) h)
      (λ m ss vs r j. here (simp append_assoc)
      (hole m ss (t ∷ vs) (subst (λ z. Body m.marks ss (z ∷ vs)) (sym same) (S.Body.newline p r)) j)))))
      (λ e2. told_bind _ _ _ (tell_statements w y g targets d pre (t ∷ us) (omega (arith, l, i)) o
      (λ m ss vs r j. on (at k.End p0 ∷ []) (simp (append_assoc, append-nil))
      (hole m (ss ++ []) _ (S.Body.more r (S.Body.end m.marks p0)) (λ b. omega (arith, j b, talls_append ss [])))))
      (λ ss fs rest q r.
      told_post (λ v vs s. (
        ss ++ s.0,
        s.1 ∙ append_assoc found ss s.0,
        (λ x. S.Body.more (r.0 x) (s.2 x)),
        omega (arith, r.1, s.3, talls_append ss s.0),
      ))
      (tell_body f (found ++ ss) (pre ++ fs) rest
      (omega (arith, l, ap length q, length-append fs rest, statement_long (r.0 None))) (omega (arith, i))
      (more_comes pre fs rest (subst (λ z. EndsOnce (pre ++ z)) q h) (statement_last (r.0 None)))
      (subst EndsOnce (ap (λ z. pre ++ z) q ∙ sym (append_assoc pre fs rest)) h)
      (λ m bs vs s j. here (simp append_assoc)
      (hole m (ss ++ bs) _ (S.Body.more (r.0 m.marks) s) (λ b. omega (arith, r.1, j b, talls_append ss bs))))))))
