-- What reading a target tells.
use Rattle.std.proofs.Common.{◌≡◌, ℕ, ◌<◌, Bool, true, false, ◌&&◌, List, [], ◌∷◌, ◌++◌, Ok, Err, Some, inl, inr, refl, sym, ◌∙◌, append-nil, append_assoc, arith}
use Rattle.std.proofs.lemmas.Bool.{and_parts}
use Rattle.py_tokens.specs.declared.token.Token.{Token}
use Rattle.py_tokens.specs.declared.token.TokenKind.TheVariants as k
use Rattle.py_tokens.specs.declared.token.Place.{Place}
use Rattle.py_tokens.specs.Place.{token_at as at}
use Rattle.py_tree.specs.declared.expr.Expr.{Expr}
use Rattle.py_tree.specs.Form.{is_target, form}
use Rattle.py_tree.specs.Height.{height}
use Rattle.py_base.specs.declared.refusal.Construct.TheVariants as left
use Rattle.py_grammar.specs.declared.fault.Fault.TheVariants.{Unexpected, LeftOut}
use Rattle.py_grammar.specs.Codes as c
use Rattle.py_grammar.specs.Grammar.{Marks, Is}
use Rattle.py_grammar.specs.declared.tall.Tall.{Tall}
use Rattle.py_grammar.specs.inner.Aiming.{readers}
use Rattle.py_grammar.specs.inner.Reading.{first}
use Rattle.py_grammar.specs.Statements.{Target}
use Rattle.py_grammar.specs.inner.Lines.{checked, Stop}
use Rattle.py_grammar.proofs.Steps.{of}
use Rattle.py_grammar.proofs.Facts.{no}
use Rattle.py_grammar.proofs.Told.{low, marked, Opens, near, more, Told, told_done, told_refused, told_left, told_same, told_bind, on, move}
use Rattle.py_grammar.proofs.Tells.{p0}
use Rattle.py_grammar.proofs.Targets.{good, by_marks, target_of}
use Rattle.py_grammar.proofs.Simples.{TargetHole, Targeting}
use Rattle.py_grammar.proofs.Aimed.{AimHole, ReadAim, extend}
use Rattle.py_grammar.proofs.AimedAtoms.{tell_aim}

marked_target : {x : Marks} {a : Expr} {us : List Token} → Is x 1 a us → is_target false (form a) ≡ true → Target x a us
marked_target {x = x} {a = a} p e = record
    { spells = p; is = by_marks (λ z. is_target z (form a) ≡ true) x e (good p e) }

-- where a target may stand, what becomes one by a trailer may
aim_hole : (d : ℕ) (pre : List Token) → TargetHole d pre → AimHole 1 d pre
aim_hole d pre hole m a us r s = go m.bounded refl
  where
    with_dot : (m.bounded ≡ true → height a < d) → Opens m (pre ++ us)
    with_dot l = let x = extend r refl in on (at c.dot p0 ∷ at (k.Name []) p0 ∷ []) (simp append_assoc)
        (hole m x.tree _ (marked_target x.spells x.target) (λ z. omega (arith, l z, x.low)))

    go : (b : Bool) → m.bounded ≡ b → Opens m (pre ++ us)
    go false e = with_dot (λ z. no (sym z ∙ e))
    go true e = elim (s e) [
      | inl q ↦ hole m a us (marked_target r q.0) (λ z. q.1)
      | inr q ↦ with_dot (λ z. q)
    ]

tell_checked : {y : ℕ} {pre ts : List Token} {Q : Tall Expr → List Token → Type 0} (after : Stop) (a : Expr) →
    Opens low pre →
    (is_target true (form a) ≡ true → after (first ts) ≡ true → (p : Place) →
    Opens (marked left.SliceForm) (pre ++ at (first ts) p ∷ [])) →
    (is_target false (form a) ≡ true → Q (of a) []) →
    Told y pre ts (λ us. checked after (of a, us)) Q (checked after (of a, ts))
unfolding checked
tell_checked {y = y} {pre = pre} {ts = ts} {Q = Q} after a o m h = go (is_target false (form a)) refl
  where
    go : (b : Bool) → is_target false (form a) ≡ b →
        Told y pre ts (λ us. checked after (of a, us)) Q (checked after (of a, ts))
    go true e = told_same {X' = λ us. Ok (of a, us)} {q = Ok (of a, ts)} (rw e refl) (λ us s. rw e refl)
        (told_done (h e))
    go false e = bad (is_target true (form a) && after (first ts)) refl
      where
        bad : (b : Bool) → (is_target true (form a) && after (first ts)) ≡ b →
            Told y pre ts (λ us. checked after (of a, us)) Q (checked after (of a, ts))
        bad true q = told_same {X' = λ us. Err (LeftOut left.SliceForm, us)} {q = Err (LeftOut left.SliceForm, ts)}
            (rw e (rw q refl)) (λ us s. rw e (rw s (rw q refl)))
            (told_left (first ts) refl o (m (and_parts _ _ q).0 (and_parts (is_target true (form a)) _ q).1))
        bad false q = told_same {X' = λ us. Err (Unexpected, us)} {q = Err (Unexpected, ts)} (rw e (rw q refl))
            (λ us s. rw e (rw s (rw q refl))) (told_refused o)

pub aims : (w y g d : ℕ) → Targeting y g d (readers (more w g) (more y d)) (readers g d)
aims w y g d = record {
  target = λ after pre ts l o hole slice. told_bind (checked after) (checked after) (ReadAim d pre)
      (tell_aim w y g d pre ts l o (aim_hole d pre hole))
      (λ v fs rest q r. rw r.1 (tell_checked after r.0 r.4
      (λ t e p. near (marked left.SliceForm) pre fs (at (first rest) p ∷ [])
      (slice r.0 fs (first rest) p (record { spells = r.2 (Some left.SliceForm); is = t }) e))
      (λ t. (r.0, refl, (λ x. move (Target x r.0) (sym (append-nil fs)) (target_of r.2 t x)), r.3))));
}
