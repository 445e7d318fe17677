-- The mirror of the code: nothing public rests on it.
-- What readers of expressions and of targets are asked for, and that their answers are those of reading.
use Rattle.std.specs.Prelude.{ℕ, ◌≤◌, max, List, Result, IfOk}
use Rattle.std.specs.Borrow.{Bor}
use Rattle.py_tokens.specs.declared.token.Token.{Token}
use Rattle.py_tokens.specs.declared.token.TokenKind.{TokenKind}
use Rattle.py_tree.specs.declared.expr.Expr.{Expr}
use Rattle.py_atoms.specs.declared.error.ParseError.{ParseError}
use Rattle.py_atoms.specs.declared.request.Request.{Request}
use Rattle.py_atoms.specs.declared.request.Request.TheVariants.{Level, After}
use Rattle.py_grammar.specs.declared.fault.Fault.{Fault}
use Rattle.py_grammar.specs.declared.fault.Fault.TheVariants.{Deep}
use Rattle.py_grammar.specs.declared.tall.Tall.{Tall}
use Rattle.py_grammar.specs.inner.Aiming.{aim_at}
use Rattle.py_atoms.specs.inner.Outcome.{Gives}
use Rattle.py_grammar.specs.inner.Reading.{Below, Test, reads, too_deep}

abbrev pub requested : Below → Request → Test
requested below (Level n) = below.read n
requested below (After a) = below.after a

-- why nothing is read where no height is left
abbrev pub too_high : Request → TokenKind → Fault
too_high (Level n) kind = too_deep n kind
too_high (After a) kind = Deep

-- the height of the test that is continued
abbrev pub held : Request → ℕ
held (Level n) = 0
held (After a) = a.tall

-- what a reader may answer to what it is asked for
abbrev pub Replies : Type 1
Replies = Request → Bor (List Token) → Result (Tall Expr × Bor (List Token)) ParseError → Type 0

-- each answer is what reading gives with this budget, and is at most as high
abbrev pub Answers : Replies → ℕ → ℕ → Type 0
Answers replies g d = (q : Request) (ts : Bor (List Token)) (r : Result (Tall Expr × Bor (List Token)) ParseError) →
    replies q ts r → Gives (λ x. (x.0, x.1.now)) r (requested (reads g d) q ts.now) × IfOk r
    (λ x. x.0.tall ≤ max d (held q))

-- what a reader of targets may answer
abbrev pub TargetReplies : Type 1
TargetReplies = Bor (List Token) → Result (Tall Expr × Bor (List Token)) ParseError → Type 0

-- each answer is what reading gives with this budget, and is at most as high
abbrev pub AnswersAim : TargetReplies → ℕ → ℕ → Type 0
AnswersAim replies g d = (ts : Bor (List Token)) (r : Result (Tall Expr × Bor (List Token)) ParseError) →
    replies ts r → Gives (λ x. (x.0, x.1.now)) r (aim_at g d ts.now) × IfOk r (λ x. x.0.tall ≤ d)
