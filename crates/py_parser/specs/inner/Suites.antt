-- The mirror of the code: nothing public rests on it.
-- Parts of the reading of statements that have functions of their own in the code, and what a reader of statements
-- answers.
use Rattle.std.specs.Prelude.{ℕ, ◌-◌, List, [], ◌∷◌, Result, false, Ok, Err, nat_lt, if◌then◌else◌}
use Rattle.std.specs.Borrow.{Bor}
use Rattle.py_tokens.specs.declared.token.Token.{Token}
use Rattle.py_tree.specs.declared.stmt.Param.{Param}
use Rattle.py_tree.specs.declared.stmt.Stmt.{Stmt}
use Rattle.py_tree.specs.declared.stmt.Stmt.TheVariants as s
use Rattle.py_atoms.specs.declared.error.ParseError.{ParseError}
use Rattle.py_grammar.specs.declared.fault.Fault.TheVariants.{Deep}
use Rattle.py_grammar.specs.inner.Lines.{Suite, Parts, block_at, line_of_at, statements_at, params_at, arm_at, elifs_at, clause_at, loop_at, body_at, try_at, compound_at}
use Rattle.py_atoms.specs.inner.Outcome.{Gives}
use Rattle.py_grammar.specs.inner.Reading.{Reader, ◌>>=◌, first, rest, is_op, keyword_at}
use Rattle.py_grammar.specs.inner.Aiming.{Readers, readers}
use Rattle.py_grammar.specs.Words.{line_of}

-- the block of a statement whose expressions have this budget
abbrev pub inner_block : ℕ → ℕ → Suite
inner_block g d = block_at (line_of_at g (d - 1)) (statements_at g (d - 1)) g

-- what reads the parts of a statement whose expressions have this budget
abbrev pub parts_of : ℕ → ℕ → Parts
parts_of g d = record { under = readers g d; lower = readers g (d - 1); budget = d; block = inner_block g d }

-- what a reader of statements may answer
abbrev pub Replies : Type 1
Replies = Bor (List Token) → Result (List Stmt × Bor (List Token)) ParseError → Type 0

-- each answer is what reading gives with this budget
abbrev pub AnswersStatements : Replies → ℕ → ℕ → Type 0
AnswersStatements replies g d = (ts : Bor (List Token)) (r : Result (List Stmt × Bor (List Token)) ParseError) →
    replies ts r → Gives (λ x. (x.0, x.1.now)) r (statements_at g d ts.now)

-- the parameters of a `def`, up to its closing bracket
abbrev pub parameters_at : Readers → ℕ → Reader (List Param)
parameters_at under g ts = if is_op 33 (first ts) then Ok ([], ts) else params_at under g false [] ts

-- an `if` statement
abbrev pub if_at : Readers → Suite → ℕ → Reader Stmt
if_at under block g ts = do
  a ← arm_at under block (line_of ts) (rest ts)
  as' ← elifs_at under block g (a.0 ∷ []) a.1
  d ← clause_at 9 block as'.1
  Ok (s.If as'.0 d.0, d.1)

-- a `while` statement
abbrev pub while_at : Readers → Suite → Reader Stmt
while_at under block ts = do
  a ← arm_at under block (line_of ts) (rest ts)
  d ← clause_at 9 block a.1
  Ok (s.While a.0 d.0, d.1)

-- a `for` statement
abbrev pub for_at : Parts → ℕ → Reader Stmt
for_at p g ts = do
  t ← loop_at p.under p.lower p.budget g (rest ts)
  word ← keyword_at 18 t.1
  a ← p.under.read 15 word.1
  b ← body_at p.block a.1
  d ← clause_at 9 p.block b.1
  Ok (s.For (line_of ts) t.0.tree a.0.tree b.0 d.0, d.1)

-- a `try` statement
abbrev pub tried_at : Readers → Suite → ℕ → Reader Stmt
tried_at under block g ts = do
  b ← body_at block (rest ts)
  try_at under block g (record { line = line_of ts; body = b.0 }) b.1

-- a compound statement with budget d, which this keyword begins, alone
abbrev pub alone_at : Parts → ℕ → ℕ → ℕ → Suite
alone_at p g d n ts = if nat_lt d 3 then Err (Deep, ts) else (compound_at p g n ts >>= λ a. Ok (a.0 ∷ [], a.1))
