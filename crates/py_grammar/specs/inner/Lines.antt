-- The mirror of the code: nothing public rests on it.
-- Reading statements, blocks and modules: what the code computes, as a function on lists.
-- `Statements` says what it means; `docs/LANGUAGE.md`, "Grammar", "Height" and "What is left out".
use Rattle.std.specs.Prelude.{ℕ, zero, suc, ◌+◌, List, [], ◌∷◌, ◌++◌, Ok, Err, nat_lt, nat_le, ◌==◌, ◌&&◌, ◌||◌, if◌then◌else◌, Bool, true, false, Option, Some, None}
use Rattle.py_tokens.specs.declared.token.Token.{Token}
use Rattle.py_tokens.specs.declared.token.TokenKind.{TokenKind}
use Rattle.py_tokens.specs.declared.token.TokenKind.TheVariants as k
use Rattle.py_tree.specs.Form.{is_target, is_single}
use Rattle.py_grammar.specs.Words.{line_of}
use Rattle.py_grammar.specs.declared.tall.Tall.{Tall}
use Rattle.py_grammar.specs.inner.Tall.{push, start, of_tuple, tree_or}
use Rattle.py_tree.specs.declared.expr.Expr.{Expr}
use Rattle.py_tree.specs.declared.expr.Operator.{Operator}
use Rattle.py_tree.specs.declared.stmt.Stmt.{Stmt}
use Rattle.py_tree.specs.declared.stmt.Stmt.TheVariants as s
use Rattle.py_tree.specs.declared.stmt.Module.{Module}
use Rattle.py_tree.specs.declared.stmt.Imported.{Imported}
use Rattle.py_tree.specs.declared.stmt.Param.{Param}
use Rattle.py_tree.specs.declared.stmt.Arm.{Arm}
use Rattle.py_tree.specs.declared.stmt.Clause.{Clause}
use Rattle.py_tree.specs.declared.stmt.Handler.{Handler}
use Rattle.py_base.specs.declared.refusal.Construct.TheVariants as left
use Rattle.py_grammar.specs.declared.fault.Fault.TheVariants.{Unexpected, LeftOut, Deep}
use Rattle.py_grammar.specs.Words.{assigned, is_module, is_member}
use Rattle.py_grammar.specs.inner.Reading.{Reads, Reader, ◌>>=◌, first, rest, is_op, is_keyword, is_some, op_at, keyword_at, name_at, comes, tests_at}
use Rattle.py_grammar.specs.inner.Aiming.{Readers, readers}

abbrev pub is_newline : TokenKind → Bool
is_newline k.Newline = true
is_newline _ = false

abbrev pub is_indent : TokenKind → Bool
is_indent k.Indent = true
is_indent _ = false

abbrev pub is_dedent : TokenKind → Bool
is_dedent k.Dedent = true
is_dedent _ = false

abbrev pub is_end : TokenKind → Bool
is_end k.End = true
is_end _ = false

unfoldable pub plain_at : (TokenKind → Bool) → Reader (Unit {0})
plain_at p ts = if p (first ts) then Ok (tt, rest ts) else Err (Unexpected, ts)

-- a test or an expression of this level, where one comes
unfoldable pub maybe_at : Readers → ℕ → Reader (Option (Tall Expr))
maybe_at under n ts = if comes n (first ts) then (under.read n ts >>= λ a. Ok (Some a.0, a.1)) else Ok (None, ts)

-- ---- targets

-- whether what comes next may stand after a target
abbrev pub Stop : Type 0
Stop = TokenKind → Bool

-- A target was read, if it is one; a slice is left out where its last token could be followed so.
unfoldable pub checked : Stop → Tall Expr × List Token → Reads (Tall Expr)
checked after a =
    if is_target false a.0.form then Ok a else
    (if is_target true a.0.form && after (first a.1) then Err (LeftOut left.SliceForm, a.1) else Err (Unexpected, a.1))

abbrev pub target_at : Readers → Stop → Reader (Tall Expr)
target_at under after ts = under.aim ts >>= checked after

-- what may follow a target of `del`, of `for` and of `except`
abbrev pub ends_del : Stop
ends_del kind = is_op 38 kind || (is_op 41 kind || is_newline kind)

abbrev pub ends_loop : Stop
ends_loop kind = is_op 38 kind || is_keyword 18 kind

abbrev pub ends_caught : Stop
ends_caught kind = is_op 39 kind

-- further targets, each after a comma
unfoldable pub targets_at : Readers → ℕ → Tall (List Expr) → Reader (Tall (List Expr))
targets_at under zero found ts = Ok (found, ts)
targets_at under (suc g) found ts = if is_op 38 (first ts) then (do
  a ← target_at under ends_del (rest ts)
  targets_at under g (push found a.0) a.1) else Ok (found, ts)

-- further targets of `for`; a comma may trail
unfoldable pub loops_at : Readers → ℕ → Tall (List Expr) → Reader (Tall (List Expr))
loops_at under zero found ts = Ok (found, ts)
loops_at under (suc g) found ts = if is_op 38 (first ts) then (if comes 1 (first (rest ts)) then (do
  a ← target_at under ends_loop (rest ts)
  loops_at under g (push found a.0) a.1) else Ok (found, rest ts)) else Ok (found, ts)

-- The targets of `for`, with budget d for them and `under` for what is in a tuple of them.
-- A target is read with the whole budget first, since no comma may follow.
unfoldable pub loop_at : Readers → Readers → ℕ → ℕ → Reader (Tall Expr)
loop_at same under d g ts = target_at same ends_loop ts >>= λ a.
    (if is_op 38 (first a.1) then (if nat_le (a.0.tall + 1) d then (do
      es ← loops_at under g (start a.0) a.1
      Ok (of_tuple es.0, es.1)) else Err (Deep, a.1)) else Ok a)

-- ---- simple statements

-- after an expression, where `=` may follow: the targets, and the value
unfoldable pub equals_at : Readers → ℕ → List Expr → Tall Expr × List Token → Reads (List Expr × Expr)
equals_at under zero found a = Ok ((found, a.0.tree), a.1)
equals_at under (suc g) found a = if is_op 42 (first a.1) then (do
  x ← checked (is_op 42) a
  if is_keyword 30 (first (rest x.1)) then Err (LeftOut left.Generator, rest x.1) else (do
    b ← under.read 15 (rest x.1)
    equals_at under g (found ++ a.0.tree ∷ []) b)) else Ok ((found, a.0.tree), a.1)

abbrev pub assigned_of : TokenKind → Option Operator
assigned_of (k.Op n) = assigned n
assigned_of _ = None

abbrev pub run_or_assign : ℕ → List Expr → Expr → Stmt
run_or_assign l [] a = s.Do l a
run_or_assign l (t ∷ es) a = s.Assign l (t ∷ es) a

-- after the first expression of a statement that began on this line
unfoldable pub run_at : Readers → ℕ → ℕ → Tall Expr × List Token → Option Operator → Reads Stmt
run_at under g l a (Some o) =
    if is_single false a.0.form then
    (if is_keyword 30 (first (rest a.1)) then Err (LeftOut left.Generator, rest a.1) else
    (under.read 15 (rest a.1) >>= λ b. Ok (s.Augment l a.0.tree o b.0.tree, b.1))) else
    (if is_single true a.0.form then Err (LeftOut left.SliceForm, a.1) else Err (Unexpected, a.1))
run_at under g l a None = equals_at under g [] a >>= λ x. Ok (run_or_assign l (x.0).0 (x.0).1, x.1)

unfoldable pub names_at : ℕ → List (List ℕ) → Reader (List (List ℕ))
names_at zero found ts = Ok (found, ts)
names_at (suc g) found ts = if is_op 38 (first ts) then (do
  n ← name_at (rest ts)
  names_at g (found ++ n.0 ∷ []) n.1) else Ok (found, ts)

-- a name that passes the test; another is left out
unfoldable pub import_name_at : (List ℕ → Bool) → Reader (List ℕ)
import_name_at may ts = name_at ts >>= λ n. (if may n.0 then Ok n else Err (LeftOut left.Import, ts))

unfoldable pub renamed_at : Reader (Option (List ℕ))
renamed_at ts = if is_keyword 1 (first ts) then (name_at (rest ts) >>= λ n. Ok (Some n.0, n.1)) else Ok (None, ts)

unfoldable pub imported_at : (List ℕ → Bool) → Reader Imported
imported_at may ts = do
  n ← import_name_at may ts
  m ← renamed_at n.1
  Ok (record { name = n.0; bound = m.0 }, m.1)

unfoldable pub imports_at : (List ℕ → Bool) → ℕ → List Imported → Reader (List Imported)
imports_at may zero found ts = Ok (found, ts)
imports_at may (suc g) found ts = if is_op 38 (first ts) then (do
  i ← imported_at may (rest ts)
  imports_at may g (found ++ i.0 ∷ []) i.1) else Ok (found, ts)

-- after `print`
unfoldable pub print_at : Readers → ℕ → ℕ → Reader Stmt
print_at under g l ts =
    if is_op 7 (first ts) then Err (LeftOut left.PrintTo, ts) else
    (if comes 14 (first ts) then (do
      a ← under.read 14 ts
      es ← tests_at (under.read 14) g (start a.0) a.1
      Ok (s.Print l (es.0).0.tree (es.0).1, es.1)) else Ok (s.Print l [] false, ts))

-- after `raise` and a test
unfoldable pub raise_at : Readers → ℕ → Tall Expr × List Token → Reads Stmt
raise_at under l a = if is_op 38 (first a.1) then (do
  b ← under.read 14 (rest a.1)
  if is_op 38 (first b.1) then Err (LeftOut left.Traceback, b.1) else Ok (
    s.Raise l (Some a.0.tree) (Some b.0.tree),
    b.1,
  )) else Ok (s.Raise l (Some a.0.tree) None, a.1)

-- after `assert` and a test
unfoldable pub assert_at : Readers → ℕ → Tall Expr × List Token → Reads Stmt
assert_at under l a = if is_op 38 (first a.1) then
    (under.read 14 (rest a.1) >>= λ b. Ok (s.Assert l a.0.tree (Some b.0.tree), b.1)) else Ok
    (s.Assert l a.0.tree None, a.1)

-- after `from`
unfoldable pub from_at : ℕ → ℕ → Reader Stmt
from_at g l ts = do
  m ← import_name_at is_module ts
  word ← keyword_at 17 m.1
  i ← imported_at (is_member m.0) word.1
  is ← imports_at (is_member m.0) g (i.0 ∷ []) i.1
  Ok (s.From l m.0 is.0, is.1)

-- Statements that begin with a keyword, after it; `ts` is all of the statement.
abbrev pub worded_at : Readers → ℕ → ℕ → ℕ → Reader Stmt → Reader Stmt
worded_at under g d n other ts =
    if n == 24 then print_at under g (line_of ts) (rest ts) else
    (if n == 23 then Ok (s.Pass (line_of ts), rest ts) else
    (if n == 3 then Ok (s.Break (line_of ts), rest ts) else
    (if n == 5 then Ok (s.Continue (line_of ts), rest ts) else
    (if n == 26 then (maybe_at under 15 (rest ts) >>= λ a. Ok (s.Return (line_of ts) (tree_or a.0), a.1)) else
    (if n == 25 then (if comes 14 (first (rest ts)) then (under.read 14 (rest ts) >>= raise_at under (line_of ts)) else
    Ok (s.Raise (line_of ts) None None, rest ts)) else
    (if n == 7 then (if nat_lt d 2 then Err (Deep, ts) else (do
      a ← target_at under ends_del (rest ts)
      es ← targets_at under g (start a.0) a.1
      Ok (s.Del (line_of ts) es.0.tree, es.1))) else
    (if n == 15 then (do
      m ← name_at (rest ts)
      ns ← names_at g (m.0 ∷ []) m.1
      Ok (s.Global (line_of ts) ns.0, ns.1)) else
    (if n == 2 then (if nat_lt d 2 then Err (Deep, ts) else (under.read 14 (rest ts) >>= assert_at under (line_of ts)))
    else
    (if n == 17 then (do
      i ← imported_at is_module (rest ts)
      is ← imports_at is_module g (i.0 ∷ []) i.1
      Ok (s.Import (line_of ts) is.0, is.1)) else
    (if n == 14 then from_at g (line_of ts) (rest ts) else
    (if n == 11 then Err (LeftOut left.Exec, ts) else
    (if n == 30 then Err (LeftOut left.Generator, ts) else other ts))))))))))))

unfoldable pub running_at : Readers → ℕ → Reader Stmt
running_at under g ts = under.read 15 ts >>= λ a. run_at under g (line_of ts) a (assigned_of (first a.1))

abbrev pub simple_by : Readers → ℕ → ℕ → TokenKind → Reader Stmt
simple_by under g d (k.Keyword n) ts = worded_at under g d n (running_at under g) ts
simple_by under g d _ ts = running_at under g ts

-- a simple statement with budget d above zero; `under` has one less
unfoldable pub simple_at : Readers → ℕ → ℕ → Reader Stmt
simple_at under g d ts = simple_by under g d (first ts) ts

-- further simple statements, each after a semicolon, which may also trail; up to the Newline
unfoldable pub line_more : Reader Stmt → ℕ → List Stmt → Reader (List Stmt)
line_more simple zero found ts = Ok (found, ts)
line_more simple (suc g) found ts =
    if is_op 41 (first ts) then
    (if is_newline (first (rest ts)) then Ok (found, rest (rest ts)) else
    (simple (rest ts) >>= λ a. line_more simple g (found ++ a.0 ∷ []) a.1)) else
    (plain_at is_newline ts >>= λ x. Ok (found, x.1))

unfoldable pub line_at : Readers → ℕ → ℕ → Reader (List Stmt)
line_at under g d ts = simple_at under g d ts >>= λ a. line_more (simple_at under g d) g (a.0 ∷ []) a.1

-- ---- compound statements

abbrev pub Suite : Type 0
Suite = Reader (List Stmt)

-- a colon and a block
unfoldable pub body_at : Suite → Suite
body_at block ts = op_at 39 ts >>= λ c. block c.1

unfoldable pub arm_at : Readers → Suite → ℕ → Reader Arm
arm_at under block l ts = do
  a ← under.read 14 ts
  b ← body_at block a.1
  Ok (record { line = l; test = a.0.tree; body = b.0 }, b.1)

unfoldable pub elifs_at : Readers → Suite → ℕ → List Arm → Reader (List Arm)
elifs_at under block zero found ts = Ok (found, ts)
elifs_at under block (suc g) found ts = if is_keyword 8 (first ts) then (do
  a ← arm_at under block (line_of ts) (rest ts)
  elifs_at under block g (found ++ a.0 ∷ []) a.1) else Ok (found, ts)

-- a clause that this keyword begins, where it comes
unfoldable pub clause_at : ℕ → Suite → Reader (Option Clause)
clause_at n block ts = if is_keyword n (first ts) then
    (body_at block (rest ts) >>= λ b. Ok (Some (record { line = line_of ts; body = b.0 }), b.1)) else Ok (None, ts)

-- what may stand between `except` and its colon
unfoldable pub caught_at : Readers → Reader (Option Expr × Option Expr)
caught_at under ts = if comes 14 (first ts) then (do
  a ← under.read 14 ts
  if is_keyword 1 (first a.1) || is_op 38 (first a.1) then (target_at under ends_caught (rest a.1) >>= λ b.
      Ok ((Some a.0.tree, Some b.0.tree), b.1)) else Ok ((Some a.0.tree, None), a.1)) else Ok ((None, None), ts)

unfoldable pub handler_at : Readers → Suite → ℕ → Reader Handler
handler_at under block l ts = do
  c ← caught_at under ts
  b ← body_at block c.1
  Ok (record { line = l; test = (c.0).0; target = (c.0).1; body = b.0 }, b.1)

-- `except` clauses, up to one without a test
unfoldable pub handlers_at : Readers → Suite → ℕ → List Handler → Reader (List Handler)
handlers_at under block zero found ts = Ok (found, ts)
handlers_at under block (suc g) found ts = if is_keyword 10 (first ts) then (do
  h ← handler_at under block (line_of ts) (rest ts)
  if is_some h.0.test then handlers_at under block g (found ++ h.0 ∷ []) h.1 else Ok (found ++ h.0 ∷ [], h.1)) else Ok
    (found, ts)

-- after `try` and its block
unfoldable pub try_at : Readers → Suite → ℕ → Clause → Reader Stmt
try_at under block g b ts =
    if is_keyword 10 (first ts) then (do
      hs ← handlers_at under block g [] ts
      d ← clause_at 9 block hs.1
      f ← clause_at 12 block d.1
      Ok (s.Try b hs.0 d.0 f.0, f.1)) else
    (if is_keyword 12 (first ts) then (do
      f ← clause_at 12 block ts
      Ok (s.Try b [] None f.0, f.1)) else Err (Unexpected, ts))

-- a parameter; the truth value says that one before it has a default
unfoldable pub param_at : Readers → Bool → Reader Param
param_at under later ts =
    if is_op 23 (first ts) || is_op 4 (first ts) then Err (LeftOut left.StarArgument, ts) else
    (if is_op 32 (first ts) then Err (LeftOut left.TupleArgument, ts) else (do
      n ← name_at ts
      if is_op 42 (first n.1) then (under.read 14 (rest n.1) >>= λ a.
          Ok (record { name = n.0; default = Some a.0.tree }, a.1)) else
          (if later then Err (Unexpected, n.1) else Ok (record { name = n.0; default = None }, n.1))))

-- one parameter or more
unfoldable pub params_at : Readers → ℕ → Bool → List Param → Reader (List Param)
params_at under zero later found ts = Ok (found, ts)
params_at under (suc g) later found ts = do
  p ← param_at under later ts
  if is_op 38 (first p.1) then (if is_op 33 (first (rest p.1)) then Ok (found ++ p.0 ∷ [], rest p.1) else
      params_at under g (is_some p.0.default) (found ++ p.0 ∷ []) (rest p.1)) else Ok (found ++ p.0 ∷ [], p.1)

-- after `def`
unfoldable pub def_at : Readers → Suite → ℕ → ℕ → Reader Stmt
def_at under block g l ts = do
  n ← name_at ts
  open' ← op_at 32 n.1
  ps ← (if is_op 33 (first open'.1) then Ok ([], open'.1) else params_at under g false [] open'.1)
  close ← op_at 33 ps.1
  b ← body_at block close.1
  Ok (s.Def l n.0 ps.0 b.0, b.1)

-- the base of a class
unfoldable pub base_at : Readers → Reader (Option (Tall Expr))
base_at under ts = if is_op 32 (first ts) then (do
  a ← maybe_at under 14 (rest ts)
  if is_some a.0 && is_op 38 (first a.1) then Err (LeftOut left.MultipleBases, a.1) else (do
    close ← op_at 33 a.1
    Ok (a.0, close.1))) else Ok (None, ts)

-- after `class`
unfoldable pub class_at : Readers → Suite → ℕ → Reader Stmt
class_at under block l ts = do
  n ← name_at ts
  a ← base_at under n.1
  b ← body_at block a.1
  Ok (s.Class l n.0 (tree_or a.0) b.0, b.1)

-- What reads the parts of a compound statement: expressions with a budget one less, with two less, and a block.
pub record Parts : Type 0 where
  pub under : Readers
  pub lower : Readers
  -- the first of these budgets
  pub budget : ℕ
  pub block : Suite

abbrev pub compound_at : Parts → ℕ → ℕ → Reader Stmt
compound_at p g n ts =
    if n == 16 then (do
      a ← arm_at p.under p.block (line_of ts) (rest ts)
      as' ← elifs_at p.under p.block g (a.0 ∷ []) a.1
      d ← clause_at 9 p.block as'.1
      Ok (s.If as'.0 d.0, d.1)) else
    (if n == 28 then (do
      a ← arm_at p.under p.block (line_of ts) (rest ts)
      d ← clause_at 9 p.block a.1
      Ok (s.While a.0 d.0, d.1)) else
    (if n == 13 then (do
      t ← loop_at p.under p.lower p.budget g (rest ts)
      word ← keyword_at 18 t.1
      a ← p.under.read 15 word.1
      b ← body_at p.block a.1
      d ← clause_at 9 p.block b.1
      Ok (s.For (line_of ts) t.0.tree a.0.tree b.0 d.0, d.1)) else
    (if n == 27 then (do
      b ← body_at p.block (rest ts)
      try_at p.under p.block g (record { line = line_of ts; body = b.0 }) b.1) else
    (if n == 6 then def_at p.under p.block g (line_of ts) (rest ts) else class_at p.under p.block (line_of ts)
    (rest ts)))))

-- the keywords that begin compound statements
abbrev pub is_compound : ℕ → Bool
is_compound n = n == 16 || (n == 28 || (n == 13 || (n == 27 || (n == 6 || n == 4))))

abbrev pub statement_by : Parts → ℕ → ℕ → TokenKind → Suite
statement_by p g d (k.Keyword n) ts =
    if n == 29 then Err (LeftOut left.With, ts) else
    (if is_compound n then (if nat_lt d 3 then Err (Deep, ts) else (compound_at p g n ts >>= λ a. Ok (a.0 ∷ [], a.1)))
    else line_at p.under g d ts)
statement_by p g d (k.Op n) ts = if n == 43 then Err (LeftOut left.Decorator, ts) else line_at p.under g d ts
statement_by p g d _ ts = line_at p.under g d ts

-- a statement, or the simple ones of a line, with budget d above zero
unfoldable pub statement_at : Parts → ℕ → ℕ → Suite
statement_at p g d ts = statement_by p g d (first ts) ts

-- one statement or more, up to a Dedent
unfoldable pub suite_at : Suite → ℕ → List Stmt → Suite
suite_at statement zero found ts = Ok (found, ts)
suite_at statement (suc g) found ts = statement ts >>= λ a.
    (if is_dedent (first a.1) then Ok (found ++ a.0, rest a.1) else suite_at statement g (found ++ a.0) a.1)

-- a block, whose statements `statement` reads, and those of its line `line`
unfoldable pub block_at : Suite → Suite → ℕ → Suite
block_at line statement g ts = if is_newline (first ts) then (do
  x ← plain_at is_indent (rest ts)
  suite_at statement g [] x.1) else line ts

-- the simple statements of a line, with budget d
unfoldable pub line_of_at : ℕ → ℕ → Suite
line_of_at g zero ts = Err (Deep, ts)
line_of_at g (suc d) ts = line_at (readers g d) g (suc d) ts

-- a statement with budget d; its block has a budget one less, and the block's statements two less
unfoldable pub statements_at : ℕ → ℕ → Suite
statements_at g zero ts = Err (Deep, ts)
statements_at g (suc zero) ts = statement_at
    (record { under = readers g 0; lower = readers g 0; budget = 0; block = λ us. Err (Deep, us) }) g 1 ts
statements_at g (suc (suc d)) ts =
    statement_at (record {
      under = readers g (suc d);
      lower = readers g d;
      budget = suc d;
      block =
          block_at (line_of_at g d) (statements_at g d) g;
    }) g (suc (suc d)) ts

unfoldable pub body_more : Suite → ℕ → List Stmt → Suite
body_more statement zero found ts = Err (Unexpected, ts)
body_more statement (suc g) found ts =
    if is_end (first ts) then Ok (found, rest ts) else
    (if is_newline (first ts) then body_more statement g found (rest ts) else
    (statement ts >>= λ a. body_more statement g (found ++ a.0) a.1))

-- A module with budget 100: the tokens bound the turns of each loop.
unfoldable pub module_at : ℕ → Reader Module
module_at g ts = body_more (statements_at g 99) g [] ts >>= λ b. Ok (record { body = b.0 }, b.1)
