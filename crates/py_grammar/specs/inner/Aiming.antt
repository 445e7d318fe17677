-- The mirror of the code: nothing public rests on it.
-- Reading what is a target or may become one, with the first refusal that is met: what the code computes, as a function
-- on lists.
-- `Statements` says what a target is; `docs/LANGUAGE.md`, "Height" and "What is refused".
-- An expression of the level of targets becomes a target by a trailer. That is a node more, but for what ends in
-- trailers.
-- So with d left for a target, a test in brackets may be a target of d - 1, or any test of d - 2; and all in one pair
-- of brackets are the one or the other.
use Rattle.std.specs.Prelude.{ℕ, zero, suc, ◌-◌, List, Ok, Err, nat_lt, nat_le, ◌==◌, ◌||◌, if◌then◌else◌, Bool, false}
use Rattle.py_tokens.specs.declared.token.Token.{Token}
use Rattle.py_tokens.specs.declared.token.TokenKind.{TokenKind}
use Rattle.py_tokens.specs.declared.token.TokenKind.TheVariants as k
use Rattle.py_tree.specs.Form.{is_target}
use Rattle.py_tree.specs.declared.expr.Expr.{Expr}
use Rattle.py_base.specs.declared.refusal.Construct.TheVariants as left
use Rattle.py_grammar.specs.declared.fault.Fault.TheVariants.{Unexpected, LeftOut, Deep}
use Rattle.py_grammar.specs.declared.rung.Rung.{Rung}
use Rattle.py_grammar.specs.declared.rung.Rung.TheVariants.{Powered, Chained, Chosen}
use Rattle.py_grammar.specs.declared.tall.Tall.{Tall}
use Rattle.py_grammar.specs.Words.{below}
use Rattle.py_grammar.specs.inner.Tall.{push, none, start, of_name, of_group, unit, of_tuple, of_list}
use Rattle.py_grammar.specs.inner.Follow.{takes}
use Rattle.py_grammar.specs.inner.Reading.{Reads, Reader, Test, ◌>>=◌, Below, first, rest, is_op, is_keyword, starts, comes, too_deep, rung_of, power_at, chain_at, choice_at, trail_at, reads}

-- ---- a test that begins with an expression of the level of targets

-- what a rung adds after its operand
abbrev pub after_rung : Rung → Below → ℕ → ℕ → Tall Expr × List Token → Reads (Tall Expr)
after_rung Powered under g d a = power_at under d a
after_rung (Chained l) under g d a = chain_at l (under.read (below l)) g d a
after_rung Chosen under g d a = choice_at under d a
after_rung _ under g d a = Ok a

-- what the n rungs above the level of targets add, one after another
unfoldable pub grown_at : Below → ℕ → ℕ → ℕ → Tall Expr × List Token → Reads (Tall Expr)
grown_at under g d zero a = Ok a
grown_at under g d (suc n) a = grown_at under g d n a >>= after_rung (rung_of (suc n)) under g d

-- whether one of these rungs takes this after its operand
abbrev pub grows : ℕ → TokenKind → Bool
grows zero kind = false
grows (suc n) kind = grows n kind || takes (rung_of (suc n)) kind

-- after an expression of the level of targets: a test of a height of at most q, or the expression alone
unfoldable pub risen_at : ℕ → ℕ → Tall Expr × List Token → Reads (Tall Expr)
risen_at g q a = if nat_le a.0.tall q then grown_at (reads g (q - 1)) g q 13 a else
    (if grows 13 (first a.1) then Err (Deep, a.1) else Ok a)

-- a test of a height of at most q, or what `aim` reads
unfoldable pub element_at : Test → ℕ → ℕ → Test
element_at aim g q ts = if starts 1 (first ts) then (aim ts >>= risen_at g q) else (reads g q).read 14 ts

-- ---- in brackets

-- Whether these tests may stand in a pair of brackets, of which `room` is left: all are targets, or a trailer follows.
abbrev pub fine : ℕ → Tall (List Expr) → Bool
fine room found = is_target false found.form || nat_lt found.tall room

-- a test after these
unfoldable pub next_at : Test → ℕ → ℕ → Tall (List Expr) → Test
next_at aim g room found ts =
    if is_target false found.form then element_at aim g (if nat_lt found.tall room then room - 1 else 0) ts else
    (reads g (room - 1)).read 14 ts

-- further tests, each after a comma, which may also trail
unfoldable pub elements_at : Test → ℕ → ℕ → ℕ → Tall (List Expr) → Reader (Tall (List Expr))
elements_at aim g room zero found ts = Ok (found, ts)
elements_at aim g room (suc f) found ts =
    if is_op 38 (first ts) then (if fine room found then (if comes 14 (first (rest ts)) then (do
      a ← next_at aim g room found (rest ts)
      elements_at aim g room f (push found a.0) a.1) else Ok (found, rest ts)) else Err (Deep, ts)) else Ok (found, ts)

-- the closing bracket, where what is in the brackets may stand there
abbrev pub closing_at : ℕ → Bool → Reader (Unit {0})
closing_at n fits ts = if is_op n (first ts) then (if fits then Ok (tt, rest ts) else Err (Deep, ts)) else Err
    (Unexpected, ts)

unfoldable pub closed_at : ℕ → ℕ → (Tall (List Expr) → Tall Expr) → Tall (List Expr) × List Token → Reads (Tall Expr)
closed_at n room node es = closing_at n (fine room es.0) es.1 >>= λ x. Ok (node es.0, x.1)

-- after `(` and a test
abbrev pub round_rest : Test → ℕ → ℕ → Tall Expr × List Token → Reads (Tall Expr)
round_rest aim g room a =
    if is_op 33 (first a.1) then closed_at 33 room (λ es. of_group a.0) (start a.0, a.1) else
    (if is_op 38 (first a.1) then (elements_at aim g room g (start a.0) a.1 >>= closed_at 33 room of_tuple) else
    (if is_keyword 13 (first a.1) then Err (LeftOut left.Comprehension, a.1) else Err (Unexpected, a.1)))

-- after `(`
unfoldable pub aim_round : Test → ℕ → ℕ → Test
aim_round aim g room ts =
    if is_op 33 (first ts) then Ok (unit, rest ts) else
    (if is_keyword 30 (first ts) then Err (LeftOut left.Generator, ts) else
    (next_at aim g room none ts >>= round_rest aim g room))

abbrev pub list_rest : Test → ℕ → ℕ → Tall Expr × List Token → Reads (Tall Expr)
list_rest aim g room a =
    if is_keyword 13 (first a.1) then Err (LeftOut left.Comprehension, a.1) else
    (elements_at aim g room g (start a.0) a.1 >>= closed_at 35 room of_list)

-- after `[`
unfoldable pub aim_list : Test → ℕ → ℕ → Test
aim_list aim g room ts = if is_op 35 (first ts) then Ok (of_list none, rest ts) else
    (next_at aim g room none ts >>= list_rest aim g room)

-- ---- what is a target, or may become one

-- An atom, with `room` for what is in it. All but names and brackets need a trailer.
abbrev pub aim_atom : Test → ℕ → ℕ → TokenKind → Test
aim_atom aim g room (k.Name n) ts = Ok (of_name n, rest ts)
aim_atom aim g room (k.Op n) ts =
    if n == 32 then (if nat_lt room 1 then Err (Deep, ts) else aim_round aim g room (rest ts)) else
    (if n == 34 then aim_list aim g room (rest ts) else (reads g room).read 0 ts)
aim_atom aim g room kind ts = (reads g room).read 0 ts

-- An expression of the level of targets, of a height of at most d, which is a target or becomes one of at most this
-- height.
unfoldable pub aim_at : ℕ → ℕ → Test
aim_at g zero ts = Err (too_deep 1 (first ts), ts)
aim_at g (suc d) ts = aim_atom (aim_at g d) g d (first ts) ts >>= trail_at (reads g d) g (suc d)

-- an atom with its trailers, where `room` is left for what is in its brackets
abbrev pub aimed_at : ℕ → ℕ → Test
aimed_at g room ts = aim_atom (aim_at g room) g room (first ts) ts >>= trail_at (reads g room) g (suc room)

-- ---- what statements read

-- an expression of a level, and what is a target or becomes one
pub record Readers : Type 0 where
  pub read : ℕ → Test
  pub aim : Test

-- with a budget of heights; g bounds the turns of each loop
abbrev pub readers : ℕ → ℕ → Readers
readers g d = record { read = (reads g d).read; aim = aim_at g d }
