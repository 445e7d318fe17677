use Rattle.std.proofs.Common.{sym}
use Rattle.std.proofs.lemmas.List.{append-nil}
use Rattle.py_names.proofs.Added.{two, three}
use Rattle.py_names.proofs.Said.{told_int, told_str, told_trail, told_power, told_chain, told_choice, said_slice, said_call}
use Rattle.py_names.proofs.expression.+expressions.Goals as goal

pub expression-returns-in-Int : goal.expression-returns-in-Int
expression-returns-in-Int t c = rw (c.in-Int.is, told_int c.args.role c.args.line c.in-Int.field-0) (sym (append-nil _))

pub expression-returns-in-Str : goal.expression-returns-in-Str
expression-returns-in-Str t c = rw (c.in-Str.is, told_str c.args.role c.args.line c.in-Str.field-0) (sym (append-nil _))

pub expression-returns-in_ok-trailers-in-Trail : goal.expression-returns-in_ok-trailers-in-Trail
expression-returns-in_ok-trailers-in-Trail t c =
    rw (
      c.in-Trail.is,
      told_trail c.args.role c.args.line c.in-Trail.a c.in-Trail.items,
      ← c.get-in-Trail.ensures,
      ← c.as_slice-in-Trail.ensures,
    )
    (two _ _ _ c.in_ok-expression-in-Trail.ensures c.in_ok-trailers-in-Trail.ensures)

pub expression-returns-in_ok-expression-in-Power-2 : goal.expression-returns-in_ok-expression-in-Power-2
expression-returns-in_ok-expression-in-Power-2 t c =
    rw (
      c.in-Power.is,
      told_power c.args.role c.args.line c.in-Power.a c.in-Power.b,
      ← c.get-in-Power.ensures,
      ← c.get-in-Power-2.ensures,
    )
    (two _ _ _ c.in_ok-expression-in-Power.ensures c.in_ok-expression-in-Power-2.ensures)

pub expression-returns-in_ok-links-in-Chain : goal.expression-returns-in_ok-links-in-Chain
expression-returns-in_ok-links-in-Chain t c =
    rw (
      c.in-Chain.is,
      told_chain c.args.role c.args.line c.in-Chain.field-0 c.in-Chain.a c.in-Chain.items,
      ← c.get-in-Chain.ensures,
      ← c.as_slice-in-Chain.ensures,
    )
    (two _ _ _ c.in_ok-expression-in-Chain.ensures c.in_ok-links-in-Chain.ensures)

pub expression-returns-in_ok-expression-in-Choice-3 : goal.expression-returns-in_ok-expression-in-Choice-3
expression-returns-in_ok-expression-in-Choice-3 t c =
    rw (
      c.in-Choice.is,
      told_choice c.args.role c.args.line c.in-Choice.a c.in-Choice.c c.in-Choice.b,
      ← c.get-in-Choice.ensures,
      ← c.get-in-Choice-2.ensures,
      ← c.get-in-Choice-3.ensures,
    )
    (three _ _ _ _ c.in_ok-expression-in-Choice.ensures c.in_ok-expression-in-Choice-2.ensures
    c.in_ok-expression-in-Choice-3.ensures)

pub trailer-returns-in_ok-bound-in-Slice-2 : goal.trailer-returns-in_ok-bound-in-Slice-2
trailer-returns-in_ok-bound-in-Slice-2 t c =
    rw (c.in-Slice.is, said_slice c.args.line c.in-Slice.a c.in-Slice.b)
    (two _ _ _ c.in_ok-bound-in-Slice.ensures c.in_ok-bound-in-Slice-2.ensures)

pub trailer-returns-in_ok-keywords-in-Call : goal.trailer-returns-in_ok-keywords-in-Call
trailer-returns-in_ok-keywords-in-Call t c =
    rw (
      c.in-Call.is,
      said_call c.args.line c.in-Call.items c.in-Call.named,
      ← c.as_slice.ensures,
      ← c.as_slice-in-Call.ensures,
    )
    (two _ _ _ c.in_ok-expressions-in-Call.ensures c.in_ok-keywords-in-Call.ensures)
