use Rattle.std.proofs.Common.{◌≡◌, ◌-◌, ◌≤◌, []}
use Rattle.py_tree.specs.declared.form.Form.TheVariants.{Plain}
use Rattle.py_grammar.specs.inner.Reading.{reads, links_at}
use Rattle.py_grammar.specs.inner.Tall.{plain}
use Rattle.py_grammar.specs.Words.{below}
use Rattle.py_exprs.proofs.level.links.Given as goal

abbrev pub invariant-turns : goal.invariant-turns
invariant-turns g l =
    (links_at l.fn.level ((reads l.fn.reader.turns l.fn.reader.budget).read (below l.fn.level)) l.fn.reader.turns
    (plain [] 0) l.fn.tokens ≡ links_at l.fn.level
    ((reads l.fn.reader.turns l.fn.reader.budget).read (below l.fn.level)) (l.fn.reader.turns - l._turn) l.found l.more)
    × (l.found.tall ≤ l.fn.reader.budget)
    × (l.found.form ≡ Plain)
