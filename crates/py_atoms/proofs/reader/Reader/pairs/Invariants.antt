use Rattle.std.proofs.Common.{◌≡◌, ◌-◌, ◌≤◌, []}
use Rattle.py_tree.specs.declared.form.Form.TheVariants.{Plain}
use Rattle.py_grammar.specs.inner.Reading.{reads, pairs_at}
use Rattle.py_grammar.specs.inner.Tall.{plain, push_pair}
use Rattle.py_atoms.proofs.reader.Reader.pairs.Given as goal

abbrev pub invariant-turns : goal.invariant-turns
invariant-turns g l =
    (pairs_at ((reads l.fn.self.turns l.fn.self.budget).read 14) l.fn.self.turns
    (push_pair (plain [] 0) l.fn.key l.fn.value) l.fn.tokens ≡ pairs_at
    ((reads l.fn.self.turns l.fn.self.budget).read 14) (l.fn.self.turns - l._turn) l.found l.more)
    × (l.found.tall ≤ l.fn.self.budget)
    × (l.found.form ≡ Plain)
