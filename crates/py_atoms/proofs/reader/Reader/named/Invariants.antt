use Rattle.std.proofs.Common.{◌≡◌, ◌-◌, ◌≤◌, []}
use Rattle.py_tree.specs.declared.form.Form.TheVariants.{Plain}
use Rattle.py_grammar.specs.inner.Reading.{reads, named_at}
use Rattle.py_grammar.specs.inner.Tall.{plain, push_named}
use Rattle.py_atoms.proofs.reader.Reader.named.Given as goal

abbrev pub invariant-turns : goal.invariant-turns
invariant-turns g l =
    (named_at ((reads l.fn.self.turns l.fn.self.budget).read 14) l.fn.most
    (push_named (plain [] 0) l.fn.name l.fn.value) l.fn.tokens ≡ named_at
    ((reads l.fn.self.turns l.fn.self.budget).read 14) (l.fn.most - l._turn) l.found l.more)
    × (l.found.tall ≤ l.fn.self.budget)
    × (l.found.form ≡ Plain)
