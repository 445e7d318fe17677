use Rattle.std.proofs.Common.{◌≡◌, ◌+◌, ◌*◌, ◌≤◌, length}
use Rattle.py_tree.specs.Height.{height, height_trailer, tops, tops_links, tops_named, tops_pairs, tops_trailers, top_or}
use Rattle.py_templates.specs.inner.Reads.{read_links, read_named, read_pairs, read_trailers}
use Rattle.py_uses.specs.inner.Tallies.{inside, tally, told_all}
use Rattle.py_uses.proofs.uses.+uses.Given as goal

abbrev pub invariant-expressions-items : goal.invariant-expressions-items
invariant-expressions-items l = (tally l.out (told_all l.role (inside l.all l.b) l.rest) ≡ tally l.initial.out
    (told_all l.role (inside l.all l.b) l.items)) × (tops l.rest ≤ tops l.items)

abbrev pub decreases-expressions-items : goal.decreases-expressions-items
decreases-expressions-items l = length l.rest

abbrev pub invariant-keywords-items : goal.invariant-keywords-items
invariant-keywords-items l = (tally l.out (read_named (inside l.all l.b) l.rest) ≡ tally l.initial.out
    (read_named (inside l.all l.b) l.items)) × (tops_named l.rest ≤ tops_named l.items)

abbrev pub decreases-keywords-items : goal.decreases-keywords-items
decreases-keywords-items l = length l.rest

abbrev pub invariant-links-items : goal.invariant-links-items
invariant-links-items l = (tally l.out (read_links (inside l.all l.b) l.rest) ≡ tally l.initial.out
    (read_links (inside l.all l.b) l.items)) × (tops_links l.rest ≤ tops_links l.items)

abbrev pub decreases-links-items : goal.decreases-links-items
decreases-links-items l = length l.rest

abbrev pub invariant-pairs-items : goal.invariant-pairs-items
invariant-pairs-items l = (tally l.out (read_pairs (inside l.all l.b) l.rest) ≡ tally l.initial.out
    (read_pairs (inside l.all l.b) l.items)) × (tops_pairs l.rest ≤ tops_pairs l.items)

abbrev pub decreases-pairs-items : goal.decreases-pairs-items
decreases-pairs-items l = length l.rest

abbrev pub invariant-trailers-items : goal.invariant-trailers-items
invariant-trailers-items l = (tally l.out (read_trailers (inside l.all l.b) l.rest) ≡ tally l.initial.out
    (read_trailers (inside l.all l.b) l.items)) × (tops_trailers l.rest ≤ tops_trailers l.items)

abbrev pub decreases-trailers-items : goal.decreases-trailers-items
decreases-trailers-items l = length l.rest

abbrev pub decreases-expression : goal.decreases-expression
decreases-expression l = 8 * height l.x.now

abbrev pub decreases-expressions : goal.decreases-expressions
decreases-expressions l = 8 * tops l.items.now + 2

abbrev pub decreases-keywords : goal.decreases-keywords
decreases-keywords l = 8 * tops_named l.items.now + 2

abbrev pub decreases-links : goal.decreases-links
decreases-links l = 8 * tops_links l.items.now + 2

abbrev pub decreases-pairs : goal.decreases-pairs
decreases-pairs l = 8 * tops_pairs l.items.now + 2

abbrev pub decreases-bound : goal.decreases-bound
decreases-bound l = 8 * top_or l.x.now + 2

abbrev pub decreases-trailer : goal.decreases-trailer
decreases-trailer l = 8 * height_trailer l.x.now + 3

abbrev pub decreases-trailers : goal.decreases-trailers
decreases-trailers l = 8 * tops_trailers l.items.now + 4
