use Rattle.std.proofs.Common.{rules, ◌∙◌, ap, arith, length}
use Rattle.page_table.specs.Lists.{word_at}
use Rattle.page_table.proofs.Spans.{lengthened, zeros_after}
use Rattle.page_table.proofs.pages.lengthen.Goals as goal

pub returns-else-is_err-clause-words : goal.returns-else-is_err-clause-words
returns-else-is_err-clause-words c = lengthened _ _ _ _ _ (search rules) c.resize.ensures.items

pub words-preserved : goal.words-preserved
words-preserved c = record {
  words = ap word_at c.push_reserved.ensures.items ∙ zeros_after c.words.shared.items 1 ∙ c.words.invariant.words;
  length = omega (arith, ap (λ x. length x) c.push_reserved.ensures.items, c.words.invariant.length);
  capacity = c.push_reserved.ensures.capacity ∙ c.words.invariant.capacity;
}
