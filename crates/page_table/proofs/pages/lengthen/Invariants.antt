use Rattle.std.proofs.Common.{◌≡◌, ◌+◌, length, vec_capacity}
use Rattle.page_table.specs.Lists.{word_at}
use Rattle.page_table.proofs.pages.lengthen.Given as goal

abbrev pub invariant-words : goal.invariant-words
invariant-words l = record {
  words : word_at l.shared.items ≡ word_at l.initial.shared.items;
  length : length l.shared.items ≡ length l.initial.shared.items + l._i;
  capacity : vec_capacity l.shared ≡ vec_capacity l.initial.shared;
}
