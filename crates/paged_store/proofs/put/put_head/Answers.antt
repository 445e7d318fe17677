use Rattle.std.proofs.Common.{◌*◌, ◌/◌, ◌∙◌, ap, arith}
use Rattle.page_table.specs.Pages.{Table}
use Rattle.page_table.specs.Lists.{table_of}
use Rattle.paged_store.proofs.PutLemmas.{can_at, can_first, head_put}
use Rattle.paged_store.proofs.put.put_head.Goals as goal

pub write_two-requires-clause-own : goal.write_two-requires-clause-own
write_two-requires-clause-own c =
    (can_at c.args.k (2 * c.args.a) 4 2 (table_of c.args.pages.now) (omega arith) c.requires.may).1

pub write_word-requires-clause-own : goal.write_word-requires-clause-own
write_word-requires-clause-own c = ap (λ (t : Table). t.own c.args.k (2 * c.args.a / 512)) c.write_two.ensures ∙
    (can_first c.args.k (2 * c.args.a) 4 (table_of c.args.pages.now) (omega arith)
    c.requires.may).1

pub returns : goal.returns
returns c = head_put c.args.k c.args.a c.args.first c.args.body c.args.index c.from-2.result c.from.result
    (table_of c.args.pages.now) (table_of c.write_two.new.self) (table_of c.write_word.new.self) c.write_two.ensures
    c.write_word.ensures c.from-2.ensures c.from.ensures
