use Rattle.std.proofs.Common.{◌*◌, ◌+◌, ◌/◌, ◌∙◌, ap, arith}
use Rattle.page_table.specs.Pages.{Table}
use Rattle.page_table.specs.Lists.{table_of}
use Rattle.paged_store.proofs.PutLemmas.{can_at, header_put}
use Rattle.paged_store.proofs.put.put_header.Goals as goal

pub write_two-requires-2-clause-own : goal.write_two-requires-2-clause-own
write_two-requires-2-clause-own c =
    ap (λ (t : Table). t.own c.args.k ((2 * c.args.a + 2) / 512)) c.write_two.ensures ∙
    (can_at c.args.k (2 * c.args.a) 4 2 (table_of c.args.pages.now) (omega arith) c.requires.may).1

pub returns : goal.returns
returns c = header_put c.args.k c.args.a c.args.first c.args.count c.args.body c.args.index c.from-2.result
    c.from.result (table_of c.args.pages.now) (table_of c.write_two.new.self) (table_of c.write_two-2.new.self)
    c.write_two.ensures c.write_two-2.ensures c.from-2.ensures c.from.ensures
