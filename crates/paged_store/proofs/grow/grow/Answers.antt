use Rattle.std.proofs.Common.{ℕ, List, [], ◌∷◌, length, ap, arith}
use Rattle.page_table.specs.Pages.{Table}
use Rattle.page_table.specs.Lists.{table_of}
use Rattle.paged_store.specs.Paged.{drafted}
use Rattle.paged_store.specs.inner.Growing.{grown_class, grown_index}
use Rattle.paged_store.specs.inner.Writing.{desk}
use Rattle.paged_store.proofs.RiseLemmas.{rises_kept}
use Rattle.paged_store.proofs.grow.grow.Goals as goal

pub take_grown-requires-clause-grows : goal.take_grown-requires-clause-grows
take_grown-requires-clause-grows c = record {
  stands = c.requires.grows.stands;
  class = c.requires.grows.class;
  count = c.requires.grows.count;
  room = (let r = c.requires.grows.room in omega (arith, r));
}

pub write_grown-requires-clause-can : goal.write_grown-requires-clause-can
write_grown-requires-clause-can c = c.in-Ok.ensures.ok.can (length c.args.vs.now) c.requires.grows

pub returns-in-Ok-clause-ok : goal.returns-in-Ok-clause-ok
returns-in-Ok-clause-ok c =
    let r = c.in-Ok.ensures.ok in
    record {
      body = c.in-Ok.body;
      index = c.in-Ok.index;
      ready = r.ready;
      taken = desk c.take_grown.new.pages c.take_grown.new.draft;
      readied = r.readied;
      takes = r.takes;
      can = r.can (length c.args.vs.now) c.requires.grows;
      puts = λ i. record { table = c.write_grown.ensures i; draft = drafted c.take_grown.new.draft };
    }

pub returns-in-Ok-clause-rises : goal.returns-in-Ok-clause-rises
returns-in-Ok-clause-rises c =
    let w = (table_of c.args.pages.now).word c.args.k in
    let wanted : List ℕ = grown_class w c.args.a ∷ grown_index w c.args.a ∷ 0 ∷ [] in
    rises_kept wanted (table_of c.args.pages.now) (table_of c.take_grown.new.pages)
    (table_of c.write_grown.new.pages) c.take_grown.ensures.rises
    (ap (λ (t : Table). t.shelf) c.write_grown.ensures)
