use Rattle.std.proofs.Common.{◌≡◌, sym, ap, ◌∙◌, arith, below_more}
use Rattle.page_table.specs.Lists.{table_of}
use Rattle.dict_index.specs.Slots.{slot}
use Rattle.dict_index.proofs.Circle.{slot_zero, next_within}
use Rattle.dict_index.proofs.Walking.{walks_on}
use Rattle.paged_store.specs.inner.Sight.{words_seen}
use Rattle.paged_store.specs.inner.Indexing.{words_from}
use Rattle.paged_store.proofs.leave.slot_of.Goals as goal

pub slots-init : goal.slots-init
slots-init c = record {
  at = λ l. sym (slot_zero _ c.args.start c.requires.start);
  within = c.requires.start;
  others = λ e l. absurd (omega arith);
}

pub slots-preserved : goal.slots-preserved
slots-preserved c =
    let at : c.slots.at ≡ slot c.args.n c.args.start c.slots.j = c.slots.invariant.at c.slots-test.true in
    let e : c.word.result ≡ words_from (words_seen (table_of c.args.pages.now) c.args.seen) c.args.place
    (slot c.args.n c.args.start c.slots.j) = c.word.ensures ∙
    ap (words_from (words_seen (table_of c.args.pages.now) c.args.seen) c.args.place) at in
    record {
      at = λ l. walks_on c.args.n c.args.start c.slots.j c.slots.at c.next-at.result c.requires.start at
          c.next-at.ensures l;
      within = next_within c.args.n c.slots.at c.next-at.result c.slots.invariant.within c.next-at.ensures;
      others = below_more _ c.slots.j c.slots.invariant.others (λ z. c.if-word-pair.false (e ∙ z));
    }
