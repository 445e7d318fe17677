use Rattle.std.proofs.Common.{◌≡◌, sym, ap, ◌∙◌, arith, below_more}
use Rattle.page_table.specs.Lists.{table_of}
use Rattle.dict_index.specs.Slots.{slot}
use Rattle.dict_index.proofs.Circle.{slot_zero, next_within}
use Rattle.dict_index.proofs.Walking.{walks_on, not_all_full}
use Rattle.paged_store.specs.inner.Sight.{words_seen}
use Rattle.paged_store.specs.inner.Indexing.{words_from}
use Rattle.paged_store.proofs.index.empty_slot.Goals as goal

pub slots-init : goal.slots-init
slots-init c = record {
  at = λ l. sym (slot_zero _ c.args.start c.requires.within);
  within = c.requires.within;
  filled = λ e l. absurd (omega arith);
}

pub slots-preserved : goal.slots-preserved
slots-preserved c =
    let at : c.slots.at ≡ slot c.args.n c.args.start c.slots.d = c.slots.invariant.at c.slots-test.true in
    let e : c.word.result ≡ words_from (words_seen (table_of c.args.pages.now) c.args.seen) c.args.place
    (slot c.args.n c.args.start c.slots.d) = c.word.ensures ∙
    ap (words_from (words_seen (table_of c.args.pages.now) c.args.seen) c.args.place) at in
    record {
      at = λ l. walks_on c.args.n c.args.start c.slots.d c.slots.at c.next-at.result c.requires.within at
          c.next-at.ensures l;
      within = next_within c.args.n c.slots.at c.next-at.result c.slots.invariant.within c.next-at.ensures;
      filled = below_more _ c.slots.d c.slots.invariant.filled (λ z. c.if-word-eq0.false (e ∙ z));
    }

pub unreachable-requires : goal.unreachable-requires
unreachable-requires c = not_all_full c.args.n
    (words_from (words_seen (table_of c.args.pages.now) c.args.seen) c.args.place) c.args.start c.requires.within
    (λ e l. c.slots.invariant.filled e (omega (arith, c.slots-test.false))) c.requires.room
