use Rattle.std.proofs.Common.{◌≡◌, ◌+◌, ◌≤◌, sym, ap, ◌∙◌, subst, arith}
use Rattle.page_table.specs.Lists.{table_of}
use Rattle.dict_index.specs.Slots.{slot}
use Rattle.dict_index.proofs.Circle.{next_within}
use Rattle.dict_index.proofs.Closing.{hole_begins, closing_ends}
use Rattle.dict_index.proofs.Walking.{walks_on}
use Rattle.paged_store.specs.inner.Indexed.{home_by, pairs_by}
use Rattle.paged_store.specs.inner.Indexing.{words_from}
use Rattle.paged_store.proofs.PutLemmas.{can_at}
use Rattle.paged_store.proofs.SlotWrites.{puts_none, puts_then, puts_word, puts_can, homes_put, pairs_put, can_put}
use Rattle.paged_store.proofs.EnterLemmas.{slots_room, slots_most}
use Rattle.paged_store.proofs.LeaveLemmas.{pair_stands, closing_by, gap_closed}
use Rattle.paged_store.proofs.leave.close.Goals as goal

pub overflow_mul-pair : goal.overflow_mul-pair
overflow_mul-pair c = omega (
  arith,
  c.requires.pair,
  slots_room c.args.k c.args.d c.args.place c.args.n (table_of c.args.pages.now) c.requires.can.slots,
  slots_most c.args.k c.args.d c.args.place c.args.n (table_of c.args.pages.now) c.requires.can.slots,
)

pub home-start-requires-clause-few : goal.home-start-requires-clause-few
home-start-requires-clause-few c =
    omega (arith, slots_most c.args.k c.args.d c.args.place c.args.n (table_of c.args.pages.now) c.requires.can.slots)

pub slot_of-first-requires-clause-pair : goal.slot_of-first-requires-clause-pair
slot_of-first-requires-clause-pair c = omega (
  arith,
  c.requires.pair,
  slots_room c.args.k c.args.d c.args.place c.args.n (table_of c.args.pages.now) c.requires.can.slots,
  slots_most c.args.k c.args.d c.args.place c.args.n (table_of c.args.pages.now) c.requires.can.slots,
)

pub slot_of-first-requires-clause-there : goal.slot_of-first-requires-clause-there
slot_of-first-requires-clause-there c = pair_stands c.args.k c.args.d c.args.place c.args.n c.home-start.result
    c.args.pair c.val.result (table_of c.args.pages.now) c.requires.can.slots c.requires.index
    c.requires.pair c.val.ensures
    c.home-start.ensures.value

pub slots-init : goal.slots-init
slots-init c = record {
  at = λ l. c.next-at.ensures;
  within = next_within c.args.n c.slot_of-first.result c.next-at.result c.slot_of-first.ensures.within
      c.next-at.ensures;
  hole = c.slot_of-first.ensures.within;
  puts = puts_none c.args.k c.args.place c.args.n (table_of c.args.pages.now);
  closing = hole_begins (home_by ((table_of c.args.pages.now).word c.args.k) c.args.d) c.args.n
      (words_from ((table_of c.args.pages.now).word c.args.k) c.args.place)
      (pairs_by ((table_of c.args.pages.now).word c.args.k) c.args.d) c.args.pair c.slot_of-first.result
      c.requires.index c.slot_of-first.ensures.within c.slot_of-first.ensures.found;
}

pub write_word-requires-clause-own : goal.write_word-requires-clause-own
write_word-requires-clause-own c = (can_at c.args.k c.args.place c.args.n c.slots.hole (table_of c.slots.pages)
    c.slots.invariant.hole (puts_can c.args.k c.args.place c.args.n (table_of c.args.pages.now)
    (table_of c.slots.pages) c.slots.invariant.puts c.requires.can.may)).1

pub returns-then-word-eq0-clause-puts : goal.returns-then-word-eq0-clause-puts
returns-then-word-eq0-clause-puts c = puts_then c.args.k c.args.place c.args.n (table_of c.args.pages.now)
    (table_of c.slots.pages) (table_of c.write_word.new.self) c.slots.invariant.puts
    (puts_word c.args.k c.args.place c.args.n c.slots.hole 0 (table_of c.slots.pages)
    (table_of c.write_word.new.self) c.slots.invariant.hole c.write_word.ensures)

pub returns-then-word-eq0-clause-gapped : goal.returns-then-word-eq0-clause-gapped
returns-then-word-eq0-clause-gapped c = gap_closed c.args.k c.args.d c.args.place c.args.n c.args.pair
    c.slot_of-first.result c.slots.hole c.slots.j (table_of c.args.pages.now) (table_of c.slots.pages)
    (table_of c.write_word.new.self) c.requires.can.slots c.slots.invariant.puts c.slots.invariant.closing
    c.slot_of-first.ensures.within c.slots-test.true
    (ap (λ z. (table_of c.slots.pages).word c.args.k (c.args.place + z))
    (sym (c.slots.invariant.at c.slots-test.true)) ∙ sym c.word.ensures ∙ c.if-word-eq0.true) c.write_word.ensures

pub pull-hole-requires-clause-can : goal.pull-hole-requires-clause-can
pull-hole-requires-clause-can c = can_put c.args.k c.args.place c.args.n (table_of c.args.pages.now)
    (table_of c.slots.pages) c.slots.invariant.puts c.args.d c.requires.can

pub pull-hole-requires-clause-pair : goal.pull-hole-requires-clause-pair
pull-hole-requires-clause-pair c =
    let most : words_from ((table_of c.slots.pages).word c.args.k) c.args.place c.slots.at ≤
    pairs_by ((table_of c.args.pages.now).word c.args.k) c.args.d =
    c.slots.invariant.closing.holed.only c.slots.at c.slots.invariant.within in
    subst (λ z. words_from ((table_of c.slots.pages).word c.args.k) c.args.place c.slots.at ≤ z)
    (sym (pairs_put c.args.k c.args.place c.args.n (table_of c.args.pages.now) (table_of c.slots.pages)
    c.slots.invariant.puts c.args.d c.requires.can.slots)) most

pub slots-preserved : goal.slots-preserved
slots-preserved c =
    let at : c.slots.at ≡ slot c.args.n c.slot_of-first.result c.slots.j =
    c.slots.invariant.at c.slots-test.true in
    let homes : home_by ((table_of c.slots.pages).word c.args.k) c.args.d ≡
    home_by ((table_of c.args.pages.now).word c.args.k) c.args.d = homes_put c.args.k c.args.place c.args.n
    (table_of c.args.pages.now) (table_of c.slots.pages) c.slots.invariant.puts c.args.d c.requires.can.slots in
    let pairs : pairs_by ((table_of c.slots.pages).word c.args.k) c.args.d ≡
    pairs_by ((table_of c.args.pages.now).word c.args.k) c.args.d = pairs_put c.args.k c.args.place c.args.n
    (table_of c.args.pages.now) (table_of c.slots.pages) c.slots.invariant.puts c.args.d c.requires.can.slots in
    record {
      at = λ l. walks_on c.args.n c.slot_of-first.result c.slots.j c.slots.at c.next-at-in-slots.result
          c.slot_of-first.ensures.within at c.next-at-in-slots.ensures l;
      within = next_within c.args.n c.slots.at c.next-at-in-slots.result c.slots.invariant.within
          c.next-at-in-slots.ensures;
      hole = c.pull-hole.ensures.within;
      puts = puts_then c.args.k c.args.place c.args.n (table_of c.args.pages.now) (table_of c.slots.pages)
          (table_of c.pull-hole.new.pages) c.slots.invariant.puts c.pull-hole.ensures.puts;
      closing = closing_by _ _ c.args.n _ _ _ c.args.pair c.slot_of-first.result c.pull-hole.result (c.slots.j + 1)
          homes pairs (c.pull-hole.ensures.closing c.args.pair c.slot_of-first.result c.slots.j
          c.slot_of-first.ensures.within c.slots-test.true at
          (closing_by _ _ c.args.n _ _ _ c.args.pair c.slot_of-first.result c.slots.hole c.slots.j (sym homes)
          (sym pairs) c.slots.invariant.closing));
    }

pub unreachable-requires : goal.unreachable-requires
unreachable-requires c = closing_ends _ c.args.n _ _ c.args.pair c.slot_of-first.result c.slots.hole c.slots.j
    c.slots.invariant.closing c.slot_of-first.ensures.within c.slots-test.false
    (slots_room c.args.k c.args.d c.args.place c.args.n (table_of c.args.pages.now) c.requires.can.slots)
