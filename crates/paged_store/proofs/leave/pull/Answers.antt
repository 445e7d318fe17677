use Rattle.std.proofs.Common.{◌+◌, ◌-◌, sym, subst, arith}
use Rattle.page_table.specs.Lists.{table_of}
use Rattle.dict_index.specs.Leaving.{Closing}
use Rattle.paged_store.specs.inner.Indexed.{home_by, pairs_by}
use Rattle.paged_store.specs.inner.Indexing.{words_from}
use Rattle.paged_store.proofs.SlotWrites.{puts_word, slot_put}
use Rattle.paged_store.proofs.EnterLemmas.{slots_room, slots_most, homes_within, home_is}
use Rattle.paged_store.proofs.LeaveLemmas.{pull_stays, pull_moves}
use Rattle.paged_store.proofs.leave.pull.Goals as goal

pub overflow_mul-word : goal.overflow_mul-word
overflow_mul-word c = omega (
  arith,
  c.requires.pair,
  c.word-word.ensures,
  slots_room c.args.k c.args.d c.args.place c.args.n (table_of c.args.pages.now) c.requires.can.slots,
  slots_most c.args.k c.args.d c.args.place c.args.n (table_of c.args.pages.now) c.requires.can.slots,
)

pub home-from-requires-clause-few : goal.home-from-requires-clause-few
home-from-requires-clause-few c =
    omega (arith, slots_most c.args.k c.args.d c.args.place c.args.n (table_of c.args.pages.now) c.requires.can.slots)

pub distance-requires-clause-few : goal.distance-requires-clause-few
distance-requires-clause-few c =
    omega (arith, slots_most c.args.k c.args.d c.args.place c.args.n (table_of c.args.pages.now) c.requires.can.slots)

pub distance-requires-2-clause-few : goal.distance-requires-2-clause-few
distance-requires-2-clause-few c =
    omega (arith, slots_most c.args.k c.args.d c.args.place c.args.n (table_of c.args.pages.now) c.requires.can.slots)

pub returns-then-distance-clause-closing : goal.returns-then-distance-clause-closing
returns-then-distance-clause-closing c = λ p start j l m e q.
    pull_stays (home_by ((table_of c.args.pages.now).word c.args.k) c.args.d) c.args.n
    (words_from ((table_of c.args.pages.now).word c.args.k) c.args.place)
    (pairs_by ((table_of c.args.pages.now).word c.args.k) c.args.d) c.args.hole c.args.at c.home-from.result
    c.word-word.result c.word-word.ensures c.requires.full
    (home_is c.args.k c.args.d c.args.place c.args.n (table_of c.args.pages.now) c.requires.can.slots
    (c.word-word.result - 1) c.home-from.result c.val.result c.val.ensures c.home-from.ensures.value) p start j
    (omega (arith, c.distance.ensures, c.distance-2.ensures, c.if-distance.true)) l m e q

pub returns-else-distance-clause-puts : goal.returns-else-distance-clause-puts
returns-else-distance-clause-puts c = puts_word c.args.k c.args.place c.args.n c.args.hole c.word-word.result
    (table_of c.args.pages.now) (table_of c.write_word.new.self) c.requires.hole c.write_word.ensures

pub returns-else-distance-clause-closing : goal.returns-else-distance-clause-closing
returns-else-distance-clause-closing c = λ p start j l m e q.
    subst (λ z. Closing (home_by ((table_of c.args.pages.now).word c.args.k) c.args.d) c.args.n z
    (pairs_by ((table_of c.args.pages.now).word c.args.k) c.args.d) p start c.args.at (j + 1))
    (sym (slot_put c.args.k c.args.place c.args.hole c.word-word.result (table_of c.args.pages.now)
    (table_of c.write_word.new.self) c.write_word.ensures))
    (pull_moves (home_by ((table_of c.args.pages.now).word c.args.k) c.args.d) c.args.n
    (words_from ((table_of c.args.pages.now).word c.args.k) c.args.place)
    (pairs_by ((table_of c.args.pages.now).word c.args.k) c.args.d) c.args.hole c.args.at c.home-from.result
    c.word-word.result c.word-word.ensures c.requires.full
    (home_is c.args.k c.args.d c.args.place c.args.n (table_of c.args.pages.now) c.requires.can.slots
    (c.word-word.result - 1) c.home-from.result c.val.result c.val.ensures c.home-from.ensures.value) p start j
    (λ i r. homes_within c.args.k c.args.d c.args.place c.args.n (table_of c.args.pages.now) c.requires.can.slots i)
    (omega (arith, c.distance.ensures, c.distance-2.ensures, c.if-distance.false)) l m e q)
