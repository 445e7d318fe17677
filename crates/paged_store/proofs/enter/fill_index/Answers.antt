use Rattle.std.proofs.Common.{◌≡◌, ◌+◌, ◌<◌, sym, subst, ◌∙◌, arith}
use Rattle.page_table.specs.Lists.{table_of}
use Rattle.dict_index.specs.Index.{IsIndex}
use Rattle.paged_store.specs.inner.Indexed.{home_by, pairs_by}
use Rattle.paged_store.specs.inner.Indexing.{words_from, CanIndex}
use Rattle.paged_store.proofs.SlotWrites.{puts_none, puts_then, homes_put, pairs_put, can_put}
use Rattle.paged_store.proofs.IndexLemmas.{pairs_count}
use Rattle.paged_store.proofs.EnterLemmas.{can_index_by, blank_begins, indexed_after}
use Rattle.paged_store.proofs.enter.fill_index.Goals as goal

pub pairs-init : goal.pairs-init
pairs-init c = record {
  puts = puts_none c.args.k c.slots-place.result.0 c.slots-place.result.1 (table_of c.args.pages.now);
  index = blank_begins c.args.k c.args.d c.slots-place.result.0 c.slots-place.result.1 (table_of c.args.pages.now)
      c.slots-place.ensures.place c.slots-place.ensures.size c.requires.blank;
}

pub enter-requires-clause-can : goal.enter-requires-clause-can
enter-requires-clause-can c = can_put c.args.k c.slots-place.result.0 c.slots-place.result.1
    (table_of c.args.pages.now) (table_of c.pairs.pages) c.pairs.invariant.puts c.args.d
    (can_index_by c.args.k c.args.d c.slots-place.result.0 c.slots-place.result.1 (table_of c.args.pages.now)
    c.slots-place.ensures.place c.slots-place.ensures.size c.requires.can)

pub enter-requires-clause-index : goal.enter-requires-clause-index
enter-requires-clause-index c =
    let can : CanIndex c.args.k c.args.d c.slots-place.result.0 c.slots-place.result.1 (table_of c.args.pages.now) =
    can_index_by c.args.k c.args.d c.slots-place.result.0 c.slots-place.result.1 (table_of c.args.pages.now)
    c.slots-place.ensures.place c.slots-place.ensures.size c.requires.can in
    subst (λ z. IsIndex z c.slots-place.result.1
    (words_from ((table_of c.pairs.pages).word c.args.k) c.slots-place.result.0) c.pairs.m)
    (sym (homes_put c.args.k c.slots-place.result.0 c.slots-place.result.1 (table_of c.args.pages.now)
    (table_of c.pairs.pages) c.pairs.invariant.puts c.args.d can.slots)) c.pairs.invariant.index

pub enter-requires-clause-pair : goal.enter-requires-clause-pair
enter-requires-clause-pair c =
    let can : CanIndex c.args.k c.args.d c.slots-place.result.0 c.slots-place.result.1 (table_of c.args.pages.now) =
    can_index_by c.args.k c.args.d c.slots-place.result.0 c.slots-place.result.1 (table_of c.args.pages.now)
    c.slots-place.ensures.place c.slots-place.ensures.size c.requires.can in
    subst (λ z. c.pairs.m < z) (pairs_count _ c.args.d c.len-count.result c.requires.can.slots.kind
    c.len-count.ensures ∙
    sym (pairs_put c.args.k c.slots-place.result.0 c.slots-place.result.1 (table_of c.args.pages.now)
    (table_of c.pairs.pages) c.pairs.invariant.puts c.args.d can.slots)) c.pairs-test.true

pub pairs-preserved : goal.pairs-preserved
pairs-preserved c =
    let can : CanIndex c.args.k c.args.d c.slots-place.result.0 c.slots-place.result.1 (table_of c.args.pages.now) =
    can_index_by c.args.k c.args.d c.slots-place.result.0 c.slots-place.result.1 (table_of c.args.pages.now)
    c.slots-place.ensures.place c.slots-place.ensures.size c.requires.can in
    record {
      puts = puts_then c.args.k c.slots-place.result.0 c.slots-place.result.1 (table_of c.args.pages.now)
          (table_of c.pairs.pages) (table_of c.enter.new.pages) c.pairs.invariant.puts c.enter.ensures.puts;
      index = subst (λ z. IsIndex z c.slots-place.result.1
          (words_from ((table_of c.enter.new.pages).word c.args.k) c.slots-place.result.0) (c.pairs.m + 1))
          (homes_put c.args.k c.slots-place.result.0 c.slots-place.result.1 (table_of c.args.pages.now)
          (table_of c.pairs.pages) c.pairs.invariant.puts c.args.d can.slots) c.enter.ensures.index;
    }

pub returns-clause-index : goal.returns-clause-index
returns-clause-index c =
    let all : c.pairs.m ≡ pairs_by ((table_of c.args.pages.now).word c.args.k) c.args.d = omega (
      arith,
      pairs_count _ c.args.d c.len-count.result c.requires.can.slots.kind c.len-count.ensures,
      c.pairs.auto.m-end,
      c.pairs-test.false,
    ) in
    indexed_after c.args.k c.args.d c.slots-place.result.0 c.slots-place.result.1 (table_of c.args.pages.now)
    (table_of c.pairs.pages)
    (can_index_by c.args.k c.args.d c.slots-place.result.0 c.slots-place.result.1 (table_of c.args.pages.now)
    c.slots-place.ensures.place c.slots-place.ensures.size c.requires.can).slots c.pairs.invariant.puts
    (subst (λ z. IsIndex (home_by ((table_of c.args.pages.now).word c.args.k) c.args.d) c.slots-place.result.1
    (words_from ((table_of c.pairs.pages).word c.args.k) c.slots-place.result.0) z) all c.pairs.invariant.index)
