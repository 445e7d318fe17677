use Rattle.std.proofs.Common.{◌-◌, sym, subst}
use Rattle.page_table.specs.Lists.{table_of}
use Rattle.dict_index.specs.Index.{IsIndex}
use Rattle.dict_index.specs.Leaving.{skip}
use Rattle.paged_store.specs.Words.{index_by, index_size}
use Rattle.paged_store.specs.inner.Indexed.{home_by, pairs_by}
use Rattle.paged_store.specs.inner.Indexing.{words_from, Puts}
use Rattle.paged_store.proofs.SlotWrites.{puts_then, puts_can}
use Rattle.paged_store.proofs.EnterLemmas.{can_index_by}
use Rattle.paged_store.proofs.LeaveLemmas.{pair_left}
use Rattle.paged_store.proofs.leave.leave_index.Goals as goal

pub close-requires-clause-index : goal.close-requires-clause-index
close-requires-clause-index c =
    subst (λ z. IsIndex (home_by ((table_of c.args.pages.now).word c.args.k) c.args.d) c.slots-place.result.1
    (words_from ((table_of c.args.pages.now).word c.args.k) z)
    (pairs_by ((table_of c.args.pages.now).word c.args.k) c.args.d)) (sym c.slots-place.ensures.place)
    (subst (λ z. IsIndex (home_by ((table_of c.args.pages.now).word c.args.k) c.args.d) z
    (words_from ((table_of c.args.pages.now).word c.args.k) (index_by ((table_of c.args.pages.now).word c.args.k)
    c.args.d)) (pairs_by ((table_of c.args.pages.now).word c.args.k) c.args.d)) (sym c.slots-place.ensures.size)
    c.requires.index)

pub lower-requires-clause-may : goal.lower-requires-clause-may
lower-requires-clause-may c = puts_can c.args.k c.slots-place.result.0 c.slots-place.result.1
    (table_of c.args.pages.now) (table_of c.close.new.pages) c.close.ensures.puts
    (can_index_by c.args.k c.args.d c.slots-place.result.0 c.slots-place.result.1 (table_of c.args.pages.now)
    c.slots-place.ensures.place c.slots-place.ensures.size c.requires.can).may

pub returns-clause-puts : goal.returns-clause-puts
returns-clause-puts c =
    subst (λ z. Puts c.args.k z (index_size ((table_of c.args.pages.now).word c.args.k) c.args.d)
    (table_of c.args.pages.now) (table_of c.lower.new.pages)) c.slots-place.ensures.place
    (subst (λ z. Puts c.args.k c.slots-place.result.0 z (table_of c.args.pages.now) (table_of c.lower.new.pages))
    c.slots-place.ensures.size (puts_then c.args.k c.slots-place.result.0 c.slots-place.result.1
    (table_of c.args.pages.now) (table_of c.close.new.pages) (table_of c.lower.new.pages) c.close.ensures.puts
    c.lower.ensures.puts))

pub returns-clause-index : goal.returns-clause-index
returns-clause-index c =
    subst (λ z. IsIndex (λ j. home_by ((table_of c.args.pages.now).word c.args.k) c.args.d (skip c.args.pair j))
    (index_size ((table_of c.args.pages.now).word c.args.k) c.args.d)
    (words_from ((table_of c.lower.new.pages).word c.args.k) z)
    (pairs_by ((table_of c.args.pages.now).word c.args.k) c.args.d - 1)) c.slots-place.ensures.place
    (subst (λ z. IsIndex (λ j. home_by ((table_of c.args.pages.now).word c.args.k) c.args.d (skip c.args.pair j)) z
    (words_from ((table_of c.lower.new.pages).word c.args.k) c.slots-place.result.0)
    (pairs_by ((table_of c.args.pages.now).word c.args.k) c.args.d - 1)) c.slots-place.ensures.size
    (pair_left c.args.k c.args.d c.slots-place.result.0 c.slots-place.result.1 c.args.pair (table_of c.args.pages.now)
    (table_of c.close.new.pages) (table_of c.lower.new.pages)
    (can_index_by c.args.k c.args.d c.slots-place.result.0 c.slots-place.result.1 (table_of c.args.pages.now)
    c.slots-place.ensures.place c.slots-place.ensures.size c.requires.can).slots c.requires.pair c.close.ensures.gapped
    c.lower.ensures.words))
