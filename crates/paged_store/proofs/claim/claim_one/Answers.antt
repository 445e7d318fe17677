use Rattle.std.proofs.Common.{arith}
use Rattle.page_table.specs.Lists.{table_of}
use Rattle.paged_store.proofs.ClaimLemmas.{claimed_one, denied_one, ends_within, grows_by}
use Rattle.paged_store.proofs.PartLemmas.{size_of_none}
use Rattle.paged_store.proofs.RiseLemmas.{rises_one}
use Rattle.paged_store.proofs.claim.claim_one.Goals as goal

pub returns-else-class-eq0-clause-ok : goal.returns-else-class-eq0-clause-ok
returns-else-class-eq0-clause-ok c = claimed_one c.args.class (table_of c.args.pages.now) (table_of c.reserve.new.self)
    c.reserve.result (let n = c.if-class-eq0.false in omega (arith, n)) c.requires c.reserve.ensures.extent
    c.reserve.ensures.lies

pub returns-then-class-eq0-clause-within : goal.returns-then-class-eq0-clause-within
returns-then-class-eq0-clause-within c = (let e = size_of_none c.args.class c.if-class-eq0.true in omega (arith, e))

pub returns-else-class-eq0-clause-within : goal.returns-else-class-eq0-clause-within
returns-else-class-eq0-clause-within c =
    ends_within c.args.class _ c.reserve.result (omega (arith, c.if-class-eq0.false)) c.reserve.ensures.lies

pub returns-else-class-eq0-clause-most : goal.returns-else-class-eq0-clause-most
returns-else-class-eq0-clause-most c = grows_by c.args.class _ _ c.reserve.result (omega (arith, c.if-class-eq0.false))
    c.reserve.ensures.extent

pub returns-else-class-eq0-clause-cause : goal.returns-else-class-eq0-clause-cause
returns-else-class-eq0-clause-cause c = denied_one c.args.class (table_of c.args.pages.now)
    (table_of c.reserve.new.self) c.reserve.result (omega (arith, c.if-class-eq0.false)) c.requires
    c.reserve.ensures.extent

pub returns-else-class-eq0-clause-rises : goal.returns-else-class-eq0-clause-rises
returns-else-class-eq0-clause-rises c = rises_one c.args.class (table_of c.args.pages.now)
    (table_of c.reserve.new.self) c.reserve.result c.known.ensures (omega (arith, c.if-class-eq0.false)) c.requires
    c.reserve.ensures.extent
