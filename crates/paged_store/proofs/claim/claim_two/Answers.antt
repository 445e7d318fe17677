use Rattle.std.proofs.Common.{[], ◌∷◌, sym, subst}
use Rattle.page_table.specs.Lists.{table_of}
use Rattle.seg_store.proofs.Stores.{told}
use Rattle.paged_store.specs.inner.Claiming.{extent_for, Claims}
use Rattle.paged_store.specs.inner.Ending.{HaveRoom}
use Rattle.std.proofs.lemmas.Result.{err_from_is_err_and}
use Rattle.paged_store.proofs.ClaimLemmas.{claims_none, claims_both, room_claimed, denies_more, returned, denied, same_one}
use Rattle.paged_store.proofs.RiseLemmas.{rises_more, rises_then, rises_back}
use Rattle.paged_store.proofs.claim.claim_two.Goals as goal

pub returns-in_err-one-clause-err : goal.returns-in_err-one-clause-err
returns-in_err-one-clause-err c = told c.from_residual.result
    (subst (Claims [] (table_of c.args.pages.now)) (sym c.in_err-one.ensures.same)
    (claims_none (table_of c.args.pages.now)))

pub returns-in_err-one-clause-cause : goal.returns-in_err-one-clause-cause
returns-in_err-one-clause-cause c =
    let p = err_from_is_err_and c.from_residual.result c.from_residual.ensures.1 in
    rw (p.1, p.2) (denies_more (c.args.first ∷ []) (c.args.second ∷ []) (table_of c.args.pages.now)
    (table_of c.claim_one.new.pages) _ c.in_err-one.ensures.cause)

pub return_one-requires-clause-room : goal.return_one-requires-clause-room
return_one-requires-clause-room c =
    subst (HaveRoom (extent_for c.args.first c.in_ok-one.one)) (sym c.in-Err.ensures.same)
    (room_claimed (extent_for c.args.first c.in_ok-one.one) (table_of c.args.pages.now)
    (table_of c.claim_one.new.pages) c.known.ensures c.in_ok-one.ensures.ok)

pub returns-in-Ok-clause-ok : goal.returns-in-Ok-clause-ok
returns-in-Ok-clause-ok c =
    claims_both (extent_for c.args.first c.in_ok-one.one) (extent_for c.args.second c.in-Ok.two)
    (table_of c.args.pages.now) (table_of c.claim_one.new.pages) (table_of c.claim_one-2.new.pages)
    c.in_ok-one.ensures.ok c.in-Ok.ensures.ok

pub returns-in-Err-clause-err : goal.returns-in-Err-clause-err
returns-in-Err-clause-err c =
    returned (c.args.first ∷ []) c.args.second (extent_for c.args.first c.in_ok-one.one) (table_of c.args.pages.now)
    (table_of c.claim_one.new.pages) (table_of c.claim_one-2.new.pages)
    (table_of c.return_one.new.pages) c.in_ok-one.ensures.ok c.in-Err.ensures.same c.return_one.ensures

pub returns-in-Err-clause-cause : goal.returns-in-Err-clause-cause
returns-in-Err-clause-cause c =
    denied (c.args.first ∷ []) c.args.second (extent_for c.args.first c.in_ok-one.one) (table_of c.args.pages.now)
    (table_of c.claim_one.new.pages) (table_of c.claim_one-2.new.pages)
    (table_of c.return_one.new.pages) c.in_ok-one.ensures.ok c.in-Err.ensures.same c.return_one.ensures c.in-Err.e
    (same_one c.args.first c.in_ok-one.one) c.in-Err.ensures.cause

pub returns-in_err-one-clause-rises : goal.returns-in_err-one-clause-rises
returns-in_err-one-clause-rises c = rises_more (c.args.first ∷ []) (c.args.second ∷ []) (table_of c.args.pages.now)
    (table_of c.claim_one.new.pages) c.claim_one.ensures.rises

pub returns-in-Ok-clause-rises : goal.returns-in-Ok-clause-rises
returns-in-Ok-clause-rises c =
    rises_then (c.args.first ∷ []) (c.args.second ∷ []) (extent_for c.args.first c.in_ok-one.one)
    (table_of c.args.pages.now) (table_of c.claim_one.new.pages) (table_of c.claim_one-2.new.pages)
    c.claim_one.ensures.rises c.in_ok-one.ensures.ok (same_one c.args.first c.in_ok-one.one)
    c.claim_one-2.ensures.rises

pub returns-in-Err-clause-rises : goal.returns-in-Err-clause-rises
returns-in-Err-clause-rises c =
    rises_back (c.args.first ∷ []) (c.args.second ∷ []) (extent_for c.args.first c.in_ok-one.one)
    (table_of c.args.pages.now) (table_of c.claim_one.new.pages) (table_of c.claim_one-2.new.pages)
    (table_of c.return_one.new.pages) c.claim_one.ensures.rises c.in_ok-one.ensures.ok
    (same_one c.args.first c.in_ok-one.one) c.claim_one-2.ensures.rises c.return_one.ensures
