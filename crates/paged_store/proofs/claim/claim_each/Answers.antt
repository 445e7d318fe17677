use Rattle.std.proofs.Common.{[], ◌∷◌, ◌++◌, sym, ap, subst}
use Rattle.std.proofs.lemmas.Result.{err_from_is_err_and}
use Rattle.page_table.specs.Pages.{Table}
use Rattle.page_table.specs.Lists.{table_of}
use Rattle.paged_store.specs.inner.Claiming.{extent_for}
use Rattle.paged_store.specs.inner.Ending.{ExtentsLie}
use Rattle.paged_store.proofs.ClaimLemmas.{denies_more, claims_both, room_both, first_lie, second_lie, first_room, second_room, given_both, returned, denied, same_two}
use Rattle.paged_store.proofs.RiseLemmas.{rises_more, rises_then, rises_back}
use Rattle.paged_store.proofs.claim.claim_each.Goals as goal

pub return_one-requires-clause-lie : goal.return_one-requires-clause-lie
return_one-requires-clause-lie c =
    first_lie (extent_for c.args.first c.in_ok-one.one) (extent_for c.args.second c.in_ok-one.two)
    (table_of c.args.pages.now) (table_of c.claim_two.new.pages) (table_of c.claim_one.new.pages)
    c.in_ok-one.ensures.ok c.in-Err.ensures.same

pub return_one-requires-clause-room : goal.return_one-requires-clause-room
return_one-requires-clause-room c = first_room (extent_for c.args.first c.in_ok-one.one)
    (extent_for c.args.second c.in_ok-one.two) (table_of c.claim_one.new.pages)
    (room_both (extent_for c.args.first c.in_ok-one.one) (extent_for c.args.second c.in_ok-one.two)
    (table_of c.args.pages.now) (table_of c.claim_two.new.pages) (table_of c.claim_one.new.pages)
    c.in_ok-one.ensures.ok c.in-Err.ensures.same c.known.ensures)

pub return_one-requires-in-Err-clause-lie : goal.return_one-requires-in-Err-clause-lie
return_one-requires-in-Err-clause-lie c =
    subst (λ n. ExtentsLie n (extent_for c.args.second c.in_ok-one.two))
    (sym (ap (λ (t : Table). t.reserved) c.return_one.ensures.others))
    (second_lie (extent_for c.args.first c.in_ok-one.one) (extent_for c.args.second c.in_ok-one.two)
    (table_of c.args.pages.now) (table_of c.claim_two.new.pages) (table_of c.claim_one.new.pages)
    c.in_ok-one.ensures.ok c.in-Err.ensures.same)

pub return_one-requires-in-Err-clause-room : goal.return_one-requires-in-Err-clause-room
return_one-requires-in-Err-clause-room c =
    second_room (extent_for c.args.first c.in_ok-one.one) (extent_for c.args.second c.in_ok-one.two)
    (table_of c.claim_one.new.pages) (table_of c.return_one.new.pages)
    (room_both (extent_for c.args.first c.in_ok-one.one) (extent_for c.args.second c.in_ok-one.two)
    (table_of c.args.pages.now) (table_of c.claim_two.new.pages) (table_of c.claim_one.new.pages)
    c.in_ok-one.ensures.ok c.in-Err.ensures.same c.known.ensures)
    c.return_one.ensures

pub returns-in-Ok-clause-ok : goal.returns-in-Ok-clause-ok
returns-in-Ok-clause-ok c =
    claims_both (extent_for c.args.first c.in_ok-one.one ++ extent_for c.args.second c.in_ok-one.two)
    (extent_for c.args.third c.in-Ok.three) (table_of c.args.pages.now) (table_of c.claim_two.new.pages)
    (table_of c.claim_one.new.pages) c.in_ok-one.ensures.ok c.in-Ok.ensures.ok

pub returns-in-Err-clause-err : goal.returns-in-Err-clause-err
returns-in-Err-clause-err c =
    returned (c.args.first ∷ c.args.second ∷ []) c.args.third
    (extent_for c.args.first c.in_ok-one.one ++ extent_for c.args.second c.in_ok-one.two)
    (table_of c.args.pages.now)
    (table_of c.claim_two.new.pages) (table_of c.claim_one.new.pages) (table_of c.return_one-in-Err.new.pages)
    c.in_ok-one.ensures.ok c.in-Err.ensures.same
    (given_both (extent_for c.args.first c.in_ok-one.one) (extent_for c.args.second c.in_ok-one.two)
    (table_of c.claim_one.new.pages) (table_of c.return_one.new.pages)
    (table_of c.return_one-in-Err.new.pages) c.return_one.ensures c.return_one-in-Err.ensures)

pub returns-in-Err-clause-cause : goal.returns-in-Err-clause-cause
returns-in-Err-clause-cause c =
    denied (c.args.first ∷ c.args.second ∷ []) c.args.third
    (extent_for c.args.first c.in_ok-one.one ++ extent_for c.args.second c.in_ok-one.two)
    (table_of c.args.pages.now)
    (table_of c.claim_two.new.pages) (table_of c.claim_one.new.pages) (table_of c.return_one-in-Err.new.pages)
    c.in_ok-one.ensures.ok c.in-Err.ensures.same
    (given_both (extent_for c.args.first c.in_ok-one.one) (extent_for c.args.second c.in_ok-one.two)
    (table_of c.claim_one.new.pages) (table_of c.return_one.new.pages)
    (table_of c.return_one-in-Err.new.pages) c.return_one.ensures c.return_one-in-Err.ensures)
    c.in-Err.e (same_two c.args.first c.in_ok-one.one c.args.second c.in_ok-one.two) c.in-Err.ensures.cause

pub returns-in_err-one-clause-cause : goal.returns-in_err-one-clause-cause
returns-in_err-one-clause-cause c =
    let p = err_from_is_err_and c.from_residual.result c.from_residual.ensures.1 in
    rw (p.1, p.2) (denies_more (c.args.first ∷ c.args.second ∷ []) (c.args.third ∷ []) (table_of c.args.pages.now)
    (table_of c.claim_two.new.pages) _ c.in_err-one.ensures.cause)

pub returns-in_err-one-clause-rises : goal.returns-in_err-one-clause-rises
returns-in_err-one-clause-rises c = rises_more (c.args.first ∷ c.args.second ∷ []) (c.args.third ∷ [])
    (table_of c.args.pages.now) (table_of c.claim_two.new.pages) c.claim_two.ensures.rises

pub returns-in-Ok-clause-rises : goal.returns-in-Ok-clause-rises
returns-in-Ok-clause-rises c =
    rises_then (c.args.first ∷ c.args.second ∷ []) (c.args.third ∷ [])
    (extent_for c.args.first c.in_ok-one.one ++ extent_for c.args.second c.in_ok-one.two)
    (table_of c.args.pages.now) (table_of c.claim_two.new.pages) (table_of c.claim_one.new.pages)
    c.claim_two.ensures.rises c.in_ok-one.ensures.ok
    (same_two c.args.first c.in_ok-one.one c.args.second c.in_ok-one.two) c.claim_one.ensures.rises

pub returns-in-Err-clause-rises : goal.returns-in-Err-clause-rises
returns-in-Err-clause-rises c =
    rises_back (c.args.first ∷ c.args.second ∷ []) (c.args.third ∷ [])
    (extent_for c.args.first c.in_ok-one.one ++ extent_for c.args.second c.in_ok-one.two)
    (table_of c.args.pages.now) (table_of c.claim_two.new.pages) (table_of c.claim_one.new.pages)
    (table_of c.return_one-in-Err.new.pages) c.claim_two.ensures.rises c.in_ok-one.ensures.ok
    (same_two c.args.first c.in_ok-one.one c.args.second c.in_ok-one.two) c.claim_one.ensures.rises
    (given_both (extent_for c.args.first c.in_ok-one.one) (extent_for c.args.second c.in_ok-one.two)
    (table_of c.claim_one.new.pages) (table_of c.return_one.new.pages)
    (table_of c.return_one-in-Err.new.pages) c.return_one.ensures c.return_one-in-Err.ensures)
