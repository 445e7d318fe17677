use Rattle.std.proofs.Common.{◌≡◌, ℕ, List, [], ◌∷◌, ◌++◌, length, Result, Ok, Err, OnOk, is_err, false, sym, ◌∙◌, ap, arith}
use Rattle.seg_store.proofs.Stores.{told}
use Rattle.page_table.specs.Pages.{Table}
use Rattle.page_table.specs.Lists.{table_of}
use Rattle.paged_store.specs.declared.extent.Extent.{Extent}
use Rattle.paged_store.specs.inner.Claiming.{extent_for}
use Rattle.paged_store.specs.Paged.{drafted}
use Rattle.paged_store.specs.inner.Writing.{desk}
use Rattle.paged_store.proofs.ClaimLemmas.{claims_none}
use Rattle.paged_store.proofs.TakeLemmas.{takes_none, takes_all, takes_back, takes_kept, room_opened, lie_opened, lie_claimed, classes_claimed, last_ones}
use Rattle.paged_store.proofs.RiseLemmas.{rises_still, rises_kept}
use Rattle.paged_store.proofs.take.take.Goals as goal

-- the extents of three classes
abbrev three : ℕ → ℕ → ℕ → ℕ → ℕ → ℕ → List Extent
three first one second two third last = extent_for first one ++ extent_for second two ++ extent_for third last

-- what was added
added : (old before taken xs : List Extent) → taken ≡ before ++ xs → before ≡ old → taken ≡ old ++ xs
added old before taken xs e f = e ∙ ap (λ z. z ++ xs) f

ok_of : {T E P : Type 0} (x : Result T E) → is_err x ≡ false → OnOk x P → P
ok_of (Ok y) e p = p
ok_of (Err y) e p = absurd (cc)

pub returns-in_err-reserve-clause-err : goal.returns-in_err-reserve-clause-err
unfolding drafted
returns-in_err-reserve-clause-err c = told c.from_residual.result
    (takes_none c.args.k (desk c.args.pages.now c.args.draft.now)
    (table_of c.args.pages.now) c.reserve.new.self.items (claims_none (table_of c.args.pages.now))
    c.reserve.ensures.items)

pub returns-in_err-one-clause-err : goal.returns-in_err-one-clause-err
unfolding drafted
returns-in_err-one-clause-err c = told c.from_residual-in_err-one.result
    (takes_none c.args.k (desk c.args.pages.now c.args.draft.now)
    (table_of c.claim.new.pages) c.reserve.new.self.items c.in_err-one.ensures.err c.reserve.ensures.items)

pub open_extents-requires-clause-lie : goal.open_extents-requires-clause-lie
open_extents-requires-clause-lie c =
    let xs : List Extent = three c.args.first c.in_ok-one.one c.args.second c.in_ok-one.two c.args.third
    c.in_ok-one.three in
    lie_claimed xs c.skip.result.now (table_of c.args.pages.now) (table_of c.claim.new.pages) c.in_ok-one.ensures.ok
    (last_ones c.args.draft.now.taken.items xs c.deref.result.now c.skip.result.now c.len-before.result
    (c.deref.ensures.value ∙ added c.args.draft.now.taken.items c.reserve.new.self.items c.add_extents.new.taken.items
    xs c.add_extents.ensures c.reserve.ensures.items)
    (omega (arith, c.len-before.ensures, c.args.draft.now.taken.ok.0)) c.skip.ensures)

pub open_extents-requires-clause-classes : goal.open_extents-requires-clause-classes
open_extents-requires-clause-classes c =
    let xs : List Extent = three c.args.first c.in_ok-one.one c.args.second c.in_ok-one.two c.args.third
    c.in_ok-one.three in
    classes_claimed xs c.skip.result.now (table_of c.args.pages.now) (table_of c.claim.new.pages) c.in_ok-one.ensures.ok
    (last_ones c.args.draft.now.taken.items xs c.deref.result.now c.skip.result.now c.len-before.result
    (c.deref.ensures.value ∙ added c.args.draft.now.taken.items c.reserve.new.self.items c.add_extents.new.taken.items
    xs c.add_extents.ensures c.reserve.ensures.items)
    (omega (arith, c.len-before.ensures, c.args.draft.now.taken.ok.0)) c.skip.ensures)

pub give_back_all-requires-clause-lie : goal.give_back_all-requires-clause-lie
give_back_all-requires-clause-lie c =
    let xs : List Extent = three c.args.first c.in_ok-one.one c.args.second c.in_ok-one.two c.args.third
    c.in_ok-one.three in
    lie_opened c.args.k xs (desk c.args.pages.now c.args.draft.now) (table_of c.claim.new.pages)
    (table_of c.open_extents.new.pages) c.in_ok-one.ensures.ok
    c.open_extents.ensures.same c.skip-then-is_err.result.now
    (last_ones c.args.draft.now.taken.items xs c.deref-then-is_err.result.now c.skip-then-is_err.result.now
    c.len-before.result
    (c.deref-then-is_err.ensures.value ∙ added c.args.draft.now.taken.items c.reserve.new.self.items
    c.add_extents.new.taken.items xs c.add_extents.ensures c.reserve.ensures.items)
    (omega (arith, c.len-before.ensures, c.args.draft.now.taken.ok.0)) c.skip-then-is_err.ensures)

pub give_back_all-requires-clause-classes : goal.give_back_all-requires-clause-classes
give_back_all-requires-clause-classes c =
    let xs : List Extent = three c.args.first c.in_ok-one.one c.args.second c.in_ok-one.two c.args.third
    c.in_ok-one.three in
    classes_claimed xs c.skip-then-is_err.result.now (table_of c.args.pages.now) (table_of c.claim.new.pages)
    c.in_ok-one.ensures.ok
    (last_ones c.args.draft.now.taken.items xs c.deref-then-is_err.result.now c.skip-then-is_err.result.now
    c.len-before.result
    (c.deref-then-is_err.ensures.value ∙ added c.args.draft.now.taken.items c.reserve.new.self.items
    c.add_extents.new.taken.items xs c.add_extents.ensures c.reserve.ensures.items)
    (omega (arith, c.len-before.ensures, c.args.draft.now.taken.ok.0)) c.skip-then-is_err.ensures)

pub give_back_all-requires-clause-room : goal.give_back_all-requires-clause-room
give_back_all-requires-clause-room c =
    let xs : List Extent = three c.args.first c.in_ok-one.one c.args.second c.in_ok-one.two c.args.third
    c.in_ok-one.three in
    room_opened c.args.k xs (desk c.args.pages.now c.args.draft.now) (table_of c.claim.new.pages)
    (table_of c.open_extents.new.pages) c.in_ok-one.ensures.ok
    c.open_extents.ensures.same c.skip-then-is_err.result.now
    (last_ones c.args.draft.now.taken.items xs c.deref-then-is_err.result.now c.skip-then-is_err.result.now
    c.len-before.result
    (c.deref-then-is_err.ensures.value ∙ added c.args.draft.now.taken.items c.reserve.new.self.items
    c.add_extents.new.taken.items xs c.add_extents.ensures c.reserve.ensures.items)
    (omega (arith, c.len-before.ensures, c.args.draft.now.taken.ok.0)) c.skip-then-is_err.ensures) c.known.ensures

pub returns-then-is_err-clause-err : goal.returns-then-is_err-clause-err
unfolding drafted
returns-then-is_err-clause-err c =
    let xs : List Extent = three c.args.first c.in_ok-one.one c.args.second c.in_ok-one.two c.args.third
    c.in_ok-one.three in
    let more : c.add_extents.new.taken.items ≡ c.args.draft.now.taken.items ++ xs =
    added c.args.draft.now.taken.items c.reserve.new.self.items c.add_extents.new.taken.items xs c.add_extents.ensures
    c.reserve.ensures.items in
    let n : c.len-before.result ≡ length c.args.draft.now.taken.items =
    omega (arith, c.len-before.ensures, c.args.draft.now.taken.ok.0) in
    takes_kept c.args.k [] (desk c.args.pages.now c.args.draft.now) (table_of c.give_back_all.new.pages) _
    c.truncate.new.self.items (sym c.truncate.ensures.items)
    (takes_back c.args.k xs (desk c.args.pages.now c.args.draft.now) (table_of c.claim.new.pages)
    (table_of c.open_extents.new.pages) c.in_ok-one.ensures.ok
    c.open_extents.ensures.same (table_of c.give_back_all.new.pages) c.add_extents.new.taken.items
    c.skip-then-is_err.result.now c.len-before.result more n
    (last_ones c.args.draft.now.taken.items xs c.deref-then-is_err.result.now c.skip-then-is_err.result.now
    c.len-before.result
    (c.deref-then-is_err.ensures.value ∙ more) n c.skip-then-is_err.ensures)
    c.give_back_all.ensures)

pub returns-clause-ok : goal.returns-clause-ok
unfolding drafted
returns-clause-ok c =
    let xs : List Extent = three c.args.first c.in_ok-one.one c.args.second c.in_ok-one.two c.args.third
    c.in_ok-one.three in
    let more : c.add_extents.new.taken.items ≡ c.args.draft.now.taken.items ++ xs =
    added c.args.draft.now.taken.items c.reserve.new.self.items c.add_extents.new.taken.items xs c.add_extents.ensures
    c.reserve.ensures.items in
    takes_all c.args.k xs (desk c.args.pages.now c.args.draft.now) (table_of c.claim.new.pages)
    (table_of c.open_extents.new.pages) c.in_ok-one.ensures.ok
    c.open_extents.ensures.same c.add_extents.new.taken.items c.skip.result.now more
    (last_ones c.args.draft.now.taken.items xs c.deref.result.now c.skip.result.now c.len-before.result
    (c.deref.ensures.value ∙ more) (omega (arith, c.len-before.ensures, c.args.draft.now.taken.ok.0))
    c.skip.ensures)
    (ok_of c.open_extents.result (sym c.is_err.ensures.value ∙ c.if-is_err.false) c.open_extents.ensures.own)

pub returns-then-is_err-clause-rises : goal.returns-then-is_err-clause-rises
returns-then-is_err-clause-rises c =
    let wanted : List ℕ = c.args.first ∷ c.args.second ∷ c.args.third ∷ [] in
    rises_still wanted (table_of c.args.pages.now) (table_of c.open_extents.new.pages)
    (table_of c.give_back_all.new.pages)
    (rises_kept wanted (table_of c.args.pages.now) (table_of c.claim.new.pages) (table_of c.open_extents.new.pages)
    c.claim.ensures.rises (ap (λ (t : Table). t.shelf) c.open_extents.ensures.same.same))
    c.give_back_all.ensures.total

pub returns-clause-rises : goal.returns-clause-rises
returns-clause-rises c =
    rises_kept (c.args.first ∷ c.args.second ∷ c.args.third ∷ []) (table_of c.args.pages.now)
    (table_of c.claim.new.pages) (table_of c.open_extents.new.pages)
    c.claim.ensures.rises (ap (λ (t : Table). t.shelf) c.open_extents.ensures.same.same)
