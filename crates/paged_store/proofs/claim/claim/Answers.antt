use Rattle.std.proofs.Common.{[], ◌∷◌, subst}
use Rattle.page_table.specs.Pages.{Table}
use Rattle.page_table.specs.Lists.{table_of}
use Rattle.paged_store.specs.inner.Claiming.{RisesBy}
use Rattle.paged_store.proofs.NextLemmas.{three_claim, three_end, three_grow, three_rise}
use Rattle.paged_store.proofs.claim.claim.Goals as goal

pub returns-in-Some-clause-ok : goal.returns-in-Some-clause-ok
returns-in-Some-clause-ok c = three_claim c.args.first c.args.second c.args.third c.in-Some.places.0 c.in-Some.places.1
    c.in-Some.places.2 (table_of c.args.pages.now) (table_of c.reserve_all.new.self) c.requires.first
    c.requires.second c.requires.third c.known.ensures c.in-Some.ensures.some

pub returns-in-Some-clause-within : goal.returns-in-Some-clause-within
returns-in-Some-clause-within c = three_end c.args.first c.args.second c.args.third c.in-Some.places.0 c.in-Some.places.1
    c.in-Some.places.2 (table_of c.args.pages.now) (table_of c.reserve_all.new.self) c.requires.first
    c.requires.second c.requires.third c.known.ensures c.in-Some.ensures.some

pub returns-in-Some-clause-most : goal.returns-in-Some-clause-most
returns-in-Some-clause-most c = three_grow c.args.first c.args.second c.args.third c.in-Some.places.0 c.in-Some.places.1
    c.in-Some.places.2 (table_of c.args.pages.now) (table_of c.reserve_all.new.self) c.requires.first
    c.requires.second c.requires.third c.known.ensures c.in-Some.ensures.some

pub returns-in-Some-clause-rises : goal.returns-in-Some-clause-rises
returns-in-Some-clause-rises c = three_rise c.args.first c.args.second c.args.third c.in-Some.places.0 c.in-Some.places.1
    c.in-Some.places.2 (table_of c.args.pages.now) (table_of c.reserve_all.new.self) c.requires.first
    c.requires.second c.requires.third c.known.ensures c.in-Some.ensures.some

pub returns-in-None-clause-rises : goal.returns-in-None-clause-rises
returns-in-None-clause-rises c =
    subst (λ (t : Table). RisesBy (c.args.first ∷ c.args.second ∷ c.args.third ∷ []) t (table_of c.claim_each.new.pages))
    c.in-None.ensures.none c.claim_each.ensures.rises
