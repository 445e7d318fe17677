use Rattle.std.proofs.Common.{◌≡◌, ◌/◌, ◌∷◌, [], length, ◌∙◌, ap, refl, arith}
use Rattle.py_data.specs.Collection.{places}
use Rattle.page_table.specs.Pages.{Table}
use Rattle.page_table.specs.Lists.{table_of}
use Rattle.paged_store.specs.inner.Making.{body_class, index_class}
use Rattle.paged_store.specs.Paged.{Drafted, drafted}
use Rattle.paged_store.specs.inner.Writing.{desk}
use Rattle.paged_store.proofs.GrowTakes.{ends_at}
use Rattle.paged_store.proofs.MakeTakes.{classes_few, head_can, body_even, body_can, index_can, takes_made, takes_besides, made_set, made_cut, made_length, made_pushed, words_made, places_by}
use Rattle.paged_store.proofs.RiseLemmas.{rises_from, rises_kept}
use Rattle.paged_store.proofs.make.make.Goals as goal

pub take-requires-clause-second : goal.take-requires-clause-second
take-requires-clause-second c = (let m = (classes_few c.args.r.now).0 in omega (arith, m, c.requires.class))

pub take-requires-clause-third : goal.take-requires-clause-third
take-requires-clause-third c = (let m = (classes_few c.args.r.now).1 in omega (arith, m, c.requires.index))

pub set-requires : goal.set-requires
unfolding drafted
set-requires c =
    let m = made_length c.args.draft.now.made c.take.new.draft.made
    (made_pushed c.args.draft.now.made c.take.new.draft.made c.push.new.self
    (ap (λ (d : Drafted). d.made) c.in-Ok.ensures.ok.draft) c.in_ok-push.ensures.ok) in
    omega (arith, m, c.len-before.ensures)

pub fill-requires-clause-class : goal.fill-requires-clause-class
fill-requires-clause-class c = (let m = (classes_few c.args.r.now).1 in omega (arith, m, c.requires.index))

pub fill-requires-clause-even : goal.fill-requires-clause-even
fill-requires-clause-even c some = body_even c.args.k c.in-Ok.head c.in-Ok.body c.in-Ok.index c.args.r.now _
    (desk c.take.new.pages c.take.new.draft)
    (takes_made c.args.k c.in-Ok.head c.in-Ok.body c.in-Ok.index c.args.header.class c.args.header.index c.args.r.now _
    (desk c.take.new.pages c.take.new.draft) c.requires.class c.requires.index c.in-Ok.ensures.ok)
    (body_class c.args.r.now) refl (omega (arith, some, c.requires.fits.values))

pub fill-requires-clause-may_head : goal.fill-requires-clause-may_head
fill-requires-clause-may_head c = head_can c.args.k c.in-Ok.head c.in-Ok.body c.in-Ok.index c.args.r.now _
    (desk c.take.new.pages c.take.new.draft)
    (takes_made c.args.k c.in-Ok.head c.in-Ok.body c.in-Ok.index c.args.header.class c.args.header.index c.args.r.now _
    (desk c.take.new.pages c.take.new.draft) c.requires.class c.requires.index c.in-Ok.ensures.ok)

pub fill-requires-clause-may_body : goal.fill-requires-clause-may_body
fill-requires-clause-may_body c = body_can c.args.k c.in-Ok.head c.in-Ok.body c.in-Ok.index c.args.r.now _
    (desk c.take.new.pages c.take.new.draft)
    (takes_made c.args.k c.in-Ok.head c.in-Ok.body c.in-Ok.index c.args.header.class c.args.header.index c.args.r.now _
    (desk c.take.new.pages c.take.new.draft) c.requires.class c.requires.index c.in-Ok.ensures.ok)
    c.args.header.class c.requires.class c.in-Ok.ensures.within.1

pub fill-requires-clause-may_index : goal.fill-requires-clause-may_index
fill-requires-clause-may_index c = index_can c.args.k c.in-Ok.head c.in-Ok.body c.in-Ok.index c.args.r.now _
    (desk c.take.new.pages c.take.new.draft)
    (takes_made c.args.k c.in-Ok.head c.in-Ok.body c.in-Ok.index c.args.header.class c.args.header.index c.args.r.now _
    (desk c.take.new.pages c.take.new.draft) c.requires.class c.requires.index c.in-Ok.ensures.ok)
    c.args.header.index c.requires.index c.in-Ok.ensures.within.2

pub returns-in-Ok-clause-ok : goal.returns-in-Ok-clause-ok
unfolding drafted
returns-in-Ok-clause-ok c =
    let n : c.len-before.result ≡ length c.args.draft.now.made = c.len-before.ensures in
    let set = ap places c.set.ensures ∙ made_set c.args.draft.now.made c.take.new.draft.made c.len-before.result
    (c.in-Ok.head / 2) (made_pushed c.args.draft.now.made c.take.new.draft.made c.push.new.self
    (ap (λ (d : Drafted). d.made) c.in-Ok.ensures.ok.draft) c.in_ok-push.ensures.ok) n in
    let puts = words_made c.args.k (c.in-Ok.head / 2) c.in-Ok.body c.in-Ok.index c.args.header c.args.r.now
    (table_of c.take.new.pages) (table_of c.fill.new.pages)
    c.requires.kind c.requires.class c.requires.index c.requires.first c.fill.ensures in
    places_by c.args.k c.in-Ok.head c.in-Ok.body c.in-Ok.index c.args.r.now (desk c.args.pages.now c.args.draft.now)
    (record {
      table = table_of c.take.new.pages;
      draft =
          record (drafted c.take.new.draft) { made = places c.args.draft.now.made };
    }) _
    (takes_made c.args.k c.in-Ok.head c.in-Ok.body c.in-Ok.index c.args.header.class c.args.header.index c.args.r.now
    (desk c.args.pages.now c.args.draft.now)
    (record {
      table = table_of c.take.new.pages;
      draft =
          record (drafted c.take.new.draft) { made = places c.args.draft.now.made };
    }) c.requires.class c.requires.index
    (takes_besides c.args.k _ (desk c.args.pages.now c.args.draft.now) (desk c.take.new.pages c.take.new.draft)
    (places c.push.new.self) (places c.args.draft.now.made) refl c.in-Ok.ensures.ok))
    (ends_at c.in-Ok.body c.args.header.class (body_class c.args.r.now) (table_of c.take.new.pages).reserved
    c.requires.class c.in-Ok.ensures.within.1)
    (ends_at c.in-Ok.index c.args.header.index (index_class c.args.r.now) (table_of c.take.new.pages).reserved
    c.requires.index c.in-Ok.ensures.within.2)
    (λ i. record { table = puts i; draft = record (drafted c.take.new.draft) { made = set i } })

pub returns-in-Err-clause-err : goal.returns-in-Err-clause-err
unfolding drafted
returns-in-Err-clause-err c =
    let cut = ap places c.truncate.ensures ∙ made_cut c.args.draft.now.made c.take.new.draft.made c.len-before.result
    (made_pushed c.args.draft.now.made c.take.new.draft.made c.push.new.self
    (ap (λ (d : Drafted). d.made) c.in-Err.ensures.err.draft) c.in_ok-push.ensures.ok) c.len-before.ensures in
    takes_besides c.args.k [] (desk c.args.pages.now c.args.draft.now) (desk c.take.new.pages c.take.new.draft)
    (places c.push.new.self) (places c.truncate.new.self) cut c.in-Err.ensures.err

pub returns-in-Ok-clause-rises : goal.returns-in-Ok-clause-rises
returns-in-Ok-clause-rises c =
    rises_from (2 ∷ c.args.header.class ∷ c.args.header.index ∷ [])
    (2 ∷ body_class c.args.r.now ∷ index_class c.args.r.now ∷ []) (table_of c.args.pages.now)
    (table_of c.args.pages.now) (table_of c.fill.new.pages)
    (λ i. 2 ∷ c.requires.class i ∷ c.requires.index i ∷ []) refl
    (rises_kept (2 ∷ c.args.header.class ∷ c.args.header.index ∷ []) (table_of c.args.pages.now)
    (table_of c.take.new.pages) (table_of c.fill.new.pages) c.take.ensures.rises
    (ap (λ (t : Table). t.shelf) c.fill.ensures))
