use Rattle.std.proofs.Common.{ℕ, List, [], ◌∷◌, arith}
use Rattle.std.proofs.lemmas.Result.{err_from_is_err_and}
use Rattle.page_table.specs.Lists.{table_of}
use Rattle.paged_store.specs.inner.Growing.{grown_class, grown_index}
use Rattle.paged_store.specs.inner.Writing.{desk}
use Rattle.paged_store.proofs.GrowWrites.{head_word_small, grown_class_is, grown_index_is}
use Rattle.paged_store.proofs.GrowTakes.{takes_grown, ends_at, denies_from, can_grow}
use Rattle.paged_store.proofs.RiseLemmas.{rises_none, rises_kept, rises_from}
use Rattle.paged_store.proofs.grow.take_grown.Goals as goal

pub of-requires : goal.of-requires
of-requires c = omega (arith, c.word.ensures, head_word_small _ c.args.a c.requires.grows.stands.formed)

pub returns-in_err-body-clause-cause : goal.returns-in_err-body-clause-cause
returns-in_err-body-clause-cause c =
    let w = (table_of c.args.pages.now).word c.args.k in
    let p = err_from_is_err_and c.from_residual-in_err-body.result c.from_residual-in_err-body.ensures.1 in
    rw (p.1, p.2) (denies_from c.next-next.result.class (grown_class w c.args.a) c.next-next.result.index
    (grown_index w c.args.a)
    (table_of c.ready.new.pages) (table_of c.args.pages.now) (table_of c.take.new.pages) _
    (grown_class_is w c.args.a c.next-next.result.class c.of.result.class c.word.result c.next-next.ensures.class
    c.of.ensures.class c.word.ensures)
    (grown_index_is w c.args.a c.next-next.result.index c.of.result.index c.word.result c.of.result.kind
    c.next-next.ensures.index c.of.ensures.kind c.of.ensures.index c.word.ensures)
    c.in_ok-ready.ensures.ok.wrote.same.shelf c.in_ok-ready.ensures.ok.wrote.same.pages c.in_err-body.ensures.cause)

pub returns-clause-ok : goal.returns-clause-ok
returns-clause-ok c =
    let w = (table_of c.args.pages.now).word c.args.k in
    let ec = grown_class_is w c.args.a c.next-next.result.class c.of.result.class c.word.result
    c.next-next.ensures.class c.of.ensures.class c.word.ensures in
    let ei = grown_index_is w c.args.a c.next-next.result.index c.of.result.index c.word.result c.of.result.kind
    c.next-next.ensures.index c.of.ensures.kind c.of.ensures.index c.word.ensures in
    let takes = takes_grown c.args.k w c.args.a c.in_ok-body.body c.in_ok-body.index c.in_ok-body.field-0-2
    c.next-next.result.class c.next-next.result.index
    (desk c.ready.new.pages c.ready.new.draft) (desk c.take.new.pages c.take.new.draft) ec ei c.in_ok-body.ensures.ok in
    record {
      ready = desk c.ready.new.pages c.ready.new.draft;
      readied = c.in_ok-ready.ensures.ok;
      takes = takes;
      can = λ n grows. can_grow c.args.k c.args.a n c.in_ok-body.body c.in_ok-body.index
          (desk c.args.pages.now c.args.draft.now)
          (desk c.ready.new.pages c.ready.new.draft)
          (desk c.take.new.pages c.take.new.draft) grows c.requires.keeps c.in_ok-ready.ensures.ok takes
          (ends_at c.in_ok-body.body c.next-next.result.class (grown_class w c.args.a)
          (table_of c.take.new.pages).reserved ec c.in_ok-body.ensures.within.0)
          (ends_at c.in_ok-body.index c.next-next.result.index (grown_index w c.args.a)
          (table_of c.take.new.pages).reserved ei c.in_ok-body.ensures.within.1);
    }

pub returns-in_err-ready-clause-rises : goal.returns-in_err-ready-clause-rises
returns-in_err-ready-clause-rises c =
    let w = (table_of c.args.pages.now).word c.args.k in
    let wanted : List ℕ = grown_class w c.args.a ∷ grown_index w c.args.a ∷ 0 ∷ [] in
    rises_kept wanted (table_of c.args.pages.now) (table_of c.args.pages.now) (table_of c.ready.new.pages)
    (rises_none wanted (table_of c.args.pages.now)) c.in_err-ready.ensures.err.wrote.same.shelf

pub returns-in_err-body-clause-rises : goal.returns-in_err-body-clause-rises
returns-in_err-body-clause-rises c =
    let w = (table_of c.args.pages.now).word c.args.k in
    let ec = grown_class_is w c.args.a c.next-next.result.class c.of.result.class c.word.result
    c.next-next.ensures.class c.of.ensures.class c.word.ensures in
    let ei = grown_index_is w c.args.a c.next-next.result.index c.of.result.index c.word.result c.of.result.kind
    c.next-next.ensures.index c.of.ensures.kind c.of.ensures.index c.word.ensures in
    rises_from (c.next-next.result.class ∷ c.next-next.result.index ∷ 0 ∷ [])
    (grown_class w c.args.a ∷ grown_index w c.args.a ∷ 0 ∷ []) (table_of c.args.pages.now)
    (table_of c.ready.new.pages) (table_of c.take.new.pages) (λ i. ec i ∷ ei i ∷ 0 ∷ [])
    c.in_ok-ready.ensures.ok.wrote.same.shelf c.take.ensures.rises

pub returns-clause-rises : goal.returns-clause-rises
returns-clause-rises c =
    let w = (table_of c.args.pages.now).word c.args.k in
    let ec = grown_class_is w c.args.a c.next-next.result.class c.of.result.class c.word.result
    c.next-next.ensures.class c.of.ensures.class c.word.ensures in
    let ei = grown_index_is w c.args.a c.next-next.result.index c.of.result.index c.word.result c.of.result.kind
    c.next-next.ensures.index c.of.ensures.kind c.of.ensures.index c.word.ensures in
    rises_from (c.next-next.result.class ∷ c.next-next.result.index ∷ 0 ∷ [])
    (grown_class w c.args.a ∷ grown_index w c.args.a ∷ 0 ∷ []) (table_of c.args.pages.now)
    (table_of c.ready.new.pages) (table_of c.take.new.pages) (λ i. ec i ∷ ei i ∷ 0 ∷ [])
    c.in_ok-ready.ensures.ok.wrote.same.shelf c.take.ensures.rises
