use Rattle.std.proofs.Common.{sym, subst, ap, ◌∙◌}
use Rattle.std.proofs.lemmas.Option.{slice_get_within}
use Rattle.stm_segment.specs.declared.books.Hand.TheVariants.{Idle}
use Rattle.stm_segment.specs.Books.{core_of}
use Rattle.stm_core.specs.inner.Whole.{Whole}
use Rattle.stm_core.proofs.Beginning.{changed_none, made_none, begun_whole, core_begun}
use Rattle.stm_core.proofs.transactions.Core.start.Goals as goal

pub begin-requires-clause-changed : goal.begin-requires-clause-changed
begin-requires-clause-changed g c = changed_none c.args.k (g.S.SegStore.meaning c.args.self.now.store)
    c.args.self.now.books c.requires.whole c.requires.idle

pub begin-requires-clause-made : goal.begin-requires-clause-made
begin-requires-clause-made g c = made_none c.args.k (g.S.SegStore.meaning c.args.self.now.store) c.args.self.now.books
    c.requires.whole c.requires.idle

pub put-requires : goal.put-requires
put-requires g c = slice_get_within c.args.self.now.books.hands.items c.args.k Idle c.requires.idle

pub returns-clause-whole : goal.returns-clause-whole
returns-clause-whole g c =
    subst (λ m. Whole m c.put.new.self) (sym c.begin.ensures.meaning)
    (begun_whole c.args.k (g.S.SegStore.meaning c.args.self.now.store) c.args.self.now.books c.requires.whole
    c.requires.idle (g.S.SegStore.reserved c.args.self.now.store) c.put.new.self c.args.work c.known.ensures.store
    c.requires.fresh
    (record { rest = c.put.ensures.rest; hands = c.put.ensures.hands }) c.requires.turn c.requires.loss)

pub returns-clause-core : goal.returns-clause-core
returns-clause-core g c = λ w.
    ap (λ m. core_of w m c.put.new.self) c.begin.ensures.meaning
    ∙ core_begun c.args.k (g.S.SegStore.meaning c.args.self.now.store) c.args.self.now.books c.requires.whole
    c.requires.idle (g.S.SegStore.reserved c.args.self.now.store) c.put.new.self c.args.work c.known.ensures.store
    c.requires.fresh (record { rest = c.put.ensures.rest; hands = c.put.ensures.hands }) w
