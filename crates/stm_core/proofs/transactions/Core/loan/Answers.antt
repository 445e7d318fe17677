use Rattle.std.proofs.Common.{◌≡◌, ◌∙◌, Some, Err, refl, sym, ap, subst}
use Rattle.std.proofs.lemmas.Result.{IfOk-weaker}
use Rattle.stm_core.specs.declared.answers.LoanError.TheVariants.{Lost}
use Rattle.stm_segment.specs.declared.books.Books.{Books}
use Rattle.stm_segment.specs.declared.books.Hand.TheVariants.{Idle, Doomed}
use Rattle.stm_core.specs.Begun.{CountsSteps}
use Rattle.stm_core.specs.Pieces.{IsLoaned}
use Rattle.stm_core.proofs.Wholes.{Set}
use Rattle.stm_core.proofs.Publishing.{emptied}
use Rattle.stm_core.proofs.Calling.{Quiet, quiet_good, quiet_leads, full_same, rose_same, le_same}
use Rattle.stm_core.proofs.Soloing.{emptied_stands}
use Rattle.stm_core.proofs.Loaning.{loan_led, lent_stands, lent_lives, lent_some, may_go, no_other_hand}
use Rattle.stm_core.proofs.transactions.Core.loan.Given as given
use Rattle.stm_core.proofs.transactions.Core.loan.Goals.{In-Doomed}
use Rattle.stm_core.proofs.transactions.Core.loan.Goals as goal

pub lend_from-requires-clause-short : goal.lend_from-requires-clause-short
lend_from-requires-clause-short g c = λ x e.
    let s = c.args.self.now in
    (may_go (g.C.Client.prog s.client.now) s.length c.args.k _ _ (g.S.SegStore.meaning s.store) s.books
    (g.C.Client.sound s.client.now) c.requires.good.sane c.requires.may x e).0

pub returns-then-runs-clause-lives : goal.returns-then-runs-clause-lives
returns-then-runs-clause-lives g c =
    let s = c.args.self.now in
    IfOk-weaker c.lend_from.result _ _ (lent_lives (g.C.Client.prog s.client.now) s.length c.args.k _ _
    (g.S.SegStore.meaning s.store) s.books (g.C.Client.sound s.client.now) c.requires.good.sane c.requires.may)
    c.lend_from.ensures.loan

pub returns-then-runs-clause-stands : goal.returns-then-runs-clause-stands
returns-then-runs-clause-stands g c =
    let s = c.args.self.now in
    IfOk-weaker c.lend_from.result _ _ (λ l h. lent_stands (g.C.Client.prog s.client.now) s.length c.args.k _ _
    (g.S.SegStore.meaning s.store) s.books (g.C.Client.sound s.client.now) c.requires.good.sane l
    (g.met.C.Client.sound_step s.client.now) c.requires.good.whole h) c.lend_from.ensures.loan

pub returns-then-runs-clause-some : goal.returns-then-runs-clause-some
returns-then-runs-clause-some g c =
    let s = c.args.self.now in
    IfOk-weaker c.lend_from.result _ _ (lent_some (g.C.Client.prog s.client.now) s.length c.args.k _ _
    (g.S.SegStore.meaning s.store) s.books (g.C.Client.sound s.client.now) c.requires.good.sane c.requires.may)
    c.lend_from.ensures.loan

pub returns-then-runs-clause-loaned : goal.returns-then-runs-clause-loaned
returns-then-runs-clause-loaned g c =
    let s = c.args.self.now in
    loan_led (g.C.Client.prog s.client.now) s.length c.args.k _ _ (g.S.SegStore.meaning s.store) s.books
    c.lend_from.result c.requires.good.whole (sym c.runs.ensures ∙ c.if-runs.true) c.lend_from.ensures.loan
    c.lend_from.ensures.want

pub unreachable-requires : goal.unreachable-requires
unreachable-requires g c =
    let s = c.args.self.now in
    no_other_hand (g.C.Client.prog s.client.now) s.length c.args.k _ _ (g.S.SegStore.meaning s.store) s.books
    (g.C.Client.sound s.client.now) c.requires.good.sane c.requires.may c.take.result c.take.ensures.hand
    (sym c.runs.ensures ∙ c.if-runs.false) c.in_default.not-Doomed

doomed : (g : given.Over) (c : In-Doomed g) → Quiet g.I.Source.state g.O.Sink.state g.E.Sink.state g.C.Client.prog
    g.C.Client.sound g.S.SegStore.reserved g.S.SegStore.meaning c.args.self.now
    (record c.args.self.now { books = c.take.new.self })
    (IsLoaned (g.C.Client.prog c.args.self.now.client.now) c.args.self.now.length c.args.k (Err (Lost c.in-Doomed.f)))
doomed g c =
    let x = c.args.self.now in
    let m = g.S.SegStore.meaning x.store in
    let b1 = c.take.new.self in
    let is = c.take.ensures.hand ∙ ap Some c.in-Doomed.is in
    let t : Set c.args.k Idle x.books c.take.new.self =
    record { rest = c.take.ensures.rest; hands = c.take.ensures.hands } in
    let cause : b1.cause ≡ x.books.cause = ap (λ (z : Books g.row.C-State.Denot). z.cause) c.take.ensures.rest in
    record {
      rest = refl;
      shape = (refl, refl);
      store = c.known.ensures.store;
      whole = emptied c.args.k m x.books b1 (Doomed c.in-Doomed.f) refl refl refl c.requires.good.whole is t;
      count = subst (λ (z : Books g.row.C-State.Denot). CountsSteps x.spent z.history.entries)
          (sym c.take.ensures.rest) c.requires.good.count;
      kept = full_same _ _ _ _ x.books.cause b1.cause (le_same _ _ refl) refl cause c.requires.good.kept;
      rose = rose_same x.books.cause b1.cause _ _ cause c.requires.good.sane.rose;
      led = λ o s.
          let z = emptied_stands (g.C.Client.prog x.client.now) x.length c.args.k _ _ m x.books b1 o s c.in-Doomed.f is
          t in (z.0, z.1, (z.2, z.3));
    }

pub returns-clause-good : goal.returns-clause-good
returns-clause-good g c =
    let x = c.args.self.now in
    quiet_good g.I.Source.state g.O.Sink.state g.E.Sink.state g.C.Client.prog g.C.Client.sound g.S.SegStore.reserved
    g.S.SegStore.meaning x (record x { books = c.take.new.self }) _ (doomed g c) c.requires.good

pub returns-clause-loaned : goal.returns-clause-loaned
returns-clause-loaned g c =
    let x = c.args.self.now in
    quiet_leads g.I.Source.state g.O.Sink.state g.E.Sink.state g.C.Client.prog g.C.Client.sound g.S.SegStore.reserved
    g.S.SegStore.meaning x (record x { books = c.take.new.self }) _ (doomed g c) c.requires.good
