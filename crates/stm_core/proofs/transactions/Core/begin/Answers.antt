use Rattle.std.proofs.Common.{◌≡◌, Some, Ok, Err, refl, sym, ap, subst, ◌∙◌, arith}
use Rattle.std.proofs.lemmas.Option.{slice_get_within}
use Rattle.stm_segment.specs.declared.cause.Cause.TheVariants.{OutOfMemory as NoMemoryLeft}
use Rattle.stm_core.specs.declared.begin.BeginError.TheVariants.{OutOfMemory}
use Rattle.stm_segment.specs.CoreState.{CoreState}
use Rattle.stm_core.specs.Moves.{begun_at}
use Rattle.stm_segment.specs.Books.{Worlds, segment_of, core_of}
use Rattle.stm_core.specs.inner.Whole.{SameShape}
use Rattle.stm_core.specs.Begun.{IsUnready, Begun, CountsSteps}
use Rattle.seg_store.specs.Store.{IsStore}
use Rattle.stm_core.specs.Outside.{InCore}
use Rattle.stm_core.proofs.Calling.{blank, Quiet, quiet_devices, quiet_good, quiet_job, quiet_leads, rose_same, with_spent, begun_kept, le_same}
use Rattle.stm_core.proofs.Beginning.{Rooms, rooms_made, whole_roomy, core_roomy_in, sound_core, caused_whole, begun_state, begun_stands}
use Rattle.stm_core.proofs.transactions.Core.begin.Goals as goal

pub returns-then-not-is_ready-clause-begun : goal.returns-then-not-is_ready-clause-begun
returns-then-not-is_ready-clause-begun g c = λ o s.
    let p = g.C.Client.prog c.args.self.now.client.now in
    let m = g.S.SegStore.meaning c.args.self.now.store in
    let w = s.worlds in (
      o,
      s,
      (
        (
          refl,
          ap (λ k. k.cause) s.core ∙ c.in_default.is,
          ap (λ k. k.segments c.args.k) s.core ∙
              ap (segment_of w.own (m.part c.args.k)) (c.is_idle.ensures.yes c.if-not-is_idle.false),
          subst (λ k. IsUnready p k c.args.t) (sym s.core) (c.is_ready.ensures.not c.if-not-is_ready.true w),
          refl,
        ),
        refl,
      ),
    )

pub is_ready-requires : goal.is_ready-requires
is_ready-requires g c = sound_core (g.C.Client.prog c.args.self.now.client.now)
    (g.C.Client.sound c.args.self.now.client.now) (g.met.C.Client.sound_step c.args.self.now.client.now) _ _ _ _ _
    c.requires.good.sane

pub make_work-requires-clause-there : goal.make_work-requires-clause-there
make_work-requires-clause-there g c = let r = c.is_ready.ensures.yes c.if-not-is_ready.false blank in
    slice_get_within c.args.self.now.books.threads.entries c.args.t r.state r.is

pub start-requires-clause-whole : goal.start-requires-clause-whole
start-requires-clause-whole g c =
    let x = c.args.self.now in
    let y = c.make_work.new.self in
    let e = c.make_work.ensures in
    whole_roomy g.S.SegStore.meaning x.store y.store x.books y.books (ap (λ s. s.store) e.rest)
    (rooms_made x.books y.books (ap (λ s. s.books) e.rest) e.turns e.turns_kept e.losses e.losses_kept)
    c.requires.good.whole

pub returns-in-Ok : goal.returns-in-Ok
returns-in-Ok g c =
    let p = g.C.Client.prog c.args.self.now.client.now in
    let s = g.C.Client.sound c.args.self.now.client.now in
    let x = c.args.self.now in
    let m = g.S.SegStore.meaning x.store in
    let e = c.make_work.ensures in
    let u = c.make_work.new.self in
    let rooms : Rooms x.books u.books =
    rooms_made x.books u.books (ap (λ z. z.books) e.rest) e.turns e.turns_kept e.losses e.losses_kept in
    let y = c.start.new.self in
    let v = c.in-Ok.work in
    let begun : (w : Worlds) → Begun p c.args.k c.args.t x.budget (Ok tt) (core_of w m x.books)
    (core_of w (g.S.SegStore.meaning y.store) y.books) = λ w. (
      (record {
        goes_on = c.in_default.is;
        idle = ap (segment_of w.own ((g.S.SegStore.meaning c.args.self.now.store).part c.args.k))
            (c.is_idle.ensures.yes c.if-not-is_idle.false);
        ready = c.is_ready.ensures.yes c.if-not-is_ready.false w;
        short = c.is_spent.ensures.not c.if-is_spent.false;
        few = let n = c.if-self.false in omega (arith, n);
      }),
      c.start.ensures.core w ∙ ap (begun_at c.args.k v.thread v.state)
          (core_roomy_in g.S.SegStore.meaning x.store u.store x.books u.books (ap (λ z. z.store) e.rest) rooms w) ∙
          ap (λ t. begun_at c.args.k t v.state (core_of w m x.books)) c.in-Ok.ensures.fresh.thread
          ∙ begun_state p c.args.k c.args.t (core_of w m x.books) v.state
          (c.is_ready.ensures.yes c.if-not-is_ready.false w) c.in-Ok.ensures.fresh.state,
    ) in
    let shape : SameShape m (g.S.SegStore.meaning y.store) = (
      c.start.ensures.shape.0 ∙ ap (λ z. (g.S.SegStore.meaning z.store).segments) e.rest,
      c.start.ensures.shape.1 ∙
          ap (λ z. (g.S.SegStore.meaning z.store).limit) e.rest,
    ) in
    let q : Quiet g.I.Source.state g.O.Sink.state g.E.Sink.state g.C.Client.prog g.C.Client.sound g.S.SegStore.reserved
    g.S.SegStore.meaning x y (InCore (Begun p c.args.k c.args.t x.budget (Ok tt))) = record {
      rest = with_spent x y (c.start.ensures.rest ∙ (λ i. record (e.rest i) { store = y.store; books = y.books }));
      shape = shape;
      store = c.known-in-Ok.ensures.store;
      whole = c.start.ensures.whole;
      count = ap (λ z. z.spent) c.start.ensures.rest ∙ ap (λ z. z.spent) e.rest ∙
          subst (λ l. CountsSteps x.spent l) (sym (ap (λ k. k.history) (c.start.ensures.core blank) ∙ e.turns))
          c.requires.good.count;
      kept = begun_kept p _ _ _ _ (le_same _ _
          (c.start.ensures.reserved ∙ ap (λ z. g.S.SegStore.reserved z.store) e.rest)) shape.1
          (core_of blank m x.books) (core_of blank (g.S.SegStore.meaning y.store) y.books) c.requires.good.kept
          c.args.k c.args.t x.budget (Ok tt) (begun blank);
      rose = rose_same x.books.cause y.books.cause _ _ (ap (λ k. k.cause) (begun blank).1) c.requires.good.sane.rose;
      led = begun_stands p x.length c.args.k c.args.t x.budget _ _ m (g.S.SegStore.meaning y.store) x.books y.books
          (Ok tt) begun (c.start.ensures.broken ∙ ap (λ z. z.books.broken) e.rest);
    } in
    record {
      good = quiet_good g.I.Source.state g.O.Sink.state g.E.Sink.state g.C.Client.prog g.C.Client.sound
          g.S.SegStore.reserved g.S.SegStore.meaning x y _ q c.requires.good;
      job = quiet_job g.I.Source.state g.O.Sink.state g.E.Sink.state g.C.Client.prog g.C.Client.sound
          g.S.SegStore.reserved g.S.SegStore.meaning x y _ q c.requires.good;
      begun = quiet_leads g.I.Source.state g.O.Sink.state g.E.Sink.state g.C.Client.prog g.C.Client.sound
          g.S.SegStore.reserved g.S.SegStore.meaning x y _ q c.requires.good;
      peaks = c.start.ensures.peaks ∙ ap (λ z. g.S.SegStore.peaks z.store) e.rest;
      devices = quiet_devices g.I.Source.state g.O.Sink.state g.E.Sink.state g.C.Client.prog g.C.Client.sound
          g.S.SegStore.reserved g.S.SegStore.meaning x y _ q c.requires.good;
    }

pub returns-in-Err : goal.returns-in-Err
returns-in-Err g c =
    let p = g.C.Client.prog c.args.self.now.client.now in
    let s = g.C.Client.sound c.args.self.now.client.now in
    let x = c.args.self.now in
    let m = g.S.SegStore.meaning x.store in
    let e = c.make_work.ensures in
    let u = c.make_work.new.self in
    let rooms : Rooms x.books u.books =
    rooms_made x.books u.books (ap (λ z. z.books) e.rest) e.turns e.turns_kept e.losses e.losses_kept in
    let b = record c.make_work.new.self.books { cause = Some NoMemoryLeft } in
    let y = record c.make_work.new.self { books = b } in
    let begun : (w : Worlds) → Begun p c.args.k c.args.t x.budget (Err OutOfMemory) (core_of w m x.books)
    (core_of w (g.S.SegStore.meaning y.store) y.books) = λ w. (
      (record {
        goes_on = c.in_default.is;
        idle = ap (segment_of w.own ((g.S.SegStore.meaning c.args.self.now.store).part c.args.k))
            (c.is_idle.ensures.yes c.if-not-is_idle.false);
        ready = c.is_ready.ensures.yes c.if-not-is_ready.false w;
        short = c.is_spent.ensures.not c.if-is_spent.false;
        few = let n = c.if-self.false in omega (arith, n);
      }),
      ap (λ (k : CoreState g.row.C-State.Denot). record k { cause = Some NoMemoryLeft })
          (core_roomy_in g.S.SegStore.meaning x.store u.store x.books u.books (ap (λ z. z.store) e.rest) rooms w),
    ) in
    let shape : SameShape m (g.S.SegStore.meaning y.store) = (
      ap (λ z. (g.S.SegStore.meaning z.store).segments) e.rest,
      ap (λ z. (g.S.SegStore.meaning z.store).limit) e.rest,
    ) in
    let q : Quiet g.I.Source.state g.O.Sink.state g.E.Sink.state g.C.Client.prog g.C.Client.sound g.S.SegStore.reserved
    g.S.SegStore.meaning x y (InCore (Begun p c.args.k c.args.t x.budget (Err OutOfMemory))) = record {
      rest = with_spent x y ((λ i. record (e.rest i) { books = b }) ∙
          (λ i. record x { store = (sym e.rest i).store; books = b }));
      shape = shape;
      store = subst (λ z. IsStore (g.S.SegStore.reserved z) (g.S.SegStore.meaning z)) (sym (ap (λ z. z.store) e.rest))
          c.known.ensures.store;
      whole = caused_whole (g.S.SegStore.meaning u.store) u.books (Some NoMemoryLeft)
          (whole_roomy g.S.SegStore.meaning x.store u.store x.books u.books (ap (λ z. z.store) e.rest) rooms
          c.requires.good.whole);
      count = ap (λ z. z.spent) e.rest ∙ subst (λ l. CountsSteps x.spent l) (sym e.turns) c.requires.good.count;
      kept = begun_kept p _ _ _ _ (le_same _ _ (ap (λ z. g.S.SegStore.reserved z.store) e.rest)) shape.1
          (core_of blank m x.books) (core_of blank (g.S.SegStore.meaning y.store) y.books) c.requires.good.kept
          c.args.k c.args.t x.budget (Err OutOfMemory) (begun blank);
      rose = tt;
      led = begun_stands p x.length c.args.k c.args.t x.budget _ _ m (g.S.SegStore.meaning y.store) x.books y.books
          (Err OutOfMemory) begun (ap (λ z. z.books.broken) e.rest);
    } in
    record {
      good = quiet_good g.I.Source.state g.O.Sink.state g.E.Sink.state g.C.Client.prog g.C.Client.sound
          g.S.SegStore.reserved g.S.SegStore.meaning x y _ q c.requires.good;
      job = quiet_job g.I.Source.state g.O.Sink.state g.E.Sink.state g.C.Client.prog g.C.Client.sound
          g.S.SegStore.reserved g.S.SegStore.meaning x y _ q c.requires.good;
      begun = quiet_leads g.I.Source.state g.O.Sink.state g.E.Sink.state g.C.Client.prog g.C.Client.sound
          g.S.SegStore.reserved g.S.SegStore.meaning x y _ q c.requires.good;
      peaks = ap (λ z. g.S.SegStore.peaks z.store) e.rest;
      devices = quiet_devices g.I.Source.state g.O.Sink.state g.E.Sink.state g.C.Client.prog g.C.Client.sound
          g.S.SegStore.reserved g.S.SegStore.meaning x y _ q c.requires.good;
    }
