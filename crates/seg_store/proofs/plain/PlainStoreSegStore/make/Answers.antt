use Rattle.std.proofs.Common.{rules, arith, ◌≡◌, ◌≤◌, ◌∙◌, ap, length}
use Rattle.py_data.specs.Made.{rec_of}
use Rattle.seg_store.specs.Calls.{after_make}
use Rattle.seg_store.specs.Meaning.{Meaning, holds}
use Rattle.seg_store.specs.Plain.{plain_meaning}
use Rattle.seg_store.proofs.Stores.{past_free, told}
use Rattle.seg_store.proofs.plain.PlainStoreSegStore.make.Goals as goal

pub returns-in_err-add_blank-clause-err : goal.returns-in_err-add_blank-clause-err
returns-in_err-add_blank-clause-err c = told c.from_residual-in_err-add_blank.result c.add_blank.ensures.same

pub place-requires-clause-blank : goal.place-requires-clause-blank
place-requires-clause-blank c =
    let l : length c.args.self.now.image.items ≤ c.in-Ok.n = omega (arith, c.args.self.now.image.ok.0) in
    ap (λ (m : Meaning). m.image c.in-Ok.n) c.add_blank.ensures.same ∙
    (past_free c.args.self.now.image.items c.args.self.now.hands.items c.args.self.now.sound c.in-Ok.n l).image

pub place-requires-clause-free : goal.place-requires-clause-free
place-requires-clause-free c = λ j.
    let l : length c.args.self.now.image.items ≤ c.in-Ok.n = omega (arith, c.args.self.now.image.ok.0) in
    ap (λ (m : Meaning). holds (m.part j) c.in-Ok.n) c.add_blank.ensures.same ∙
    (past_free c.args.self.now.image.items c.args.self.now.hands.items c.args.self.now.sound c.in-Ok.n l).held j

pub returns-in_err-place-clause-err : goal.returns-in_err-place-clause-err
returns-in_err-place-clause-err c =
    let placed : plain_meaning c.place.new.self ≡ plain_meaning c.add_blank.new.self = c.in_err-place.ensures.err in
    told c.from_residual-in_err-place.result (placed ∙ c.add_blank.ensures.same)

pub returns-clause-fresh : goal.returns-clause-fresh
returns-clause-fresh c =
    let l : length c.args.self.now.image.items ≤ c.in-Ok.n = omega (arith, c.args.self.now.image.ok.0) in
    past_free c.args.self.now.image.items c.args.self.now.hands.items c.args.self.now.sound c.in-Ok.n l

pub returns-clause-ok : goal.returns-clause-ok
returns-clause-ok c =
    let placed : plain_meaning c.place.new.self ≡ after_make c.args.k c.in-Ok.n c.in_ok-entry.entry
    (plain_meaning c.add_blank.new.self) = c.in_ok-place.ensures.ok in
    let made : c.in_ok-entry.entry ≡ rec_of c.args.r.now = search rules in
    placed ∙ ap (λ r. after_make c.args.k c.in-Ok.n r (plain_meaning c.add_blank.new.self)) made ∙
    ap (after_make c.args.k c.in-Ok.n (rec_of c.args.r.now)) c.add_blank.ensures.same
