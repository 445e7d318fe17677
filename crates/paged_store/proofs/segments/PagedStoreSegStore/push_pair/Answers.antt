use Rattle.std.proofs.Common.{◌+◌, ◌*◌, ◌<◌, ◌≤◌, MatchBool, subst}
use Rattle.py_data.specs.declared.change.Change.TheVariants.{Pair}
use Rattle.seg_store.proofs.Stores.{told}
use Rattle.paged_store.specs.Stores.{paged_of, peaks_of}
use Rattle.paged_store.specs.Words.{body_size, count_by}
use Rattle.paged_store.proofs.FitStore.{pair_fits}
use Rattle.paged_store.proofs.GrowStore.{full_there, dict_full}
use Rattle.paged_store.proofs.PeakLemmas.{still_rises, still_rises_to}
use Rattle.paged_store.proofs.StoreChanges.{words_of, readable, dict_rooms}
use Rattle.paged_store.proofs.segments.PagedStoreSegStore.push_pair.Goals as goal

pub has_room-requires-clause-there : goal.has_room-requires-clause-there
has_room-requires-clause-there c =
    readable c.args.self.now c.args.k c.args.d.0 c.requires.segment (Pair c.args.key c.args.v) c.requires.there

pub has_room-requires-clause-kind : goal.has_room-requires-clause-kind
has_room-requires-clause-kind c =
    dict_rooms c.args.self.now c.args.k c.args.d.0 c.requires.segment c.args.key c.args.v c.requires.there

pub returns-in_err-add_pair-clause-peaks_err : goal.returns-in_err-add_pair-clause-peaks_err
returns-in_err-add_pair-clause-peaks_err c = told c.from_residual.result
    (still_rises_to (peaks_of c.args.self.now) (peaks_of c.add_pair.new.self) _ c.add_pair.ensures.peaks)

pub returns-in_ok-add_pair-clause-peaks : goal.returns-in_ok-add_pair-clause-peaks
returns-in_ok-add_pair-clause-peaks c = still_rises (paged_of c.args.self.now) (paged_of c.add_pair.new.self)
    c.add_pair.new.self.sound.fine c.add_pair.ensures.peaks

pub returns-else-has_room-clause-roomy : goal.returns-else-has_room-clause-roomy
returns-else-has_room-clause-roomy c = λ roomy.
    let s = c.args.self.now in
    let size = body_size (words_of s c.args.k) c.args.d.0 in
    let wanted = 2 * (count_by (words_of s c.args.k) c.args.d.0 + 2) in
    let small : size < wanted = subst (λ b. MatchBool b (wanted ≤ size) (size < wanted)) c.if-has_room.false
    c.has_room.ensures in
    absurd (roomy (full_there s c.args.k c.args.d.0 c.requires.segment (Pair c.args.key c.args.v) c.requires.there
    (dict_full s c.args.k c.args.d.0 c.requires.segment c.requires.held c.args.key c.args.v c.requires.there small)))

pub returns-in_ok-add_pair-clause-fits : goal.returns-in_ok-add_pair-clause-fits
returns-in_ok-add_pair-clause-fits c =
    let s = c.args.self.now in
    let size = body_size (words_of s c.args.k) c.args.d.0 in
    let wanted = 2 * (count_by (words_of s c.args.k) c.args.d.0 + 2) in
    pair_fits s c.args.k c.args.d.0 c.requires.segment c.is_known.ensures.store c.is_known.ensures.told c.args.key
    c.args.v c.requires.there
    (subst (λ b. MatchBool b (wanted ≤ size) (size < wanted)) c.if-has_room.true c.has_room.ensures)
