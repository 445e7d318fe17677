use Rattle.std.proofs.Common.{◌≤◌, length, sym, subst}
use Rattle.py_data.specs.declared.record.TheConstants.{LENGTH_LIMIT}
use Rattle.stm_segment.proofs.Seeing.{stored_at}
use Rattle.stm_segment.proofs.sights.copy_of.Goals as goal

pub standing-requires-clause-values : goal.standing-requires-clause-values
standing-requires-clause-values g c =
    subst (λ v. length v ≤ LENGTH_LIMIT) (sym c.in_ok-values.ensures)
    (stored_at (g.S.SegStore.reserved c.args.store.now) (g.S.SegStore.meaning c.args.store.now) c.args.k c.args.a.0
    c.known.ensures.store c.requires.there).values

pub standing-requires-clause-bytes : goal.standing-requires-clause-bytes
standing-requires-clause-bytes g c =
    subst (λ b. length b ≤ LENGTH_LIMIT) (sym c.in_ok-bytes.ensures)
    (stored_at (g.S.SegStore.reserved c.args.store.now) (g.S.SegStore.meaning c.args.store.now) c.args.k c.args.a.0
    c.known.ensures.store c.requires.there).bytes
