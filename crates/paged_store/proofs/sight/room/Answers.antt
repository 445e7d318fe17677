use Rattle.std.proofs.Common.{sym, ap, ◌∙◌, arith}
use Rattle.std.proofs.lemmas.Nat.{one_shl}
use Rattle.paged_store.specs.Words.{room_in}
use Rattle.paged_store.proofs.RecordWords.{room_in_zero}
use Rattle.paged_store.proofs.ReadLemmas.{room_some}
use Rattle.paged_store.proofs.sight.room.Goals as goal

pub returns-then-class-eq0 : goal.returns-then-class-eq0
returns-then-class-eq0 c = sym (ap room_in c.if-class-eq0.true ∙ room_in_zero)

pub returns-else-class-eq0 : goal.returns-else-class-eq0
returns-else-class-eq0 c = one_shl _ 64 (omega arith) ∙ sym (room_some c.args.class (omega arith))
