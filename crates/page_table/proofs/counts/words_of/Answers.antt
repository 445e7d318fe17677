use Rattle.std.proofs.Common.{◌≤◌, ◌^◌, arith}
use Rattle.std.proofs.Math.Nat.{pow-le-pow_right}
use Rattle.std.proofs.lemmas.Nat.{one_shl}
use Rattle.page_table.proofs.counts.words_of.Goals as goal

pub returns-else-class-eq0-clause-most : goal.returns-else-class-eq0-clause-most
returns-else-class-eq0-clause-most c =
    let e = one_shl c.args.class 64 (omega (arith, c.requires)) in
    let m : 2 ^ c.args.class ≤ 2 ^ 21 = pow-le-pow_right (omega arith) c.requires in
    omega (arith, e, m)
