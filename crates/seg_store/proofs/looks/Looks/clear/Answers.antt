use Rattle.std.proofs.Common.{rules, ◌<◌, length, arith}
use Rattle.seg_store.proofs.Flagging.{unlisted, last_within}
use Rattle.seg_store.proofs.looks.Looks.clear.Goals as goal

pub index_mut-requires : goal.index_mut-requires
index_mut-requires c =
    let l : c.in-Some.a < length c.listed.self.flags.items =
    last_within c.listed.self.flags.items c.listed.self.list.items c.pop.new.self.items c.in-Some.a
    c.listed.self.listed (search rules) in
    omega (arith, c.listed.self.flags.ok.0)

pub invariant_of-self : goal.invariant_of-self
invariant_of-self c = record {
  listed = unlisted c.listed.self.flags.items c.listed.self.list.items c.pop.new.self.items c.in-Some.a
      c.listed.self.listed (search rules);
}
