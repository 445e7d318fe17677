use Rattle.std.proofs.Common.{rules}
use Rattle.std.specs.Result.{is_ok}
use Rattle.seg_store.proofs.Flagging.{listed_more, listed_try}
use Rattle.seg_store.proofs.looks.Looks.prepare.Goals as goal

pub invariant_of-self : goal.invariant_of-self
invariant_of-self c = record {
  listed = listed_try c.reach.new.self.flags.items c.reach.new.self.list.items c.push.new.self.items c.args.a
      (is_ok c.push.result) c.reach.new.self.listed (search rules) c.push.ensures.items;
}

pub returns-clause-ok : goal.returns-clause-ok
returns-clause-ok c = (listed_more c.reach.new.self.flags.items c.reach.new.self.list.items c.push.new.self.items
    c.args.a c.reach.new.self.listed (search rules) (search rules)).there
