use Rattle.seg_store.proofs.Stores.{changed_place}
use Rattle.seg_store.proofs.hand.Hand.changed_at.Goals as goal

pub returns : goal.returns
returns c = changed_place c.args.self.now.changed c.args.i c.at.result c.requires c.at.ensures
