use Rattle.seg_store.proofs.Knowing.{is_store}
use Rattle.seg_store.proofs.plain.PlainStoreSegStore.known.Goals as goal

pub returns : goal.returns
returns c = record {
  store = is_store c.args.self.now.image.items c.args.self.now.hands.items c.args.self.now.sound;
  told = tt;
}
