use Rattle.obj_bench.proofs.stacking.push_leaf.Goals as goal

pub push-requires : goal.push-requires
push-requires g c = record { good = c.requires; answer = c.leaf_value.ensures _ }
