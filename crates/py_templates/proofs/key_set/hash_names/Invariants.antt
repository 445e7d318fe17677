use Rattle.std.proofs.Common.{◌≡◌, length}
use Rattle.std.specs.Prelude.{fold}
use Rattle.std.specs.List.{flat_map}
use Rattle.std.specs.Hash.{slice, u8}
use Rattle.py_templates.specs.Expressions.{key_names}
use Rattle.py_templates.proofs.key_set.hash_names.Given as goal

abbrev pub invariant-names : goal.invariant-names
invariant-names g l = fold g.H.Hasher.write l.state (flat_map (slice u8) (key_names l.rest)) ≡ fold g.H.Hasher.write
    l.initial.state (flat_map (slice u8) (key_names l.named))

abbrev pub decreases-names : goal.decreases-names
decreases-names g l = length l.rest
