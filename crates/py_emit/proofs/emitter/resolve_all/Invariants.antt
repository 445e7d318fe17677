use Rattle.std.proofs.Common.{◌≡◌, take}
use Rattle.py_emit.specs.inner.State.{done, places_of}
use Rattle.py_emit.proofs.emitter.resolve_all.Given as goal

abbrev pub invariant-loop-draft : goal.invariant-loop-draft
invariant-loop-draft l = l.out ≡ done (places_of l.labels) (take l.draft-index l.code)
