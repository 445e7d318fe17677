use Rattle.std.proofs.Common.{◌≡◌, ◌≢◌, arith, List, [], ◌∷◌, ◌++◌, Option, Some, sym, ap, ◌∙◌}
use Rattle.heap_lock.specs.Parts.{all_parts}
use Rattle.heap_lock.proofs.PartsLemmas.{some_from_length, length_all_parts, has_all_parts, descending_all_parts}
use Rattle.heap_lock.proofs.RuleLemmas.{makes_lock, free_seat}
use Rattle.heap_lock.proofs.lock.HeapLock.new.Goals as goal

pub new-made-requires : goal.new-made-requires
new-made-requires g c =
    let slots : c.push_reserved.new.self.items ≡ Some c.args.value ∷ [] = c.push_reserved.ensures.items ∙
    ap (λ (l : List (Option g.row.T.Denot)). l ++ Some c.args.value ∷ []) c.in-Ok.ensures.items in
    let job = g.T.Job in
    rw slots (makes_lock job.job job.good job.grows job.grows_same job.grows_then c.args.parts
    (job.job c.of.result.value)
    c.args.value c.of.result.value c.of.ensures c.requires.good (ap job.job (sym c.of.ensures)))

pub invariant_of-result-in-Ok-made : goal.invariant_of-result-in-Ok-made
invariant_of-result-in-Ok-made g c =
    let n = c.args.parts in
    let some : all_parts n ≢ [] = some_from_length (all_parts n) (let length = length_all_parts n in let least =
    c.requires.parts in omega arith) in
    rw c.in-Ok-made.ensures.ok.4 (free_seat (all_parts n) (Some (g.T.Job.job c.of.result.value))
    (c.of.result.value ∷ []) some (descending_all_parts n))

pub returns-in-Ok-made-clause-count : goal.returns-in-Ok-made-clause-count
returns-in-Ok-made-clause-count g c = rw c.in-Ok-made.ensures.ok.4 (length_all_parts c.args.parts)

pub returns-in-Ok-made-clause-all : goal.returns-in-Ok-made-clause-all
returns-in-Ok-made-clause-all g c = rw (c.in-Ok-made.ensures.ok.4, c.in-Ok-made.ensures.ok.5)
    (has_all_parts c.args.parts)
