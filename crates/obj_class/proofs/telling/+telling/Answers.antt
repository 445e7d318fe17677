use Rattle.std.proofs.Common.{arith}
use Rattle.std.proofs.lemmas.Grind.{common_steps}
use Rattle.obj_class.specs.Telling.{exception_text_row}
use Rattle.obj_class.proofs.LeftSteps.{left_safe, left_deep}
use Rattle.obj_class.proofs.telling.+telling.Goals as goal

pub leveled-exception_text-requires : goal.leveled-exception_text-requires
leveled-exception_text-requires g t c =
    let s = left_safe c.args.roots.0 (λ u. exception_text_row c.args.roots.0 u c.args.a.0) c.args.levels (omega arith)
    _ _ c.requires.safe in
    let l = c.requires.live in
    grind (arith, common_steps)

pub leveled-returns-then-levels-eq0 : goal.leveled-returns-then-levels-eq0
leveled-returns-then-levels-eq0 g t c = left_deep c.args.roots.0 (λ u. exception_text_row c.args.roots.0 u c.args.a.0)
    c.args.levels _ (omega arith) _ _ c.too_deep.ensures
