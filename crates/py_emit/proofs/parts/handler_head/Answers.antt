use Rattle.std.proofs.Common.{◌∷◌, [], length, arith, refl, ap}
use Rattle.std.proofs.lemmas.Grind.{common_steps}
use Rattle.py_emit.specs.inner.State.{opened, frame_there}
use Rattle.py_templates.specs.Expressions.{value, stored}
use Rattle.py_emit.proofs.StmtArms.{puts_more}
use Rattle.py_emit.proofs.parts.handler_head.Goals as goal
use Rattle.py_code.specs.declared.instr.Instr.TheVariants.{LoadLocal, JumpFalse, ExcMatch}
use Rattle.py_templates.specs.Template.{Op, Hidden, To, Alone}

pub returns-in_ok-next-in-None-target-clause-done : goal.returns-in_ok-next-in-None-target-clause-done
returns-in_ok-next-in-None-target-clause-done c =
    rw (c.in-Some.is, c.in-None-target.is) (
      c.in_ok-next-in-None-target.ensures.base,
      c.in_ok-next-in-None-target.ensures.labels,
      c.in_ok-next-in-None-target.ensures.done,
    )

pub returns-in_ok-store-in-Some-target-clause-done : goal.returns-in_ok-store-in-Some-target-clause-done
returns-in_ok-store-in-Some-target-clause-done c =
    let a = ap (λ z. length z.labels) c.in_ok-put-in-Some-target.ensures.done in
    let b = c.in_ok-store-in-Some-target.ensures.done.more in
    let l = c.in_ok-next-in-Some-target.ensures.labels in
    rw (c.in-Some.is, c.in-Some-target.is) (
      c.in_ok-next-in-Some-target.ensures.base,
      grind (arith, common_steps),
      λ base env. puts_more c.args.x.now.line c.in_ok-next-in-Some-target.next
          (λ ls. frame_there c.in_ok-next-in-Some-target.next 1 0 ls ∷ frame_there base 2 c.args.slot ls ∷ env ls)
          (Hidden 1 LoadLocal ∷ Alone (value c.args.names.now c.args.x.now.line c.in-Some.test) ∷ Op ExcMatch ∷ To 0
          JumpFalse 0 ∷ []) (Hidden 1 LoadLocal ∷ Alone
          (stored c.args.names.now c.args.x.now.line c.in-Some-target.target) ∷ []) (opened c.args.e.now 1 0) _ _
          (c.in_ok-next-in-Some-target.ensures.done base env) (
            _,
            (c.args.slot, λ ls. refl, c.in_ok-put-in-Some-target.ensures.done),
            (_, c.in_ok-store-in-Some-target.ensures.done, refl),
          ),
    )
