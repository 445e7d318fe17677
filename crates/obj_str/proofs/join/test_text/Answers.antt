use Rattle.std.proofs.Common.{Ok, sym, ap, subst, ◌∙◌}
use Rattle.py_data.specs.declared.record.Got.TheVariants.{Is}
use Rattle.py_data.specs.Heap.{at}
use Rattle.py_data.specs.Sense.{Meets}
use Rattle.obj_seq.specs.Iter.{is_str}
use Rattle.obj_str.specs.Methods as methods
use Rattle.obj_str.proofs.Copied.{text_told}
use Rattle.obj_str.proofs.join.test_text.Goals as goal

pub returns-in-Str : goal.returns-in-Str
unfolding methods.text_item
returns-in-Str g c =
    let bs = (at (g.V.View.sense.heap c.args.v.now) c.in-Ref.a.0).bytes in (
      bs,
      subst (λ x. Meets g.V.View.sense (methods.text_item x) c.args.v.now c.kind.new.self (Ok (Is bs)))
          (sym c.in-Ref.is)
          (text_told g.met.V.View.lawful c.in-Ref.a.0 _ _ c.in_ok-kind-in-Ref.ensures.0
          (ap is_str (sym c.in_ok-kind-in-Ref.ensures.1 ∙ c.in-Str.is))),
    )
