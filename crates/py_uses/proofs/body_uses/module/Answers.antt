use Rattle.py_uses.proofs.ModuleUses.{module_told}
use Rattle.py_uses.proofs.body_uses.module.Goals as goal

pub returns-clause-texts : goal.returns-clause-texts
returns-clause-texts c = (module_told c.args.all.now c.args.items.now c.args.count c.in_ok-out.out c.enter.new.self
    c.block.new.out c.in_ok-place.place c.in_ok-out.ensures c.in_ok-place.ensures.place c.in_ok-place.ensures.next
    c.in_ok-block.ensures).texts

pub returns-clause-cells : goal.returns-clause-cells
returns-clause-cells c = (module_told c.args.all.now c.args.items.now c.args.count c.in_ok-out.out c.enter.new.self
    c.block.new.out c.in_ok-place.place c.in_ok-out.ensures c.in_ok-place.ensures.place c.in_ok-place.ensures.next
    c.in_ok-block.ensures).cells

pub returns-clause-keys : goal.returns-clause-keys
returns-clause-keys c = (module_told c.args.all.now c.args.items.now c.args.count c.in_ok-out.out c.enter.new.self
    c.block.new.out c.in_ok-place.place c.in_ok-out.ensures c.in_ok-place.ensures.place c.in_ok-place.ensures.next
    c.in_ok-block.ensures).keys
