-- All operations on classes, attributes and exceptions hold over each heap in order.
use Rattle.py_base.specs.declared.kind.Kind.TheVariants.{Str}
use Rattle.py_data.specs.Heap.{Heap}
use Rattle.py_data.specs.Order.{Rules}
use Rattle.obj_class.specs.HoldsLaws.{ClassHolds}
use Rattle.obj_class.proofs.AttrHolds.{attr_holds, set_holds, del_holds}
use Rattle.obj_class.proofs.AttrLooks.{find_looks, sub_looks}
use Rattle.obj_class.proofs.FaultHolds.{fault_holds}
use Rattle.obj_class.proofs.Given.{attr_given, attr_looks}
use Rattle.obj_class.proofs.Parts.{is_at}
use Rattle.obj_class.proofs.RootsHold.{roots_hold}
use Rattle.obj_class.proofs.TellingLooks.{told_looks}

pub class_holds : {S : Type 0} (rules : Rules) (stands : Heap → S → Type 0) → ClassHolds rules stands
class_holds {S} rules stands = record {
  is_sub = λ h c base order i. sub_looks S rules h order c base i;
  find_attr = λ h roots name x order r i t. find_looks S rules h order name (is_at h Str name t) roots x r i.0;
  attr = attr_holds rules stands;
  given = attr_given rules stands;
  unbound = attr_looks rules stands;
  set_attr = set_holds rules stands;
  del_attr = del_holds rules stands;
  make_fault = fault_holds rules stands;
  make_roots = roots_hold rules stands;
  text = λ h roots x quoted order r i. told_looks S rules h order roots r x quoted i;
}
