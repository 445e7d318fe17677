-- A list of roots stays one: it is fixed, and so are the classes and their names.
use Rattle.std.proofs.Common.{◌≡◌, ℕ, false, List, [], Some, refl, ap, ◌∙◌}
use Rattle.py_base.specs.declared.kind.Kind.TheVariants.{Str, Cell}
use Rattle.py_data.specs.declared.value.Value.{Value}
use Rattle.py_data.specs.Heap.{Heap, Rec, is_tracked, value_at, new_rec}
use Rattle.py_data.specs.Order.{Extends}
use Rattle.py_data.proofs.Keep.{ref_stays}
use Rattle.obj_class.specs.Roots.{own_name, HasClass}
use Rattle.obj_class.specs.Laws.{RootsStay}

pub fixed_stays : (h h1 : Heap) (a : ℕ) (r : Rec) → Extends h h1 → h a ≡ Some r → is_tracked r.kind ≡ false →
    h1 a ≡ Some r
fixed_stays h h1 a r x e t = let k = x.kept a r e in k.here ∙ ap Some (k.fixed t)

pub class_stays : (h h1 : Heap) (vs : List Value) (n : ℕ) → Extends h h1 → HasClass h vs n → HasClass h1 vs n
class_stays h h1 vs n x c = record {
  address = c.address;
  is = c.is;
  class = c.class;
  here = fixed_stays h h1 c.address c.class x c.here (ap is_tracked c.kind);
  kind = c.kind;
  name = c.name;
  named = c.named;
  text = fixed_stays h h1 c.name (new_rec Str [] (own_name n)) x c.text refl;
  base = c.base;
}

pub roots_stay : RootsStay
roots_stay h h1 roots x r = record {
  list = r.list;
  here = fixed_stays h h1 roots r.list x r.here (ap is_tracked r.kind);
  kind = r.kind;
  counts = ref_stays h h1 x Cell (value_at r.list.values 0) r.counts;
  classes = λ n l. class_stays h h1 r.list.values n x (r.classes n l);
}
