-- What may be a single target is a target.
use Rattle.std.proofs.Common.{◌≡◌, true, false, refl}
use Rattle.py_tree.specs.declared.form.Form.{Form}
use Rattle.py_tree.specs.declared.form.Form.TheVariants.{Bare, Part, Cut as CutForm, Many, Plain}
use Rattle.py_tree.specs.Form.{is_target, is_single}

pub single_target : (f : Form) → is_single false f ≡ true → is_target false f ≡ true
single_target Bare h = refl
single_target Part h = refl
single_target CutForm h = absurd (cc)
single_target (Many s w) h = absurd (cc)
single_target Plain h = absurd (cc)
