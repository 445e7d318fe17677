use Rattle.std.proofs.Common.{◌≡◌, ◌+◌, ◌∷◌, [], ◌++◌, ap, ◌∙◌, sym, arith}
use Rattle.py_base.specs.declared.kind.Kind.TheVariants.{Class}
use Rattle.py_code.specs.Right.{cell_root, class_roots}
use Rattle.py_compile.proofs.Compiled.{classes_more}
use Rattle.py_compile.proofs.roots.first_roots.Goals as goal

pub loop-class-preserved : goal.loop-class-preserved
loop-class-preserved t =
    let zero_on : 0 + t.loop-class.class ≡ t.loop-class.class = omega arith in
    t.in_ok-push-2.ensures.ok ∙ ap (λ z. z ++ t.root-in-loop-class.result ∷ []) t.loop-class.invariant ∙
    ap (λ z. cell_root [] ∷ (class_roots 0 t.loop-class.class ++ z ∷ [])) t.root-in-loop-class.ensures
    ∙ ap (λ b. cell_root [] ∷ (class_roots 0 t.loop-class.class ++ record {
      kind = Class;
      number = t.loop-class.class;
      bytes = b;
    } ∷ [])) t.new-in-loop-class.ensures
    ∙ ap (λ k. cell_root [] ∷ (class_roots 0 t.loop-class.class ++ class_roots k 1)) (sym zero_on)
    ∙ ap (λ z. cell_root [] ∷ z) (sym (classes_more 0 t.loop-class.class))
