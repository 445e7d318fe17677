use Rattle.std.proofs.Common.{◌≡◌, ◌<◌, ℕ, List, Bool, true, false, not, refl, sym, subst, IsTrue}
use Rattle.std.specs.Prelude.{◌↔◌}
use Rattle.py_code.specs.declared.instr.Instr.TheVariants.{MakeFunction}
use Rattle.py_code.specs.declared.program.Code.{Code}
use Rattle.py_code.specs.declared.program.Root.{Root}
use Rattle.py_code.specs.Right.{Belongs, is_body}
use Rattle.py_verify.proofs.context.Context.belongs.Goals as goal

function_belongs : (cs : List Code) (rs : List Root) (n f d : ℕ) (b : Bool) → 0 < f → b ≡ is_body cs f →
    IsTrue (not b) ↔ Belongs cs rs n (MakeFunction f d)
function_belongs cs rs n f d true l e = (λ t. cc, λ q. let no : is_body cs f ≡ false = q.1 in cc)
function_belongs cs rs n f d false l e = (λ t. (l, sym e), λ q. refl)

pub returns-then-f-gt0 : goal.returns-then-f-gt0
returns-then-f-gt0 c =
    let here = function_belongs c.args.self.now.codes c.args.self.now.roots c.args.n c.in-MakeFunction.f
    c.in-MakeFunction.field-1 c.is_body-then-f-gt0.result c.if-f-gt0.true c.is_body-then-f-gt0.ensures in
    subst (λ i. IsTrue (not c.is_body-then-f-gt0.result) ↔ Belongs c.args.self.now.codes c.args.self.now.roots c.args.n
    i) (sym c.in-MakeFunction.is) here
