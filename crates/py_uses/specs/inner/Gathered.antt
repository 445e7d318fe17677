-- The mirror of the code: nothing public rests on it.
-- The bodies of a module, as the code has them. It belongs to `Statements`.
use Rattle.std.specs.Prelude.{ℕ, ◌+◌, List, [], ◌∷◌}
use Rattle.py_uses.specs.declared.bodies.Body.{Body as DeclaredBody}
use Rattle.py_templates.specs.Statements.{Body, stated_block}

-- a body with that number
abbrev pub body_of : ℕ → DeclaredBody → Body
body_of f y = record {
  line = y.line;
  name = y.name.now;
  is_class = y.is_class;
  params = y.params;
  block = λ n.
      (stated_block y.block.now).code n [] (f + 1);
}

-- bodies that are numbered from f on
abbrev pub numbered : ℕ → List DeclaredBody → List Body
numbered f [] = []
numbered f (y ∷ ys) = body_of f y ∷ numbered (f + 1) ys
