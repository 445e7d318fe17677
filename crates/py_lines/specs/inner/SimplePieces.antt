-- The mirror of the code: nothing public rests on it.
-- Parts of the reading of simple statements that have functions of their own in the code.
use Rattle.std.specs.Prelude.{ℕ, List, [], ◌∷◌, Ok, if◌then◌else◌, Bool, None}
use Rattle.py_tree.specs.declared.stmt.Stmt.{Stmt}
use Rattle.py_tree.specs.declared.stmt.Stmt.TheVariants as s
use Rattle.py_lines.specs.declared.imports.Importable.{Importable}
use Rattle.py_lines.specs.declared.imports.Importable.TheVariants.{Module, Member}
use Rattle.py_grammar.specs.inner.Tall.{start, tree_or}
use Rattle.py_grammar.specs.Words.{is_module, is_member}
use Rattle.py_grammar.specs.inner.Reading.{Reader, ◌>>=◌, first, comes, name_at}
use Rattle.py_grammar.specs.inner.Aiming.{Readers}
use Rattle.py_grammar.specs.inner.Lines.{ends_del, maybe_at, target_at, targets_at, names_at, imported_at, imports_at, raise_at, assert_at}

-- whether this name may come where an import asks for a module, or for a member of this module
abbrev pub may_import : Importable → List ℕ → Bool
may_import Module = is_module
may_import (Member m) = is_member m

-- after `return`
abbrev pub return_at : Readers → ℕ → Reader Stmt
return_at under l ts = maybe_at under 15 ts >>= λ a. Ok (s.Return l (tree_or a.0), a.1)

-- after `raise`
abbrev pub raise_or_none_at : Readers → ℕ → Reader Stmt
raise_or_none_at under l ts = if comes 14 (first ts) then (under.read 14 ts >>= raise_at under l) else Ok
    (s.Raise l None None, ts)

-- after `del`
abbrev pub del_at : Readers → ℕ → ℕ → Reader Stmt
del_at under g l ts = do
  a ← target_at under ends_del ts
  es ← targets_at under g (start a.0) a.1
  Ok (s.Del l es.0.tree, es.1)

-- after `global`
abbrev pub global_at : ℕ → ℕ → Reader Stmt
global_at g l ts = do
  m ← name_at ts
  ns ← names_at g (m.0 ∷ []) m.1
  Ok (s.Global l ns.0, ns.1)

-- after `assert`
abbrev pub assert_test_at : Readers → ℕ → Reader Stmt
assert_test_at under l ts = under.read 14 ts >>= assert_at under l

-- after `import`
abbrev pub import_at : ℕ → ℕ → Reader Stmt
import_at g l ts = do
  i ← imported_at is_module ts
  is ← imports_at is_module g (i.0 ∷ []) i.1
  Ok (s.Import l is.0, is.1)
