-- The mirror of the code: nothing public rests on it.
-- The strings, global names and keyword lists that were used so far, as the code gathers them. It belongs to `Uses`.
use Rattle.std.specs.Prelude.{◌≡◌, ℕ, zero, suc, ◌+◌, ◌<◌, length, List, [], ◌∷◌, ◌++◌, get_or, slice_set, Option, Some, None}
use Rattle.py_tree.specs.declared.expr.Expr.{Expr}
use Rattle.py_tree.specs.declared.stmt.Stmt.{Stmt}
use Rattle.py_tree.specs.declared.stmt.Arm.{Arm}
use Rattle.py_tree.specs.declared.stmt.Clause.{Clause}
use Rattle.py_tree.specs.declared.stmt.Handler.{Handler}
use Rattle.py_uses.specs.declared.uses.Role.{Role}
use Rattle.py_uses.specs.declared.uses.Role.TheVariants.{Read, Target}
use Rattle.py_uses.specs.declared.tally.Place.{Place}
use Rattle.py_templates.specs.Uses.{Use, Text, Global, Keys, Inside, Uses, with_keys, read, target, read_all, target_all, read_some, target_some, in_turn, none_used, stmt_uses, keys_from, quiet}
use Rattle.py_base.specs.NameLists.{with_name}

-- The lists, and the number of the next body.
pub record Tally : Type 0 where
  pub texts : List (List ℕ)
  pub cells : List (List ℕ)
  pub keys : List (List (List (List ℕ)))
  pub next : ℕ

abbrev pub tally_one : Tally → Use → Tally
tally_one t (Text x) = record t { texts = with_name t.texts x }
tally_one t (Global x) = record t { cells = with_name t.cells x }
tally_one t (Keys b ks) = record t { keys = slice_set t.keys b (with_keys (get_or t.keys b []) ks) }

abbrev pub tally : Tally → List Use → Tally
tally t [] = t
tally t (u ∷ us) = tally (tally_one t u) us

-- the body of a place, where the bodies bind these names
abbrev pub inside : List (List (List ℕ)) → Place → Inside
inside all b = record { number = b.number; is_class = b.is_class; locals = get_or all b.number [] }

abbrev pub locals_in : List (List (List ℕ)) → ℕ → List (List ℕ)
locals_in all f = get_or all f []

-- so many bodies later
abbrev pub bump : Tally → ℕ → Tally
bump t zero = t
bump t (suc n) = record t { next = t.next + suc n }

-- after what a statement uses in a body
abbrev pub done : Tally → Inside → Uses → Tally
done t b s = bump (tally t (s.uses b t.next)) s.bodies

-- ---- expressions
abbrev pub told : Role → Inside → Expr → List Use
told Read b x = read b x
told Target b x = target b x

abbrev pub told_all : Role → Inside → List Expr → List Use
told_all Read b xs = read_all b xs
told_all Target b xs = target_all b xs

abbrev pub told_some : Role → Inside → Option Expr → List Use
told_some Read b x = read_some b x
told_some Target b x = target_some b x

-- ---- statements
module _ (all : List (List (List ℕ))) where
  abbrev pub block_uses : List Stmt → Uses
  block_uses [] = none_used
  block_uses (s ∷ ss) = in_turn (stmt_uses (locals_in all) s) (block_uses ss)

  abbrev pub arm_uses : Arm → Uses
  arm_uses a = in_turn (quiet (λ b. read b a.test)) (block_uses a.body)

  abbrev pub arms_uses : List Arm → Uses
  arms_uses [] = none_used
  arms_uses (a ∷ as') = in_turn (arm_uses a) (arms_uses as')

  abbrev pub clause_uses : Option Clause → Uses
  clause_uses None = none_used
  clause_uses (Some c) = block_uses c.body

  abbrev pub handler_uses : Handler → Uses
  handler_uses h = in_turn (quiet (λ b. read_some b h.test ++ target_some b h.target)) (block_uses h.body)

  abbrev pub handlers_uses : List Handler → Uses
  handlers_uses [] = none_used
  handlers_uses (h ∷ hs) = in_turn (handler_uses h) (handlers_uses hs)

-- these are the keyword lists of so many bodies
pub record Listed (n : ℕ) (keys : List (List (List (List ℕ)))) (us : List Use) : Type 0 where
  pub count : length keys ≡ n
  pub lists : (b : ℕ) → b < n → get_or keys b [] ≡ keys_from b ([] ∷ []) us
