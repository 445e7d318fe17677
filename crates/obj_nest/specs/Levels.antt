-- What the rows of equality, order, truth and texts share: levels, and how two records are compared.
-- States `docs/HEAP.md`, "Equality and order".
use Rattle.std.specs.Prelude.{ℕ, zero, suc, Option, Some, None}
use Rattle.py_base.specs.declared.kind.Kind.{Kind}
use Rattle.py_base.specs.declared.kind.Kind.TheVariants.{Str, Tuple, List as ListKind, Dict, Method}
use Rattle.py_data.specs.declared.record.Got.{Got}
use Rattle.py_data.specs.declared.record.Got.TheVariants.{Raise}
use Rattle.py_data.specs.Fault.{depth_fault}
use Rattle.py_data.specs.Row.{Row, Ret, bind}
use Rattle.py_data.specs.Looking.{kind_row}
use Rattle.obj_nest.specs.declared.pairing.Pairing.{Pairing}
use Rattle.obj_nest.specs.declared.pairing.Pairing.TheVariants.{Texts, Items, Pairs, Methods, Others}

-- ---- levels

-- What works on the parts of containers, where so many levels are left; none, where no level is. `f` is what works on a
-- value, given what works on its parts.
unfoldable pub below : {U : Type 0} → (Option U → U) → ℕ → Option U
below f zero = None
below f (suc d) = Some (f (below f d))

-- the parts are worked on, where a level is left
unfoldable pub level_row : {S A U : Type 0} → Option U → (U → Row S (Got A)) → Row S (Got A)
level_row None f = Ret (Raise depth_fault)
level_row (Some u) f = f u

-- ---- two records

-- how records of two kinds are compared
abbrev pub pairing_of : Kind → Kind → Pairing
pairing_of Str Str = Texts
pairing_of Tuple Tuple = Items
pairing_of ListKind ListKind = Items
pairing_of Dict Dict = Pairs
pairing_of Method Method = Methods
pairing_of _ _ = Others

unfoldable pub kinds_with : {S : Type 0} → ℕ → Kind → Row S Pairing
kinds_with b k = bind (kind_row b) (λ l. Ret (pairing_of k l))

-- how two records are compared, by their kinds
unfoldable pub kinds_row : {S : Type 0} → ℕ → ℕ → Row S Pairing
kinds_row a b = bind (kind_row a) (λ k. kinds_with b k)
