-- Addresses as the numbers that names are. States `docs/HEAP.md`, "Records".
use Rattle.std.specs.Prelude.{ℕ, List, map}
use Rattle.py_data.specs.declared.value.Addr.{Addr}

-- the numbers of addresses, in their order
abbrev pub places : List Addr → List ℕ
places names = map (λ a. a.0) names
