-- How the loops of instructions begin.
use Rattle.std.proofs.Common.{arith, ◌≡◌, ℕ, ◌-◌, false, not, sym, subst}
use Rattle.py_data.specs.Looking.{until_row}
use Rattle.py_data.specs.Sense.{Sense, Safe, IsLive}
use Rattle.py_data.specs.inner.Rest.{Leads}
use Rattle.py_data.proofs.Steps.{leads_begin}
use Rattle.py_frames.specs.RaiseRows.{place_catches, some_catches}

module _ {S X : Type 0} {u : Sense S X} where
  pub some_begin : (roots e t n : ℕ) (v : X) → Safe u.partial (some_catches {S = S} roots e t n) (u.heap v) → IsLive u v
      → Leads u (some_catches {S = S} roots e t n) v (until_row (place_catches roots e t) not false 0 (n - 0)) v
  unfolding some_catches
  some_begin roots e t n v s l =
      let q : n - 0 ≡ n = omega arith in
      subst (λ m. Leads u (some_catches {S = S} roots e t n) v (until_row (place_catches roots e t) not false 0 m) v)
      (sym q) (leads_begin u (some_catches {S = S} roots e t n) v s l)
