-- The turns of the loop over keywords.
use Rattle.std.proofs.Common.{arith, ◌≡◌, ℕ, ◌-◌, List, length, sym, subst}
use Rattle.std.specs.Prelude.{◌/◌}
use Rattle.py_data.specs.declared.value.Value.{Value}
use Rattle.py_data.specs.Looking.{each_row}
use Rattle.py_data.specs.inner.Rest.{Leads}
use Rattle.py_data.specs.Sense.{Sense, Safe, IsLive}
use Rattle.py_data.proofs.Steps.{leads_begin}
use Rattle.obj_threads.specs.declared.keywords.Keywords.{Keywords}
use Rattle.obj_threads.specs.Keywords.{keyword_row, keywords_row, no_keywords}

pub keywords_begin : {S X : Type 0} {u : Sense S X} (keys : List Value) (n : ℕ) (v : X) (k : Keywords) →
    n ≡ length keys / 2 → k ≡ no_keywords → Safe u.partial (keywords_row {S = S} keys) (u.heap v) → IsLive u v
    → Leads u (keywords_row {S = S} keys) v (each_row (keyword_row keys) 0 (n - 0) k) v
unfolding keywords_row
keywords_begin {S} {X} {u} keys n v k c o s l =
    let e : n - 0 ≡ length keys / 2 = omega (arith, c) in
    subst (λ m. Leads u (keywords_row {S = S} keys) v (each_row (keyword_row keys) 0 m k) v) (sym e)
    (subst (λ t. Leads u (keywords_row {S = S} keys) v (each_row (keyword_row keys) 0 (length keys / 2) t) v) (sym o)
    (leads_begin u (keywords_row {S = S} keys) v s l))
