-- The turns of code that makes classes one after another.
use Rattle.std.proofs.Common.{arith, ◌≡◌, ℕ, zero, suc, ◌+◌, ◌-◌, ◌<◌, ◌≤◌, List, Ok, Err, subst}
use Rattle.py_data.specs.declared.stop.Stop.{Stop}
use Rattle.py_data.specs.declared.value.Value.{Value}
use Rattle.py_data.specs.Row.{Row, bind}
use Rattle.py_data.specs.Sense.{Sense, Lawful, Safe, Meets}
use Rattle.py_data.specs.inner.Rest.{Leads}
use Rattle.py_data.proofs.Steps.{leads_call, leads_call_stop, leads_ret, safe_first}
use Rattle.obj_class.specs.NewRoots.{next_root_row, roots_from}

module _ {S X : Type 0} {u : Sense S X} {row : Row S (List Value)} {v w : X} where
  one_root : (i n : ℕ) (vs : List Value) → i < n → Leads u row v (roots_from i (n - i) vs) w →
      Leads u row v (bind (next_root_row i vs) (λ ws. roots_from (i + 1) (n - (i + 1)) ws)) w
  unfolding roots_from
  one_root i n vs l h =
      let e : n - i ≡ suc (n - (i + 1)) = omega arith in
      subst (λ m. Leads u row v (roots_from i m vs) w) e h

  pub from_safe : (i n : ℕ) (vs : List Value) → i < n → Leads u row v (roots_from i (n - i) vs) w →
      Safe u.partial (next_root_row {S = S} i vs) (u.heap w)
  from_safe i n vs l h = let t = one_root i n vs l h in
      safe_first u.partial (next_root_row i vs) (λ ws. roots_from (i + 1) (n - (i + 1)) ws) (u.heap w) t.safe

  pub from_stop : (x : X) (e : Stop) (i n : ℕ) (vs : List Value) → i < n → Leads u row v (roots_from i (n - i) vs) w →
      Meets u (next_root_row i vs) w x (Err e) → Meets u row v x (Err e)
  from_stop x e i n vs l h m = leads_call_stop (next_root_row i vs) (λ ws. roots_from (i + 1) (n - (i + 1)) ws) x e
      (one_root i n vs l h) m

  pub from_more : (L : Lawful u) (x : X) (i n : ℕ) (vs ws : List Value) → i < n →
      Leads u row v (roots_from i (n - i) vs) w → Meets u (next_root_row i vs) w x (Ok ws) →
      Leads u row v (roots_from (i + 1) (n - (i + 1)) ws) x
  from_more L x i n vs ws l h m = leads_call L (next_root_row i vs) (λ ws. roots_from (i + 1) (n - (i + 1)) ws) x ws
      (one_root i n vs l h) m

  pub from_end : (i n : ℕ) (vs : List Value) → n ≤ i → Leads u row v (roots_from i (n - i) vs) w →
      Meets u row v w (Ok vs)
  unfolding roots_from
  from_end i n vs l h =
      let e : n - i ≡ zero = omega arith in
      leads_ret (subst (λ m. Leads u row v (roots_from i m vs) w) e h)
