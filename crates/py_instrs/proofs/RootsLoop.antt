-- The turns of code that makes the roots one after another.
use Rattle.std.proofs.Common.{◌≡◌, List, [], ◌∷◌, ◌++◌, Ok, Err, refl, sym, subst}
use Rattle.py_data.specs.declared.stop.Stop.{Stop}
use Rattle.py_data.specs.declared.stop.Stop.TheVariants.{OutOfMemory}
use Rattle.py_data.specs.declared.value.Value.{Value}
use Rattle.py_data.specs.Row.{Row, bind}
use Rattle.py_data.specs.Sense.{Sense, Lawful, Safe, Meets, IsLive}
use Rattle.py_data.specs.inner.Rest.{Leads}
use Rattle.py_data.proofs.Steps.{leads_begin, leads_call, leads_call_stop, leads_ret, leads_own, safe_first}
use Rattle.py_code.specs.declared.program.Root.{Root}
use Rattle.py_frames.specs.SetupRows.{root_by, roots_row}

module _ {S X : Type 0} {u : Sense S X} where
  pub roots_begin : (rs : List Root) (vs : List Value) (v : X) → vs ≡ [] →
      Safe u.partial (roots_row {S = S} rs []) (u.heap v) → IsLive u v →
      Leads u (roots_row {S = S} rs []) v (roots_row rs vs) v
  roots_begin rs vs v e s l = subst (λ z. Leads u (roots_row {S = S} rs []) v (roots_row rs z) v) (sym e)
      (leads_begin u (roots_row {S = S} rs []) v s l)

module _ {S X : Type 0} {u : Sense S X} {row : Row S (List Value)} {v w : X} where
  one_root : (rs more : List Root) (r : Root) (vs : List Value) → rs ≡ r ∷ more → Leads u row v (roots_row rs vs) w →
      Leads u row v (bind (root_by r vs r.kind) (λ x. roots_row more (vs ++ x ∷ []))) w
  unfolding roots_row
  one_root rs more r vs e l = subst (λ z. Leads u row v (roots_row z vs) w) e l

  pub root_safe : (rs more : List Root) (r : Root) (vs : List Value) → rs ≡ r ∷ more →
      Leads u row v (roots_row rs vs) w → Safe u.partial (root_by {S = S} r vs r.kind) (u.heap w)
  root_safe rs more r vs e l = let t = one_root rs more r vs e l in
      safe_first u.partial (root_by r vs r.kind) (λ x. roots_row more (vs ++ x ∷ [])) (u.heap w) t.safe

  pub root_stop : (x : X) (f : Stop) (rs more : List Root) (r : Root) (vs : List Value) → rs ≡ r ∷ more →
      Leads u row v (roots_row rs vs) w → Meets u (root_by r vs r.kind) w x (Err f) → Meets u row v x (Err f)
  root_stop x f rs more r vs e l m = leads_call_stop (root_by r vs r.kind) (λ x. roots_row more (vs ++ x ∷ [])) x f
      (one_root rs more r vs e l) m

  pub root_more : (L : Lawful u) (x : X) (y : Value) (rs more : List Root) (r : Root) (vs ws : List Value) →
      rs ≡ r ∷ more → ws ≡ vs ++ y ∷ [] → Leads u row v (roots_row rs vs) w → Meets u (root_by r vs r.kind) w x (Ok y)
      → Leads u row v (roots_row more ws) x
  root_more L x y rs more r vs ws e q l m = subst (λ z. Leads u row v (roots_row more z) x) (sym q)
      (leads_call L (root_by r vs r.kind) (λ x. roots_row more (vs ++ x ∷ [])) x y (one_root rs more r vs e l) m)

  pub root_starved : (L : Lawful u) (x : X) (y : Value) (rs more : List Root) (r : Root) (vs : List Value) →
      rs ≡ r ∷ more → Leads u row v (roots_row rs vs) w → Meets u (root_by r vs r.kind) w x (Ok y) →
      Meets u row v x (Err OutOfMemory)
  root_starved L x y rs more r vs e l m = leads_own (root_more L x y rs more r vs (vs ++ y ∷ []) e refl l m)

  pub roots_end : (rs : List Root) (vs : List Value) → rs ≡ [] → Leads u row v (roots_row rs vs) w →
      Meets u row v w (Ok vs)
  unfolding roots_row
  roots_end rs vs e l = leads_ret (subst (λ z. Leads u row v (roots_row z vs) w) e l)
