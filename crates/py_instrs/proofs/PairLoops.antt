-- The turns of loops over pairs of values.
use Rattle.std.proofs.Common.{◌≡◌, ℕ, ◌≤◌, Bool, true, false, cond, List, [], ◌∷◌, length, Ok, Err, subst, arith}
use Rattle.py_data.specs.declared.value.Value.{Value}
use Rattle.py_data.specs.declared.stop.Stop.{Stop}
use Rattle.py_data.specs.declared.record.Fault.{Fault}
use Rattle.py_data.specs.declared.record.Got.{Got}
use Rattle.py_data.specs.declared.record.Got.TheVariants.{Is, Raise}
use Rattle.py_data.specs.Looking.{got_row}
use Rattle.py_data.specs.inner.Rest.{Leads}
use Rattle.py_data.specs.Row.{Row, Ret, bind}
use Rattle.py_data.specs.Sense.{Sense, Lawful, Safe, Meets}
use Rattle.py_data.proofs.Steps.{leads_call, leads_call_stop, leads_ret, safe_first}
use Rattle.obj_dict.specs.Dict.{key_row, set_row}
use Rattle.py_frames.specs.BuildRows.{pairs_set, all_keys_row}

-- ---- pairs that are set

module _ {S X : Type 0} {u : Sense S X} {row : Row S (Got (Unit {0}))} {v w : X} (d : ℕ) where
  pub set_turn : (xs : List Value) (key x : Value) (rest : List Value) → xs ≡ key ∷ x ∷ rest →
      Leads u row v (pairs_set d xs) w → Leads u row v (bind (set_row d key x) (got_row (λ z. pairs_set d rest))) w
  unfolding pairs_set
  set_turn xs key x rest e l = subst (λ ys. Leads u row v (pairs_set d ys) w) e l

  pub set_safe : (xs : List Value) (key x : Value) (rest : List Value) → xs ≡ key ∷ x ∷ rest →
      Leads u row v (pairs_set d xs) w → Safe u.partial (set_row {S = S} d key x) (u.heap w)
  set_safe xs key x rest e l = let t = set_turn xs key x rest e l in
      safe_first u.partial (set_row d key x) (got_row (λ z. pairs_set d rest)) (u.heap w) t.safe

  pub set_stop : (y : X) (f : Stop) (xs : List Value) (key x : Value) (rest : List Value) → xs ≡ key ∷ x ∷ rest →
      Leads u row v (pairs_set d xs) w → Meets u (set_row d key x) w y (Err f) → Meets u row v y (Err f)
  set_stop y f xs key x rest e l m = leads_call_stop (set_row d key x) (got_row (λ z. pairs_set d rest)) y f
      (set_turn xs key x rest e l) m

  pub set_more : (L : Lawful u) (y : X) (xs : List Value) (key x : Value) (rest : List Value) (z : Unit {0}) →
      xs ≡ key ∷ x ∷ rest → Leads u row v (pairs_set d xs) w → Meets u (set_row d key x) w y (Ok (Is z)) →
      Leads u row v (pairs_set d rest) y
  set_more L y xs key x rest z e l m = leads_call L (set_row d key x) (got_row (λ z. pairs_set d rest)) y (Is z)
      (set_turn xs key x rest e l) m

  pub set_raised : (L : Lawful u) (y : X) (xs : List Value) (key x : Value) (rest : List Value) (f : Fault) →
      xs ≡ key ∷ x ∷ rest → Leads u row v (pairs_set d xs) w → Meets u (set_row d key x) w y (Ok (Raise f)) →
      Meets u row v y (Ok (Raise f))
  set_raised L y xs key x rest f e l m =
      leads_ret (leads_call L (set_row d key x) (got_row (λ z. pairs_set d rest)) y (Raise f)
      (set_turn xs key x rest e l) m)

  pub set_end : (xs : List Value) → length xs ≤ 1 → Leads u row v (pairs_set d xs) w → Meets u row v w (Ok (Is tt))
  unfolding pairs_set
  set_end [] s l = leads_ret l
  set_end (x ∷ []) s l = leads_ret l
  set_end (x ∷ y ∷ rest) s l = absurd (omega (arith, s))

-- ---- keys that are tested

module _ {S X : Type 0} {u : Sense S X} {row : Row S Bool} {v w : X} where
  pub keys_turn : (xs : List Value) (key x : Value) (rest : List Value) → xs ≡ key ∷ x ∷ rest →
      Leads u row v (all_keys_row xs) w →
      Leads u row v (bind (key_row key) (λ b. cond b (all_keys_row rest) (Ret false))) w
  unfolding all_keys_row
  keys_turn xs key x rest e l = subst (λ ys. Leads u row v (all_keys_row ys) w) e l

  pub keys_safe : (xs : List Value) (key x : Value) (rest : List Value) → xs ≡ key ∷ x ∷ rest →
      Leads u row v (all_keys_row xs) w → Safe u.partial (key_row {S = S} key) (u.heap w)
  keys_safe xs key x rest e l = let t = keys_turn xs key x rest e l in
      safe_first u.partial (key_row key) (λ b. cond b (all_keys_row rest) (Ret false)) (u.heap w) t.safe

  pub keys_stop : (y : X) (f : Stop) (xs : List Value) (key x : Value) (rest : List Value) → xs ≡ key ∷ x ∷ rest →
      Leads u row v (all_keys_row xs) w → Meets u (key_row key) w y (Err f) → Meets u row v y (Err f)
  keys_stop y f xs key x rest e l m = leads_call_stop (key_row key) (λ b. cond b (all_keys_row rest) (Ret false)) y f
      (keys_turn xs key x rest e l) m

  pub keys_more : (L : Lawful u) (y : X) (b : Bool) (xs : List Value) (key x : Value) (rest : List Value) →
      xs ≡ key ∷ x ∷ rest → Leads u row v (all_keys_row xs) w → Meets u (key_row key) w y (Ok b) → b ≡ true →
      Leads u row v (all_keys_row rest) y
  keys_more L y b xs key x rest e l m t =
      let n = leads_call L (key_row key) (λ b. cond b (all_keys_row rest) (Ret false)) y b
      (keys_turn xs key x rest e l) m in
      subst (λ b. Leads u row v (cond b (all_keys_row rest) (Ret false)) y) t n

  pub keys_found : (L : Lawful u) (y : X) (b : Bool) (xs : List Value) (key x : Value) (rest : List Value) →
      xs ≡ key ∷ x ∷ rest → Leads u row v (all_keys_row xs) w → Meets u (key_row key) w y (Ok b) → b ≡ false →
      Meets u row v y (Ok false)
  keys_found L y b xs key x rest e l m t =
      let n = leads_call L (key_row key) (λ b. cond b (all_keys_row rest) (Ret false)) y b
      (keys_turn xs key x rest e l) m in
      leads_ret (subst (λ b. Leads u row v (cond b (all_keys_row rest) (Ret false)) y) t n)

  pub keys_end : (xs : List Value) → length xs ≤ 1 → Leads u row v (all_keys_row xs) w → Meets u row v w (Ok true)
  unfolding all_keys_row
  keys_end [] s l = leads_ret l
  keys_end (x ∷ []) s l = leads_ret l
  keys_end (x ∷ y ∷ rest) s l = absurd (omega (arith, s))
