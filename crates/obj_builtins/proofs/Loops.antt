-- How the loops over classes and over values that are compared begin.
use Rattle.std.proofs.Common.{arith, ◌≡◌, ℕ, ◌-◌, false, not, List, [], length, sym, subst}
use Rattle.py_data.specs.declared.value.Value.{Value}
use Rattle.py_data.specs.Heap.{value_at}
use Rattle.py_data.specs.Looking.{until_row, each_row}
use Rattle.py_data.specs.Sense.{Sense, Safe, IsLive}
use Rattle.py_data.specs.inner.Rest.{Leads}
use Rattle.py_data.proofs.Steps.{leads_begin}
use Rattle.obj_builtins.specs.declared.arguments.Form.{Form}
use Rattle.obj_builtins.specs.declared.best.Side.{Side}
use Rattle.obj_builtins.specs.declared.kinds.Class.{Class}
use Rattle.obj_builtins.specs.Best.{best_from, better_row}
use Rattle.obj_builtins.specs.Kinds.{classes_in, class_turn, any_row, class_row, class_at}

module _ {S X : Type 0} {u : Sense S X} where
  pub classes_begin : (a n : ℕ) (cs : List Class) (v : X) → cs ≡ [] →
      Safe u.partial (classes_in {S = S} a n) (u.heap v) → IsLive u v →
      Leads u (classes_in {S = S} a n) v (each_row (class_turn a) 0 (n - 0) cs) v
  unfolding classes_in
  classes_begin a n cs v c s l =
      let e : n - 0 ≡ n = omega arith in
      subst (λ m. Leads u (classes_in {S = S} a n) v (each_row (class_turn a) 0 m cs) v) (sym e)
      (subst (λ z. Leads u (classes_in {S = S} a n) v (each_row (class_turn a) 0 n z) v) (sym c)
      (leads_begin u (classes_in {S = S} a n) v s l))

  pub any_begin : (roots : ℕ) (f : Form) (cs : List Class) (n : ℕ) (v : X) → n ≡ length cs →
      Safe u.partial (any_row {S = S} roots f cs) (u.heap v) → IsLive u v
      → Leads u (any_row {S = S} roots f cs) v (until_row (λ i. class_row roots f (class_at cs i)) not false 0 (n - 0))
      v
  unfolding any_row
  any_begin roots f cs n v c s l =
      let e : n - 0 ≡ length cs = omega (arith, c) in
      subst (λ m. Leads u (any_row {S = S} roots f cs) v
      (until_row (λ i. class_row roots f (class_at cs i)) not false 0 m) v) (sym e)
      (leads_begin u (any_row {S = S} roots f cs) v s l)

  pub best_begin : (side : Side) (first : Value) (vs : List Value) (n : ℕ) (v : X) → n ≡ length vs →
      Safe u.partial (best_from {S = S} side first vs) (u.heap v) → IsLive u v
      → Leads u (best_from {S = S} side first vs) v
      (each_row (λ i best. better_row side (value_at vs i) best) 0 (n - 0) first) v
  unfolding best_from
  best_begin side first vs n v c s l =
      let e : n - 0 ≡ length vs = omega (arith, c) in
      subst (λ m. Leads u (best_from {S = S} side first vs) v
      (each_row (λ i best. better_row side (value_at vs i) best) 0 m first) v) (sym e)
      (leads_begin u (best_from {S = S} side first vs) v s l)
