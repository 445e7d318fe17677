-- The loop that turns a list round.
use Rattle.std.proofs.Common.{◌≡◌, ℕ, ◌+◌, ◌-◌, ◌<◌, ◌≤◌, List, [], ◌∷◌, length, drop, reverse, get_or, Ok, refl, sym, ap, subst, ◌∙◌, arith}
use Rattle.std.proofs.Math.ListN.{drop_of_length-le}
use Rattle.std.proofs.lemmas.List.{get_or-reverse, length-reverse, take_all}
use Rattle.py_data.specs.declared.value.Value.{Value}
use Rattle.py_data.specs.declared.value.Value.TheVariants.{Unset}
use Rattle.py_data.specs.Heap.{at}
use Rattle.py_data.specs.declared.change.Change.TheVariants as change
use Rattle.py_data.specs.Row.{Ret, Do, Read, Edit}
use Rattle.py_data.specs.Sense.{Sense, Lawful, Safe, Meets, IsLive}
use Rattle.py_data.specs.inner.Rest.{Leads}
use Rattle.py_data.proofs.Steps.{leads_do, leads_ret}
use Rattle.obj_seq.specs.Seq.{part, put_row, reverse_row}
use Rattle.obj_seq.proofs.Tail.{drop_next}
use Rattle.py_data.proofs.AfterLook.{leads_looked, looked_record}
use Rattle.obj_seq.proofs.PartSteps.{answered}

-- before the turn at place j
pub record Turning {S X : Type 0} (u : Sense S X) (a : ℕ) (values : List Value) (j : ℕ) (v w : X) : Type 0 where
  pub leads : Leads u (put_row {S = S} a 0 (reverse values)) v (put_row a j (drop j (reverse values))) w

module _ {S X : Type 0} {u : Sense S X} (L : Lawful u) {a : ℕ} {values : List Value} {v w : X} where
  pub turning_next : (n j : ℕ) (y : Value) → n ≡ length values → Turning u a values j v w → j < n →
      ((d : Value) → y ≡ get_or values (n - 1 - j) d)
      → Leads u (put_row {S = S} a 0 (reverse values)) v
      (Do (Edit a (change.Set j y)) (λ _. put_row a (j + 1) (drop (j + 1) (reverse values)))) w
  unfolding put_row
  turning_next n j y count h less e =
      let inside : j < length values = omega arith in
      let there : j < length (reverse values) = omega (arith, length-reverse values) in
      let same : get_or (reverse values) j Unset ≡ y = get_or-reverse values j Unset inside ∙
      ap (λ n. get_or values (n - 1 - j) Unset) (sym count) ∙ sym (e Unset) in
      subst (λ vs. Leads u (put_row {S = S} a 0 (reverse values)) v (put_row a j vs) w)
      (drop_next (reverse values) j there ∙ ap (λ x. x ∷ drop (j + 1) (reverse values)) same) h.leads

  pub turning_more : (n j : ℕ) (y : Value) (x : X) → n ≡ length values → Turning u a values j v w → j < n →
      ((d : Value) → y ≡ get_or values (n - 1 - j) d) → u.does (Edit a (change.Set j y)) w tt x →
      Turning u a values (j + 1) v x
  turning_more n j y x count h less e d = record { leads = leads_do L tt (turning_next n j y count h less e) d }

pub turning_last : {S X : Type 0} {u : Sense S X} {a : ℕ} {values : List Value} {v w : X} (j : ℕ) →
    Turning u a values j v w → length values ≤ j → Meets u (put_row {S = S} a 0 (reverse values)) v w (Ok tt)
unfolding put_row
turning_last {S = S} {u = u} {a = a} {values = values} {v = v} {w = w} j h less =
    let none : drop j (reverse values) ≡ [] = drop_of_length-le (reverse values) (omega (arith, length-reverse values))
    in
    leads_ret (subst (λ vs. Leads u (put_row {S = S} a 0 (reverse values)) v (put_row a j vs) w) none h.leads)

part_whole : (xs : List Value) (n : ℕ) → n ≡ length xs → part xs 0 n ≡ xs
part_whole xs n e = take_all (n - 0) xs (omega arith)

-- what is left once the items were collected
pub reverse_leads : {S X : Type 0} {u : Sense S X} (L : Lawful u) {a n : ℕ} (values : List Value) {v m x : X} →
    u.does (Read a) v (at (u.heap v) a) m → n ≡ length (at (u.heap v) a).values
    → Meets u (Ret (part (at (u.heap m) a).values 0 n)) m x (Ok values) →
    Safe u.partial (reverse_row {S = S} a) (u.heap v) → IsLive u v →
    Leads u (reverse_row {S = S} a) v (put_row a 0 (reverse values)) x
reverse_leads {S = S} {u = u} L {a = a} {n = n} values {v = v} {m = m} {x = x} d e h s live =
    let one = answered u (part (at (u.heap m) a).values 0 n) values m x h in
    let same : values ≡ (at (u.heap x) a).values = one.0 ∙ ap (λ r. part r.values 0 n) (looked_record L d refl) ∙
    part_whole (at (u.heap v) a).values n e ∙ ap (λ r. r.values) (sym (looked_record L d one.1)) in
    let l = leads_looked L d one.1 (λ r. put_row a 0 (reverse r.values)) (λ r. put_row a 0 (reverse r.values)) s live
    refl in
    subst (λ vs. Leads u (reverse_row {S = S} a) v (put_row a 0 (reverse vs)) x) (sym same) l
