use Rattle.std.proofs.Common.{◌≡◌, ◌≤◌, ◌-◌, suc, ◌++◌, ◌∷◌, [], length, take, ap, subst, sym, ◌∙◌, arith, length-append, append_assoc}
use Rattle.std.proofs.lemmas.List.{take-append-le}
use Rattle.py_data.specs.declared.value.Value.TheVariants.{Unset}
use Rattle.py_frames.specs.Binding.{unset_slots}
use Rattle.py_calls.proofs.named.push_unset.Goals as goal

pub slots-preserved : goal.slots-preserved
slots-preserved c =
    let i = c.slots.invariant in
    let out = c.slots.out in
    let left = c.slots.left in
    let more : c.push.new.self ≡ out ++ Unset ∷ [] = c.in_default.ensures.ok in
    let some = c.slots-test.true in
    let one : left ≡ suc (left - 1) = omega (arith, some) in
    let longer = length-append out (Unset ∷ []) in
    let within = i.2 in (
      ap (λ z. z ++ unset_slots (left - 1)) more ∙ append_assoc out (Unset ∷ []) (unset_slots (left - 1)) ∙
          ap (λ z. out ++ z) (sym (ap unset_slots one)) ∙ i.0,
      ap (take c.len-start.result) more ∙ take-append-le c.len-start.result out (Unset ∷ []) within ∙ i.1,
      subst (λ z. c.len-start.result ≤ length z) (sym more) (omega (arith, longer, within)),
    )
