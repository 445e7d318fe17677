-- The frame of a call whose arguments are all that its code takes.
use Rattle.std.proofs.Common.{arith, ◌≡◌, ℕ, ◌+◌, ◌-◌, ◌≤◌, Bool, true, List, [], ◌∷◌, ◌++◌, length, map, take, drop, drop_of_length-le, cond, leb, ◌&&◌, refl, sym, ap, ◌∙◌}
use Rattle.std.proofs.lemmas.Bool.{le-leb}
use Rattle.std.proofs.lemmas.List.{length-take}
use Rattle.py_data.specs.declared.value.Value.{Value}
use Rattle.py_data.specs.declared.record.Got.{Got}
use Rattle.py_data.specs.declared.record.Got.TheVariants.{Is, Raise}
use Rattle.py_data.specs.Fault.{argument_fault}
use Rattle.py_code.specs.declared.program.Code.{Code}
use Rattle.py_code.specs.declared.program.Program.{Program}
use Rattle.py_frames.specs.declared.state.Frame.{Frame}
use Rattle.py_frames.specs.Binding.{Given, all_named, are_filled, are_named, bound_to, entered, filled, last_defaults, parameters, unset_slots}
use Rattle.py_frames.specs.State.{code_at, root_name}

-- no parameter is left
none_left : (c : Code) (m : ℕ) → c.params ≡ m → drop m (parameters c) ≡ []
none_left c m e = drop_of_length-le (take c.params c.slots) (omega (arith, length-take c.params c.slots, e))

-- no keyword is wanted then
filled_so : (d : ℕ) → are_filled [] [] d ≡ true
filled_so d = let e : 0 - d ≡ 0 = omega arith in ap (λ k. are_named [] [] && all_named (take k []) []) e

module _ (p : Program) (g : Given) (n m k : ℕ) (ds : List Value) (is : (code_at p n).params ≡ m)
    (more : k ≡ length (code_at p n).slots - (code_at p n).params) (few : length g.args ≡ m) (none : g.names ≡ []) where
  abbrev c : Code
  c = code_at p n

  -- without keywords, and with parameters that are left
  abbrev fits : List (List ℕ) → List (List ℕ) → Bool
  fits names keys = leb (length g.args) c.params && are_filled names keys (length ds)

  abbrev slots : List (List ℕ) → List (List ℕ) → List Value
  slots names keys = g.args ++ (filled names keys g.values (last_defaults (length names) ds) ++
      unset_slots (length c.slots - c.params))

  abbrev got : List (List ℕ) → List (List ℕ) → Got Frame
  got names keys = cond (fits names keys) (Is (entered n (slots names keys))) (Raise argument_fault)

  left : drop (length g.args) (parameters c) ≡ []
  left = none_left c (length g.args) (is ∙ sym few)

  enough : fits [] [] ≡ true
  enough = λ i. le-leb (length g.args) c.params (omega (arith, is, few)) i && filled_so (length ds) i

  pub plain_is : bound_to p g n ds ≡ Is (entered n (g.args ++ unset_slots k))
  unfolding bound_to
  plain_is =
      (λ i. got (left i) (ap (map (root_name p)) none i))
      ∙ (ap (λ b. cond b (Is (entered n (slots [] []))) (Raise argument_fault)) enough
      ∙ ap (λ j. Is (entered n (g.args ++ unset_slots j))) (sym more))
