-- The events of a module whose names resolve: none of them is a misplaced or a doubled name.
use Rattle.std.proofs.Common.{◌≡◌, ℕ, Bool, true, false, List, [], ◌∷◌, ◌++◌, Option, Some, None, refl}
use Rattle.std.specs.Prelude.{if◌then◌else◌}
use Rattle.py_base.specs.declared.refusal.Refusal.{Refusal}
use Rattle.py_tree.specs.declared.stmt.Module.{Module}
use Rattle.py_names.specs.declared.event.Event.{Event}
use Rattle.py_names.specs.declared.event.Event.TheVariants.{Enter, Leave, Takes, Uses, Binds, Declares, Misplaced, Doubled}
use Rattle.py_names.specs.Outline.{is_none, label, only_where, outline}
use Rattle.py_names.specs.Scopes.{Names, inside_after, bodies_after, placed, body, refused, first_of, first_fault, fault}
use Rattle.py_templates.proofs.ExprInduct.{Every, every_front, every_back}

-- what each event is
abbrev pub Clear : Event → Type 0
Clear (Misplaced l) = ⊥
Clear (Doubled l) = ⊥
Clear _ = Unit {0}

pub record Clears (es : List Event) : Type 0 where
  pub each : Every Clear es

pub clear_front : (a b : List Event) → Clears (a ++ b) → Clears a
clear_front a b h = record { each = every_front Clear a b h.each }

pub clear_back : (a b : List Event) → Clears (a ++ b) → Clears b
clear_back a b h = record { each = every_back Clear a b h.each }

pub only_true : (b : Bool) (l : ℕ) → Clears (only_where b l) → b ≡ true
only_true true l h = refl
only_true false l h = absurd h.each.0

pub label_clear : (l : ℕ) (n : List ℕ) → Clears (label l n) → is_none n ≡ false
label_clear l n h = by_test (is_none n) h
  where
    by_test : (b : Bool) → Clears (if b then Misplaced l ∷ [] else []) → b ≡ false
    by_test true h = absurd h.each.0
    by_test false h = refl

-- ---- where no place is refused

refused_clear : (b : ℕ → Names) (inside : List ℕ) (v : Event) → refused b inside v ≡ None → Clear v
refused_clear b inside (Misplaced l) q = absurd (cc)
refused_clear b inside (Doubled l) q = absurd (cc)
refused_clear b inside (Enter k) q = tt
refused_clear b inside Leave q = tt
refused_clear b inside (Takes n) q = tt
refused_clear b inside (Uses l n) q = tt
refused_clear b inside (Binds l n) q = tt
refused_clear b inside (Declares l n) q = tt

pub first_parts : (a c : Option Refusal) → first_of a c ≡ None → (a ≡ None) × (c ≡ None)
first_parts None c q = (refl, q)
first_parts (Some r) c q = absurd (cc)

fault_clear : (b : ℕ → Names) (inside : List ℕ) (n : ℕ) (es : List Event) → first_fault b (placed inside n es) ≡ None →
    Every Clear es
fault_clear b inside n [] q = tt
fault_clear b inside n (v ∷ es) q =
    let p = first_parts (refused b (inside_after v n inside) v)
    (first_fault b (placed (inside_after v n inside) (bodies_after v n) es)) q in
    (refused_clear b (inside_after v n inside) v p.0, fault_clear b (inside_after v n inside) (bodies_after v n) es p.1)

pub outline_clear : (m : Module) → fault (outline m) ≡ None → Clears (outline m)
outline_clear m q = record { each = fault_clear (body (outline m)) [] 0 (outline m) q }
