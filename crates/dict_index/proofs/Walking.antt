-- A walk over the slots, one after another, from a slot on.
use Rattle.std.proofs.Common.{◌≡◌, ◌≢◌, ℕ, ◌+◌, ◌<◌, ap, ◌∙◌, arith}
use Rattle.dict_index.specs.Slots.{slot, steps, used}
use Rattle.dict_index.specs.Index.{Stands}
use Rattle.dict_index.proofs.Circle.{slot_slot, steps_within, slot_of_steps}
use Rattle.dict_index.proofs.Count.{used_full}

-- one slot further
pub walks_on : (n start d at after : ℕ) → start < n → at ≡ slot n start d → after ≡ slot n at 1 → d + 1 < n →
    after ≡ slot n start (d + 1)
walks_on n start d at after l e f m = f ∙ ap (λ a. slot n a 1) e ∙ slot_slot n start d 1 l m

-- once round every slot was met
pub all_full : (n : ℕ) (w : ℕ → ℕ) (start : ℕ) → start < n → ((e : ℕ) → e < n → w (slot n start e) ≢ 0) → (s : ℕ) →
    s < n → w s ≢ 0
all_full n w start l f s m e =
    f (steps n start s) (steps_within n start s l m) (ap w (slot_of_steps n start s l m) ∙ e)

-- so there is an empty slot where fewer words than slots are used
pub not_all_full : (n : ℕ) (w : ℕ → ℕ) (start : ℕ) → start < n → ((e : ℕ) → e < n → w (slot n start e) ≢ 0) →
    used n w < n → ⊥
not_all_full n w start l f u = let e : used n w ≡ n = used_full n w (all_full n w start l f) in omega arith

-- a pair's number is met
pub number_met : (n : ℕ) (w : ℕ → ℕ) (start j d : ℕ) → Stands n w start j d →
    ((e : ℕ) → e < n → w (slot n start e) ≢ j + 1) → ⊥
number_met n w start j d s f = f d s.near s.here
