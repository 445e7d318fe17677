-- Steps round a circle of slots.
use Rattle.std.proofs.Common.{◌≡◌, ◌≢◌, ◌⊎◌, inl, inr, ℕ, ◌+◌, ◌-◌, ◌<◌, ◌≤◌, arith}
use Rattle.std.proofs.lemmas.Bool.Decides.{nat_tests}
use Rattle.dict_index.specs.Slots.{slot, steps}

-- where d steps lead
pub slot_is : (n s d : ℕ) → s < n → d ≤ n →
    ((s + d < n) × (slot n s d ≡ s + d)) ⊎ ((n ≤ s + d) × (slot n s d + n ≡ s + d))
unfolding slot
slot_is n s d l m = grind (arith, nat_tests)

pub slot_within : (n s d : ℕ) → s < n → d ≤ n → slot n s d < n
slot_within n s d l m = elim (slot_is n s d l m) [ inl x ↦ omega arith | inr x ↦ omega arith ]

pub steps_is : (n s t : ℕ) → s < n → t < n →
    ((s ≤ t) × (steps n s t + s ≡ t)) ⊎ ((t < s) × (steps n s t + s ≡ t + n))
unfolding steps
steps_is n s t l m = grind (arith, nat_tests)

pub steps_within : (n s t : ℕ) → s < n → t < n → steps n s t < n
steps_within n s t l m = elim (steps_is n s t l m) [ inl x ↦ omega arith | inr x ↦ omega arith ]

-- the slot that lies so many steps away
pub slot_of_steps : (n s t : ℕ) → s < n → t < n → slot n s (steps n s t) ≡ t
slot_of_steps n s t l m =
    let w = steps_within n s t l m in
    let w1 : steps n s t ≤ n = omega arith in
    elim (slot_is n s (steps n s t) l w1) [
      | inl x ↦ elim (steps_is n s t l m) [ inl y ↦ omega arith | inr y ↦ omega arith ]
      | inr x ↦ elim (steps_is n s t l m) [ inl y ↦ omega arith | inr y ↦ omega arith ]
    ]

pub steps_of_slot : (n s d : ℕ) → s < n → d < n → steps n s (slot n s d) ≡ d
steps_of_slot n s d l m =
    let m1 : d ≤ n = omega arith in
    let w = slot_within n s d l m1 in
    elim (slot_is n s d l m1) [
      | inl x ↦ elim (steps_is n s (slot n s d) l w) [ inl y ↦ omega arith | inr y ↦ omega arith ]
      | inr x ↦ elim (steps_is n s (slot n s d) l w) [ inl y ↦ omega arith | inr y ↦ omega arith ]
    ]

-- steps after steps
pub slot_slot : (n s d e : ℕ) → s < n → d + e < n → slot n (slot n s d) e ≡ slot n s (d + e)
slot_slot n s d e l m =
    let dn : d ≤ n = omega arith in
    let en : e ≤ n = omega arith in
    let den : d + e ≤ n = omega arith in
    let w = slot_within n s d l dn in
    elim (slot_is n s d l dn) [
      | inl x ↦ elim (slot_is n (slot n s d) e w en) [
        | inl y ↦ elim (slot_is n s (d + e) l den) [ inl z ↦ omega arith | inr z ↦ omega arith ]
        | inr y ↦ elim (slot_is n s (d + e) l den) [ inl z ↦ omega arith | inr z ↦ omega arith ]
      ]
      | inr x ↦ elim (slot_is n (slot n s d) e w en) [
        | inl y ↦ elim (slot_is n s (d + e) l den) [ inl z ↦ omega arith | inr z ↦ omega arith ]
        | inr y ↦ elim (slot_is n s (d + e) l den) [ inl z ↦ omega arith | inr z ↦ omega arith ]
      ]
    ]

-- the slot after one
pub next_end : (n s : ℕ) → s < n → s + 1 ≡ n → 0 ≡ slot n s 1
next_end n s l e =
    let one : 1 ≤ n = omega arith in
    elim (slot_is n s 1 l one) [ inl y ↦ absurd (omega arith) | inr y ↦ omega arith ]

pub next_step : (n s : ℕ) → s < n → s + 1 ≢ n → s + 1 ≡ slot n s 1
next_step n s l e =
    let one : 1 ≤ n = omega arith in
    elim (slot_is n s 1 l one) [ inl y ↦ omega arith | inr y ↦ absurd (e (omega arith)) ]

pub next_within : (n s x : ℕ) → s < n → x ≡ slot n s 1 → x < n
next_within n s x l e =
    let one : 1 ≤ n = omega arith in
    let w = slot_within n s 1 l one in
    omega arith

pub slot_zero : (n s : ℕ) → s < n → slot n s 0 ≡ s
slot_zero n s l =
    let z : 0 ≤ n = omega arith in
    elim (slot_is n s 0 l z) [ inl y ↦ omega arith | inr y ↦ absurd (omega arith) ]

-- where the way from s to t passes a slot, it is met so many steps after s
pub passed_slot : (n s a t : ℕ) → s < n → a < n → t < n → steps n a t ≤ steps n s t →
    slot n s (steps n s t - steps n a t) ≡ a
passed_slot n s a t ls la lt le =
    let ws = steps_within n s t ls lt in
    let m : steps n s t - steps n a t ≤ n = omega arith in
    let there = slot_is n s (steps n s t - steps n a t) ls m in
    elim (steps_is n s t ls lt) [
      | inl x ↦ elim (steps_is n a t la lt) [
        | inl y ↦ elim there [ inl z ↦ omega arith | inr z ↦ omega arith ]
        | inr y ↦ elim there [ inl z ↦ omega arith | inr z ↦ omega arith ]
      ]
      | inr x ↦ elim (steps_is n a t la lt) [
        | inl y ↦ elim there [ inl z ↦ omega arith | inr z ↦ omega arith ]
        | inr y ↦ elim there [ inl z ↦ omega arith | inr z ↦ omega arith ]
      ]
    ]
