-- An index whose steps are worked out.
use Rattle.std.proofs.Common.{◌≡◌, ◌≢◌, inl, inr, ℕ, zero, suc, ◌+◌, ◌<◌, ◌≤◌, cond, sym, ap, ◌∙◌, subst, arith}
use Rattle.std.proofs.lemmas.Bool.Decides.{eqb_tells}
use Rattle.std.proofs.Math.Bridge.{le_prop}
use Rattle.std.proofs.Math.Nat.{ℕ_set}
use Rattle.dict_index.specs.Slots.{slot, steps}
use Rattle.dict_index.specs.Index.{Stands, IsIndex, IsRight, slot_with}
use Rattle.dict_index.specs.Laws.{RightLaw}
use Rattle.dict_index.proofs.Circle.{slot_within, steps_of_slot}
use Rattle.dict_index.proofs.Frame.{frame_law}

record With (n : ℕ) (w : ℕ → ℕ) (x s : ℕ) : Type 0 where
  within : s < n
  word : w s ≡ x

has_slot : (n : ℕ) (w : ℕ → ℕ) (x s : ℕ) → s < n → w s ≡ x → With n w x (slot_with n w x)
has_slot zero w x s l e = absurd (omega arith)
has_slot (suc n) w x s l e = elim (eqb_tells (w n) x) [
  | inl h ↦
      let a : With (suc n) w x n = record { within = omega arith; word = h.1 } in
      subst (With (suc n) w x) (sym (ap (λ b. cond b n (slot_with n w x)) h.0)) a
  | inr h ↦
      let ne : s ≢ n = λ q. h.1 (ap w (sym q) ∙ e) in
      let ih = has_slot n w x s (omega arith) e in
      let l : slot_with n w x < suc n = let b = ih.within in omega arith in
      let a : With (suc n) w x (slot_with n w x) = record { within = l; word = ih.word } in
      subst (With (suc n) w x) (sym (ap (λ b. cond b n (slot_with n w x)) h.0)) a
]

pub right_of : (home : ℕ → ℕ) (n : ℕ) (w : ℕ → ℕ) (m : ℕ) → ((j : ℕ) → j < m → home j < n) → IsIndex home n w m →
    IsRight home n w m
right_of home n w m lh x = record {
  each = λ j jl.
      let q = x.each j jl in
      let near = q.1.near in
      let s = slot n (home j) q.0 in
      let within : s < n = slot_within n (home j) q.0 (lh j jl) (omega arith) in
      let there = has_slot n w (j + 1) s within q.1.here in
      let same : slot_with n w (j + 1) ≡ s = x.once _ s there.within within (there.word ∙ sym q.1.here)
      (λ z. absurd (omega (arith, z, there.word))) in
      let d : steps n (home j) (slot_with n w (j + 1)) ≡ q.0 =
      ap (steps n (home j)) same ∙ steps_of_slot n (home j) q.0 (lh j jl) near in
      subst (λ d. Stands n w (home j) j d) (sym d) q.1;
  only = x.only;
  once = x.once;
  used = x.used;
}

pub index_of : (home : ℕ → ℕ) (n : ℕ) (w : ℕ → ℕ) (m : ℕ) → IsRight home n w m → IsIndex home n w m
index_of home n w m x = record {
  each = λ j jl. (steps n (home j) (slot_with n w (j + 1)), x.each j jl);
  only = x.only;
  once = x.once;
  used = x.used;
}

pub right_law : RightLaw
right_law home n w m lh = (right_of home n w m lh, index_of home n w m)

-- the same index, where words agree on the slots, and homes on the pairs
pub right_framed : (home other : ℕ → ℕ) (n m : ℕ) (w v : ℕ → ℕ) → 0 < n → ((j : ℕ) → j < m → home j < n) →
    IsRight home n w m → ((s : ℕ) → s < n → v s ≡ w s) → ((j : ℕ) → j < m → other j ≡ home j) → IsRight other n v m
right_framed home other n m w v some lh x same homes =
    right_of other n v m (λ j l. subst (λ a. a < n) (sym (homes j l)) (lh j l))
    (frame_law home other n m w v some lh (index_of home n w m x) same homes)

no_more : (a b : ℕ) → IsProp (a ≤ b)
no_more a b = le_prop

less : (a b : ℕ) → IsProp (a < b)
less a b = le_prop

pub right_prop : (home : ℕ → ℕ) (n : ℕ) (w : ℕ → ℕ) (m : ℕ) → IsProp (IsRight home n w m)
right_prop home n w m = hlevel (less, no_more, ℕ_set)
