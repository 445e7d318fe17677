-- The granules whose bytes may be other than 0: what is left of them behind one whose byte is 0, and with a mark more.
use Rattle.std.proofs.Common.{◌≡◌, ℕ, ◌+◌, ◌<◌, ◌≤◌, ◌++◌, ◌∷◌, [], List, length, get_or, set, refl, sym, ◌∙◌, ap, inl, inr, arith}
use Rattle.std.proofs.lemmas.List.{get_or-set_other, length-append, get_or_append_left, get_or_at, get_or_default}
use Rattle.std.proofs.lemmas.Bool.Decides.{eqb_tells}
use Rattle.seg_marks.specs.Marks.{CoversFrom}

-- no number is left
pub none_left : (i : ℕ) (seen bytes : List ℕ) → length seen ≤ i → CoversFrom i seen bytes
    → (g : ℕ) → get_or bytes g 0 ≡ 0
none_left i seen bytes past covers g = elim (covers g) [
  | inl e ↦ e
  | inr k ↦ absurd (omega (arith, past, k.1, k.2))
]

-- the granule of the i-th number has the byte 0
pub one_less : (i g : ℕ) (seen bytes after : List ℕ) → i < length seen → g ≡ get_or seen i g
    → CoversFrom i seen bytes → get_or after g 0 ≡ 0
    → ((h : ℕ) → (h ≡ g → ⊥) → get_or after h 0 ≡ get_or bytes h 0)
    → CoversFrom (i + 1) seen after
one_less i g seen bytes after within is covers zero others h = elim (eqb_tells h g) [
  | inl e ↦ inl (rw (e.1) zero)
  | inr e ↦ elim (covers h) [
    | inl z ↦ inl (others h e.1 ∙ z)
    | inr k ↦ inr (k.0, above k.0 k.1 (λ same. e.1 (sym k.3 ∙ ap (λ j. get_or seen j 0) same ∙ at_i)), k.2, k.3)
  ]
]
  where
    at_i : get_or seen i 0 ≡ g
    at_i = get_or_default seen i 0 g within ∙ sym is

    above : (k : ℕ) → i ≤ k → (k ≡ i → ⊥) → i + 1 ≤ k
    above k least other = elim (eqb_tells k i) [
      | inl e ↦ absurd (other e.1)
      | inr e ↦ omega (arith, least, e.1)
    ]

-- a granule is marked whose byte isn't 0
pub marked_again : (seen bytes : List ℕ) (g version : ℕ) → (get_or bytes g 0 ≡ 0 → ⊥)
    → CoversFrom 0 seen bytes → CoversFrom 0 seen (set bytes g version)
marked_again seen bytes g version other covers h = elim (eqb_tells h g) [
  | inl e ↦ elim (covers g) [
    | inl z ↦ absurd (other z)
    | inr k ↦ inr (k.0, k.1, k.2, k.3 ∙ sym e.1)
  ]
  | inr e ↦ elim (covers h) [
    | inl z ↦ inl (get_or-set_other bytes g h version 0 e.1 ∙ z)
    | inr k ↦ inr k
  ]
]

-- a granule is marked and noted
pub marked_noted : (seen bytes : List ℕ) (g version : ℕ)
    → CoversFrom 0 seen bytes → CoversFrom 0 (seen ++ g ∷ []) (set bytes g version)
marked_noted seen bytes g version covers h = elim (eqb_tells h g) [
  | inl e ↦ inr (
    length seen,
    omega arith,
    rw (length-append seen (g ∷ [])) (omega arith),
    get_or_at seen g [] 0 (length seen) refl ∙ sym e.1,
  )
  | inr e ↦ elim (covers h) [
    | inl z ↦ inl (get_or-set_other bytes g h version 0 e.1 ∙ z)
    | inr k ↦ inr (
      k.0,
      k.1,
      rw (length-append seen (g ∷ [])) (omega (arith, k.2)),
      get_or_append_left seen (g ∷ []) 0 k.0 k.2 ∙ k.3,
    )
  ]
]
