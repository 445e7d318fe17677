-- What calls leave is as the last call that settles it says.
use Rattle.std.proofs.Common.{◌≡◌, ℕ, Bool, true, false, ◌||◌, eqb, List, [], ◌∷◌, ◌++◌, Option, Some, None, refl, ap, inl, inr, ◌⊎◌}
use Rattle.std.proofs.lemmas.Bool.Decides.{eqb_tells}
use Rattle.py_data.specs.Heap.{Marks}
use Rattle.seg_marks.specs.Runs.{Call, Begin, Mark, Lock, Unlock, marked_by, held_by, nothing_marked, nobody, after, begins, settles, any_of, Since, MarkedLaw, HeldLaw}

neither : (a b : Bool) → a ≡ false → b ≡ false → (a || b) ≡ false
neither a b e f = rw (e, f) refl

-- ---- any sentence P on what a call leaves, where f does the calls

-- P holds where c was called, or where it held before and p doesn't
pub record Settled {S : Type 0} (f : Call → S → S) (P : S → Type 0) (p : Call → Bool) (c : Call) : Type 0 where
  pub made : (s : S) → P (f c s)
  pub kept : (d : Call) (s : S) → p d ≡ false → P s → P (f d s)
  pub told : (d : Call) (s : S) → P (f d s) → (d ≡ c) ⊎ ((p d ≡ false) × P s)

more : (p : Call → Bool) (c d : Call) (calls : List Call) → Since p c calls → Since p c (d ∷ calls)
more p c d calls s = record {
  before = d ∷ s.before;
  behind = s.behind;
  parts = ap (λ z. d ∷ z) s.parts;
  last = s.last;
}

holds_since : {S : Type 0} (f : Call → S → S) (P : S → Type 0) (p : Call → Bool) (c : Call) → Settled f P p c
    → (calls : List Call) (s : S) → P (after f calls s)
    → Since p c calls ⊎ ((any_of p calls ≡ false) × P s)
holds_since f P p c by [] s h = inr (refl, h)
holds_since f P p c by (d ∷ ds) s h = elim (holds_since f P p c by ds (f d s) h) [
  | inl x ↦ inl (more p c d ds x)
  | inr x ↦ elim (by.told d s x.1) [
    | inl e ↦ inl (record { before = []; behind = ds; parts = ap (λ z. z ∷ ds) e; last = x.0 })
    | inr y ↦ inr (neither (p d) (any_of p ds) y.0 x.0, y.1)
  ]
]

kept_by_all : {S : Type 0} (f : Call → S → S) (P : S → Type 0) (p : Call → Bool) (c : Call) → Settled f P p c
    → (calls : List Call) (s : S) → any_of p calls ≡ false → P s → P (after f calls s)
kept_by_all f P p c by [] s e h = h
kept_by_all f P p c by (d ∷ ds) s e h =
    let both : (p d ≡ false) × (any_of p ds ≡ false) = parts (p d) (any_of p ds) e in
    kept_by_all f P p c by ds (f d s) both.1 (by.kept d s both.0 h)
  where
    parts : (a b : Bool) → (a || b) ≡ false → (a ≡ false) × (b ≡ false)
    parts true b e = absurd (let q : true ≡ false = e in cc)
    parts false b e = (refl, e)

since_holds : {S : Type 0} (f : Call → S → S) (P : S → Type 0) (p : Call → Bool) (c : Call) → Settled f P p c
    → (before behind : List Call) (s : S) → any_of p behind ≡ false → P (after f (before ++ c ∷ behind) s)
since_holds f P p c by [] behind s e = kept_by_all f P p c by behind (f c s) e (by.made s)
since_holds f P p c by (d ∷ ds) behind s e = since_holds f P p c by ds behind (f d s) e

settled_law : {S : Type 0} (f : Call → S → S) (P : S → Type 0) (p : Call → Bool) (c : Call) → Settled f P p c
    → (calls : List Call) (s : S) → (P s → ⊥)
    → (P (after f calls s) → Since p c calls) × (Since p c calls → P (after f calls s))
settled_law f P p c by calls s first = (
  (λ h. elim (holds_since f P p c by calls s h) [ inl x ↦ x | inr x ↦ absurd (first x.1) ]),
  (λ x. rw x.parts (since_holds f P p c by x.before x.behind s x.last)),
)

-- ---- marks

mark_settled : (k g : ℕ) → Settled marked_by (λ m. m k g ≡ true) (begins k) (Mark k g)
mark_settled k g = record { made = made; kept = kept; told = told }
  where
    made : (m : ℕ → Marks) → marked_by (Mark k g) m k g ≡ true
    made m = elim (eqb_tells k k) [
      | inl a ↦ elim (eqb_tells g g) [ inl b ↦ rw (a.0, b.0) refl | inr b ↦ absurd (b.1 refl) ]
      | inr a ↦ absurd (a.1 refl)
    ]

    kept : (d : Call) (m : ℕ → Marks) → begins k d ≡ false → m k g ≡ true → marked_by d m k g ≡ true
    kept (Begin j) m e h = rw e h
    kept (Mark j i) m e h = elim (eqb_tells k j) [
      | inl a ↦ rw (a.0, ← a.1, h) (either (eqb g i))
      | inr a ↦ rw a.0 h
    ]
      where
        either : (b : Bool) → (b || true) ≡ true
        either true = refl
        either false = refl
    kept (Lock j i) m e h = h
    kept (Unlock i) m e h = h

    told : (d : Call) (m : ℕ → Marks) → marked_by d m k g ≡ true
        → (d ≡ Mark k g) ⊎ ((begins k d ≡ false) × (m k g ≡ true))
    told (Begin j) m h = elim (eqb_tells k j) [
      | inl a ↦ absurd (let q : false ≡ true = rw a.0 at h in cc)
      | inr a ↦ inr (a.0, rw a.0 at h)
    ]
    told (Mark j i) m h = elim (eqb_tells k j) [
      | inl a ↦ elim (eqb_tells g i) [
        | inl b ↦ inl (rw (a.1, b.1) refl)
        | inr b ↦ inr (refl, rw (a.0, b.0, ← a.1) at h)
      ]
      | inr a ↦ inr (refl, rw a.0 at h)
    ]
    told (Lock j i) m h = inr (refl, h)
    told (Unlock i) m h = inr (refl, h)

pub marked_law : MarkedLaw
marked_law calls k g =
    settled_law marked_by (λ m. m k g ≡ true) (begins k) (Mark k g) (mark_settled k g) calls nothing_marked
    (λ h. let q : false ≡ true = h in cc)

-- ---- holders

lock_settled : (k g : ℕ) → Settled held_by (λ h. h g ≡ Some k) (settles g) (Lock k g)
lock_settled k g = record { made = made; kept = kept; told = told }
  where
    made : (h : ℕ → Option ℕ) → held_by (Lock k g) h g ≡ Some k
    made h = elim (eqb_tells g g) [ inl a ↦ rw a.0 refl | inr a ↦ absurd (a.1 refl) ]

    kept : (d : Call) (h : ℕ → Option ℕ) → settles g d ≡ false → h g ≡ Some k → held_by d h g ≡ Some k
    kept (Begin j) h e x = x
    kept (Mark j i) h e x = x
    kept (Lock j i) h e x = rw e x
    kept (Unlock i) h e x = rw e x

    told : (d : Call) (h : ℕ → Option ℕ) → held_by d h g ≡ Some k
        → (d ≡ Lock k g) ⊎ ((settles g d ≡ false) × (h g ≡ Some k))
    told (Begin j) h x = inr (refl, x)
    told (Mark j i) h x = inr (refl, x)
    told (Lock j i) h x = elim (eqb_tells g i) [
      | inl a ↦ inl (let q : Some j ≡ Some k = rw a.0 at x in let e : j ≡ k = cc in rw (e, a.1) refl)
      | inr a ↦ inr (a.0, rw a.0 at x)
    ]
    told (Unlock i) h x = elim (eqb_tells g i) [
      | inl a ↦ absurd (let q : None ≡ Some k = rw a.0 at x in cc)
      | inr a ↦ inr (a.0, rw a.0 at x)
    ]

pub held_law : HeldLaw
held_law calls k g =
    settled_law held_by (λ h. h g ≡ Some k) (settles g) (Lock k g) (lock_settled k g) calls nobody
    (λ h. let q : None ≡ Some k = h in cc)
