-- A record that a segment holds, or makes, has other words.
use Rattle.std.proofs.Common.{◌≡◌, ◌≢◌, ℕ, ◌+◌, ◌<◌, ◌≤◌, Bool, true, false, ◌||◌, eqb, ltb, inl, inr, sym, ◌∙◌, ap, subst, arith}
use Rattle.std.proofs.lemmas.Bool.{false_from_ne_true, or_cases, or_parts, or_left, or_right, lt-ltb, ltb-true, ltb-false, eq-eqb, ne_eqb, cond-true, cond-false}
use Rattle.std.proofs.lemmas.Bool.Decides.{eqb_tells}
use Rattle.paged_store.specs.Words.{Words, decode}
use Rattle.paged_store.specs.inner.Formed.{Formed, Lays, AgreeOn}
use Rattle.paged_store.specs.State.{Hand, State}
use Rattle.paged_store.specs.inner.Sound.{taken_since, FitsHand, FitsBefore, Sound}
use Rattle.paged_store.specs.inner.Moves.{written, owned, parted, Rewrites}
use Rattle.paged_store.proofs.FrameLemmas.{decode_agrees, formed_agrees, lays_agrees, agree_on_own}
use Rattle.paged_store.proofs.OwnerLemmas.{SameOwner, lays_owner, place_own}
use Rattle.paged_store.proofs.StateLemmas.{none_or_some, hand_holds, taken_holds, holds_some, before_some, image_place}

-- the hand that has the words and extents, and holds these records
abbrev pub rewritten : Words → (ℕ → Bool) → (ℕ → ℕ) → (ℕ → Bool) → Hand → Hand
rewritten w t e there h = record (written w t e h) { holds = there }

module _ (own role : Words) (s : State) (k a : ℕ) (w : Words) (t : ℕ → Bool) (e part : ℕ → ℕ) (g : Sound own role s)
    (r : Rewrites own role s k a w t e part) where
  old_owner : (p : ℕ) → e p ≡ 0 → owned e a own p ≡ own p
  old_owner p z = cond-true (eqb (e p) 0) (own p) a (eq-eqb (e p) 0 z)

  new_owner : (p : ℕ) → 0 < e p → owned e a own p ≡ a
  new_owner p l = cond-false (eqb (e p) 0) (own p) a (ne_eqb (e p) 0 (λ z. omega (arith, l, z)))

  -- what belongs to a record isn't taken
  pub not_taken : (p : ℕ) → own p ≢ 0 → e p ≡ 0
  not_taken p n = elim (none_or_some (e p)) [ inl z ↦ z | inr l ↦ absurd (n (r.free p l).0) ]

  still : (p : ℕ) → own p ≢ 0 → SameOwner own role (owned e a own) (parted e part role) p
  still p n = record {
    owner = old_owner p (not_taken p n);
    part = cond-true (eqb (e p) 0) (role p) (part p) (eq-eqb (e p) 0 (not_taken p n));
  }

  pub image_rewritten : (b : ℕ) → s.image b ≡ true → Lays (owned e a own) (parted e part role) s.shared b
  image_rewritten b x = lays_owner own role (owned e a own) (parted e part role) s.shared b (g.lays b x)
      (λ p i. still p (image_place own role s g b p x i))

  pub now_rewritten : (j : ℕ) → FitsHand (owned e a own) (parted e part role) s.shared s.image (s.now j)
  now_rewritten j = hand_holds own role s.shared s.image (s.now j) (g.now j) (owned e a own) (parted e part role)
      (λ p x. still p (holds_some own role s g j (own p) x))

  pub before_rewritten : (j : ℕ) → FitsHand (owned e a own) (parted e part role) s.shared s.image (s.before j)
  before_rewritten j = hand_holds own role s.shared s.image (s.before j) (g.before j) (owned e a own)
      (parted e part role) (λ p x. still p (before_some own role s g j (own p) x))

  pub spare_rewritten : (p : ℕ) → 0 < s.spare p → owned e a own p ≡ 0
  spare_rewritten p x = elim (none_or_some (e p)) [
    | inl z ↦ old_owner p z ∙ g.spare p x
    | inr l ↦ absurd (let z = (r.free p l).1 in omega (arith, x, z))
  ]

  pub beyond_rewritten : (p : ℕ) → s.reserved ≤ p → (owned e a own p ≡ 0) × (s.spare p ≡ 0)
  beyond_rewritten p x = elim (none_or_some (e p)) [
    | inl z ↦ (old_owner p z ∙ (g.beyond p x).0, (g.beyond p x).1)
    | inr l ↦ absurd (let z = (r.free p l).2 in omega (arith, x, z))
  ]

  -- another record of the segment has the words that it had
  pub agree_other : (b : ℕ) → b ≢ a → (s.now k).holds b ≡ true → AgreeOn (s.now k).word w b
  agree_other b n x = agree_on_own own role (s.now k).word w b ((g.now k).lays b x) (λ p i.
      sym (r.untouched p (false_from_ne_true (t p) (λ y. n (sym i ∙ r.touches p y)))
      (not_taken p (λ z. holds_some own role s g k b x (sym i ∙ z)))))

  pub decode_other : (b : ℕ) → b ≢ a → (s.now k).holds b ≡ true → decode w b ≡ decode (s.now k).word b
  decode_other b n x = sym (decode_agrees (s.now k).word w b (agree_other b n x))

  module _ (there : ℕ → Bool) (here : there a ≡ true) (wide : (b : ℕ) → (s.now k).holds b ≡ true → there b ≡ true)
      (narrow : (b : ℕ) → b ≢ a → there b ≡ true → (s.now k).holds b ≡ true) where
    lays_there : (b : ℕ) → there b ≡ true → Lays (owned e a own) (parted e part role) w b
    lays_there b x = elim (eqb_tells b a) [
      | inl y ↦ subst (Lays (owned e a own) (parted e part role) w) (sym y.1) r.lays
      | inr n ↦ (let h = narrow b n.1 x in
          lays_agrees (owned e a own) (parted e part role) (s.now k).word w b (agree_other b n.1 h)
          ((now_rewritten k).lays b h))
    ]

    formed_there : (b : ℕ) → there b ≡ true → Formed w b
    formed_there b x = elim (eqb_tells b a) [
      | inl y ↦ subst (Formed w) (sym y.1) r.formed
      | inr n ↦ (let h = narrow b n.1 x in formed_agrees (s.now k).word w b (agree_other b n.1 h)
          ((g.now k).formed b h))
    ]

    touched_there : (p : ℕ) → (t p || (ltb 0 (e p) || (s.now k).touched p)) ≡ true → there (owned e a own p) ≡ true
    touched_there p x = elim (none_or_some (e p)) [
      | inl z ↦ ap there (old_owner p z) ∙ elim (or_cases _ _ x) [
        | inl y ↦ ap there (r.touches p y) ∙ here
        | inr y ↦ elim (or_cases _ _ y) [
          | inl u ↦ absurd (let l = ltb-true 0 (e p) u in omega (arith, l, z))
          | inr u ↦ wide (own p) ((g.now k).touched p u)
        ]
      ]
      | inr l ↦ ap there (new_owner p l) ∙ here
    ]

    same_there : (p : ℕ) → (t p || (ltb 0 (e p) || (s.now k).touched p)) ≡ false → w p ≡ s.shared p
    same_there p x =
        let u = or_parts (t p) (ltb 0 (e p) || (s.now k).touched p) x in
        let v = or_parts (ltb 0 (e p)) ((s.now k).touched p) u.1 in
        let l = ltb-false 0 (e p) v.0 in
        r.untouched p u.0 (omega (arith, l)) ∙ (g.now k).same p v.1

    taken_there : (p : ℕ) → 0 < e p + (s.now k).taken p → (t p || (ltb 0 (e p) || (s.now k).touched p)) ≡ true
    taken_there p x = elim (none_or_some (e p)) [
      | inl z ↦ or_right _ _ (or_right _ _ ((g.now k).taken p (omega (arith, x, z))))
      | inr l ↦ or_right _ _ (or_left _ _ (lt-ltb 0 (e p) l))
    ]

    once_there : (p : ℕ) → e p + (s.now k).taken p ≤ 1
    once_there p = elim (none_or_some (e p)) [
      | inl z ↦ (let o = (g.now k).once p in omega (arith, o, z))
      | inr l ↦ elim (none_or_some ((s.now k).taken p)) [
        | inl z ↦ (let o = r.once p in omega (arith, o, z))
        | inr m ↦ absurd (holds_some own role s g k (own p)
            (taken_holds own role s.shared s.image (s.now k) (g.now k) p m) (r.free p l).0)
      ]
    ]

    pub hand_rewritten : FitsHand (owned e a own) (parted e part role) s.shared s.image
        (rewritten w t e there (s.now k))
    hand_rewritten = record {
      lays = lays_there;
      formed = formed_there;
      touched = touched_there;
      same = same_there;
      taken = taken_there;
      once = once_there;
      kept = λ b p x i. let z = not_taken p (image_place own role s g b p x i) in let o = (g.now k).kept b p x i in
          omega (arith, z, o);
    }

    -- what the step began with is left once it is taken back
    since : (p : ℕ) → e p ≡ 0 → taken_since (s.before k) (s.now k) p
        ≡ ltb ((s.before k).taken p) (e p + (s.now k).taken p)
    since p z = ap (ltb ((s.before k).taken p)) (omega (arith, z))

    pub step_rewritten : FitsBefore (rewritten w t e there (s.now k)) (s.before k)
    step_rewritten = record {
      holds = λ b x. wide b ((g.step k).holds b x);
      taken = λ p. let l = (g.step k).taken p in omega (arith, l);
      touched = λ p x. elim (none_or_some (e p)) [
        | inl z ↦ (g.step k).touched p (since p z ∙ x)
        | inr l ↦ false_from_ne_true _ (λ y. before_some own role s g k (own p) ((g.before k).touched p y)
            (r.free p l).0)
      ];
      records = λ b p x i. sym (since p (not_taken p
          (λ z. before_some own role s g k b x (sym (place_own own role (s.before k).word b p ((g.before k).lays b x)
          i) ∙ z)))) ∙ (g.step k).records b p x i;
    }
