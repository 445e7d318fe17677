-- What a sound state says of its hands.
use Rattle.std.proofs.Common.{◌≡◌, ◌≢◌, ◌⊎◌, ℕ, ◌*◌, ◌<◌, ◌≤◌, Bool, true, false, eqb, inl, inr, refl, sym, ◌∙◌, ap, subst, arith}
use Rattle.std.proofs.lemmas.Bool.{both_ways, false_from_ne_true, cond-true, cond-false, cases_lt}
use Rattle.std.proofs.lemmas.Bool.Decides.{eqb_tells}
use Rattle.paged_store.specs.Words.{Words, in_record}
use Rattle.paged_store.specs.inner.Formed.{Lays, AgreeOn}
use Rattle.paged_store.specs.State.{Hand, State}
use Rattle.paged_store.specs.inner.Sound.{FitsHand, Sound}
use Rattle.paged_store.specs.inner.Moves.{put}
use Rattle.paged_store.proofs.FrameLemmas.{agree_on_own}
use Rattle.paged_store.proofs.OwnerLemmas.{place_own, SameOwner, lays_owner, address_own}

pub none_or_some : (n : ℕ) → (n ≡ 0) ⊎ (0 < n)
none_or_some n = elim (cases_lt 0 n) [ inl l ↦ inr l | inr l ↦ inl (omega (arith, l)) ]

-- ---- another value for one number

-- a property of each value: of the one that is put, and of the others
pub put_each : {A : Type 0} (P : ℕ → A → Type 0) (k : ℕ) (x : A) (f : ℕ → A) → P k x → ((j : ℕ) → j ≢ k → P j (f j))
    → (j : ℕ) → P j (put k x f j)
put_each P k x f here there j = elim (eqb_tells j k) [
  | inl y ↦ subst (P j) (sym (cond-true (eqb j k) x (f j) y.0)) (subst (λ i. P i x) (sym y.1) here)
  | inr n ↦ subst (P j) (sym (cond-false (eqb j k) x (f j) n.0)) (there j n.1)
]

-- a property of two values of each number
pub put_two : {A B : Type 0} (P : ℕ → A → B → Type 0) (k : ℕ) (x : A) (f : ℕ → A) (y : B) (g : ℕ → B)
    → P k x y → ((j : ℕ) → j ≢ k → P j (f j) (g j)) → (j : ℕ) → P j (put k x f j) (put k y g j)
put_two P k x f y g here there j = put_each (λ i v. P i v (put k y g i)) k x f
    (put_each (λ i w. i ≡ k → P k x w) k y g (λ _. here) (λ i n e. absurd (n e)) k refl)
    (λ i n. put_each (λ i w. i ≢ k → P i (f i) w) k y g (λ n. absurd (n refl)) (λ i m _. there i m) i n) j

-- a property of three values of each number
pub put_three : {A B C : Type 0} (P : ℕ → A → B → C → Type 0) (k : ℕ) (x : A) (f : ℕ → A) (y : B) (g : ℕ → B) (z : C)
    (h : ℕ → C)
    → P k x y z → ((j : ℕ) → j ≢ k → P j (f j) (g j) (h j)) → (j : ℕ) → P j (put k x f j) (put k y g j) (put k z h j)
put_three P k x f y g z h here there j = put_two (λ i v w. P i v w (put k z h i)) k x f y g
    (put_each (λ i u. i ≡ k → P k x y u) k z h (λ _. here) (λ i n e. absurd (n e)) k refl)
    (λ i n. put_each (λ i u. i ≢ k → P i (f i) (g i) u) k z h (λ n. absurd (n refl)) (λ i m _. there i m) i n) j

-- no two segments hold one record, where what one holds now is no other's
pub put_apart : (k : ℕ) (x : Hand) (f : ℕ → Hand)
    → ((i j a : ℕ) → (f i).holds a ≡ true → (f j).holds a ≡ true → i ≡ j)
    → ((j a : ℕ) → j ≢ k → x.holds a ≡ true → (f j).holds a ≡ true → ⊥)
    → (i j a : ℕ) → (put k x f i).holds a ≡ true → (put k x f j).holds a ≡ true → i ≡ j
put_apart k x f old new i j a = put_each (λ i h. h.holds a ≡ true → (put k x f j).holds a ≡ true → i ≡ j) k x f
    (λ e. put_each (λ j h. h.holds a ≡ true → k ≡ j) k x f (λ _. refl) (λ j n g. absurd (new j a n e g)) j)
    (λ i n e. put_each (λ j h. h.holds a ≡ true → i ≡ j) k x f (λ g. absurd (new i a n g e)) (λ j m g. old i j a e g)
    j) i

-- ---- a hand that fits the image

module _ (own role shared : Words) (image : ℕ → Bool) (h : Hand) (f : FitsHand own role shared image h) where
  -- what isn't a held record's is untouched
  pub untouched : (p : ℕ) → h.holds (own p) ≡ false → h.touched p ≡ false
  untouched p e = false_from_ne_true (h.touched p) (λ t. both_ways _ e (f.touched p t))

  pub untaken : (p : ℕ) → h.touched p ≡ false → h.taken p ≡ 0
  untaken p e = elim (cases_lt 0 (h.taken p)) [
    | inl y ↦ absurd (both_ways _ e (f.taken p y))
    | inr n ↦ omega (arith, n)
  ]

  -- what the hand took belongs to a record that it holds
  pub taken_holds : (p : ℕ) → 0 < h.taken p → h.holds (own p) ≡ true
  taken_holds p l = f.touched p (f.taken p l)

  -- a record of the image that it doesn't hold has the shared words
  pub agree_unheld : (a : ℕ) → h.holds a ≡ false → Lays own role shared a → AgreeOn shared h.word a
  agree_unheld a e o = agree_on_own own role shared h.word a o
      (λ p i. sym (f.same p (untouched p (ap h.holds i ∙ e))))

  -- the hand fits by another account of whose the places are that says the same of those of its records
  pub hand_owner : (own1 role1 : Words) → ((a p : ℕ) → h.holds a ≡ true → in_record h.word a p ≡ true
      → SameOwner own role own1 role1 p)
      → ((p : ℕ) → h.touched p ≡ true → own1 p ≡ own p) → FitsHand own1 role1 shared image h
  hand_owner own1 role1 places touched = record {
    lays = λ a e. lays_owner own role own1 role1 h.word a (f.lays a e) (λ p i. places a p e i);
    formed = f.formed;
    touched = λ p e. ap h.holds (touched p e) ∙ f.touched p e;
    same = f.same;
    taken = f.taken;
    once = f.once;
    kept = f.kept;
  }

  -- as where it says the same of each place that is a held record's
  pub hand_holds : (own1 role1 : Words) → ((p : ℕ) → h.holds (own p) ≡ true → SameOwner own role own1 role1 p)
      → FitsHand own1 role1 shared image h
  hand_holds own1 role1 same = hand_owner own1 role1
      (λ a p e i. same p (ap h.holds (place_own own role h.word a p (f.lays a e) i) ∙ e))
      (λ p t. (same p (f.touched p t)).owner)

-- ---- a sound state

module _ (own role : Words) (s : State) (g : Sound own role s) where
  pub image_some : (a : ℕ) → s.image a ≡ true → a ≢ 0
  image_some a e z = both_ways _ g.nobody (sym (ap s.image z) ∙ e)

  pub holds_some : (k a : ℕ) → (s.now k).holds a ≡ true → a ≢ 0
  holds_some k a e z = both_ways _ (g.held_some k) (sym (ap (s.now k).holds z) ∙ e)

  pub before_some : (k a : ℕ) → (s.before k).holds a ≡ true → a ≢ 0
  before_some k a e = holds_some k a ((g.step k).holds a e)

  -- a record that another segment holds
  pub other_holds : (j k a : ℕ) → j ≢ k → (s.now j).holds a ≡ true → (s.now k).holds a ≡ false
  other_holds j k a n e = false_from_ne_true ((s.now k).holds a) (λ h. n (g.apart j k a e h))

  -- a place of a record isn't nobody's
  pub now_place : (k a p : ℕ) → (s.now k).holds a ≡ true → in_record (s.now k).word a p ≡ true → own p ≢ 0
  now_place k a p e i z = holds_some k a e (sym (place_own own role (s.now k).word a p ((g.now k).lays a e) i) ∙ z)

  pub before_place : (k a p : ℕ) → (s.before k).holds a ≡ true → in_record (s.before k).word a p ≡ true → own p ≢ 0
  before_place k a p e i z = before_some k a e (sym
      (place_own own role (s.before k).word a p ((g.before k).lays a e) i) ∙ z)

  pub image_place : (a p : ℕ) → s.image a ≡ true → in_record s.shared a p ≡ true → own p ≢ 0
  image_place a p e i z = image_some a e (sym (place_own own role s.shared a p (g.lays a e) i) ∙ z)

  -- so it is reserved, and isn't spare
  pub reserved_place : (p : ℕ) → own p ≢ 0 → (p < s.reserved) × (s.spare p ≡ 0)
  reserved_place p n = (here (cases_lt p s.reserved), there (cases_lt 0 (s.spare p)))
    where
      here : (p < s.reserved) ⊎ (s.reserved ≤ p) → p < s.reserved
      here (inl l) = l
      here (inr l) = absurd (n (g.beyond p l).0)

      there : (0 < s.spare p) ⊎ (s.spare p ≤ 0) → s.spare p ≡ 0
      there (inl l) = absurd (n (g.spare p l))
      there (inr l) = omega (arith, l)

  pub now_reserved : (k a p : ℕ) → (s.now k).holds a ≡ true → in_record (s.now k).word a p ≡ true → p < s.reserved
  now_reserved k a p e i = (reserved_place p (now_place k a p e i)).0

  pub before_reserved : (k a p : ℕ) → (s.before k).holds a ≡ true → in_record (s.before k).word a p ≡ true
      → p < s.reserved
  before_reserved k a p e i = (reserved_place p (before_place k a p e i)).0

  pub image_reserved : (a p : ℕ) → s.image a ≡ true → in_record s.shared a p ≡ true → p < s.reserved
  image_reserved a p e i = (reserved_place p (image_place a p e i)).0

  -- an address whose header would begin at nobody's place is no record's
  module _ (a : ℕ) (some : a ≢ 0) (free : own (2 * a) ≡ 0) where
    pub free_image : s.image a ≡ false
    free_image = false_from_ne_true (s.image a) (λ e. some
        (sym (address_own own role s.shared a (g.lays a e)) ∙ free))

    pub free_now : (k : ℕ) → (s.now k).holds a ≡ false
    free_now k = false_from_ne_true ((s.now k).holds a)
        (λ e. some (sym (address_own own role (s.now k).word a ((g.now k).lays a e)) ∙ free))

    pub free_before : (k : ℕ) → (s.before k).holds a ≡ false
    free_before k = false_from_ne_true ((s.before k).holds a)
        (λ e. some (sym (address_own own role (s.before k).word a ((g.before k).lays a e)) ∙ free))
