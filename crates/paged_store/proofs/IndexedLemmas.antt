-- The indexes of dictionaries stay right over each move of a state.
use Rattle.std.proofs.Common.{◌≡◌, ◌≢◌, ℕ, Bool, true, false, ◌||◌, eqb, inl, inr, refl, sym, ◌∙◌, ap, subst}
use Rattle.std.proofs.Props.{props}
use Rattle.std.proofs.lemmas.Bool.{false_from_ne_true, or_cases, or_left, or_right}
use Rattle.std.proofs.lemmas.Bool.Decides.{eqb_tells}
use Rattle.py_base.specs.declared.kind.Kind.TheVariants.{Dict}
use Rattle.py_data.specs.Heap.{Marks}
use Rattle.py_data.specs.Sight.{no_marks, with_mark}
use Rattle.dict_index.specs.Laws.{KeepsFixed}
use Rattle.seg_store.specs.Meaning.{Meaning, sees}
use Rattle.paged_store.specs.Words.{Words, kind_by}
use Rattle.paged_store.specs.inner.Formed.{AgreeOn}
use Rattle.paged_store.specs.State.{Hand, State, heap_of, meaning_in}
use Rattle.paged_store.specs.inner.Sound.{Sound}
use Rattle.paged_store.specs.inner.Moves.{empty_hand, nowhere, new_state, looks, begins, marks, with_held, locks, written, stocked, owned, parted, Rewrites, writes, makes, opens, undoes, given, drops}
use Rattle.paged_store.specs.inner.Indexed.{IsIndexed, AreIndexed, HasIndexes}
use Rattle.paged_store.specs.inner.Keyed.{HasKeys}
use Rattle.paged_store.proofs.FrameLemmas.{agree_on_own}
use Rattle.paged_store.proofs.MemLemmas.{one_more}
use Rattle.paged_store.proofs.StateLemmas.{put_each}
use Rattle.paged_store.proofs.MeaningLemmas.{put_here}
use Rattle.paged_store.proofs.SightLemmas.{seen_lays, seen_some, seen_words}
use Rattle.paged_store.proofs.RewriteLemmas.{not_taken}
use Rattle.paged_store.proofs.WriteMove.{writes_sound}
use Rattle.paged_store.proofs.MakeMove.{makes_sound}
use Rattle.paged_store.proofs.DropMove.{restored_same}
use Rattle.paged_store.proofs.IndexFrame.{SameFixed, same_fixed, dict_frame}

-- what is seen by a hand: the image, with the records that it holds
abbrev pub IndexedBy : (ℕ → Bool) → Hand → Type 0
IndexedBy image h = AreIndexed (λ a. image a || h.holds a) h.word

-- ---- one proof

pub indexes_prop : (s : State) → IsProp (HasIndexes s)
indexes_prop s = hlevel props

-- ---- a new state

pub new_indexed : (w : Words) (reserved segments limit : ℕ) → HasIndexes (new_state w reserved segments limit)
new_indexed w reserved segments limit = record {
  image = λ a e d. absurd (cc);
  now = λ k a e d. absurd (cc);
  before = λ k a e d. absurd (cc);
}

-- ---- no record changes

looks_indexed : (s : State) (k : ℕ) (m : Marks) → HasIndexes s → HasIndexes (looks k m s)
looks_indexed s k m i = record { image = i.image; now = i.now; before = i.before }

pub begins_indexed : (s : State) (k : ℕ) → HasIndexes s → HasIndexes (begins k s)
begins_indexed s k i = looks_indexed s k no_marks i

pub marks_indexed : (s : State) (k a : ℕ) → HasIndexes s → HasIndexes (marks k a s)
marks_indexed s k a i = looks_indexed s k (with_mark a (s.looked k)) i

pub stocked_indexed : (s : State) (spare : ℕ → ℕ) (reserved : ℕ) → HasIndexes s
    → HasIndexes (stocked spare reserved s)
stocked_indexed s spare reserved i = record { image = i.image; now = i.now; before = i.before }

-- ---- steps

pub opens_indexed : (s : State) (k : ℕ) → HasIndexes s → HasIndexes (opens k s)
opens_indexed s k i = record {
  image = i.image;
  now = i.now;
  before = put_each (λ j h. IndexedBy s.image h) k (s.now k) s.before (i.now k) (λ j n. i.before j);
}

pub undoes_indexed : (s : State) (k : ℕ) → HasIndexes s → HasIndexes (undoes k s)
undoes_indexed s k i = record {
  image = i.image;
  now = put_each (λ j h. IndexedBy s.image h) k (s.before k) s.now (i.before k) (λ j n. i.now j);
  before = i.before;
}

-- ---- a record of the image is locked

held_indexed : (image : ℕ → Bool) (a : ℕ) (h : Hand) → image a ≡ true → IndexedBy image h
    → IndexedBy image (with_held a h)
held_indexed image a h is x b e d = x b (elim (or_cases (image b) (eqb b a || h.holds b) e) [
  | inl y ↦ or_left _ _ y
  | inr y ↦ one_more (λ c. (image c || h.holds c) ≡ true) a b (h.holds b) y (or_left _ _ is) (λ z. or_right _ _ z)
]) d

pub locks_indexed : (s : State) (k a : ℕ) → s.image a ≡ true → HasIndexes s → HasIndexes (locks k a s)
locks_indexed s k a is i = record {
  image = i.image;
  now = put_each (λ j h. IndexedBy s.image h) k (with_held a (s.now k)) s.now
      (held_indexed s.image a (s.now k) is (i.now k)) (λ j n. i.now j);
  before = put_each (λ j h. IndexedBy s.image h) k (with_held a (s.before k)) s.before
      (held_indexed s.image a (s.before k) is (i.before k)) (λ j n. i.before j);
}

-- ---- other words of a record that the segment holds or makes

module _ (own role : Words) (s : State) (k a : ℕ) (w : Words) (t : ℕ → Bool) (e part : ℕ → ℕ) (g : Sound own role s)
    (r : Rewrites own role s k a w t e part) where
  -- another record that the segment sees has the words that it had
  agree_seen : (b : ℕ) → b ≢ a → (s.image b || (s.now k).holds b) ≡ true → AgreeOn (s.now k).word w b
  agree_seen b n x = agree_on_own own role (s.now k).word w b (seen_lays own role s k g b x) (λ p i.
      sym (r.untouched p (false_from_ne_true (t p) (λ y. n (sym i ∙ r.touches p y)))
      (not_taken own role s k a w t e part g r p (λ z. seen_some own role s k g b x (sym i ∙ z)))))

  -- where the fixed records that it sees stay
  same_seen : (there : ℕ → Bool) (m : Meaning) → sees m k ≡ heap_of (λ b. s.image b || there b) w
      → KeepsFixed (sees (meaning_in s) k) (sees m k)
      → SameFixed (λ b. s.image b || (s.now k).holds b) (s.now k).word w
  same_seen there m is f = same_fixed (λ b. s.image b || (s.now k).holds b) (λ b. s.image b || there b)
      (s.now k).word w
      (subst (λ h. KeepsFixed (heap_of (λ b. s.image b || (s.now k).holds b) (s.now k).word) h) is
      (subst (λ h. KeepsFixed h (sees m k)) (seen_words own role s k g) f))

  rewritten_indexed : (there : ℕ → Bool)
      → ((b : ℕ) → b ≢ a → there b ≡ true → (s.now k).holds b ≡ true) → HasKeys (sees (meaning_in s) k)
      → SameFixed (λ b. s.image b || (s.now k).holds b) (s.now k).word w → (kind_by w a ≡ Dict → IsIndexed w a)
      → IndexedBy s.image (s.now k) → AreIndexed (λ b. s.image b || there b) w
  rewritten_indexed there narrow keys same new x b y d = elim (eqb_tells b a) [
    | inl z ↦ subst (IsIndexed w) (sym z.1) (new (ap (kind_by w) (sym z.1) ∙ d))
    | inr n ↦ (let seen : (s.image b || (s.now k).holds b) ≡ true = elim (or_cases (s.image b) (there b) y) [
      | inl z ↦ or_left _ _ z
      | inr z ↦ or_right _ _ (narrow b n.1 z)
    ] in
        dict_frame (λ c. s.image c || (s.now k).holds c) (s.now k).word w b
        (subst HasKeys (seen_words own role s k g) keys) same seen (agree_seen b n.1 seen) x d)
  ]

-- ---- a record that the segment holds is written

module _ (own role : Words) (s : State) (k a : ℕ) (w : Words) (t : ℕ → Bool) (e part : ℕ → ℕ) (g : Sound own role s)
    (h : (s.now k).holds a ≡ true) (r : Rewrites own role s k a w t e part)
    (f : KeepsFixed (sees (meaning_in s) k) (sees (meaning_in (writes k w t e s)) k)) where
  pub writes_same : SameFixed (λ b. s.image b || (s.now k).holds b) (s.now k).word w
  writes_same = same_seen own role s k a w t e part g r (s.now k).holds (meaning_in (writes k w t e s))
      (seen_words (owned e a own) (parted e part role) (writes k w t e s) k
      (writes_sound own role s k a w t e part g h r)
      ∙ ap (λ (x : Hand). heap_of (λ b. s.image b || x.holds b) x.word)
      (put_here k (written w t e (s.now k)) s.now)) f

  pub writes_indexed : HasKeys (sees (meaning_in s) k) → (kind_by w a ≡ Dict → IsIndexed w a) → HasIndexes s
      → HasIndexes (writes k w t e s)
  writes_indexed keys new i = record {
    image = i.image;
    now = put_each (λ j x. IndexedBy s.image x) k (written w t e (s.now k)) s.now
        (rewritten_indexed own role s k a w t e part g r (s.now k).holds (λ b n x. x) keys writes_same new (i.now k))
        (λ j n. i.now j);
    before = i.before;
  }

-- ---- a record is made

module _ (own role : Words) (s : State) (k a : ℕ) (w : Words) (e part : ℕ → ℕ) (g : Sound own role s) (some : a ≢ 0)
    (free : (j : ℕ) → (s.now j).holds a ≡ false) (r : Rewrites own role s k a w nowhere e part)
    (f : KeepsFixed (sees (meaning_in s) k) (sees (meaning_in (makes k a w e s)) k)) where
  pub makes_same : SameFixed (λ b. s.image b || (s.now k).holds b) (s.now k).word w
  makes_same = same_seen own role s k a w nowhere e part g r (λ b. eqb b a || (s.now k).holds b)
      (meaning_in (makes k a w e s))
      (seen_words (owned e a own) (parted e part role) (makes k a w e s) k
      (makes_sound own role s k a w e part g some free r)
      ∙ ap (λ (x : Hand). heap_of (λ b. s.image b || x.holds b) x.word)
      (put_here k (with_held a (written w nowhere e (s.now k))) s.now)) f

  pub makes_indexed : HasKeys (sees (meaning_in s) k) → (kind_by w a ≡ Dict → IsIndexed w a) → HasIndexes s
      → HasIndexes (makes k a w e s)
  makes_indexed keys new i = record {
    image = i.image;
    now = put_each (λ j x. IndexedBy s.image x) k (with_held a (written w nowhere e (s.now k))) s.now
        (rewritten_indexed own role s k a w nowhere e part g r (λ b. eqb b a || (s.now k).holds b)
        (λ b n x. one_more (λ c. c ≢ a → (s.now k).holds c ≡ true) a b ((s.now k).holds b) x (λ m. absurd (m refl))
        (λ y m. y) n) keys makes_same new (i.now k))
        (λ j n. i.now j);
    before = i.before;
  }

-- ---- a segment's records are dropped

-- a hand without records sees the image
pub empty_indexed : (image : ℕ → Bool) (shared w : Words) → w ≡ shared → AreIndexed image shared
    → IndexedBy image (empty_hand w)
empty_indexed image shared w same x = subst (AreIndexed (λ a. image a || false)) (sym same)
    (λ a e d. x a (elim (or_cases (image a) false e) [ inl y ↦ y | inr y ↦ absurd (cc) ]) d)

pub drops_indexed : (own role : Words) (s : State) (k : ℕ) → Sound own role s → HasIndexes s
    → HasIndexes (drops k s)
drops_indexed own role s k g i =
    let w : Words = given (s.now k).touched s.shared (s.now k).word in
    let empty : IndexedBy s.image (empty_hand w) = empty_indexed s.image s.shared w
    (λ i p. restored_same own role s k g p i) i.image in
    record {
      image = i.image;
      now = put_each (λ j h. IndexedBy s.image h) k (empty_hand w) s.now empty (λ j n. i.now j);
      before = put_each (λ j h. IndexedBy s.image h) k (empty_hand w) s.before empty (λ j n. i.before j);
    }
