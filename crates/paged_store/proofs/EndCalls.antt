-- A segment publishes, drops what it has in hand, and takes its step back, on a store's fields.
use Rattle.std.proofs.Common.{◌≡◌, ◌≢◌, ℕ, ◌+◌, ◌-◌, ◌*◌, ◌<◌, ◌≤◌, Bool, true, false, cond, ◌||◌, ◌&&◌, not, eqb, List, [], ◌∷◌, length, get_or, take, drop, Option, Some, None, inl, inr, refl, sym, ◌∙◌, ap, subst, arith}
use Rattle.std.proofs.Math.Logic.{∥∥₁_elim, ∥∥₁_map}
use Rattle.std.proofs.lemmas.Bool.{cases_Bool, both_ways, false_from_ne_true, or_right, or_parts, cond-true, cond-false, cond_both}
use Rattle.std.proofs.lemmas.List.{take-append-drop, take-take, drop_all, length-take-le}
use Rattle.py_data.specs.Heap.{Rec}
use Rattle.py_data.specs.Sight.{mem}
use Rattle.py_data.proofs.Grow.{mem_append}
use Rattle.seg_store.specs.Calls.{after_undo, after_publish, after_drop}
use Rattle.page_table.specs.Pages.{Table}
use Rattle.paged_store.specs.declared.extent.Extent.{Extent}
use Rattle.paged_store.specs.declared.extent.Note.{Note}
use Rattle.paged_store.specs.Words.{Words, decode}
use Rattle.paged_store.specs.State.{Hand, State, meaning_in}
use Rattle.paged_store.specs.inner.Sound.{fresh, Sound}
use Rattle.paged_store.specs.inner.Moves.{put, empty_hand, given, gives, publishes, drops, undoes, freed, took}
use Rattle.paged_store.specs.Paged.{Drafted, no_draft, Paged, state_of, in_spans, in_extents, spare_at, extents_at, rewound, taken_since, taken_then, word_before, hand_now, hand_before}
use Rattle.paged_store.specs.inner.Fine.{of_class, noted, held_by, touched_by, sum_to, counts_of, Fits, Fine}
use Rattle.paged_store.specs.inner.Drafts.{step_undone}
use Rattle.paged_store.specs.inner.Ending.{pushes, restores, with_words, rewinds, GivenBack, among, free_of, Shown, made_since}
use Rattle.paged_store.proofs.OverLemmas.{over_each, put_over, put_self, put_still}
use Rattle.paged_store.proofs.MeaningLemmas.{put_here, put_there}
use Rattle.paged_store.proofs.StepMoves.{undoes_sound, undoes_means}
use Rattle.paged_store.proofs.DropMove.{drops_sound, drops_means}
use Rattle.paged_store.proofs.PublishMove.{publishes_sound, publishes_means}
use Rattle.paged_store.proofs.Keeping.{undo_kept, drop_kept, publish_kept}
use Rattle.paged_store.proofs.FineLemmas.{known_of, Leaves, leaves_by, leaves_of}
use Rattle.paged_store.proofs.CountLemmas.{counted_undo, counted_publish, counted_drop}
use Rattle.paged_store.proofs.KeyedLemmas.{keyed_undo, keyed_drop, keyed_publish}
use Rattle.paged_store.proofs.IndexedLemmas.{indexes_prop, drops_indexed, undoes_indexed}
use Rattle.paged_store.proofs.IndexedPublish.{publishes_indexed}
use Rattle.paged_store.proofs.CountCalls.{now_put, then_put}
use Rattle.paged_store.proofs.LockCall.{image_there}
use Rattle.paged_store.proofs.SpanSteps.{given_same, put_twice}
use Rattle.paged_store.proofs.EndLemmas.{sum_put, sum_less, class_parts, at_parts, table_fits, empty_fits, undone_fits, ended, fits_end, now_by, before_by, now_cleared, before_cleared, put_others}

in_segments : (p : Paged) (k : ℕ) → k < p.table.segments → k < (meaning_in (state_of p)).segments
unfolding meaning_in state_of
in_segments p k l = l

-- ---- what a segment publishes

no_note : (p : Paged) (k j q : ℕ) (own role : Words) → Fits p → Sound own role (state_of p) → j ≢ k →
    touched_by (p.drafts k) q ≡ true → noted (p.drafts j).notes q ≡ true → ⊥
unfolding state_of
no_note p k j q own role f g n e h = n (g.apart j k (own q) ((g.now j).touched q ((f.drafts j).noted_touched q h))
    ((g.now k).touched q e))

-- where a segment has written, no other has noted a word
noted_apart : (p : Paged) (k j q : ℕ) → Fine p → j ≢ k → touched_by (p.drafts k) q ≡ true →
    noted (p.drafts j).notes q ≡ false
noted_apart p k j q f n e = false_from_ne_true (noted (p.drafts j).notes q)
    (λ h. ∥∥₁_elim f.sound (λ x y. absurd x) (λ x. no_note p k j q x.0 x.1.0 f.fits x.1.1 n e h))

-- where no note is of a place, what stands there decides
rewound_off : (xs : List Note) (v w : Words) (q : ℕ) → v q ≡ w q → rewound xs v q ≡ rewound xs w q
rewound_off [] v w q e = e
rewound_off (x ∷ xs) v w q e = ap (cond (eqb q x.place) x.word) (rewound_off xs v w q e)

pub rewound_none : (xs : List Note) (w : Words) (q : ℕ) → noted xs q ≡ false → rewound xs w q ≡ w q
rewound_none [] w q n = refl
rewound_none (x ∷ xs) w q n = let h = or_parts (eqb q x.place) (noted xs q) n in
    cond-false (eqb q x.place) x.word (rewound xs w q) h.0 ∙ rewound_none xs w q h.1

-- a locked record stands in the image
locked_there : (p : Paged) (k a : ℕ) → Fine p → mem a (p.drafts k).changed ≡ true → get_or p.present a false ≡ true
unfolding meaning_in state_of
locked_there p k a f e = image_there p.present a (decode p.table.shared a) ((known_of p f).locked k a e)

module _ (p : Paged) (k : ℕ) (f : Fine p) (l : k < p.table.segments) (ps : List Bool) (hs : ℕ → Option ℕ) (u : Table)
    (is : u ≡ pushes k (touched_by (p.drafts k)) p.table)
    (shown : Shown (among (p.drafts k).made) p.present ps) (released : hs ≡ free_of (held_by (p.drafts k)) p.holder)
  where
    abbrev d : Drafted
    d = p.drafts k

    abbrev t : Table
    t = pushes k (touched_by d) p.table

    own_word : t.word k ≡ p.table.word k
    own_word = given_same (touched_by d) (p.table.word k)

    -- what the hand of another segment was before its step, in the words that it has now
    before_given : (j : ℕ) → j ≢ k → hand_before t j (p.drafts j) ≡ gives (hand_now p.table k d)
        (hand_before p.table j (p.drafts j))
    before_given j n = λ i. record (hand_before p.table j (p.drafts j)) { word = λ q. word q i }
      where
        word : (q : ℕ) → word_before t j (p.drafts j) q ≡ given (touched_by d) (p.table.word k)
            (word_before p.table j (p.drafts j)) q
        word q = elim (cases_Bool (touched_by d q)) [
          | inl y ↦ here y
          | inr m ↦ there m
        ]
          where
            since : Bool
            since = in_extents (taken_since (p.drafts j)) q

            notes : List Note
            notes = (p.drafts j).notes

            here : touched_by d q ≡ true → word_before t j (p.drafts j) q ≡ given (touched_by d) (p.table.word k)
                (word_before p.table j (p.drafts j)) q
            here y =
                let shared : t.shared q ≡ p.table.word k q =
                cond-true (touched_by d q) (p.table.word k q) (p.table.shared q) y in
                let word : rewound notes (t.word j) q ≡ p.table.word k q =
                rewound_none notes (t.word j) q (noted_apart p k j q f n y) ∙
                cond-true (touched_by d q) (p.table.word k q) (p.table.word j q) y in
                cond_both since (t.shared q) (rewound notes (t.word j) q) (λ x. x ≡ p.table.word k q) (λ _. shared)
                (λ _. word)
                ∙ sym (cond-true (touched_by d q) (p.table.word k q) (word_before p.table j (p.drafts j) q) y)

            there : touched_by d q ≡ false → word_before t j (p.drafts j) q ≡ given (touched_by d) (p.table.word k)
                (word_before p.table j (p.drafts j)) q
            there m = (λ i. cond since (cond-false (touched_by d q) (p.table.word k q) (p.table.shared q) m i)
                (rewound_off notes (t.word j) (p.table.word j) q
                (cond-false (touched_by d q) (p.table.word k q) (p.table.word j q) m) i))
                ∙ sym (cond-false (touched_by d q) (p.table.word k q) (word_before p.table j (p.drafts j) q) m)

    -- the image has the records that the segment held
    image_after : (a : ℕ) → get_or ps a false ≡ (get_or p.present a false || held_by d a)
    image_after a = shown.each a ∙ joined (mem a d.made) (get_or p.present a false) (mem a d.changed)
        (locked_there p k a f)
      where
        joined : (m i c : Bool) → (c ≡ true → i ≡ true) → (m || i) ≡ (i || (c || m))
        joined m true c e = or_right m true refl
        joined m false true e = absurd (let x : false ≡ true = e refl in cc)
        joined true false false e = refl
        joined false false false e = refl

    state_published : state_of (ended k no_draft t ps hs p) ≡ publishes k (state_of p)
    unfolding state_of
    state_published =
        let s : State = state_of p in
        (λ i. record (state_of (ended k no_draft t ps hs p)) {
          now = put_over (hand_now t) k no_draft p.drafts i;
          before = put_over (hand_before t) k no_draft p.drafts i;
          changed = put_over (λ j x. x.changed) k no_draft p.drafts i;
          made = put_over (λ j x. x.made) k no_draft p.drafts i;
          kept_made = put_over (λ j x. take x.made_before x.made) k no_draft p.drafts i;
        })
        ∙ (λ i. record (publishes k s) {
          image = λ a. image_after a i;
          now = put k (now_cleared t k (p.table.word k) own_word i) (λ j. gives (s.now k) (s.now j));
          before = put k (before_cleared t k (p.table.word k) own_word i) (over_each (hand_before t) p.drafts);
        })
        ∙ (λ i. record (publishes k s) {
          before = put_others k (empty_hand (p.table.word k)) (over_each (hand_before t) p.drafts)
              (λ j. gives (s.now k) (s.before j)) before_given i;
        })

    fits_published : Fits (ended k no_draft t ps hs p)
    fits_published = fits_end p k no_draft t ps hs (held_by d) f.fits refl refl shown.count
        (empty_fits t (length ps) k) released (λ a e. e) (λ a. sym (none (held_by d a)))
        (λ c. let h = f.fits.counted c in let z = sum_less p.table.segments k (λ j. of_class c (p.drafts j).taken) in
        omega (arith, h, z))
      where
        none : (b : Bool) → (b && not b) ≡ false
        none true = refl
        none false = refl

    pub publish_leaves : Leaves (ended k no_draft u ps hs p) (after_publish k (meaning_in (state_of p)))
    publish_leaves =
        let w = known_of p f in
        subst (λ x. Leaves (ended k no_draft x ps hs p) (after_publish k (meaning_in (state_of p)))) (sym is)
        (leaves_of p (ended k no_draft t ps hs p) (publishes k (state_of p))
        (after_publish k (meaning_in (state_of p))) f fits_published state_published
        (λ own role g. record {
          own = own;
          role = role;
          sound = publishes_sound own role (state_of p) k g;
          means =
              publishes_means own role (state_of p) k g;
        })
        (publish_kept p.table.reserved p.table.reserved k (meaning_in (state_of p)) w w.room)
        (counted_publish p.table.reserved (meaning_in (state_of p)) (counts_of p)
        (counts_of (ended k no_draft t ps hs p)) k w f.counted (in_segments p k l)
        (λ j c z. now_put k no_draft p.drafts j c) (λ j c z. then_put k no_draft p.drafts j c)
        (λ c z. refl) (λ c z. refl))
        (∥∥₁_map f.keyed (λ q. keyed_publish p.table.reserved (meaning_in (state_of p)) k w q))
        (∥∥₁_elim f.sound (indexes_prop _) (λ x. ∥∥₁_elim f.keyed (indexes_prop _) (λ q.
        publishes_indexed x.0 x.1.0 (state_of p) k x.1.1 q f.indexed))))

-- ---- what was given back

-- a table is another, but for segment k's words and the shelves
pub record Reworded (k : ℕ) (w : Words) (t u : Table) : Type 0 where
  pub shared : u.shared ≡ t.shared
  pub word : u.word ≡ put k w t.word
  pub own : u.own ≡ t.own
  pub reserved : u.reserved ≡ t.reserved
  pub pages : u.pages ≡ t.pages
  pub segments : u.segments ≡ t.segments

reworded : (k : ℕ) (w : Words) (t u : Table) (xs : List Extent) → GivenBack xs (with_words k w t) u → Reworded k w t u
reworded k w t u xs g = record {
  shared = ap (λ (x : Table). x.shared) g.others;
  word = ap (λ (x : Table). x.word) g.others;
  own = ap (λ (x : Table). x.own) g.others;
  reserved = ap (λ (x : Table). x.reserved) g.others;
  pages = ap (λ (x : Table). x.pages) g.others;
  segments = ap (λ (x : Table). x.segments) g.others;
}

module _ (k : ℕ) (w : Words) (t u : Table) (r : Reworded k w t u) where
  word_here : u.word k ≡ w
  word_here = ap (λ (f : ℕ → Words). f k) r.word ∙ put_here k w t.word

  word_there : (j : ℕ) → j ≢ k → u.word j ≡ t.word j
  word_there j n = ap (λ (f : ℕ → Words). f j) r.word ∙ put_there k j w t.word n

  -- the hands of other segments are as they were
  now_there : (h : Hand) (ds : ℕ → Drafted) → put k h (over_each (hand_now u) ds) ≡ put k h (over_each (hand_now t) ds)
  now_there h ds = put_others k h (over_each (hand_now u) ds) (over_each (hand_now t) ds)
      (λ j n. now_by t u j (ds j) (word_there j n))

  before_there : (h : Hand) (ds : ℕ → Drafted) →
      put k h (over_each (hand_before u) ds) ≡ put k h (over_each (hand_before t) ds)
  before_there h ds = put_others k h (over_each (hand_before u) ds) (over_each (hand_before t) ds)
      (λ j n. before_by t u j (ds j) r.shared (word_there j n))

-- ---- what a segment drops

module _ (p : Paged) (k : ℕ) (f : Fine p) (l : k < p.table.segments) (hs : ℕ → Option ℕ) (u : Table)
    (back : GivenBack (p.drafts k).taken (restores k (touched_by (p.drafts k)) p.table) u)
    (released : hs ≡ free_of (held_by (p.drafts k)) p.holder) where
  abbrev dropped_words : Words
  dropped_words = given (touched_by (p.drafts k)) p.table.shared (p.table.word k)

  dropped : Reworded k dropped_words p.table u
  dropped = reworded k dropped_words p.table u (p.drafts k).taken back

  state_dropped : state_of (ended k no_draft u p.present hs p) ≡ drops k (state_of p)
  unfolding state_of
  state_dropped =
      let s : State = state_of p in
      let d : Drafted = no_draft in
      let r = dropped in
      (λ i. record (state_of (ended k d u p.present hs p)) {
        now = (put_over (hand_now u) k d p.drafts ∙ now_there k dropped_words p.table u r (hand_now u k d) p.drafts) i;
        before = (put_over (hand_before u) k d p.drafts ∙ before_there k dropped_words p.table u r (hand_before u k d)
            p.drafts) i;
        changed = put_over (λ j x. x.changed) k d p.drafts i;
        made = put_over (λ j x. x.made) k d p.drafts i;
        kept_made = put_over (λ j x. take x.made_before x.made) k d p.drafts i;
      })
      ∙ (λ i. record (drops k s) {
        shared = r.shared i;
        now = put k (now_cleared u k dropped_words (word_here k dropped_words p.table u r) i) s.now;
        before = put k (before_cleared u k dropped_words (word_here k dropped_words p.table u r) i)
            s.before;
        spare = λ q. back.spare q i;
        reserved = r.reserved i;
        segments = r.segments i;
        limit = 512 * r.pages i;
      })

  fits_dropped : Fits (ended k no_draft u p.present hs p)
  fits_dropped = fits_end p k no_draft u p.present hs (held_by (p.drafts k)) f.fits dropped.reserved
      dropped.own refl (empty_fits u (length p.present) k) released
      (λ a e. e) (λ a. sym (none (held_by (p.drafts k) a))) counted
    where
      none : (b : Bool) → (b && not b) ≡ false
      none true = refl
      none false = refl

      counted : (c : ℕ) → sum_to u.segments (put k 0 (λ j. of_class c (p.drafts j).taken)) + length (u.shelf c).spare ≤
          (u.shelf c).total
      counted c =
          let h = f.fits.counted c in
          let z = sum_put p.table.segments k 0 (λ j. of_class c (p.drafts j).taken) l in
          let n = back.count c in
          let m = back.total c in
          let e = ap (λ x. sum_to x (put k 0 (λ j. of_class c (p.drafts j).taken))) dropped.segments in
          omega (arith, h, z, n, m, e)

  pub drop_leaves : Leaves (ended k no_draft u p.present hs p) (after_drop k (meaning_in (state_of p)))
  drop_leaves =
      let w = known_of p f in
      leaves_by (ended k no_draft u p.present hs p) (drops k (state_of p))
      (after_drop k (meaning_in (state_of p))) fits_dropped state_dropped
      (∥∥₁_map f.sound (λ x. (freed (took (state_of p) k) x.0, (x.1.0, drops_sound x.0 x.1.0 (state_of p) k x.1.1))))
      (drops_means (state_of p) k)
      (drop_kept p.table.reserved u.reserved k (meaning_in (state_of p)) w
      (subst (λ n. n ≤ (meaning_in (state_of p)).limit) (sym dropped.reserved) w.room))
      (counted_drop (meaning_in (state_of p)) (counts_of p)
      (counts_of (ended k no_draft u p.present hs p)) k f.counted (in_segments p k l)
      (λ j c z. now_put k no_draft p.drafts j c)
      (λ j c z. then_put k no_draft p.drafts j c) (λ c z. back.total c) (λ c z. back.count c))
      (∥∥₁_map f.keyed (λ q. keyed_drop (meaning_in (state_of p)) k q))
      (∥∥₁_elim f.sound (indexes_prop _) (λ x. drops_indexed x.0 x.1.0 (state_of p) k x.1.1 f.indexed))

-- ---- what a step takes back

rewinds_is : (k : ℕ) (d : Drafted) (t : Table) → rewinds k d t ≡ with_words k (word_before t k d) t
rewinds_is k d t =
    let w : Words = rewound d.notes (t.word k) in
    (λ i. record t {
      word = put k (given (in_extents (taken_since d)) t.shared (put_here k w t.word i))
          (put k w t.word);
    })
    ∙ (λ i. record t { word = put_twice k (word_before t k d) w t.word i })

made_parts : (d : Drafted) (a : ℕ) → mem a d.made ≡ (mem a (take d.made_before d.made) || mem a (made_since d))
made_parts d a = ap (mem a) (sym (take-append-drop d.made_before d.made)) ∙
    mem_append a (take d.made_before d.made) (made_since d)

-- what the step made is held
since_held : (d : Drafted) (a : ℕ) → mem a (made_since d) ≡ true → held_by d a ≡ true
since_held d a e = or_right _ _ (made_parts d a ∙ or_right (mem a (take d.made_before d.made)) (mem a (made_since d)) e)

-- and nothing else is held no more
step_only : (d : Drafted) (a : ℕ) → (mem a d.changed ≡ true → mem a (made_since d) ≡ false) →
    (mem a (take d.made_before d.made) ≡ true → mem a (made_since d) ≡ false)
    → held_by (step_undone d) a ≡ (held_by d a && not (mem a (made_since d)))
step_only d a apart once = only (mem a d.changed) (mem a (take d.made_before d.made)) (mem a (made_since d)) apart once
    ∙ ap (λ t. (mem a d.changed || t) && not (mem a (made_since d))) (sym (made_parts d a))
  where
    only : (c t r : Bool) → (c ≡ true → r ≡ false) → (t ≡ true → r ≡ false) → (c || t) ≡ ((c || (t || r)) && not r)
    only true t true e o = absurd (let x : true ≡ false = e refl in cc)
    only true t false e o = refl
    only false true true e o = absurd (let x : true ≡ false = o refl in cc)
    only false true false e o = refl
    only false false true e o = refl
    only false false false e o = refl

-- no record is locked and made
made_unlocked : (p : Paged) (k a : ℕ) → Fine p → mem a (p.drafts k).changed ≡ true → mem a (p.drafts k).made ≡ true → ⊥
unfolding meaning_in state_of
made_unlocked p k a f e m = both_ways _ (none_there (get_or p.present a false) (decode p.table.shared a)
    ((known_of p f).unused k a m)) (locked_there p k a f e)
  where
    none_there : (b : Bool) (r : Rec) → cond b (Some r) None ≡ None → b ≡ false
    none_there true r x = absurd (cc)
    none_there false r x = refl

module _ (p : Paged) (k : ℕ) (f : Fine p) (l : k < p.table.segments) (hs : ℕ → Option ℕ) (u : Table)
    (back : GivenBack (taken_since (p.drafts k)) (rewinds k (p.drafts k) p.table) u)
    (released : hs ≡ free_of (among (made_since (p.drafts k))) p.holder) where
  abbrev words_then : Words
  words_then = word_before p.table k (p.drafts k)

  undone : Reworded k words_then p.table u
  undone = reworded k words_then p.table u (taken_since (p.drafts k))
      (subst (λ t. GivenBack (taken_since (p.drafts k)) t u) (rewinds_is k (p.drafts k) p.table) back)

  now_undone : hand_now u k (step_undone (p.drafts k)) ≡ hand_before p.table k (p.drafts k)
  now_undone = λ i. record (hand_before p.table k (p.drafts k)) { word = word_here k words_then p.table u undone i }

  before_undone : hand_before u k (step_undone (p.drafts k)) ≡ hand_before p.table k (p.drafts k)
  before_undone =
      let d : Drafted = p.drafts k in
      let fits = f.fits.drafts k in
      let none : drop d.taken_before (taken_then d) ≡ [] =
      drop_all d.taken_before (taken_then d) (let m = length-take-le d.taken_before d.taken fits.taken_before in
      omega (arith, m)) in
      let same : taken_then (step_undone d) ≡ taken_then d =
      take-take d.taken_before d.taken_before d.taken (omega arith) in
      λ i. record (hand_before p.table k d) {
        word = λ q. (ap (λ xs. cond (in_extents xs q) (u.shared q) (u.word k q)) none ∙
            ap (λ (w : Words). w q) (word_here k words_then p.table u undone)) i;
        holds = λ a. mem a d.changed || mem a (take-take d.made_before d.made_before d.made (omega arith) i);
        touched = λ q. in_spans (take-take d.spans_before d.spans_before d.spans (omega arith) i) q || in_extents
            (same i) q;
        taken = extents_at (same i);
      }

  state_undone : state_of (ended k (step_undone (p.drafts k)) u p.present hs p) ≡ undoes k (state_of p)
  unfolding state_of
  state_undone =
      let s : State = state_of p in
      let d : Drafted = step_undone (p.drafts k) in
      let r = undone in
      (λ i. record (state_of (ended k d u p.present hs p)) {
        now = (put_over (hand_now u) k d p.drafts ∙ now_there k words_then p.table u r (hand_now u k d) p.drafts) i;
        before = (put_over (hand_before u) k d p.drafts ∙ before_there k words_then p.table u r (hand_before u k d)
            p.drafts) i;
        changed = put_still (λ j x. x.changed) k d p.drafts refl i;
        made = put_over (λ j x. x.made) k d p.drafts i;
        kept_made = put_still (λ j x. take x.made_before x.made) k d p.drafts
            (take-take d.made_before d.made_before (p.drafts k).made (omega arith)) i;
      })
      ∙ (λ i. record (undoes k s) {
        shared = r.shared i;
        now = put k (now_undone i) s.now;
        before = (ap (λ h. put k h s.before) before_undone ∙ put_self k (s.before k) s.before refl) i;
        spare = λ q. spare q i;
        reserved = r.reserved i;
        segments = r.segments i;
        limit = 512 * r.pages i;
      })
    where
      spare : (q : ℕ) → spare_at u q ≡ spare_at p.table q +
          (extents_at (p.drafts k).taken q - extents_at (taken_then (p.drafts k)) q)
      spare q = let b = back.spare q in let e = at_parts (p.drafts k) q in omega (arith, b, e)

  fits_undone : Fits (ended k (step_undone (p.drafts k)) u p.present hs p)
  fits_undone =
      let d : Drafted = p.drafts k in
      fits_end p k (step_undone d) u p.present hs (among (made_since d)) f.fits undone.reserved undone.own refl
      (table_fits p.table u (length p.present) (length p.present) k (step_undone d) undone.reserved undone.own refl
      (undone_fits p.table (length p.present) k d (f.fits.drafts k)))
      released (λ a e. since_held d a e)
      (λ a. step_only d a (λ c. false_from_ne_true (mem a (made_since d))
      (λ m. made_unlocked p k a f c (made_parts d a ∙
      or_right (mem a (take d.made_before d.made)) (mem a (made_since d)) m))) ((f.fits.drafts k).once a))
      (λ c. let h = f.fits.counted c in
      let z = sum_put p.table.segments k (of_class c (taken_then d)) (λ j. of_class c (p.drafts j).taken) l in
      let n = back.count c in
      let m = back.total c in
      let y = class_parts c d in
      let e = ap (λ x. sum_to x (put k (of_class c (taken_then d)) (λ j. of_class c (p.drafts j).taken)))
      undone.segments in
      omega (arith, h, z, n, m, y, e))

  pub undo_leaves : Leaves (ended k (step_undone (p.drafts k)) u p.present hs p)
      (after_undo k (meaning_in (state_of p)))
  undo_leaves =
      let w = known_of p f in
      leaves_by (ended k (step_undone (p.drafts k)) u p.present hs p) (undoes k (state_of p))
      (after_undo k (meaning_in (state_of p))) fits_undone state_undone
      (∥∥₁_map f.sound (λ x. (freed (fresh (state_of p) k) x.0, (x.1.0, undoes_sound x.0 x.1.0 (state_of p) k x.1.1))))
      (undoes_means (state_of p) k)
      (undo_kept p.table.reserved u.reserved k (meaning_in (state_of p)) w
      (subst (λ n. n ≤ (meaning_in (state_of p)).limit) (sym undone.reserved) w.room))
      (counted_undo (meaning_in (state_of p)) (counts_of p)
      (counts_of (ended k (step_undone (p.drafts k)) u p.present hs p)) k f.counted (in_segments p k l)
      (λ j c z. now_put k (step_undone (p.drafts k)) p.drafts j c)
      (λ j c z. ap (λ (g : ℕ → ℕ). g j) (put_still (λ j x. of_class c (taken_then x)) k (step_undone (p.drafts k))
      p.drafts (ap (of_class c) (take-take (p.drafts k).taken_before (p.drafts k).taken_before (p.drafts k).taken
      (omega arith)))))
      (λ c z. back.total c)
      (λ c z. let n = back.count c in let y = class_parts c (p.drafts k) in omega (arith, n, y)))
      (∥∥₁_map f.keyed (λ q. keyed_undo (meaning_in (state_of p)) k q))
      (undoes_indexed (state_of p) k f.indexed)
