-- A segment writes on its desk, on a store's fields: a record that it holds is another then, or nothing is.
use Rattle.std.proofs.Common.{◌≡◌, ◌≢◌, ℕ, ◌+◌, ◌*◌, ◌/◌, ◌<◌, ◌≤◌, Bool, true, false, cond, ◌||◌, eqb, ltb, List, [], ◌∷◌, ◌++◌, length, take, Some, None, unwrap_or, refl, sym, ◌∙◌, ap, subst, arith, get_or}
use Rattle.std.proofs.lemmas.Bool.{lt-ltb, or_right}
use Rattle.std.proofs.Math.Logic.{∥∥₁_elim}
use Rattle.std.proofs.lemmas.List.{take-append-le, append-nil}
use Rattle.py_base.specs.declared.kind.Kind.TheVariants.{Dict}
use Rattle.py_data.specs.Heap.{Rec, at, blank}
use Rattle.py_data.specs.Sight.{mem}
use Rattle.seg_store.specs.Meaning.{over, sees}
use Rattle.seg_store.specs.Calls.{after_change}
use Rattle.seg_store.specs.Store.{IsStore}
use Rattle.seg_store.specs.Extents.{extents, extents_of}
use Rattle.dict_index.specs.Laws.{KeepsFixed}
use Rattle.page_table.specs.Pages.{Table, Shelf}
use Rattle.paged_store.specs.declared.extent.Span.{Span}
use Rattle.paged_store.specs.declared.extent.Extent.{Extent}
use Rattle.paged_store.specs.Words.{Words, decode, kind_by}
use Rattle.paged_store.specs.State.{State, heap_of, part_in, meaning_in}
use Rattle.paged_store.specs.inner.Sound.{Sound}
use Rattle.paged_store.specs.inner.Counted.{IsCounted}
use Rattle.paged_store.specs.inner.Keyed.{HasKeys, IsKeyed}
use Rattle.paged_store.specs.inner.Indexed.{IsIndexed, HasIndexes}
use Rattle.paged_store.specs.inner.Moves.{put, written, stocked, Stocks, owned, parted, Rewrites, writes}
use Rattle.paged_store.specs.Paged.{Drafted, Paged, state_of, in_spans, in_extent, in_extents, extents_at, one_if, spare_at, taken_then, word_before, hand_now, hand_before}
use Rattle.paged_store.specs.inner.Fine.{of_class, sum_to, counts_of, FitsTable, Fits, Fine}
use Rattle.paged_store.specs.inner.Writing.{Desk, Wrote}
use Rattle.paged_store.proofs.OverLemmas.{over_each, put_over, put_self, put_still}
use Rattle.paged_store.proofs.StateLemmas.{put_each}
use Rattle.paged_store.proofs.StockMove.{stocked_sound}
use Rattle.paged_store.proofs.WriteMove.{writes_sound, writes_means}
use Rattle.paged_store.proofs.FineLemmas.{Leaves, Went, leaves_of}
use Rattle.paged_store.proofs.CountLemmas.{counted_change}
use Rattle.paged_store.proofs.CountCalls.{now_put, held_below, counted_rest}
use Rattle.paged_store.proofs.IndexedLemmas.{indexes_prop, stocked_indexed, writes_same, writes_indexed}
use Rattle.paged_store.proofs.IndexFrame.{Renews}
use Rattle.paged_store.proofs.SightLemmas.{seen_words}
use Rattle.paged_store.proofs.LookCalls.{in_hand}
use Rattle.paged_store.proofs.EndLemmas.{sum_put, class_both, at_both, now_by, before_by, put_others}

-- ---- what a write leaves of a desk

-- Segment k's words are w now; it may have written the places of t besides, and has taken the extents of xs. Its words
-- as its open step began with them are what they were.
pub record Turns (k : ℕ) (w : Words) (t : ℕ → Bool) (xs : List Extent) (old new : Desk) : Type 0 where
  pub shared : new.table.shared ≡ old.table.shared
  pub others : (j : ℕ) → j ≢ k → new.table.word j ≡ old.table.word j
  pub more : old.table.reserved ≤ new.table.reserved
  pub pages : new.table.pages ≡ old.table.pages
  pub segments : new.table.segments ≡ old.table.segments
  pub own : (j q : ℕ) → old.table.own j q ≡ true → new.table.own j q ≡ true
  pub count : (c : ℕ) → of_class c xs + length (new.table.shelf c).spare + (old.table.shelf c).total
      ≡ length (old.table.shelf c).spare + (new.table.shelf c).total
  pub changed : new.draft.changed ≡ old.draft.changed
  pub made : new.draft.made ≡ old.draft.made
  pub taken_before : new.draft.taken_before ≡ old.draft.taken_before
  pub made_before : new.draft.made_before ≡ old.draft.made_before
  pub spans_before : new.draft.spans_before ≡ old.draft.spans_before
  pub more_spans : List Span
  pub spans : new.draft.spans ≡ old.draft.spans ++ more_spans
  pub taken : new.draft.taken ≡ old.draft.taken ++ xs
  pub word : (p : ℕ) → new.table.word k p ≡ w p
  pub before : (p : ℕ) → word_before new.table k new.draft p ≡ word_before old.table k old.draft p
  pub places : (p : ℕ) → in_spans new.draft.spans p ≡ (t p || in_spans old.draft.spans p)
  pub fits : (n : ℕ) → FitsTable old.table n k old.draft → FitsTable new.table n k new.draft

pub turned : (k : ℕ) (w : Words) (t : ℕ → Bool) (old new : Desk) → Wrote k w t old new → Turns k w t [] old new
turned k w t old new h = let s = h.same in record {
  shared = s.shared;
  others = s.others;
  more = (let e = s.reserved in omega (arith, e));
  pages = s.pages;
  segments = s.segments;
  own = s.own;
  count = λ c. (let x = ap (λ (f : ℕ → Shelf). length (f c).spare) s.shelf in
      let y = ap (λ (f : ℕ → Shelf). (f c).total) s.shelf in omega (arith, x, y));
  changed = s.changed;
  made = s.made;
  taken_before = s.taken_before;
  made_before = s.made_before;
  spans_before = s.spans_before;
  more_spans = s.more_spans;
  spans = s.spans;
  taken = s.taken ∙ sym (append-nil old.draft.taken);
  word = h.word;
  before = h.before;
  places = h.spans;
  fits = h.fits;
}

-- ---- the parts

-- a draft fits a table in which more is reserved, and of which more pages are its segment's own
pub grown_fits : (t u : Table) (n k : ℕ) (d : Drafted) → t.reserved ≤ u.reserved
    → ((j q : ℕ) → t.own j q ≡ true → u.own j q ≡ true) → FitsTable t n k d → FitsTable u n k d
grown_fits t u n k d r o f = record {
  spans = λ i x l. (let e = f.spans i x l in omega (arith, e, r));
  taken = λ i x l. (let e = f.taken i x l in
      record { first = e.first; even = e.even; within = (let m = e.within in omega (arith, m, r)) });
  classes = f.classes;
  notes = λ p h. (let a = f.notes p h in ((let m = a.0 in omega (arith, m, r)), o k (p / 512) a.1));
  noted_touched = f.noted_touched;
  holds = f.holds;
  spans_before = f.spans_before;
  taken_before = f.taken_before;
  made_before = f.made_before;
  once = f.once;
}

pub extents_both : (xs ys : List Extent) (p : ℕ) → in_extents (xs ++ ys) p ≡ (in_extents xs p || in_extents ys p)
extents_both [] ys p = refl
extents_both (x ∷ xs) ys p = ap (λ b. in_extent x p || b) (extents_both xs ys p) ∙
    either (in_extent x p) (in_extents xs p) (in_extents ys p)
  where
    either : (a b c : Bool) → (a || (b || c)) ≡ ((a || b) || c)
    either true b c = refl
    either false b c = refl

pub extents_some : (xs : List Extent) (p : ℕ) → in_extents xs p ≡ ltb 0 (extents_at xs p)
extents_some [] p = refl
extents_some (x ∷ xs) p = ap (λ b. in_extent x p || b) (extents_some xs p) ∙ here (in_extent x p) (extents_at xs p)
  where
    here : (b : Bool) (n : ℕ) → (b || ltb 0 n) ≡ ltb 0 (one_if b + n)
    here true n = sym (lt-ltb 0 (1 + n) (omega arith))
    here false n = ap (ltb 0) (omega arith)

-- the fields after a write
abbrev pub turned_to : Paged → ℕ → Desk → Paged
turned_to p k new = record {
  table = new.table;
  present = p.present;
  holder = p.holder;
  looked = p.looked;
  drafts =
      put k new.draft p.drafts;
}

module _ (p : Paged) (k : ℕ) (new : Desk) (w : Words) (t : ℕ → Bool) (xs : List Extent) (f : Fine p)
    (d : Turns k w t xs (record { table = p.table; draft = p.drafts k }) new) where
  -- ---- they fit

  held_still : over_each in_hand (put k new.draft p.drafts) ≡ over_each in_hand p.drafts
  held_still = put_still in_hand k new.draft p.drafts (λ i a. mem a (d.changed i) || mem a (d.made i))

  pub fits_turned : k < p.table.segments → Fits (turned_to p k new)
  fits_turned l = record {
    drafts = put_each (λ j x. FitsTable new.table (length p.present) j x) k new.draft p.drafts
        (d.fits (length p.present) (f.fits.drafts k))
        (λ j n. grown_fits p.table new.table (length p.present) j (p.drafts j) d.more d.own (f.fits.drafts j));
    holders = λ j a. f.fits.holders j a ∙ sym (λ i. held_still i j a);
    counted = λ c. subst (λ g. sum_to new.table.segments g + length (new.table.shelf c).spare ≤
        (new.table.shelf c).total)
        (sym (put_over (λ j x. of_class c x.taken) k new.draft p.drafts)) (counted c);
  }
    where
      counted : (c : ℕ) → sum_to new.table.segments
          (put k (of_class c new.draft.taken) (λ j. of_class c (p.drafts j).taken))
          + length (new.table.shelf c).spare ≤ (new.table.shelf c).total
      counted c =
          let h = f.fits.counted c in
          let z = sum_put p.table.segments k (of_class c new.draft.taken) (λ j. of_class c (p.drafts j).taken) l in
          let n = ap (of_class c) d.taken ∙ class_both c (p.drafts k).taken xs in
          let m = d.count c in
          let e = ap (λ x. sum_to x (put k (of_class c new.draft.taken) (λ j. of_class c (p.drafts j).taken)))
          d.segments in
          omega (arith, h, z, n, m, e)

  -- ---- the state

  touched_now : (q : ℕ) → (in_spans new.draft.spans q || in_extents new.draft.taken q)
      ≡ (t q || (ltb 0 (extents_at xs q) || (in_spans (p.drafts k).spans q || in_extents (p.drafts k).taken q)))
  touched_now q =
      let e : in_extents new.draft.taken q ≡ (in_extents (p.drafts k).taken q || ltb 0 (extents_at xs q)) =
      ap (λ z. in_extents z q) d.taken ∙ extents_both (p.drafts k).taken xs q
      ∙ ap (λ b. in_extents (p.drafts k).taken q || b) (extents_some xs q) in
      (λ i. d.places q i || e i) ∙ swapped (t q) (in_spans (p.drafts k).spans q) (in_extents (p.drafts k).taken q)
      (ltb 0 (extents_at xs q))
    where
      swapped : (a b c e : Bool) → ((a || b) || (c || e)) ≡ (a || (e || (b || c)))
      swapped true b c e = refl
      swapped false true c true = refl
      swapped false true c false = refl
      swapped false false true true = refl
      swapped false false true false = refl
      swapped false false false true = refl
      swapped false false false false = refl

  taken_now : (q : ℕ) → extents_at new.draft.taken q ≡ extents_at xs q + extents_at (p.drafts k).taken q
  taken_now q = (let e = ap (λ z. extents_at z q) d.taken ∙ at_both (p.drafts k).taken xs q in omega (arith, e))

  pub hand_turned : hand_now new.table k new.draft ≡ written w t (extents_at xs) (hand_now p.table k (p.drafts k))
  hand_turned = λ i. record (hand_now p.table k (p.drafts k)) {
    word = λ q. d.word q i;
    holds = λ a. mem a (d.changed i) || mem a (d.made i);
    touched = λ q. touched_now q i;
    taken = λ q. taken_now q i;
  }

  spans_then : take new.draft.spans_before new.draft.spans ≡ take (p.drafts k).spans_before (p.drafts k).spans
  spans_then = (λ i. take (d.spans_before i) (d.spans i))
      ∙ take-append-le (p.drafts k).spans_before (p.drafts k).spans d.more_spans (f.fits.drafts k).spans_before

  pub extents_then : taken_then new.draft ≡ taken_then (p.drafts k)
  extents_then = (λ i. take (d.taken_before i) (d.taken i))
      ∙ take-append-le (p.drafts k).taken_before (p.drafts k).taken xs (f.fits.drafts k).taken_before

  pub before_turned : hand_before new.table k new.draft ≡ hand_before p.table k (p.drafts k)
  before_turned = λ i. record (hand_before p.table k (p.drafts k)) {
    word = λ q. d.before q i;
    holds = λ a. mem a (d.changed i) || mem a (take (d.made_before i) (d.made i));
    touched = λ q. in_spans (spans_then i) q || in_extents (extents_then i) q;
    taken = λ q. extents_at (extents_then i) q;
  }

  abbrev pub stock : State → State
  stock s = stocked (spare_at new.table) new.table.reserved s

  pub state_turned : state_of (turned_to p k new) ≡ writes k w t (extents_at xs) (stock (state_of p))
  unfolding state_of
  state_turned =
      let s : State = stock (state_of p) in
      let h = written w t (extents_at xs) (s.now k) in
      (λ i. record (state_of (turned_to p k new)) {
        now = put_over (hand_now new.table) k new.draft p.drafts i;
        before = put_over (hand_before new.table) k new.draft p.drafts i;
        changed = put_still (λ j x. x.changed) k new.draft p.drafts d.changed i;
        made = put_still (λ j x. x.made) k new.draft p.drafts d.made i;
        kept_made = put_still (λ j x. take x.made_before x.made) k new.draft p.drafts
            (λ i. take (d.made_before i) (d.made i)) i;
      })
      ∙ (λ i. record (writes k w t (extents_at xs) s) {
        shared = d.shared i;
        now = (put_others k (hand_now new.table k new.draft) (over_each (hand_now new.table) p.drafts) s.now
            (λ j n. now_by p.table new.table j (p.drafts j) (d.others j n))
            ∙ ap (λ x. put k x s.now) hand_turned) i;
        before = (put_others k (hand_before new.table k new.draft) (over_each (hand_before new.table) p.drafts) s.before
            (λ j n. before_by p.table new.table j (p.drafts j) d.shared (d.others j n))
            ∙ ap (λ x. put k x s.before) before_turned ∙ put_self k (s.before k) s.before refl) i;
        segments = d.segments i;
        limit = 512 * d.pages i;
      })

  -- ---- what it counts

  pub counts_now : (j c : ℕ) → of_class c (put k new.draft p.drafts j).taken
      ≡ cond (eqb j k) (of_class c (p.drafts k).taken + of_class c xs) (of_class c (p.drafts j).taken)
  counts_now j c = now_put k new.draft p.drafts j c ∙
      ap (λ n. cond (eqb j k) n (of_class c (p.drafts j).taken))
      (ap (of_class c) d.taken ∙ class_both c (p.drafts k).taken xs)

  pub counts_before : (j c : ℕ) → of_class c (taken_then (put k new.draft p.drafts j)) ≡ of_class c
      (taken_then (p.drafts j))
  counts_before j c = ap (λ (g : ℕ → ℕ). g j)
      (put_still (λ j x. of_class c (taken_then x)) k new.draft p.drafts (ap (of_class c) extents_then))

  -- a record that the segment holds is another, with the extents that were taken
  change_counted : (a : ℕ) (g : Rec → Rec) → k < p.table.segments → in_hand k (p.drafts k) a ≡ true
      → ((c : ℕ) → 1 ≤ c → extents (g (decode (p.table.word k) a)) c
      ≡ extents (decode (p.table.word k) a) c + of_class c xs)
      → IsCounted (after_change k a g (meaning_in (state_of p))) (counts_of (turned_to p k new))
  unfolding meaning_in state_of at
  change_counted a g l held more =
      counted_change (meaning_in (state_of p)) (counts_of p) (counts_of (turned_to p k new)) k a g (λ c. of_class c xs)
      f.counted l (held_below p k a f held)
      (λ c z. subst (λ o. extents (g (unwrap_or o blank)) c ≡ extents_of o c + of_class c xs) (sym seen) (more c z))
      (λ j c z. counts_now j c) (λ j c z. counts_before j c) (λ c z. d.count c)
    where
      seen : sees (meaning_in (state_of p)) k a ≡ Some (decode (p.table.word k) a)
      seen = ap (λ b. over (cond b (Some (decode (p.table.word k) a)) None) ((meaning_in (state_of p)).image a)) held

  -- no extent was taken
  pub rest_counted : xs ≡ [] → IsCounted (meaning_in (state_of p)) (counts_of (turned_to p k new))
  rest_counted none =
      counted_rest (meaning_in (state_of p)) (counts_of p) (counts_of (turned_to p k new)) f.counted
      (λ i j c. put_still (λ j x. of_class c x.taken) k new.draft p.drafts (ap (of_class c) taken_same) i j)
      (λ i j c. counts_before j c i)
      (λ c l. let n = d.count c in let e = ap (of_class c) none in omega (arith, n, e))
    where
      taken_same : new.draft.taken ≡ (p.drafts k).taken
      taken_same = d.taken ∙ ap (λ ys. (p.drafts k).taken ++ ys) none ∙ append-nil (p.drafts k).taken

  -- ---- what it means

  -- of any account of whose the places are: what is spare is nobody's, and the words are those of the record at a
  pub record Rewritten (own role : Words) (a : ℕ) (r : Rec) : Type 0 where
    pub part : ℕ → ℕ
    pub stocks : Stocks own (state_of p) (spare_at new.table) new.table.reserved
    pub rewrites : Rewrites own role (stock (state_of p)) k a w t (extents_at xs) part
    pub means : decode w a ≡ r

  -- the records that the segment sees
  abbrev pub seen_there : ℕ → Bool
  seen_there b = get_or p.present b false || in_hand k (p.drafts k) b

  pub was_indexed : (a : ℕ) → in_hand k (p.drafts k) a ≡ true → kind_by (p.table.word k) a ≡ Dict
      → IsIndexed (p.table.word k) a
  unfolding state_of
  was_indexed a held = f.indexed.now k a (or_right (get_or p.present a false) _ held)

  module _ (a : ℕ) (held : in_hand k (p.drafts k) a ≡ true) where
    -- the indexes are right, of this record too
    written_indexed : (y : Rec) → ((own role : Words) → Sound own role (state_of p) → Rewritten own role a y)
        → ((own role : Words) → Sound own role (state_of p) → KeepsFixed (sees (meaning_in (state_of p)) k)
        (sees (meaning_in (writes k w t (extents_at xs) (stock (state_of p)))) k))
        → Renews seen_there (p.table.word k) w a y → HasIndexes (writes k w t (extents_at xs) (stock (state_of p)))
    unfolding state_of meaning_in
    written_indexed y h fixed right = ∥∥₁_elim f.sound (indexes_prop _) (λ x. ∥∥₁_elim f.keyed (indexes_prop _) (λ q.
        let r = h x.0 x.1.0 x.1.1 in
        let z : Sound x.0 x.1.0 (stock (state_of p)) =
        stocked_sound x.0 x.1.0 (state_of p) (spare_at new.table) new.table.reserved x.1.1 r.stocks in
        let stays = fixed x.0 x.1.0 x.1.1 in
        writes_indexed x.0 x.1.0 (stock (state_of p)) k a w t (extents_at xs) r.part z held r.rewrites stays (q.now k)
        (right (subst HasKeys (seen_words x.0 x.1.0 (stock (state_of p)) k z) (q.now k))
        (writes_same x.0 x.1.0 (stock (state_of p)) k a w t (extents_at xs) r.part z held r.rewrites stays) r.means)
        (stocked_indexed (state_of p) (spare_at new.table) new.table.reserved f.indexed)))

    went : (g : Rec → Rec) (own role : Words) → Sound own role (state_of p) →
        Rewritten own role a (g (decode (p.table.word k) a))
        → Went (writes k w t (extents_at xs) (stock (state_of p))) (after_change k a g (meaning_in (state_of p)))
    unfolding state_of meaning_in
    went g own role s r =
        let z : Sound own role (stock (state_of p)) = stocked_sound own role (state_of p) (spare_at new.table)
        new.table.reserved s r.stocks in
        record {
          own = owned (extents_at xs) a own;
          role = parted (extents_at xs) r.part role;
          sound = writes_sound own role (stock (state_of p)) k a w t (extents_at xs) r.part z held r.rewrites;
          means = writes_means own role (stock (state_of p)) k a w t (extents_at xs) r.part z held r.rewrites g r.means;
        }

    pub turn_leaves : (g : Rec → Rec) → k < p.table.segments
        → ((own role : Words) → Sound own role (state_of p) → Rewritten own role a (g (decode (p.table.word k) a)))
        → IsStore new.table.reserved (after_change k a g (meaning_in (state_of p)))
        → ((c : ℕ) → 1 ≤ c → extents (g (decode (p.table.word k) a)) c
        ≡ extents (decode (p.table.word k) a) c + of_class c xs)
        → ∥ IsKeyed (after_change k a g (meaning_in (state_of p))) ∥₁
        → KeepsFixed (sees (meaning_in (state_of p)) k) (sees (after_change k a g (meaning_in (state_of p))) k)
        → Renews seen_there (p.table.word k) w a (g (decode (p.table.word k) a))
        → Leaves (turned_to p k new) (after_change k a g (meaning_in (state_of p)))
    turn_leaves g l h known more keyed fixed right =
        leaves_of p (turned_to p k new) (writes k w t (extents_at xs) (stock (state_of p)))
        (after_change k a g (meaning_in (state_of p))) f (fits_turned l) state_turned
        (λ own role s. went g own role s (h own role s)) known (change_counted a g l held more) keyed
        (written_indexed (g (decode (p.table.word k) a)) h
        (λ own role s. subst (λ m. KeepsFixed (sees (meaning_in (state_of p)) k) (sees m k))
        (sym (went g own role s (h own role s)).means) fixed) right)

    -- the words are what they were
    same_means : (s : State) → (s.now k).word ≡ w → meaning_in (writes k w t (extents_at xs) (stock s)) ≡ meaning_in s
    unfolding meaning_in
    same_means s e = let h = put_still (λ j x. heap_of x.holds x.word) k (written w t (extents_at xs) (s.now k)) s.now
        (λ i. heap_of (s.now k).holds (sym e i)) in
        λ i. record (meaning_in s) { part = λ j. record (part_in s j) { changes = h i j } }

    stayed : (own role : Words) → Sound own role (state_of p) → p.table.word k ≡ w → Rewritten own role a (decode w a)
        → Went (writes k w t (extents_at xs) (stock (state_of p))) (meaning_in (state_of p))
    unfolding state_of
    stayed own role s e r =
        let z : Sound own role (stock (state_of p)) = stocked_sound own role (state_of p) (spare_at new.table)
        new.table.reserved s r.stocks in
        record {
          own = owned (extents_at xs) a own;
          role = parted (extents_at xs) r.part role;
          sound = writes_sound own role (stock (state_of p)) k a w t (extents_at xs) r.part z held r.rewrites;
          means = same_means (state_of p) e;
        }

    pub stay_leaves : k < p.table.segments → p.table.word k ≡ w
        → ((own role : Words) → Sound own role (state_of p) → Rewritten own role a (decode w a))
        → IsStore new.table.reserved (meaning_in (state_of p)) → xs ≡ []
        → Leaves (turned_to p k new) (meaning_in (state_of p))
    stay_leaves l e h known none = leaves_of p (turned_to p k new) (writes k w t (extents_at xs) (stock (state_of p)))
        (meaning_in (state_of p)) f (fits_turned l) state_turned (λ own role s. stayed own role s e (h own role s))
        known (rest_counted none) f.keyed
        (written_indexed (decode w a) h
        (λ own role s. subst (λ m. KeepsFixed (sees (meaning_in (state_of p)) k) (sees m k))
        (sym (stayed own role s e (h own role s)).means) (λ b r x y. x))
        (λ keys same means. subst (λ v. kind_by v a ≡ Dict → IsIndexed v a) e (was_indexed a held)))
