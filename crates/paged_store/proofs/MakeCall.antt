-- A segment makes a record, on a store's fields.
use Rattle.std.proofs.Common.{◌≡◌, ◌≢◌, ◌⊎◌, ℕ, ◌+◌, ◌*◌, ◌<◌, ◌≤◌, ◌^◌, Bool, true, false, ◌||◌, cond, eqb, List, [], ◌∷◌, ◌++◌, length, take, drop, Some, inl, inr, refl, sym, ◌∙◌, ap, subst, arith, length-append, get_or, ◌%◌}
use Rattle.std.proofs.Props.{props}
use Rattle.std.proofs.Math.Logic.{∥∥₁_elim, ∥∥₁_map}
use Rattle.std.proofs.lemmas.Bool.{both_ways, or_left, or_parts, lt-ltb}
use Rattle.std.proofs.lemmas.List.{append-nil, take-append-le, drop-append-le, take-append-drop}
use Rattle.py_data.specs.declared.record.Record.{Record}
use Rattle.py_data.specs.Made.{rec_of}
use Rattle.py_data.specs.Shape.{IsShaped}
use Rattle.py_data.specs.Sight.{mem}
use Rattle.py_data.proofs.Grow.{mem_append}
use Rattle.seg_store.specs.Meaning.{sees}
use Rattle.seg_store.specs.Calls.{after_make}
use Rattle.seg_store.specs.Store.{IsFree, OneList}
use Rattle.seg_store.specs.Extents.{extents}
use Rattle.dict_index.specs.Laws.{KeepsFixed}
use Rattle.seg_store.proofs.Sees.{mem_last, other_number}
use Rattle.page_table.specs.Pages.{Table, limit}
use Rattle.paged_store.specs.declared.extent.Extent.{Extent}
use Rattle.paged_store.specs.Words.{Words, in_span, size_of, in_head}
use Rattle.paged_store.specs.State.{State, meaning_in}
use Rattle.paged_store.specs.inner.Sound.{Sound}
use Rattle.paged_store.specs.inner.Counted.{IsCounted}
use Rattle.paged_store.specs.inner.Indexed.{HasIndexes}
use Rattle.paged_store.specs.inner.Indexing.{Puts}
use Rattle.paged_store.specs.inner.Keyed.{HasKeys}
use Rattle.paged_store.specs.inner.Moves.{put, nowhere, with_held, written, owned, parted, Rewrites, makes}
use Rattle.paged_store.specs.Paged.{Drafted, Paged, state_of, extents_at, one_if, spare_at, hand_now, hand_before, taken_then}
use Rattle.paged_store.specs.inner.Fine.{of_class, sum_to, counts_of, FitsTable, Fits, Fine}
use Rattle.paged_store.specs.inner.Taking.{Takes}
use Rattle.paged_store.specs.inner.Written.{Changed}
use Rattle.paged_store.specs.inner.Making.{made_length, body_class, index_class, made_extents, made_words, FitsRecord, FitsBody, Places}
use Rattle.paged_store.specs.inner.Writing.{Desk, Wrote, MayWrite, with_words}
use Rattle.paged_store.proofs.SpanLemmas.{span_bounds, head_first}
use Rattle.paged_store.proofs.MemLemmas.{one_more, made_more}
use Rattle.paged_store.proofs.HolderLemmas.{held_in, names_more}
use Rattle.paged_store.proofs.OverLemmas.{over_each, put_over, put_self, put_still}
use Rattle.paged_store.proofs.StateLemmas.{none_or_some, put_each, put_two}
use Rattle.paged_store.proofs.StockMove.{stocked_sound}
use Rattle.paged_store.proofs.MakeMove.{makes_sound, makes_means}
use Rattle.paged_store.proofs.Keeping.{make_kept}
use Rattle.paged_store.proofs.FineLemmas.{known_of, Leaves, Went, leaves_of}
use Rattle.paged_store.proofs.SightLemmas.{seen_words, free_meaning}
use Rattle.paged_store.proofs.LookCalls.{in_hand}
use Rattle.paged_store.proofs.CountLemmas.{counted_make}
use Rattle.paged_store.proofs.KeyedLemmas.{keyed_make, fixed_make}
use Rattle.paged_store.proofs.IndexedLemmas.{indexes_prop, stocked_indexed, makes_same, makes_indexed}
use Rattle.paged_store.proofs.IndexFrame.{Renews}
use Rattle.paged_store.proofs.CountCalls.{now_put}
use Rattle.paged_store.proofs.EndLemmas.{now_by, before_by, put_others, class_both}
use Rattle.paged_store.proofs.WriteLemmas.{put_wrote}
use Rattle.paged_store.proofs.WriteCall.{Turns, grown_fits, extents_some, fits_turned, extents_then, hand_turned, before_turned, stock}
use Rattle.paged_store.proofs.TakeCall.{Freed, turned_then, may_extent, took, took_freed}
use Rattle.paged_store.proofs.PutLemmas.{words_at, words_then}
use Rattle.paged_store.proofs.MadeWords.{part, e_of, index_off, index_is, made_off, made_changed}
use Rattle.paged_store.proofs.ReindexLemmas.{changed_again}
use Rattle.paged_store.proofs.GrowTakes.{next_even}
use Rattle.paged_store.specs.inner.Claiming.{extent_for}

pub limit_of : (p : Paged) → (meaning_in (state_of p)).limit ≡ limit p.table
unfolding meaning_in state_of
limit_of p = refl

-- nothing was written
pub wrote_none : (k : ℕ) (d : Desk) → Wrote k (d.table.word k) nowhere d d
wrote_none k d = record {
  same = record {
    shared = refl;
    others = λ j n. refl;
    shelf = refl;
    reserved = refl;
    pages = refl;
    segments = refl;
    own = λ j q h. h;
    changed = refl;
    made = refl;
    taken = refl;
    taken_before = refl;
    made_before = refl;
    spans_before = refl;
    more_spans = [];
    spans = sym (append-nil d.draft.spans);
    more_notes = [];
    notes = sym (append-nil d.draft.notes);
  };
  word = λ q. refl;
  before = λ q. refl;
  spans = λ q. refl;
  fits = λ n f. f;
}

-- the draft has made a record besides
abbrev with_made : ℕ → Drafted → Drafted
with_made a d = record d { made = d.made ++ a ∷ [] }

made_fits : (t : Table) (n k a : ℕ) (d : Drafted) → FitsTable t n k d → a < n → in_hand k d a ≡ false →
    FitsTable t n k (with_made a d)
made_fits t n k a d f l free = record {
  spans = f.spans;
  taken = f.taken;
  classes = f.classes;
  notes = f.notes;
  noted_touched = f.noted_touched;
  holds = λ b h. one_more (λ x. x < n) a b (in_hand k d b) (made_more a b (in_hand k d b) d.changed d.made refl ∙ h) l
      (f.holds b);
  spans_before = f.spans_before;
  taken_before = f.taken_before;
  made_before = (let m = f.made_before in let e = length-append d.made (a ∷ []) in omega (arith, m, e));
  once = λ b h. once b (ap (mem b) (sym (take-append-le d.made_before d.made (a ∷ []) f.made_before)) ∙ h);
}
  where
    not_made : mem a d.made ≡ false
    not_made = (or_parts (mem a d.changed) (mem a d.made) free).1

    was_made : (b : ℕ) → mem b (take d.made_before d.made) ≡ true → mem b d.made ≡ true
    was_made b h = ap (mem b) (sym (take-append-drop d.made_before d.made)) ∙
        mem_append b (take d.made_before d.made) (drop d.made_before d.made) ∙ or_left _ _ h

    once : (b : ℕ) → mem b (take d.made_before d.made) ≡ true → mem b (drop d.made_before (d.made ++ a ∷ [])) ≡ false
    once b h = ap (mem b) (drop-append-le d.made_before d.made (a ∷ []) f.made_before)
        ∙ mem_last b a (drop d.made_before d.made)
        ∙ ap (λ t. t || mem b (drop d.made_before d.made))
        (other_number b a (λ e. both_ways (mem a d.made) not_made (ap (λ x. mem x d.made) (sym e) ∙ was_made b h)))
        ∙ f.once b h

module _ (p : Paged) (k a : ℕ) (f : Fine p) (l : k < p.table.segments) (r : Record) (placed : Desk)
    (z : Places k a r (record { table = p.table; draft = p.drafts k }) placed) (fits : FitsBody r) where
  abbrev old : Desk
  old = record { table = p.table; draft = p.drafts k }

  abbrev w : Words
  w = p.table.word k

  abbrev xs : List Extent
  xs = made_extents r (2 * a) z.body z.index

  abbrev e : ℕ → ℕ
  e = extents_at xs

  abbrev now : Words
  now = made_words w a z.body z.index r

  taken : Takes k xs old z.taken
  taken = let P : ℕ → Type 0 = λ h. Takes k (made_extents r h z.body z.index) old z.taken in subst P z.is z.takes

  pub taken_turns : Turns k w nowhere xs old z.taken
  taken_turns = took p k f w nowhere xs old z.taken (wrote_none k old) taken

  same_words : w ≡ z.taken.table.word k
  same_words = sym (λ i q. taken_turns.word q i)

  some_extent : (q : ℕ) → 0 < e q → MayWrite k z.taken q
  some_extent q h = may_extent k xs old z.taken taken (f.fits.drafts k).taken_before q
      (by_place (in_head a q) (in_span z.body (size_of (body_class r)) q) (in_span z.index (size_of (index_class r)) q)
      refl refl refl)
      (extents_some xs q ∙ lt-ltb 0 (e q) h)
    where
      by_place : (x y i : Bool) → in_head a q ≡ x → in_span z.body (size_of (body_class r)) q ≡ y →
          in_span z.index (size_of (index_class r)) q ≡ i
          → q < z.taken.table.reserved
      by_place true y i hx hy hi = (let b = (span_bounds (2 * a) 4 q hx).1 in let u = z.head_within in let v = z.is in
          omega (arith, b, u, v))
      by_place false true i hx hy hi = (let b = (span_bounds z.body (size_of (body_class r)) q hy).1 in let u =
          z.body_within in omega (arith, b, u))
      by_place false false true hx hy hi =
          (let b = (span_bounds z.index (size_of (index_class r)) q hi).1 in let u = z.index_within in
          omega (arith, b, u))
      by_place false false false hx hy hi = absurd (let s = e_of w a z.body z.index r q in
          let x = ap one_if hx in let y = ap one_if hy in let i = ap one_if hi in omega (arith, s, x, y, i, h))

  pub placed_is : placed.table.word k ≡ now
  placed_is = ap (λ (d : Desk). d.table.word k) z.puts
      ∙ words_at k (made_words (z.taken.table.word k) a z.body z.index r) z.taken.table
      ∙ (λ i. made_words (sym same_words i) a z.body z.index r)

  pub placed_off : (q : ℕ) → e q ≡ 0 → placed.table.word k q ≡ w q
  placed_off q n = ap (λ (v : Words). v q) placed_is ∙ made_off w a z.body z.index r fits q n

  pub freed : (own role : Words) → Sound own role (state_of p) →
      Freed own (state_of p) e (spare_at z.taken.table) z.taken.table.reserved
  freed own role g = took_freed p k f w nowhere xs old z.taken (wrote_none k old) taken own role g

  head_taken : 0 < e (2 * a)
  head_taken = (let s = e_of w a z.body z.index r (2 * a) in let o = ap one_if (head_first a) in omega (arith, s, o))

  address : a ≢ 0
  address x = (let o = z.some in omega (arith, o, x))

  -- the address was free
  was_free : (own role : Words) → Sound own role (state_of p) → own (2 * a) ≡ 0
  was_free own role g = ((freed own role g).free (2 * a) head_taken).0

  pub free_there : IsFree (meaning_in (state_of p)) a
  free_there = ∥∥₁_elim f.sound (hlevel props)
      (λ x. free_meaning x.0 x.1.0 (state_of p) a x.1.1 address (was_free x.0 x.1.0 x.1.1))

  free_hands : (j : ℕ) → in_hand j (p.drafts j) a ≡ false
  unfolding meaning_in state_of
  free_hands j = free_there.held j

  -- ---- words of its index are others

  module _ (t : Table) (x : Puts k z.index (size_of (index_class r)) placed.table t) where
    abbrev new : Desk
    new = record { table = t; draft = placed.draft }

    abbrev v : Words
    v = t.word k

    v_off : (q : ℕ) → e q ≡ 0 → v q ≡ w q
    v_off q n = x.off q (index_off w a z.body z.index r q n) ∙ placed_off q n

    may_now : (q : ℕ) → (v q ≡ z.taken.table.word k q) ⊎ MayWrite k z.taken q
    may_now q = elim (none_or_some (e q)) [
      | inl n ↦ inl (v_off q n ∙ ap (λ (y : Words). y q) same_words)
      | inr n ↦ inr (some_extent q n)
    ]

    -- the desk but for the record that was made
    abbrev mid : Desk
    mid = record z.taken { table = with_words k v z.taken.table }

    pub mid_turns : Turns k v nowhere xs old mid
    mid_turns = turned_then k w v nowhere nowhere xs old z.taken mid taken_turns (put_wrote k v z.taken may_now)

    -- it is as that, but for the record that was made
    pub new_is : new ≡ record mid { draft = with_made a mid.draft }
    new_is = λ i. record {
      table = words_then k (made_words (z.taken.table.word k) a z.body z.index r) (λ y. v) z.taken.table placed.table t
          (ap (λ (d : Desk). d.table) z.puts) x.same i;
      draft = ap (λ (d : Desk). d.draft) z.puts i;
    }

    -- its body begins at an even place
    body_even : 0 < size_of (body_class r) → z.body % 2 ≡ 0
    body_even some = next_even 1 z.head (body_class r) z.body _ (extent_for (index_class r) z.index) some
        z.takes.claims.lie

    -- the words stand for the record
    v_changed : ((q : ℕ) → e q ≤ 1) → (own role : Words) → made_length r ≤ 2 ^ 20
        → OneList r.kind r.values r.bytes → FitsRecord r
        → Changed own role w v a e (part w a z.body z.index r) (rec_of r)
    v_changed once own role short one each = changed_again own role w now v a e (part w a z.body z.index r) (rec_of r)
        (made_changed w a z.body z.index r fits once own role short one each body_even)
        (λ q n. x.off q (sym (index_is w a z.body z.index r fits q) ∙ n) ∙ ap (λ (y : Words). y q) placed_is)

    -- ---- the fields

    module _ (within : a < length p.present) where
      abbrev draft : Drafted
      draft = with_made a mid.draft

      abbrev made_to : Paged
      made_to = record {
        table = mid.table;
        present = p.present;
        holder = put a (Some k) p.holder;
        looked = p.looked;
        drafts = put k draft p.drafts;
      }

      mid_free : in_hand k mid.draft a ≡ false
      mid_free = (λ i. mem a (mid_turns.changed i) || mem a (mid_turns.made i)) ∙ free_hands k

      fits_made : Fits made_to
      fits_made = record {
        drafts = put_each (λ j x. FitsTable mid.table (length p.present) j x) k draft p.drafts
            (made_fits mid.table (length p.present) k a mid.draft
            (mid_turns.fits (length p.present) (f.fits.drafts k)) within mid_free)
            (λ j n. grown_fits p.table mid.table (length p.present) j (p.drafts j) mid_turns.more mid_turns.own
            (f.fits.drafts j));
        holders = λ j b. names_more p.holder k a (λ i. f.fits.holders i a ∙ free_hands i) j b
            ∙ put_two (λ j g x. g b ≡ in_hand j x b) k (λ b. eqb b a || held_in p.holder k b) (held_in p.holder) draft
            p.drafts
            (made_more a b (held_in p.holder k b) mid.draft.changed mid.draft.made
            (f.fits.holders k b ∙ sym (λ i. mem b (mid_turns.changed i) || mem b (mid_turns.made i))))
            (λ j n. f.fits.holders j b) j;
        counted = λ c. subst (λ g. sum_to mid.table.segments g + length (mid.table.shelf c).spare ≤
            (mid.table.shelf c).total)
            (put_over (λ j x. of_class c x.taken) k mid.draft p.drafts ∙
            sym (put_over (λ j x. of_class c x.taken) k draft p.drafts))
            ((fits_turned p k mid v nowhere xs f mid_turns l).counted c);
      }

      -- ---- the state

      abbrev s : State
      s = stock p k mid v nowhere xs f mid_turns (state_of p)

      hand_made : hand_now mid.table k draft ≡ with_held a (written v nowhere e (hand_now p.table k (p.drafts k)))
      hand_made = (λ i. record (hand_now mid.table k mid.draft) {
        holds = λ b. sym (made_more a b (in_hand k mid.draft b) mid.draft.changed mid.draft.made refl) i;
      }) ∙ ap (with_held a) (hand_turned p k mid v nowhere xs f mid_turns)

      made_then : take draft.made_before draft.made ≡ take (p.drafts k).made_before (p.drafts k).made
      made_then = (λ i. take (mid_turns.made_before i) (mid_turns.made i ++ a ∷ []))
          ∙ take-append-le (p.drafts k).made_before (p.drafts k).made (a ∷ []) (f.fits.drafts k).made_before

      before_made : hand_before mid.table k draft ≡ hand_before p.table k (p.drafts k)
      before_made = (λ i. record (hand_before mid.table k mid.draft) {
        holds = λ b. mem b mid.draft.changed || mem b
            ((made_then ∙ sym (λ j. take (mid_turns.made_before j) (mid_turns.made j))) i);
      }) ∙ before_turned p k mid v nowhere xs f mid_turns

      state_made : state_of made_to ≡ makes k a v e s
      unfolding state_of
      state_made =
          (λ i. record (state_of made_to) {
            now = put_over (hand_now mid.table) k draft p.drafts i;
            before = put_over (hand_before mid.table) k draft p.drafts i;
            changed = put_still (λ j x. x.changed) k draft p.drafts mid_turns.changed i;
            made = put_over (λ j x. x.made) k draft p.drafts i;
            kept_made = put_still (λ j x. take x.made_before x.made) k draft p.drafts made_then i;
          })
          ∙ (λ i. record (makes k a v e s) {
            shared = mid_turns.shared i;
            now = (put_others k (hand_now mid.table k draft) (over_each (hand_now mid.table) p.drafts) s.now
                (λ j n. now_by p.table mid.table j (p.drafts j) (mid_turns.others j n))
                ∙ ap (λ x. put k x s.now) hand_made) i;
            before = (put_others k (hand_before mid.table k draft) (over_each (hand_before mid.table) p.drafts) s.before
                (λ j n. before_by p.table mid.table j (p.drafts j) mid_turns.shared (mid_turns.others j n))
                ∙ ap (λ x. put k x s.before) before_made ∙ put_self k (s.before k) s.before refl) i;
            made = put k (mid_turns.made i ++ a ∷ []) s.made;
            segments = mid_turns.segments i;
            limit = 512 * mid_turns.pages i;
          })

      -- ---- what it counts

      segment : k < (meaning_in (state_of p)).segments
      unfolding meaning_in state_of
      segment = l

      made_counted : ((c : ℕ) → 1 ≤ c → extents (rec_of r) c ≡ of_class c xs) → mid.table.reserved ≤ limit mid.table
          → IsCounted (after_make k a (rec_of r) (meaning_in (state_of p))) (counts_of made_to)
      made_counted more most = counted_make (meaning_in (state_of p)) (counts_of p) (counts_of made_to) k a (rec_of r)
          free_there f.counted segment
          (let x = mid_turns.pages in let y = limit_of p in let u = z.head_within in let o = z.is in
          omega (arith, most, x, y, u, o))
          (λ j c n. now_put k draft p.drafts j c ∙ ap (λ x. cond (eqb j k) x (of_class c (p.drafts j).taken))
          (ap (of_class c) mid_turns.taken ∙ class_both c (p.drafts k).taken xs
          ∙ ap (λ x. of_class c (p.drafts k).taken + x) (sym (more c n))))
          (λ j c n. ap (λ (g : ℕ → ℕ). g j) (put_still (λ j x. of_class c (taken_then x)) k draft p.drafts
          (ap (of_class c) (extents_then p k mid v nowhere xs f mid_turns))))
          (λ c n. let x = mid_turns.count c in let y = more c n in omega (arith, x, y))

      -- ---- what it means

      module _ (short : made_length r ≤ 2 ^ 20) (one : OneList r.kind r.values r.bytes) (each : FitsRecord r) where
        went : (own role : Words) → Sound own role (state_of p) →
            Went (makes k a v e s) (after_make k a (rec_of r) (meaning_in (state_of p)))
        unfolding state_of meaning_in
        went own role g =
            let h = freed own role g in
            let c = v_changed h.once own role short one each in
            let g1 : Sound own role s = stocked_sound own role (state_of p) (spare_at mid.table) mid.table.reserved g
            h.stocks in
            let made : Rewrites own role s k a v nowhere e (part w a z.body z.index r) = record {
              once = h.once;
              free = h.free;
              untouched = λ q x y. v_off q y;
              touches = λ q x. absurd (cc);
              lays = c.lays;
              formed = c.formed;
            } in record {
              own = owned e a own;
              role = parted e (part w a z.body z.index r) role;
              sound = makes_sound own role s k a v e (part w a z.body z.index r) g1 address (λ j. free_hands j) made;
              means = makes_means own role s k a v e (part w a z.body z.index r) g1 address (λ j. free_hands j) made
                  (rec_of r) c.means;
            }

        made_indexed : Renews (λ b. get_or p.present b false || in_hand k (p.drafts k) b) (p.table.word k) v a
            (rec_of r)
            → HasIndexes (makes k a v e s)
        unfolding state_of meaning_in
        made_indexed right = ∥∥₁_elim f.sound (indexes_prop _) (λ x. ∥∥₁_elim f.keyed (indexes_prop _) (λ q.
            let h = freed x.0 x.1.0 x.1.1 in
            let c = v_changed h.once x.0 x.1.0 short one each in
            let g : Sound x.0 x.1.0 s =
            stocked_sound x.0 x.1.0 (state_of p) (spare_at mid.table) mid.table.reserved x.1.1 h.stocks in
            let made : Rewrites x.0 x.1.0 s k a v nowhere e (part w a z.body z.index r) = record {
              once = h.once;
              free = h.free;
              untouched = λ q x y. v_off q y;
              touches = λ q x. absurd (cc);
              lays = c.lays;
              formed = c.formed;
            } in
            let stays = subst (λ m. KeepsFixed (sees (meaning_in (state_of p)) k) (sees m k))
            (sym (went x.0 x.1.0 x.1.1).means)
            ((fixed_make (meaning_in (state_of p)) k a (rec_of r) free_there).now k) in
            makes_indexed x.0 x.1.0 s k a v e (part w a z.body z.index r) g address (λ j. free_hands j) made stays
            (q.now k)
            (right (subst HasKeys (seen_words x.0 x.1.0 s k g) (q.now k))
            (makes_same x.0 x.1.0 s k a v e (part w a z.body z.index r) g address (λ j. free_hands j) made stays)
            c.means)
            (stocked_indexed (state_of p) (spare_at mid.table) mid.table.reserved f.indexed)))

        pub made_leaves : length r.values ≤ 2 ^ 20 → length r.bytes ≤ 2 ^ 20 → mid.table.reserved ≤ limit mid.table
            → ((c : ℕ) → 1 ≤ c → extents (rec_of r) c ≡ of_class c xs)
            → IsShaped (sees (meaning_in (state_of p)) k) (rec_of r)
            → Renews (λ b. get_or p.present b false || in_hand k (p.drafts k) b) (p.table.word k) v a
            (rec_of r)
            → Leaves made_to (after_make k a (rec_of r) (meaning_in (state_of p)))
        made_leaves short_values short_bytes most more shape right =
            leaves_of p made_to (makes k a v e s) (after_make k a (rec_of r) (meaning_in (state_of p))) f fits_made
            state_made went
            (make_kept p.table.reserved mid.table.reserved k (meaning_in (state_of p)) (known_of p f)
            (let x = mid_turns.pages in let y = limit_of p in omega (arith, most, x, y)) a (rec_of r) free_there
            (record { values = short_values; bytes = short_bytes; one = one }))
            (made_counted more most)
            (∥∥₁_map f.keyed (λ q. keyed_make (meaning_in (state_of p)) k a (rec_of r) free_there shape q))
            (made_indexed right)
