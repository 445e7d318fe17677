-- A segment's record grows, on a store's fields; or the growth is refused.
use Rattle.std.proofs.Common.{get_or, ◌||◌, ◌≡◌, ◌⊎◌, ℕ, ◌+◌, ◌*◌, ◌<◌, ◌≤◌, true, List, [], length, inl, inr, refl, sym, ◌∙◌, ap, subst, arith, false}
use Rattle.std.proofs.Math.Logic.{∥∥₁_map}
use Rattle.std.proofs.lemmas.Bool.{cases_Bool, lt-ltb}
use Rattle.py_data.specs.declared.change.Change.{Change}
use Rattle.py_data.specs.declared.value.Value.{Value}
use Rattle.py_data.specs.Changes.{after}
use Rattle.py_data.specs.Heap.{Rec}
use Rattle.seg_store.specs.Extents.{extents}
use Rattle.seg_store.specs.Meaning.{sees, holds}
use Rattle.seg_store.specs.Calls.{after_change}
use Rattle.seg_store.specs.Store.{CanChange}
use Rattle.page_table.specs.Pages.{Table, limit}
use Rattle.paged_store.specs.declared.extent.Extent.{Extent}
use Rattle.paged_store.specs.Words.{Words, in_span, decode, count_by, index_by, index_size, in_head}
use Rattle.paged_store.specs.inner.Formed.{Formed, Lays}
use Rattle.paged_store.specs.State.{meaning_in}
use Rattle.paged_store.specs.inner.Sound.{Sound}
use Rattle.paged_store.specs.inner.Moves.{nowhere, never, Stocks}
use Rattle.paged_store.specs.Paged.{Paged, state_of, extents_at, spare_at}
use Rattle.paged_store.specs.inner.Fine.{of_class, Fine}
use Rattle.paged_store.specs.inner.Growing.{grown_with, grown_extents, Grew, Ungrown}
use Rattle.paged_store.specs.inner.Writing.{Desk, Wrote, MayWrite, CanPut, with_words, next_body_size, next_index_size}
use Rattle.paged_store.specs.inner.Indexing.{Puts}
use Rattle.paged_store.specs.inner.Written.{Changed}
use Rattle.paged_store.proofs.SpanLemmas.{span_bounds}
use Rattle.paged_store.proofs.StateLemmas.{none_or_some}
use Rattle.paged_store.proofs.Keeping.{change_kept}
use Rattle.paged_store.proofs.FineLemmas.{known_of, Leaves}
use Rattle.paged_store.proofs.IndexFrame.{Renews}
use Rattle.paged_store.proofs.LookCalls.{in_hand}
use Rattle.paged_store.proofs.KeyedLemmas.{keyed_change, fixed_change}
use Rattle.paged_store.proofs.PutLemmas.{words_at, words_then, can_still}
use Rattle.paged_store.proofs.WriteLemmas.{put_wrote}
use Rattle.paged_store.proofs.SlotWrites.{puts_none}
use Rattle.paged_store.proofs.ReindexLemmas.{changed_again}
use Rattle.paged_store.proofs.WriteCall.{Turns, Rewritten, turned_to, turn_leaves, stay_leaves, extents_some}
use Rattle.paged_store.proofs.ChangeCall.{is_held, still_store}
use Rattle.paged_store.proofs.TakeCall.{Freed, turned_then, may_taken, may_extent, mid_before, took, took_freed}
use Rattle.paged_store.proofs.GrownWords.{part, on_either, on_index, off_extents, with_off}

-- a record has grown, and then words were put into its index
pub record Filled (k a : ℕ) (vs : List Value) (old new : Desk) : Type 0 where
  pub mid : Desk
  pub grew : Grew k a vs old mid
  pub puts : Puts k grew.index (next_index_size (old.table.word k) a) mid.table new.table
  pub draft : new.draft ≡ mid.draft

-- none were put
pub not_filled : (k a : ℕ) (vs : List Value) (old new : Desk) → Grew k a vs old new → Filled k a vs old new
not_filled k a vs old new g = record {
  mid = new;
  grew = g;
  puts = puts_none k g.index (next_index_size (old.table.word k) a) new.table;
  draft = refl;
}

module _ (p : Paged) (k a : ℕ) (f : Fine p) (l : k < p.table.segments)
    (held : holds ((meaning_in (state_of p)).part k) a ≡ true) where
  abbrev old : Desk
  old = record { table = p.table; draft = p.drafts k }

  abbrev w : Words
  w = p.table.word k

  pub head_is_held : (own role : Words) → Sound own role (state_of p) → Lays own role w a × Formed w a
  unfolding state_of
  head_is_held own role g = let h = is_held p k a f l held old in ((g.now k).lays a h, (g.now k).formed a h)

  -- ---- the record has grown

  module _ (vs : List Value) (mid : Desk) (g : Grew k a vs old mid) where
    abbrev pub taken_extents : List Extent
    taken_extents = grown_extents w a g.body g.index

    abbrev pub now : Words
    now = grown_with w a g.body g.index vs

    pub taken_turns : Turns k w (in_head a) taken_extents old g.taken
    taken_turns = took p k f w (in_head a) taken_extents g.ready g.taken g.readied.wrote g.takes

    same_words : w ≡ g.taken.table.word k
    same_words = sym (λ i q. taken_turns.word q i)

    room_then : 2 * (count_by w a + length vs) ≤ next_body_size w a
    room_then = let P : Words → Type 0 = λ v. 2 * (count_by v a + length vs) ≤ next_body_size v a in
        subst P (sym same_words) g.can.grows.room

    body_ends : g.body + next_body_size w a ≤ g.taken.table.reserved
    body_ends = let P : Words → Type 0 = λ v. g.body + next_body_size v a ≤ g.taken.table.reserved in
        subst P (sym same_words) g.can.may_body.within

    index_ends : g.index + next_index_size w a ≤ g.taken.table.reserved
    index_ends = let P : Words → Type 0 = λ v. g.index + next_index_size v a ≤ g.taken.table.reserved in
        subst P (sym same_words) g.can.may_index.within

    before_fits : g.ready.draft.taken_before ≤ length g.ready.draft.taken
    before_fits = mid_before p k f w (in_head a) taken_extents g.ready g.taken g.readied.wrote g.takes

    some_extent : (q : ℕ) → 0 < extents_at taken_extents q → MayWrite k g.taken q
    some_extent q h = may_extent k taken_extents g.ready g.taken g.takes before_fits q
        (elim (on_either w a g.body g.index q h) [
          | inl x ↦ (let b = span_bounds g.body (next_body_size w a) q x in let r = b.1 in omega (arith, r, body_ends))
          | inr x ↦ (let b = span_bounds g.index (next_index_size w a) q x in let r = b.1 in
              omega (arith, r, index_ends))
        ])
        (extents_some taken_extents q ∙ lt-ltb 0 (extents_at taken_extents q) h)

    may_now : (q : ℕ) → (now q ≡ g.taken.table.word k q) ⊎ MayWrite k g.taken q
    may_now q = elim (cases_Bool (in_head a q)) [
      | inl x ↦ inr (may_taken k taken_extents g.ready g.taken g.takes before_fits q (g.readied.may q x))
      | inr x ↦ elim (none_or_some (extents_at taken_extents q)) [
        | inl z ↦ inl (with_off w a g.body g.index vs q room_then x z ∙ ap (λ (v : Words). v q) same_words)
        | inr z ↦ inr (some_extent q z)
      ]
    ]

    pub puts_now : mid ≡ record g.taken { table = with_words k now g.taken.table }
    puts_now = g.puts ∙ (λ i. record g.taken
        { table = with_words k (grown_with (sym same_words i) a g.body g.index vs) g.taken.table })

    pub word_now : mid.table.word k ≡ now
    word_now = ap (λ (d : Desk). d.table.word k) puts_now ∙ words_at k now g.taken.table

    pub reserved_now : mid.table.reserved ≡ g.taken.table.reserved
    reserved_now = ap (λ (d : Desk). d.table.reserved) puts_now

    -- the pages of the index are the segment's own
    pub may_index_now : CanPut k g.index (next_index_size w a) mid.table
    may_index_now = let P : Words → Type 0 = λ v. CanPut k g.index (next_index_size v a) g.taken.table in
        can_still k g.index (next_index_size w a) now g.taken.table mid.table (ap (λ (d : Desk). d.table) puts_now)
        (subst P (sym same_words) g.can.may_index)

    -- the places of the extents were nobody's
    pub freed_now : (own role : Words) → Sound own role (state_of p) →
        Freed own (state_of p) (extents_at taken_extents) (spare_at g.taken.table) g.taken.table.reserved
    freed_now own role s = took_freed p k f w (in_head a) taken_extents g.ready g.taken g.readied.wrote g.takes own role
        s

  -- ---- nothing was written

  module _ (new : Desk) (most : new.table.reserved ≤ limit new.table) where
    limit_is : (meaning_in (state_of p)).limit ≡ limit p.table
    unfolding meaning_in state_of
    limit_is = refl

    module _ (u : Ungrown k a old new) where
      pub ungrown_turns : Turns k w u.refused.touched [] old new
      ungrown_turns = took p k f w u.refused.touched [] u.between new u.refused.wrote u.takes

      unwritten : (own role : Words) → Sound own role (state_of p) →
          Rewritten p k new w u.refused.touched [] f ungrown_turns own role a (decode w a)
      unfolding state_of
      unwritten own role g =
          let z = took_freed p k f w u.refused.touched [] u.between new u.refused.wrote u.takes own role g in
          let h = head_is_held own role g in record {
            part = never;
            stocks = z.stocks;
            rewrites = record {
              once = z.once;
              free = z.free;
              untouched = λ q x y. refl;
              touches = λ q x. (h.0.head q (u.refused.within q x)).0;
              lays = h.0;
              formed = h.1;
            };
            means = refl;
          }

      pub ungrown_leaves : Leaves (turned_to p k new) (meaning_in (state_of p))
      ungrown_leaves = stay_leaves p k new w u.refused.touched [] f ungrown_turns a (is_held p k a f l held new) l refl
          unwritten
          (still_store p.table.reserved new.table.reserved (meaning_in (state_of p)) (known_of p f)
          (let e = ungrown_turns.pages in omega (arith, most, e, limit_is))) refl

    -- ---- the record has grown, and words were put into its index

    module _ (vs : List Value) (h : Filled k a vs old new) where
      abbrev grown : Words
      grown = now vs h.mid h.grew

      abbrev pub filled : Words
      filled = new.table.word k

      abbrev extents_then : List Extent
      extents_then = taken_extents vs h.mid h.grew

      off_index : (q : ℕ) → in_span h.grew.index (next_index_size w a) q ≡ false → filled q ≡ grown q
      off_index q x = h.puts.off q x ∙ ap (λ (v : Words). v q) (word_now vs h.mid h.grew)

      may_then : (q : ℕ) → (filled q ≡ h.grew.taken.table.word k q) ⊎ MayWrite k h.grew.taken q
      may_then q = elim (cases_Bool (in_span h.grew.index (next_index_size w a) q)) [
        | inl x ↦ inr (some_extent vs h.mid h.grew q (on_index w a h.grew.body h.grew.index q x))
        | inr x ↦ elim (may_now vs h.mid h.grew q) [ inl e ↦ inl (off_index q x ∙ e) | inr m ↦ inr m ]
      ]

      puts_then : record h.grew.taken { table = with_words k filled h.grew.taken.table } ≡ new
      puts_then =
          let t : Table = h.grew.taken.table in
          let table : new.table ≡ with_words k filled t =
          words_then k grown (λ v. filled) t h.mid.table new.table
          (ap (λ (d : Desk). d.table) (puts_now vs h.mid h.grew)) h.puts.same in
          let draft : new.draft ≡ h.grew.taken.draft =
          h.draft ∙ ap (λ (d : Desk). d.draft) (puts_now vs h.mid h.grew) in
          sym (λ i. record { table = table i; draft = draft i })

      pub grown_turns : Turns k filled (in_head a) extents_then old new
      grown_turns = let P : Desk → Type 0 = λ d. Wrote k filled nowhere h.grew.taken d in
          turned_then k w filled (in_head a) nowhere extents_then old h.grew.taken new (taken_turns vs h.mid h.grew)
          (subst P puts_then (put_wrote k filled h.grew.taken may_then))

      -- words that stand for another record once it has the extents
      abbrev pub GrowsTo : Words → Rec → Type 0
      GrowsTo v r = (own role : Words) → Lays own role w a → ((q : ℕ) → 0 < extents_at extents_then q → own q ≡ 0)
          → ((q : ℕ) → extents_at extents_then q ≤ 1)
          → Changed own role w v a (extents_at extents_then) (part w a h.grew.body h.grew.index) r

      -- so they do whatever the words of the index are
      pub grows_then : (r : Rec)
          → ((own role : Words) → Lays own role w a → ((q : ℕ) → 0 < extents_at extents_then q → own q ≡ 0)
          → ((q : ℕ) → extents_at extents_then q ≤ 1)
          → (index_by grown a ≡ h.grew.index) × (index_size grown a ≡ next_index_size w a))
          → GrowsTo grown r → GrowsTo filled r
      grows_then r at to own role lays fresh once =
          let e = at own role lays fresh once in
          changed_again own role w grown filled a (extents_at extents_then) (part w a h.grew.body h.grew.index) r
          (to own role lays fresh once) (λ q x. off_index q ((λ i. in_span (sym e.0 i) (sym e.1 i) q) ∙ x))

      regrown : (r : Rec) → GrowsTo filled r → (own role : Words) → Sound own role (state_of p)
          → Rewritten p k new filled (in_head a) extents_then f grown_turns own role a r
      unfolding state_of
      regrown r to own role s =
          let z = freed_now vs h.mid h.grew own role s in
          let q0 = head_is_held own role s in
          let c = to own role q0.0 (λ q x. (z.free q x).0) z.once in
          record {
            part = part w a h.grew.body h.grew.index;
            stocks = (let P : Table → Type 0 = λ u. Stocks own (state_of p) (spare_at u) u.reserved in
                subst P (ap (λ (d : Desk). d.table) puts_then) z.stocks);
            rewrites = record {
              once = z.once;
              free = (let P : Table → Type 0 = λ u. (q : ℕ) → 0 < extents_at extents_then q →
                  (own q ≡ 0) × (spare_at u q ≡ 0) × (q < u.reserved) in
                  subst P (ap (λ (d : Desk). d.table) puts_then) z.free);
              untouched = λ q x y. off_index q (off_extents w a h.grew.body h.grew.index q y).1
                  ∙ with_off w a h.grew.body h.grew.index vs q (room_then vs h.mid h.grew) x y;
              touches = λ q x. (q0.0.head q x).0;
              lays = c.lays;
              formed = c.formed;
            };
            means = c.means;
          }

      pub grown_leaves : (c : Change) → CanChange (sees (meaning_in (state_of p)) k) a c
          → GrowsTo filled (after c (decode w a))
          → ((n : ℕ) → 1 ≤ n → extents (after c (decode w a)) n ≡ extents (decode w a) n + of_class n extents_then)
          → Renews (λ b. get_or p.present b false || in_hand k (p.drafts k) b) (p.table.word k) filled a
          (after c (decode w a))
          → Leaves (turned_to p k new) (after_change k a (after c) (meaning_in (state_of p)))
      grown_leaves c can to more right = turn_leaves p k new filled (in_head a) extents_then f grown_turns a
          (is_held p k a f l held new) (after c) l
          (regrown (after c (decode w a)) to)
          (change_kept p.table.reserved new.table.reserved k (meaning_in (state_of p)) (known_of p f)
          (let e = grown_turns.pages in omega (arith, most, e, limit_is)) a c held can) more
          (∥∥₁_map f.keyed (λ q. keyed_change (meaning_in (state_of p)) k a c q can))
          ((fixed_change (meaning_in (state_of p)) k a c can).now k) right
