-- A segment makes a record, on a store's fields in memory.
use Rattle.std.proofs.Common.{◌≡◌, ◌≢◌, ◌⊎◌, ℕ, ◌+◌, ◌*◌, ◌^◌, ◌<◌, ◌≤◌, Bool, true, false, ◌||◌, cond, eqb, ltb, List, [], ◌∷◌, ◌++◌, length, Some, None, slice_index_or, slice_set, inl, inr, refl, sym, ◌∙◌, ap, subst, arith}
use Rattle.std.proofs.Math.Logic.{∥∥₁_map}
use Rattle.std.proofs.lemmas.Bool.Decides.{eqb_tells}
use Rattle.std.proofs.lemmas.List.{length-set}
use Rattle.py_base.specs.declared.kind.Kind.{Kind}
use Rattle.py_base.specs.declared.kind.Kind.TheVariants.{Str, Tuple, List as ListKind, Dict, Cell, Function, Class, Instance, Method, Iter, Range, Lock, Thread}
use Rattle.py_data.specs.declared.record.Record.{Record}
use Rattle.py_data.specs.declared.value.Value.{Value}
use Rattle.py_data.specs.Made.{rec_of}
use Rattle.py_data.specs.Heap.{Rec, Heap, has_bytes, length_by}
use Rattle.py_data.specs.Shape.{HasShape, OnlyStrings, IsShaped}
use Rattle.seg_store.specs.declared.store.StoreFault.{StoreFault}
use Rattle.seg_store.specs.declared.store.StoreFault.TheVariants.{Full, OutOfMemory}
use Rattle.seg_store.specs.Asking.{AsksFor}
use Rattle.seg_store.specs.Extents.{words_in, Wants}
use Rattle.seg_store.specs.Telling.{use_with, Rises, RisesTo, Fits, IsOver}
use Rattle.seg_store.specs.Meaning.{Meaning}
use Rattle.seg_store.specs.Meaning.{sees}
use Rattle.seg_store.specs.Calls.{after_make}
use Rattle.seg_store.specs.Store.{IsFree, NoneOf, OneList, Refuses}
use Rattle.dict_index.specs.Index.{IsBlank}
use Rattle.seg_marks.specs.Marks.{Marked, marks_of, holders_of, granules, SameSizes}
use Rattle.page_table.specs.Pages.{Table, limit}
use Rattle.page_table.specs.Lists.{Lists, table_of}
use Rattle.paged_store.specs.declared.draft.Draft.{Draft}
use Rattle.paged_store.specs.declared.store.PagedStore.{PagedStore}
use Rattle.paged_store.specs.Words.{Words, size_of, index_by, index_size}
use Rattle.paged_store.specs.inner.Indexed.{index_words, IsIndexed, HasIndexes}
use Rattle.paged_store.specs.inner.Indexing.{CanIndex, Puts}
use Rattle.paged_store.specs.inner.Formed.{words_for}
use Rattle.paged_store.specs.State.{Hand, State, meaning_in}
use Rattle.paged_store.specs.inner.Sound.{Sound}
use Rattle.paged_store.specs.inner.Moves.{put, nowhere, written}
use Rattle.paged_store.specs.Paged.{Paged, drafted, state_of, one_if, paged_by, extents_at}
use Rattle.paged_store.specs.inner.Fine.{Fine}
use Rattle.paged_store.specs.Stores.{paged_of, paged_meaning, peaks_of, Fills}
use Rattle.paged_store.specs.inner.Claiming.{times, RisesBy, Denies}
use Rattle.paged_store.specs.inner.Taking.{Takes}
use Rattle.paged_store.specs.inner.Making.{made_length, body_class, index_class, made_extents, FitsRecord, FitsBody, Places}
use Rattle.paged_store.specs.inner.Written.{made_class, made_index}
use Rattle.paged_store.specs.inner.Writing.{Desk, desk, with_words}
use Rattle.paged_store.proofs.OverLemmas.{put_self}
use Rattle.paged_store.proofs.MakeWords.{made_holds, dict_made}
use Rattle.paged_store.proofs.ExtentLemmas.{make_wants_header, make_wants_body, make_wants_index}
use Rattle.paged_store.proofs.StockMove.{stocked_sound}
use Rattle.paged_store.proofs.ExtentCounts.{made_extents_are}
use Rattle.paged_store.proofs.PeakLemmas.{made_classes, total_of, used_in, taken_rises, taken_fits, refused_rises, refused_over}
use Rattle.paged_store.proofs.FineLemmas.{known_of, Leaves, leaves_by}
use Rattle.paged_store.proofs.IndexedLemmas.{stocked_indexed}
use Rattle.paged_store.proofs.SegmentDrafts.{drafts_in, read_draft, set_draft}
use Rattle.paged_store.proofs.StoreCalls.{segment_in, SameTable, Stands as StoreStands, stands_after}
use Rattle.paged_store.proofs.StoreEnds.{table_segment}
use Rattle.paged_store.proofs.WriteCall.{Turns, turned_to, fits_turned, state_turned, stock, rest_counted}
use Rattle.paged_store.proofs.ChangeCall.{still_store}
use Rattle.paged_store.proofs.TakeCall.{took, took_freed}
use Rattle.paged_store.proofs.RecordWords.{kind_is}
use Rattle.paged_store.proofs.RiseLemmas.{rises_kept}
use Rattle.paged_store.proofs.MakeIndex.{made_can, made_empty, made_puts}
use Rattle.paged_store.proofs.MakeCall.{limit_of, wrote_none, free_there, made_leaves, new_is, mid_turns}

-- ---- nothing was taken

module _ (p : Paged) (k : ℕ) (f : Fine p) (l : k < p.table.segments) (new : Desk)
    (t : Takes k [] (record { table = p.table; draft = p.drafts k }) new) (most : new.table.reserved ≤ limit new.table)
  where
    abbrev old : Desk
    old = record { table = p.table; draft = p.drafts k }

    pub rest_turns : Turns k (p.table.word k) nowhere [] old new
    rest_turns = took p k f (p.table.word k) nowhere [] old new (wrote_none k old) t

    abbrev rest : State → State
    rest s = stock p k new (p.table.word k) nowhere [] f rest_turns s

    rested : (h : Hand) → written h.word nowhere (extents_at []) h ≡ h
    rested h = λ i. record h {
      touched = λ q. (let e : (nowhere q || (ltb 0 0 || h.touched q)) ≡ h.touched q = refl in e) i;
      taken = λ q. (let e : 0 + h.taken q ≡ h.taken q = omega arith in e) i;
    }

    state_rests : state_of (turned_to p k new) ≡ rest (state_of p)
    unfolding state_of
    state_rests = let s : State = rest (state_of p) in
        state_turned p k new (p.table.word k) nowhere [] f rest_turns
        ∙ (λ i. record s {
          now = put_self k (written (p.table.word k) nowhere (extents_at []) (s.now k)) s.now
              (rested (s.now k)) i;
        })

    sound_rests : (own role : Words) → Sound own role (state_of p) → Sound own role (rest (state_of p))
    sound_rests own role g = stocked_sound own role (state_of p) _ _ g
        (took_freed p k f (p.table.word k) nowhere [] old new (wrote_none k old) t own role g).stocks

    -- the words are what they were
    rests_indexed : HasIndexes (state_of p) → HasIndexes (rest (state_of p))
    rests_indexed i = stocked_indexed (state_of p) _ _ i

    pub rest_leaves : Leaves (turned_to p k new) (meaning_in (state_of p))
    unfolding meaning_in
    rest_leaves = leaves_by (turned_to p k new) (rest (state_of p)) (meaning_in (state_of p))
        (fits_turned p k new (p.table.word k) nowhere [] f rest_turns l) state_rests
        (∥∥₁_map f.sound (λ x. (x.0, (x.1.0, sound_rests x.0 x.1.0 x.1.1)))) refl
        (still_store p.table.reserved new.table.reserved (meaning_in (state_of p)) (known_of p f)
        (let e = rest_turns.pages in let y = limit_of p in omega (arith, most, e, y)))
        (rest_counted p k new (p.table.word k) nowhere [] f rest_turns refl) f.keyed (rests_indexed f.indexed)

-- where none can be made, what is ever new of a class rises at most to what would be in use with it
pub make_refused : (s : PagedStore) (u : Table) (r : Record) →
    RisesBy (2 ∷ body_class r ∷ index_class r ∷ []) (table_of s.pages) u
    → RisesTo (Some (peaks_of s)) (Some (λ n. (u.shelf n).total)) (use_with (paged_meaning s) None (rec_of r))
make_refused s u r rises = refused_rises (paged_of s) u s.sound.fine (2 ∷ body_class r ∷ index_class r ∷ []) None
    (rec_of r) rises (λ n low. let e = made_extents_are r n low in omega (arith, e))

-- and where none can be made since the heap is full, the words would be above the limit with it
pub make_over : (s : PagedStore) (u : Table) (r : Record) (e : StoreFault) →
    u.reserved ≡ 2 + words_in (λ n. (u.shelf n).total)
    → RisesBy (2 ∷ body_class r ∷ index_class r ∷ []) (table_of s.pages) u
    → Denies (2 ∷ body_class r ∷ index_class r ∷ []) (table_of s.pages) u e
    → IsOver (Some (peaks_of s)) (use_with (paged_meaning s) None (rec_of r)) e
make_over s u r e filled rises denies =
    refused_over (paged_of s) u s.sound.fine (2 ∷ body_class r ∷ index_class r ∷ []) None (rec_of r) e filled rises
    denies (λ n low. let q = made_extents_are r n low in omega (arith, q))

-- ---- the shape of a record

one_of_shape : (h : Heap) (k : Kind) (vs : List Value) (bs : List ℕ) → HasShape h k vs → OnlyStrings k bs →
    OneList k vs bs
one_of_shape h Str [] bs x o = refl
one_of_shape h Str (v ∷ vs) bs x o = absurd x
one_of_shape h Tuple vs bs x o = o
one_of_shape h ListKind vs bs x o = o
one_of_shape h Dict vs bs x o = o
one_of_shape h Cell vs bs x o = o
one_of_shape h Function vs bs x o = o
one_of_shape h Class vs bs x o = o
one_of_shape h Instance vs bs x o = o
one_of_shape h Method vs bs x o = o
one_of_shape h Iter vs bs x o = o
one_of_shape h Range vs bs x o = o
one_of_shape h Lock vs bs x o = o
one_of_shape h Thread vs bs x o = o

pub shape_one : (h : Heap) (r : Record) → IsShaped h (rec_of r) → OneList r.kind r.values r.bytes
shape_one h r x = one_of_shape h r.kind r.values r.bytes x.0 x.1

length_small : (b : Bool) (x y : ℕ) → x ≤ 2 ^ 20 → y ≤ 2 ^ 20 → cond b x y ≤ 2 ^ 20
length_small true x y h l = h
length_small false x y h l = l

pub made_short : (r : Record) → length r.values ≤ 2 ^ 20 → length r.bytes ≤ 2 ^ 20 → made_length r ≤ 2 ^ 20
made_short r v b = length_small (has_bytes r.kind) (length r.bytes) (length r.values) b v

-- it fits the body that it is made with
pub made_body : (r : Record) → OneList r.kind r.values r.bytes → made_length r ≤ 2 ^ 20 → FitsBody r
made_body r one short = by_kind (has_bytes r.kind) one (made_holds r.kind (made_length r) short)
  where
    by_kind : (b : Bool) → NoneOf b r.values r.bytes → words_for b (cond b (length r.bytes) (length r.values)) ≤
        size_of (body_class r) → FitsBody r
    by_kind true x h = record { values = (let z = ap length x in omega (arith, z)); bytes = h }
    by_kind false x h = record { values = h; bytes = (let z = ap length x in omega (arith, z)) }

-- the classes of the header that it is made with
pub header_class : (r : Record) (c n : ℕ) → c ≡ made_class r.kind n → n ≡ made_length r → c ≡ body_class r
header_class r c n e f = e ∙ ap (made_class r.kind) f

pub header_index : (r : Record) (i n : ℕ) → i ≡ made_index r.kind (made_class r.kind n) → n ≡ made_length r →
    i ≡ index_class r
header_index r i n e f = e ∙ ap (λ z. made_index r.kind (made_class r.kind z)) f

-- ---- why a record can't be made

-- the index is of another class than the body
index_other : (k : Kind) (n : ℕ) → 1 ≤ made_index k (made_class k n) →
    (k ≡ Dict) × (made_index k (made_class k n) ≢ made_class k n)
index_other Dict n l = (refl, λ e. (let m = dict_made n in omega (arith, m, e)))
index_other Str n l = absurd (omega (arith, l))
index_other Tuple n l = absurd (omega (arith, l))
index_other ListKind n l = absurd (omega (arith, l))
index_other Cell n l = absurd (omega (arith, l))
index_other Function n l = absurd (omega (arith, l))
index_other Class n l = absurd (omega (arith, l))
index_other Instance n l = absurd (omega (arith, l))
index_other Method n l = absurd (omega (arith, l))
index_other Iter n l = absurd (omega (arith, l))
index_other Range n l = absurd (omega (arith, l))
index_other Lock n l = absurd (omega (arith, l))
index_other Thread n l = absurd (omega (arith, l))

at_most : (b : Bool) → one_if b ≤ 1
at_most true = omega arith
at_most false = omega arith

times_made : (c x y : ℕ) → 1 ≤ c → (1 ≤ y → y ≢ x) → times c (2 ∷ x ∷ y ∷ []) ≤ 2
times_made c x y l apart = elim (eqb_tells c y) [
  | inl e ↦ elim (eqb_tells c x) [
    | inl d ↦ absurd (let a = e.1 in let b = d.1 in apart (omega (arith, l, a)) (omega (arith, a, b)))
    | inr d ↦ (let p = at_most (eqb c 2) in let q = ap one_if d.0 in let r = at_most (eqb c y) in
        omega (arith, p, q, r))
  ]
  | inr e ↦ (let p = at_most (eqb c 2) in let q = at_most (eqb c x) in let r = ap one_if e.0 in omega (arith, p, q, r))
]

times_some : (c x y : ℕ) → 0 < times c (2 ∷ x ∷ y ∷ []) → (c ≡ 2) ⊎ ((c ≡ x) ⊎ (c ≡ y))
times_some c x y h = elim (eqb_tells c 2) [
  | inl e ↦ inl e.1
  | inr n ↦ elim (eqb_tells c x) [
    | inl e ↦ inr (inl e.1)
    | inr m ↦ elim (eqb_tells c y) [
      | inl e ↦ inr (inr e.1)
      | inr o ↦ absurd (let p = ap one_if n.0 in let q = ap one_if m.0 in let r = ap one_if o.0 in
          omega (arith, h, p, q, r))
    ]
  ]
]

pub make_refuses : (s : PagedStore) (r : Record) (u : Table) (e : StoreFault) →
    Denies (2 ∷ body_class r ∷ index_class r ∷ []) (table_of s.pages) u e
    → Refuses (Unit {0}) (Fills s) u.reserved (paged_meaning s).limit e
unfolding meaning_in state_of
make_refuses s r u OutOfMemory d = tt
make_refuses s r u (Full m n i) d = (
  tt,
  record {
    class = d.class;
    low = d.low;
    high = d.high;
    words = d.need;
    few = (let f = d.few in let t = times_made d.class (body_class r) (index_class r) d.low
        (λ l. (index_other r.kind (made_length r) l).1) in omega (arith, f, t));
  },
  d.reserved,
  d.limit,
  d.over,
)

wants_class : (k : Kind) (vs : List Value) (bs : List ℕ) (c : ℕ) → 1 ≤ c
    → (c ≡ 2) ⊎ ((c ≡ made_class k (length_by k vs bs)) ⊎ (c ≡ made_index k (made_class k (length_by k vs bs))))
    → Wants None (rec_of (record { kind = k; values = vs; bytes = bs })) (2 ^ c)
wants_class k vs bs c l (inl e) = subst (λ z. Wants None (rec_of (record { kind = k; values = vs; bytes = bs }))
    (2 ^ z)) (sym e) (make_wants_header k vs bs)
wants_class k vs bs c l (inr (inl e)) = subst
    (λ z. Wants None (rec_of (record { kind = k; values = vs; bytes = bs })) (2 ^ z)) (sym e)
    (make_wants_body k vs bs (omega (arith, l, e)))
wants_class k vs bs c l (inr (inr e)) = subst
    (λ z. Wants None (rec_of (record { kind = k; values = vs; bytes = bs })) (2 ^ z)) (sym e)
    (of_dict k (index_other k (length_by k vs bs) (omega (arith, l, e))).0)
  where
    of_dict : (k : Kind) → k ≡ Dict → Wants None (rec_of (record { kind = k; values = vs; bytes = bs }))
        (2 ^ made_index k (made_class k (length_by k vs bs)))
    of_dict k e = subst (λ z. Wants None (rec_of (record { kind = z; values = vs; bytes = bs }))
        (2 ^ made_index z (made_class z (length_by z vs bs)))) (sym e) (make_wants_index vs bs)

pub make_asks : (r : Record) (t u : Table) (e : StoreFault) → Denies (2 ∷ body_class r ∷ index_class r ∷ []) t u e →
    AsksFor None (rec_of r) e
make_asks r t u OutOfMemory d = tt
make_asks r t u (Full m n i) d = subst (λ z. Wants None (rec_of r) z) (sym d.need)
    (wants_class r.kind r.values r.bytes d.class d.low
    (times_some d.class (body_class r) (index_class r) (let f = d.few in omega (arith, f))))

-- ---- a store's fields

module _ (s : PagedStore) (k : ℕ) (l : k < (paged_meaning s).segments) where
  module _ (g : Draft) (is : g ≡ slice_index_or s.drafts.items k g) (d : Draft) (u : Lists) where
    read : drafted g ≡ (paged_of s).drafts k
    read = read_draft s.drafts.items k g (segment_in s k l) is

    drafts_now : drafts_in (slice_set s.drafts.items k d) ≡ put k (drafted d) (paged_of s).drafts
    drafts_now = set_draft s.drafts.items k d (drafted d) (segment_in s k l) refl

    fields_stand : (v : Lists) (m : Meaning) (t : Marked) → SameTable (table_of s.pages) (table_of v)
        → SameSizes s.marks t → Leaves (record {
          table = table_of v;
          present = s.present.items;
          holder = holders_of t;
          looked = marks_of t;
          drafts = put k (drafted d) (paged_of s).drafts;
        }) m
        → StoreStands v s.present.items t (slice_set s.drafts.items k d) m
    fields_stand v m t same sizes leaves = stands_after s v s.present.items t (slice_set s.drafts.items k d) m same refl
        sizes (length-set s.drafts.items k d)
        (subst (λ x. Leaves (record {
          table = table_of v;
          present = s.present.items;
          holder = holders_of t;
          looked = marks_of t;
          drafts = x;
        }) m) (sym drafts_now) leaves)

    module _ (most : (table_of u).reserved ≤ limit (table_of u)) (t : Takes k [] (desk s.pages g) (desk u d)) where
      untaken : Takes k [] (record { table = table_of s.pages; draft = (paged_of s).drafts k }) (desk u d)
      untaken = subst (λ x. Takes k [] (record { table = table_of s.pages; draft = x }) (desk u d)) read t

      pub untaken_stands : StoreStands u s.present.items s.marks (slice_set s.drafts.items k d) (paged_meaning s)
      untaken_stands =
          let t = rest_turns (paged_of s) k s.sound.fine (table_segment s k l) (desk u d) untaken most in
          fields_stand u (paged_meaning s) s.marks (t.segments, t.pages) (record { segments = refl; granules = refl })
          (rest_leaves (paged_of s) k s.sound.fine (table_segment s k l) (desk u d) untaken most)

      pub untaken_more : (table_of s.pages).reserved ≤ (table_of u).reserved
      untaken_more = (rest_turns (paged_of s) k s.sound.fine (table_segment s k l) (desk u d) untaken most).more

    module _ (r : Record) (a : ℕ) (fits : FitsBody r) (h : Places k a r (desk s.pages g) (desk u d)) where
      abbrev before : Desk
      before = record { table = table_of s.pages; draft = (paged_of s).drafts k }

      placed : Places k a r before (desk u d)
      placed = subst (λ x. Places k a r (record { table = table_of s.pages; draft = x }) (desk u d)) read h

      pub placed_free : IsFree (paged_meaning s) a
      placed_free = free_there (paged_of s) k a s.sound.fine (table_segment s k l) r (desk u d) placed fits

      module _ (values : length r.values ≤ 2 ^ 20) (bytes : length r.bytes ≤ 2 ^ 20)
          (shape : IsShaped (sees (paged_meaning s) k) (rec_of r)) (each : FitsRecord r) where
        one : OneList r.kind r.values r.bytes
        one = shape_one (sees (paged_meaning s) k) r shape

        -- the pairs of a Dict can be entered in its index, which is empty
        pub placed_can : r.kind ≡ Dict → CanIndex k a (index_by ((table_of u).word k) a)
            (index_size ((table_of u).word k) a) (table_of u)
        placed_can = made_can (paged_of s) k a s.sound.fine (table_segment s k l) r (desk u d) placed fits
            (made_short r values bytes) one each shape

        pub placed_blank : r.kind ≡ Dict
            → IsBlank (index_size ((table_of u).word k) a) (index_words ((table_of u).word k) a)
        placed_blank is_dict = made_empty (paged_of s) k a s.sound.fine (table_segment s k l) r (desk u d) placed fits

        -- once they are
        module _ (v : Lists)
            (puts : Puts k (index_by ((table_of u).word k) a) (index_size ((table_of u).word k) a) (table_of u)
            (table_of v)) where
          puts_there : Puts k placed.index (size_of (index_class r)) (table_of u) (table_of v)
          puts_there = made_puts (paged_of s) k a s.sound.fine (table_segment s k l) r (desk u d) placed fits
              (table_of v) puts

          turns : Turns k ((table_of v).word k) nowhere (made_extents r (2 * a) placed.body placed.index) before
              (record placed.taken { table = with_words k ((table_of v).word k) placed.taken.table })
          turns = mid_turns (paged_of s) k a s.sound.fine (table_segment s k l) r (desk u d) placed fits (table_of v)
              puts_there

          is_new : desk v d ≡ record placed.taken {
            table = with_words k ((table_of v).word k) placed.taken.table;
            draft = record placed.taken.draft { made = placed.taken.draft.made ++ a ∷ [] };
          }
          is_new = new_is (paged_of s) k a s.sound.fine (table_segment s k l) r (desk u d) placed fits (table_of v)
              puts_there

          pub placed_more : (table_of s.pages).reserved ≤ (table_of v).reserved
          placed_more = (let m = turns.more in let e = ap (λ (x : Desk). x.table.reserved) is_new in
              omega (arith, m, e))

          -- the peaks rise to what is in use
          pub placed_rises : (m : Marked)
              → RisesBy (2 ∷ body_class r ∷ index_class r ∷ []) (table_of s.pages) (table_of u)
              → (let q : Paged = paged_by v s.present.items m (slice_set s.drafts.items k d) in
              Fine q → Rises (Some (peaks_of s)) (Some (total_of q)) (used_in q))
          placed_rises m rises fine =
              taken_rises (paged_of s) (paged_by v s.present.items m (slice_set s.drafts.items k d))
              s.sound.fine fine (2 ∷ body_class r ∷ index_class r ∷ [])
              (rises_kept (2 ∷ body_class r ∷ index_class r ∷ []) (table_of s.pages) (table_of u) (table_of v) rises
              (ap (λ (x : Table). x.shelf) puts.same))
              (λ n low. let e = turns.count n in let q = made_classes n r (2 * a) placed.body placed.index low in
              let x = ap (λ (z : Desk). length (z.table.shelf n).spare) is_new in
              let y = ap (λ (z : Desk). (z.table.shelf n).total) is_new in
              omega (arith, e, q, x, y))

          -- and the words with it are within the limit
          pub placed_fits : (m : Marked)
              → RisesBy (2 ∷ body_class r ∷ index_class r ∷ []) (table_of s.pages) (table_of u)
              → (table_of u).reserved ≤ limit (table_of u)
              → (table_of u).reserved ≡ 2 + words_in (λ n. ((table_of u).shelf n).total)
              → Fine (paged_by v s.present.items m (slice_set s.drafts.items k d))
              → Fits (Some (peaks_of s)) (use_with (paged_meaning s) None (rec_of r)) (paged_meaning s).limit
          placed_fits m rises most filled fine =
              let P : Table → Type 0 = λ x. x.reserved ≤ limit x in
              let Q : Table → Type 0 = λ x. x.reserved ≡ 2 + words_in (λ n. (x.shelf n).total) in
              let within : P (table_of v) = subst P (sym puts.same) most in
              let pages = ap (λ (z : Desk). z.table.pages) is_new in
              let same = turns.pages in
              taken_fits (paged_of s) (paged_by v s.present.items m (slice_set s.drafts.items k d))
              s.sound.fine fine (2 ∷ body_class r ∷ index_class r ∷ []) None (rec_of r)
              (rises_kept (2 ∷ body_class r ∷ index_class r ∷ []) (table_of s.pages) (table_of u) (table_of v) rises
              (ap (λ (x : Table). x.shelf) puts.same))
              (λ n low. let e = turns.count n in let q = made_classes n r (2 * a) placed.body placed.index low in
              let x = ap (λ (z : Desk). length (z.table.shelf n).spare) is_new in
              let y = ap (λ (z : Desk). (z.table.shelf n).total) is_new in
              omega (arith, e, q, x, y))
              (λ n low. let e = made_extents_are r n low in omega (arith, e))
              (subst Q (sym puts.same) filled) (omega (arith, within, pages, same))

          -- the address has a granule
          pub placed_within : (table_of u).reserved ≤ limit (table_of u) → a < granules s.marks
          placed_within most = (let h = placed.head_within in let o = placed.is in
              let e = ap (λ (x : Desk). x.table.reserved) placed.puts in
              let q = ap (λ (x : Desk). x.table.pages) placed.puts in
              let x = turns.pages in let y = s.sound.bound in
              omega (arith, most, h, o, e, q, x, y))

          pub placed_stands : (table_of u).reserved ≤ limit (table_of u) → (m : Marked) → SameSizes s.marks m
              → marks_of m ≡ marks_of s.marks → holders_of m ≡ put a (Some k) (holders_of s.marks)
              → (r.kind ≡ Dict → IsIndexed ((table_of v).word k) a)
              → StoreStands v s.present.items m (slice_set s.drafts.items k d)
              (after_make k a (rec_of r) (paged_meaning s))
          placed_stands most m sizes marks holders indexed =
              let e = ap (λ (x : Desk). x.table) is_new in
              let most_now : (table_of v).reserved ≤ limit (table_of v) =
              subst (λ (x : Table). x.reserved ≤ limit x) (sym puts.same) most in
              let g = s.sound.addresses in
              let w = placed_within most in
              let leaves = made_leaves (paged_of s) k a s.sound.fine (table_segment s k l) r (desk u d) placed fits
              (table_of v) puts_there (omega (arith, w, g)) (made_short r values bytes) one each values bytes
              (subst (λ (x : Table). x.reserved ≤ limit x) e most_now)
              (λ c n. let x = made_extents_are r c n in
              let y = made_classes c r (2 * a) placed.body placed.index n in omega (arith, x, y)) shape
              (λ keys stays means d. indexed
              (ap (λ (q : Rec). q.kind) (sym means) ∙ kind_is ((table_of v).word k) a ∙ d)) in
              let P : Paged → Type 0 = λ x. Leaves x (after_make k a (rec_of r) (paged_meaning s)) in
              fields_stand v (after_make k a (rec_of r) (paged_meaning s)) m
              (ap (λ (x : Table). x.segments) e ∙ turns.segments, ap (λ (x : Table). x.pages) e ∙ turns.pages) sizes
              (subst P (sym (λ i. record {
                table = (is_new i).table;
                present = s.present.items;
                holder = holders i;
                looked = marks i;
                drafts = put k (is_new i).draft (paged_of s).drafts;
              })) leaves)
