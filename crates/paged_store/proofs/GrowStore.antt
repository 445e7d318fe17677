-- A segment's record grows, on a store's fields in memory.
use Rattle.std.proofs.Common.{◌≡◌, ◌≢◌, ◌⊎◌, ℕ, zero, suc, ◌+◌, ◌*◌, ◌^◌, ◌<◌, ◌≤◌, Bool, true, false, eqb, List, [], ◌∷◌, length, Option, Some, slice_index_or, slice_set, inl, inr, refl, sym, ◌∙◌, ap, subst, arith, ◌%◌}
use Rattle.std.proofs.Props.{props}
use Rattle.std.proofs.Math.Logic.{∥∥₁_elim}
use Rattle.std.proofs.Math.Nat.{pow-succ'}
use Rattle.std.proofs.lemmas.Nat.{pow_pos}
use Rattle.std.proofs.lemmas.Bool.Decides.{eqb_tells}
use Rattle.py_base.specs.declared.kind.Kind.{Kind}
use Rattle.py_base.specs.declared.kind.Kind.TheVariants.{List as ListKind, Dict}
use Rattle.py_data.specs.declared.change.Change.{Change}
use Rattle.py_data.specs.declared.change.Change.TheVariants.{Push, Pair}
use Rattle.py_data.specs.declared.value.Value.{Value}
use Rattle.py_data.specs.Changes.{after, Outgrows}
use Rattle.py_data.specs.Heap.{with_push, Rec, Heap, at, has_rooms, doubled}
use Rattle.py_data.specs.Sense.{IfThere}
use Rattle.py_data.specs.Shape.{ArePairs}
use Rattle.seg_store.specs.declared.store.StoreFault.{StoreFault}
use Rattle.seg_store.specs.declared.store.StoreFault.TheVariants.{Full, OutOfMemory}
use Rattle.seg_store.specs.Asking.{AsksFor}
use Rattle.seg_store.specs.Extents.{extents, extents_of, words_in, Wants}
use Rattle.seg_store.specs.Telling.{use_with, Rises, RisesTo, Fits, IsOver}
use Rattle.seg_store.specs.Meaning.{Meaning, sees, holds}
use Rattle.seg_store.specs.Calls.{after_change}
use Rattle.seg_store.specs.Store.{CanChange, IsFull, Refuses}
use Rattle.page_table.specs.Pages.{Table, limit}
use Rattle.page_table.specs.Lists.{Lists, table_of}
use Rattle.paged_store.specs.declared.draft.Draft.{Draft}
use Rattle.paged_store.specs.declared.sight.Seen.TheVariants.{Segment}
use Rattle.paged_store.specs.declared.store.PagedStore.{PagedStore}
use Rattle.paged_store.specs.Words.{Words, room_in, class_in, index_class_in, first_in, decode, kind_by, count_by, body_size}
use Rattle.paged_store.specs.inner.Formed.{HasIndex, FitsValue}
use Rattle.paged_store.specs.State.{meaning_in}
use Rattle.paged_store.specs.inner.Sound.{Sound}
use Rattle.paged_store.specs.Paged.{Paged, state_of, one_if, paged_by}
use Rattle.paged_store.specs.inner.Written.{next_index}
use Rattle.paged_store.specs.Stores.{paged_of, paged_meaning, peaks_of, Fills}
use Rattle.paged_store.specs.inner.Claiming.{times, RisesBy, Denies, extent_for}
use Rattle.paged_store.specs.inner.Growing.{grown_class, grown_index, MayGrow, KeepsBody, Grew, Ungrown}
use Rattle.paged_store.specs.inner.Writing.{Desk, desk, next_body_size}
use Rattle.paged_store.proofs.OwnerLemmas.{place_own, body_place}
use Rattle.paged_store.proofs.StateLemmas.{holds_some, reserved_place}
use Rattle.paged_store.proofs.RecordWords.{size_is, room_is, room_in_next, kind_is}
use Rattle.paged_store.proofs.PushWords.{is_full}
use Rattle.paged_store.proofs.GrowWords.{room_next, doubled_above, doubled_far, full_class_below}
use Rattle.paged_store.proofs.ExtentLemmas.{list_wants, dict_wants, dict_wants_index, push_doubles, pair_doubles}
use Rattle.paged_store.proofs.IndexFrame.{Renews, list_renews}
use Rattle.paged_store.proofs.ExtentCounts.{GainsGrown, list_grown, dict_grown}
use Rattle.paged_store.proofs.PeakLemmas.{grown_classes, total_of, used_in, taken_rises, taken_fits, refused_rises, refused_over}
use Rattle.paged_store.proofs.StandLemmas.{at_seen}
use Rattle.paged_store.proofs.StoreCalls.{Stands as StoreStands}
use Rattle.paged_store.proofs.StoreEnds.{table_segment}
use Rattle.paged_store.proofs.GrowCall.{Filled, not_filled, ungrown_turns, grown_turns, ungrown_leaves, grown_leaves, GrowsTo, grows_then}
use Rattle.paged_store.proofs.GrownWords.{with_index, with_index_size, push_grown}
use Rattle.paged_store.proofs.StoreChanges.{words_of, seen_by_store, reserved_in, seen_by, there, stands, allowed, counted, bodied, list_rooms, dict_rooms, read, turn_stands}
use Rattle.paged_store.proofs.GrowTakes.{first_even}

-- ---- rooms

-- a body of the next class has room for as much again
grown_size : (w : Words) (a : ℕ) → next_body_size w a ≡ 2 * doubled (room_in (class_in (w (2 * a))))
grown_size w a = size_is (class_in (w (2 * a)) + 1) ∙ ap (λ c. 2 * room_in c) {x = class_in (w (2 * a)) + 1}
    {y = suc (class_in (w (2 * a)))} (omega arith)
    ∙ ap (λ n. 2 * n) (room_next (class_in (w (2 * a))))

-- a Dict has room for a pair, and its room is even
record EvenRoom (r : ℕ) : Type 0 where
  half : ℕ
  is : r ≡ 2 * half
  some : 1 ≤ half

even_room : (c : ℕ) → 2 ≤ c → EvenRoom (room_in c)
even_room zero l = absurd (omega arith)
even_room (suc zero) l = absurd (omega arith)
even_room (suc (suc c)) l = record {
  half = 2 ^ c;
  is = room_in_next (suc c) ∙ pow-succ' 2 c;
  some = (let m : 0 < 2 ^ c = pow_pos c in omega arith);
}

dict_class : (k : Kind) (c i : ℕ) → k ≡ Dict → HasIndex k c i → (c ≡ i + 1) × (1 ≤ i)
dict_class k c i e h = subst (λ z. HasIndex z c i) e h

-- keys and their values are of an even number
record EvenLength (n : ℕ) : Type 0 where
  half : ℕ
  is : n ≡ 2 * half

pairs_even : (h : Heap) (vs : List Value) → ArePairs h vs → EvenLength (length vs)
pairs_even h [] p = record { half = 0; is = refl }
pairs_even h (k ∷ []) p = absurd p
pairs_even h (k ∷ v ∷ rest) p = let e = pairs_even h rest p.1 in
    record { half = suc e.half; is = (let z = e.is in omega (arith, z)) }

-- ---- a List that grows

module _ (s : PagedStore) (k a : ℕ) (l : k < (paged_meaning s).segments)
    (held : holds ((paged_meaning s).part k) a ≡ true) where
  abbrev w : Words
  w = words_of s k

  keeps_by : (own role : Words) → Sound own role (state_of (paged_of s)) → KeepsBody (table_of s.pages) w a
  unfolding meaning_in state_of
  keeps_by own role g q x =
      let lays = (g.now k).lays a (sym (g.held k a) ∙ held) in
      reserved_place own role (state_of (paged_of s)) g q
      (λ z. holds_some own role (state_of (paged_of s)) g k a (g.held k a ∙ held)
      (sym (place_own own role w a q lays (body_place w a q x)) ∙ z))

  -- no place of its body is spare
  pub keeps : KeepsBody (table_of s.pages) w a
  keeps = ∥∥₁_elim s.sound.fine.sound (hlevel props) (λ x. keeps_by x.0 x.1.0 x.1.1)

  not_nobody : (own role : Words) → Sound own role (state_of (paged_of s)) → a ≢ 0
  unfolding meaning_in state_of
  not_nobody own role g = holds_some own role (state_of (paged_of s)) g k a (g.held k a ∙ held)

  pub address : a ≢ 0
  address e = ∥∥₁_elim s.sound.fine.sound (λ x y. absurd x) (λ x. not_nobody x.0 x.1.0 x.1.1 e)

  module _ (v : Value) (can : CanChange (sees (paged_meaning s) k) a (Push v))
      (small : body_size w a < 2 * (count_by w a + 1)) where
    abbrev list : Change
    list = Push v

    pub list_full : length (decode w a).values ≡ (decode w a).room
    list_full = is_full w a (list_rooms s k a l v can) (stands s k a l list can).formed (omega (arith, small))

    list_class : class_in (w (2 * a)) < 21
    list_class = full_class_below w a (list_rooms s k a l v can) list_full (let z = (allowed s k a l list can).0.1 in
        omega (arith, z))

    list_room : 2 * (count_by w a + 1) ≤ next_body_size w a
    list_room =
        let e = counted s k a l list can in
        let r = room_is w a (list_rooms s k a l v can) in
        let m = doubled_above (room_in (class_in (w (2 * a)))) in
        let n = grown_size w a in
        omega (arith, e, r, m, n, list_full)

    pub list_grows : MayGrow w (reserved_in s) a 1
    list_grows = record {
      stands = stands s k a l list can;
      class = list_class;
      count = bodied s k a l list can;
      room =
          list_room;
    }

  -- ---- a Dict that grows

  module _ (key v : Value) (can : CanChange (sees (paged_meaning s) k) a (Pair key v))
      (small : body_size w a < 2 * (count_by w a + 2)) where
    abbrev pair : Change
    pair = Pair key v

    rooms : has_rooms (kind_by w a) ≡ true
    rooms = dict_rooms s k a l key v can

    is_dict : kind_by w a ≡ Dict
    is_dict = sym (kind_is w a) ∙ (allowed s k a l pair can).0.0

    classes : (class_in (w (2 * a)) ≡ index_class_in (w (2 * a)) + 1) × (1 ≤ index_class_in (w (2 * a)))
    classes = dict_class (kind_by w a) (class_in (w (2 * a))) (index_class_in (w (2 * a))) is_dict
        (stands s k a l pair can).formed.index

    even : EvenRoom (room_in (class_in (w (2 * a))))
    even = let c = classes in even_room (class_in (w (2 * a))) (omega (arith, c.0, c.1))

    -- since both are even, the Dict is full
    pub dict_full : length (decode w a).values ≡ (decode w a).room
    dict_full =
        let e = counted s k a l pair can in
        let n = pairs_even (sees (paged_meaning s) k) (decode w a).values (allowed s k a l pair can).1.0.2 in
        let b = bodied s k a l pair can in
        let size : body_size w a ≡ 2 * room_in (class_in (w (2 * a))) = size_is (class_in (w (2 * a))) in
        let r = room_is w a rooms in
        let i = n.is in
        let j = even.is in
        omega (arith, e, i, j, b, size, r, small)

    pub dict_big : 2 ≤ (decode w a).room
    dict_big = (let r = room_is w a rooms in let j = even.is in let o = even.some in omega (arith, r, j, o))

    dict_below : class_in (w (2 * a)) < 21
    dict_below = full_class_below w a rooms dict_full (let z = (allowed s k a l pair can).0.1 in omega (arith, z))

    dict_room : 2 * (count_by w a + 2) ≤ next_body_size w a
    dict_room =
        let e = counted s k a l pair can in
        let r = room_is w a rooms in
        let m = doubled_far (room_in (class_in (w (2 * a)))) (omega (arith, r, dict_big)) in
        let n = grown_size w a in
        omega (arith, e, r, m, n, dict_full)

    pub dict_grows : MayGrow w (reserved_in s) a 2
    dict_grows = record {
      stands = stands s k a l pair can;
      class = dict_below;
      count = bodied s k a l pair can;
      room =
          dict_room;
    }

  -- ---- the extents that it has more then

  module _ (v : Value) (can : CanChange (sees (paged_meaning s) k) a (Push v))
      (small : body_size w a < 2 * (count_by w a + 1)) where
    pub list_gains : (c : ℕ) → 1 ≤ c → GainsGrown w a (Push v) c
    list_gains = list_grown w a v (stands s k a l (Push v) can).formed
        (sym (kind_is w a) ∙ (allowed s k a l (Push v) can).0.0) (list_grows v can small).class (list_full v can small)

  module _ (key v : Value) (can : CanChange (sees (paged_meaning s) k) a (Pair key v))
      (small : body_size w a < 2 * (count_by w a + 2)) where
    pub dict_gains : (c : ℕ) → 1 ≤ c → GainsGrown w a (Pair key v) c
    dict_gains = dict_grown w a key v (stands s k a l (Pair key v) can).formed
        (sym (kind_is w a) ∙ (allowed s k a l (Pair key v) can).0.0) (dict_grows key v can small).class
        (dict_full key v can small)

-- ---- why a record can't grow

-- a class that some are wanted of
times_two : (c x y : ℕ) → 1 ≤ c → 0 < times c (x ∷ y ∷ 0 ∷ []) → (c ≡ x) ⊎ (c ≡ y)
times_two c x y l h = elim (eqb_tells c x) [
  | inl e ↦ inl e.1
  | inr n ↦ elim (eqb_tells c y) [
    | inl e ↦ inr e.1
    | inr m ↦ elim (eqb_tells c 0) [
      | inl e ↦ absurd (let z = e.1 in omega (arith, l, z))
      | inr o ↦ absurd (let p = ap one_if n.0 in let q = ap one_if m.0 in let r = ap one_if o.0 in
          omega (arith, h, p, q, r))
    ]
  ]
]

times_most : (c x y : ℕ) → 1 ≤ c → times c (x ∷ y ∷ 0 ∷ []) ≤ 2
times_most c x y l = elim (eqb_tells c 0) [
  | inl e ↦ absurd (let z = e.1 in omega (arith, l, z))
  | inr o ↦ (let r = ap one_if o.0 in let p = at_most (eqb c x) in let q = at_most (eqb c y) in omega (arith, p, q, r))
]
  where
    at_most : (b : Bool) → one_if b ≤ 1
    at_most true = omega arith
    at_most false = omega arith

pub refuses_by : (s : PagedStore) (x y : ℕ) (u : Table) (W : Type 0) (e : StoreFault) → W →
    Denies (x ∷ y ∷ 0 ∷ []) (table_of s.pages) u e
    → Refuses W (Fills s) u.reserved (paged_meaning s).limit e
unfolding meaning_in state_of
refuses_by s x y u W OutOfMemory h d = tt
refuses_by s x y u W (Full r n m) h d = (
  h,
  record {
    class = d.class;
    low = d.low;
    high = d.high;
    words = d.need;
    few = (let f = d.few in let t = times_most d.class x y d.low in omega (arith, f, t));
  },
  d.reserved,
  d.limit,
  d.over,
)

-- the words that were wanted are those of one extent more
asks_by : (o : Option Rec) (q : Rec) (x y : ℕ) (t u : Table) (e : StoreFault)
    → ((c : ℕ) → 1 ≤ c → (c ≡ x) ⊎ (c ≡ y) → Wants o q (2 ^ c)) → Denies (x ∷ y ∷ 0 ∷ []) t u e → AsksFor o q e
asks_by o q x y t u OutOfMemory h d = tt
asks_by o q x y t u (Full r n m) h d = subst (λ z. Wants o q z) (sym d.need)
    (h d.class d.low (times_two d.class x y d.low (let f = d.few in omega (arith, f))))

module _ (s : PagedStore) (k a : ℕ) (l : k < (paged_meaning s).segments) (c : Change)
    (can : CanChange (sees (paged_meaning s) k) a c) where
  sees_is : sees (paged_meaning s) k a ≡ Some (decode (words_of s k) a)
  sees_is = (seen_by s k).is a (there s k a l c can)

  at_is : at (sees (paged_meaning s) k) a ≡ decode (words_of s k) a
  at_is = at_seen (table_of s.pages) (Segment k) (sees (paged_meaning s) k) (seen_by s k) (table_segment s k l) a
      (there s k a l c can)

  pub full_there : Outgrows c (decode (words_of s k) a) → IsFull (sees (paged_meaning s) k) a c
  full_there h = subst (λ o. IfThere false o (Outgrows c)) (sym sees_is) h

  asks_there : (e : StoreFault) → AsksFor (Some (decode (words_of s k) a)) (after c (decode (words_of s k) a)) e
      → AsksFor (sees (paged_meaning s) k a) (after c (at (sees (paged_meaning s) k) a)) e
  asks_there e h = let P : Option Rec → Rec → Type 0 = λ o q. AsksFor o (after c q) e in
      let Q : Option Rec → Type 0 = λ o. P o (at (sees (paged_meaning s) k) a) in
      let R : Rec → Type 0 = λ q. P (Some (decode (words_of s k) a)) q in
      subst Q (sym sees_is) (subst R (sym at_is) h)

  -- the extents that it has more, as the segment sees it
  pub gains_seen : (wanted : List ℕ)
      → ((n : ℕ) → 1 ≤ n → extents (after c (decode (words_of s k) a)) n
      ≡ extents (decode (words_of s k) a) n + times n wanted) → (n : ℕ) → 1 ≤ n →
      extents (after c (at (sees (paged_meaning s) k) a)) n ≡ extents_of (sees (paged_meaning s) k a) n + times n wanted
  gains_seen wanted more =
      let P : Option Rec → Rec → Type 0 = λ o q. (n : ℕ) → 1 ≤ n →
      extents (after c q) n ≡ extents_of o n + times n wanted in
      let Q : Option Rec → Type 0 = λ o. P o (at (sees (paged_meaning s) k) a) in
      let R : Rec → Type 0 = λ q. P (Some (decode (words_of s k) a)) q in
      subst Q (sym sees_is) (subst R (sym at_is) more)

  -- where it can't, what is ever new of a class rises at most to what would be in use with it grown
  pub grow_refused : (u : Table) → ((n : ℕ) → 1 ≤ n → GainsGrown (words_of s k) a c n)
      → RisesBy (grown_class (words_of s k) a ∷ grown_index (words_of s k) a ∷ 0 ∷ []) (table_of s.pages) u
      → RisesTo (Some (peaks_of s)) (Some (λ n. (u.shelf n).total))
      (use_with (paged_meaning s) (sees (paged_meaning s) k a) (after c (at (sees (paged_meaning s) k) a)))
  grow_refused u more rises =
      let wanted : List ℕ = grown_class (words_of s k) a ∷ grown_index (words_of s k) a ∷ 0 ∷ [] in
      refused_rises (paged_of s) u s.sound.fine wanted (sees (paged_meaning s) k a)
      (after c (at (sees (paged_meaning s) k) a)) rises (gains_seen wanted more)

  -- and where it can't since the heap is full, the words would be above the limit with it grown
  pub grow_over : (u : Table) (e : StoreFault) → ((n : ℕ) → 1 ≤ n → GainsGrown (words_of s k) a c n)
      → u.reserved ≡ 2 + words_in (λ n. (u.shelf n).total)
      → RisesBy (grown_class (words_of s k) a ∷ grown_index (words_of s k) a ∷ 0 ∷ []) (table_of s.pages) u
      → Denies (grown_class (words_of s k) a ∷ grown_index (words_of s k) a ∷ 0 ∷ []) (table_of s.pages) u e
      → IsOver (Some (peaks_of s))
      (use_with (paged_meaning s) (sees (paged_meaning s) k a) (after c (at (sees (paged_meaning s) k) a))) e
  grow_over u e more filled rises denies =
      let wanted : List ℕ = grown_class (words_of s k) a ∷ grown_index (words_of s k) a ∷ 0 ∷ [] in
      refused_over (paged_of s) u s.sound.fine wanted (sees (paged_meaning s) k a)
      (after c (at (sees (paged_meaning s) k) a)) e filled rises denies (gains_seen wanted more)

module _ (s : PagedStore) (k a : ℕ) (l : k < (paged_meaning s).segments)
    (held : holds ((paged_meaning s).part k) a ≡ true) (u : Table)
    (e : StoreFault) (d : Denies (grown_class (words_of s k) a ∷ grown_index (words_of s k) a ∷ 0 ∷ [])
    (table_of s.pages) u e) where
  abbrev now : Words
  now = words_of s k

  pub list_refuses : (v : Value) (can : CanChange (sees (paged_meaning s) k) a (Push v)) →
      body_size now a < 2 * (count_by now a + 1)
      → Refuses (IsFull (sees (paged_meaning s) k) a (Push v)) (Fills s) u.reserved (paged_meaning s).limit e
  list_refuses v can small = refuses_by s (grown_class now a) (grown_index now a) u
      (IsFull (sees (paged_meaning s) k) a (Push v)) e
      (full_there s k a l (Push v) can (list_full s k a l held v can small)) d

  pub list_asks : (v : Value) (can : CanChange (sees (paged_meaning s) k) a (Push v)) →
      body_size now a < 2 * (count_by now a + 1)
      → AsksFor (sees (paged_meaning s) k a) (after (Push v) (at (sees (paged_meaning s) k) a)) e
  list_asks v can small =
      let c : Change = Push v in
      let f = (stands s k a l c can).formed in
      let kind : (decode now a).kind ≡ ListKind = (allowed s k a l c can).0.0 in
      let g = list_grows s k a l held v can small in
      asks_there s k a l c can e (asks_by (Some (decode now a)) (after c (decode now a)) (grown_class now a)
      (grown_index now a) (table_of s.pages) u e
      (λ i low h. elim h [
        | inl x ↦ subst (λ z. Wants (Some (decode now a)) (after c (decode now a)) (2 ^ z)) (sym x)
            (list_wants (decode now a) (after c (decode now a)) (class_in (now (2 * a))) (first_in (now (2 * a)))
            (push_doubles now a v f (list_rooms s k a l v can) g.class (list_full s k a l held v can small)) kind)
        | inr x ↦ absurd (let none : grown_index now a ≡ 0 = ap (λ z. next_index z (index_class_in (now (2 * a))))
            (sym (kind_is now a) ∙ kind) in
            omega (arith, x, low, none))
      ]) d)

  pub dict_refuses : (key v : Value) (can : CanChange (sees (paged_meaning s) k) a (Pair key v)) →
      body_size now a < 2 * (count_by now a + 2)
      → Refuses (IsFull (sees (paged_meaning s) k) a (Pair key v)) (Fills s) u.reserved (paged_meaning s).limit e
  dict_refuses key v can small = refuses_by s (grown_class now a) (grown_index now a) u
      (IsFull (sees (paged_meaning s) k) a (Pair key v)) e
      (full_there s k a l (Pair key v) can (dict_full s k a l held key v can small)) d

  pub dict_asks : (key v : Value) (can : CanChange (sees (paged_meaning s) k) a (Pair key v)) →
      body_size now a < 2 * (count_by now a + 2)
      → AsksFor (sees (paged_meaning s) k a) (after (Pair key v) (at (sees (paged_meaning s) k) a)) e
  dict_asks key v can small =
      let c : Change = Pair key v in
      let f = (stands s k a l c can).formed in
      let kind : (decode now a).kind ≡ Dict = (allowed s k a l c can).0.0 in
      let g = dict_grows s k a l held key v can small in
      let big = dict_big s k a l held key v can small in
      let q : Rec = after c (decode now a) in
      let z = pair_doubles now a key v f (dict_rooms s k a l key v can) g.class
      (dict_full s k a l held key v can small) big in
      let classes : (class_in (now (2 * a)) ≡ index_class_in (now (2 * a)) + 1) × (1 ≤ index_class_in (now (2 * a))) =
      dict_class (kind_by now a) (class_in (now (2 * a))) (index_class_in (now (2 * a))) (sym (kind_is now a) ∙ kind)
      f.index in
      let same : grown_index now a ≡ class_in (now (2 * a)) =
      ap (λ x. next_index x (index_class_in (now (2 * a)))) (sym (kind_is now a) ∙ kind) ∙ sym classes.0 in
      asks_there s k a l c can e (asks_by (Some (decode now a)) q (grown_class now a) (grown_index now a)
      (table_of s.pages) u e
      (λ i low h. elim h [
        | inl x ↦ subst (λ y. Wants (Some (decode now a)) q (2 ^ y)) (sym x)
            (dict_wants (decode now a) q (class_in (now (2 * a))) (first_in (now (2 * a))) z kind)
        | inr x ↦ subst (λ y. Wants (Some (decode now a)) q (2 ^ y)) (sym (x ∙ same))
            (dict_wants_index (decode now a) q (class_in (now (2 * a))) (first_in (now (2 * a))) z kind
            (let b = classes.1 in let y = classes.0 in omega (arith, b, y)) (λ y. omega (arith, y, big)))
      ]) d)

-- ---- what growth leaves

module _ (s : PagedStore) (k a : ℕ) (l : k < (paged_meaning s).segments)
    (held : holds ((paged_meaning s).part k) a ≡ true)
    (g : Draft) (is : g ≡ slice_index_or s.drafts.items k g) (d : Draft) (u : Lists)
    (most : (table_of u).reserved ≤ limit (table_of u)) where
  abbrev pub old : Desk
  old = record { table = table_of s.pages; draft = (paged_of s).drafts k }

  desk_is : desk s.pages g ≡ old
  desk_is = λ i. record { table = table_of s.pages; draft = read s k a l held g is d u i }

  pub ungrown_stands : Ungrown k a (desk s.pages g) (desk u d)
      → StoreStands u s.present.items s.marks (slice_set s.drafts.items k d) (paged_meaning s)
  ungrown_stands h =
      let z : Ungrown k a old (desk u d) = subst (λ x. Ungrown k a x (desk u d)) desk_is h in
      turn_stands s k a l held g is d u (paged_meaning s)
      (let t = ungrown_turns (paged_of s) k a s.sound.fine (table_segment s k l) held (desk u d) most z in
      (t.segments, t.pages))
      (ungrown_leaves (paged_of s) k a s.sound.fine (table_segment s k l) held (desk u d) most z)

  -- a record that has grown, over the store's draft
  pub grew_desk : (vs : List Value) (b : Desk) → Grew k a vs (desk s.pages g) b → Grew k a vs old b
  grew_desk vs b h = subst (λ x. Grew k a vs x b) desk_is h

  pub grew_stands : (vs : List Value) (c : Change) → CanChange (sees (paged_meaning s) k) a c →
      (h : Filled k a vs old (desk u d))
      → GrowsTo (paged_of s) k a s.sound.fine (table_segment s k l) held (desk u d) most vs h ((table_of u).word k)
      (after c (decode (words_of s k) a))
      → ((n : ℕ) → 1 ≤ n → GainsGrown (words_of s k) a c n)
      → Renews (seen_by_store s k) (words_of s k) ((table_of u).word k) a (after c (decode (words_of s k) a))
      → StoreStands u s.present.items s.marks (slice_set s.drafts.items k d)
      (after_change k a (after c) (paged_meaning s))
  grew_stands vs c can h to more right = turn_stands s k a l held g is d u
      (after_change k a (after c) (paged_meaning s))
      (let t = grown_turns (paged_of s) k a s.sound.fine (table_segment s k l) held (desk u d) most vs h in
      (t.segments, t.pages))
      (grown_leaves (paged_of s) k a s.sound.fine (table_segment s k l) held (desk u d) most vs h c can to
      (λ n z. let e = more n z in let q = grown_classes n (words_of s k) a h.grew.body h.grew.index z in
      omega (arith, e, q)) right)

  pub list_filled : (v : Value) → Grew k a (v ∷ []) (desk s.pages g) (desk u d) → Filled k a (v ∷ []) old (desk u d)
  list_filled v h = not_filled k a (v ∷ []) old (desk u d) (grew_desk (v ∷ []) (desk u d) h)

  pub list_stands : (v : Value) (can : CanChange (sees (paged_meaning s) k) a (Push v)) →
      body_size (words_of s k) a < 2 * (count_by (words_of s k) a + 1)
      → FitsValue v → Grew k a (v ∷ []) (desk s.pages g) (desk u d)
      → StoreStands u s.present.items s.marks (slice_set s.drafts.items k d)
      (after_change k a (after (Push v)) (paged_meaning s))
  list_stands v can small fits h =
      let z : Filled k a (v ∷ []) old (desk u d) = list_filled v h in
      let c : Change = Push v in
      let m = list_grows s k a l held v can small in
      let f = (stands s k a l c can).formed in
      let rooms = list_rooms s k a l v can in
      let body : ℕ = z.grew.body in
      let index : ℕ = z.grew.index in
      let w : Words = words_of s k in
      let even : body % 2 ≡ 0 = first_even (grown_class w a) body _ (extent_for (grown_index w a) index)
      (let b = m.room in omega arith) z.grew.takes.claims.lie in
      grew_stands (v ∷ []) c can z
      (grows_then (paged_of s) k a s.sound.fine (table_segment s k l) held (desk u d) most (v ∷ []) z
      (with_push v (decode w a))
      (λ own role lays fresh once. (
        with_index w a body index own role (address s k a l held) f lays rooms m.class fresh once even (v ∷ []) m.room,
        with_index_size w a body index own role (address s k a l held) f lays rooms m.class fresh once even (v ∷ [])
            m.room,
      ))
      (λ own role lays fresh once.
      push_grown w a body index own role (address s k a l held) f lays rooms m.class fresh once even v
      (list_full s k a l held v can small) m.room fits))
      (list_gains s k a l held v can small)
      (list_renews (seen_by_store s k) w ((table_of u).word k) a (with_push v (decode w a)) (allowed s k a l c can).0.0)

  -- the peaks rise to what is in use
  pub grew_rises : (vs : List Value) (m : Meaning) → Filled k a vs old (desk u d)
      → RisesBy (grown_class (words_of s k) a ∷ grown_index (words_of s k) a ∷ 0 ∷ []) (table_of s.pages) (table_of u)
      → StoreStands u s.present.items s.marks (slice_set s.drafts.items k d) m
      → (let q : Paged = paged_by u s.present.items s.marks (slice_set s.drafts.items k d) in
      Rises (Some (peaks_of s)) (Some (total_of q)) (used_in q))
  grew_rises vs m z rises v =
      taken_rises (paged_of s) (paged_by u s.present.items s.marks (slice_set s.drafts.items k d))
      s.sound.fine v.sound.fine
      (grown_class (words_of s k) a ∷ grown_index (words_of s k) a ∷ 0 ∷ []) rises
      (λ n low. let t = grown_turns (paged_of s) k a s.sound.fine (table_segment s k l) held (desk u d) most vs z in
      let e = t.count n in let q = grown_classes n (words_of s k) a z.grew.body z.grew.index low in omega (arith, e, q))

  -- and the words with it grown are within the limit
  pub grew_fits : (vs : List Value) (c : Change) (m : Meaning) → CanChange (sees (paged_meaning s) k) a c →
      ((n : ℕ) → 1 ≤ n → GainsGrown (words_of s k) a c n) → Filled k a vs old (desk u d)
      → RisesBy (grown_class (words_of s k) a ∷ grown_index (words_of s k) a ∷ 0 ∷ []) (table_of s.pages) (table_of u)
      → StoreStands u s.present.items s.marks (slice_set s.drafts.items k d) m
      → (table_of u).reserved ≡ 2 + words_in (λ n. ((table_of u).shelf n).total)
      → Fits (Some (peaks_of s)) (use_with (paged_meaning s) (sees (paged_meaning s) k a)
      (after c (at (sees (paged_meaning s) k) a))) (paged_meaning s).limit
  grew_fits vs c m can more z rises v filled =
      let wanted : List ℕ = grown_class (words_of s k) a ∷ grown_index (words_of s k) a ∷ 0 ∷ [] in
      let t = grown_turns (paged_of s) k a s.sound.fine (table_segment s k l) held (desk u d) most vs z in
      taken_fits (paged_of s) (paged_by u s.present.items s.marks (slice_set s.drafts.items k d))
      s.sound.fine v.sound.fine wanted (sees (paged_meaning s) k a) (after c (at (sees (paged_meaning s) k) a)) rises
      (λ n low. let e = t.count n in let q = grown_classes n (words_of s k) a z.grew.body z.grew.index low in
      omega (arith, e, q))
      (gains_seen s k a l c can wanted more) filled (let e = t.pages in omega (arith, most, e))
