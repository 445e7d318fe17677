-- How a segment's view comes to hold a record, and what that leaves beside its own sight.
use Rattle.std.proofs.Common.{◌≡◌, ◌≢◌, ◌⊎◌, ◌<◌, ◌≤◌, ℕ, Bool, true, false, cond, ◌||◌, eqb, List, [], ◌∷◌, ◌++◌, length, slice_get, slice_set, Option, Some, None, refl, sym, ◌∙◌, ap, subst, inl, inr, arith, IsSome, is_some, Result, Ok, Err, OnOk, OnErr, IfErr}
use Rattle.std.proofs.lemmas.List.Elements.{All-append, All-cons, All-nil, All-weaker}
use Rattle.std.proofs.lemmas.Bool.{cases_Bool, both_ways, or_cases, or_left, or_right, eqb-true, eqb-false, cond-true, cond-false}
use Rattle.py_data.specs.declared.stop.Side.{Side}
use Rattle.py_data.specs.declared.stop.Conflict.{Conflict}
use Rattle.py_data.specs.declared.stop.Stop.{Stop}
use Rattle.stm_segment.specs.declared.halt.Halt.{Halt}
use Rattle.stm_segment.specs.declared.halt.LastStop.{LastStop}
use Rattle.stm_segment.specs.declared.halt.Halt.TheVariants.{Lost, OutOfMemory}
use Rattle.py_data.specs.Heap.{Rec, Marks, Has, at, is_tracked}
use Rattle.py_data.specs.Sight.{mem, with_mark}
use Rattle.py_data.proofs.Grow.{mem_append}
use Rattle.seg_store.specs.Meaning.{Part, Meaning, sees, saw, holds, overlay, with_part}
use Rattle.seg_store.specs.Calls.{marked, first_locked, locked, ended, after_mark, after_lock, after_drop}
use Rattle.seg_store.specs.Store.{IsStore, NoOther}
use Rattle.seg_store.proofs.Sees.{same_marks, own_part, other_part, lock_shows}
use Rattle.stm_segment.specs.declared.books.Progress.{Progress}
use Rattle.stm_segment.specs.declared.books.Work.{Work}
use Rattle.stm_segment.specs.declared.books.Hand.{Hand}
use Rattle.stm_segment.specs.declared.books.Hand.TheVariants.{Idle, Doomed, Runs}
use Rattle.stm_segment.specs.declared.books.Books.{Books}
use Rattle.stm_segment.specs.CoreState.{Transaction, Segment, Running, CoreState, with_segment, with_conflict, set_segment}
use Rattle.stm_segment.specs.Conflict.{side, wins}
use Rattle.stm_segment.specs.CoreState as model
use Rattle.stm_segment.specs.Books.{is_running, runs_at, side_of, Worlds, transaction, segment_of, core_of}
use Rattle.stm_segment.specs.inner.Halts.{stop_of, gave}
use Rattle.stm_segment.specs.inner.Hold.{Hold, Dooms, Beside, LosesTo, Holds, Fails, FailWhy, HoldsOrFails, is_noted, Looks, holding}
use Rattle.stm_segment.proofs.Fits.{get_set_other, get_set_same, work_at, runs_within, seen_image}
use Rattle.stm_segment.proofs.Looking.{noted_tracked}

-- ---- beside

dooms_then : {S : Type 0} (k : ℕ) (me : Side) (fs gs : List Conflict) (a b c : CoreState S) → Dooms k me fs a b →
    Dooms k me gs b c → Dooms k me (fs ++ gs) a c
dooms_then k me [] gs a b c f g = subst (λ z. Dooms k me gs z c) f g
dooms_then k me (f ∷ fs) gs a b c h g = (h.0, h.1, dooms_then k me fs gs h.0 b c h.2 g)

-- nothing but the Stop changed, and what is reserved may have grown
pub beside_stop : {S : Type 0} {asks : ℕ → Type 0} (k : ℕ) (me : Side) (m : Meaning) (r r1 : ℕ) (b : Books S)
    (p : Progress S) (o o1 : LastStop) → r ≤ r1 → Beside k me asks (holding m r b p o) (holding m r1 b p o1)
beside_stop {asks = asks} k me m r r1 b p o o1 le = record {
  saw = refl;
  image = refl;
  segments = refl;
  limit = refl;
  reserved = le;
  hand = refl;
  broken = refl;
  dooms = [];
  others = λ w. refl;
  asked = All-nil (λ (f : Conflict). asks f.at.0);
  kept_names = refl;
  kept_started = refl;
  names = λ h. (h, refl);
  started = λ h. (h, refl);
  made = refl;
  looked = λ a h. h;
  locks = λ a h. h;
}

-- nothing changed
pub beside_refl : {S : Type 0} {asks : ℕ → Type 0} (k : ℕ) (me : Side) (d : Hold S) → Beside k me asks d d
beside_refl k me d = beside_stop k me d.meaning d.reserved d.reserved d.books d.progress d.last d.last (omega arith)

-- it asks for more records
pub beside_weaker : {S : Type 0} (P Q : ℕ → Type 0) (k : ℕ) (me : Side) (d e : Hold S) → ((a : ℕ) → P a → Q a) →
    Beside k me P d e → Beside k me Q d e
beside_weaker P Q k me d e w g = record {
  saw = g.saw;
  image = g.image;
  segments = g.segments;
  limit = g.limit;
  reserved = g.reserved;
  hand = g.hand;
  broken = g.broken;
  dooms = g.dooms;
  others = g.others;
  asked = All-weaker (λ (f : Conflict). P f.at.0) (λ (f : Conflict). Q f.at.0) (λ f h. w f.at.0 h) g.dooms g.asked;
  kept_names = g.kept_names;
  kept_started = g.kept_started;
  names = g.names;
  started = g.started;
  made = g.made;
  looked = g.looked;
  locks = g.locks;
}

pub beside_then : {S : Type 0} {asks : ℕ → Type 0} (k : ℕ) (me : Side) (d e f : Hold S) → Beside k me asks d e →
    Beside k me asks e f → Beside k me asks d f
beside_then {asks = asks} k me d e f g h = record {
  saw = h.saw ∙ g.saw;
  image = h.image ∙ g.image;
  segments = h.segments ∙ g.segments;
  limit = h.limit ∙ g.limit;
  reserved = let a = g.reserved in let b = h.reserved in omega arith;
  hand = h.hand ∙ g.hand;
  broken = h.broken ∙ g.broken;
  dooms = g.dooms ++ h.dooms;
  others = λ w. dooms_then k me g.dooms h.dooms (core_of w d.meaning d.books) (core_of w e.meaning e.books)
      (core_of w f.meaning f.books) (g.others w) (h.others w);
  asked = All-append (λ (c : Conflict). asks c.at.0) g.dooms h.dooms g.asked h.asked;
  kept_names = h.kept_names ∙ g.kept_names;
  kept_started = h.kept_started ∙ g.kept_started;
  names = λ n. let x = g.names n in let y = h.names x.0 in (y.0, y.1 ∙ x.1);
  started = λ n. let x = g.started n in let y = h.started x.0 in (y.0, y.1 ∙ x.1);
  made = h.made ∙ g.made;
  looked = λ a m. h.looked a (g.looked a m);
  locks = λ a m. h.locks a (g.locks a m);
}

-- the core's state doesn't show the part of a segment whose hand is empty
pub core_own : {S : Type 0} (w : Worlds) (k : ℕ) (q : Part) (m : Meaning) (b : Books S) →
    runs_at b.hands.items k ≡ false → core_of w (with_part k q m) b ≡ core_of w m b
core_own {S} w k q m b out i = record (core_of w m b) { segments = λ j. same j i }
  where
    idle : (o : Option (Hand S)) (p : Part) → is_running o ≡ false →
        segment_of w.own p o ≡ segment_of w.own (m.part k) o
    idle None p e = refl
    idle (Some Idle) p e = refl
    idle (Some (Doomed f)) p e = refl
    idle (Some (Runs x)) p e = absurd (both_ways true e refl)

    same : (j : ℕ) → segment_of w.own ((with_part k q m).part j) (slice_get b.hands.items j) ≡ segment_of w.own
        (m.part j) (slice_get b.hands.items j)
    same j = elim (cases_Bool (eqb j k)) [
      | inl y ↦ let e : j ≡ k = eqb-true j k y in
          subst (λ z. segment_of w.own ((with_part k q m).part z) (slice_get b.hands.items z) ≡ segment_of w.own
          (m.part z) (slice_get b.hands.items z)) (sym e)
          (idle (slice_get b.hands.items k) ((with_part k q m).part k) out)
      | inr n ↦ ap (λ p. segment_of w.own p (slice_get b.hands.items j)) (other_part k q m j (eqb-false j k n))
    ]

-- a call that changes the segment's own part alone
pub beside_own : {S : Type 0} {asks : ℕ → Type 0} (k : ℕ) (me : Side) (m : Meaning) (q : Part) (r r1 : ℕ) (b : Books S)
    (p : Progress S) (o o1 : LastStop) → runs_at b.hands.items k ≡ false → r ≤ r1
    → overlay m.image q.kept ≡ saw m k → q.kept_made ≡ (m.part k).kept_made →
    ((a : ℕ) → (m.part k).looked a ≡ true → q.looked a ≡ true) →
    ((a : ℕ) → mem a (m.part k).changed ≡ true → mem a q.changed ≡ true)
    → Beside k me asks (holding m r b p o) (holding (with_part k q m) r1 b p o1)
beside_own {asks = asks} k me m q r r1 b p o o1 out le shown made looked locks = let e = own_part k q m in record {
  saw = ap (λ (z : Part). overlay m.image z.kept) e ∙ shown;
  image = refl;
  segments = refl;
  limit = refl;
  reserved = le;
  hand = refl;
  broken = refl;
  dooms = [];
  others = λ w. core_own w k q m b out;
  asked = All-nil (λ (f : Conflict). asks f.at.0);
  kept_names = refl;
  kept_started = refl;
  names = λ h. (h, refl);
  started = λ h. (h, refl);
  made = ap (λ (z : Part). z.kept_made) e ∙ made;
  looked = λ a h. ap (λ (z : Part). z.looked a) e ∙ looked a h;
  locks = λ a h. ap (λ (z : Part). mem a z.changed) e ∙ locks a h;
}

-- ---- a doom

pub core_doomed : {S : Type 0} (w : Worlds) (j : ℕ) (f : Conflict) (m : Meaning) (b b1 : Books S) →
    j < length b.hands.items → b1 ≡ record b { hands = b1.hands; pending = b1.pending; conflicts = b1.conflicts }
    → b1.hands.items ≡ slice_set b.hands.items j (Doomed f) → b1.conflicts.entries ≡ b.conflicts.entries ++ f ∷ []
    → core_of w (after_drop j m) b1 ≡ with_conflict f (with_segment j (model.Doomed f) (core_of w m b))
core_doomed {S} w j f m b b1 lt rest hs cs i = record {
  image = m.image;
  threads = ap (λ (z : Books S). z.threads.entries) rest i;
  world = w.committed;
  history = ap (λ (z : Books S). z.history.entries) rest i;
  conflicts = cs i;
  begun = ap (λ (z : Books S). z.begun) rest i;
  last = ap (λ (z : Books S). z.last) rest i;
  cause = ap (λ (z : Books S). z.cause) rest i;
  segments = λ x. same x i;
}
  where
    same : (x : ℕ) → segment_of w.own ((after_drop j m).part x) (slice_get b1.hands.items x) ≡ set_segment j
        (model.Doomed f) (λ y. segment_of w.own (m.part y) (slice_get b.hands.items y)) x
    same x = elim (cases_Bool (eqb x j)) [
      | inl y ↦ let e : x ≡ j = eqb-true x j y in
          ap (segment_of w.own ((after_drop j m).part x))
          (ap (λ l. slice_get l x) hs ∙ ap (slice_get (slice_set b.hands.items j (Doomed f))) e ∙
          get_set_same b.hands.items j (Doomed f) lt)
          ∙ sym (cond-true (eqb x j) (model.Doomed f) (segment_of w.own (m.part x) (slice_get b.hands.items x)) y)
      | inr n ↦ let e : x ≢ j = eqb-false x j n in
          ap (segment_of w.own ((after_drop j m).part x))
          (ap (λ l. slice_get l x) hs ∙ get_set_other b.hands.items j x (Doomed f) (λ q. e (sym q)))
          ∙ ap (λ p. segment_of w.own p (slice_get b.hands.items x)) (other_part j (ended (m.part j)) m x e)
          ∙ sym (cond-false (eqb x j) (model.Doomed f) (segment_of w.own (m.part x) (slice_get b.hands.items x)) n)
    ]

-- the side of a segment that runs
pub side_is : {S : Type 0} (w : Worlds) (m : Meaning) (hs : List (Hand S)) (j : ℕ) (r : Side) (x : Work S) →
    slice_get hs j ≡ Some (Runs x) → r ≡ side_of j r (slice_get hs j) → r ≡ side j (transaction w.own (m.part j) x)
side_is w m hs j r x e h = h ∙ ap (side_of j r) e

pub dooms_one : {S : Type 0} (k : ℕ) (me : Side) (j : ℕ) (f : Conflict) (m : Meaning) (b b1 : Books S) → j ≢ k →
    runs_at b.hands.items j ≡ true → f.writer ≡ side_of j f.writer (slice_get b.hands.items j)
    → f.other ≡ me → f.asks ≡ true → f.lost ≡ 0 → wins me f.writer ≡ true → mem f.at.0 (m.part j).changed ≡ true
    → b1 ≡ record b { hands = b1.hands; pending = b1.pending; conflicts = b1.conflicts } →
    b1.hands.items ≡ slice_set b.hands.items j (Doomed f) → b1.conflicts.entries ≡ b.conflicts.entries ++ f ∷ []
    → (w : Worlds) → Dooms k me (f ∷ []) (core_of w m b) (core_of w (after_drop j m) b1)
dooms_one {S} k me j f m b b1 n r wr ot as' lo wi held rest hs cs w =
    let x = work_at b.hands.items j r in
    let s : f.writer ≡ side j (transaction w.own (m.part j) x.0) = side_is w m b.hands.items j f.writer x.0 x.1 wr in
    let sj : f.writer.segment ≡ j = ap (λ z. z.segment) s in
    let run : (core_of w m b).segments j ≡ Running (transaction w.own (m.part j) x.0) =
    ap (segment_of w.own (m.part j)) x.1 in (
      core_of w (after_drop j m) b1,
      record {
        meets = record {
          writer = transaction w.own (m.part j) x.0;
          writes = ap (core_of w m b).segments sj ∙ run;
          writer_is = s ∙ ap (λ i. side i (transaction w.own (m.part j) x.0)) (sym sj);
          other = ot;
          differ = λ e. n (sym sj ∙ e);
          held = held;
          asks = as';
        };
        lost = lo;
        winning = wi;
        gives = core_doomed w j f m b b1 (runs_within b.hands.items j r) rest hs cs ∙
            ap (λ i. with_conflict f (with_segment i (model.Doomed f) (core_of w m b))) (sym sj);
      },
      refl,
    )

-- what a doom of segment j, which isn't k, leaves of the books
pub record DoomsHand {S : Type 0} (k : ℕ) (me : Side) (j : ℕ) (f : Conflict) (m : Meaning) (b b1 : Books S) : Type 0
  where
    pub other : j ≢ k
    pub hand : slice_get b1.hands.items k ≡ slice_get b.hands.items k
    pub broken : b1.broken ≡ b.broken
    pub dooms : (w : Worlds) → Dooms k me (f ∷ []) (core_of w m b) (core_of w (after_drop j m) b1)

pub dooms_hand : {S : Type 0} (k : ℕ) (me : Side) (j : ℕ) (f : Conflict) (m : Meaning) (b b1 : Books S) → j ≢ k →
    ((w : Worlds) → Dooms k me (f ∷ []) (core_of w m b) (core_of w (after_drop j m) b1))
    → b1 ≡ record b { hands = b1.hands; pending = b1.pending; conflicts = b1.conflicts } →
    b1.hands.items ≡ slice_set b.hands.items j (Doomed f) → DoomsHand k me j f m b b1
dooms_hand {S} k me j f m b b1 n ds rest hs = record {
  other = n;
  hand = ap (λ l. slice_get l k) hs ∙ get_set_other b.hands.items j k (Doomed f) n;
  broken = ap (λ (z : Books S). z.broken) rest;
  dooms = ds;
}

beside_doom : {S : Type 0} {asks : ℕ → Type 0} (k : ℕ) (me : Side) (j : ℕ) (f : Conflict) (m : Meaning) (rs : ℕ)
    (b b1 : Books S) (p : Progress S) (o : LastStop) → DoomsHand k me j f m b b1 → asks f.at.0
    → Beside k me asks (holding m rs b p o) (holding (after_drop j m) rs b1 p o)
beside_doom {asks = asks} k me j f m rs b b1 p o ds why = let e =
    other_part j (ended (m.part j)) m k (λ q. ds.other (sym q)) in record {
      saw = ap (λ (z : Part). overlay m.image z.kept) e;
      image = refl;
      segments = refl;
      limit = refl;
      reserved = omega arith;
      hand = ds.hand;
      broken = ds.broken;
      dooms = f ∷ [];
      others = ds.dooms;
      asked = All-cons (λ (c : Conflict). asks c.at.0) f [] why (All-nil (λ (c : Conflict). asks c.at.0));
      kept_names = refl;
      kept_started = refl;
      names = λ h. (h, refl);
      started = λ h. (h, refl);
      made = ap (λ (z : Part). z.kept_made) e;
      looked = λ a h. ap (λ (z : Part). z.looked a) e ∙ h;
      locks = λ a h. ap (λ (z : Part). mem a z.changed) e ∙ h;
    }

-- ---- who holds what

-- a record that the segment sees, and another one holds, is one that the other has locked
pub meets_lock : (r : ℕ) (m : Meaning) (j k a : ℕ) → IsStore r m → j ≢ k → Has (sees m k) a → holds (m.part j) a ≡ true
    → mem a (m.part j).changed ≡ true
meets_lock r m j k a s n there h = elim (or_cases (mem a (m.part j).changed) (mem a (m.part j).made) h) [
  | inl x ↦ x
  | inr x ↦ absurd (let i = seen_image r m k a s (s.apart j k a n h) in let q : is_some (sees m k a) ≡ true =
      is_there (sees m k a) there in both_ways (is_some (sees m k a)) (ap is_some (i ∙ s.unused j a x)) q)
]
  where
    is_there : (o : Option Rec) → IsSome o → is_some o ≡ true
    is_there None t = absurd cc
    is_there (Some q) t = refl

-- once the only other holder is doomed, no other segment holds the record
pub none_left : (r : ℕ) (m : Meaning) (j k a : ℕ) → IsStore r m → holds (m.part j) a ≡ true →
    NoOther (after_drop j m) k a
none_left r m j k a s h i n = elim (cases_Bool (eqb i j)) [
  | inl y ↦ ap (λ (z : Part). holds z a) (cond-true (eqb i j) (ended (m.part j)) (m.part i) y)
  | inr y ↦ ap (λ (z : Part). holds z a) (cond-false (eqb i j) (ended (m.part j)) (m.part i) y) ∙
      s.apart j i a (λ e. eqb-false i j y (sym e)) h
]

-- a mark that stands already
pub mark_again : (a : ℕ) (m : Marks) → m a ≡ true → with_mark a m ≡ m
mark_again a m h = same_marks (with_mark a m) m (λ b. elim (cases_Bool (eqb b a)) [
  | inl y ↦ ap (λ z. z || m b) y ∙ sym (ap m (eqb-true b a y) ∙ h)
  | inr y ↦ ap (λ z. z || m b) y
])

-- ---- a record is held

-- the parts of a look
looks_part : (a k : ℕ) (m m1 : Meaning) → Looks a k m m1 → (m1 ≡ m) ⊎ (m1 ≡ after_mark k a m)
looks_part a k m m1 h = elim (cases_Bool (is_noted (sees m k a) ((m.part k).looked a))) [
  | inl y ↦ inl (h ∙ cond-true (is_noted (sees m k a) ((m.part k).looked a)) m (after_mark k a m) y)
  | inr y ↦ inr (h ∙ cond-false (is_noted (sees m k a) ((m.part k).looked a)) m (after_mark k a m) y)
]

-- a look at a tracked record marks it
pub looks_mark : (a k : ℕ) (m m1 : Meaning) → Has (sees m k) a → is_tracked (at (sees m k) a).kind ≡ true →
    Looks a k m m1 → (m1.part k).looked ≡ with_mark a (m.part k).looked
looks_mark a k m m1 there t h = elim (cases_Bool (is_noted (sees m k a) ((m.part k).looked a))) [
  | inl y ↦ ap (λ (z : Meaning). (z.part k).looked)
      (h ∙ cond-true (is_noted (sees m k a) ((m.part k).looked a)) m (after_mark k a m) y)
      ∙ sym (mark_again a (m.part k).looked (sym (noted_tracked (sees m k) a ((m.part k).looked a) there t) ∙ y))
  | inr y ↦ ap (λ (z : Meaning). (z.part k).looked)
      (h ∙ cond-false (is_noted (sees m k a) ((m.part k).looked a)) m (after_mark k a m) y) ∙
      ap (λ (z : Part). z.looked) (own_part k (marked a (m.part k)) m)
]

-- a look leaves the rest
pub looks_beside : {S : Type 0} {asks : ℕ → Type 0} (me : Side) (a k : ℕ) (m m1 : Meaning) (r : ℕ) (b : Books S)
    (p : Progress S) (o o1 : LastStop) → runs_at b.hands.items k ≡ false → Looks a k m m1
    → Beside k me asks (holding m r b p o) (holding m1 r b p o1)
looks_beside {S} {asks} me a k m m1 r b p o o1 out h = elim (looks_part a k m m1 h) [
  | inl e ↦ subst (λ z. Beside k me asks (holding m r b p o) (holding z r b p o1)) (sym e)
      (again (beside_refl k me (holding m r b p o)))
  | inr e ↦ subst (λ z. Beside k me asks (holding m r b p o) (holding z r b p o1)) (sym e)
      (beside_own k me m (marked a (m.part k)) r r b p o o1 out (omega arith) refl refl
      (λ c l. or_right (eqb c a) ((m.part k).looked c) l) (λ c l. l))
]
  where
    again : Beside k me asks (holding m r b p o) (holding m r b p o) →
        Beside k me asks (holding m r b p o) (holding m r b p o1)
    again s = record {
      saw = s.saw;
      image = s.image;
      segments = s.segments;
      limit = s.limit;
      reserved = s.reserved;
      hand = s.hand;
      broken = s.broken;
      dooms = s.dooms;
      others = s.others;
      asked = s.asked;
      kept_names =
          s.kept_names;
      kept_started = s.kept_started;
      names = s.names;
      started = s.started;
      made = s.made;
      looked =
          s.looked;
      locks = s.locks;
    }

pub looks_same : (a k : ℕ) (m m1 : Meaning) → Looks a k m m1 →
    (sees m1 k ≡ sees m k) × (holds (m1.part k) ≡ holds (m.part k)) × ((m1.part k).made ≡ (m.part k).made) ×
    ((m1.part k).changed ≡ (m.part k).changed)
looks_same a k m m1 h = elim (looks_part a k m m1 h) [
  | inl e ↦ (
    ap (λ z. sees z k) e,
    ap (λ (z : Meaning). holds (z.part k)) e,
    ap (λ (z : Meaning). (z.part k).made) e,
    ap (λ (z : Meaning). (z.part k).changed) e,
  )
  | inr e ↦ let q = own_part k (marked a (m.part k)) m in (
    ap (λ z. sees z k) e ∙ ap (λ (z : Part). overlay m.image z.changes) q,
    ap (λ (z : Meaning). holds (z.part k)) e
        ∙ ap holds q,
    ap (λ (z : Meaning). (z.part k).made) e ∙ ap (λ (z : Part). z.made) q,
    ap (λ (z : Meaning). (z.part k).changed) e ∙ ap (λ (z : Part). z.changed) q,
  )
]

-- a look at a record that the segment holds
pub holds_looked : {S : Type 0} (me : Side) (a k : ℕ) (m m1 : Meaning) (r r1 : ℕ) (b b1 : Books S) (p p1 : Progress S)
    (o o1 : LastStop) → runs_at b.hands.items k ≡ false → Has (sees m k) a → is_tracked (at (sees m k) a).kind ≡ true
    → holds (m.part k) a ≡ true → Looks a k m m1 → r1 ≡ r → b1 ≡ b → p1 ≡ p → o1 ≡ o →
    Holds k me a (holding m r b p o) (holding m1 r1 b1 p1 o1)
holds_looked {S} me a k m m1 r r1 b b1 p p1 o o1 out there t held h er eb ep eo =
    let s = looks_same a k m m1 h in
    let base : Holds k me a (holding m r b p o) (holding m1 r b p o) = record {
      shown = s.0;
      touched = s.1 ∙ sym (mark_again a (holds (m.part k)) held);
      looked = looks_mark a k m m1 there t h;
      made = s.2;
      progress = refl;
      last = refl;
      beside = looks_beside me a k m m1 r b p o o out h;
      locks = λ c l. inl (ap (mem c) (sym s.3) ∙ l);
    } in
    subst (λ z. Holds k me a (holding m r b p o) (holding m1 z b1 p1 o1)) (sym er)
    (subst (λ z. Holds k me a (holding m r b p o) (holding m1 r z p1 o1)) (sym eb)
    (subst (λ z. Holds k me a (holding m r b p o) (holding m1 r b z o1)) (sym ep)
    (subst (λ z. Holds k me a (holding m r b p o) (holding m1 r b p z)) (sym eo) base)))

-- a record that no other segment holds is locked
pub holds_locked : {S : Type 0} (me : Side) (a k : ℕ) (m m1 : Meaning) (r r1 : ℕ) (b b1 : Books S) (p p1 : Progress S)
    (o o1 : LastStop) → runs_at b.hands.items k ≡ false → IsStore r m → Has (sees m k) a
    → m1 ≡ after_lock k a m → r1 ≡ r → b1 ≡ b → p1 ≡ p → o1 ≡ o →
    Holds k me a (holding m r b p o) (holding m1 r1 b1 p1 o1)
holds_locked {S} me a k m m1 r r1 b b1 p p1 o o1 out s there em er eb ep eo =
    let l = lock_shows r m k a s there in
    let q = locked a (at (sees m k) a) (m.part k) in
    let base : Holds k me a (holding m r b p o) (holding (after_lock k a m) r b p o) = record {
      shown = l.seen;
      touched = l.held;
      looked = ap (λ (z : Part). z.looked) (own_part k q m) ∙ marks (holds (m.part k) a);
      made = ap (λ (z : Part). z.made) (own_part k q m) ∙ makes (holds (m.part k) a);
      progress = refl;
      last = refl;
      beside = beside_own k me m q r r b p o o out (omega arith)
          (ap (λ (z : Part). overlay m.image z.kept) (sym (own_part k q m)) ∙ l.before) (kept (holds (m.part k) a))
          (λ c h. ap (λ (f : Marks). f c) (marks (holds (m.part k) a)) ∙ or_right (eqb c a) ((m.part k).looked c) h)
          (λ c h. more (holds (m.part k) a) c h);
      locks = λ c h. fewer (holds (m.part k) a) c (ap (λ (z : Part). mem c z.changed) (sym (own_part k q m)) ∙ h);
    } in
    subst (λ z. Holds k me a (holding m r b p o) (holding z r1 b1 p1 o1)) (sym em)
    (subst (λ z. Holds k me a (holding m r b p o) (holding (after_lock k a m) z b1 p1 o1)) (sym er)
    (subst (λ z. Holds k me a (holding m r b p o) (holding (after_lock k a m) r z p1 o1)) (sym eb)
    (subst (λ z. Holds k me a (holding m r b p o) (holding (after_lock k a m) r b z o1)) (sym ep)
    (subst (λ z. Holds k me a (holding m r b p o) (holding (after_lock k a m) r b p z)) (sym eo) base))))
  where
    marks : (h : Bool) → (cond h (marked a (m.part k)) (first_locked a (at (sees m k) a) (m.part k))).looked ≡
        with_mark a (m.part k).looked
    marks true = refl
    marks false = refl

    makes : (h : Bool) → (cond h (marked a (m.part k)) (first_locked a (at (sees m k) a) (m.part k))).made ≡
        (m.part k).made
    makes true = refl
    makes false = refl

    kept : (h : Bool) → (cond h (marked a (m.part k)) (first_locked a (at (sees m k) a) (m.part k))).kept_made ≡
        (m.part k).kept_made
    kept true = refl
    kept false = refl

    more : (h : Bool) (c : ℕ) → mem c (m.part k).changed ≡ true →
        mem c (cond h (marked a (m.part k)) (first_locked a (at (sees m k) a) (m.part k))).changed ≡ true
    more true c x = x
    more false c x = mem_append c (m.part k).changed (a ∷ []) ∙ or_left (mem c (m.part k).changed) (mem c (a ∷ [])) x

    fewer : (h : Bool) (c : ℕ) → mem c (cond h (marked a (m.part k))
        (first_locked a (at (sees m k) a) (m.part k))).changed ≡ true → (mem c (m.part k).changed ≡ true) ⊎ (c ≡ a)
    fewer true c x = inl x
    fewer false c x = elim (or_cases (mem c (m.part k).changed) (mem c (a ∷ []))
        (sym (mem_append c (m.part k).changed (a ∷ [])) ∙ x)) [
          | inl y ↦ inl y
          | inr y ↦ elim (or_cases (eqb c a) false y) [
            | inl z ↦ inr (eqb-true c a z)
            | inr z ↦
                absurd (both_ways false refl z)
          ]
        ]

-- first a doom of another segment, and then the record is held
pub holds_after : {S : Type 0} (k : ℕ) (me : Side) (a j : ℕ) (f : Conflict) (m : Meaning) (r : ℕ) (b b1 : Books S)
    (p : Progress S) (o : LastStop) (e : Hold S) → DoomsHand k me j f m b b1 → f.at.0 ≡ a →
    Holds k me a (holding (after_drop j m) r b1 p o) e → Holds k me a (holding m r b p o) e
holds_after k me a j f m r b b1 p o e ds at h =
    let q = other_part j (ended (m.part j)) m k (λ x. ds.other (sym x)) in
    record {
      shown = h.shown ∙ ap (λ (z : Part). overlay m.image z.changes) q;
      touched = h.touched ∙ ap (λ (z : Part). with_mark a (holds z)) q;
      looked = h.looked ∙ ap (λ (z : Part). with_mark a z.looked) q;
      made = h.made ∙ ap (λ (z : Part). z.made) q;
      progress = h.progress;
      last = h.last;
      beside = beside_then k me (holding m r b p o) (holding (after_drop j m) r b1 p o) e
          (beside_doom k me j f m r b b1 p o ds at) h.beside;
      locks = λ c x. elim (h.locks c x) [
        | inl y ↦ inl (sym (ap (λ (z : Part). mem c z.changed) q) ∙ y)
        | inr y ↦
            inr y
      ];
    }

-- ---- a call that failed

-- the call was refused and the store, the books and the progress are as before
pub fails_alone : {S : Type 0} (k : ℕ) (me : Side) (a : ℕ) (m m1 : Meaning) (r r1 : ℕ) (b b1 : Books S)
    (p p1 : Progress S) (o o1 : LastStop) (s : Halt) → m1 ≡ m → r ≤ r1 → b1 ≡ b → p1 ≡ p → o1 ≡ gave s
    → FailWhy k me a s (holding m r1 b p (gave s)) → Fails k me a (holding m r b p o) s (holding m1 r1 b1 p1 o1)
fails_alone {S} k me a m m1 r r1 b b1 p p1 o o1 s em le eb ep eo why =
    let base : Fails k me a (holding m r b p o) s (holding m r1 b p (gave s)) = record {
      last = refl;
      beside = beside_stop k me m r r1 b p o (gave s) le;
      why = why;
      looked = λ c h. inl h;
      locks = λ c h. inl h;
    } in
    subst (λ z. Fails k me a (holding m r b p o) s (holding z r1 b1 p1 o1)) (sym em)
    (subst (λ z. Fails k me a (holding m r b p o) s (holding m r1 z p1 o1)) (sym eb)
    (subst (λ z. Fails k me a (holding m r b p o) s (holding m r1 b z o1)) (sym ep)
    (subst (λ z. Fails k me a (holding m r b p o) s (holding m r1 b p z)) (sym eo) base)))

-- it found no memory
pub fails_memory : {S : Type 0} (k : ℕ) (me : Side) (a : ℕ) (m m1 : Meaning) (r r1 : ℕ) (b b1 : Books S)
    (p p1 : Progress S) (o o1 : LastStop) → o1 ≡ gave OutOfMemory → m1 ≡ m → r1 ≡ r → b1 ≡ b → p1 ≡ p
    → Fails k me a (holding m r b p o) o1.halt (holding m1 r1 b1 p1 o1)
fails_memory {S} k me a m m1 r r1 b b1 p p1 o o1 eo em er eb ep =
    subst (λ z. Fails k me a (holding m r b p o) z (holding m1 r1 b1 p1 o1)) (sym (ap (λ z. z.halt) eo))
    (fails_alone k me a m m1 r r1 b b1 p p1 o o1 OutOfMemory em (omega (arith, er)) eb ep eo tt)

-- the segment loses to another one
pub fails_lost : {S : Type 0} (k : ℕ) (me : Side) (a j : ℕ) (f : Conflict) (m m1 : Meaning) (r r1 : ℕ) (b b1 : Books S)
    (p p1 : Progress S) (o o1 : LastStop) → j ≢ k → runs_at b.hands.items j ≡ true →
    f.at.0 ≡ a
    → f.writer ≡ side_of j f.writer (slice_get b.hands.items j) → f.other ≡ me → f.asks ≡ true → f.lost ≡ 1 →
    wins me f.writer ≡ false → mem a (m.part j).changed ≡ true
    → m1 ≡ m → r1 ≡ r → b1 ≡ b → p1 ≡ p → o1 ≡ gave (Lost f)
    → Fails k me a (holding m r b p o) o1.halt (holding m1 r1 b1 p1 o1)
fails_lost {S} k me a j f m m1 r r1 b b1 p p1 o o1 n run at wr ot as' lo wi held em er eb ep eo =
    let x = work_at b.hands.items j run in
    let why : (w : Worlds) → LosesTo k me f (core_of w m b) = λ w.
    let q : f.writer ≡ side j (transaction w.own (m.part j) x.0) = side_is w m b.hands.items j f.writer x.0 x.1 wr in
    let sj : f.writer.segment ≡ j = ap (λ z. z.segment) q in
    record {
      meets = record {
        writer = transaction w.own (m.part j) x.0;
        writes = ap (core_of w m b).segments sj ∙ ap (segment_of w.own (m.part j)) x.1;
        writer_is = q ∙ ap (λ i. side i (transaction w.own (m.part j) x.0)) (sym sj);
        other = ot;
        differ = λ e. n (sym sj ∙ e);
        held = ap (λ z. mem z (m.part j).changed) at ∙ held;
        asks = as';
      };
      lost = lo;
      loses = wi;
    } in
    subst (λ z. Fails k me a (holding m r b p o) z (holding m1 r1 b1 p1 o1)) (sym (ap (λ z. z.halt) eo))
    (fails_alone k me a m m1 r r1 b b1 p p1 o o1 (Lost f) em (omega (arith, er)) eb ep eo (at, why))

-- first a doom of another segment, and then the call failed
pub fails_after : {S : Type 0} (k : ℕ) (me : Side) (a j : ℕ) (f : Conflict) (m : Meaning) (r : ℕ) (b b1 : Books S)
    (p : Progress S) (o : LastStop) (s : Halt) (e : Hold S) → DoomsHand k me j f m b b1 → f.at.0 ≡ a →
    Fails k me a (holding (after_drop j m) r b1 p o) s e → Fails k me a (holding m r b p o) s e
fails_after k me a j f m r b b1 p o s e ds at h =
    let q = other_part j (ended (m.part j)) m k (λ x. ds.other (sym x)) in
    record {
      last = h.last;
      beside = beside_then k me (holding m r b p o) (holding (after_drop j m) r b1 p o) e
          (beside_doom k me j f m r b b1 p o ds at) h.beside;
      why = h.why;
      looked = λ c x. elim (h.looked c x) [ inl y ↦ inl (sym (ap (λ (z : Part). z.looked c) q) ∙ y) | inr y ↦ inr y ];
      locks = λ c x. elim (h.locks c x) [
        | inl y ↦ inl (sym (ap (λ (z : Part). mem c z.changed) q) ∙ y)
        | inr y ↦
            inr y
      ];
    }

pub on_ok_two : {T E P Q R : Type 0} (r : Result T E) → (P → Q → R) → OnOk r P → OnOk r Q → OnOk r R
on_ok_two (Ok x) f p q = f p q
on_ok_two (Err x) f p q = tt

-- by cases of what a call answered that was to hold the record
pub held_by_cases : {S A : Type 0} (k : ℕ) (me : Side) (a : ℕ) (x : Result A Stop) (d e : Hold S) →
    OnOk x (Holds k me a d e) → IfErr x (λ s. s ≡ stop_of e.last.halt) → OnErr x (Fails k me a d e.last.halt e)
    → HoldsOrFails k me a x d e
held_by_cases k me a (Ok u) d e ok word err = ok
held_by_cases k me a (Err s) d e ok word err = (word, err)

-- the view once another segment was doomed
pub record AfterDoom {S : Type 0} (k : ℕ) (me : Side) (j : ℕ) (f : Conflict) (m : Meaning) (r : ℕ) (b : Books S)
    (p : Progress S) (o : LastStop) (k1 : ℕ) (me1 : Side) (m1 : Meaning) (r1 : ℕ) (b1 : Books S) (p1 : Progress S)
    (o1 : LastStop) : Type 0 where
  pub dooms : DoomsHand k me j f m b b1
  pub segment : k1 ≡ k
  pub me_is : me1 ≡ me
  pub meaning : m1 ≡ after_drop j m
  pub reserved : r1 ≡ r
  pub progress : p1 ≡ p
  pub last : o1 ≡ o

module _ {S : Type 0} (k : ℕ) (me : Side) (j : ℕ) (f : Conflict) (m : Meaning) (r : ℕ) (b : Books S) (p : Progress S)
    (o : LastStop) (k1 : ℕ) (me1 : Side) (m1 : Meaning) (r1 : ℕ) (b1 : Books S) (p1 : Progress S) (o1 : LastStop)
    (d : AfterDoom k me j f m r b p o k1 me1 m1 r1 b1 p1 o1) (a : ℕ) (at : f.at.0 ≡ a) (e : Hold S) where
  moved : (P : ℕ → Side → Hold S → Type 0) → P k1 me1 (holding m1 r1 b1 p1 o1) →
      P k me (holding (after_drop j m) r b1 p o)
  moved P h = subst (λ z. P k me (holding (after_drop j m) r b1 p z)) d.last
      (subst (λ z. P k me (holding (after_drop j m) r b1 z o1)) d.progress
      (subst (λ z. P k me (holding (after_drop j m) z b1 p1 o1)) d.reserved
      (subst (λ z. P k me (holding z r1 b1 p1 o1)) d.meaning
      (subst (λ z. P k z (holding m1 r1 b1 p1 o1)) d.me_is
      (subst (λ z. P z me1 (holding m1 r1 b1 p1 o1)) d.segment h)))))

  holds_then : Holds k1 me1 a (holding m1 r1 b1 p1 o1) e → Holds k me a (holding m r b p o) e
  holds_then h = holds_after k me a j f m r b b1 p o e d.dooms at (moved (λ i s z. Holds i s a z e) h)

  fails_then : (s : Halt) → Fails k1 me1 a (holding m1 r1 b1 p1 o1) s e → Fails k me a (holding m r b p o) s e
  fails_then s h = fails_after k me a j f m r b b1 p o s e d.dooms at (moved (λ i z x. Fails i z a x s e) h)

  pub held_then : {A : Type 0} (x : Result A Stop) → HoldsOrFails k1 me1 a x (holding m1 r1 b1 p1 o1) e →
      HoldsOrFails k me a x (holding m r b p o) e
  held_then (Ok u) h = holds_then h
  held_then (Err s) h = (h.0, fails_then e.last.halt h.1)
