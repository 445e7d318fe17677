-- Looks at records, and the other calls that change no record.
use Rattle.py_data.proofs.Steps.{at_is}
use Rattle.std.proofs.Common.{◌≡◌, ◌≢◌, ◌≤◌, ◌+◌, ℕ, Bool, true, false, not, ◌||◌, ◌&&◌, eqb, List, [], ◌∷◌, ◌++◌, length, take, slice_get, zero, suc, Option, Some, None, refl, sym, ◌∙◌, ap, subst, inl, inr, arith, IsSome, unwrap_or, slice_set, length-append}
use Rattle.std.proofs.lemmas.Bool.{cases_Bool, both_ways, cond-true}
use Rattle.std.proofs.lemmas.List.Elements.{All-nil}
use Rattle.py_data.specs.declared.stop.Conflict.{Conflict}
use Rattle.py_data.specs.declared.value.Addr.{Addr}
use Rattle.py_data.specs.declared.value.Value.{Value}
use Rattle.py_data.specs.declared.stop.Side.{Side}
use Rattle.stm_segment.specs.declared.halt.Halt.{Halt}
use Rattle.stm_segment.specs.declared.halt.LastStop.{LastStop}
use Rattle.stm_segment.specs.declared.halt.Halt.TheVariants.{Lost, NeedSolo, Full, ReadFault, WriteFault, ErrFault, OutOfMemory}
use Rattle.py_data.specs.Heap.{Rec, Heap, Marks, Has, at, is_tracked, blank, put_at, length_by}
use Rattle.py_base.specs.declared.kind.Kind.TheVariants.{Str as StrKind}
use Rattle.py_base.specs.declared.kind.Kind.{Kind}
use Rattle.py_data.specs.Collection.{places}
use Rattle.py_data.specs.Shape.{Fits, find}
use Rattle.py_data.specs.Sight.{looked_at, with_mark}
use Rattle.py_data.specs.Row.{Call, Read, Find, Make, Start}
use Rattle.py_data.specs.Sense.{IfThere}
use Rattle.seg_store.specs.declared.store.StoreFault.{StoreFault}
use Rattle.seg_store.specs.declared.store.StoreFault.TheVariants.{Full as FullStore, OutOfMemory as NoMemoryLeft}
use Rattle.seg_store.specs.Meaning.{Part, Meaning, sees, holds, over}
use Rattle.seg_store.specs.Calls.{after_mark, made, after_make}
use Rattle.seg_store.specs.Store.{CanFind, IsFree, IsStore, IsStored, OneList}
use Rattle.seg_store.proofs.Sees.{same_marks, own_part, make_shows}
use Rattle.stm_segment.specs.declared.books.Progress.{Progress}
use Rattle.stm_segment.specs.declared.books.Books.{Books}
use Rattle.stm_segment.specs.Books.{runs_at, Worlds, segment_of, core_of, Fit}
use Rattle.stm_segment.specs.inner.Halts.{gave}
use Rattle.stm_segment.specs.inner.Hold.{Hold, sight, Beside, SegDoes, SegRefuses, SegWhy, holding, is_noted, Looks, FaultWhy, halt_of}
use Rattle.seg_store.specs.Extents.{Wants}
use Rattle.stm_segment.specs.inner.SegSense.{Seen}
use Rattle.stm_segment.proofs.Looking.{noted_fixed}
use Rattle.stm_segment.proofs.Holding.{looks_beside, looks_same, looks_mark, beside_own, beside_stop}
use Rattle.stm_segment.proofs.Fits.{fit_own}

-- the record that is there
pub at_there : (h : Heap) (a : ℕ) → Has h a → h a ≡ Some (at h a)
unfolding at
at_there h a t = go (h a) t
  where
    go : (o : Option Rec) → IsSome o → o ≡ Some (unwrap_or o blank)
    go None x = absurd cc
    go (Some r) x = refl

-- marks that a look leaves
marks_tracked : (a : ℕ) (t : Bool) (m : Marks) → t ≡ true → with_mark a m ≡ (λ b. (eqb b a && t) || m b)
marks_tracked a t m e = same_marks (with_mark a m) (λ b. (eqb b a && t) || m b)
    (λ b. ap (λ z. z || m b) (both (eqb b a) t e))
  where
    both : (x z : Bool) → z ≡ true → x ≡ (x && z)
    both true z q = sym q
    both false z q = refl

marks_fixed : (a : ℕ) (t : Bool) (m : Marks) → t ≡ false → m ≡ (λ b. (eqb b a && t) || m b)
marks_fixed a t m e = same_marks m (λ b. (eqb b a && t) || m b) (λ b. ap (λ z. z || m b) (sym (none (eqb b a) t e)))
  where
    none : (x z : Bool) → z ≡ false → (x && z) ≡ false
    none true z q = q
    none false z q = refl

-- a look at a record, as a call
pub see_done : {S : Type 0} (me : Side) (a k : ℕ) (m m1 : Meaning) (r r1 : ℕ) (b b1 : Books S) (p p1 : Progress S)
    (o o1 : LastStop) → runs_at b.hands.items k ≡ false → Has (sees m k) a → Looks a k m m1 → r1 ≡ r → b1 ≡ b →
    p1 ≡ p → o1 ≡ o → o.stopped ≡ None
    → SegDoes k me (Read a) (holding m r b p o) (at (sees m k) a) (holding m1 r1 b1 p1 o1)
see_done {S} me a k m m1 r r1 b b1 p p1 o o1 out there h er eb ep eo live =
    let s = looks_same a k m m1 h in
    let tracked = is_tracked (at (sees m k) a).kind in
    let looked : (m1.part k).looked ≡ (λ c. (eqb c a && tracked) || (m.part k).looked c) = elim (cases_Bool tracked) [
      | inl y ↦ looks_mark a k m m1 there y h ∙ marks_tracked a tracked (m.part k).looked y
      | inr y ↦ ap (λ (z : Meaning). (z.part k).looked)
          (h ∙ cond-true (is_noted (sees m k a) ((m.part k).looked a)) m (after_mark k a m)
          (noted_fixed (sees m k) a ((m.part k).looked a) there y)) ∙ marks_fixed a tracked (m.part k).looked y
    ] in
    let e : Hold S = holding m1 r b p o in
    let sights : sight k e ≡ looked_at a (at (sees m k) a) (sight k (holding m r b p o)) = λ i.
    record (sight k e) { heap = s.0 i; looked = looked i; touched = s.1 i; made = s.2 i } in
    let base : SegDoes k me (Read a) (holding m r b p o) (at (sees m k) a) (holding m1 r b p o) =
    ((at_there (sees m k) a there, sights), looks_beside me a k m m1 r b p o o out h, live) in
    subst (λ z. SegDoes k me (Read a) (holding m r b p o) (at (sees m k) a) (holding m1 z b1 p1 o1)) (sym er)
    (subst (λ z. SegDoes k me (Read a) (holding m r b p o) (at (sees m k) a) (holding m1 r z p1 o1)) (sym eb)
    (subst (λ z. SegDoes k me (Read a) (holding m r b p o) (at (sees m k) a) (holding m1 r b z o1)) (sym ep)
    (subst (λ z. SegDoes k me (Read a) (holding m r b p o) (at (sees m k) a) (holding m1 r b p z)) (sym eo) base)))

-- a call that stopped and changed nothing
pub refused_alone : {S : Type 0} (k : ℕ) (me : Side) (c : Call S) (m m1 : Meaning) (r r1 : ℕ) (b b1 : Books S)
    (p p1 : Progress S) (o o1 : LastStop) (s : Halt) → m1 ≡ m → r ≤ r1 → b1 ≡ b → p1 ≡ p → o1 ≡ gave s
    → SegWhy k me s c (sees m k) (holding m r1 b p (gave s)) →
    SegRefuses k me c (holding m r b p o) s (holding m1 r1 b1 p1 o1)
refused_alone {S} k me c m m1 r r1 b b1 p p1 o o1 s em le eb ep eo why =
    let base : SegRefuses k me c (holding m r b p o) s (holding m r1 b p (gave s)) =
    record {
      last = refl;
      beside = beside_stop k me m r r1 b p o (gave s) le;
      why = why;
      looked = λ x h. inl h;
      locks = λ x h. inl h;
    } in
    subst (λ z. SegRefuses k me c (holding m r b p o) s (holding z r1 b1 p1 o1)) (sym em)
    (subst (λ z. SegRefuses k me c (holding m r b p o) s (holding m r1 z p1 o1)) (sym eb)
    (subst (λ z. SegRefuses k me c (holding m r b p o) s (holding m r1 b z o1)) (sym ep)
    (subst (λ z. SegRefuses k me c (holding m r b p o) s (holding m r1 b p z)) (sym eo) base)))

-- what was seen needs no mark
pub seen_noted : {S : Type 0} (a k : ℕ) (d : Hold S) → Seen a k d →
    is_noted (sees d.meaning k a) ((d.meaning.part k).looked a) ≡ true
seen_noted a k d s = ap (λ o. is_noted o ((d.meaning.part k).looked a)) s.is ∙ go (is_tracked s.entry.kind) refl
  where
    go : (t : Bool) → is_tracked s.entry.kind ≡ t → (not (is_tracked s.entry.kind) || (d.meaning.part k).looked a) ≡
        true
    go true e = ap (λ z. not z || (d.meaning.part k).looked a) e ∙ s.noted e
    go false e = ap (λ z. not z || (d.meaning.part k).looked a) e

-- a look changes nothing that is seen
pub see_same : (a k k1 : ℕ) (m m1 : Meaning) → k1 ≡ k → Looks a k m m1 → sees m1 k1 ≡ sees m k
see_same a k k1 m m1 e h = ap (sees m1) e ∙ (looks_same a k m m1 h).0

-- a look that found no memory
pub see_refused : {S : Type 0} (me : Side) (a k : ℕ) (m m1 : Meaning) (r r1 : ℕ) (b b1 : Books S) (p p1 : Progress S)
    (o o1 : LastStop) → o1 ≡ gave OutOfMemory → m1 ≡ m → r1 ≡ r → b1 ≡ b → p1 ≡ p
    → SegRefuses k me (Read a) (holding m r b p o) o1.halt (holding m1 r1 b1 p1 o1)
see_refused {S} me a k m m1 r r1 b b1 p p1 o o1 eo em er eb ep =
    subst (λ z. SegRefuses k me (Read a) (holding m r b p o) z (holding m1 r1 b1 p1 o1)) (sym (ap (λ z. z.halt) eo))
    (refused_alone k me (Read a) m m1 r r1 b b1 p p1 o o1 OutOfMemory em (omega (arith, er)) eb ep eo tt)

-- ---- the search of a dictionary

pub find_done : {S : Type 0} (k : ℕ) (me : Side) (a : ℕ) (key : Value) (d e : Hold S) (o : Option ℕ) →
    CanFind (sees d.meaning k) a key
    → SegDoes k me (Read a) d (at (sees d.meaning k) a) e →
    o ≡ find (sees d.meaning k) (at (sees d.meaning k) a).values key → SegDoes k me (Find a key) d o e
find_done {S} k me a key d e o there h f = ((at (sees d.meaning k) a, h.0.0, fits, f, h.0.1), h.1, h.2)
  where
    fits : Fits (sees d.meaning k) (at (sees d.meaning k) a) key
    fits = subst (λ q. IfThere false q (λ r. Fits (sees d.meaning k) r key)) h.0.0 there

pub find_refused : {S : Type 0} (k : ℕ) (me : Side) (a : ℕ) (key : Value) (d : Hold S) (s : Halt) (e : Hold S) →
    SegRefuses k me (Read a) d s e → SegRefuses k me (Find a key) d s e
find_refused k me a key d s e h = record {
  last = h.last;
  beside = h.beside;
  why = reason s h.why;
  looked =
      h.looked;
  locks = h.locks;
}
  where
    reason : (z : Halt) → SegWhy k me z (Read a) (sees d.meaning k) e → SegWhy k me z (Find a key) (sees d.meaning k) e
    reason (Lost q) w = absurd w.0
    reason NeedSolo w = w
    reason (Full r n l) w = absurd w.0
    reason OutOfMemory w = w
    reason ReadFault w = w
    reason WriteFault w = w
    reason ErrFault w = w

-- ---- a thread that starts

take_front : {X : Type 0} (n : ℕ) (xs ys : List X) → n ≤ length xs → take n (xs ++ ys) ≡ take n xs
take_front zero xs ys h = refl
take_front (suc n) [] ys h = absurd (omega arith)
take_front (suc n) (x ∷ xs) ys h = ap (λ z. x ∷ z) (take_front n xs ys (omega arith))

-- an element more at the end keeps the front
pub front_more : {X : Type 0} (n n1 : ℕ) (xs ys : List X) (x : X) → n1 ≡ n → ys ≡ xs ++ x ∷ [] → n ≤ length xs →
    (n1 ≤ length ys) × (take n1 ys ≡ take n xs)
front_more n n1 xs ys x e f h =
    let l : length ys ≡ length xs + 1 = ap length f ∙ length-append xs (x ∷ []) in
    (omega (arith, e, l), ap (λ z. take z ys) e ∙ ap (take n) f ∙ take_front n xs (x ∷ []) h)

-- room for more threads shows nothing
core_started : {S : Type 0} (w : Worlds) (m : Meaning) (b b1 : Books S) →
    b1 ≡ record b { threads = b1.threads; pending = b1.pending } → b1.threads.entries ≡ b.threads.entries →
    core_of w m b1 ≡ core_of w m b
core_started {S} w m b b1 eb et i = record {
  image = m.image;
  threads = et i;
  world = w.committed;
  history = ap (λ (z : Books S). z.history.entries) eb i;
  conflicts = ap (λ (z : Books S). z.conflicts.entries) eb i;
  begun = ap (λ (z : Books S). z.begun) eb i;
  last = ap (λ (z : Books S). z.last) eb i;
  cause = ap (λ (z : Books S). z.cause) eb i;
  segments = λ j. segment_of w.own (m.part j) (slice_get (ap (λ (z : Books S). z.hands.items) eb i) j);
}

pub start_done : {S : Type 0} (k : ℕ) (me : Side) (m : Meaning) (r : ℕ) (b b1 : Books S) (p p1 : Progress S)
    (o : LastStop) (s : S) → runs_at b.hands.items k ≡ false → o.stopped ≡ None
    → b1 ≡ record b { threads = b1.threads; pending = b1.pending } → b1.threads.entries ≡ b.threads.entries →
    p1 ≡ record p { started = p.started ++ s ∷ [] }
    → SegDoes k me (Start s) (holding m r b p o) tt (holding m r b1 p1 o)
start_done {S} k me m r b b1 p p1 o s out live eb et ep =
    let started : p1.started ≡ p.started ++ s ∷ [] = ap (λ (z : Progress S). z.started) ep in
    let kept : p1.kept_started ≡ p.kept_started = ap (λ (z : Progress S). z.kept_started) ep in
    let names : p1.names ≡ p.names = ap (λ (z : Progress S). z.names) ep in
    let kept_names : p1.kept_names ≡ p.kept_names = ap (λ (z : Progress S). z.kept_names) ep in (
      λ i. record (sight k (holding m r b p o)) { started = started i },
      record {
        saw = refl;
        image = refl;
        segments = refl;
        limit = refl;
        reserved = omega arith;
        hand = ap (λ (z : Books S). slice_get z.hands.items k) eb;
        broken = ap (λ (z : Books S). z.broken) eb;
        dooms = [];
        others = λ w. core_started w m b b1 eb et;
        asked = All-nil (λ (f : Conflict). ⊥);
        kept_names = kept_names;
        kept_started = kept;
        names = λ h. (
          subst (λ z. z ≤ length p1.names) (sym kept_names)
              (subst (λ z. p.kept_names ≤ length z) (sym names) h),
          ap (λ z. take z p1.names) kept_names ∙
              ap (take p.kept_names) names,
        );
        started = λ h. front_more p.kept_started p1.kept_started p.started p1.started s kept started h;
        made = refl;
        looked = λ a h. h;
        locks = λ a h. h;
      },
      live,
    )

-- ---- a record that is made

pub fit_made : {S : Type 0} (k n : ℕ) (q : Rec) (m : Meaning) (b : Books S) (p p1 : Progress S) (a : Addr) →
    Fit k m b p → a.0 ≡ n → p1 ≡ record p { names = p.names ++ a ∷ [] }
    → Fit k (after_make k n q m) b p1
fit_made {S} k n q m b p p1 a f an ep =
    fit_own k m (made n q (m.part k)) b p p1 f
    (ap (λ (z : Progress S). places z.names) ep ∙ places_more p.names a n an ∙ ap (λ l. l ++ n ∷ []) f.own_names)
    (ap (λ (z : Progress S). places (take z.kept_names z.names)) ep ∙
    ap places (take_front p.kept_names p.names (a ∷ []) f.within) ∙ f.kept_names)
    (front_more p.kept_names p1.kept_names p.names p1.names a (ap (λ (z : Progress S). z.kept_names) ep)
    (ap (λ (z : Progress S). z.names) ep) f.within).0
    (λ c l. f.locked k c l) (ap (λ (z : Progress S). length z.started) ep)
  where
    places_more : (xs : List Addr) (x : Addr) (i : ℕ) → x.0 ≡ i → places (xs ++ x ∷ []) ≡ places xs ++ i ∷ []
    places_more [] x i e = ap (λ z. z ∷ []) e
    places_more (y ∷ ys) x i e = ap (λ z. y.0 ∷ z) (places_more ys x i e)

pub make_done : {S : Type 0} (k : ℕ) (me : Side) (m m1 : Meaning) (r r1 : ℕ) (b b1 : Books S) (p p1 : Progress S)
    (o o1 : LastStop) (q : Rec) (a : Addr) → runs_at b.hands.items k ≡ false → o.stopped ≡ None → IsFree m a.0 →
    m1 ≡ after_make k a.0 q m → r ≤ r1
    → b1 ≡ b → p1 ≡ record p { names = p.names ++ a ∷ [] } → o1 ≡ o →
    SegDoes k me (Make q) (holding m r b p o) a.0 (holding m1 r1 b1 p1 o1)
make_done {S} k me m m1 r r1 b b1 p p1 o o1 q a out live free em er eb ep eo =
    let s = make_shows k a.0 q m in
    let none : sees m k a.0 ≡ None = ap (λ z. over z (m.image a.0)) (free.changes k) ∙ free.image in
    let part : m1.part k ≡ made a.0 q (m.part k) = ap (λ (z : Meaning). z.part k) em ∙
    own_part k (made a.0 q (m.part k)) m in
    let heap : sees m1 k ≡ put_at (sees m k) a.0 q = ap (λ z. sees z k) em ∙ s.seen in
    let touched : holds (m1.part k) ≡ with_mark a.0 (holds (m.part k)) = ap (λ (z : Meaning). holds (z.part k)) em ∙
    s.held in
    let looked : (m1.part k).looked ≡ (m.part k).looked = ap (λ (z : Part). z.looked) part in
    let makes : (m1.part k).made ≡ (m.part k).made ++ a.0 ∷ [] = ap (λ (z : Part). z.made) part in
    let started : p1.started ≡ p.started = ap (λ (z : Progress S). z.started) ep in
    let d = holding m r b p o in
    let e = holding m1 r1 b1 p1 o1 in
    let own : Beside k me (λ c. ⊥) d (holding (after_make k a.0 q m) r1 b p o1) =
    beside_own k me m (made a.0 q (m.part k)) r r1 b p o o1 out er refl refl (λ c h. h) (λ c h. h) in
    let moved : Beside k me (λ c. ⊥) d (holding m1 r1 b1 p o1) =
    subst (λ z. Beside k me (λ c. ⊥) d (holding z r1 b1 p o1)) (sym em)
    (subst (λ z. Beside k me (λ c. ⊥) d (holding (after_make k a.0 q m) r1 z p o1)) (sym eb) own) in (
      (
        none,
        λ i. record (sight k e) {
          heap = heap i;
          looked = looked i;
          touched = touched i;
          made = makes i;
          started =
              started i;
        },
      ),
      record {
        saw = moved.saw;
        image = moved.image;
        segments = moved.segments;
        limit = moved.limit;
        reserved = moved.reserved;
        hand = moved.hand;
        broken = moved.broken;
        dooms = moved.dooms;
        others = moved.others;
        asked = moved.asked;
        kept_names = ap (λ (z : Progress S). z.kept_names) ep;
        kept_started = ap (λ (z : Progress S). z.kept_started) ep;
        names = λ h. front_more p.kept_names p1.kept_names p.names p1.names a
            (ap (λ (z : Progress S). z.kept_names) ep) (ap (λ (z : Progress S). z.names) ep) h;
        started = λ h. (
          subst (λ (z : Progress S). z.kept_started ≤ length z.started) (sym ep) h,
          ap (λ (z : Progress S). take z.kept_started z.started) ep,
        );
        made = moved.made;
        looked = moved.looked;
        locks = moved.locks;
      },
      ap (λ z. z.stopped) eo ∙ live,
    )

pub make_refused : {S : Type 0} (k : ℕ) (me : Side) (m m1 : Meaning) (r r1 : ℕ) (b b1 : Books S) (p p1 : Progress S)
    (o o1 : LastStop) (q : Rec) (x : StoreFault) → m1 ≡ m → r ≤ r1 → b1 ≡ b → p1 ≡ p → o1 ≡ gave (halt_of x)
    → FaultWhy (Wants None q) r1 m.limit x →
    SegRefuses k me (Make q) (holding m r b p o) o1.halt (holding m1 r1 b1 p1 o1)
make_refused {S} k me m m1 r r1 b b1 p p1 o o1 q x em er eb ep eo why =
    subst (λ z. SegRefuses k me (Make q) (holding m r b p o) z (holding m1 r1 b1 p1 o1)) (sym (ap (λ z. z.halt) eo))
    (refused_alone k me (Make q) m m1 r r1 b b1 p p1 o o1 (halt_of x) em er eb ep eo (reason x why))
  where
    reason : (y : StoreFault) → FaultWhy (Wants None q) r1 m.limit y →
        SegWhy k me (halt_of y) (Make q) (sees m k) (holding m r1 b p (gave (halt_of x)))
    reason (FullStore u n l) w = w
    reason NoMemoryLeft w = tt

-- a thread that can't be started
pub start_refused : {S : Type 0} (k : ℕ) (me : Side) (x : S) (m m1 : Meaning) (r r1 : ℕ) (b b1 b2 : Books S)
    (p p1 p2 : Progress S) (o o1 : LastStop) → o1 ≡ gave OutOfMemory → m1 ≡ m → r1 ≡ r
    → b1 ≡ record b { threads = b1.threads; pending = b1.pending } → b1.threads.entries ≡ b.threads.entries → b2 ≡ b1 →
    p1 ≡ p → p2 ≡ p1 → SegRefuses k me (Start x) (holding m r b p o) o1.halt (holding m1 r1 b2 p2 o1)
start_refused {S} k me x m m1 r r1 b b1 b2 p p1 p2 o o1 eo em er eb et eb2 ep ep2 =
    let base : SegRefuses k me (Start x) (holding m r b1 p (gave OutOfMemory)) OutOfMemory
    (holding m r b1 p (gave OutOfMemory)) =
    record {
      last = refl;
      beside = beside_stop k me m r r b1 p (gave OutOfMemory) (gave OutOfMemory) (omega arith);
      why = tt;
      looked = λ a h. inl h;
      locks = λ a h. inl h;
    } in
    let full : SegRefuses k me (Start x) (holding m r b p o) OutOfMemory (holding m r b1 p (gave OutOfMemory)) =
    record {
      last = refl;
      beside = record {
        saw = refl;
        image = refl;
        segments = refl;
        limit = refl;
        reserved = omega arith;
        hand = ap (λ (z : Books S). slice_get z.hands.items k) eb;
        broken = ap (λ (z : Books S). z.broken) eb;
        dooms = [];
        others = λ w. core_started w m b b1 eb et;
        asked = All-nil (λ (f : Conflict). ⊥);
        kept_names = refl;
        kept_started = refl;
        names = λ h. (h, refl);
        started = λ h. (h, refl);
        made = refl;
        looked = λ a h. h;
        locks = λ a h. h;
      };
      why = tt;
      looked = λ a h. inl h;
      locks = λ a h. inl h;
    } in
    subst (λ z. SegRefuses k me (Start x) (holding m r b p o) z (holding m1 r1 b2 p2 o1)) (sym (ap (λ z. z.halt) eo))
    (subst (λ z. SegRefuses k me (Start x) (holding m r b p o) OutOfMemory (holding z r1 b2 p2 o1)) (sym em)
    (subst (λ z. SegRefuses k me (Start x) (holding m r b p o) OutOfMemory (holding m z b2 p2 o1)) (sym er)
    (subst (λ z. SegRefuses k me (Start x) (holding m r b p o) OutOfMemory (holding m r z p2 o1)) (sym eb2)
    (subst (λ z. SegRefuses k me (Start x) (holding m r b p o) OutOfMemory (holding m r b1 z o1)) (sym (ep2 ∙ ep))
    (subst (λ z. SegRefuses k me (Start x) (holding m r b p o) OutOfMemory (holding m r b1 p z)) (sym eo) full)))))

-- the name that was put in the place made for it
pub name_set : {X : Type 0} (xs ys zs : List X) (x y : X) (n : ℕ) → ys ≡ xs ++ x ∷ [] → n ≡ length xs →
    zs ≡ slice_set ys n y → zs ≡ xs ++ y ∷ []
name_set {X} xs ys zs x y n e l s = s ∙ ap (λ w. slice_set w n y) e ∙ ap (λ w. slice_set (xs ++ x ∷ []) w y) l ∙
    at_end xs
  where
    at_end : (ws : List X) → slice_set (ws ++ x ∷ []) (length ws) y ≡ ws ++ y ∷ []
    at_end [] = refl
    at_end (w ∷ ws) = ap (λ z. w ∷ z) (at_end ws)

-- a record of which something is asked is there
pub asked_there : (h : Heap) (a : ℕ) (P : Rec → Type 0) → IfThere false (h a) P → Has h a
asked_there h a P t = go (h a) t
  where
    go : (o : Option Rec) → IfThere false o P → IsSome o
    go None x = absurd (both_ways false refl x)
    go (Some r) x = refl

-- what a segment sees is stored
pub stored_at : (r : ℕ) (m : Meaning) (k a : ℕ) → IsStore r m → Has (sees m k) a → IsStored (at (sees m k) a)
stored_at r m k a s there = go ((m.part k).changes a) (m.image a) refl refl
  where
    none_there : (o : Option Rec) → o ≡ None → IsSome o → ⊥
    none_there None h t = cc
    none_there (Some q) h t = cc

    go : (o i : Option Rec) → (m.part k).changes a ≡ o → m.image a ≡ i → IsStored (at (sees m k) a)
    go (Some q) i e f = subst IsStored (sym (at_is (sees m k) a q (ap (λ z. over z (m.image a)) e)))
        ((s.stored_changes k).each a q e)
    go None (Some q) e f = subst IsStored (sym (at_is (sees m k) a q (ap (λ z. over z (m.image a)) e ∙ f)))
        (s.stored.each a q f)
    go None None e f = absurd (none_there (sees m k a) (ap (λ z. over z (m.image a)) e ∙ f) there)

-- the counts of values and bytes, by the kind
pub count_str : (r : Rec) → IsStored r → r.kind ≡ StrKind → length r.values ≡ 0
count_str r s e = ap length (subst (λ z. OneList z r.values r.bytes) e s.one)

pub count_values : (x : Kind) (vs : List Value) (bs : List ℕ) → x ≢ StrKind → length_by x vs bs ≡ length vs
count_values StrKind vs bs n = absurd (n refl)
count_values _ vs bs n = refl

pub count_bytes : (x : Kind) (vs : List Value) (bs : List ℕ) → OneList x vs bs → x ≢ StrKind → length bs ≡ 0
count_bytes StrKind vs bs o n = absurd (n refl)
count_bytes _ vs bs o n = ap length o

pub count_of_str : (x : Kind) (vs : List Value) (bs : List ℕ) → x ≡ StrKind → length_by x vs bs ≡ length bs
count_of_str x vs bs e = ap (λ z. length_by z vs bs) e

-- the place made for a name is given back
pub name_back : {X : Type 0} (xs ys zs : List X) (x : X) (n : ℕ) → ys ≡ xs ++ x ∷ [] → n ≡ length xs → zs ≡ take n ys →
    zs ≡ xs
name_back {X} xs ys zs x n e l t = t ∙ ap (take n) e ∙ ap (λ z. take z (xs ++ x ∷ [])) l ∙ front xs
  where
    front : (ws : List X) → take (length ws) (ws ++ x ∷ []) ≡ ws
    front [] = refl
    front (w ∷ ws) = ap (λ z. w ∷ z) (front ws)
