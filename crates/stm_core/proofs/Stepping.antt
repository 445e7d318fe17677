-- What a segment's view shows of its transaction, as the core sees it, and its dooms of others as moves.
use Rattle.std.proofs.Common.{◌≡◌, ◌≢◌, ℕ, suc, Bool, true, false, cond, ◌||◌, eqb, List, [], ◌∷◌, slice_get, map, Option, Some, None, refl, sym, ◌∙◌, ap, subst, inl, inr, is_some, arith, All}
use Rattle.std.proofs.lemmas.List.Elements.{All-head, All-tail}
use Rattle.std.proofs.lemmas.Bool.{cases_Bool, both_ways, or_left, or_right, eqb-true, eq-eqb, ne_eqb, cond-true, cond-false, and_parts}
use Rattle.py_data.specs.declared.stop.Side.{Side}
use Rattle.py_data.specs.declared.stop.Conflict.{Conflict}
use Rattle.py_data.specs.Heap.{Rec, Heap, is_tracked}
use Rattle.py_data.specs.World.{World}
use Rattle.py_data.specs.Collection.{places}
use Rattle.py_data.specs.Sight.{Does, mem}
use Rattle.lock_run.specs.declared.client.Outcome.{Outcome}
use Rattle.lock_run.specs.declared.client.Outcome.TheVariants.{Waits as WaitsNow}
use Rattle.lock_run.specs.declared.client.Life.TheVariants.{Lives}
use Rattle.lock_run.specs.Prog.{Prog}
use Rattle.seg_store.specs.Meaning.{Part, Meaning, sees, holds, over}
use Rattle.seg_store.specs.Store.{IsStore}
use Rattle.stm_segment.specs.declared.books.Work.{Work}
use Rattle.stm_segment.specs.declared.books.Hand.{Hand}
use Rattle.stm_segment.specs.declared.books.Hand.TheVariants.{Idle as IdleHand, Doomed as DoomedHand, Runs}
use Rattle.stm_segment.specs.declared.books.Books.{Books}
use Rattle.stm_segment.specs.CoreState.{Transaction, Segment, Doomed, Running, CoreState, no_world, owned, sight_of, set_segment, with_segment, with_conflict}
use Rattle.stm_segment.specs.Conflict.{loser, winner, wins, side, IsMet, IsStanding}
use Rattle.stm_core.specs.Good.{IsLocked}
use Rattle.stm_segment.specs.Asking.{Reaches, AsksToChange}
use Rattle.stm_core.specs.Moves.{Advances, IsFree, Dooms as DoomsMove, Follows}
use Rattle.stm_segment.specs.Books.{WorkFits, is_lock, Worlds, transaction, segment_of, core_of}
use Rattle.stm_segment.specs.inner.Hold.{Hold, sight, Dooms}
use Rattle.stm_core.proofs.Way.{at_used}

-- ---- the transaction of the segment

-- a lock, in words
pub locked_is : (image : Heap) (p : Part) (a : ℕ) → is_lock (image a) (p.looked a) ≡ true → IsLocked image p.looked a
locked_is image p a h = go (image a) refl h
  where
    go : (o : Option Rec) → image a ≡ o → is_lock o (p.looked a) ≡ true → IsLocked image p.looked a
    go None e t = absurd (both_ways false refl t)
    go (Some q) e t = let x = and_parts (is_tracked q.kind) (p.looked a) t in
        record { entry = q; is = e; tracked = x.0; marked = x.1 }

-- what the transaction owns is what the store says that the segment holds
pub owned_is : {S : Type 0} (w : World) (p : Part) (x : Work S) → places x.progress.names ≡ p.made →
    owned (transaction w p x) ≡ holds p
owned_is w p x e i a = mem a p.changed || mem a (e i)

-- what isn't held isn't changed
pub unchanged : (r : ℕ) (m : Meaning) (k a : ℕ) → IsStore r m → holds (m.part k) a ≡ false → (m.part k).changes a ≡ None
unchanged r m k a s h = go ((m.part k).changes a) (s.changes k a ∙ h)
  where
    go : (o : Option Rec) → is_some o ≡ false → o ≡ None
    go None e = refl
    go (Some q) e = absurd (both_ways true e refl)

-- the world in which a transaction makes its steps
abbrev pub world_of : Worlds → Bool → World
world_of w solo = cond solo w.own w.committed

-- it is the one that it goes into its next step with
world_there : (w : Worlds) (solo : Bool) → world_of w solo ≡ cond solo (cond solo w.own no_world) w.committed
world_there w true = refl
world_there w false = refl

-- the sight of the transaction is the one that the view shows
pub sight_is : {S : Type 0} (w : Worlds) (k : ℕ) (m : Meaning) (x : Work S) (d : Hold S) →
    places x.progress.names ≡ (m.part k).made → sees d.meaning k ≡ sees m k →
    (d.meaning.part k).looked ≡ (m.part k).looked
    → holds (d.meaning.part k) ≡ holds (m.part k) → (d.meaning.part k).made ≡ (m.part k).made →
    d.progress.started ≡ x.progress.started → at_used (world_of w x.solo) x.solo (sight k d) ≡ sight_of m.image
    w.committed (transaction w.own (m.part k) x)
sight_is {S} w k m x d names heap looked held made started i = record {
  heap = heap i;
  looked = looked i;
  touched = (held ∙ sym (owned_is w.own (m.part k) x names)) i;
  made = (made ∙ sym names) i;
  started = started i;
  world = world_there w x.solo i;
  used = x.solo;
}

-- one step more, which leads a solo transaction to the world `own`
pub advances : {S : Type 0} (prog : Prog S) (w : Worlds) (own : World) (k : ℕ) (m m1 : Meaning) (r1 : ℕ)
    (x x1 : Work S) (d e : Hold S) (o : Outcome) (w1 : World) (u1 : Bool) → prog.life x.state ≡ Lives → (o ≢ WaitsNow)
    → Does (prog.row x.state) (at_used (world_of w x.solo) x.solo (sight k d)) (o, x1.state)
    (at_used w1 u1 (sight k e)) → at_used (world_of w x.solo) x.solo (sight k d) ≡ sight_of m.image w.committed
    (transaction w.own (m.part k) x)
    → e.meaning ≡ m1 → e.progress.started ≡ x1.progress.started → m1.image ≡ m.image →
    places x1.progress.names ≡ (m1.part k).made → IsStore r1 m1 →
    ((a : ℕ) → mem a (m1.part k).changed ≡ true → is_lock (m1.image a) ((m1.part k).looked a) ≡ true)
    → x1.thread ≡ x.thread → x1.begun ≡ x.begun → x1.steps ≡ suc x.steps → x1.solo ≡ x.solo →
    (x.solo ≡ true → own ≡ w1) → (x.solo ≡ false → u1 ≡ false) →
    Advances prog m.image w.committed (transaction w.own (m.part k) x) (transaction own (m1.part k) x1)
advances {S} prog w own k m m1 r1 x x1 d e o w1 u1 lives goes does start em es im names st locks th be sp so world
    quiet =
    let held = owned_is own (m1.part k) x1 names in
    record {
      sight = at_used w1 u1 (sight k e);
      step = record {
        lives = lives;
        outcome = o;
        goes_on = goes;
        does =
            subst (λ s. Does (prog.row x.state) s (o, x1.state) (at_used w1 u1 (sight k e))) start does;
      };
      thread = th;
      begun = be;
      solo = so;
      steps = sp;
      shows = record {
        view = λ a. ap (λ (z : Meaning). sees z k a) em ∙ ap (λ (h : Heap). over ((m1.part k).changes a) (h a)) im;
        made = ap (λ (z : Meaning). (z.part k).made) em ∙ sym names;
        started = es;
        looked = λ a h. sym (ap (λ (z : Meaning). (z.part k).looked a) em) ∙ h;
        touched = λ a h. ap (λ f. f a) held ∙ sym (ap (λ (z : Meaning). holds (z.part k) a) em) ∙ h;
        within = λ a h. unchanged r1 m1 k a st (sym (ap (λ f. f a) held) ∙ h);
        locked = λ a h. let l = locked_is m1.image (m1.part k) a (locks a h) in
            record {
              entry = l.entry;
              is = sym (ap (λ (z : Heap). z a) im) ∙ l.is;
              tracked = l.tracked;
              marked =
                  l.marked;
            };
        unused = λ a h. sym (ap (λ (z : Heap). z a) im) ∙ st.unused k a (sym (ap (mem a) names) ∙ h);
        world_is = λ h. sym (world (sym so ∙ h)) ∙ sym (cond-true x1.solo own no_world h);
        quiet = λ h. quiet (sym so ∙ h);
      };
    }

-- its locks and names are no other's
pub is_free : {S : Type 0} (w : Worlds) (k r : ℕ) (m : Meaning) (b : Books S) (x : Work S) → IsStore r m →
    places x.progress.names ≡ (m.part k).made →
    ((j : ℕ) (z : Work S) → slice_get b.hands.items j ≡ Some (Runs z) → WorkFits (m.part j) z)
    → IsFree (core_of w m b) k (transaction w.own (m.part k) x)
is_free {S} w k r m b x s names others = record {
  changed = λ j y n e a h. let q = of_other j y e in
      ap (λ (z : Transaction S). mem a z.changed) (sym q.1) ∙
      first_false (mem a (m.part j).changed) (mem a (m.part j).made)
      (s.apart k j a (λ z. n (sym z)) (or_left (mem a (m.part k).changed) (mem a (m.part k).made) h));
  made = λ j y n e a h. let q = of_other j y e in
      ap (λ (z : Transaction S). mem a (places z.made)) (sym q.1) ∙ ap (mem a) (others j q.0 q.2).names
      ∙ last_false (mem a (m.part j).changed) (mem a (m.part j).made)
      (s.apart k j a (λ z. n (sym z))
      (or_right (mem a (m.part k).changed) (mem a (m.part k).made) (sym (ap (mem a) names) ∙ h)));
}
  where
    first_false : (p q : Bool) → (p || q) ≡ false → p ≡ false
    first_false false q e = refl
    first_false true q e = e

    last_false : (p q : Bool) → (p || q) ≡ false → q ≡ false
    last_false false q e = e
    last_false true q e = absurd (both_ways true e refl)

    of_other : (j : ℕ) (y : Transaction S) → segment_of w.own (m.part j) (slice_get b.hands.items j) ≡ Running y →
        (z : Work S) × (transaction w.own (m.part j) z ≡ y) × (slice_get b.hands.items j ≡ Some (Runs z))
    of_other j y e = go (slice_get b.hands.items j) refl e
      where
        go : (o : Option (Hand S)) → slice_get b.hands.items j ≡ o → segment_of w.own (m.part j) o ≡ Running y →
            (z : Work S) × (transaction w.own (m.part j) z ≡ y) × (slice_get b.hands.items j ≡ Some (Runs z))
        go None f h = absurd cc
        go (Some IdleHand) f h = absurd cc
        go (Some (DoomedHand c)) f h = absurd cc
        go (Some (Runs z)) f h = (z, cc, f)

-- ---- dooms of other segments

-- two segments set, one after the other
pub set_swap : {S : Type 0} (i j : ℕ) (s r : Segment S) (f : ℕ → Segment S) → i ≢ j →
    set_segment i s (set_segment j r f) ≡ set_segment j r (set_segment i s f)
set_swap {S} i j s r f n q x = at x q
  where
    at : (x : ℕ) → set_segment i s (set_segment j r f) x ≡ set_segment j r (set_segment i s f) x
    at x = elim (cases_Bool (eqb x i)) [
      | inl y ↦ let d : eqb x j ≡ false = ne_eqb x j (λ e. n (sym (eqb-true x i y) ∙ e)) in
          cond-true (eqb x i) s (cond (eqb x j) r (f x)) y ∙
          sym (cond-false (eqb x j) r (cond (eqb x i) s (f x)) d ∙ cond-true (eqb x i) s (f x) y)
      | inr y ↦ cond-false (eqb x i) s (cond (eqb x j) r (f x)) y ∙
          ap (cond (eqb x j) r) (sym (cond-false (eqb x i) s (f x) y))
    ]

-- the conflicts by which the transaction x of segment k, whose next step asked for it, doomed others are moves
pub dooms_moves : {S : Type 0} (prog : Prog S) (most k : ℕ) (x : Transaction S) (fs : List Conflict)
    (c c1 : CoreState S) → Dooms k (side k x) fs c c1
    → All (λ (f : Conflict). Reaches (prog.row x.state) (sight_of c.image c.world x) (AsksToChange f.at.0)) fs
    → Follows prog most (with_segment k (Running x) c) (map DoomsMove fs) (with_segment k (Running x) c1)
dooms_moves prog most k x [] c c1 h asked = ap (with_segment k (Running x)) h
dooms_moves {S} prog most k x (f ∷ fs) c c1 h asked =
    let o = h.1 in
    let q = o.meets in
    let u = h.0 in
    let P : CoreState S → Conflict → Type 0 = λ z g. Reaches (prog.row x.state) (sight_of z.image z.world x)
    (AsksToChange g.at.0) in
    let here : (with_segment k (Running x) c).segments k ≡ Running x =
    cond-true (eqb k k) (Running x) (c.segments k) (eq-eqb k k refl) in
    let lose : loser f ≡ f.writer = cond-true (eqb f.lost 0) f.writer f.other (eq-eqb f.lost 0 o.lost) in
    let win : winner f ≡ f.other = cond-true (eqb f.lost 0) f.other f.writer (eq-eqb f.lost 0 o.lost) in
    let at_k : f.other.segment ≡ k = ap (λ (z : Side). z.segment) q.other in
    let other : f.other ≡ side f.other.segment x = q.other ∙ ap (λ i. side i x) (sym at_k) in
    let stands : IsStanding prog (with_segment k (Running x) c) f = record {
      x = q.writer;
      y = x;
      writes = cond-false (eqb f.writer.segment k) (Running x) (c.segments f.writer.segment)
          (ne_eqb f.writer.segment k q.differ) ∙ q.writes;
      reads = ap (with_segment k (Running x) c).segments at_k ∙ here;
      is = λ i. record { at = f.at; writer = q.writer_is i; other = other i; asks = f.asks; lost = f.lost };
      differ = λ e. q.differ (e ∙ at_k);
      held = q.held;
      met = subst (IsMet prog c.image c.world x f.at.0) (sym q.asks) (All-head (P c) f fs asked);
      lost = let l = o.lost in omega (arith, l);
      loses = ap (λ z. wins z (loser f)) win ∙ ap (λ z. wins z (loser f)) q.other ∙ ap (wins (side k x)) lose ∙
          o.winning;
    } in
    let gives : with_segment k (Running x) u ≡ with_conflict f
    (with_segment (loser f).segment (Doomed f) (with_segment k (Running x) c)) =
    ap (with_segment k (Running x)) o.gives ∙
    (λ i. record (with_conflict f c)
    { segments = set_swap k f.writer.segment (Running x) (Doomed f) c.segments (λ e. q.differ (sym e)) i })
    ∙ ap (λ (z : Side). with_conflict f (with_segment z.segment (Doomed f) (with_segment k (Running x) c))) (sym lose)
    in (
      with_segment k (Running x) u,
      (stands, gives),
      dooms_moves prog most k x fs u c1 h.2 (subst (λ z. All (P z) fs) (sym o.gives) (All-tail (P c) f fs asked)),
    )
