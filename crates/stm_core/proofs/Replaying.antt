-- The changes of a piece, made in a store one after another, are what its steps leave.
use Rattle.std.proofs.Common.{◌≡◌, ◌≢◌, ℕ, ◌+◌, true, false, cond, eqb, List, [], ◌∷◌, drop, slice_get, Option, Some, None, IsSome, is_some, refl, sym, ◌∙◌, ap, subst, inl, inr}
use Rattle.std.proofs.lemmas.Bool.{cases_Bool, both_ways, cond-true, cond-false, eqb-true, eqb-false, eq-eqb}
use Rattle.std.proofs.lemmas.List.Elements.{All-weaker}
use Rattle.py_base.specs.declared.kind.Kind.{Kind}
use Rattle.py_data.specs.declared.value.Addr.{Addr}
use Rattle.py_data.specs.declared.value.Value.{Value}
use Rattle.py_data.specs.declared.value.Value.TheVariants.{Unset, None as NoneValue, Bool as BoolValue, Int, Ref, Builtin}
use Rattle.py_data.specs.declared.change.Change.{Change}
use Rattle.py_data.specs.declared.change.Change.TheVariants.{Set, Push, Cut, Pair, Unpair}
use Rattle.py_data.specs.Changes.{after, Suits}
use Rattle.py_data.specs.Collection.{places}
use Rattle.py_data.specs.Heap.{Rec, Heap, Marks, Has, at, put_at}
use Rattle.py_data.specs.Row.{Edit}
use Rattle.py_data.specs.Sense.{IsPart, IfThere}
use Rattle.py_data.specs.Shape.{is_key_kind, KindIn, IsKey, ArePairs, Fits as FitsKey}
use Rattle.py_data.proofs.Mirror.{find_there}
use Rattle.py_data.proofs.Parts.{effect_part}
use Rattle.py_data.proofs.Steps.{at_is}
use Rattle.lock_run.specs.Prog.{Prog}
use Rattle.lock_run.specs.Machine.{Machine}
use Rattle.seg_store.specs.Meaning.{Part, Meaning, over, sees, holds}
use Rattle.seg_store.specs.Calls.{changed, opened, undone, after_change, after_open, after_undo}
use Rattle.seg_store.specs.Store.{Where, CanChange, IsFull}
use Rattle.seg_store.proofs.Sees.{own_part, other_part, change_shows}
use Rattle.stm_pieces.specs.Piece.{IsPiece}
use Rattle.stm_pieces.specs.Replay.{MayChange, Replays}
use Rattle.stm_segment.specs.declared.books.Work.{Work}
use Rattle.stm_segment.specs.declared.books.Books.{Books}
use Rattle.stm_segment.specs.Books.{Worlds, transaction, segment_of, core_of}
use Rattle.stm_segment.specs.CoreState.{Transaction, Segment, Running, CoreState, owned, with_segment}
use Rattle.stm_core.specs.Good.{Good}
use Rattle.stm_core.specs.Moves.{Follows, Move, Begins, Drops, Dooms, Loses, Goes, Rests, Commits, Keeps}
use Rattle.stm_core.specs.Outside.{Outer, Kept, OuterLed}
use Rattle.stm_core.specs.Pieces.{IsLoan, Fits, FitsSegment, IsOwnStep, HasInstalled}
use Rattle.stm_core.specs.inner.Replayed.{replayed, CanReplay, OnlyChanges}
use Rattle.stm_core.specs.inner.Trying.{core_with}
use Rattle.stm_core.proofs.Installing.{Moved, install_law, over_some, again}
use Rattle.stm_core.proofs.InnerMoves.{IsGoing, going_led}
use Rattle.stm_core.proofs.OutsideLemmas.{kept_after, solo_told}
use Rattle.stm_core.proofs.Settling.{runs_with}
use Rattle.stm_core.proofs.Stepping.{owned_is}

-- ---- what suits a part suits the whole

module _ (g h : Heap) (part : IsPart g h) where
  kind_over : (a : ℕ) (o : Option Rec) → g a ≡ o → (P : Kind → Type 0) → KindIn o P → KindIn (h a) P
  kind_over a None e P i = absurd i
  kind_over a (Some r) e P i = subst (λ x. KindIn x P) (sym (part a r e)) i

  key_over : (v : Value) → IsKey g v → IsKey h v
  key_over (Ref a) i = kind_over a.0 (g a.0) refl (λ k. is_key_kind k ≡ true) i
  key_over Unset i = absurd i
  key_over NoneValue i = tt
  key_over (BoolValue b) i = tt
  key_over (Int n) i = tt
  key_over (Builtin b) i = tt

  pairs_over : (vs : List Value) → ArePairs g vs → ArePairs h vs
  pairs_over [] i = tt
  pairs_over (k ∷ []) i = absurd i
  pairs_over (k ∷ v ∷ rest) i = (key_over k i.0, pairs_over rest i.1)

  -- a key can be looked for
  pub fits_over : (r : Rec) (key : Value) → FitsKey g r key → FitsKey h r key
  fits_over r key f = (f.0, key_over key f.1, pairs_over r.values f.2)

  -- a change of a record suits
  pub suits_over : (c : Change) (r : Rec) → Suits false g c r → Suits false h c r
  suits_over (Set i x) r s = s
  suits_over (Push x) r s = tt
  suits_over (Cut n) r s = tt
  suits_over (Pair key x) r s = (
    fits_over r key s.0,
    find_there g h (λ b q is f. part b q is) 0 r.values key s.0.2 s.0.1 ∙ s.1,
  )
  suits_over (Unpair n) r s = tt

-- ---- one change

is_where : (h : Heap) (a : ℕ) (r : Rec) (P : Rec → Type 0) → h a ≡ Some r → P r → Where h a P
is_where h a r P e x = subst (λ o. IfThere false o P) (sym e) x

where_is : (h : Heap) (a : ℕ) (r : Rec) (P : Rec → Type 0) → h a ≡ Some r → Where h a P → P r
where_is h a r P e x = subst (λ o. IfThere false o P) e x

-- Segment k of m sees the records g, and holds those that are locked. It has changed just what it holds.
pub record Carries (k : ℕ) (locked : Marks) (g : Heap) (m : Meaning) : Type 0 where
  pub part : IsPart g (sees m k)
  pub held : (a : ℕ) → locked a ≡ true → holds (m.part k) a ≡ true
  pub whole : (a : ℕ) → is_some ((m.part k).changes a) ≡ holds (m.part k) a

-- A change of the record a of segment k is one of its changes alone; at other addresses it leaves these as they were.
module _ (k a : ℕ) (f : Rec → Rec) (m : Meaning) where
  changed_part : (after_change k a f m).part k ≡ changed a (f (at (sees m k) a)) (m.part k)
  changed_part = own_part k (changed a (f (at (sees m k) a)) (m.part k)) m

  pub only_change : OnlyChanges k m (after_change k a f m)
  only_change = record {
    image = refl;
    segments = refl;
    limit = refl;
    own = changed_part ∙ ap (λ c. record (m.part k) { changes = c }) (sym (ap (λ (p : Part). p.changes) changed_part));
    others = other_part k (changed a (f (at (sees m k) a)) (m.part k)) m;
  }

  changes_there : (b : ℕ) → eqb b a ≡ false → ((after_change k a f m).part k).changes b ≡ (m.part k).changes b
  changes_there b e = ap (λ (p : Part). p.changes b) changed_part ∙
      cond-false (eqb b a) (Some (f (at (sees m k) a))) ((m.part k).changes b) e

  some_still : is_some ((m.part k).changes a) ≡ true → (b : ℕ) →
      is_some (((after_change k a f m).part k).changes b) ≡ is_some ((m.part k).changes b)
  some_still s b = elim (cases_Bool (eqb b a)) [
    | inl y ↦ ap (λ (p : Part). is_some (p.changes b)) changed_part ∙
        ap is_some (cond-true (eqb b a) (Some (f (at (sees m k) a))) ((m.part k).changes b) y) ∙
        sym (ap (λ c. is_some ((m.part k).changes c)) (eqb-true b a y) ∙ s)
    | inr n ↦ ap is_some (changes_there b n)
  ]

module _ (k : ℕ) (locked : Marks) (g : Heap) (m : Meaning) (a : ℕ) (c : Change) (q : Rec)
    (carries : Carries k locked g m) (may : MayChange locked g a c q) where
  there : sees m k a ≡ Some q
  there = carries.part a q may.is

  is_held : holds (m.part k) a ≡ true
  is_held = carries.held a may.locked_is

  -- the store can make it, and the record doesn't outgrow its room
  can_change : CanChange (sees m k) a c
  can_change = is_where (sees m k) a q _ there (may.allows, suits_over g (sees m k) carries.part c q may.suits)

  not_full : IsFull (sees m k) a c → ⊥
  not_full full = may.roomy (where_is (sees m k) a q _ there full)

  part_after : IsPart (put_at g a (after c q)) (sees (after_change k a (after c) m) k)
  part_after =
      let has : Has g a = subst IsSome (sym may.is) refl in
      let d = effect_part {S = Unit {0}} (Edit a c) g (sees m k) tt (put_at g a (after c q)) carries.part
      (has, ap (λ r. put_at g a (after c r)) (sym (at_is g a q may.is))) in
      subst (IsPart (put_at g a (after c q))) (d.1.1 ∙ sym (change_shows k a (after c) m).seen) d.2

  some_after : (b : ℕ) →
      is_some (((after_change k a (after c) m).part k).changes b) ≡ is_some ((m.part k).changes b)
  some_after = some_still k a (after c) m (carries.whole a ∙ is_held)

  carries_after : Carries k locked (put_at g a (after c q)) (after_change k a (after c) m)
  carries_after =
      let s = change_shows k a (after c) m in
      record {
        part = part_after;
        held = λ b l. ap (λ h. h b) s.held ∙ carries.held b l;
        whole = λ b. some_after b ∙ (carries.whole b ∙ ap (λ h. h b) (sym s.held));
      }

  -- another record than one that is there
  other_there : (b : ℕ) → g b ≡ None → eqb b a ≡ false
  other_there b e = elim (cases_Bool (eqb b a)) [
    | inl y ↦ absurd (let z : None ≡ Some q = sym e ∙ (ap g (eqb-true b a y) ∙ may.is) in cc)
    | inr n ↦ n
  ]

  none_after : (b : ℕ) → g b ≡ None → put_at g a (after c q) b ≡ None
  none_after b e = cond-false (eqb b a) (Some (after c q)) (g b) (other_there b e) ∙ e

  has_after : (b : ℕ) → Has g b → Has (put_at g a (after c q)) b
  has_after b s = elim (cases_Bool (eqb b a)) [
    | inl y ↦ ap is_some (cond-true (eqb b a) (Some (after c q)) (g b) y)
    | inr n ↦ ap is_some (cond-false (eqb b a) (Some (after c q)) (g b) n) ∙ s
  ]

-- ---- only changes

pub only_same : (k : ℕ) (m : Meaning) → OnlyChanges k m m
only_same k m = record { image = refl; segments = refl; limit = refl; own = refl; others = λ j d. refl }

pub only_then : (k : ℕ) (m m1 m2 : Meaning) → OnlyChanges k m m1 → OnlyChanges k m1 m2 → OnlyChanges k m m2
only_then k m m1 m2 f g = record {
  image = g.image ∙ f.image;
  segments = g.segments ∙ f.segments;
  limit = g.limit ∙ f.limit;
  own = g.own ∙ ap (λ (p : Part). record p { changes = (m2.part k).changes }) f.own;
  others = λ j d. g.others j d ∙ f.others j d;
}

-- a step whose changes are taken back is as it was opened
pub taken_back : (k : ℕ) (m m1 : Meaning) → OnlyChanges k (after_open k m) m1 → after_undo k m1 ≡ after_open k m
taken_back k m m1 f i = record {
  image = f.image i;
  part = λ j. parts j i;
  segments = f.segments i;
  limit = f.limit i;
}
  where
    own : undone (m1.part k) ≡ opened (m.part k)
    own = ap undone (f.own ∙
        ap (λ (p : Part). record p { changes = (m1.part k).changes }) (own_part k (opened (m.part k)) m))

    parts : (j : ℕ) → (after_undo k m1).part j ≡ (after_open k m).part j
    parts j = elim (cases_Bool (eqb j k)) [
      | inl y ↦ cond-true (eqb j k) (undone (m1.part k)) (m1.part j) y ∙
          (own ∙ sym (cond-true (eqb j k) (opened (m.part k)) (m.part j) y))
      | inr n ↦ cond-false (eqb j k) (undone (m1.part k)) (m1.part j) n ∙ f.others j (eqb-false j k n)
    ]

-- ---- all changes of a piece, one after another

module _ (k : ℕ) (locked : Marks) where
  -- the store can make them
  pub can_replay : (es : List (Addr × Change)) (g g1 : Heap) (m : Meaning) → Carries k locked g m →
      Replays locked es g g1 → CanReplay k es m
  can_replay [] g g1 m carries r = tt
  can_replay (e ∷ es) g g1 m carries r = (
    is_held k locked g m e.0.0 e.1 r.0 carries r.1,
    can_change k locked g m e.0.0 e.1 r.0 carries r.1,
    not_full k locked g m e.0.0 e.1 r.0 carries r.1,
    can_replay es (put_at g e.0.0 (after e.1 r.0)) g1 (after_change k e.0.0 (after e.1) m)
        (carries_after k locked g m e.0.0 e.1 r.0 carries r.1) r.2,
  )

  -- what they leave: the segment sees the records g1, and but for these it has what it had
  pub record Left (g g1 : Heap) (m m1 : Meaning) : Type 0 where
    pub carries : Carries k locked g1 m1
    pub only : OnlyChanges k m m1
    pub others : (a : ℕ) → g a ≡ None → (m1.part k).changes a ≡ (m.part k).changes a
    pub some : (a : ℕ) → is_some ((m1.part k).changes a) ≡ is_some ((m.part k).changes a)
    pub has : (a : ℕ) → Has g a → Has g1 a

  pub replay_leaves : (es : List (Addr × Change)) (g g1 : Heap) (m : Meaning) → Carries k locked g m →
      Replays locked es g g1 → Left g g1 m (replayed k es m)
  replay_leaves [] g g1 m carries r = record {
    carries = subst (λ x. Carries k locked x m) (sym r) carries;
    only = only_same k m;
    others = λ a e. refl;
    some = λ a. refl;
    has = λ a s. subst (λ (x : Heap). Has x a) (sym r) s;
  }
  replay_leaves (e ∷ es) g g1 m carries r =
      let g2 = put_at g e.0.0 (after e.1 r.0) in
      let m2 = after_change k e.0.0 (after e.1) m in
      let m1 = replayed k es m2 in
      let l = replay_leaves es g2 g1 m2 (carries_after k locked g m e.0.0 e.1 r.0 carries r.1) r.2 in
      record {
        carries = l.carries;
        only = only_then k m m2 m1 (only_change k e.0.0 (after e.1) m) l.only;
        others = λ a n. l.others a (none_after k locked g m e.0.0 e.1 r.0 carries r.1 a n) ∙
            changes_there k e.0.0 (after e.1) m a (other_there k locked g m e.0.0 e.1 r.0 carries r.1 a n);
        some = λ a. l.some a ∙ some_after k locked g m e.0.0 e.1 r.0 carries r.1 a;
        has = λ a s. l.has a (has_after k locked g m e.0.0 e.1 r.0 carries r.1 a s);
      }

-- ---- the core's state

module _ {S : Type 0} (w : Worlds) (k : ℕ) (m m1 : Meaning) (b : Books S) where
  -- with a segment set, what its part was isn't seen
  pub core_beside : (s : Segment S) → m1.image ≡ m.image → ((j : ℕ) → j ≢ k → m1.part j ≡ m.part j) →
      with_segment k s (core_of w m1 b) ≡ with_segment k s (core_of w m b)
  core_beside s image others i = record (core_of w m b) { image = image i; segments = λ j. same j i }
    where
      same : (j : ℕ) → (with_segment k s (core_of w m1 b)).segments j ≡ (with_segment k s (core_of w m b)).segments j
      same j = elim (cases_Bool (eqb j k)) [
        | inl y ↦ cond-true (eqb j k) s ((core_of w m1 b).segments j) y ∙
            sym (cond-true (eqb j k) s ((core_of w m b).segments j) y)
        | inr n ↦ ap (λ p. cond (eqb j k) s (segment_of w.own p (slice_get b.hands.items j)))
            (others j (eqb-false j k n))
      ]

-- a step that is opened is not seen
pub core_opened : {S : Type 0} (w : Worlds) (k : ℕ) (m : Meaning) (b : Books S) (x : Work S) →
    core_with w k (after_open k m) b x ≡ core_with w k m b x
core_opened w k m b x =
    ap (λ p. with_segment k (Running (transaction w.own p x)) (core_of w (after_open k m) b))
    (own_part k (opened (m.part k)) m)
    ∙ core_beside w k m (after_open k m) b (Running (transaction w.own (m.part k) x)) refl
    (other_part k (opened (m.part k)) m)

-- What a store has of segment k agrees with the work that was taken out of its hand: it names what was made there, and
-- has changed just what it holds.
pub record Backs {S : Type 0} (k : ℕ) (m : Meaning) (x : Work S) : Type 0 where
  pub names : places x.progress.names ≡ (m.part k).made
  pub whole : (a : ℕ) → is_some ((m.part k).changes a) ≡ holds (m.part k) a

-- so it does once a step was opened
backs_opened : {S : Type 0} (k : ℕ) (m : Meaning) (x : Work S) → Backs k m x → Backs k (after_open k m) x
backs_opened k m x h =
    let own = own_part k (opened (m.part k)) m in
    record {
      names = h.names ∙ sym (ap (λ (p : Part). p.made) own);
      whole = λ a. subst (λ (p : Part). is_some (p.changes a) ≡ holds p a) (sym own) (h.whole a);
    }

-- what is loaned of the transaction, as the store has it
carries_loan : {S : Type 0} (v : Worlds) (k : ℕ) (m : Meaning) (x : Work S) (g : Heap) (locked : Marks) → Backs k m x
    → IsLoan m.image (transaction v.own (m.part k) x) g locked → Carries k locked g m
carries_loan v k m x g locked backs loan = record {
  part = loan.part;
  held = λ a l. ap (λ h. h a) (sym (owned_is v.own (m.part k) x backs.names)) ∙ loan.held a l;
  whole = backs.whole;
}

-- the work once a piece of n steps led to the state q
abbrev pub worked : {S : Type 0} → Work S → ℕ → S → Work S
worked x n q = record x { steps = x.steps + n; state = q }

-- ---- the transaction that the store has then

-- what is over the image, where there is something
over_is : (o i : Option Rec) (r : Option Rec) → is_some o ≡ true → over o i ≡ r → o ≡ r
over_is o i r s e = sym (over_some o i s) ∙ e

none_is : (o : Option Rec) → is_some o ≡ false → o ≡ None
none_is None e = refl
none_is (Some r) e = absurd (both_ways true e refl)

module _ {S : Type 0} (p : Prog S) (most k n : ℕ) (w : Worlds) (m m1 : Meaning) (b : Books S) (x : Work S) (q1 : S)
    (g g1 : Heap) (locked : Marks)
    (moved : Moved p most k (core_with w k m b x) (transaction w.own (m.part k) x) g g1 n q1)
    (left : Left k locked g g1 m m1) (backs : Backs k m x) where
  abbrev end : Transaction S
  end = moved.after

  -- what it doesn't hold
  not_held : (a : ℕ) → holds (m.part k) a ≡ false → end.changes a ≡ (m1.part k).changes a
  not_held a h =
      let i = moved.installed in
      let mine : owned (transaction w.own (m.part k) x) a ≡ false =
      ap (λ f. f a) (owned_is w.own (m.part k) x backs.names) ∙ h in
      let same : owned end a ≡ owned (transaction w.own (m.part k) x) a =
      λ j. owned (record end { changed = i.changed j; made = i.made j }) a in
      moved.stands.shows.within a (same ∙ mine) ∙
      sym (none_is ((m1.part k).changes a) (left.some a ∙ (backs.whole a ∙ h)))

  -- what it holds, by whether it was loaned
  held_by : (a : ℕ) → is_some (end.changes a) ≡ true → is_some ((m1.part k).changes a) ≡ true → (o : Option Rec) →
      g a ≡ o → end.changes a ≡ (m1.part k).changes a
  held_by a s t None e =
      over_is (end.changes a) (m.image a) ((m.part k).changes a) s (moved.installed.others a e ∙
      over_some ((m.part k).changes a) (m.image a) (sym (left.some a) ∙ t))
      ∙ sym (left.others a e)
  held_by a s t (Some r) e =
      loaned (g1 a) refl (left.has a (ap is_some e))
    where
      loaned : (o : Option Rec) → g1 a ≡ o → is_some o ≡ true → end.changes a ≡ (m1.part k).changes a
      loaned None f h = absurd (both_ways false refl h)
      loaned (Some r1) f h = over_is (end.changes a) (m.image a) (Some r1) s (moved.installed.records a r1 f) ∙
          sym (over_is ((m1.part k).changes a) (m1.image a) (Some r1) t (left.carries.part a r1 f))

  same_changes : (a : ℕ) → end.changes a ≡ (m1.part k).changes a
  same_changes a = elim (cases_Bool (holds (m.part k) a)) [
    | inl y ↦ held_by a (moved.still a (backs.whole a ∙ y)) (left.some a ∙ (backs.whole a ∙ y)) (g a) refl
    | inr n ↦ not_held a n
  ]

  -- the transaction after the moves is the one of which the store has the changes
  same_transaction : end ≡ transaction w.own (m1.part k) (worked x n q1)
  same_transaction =
      let i = moved.installed in
      let changed : end.changed ≡ (m1.part k).changed = i.changed ∙ sym (ap (λ (z : Part). z.changed) left.only.own) in
      let looked : end.looked ≡ (m1.part k).looked = i.looked ∙ sym (ap (λ (z : Part). z.looked) left.only.own) in
      λ j. record {
        thread = i.thread j;
        steps = i.steps j;
        state = i.state j;
        changes = λ a. same_changes a j;
        changed = changed j;
        looked = looked j;
        made = i.made j;
        started = i.started j;
        begun = i.begun j;
        solo = i.solo j;
        world = i.world j;
      }

  -- and so is the core
  same_core : core_with w k m1 b (worked x n q1) ≡ with_segment k (Running end) (core_with w k m b x)
  same_core =
      let t = transaction w.own (m1.part k) (worked x n q1) in
      core_beside w k m m1 b (Running t) left.only.image left.only.others ∙
      (again k (Running t) (Running (transaction w.own (m.part k) x)) (core_of w m b) ∙
      ap (λ z. with_segment k (Running z) (core_with w k m b x)) (sym same_transaction))

  has_installed : (o : Outer S) → o.core ≡ core_with w k m b x →
      HasInstalled p most k g g1 n q1 o (record o { core = core_with w k m1 b (worked x n q1) })
  has_installed o is =
      let c = core_with w k m b x in
      let c1 = core_with w k m1 b (worked x n q1) in
      let there : HasInstalled p most k g g1 n q1 (record o { core = c }) (record o { core = c1 }) = record {
        x = transaction w.own (m.part k) x;
        after = end;
        runs = runs_with w k m b x;
        moves = moved.moves;
        follows = subst (λ z. Follows p most c moved.moves z) (sym same_core) moved.follows;
        own = moved.own;
        count = moved.count;
        installed = moved.installed;
        is = ap (λ z. record o { core = z }) same_core;
      } in
      subst (λ (z : Outer S). HasInstalled p most k g g1 n q1 z (record z { core = c1 }))
      (λ j. record o { core = sym is j }) there

-- ---- a piece that fits

fits_runs : {S : Type 0} (most n : ℕ) (image : Heap) (s : Segment S) (x : Transaction S) (q : S) (g : Heap)
    (locked : Marks) → s ≡ Running x → FitsSegment most image s q g locked n → Fits most image x q g locked n
fits_runs most n image s x q g locked e f = subst (λ z. FitsSegment most image z q g locked n) e f

module _ {S : Type 0} (p : Prog S) (start : Machine S) (most k n : ℕ) (w : Worlds) (m : Meaning) (b : Books S)
    (x : Work S) (q q1 : S) (g g1 : Heap) (locked : Marks) (o : Outer S) (is : o.core ≡ core_with w k m b x)
    (backs : Backs k m x) (fits : FitsSegment most o.core.image (o.core.segments k) q g locked n)
    (es : List (Addr × Change)) (replays : Replays locked es g g1) where
  -- it fits the transaction that was taken out of its hand
  fits_out : Fits most m.image (transaction w.own (m.part k) x) q g locked n
  fits_out = fits_runs most n m.image ((core_with w k m b x).segments k) (transaction w.own (m.part k) x) q g locked
      (runs_with w k m b x)
      (subst (λ (c : CoreState S). FitsSegment most c.image (c.segments k) q g locked n) is fits)

  -- and its records are the store's
  fits_carries : Carries k locked g m
  fits_carries = carries_loan w k m x g locked backs fits_out.loan

  -- its changes can be made in the store
  pub fits_can : CanReplay k es m
  fits_can = can_replay k locked es g g1 m fits_carries replays

  -- With them made, and with its steps and its state in the work, it was installed.
  pub installs : Good p start most o.core → IsPiece p g locked n q q1 g1 →
      HasInstalled p most k g g1 n q1 o (record o { core = core_with w k (replayed k es m) b (worked x n q1) })
  installs good piece =
      let moved = install_law p start most k n (core_with w k m b x) (transaction w.own (m.part k) x) q q1 g g1 locked
      (subst (Good p start most) is good) (runs_with w k m b x) fits_out piece in
      let left = replay_leaves k locked es g g1 m fits_carries replays in
      has_installed p most k n w m (replayed k es m) b x q1 g g1 locked moved left backs o is

-- the same in a step that is opened for it
module _ {S : Type 0} (p : Prog S) (start : Machine S) (most k n : ℕ) (w : Worlds) (m : Meaning) (b : Books S)
    (x : Work S) (q q1 : S) (g g1 : Heap) (locked : Marks) (o : Outer S) (is : o.core ≡ core_with w k m b x)
    (backs : Backs k m x) (fits : FitsSegment most o.core.image (o.core.segments k) q g locked n)
    (es : List (Addr × Change)) (replays : Replays locked es g g1) where
  pub opened_can : CanReplay k es (after_open k m)
  opened_can = fits_can p start most k n w (after_open k m) b x q q1 g g1 locked o (is ∙ sym (core_opened w k m b x))
      (backs_opened k m x backs) fits es replays

  pub opened_installs : Good p start most o.core → IsPiece p g locked n q q1 g1 →
      HasInstalled p most k g g1 n q1 o
      (record o { core = core_with w k (replayed k es (after_open k m)) b (worked x n q1) })
  opened_installs = installs p start most k n w (after_open k m) b x q q1 g g1 locked o
      (is ∙ sym (core_opened w k m b x)) (backs_opened k m x backs) fits es replays

-- ---- what lies outside

module _ {S : Type 0} (p : Prog S) (first : Machine S) (most k n : ℕ) (g g1 : Heap) (q1 : S) (o o1 : Outer S)
    (kept : Kept p first most o) (h : HasInstalled p most k g g1 n q1 o o1) where
  going : (v : Move S) → IsOwnStep k v → IsGoing p most k v
  going (Goes i y y1) e = e
  going (Begins i t q) e = absurd e
  going (Drops i) e = absurd e
  going (Dooms f) e = absurd e
  going (Loses f) e = absurd e
  going (Rests i y y1) e = absurd e
  going (Commits i y) e = absurd e
  going (Keeps c) e = absurd e

  -- the devices are told nothing
  told_still : cond h.after.solo h.after.world o.told ≡ o.told
  told_still = elim (cases_Bool h.after.solo) [
    | inl y ↦ cond-true h.after.solo h.after.world o.told y ∙ (h.installed.world ∙
        sym (solo_told p first most k o h.x kept h.runs (sym h.installed.solo ∙ y)).1)
    | inr f ↦ cond-false h.after.solo h.after.world o.told f
  ]

  -- a piece that was installed is moves of the core with what its devices were told
  pub installed_led : OuterLed p most o o1
  installed_led =
      let core : o1.core ≡ with_segment k (Running h.after) o.core = ap (λ (z : Outer S). z.core) h.is in
      let here : o1.core.segments k ≡ Running h.after = ap (λ (c : CoreState S). c.segments k) core ∙
      cond-true (eqb k k) (Running h.after) (o.core.segments k) (eq-eqb k k refl) in
      let led = going_led p most k o h.moves o1.core h.x h.after
      (All-weaker (IsOwnStep k) (IsGoing p most k) going h.moves h.own) h.follows h.runs
      (λ s. (solo_told p first most k o h.x kept h.runs s).1) here in
      let same : record o { core = o1.core; told = cond h.after.solo h.after.world o.told } ≡ o1 =
      ap (λ t. record o { core = o1.core; told = t }) told_still ∙
      (ap (λ c. record o { core = c }) core ∙ sym h.is) in
      subst (OuterLed p most o) same led.1

  -- so the core keeps what it keeps
  pub installed_kept : Kept p first most o1
  installed_kept = let l = installed_led in kept_after p first most o o1 l.0 kept l.1
