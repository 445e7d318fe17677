-- What code and proofs say to each other: nothing public rests on it.
-- A segment's view keeps the laws of views: the proofs that `impl View for SegView` cites. States `docs/HEAP.md`,
-- "Views".
use Rattle.std.specs.Prelude.{◌≡◌, ◌⊎◌, ℕ, true, false, eqb, ◌&&◌, Option, Some, None}
use Rattle.std.proofs.Common.{ap, refl, ◌∙◌, sym, subst, inl, inr, IsSome}
use Rattle.std.proofs.lemmas.Bool.{or_left, and_from, eq-eqb, cond-true}
use Rattle.py_data.specs.declared.stop.Side.{Side}
use Rattle.py_data.specs.declared.stop.Stop.{Stop}
use Rattle.py_data.specs.declared.stop.Out.TheVariants.{Output, ErrorOutput}
use Rattle.py_data.specs.declared.change.Change.{Change}
use Rattle.py_data.specs.Changes.{after, Outgrows}
use Rattle.seg_store.specs.Extents.{Wants}
use Rattle.py_data.specs.Heap.{Rec, Heap, is_tracked, put_at}
use Rattle.py_data.specs.Shape.{find}
use Rattle.py_data.specs.Row.{Call, Read, Find, Edit, Make, Start, Put, Take, MidLine, SetMidLine, Reply}
use Rattle.py_data.specs.Sense.{Sense, Bracket, Lawful, IsBracket, Effect, Edits, can_refuse, touches, WantsRoom, IfFull, IfThere}
use Rattle.py_data.specs.Sight.{Sight, Edited, looked_at}
use Rattle.py_data.proofs.Steps.{at_is}
use Rattle.py_data.proofs.Grow.{act_grows, grows_refl, with_rec_here}
use Rattle.py_data.specs.Frames.{Grows}
use Rattle.seg_store.specs.Meaning.{Meaning, sees, saw, overlay}
use Rattle.seg_store.specs.Calls.{after_open, after_undo, opened, undone}
use Rattle.stm_segment.specs.declared.halt.Halt.{Halt}
use Rattle.stm_segment.specs.declared.halt.Halt.TheVariants.{Lost, NeedSolo, Full, ReadFault, WriteFault, ErrFault, OutOfMemory}
use Rattle.stm_segment.specs.Devices.{DeviceState}
use Rattle.stm_segment.specs.inner.Halts.{stop_of}
use Rattle.stm_segment.specs.inner.Hold.{Hold, sight, SegDoes, SegWhy, Inside, LeavesHold}
use Rattle.stm_segment.specs.inner.Outer.{OuterDoes}
use Rattle.stm_segment.specs.inner.SegSense.{Seen, seg_stops, with_more, with_both, seg_sense, seg_bracket, SamePeaks, Tells, TellsRefused, told_sense, told_bracket}

-- what a call that was done shows of itself: it is done on sights, or leaves what the view holds
inside : {T : Type 0} (k : ℕ) (me : Side) (c : Call T) (d : Hold T) (r : Reply c) (e : Hold T) → SegDoes k me c d r e →
    Inside k me c d r e ⊎ LeavesHold d e
inside k me (Put on bytes) d r e h = inr h
inside k me (Take most) d r e h = inr h
inside k me MidLine d r e h = inr h
inside k me (SetMidLine b) d r e h = inr h
inside k me (Read a) d r e h = inl h
inside k me (Find a v) d r e h = inl h
inside k me (Edit a x) d r e h = inl h
inside k me (Make q) d r e h = inl h
inside k me (Start s) d r e h = inl h

edits : {T : Type 0} (a : ℕ) (x : Change) (s t : Sight T) → Edited a x s t → Edits a (after x) s.heap t.heap
edits a x s t h = (
  subst IsSome (sym h.1) refl,
  ap (λ z. z.heap) h.3 ∙
      ap (λ q. put_at s.heap a (after x q)) (sym (at_is s.heap a h.0 h.1)),
)

effect : {T : Type 0} (k : ℕ) (me : Side) (c : Call T) (d : Hold T) (r : Reply c) (e : Hold T) (p q : DeviceState) →
    SegDoes k me c d r e → OuterDoes me c p r q → Effect false c (sees d.meaning k) r (sees e.meaning k)
effect k me (Put on bytes) d r e p q h o = ap (λ z. sees z.meaning k) h.0
effect k me (Take most) d r e p q h o = (o.2, ap (λ z. sees z.meaning k) h.0)
effect k me MidLine d r e p q h o = ap (λ z. sees z.meaning k) h.0
effect k me (SetMidLine b) d r e p q h o = ap (λ z. sees z.meaning k) h.0
effect k me (Read a) d r e p q h o = (h.0.0, ap (λ z. z.heap) h.0.1)
effect k me (Find a v) d r e p q h o = (
  subst IsSome (sym h.0.1) refl,
  h.0.3 ∙
      ap (λ q. find (sees d.meaning k) q.values v) (sym (at_is (sees d.meaning k) a h.0.0 h.0.1)),
  ap (λ z. z.heap) h.0.4,
  tt,
)
effect k me (Edit a x) d r e p q h o = edits a x (sight k d) (sight k e) h.0
effect k me (Make x) d r e p q h o = (h.0.0, ap (λ z. z.heap) h.0.1, refl)
effect k me (Start s) d r e p q h o = ap (λ z. z.heap) h.0

-- what a call that was done can do at most
grown : {T : Type 0} (k : ℕ) (me : Side) (c : Call T) (d : Hold T) (r : Reply c) (e : Hold T) → SegDoes k me c d r e →
    Grows (sight k d) (sight k e)
grown k me c d r e h = elim (inside k me c d r e h) [
  | inl i ↦ act_grows c (sight k d) r (sight k e) i.0
  | inr q ↦
      subst (λ z. Grows (sight k d) (sight k z)) (sym q.0) (grows_refl (sight k d))
]

-- a record that was looked at, or changed, is seen then
seen_edit : {T : Type 0} (a k : ℕ) (x : Change) (d e : Hold T) → Edited a x (sight k d) (sight k e) → Seen a k e
seen_edit a k x d e h = record {
  entry = after x h.0;
  is = ap (λ (z : Sight _). z.heap a) h.3 ∙ with_rec_here a (after x h.0) (sees d.meaning k);
  noted = λ t. ap (λ (z : Sight _). z.looked a) h.3 ∙ or_left (eqb a a) ((d.meaning.part k).looked a) (eq-eqb a a refl);
}

seen_look : {T : Type 0} (a k : ℕ) (q : Rec) (d e : Hold T) → sees d.meaning k a ≡ Some q →
    sight k e ≡ looked_at a q (sight k d) → Seen a k e
seen_look a k q d e is h = record {
  entry = q;
  is = ap (λ (z : Sight _). z.heap a) h ∙ is;
  noted = λ t. ap (λ (z : Sight _). z.looked a) h ∙
      or_left (eqb a a && is_tracked q.kind) ((d.meaning.part k).looked a)
      (and_from (eqb a a) (is_tracked q.kind) (eq-eqb a a refl) t);
}

-- the record that a call asks for is seen then
seen_by : {T : Type 0} (k : ℕ) (me : Side) (c : Call T) (d : Hold T) (r : Reply c) (e : Hold T) (a : ℕ) →
    SegDoes k me c d r e → touches c ≡ Some a → Seen a k e
seen_by k me (Put on bytes) d r e a h t = absurd cc
seen_by k me (Take most) d r e a h t = absurd cc
seen_by k me (SetMidLine b) d r e a h t = absurd cc
seen_by k me MidLine d r e a h t = absurd cc
seen_by k me (Make q) d r e a h t = absurd cc
seen_by k me (Start s) d r e a h t = absurd cc
seen_by k me (Read b) d r e a h t = let q : b ≡ a = cc in subst (λ z. Seen z k e) q (seen_look b k r d e h.0.0 h.0.1)
seen_by k me (Find b v) d r e a h t = let q : b ≡ a = cc in
    subst (λ z. Seen z k e) q (seen_look b k h.0.0 d e h.0.1 h.0.4)
seen_by k me (Edit b x) d r e a h t = let q : b ≡ a = cc in subst (λ z. Seen z k e) q (seen_edit b k x d e h.0)

-- what was seen stays seen
seen_stays : {T : Type 0} (k : ℕ) (me : Side) (c : Call T) (d : Hold T) (r : Reply c) (e : Hold T) (a : ℕ) →
    SegDoes k me c d r e → Seen a k d → Seen a k e
seen_stays k me c d r e a h s =
    let g = grown k me c d r e h in
    let q = g.kept a s.entry s.is in
    record { entry = q.0; is = q.1; noted = λ t. g.looked a (s.noted (ap is_tracked (sym q.2.kind) ∙ t)) }

live : {T : Type 0} (k : ℕ) (me : Side) (c : Call T) (d : Hold T) (r : Reply c) (e : Hold T) → SegDoes k me c d r e →
    e.last.stopped ≡ None
live k me c d r e h = elim (inside k me c d r e h) [ inl i ↦ i.2 | inr q ↦ q.1 ]

kept_base : {T : Type 0} (k : ℕ) (me : Side) (c : Call T) (d : Hold T) (r : Reply c) (e : Hold T) →
    SegDoes k me c d r e → saw e.meaning k ≡ saw d.meaning k
kept_base k me c d r e h = elim (inside k me c d r e h) [ inl i ↦ i.1.saw | inr q ↦ ap (λ z. saw z.meaning k) q.0 ]

-- a record that wants words for a change has no room for it
outgrown : (c : Change) (o : Option Rec) (n : ℕ) → IfThere false o (λ r. Outgrows c r × Wants (Some r) (after c r) n) →
    IfThere false o (Outgrows c)
outgrown c None n w = w
outgrown c (Some r) n w = w.0

-- each Stop is one that such a call can meet, and one of those that a segment's view gives
cause : {T : Type 0} (k : ℕ) (me : Side) (s : Halt) (c : Call T) (h : Heap) (e : Hold T) → SegWhy k me s c h e →
    (can_refuse c (stop_of s) ≡ true) × (seg_stops (stop_of s) ≡ true) × IfFull (stop_of s) (WantsRoom c h)
cause k me (Lost f) (Edit a x) h e w = (refl, refl, tt)
cause k me (Lost f) _ h e w = absurd w.0
cause k me NeedSolo (Put Output b) h e w = (refl, refl, tt)
cause k me NeedSolo (Put ErrorOutput b) h e w = (refl, refl, tt)
cause k me NeedSolo (Take most) h e w = (refl, refl, tt)
cause k me NeedSolo _ h e w = absurd w.1
cause k me (Full r n l) (Edit a x) h e w = (refl, refl, outgrown x (h a) n w.0)
cause k me (Full r n l) (Make q) h e w = (refl, refl, tt)
cause k me (Full r n l) _ h e w = absurd w.0
cause k me OutOfMemory MidLine h e w = absurd w
cause k me OutOfMemory (SetMidLine b) h e w = absurd w
cause k me OutOfMemory (Put Output b) h e w = (refl, refl, tt)
cause k me OutOfMemory (Put ErrorOutput b) h e w = (refl, refl, tt)
cause k me OutOfMemory _ h e w = (refl, refl, tt)
cause k me ReadFault (Take most) h e w = (refl, refl, tt)
cause k me ReadFault _ h e w = absurd w.1
cause k me WriteFault (Put Output b) h e w = (refl, refl, tt)
cause k me WriteFault _ h e w = absurd w.1
cause k me ErrFault (Put ErrorOutput b) h e w = (refl, refl, tt)
cause k me ErrFault _ h e w = absurd w.1

opens_shown : (k : ℕ) (m : Meaning) → (sees (after_open k m) k ≡ sees m k) × (saw (after_open k m) k ≡ sees m k)
opens_shown k m = (
  ap (λ p. overlay m.image p.changes)
      (cond-true (eqb k k) (opened (m.part k)) (m.part k) (eq-eqb k k refl)),
  ap (λ p. overlay m.image p.kept) (cond-true (eqb k k) (opened (m.part k)) (m.part k) (eq-eqb k k refl)),
)

undo_shown : (k : ℕ) (m : Meaning) → sees (after_undo k m) k ≡ saw m k
undo_shown k m = ap (λ p. overlay m.image p.changes)
    (cond-true (eqb k k) (undone (m.part k)) (m.part k) (eq-eqb k k refl))

-- a view that says more keeps the laws of views
module _ {S X : Type 0} (u : Sense S X) (more : (c : Call S) → X → Reply c → X → Type 0)
    (refused : Call S → X → Stop → X → Type 0) where
  lawful_more : Lawful u → Lawful (with_more u more refused)
  lawful_more l = record {
    effect = λ c v r w d. l.effect c v r w d.0;
    live = λ c v r w d. l.live c v r w d.0;
    seen = λ c v r w a d t. l.seen c v r w a d.0 t;
    stays = λ c v r w a d s. l.stays c v r w a d.0 s;
    same = λ a v r w s d. l.same a v r w s d.0;
    sure = λ a v e w s d. l.sure a v e w s d.0;
    halts = λ c v e w d. l.halts c v e w d.0;
    cause = λ c v e w d. l.cause c v e w d.0;
  }

  bracket_more : (b : Bracket S X) (kept : X → X → Type 0) → IsBracket u b →
      IsBracket (with_more u more refused) (with_both b kept)
  bracket_more b kept l = record {
    keeps = λ c v r w d. l.keeps c v r w d.0;
    keeps_refused = λ c v e w d. l.keeps_refused c v e w d.0;
    opened = λ v w h. l.opened v w h.0;
    undone = λ v w h. l.undone v w h.0;
    put = λ v w bytes d. l.put v w bytes d.0;
  }

module _ {T X : Type 0} (hold : X → Hold T) (devices : X → DeviceState) (segment : X → ℕ) (me : X → Side)
    (same : X → X → Type 0) where
  pub seg_lawful : Lawful (seg_sense hold devices segment me same)
  seg_lawful = record {
    effect = λ c v r w d. subst (λ k. Effect false c (sees (hold v).meaning (segment v)) r (sees (hold w).meaning k))
        (sym d.2.segment_is) (effect (segment v) (me v) c (hold v) r (hold w) (devices v) (devices w) d.0 d.1);
    live = λ c v r w d. live (segment v) (me v) c (hold v) r (hold w) d.0;
    seen = λ c v r w a d t. subst (λ k. Seen a k (hold w)) (sym d.2.segment_is)
        (seen_by (segment v) (me v) c (hold v) r (hold w) a d.0 t);
    stays = λ c v r w a d s. subst (λ k. Seen a k (hold w)) (sym d.2.segment_is)
        (seen_stays (segment v) (me v) c (hold v) r (hold w) a d.0 s);
    same = λ a v r w s d. d.3 s;
    sure = λ a v e w s h. h.3 s;
    halts = λ c v e w h. ap (λ z. z.stopped) h.0.last ∙ ap Some (sym h.4);
    cause = λ c v e w h. subst (λ z. (can_refuse c z ≡ true) × (seg_stops z ≡ true) ×
        IfFull z (WantsRoom c (sees (hold v).meaning (segment v)))) (sym h.4)
        (cause (segment v) (me v) (hold w).last.halt c (sees (hold v).meaning (segment v)) (hold w) h.0.why);
  }

  pub seg_bracketed : IsBracket (seg_sense hold devices segment me same) (seg_bracket hold devices segment me same)
  seg_bracketed = record {
    keeps = λ c v r w d. (
      ap (saw (hold w).meaning) d.2.segment_is ∙
          kept_base (segment v) (me v) c (hold v) r (hold w) d.0,
      ap (λ z. z.solo) d.2.me_is,
    );
    keeps_refused = λ c v e w h. (
      ap (saw (hold w).meaning) h.2.segment_is ∙ h.0.beside.saw,
      ap (λ z. z.solo) h.2.me_is,
    );
    opened = λ v w h. (
      ap (sees (hold w).meaning) h.2.segment_is ∙ ap (λ z. sees z.meaning (segment v)) h.0 ∙
          (opens_shown (segment v) (hold v).meaning).0,
      ap (saw (hold w).meaning) h.2.segment_is ∙ ap (λ z. saw z.meaning (segment v)) h.0 ∙
          (opens_shown (segment v) (hold v).meaning).1,
      ap (λ z. z.last.stopped) h.0,
    );
    undone = λ v w h. (
      ap (sees (hold w).meaning) h.2.segment_is ∙ ap (λ z. sees z.meaning (segment v)) h.0 ∙
          undo_shown (segment v) (hold v).meaning,
      ap (λ z. z.last.stopped) h.0,
    );
    put = λ v w bytes d. d.1.0;
  }

  pub told_lawful : (peaks : X → Option (ℕ → ℕ)) → Lawful (told_sense hold devices segment me same peaks)
  told_lawful peaks = lawful_more (seg_sense hold devices segment me same)
      (Tells hold devices segment me same peaks) (TellsRefused hold devices segment me same peaks) seg_lawful

  pub told_bracketed : (peaks : X → Option (ℕ → ℕ)) →
      IsBracket (told_sense hold devices segment me same peaks) (told_bracket hold devices segment me same peaks)
  told_bracketed peaks = bracket_more (seg_sense hold devices segment me same)
      (Tells hold devices segment me same peaks) (TellsRefused hold devices segment me same peaks)
      (seg_bracket hold devices segment me same) (SamePeaks hold devices segment me same peaks) seg_bracketed
