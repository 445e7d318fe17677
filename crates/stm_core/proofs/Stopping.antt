-- A row over a segment's view that was stopped, and a step that was taken back.
use Rattle.std.proofs.Common.{◌≡◌, ℕ, Bool, true, false, cond, List, Option, Some, refl, sym, ◌∙◌, ap, subst, inl, inr}
use Rattle.std.proofs.lemmas.Bool.{both_ways, or_cases, or_left, or_right}
use Rattle.py_data.specs.declared.stop.Side.{Side}
use Rattle.py_data.specs.declared.stop.Stop.{Stop}
use Rattle.py_data.specs.declared.stop.Out.{Out}
use Rattle.py_data.specs.declared.stop.Out.TheVariants.{Output, ErrorOutput}
use Rattle.py_data.specs.Heap.{Heap}
use Rattle.py_data.specs.World.{World}
use Rattle.py_data.specs.Collection.{places}
use Rattle.py_data.specs.Row.{Call, Reply, Row, Ret, Do, Read, Find, Edit, Make, Start, Put, Take, MidLine, SetMidLine}
use Rattle.py_data.specs.Sense.{Stopped, Upto, touches}
use Rattle.py_data.specs.Sight.{Sight, mem, pure}
use Rattle.py_data.specs.Steady.{AsksToPrint, Writes}
use Rattle.py_data.proofs.Whole.{stopped_at}
use Rattle.lock_run.proofs.Following.{upto_none}
use Rattle.seg_store.specs.Meaning.{Meaning, sees, over}
use Rattle.seg_store.specs.Store.{IsStore}
use Rattle.stm_segment.specs.declared.books.Work.{Work}
use Rattle.stm_segment.specs.declared.halt.Halt.{Halt}
use Rattle.stm_segment.specs.declared.halt.Halt.TheVariants.{Lost, NeedSolo, Full, OutOfMemory}
use Rattle.stm_segment.specs.CoreState.{no_world}
use Rattle.stm_core.specs.Moves.{Stays}
use Rattle.stm_segment.specs.Asking.{IsOuter, Changes, AskedFor, LooksNext, ChangesNext}
use Rattle.stm_segment.specs.Books.{transaction, is_lock}
use Rattle.stm_segment.specs.Devices.{DeviceState, Shown}
use Rattle.stm_segment.specs.inner.Halts.{stop_of, halt_for}
use Rattle.stm_segment.specs.inner.Hold.{Hold, sight, SegRefuses, SegWhy}
use Rattle.stm_segment.specs.inner.Outer.{WriteRefused, ErrRefused, OuterRefuses}
use Rattle.stm_segment.specs.inner.SegSense.{seg_sense}
use Rattle.stm_core.specs.inner.Whole.{StopsAt, StopOf}
use Rattle.stm_core.proofs.Halting.{halt_given}
use Rattle.stm_segment.proofs.Holding.{beside_then, beside_weaker}
use Rattle.stm_core.proofs.Telling.{Told, told_none, call_told, fault_of}
use Rattle.stm_core.proofs.Way.{at_used, Way, way}
use Rattle.stm_core.proofs.Keeping.{upto_keeps, refused_at}
use Rattle.stm_core.proofs.Stepping.{owned_is, unchanged, locked_is}

-- ---- a write of one that isn't solo

-- a row that writes next, and its call
writes_call : {S A : Type 0} (row : Row S A) → Writes row → (c : Call S) × (f : Reply c → Row S A) × (row ≡ Do c f) ×
    IsOuter c
writes_call (Do (Put on bytes) f) h = (Put on bytes, f, refl, tt)
writes_call (Ret a) h = absurd h
writes_call (Do (Take most) f) h = absurd h
writes_call (Do MidLine f) h = absurd h
writes_call (Do (SetMidLine b) f) h = absurd h
writes_call (Do (Read a) f) h = absurd h
writes_call (Do (Find a x) f) h = absurd h
writes_call (Do (Edit a x) f) h = absurd h
writes_call (Do (Make x) f) h = absurd h
writes_call (Do (Start x) f) h = absurd h

-- the call has to do with no record
writes_apart : {S A : Type 0} (c : Call S) (f : Reply c → Row S A) (a : ℕ) → Writes (Do c f) →
    (touches c ≡ Some a → ⊥) × (Changes a c → ⊥)
writes_apart (Put on bytes) f a h = (λ e. cc, λ e. e)
writes_apart (Take most) f a h = absurd h
writes_apart MidLine f a h = absurd h
writes_apart (SetMidLine b) f a h = absurd h
writes_apart (Read b) f a h = absurd h
writes_apart (Find b x) f a h = absurd h
writes_apart (Edit b x) f a h = absurd h
writes_apart (Make x) f a h = absurd h
writes_apart (Start x) f a h = absurd h

-- it is refused for no other cause than that it isn't solo
needs_solo : {S : Type 0} (k : ℕ) (me : Side) (on : Out) (bytes : List ℕ) (h : Heap) (d : Hold S) → me.solo ≡ false →
    (z : Halt) → SegWhy k me z (Put on bytes) h d → (z ≡ OutOfMemory → me.solo ≡ true) → z ≡ NeedSolo
needs_solo k me on bytes h d m NeedSolo y n = refl
needs_solo k me on bytes h d m (Lost g) y n = absurd y.0
needs_solo k me on bytes h d m (Full i l j) y n = absurd y.0
needs_solo k me on bytes h d m OutOfMemory y n = absurd (both_ways me.solo m (n refl))
needs_solo k me on bytes h d m _ y n = absurd (both_ways me.solo m y.0)

write_alone : {S A : Type 0} (k : ℕ) (me : Side) (s : Halt) (c : Call S) (f : Reply c → Row S A) (h : Heap)
    (d : Hold S) (p q : DeviceState) → me.solo ≡ false → Writes (Do c f) → SegWhy k me s c h d →
    OuterRefuses me c (stop_of s) p q → s ≡ NeedSolo
write_alone k me s (Put Output bytes) f h d p q m t w o =
    needs_solo k me Output bytes h d m s w (λ e. (subst (λ z. WriteRefused (stop_of z) me bytes p q) e o).0)
write_alone k me s (Put ErrorOutput bytes) f h d p q m t w o =
    needs_solo k me ErrorOutput bytes h d m s w (λ e. (subst (λ z. ErrRefused (stop_of z) me bytes p q) e o).0)
write_alone k me s (Take most) f h d p q m t w o = absurd t
write_alone k me s MidLine f h d p q m t w o = absurd t
write_alone k me s (SetMidLine b) f h d p q m t w o = absurd t
write_alone k me s (Read a) f h d p q m t w o = absurd t
write_alone k me s (Find a x) f h d p q m t w o = absurd t
write_alone k me s (Edit a x) f h d p q m t w o = absurd t
write_alone k me s (Make x) f h d p q m t w o = absurd t
write_alone k me s (Start x) f h d p q m t w o = absurd t

-- ---- where a row was stopped

-- Where a row was stopped, and what the devices were told of the next call where the transaction is solo.
pub record Stops {S A : Type 0} (t e : Option (List ℕ)) (k : ℕ) (me : Side) (row : Row S A) (w : World) (u : Bool)
    (d : Hold S) (stop : Halt) (d1 : Hold S) (q : DeviceState) : Type 0 where
  pub at : StopsAt k me row (at_used w u (sight k d)) stop d d1
  pub told : me.solo ≡ true → Told t e at.left at.place.world q
  pub fault : StopOf stop at.left

module _ {S A : Type 0} (t e : Option (List ℕ)) (k : ℕ) (me : Side) (row : Row S A) (w : World) (u : Bool) (d : Hold S)
    (left : Row S A) (d1 : Hold S) (p : DeviceState) (y : Way t e k me row w u d left d1 p) where
  abbrev start : Sight S
  start = at_used w u (sight k d)

  abbrev place : Sight S
  place = at_used y.world y.used (sight k d1)

  -- the code found no memory
  stops_none : (stop : Halt) → stop ≡ OutOfMemory → Stops t e k me row w u d stop d1 p
  stops_none stop why = record {
    at = record {
      left = y.next;
      place = place;
      upto = y.upto;
      looks = λ a h. inl h;
      locks = λ a h. inl (or_left (mem a (d1.meaning.part k).changed) (mem a (d1.meaning.part k).made) h);
      beside = y.beside;
      why = inl why;
    };
    told = λ solo. told_none t e y.next y.world p p (y.shown solo).tells refl refl refl refl;
    fault = subst (λ z. StopOf z y.next) (sym why) tt;
  }

  -- the next call was refused
  stops_next : (c : Call S) (f : Reply c → Row S A) (stop : Halt) (d2 : Hold S) (q : DeviceState) → y.next ≡ Do c f →
      SegRefuses k me c d1 stop d2 → OuterRefuses me c (stop_of stop) p q → Stops t e k me row w u d stop d2 q
  stops_next c f stop d2 q next h o =
      let asked : (a : ℕ) → Changes a c → AskedFor row start y.next place a = λ a x. record {
        call = c;
        next = f;
        at = place;
        upto = subst (λ z. Upto pure row start z place) next y.upto;
        on = subst (λ z. Upto pure (Do c f) place z place) (sym next) (upto_none pure (Do c f) place);
        changes = x;
      } in
      record {
        at = record {
          left = y.next;
          place = place;
          upto = y.upto;
          looks = λ a l. elim (h.looked a l) [ inl x ↦ inl x | inr x ↦ inr (subst (λ r. LooksNext r a) (sym next) x) ];
          locks = λ a l. elim (h.locks a l) [
            | inl x ↦ inl (or_left (mem a (d1.meaning.part k).changed) (mem a (d1.meaning.part k).made) x)
            | inr x ↦
                inr (subst (λ r. ChangesNext r a) (sym next) x)
          ];
          beside = beside_then k me d d1 d2 y.beside
              (beside_weaker (λ a. Changes a c) (AskedFor row start y.next place) k me d1 d2 asked h.beside);
          why = inr (c, f, next, h.why);
        };
        told = λ solo. subst (λ z. Told t e z y.world q) (sym next)
            (call_told t e c f y.world (stop_of stop) me p q (y.shown solo) o);
        fault = subst (λ z. StopOf stop z) (sym next) (fault_of k me stop c f (sees d1.meaning k) d2 h.why);
      }

  -- one that isn't solo writes next, by the flag that it was told and in its own world
  stops_write : (c : Call S) (f : Reply c → Row S A) (stop : Halt) (d2 : Hold S) (q : DeviceState) → me.solo ≡ false →
      Writes y.next → Writes (Do c f) → SegRefuses k me c d1 stop d2 → OuterRefuses me c (stop_of stop) p q →
      Stops t e k me row w u d stop d2 q
  stops_write c f stop d2 q mortal next told h o =
      let n = writes_call y.next next in
      let need : stop ≡ NeedSolo = write_alone k me stop c f (sees d1.meaning k) d2 p q mortal told h.why o in
      record {
        at = record {
          left = y.next;
          place = place;
          upto = y.upto;
          looks = λ a l. elim (h.looked a l) [ inl x ↦ inl x | inr x ↦ absurd ((writes_apart c f a told).0 x) ];
          locks = λ a l. elim (h.locks a l) [
            | inl x ↦ inl (or_left (mem a (d1.meaning.part k).changed) (mem a (d1.meaning.part k).made) x)
            | inr x ↦
                absurd ((writes_apart c f a told).1 x)
          ];
          beside = beside_then k me d d1 d2 y.beside
              (beside_weaker (λ a. Changes a c) (AskedFor row start y.next place) k me d1 d2
              (λ a x. absurd ((writes_apart c f a told).1 x)) h.beside);
          why = inr (n.0, n.1, n.2, subst (λ z. SegWhy k me z n.0 (sees d1.meaning k) d2) (sym need) (mortal, n.3));
        };
        told = λ solo. absurd (both_ways me.solo mortal solo);
        fault = subst (λ z. StopOf z y.next) (sym need) tt;
      }

  stops_refused : (c : Call S) (f : Reply c → Row S A) (stop : Halt) (d2 : Hold S) (q : DeviceState) → left ≡ Do c f →
      SegRefuses k me c d1 stop d2 → OuterRefuses me c (stop_of stop) p q → Stops t e k me row w u d stop d2 q
  stops_refused c f stop d2 q same h o = elim y.ends [
    | inl x ↦ stops_next c f stop d2 q (x.0 ∙ same) h o
    | inr x ↦ stops_write c f stop d2 q x.0 x.1 (subst (λ (z : Row S A). Writes z) same x.2) h o
  ]

module _ {S X : Type 0} (hold : X → Hold S) (devices : X → DeviceState) (segment : X → ℕ) (me : X → Side)
    (same : X → X → Type 0) (same_refl : (v : X) → same v v) (same_then : (u v w : X) → same u v → same v w → same u w)
    (t e : Option (List ℕ)) (k : ℕ) (s : Side) where
  -- a row that was stopped over the view
  pub row_stopped : {A : Type 0} (row : Row S A) (v : X) (stop : Stop) (x : X) (w : World) (u : Bool) → segment v ≡ k →
      me v ≡ s → Shown s.solo t e (devices v) w → AsksToPrint row
      → Stopped (seg_sense hold devices segment me same) row v stop x →
      Stops t e k s row w u (hold v) (halt_for stop (hold x).last.halt) (hold x) (devices x)
  row_stopped row v stop x w u ek es shown asks h =
      let a = stopped_at (seg_sense hold devices segment me same) row v stop x h in
      let y = way hold devices segment me same t e k s row v a.left a.place w u ek es shown asks a.upto in
      elim a.why [
        | inl z ↦ subst (λ (q : X). Stops t e k s row w u (hold v) (halt_for stop (hold q).last.halt) (hold q)
            (devices q)) (sym z.1) (stops_none t e k s row w u (hold v) a.left (hold a.place) (devices a.place) y
            (halt_for stop (hold a.place).last.halt) (ap (λ e. halt_for e (hold a.place).last.halt) z.0))
        | inr z ↦
            let b = upto_keeps hold devices segment me same same_refl same_then k s row v a.left a.place a.upto ek es in
            let r = refused_at hold devices segment me same same_refl same_then k s z.0 a.place stop x b.segment_is
            b.me_is z.3 in
            let halt : Halt = (hold x).last.halt in
            subst (λ h. Stops t e k s row w u (hold v) h (hold x) (devices x)) (sym (halt_given stop halt r.2))
            (stops_refused t e k s row w u (hold v) a.left (hold a.place) (devices a.place) y z.0 z.1 halt (hold x)
            (devices x) z.2 r.0 (subst (λ h. OuterRefuses s z.0 h (devices a.place) (devices x)) r.2 r.1))
      ]

-- ---- a step that leaves looks and locks alone

-- the transaction is as before, but for looks and locks
pub stays : {S : Type 0} (w : World) (k : ℕ) (m m1 : Meaning) (r1 : ℕ) (x x1 : Work S) → m1.image ≡ m.image →
    sees m1 k ≡ sees m k → places x.progress.names ≡ (m.part k).made → places x1.progress.names ≡ (m1.part k).made →
    IsStore r1 m1
    → ((a : ℕ) → mem a (m1.part k).changed ≡ true → is_lock (m1.image a) ((m1.part k).looked a) ≡ true) →
    x1.thread ≡ x.thread → x1.begun ≡ x.begun → x1.steps ≡ x.steps → x1.solo ≡ x.solo → x1.state ≡ x.state →
    x1.progress.names ≡ x.progress.names
    → x1.progress.started ≡ x.progress.started → ((a : ℕ) → (m.part k).looked a ≡ true → (m1.part k).looked a ≡ true) →
    ((a : ℕ) → mem a (m.part k).changed ≡ true → mem a (m1.part k).changed ≡ true)
    → Stays m.image (transaction w (m.part k) x) (transaction w (m1.part k) x1)
stays {S} w k m m1 r1 x x1 im seen names names1 st locks th be sp so se nm started looked more =
    let own = owned_is w (m.part k) x names in
    let own1 = owned_is w (m1.part k) x1 names1 in
    record {
      thread = th;
      steps = sp;
      state = se;
      made = nm;
      started = started;
      begun = be;
      solo = so;
      world = ap (λ b. cond b w no_world) so;
      view = λ a. ap (λ (h : Heap). over ((m1.part k).changes a) (h a)) (sym im) ∙ ap (λ (h : Heap). h a) seen;
      looked = looked;
      more = λ a h. elim (or_cases (mem a (m.part k).changed) (mem a (places x.progress.names)) h) [
        | inl y ↦ or_left (mem a (m1.part k).changed) (mem a (places x1.progress.names)) (more a y)
        | inr y ↦ or_right (mem a (m1.part k).changed) (mem a (places x1.progress.names))
            (ap (λ l. mem a (places l)) nm ∙ y)
      ];
      within = λ a h. unchanged r1 m1 k a st (sym (ap (λ f. f a) own1) ∙ h);
      locked = λ a h. let l = locked_is m1.image (m1.part k) a (locks a h) in
          record {
            entry = l.entry;
            is = sym (ap (λ (z : Heap). z a) im) ∙ l.is;
            tracked = l.tracked;
            marked =
                l.marked;
          };
    }
