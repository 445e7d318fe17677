-- The way of a row over a segment's view is the way of a row over what the segment sees, with dooms of others.
use Rattle.std.proofs.Common.{◌≡◌, ◌⊎◌, ℕ, Bool, true, false, List, Option, refl, sym, ◌∙◌, ap, subst, inl, inr}
use Rattle.std.proofs.lemmas.Bool.{cases_Bool, both_ways}
use Rattle.py_data.specs.declared.stop.Side.{Side}
use Rattle.py_data.specs.declared.stop.Out.TheVariants.{Output, ErrorOutput}
use Rattle.py_data.specs.World.{World, wrote, took, IsLine}
use Rattle.py_data.specs.Row.{Call, Reply, Row, Ret, Do, Read, Find, Edit, Make, Start, Put, Take, MidLine, SetMidLine}
use Rattle.py_data.specs.Sense.{Run, Upto}
use Rattle.py_data.specs.Sight.{Sight, Act, Does, pure}
use Rattle.py_data.specs.Steady.{AsksToPrint, Writes, WritesThen}
use Rattle.lock_run.proofs.Following.{run_upto, upto_none}
use Rattle.stm_segment.specs.Asking.{Changes, AskedFor}
use Rattle.stm_segment.specs.Devices.{DeviceState, ShowsWorld, Shown}
use Rattle.stm_segment.specs.inner.Hold.{Hold, sight, Beside, SegDoes}
use Rattle.stm_segment.specs.inner.Outer.{OuterDoes}
use Rattle.stm_segment.specs.inner.SegSense.{seg_sense}
use Rattle.stm_segment.proofs.Holding.{beside_refl, beside_then, beside_weaker}
use Rattle.stm_core.proofs.Telling.{shows_out, shows_err, shows_took}

-- a sight with another world, that was used or not
abbrev pub at_used : {S : Type 0} → World → Bool → Sight S → Sight S
at_used w u s = record s { world = w; used = u }

-- ---- one call

-- What a call that was done is, over what the segment sees: it leads to another world, which the devices show where
-- the transaction is solo; where it isn't, the world stays.
pub record Acts {S : Type 0} (t e : Option (List ℕ)) (k : ℕ) (me : Side) (c : Call S) (w : World) (u : Bool)
    (d : Hold S) (r : Reply c) (d1 : Hold S) (q : DeviceState) : Type 0 where
  pub world : World
  pub used : Bool
  pub act : Act c (at_used w u (sight k d)) r (at_used world used (sight k d1))
  pub shown : Shown me.solo t e q world
  pub mortal : me.solo ≡ false → (world ≡ w) × (used ≡ u)

-- Or one that isn't solo asked for the flag. In its own world it gets another reply, but in each of them it writes
-- next.
pub record AsksInVain {S A : Type 0} (k : ℕ) (me : Side) (c : Call S) (f : Reply c → Row S A) (w : World) (u : Bool)
    (d : Hold S) (r : Reply c) (d1 : Hold S) : Type 0 where
  pub mortal : me.solo ≡ false
  pub same : d1 ≡ d
  pub reply : Reply c
  pub act : Act c (at_used w u (sight k d)) reply (at_used w true (sight k d1))
  pub writes : Writes (f reply)
  pub told : Writes (f r)

-- a solo one used the world
acts_solo : {S : Type 0} (t e : Option (List ℕ)) (k : ℕ) (me : Side) (c : Call S) (w : World) (u : Bool) (d : Hold S)
    (r : Reply c) (d1 : Hold S) (q : DeviceState) → me.solo ≡ true → (world : World)
    → Act c (at_used w u (sight k d)) r (at_used world true (sight k d1)) → ShowsWorld t e q world →
    Acts t e k me c w u d r d1 q
acts_solo t e k me c w u d r d1 q solo world act shows =
    record {
      world = world;
      used = true;
      act = act;
      shown = λ h. shows;
      mortal = λ m.
          absurd (both_ways me.solo m solo);
    }

-- a call to the records leaves the world
acts_inside : {S : Type 0} (t e : Option (List ℕ)) (k : ℕ) (me : Side) (c : Call S) (w : World) (u : Bool) (d : Hold S)
    (p : DeviceState) (r : Reply c) (d1 : Hold S) (q : DeviceState) → q ≡ p → Shown me.solo t e p w
    → Act c (at_used w u (sight k d)) r (at_used w u (sight k d1)) → Acts t e k me c w u d r d1 q
acts_inside t e k me c w u d p r d1 q same shown act =
    record {
      world = w;
      used = u;
      act = act;
      shown = subst (λ (z : DeviceState). Shown me.solo t e z w) (sym same)
          shown;
      mortal = λ m. (refl, refl);
    }

acts : {S A : Type 0} (t e : Option (List ℕ)) (k : ℕ) (me : Side) (c : Call S) (f : Reply c → Row S A) (w : World)
    (u : Bool) (d : Hold S) (p : DeviceState) (r : Reply c) (d1 : Hold S) (q : DeviceState) → WritesThen c f
    → SegDoes k me c d r d1 → OuterDoes me c p r q → Shown me.solo t e p w →
    AsksInVain k me c f w u d r d1 ⊎ Acts t e k me c w u d r d1 q
acts t e k me (Put Output bytes) f w u d p r d1 q then h o s =
    inr (acts_solo t e k me (Put Output bytes) w u d r d1 q o.0 (wrote Output bytes w)
    (ap (λ z. at_used (wrote Output bytes w) true (sight k z)) h.0) (shows_out t e p q w bytes (s o.0) o.1))
acts t e k me (Put ErrorOutput bytes) f w u d p r d1 q then h o s =
    inr (acts_solo t e k me (Put ErrorOutput bytes) w u d r d1 q o.0 (wrote ErrorOutput bytes w)
    (ap (λ z. at_used (wrote ErrorOutput bytes w) true (sight k z)) h.0) (shows_err t e p q w bytes (s o.0) o.1))
acts t e k me (Take most) f w u d p r d1 q then h o s =
    inr (acts_solo t e k me (Take most) w u d r d1 q o.0 (took r w)
    (subst (λ l. IsLine l most r) (sym (s o.0).tells.input) o.1, ap (λ z. at_used (took r w) true (sight k z)) h.0)
    (shows_took t e p q w r (s o.0) o.3))
acts t e k me (SetMidLine b) f w u d p r d1 q then h o s =
    inr (acts_solo t e k me (SetMidLine b) w u d r d1 q o.0 (record w { mid = b })
    (ap (λ z. at_used (record w { mid = b }) true (sight k z)) h.0)
    (subst (λ (z : DeviceState). ShowsWorld t e z (record w { mid = b })) (sym o.1)
    (let y = (s o.0).tells in record {
      tells = record { input = y.input; ends = y.ends; out = y.out; err = y.err };
      mid = refl;
    })))
acts t e k me MidLine f w u d p r d1 q then h o s = elim (cases_Bool me.solo) [
  | inl solo ↦ inr (acts_solo t e k me MidLine w u d r d1 q solo w
      (o.0 ∙ sym (s solo).mid, ap (λ z. at_used w true (sight k z)) h.0)
      (subst (λ (z : DeviceState). ShowsWorld t e z w) (sym o.1) (s solo)))
  | inr mortal ↦ inl (record {
    mortal = mortal;
    same = h.0;
    reply = w.mid;
    act =
        (refl, ap (λ z. at_used w true (sight k z)) h.0);
    writes = then w.mid;
    told = then r;
  })
]
acts t e k me (Read a) f w u d p r d1 q then h o s =
    inr (acts_inside t e k me (Read a) w u d p r d1 q o s (h.0.0, ap (at_used w u) h.0.1))
acts t e k me (Find a v) f w u d p r d1 q then h o s =
    inr (acts_inside t e k me (Find a v) w u d p r d1 q o s (h.0.0, h.0.1, h.0.2, h.0.3, ap (at_used w u) h.0.4))
acts t e k me (Edit a x) f w u d p r d1 q then h o s =
    inr (acts_inside t e k me (Edit a x) w u d p r d1 q o s (h.0.0, h.0.1, h.0.2, ap (at_used w u) h.0.3))
acts t e k me (Make x) f w u d p r d1 q then h o s =
    inr (acts_inside t e k me (Make x) w u d p r d1 q o s (h.0.0, ap (at_used w u) h.0.1))
acts t e k me (Start x) f w u d p r d1 q then h o s =
    inr (acts_inside t e k me (Start x) w u d p r d1 q o s (ap (at_used w u) h.0))

-- what a call that was done leaves beside
pub call_beside : {S : Type 0} (k : ℕ) (me : Side) (c : Call S) (d : Hold S) (r : Reply c) (e : Hold S) →
    SegDoes k me c d r e → Beside k me (λ a. Changes a c) d e
call_beside k me (Put on bytes) d r e h = subst (Beside k me (λ a. ⊥) d) (sym h.0) (beside_refl k me d)
call_beside k me (Take most) d r e h = subst (Beside k me (λ a. ⊥) d) (sym h.0) (beside_refl k me d)
call_beside k me MidLine d r e h = subst (Beside k me (λ a. ⊥) d) (sym h.0) (beside_refl k me d)
call_beside k me (SetMidLine b) d r e h = subst (Beside k me (λ a. ⊥) d) (sym h.0) (beside_refl k me d)
call_beside k me (Read a) d r e h = h.1
call_beside k me (Find a v) d r e h = h.1
call_beside k me (Edit a x) d r e h = h.1
call_beside k me (Make q) d r e h = h.1
call_beside k me (Start s) d r e h = h.1

-- ---- the way of a row

-- what the next call of a row changes was asked for on the way from there
pub asked_now : {S A : Type 0} (c : Call S) (f : Reply c → Row S A) (s : Sight S) (left : Row S A) (t : Sight S)
    (a : ℕ) → Upto pure (Do c f) s left t → Changes a c → AskedFor (Do c f) s left t a
unfolding Upto
asked_now c f s left t a on h = record { call = c; next = f; at = s; upto = inl (refl, refl); on = on; changes = h }

-- and so was what was asked for after it
pub asked_later : {S A : Type 0} (c : Call S) (f : Reply c → Row S A) (s : Sight S) (r : Reply c) (m : Sight S)
    (left : Row S A) (t : Sight S) (a : ℕ) → Act c s r m → AskedFor (f r) m left t a → AskedFor (Do c f) s left t a
unfolding Upto
asked_later c f s r m left t a act h = record {
  call = h.call;
  next = h.next;
  at = h.at;
  upto =
      inr (r, m, act, h.upto);
  on = h.on;
  changes = h.changes;
}

-- A row was begun over a view, and `left` is left of it there. From the world w on it is begun over what the segment
-- sees: to a place, where the same is left, and whose world the devices show where the transaction is solo. Or the
-- transaction isn't solo, and writes next at both places, which differ by the flag that it was told. On the way
-- others were doomed for what it asked to change.
pub record Way {S A : Type 0} (t e : Option (List ℕ)) (k : ℕ) (me : Side) (row : Row S A) (w : World) (u : Bool)
    (d : Hold S) (left : Row S A) (d1 : Hold S) (q : DeviceState) : Type 0 where
  pub next : Row S A
  pub world : World
  pub used : Bool
  pub upto : Upto pure row (at_used w u (sight k d)) next (at_used world used (sight k d1))
  pub shown : Shown me.solo t e q world
  pub beside : Beside k me (AskedFor row (at_used w u (sight k d)) next (at_used world used (sight k d1))) d d1
  pub ends : ((next ≡ left) × (me.solo ≡ false → (world ≡ w) × (used ≡ u))) ⊎
      ((me.solo ≡ false) × Writes next × Writes left)

module _ {S A : Type 0} (t e : Option (List ℕ)) (k : ℕ) (me : Side) (w : World) (u : Bool) (d : Hold S) where
  -- nothing was done
  way_none : (row : Row S A) (q : DeviceState) → Shown me.solo t e q w → Way t e k me row w u d row d q
  way_none row q shown = record {
    next = row;
    world = w;
    used = u;
    upto = upto_none pure row (at_used w u (sight k d));
    shown = shown;
    beside = beside_refl k me d;
    ends = inl (refl, λ m. (refl, refl));
  }

  -- one call was done, and then others
  way_more : (c : Call S) (f : Reply c → Row S A) (r : Reply c) (d1 : Hold S) (p : DeviceState) (left : Row S A)
      (d2 : Hold S) (q : DeviceState) → SegDoes k me c d r d1 → (a : Acts t e k me c w u d r d1 p)
      → Way t e k me (f r) a.world a.used d1 left d2 q → Way t e k me (Do c f) w u d left d2 q
  unfolding Upto
  way_more c f r d1 p left d2 q done a rest =
      let sv = at_used w u (sight k d) in
      let sm = at_used a.world a.used (sight k d1) in
      let su = at_used rest.world rest.used (sight k d2) in
      let on : Upto pure (Do c f) sv rest.next su = inr (r, sm, a.act, rest.upto) in
      let head = beside_weaker (λ x. Changes x c) (AskedFor (Do c f) sv rest.next su) k me d d1
      (λ x h. asked_now c f sv rest.next su x on h) (call_beside k me c d r d1 done) in
      let tail = beside_weaker (AskedFor (f r) sm rest.next su) (AskedFor (Do c f) sv rest.next su) k me d1 d2
      (λ x h. asked_later c f sv r sm rest.next su x a.act h) rest.beside in
      record {
        next = rest.next;
        world = rest.world;
        used = rest.used;
        upto = on;
        shown = rest.shown;
        beside = beside_then k me d d1 d2 head tail;
        ends = elim rest.ends [
          | inl x ↦ inl (x.0, λ m. let y = x.1 m in let z = a.mortal m in (y.0 ∙ z.0, y.1 ∙ z.1))
          | inr x ↦ inr x
        ];
      }

  -- one that isn't solo asked for the flag
  way_asked : (c : Call S) (f : Reply c → Row S A) (r : Reply c) (d1 : Hold S) (q : DeviceState) →
      AsksInVain k me c f w u d r d1 → Way t e k me (Do c f) w u d (f r) d1 q
  unfolding Upto
  way_asked c f r d1 q h = record {
    next = f h.reply;
    world = w;
    used = true;
    upto = inr (h.reply, at_used w true (sight k d1), h.act, upto_none pure (f h.reply) (at_used w true (sight k d1)));
    shown = λ solo. absurd (both_ways me.solo h.mortal solo);
    beside = subst (Beside k me (AskedFor (Do c f) (at_used w u (sight k d)) (f h.reply) (at_used w true (sight k d1)))
        d) (sym h.same) (beside_refl k me d);
    ends = inr (h.mortal, h.writes, h.told);
  }

-- a row of which an answer alone is left was done
upto_run : {S A : Type 0} (row : Row S A) (s : Sight S) (y : A) (z : Sight S) → Upto pure row s (Ret y) z →
    Does row s y z
unfolding Upto Run
upto_run (Ret a) s y z h = (let e = h.0 in cc, h.1)
upto_run (Do c f) s y z h = elim h [
  | inl x ↦ absurd (let e = x.0 in cc)
  | inr x ↦
      (x.0, x.1, x.2, upto_run (f x.0) x.1 y z x.3)
]

module _ {S X : Type 0} (hold : X → Hold S) (devices : X → DeviceState) (segment : X → ℕ) (me : X → Side)
    (same : X → X → Type 0) (k : ℕ) (s : Side) where
  -- a call that was done, of a given segment and side
  pub done_at : (c : Call S) (v : X) (r : Reply c) (m : X) → segment v ≡ k → me v ≡ s →
      (seg_sense hold devices segment me same).does c v r m →
      SegDoes k s c (hold v) r (hold m) × OuterDoes s c (devices v) r (devices m)
  done_at c v r m ek es d = (
    subst (λ i. SegDoes i s c (hold v) r (hold m)) ek (subst (λ z. SegDoes (segment v) z c (hold v) r (hold m)) es d.0),
    subst (λ z. OuterDoes z c (devices v) r (devices m)) es d.1,
  )

module _ {S X : Type 0} (hold : X → Hold S) (devices : X → DeviceState) (segment : X → ℕ) (me : X → Side)
    (same : X → X → Type 0) (t e : Option (List ℕ)) (k : ℕ) (s : Side) where
  -- of one that isn't solo no write is done
  wrote_none : {A : Type 0} (row : Row S A) (v : X) (left : Row S A) (m : X) → (me v).solo ≡ false → Writes row →
      Upto (seg_sense hold devices segment me same) row v left m → (left ≡ row) × (m ≡ v)
  unfolding Upto
  wrote_none (Do (Put Output bytes) f) v left m mortal h d =
      elim d [ inl x ↦ x | inr y ↦ absurd (both_ways (me v).solo mortal y.2.1.0) ]
  wrote_none (Do (Put ErrorOutput bytes) f) v left m mortal h d =
      elim d [ inl x ↦ x | inr y ↦ absurd (both_ways (me v).solo mortal y.2.1.0) ]
  wrote_none (Ret a) v left m mortal h d = absurd h
  wrote_none (Do (Take most) f) v left m mortal h d = absurd h
  wrote_none (Do MidLine f) v left m mortal h d = absurd h
  wrote_none (Do (SetMidLine b) f) v left m mortal h d = absurd h
  wrote_none (Do (Read a) f) v left m mortal h d = absurd h
  wrote_none (Do (Find a x) f) v left m mortal h d = absurd h
  wrote_none (Do (Edit a x) f) v left m mortal h d = absurd h
  wrote_none (Do (Make x) f) v left m mortal h d = absurd h
  wrote_none (Do (Start x) f) v left m mortal h d = absurd h

  -- a row that was begun over the view
  pub way : {A : Type 0} (row : Row S A) (v : X) (left : Row S A) (m : X) (w : World) (u : Bool) → segment v ≡ k →
      me v ≡ s → Shown s.solo t e (devices v) w → AsksToPrint row →
      Upto (seg_sense hold devices segment me same) row v left m
      → Way t e k s row w u (hold v) left (hold m) (devices m)
  unfolding Upto
  way {A} (Ret a) v left m w u ek es shown asks d =
      subst (λ (z : X). Way t e k s (Ret a) w u (hold v) left (hold z) (devices z)) (sym d.1)
      (subst (λ (z : Row S A). Way t e k s (Ret a) w u (hold v) z (hold v) (devices v)) (sym d.0)
      (way_none t e k s w u (hold v) (Ret a) (devices v) shown))
  way {A} (Do c f) v left m w u ek es shown asks d = elim d [
    | inl x ↦ subst (λ (z : X). Way t e k s (Do c f) w u (hold v) left (hold z) (devices z)) (sym x.1)
        (subst (λ (z : Row S A). Way t e k s (Do c f) w u (hold v) z (hold v) (devices v)) (sym x.0)
        (way_none t e k s w u (hold v) (Do c f) (devices v) shown))
    | inr y ↦
        let r = y.0 in
        let n = y.1 in
        let done = done_at hold devices segment me same k s c v r n ek es y.2 in
        let en : me n ≡ s = y.2.2.me_is ∙ es in
        elim (acts t e k s c f w u (hold v) (devices v) r (hold n) (devices n) asks.0 done.0 done.1 shown) [
          | inl h ↦ let x = wrote_none (f r) n left m (ap (λ (z : Side). z.solo) en ∙ h.mortal) h.told y.3 in
              subst (λ (z : X). Way t e k s (Do c f) w u (hold v) left (hold z) (devices z)) (sym x.1)
              (subst (λ (z : Row S A). Way t e k s (Do c f) w u (hold v) z (hold n) (devices n)) (sym x.0)
              (way_asked t e k s w u (hold v) c f r (hold n) (devices n) h))
          | inr a ↦ way_more t e k s w u (hold v) c f r (hold n) (devices n) left (hold m) (devices m) done.0 a
              (way (f r) n left m a.world a.used (y.2.2.segment_is ∙ ek) en a.shown (asks.1 r) y.3)
        ]
  ]

  -- ---- a row that was done

  -- From the world w on it is done over what the segment sees, and leads to a world that the devices show where it is
  -- solo.
  pub record RowDone {A : Type 0} (row : Row S A) (w : World) (u : Bool) (d : Hold S) (y : A) (d1 : Hold S)
      (q : DeviceState) : Type 0 where
    pub world : World
    pub used : Bool
    pub does : Does row (at_used w u (sight k d)) y (at_used world used (sight k d1))
    pub shown : Shown s.solo t e q world
    pub beside : Beside k s (AskedFor row (at_used w u (sight k d)) (Ret y) (at_used world used (sight k d1))) d d1
    pub mortal : s.solo ≡ false → (world ≡ w) × (used ≡ u)

  way_done : {A : Type 0} (row : Row S A) (w : World) (u : Bool) (d : Hold S) (y : A) (d1 : Hold S) (q : DeviceState) →
      Way t e k s row w u d (Ret y) d1 q → RowDone row w u d y d1 q
  way_done {A} row w u d y d1 q h = elim h.ends [
    | inl z ↦ record {
      world = h.world;
      used = h.used;
      does = upto_run row (at_used w u (sight k d)) y (at_used h.world h.used (sight k d1))
          (subst (λ (l : Row S A). Upto pure row (at_used w u (sight k d)) l (at_used h.world h.used (sight k d1))) z.0
          h.upto);
      shown = h.shown;
      beside = subst (λ (l : Row S A). Beside k s
          (AskedFor row (at_used w u (sight k d)) l (at_used h.world h.used (sight k d1))) d d1) z.0 h.beside;
      mortal = z.1;
    }
    | inr z ↦ absurd z.2
  ]

  pub row_done : {A : Type 0} (row : Row S A) (v : X) (y : A) (m : X) (w : World) (u : Bool) → segment v ≡ k →
      me v ≡ s → Shown s.solo t e (devices v) w → AsksToPrint row →
      Run (seg_sense hold devices segment me same) row v y m
      → RowDone row w u (hold v) y (hold m) (devices m)
  row_done row v y m w u ek es shown asks h =
      way_done row w u (hold v) y (hold m) (devices m)
      (way row v (Ret y) m w u ek es shown asks (run_upto (seg_sense hold devices segment me same) row v y m h))
