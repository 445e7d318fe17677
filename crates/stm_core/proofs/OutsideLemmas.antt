-- Each move keeps what is known of the outside, and that each conflict stood.
use Rattle.std.proofs.Common.{◌≡◌, ◌≢◌, ◌⊎◌, ℕ, true, false, cond, eqb, List, [], ◌∷◌, ◌++◌, slice_set, Option, Some, None, All, refl, sym, ◌∙◌, ap, subst, inl, inr, append_assoc, append-nil}
use Rattle.std.proofs.lemmas.Bool.{cases_Bool, both_ways, cond-true, cond-false, false_from_ne_true, cases_eq, ne_eqb, eq-eqb}
use Rattle.std.proofs.lemmas.List.Elements.{All-push, All-nil, All-weaker}
use Rattle.py_data.specs.declared.stop.Conflict.{Conflict}
use Rattle.py_data.specs.World.{World}
use Rattle.py_data.specs.Row.{Row}
use Rattle.py_data.specs.Sight.{Sight, opened}
use Rattle.lock_run.specs.declared.turn.Turn.{Turn}
use Rattle.lock_run.specs.Prog.{Prog}
use Rattle.lock_run.specs.Machine.{Machine, Steps}
use Rattle.lock_run.specs.Cut.{PartOf, Broken}
use Rattle.lock_run.proofs.StepsMirror.{steps_grows}
use Rattle.stm_segment.specs.declared.cause.Cause.{Cause}
use Rattle.stm_segment.specs.declared.cause.Cause.TheVariants.{Full, ReadFault, WriteFault, ErrFault, OutOfMemory}
use Rattle.stm_segment.specs.CoreState.{Transaction, Segment, Idle, Doomed, Running, CoreState, committed, world_after, turn_of, set_segment, with_segment, fresh, soloed, core_new, first_cause}
use Rattle.stm_segment.specs.Conflict.{loser, IsStanding}
use Rattle.stm_core.specs.Good.{Stands, Apart, Good}
use Rattle.stm_core.specs.Moves.{begun_at, published, Move, Begins, Drops, Dooms, Loses, Goes, Rests, Commits, Keeps, Next}
use Rattle.stm_core.proofs.Publish.{get_append}
use Rattle.stm_segment.proofs.Fits.{get_set_other}
use Rattle.stm_core.proofs.Kept.{set_cases, same_run, loser_runs, good_replaced, good_next, is_conflict}
use Rattle.stm_core.proofs.New.{good_new}
use Rattle.stm_core.specs.Stood.{Stood}
use Rattle.stm_core.specs.Outside.{Outer, FaultOf, is_device, IsBroken, Outside, Kept, told_after, IsInner, OuterMove, Inner, Solos, Breaks, IsFreeThread, NoOtherSolo, OuterNext, OuterFollows, outer_new}

-- a segment runs something, or not
runs_or_not : {S : Type 0} (s : Segment S) →
    ((x : Transaction S) × (s ≡ Running x)) ⊎ ((x : Transaction S) → s ≡ Running x → ⊥)
runs_or_not Idle = inr (λ x e. absurd cc)
runs_or_not (Doomed f) = inr (λ x e. absurd cc)
runs_or_not (Running x) = inl (x, refl)

abbrev NoSolo : {S : Type 0} → (ℕ → Segment S) → Type 0
NoSolo {S} f = (i : ℕ) (x : Transaction S) → f i ≡ Running x → x.solo ≡ false

-- where segment i was set to s, and what ran there was not solo
none_before : {S : Type 0} (f : ℕ → Segment S) (i : ℕ) (s : Segment S) → NoSolo (set_segment i s f) →
    ((x : Transaction S) → f i ≡ Running x → x.solo ≡ false) → NoSolo f
none_before f i s n here j y e = elim (cases_eq j i) [
  | inl h ↦ here y (ap f (sym h) ∙ e)
  | inr h ↦ n j y (cond-false (eqb j i) s (f j) (ne_eqb j i h) ∙ e)
]

none_with_cause : {S : Type 0} (p : Prog S) (first : Machine S) (k : Outer S) → Outside p first k → k.core.cause ≡ None
    → (b : Broken) → k.broken ≡ Some b → ⊥
none_with_cause p first k o n b e = (o.broken b e).caused n

-- a segment is emptied of what is not solo, or has done no step
outside_emptied : {S : Type 0} (p : Prog S) (first : Machine S) (k : Outer S) (i : ℕ) (s : Segment S)
    (fs : List Conflict) → Outside p first k → ((x : Transaction S) → s ≡ Running x → ⊥)
    → ((x : Transaction S) → k.core.segments i ≡ Running x → x.solo ≡ true → x.world ≡ k.core.world) →
    Outside p first (record k { core = record (with_segment i s k.core) { conflicts = fs } })
outside_emptied {S} p first k i s fs o free quiet =
    let keep : (j : ℕ) (y : Transaction S) → set_segment i s k.core.segments j ≡ Running y →
    k.core.segments j ≡ Running y = λ j y e. elim (set_cases i j s (Running y) k.core.segments e) [
      | inl h ↦ absurd (free y h.1)
      | inr h ↦ h.1
    ] in
    record {
      told = λ n. let old = o.told n in record {
        solo = λ j y e f. old.solo j y (keep j y e) f;
        alone = λ f. elim (runs_or_not (k.core.segments i)) [
          | inl r ↦ elim (cases_Bool r.0.solo) [
            | inl y ↦ old.solo i r.0 r.1 y ∙ quiet r.0 r.1 y
            | inr n' ↦ old.alone (none_before k.core.segments i s f
                (λ x e. subst (λ (z : Transaction S). z.solo ≡ false) (same_run r.0 x (sym r.1 ∙ e)) n'))
          ]
          | inr r ↦ old.alone (none_before k.core.segments i s f (λ x e. absurd (r x e)))
        ];
      };
      broken = λ b e. let v = o.broken b e in record {
        caused = v.caused;
        solo = λ j x h. v.solo j x (keep j x h);
        thread = λ j x h. v.thread j x (keep j x h);
        broke = v.broke;
        stays = v.stays;
        why = v.why;
      };
      faulted = o.faulted;
    }

outside_begin : {S : Type 0} (p : Prog S) (first : Machine S) (k : Outer S) (i t : ℕ) (q : S) → Outside p first k →
    k.core.cause ≡ None → k.core.segments i ≡ Idle → Outside p first (record k { core = begun_at i t q k.core })
outside_begin {S} p first k i t q o n idle = record {
  told = λ m. let old = o.told m in record {
    solo = λ j y e f. elim (set_cases i j (Running (fresh k.core t q)) (Running y) k.core.segments e) [
      | inl h ↦ absurd (both_ways false refl (ap (λ (z : Transaction S). z.solo) (same_run (fresh k.core t q) y h.1) ∙
          f))
      | inr h ↦ old.solo j y h.1 f
    ];
    alone = λ f. old.alone (none_before k.core.segments i (Running (fresh k.core t q)) f
        (λ x e. absurd (let w : Idle ≡ Running x = sym idle ∙ e in cc)));
  };
  broken = λ b e. absurd (none_with_cause p first k o n b e);
  faulted = o.faulted;
}

outside_solo : {S : Type 0} (p : Prog S) (first : Machine S) (k : Outer S) (i : ℕ) (x : Transaction S) →
    Outside p first k → k.core.cause ≡ None → k.core.segments i ≡ Running x
    → NoOtherSolo i k.core → Outside p first
    (record k { core = with_segment i (Running (soloed k.core.world x)) k.core })
outside_solo {S} p first k i x o n is alone = record {
  told = λ m. let old = o.told m in
      let here : k.told ≡ world_after k.core.world x = elim (cases_Bool x.solo) [
        | inl y ↦ old.solo i x is y ∙ sym (cond-true x.solo x.world k.core.world y)
        | inr y ↦ old.alone (λ j z e. elim (cases_eq j i) [
          | inl h ↦ subst (λ (r : Transaction S). r.solo ≡ false)
              (same_run x z (sym is ∙ (ap k.core.segments (sym h) ∙ e))) y
          | inr h ↦ alone j z h e
        ]) ∙ sym (cond-false x.solo x.world k.core.world y)
      ] in
      record {
        solo = λ j y e f. elim (set_cases i j (Running (soloed k.core.world x)) (Running y) k.core.segments e) [
          | inl h ↦ here ∙ ap (λ (z : Transaction S). z.world) (same_run (soloed k.core.world x) y h.1)
          | inr h ↦ absurd (both_ways y.solo (alone j y h.0 h.1) f)
        ];
        alone = λ f. absurd (both_ways true
            (f i (soloed k.core.world x)
            (cond-true (eqb i i) (Running (soloed k.core.world x)) (k.core.segments i) (eq-eqb i i refl))) refl);
      };
  broken = λ b e. absurd (none_with_cause p first k o n b e);
  faulted = o.faulted;
}

-- the transaction of a segment is replaced by one of the same thread
outside_replaced : {S : Type 0} (p : Prog S) (first : Machine S) (k : Outer S) (i : ℕ) (x x1 : Transaction S)
    (t : World) → Outside p first k → k.core.segments i ≡ Running x
    → ((j : ℕ) (y : Transaction S) → j ≢ i → k.core.segments j ≡ Running y → Apart x y) → x1.thread ≡ x.thread →
    x1.solo ≡ x.solo
    → (k.broken ≡ None → x.solo ≡ true → t ≡ x1.world) → (x.solo ≡ false → t ≡ k.told)
    → Outside p first (record k { core = with_segment i (Running x1) k.core; told = t })
outside_replaced {S} p first k i x x1 t o is ps thread solo own others = record {
  told = λ m. let old = o.told m in record {
    solo = λ j y e f. elim (set_cases i j (Running x1) (Running y) k.core.segments e) [
      | inl h ↦ let same = same_run x1 y h.1 in own m (sym solo ∙ (ap (λ (z : Transaction S). z.solo) same ∙ f)) ∙
          ap (λ (z : Transaction S). z.world) same
      | inr h ↦ others (false_from_ne_true x.solo (λ g. both_ways y.solo ((ps j y h.0 h.1).solo g) f)) ∙
          old.solo j y h.1 f
    ];
    alone = λ f.
        let mine : x.solo ≡ false = sym solo ∙
        f i x1 (cond-true (eqb i i) (Running x1) (k.core.segments i) (eq-eqb i i refl)) in
        others mine ∙ old.alone (none_before k.core.segments i (Running x1) f
        (λ z e. subst (λ (r : Transaction S). r.solo ≡ false) (same_run x z (sym is ∙ e)) mine));
  };
  broken = λ b e.
      let v = o.broken b e in
      let w = v.broke in
      let same : t ≡ k.told = others (v.solo i x is) in
      record {
        caused = v.caused;
        solo = λ j y h. elim (set_cases i j (Running x1) (Running y) k.core.segments h) [
          | inl g ↦ ap (λ (z : Transaction S). z.solo) (sym (same_run x1 y g.1)) ∙ (solo ∙ v.solo i x is)
          | inr g ↦ v.solo j y g.1
        ];
        thread = λ j y h q. elim (set_cases i j (Running x1) (Running y) k.core.segments h) [
          | inl g ↦ v.thread i x is (sym thread ∙ (ap (λ (z : Transaction S). z.thread) (same_run x1 y g.1) ∙ q))
          | inr g ↦ v.thread j y g.1 q
        ];
        broke = record {
          front = w.front;
          rest = w.rest;
          history_is = w.history_is;
          turns = w.turns;
          no_more = w.no_more;
          machine = w.machine;
          run = w.run;
          quiet = w.quiet;
          state = w.state;
          is = w.is;
          lives = w.lives;
          cut = record {
            left = w.cut.left;
            place = w.cut.place;
            upto = w.cut.upto;
            part =
                subst (PartOf w.cut.left w.cut.place.world) (sym same) w.cut.part;
          };
        };
        stays = v.stays;
        why = v.why;
      };
  faulted = o.faulted;
}

outside_published : {S : Type 0} (p : Prog S) (first : Machine S) (k : Outer S) (i : ℕ) (x : Transaction S) →
    Outside p first k → k.core.segments i ≡ Running x → Outside p first (record k { core = published i x k.core })
outside_published {S} p first k i x o is =
    let keep : (j : ℕ) (y : Transaction S) → set_segment i Idle k.core.segments j ≡ Running y →
    (j ≢ i) × (k.core.segments j ≡ Running y) = λ j y e. elim (set_cases i j Idle (Running y) k.core.segments e) [
      | inl h ↦ let w = h.1 in absurd cc
      | inr h ↦ h
    ] in
    record {
      told = λ m. let old = o.told m in record {
        solo = λ j y e f. old.solo j y (keep j y e).1 f;
        alone = λ f. elim (cases_Bool x.solo) [
          | inl y ↦ old.solo i x is y ∙ sym (cond-true x.solo x.world k.core.world y)
          | inr y ↦ old.alone (none_before k.core.segments i Idle f
              (λ z e. subst (λ (r : Transaction S). r.solo ≡ false) (same_run x z (sym is ∙ e)) y)) ∙
              sym (cond-false x.solo x.world k.core.world y)
        ];
      };
      broken = λ b e. let v = o.broken b e in let w = v.broke in record {
        caused = v.caused;
        solo = λ j y h. v.solo j y (keep j y h).1;
        thread = λ j y h. v.thread j y (keep j y h).1;
        broke = record {
          front = w.front;
          rest = w.rest ++ turn_of x ∷ [];
          history_is = ap (λ ts. ts ++ turn_of x ∷ []) w.history_is ∙ append_assoc w.front w.rest (turn_of x ∷ []);
          turns = w.turns;
          no_more = All-push (λ (t : Turn). t.thread ≢ b.thread) w.rest (turn_of x) w.no_more (v.thread i x is);
          machine = w.machine;
          run = w.run;
          quiet = w.quiet ∙ sym (cond-false x.solo x.world k.core.world (v.solo i x is));
          state = w.state;
          is = w.is;
          lives = w.lives;
          cut = w.cut;
        };
        stays = get_append (slice_set k.core.threads x.thread x.state) x.started b.thread w.state
            (get_set_other k.core.threads x.thread b.thread x.state (v.thread i x is) ∙ v.stays);
        why = v.why;
      };
      faulted = o.faulted;
    }

-- the first cause stays
first_stays : (o : Option Cause) (e d : Cause) → first_cause o e ≡ Some d → ((o ≡ None) × (e ≡ d)) ⊎ (o ≡ Some d)
first_stays None e d h = inl (refl, cc)
first_stays (Some c) e d h = inr h

kept_cause : (o : Option Cause) (e : Cause) → first_cause o e ≢ None
kept_cause None e h = cc
kept_cause (Some c) e h = cc

outside_keeps : {S : Type 0} (p : Prog S) (first : Machine S) (k : Outer S) (e : Cause) → Outside p first k →
    is_device e ≡ false → Outside p first (record k { core = record k.core { cause = first_cause k.core.cause e } })
outside_keeps p first k e o inner = record {
  told = λ n. let old = o.told n in record { solo = old.solo; alone = old.alone };
  broken = λ b h. let v = o.broken b h in record {
    caused = kept_cause k.core.cause e;
    solo = v.solo;
    thread = v.thread;
    broke = v.broke;
    stays = v.stays;
    why = λ d f. elim (first_stays k.core.cause e d f) [ inl g ↦ absurd (v.caused g.0) | inr g ↦ v.why d g ];
  };
  faulted = λ d f dev. elim (first_stays k.core.cause e d f) [
    | inl g ↦ absurd (both_ways (is_device d) (subst (λ z. is_device z ≡ false) g.1 inner) dev)
    | inr g ↦ o.faulted d g dev
  ];
}

-- a cause that is no device's fits each call
fits_any : {S A : Type 0} (d : Cause) (row : Row S A) → is_device d ≡ false → FaultOf d row
fits_any (Full r n l) row e = tt
fits_any OutOfMemory row e = tt
fits_any ReadFault row e = absurd cc
fits_any WriteFault row e = absurd cc
fits_any ErrFault row e = absurd cc

outside_breaks : {S : Type 0} (p : Prog S) (first : Machine S) (most : ℕ) (k k1 : Outer S) (e : Cause) (b : Broken)
    (told : World) → Good p first most k.core → Outside p first k → OuterNext p most k (Breaks e b told) k1 →
    Outside p first k1
outside_breaks {S} p first most k k1 e b told g o n = subst (Outside p first) (sym n.6) (record {
  told = λ h. absurd cc;
  broken = λ d h. let same : b ≡ d = cc in
      subst (λ z. IsBroken p first (record {
        core = record k.core { cause = first_cause k.core.cause e };
        told = told;
        broken = Some b;
      }) z) same (record {
        caused = kept_cause k.core.cause e;
        solo = n.5;
        thread = λ i x f q. n.0.rests i x f (sym q);
        broke = record {
          front = k.core.history;
          rest = [];
          history_is = sym (append-nil k.core.history);
          turns = n.4;
          no_more = All-nil (λ (t : Turn). t.thread ≢ b.thread);
          machine = committed k.core;
          run = g.run;
          quiet = refl;
          state = n.0.state;
          is = n.0.is;
          lives = n.0.lives;
          cut = n.1;
        };
        stays = n.0.is;
        why = λ d f. elim (first_stays k.core.cause e d f) [
          | inl w ↦ subst (λ z. FaultOf z n.1.left) w.1 n.2
          | inr w ↦ fits_any d n.1.left (false_from_ne_true (is_device d) (λ dev. let r = o.faulted d w dev in
              let q : None ≡ Some r.0 = sym n.3 ∙ r.1 in cc))
        ];
      });
  faulted = λ d f dev. (b, refl);
})

-- ---- conflicts

stood_later : {S : Type 0} (p : Prog S) (first : Machine S) (ts : List Turn) (t : Turn) (f : Conflict) →
    Stood p first ts f → Stood p first (ts ++ t ∷ []) f
stood_later p first ts t f s = record {
  front = s.front;
  rest = s.rest ++ t ∷ [];
  history_is = ap (λ us. us ++ t ∷ []) s.history_is ∙ append_assoc s.front s.rest (t ∷ []);
  machine = s.machine;
  run = s.run;
  x = s.x;
  y = s.y;
  writes = s.writes;
  reads = s.reads;
  apart = s.apart;
  is = s.is;
  differ = s.differ;
  held = s.held;
  met = s.met;
  lost = s.lost;
  loses = s.loses;
  mortal = s.mortal;
}

stands_now : {S : Type 0} (p : Prog S) (first : Machine S) (most : ℕ) (c : CoreState S) (f : Conflict) →
    Good p first most c → IsStanding p c f → Stood p first c.history f
stands_now p first most c f g v = record {
  front = c.history;
  rest = [];
  history_is = sym (append-nil c.history);
  machine = committed c;
  run = g.run;
  x = v.x;
  y = v.y;
  writes = g.stands f.writer.segment v.x v.writes;
  reads = g.stands f.other.segment v.y v.reads;
  apart = g.apart f.writer.segment f.other.segment v.x v.y v.differ v.writes v.reads;
  is = v.is;
  differ = v.differ;
  held = v.held;
  met = v.met;
  lost = v.lost;
  loses = v.loses;
  mortal = (is_conflict p first most c f g v).mortal;
}

stood_next : {S : Type 0} (p : Prog S) (first : Machine S) (most : ℕ) (c c1 : CoreState S) (m : Move S) →
    Good p first most c → Next p most c m c1 → All (Stood p first c.history) c.conflicts →
    All (Stood p first c1.history) c1.conflicts
stood_next {S} p first most c c1 (Begins i t q) g n s =
    subst (λ (z : CoreState S). All (Stood p first z.history) z.conflicts) (sym n.5) s
stood_next {S} p first most c c1 (Drops i) g n s =
    subst (λ (z : CoreState S). All (Stood p first z.history) z.conflicts) (sym n.1) s
stood_next {S} p first most c c1 (Dooms f) g n s =
    subst (λ (z : CoreState S). All (Stood p first z.history) z.conflicts) (sym n.1)
    (All-push (Stood p first c.history) c.conflicts f s (stands_now p first most c f g n.0))
stood_next {S} p first most c c1 (Loses f) g n s =
    subst (λ (z : CoreState S). All (Stood p first z.history) z.conflicts) (sym n.1)
    (All-push (Stood p first c.history) c.conflicts f s (stands_now p first most c f g n.0))
stood_next {S} p first most c c1 (Goes i x x1) g n s =
    subst (λ (z : CoreState S). All (Stood p first z.history) z.conflicts) (sym n.4) s
stood_next {S} p first most c c1 (Rests i x x1) g n s =
    subst (λ (z : CoreState S). All (Stood p first z.history) z.conflicts) (sym n.3) s
stood_next {S} p first most c c1 (Commits i x) g n s =
    subst (λ (z : CoreState S). All (Stood p first z.history) z.conflicts) (sym n.3)
    (All-weaker (Stood p first c.history) (Stood p first (c.history ++ turn_of x ∷ []))
    (λ f h. stood_later p first c.history (turn_of x) f h) c.conflicts s)
stood_next {S} p first most c c1 (Keeps e) g n s =
    subst (λ (z : CoreState S). All (Stood p first z.history) z.conflicts) (sym n.6) s

-- ---- all moves

-- a solo transaction that has done no step has left the world
pub unstepped : {S : Type 0} (p : Prog S) (first : Machine S) (most : ℕ) (c : CoreState S) (i : ℕ) (x : Transaction S)
    → Good p first most c → c.segments i ≡ Running x → x.solo ≡ true → x.steps ≡ 0 → x.world ≡ c.world
unstepped {S} p first most c i x g is solo none =
    let s = g.stands i x is in
    let z : Steps p 0 s.before (opened S c.image c.world) x.state s.sight =
    subst (λ n. Steps p n s.before (opened S c.image c.world) x.state s.sight) none s.steps in
    sym (s.shows.world_is solo) ∙ ap (λ (v : Sight S). v.world) z.1

outside_inner : {S : Type 0} (p : Prog S) (first : Machine S) (most : ℕ) (k : Outer S) (c1 : CoreState S) (m : Move S)
    → Good p first most k.core → Next p most k.core m c1 → IsInner m → Outside p first k →
    Outside p first (record k { core = c1; told = told_after m k.told })
outside_inner {S} p first most k c1 (Begins i t q) g n h o =
    subst (λ (z : CoreState S). Outside p first (record k { core = z })) (sym n.5)
    (outside_begin p first k i t q o n.0 n.1)
outside_inner {S} p first most k c1 (Drops i) g n h o =
    subst (λ (z : CoreState S). Outside p first (record k { core = z })) (sym n.1)
    (outside_emptied p first k i Idle k.core.conflicts o (λ x e. cc)
    (λ x e f. unstepped p first most k.core i x g e f (n.0 x e f)))
outside_inner {S} p first most k c1 (Dooms f) g n h o =
    subst (λ (z : CoreState S). Outside p first (record k { core = z })) (sym n.1)
    (let r = loser_runs p first most k.core f g n.0 in
    outside_emptied p first k (loser f).segment (Doomed f) (k.core.conflicts ++ f ∷ []) o (λ x e. cc)
    (λ x e s. absurd (both_ways x.solo
    (subst (λ (z : Transaction S). z.solo ≡ false) (same_run r.run x (sym r.is ∙ e)) r.mortal) s)))
outside_inner {S} p first most k c1 (Loses f) g n h o =
    subst (λ (z : CoreState S). Outside p first (record k { core = z })) (sym n.1)
    (let r = loser_runs p first most k.core f g n.0 in
    outside_emptied p first k (loser f).segment Idle (k.core.conflicts ++ f ∷ []) o (λ x e. cc)
    (λ x e s. absurd (both_ways x.solo
    (subst (λ (z : Transaction S). z.solo ≡ false) (same_run r.run x (sym r.is ∙ e)) r.mortal) s)))
outside_inner {S} p first most k c1 (Goes i x x1) g n h o =
    subst (λ (z : CoreState S). Outside p first (record k { core = z; told = cond x.solo x1.world k.told })) (sym n.4)
    (outside_replaced p first k i x x1 (cond x.solo x1.world k.told) o n.0
    (λ j y d e. g.apart i j x y (λ q. d (sym q)) n.0 e) n.2.thread n.2.solo
    (λ z s. cond-true x.solo x1.world k.told s) (λ s. cond-false x.solo x1.world k.told s))
outside_inner {S} p first most k c1 (Rests i x x1) g n h o =
    subst (λ (z : CoreState S). Outside p first (record k { core = z })) (sym n.3)
    (outside_replaced p first k i x x1 k.told o n.0 (λ j y d e. g.apart i j x y (λ q. d (sym q)) n.0 e) n.1.thread
    n.1.solo (λ z s. (o.told z).solo i x n.0 s ∙ sym n.1.world) (λ s. refl))
outside_inner {S} p first most k c1 (Commits i x) g n h o =
    subst (λ (z : CoreState S). Outside p first (record k { core = z })) (sym n.3)
    (outside_published p first k i x o n.0)
outside_inner {S} p first most k c1 (Keeps e) g n h o =
    subst (λ (z : CoreState S). Outside p first (record k { core = z })) (sym n.6) (outside_keeps p first k e o h)

-- a solo transaction stands as before
solo_stands : {S : Type 0} (p : Prog S) (first : Machine S) (most : ℕ) (c : CoreState S) (i : ℕ) (x : Transaction S) →
    Good p first most c → c.segments i ≡ Running x → Stands p c.image c.threads c.world (soloed c.world x)
solo_stands {S} p first most c i x g is =
    let s = g.stands i x is in
    let w : s.sight.world ≡ world_after c.world x = elim (cases_Bool x.solo) [
      | inl y ↦ s.shows.world_is y ∙ sym (cond-true x.solo x.world c.world y)
      | inr y ↦ (steps_grows p x.steps s.before (opened S c.image c.world) x.state s.sight s.steps).world
          (s.shows.quiet y) ∙ sym (cond-false x.solo x.world c.world y)
    ] in
    record {
      before = s.before;
      sight = s.sight;
      is = s.is;
      lives = s.lives;
      steps = s.steps;
      shows = record {
        view = s.shows.view;
        made = s.shows.made;
        started = s.shows.started;
        looked = s.shows.looked;
        touched = s.shows.touched;
        within = s.shows.within;
        locked = s.shows.locked;
        unused = s.shows.unused;
        world_is = λ e. w;
        quiet = λ e. absurd (both_ways true e refl);
      };
    }

good_solo : {S : Type 0} (p : Prog S) (first : Machine S) (most : ℕ) (c : CoreState S) (i : ℕ) (x : Transaction S) →
    Good p first most c → c.cause ≡ None → c.segments i ≡ Running x
    → NoOtherSolo i c → Good p first most (with_segment i (Running (soloed c.world x)) c)
good_solo p first most c i x g none is alone =
    good_replaced p first most c i (soloed c.world x) g (solo_stands p first most c i x g is) (g.at_most i x is)
    (λ j y d e. let a = g.apart i j x y (λ q. d (sym q)) is e in
    record { threads = a.threads; begun = a.begun; made = a.made; changed = a.changed; solo = λ s. alone j y d e })
    (g.lost i x is) (λ n. absurd (n none))

-- a cause is kept while a thread lives that no segment runs
good_caused : {S : Type 0} (p : Prog S) (first : Machine S) (most : ℕ) (c : CoreState S) (e : Cause) (t : ℕ) →
    IsFreeThread p c t → Good p first most c → Good p first most (record c { cause = first_cause c.cause e })
good_caused p first most c e t free g = record {
  run = g.run;
  short = g.short;
  stands = g.stands;
  at_most = g.at_most;
  apart = g.apart;
  conflicts = g.conflicts;
  lost = g.lost;
  differ = g.differ;
  doomed = g.doomed;
  caused = λ n. record {
    thread = t;
    state = free.state;
    is = free.is;
    lives = free.lives;
    rests = λ j y h f.
        free.rests j y h (sym f);
  };
}

pub kept_next : {S : Type 0} (p : Prog S) (first : Machine S) (most : ℕ) (k k1 : Outer S) (m : OuterMove S) →
    Kept p first most k → OuterNext p most k m k1 → Kept p first most k1
kept_next p first most k k1 (Inner m) h n = subst (Kept p first most) (sym n.3) (record {
  good = good_next p first most k.core n.0 m h.good n.1;
  stood = stood_next p first most k.core n.0 m h.good n.1 h.stood;
  outside = outside_inner p first most k n.0 m h.good n.1 n.2 h.outside;
})
kept_next p first most k k1 (Solos i x) h n = subst (Kept p first most) (sym n.3) (record {
  good = good_solo p first most k.core i x h.good n.0 n.1 n.2;
  stood = h.stood;
  outside = outside_solo p first k i x h.outside n.0 n.1 n.2;
})
kept_next {S} p first most k k1 (Breaks e b told) h n =
    record {
      good = subst (λ (z : Outer S). Good p first most z.core) (sym n.6)
          (good_caused p first most k.core e b.thread n.0 h.good);
      stood = subst (λ (z : Outer S). All (Stood p first z.core.history) z.core.conflicts) (sym n.6) h.stood;
      outside = outside_breaks p first most k k1 e b told h.good h.outside n;
    }

pub kept_after : {S : Type 0} (p : Prog S) (first : Machine S) (most : ℕ) (k k1 : Outer S) (ms : List (OuterMove S)) →
    Kept p first most k → OuterFollows p most k ms k1 → Kept p first most k1
kept_after p first most k k1 [] h f = subst (Kept p first most) (sym f) h
kept_after p first most k k1 (m ∷ ms) h f = kept_after p first most f.0 k1 ms (kept_next p first most k f.0 m h f.1) f.2

pub kept_new : {S : Type 0} (p : Prog S) (w : World) (most : ℕ) →
    Kept p (committed (core_new p w)) most (outer_new (core_new p w))
kept_new p w most = record {
  good = good_new p w most;
  stood = All-nil (Stood p (committed (core_new p w)) []);
  outside = record {
    told = λ n. record { solo = λ i x e s. absurd cc; alone = λ f. refl };
    broken = λ b e. absurd cc;
    faulted = λ e h d. absurd cc;
  };
}

-- while a transaction is solo no step broke, and the devices were told its world
pub solo_told : {S : Type 0} (p : Prog S) (first : Machine S) (most i : ℕ) (k : Outer S) (x : Transaction S) →
    Kept p first most k → k.core.segments i ≡ Running x → x.solo ≡ true → (k.broken ≡ None) × (k.told ≡ x.world)
solo_told {S} p first most i k x h is solo = go k.broken refl
  where
    go : (b : Option Broken) → k.broken ≡ b → (k.broken ≡ None) × (k.told ≡ x.world)
    go None e = (e, (h.outside.told e).solo i x is solo)
    go (Some b) e = absurd (both_ways x.solo ((h.outside.broken b e).solo i x is) solo)
