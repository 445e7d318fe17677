-- Every move keeps a good core good.
use Rattle.std.proofs.Common.{◌≡◌, ◌≢◌, ◌⊎◌, ◌<◌, ◌≤◌, ℕ, suc, true, false, cond, not, ◌&&◌, eqb, ltb, List, [], ◌∷◌, ◌++◌, slice_get, slice_set, Option, Some, None, All, Contains, refl, sym, ◌∙◌, ap, subst, subst₂, inl, inr, arith}
use Rattle.std.proofs.lemmas.Bool.{cases_Bool, both_ways, or_cases, or_left, eqb-true, eqb-false, cond-true, cond-false, and_parts, false_from_ne_true, not-true}
use Rattle.std.proofs.lemmas.List.Elements.{All-push, All-weaker, Contains-append_left, Contains-push}
use Rattle.std.proofs.lemmas.List.Quantifiers.{all_pairs_push}
use Rattle.py_data.specs.declared.stop.Side.{Side}
use Rattle.py_data.specs.declared.stop.Conflict.{Conflict}
use Rattle.py_data.specs.Heap.{Rec, Heap, is_tracked}
use Rattle.py_data.specs.World.{World}
use Rattle.py_data.specs.Collection.{places}
use Rattle.py_data.specs.Sight.{opened, mem}
use Rattle.py_data.specs.Frames.{Frame, Mirrors, Agrees, plain, KeptAs}
use Rattle.py_data.proofs.Grow.{back, does_grows, kept_same}
use Rattle.py_data.proofs.Mirror.{does_mirror}
use Rattle.lock_run.specs.declared.client.Life.TheVariants.{Lives}
use Rattle.lock_run.specs.declared.turn.Turn.{Turn}
use Rattle.lock_run.specs.Prog.{Prog}
use Rattle.lock_run.specs.Machine.{Machine, Steps}
use Rattle.lock_run.proofs.StepsMirror.{steps_grows}
use Rattle.lock_run.proofs.Along.{runs_snoc}
use Rattle.stm_segment.specs.declared.cause.Cause.{Cause}
use Rattle.seg_store.specs.Meaning.{overlay}
use Rattle.stm_segment.specs.CoreState.{Transaction, Segment, Idle, Doomed, Running, CoreState, committed, turn_of, world_after, sight_of, set_segment, with_segment, with_conflict, fresh, first_cause}
use Rattle.stm_segment.specs.Conflict.{loser, winner, wins, IsStanding, IsConflict}
use Rattle.stm_core.specs.Good.{Stands, Apart, Unfinished, Good}
use Rattle.stm_core.specs.Moves.{Advances, IsFree, Stays, begun_at, published, Move, Begins, Drops, Dooms, Loses, Goes, Rests, Commits, Keeps, Next, Follows}
use Rattle.stm_core.proofs.Publish.{publish_stands, publish_turn, get_append}
use Rattle.stm_segment.proofs.Fits.{get_set_other}

pub advance_stands : {S : Type 0} (c : Prog S) (h : Heap) (ts : List S) (w : World) (x x' : Transaction S) →
    Stands c h ts w x → Advances c h w x x' → Stands c h ts w x'
advance_stands {S} c h ts w x x' sx v =
    let s = sight_of h w x in
    let u = v.sight in
    let g = steps_grows c x.steps sx.before (opened S h w) x.state sx.sight sx.steps in
    let gu = does_grows (c.row x.state) s u (v.step.outcome, x'.state) v.step.does in
    let base : Frame S = plain S (overlay h x.changes) (world_after w x) in
    let fr : Frame S = record base { unseen = x.looked } in
    let m : Mirrors fr s sx.sight = record {
      inside = λ a e. sx.shows.view a;
      outside = λ a e. sx.shows.view a;
      looked = sx.shows.looked;
      looked_back = λ a e. or_left (x.looked a) (sx.sight.looked a) e;
      touched = sx.shows.touched;
      used = λ e. elim (cases_Bool x.solo)
          [ inl y ↦ y | inr n ↦ absurd (both_ways sx.sight.used (sx.shows.quiet n) e) ];
      world_used = λ e. sx.shows.world_is e ∙ sym (cond-true x.solo x.world w e);
      world_left = λ e. g.world (sx.shows.quiet e) ∙ sym (cond-false x.solo x.world w e);
      made = sym sx.shows.made;
      started = sym sx.shows.started;
    } in
    let ag : Agrees (overlay h x.changes) (world_after w x) s u =
    record { looked = λ a r e is f. is; fresh = λ a e f is. is; world = λ e f. refl } in
    let z = does_mirror fr (c.row x.state) s sx.sight u (v.step.outcome, x'.state) v.step.does m ag in
    let t = z.0 in
    let r = z.2 in
    record {
      before = sx.before;
      sight = t;
      is = ap (slice_get ts) v.thread ∙ sx.is;
      lives = sx.lives;
      steps = subst (λ n. Steps c n sx.before (opened S h w) x'.state t) (sym v.steps) (
        x.state,
        sx.sight,
        sx.steps,
        record {
          lives = v.step.lives;
          outcome = v.step.outcome;
          goes_on =
              v.step.goes_on;
          does = z.1;
        },
      );
      shows = record {
        view = λ a. elim (cases_Bool (u.touched a)) [
          | inl y ↦ r.inside a y ∙ v.shows.view a
          | inr n ↦ r.outside a n ∙ (sym (gu.same a n) ∙ v.shows.view a)
        ];
        made = sym r.made ∙ v.shows.made;
        started = sym r.started ∙ v.shows.started;
        looked = λ a e. v.shows.looked a (r.looked a e);
        touched = λ a e. v.shows.touched a (r.touched a e);
        within = v.shows.within;
        locked = v.shows.locked;
        unused = v.shows.unused;
        world_is = λ e. r.world_used (gu.used (sym v.solo ∙ e)) ∙ v.shows.world_is e;
        quiet = λ e. back t.used u.used r.used (v.shows.quiet e);
      };
    }

pub begin_stands : {S : Type 0} (c : Prog S) (k : CoreState S) (t : ℕ) (p : S) → slice_get k.threads t ≡ Some p →
    c.life p ≡ Lives → Stands c k.image k.threads k.world (fresh k t p)
begin_stands {S} c k t p is lives = record {
  before = p;
  sight = opened S k.image k.world;
  is = is;
  lives = lives;
  steps = (refl, refl);
  shows = record {
    view = λ a. refl;
    made = refl;
    started = refl;
    looked = λ a e. e;
    touched = λ a e. absurd (both_ways false refl e);
    within = λ a e. refl;
    locked = λ a e. absurd (both_ways false refl e);
    unused = λ a e. absurd (both_ways false refl e);
    world_is = λ e. absurd (both_ways false refl e);
    quiet = λ e. refl;
  };
}

pub apart_sym : {S : Type 0} (x y : Transaction S) → Apart x y → Apart y x
apart_sym x y p = record {
  threads = λ e. p.threads (sym e);
  begun = λ e. p.begun (sym e);
  made = λ a e. false_from_ne_true (mem a (places x.made)) (λ f. both_ways (mem a (places y.made)) (p.made a f) e);
  changed = λ a e. false_from_ne_true (mem a x.changed) (λ f. both_ways (mem a y.changed) (p.changed a f) e);
  solo = λ e. false_from_ne_true x.solo (λ f. both_ways y.solo (p.solo f) e);
}

-- what runs after one slot was set
pub set_cases : {S : Type 0} (i j : ℕ) (s r : Segment S) (f : ℕ → Segment S) → set_segment i s f j ≡ r →
    ((j ≡ i) × (s ≡ r)) ⊎ ((j ≢ i) × (f j ≡ r))
set_cases i j s r f e = elim (cases_Bool (eqb j i)) [
  | inl y ↦ inl (eqb-true j i y, sym (cond-true (eqb j i) s (f j) y) ∙ e)
  | inr n ↦ inr (eqb-false j i n, sym (cond-false (eqb j i) s (f j) n) ∙ e)
]

pub same_conflict : (S : Type 0) (a b : Conflict) → ◌≡◌ {A = Segment S} (Doomed a) (Doomed b) → a ≡ b
same_conflict S a b e = cc

pub same_run : {S : Type 0} (x y : Transaction S) → Running x ≡ Running y → x ≡ y
same_run x y e = cc

-- a thread that no segment runs, where fewer run
pub unfinished_fewer : {S : Type 0} (p : Prog S) (k k1 : CoreState S) → k1.threads ≡ k.threads
    → ((i : ℕ) (x : Transaction S) → k1.segments i ≡ Running x →
    (y : Transaction S) × (j : ℕ) × (k.segments j ≡ Running y) × (x.thread ≡ y.thread)) → Unfinished p k →
    Unfinished p k1
unfinished_fewer p k k1 same runs u = record {
  thread = u.thread;
  state = u.state;
  is = ap (λ ts. slice_get ts u.thread) same ∙ u.is;
  lives = u.lives;
  rests = λ i x e f. let r = runs i x e in u.rests r.1 r.0 r.2 (sym r.3 ∙ f);
}

-- fewer run, and no more are doomed
pub good_fewer : {S : Type 0} (c : Prog S) (m0 : Machine S) (most : ℕ) (k : CoreState S) (f : ℕ → Segment S) →
    Good c m0 most k
    → ((i : ℕ) (x : Transaction S) → f i ≡ Running x → k.segments i ≡ Running x)
    → ((i : ℕ) (d : Conflict) → f i ≡ Doomed d → k.segments i ≡ Doomed d)
    → Good c m0 most (record k { segments = f })
good_fewer c m0 most k f g r d = record {
  run = g.run;
  short = g.short;
  stands = λ i x e. g.stands i x (r i x e);
  at_most = λ i x e. g.at_most i x (r i x e);
  apart = λ i j x y n e h. g.apart i j x y n (r i x e) (r j y h);
  conflicts = g.conflicts;
  lost = λ i x e. g.lost i x (r i x e);
  differ = g.differ;
  doomed = λ i x e. g.doomed i x (d i x e);
  caused = λ e. unfinished_fewer c k (record k { segments = f }) refl (λ i x h. (x, i, r i x h, refl)) (g.caused e);
}

-- one slot's run is replaced
pub good_replaced : {S : Type 0} (c : Prog S) (m0 : Machine S) (most : ℕ) (k : CoreState S) (i : ℕ) (x : Transaction S)
    → Good c m0 most k
    → Stands c k.image k.threads k.world x → (x.steps ≤ most) × (x.begun < k.begun)
    → ((j : ℕ) (y : Transaction S) → j ≢ i → k.segments j ≡ Running y → Apart x y)
    → All (λ (f : Conflict). (loser f).begun ≢ x.begun) k.conflicts
    → (k.cause ≢ None → (y : Transaction S) × (k.segments i ≡ Running y) × (x.thread ≡ y.thread))
    → Good c m0 most (with_segment i (Running x) k)
good_replaced {S} c m0 most k i x g sx small p new old = record {
  run = g.run;
  short = g.short;
  stands = λ j y e. elim (set_cases i j (Running x) (Running y) k.segments e) [
    | inl h ↦ subst (Stands c k.image k.threads k.world) (same_run x y h.1) sx
    | inr h ↦ g.stands j y h.1
  ];
  at_most = λ j y e. elim (set_cases i j (Running x) (Running y) k.segments e) [
    | inl h ↦ subst (λ (z : Transaction S). (z.steps ≤ most) × (z.begun < k.begun)) (same_run x y h.1) small
    | inr h ↦ g.at_most j y h.1
  ];
  apart = λ j l y z n e f. elim (set_cases i j (Running x) (Running y) k.segments e) [
    | inl h ↦ elim (set_cases i l (Running x) (Running z) k.segments f) [
      | inl h' ↦ absurd (n (h.0 ∙ sym h'.0))
      | inr h' ↦ subst (λ v. Apart v z) (same_run x y h.1) (p l z h'.0 h'.1)
    ]
    | inr h ↦ elim (set_cases i l (Running x) (Running z) k.segments f) [
      | inl h' ↦ apart_sym z y (subst (λ v. Apart v y) (same_run x z h'.1) (p j y h.0 h.1))
      | inr h' ↦ g.apart j l y z n h.1 h'.1
    ]
  ];
  conflicts = g.conflicts;
  lost = λ j y e. elim (set_cases i j (Running x) (Running y) k.segments e) [
    | inl h ↦ subst (λ (z : Transaction S). All (λ (f : Conflict). (loser f).begun ≢ z.begun) k.conflicts)
        (same_run x y h.1) new
    | inr h ↦ g.lost j y h.1
  ];
  differ = g.differ;
  doomed = λ j d e. elim (set_cases i j (Running x) (Doomed d) k.segments e) [
    | inl h ↦ let w = h.1 in absurd cc
    | inr h ↦ g.doomed j d h.1
  ];
  caused = λ n. unfinished_fewer c k (with_segment i (Running x) k) refl
      (λ j y e. elim (set_cases i j (Running x) (Running y) k.segments e) [
        | inl h ↦ let o = old n in (o.0, i, o.1, ap (λ (z : Transaction S). z.thread) (sym (same_run x y h.1)) ∙ o.2)
        | inr h ↦ (y, j, h.1, refl)
      ])
      (g.caused n);
}

-- a conflict of the image stays one, and the begun numbers only rise
pub conflict_later : (h h' : Heap) (n m : ℕ) → n ≤ m →
    ((a : ℕ) (r : Rec) → h a ≡ Some r → (r' : Rec) × (h' a ≡ Some r') × KeptAs r r') → (f : Conflict) →
    IsConflict h n f → IsConflict h' m f
conflict_later h h' n m le kept f v = let k = kept f.at.0 v.entry v.is in record {
  entry = k.0;
  is = k.1;
  tracked = ap is_tracked k.2.kind ∙ v.tracked;
  segments = v.segments;
  numbers = v.numbers;
  lost = v.lost;
  loses = v.loses;
  mortal = v.mortal;
  below = let b = v.below in omega arith;
}

pub good_begin : {S : Type 0} (c : Prog S) (m0 : Machine S) (most : ℕ) (k : CoreState S) (i t : ℕ) (p : S) →
    Good c m0 most k
    → slice_get k.threads t ≡ Some p → c.life p ≡ Lives →
    ((j : ℕ) (y : Transaction S) → k.segments j ≡ Running y → t ≢ y.thread) → k.cause ≡ None →
    Good c m0 most (begun_at i t p k)
good_begin {S} c m0 most k i t p g is lives free none =
    let x = fresh k t p in
    let up : Good c m0 most (record k { begun = suc k.begun; last = Some t }) = record {
      run = g.run;
      short = g.short;
      stands = g.stands;
      at_most = λ j y e. let a = g.at_most j y e in (a.0, let b = a.1 in omega arith);
      apart = g.apart;
      conflicts = All-weaker (IsConflict k.image k.begun) (IsConflict k.image (suc k.begun))
          (λ f v. conflict_later k.image k.image k.begun (suc k.begun) (omega arith) (λ a r e. (r, e, kept_same r)) f
          v) k.conflicts g.conflicts;
      lost = g.lost;
      differ = g.differ;
      doomed = g.doomed;
      caused = λ e. absurd (e none);
    } in
    good_replaced c m0 most (record k { begun = suc k.begun; last = Some t }) i x up (begin_stands c k t p is lives)
    (omega arith, omega arith)
    (λ j y n e. record {
      threads = free j y e;
      begun = λ b. let a = g.at_most j y e in let l = a.1 in omega arith;
      made = λ a f. absurd (both_ways false refl f);
      changed = λ a f. absurd (both_ways false refl f);
      solo = λ f. absurd (both_ways false refl f);
    })
    (All-weaker (IsConflict k.image k.begun) (λ (f : Conflict). (loser f).begun ≢ k.begun)
    (λ f v b. let l = v.below in omega arith) k.conflicts g.conflicts)
    (λ e. absurd (e none))

pub good_advance : {S : Type 0} (c : Prog S) (m0 : Machine S) (most : ℕ) (k : CoreState S) (i : ℕ)
    (x x' : Transaction S) → Good c m0 most k
    → k.segments i ≡ Running x → suc x.steps ≤ most → Advances c k.image k.world x x' → IsFree k i x' →
    Good c m0 most (with_segment i (Running x') k)
good_advance c m0 most k i x x' g is small v free =
    let old = g.at_most i x is in
    good_replaced c m0 most k i x' g (advance_stands c k.image k.threads k.world x x' (g.stands i x is) v)
    (subst (λ n. n ≤ most) (sym v.steps) small, subst (λ n. n < k.begun) (sym v.begun) old.1)
    (λ j y n e. let a = g.apart i j x y (λ f. n (sym f)) is e in record {
      threads = λ f. a.threads (sym v.thread ∙ f);
      begun = λ f. a.begun (sym v.begun ∙ f);
      made = free.made j y n e;
      changed = free.changed j y n e;
      solo = λ f. a.solo (sym v.solo ∙ f);
    })
    (subst (λ n. All (λ (f : Conflict). (loser f).begun ≢ n) k.conflicts) (sym v.begun) (g.lost i x is))
    (λ e. (x, is, v.thread))

pub good_publish : {S : Type 0} (c : Prog S) (m0 : Machine S) (most : ℕ) (k : CoreState S) (i : ℕ) (x : Transaction S)
    → Good c m0 most k
    → k.segments i ≡ Running x → 1 ≤ x.steps →
    ((j : ℕ) (y : Transaction S) → j ≢ i → k.segments j ≡ Running y → (a : ℕ) → mem a x.changed ≡ true →
    y.looked a ≡ false)
    → Good c m0 most (published i x k)
good_publish {S} c m0 most k i x g is some unread =
    let sx = g.stands i x is in
    let gx = steps_grows c x.steps sx.before (opened S k.image k.world) x.state sx.sight sx.steps in
    let other : (j : ℕ) (y : Transaction S) → set_segment i Idle k.segments j ≡ Running y →
    (j ≢ i) × (k.segments j ≡ Running y) = λ j y e. elim (set_cases i j Idle (Running y) k.segments e) [
      | inl h ↦ let w = h.1 in absurd cc
      | inr h ↦ h
    ] in
    record {
      run = runs_snoc c k.history (turn_of x) m0 (committed k) (committed (published i x k)) g.run
          (publish_turn c k.image k.threads k.world x sx some);
      short = All-push (λ (t : Turn). t.steps ≤ most) k.history (turn_of x) g.short (g.at_most i x is).0;
      stands = λ j y e. let o = other j y e in publish_stands c k.image k.threads k.world x y sx (g.stands j y o.1)
          (g.apart i j x y (λ f. o.0 (sym f)) is o.1) (unread j y o.0 o.1);
      at_most = λ j y e. g.at_most j y (other j y e).1;
      apart = λ j l y z n e f. g.apart j l y z n (other j y e).1 (other l z f).1;
      conflicts = All-weaker (IsConflict k.image k.begun) (IsConflict (overlay k.image x.changes) k.begun)
          (λ f v. conflict_later k.image (overlay k.image x.changes) k.begun k.begun (omega arith)
          (λ a r e. let q = gx.kept a r e in (q.0, sym (sx.shows.view a) ∙ q.1, q.2)) f v) k.conflicts g.conflicts;
      lost = λ j y e. g.lost j y (other j y e).1;
      differ = g.differ;
      doomed = λ j d e. elim (set_cases i j Idle (Doomed d) k.segments e) [
        | inl h ↦ let w = h.1 in absurd cc
        | inr h ↦ g.doomed j d h.1
      ];
      caused = λ n. let u = g.caused n in record {
        thread = u.thread;
        state = u.state;
        is = get_append (slice_set k.threads x.thread x.state) x.started u.thread u.state
            (get_set_other k.threads x.thread u.thread x.state (u.rests i x is) ∙ u.is);
        lives = u.lives;
        rests = λ j y e. u.rests j y (other j y e).1;
      };
    }

-- the sides of a conflict that is one
writer_side : {f g : Conflict} → f ≡ g → f.writer ≡ g.writer
writer_side e = ap (λ (z : Conflict). z.writer) e

other_side : {f g : Conflict} → f ≡ g → f.other ≡ g.other
other_side e = ap (λ (z : Conflict). z.other) e

-- the loser of a standing conflict runs, and is not solo
pub record LoserRuns {S : Type 0} (k : CoreState S) (f : Conflict) : Type 0 where
  pub run : Transaction S
  pub is : k.segments (loser f).segment ≡ Running run
  pub side : (loser f).begun ≡ run.begun
  pub mortal : run.solo ≡ false

-- of two sides one of which wins
mortal_loser : (w l : Side) → (w.solo ≡ true → l.solo ≡ false) → wins w l ≡ true → l.solo ≡ false
mortal_loser w l apart e = elim (or_cases w.solo (not l.solo && ltb w.begun l.begun) e) [
  | inl y ↦ apart y
  | inr y ↦ not-true l.solo (and_parts (not l.solo) (ltb w.begun l.begun) y).0
]

-- what `loser` and `winner` are
loser_cases : (f : Conflict) → ((loser f ≡ f.writer) × (winner f ≡ f.other)) ⊎
    ((loser f ≡ f.other) × (winner f ≡ f.writer))
loser_cases f = elim (eqb f.lost 0) as (λ b.
    ((cond b f.writer f.other ≡ f.writer) × (cond b f.other f.writer ≡ f.other)) ⊎
    ((cond b f.writer f.other ≡ f.other) × (cond b f.other f.writer ≡ f.writer))) [
      | true ↦ inl (refl, refl)
      | false ↦ inr (refl, refl)
    ]

pub loser_runs : {S : Type 0} (c : Prog S) (m0 : Machine S) (most : ℕ) (k : CoreState S) (f : Conflict) →
    Good c m0 most k → IsStanding c k f → LoserRuns k f
loser_runs {S} c m0 most k f g v =
    let p = g.apart f.writer.segment f.other.segment v.x v.y v.differ v.writes v.reads in
    elim (loser_cases f) [
      | inl h ↦ record {
        run = v.x;
        is = ap (λ (l : Side). k.segments l.segment) h.0 ∙ v.writes;
        side = ap (λ (l : Side). l.begun) (h.0 ∙ (writer_side v.is));
        mortal = ap (λ (l : Side). l.solo) (sym (writer_side v.is)) ∙ mortal_loser f.other f.writer
            (λ e. ap (λ (l : Side). l.solo) (writer_side v.is) ∙
            (apart_sym v.x v.y p).solo (ap (λ (l : Side). l.solo) (sym (other_side v.is)) ∙ e))
            (subst₂ (λ a b. wins a b ≡ true) h.1 h.0 v.loses);
      }
      | inr h ↦ record {
        run = v.y;
        is = ap (λ (l : Side). k.segments l.segment) h.0 ∙ v.reads;
        side = ap (λ (l : Side). l.begun) (h.0 ∙ (other_side v.is));
        mortal = ap (λ (l : Side). l.solo) (sym (other_side v.is)) ∙ mortal_loser f.writer f.other
            (λ e. ap (λ (l : Side). l.solo) (other_side v.is) ∙
            p.solo (ap (λ (l : Side). l.solo) (sym (writer_side v.is)) ∙ e))
            (subst₂ (λ a b. wins a b ≡ true) h.1 h.0 v.loses);
      }
    ]

pub is_conflict : {S : Type 0} (c : Prog S) (m0 : Machine S) (most : ℕ) (k : CoreState S) (f : Conflict) →
    Good c m0 most k → IsStanding c k f → IsConflict k.image k.begun f
is_conflict {S} c m0 most k f g v =
    let p = g.apart f.writer.segment f.other.segment v.x v.y v.differ v.writes v.reads in
    let l = (g.stands f.writer.segment v.x v.writes).shows.locked f.at.0 v.held in
    let r = loser_runs c m0 most k f g v in
    record {
      entry = l.entry;
      is = l.is;
      tracked = l.tracked;
      segments = v.differ;
      lost = v.lost;
      numbers = λ e. p.begun (ap (λ (l : Side). l.begun) (sym (writer_side v.is)) ∙
          (e ∙ ap (λ (l : Side). l.begun) (other_side v.is)));
      loses = v.loses;
      mortal = loser_is_mortal;
      below = subst (λ n. n < k.begun) (sym r.side) (g.at_most (loser f).segment r.run r.is).1;
    }
  where
    loser_is_mortal : (loser f).solo ≡ false
    loser_is_mortal =
        let p = g.apart f.writer.segment f.other.segment v.x v.y v.differ v.writes v.reads in
        elim (loser_cases f) [
          | inl h ↦ ap (λ (l : Side). l.solo) h.0 ∙ mortal_loser f.other f.writer
              (λ e. ap (λ (l : Side). l.solo) (writer_side v.is) ∙
              (apart_sym v.x v.y p).solo (ap (λ (l : Side). l.solo) (sym (other_side v.is)) ∙ e))
              (subst₂ (λ a b. wins a b ≡ true) h.1 h.0 v.loses)
          | inr h ↦ ap (λ (l : Side). l.solo) h.0 ∙ mortal_loser f.writer f.other
              (λ e. ap (λ (l : Side). l.solo) (other_side v.is) ∙
              p.solo (ap (λ (l : Side). l.solo) (sym (writer_side v.is)) ∙ e))
              (subst₂ (λ a b. wins a b ≡ true) h.1 h.0 v.loses)
        ]

-- a side of a standing conflict loses: its slot is doomed with the conflict, or idle
pub good_lost : {S : Type 0} (c : Prog S) (m0 : Machine S) (most : ℕ) (k : CoreState S) (f : Conflict) (s : Segment S)
    → Good c m0 most k → IsStanding c k f
    → (s ≡ Idle) ⊎ (s ≡ Doomed f) → Good c m0 most (with_conflict f (with_segment (loser f).segment s k))
good_lost {S} c m0 most k f s g v end =
    let i = (loser f).segment in
    let r = loser_runs c m0 most k f g v in
    let Left : ℕ → Transaction S → Type 0 = λ j y. (j ≢ i) × (k.segments j ≡ Running y) in
    let other : (j : ℕ) (y : Transaction S) → set_segment i s k.segments j ≡ Running y → Left j y = λ j y e.
    elim (set_cases i j s (Running y) k.segments e) [
      | inl h ↦ elim end [ inl z ↦ (let w = h.1 in absurd cc) | inr z ↦ (let w = h.1 in absurd cc) ]
      | inr h ↦ h
    ] in
    record {
      run = g.run;
      short = g.short;
      stands = λ j y e. g.stands j y (other j y e).1;
      at_most = λ j y e. g.at_most j y (other j y e).1;
      apart = λ j l y z n e h. g.apart j l y z n (other j y e).1 (other l z h).1;
      conflicts = All-push (IsConflict k.image k.begun) k.conflicts f g.conflicts (is_conflict c m0 most k f g v);
      lost = λ j y e. let o = other j y e in All-push (λ (h : Conflict). (loser h).begun ≢ y.begun) k.conflicts f
          (g.lost j y o.1)
          (λ b. (g.apart j i y r.run o.0 o.1 r.is).begun (sym b ∙ r.side));
      differ = all_pairs_push (λ (h l : Conflict). (loser h).begun ≢ (loser l).begun) k.conflicts f g.differ
          (λ n d l b. g.lost i r.run r.is n d l (b ∙ r.side));
      doomed = λ j d e. elim (set_cases i j s (Doomed d) k.segments e) [
        | inl h ↦ elim end [
          | inl z ↦ (let w = h.1 in absurd cc)
          | inr z ↦ subst (λ (q : Conflict). Contains (k.conflicts ++ f ∷ []) q × ((loser q).segment ≡ j))
              (same_conflict S f d (sym z ∙ h.1)) (Contains-push k.conflicts f, sym h.0)
        ]
        | inr h ↦ let q = g.doomed j d h.1 in (Contains-append_left k.conflicts (f ∷ []) d q.0, q.1)
      ];
      caused = λ n. unfinished_fewer c k (with_conflict f (with_segment i s k)) refl
          (λ j y e. (y, j, (other j y e).1, refl)) (g.caused n);
    }

stays_stands : {S : Type 0} (c : Prog S) (h : Heap) (ts : List S) (w : World) (x x' : Transaction S) →
    Stands c h ts w x → Stays h x x' → Stands c h ts w x'
stays_stands {S} c h ts w x x' sx v = record {
  before = sx.before;
  sight = sx.sight;
  is = ap (slice_get ts) v.thread ∙ sx.is;
  lives = sx.lives;
  steps = subst (λ n. Steps c n sx.before (opened S h w) x'.state sx.sight) (sym v.steps)
      (subst (λ q. Steps c x.steps sx.before (opened S h w) q sx.sight) (sym v.state) sx.steps);
  shows = record {
    view = λ a. sx.shows.view a ∙ sym (v.view a);
    made = sx.shows.made ∙ ap places (sym v.made);
    started = sx.shows.started ∙ sym v.started;
    looked = λ a e. v.looked a (sx.shows.looked a e);
    touched = λ a e. v.more a (sx.shows.touched a e);
    within = v.within;
    locked = v.locked;
    unused = λ a e. sx.shows.unused a (subst (λ ns. mem a (places ns) ≡ true) v.made e);
    world_is = λ e. sx.shows.world_is (sym v.solo ∙ e) ∙ sym v.world;
    quiet = λ e. sx.shows.quiet (sym v.solo ∙ e);
  };
}

good_stays : {S : Type 0} (c : Prog S) (m0 : Machine S) (most : ℕ) (k : CoreState S) (i : ℕ) (x x' : Transaction S) →
    Good c m0 most k
    → k.segments i ≡ Running x → Stays k.image x x' → IsFree k i x' → Good c m0 most (with_segment i (Running x') k)
good_stays c m0 most k i x x' g is v free =
    let old = g.at_most i x is in
    good_replaced c m0 most k i x' g (stays_stands c k.image k.threads k.world x x' (g.stands i x is) v)
    (subst (λ n. n ≤ most) (sym v.steps) old.0, subst (λ n. n < k.begun) (sym v.begun) old.1)
    (λ j y n e. let a = g.apart i j x y (λ f. n (sym f)) is e in record {
      threads = λ f. a.threads (sym v.thread ∙ f);
      begun = λ f. a.begun (sym v.begun ∙ f);
      made = free.made j y n e;
      changed = free.changed j y n e;
      solo = λ f. a.solo (sym v.solo ∙ f);
    })
    (subst (λ n. All (λ (f : Conflict). (loser f).begun ≢ n) k.conflicts) (sym v.begun) (g.lost i x is))
    (λ e. (x, is, v.thread))

first_cause_is : (o : Option Cause) (e : Cause) → first_cause o e ≢ None
first_cause_is None e = λ f. cc
first_cause_is (Some d) e = λ f. cc

good_keeps : {S : Type 0} (c : Prog S) (m0 : Machine S) (most : ℕ) (k : CoreState S) (e : Cause) (t : ℕ) (q : S) →
    Good c m0 most k → slice_get k.threads t ≡ Some q → c.life q ≡ Lives
    → ((j : ℕ) (y : Transaction S) → k.segments j ≡ Running y → t ≢ y.thread) →
    Good c m0 most (record k { cause = first_cause k.cause e })
good_keeps c m0 most k e t q g is lives free = record {
  run = g.run;
  short = g.short;
  stands = g.stands;
  at_most = g.at_most;
  apart = g.apart;
  conflicts = g.conflicts;
  lost = g.lost;
  differ = g.differ;
  doomed = g.doomed;
  caused = λ n. record { thread = t; state = q; is = is; lives = lives; rests = λ j y h f. free j y h (sym f) };
}

pub good_next : {S : Type 0} (c : Prog S) (m0 : Machine S) (most : ℕ) (k k1 : CoreState S) (m : Move S) →
    Good c m0 most k → Next c most k m k1 → Good c m0 most k1
good_next c m0 most k k1 (Begins i t p) g n =
    subst (Good c m0 most) (sym n.5) (good_begin c m0 most k i t p g n.2 n.3 n.4 n.0)
good_next {S} c m0 most k k1 (Drops i) g n =
    subst (Good c m0 most) (sym n.1) (good_fewer c m0 most k (set_segment i Idle k.segments) g
    (λ j y e. elim (set_cases i j Idle (Running y) k.segments e) [ inl h ↦ (let w = h.1 in absurd cc) | inr h ↦ h.1 ])
    (λ j d e. elim (set_cases i j Idle (Doomed d) k.segments e) [ inl h ↦ (let w = h.1 in absurd cc) | inr h ↦ h.1 ]))
good_next c m0 most k k1 (Dooms f) g n =
    subst (Good c m0 most) (sym n.1) (good_lost c m0 most k f (Doomed f) g n.0 (inr refl))
good_next c m0 most k k1 (Loses f) g n =
    subst (Good c m0 most) (sym n.1) (good_lost c m0 most k f Idle g n.0 (inl refl))
good_next c m0 most k k1 (Goes i x x1) g n =
    subst (Good c m0 most) (sym n.4) (good_advance c m0 most k i x x1 g n.0 n.1 n.2 n.3)
good_next c m0 most k k1 (Rests i x x1) g n =
    subst (Good c m0 most) (sym n.3) (good_stays c m0 most k i x x1 g n.0 n.1 n.2)
good_next c m0 most k k1 (Commits i x) g n =
    subst (Good c m0 most) (sym n.3) (good_publish c m0 most k i x g n.0 n.1 n.2)
good_next c m0 most k k1 (Keeps e) g n =
    subst (Good c m0 most) (sym n.6) (good_keeps c m0 most k e n.0 n.1 g n.2 n.3 n.4)

pub good_after : {S : Type 0} (c : Prog S) (m0 : Machine S) (most : ℕ) (k k1 : CoreState S) (ms : List (Move S)) →
    Good c m0 most k → Follows c most k ms k1 → Good c m0 most k1
good_after c m0 most k k1 [] g f = subst (Good c m0 most) (sym f) g
good_after c m0 most k k1 (m ∷ ms) g f = good_after c m0 most f.0 k1 ms (good_next c m0 most k f.0 m g f.1) f.2
