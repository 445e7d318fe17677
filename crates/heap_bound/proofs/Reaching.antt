-- A step that was cut could have been done, and its thread has then asked for all that it had asked for at the cut.
use Rattle.std.proofs.Common.{◌≡◌, ◌⊎◌, inl, inr, ℕ, zero, suc, ◌^◌, ◌<◌, ◌≤◌, false, List, [], ◌∷◌, Some, None, slice_get, refl, sym, ap, subst, ◌∙◌, arith}
use Rattle.std.proofs.lemmas.Bool.{cases_Bool, both_ways, or_left, cond-true, cond-false}
use Rattle.py_data.specs.Changes.{after, Outgrows}
use Rattle.py_data.specs.Heap.{Heap, Rec}
use Rattle.py_data.specs.Row.{Call, Reply, Row, Do, Read, Find, Edit, Make, Start, Put, Take, MidLine, SetMidLine}
use Rattle.py_data.specs.Sense.{Upto, Safe, IfThere}
use Rattle.py_data.specs.Sight.{Sight, Act, Does, mem, pure, opened}
use Rattle.py_data.specs.World.{World}
use Rattle.py_data.specs.Frames.{Frame, Mirrors, Agrees, plain}
use Rattle.py_data.proofs.Grow.{with_rec_here, does_grows}
use Rattle.py_data.proofs.Mirror.{does_mirror}
use Rattle.lock_run.specs.declared.client.Outcome.{Outcome}
use Rattle.lock_run.specs.declared.client.Outcome.TheVariants.{Waits, Done, Ended}
use Rattle.lock_run.specs.declared.client.Life.TheVariants.{Lives}
use Rattle.lock_run.specs.declared.turn.Turn.{Turn}
use Rattle.lock_run.specs.Client.{WaitsQuietly}
use Rattle.lock_run.specs.Prog.{Prog}
use Rattle.lock_run.specs.Machine.{Machine, Step, Steps, DoesTurn, Runs}
use Rattle.lock_run.proofs.StepsMirror.{steps_grows}
use Rattle.seg_store.specs.Extents.{extents_of, Wants}
use Rattle.seg_store.specs.Meaning.{overlay}
use Rattle.stm_segment.specs.Asking.{CallWants}
use Rattle.stm_segment.specs.CoreState.{Transaction, world_after, sight_of}
use Rattle.stm_core.specs.Good.{Stands}
use Rattle.heap_bound.specs.Moments.{More, Came, IsAsked, IsWanted}
use Rattle.heap_bound.proofs.Larger.{more_refl, more_trans, does_more, steps_more, upto_more}
use Rattle.heap_bound.proofs.Finish.{Ends, CanFinish, does_ends, does_all, upto_done, rest_finishes, next_goes, whole_does}

-- ---- heaps that runs leave end

pub steps_end : {S : Type 0} (p : Prog S) (n : ℕ) (q : S) (s : Sight S) (r : S) (t : Sight S) → Steps p n q s r t →
    Ends s.heap → Ends t.heap
steps_end {S} p zero q s r t d e = subst (λ (z : Sight S). Ends z.heap) (sym d.1) e
steps_end p (suc n) q s r t d e = does_ends (p.row d.0) d.1 (d.3.outcome, r) t d.3.does
    (steps_end p n q s d.0 d.1 d.2 e)

turn_end : {S : Type 0} (p : Prog S) (t : Turn) (m m1 : Machine S) → DoesTurn p m t m1 → Ends m.heap → Ends m1.heap
turn_end {S} p t m m1 d e = subst (λ (z : Machine S). Ends z.heap) (sym d.gives)
    (steps_end p t.steps d.before (opened S m.heap m.world) d.after d.sight d.steps e)

pub runs_end : {S : Type 0} (p : Prog S) (ts : List Turn) (m m1 : Machine S) → Runs p m ts m1 → Ends m.heap →
    Ends m1.heap
runs_end {S} p [] m m1 r e = subst (λ (z : Machine S). Ends z.heap) (sym r) e
runs_end p (t ∷ ts) m m1 r e = runs_end p ts r.0 m1 r.2 (turn_end p t m r.0 r.1 e)

-- outside of the names nothing stands
pub steps_none : {S : Type 0} (p : Prog S) (n : ℕ) (q : S) (m : Machine S) (r : S) (t : Sight S) (a : ℕ) →
    Steps p n q (opened S m.heap m.world) r t → m.heap a ≡ None → mem a t.made ≡ false → t.heap a ≡ None
steps_none {S} p n q m r t a d e f =
    let g = steps_grows p n q (opened S m.heap m.world) r t d in
    elim (cases_Bool (t.touched a)) [
      | inl y ↦ absurd (both_ways (mem a t.made) f (g.fresh a refl y e))
      | inr y ↦ g.same a y ∙ e
    ]

-- ---- what a call that wants words leaves

-- more extents at some address
record WantShows (h g : Heap) (n : ℕ) : Type 0 where
  pub address : ℕ
  pub class : ℕ
  pub least : 1 ≤ class
  pub most : class ≤ 21
  pub words : n ≡ 2 ^ class
  pub more : extents_of (h address) class < extents_of (g address) class

put_shows : (h g : Heap) (a n : ℕ) (q : Rec) → g a ≡ Some q → Wants (h a) q n → WantShows h g n
put_shows h g a n q e w = record {
  address = a;
  class = w.class;
  least = w.least;
  most = w.most;
  words = w.words;
  more = subst (λ o. extents_of (h a) w.class < extents_of o w.class) (sym e) w.more;
}

wants_shows : {S : Type 0} (c : Call S) (s : Sight S) (r : Reply c) (t : Sight S) (n : ℕ) → CallWants c s.heap n →
    Act c s r t → WantShows s.heap t.heap n
wants_shows {S} (Edit a x) s r t n w d =
    let w1 : IfThere false (Some d.0) (λ q. Outgrows x q × Wants (Some q) (after x q) n) =
    subst (λ o. IfThere false o (λ q. Outgrows x q × Wants (Some q) (after x q) n)) d.1 w in
    let here : t.heap a ≡ Some (after x d.0) = ap (λ (z : Sight S). z.heap a) d.3 ∙
    with_rec_here a (after x d.0) s.heap in
    put_shows s.heap t.heap a n (after x d.0) here (subst (λ o. Wants o (after x d.0) n) (sym d.1) w1.1)
wants_shows {S} (Make q) s a t n w d =
    let here : t.heap a ≡ Some q = ap (λ (z : Sight S). z.heap a) d.1 ∙ with_rec_here a q s.heap in
    put_shows s.heap t.heap a n q here (subst (λ o. Wants o q n) (sym d.0) w)
wants_shows (Read a) s r t n w d = absurd w
wants_shows (Find a key) s r t n w d = absurd w
wants_shows (Start p) s r t n w d = absurd w
wants_shows (Put on bytes) s r t n w d = absurd w
wants_shows (Take most) s r t n w d = absurd w
wants_shows MidLine s r t n w d = absurd w
wants_shows (SetMidLine mid) s r t n w d = absurd w

-- ---- a step of one thread, after steps of it from the machine

-- what comes of a row that was done to its end: a step, or it waits, and its heap is as before
ended : {S : Type 0} (p : Prog S) (quiet : WaitsQuietly p) (q : S) (s : Sight S) (o : Outcome) (q1 : S)
    (t : Sight S) → p.life q ≡ Lives → Does (p.row q) s (o, q1) t → (Step p q s q1 t) ⊎ (t.heap ≡ s.heap)
ended p quiet q s Waits q1 t l d = inr (quiet q q1 s t d).1.heap
ended p quiet q s Done q1 t l d = inl (record { lives = l; outcome = Done; goes_on = λ e. absurd cc; does = d })
ended p quiet q s Ended q1 t l d = inl (record { lives = l; outcome = Ended; goes_on = λ e. absurd cc; does = d })

-- a thread that lives has done fewer steps than it may, and each of its calls can be done
pub record ThreadAt {S : Type 0} (p : Prog S) (most : ℕ) (m : Machine S) (q : S) (s : Sight S) : Type 0 where
  pub thread : ℕ
  pub before : S
  pub is : slice_get m.threads thread ≡ Some before
  pub n : ℕ
  pub small : suc n ≤ most
  pub steps : Steps p n before (opened S m.heap m.world) q s
  pub lives : p.life q ≡ Lives
  pub safe : CanFinish (p.row q) s

-- another sight of its heap, of which all that its row does can be done from its own
pub record ShownAs {S : Type 0} (p : Prog S) (q : S) (s s1 : Sight S) : Type 0 where
  pub heap : s1.heap ≡ s.heap
  pub does : (y : Outcome × S) (u : Sight S) → Does (p.row q) s1 y u →
      (t : Sight S) × Does (p.row q) s y t × (t.heap ≡ u.heap)

pub shown_same : {S : Type 0} (p : Prog S) (q : S) (s : Sight S) → ShownAs p q s s
shown_same p q s = record { heap = refl; does = λ y u d. (u, d, refl) }

module _ {S : Type 0} (p : Prog S) (quiet : WaitsQuietly p) (most : ℕ) (m : Machine S) (q : S) (s s1 : Sight S)
    (at : ThreadAt p most m q s) (shown : ShownAs p q s s1) where
  -- its steps so far
  pub at_came : Came p most m s
  at_came = record {
    thread = at.thread;
    before = at.before;
    is = at.is;
    n = at.n;
    short = let l = at.small in
        omega arith;
    after = q;
    steps = at.steps;
  }

  -- a next step that is done to its end
  finish : (y : Outcome × S) (u : Sight S) → Does (p.row q) s1 y u →
      (t : Sight S) × Came p most m t × More u.heap t.heap
  finish y u d =
      let z = shown.does y u d in
      elim (ended p quiet q s y.0 y.1 z.0 at.lives z.1) [
        | inl step ↦ (
          z.0,
          record {
            thread = at.thread;
            before = at.before;
            is = at.is;
            n = suc at.n;
            short = at.small;
            after = y.1;
            steps = (q, s, at.steps, step);
          },
          subst (λ h. More h z.0.heap) z.2 (more_refl z.0.heap),
        )
        | inr same ↦ (s, at_came, subst (λ h. More h s.heap) (sym same ∙ z.2) (more_refl s.heap))
      ]

  shown_finishes : CanFinish (p.row q) s1
  shown_finishes = let f = at.safe in record {
    safe = subst (Safe false (p.row q)) (sym shown.heap) f.safe;
    ends = subst Ends (sym shown.heap) f.ends;
  }

  -- A STEP THAT WAS CUT ASKED FOR NO MORE THAN SOME WHOLE STEP. At any place within the next step, no more extents
  -- are in use than whole steps leave.
  pub place_asked : (left : Row S (Outcome × S)) (place : Sight S) → Upto pure (p.row q) s1 left place →
      IsAsked p most m place.heap
  place_asked left place upto =
      let c = rest_finishes (p.row q) s1 left place upto shown_finishes in
      let z = does_all left place c.safe c.ends in
      let f = finish z.0 z.1 (upto_done (p.row q) s1 left place z.0 z.1 upto z.2) in
      inr (f.0, f.1, more_trans place.heap z.1.heap f.0.heap (does_more left place z.1 z.0 z.2) f.2)

  -- and where its next call is done too, the same
  module _ (call : Call S) (next : Reply call → Row S (Outcome × S)) (place : Sight S)
      (upto : Upto pure (p.row q) s1 (Do call next) place) where
    pub record Through : Type 0 where
      pub reply : Reply call
      pub after_call : Sight S
      pub act : Act call place reply after_call
      pub sight : Sight S
      pub came : Came p most m sight
      pub more : More after_call.heap sight.heap

    pub place_through : Through
    place_through =
        let g = next_goes call next place (rest_finishes (p.row q) s1 (Do call next) place upto shown_finishes) in
        let f = finish g.answer g.end (upto_done (p.row q) s1 (Do call next) place g.answer g.end upto
        (whole_does call next place g)) in
        record {
          reply = g.reply;
          after_call = g.after_call;
          act = g.act;
          sight = f.0;
          came = f.1;
          more =
              more_trans g.after_call.heap g.end.heap f.0.heap
              (does_more (next g.reply) g.after_call g.end g.answer g.does) f.2;
        }

    -- at the place no extent of the machine's records is missing
    pub place_above : More m.heap place.heap
    place_above =
        let low = steps_more p at.n at.before (opened S m.heap m.world) q s at.steps in
        let here = subst (λ h. More h place.heap) shown.heap (upto_more (p.row q) s1 (Do call next) place upto) in
        more_trans m.heap s.heap place.heap low here

    -- the words that the call wants are an extent that whole steps ask for
    pub place_wanted : (n : ℕ) → CallWants call place.heap n → IsWanted p most m n
    place_wanted n w =
        let th = place_through in
        let shows = wants_shows call place th.reply th.after_call n w th.act in
        record {
          sight = th.sight;
          came = th.came;
          class = shows.class;
          least = shows.least;
          most_class = shows.most;
          words = shows.words;
          address = shows.address;
          more = through (extents_of (m.heap shows.address) shows.class)
              (extents_of (place.heap shows.address) shows.class)
              (extents_of (th.after_call.heap shows.address) shows.class)
              (extents_of (th.sight.heap shows.address) shows.class)
              (place_above.more shows.address shows.class) shows.more (th.more.more shows.address shows.class);
        }
      where
        through : (x y z w : ℕ) → x ≤ y → y < z → z ≤ w → x < w
        through x y z w a b c = omega arith

-- ---- a transaction that stands

-- what its row does from what it sees is done from the sight that its steps left: all that differs is the bookkeeping
pub stands_shown : {S : Type 0} (c : Prog S) (h : Heap) (ts : List S) (w : World) (x : Transaction S)
    (sx : Stands c h ts w x) → ShownAs c x.state sx.sight (sight_of h w x)
stands_shown {S} c h ts w x sx = record { heap = λ i a. sym (sx.shows.view a) i; does = does }
  where
    does : (y : Outcome × S) (u : Sight S) → Does (c.row x.state) (sight_of h w x) y u →
        (t : Sight S) × Does (c.row x.state) sx.sight y t × (t.heap ≡ u.heap)
    does y u d =
        let s = sight_of h w x in
        let g = steps_grows c x.steps sx.before (opened S h w) x.state sx.sight sx.steps in
        let gu = does_grows (c.row x.state) s u y d in
        let fr : Frame S = record (plain S (overlay h x.changes) (world_after w x)) { unseen = x.looked } in
        let m : Mirrors fr s sx.sight = record {
          inside = λ a e. sx.shows.view a;
          outside = λ a e. sx.shows.view a;
          looked = sx.shows.looked;
          looked_back = λ a e. or_left (x.looked a) (sx.sight.looked a) e;
          touched = sx.shows.touched;
          used = λ e. elim (cases_Bool x.solo) [
            | inl y ↦ y
            | inr n ↦ absurd
                (both_ways sx.sight.used (sx.shows.quiet n) e)
          ];
          world_used = λ e. sx.shows.world_is e ∙ sym (cond-true x.solo x.world w e);
          world_left = λ e. g.world (sx.shows.quiet e) ∙ sym (cond-false x.solo x.world w e);
          made = sym sx.shows.made;
          started = sym sx.shows.started;
        } in
        let ag : Agrees (overlay h x.changes) (world_after w x) s u =
        record { looked = λ a r e is f. is; fresh = λ a e f is. is; world = λ e f. refl } in
        let z = does_mirror fr (c.row x.state) s sx.sight u y d m ag in
        let r = z.2 in
        let same : (a : ℕ) → z.0.heap a ≡ u.heap a = λ a. elim (cases_Bool (u.touched a))
        [ inl b ↦ r.inside a b | inr n ↦ r.outside a n ∙ sym (gu.same a n) ] in
        (z.0, z.1, λ i a. same a i)
