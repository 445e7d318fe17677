-- A piece that fits is so many steps of its segment.
use Rattle.std.proofs.Common.{◌≡◌, ℕ, zero, suc, ◌+◌, ◌≤◌, true, false, cond, ◌||◌, eqb, List, [], ◌∷◌, ◌++◌, Option, Some, None, IsSome, is_some, length, refl, sym, ◌∙◌, ap, subst, inl, inr, arith, length-append, All}
use Rattle.std.proofs.lemmas.Bool.{cases_Bool, both_ways, or_cases, cond-true, cond-false, eq-eqb}
use Rattle.std.proofs.lemmas.List.Elements.{All-append, All-cons, All-nil}
use Rattle.py_data.specs.Heap.{Heap, Marks, Rec, Has}
use Rattle.py_data.specs.World.{World}
use Rattle.py_data.specs.Collection.{places}
use Rattle.py_data.specs.Sense.{IsPart, Run}
use Rattle.py_data.specs.Sight.{Sight, opened, mem, pure}
use Rattle.py_data.proofs.Grow.{does_grows, back}
use Rattle.lock_run.specs.Prog.{Prog}
use Rattle.lock_run.specs.Client.{StaysSound, StandsIn}
use Rattle.lock_run.specs.Machine.{Machine, Step}
use Rattle.seg_store.specs.Meaning.{over, overlay}
use Rattle.stm_pieces.specs.Piece.{PieceSteps, IsPiece}
use Rattle.stm_pieces.specs.inner.Walked.{Quiet}
use Rattle.stm_pieces.proofs.Lift.{Lifted, lift}
use Rattle.stm_pieces.proofs.Looks.{steps_way, looked_loaned, touched_there, quiet_before}
use Rattle.stm_segment.specs.CoreState.{Transaction, Segment, Running, CoreState, owned, sight_of, with_segment}
use Rattle.stm_core.specs.Good.{Shows, Stands, Good}
use Rattle.stm_core.specs.Moves.{Move, Goes, Follows, Advances, IsFree}
use Rattle.stm_core.specs.Pieces.{IsLoan, Fits, IsOwnStep, Installed}
use Rattle.stm_core.proofs.Advancing.{set_again, free_with}
use Rattle.stm_core.proofs.Kept.{advance_stands}
use Rattle.stm_core.proofs.Settling.{set_same}
use Rattle.stm_core.proofs.Soundness.{sound_transaction}
use Rattle.stm_core.proofs.TwoPasses.{follows_append}

-- ---- one step

-- the transaction with one step more, and with the records that a sight has changed
abbrev went : {S : Type 0} → Transaction S → S → Sight S → Transaction S
went x q t = record x {
  steps = suc x.steps;
  state = q;
  changes = λ a. cond (t.touched a) (t.heap a) (x.changes a);
}

-- how a piece's sight goes on beside the transaction
record Beside {S : Type 0} (image : Heap) (x : Transaction S) (q : S) (s : Sight S) : Type 0 where
  pub state : x.state ≡ q
  pub part : IsPart s.heap (overlay image x.changes)
  pub looks : (a : ℕ) → s.looked a ≡ true → x.looked a ≡ true
  pub owns : (a : ℕ) → s.touched a ≡ true → owned x a ≡ true
  pub there : (a : ℕ) → s.touched a ≡ true → Has s.heap a

pub over_some : (o i : Option Rec) → IsSome o → over o i ≡ o
over_some None i s = absurd cc
over_some (Some r) i s = refl

module _ {S : Type 0} (p : Prog S) (image : Heap) (threads : List S) (w : World) (x : Transaction S) (q q1 : S)
    (s t : Sight S) (b : Beside image x q s) (step : Step p q s q1 t)
    (there : (a : ℕ) → t.touched a ≡ true → Has t.heap a)
    (looks : (a : ℕ) → t.looked a ≡ true → x.looked a ≡ true)
    (owns : (a : ℕ) → t.touched a ≡ true → owned x a ≡ true) where
  -- what the transaction has then is what a lifted sight shows
  shows : (y : Sight S) → Lifted (sight_of image w x) t y → Stands p image threads w x → Shows image (went x q1 t) y
  shows y l st = record {
    view = λ a. elim (cases_Bool (t.touched a)) [
      | inl m ↦ l.changed a m ∙ sym (ap (λ o. over o (image a)) (cond-true (t.touched a) (t.heap a) (x.changes a) m) ∙
          over_some (t.heap a) (image a) (there a m))
      | inr m ↦ l.others a m ∙ sym (ap (λ o. over o (image a))
          (cond-false (t.touched a) (t.heap a) (x.changes a) m))
    ];
    made = l.made;
    started = l.started;
    looked = λ a e. elim (or_cases (x.looked a) (t.looked a) (l.looked a e)) [ inl m ↦ m | inr m ↦ looks a m ];
    touched = λ a e. elim (or_cases (owned x a) (t.touched a) (l.touched a e)) [ inl m ↦ m | inr m ↦ owns a m ];
    within = λ a e. elim (cases_Bool (t.touched a)) [
      | inl m ↦ absurd (both_ways (owned x a) e (owns a m))
      | inr m ↦ cond-false (t.touched a) (t.heap a) (x.changes a) m ∙ st.shows.within a e
    ];
    locked = st.shows.locked;
    unused = st.shows.unused;
    world_is = λ e. l.world ∙ cond-true x.solo x.world w e;
    quiet = λ e. elim (cases_Bool y.used) [
      | inl u ↦ absurd (both_ways x.solo e (l.used u))
      | inr u ↦ u
    ];
  }

  -- one step of a piece is one of the transaction
  advances : Stands p image threads w x → Quiet s → Quiet t → Advances p image w x (went x q1 t)
  advances st qs qt =
      let up = lift (p.row q) s t (sight_of image w x) (step.outcome, q1) step.does qs qt b.part b.there in
      record {
        sight = up.0;
        step = record {
          lives = ap p.life b.state ∙ step.lives;
          outcome = step.outcome;
          goes_on = step.goes_on;
          does = subst (λ r. Run {S = S} pure (p.row r) (sight_of image w x) (step.outcome, q1) up.0) (sym b.state)
              up.1;
        };
        thread = refl;
        begun = refl;
        solo = refl;
        steps = refl;
        shows = shows up.0 up.2 st;
      }

  -- and the sight goes on beside it
  beside_next : Beside image (went x q1 t) q1 t
  beside_next =
      let g = does_grows (p.row q) s t (step.outcome, q1) step.does in
      record {
        state = refl;
        part = λ a r e. elim (cases_Bool (t.touched a)) [
          | inl m ↦ ap (λ o. over o (image a)) (cond-true (t.touched a) (t.heap a) (x.changes a) m ∙ e)
          | inr m ↦ ap (λ o. over o (image a)) (cond-false (t.touched a) (t.heap a) (x.changes a) m) ∙
              b.part a r (sym (g.same a m) ∙ e)
        ];
        looks = looks;
        owns = owns;
        there = there;
      }

  -- what is changed stays so
  changed_still : (a : ℕ) → is_some (x.changes a) ≡ true → is_some ((went x q1 t).changes a) ≡ true
  changed_still a e = elim (cases_Bool (t.touched a)) [
    | inl m ↦ ap is_some (cond-true (t.touched a) (t.heap a) (x.changes a) m) ∙ there a m
    | inr m ↦ ap is_some (cond-false (t.touched a) (t.heap a) (x.changes a) m) ∙ e
  ]

-- ---- the steps of a piece, one after another

-- what stays of a transaction after n steps
record Stays {S : Type 0} (x y : Transaction S) (n : ℕ) : Type 0 where
  pub thread : y.thread ≡ x.thread
  pub steps : y.steps ≡ x.steps + n
  pub changed : y.changed ≡ x.changed
  pub made : y.made ≡ x.made
  pub started : y.started ≡ x.started
  pub looked : y.looked ≡ x.looked
  pub begun : y.begun ≡ x.begun
  pub solo : y.solo ≡ x.solo
  pub world : y.world ≡ x.world

stays_none : {S : Type 0} (x : Transaction S) → Stays x x 0
stays_none x = record {
  thread = refl;
  steps = omega arith;
  changed = refl;
  made = refl;
  started = refl;
  looked = refl;
  begun = refl;
  solo = refl;
  world = refl;
}

stays_more : {S : Type 0} (x y : Transaction S) (n : ℕ) (q : S) (t : Sight S) → Stays x y n →
    Stays x (went y q t) (suc n)
stays_more x y n q t k = record {
  thread = k.thread;
  steps = let e = k.steps in omega (arith, e);
  changed = k.changed;
  made = k.made;
  started = k.started;
  looked = k.looked;
  begun = k.begun;
  solo = k.solo;
  world = k.world;
}

-- after n steps, which led to the transaction `after` beside the sight s
record Reached {S : Type 0} (p : Prog S) (most k : ℕ) (c : CoreState S) (x : Transaction S) (n : ℕ) (q : S)
    (s : Sight S) : Type 0 where
  pub after : Transaction S
  pub moves : List (Move S)
  pub follows : Follows p most c moves (with_segment k (Running after) c)
  pub own : All (IsOwnStep k) moves
  pub count : length moves ≡ n
  pub stands : Stands p c.image c.threads c.world after
  pub beside : Beside c.image after q s
  pub stays : Stays x after n
  pub others : (a : ℕ) → s.touched a ≡ false → after.changes a ≡ x.changes a
  pub still : (a : ℕ) → is_some (x.changes a) ≡ true → is_some (after.changes a) ≡ true

-- The moves by which a piece is installed. The segment stands then, and has changed the records that it had changed.
pub record Moved {S : Type 0} (p : Prog S) (most k : ℕ) (c : CoreState S) (x : Transaction S) (g g1 : Heap) (n : ℕ)
    (q1 : S) : Type 0 where
  pub after : Transaction S
  pub moves : List (Move S)
  pub follows : Follows p most c moves (with_segment k (Running after) c)
  pub own : All (IsOwnStep k) moves
  pub count : length moves ≡ n
  pub installed : Installed c.image x g g1 n q1 after
  pub stands : Stands p c.image c.threads c.world after
  pub still : (a : ℕ) → is_some (x.changes a) ≡ true → is_some (after.changes a) ≡ true

free_again : {S : Type 0} (p : Prog S) (start : Machine S) (most k : ℕ) (c : CoreState S) (x y : Transaction S) →
    Good p start most c → c.segments k ≡ Running x → y.changed ≡ x.changed → y.made ≡ x.made → IsFree c k y
free_again p start most k c x y good is changed made = record {
  changed = λ j t n r a m. (good.apart k j x t (λ e. n (sym e)) is r).changed a (subst (λ l. mem a l ≡ true) changed m);
  made = λ j t n r a m. (good.apart k j x t (λ e. n (sym e)) is r).made a
      (subst (λ l. mem a (places l) ≡ true) made m);
}

here : {S : Type 0} (k : ℕ) (s : Segment S) (c : CoreState S) → (with_segment k s c).segments k ≡ s
here k s c = cond-true (eqb k k) s (c.segments k) (eq-eqb k k refl)

pub again : {S : Type 0} (k : ℕ) (s r : Segment S) (c : CoreState S) → with_segment k s c ≡
    with_segment k s (with_segment k r c)
again k s r c i = record c { segments = sym (set_again k s r c.segments) i }

same_core : {S : Type 0} (k : ℕ) (s : Segment S) (c : CoreState S) → c.segments k ≡ s → with_segment k s c ≡ c
same_core k s c e i = record c { segments = set_same k s c.segments e i }

owned_same : {S : Type 0} (x y : Transaction S) (a : ℕ) → y.changed ≡ x.changed → y.made ≡ x.made →
    owned x a ≡ true → owned y a ≡ true
owned_same x y a c m e = subst (λ l. (mem a l || mem a (places y.made)) ≡ true) (sym c)
    (subst (λ l. (mem a x.changed || mem a (places l)) ≡ true) (sym m) e)

none_of : (xs : List ℕ) (a : ℕ) → xs ≡ [] → mem a xs ≡ true → ⊥
none_of xs a e m = both_ways (mem a xs) (ap (mem a) e) m

module _ {S : Type 0} (p : Prog S) (start : Machine S) (most k : ℕ) (c : CoreState S) (x : Transaction S) (q0 : S)
    (g : Heap) (locked : Marks) (good : Good p start most c) (is : c.segments k ≡ Running x) (first : x.state ≡ q0)
    (loan : IsLoan c.image x g locked) where
  -- before the first step
  reached_first : Reached p most k c x 0 q0 (opened S g c.world)
  reached_first = record {
    after = x;
    moves = [];
    follows = same_core k (Running x) c is;
    own = All-nil (IsOwnStep k);
    count = refl;
    stands = good.stands k x is;
    beside = record {
      state = first;
      part = loan.part;
      looks = λ a e. absurd (both_ways false refl e);
      owns = λ a e. absurd (both_ways false refl e);
      there = λ a e. absurd (both_ways false refl e);
    };
    stays = stays_none x;
    others = λ a e. refl;
    still = λ a e. e;
  }

  -- one step more
  reached_next : (n : ℕ) (r q : S) (s t : Sight S) → suc (x.steps + n) ≤ most → Reached p most k c x n r s →
      Step p r s q t → Quiet s → Quiet t → ((a : ℕ) → t.touched a ≡ true → Has t.heap a) →
      ((a : ℕ) → t.looked a ≡ true → x.looked a ≡ true) → ((a : ℕ) → t.touched a ≡ true → owned x a ≡ true) →
      Reached p most k c x (suc n) q t
  reached_next n r q s t few h step qs qt there looks owns =
      let y = h.after in
      let ke = h.stays in
      let looks1 : (a : ℕ) → t.looked a ≡ true → y.looked a ≡ true =
      λ a e. subst (λ m. m a ≡ true) (sym ke.looked) (looks a e) in
      let owns1 : (a : ℕ) → t.touched a ≡ true → owned y a ≡ true =
      λ a e. owned_same x y a ke.changed ke.made (owns a e) in
      let ad = advances p c.image c.threads c.world y r q s t h.beside step there looks1 owns1 h.stands qs qt in
      let z = went y q t in
      let u = with_segment k (Running y) c in
      let end = with_segment k (Running z) c in
      let st = ke.steps in
      let co = h.count in
      let gr = does_grows (p.row r) s t (step.outcome, q) step.does in
      record {
        after = z;
        moves = h.moves ++ Goes k y z ∷ [];
        follows = follows_append p most c u end h.moves (Goes k y z ∷ []) h.follows (
          end,
          (
            here k (Running y) c,
            omega (arith, st, few),
            ad,
            free_with k (Running y) c z (free_again p start most k c x z good is ke.changed ke.made),
            again k (Running z) (Running y) c,
          ),
          refl,
        );
        own = All-append (IsOwnStep k) h.moves (Goes k y z ∷ []) h.own
            (All-cons (IsOwnStep k) (Goes k y z) [] refl (All-nil (IsOwnStep k)));
        count = omega (arith, length-append h.moves (Goes k y z ∷ []), co);
        stands = advance_stands p c.image c.threads c.world y z h.stands ad;
        beside = beside_next p c.image c.threads c.world y r q s t h.beside step there looks1 owns1;
        stays = stays_more x y n q t ke;
        others = λ a e. cond-false (t.touched a) (t.heap a) (y.changes a) e ∙
            h.others a (back (s.touched a) (t.touched a) (gr.touched a) e);
        still = λ a e. changed_still p c.image c.threads c.world y r q s t h.beside step there looks1 owns1 a
            (h.still a e);
      }

  reached : (n : ℕ) (q : S) (s : Sight S) → x.steps + n ≤ most → PieceSteps p g n q0 (opened S g c.world) q s →
      Quiet s → ((a : ℕ) → s.touched a ≡ true → locked a ≡ true) → Reached p most k c x n q s
  reached zero q s few h quiet touched = subst (λ z. Reached p most k c x 0 z s) (sym h.0)
      (subst (λ z. Reached p most k c x 0 q0 z) (sym h.1) reached_first)
  reached (suc n) q s few h quiet touched =
      let r = h.0 in
      let u = h.1 in
      let step = h.3 in
      let way = steps_way p g (suc n) q0 q (opened S g c.world) s h in
      let gr = does_grows (p.row r) u s (step.outcome, q) step.does in
      let b = quiet_before (p.row r) u s (step.outcome, q) step.does quiet.made quiet.started in
      let qu : Quiet u = record { made = b.0; started = b.1; unused = back u.used s.used gr.used quiet.unused } in
      let before = reached n r u (omega (arith, few)) h.2 qu (λ a e. touched a (gr.touched a e)) in
      reached_next n r q u s (omega (arith, few)) before step qu quiet
      (touched_there (opened S g c.world) s way.grows (λ a e. absurd (both_ways false refl e)) quiet.made)
      (λ a e. let l = looked_loaned g c.world s way quiet.made a e in loan.looked a l.rec l.is l.tracked)
      (λ a e. loan.held a (touched a e))

  -- ---- what they leave

  outside : (n : ℕ) (q : S) (s : Sight S) → PieceSteps p g n q0 (opened S g c.world) q s → s.made ≡ [] → (a : ℕ) →
      g a ≡ None → s.touched a ≡ false
  outside n q s h m a e = elim (cases_Bool (s.touched a)) [
    | inl y ↦ absurd (none_of s.made a m
        ((steps_way p g n q0 q (opened S g c.world) s h).grows.fresh a refl y e))
    | inr f ↦ f
  ]

  -- the whole piece
  pub moved : (n : ℕ) (q1 : S) (g1 : Heap) → x.steps + n ≤ most → IsPiece p g locked n q0 q1 g1 →
      Moved p most k c x g g1 n q1
  moved n q1 g1 few piece =
      let i = piece c.world in
      let quiet : Quiet i.sight = record { made = i.made; started = i.started; unused = i.unused } in
      let h = reached n q1 i.sight few i.steps quiet i.touched in
      let ke = h.stays in
      record {
        after = h.after;
        moves = h.moves;
        follows = h.follows;
        own = h.own;
        count = h.count;
        installed = record {
          thread = ke.thread;
          steps = ke.steps;
          state = h.beside.state;
          changed = ke.changed;
          made = ke.made;
          started = ke.started;
          looked = ke.looked;
          begun = ke.begun;
          solo = ke.solo;
          world = ke.world;
          records = subst (λ l. IsPart l (overlay c.image h.after.changes)) i.heap h.beside.part;
          others = λ a e. ap (λ o. over o (c.image a)) (h.others a (outside n q1 i.sight i.steps i.made a e));
        };
        stands = h.stands;
        still = h.still;
      }

-- ---- the laws

-- a piece that fits leads, by so many moves of its segment, to the core in which the segment has its steps
pub install_law : {S : Type 0} (p : Prog S) (start : Machine S) (most k n : ℕ) (c : CoreState S) (x : Transaction S)
    (q q1 : S) (g g1 : Heap) (locked : Marks) → Good p start most c → c.segments k ≡ Running x →
    Fits most c.image x q g locked n → IsPiece p g locked n q q1 g1 → Moved p most k c x g g1 n q1
install_law p start most k n c x q q1 g g1 locked good is fits piece =
    moved p start most k c x q g locked good is fits.state fits.loan n q1 g1 fits.short piece

-- over the records of a loan the condition of the client's step holds
pub loan_stands : {S : Type 0} (p : Prog S) (sound : Heap → List S → Type 0) (start : Machine S) (most k : ℕ)
    (c : CoreState S) (x : Transaction S) (g : Heap) (locked : Marks) → StaysSound p sound →
    sound start.heap start.threads → Good p start most c → c.segments k ≡ Running x → IsLoan c.image x g locked →
    StandsIn sound true g x.state
loan_stands p sound start most k c x g locked law first good is loan = record {
  heap = overlay c.image x.changes;
  shown = loan.part;
  standing = sound_transaction p sound law start most c k x first good is;
}
