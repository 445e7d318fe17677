-- One step of a turn.
use Rattle.std.proofs.Common.{◌≡◌, ◌≢◌, inl, inr, ℕ, zero, suc, ◌≤◌, List, [], ◌∷◌, ◌++◌, Bool, true, false, Option, Some, None, take, slice_get, slice_set, refl, sym, ◌∙◌, ap, subst, arith, append-nil, append_assoc, length, ◌+◌, IfSome, Result, Ok, Err, OnOk}
use Rattle.std.specs.Prelude.{IfErr}
use Rattle.py_data.specs.declared.stop.Stop.{Stop}
use Rattle.py_data.specs.declared.stop.Stop.TheVariants.{ReadFault as ReadStop, WriteFault as WriteStop, ErrFault as ErrStop, OutOfMemory as MemoryStop}
use Rattle.py_data.specs.declared.stop.Out.TheVariants.{Output, ErrorOutput}
use Rattle.py_data.specs.Heap.{Heap}
use Rattle.py_data.specs.Row.{Call, Reply, Row, Ret, Do, Read, Find, Edit, Make, Start, Put, Take, MidLine, SetMidLine}
use Rattle.py_data.specs.Sense.{Sense, Bracket, Upto}
use Rattle.py_data.specs.Sight.{Sight, Does, opened, pure}
use Rattle.py_data.specs.World.{World, wrote, shrunk, grown}
use Rattle.py_data.proofs.Mirror.{does_afresh}
use Rattle.py_data.proofs.Whole.{stopped_at}
use Rattle.stm_io.specs.Outside.{Rose}
use Rattle.lock_run.specs.declared.client.Outcome.{Outcome}
use Rattle.lock_run.specs.declared.client.Outcome.TheVariants.{Waits as WaitsNow}
use Rattle.lock_run.specs.declared.client.Life.TheVariants.{Lives}
use Rattle.lock_run.specs.declared.turn.TurnWhy.{TurnWhy}
use Rattle.lock_run.specs.declared.turn.TurnWhy.TheVariants.{Ended, Waits, OutOfMemory}
use Rattle.lock_run.specs.Whys.{why_of_stop, memory_why}
use Rattle.lock_run.specs.Prog.{Prog}
use Rattle.lock_run.specs.Client.{Stepped, StepStopped, StaysSound, WaitsQuietly}
use Rattle.lock_run.specs.PlainState.{PlainState, PlainRefuses, PlainOpens, PlainUndoes, NoName}
use Rattle.lock_run.specs.Machine.{Machine, Step}
use Rattle.lock_run.specs.Cut.{PartOf}
use Rattle.lock_run.specs.Turns.{NoneFall, CutIn, LeavesNothing, Begins, CutTold, Going, LockState, StepGoes, StepCut}
use Rattle.lock_run.proofs.Following.{IsPlain, Shows, grown_then, Keeps, run_shown, upto_shown, run_keeps, upto_keeps, run_upto, upto_none}

-- lists of threads
pub get_set : {A : Type 0} (xs ys : List A) (t : ℕ) (x y : A) → slice_get xs t ≡ Some x →
    slice_get (slice_set xs t y ++ ys) t ≡ Some y
get_set [] ys t x y e = cc
get_set (z ∷ zs) ys zero x y e = refl
get_set (z ∷ zs) ys (suc t) x y e = get_set zs ys t x y e

pub set_set : {A : Type 0} (xs ys : List A) (t : ℕ) (x y z : A) → slice_get xs t ≡ Some x →
    slice_set (slice_set xs t y ++ ys) t z ≡ slice_set xs t z ++ ys
set_set [] ys t x y z e = cc
set_set (w ∷ ws) ys zero x y z e = refl
set_set (w ∷ ws) ys (suc t) x y z e = ap (λ l. w ∷ l) (set_set ws ys t x y z e)

-- a list whose front is set
pub set_front : {A : Type 0} (xs ys : List A) (t : ℕ) (x y : A) → slice_get xs t ≡ Some x →
    slice_set (xs ++ ys) t y ≡ slice_set xs t y ++ ys
set_front [] ys t x y e = cc
set_front (z ∷ zs) ys zero x y e = refl
set_front (z ∷ zs) ys (suc t) x y e = ap (λ l. z ∷ l) (set_front zs ys t x y e)

-- what stands in a place is set there
pub set_same : {A : Type 0} (xs : List A) (t : ℕ) (x : A) → slice_get xs t ≡ Some x → slice_set xs t x ≡ xs
set_same [] t x e = cc
set_same (y ∷ xs) zero x e = let q : x ≡ y = cc in ap (λ z. z ∷ xs) q
set_same (y ∷ xs) (suc t) x e = ap (λ l. y ∷ l) (set_same xs t x e)

-- what stands in a place stands there again, and nothing comes behind
pub set_kept : {A : Type 0} (xs ys : List A) (t : ℕ) (x y : A) → slice_get xs t ≡ Some x → y ≡ x → ys ≡ [] →
    slice_set xs t y ++ ys ≡ xs
set_kept xs ys t x y e same none = ap (λ l. slice_set xs t y ++ l) none ∙ append-nil (slice_set xs t y) ∙
    ap (slice_set xs t) same ∙ set_same xs t x e

-- a place of the front, and one behind it
pub get_front : {A : Type 0} (xs ys : List A) (t : ℕ) (x : A) → slice_get xs t ≡ Some x →
    slice_get (xs ++ ys) t ≡ Some x
get_front [] ys t x e = cc
get_front (z ∷ zs) ys zero x e = e
get_front (z ∷ zs) ys (suc t) x e = get_front zs ys t x e

pub get_behind : {A : Type 0} (xs ys : List A) (t k : ℕ) (y : A) → t ≡ length xs + k → slice_get ys k ≡ Some y →
    slice_get (xs ++ ys) t ≡ Some y
get_behind [] ys t k y e g = let f : t ≡ k = omega arith in ap (slice_get ys) f ∙ g
get_behind (z ∷ zs) ys zero k y e g = absurd (omega arith)
get_behind (z ∷ zs) ys (suc t) k y e g = get_behind zs ys t k y (omega arith) g

pub if_some : {A : Type 0} (o : Option A) (x : A) (P : A → Type 0) → o ≡ Some x → IfSome o P → P x
if_some o x P e h = subst (λ z. IfSome z P) e h

pub some_is : {A : Type 0} (o : Option A) (x : A) (P : A → Type 0) → o ≡ Some x → P x → IfSome o P
some_is o x P e h = subst (λ z. IfSome z P) (sym e) h

pub ok_map : {T E : Type 0} (r : Result T E) (P Q : Type 0) → (P → Q) → OnOk r P → OnOk r Q
ok_map (Ok x) P Q f h = f h
ok_map (Err e) P Q f h = tt

pub err_map : {T E : Type 0} (r : Result T E) (P Q : E → Type 0) → ((e : E) → P e → Q e) → IfErr r P → IfErr r Q
err_map (Ok x) P Q f h = tt
err_map (Err e) P Q f h = f e h

pub shrunk_none : (i : Option (List ℕ)) → shrunk i 0 ≡ i
shrunk_none None = refl
shrunk_none (Some xs) = refl

pub grown_none : (o : Option (List ℕ)) → grown o [] ≡ o
grown_none None = refl
grown_none (Some xs) = ap Some (append-nil xs)

-- a call that told the devices nothing
pub part_still : {S A : Type 0} (row : Row S A) (w : World) → PartOf row w w
part_still (Do (Put Output bytes) k) w = (0, ap (λ l. record w { out = l }) (sym (append-nil w.out)))
part_still (Do (Put ErrorOutput bytes) k) w = (0, ap (λ l. record w { err = l }) (sym (append-nil w.err)))
part_still (Do (Take most) k) w = (0, ap (λ i. record w { input = i }) (sym (shrunk_none w.input)))
part_still _ w = refl

-- the state when the step is opened
abbrev pub state_opened : {S : Type 0} → PlainState S → PlainState S
state_opened d = record d {
  base = d.heap;
  kept = d.made;
  was_left = d.left;
  was_mid = d.mid;
  bad = false;
  started =
      [];
  stopped = None;
}

module _ {S : Type 0} (p : Prog S) (t k : ℕ) (names : List ℕ) (o e : Option (List ℕ)) (m : Machine S)
    (d0 d : PlainState S) (ts : List S) (g : Going p t k names o e m d0 d ts) where
  -- the state of the thread is the one that the steps gave
  pub state_is : (s : S) → slice_get ts t ≡ Some s → s ≡ g.after
  state_is s h =
      let a : slice_get ts t ≡ Some g.after = subst (λ l. slice_get l t ≡ Some g.after) (sym g.threads)
      (get_set m.threads g.sight.started t g.before g.after g.is) in
      let q : Some s ≡ Some g.after = sym h ∙ a in cc

  pub going_shows : (v : PlainState S) → v ≡ state_opened d → Shows o e g.sight.started v g.sight
  going_shows v h = subst (λ (z : PlainState S). Shows o e g.sight.started z g.sight) (sym h)
      (record {
        heap = g.heap;
        made = g.made;
        started = sym (append-nil g.sight.started);
        input = g.input;
        ends = g.ends;
        out = g.out;
        err = g.err;
        mid = g.mid;
      })

  -- the step was done
  pub step_goes : {X : Type 0} (u : Sense S X) (b : Bracket S X) (D : X → PlainState S) (i : IsPlain u b D) (s s1 : S)
      (c : Outcome) (v w : X)
      → slice_get ts t ≡ Some s → p.life s ≡ Lives → D v ≡ d → Stepped u b (p.row s) v c s1 w → c ≢ WaitsNow
      → Going p t (suc k) names o e m d0 (D w) (slice_set ts t s1 ++ (D w).started)
  step_goes u b D i s s1 c v w gs ls dv st nw =
      let es = state_is s gs in
      let v1 = st.0 in
      let op : D v1 ≡ state_opened d = i.opens v v1 st.1 ∙ ap state_opened dv in
      let r = run_shown u b D i o e g.sight.started (p.row s) v1 (c, s1) w g.sight st.2 (going_shows (D v1) op) in
      let kp = run_keeps u b D i (p.row s) v1 (c, s1) w st.2 in
      let y = r.0 in
      let sh = r.2 in
      let one : Step p g.after g.sight s1 y =
      subst (λ (q : S). Step p q g.sight s1 y) es (record { lives = ls; outcome = c; goes_on = nw; does = r.1 }) in
      let free : (D w).free ≡ d.free = kp.free ∙ ap (λ z. z.free) op in
      let reads : d.reads ≤ (D w).reads = let x = kp.reads in let q : (D v1).reads ≡ d.reads = ap (λ z. z.reads) op in
      omega arith in
      let writes : d.writes ≤ (D w).writes = let x = kp.writes in let q : (D v1).writes ≡ d.writes =
      ap (λ z. z.writes) op in omega arith in
      let errs : d.errs ≤ (D w).errs = let x = kp.errs in let q : (D v1).errs ≡ d.errs = ap (λ z. z.errs) op in
      omega arith in
      record {
        before = g.before;
        after = s1;
        sight = y;
        is = g.is;
        steps = (g.after, g.sight, g.steps, one);
        heap = sh.heap;
        made = sh.made;
        input = sh.input;
        ends = sh.ends;
        out = sh.out;
        err = sh.err;
        mid = sh.mid;
        threads = sym (set_front ts (D w).started t s s1 gs)
            ∙ ap (λ l. slice_set (l ++ (D w).started) t s1) g.threads
            ∙ ap (λ l. slice_set l t s1) (append_assoc (slice_set m.threads t g.after) g.sight.started (D w).started)
            ∙ set_set m.threads (g.sight.started ++ (D w).started) t g.before g.after s1 g.is
            ∙ ap (λ l. slice_set m.threads t s1 ++ l) (sym sh.started);
        named = λ f. kp.names (ap (λ z. z.free) op ∙ sym free ∙ f) ∙ ap (λ z. z.made ++ z.left) op ∙
            g.named (sym free ∙ f);
        reads = let x = g.reads in omega arith;
        writes = let x = g.writes in omega arith;
        errs = let x = g.errs in omega arith;
      }

  -- nothing of the next step was done
  abbrev pub cut_here : CutIn p t k o e m d ts
  cut_here = record {
    before = g.before;
    after = g.after;
    sight = g.sight;
    is = g.is;
    steps = g.steps;
    heap = sym g.heap;
    mid = sym g.mid;
    threads = g.threads;
    told = g.sight.world;
    cut = record {
      left = p.row g.after;
      place = g.sight;
      upto = upto_none pure (p.row g.after) g.sight;
      part =
          part_still (p.row g.after) g.sight.world;
    };
    out = g.out;
    err = g.err;
    input = sym g.input;
    ends = sym g.ends;
  }

  pub nothing_here : LeavesNothing cut_here
  nothing_here = refl

  -- the names that were given are the first of those planned
  pub begins_here : d.free ≡ false → Begins g.sight.made names
  begins_here f = (d.left, ap (λ l. l ++ d.left) g.made ∙ g.named f)

  -- the next step isn't done: for want of memory, or since the thread has ended
  pub starved_here : CutTold p t k names o e m d0 d ts OutOfMemory
  starved_here = (cut_here, sym g.made, tt, begins_here)

  pub ended_here : (s : S) → slice_get ts t ≡ Some s → p.life s ≢ Lives → CutTold p t k names o e m d0 d ts Ended
  ended_here s h dead = (cut_here, sym g.made, (λ l. dead (ap p.life (state_is s h) ∙ l), nothing_here), begins_here)

  -- a part of the next step was done and taken back: x is the state at that place, and w the state after the call that
  -- was cut
  abbrev pub cut_part : (left : Row S (Outcome × S)) (y : Sight S) (told : World) (x w d1 : PlainState S)
      → Upto pure (p.row g.after) g.sight left y → Keeps (state_opened d) x → w.base ≡ x.base → w.was_mid ≡ x.was_mid
      → w.out ≡ grown o told.out → w.err ≡ grown e told.err → w.input ≡ told.input → w.ends ≡ told.ends →
      PlainUndoes w d1 → PartOf left y.world told
      → CutIn p t k o e m d1 ts
  cut_part left y told x w d1 up kp base mid out err input ends un part = record {
    before = g.before;
    after = g.after;
    sight = g.sight;
    is = g.is;
    steps = g.steps;
    heap = ap (λ z. z.heap) un ∙ base ∙ kp.base ∙ sym g.heap;
    mid = ap (λ z. z.mid) un ∙ mid ∙ kp.was_mid ∙ sym g.mid;
    threads = g.threads;
    told = told;
    cut = record { left = left; place = y; upto = up; part = part };
    out = ap (λ z. z.out) un ∙ out;
    err = ap (λ z. z.err) un ∙ err;
    input = ap (λ z. z.input) un ∙ input;
    ends = ap (λ z. z.ends) un ∙ ends;
  }

  -- the call that was cut told the devices nothing
  abbrev pub cut_still : (left : Row S (Outcome × S)) (y : Sight S) (x w d1 : PlainState S)
      → Upto pure (p.row g.after) g.sight left y → Shows o e g.sight.started x y → Keeps (state_opened d) x
      → w.base ≡ x.base → w.was_mid ≡ x.was_mid → w.out ≡ x.out → w.err ≡ x.err → w.input ≡ x.input → w.ends ≡ x.ends
      → PlainUndoes w d1 → CutIn p t k o e m d1 ts
  cut_still left y x w d1 up sh kp base mid out err input ends un =
      cut_part left y y.world x w d1 up kp base mid (out ∙ sh.out) (err ∙ sh.err) (input ∙ sym sh.input)
      (ends ∙ sym sh.ends) un
      (part_still left y.world)

  -- the names that stay given are those of the steps before
  made_part : (x w d1 : PlainState S) → w.kept ≡ x.kept → Keeps (state_opened d) x → PlainUndoes w d1 →
      d1.made ≡ g.sight.made
  made_part x w d1 kept kp un = ap (λ z. z.made) un ∙ kept ∙ kp.kept ∙ sym g.made

  begins_part : (x w d1 : PlainState S) → w.free ≡ x.free → Keeps (state_opened d) x → PlainUndoes w d1 →
      d1.free ≡ false → Begins g.sight.made names
  begins_part x w d1 free kp un f = begins_here (sym kp.free ∙ sym free ∙ sym (ap (λ z. z.free) un) ∙ f)

  -- what is told of a step that was cut
  abbrev Told : PlainState S → TurnWhy → Type 0
  Told d1 why = CutTold p t k names o e m d0 d1 ts why

  -- a call of the next step was refused
  refused_memory : (c : Call S) (f : Reply c → Row S (Outcome × S)) (y : Sight S) (x w d1 : PlainState S)
      (ls : p.life g.after ≡ Lives) (bad : Bool) → d1.bad ≡ bad
      → Upto pure (p.row g.after) g.sight (Do c f) y → Shows o e g.sight.started x y → Keeps (state_opened d) x →
      PlainRefuses c x MemoryStop w → PlainUndoes w d1
      → Told d1 (memory_why bad)
  refused_memory c f y x w d1 ls false eb up sh kp rf un = (
    cut_still (Do c f) y x w d1 up sh kp rf.0.base rf.0.was_mid rf.1.2.same rf.1.3.same rf.1.1.same rf.1.1.ends un,
    made_part x w d1 rf.0.kept kp un,
    tt,
    begins_part x w d1 rf.0.free kp un,
  )
  refused_memory (Make q) f y x w d1 ls true eb up sh kp rf un =
      let bd : w.bad ≡ true = sym (ap (λ z. z.bad) un) ∙ eb in
      elim rf.1.0 [
        | inl h ↦ absurd (let q : true ≡ false = sym bd ∙ h ∙ kp.bad in cc)
        | inr h ↦ (
          cut_still (Do (Make q) f) y x w d1 up sh kp rf.0.base rf.0.was_mid rf.1.2.same rf.1.3.same rf.1.1.same
              rf.1.1.ends un,
          made_part x w d1 rf.0.kept kp un,
          (
            ls,
            ap (λ z. z.free) un ∙ rf.0.free ∙ h.1,
            q,
            x.left,
            (f, refl),
            ap (λ l. l ++ x.left) sh.made ∙
                kp.names (sym kp.free ∙ h.1) ∙ g.named (sym kp.free ∙ h.1),
            subst (λ (a : Heap). NoName a x.left) (sym sh.heap) h.2,
          ),
          begins_part x w d1 rf.0.free kp un,
        )
      ]
  refused_memory (Edit a c) f y x w d1 ls true eb up sh kp rf un =
      absurd (let q : true ≡ false = sym eb ∙ ap (λ z. z.bad) un ∙ rf.1.0 ∙ kp.bad in cc)
  refused_memory (Start s) f y x w d1 ls true eb up sh kp rf un =
      absurd (let q : true ≡ false = sym eb ∙ ap (λ z. z.bad) un ∙ rf.1.0 ∙ kp.bad in cc)
  refused_memory (Put on bytes) f y x w d1 ls true eb up sh kp rf un =
      absurd (let q : true ≡ false = sym eb ∙ ap (λ z. z.bad) un ∙ rf.1.0 ∙ kp.bad in cc)
  refused_memory (Take most) f y x w d1 ls true eb up sh kp rf un =
      absurd (let q : true ≡ false = sym eb ∙ ap (λ z. z.bad) un ∙ rf.1.0 ∙ kp.bad in cc)
  refused_memory (Read a) f y x w d1 ls true eb up sh kp rf un = absurd rf.1.0
  refused_memory (Find a key) f y x w d1 ls true eb up sh kp rf un = absurd rf.1.0
  refused_memory MidLine f y x w d1 ls true eb up sh kp rf un = absurd rf.1.0
  refused_memory (SetMidLine mid) f y x w d1 ls true eb up sh kp rf un = absurd rf.1.0

  -- a count that rose in the step has risen since the turn began
  rose_by : (a b c b1 : ℕ) → a ≤ b → Rose b c → b1 ≡ c → Rose a b1
  rose_by a b c b1 l r q = omega arith

  refused : (c : Call S) (f : Reply c → Row S (Outcome × S)) (y : Sight S) (x w d1 : PlainState S)
      (ls : p.life g.after ≡ Lives) (s : Stop)
      → Upto pure (p.row g.after) g.sight (Do c f) y → Shows o e g.sight.started x y → Keeps (state_opened d) x →
      PlainRefuses c x s w → PlainUndoes w d1
      → Told d1 (why_of_stop s d1.bad)
  refused c f y x w d1 ls MemoryStop up sh kp rf un = refused_memory c f y x w d1 ls d1.bad refl up sh kp rf un
  refused (Take most) f y x w d1 ls ReadStop up sh kp rf un =
      let h = rf.1.0 in
      let l : d0.reads ≤ x.reads = let a = g.reads in let b = kp.reads in omega arith in (
        cut_part (Do (Take most) f) y (record y.world { input = shrunk y.world.input h.0.0 }) x w d1 up kp rf.0.base
            rf.0.was_mid
            (rf.1.1.same ∙ sh.out) (rf.1.2.same ∙ sh.err) (h.0.1 ∙ ap (λ i. shrunk i h.0.0) (sym sh.input))
            (h.2 ∙ sym sh.ends) un
            (h.0.0, refl),
        made_part x w d1 rf.0.kept kp un,
        (ls, most, (f, refl), rose_by d0.reads x.reads w.reads d1.reads l h.1 (ap (λ z. z.reads) un)),
        begins_part x w d1 rf.0.free kp un,
      )
  refused (Put Output bytes) f y x w d1 ls WriteStop up sh kp rf un =
      let h = rf.1.0 in
      let l : d0.writes ≤ x.writes = let a = g.writes in let b = kp.writes in omega arith in (
        cut_part (Do (Put Output bytes) f) y (wrote Output (take h.0.0 bytes) y.world) x w d1 up kp rf.0.base
            rf.0.was_mid
            (h.0.1 ∙ ap (λ l. grown l (take h.0.0 bytes)) sh.out ∙ grown_then o y.world.out (take h.0.0 bytes))
            (rf.1.2.same ∙ sh.err) (rf.1.1.same ∙ sym sh.input) (rf.1.1.ends ∙ sym sh.ends) un (h.0.0, refl),
        made_part x w d1 rf.0.kept kp un,
        (ls, bytes, (f, refl), rose_by d0.writes x.writes w.writes d1.writes l h.1 (ap (λ z. z.writes) un)),
        begins_part x w d1 rf.0.free kp un,
      )
  refused (Put ErrorOutput bytes) f y x w d1 ls ErrStop up sh kp rf un =
      let h = rf.1.0 in
      let l : d0.errs ≤ x.errs = let a = g.errs in let b = kp.errs in omega arith in (
        cut_part (Do (Put ErrorOutput bytes) f) y (wrote ErrorOutput (take h.0.0 bytes) y.world) x w d1 up kp rf.0.base
            rf.0.was_mid
            (rf.1.2.same ∙ sh.out) (h.0.1 ∙ ap (λ l. grown l (take h.0.0 bytes)) sh.err ∙
            grown_then e y.world.err (take h.0.0 bytes)) (rf.1.1.same ∙ sym sh.input) (rf.1.1.ends ∙ sym sh.ends) un
            (h.0.0, refl),
        made_part x w d1 rf.0.kept kp un,
        (ls, bytes, (f, refl), rose_by d0.errs x.errs w.errs d1.errs l h.1 (ap (λ z. z.errs) un)),
        begins_part x w d1 rf.0.free kp un,
      )
  refused _ f y x w d1 ls ReadStop up sh kp rf un = absurd rf.1.0
  refused _ f y x w d1 ls WriteStop up sh kp rf un = absurd rf.1.0
  refused _ f y x w d1 ls ErrStop up sh kp rf un = absurd rf.1.0
  refused _ f y x w d1 ls _ up sh kp rf un = absurd rf.1

  -- the step met a Stop
  pub step_stopped : {X : Type 0} (u : Sense S X) (b : Bracket S X) (D : X → PlainState S) (i : IsPlain u b D) (s : S)
      (c : Stop) (v w : X)
      → slice_get ts t ≡ Some s → p.life s ≡ Lives → D v ≡ d → StepStopped u b (p.row s) v c w
      → Told (D w) (why_of_stop c (D w).bad)
  step_stopped {X} u b D i s c v w gs ls dv st =
      let es = state_is s gs in
      let v1 = st.0 in
      let w1 = st.1 in
      let op : D v1 ≡ state_opened d = i.opens v v1 st.2 ∙ ap state_opened dv in
      let at = stopped_at u (p.row s) v1 c w1 st.3 in
      let sh = upto_shown u b D i o e g.sight.started (p.row s) at.left v1 at.place g.sight at.upto
      (going_shows (D v1) op) in
      let kp : Keeps (state_opened d) (D at.place) = subst (λ (z : PlainState S). Keeps z (D at.place)) op
      (upto_keeps u b D i (p.row s) at.left v1 at.place at.upto) in
      let up : Upto pure (p.row g.after) g.sight at.left sh.0 =
      subst (λ (q : S). Upto pure (p.row q) g.sight at.left sh.0) es sh.1 in
      let lv : p.life g.after ≡ Lives = subst (λ (q : S). p.life q ≡ Lives) es ls in
      let un = i.undoes w1 w st.4 in
      elim at.why [
        | inl own ↦
            let same : D w1 ≡ D at.place = ap D own.1 in
            let bad : (D w).bad ≡ false = ap (λ z. z.bad) un ∙ ap (λ z. z.bad) same ∙ kp.bad in
            let cut : CutIn p t k o e m (D w) ts = cut_still at.left sh.0 (D at.place) (D w1) (D w) up sh.2 kp
            (ap (λ z. z.base) same) (ap (λ z. z.was_mid) same)
            (ap (λ z. z.out) same) (ap (λ z. z.err) same) (ap (λ z. z.input) same) (ap (λ z. z.ends) same) un in
            let P : TurnWhy → Type 0 = λ y. Told (D w) y in
            let wy : why_of_stop c (D w).bad ≡ OutOfMemory = ap (λ z. why_of_stop z (D w).bad) own.0 ∙
            ap (λ z. memory_why z) bad in
            subst P (sym wy) (
              cut,
              made_part (D at.place) (D w1) (D w) (ap (λ z. z.kept) same) kp un,
              tt,
              begins_part (D at.place) (D w1) (D w) (ap (λ z. z.free) same) kp un,
            )
        | inr r ↦
            refused r.0 r.1 sh.0 (D at.place) (D w1) (D w) lv c
            (subst (λ (q : Row S (Outcome × S)). Upto pure (p.row g.after) g.sight q sh.0) r.2 up) sh.2 kp
            (i.refuses r.0 at.place c w1 r.3) un
      ]

  -- the step waits, and was taken back
  pub step_waits : {X : Type 0} (u : Sense S X) (b : Bracket S X) (D : X → PlainState S) (i : IsPlain u b D) (s s1 : S)
      (c : Outcome) (v w : X) (d1 : PlainState S)
      → slice_get ts t ≡ Some s → p.life s ≡ Lives → D v ≡ d → Stepped u b (p.row s) v c s1 w → PlainUndoes (D w) d1 →
      WaitsQuietly p → c ≡ WaitsNow → Told d1 Waits
  step_waits u b D i s s1 c v w d1 gs ls dv st un quiet ec =
      let es = state_is s gs in
      let v1 = st.0 in
      let op : D v1 ≡ state_opened d = i.opens v v1 st.1 ∙ ap state_opened dv in
      let r = run_shown u b D i o e g.sight.started (p.row s) v1 (c, s1) w g.sight st.2 (going_shows (D v1) op) in
      let kp : Keeps (state_opened d) (D w) =
      subst (λ (z : PlainState S). Keeps z (D w)) op (run_keeps u b D i (p.row s) v1 (c, s1) w st.2) in
      let dd : Does (p.row g.after) g.sight (c, s1) r.0 = subst (λ (q : S). Does (p.row q) g.sight (c, s1) r.0) es r.1
      in
      let dw : Does (p.row g.after) g.sight (WaitsNow, s1) r.0 =
      subst (λ (q : Outcome). Does (p.row g.after) g.sight (q, s1) r.0) ec dd in
      let lv : p.life g.after ≡ Lives = subst (λ (q : S). p.life q ≡ Lives) es ls in
      let still = (quiet g.after s1 g.sight r.0 dw).1 in (
        cut_still (Ret (c, s1)) r.0 (D w) (D w) d1 (run_upto pure (p.row g.after) g.sight (c, s1) r.0 dd) r.2 kp refl
            refl refl refl refl refl un,
        made_part (D w) (D w) d1 refl kp un,
        (lv, still.world, s1, dw, still),
        begins_part (D w) (D w) d1 refl kp un,
      )

-- started threads that have moved to the others
pub going_moved : {S : Type 0} (p : Prog S) (t k : ℕ) (names : List ℕ) (o e : Option (List ℕ)) (m : Machine S)
    (d0 d d1 : PlainState S) (ts ts1 : List S)
    → d1 ≡ record d { started = d1.started } → ts1 ≡ ts → Going p t k names o e m d0 d ts →
    Going p t k names o e m d0 d1 ts1
going_moved p t k names o e m d0 d d1 ts ts1 ed el g = record {
  before = g.before;
  after = g.after;
  sight = g.sight;
  is = g.is;
  steps = g.steps;
  heap = g.heap ∙ sym (ap (λ z. z.heap) ed);
  made = g.made ∙ sym (ap (λ z. z.made) ed);
  input = g.input ∙ sym (ap (λ z. z.input) ed);
  ends = g.ends ∙ sym (ap (λ z. z.ends) ed);
  out = ap (λ z. z.out) ed ∙ g.out;
  err = ap (λ z. z.err) ed ∙ g.err;
  mid = g.mid ∙ sym (ap (λ z. z.mid) ed);
  threads = el ∙ g.threads;
  named = λ f. ap (λ z. z.made ++ z.left) ed ∙ g.named (sym (ap (λ z. z.free) ed) ∙ f);
  reads = let x = g.reads in let q : d1.reads ≡ d.reads = ap (λ z. z.reads) ed in omega arith;
  writes = let x = g.writes in let q : d1.writes ≡ d.writes = ap (λ z. z.writes) ed in omega arith;
  errs = let x = g.errs in let q : d1.errs ≡ d.errs = ap (λ z. z.errs) ed in omega arith;
}

pub goes_moved : {S : Type 0} (p : Prog S) (t : ℕ) (a m b : LockState S) →
    m.view ≡ record a.view { started = m.view.started } → m.threads ≡ a.threads → StepGoes p t m b → StepGoes p t a b
goes_moved p t a m b ev et f = λ k names o e q d0 go.
    f k names o e q d0 (going_moved p t k names o e q d0 a.view m.view a.threads m.threads ev et go)

pub cut_moved : {S : Type 0} (p : Prog S) (t : ℕ) (why : TurnWhy) (a m b : LockState S) →
    m.view ≡ record a.view { started = m.view.started } → m.threads ≡ a.threads → StepCut p t why m b →
    StepCut p t why a b
cut_moved p t why a m b ev et f = λ k names o e q d0 go.
    f k names o e q d0 (going_moved p t k names o e q d0 a.view m.view a.threads m.threads ev et go)

-- the sight of a thread that begins over a view
abbrev sight_of : {S : Type 0} → PlainState S → Sight S
sight_of {S} d = record (opened S d.heap (record { input = d.input; ends = d.ends; out = []; err = []; mid = d.mid }))
    { made = d.made }

-- a step over a plain view is one by its meaning
step_does : {S X : Type 0} (p : Prog S) (u : Sense S X) (b : Bracket S X) (D : X → PlainState S) (i : IsPlain u b D)
    (s s1 : S) (c : Outcome) (v w : X)
    → Stepped u b (p.row s) v c s1 w → (y : Sight S) × Does (p.row s) (sight_of (D v)) (c, s1) y × Shows (D v).out
    (D v).err [] (D w) y
step_does {S} p u b D i s s1 c v w st =
    let d = D v in
    let v1 = st.0 in
    let op : D v1 ≡ state_opened d = i.opens v v1 st.1 in
    let sh : Shows d.out d.err [] (D v1) (sight_of d) =
    subst (λ (z : PlainState S). Shows d.out d.err [] z (sight_of d)) (sym op)
    (record {
      heap = refl;
      made = refl;
      started = refl;
      input = refl;
      ends = refl;
      out = sym (grown_none d.out);
      err =
          sym (grown_none d.err);
      mid = refl;
    }) in
    run_shown u b D i d.out d.err [] (p.row s) v1 (c, s1) w (sight_of d) st.2 sh

-- a step that waits leaves the state
pub state_waits : {S X : Type 0} (p : Prog S) (quiet : WaitsQuietly p) (u : Sense S X) (b : Bracket S X)
    (D : X → PlainState S) (i : IsPlain u b D) (s s1 : S) (c : Outcome) (v w : X)
    → Stepped u b (p.row s) v c s1 w → c ≡ WaitsNow → s1 ≡ s
state_waits p quiet u b D i s s1 c v w st ec =
    let r = step_does p u b D i s s1 c v w st in
    (quiet s s1 (sight_of (D v)) r.0 (subst (λ (q : Outcome). Does (p.row s) (sight_of (D v)) (q, s1) r.0) ec r.1)).0

-- a step leaves a sound list of threads
pub sound_after : {S X : Type 0} (p : Prog S) (sound : Heap → List S → Type 0) (law : StaysSound p sound)
    (u : Sense S X) (b : Bracket S X) (D : X → PlainState S) (i : IsPlain u b D)
    (ts : List S) (t : ℕ) (s s1 : S) (c : Outcome) (v w : X) → sound (D v).heap ts → slice_get ts t ≡ Some s →
    p.life s ≡ Lives → Stepped u b (p.row s) v c s1 w
    → sound (D w).heap (slice_set ts t s1 ++ (D w).started)
sound_after {S} p sound law u b D i ts t s s1 c v w so gs ls st =
    let d = D v in
    let r = step_does p u b D i s s1 c v w st in
    let a = does_afresh (p.row s) (sight_of d) r.0 (c, s1) r.1 in
    let y = a.0 in
    let f = a.1 in
    let hy : y.heap ≡ (D w).heap = (λ i q. f.heap q i) ∙ r.2.heap in
    let sy : y.started ≡ (D w).started = sym f.started ∙ r.2.started in
    subst (λ l. sound (D w).heap l) (set_front ts (D w).started t s s1 gs)
    (subst (λ (h : Heap). sound h (slice_set (ts ++ (D w).started) t s1)) hy
    (subst (λ (l : List S). sound y.heap (slice_set (ts ++ l) t s1)) sy
    (law ts t s d.heap (record { input = d.input; ends = d.ends; out = []; err = []; mid = d.mid }) c s1 y so
    gs ls f.does)))

-- what is taken back is as before
pub undone_run : {S X : Type 0} (p : Prog S) (u : Sense S X) (b : Bracket S X) (D : X → PlainState S)
    (i : IsPlain u b D) (s s1 : S) (c : Outcome) (v w : X) (d1 : PlainState S)
    → Stepped u b (p.row s) v c s1 w → PlainUndoes (D w) d1 → d1.heap ≡ (D v).heap
undone_run p u b D i s s1 c v w d1 st un =
    ap (λ z. z.heap) un ∙ (run_keeps u b D i (p.row s) st.0 (c, s1) w st.2).base ∙
    ap (λ z. z.base) (i.opens v st.0 st.1)

pub undone_stop : {S X : Type 0} (p : Prog S) (u : Sense S X) (b : Bracket S X) (D : X → PlainState S)
    (i : IsPlain u b D) (s : S) (c : Stop) (v w : X)
    → StepStopped u b (p.row s) v c w → (D w).heap ≡ (D v).heap
undone_stop p u b D i s c v w st =
    let at = stopped_at u (p.row s) st.0 c st.1 st.3 in
    let kp = upto_keeps u b D i (p.row s) at.left st.0 at.place at.upto in
    let base : (D st.1).base ≡ (D at.place).base =
    elim at.why [ inl own ↦ ap (λ z. (D z).base) own.1 | inr r ↦ (i.refuses r.0 at.place c st.1 r.3).0.base ] in
    ap (λ z. z.heap) (i.undoes st.1 w st.4) ∙ base ∙ kp.base ∙ ap (λ z. z.base) (i.opens v st.0 st.2)

-- no thread was started by a step that was taken back
pub started_undone : {S X : Type 0} (p : Prog S) (u : Sense S X) (b : Bracket S X) (D : X → PlainState S)
    (i : IsPlain u b D) (s : S) (c : Stop) (v w : X) → StepStopped u b (p.row s) v c w → (D w).started ≡ []
started_undone p u b D i s c v w st = ap (λ z. z.started) (i.undoes st.1 w st.4)

pub free_run : {S X : Type 0} (p : Prog S) (u : Sense S X) (b : Bracket S X) (D : X → PlainState S) (i : IsPlain u b D)
    (s s1 : S) (c : Outcome) (v w : X) → Stepped u b (p.row s) v c s1 w → (D w).free ≡ (D v).free
free_run p u b D i s s1 c v w st = (run_keeps u b D i (p.row s) st.0 (c, s1) w st.2).free ∙
    ap (λ z. z.free) (i.opens v st.0 st.1)

pub free_stop : {S X : Type 0} (p : Prog S) (u : Sense S X) (b : Bracket S X) (D : X → PlainState S)
    (i : IsPlain u b D) (s : S) (c : Stop) (v w : X) → StepStopped u b (p.row s) v c w → (D w).free ≡ (D v).free
free_stop p u b D i s c v w st =
    let at = stopped_at u (p.row s) st.0 c st.1 st.3 in
    let kp = upto_keeps u b D i (p.row s) at.left st.0 at.place at.upto in
    let free : (D st.1).free ≡ (D at.place).free =
    elim at.why [ inl own ↦ ap (λ z. (D z).free) own.1 | inr r ↦ (i.refuses r.0 at.place c st.1 r.3).0.free ] in
    ap (λ z. z.free) (i.undoes st.1 w st.4) ∙ free ∙ kp.free ∙ ap (λ z. z.free) (i.opens v st.0 st.2)

-- no count of faults falls
pub falls_none : {S : Type 0} (d : PlainState S) → NoneFall d d
falls_none d = record { reads = omega arith; writes = omega arith; errs = omega arith }

pub falls_next : {S : Type 0} (d d1 d2 : PlainState S) → NoneFall d d1 → NoneFall d1 d2 → NoneFall d d2
falls_next d d1 d2 f g = record {
  reads = let x = f.reads in let y = g.reads in omega arith;
  writes = let x = f.writes in let y = g.writes in omega arith;
  errs = let x = f.errs in let y = g.errs in omega arith;
}

falls_keeps : {S : Type 0} (d d1 : PlainState S) → Keeps d d1 → NoneFall d d1
falls_keeps d d1 k = record { reads = k.reads; writes = k.writes; errs = k.errs }

-- where the counts are the same
falls_same : {S : Type 0} (d d1 : PlainState S) → d1.reads ≡ d.reads → d1.writes ≡ d.writes → d1.errs ≡ d.errs →
    NoneFall d d1
falls_same d d1 r w e = record { reads = omega (arith, r); writes = omega (arith, w); errs = omega (arith, e) }

falls_opened : {S : Type 0} (d d1 : PlainState S) → PlainOpens d d1 → NoneFall d d1
falls_opened d d1 h = falls_same d d1 (ap (λ z. z.reads) h) (ap (λ z. z.writes) h) (ap (λ z. z.errs) h)

pub falls_undone : {S : Type 0} (d d1 : PlainState S) → PlainUndoes d d1 → NoneFall d d1
falls_undone d d1 h = falls_same d d1 (ap (λ z. z.reads) h) (ap (λ z. z.writes) h) (ap (λ z. z.errs) h)

pub falls_started : {S : Type 0} (d d1 : PlainState S) (l : List S) → d1 ≡ record d { started = l } → NoneFall d d1
falls_started d d1 l h = falls_same d d1 (ap (λ z. z.reads) h) (ap (λ z. z.writes) h) (ap (λ z. z.errs) h)

pub falls_run : {S X : Type 0} (p : Prog S) (u : Sense S X) (b : Bracket S X) (D : X → PlainState S)
    (i : IsPlain u b D) (s s1 : S) (c : Outcome) (v w : X) → Stepped u b (p.row s) v c s1 w → NoneFall (D v) (D w)
falls_run p u b D i s s1 c v w st =
    falls_next (D v) (D st.0) (D w) (falls_opened (D v) (D st.0) (i.opens v st.0 st.1))
    (falls_keeps (D st.0) (D w) (run_keeps u b D i (p.row s) st.0 (c, s1) w st.2))

pub falls_stop : {S X : Type 0} (p : Prog S) (u : Sense S X) (b : Bracket S X) (D : X → PlainState S)
    (i : IsPlain u b D) (s : S) (c : Stop) (v w : X) → StepStopped u b (p.row s) v c w → NoneFall (D v) (D w)
falls_stop p u b D i s c v w st =
    let at = stopped_at u (p.row s) st.0 c st.1 st.3 in
    let opened = falls_opened (D v) (D st.0) (i.opens v st.0 st.2) in
    let upto = falls_keeps (D st.0) (D at.place) (upto_keeps u b D i (p.row s) at.left st.0 at.place at.upto) in
    let last : NoneFall (D at.place) (D st.1) = elim at.why [
      | inl own ↦ falls_same (D at.place) (D st.1) (ap (λ z. (D z).reads) own.1) (ap (λ z. (D z).writes) own.1)
          (ap (λ z. (D z).errs) own.1)
      | inr r ↦ let y = (i.refuses r.0 at.place c st.1 r.3).0 in
          record { reads = y.reads; writes = y.writes; errs = y.errs }
    ] in
    falls_next (D v) (D st.0) (D w) opened
    (falls_next (D st.0) (D at.place) (D w) upto
    (falls_next (D at.place) (D st.1) (D w) last (falls_undone (D st.1) (D w) (i.undoes st.1 w st.4))))
