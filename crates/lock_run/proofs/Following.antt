-- What a plain view does is what the machine does.
use Rattle.std.proofs.Common.{◌≡◌, inl, inr, ℕ, ◌≤◌, List, [], ◌∷◌, ◌++◌, Bool, true, false, Option, Some, None, length, refl, sym, ◌∙◌, ap, subst, arith, append_assoc}
use Rattle.py_data.specs.declared.stop.Stop.{Stop}
use Rattle.py_data.specs.declared.stop.Out.TheVariants.{Output, ErrorOutput}
use Rattle.py_data.specs.Changes.{after}
use Rattle.py_data.specs.Heap.{Heap, put_at}
use Rattle.py_data.specs.Shape.{Fits, find}
use Rattle.py_data.specs.Row.{Call, Reply, Row, Ret, Do, Read, Find, Edit, Make, Start, Put, Take, MidLine, SetMidLine}
use Rattle.py_data.specs.Sense.{Sense, Bracket, Run, Upto}
use Rattle.py_data.specs.Sight.{Sight, Act, Does, looked_at, edited, made_new, started_one, in_world, pure}
use Rattle.py_data.specs.World.{IsLine, wrote, took, ends_after, shrunk, grown}
use Rattle.py_data.proofs.Whole.{run_follows, upto_follows, run_steps, upto_steps}
use Rattle.lock_run.specs.PlainState.{PlainState, PlainDoes, PlainRefuses, PlainOpens, PlainUndoes, Named}

-- a view that is a plain view as far as its state tells
pub record IsPlain {S X : Type 0} (u : Sense S X) (b : Bracket S X) (D : X → PlainState S) : Type 0 where
  pub does : (c : Call S) (v : X) (r : Reply c) (w : X) → u.does c v r w → PlainDoes c (D v) r (D w)
  pub refuses : (c : Call S) (v : X) (s : Stop) (w : X) → u.refuses c v s w → PlainRefuses c (D v) s (D w)
  pub opens : (v w : X) → b.opens v w → PlainOpens (D v) (D w)
  pub undoes : (v w : X) → b.undoes v w → PlainUndoes (D v) (D w)

-- the state shows x, where st was started before the step, and the outputs stood at o and e
pub record Shows {S : Type 0} (o e : Option (List ℕ)) (st : List S) (d : PlainState S) (x : Sight S) : Type 0 where
  pub heap : x.heap ≡ d.heap
  pub made : x.made ≡ d.made
  pub started : x.started ≡ st ++ d.started
  pub input : x.world.input ≡ d.input
  pub ends : x.world.ends ≡ d.ends
  pub out : d.out ≡ grown o x.world.out
  pub err : d.err ≡ grown e x.world.err
  pub mid : x.world.mid ≡ d.mid

pub grown_then : (o : Option (List ℕ)) (xs ys : List ℕ) → grown (grown o xs) ys ≡ grown o (xs ++ ys)
grown_then None xs ys = refl
grown_then (Some zs) xs ys = ap Some (append_assoc zs xs ys)

abbrev pub ShownBy : {S : Type 0} → Option (List ℕ) → Option (List ℕ) → List S → (c : Call S) → Sight S → Reply c →
    PlainState S → Type 0
ShownBy {S} o e st c x r d1 = (y : Sight S) × Act c x r y × Shows o e st d1 y

pub act_shown : {S : Type 0} (o e : Option (List ℕ)) (st : List S) (c : Call S) (d : PlainState S) (r : Reply c)
    (d1 : PlainState S) (x : Sight S) → PlainDoes c d r d1 → Shows o e st d x → ShownBy o e st c x r d1
act_shown {S} o e st (Read a) d r d1 x h s = (
  looked_at a r x,
  (ap (λ g. g a) s.heap ∙ h.0, refl),
  subst (λ (z : PlainState S). Shows o e st z (looked_at a r x)) (sym h.1)
      (record {
        heap = s.heap;
        made = s.made;
        started = s.started;
        input = s.input;
        ends = s.ends;
        out = s.out;
        err = s.err;
        mid =
            s.mid;
      }),
)
act_shown {S} o e st (Find a key) d r d1 x h s = (
  looked_at a h.0 x,
  (
    h.0,
    ap (λ g. g a) s.heap ∙ h.1,
    subst (λ (g : Heap). Fits g h.0 key) (sym s.heap) h.2,
    subst (λ (g : Heap). r ≡ find g h.0.values key) (sym s.heap) h.3,
    refl,
  ),
  subst (λ (z : PlainState S). Shows o e st z (looked_at a h.0 x)) (sym h.4)
      (record {
        heap = s.heap;
        made = s.made;
        started = s.started;
        input = s.input;
        ends = s.ends;
        out = s.out;
        err = s.err;
        mid =
            s.mid;
      }),
)
act_shown {S} o e st (Edit a c) d r d1 x h s = (
  edited a (after c h.0) x,
  (h.0, ap (λ g. g a) s.heap ∙ h.1, h.2, refl),
  subst (λ (z : PlainState S). Shows o e st z (edited a (after c h.0) x)) (sym h.3)
      (record {
        heap = ap (λ g. put_at g a (after c h.0)) s.heap;
        made = s.made;
        started = s.started;
        input = s.input;
        ends = s.ends;
        out = s.out;
        err = s.err;
        mid = s.mid;
      }),
)
act_shown {S} o e st (Make q) d n d1 x h s = (
  made_new n q x,
  (ap (λ g. g n) s.heap ∙ h.1, refl),
  subst (λ (z : PlainState S). Shows o e st z (made_new n q x)) (sym h.2)
      (record {
        heap = ap (λ g. put_at g n q) s.heap;
        made = ap (λ l. l ++ n ∷ []) s.made;
        started = s.started;
        input = s.input;
        ends = s.ends;
        out = s.out;
        err = s.err;
        mid = s.mid;
      }),
)
act_shown {S} o e st (Start p) d r d1 x h s = (
  started_one p x,
  refl,
  subst (λ (z : PlainState S). Shows o e st z (started_one p x)) (sym h)
      (record {
        heap = s.heap;
        made = s.made;
        started = ap (λ l. l ++ p ∷ []) s.started ∙
            append_assoc st d.started (p ∷ []);
        input = s.input;
        ends = s.ends;
        out = s.out;
        err = s.err;
        mid = s.mid;
      }),
)
act_shown {S} o e st (Put Output b) d r d1 x h s = (
  in_world (wrote Output b x.world) x,
  refl,
  subst (λ (z : PlainState S). Shows o e st z (in_world (wrote Output b x.world) x)) (sym h.0)
      (record {
        heap = s.heap;
        made = s.made;
        started = s.started;
        input = s.input;
        ends = s.ends;
        out = ap (λ l. grown l b) s.out ∙
            grown_then o x.world.out b;
        err = s.err;
        mid = s.mid;
      }),
)
act_shown {S} o e st (Put ErrorOutput b) d r d1 x h s = (
  in_world (wrote ErrorOutput b x.world) x,
  refl,
  subst (λ (z : PlainState S). Shows o e st z (in_world (wrote ErrorOutput b x.world) x)) (sym h.0)
      (record {
        heap = s.heap;
        made = s.made;
        started = s.started;
        input = s.input;
        ends = s.ends;
        out = s.out;
        err =
            ap (λ l. grown l b) s.err ∙ grown_then e x.world.err b;
        mid = s.mid;
      }),
)
act_shown {S} o e st (Take most) d l d1 x h s = (
  in_world (took l x.world) x,
  (subst (λ (i : Option (List ℕ)). IsLine i most l) (sym s.input) h.0, refl),
  subst (λ (z : PlainState S). Shows o e st z (in_world (took l x.world) x)) (sym h.2)
      (record {
        heap = s.heap;
        made = s.made;
        started = s.started;
        input = ap (λ i. shrunk i (length l)) s.input;
        ends = ap (ends_after l) s.ends;
        out =
            s.out;
        err = s.err;
        mid = s.mid;
      }),
)
act_shown {S} o e st MidLine d r d1 x h s = (
  in_world x.world x,
  (h.0 ∙ sym s.mid, refl),
  subst (λ (z : PlainState S). Shows o e st z (in_world x.world x)) (sym h.1)
      (record {
        heap = s.heap;
        made = s.made;
        started = s.started;
        input = s.input;
        ends = s.ends;
        out = s.out;
        err = s.err;
        mid =
            s.mid;
      }),
)
act_shown {S} o e st (SetMidLine mid) d r d1 x h s = (
  in_world (record x.world { mid = mid }) x,
  refl,
  subst (λ (z : PlainState S). Shows o e st z (in_world (record x.world { mid = mid }) x)) (sym h)
      (record {
        heap = s.heap;
        made = s.made;
        started = s.started;
        input = s.input;
        ends = s.ends;
        out = s.out;
        err = s.err;
        mid =
            refl;
      }),
)

-- what a call leaves alone
pub record Keeps {S : Type 0} (d d1 : PlainState S) : Type 0 where
  pub base : d1.base ≡ d.base
  pub kept : d1.kept ≡ d.kept
  pub was_left : d1.was_left ≡ d.was_left
  pub was_mid : d1.was_mid ≡ d.was_mid
  pub free : d1.free ≡ d.free
  pub bad : d1.bad ≡ d.bad
  pub names : d.free ≡ false → d1.made ++ d1.left ≡ d.made ++ d.left
  pub reads : d.reads ≤ d1.reads
  pub writes : d.writes ≤ d1.writes
  pub errs : d.errs ≤ d1.errs

pub keeps_refl : {S : Type 0} (d : PlainState S) → Keeps d d
keeps_refl d = record {
  base = refl;
  kept = refl;
  was_left = refl;
  was_mid = refl;
  free = refl;
  bad = refl;
  names =
      λ e. refl;
  reads = omega arith;
  writes = omega arith;
  errs = omega arith;
}

keeps_same : {S : Type 0} (d d1 : PlainState S) → d1 ≡ d → Keeps d d1
keeps_same {S} d d1 h = subst (λ (z : PlainState S). Keeps d z) (sym h) (keeps_refl d)

pub keeps_trans : {S : Type 0} (d d1 d2 : PlainState S) → Keeps d d1 → Keeps d1 d2 → Keeps d d2
keeps_trans d d1 d2 p q = record {
  base = q.base ∙ p.base;
  kept = q.kept ∙ p.kept;
  was_left = q.was_left ∙ p.was_left;
  was_mid = q.was_mid ∙ p.was_mid;
  free = q.free ∙ p.free;
  bad = q.bad ∙ p.bad;
  names = λ e. q.names (p.free ∙ e) ∙ p.names e;
  reads = let x = p.reads in let y = q.reads in omega arith;
  writes = let x = p.writes in let y = q.writes in omega arith;
  errs = let x = p.errs in let y = q.errs in omega arith;
}

named_rest : (free : Bool) (n : ℕ) (made left left1 : List ℕ) → Named free n left left1 → free ≡ false →
    (made ++ n ∷ []) ++ left1 ≡ made ++ left
named_rest true n made left left1 h e = cc
named_rest false n made left left1 h e = append_assoc made (n ∷ []) left1 ∙ ap (λ l. made ++ l) (sym h)

pub act_keeps : {S : Type 0} (c : Call S) (d : PlainState S) (r : Reply c) (d1 : PlainState S) → PlainDoes c d r d1 →
    Keeps d d1
act_keeps (Read a) d r d1 h = keeps_same d d1 h.1
act_keeps (Find a key) d r d1 h = keeps_same d d1 h.4
act_keeps {S} (Edit a c) d r d1 h = subst (λ (z : PlainState S). Keeps d z) (sym h.3)
    (record {
      base = refl;
      kept = refl;
      was_left = refl;
      was_mid = refl;
      free = refl;
      bad = refl;
      names = λ e. refl;
      reads = omega arith;
      writes = omega arith;
      errs = omega arith;
    })
act_keeps {S} (Make q) d n d1 h = record {
  base = ap (λ z. z.base) h.2;
  kept = ap (λ z. z.kept) h.2;
  was_left = ap (λ z. z.was_left) h.2;
  was_mid = ap (λ z. z.was_mid) h.2;
  free = ap (λ z. z.free) h.2;
  bad = ap (λ z. z.bad) h.2;
  names = λ e. ap (λ z. z.made ++ d1.left) h.2 ∙ named_rest d.free n d.made d.left d1.left h.0 e;
  reads = let x : d1.reads ≡ d.reads = ap (λ z. z.reads) h.2 in omega arith;
  writes = let x : d1.writes ≡ d.writes = ap (λ z. z.writes) h.2 in omega arith;
  errs = let x : d1.errs ≡ d.errs = ap (λ z. z.errs) h.2 in omega arith;
}
act_keeps {S} (Start s) d r d1 h = subst (λ (z : PlainState S). Keeps d z) (sym h)
    (record {
      base = refl;
      kept = refl;
      was_left = refl;
      was_mid = refl;
      free = refl;
      bad = refl;
      names = λ e. refl;
      reads = omega arith;
      writes = omega arith;
      errs = omega arith;
    })
act_keeps {S} (Put Output b) d r d1 h = let w = h.1 in
    subst (λ (z : PlainState S). Keeps d z) (sym h.0)
    (record {
      base = refl;
      kept = refl;
      was_left = refl;
      was_mid = refl;
      free = refl;
      bad = refl;
      names = λ e. refl;
      reads = omega arith;
      writes = w;
      errs = omega arith;
    })
act_keeps {S} (Put ErrorOutput b) d r d1 h = let w = h.1 in
    subst (λ (z : PlainState S). Keeps d z) (sym h.0)
    (record {
      base = refl;
      kept = refl;
      was_left = refl;
      was_mid = refl;
      free = refl;
      bad = refl;
      names = λ e. refl;
      reads = omega arith;
      writes = omega arith;
      errs = w;
    })
act_keeps {S} (Take most) d r d1 h = let w = h.3 in
    subst (λ (z : PlainState S). Keeps d z) (sym h.2)
    (record {
      base = refl;
      kept = refl;
      was_left = refl;
      was_mid = refl;
      free = refl;
      bad = refl;
      names = λ e. refl;
      reads = w;
      writes = omega arith;
      errs = omega arith;
    })
act_keeps MidLine d r d1 h = keeps_same d d1 h.1
act_keeps {S} (SetMidLine b) d r d1 h = subst (λ (z : PlainState S). Keeps d z) (sym h)
    (record {
      base = refl;
      kept = refl;
      was_left = refl;
      was_mid = refl;
      free = refl;
      bad = refl;
      names = λ e. refl;
      reads = omega arith;
      writes = omega arith;
      errs = omega arith;
    })

module _ {S X A : Type 0} (u : Sense S X) (b : Bracket S X) (D : X → PlainState S) (k : IsPlain u b D) where
  pub run_shown : (o e : Option (List ℕ)) (st : List S) (row : Row S A) (v : X) (a : A) (w : X) (x : Sight S) →
      Run u row v a w → Shows o e st (D v) x → (y : Sight S) × Does row x a y × Shows o e st (D w) y
  run_shown o e st row v a w x h s = run_follows u pure (λ v x. Shows o e st (D v) x)
      (record { call = λ c v r w x d s. act_shown o e st c (D v) r (D w) x (k.does c v r w d) s }) row v a w x h s

  pub upto_shown : (o e : Option (List ℕ)) (st : List S) (row q : Row S A) (v w : X) (x : Sight S) → Upto u row v q w →
      Shows o e st (D v) x → (y : Sight S) × Upto pure row x q y × Shows o e st (D w) y
  upto_shown o e st row q v w x h s = upto_follows u pure (λ v x. Shows o e st (D v) x)
      (record { call = λ c v r w x d s. act_shown o e st c (D v) r (D w) x (k.does c v r w d) s }) row v q w x h s

  pub run_keeps : (row : Row S A) (v : X) (a : A) (w : X) → Run u row v a w → Keeps (D v) (D w)
  run_keeps row v a w h = run_steps u (λ v w. Keeps (D v) (D w)) (λ v. keeps_refl (D v))
      (λ v m w. keeps_trans (D v) (D m) (D w)) (λ c v r w d. act_keeps c (D v) r (D w) (k.does c v r w d)) row v a w h

  pub upto_keeps : (row q : Row S A) (v w : X) → Upto u row v q w → Keeps (D v) (D w)
  upto_keeps row q v w h = upto_steps u (λ v w. Keeps (D v) (D w)) (λ v. keeps_refl (D v))
      (λ v m w. keeps_trans (D v) (D m) (D w)) (λ c v r w d. act_keeps c (D v) r (D w) (k.does c v r w d)) row v q w h

pub run_upto : {S X A : Type 0} (u : Sense S X) (row : Row S A) (v : X) (a : A) (w : X) → Run u row v a w →
    Upto u row v (Ret a) w
unfolding Run Upto
run_upto u (Ret x) v a w h = (ap Ret h.0, h.1)
run_upto u (Do c f) v a w h = inr (h.0, h.1, h.2, run_upto u (f h.0) h.1 a w h.3)

pub upto_none : {S X A : Type 0} (u : Sense S X) (row : Row S A) (v : X) → Upto u row v row v
unfolding Upto
upto_none u (Ret x) v = (refl, refl)
upto_none u (Do c f) v = inl (refl, refl)

-- a row that asks nothing is done, and leaves what it began with
pub done_pure : {S A : Type 0} (row : Row S A) (s : Sight S) (a : A) → row ≡ Ret a → Does row s a s
unfolding Run
done_pure row s a e = subst (λ r. Does r s a s) (sym e) (refl, refl)
