-- How a core begins, and what it leaves at its end.
use Rattle.std.proofs.Common.{◌≡◌, ◌⊎◌, ◌<◌, ◌+◌, ℕ, zero, suc, false, eqb, ltb, List, [], ◌∷◌, ◌++◌, slice_get, Option, Some, None, refl, sym, ◌∙◌, ap, subst, inl, inr, arith, append-nil}
use Rattle.std.specs.List.{sum_by}
use Rattle.std.proofs.lemmas.Bool.{cases_Bool, both_ways, or_parts, eqb-false, cond-true, cond-false, ltb-true, ltb-false}
use Rattle.std.proofs.lemmas.List.Sums.{sum_by-cons}
use Rattle.py_data.specs.Heap.{Heap, no_records}
use Rattle.py_data.specs.World.{grown}
use Rattle.lock_run.specs.RunState.{first_world}
use Rattle.py_data.specs.Sight.{mem}
use Rattle.lock_run.specs.Prog.{Prog}
use Rattle.seg_store.specs.Meaning.{Part, Meaning, holds}
use Rattle.stm_segment.specs.declared.books.Hand.{Hand}
use Rattle.stm_segment.specs.declared.books.Hand.TheVariants.{Idle as IdleHand, Doomed as DoomedHand, Runs}
use Rattle.stm_segment.specs.declared.books.Books.{Books}
use Rattle.stm_segment.specs.CoreState.{no_world, Idle, CoreState, core_new, with_segment}
use Rattle.stm_segment.specs.Books.{Worlds, broken_of, AllIdle, IsFirst, is_running, runs_at, one_running, one_started, segment_of, core_of}
use Rattle.stm_core.specs.inner.Whole.{Whole}
use Rattle.stm_core.specs.Outside.{outer_new}
use Rattle.stm_segment.specs.Devices.{DeviceState, CountsGrow}
use Rattle.stm_core.specs.SaneCore.{StandsFor, CauseRose, SaneCore}
use Rattle.stm_core.specs.Finishing.{idle_core, IsUnused}
use Rattle.stm_core.proofs.OutsideLemmas.{kept_new}
use Rattle.stm_core.proofs.Beginning.{beyond, mem_none}

-- ---- empty hands

pub get_push : {X : Type 0} (xs : List X) (y : X) (j : ℕ) (x : X) → slice_get (xs ++ y ∷ []) j ≡ Some x →
    (slice_get xs j ≡ Some x) ⊎ (x ≡ y)
get_push [] y zero x e = let same : y ≡ x = cc in inr (sym same)
get_push [] y (suc j) x e = absurd cc
get_push (z ∷ xs) y zero x e = inl e
get_push (z ∷ xs) y (suc j) x e = get_push xs y j x e

pub push_idle : {S : Type 0} (hs : List (Hand S)) → AllIdle hs → AllIdle (hs ++ IdleHand ∷ [])
push_idle hs all j h e = elim (get_push hs IdleHand j h e) [
  | inl x ↦ all j h x
  | inr x ↦ x
]

sum_idle : {S : Type 0} (f : Hand S → ℕ) → f IdleHand ≡ 0 → (hs : List (Hand S)) → AllIdle hs → sum_by f hs ≡ 0
sum_idle f z [] all = refl
sum_idle f z (h ∷ hs) all =
    let s = sum_by-cons f h hs in
    let r = sum_idle f z hs (λ j x e. all (suc j) x e) in
    let n : f h ≡ 0 = ap f (all 0 h refl) ∙ z in
    omega (arith, s, r, n)

-- nothing more is told
grown_none : (o : Option (List ℕ)) → o ≡ grown o []
grown_none None = refl
grown_none (Some xs) = ap Some (sym (append-nil xs))

-- ---- a new core

module _ {S : Type 0} (p : Prog S) (m : Meaning) (b : Books S) (e : (a : ℕ) → m.image a ≡ None)
    (changed : (j : ℕ) → (m.part j).changed ≡ []) (made : (j : ℕ) → (m.part j).made ≡ []) (n : IsFirst p m.segments b)
  where
    pub new_whole : Whole m b
    new_whole =
        let r = sum_idle one_running refl b.hands.items n.idle in
        let s = sum_idle one_started refl b.hands.items n.idle in
        let q = n.pending in
        record {
          hands = n.hands;
          holders = λ j a h. absurd (both_ways false refl
              (sym (ap (λ (z : List ℕ). holds (record (m.part j) { changed = z }) a) (changed j) ∙
              ap (λ (z : List ℕ). mem a z) (made j)) ∙ h));
          works = λ j x e. absurd (let u : Runs x ≡ IdleHand = n.idle j (Runs x) e in cc);
          locked = λ j a h. absurd (both_ways false refl (sym (ap (mem a) (changed j)) ∙ h));
          turns = omega (arith, r);
          losses = omega (arith, r);
          pending = omega (arith, s, q);
          threads = omega (arith, q);
        }

    pub core_is_new : (w : Worlds) → core_of w m b ≡ core_new p w.committed
    core_is_new w i = record {
      image = λ a. e a i;
      threads = n.threads i;
      world = w.committed;
      history = n.history i;
      conflicts = n.conflicts i;
      begun = n.begun i;
      last = n.last i;
      cause = n.cause i;
      segments = λ j. same j (slice_get b.hands.items j) refl i;
    }
      where
        same : (j : ℕ) (o : Option (Hand S)) → slice_get b.hands.items j ≡ o →
            segment_of w.own (m.part j) (slice_get b.hands.items j) ≡ Idle
        same j None e = ap (segment_of w.own (m.part j)) e
        same j (Some h) e = ap (segment_of w.own (m.part j)) (e ∙ ap Some (n.idle j h e))

    -- it stands for the core as it is made
    new_stands : (most : ℕ) (d : DeviceState) → d.mid ≡ false →
        StandsFor p most d d m b (outer_new (core_new p (first_world d.input d.ends)))
    new_stands most d dry =
        let w : Worlds = record { committed = first_world d.input d.ends; own = no_world } in
        record {
          worlds = w;
          core = sym (core_is_new w);
          broken = sym (ap broken_of n.broken);
          tells = record { input = refl; ends = refl; out = grown_none d.out; err = grown_none d.err };
          mid = λ e. sym dry;
          kept = kept_new p (first_world d.input d.ends) most;
        }

    -- for devices that are as they were when it was made
    module _ (most : ℕ) (first d : DeviceState) (same : first ≡ d) (dry : d.mid ≡ false) where
      pub stands_first : StandsFor p most first d m b (outer_new (core_new p (first_world d.input d.ends)))
      stands_first = subst (λ z. StandsFor p most z d m b
          (outer_new (core_new p (first_world d.input d.ends)))) (sym same)
          (new_stands most d dry)

      pub new_sane : (sound : Heap → List S → Type 0) → sound no_records (p.first ∷ []) →
          SaneCore p sound most first d m b
      new_sane sound h = record {
        first_sound = h;
        state = outer_new (core_new p (first_world d.input d.ends));
        stands = stands_first;
        counts = subst (λ z. CountsGrow z d) (sym same)
            (record { reads = omega arith; writes = omega arith; errs = omega arith });
        rose = subst (λ z. CauseRose z first d) (sym n.cause) tt;
      }

-- ---- what runs is dropped

pub still_idle : {S : Type 0} (k i : ℕ) (c : CoreState S) → (i < k → c.segments i ≡ Idle) → i < k + 1 →
    (with_segment k Idle c).segments i ≡ Idle
still_idle k i c h lt = elim (cases_Bool (eqb i k)) [
  | inl y ↦ cond-true (eqb i k) Idle (c.segments i) y
  | inr n ↦ let d = eqb-false i k n in cond-false (eqb i k) Idle (c.segments i) n ∙ h (omega (arith, d, lt))
]

module _ {S : Type 0} (m : Meaning) (b : Books S) (h : Whole m b) (idle : (w : Worlds) (i : ℕ) → i < m.segments →
    (core_of w m b).segments i ≡ Idle) where
  idle_there : (w : Worlds) (i : ℕ) → (core_of w m b).segments i ≡ Idle
  idle_there w i = elim (cases_Bool (ltb i m.segments)) [
    | inl y ↦ idle w i (ltb-true i m.segments y)
    | inr n ↦ let le = ltb-false i m.segments n in let q = h.hands in
        ap (segment_of w.own (m.part i)) (beyond b.hands.items i (omega (arith, le, q)))
  ]

  pub core_idle : (w : Worlds) → core_of w m b ≡ idle_core (core_of w m b)
  core_idle w i = record (core_of w m b) { segments = λ j. idle_there w j i }

  resting : (w : Worlds) (q : Part) (o : Option (Hand S)) → segment_of w.own q o ≡ Idle → is_running o ≡ false
  resting w q None e = refl
  resting w q (Some IdleHand) e = refl
  resting w q (Some (DoomedHand f)) e = refl
  resting w q (Some (Runs x)) e = absurd cc

  pub unused : (w : Worlds) (j : ℕ) → IsUnused (m.part j)
  unused w j =
      let none : (a : ℕ) → holds (m.part j) a ≡ false = λ a. elim (cases_Bool (holds (m.part j) a)) [
        | inl y ↦ absurd (both_ways (runs_at b.hands.items j)
            (resting w (m.part j) (slice_get b.hands.items j) (idle_there w j)) (h.holders j a y))
        | inr n ↦ n
      ] in (
        mem_none (m.part j).changed (λ a. (or_parts (mem a (m.part j).changed) (mem a (m.part j).made) (none a)).0),
        mem_none (m.part j).made (λ a. (or_parts (mem a (m.part j).changed) (mem a (m.part j).made) (none a)).1),
      )
