-- A commit leaves each other transaction standing that has not looked at what it changed, and appends a turn.
use Rattle.std.proofs.Common.{◌≡◌, ◌≢◌, ◌≤◌, ℕ, zero, suc, true, false, List, [], ◌∷◌, ◌++◌, slice_get, slice_set, Some, refl, sym, ◌∙◌, ap, subst, inl, inr}
use Rattle.std.proofs.lemmas.Bool.{cases_Bool, both_ways, or_cases, or_right, or_left, cond-true, cond-false, false_from_ne_true}
use Rattle.py_data.specs.Heap.{Heap, is_tracked}
use Rattle.py_data.specs.World.{World}
use Rattle.py_data.specs.Collection.{places}
use Rattle.py_data.specs.Sight.{opened, mem}
use Rattle.py_data.specs.Frames.{Mirrors, Agrees, plain}
use Rattle.py_data.proofs.Grow.{back}
use Rattle.lock_run.specs.Prog.{Prog}
use Rattle.lock_run.specs.Machine.{DoesTurn}
use Rattle.lock_run.proofs.StepsMirror.{steps_grows, steps_mirror}
use Rattle.seg_store.specs.Meaning.{over, overlay}
use Rattle.stm_segment.specs.CoreState.{Transaction, owned, turn_of, world_after, threads_after}
use Rattle.stm_segment.proofs.Fits.{get_set_other}
use Rattle.stm_core.specs.Good.{Stands, Apart}

pub get_append : {X : Type 0} (xs ys : List X) (j : ℕ) (x : X) → slice_get xs j ≡ Some x →
    slice_get (xs ++ ys) j ≡ Some x
get_append [] ys j x h = absurd cc
get_append (y ∷ xs) ys zero x h = h
get_append (y ∷ xs) ys (suc j) x h = get_append xs ys j x h

-- what one segment owns, another that is apart from it has not touched
pub apart_untouched : {S : Type 0} (c : Prog S) (h : Heap) (ts : List S) (w : World) (x y : Transaction S) →
    (sx : Stands c h ts w x) → Stands c h ts w y → Apart x y
    → (a : ℕ) → owned y a ≡ true → sx.sight.touched a ≡ false
apart_untouched c h ts w x y sx sy p a o =
    false_from_ne_true (sx.sight.touched a)
    (λ e. elim (or_cases (mem a x.changed) (mem a (places x.made)) (sx.shows.touched a e)) [
      | inl xc ↦ elim (or_cases (mem a y.changed) (mem a (places y.made)) o) [
        | inl yc ↦ both_ways (mem a y.changed) (p.changed a xc) yc
        | inr ym ↦ let l = sx.shows.locked a xc in let n = sy.shows.unused a ym in let s = l.is in cc (n, s)
      ]
      | inr xm ↦ elim (or_cases (mem a y.changed) (mem a (places y.made)) o) [
        | inl yc ↦ let l = sy.shows.locked a yc in let n = sx.shows.unused a xm in let s = l.is in cc (n, s)
        | inr ym ↦ both_ways (mem a (places y.made)) (p.made a xm) ym
      ]
    ])

-- the new image at a place that the committed segment has not touched
pub image_kept : {S : Type 0} (c : Prog S) (h : Heap) (ts : List S) (w : World) (x : Transaction S) →
    (sx : Stands c h ts w x) → (a : ℕ) → sx.sight.touched a ≡ false → overlay h x.changes a ≡ h a
image_kept {S} c h ts w x sx a n = sym (sx.shows.view a) ∙
    (steps_grows c x.steps sx.before (opened S h w) x.state sx.sight sx.steps).same a n

pub opened_mirrors : {S : Type 0} (h h' : Heap) (w w' : World) → Mirrors (plain S h' w') (opened S h w) (opened S h' w')
opened_mirrors h h' w w' = record {
  inside = λ a e. absurd (both_ways false refl e);
  outside = λ a e. refl;
  looked = λ a e. e;
  looked_back = λ a e. e;
  touched = λ a e. e;
  used = λ e. e;
  world_used = λ e. absurd (both_ways false refl e);
  world_left = λ e. refl;
  made = refl;
  started = refl;
}

pub world_same : {S : Type 0} (w : World) (x y : Transaction S) → Apart x y → y.solo ≡ true → world_after w x ≡ w
world_same w x y p e = cond-false x.solo x.world w (false_from_ne_true x.solo (λ f. both_ways y.solo (p.solo f) e))

pub publish_agrees : {S : Type 0} (c : Prog S) (h : Heap) (ts : List S) (w : World) (x y : Transaction S) →
    (sx : Stands c h ts w x) → (sy : Stands c h ts w y) → Apart x y
    → ((a : ℕ) → mem a x.changed ≡ true → y.looked a ≡ false)
    → Agrees (overlay h x.changes) (world_after w x) (opened S h w) sy.sight
publish_agrees {S} c h ts w x y sx sy p unread =
    let gx = steps_grows c x.steps sx.before (opened S h w) x.state sx.sight sx.steps in
    let gy = steps_grows c y.steps sy.before (opened S h w) y.state sy.sight sy.steps in
    record {
      looked = λ a r e is f. elim (cases_Bool (is_tracked r.kind)) [
        | inl y' ↦ image_kept c h ts w x sx a
            (false_from_ne_true (sx.sight.touched a)
            (λ t. elim (or_cases (mem a x.changed) (mem a (places x.made)) (sx.shows.touched a t)) [
              | inl xc ↦ both_ways (y.looked a) (unread a xc) (sy.shows.looked a (f y'))
              | inr xm ↦ let n = sx.shows.unused a xm in cc (n, is)
            ])) ∙ is
        | inr n ↦ sym (sx.shows.view a) ∙ gx.fixed a r is n
      ];
      fresh = λ a e t is.
          let m : mem a (places y.made) ≡ true = subst (λ ns. mem a ns ≡ true) sy.shows.made (gy.fresh a e t is) in
          image_kept c h ts w x sx a (apart_untouched c h ts w x y sx sy p a
          (or_right (mem a y.changed) (mem a (places y.made)) m)) ∙ is;
      world = λ e u. elim (cases_Bool y.solo) [
        | inl s ↦ world_same w x y p s
        | inr n ↦ absurd (both_ways sy.sight.used (sy.shows.quiet n) u)
      ];
    }

pub publish_stands : {S : Type 0} (c : Prog S) (h : Heap) (ts : List S) (w : World) (x y : Transaction S) →
    Stands c h ts w x → Stands c h ts w y → Apart x y
    → ((a : ℕ) → mem a x.changed ≡ true → y.looked a ≡ false)
    → Stands c (overlay h x.changes) (threads_after ts x) (world_after w x) y
publish_stands {S} c h ts w x y sx sy p unread =
    let h' = overlay h x.changes in
    let w' = world_after w x in
    let gx = steps_grows c x.steps sx.before (opened S h w) x.state sx.sight sx.steps in
    let gy = steps_grows c y.steps sy.before (opened S h w) y.state sy.sight sy.steps in
    let m = steps_mirror (plain S h' w') c y.steps sy.before (opened S h w) (opened S h' w') y.state sy.sight sy.steps
    (opened_mirrors h h' w w') (publish_agrees c h ts w x y sx sy p unread) in
    let t = m.0 in
    let r = m.2 in
    let kept : (a : ℕ) → owned y a ≡ true → h' a ≡ h a = λ a o.
    image_kept c h ts w x sx a (apart_untouched c h ts w x y sx sy p a o) in
    record {
      before = sy.before;
      sight = t;
      is = get_append (slice_set ts x.thread x.state) x.started y.thread sy.before
          (get_set_other ts x.thread y.thread x.state p.threads ∙ sy.is);
      lives = sy.lives;
      steps = m.1;
      shows = record {
        view = λ a. elim (cases_Bool (owned y a)) [
          | inl o ↦ elim (cases_Bool (sy.sight.touched a)) [
            | inl yes' ↦ r.inside a yes' ∙ (sy.shows.view a ∙ ap (over (y.changes a)) (sym (kept a o)))
            | inr no' ↦ r.outside a no' ∙
                (kept a o ∙ (sym (gy.same a no') ∙ (sy.shows.view a ∙ ap (over (y.changes a)) (sym (kept a o)))))
          ]
          | inr o ↦ r.outside a (back (sy.sight.touched a) (owned y a) (sy.shows.touched a) o) ∙
              ap (λ e. over e (h' a)) (sym (sy.shows.within a o))
        ];
        made = sym r.made ∙ sy.shows.made;
        started = sym r.started ∙ sy.shows.started;
        looked = λ a e. sy.shows.looked a (r.looked a e);
        touched = λ a e. sy.shows.touched a (r.touched a e);
        within = sy.shows.within;
        locked = λ a e. let l = sy.shows.locked a e in
            record {
              entry = l.entry;
              is = kept a (or_left (mem a y.changed) (mem a (places y.made)) e) ∙ l.is;
              tracked = l.tracked;
              marked = l.marked;
            };
        unused = λ a e. kept a (or_right (mem a y.changed) (mem a (places y.made)) e) ∙ sy.shows.unused a e;
        world_is = λ s. elim (cases_Bool sy.sight.used) [
          | inl u ↦ r.world_used u ∙ sy.shows.world_is s
          | inr u ↦ r.world_left u ∙ (world_same w x y p s ∙ (sym (gy.world u) ∙ sy.shows.world_is s))
        ];
        quiet = λ s. back t.used sy.sight.used r.used (sy.shows.quiet s);
      };
    }

-- the turn that the commit appends
pub publish_turn : {S : Type 0} (c : Prog S) (h : Heap) (ts : List S) (w : World) (x : Transaction S) →
    Stands c h ts w x → 1 ≤ x.steps
    → DoesTurn c (record { heap = h; threads = ts; world = w }) (turn_of x)
    (record { heap = overlay h x.changes; threads = threads_after ts x; world = world_after w x })
publish_turn {S} c h ts w x sx some = record {
  before = sx.before;
  after = x.state;
  sight = sx.sight;
  is = sx.is;
  some = some;
  steps = sx.steps;
  names = sx.shows.made;
  gives = λ i. record {
    heap = λ a. sym (sx.shows.view a) i;
    threads = slice_set ts x.thread x.state ++ sym sx.shows.started i;
    world = sym new_world i;
  };
}
  where
    new_world : sx.sight.world ≡ world_after w x
    new_world = elim (cases_Bool x.solo) [
      | inl s ↦ sx.shows.world_is s ∙ sym (cond-true x.solo x.world w s)
      | inr n ↦ (steps_grows c x.steps sx.before (opened S h w) x.state sx.sight sx.steps).world (sx.shows.quiet n) ∙
          sym (cond-false x.solo x.world w n)
    ]
