-- Changes of records that a segment holds.
use Rattle.std.proofs.Common.{◌≡◌, ◌⊎◌, ◌≤◌, ℕ, true, false, eqb, List, Option, Some, None, Result, Ok, Err, OnOk, OnErr, IfErr, refl, sym, ◌∙◌, ap, subst, inl, inr, IsSome, unwrap_or}
use Rattle.std.proofs.lemmas.Bool.{both_ways, or_cases, or_left, eqb-true, eq-eqb}
use Rattle.py_data.specs.declared.stop.Side.{Side}
use Rattle.stm_segment.specs.declared.halt.Halt.{Halt}
use Rattle.stm_segment.specs.declared.halt.LastStop.{LastStop}
use Rattle.stm_segment.specs.declared.halt.Halt.TheVariants.{Lost, OutOfMemory}
use Rattle.py_data.specs.declared.change.Change.{Change}
use Rattle.py_data.specs.Changes.{after, Allows, Outgrows}
use Rattle.py_data.specs.Heap.{Rec, Heap, Has, at, is_tracked, put_at, blank}
use Rattle.py_data.specs.Sight.{edited, mem, with_mark}
use Rattle.py_data.specs.Row.{Edit}
use Rattle.py_data.specs.Sense.{IfThere}
use Rattle.py_data.proofs.Grow.{for_tracked}
use Rattle.seg_store.specs.declared.store.StoreFault.{StoreFault}
use Rattle.seg_store.specs.declared.store.StoreFault.TheVariants.{Full as FullStore, OutOfMemory as NoMemoryLeft}
use Rattle.seg_store.specs.Meaning.{Part, Meaning, sees, holds, with_part}
use Rattle.seg_store.specs.Calls.{changed, after_change}
use Rattle.seg_store.specs.Store.{CanChange, IsFull, Refuses}
use Rattle.seg_store.specs.Asking.{AsksFor}
use Rattle.seg_store.specs.Extents.{Wants}
use Rattle.stm_segment.specs.Asking.{ChangeWants}
use Rattle.seg_store.proofs.Sees.{own_part, change_shows}
use Rattle.stm_segment.specs.declared.books.Progress.{Progress}
use Rattle.stm_segment.specs.declared.books.Books.{Books}
use Rattle.stm_segment.specs.declared.books.Hand.{Hand}
use Rattle.stm_segment.specs.Books.{runs_at, Fit}
use Rattle.stm_segment.specs.inner.Halts.{gave}
use Rattle.stm_segment.specs.inner.Hold.{Hold, sight, Beside, Holds, Fails, FailWhy, SegDoes, SegRefuses, SegWhy, FaultWhy, holding, halt_of}
use Rattle.stm_segment.proofs.Holding.{beside_then, beside_own}
use Rattle.stm_segment.proofs.Seeing.{refused_alone}
use Rattle.stm_segment.proofs.Fits.{fit_own}

-- a change keeps store and books fitting
pub fit_change : {S : Type 0} (k a : ℕ) (f : Rec → Rec) (m : Meaning) (b : Books S) (p : Progress S) → Fit k m b p →
    Fit k (after_change k a f m) b p
fit_change k a f m b p h = fit_own k m (changed a (f (at (sees m k) a)) (m.part k)) b p p h h.own_names h.kept_names
    h.within (λ c l. h.locked k c l) refl

pub fit_change_result : {S E : Type 0} (x : Result (Unit {0}) E) (k a : ℕ) (f : Rec → Rec) (m m1 : Meaning)
    (b : Books S) (p : Progress S) → Fit k m b p → OnOk x (m1 ≡ after_change k a f m) → OnErr x (m1 ≡ m) → Fit k m1 b p
fit_change_result (Ok u) k a f m m1 b p h ok err = subst (λ z. Fit k z b p) (sym ok) (fit_change k a f m b p h)
fit_change_result (Err u) k a f m m1 b p h ok err = subst (λ z. Fit k z b p) (sym err) h

-- ---- the record that a change is made of

-- a change can be made of a record that is there, which is tracked
pub record Ready (c : Change) (h : Heap) (a : ℕ) : Type 0 where
  pub entry : Rec
  pub is : h a ≡ Some entry
  pub there : Has h a
  pub at_is : at h a ≡ entry
  pub tracked : is_tracked (at h a).kind ≡ true
  pub allows : Allows c entry

-- what a condition says of the record that is there
of_there : (h : Heap) (a : ℕ) (P : Rec → Type 0) → IfThere false (h a) P → (r : Rec) × (h a ≡ Some r) × P r
of_there h a P t = go (h a) refl t
  where
    go : (o : Option Rec) → h a ≡ o → IfThere false o P → (r : Rec) × (h a ≡ Some r) × P r
    go None e x = absurd (both_ways false refl x)
    go (Some r) e x = (r, e, x)

pub can_ready : (c : Change) (h : Heap) (a : ℕ) → CanChange h a c → Ready c h a
unfolding at
can_ready c h a t =
    let r = of_there h a _ t in
    let e : at h a ≡ r.0 = ap (λ o. unwrap_or o blank) r.1 in
    record {
      entry = r.0;
      is = r.1;
      there = subst IsSome (sym r.1) refl;
      at_is = e;
      tracked =
          ap (λ (q : Rec). is_tracked q.kind) e ∙ for_tracked c r.0.kind r.2.0.0;
      allows = r.2.0;
    }

-- ---- a change that was done

-- what a change of a held record leaves beside
pub beside_change : {S : Type 0} {asks : ℕ → Type 0} (k : ℕ) (me : Side) (a : ℕ) (f : Rec → Rec) (d e e2 : Hold S) →
    runs_at e.books.hands.items k ≡ false → Beside k me asks d e
    → e2.meaning ≡ after_change k a f e.meaning → e.reserved ≤ e2.reserved → e2.books ≡ e.books →
    e2.progress ≡ e.progress → Beside k me asks d e2
beside_change {S} {asks} k me a f d e e2 out g em er eb ep =
    let q = changed a (f (at (sees e.meaning k) a)) (e.meaning.part k) in
    let own : Beside k me asks e (holding (with_part k q e.meaning) e2.reserved e.books e.progress e2.last) =
    beside_own k me e.meaning q e.reserved e2.reserved e.books e.progress e.last e2.last out er refl refl
    (λ c h. h) (λ c h. h) in
    beside_then k me d e e2 g (subst (λ z. Beside k me asks e (holding z e2.reserved e2.books e2.progress e2.last))
    (sym em) (subst (λ z. Beside k me asks e
    (holding (after_change k a f e.meaning) e2.reserved z e2.progress e2.last)) (sym eb)
    (subst (λ z. Beside k me asks e (holding (after_change k a f e.meaning) e2.reserved e.books z e2.last)) (sym ep)
    own)))

-- the sight once the record was held and changed
pub change_done : {S : Type 0} (k : ℕ) (me : Side) (a : ℕ) (c : Change) (d e e2 : Hold S) →
    CanChange (sees d.meaning k) a c → d.last.stopped ≡ None → runs_at e.books.hands.items k ≡ false → Holds k me a d e
    → e2.meaning ≡ after_change k a (after c) e.meaning → e.reserved ≤ e2.reserved → e2.books ≡ e.books →
    e2.progress ≡ e.progress → e2.last ≡ e.last → SegDoes k me (Edit a c) d tt e2
change_done {S} k me a c d e e2 can live out h em er eb ep es =
    let r = can_ready c (sees d.meaning k) a can in
    let s = change_shows k a (after c) e.meaning in
    let same_at : at (sees e.meaning k) a ≡ r.entry = ap (λ z. at z a) h.shown ∙ r.at_is in
    let part : (e2.meaning.part k) ≡ changed a (after c (at (sees e.meaning k) a)) (e.meaning.part k) =
    ap (λ (z : Meaning). z.part k) em ∙
    own_part k (changed a (after c (at (sees e.meaning k) a)) (e.meaning.part k)) e.meaning in
    let heap : sees e2.meaning k ≡ put_at (sees d.meaning k) a (after c r.entry) =
    ap (λ z. sees z k) em ∙ s.seen ∙ ap (λ z. put_at z a (after c (at (sees e.meaning k) a))) h.shown ∙
    ap (λ z. put_at (sees d.meaning k) a (after c z)) same_at in
    let looked : (e2.meaning.part k).looked ≡ with_mark a (d.meaning.part k).looked = ap (λ (z : Part). z.looked) part
    ∙ h.looked in
    let touched : holds (e2.meaning.part k) ≡ with_mark a (holds (d.meaning.part k)) = ap (λ (z : Part). holds z) part
    ∙ h.touched in
    let made : (e2.meaning.part k).made ≡ (d.meaning.part k).made = ap (λ (z : Part). z.made) part ∙ h.made in
    let started : e2.progress.started ≡ d.progress.started = ap (λ (z : Progress S). z.started) (ep ∙ h.progress) in
    let sights : sight k e2 ≡ edited a (after c r.entry) (sight k d) = λ i.
    record (sight k e2) {
      heap = heap i;
      looked = looked i;
      touched = touched i;
      made = made i;
      started =
          started i;
    } in (
      (r.entry, r.is, r.allows, sights),
      beside_change k me a (after c) d e e2 out h.beside em er eb ep,
      ap (λ z. z.stopped) (es ∙ h.last) ∙ live,
    )

-- ---- a change that was refused

-- what two clauses say of an error
pub err_both : {T E : Type 0} {P Q R : E → Type 0} (r : Result T E) → ((e : E) → P e → Q e → R e) → IfErr r P →
    IfErr r Q → IfErr r R
err_both (Ok x) f p q = tt
err_both (Err e) f p q = f e p q

-- what a store says of its refusal of a change
pub wants_more : (c : Change) (h : Heap) (a : ℕ) (fills : ℕ → ℕ → Type 0) (r l : ℕ) (x : StoreFault) →
    Refuses (IsFull h a c) fills r l x → AsksFor (h a) (after c (at h a)) x → FaultWhy (ChangeWants c h a) r l x
unfolding at
wants_more c h a fills r l NoMemoryLeft w s = tt
wants_more c h a fills r l (FullStore u n k) w s = (go (h a) w.0 s, w.2, w.3, w.4)
  where
    go : (o : Option Rec) → IfThere false o (Outgrows c) → Wants o (after c (unwrap_or o blank)) n →
        IfThere false o (λ q. Outgrows c q × Wants (Some q) (after c q) n)
    go None f g = f
    go (Some q) f g = (f, g)

-- the Halt of a store's fault has its cause
fault_why : {S : Type 0} (k : ℕ) (me : Side) (a : ℕ) (c : Change) (m : Meaning) (h : Heap) (r : ℕ) (b : Books S)
    (p : Progress S) (o : LastStop) (x : StoreFault) → FaultWhy (ChangeWants c h a) r m.limit x →
    SegWhy k me (halt_of x) (Edit a c) h (holding m r b p o)
fault_why k me a c m h r b p o (FullStore u n l) w = w
fault_why k me a c m h r b p o NoMemoryLeft w = tt

-- the store refused the change of a record that was held
pub change_refused : {S : Type 0} (k : ℕ) (me : Side) (a : ℕ) (c : Change) (d e e2 : Hold S) (x : StoreFault) →
    Holds k me a d e → e2.meaning ≡ e.meaning → e.reserved ≤ e2.reserved → e2.books ≡ e.books →
    e2.progress ≡ e.progress
    → e2.last ≡ gave (halt_of x) → FaultWhy (ChangeWants c (sees e.meaning k) a) e2.reserved e.meaning.limit x
    → SegRefuses k me (Edit a c) d e2.last.halt e2
change_refused {S} k me a c d e e2 x h em er eb ep eo why =
    let s = halt_of x in
    let w : SegWhy k me s (Edit a c) (sees e.meaning k) (holding e.meaning e2.reserved e.books e.progress (gave s)) =
    fault_why k me a c e.meaning (sees e.meaning k) e2.reserved e.books e.progress (gave s) x why in
    let last = refused_alone k me (Edit a c) e.meaning e2.meaning e.reserved e2.reserved e.books e2.books e.progress
    e2.progress e.last e2.last s em er eb ep eo w in
    subst (λ z. SegRefuses k me (Edit a c) d z e2) (sym (ap (λ z. z.halt) eo))
    (record {
      last = eo;
      beside = beside_then k me d e e2 h.beside last.beside;
      why = subst (λ z. SegWhy k me s (Edit a c) z e2) h.shown last.why;
      looked = λ b l. marks b (ap (λ (z : Meaning). (z.part k).looked b) (sym em) ∙ l);
      locks = λ b l. h.locks b (ap (λ (z : Meaning). mem b (z.part k).changed) (sym em) ∙ l);
    })
  where
    marks : (b : ℕ) → (e.meaning.part k).looked b ≡ true → ((d.meaning.part k).looked b ≡ true) ⊎ (Some a ≡ Some b)
    marks b l = elim (or_cases (eqb b a) ((d.meaning.part k).looked b) (sym (ap (λ f. f b) h.looked) ∙ l))
        [ inl y ↦ inr (ap Some (sym (eqb-true b a y))) | inr y ↦ inl y ]

-- a record that can't be held can't be changed
pub hold_refused : {S : Type 0} (k : ℕ) (me : Side) (a : ℕ) (c : Change) (d : Hold S) (s : Halt) (e : Hold S) →
    Fails k me a d s e → SegRefuses k me (Edit a c) d s e
hold_refused {S} k me a c d s e f = record {
  last = f.last;
  beside = f.beside;
  why = reason s f.why;
  looked = λ b l. elim (f.looked b l) [ inl x ↦ inl x | inr x ↦ inr (ap Some (sym x)) ];
  locks = f.locks;
}
  where
    reason : (z : Halt) → FailWhy k me a z e → SegWhy k me z (Edit a c) (sees d.meaning k) e
    reason (Lost q) w = w
    reason OutOfMemory w = tt
    reason _ w = absurd w

-- ---- the same segment, by another name

pub change_held_at : (k k1 a : ℕ) (m m1 : Meaning) → k1 ≡ k → holds (m1.part k) ≡ with_mark a (holds (m.part k)) →
    holds (m1.part k1) a ≡ true
change_held_at k k1 a m m1 e h = ap (λ z. holds (m1.part z) a) e ∙ ap (λ f. f a) h ∙
    or_left (eqb a a) (holds (m.part k) a) (eq-eqb a a refl)

pub can_moved : (k k1 a : ℕ) (c : Change) (m m1 : Meaning) → k1 ≡ k → sees m1 k ≡ sees m k → CanChange (sees m k) a c →
    CanChange (sees m1 k1) a c
can_moved k k1 a c m m1 e h t = subst (λ z. CanChange (sees m1 z) a c) (sym e) (subst (λ z. CanChange z a c) (sym h) t)

pub runs_moved : {S : Type 0} (hs : List (Hand S)) (k1 k : ℕ) → k1 ≡ k → runs_at hs k1 ≡ false → runs_at hs k ≡ false
runs_moved hs k1 k e h = subst (λ z. runs_at hs z ≡ false) e h

pub after_moved : (k k1 a : ℕ) (f : Rec → Rec) (m m1 : Meaning) → k1 ≡ k → m1 ≡ after_change k1 a f m →
    m1 ≡ after_change k a f m
after_moved k k1 a f m m1 e h = subst (λ z. m1 ≡ after_change z a f m) e h
