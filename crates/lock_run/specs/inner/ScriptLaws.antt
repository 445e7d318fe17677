-- What code and proofs say to each other: nothing public rests on it.
-- The threads of a script keep the laws of clients.
use Rattle.std.specs.Prelude.{◌≡◌, ℕ, zero, suc, ◌+◌, Bool, true, false, List, [], ◌∷◌, ◌++◌, length, Option, Some, None, slice_get, slice_set, eqb, cond, ltb}
use Rattle.std.proofs.Common.{ap, refl, ◌∙◌, sym, subst, inl, inr}
use Rattle.std.proofs.lemmas.Bool.{cases_Bool, cond-true, cond-false, eqb-true}
use Rattle.std.proofs.lemmas.List.{length-set}
use Rattle.py_data.specs.declared.value.Addr.{Addr}
use Rattle.py_data.specs.declared.value.Value.{Value}
use Rattle.py_data.specs.declared.value.Value.TheVariants.{Int}
use Rattle.py_base.specs.declared.kind.Kind.{Kind}
use Rattle.py_base.specs.declared.kind.Kind.TheVariants.{Cell, List as ListKind}
use Rattle.py_data.specs.declared.record.TheConstants.{LENGTH_LIMIT}
use Rattle.py_data.specs.Heap.{Heap, Rec, put_at, no_records, with_value, with_push}
use Rattle.py_data.specs.Row.{Call, Reply, Row, Ret, Do, Edit, MidLine, bind}
use Rattle.py_data.specs.declared.change.Change.TheVariants as change
use Rattle.py_data.specs.Sense.{Run}
use Rattle.py_data.specs.Sight.{Sight, Does, opened, pure}
use Rattle.py_data.proofs.Rows.{bind_run}
use Rattle.py_data.proofs.Steps.{put_here}
use Rattle.lock_run.specs.declared.client.Outcome.{Outcome}
use Rattle.lock_run.specs.declared.client.Outcome.TheVariants.{Done, Ended, Waits}
use Rattle.lock_run.specs.declared.script.Act.{Act}
use Rattle.lock_run.specs.declared.script.Act.TheVariants.{Look, Set, Push as PushAct, Put as PutAct}
use Rattle.lock_run.specs.declared.script.ScriptState.{ScriptState}
use Rattle.lock_run.specs.declared.script.ScriptState.TheVariants.{Prelude, Acts, Over}
use Rattle.lock_run.specs.Client.{StaysSound, LifeAfter, TellsLife, WaitsQuietly}
use Rattle.py_data.specs.Steady.{WritesThen, AsksToPrint}
use Rattle.lock_run.specs.Script.{zero_cell, empty_list, with_cell, make_cells, start_threads, list_and_threads, prelude_row, look_row, set_row, push_row, act_row, act_at, now_done, at_act, script_row, script_life, script_prog, IsCell, IsList, Is, HasCells, HasList, IsStanding, AreStanding, ScriptSound}

-- ---- the first state over the empty heap
pub script_sound_first : ScriptSound no_records (Prelude ∷ [])
script_sound_first = record { all = (tt, tt) }

-- ---- what stays in a heap
some_same : (o : Option Rec) (r q : Rec) → o ≡ Some r → o ≡ Some q → r ≡ q
some_same o r q e f = let g : Some r ≡ Some q = sym e ∙ f in cc

none_there : (o : Option Rec) (r : Rec) → o ≡ None → o ≡ Some r → ⊥
none_there o r e f = let g : ◌≡◌ {A = Option Rec} None (Some r) = sym e ∙ f in cc

-- another record in the place of one
is_edited : (form : Rec → Type 0) (h : Heap) (a : ℕ) (r q : Rec) → h a ≡ Some r → (form r → form q) → (b : ℕ) →
    Is form h b → Is form (put_at h a q) b
is_edited form h a r q e f b i = elim (cases_Bool (eqb b a)) [
  | inl y ↦ record {
    rec = q;
    here = cond-true (eqb b a) (Some q) (h b) y;
    so = f (subst form (some_same (h b) i.rec r i.here (ap h (eqb-true b a y) ∙ e)) i.so);
  }
  | inr n ↦ record { rec = i.rec; here = cond-false (eqb b a) (Some q) (h b) n ∙ i.here; so = i.so }
]

-- a new record
is_made : (form : Rec → Type 0) (h : Heap) (a : ℕ) (q : Rec) → h a ≡ None → (b : ℕ) → Is form h b →
    Is form (put_at h a q) b
is_made form h a q e b i = elim (cases_Bool (eqb b a)) [
  | inl y ↦ absurd (none_there (h b) i.rec (ap h (eqb-true b a y) ∙ e) i.here)
  | inr n ↦ record { rec = i.rec; here = cond-false (eqb b a) (Some q) (h b) n ∙ i.here; so = i.so }
]

is_put : (form : Rec → Type 0) (h : Heap) (a : ℕ) (q : Rec) → form q → Is form (put_at h a q) a
is_put form h a q f = record { rec = q; here = put_here h a q; so = f }

-- Cells and Lists stay
pub record Stays (h h1 : Heap) : Type 0 where
  pub cells : (a : ℕ) → Is IsCell h a → Is IsCell h1 a
  pub lists : (a : ℕ) → Is IsList h a → Is IsList h1 a

stays_same : (h : Heap) → Stays h h
stays_same h = record { cells = λ a i. i; lists = λ a i. i }

stays_then : (h h1 h2 : Heap) → Stays h h1 → Stays h1 h2 → Stays h h2
stays_then h h1 h2 f g = record { cells = λ a i. g.cells a (f.cells a i); lists = λ a i. g.lists a (f.lists a i) }

stays_made : (h : Heap) (a : ℕ) (q : Rec) → h a ≡ None → Stays h (put_at h a q)
stays_made h a q e = record { cells = is_made IsCell h a q e; lists = is_made IsList h a q e }

cells_stay : (h h1 : Heap) (cells : List Addr) → Stays h h1 → HasCells h cells → HasCells h1 cells
cells_stay h h1 cells f c = record { each = λ k a e. f.cells a.0 (c.each k a e) }

list_stays : (h h1 : Heap) (list : Addr) → Stays h h1 → HasList h list → HasList h1 list
list_stays h h1 list f l = record { is = f.lists list.0 l.is }

-- ---- lists of states that stand over a heap
pub one_of : (h : Heap) (ss : List ScriptState) (t : ℕ) (s : ScriptState) → slice_get ss t ≡ Some s →
    AreStanding h ss → IsStanding h s
one_of h [] t s e l = absurd (cc)
one_of h (r ∷ ss) zero s e l = let q : r ≡ s = cc in subst (IsStanding h) q l.0
one_of h (r ∷ ss) (suc t) s e l = one_of h ss t s e l.1

one_stays : (h h1 : Heap) → Stays h h1 → (s : ScriptState) → IsStanding h s → IsStanding h1 s
one_stays h h1 f Prelude l = tt
one_stays h h1 f (Acts number done cells list) l = (cells_stay h h1 cells f l.0, list_stays h h1 list f l.1)
one_stays h h1 f Over l = tt

all_stay : (h h1 : Heap) → Stays h h1 → (ss : List ScriptState) → AreStanding h ss → AreStanding h1 ss
all_stay h h1 f [] l = tt
all_stay h h1 f (s ∷ ss) l = (one_stays h h1 f s l.0, all_stay h h1 f ss l.1)

all_and : (h : Heap) (ss rs : List ScriptState) → AreStanding h ss → AreStanding h rs → AreStanding h (ss ++ rs)
all_and h [] rs l m = m
all_and h (s ∷ ss) rs l m = (l.0, all_and h ss rs l.1 m)

all_set : (h : Heap) (ss : List ScriptState) (t : ℕ) (s : ScriptState) → AreStanding h ss → IsStanding h s →
    AreStanding h (slice_set ss t s)
all_set h [] t s l m = tt
all_set h (r ∷ ss) zero s l m = (m, l.1)
all_set h (r ∷ ss) (suc t) s l m = (l.0, all_set h ss t s l.1 m)

-- ---- the acts
-- Cells and Lists stay, and no thread is started
pub record Keeps {S : Type 0} (x y : Sight S) : Type 0 where
  pub stays : Stays x.heap y.heap
  pub started : y.started ≡ x.started

keeps_same : {S : Type 0} (x y : Sight S) → y.heap ≡ x.heap → y.started ≡ x.started → Keeps x y
keeps_same x y h s = record { stays = subst (Stays x.heap) (sym h) (stays_same x.heap); started = s }

was_looked_at : {S : Type 0} (o : Option Addr) (x y : Sight S) (u : Unit {0}) → Does (look_row o) x u y → Keeps x y
unfolding look_row Run
was_looked_at None x y u d = keeps_same x y (ap (λ z. z.heap) d.1) (ap (λ z. z.started) d.1)
was_looked_at (Some a) x y u d = let e = d.3.1 ∙ d.2.1 in keeps_same x y (ap (λ z. z.heap) e) (ap (λ z. z.started) e)

was_set : {S : Type 0} (o : Option Addr) (v : Value) (x y : Sight S) (u : Unit {0}) → Does (set_row o v) x u y →
    Keeps x y
unfolding set_row Run
was_set None v x y u d = keeps_same x y (ap (λ z. z.heap) d.1) (ap (λ z. z.started) d.1)
was_set (Some a) v x y u d =
    let e = d.2 in
    let q = with_value 0 v e.0 in
    subst (Keeps x) (sym (d.3.1 ∙ e.3)) (record {
      stays = record {
        cells = is_edited IsCell x.heap a.0 e.0 q e.1 (λ p. (p.0, length-set e.0.values 0 v ∙ p.1));
        lists = is_edited IsList x.heap a.0 e.0 q e.1 (λ p. p);
      };
      started = refl;
    })

no_cell : (k : Kind) → k ≡ ListKind → k ≡ Cell → ⊥
no_cell k e f = let q : ◌≡◌ {A = Kind} ListKind Cell = sym e ∙ f in cc

was_pushed : {S : Type 0} (b : Bool) (list : Addr) (v : Value) (x y : Sight S) (u : Unit {0}) →
    Does (cond b (Do (Edit list.0 (change.Push v)) (λ _. Ret tt)) (Ret tt)) x u y → Keeps x y
unfolding Run
was_pushed false list v x y u d = keeps_same x y (ap (λ z. z.heap) d.1) (ap (λ z. z.started) d.1)
was_pushed true list v x y u d =
    let e = d.2 in
    let q = with_push v e.0 in
    subst (Keeps x) (sym (d.3.1 ∙ e.3)) (record {
      stays = record {
        cells = is_edited IsCell x.heap list.0 e.0 q e.1 (λ p. absurd (no_cell e.0.kind e.2.0 p.0));
        lists = is_edited IsList x.heap list.0 e.0 q e.1 (λ p. p);
      };
      started = refl;
    })

keeps_later : {S : Type 0} (x m y : Sight S) → m.heap ≡ x.heap → m.started ≡ x.started → Keeps m y → Keeps x y
keeps_later x m y h s k = record { stays = subst (λ g. Stays g y.heap) h k.stays; started = k.started ∙ s }

was_done : {S : Type 0} (cells : List Addr) (list : Addr) (act : Act) (x y : Sight S) (u : Unit {0}) →
    Does (act_row cells list act) x u y → Keeps x y
unfolding push_row Run
was_done cells list (Look k) x y u d = was_looked_at (slice_get cells k) x y u d
was_done cells list (Set k n) x y u d = was_set (slice_get cells k) (Int n) x y u d
was_done cells list (PushAct n) x y u d =
    keeps_later x d.1 y (ap (λ z. z.heap) d.2.1) (ap (λ z. z.started) d.2.1)
    (was_pushed (ltb (length d.0.values) LENGTH_LIMIT) list (Int n) d.1 y u d.3)
was_done cells list (PutAct byte) x y u d = let e = d.3.1 ∙ d.2 in
    keeps_same x y (ap (λ z. z.heap) e) (ap (λ z. z.started) e)

-- ---- the step of thread 0
cells_pushed : (h : Heap) (a : ℕ) (cells : List Addr) → h a ≡ None → HasCells h cells →
    HasCells (put_at h a zero_cell) (with_cell cells a)
cells_pushed h a cells n c = record { each = λ k b e. last_or cells c k b e }
  where
    last_or : (cells : List Addr) → HasCells h cells → (k : ℕ) (b : Addr) → slice_get (with_cell cells a) k ≡ Some b →
        Is IsCell (put_at h a zero_cell) b.0
    last_or [] c zero b e = let q : record { 0 = a } ≡ b = cc in
        subst (λ (x : Addr). Is IsCell (put_at h a zero_cell) x.0) q (is_put IsCell h a zero_cell (refl, refl))
    last_or [] c (suc k) b e = absurd (cc)
    last_or (x ∷ cells) c zero b e = let q : x ≡ b = cc in
        is_made IsCell h a zero_cell n b.0 (c.each zero b (ap Some q))
    last_or (x ∷ cells) c (suc k) b e = last_or cells (record { each = λ j d f. c.each (suc j) d f }) k b e

cells_made : {S : Type 0} (n : ℕ) (cells made : List Addr) (x y : Sight S) → Does (make_cells n cells) x made y →
    HasCells x.heap cells → Keeps x y × HasCells y.heap made
unfolding make_cells Run
cells_made zero cells made x y d c = (
  keeps_same x y (ap (λ z. z.heap) d.1) (ap (λ z. z.started) d.1),
  subst (λ z. HasCells z.heap made) (sym d.1) (subst (HasCells x.heap) (sym d.0) c),
)
cells_made (suc n) cells made x y d c =
    let m = d.1 in
    let h : m.heap ≡ put_at x.heap d.0 zero_cell = ap (λ z. z.heap) d.2.1 in
    let more = cells_made n (with_cell cells d.0) made m y d.3
    (subst (λ g. HasCells g (with_cell cells d.0)) (sym h) (cells_pushed x.heap d.0 cells d.2.0 c)) in
    let first : Stays x.heap m.heap = subst (Stays x.heap) (sym h) (stays_made x.heap d.0 zero_cell d.2.0) in (
      record {
        stays = stays_then x.heap m.heap y.heap first more.0.stays;
        started = more.0.started ∙
            ap (λ z. z.started) d.2.1;
      },
      more.1,
    )

threads_started : (n number : ℕ) (cells : List Addr) (list : Addr) (x y : Sight ScriptState) (u : Unit {0}) →
    Does (start_threads n number cells list) x u y
    → HasCells x.heap cells → HasList x.heap list → AreStanding x.heap x.started →
    (y.heap ≡ x.heap) × AreStanding x.heap y.started
unfolding start_threads Run
threads_started zero number cells list x y u d c l a =
    (ap (λ z. z.heap) d.1, subst (λ (z : Sight ScriptState). AreStanding x.heap z.started) (sym d.1) a)
threads_started (suc n) number cells list x y u d c l a =
    let s : ScriptState = Acts number 0 cells list in
    let m : Sight ScriptState = record x { started = x.started ++ s ∷ [] } in
    threads_started n (number + 1) cells list m y u
    (subst (λ (z : Sight ScriptState). Does (start_threads n (number + 1) cells list) z u y) d.2 d.3) c l
    (all_and x.heap x.started (s ∷ []) a ((c, l), tt))

-- what a step leaves: Cells and Lists stay, and the thread's state and those of the threads that it started stand
pub record Stood (x y : Sight ScriptState) (s1 : ScriptState) : Type 0 where
  pub stays : Stays x.heap y.heap
  pub now : IsStanding y.heap s1
  pub started : AreStanding y.heap y.started

list_made : (count : ℕ) (cells : List Addr) (x y : Sight ScriptState) (u : Unit {0}) →
    Does (list_and_threads count cells) x u y → HasCells x.heap cells → x.started ≡ [] →
    Stays x.heap y.heap × AreStanding y.heap y.started
unfolding Run
list_made count cells x y u d c e =
    let m = d.1 in
    let list : Addr = record { 0 = d.0 } in
    let h : m.heap ≡ put_at x.heap d.0 empty_list = ap (λ z. z.heap) d.2.1 in
    let first : Stays x.heap m.heap = subst (Stays x.heap) (sym h) (stays_made x.heap d.0 empty_list d.2.0) in
    let there : HasList m.heap list = record
    { is = subst (λ g. Is IsList g d.0) (sym h) (is_put IsList x.heap d.0 empty_list refl) } in
    let none : m.started ≡ [] = ap (λ z. z.started) d.2.1 ∙ e in
    let t = threads_started count 0 cells list m y u d.3 (cells_stay x.heap m.heap cells first c) there
    (subst (AreStanding m.heap) (sym none) tt) in
    (subst (Stays x.heap) (sym t.0) first, subst (λ g. AreStanding g y.started) (sym t.0) t.1)

prelude_done : (n count : ℕ) (x y : Sight ScriptState) (u : Unit {0}) → Does (prelude_row n count) x u y →
    x.started ≡ [] → Stays x.heap y.heap × AreStanding y.heap y.started
unfolding prelude_row
prelude_done n count x y u d e =
    let b = bind_run pure (make_cells n []) (list_and_threads count) x u y d in
    let one = cells_made n [] b.0 x b.1 b.2 (record { each = λ k a f. absurd (cc) }) in
    let two = list_made count b.0 b.1 y u b.3 one.1 (one.0.started ∙ e) in
    (stays_then x.heap b.1.heap y.heap one.0.stays two.0, two.1)

-- ---- a step leaves states that stand
now_stands : (h : Heap) (o : Option Act) (number done : ℕ) (cells : List Addr) (list : Addr) →
    HasCells h cells × HasList h list → IsStanding h (now_done o number done cells list).1
now_stands h (Some act) number done cells list l = l
now_stands h None number done cells list l = tt

over_stood : (x y : Sight ScriptState) (q : Outcome × ScriptState) → (q ≡ (Ended, Over)) × (y ≡ x) → x.started ≡ [] →
    Stood x y q.1
over_stood x y q d e = record {
  stays = subst (λ (z : Sight ScriptState). Stays x.heap z.heap) (sym d.1) (stays_same x.heap);
  now = subst (λ (r : Outcome × ScriptState). IsStanding y.heap r.1) (sym d.0) tt;
  started = subst (AreStanding y.heap) (sym (ap (λ z. z.started) d.1 ∙ e)) tt;
}

abbrev after_act : List (List Act) → ℕ → ℕ → List Addr → Addr → Unit {0} → Row ScriptState (Outcome × ScriptState)
after_act lists number done cells list = λ _.
    Ret (now_done (act_at lists number (done + 1)) number (done + 1) cells list)

act_stood : (lists : List (List Act)) (number done : ℕ) (cells : List Addr) (list : Addr) (o : Option Act)
    (x y : Sight ScriptState) (q : Outcome × ScriptState) → Does (at_act lists number done cells list o) x q y
    → HasCells x.heap cells × HasList x.heap list → x.started ≡ [] → Stood x y q.1
unfolding Run
act_stood lists number done cells list (Some act) x y q d l e =
    let b = bind_run pure (act_row cells list act) (after_act lists number done cells list) x q y d in
    let k : Keeps x y = subst (Keeps x) (sym b.3.1) (was_done cells list act x b.1 b.0 b.2) in
    let there : HasCells y.heap cells × HasList y.heap list =
    (cells_stay x.heap y.heap cells k.stays l.0, list_stays x.heap y.heap list k.stays l.1) in
    record {
      stays = k.stays;
      now = subst (λ (r : Outcome × ScriptState). IsStanding y.heap r.1) (sym b.3.0)
          (now_stands y.heap (act_at lists number (done + 1)) number (done + 1) cells list there);
      started = subst (AreStanding y.heap) (sym (k.started ∙ e)) tt;
    }
act_stood lists number done cells list None x y q d l e = over_stood x y q d e

abbrev then_over : Unit {0} → Row ScriptState (Outcome × ScriptState)
then_over _ = Ret (Ended, Over)

step_stood : (n : ℕ) (lists : List (List Act)) (s : ScriptState) (x y : Sight ScriptState) (q : Outcome × ScriptState)
    → Does (script_row n lists s) x q y → IsStanding x.heap s → x.started ≡ [] → Stood x y q.1
unfolding script_row Run
step_stood n lists Prelude x y q d l e =
    let b = bind_run pure (prelude_row n (length lists)) then_over x q y d in
    let p = prelude_done n (length lists) x b.1 b.0 b.2 e in
    record {
      stays = subst (λ (z : Sight ScriptState). Stays x.heap z.heap) (sym b.3.1) p.0;
      now = subst (λ (r : Outcome × ScriptState). IsStanding y.heap r.1) (sym b.3.0) tt;
      started = subst (λ (z : Sight ScriptState). AreStanding z.heap z.started) (sym b.3.1) p.1;
    }
step_stood n lists (Acts number done cells list) x y q d l e =
    act_stood lists number done cells list (act_at lists number done) x y q d l e
step_stood n lists Over x y q d l e = over_stood x y q d e

pub script_sound_step : (n : ℕ) (lists : List (List Act)) → StaysSound (script_prog n lists) ScriptSound
script_sound_step n lists ss t s h w o s1 y l e life d =
    let z = step_stood n lists s (opened ScriptState h w) y (o, s1) d (one_of h ss t s e l.all) refl in
    record {
      all = all_set y.heap (ss ++ y.started) t s1
          (all_and y.heap ss y.started (all_stay h y.heap z.stays ss l.all) z.started) z.now;
    }

-- ---- a step after which the thread has ended was its last
over_life : (o : Outcome) (s1 : ScriptState) → ◌≡◌ {A = Outcome × ScriptState} (o, s1) (Ended, Over) →
    LifeAfter o (script_life s1)
over_life o s1 e = subst (λ (q : Outcome × ScriptState). LifeAfter q.0 (script_life q.1)) (sym e) (λ f. cc)

done_life : (o : Outcome) (s1 : ScriptState) (next : Option Act) (number done : ℕ) (cells : List Addr) (list : Addr) →
    (o, s1) ≡ now_done next number done cells list → LifeAfter o (script_life s1)
done_life o s1 (Some act) number done cells list e =
    subst (λ (q : Outcome × ScriptState). LifeAfter q.0 (script_life q.1)) (sym e) refl
done_life o s1 None number done cells list e = over_life o s1 e

act_life : (lists : List (List Act)) (number done : ℕ) (cells : List Addr) (list : Addr) (act : Option Act)
    (o : Outcome) (s1 : ScriptState) (x y : Sight ScriptState) →
    Does (at_act lists number done cells list act) x (o, s1) y → LifeAfter o (script_life s1)
unfolding Run
act_life lists number done cells list (Some act) o s1 x y d =
    let b = bind_run pure (act_row cells list act) (after_act lists number done cells list) x (o, s1) y d in
    done_life o s1 (act_at lists number (done + 1)) number (done + 1) cells list b.3.0
act_life lists number done cells list None o s1 x y d = over_life o s1 d.0

pub script_tells_life : (n : ℕ) (lists : List (List Act)) → TellsLife (script_prog n lists)
unfolding script_row Run
script_tells_life n lists Prelude s1 x y o lives d = let b = bind_run pure (prelude_row n (length lists)) then_over x
    (o, s1) y d in over_life o s1 b.3.0
script_tells_life n lists (Acts number done cells list) s1 x y o lives d =
    act_life lists number done cells list (act_at lists number done) o s1 x y d
script_tells_life n lists Over s1 x y o lives d = over_life o s1 d.0

-- ---- no step waits
over_goes : (s1 : ScriptState) → ◌≡◌ {A = Outcome × ScriptState} (Waits, s1) (Ended, Over) → ⊥
over_goes s1 e = let q : ◌≡◌ {A = Outcome} Waits Ended = ap (λ z. z.0) e in cc

done_goes : (s1 : ScriptState) (o : Option Act) (number done : ℕ) (cells : List Addr) (list : Addr) →
    (Waits, s1) ≡ now_done o number done cells list → ⊥
done_goes s1 (Some act) number done cells list e = let q : ◌≡◌ {A = Outcome} Waits Done = ap (λ z. z.0) e in cc
done_goes s1 None number done cells list e = over_goes s1 e

act_goes : (lists : List (List Act)) (number done : ℕ) (cells : List Addr) (list : Addr) (o : Option Act)
    (s1 : ScriptState) (x y : Sight ScriptState) → Does (at_act lists number done cells list o) x (Waits, s1) y → ⊥
unfolding Run
act_goes lists number done cells list (Some act) s1 x y d =
    let b = bind_run pure (act_row cells list act) (after_act lists number done cells list) x (Waits, s1) y d in
    done_goes s1 (act_at lists number (done + 1)) number (done + 1) cells list b.3.0
act_goes lists number done cells list None s1 x y d = over_goes s1 d.0

pub script_goes : (n : ℕ) (lists : List (List Act)) (s s1 : ScriptState) (x y : Sight ScriptState) →
    Does (script_row n lists s) x (Waits, s1) y → ⊥
unfolding script_row Run
script_goes n lists Prelude s1 x y d = let b = bind_run pure (prelude_row n (length lists)) then_over x (Waits, s1) y d
    in over_goes s1 b.3.0
script_goes n lists (Acts number done cells list) s1 x y d =
    act_goes lists number done cells list (act_at lists number done) s1 x y d
script_goes n lists Over s1 x y d = over_goes s1 d.0

pub script_waits_quietly : (n : ℕ) (lists : List (List Act)) → WaitsQuietly (script_prog n lists)
script_waits_quietly n lists s s1 x y d = absurd (script_goes n lists s s1 x y d)

-- ---- no step asks whether the output is in mid line
abbrev AsksNoFlag : {S : Type 0} → Call S → Type 0
AsksNoFlag MidLine = ⊥
AsksNoFlag _ = Unit {0}

abbrev NeverAsks : {S A : Type 0} → Row S A → Type 0
NeverAsks (Ret a) = Unit {0}
NeverAsks (Do c k) = AsksNoFlag c × ((r : Reply c) → NeverAsks (k r))

never_then : {S A B : Type 0} (r : Row S A) (f : A → Row S B) → NeverAsks r → ((a : A) → NeverAsks (f a)) →
    NeverAsks (bind r f)
unfolding bind
never_then (Ret a) f m n = n a
never_then (Do c k) f m n = (m.0, λ r. never_then (k r) f (m.1 r) n)

quiet_call : {S A : Type 0} (c : Call S) (k : Reply c → Row S A) → AsksNoFlag c → WritesThen c k
quiet_call MidLine k h = absurd h
quiet_call _ k h = tt

never_asks : {S A : Type 0} (r : Row S A) → NeverAsks r → AsksToPrint r
never_asks (Ret a) m = tt
never_asks (Do c k) m = (quiet_call c k m.0, λ r. never_asks (k r) (m.1 r))

cells_never : (n : ℕ) (cells : List Addr) → NeverAsks {S = ScriptState} (make_cells n cells)
unfolding make_cells
cells_never zero cells = tt
cells_never (suc n) cells = (tt, λ a. cells_never n (with_cell cells a))

threads_never : (n number : ℕ) (cells : List Addr) (list : Addr) → NeverAsks (start_threads n number cells list)
unfolding start_threads
threads_never zero number cells list = tt
threads_never (suc n) number cells list = (tt, λ u. threads_never n (number + 1) cells list)

look_never : (o : Option Addr) → NeverAsks {S = ScriptState} (look_row o)
unfolding look_row
look_never None = tt
look_never (Some a) = (tt, λ r. tt)

set_never : (o : Option Addr) (v : Value) → NeverAsks {S = ScriptState} (set_row o v)
unfolding set_row
set_never None v = tt
set_never (Some a) v = (tt, λ u. tt)

push_never : (b : Bool) (list : Addr) (v : Value) →
    NeverAsks {S = ScriptState} {A = Unit {0}} (cond b (Do (Edit list.0 (change.Push v)) (λ _. Ret tt)) (Ret tt))
push_never true list v = (tt, λ u. tt)
push_never false list v = tt

acts_never : (cells : List Addr) (list : Addr) (act : Act) → NeverAsks {S = ScriptState} (act_row cells list act)
unfolding push_row
acts_never cells list (Look k) = look_never (slice_get cells k)
acts_never cells list (Set k n) = set_never (slice_get cells k) (Int n)
acts_never cells list (PushAct n) = (tt, λ r. push_never (ltb (length r.values) LENGTH_LIMIT) list (Int n))
acts_never cells list (PutAct byte) = (tt, λ u. tt)

act_never : (lists : List (List Act)) (number done : ℕ) (cells : List Addr) (list : Addr) (o : Option Act) →
    NeverAsks (at_act lists number done cells list o)
act_never lists number done cells list (Some act) =
    never_then (act_row cells list act) (after_act lists number done cells list) (acts_never cells list act) (λ u. tt)
act_never lists number done cells list None = tt

step_never : (n : ℕ) (lists : List (List Act)) (s : ScriptState) → NeverAsks (script_row n lists s)
unfolding script_row prelude_row
step_never n lists Prelude =
    never_then (prelude_row n (length lists)) then_over
    (never_then (make_cells n []) (list_and_threads (length lists)) (cells_never n [])
    (λ cells. (tt, λ a. threads_never (length lists) 0 cells (record { 0 = a })))) (λ u. tt)
step_never n lists (Acts number done cells list) = act_never lists number done cells list (act_at lists number done)
step_never n lists Over = tt

pub script_asks_to_print : (n : ℕ) (lists : List (List Act)) (s : ScriptState) → AsksToPrint (script_row n lists s)
script_asks_to_print n lists s = never_asks (script_row n lists s) (step_never n lists s)
