-- Why a step can't be done over a piece view, by the step's own meaning.
use Rattle.std.proofs.Common.{◌≡◌, ℕ, ◌<◌, List, MatchOption, sym, ◌∙◌, ap, subst, inl, inr}
use Rattle.py_data.specs.Heap.{Heap, Marks}
use Rattle.py_data.specs.World.{World}
use Rattle.py_data.specs.declared.change.Change.{Change}
use Rattle.py_data.specs.declared.stop.Stop.{Stop}
use Rattle.py_data.specs.declared.stop.Stop.TheVariants as stop
use Rattle.py_data.specs.declared.stop.Stop.TheVariants.{OutOfMemory}
use Rattle.py_data.specs.Row.{Call, Reply, Row, Ret, Do, Read, Find, Edit, Make, Start, Put, Take, MidLine, SetMidLine}
use Rattle.py_data.specs.Shape.{Fits}
use Rattle.py_data.specs.Sense.{Upto, Stopped}
use Rattle.py_data.specs.Sight.{Sight, pure, opened}
use Rattle.py_data.specs.Steady.{AsksToPrint, Writes}
use Rattle.py_data.proofs.Whole.{stopped_at}
use Rattle.lock_run.specs.Prog.{Prog}
use Rattle.lock_run.specs.declared.client.Life.TheVariants.{Lives}
use Rattle.lock_run.specs.declared.client.Outcome.{Outcome}
use Rattle.lock_run.specs.Client.{StepStopped}
use Rattle.stm_pieces.specs.declared.run.PieceEnd.{PieceEnd}
use Rattle.stm_pieces.specs.declared.run.PieceEnd.TheVariants as end
use Rattle.stm_pieces.specs.PieceState.{PieceState, SameTerms, Outer, Lacks, NeedsHeap, Why}
use Rattle.stm_pieces.specs.PieceSense.{piece_sense, piece_bracket}
use Rattle.stm_pieces.specs.Ends.{ComesTo, ComesOut, ComesToNeed, Hindered, EndsSo}
use Rattle.stm_pieces.specs.inner.Ending.{end_for}
use Rattle.stm_pieces.specs.inner.Walked.{Walked}
use Rattle.stm_pieces.proofs.Running.{upto_piece, upto_out, GoesOut}
use Rattle.stm_pieces.proofs.Walk.{AsBefore, walked_begins, shown_follows, opened_terms, base_upto, stopped_back, terms_then, terms_back}

-- ---- what a call needs, of another view with the same records and terms
lacks_same : (d e : PieceState) (a : ℕ) (c : Change) → e.heap ≡ d.heap → e.most ≡ d.most → e.locked ≡ d.locked →
    Lacks d a c → Lacks e a c
lacks_same d e a c h m l x =
    let P : Heap → (ℕ → ℕ) → Marks → Type 0 =
    λ g most locked. Lacks (record d { heap = g; most = most; locked = locked }) a c in
    subst (λ g. P g e.most e.locked) (sym h) (subst (λ t. P d.heap t e.locked) (sym m)
    (subst (λ t. P d.heap d.most t) (sym l) x))

needs_same : {S : Type 0} (c : Call S) (d e : PieceState) → e.heap ≡ d.heap → SameTerms d e → NeedsHeap c d →
    NeedsHeap c e
needs_same (Read a) d e h t x = ap (λ g. g a) h ∙ x
needs_same (Find a key) d e h t x =
    subst (λ g. MatchOption (g a) (Unit {0}) (λ r. Fits g r key → ⊥)) (sym h) x
needs_same (Edit a c) d e h t x = lacks_same d e a c h t.most t.locked x
needs_same (Make q) d e h t x = tt
needs_same (Start s) d e h t x = tt
needs_same (Put on b) d e h t x = absurd x
needs_same (Take most) d e h t x = absurd x
needs_same MidLine d e h t x = absurd x
needs_same (SetMidLine b) d e h t x = absurd x

-- a call that needs the heap doesn't write
needs_no_write : {S A : Type 0} (c : Call S) (k : Reply c → Row S A) (d : PieceState) → NeedsHeap c d → Writes (Do c k)
    → ⊥
needs_no_write (Put on b) k d x w = x
needs_no_write (Read a) k d x w = w
needs_no_write (Find a key) k d x w = w
needs_no_write (Edit a c) k d x w = w
needs_no_write (Make q) k d x w = w
needs_no_write (Start s) k d x w = w
needs_no_write (Take most) k d x w = w
needs_no_write MidLine k d x w = w
needs_no_write (SetMidLine b) k d x w = w

-- a row that comes to print or read, as its next call
out_call : {S A : Type 0} (row left : Row S A) (g : Heap) (w : World) (t : Sight S) →
    Upto pure row (opened S g w) left t → GoesOut left → ComesTo row g w (λ c h. Outer c)
out_call row (Ret a) g w t u o = absurd o
out_call row (Do c k) g w t u o = record { call = c; rest = k; place = t; upto = u; so = o }

module _ {S X : Type 0} (state : X → PieceState) (p : Prog S) (sound : Heap → List S → Type 0) where
  module _ {d0 : PieceState} {n : ℕ} {q0 q : S} {v : X} (k : Walked p sound d0 n q0 q (state v))
      (prints : (s : S) → AsksToPrint (p.row s)) where
    -- the place at which a row was refused for want of the heap, by its meaning
    needs_here : (c : Call S) (f : Reply c → Row S (Outcome × S)) (v1 m x : X) → (piece_bracket state S).opens v v1 →
        Upto (piece_sense state S) (p.row q) v1 (Do c f) m → NeedsHeap c (state m)
        → AsBefore (state v) (state x) → ComesToNeed (p.row q) (state x)
    needs_here c f v1 m x op up need back = λ w.
        let first = walked_begins state p sound {v = v} k w in
        let o = opened_terms state p sound v v1 op in
        let fo = shown_follows d0 (state v) (state v1) (opened S (state v).heap w) o first in
        let y = upto_piece state (p.row q) (Do c f) d0 v1 m (opened S (state v).heap w) (prints q)
        (needs_no_write c f (state m) need) up fo in
        let u = (base_upto state p sound (p.row q) (Do c f) v1 m up).terms in
        let t = terms_then (state v) (state v1) (state m) o.terms u in
        let same = terms_then (state m) (state v) (state x) (terms_back (state v) (state m) t) back.terms in record {
          call = c;
          rest = f;
          place = y.0;
          upto = subst (λ h. Upto pure (p.row q) (opened S h w) (Do c f) y.0) (sym back.heap) y.1;
          so = needs_same c (state m) (record (state x) { heap = y.0.heap }) y.2.heap
              (record {
                loaned = same.loaned;
                names = same.names;
                most = same.most;
                locked = same.locked;
                solo = same.solo;
              }) need;
        }

    -- and for want of the devices
    out_here : (c : Call S) (f : Reply c → Row S (Outcome × S)) (v1 m x : X) → (piece_bracket state S).opens v v1 →
        Upto (piece_sense state S) (p.row q) v1 (Do c f) m → Outer c → (state x).heap ≡ (state v).heap
        → ComesOut (p.row q) (state x)
    out_here c f v1 m x op up out back = λ w.
        let first = walked_begins state p sound {v = v} k w in
        let o = opened_terms state p sound v v1 op in
        let fo = shown_follows d0 (state v) (state v1) (opened S (state v).heap w) o first in
        let y = upto_out state (p.row q) (Do c f) d0 v1 m (opened S (state v).heap w) (prints q) out up fo in
        out_call (p.row q) y.0 (state x).heap w y.1
        (subst (λ h. Upto pure (p.row q) (opened S h w) y.0 y.1) (sym back) y.2) y.3

    -- why a step met a Stop
    pub hindered_stop : (e : Stop) (x : X) → StepStopped (piece_sense state S) (piece_bracket state S) (p.row q) v e x →
        Hindered p q (state x) (end_for e)
    hindered_stop e x d = by_stop e d.3
      where
        back : AsBefore (state v) (state x)
        back = stopped_back state p sound q v e x d

        own_not : (e : Stop) → e ≡ OutOfMemory → Hindered p q (state x) (end_for e)
        own_not e h = subst (λ z. Hindered p q (state x) (end_for z)) (sym h) tt

        refused_at : (e : Stop) (c : Call S) (f : Reply c → Row S (Outcome × S)) (m : X) →
            Upto (piece_sense state S) (p.row q) d.0 (Do c f) m → Why e c (state m) → Hindered p q (state x) (end_for e)
        refused_at stop.NeedHeap c f m up y = needs_here c f d.0 m x d.2 up y back
        refused_at stop.NeedSolo c f m up y = out_here c f d.0 m x d.2 up y back.heap
        refused_at _ c f m up y = tt

        by_stop : (e : Stop) → Stopped (piece_sense state S) (p.row q) d.0 e d.1 → Hindered p q (state x) (end_for e)
        by_stop e h =
            let a = stopped_at (piece_sense state S) (p.row q) d.0 e d.1 h in
            elim a.why [
              | inl own ↦ own_not e own.0
              | inr r ↦ refused_at e r.0 r.1 a.place
                  (subst (λ l. Upto (piece_sense state S) (p.row q) d.0 l a.place) r.2 a.upto) r.3.1
            ]

-- a piece that ended early, for a reason that is true
pub ends_early : {S : Type 0} (p : Prog S) (most n : ℕ) (q : S) (d : PieceState) (e : PieceEnd) → p.life q ≡ Lives →
    n < most → Hindered p q d e → EndsSo p most n q d e
ends_early p most n q d end.Most lives l h = absurd h
ends_early p most n q d end.Ended lives l h = absurd h
ends_early p most n q d end.Waits lives l h = (lives, l, h)
ends_early p most n q d end.NeedSolo lives l h = (lives, l, h)
ends_early p most n q d end.NeedHeap lives l h = (lives, l, h)
ends_early p most n q d end.OutOfMemory lives l h = lives
