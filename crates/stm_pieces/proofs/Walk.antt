-- Steps of a client over a piece view, one after another: they are a piece.
use Rattle.std.proofs.Common.{◌≡◌, ◌≢◌, ℕ, zero, suc, ◌+◌, ◌<◌, true, false, List, [], ◌∷◌, ◌++◌, Some, None, length, refl, sym, ◌∙◌, ap, subst, inl, inr, arith, slice_get, slice_set}
use Rattle.std.proofs.lemmas.Bool.{both_ways}
use Rattle.std.proofs.lemmas.Option.{slice_get_within}
use Rattle.py_data.specs.Heap.{Heap, Has}
use Rattle.py_data.specs.World.{World}
use Rattle.py_data.specs.declared.stop.Stop.{Stop}
use Rattle.py_data.specs.Row.{Call, Reply, Row, Ret}
use Rattle.py_data.specs.Sense.{IsPart, Run, Stopped, Upto}
use Rattle.py_data.specs.Sight.{Sight, Does, opened}
use Rattle.py_data.specs.Steady.{AsksToPrint, NoLonger}
use Rattle.py_data.proofs.Whole.{run_steps, upto_steps, stopped_at}
use Rattle.lock_run.specs.declared.client.Outcome.{Outcome}
use Rattle.lock_run.specs.declared.client.Outcome.TheVariants.{Done, Waits, Ended}
use Rattle.lock_run.specs.declared.client.Life.TheVariants.{Lives}
use Rattle.lock_run.specs.Prog.{Prog}
use Rattle.lock_run.specs.Client.{StandsIn, Stepped, StepStopped, StaysSound, WaitsQuietly, TellsLife, LifeAfter, Waiting}
use Rattle.lock_run.proofs.Following.{done_pure}
use Rattle.stm_pieces.specs.Piece.{IsPiece}
use Rattle.stm_pieces.specs.PieceState.{PieceState, PieceDoes, SameTerms, IsTight, Replayed}
use Rattle.stm_pieces.specs.PieceSense.{piece_sense, piece_bracket}
use Rattle.stm_pieces.specs.inner.PieceLaws.{kept}
use Rattle.stm_pieces.specs.inner.Walked.{Quiet, Follows, Walked}
use Rattle.stm_pieces.proofs.Lift.{lift}
use Rattle.stm_pieces.proofs.Replaying.{replayed_none, replayed_same}
use Rattle.stm_pieces.proofs.Running.{row_piece}

-- ---- what calls leave alone
-- the same terms, and the same base of the step, with the changes that had led there
pub record SameBase (d e : PieceState) : Type 0 where
  pub base : e.base ≡ d.base
  pub before : e.kept ≡ d.kept
  pub terms : SameTerms d e

pub terms_refl : (d : PieceState) → SameTerms d d
terms_refl d = record { loaned = refl; names = refl; most = refl; locked = refl; solo = refl }

pub terms_then : (d e f : PieceState) → SameTerms d e → SameTerms e f → SameTerms d f
terms_then d e f g h = record {
  loaned = h.loaned ∙ g.loaned;
  names = h.names ∙ g.names;
  most = h.most ∙ g.most;
  locked = h.locked ∙ g.locked;
  solo = h.solo ∙ g.solo;
}

pub terms_back : (d e : PieceState) → SameTerms d e → SameTerms e d
terms_back d e g = record {
  loaned = sym g.loaned;
  names = sym g.names;
  most = sym g.most;
  locked = sym g.locked;
  solo = sym g.solo;
}

-- a view that shows the same records, with the same changes, on the same terms
pub record AsBefore (d e : PieceState) : Type 0 where
  pub heap : e.heap ≡ d.heap
  pub edits : e.edits ≡ d.edits
  pub terms : SameTerms d e

base_refl : (d : PieceState) → SameBase d d
base_refl d = record { base = refl; before = refl; terms = terms_refl d }

base_then : (d e f : PieceState) → SameBase d e → SameBase e f → SameBase d f
base_then d e f g h =
    record { base = h.base ∙ g.base; before = h.before ∙ g.before; terms = terms_then d e f g.terms h.terms }

base_call : {S : Type 0} (c : Call S) (d : PieceState) (r : Reply c) (e : PieceState) → PieceDoes c d r e →
    SameBase d e
base_call c d r e h =
    let k = kept c d r e h in
    record {
      base = k.base;
      before = k.before;
      terms = record { loaned = k.loaned; names = k.names; most = k.most; locked = k.locked; solo = k.solo };
    }

-- ---- lists of states
get_set : {A : Type 0} (xs : List A) (i : ℕ) (x : A) → i < length xs → slice_get (slice_set xs i x) i ≡ Some x
get_set [] i x h = absurd (omega (arith, h))
get_set (y ∷ xs) zero x h = refl
get_set (y ∷ xs) (suc i) x h = get_set xs i x (omega (arith, h))

get_front : {A : Type 0} (xs ys : List A) (i : ℕ) (x : A) → slice_get xs i ≡ Some x → slice_get (xs ++ ys) i ≡ Some x
get_front [] ys i x e = absurd cc
get_front (y ∷ xs) ys zero x e = e
get_front (y ∷ xs) ys (suc i) x e = get_front xs ys i x e

pub done_not_waits : Done ≢ Waits
done_not_waits e = cc

pub ended_not_waits : Ended ≢ Waits
ended_not_waits e = cc

pub some_world : World
some_world = record { input = None; ends = 0; out = []; err = []; mid = false }

-- the records that a view shows at first, as the sight of a step that begins
pub begins_follows : {S : Type 0} (d0 d : PieceState) (s : Sight S) (w : World) → Follows d0 d s →
    Follows d0 d (opened S d.heap w)
begins_follows d0 d s w f = record {
  heap = refl;
  quiet = record { made = refl; started = refl; unused = refl };
  there = λ a e. absurd (both_ways false refl e);
  locked = λ a e. absurd (both_ways false refl e);
  within = f.within;
  terms = f.terms;
  replayed = f.replayed;
  tight = f.tight;
  alone = f.alone;
}

-- ---- views that show the same
pub shown_follows : {S : Type 0} (d0 d e : PieceState) (s : Sight S) → AsBefore d e → Follows d0 d s → Follows d0 e s
shown_follows d0 d e s b f = record {
  heap = f.heap ∙ sym b.heap;
  quiet = f.quiet;
  there = f.there;
  locked = f.locked;
  within = subst (λ g. NoLonger g d0.heap) (sym b.heap) f.within;
  terms = terms_then d0 d e f.terms b.terms;
  replayed = replayed_same d0 d e b.heap b.edits f.replayed;
  tight = f.tight;
  alone = f.alone;
}

module _ {S X : Type 0} (state : X → PieceState) (p : Prog S) (sound : Heap → List S → Type 0) where
  base_run : {A : Type 0} (row : Row S A) (v w : X) (b : A) → Run (piece_sense state S) row v b w →
      SameBase (state v) (state w)
  base_run row v w b h =
      run_steps (piece_sense state S) (λ v w. SameBase (state v) (state w)) (λ v. base_refl (state v))
      (λ v m w f g. base_then (state v) (state m) (state w) f g) (λ c v r w d. base_call c (state v) r (state w) d.0)
      row v b w h

  pub base_upto : {A : Type 0} (row left : Row S A) (v w : X) → Upto (piece_sense state S) row v left w →
      SameBase (state v) (state w)
  base_upto row left v w h =
      upto_steps (piece_sense state S) (λ v w. SameBase (state v) (state w)) (λ v. base_refl (state v))
      (λ v m w f g. base_then (state v) (state m) (state w) f g) (λ c v r w d. base_call c (state v) r (state w) d.0)
      row v left w h

  base_stop : {A : Type 0} (row : Row S A) (v w : X) (e : Stop) → Stopped (piece_sense state S) row v e w →
      SameBase (state v) (state w)
  base_stop row v w e h =
      let k = stopped_at (piece_sense state S) row v e w h in
      let u = base_upto row k.left v k.place k.upto in
      elim k.why [
        | inl own ↦ subst (λ z. SameBase (state v) (state z)) (sym own.1) u
        | inr r ↦ let o = r.3.0 in base_then (state v) (state k.place) (state w) u (record {
          base = ap (λ (z : PieceState). z.base) o;
          before = ap (λ (z : PieceState). z.kept) o;
          terms = subst (SameTerms (state k.place)) (sym o)
              (record { loaned = refl; names = refl; most = refl; locked = refl; solo = refl });
        })
      ]

  -- before the first step
  pub walked_first : (q : S) (v : X) → StandsIn sound true (state v).heap q → IsTight (state v) → (state v).solo ≡ false
      → Walked p sound (state v) 0 q q (state v)
  walked_first q v stands tight alone = record {
    steps = λ w. (
      opened S (state v).heap w,
      (refl, refl),
      record {
        heap = refl;
        quiet = record { made = refl; started = refl; unused = refl };
        there = λ a e. absurd (both_ways false refl e);
        locked = λ a e. absurd (both_ways false refl e);
        within = λ a r e. (r, e, omega arith);
        terms = terms_refl (state v);
        replayed = replayed_none (state v);
        tight = tight;
        alone = alone;
      },
    );
    stands = stands;
  }

  -- a step is opened: records, changes and terms are the same
  pub opened_terms : (v v1 : X) → (piece_bracket state S).opens v v1 → AsBefore (state v) (state v1)
  opened_terms v v1 op = record {
    heap = ap (λ (z : PieceState). z.heap) op;
    edits = ap (λ (z : PieceState). z.edits) op;
    terms = subst (SameTerms (state v)) (sym op)
        (record { loaned = refl; names = refl; most = refl; locked = refl; solo = refl });
  }

  -- a step that was opened and taken back leaves records, changes and terms
  pub taken_back : (v v1 w x : X) → (piece_bracket state S).opens v v1 → SameBase (state v1) (state w) →
      (piece_bracket state S).undoes w x → AsBefore (state v) (state x)
  taken_back v v1 w x op t un = record {
    heap = ap (λ (z : PieceState). z.heap) un ∙ (t.base ∙ ap (λ (z : PieceState). z.base) op);
    edits = ap (λ (z : PieceState). z.edits) un ∙ (t.before ∙ ap (λ (z : PieceState). z.kept) op);
    terms = terms_then (state v) (state w) (state x)
        (terms_then (state v) (state v1) (state w) (opened_terms v v1 op).terms t.terms)
        (subst (SameTerms (state w)) (sym un)
        (record { loaned = refl; names = refl; most = refl; locked = refl; solo = refl }));
  }

  pub stopped_back : (q : S) (v : X) (e : Stop) (x : X) →
      StepStopped (piece_sense state S) (piece_bracket state S) (p.row q) v e x → AsBefore (state v) (state x)
  stopped_back q v e x d = taken_back v d.0 d.1 x d.2 (base_stop (p.row q) d.0 d.1 e d.3) d.4

  pub done_back : (q : S) (v : X) (o : Outcome) (q1 : S) (w x : X) →
      Stepped (piece_sense state S) (piece_bracket state S) (p.row q) v o q1 w → (piece_bracket state S).undoes w x
      → AsBefore (state v) (state x)
  done_back q v o q1 w x d un = taken_back v d.0 w x d.1 (base_run (p.row q) d.0 w (o, q1) d.2) un

  -- a step that was done was done by its meaning
  pub stepped_piece : (d0 : PieceState) (q : S) (v : X) (o : Outcome) (q1 : S) (w : X) (s : Sight S) →
      AsksToPrint (p.row q) → Stepped (piece_sense state S) (piece_bracket state S) (p.row q) v o q1 w
      → Follows d0 (state v) s → (t : Sight S) × Does (p.row q) s (o, q1) t × Follows d0 (state w) t
  stepped_piece d0 q v o q1 w s prints d f =
      row_piece state (p.row q) d0 d.0 w (o, q1) s prints d.2
      (shown_follows d0 (state v) (state d.0) s (opened_terms v d.0 d.1) f)

  module _ {d0 : PieceState} {n : ℕ} {q0 q : S} {v : X} (k : Walked p sound d0 n q0 q (state v)) where
    -- a view that shows the same
    pub walked_same : (w : X) → AsBefore (state v) (state w) → Walked p sound d0 n q0 q (state w)
    walked_same w h = record {
      steps = λ o. let s = k.steps o in (s.0, s.1, shown_follows d0 (state v) (state w) s.0 h s.2);
      stands = subst (λ x. StandsIn sound true x q) (sym h.heap) k.stands;
    }

    -- over the view as it stands
    pub walked_begins : (w : World) → Follows d0 (state v) (opened S (state v).heap w)
    walked_begins w = let s = k.steps w in begins_follows d0 (state v) s.0 w s.2

    -- the state stands over the records that a step leaves
    next_stands : StaysSound p sound → ((s : S) → AsksToPrint (p.row s)) → p.life q ≡ Lives → (o : Outcome) (q1 : S)
        (w : X) → Stepped (piece_sense state S) (piece_bracket state S) (p.row q) v o q1 w
        → StandsIn sound true (state w).heap q1
    next_stands law prints lives o q1 w d =
        let s = opened S (state v).heap some_world in
        let y = stepped_piece d0 q v o q1 w s (prints q) d (walked_begins some_world) in
        let i = k.stands in
        let quiet : Quiet s = record { made = refl; started = refl; unused = refl } in
        let there : (a : ℕ) → s.touched a ≡ true → Has s.heap a = λ a e. absurd (both_ways false refl e) in
        let up = lift (p.row q) s y.0 (opened S i.heap some_world) (o, q1) y.1 quiet y.2.quiet i.shown there in
        let ss = i.standing.0 in
        let th = i.standing.1 in
        let is = i.standing.2 in
        record {
          heap = up.0.heap;
          shown = subst (λ l. IsPart l up.0.heap) y.2.heap up.2.part;
          standing = (
            slice_set (ss ++ up.0.started) th q1,
            th,
            get_set (ss ++ up.0.started) th q1
                (slice_get_within (ss ++ up.0.started) th q (get_front ss up.0.started th q is)),
            law ss th q i.heap some_world o q1 up.0 i.standing.3 is lives up.1,
          );
        }

    -- one step more
    pub walked_next : StaysSound p sound → ((s : S) → AsksToPrint (p.row s)) → p.life q ≡ Lives → (o : Outcome) (q1 : S)
        (w : X) → o ≢ Waits → Stepped (piece_sense state S) (piece_bracket state S) (p.row q) v o q1 w
        → Walked p sound d0 (suc n) q0 q1 (state w)
    walked_next law prints lives o q1 w goes d = record {
      steps = λ x.
          let s = k.steps x in
          let y = stepped_piece d0 q v o q1 w s.0 (prints q) d s.2 in (
            y.0,
            (
              q,
              s.0,
              s.1,
              record { lives = lives; outcome = o; goes_on = goes; does = y.1 },
              subst (λ h. NoLonger h d0.heap) (sym y.2.heap) y.2.within,
            ),
            y.2,
          );
      stands = next_stands law prints lives o q1 w d;
    }

    -- one step more, whose row asks nothing
    pub walked_pure : StaysSound p sound → p.life q ≡ Lives → (q1 : S) → p.row q ≡ Ret (Done, q1) →
        Walked p sound d0 (suc n) q0 q1 (state v)
    walked_pure law lives q1 e =
        let i = k.stands in
        let ss = i.standing.0 in
        let th = i.standing.1 in
        let is = i.standing.2 in
        let first = opened S i.heap some_world in
        record {
          steps = λ x.
              let s = k.steps x in (
                s.0,
                (
                  q,
                  s.0,
                  s.1,
                  record {
                    lives = lives;
                    outcome = Done;
                    goes_on = done_not_waits;
                    does = done_pure (p.row q) s.0 (Done, q1) e;
                  },
                  subst (λ h. NoLonger h d0.heap) (sym s.2.heap) s.2.within,
                ),
                s.2,
              );
          stands = record {
            heap = i.heap;
            shown = i.shown;
            standing = (
              slice_set (ss ++ []) th q1,
              th,
              get_set (ss ++ []) th q1 (slice_get_within (ss ++ []) th q (get_front ss [] th q is)),
              law ss th q i.heap some_world Done q1 first i.standing.3 is lives
                  (done_pure (p.row q) first (Done, q1) e),
            );
          };
        }

    -- whether the thread lives on
    pub life_next : TellsLife p → ((s : S) → AsksToPrint (p.row s)) → p.life q ≡ Lives → (o : Outcome) (q1 : S)
        (w : X) → Stepped (piece_sense state S) (piece_bracket state S) (p.row q) v o q1 w → LifeAfter o (p.life q1)
    life_next tells prints lives o q1 w d =
        let s = opened S (state v).heap some_world in
        let y = stepped_piece d0 q v o q1 w s (prints q) d (walked_begins some_world) in
        tells q q1 s y.0 o lives y.1

    -- a step that waits leaves the state
    pub state_waits : WaitsQuietly p → ((s : S) → AsksToPrint (p.row s)) → (o : Outcome) (q1 : S) (w : X) → o ≡ Waits →
        Stepped (piece_sense state S) (piece_bracket state S) (p.row q) v o q1 w → q1 ≡ q
    state_waits quietly prints o q1 w e d =
        let s = opened S (state v).heap some_world in
        let y = stepped_piece d0 q v o q1 w s (prints q) d (walked_begins some_world) in
        (quietly q q1 s y.0 (subst (λ z. Does (p.row q) s (z, q1) y.0) e y.1)).0

    -- and it waits in every world
    pub waits_here : ((s : S) → AsksToPrint (p.row s)) → (o : Outcome) (q1 : S) (w : X) → o ≡ Waits →
        Stepped (piece_sense state S) (piece_bracket state S) (p.row q) v o q1 w → Waiting (p.row q) (state v).heap
    waits_here prints o q1 w e d = λ x.
        let s = opened S (state v).heap x in
        let y = stepped_piece d0 q v o q1 w s (prints q) d (walked_begins x) in
        (q1, y.0, subst (λ z. Does (p.row q) s (z, q1) y.0) e y.1)

    -- what was walked is a piece
    pub walked_piece : IsPiece p d0.heap d0.locked n q0 q (state v).heap
    walked_piece w = let s = k.steps w in record {
      sight = s.0;
      steps = s.1;
      heap = s.2.heap;
      made = s.2.quiet.made;
      started = s.2.quiet.started;
      unused = s.2.quiet.unused;
      touched = s.2.locked;
    }

    -- on the terms of the first view
    pub walked_terms : SameTerms d0 (state v)
    walked_terms = (k.steps some_world).2.terms

    -- and its changes lead from there
    pub walked_replayed : Replayed d0 (state v)
    walked_replayed = (k.steps some_world).2.replayed

pub walked_more : {S : Type 0} {p : Prog S} {sound : Heap → List S → Type 0} {d0 : PieceState} {n : ℕ} {q0 q : S}
    {d : PieceState} → Walked p sound d0 (suc n) q0 q d → Walked p sound d0 (n + 1) q0 q d
walked_more {p = p} {sound = sound} {d0 = d0} {n = n} {q0 = q0} {q = q} {d = d} k =
    let e : suc n ≡ n + 1 = omega arith in subst (λ (m : ℕ). Walked p sound d0 m q0 q d) e k
