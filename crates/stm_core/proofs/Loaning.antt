-- A loan of the transaction that a segment has in hand, and which piece fits it, as the core shows them.
use Rattle.std.proofs.Common.{◌≡◌, ◌↔◌, ◌<◌, ◌≤◌, ℕ, Bool, true, false, IsTrue, ◌||◌, List, Some, Result, Ok, Err, IfOk, IfErr, slice_get, refl, sym, ◌∙◌, ap, subst, arith}
use Rattle.std.proofs.lemmas.Bool.{both_ways}
use Rattle.py_data.specs.declared.stop.Conflict.{Conflict}
use Rattle.py_data.specs.Heap.{Heap, Marks}
use Rattle.py_data.specs.World.{World}
use Rattle.py_data.specs.Sight.{mem}
use Rattle.lock_run.specs.declared.client.Life.TheVariants.{Lives}
use Rattle.lock_run.specs.Prog.{Prog}
use Rattle.lock_run.specs.Client.{StaysSound, StandsIn}
use Rattle.lock_run.specs.RunState.{first_world}
use Rattle.lock_run.specs.Machine.{begin_with}
use Rattle.seg_store.specs.Meaning.{Meaning}
use Rattle.stm_pieces.specs.declared.loan.Loan.{Loan}
use Rattle.stm_pieces.specs.PieceOf.{piece_state}
use Rattle.stm_core.specs.declared.answers.LoanError.{LoanError}
use Rattle.stm_core.specs.declared.answers.LoanError.TheVariants.{OutOfMemory}
use Rattle.stm_segment.specs.declared.books.Work.{Work}
use Rattle.stm_segment.specs.declared.books.Hand.{Hand}
use Rattle.stm_segment.specs.declared.books.Hand.TheVariants.{Idle as IdleHand, Doomed as DoomedHand, Runs}
use Rattle.stm_segment.specs.declared.books.Books.{Books}
use Rattle.stm_segment.specs.CoreState.{CoreState}
use Rattle.stm_core.specs.Outside.{Outer}
use Rattle.stm_segment.specs.Devices.{DeviceState}
use Rattle.stm_segment.specs.Books.{WorkFits, is_running, runs_at, transaction, segment_of, core_of}
use Rattle.stm_core.specs.inner.Whole.{Whole}
use Rattle.stm_core.specs.inner.Lent.{AreLent, IsLoanFrom, FitsWork}
use Rattle.stm_core.specs.SaneCore.{StandsFor, SaneCore, LeadsBetween}
use Rattle.stm_core.specs.Pieces.{IsLoan, MayLoan, IsLent, IsLoaned, FitsSegment}
use Rattle.stm_segment.proofs.Fits.{work_at}
use Rattle.stm_core.proofs.StandsAgain.{good_now}
use Rattle.stm_core.proofs.Installing.{loan_stands}

-- records of what a segment sees are records of what its transaction sees
pub lent_loan : {S : Type 0} (w : World) (m : Meaning) (k : ℕ) (x : Work S) (g : Heap) (locked : Marks) →
    WorkFits (m.part k) x → AreLent m k g locked → IsLoan m.image (transaction w (m.part k) x) g locked
lent_loan w m k x g locked f l = record {
  part = l.part;
  looked = l.looked;
  held = λ a e. subst (λ z. (mem a (m.part k).changed || mem a z) ≡ true) (sym f.names) (l.held a e);
}

-- and the other way round
pub loan_lent : {S : Type 0} (w : World) (m : Meaning) (k : ℕ) (x : Work S) (g : Heap) (locked : Marks) →
    WorkFits (m.part k) x → IsLoan m.image (transaction w (m.part k) x) g locked → AreLent m k g locked
loan_lent w m k x g locked f l = record {
  part = l.part;
  looked = l.looked;
  held = λ a e. subst (λ z. (mem a (m.part k).changed || mem a z) ≡ true) f.names (l.held a e);
}

module _ {S : Type 0} (p : Prog S) (most k : ℕ) (first d : DeviceState) (m : Meaning) (b : Books S) where
  -- the loan is of the transaction that the core shows there
  pub lent_now : (l : Loan S) → Whole m b → IsLoanFrom m k most b.hands.items l → (o : Outer S) →
      StandsFor p most first d m b o → IsLent p most k l o o
  lent_now l whole h o s =
      let x = h.work in
      let w = s.worlds.own in
      record {
        x = transaction w (m.part k) x;
        runs = ap (λ (c : CoreState S). c.segments k) s.core ∙ ap (segment_of w (m.part k)) h.is;
        same = refl;
        thread = h.loan.thread;
        state = h.loan.state;
        most = h.loan.most;
        loan = subst (λ i. IsLoan i (transaction w (m.part k) x) (piece_state l.view).loaned
            (piece_state l.view).locked)
            (sym (ap (λ (c : CoreState S). c.image) s.core))
            (lent_loan w m k x (piece_state l.view).loaned (piece_state l.view).locked (whole.works k x h.is)
            h.loan.lent);
      }

  -- all stays as it was, whatever was answered
  pub loan_led : (r : Result (Loan S) LoanError) → Whole m b → runs_at b.hands.items k ≡ true →
      IfOk r (IsLoanFrom m k most b.hands.items) → IfErr r (λ e. e ≡ OutOfMemory) →
      LeadsBetween (StandsFor p most first d m b) (StandsFor p most first d m b) (IsLoaned p most k r)
  loan_led (Ok l) whole run ok err o s = (o, s, lent_now l whole ok o s)
  loan_led (Err e) whole run ok err o s =
      let x = work_at b.hands.items k run in
      let w = s.worlds.own in
      let runs = ap (λ (c : CoreState S). c.segments k) s.core ∙ ap (segment_of w (m.part k)) x.1 in
      (o, s, subst (λ z. IsLoaned p most k (Err z) o o) (sym err) (transaction w (m.part k) x.0, runs, refl))

  module _ (sound : Heap → List S → Type 0) (s : SaneCore p sound most first d m b) where
    -- over its records the condition of the client's step holds
    pub lent_stands : (l : Loan S) → StaysSound p sound → Whole m b → IsLoanFrom m k most b.hands.items l →
        StandsIn sound true (piece_state l.view).heap l.state
    lent_stands l law whole h =
        let x = h.work in
        let w = s.stands.worlds in
        let g = (piece_state l.view).loaned in
        let locked = (piece_state l.view).locked in
        subst (λ z. StandsIn sound true z l.state) (sym l.fresh.heap)
        (subst (λ q. StandsIn sound true g q) (sym h.loan.state)
        (loan_stands p sound (begin_with p (first_world first.input first.ends)) most k (core_of w m b)
        (transaction w.own (m.part k) x) g locked law s.first_sound (good_now s) (ap (segment_of w.own (m.part k)) h.is)
        (lent_loan w.own m k x g locked (whole.works k x h.is) h.loan.lent)))

    module _ (may : (o : Outer S) → StandsFor p most first d m b o → MayLoan p most (o.core.segments k)) where
      here : MayLoan p most (segment_of s.stands.worlds.own (m.part k) (slice_get b.hands.items k))
      here = subst (λ (c : CoreState S). MayLoan p most (c.segments k)) s.stands.core (may s.state s.stands)

      -- something is in hand
      pub not_idle : slice_get b.hands.items k ≡ Some IdleHand → ⊥
      not_idle e = subst (λ o. MayLoan p most (segment_of s.stands.worlds.own (m.part k) o)) e here

      -- a transaction in hand has steps left, and its thread lives
      pub may_go : (x : Work S) → slice_get b.hands.items k ≡ Some (Runs x) →
          (x.steps < most) × (p.life x.state ≡ Lives)
      may_go x e = subst (λ o. MayLoan p most (segment_of s.stands.worlds.own (m.part k) o)) e here

      pub lent_lives : (l : Loan S) → IsLoanFrom m k most b.hands.items l → p.life l.state ≡ Lives
      lent_lives l h = ap p.life h.loan.state ∙ (may_go h.work h.is).1

      pub lent_some : (l : Loan S) → IsLoanFrom m k most b.hands.items l → 1 ≤ l.most
      lent_some l h = let a = (may_go h.work h.is).0 in let e = h.loan.most in omega (arith, a, e)

      -- where none runs, it is a doom
      pub no_other_hand : (h : Hand S) → slice_get b.hands.items k ≡ Some h → runs_at b.hands.items k ≡ false →
          ((f : Conflict) → h ≡ DoomedHand f → ⊥) → ⊥
      no_other_hand IdleHand e quiet other = not_idle e
      no_other_hand (DoomedHand f) e quiet other = other f refl
      no_other_hand (Runs x) e quiet other = both_ways (runs_at b.hands.items k) quiet (ap is_running e)

-- ---- which piece fits

module _ {S : Type 0} (p : Prog S) (most k : ℕ) (first d : DeviceState) (m : Meaning) (b : Books S) (q : S) (g : Heap)
    (locked : Marks) (n : ℕ) where
  -- a truth value that says whether the piece fits what is in hand says whether it fits the segment
  fits_by : (r : Bool) (h : Hand S) → slice_get b.hands.items k ≡ Some h →
      ((w : World) → IsTrue r ↔ FitsSegment most m.image (segment_of w (m.part k) (Some h)) q g locked n) →
      (o : Outer S) → StandsFor p most first d m b o →
      IsTrue r ↔ FitsSegment most o.core.image (o.core.segments k) q g locked n
  fits_by r h e f o s =
      let w = s.worlds.own in
      subst (λ (c : CoreState S). IsTrue r ↔ FitsSegment most c.image (c.segments k) q g locked n) (sym s.core)
      (subst (λ z. IsTrue r ↔ FitsSegment most m.image (segment_of w (m.part k) z) q g locked n) (sym e) (f w))

  -- a transaction is in hand
  pub fits_runs : Whole m b → (x : Work S) → slice_get b.hands.items k ≡ Some (Runs x) → (r : Bool) →
      IsTrue r ↔ FitsWork m k most x q g locked n → (o : Outer S) → StandsFor p most first d m b o →
      IsTrue r ↔ FitsSegment most o.core.image (o.core.segments k) q g locked n
  fits_runs whole x e r f = fits_by r (Runs x) e (λ w. (
    λ y. let h = f.0 y in
        record { state = h.state; loan = lent_loan w m k x g locked (whole.works k x e) h.lent; short = h.short },
    λ h. f.1 (record {
      state = h.state;
      lent = loan_lent w m k x g locked (whole.works k x e) h.loan;
      short = h.short;
    }),
  ))

  -- none is
  pub fits_none : (h : Hand S) → slice_get b.hands.items k ≡ Some h → ((x : Work S) → h ≡ Runs x → ⊥) →
      (o : Outer S) → StandsFor p most first d m b o →
      IsTrue false ↔ FitsSegment most o.core.image (o.core.segments k) q g locked n
  fits_none h e other = fits_by false h e (λ w. (λ y. absurd (both_ways false refl y), λ f. absurd (not w h other f)))
    where
      not : (w : World) (h : Hand S) → ((x : Work S) → h ≡ Runs x → ⊥) →
          FitsSegment most m.image (segment_of w (m.part k) (Some h)) q g locked n → ⊥
      not w IdleHand other f = f
      not w (DoomedHand c) other f = f
      not w (Runs x) other f = other x refl
