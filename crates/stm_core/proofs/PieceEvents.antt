-- Pieces as events: a loan that is run and installed at once.
use Rattle.std.proofs.Common.{◌≡◌, ◌↔◌, ℕ, ◌<◌, ◌≤◌, min, Bool, true, false, IsTrue, nat_lt, List, Result, Ok, Err, refl, sym, ◌∙◌, ap, subst, arith}
use Rattle.std.proofs.lemmas.Bool.{both_ways}
use Rattle.std.proofs.lemmas.Bool.Decides.{nat_tests}
use Rattle.std.specs.declared.alloc.AllocError.{AllocError}
use Rattle.py_data.specs.Heap.{Heap}
use Rattle.lock_run.specs.declared.client.Life.TheVariants.{Lives}
use Rattle.lock_run.specs.Prog.{Prog}
use Rattle.seg_store.specs.Meaning.{Meaning}
use Rattle.stm_pieces.specs.declared.loan.Loan.{Loan}
use Rattle.stm_pieces.specs.declared.loan.Piece.{Piece}
use Rattle.stm_pieces.specs.PieceOf.{piece_state}
use Rattle.stm_pieces.specs.PieceState.{SameTerms}
use Rattle.stm_core.specs.declared.answers.LoanError.{LoanError}
use Rattle.stm_core.specs.declared.answers.LoanError.TheVariants as loan
use Rattle.stm_segment.specs.declared.books.Books.{Books}
use Rattle.stm_core.specs.declared.events.Event.TheVariants as event
use Rattle.stm_core.specs.declared.events.Reply.{Reply}
use Rattle.stm_core.specs.declared.events.Reply.TheVariants.{Skipped, OutOfMemory}
use Rattle.stm_segment.specs.CoreState.{Segment, Idle, Doomed, Running, CoreState}
use Rattle.stm_core.specs.Standing.{slot_of}
use Rattle.stm_core.specs.Outside.{Outer}
use Rattle.stm_segment.specs.Devices.{DeviceState}
use Rattle.stm_core.specs.SaneCore.{StandsFor, SaneCore, LeadsBetween}
use Rattle.stm_core.specs.Pieces.{IsLoan, MayLoan, IsLent, IsLoaned, FitsSegment, HasInstalled, IsInstalled}
use Rattle.stm_core.specs.Events.{Limits, loan_reply, piece_reply, is_busy, is_within, may_make, PieceRan, PieceFrom, Made}
use Rattle.stm_core.proofs.Calling.{left, right, below}

-- what a loan leaves when it is run fits the transaction that it is of
pub ran_fits : {S : Type 0} (p : Prog S) (most most1 k m : ℕ) (l l1 : Loan S) (x : Piece S) (o u : Outer S) →
    most1 ≡ most → IsLent p most k l o u → l1.state ≡ l.state → l1.most ≡ min l.most m → l1.view ≡ l.view →
    x.start ≡ l1.state → x.steps ≤ l1.most → (piece_state x.view).loaned ≡ (piece_state l1.view).loaned →
    SameTerms (piece_state l1.view) (piece_state x.view) →
    FitsSegment most1 u.core.image (u.core.segments k) x.start (piece_state x.view).loaned
    (piece_state x.view).locked x.steps
ran_fits {S} p most most1 k m l l1 x o u same h state few view start steps loaned terms =
    subst (λ (z : Outer S). FitsSegment most1 z.core.image (z.core.segments k) x.start (piece_state x.view).loaned
    (piece_state x.view).locked x.steps) (sym h.same)
    (subst (λ (s : Segment S). FitsSegment most1 o.core.image s x.start (piece_state x.view).loaned
    (piece_state x.view).locked x.steps) (sym h.runs) (record {
      state = sym (start ∙ state ∙ h.state);
      loan = subst (λ g. IsLoan o.core.image h.x g (piece_state x.view).locked) (sym (loaned ∙ same_loaned))
          (subst (λ q. IsLoan o.core.image h.x (piece_state l.view).loaned q) (sym (terms.locked ∙ same_locked))
          h.loan);
      short = let most_is = h.most in omega (arith, few, steps, most_is, same);
    }))
  where
    same_loaned : (piece_state l1.view).loaned ≡ (piece_state l.view).loaned
    same_loaned = ap (λ v. (piece_state v).loaned) view

    same_locked : (piece_state l1.view).locked ≡ (piece_state l.view).locked
    same_locked = ap (λ v. (piece_state v).locked) view

-- what the condition of the event says: there is the segment, and some step is asked for
pub piece_asked : {S : Type 0} (l : Limits) (c : CoreState S) (k m : ℕ) → may_make l c (event.Piece k m) ≡ true →
    (k < l.segments) × (1 ≤ m)
piece_asked l c k m h =
    let some = right (is_busy (slot_of (c.segments k))) _ (right (nat_lt k l.segments) _ h) in
    (below k l.segments (left (nat_lt k l.segments) _ h), omega (arith, below 0 m (left (nat_lt 0 m) _ some)))

-- of a core that is good
pub asked_now : {S : Type 0} {p : Prog S} {sound : Heap → List S → Type 0} {most : ℕ} {first d : DeviceState}
    {n : Meaning} {b : Books S} → SaneCore p sound most first d n b → (l : Limits) (k m : ℕ) →
    ((o : Outer S) → StandsFor p most first d n b o → may_make l o.core (event.Piece k m) ≡ true) →
    (k < l.segments) × (1 ≤ m)
asked_now s l k m may = piece_asked l s.state.core k m (may s.state s.stands)

-- for the same limits
pub asked_still : (k m : ℕ) (l l1 : Limits) → l1 ≡ l → (k < l.segments) × (1 ≤ m) → k < l1.segments
asked_still k m l l1 e h = let a = h.0 in omega (arith, a, ap (λ (z : Limits). z.segments) e)

-- it has no more steps than were asked for
pub ran_few : (loaned m few steps : ℕ) → few ≡ min loaned m → steps ≤ few → steps ≤ m
ran_few loaned m few steps e h = omega (arith, e, h)

module _ {S : Type 0} (p : Prog S) (l : Limits) (k m : ℕ) where
  -- a segment that may not be asked for a loan, though a piece may be made, runs a thread that has ended
  unasked : (s : Segment S) (o : Outer S) → is_busy (slot_of s) ≡ true → is_within l.length 1 (slot_of s) ≡ true →
      (MayLoan p l.length s → ⊥) → PieceFrom s p l k m Skipped o o
  unasked Idle o busy short never = absurd cc
  unasked (Doomed f) o busy short never = absurd (never tt)
  unasked (Running x) o busy short never = (λ h. (refl, refl), λ h. absurd (never (grind (arith, nat_tests, short), h)))

  pub skipped_piece : (o : Outer S) → may_make l o.core (event.Piece k m) ≡ true →
      (MayLoan p l.length (o.core.segments k) → ⊥) → PieceFrom (o.core.segments k) p l k m Skipped o o
  skipped_piece o may never =
      let busy = right (nat_lt k l.segments) _ may in
      unasked (o.core.segments k) o (left (is_busy (slot_of (o.core.segments k))) _ busy)
      (right (nat_lt 0 m) _ (right (is_busy (slot_of (o.core.segments k))) _ busy)) never

  -- there is no loan
  pub no_loan : (e : LoanError) (o o1 : Outer S) → MayLoan p l.length (o.core.segments k) →
      IsLoaned p l.length k (Err e) o o1 → PieceFrom (o.core.segments k) p l k m (loan_reply e) o o1
  no_loan (loan.Lost f) o o1 may h =
      subst (λ s. PieceFrom s p l k m (loan_reply (loan.Lost f)) o o1) (sym h.0) (refl, h.1)
  no_loan loan.OutOfMemory o o1 may h =
      let lives = subst (MayLoan p l.length) h.1 may in
      subst (λ s. PieceFrom s p l k m OutOfMemory o o1) (sym h.1) (λ n. absurd (n lives.1), λ e. h.2)

  -- what comes of the install of what was loaned
  installed_so : (reserved n : ℕ) (g g1 : Heap) (q1 : S) (r : Result ℕ AllocError) (o o1 : Outer S) → n ≤ m →
      IsInstalled p l.length k l.segments reserved l.words g g1 n q1 r o o1 → PieceRan p l k m (piece_reply r) o o1
  installed_so reserved n g g1 q1 (Ok i) o o1 few h =
      let e = h.0 in (
        omega (arith, few, e),
        g,
        g1,
        q1,
        subst (λ j. HasInstalled p l.length k g g1 j q1 o o1) (sym h.0) h.1,
      )
  installed_so reserved n g g1 q1 (Err e) o o1 few h = (refl, reserved, h)

  pub piece_made : (a : Loan S) (reserved n : ℕ) (g g1 : Heap) (q1 : S) (r : Result ℕ AllocError) (o u o1 : Outer S) →
      IsLent p l.length k a o u → p.life a.state ≡ Lives → n ≤ m →
      IsInstalled p l.length k l.segments reserved l.words g g1 n q1 r u o1 →
      PieceFrom (o.core.segments k) p l k m (piece_reply r) o o1
  piece_made a reserved n g g1 q1 r o u o1 h lives few i =
      let ran = installed_so reserved n g g1 q1 r o o1 few (subst (λ (z : Outer S). IsInstalled p l.length k l.segments
      reserved l.words g g1 n q1 r z o1) h.same i) in
      subst (λ s. PieceFrom s p l k m (piece_reply r) o o1) (sym h.runs)
      (λ e. absurd (e (ap p.life (sym h.state) ∙ lives)), λ e. ran)

  -- ---- as calls

  -- a segment that may not be asked for a loan
  pub skip_led : (A : Outer S → Type 0) (b : Bool) → b ≡ false →
      ((o : Outer S) → A o → may_make l o.core (event.Piece k m) ≡ true) →
      ((o : Outer S) → A o → IsTrue b ↔ MayLoan p l.length (o.core.segments k)) →
      LeadsBetween A A (Made p l (event.Piece k m) Skipped)
  skip_led A b n may says o a =
      (o, a, skipped_piece o (may o a) (λ h. both_ways b n ((says o a).1 h)))

  -- there is no loan
  pub unloaned_led : (A B : Outer S → Type 0) (b : Bool) (e : LoanError) (r : Reply) → b ≡ true → r ≡ loan_reply e →
      ((o : Outer S) → A o → IsTrue b ↔ MayLoan p l.length (o.core.segments k)) →
      LeadsBetween A B (IsLoaned p l.length k (Err e)) → LeadsBetween A B (Made p l (event.Piece k m) r)
  unloaned_led A B b e r y is says led o a =
      let z = led o a in (
        z.0,
        z.1,
        subst (λ q. Made p l (event.Piece k m) q o z.0) (sym is)
            (no_loan e o z.0 ((says o a).0 y) z.2),
      )

  -- what was loaned fits
  pub fit_led : (A B : Outer S → Type 0) (b : Bool) (r : Reply) (a : Loan S) (fits : Outer S → Type 0) → b ≡ false →
      LeadsBetween A B (IsLoaned p l.length k (Ok a)) → ((o u : Outer S) → IsLent p l.length k a o u → fits u) →
      ((u : Outer S) → B u → IsTrue b ↔ fits u) → LeadsBetween A B (Made p l (event.Piece k m) r)
  fit_led A B b r a fits n led fit says o s =
      let z = led o s in
      absurd (both_ways b n ((says z.0 z.1).1 (fit o z.0 z.2)))

  -- it is installed, by a core of the same client and limits
  pub install_led : (A B D : Outer S → Type 0) (a : Loan S) (p1 : Prog S) (l1 : Limits) (reserved n : ℕ) (g g1 : Heap)
      (q1 : S) (r : Result ℕ AllocError) (reply : Reply) → p1 ≡ p → l1 ≡ l → reply ≡ piece_reply r →
      p.life a.state ≡ Lives → n ≤ m → LeadsBetween A B (IsLoaned p l.length k (Ok a)) →
      LeadsBetween B D (IsInstalled p1 l1.length k l1.segments reserved l1.words g g1 n q1 r) →
      LeadsBetween A D (Made p l (event.Piece k m) reply)
  install_led A B D a p1 l1 reserved n g g1 q1 r reply p_is l_is is lives few lent installed o s =
      let u = lent o s in
      let v = installed u.0 u.1 in
      let i = subst (λ z. IsInstalled z l.length k l.segments reserved l.words g g1 n q1 r u.0 v.0) p_is
      (subst (λ z. IsInstalled p1 z.length k z.segments reserved z.words g g1 n q1 r u.0 v.0) l_is v.2) in (
        v.0,
        v.1,
        subst (λ z. Made p l (event.Piece k m) z o v.0) (sym is)
            (piece_made a reserved n g g1 q1 r o u.0 v.0 u.2 lives few i),
      )
