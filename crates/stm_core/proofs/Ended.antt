-- How a transaction has ended that was put back, dropped, or committed once others were doomed.
use Rattle.std.proofs.Common.{◌≡◌, ℕ, Option, sym, ap, subst, ◌∙◌}
use Rattle.seg_store.specs.Meaning.{Meaning}
use Rattle.seg_store.specs.Calls.{after_drop}
use Rattle.stm_segment.specs.declared.books.Books.{Books}
use Rattle.stm_core.specs.declared.transactions.Core.{Core}
use Rattle.stm_core.specs.Begun.{CountsSteps}
use Rattle.stm_core.specs.inner.Ending.{HasEnded}
use Rattle.stm_core.specs.inner.Whole.{Whole, SameShape}

module _ {C S I O E T : Type 0} (meaning : S → Meaning) (taken : S → ℕ) (told : S → Option (ℕ → ℕ))
    (c c1 : Core C S I O E T) where
  -- it was put back: the books alone change, and their history doesn't
  pub ended_put : c1 ≡ record c { books = c1.books } → Whole (meaning c1.store) c1.books →
      c1.books.history.entries ≡ c.books.history.entries → CountsSteps c.spent c.books.history.entries →
      HasEnded meaning taken told c c1
  ended_put rest whole same count = record {
    rest = rest ∙ (λ i. record c { store = (sym rest i).store; books = c1.books; spent = (sym rest i).spent });
    whole = whole;
    count = ap (λ s. s.spent) rest ∙ subst (λ l. CountsSteps c.spent l) (sym same) count;
    shape = (ap (λ s. (meaning s.store).segments) rest, ap (λ s. (meaning s.store).limit) rest);
    reserved = ap (λ s. taken s.store) rest;
    peaks = ap (λ s. told s.store) rest;
  }

  -- it was dropped
  pub ended_dropped : (k : ℕ) → c1 ≡ record c { store = c1.store; books = c1.books } →
      Whole (meaning c1.store) c1.books → c1.books.history.entries ≡ c.books.history.entries →
      meaning c1.store ≡ after_drop k (meaning c.store) → taken c1.store ≡ taken c.store →
      told c1.store ≡ told c.store → CountsSteps c.spent c.books.history.entries → HasEnded meaning taken told c c1
  ended_dropped k rest whole same store reserved peaks count = record {
    rest = rest ∙ (λ i. record c { store = c1.store; books = c1.books; spent = (sym rest i).spent });
    whole = whole;
    count = ap (λ s. s.spent) rest ∙ subst (λ l. CountsSteps c.spent l) (sym same) count;
    shape = (ap (λ m. m.segments) store, ap (λ m. m.limit) store);
    reserved = reserved;
    peaks = peaks;
  }

  -- the books keep more of it than their history
  pub ended_kept : (b : Books T) → HasEnded meaning taken told c c1 → Whole (meaning c1.store) b →
      b.history.entries ≡ c1.books.history.entries → HasEnded meaning taken told c (record c1 { books = b })
  ended_kept b h whole same = record {
    rest = ap {A = Core C S I O E T} {B = Core C S I O E T} (λ s. record s { books = b }) h.rest;
    whole = whole;
    count = subst (λ l. CountsSteps c1.spent l) (sym same) h.count;
    shape = h.shape;
    reserved = h.reserved;
    peaks = h.peaks;
  }

  -- others were doomed, and then it was published
  pub ended_then : (c2 : Core C S I O E T) → c1 ≡ record c { store = c1.store; books = c1.books } →
      SameShape (meaning c.store) (meaning c1.store) → taken c1.store ≡ taken c.store →
      told c1.store ≡ told c.store → c2 ≡ record c1 { store = c2.store; books = c2.books; spent = c2.spent } →
      Whole (meaning c2.store) c2.books → CountsSteps c2.spent c2.books.history.entries →
      SameShape (meaning c1.store) (meaning c2.store) → taken c2.store ≡ taken c1.store →
      told c2.store ≡ told c1.store → HasEnded meaning taken told c c2
  ended_then c2 rest shape reserved peaks rest2 whole count shape2 reserved2 peaks2 = record {
    rest = rest2 ∙ ap {A = Core C S I O E T} {B = Core C S I O E T}
        (λ s. record s { store = c2.store; books = c2.books; spent = c2.spent }) rest;
    whole = whole;
    count = count;
    shape = (shape2.0 ∙ shape.0, shape2.1 ∙ shape.1);
    reserved = reserved2 ∙ reserved;
    peaks = peaks2 ∙ peaks;
  }
