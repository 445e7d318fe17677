-- Extents that a draft takes.
use Rattle.std.proofs.Common.{◌≡◌, ℕ, ◌/◌, Bool, true, List, [], ◌++◌, length, take, drop, inl, inr, sym, ◌∙◌, ap, subst}
use Rattle.std.proofs.lemmas.Bool.{or_cases}
use Rattle.std.proofs.lemmas.List.{append-nil}
use Rattle.std.proofs.Math.Seq.{take-append_seam, drop-append_seam}
use Rattle.page_table.specs.Pages.{Table, IsTable}
use Rattle.paged_store.specs.declared.extent.Extent.{Extent}
use Rattle.paged_store.specs.Words.{in_span}
use Rattle.paged_store.specs.Paged.{in_extents}
use Rattle.paged_store.specs.inner.Claiming.{Claims}
use Rattle.paged_store.specs.inner.Ending.{ExtentsLie, HaveClasses, LieSideBySide, HaveRoom, GivenBack}
use Rattle.paged_store.specs.inner.Taking.{OwnExtents, Takes}
use Rattle.paged_store.specs.inner.Writing.{Desk, Opened, OwnSpan}
use Rattle.paged_store.proofs.ClaimLemmas.{claims_back, room_claimed}

-- ---- pages that are opened, run by run

pub opened_then : (a b c : Table) → Opened a b → Opened b c → Opened a c
opened_then a b c o p = record {
  same = p.same ∙ (λ i. record (o.same i) { own = c.own });
  own = λ j q h. p.own j q (o.own j q h);
}

pub own_run_step : (k from to place words end : ℕ) (xs : List Extent) (t u : Table) →
    LieSideBySide end xs from to place words → OwnExtents k (take from xs) t → Opened t u → OwnSpan k place words u →
    OwnExtents k (take to xs) u
own_run_step k from to place words end xs t u run own o here p h =
    elim (or_cases (in_extents (take from xs) p) (in_span place words p)
    (sym (ap (λ (f : ℕ → Bool). f p) run.places) ∙ h)) [
      | inl x ↦ o.own k (p / 512) (own p x)
      | inr x ↦ here p x
    ]

-- ---- what is taken

claims_own : (o : ℕ → ℕ → Bool) (xs : List Extent) (t u : Table) → Claims xs t u →
    Claims xs (record t { own = o }) (record u { own = o })
claims_own o xs t u c = record {
  others = ap (λ (z : Table). record z { own = o }) c.others;
  more = c.more;
  lie = c.lie;
  classes = c.classes;
  total = c.total;
  count = c.count;
  spare = c.spare;
}

pub takes_none : (k : ℕ) (old : Desk) (u : Table) (taken : List Extent) → Claims [] old.table u →
    taken ≡ old.draft.taken
    → Takes k [] old (record { table = u; draft = record old.draft { taken = taken } })
takes_none k old u taken c e = record {
  own = old.table.own;
  grows = λ j q h. h;
  claims = c;
  draft = λ i. record old.draft { taken = (e ∙ sym (append-nil old.draft.taken)) i };
  opened = λ p h. absurd (cc);
}

module _ (k : ℕ) (xs : List Extent) (old : Desk) (u v : Table) (c : Claims xs old.table u) (o : Opened u v) where
  own_then : (j q : ℕ) → old.table.own j q ≡ true → v.own j q ≡ true
  own_then j q h = o.own j q (ap (λ (t : Table). t.own j q) c.others ∙ h)

  claims_opened : Claims xs (record old.table { own = v.own }) v
  claims_opened = subst (Claims xs (record old.table { own = v.own })) (sym o.same) (claims_own v.own xs old.table u c)

  pub takes_all : (taken zs : List Extent) → taken ≡ old.draft.taken ++ xs → zs ≡ xs → OwnExtents k zs v
      → Takes k xs old (record { table = v; draft = record old.draft { taken = taken } })
  takes_all taken zs e z own = record {
    own = v.own;
    grows = own_then;
    claims = claims_opened;
    draft = λ i. record old.draft { taken = e i };
    opened = subst (λ ys. OwnExtents k ys v) z own;
  }

  pub takes_back : (w : Table) (taken zs : List Extent) (n : ℕ) → taken ≡ old.draft.taken ++ xs →
      n ≡ length old.draft.taken → zs ≡ xs → GivenBack zs v w
      → Takes k [] old (record { table = w; draft = record old.draft { taken = take n taken } })
  takes_back w taken zs n e m z g =
      let back = claims_back xs (record old.table { own = v.own }) v w claims_opened
      (subst (λ ys. GivenBack ys v w) z g) in record {
        own = v.own;
        grows = own_then;
        claims = back;
        draft = λ i. record old.draft {
          taken = ((λ j. take (m j) (e j)) ∙ take-append_seam old.draft.taken xs ∙ sym (append-nil old.draft.taken)) i;
        };
        opened = λ p h. absurd (cc);
      }

  -- they lie where they may, and there is room for them on the shelves
  pub room_opened : (zs : List Extent) → zs ≡ xs → IsTable old.table → HaveRoom zs v
  room_opened zs z t = subst (HaveRoom zs) (sym o.same)
      (subst (λ ys. HaveRoom ys u) (sym z) (room_claimed xs old.table u t c))

  pub lie_opened : (zs : List Extent) → zs ≡ xs → ExtentsLie v.reserved zs
  lie_opened zs z = subst (λ ys. ExtentsLie v.reserved ys) (sym z)
      (subst (λ n. ExtentsLie n xs) (sym (ap (λ (t : Table). t.reserved) o.same)) c.lie)

pub lie_claimed : (xs zs : List Extent) (t u : Table) → Claims xs t u → zs ≡ xs → ExtentsLie u.reserved zs
lie_claimed xs zs t u c z = subst (λ ys. ExtentsLie u.reserved ys) (sym z) c.lie

pub classes_claimed : (xs zs : List Extent) (t u : Table) → Claims xs t u → zs ≡ xs → HaveClasses zs
classes_claimed xs zs t u c z = subst HaveClasses (sym z) c.classes

pub takes_kept : (k : ℕ) (xs : List Extent) (old : Desk) (t : Table) (taken now : List Extent) → taken ≡ now
    → Takes k xs old (record { table = t; draft = record old.draft { taken = taken } })
    → Takes k xs old (record { table = t; draft = record old.draft { taken = now } })
takes_kept k xs old t taken now e h = let P : List Extent → Type 0 = λ z.
    Takes k xs old (record { table = t; draft = record old.draft { taken = z } }) in subst P e h

-- those that follow the ones that were there
pub last_ones : (old xs taken zs : List Extent) (n : ℕ) → taken ≡ old ++ xs → n ≡ length old → zs ≡ drop n taken →
    zs ≡ xs
last_ones old xs taken zs n e m z = z ∙ (λ i. drop (m i) (e i)) ∙ drop-append_seam old xs
