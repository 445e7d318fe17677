use Rattle.std.proofs.Common.{rules, arith, ◌≡◌, ap, List, ◌∷◌, [], ◌++◌, length, length-append, sym, subst, ℕ, slice_get}
use Rattle.paged_store.specs.declared.draft.Draft.{Draft}
use Rattle.paged_store.specs.Paged.{no_draft, drafted_in}
use Rattle.paged_store.proofs.NewCall.{draft_more}
use Rattle.paged_store.proofs.store.new_drafts.Goals as goal

pub segments-preserved : goal.segments-preserved
segments-preserved c =
    let e : c.push.new.self.items ≡ c.segments.drafts.items ++ c.new.result ∷ [] = search rules in
    record {
      length = let l = ap length e in let m = length-append c.segments.drafts.items (c.new.result ∷ []) in omega arith;
      empty = subst (λ (ds : List Draft). (k : ℕ) → drafted_in (slice_get ds k) ≡ no_draft) (sym e)
          (draft_more c.segments.drafts.items c.new.result c.segments.invariant.empty c.new.ensures);
    }
