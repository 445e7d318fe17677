use Rattle.std.proofs.Common.{rules, arith, ◌≡◌, ap, List, ◌∷◌, [], ◌++◌, length, length-append, sym, subst, ℕ, slice_get}
use Rattle.seg_store.specs.declared.hand.Hand.{Hand}
use Rattle.seg_store.specs.Meaning.{no_part}
use Rattle.seg_store.specs.inner.Tables.{part_in}
use Rattle.seg_store.proofs.Stores.{hand_more}
use Rattle.seg_store.proofs.plain.new_hands.Goals as goal

pub segments-preserved : goal.segments-preserved
segments-preserved c =
    let e : c.push.new.self.items ≡ c.segments.hands.items ++ c.new.result ∷ [] = search rules in
    record {
      length = let l = ap length e in let m = length-append c.segments.hands.items (c.new.result ∷ []) in omega arith;
      empty = subst (λ (hs : List Hand). (k : ℕ) → part_in (slice_get hs k) ≡ no_part) (sym e)
          (hand_more c.segments.hands.items c.new.result c.segments.invariant.empty c.new.ensures);
    }
