-- Records that are within the limit of length and have one list.
use Rattle.std.proofs.Common.{◌≡◌, true, cond, Option, Some, None, Bor, IfSome, sym, subst}
use Rattle.std.specs.Option.{option_copied}
use Rattle.py_data.specs.declared.change.Change.{Change}
use Rattle.py_data.specs.Changes.{after, Allows, IsShort}
use Rattle.py_data.specs.Heap.{Rec}
use Rattle.py_data.proofs.Grow.{for_tracked}
use Rattle.py_data.proofs.Short.{short_after}
use Rattle.seg_store.specs.inner.Holding.{is_empty, one_list, IsGood}
use Rattle.seg_store.proofs.OneLists.{one_after}

pub good_some : (x : Option Rec) (o : Option (Bor Rec)) → option_copied o ≡ x → ((r : Rec) → x ≡ Some r → IsGood r) →
    IfSome o (λ r. IsGood r.now)
good_some x None e f = tt
good_some x (Some r) e f = f r.now (sym e)

-- a record that was changed, as it allows it
pub good_change : (q : Rec) (c : Change) (r : Rec) → Allows c q → IsGood q → r ≡ after c q → IsGood r
good_change q c r k g n =
    let l : IsShort r = subst IsShort (sym n) (short_after c q k (g.values, g.bytes)) in
    record {
      values = l.0;
      bytes = l.1;
      one = subst (λ (r : Rec). one_list r.kind r.values r.bytes ≡ true) (sym n)
          (one_after (λ b vs bs. cond b (is_empty vs) (is_empty bs) ≡ true) (λ vs ws bs o. o) c q
          (for_tracked c q.kind k.0) g.one);
    }
