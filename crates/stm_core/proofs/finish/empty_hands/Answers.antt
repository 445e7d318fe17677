use Rattle.std.proofs.Common.{◌≡◌, ◌++◌, ◌∷◌, [], length, sym, subst, ap, arith, length-append}
use Rattle.stm_segment.specs.declared.books.Hand.TheVariants.{Idle}
use Rattle.stm_segment.specs.Books.{AllIdle}
use Rattle.stm_core.proofs.Ends.{push_idle}
use Rattle.stm_core.proofs.finish.empty_hands.Goals as goal

pub hands-preserved : goal.hands-preserved
hands-preserved g c =
    let e : c.push.new.self.items ≡ c.hands.hands.items ++ Idle ∷ [] = c.in_ok-push.ensures.items in
    let n = length-append c.hands.hands.items (Idle ∷ []) in
    let m = ap length e in
    let v = c.hands.invariant.0 in
    (omega (arith, n, m, v), subst AllIdle (sym e) (push_idle c.hands.hands.items c.hands.invariant.1))
