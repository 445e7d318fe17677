-- What follows a call of a view.
use Rattle.std.proofs.Common.{◌≡◌, ℕ, true, List, subst, ◌∙◌}
use Rattle.py_data.specs.declared.stop.Out.TheVariants.{Output}
use Rattle.py_data.specs.Row.{Call, Reply, Row, Do, Put}
use Rattle.py_data.specs.Sense.{Sense, Bracket, IsBracket, Lawful, Safe, IsLive}
use Rattle.py_data.proofs.Rows.{safe_next}

module _ {S X : Type 0} {u : Sense S X} where
  -- what a safe row asks behind a call, where what follows is known by another name
  pub safe_behind : {A : Type 0} (L : Lawful u) (c : Call S) (k : Reply c → Row S A) (rest : Row S A) (v w : X)
      (r : Reply c) → u.does c v r w → Safe u.partial (Do c k) (u.heap v) → k r ≡ rest → Safe u.partial rest (u.heap w)
  safe_behind L c k rest v w r d s e = subst (λ z. Safe u.partial z (u.heap w)) e (safe_next L c k v w r s d)

  -- a call that was done leaves a view that has not stopped
  pub live_behind : (L : Lawful u) (c : Call S) (v w : X) (r : Reply c) → u.does c v r w → IsLive u w
  live_behind L c v w r d l = L.live c v r w d l

  -- a view that has written may set the flag
  pub may_set : {b : Bracket S X} (B : IsBracket u b) (v w : X) (text : List ℕ) → u.does (Put Output text) v tt w →
      b.solo w ≡ true
  may_set B v w text d = (B.keeps (Put Output text) v tt w d).1 ∙ B.put v w text d

pub ruleset after_steps = (safe_behind, live_behind)
