-- The steps of code that writes a prompt and takes a line.
use Rattle.std.proofs.Common.{◌≡◌, ℕ, true, false, List, sym, subst, ◌∙◌}
use Rattle.py_data.specs.declared.stop.Out.TheVariants.{Output}
use Rattle.py_data.specs.Row.{Do, Put, Take, SetMidLine}
use Rattle.py_data.specs.Sense.{Sense, Bracket, IsBracket, Lawful, Safe}
use Rattle.py_data.proofs.Rows.{safe_next}
use Rattle.obj_builtins.specs.Input.{line_limit, line_row, take_row, prompt_row}

module _ {S X : Type 0} {u : Sense S X} where
  -- behind the line that was taken
  pub taken_safe : (L : Lawful u) (v w : X) (line text : List ℕ) → text ≡ line →
      Safe u.partial (take_row {S = S}) (u.heap v) → u.does (Take line_limit) v line w →
      Safe u.partial (line_row {S = S} text) (u.heap w)
  unfolding take_row
  taken_safe L v w line text e s d = subst (λ t. Safe u.partial (line_row {S = S} t) (u.heap w)) (sym e)
      (safe_next L (Take line_limit) (λ l. line_row l) v w line s d)

  -- a view that has written may set the flag
  pub may_set : {b : Bracket S X} (B : IsBracket u b) (v w : X) (text : List ℕ) → u.does (Put Output text) v tt w →
      b.solo w ≡ true
  may_set B v w text d = (B.keeps (Put Output text) v tt w d).1 ∙ B.put v w text d

  -- behind the prompt and the flag
  pub prompted_safe : (L : Lawful u) (v w x : X) (text : List ℕ) → Safe u.partial (prompt_row {S = S} text) (u.heap v)
      → u.does (Put Output text) v tt w → u.does (SetMidLine false) w tt x →
      Safe u.partial (take_row {S = S}) (u.heap x)
  unfolding prompt_row
  prompted_safe L v w x text s d m =
      safe_next L (SetMidLine false) (λ i. take_row) w x tt
      (safe_next L (Put Output text) (λ i. Do (SetMidLine false) (λ j. take_row)) v w tt s d) m
