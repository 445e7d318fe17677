use Rattle.std.proofs.Common.{◌*◌, ◌-◌, ◌≤◌, reverse, length}
use Rattle.py_tokens.specs.Words.{cut}
use Rattle.py_tokens.specs.Tokens.{reach}
use Rattle.py_tokens.proofs.Loop.{SameTokens}
use Rattle.py_tokens.proofs.lex.lexed.Given as goal

abbrev pub invariant-loop-turn : goal.invariant-loop-turn
invariant-loop-turn l = record {
  same : SameTokens l.size l.fn.chars l.out.items l.mode (reverse l.stack.items)
      (cut (length l.fn.chars - l._turn) l.size l.rest);
  small : reach l.mode ≤ 8 * l._turn;
}
