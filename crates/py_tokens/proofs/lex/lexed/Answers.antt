use Rattle.std.proofs.Common.{◌≡◌, ◌-◌, ◌∷◌, [], ◌++◌, List, Vec, Global, Bor, length, reverse, sym, ap, ◌∙◌, subst, arith}
use Rattle.py_tokens.specs.declared.character.Character.{Character}
use Rattle.py_tokens.specs.declared.token.Token.{Token}
use Rattle.py_tokens.specs.declared.layout.Mode.TheVariants.{Fresh}
use Rattle.py_tokens.specs.Place.{place}
use Rattle.py_tokens.specs.Words.{cut}
use Rattle.py_tokens.specs.Tokens.{Finishes}
use Rattle.py_tokens.proofs.Loop.{SameTokens, begins, steps, fails, stops, finishes_empty, finishes_turns}
use Rattle.py_tokens.proofs.lex.lexed.Goals as goal

pub loop-turn-init : goal.loop-turn-init
loop-turn-init c =
    let n : length c.args.chars.now ≡ length c.args.chars.now - 0 = omega arith in
    let out : [] ≡ c.new-out.result.items = sym c.new-out.ensures.items in
    let stack : 0 ∷ [] ≡ reverse c.push.new.items.items =
    sym (ap reverse (c.in_ok-push.ensures.ok ∙ ap (λ z. z ++ 0 ∷ []) c.new-stack.ensures.items)) in
    record {
      same =
          subst (λ k. SameTokens c.args.size c.args.chars.now c.new-out.result.items (Fresh 0)
          (reverse c.push.new.items.items) (cut k c.args.size c.args.chars.now)) n
          (subst (λ s. SameTokens c.args.size c.args.chars.now c.new-out.result.items (Fresh 0) s
          (cut (length c.args.chars.now) c.args.size c.args.chars.now)) stack
          (subst (λ o. SameTokens c.args.size c.args.chars.now o (Fresh 0) (0 ∷ [])
          (cut (length c.args.chars.now) c.args.size c.args.chars.now)) out
          (begins c.args.size c.args.chars.now)));
      small = omega arith;
    }

pub returns-in_default : goal.returns-in_default
returns-in_default c =
    let f = subst (λ z. Finishes {X = Vec Token Global} (λ v. v.items) c.finish.result
    (place c.args.size c.args.size z) c.loop-turn.mode (reverse c.loop-turn.stack.items) c.loop-turn.out.items)
    c.last_line.ensures c.finish.ensures in
    finishes_empty {X = Vec Token Global} (λ v. v.items) c.args.size c.args.chars.now c.finish.result
    c.loop-turn.out.items c.loop-turn.mode (reverse c.loop-turn.stack.items) _ c.loop-turn.rest.now
    c.in_default.ensures f c.loop-turn.invariant.same

pub returns-in-Err-lay : goal.returns-in-Err-lay
returns-in-Err-lay c = fails {X = Vec Token Global} (λ v. v.items) c.args.size c.args.chars.now c.in-Err-lay.e
    c.loop-turn.out.items _ c.loop-turn.mode (reverse c.loop-turn.stack.items) _ _ c.loop-turn._turn c.in-Some.c.now _
    c.loop-turn.rest.now c.in-Ok.more.now c.in-Ok.w c.loop-turn-test.true c.in-Some.ensures c.in-Ok.ensures
    c.in-Err-lay.ensures.lays c.loop-turn.invariant.same

pub returns-in-Err : goal.returns-in-Err
returns-in-Err c = stops {X = Vec Token Global} {Y = Bor (List Character)} (λ v. v.items) (λ x. x.now) c.args.size
    c.args.chars.now c.stopped.result c.in-Err.e c.loop-turn.out.items c.loop-turn.mode
    (reverse c.loop-turn.stack.items) _ c.loop-turn._turn c.in-Some.c.now _ c.loop-turn.rest.now c.place_of.result
    c.loop-turn-test.true c.in-Some.ensures c.in-Err.ensures c.place_of.ensures c.stopped.ensures
    c.loop-turn.invariant.same

pub loop-turn-preserved : goal.loop-turn-preserved
loop-turn-preserved c = record {
  same = steps c.args.size c.args.chars.now c.loop-turn.out.items _ c.loop-turn.mode _
      (reverse c.loop-turn.stack.items) _ _ c.loop-turn._turn c.in-Some.c.now _ c.loop-turn.rest.now c.in-Ok.more.now
      c.in-Ok.w c.loop-turn-test.true c.in-Some.ensures c.in-Ok.ensures c.in-Ok-lay.ensures.lays
      c.loop-turn.invariant.same;
  small = omega (arith, c.in-Ok-lay.ensures.grows);
}

pub returns : goal.returns
returns c =
    let f = subst (λ z. Finishes {X = Vec Token Global} (λ v. v.items) c.finish-2.result
    (place c.args.size c.args.size z) c.loop-turn.mode (reverse c.loop-turn.stack.items) c.loop-turn.out.items)
    c.last_line.ensures c.finish-2.ensures in
    finishes_turns {X = Vec Token Global} (λ v. v.items) c.args.size c.args.chars.now c.finish-2.result
    c.loop-turn.out.items c.loop-turn.mode (reverse c.loop-turn.stack.items) _ c.loop-turn._turn
    c.loop-turn.rest.now c.loop-turn-test.false f c.loop-turn.invariant.same
