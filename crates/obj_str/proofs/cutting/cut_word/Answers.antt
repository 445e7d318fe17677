use Rattle.std.proofs.Common.{arith, ◌≡◌, ◌<◌, length, ap, sym, subst, ◌∙◌, ◌∷◌, take, drop}
use Rattle.std.proofs.lemmas.Grind.{common_steps}
use Rattle.obj_str.specs.Pieces.{words}
use Rattle.obj_str.proofs.BlankLemmas.{word_none, word_first, word_shorter}
use Rattle.obj_str.proofs.cutting.cut_word.Goals as goal

pub returns-then-is_empty-clause-pieces : goal.returns-then-is_empty-clause-pieces
returns-then-is_empty-clause-pieces c =
    let l : length c.without_front-rest.result.now ≡ 0 = grind (arith, common_steps) in
    word_none c.args.bytes.now c.without_front-rest.result.now c.without_front-rest.ensures l

pub returns-clause-pieces : goal.returns-clause-pieces
returns-clause-pieces c =
    let rest = c.without_front-rest.result.now in
    let l : 0 < length rest = grind (arith, common_steps) in
    word_first c.args.bytes.now rest c.without_front-rest.ensures l
    ∙ (ap (λ n. take n rest ∷ words (drop n rest)) (sym c.word_length-n.ensures) ∙
    (ap (λ p. p ∷ words (drop c.word_length-n.result rest)) (sym c.first.ensures) ∙
    ap (λ p. c.first.result.now ∷ words p) (sym c.skip.ensures)))

pub returns-clause-shorter : goal.returns-clause-shorter
returns-clause-shorter c =
    let rest = c.without_front-rest.result.now in
    let l : 0 < length rest = grind (arith, common_steps) in
    let e = c.skip.ensures ∙ ap (λ n. drop n rest) c.word_length-n.ensures in
    subst (λ p. length p < length c.args.bytes.now) (sym e)
    (word_shorter c.args.bytes.now rest c.without_front-rest.ensures l)
