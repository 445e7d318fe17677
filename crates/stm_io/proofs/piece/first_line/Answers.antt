use Rattle.std.proofs.Common.{◌≡◌, eqb, position, sym, ap, ◌∙◌, rules, tests}
use Rattle.std.specs.Io.BufRead.{take_through}
use Rattle.std.proofs.lemmas.Iterator.{YieldsList-from_slice}
use Rattle.std.proofs.lemmas.Iterator.Search.{position_from_yields_List}
use Rattle.stm_io.proofs.Line.{take_through_found, take_through_missed}
use Rattle.stm_io.proofs.piece.first_line.Goals as goal

pub returns-in-Some-clause-line : goal.returns-in-Some-clause-line
returns-in-Some-clause-line c =
    let w = c.front-window.result.now in
    let e : c.position.result ≡ position (λ x. eqb x 10) w =
    position_from_yields_List (λ x. eqb x 10) _ _ c.position.result c.position.ensures.ran
    (YieldsList-from_slice w cc) (λ x b q k. search (rules, tests)) in
    take_through_found 10 w c.in-Some.place (sym e ∙ c.in-Some.is) ∙ ap (take_through 10) c.front-window.ensures

pub returns-in-None-clause-line : goal.returns-in-None-clause-line
returns-in-None-clause-line c =
    let w = c.front-window.result.now in
    let e : c.position.result ≡ position (λ x. eqb x 10) w =
    position_from_yields_List (λ x. eqb x 10) _ _ c.position.result c.position.ensures.ran
    (YieldsList-from_slice w cc) (λ x b q k. search (rules, tests)) in
    take_through_missed 10 w (sym e ∙ c.in-None.is) ∙ ap (take_through 10) c.front-window.ensures
