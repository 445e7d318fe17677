use Rattle.stm_core.proofs.Advanced.{advanced_so, advanced_led, led_own}
use Rattle.stm_core.proofs.laws.advance_law.Goals as goal

pub returns-clause-moves : goal.returns-clause-moves
returns-clause-moves g c = λ p length k n most reserved limit o o1 r a.
    advanced_so p length k n most reserved limit o o1 r a

pub returns-clause-led : goal.returns-clause-led
returns-clause-led g c = λ p first length k n most reserved limit o o1 r h below a.
    advanced_led p first length k n most reserved limit o o1 r h below a

pub returns-clause-own : goal.returns-clause-own
returns-clause-own g c = led_own
