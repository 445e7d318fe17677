use Rattle.std.proofs.Common.{◌≡◌, ◌∙◌, ◌++◌, ap₂, decimal, rules}
use Rattle.stm_words.proofs.Texts.{back, demo_is, front}
use Rattle.stm_words.proofs.demo.demo_text.Goals as goal

pub returns : goal.returns
returns c =
    let first : c.in_ok-text.text.items ≡ front = c.in_ok-text.ensures.items ∙ c.as_bytes.ensures.value in
    let number : c.as_bytes-2.result.now ≡ decimal c.args.n = search rules in
    let last : c.as_bytes-3.result.now ≡ back = c.as_bytes-3.ensures.value in
    let two : c.extend_from_slice.new.self.items ≡ c.in_ok-text.text.items ++ c.as_bytes-2.result.now = search rules in
    let three : c.extend_from_slice-2.new.self.items ≡ c.extend_from_slice.new.self.items ++ c.as_bytes-3.result.now =
    search rules in
    three ∙ ap₂ (λ x y. x ++ y) (two ∙ ap₂ (λ x y. x ++ y) first number) last ∙ demo_is c.args.n
