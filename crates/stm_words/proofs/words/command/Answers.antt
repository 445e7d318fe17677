use Rattle.std.proofs.lemmas.Result.{IfOk-weaker}
use Rattle.stm_words.proofs.Made.{bare_is, with_is}
use Rattle.stm_words.proofs.words.command.Goals as goal

pub returns : goal.returns
returns c =
    let bare = bare_is c.new.result c.no_binary_name.result c.disable_help_flag.result c.new.ensures.app
    c.no_binary_name.ensures c.disable_help_flag.ensures in
    let one = with_is _ _ _ _ _ c.in_ok-arg.ensures c.option.ensures.local c.option.ensures.rule bare in
    let two = with_is _ _ _ _ _ c.in_ok-arg-2.ensures c.option-2.ensures.local c.option-2.ensures.rule one in
    let three = with_is _ _ _ _ _ c.in_ok-arg-3.ensures c.option-3.ensures.local c.option-3.ensures.rule two in
    let four = with_is _ _ _ _ _ c.in_ok-arg-4.ensures c.option-4.ensures.local c.option-4.ensures.rule three in
    let five = with_is _ _ _ _ _ c.in_ok-arg-5.ensures c.option-5.ensures.local c.option-5.ensures.rule four in
    IfOk-weaker c.arg-6.result _ _ (λ r h. with_is _ r _ _ _ h c.new-2.ensures.optional.1 c.new-2.ensures.rule five)
    c.arg-6.ensures
