use Rattle.std.proofs.Common.{◌-◌, ◌∙◌, reverse, Ok, ap}
use Rattle.py_tokens.specs.declared.word.Word.TheVariants.{Blank, Comment, Joint, Opens, Closes, Plain}
use Rattle.py_tokens.proofs.Laying.{as_word, as_mode, lays_blank, lays_comment, lays_joint, lays_opens, lays_closes, lays_plain}
use Rattle.py_tokens.proofs.layout.lay.Goals as goal

pub returns-in-Blank-clause-lays : goal.returns-in-Blank-clause-lays
returns-in-Blank-clause-lays c =
    let stack = reverse c.args.stack.now.items in
    let out = c.args.out.now.items in
    as_word (Ok c.blanked.result) c.args.mode stack stack out out c.args.w (Blank c.in-Blank.b) c.in-Blank.is
    (as_mode c.blanked.result _ c.args.mode stack stack out out (Blank c.in-Blank.b) c.blanked.ensures.value
    (lays_blank c.args.mode c.in-Blank.b stack out))

pub returns-in-Comment-clause-lays : goal.returns-in-Comment-clause-lays
returns-in-Comment-clause-lays c =
    let stack = reverse c.args.stack.now.items in
    let out = c.args.out.now.items in
    as_word (Ok c.args.mode) c.args.mode stack stack out out c.args.w Comment c.in-Comment.is
    (lays_comment c.args.mode stack out)

pub returns-in-Joint-clause-lays : goal.returns-in-Joint-clause-lays
returns-in-Joint-clause-lays c =
    let stack = reverse c.args.stack.now.items in
    let out = c.args.out.now.items in
    as_word (Ok c.held.result) c.args.mode stack stack out out c.args.w (Joint c.in-Joint.place) c.in-Joint.is
    (as_mode c.held.result _ c.args.mode stack stack out out (Joint c.in-Joint.place) c.held.ensures
    (lays_joint c.args.mode c.in-Joint.place stack out))

pub returns-in-Opens-clause-lays : goal.returns-in-Opens-clause-lays
returns-in-Opens-clause-lays c =
    as_word c.take.result c.args.mode _ _ _ _ c.args.w (Opens c.in-Opens.t) c.in-Opens.is
    (lays_opens c.take.result c.args.mode c.in-Opens.t c.depth_of.result _ _ _ _ c.depth_of.ensures.value
    c.take.ensures.takes)

pub returns-in-Closes-clause-lays : goal.returns-in-Closes-clause-lays
returns-in-Closes-clause-lays c =
    as_word c.take-in-Closes.result c.args.mode _ _ _ _ c.args.w (Closes c.in-Closes.t) c.in-Closes.is
    (lays_closes c.take-in-Closes.result c.args.mode c.in-Closes.t c.saturating_sub.result _ _ _ _
    (c.saturating_sub.ensures ∙ ap (λ d. d - 1) c.depth_of-in-Closes.ensures.value) c.take-in-Closes.ensures.takes)

pub returns-in-Plain-clause-lays : goal.returns-in-Plain-clause-lays
returns-in-Plain-clause-lays c =
    as_word c.take-in-Plain.result c.args.mode _ _ _ _ c.args.w (Plain c.in-Plain.t) c.in-Plain.is
    (lays_plain c.take-in-Plain.result c.args.mode c.in-Plain.t c.depth_of-in-Plain.result _ _ _ _
    c.depth_of-in-Plain.ensures.value c.take-in-Plain.ensures.takes)
