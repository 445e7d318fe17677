-- What the command is that the code makes.
use Rattle.std.proofs.Common.{◌≡◌, ◌∙◌, false, true, ap, ap₂, codes}
use Rattle.clap.specs.Words.{AddsArg, App, Rule, app_of, new_app, rule_of, with_rule}
use Rattle.clap.specs.Simple.{app_of_fields}
use Rattle.clap.specs.declared.builder.command.Command.TheViews.{out-Command as fields_of}
use Rattle.clap.specs.declared.builder.arg.Arg.{Arg}
use Rattle.clap.specs.declared.builder.command.Command.{Command}
use Rattle.stm_words.specs.inner.Given.{bare_app}

abbrev bared : App → App
bared a = record a { top = record a.top { no_binary_name = true; disable_help_flag = true } }

pub bare_is : (a b c : Command) → app_of a ≡ new_app (codes "pystm")
    → fields_of b ≡ record (fields_of a) { no_binary_name = true }
    → fields_of c ≡ record (fields_of b) { disable_help_flag = true } → app_of c ≡ bare_app
bare_is a b c new named helped = ap app_of_fields helped
    ∙ ap (λ f. app_of_fields (record f { disable_help_flag = true })) named ∙ ap bared new

pub with_is : (old new : Command) (a : Arg) (app : App) (r : Rule) → AddsArg old a new → a.global ≡ false
    → rule_of a ≡ r → app_of old ≡ app → app_of new ≡ with_rule app r
with_is old new a app r adds local rule is = adds.shape local ∙ ap₂ with_rule is rule
