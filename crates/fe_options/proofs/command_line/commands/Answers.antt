use Rattle.std.proofs.Common.{◌≡◌, ◌∙◌, ap, ap₂, false, subst, IfOk, Ok}
use Rattle.std.specs.Prelude.{Result}
use Rattle.std.proofs.lemmas.Result.{IfOk-weaker}
use Rattle.clap.specs.Words.{AddsSubcommand, App, Text, app_of, with_subcommand}
use Rattle.clap.specs.Simple.{Shape}
use Rattle.clap.specs.declared.builder.command.Command.{Command}
use Rattle.clap.specs.declared.builder.command.Command.TheViews.{out-Command as fields_of}
use Rattle.fe_options.specs.CommandLine.{with_option}
use Rattle.fe_options.proofs.command_line.commands.Goals as goal

abbrev top_of : App → Shape
top_of a = a.top

-- a program with a command that was built
with_made : {E : Type 0} (old more : Command) (before : App) (name option : Text) (made : Result Command E)
    → IfOk made (λ command. app_of command ≡ with_option name option)
    → IfOk made (λ command. (fields_of command).has_globals ≡ false)
    → app_of old ≡ before
    → ((added : Command) × (made ≡ Ok added) × AddsSubcommand old added more)
    → app_of more ≡ with_subcommand before (with_option name option).top
with_made old more before name option made app local is with =
    let added_is : app_of with.0 ≡ with_option name option = subst (λ r. IfOk r (λ command. app_of command ≡ with_option name option)) with.1 app in
    let added_local : (fields_of with.0).has_globals ≡ false = subst (λ r. IfOk r (λ command. (fields_of command).has_globals ≡ false)) with.1 local in
    with.2.shape added_local ∙ ap₂ with_subcommand is (ap top_of added_is)

pub returns : goal.returns
returns c =
    let with_serve = with_made _ _ _ _ _ _ c.serving.ensures.app c.serving.ensures.local c.in_ok-with_run.ensures c.in_ok-with_serve.ensures in
    let with_call = with_made _ _ _ _ _ _ c.with_option-call.ensures.app c.with_option-call.ensures.local with_serve c.in_ok-with_call.ensures in
    IfOk-weaker c.with-3.result _ _ (λ more made. with_made _ _ _ _ _ _ c.with_option-look.ensures.app c.with_option-look.ensures.local with_call made) c.with-3.ensures
