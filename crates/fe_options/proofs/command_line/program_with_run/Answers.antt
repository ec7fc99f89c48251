use Rattle.std.proofs.Common.{◌≡◌, ◌∙◌, ap, ap₂, codes, false, true}
use Rattle.std.proofs.lemmas.Result.{IfOk-weaker}
use Rattle.clap.specs.Words.{App, app_of, new_app, with_subcommand}
use Rattle.clap.specs.Simple.{Shape, app_of_fields, on_top}
use Rattle.clap.specs.declared.builder.command.Command.TheViews.{out-Command as fields_of}
use Rattle.fe_options.specs.CommandLine.{program}
use Rattle.fe_options.proofs.command_line.program_with_run.Goals as goal

abbrev top_of : App → Shape
top_of a = a.top

pub returns : goal.returns
returns c =
    let run_is : app_of c.about-2.result ≡ new_app (codes "run") = ap app_of_fields c.about-2.ensures ∙ c.new-2.ensures.app in
    let run_local : (fields_of c.about-2.result).has_globals ≡ false = ap (λ f. f.has_globals) c.about-2.ensures ∙ c.new-2.ensures.local in
    let about_is : app_of c.about.result ≡ new_app (codes "femem") = ap app_of_fields c.about.ensures ∙ c.new.ensures.app in
    let version_is : app_of c.version.result ≡ on_top (λ s. record s { has_version = true }) (new_app (codes "femem")) =
    ap app_of_fields c.version.ensures ∙ ap (on_top (λ s. record s { has_version = true })) about_is in
    let program_is : app_of c.subcommand_required-program.result ≡ program =
    ap app_of_fields c.subcommand_required-program.ensures ∙ ap (on_top (λ s. record s { subcommand_required = true })) version_is in
    IfOk-weaker c.subcommand.result _ _ (λ more adds. adds.shape run_local ∙ ap₂ with_subcommand program_is (ap top_of run_is)) c.subcommand.ensures
