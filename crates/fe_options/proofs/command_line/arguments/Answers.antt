use Rattle.std.proofs.Common.{◌≡◌, ◌∙◌, ap, subst, List, [], map}
use Rattle.std.proofs.lemmas.Bool.{false≢true}
use Rattle.clap.specs.Words.{App, Text, fault_of, is_simple, is_simple_and_free, subcommand_of, subcommand_rows_of}
use Rattle.fe_options.specs.CommandLine.{femem, is_asked}
use Rattle.fe_options.proofs.Accepted.{accepted_asks}
use Rattle.fe_options.proofs.command_line.arguments.Goals as goal

pub unreachable-requires : goal.unreachable-requires
unreachable-requires g c =
    let words : List Text = map g.S.AsStr.text c.args.words.now in
    let met : subcommand_rows_of c.in_ok-matches.matches ≡ subcommand_of femem words =
    (c.in_ok-matches.ensures.matches (ap is_simple c.in_ok-program.ensures)).1 ∙ ap (λ (a : App). subcommand_of a words) c.in_ok-program.ensures in
    let accepted : fault_of femem words ≡ [] =
    subst (λ (a : App). fault_of a words ≡ []) c.in_ok-program.ensures (c.in_ok-matches.ensures.kinds (ap is_simple_and_free c.in_ok-program.ensures)) in
    false≢true (c.in-None.ensures.complete ∙ ap is_asked met ∙ accepted_asks words accepted)
