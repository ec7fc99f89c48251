-- The command line: its commands, and what they ask for (`docs/commands.md`).
use Rattle.std.specs.Prelude.{◌≡◌, List, codes, Bool, true, false, Option, Some, None, is_some, if◌then◌else◌}
use Rattle.std.specs.Str.{bytes_eq}
use Rattle.clap.specs.Words.{App, Row, Rule, Text, first_of, new_app, new_rule, with_rule, with_subcommand}
use Rattle.clap.specs.Simple.{on_top}
use Rattle.fe_options.specs.declared.command_line.Invocation.{Invocation}
use Rattle.fe_options.specs.declared.command_line.Invocation.TheVariants.{Run, Serve, Call, Look}

-- a required option with one value
abbrev pub option_rule : Text → Rule
option_rule name = record (new_rule name) { long = Some name; value_names = 1; required = true }

-- a command with one option
abbrev pub with_option : Text → Text → App
with_option name option = with_rule (new_app name) (option_rule option)

-- the program, which has a version and requires a command
abbrev pub program : App
program = on_top (λ s. record s { has_version = true; subcommand_required = true }) (new_app (codes "femem"))

-- the program with `run`, which has no option
abbrev pub program_with_run : App
program_with_run = with_subcommand program (new_app (codes "run")).top

-- `run`, `serve --settings FILE`, `call --socket PATH` and `look --store PATH`
abbrev pub femem : App
femem =
    with_subcommand
    (with_subcommand
    (with_subcommand program_with_run
    (with_option (codes "serve") (codes "settings")).top)
    (with_option (codes "call") (codes "socket")).top)
    (with_option (codes "look") (codes "store")).top

-- the command with this name and these option values asks for this invocation
abbrev pub IsCommand : Invocation → Text → List Row → Type 0
IsCommand Run name found = name ≡ codes "run"
IsCommand (Serve settings) name found =
    (name ≡ codes "serve") × (first_of (codes "settings") found ≡ Some settings.now)
IsCommand (Call socket) name found =
    (name ≡ codes "call") × (first_of (codes "socket") found ≡ Some socket.now)
IsCommand (Look store) name found = (name ≡ codes "look") × (first_of (codes "store") found ≡ Some store.now)

-- the command that was entered, with its option values, asks for this invocation
abbrev pub IsAsked : Invocation → Option (Text × List Row) → Type 0
IsAsked asked None = ⊥
IsAsked asked (Some met) = IsCommand asked met.0 met.1

-- whether the command with this name and these option values asks for something
abbrev pub is_complete : Text → List Row → Bool
is_complete name found =
    if bytes_eq name (codes "run") then true
    else if bytes_eq name (codes "serve") then is_some (first_of (codes "settings") found)
    else if bytes_eq name (codes "call") then is_some (first_of (codes "socket") found)
    else if bytes_eq name (codes "look") then is_some (first_of (codes "store") found)
    else false

-- whether the command that was entered asks for something
abbrev pub is_asked : Option (Text × List Row) → Bool
is_asked None = false
is_asked (Some met) = is_complete met.0 met.1
