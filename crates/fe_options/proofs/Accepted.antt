-- A command line that `clap` accepts asks for one command.
use Rattle.std.proofs.Common.{◌≡◌, ◌<◌, ◌&&◌, ◌||◌, inl, inr, Bool, true, false, not, cond, refl, sym, subst, arith, ℕ, List, [], ◌∷◌, length, length-append, codes, Option, Some, None, is_some}
use Rattle.std.specs.Prelude.{⊤, IfSome, find, fold, option_and_then, option_map, slice_get}
use Rattle.std.specs.List.{AllByRecursion}
use Rattle.std.specs.Option.{option_map_or}
use Rattle.std.specs.Str.{bytes_eq}
use Rattle.std.proofs.lemmas.Bool.{cases_Bool, cond_both, false≢true}
use Rattle.std.proofs.lemmas.Slice.Eq.{bytes_eq-Decides}
use Rattle.clap.specs.Facts.{explicit_source}
use Rattle.clap.specs.Lexer.{long_of, short_of}
use Rattle.clap.specs.Walk.{Held, Names, Outcome, done, waits, plain, refused, Row, Rule, Text, Step, next, trailing, subcommand, value, Waiting, idle, option, positional, Walk, after_flag, after_step, answers_to, arg_by_index, default_rows, finished, first_of, has_row, long_or_other, more_values, nothing_held, plain_word, reading_by, rows_after, settled, short_or_plain, subcommand_met, subcommand_or_other, to_positional, walk, walk_from, walked, walked_from, with_default, without, word_met}
use Rattle.clap.specs.Simple.{App, Shape, argument_words, built, built_leaf, entered, filled, help_shape, inherited, label_of, marked_built, names_of, new_app, rows_at, subcommand_of, with_leaf_noted}
use Rattle.clap.specs.Takes.{is_given}
use Rattle.clap.specs.Kinds.{check_kinds, or_else}
use Rattle.clap.specs.Faults.{check_fault, defaults_fault, entered_fault, fault_of, level_fault, other_fault, settle_fault, step_fault, turn_fault, walk_fault, word_fault}
use Rattle.clap.specs.declared.error.kind.ErrorKind.TheVariants.{DisplayHelp, InvalidSubcommand}
use Rattle.clap.specs.declared.parser.matches.ValueSource.TheVariants.{CommandLine}
use Rattle.fe_options.specs.CommandLine.{femem, is_asked, option_rule, with_option}
use Rattle.fe_options.proofs.Rows.{AreFilled, Fills, at_filled, both_none, end_filled, found, walk_filled}

-- ---- a command with one option

first_value : (values : List Text) → 0 < length values → is_some (slice_get values 0) ≡ true
first_value [] some = absurd (omega arith)
first_value (v ∷ vs) some = refl

row_value : (o : Option Row) → IfSome o (λ r. 0 < length r.values) → option_map_or (λ r. explicit_source r.source) o false ≡ true → is_some (option_and_then (λ r. slice_get r.values 0) o) ≡ true
row_value None filled given = absurd cc
row_value (Some r) filled given = first_value r.values filled

-- an argument that was given has a value
given_value : (id : Text) (rows : List Row) → AreFilled rows → is_given id rows ≡ true → is_some (first_of id rows) ≡ true
given_value id rows filled given = row_value (find (λ r. bytes_eq r.id id) rows) (found (λ r. 0 < length r.values) (λ r. bytes_eq r.id id) rows filled) given

check_last : (x y z : Bool) → check_kinds x y z ≡ [] → z ≡ false
check_last true y z e = absurd cc
check_last false true z e = absurd cc
check_last false false true e = absurd cc
check_last false false false e = refl

not_left_out : (given : Bool) → (not given || (false || false)) ≡ false → given ≡ true
not_left_out true e = refl
not_left_out false e = absurd cc

-- the program above the commands, and a command with an option, once they are built
abbrev above : Shape
above = with_leaf_noted (marked_built femem.top)

abbrev leaf : Text → Text → Shape
leaf name id = built_leaf (inherited above (with_option name id).top)

option_fills : (id : Text) → Fills (filled (option_rule id))
option_fills id again [] rows e h = absurd cc
option_fills id again (v ∷ vs) rows e h =
    at_filled id (more_values CommandLine (v ∷ vs)) _ (without id rows) (λ r p. (omega (arith, length-append r.values (v ∷ vs)), tt)) (omega arith, tt)
    (at_filled id (λ r. []) [] rows (λ r p. tt) tt h)

leaf_fills : (name id : Text) → AllByRecursion Fills (leaf name id).rules
leaf_fills name id = (option_fills id, (λ again values rows e h. h, tt))

no_defaults : (rules : List Rule) (rows : List Row) → AllByRecursion (λ a. a.defaults ≡ []) rules → AreFilled rows → AreFilled (fold with_default rows rules)
no_defaults [] rows none h = h
no_defaults (a ∷ rules) rows none h =
    let one : AreFilled (with_default rows a) =
    cond_both (has_row a.id rows) rows (default_rows a.id (reading_by a) a.defaults rows) AreFilled (λ e. h) (λ e. subst (λ (d : List Text). AreFilled (default_rows a.id (reading_by a) d rows)) (sym none.0) h) in
    no_defaults rules (with_default rows a) none.1 one

-- a command with an option has the option's value after the parse
leaf_value : (name id : Text) (words : List Text) → level_fault (leaf name id) [] nothing_held words false [] ≡ [] → is_some (first_of id (rows_after (leaf name id).rules [] words)) ≡ true
leaf_value name id words e =
    let s : Shape = leaf name id in
    let end : Held = (walk s.rules [] nothing_held words).held in
    let all = leaf_fills name id in
    let a = both_none (walk_fault s [] (walk_from nothing_held) words) (or_else (settle_fault s.rules s.args_override_self end) (or_else (defaults_fault (settled s.rules end).rows s.rules) (check_fault s (finished s.rules end) false))) e in
    let b = both_none (settle_fault s.rules s.args_override_self end) (or_else (defaults_fault (settled s.rules end).rows s.rules) (check_fault s (finished s.rules end) false)) a.1 in
    let d = both_none (defaults_fault (settled s.rules end).rows s.rules) (check_fault s (finished s.rules end) false) b.1 in
    let filled : AreFilled (finished s.rules end) = no_defaults s.rules (settled s.rules end).rows (refl, (refl, tt)) (end_filled s all end b.0 (walk_filled s all [] (walk_from nothing_held) words a.0 tt)) in
    given_value id (finished s.rules end) filled (not_left_out (is_given id (finished s.rules end)) (check_last false false _ d.1))

-- ---- the program

-- a walk does not stop at the command `help`, and a step does not enter it
abbrev IsNoHelp : Option (Text × List Text) → Type 0
IsNoHelp stopped = IfSome stopped (λ p. bytes_eq p.0 (codes "help") ≡ false)

abbrev IsNoHelpStep : Step → Type 0
IsNoHelpStep (subcommand name) = bytes_eq name (codes "help") ≡ false
IsNoHelpStep (next waiting) = ⊤
IsNoHelpStep (trailing position) = ⊤
IsNoHelpStep value = ⊤

plain_step : (c : List Rule) (waiting : Waiting) (word : Text) (h : Held) → IsNoHelpStep (plain_word c waiting word h).1
plain_step c idle word h = tt
plain_step c (option id) word h = tt
plain_step c positional word h = tt

flag_step : (c : List Rule) (waiting : Waiting) (word : Text) (h : Held) (o : Outcome) → IsNoHelpStep (after_flag c waiting word h o).1
flag_step c waiting word h done = tt
flag_step c waiting word h (waits id) = tt
flag_step c waiting word h plain = plain_step c waiting word h
flag_step c waiting word h refused = plain_step c waiting word h

short_step : (c : List Rule) (waiting : Waiting) (word : Text) (o : Option Text) (h : Held) → IsNoHelpStep (short_or_plain c waiting word o h).1
short_step c waiting word None h = plain_step c waiting word h
short_step c waiting word (Some flags) h = flag_step c waiting word _ _

long_step : (c : List Rule) (waiting : Waiting) (word : Text) (o : Option (Text × Option Text)) (h : Held) → IsNoHelpStep (long_or_other c waiting word o h).1
long_step c waiting word None h = short_step c waiting word (short_of word) h
long_step c waiting word (Some q) h = flag_step c waiting word _ _

module _ (s : Shape) (has_help : s.disable_help_subcommand ≡ false) where
  named_step : (is_help : Bool) (off : Bool) → off ≡ false → cond (is_help && not off) (DisplayHelp ∷ InvalidSubcommand ∷ []) [] ≡ [] → is_help ≡ false
  named_step false off is e = refl
  named_step true false is e = absurd cc
  named_step true true is e = absurd cc

  other_step : (met : Option Text) (waiting : Waiting) (position : ℕ) (word : Text) (h : Held) → other_fault s met word h ≡ [] → IsNoHelpStep (subcommand_or_other s.rules met waiting position word h).1
  other_step (Some name) waiting position word h e = named_step (bytes_eq name (codes "help")) s.disable_help_subcommand has_help e
  other_step None waiting position word h e = cond_both (bytes_eq word (45 ∷ 45 ∷ [])) (h, trailing position) (long_or_other s.rules waiting word (long_of word) h) (λ r. IsNoHelpStep r.1) (λ is. tt) (λ other. long_step s.rules waiting word (long_of word) h)

  word_step : (names : Names) (is_trailing : Bool) (waiting : Waiting) (position : ℕ) (word : Text) (h : Held) → word_fault s names is_trailing waiting word h ≡ [] → IsNoHelpStep (word_met s.rules names is_trailing waiting position word h).1
  word_step names true waiting position word h e = tt
  word_step names false waiting position word h e = other_step (subcommand_met names waiting word) waiting position word h e

  value_stop : (o : Option Rule) (word : Text) (w : Walk) (h : Held) → IsNoHelp w.stopped → IsNoHelp (to_positional s.rules o word w h).stopped
  value_stop None word w h p = p
  value_stop (Some a) word w h p = tt

  step_stop : (word : Text) (w : Walk) (h : Held) (step : Step) → IsNoHelp w.stopped → IsNoHelpStep step → IsNoHelp (after_step s.rules word w h step).stopped
  step_stop word w h (next waiting) p q = p
  step_stop word w h (trailing position) p q = p
  step_stop word w h (subcommand name) p q = q
  step_stop word w h value p q = value_stop (arg_by_index s.rules w.position) word w h p

  turn_stop : (names : Names) (stopped : Option (Text × List Text)) (w : Walk) (word : Text) → stopped ≡ w.stopped
      → cond (is_some stopped) [] (or_else (word_fault s names w.is_trailing w.waiting word w.held) (step_fault s w.position (word_met s.rules names w.is_trailing w.waiting w.position word w.held).0 (word_met s.rules names w.is_trailing w.waiting w.position word w.held).1)) ≡ []
      → IsNoHelp stopped → IsNoHelp (walked_from s.rules names stopped w word).stopped
  turn_stop names (Some q) w word same e p = p
  turn_stop names None w word same e p =
      let met = word_met s.rules names w.is_trailing w.waiting w.position word w.held in
      let parts = both_none (word_fault s names w.is_trailing w.waiting word w.held) (step_fault s w.position met.0 met.1) e in
      step_stop word w met.0 met.1 (subst IsNoHelp same p) (word_step names w.is_trailing w.waiting w.position word w.held parts.0)

  walk_stop : (names : Names) (w : Walk) (words : List Text) → walk_fault s names w words ≡ [] → IsNoHelp w.stopped → IsNoHelp (fold (walked s.rules names) w words).stopped
  unfolding walk_fault walked
  walk_stop names w [] e p = p
  walk_stop names w (word ∷ rest) e p =
      let parts = both_none (turn_fault s names w word) (walk_fault s names (walked s.rules names w word) rest) e in
      walk_stop names (walked s.rules names w word) rest parts.1 (turn_stop names w.stopped w word refl parts.0 p)

abbrev program_built : App
program_built = built femem

has_command : (rows : List Row) (has : Bool) → check_fault program_built.top rows has ≡ [] → has ≡ true
has_command rows true e = refl
has_command rows false e = absurd cc

is_no_help : (name : Text) → bytes_eq name (codes "help") ≡ false → (bytes_eq (codes "help") name || false) ≡ true → ⊥
is_no_help name differs is =
    elim (cases_Bool (bytes_eq (codes "help") name)) [
      | inl same ↦ let e : bytes_eq name (codes "help") ≡ true = (bytes_eq-Decides name (codes "help")).1 (sym ((bytes_eq-Decides (codes "help") name).0 same)) in cc
      | inr other ↦ cc
    ]

abbrev run_built : Shape
run_built = built_leaf (inherited above (new_app (codes "run")).top)

abbrev call_built : Shape
call_built = leaf (codes "call") (codes "socket")

abbrev look_built : Shape
look_built = leaf (codes "look") (codes "store")

abbrev help_built : Shape
help_built = built_leaf help_shape

-- the first of the commands, or a later one
in_front : (name : Text) (s : Shape) (others : List Shape) (P : Option Shape → Type 0) → (answers_to name (label_of s) ≡ true → P (Some s))
    → P (find (λ k. answers_to name (label_of k)) others) → P (find (λ k. answers_to name (label_of k)) (s ∷ others))
in_front name s others P here behind = cond_both (answers_to name (label_of s)) (Some s) (find (λ k. answers_to name (label_of k)) others) P here (λ other. behind)

-- a command that was entered without a fault, and is not `help`, asks for something
abbrev Asks : List Text → Option Shape → Type 0
Asks words o = option_map_or (λ s. level_fault s [] nothing_held words false []) o [] ≡ [] → is_some (option_map (λ s. rows_at s words) o) ≡ true → is_asked (option_map (λ s. rows_at s words) o) ≡ true

entered_asks : (stop : Option (Text × List Text)) → IsNoHelp stop → entered_fault program_built stop ≡ [] → is_some (entered program_built stop) ≡ true → is_asked (entered program_built stop) ≡ true
entered_asks None no_help e has = absurd (false≢true has)
entered_asks (Some p) no_help e has =
    let P : Option Shape → Type 0 = Asks p.1 in
    let help : P (find (λ s. answers_to p.0 (label_of s)) (help_built ∷ [])) = in_front p.0 help_built [] P (λ is f g. absurd (is_no_help p.0 no_help is)) (λ f g. absurd (false≢true g)) in
    let look : P (find (λ s. answers_to p.0 (label_of s)) (look_built ∷ help_built ∷ [])) = in_front p.0 look_built (help_built ∷ []) P (λ is f g. leaf_value (codes "look") (codes "store") p.1 f) help in
    let call : P (find (λ s. answers_to p.0 (label_of s)) (call_built ∷ look_built ∷ help_built ∷ [])) = in_front p.0 call_built (look_built ∷ help_built ∷ []) P (λ is f g. leaf_value (codes "call") (codes "socket") p.1 f) look in
    let serve : P (find (λ s. answers_to p.0 (label_of s)) (leaf (codes "serve") (codes "settings") ∷ call_built ∷ look_built ∷ help_built ∷ [])) =
    in_front p.0 (leaf (codes "serve") (codes "settings")) (call_built ∷ look_built ∷ help_built ∷ []) P (λ is f g. leaf_value (codes "serve") (codes "settings") p.1 f) call in
    let each : P (find (λ s. answers_to p.0 (label_of s)) program_built.subs) = in_front p.0 run_built (leaf (codes "serve") (codes "settings") ∷ call_built ∷ look_built ∷ help_built ∷ []) P (λ is f g. refl) serve in
    each e has

-- the words ask for a command, unless `clap` refuses them
pub accepted_asks : (words : List Text) → fault_of femem words ≡ [] → is_asked (subcommand_of femem words) ≡ true
accepted_asks words e =
    let s : Shape = program_built.top in
    let names : Names = names_of program_built in
    let given : List Text = argument_words femem words in
    let end : Held = (walk s.rules names nothing_held given).held in
    let stop : Option (Text × List Text) = (walk s.rules names nothing_held given).stopped in
    let has : Bool = is_some (entered program_built stop) in
    let a = both_none (walk_fault s names (walk_from nothing_held) given) (or_else (entered_fault program_built stop) (or_else (settle_fault s.rules s.args_override_self end) (or_else (defaults_fault (settled s.rules end).rows s.rules) (check_fault s (finished s.rules end) has)))) e in
    let b = both_none (entered_fault program_built stop) (or_else (settle_fault s.rules s.args_override_self end) (or_else (defaults_fault (settled s.rules end).rows s.rules) (check_fault s (finished s.rules end) has))) a.1 in
    let d = both_none (settle_fault s.rules s.args_override_self end) (or_else (defaults_fault (settled s.rules end).rows s.rules) (check_fault s (finished s.rules end) has)) b.1 in
    let f = both_none (defaults_fault (settled s.rules end).rows s.rules) (check_fault s (finished s.rules end) has) d.1 in
    entered_asks stop (walk_stop s refl names (walk_from nothing_held) given a.0 tt) b.0 (has_command (finished s.rules end) has f.1)
