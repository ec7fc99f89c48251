-- The program's faults: how the faults of each command are mapped to them, and the exit status for each.
use Rattle.std.specs.Prelude.{ℕ, ◌≡◌, ◌⊎◌, List, take, string_bytes, Option, Some, false, ◌==◌, Bool, true}
use Rattle.std.specs.Prelude.{if◌then◌else◌, Result, Ok, Err, IfOk, IfErr}
use Rattle.fe_client.specs.declared.fault.CallFault.{CallFault}
use Rattle.fe_client.specs.declared.fault.CallFault.TheVariants as call
use Rattle.fe_look.specs.declared.fault.LookFault.{LookFault}
use Rattle.fe_look.specs.declared.fault.LookFault.TheVariants as look
use Rattle.fe_options.specs.declared.settings_fault.SettingsFault.{SettingsFault}
use Rattle.fe_options.specs.declared.settings_fault.SettingsFault.TheVariants as settings
use Rattle.fe_schedules.specs.declared.fault.ScheduleFault.{ScheduleFault}
use Rattle.fe_schedules.specs.declared.fault.ScheduleFault.TheVariants as schedule
use Rattle.fe_server.specs.declared.serve_fault.ServeFault.{ServeFault}
use Rattle.fe_server.specs.declared.serve_fault.ServeFault.TheVariants as serve
use Rattle.fe_server.specs.declared.stop_fault.StopFault.{StopFault}
use Rattle.fe_server.specs.declared.stop_fault.StopFault.TheVariants as stop
use Rattle.fe_store.specs.declared.fault.OpenFault.{OpenFault}
use Rattle.fe_store.specs.declared.fault.OpenFault.TheVariants as store
use Rattle.fe_text.specs.declared.fault.StreamFault.{StreamFault}
use Rattle.fe_text.specs.declared.fault.StreamFault.TheVariants as stream
use Rattle.femem.specs.declared.fault.Fault.{Fault}
use Rattle.femem.specs.declared.fault.Fault.TheVariants as fault
use Rattle.std.specs.Io.KnownBytes.{Appends}
use Rattle.fe_memory.specs.Memory.{out_of_memory}
use Rattle.toml.specs.Data.{Members}
use Rattle.toml.specs.Parse.{parse_document}
use Rattle.fe_mail.specs.Books.{Books, AddUp}
use Rattle.fe_options.specs.Settings.{IsSettingsOf, RefusesText}
use Rattle.fe_options.specs.declared.settings.Settings.{Settings}
use Rattle.fe_disk.specs.declared.disk.Disk.{Ghosts}
use Rattle.fe_disk.specs.declared.file_disk.FileDisk.{FileDisk}
use Rattle.fe_server.specs.BooksText.{books_text}
use Rattle.fe_server.specs.Serving.{ServesFile, IsUnserved}
use Rattle.fe_server.specs.declared.failed.Failed.{Failed}
use Rattle.fe_server.specs.declared.served.Served.{Served}
use Rattle.clap.specs.declared.error.kind.ErrorKind.{ErrorKind}
use Rattle.clap.specs.declared.error.kind.ErrorKind.TheVariants as kind

-- the exit status: 2 for a fault of the input, the output or the settings, 4 for one of the socket, otherwise
-- 3
abbrev pub status_of : Fault → ℕ
status_of (fault.Line number) = 2
status_of fault.Input = 2
status_of fault.Memory = 3
status_of fault.Device = 3
status_of (fault.Size size) = 3
status_of fault.Unformatted = 3
status_of (fault.Damaged offset) = 3
status_of (fault.Setting key) = 2
status_of fault.UnknownKey = 2
status_of fault.NotToml = 2
status_of fault.Unreadable = 2
status_of fault.Socket = 4
status_of fault.Strange = 3

-- the fault if a stream was not read or written to its end
abbrev pub of_stream : StreamFault → Fault
of_stream stream.Input = fault.Input
of_stream (stream.Memory error) = fault.Memory

-- the fault if a store was not opened
abbrev pub of_store : OpenFault → Fault
of_store store.Device = fault.Device
of_store (store.Memory error) = fault.Memory
of_store (store.Size found) = fault.Size found
of_store store.Unformatted = fault.Unformatted
of_store (store.Damaged offset) = fault.Damaged offset

-- the fault if a schedule was not run to its end
abbrev pub of_schedule : ScheduleFault → Fault
of_schedule (schedule.Line number) = fault.Line number
of_schedule schedule.Input = fault.Input
of_schedule (schedule.Memory error) = fault.Memory
of_schedule schedule.Device = fault.Device

-- the fault if a store was not shown
abbrev pub of_look : LookFault → Fault
of_look (look.Store why) = of_store why
of_look (look.Stream why) = of_stream why

-- the fault if settings were not read
abbrev pub of_settings : SettingsFault → Fault
of_settings (settings.Setting key) = fault.Setting key
of_settings settings.UnknownKey = fault.UnknownKey
of_settings settings.NotToml = fault.NotToml
of_settings settings.Memory = fault.Memory

-- the fault if a server that had opened its store stopped because of a fault
abbrev pub of_stop : StopFault → Fault
of_stop stop.Device = fault.Device
of_stop stop.Memory = fault.Memory
of_stop stop.Strange = fault.Strange

-- the fault if a store was not served
abbrev pub of_serve : {D : Type 0} → ServeFault D → Fault
of_serve (serve.Store why) = of_store why
of_serve (serve.Socket keeper) = fault.Socket

-- the fault if `femem call` did not do all that its input asks
abbrev pub of_call : CallFault → Fault
of_call (call.Line number) = fault.Line number
of_call call.Socket = fault.Socket
of_call call.Input = fault.Input
of_call (call.Memory error) = fault.Memory

-- these are the settings of some text's document
pub record AreSettings (settings : Settings) : Type 0 where
  pub text : List ℕ
  pub document : Members
  pub parsed : parse_document text ≡ Some document
  pub are : IsSettingsOf document settings

-- the file can't be read, memory for its text ran out, or some text is refused with this fault
abbrev pub RefusesFile : Fault → Type 0
RefusesFile end = (end ≡ fault.Unreadable)
    ⊎ ((end ≡ fault.Memory) ⊎ ((text : List ℕ) × (why : SettingsFault) × RefusesText text why
    × (end ≡ of_settings why)))

-- ---- how `femem serve` ends

-- what serving returns: what the server left, with a fault or without, or why nothing was served
abbrev pub ServeResult : Type 0 → Type 0
ServeResult D = Result (Result (Served D) (Failed D)) (ServeFault D)

-- the server ended without a fault, and the text of its books was written
pub record WritesBooksOf {D : Type 0} (ended : ServeResult D) (before after : Option (List ℕ)) : Type 0 where
  pub served : Served D
  pub is_served : ended ≡ Ok (Ok served)
  pub written : Appends before after (books_text served.audit.books)

-- the writer of books failed with this fault, or memory ran out; a front of their text was written
pub record BreaksOffBooks (has_failed : StreamFault → Type 0) (before after : Option (List ℕ)) (books : Books)
    (end : Fault) : Type 0 where
  pub why : StreamFault
  pub is_why : (why ≡ stream.Memory out_of_memory) ⊎ has_failed why
  pub is_end : end ≡ of_stream why
  pub count : ℕ
  pub front : Appends before after (take count (books_text books))

-- The fault is the one with which serving ended, and nothing was written; or the books were not written to
-- their end.
abbrev pub IsFaultOf : {D : Type 0} → (StreamFault → Type 0) → Option (List ℕ) → Option (List ℕ)
    → ServeResult D → Fault → Type 0
IsFaultOf has_failed before after (Ok (Ok served)) end =
    BreaksOffBooks has_failed before after served.audit.books end
IsFaultOf has_failed before after (Ok (Err failed)) end = (end ≡ of_stop failed.fault) × (after ≡ before)
IsFaultOf has_failed before after (Err why) end = (end ≡ of_serve why) × (after ≡ before)

-- The text of books was written: those of a server of the store that some settings name, which ended without
-- a fault. They count each call and each mail in exactly one column, and are not spent. `is_at` says of a
-- path and a file that the file was found there.
pub record WritesBooks {F : Type 0} (model : Ghosts (FileDisk F)) (is_at : List ℕ → F → Type 0)
    (before after : Option (List ℕ)) : Type 0 where
  pub settings : Settings
  pub are : AreSettings settings
  pub served : Served (FileDisk F)
  pub serves : ServesFile model (is_at (string_bytes settings.store)) settings.format (Ok served)
  pub add_up : AddUp served.audit.books
  pub unspent : served.audit.books.spent ≡ false
  pub written : Appends before after (books_text served.audit.books)

-- The fault of a server of the store that some settings name: it was not served for this reason, the server
-- ended with this fault, or its books were not written to their end.
pub record FailsServing {F : Type 0} (model : Ghosts (FileDisk F)) (is_at : List ℕ → F → Type 0)
    (has_failed : StreamFault → Type 0) (before after : Option (List ℕ)) (end : Fault) : Type 0 where
  pub settings : Settings
  pub are : AreSettings settings
  pub ended : ServeResult (FileDisk F)
  pub serves : IfOk ended (ServesFile model (is_at (string_bytes settings.store)) settings.format)
  pub unserved : IfErr ended (IsUnserved model (is_at (string_bytes settings.store)) settings.format)
  pub is_end : IsFaultOf has_failed before after ended end

-- the status for words that ask for no command: 0 for help or a version, 3 if memory ran out, 2 for any other
-- words
abbrev pub words_status : ErrorKind → ℕ
words_status kind.OutOfMemory = 3
words_status kind.DisplayHelp = 0
words_status kind.DisplayVersion = 0
words_status other = 2

-- the status for these words; if help that was asked for could not be written, that of a fault of the output
abbrev pub shown_status : ErrorKind → Bool → ℕ
shown_status k true = words_status k
shown_status k false = if words_status k == 0 then status_of fault.Input else words_status k

-- the status is one for these words, whether what they print could be written or not
abbrev pub IsWordsStatus : ErrorKind → ℕ → Type 0
IsWordsStatus k status = (written : Bool) × (status ≡ shown_status k written)

-- the status of a command: 0 without a fault, otherwise that of its fault
abbrev pub command_status : Result (Unit {0}) Fault → ℕ
command_status (Ok done) = 0
command_status (Err fault) = status_of fault
