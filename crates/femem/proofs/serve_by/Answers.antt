use Rattle.std.proofs.Common.{◌≡◌, ◌⊎◌, ℕ, List, Option, Result, Ok, Err, IfOk, IfErr, OnOk, false, string_bytes, inr}
use Rattle.fe_disk.specs.declared.disk.Disk.{Ghosts}
use Rattle.fe_disk.specs.declared.file_disk.FileDisk.{FileDisk}
use Rattle.fe_mail.specs.Books.{AddUp}
use Rattle.fe_options.specs.declared.settings.Settings.{Settings}
use Rattle.fe_server.specs.Serving.{ServesFile, IsUnserved}
use Rattle.fe_text.specs.declared.fault.StreamFault.{StreamFault}
use Rattle.femem.specs.declared.fault.Fault.{Fault}
use Rattle.femem.specs.within.Faults.{AreSettings, ServeResult, WritesBooks, WritesBooksOf, IsFaultOf, FailsServing}
use Rattle.femem.proofs.serve_by.Goals as goal

-- the books of the server are those of the store that the settings name
books_of : {F : Type 0} (model : Ghosts (FileDisk F)) (is_at : List ℕ → F → Type 0) (before after : Option (List ℕ)) (settings : Settings)
    (ended : ServeResult (FileDisk F)) (result : Result (Unit {0}) Fault)
    → AreSettings settings → IfOk ended (ServesFile model (is_at (string_bytes settings.store)) settings.format)
    → IfOk ended (λ answer. IfOk answer (λ served. AddUp served.audit.books))
    → IfOk ended (λ answer. IfOk answer (λ served. served.audit.books.spent ≡ false))
    → OnOk result (WritesBooksOf ended before after) → OnOk result (WritesBooks model is_at before after)
books_of model is_at before after settings ended (Ok done) are serves add_up unspent writes = record {
  settings = settings;
  are = are;
  served = writes.served;
  serves = rw writes.is_served at serves;
  add_up = rw writes.is_served at add_up;
  unspent = rw writes.is_served at unspent;
  written = writes.written;
}
books_of model is_at before after settings ended (Err why) are serves add_up unspent writes = tt

-- the fault of the server is one of serving the store that the settings name
fault_of : {F : Type 0} (refused : Fault → Type 0) (model : Ghosts (FileDisk F)) (is_at : List ℕ → F → Type 0) (has_failed : StreamFault → Type 0) (before after : Option (List ℕ))
    (settings : Settings) (ended : ServeResult (FileDisk F)) (result : Result (Unit {0}) Fault)
    → AreSettings settings → IfOk ended (ServesFile model (is_at (string_bytes settings.store)) settings.format)
    → IfErr ended (IsUnserved model (is_at (string_bytes settings.store)) settings.format)
    → IfErr result (IsFaultOf has_failed before after ended)
    → IfErr result (λ end. refused end ⊎ FailsServing model is_at has_failed before after end)
fault_of refused model is_at has_failed before after settings ended (Ok done) are serves unserved is_end = tt
fault_of refused model is_at has_failed before after settings ended (Err end) are serves unserved is_end =
    inr (record { settings = settings; are = are; ended = ended; serves = serves; unserved = unserved; is_end = is_end })

pub returns-clause-books : goal.returns-clause-books
returns-clause-books g c =
    books_of _ _ _ _ c.in_ok-settings.settings c.serve-ended.result c.finish_serving.result c.in_ok-settings.ensures.settings
    c.serve-ended.ensures.served c.serve-ended.ensures.add_up c.serve-ended.ensures.unspent c.finish_serving.ensures.books

pub returns-clause-fault : goal.returns-clause-fault
returns-clause-fault g c =
    fault_of _ _ _ _ _ _ c.in_ok-settings.settings c.serve-ended.result c.finish_serving.result c.in_ok-settings.ensures.settings
    c.serve-ended.ensures.served c.serve-ended.ensures.unserved c.finish_serving.ensures.fault
