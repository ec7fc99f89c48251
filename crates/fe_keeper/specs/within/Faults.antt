-- Which fault a keeper returns for a fault of its journal or its store, or a refusal of its replica
-- (`docs/model.md`, "The keeper").
use Rattle.fe_journal.specs.declared.fault.JournalFault.{JournalFault}
use Rattle.fe_journal.specs.declared.fault.JournalFault.TheVariants as journal
use Rattle.fe_journal.specs.declared.fault.StoreFault.{StoreFault}
use Rattle.fe_journal.specs.declared.fault.StoreFault.TheVariants as store
use Rattle.fe_replica.specs.declared.taking.Refused.{Refused}
use Rattle.fe_replica.specs.declared.taking.Refused.TheVariants as replica
use Rattle.fe_keeper.specs.declared.fault.Fault.{Fault}
use Rattle.fe_keeper.specs.declared.fault.Fault.TheVariants.{Device, Failed, NoMemory, Mismatch, Damaged}
use Rattle.fe_keeper.specs.declared.fault.Fault.TheVariants.{Unformatted}

abbrev pub fault_of_journal : JournalFault → Fault
fault_of_journal journal.Device = Device
fault_of_journal journal.Failed = Failed

abbrev pub fault_of_store : StoreFault → Fault
fault_of_store store.Device = Device
fault_of_store (store.NoMemory error) = NoMemory error
fault_of_store store.Unformatted = Unformatted
fault_of_store (store.Damaged offset) = Damaged offset

abbrev pub fault_of_refused : Refused → Fault
fault_of_refused (replica.Mismatch place) = Mismatch place
fault_of_refused (replica.NoMemory error) = NoMemory error

-- what a keeper says of a store that its journal did not open
abbrev pub refused_by_journal : {D : Type 0} → StoreFault × D → Fault × D
refused_by_journal refused = (fault_of_store refused.0, refused.1)
