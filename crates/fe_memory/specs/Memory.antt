-- The error of an allocation that failed.
use Rattle.fe_memory.specs.declared.OutOfMemory.{OutOfMemory}

-- its one value
pub out_of_memory : OutOfMemory
out_of_memory = record { 0 = tt }
