-- What came of the calls of a stream (`docs/schedules.md`, "Lines").
use Rattle.std.specs.Prelude.{◌≡◌, ◌⊎◌, ℕ, ◌-◌, ◌^◌, ◌≤◌, min, true, false}
use Rattle.fe_text.specs.declared.fault.StreamFault.{StreamFault}
use Rattle.fe_text.specs.declared.fault.StreamFault.TheVariants as stream
use Rattle.fe_text.specs.declared.stream_calls.StreamCalls.{StreamCalls}
use Rattle.fe_text.specs.declared.stream_errors.StreamErrors.{StreamErrors}

-- no call failed
abbrev pub no_errors : StreamErrors
no_errors = record { input = false; memory = false; interrupted = false }

-- the stream, of which no call was made
abbrev pub no_calls : {S : Type 0} → S → StreamCalls S
no_calls s = record { stream = s; count = 0; errors = no_errors; took_none = false; is_flushed = true }

-- a call failed with an error that is this fault
abbrev pub HasErred : StreamErrors → StreamFault → Type 0
HasErred errors stream.Input = errors.input ≡ true
HasErred errors (stream.Memory error) = errors.memory ≡ true

abbrev pub HasFailed : {S : Type 0} → StreamCalls S → StreamFault → Type 0
HasFailed calls fault = HasErred calls.errors fault

-- at least this many reads were made; the count stays at 2^64 - 1
abbrev pub WasRead : {R : Type 0} → StreamCalls R → ℕ → Type 0
WasRead calls count = min count (2 ^ 64 - 1) ≤ calls.count

-- a write or a flush failed with this fault; or it is `Input`, and a write took no byte
abbrev pub HasStopped : {W : Type 0} → StreamCalls W → StreamFault → Type 0
HasStopped calls fault = HasFailed calls fault ⊎ ((fault ≡ stream.Input) × (calls.took_none ≡ true))

-- the same; or it is `Input`, and 2^40 writes were made in all
abbrev pub HasBroken : {W : Type 0} → StreamCalls W → StreamFault → Type 0
HasBroken calls fault = HasStopped calls fault ⊎ ((fault ≡ stream.Input) × (2 ^ 40 ≤ calls.count))
