-- What the older of the two store formats, format 1, has room for: names of at most 16 bytes, no request that
-- must not wait, and no answer `NotNow`. See `docs/model.md`, "The state of the server".
use Rattle.std.specs.Prelude.{ℕ, Bool, true, false, not, ◌&&◌, nat_le, List, length}
use Rattle.fe_state.specs.declared.answer.Answer.{Answer}
use Rattle.fe_state.specs.declared.answer.Answer.TheVariants.{NotNow}
use Rattle.fe_state.specs.declared.request.Request.{Request}
use Rattle.fe_state.specs.declared.request.Request.TheVariants.{Create, Find, Remove, Access}
use Rattle.fe_state.specs.declared.entry.Entry.{Entry}
use Rattle.fe_state.specs.declared.entry.Entry.TheVariants.{Attached, Closed, Settled, Finished}

-- a name of at most 16 bytes
abbrev pub name_fits_format_1 : List ℕ → Bool
name_fits_format_1 name = nat_le (length name) 16

-- a request whose name, if it has one, is no longer than that, and that may wait, if it is an access
abbrev pub request_fits_format_1 : Request → Bool
request_fits_format_1 (Create name size tag) = name_fits_format_1 name
request_fits_format_1 (Find name) = name_fits_format_1 name
request_fits_format_1 (Remove id) = true
request_fits_format_1 (Access id index op no_wait) = not no_wait

-- an answer that a request which may wait can get
abbrev pub answer_fits_format_1 : Answer → Bool
answer_fits_format_1 NotNow = false
answer_fits_format_1 _ = true

-- an entry whose request and answer fit, if it has them
abbrev pub entry_fits_format_1 : Entry → Bool
entry_fits_format_1 (Attached session floor) = true
entry_fits_format_1 (Closed session) = true
entry_fits_format_1 (Settled session floor) = true
entry_fits_format_1 (Finished session number request answer) =
    request_fits_format_1 request && answer_fits_format_1 answer
