use Rattle.std.proofs.Common.{◌≡◌, subst}
use Rattle.std.proofs.lemmas.Result.{on_ok_weaker}
use Rattle.std.specs.Io.KnownBytes.{Appends}
use Rattle.fe_memory.specs.Memory.{out_of_memory}
use Rattle.fe_state.specs.State.{ServerState}
use Rattle.fe_store.specs.Opening.{IsReason}
use Rattle.fe_store.specs.declared.fault.OpenFault.{OpenFault}
use Rattle.fe_store.specs.declared.fault.OpenFault.TheVariants as store
use Rattle.fe_look.specs.Look.{state_text}
use Rattle.fe_look.proofs.LookLemmas.{shows_nothing}
use Rattle.fe_look.proofs.looking.look_at.Goals as goal

pub returns-in-Ok-clause-shows : goal.returns-in-Ok-clause-shows
returns-in-Ok-clause-shows g c honest =
    on_ok_weaker c.show-shown.result
    (λ w. record {
      state = c.in-Ok.keeper.state;
      stands = (c.in-Ok.ensures.opened honest).state;
      written = subst (λ (s : ServerState). Appends (g.W.Sink.contents c.args.writer.now) (g.W.Sink.contents c.show-shown.new.writer) (state_text s)) c.state.ensures.state w;
    })
    c.show-shown.ensures.ok

pub returns-in-Ok-clause-refused : goal.returns-in-Ok-clause-refused
returns-in-Ok-clause-refused g c honest why is = absurd (c.show-shown.ensures.opened why is)

pub returns-in-Ok-clause-memory : goal.returns-in-Ok-clause-memory
returns-in-Ok-clause-memory g c honest is = absurd (c.show-shown.ensures.opened (store.Memory out_of_memory) is)

pub returns-in-Ok-clause-opened : goal.returns-in-Ok-clause-opened
returns-in-Ok-clause-opened g c honest why is = (c.in-Ok.keeper.state, (c.in-Ok.ensures.opened honest).state)

pub returns-in-Ok-clause-silent : goal.returns-in-Ok-clause-silent
returns-in-Ok-clause-silent g c why is = absurd (c.show-shown.ensures.opened why is)

pub returns-in-Ok-clause-written : goal.returns-in-Ok-clause-written
returns-in-Ok-clause-written g c = on_ok_weaker c.show-shown.result (λ w. record { state = c.state.result.now; written = w }) c.show-shown.ensures.ok

pub returns-in-Ok-clause-front : goal.returns-in-Ok-clause-front
returns-in-Ok-clause-front g c = record { state = c.state.result.now; count = c.show-shown.ensures.front.0; written = c.show-shown.ensures.front.1 }

pub returns-in-Err-clause-refused : goal.returns-in-Err-clause-refused
returns-in-Err-clause-refused g c honest why is =
    let same : c.in-Err.fault ≡ why = cc is in
    subst (λ (f : OpenFault). IsReason (g.D.Disk.seen c.args.disk) f) same (c.in-Err.ensures.ends.reason honest)

pub returns-in-Err-clause-memory : goal.returns-in-Err-clause-memory
returns-in-Err-clause-memory g c honest is = c.in-Err.ensures.memory honest (cc is)

pub returns-in-Err-clause-front : goal.returns-in-Err-clause-front
returns-in-Err-clause-front g c = shows_nothing (g.W.Sink.contents c.args.writer.now)
