use Rattle.std.proofs.Common.{◌≡◌, ◌+◌, ◌<◌, ◌≤◌, Err, subst, arith}
use Rattle.std.proofs.lemmas.Result.{err_from_is_err_and}
use Rattle.fe_codec.specs.FirstFault.{image_at}
use Rattle.fe_codec.specs.Loading.{ImageFails}
use Rattle.fe_codec.specs.declared.fault.ImageFault.{ImageFault}
use Rattle.fe_keeper.specs.Stands.{greatest_generation}
use Rattle.fe_keeper.specs.Opened.{IsBase}
use Rattle.fe_keeper.specs.Damage.{OddField, OddGeneration, OddRecord}
use Rattle.fe_keeper.specs.declared.fault.Fault.TheVariants.{Damaged}
use Rattle.fe_keeper.proofs.Bases.{fields_right, goes_from_base}
use Rattle.fe_keeper.proofs.recovering.recovered.Goals as goal

pub returns-in-Err-Damaged-clause-damaged : goal.returns-in-Err-Damaged-clause-damaged
returns-in-Err-Damaged-clause-damaged c = λ offset payloads asked lists.
    let given = subst (λ (f : ImageFault). ImageFails f (image_at c.args.format c.args.image.now)) c.in-Err-Damaged.field-0-is c.in-Err-Damaged.ensures.exact in
    let told : c.image_of.result + c.in-Err-Damaged.offset ≡ offset = cc in
    OddField c.in-Err-Damaged.offset given (omega (arith, told, c.image_of.ensures))

pub returns-then-generation-greatest_generation-clause-damaged : goal.returns-then-generation-greatest_generation-clause-damaged
returns-then-generation-greatest_generation-clause-damaged c = λ offset payloads asked lists.
    let told : c.header_of.result + 8 ≡ offset = cc in
    let above : greatest_generation c.args.format c.in-Ok.state.place < c.args.generation = omega (arith, c.greatest_generation.ensures, c.if-generation-greatest_generation.true) in
    OddGeneration c.in-Ok.state c.in-Ok.ensures.exact above (omega (arith, told, c.header_of.ensures))

pub returns-in_err-replay_all-clause-refused : goal.returns-in_err-replay_all-clause-refused
returns-in_err-replay_all-clause-refused c = λ contents s parts stands.
    let state = c.in-Ok.state in
    let base : IsBase c.args.format c.args.generation c.args.image.now state = record { fits = c.in-Ok.ensures.found.0; image_is = c.in-Ok.ensures.found.1; numbered = omega (arith, c.greatest_generation.ensures, c.if-generation-greatest_generation.false) } in
    let p = err_from_is_err_and c.from_residual.result c.from_residual.ensures.1 in
    let goes = goes_from_base contents s state c.args.format c.args.generation c.args.image.now c.args.groups.now parts stands base in
    rw (p.1, p.2) (c.in_err-replay_all.ensures.refused contents.groups parts.groups_are goes)

pub returns-in_err-replay_all-clause-memory : goal.returns-in_err-replay_all-clause-memory
returns-in_err-replay_all-clause-memory c = λ asked. fields_right c.args.format c.args.image.now c.in-Ok.state c.in-Ok.ensures.exact

pub returns-in_err-replay_all-clause-damaged : goal.returns-in_err-replay_all-clause-damaged
returns-in_err-replay_all-clause-damaged c = λ offset payloads asked lists.
    let p = err_from_is_err_and c.from_residual.result c.from_residual.ensures.1 in
    let told : c.replay_all.result ≡ Err (Damaged offset) = cc (p.1, p.2, c.in_err-replay_all.was, asked) in
    let numbered : c.args.generation ≤ greatest_generation c.args.format c.in-Ok.state.place = omega (arith, c.greatest_generation.ensures, c.if-generation-greatest_generation.false) in
    OddRecord c.in-Ok.state c.in-Ok.ensures.exact numbered (c.replay_all.ensures.damaged offset payloads told lists)

pub returns-clause-state : goal.returns-clause-state
returns-clause-state c = λ payloads lists.
    let state = c.in-Ok.state in
    let base : IsBase c.args.format c.args.generation c.args.image.now state = record { fits = c.in-Ok.ensures.found.0; image_is = c.in-Ok.ensures.found.1; numbered = omega (arith, c.greatest_generation.ensures, c.if-generation-greatest_generation.false) } in
    record { base = state; is_base = base; replays = c.in_ok-replay_all.ensures.all payloads lists }
