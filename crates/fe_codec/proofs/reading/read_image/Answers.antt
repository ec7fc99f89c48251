use Rattle.std.proofs.Common.{◌≡◌, ℕ, ◌-◌, List, length, Ok, Err, ap, sym, ◌∙◌, arith}
use Rattle.fe_format.specs.declared.format.Format.{Format}
use Rattle.fe_state.specs.State.{ServerState}
use Rattle.fe_codec.specs.declared.fault.ImageFault.TheVariants.{Damaged}
use Rattle.fe_codec.specs.FirstFault.{error_at_offset, state_at, image_at}
use Rattle.fe_codec.proofs.ImageFound.{is_found}
use Rattle.fe_codec.proofs.ImageOnly.{is_only}
use Rattle.fe_codec.proofs.reading.read_image.Goals as goal

-- the state of an image, and its fault, are those of its bytes
image_ok : (format : Format) (bytes : List ℕ) (s : ServerState) → state_at format bytes ≡ Ok s → image_at format bytes ≡ Ok s
unfolding image_at
image_ok format bytes s is = ap (error_at_offset (length bytes)) is

image_fails : (format : Format) (bytes : List ℕ) (left offset : ℕ) → state_at format bytes ≡ Err left → offset ≡ length bytes - left → image_at format bytes ≡ Err offset
unfolding image_at
image_fails format bytes left offset is at = ap (error_at_offset (length bytes)) is ∙ ap Err (sym at)

pub returns-in-Ok-clause-found : goal.returns-in-Ok-clause-found
returns-in-Ok-clause-found c =
    is_found c.args.format c.args.bytes.now (Ok c.in-Ok.state) (λ i. omega (arith, c.type_inv.bytes i)) c.in-Ok.ensures.limits (image_ok c.args.format c.args.bytes.now c.in-Ok.state c.in-Ok.ensures.given)

pub returns-in-Ok-clause-only : goal.returns-in-Ok-clause-only
returns-in-Ok-clause-only c = is_only c.args.format c.args.bytes.now (Ok c.in-Ok.state) (image_ok c.args.format c.args.bytes.now c.in-Ok.state c.in-Ok.ensures.given)

pub returns-in-Err-Left-clause-only : goal.returns-in-Err-Left-clause-only
returns-in-Err-Left-clause-only c =
    is_only c.args.format c.args.bytes.now (Err (Damaged c.saturating_sub-offset.result))
    (image_fails c.args.format c.args.bytes.now c.in-Err-Left.left c.saturating_sub-offset.result (rw c.in-Err-Left.field-0-is at c.in-Err-Left.ensures.given) (omega (arith, c.saturating_sub-offset.ensures)))
