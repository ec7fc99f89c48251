use Rattle.std.proofs.Common.{List, [], ◌∷◌}
use Rattle.std.specs.List.{AllByRecursion}
use Rattle.std.specs.FinMap.{entries}
use Rattle.fe_state.specs.State.{ServerState}
use Rattle.fe_codec.specs.Image.{HasRoomForState, StateOfFormat}
use Rattle.fe_format.specs.declared.format.Format.{Format}
use Rattle.fe_format.specs.declared.format.Format.TheVariants.{One, Two}
use Rattle.fe_codec.proofs.ImageSizes.{sized_most}
use Rattle.fe_codec.proofs.writing.put_image.Goals as goal

-- what holds of everything holds of each element
all_of : {X : Type 0} (P : X → Type 0) (xs : List X) → ((x : X) → P x) → AllByRecursion P xs
all_of P [] h = tt
all_of P (x ∷ xs) h = (h x, all_of P xs h)

has_room : (format : Format) (s : ServerState) → StateOfFormat format s → HasRoomForState format s
has_room One s h = h
has_room Two s h = record { arrays = all_of _ (entries s.arrays) (λ _. tt); sessions = all_of _ (entries s.sessions) (λ e. all_of _ (entries e.1.kept) (λ _. tt)) }

pub put_state-put-requires : goal.put_state-put-requires
put_state-put-requires c = has_room c.args.format c.args.state.now c.requires

pub returns-else-is_err-clause-most : goal.returns-else-is_err-clause-most
returns-else-is_err-clause-most c = sized_most c.args.format c.args.state.now c.put_state-put.result c.put_state-put.ensures.fits
