-- What stands for a state is recovered.
use Rattle.std.proofs.Common.{◌≡◌, ℕ, ◌≤◌, List, length, Result, Ok, Err, refl, sym, ap, ◌∙◌, subst}
use Rattle.std.specs.Prelude.{IsOk}
use Rattle.fe_state.specs.State.{ServerState}
use Rattle.fe_state.specs.History.{IsHistory}
use Rattle.fe_codec.specs.FirstFault.{◌followed_by◌, header_at, state_at, error_at_offset, image_at}
use Rattle.fe_codec.proofs.ImageOnly.{one_image, spellings_read}
use Rattle.fe_format.specs.declared.format.Format.{Format}
use Rattle.fe_journal.specs.Contents.{Contents, Cursor}
use Rattle.fe_keeper.specs.Stands.{Stands, greatest_generation}
use Rattle.fe_keeper.specs.Opened.{IsBase, ArePartsOf}
use Rattle.fe_keeper.specs.within.Replaying.{CanGoOn}

-- the base of what contents stand for, read of their parts
pub base_there : (c : Contents) (s : ServerState) (format : Format) (generation : ℕ) (image : List ℕ) (groups : Cursor) → ArePartsOf c format generation image groups → (stands : Stands c s) → IsBase format generation image stands.base
base_there c s format generation image groups parts stands =
    subst (λ (f : Format). IsBase f generation image stands.base) (sym parts.format_is) (record {
      fits = stands.fits;
      image_is = parts.image_is ∙ stands.image_is;
      numbered = subst (λ (k : ℕ). k ≤ greatest_generation c.format stands.base.place) (sym parts.generation_is) stands.numbered;
    })

-- an image is of one state
pub one_base : (format : Format) (generation : ℕ) (image : List ℕ) (s t : ServerState) → IsBase format generation image s → IsBase format generation image t → s ≡ t
one_base format generation image s t a b = one_image format s t a.fits b.fits (sym a.image_is ∙ b.image_is)

-- from the base, whichever way it was read, the groups go on
pub goes_from_base : (c : Contents) (s base : ServerState) (format : Format) (generation : ℕ) (image : List ℕ) (groups : Cursor) → ArePartsOf c format generation image groups → Stands c s → IsBase format generation image base → CanGoOn format c.groups base
goes_from_base c s base format generation image groups parts stands is =
    let same : stands.base ≡ base = one_base format generation image stands.base base (base_there c s format generation image groups parts stands) is in
    subst (λ (f : Format). CanGoOn f c.groups base) (sym parts.format_is) (record {
      groups = stands.groups;
      groups_are = stands.groups_are;
      legal = subst (λ (z : ServerState). IsHistory z stands.groups) same stands.legal;
    })

-- ---- the fields of an image that are read before any memory is taken

told : {A : Type 0} (size : ℕ) (r : Result A ℕ) (x : A) → error_at_offset size r ≡ Ok x → r ≡ Ok x
told size (Ok y) x is = is
told size (Err left) x is = absurd cc

first_step : {A B : Type 0} (r : Result A ℕ) (f : A → Result B ℕ) (x : B) → r followed_by f ≡ Ok x → IsOk r
first_step (Ok a) f x is = refl
first_step (Err left) f x is = absurd cc

state_fields : (format : Format) (image : List ℕ) (s : ServerState) → state_at format image ≡ Ok s → IsOk (header_at image)
unfolding state_at
state_fields format image s is = first_step (header_at image) _ s is

-- they are right in an image that is read
pub fields_right : (format : Format) (image : List ℕ) (s : ServerState) → image_at format image ≡ Ok s → IsOk (header_at image)
unfolding image_at
fields_right format image s is = state_fields format image s (told (length image) (state_at format image) s is)

-- and in one that is spelled
pub fields_spelled : (format : Format) (generation : ℕ) (image : List ℕ) (s : ServerState) → IsBase format generation image s → IsOk (header_at image)
fields_spelled format generation image s is = fields_right format image s (ap (image_at format) is.image_is ∙ spellings_read format s is.fits)

-- and in contents that stand for a state
pub fields_stand : (c : Contents) (s : ServerState) → Stands c s → IsOk (header_at c.image)
fields_stand c s stands = fields_right c.format c.image stands.base (ap (image_at c.format) stands.image_is ∙ spellings_read c.format stands.base stands.fits)
