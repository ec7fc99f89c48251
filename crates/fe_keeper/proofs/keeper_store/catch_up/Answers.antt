use Rattle.std.proofs.Common.{◌≡◌, ◌+◌, ◌*◌, ◌≤◌, ◌++◌, ◌∙◌, List, ℕ, length, Option, Some, vec_capacity, sym, subst, ap, refl, arith}
use Rattle.std.specs.Prelude.{Result, Ok, Err, IsOk, is_ok, OnOk, if◌then◌else◌}
use Rattle.std.proofs.lemmas.List.{length-append}
use Rattle.fe_codec.specs.Record.{group_spelling, FitsGroup}
use Rattle.fe_format.specs.Layout.{record_bytes}
use Rattle.fe_format.specs.declared.format.Format.{Format}
use Rattle.fe_format.specs.declared.format.Format.TheVariants.{Two}
use Rattle.fe_state.specs.declared.entry.Entry.{Entry}
use Rattle.fe_keeper.specs.within.Upholds.{CatchesUp, HasRoomFor}
use Rattle.fe_keeper.specs.declared.checkpoint.Checkpoint.{Checkpoint}
use Rattle.fe_keeper.proofs.Appending.{length-group}
use Rattle.fe_keeper.proofs.keeper_store.catch_up.Goals as goal

-- what is put where there is room
where_ok : {T E : Type 0} (r : Result T E) (with without : List ℕ) → IsOk r → (if is_ok r then with else without) ≡ with
where_ok (Ok x) with without is = refl
where_ok (Err e) with without is = absurd cc

of_ok : {T E : Type 0} (r : Result T E) (P : Type 0) → IsOk r → OnOk r P → P
of_ok (Ok x) P is held = held
of_ok (Err e) P is held = absurd cc

-- a checkpoint with the records of more entries
more_caught : (entries : List Entry) (checkpoint : Option Checkpoint) (old new : Checkpoint) → checkpoint ≡ Some old → new.image ≡ old.image → new.written ≡ old.written → new.place ≡ old.place
    → new.catch_up.items ≡ old.catch_up.items ++ group_spelling Two entries → FitsGroup Two entries → vec_capacity old.catch_up ≤ vec_capacity new.catch_up → CatchesUp entries checkpoint (Some new)
more_caught entries checkpoint old new is image written place records fits room =
    let size : length new.catch_up.items ≡ length old.catch_up.items + length entries * record_bytes Two = omega (arith, ap length records, length-append old.catch_up.items (group_spelling Two entries), length-group Two entries fits) in
    subst (λ (o : Option Checkpoint). CatchesUp entries o (Some new)) (sym is) (record { image = image; written = written; place = place; records = records; count = omega (arith, size); room = room; fits = fits })

pub returns-in-One : goal.returns-in-One
returns-in-One c =
    let entries = c.args.entries.now in
    let old = c.in-Some.checkpoint in
    let put = c.put_group in
    let room = subst (λ (o : Option Checkpoint). HasRoomFor o (length entries)) c.in-Some.is c.requires.room in
    let works = put.ensures.room room in
    more_caught entries c.args.checkpoint.now old (record { image = old.image; written = old.written; place = old.place; catch_up = put.new.out }) c.in-Some.is refl refl refl
    (of_ok put.result _ works put.ensures.ok) (of_ok put.result _ works put.ensures.fits) put.ensures.capacity

pub returns-in-Two : goal.returns-in-Two
returns-in-Two c =
    let entries = c.args.entries.now in
    let old = c.in-Some.checkpoint in
    let group = c.args.group.now in
    let put = c.extend_from_slice in
    let room = subst (λ (o : Option Checkpoint). HasRoomFor o (length entries)) c.in-Some.is c.requires.room in
    let spelled : group ≡ group_spelling Two entries = c.requires.batch.spelled ∙ ap (λ (f : Format). group_spelling f entries) c.in-Two.is in
    let fits : FitsGroup Two entries = subst (λ (f : Format). FitsGroup f entries) c.in-Two.is c.requires.batch.fits in
    let size : length group ≡ length entries * record_bytes Two = ap length spelled ∙ length-group Two entries fits in
    let before = old.catch_up.items in
    let records = put.ensures.items ∙ where_ok put.result (before ++ group) before (put.ensures.succeeds (omega (arith, size, room))) ∙ ap (λ (l : List ℕ). before ++ l) spelled in
    more_caught entries c.args.checkpoint.now old (record { image = old.image; written = old.written; place = old.place; catch_up = put.new.self }) c.in-Some.is refl refl refl
    records fits put.ensures.capacity
