-- An image stands for at most one state.
use Rattle.std.proofs.Common.{◌≡◌, ℕ, List, [], ◌∷◌, sym, ◌∙◌, ap, subst, refl}
use Rattle.fe_state.specs.State.{ServerState}
use Rattle.fe_state.specs.History.{after_groups}
use Rattle.fe_state.specs.declared.entry.Entry.{Entry}
use Rattle.fe_codec.proofs.GroupLaws.{one_group}
use Rattle.fe_codec.proofs.ImageOnly.{one_image}
use Rattle.fe_journal.specs.Contents.{Contents}
use Rattle.fe_journal.proofs.Contents.{one_contents}
use Rattle.fe_format.specs.declared.format.Format.{Format}
use Rattle.fe_keeper.specs.Stands.{AreGroups, Stands}
use Rattle.fe_keeper.specs.Damage.{StandsForOne}

-- payloads spell one list of groups
pub one_groups : (format : Format) (xs ys : List (List Entry)) (payloads : List (List ℕ)) → AreGroups format xs payloads → AreGroups format ys payloads → xs ≡ ys
one_groups format [] [] payloads a b = refl
one_groups format [] (y ∷ ys) [] a b = absurd b
one_groups format [] (y ∷ ys) (payload ∷ payloads) a b = absurd a
one_groups format (x ∷ xs) [] [] a b = absurd a
one_groups format (x ∷ xs) [] (payload ∷ payloads) a b = absurd b
one_groups format (x ∷ xs) (y ∷ ys) [] a b = absurd a
one_groups format (x ∷ xs) (y ∷ ys) (payload ∷ payloads) a b =
    let first : x ≡ y = one_group format x y a.0.fits b.0.fits (sym a.0.spelled ∙ b.0.spelled) in
    let rest : xs ≡ ys = one_groups format xs ys payloads a.1 b.1 in
    cc

-- contents stand for one state
pub stand_for_one : (c : Contents) (s t : ServerState) → Stands c s → Stands c t → s ≡ t
stand_for_one c s t a b =
    let base : a.base ≡ b.base = one_image c.format a.base b.base a.fits b.fits (sym a.image_is ∙ b.image_is) in
    let groups : a.groups ≡ b.groups = one_groups c.format a.groups b.groups c.groups a.groups_are b.groups_are in
    a.state_is ∙ ap (λ (z : ServerState). after_groups z a.groups) base ∙ ap (λ (z : List (List Entry)). after_groups b.base z) groups ∙ sym b.state_is

pub images_stand_for_one : StandsForOne
images_stand_for_one image s t a b =
    let same : a.contents ≡ b.contents = one_contents a.contents b.contents image a.holds b.holds in
    stand_for_one a.contents s t a.stands (subst (λ (c : Contents). Stands c t) (sym same) b.stands)
