-- Connections when one of them is known to be connected, or not to be.
use Rattle.std.proofs.Common.{◌≡◌, ℕ, Option, Some, None, List, [], ◌∷◌, drop, slice_get, inl, inr, refl, sym, ap, ◌∙◌}
use Rattle.std.specs.Cmp.{nat_cmp_total}
use Rattle.std.specs.Option.{IfNone, option_map_or}
use Rattle.std.specs.Ordering.{nat_cmp}
use Rattle.std.specs.FinMap.{FinMap, get, insert, same_map, nat_cmp-IsAntisymmetric}
use Rattle.fe_state.proofs.Maps.{get_inserted, get_beside, same_or_other}
use Rattle.fe_mail.specs.Connections.{mails_on, with_session, with_mails}
use Rattle.fe_mail.specs.declared.connection.Connection.{Connection}
use Rattle.fe_mail.specs.declared.mail.Mail.{Mail}

-- writing what is there already changes nothing
pub insert_same : {X : Type 0} (m : FinMap nat_cmp X) (k : ℕ) (x : X) → get m k ≡ Some x → insert m k x ≡ m
insert_same m k x is = same_map nat_cmp_total nat_cmp-IsAntisymmetric _ _ (λ q. elim (same_or_other q k) [
  | inl e ↦ rw (e, get_inserted) (sym is)
  | inr ne ↦ get_beside m k x q ne
])

module _ (m : FinMap nat_cmp Connection) (conn : ℕ) (c : Connection) (is : get m conn ≡ Some c) where
  pub with_session-at : (session : Option ℕ) → with_session m conn session ≡ insert m conn (record { session = session; mails = c.mails })
  with_session-at session = ap (λ o. option_map_or (λ (c : Connection). insert m conn (record { session = session; mails = c.mails })) o m) is

  pub with_mails-at : (mails : List Mail) → with_mails m conn mails ≡ insert m conn (record { session = c.session; mails = mails })
  with_mails-at mails = ap (λ o. option_map_or (λ (c : Connection). insert m conn (record { session = c.session; mails = mails })) o m) is

  pub mails_on-at : mails_on m conn ≡ c.mails
  mails_on-at = ap (λ o. option_map_or (λ (c : Connection). c.mails) o []) is

  -- a box with its own mails is unchanged
  pub insert_kept : (mails : List Mail) → mails ≡ c.mails → insert m conn (record { session = c.session; mails = mails }) ≡ m
  insert_kept mails same = ap (λ mails. insert m conn (record { session = c.session; mails = mails })) same ∙ insert_same m conn c is

module _ (m : FinMap nat_cmp Connection) (conn : ℕ) (none : get m conn ≡ None) where
  pub with_mails-none : (mails : List Mail) → with_mails m conn mails ≡ m
  with_mails-none mails = ap (λ o. option_map_or (λ (c : Connection). insert m conn (record { session = c.session; mails = mails })) o m) none

  pub mails_on-none : mails_on m conn ≡ []
  mails_on-none = ap (λ o. option_map_or (λ (c : Connection). c.mails) o []) none

-- giving a box the mails it has changes nothing
pub with_mails-same : (m : FinMap nat_cmp Connection) (conn : ℕ) → with_mails m conn (mails_on m conn) ≡ m
with_mails-same m conn = by (get m conn) refl
  where
    by : (o : Option Connection) → get m conn ≡ o → with_mails m conn (mails_on m conn) ≡ m
    by None is = with_mails-none m conn is _
    by (Some c) is = with_mails-at m conn c is _ ∙ insert_kept m conn c is _ (mails_on-at m conn c is)

-- a list without a first mail loses nothing by dropping it
pub drop_no_first : {X : Type 0} (xs : List X) → slice_get xs 0 ≡ None → drop 1 xs ≡ xs
drop_no_first [] e = refl
drop_no_first (x ∷ xs) e = absurd cc

pub if_none : {X P : Type 0} (o : Option X) → (o ≡ None → P) → IfNone o P
if_none None f = f refl
if_none (Some x) f = tt
