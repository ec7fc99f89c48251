-- The number of mails in all boxes, after each change of the connections.
use Rattle.std.proofs.Common.{◌≡◌, ℕ, ◌+◌, List, [], ◌∷◌, ◌++◌, length, drop, slice_get, Option, Some, None, IsSome, is_some, true≢false, refl, sym, ap, ◌∙◌, arith, length-append}
use Rattle.std.specs.Option.{option_map_or}
use Rattle.std.specs.Ordering.{nat_cmp}
use Rattle.std.specs.FinMap.{FinMap, empty, get, insert, remove}
use Rattle.fe_table.proofs.TableLemmas.{entries-empty, remove_absent}
use Rattle.fe_state.proofs.Totals.{total_added, total_removed, total_replaced}
use Rattle.fe_mail.specs.Connections.{first_connection, mails_on, mails_in, with_session, with_mails}
use Rattle.fe_mail.specs.declared.connection.Connection.{Connection}
use Rattle.fe_mail.specs.declared.mail.Mail.{Mail}
use Rattle.fe_mail.proofs.ConnectionLemmas.{with_session-at, with_mails-at, mails_on-at, mails_on-none}

abbrev count : Connection → ℕ
count c = length c.mails

pub mails_in-empty : mails_in empty ≡ 0
mails_in-empty = rw (entries-empty {X = Connection}) refl

length_rest : {X : Type 0} (xs : List X) → IsSome (slice_get xs 0) → length (drop 1 xs) + 1 ≡ length xs
length_rest [] first = absurd (true≢false (sym first))
length_rest (x ∷ xs) first = omega arith

module _ (m : FinMap nat_cmp Connection) (conn : ℕ) where
  -- a connection is added with an empty box
  pub mails_in-connect : get m conn ≡ None → mails_in (insert m conn first_connection) ≡ mails_in m
  mails_in-connect none = omega (arith, total_added count m conn first_connection none)

  -- another session changes no box
  pub mails_in-with_session : (session : Option ℕ) → mails_in (with_session m conn session) ≡ mails_in m
  mails_in-with_session session = by (get m conn) refl
    where
      by : (o : Option Connection) → get m conn ≡ o → mails_in (with_session m conn session) ≡ mails_in m
      by None is = ap (λ o. mails_in (option_map_or (λ (c : Connection). insert m conn (record { session = session; mails = c.mails })) o m)) is
      by (Some c) is = rw (with_session-at m conn c is) (omega (arith, total_replaced count m conn (record { session = session; mails = c.mails }) c is))

  -- a box gets other mails
  pub mails_in-with_mails : (mails : List Mail) → IsSome (get m conn) → mails_in (with_mails m conn mails) + length (mails_on m conn) ≡ mails_in m + length mails
  mails_in-with_mails mails there = by (get m conn) refl
    where
      by : (o : Option Connection) → get m conn ≡ o → mails_in (with_mails m conn mails) + length (mails_on m conn) ≡ mails_in m + length mails
      by None is = absurd (true≢false (sym there ∙ ap is_some is))
      by (Some c) is = rw (with_mails-at m conn c is, mails_on-at m conn c is) (total_replaced count m conn (record { session = c.session; mails = mails }) c is)

  -- a mail is added to a box
  pub mails_in-put : (mail : Mail) → IsSome (get m conn) → mails_in (with_mails m conn (mails_on m conn ++ mail ∷ [])) ≡ mails_in m + 1
  mails_in-put mail there = omega (arith, mails_in-with_mails (mails_on m conn ++ mail ∷ []) there, length-append (mails_on m conn) (mail ∷ []))

  -- the first mail of a box is removed
  pub mails_in-take : IsSome (slice_get (mails_on m conn) 0) → mails_in (with_mails m conn (drop 1 (mails_on m conn))) + 1 ≡ mails_in m
  mails_in-take first = omega (arith, mails_in-with_mails (drop 1 (mails_on m conn)) there, length_rest (mails_on m conn) first)
    where
      by : (o : Option Connection) → get m conn ≡ o → IsSome o
      by None is = absurd (true≢false (sym first ∙ ap (λ mails. is_some (slice_get mails 0)) (mails_on-none m conn is)))
      by (Some c) is = refl

      there : IsSome (get m conn)
      there = by (get m conn) refl

  -- a connection is removed with its box
  pub mails_in-remove : mails_in (remove m conn) + length (mails_on m conn) ≡ mails_in m
  mails_in-remove = by (get m conn) refl
    where
      by : (o : Option Connection) → get m conn ≡ o → mails_in (remove m conn) + length (mails_on m conn) ≡ mails_in m
      by None is = rw (sym (remove_absent m conn is), mails_on-none m conn is) (omega arith)
      by (Some c) is = rw (mails_on-at m conn c is) (total_removed count m conn c is)
