-- The connections after one of them gets another box or another session.
use Rattle.std.proofs.Common.{◌≡◌, ◌≢◌, ℕ, List, [], Option, Some, None, IsSome, is_some, true≢false, inl, inr, refl, sym, ap, ◌∙◌}
use Rattle.std.specs.Prelude.{option_and_then}
use Rattle.std.specs.Option.{option_map, option_map_or}
use Rattle.std.specs.Ordering.{nat_cmp}
use Rattle.std.specs.FinMap.{FinMap, get, insert}
use Rattle.fe_state.proofs.Maps.{get_inserted, get_beside, same_or_other}
use Rattle.fe_mail.specs.Connections.{session_on, mails_on, with_session, with_mails}
use Rattle.fe_mail.specs.declared.connection.Connection.{Connection}
use Rattle.fe_mail.specs.declared.mail.Mail.{Mail}

-- one connection is changed, if it is connected
module _ (f : Connection → Connection) (m : FinMap nat_cmp Connection) (conn : ℕ) where
  abbrev changed : FinMap nat_cmp Connection
  changed = option_map_or (λ c. insert m conn (f c)) (get m conn) m

  get-changed : get changed conn ≡ option_map f (get m conn)
  get-changed = by (get m conn) refl
    where
      by : (o : Option Connection) → get m conn ≡ o → get (option_map_or (λ c. insert m conn (f c)) o m) conn ≡ option_map f o
      by None is = is
      by (Some c) is = get_inserted m conn (f c)

  get-changed-beside : (q : ℕ) → q ≢ conn → get changed q ≡ get m q
  get-changed-beside q ne = by (get m conn)
    where
      by : (o : Option Connection) → get (option_map_or (λ c. insert m conn (f c)) o m) q ≡ get m q
      by None = refl
      by (Some c) = get_beside m conn (f c) q ne

  -- what the change preserves for each connection, it preserves for all
  kept : {A : Type 0} (g : Option Connection → A) → ((o : Option Connection) → g (option_map f o) ≡ g o) → (q : ℕ) → g (get changed q) ≡ g (get m q)
  kept g same q = elim (same_or_other q conn) [
    | inl e ↦ ap (λ q. g (get changed q)) e ∙ ap g get-changed ∙ same (get m conn) ∙ ap (λ q. g (get m q)) (sym e)
    | inr ne ↦ ap g (get-changed-beside q ne)
  ]

same_there : (f : Connection → Connection) (o : Option Connection) → is_some (option_map f o) ≡ is_some o
same_there f None = refl
same_there f (Some c) = refl

module _ (m : FinMap nat_cmp Connection) (conn : ℕ) where
  module _ (mails : List Mail) where
    -- other mails preserve the set of connections, each session, and each other box
    pub is_some-with_mails : (q : ℕ) → is_some (get (with_mails m conn mails) q) ≡ is_some (get m q)
    is_some-with_mails = kept (λ c. record { session = c.session; mails = mails }) m conn is_some (same_there _)

    pub session_on-with_mails : (q : ℕ) → session_on (with_mails m conn mails) q ≡ session_on m q
    session_on-with_mails = kept (λ c. record { session = c.session; mails = mails }) m conn (option_and_then (λ (c : Connection). c.session)) same
      where
        same : (o : Option Connection) → option_and_then (λ (c : Connection). c.session) (option_map (λ (c : Connection). record { session = c.session; mails = mails }) o) ≡ option_and_then (λ (c : Connection). c.session) o
        same None = refl
        same (Some c) = refl

    pub mails_on-with_mails : IsSome (get m conn) → mails_on (with_mails m conn mails) conn ≡ mails
    mails_on-with_mails there = ap (λ o. option_map_or (λ (c : Connection). c.mails) o []) (get-changed (λ c. record { session = c.session; mails = mails }) m conn) ∙ by (get m conn) there
      where
        by : (o : Option Connection) → IsSome o → option_map_or (λ (c : Connection). c.mails) (option_map (λ (c : Connection). record { session = c.session; mails = mails }) o) [] ≡ mails
        by None h = absurd (true≢false (sym h))
        by (Some c) h = refl

    pub mails_on-with_mails-beside : (q : ℕ) → q ≢ conn → mails_on (with_mails m conn mails) q ≡ mails_on m q
    mails_on-with_mails-beside q ne = ap (λ o. option_map_or (λ (c : Connection). c.mails) o []) (get-changed-beside (λ c. record { session = c.session; mails = mails }) m conn q ne)

  module _ (session : Option ℕ) where
    -- another session preserves the set of connections, each box, and each other session
    pub is_some-with_session : (q : ℕ) → is_some (get (with_session m conn session) q) ≡ is_some (get m q)
    is_some-with_session = kept (λ c. record { session = session; mails = c.mails }) m conn is_some (same_there _)

    pub mails_on-with_session : (q : ℕ) → mails_on (with_session m conn session) q ≡ mails_on m q
    mails_on-with_session = kept (λ c. record { session = session; mails = c.mails }) m conn (λ o. option_map_or (λ (c : Connection). c.mails) o []) same
      where
        same : (o : Option Connection) → option_map_or (λ (c : Connection). c.mails) (option_map (λ (c : Connection). record { session = session; mails = c.mails }) o) [] ≡ option_map_or (λ (c : Connection). c.mails) o []
        same None = refl
        same (Some c) = refl

    pub session_on-with_session : IsSome (get m conn) → session_on (with_session m conn session) conn ≡ session
    session_on-with_session there = ap (option_and_then (λ (c : Connection). c.session)) (get-changed (λ c. record { session = session; mails = c.mails }) m conn) ∙ by (get m conn) there
      where
        by : (o : Option Connection) → IsSome o → option_and_then (λ (c : Connection). c.session) (option_map (λ (c : Connection). record { session = session; mails = c.mails }) o) ≡ session
        by None h = absurd (true≢false (sym h))
        by (Some c) h = refl

    pub session_on-with_session-beside : (q : ℕ) → q ≢ conn → session_on (with_session m conn session) q ≡ session_on m q
    session_on-with_session-beside q ne = ap (option_and_then (λ (c : Connection). c.session)) (get-changed-beside (λ c. record { session = session; mails = c.mails }) m conn q ne)
