-- The sessions' holders and the connections' sessions say the same, where one of each changes.
use Rattle.std.proofs.Common.{◌≡◌, ◌≢◌, ℕ, inl, inr, Option, Some, None, IsSome, refl, sym, ap, ◌∙◌}
use Rattle.std.specs.Prelude.{◌↔◌, false, List, option_and_then}
use Rattle.std.specs.Ordering.{nat_cmp}
use Rattle.std.specs.FinMap.{FinMap, get, insert, remove}
use Rattle.fe_state.proofs.Maps.{get_inserted, get_beside, get_removed, get_left, same_or_other}
use Rattle.fe_waits.proofs.MemberLemmas.{none_some, some_same}
use Rattle.fe_service.specs.AttachmentsState.{holder_of, with_holder, with_closing}
use Rattle.fe_service.specs.declared.attachment.Attachment.{Attachment}
use Rattle.fe_mail.specs.Connections.{first_connection, session_on, with_session, with_mails}
use Rattle.fe_mail.specs.declared.connection.Connection.{Connection}
use Rattle.fe_mail.specs.declared.mail.Mail.{Mail}
use Rattle.fe_mail.proofs.Lookups.{session_on-with_mails, session_on-with_session, session_on-with_session-beside}

-- two partial functions that are each other's inverse
abbrev pub AreInverse : (ℕ → Option ℕ) → (ℕ → Option ℕ) → Type 0
AreInverse h s = (a b : ℕ) → (h a ≡ Some b) ↔ (s b ≡ Some a)

abbrev pub Agree : FinMap nat_cmp Attachment → FinMap nat_cmp Connection → Type 0
Agree attachments m = AreInverse (holder_of attachments) (session_on m)

module _ (h s h' s' : ℕ → Option ℕ) (inverse : AreInverse h s) where
  pub still : ((a : ℕ) → h' a ≡ h a) → ((b : ℕ) → s' b ≡ s b) → AreInverse h' s'
  still same_h same_s a b = (λ e. same_s b ∙ (inverse a b).0 (sym (same_h a) ∙ e), λ e. same_h a ∙ (inverse a b).1 (sym (same_s b) ∙ e))

  module _ (a0 b0 : ℕ) (other_h : (a : ℕ) → a ≢ a0 → h' a ≡ h a) (other_s : (b : ℕ) → b ≢ b0 → s' b ≡ s b) where
    -- a pair is taken apart
    module _ (was : s b0 ≡ Some a0) (none_h : h' a0 ≡ None) (none_s : s' b0 ≡ None) where
      parted_to : (a b : ℕ) → h' a ≡ Some b → s' b ≡ Some a
      parted_to a b e = elim (same_or_other a a0) as (λ _. s' b ≡ Some a) [
        | inl same ↦ none_some (sym none_h ∙ ap h' (sym same) ∙ e)
        | inr other ↦
            let here : s b ≡ Some a = (inverse a b).0 (sym (other_h a other) ∙ e) in
            elim (same_or_other b b0) as (λ _. s' b ≡ Some a) [
              | inl same ↦ absurd (other (some_same (sym here ∙ ap s same ∙ was)))
              | inr beside ↦ other_s b beside ∙ here
            ]
      ]

      parted_from : (a b : ℕ) → s' b ≡ Some a → h' a ≡ Some b
      parted_from a b e = elim (same_or_other b b0) as (λ _. h' a ≡ Some b) [
        | inl same ↦ none_some (sym none_s ∙ ap s' (sym same) ∙ e)
        | inr other ↦
            let here : h a ≡ Some b = (inverse a b).1 (sym (other_s b other) ∙ e) in
            elim (same_or_other a a0) as (λ _. h' a ≡ Some b) [
              | inl same ↦ absurd (other (some_same (sym here ∙ ap h same ∙ (inverse a0 b0).1 was)))
              | inr beside ↦ other_h a beside ∙ here
            ]
      ]

      pub parted : AreInverse h' s'
      parted a b = (parted_to a b, parted_from a b)

    -- two that are alone become a pair
    module _ (free_h : h a0 ≡ None) (free_s : s b0 ≡ None) (now_h : h' a0 ≡ Some b0) (now_s : s' b0 ≡ Some a0) where
      joined_to : (a b : ℕ) → h' a ≡ Some b → s' b ≡ Some a
      joined_to a b e = elim (same_or_other a a0) as (λ _. s' b ≡ Some a) [
        | inl same ↦ ap s' (some_same (sym e ∙ ap h' same ∙ now_h)) ∙ now_s ∙ ap Some (sym same)
        | inr other ↦
            let here : s b ≡ Some a = (inverse a b).0 (sym (other_h a other) ∙ e) in
            elim (same_or_other b b0) as (λ _. s' b ≡ Some a) [
              | inl same ↦ none_some (sym free_s ∙ ap s (sym same) ∙ here)
              | inr beside ↦ other_s b beside ∙ here
            ]
      ]

      joined_from : (a b : ℕ) → s' b ≡ Some a → h' a ≡ Some b
      joined_from a b e = elim (same_or_other b b0) as (λ _. h' a ≡ Some b) [
        | inl same ↦ ap h' (some_same (sym e ∙ ap s' same ∙ now_s)) ∙ now_h ∙ ap Some (sym same)
        | inr other ↦
            let here : h a ≡ Some b = (inverse a b).1 (sym (other_s b other) ∙ e) in
            elim (same_or_other a a0) as (λ _. h' a ≡ Some b) [
              | inl same ↦ none_some (sym free_h ∙ ap h (sym same) ∙ here)
              | inr beside ↦ other_h a beside ∙ here
            ]
      ]

      pub joined : AreInverse h' s'
      joined a b = (joined_to a b, joined_from a b)

-- ---- attachments

module _ (attachments : FinMap nat_cmp Attachment) (session : ℕ) where
  pub holder-inserted : (attachment : Attachment) → holder_of (insert attachments session attachment) session ≡ attachment.holder
  holder-inserted attachment = ap (option_and_then (λ (attachment : Attachment). attachment.holder)) (get_inserted attachments session attachment)

  pub holder-beside : (attachment : Attachment) (q : ℕ) → q ≢ session → holder_of (insert attachments session attachment) q ≡ holder_of attachments q
  holder-beside attachment q other = ap (option_and_then (λ (attachment : Attachment). attachment.holder)) (get_beside attachments session attachment q other)

  pub holder-removed : holder_of (remove attachments session) session ≡ None
  holder-removed = ap (option_and_then (λ (attachment : Attachment). attachment.holder)) (get_removed attachments session)

  pub holder-left : (q : ℕ) → q ≢ session → holder_of (remove attachments session) q ≡ holder_of attachments q
  holder-left q other = ap (option_and_then (λ (attachment : Attachment). attachment.holder)) (get_left attachments session q other)

  -- a session that someone has, has an attachment
  pub attachment_there : (conn : ℕ) → holder_of attachments session ≡ Some conn → IsSome (get attachments session)
  attachment_there conn has = by_attachment (get attachments session) has
    where
      by_attachment : (o : Option Attachment) → option_and_then (λ (attachment : Attachment). attachment.holder) o ≡ Some conn → IsSome o
      by_attachment None e = none_some e
      by_attachment (Some attachment) e = refl

-- a session's closing leaves its holder
pub holder-closing : (attachments : FinMap nat_cmp Attachment) (session q : ℕ) → holder_of (with_closing attachments session) q ≡ holder_of attachments q
holder-closing attachments session q = elim (same_or_other q session) as (λ _. holder_of (with_closing attachments session) q ≡ holder_of attachments q) [
  | inl same ↦ ap (holder_of (with_closing attachments session)) same ∙ holder-inserted attachments session _ ∙ ap (holder_of attachments) (sym same)
  | inr other ↦ holder-beside attachments session _ q other
]

-- ---- connections

module _ (m : FinMap nat_cmp Connection) (conn : ℕ) where
  -- a connection that has a session is there
  pub connection_there : (session : ℕ) → session_on m conn ≡ Some session → IsSome (get m conn)
  connection_there session has = by_connection (get m conn) has
    where
      by_connection : (o : Option Connection) → option_and_then (λ (c : Connection). c.session) o ≡ Some session → IsSome o
      by_connection None e = none_some e
      by_connection (Some c) e = refl

  pub session-connected : get m conn ≡ None → (q : ℕ) → session_on (insert m conn first_connection) q ≡ session_on m q
  session-connected absent q = elim (same_or_other q conn) as (λ _. session_on (insert m conn first_connection) q ≡ session_on m q) [
    | inl same ↦
        ap (session_on (insert m conn first_connection)) same
        ∙ ap (option_and_then (λ (c : Connection). c.session)) (get_inserted m conn first_connection)
        ∙ sym (ap (option_and_then (λ (c : Connection). c.session)) absent)
        ∙ ap (session_on m) (sym same)
    | inr other ↦ ap (option_and_then (λ (c : Connection). c.session)) (get_beside m conn first_connection q other)
  ]

  pub session-removed : session_on m conn ≡ None → (q : ℕ) → session_on (remove m conn) q ≡ session_on m q
  session-removed free q = elim (same_or_other q conn) as (λ _. session_on (remove m conn) q ≡ session_on m q) [
    | inl same ↦
        ap (session_on (remove m conn)) same
        ∙ ap (option_and_then (λ (c : Connection). c.session)) (get_removed m conn)
        ∙ sym free
        ∙ ap (session_on m) (sym same)
    | inr other ↦ ap (option_and_then (λ (c : Connection). c.session)) (get_left m conn q other)
  ]

-- ---- both

module _ (attachments : FinMap nat_cmp Attachment) (m : FinMap nat_cmp Connection) (agree : Agree attachments m) where
  pub agree-parted : (conn session : ℕ) → session_on m conn ≡ Some session → Agree (with_holder attachments session None) (with_session m conn None)
  agree-parted conn session has =
      parted (holder_of attachments) (session_on m) (holder_of (with_holder attachments session None)) (session_on (with_session m conn None)) agree session conn
      (λ a other. holder-beside attachments session _ a other)
      (λ b other. session_on-with_session-beside m conn None b other)
      has
      (holder-inserted attachments session _)
      (session_on-with_session m conn None (connection_there m conn session has))

  pub agree-joined : (conn session : ℕ) → holder_of attachments session ≡ None → session_on m conn ≡ None → IsSome (get m conn)
      → Agree (insert attachments session (record { holder = Some conn; closing = false })) (with_session m conn (Some session))
  agree-joined conn session free_session free_conn there =
      joined (holder_of attachments) (session_on m) _ (session_on (with_session m conn (Some session))) agree session conn
      (λ a other. holder-beside attachments session (record { holder = Some conn; closing = false }) a other)
      (λ b other. session_on-with_session-beside m conn (Some session) b other)
      free_session
      free_conn
      (holder-inserted attachments session (record { holder = Some conn; closing = false }))
      (session_on-with_session m conn (Some session) there)

  pub agree-boxed : (conn : ℕ) (mails : List Mail) → Agree attachments (with_mails m conn mails)
  agree-boxed conn mails = still (holder_of attachments) (session_on m) (holder_of attachments) (session_on (with_mails m conn mails)) agree (λ a. refl) (session_on-with_mails m conn mails)

  pub agree-connected : (conn : ℕ) → get m conn ≡ None → Agree attachments (insert m conn first_connection)
  agree-connected conn absent = still (holder_of attachments) (session_on m) (holder_of attachments) (session_on (insert m conn first_connection)) agree (λ a. refl) (session-connected m conn absent)

  pub agree-removed : (conn : ℕ) → session_on m conn ≡ None → Agree attachments (remove m conn)
  agree-removed conn free = still (holder_of attachments) (session_on m) (holder_of attachments) (session_on (remove m conn)) agree (λ a. refl) (session-removed m conn free)

  pub agree-closing : (session : ℕ) → Agree (with_closing attachments session) m
  agree-closing session = still (holder_of attachments) (session_on m) (holder_of (with_closing attachments session)) (session_on m) agree (holder-closing attachments session) (λ b. refl)

  pub agree-left : (session : ℕ) → holder_of attachments session ≡ None → Agree (remove attachments session) m
  agree-left session free = still (holder_of attachments) (session_on m) (holder_of (remove attachments session)) (session_on m) agree
      (λ q. elim (same_or_other q session) as (λ _. holder_of (remove attachments session) q ≡ holder_of attachments q) [
        | inl same ↦ ap (holder_of (remove attachments session)) same ∙ holder-removed attachments session ∙ sym free ∙ ap (holder_of attachments) (sym same)
        | inr other ↦ holder-left attachments session q other
      ])
      (λ b. refl)
