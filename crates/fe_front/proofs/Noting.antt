-- Which boxes stay where mails are made, connections go and entries are posted: all but that of the one addressed.
use Rattle.std.proofs.Common.{◌≡◌, ◌≢◌, ◌⊎◌, ℕ, Bool, true, false, length, Option, Some, None, is_some, inl, inr, refl, sym, ap, subst, ◌∙◌}
use Rattle.std.specs.Prelude.{IsTrue, nat_lt, if◌then◌else◌, ◌++◌, ◌∷◌, []}
use Rattle.std.specs.Option.{option_map_or}
use Rattle.fe_state.proofs.Maps.{get_left, same_or_other}
use Rattle.fe_service.specs.AttachmentsState.{holder_of, is_closing}
use Rattle.fe_service.specs.Events.{left}
use Rattle.fe_mail.specs.Books.{mail_refused_by_box}
use Rattle.fe_mail.specs.Connections.{session_on, mails_on}
use Rattle.fe_mail.specs.declared.connection.Connection.{Connection}
use Rattle.fe_mail.specs.declared.mail.Mail.{Mail}
use Rattle.fe_mail.proofs.Lookups.{is_some-with_mails, mails_on-with_mails-beside, is_some-with_session, mails_on-with_session}
use Rattle.fe_front.specs.Front.{FrontState, is_connected}
use Rattle.fe_front.specs.Steps.{parted, freed, departed, withdrawn_from, unboxed, dropped, boxed, overflowed, mailed}
use Rattle.fe_front.specs.Posting.{vacated, ended, may_have, HasItsBox, Notes}
use Rattle.fe_front.specs.declared.connection_set.ConnectionSet.{ConnectionSet}

-- ---- one connection

module _ (q : ℕ) where
  its_own : (f : FrontState) → HasItsBox f f q
  its_own f = record { mails = refl; there = refl }

  both : (f g h : FrontState) → HasItsBox f g q → HasItsBox g h q → HasItsBox f h q
  both f g h a b = record { mails = b.mails ∙ a.mails; there = b.there ∙ a.there }

  parted-box : (f : FrontState) (conn session : ℕ) → HasItsBox f (parted f conn session) q
  parted-box f conn session = record { mails = mails_on-with_session f.connections conn None q; there = is_some-with_session f.connections conn None q }

  freed-box : (f : FrontState) (session : ℕ) → HasItsBox f (freed f session) q
  freed-box f session = by (holder_of f.service.attachments session)
    where
      by : (o : Option ℕ) → HasItsBox f (option_map_or (λ conn. parted f conn session) o f) q
      by None = its_own f
      by (Some conn) = parted-box f conn session

  departed-box : (f : FrontState) (conn : ℕ) → HasItsBox f (departed f conn) q
  departed-box f conn = by (session_on f.connections conn)
    where
      by : (o : Option ℕ) → HasItsBox f (option_map_or (λ session. parted (withdrawn_from f session) conn session) o f) q
      by None = its_own f
      by (Some session) = record { mails = mails_on-with_session f.connections conn None q; there = is_some-with_session f.connections conn None q }

  vacated-box : (f : FrontState) (session : ℕ) → HasItsBox f (vacated f session) q
  vacated-box f session = by (is_closing f.service.attachments session)
    where
      by : (b : Bool) → HasItsBox f (if b then record f { service = left f.service session } else f) q
      by true = record { mails = refl; there = refl }
      by false = its_own f

  ended-box : (f : FrontState) (session : ℕ) → HasItsBox f (ended f session) q
  ended-box f session = both f (freed f session) (ended f session) (freed-box f session) (vacated-box (freed f session) session)

  module _ (conn : ℕ) (other : q ≢ conn) where
    unboxed-box : (f : FrontState) → HasItsBox f (unboxed f conn) q
    unboxed-box f =
        let same = get_left f.connections conn q other in
        record { mails = ap (λ o. option_map_or (λ (c : Connection). c.mails) o []) same; there = ap is_some same }

    dropped-box : (f : FrontState) → HasItsBox f (dropped f conn) q
    dropped-box f = by (is_connected f conn)
      where
        by : (b : Bool) → HasItsBox f (if b then unboxed (departed f conn) conn else f) q
        by true = both f (departed f conn) (unboxed (departed f conn) conn) (departed-box f conn) (unboxed-box (departed f conn))
        by false = its_own f

    mailed-box : (f : FrontState) (mail : Mail) → HasItsBox f (mailed f conn mail) q
    mailed-box f mail = by (is_connected f conn) (nat_lt (length (mails_on f.connections conn)) 128)
      where
        by : (a b : Bool) → HasItsBox f (if a then (if b then boxed f conn mail else overflowed f conn) else f) q
        by false b = its_own f
        by true true = record {
          mails = mails_on-with_mails-beside f.connections conn (mails_on f.connections conn ++ mail ∷ []) q other;
          there = is_some-with_mails f.connections conn (mails_on f.connections conn ++ mail ∷ []) q;
        }
        by true false =
            let refused : FrontState = record f { books = mail_refused_by_box f.books } in
            both f refused (overflowed f conn) (record { mails = refl; there = refl }) (dropped-box refused)

-- ---- sets

pub notes_not : (f : FrontState) (set : ConnectionSet) → Notes f f set set
notes_not f set = record { still = λ conn is. is; noted = λ conn. inr (its_own conn f) }

-- one post after the other
pub notes_then : (f g h : FrontState) (a b c : ConnectionSet) → Notes f g a b → Notes g h b c → Notes f h a c
notes_then f g h a b c one two = record {
  still = λ conn is. two.still conn (one.still conn is);
  noted = λ conn. elim (two.noted conn) as (λ _. IsTrue (may_have c conn) ⊎ HasItsBox f h conn) [
    | inl is ↦ inl is
    | inr later ↦ elim (one.noted conn) as (λ _. IsTrue (may_have c conn) ⊎ HasItsBox f h conn) [
      | inl is ↦ inl (two.still conn is)
      | inr first ↦ inr (both conn f g h first later)
    ]
  ];
}

pub notes_mailed : (f g : FrontState) (conn : ℕ) (mail : Mail) (a b : ConnectionSet) → g ≡ mailed f conn mail → IsTrue (may_have b conn) → ((q : ℕ) → IsTrue (may_have a q) → IsTrue (may_have b q)) → Notes f g a b
notes_mailed f g conn mail a b is here still = record {
  still = still;
  noted = λ q. elim (same_or_other q conn) as (λ _. IsTrue (may_have b q) ⊎ HasItsBox f g q) [
    | inl same ↦ inl (subst (λ (x : ℕ). IsTrue (may_have b x)) (sym same) here)
    | inr other ↦ inr (subst (λ x. HasItsBox f x q) (sym is) (mailed-box q conn other f mail))
  ];
}

pub notes_ended : (f g : FrontState) (session : ℕ) (set : ConnectionSet) → g ≡ ended f session → Notes f g set set
notes_ended f g session set is = record { still = λ q is. is; noted = λ q. inr (subst (λ x. HasItsBox f x q) (sym is) (ended-box q f session)) }
