-- What an event that is not refused finds.
use Rattle.std.proofs.Common.{◌≡◌, ℕ, ◌+◌, ◌-◌, ◌^◌, ◌<◌, ◌≤◌, Bool, true, false, not, ◌||◌, Option, Some, None, IsSome, refl, sym, ap, subst, ◌∙◌, arith, rules}
use Rattle.std.specs.Prelude.{IsSomeAnd, is_some, nat_lt, if◌then◌else◌, Result, Ok, Err, IsTrue, option_and_then}
use Rattle.std.specs.Option.{option_map, option_map_or}
use Rattle.std.specs.FinMap.{get}
use Rattle.std.proofs.lemmas.Bool.Decides.{nat_tests}
use Rattle.fe_waits.specs.Waiting.{WaitingAccess}
use Rattle.fe_waits.proofs.MemberLemmas.{none_some}
use Rattle.fe_state.specs.Sessions.{Session, MayRise, kept_in, IsUsable}
use Rattle.fe_state.specs.declared.kept.Kept.{Kept}
use Rattle.fe_service.specs.AttachmentsState.{is_closing}
use Rattle.fe_service.specs.declared.attachment.Attachment.{Attachment}
use Rattle.fe_service.specs.Service.{request_of, IsService}
use Rattle.fe_service.specs.Events.{MaySettle, IsFree, floor_of}
use Rattle.fe_mail.specs.Connections.{session_on}
use Rattle.fe_mail.specs.declared.refusal.Refusal.{Refusal}
use Rattle.fe_mail.specs.declared.refusal.Refusal.TheVariants.{NotAttached, Closing, BelowFloor, BeyondWindow, StillWaiting, NotWaiting, Spent}
use Rattle.fe_front.specs.Front.{FrontState, IsFront, has_room, is_spent}
use Rattle.fe_front.specs.Call.{and_then, own, unclosing, unspent, in_window, addressed, may_cancel, may_settle, cancelling, settling, leaving, waits_below, kept_at, request_at}
use Rattle.fe_front.proofs.Agreement.{Agree}
use Rattle.fe_front.proofs.Attaching.{room_for}
use Rattle.fe_front.proofs.Below.{below-clear}

err_ok : {P : Type 0} (refusal : Refusal) (session : ℕ) → ◌≡◌ {A = Result ℕ Refusal} (Err refusal) (Ok session) → P
err_ok refusal session e = absurd cc

ok_same : (a b : ℕ) → ◌≡◌ {A = Result ℕ Refusal} (Ok a) (Ok b) → a ≡ b
ok_same a b e = cc

lt_true : (a b : ℕ) → nat_lt a b ≡ true → a < b
lt_true a b e = search (rules, nat_tests, e)

lt_false : (a b : ℕ) → nat_lt a b ≡ false → b ≤ a
lt_false a b e = search (rules, nat_tests, e)

-- a session that is not refused in two tests is in neither
pub both_passed : (o : Result ℕ Refusal) (next : ℕ → Result ℕ Refusal) (x : ℕ) → and_then o next ≡ Ok x → (session : ℕ) × (o ≡ Ok session) × (next session ≡ Ok x)
both_passed (Err refusal) next x e = err_ok refusal x e
both_passed (Ok session) next x e = (session, refl, e)

-- a connection has a session, which is not closing
pub record Owns (f : FrontState) (conn session : ℕ) : Type 0 where
  pub has : session_on f.connections conn ≡ Some session
  pub shut : is_closing f.service.attachments session ≡ false

pub owns : (f : FrontState) (conn session : ℕ) → own f conn ≡ Ok session → Owns f conn session
owns f conn session e = by (session_on f.connections conn) refl e
  where
    tested : (s : ℕ) (b : Bool) → is_closing f.service.attachments s ≡ b → session_on f.connections conn ≡ Some s → (if b then Err Closing else Ok s) ≡ Ok session → Owns f conn session
    tested s true closing is e = err_ok Closing session e
    tested s false closing is e = subst (λ s. Owns f conn s) (ok_same s session e) (record { has = is; shut = closing })

    by : (o : Option ℕ) → session_on f.connections conn ≡ o → option_map_or (unclosing f) o (Err NotAttached) ≡ Ok session → Owns f conn session
    by None is e = err_ok NotAttached session e
    by (Some s) is e = tested s (is_closing f.service.attachments s) refl is e

-- its session is in the state
pub own_there : (f : FrontState) (conn session : ℕ) → IsService f.service → Agree f.service.attachments f.connections → Owns f conn session → IsSome (get f.service.state.sessions session)
own_there f conn session h agree o = h.has_attachment session ∙ by (get f.service.attachments session) ((agree session conn).1 o.has) o.shut
  where
    by : (o : Option Attachment) → option_and_then (λ (attachment : Attachment). attachment.holder) o ≡ Some conn → option_map_or (λ (attachment : Attachment). attachment.closing) o false ≡ false → option_map_or (λ (attachment : Attachment). not attachment.closing) o false ≡ true
    by None e shut = none_some e
    by (Some attachment) e shut = ap not shut

unspent_ok : (f : FrontState) (s session : ℕ) → unspent f s ≡ Ok session → (is_spent f ≡ false) × (s ≡ session)
unspent_ok f s session e = by (is_spent f) refl e
  where
    by : (b : Bool) → is_spent f ≡ b → (if b then Err Spent else Ok s) ≡ Ok session → (is_spent f ≡ false) × (s ≡ session)
    by true is e = err_ok Spent session e
    by false is e = (is, ok_same s session e)

pub leaves : (f : FrontState) (conn session : ℕ) → leaving f conn ≡ Ok session → Owns f conn session × (is_spent f ≡ false)
leaves f conn session e =
    let (s, mine, rest) = both_passed (own f conn) (unspent f) session e in
    let (left, same) = unspent_ok f s session rest in
    (subst (λ s. Owns f conn s) same (owns f conn s mine), left)

-- ---- cancelling

may_cancel_same : (waits : Bool) (s session : ℕ) → (if waits then Ok s else Err NotWaiting) ≡ Ok session → s ≡ session
may_cancel_same true s session e = ok_same s session e
may_cancel_same false s session e = err_ok NotWaiting session e

pub cancels : (f : FrontState) (conn session number : ℕ) → cancelling f conn number ≡ Ok session → Owns f conn session
cancels f conn session number e =
    let (s, mine, rest) = both_passed (own f conn) (may_cancel f number) session e in
    subst (λ s. Owns f conn s) (may_cancel_same (is_some (get f.service.waiting (s, number))) s session rest) (owns f conn s mine)

-- ---- settling

pub record Settles (f : FrontState) (session floor : ℕ) : Type 0 where
  pub least : floor_of f.service session ≤ floor
  pub most : floor ≤ floor_of f.service session + 32
  pub limit : floor ≤ 2 ^ 63 - 32
  pub none : waits_below f.service.waiting session floor ≡ false
  pub unspent : is_spent f ≡ false

or_false : (a b : Bool) → (a || b) ≡ false → (a ≡ false) × (b ≡ false)
or_false false b e = (refl, e)
or_false true b e = absurd (by e)
  where
    by : true ≡ false → ⊥
    by e = cc

settle_tests : (a b c d : Bool) (s session : ℕ) → (if a then Err BelowFloor else (if b then Err BeyondWindow else (if c then Err StillWaiting else (if d then Err Spent else Ok s)))) ≡ Ok session → (a ≡ false) × (b ≡ false) × (c ≡ false) × (d ≡ false) × (s ≡ session)
settle_tests false false false false s session e = (refl, refl, refl, refl, ok_same s session e)
settle_tests false false false true s session e = err_ok Spent session e
settle_tests false false true d s session e = err_ok StillWaiting session e
settle_tests false true c d s session e = err_ok BeyondWindow session e
settle_tests true b c d s session e = err_ok BelowFloor session e

pub settles : (f : FrontState) (conn session floor : ℕ) → settling f conn floor ≡ Ok session → Owns f conn session × Settles f session floor
settles f conn session floor e =
    let (s, mine, rest) = both_passed (own f conn) (may_settle f floor) session e in
    let (not_below, within, none, left, same) = settle_tests (nat_lt floor (floor_of f.service s)) (nat_lt (floor_of f.service s + 32) floor || nat_lt (2 ^ 63 - 32) floor) (waits_below f.service.waiting s floor) (is_spent f) s session rest in
    let (window, limit) = or_false (nat_lt (floor_of f.service s + 32) floor) (nat_lt (2 ^ 63 - 32) floor) within in
    subst (λ s. Owns f conn s × Settles f s floor) same (
      owns f conn s mine,
      record {
        least = lt_false floor (floor_of f.service s) not_below;
        most = lt_false (floor_of f.service s + 32) floor window;
        limit = lt_false (2 ^ 63 - 32) floor limit;
        none = none;
        unspent = left;
      },
    )

-- the floor of its session may rise so far
pub may_rise_to : (f : FrontState) (session floor : ℕ) → IsSome (get f.service.state.sessions session) → Settles f session floor → IsSomeAnd (get f.service.state.sessions session) (λ x. MayRise x.floor floor)
may_rise_to f session floor there s = by (get f.service.state.sessions session) refl there
  where
    by : (o : Option Session) → get f.service.state.sessions session ≡ o → IsSome o → IsSomeAnd o (λ x. MayRise x.floor floor)
    by None is there = none_there there
      where
        none_there : {P : Type 0} → false ≡ true → P
        none_there f = cc
    by (Some x) is there =
        let at : floor_of f.service session ≡ x.floor = ap (λ (o : Option Session). option_map_or (λ x. x.floor) o 1) is in
        record { no_lower = omega (arith, at, s.least); within_window = omega (arith, at, s.most); within_limit = s.limit }

pub may_settle_to : (f : FrontState) (session floor : ℕ) → IsSome (get f.service.state.sessions session) → Settles f session floor → IsTrue (has_room f) → MaySettle f.service session floor
may_settle_to f session floor there s room = record {
  rises = may_rise_to f session floor there s;
  above = below-clear f.service.waiting session floor s.none;
  room = room_for f s.unspent room;
}

-- ---- calls

pub record InWindow (f : FrontState) (session number : ℕ) : Type 0 where
  pub least : floor_of f.service session ≤ number
  pub most : number < floor_of f.service session + 32

window_tests : (a b : Bool) (s session : ℕ) → (if a then Err BelowFloor else (if b then Ok s else Err BeyondWindow)) ≡ Ok session → (a ≡ false) × (b ≡ true) × (s ≡ session)
window_tests false true s session e = (refl, refl, ok_same s session e)
window_tests false false s session e = err_ok BeyondWindow session e
window_tests true b s session e = err_ok BelowFloor session e

pub addresses : (f : FrontState) (conn session number : ℕ) → addressed f conn number ≡ Ok session → Owns f conn session × InWindow f session number
addresses f conn session number e =
    let (s, mine, rest) = both_passed (own f conn) (in_window f number) session e in
    let (not_below, within, same) = window_tests (nat_lt number (floor_of f.service s)) (nat_lt number (floor_of f.service s + 32)) s session rest in
    subst (λ s. Owns f conn s × InWindow f s number) same
    (owns f conn s mine, record { least = lt_false number (floor_of f.service s) not_below; most = lt_true number (floor_of f.service s + 32) within })

some_none : {X P : Type 0} (x : X) → Some x ≡ None → P
some_none x e = none_some (sym e)

-- a number that stands for no request is new
pub nothing_at : (f : FrontState) (session number : ℕ) → request_at f session number ≡ None → (kept_at f session number ≡ None) × (get f.service.waiting (session, number) ≡ None)
nothing_at f session number e = by (kept_at f session number) refl e
  where
    waits : (o : Option WaitingAccess) → get f.service.waiting (session, number) ≡ o → option_map request_of o ≡ None → get f.service.waiting (session, number) ≡ None
    waits None is e = is
    waits (Some w) is e = some_none _ e

    by : (o : Option Kept) → kept_at f session number ≡ o → option_map_or (λ (k : Kept). Some k.request) o (option_map request_of (get f.service.waiting (session, number))) ≡ None
        → (kept_at f session number ≡ None) × (get f.service.waiting (session, number) ≡ None)
    by None is e = (is, waits (get f.service.waiting (session, number)) refl e)
    by (Some k) is e = some_none _ e

free_number : (f : FrontState) (session number : ℕ) → IsSome (get f.service.state.sessions session) → InWindow f session number → request_at f session number ≡ None → IsFree f.service session number
free_number f session number there w e = record { usable = by (get f.service.state.sessions session) refl there; new = (nothing_at f session number e).1 }
  where
    by : (o : Option Session) → get f.service.state.sessions session ≡ o → IsSome o → IsSomeAnd o (λ x. IsUsable x number)
    by None is there = none_there there
      where
        none_there : {P : Type 0} → false ≡ true → P
        none_there f = cc
    by (Some x) is there =
        let at : floor_of f.service session ≡ x.floor = ap (λ (o : Option Session). option_map_or (λ x. x.floor) o 1) is in
        let unkept : get x.kept number ≡ None = sym (ap (λ o. kept_in o number) is) ∙ (nothing_at f session number e).0 in
        record { in_window = record { not_below = omega (arith, at, w.least); not_beyond = omega (arith, at, w.most) }; not_kept = unkept }

-- a number in the window of a connection's session is free where it belongs to no request
pub free_within : (f : FrontState) (conn session number : ℕ) → IsFront f → addressed f conn number ≡ Ok session → request_at f session number ≡ None → IsFree f.service session number
free_within f conn session number front e new =
    let (mine, window) = addresses f conn session number e in
    free_number f session number (own_there f conn session front.service front.tied.agree mine) window new
