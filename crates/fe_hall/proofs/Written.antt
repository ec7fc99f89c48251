-- What a write side took and wrote, piece by piece.
use Rattle.std.proofs.Common.{◌≡◌, ℕ, zero, suc, ◌+◌, ◌-◌, ◌<◌, ◌≤◌, Bool, true, List, [], ◌∷◌, ◌++◌, length, take, drop, Option, Some, None, Result, Err, refl, sym, ap, subst, ◌∙◌, append_assoc, arith, length-append}
use Rattle.std.specs.Prelude.{if◌then◌else◌, is_ok}
use Rattle.std.specs.List.{filter_map, cons_option}
use Rattle.std.proofs.lemmas.List.{append-nil, take-append-le, take_all, take-take}
use Rattle.std.proofs.lemmas.List.Elements.{filter_map-append}
use Rattle.std.proofs.lemmas.Grind.{flat_map-append}
use Rattle.std.proofs.Math.Seq.{take-add, take-append_seam}
use Rattle.fe_mail.specs.declared.mail.Mail.{Mail}
use Rattle.fe_wire.specs.Spelling.{reply_spelling}
use Rattle.fe_messages.specs.Mails.{reply_of, spelled}
use Rattle.fe_wire.specs.declared.server_message.ServerMessage.{ServerMessage}
use Rattle.fe_history.specs.declared.receipt.Receipt.{Receipt}
use Rattle.fe_hall.specs.declared.write_end.WriteEnd.{WriteEnd}
use Rattle.fe_hall.specs.declared.write_end.WriteEnd.TheVariants.{Device, NoMemory}
use Rattle.fe_shared.specs.declared.last_answer.LastAnswer.{LastAnswer}
use Rattle.fe_shared.specs.declared.last_answer.LastAnswer.TheVariants as last_answer
use Rattle.fe_shared.specs.declared.taking.Taking.{Taking}
use Rattle.fe_shared.specs.declared.taking.Taking.TheVariants as taking
use Rattle.fe_shared.specs.Seats.{MailSeatState, TookNoMail, mail_taken, taking_answered}
use Rattle.fe_history.specs.Receipts.{receipt_of}
use Rattle.fe_hall.specs.within.Sides.{IssuesOn}
use Rattle.fe_history.specs.declared.act.Act.{Act}
use Rattle.fe_history.proofs.Acts.{issued_both, prefix_trans}
use Rattle.fe_hall.specs.Writes.{receipts_with, IsBatch, BreaksOff, MayLackLast, IsWritten, AreTaken, TakesOn, AreSpelled}

-- ---- lists

take_front : {A : Type 0} (n : ℕ) (xs ys : List A) → take n (take n xs ++ ys) ≡ take n (xs ++ ys)
take_front zero xs ys = refl
take_front (suc n) [] ys = refl
take_front (suc n) (x ∷ xs) ys = ap (λ t. x ∷ t) (take_front n xs ys)

-- the bytes up to the next ones, and those of the next `most` that a half took
pub wrote_further : (bytes before mid after : List ℕ) (next most count : ℕ) → count ≤ most → mid ≡ before ++ take next bytes
    → after ≡ mid ++ take count (take most (drop next bytes)) → after ≡ before ++ take (next + count) bytes
wrote_further bytes before mid after next most count few so_far more =
    more
    ∙ ap (λ t. mid ++ t) (take-take count most (drop next bytes) few)
    ∙ ap (λ t. t ++ take count (drop next bytes)) so_far
    ∙ append_assoc before (take next bytes) (take count (drop next bytes))
    ∙ ap (λ t. before ++ t) (sym (take-add next count bytes))

spelled-append : (xs ys : List Mail) → spelled (xs ++ ys) ≡ spelled xs ++ spelled ys
spelled-append xs ys = flat_map-append (λ m. reply_spelling (reply_of m)) xs ys

-- ---- seat and receipts

pub takes_none : (s : MailSeatState) (kept : List Receipt) → length kept ≤ 1024 → TakesOn s s kept kept []
takes_none s kept few = record {
  conn = refl;
  count = let same : s.mails ≡ s.mails + 0 = omega arith in same;
  taken = sym (append-nil s.taken);
  receipts = sym (ap (λ t. take 1024 t) (append-nil kept) ∙ take_all 1024 kept few);
}

pub takes_on : (a b c : MailSeatState) (kept more all : List Receipt) (ms ns : List Mail) → TakesOn a b kept more ms → TakesOn b c more all ns → TakesOn a c kept all (ms ++ ns)
takes_on a b c kept more all ms ns one two = record {
  conn = two.conn ∙ one.conn;
  count = omega (arith, one.count, two.count, length-append ms ns);
  taken = two.taken ∙ ap (λ (t : List Mail). t ++ ns) one.taken ∙ append_assoc a.taken ms ns;
  receipts =
      let of : Mail → Option Receipt = receipt_of a.conn in
      two.receipts
      ∙ ap (λ (n : ℕ). receipts_with n more ns) one.conn
      ∙ ap (λ (rs : List Receipt). receipts_with a.conn rs ns) one.receipts
      ∙ take_front 1024 (kept ++ filter_map of ms) (filter_map of ns)
      ∙ ap (λ t. take 1024 t) (append_assoc kept (filter_map of ms) (filter_map of ns) ∙ ap (λ t. kept ++ t) (sym (filter_map-append of ms ns)));
}

pub takes_same : (a b : MailSeatState) (kept same : List Receipt) → length kept ≤ 1024 → TookNoMail a b → same ≡ kept → TakesOn a b kept same []
takes_same a b kept same few still receipts =
    let none = takes_none a kept few in record { conn = still.conn; count = still.mails ∙ none.count; taken = still.taken ∙ none.taken; receipts = receipts ∙ none.receipts }

-- a mail is taken, and its receipt kept
pub takes_one : (a b : MailSeatState) (given : Taking) (kept same all : List Receipt) (m : Mail) (more : Bool) (n : ℕ) → same ≡ kept → b ≡ taking_answered a given → given ≡ taking.Mail m more → n ≡ b.conn
    → all ≡ receipts_with n same (m ∷ []) → TakesOn a b kept all (m ∷ [])
takes_one a b given kept same all m more n receipts answered is conn keeps =
    let took : b ≡ mail_taken a m more = answered ∙ ap (λ (g : Taking). taking_answered a g) is in
    record {
      conn = ap (λ (s : MailSeatState). s.conn) took;
      count = ap (λ (s : MailSeatState). s.mails) took;
      taken = ap (λ (s : MailSeatState). s.taken) took;
      receipts =
          keeps
          ∙ ap (λ (k : ℕ). receipts_with k same (m ∷ [])) (conn ∙ ap (λ (s : MailSeatState). s.conn) took)
          ∙ ap (λ (rs : List Receipt). receipts_with a.conn rs (m ∷ [])) receipts;
    }

-- all that a side took, and that it took when it leaves
pub as_taken : {before after left : MailSeatState} {none kept : List Receipt} {mails : List Mail} → TakesOn before after none kept mails → none ≡ [] → TookNoMail after left → AreTaken before left kept mails
as_taken {before} {mails} takes is still =
    record { conn = still.conn ∙ takes.conn; count = still.mails ∙ takes.count; taken = still.taken ∙ takes.taken; receipts = takes.receipts ∙ ap (λ (rs : List Receipt). receipts_with before.conn rs mails) is }

-- ---- what was issued

-- answers that were issued to a connection, and then others
pub issues_on : (n k : ℕ) (ms ns : List Mail) (xs ys zs : List Act) → k ≡ n → IssuesOn n ms xs ys → IssuesOn k ns ys zs → IssuesOn n (ms ++ ns) xs zs
issues_on n k ms ns xs ys zs same one two = (prefix_trans xs ys zs one.0 two.0, issued_both n k ms ns ys zs same two.0 one.1 two.1)

-- no mail is taken, and the side ends
pub takes_end : (s t : MailSeatState) (ended_as : LastAnswer) (kept same : List Receipt) → length kept ≤ 1024 → same ≡ kept → t ≡ record s { last_answer = ended_as } → TakesOn s t kept same []
takes_end s t ended_as kept same few receipts is =
    takes_same s t kept same few (record { conn = ap (λ (u : MailSeatState). u.conn) is; mails = ap (λ (u : MailSeatState). u.mails) is; taken = ap (λ (u : MailSeatState). u.taken) is }) receipts

-- a mail without a receipt, and one whose receipt is kept, or is beyond the first
pub keeps_none : (n : ℕ) (kept : List Receipt) (m : Mail) → length kept ≤ 1024 → None ≡ receipt_of n m → kept ≡ receipts_with n kept (m ∷ [])
keeps_none n kept m few none =
    sym (ap (λ (t : List Receipt). take 1024 t) (append-nil kept) ∙ take_all 1024 kept few) ∙ ap (λ (o : Option Receipt). take 1024 (kept ++ cons_option o [])) none

pub keeps_one : {A E : Type 0} (pushed : Result A E) (n : ℕ) (kept all : List Receipt) (m : Mail) (r : Receipt) → length kept < 1024 → Some r ≡ receipt_of n m → is_ok pushed ≡ true
    → all ≡ (if is_ok pushed then kept ++ r ∷ [] else kept) → all ≡ receipts_with n kept (m ∷ [])
keeps_one pushed n kept all m r few some ok is =
    is
    ∙ ap (λ (b : Bool). if b then kept ++ r ∷ [] else kept) ok
    ∙ sym (take_all 1024 (kept ++ r ∷ []) (omega (arith, length-append kept (r ∷ []))))
    ∙ ap (λ (o : Option Receipt). take 1024 (kept ++ cons_option o [])) some

pub keeps_first : (n : ℕ) (kept : List Receipt) (m : Mail) → length kept ≤ 1024 → 1024 ≤ length kept → kept ≡ receipts_with n kept (m ∷ [])
keeps_first n kept m few full = sym (take-append-le 1024 kept (filter_map (receipt_of n) (m ∷ [])) full ∙ take_all 1024 kept few)

-- ---- batches

pub batch_none : IsBatch []
batch_none = omega arith

pub batch_more : (mails more : List Mail) → IsBatch mails → length more ≤ 1 → length (spelled mails) < 65536 → IsBatch (mails ++ more)
batch_more mails [] batch few short = subst IsBatch (sym (append-nil mails)) batch
batch_more mails (m ∷ []) batch few short =
    let count : length (mails ++ m ∷ []) - 1 ≡ length mails = omega (arith, length-append mails (m ∷ [])) in
    let front : take (length (mails ++ m ∷ []) - 1) (mails ++ m ∷ []) ≡ mails = ap (λ k. take k (mails ++ m ∷ [])) count ∙ take-append_seam mails (m ∷ []) in
    subst (λ (xs : List Mail). length (spelled xs) < 65536) (sym front) short
batch_more mails (m ∷ n ∷ more) batch few short = absurd (omega arith)

-- ---- what the client got

pub spelled_one : (frames same after : List ℕ) (m : Mail) (r : ServerMessage) → same ≡ frames → r ≡ reply_of m → after ≡ same ++ reply_spelling r → after ≡ frames ++ spelled (m ∷ [])
spelled_one frames same after m r is reply put =
    put
    ∙ ap (λ t. t ++ reply_spelling r) is
    ∙ ap (λ (x : ServerMessage). frames ++ reply_spelling x) reply
    ∙ ap (λ t. frames ++ t) (sym (append-nil (reply_spelling (reply_of m))))

pub spelled_more : (frames after : List ℕ) (mails more : List Mail) → frames ≡ spelled mails → after ≡ frames ++ spelled more → after ≡ spelled (mails ++ more)
spelled_more frames after mails more so_far is = is ∙ ap (λ t. t ++ spelled more) so_far ∙ sym (spelled-append mails more)

-- mails of which the last may not be spelled
pub lacks_one : (before same : List ℕ) (mails : List Mail) → length mails ≤ 1 → same ≡ before → MayLackLast before mails same
lacks_one before same mails few is = record { earlier = []; last = mails; all = refl; few = few; got = is ∙ sym (append-nil before) }

-- after mails that are spelled others were taken, when the side ends
pub spells_on : (A B : Type 0) (end : WriteEnd) (frames after : List ℕ) (mails more : List Mail) → frames ≡ spelled mails → AreSpelled {A = A} frames (Err end) more after
    → AreSpelled {A = B} [] (Err end) (mails ++ more) after
spells_on A B Device frames after mails more so_far is = absurd is
spells_on A B (NoMemory short) frames after mails more so_far w = record {
  earlier = mails ++ w.earlier;
  last = w.last;
  all = ap (λ t. mails ++ t) w.all ∙ sym (append_assoc mails w.earlier w.last);
  few = w.few;
  got = spelled_more frames after mails w.earlier so_far w.got;
}
spells_on A B _ frames after mails more so_far is = spelled_more frames after mails more so_far is

-- what is spelled when a side ends is a front of the mails' frames
rest_of : {A : Type 0} (taken : Result A WriteEnd) (mails : List Mail) (frames : List ℕ) → AreSpelled [] taken mails frames → (rest : List ℕ) × (spelled mails ≡ frames ++ rest)
rest_of (Err Device) mails frames is = absurd is
rest_of (Err (NoMemory short)) mails frames w = (
  spelled w.last,
  ap spelled w.all ∙ spelled-append w.earlier w.last ∙ ap (λ t. t ++ spelled w.last) (sym w.got),
)
rest_of _ mails frames is = ([], sym is ∙ sym (append-nil frames))

pub breaks_off : {A : Type 0} (taken : Result A WriteEnd) (before frames bytes after : List ℕ) (mails : List Mail) (n : ℕ) → bytes ≡ frames → IsBatch mails
    → AreSpelled [] taken mails frames → n ≤ length bytes → after ≡ before ++ take n bytes → BreaksOff before mails after
breaks_off taken before frames bytes after mails n same batch spelling few got =
    let rest = rest_of taken mails frames spelling in record {
      earlier = [];
      last = mails;
      all = refl;
      batch = batch;
      count = n;
      got =
          got
          ∙ ap (λ (f : List ℕ). before ++ take n f) same
          ∙ ap (λ t. before ++ t) (sym (ap (λ t. take n t) rest.1 ∙ take-append-le n frames rest.0 (subst (λ (f : List ℕ). n ≤ length f) same few)));
    }

-- what was spelled is written: all of it, or what the side had when it ended
pub written_so : (before frames bytes after : List ℕ) (mails : List Mail) → frames ≡ spelled mails → bytes ≡ frames → after ≡ before ++ bytes → after ≡ before ++ spelled mails
written_so before frames bytes after mails spelling same got = got ∙ ap (λ t. before ++ t) (same ∙ spelling)

pub written_as : (A : Type 0) (end : WriteEnd) (before frames bytes after : List ℕ) (mails : List Mail) → AreSpelled {A = A} [] (Err end) mails frames → bytes ≡ frames → after ≡ before ++ bytes
    → IsWritten before mails end after
written_as A Device before frames bytes after mails spelling same got = absurd spelling
written_as A (NoMemory short) before frames bytes after mails w same got = record {
  earlier = w.earlier;
  last = w.last;
  all = w.all;
  few = w.few;
  got = written_so before frames bytes after w.earlier w.got same got;
}
written_as A _ before frames bytes after mails spelling same got = written_so before frames bytes after mails spelling same got

pub wrote_more : (before mid after : List ℕ) (ms ns : List Mail) → mid ≡ before ++ spelled ms → after ≡ mid ++ spelled ns → after ≡ before ++ spelled (ms ++ ns)
wrote_more before mid after ms ns so_far got =
    got
    ∙ ap (λ t. t ++ spelled ns) so_far
    ∙ append_assoc before (spelled ms) (spelled ns)
    ∙ ap (λ t. before ++ t) (sym (spelled-append ms ns))

pub written_more : (end : WriteEnd) (before mid after : List ℕ) (ms ns : List Mail) → mid ≡ before ++ spelled ms → IsWritten mid ns end after → IsWritten before (ms ++ ns) end after
written_more Device before mid after ms ns so_far w = record {
  earlier = ms ++ w.earlier;
  last = w.last;
  all = ap (λ t. ms ++ t) w.all ∙ sym (append_assoc ms w.earlier w.last);
  batch = w.batch;
  count = w.count;
  got =
      let rest = take w.count (spelled w.last) in
      w.got
      ∙ ap (λ t. t ++ (spelled w.earlier ++ rest)) so_far
      ∙ append_assoc before (spelled ms) (spelled w.earlier ++ rest)
      ∙ ap (λ t. before ++ t) (sym (append_assoc (spelled ms) (spelled w.earlier) rest) ∙ ap (λ t. t ++ rest) (sym (spelled-append ms w.earlier)));
}
written_more (NoMemory short) before mid after ms ns so_far w = record {
  earlier = ms ++ w.earlier;
  last = w.last;
  all = ap (λ t. ms ++ t) w.all ∙ sym (append_assoc ms w.earlier w.last);
  few = w.few;
  got = wrote_more before mid after ms w.earlier so_far w.got;
}
written_more _ before mid after ms ns so_far got = wrote_more before mid after ms ns so_far got
