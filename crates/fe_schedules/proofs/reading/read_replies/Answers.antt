use Rattle.std.proofs.Common.{◌≡◌, ◌++◌, List, [], ◌∷◌, length, map, rules, sym, ap, ◌∙◌, append_assoc, append-nil}
use Rattle.std.proofs.lemmas.Option.{none-some}
use Rattle.fe_wire.specs.declared.server_message.ServerMessage.{ServerMessage as Reply}
use Rattle.fe_schedules.specs.Schedule.{printed_to}
use Rattle.fe_schedules.specs.declared.printed_reply.PrintedReply.{PrintedReply}
use Rattle.fe_schedules.proofs.FrameLemmas.{first, not_empty, is_nothing, none_left, pair_of}
use Rattle.fe_schedules.proofs.reading.read_replies.Goals as goal

pub unreachable-requires : goal.unreachable-requires
unreachable-requires c =
    let left = c.loop-rest.invariant c.requires.replies c.requires.fits c.requires.spelled in
    let f = first c.loop-rest.rest.now left.0 left.1 left.2 (not_empty (length c.loop-rest.rest.now) c.is_empty.result c.is_empty.ensures c.loop-rest-test.true) in
    absurd (none-some _ (c.in_default.ensures.frame ∙ f.front))

pub reply_in-requires : goal.reply_in-requires
reply_in-requires c =
    let left = c.loop-rest.invariant c.requires.replies c.requires.fits c.requires.spelled in
    let f = first c.loop-rest.rest.now left.0 left.1 left.2 (not_empty (length c.loop-rest.rest.now) c.is_empty.result c.is_empty.ensures c.loop-rest-test.true) in
    (f.reply, f.fits, (pair_of (c.in-Some.ensures.frame ∙ f.front)).0)

pub loop-rest-preserved : goal.loop-rest-preserved
loop-rest-preserved c = λ replies fits spelled.
    let left = c.loop-rest.invariant replies fits spelled in
    let f = first c.loop-rest.rest.now left.0 left.1 left.2 (not_empty (length c.loop-rest.rest.now) c.is_empty.result c.is_empty.ensures c.loop-rest-test.true) in
    let pair = pair_of (c.in-Some.ensures.frame ∙ f.front) in
    let read : c.in_ok-reply.reply ≡ f.reply = c.in_ok-reply.ensures f.reply f.fits pair.0 in
    let conn = c.args.conn in
    let before = c.loop-rest.printed_replies.items in
    let others : List PrintedReply = map (printed_to conn) f.others in
    let pushed : c.push.new.self.items ≡ before ++ printed_to conn c.in_ok-reply.reply ∷ [] = search rules in
    (f.others, f.each, pair.1, ap (λ (xs : List PrintedReply). xs ++ others) pushed ∙ append_assoc before (printed_to conn c.in_ok-reply.reply ∷ []) others ∙ ap (λ (r : Reply). before ++ printed_to conn r ∷ others) read ∙ ap (λ (xs : List Reply). before ++ map (printed_to conn) xs) (sym f.parts) ∙ left.3)

pub returns : goal.returns
returns c = λ replies fits spelled.
    let left = c.loop-rest.invariant replies fits spelled in
    let none : left.0 ≡ [] = none_left left.0 left.1 (sym (is_nothing c.loop-rest.rest.now c.is_empty.result c.is_empty.ensures c.loop-rest-test.false) ∙ left.2) in
    let before = c.loop-rest.printed_replies.items in
    sym (append-nil before) ∙ ap (λ (xs : List Reply). before ++ map (printed_to c.args.conn) xs) (sym none) ∙ left.3
