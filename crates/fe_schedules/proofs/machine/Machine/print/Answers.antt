use Rattle.std.proofs.Common.{List, ◌++◌, string_bytes, refl, sym, ap, ◌∙◌, subst, rules}
use Rattle.std.proofs.lemmas.List.Sorted.{answers_always}
use Rattle.std.specs.List.{flat_map}
use Rattle.fe_desk.specs.Acknowledged.{may_ask_any}
use Rattle.fe_schedules.specs.Ready.{IsReady}
use Rattle.fe_schedules.specs.Schedule.{key_of, printed_text, IsSorting}
use Rattle.fe_schedules.specs.declared.printed_reply.PrintedReply.{PrintedReply}
use Rattle.fe_schedules.proofs.Readiness.{ready_anew}
use Rattle.fe_schedules.proofs.machine.Machine.print.Goals as goal

pub clear_trace-requires-clause-stands : goal.clear_trace-requires-clause-stands
clear_trace-requires-clause-stands c = λ honest. c.requires.machine.ready.stands

pub clear_trace-requires-clause-told : goal.clear_trace-requires-clause-told
clear_trace-requires-clause-told c = record { posted = c.requires.posted; mails = c.requires.machine.ready.quiet }

pub returns-clause-printed : goal.returns-clause-printed
returns-clause-printed c =
    let d = c.args.self.now.desk in
    let order = c.sort_by_key.new.self.items in
    let printed_replies = c.in_ok-read_all.ensures in
    let sorting : IsSorting c.read_all.new.printed_replies.items order = record {
      same = c.sort_by_key.ensures.permutation;
      ascends = c.in_ok-sort_by_key.ensures.sorted key_of (answers_always _ _ _ (λ f a r g h. search rules));
      stable = c.sort_by_key.ensures.stable key_of (answers_always _ _ _ (λ f a r g h. search rules));
    } in
    record {
      machine = record { ready = subst IsReady (sym c.clear_trace.ensures.anew) (ready_anew d c.requires.machine.ready); lost = c.requires.machine.lost };
      desk = c.clear_trace.ensures.anew;
      acknowledged = λ begun from is. c.clear_trace.ensures.acknowledged begun may_ask_any from is;
      text = record {
        more = flat_map printed_text order;
        prints = record { printed_replies = c.read_all.new.printed_replies.items; order = order; are = printed_replies; sorts = sorting; is = refl };
        is = c.in_ok-print_replies.ensures ∙ ap (λ (ts : List PrintedReply). string_bytes c.args.text.now ++ flat_map printed_text ts) c.as_slice.ensures.value;
      };
    }
