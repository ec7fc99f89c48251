use Rattle.std.proofs.Common.{length, sym, ap, arith}
use Rattle.std.proofs.lemmas.Result.{IfOk-weaker}
use Rattle.fe_service.proofs.KeptLemmas.{slot-below}
use Rattle.fe_service.proofs.RequestLemmas.{waiting_requests-without_attachment, waiting_requests-in_slot}
use Rattle.fe_service.proofs.attachments.Attachments.waiting_requests.Goals as goal

pub waiting_requests-requires : goal.waiting_requests-requires
waiting_requests-requires c = record { slot = slot-below _ _ _ _ _ c.self.invariant _ _ (sym c.in-Some.ensures) }

pub returns-in-Some : goal.returns-in-Some
returns-in-Some c = record {
  lists = rw (← c.self.view_is) (IfOk-weaker c.waiting_requests.result _ _ (λ waiting_requests listed. record {
    all = waiting_requests-in_slot _ _ c.self.invariant.agree _ c.self.invariant.owned _ _ waiting_requests.items (sym c.in-Some.ensures) listed.all;
    once = listed.once;
  }) c.waiting_requests.ensures.lists);
}

pub returns-in-None : goal.returns-in-None
returns-in-None c = record {
  lists = rw (← c.self.view_is) (record {
    all = waiting_requests-without_attachment _ _ c.self.invariant.agree _ c.self.invariant.owned _ c.new.result.items (sym c.in-None.ensures) c.new.ensures.items;
    once = let none = ap length c.new.ensures.items in λ i j d less below. absurd (omega (arith, none, below));
  });
}
