use Rattle.std.proofs.Common.{sym}
use Rattle.fe_service.proofs.KeptLemmas.{slot-below}
use Rattle.fe_service.proofs.RequestLemmas.{waiting_request-without_attachment, waiting_request-none, waiting_request-some}
use Rattle.fe_service.proofs.attachments.Attachments.find.Goals as goal

pub returns-in_err-slot : goal.returns-in_err-slot
returns-in_err-slot c = record {
  waiting_request = rw (c.from_residual.ensures, ← c.self.view_is) (sym (waiting_request-without_attachment _ _ c.self.invariant.agree _ c.self.invariant.owned _ _ (sym c.in_err-slot.ensures)));
}

pub find-requires : goal.find-requires
find-requires c = record { slot = slot-below _ _ _ _ _ c.self.invariant _ _ (sym c.in_ok-slot.ensures) }

pub returns-in_err-row : goal.returns-in_err-row
returns-in_err-row c = record {
  waiting_request =
      rw (c.from_residual-in_err-row.ensures, ← c.self.view_is)
      (sym (waiting_request-none _ _ c.self.invariant.agree _ c.self.invariant.owned _ _ _ (sym c.in_ok-slot.ensures) (sym c.in_err-row.ensures.row)));
}

pub returns : goal.returns
returns c = record {
  waiting_request =
      rw (c.of.ensures, ← c.self.view_is)
      (sym (waiting_request-some _ _ c.self.invariant.agree _ c.self.invariant.owned _ _ _ (sym c.in_ok-slot.ensures) _ (sym c.in_ok-row.ensures.row)));
}
