-- No connection comes but where one connects: whoever is connected after any other event was connected before it.
use Rattle.std.proofs.Common.{◌≡◌, ℕ, Some, is_some, sym, ap, ◌∙◌}
use Rattle.std.specs.Ordering.{nat_cmp}
use Rattle.std.specs.FinMap.{FinMap, get}
use Rattle.fe_state.specs.declared.batch.Batch.{Batch}
use Rattle.fe_mail.specs.declared.connection.Connection.{Connection}
use Rattle.fe_mail.proofs.Lookups.{is_some-with_session}
use Rattle.fe_front.specs.Front.{FrontState, is_connected}
use Rattle.fe_front.specs.Steps.{released, freed, attached_to}
use Rattle.fe_front.specs.Posting.{posted}
use Rattle.fe_front.proofs.Keeping.{NoneComes, both, released-keeps, freed-keeps, posted_all-keeps}

-- no connection comes where the connections are the same
pub same_connections : (f g : FrontState) → g.connections ≡ f.connections → NoneComes f g
same_connections f g same conn is = ap (λ (m : FinMap nat_cmp Connection). is_some (get m conn)) (sym same) ∙ is

pub attached-comes : (f : FrontState) (conn session : ℕ) → NoneComes f (attached_to f conn session)
attached-comes f conn session q is =
    let mid = freed (released f conn) session in
    let before = both f (released f conn) mid (released-keeps f conn) (freed-keeps (released f conn) session) in
    before.none_comes q (sym (is_some-with_session mid.connections conn (Some session) q) ∙ is)

-- posting makes nothing pending
pub pending-posted : (f g : FrontState) (batch : Batch) → g ≡ posted f batch → g.service.pending ≡ f.service.pending
pending-posted f g batch is = ap (λ (h : FrontState). h.service.pending) is ∙ (posted_all-keeps f batch.entries batch.first).pending

pub none-posted : (f g : FrontState) (batch : Batch) → g ≡ posted f batch → NoneComes f g
none-posted f g batch is conn there = (posted_all-keeps f batch.entries batch.first).none_comes conn (ap (λ (x : FrontState). is_connected x conn) (sym is) ∙ there)
