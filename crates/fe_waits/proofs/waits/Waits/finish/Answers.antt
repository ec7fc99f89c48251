use Rattle.std.proofs.Common.{◌≡◌, Some, is_some, ap, sym, ◌∙◌, ◌≤◌}
use Rattle.std.specs.FinMap.{len, remove}
use Rattle.fe_waits.specs.declared.row.Row.{Row}
use Rattle.fe_waits.specs.Waiting.{key_of}
use Rattle.fe_waits.specs.within.Inner.{lengths, with_chain, members_of}
use Rattle.fe_waits.proofs.FinishLemmas.{word-there, session-there, word-chain_kept, word-on, session-chain_linked, session-on, some-waits, row-left, off-left, members-finished, kept-finished}
use Rattle.fe_waits.proofs.MemberLemmas.{members-row, some_same}
use Rattle.fe_waits.proofs.WordLemmas.{lengths-with, len-with}
use Rattle.fe_waits.proofs.waits.Waits.finish.Goals as goal

pub chain-word-requires : goal.chain-word-requires
chain-word-requires c = record { word = word-there _ _ _ _ c.self.invariant _ _ c.get-row.ensures }

pub unlink-requires-clause-chain : goal.unlink-requires-clause-chain
unlink-requires-clause-chain c = word-chain_kept _ _ _ _ c.self.invariant _ _ c.get-row.ensures _ c.chain-word.ensures

pub unlink-requires-clause-on : goal.unlink-requires-clause-on
unlink-requires-clause-on c = word-on _ _ _ _ c.self.invariant _ _ c.get-row.ensures _ c.chain-word.ensures

pub set_chain-requires : goal.set_chain-requires
set_chain-requires c = record { word = ap is_some c.chain-word.ensures }

pub at-session-requires : goal.at-session-requires
at-session-requires c = session-there _ _ _ _ c.self.invariant _ _ c.get-row.ensures

pub unlink-requires-2-clause-chain : goal.unlink-requires-2-clause-chain
unlink-requires-2-clause-chain c =
    let one = c.unlink.ensures in
    session-chain_linked _ _ _ _ c.self.invariant _ _ c.get-row.ensures _ c.chain-word.ensures _ _ one.changes.list one.changes.chain one.changes.other_chains one.changes.other_family one.changes.items _ c.at-session.ensures

pub unlink-requires-2-clause-on : goal.unlink-requires-2-clause-on
unlink-requires-2-clause-on c =
    let one = c.unlink.ensures in
    session-on _ _ _ _ c.self.invariant _ _ c.get-row.ensures _ c.chain-word.ensures _ _ one.changes.list one.changes.chain one.changes.other_chains one.changes.other_family one.changes.items _ c.at-session.ensures

pub set-requires : goal.set-requires
set-requires c = session-there _ _ _ _ c.self.invariant _ _ c.get-row.ensures

pub overflow_sub-self : goal.overflow_sub-self
overflow_sub-self c =
    let one = c.unlink.ensures in
    let two = c.unlink-2.ensures in
    some-waits _ _ _ _ c.self.invariant _ _ c.get-row.ensures _ c.chain-word.ensures _ _ one.changes.list one.changes.chain one.changes.other_chains one.changes.other_family one.changes.items _ c.at-session.ensures _ _ two.changes.list two.changes.chain two.length two.changes.other_chains two.changes.other_family two.changes.items

pub give_back-requires-clause-taken : goal.give_back-requires-clause-taken
give_back-requires-clause-taken c =
    let one = c.unlink.ensures in
    let two = c.unlink-2.ensures in
    ap is_some (row-left _ _ _ _ c.self.invariant _ _ c.get-row.ensures _ c.chain-word.ensures _ _ one.changes.list one.changes.chain one.changes.other_chains one.changes.other_family one.changes.items _ c.at-session.ensures _ _ two.changes.list two.changes.chain two.length two.changes.other_chains two.changes.other_family two.changes.items)

pub give_back-requires-clause-off : goal.give_back-requires-clause-off
give_back-requires-clause-off c =
    let one = c.unlink.ensures in
    let two = c.unlink-2.ensures in
    off-left _ _ _ _ c.self.invariant _ _ c.get-row.ensures _ c.chain-word.ensures _ _ one.changes.list one.changes.chain one.changes.other_chains one.changes.other_family one.changes.items _ c.at-session.ensures _ _ two.changes.list two.changes.chain two.length two.changes.other_chains two.changes.other_family two.changes.items one.off two.off

pub invariant_of-self : goal.invariant_of-self
invariant_of-self c =
    let one = c.unlink.ensures in
    let two = c.unlink-2.ensures in
    let few : len (with_chain c.self.inside.words c.get-row.result.now.array c.get-row.result.now.index c.unlink.new.chain) ≤ 64 = rw (len-with _ c.get-row.result.now.array c.get-row.result.now.index c.unlink.new.chain (ap is_some c.chain-word.ensures)) c.self.invariant.arrays in
    rw (c.set.ensures, c.set_chain.ensures) (kept-finished _ _ _ _ c.self.invariant _ _ c.get-row.ensures _ c.chain-word.ensures _ _ one.changes.list one.changes.chain one.changes.other_chains one.changes.other_family one.changes.items _ c.at-session.ensures _ _ two.changes.list two.changes.chain two.length two.changes.other_chains two.changes.other_family two.changes.items _ c.give_back.ensures.freed few)

pub returns-clause-row : goal.returns-clause-row
returns-clause-row c =
    let one = c.unlink.ensures in
    let two = c.unlink-2.ensures in
    let same : c.give_back.result ≡ c.get-row.result.now = some_same (sym c.give_back.ensures.item ∙ row-left _ _ _ _ c.self.invariant _ _ c.get-row.ensures _ c.chain-word.ensures _ _ one.changes.list one.changes.chain one.changes.other_chains one.changes.other_family one.changes.items _ c.at-session.ensures _ _ two.changes.list two.changes.chain two.length two.changes.other_chains two.changes.other_family two.changes.items) in
    rw (← c.self.view_is) (c.get-row.ensures ∙ ap Some (sym same))

pub returns-clause-member : goal.returns-clause-member
returns-clause-member c =
    let one = c.unlink.ensures in
    let two = c.unlink-2.ensures in
    let same : c.give_back.result ≡ c.get-row.result.now = some_same (sym c.give_back.ensures.item ∙ row-left _ _ _ _ c.self.invariant _ _ c.get-row.ensures _ c.chain-word.ensures _ _ one.changes.list one.changes.chain one.changes.other_chains one.changes.other_family one.changes.items _ c.at-session.ensures _ _ two.changes.list two.changes.chain two.length two.changes.other_chains two.changes.other_family two.changes.items) in
    rw (← c.self.view_is) (members-row _ c.self.invariant.different c.args.node _ (c.get-row.ensures ∙ ap Some (sym same)))

pub returns-clause-removed : goal.returns-clause-removed
returns-clause-removed c =
    let one = c.unlink.ensures in
    let two = c.unlink-2.ensures in
    let same : c.give_back.result ≡ c.get-row.result.now = some_same (sym c.give_back.ensures.item ∙ row-left _ _ _ _ c.self.invariant _ _ c.get-row.ensures _ c.chain-word.ensures _ _ one.changes.list one.changes.chain one.changes.other_chains one.changes.other_family one.changes.items _ c.at-session.ensures _ _ two.changes.list two.changes.chain two.length two.changes.other_chains two.changes.other_family two.changes.items) in
    rw (← c.self.view_is) (record {
      members = members-finished _ _ _ _ c.self.invariant _ _ c.get-row.ensures _ c.chain-word.ensures _ _ one.changes.list one.changes.chain one.changes.other_chains one.changes.other_family one.changes.items _ c.at-session.ensures _ _ two.changes.list two.changes.chain two.length two.changes.other_chains two.changes.other_family two.changes.items _ c.give_back.ensures.freed ∙ ap (λ (row : Row). remove (members_of c.self.inside.pool.items) (key_of row)) (sym same);
      arrays = ap lengths c.set_chain.ensures ∙ lengths-with _ c.get-row.result.now.array c.get-row.result.now.index c.unlink.new.chain (ap is_some c.chain-word.ensures);
    })
