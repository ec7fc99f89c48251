use Rattle.std.proofs.Common.{is_some, ap, ◌∙◌, arith, ◌≤◌}
use Rattle.std.specs.FinMap.{len}
use Rattle.fe_pool.specs.declared.family.Family.TheVariants.{OfWord, OfSession}
use Rattle.fe_waits.specs.declared.row.Row.{Row}
use Rattle.fe_waits.specs.within.Inner.{members_of, lengths, with_chain}
use Rattle.fe_waits.proofs.AddLemmas.{total-room, takes, members-added, word-chain_taken, off-taken, taken-is, session-chain_linked, linked-is, off-linked, items_added, kept-added}
use Rattle.fe_waits.proofs.WordLemmas.{word-chain, lengths-with, len-with}
use Rattle.fe_waits.proofs.waits.Waits.add.Goals as goal

pub unwrap-node-requires : goal.unwrap-node-requires
unwrap-node-requires c =
    let asked = rw (← c.self.view_is) at c.requires in
    takes _ _ _ _ c.self.invariant c.take.result (total-room _ _ _ _ c.self.invariant c.args.slot asked.slot asked.room) c.take.ensures.full.0

pub chain-word-requires : goal.chain-word-requires
chain-word-requires c = let asked = rw (← c.self.view_is) at c.requires in record { word = word-chain _ _ _ asked.word }

pub push_back-requires-clause-chain : goal.push_back-requires-clause-chain
push_back-requires-clause-chain c =
    let asked = rw (← c.self.view_is) at c.requires in
    let free = rw c.unwrap-node.ensures at c.take.ensures.was_free in
    let took = rw c.unwrap-node.ensures at c.take.ensures.taken in
    let row : Row = record { slot = c.args.slot; number = c.args.number; array = c.args.array; index = c.args.index; op = c.args.op } in
    word-chain_taken _ _ _ _ c.self.invariant row asked.slot asked.new _ free _ took _ c.chain-word.ensures

pub push_back-requires-clause-taken : goal.push_back-requires-clause-taken
push_back-requires-clause-taken c =
    let asked = rw (← c.self.view_is) at c.requires in
    let free = rw c.unwrap-node.ensures at c.take.ensures.was_free in
    let took = rw c.unwrap-node.ensures at c.take.ensures.taken in
    let row : Row = record { slot = c.args.slot; number = c.args.number; array = c.args.array; index = c.args.index; op = c.args.op } in
    taken-is _ _ _ _ c.self.invariant row asked.slot asked.new _ free _ took

pub push_back-requires-clause-off : goal.push_back-requires-clause-off
push_back-requires-clause-off c =
    let asked = rw (← c.self.view_is) at c.requires in
    let free = rw c.unwrap-node.ensures at c.take.ensures.was_free in
    let took = rw c.unwrap-node.ensures at c.take.ensures.taken in
    let off = rw c.unwrap-node.ensures at c.take.ensures.off in
    let row : Row = record { slot = c.args.slot; number = c.args.number; array = c.args.array; index = c.args.index; op = c.args.op } in
    off-taken _ _ _ _ c.self.invariant row asked.slot asked.new _ free _ took (off OfWord)

pub set_chain-requires : goal.set_chain-requires
set_chain-requires c = record { word = ap is_some c.chain-word.ensures }

pub at-session-requires : goal.at-session-requires
at-session-requires c = let slots = c.self.invariant.slots in let asked = c.requires.slot in omega arith

pub push_back-requires-2-clause-chain : goal.push_back-requires-2-clause-chain
push_back-requires-2-clause-chain c =
    let asked = rw (← c.self.view_is) at c.requires in
    let free = rw c.unwrap-node.ensures at c.take.ensures.was_free in
    let took = rw c.unwrap-node.ensures at c.take.ensures.taken in
    let row : Row = record { slot = c.args.slot; number = c.args.number; array = c.args.array; index = c.args.index; op = c.args.op } in
    let linked = c.push_back.ensures in
    session-chain_linked _ _ _ _ c.self.invariant row asked.slot asked.new _ free _ took _ _ _ c.chain-word.ensures linked.changes.list linked.changes.chain linked.changes.other_chains linked.changes.other_family linked.changes.items _ c.at-session.ensures

pub push_back-requires-2-clause-taken : goal.push_back-requires-2-clause-taken
push_back-requires-2-clause-taken c =
    let asked = rw (← c.self.view_is) at c.requires in
    let free = rw c.unwrap-node.ensures at c.take.ensures.was_free in
    let took = rw c.unwrap-node.ensures at c.take.ensures.taken in
    let row : Row = record { slot = c.args.slot; number = c.args.number; array = c.args.array; index = c.args.index; op = c.args.op } in
    let linked = c.push_back.ensures in
    linked-is _ _ _ _ c.self.invariant row asked.slot asked.new _ free _ took _ _ _ c.chain-word.ensures linked.changes.list linked.changes.chain linked.changes.other_chains linked.changes.other_family linked.changes.items

pub push_back-requires-2-clause-off : goal.push_back-requires-2-clause-off
push_back-requires-2-clause-off c =
    let asked = rw (← c.self.view_is) at c.requires in
    let free = rw c.unwrap-node.ensures at c.take.ensures.was_free in
    let took = rw c.unwrap-node.ensures at c.take.ensures.taken in
    let off = rw c.unwrap-node.ensures at c.take.ensures.off in
    let row : Row = record { slot = c.args.slot; number = c.args.number; array = c.args.array; index = c.args.index; op = c.args.op } in
    let linked = c.push_back.ensures in
    off-linked _ _ _ _ c.self.invariant row asked.slot asked.new _ free _ took _ _ _ c.chain-word.ensures linked.changes.list linked.changes.chain linked.changes.other_chains linked.changes.other_family linked.changes.items (off OfSession)

pub set-requires : goal.set-requires
set-requires c = let slots = c.self.invariant.slots in let asked = c.requires.slot in omega arith

pub overflow_add-self : goal.overflow_add-self
overflow_add-self c =
    let asked = rw (← c.self.view_is) at c.requires in
    let room = total-room _ _ _ _ c.self.invariant c.args.slot asked.slot asked.room in
    omega arith

pub invariant_of-self : goal.invariant_of-self
invariant_of-self c =
    let asked = rw (← c.self.view_is) at c.requires in
    let free = rw c.unwrap-node.ensures at c.take.ensures.was_free in
    let took = rw c.unwrap-node.ensures at c.take.ensures.taken in
    let row : Row = record { slot = c.args.slot; number = c.args.number; array = c.args.array; index = c.args.index; op = c.args.op } in
    let linked = c.push_back.ensures in
    let added = c.push_back-2.ensures in
    let few : len (with_chain c.self.inside.words c.args.array c.args.index c.push_back.new.chain) ≤ 64 = rw (len-with _ c.args.array c.args.index c.push_back.new.chain (ap is_some c.chain-word.ensures)) c.self.invariant.arrays in
    rw (c.set.ensures, c.set_chain.ensures)
    (kept-added _ _ _ _ c.self.invariant row asked.slot asked.new _ free _ took _ _ _ c.chain-word.ensures linked.changes.list linked.changes.chain linked.changes.other_chains linked.changes.other_family linked.changes.items _ _ _ c.at-session.ensures added.changes.list added.changes.chain added.length added.changes.other_chains added.changes.other_family added.changes.items asked.room few)

pub returns : goal.returns
returns c =
    let asked = rw (← c.self.view_is) at c.requires in
    let free = rw c.unwrap-node.ensures at c.take.ensures.was_free in
    let took = rw c.unwrap-node.ensures at c.take.ensures.taken in
    let row : Row = record { slot = c.args.slot; number = c.args.number; array = c.args.array; index = c.args.index; op = c.args.op } in
    let linked = c.push_back.ensures in
    let added = c.push_back-2.ensures in
    record {
      added = rw (← c.self.view_is) (record {
        members =
            ap members_of (items_added _ _ _ _ c.self.invariant row asked.slot asked.new _ free _ took _ _ _ c.chain-word.ensures linked.changes.list linked.changes.chain linked.changes.other_chains linked.changes.other_family linked.changes.items _ _ _ c.at-session.ensures added.changes.list added.changes.chain added.length added.changes.other_chains added.changes.other_family added.changes.items asked.room)
            ∙ members-added _ _ _ _ c.self.invariant row asked.slot asked.new _ free;
        arrays = ap lengths c.set_chain.ensures ∙ lengths-with _ c.args.array c.args.index c.push_back.new.chain (ap is_some c.chain-word.ensures);
      });
    }
