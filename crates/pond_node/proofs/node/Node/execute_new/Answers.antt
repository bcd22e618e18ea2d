use Rattle.std.proofs.Common.{◌∙◌, arith}
use Rattle.pond_node.proofs.Running.{running_starts, running_on, slot_grew, slot_clash, all_done, all_sent, all_kept, all_known}
use Rattle.pond_node.proofs.node.Node.execute_new.Goals as goal

pub loop-place-init : goal.loop-place-init
loop-place-init g c = running_starts g.H.Hash160.naming c.args.self.now c.args.book.now.held c.args.out.now.items c.len-first.result c.len-first.ensures c.requires.known

pub execute_next-requires-clause-known : goal.execute_next-requires-clause-known
execute_next-requires-clause-known g c = c.loop-place.invariant.known

pub execute_next-requires-clause-room : goal.execute_next-requires-clause-room
execute_next-requires-clause-room g c = omega (arith, c.loop-place.invariant.few, c.loop-place.invariant.low, c.loop-place-test.true, c.executed-last.type_inv)

pub returns-in-Err-clause-grew : goal.returns-in-Err-clause-grew
returns-in-Err-clause-grew g c =
    slot_grew g.H.Hash160.naming c.args.self.now c.args.book.now.held c.args.out.now.items c.loop-place.place c.loop-place.self c.loop-place.book.held c.loop-place.out.items c.loop-place.invariant
    c.len-first.result c.executed-last.result c.len-first.ensures c.executed-last.ensures c.loop-place.auto.place c.loop-place-test.true _ (omega arith) c.execute_next.new.book.held c.execute_next.ensures.grew

pub returns-in-Err-clause-fault : goal.returns-in-Err-clause-fault
returns-in-Err-clause-fault g c =
    slot_clash g.H.Hash160.naming c.args.self.now c.args.book.now.held c.args.out.now.items c.loop-place.place c.loop-place.self c.loop-place.book.held c.loop-place.out.items c.loop-place.invariant
    c.len-first.result c.executed-last.result c.len-first.ensures c.executed-last.ensures c.loop-place.auto.place c.loop-place-test.true _ (omega arith) c.execute_next.new.book.held c.in-Err.fault c.in-Err.ensures.fault

pub loop-place-preserved : goal.loop-place-preserved
loop-place-preserved g c =
    running_on g.H.Hash160.naming c.args.self.now c.args.book.now.held c.args.out.now.items c.loop-place.place c.loop-place.self c.loop-place.book.held c.loop-place.out.items c.loop-place.invariant
    c.len-first.result c.executed-last.result c.len-first.ensures c.executed-last.ensures c.loop-place.auto.place c.loop-place-test.true _ (omega arith) c.execute_next.new.self c.execute_next.new.book.held c.execute_next.new.out.items
    c.in-Ok.ensures.done c.in-Ok.ensures.sent c.in-Ok.ensures.seats c.in-Ok.ensures.known c.in-Ok.ensures.one c.in-Ok.ensures.held c.in-Ok.ensures.all c.execute_next.ensures.grew c.execute_next.ensures.keeps c.execute_next.ensures.archived

pub returns-clause-done : goal.returns-clause-done
returns-clause-done g c =
    all_done g.H.Hash160.naming c.args.self.now c.args.book.now.held c.args.out.now.items c.loop-place.place c.loop-place.self c.loop-place.book.held c.loop-place.out.items c.loop-place.invariant
    c.len-first.result c.executed-last.result c.len-first.ensures c.executed-last.ensures c.loop-place.auto.place (omega (arith, c.loop-place-test.false)) c.loop-place.auto.place-end

pub returns-clause-sent : goal.returns-clause-sent
returns-clause-sent g c =
    all_sent g.H.Hash160.naming c.args.self.now c.args.book.now.held c.args.out.now.items c.loop-place.place c.loop-place.self c.loop-place.book.held c.loop-place.out.items c.loop-place.invariant
    c.len-first.result c.executed-last.result c.len-first.ensures c.executed-last.ensures c.loop-place.auto.place (omega (arith, c.loop-place-test.false)) c.loop-place.auto.place-end

pub returns-clause-seats : goal.returns-clause-seats
returns-clause-seats g c = c.loop-place.invariant.seats

pub returns-clause-known : goal.returns-clause-known
returns-clause-known g c = record { objects_known = c.loop-place.invariant.known; few = c.loop-place.invariant.few }

pub returns-clause-held : goal.returns-clause-held
returns-clause-held g c =
    all_kept g.H.Hash160.naming c.args.self.now c.args.book.now.held c.args.out.now.items c.loop-place.place c.loop-place.self c.loop-place.book.held c.loop-place.out.items c.loop-place.invariant
    c.len-first.result c.executed-last.result c.len-first.ensures c.executed-last.ensures c.loop-place.auto.place (omega (arith, c.loop-place-test.false)) c.loop-place.auto.place-end

pub returns-clause-all : goal.returns-clause-all
returns-clause-all g c =
    all_known g.H.Hash160.naming c.args.self.now c.args.book.now.held c.args.out.now.items c.loop-place.place c.loop-place.self c.loop-place.book.held c.loop-place.out.items c.loop-place.invariant
    c.len-first.result c.executed-last.result c.len-first.ensures c.executed-last.ensures c.loop-place.auto.place (omega (arith, c.loop-place-test.false)) c.loop-place.auto.place-end

pub returns-clause-grew : goal.returns-clause-grew
returns-clause-grew g c = c.loop-place.invariant.grew

pub returns-in-Err-clause-keeps : goal.returns-in-Err-clause-keeps
returns-in-Err-clause-keeps g c = λ name string is. c.execute_next.ensures.keeps name string (c.loop-place.invariant.keeps name string is)

pub returns-clause-keeps : goal.returns-clause-keeps
returns-clause-keeps g c = c.loop-place.invariant.keeps

pub returns-clause-archived : goal.returns-clause-archived
returns-clause-archived g c = c.loop-place.invariant.still

pub returns-in-Err-clause-archived : goal.returns-in-Err-clause-archived
returns-in-Err-clause-archived g c = c.execute_next.ensures.archived ∙ c.loop-place.invariant.still
