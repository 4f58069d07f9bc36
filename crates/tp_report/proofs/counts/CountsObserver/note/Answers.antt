use Rattle.std.proofs.Common.{arith}
use Rattle.tp_report.proofs.Tallies.{counts_next, few_refused, few_taken}
use Rattle.tp_report.proofs.counts.CountsObserver.note.Goals as goal

pub add-requires-clause-made : goal.add-requires-clause-made
add-requires-clause-made c = omega (arith, c.requires.1.few, c.requires.2.few)

pub add-requires-clause-taken : goal.add-requires-clause-taken
add-requires-clause-taken c = omega (arith, few_taken c.requires.0.history c.args.self.now c.requires.1, c.requires.2.few)

pub add-requires-clause-refused : goal.add-requires-clause-refused
add-requires-clause-refused c = omega (arith, few_refused c.requires.0.history c.args.self.now c.requires.1, c.requires.2.few)

pub returns : goal.returns
returns c = λ r noted.
    counts_next r.history c.args.self.now noted (record { who = c.args._who; call = c.args.call.now; answer = c.args.answer.now }) c.add.new.self (c.add.ensures c.args._who)
