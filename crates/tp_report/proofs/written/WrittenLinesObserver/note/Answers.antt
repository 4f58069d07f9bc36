use Rattle.tp_report.proofs.Keeping.{has_memory, written_next}
use Rattle.tp_report.proofs.written.WrittenLinesObserver.note.Goals as goal

pub entry-requires : goal.entry-requires
entry-requires c = has_memory c.requires.0 c.args.self.now.lines c.args.self.now.now c.requires.1 c.requires.2

pub returns : goal.returns
returns c = λ r noted.
    written_next r c.args.self.now.lines c.args.self.now.now noted (record { who = c.args.who; call = c.args.call.now; answer = c.args.answer.now }) c.clock_after-self.result c.entry.new.self
    (c.clock_after-self.ensures c.args.who) c.entry.ensures.text c.entry.ensures.room
