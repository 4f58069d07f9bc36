use Rattle.std.proofs.Common.{Err}
use Rattle.tp_lines.proofs.WhoFacts.{client_stuck, client_who, worker_stuck, worker_who}
use Rattle.tp_lines.proofs.calls.read_who.Goals as goal

pub returns-in-Err : goal.returns-in-Err
returns-in-Err c =
    worker_who c.args.text.now c.in-Some.field-0.now c.in-Some.ensures (Err c.in-Err.place) (worker_stuck c.args.text.now c.in-Err.place c.in-Err.ensures)

pub returns-in-Err-read_prefixed : goal.returns-in-Err-read_prefixed
returns-in-Err-read_prefixed c =
    client_who c.args.text.now c.in-None.ensures (Err c.in-Err-read_prefixed.place) (client_stuck c.args.text.now c.in-Err-read_prefixed.place c.in-Err-read_prefixed.ensures)
