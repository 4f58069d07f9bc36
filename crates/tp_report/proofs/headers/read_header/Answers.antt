use Rattle.tp_report.proofs.HeaderFacts.{header_stuck_first, header_stuck_second, header_read}
use Rattle.tp_report.proofs.headers.read_header.Goals as goal

pub returns-in-Err : goal.returns-in-Err
returns-in-Err c = header_stuck_first c.args.text.now c.in-Err.place c.in-Err.ensures

pub returns-in-Err-read_counts : goal.returns-in-Err-read_counts
returns-in-Err-read_counts c =
    header_stuck_second c.args.text.now c.in-Ok.format c.in-Ok.size c.in-Ok.ensures c.split_at.result.1.now c.split_at.ensures.back c.in-Err-read_counts.place c.in-Err-read_counts.ensures

pub returns-in-Ok-read_counts : goal.returns-in-Ok-read_counts
returns-in-Ok-read_counts c =
    header_read c.args.text.now c.in-Ok.format c.in-Ok.size c.in-Ok.ensures c.split_at.result.1.now c.split_at.ensures.back c.in-Ok-read_counts.clients c.in-Ok-read_counts.workers c.in-Ok-read_counts.events c.in-Ok-read_counts.objects c.in-Ok-read_counts.more c.in-Ok-read_counts.ensures
