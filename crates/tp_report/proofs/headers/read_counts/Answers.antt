use Rattle.tp_report.proofs.HeaderFacts.{counts_stuck_first, counts_stuck_second, counts_read}
use Rattle.tp_report.proofs.headers.read_counts.Goals as goal

pub returns-in-Err : goal.returns-in-Err
returns-in-Err c = counts_stuck_first c.args.format c.args.text.now c.in-Err.place c.in-Err.ensures

pub returns-in-Err-read_sizes : goal.returns-in-Err-read_sizes
returns-in-Err-read_sizes c =
    counts_stuck_second c.args.format c.args.text.now c.in-Ok.clients c.in-Ok.size c.in-Ok.ensures c.split_at.result.1.now c.split_at.ensures.back c.in-Err-read_sizes.place c.in-Err-read_sizes.ensures

pub returns-in-Ok-read_sizes : goal.returns-in-Ok-read_sizes
returns-in-Ok-read_sizes c =
    counts_read c.args.format c.args.text.now c.in-Ok.clients c.in-Ok.size c.in-Ok.ensures c.split_at.result.1.now c.split_at.ensures.back c.in-Ok-read_sizes.sizes c.in-Ok-read_sizes.more c.in-Ok-read_sizes.ensures
