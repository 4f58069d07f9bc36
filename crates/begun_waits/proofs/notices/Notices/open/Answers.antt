use Rattle.std.proofs.Common.{◌+◌, [], List, ap, arith, ℕ}
use Rattle.std.proofs.lemmas.List.{length-replicate}
use Rattle.begun_waits.proofs.Noticed.{none_shown, replicate_most}
use Rattle.begun_waits.proofs.notices.Notices.open.Goals as goal

pub invariant_of-result : goal.invariant_of-result
invariant_of-result c =
    let many = length-replicate {A = List ℕ} c.args.actors [] in
    rw c.in_ok-open.ensures (record { keys = length-replicate {A = ℕ} (c.args.objects + 1) 0; owned = λ object. rw many (replicate_most (c.args.objects + 1) object c.args.actors c.args.actors (omega arith)) })

pub returns : goal.returns
returns c = rw c.in_ok-open.ensures (ap (λ ls. record { objects = c.args.objects; lists = ls }) (none_shown c.args.actors))
