use Rattle.std.proofs.Common.{◌≡◌, ◌+◌, Bool, true, false, cond, refl, ap, ◌∙◌, arith}
use mir.Val.{bool_byte}
use Rattle.tp_model.specs.Groups.{gets_notice, is_object_that}
use Rattle.object_rows.proofs.Walked.{CountsOne, all_counted, counting_first, counts_one, few_counted}
use Rattle.object_rows.proofs.ObjectRows.count_notices.Goals as goal
use Rattle.object_rows.proofs.ObjectRows.count_notices.Goals.{In-Some, After-from-count}

at : (c : In-Some) → CountsOne c.args.self.now.objects c.args.group.0 c.in-Some.number c.loop-next.next c.loop-next.count
at c = counts_one c.args.self.now.objects c.args.group.0 c.in-Some.number c.loop-next.next c.loop-next.count c.in-Some.is c.loop-next.invariant

pub loop-next-init : goal.loop-next-init
loop-next-init c = counting_first c.args.self.now.objects c.args.group.0 c.first_member-next.result c.first_member-next.ensures

as_number : (b : Bool) → bool_byte b ≡ cond b 1 0
as_number true = refl
as_number false = refl

-- one more is counted if the next one is noticed
one_more : (c : After-from-count) → c.loop-next.count + c.from-count.result ≡ c.loop-next.count + cond (is_object_that (gets_notice c.args.group.0) c.args.self.now.objects c.in-Some.number) 1 0
one_more c = ap (λ n. c.loop-next.count + n) (c.from-count.ensures ∙ as_number c.gets_notice.result ∙ ap (λ b. cond b 1 0) c.gets_notice.ensures)

pub overflow_add-count : goal.overflow_add-count
overflow_add-count c =
    let here = goal.at.overflow_add-count c in
    let k = (at here.In-Some).goes_on _ _ refl (one_more here.After-from-count) in
    omega (arith, few_counted c.args.self.now.objects c.args.group.0 _ _ k, c.is_reachable.ensures.objects, c.is_reachable.ensures.fits)

pub next_member-next-requires-clause-member : goal.next_member-next-requires-clause-member
next_member-next-requires-clause-member c = (at (goal.at.next_member-next-requires-clause-member c).In-Some).member

pub loop-next-smaller : goal.loop-next-smaller
loop-next-smaller c = (at (goal.at.loop-next-smaller c).In-Some).later c.next_member-next.result c.next_member-next.ensures

pub loop-next-preserved : goal.loop-next-preserved
loop-next-preserved c =
    let here = goal.at.loop-next-preserved c in
    (at here.In-Some).goes_on c.next_member-next.result (c.loop-next.count + c.from-count.result) c.next_member-next.ensures (one_more here.After-from-count)

pub returns : goal.returns
returns c =
    rw c.if-not-cancel.false (all_counted c.args.self.now.objects c.args.group.0 c.loop-next.count (rw c.in_default.is at c.loop-next.invariant))
