use Rattle.std.proofs.Common.{◌+◌, true, length, filter, find, ap, ◌∙◌, arith}
use Rattle.std.specs.Option.{option_copied}
use Rattle.std.proofs.lemmas.List.Sums.{length-filter, count_by-le-length}
use Rattle.tp_base.specs.declared.rows.WaitTarget.TheVariants.{Group}
use Rattle.tp_model.specs.Waits.{is_cancelled_by}
use Rattle.tp_model.proofs.Callbacks.{rising_filter}
use Rattle.tp_model.proofs.Lists.{filter_filter}
use Rattle.live_world.specs.Closing.{is_of_group}
use Rattle.live_world.specs.Live.{Live}
use Rattle.live_world.proofs.Walks.{rest}
use Rattle.live_world.proofs.Along.{number_of, first_filtered}
use Rattle.live_world.proofs.GroupWalks.{CountsRow, InGroup, counting_rows, counts_row, cancelled_of_group, in_group, over_not_of_group}
use Rattle.live_world.proofs.LiveWorld.count_of_group.Goals as goal
use Rattle.live_world.proofs.LiveWorld.count_of_group.Goals.{In-Some}

here : (c : In-Some) → InGroup c.args.group c.self.inside.callbacks.rows c.args.self.now.world.callbacks c.in-Some.callback.now
here c =
    in_group c.args.group (c.args.self.now.made + 1) c.self.inside.callbacks.rows c.args.self.now.world.callbacks c.in-Some.callback.now (option_copied c.loop-next.next) (ap (λ (l : Live). l.world.callbacks) c.self.view_is)
    c.is_reachable.ensures.sound.numbers (ap option_copied c.in-Some.is) c.loop-next.invariant.among

one : (c : In-Some) → CountsRow (is_of_group c.args.group) (is_cancelled_by (Group c.args.group) true) (filter (is_of_group c.args.group) c.args.self.now.world.callbacks) c.in-Some.callback.now (option_copied c.loop-next.next) c.loop-next.count.all c.loop-next.count.pending
one c =
    counts_row (is_of_group c.args.group) (is_cancelled_by (Group c.args.group) true) (c.args.self.now.made + 1) (filter (is_of_group c.args.group) c.args.self.now.world.callbacks) c.in-Some.callback.now (option_copied c.loop-next.next) c.loop-next.count.all c.loop-next.count.pending
    (rising_filter (is_of_group c.args.group) 1 (c.args.self.now.made + 1) c.args.self.now.world.callbacks c.is_reachable.ensures.sound.numbers) (ap option_copied c.in-Some.is) c.loop-next.invariant

pub loop-next-init : goal.loop-next-init
loop-next-init c =
    counting_rows (is_of_group c.args.group) (is_cancelled_by (Group c.args.group) true) (c.args.self.now.made + 1) (filter (is_of_group c.args.group) c.args.self.now.world.callbacks) (option_copied c.first_of_group-next.result)
    (rising_filter (is_of_group c.args.group) 1 (c.args.self.now.made + 1) c.args.self.now.world.callbacks c.is_reachable.ensures.sound.numbers)
    (c.first_of_group-next.ensures ∙ ap (λ (l : Live). find (is_of_group c.args.group) l.world.callbacks) c.self.view_is ∙ first_filtered (is_of_group c.args.group) c.args.self.now.world.callbacks)

pub with-count-requires-clause-fits : goal.with-count-requires-clause-fits
with-count-requires-clause-fits c =
    omega (
      arith,
      (one (goal.at.with-count-requires-clause-fits c).In-Some).fewer,
      length-filter (is_of_group c.args.group) c.args.self.now.world.callbacks,
      count_by-le-length (is_of_group c.args.group) c.args.self.now.world.callbacks,
      c.is_reachable.ensures.bounded.slots_most,
      c.is_reachable.ensures.bounded.limits.slots_most,
    )

pub next_of_group-next-requires : goal.next_of_group-next-requires
next_of_group-next-requires c = (here (goal.at.next_of_group-next-requires c).In-Some).there

pub loop-next-smaller : goal.loop-next-smaller
loop-next-smaller c = (one (goal.at.loop-next-smaller c).In-Some).at.later (option_copied c.next_of_group-next.result) ((here (goal.at.loop-next-smaller c).In-Some).next (option_copied c.next_of_group-next.result) c.next_of_group-next.ensures)

pub loop-next-preserved : goal.loop-next-preserved
loop-next-preserved c =
    (one (goal.at.loop-next-preserved c).In-Some).goes_on (option_copied c.next_of_group-next.result) c.with-count.result.all c.with-count.result.pending
    ((here (goal.at.loop-next-preserved c).In-Some).next (option_copied c.next_of_group-next.result) c.next_of_group-next.ensures) c.with-count.ensures.all c.with-count.ensures.pending
    (cancelled_of_group c.args.group c.in-Some.callback.now)

pub returns-clause-all : goal.returns-clause-all
returns-clause-all c =
    omega (
      arith,
      c.loop-next.invariant.all_counted,
      ap (λ o. length (filter (is_of_group c.args.group) (rest number_of (filter (is_of_group c.args.group) c.args.self.now.world.callbacks) o))) (ap option_copied c.in_default.is),
      ap length (filter_filter (is_of_group c.args.group) (is_of_group c.args.group) (λ _ e. e) c.args.self.now.world.callbacks),
    )

pub returns-clause-pending : goal.returns-clause-pending
returns-clause-pending c =
    omega (
      arith,
      c.loop-next.invariant.some_counted,
      ap (λ o. length (filter (is_cancelled_by (Group c.args.group) true) (rest number_of (filter (is_of_group c.args.group) c.args.self.now.world.callbacks) o))) (ap option_copied c.in_default.is),
      ap length (filter_filter (is_cancelled_by (Group c.args.group) true) (is_of_group c.args.group) (over_not_of_group c.args.group) c.args.self.now.world.callbacks),
    )
