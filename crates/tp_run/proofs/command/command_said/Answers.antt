use Rattle.std.proofs.Common.{None, Some, sym, subst, ℕ, List, Option}
use Rattle.std.specs.Prelude.{IfSome}
use Rattle.tp_report.specs.Traces.{IsMachineSize}
use Rattle.tp_report.specs.declared.playing.MachineSize.{MachineSize}
use Rattle.tp_run.specs.Commands.{without_number}
use Rattle.tp_run.specs.Inputs.{IsPlayable}
use Rattle.tp_run.specs.declared.command.Command.{Command}
use Rattle.tp_run.specs.declared.command.Command.TheVariants.{Run}
use Rattle.tp_run.proofs.command.command_said.Goals as goal

alone_playable : (number : Option (List ℕ)) (command : Command) → IsPlayable command → IfSome (without_number number command) (λ command. IsPlayable command)
alone_playable None command may = may
alone_playable (Some text) command may = tt

pub returns-in-Run-clause-playable : goal.returns-in-Run-clause-playable
returns-in-Run-clause-playable c =
    let workers = c.in_ok-workers in
    let events = c.in_ok-events in
    let machine : MachineSize = record { workers = workers.workers; events = events.events } in
    let size : IsMachineSize machine = record { some_workers = workers.ensures.in_range.0; most_workers = workers.ensures.in_range.1; least_events = events.ensures.in_range.0; most_events = events.ensures.in_range.1 } in
    subst (λ command. IfSome command (λ command. IsPlayable command)) (sym c.without_number-in-Run.ensures)
    (alone_playable _ (Run c.in_ok-threads.threads c.in_ok-seed.seed machine _)
    (c.in_ok-threads.ensures.in_range.0, c.is_seed_for_nothing.ensures.alone c.if-is_seed_for_nothing.false, size))
