use Rattle.std.proofs.Common.{◌≡◌, ℕ, List, subst, sym}
use Rattle.tp_edge.specs.Given.{with_given}
use Rattle.tp_run.specs.Ends.{status_of}
use Rattle.tp_run.specs.Inputs.{Gives, IsDetermined, IsTold}
use Rattle.tp_run.specs.Runs.{IsAnswered, IsBadLineOf, IsWhole}
use Rattle.tp_run.specs.declared.status.Ending.{Ending}
use Rattle.tp_run.proofs.Main.{bad_line, whole_only, whole_run}
use Rattle.tp_run.proofs.top.tp_main_alone.Goals as goal

pub returns-in-Ok-clause-bad_line : goal.returns-in-Ok-clause-bad_line
returns-in-Ok-clause-bad_line g c =
    let left = g.S.Source.left c.args.source.now in
    subst (λ k. IsBadLineOf k left c.run.result) (sym c.in-Ok.ensures.ok)
    (bad_line c.in-Ok.command left (g.S.Source.left c.run.new.source) (g.K.Sink.holds c.args.sink.now) (g.K.Sink.holds c.run.new.sink) c.run.result c.run.ensures.run)

pub returns-in-Ok-clause-whole : goal.returns-in-Ok-clause-whole
returns-in-Ok-clause-whole g c =
    let left = g.S.Source.left c.args.source.now in
    let held = g.K.Sink.holds c.args.sink.now in
    let holds = g.K.Sink.holds c.run.new.sink in
    subst (λ k. IsWhole c.run.result → IsAnswered k left (λ output ending. (c.run.result ≡ status_of ending) × (holds ≡ with_given output held))) (sym c.in-Ok.ensures.ok)
    (whole_run c.in-Ok.command left (g.S.Source.left c.run.new.source) held holds c.run.result c.run.ensures.run)

pub returns-in-Ok-clause-whole_only : goal.returns-in-Ok-clause-whole_only
returns-in-Ok-clause-whole_only g c =
    let left = g.S.Source.left c.args.source.now in
    let held = g.K.Sink.holds c.args.sink.now in
    let holds = g.K.Sink.holds c.run.new.sink in
    subst (λ k. (bytes output : List ℕ) (ending : Ending) → IsDetermined k → IsTold k bytes left → Gives k bytes output ending → IsWhole c.run.result → (c.run.result ≡ status_of ending) × (holds ≡ with_given output held)) (sym c.in-Ok.ensures.ok)
    (whole_only c.in-Ok.command left (g.S.Source.left c.run.new.source) held holds c.run.result c.run.ensures.run)
