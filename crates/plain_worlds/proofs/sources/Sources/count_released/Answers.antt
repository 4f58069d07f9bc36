use Rattle.std.proofs.Common.{List, length, filter, sym, ap, ◌∙◌}
use Rattle.tp_base.specs.declared.rows.Arming.{Arming}
use Rattle.tp_base.specs.declared.rows.KernelRow.{KernelRow}
use Rattle.tp_base.specs.Armings.{is_arming_on}
use Rattle.tp_model.specs.Counts.{numbered}
use Rattle.tp_model.specs.Sources.{Sources}
use Rattle.plain_worlds.specs.Counting.{released_by}
use Rattle.plain_worlds.proofs.Released.{none_there, some_there}
use Rattle.plain_worlds.proofs.sources.Sources.count_released.Goals as goal

pub returns-in-Some : goal.returns-in-Some
returns-in-Some c =
    let kernel = c.args.kernel.0 in
    let stands = ap (λ (s : Sources). numbered s.kernels kernel) (sym c.self.view_is) ∙ ap (λ (rows : List KernelRow). numbered rows kernel) (sym c.deref.ensures.value) ∙ sym c.numbered.ensures ∙ c.in-Some.is in
    let armed =
    c.count_on.ensures ∙ ap (λ (armings : List Arming). length (filter (is_arming_on kernel) armings)) c.deref-in-Some.ensures.value ∙ ap (λ (s : Sources). length (filter (is_arming_on kernel) s.armings)) c.self.view_is in
    some_there c.args.how kernel c.args.self.now c.in-Some.row _ c.requires.once stands (c.released_by.ensures ∙ ap (released_by c.args.how c.in-Some.row.state) armed)

pub returns-in-None : goal.returns-in-None
returns-in-None c =
    let kernel = c.args.kernel.0 in
    let stands = ap (λ (s : Sources). numbered s.kernels kernel) (sym c.self.view_is) ∙ ap (λ (rows : List KernelRow). numbered rows kernel) (sym c.deref.ensures.value) ∙ sym c.numbered.ensures ∙ c.in-None.is in
    none_there c.args.how kernel c.args.self.now c.requires.once stands
