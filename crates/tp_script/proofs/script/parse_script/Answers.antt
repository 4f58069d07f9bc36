use Rattle.std.proofs.Common.{refl, ap, ◌∙◌}
use Rattle.tp_script.specs.Parsed.{parsed}
use Rattle.tp_script.proofs.ClientFacts.{few_clients}
use Rattle.tp_script.proofs.DeclarationFacts.{first_never_waits}
use Rattle.tp_script.proofs.Unique.{one_script, only_fault}
use Rattle.tp_script.proofs.script.parse_script.Goals as goal

pub returns-in-Err-clause-only : goal.returns-in-Err-clause-only
returns-in-Err-clause-only c = only_fault c.args.bytes.now c.in-Err.fault c.in-Err.ensures.place

pub returns-in-Ok-new-clause-only : goal.returns-in-Ok-new-clause-only
returns-in-Ok-new-clause-only c lines script =
    one_script c.args.bytes.now c.in-Ok-new.script.lines lines (c.in-Ok-new.script, (c.in-Ok.rows.items, c.in-Ok.ensures.place, c.in-Ok-new.ensures ∙ ap parsed c.deref.ensures.value), refl) script

pub returns-in-Ok-new-clause-clients : goal.returns-in-Ok-new-clause-clients
returns-in-Ok-new-clause-clients c =
    few_clients c.args.bytes.now c.in-Ok-new.script.lines (c.in-Ok-new.script, (c.in-Ok.rows.items, c.in-Ok.ensures.place, c.in-Ok-new.ensures ∙ ap parsed c.deref.ensures.value), refl)

pub returns-in-Ok-new-clause-calm : goal.returns-in-Ok-new-clause-calm
returns-in-Ok-new-clause-calm c =
    first_never_waits c.args.bytes.now c.in-Ok-new.script.lines (c.in-Ok-new.script, (c.in-Ok.rows.items, c.in-Ok.ensures.place, c.in-Ok-new.ensures ∙ ap parsed c.deref.ensures.value), refl)
