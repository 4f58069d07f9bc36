use Rattle.std.proofs.Common.{ap, option_map, sym, ◌∙◌}
use Rattle.tp_base.specs.declared.rows.WaitTarget.TheVariants.{Object}
use Rattle.tp_model.specs.Waits.{is_outstanding_for}
use Rattle.live_world.proofs.Along.{first_filtered, number_of}
use Rattle.live_world.proofs.Held.{first_of_group, first_of_kernel}
use Rattle.live_world.proofs.waits.first_outstanding.Goals as goal

pub returns-in-Object : goal.returns-in-Object
returns-in-Object c = rw c.in-Object.is (c.number_of.ensures ∙ ap (option_map number_of) (c.first_outstanding.ensures ∙ sym (first_filtered (is_outstanding_for (Object c.in-Object.object)) c.args.callbacks.now.rows)))

pub returns-in-Group : goal.returns-in-Group
returns-in-Group c = rw c.in-Group.is (c.number_of-in-Group.ensures ∙ ap (option_map number_of) (c.first_of_group.ensures ∙ first_of_group c.in-Group.group c.args.callbacks.now.rows c.requires))

pub returns-in-Kernel : goal.returns-in-Kernel
returns-in-Kernel c = rw c.in-Kernel.is (sym (ap (option_map number_of) (first_of_kernel c.in-Kernel.field-0 c.args.callbacks.now.rows)))
