use Rattle.linked_lists.proofs.Each.{padded_none}
use Rattle.linked_lists.proofs.filled.Filled.open.Goals as goal

pub returns : goal.returns
returns c = rw c.in_ok-items.ensures.items (padded_none c.args.room c.args.fill)
