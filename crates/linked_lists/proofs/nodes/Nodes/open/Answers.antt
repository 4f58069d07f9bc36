use Rattle.linked_lists.proofs.Filling.{shows_opened}
use Rattle.linked_lists.proofs.nodes.Nodes.open.Goals as goal

pub returns : goal.returns
returns c = rw c.in_ok-nodes.ensures.items (shows_opened c.args.keys c.args.lists)
