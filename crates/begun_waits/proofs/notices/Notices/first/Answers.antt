use Rattle.std.proofs.Common.{sym, ◌∙◌}
use Rattle.begun_waits.proofs.Noticed.{one_first, shown_first}
use Rattle.begun_waits.proofs.notices.Notices.first.Goals as goal

pub returns : goal.returns
returns c =
    let first = shown_first c.self.inside.objects c.self.inside.lists c.args.actor c.in_ok-object.object (rw (← c.self.view_is) at c.requires) c.first.ensures.owned (sym c.in_ok-object.was ∙ c.first.ensures.value) in
    rw (← c.self.view_is) (sym (one_first c.self.inside.objects c.self.inside.lists c.args.actor c.in_ok-object.object first))
