use Rattle.std.proofs.Common.{◌≡◌, ◌+◌, ◌≤◌, true, false, get_or, ◌∙◌, arith}
use Rattle.std.proofs.lemmas.List.Elements.{All-map}
use Rattle.timer_objects.specs.Kept.{padded, setting_of}
use Rattle.timer_objects.proofs.Padding.{get_or_padded, length_padded}
use Rattle.timer_objects.proofs.Shown.{shown_in_order, shown_distinct}
use Rattle.timer_objects.proofs.TimerObjects.len.Goals as goal

pub returns-clause-in_order : goal.returns-clause-in_order
returns-clause-in_order c = rw (← c.self.view_is) (shown_in_order c.self.inside.paces.items c.self.inside.dues.entries c.len.ensures.in_order)

pub returns-clause-distinct : goal.returns-clause-distinct
returns-clause-distinct c = rw (← c.self.view_is) (shown_distinct c.self.inside.paces.items c.self.inside.dues.entries c.len.ensures.distinct)

pub returns-clause-alive : goal.returns-clause-alive
returns-clause-alive c =
    let i = c.self.inside in
    rw (← c.self.view_is)
    (All-map (λ s. get_or (padded (i.dues.keys + 1) i.there.items) s.object.0 false ≡ true) (setting_of i.paces.items) i.dues.entries
    (λ k d lt. get_or_padded (i.dues.keys + 1) i.there.items _ ∙ c.self.invariant.alive k d lt))

pub returns-clause-least : goal.returns-clause-least
returns-clause-least c =
    rw (← c.self.view_is) (All-map (λ s. 1 ≤ s.object.0) (setting_of c.self.inside.paces.items) c.self.inside.dues.entries (λ k d lt. omega arith))

pub returns-clause-most : goal.returns-clause-most
returns-clause-most c =
    rw (← c.self.view_is)
    (All-map (λ s. s.object.0 ≤ c.self.inside.dues.keys) (setting_of c.self.inside.paces.items) c.self.inside.dues.entries (λ k d lt. omega (arith, c.len.ensures.keyed k d lt)))

pub returns-clause-places : goal.returns-clause-places
returns-clause-places c = rw (← c.self.view_is) (length_padded (c.self.inside.dues.keys + 1) c.self.inside.there.items c.self.invariant.places)
