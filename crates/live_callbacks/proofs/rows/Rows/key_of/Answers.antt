use Rattle.std.proofs.Common.{◌==◌, ap}
use Rattle.std.specs.Prelude.{option_map}
use Rattle.live_callbacks.specs.Held.{Held}
use Rattle.live_callbacks.specs.Places.{live}
use Rattle.live_callbacks.specs.Reserved.{held_by}
use Rattle.live_callbacks.proofs.Tied.{number_held}
use Rattle.live_callbacks.proofs.rows.Rows.key_of.Goals as goal

pub returns-in-Some : goal.returns-in-Some
returns-in-Some c =
    let found = rw c.deref.ensures.value at c.in-Some.ensures in
    let s = c.self.inside.rows in
    rw (← c.self.view_is, number_held s (λ n. n == c.args.number) (live c.self.inside.entries.items) c.self.invariant.tied)
    (ap (λ o. option_map (λ (h : Held). h.key) (option_map (held_by s) o)) found)

pub returns-in-None : goal.returns-in-None
returns-in-None c =
    let found = rw c.deref.ensures.value at c.in-None.ensures in
    let s = c.self.inside.rows in
    rw (← c.self.view_is, number_held s (λ n. n == c.args.number) (live c.self.inside.entries.items) c.self.invariant.tied)
    (ap (λ o. option_map (λ (h : Held). h.key) (option_map (held_by s) o)) found)
