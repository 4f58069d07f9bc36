-- What a legal history has spent, and keeps for what it owes, never grows less.
use Rattle.std.proofs.Common.{ℕ, ◌+◌, ◌≤◌, List, [], ◌∷◌, ◌++◌, length, ap, arith}
use Rattle.tp_base.specs.declared.answers.Entry.{Entry}
use Rattle.tp_base.specs.declared.limits.Limits.{Limits}
use Rattle.tp_model.specs.Counts.{owed}
use Rattle.tp_model.specs.History.{IsLegal, IsLegalFrom, after, after_from, led_to, room}
use Rattle.tp_model.specs.Support.Sound.{IsSound}
use Rattle.tp_model.specs.World.{World, opening}
use Rattle.tp_model.proofs.Costs.{paid}
use Rattle.tp_model.proofs.Entries.{Entered, Accepts, Refuses, entered, entry_leads, next_number_in}
use Rattle.tp_model.proofs.Sound.{opening_sound}

-- an entry takes at most its own place from what is owed
entry_pays : (w : World) (left : ℕ) (entry : Entry) → IsSound (next_number_in w) w → Entered w left entry → owed w ≤ 1 + owed (led_to w entry)
entry_pays w left entry sound (Accepts e) = omega (arith, paid (next_number_in w) w e.change sound e.safe.allowed, ap owed e.leads)
entry_pays w left entry sound (Refuses refusal told stays) = omega (arith, ap owed stays)

falls_from : (capacity entries : ℕ) (w : World) (history more : List Entry) → IsSound (next_number_in w) w → IsLegalFrom w capacity entries (history ++ more)
    → length history + owed (after_from w history) ≤ length (history ++ more) + owed (after_from w (history ++ more))
falls_from capacity entries w [] [] sound legal = omega arith
falls_from capacity entries w [] (entry ∷ more) sound legal =
    let left : ℕ = room capacity w entries in
    omega (
      arith,
      entry_pays w left entry sound (entered w left entry sound legal.0),
      falls_from capacity (entries + 1) (led_to w entry) [] more (entry_leads w left entry sound legal.0).sound legal.1,
    )
falls_from capacity entries w (entry ∷ history) more sound legal =
    omega (arith, falls_from capacity (entries + 1) (led_to w entry) history more (entry_leads w (room capacity w entries) entry sound legal.0).sound legal.1)

pub never_falls : (limits : Limits) (capacity : ℕ) (history more : List Entry) → IsLegal limits capacity (history ++ more)
    → length history + owed (after limits history) ≤ length (history ++ more) + owed (after limits (history ++ more))
never_falls limits capacity history more legal = falls_from capacity 0 (opening limits) history more (opening_sound limits) legal

pub room_never_grows : (limits : Limits) (capacity : ℕ) (history more : List Entry) → IsLegal limits capacity (history ++ more)
    → room capacity (after limits (history ++ more)) (length (history ++ more)) ≤ room capacity (after limits history) (length history)
room_never_grows limits capacity history more legal = omega (arith, never_falls limits capacity history more legal)
