-- The law Io: each operation goes its way, one step after another, and its callback is taken with what it completed with.
use Rattle.std.specs.Prelude.{◌≡◌, ℕ, ◌==◌, false, List, [], ◌∷◌, ◌++◌, map, if◌then◌else◌, Option, None, Some}
use Rattle.std.specs.List.{filter, flat_map}
use Rattle.tp_base.specs.declared.answers.Entry.{Entry}
use Rattle.tp_base.specs.declared.answers.TakeResult.{TakeResult}
use Rattle.tp_base.specs.declared.answers.TakeResult.TheVariants as result
use Rattle.tp_model.specs.Laws.Entries.{Happening, Starts, Issues, GivesUp, Completes, Runs, Event, event_by, started_by, is_completion}

abbrev pub starts : ℕ → List ℕ → List Happening
starts n numbers = map (λ m. Starts) (filter (λ m. m == n) numbers)

abbrev pub happens_to : ℕ → Option Event → List Happening
happens_to n None = []
happens_to n (Some e) = if e.number == n then e.what ∷ [] else []

-- what an entry tells to happen to the callback of a number
abbrev pub happening : ℕ → Entry → List Happening
happening n entry = starts n (started_by entry.answer) ++ happens_to n (event_by entry)

abbrev pub happenings : ℕ → List Entry → List Happening
happenings n history = flat_map (happening n) history

-- the ways of a callback: of one without an operation, which is taken or not, and of one with an operation
pub data IsWay (h : List Happening) : Type 0 where
  Untaken : h ≡ [] → IsWay h
  Plain : (result : TakeResult) → is_completion result ≡ false → h ≡ Runs result ∷ [] → IsWay h
  Started : h ≡ Starts ∷ [] → IsWay h
  GivenUp : h ≡ Starts ∷ GivesUp ∷ [] → IsWay h
  Issued : h ≡ Starts ∷ Issues ∷ [] → IsWay h
  Completed : (error bytes : ℕ) → h ≡ Starts ∷ Issues ∷ Completes error bytes ∷ [] → IsWay h
  -- with the error and the bytes of its completion
  Taken : (error bytes : ℕ) → h ≡ Starts ∷ Issues ∷ Completes error bytes ∷ Runs (result.Io error bytes) ∷ [] → IsWay h

pub record AreOperated (history : List Entry) : Type 0 where
  pub ways : (n : ℕ) → IsWay (happenings n history)
