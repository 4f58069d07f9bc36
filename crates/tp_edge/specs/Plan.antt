-- Which calls of a stream in memory fail.
use Rattle.std.specs.Prelude.{ℕ, Bool, ◌==◌, ◌||◌, if◌then◌else◌, List}
use Rattle.std.specs.List.{list_any}
use Rattle.tp_edge.specs.Counts.{counted}

-- the numbers of the calls that fail, the calls made so far, and those that failed
pub record Plan : Type 0 where
  pub failing : List ℕ
  pub calls : ℕ
  pub faults : ℕ

abbrev pub fresh_plan : List ℕ → Plan
fresh_plan failing = record { failing = failing; calls = 0; faults = 0 }

-- the next call is one of those that fail
abbrev pub names_next : Plan → Bool
names_next plan = list_any (λ call. call == counted plan.calls) plan.failing

-- the plan once the next call was made, which may be refused besides
abbrev pub after_call : Plan → Bool → Plan
after_call plan refused = record {
  failing = plan.failing;
  calls = counted plan.calls;
  faults = (if refused || names_next plan then counted plan.faults else plan.faults);
}
