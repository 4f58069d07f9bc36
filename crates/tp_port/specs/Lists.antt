-- Lists of completions, and quotas by the devices' numbers.
use Rattle.std.specs.Prelude.{◌≡◌, ℕ, List, ◌∷◌, ◌++◌, slice_index_or}
use Rattle.port_facts.specs.declared.Completion.{Completion}

-- how many completions a device may post: devices count from 1, and there is no other device than those of the list
abbrev pub quota_of : List ℕ → ℕ → ℕ
quota_of quotas device = slice_index_or (0 ∷ quotas) device 0

-- the list begins with this front
pub record StartsWith (list front : List Completion) : Type 0 where
  pub rest : List Completion
  pub is : list ≡ front ++ rest
