-- The texts of clients alone, and of workers alone.
use Rattle.std.specs.Prelude.{◌≡◌, ℕ, ◌≤◌, decimal, List, ◌∷◌}
use Rattle.tp_base.specs.declared.ids.Who.{Who}
use Rattle.tp_base.specs.declared.ids.Who.TheVariants.{Client, Worker}

pub record IsClientText (who : Who) (text : List ℕ) : Type 0 where
  pub number : ℕ
  pub is : who ≡ Client number
  pub at_least : 1 ≤ number
  pub at_most : number ≤ 16
  pub split : text ≡ 99 ∷ decimal number

abbrev pub ClientTexts : Who → List ℕ → Type 0
ClientTexts who text = IsClientText who text

pub record IsWorkerText (who : Who) (text : List ℕ) : Type 0 where
  pub number : ℕ
  pub is : who ≡ Worker number
  pub at_least : 1 ≤ number
  pub at_most : number ≤ 64
  pub split : text ≡ 119 ∷ decimal number

abbrev pub WorkerTexts : Who → List ℕ → Type 0
WorkerTexts who text = IsWorkerText who text
