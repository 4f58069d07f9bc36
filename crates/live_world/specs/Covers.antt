-- What is kept of what a begun wait covers says which callbacks the wait still holds.
use Rattle.std.specs.Prelude.{◌≡◌, ℕ, ◌+◌, ◌≤◌, true, List, [], ◌∷◌, Option, None, IfSome}
use Rattle.tp_base.specs.declared.rows.CallbackRow.{CallbackRow}
use Rattle.tp_model.specs.World.{BegunWait}
use Rattle.tp_model.specs.Laws.Entries.{is_among}
use Rattle.begun_waits.specs.Covers.{covers}
use Rattle.live_world.specs.Parts.{is_held_among}

-- these rise, from low on
abbrev pub Ascend : ℕ → List ℕ → Type 0
Ascend low [] = Unit {0}
Ascend low (n ∷ ns) = (low ≤ n) × Ascend (n + 1) ns

-- of what is outstanding for its target the wait covers what is told; made is the last number that was given
pub record IsCover (made : ℕ) (callbacks : List CallbackRow) (bound : Option ℕ) (listed : List ℕ) (b : BegunWait) : Type 0 where
  pub given : IfSome bound (λ last. last ≤ made)
  pub tells : (n : ℕ) → is_held_among callbacks b.target n ≡ true → covers bound listed n ≡ is_among n b.covered
  pub lists : bound ≡ None → listed ≡ b.covered
  pub rises : Ascend 0 b.covered
