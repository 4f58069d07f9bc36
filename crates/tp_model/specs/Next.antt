-- Which callback of a pool a worker takes next, as a relation.
use Rattle.std.specs.Prelude.{◌≡◌, ℕ, Bool, true, ◌&&◌, ◌||◌, ◌==◌, nat_lt, nat_le, Option, None, Some}
use Rattle.tp_base.specs.declared.calls.Priority.{Priority}
use Rattle.tp_base.specs.declared.calls.Priority.TheVariants.{High, Normal, Low}
use Rattle.tp_base.specs.declared.rows.CallbackRow.{CallbackRow}
use Rattle.tp_model.specs.World.{World}
use Rattle.tp_model.specs.Counts.{callback_of, is_open_to}

abbrev pub rank : Priority → ℕ
rank High = 0
rank Normal = 1
rank Low = 2

-- of a higher priority, or of the same one and with a number that isn't greater
abbrev pub comes_first : CallbackRow → CallbackRow → Bool
comes_first c d = nat_lt (rank c.priority) (rank d.priority) || ((rank c.priority == rank d.priority) && nat_le c.number d.number)

-- the worker, who is the pool's persistent one or isn't, may take it, and it comes first of those that the worker may take
pub record IsNext (w : World) (pool : ℕ) (persistent : Bool) (c : CallbackRow) : Type 0 where
  pub found : callback_of w c.number ≡ Some c
  pub open_to : is_open_to w pool persistent c ≡ true
  pub first : (d : CallbackRow) → callback_of w d.number ≡ Some d → is_open_to w pool persistent d ≡ true → comes_first c d ≡ true

-- none is where the worker may take none
abbrev pub IsNextOrNone : World → ℕ → Bool → Option CallbackRow → Type 0
IsNextOrNone w pool persistent (Some c) = IsNext w pool persistent c
IsNextOrNone w pool persistent None = (d : CallbackRow) → callback_of w d.number ≡ Some d → is_open_to w pool persistent d ≡ true → ⊥
