-- Whether all is over, and what is left, are the same without the callbacks that are over.
use Rattle.std.proofs.Common.{◌≡◌, ℕ, false, not, ◌&&◌, ◌||◌, map, nat_lt, ap, ap₂, find}
use Rattle.std.specs.List.{list_all}
use Rattle.tp_base.specs.declared.ids.ObjectId.{ObjectId}
use Rattle.tp_base.specs.declared.rows.CallbackRow.{CallbackRow}
use Rattle.tp_base.specs.declared.rows.ClientRow.{ClientRow}
use Rattle.tp_base.specs.declared.rows.Status.{Status}
use Rattle.tp_model.specs.Laws.Once.{is_left, left}
use Rattle.tp_model.specs.Over.{goes_on, is_over, left_after}
use Rattle.tp_model.specs.Stalled.{lacks_room_to_run}
use Rattle.tp_model.specs.Support.Remembered.{forget, lives}
use Rattle.tp_model.specs.World.{World}
use Rattle.tp_model.proofs.Callbacks.{over_not_left, over_not_pending, over_not_running}
use Rattle.tp_model.proofs.Lists.{any_filter, filter_filter}

over_goes_not_on : (w : World) (room : ℕ) (c : CallbackRow) → lives c ≡ false → goes_on w room c ≡ false
over_goes_not_on w room c e = ap₂ (λ a b. a || (b && not (lacks_room_to_run w room c.pool.0))) (over_not_running c.status e) (over_not_pending c.status e)

pub is_over_forget : (w : World) (room : ℕ) → is_over (forget w) room ≡ is_over w room
is_over_forget w room = ap (λ b. list_all (λ (r : ClientRow). r.finished) w.clients && not b) (any_filter (goes_on w room) lives (over_goes_not_on w room) w.callbacks)

left_forgotten : (w : World) → left (forget w) ≡ left w
left_forgotten w = ap (map (λ (c : CallbackRow). (c.number, c.object, c.status))) (filter_filter (λ (c : CallbackRow). is_left c.status) lives (λ c e. over_not_left c.status e) w.callbacks)

pub left_after_forget : (w : World) (number : ℕ) → left_after (forget w) number ≡ left_after w number
left_after_forget w number = ap (find (λ (row : ℕ × ObjectId × Status). nat_lt number row.0)) (left_forgotten w)
