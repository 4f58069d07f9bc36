-- What is known of a callback that is made, in terms of the parts.
use Rattle.std.proofs.Common.{◌≡◌, ◌+◌, ◌<◌, ◌≤◌, ℕ, List, [], ◌∷◌, false, length, ap, sym, subst, arith, filter, ltb-false}
use Rattle.std.specs.List.{All, AllByRecursion}
use Rattle.std.proofs.lemmas.List.Elements.{All-from_recursion}
use Rattle.tp_base.specs.declared.rows.CallbackRow.{CallbackRow}
use Rattle.tp_model.specs.Conditions.{lacks_slots_for}
use Rattle.tp_model.specs.Support.Remembered.{lives}
use Rattle.tp_model.specs.Support.Sound.{IsCallbackSound, IsRising}
use Rattle.tp_model.proofs.Callbacks.{rising_bound}
use Rattle.live_world.specs.Live.{Live}
use Rattle.live_world.specs.View.{shown, IsLiveWorld}
use Rattle.live_world.specs.declared.LiveWorld.TheInside.{Inside}
use Rattle.live_world.proofs.ObjectsMade.{object_made}

-- it may come: its number is above all that are kept, and it is of a pool and an object that there may be
pub record MayCome (i : Inside) (c : CallbackRow) : Type 0 where
  pub room : length i.callbacks.rows < i.callbacks.slots
  pub pool : c.pool.0 < i.callbacks.pools
  pub object : c.object.0 ≤ i.callbacks.objects
  pub last : All (λ (x : CallbackRow). x.number < c.number) i.callbacks.rows

-- a callback of the next number, of a pool and an object that were made, for which there is a slot
pub record IsNext (l : Live) (c : CallbackRow) : Type 0 where
  pub number : c.number ≡ l.made + 1
  pub home : c.pool.0 < length l.world.pools
  pub object : IsCallbackSound l.world.objects c
  pub room : lacks_slots_for l.world 1 ≡ false

pub below_next : (low next_number : ℕ) (cs : List CallbackRow) → IsRising low next_number cs → AllByRecursion (λ (c : CallbackRow). c.number < next_number) cs
below_next low next_number [] h = tt
below_next low next_number (c ∷ cs) h = (omega (arith, rising_bound (c.number + 1) next_number cs h.1), below_next (c.number + 1) next_number cs h.1)

pub may_come : (i : Inside) (l : Live) (c : CallbackRow) → shown i ≡ l → IsLiveWorld i → IsNext l c → MayCome i c
may_come i l c is k next =
    let a = subst (λ (x : Live). IsNext x c) (sym is) next in
    let fits : length (filter lives i.callbacks.rows) + length i.sources.sources.armings + 1 ≤ i.limits.slots = ltb-false i.limits.slots (length (filter lives i.callbacks.rows) + length i.sources.sources.armings + 1) a.room in
    record {
      room = omega (arith, fits, ap length k.alive.live, k.alive.slot_limit);
      pool = omega (arith, a.home, k.sized.pools_within, k.alive.pool_limit);
      object = omega (arith, object_made (shown i).world.objects c a.object, k.sized.objects_within, k.alive.object_limit);
      last = All-from_recursion (λ (x : CallbackRow). x.number < c.number) i.callbacks.rows (subst (λ n. AllByRecursion (λ (x : CallbackRow). x.number < n) i.callbacks.rows) (sym a.number) (below_next 1 (i.made + 1) i.callbacks.rows k.sound.numbers));
    }
