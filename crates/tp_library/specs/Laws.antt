-- What holds of each stand.
use Rattle.std.specs.Prelude.{◌≡◌, ◌≢◌, ℕ, ◌<◌, true, false}
use Rattle.std.specs.List.{AllByRecursion, zip}
use Rattle.tp_base.specs.declared.rows.CallbackRow.{CallbackRow}
use Rattle.tp_base.specs.declared.rows.ObjectRow.{ObjectRow}
use Rattle.tp_model.specs.Counts.{is_live}
use Rattle.tp_library.specs.Shelves.{holds, library_of, world_of, Stand}

-- the library of each callback that may still run or runs is loaded, and so is that of each object that isn't released
pub record AreLoaded (t : Stand) : Type 0 where
  pub callbacks : AllByRecursion (λ (c : CallbackRow). is_live c.status ≡ true → library_of t.shelf c ≢ 0 → 0 < holds t (library_of t.shelf c)) (world_of t).callbacks
  pub objects : AllByRecursion (λ (made : ObjectRow × ℕ). made.0.released ≡ false → made.1 ≢ 0 → 0 < holds t made.1) (zip (world_of t).objects t.shelf.of_object)
