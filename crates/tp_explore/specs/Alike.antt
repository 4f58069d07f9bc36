-- Scenes that differ in nothing but callbacks that are over.
use Rattle.std.specs.Prelude.{◌≡◌, length}
use Rattle.tp_base.specs.declared.ids.Who.{Who}
use Rattle.tp_model.specs.Support.Remembered.{forget}
use Rattle.tp_explore.specs.Scenes.{Scene}

pub record AreAlike (s t : Scene) : Type 0 where
  pub worlds : forget s.world ≡ forget t.world
  pub counts : length s.world.callbacks ≡ length t.world.callbacks
  pub places : (who : Who) → s.places who ≡ t.places who
