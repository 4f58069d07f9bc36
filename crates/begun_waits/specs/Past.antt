-- The list of begun waits as what became of them tells it.
use Rattle.std.specs.Prelude.{ℕ, List, [], ◌∷◌, ◌++◌}
use Rattle.tp_base.specs.declared.rows.CallbackRow.{CallbackRow}
use Rattle.tp_model.specs.World.{BegunWait}
use Rattle.tp_model.specs.Changes.{give_notice, given_up_after, new_wait}
use Rattle.begun_waits.specs.declared.past.Past.{Past}
use Rattle.begun_waits.specs.declared.past.Past.TheVariants.{Opened, Begun', Noticed', Given', Ended'}
use Rattle.begun_waits.specs.Begun.{wait_among, with_notices, without_waits}

module _ {K : Type 0} (rows : K → List CallbackRow) where
  -- the waits, in the order in which they were begun
  abbrev pub waits_in : Past K → List BegunWait
  waits_in Opened = []
  waits_in (Begun' _ before who target cancel cleanup callbacks) = waits_in before ++ record (new_wait who target cancel (rows callbacks.value)) { cleanup = cleanup } ∷ []
  waits_in (Noticed' _ before who object) = with_notices who (object ∷ []) (waits_in before)
  waits_in (Given' _ before who) = give_notice who (waits_in before)
  waits_in (Ended' _ before who how) = without_waits who (waits_in before)

  -- how many notices stalled waits never gave
  abbrev pub given_up_in : Past K → ℕ
  given_up_in Opened = 0
  given_up_in (Begun' _ before who target cancel cleanup callbacks) = given_up_in before
  given_up_in (Noticed' _ before who object) = given_up_in before
  given_up_in (Given' _ before who) = given_up_in before
  given_up_in (Ended' _ before who how) = given_up_after (given_up_in before) how (wait_among (waits_in before) who)
