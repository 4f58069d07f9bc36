-- The laws of histories. They speak of entries alone, and of the callbacks that are left after the last one.
use Rattle.std.specs.Prelude.{List}
use Rattle.tp_base.specs.declared.answers.Entry.{Entry}
use Rattle.tp_base.specs.declared.limits.Limits.{Limits}
pub mod Entries
pub mod Once
pub mod Maximum
pub mod Covered
pub mod Notices
pub mod Actions
pub mod Armed
pub mod Io
pub mod Persistent
use Once.{AreOnce}
use Maximum.{IsWithinMaximum}
use Covered.{AreCovered, AreClosed}
use Notices.{AreNoticed}
use Actions.{AreActions}
use Armed.{AreArmed}
use Io.{AreOperated}
use Persistent.{ArePersistent}

pub record KeepsLaws (limits : Limits) (history : List Entry) : Type 0 where
  pub once : AreOnce limits history
  pub maximum : IsWithinMaximum limits history
  pub covered : AreCovered history
  pub closed : AreClosed history
  pub noticed : AreNoticed history
  pub actions : AreActions history
  pub armed : AreArmed history
  pub operated : AreOperated history
  pub persistent : ArePersistent history
