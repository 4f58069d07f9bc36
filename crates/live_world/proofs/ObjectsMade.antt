-- Objects of callbacks.
use Rattle.std.proofs.Common.{◌-◌, ◌<◌, ◌≤◌, List, length, is_some, ap, arith, ⊎_elim}
use Rattle.std.proofs.lemmas.Bool.{cases_eq}
use Rattle.tp_base.specs.declared.rows.CallbackRow.{CallbackRow}
use Rattle.tp_base.specs.declared.rows.ObjectRow.{ObjectRow}
use Rattle.tp_model.specs.Support.Sound.{IsCallbackSound}
use Rattle.tp_model.proofs.Refusals.{made, numbered_some}

-- the object of a callback was made, or is 0
pub object_made : (objects : List ObjectRow) (c : CallbackRow) → IsCallbackSound objects c → c.object.0 ≤ length objects
object_made objects c sound =
    ⊎_elim
    (λ none. omega (arith, none))
    (λ named.
    let of = sound named in
    let at = numbered_some objects c.object.0 of.row of.stands in
    let there : c.object.0 - 1 < length objects = made objects (c.object.0 - 1) (ap is_some at.0) in
    omega (arith, there, at.1))
    (cases_eq c.object.0 0)
