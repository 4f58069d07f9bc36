use Rattle.std.proofs.Common.{◌≡◌, false, true, sym, ap, ◌∙◌}
use Rattle.tp_base.specs.declared.answers.ActionKind.{ActionKind}
use Rattle.tp_base.specs.declared.rows.Action.{Action}
use Rattle.tp_base.specs.declared.rows.Status.{Status}
use Rattle.tp_base.specs.declared.rows.CallbackRow.{CallbackRow}
use Rattle.tp_base.specs.declared.plans.Mark.TheVariants.{Asks}
use Rattle.live_callbacks.specs.Callbacks.{Callbacks}
use Rattle.tp_base.specs.declared.rows.WaitTarget.TheVariants as target
use Rattle.tp_model.specs.Counts.{is_expected, is_operating}
use Rattle.tp_model.specs.Waits.{is_held_for}
use Rattle.tp_model.specs.Changes.{replaced, marked}
use Rattle.tp_model.specs.Actions.{asking}
use Rattle.live_world.proofs.CallbackMoves.{asked_by}
use Rattle.live_world.proofs.Moving.{found_here, goes_with}
use Rattle.live_world.proofs.LiveWorld.mark_asks.Goals as goal

-- the row that is put is the one that is marked
replaced_now : (callbacks : Callbacks) (c : CallbackRow) (kind : ActionKind) (action : Action) (status : Status) (new : Callbacks) → status ≡ asking kind action c.status → new ≡ record callbacks { rows = replaced (record c { status = status }) callbacks.rows }
    → new ≡ record callbacks { rows = replaced (marked (Asks kind action) c) callbacks.rows }
replaced_now callbacks c kind action status new same now = now ∙ ap (λ s. record callbacks { rows = replaced (record c { status = s }) callbacks.rows }) same

pub change-requires : goal.change-requires
change-requires c =
    let d = c.args.by.callback in
    let runs = c.requires.runs in
    let kind = c.args.kind in
    let action = c.args.action in
    let now = c.asking.ensures ∙ ap (asking kind action) runs.running in
    record {
      found = found_here c.self.inside c.args.self.now d c.self.view_is runs.found;
      goes = goes_with d d.long d.result c.asking.result
          (λ e. ap (is_held_for (target.Object d.object)) runs.running ∙ sym (ap (is_held_for (target.Object d.object)) now) ∙ e)
          (λ e. absurd (let none : false ≡ true = sym (ap is_expected now) ∙ e in cc))
          (λ e. absurd (let none : false ≡ true = sym (ap is_operating now) ∙ e in cc));
    }

pub invariant_of-self : goal.invariant_of-self
invariant_of-self c =
    (asked_by c.self.inside c.args.self.now c.args.by c.args.kind c.args.action c.change.new.self c.self.view_is c.self.invariant c.requires
    (replaced_now c.self.inside.callbacks c.args.by.callback c.args.kind c.args.action c.asking.result c.change.new.self c.asking.ensures c.change.ensures.moved)).keeps

pub returns : goal.returns
returns c =
    (asked_by c.self.inside c.args.self.now c.args.by c.args.kind c.args.action c.change.new.self c.self.view_is c.self.invariant c.requires
    (replaced_now c.self.inside.callbacks c.args.by.callback c.args.kind c.args.action c.asking.result c.change.new.self c.asking.ensures c.change.ensures.moved)).becomes
