use Rattle.std.proofs.Common.{◌≡◌, false, true, sym, ap, ◌∙◌}
use Rattle.tp_base.specs.declared.rows.Status.{Status}
use Rattle.tp_base.specs.declared.rows.CallbackRow.{CallbackRow}
use Rattle.tp_base.specs.declared.plans.Mark.TheVariants.{Loose}
use Rattle.live_callbacks.specs.Callbacks.{Callbacks}
use Rattle.tp_base.specs.declared.rows.WaitTarget.TheVariants as target
use Rattle.tp_model.specs.Counts.{is_expected, is_operating}
use Rattle.tp_model.specs.Waits.{is_held_for}
use Rattle.tp_model.specs.Changes.{replaced, loosened, marked}
use Rattle.live_world.proofs.CallbackMoves.{loosened_by}
use Rattle.live_world.proofs.Moving.{found_here, goes_with}
use Rattle.live_world.proofs.LiveWorld.mark_loose.Goals as goal

-- the row that is put is the one that is marked
replaced_now : (callbacks : Callbacks) (c : CallbackRow) (status : Status) (new : Callbacks) → status ≡ loosened c.status → new ≡ record callbacks { rows = replaced (record c { status = status }) callbacks.rows }
    → new ≡ record callbacks { rows = replaced (marked Loose c) callbacks.rows }
replaced_now callbacks c status new same now = now ∙ ap (λ s. record callbacks { rows = replaced (record c { status = s }) callbacks.rows }) same

pub change-requires : goal.change-requires
change-requires c =
    let d = c.args.by.callback in
    let runs = c.requires.runs in
    record {
      found = found_here c.self.inside c.args.self.now d c.self.view_is runs.found;
      goes = goes_with d d.long d.result c.loosened.result
          (λ e. absurd (let none : false ≡ true = sym (ap (is_held_for (target.Object d.object)) (c.loosened.ensures ∙ ap loosened runs.running)) ∙ e in cc))
          (λ e. absurd (let none : false ≡ true = sym (ap is_expected (c.loosened.ensures ∙ ap loosened runs.running)) ∙ e in cc))
          (λ e. absurd (let none : false ≡ true = sym (ap is_operating (c.loosened.ensures ∙ ap loosened runs.running)) ∙ e in cc));
    }

pub invariant_of-self : goal.invariant_of-self
invariant_of-self c =
    (loosened_by c.self.inside c.args.self.now c.args.by c.change.new.self c.self.view_is c.self.invariant c.requires
    (replaced_now c.self.inside.callbacks c.args.by.callback c.loosened.result c.change.new.self c.loosened.ensures c.change.ensures.moved)).keeps

pub returns : goal.returns
returns c =
    (loosened_by c.self.inside c.args.self.now c.args.by c.change.new.self c.self.view_is c.self.invariant c.requires
    (replaced_now c.self.inside.callbacks c.args.by.callback c.loosened.result c.change.new.self c.loosened.ensures c.change.ensures.moved)).becomes
