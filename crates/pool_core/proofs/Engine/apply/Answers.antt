use Rattle.std.proofs.Common.{◌≡◌, ◌+◌, ◌-◌, ◌≤◌, length, sym, ap, ◌∙◌, subst, arith}
use Rattle.tp_base.specs.declared.plans.Change.{Change}
use Rattle.tp_model.specs.Counts.{owed}
use Rattle.tp_model.specs.Changes.{changed}
use Rattle.tp_model.specs.Support.Allowed.{IsAllowed, price, news}
use Rattle.tp_model.specs.Support.Ranged.{AreRowsInRange, AreTakenAtMost}
use Rattle.tp_model.specs.Support.Sound.{IsSound}
use Rattle.tp_model.specs.Support.Remembered.{Remembered, forget, remembered_in}
use Rattle.tp_model.proofs.Costs.{paid}
use Rattle.tp_model.proofs.Growing.{grows}
use Rattle.tp_model.proofs.Forgetting.{owed_forget}
use Rattle.tp_model.proofs.Ranged.{changed_rows, forget_rows}
use Rattle.tp_model.proofs.Takings.{taken_more}
use Rattle.live_world.specs.Bounds.{IsBounded}
use Rattle.live_world.specs.Live.{Live}
use Rattle.pool_core.specs.View.{remembered, IsMachine}
use Rattle.pool_core.specs.declared.Engine.TheInside.{Inside}
use Rattle.pool_core.proofs.Counting.{AreFew, few, taken_within}
use Rattle.pool_core.proofs.Engine.apply.Goals as goal

allowed_here : (i : Inside) (e : Remembered) (ch : Change) → remembered i ≡ e → IsAllowed (e.made + 1) e.world ch → IsAllowed (i.live.made + 1) i.live.world ch
allowed_here i e ch same allowed = subst (λ (r : Remembered). IsAllowed (r.made + 1) r.world ch) (sym same) allowed

-- what is owed after the change, and its own entry, is what was owed before and its price
pays : (i : Inside) (e : Remembered) (ch : Change) → remembered i ≡ e → IsSound (i.live.made + 1) i.live.world → IsAllowed (e.made + 1) e.world ch → IsMachine i → 1 + owed (changed i.live.world ch) ≡ i.owed + price ch
pays i e ch same sound allowed k =
    paid (i.live.made + 1) i.live.world ch sound (allowed_here i e ch same allowed) ∙ ap (λ n. n + price ch) (sym k.owes)

-- few callbacks are made, at little cost
few_here : (i : Inside) (e : Remembered) (ch : Change) → remembered i ≡ e → IsBounded i.live.world → IsAllowed (e.made + 1) e.world ch → IsMachine i → AreFew ch
few_here i e ch same b allowed k =
    let objects : length i.live.world.objects ≤ 65535 = omega (arith, k.rows.few, b.limits.objects_most) in
    few (i.live.made + 1) i.live.world ch b.limits.slots_most (taken_within i.live.world b) objects (allowed_here i e ch same allowed)

age_here : (i : Inside) (e : Remembered) → remembered i ≡ e → i.age ≡ e.age
age_here i e same = ap (λ (r : Remembered). r.age) same

pub overflow_add-self : goal.overflow_add-self
overflow_add-self c =
    let cost = (few_here c.self.inside c.args.self.now c.args.change.now c.self.view_is c.is_reachable.ensures.bounded c.requires.allowed c.self.invariant).cost in
    omega (arith, cost, c.price.ensures, c.self.invariant.few_owed, age_here c.self.inside c.args.self.now c.self.view_is, c.requires.young)

pub overflow_sub-self : goal.overflow_sub-self
overflow_sub-self c =
    omega (arith, pays c.self.inside c.args.self.now c.args.change.now c.self.view_is c.is_reachable.ensures.sound c.requires.allowed c.self.invariant, c.price.ensures)

pub invariant_of-self : goal.invariant_of-self
invariant_of-self c =
    let i = c.self.inside in
    let ch = c.args.change.now in
    let paid_for = pays i c.args.self.now ch c.self.view_is c.is_reachable.ensures.sound c.requires.allowed c.self.invariant in
    let world_now : c.apply.new.self.world ≡ forget (changed i.live.world ch) = ap (λ (l : Live). l.world) c.apply.ensures.after in
    let owed_now : owed c.apply.new.self.world ≡ owed (changed i.live.world ch) = ap owed world_now ∙ owed_forget (changed i.live.world ch) in
    let few_now = few_here i c.args.self.now ch c.self.view_is c.is_reachable.ensures.bounded c.requires.allowed c.self.invariant in
    record {
      owes = omega (arith, paid_for, c.price.ensures, owed_now);
      few_made = omega (arith, ap (λ (l : Live). l.made) c.apply.ensures.after, few_now.made, c.self.invariant.few_made);
      few_owed = omega (arith, c.price.ensures, few_now.cost, c.self.invariant.few_owed);
      rows = subst AreRowsInRange (sym world_now) (forget_rows (changed i.live.world ch)
          (changed_rows (i.live.made + 1) i.live.world ch c.is_reachable.ensures.sound (allowed_here i c.args.self.now ch c.self.view_is c.requires.allowed) c.requires.in_range c.self.invariant.rows));
      takings = subst (AreTakenAtMost (i.age + 1)) (sym world_now) (taken_more (i.live.made + 1) i.age i.live.world ch (allowed_here i c.args.self.now ch c.self.view_is c.requires.allowed) c.self.invariant.takings);
    }

pub returns-clause-after : goal.returns-clause-after
returns-clause-after c =
    let i = c.self.inside in
    let ch = c.args.change.now in
    let after = changed i.live.world ch in
    let more = grows (i.live.made + 1) i.live.world ch (allowed_here i c.args.self.now ch c.self.view_is c.requires.allowed) in
    let counted : news ch ≡ length after.callbacks - length i.live.world.callbacks = omega (arith, more) in
    ap (λ (l : Live). record { world = l.world; made = l.made; age = i.age + 1 }) c.apply.ensures.after
    ∙ ap (λ n. record { world = forget after; made = i.live.made + n; age = i.age + 1 }) counted
    ∙ ap (λ (r : Remembered). remembered_in r (changed r.world ch)) c.self.view_is
