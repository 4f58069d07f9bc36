use Rattle.std.proofs.Common.{◌≡◌, ◌+◌, true, false, get_or, set, refl, sym, ap, ◌∙◌, arith}
use Rattle.std.proofs.lemmas.List.{set-get_or}
use Rattle.timer_objects.specs.Kept.{padded}
use Rattle.timer_objects.specs.Settings.{is_there}
use Rattle.timer_objects.proofs.Kept.{from_1, kept_closed}
use Rattle.timer_objects.proofs.Padding.{get_or_padded, is_filled, padded_set, there_filled}
use Rattle.timer_objects.proofs.Shown.{shown_without, absent_without}
use Rattle.timer_objects.proofs.TimerObjects.close.Goals as goal

pub key_of-requires : goal.key_of-requires
key_of-requires c =
    let i = c.self.inside in
    let there : get_or (padded (i.dues.keys + 1) i.there.items) c.args.object.0 false ≡ true = ap (λ t. is_there t c.args.object.0) c.self.view_is ∙ sym c.is_there.ensures ∙ c.if-not-is_there.false in
    from_1 _ _ _ _ _ c.args.object.0 c.self.invariant (there_filled (i.dues.keys + 1) i.there.items c.args.object.0 there)

pub index_mut-requires : goal.index_mut-requires
index_mut-requires c =
    let i = c.self.inside in
    let there : get_or (padded (i.dues.keys + 1) i.there.items) c.args.object.0 false ≡ true = ap (λ t. is_there t c.args.object.0) c.self.view_is ∙ sym c.is_there.ensures ∙ c.if-not-is_there.false in
    omega (arith, is_filled i.there.items c.args.object.0 (there_filled (i.dues.keys + 1) i.there.items c.args.object.0 there))

pub invariant_of-self : goal.invariant_of-self
invariant_of-self c = kept_closed _ _ _ _ _ c.self.invariant c.key_of.result _ _ c.key_of.ensures c.unset.ensures.after

-- where there is no object, nothing changes
pub returns-then-not-is_there-clause-after : goal.returns-then-not-is_there-clause-after
returns-then-not-is_there-clause-after c =
    let i = c.self.inside in
    let all = padded (i.dues.keys + 1) i.there.items in
    let absent : get_or all c.args.object.0 false ≡ false = ap (λ t. is_there t c.args.object.0) c.self.view_is ∙ sym c.is_there.ensures ∙ c.if-not-is_there.true in
    let same : set all c.args.object.0 false ≡ all = ap (set all c.args.object.0) (sym absent) ∙ set-get_or all c.args.object.0 false in
    let unset = absent_without i.paces.items i.there.items c.args.object i.dues.entries (sym (get_or_padded (i.dues.keys + 1) i.there.items c.args.object.0) ∙ absent) c.self.invariant.alive in
    rw (← c.self.view_is) (rw (same, unset) refl)

pub returns-clause-after : goal.returns-clause-after
returns-clause-after c =
    let i = c.self.inside in
    let there : get_or (padded (i.dues.keys + 1) i.there.items) c.args.object.0 false ≡ true = ap (λ t. is_there t c.args.object.0) c.self.view_is ∙ sym c.is_there.ensures ∙ c.if-not-is_there.false in
    let filled = is_filled i.there.items c.args.object.0 (there_filled (i.dues.keys + 1) i.there.items c.args.object.0 there) in
    let closed = padded_set (i.dues.keys + 1) i.there.items c.args.object.0 false filled in
    let without = shown_without i.paces.items c.key_of.result c.args.object i.dues.entries c.key_of.ensures in
    rw (← c.self.view_is, c.unset.ensures.after) (rw (without, closed) refl)
