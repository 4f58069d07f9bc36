use Rattle.std.proofs.Common.{◌≡◌, ℕ, ◌+◌, Option, sym, ap, ◌∙◌}
use Rattle.tp_base.specs.declared.ids.GroupId.{GroupId}
use Rattle.tp_model.specs.Groups.{first_member, gets_notice, is_group, is_object_that}
use Rattle.tp_model.proofs.Refusals.{both}
use Rattle.live_world.specs.declared.LiveWorld.TheInside.{Inside}
use Rattle.live_world.specs.Live.{Live}
use Rattle.live_world.specs.View.{shown}
use Rattle.live_world.proofs.MembersClosed.{closing_first, members_are_closed, may_release, may_now, member_closed, member_noted, not_noticed, is_told_now, ClosesMember}
use Rattle.live_world.proofs.LiveWorld.close_members.Goals as goal
use Rattle.live_world.proofs.LiveWorld.close_members.Goals.{After-note, Else-noticed}

-- the first member, as the objects tell it
first_here : (i : Inside) {l : Live} → shown i ≡ l → (group : GroupId) {first found : Option ℕ} → first ≡ first_member (shown i).world group.0 → first ≡ found → first_member l.world group.0 ≡ found
first_here i is group told found = sym (ap (λ (x : Live). first_member x.world group.0) is) ∙ sym told ∙ found

pub loop-number-init : goal.loop-number-init
loop-number-init c = closing_first c.args.who c.args.group c.args.cancel c.args.self.now c.requires.made c.requires.idle c.requires.may

pub first_member-requires : goal.first_member-requires
first_member-requires c = ap (λ (l : Live). is_group l.world c.args.group.0) c.self.view_is ∙ c.loop-number.invariant.made

pub release_object-requires : goal.release_object-requires
release_object-requires c = may_release c.args.who c.args.group c.args.cancel c.args.self.now c.loop-number.self c.in-Some.number (first_here c.self.inside c.self.view_is c.args.group c.first_member.ensures c.in-Some.is) c.loop-number.invariant

pub note-requires : goal.note-requires
note-requires c =
    let now = c.loop-number.self in
    let mid = c.release_object.new.self in
    let first = first_here c.self.inside c.self.view_is c.args.group c.first_member.ensures c.in-Some.is in
    let gets = both c.args.cancel (is_object_that (gets_notice c.args.group.0) now.world.objects c.in-Some.number) (rw (← c.self.view_is) (sym c.is_noticed-noticed.ensures ∙ c.if-noticed.true)) in
    record {
      may = may_now c.args.who c.args.group c.args.cancel c.args.self.now now mid c.in-Some.number first c.is_reachable.ensures.living c.release_object.ensures c.loop-number.invariant gets.0;
      told = is_told_now c.args.who c.args.group c.args.cancel c.args.self.now now mid c.in-Some.number first c.is_reachable.ensures.living c.release_object.ensures c.loop-number.invariant gets.1;
      free = not_noticed c.args.who c.args.group c.args.cancel c.args.self.now now mid c.in-Some.number first c.is_reachable.ensures.living c.release_object.ensures c.loop-number.invariant (now.made + 1) c.is_reachable.ensures.sound;
    }

with_notice : (c : After-note) → ClosesMember c.args.who c.args.group c.args.cancel c.args.self.now c.loop-number.self c.release_object.new.self c.in-Some.number
    (first_here c.self.inside c.self.view_is c.args.group c.first_member.ensures c.in-Some.is) c.is_reachable.ensures.living c.release_object.ensures c.loop-number.invariant c.note.new.self
with_notice c = member_noted c.args.who c.args.group c.args.cancel c.args.self.now c.loop-number.self c.release_object.new.self c.in-Some.number
    (first_here c.self.inside c.self.view_is c.args.group c.first_member.ensures c.in-Some.is) c.is_reachable.ensures.living c.release_object.ensures c.loop-number.invariant c.note.new.self
    (rw (← c.self.view_is) (sym c.is_noticed-noticed.ensures ∙ c.if-noticed.true)) c.note.ensures

pub loop-number-smaller-then-noticed : goal.loop-number-smaller-then-noticed
loop-number-smaller-then-noticed c = (with_notice c).smaller

pub loop-number-preserved-then-noticed : goal.loop-number-preserved-then-noticed
loop-number-preserved-then-noticed c = (with_notice c).goes_on

without : (c : Else-noticed) → ClosesMember c.args.who c.args.group c.args.cancel c.args.self.now c.loop-number.self c.release_object.new.self c.in-Some.number
    (first_here c.self.inside c.self.view_is c.args.group c.first_member.ensures c.in-Some.is) c.is_reachable.ensures.living c.release_object.ensures c.loop-number.invariant c.release_object.new.self
without c = member_closed c.args.who c.args.group c.args.cancel c.args.self.now c.loop-number.self c.release_object.new.self c.in-Some.number
    (first_here c.self.inside c.self.view_is c.args.group c.first_member.ensures c.in-Some.is) c.is_reachable.ensures.living c.release_object.ensures c.loop-number.invariant (rw (← c.self.view_is) (sym c.is_noticed-noticed.ensures ∙ c.if-noticed.false))

pub loop-number-smaller : goal.loop-number-smaller
loop-number-smaller c = (without c).smaller

pub loop-number-preserved : goal.loop-number-preserved
loop-number-preserved c = (without c).goes_on

pub returns : goal.returns
returns c = members_are_closed c.args.who c.args.group c.args.cancel c.args.self.now c.loop-number.self (first_here c.self.inside c.self.view_is c.args.group c.first_member.ensures c.in_default.is) c.is_reachable-2.ensures.living c.loop-number.invariant
