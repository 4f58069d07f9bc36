use Rattle.std.proofs.Common.{◌≡◌, ℕ, ◌+◌, ◌++◌, ◌<◌, length, sym, ap, ◌∙◌, subst, arith, cond, length-append, [], ◌∷◌}
use Rattle.tp_base.specs.declared.rows.ObjectRow.{ObjectRow}
use Rattle.sources.specs.Rows.{is_there}
use Rattle.object_rows.specs.Objects.{ObjectTable}
use Rattle.live_world.specs.Live.{Live}
use Rattle.live_world.proofs.Timed.{free_next, with_object}
use Rattle.live_world.proofs.Making.{created}
use Rattle.live_world.proofs.LiveWorld.create_object.Goals as goal

pub create-requires-clause-room : goal.create-requires-clause-room
create-requires-clause-room c =
    let room = subst (λ (l : Live). length l.world.objects < l.world.limits.objects) (sym c.self.view_is) c.requires.room in
    omega (arith, room, c.self.invariant.sized.object_limit)

-- it has the next number
last : (rows after : ObjectTable) (row : ObjectRow) (number : ℕ) → after ≡ record rows { objects = rows.objects ++ row ∷ [] } → number ≡ length after.objects → number ≡ length rows.objects + 1
last rows after row number now counted = counted ∙ ap (λ (t : ObjectTable). length t.objects) now ∙ length-append rows.objects (row ∷ [])

pub enter-requires-clause-free : goal.enter-requires-clause-free
enter-requires-clause-free c =
    let i = c.self.inside in
    ap (is_there i.sources) (last i.objects c.create.new.self c.args.row c.objects-number.result c.create.ensures c.objects-number.ensures) ∙ free_next i.limits i.objects.objects i.sources c.self.invariant.timed

pub invariant_of-self : goal.invariant_of-self
invariant_of-self c =
    let i = c.self.inside in
    let kind = sym c.is_timed_kind.ensures ∙ c.if-is_timed_kind.true in
    (created i c.args.self.now c.args.row c.create.new.self c.enter.new.self c.self.view_is c.self.invariant c.requires c.create.ensures
    (c.enter.ensures ∙ ap (with_object i.sources) (last i.objects c.create.new.self c.args.row c.objects-number.result c.create.ensures c.objects-number.ensures) ∙ sym (ap (λ b. cond b (with_object i.sources (length i.objects.objects + 1)) i.sources) kind))).keeps

pub invariant_of-self-else-is_timed_kind : goal.invariant_of-self-else-is_timed_kind
invariant_of-self-else-is_timed_kind c =
    let i = c.self.inside in
    let kind = sym c.is_timed_kind.ensures ∙ c.if-is_timed_kind.false in
    (created i c.args.self.now c.args.row c.create.new.self i.sources c.self.view_is c.self.invariant c.requires c.create.ensures
    (sym (ap (λ b. cond b (with_object i.sources (length i.objects.objects + 1)) i.sources) kind))).keeps
