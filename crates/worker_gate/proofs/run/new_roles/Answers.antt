use Rattle.std.proofs.Common.{◌≡◌, ◌+◌, ◌∷◌, [], ◌++◌, List, length, sym, ap, ◌∙◌, arith}
use Rattle.std.proofs.lemmas.List.FromFn.{length-map-range_with_len, map-range_with_len_more}
use Rattle.turn_lock.specs.Histories.{actor_of}
use Rattle.worker_gate.specs.declared.role.Role.{Role}
use Rattle.worker_gate.specs.Alone.{new_roles}
use Rattle.worker_gate.specs.Roles.{new_role}
use Rattle.worker_gate.proofs.run.new_roles.Goals as goal

pub push_reserved-requires : goal.push_reserved-requires
push_reserved-requires c =
    let made : length c.loop-place.roles.items ≡ c.loop-place.place = ap length c.loop-place.invariant.made ∙ length-map-range_with_len (λ number. new_role (actor_of c.args.limits number)) 1 c.loop-place.place in
    let fits = c.loop-place.invariant.fits in
    let below = c.loop-place-test.true in
    omega (arith, made, fits, below)

pub loop-place-preserved : goal.loop-place-preserved
loop-place-preserved c =
    let capacity = c.push_reserved.ensures.capacity in
    let fits = c.loop-place.invariant.fits in
    record {
      made = c.push_reserved.ensures.items
          ∙ (ap (λ (l : List Role). l ++ c.new_role.result ∷ []) c.loop-place.invariant.made
          ∙ (ap (λ (r : Role). new_roles c.args.limits 1 c.loop-place.place ++ r ∷ []) c.new_role.ensures
          ∙ sym (map-range_with_len_more (λ number. new_role (actor_of c.args.limits number)) 1 c.loop-place.place (c.loop-place.place + 1) (omega arith))));
      fits = omega (arith, capacity, fits);
    }
