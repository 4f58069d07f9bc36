use Rattle.std.proofs.Common.{sym, subst, ◌≤◌, length}
use Rattle.std.proofs.lemmas.List.{length-take-le}
use Rattle.tp_explore.specs.Names.{used_within}
use Rattle.tp_explore.proofs.keys.put_names.Goals as goal

pub slice_bounds-put_all-end : goal.slice_bounds-put_all-end
slice_bounds-put_all-end c = sym (length-take-le c.used.result c.args.names.now (subst (λ n. n ≤ length c.args.names.now) (sym c.used.ensures) (used_within c.args.names.now)))
