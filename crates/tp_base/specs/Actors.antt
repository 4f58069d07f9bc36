-- Who acts.
use Rattle.std.specs.Prelude.{Bool, false, ◌==◌}
use Rattle.tp_base.specs.declared.ids.Who.{Who}
use Rattle.tp_base.specs.declared.ids.Who.TheVariants.{Client, Worker}

abbrev pub is_same_actor : Who → Who → Bool
is_same_actor (Client a) (Client b) = a == b
is_same_actor (Worker a) (Worker b) = a == b
is_same_actor _ _ = false
