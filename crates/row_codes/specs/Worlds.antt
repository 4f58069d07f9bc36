-- The code of a world.
use Rattle.std.specs.Prelude.{ℕ, List, ◌++◌}
use Rattle.short_codes.specs.Codes.{listed, number}
use Rattle.tp_model.specs.World.{BegunWait, World}
use Rattle.row_codes.specs.Rows.{arming_code, callback_code, client_code, group_code, kernel_code, limits_code, object_code, object_id_code, pool_code, setting_code, target_code, who_code, worker_code}

abbrev pub wait_code : BegunWait → List ℕ
wait_code w = who_code w.actor ++ target_code w.target ++ listed number w.covered ++ listed object_id_code w.notices ++ number w.cleanup

abbrev pub world_code : World → List ℕ
world_code w =
    limits_code w.limits ++ listed pool_code w.pools ++ listed group_code w.groups ++ listed object_code w.objects ++ listed callback_code w.callbacks
    ++ listed kernel_code w.kernels ++ listed setting_code w.settings ++ listed arming_code w.armings ++ listed worker_code w.workers
    ++ listed client_code w.clients ++ listed wait_code w.waits ++ number w.now ++ number w.given_up
