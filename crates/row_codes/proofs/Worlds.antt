-- The code of a world is one.
use Rattle.std.proofs.Common.{refl}
use Rattle.short_codes.specs.Codes.{IsCode}
use Rattle.short_codes.proofs.Codes.{list_code, mapped_code, number_code, pair_code}
use Rattle.tp_model.specs.World.{BegunWait, World}
use Rattle.row_codes.specs.Worlds.{wait_code, world_code}
use Rattle.row_codes.specs.AreCodes.{is_arming_code, is_callback_code, is_client_code, is_group_code, is_kernel_code, is_limits_code, is_object_code, is_object_id_code, is_pool_code, is_setting_code, is_target_code, is_who_code, is_worker_code}

pub is_wait_code : IsCode wait_code
is_wait_code = mapped_code
    (λ (w : BegunWait). ((((w.actor, w.target), w.covered), w.notices), w.cleanup))
    (λ q. record { actor = q.0.0.0.0; target = q.0.0.0.1; covered = q.0.0.1; notices = q.0.1; cleanup = q.1 })
    (λ w. refl)
    (pair_code (pair_code (pair_code (pair_code is_who_code is_target_code) (list_code number_code)) (list_code is_object_id_code)) number_code)

pub is_world_code : IsCode world_code
is_world_code = mapped_code
    (λ (w : World). ((((((((((((w.limits, w.pools), w.groups), w.objects), w.callbacks), w.kernels), w.settings), w.armings), w.workers), w.clients), w.waits), w.now), w.given_up))
    (λ q. record { limits = q.0.0.0.0.0.0.0.0.0.0.0.0; pools = q.0.0.0.0.0.0.0.0.0.0.0.1; groups = q.0.0.0.0.0.0.0.0.0.0.1; objects = q.0.0.0.0.0.0.0.0.0.1; callbacks = q.0.0.0.0.0.0.0.0.1; kernels = q.0.0.0.0.0.0.0.1; settings = q.0.0.0.0.0.0.1; armings = q.0.0.0.0.0.1; workers = q.0.0.0.0.1; clients = q.0.0.0.1; waits = q.0.0.1; now = q.0.1; given_up = q.1 })
    (λ w. refl)
    (pair_code (pair_code (pair_code (pair_code (pair_code (pair_code (pair_code (pair_code (pair_code (pair_code (pair_code (pair_code is_limits_code (list_code is_pool_code)) (list_code is_group_code)) (list_code is_object_code)) (list_code is_callback_code)) (list_code is_kernel_code)) (list_code is_setting_code)) (list_code is_arming_code)) (list_code is_worker_code)) (list_code is_client_code)) (list_code is_wait_code)) number_code) number_code)
