-- The limits of the program's machine.
use Rattle.std.specs.Prelude.{ℕ}
use Rattle.recorded.specs.declared.TheConstants.{OBJECT_LIMIT}
use Rattle.tp_base.specs.declared.limits.Limits.{Limits}

-- with so many clients, workers and objects
abbrev pub limits_with : ℕ → ℕ → ℕ → Limits
limits_with clients workers objects = record { clients = clients; workers = workers; pools = 64; groups = 255; objects = objects; kernels = 1024; slots = 8192 }

abbrev pub program_limits : ℕ → ℕ → Limits
program_limits clients workers = limits_with clients workers OBJECT_LIMIT
