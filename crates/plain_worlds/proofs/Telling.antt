-- The key of a plain world tells it apart.
use Rattle.std.proofs.Common.{refl}
use Rattle.short_codes.specs.Codes.{IsCode}
use Rattle.short_codes.proofs.Codes.{mapped_code, number_code, pair_code}
use Rattle.row_codes.proofs.Worlds.{is_world_code}
use Rattle.plain_worlds.specs.Keys.{plain_code}
use Rattle.plain_worlds.specs.Plain.{Plain}

pub is_plain_code : IsCode plain_code
is_plain_code = mapped_code (λ (p : Plain). (p.world, p.made)) (λ q. record { world = q.0; made = q.1 }) (λ p. refl) (pair_code is_world_code number_code)
