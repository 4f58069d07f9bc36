-- The key of a plain world: the code of all that it is.
use Rattle.std.specs.Prelude.{ℕ, List, ◌++◌}
use Rattle.short_codes.specs.Codes.{number}
use Rattle.row_codes.specs.Worlds.{world_code}
use Rattle.plain_worlds.specs.Plain.{Plain}

abbrev pub plain_code : Plain → List ℕ
plain_code p = world_code p.world ++ number p.made
