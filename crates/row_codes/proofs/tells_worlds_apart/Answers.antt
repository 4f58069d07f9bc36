use Rattle.row_codes.proofs.Worlds.{is_world_code}
use Rattle.row_codes.proofs.tells_worlds_apart.Goals as goal

pub returns : goal.returns
returns c = is_world_code
