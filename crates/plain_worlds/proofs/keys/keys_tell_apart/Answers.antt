use Rattle.plain_worlds.proofs.Telling.{is_plain_code}
use Rattle.plain_worlds.proofs.keys.keys_tell_apart.Goals as goal

pub returns : goal.returns
returns c = is_plain_code
