use Rattle.tp_legacy.proofs.LinePart.{ends_by_feed}
use Rattle.tp_legacy.proofs.layer.play_legacy.Goals as goal

pub play-requires-clause-part : goal.play-requires-clause-part
play-requires-clause-part g c = ends_by_feed
