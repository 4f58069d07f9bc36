use Rattle.tp_library.proofs.LinePart.{ends_by_feed}
use Rattle.tp_library.proofs.layer.play_libraries.Goals as goal

pub play-requires-clause-part : goal.play-requires-clause-part
play-requires-clause-part g c = ends_by_feed
