use Rattle.tp_coalesce.proofs.LinePart.{ends_by_feed}
use Rattle.tp_coalesce.proofs.layer.play_windows.Goals as goal

pub play-requires-clause-part : goal.play-requires-clause-part
play-requires-clause-part g c = ends_by_feed
