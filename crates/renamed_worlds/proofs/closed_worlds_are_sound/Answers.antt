use Rattle.renamed_worlds.proofs.ClosedSound.{closed_living, closed_sound}
use Rattle.renamed_worlds.proofs.closed_worlds_are_sound.Goals as goal

pub returns-clause-sound : goal.returns-clause-sound
returns-clause-sound c = closed_sound

pub returns-clause-living : goal.returns-clause-living
returns-clause-living c = closed_living
