pub mod Acting
mod ActionExamples
pub mod Actions
pub mod Actors
pub mod Advanced
pub mod Agreeing
pub mod Ahead
pub mod Allowed
pub mod Armed
pub mod Arming
mod ArmingExamples
pub mod AtStage
pub mod Barred
pub mod CallbackMoves
pub mod Callbacks
pub mod Calls
pub mod Cancelling
pub mod Closings
pub mod Costs
pub mod Counted
pub mod Covered
pub mod Due
pub mod Entries
mod Examples
pub mod Facts
pub mod Fates
pub mod Few
pub mod Firing
pub mod First
pub mod Fitting
pub mod Forgetting
mod GroupExamples
mod GroupLawExamples
pub mod GroupMoves
pub mod Growing
pub mod Io
mod IoExamples
pub mod Kernels
mod LawExamples
pub mod Laws
pub mod Lists
pub mod Maxima
pub mod Maximum
pub mod Members
pub mod Moved
pub mod Moves
pub mod Notices
pub mod ObjectMoves
pub mod Once
pub mod Over
mod OverExamples
pub mod Performing
pub mod Persistent
mod PersistentExamples
pub mod Places
pub mod Ranged
pub mod Ready
pub mod Refusals
pub mod Releasing
pub mod Remembered
pub mod Running
pub mod Sole
pub mod Sound
pub mod SoundCallbacks
pub mod SoundObjects
pub mod SoundSources
pub mod SoundWaits
pub mod SoundWorkers
mod StageExamples
mod StallExamples
pub mod Stalling
pub mod Standing
pub mod Steps
pub mod Stuck
pub mod Takings
pub mod Tied
mod TimerExamples
pub mod Unrefused
mod WaitExamples
pub mod WaitMoves
pub mod Waits
