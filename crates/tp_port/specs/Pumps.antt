-- What contracts say of the pump.
use Rattle.std.specs.Prelude.{◌≡◌, ℕ, ◌≤◌, List, [], ◌++◌, length, map, vec_items, vec_capacity}
use Rattle.std.specs.Global.{Vec}
use Rattle.recorded.specs.Recordings.{all_made, Recording}
use Rattle.tp_port.specs.declared.passes.LastPass.{LastPass}
use Rattle.tp_port.specs.declared.passes.TakePass.{TakePass}
use Rattle.tp_port.specs.declared.port.Port.{Port}
use Rattle.tp_port.specs.declared.pumps.Prepared.{Prepared}
use Rattle.port_facts.specs.declared.Completion.{Completion}
use Rattle.port_facts.specs.declared.Posted.{Posted}
use Rattle.port_facts.specs.Completions.{completions}
use Rattle.port_facts.specs.Interleaved.{list_of, of, IsInterleaving}
use Rattle.tp_port.specs.Completing.{call_of}
use Rattle.tp_port.specs.Devices.{AreReady}
use Rattle.tp_port.specs.Ports.{posted_last, quotas_of, taken_by, taken_last, IsSameLast, IsTakeOf}

-- the devices' lists of completions
abbrev pub lists_of : List (Vec Completion) → List (List Completion)
lists_of devices = map (vec_items {X = Completion}) devices

-- how many completions each device has to post
abbrev pub quotas_for : List (Vec Completion) → List ℕ
quotas_for devices = map (λ (list : Vec Completion). length list.items) devices

-- all memory is there, nothing was posted, and nothing was taken
pub record IsPrepared (devices : List (Vec Completion)) (p : Prepared) : Type 0 where
  pub take : IsTakeOf p.port p.pass
  pub quotas : length (quotas_of p.pass) ≡ length devices
  pub taken : taken_by p.pass ≡ []
  pub ready : AreReady p.port devices p.posts.items
  pub started : p.started.items ≡ []
  pub started_fits : length devices ≤ vec_capacity p.started
  pub ended : p.ended.items ≡ []
  pub ended_fits : length devices ≤ vec_capacity p.ended

-- some completions were taken, and each was made on the machine, in this order
pub record HasTakenSome (port : Port) (old new : Recording) (a b : TakePass) : Type 0 where
  pub of : IsTakeOf port b
  pub quotas_are : quotas_of b ≡ quotas_of a
  pub more : List Posted
  pub taken : taken_by b ≡ taken_by a ++ more
  pub made : new ≡ all_made old (map call_of more)

-- the same, where no device posts any more
pub record HasTakenLeft (port : Port) (old new : Recording) (a b : LastPass) : Type 0 where
  pub same : IsSameLast port a b
  pub more : List Posted
  pub taken : taken_last b ≡ taken_last a ++ more
  pub made : new ≡ all_made old (map call_of more)

-- all that was left was taken
pub record HasDrained (port : Port) (old new : Recording) (a b : LastPass) : Type 0 where
  pub took : HasTakenLeft port old new a b
  pub all : (device : ℕ) → of device (taken_last b) ≡ list_of (posted_last b) device

-- all completions were taken, and the machine's new entries are theirs alone, all accepted, in the order in which they
-- were taken; of each device those that were taken are its list
pub record IsPumped (lists : List (List Completion)) (old new : Recording) (pass : LastPass) : Type 0 where
  pub limits : new.limits ≡ old.limits
  pub capacity : new.capacity ≡ old.capacity
  pub history : new.history ≡ old.history ++ completions (taken_last pass)
  pub all : IsInterleaving lists (taken_last pass)
