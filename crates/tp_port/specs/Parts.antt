-- What a pass knows, and how it changes.
use Rattle.std.specs.Prelude.{ℕ, ◌+◌, List, [], ◌∷◌, ◌++◌, sum}
use Rattle.port_facts.specs.declared.Completion.{Completion}
use Rattle.tp_port.specs.declared.views.Part.{Part}
use Rattle.tp_port.specs.declared.views.Part.TheVariants.{Spent, Posts, Takes}
use Rattle.port_facts.specs.declared.Posted.{Posted}
use Rattle.tp_port.specs.Lists.{quota_of}

-- the taker's pass, before there are quotas
abbrev pub opening_part : Part
opening_part = Takes [] 0 [] []

abbrev pub spent_part : Part
spent_part = Spent

-- the quotas are settled
abbrev pub begun : List ℕ → Part → Part
begun quotas v = Takes quotas 0 [] []

-- the pass of the next device, and what the taker knows when it was made
abbrev pub dealt : Part → Part
dealt Spent = Spent
dealt (Posts device quota room put) = Spent
dealt (Takes quotas made taken known) = Posts (made + 1) (quota_of quotas (made + 1)) (sum quotas) []

abbrev pub undealt : Part → Part
undealt Spent = Spent
undealt (Posts device quota room put) = Spent
undealt (Takes quotas made taken known) = Takes quotas (made + 1) taken known

-- the device has posted this one too
abbrev pub with_put : Part → Posted → Part
with_put Spent x = Spent
with_put (Posts device quota room put) x = Posts device quota room (put ++ x.completion ∷ [])
with_put (Takes quotas made taken known) x = Spent

-- the taker has taken this one too
abbrev pub with_taken : Part → Posted → Part
with_taken Spent x = Spent
with_taken (Posts device quota room put) x = Spent
with_taken (Takes quotas made taken known) x = Takes quotas made (taken ++ x ∷ []) known

-- what the device has posted
abbrev pub put_in : Part → List Completion
put_in Spent = []
put_in (Posts device quota room put) = put
put_in (Takes quotas made taken known) = []

-- the taker has taken in the pass of the next device
abbrev pub gathered : Part → Part → Part
gathered Spent w = Spent
gathered (Posts device quota room put) w = Spent
gathered (Takes quotas made taken known) w = Takes quotas made taken (known ++ put_in w ∷ [])

-- how many completions the device may post
abbrev pub quota_in : Part → ℕ
quota_in Spent = 0
quota_in (Posts device quota room put) = quota
quota_in (Takes quotas made taken known) = 0

-- how many completions all devices may post together
abbrev pub room_in : Part → ℕ
room_in Spent = 0
room_in (Posts device quota room put) = room
room_in (Takes quotas made taken known) = 0

-- the quotas, as the taker knows them
abbrev pub quotas_in : Part → List ℕ
quotas_in Spent = []
quotas_in (Posts device quota room put) = []
quotas_in (Takes quotas made taken known) = quotas

-- what was taken
abbrev pub taken_in : Part → List Posted
taken_in Spent = []
taken_in (Posts device quota room put) = []
taken_in (Takes quotas made taken known) = taken

-- what each device posted, of those whose passes came back
abbrev pub known_in : Part → List (List Completion)
known_in Spent = []
known_in (Posts device quota room put) = []
known_in (Takes quotas made taken known) = known
