-- Completions as calls on a machine.
use Rattle.port_facts.specs.Accepted.{call_of as entry_call}
use Rattle.port_facts.specs.Completions.{completion_of}
use Rattle.port_facts.specs.declared.Posted.{Posted}
use Rattle.tp_base.specs.declared.calls.Call.{Call}
use Rattle.tp_base.specs.declared.ids.Who.{Who}

-- client 2 completes what device 1 posts, and so on
abbrev pub call_of : Posted → Who × Call
call_of x = entry_call (completion_of x)
