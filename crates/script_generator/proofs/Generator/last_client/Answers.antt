use Rattle.script_generator.proofs.Generator.last_client.Goals as goal

pub returns : goal.returns
returns c = rw c.from.ensures at c.put_number.ensures
