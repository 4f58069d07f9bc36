use Rattle.tp_port.proofs.port.open.Given as goal

abbrev pub ghosts-open_quoted : goal.ghosts-open_quoted
ghosts-open_quoted a = record { quotas = a.quotas.items }
