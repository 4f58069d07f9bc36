use Rattle.tp_library.proofs.beside.Beside.note.Goals as goal

pub returns-in-Makes : goal.returns-in-Makes
returns-in-Makes c = rw c.in-Makes.is (c.make.ensures c.args.who)

pub returns-in-Releases : goal.returns-in-Releases
returns-in-Releases c = rw c.in-Releases.is (c.release.ensures c.args.who)

pub returns-in-Cancels : goal.returns-in-Cancels
returns-in-Cancels c = rw c.in-Cancels.is (c.cancel.ensures c.args.who)

pub returns-in-Submits : goal.returns-in-Submits
returns-in-Submits c = rw c.in-Submits.is (c.submit.ensures c.args.who)
