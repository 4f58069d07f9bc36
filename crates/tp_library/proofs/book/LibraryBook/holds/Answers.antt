use Rattle.std.proofs.Common.{◌∙◌, arith}
use Rattle.tp_library.proofs.Keeping.{few_held, holds_as}
use Rattle.tp_library.proofs.book.LibraryBook.holds.Goals as goal

pub held-requires-clause-fits : goal.held-requires-clause-fits
held-requires-clause-fits g c = few_held (g.B.Recorded.recording c.self.inside.book) c.self.inside.beside c.self.invariant c.args.library.0 (omega (arith, c.requires.1))

pub returns : goal.returns
returns g c = rw (← c.self.view_is) (c.held.ensures ∙ holds_as (g.B.Recorded.recording c.self.inside.book) c.self.inside.beside c.self.invariant c.args.library.0 (omega (arith, c.requires.1)))
