use Rattle.std.proofs.Common.{Bool, Global, Vec, sym, ap, ◌∙◌}
use Rattle.tp_library.specs.Shelved.{Stocked}
use Rattle.tp_library.specs.Kept.{stand_of}
use Rattle.tp_library.specs.Shelves.{Stand}
use Rattle.tp_library.specs.declared.LibAnswer.{LibAnswer}
use Rattle.tp_library.specs.declared.LibCall.TheVariants.{Free, FreeOnReturn, Load, Pool}
use Rattle.tp_library.specs.Libraries.{step_at}
use Rattle.tp_library.specs.Seen.{was_held}
use Rattle.tp_library.proofs.Keeping.{unloaded_between, unloaded_stepped}
use Rattle.tp_library.proofs.Loaded.{loaded}
use Rattle.tp_library.proofs.book.LibraryBook.step.Goals as goal

pub returns-in-Load-clause-loaded : goal.returns-in-Load-clause-loaded
returns-in-Load-clause-loaded g c = loaded (stand_of (g.B.Recorded.recording c.self.inside.book) c.load.new.self)

pub returns-in-Free-clause-loaded : goal.returns-in-Free-clause-loaded
returns-in-Free-clause-loaded g c = loaded (stand_of (g.B.Recorded.recording c.self.inside.book) c.free.new.self)

pub returns-in-FreeOnReturn-clause-loaded : goal.returns-in-FreeOnReturn-clause-loaded
returns-in-FreeOnReturn-clause-loaded g c = loaded (stand_of (g.B.Recorded.recording c.self.inside.book) c.free_on_return.new.self)

pub returns-in-Load-clause-unloaded : goal.returns-in-Load-clause-unloaded
returns-in-Load-clause-unloaded g c =
    let r = g.B.Recorded.recording c.self.inside.book in
    rw (← c.self.view_is)
    (unloaded_stepped r c.self.inside.beside c.remember.new.self c.load.new.self c.args.who (Load c.in-Load.library) c.load.result c.self.invariant c.remember.ensures.held c.load.ensures)

pub returns-in-Free-clause-unloaded : goal.returns-in-Free-clause-unloaded
returns-in-Free-clause-unloaded g c =
    let r = g.B.Recorded.recording c.self.inside.book in
    rw (← c.self.view_is)
    (unloaded_stepped r c.self.inside.beside c.remember.new.self c.free.new.self c.args.who (Free c.in-Free.library) c.free.result c.self.invariant c.remember.ensures.held c.free.ensures)

pub returns-in-FreeOnReturn-clause-unloaded : goal.returns-in-FreeOnReturn-clause-unloaded
returns-in-FreeOnReturn-clause-unloaded g c =
    let r = g.B.Recorded.recording c.self.inside.book in
    rw (← c.self.view_is)
    (unloaded_stepped r c.self.inside.beside c.remember.new.self c.free_on_return.new.self c.args.who (FreeOnReturn c.in-FreeOnReturn.library) c.free_on_return.result c.self.invariant c.remember.ensures.held c.free_on_return.ensures)

pub returns-in-Pool-clause-answer : goal.returns-in-Pool-clause-answer
returns-in-Pool-clause-answer g c =
    let r = g.B.Recorded.recording c.self.inside.book in
    rw (← c.self.view_is, c.in-Pool.is)
    (sym (ap (λ (came : Stand × LibAnswer). came.1) (ap (λ (s : Stocked). step_at (record { recording = r; shelf = s.shelf }) c.args.who (Pool c.in-Pool.call c.in-Pool.library)) (sym c.remember.ensures.shelf) ∙ c.ask.ensures.step)))

pub returns-in-Pool-clause-stand : goal.returns-in-Pool-clause-stand
returns-in-Pool-clause-stand g c =
    let r = g.B.Recorded.recording c.self.inside.book in
    rw (← c.self.view_is, c.in-Pool.is)
    (sym (ap (λ (came : Stand × LibAnswer). came.0) (ap (λ (s : Stocked). step_at (record { recording = r; shelf = s.shelf }) c.args.who (Pool c.in-Pool.call c.in-Pool.library)) (sym c.remember.ensures.shelf) ∙ c.ask.ensures.step)))

pub returns-in-Pool-clause-unloaded : goal.returns-in-Pool-clause-unloaded
returns-in-Pool-clause-unloaded g c =
    let r = g.B.Recorded.recording c.self.inside.book in
    rw (← c.self.view_is)
    (unloaded_between r (g.B.Recorded.recording c.ask.new.book) c.self.inside.beside c.ask.new.beside c.self.invariant
    (λ l h. ap (λ (v : Vec Bool Global). was_held v.items l) c.ask.ensures.before ∙ c.remember.ensures.held l h))

pub returns-in-Pool-clause-loaded : goal.returns-in-Pool-clause-loaded
returns-in-Pool-clause-loaded g c = loaded (stand_of (g.B.Recorded.recording c.ask.new.book) c.ask.new.beside)
