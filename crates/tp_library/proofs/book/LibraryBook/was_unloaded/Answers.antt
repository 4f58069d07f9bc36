use Rattle.std.proofs.Common.{◌≡◌, ◌∙◌, ◌<◌, false, true, not, ap, sym, arith, length}
use Rattle.std.proofs.lemmas.List.{get_or_read}
use Rattle.tp_library.specs.Seen.{was_held}
use Rattle.tp_library.proofs.Keeping.{unloaded_as}
use Rattle.tp_library.proofs.book.LibraryBook.was_unloaded.Goals as goal

pub returns-then-index : goal.returns-then-index
returns-then-index g c =
    let r = g.B.Recorded.recording c.self.inside.book in
    let b = c.self.inside.beside in
    let within : c.args.library.0 < length b.before.items = omega (arith, c.requires.1, c.self.invariant.before) in
    let held : was_held b.before.items c.args.library.0 ≡ true = sym (get_or_read b.before.items _ _ within c.index.ensures false) ∙ c.if-index.true in
    rw (← c.self.view_is) (ap not c.is_held.ensures ∙ unloaded_as r b c.self.invariant c.args.library.0 (omega (arith, c.requires.1)) held)
