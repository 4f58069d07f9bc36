use Rattle.std.proofs.Common.{◌<◌, ◌≤◌, arith}
use Rattle.tp_library.proofs.Keeping.{none_unloaded, opened_kept}
use Rattle.tp_library.proofs.book.LibraryBook.open.Goals as goal

pub invariant_of-result : goal.invariant_of-result
invariant_of-result g c =
    let no : c.args.capacity < c.args.limits.clients → ⊥ = λ few. let e = c.in_ok-book.ensures.too_small few in cc in
    let clients : c.args.limits.clients ≤ c.args.capacity = omega (arith, no) in
    opened_kept c.args.limits c.args.capacity c.requires clients c.ranges.capacity.fits (g.B.Recorded.recording c.in_ok-book.book) c.in_ok-beside.beside c.in_ok-book.ensures.limits c.in_ok-book.ensures.capacity c.in_ok-book.ensures.empty c.in_ok-beside.ensures

pub returns-clause-none_unloaded : goal.returns-clause-none_unloaded
returns-clause-none_unloaded g c = none_unloaded c.args.limits c.args.capacity (g.B.Recorded.recording c.in_ok-book.book) c.in_ok-beside.beside c.in_ok-beside.ensures
