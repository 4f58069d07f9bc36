-- The entries of a history as what was written down tells them.
use Rattle.std.specs.Prelude.{List, [], ◌∷◌, ◌++◌}
use Rattle.tp_base.specs.declared.answers.Entry.{Entry}
use Rattle.pool_book.specs.declared.past.Written.{Written}
use Rattle.pool_book.specs.declared.past.Written.TheVariants.{Opened, Entered'}

abbrev pub entries_in : Written → List Entry
entries_in Opened = []
entries_in (Entered' _ before who call answer) = entries_in before ++ record { who = who.value; call = call.value; answer = answer.value } ∷ []
