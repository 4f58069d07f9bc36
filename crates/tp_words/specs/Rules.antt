-- The command that the words are read by, as `clap` sees it.
use Rattle.std.specs.Prelude.{◌∷◌, ◌++◌, Some, codes, fold, map, true}
use Rattle.clap.specs.Words.{App, Rule, Text, new_app, new_rule, with_rule}
use Rattle.clap.specs.declared.builder.action.ArgAction.TheVariants.{SetTrue}
use Rattle.tp_words.specs.Said.{flags, options}

abbrev pub alone : Text → Rule
alone name = new_rule name

abbrev pub valued : Text → Rule
valued name = record (new_rule name) { long = Some name }

abbrev pub flag : Text → Rule
flag name = record (new_rule name) { long = Some name; action = Some SetTrue }

abbrev pub bare : App
bare = let a = new_app (codes "tpool") in record a { top = record a.top { no_binary_name = true; disable_help_flag = true } }

abbrev pub tpool : App
tpool = fold with_rule bare (alone (codes "command") ∷ alone (codes "number") ∷ map valued options ++ map flag flags)
