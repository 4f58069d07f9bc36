use Rattle.std.proofs.Common.{◌∙◌, ap, bytes_eq}
use Rattle.std.specs.Map.{lookup}
use Rattle.script_lines.proofs.NameFacts.{find_name}
use Rattle.script_lines.proofs.names.Table.find.Goals as goal

pub returns : goal.returns
returns c =
    c.copied.ensures ∙ c.get.ensures.value ∙ find_name c.args.word.now c.self.inside.known.entries ∙ ap (lookup (bytes_eq c.args.word.now)) c.self.view_is
