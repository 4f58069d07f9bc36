use Rattle.std.proofs.Common.{◌∙◌, ap, bytes_eq}
use Rattle.indexmap.specs.IndexMap.{insert_entry}
use Rattle.script_lines.specs.Names.{names_in}
use Rattle.script_lines.proofs.NameFacts.{insert_name}
use Rattle.script_lines.proofs.names.Table.add.Goals as goal

pub returns-clause-ok : goal.returns-clause-ok
returns-clause-ok c =
    ap names_in c.in_ok-insert.ensures.entries ∙ insert_name c.args.name c.args.named c.self.inside.known.entries
    ∙ ap (λ names. insert_entry bytes_eq names c.args.name.now c.args.named) c.self.view_is
