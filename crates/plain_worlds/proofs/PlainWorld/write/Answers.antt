use Rattle.std.proofs.Common.{◌++◌, ◌∙◌, ap, append_assoc}
use Rattle.std.proofs.lemmas.Result.{on_ok_weaker}
use Rattle.short_codes.specs.Codes.{number}
use Rattle.row_codes.specs.Worlds.{world_code}
use Rattle.plain_worlds.specs.Keys.{plain_code}
use Rattle.plain_worlds.proofs.PlainWorld.write.Goals as goal

pub returns : goal.returns
returns c =
    let text = c.args.text.now.items in
    on_ok_weaker c.put.result
    (λ e. e ∙ ap (λ t. t ++ number c.self.inside.made) c.in_ok-write.ensures ∙ append_assoc text (world_code c.self.inside.rows) (number c.self.inside.made) ∙ ap (λ p. text ++ plain_code p) c.self.view_is)
    c.put.ensures
