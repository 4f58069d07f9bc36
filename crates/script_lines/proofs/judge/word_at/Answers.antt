use Rattle.std.proofs.Common.{◌∙◌}
use Rattle.script_lines.proofs.judge.word_at.Goals as goal

pub returns : goal.returns
returns c = c.first_at.ensures ∙ c.words_like.ensures c.args.place c.args.field
