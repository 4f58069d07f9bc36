use Rattle.std.proofs.Common.{arith, ◌<◌, length}
use Rattle.line_grammar.proofs.WordFacts.{word_stuck}
use Rattle.line_grammar.proofs.words.read_bytes.Goals as goal

pub returns-else-size-word : goal.returns-else-size-word
returns-else-size-word g c =
    let shared = c.shared_front-size.ensures in
    let size = c.shared_front-size.result in
    let inside : size < length c.args.word.now = omega (arith, shared.word, c.if-size-word.false) in
    word_stuck c.args.meaning c.args.word.now c.args.text.now size inside shared.text shared.shared (λ more. shared.apart inside more)
