use Rattle.tp_library.proofs.LineFacts.{verb_read}
use Rattle.tp_library.proofs.lines.read_verb.Goals as goal

pub returns : goal.returns
returns c =
    verb_read c.args.text.now c.read_bytes.result c.read_bytes-2.result c.read_bytes-3.result c.further-plain.result c.further.result c.further-plain.ensures c.further.ensures
    c.read_bytes.ensures c.read_bytes-2.ensures c.read_bytes-3.ensures
