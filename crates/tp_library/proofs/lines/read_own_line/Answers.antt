use Rattle.std.proofs.Common.{◌≡◌, ◌+◌, false, subst}
use Rattle.line_grammar.specs.Language.{IsReadTo}
use Rattle.tp_library.specs.Lines.{own_call, LibLinesOf}
use Rattle.tp_library.specs.declared.LibCall.{LibCall}
use Rattle.tp_library.proofs.LineFacts.{own_read, own_stuck_first, own_stuck_second}
use Rattle.tp_library.proofs.lines.read_own_line.Goals as goal
use Rattle.tp_library.proofs.lines.read_own_line.Goals.{in-Load, in-Free, in-FreeOnReturn}

pub returns-in-Err : goal.returns-in-Err
returns-in-Err c = own_stuck_first c.args.text.now c.in-Err.place c.in-Err.ensures

pub returns-in-Err-read_own_call : goal.returns-in-Err-read_own_call
returns-in-Err-read_own_call c =
    own_stuck_second c.args.text.now c.in-Ok.who c.in-Ok.size c.in-Ok.ensures c.split_at.result.1.now c.split_at.ensures.back c.in-Err-read_own_call.place c.in-Err-read_own_call.ensures

pub returns-after-verb : goal.returns-after-verb
returns-after-verb c =
    let read : IsReadTo (LibLinesOf false) c.args.text.now (c.in-Ok.who, own_call c.in-Ok-read_own_call.verb c.in-Ok-read_own_call.number) (c.in-Ok.size + c.in-Ok-read_own_call.more) =
    own_read c.args.text.now c.in-Ok.who c.in-Ok.size c.in-Ok.ensures c.split_at.result.1.now c.split_at.ensures.back c.in-Ok-read_own_call.verb c.in-Ok-read_own_call.number c.in-Ok-read_own_call.more
    c.in-Ok-read_own_call.ensures in
    let same : own_call c.in-Ok-read_own_call.verb c.in-Ok-read_own_call.number ≡ c.match-verb.call =
    elim c.match-verb.branch [
      | in-Load w ↦ cc
      | in-Free w ↦ cc
      | in-FreeOnReturn w ↦ cc
    ] in
    subst (λ (m : LibCall). IsReadTo (LibLinesOf false) c.args.text.now (c.in-Ok.who, m) (c.in-Ok.size + c.in-Ok-read_own_call.more)) same read
