use Rattle.std.proofs.Common.{◌≡◌, ◌<◌, ◌+◌, length, arith, sym, subst, ◌∙◌}
use Rattle.std.proofs.lemmas.Bool.{eqb-false, eqb-true}
use Rattle.std.proofs.lemmas.List.{length-map}
use Rattle.std.specs.Prelude.{Ok}
use Rattle.std.specs.Global.{Vec}
use Rattle.port_lines.specs.declared.lines.Operation.{Operation}
use Rattle.port_lines.specs.Readings.{EndedLines, IsStuckAt, IsLineRead}
use Rattle.port_lines.specs.Texts.{lists_of}
use Rattle.port_lines.proofs.SoFar.{read_none, read_next, read_fault, read_no, read_only}
use Rattle.port_lines.proofs.devices.read_devices.Goals as goal

pub loop-rest-init : goal.loop-rest-init
loop-rest-init c = rw c.new-devices.ensures.items (read_none c.args.bytes.now)

pub returns-in-Err-clause-only : goal.returns-in-Err-clause-only
returns-in-Err-clause-only c = λ all text.
    let l = c.loop-rest in
    let count : c.len.result ≡ length (lists_of l.devices.items) = omega (arith, c.len.ensures, length-map l.devices.items (λ (v : Vec Operation). v.items)) in
    let some : 0 < length l.rest.now = omega (arith, eqb-false (length l.rest.now) 0 (sym c.is_empty.ensures ∙ c.loop-rest-test.true)) in
    read_no c.args.bytes.now (lists_of l.devices.items) l.operations l.rest.now l.invariant c.in-Err.place some
    (subst (λ n. IsStuckAt (EndedLines n l.operations) l.rest.now c.in-Err.place) count c.in-Err.ensures) all text

pub returns-in-Err-clause-err : goal.returns-in-Err-clause-err
returns-in-Err-clause-err c =
    let l = c.loop-rest in
    let size = length-map l.devices.items (λ (v : Vec Operation). v.items) in
    let count : c.len.result ≡ length (lists_of l.devices.items) = omega (arith, c.len.ensures, size) in
    let some : 0 < length l.rest.now = omega (arith, eqb-false (length l.rest.now) 0 (sym c.is_empty.ensures ∙ c.loop-rest-test.true)) in
    read_fault c.args.bytes.now (lists_of l.devices.items) l.operations l.rest.now l.invariant c.in-Err.place some
    (subst (λ n. IsStuckAt (EndedLines n l.operations) l.rest.now c.in-Err.place) count c.in-Err.ensures)
    (c.len-in-Err.result + l.operations + 1) (c.in-Err.place + 1) (omega (arith, c.len-in-Err.ensures, size)) (omega arith)

pub loop-rest-preserved : goal.loop-rest-preserved
loop-rest-preserved c =
    let l = c.loop-rest in
    let size = length-map l.devices.items (λ (v : Vec Operation). v.items) in
    let count : c.len.result ≡ length (lists_of l.devices.items) = omega (arith, c.len.ensures, size) in
    let new = c.add_line.new.devices.items in
    let added = c.in_ok-add_line-in-Ok.ensures in
    rw c.split_at.ensures.back
    (read_next c.args.bytes.now (lists_of l.devices.items) l.operations l.rest.now l.invariant c.in-Ok.line c.in-Ok.size
    (subst (λ n. IsLineRead n l.operations l.rest.now (Ok (c.in-Ok.line, c.in-Ok.size))) count c.in-Ok.ensures)
    (lists_of new) c.add_line.new.operations added.lines
    (omega (arith, added.count, size, length-map new (λ (v : Vec Operation). v.items))))

pub returns-clause-only : goal.returns-clause-only
returns-clause-only c =
    let l = c.loop-rest in
    let none : length l.rest.now ≡ 0 = eqb-true (length l.rest.now) 0 (sym c.is_empty.ensures ∙ c.loop-rest-test.false) in
    read_only c.args.bytes.now (lists_of l.devices.items) l.operations l.rest.now l.invariant none
