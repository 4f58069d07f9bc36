use Rattle.std.proofs.Common.{◌≡◌, ◌-◌, ◌<◌, [], ◌∷◌, ◌++◌, length, get_or, arith, sym, ap, ◌∙◌}
use Rattle.std.proofs.lemmas.List.{get_or-map, length-map, map-append, map-set}
use Rattle.std.specs.Global.{Vec}
use Rattle.port_lines.specs.declared.lines.Line.TheVariants.{Device, Op}
use Rattle.port_lines.specs.declared.lines.Operation.{Operation}
use Rattle.port_lines.specs.Texts.{lines_of, lists_of}
use Rattle.port_lines.proofs.DeviceFacts.{device_added, operation_added}
use Rattle.port_lines.proofs.devices.add_line.Goals as goal

pub returns-in_ok-push-in-Device-clause-lines : goal.returns-in_ok-push-in-Device-clause-lines
returns-in_ok-push-in-Device-clause-lines c =
    let old = c.args.devices.now.items in
    let added : lists_of c.push.new.self.items ≡ lists_of old ++ [] ∷ [] = ap (λ vs. lists_of vs) c.in_ok-push-in-Device.ensures.items
    ∙ map-append (λ (v : Vec Operation). v.items) old (c.new.result ∷ [])
    ∙ ap (λ l. lists_of old ++ l ∷ []) c.new.ensures.items in
    ap (λ ds. lines_of ds) added ∙ device_added (lists_of old) ∙ ap (λ line. lines_of (lists_of old) ++ line ∷ []) (sym c.in-Device.is)

pub returns-in_ok-push-in-Op-clause-lines : goal.returns-in_ok-push-in-Op-clause-lines
returns-in_ok-push-in-Op-clause-lines c =
    let old = c.args.devices.now.items in
    let last = c.len-last.result - 1 in
    let operation = c.in-Op.operation in
    let some : 0 < length old = c.requires.device (λ e. let none : Op operation ≡ Device = sym c.in-Op.is ∙ e in let no_such : ⊥ = cc (none) in no_such) in
    let at : c.index_mut.result.now.items ≡ get_or (lists_of old) last []
    = ap (λ (v : Vec Operation). v.items) c.index_mut.ensures.value
    ∙ sym (get_or-map (λ (v : Vec Operation). v.items) old last c.index_mut.result.now [] (omega (arith, some, c.len-last.ensures))) in
    ap (λ ds. lines_of ds) (map-set (λ (v : Vec Operation). v.items) old last c.push-in-Op.new.self)
    ∙ operation_added (lists_of old) last c.push-in-Op.new.self.items operation
    (omega (arith, some, c.len-last.ensures, length-map old (λ (v : Vec Operation). v.items)))
    (c.in_ok-push-in-Op.ensures.items ∙ ap (λ l. l ++ operation ∷ []) at)
    ∙ ap (λ line. lines_of (lists_of old) ++ line ∷ []) (sym c.in-Op.is)
