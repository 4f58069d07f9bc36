use Rattle.std.proofs.Common.{ℕ, List, [], refl, sym, subst, ◌∙◌, arith}
use Rattle.std.proofs.lemmas.List.{append-nil}
use Rattle.tp_script.specs.declared.numbered.NumberedLine.{NumberedLine}
use Rattle.script_lines.specs.Texts.{lines_of}
use Rattle.tp_script.specs.Scripts.{Faults, Reads, first_known}
use Rattle.tp_script.proofs.Parsing.{one_more_fault, one_text}
use Rattle.tp_script.proofs.parse.read_lines.Goals as goal

pub loop-text-preserved : goal.loop-text-preserved
loop-text-preserved c =
    let all = lines_of c.args.bytes.now in
    let known = c.loop-text.known in
    let text = c.in-Some.text.now in
    let texts = lines_of c.in-Some.behind.now in
    let behind = c.in-Some.ensures.lines in
    record {
      reads = one_text (first_known all) known c.add_line.new.known all texts text c.loop-text.number c.loop-text.rows.items c.add_line.new.rows.items c.in-Ok-add_line.ensures.ok
          (λ rest end reads. c.loop-text.invariant.reads rest end (subst (λ (ts : List (List ℕ)). Reads known c.loop-text.number ts rest end) (sym behind) reads));
      faults = one_more_fault (first_known all) known c.add_line.new.known all texts text c.loop-text.number c.loop-text.rows.items c.add_line.new.rows.items c.in-Ok-add_line.ensures.ok
          (λ line column kind faults. c.loop-text.invariant.faults line column kind (subst (λ (ts : List (List ℕ)). Faults known c.loop-text.number ts line column kind) (sym behind) faults));
      fits = omega (arith, c.in-Some.ensures.shorter);
      few = omega (arith, c.in-Some.ensures.shorter, c.in-Ok-add_line.ensures.few);
    }

pub returns-clause-place : goal.returns-clause-place
returns-clause-place c =
    let all = lines_of c.args.bytes.now in
    let known = c.loop-text.known in
    record {
      end = known;
      reads = subst (λ (rows : List NumberedLine). Reads (first_known all) 1 all rows known) (append-nil c.loop-text.rows.items)
          (c.loop-text.invariant.reads [] known (subst (λ (ts : List (List ℕ)). Reads known c.loop-text.number ts [] known) (sym c.in_default-next_line.ensures.lines) (refl, refl)));
      closed = sym c.is_inside.ensures ∙ c.if-is_inside.false;
    }
