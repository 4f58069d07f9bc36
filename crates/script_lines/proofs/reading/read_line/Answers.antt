use Rattle.std.proofs.Common.{sym, refl, subst, ◌∙◌, List}
use Rattle.script_lines.specs.Readings.{Goes}
use Rattle.script_lines.specs.Seen.{seen}
use Rattle.script_lines.specs.Texts.{Spot}
use Rattle.script_lines.proofs.reading.read_line.Goals as goal

pub returns : goal.returns
returns c =
    let end = seen c.loop-spot.trail in
    record {
      end = end;
      goes = c.loop-spot.invariant.goes end (subst (λ (spots : List Spot). Goes c.args.known.now end spots end) (sym c.in_default.ensures.words) refl);
      whole = sym c.may_end.ensures ∙ c.if-not-may_end.false;
      line_of = refl;
      name_of = refl;
    }
