use Rattle.std.proofs.Common.{◌≡◌, ◌∙◌, ◌-◌, ap, ap₂, arith, length}
use Rattle.std.specs.Prelude.{map}
use Rattle.std.proofs.lemmas.List.{length-map}
use Rattle.tp_model.specs.Over.{row_of}
use Rattle.tp_report.specs.Summaries.{totals_behind}
use Rattle.tp_report.proofs.NoneLost.{made_counted, none_lost}
use Rattle.tp_report.proofs.Summed.{same_totals}
use Rattle.tp_report.proofs.summary.summarize.Goals as goal

pub returns-in_err-left-clause-none_lost : goal.returns-in_err-left-clause-none_lost
returns-in_err-left-clause-none_lost g c = let r = c.args.book.now in none_lost r.limits r.capacity r.history c.len-entries.ensures.legal

pub overflow_sub-result : goal.overflow_sub-result
overflow_sub-result g c =
    let r = c.args.book.now in
    omega (
      arith,
      c.from.ensures,
      c.observer-counts.ensures.made,
      c.observer-counts.ensures.taken,
      made_counted r.limits r.capacity r.history c.len-entries.ensures.legal,
      none_lost r.limits r.capacity r.history c.len-entries.ensures.legal,
    )

pub overflow_sub-result-2 : goal.overflow_sub-result-2
overflow_sub-result-2 g c =
    let r = c.args.book.now in
    omega (
      arith,
      c.from.ensures,
      c.len.ensures,
      length-map c.in_ok-left.left.items row_of,
      ap length c.in_ok-left.ensures,
      c.observer-counts.ensures.made,
      c.observer-counts.ensures.taken,
      made_counted r.limits r.capacity r.history c.len-entries.ensures.legal,
      none_lost r.limits r.capacity r.history c.len-entries.ensures.legal,
    )

pub returns-clause-ok : goal.returns-clause-ok
returns-clause-ok g c =
    let r = c.args.book.now in
    let told = c.observer-counts.result.now in
    let counted = c.observer-counts.ensures in
    let size : c.len.result ≡ length (map row_of c.in_ok-left.left.items) = omega (arith, c.len.ensures, length-map c.in_ok-left.left.items row_of) in
    same_totals c.len-entries.result told.made told.taken (told.made - c.from.result - c.len.result) (map row_of c.in_ok-left.left.items) told.refused (totals_behind r)
    (none_lost r.limits r.capacity r.history c.len-entries.ensures.legal) c.len-entries.ensures.len (counted.made ∙ made_counted r.limits r.capacity r.history c.len-entries.ensures.legal) counted.taken
    (ap₂ (λ t n. told.made - t - n) c.from.ensures size) c.in_ok-left.ensures counted.refused

pub returns-clause-none_lost : goal.returns-clause-none_lost
returns-clause-none_lost g c = let r = c.args.book.now in none_lost r.limits r.capacity r.history c.len-entries.ensures.legal
