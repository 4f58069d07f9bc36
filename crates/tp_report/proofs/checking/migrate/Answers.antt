use Rattle.std.proofs.Common.{ℕ, List, ◌++◌, ap, ◌∙◌, inr, refl}
use Rattle.recorded.specs.Recordings.{Recording}
use Rattle.tp_report.proofs.Migrating.{fault_again, judged_again, migrated}
use Rattle.tp_report.proofs.checking.migrate.Goals as goal

pub returns-in_err-written-clause-only : goal.returns-in_err-written-clause-only
returns-in_err-written-clause-only g c = λ header lines h.
    fault_again header lines (λ (r : Recording). r) c.in_err-written.field-0.0 c.from_residual.result c.from_residual.ensures.1 (c.in_err-written.ensures.only header lines h)

pub returns-in_ok-append-clause-only : goal.returns-in_ok-append-clause-only
returns-in_ok-append-clause-only g c = λ header lines h. (c.in_ok-written.ensures.only header lines h).0

pub returns-in_ok-append-clause-text : goal.returns-in_ok-append-clause-text
returns-in_ok-append-clause-text g c = λ header lines h.
    migrated header lines c.in_ok-written.written c.in_ok-written.verdict c.args.out.now.items c.append.new.out.items (c.in_ok-written.ensures.only header lines h)
    (λ len is. c.in_ok-append.ensures.ok ∙ ap (λ t. c.args.out.now.items ++ t) c.in_ok-text.ensures.text)

pub returns-in_ok-append-clause-again : goal.returns-in_ok-append-clause-again
returns-in_ok-append-clause-again g c = λ header lines h.
    judged_again c.args.bytes.now header lines h c.in_ok-written.written c.in_ok-written.verdict (c.in_ok-written.ensures.only header lines h)

pub returns-in_default : goal.returns-in_default
returns-in_default g c =
    record {
      ok = c.in_ok-written.ensures.ok;
      only = λ header lines h. (c.in_ok-written.ensures.only header lines h).0;
      err = tt;
      text = λ header lines h.
          migrated header lines c.in_ok-written.written c.in_ok-written.verdict c.args.out.now.items c.args.out.now.items (c.in_ok-written.ensures.only header lines h)
          (λ len is. absurd (c.in_default.not-Legal len is));
      again = λ header lines h.
          judged_again c.args.bytes.now header lines h c.in_ok-written.written c.in_ok-written.verdict (c.in_ok-written.ensures.only header lines h);
      same = inr (refl {A = List ℕ});
    }
