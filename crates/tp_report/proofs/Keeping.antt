-- How what is noted of a history goes on with an entry.
use Rattle.std.proofs.Common.{◌≡◌, ℕ, ◌+◌, ◌≤◌, List, [], ◌∷◌, ◌++◌, ap, sym, ◌∙◌, arith, length-append}
use Rattle.std.specs.Prelude.{decimal}
use Rattle.std.proofs.lemmas.List.Sums.{fold-append}
use Rattle.kept_book.specs.Observed.{HasPlace, with_entry}
use Rattle.line_grammar.specs.Traces.{trace_text}
use Rattle.recorded.specs.Recordings.{Recording}
use Rattle.tp_base.specs.declared.answers.Entry.{Entry}
use Rattle.tp_lines.specs.Answers.{line_of_entry}
use Rattle.tp_lines.specs.Reserved.{Reserved}
use Rattle.tp_report.specs.Histories.{header_of, line_of, lines_of, timed}
use Rattle.tp_report.specs.Moments.{moment_after}
use Rattle.tp_report.specs.Writing.{IsWritten}
use Rattle.tp_report.specs.declared.headers.Header.{Header}
use Rattle.tp_report.proofs.Telling.{at, line_at, line_next, lines_last}

module _ (r : Recording) (lines : Reserved) (now : ℕ) (written : IsWritten r lines now) where
  pub has_memory : HasPlace r → 1 ≤ lines.room
  has_memory place = omega (arith, place.below, written.room)

  pub written_next : (entry : Entry) (then : ℕ) (more : Reserved) → then ≡ moment_after now entry
      → more.text ≡ lines.text ++ (decimal then ++ (32 ∷ line_of_entry entry ++ 10 ∷ [])) → lines.room ≤ more.room + 1 → IsWritten (with_entry r entry) more then
  written_next entry then more clock text room =
      let header : Header = header_of r.limits r.capacity in
      let before : List (List ℕ) = lines_of header (timed r.history) in
      let is = clock ∙ ap (λ n. moment_after n entry) written.clock in
      record {
        text = line_next before (line_of (at then entry)) lines.text more.text written.text (text ∙ ap (λ t. lines.text ++ t) (line_at then entry))
            ∙ ap (λ n. trace_text (before ++ line_of (at n entry) ∷ [])) is ∙ ap trace_text (sym (lines_last header r.history entry));
        room = omega (arith, written.room, room, length-append r.history (entry ∷ []));
        clock = is ∙ sym (fold-append moment_after 0 r.history (entry ∷ []));
      }
