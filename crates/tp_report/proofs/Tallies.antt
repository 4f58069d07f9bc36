-- What is counted while the entries of a history come.
use Rattle.std.proofs.Common.{◌≡◌, ℕ, ◌+◌, ◌≤◌, Bool, true, false, cond, List, [], ◌∷◌, ◌++◌, length, sym, ap, ◌∙◌, arith, filter, length-append}
use Rattle.std.specs.Prelude.{◌||◌}
use Rattle.std.specs.List.{list_any, range_with_len}
use Rattle.std.proofs.lemmas.Grind.{flat_map-append}
use Rattle.std.proofs.lemmas.List.{append-nil}
use Rattle.std.proofs.lemmas.List.Folds.{list_any-append}
use Rattle.std.proofs.lemmas.List.FromFn.{length-range_with_len}
use Rattle.tp_base.specs.declared.answers.Entry.{Entry}
use Rattle.tp_model.specs.Laws.Entries.{is_taken, made_by, numbers_made}
use Rattle.tp_model.proofs.Arming.{count_last}
use Rattle.tp_model.proofs.Refusals.{or_false}
use Rattle.tp_report.specs.Counting.{AreCounts, IsCounted, one_if}
use Rattle.tp_report.specs.EarlyEnds.{has_early_end, is_early_end}
use Rattle.tp_report.specs.Summaries.{is_refused}
use Rattle.tp_report.specs.declared.counts.Counts.{Counts}
use Rattle.tp_report.specs.declared.counts.EarlyEnd.{EarlyEnd}
use Rattle.tp_report.specs.declared.counts.EarlyEnd.TheVariants as early

pub range_length : (first count : ℕ) → length (range_with_len first count) ≡ count
range_length first count = length-range_with_len first count

filter_few : {X : Type 0} (p : X → Bool) (xs : List X) → length (filter p xs) ≤ length xs
filter_few p [] = omega arith
filter_few p (x ∷ xs) =
    elim (p x) as (λ b. length (cond b (x ∷ filter p xs) (filter p xs)) ≤ length (x ∷ xs)) [
      | true ↦ omega (arith, filter_few p xs)
      | false ↦ omega (arith, filter_few p xs)
    ]

list_any_last : {X : Type 0} (p : X → Bool) (xs : List X) (x : X) → list_any p (xs ++ x ∷ []) ≡ (list_any p xs || p x)
list_any_last p xs x = list_any-append p xs (x ∷ []) ∙ ap (λ b. list_any p xs || b) (or_false (p x))

module _ (entries : List Entry) (counts : Counts) (a : AreCounts entries counts) where
  pub few_taken : counts.taken ≤ length entries
  few_taken = omega (arith, a.taken, filter_few is_taken entries)

  pub few_refused : counts.refused ≤ length entries
  few_refused = omega (arith, a.refused, filter_few is_refused entries)

  pub counts_next : (entry : Entry) (more : Counts) → IsCounted counts entry more → AreCounts (entries ++ entry ∷ []) more
  counts_next entry more counted =
      let longer : length (entries ++ entry ∷ []) ≡ length entries + 1 = length-append entries (entry ∷ []) in
      let made : length (numbers_made (entries ++ entry ∷ [])) ≡ length (numbers_made entries) + length (made_by entry)
      = ap length (flat_map-append made_by entries (entry ∷ []))
      ∙ length-append (numbers_made entries) (made_by entry ++ []) ∙ ap (λ n. length (numbers_made entries) + length n) (append-nil (made_by entry)) in
      let ended : (which : EarlyEnd) (before after : Bool) → before ≡ has_early_end which entries → after ≡ (before || is_early_end which entry) → after ≡ has_early_end which (entries ++ entry ∷ [])
      = λ which before after was is. is ∙ ap (λ b. b || is_early_end which entry) was ∙ sym (list_any_last (is_early_end which) entries entry) in
      record {
        made = omega (arith, counted.made, a.made, made);
        taken = counted.taken ∙ ap (λ n. n + one_if (is_taken entry)) a.taken ∙ sym (count_last is_taken entries entry);
        refused = counted.refused ∙ ap (λ n. n + one_if (is_refused entry)) a.refused ∙ sym (count_last is_refused entries entry);
        exhausted = ended early.Exhausted _ _ a.exhausted counted.exhausted;
        stalled = ended early.Stalled _ _ a.stalled counted.stalled;
        few = omega (arith, counted.few, a.few, longer);
      }
