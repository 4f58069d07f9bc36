use Rattle.std.proofs.Common.{rules, ◌≡◌, ◌∙◌, ℕ, List, [], Some, ap, ap₂, map, subst, sym}
use Rattle.std.specs.Prelude.{codes, string_bytes}
use Rattle.clap.specs.Words.{app_of, fault_of, first_of, found_of, is_simple, is_simple_and_free, matches_of, rows_of}
use Rattle.clap.proofs.WalkLemmas.{first_value-rows}
use Rattle.tp_words.specs.Rules.{tpool}
use Rattle.tp_words.specs.Said.{is_true, said}
use Rattle.tp_words.proofs.Faults.{is_fault, is_free, is_plain, parsed, said_by_rows, unless_none, unless_some}
use Rattle.tp_words.proofs.SaidIsRead.{said_is_read, strings_are_texts}
use Rattle.tp_words.proofs.reading.read.Goals as goal

pub returns-in-Ok-clause-ok : goal.returns-in-Ok-clause-ok
returns-in-Ok-clause-ok c =
    let words = c.args.words.now in
    let command_is : app_of c.in_ok-command.command ≡ tpool = c.in_ok-command.ensures in
    let words_are : map string_bytes c.as_slice.result.now ≡ words = c.as_slice.ensures in
    let is_read : parsed words ≡ said words = subst (λ w. parsed w ≡ said w) words_are (said_is_read _ (strings_are_texts c.as_slice.result.now)) in
    let rows : rows_of (found_of c.in-Ok.matches) ≡ matches_of tpool words =
    (c.in-Ok.ensures.matches (ap is_simple command_is ∙ is_plain)).0 ∙ ap₂ matches_of command_is words_are in
    let faults : fault_of tpool words ≡ [] =
    sym (ap₂ fault_of command_is words_are) ∙ c.in-Ok.ensures.kinds (ap is_simple_and_free command_is ∙ is_free) in
    let at = λ (id : List ℕ). first_value-rows (found_of c.in-Ok.matches) id ∙ ap (first_of id) rows in
    let command = c.get_str.ensures ∙ at (codes "command") in
    let number = c.get_str-in-Ok.ensures ∙ at (codes "number") in
    let threads = c.get_str-in-Ok-2.ensures ∙ at (codes "threads") in
    let seed = c.get_str-in-Ok-3.ensures ∙ at (codes "seed") in
    let workers = c.get_str-in-Ok-4.ensures ∙ at (codes "workers") in
    let events = c.get_str-in-Ok-5.ensures ∙ at (codes "events") in
    let states = c.get_str-in-Ok-6.ensures ∙ at (codes "states") in
    let json = c.is_true.ensures ∙ ap is_true (c.get_str-in-Ok-7.ensures ∙ at (codes "json")) in
    let each = c.is_true-in-Ok.ensures ∙ ap is_true (c.get_str-in-Ok-8.ensures ∙ at (codes "each")) in
    sym is_read ∙ (unless_none (fault_of tpool words) (Some (said_by_rows (matches_of tpool words))) faults
    ∙ (λ i. Some (record {
      command = sym command i;
      number = sym number i;
      threads = sym threads i;
      seed = sym seed i;
      workers = sym workers i;
      events = sym events i;
      states = sym states i;
      json = sym json i;
      each = sym each i;
    })))

pub returns : goal.returns
returns c =
    let words = c.args.words.now in
    let command_is : app_of c.in_ok-command.command ≡ tpool = c.in_ok-command.ensures in
    let words_are : map string_bytes c.as_slice.result.now ≡ words = c.as_slice.ensures in
    let is_read : parsed words ≡ said words = subst (λ w. parsed w ≡ said w) words_are (said_is_read _ (strings_are_texts c.as_slice.result.now)) in
    record {
      ok = tt;
      refused = λ _. sym is_read ∙ unless_some (fault_of tpool words) (Some (said_by_rows (matches_of tpool words)))
          (λ none. is_fault _ c.in-Err.error (c.in-Err.ensures.kinds (ap is_simple_and_free command_is ∙ is_free))
          (search rules) (ap₂ fault_of command_is words_are ∙ none));
    }
