-- Every script passes on the numbers of operations as they are: the call that completes one has its number, and nothing else
-- is read of it.
use Rattle.std.proofs.Common.{◌≡◌, ℕ, zero, suc, ◌+◌, ◌-◌, ◌&&◌, Bool, true, false, cond, nat_eq, nat_le, nat_lt, List, [], ◌∷◌, map, slice_index, slice_set, Option, None, Some, option_map, option_and_then, refl, sym, ap, ap₂, ◌∙◌}
use Rattle.std.proofs.lemmas.List.{map-set}
use Rattle.script_lines.specs.declared.line.Condition.{Condition}
use Rattle.script_lines.specs.declared.line.Condition.TheVariants.{Always, If, Unless}
use Rattle.script_lines.specs.declared.line.Line.{Line}
use Rattle.script_lines.specs.declared.words.Word.{Word}
use Rattle.script_lines.specs.declared.words.Word.TheVariants as word
use Rattle.tp_base.specs.declared.answers.Answer.{Answer}
use Rattle.tp_base.specs.declared.answers.Answer.TheVariants as answer
use Rattle.tp_base.specs.declared.calls.Call.{Call}
use Rattle.tp_base.specs.declared.calls.Call.TheVariants as call
use Rattle.tp_script.specs.Calls.{begins_wait, call_by, call_of, calls_in, is_met, local_number, maximum_of, poll_by, small_of}
use Rattle.tp_script.specs.declared.routines.Progress.{Progress}
use Rattle.tp_script.specs.Nexts.{after_at, call_at, is_end, is_refusal, line_after, line_at, made_in, noted_by, operation_in, polled, polls, stepped, waited, with_local}
use Rattle.tp_script.specs.Parsed.{Parsed}
use Rattle.renamed_worlds.specs.Renamed.{renamed_answer, renamed_call}
use Rattle.tp_explore.specs.Closing.{named_progress, AgreeOn, IsBlind}
use Rattle.tp_explore.specs.declared.fault.Fault.{Fault}
use Rattle.tp_explore.specs.Scripts.{watched_but}

-- ---- calls

pool_named : (name : ℕ → ℕ) (first second : Bool) (a b : Call) → renamed_call name a ≡ a → renamed_call name b ≡ b
    → ◌≡◌ {A = Option Call} (Some (cond first call.CreatePool (cond second a b))) (Some (renamed_call name (cond first call.CreatePool (cond second a b))))
pool_named name true second a b is_a is_b = refl
pool_named name false true a b is_a is_b = ap Some (sym is_a)
pool_named name false false a b is_a is_b = ap Some (sym is_b)

poll_named : (name : ℕ → ℕ) (condition : Condition) → poll_by condition ≡ option_map (renamed_call name) (poll_by condition)
poll_named name Always = refl
poll_named name (If kernel) = refl
poll_named name (Unless kernel) = refl

module _ (name : ℕ → ℕ) (none : name 0 ≡ 0) where
  index_named : (numbers : List ℕ) (place : ℕ) → slice_index (map name numbers) place ≡ name (slice_index numbers place)
  index_named [] place = sym none
  index_named (n ∷ ns) zero = refl
  index_named (n ∷ ns) (suc place) = index_named ns place

  local_named : (number : ℕ) (numbers : List ℕ) → local_number number (map name numbers) ≡ name (local_number number numbers)
  local_named number numbers = within (nat_le 1 number && nat_le number 32)
    where
      within : (b : Bool) → cond b (slice_index (map name numbers) (number - 1)) 0 ≡ name (cond b (slice_index numbers (number - 1)) 0)
      within true = index_named numbers (number - 1)
      within false = sym none

  call_named : (line : Line) (at : Progress) (head : Word) → call_by line (named_progress name at) head ≡ option_map (renamed_call name) (call_by line at head)
  call_named line at word.Pool = pool_named name (nat_eq at.done 0) (nat_eq at.done 1 && line.maximum) (call.SetMaximum (record { 0 = line.made }) (maximum_of line)) (call.SetMinimum (record { 0 = line.made }) (small_of line.number)) refl refl
  call_named line at word.CompleteIo = ap (λ callback. Some (call.CompleteIo callback (small_of line.before) line.number)) (local_named line.object.number at.operations)
  call_named line at _ = refl

  line_named : (line : Line) (at : Progress) → call_at line (named_progress name at) ≡ option_map (renamed_call name) (call_at line at)
  line_named line at = of_poll (polls line at) at.ending
    where
      of_poll : (asks ending : Bool) → cond asks (poll_by line.condition) (cond ending (Some call.End) (call_of line (named_progress name at)))
          ≡ option_map (renamed_call name) (cond asks (poll_by line.condition) (cond ending (Some call.End) (call_of line at)))
      of_poll true ending = poll_named name line.condition
      of_poll false true = refl
      of_poll false false = call_named line at line.head

  next_named : (at : Progress) (o : Option Line) → option_and_then (λ line. call_at line (named_progress name at)) o ≡ option_map (renamed_call name) (option_and_then (λ line. call_at line at) o)
  next_named at None = refl
  next_named at (Some line) = line_named line at

-- ---- answers

module _ (other : ℕ → ℕ) where
  met_same : (condition : Condition) (told : Answer) → is_met condition (renamed_answer other told) ≡ is_met condition told
  met_same Always told = refl
  met_same (If kernel) (answer.Flag taken) = refl
  met_same (If kernel) _ = refl
  met_same (Unless kernel) (answer.Flag taken) = refl
  met_same (Unless kernel) _ = refl

  end_same : (told : Answer) → is_end (renamed_answer other told) ≡ is_end told
  end_same answer.Ended = refl
  end_same _ = refl

  refusal_same : (told : Answer) → is_refusal (renamed_answer other told) ≡ is_refusal told
  refusal_same (answer.Refused refusal) = refl
  refusal_same _ = refl

  made_same : (told : Answer) → made_in (renamed_answer other told) ≡ made_in told
  made_same (answer.Made number) = refl
  made_same _ = refl

module _ (name other : ℕ → ℕ) (none : name 0 ≡ 0) where
  operation_named : (told : Answer) → AgreeOn name other told → operation_in (renamed_answer other told) ≡ name (operation_in told)
  operation_named (answer.Operation callback) agree = agree
  operation_named _ agree = sym none

  with_named : (numbers : List ℕ) (made number : ℕ) → with_local (map name numbers) made (name number) ≡ map name (with_local numbers made number)
  with_named numbers made number = within (nat_le 1 made && nat_le made 32)
    where
      within : (b : Bool) → cond b (slice_set (map name numbers) (made - 1) (name number)) (map name numbers) ≡ map name (cond b (slice_set numbers (made - 1) number) numbers)
      within true = sym (map-set name numbers (made - 1) number)
      within false = refl

  stepped_named : (calls : ℕ) (at : Progress) → stepped calls (named_progress name at) ≡ named_progress name (stepped calls at)
  stepped_named calls at = within (nat_lt (at.done + 1) calls)
    where
      within : (b : Bool) → cond b (record (named_progress name at) { done = at.done + 1; met = false }) (record (named_progress name at) { op = at.op + 1; done = 0; met = false })
          ≡ named_progress name (cond b (record at { done = at.done + 1; met = false }) (record at { op = at.op + 1; done = 0; met = false }))
      within true = refl
      within false = refl

  module _ (at : Progress) (told : Answer) where
    polled_named : (line : Line) → polled line (named_progress name at) (renamed_answer other told) ≡ named_progress name (polled line at told)
    polled_named line = ap (λ b. cond b (record (named_progress name at) { met = true }) (stepped (calls_in line) (named_progress name at))) (met_same other line.condition told) ∙ of_met (is_met line.condition told)
      where
        of_met : (b : Bool) → cond b (record (named_progress name at) { met = true }) (stepped (calls_in line) (named_progress name at)) ≡ named_progress name (cond b (record at { met = true }) (stepped (calls_in line) at))
        of_met true = refl
        of_met false = stepped_named (calls_in line) at

    waited_named : (calls : ℕ) → waited calls (named_progress name at) (renamed_answer other told) ≡ named_progress name (waited calls at told)
    waited_named calls =
        ap₂ (λ e r. cond at.ending (cond e (stepped calls (record (named_progress name at) { ending = false })) (named_progress name at)) (cond r (stepped calls (named_progress name at)) (record (named_progress name at) { ending = true }))) (end_same other told) (refusal_same other told)
        ∙ of_wait at.ending (is_end told) (is_refusal told)
      where
        of_wait : (ending ends refused : Bool)
            → cond ending (cond ends (stepped calls (record (named_progress name at) { ending = false })) (named_progress name at)) (cond refused (stepped calls (named_progress name at)) (record (named_progress name at) { ending = true }))
            ≡ named_progress name (cond ending (cond ends (stepped calls (record at { ending = false })) at) (cond refused (stepped calls at) (record at { ending = true })))
        of_wait true true refused = stepped_named calls (record at { ending = false })
        of_wait true false refused = refl
        of_wait false ends true = stepped_named calls at
        of_wait false ends false = refl

    noted_named : AgreeOn name other told → (made : ℕ) (head : Word) → noted_by made (named_progress name at) (renamed_answer other told) head ≡ named_progress name (noted_by made at told head)
    noted_named agree made word.Let = ap (λ (n : ℕ). record (named_progress name at) { locals = with_local at.locals made n }) (made_same other told)
    noted_named agree made word.IssueIo =
        ap (λ (numbers : List ℕ). record at { operations = numbers })
        (ap (with_local (map name at.operations) made) (operation_named told agree) ∙ with_named at.operations made (operation_in told))
    noted_named agree made _ = refl

    line_told : AgreeOn name other told → (line : Line) → line_after line (named_progress name at) (renamed_answer other told) ≡ named_progress name (line_after line at told)
    line_told agree line = of_poll (polls line at) (begins_wait line.head)
      where
        of_poll : (asks begins : Bool)
            → cond asks (polled line (named_progress name at) (renamed_answer other told)) (cond begins (waited (calls_in line) (named_progress name at) (renamed_answer other told)) (stepped (calls_in line) (noted_by line.made (named_progress name at) (renamed_answer other told) line.head)))
            ≡ named_progress name (cond asks (polled line at told) (cond begins (waited (calls_in line) at told) (stepped (calls_in line) (noted_by line.made at told line.head))))
        of_poll true begins = polled_named line
        of_poll false true = waited_named (calls_in line)
        of_poll false false = ap (stepped (calls_in line)) (noted_named agree line.made line.head) ∙ stepped_named (calls_in line) (noted_by line.made at told line.head)

    after_told : AgreeOn name other told → (o : Option Line) → after_at o (named_progress name at) (renamed_answer other told) ≡ named_progress name (after_at o at told)
    after_told agree None = refl
    after_told agree (Some line) = line_told agree line

pub scripts_blind : (passed : List Fault) (script : Parsed) → IsBlind (watched_but passed script)
scripts_blind passed script = record {
  next = λ name none part at. next_named name none at (line_at script.lines part at.op);
  after = λ name other none part at told agree. after_told name other none at told agree (line_at script.lines part at.op);
  marks = λ name none part at. refl;
}
