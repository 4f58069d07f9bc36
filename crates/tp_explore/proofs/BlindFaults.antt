-- The faults that an entry brings, and what is noted behind it, don't depend on the numbers of callbacks.
use Rattle.std.proofs.Common.{◌≡◌, ℕ, ◌&&◌, ◌||◌, not, Bool, true, false, cond, List, [], ◌∷◌, ◌++◌, map, option_map, refl, ap, ap₂, ◌∙◌, filter, find}
use Rattle.std.specs.List.{list_all, list_any}
use Rattle.std.specs.Option.{option_map_or}
use Rattle.tp_base.specs.declared.answers.Answer.{Answer}
use Rattle.tp_base.specs.declared.answers.Answer.TheVariants as answer
use Rattle.tp_base.specs.declared.calls.Call.{Call}
use Rattle.tp_base.specs.declared.calls.Call.TheVariants.{CompleteIo}
use Rattle.tp_base.specs.declared.ids.Who.{Who}
use Rattle.tp_base.specs.declared.rows.CallbackRow.{CallbackRow}
use Rattle.tp_base.specs.declared.rows.ClientRow.{ClientRow}
use Rattle.tp_base.specs.declared.rows.WaitTarget.{WaitTarget}
use Rattle.tp_base.specs.declared.rows.WaitTarget.TheVariants.{Group, Kernel, Object}
use Rattle.tp_model.specs.Counts.{callback_of, has_number, is_operating, is_pending, is_running}
use Rattle.tp_model.specs.World.{World}
use Rattle.part_places.specs.declared.place.Place.{Place}
use Rattle.part_places.specs.Places.{part_in}
use Rattle.renamed_worlds.specs.Renamed.{renamed_answer, renamed_call, renamed_callback, IsNaming}
use Rattle.renamed_worlds.proofs.Mapped.{any_map, filter_map, find_map, found_map}
use Rattle.renamed_worlds.proofs.Queries.{same_name}
use Rattle.tp_explore.specs.declared.fault.Fault.{Fault}
use Rattle.tp_explore.specs.declared.mark.Deed.{Deed}
use Rattle.tp_explore.specs.declared.noted.Hush.{Hush}
use Rattle.tp_explore.specs.Faults.{answer_faults, behind, deed_faults, fault_if, is_create, is_made, is_run_of, left_fault, left_faults, line_at, mark_faults, notice_deeds, taken_faults}
use Rattle.tp_explore.specs.declared.fault.FaultKind.TheVariants.{NotQuiet, Refused, Stalled}
use Rattle.tp_explore.specs.Noted.{Noted}
use Rattle.tp_explore.specs.Watched.{may_refuse_in, Mark, Watched, Drop, Free, Quiet, Use}

-- a world with the callbacks of another one, but for their numbers
module _ (name : ℕ → ℕ) (naming : IsNaming name) (w v : World) (rows : w.callbacks ≡ map (renamed_callback name) v.callbacks) (clients : w.clients ≡ v.clients) where
  run_same : (target : WaitTarget) (c : CallbackRow) → is_run_of target (renamed_callback name c) ≡ is_run_of target c
  run_same (Object object) c = refl
  run_same (Group group) c = refl
  run_same (Kernel kernel) c = refl

  any_run : (target : WaitTarget) → list_any (is_run_of target) w.callbacks ≡ list_any (is_run_of target) v.callbacks
  any_run target = ap (list_any (is_run_of target)) rows ∙ any_map (renamed_callback name) (is_run_of target) (is_run_of target) (run_same target) v.callbacks

  found : (number : ℕ) → callback_of w (name number) ≡ option_map (renamed_callback name) (callback_of v number)
  found number = ap (find (has_number (name number))) rows ∙ find_map (renamed_callback name) (has_number (name number)) (has_number number) (λ c. same_name name naming c.number number) v.callbacks

  taken_same : (number : ℕ) (hushes : List Hush) → taken_faults w (name number) hushes ≡ taken_faults v number hushes
  taken_same number [] = refl
  taken_same number (hush ∷ hushes) =
      ap₂ (λ (b : Bool) fs. fault_if b NotQuiet hush.line ++ fs)
      (ap (λ o. option_map_or (is_run_of hush.target) o false) (found number) ∙ found_map (renamed_callback name) (is_run_of hush.target) (is_run_of hush.target) (run_same hush.target) (callback_of v number) false)
      (taken_same number hushes)

  mark_same : (noted : Noted) (line : ℕ) (mark : Mark) → mark_faults w noted line mark ≡ mark_faults v noted line mark
  mark_same noted line (Use memory) = refl
  mark_same noted line (Drop memory) = refl
  mark_same noted line (Free memory) = refl
  mark_same noted line (Quiet target) = ap (λ b. fault_if b NotQuiet line) (any_run target)

  pub deeds_same : (noted : Noted) (deeds : List Deed) → deed_faults w noted deeds ≡ deed_faults v noted deeds
  deeds_same noted [] = refl
  deeds_same noted (d ∷ ds) = ap₂ (λ (xs ys : List Fault). xs ++ ys) (mark_same noted d.marked.line d.marked.mark) (deeds_same (behind noted d) ds)

  left_mapped : (lines : List ℕ) (cs : List CallbackRow) → map (left_fault lines) (map (renamed_callback name) cs) ≡ map (left_fault lines) cs
  left_mapped lines [] = refl
  left_mapped lines (c ∷ cs) = ap (λ fs. left_fault lines c ∷ fs) (left_mapped lines cs)

  abbrev left_of : Bool → List CallbackRow → List ℕ → List Fault
  left_of rest cs lines = cond rest (map (left_fault lines) cs) []

  pub left_same : (lines : List ℕ) → left_faults w lines ≡ left_faults v lines
  left_same lines =
      ap₂ (λ rs cs. left_of (list_all (λ (r : ClientRow). r.finished) rs && not (list_any (λ (c : CallbackRow). is_running c.status || is_pending c.status) cs)) (filter (λ (c : CallbackRow). is_operating c.status) cs) lines) clients rows
      ∙ ap₂ (λ (b : Bool) cs. left_of (list_all (λ (r : ClientRow). r.finished) v.clients && not b) cs lines)
      (any_map (renamed_callback name) (λ (c : CallbackRow). is_running c.status || is_pending c.status) (λ (c : CallbackRow). is_running c.status || is_pending c.status) (λ c. refl) v.callbacks)
      (filter_map (renamed_callback name) (λ (c : CallbackRow). is_operating c.status) (λ (c : CallbackRow). is_operating c.status) (λ c. refl) v.callbacks)
      ∙ ap (λ fs. cond (list_all (λ (r : ClientRow). r.finished) v.clients && not (list_any (λ (c : CallbackRow). is_running c.status || is_pending c.status) v.callbacks)) fs []) (left_mapped lines (filter (λ (c : CallbackRow). is_operating c.status) v.callbacks))

  -- an answer brings the same, where the place has the same line and may be refused alike
  pub answers_same : (k : Watched) (noted : Noted) (who : Who) (p q : Place) (told : Answer) → line_at k who p ≡ line_at k who q → may_refuse_in k (part_in p.stage who) p.at.op ≡ may_refuse_in k (part_in q.stage who) q.at.op
      → answer_faults k noted w who p (renamed_answer name told) ≡ answer_faults k noted v who q told
  answers_same k noted who p q (answer.Refused refusal) line may = ap₂ (λ b n. fault_if (not b) (Refused refusal) n) may line
  answers_same k noted who p q answer.Stalled line may = ap (λ n. fault_if true Stalled n) line
  answers_same k noted who p q (answer.Taken callback object routine context result) line may = taken_same callback noted.quiet
  answers_same k noted who p q _ line may = refl

-- ---- the kind of an entry

pub notice_same : (k : Watched) (name : ℕ → ℕ) (who : Who) (told : Answer) → notice_deeds k who (renamed_answer name told) ≡ notice_deeds k who told
notice_same k name who (answer.Notice object routine context cleanup) = refl
notice_same k name who _ = refl

pub create_same : (name : ℕ → ℕ) (made : Call) → is_create (renamed_call name made) ≡ is_create made
create_same name (CompleteIo callback error bytes) = refl
create_same name _ = refl

pub made_same : (name : ℕ → ℕ) (told : Answer) → is_made (renamed_answer name told) ≡ is_made told
made_same name (answer.Made number) = refl
made_same name _ = refl
