use Rattle.std.proofs.Common.{◌≡◌, ◌++◌, true, false, ap, ◌∙◌, sym, subst, map}
use Rattle.recorded.specs.Recordings.{Recording}
use Rattle.tp_explore.specs.Scripts.{watched_but}
use Rattle.tp_explore.specs.Story.{happened_of, told_of, waiting_of}
use Rattle.tp_explore.specs.declared.told.Told.{Told}
use Rattle.tp_model.specs.History.{IsLegal}
use Rattle.tp_report.specs.Histories.{history_told}
use Rattle.order_lines.specs.Explored.{states_line, story_text, IsFirst}
use Rattle.order_lines.proofs.Writing.{bad_written, is_history, no_room_for, none_shorter, some_told, without_room}
use Rattle.order_lines.proofs.explored.write_bad.Goals as goal

pub returns-then-not-branch : goal.returns-then-not-branch
returns-then-not-branch g c = λ most.
    let k = watched_but c.args.passed.now c.args.script.now in
    let text = c.args.text.now in
    let limits = c.args.limits in
    let path = c.args.path.now in
    let short = c.requires.shortest in
    let book = c.in_ok-book in
    let unplayed : c.in_ok-replay.field-0 ≡ false = cc (c.if-not-branch.true) in
    record {
      states = c.args.states;
      deep = c.saturating_sub.result;
      none_so_deep = none_shorter k text limits path short.0 short.1 c.args.states c.saturating_sub.result c.saturating_sub.ensures;
      reason = without_room k text limits path short.0 short.1 most c.saturating_sub.result c.saturating_sub.ensures
          (no_room_for k text limits path short.0 short.1 book.book.limits book.book.capacity c.in_ok-replay.field-0 book.ensures.limits book.ensures.capacity
          (λ order is made roomy legal. (c.in_ok-replay.ensures.whole order is made roomy legal).0) unplayed);
      output_is = c.in_ok-ending.ensures;
    }

pub story_but-requires-clause-legal : goal.story_but-requires-clause-legal
story_but-requires-clause-legal g c =
    let kept = c.in_ok-kept.kept in
    let limits : kept.limits ≡ c.args.limits = ap (λ (r : Recording). r.limits) c.in_ok-kept.ensures.machine ∙ c.in_ok-replay.ensures.machine.limits ∙ c.in_ok-book.ensures.limits in
    (kept.capacity, subst (λ l. IsLegal l kept.capacity c.entries.result.now) limits (subst (λ h. IsLegal kept.limits kept.capacity h) (sym c.entries.ensures.value) c.len-len.ensures.legal))

pub first_fault-fault-requires : goal.first_fault-fault-requires
first_fault-fault-requires g c =
    let k = watched_but c.args.passed.now c.args.script.now in
    let limits = c.args.limits in
    let path = c.args.path.now in
    let short = c.requires.shortest in
    let book = c.in_ok-book in
    let kept : Recording = c.in_ok-kept.kept in
    let played : c.in_ok-replay.field-0 ≡ true = cc (c.if-not-branch.false) in
    let same = ap (λ (r : Recording). r.history) c.in_ok-kept.ensures.machine
    ∙ is_history k c.args.text.now limits path short.0 short.1 book.book.limits _ book.ensures.limits (λ order is made. c.in_ok-replay.ensures.only order is made played) in
    some_told k c.args.text.now limits path short.0 short.1 kept.history c.deref.result.now same
    (c.deref.ensures.value ∙ c.in_ok-story.ensures.told ∙ ap (λ h. told_of k limits h) c.entries.ensures.value)
    (λ b. c.stories_tell_all_faults.ensures k limits b)

pub returns : goal.returns
returns g c = λ most.
    let k = watched_but c.args.passed.now c.args.script.now in
    let text = c.args.text.now in
    let limits = c.args.limits in
    let path = c.args.path.now in
    let short = c.requires.shortest in
    let book = c.in_ok-book in
    let kept : Recording = c.in_ok-kept.kept in
    let story = c.in_ok-story in
    let played : c.in_ok-replay.field-0 ≡ true = cc (c.if-not-branch.false) in
    let same_limits : kept.limits ≡ limits = ap (λ (r : Recording). r.limits) c.in_ok-kept.ensures.machine ∙ c.in_ok-replay.ensures.machine.limits ∙ book.ensures.limits in
    let same_capacity : kept.capacity ≡ 65536 = ap (λ (r : Recording). r.capacity) c.in_ok-kept.ensures.machine ∙ c.in_ok-replay.ensures.machine.capacity ∙ book.ensures.capacity in
    let same = ap (λ (r : Recording). r.history) c.in_ok-kept.ensures.machine
    ∙ is_history k text limits path short.0 short.1 book.book.limits _ book.ensures.limits (λ order is made. c.in_ok-replay.ensures.only order is made played) in
    let told_is : story.story.told.items ≡ told_of k limits kept.history = story.ensures.told ∙ ap (λ h. told_of k limits h) c.entries.ensures.value in
    let first = subst (λ fs. IsFirst c.first_fault-fault.result fs)
    (ap (λ ts. map (λ (t : Told). t.fault) ts) (c.deref.ensures.value ∙ told_is) ∙ c.stories_tell_all_faults.ensures k limits kept.history)
    c.first_fault-fault.ensures in
    bad_written k text limits path short.0 short.1 c.args.states c.first_fault-fault.result kept c.append_states.new.text.items same_limits same_capacity same c.len-len.ensures.legal
    (c.legal_keeps_laws.ensures.laws kept.limits kept.capacity kept.history c.len-len.ensures.legal)
    first
    (c.in_ok-append_states.ensures
    ∙ ap (λ t. t ++ states_line c.args.states)
    (c.in_ok-append_story.ensures
    ∙ ap (λ h. h ++ story_text text story.story.told.items story.story.waiting.items story.story.happened.items) (c.in_ok-kept.ensures.text ∙ ap history_told (sym c.in_ok-kept.ensures.machine))
    ∙ ap (λ ts. history_told kept ++ story_text text ts story.story.waiting.items story.story.happened.items) told_is
    ∙ ap (λ ws. history_told kept ++ story_text text (told_of k limits kept.history) ws story.story.happened.items) (story.ensures.waiting ∙ ap (λ h. waiting_of k limits h) c.entries.ensures.value)
    ∙ ap (λ hs. history_told kept ++ story_text text (told_of k limits kept.history) (waiting_of k limits kept.history) hs) (story.ensures.happened ∙ ap (λ h. happened_of k limits h) c.entries.ensures.value)))
