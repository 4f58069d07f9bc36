use Rattle.std.proofs.Common.{rules, ◌≡◌, ◌<◌, ◌^◌, ℕ, List, ◌∷◌, ◌++◌, [], length, ap, sym, subst, arith}
use Rattle.atomic_table.specs.Table.{rest}
use Rattle.tp_model.specs.History.{IsLegal}
use Rattle.turn_lock.proofs.Keeping.{appends}
use Rattle.turn_lock.proofs.Seating.{appends_own, numbered, one_book}
use Rattle.turn_lock.specs.Seats.{mine_of, seen_of, setup_in}
use Rattle.turn_lock.specs.Steps.{history_in_hand}
use Rattle.turn_lock.specs.Views.{entered, recording_of}
use Rattle.turn_lock.proofs.turns.Turn.append.Goals as goal

pub fetch_add-requires : goal.fetch_add-requires
fetch_add-requires g c =
    let B : Type 0 = g.row.B.Denot in
    let seat = c.args.self.now.seat.now in
    let recording = g.B.Recorded.recording in
    let now : B = c.slot_mut.result.now in
    let entry = c.requires.written.1 in
    let w = c.requires.written.2 in
    let same = one_book {B = B} seat.raw.me.1 c.requires.written.0 now w.at_turn.carries c.slot_mut.ensures.value in
    let carried = ap (λ (l : List (ℕ × B)). (0, now) ∷ rest l) w.at_turn.carries in
    let recorded = subst (λ (x : B). recording x ≡ recording_of (setup_in seat) (seen_of seat ++ entry ∷ [])) same w.recorded in
    let short : length (recording now).history < 2 ^ 32 = omega (arith, c.len.ensures.len) in
    (c.requires.of.lock_is, search rules, appends recording _ _ _ seat.number (mine_of seat) entry now _ carried w.at_turn.holds (numbered seat w.at_turn.whole c.requires.numbered) recorded w.who c.len.ensures.legal short)

pub returns-clause-appended : goal.returns-clause-appended
returns-clause-appended g c = λ book entry w.
    let B : Type 0 = g.row.B.Denot in
    let seat = c.args.self.now.seat.now in
    let recording = g.B.Recorded.recording in
    let now : B = c.slot_mut.result.now in
    let raw = c.fetch_add.new.seat in
    let same = one_book {B = B} seat.raw.me.1 book now w.at_turn.carries c.slot_mut.ensures.value in
    let legal = subst (λ (x : B). IsLegal (recording x).limits (recording x).capacity (recording x).history) (sym same) c.len.ensures.legal in
    let told = subst (λ (l : List (ℕ × B)). raw.me ≡ (entered seat.raw.me.0 (history_in_hand recording l), l)) (sym c.slot_mut.ensures.value) c.fetch_add.ensures.2 in
    appends_own recording seat raw book entry c.fetch_add.ensures.0 c.requires.numbered legal told w
