-- What the Begin call and an End come to, each by itself.
use Rattle.std.proofs.Common.{◌≡◌, ℕ, ◌<◌, Bool, true, false, List, [], ◌∷◌, ◌++◌, Some, refl, sym, ap, ◌∙◌, subst, append_assoc, append-nil}
use Rattle.std.specs.Option.{unwrap_or}
use Rattle.std.proofs.lemmas.List.Sums.{fold-append}
use Rattle.tp_base.specs.declared.answers.Answer.{Answer}
use Rattle.tp_base.specs.declared.answers.Answer.TheVariants as answer
use Rattle.tp_base.specs.declared.answers.Entry.{Entry}
use Rattle.tp_base.specs.declared.answers.Outcome.{Outcome}
use Rattle.tp_base.specs.declared.answers.Outcome.TheVariants as outcome
use Rattle.tp_base.specs.declared.calls.Call.{Call}
use Rattle.tp_base.specs.declared.calls.Call.TheVariants.{End}
use Rattle.tp_base.specs.declared.ids.Who.{Who}
use Rattle.tp_base.specs.declared.limits.Limits.{Limits}
use Rattle.tp_model.specs.Conditions.{is_actor}
use Rattle.tp_model.specs.History.{is_refusal, after, IsLegal}
use Rattle.tp_model.specs.Stages.{is_wait_answer, is_wait_outcome, waits_after, waits_from, waits_step, IsActor, MachineFacts}
use Rattle.recorded.specs.Recordings.{room_of}
use Rattle.turn_lock.specs.declared.seats.Seat.{Seat}
use Rattle.turn_lock.specs.Histories.{actor_of, StartsWith}
use Rattle.turn_lock.specs.Seats.{seen_of, mine_of, met_of, setup_in, actor_in, IsIdle, Same}
use Rattle.turn_lock.specs.Views.{recording_of}
use Rattle.turn_lock.proofs.Beginnings.{starts_through}
use Rattle.shared_pool.specs.Calls.{comes_to, entry_of, HasCalled, HasEnded, HasLookedFor, HasMetMore}
use Rattle.shared_pool.specs.Waits.{is_accepted, is_begin, HasStayed, IsInWait, IsUnbegun, IsWaiting}
use Rattle.shared_pool.proofs.Begins.{beginning, IsBeginning}

abbrev pub GivesFacts : Type 0
GivesFacts = (limits : Limits) (capacity : ℕ) (history : List Entry) → IsLegal limits capacity history → MachineFacts limits history

module _ {B : Type 0} where
  pub actor_same : (a b : Seat B) → Same a b → actor_in b ≡ actor_in a
  actor_same a b same = λ i. actor_of (same.setup i).limits (same.number i)

  pub same_through : (a m b : Seat B) → Same a m → Same m b → Same a b
  same_through a m b s t = record { lock = t.lock ∙ s.lock; number = t.number ∙ s.number; setup = t.setup ∙ s.setup }

  -- ---- the Begin call

  pub begun : (call : Call) (told : Outcome) (a m : Seat B) → is_begin call ≡ true
      → ((limits : Limits) (capacity : ℕ) (history : List Entry) → IsLegal limits capacity history → (who : Who) → is_actor (after limits history) who ≡ true → IsActor limits who)
      → HasEnded call told a m → is_accepted told ≡ true → IsWaiting call [] a m
  begun call (outcome.Done x) a m is actors h taken =
      let b : IsBeginning (after (setup_in m).limits h.before) (actor_in m) call (comes_to m h.before call) = beginning (after (setup_in m).limits h.before) (room_of (recording_of (setup_in m) h.before)) (actor_in m) call is in
      let accepted : is_refusal x ≡ false = not_refused x taken in
      let begins : waits_step x call ≡ Some true = b.begins x h.came accepted in
      record {
        same = h.same;
        idle = h.idle;
        in_wait = record {
          actor = actors (setup_in m).limits (setup_in m).capacity h.before h.legal_before (actor_in m) (b.actor x h.came accepted);
          begun = ap (waits_from false) h.mine ∙ (fold-append (λ (s : Bool) (e : Entry). waits_after s e.call e.answer) false (mine_of a) (entry_of m call x ∷ []) ∙ ap (λ o. unwrap_or o (waits_from false (mine_of a))) begins);
        };
        before = h.before;
        since = h.since;
        legal_before = h.legal_before;
        begun = x;
        came = h.came;
        begins = begins;
        accepted = accepted;
        between = [];
        seen = h.seen;
        own_before = h.own_before;
        own_between = refl;
        mine = h.mine;
        laws = h.laws;
      }
    where
      not_refused : (y : Answer) → is_accepted (outcome.Done y) ≡ true → is_refusal y ≡ false
      not_refused (answer.Refused refusal) e = absurd cc
      not_refused _ e = refl
  begun call (outcome.Look look) a m is actors h taken = absurd cc
  begun call (outcome.Full room cost) a m is actors h taken = absurd cc

  pub unbegun : (call : Call) (told : Outcome) (a m : Seat B) → is_begin call ≡ true → HasEnded call told a m → is_accepted told ≡ false → IsUnbegun call told a m
  unbegun call (outcome.Done (answer.Refused refusal)) a m is h off = h
  unbegun call (outcome.Done _) a m is h off = absurd cc
  unbegun call (outcome.Look look) a m is h off =
      absurd ((beginning (after (setup_in m).limits (seen_of m)) (room_of (recording_of (setup_in m) (seen_of m))) (actor_in m) call is).no_look look h.came)
  unbegun call (outcome.Full room cost) a m is h off = h

  -- ---- an End

  pub still_actor : (m b : Seat B) → Same m b → IsActor (setup_in m).limits (actor_in m) → IsActor (setup_in b).limits (actor_in b)
  still_actor m b same actor = subst (λ (p : Limits × Who). IsActor p.0 p.1) (λ i. ((sym same.setup i).limits, sym (actor_same m b same) i)) actor

  pub end_answer : GivesFacts → (x : Answer) (m b : Seat B) → IsInWait m → HasCalled End x m b → is_wait_answer x ≡ true
  end_answer facts x m b w h =
      let f : MachineFacts (setup_in b).limits h.before = facts (setup_in b).limits (setup_in b).capacity h.before h.legal_before in
      sym (ap is_wait_outcome h.came)
      ∙ f.ends (actor_in b) (still_actor m b h.same w.actor) (ap (waits_from false) (sym h.own_before) ∙ w.begun) (room_of (recording_of (setup_in b) h.before))

  pub never_full : GivesFacts → (room cost : ℕ) (m b : Seat B) → 0 < b.number → IsInWait m → HasLookedFor End (outcome.Full room cost) m b → ⊥
  never_full facts room cost m b some_number w h =
      let f : MachineFacts (setup_in b).limits (seen_of b) = facts (setup_in b).limits (setup_in b).capacity (seen_of b) h.idle.whole.informed.legal in
      let ended : false ≡ true =
      sym (ap is_wait_outcome h.came)
      ∙ f.ends (actor_in b) (still_actor m b h.same w.actor) (ap (waits_from false) (sym (h.idle.whole.informed.own_is some_number) ∙ h.mine) ∙ w.begun) (room_of (recording_of (setup_in b) (seen_of b)))
      in cc

  pub stays_itself : (a : Seat B) → IsIdle a → HasStayed a a
  stays_itself a idle = record { same = record { lock = refl; number = refl; setup = refl }; idle = idle; seen = record { rest = []; is = sym (append-nil (seen_of a)) }; mine = refl }

  pub stays_on : (call : Call) (told : Outcome) (a m b : Seat B) → HasStayed a m → HasLookedFor call told m b → HasStayed a b
  stays_on call told a m b s h = record { same = same_through a m b s.same h.same; idle = h.idle; seen = starts_through (seen_of b) (seen_of m) (seen_of a) h.seen s.seen; mine = h.mine ∙ s.mine }

  pub still_in_wait : (a m : Seat B) → HasStayed a m → IsInWait a → IsInWait m
  still_in_wait a m s w = record { actor = still_actor a m s.same w.actor; begun = ap (waits_from false) s.mine ∙ w.begun }

  pub called_since : (call : Call) (x : Answer) (a m b : Seat B) → HasStayed a m → HasCalled call x m b → HasCalled call x a b
  called_since call x a m b s h = record {
    same = same_through a m b s.same h.same;
    idle = h.idle;
    before = h.before;
    since = starts_through h.before (seen_of m) (seen_of a) h.since s.seen;
    legal_before = h.legal_before;
    own_before = sym s.mine ∙ h.own_before;
    came = h.came;
    seen = h.seen;
    mine = h.mine ∙ ap (λ l. l ++ entry_of b call x ∷ []) s.mine;
    laws = h.laws;
    in_range = h.in_range;
  }

  pub met_itself : (a : Seat B) → HasMetMore a a
  met_itself a = record { more = []; is = sym (append-nil (met_of a)) }

  pub met_through : (a m b : Seat B) → HasMetMore a m → HasMetMore m b → HasMetMore a b
  met_through a m b s t = record { more = s.more ++ t.more; is = t.is ∙ (ap (λ l. l ++ t.more) s.is ∙ append_assoc (met_of a) s.more t.more) }
