-- What a step tells of the seat, in the words of contracts.
use Rattle.std.proofs.Common.{◌≡◌, ℕ, zero, suc, ◌<◌, List, [], ◌∷◌, ◌++◌, map, get_or, All, refl, sym, ap, ◌∙◌, subst, append-nil, arith}
use Rattle.std.proofs.lemmas.List.Elements.{All-head}
use Rattle.atomic_table.specs.Table.{rest}
use Rattle.atomic_table.specs.declared.shared.Seat.{Seat as Raw}
use Rattle.tp_base.specs.declared.answers.Entry.{Entry}
use Rattle.tp_model.specs.History.{IsLegal}
use Rattle.recorded.specs.Recordings.{Recording}
use Rattle.turn_lock.specs.declared.seats.Seat.{Seat}
use Rattle.turn_lock.specs.declared.views.Part.{Part}
use Rattle.turn_lock.specs.declared.views.Setup.{Setup}
use Rattle.turn_lock.specs.declared.views.View.{View}
use Rattle.turn_lock.specs.Histories.{actor_of, own, StartsWith}
use Rattle.turn_lock.specs.Rule.{IsAnother, Stands}
use Rattle.turn_lock.specs.Seats.{mine_in, mine_of, seen_of, actor_in, parts_of, IsWhole, IsIdle, IsAtTurn, IsInformed, HasLooked, HasEntered, HasMet, HasLeft, IsWritten, HasAppended, IsCopy}
use Rattle.turn_lock.specs.Steps.{Informs, Fronted, Took, Missed, history_in_hand}
use Rattle.turn_lock.proofs.Beginnings.{own_more}
use Rattle.turn_lock.specs.Views.{part, informed, holding, let_go, has_met, entered, copied, taking_in, recording_of}

pub own_of_whole : (setup : Setup) (history : List Entry) (number : ℕ) (parts : List Part) → parts ≡ parts_of number (mine_in parts) → 0 < number → All (Stands setup history) parts → mine_in parts ≡ own (actor_of setup.limits number) history
own_of_whole setup history zero parts whole some_number all = absurd (omega arith)
own_of_whole setup history (suc n) parts whole some_number all =
    let stands = All-head (Stands setup history) (part (suc n) (mine_in parts)) [] (subst (All (Stands setup history)) whole all) in
    stands.mine

pub whole_numbered : (number : ℕ) (parts : List Part) → parts ≡ parts_of number (mine_in parts) → 0 < number → parts ≡ part number (mine_in parts) ∷ []
whole_numbered zero parts whole some_number = absurd (omega arith)
whole_numbered (suc n) parts whole some_number = whole

redone : (number : ℕ) (parts : List Part) (f : ℕ → List Entry) → parts ≡ parts_of number (mine_in parts) → 0 < number → map (λ (p : Part). part p.number (f p.number)) parts ≡ part number (f number) ∷ []
redone zero parts f whole some_number = absurd (omega arith)
redone (suc n) parts f whole some_number = ap (map (λ (p : Part). part p.number (f p.number))) whole

pub whole_part : (number : ℕ) (mine : List Entry) → 0 < number → part number mine ∷ [] ≡ parts_of number mine
whole_part zero mine some_number = absurd (omega arith)
whole_part (suc n) mine some_number = refl

pub one_book : {B : Type 0} (carried : List (ℕ × B)) (book now : B) → carried ≡ (0, book) ∷ [] → carried ≡ (0, now) ∷ rest carried → book ≡ now
one_book {B = B} carried book now is also = ap (λ (l : List (ℕ × B)). (get_or l 0 (0, book)).1) (sym is ∙ also)

module _ {B : Type 0} where
  abbrev seat_with : Seat B → Raw B View → Seat B
  seat_with seat raw = record { number = seat.number; raw = raw }

  pub numbered : (seat : Seat B) → IsWhole seat → 0 < seat.number → seat.raw.me.0.parts ≡ part seat.number (mine_in seat.raw.me.0.parts) ∷ []
  numbered seat whole some_number = whole_numbered seat.number seat.raw.me.0.parts whole.parts some_number

  still_informed : (a : Seat B) (raw : Raw B View) → IsInformed a → raw.me.0.setup ≡ a.raw.me.0.setup → raw.me.0.parts ≡ a.raw.me.0.parts → raw.me.0.seen ≡ a.raw.me.0.seen → IsInformed (seat_with a raw)
  still_informed a raw informed setup same seen = record {
    legal = subst (λ (x : Setup × List Entry). IsLegal x.0.limits x.0.capacity x.1) (λ i. (sym setup i, sym seen i)) informed.legal;
    own_is = λ some_number. ap mine_in same ∙ (informed.own_is some_number ∙ (λ i. own (actor_of (sym setup i).limits a.number) (sym seen i)));
  }

  -- it is whole as long as its parts stay
  still_whole : (a : Seat B) (raw : Raw B View) → IsWhole a → raw.me.0.parts ≡ a.raw.me.0.parts → raw.me.0.spent ≡ a.raw.me.0.spent → IsInformed (seat_with a raw) → IsWhole (seat_with a raw)
  still_whole a raw whole same still informed = record {
    parts = subst (λ (ps : List Part). ps ≡ parts_of a.number (mine_in ps)) (sym same) whole.parts;
    there = still ∙ whole.there;
    informed = informed;
  }

  told : (a : Seat B) (raw : Raw B View) → IsWhole a → raw.me.0.setup ≡ a.raw.me.0.setup → raw.me.0.parts ≡ a.raw.me.0.parts → Informs a.raw.me.0 raw.me.0.seen → IsInformed (seat_with a raw)
  told a raw whole setup same informs = record {
    legal = subst (λ (s : Setup). IsLegal s.limits s.capacity raw.me.0.seen) (sym setup) informs.legal;
    own_is = λ some_number. ap mine_in same ∙ (own_of_whole a.raw.me.0.setup raw.me.0.seen a.number a.raw.me.0.parts whole.parts some_number informs.parts ∙ ap (λ (s : Setup). own (actor_of s.limits a.number) raw.me.0.seen) (sym setup));
  }

  pub looks : (a : Seat B) (raw : Raw B View) (found : ℕ) → raw.table_id ≡ a.raw.table_id → IsIdle a → Fronted a.raw.me found raw.me → HasLooked a (seat_with a raw)
  looks a raw found lock idle f =
      let e : raw.me.0 ≡ informed a.raw.me.0 raw.me.0.seen = λ i. (f.seat i).0 in
      let parts : raw.me.0.parts ≡ a.raw.me.0.parts = ap (λ (v : View). v.parts) e in
      let setup : raw.me.0.setup ≡ a.raw.me.0.setup = ap (λ (v : View). v.setup) e in
      let spent : raw.me.0.spent ≡ a.raw.me.0.spent = ap (λ (v : View). v.spent) e in
      let holds : raw.me.0.holds ≡ a.raw.me.0.holds = ap (λ (v : View). v.holds) e in
      let informs = f.informs in
      record {
        same = record { lock = lock; number = refl; setup = setup };
        idle = record { whole = still_whole a raw idle.whole parts spent (told a raw idle.whole setup parts informs); carries = (λ i. (f.seat i).1) ∙ idle.carries; holds = holds ∙ idle.holds };
        seen = informs.seen;
        mine = ap mine_in parts;
        met = ap (λ (v : View). v.met) e;
      }

  pub enters : (recording : B → Recording) (a : Seat B) (raw : Raw B View) → raw.table_id ≡ a.raw.table_id → IsIdle a → Took recording a.raw.me raw.me → HasEntered recording a (seat_with a raw)
  enters recording a raw lock idle t =
      let e : raw.me.0 ≡ holding (informed a.raw.me.0 raw.me.0.seen) = λ i. (t.seat i).0 in
      let parts : raw.me.0.parts ≡ a.raw.me.0.parts = ap (λ (v : View). v.parts) e in
      let setup : raw.me.0.setup ≡ a.raw.me.0.setup = ap (λ (v : View). v.setup) e in
      let spent : raw.me.0.spent ≡ a.raw.me.0.spent = ap (λ (v : View). v.spent) e in
      let informs = t.informs in
      record {
        same = record { lock = lock; number = refl; setup = setup };
        book = t.book;
        at_turn = record { whole = still_whole a raw idle.whole parts spent (told a raw idle.whole setup parts informs); carries = (λ i. (t.seat i).1) ∙ ap (λ (l : List (ℕ × B)). (0, t.book) ∷ l) idle.carries; holds = ap (λ (v : View). v.holds) e };
        recorded = t.recorded ∙ ap (λ (s : Setup). recording_of s raw.me.0.seen) (sym setup);
        seen = informs.seen;
        mine = ap mine_in parts;
        met = ap (λ (v : View). v.met) e;
      }

  pub meets : (a : Seat B) (raw : Raw B View) (found number : ℕ) → number ≡ a.number → raw.table_id ≡ a.raw.table_id → IsIdle a → Missed number a.raw.me found raw.me → HasMet found a (seat_with a raw)
  meets a raw found number is lock idle m =
      let e : raw.me.0 ≡ has_met a.raw.me.0 found = λ i. (m.seat i).0 in
      let parts : raw.me.0.parts ≡ a.raw.me.0.parts = ap (λ (v : View). v.parts) e in
      let setup : raw.me.0.setup ≡ a.raw.me.0.setup = ap (λ (v : View). v.setup) e in
      let seen : raw.me.0.seen ≡ a.raw.me.0.seen = ap (λ (v : View). v.seen) e in
      record {
        same = record { lock = lock; number = refl; setup = setup };
        idle = record {
          whole = still_whole a raw idle.whole parts (ap (λ (v : View). v.spent) e) (still_informed a raw idle.whole.informed setup parts seen);
          carries = (λ i. (m.seat i).1) ∙ idle.carries;
          holds = ap (λ (v : View). v.holds) e ∙ idle.holds;
        };
        seen = seen;
        mine = ap mine_in parts;
        met = ap (λ (v : View). v.met) e;
        other = subst (λ (n : ℕ). IsAnother a.raw.me.0.setup n found) is m.other;
      }

  pub leaves : (a : Seat B) (raw : Raw B View) (book : B) → raw.table_id ≡ a.raw.table_id → IsAtTurn a book → raw.me ≡ (let_go a.raw.me.0, rest a.raw.me.1) → HasLeft a (seat_with a raw)
  leaves a raw book lock at_turn is =
      let e : raw.me.0 ≡ let_go a.raw.me.0 = λ i. (is i).0 in
      let parts : raw.me.0.parts ≡ a.raw.me.0.parts = ap (λ (v : View). v.parts) e in
      let setup : raw.me.0.setup ≡ a.raw.me.0.setup = ap (λ (v : View). v.setup) e in
      let seen : raw.me.0.seen ≡ a.raw.me.0.seen = ap (λ (v : View). v.seen) e in
      record {
        same = record { lock = lock; number = refl; setup = setup };
        idle = record {
          whole = still_whole a raw at_turn.whole parts (ap (λ (v : View). v.spent) e) (still_informed a raw at_turn.whole.informed setup parts seen);
          carries = (λ i. (is i).1) ∙ ap rest at_turn.carries;
          holds = ap (λ (v : View). v.holds) e;
        };
        seen = seen;
        mine = ap mine_in parts;
        met = ap (λ (v : View). v.met) e;
      }

  pub appends_own : (recording : B → Recording) (a : Seat B) (raw : Raw B View) (book : B) (entry : Entry) → raw.table_id ≡ a.raw.table_id → 0 < a.number
      → IsLegal (recording book).limits (recording book).capacity (recording book).history → raw.me ≡ (entered a.raw.me.0 (history_in_hand recording a.raw.me.1), a.raw.me.1)
      → IsWritten recording a book entry → HasAppended book entry a (seat_with a raw)
  appends_own recording a raw book entry lock some_number legal told w =
      let new : List Entry = seen_of a ++ entry ∷ [] in
      let whole = w.at_turn.whole in
      let v : View = a.raw.me.0 in
      let in_hand : history_in_hand recording a.raw.me.1 ≡ new = ap (history_in_hand recording) w.at_turn.carries ∙ ap (λ (r : Recording). r.history) w.recorded in
      let e : raw.me.0 ≡ entered v new = (λ i. (told i).0) ∙ ap (entered v) in_hand in
      let entries : ℕ → List Entry = λ n. own (actor_of v.setup.limits n) new in
      let parts : raw.me.0.parts ≡ part a.number (entries a.number) ∷ [] = ap (λ (x : View). x.parts) e ∙ redone a.number v.parts entries whole.parts some_number in
      let setup : raw.me.0.setup ≡ v.setup = ap (λ (x : View). x.setup) e in
      let seen : raw.me.0.seen ≡ new = ap (λ (x : View). x.seen) e in
      let mine : mine_in raw.me.0.parts ≡ entries a.number = ap mine_in parts in
      let before : mine_of a ≡ own (actor_in a) (seen_of a) = whole.informed.own_is some_number in
      record {
        same = record { lock = lock; number = refl; setup = setup };
        at_turn = record {
          whole = record {
            parts = parts ∙ (ap (λ (l : List Entry). part a.number l ∷ []) (sym mine) ∙ whole_part a.number (mine_in raw.me.0.parts) some_number);
            there = ap (λ (x : View). x.spent) e ∙ whole.there;
            informed = record {
              legal = subst (λ (r : Recording). IsLegal r.limits r.capacity r.history) (w.recorded ∙ (λ i. recording_of (sym setup i) (sym seen i))) legal;
              own_is = λ _. mine ∙ (λ i. own (actor_of (sym setup i).limits a.number) (sym seen i));
            };
          };
          carries = (λ i. (told i).1) ∙ w.at_turn.carries;
          holds = ap (λ (x : View). x.holds) e ∙ w.at_turn.holds;
        };
        seen = seen;
        mine = mine ∙ (own_more (actor_in a) (seen_of a) entry w.who ∙ ap (λ (l : List Entry). l ++ entry ∷ []) (sym before));
        met = ap (λ (x : View). x.met) e;
      }

  copied_from : (a : Seat B) (raw : Raw B View) → raw.table_id ≡ a.raw.table_id → IsIdle a → raw.me ≡ (copied a.raw.me.0, []) → IsCopy a (record { number = 0; raw = raw })
  copied_from a raw lock idle is =
      let e : raw.me.0 ≡ copied a.raw.me.0 = λ i. (is i).0 in
      let parts : raw.me.0.parts ≡ [] = ap (λ (v : View). v.parts) e in
      let setup : raw.me.0.setup ≡ a.raw.me.0.setup = ap (λ (v : View). v.setup) e in
      let seen : raw.me.0.seen ≡ a.raw.me.0.seen = ap (λ (v : View). v.seen) e in
      record {
        lock = lock;
        setup = setup;
        number = refl;
        idle = record {
          whole = record {
            parts = parts;
            there = ap (λ (v : View). v.spent) e ∙ idle.whole.there;
            informed = record { legal = subst (λ (x : Setup × List Entry). IsLegal x.0.limits x.0.capacity x.1) (λ i. (sym setup i, sym seen i)) idle.whole.informed.legal; own_is = λ some_number. absurd (omega arith) };
          };
          carries = λ i. (is i).1;
          holds = ap (λ (v : View). v.holds) e;
        };
        seen = seen;
        mine = ap mine_in parts;
        met = ap (λ (v : View). v.met) e;
      }

  pub splits_off : (a : Seat B) (left right : Raw B View) → IsIdle a → left.table_id ≡ a.raw.table_id → left.me ≡ (a.raw.me.0, a.raw.me.1) → right.table_id ≡ a.raw.table_id → right.me ≡ (copied a.raw.me.0, []) → IsCopy (seat_with a left) (record { number = 0; raw = right })
  splits_off a left right idle left_of left_is right_of right_is =
      let copy = copied_from a right right_of idle right_is in
      let e : left.me.0 ≡ a.raw.me.0 = λ i. (left_is i).0 in
      record {
        lock = copy.lock ∙ sym left_of;
        setup = copy.setup ∙ ap (λ (v : View). v.setup) (sym e);
        number = copy.number;
        idle = copy.idle;
        seen = copy.seen ∙ ap (λ (v : View). v.seen) (sym e);
        mine = copy.mine;
        met = copy.met;
      }

  -- it takes in a seat of no number, and looks
  pub joins : (a other : Seat B) (joined next : Raw B View) (found : ℕ) → IsIdle a → IsIdle other → other.number ≡ 0 → joined.table_id ≡ a.raw.table_id → joined.me ≡ (taking_in a.raw.me.0 other.raw.me.0, a.raw.me.1) → next.table_id ≡ joined.table_id → Fronted joined.me found next.me
      → HasLooked a (seat_with a next) × StartsWith next.me.0.seen (seen_of other)
  joins a other joined next found idle other_idle nobody joined_of joined_is next_of f =
      let v : View = a.raw.me.0 in
      let w : View = other.raw.me.0 in
      let none_there : w.parts ≡ [] = other_idle.whole.parts ∙ ap (λ (n : ℕ). parts_of n (mine_of other)) nobody in
      let j : joined.me ≡ (record v { told = w.seen }, a.raw.me.1) = joined_is ∙ (λ i. (record v { told = w.seen; parts = (ap (λ (ps : List Part). v.parts ++ ps) none_there ∙ append-nil v.parts) i }, a.raw.me.1)) in
      let between : Seat B = seat_with a joined in
      let e : joined.me.0 ≡ record v { told = w.seen } = λ i. (j i).0 in
      let parts : joined.me.0.parts ≡ v.parts = ap (λ (x : View). x.parts) e in
      let setup : joined.me.0.setup ≡ v.setup = ap (λ (x : View). x.setup) e in
      let seen : joined.me.0.seen ≡ v.seen = ap (λ (x : View). x.seen) e in
      let whole = still_whole a joined idle.whole parts (ap (λ (x : View). x.spent) e) (still_informed a joined idle.whole.informed setup parts seen) in
      let looked = looks between next found next_of (record { whole = whole; carries = (λ i. (j i).1) ∙ idle.carries; holds = ap (λ (x : View). x.holds) e ∙ idle.holds }) f in
      let informs = f.informs in (
        record {
          same = record { lock = looked.same.lock ∙ joined_of; number = refl; setup = looked.same.setup ∙ setup };
          idle = looked.idle;
          seen = subst (StartsWith next.me.0.seen) seen looked.seen;
          mine = looked.mine ∙ ap mine_in parts;
          met = looked.met ∙ ap (λ (x : View). x.met) e;
        },
        subst (StartsWith next.me.0.seen) (ap (λ (x : View). x.told) e) informs.told,
      )
