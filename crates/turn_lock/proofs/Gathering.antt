-- All seats of a lock, made one.
use Rattle.std.proofs.Common.{◌≡◌, ℕ, ◌<◌, ◌≤◌, false, List, [], ◌∷◌, ◌++◌, All, Any, Contains, Some, refl, sym, ap, ◌∙◌, subst, append_assoc, append-nil, arith}
use Rattle.std.proofs.lemmas.List.Elements.{All-nil, All-cons, All-pop, All-weaker, All-contains, Contains-append_left, Contains-append_right}
use mathlib.Core.Option.{some, some-injective}
use lib.ListN.{get_elem?}
use Rattle.atomic_table.specs.Table.{State, Final, Seen}
use Rattle.atomic_table.specs.declared.shared.Seat.{Seat as Raw}
use Rattle.tp_base.specs.declared.answers.Entry.{Entry}
use Rattle.recorded.specs.Recordings.{Recording}
use Rattle.turn_lock.specs.declared.locks.TurnLock.{TurnLock}
use Rattle.turn_lock.specs.declared.seats.Seat.{Seat}
use Rattle.turn_lock.specs.declared.views.Part.{Part}
use Rattle.turn_lock.specs.declared.views.Setup.{Setup}
use Rattle.turn_lock.specs.declared.views.View.{View}
use Rattle.turn_lock.specs.Histories.{actor_of, own, StartsWith}
use Rattle.turn_lock.specs.Locks.{name_of, setup_of, IsOf}
use Rattle.turn_lock.specs.Rule.{Ruled, Stands, IsSeated}
use Rattle.turn_lock.specs.Seats.{setup_in, seen_of, mine_of, IsGathered, IsIdle, IsLast, IsWhole}
use Rattle.turn_lock.specs.Steps.{Informs, Fronted}
use Rattle.turn_lock.specs.Views.{part, informed, taking_in, HasNumber, recording_of}
use Rattle.turn_lock.proofs.Beginnings.{starts_itself, starts_through}
use Rattle.turn_lock.proofs.Keeping.{comes_home}
use Rattle.turn_lock.proofs.Numbering.{has_at}
use Rattle.turn_lock.proofs.Seating.{numbered}

-- so many have been taken in
pub record Gathering {B : Type 0} (lock : TurnLock B) (raw : Raw B View) (first : Seat B) (all left : List (Seat B)) : Type 0 where
  pub gathered : List (Seat B)
  pub is : all ≡ left ++ gathered
  pub of : raw.table_id ≡ name_of lock
  pub holds : raw.me.0.holds ≡ false
  pub there : raw.me.0.spent ≡ false
  pub setup_is : raw.me.0.setup ≡ setup_of lock
  pub first_in : IsGathered raw first
  pub others_in : All (IsGathered raw) gathered
  pub left_of : All (IsOf lock) left
  pub left_idle : All IsIdle left

has_part : (parts : List Part) (p : Part) → Contains parts p → HasNumber p.number parts
has_part parts p c = subst (λ (x : Part). HasNumber x.number parts) c.2 (has_at parts c.0 p c.1)

module _ {B : Type 0} where
  its_part : (seat : Seat B) → IsWhole seat → 0 < seat.number → Contains seat.raw.me.0.parts (part seat.number (mine_of seat))
  its_part seat whole some_number = subst (λ (ps : List Part). Contains ps (part seat.number (mine_of seat))) (sym (numbered seat whole some_number)) (0, omega arith, refl)

  pub gathers_first : (lock : TurnLock B) (first : Seat B) (all : List (Seat B)) → IsOf lock first → All (IsOf lock) all → IsIdle first → All IsIdle all → Gathering lock first.raw first all all
  gathers_first lock first all of others_of idle others_idle = record {
    gathered = [];
    is = sym (append-nil all);
    of = of.lock_is;
    holds = idle.holds;
    there = idle.whole.there;
    setup_is = of.setup_is;
    first_in = record { setup = refl; seen = starts_itself (seen_of first); part_there = its_part first idle.whole };
    others_in = All-nil (IsGathered first.raw);
    left_of = others_of;
    left_idle = others_idle;
  }

  gathered_on : (raw next : Raw B View) (more : List Part) (seat : Seat B) → next.me.0.setup ≡ raw.me.0.setup → StartsWith next.me.0.seen raw.me.0.seen → next.me.0.parts ≡ raw.me.0.parts ++ more → IsGathered raw seat → IsGathered next seat
  gathered_on raw next more seat setup seen parts g = record {
    setup = g.setup ∙ sym setup;
    seen = starts_through next.me.0.seen raw.me.0.seen (seen_of seat) seen g.seen;
    part_there = λ some_number. subst (λ (ps : List Part). Contains ps (part seat.number (mine_of seat))) (sym parts) (Contains-append_left raw.me.0.parts more (part seat.number (mine_of seat)) (g.part_there some_number));
  }

  -- the last of those that are left is taken in, and the history is looked at
  pub gathers_next : (lock : TurnLock B) (raw joined next : Raw B View) (found : ℕ) (first other : Seat B) (all left after : List (Seat B)) → Gathering lock raw first all left → left ≡ after ++ other ∷ [] → joined.table_id ≡ raw.table_id → joined.me ≡ (taking_in raw.me.0 other.raw.me.0, raw.me.1)
      → next.table_id ≡ joined.table_id → Fronted joined.me found next.me → Gathering lock next first all after
  gathers_next lock raw joined next found first other all left after g left_is joined_of joined_is next_of f =
      let v : View = raw.me.0 in
      let w : View = other.raw.me.0 in
      let j : joined.me.0 ≡ taking_in v w = ap (λ (m : View × List (ℕ × B)). m.0) joined_is in
      let informs = subst (λ (x : View). Informs x next.me.0.seen) j f.informs in
      let e : next.me.0 ≡ informed (taking_in v w) next.me.0.seen = (λ i. (f.seat i).0) ∙ ap (λ (x : View). informed x next.me.0.seen) j in
      let parts : next.me.0.parts ≡ v.parts ++ w.parts = ap (λ (x : View). x.parts) e in
      let setup : next.me.0.setup ≡ v.setup = ap (λ (x : View). x.setup) e in
      let pop_of = All-pop (IsOf lock) left after (Some other) left_is g.left_of in
      let pop_idle = All-pop IsIdle left after (Some other) left_is g.left_idle in
      let of : IsOf lock other = pop_of.1 in
      let idle : IsIdle other = pop_idle.1 in
      let on : (seat : Seat B) → IsGathered raw seat → IsGathered next seat = λ seat. gathered_on raw next w.parts seat setup informs.seen parts in
      record {
        gathered = other ∷ g.gathered;
        is = g.is ∙ (ap (λ (l : List (Seat B)). l ++ g.gathered) left_is ∙ append_assoc after (other ∷ []) g.gathered);
        of = next_of ∙ (joined_of ∙ g.of);
        holds = ap (λ (x : View). x.holds) e ∙ g.holds;
        there = ap (λ (x : View). x.spent) e ∙ g.there;
        setup_is = setup ∙ g.setup_is;
        first_in = on first g.first_in;
        others_in = All-cons (IsGathered next) other g.gathered
            (record {
              setup = of.setup_is ∙ (sym g.setup_is ∙ sym setup);
              seen = informs.told;
              part_there = λ some_number. subst (λ (ps : List Part). Contains ps (part other.number (mine_of other))) (sym parts) (Contains-append_right v.parts w.parts (part other.number (mine_of other)) (its_part other idle.whole some_number));
            })
            (All-weaker (IsGathered raw) (IsGathered next) on g.gathered g.others_in);
        left_of = pop_of.0;
        left_idle = pop_idle.0;
      }

  has_all : (raw : Raw B View) (seats : List (Seat B)) (n : ℕ) → All (IsGathered raw) seats → 1 ≤ n → Any (λ (seat : Seat B). seat.number ≡ n) seats → HasNumber n raw.me.0.parts
  has_all raw seats n all least a =
      let seat : Seat B = a.1 in
      let is : seat.number ≡ n = a.4 in
      let g = All-contains (IsGathered raw) seats seat all (a.0, a.2, a.3) in
      subst (λ (k : ℕ). HasNumber k raw.me.0.parts) is (has_part raw.me.0.parts (part seat.number (mine_of seat)) (g.part_there (omega arith)))

  -- what the last state says of each seat and of the book
  pub closes : (recording : B → Recording) (setup : Setup) (raw : Raw B View) (seats : List (Seat B)) (words : List ℕ) (slots : List B) (book : B)
      → raw.me.0.holds ≡ false → raw.me.0.spent ≡ false → All (IsGathered raw) seats → ((n : ℕ) → 1 ≤ n → n ≤ setup.seats → Any (λ (seat : Seat B). seat.number ≡ n) seats)
      → Final (Seen (Ruled recording setup) raw.id raw.me.0) words slots → get_elem? slots 0 ≡ some book → All (IsLast (recording book)) seats
  closes recording setup raw seats words slots book off there all numbers last at =
      let s : State B View = last.0 in
      let r = last.1.0 in
      let here = last.1.1 in
      let f = r.each raw.id raw.me.0 here in
      let setup_same : raw.me.0.setup ≡ setup = f.setup_is there in
      let home = comes_home recording setup s r raw.id raw.me.0 here off (λ n least most. has_all raw seats n all least (numbers n least most)) in
      let found : get_elem? slots 0 ≡ some home.book = last.4 0 home.book (ap (λ hs. get_elem? hs 0) home.at) in
      let same : home.book ≡ book = some-injective home.book book (sym found ∙ at) in
      let is : recording book ≡ recording_of setup r.history = ap recording (sym same) ∙ home.recorded in
      All-weaker (IsGathered raw) (IsLast (recording book)) (λ seat g.
      let its_setup : setup_in seat ≡ setup = g.setup ∙ setup_same in
      subst (λ (x : Recording). IsLast x seat) (sym is) (record {
        limits = ap (λ (x : Setup). x.limits) (sym its_setup);
        capacity = ap (λ (x : Setup). x.capacity) (sym its_setup);
        seen = starts_through r.history raw.me.0.seen (seen_of seat) f.seen g.seen;
        mine = λ some_number. let stands = All-contains (Stands setup r.history) raw.me.0.parts (part seat.number (mine_of seat)) f.parts (g.part_there some_number) in stands.mine ∙ ap (λ (x : Setup). own (actor_of x.limits seat.number) r.history) (sym its_setup);
        legal = r.legal;
        seated = subst (λ (x : Setup). All (λ (entry : Entry). IsSeated x entry.who) r.history) (sym its_setup) r.seated;
      }))
      seats all
