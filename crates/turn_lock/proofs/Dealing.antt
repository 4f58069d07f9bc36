-- The seats of a new lock, dealt one by one.
use Rattle.std.proofs.Common.{◌≡◌, ℕ, zero, suc, ◌+◌, ◌<◌, false, List, [], ◌∷◌, ◌++◌, length, get_or, refl, sym, ap, ◌∙◌, subst, arith, length-append}
use Rattle.atomic_table.specs.Table.{Splits}
use Rattle.atomic_table.specs.Seated.{TableId}
use Rattle.atomic_table.specs.declared.shared.Seat.{Seat as Raw}
use Rattle.tp_model.specs.History.{IsLegal}
use Rattle.recorded.specs.Recordings.{Recording}
use Rattle.turn_lock.specs.declared.seats.Seat.{Seat}
use Rattle.turn_lock.specs.declared.views.Setup.{Setup}
use Rattle.turn_lock.specs.declared.views.View.{View}
use Rattle.turn_lock.specs.Histories.{actor_of, own}
use Rattle.turn_lock.specs.Rule.{Ruled}
use Rattle.turn_lock.specs.Seats.{mine_in, parts_of, IsInformed, IsNew}
use Rattle.turn_lock.specs.Views.{part, first_part, other_parts, dealt, undealt, opening_view}
use Rattle.turn_lock.proofs.Joining.{deals}
use Rattle.turn_lock.proofs.Numbering.{dealt_from}
use Rattle.turn_lock.proofs.Seating.{whole_part}

-- so many were dealt, and the other numbers are left
pub record Dealing {B : Type 0} (lock : TableId) (setup : Setup) (place : ℕ) (raw : Raw B View) (seats : List (Seat B)) : Type 0 where
  pub of : raw.table_id ≡ lock
  pub holds : raw.me.0.holds ≡ false
  pub there : raw.me.0.spent ≡ false
  pub setup_is : raw.me.0.setup ≡ setup
  pub seen : raw.me.0.seen ≡ []
  pub more : ℕ
  pub more_is : place + more ≡ setup.seats
  pub parts : raw.me.0.parts ≡ dealt_from (place + 1) more
  pub count : length seats ≡ place
  pub each : (k : ℕ) (d : Seat B) → k < length seats → IsNew lock setup (k + 1) (get_or seats k d)

-- the parts of the view that is dealt, and of the one that is left
parts_at : (setup : Setup) (place more : ℕ) (v : View) → place < setup.seats → place + more ≡ setup.seats → v.parts ≡ dealt_from (place + 1) more
    → ((dealt v).parts ≡ part (place + 1) [] ∷ []) × ((n : ℕ) × (place + 1 + n ≡ setup.seats) × ((undealt v).parts ≡ dealt_from (place + 1 + 1) n))
parts_at setup place zero v inside is parts = absurd (omega arith)
parts_at setup place (suc more) v inside is parts = (ap first_part parts, (more, omega arith, ap other_parts parts))

module _ {B : Type 0} (lock : TableId) (setup : Setup) where
  pub starts : (raw : Raw B View) → raw.table_id ≡ lock → raw.me ≡ (opening_view setup, []) → Dealing lock setup 0 raw []
  starts raw of is = record {
    of = of;
    holds = ap (λ (m : View × List (ℕ × B)). m.0.holds) is;
    there = ap (λ (m : View × List (ℕ × B)). m.0.spent) is;
    setup_is = ap (λ (m : View × List (ℕ × B)). m.0.setup) is;
    seen = ap (λ (m : View × List (ℕ × B)). m.0.seen) is;
    more = setup.seats;
    more_is = omega arith;
    parts = ap (λ (m : View × List (ℕ × B)). m.0.parts) is;
    count = refl;
    each = λ k d inside. absurd (omega arith);
  }

  next_at : (recording : B → Recording) (place more id : ℕ) (v : View) → place < setup.seats → place + more ≡ setup.seats → v.holds ≡ false → v.parts ≡ dealt_from (place + 1) more → Splits (Ruled recording setup) id v (undealt v) (dealt v)
  next_at recording place zero id v inside is off parts = absurd (omega arith)
  next_at recording place (suc more) id v inside is off parts = deals recording setup id (place + 1) more v off parts

  pub deals_next : (recording : B → Recording) (place : ℕ) (raw : Raw B View) (seats : List (Seat B)) → Dealing lock setup place raw seats → place < setup.seats → Splits (Ruled recording setup) raw.id raw.me.0 (undealt raw.me.0) (dealt raw.me.0)
  deals_next recording place raw seats d inside = next_at recording place d.more raw.id raw.me.0 inside d.more_is d.holds d.parts

  each_push : (P : ℕ → Seat B → Type 0) (seats : List (Seat B)) (last : Seat B) → ((k : ℕ) (d : Seat B) → k < length seats → P k (get_or seats k d)) → P (length seats) last
      → (k : ℕ) (d : Seat B) → k < length (seats ++ last ∷ []) → P k (get_or (seats ++ last ∷ []) k d)
  each_push P [] last all here zero d inside = here
  each_push P [] last all here (suc k) d inside = absurd (omega arith)
  each_push P (x ∷ seats) last all here zero d inside = all zero d (omega arith)
  each_push P (x ∷ seats) last all here (suc k) d inside = each_push (λ j. P (suc j)) seats last (λ j e i. all (suc j) e (omega arith)) here k d (omega arith)

  new_seat : (place : ℕ) (v : View) (new : Raw B View) → new.table_id ≡ lock → new.me ≡ (dealt v, []) → v.setup ≡ setup → v.seen ≡ [] → v.spent ≡ false → (dealt v).parts ≡ part (place + 1) [] ∷ [] → IsNew lock setup (place + 1) (record { number = place + 1; raw = new })
  new_seat place v new of is setup_same unseen there parts =
      let View_of : View × List (ℕ × B) → View = λ m. m.0 in
      let e : new.me.0 ≡ dealt v = ap View_of is in
      let has : new.me.0.parts ≡ part (place + 1) [] ∷ [] = ap (λ (x : View). x.parts) e ∙ parts in
      let none_yet : mine_in new.me.0.parts ≡ [] = ap mine_in has in
      let nothing : new.me.0.seen ≡ [] = ap (λ (x : View). x.seen) e ∙ unseen in
      let new_informed : IsInformed (record { number = place + 1; raw = new }) = record {
        legal = subst (IsLegal new.me.0.setup.limits new.me.0.setup.capacity) (sym nothing) tt;
        own_is = λ _. none_yet ∙ ap (own (actor_of new.me.0.setup.limits (place + 1))) (sym nothing);
      } in
      record {
        lock_is = of;
        setup_is = ap (λ (x : View). x.setup) e ∙ setup_same;
        number_is = refl;
        idle = record {
          whole = record { parts = has ∙ (whole_part (place + 1) [] (omega arith) ∙ ap (parts_of (place + 1)) (sym none_yet)); there = ap (λ (x : View). x.spent) e ∙ there; informed = new_informed };
          carries = ap (λ (m : View × List (ℕ × B)). m.1) is;
          holds = ap (λ (x : View). x.holds) e;
        };
        seen = nothing;
        mine = none_yet;
        met = ap (λ (x : View). x.met) e;
      }

  pub dealt_next : (place : ℕ) (raw next new : Raw B View) (seats after : List (Seat B)) → Dealing lock setup place raw seats → place < setup.seats → next.table_id ≡ raw.table_id → next.me ≡ (undealt raw.me.0, raw.me.1) → new.table_id ≡ raw.table_id → new.me ≡ (dealt raw.me.0, [])
      → after ≡ seats ++ record { number = place + 1; raw = new } ∷ [] → Dealing lock setup (place + 1) next after
  dealt_next place raw next new seats after d inside next_of next_is new_of new_is after_is =
      let p = parts_at setup place d.more raw.me.0 inside d.more_is d.parts in
      let e : next.me.0 ≡ undealt raw.me.0 = ap (λ (m : View × List (ℕ × B)). m.0) next_is in
      let seat : Seat B = record { number = place + 1; raw = new } in
      let fresh : IsNew lock setup (place + 1) seat = new_seat place raw.me.0 new (new_of ∙ d.of) new_is d.setup_is d.seen d.there p.0 in
      let count : length seats ≡ place = d.count in
      record {
        of = next_of ∙ d.of;
        holds = ap (λ (x : View). x.holds) e ∙ d.holds;
        there = ap (λ (x : View). x.spent) e ∙ d.there;
        setup_is = ap (λ (x : View). x.setup) e ∙ d.setup_is;
        seen = ap (λ (x : View). x.seen) e ∙ d.seen;
        more = p.1.0;
        more_is = p.1.1;
        parts = ap (λ (x : View). x.parts) e ∙ p.1.2;
        count = ap length after_is ∙ omega (arith, length-append seats (seat ∷ []));
        each = subst (λ (l : List (Seat B)). (k : ℕ) (x : Seat B) → k < length l → IsNew lock setup (k + 1) (get_or l k x)) (sym after_is)
            (each_push (λ k s. IsNew lock setup (k + 1) s) seats seat d.each (subst (λ (n : ℕ). IsNew lock setup (n + 1) seat) (sym count) fresh));
      }
