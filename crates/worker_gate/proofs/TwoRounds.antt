-- In two rounds in succession a role moves or ends, or all had ended.
use Rattle.std.proofs.Common.{◌≡◌, ℕ, ◌+◌, ◌<◌, ◌≤◌, Bool, true, false, cond, ◌⊎◌, inl, inr, List, [], ◌∷◌, ◌++◌, length, map, get_or, refl, sym, ap, subst, ◌∙◌, arith, append-nil, length-append, filter}
use Rattle.std.specs.List.{AllByRecursion}
use Rattle.std.proofs.lemmas.Bool.{both_ways, cases_lt}
use Rattle.std.proofs.lemmas.List.Elements.{All-from_recursion}
use Rattle.tp_base.specs.declared.answers.Entry.{Entry}
use Rattle.tp_base.specs.declared.ids.Who.{Who}
use Rattle.tp_base.specs.declared.limits.Limits.{Limits}
use Rattle.tp_base.specs.declared.plans.Stage.TheVariants.{Over}
use Rattle.tp_model.specs.History.{after, IsLegal}
use Rattle.tp_model.specs.Stages.{stage_of, waits_of, IsActor, MachineFacts}
use Rattle.tp_model.proofs.Facts.{machine_facts}
use Rattle.recorded.specs.Recordings.{room_of}
use Rattle.turn_lock.specs.Histories.{own}
use Rattle.part_places.specs.declared.place.Place.{Place}
use Rattle.worker_gate.specs.declared.role.Role.{Role}
use Rattle.worker_gate.specs.Lively.{count_ended, Ends, GoesOn, HadEnded, Moves}
use Rattle.part_places.specs.Places.{opening, Given}
use Rattle.worker_gate.specs.Roles.{ends, turned, who_of, IsOf, Turned}
use Rattle.worker_gate.specs.Rounds.{round_of, scene, AllOf, EndedWell, HasRole, HaveEnded, HaveOpenRoles, Scene}
use Rattle.worker_gate.specs.Runs.{is_over_in}
use Rattle.worker_gate.proofs.Manned.{manned}
use Rattle.worker_gate.proofs.Playing.{or_off, over_ends, turned_adds, turned_is}
use Rattle.worker_gate.proofs.Staying.{stays, twice, IsIdle, StaysAt}
use Rattle.worker_gate.proofs.Together.{over_together}
use Rattle.worker_gate.proofs.Walking.{stage_is, waits_is}

-- ---- turns and rounds add to the history, and end roles

abbrev one_if : Bool → ℕ
one_if true = 1
one_if false = 0

counted_one : (b : Bool) (r : Role) (more : List Role) → length (cond b (r ∷ more) more) ≡ one_if b + length more
counted_one true r more = omega arith
counted_one false r more = omega arith

module _ (g : Given) (limits : Limits) (capacity : ℕ) where
  abbrev turn : List Entry → Role → Turned
  turn history r = turned g limits capacity history r

  abbrev round : List Entry → List Role → Scene
  round history roles = round_of g limits capacity history roles

  turn_longer : (history : List Entry) (r : Role) → length history ≤ length (turn history r).history
  turn_longer history r =
      let adds = turned_adds g limits capacity history r in
      let many = ap length adds.is in
      omega (arith, many, length-append history adds.more)

  -- a turn that adds nothing
  turn_same : (history : List Entry) (r : Role) → length (turn history r).history ≤ length history → (turn history r).history ≡ history
  turn_same history r few =
      let adds = turned_adds g limits capacity history r in
      of_more adds.more adds.is few
    where
      of_more : (more : List Entry) → (turn history r).history ≡ history ++ more → length (turn history r).history ≤ length history → (turn history r).history ≡ history
      of_more [] is short = is ∙ append-nil history
      of_more (e ∷ more) is short = let many = ap length is in absurd (omega (arith, many, short, length-append history (e ∷ more)))

  pub ended_on : (history : List Entry) (r : Role) → r.ended ≡ true → (turn history r).role.ended ≡ true
  ended_on history r ended =
      turned_is g limits capacity (λ (t : Turned). t.role.ended ≡ true) history r (λ _. refl) (λ on. absurd (both_ways _ (or_off r.ended _ on) ended))

  ends_then : (history : List Entry) (r : Role) → ends limits capacity history r ≡ true → (turn history r).role.ended ≡ true
  ends_then history r last = turned_is g limits capacity (λ (t : Turned). t.role.ended ≡ true) history r (λ _. refl) (λ on. absurd (both_ways _ on last))

  pub round_longer : (history : List Entry) (roles : List Role) → length history ≤ length (round history roles).history
  round_longer history [] = omega arith
  round_longer history (r ∷ roles) =
      let first = turn_longer history r in
      let rest = round_longer (turn history r).history roles in
      omega (arith, first, rest)

  ended_cons : (history : List Entry) (r : Role) (xs ys : List Role) → count_ended xs ≤ count_ended ys → count_ended (r ∷ xs) ≤ count_ended ((turn history r).role ∷ ys)
  ended_cons history r xs ys rest =
      let q = (turn history r).role in
      let was = counted_one r.ended r (filter (λ (x : Role). x.ended) xs) in
      let is = counted_one q.ended q (filter (λ (x : Role). x.ended) ys) in
      let more : one_if r.ended ≤ one_if q.ended = one_more r.ended q.ended (ended_on history r) in
      omega (arith, rest, was, is, more)
    where
      one_more : (a b : Bool) → (a ≡ true → b ≡ true) → one_if a ≤ one_if b
      one_more true true on = omega arith
      one_more true false on = absurd (let e = on refl in cc)
      one_more false b on = omega arith

  pub ended_more : (history : List Entry) (roles : List Role) → count_ended roles ≤ count_ended (round history roles).roles
  ended_more history [] = omega arith
  ended_more history (r ∷ roles) =
      let t = turn history r in
      ended_cons history r roles (round t.history roles).roles (ended_more t.history roles)

  -- ---- a round that adds nothing

  abbrev next : List Entry → Role → Role
  next history r = (turn history r).role

  abbrev AddsNothing : List Entry → Role → Type 0
  AddsNothing history r = (turn history r).history ≡ history

  record IsQuiet (history : List Entry) (roles : List Role) : Type 0 where
    each : AllByRecursion (AddsNothing history) roles
    is : round history roles ≡ scene history (map (next history) roles)

  quiet_round : (history : List Entry) (roles : List Role) → length (round history roles).history ≤ length history → IsQuiet history roles
  quiet_round history [] few = record { each = tt; is = refl }
  quiet_round history (r ∷ roles) few =
      let t = turn history r in
      let rest = round_longer t.history roles in
      let same : t.history ≡ history = turn_same history r (omega (arith, few, rest)) in
      let shorter : length (round history roles).history ≤ length history = subst (λ (h : List Entry). length (round h roles).history ≤ length history) same few in
      let q = quiet_round history roles shorter in
      record {
        each = (same, q.each);
        is = ap (λ (h : List Entry). let u = round h roles in scene u.history (t.role ∷ u.roles)) same ∙ ap (λ (u : Scene). scene u.history (t.role ∷ u.roles)) q.is;
      }

  ended_mapped : (history : List Entry) (roles : List Role) → count_ended roles ≤ count_ended (map (next history) roles)
  ended_mapped history [] = omega arith
  ended_mapped history (r ∷ roles) = ended_cons history r roles (map (next history) roles) (ended_mapped history roles)

  -- where no more have ended, none that hadn't has
  none_ended : (history : List Entry) (roles : List Role) → count_ended (map (next history) roles) ≤ count_ended roles → AllByRecursion (λ (r : Role). (next history r).ended ≡ true → r.ended ≡ true) roles
  none_ended history [] few = tt
  none_ended history (r ∷ roles) few =
      let was = counted_one r.ended r (filter (λ (x : Role). x.ended) roles) in
      let is = counted_one (next history r).ended (next history r) (filter (λ (x : Role). x.ended) (map (next history) roles)) in
      let rest = ended_mapped history roles in
      let parts = by r.ended (next history r).ended (count_ended roles) (count_ended (map (next history) roles)) (ended_on history r) rest (omega (arith, few, was, is)) in
      (parts.0, none_ended history roles parts.1)
    where
      by : (a b : Bool) (n m : ℕ) → (a ≡ true → b ≡ true) → n ≤ m → one_if b + m ≤ one_if a + n → (b ≡ true → a ≡ true) × (m ≤ n)
      by true b n m on more less = ((λ e. refl), by_both b (on refl))
        where
          by_both : (c : Bool) → c ≡ true → m ≤ n
          by_both c e = let one : one_if b ≡ 1 = ap one_if (on refl) in omega (arith, less, one)
      by false true n m on more less = absurd (omega (arith, more, less))
      by false false n m on more less = ((λ e. e), omega (arith, less))

  -- ---- two of them

  abbrev two : Scene → Scene
  two s = let t = round s.history s.roles in round t.history t.roles

  all_idle : (history : List Entry) (roles : List Role) → AllByRecursion (AddsNothing history) roles → AllByRecursion (AddsNothing history) (map (next history) roles) → AllByRecursion (λ (r : Role). (next history r).ended ≡ true → r.ended ≡ true) roles
      → AllByRecursion (IsIdle g limits capacity history) roles
  all_idle history [] first second ended = tt
  all_idle history (r ∷ roles) first second ended = (record { first = first.0; second = second.0; ended = ended.0 }, all_idle history roles first.1 second.1 ended.1)

  both_quiet : (s : Scene) → length (two s).history ≤ length s.history → count_ended (two s).roles ≤ count_ended s.roles → AllByRecursion (IsIdle g limits capacity s.history) s.roles
  both_quiet s few none =
      let t = round s.history s.roles in
      let later = round_longer t.history t.roles in
      let first = quiet_round s.history s.roles (omega (arith, few, later)) in
      let again : two s ≡ round s.history (map (next s.history) s.roles) = ap (λ (u : Scene). round u.history u.roles) first.is in
      let second = quiet_round s.history (map (next s.history) s.roles) (subst (λ (u : Scene). length u.history ≤ length s.history) again few) in
      let roles_are : (two s).roles ≡ map (next s.history) (map (next s.history) s.roles) = ap (λ (u : Scene). u.roles) (again ∙ second.is) in
      let none_more = subst (λ (roles : List Role). count_ended roles ≤ count_ended s.roles) roles_are none in
      let grown = ended_mapped s.history (map (next s.history) s.roles) in
      all_idle s.history s.roles first.each second.each (none_ended s.history s.roles (omega (arith, none_more, grown)))

  -- ---- where none moves or ends, all had ended

  -- what roles are that play all that is left to play
  pub record IsFit (s : Scene) : Type 0 where
    pub legal : IsLegal limits capacity s.history
    pub all : AllOf g limits capacity s.history s.roles
    pub well : EndedWell limits capacity s.history s.roles
    pub open_roles : HaveOpenRoles limits s.history s.roles
    pub worker : 1 ≤ limits.workers

  module _ (s : Scene) (fit : IsFit s) (idle : AllByRecursion (IsIdle g limits capacity s.history) s.roles) where
    abbrev left : ℕ
    left = room_of (record { limits = limits; capacity = capacity; history = s.history })

    facts : MachineFacts limits s.history
    facts = machine_facts limits capacity s.history fit.legal

    idle_at : (k : ℕ) (d : Role) → k < length s.roles → IsIdle g limits capacity s.history (get_or s.roles k d)
    idle_at = All-from_recursion (IsIdle g limits capacity s.history) s.roles idle

    -- an actor whose role is there
    role_stays : (r : Role) → is_over_in limits capacity s.history ≡ false → IsOf g limits capacity s.history (own r.who s.history) r → (r.ended ≡ true → (r.place.stage ≡ Over) ⊎ (is_over_in limits capacity s.history ≡ true)) → IsIdle g limits capacity s.history r
        → StaysAt (after limits s.history) left r.who r.place.stage
    role_stays r going of well still = of_ends (ends limits capacity s.history r) refl
      where
        stage_at : r.place.stage ≡ stage_of r.who s.history
        stage_at = ap (λ (p : Place). p.stage) of.place_is ∙ stage_is g r.who (opening r.who) (own r.who s.history)

        waits_at : r.place.waits ≡ waits_of r.who s.history
        waits_at = ap (λ (p : Place). p.waits) of.place_is ∙ waits_is g r.who (opening r.who) (own r.who s.history)

        over_stays : (r.place.stage ≡ Over) ⊎ (is_over_in limits capacity s.history ≡ true) → StaysAt (after limits s.history) left r.who r.place.stage
        over_stays (inl over) = subst (StaysAt (after limits s.history) left r.who) (sym over) tt
        over_stays (inr over) = absurd (both_ways _ going over)

        of_ends : (b : Bool) → ends limits capacity s.history r ≡ b → StaysAt (after limits s.history) left r.who r.place.stage
        of_ends true last = over_stays (well (still.ended (ends_then s.history r last)))
        of_ends false on =
            stays g limits capacity s.history facts (manned limits capacity s.history fit.legal).sound r.who of.actor r.place.stage r.place.waits r.place.at r.place.cut r.marked stage_at waits_at of.calm of.sorted
            (twice g limits capacity s.history facts (manned limits capacity s.history fit.legal).sound r of.actor on still)

    actor_stays : is_over_in limits capacity s.history ≡ false → (who : Who) → IsActor limits who → StaysAt (after limits s.history) left who (stage_of who s.history)
    actor_stays going who actor = of_role (fit.open_roles who actor)
      where
        of_role : (stage_of who s.history ≡ Over) ⊎ HasRole s.roles who → StaysAt (after limits s.history) left who (stage_of who s.history)
        of_role (inl over) = subst (StaysAt (after limits s.history) left who) (sym over) tt
        of_role (inr has) =
            let r : Role = get_or s.roles has.0 has.1 in
            let of = fit.all.of has.0 has.1 has.2 in
            let is : r.who ≡ who = ap who_of has.3 ∙ has.4 in
            let there : r.place.stage ≡ stage_of r.who s.history = ap (λ (p : Place). p.stage) of.place_is ∙ stage_is g r.who (opening r.who) (own r.who s.history) in
            subst (λ (x : Who). StaysAt (after limits s.history) left x (stage_of x s.history)) is
            (subst (StaysAt (after limits s.history) left r.who) there (role_stays r going of (fit.well has.0 has.1 has.2) (idle_at has.0 has.1 has.2)))

    over_now : is_over_in limits capacity s.history ≡ true
    over_now = of_over (is_over_in limits capacity s.history) refl
      where
        of_over : (b : Bool) → is_over_in limits capacity s.history ≡ b → is_over_in limits capacity s.history ≡ true
        of_over true is = is
        of_over false is = over_together limits capacity s.history fit.legal left (actor_stays is) fit.worker

    had_ended : HaveEnded s.roles
    had_ended k d inside =
        let r : Role = get_or s.roles k d in
        (idle_at k d inside).ended (ends_then s.history r (over_ends g limits capacity s.history facts over_now r (fit.all.of k d inside)))

  pub goes_on : (s : Scene) → IsFit s → GoesOn s (two s)
  goes_on s fit = of_length (cases_lt (length s.history) (length (two s).history))
    where
      of_count : length (two s).history ≤ length s.history → (count_ended s.roles < count_ended (two s).roles) ⊎ (count_ended (two s).roles ≤ count_ended s.roles) → GoesOn s (two s)
      of_count few (inl more) = Ends more
      of_count few (inr none) = HadEnded (had_ended s fit (both_quiet s few none))

      of_length : (length s.history < length (two s).history) ⊎ (length (two s).history ≤ length s.history) → GoesOn s (two s)
      of_length (inl more) = Moves more
      of_length (inr few) = of_count few (cases_lt (count_ended s.roles) (count_ended (two s).roles))
