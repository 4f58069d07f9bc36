-- A round in which a client has had its turn that plays on.
use Rattle.std.proofs.Common.{◌≡◌, ℕ, suc, ◌+◌, ◌<◌, Bool, true, false, ◌||◌, if◌then◌else◌, List, [], ◌∷◌, length, set, get_or, refl, sym, ap, ◌∙◌, arith}
use Rattle.std.specs.Prelude.{All}
use Rattle.std.specs.List.{list_any}
use Rattle.std.proofs.lemmas.List.{get_or-set_same, get_or-set_other}
use Rattle.tp_base.specs.declared.answers.Entry.{Entry}
use Rattle.tp_base.specs.declared.limits.Limits.{Limits}
use Rattle.tp_model.specs.History.{IsLegal}
use Rattle.tp_model.proofs.Facts.{machine_facts}
use Rattle.recorded.specs.Recordings.{Recording}
use Rattle.turn_lock.specs.Histories.{own}
use Rattle.worker_gate.specs.declared.role.Role.{Role}
use Rattle.part_places.specs.Places.{Given}
use Rattle.worker_gate.specs.Roles.{is_open, IsOf}
use Rattle.worker_gate.specs.Runs.{is_over_in}
use Rattle.worker_gate.proofs.Playing.{over_open, RoundSoFar}

-- one that has had its turn in a round plays on
abbrev pub IsOneOpen : List Role → ℕ → Type 0
IsOneOpen later place = (k : ℕ) × (k < place) × ((d : Role) → is_open (get_or later k d).place.stage ≡ true)

never_true : (b : Bool) → (b ≡ true → ⊥) → b ≡ false
never_true true never = absurd (never refl)
never_true false never = refl

pub one_on : (a still x : Bool) → a ≡ true → still ≡ true → still ≡ (if a then true else x)
one_on true still x on is = is
one_on false still x on is = absurd cc

pub one_off : (a still last x : Bool) → a ≡ false → still ≡ last → last ≡ x → still ≡ (if a then true else x)
one_off true still last x off is last_is = absurd cc
one_off false still last x off is last_is = is ∙ last_is

module _ (g : Given) (start now : Recording) (roles later : List Role) (place : ℕ) (all_ended : Bool) (r : Role) (there : place < length later) (so : RoundSoFar g start now roles later place all_ended) where
  -- then all isn't over
  pub open_not_over : IsOneOpen later place → is_over_in now.limits now.capacity now.history ≡ false
  open_not_over (k, before, plays) =
      let inside : k < length later = omega (arith, before, there) in
      never_true (is_over_in now.limits now.capacity now.history)
      (λ over. over_open g now.limits now.capacity now.history (machine_facts now.limits now.capacity now.history so.legal) over (get_or later k r) (so.all.of k r inside) (plays r))

  -- one that does still does behind the turn of another
  one_stays : (b : Role) → IsOneOpen later place → IsOneOpen (set later place b) (place + 1)
  one_stays b (k, before, plays) =
      let apart : k ≡ place → ⊥ = λ same. omega (arith, before, same) in
      (k, omega (arith, before), λ d. ap (λ (q : Role). is_open q.place.stage) (get_or-set_other later place k b d apart) ∙ plays d)

  one_more : (b : Role) → is_open b.place.stage ≡ true → IsOneOpen (set later place b) (place + 1)
  one_more b plays = (place, omega arith, λ d. ap (λ (q : Role). is_open q.place.stage) (get_or-set_same later place b d there) ∙ plays)

  pub open_on : (b : Role) (plays still : Bool) → (plays ≡ true → IsOneOpen later place) → still ≡ (if plays then true else is_open b.place.stage) → still ≡ true → IsOneOpen (set later place b) (place + 1)
  open_on b true still one is on = one_stays b (one refl)
  open_on b false still one is on = one_more b (sym is ∙ on)

module _ (g : Given) (limits : Limits) (capacity : ℕ) (history : List Entry) where
  none_plays : is_over_in limits capacity history ≡ true → IsLegal limits capacity history → (roles : List Role) → All (λ (r : Role). IsOf g limits capacity history (own r.who history) r) roles → list_any (λ (r : Role). is_open r.place.stage) roles ≡ true → ⊥
  none_plays over legal [] all any = absurd cc
  none_plays over legal (r ∷ roles) all any = by (none_plays over legal roles (λ k d less. all (suc k) d (omega (arith, less)))) (is_open r.place.stage) refl any
    where
      by : (list_any (λ (q : Role). is_open q.place.stage) roles ≡ true → ⊥) → (b : Bool) → is_open r.place.stage ≡ b → (b || list_any (λ (q : Role). is_open q.place.stage) roles) ≡ true → ⊥
      by none true plays any = over_open g limits capacity history (machine_facts limits capacity history legal) over r (all 0 r (omega arith)) plays
      by none false plays any = none any

  -- where some client plays on, all isn't over
  pub any_not_over : IsLegal limits capacity history → (roles : List Role) → All (λ (r : Role). IsOf g limits capacity history (own r.who history) r) roles → list_any (λ (r : Role). is_open r.place.stage) roles ≡ true
      → is_over_in limits capacity history ≡ false
  any_not_over legal roles all any = never_true (is_over_in limits capacity history) (λ over. none_plays over legal roles all any)
