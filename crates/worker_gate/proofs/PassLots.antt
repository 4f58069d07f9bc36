-- Who may be drawn in a pass, and who has had a turn in it.
use Rattle.std.proofs.Common.{◌≡◌, ℕ, zero, suc, ◌+◌, ◌≤◌, Bool, true, false, if◌then◌else◌, List, [], ◌∷◌, ◌⊎◌, inl, inr, Some}
use Rattle.std.proofs.Common.{length, set, slice_get, refl, sym, ap, subst, ◌∙◌, arith}
use Rattle.std.specs.Prelude.{remove}
use Rattle.tp_base.specs.declared.answers.Entry.{Entry}
use Rattle.tp_base.specs.declared.limits.Limits.{Limits}
use Rattle.worker_gate.specs.declared.role.Role.{Role}
use Rattle.worker_gate.specs.Drawn.{open_from}
use Rattle.part_places.specs.Places.{Given}
use Rattle.worker_gate.specs.Roles.{turned, Turned}
use Rattle.worker_gate.specs.Rounds.{round_of, scene, Scene}
use Rattle.worker_gate.proofs.OneHistory.{ended_still}

module _ (g : Given) (limits : Limits) (capacity : ℕ) (history : List Entry) where
  abbrev next : Role → Turned
  next r = turned g limits capacity history r

  -- of one that may be drawn: it hasn't ended, and in a calm pass it is as it was
  pub record IsLeft (calm : Bool) (r q : Role) : Type 0 where
    pub going : q.ended ≡ false
    pub same : calm ≡ true → q ≡ r

  -- of one that may not: in a calm pass it has had a turn that adds nothing
  pub record IsPast (calm : Bool) (r q : Role) : Type 0 where
    pub role_is : calm ≡ true → q ≡ (next r).role
    pub adds_nothing : calm ≡ true → (next r).history ≡ history

  -- how roles of the beginning, of which the first has this place, are now, and which of them may be drawn
  abbrev pub Among : Bool → ℕ → List Role → List Role → List ℕ → Type 0
  Among calm at [] [] [] = Unit {0}
  Among calm at (r ∷ roles) (q ∷ later) ready = ((rest : List ℕ) × (ready ≡ at ∷ rest) × IsLeft calm r q × Among calm (suc at) roles later rest) ⊎ (IsPast calm r q × Among calm (suc at) roles later ready)
  Among calm at _ _ _ = ⊥

  -- a place that may be drawn
  pub record IsFound (calm : Bool) (at : ℕ) (roles later : List Role) (place : ℕ) : Type 0 where
    pub further : ℕ
    pub place_is : place ≡ at + further
    pub role : Role
    pub now : Role
    pub role_at : slice_get roles further ≡ Some role
    pub now_at : slice_get later further ≡ Some now
    pub left : IsLeft calm role now

  found_behind : (calm : Bool) (at : ℕ) (r q : Role) (roles later : List Role) (place : ℕ) → IsFound calm (suc at) roles later place → IsFound calm at (r ∷ roles) (q ∷ later) place
  found_behind calm at r q roles later place f =
      let is = f.place_is in
      record { further = suc f.further; place_is = omega (arith, is); role = f.role; now = f.now; role_at = f.role_at; now_at = f.now_at; left = f.left }

  pub found : (calm : Bool) (at : ℕ) (roles later : List Role) (ready : List ℕ) → Among calm at roles later ready → (i place : ℕ) → slice_get ready i ≡ Some place → IsFound calm at roles later place
  found calm at [] [] (_ ∷ _) among i place there = absurd among
  found calm at [] (q ∷ later) ready among i place there = absurd among
  found calm at (r ∷ roles) [] ready among i place there = absurd among
  found calm at [] [] [] among i place there = absurd cc
  found calm at (r ∷ roles) (q ∷ later) ready (inl (rest, is, left, more)) zero place there =
      let first : Some at ≡ Some place = sym (ap (λ (l : List ℕ). slice_get l 0) is) ∙ there in
      let same : at ≡ place = cc in
      record { further = 0; place_is = omega (arith, same); role = r; now = q; role_at = refl; now_at = refl; left = left }
  found calm at (r ∷ roles) (q ∷ later) ready (inl (rest, is, left, more)) (suc i) place there =
      found_behind calm at r q roles later place (found calm (suc at) roles later rest more i place (sym (ap (λ (l : List ℕ). slice_get l (suc i)) is) ∙ there))
  found calm at (r ∷ roles) (q ∷ later) ready (inr (past, more)) i place there = found_behind calm at r q roles later place (found calm (suc at) roles later ready more i place there)

  -- it has had its turn
  pub taken : (calm : Bool) (at : ℕ) (roles later : List Role) (ready : List ℕ) → Among calm at roles later ready → (i k : ℕ) (r q : Role) → slice_get ready i ≡ Some (at + k) → slice_get roles k ≡ Some r → IsPast calm r q
      → Among calm at roles (set later k q) (remove ready i)
  taken calm at [] [] (_ ∷ _) among i k r q there role past = absurd among
  taken calm at [] (y ∷ later) ready among i k r q there role past = absurd among
  taken calm at (x ∷ roles) [] ready among i k r q there role past = absurd among
  taken calm at [] [] [] among i k r q there role past = absurd cc
  taken calm at (x ∷ roles) (y ∷ later) ready (inl (rest, is, left, more)) zero zero r q there role past =
      let same : x ≡ r = cc in
      subst (λ (l : List ℕ). Among calm at (x ∷ roles) (q ∷ later) (remove l 0)) (sym is) (inr (subst (λ (z : Role). IsPast calm z q) (sym same) past, more))
  taken calm at (x ∷ roles) (y ∷ later) ready (inl (rest, is, left, more)) zero (suc k) r q there role past =
      let first : Some at ≡ Some (at + suc k) = sym (ap (λ (l : List ℕ). slice_get l 0) is) ∙ there in
      let same : at ≡ at + suc k = cc in
      absurd (omega (arith, same))
  taken calm at (x ∷ roles) (y ∷ later) ready (inl (rest, is, left, more)) (suc i) zero r q there role past =
      let f = found calm (suc at) roles later rest more i (at + 0) (sym (ap (λ (l : List ℕ). slice_get l (suc i)) is) ∙ there) in
      let place_is = f.place_is in
      absurd (omega (arith, place_is))
  taken calm at (x ∷ roles) (y ∷ later) ready (inl (rest, is, left, more)) (suc i) (suc k) r q there role past =
      let one : at + suc k ≡ suc at + k = omega arith in
      let there' : slice_get rest i ≡ Some (suc at + k) = sym (ap (λ (l : List ℕ). slice_get l (suc i)) is) ∙ (there ∙ ap Some one) in
      inl (remove rest i, ap (λ (l : List ℕ). remove l (suc i)) is, left, taken calm (suc at) roles later rest more i k r q there' role past)
  taken calm at (x ∷ roles) (y ∷ later) ready (inr (gone, more)) i zero r q there role past =
      let f = found calm (suc at) roles later ready more i (at + 0) there in
      let place_is = f.place_is in
      absurd (omega (arith, place_is))
  taken calm at (x ∷ roles) (y ∷ later) ready (inr (gone, more)) i (suc k) r q there role past =
      let one : at + suc k ≡ suc at + k = omega arith in
      inr (gone, taken calm (suc at) roles later ready more i k r q (there ∙ ap Some one) role past)

  pub past_off : (r q : Role) → IsPast false r q
  past_off r q = record { role_is = λ (on : false ≡ true). absurd cc; adds_nothing = λ (on : false ≡ true). absurd cc }

  -- the pass isn't calm any more
  pub loosened : (calm : Bool) (at : ℕ) (roles later : List Role) (ready : List ℕ) → Among calm at roles later ready → Among false at roles later ready
  loosened calm at [] [] (_ ∷ _) among = absurd among
  loosened calm at [] (q ∷ later) ready among = absurd among
  loosened calm at (r ∷ roles) [] ready among = absurd among
  loosened calm at [] [] [] among = tt
  loosened calm at (r ∷ roles) (q ∷ later) ready (inl (rest, is, left, more)) =
      inl (rest, is, record { going = left.going; same = λ (on : false ≡ true). absurd cc }, loosened calm (suc at) roles later rest more)
  loosened calm at (r ∷ roles) (q ∷ later) ready (inr (past, more)) = inr (past_off r q, loosened calm (suc at) roles later ready more)

  -- all that haven't ended may be drawn
  pub all_open : (at : ℕ) (roles later : List Role) → length roles ≡ length later → Among false at roles later (open_from at later)
  all_open at [] [] same = tt
  all_open at [] (q ∷ later) same = absurd (omega (arith, same))
  all_open at (r ∷ roles) [] same = absurd (omega (arith, same))
  all_open at (r ∷ roles) (q ∷ later) same = by q.ended refl (all_open (suc at) roles later (omega (arith, same)))
    where
      by : (b : Bool) → q.ended ≡ b → Among false (suc at) roles later (open_from (suc at) later) → Among false at (r ∷ roles) (q ∷ later) (if b then open_from (suc at) later else at ∷ open_from (suc at) later)
      by true is more = inr (past_off r q, more)
      by false is more = inl (open_from (suc at) later, refl, record { going = is; same = λ (on : false ≡ true). absurd cc }, more)

  -- at the beginning, where those that have ended stay as they are
  pub all_begin : (at : ℕ) (roles : List Role) → Among true at roles roles (open_from at roles)
  all_begin at [] = tt
  all_begin at (r ∷ roles) = by r.ended refl (all_begin (suc at) roles)
    where
      by : (b : Bool) → r.ended ≡ b → Among true (suc at) roles roles (open_from (suc at) roles) → Among true at (r ∷ roles) (r ∷ roles) (if b then open_from (suc at) roles else at ∷ open_from (suc at) roles)
      by true is more =
          let still = ended_still g limits capacity history r is in
          inr (record { role_is = λ _. sym (ap (λ (t : Turned). t.role) still ∙ ap (λ (b : Bool). record r { ended = b }) (sym is)); adds_nothing = λ _. ap (λ (t : Turned). t.history) still }, more)
      by false is more = inl (open_from (suc at) roles, refl, record { going = is; same = λ _. refl }, more)

  -- no more may be drawn than there are
  pub few_among : (calm : Bool) (at : ℕ) (roles later : List Role) (ready : List ℕ) → Among calm at roles later ready → length ready ≤ length later
  few_among calm at [] [] (_ ∷ _) among = absurd among
  few_among calm at [] (q ∷ later) ready among = absurd among
  few_among calm at (r ∷ roles) [] ready among = absurd among
  few_among calm at [] [] [] among = omega arith
  few_among calm at (r ∷ roles) (q ∷ later) ready (inl (rest, is, left, more)) =
      let few = few_among calm (suc at) roles later rest more in let n : length ready ≡ suc (length rest) = ap length is in omega (arith, few, n)
  few_among calm at (r ∷ roles) (q ∷ later) ready (inr (past, more)) = let few = few_among calm (suc at) roles later ready more in omega (arith, few)

  -- a calm pass in which each has had its turn is a round
  pub calm_round : (at : ℕ) (roles later : List Role) → Among true at roles later [] → round_of g limits capacity history roles ≡ scene history later
  calm_round at [] (q ∷ later) among = absurd among
  calm_round at (r ∷ roles) [] among = absurd among
  calm_round at [] [] among = refl
  calm_round at (r ∷ roles) (q ∷ later) (inl (rest, is, left, more)) = absurd cc
  calm_round at (r ∷ roles) (q ∷ later) (inr (past, more)) =
      ap (λ (h : List Entry). let u = round_of g limits capacity h roles in scene u.history ((next r).role ∷ u.roles)) (past.adds_nothing refl)
      ∙ (ap (λ (u : Scene). scene u.history ((next r).role ∷ u.roles)) (calm_round (suc at) roles later more)
      ∙ ap (λ (x : Role). scene history (x ∷ later)) (sym (past.role_is refl)))

pub length_removed : (places : List ℕ) (index place : ℕ) → slice_get places index ≡ Some place → suc (length (remove places index)) ≡ length places
length_removed [] index place there = absurd cc
length_removed (p ∷ places) zero place there = refl
length_removed (p ∷ places) (suc index) place there = let rest = length_removed places index place there in omega (arith, rest)
