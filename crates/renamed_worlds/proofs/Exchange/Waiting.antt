-- What waits cover, and what of it they are still for, is the same where two workers change places.
use Rattle.std.proofs.Common.{◌≡◌, ℕ, ◌+◌, ◌<◌, ◌==◌, ◌||◌, ◌&&◌, not, Bool, true, false, cond, nat_lt, List, [], ◌∷◌, length, map, refl, ap, ap₂, ◌∙◌, filter}
use Rattle.std.specs.Option.{option_map_or}
use Rattle.tp_base.specs.declared.rows.CallbackRow.{CallbackRow}
use Rattle.tp_base.specs.declared.rows.WaitTarget.{WaitTarget}
use Rattle.tp_base.specs.declared.rows.WaitTarget.TheVariants.{Group, Kernel, Object}
use Rattle.tp_model.specs.World.{World, BegunWait}
use Rattle.tp_model.specs.Counts.{callback_of, is_pending, is_running}
use Rattle.tp_model.specs.Waits.{cancel_where, cancelled, count_outstanding, covered_of, held, is_cancelled_by, is_covered_by, is_held, is_object_target, is_of, is_outstanding_for}
use Rattle.tp_model.specs.Calls.Waits.{count_cancelled_by, count_covered, holds_starved, is_starved}
use Rattle.renamed_worlds.specs.Exchanged.{exchanged, exchanged_callback, exchanged_wait}
use Rattle.renamed_worlds.proofs.Mapped.{filter_agree, filter_map, found_map}
use Rattle.renamed_worlds.proofs.Exchange.Queries.{callback_exchanged, count_same, held_same, pending_same, staff_exchanged, status_same}

module _ (at : ℕ) where
  -- ---- of what a callback is

  of_exchanged : (target : WaitTarget) (c : CallbackRow) → is_of target (exchanged_callback at c) ≡ is_of target c
  of_exchanged (Object object) c = refl
  of_exchanged (Group group) c = refl
  of_exchanged (Kernel kernel) c = refl

  pub outstanding_callback : (target : WaitTarget) (c : CallbackRow) → is_outstanding_for target (exchanged_callback at c) ≡ is_outstanding_for target c
  outstanding_callback target c = ap₂ (λ a b. a && b) (of_exchanged target c) (held_same at target c.status)

  cancelled_callback : (target : WaitTarget) (cancel : Bool) (c : CallbackRow) → is_cancelled_by target cancel (exchanged_callback at c) ≡ is_cancelled_by target cancel c
  cancelled_callback target cancel c = ap₂ (λ a b. cancel && (a && b)) (status_same at is_pending (λ _ _ _. refl) c.status) (of_exchanged target c)

  covered_callback : (target : WaitTarget) (cancel : Bool) (c : CallbackRow) → is_covered_by target cancel (exchanged_callback at c) ≡ is_covered_by target cancel c
  covered_callback target cancel c = ap₂ (λ a b. a && (b || not (cancel && is_object_target target))) (outstanding_callback target c) (status_same at is_running (λ _ _ _. refl) c.status)

  -- ---- what a wait with cancel cancels, and what it then covers

  pub cancel_exchanged : (target : WaitTarget) (cancel : Bool) (cs : List CallbackRow) → cancel_where (is_cancelled_by target cancel) (map (exchanged_callback at) cs) ≡ map (exchanged_callback at) (cancel_where (is_cancelled_by target cancel) cs)
  cancel_exchanged target cancel [] = refl
  cancel_exchanged target cancel (c ∷ cs) =
      ap₂ (λ x xs. x ∷ xs) (ap (λ b. cond b (cancelled (exchanged_callback at c)) (exchanged_callback at c)) (cancelled_callback target cancel c) ∙ one (is_cancelled_by target cancel c)) (cancel_exchanged target cancel cs)
    where
      one : (b : Bool) → cond b (cancelled (exchanged_callback at c)) (exchanged_callback at c) ≡ exchanged_callback at (cond b (cancelled c) c)
      one true = refl
      one false = refl

  numbers_exchanged : (cs : List CallbackRow) → map (λ (c : CallbackRow). c.number) (map (exchanged_callback at) cs) ≡ map (λ (c : CallbackRow). c.number) cs
  numbers_exchanged [] = refl
  numbers_exchanged (c ∷ cs) = ap (λ ns. c.number ∷ ns) (numbers_exchanged cs)

  pub covered_exchanged : (target : WaitTarget) (cancel : Bool) (cs : List CallbackRow) → covered_of target cancel (map (exchanged_callback at) cs) ≡ covered_of target cancel cs
  covered_exchanged target cancel cs =
      ap (map (λ (c : CallbackRow). c.number)) (filter_map (exchanged_callback at) (is_covered_by target cancel) (is_covered_by target cancel) (covered_callback target cancel) cs)
      ∙ numbers_exchanged (filter (is_covered_by target cancel) cs)

  pub covered_behind : (target : WaitTarget) (cancel : Bool) (cs : List CallbackRow)
      → covered_of target cancel (cancel_where (is_cancelled_by target cancel) (map (exchanged_callback at) cs)) ≡ covered_of target cancel (cancel_where (is_cancelled_by target cancel) cs)
  covered_behind target cancel cs = ap (covered_of target cancel) (cancel_exchanged target cancel cs) ∙ covered_exchanged target cancel (cancel_where (is_cancelled_by target cancel) cs)

  module _ (w : World) (fits : at + 1 < length w.workers) where
    abbrev u : World
    u = exchanged at w

    pub count_covered_exchanged : (target : WaitTarget) (cancel : Bool) → count_covered u target cancel ≡ count_covered w target cancel
    count_covered_exchanged target cancel = ap length (covered_behind target cancel w.callbacks)

    pub count_cancelled_exchanged : (target : WaitTarget) (cancel : Bool) → count_cancelled_by u target cancel ≡ count_cancelled_by w target cancel
    count_cancelled_exchanged target cancel = count_same at w fits (is_cancelled_by target cancel) (cancelled_callback target cancel)

    pub outstanding_exchanged : (target : WaitTarget) → count_outstanding target u ≡ count_outstanding target w
    outstanding_exchanged target = count_same at w fits (is_outstanding_for target) (outstanding_callback target)

    -- ---- what a wait is still for

    is_held_exchanged : (target : WaitTarget) (n : ℕ) → is_held u target n ≡ is_held w target n
    is_held_exchanged target n =
        ap (λ o. option_map_or (is_outstanding_for target) o false) (callback_exchanged at w fits n)
        ∙ found_map (exchanged_callback at) (is_outstanding_for target) (is_outstanding_for target) (outstanding_callback target) (callback_of w n) false

    pub held_exchanged : (b : BegunWait) → held u (exchanged_wait at b) ≡ held w b
    held_exchanged b = filter_agree (is_held u b.target) (is_held w b.target) (is_held_exchanged b.target) b.covered

    starved_callback : (room : ℕ) (c : CallbackRow) → is_starved u room (exchanged_callback at c) ≡ is_starved w room c
    starved_callback room c = ap₂ (λ p a. p && (nat_lt room 2 || (nat_lt room 4 && (a == 0)))) (pending_same at w fits c) (staff_exchanged at w fits c.pool.0)

    pub starved_exchanged : (room : ℕ) (numbers : List ℕ) → holds_starved u room numbers ≡ holds_starved w room numbers
    starved_exchanged room [] = refl
    starved_exchanged room (n ∷ ns) =
        ap₂ (λ a b. a || b)
        (
        ap (λ o. option_map_or (is_starved u room) o false) (callback_exchanged at w fits n)
        ∙ found_map (exchanged_callback at) (is_starved u room) (is_starved w room) (starved_callback room) (callback_of w n) false
        )
        (starved_exchanged room ns)
