-- What waits cover, and what of it they are still for, is the same in a renamed world, up to names.
use Rattle.std.proofs.Common.{◌≡◌, ℕ, ◌==◌, ◌||◌, ◌&&◌, not, Bool, true, false, cond, nat_lt, List, [], ◌∷◌, length, map, refl, ap, ap₂, ◌∙◌, filter}
use Rattle.std.specs.Option.{option_map_or}
use Rattle.std.proofs.lemmas.List.{length-map}
use Rattle.tp_base.specs.declared.rows.CallbackRow.{CallbackRow}
use Rattle.tp_base.specs.declared.rows.WaitTarget.{WaitTarget}
use Rattle.tp_base.specs.declared.rows.WaitTarget.TheVariants.{Group, Kernel, Object}
use Rattle.tp_model.specs.World.{World, BegunWait}
use Rattle.tp_model.specs.Counts.{callback_of, is_pending, is_running}
use Rattle.tp_model.specs.Waits.{cancel_where, cancelled, count_outstanding, covered_of, held, is_cancelled_by, is_covered_by, is_held, is_held_for, is_object_target, is_of, is_outstanding_for}
use Rattle.tp_model.specs.Calls.Waits.{count_cancelled_by, count_covered, holds_starved, is_starved}
use Rattle.renamed_worlds.specs.Renamed.{renamed, renamed_callback, renamed_wait, IsNaming}
use Rattle.renamed_worlds.proofs.Mapped.{filter_map, found_map}
use Rattle.renamed_worlds.proofs.Queries.{callback_renamed, count_renamed, staff_renamed}

module _ (name : ℕ → ℕ) where
  -- ---- of what a callback is

  pub of_renamed : (target : WaitTarget) (c : CallbackRow) → is_of target (renamed_callback name c) ≡ is_of target c
  of_renamed (Object object) c = refl
  of_renamed (Group group) c = refl
  of_renamed (Kernel kernel) c = refl

  outstanding_callback : (target : WaitTarget) (c : CallbackRow) → is_outstanding_for target (renamed_callback name c) ≡ is_outstanding_for target c
  outstanding_callback target c = ap (λ b. b && is_held_for target c.status) (of_renamed target c)

  cancelled_callback : (target : WaitTarget) (cancel : Bool) (c : CallbackRow) → is_cancelled_by target cancel (renamed_callback name c) ≡ is_cancelled_by target cancel c
  cancelled_callback target cancel c = ap (λ b. cancel && (is_pending c.status && b)) (of_renamed target c)

  covered_callback : (target : WaitTarget) (cancel : Bool) (c : CallbackRow) → is_covered_by target cancel (renamed_callback name c) ≡ is_covered_by target cancel c
  covered_callback target cancel c = ap (λ b. b && (is_running c.status || not (cancel && is_object_target target))) (outstanding_callback target c)

  -- ---- what a wait with cancel cancels, and what it then covers

  pub cancel_renamed : (target : WaitTarget) (cancel : Bool) (cs : List CallbackRow) → cancel_where (is_cancelled_by target cancel) (map (renamed_callback name) cs) ≡ map (renamed_callback name) (cancel_where (is_cancelled_by target cancel) cs)
  cancel_renamed target cancel [] = refl
  cancel_renamed target cancel (c ∷ cs) =
      ap₂ (λ x xs. x ∷ xs) (ap (λ b. cond b (cancelled (renamed_callback name c)) (renamed_callback name c)) (cancelled_callback target cancel c) ∙ one (is_cancelled_by target cancel c)) (cancel_renamed target cancel cs)
    where
      one : (b : Bool) → cond b (cancelled (renamed_callback name c)) (renamed_callback name c) ≡ renamed_callback name (cond b (cancelled c) c)
      one true = refl
      one false = refl

  numbers_renamed : (cs : List CallbackRow) → map (λ (c : CallbackRow). c.number) (map (renamed_callback name) cs) ≡ map name (map (λ (c : CallbackRow). c.number) cs)
  numbers_renamed [] = refl
  numbers_renamed (c ∷ cs) = ap (λ ns. name c.number ∷ ns) (numbers_renamed cs)

  pub covered_renamed : (target : WaitTarget) (cancel : Bool) (cs : List CallbackRow) → covered_of target cancel (map (renamed_callback name) cs) ≡ map name (covered_of target cancel cs)
  covered_renamed target cancel cs =
      ap (map (λ (c : CallbackRow). c.number)) (filter_map (renamed_callback name) (is_covered_by target cancel) (is_covered_by target cancel) (covered_callback target cancel) cs)
      ∙ numbers_renamed (filter (is_covered_by target cancel) cs)

  pub covered_behind : (target : WaitTarget) (cancel : Bool) (cs : List CallbackRow)
      → covered_of target cancel (cancel_where (is_cancelled_by target cancel) (map (renamed_callback name) cs)) ≡ map name (covered_of target cancel (cancel_where (is_cancelled_by target cancel) cs))
  covered_behind target cancel cs = ap (covered_of target cancel) (cancel_renamed target cancel cs) ∙ covered_renamed target cancel (cancel_where (is_cancelled_by target cancel) cs)

  module _ (naming : IsNaming name) (w : World) where
    abbrev u : World
    u = renamed name w

    pub count_covered_renamed : (target : WaitTarget) (cancel : Bool) → count_covered u target cancel ≡ count_covered w target cancel
    count_covered_renamed target cancel = ap length (covered_behind target cancel w.callbacks) ∙ length-map (covered_of target cancel (cancel_where (is_cancelled_by target cancel) w.callbacks)) name

    pub count_cancelled_renamed : (target : WaitTarget) (cancel : Bool) → count_cancelled_by u target cancel ≡ count_cancelled_by w target cancel
    count_cancelled_renamed target cancel = count_renamed name naming w (is_cancelled_by target cancel) (cancelled_callback target cancel)

    pub outstanding_renamed : (target : WaitTarget) → count_outstanding target u ≡ count_outstanding target w
    outstanding_renamed target = count_renamed name naming w (is_outstanding_for target) (outstanding_callback target)

    -- ---- what a wait is still for

    is_held_renamed : (target : WaitTarget) (n : ℕ) → is_held u target (name n) ≡ is_held w target n
    is_held_renamed target n =
        ap (λ o. option_map_or (is_outstanding_for target) o false) (callback_renamed name naming w n)
        ∙ found_map (renamed_callback name) (is_outstanding_for target) (is_outstanding_for target) (outstanding_callback target) (callback_of w n) false

    pub held_renamed : (b : BegunWait) → held u (renamed_wait name b) ≡ map name (held w b)
    held_renamed b = filter_map name (is_held u b.target) (is_held w b.target) (is_held_renamed b.target) b.covered

    starved_callback : (room : ℕ) (c : CallbackRow) → is_starved u room (renamed_callback name c) ≡ is_starved w room c
    starved_callback room c = ap (λ a. is_pending c.status && (nat_lt room 2 || (nat_lt room 4 && (a == 0)))) (staff_renamed name naming w c.pool.0)

    pub starved_renamed : (room : ℕ) (numbers : List ℕ) → holds_starved u room (map name numbers) ≡ holds_starved w room numbers
    starved_renamed room [] = refl
    starved_renamed room (n ∷ ns) =
        ap₂ (λ a b. a || b)
        (
        ap (λ o. option_map_or (is_starved u room) o false) (callback_renamed name naming w n)
        ∙ found_map (renamed_callback name) (is_starved u room) (is_starved w room) (starved_callback room) (callback_of w n) false
        )
        (starved_renamed room ns)
