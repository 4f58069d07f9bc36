-- What is counted of workers and pools behind a legal history.
use Rattle.std.proofs.Common.{◌≡◌, ℕ, zero, suc, ◌+◌, ◌<◌, ◌≤◌, ◌==◌, max, Bool, true, false, cond, ◌&&◌, List, [], ◌∷◌, length, Option, Some, None, is_none, is_some, slice_get, refl, sym, ap, subst, ◌∙◌, arith, filter}
use Rattle.std.specs.List.{fold}
use Rattle.std.specs.Option.{option_map_or}
use Rattle.std.proofs.lemmas.List.{length-replicate}
use Rattle.tp_base.specs.declared.answers.Entry.{Entry}
use Rattle.tp_base.specs.declared.calls.Call.{Call}
use Rattle.tp_base.specs.declared.calls.Call.TheVariants.{SetMaximum, SetMinimum}
use Rattle.tp_base.specs.declared.limits.Limits.{Limits}
use Rattle.tp_base.specs.declared.rows.PoolRow.{PoolRow}
use Rattle.tp_base.specs.declared.rows.WorkerRow.{WorkerRow}
use Rattle.tp_model.specs.Counts.{attached, idle, is_attached_to, is_idle_in, maximum, running}
use Rattle.tp_model.specs.History.{after, is_refusal, IsLegal}
use Rattle.tp_model.specs.Laws.Entries.{maximum_after, maximum_set}
use Rattle.tp_model.specs.Support.Sound.{IsSound}
use Rattle.tp_model.specs.World.{opening, unattached, unfinished, World}
use Rattle.tp_model.proofs.Entries.{entry_leads, kept_to_end, next_number_in, IsKept}
use Rattle.tp_model.proofs.Few.{few_more, rows_same, AreFew}
use Rattle.tp_model.proofs.Maximum.{is_staffed_on, opening_staffed, IsStaffed}
use Rattle.tp_model.proofs.Sound.{opening_sound}

-- the world is sound, has the clients and the workers of the limits, and as many of these are busy as callbacks run
pub record IsManned (limits : Limits) (before : List Entry) (w : World) : Type 0 where
  pub sound : IsSound (next_number_in w) w
  pub staffed : IsStaffed limits before w
  pub few : AreFew limits w

module _ (limits : Limits) where
  opening_manned : IsManned limits [] (opening limits)
  opening_manned = record {
    sound = opening_sound limits;
    staffed = opening_staffed limits;
    few = record { limits_same = refl; objects = omega arith; clients = length-replicate limits.clients unfinished; workers = length-replicate limits.workers unattached };
  }

  keeps_manned : IsKept (IsManned limits)
  keeps_manned before w left entry m told =
      let on = entry_leads w left entry m.sound told in
      record {
        sound = on.sound;
        staffed = is_staffed_on limits before w entry _ m.sound m.staffed on.leads;
        few = few_more limits w left entry _ on.leads (rows_same w left entry m.sound told) m.few told;
      }

  pub manned : (capacity : ℕ) (history : List Entry) → IsLegal limits capacity history → IsManned limits history (after limits history)
  manned capacity history legal = kept_to_end (IsManned limits) keeps_manned capacity 0 [] history (opening limits) opening_manned legal

no_row : (i : ℕ) (rows : List PoolRow) → i < length rows → slice_get rows i ≡ None → ⊥
no_row i [] inside none = absurd (omega (arith, inside))
no_row zero (r ∷ rows) inside none = cc
no_row (suc i) (r ∷ rows) inside none = no_row i rows (omega (arith, inside)) none

-- ---- workers of a pool run a callback or are idle

abbrev count : (WorkerRow → Bool) → List WorkerRow → ℕ
count test ws = length (filter test ws)

abbrev is_busy_in : ℕ → WorkerRow → Bool
is_busy_in pool row = is_attached_to pool row && is_some row.callback

attached_split : (pool : ℕ) (ws : List WorkerRow) → count (is_attached_to pool) ws ≡ count (is_busy_in pool) ws + count (is_idle_in pool) ws
attached_split pool [] = refl
attached_split pool (r ∷ rs) = one (is_attached_to pool r) r.callback (attached_split pool rs)
  where
    one : (here : Bool) (callback : Option ℕ) → count (is_attached_to pool) rs ≡ count (is_busy_in pool) rs + count (is_idle_in pool) rs
        → length (cond here (r ∷ filter (is_attached_to pool) rs) (filter (is_attached_to pool) rs))
        ≡ length (cond (here && is_some callback) (r ∷ filter (is_busy_in pool) rs) (filter (is_busy_in pool) rs)) + length (cond (here && is_none callback) (r ∷ filter (is_idle_in pool) rs) (filter (is_idle_in pool) rs))
    one true (Some number) more = omega (arith, more)
    one true None more = omega (arith, more)
    one false (Some number) more = more
    one false None more = more

module _ (limits : Limits) (history : List Entry) (w : World) (m : IsManned limits history w) where
  pub attached_is : (pool : ℕ) → attached w pool ≡ running w pool + idle w pool
  attached_is pool = attached_split pool w.workers ∙ ap (λ (n : ℕ). n + idle w pool) (m.staffed.runs pool)

  -- ---- a pool's maximum

  set_some : (pool most : ℕ) (made : Call) → 1 ≤ most → 1 ≤ maximum_set pool most made
  set_some pool most (SetMaximum other value) some = elim (other.0 == pool) as (λ b. 1 ≤ cond b (max value 1) most) [ true ↦ omega arith | false ↦ some ]
  set_some pool most (SetMinimum other value) some = elim (other.0 == pool) as (λ b. 1 ≤ cond b (max most value) most) [ true ↦ omega (arith, some) | false ↦ some ]
  set_some pool most _ some = some

  maximum_some : (pool most : ℕ) (entries : List Entry) → 1 ≤ most → 1 ≤ fold (maximum_after pool) most entries
  maximum_some pool most [] some = some
  maximum_some pool most (e ∷ entries) some = maximum_some pool (maximum_after pool most e) entries (set_by (is_refusal e.answer))
    where
      set_by : (refused : Bool) → 1 ≤ cond refused most (maximum_set pool most e.call)
      set_by true = some
      set_by false = set_some pool most e.call some

  pub some_may_run : 1 ≤ limits.workers → (pool : ℕ) → pool < length w.pools → 1 ≤ maximum w pool
  some_may_run workers pool made = of_row (slice_get w.pools pool) refl (subst (λ (n : ℕ). 1 ≤ n) (sym (m.staffed.maxima pool)) (maximum_some pool limits.workers history workers))
    where
      of_row : (row : Option PoolRow) → slice_get w.pools pool ≡ row → 1 ≤ option_map_or (λ (p : PoolRow). p.maximum) row w.limits.workers → 1 ≤ option_map_or (λ (p : PoolRow). p.maximum) row 0
      of_row None none some = absurd (no_row pool w.pools made none)
      of_row (Some row) is some = some
