-- A world where two workers change places is closed to the closed world, with these in the other's place.
use mathlib.Core.Path.{fun_ext}
use Rattle.std.proofs.Common.{◌≡◌, ℕ, zero, suc, ◌+◌, ◌<◌, List, [], ◌∷◌, length, map, cond, refl, ap, ap₂, ◌∙◌, filter}
use Rattle.tp_base.specs.declared.rows.CallbackRow.{CallbackRow}
use Rattle.tp_base.specs.declared.rows.WorkerRow.{WorkerRow}
use Rattle.tp_model.specs.World.{World, BegunWait}
use Rattle.tp_model.specs.Counts.{has_number, is_live}
use Rattle.tp_model.specs.Support.Remembered.{forget, lives}
use Rattle.renamed_worlds.specs.Closed.{closed, further, named_by_place, place_of, settled, settled_wait, tidied}
use Rattle.renamed_worlds.specs.Exchanged.{exchanged, exchanged_callback, exchanged_rows, exchanged_wait}
use Rattle.renamed_worlds.specs.Renamed.{renamed, renamed_callback, renamed_wait, renamed_worker}
use Rattle.renamed_worlds.proofs.Exchange.Queries.{status_same}
use Rattle.renamed_worlds.proofs.Exchange.Waiting.{held_exchanged}
use Rattle.renamed_worlds.proofs.Mapped.{filter_map}

workers_both : (name : ℕ → ℕ) (at : ℕ) (rs : List WorkerRow) → map (renamed_worker name) (exchanged_rows at rs) ≡ exchanged_rows at (map (renamed_worker name) rs)
workers_both name at [] = refl
workers_both name zero (r ∷ []) = refl
workers_both name zero (r ∷ s ∷ rs) = refl
workers_both name (suc at) (r ∷ rs) = ap (λ xs. renamed_worker name r ∷ xs) (workers_both name at rs)

module _ (at : ℕ) where
  living_exchanged : (cs : List CallbackRow) → filter lives (map (exchanged_callback at) cs) ≡ map (exchanged_callback at) (filter lives cs)
  living_exchanged cs = filter_map (exchanged_callback at) lives lives (λ c. status_same at is_live (λ _ _ _. refl) c.status) cs

  settled_exchanged : (w : World) → at + 1 < length w.workers → settled (exchanged at w) ≡ exchanged at (settled w)
  settled_exchanged w fits = ap (λ (bs : List BegunWait). record (exchanged at w) { waits = bs }) (each w.waits)
    where
      each : (bs : List BegunWait) → map (settled_wait (exchanged at w)) (map (exchanged_wait at) bs) ≡ map (exchanged_wait at) (map (settled_wait w) bs)
      each [] = refl
      each (b ∷ bs) = ap₂ (λ (ns : List ℕ) xs. record (exchanged_wait at b) { covered = ns } ∷ xs) (held_exchanged at w fits b) (each bs)

  tidied_exchanged : (w : World) → at + 1 < length w.workers → tidied (exchanged at w) ≡ exchanged at (tidied w)
  tidied_exchanged w fits = ap (λ (cs : List CallbackRow). settled (record (exchanged at w) { callbacks = cs })) (living_exchanged w.callbacks) ∙ settled_exchanged (forget w) fits

  -- ---- names and places of workers

  place_exchanged : (cs : List CallbackRow) (number : ℕ) → place_of (map (exchanged_callback at) cs) number ≡ place_of cs number
  place_exchanged [] number = refl
  place_exchanged (c ∷ cs) number = ap (λ p. cond (has_number number c) 1 (further p)) (place_exchanged cs number)

  module _ (name : ℕ → ℕ) where
    callbacks_both : (cs : List CallbackRow) → map (renamed_callback name) (map (exchanged_callback at) cs) ≡ map (exchanged_callback at) (map (renamed_callback name) cs)
    callbacks_both [] = refl
    callbacks_both (c ∷ cs) = ap (λ xs. exchanged_callback at (renamed_callback name c) ∷ xs) (callbacks_both cs)

    waits_both : (bs : List BegunWait) → map (renamed_wait name) (map (exchanged_wait at) bs) ≡ map (exchanged_wait at) (map (renamed_wait name) bs)
    waits_both [] = refl
    waits_both (b ∷ bs) = ap (λ xs. exchanged_wait at (renamed_wait name b) ∷ xs) (waits_both bs)

    renamed_both : (w : World) → renamed name (exchanged at w) ≡ exchanged at (renamed name w)
    renamed_both w =
        ap₂ (λ (cs : List CallbackRow) (rs : List WorkerRow). record (exchanged at w) { callbacks = cs; workers = rs; waits = map (renamed_wait name) (map (exchanged_wait at) w.waits) }) (callbacks_both w.callbacks) (workers_both name at w.workers)
        ∙ ap (λ (bs : List BegunWait). record (exchanged at (renamed name w)) { waits = bs }) (waits_both w.waits)

  named_exchanged : (w : World) → named_by_place (exchanged at w) ≡ exchanged at (named_by_place w)
  named_exchanged w = ap (λ (name : ℕ → ℕ). renamed name (exchanged at w)) (fun_ext (place_exchanged w.callbacks)) ∙ renamed_both (place_of w.callbacks) w

  pub closed_exchanged : (w : World) → at + 1 < length w.workers → closed (exchanged at w) ≡ exchanged at (closed w)
  closed_exchanged w fits = ap named_by_place (tidied_exchanged w fits) ∙ named_exchanged (tidied w)
