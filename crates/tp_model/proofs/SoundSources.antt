-- What is true of reachable worlds stays true where a trigger makes callbacks and leaves other sources.
use Rattle.std.proofs.Common.{◌≡◌, ℕ, ◌+◌, ◌<◌, ◌≤◌, Bool, true, false, ◌==◌, List, [], ◌∷◌, ◌++◌, length, refl, sym, ap, ◌∙◌, subst, arith, eqb-true}
use Rattle.tp_base.specs.declared.rows.ObjectRow.{ObjectRow}
use Rattle.tp_base.specs.declared.rows.CallbackRow.{CallbackRow}
use Rattle.tp_model.specs.Conditions.{is_same_kind}
use Rattle.tp_base.specs.declared.plans.Trigger.{Trigger}
use Rattle.tp_base.specs.declared.plans.Trigger.TheVariants.{SetTimer}
use Rattle.tp_base.specs.declared.calls.Kind.TheVariants.{Wait}
use Rattle.tp_base.specs.Timers.{clock_end}
use Rattle.tp_model.specs.Laws.Entries.{set_on}
use Rattle.tp_model.specs.Support.Told.{sets_of}
use Rattle.tp_model.specs.Support.Moves.{count_allowed}
use Rattle.std.proofs.lemmas.List.{append_assoc, append-nil}
use Rattle.tp_model.specs.Sources.{Sources, Job, Firing, firing, sources_of, rows_of, new_callback, object_row, fired}
use Rattle.tp_model.specs.Support.Allowed.{IsReady}
use Rattle.tp_model.proofs.Firing.{AreJobsOf, AreSourcesIn, IsFiringIn, row_of_made, made_stands, fired_in, fired_clock, jobs_made}
use Rattle.tp_model.proofs.Counted.{IsApart, IsCounted, firing_counted}
use Rattle.tp_model.specs.World.{World}
use Rattle.tp_model.specs.Changes.{with_new_callback}
use Rattle.tp_model.specs.Support.Sound.{HasObject, IsSound, IsMade, is_wait_at, count_armed, IsTimedOut}
use Rattle.tp_model.proofs.Refusals.{false_true}
use Rattle.tp_model.proofs.SoundCallbacks.{sound_new_callback}
use Rattle.tp_model.proofs.SoundObjects.{wait_row}

-- callbacks are appended one after another
pub sound_rows : (next_number : ℕ) (w : World) (jobs : List Job) → AreJobsOf (IsMade (length w.objects)) jobs → IsSound next_number w → IsSound (next_number + length jobs) (record w { callbacks = w.callbacks ++ rows_of w.objects next_number jobs })
sound_rows next_number w [] made s =
    subst (λ (cs : List CallbackRow). IsSound (next_number + 0) (record w { callbacks = cs })) (sym (append-nil w.callbacks)) (subst (λ n. IsSound n w) (omega arith) s)
sound_rows next_number w (j ∷ js) made s =
    let c : CallbackRow = new_callback next_number j.object (object_row w.objects j.object) j.result in
    let home : c.pool.0 < length w.pools = row_of_made (λ (o : ObjectRow). o.env.pool.0 < length w.pools) w.objects j.object s.object_pools made.0.0 in
    let own : HasObject w.objects c = record { row = object_row w.objects j.object; stands = made_stands w.objects j.object made.0.0; home = refl; group = refl; persistent = refl } in
    let more : IsSound (next_number + 1 + length js) (record w { callbacks = (w.callbacks ++ c ∷ []) ++ rows_of w.objects (next_number + 1) js })
    = sound_rows (next_number + 1) (with_new_callback w c) js made.1 (sound_new_callback next_number w c refl home (λ _. own) (λ operates. absurd (false_true operates)) s) in
    subst (λ (cs : List CallbackRow). IsSound (next_number + length (j ∷ js)) (record w { callbacks = cs })) (append_assoc w.callbacks (c ∷ []) (rows_of w.objects (next_number + 1) js))
    (subst (λ n. IsSound n (record w { callbacks = (w.callbacks ++ c ∷ []) ++ rows_of w.objects (next_number + 1) js })) (omega arith) more)

-- the sources of a world
pub sources_in : (next_number : ℕ) (w : World) → IsSound next_number w → AreSourcesIn w.objects (sources_of w)
sources_in next_number w s = record { settings = s.timers; armings = s.armings }

-- and other ones
pub sound_sources : (next_number : ℕ) (w : World) (s : Sources) → AreSourcesIn w.objects s → ((object : ℕ) → is_wait_at w.objects object ≡ true → IsTimedOut object s.settings s.armings) → s.now ≤ clock_end → IsSound next_number w
    → IsSound next_number (record w { settings = s.settings; armings = s.armings; kernels = s.kernels; now = s.now })
sound_sources next_number w s made timed within sound =
    record {
      numbers = sound.numbers;
      workers = sound.workers;
      object_pools = sound.object_pools;
      apart = sound.apart;
      waits = sound.waits;
      callback_objects = sound.callback_objects;
      callback_pools = sound.callback_pools;
      timers = made.settings;
      armings = made.armings;
      timeouts = timed;
      clock = within;
      operations = sound.operations;
      notices = sound.notices;
    }

-- a timer is no wait object
pub ready_apart : (w : World) (trigger : Trigger) → IsReady w trigger → (object : ℕ) → is_wait_at w.objects object ≡ true → IsApart object trigger
ready_apart w (SetTimer object due period window) ready n wait = known (object.0 == n) refl
  where
    known : (b : Bool) → (object.0 == n) ≡ b → (object.0 == n) ≡ false
    known false is = is
    known true is = absurd (false_true (sym (ap wait_row ready.stands ∙ ap (λ k. is_same_kind k Wait) ready.kind) ∙ ap (is_wait_at w.objects) (eqb-true object.0 n is) ∙ wait))
ready_apart w _ ready n wait = tt

pub fired_counted : (next_number : ℕ) (w : World) (trigger : Trigger) → IsReady w trigger → IsSound next_number w → (object : ℕ) → is_wait_at w.objects object ≡ true
    → IsCounted object (count_allowed (set_on object (sets_of trigger)) (count_armed object w.armings)) (firing trigger (sources_of w))
fired_counted next_number w trigger ready s object wait = firing_counted object trigger (sources_of w) (ready_apart w trigger ready object wait) (s.timeouts object wait)

pub sound_fired : (next_number : ℕ) (w : World) (trigger : Trigger) → IsReady w trigger → IsSound next_number w → IsSound (next_number + length (firing trigger (sources_of w)).jobs) (fired w next_number (firing trigger (sources_of w)))
sound_fired next_number w trigger ready s =
    let f : Firing = firing trigger (sources_of w) in
    let made : IsFiringIn w.objects f = fired_in w trigger ready (sources_in next_number w s) in
    sound_rows next_number (record w { settings = f.sources.settings; armings = f.sources.armings; kernels = f.sources.kernels; now = f.sources.now }) f.jobs (jobs_made w.objects f.jobs made.jobs)
    (sound_sources next_number w f.sources made.sources (λ object wait. (fired_counted next_number w trigger ready s object wait).timed) (fired_clock w trigger ready s.clock) s)
