-- Callbacks that are made one after another: what can be made of all jobs can be made of the first of them, and then of the
-- others.
use Rattle.std.proofs.Common.{◌≡◌, ℕ, ◌+◌, ◌<◌, ◌≤◌, Bool, true, false, cond, not, List, [], ◌∷◌, ◌++◌, length, map, filter, refl, sym, ap, ap₂, ◌∙◌, subst, arith, length-append}
use Rattle.std.specs.List.{AllByRecursion}
use Rattle.std.proofs.lemmas.List.{append_assoc, append-nil, length-map, nil_from_length}
use Rattle.tp_base.specs.declared.plans.Trigger.TheVariants.{Advance}
use Rattle.tp_base.specs.declared.rows.TimerSetting.{TimerSetting}
use Rattle.tp_base.specs.Armings.{armed_behind}
use Rattle.tp_base.specs.Timers.{expired, is_due, set_all_again}
use Rattle.tp_base.specs.declared.rows.CallbackRow.{CallbackRow}
use Rattle.tp_base.specs.declared.rows.ObjectRow.{ObjectRow}
use Rattle.live_callbacks.specs.Callbacks.{Callbacks}
use Rattle.sources.specs.Firing.{before}
use Rattle.sources.specs.Rows.{SourceRows, with_sources}
use Rattle.sources.proofs.Armed.{behind_none}
use Rattle.tp_model.specs.Sources.{Sources, Firing, Job, expiry_job, firing, jobless, new_callback, object_row, rows_of}
use Rattle.tp_model.proofs.Firing.{length_rows}
use Rattle.tp_model.proofs.Lists.{all_along, all_appended}
use Rattle.live_world.specs.Making.{CanMake, IsFired, IsUsable, with_jobs}

-- ---- the rows of jobs

-- and of further ones
pub rows_append : (objects : List ObjectRow) (number : ℕ) (js ks : List Job) → rows_of objects number (js ++ ks) ≡ rows_of objects number js ++ rows_of objects (number + length js) ks
rows_append objects number [] ks = ap (λ n. rows_of objects n ks) (omega arith)
rows_append objects number (j ∷ js) ks =
    ap (λ cs. new_callback number j.object (object_row objects j.object) j.result ∷ cs)
    (rows_append objects (number + 1) js ks ∙ ap (λ n. rows_of objects (number + 1) js ++ rows_of objects n ks) (omega arith))

rows_below : (objects : List ObjectRow) (number most : ℕ) (js : List Job) → number + length js ≤ most → AllByRecursion (λ (c : CallbackRow). c.number < most) (rows_of objects number js)
rows_below objects number most [] le = tt
rows_below objects number most (j ∷ js) le = (omega (arith, le), rows_below objects (number + 1) most js (omega (arith, le)))

all_parts : {X : Type 0} (P : X → Type 0) (xs ys : List X) → AllByRecursion P (xs ++ ys) → AllByRecursion P xs × AllByRecursion P ys
all_parts P [] ys h = (tt, h)
all_parts P (x ∷ xs) ys h = let rest = all_parts P xs ys h.1 in ((h.0, rest.0), rest.1)

-- ---- some of the jobs, and the others behind them

module _ (callbacks : Callbacks) (objects : List ObjectRow) (number : ℕ) (js ks : List Job) where
  pub can_front : CanMake callbacks objects number (js ++ ks) → CanMake callbacks objects number js
  can_front can =
      record {
        room = omega (arith, can.room, length-append js ks);
        last = can.last;
        usable = (all_parts (λ (j : Job). IsUsable callbacks objects j.object) js ks can.usable).0;
      }

  pub can_behind : CanMake callbacks objects number (js ++ ks) → CanMake (with_jobs callbacks objects number js) objects (number + length js) ks
  can_behind can =
      record {
        room = omega (arith, can.room, length-append js ks, length-append callbacks.rows (rows_of objects number js), length_rows objects number js);
        last = all_appended (λ (c : CallbackRow). c.number < number + length js) callbacks.rows (rows_of objects number js)
            (all_along (λ (c : CallbackRow). c.number < number) (λ (c : CallbackRow). c.number < number + length js) (λ c lt. omega (arith, lt)) callbacks.rows can.last)
            (rows_below objects number (number + length js) js (omega arith));
        usable = all_along (λ (j : Job). IsUsable callbacks objects j.object) (λ (j : Job). IsUsable (with_jobs callbacks objects number js) objects j.object)
            (λ j u. record { made = u.made; known = u.known; pool = u.pool }) ks (all_parts (λ (j : Job). IsUsable callbacks objects j.object) js ks can.usable).1;
      }

  pub jobs_behind : with_jobs (with_jobs callbacks objects number js) objects (number + length js) ks ≡ with_jobs callbacks objects number (js ++ ks)
  jobs_behind =
      ap (λ rows. record callbacks { rows = rows })
      (append_assoc callbacks.rows (rows_of objects number js) (rows_of objects (number + length js) ks) ∙ ap (λ rows. callbacks.rows ++ rows) (sym (rows_append objects number js ks)))

-- ---- firings

-- one behind another
abbrev pub behind : Firing → Firing → Firing
behind f g = record { sources = g.sources; jobs = f.jobs ++ g.jobs }

pub fired_twice : {objects : List ObjectRow} {made now count : ℕ} {s t u : SourceRows} {c d e : Callbacks} (f g : Firing) → IsFired f objects made now s t c d → IsFired g objects now count t u d e → IsFired (behind f g) objects made count s u c e
fired_twice {objects} {made} {now} {count} {s} {t} {u} {c} {d} {e} f g h k =
    record {
      sources = k.sources ∙ ap (λ (x : SourceRows). with_sources x g.sources) h.sources;
      callbacks = k.callbacks ∙ ap₂ (λ (x : Callbacks) (n : ℕ). with_jobs x objects n g.jobs) h.callbacks (omega (arith, h.number)) ∙ jobs_behind c objects (made + 1) f.jobs g.jobs;
      number = omega (arith, h.number, k.number, length-append f.jobs g.jobs);
    }

-- where nothing fires
pub fired_none : (objects : List ObjectRow) (made : ℕ) (s t : SourceRows) (c : Callbacks) (x : Sources) → t ≡ with_sources s x → IsFired (jobless x) objects made made s t c c
fired_none objects made s t c x is = record { sources = is; callbacks = ap (λ rows. record c { rows = rows }) (sym (append-nil c.rows)); number = omega arith }

kept_all : {X : Type 0} (p : X → Bool) (xs : List X) → length (filter p xs) ≡ 0 → filter (λ x. not (p x)) xs ≡ xs
kept_all p [] none = refl
kept_all p (x ∷ xs) none =
    elim (p x) as (λ b. length (cond b (x ∷ filter p xs) (filter p xs)) ≡ 0 → cond (not b) (x ∷ filter (λ y. not (p y)) xs) (filter (λ y. not (p y)) xs) ≡ x ∷ xs) [
      | true ↦ λ e. absurd (omega (arith, e))
      | false ↦ λ e. ap (λ ys. x ∷ ys) (kept_all p xs e)
    ] none

-- nothing is due at this moment: the clock comes to it, and that is all
quiet : (now : ℕ) (s : Sources) → length (firing (Advance now) s).jobs ≡ 0 → firing (Advance now) s ≡ jobless (record s { now = now })
quiet now s none =
    let nobody : length (expired now s.settings) ≡ 0 = sym (length-map (expired now s.settings) (expiry_job s.armings)) ∙ none in
    ap (λ due. record {
      sources = record s { settings = set_all_again now due (filter (λ (t : TimerSetting). not (is_due now t)) s.settings); armings = armed_behind due s.armings; now = now };
      jobs = map (expiry_job s.armings) due;
    }) (nil_from_length (expired now s.settings) nobody)
    ∙ ap₂ (λ settings armings. jobless (record s { settings = settings; armings = armings; now = now })) (kept_all (is_due now) s.settings nobody) (behind_none s.armings)

pub fired_quiet : (objects : List ObjectRow) (made now count : ℕ) (s t : SourceRows) (c : Callbacks) → count ≡ length (firing (Advance now) s.sources).jobs → count ≡ 0 → t ≡ with_sources s (record s.sources { now = now }) → IsFired (firing (Advance now) s.sources) objects made made s t c c
fired_quiet objects made now count s t c counted zero is =
    rw (quiet now s.sources (sym counted ∙ zero)) (fired_none objects made s t c (record s.sources { now = now }) is)

-- ---- all that a cause fires, in part

-- of all of it this is left, and the callbacks of the others were made
pub record IsFiring (all rest : Firing) (objects : List ObjectRow) (made now : ℕ) (s t : SourceRows) (c d : Callbacks) : Type 0 where
  pub done : List Job
  pub jobs : all.jobs ≡ done ++ rest.jobs
  pub ends : all.sources ≡ rest.sources
  pub sources : t ≡ with_sources s t.sources
  pub callbacks : d ≡ with_jobs c objects (made + 1) done
  pub number : now ≡ made + length done

pub firing_first : (all : Firing) (objects : List ObjectRow) (made : ℕ) (s : SourceRows) (c : Callbacks) → IsFiring all all objects made made s s c c
firing_first all objects made s c =
    record { done = []; jobs = refl; ends = refl; sources = refl; callbacks = ap (λ rows. record c { rows = rows }) (sym (append-nil c.rows)); number = omega arith }

module _ {all rest : Firing} {objects : List ObjectRow} {made now : ℕ} {s t : SourceRows} {c d : Callbacks} (k : IsFiring all rest objects made now s t c d) where
  -- the first of what is left can be made
  pub can_first : (j : Job) (left : Firing) → rest ≡ before (j ∷ []) left → CanMake c objects (made + 1) all.jobs → CanMake d objects (now + 1) (j ∷ [])
  can_first j left is can =
      let split : all.jobs ≡ (k.done ++ j ∷ []) ++ left.jobs = k.jobs ∙ ap (λ (f : Firing). k.done ++ f.jobs) is ∙ sym (append_assoc k.done (j ∷ []) left.jobs) in
      let front : CanMake c objects (made + 1) (k.done ++ j ∷ []) = can_front c objects (made + 1) (k.done ++ j ∷ []) left.jobs (subst (λ js. CanMake c objects (made + 1) js) split can) in
      let next_number : (made + 1) + length k.done ≡ now + 1 = omega (arith, k.number) in
      subst (λ (x : Callbacks). CanMake x objects (now + 1) (j ∷ [])) (sym k.callbacks)
      (subst (λ n. CanMake (with_jobs c objects (made + 1) k.done) objects n (j ∷ [])) next_number (can_behind c objects (made + 1) k.done (j ∷ []) front))

  pub young_first : (j : Job) (left : Firing) (most : ℕ) → rest ≡ before (j ∷ []) left → made + length all.jobs ≤ most → now + 1 ≤ most
  young_first j left most is young = omega (arith, k.number, ap length k.jobs, length-append k.done rest.jobs, ap (λ (f : Firing). length f.jobs) is, young)

  -- and then the others are left
  pub firing_next : (j : Job) (left : Firing) (count : ℕ) (u : SourceRows) (e : Callbacks) → rest ≡ before (j ∷ []) left → u ≡ with_sources t u.sources → e ≡ with_jobs d objects (now + 1) (j ∷ []) → count ≡ now + 1 → IsFiring all left objects made count s u c e
  firing_next j left count u e is sources_now callbacks_now more =
      record {
        done = k.done ++ j ∷ [];
        jobs = k.jobs ∙ ap (λ (f : Firing). k.done ++ f.jobs) is ∙ sym (append_assoc k.done (j ∷ []) left.jobs);
        ends = k.ends ∙ ap (λ (f : Firing). f.sources) is;
        sources = sources_now ∙ ap (λ (x : SourceRows). with_sources x u.sources) k.sources;
        callbacks =
            callbacks_now ∙ ap₂ (λ (x : Callbacks) n. with_jobs x objects n (j ∷ [])) k.callbacks (omega (arith, k.number))
            ∙ jobs_behind c objects (made + 1) k.done (j ∷ []);
        number = omega (arith, more, k.number, length-append k.done (j ∷ []));
      }

  -- nothing is left
  pub firing_over : (u : SourceRows) → rest ≡ jobless t.sources → u ≡ t → IsFired all objects made now s u c d
  firing_over u is same =
      let none : all.jobs ≡ k.done = k.jobs ∙ ap (λ (f : Firing). k.done ++ f.jobs) is ∙ append-nil k.done in
      record {
        sources = same ∙ k.sources ∙ ap (with_sources s) (sym (k.ends ∙ ap (λ (f : Firing). f.sources) is));
        callbacks = k.callbacks ∙ ap (with_jobs c objects (made + 1)) (sym none);
        number = omega (arith, k.number, ap length none);
      }
