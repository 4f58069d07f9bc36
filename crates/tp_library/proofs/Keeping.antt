-- What is kept beside a machine tells what holds each library.
use Rattle.std.proofs.Common.{◌≡◌, ℕ, ◌+◌, ◌<◌, ◌≤◌, ◌==◌, ◌&&◌, ◌^◌, true, false, not, [], ◌∷◌, length, nat_lt, replicate, refl, sym, ap, ◌∙◌, subst, arith, get_or, zero, suc, None}
use Rattle.std.specs.Prelude.{map}
use Rattle.std.specs.List.{zip}
use Rattle.std.proofs.lemmas.Bool.Decides.{nat_tests}
use Rattle.std.proofs.lemmas.List.{get_or-replicate, length-replicate}
use Rattle.std.proofs.lemmas.List.Sums.{count_by-le-length}
use Rattle.std.proofs.lemmas.Slice.Zip.{length-zip}
use Rattle.tp_base.specs.declared.limits.Limits.{Limits}
use Rattle.tp_base.specs.declared.rows.ClientRow.{ClientRow}
use Rattle.tp_base.specs.declared.rows.WorkerRow.{WorkerRow}
use Rattle.tp_base.specs.Ranges.{AreLimitsInRange}
use Rattle.tp_model.specs.World.{opening, unattached, unfinished}
use Rattle.tp_model.proofs.Fitting.{legal_fits}
use Rattle.recorded.specs.Recordings.{world_behind, Recording}
use Rattle.tp_library.proofs.Tallies.{none_at}
use Rattle.tp_library.specs.Acting.{opening_actors}
use Rattle.tp_library.specs.Tallied.{none_held, opening_counts, row_of}
use Rattle.tp_library.specs.Kept.{held_by, run_in, stand_of, AreOpened, IsKept}
use Rattle.tp_library.specs.Libraries.{is_unloaded, IsLibrary}
use Rattle.tp_base.specs.declared.ids.Who.{Who}
use Rattle.tp_library.specs.Stepped.{IsStep}
use Rattle.tp_library.specs.declared.LibAnswer.{LibAnswer}
use Rattle.tp_library.specs.declared.LibCall.{LibCall}
use Rattle.tp_library.specs.Seen.{was_held, was_unloaded}
use Rattle.tp_library.specs.Shelves.{holds, is_callback_in, is_object_in, objects_in}
use Rattle.tp_library.specs.Tallies.{at}
use Rattle.tp_library.specs.declared.beside.Beside.{Beside}
use Rattle.tp_library.specs.declared.TheConstants.{LIBRARY_LIMIT}
use Rattle.tp_library.proofs.Counting.{callbacks_parted}
use Rattle.tp_library.proofs.EffectsOf.{reached}

pub holds_as : (r : Recording) (b : Beside) → IsKept r b → (library : ℕ) → library ≤ LIBRARY_LIMIT → held_by b library ≡ holds (stand_of r b) library
holds_as r b k library h = omega (
  arith,
  k.counts.owned library h,
  k.counts.left library h,
  k.counts.running library h,
  callbacks_parted (world_behind r) b.shelf.shelf library,
)

-- ---- there are few of all

pub few_objects : (r : Recording) (b : Beside) → IsKept r b → (library : ℕ) → objects_in (world_behind r) b.shelf.shelf library ≤ 65535
few_objects r b k library =
    let w = world_behind r in
    omega (
      arith,
      count_by-le-length (is_object_in library) (zip w.objects b.shelf.shelf.of_object),
      length-zip w.objects b.shelf.shelf.of_object,
      (reached r k.legal).few.objects,
      k.limits.objects_most,
    )

pub few_entries : (r : Recording) (b : Beside) → IsKept r b → length r.history < 2 ^ 32
few_entries r b k = omega (arith, legal_fits r.limits r.capacity r.capacity r.history (omega arith) k.clients k.legal, k.capacity)

pub few_callbacks : (r : Recording) (b : Beside) → IsKept r b → length (world_behind r).callbacks < 2 ^ 48
few_callbacks r b k = omega (arith, k.callbacks_few, few_entries r b k)

pub few_held : (r : Recording) (b : Beside) → IsKept r b → (library : ℕ) → library ≤ LIBRARY_LIMIT → at b.counts.owned library + at b.counts.left library + at b.counts.running library < 2 ^ 63
few_held r b k library h =
    let w = world_behind r in
    omega (
      arith,
      k.counts.owned library h,
      k.counts.left library h,
      k.counts.running library h,
      callbacks_parted w b.shelf.shelf library,
      few_objects r b k library,
      count_by-le-length (is_callback_in b.shelf.shelf library) w.callbacks,
      few_callbacks r b k,
    )

pub not_held : (n : ℕ) → not (nat_lt 0 n) ≡ (n == 0)
not_held n = grind (arith, nat_tests)

-- ---- where nothing was done

none_before : (n k : ℕ) → get_or (replicate n false) k false ≡ false
none_before zero k = refl
none_before (suc n) zero = refl
none_before (suc n) (suc k) = none_before n k

map_replicate : {A B : Type 0} (f : A → B) (n : ℕ) (x : A) → map f (replicate n x) ≡ replicate n (f x)
map_replicate f zero x = refl
map_replicate f (suc n) x = ap (λ ys. f x ∷ ys) (map_replicate f n x)

pub unloaded_as : (r : Recording) (b : Beside) → IsKept r b → (library : ℕ) → library ≤ LIBRARY_LIMIT → was_held b.before.items library ≡ true
    → not (nat_lt 0 (held_by b library)) ≡ was_unloaded (record { stand = stand_of r b; before = b.before.items }) library
unloaded_as r b k library h held =
    ap (λ n. not (nat_lt 0 n)) (holds_as r b k library h)
    ∙ not_held (holds (stand_of r b) library)
    ∙ sym (ap (λ x. x && (holds (stand_of r b) library == 0)) held)

row_replicated : (n group : ℕ) → group < length (replicate n none_held) → length (row_of (replicate n none_held) group) ≡ LIBRARY_LIMIT + 1
row_replicated n group h =
    ap length (get_or-replicate n group none_held [] (omega (arith, h, length-replicate n none_held))) ∙ length-replicate {A = ℕ} (LIBRARY_LIMIT + 1) 0

at_replicated : (n group library : ℕ) → group < length (replicate n none_held) → at (row_of (replicate n none_held) group) library ≡ 0
at_replicated n group library h =
    ap (λ t. at t library) (get_or-replicate n group none_held [] (omega (arith, h, length-replicate n none_held))) ∙ none_at (LIBRARY_LIMIT + 1) library

module _ (limits : Limits) (capacity : ℕ) (in_range : AreLimitsInRange limits) (clients : limits.clients ≤ capacity) (fits : capacity < 2 ^ 32) where
  begun : Recording
  begun = record { limits = limits; capacity = capacity; history = [] }

  beside : Beside → Beside
  beside b = record {
    shelf = record { shelf = record { loads = none_held; of_object = []; of_simple = []; slots = replicate limits.workers 0 }; objects = limits.objects; simple = capacity };
    counts = opening_counts limits.groups limits.objects;
    actors = opening_actors limits.clients limits.workers;
    before = b.before;
  }

  opens : (b : Beside) → AreOpened limits capacity b → IsKept begun (beside b)
  unfolding begun beside
  opens b o = record {
    legal = tt;
    limits = in_range;
    clients = clients;
    capacity = fits;
    shelf = record { objects = refl; simples = tt };
    objects_fit = omega arith;
    groups_fit = omega arith;
    simple_fit = omega arith;
    simple_few = omega arith;
    callbacks_few = omega arith;
    own = length-replicate (limits.groups + 1) none_held;
    full = record {
      owned = length-replicate {A = ℕ} (LIBRARY_LIMIT + 1) 0;
      left = length-replicate {A = ℕ} (LIBRARY_LIMIT + 1) 0;
      running = length-replicate {A = ℕ} (LIBRARY_LIMIT + 1) 0;
      own = row_replicated (limits.groups + 1);
    };
    counts = record {
      owned = λ l h. none_at (LIBRARY_LIMIT + 1) l;
      own = λ group l in_own h. at_replicated (limits.groups + 1) group l in_own;
      left = λ l h. none_at (LIBRARY_LIMIT + 1) l;
      running = λ l h. none_at (LIBRARY_LIMIT + 1) l;
      groups = refl;
    };
    actors = record {
      finished = sym (map_replicate (λ (c : ClientRow). c.finished) limits.clients unfinished);
      runs = sym (ap (map (run_in (opening limits))) (map_replicate (λ (c : WorkerRow). c.callback) limits.workers unattached) ∙ map_replicate (run_in (opening limits)) limits.workers None);
    };
    before = ap length o.before ∙ length-replicate (LIBRARY_LIMIT + 1) false;
  }

  pub opened_kept : (r : Recording) (b : Beside) → r.limits ≡ limits → r.capacity ≡ capacity → r.history ≡ [] → AreOpened limits capacity b → IsKept r b
  unfolding begun beside
  opened_kept r b l c h o =
      let same_recording : r ≡ begun = λ i. record { limits = l i; capacity = c i; history = h i } in
      let same_beside : b ≡ beside b = λ i. record { shelf = o.shelf i; counts = o.counts i; actors = o.actors i; before = b.before } in
      subst (λ (x : Recording). IsKept x b) (sym same_recording) (subst (IsKept begun) (sym same_beside) (opens b o))

pub none_unloaded : (limits : Limits) (capacity : ℕ) (r : Recording) (b : Beside) → AreOpened limits capacity b → (library : ℕ) → was_unloaded (record { stand = stand_of r b; before = b.before.items }) library ≡ false
none_unloaded limits capacity r b o library =
    ap (λ x. x && (holds (stand_of r b) library == 0)) (ap (λ xs. was_held xs library) o.before ∙ none_before (LIBRARY_LIMIT + 1) library)

-- what a step lets go
pub unloaded_between : (r q : Recording) (b new : Beside) → IsKept r b → ((library : ℕ) → library ≤ LIBRARY_LIMIT → was_held new.before.items library ≡ nat_lt 0 (held_by b library))
    → (library : ℕ) → IsLibrary library → was_unloaded (record { stand = stand_of q new; before = new.before.items }) library ≡ is_unloaded (stand_of r b) (stand_of q new) library
unloaded_between r q b new k before library is =
    ap (λ x. x && (holds (stand_of q new) library == 0)) (before library (omega (arith, is.1)) ∙ ap (nat_lt 0) (holds_as r b k library (omega (arith, is.1))))

-- and a call of libraries alone
pub unloaded_stepped : (r : Recording) (b remembered new : Beside) (who : Who) (call : LibCall) (told : LibAnswer) → IsKept r b → ((library : ℕ) → library ≤ LIBRARY_LIMIT → was_held remembered.before.items library ≡ nat_lt 0 (held_by b library))
    → IsStep remembered who call new told → (library : ℕ) → IsLibrary library → was_unloaded (record { stand = stand_of r new; before = new.before.items }) library ≡ is_unloaded (stand_of r b) (stand_of r new) library
unloaded_stepped r b remembered new who call told k before step =
    unloaded_between r r b new k (λ library h. ap (λ (x : Beside). was_held x.before.items library) step.same ∙ before library h)
