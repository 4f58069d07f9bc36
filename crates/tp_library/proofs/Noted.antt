-- What is kept beside a machine once an answer was noted, by what the answer says.
use Rattle.std.proofs.Common.{◌≡◌, ℕ, ◌+◌, ◌≤◌, ◌==◌, Bool, true, false, cond, List, [], ◌∷◌, ◌++◌, length, Option, None, Some, refl, sym, ap, ◌∙◌, subst, arith, find, length-append}
use Rattle.std.proofs.lemmas.List.{length-set}
use Rattle.tp_base.specs.declared.ids.ObjectId.{ObjectId}
use Rattle.tp_base.specs.declared.ids.Who.{Who}
use Rattle.tp_base.specs.declared.ids.Who.TheVariants.{Client, Worker}
use Rattle.tp_base.specs.declared.rows.CallbackRow.{CallbackRow}
use Rattle.tp_model.specs.Counts.{has_number}
use Rattle.tp_model.specs.Support.Sound.{IsSound}
use Rattle.tp_model.specs.World.{World}
use Rattle.tp_library.specs.Acting.{run_of, with_run}
use Rattle.tp_library.specs.Tallied.{group_of, none_held, row_of, Tallied}
use Rattle.tp_library.specs.Tallies.{lowered, raised}
use Rattle.tp_library.specs.Counted.{left_in, members_in, runs_in}
use Rattle.tp_library.specs.Kept.{groups_in, run_in, AreActors}
use Rattle.tp_library.specs.Noted.{without_run, CanNote, IsNoted}
use Rattle.tp_library.specs.Libraries.{freed_slot, slot_of, with_slot}
use Rattle.tp_library.specs.Shelves.{library_at, library_of, library_of_object, Shelf}
use Rattle.tp_library.specs.declared.beside.Beside.{Beside}
use Rattle.tp_library.specs.declared.told.Effect.{Effect}
use Rattle.tp_library.specs.declared.told.Effect.TheVariants.{Nothing, Makes, Releases, Closes, Cancels, Submits, Takes, Returns, Finishes}
use Rattle.tp_library.proofs.Effected.{groups_by, shelf_by, By}
use Rattle.tp_library.proofs.Effects.{IsKeptRow, IsReturned, IsTaken}
use Rattle.tp_library.proofs.Holding.{one_of}
use Rattle.tp_library.proofs.Noting.{actors_finish, actors_run, actors_same, counted_less, counted_more, counted_same, group_stands, object_kept, owned_left, owned_less, owned_more, owned_same, run_busy, AreCounted, AreOwned}

-- ---- what a return leaves alone

unrun : (c : Tallied) (s : Shelf) (run : Option (ℕ × ℕ)) → without_run c s run ≡ record c { running = (without_run c s run).running }
unrun c s None = refl
unrun c s (Some run) = refl

-- how many callbacks of a group were cancelled
abbrev pub cancelled_of : Effect → ℕ
cancelled_of (Closes group cancelled) = cancelled
cancelled_of effect = 0

-- ---- the shelf, and what is as it was

pub record IsRestAt (b : Beside) (grouped : List ℕ) (now : Shelf) (new : Beside) : Type 0 where
  pub shelf : new.shelf.shelf ≡ now
  pub objects : new.shelf.objects ≡ b.shelf.objects
  pub simple : new.shelf.simple ≡ b.shelf.simple
  pub simples : length new.shelf.shelf.of_simple ≤ length b.shelf.shelf.of_simple + 1
  pub before : new.before ≡ b.before
  pub room : new.counts.room ≡ b.counts.room
  pub groups : new.counts.groups ≡ grouped
  pub own : length new.counts.own ≡ length b.counts.own

abbrev pub IsRest : Beside → Who → Effect → ℕ → Beside → Type 0
IsRest b who effect library new = IsRestAt b (groups_by effect b.counts.groups) (shelf_by b.shelf.shelf who effect library) new

slot_simples : (s : Shelf) (who : Who) (library : ℕ) → (with_slot s who library).of_simple ≡ s.of_simple
slot_simples s (Client number) library = refl
slot_simples s (Worker number) library = refl

abbrev with_more : Shelf → ℕ → ℕ → Shelf
with_more s callback library = record s { of_simple = s.of_simple ++ (callback, library) ∷ [] }

-- a simple callback was made, with no library or with one
abbrev IsSubmitted : Beside → ℕ → ℕ → Bool → Type 0
IsSubmitted b callback library none =
    IsRestAt b b.counts.groups (cond none b.shelf.shelf (with_more b.shelf.shelf callback library)) (record b { shelf = cond none b.shelf (record b.shelf { shelf = with_more b.shelf.shelf callback library }) })

pub rest_noted : (b : Beside) (who : Who) (effect : Effect) (library : ℕ) (new : Beside) → IsNoted b who effect library new → IsRest b who effect library new
rest_noted b who (Makes group) library new noted =
    subst (IsRest b who (Makes group) library) (sym noted) record {
      shelf = refl;
      objects = refl;
      simple = refl;
      simples = omega arith;
      before = refl;
      room = refl;
      groups = refl;
      own = length-set b.counts.own group.0 (raised (row_of b.counts.own group.0) library);
    }
rest_noted b who (Releases object) library new noted =
    subst (IsRest b who (Releases object) library) (sym noted) record {
      shelf = refl;
      objects = refl;
      simple = refl;
      simples = omega arith;
      before = refl;
      room = refl;
      groups = refl;
      own = length-set b.counts.own (group_of b.counts.groups object.0) (lowered (row_of b.counts.own (group_of b.counts.groups object.0)) (library_of_object b.shelf.shelf object.0) 1);
    }
rest_noted b who (Closes group cancelled) library new noted = record {
  shelf = ap (λ (x : Beside). x.shelf.shelf) noted.0;
  objects = ap (λ (x : Beside). x.shelf.objects) noted.0;
  simple = ap (λ (x : Beside). x.shelf.simple) noted.0;
  simples = omega (arith, ap (λ (x : Beside). length x.shelf.shelf.of_simple) noted.0);
  before = ap (λ (x : Beside). x.before) noted.0;
  room = noted.1.room;
  groups = noted.1.groups;
  own = ap length noted.1.own ∙ length-set b.counts.own group.0 none_held;
}
rest_noted b who (Submits callback) library new noted =
    subst (IsRest b who (Submits callback) library) (sym noted) (elim (library == 0) as (IsSubmitted b callback library) [
      | true ↦ record { shelf = refl; objects = refl; simple = refl; simples = omega arith; before = refl; room = refl; groups = refl; own = refl }
      | false ↦ record { shelf = refl; objects = refl; simple = refl; simples = omega (arith, length-append b.shelf.shelf.of_simple ((callback, library) ∷ [])); before = refl; room = refl; groups = refl; own = refl }
    ])
rest_noted b who (Takes callback object) library new noted =
    subst (IsRest b who (Takes callback object) library) (sym noted) record { shelf = refl; objects = refl; simple = refl; simples = omega arith; before = refl; room = refl; groups = refl; own = refl }
rest_noted b who Returns library new noted =
    let same = unrun b.counts b.shelf.shelf (run_of b.actors who) in
    subst (IsRest b who Returns library) (sym noted) record {
      shelf = refl;
      objects = refl;
      simple = refl;
      simples = omega (arith, ap length (slot_simples (freed_slot b.shelf.shelf (slot_of b.shelf.shelf who)) who 0));
      before = refl;
      room = ap (λ (c : Tallied). c.room) same;
      groups = ap (λ (c : Tallied). c.groups) same;
      own = ap (λ (c : Tallied). length c.own) same;
    }
rest_noted b who (Cancels object count) library new noted =
    subst (IsRest b who (Cancels object count) library) (sym noted) record { shelf = refl; objects = refl; simple = refl; simples = omega arith; before = refl; room = refl; groups = refl; own = refl }
rest_noted b who Finishes library new noted =
    subst (IsRest b who Finishes library) (sym noted) record { shelf = refl; objects = refl; simple = refl; simples = omega arith; before = refl; room = refl; groups = refl; own = refl }
rest_noted b who Nothing library new noted =
    subst (IsRest b who Nothing library) (sym noted) record { shelf = refl; objects = refl; simple = refl; simples = omega arith; before = refl; room = refl; groups = refl; own = refl }

-- ---- objects

module _ (w : World) (b : Beside) (who : Who) (library : ℕ) (after : World) (now : Shelf) (kept : List CallbackRow) (new : Beside) where
  pub owned_noted : (effect : Effect) → CanNote b effect library → By w b.shelf.shelf who effect library after now kept → b.counts.groups ≡ groups_in w → AreOwned w b.shelf.shelf b.counts.owned b.counts.own → IsNoted b who effect library new
      → AreOwned after now new.counts.owned new.counts.own
  owned_noted (Makes group) can by groups are noted =
      subst (λ (x : Beside). AreOwned after now x.counts.owned x.counts.own) (sym noted) (owned_more w b.shelf.shelf after now b.counts.owned b.counts.own are group.0 library can.1 by.held)
  owned_noted (Releases object) can by groups are noted =
      let home : group_of b.counts.groups object.0 ≡ by.held.row.env.group.0 = ap (λ gs. group_of gs object.0) groups ∙ group_stands w.objects object.0 by.held.row by.held.stands in
      let mine = library_of_object b.shelf.shelf object.0 in
      subst (λ (x : Beside). AreOwned after now x.counts.owned x.counts.own) (sym noted)
      (owned_less w b.shelf.shelf after now b.counts.owned b.counts.own are (group_of b.counts.groups object.0) mine can.2 by.held.objects
      (λ g l. subst (λ h. members_in after.objects now g l + one_of h mine g l ≡ members_in w.objects b.shelf.shelf g l) (sym home) (by.held.members g l)))
  owned_noted (Closes group cancelled) can by groups are noted =
      subst (AreOwned after now new.counts.owned) (sym noted.1.own) (owned_left w b.shelf.shelf after now b.counts.owned b.counts.own are group.0 new.counts.owned can noted.1.many noted.1.owned by.held)
  owned_noted (Takes callback object) can by groups are noted =
      subst (λ (x : Beside). AreOwned after now x.counts.owned x.counts.own) (sym noted) (owned_same w b.shelf.shelf after now b.counts.owned b.counts.own are by.held)
  owned_noted (Cancels object count) can by groups are noted =
      subst (λ (x : Beside). AreOwned after now x.counts.owned x.counts.own) (sym noted) (owned_same w b.shelf.shelf after now b.counts.owned b.counts.own are by.held)
  owned_noted (Submits callback) can by groups are noted =
      subst (λ (x : Beside). AreOwned after now x.counts.owned x.counts.own) (sym noted) (owned_same w b.shelf.shelf after now b.counts.owned b.counts.own are by.held)
  owned_noted Returns can by groups are noted =
      subst (λ (x : Beside). AreOwned after now x.counts.owned x.counts.own) (sym noted)
      (subst (λ (c : Tallied). AreOwned after now c.owned c.own) (sym (unrun b.counts b.shelf.shelf (run_of b.actors who))) (owned_same w b.shelf.shelf after now b.counts.owned b.counts.own are by.held))
  owned_noted Finishes can by groups are noted =
      subst (λ (x : Beside). AreOwned after now x.counts.owned x.counts.own) (sym noted) (owned_same w b.shelf.shelf after now b.counts.owned b.counts.own are by.held)
  owned_noted Nothing can by groups are noted =
      subst (λ (x : Beside). AreOwned after now x.counts.owned x.counts.own) (sym noted) (owned_same w b.shelf.shelf after now b.counts.owned b.counts.own are by.held)

  -- ---- callbacks that may still run

  pub left_noted : (effect : Effect) → By w b.shelf.shelf who effect library after now kept → AreCounted b.shelf.shelf left_in w.callbacks b.counts.left → IsNoted b who effect library new
      → cancelled_of effect ≡ 0 → AreCounted b.shelf.shelf left_in kept new.counts.left
  left_noted (Takes callback object) by are noted none =
      subst (λ (x : Beside). AreCounted b.shelf.shelf left_in kept x.counts.left) (sym noted)
      (counted_less b.shelf.shelf left_in w.callbacks kept b.counts.left are (library_at b.shelf.shelf callback object.0) 1 (by.counts.left b.shelf.shelf))
  left_noted (Cancels object count) by are noted none =
      subst (λ (x : Beside). AreCounted b.shelf.shelf left_in kept x.counts.left) (sym noted)
      (counted_less b.shelf.shelf left_in w.callbacks kept b.counts.left are (library_of_object b.shelf.shelf object.0) count (by.counts.left b.shelf.shelf))
  left_noted (Closes group cancelled) by are noted none =
      subst (AreCounted b.shelf.shelf left_in kept) (sym noted.1.left) (counted_same b.shelf.shelf left_in w.callbacks kept b.counts.left are (by.counts.left none b.shelf.shelf))
  left_noted Returns by are noted none =
      subst (λ (x : Beside). AreCounted b.shelf.shelf left_in kept x.counts.left) (sym noted)
      (subst (λ (c : Tallied). AreCounted b.shelf.shelf left_in kept c.left) (sym (unrun b.counts b.shelf.shelf (run_of b.actors who))) (counted_same b.shelf.shelf left_in w.callbacks kept b.counts.left are (by.counts.left b.shelf.shelf)))
  left_noted (Makes group) by are noted none =
      subst (λ (x : Beside). AreCounted b.shelf.shelf left_in kept x.counts.left) (sym noted) (counted_same b.shelf.shelf left_in w.callbacks kept b.counts.left are (by.counts.left b.shelf.shelf))
  left_noted (Releases object) by are noted none =
      subst (λ (x : Beside). AreCounted b.shelf.shelf left_in kept x.counts.left) (sym noted) (counted_same b.shelf.shelf left_in w.callbacks kept b.counts.left are (by.counts.left b.shelf.shelf))
  left_noted (Submits callback) by are noted none =
      subst (λ (x : Beside). AreCounted b.shelf.shelf left_in kept x.counts.left) (sym noted) (counted_same b.shelf.shelf left_in w.callbacks kept b.counts.left are (by.counts.left b.shelf.shelf))
  left_noted Finishes by are noted none =
      subst (λ (x : Beside). AreCounted b.shelf.shelf left_in kept x.counts.left) (sym noted) (counted_same b.shelf.shelf left_in w.callbacks kept b.counts.left are (by.counts.left b.shelf.shelf))
  left_noted Nothing by are noted none =
      subst (λ (x : Beside). AreCounted b.shelf.shelf left_in kept x.counts.left) (sym noted) (counted_same b.shelf.shelf left_in w.callbacks kept b.counts.left are (by.counts.left b.shelf.shelf))

  -- ---- callbacks that run

  -- what runs is the callback that returns
  runs_returned : (r : IsReturned w who kept) → AreActors w b.actors → (without_run b.counts b.shelf.shelf (run_of b.actors who)).running ≡ lowered b.counts.running (library_of b.shelf.shelf r.callback) 1
  runs_returned r are =
      ap (λ run. (without_run b.counts b.shelf.shelf run).running) (ap (run_of b.actors) r.by ∙ run_busy w b.actors r.worker r.callback are r.busy r.found)

  pub running_noted : (effect : Effect) → By w b.shelf.shelf who effect library after now kept → AreActors w b.actors → AreCounted b.shelf.shelf runs_in w.callbacks b.counts.running → IsNoted b who effect library new
      → AreCounted b.shelf.shelf runs_in kept new.counts.running
  running_noted (Takes callback object) by acts are noted =
      subst (λ (x : Beside). AreCounted b.shelf.shelf runs_in kept x.counts.running) (sym noted)
      (counted_more b.shelf.shelf runs_in w.callbacks kept b.counts.running are (library_at b.shelf.shelf callback object.0) (by.counts.runs b.shelf.shelf))
  running_noted Returns by acts are noted =
      subst (λ (x : Beside). AreCounted b.shelf.shelf runs_in kept x.counts.running) (sym noted)
      (subst (AreCounted b.shelf.shelf runs_in kept) (sym (runs_returned by.counts acts))
      (counted_less b.shelf.shelf runs_in w.callbacks kept b.counts.running are (library_of b.shelf.shelf by.counts.callback) 1 (by.counts.runs b.shelf.shelf)))
  running_noted (Closes group cancelled) by acts are noted =
      subst (AreCounted b.shelf.shelf runs_in kept) (sym noted.1.running) (counted_same b.shelf.shelf runs_in w.callbacks kept b.counts.running are (by.counts.runs b.shelf.shelf))
  running_noted (Cancels object count) by acts are noted =
      subst (λ (x : Beside). AreCounted b.shelf.shelf runs_in kept x.counts.running) (sym noted) (counted_same b.shelf.shelf runs_in w.callbacks kept b.counts.running are (by.counts.runs b.shelf.shelf))
  running_noted (Makes group) by acts are noted =
      subst (λ (x : Beside). AreCounted b.shelf.shelf runs_in kept x.counts.running) (sym noted) (counted_same b.shelf.shelf runs_in w.callbacks kept b.counts.running are (by.counts.runs b.shelf.shelf))
  running_noted (Releases object) by acts are noted =
      subst (λ (x : Beside). AreCounted b.shelf.shelf runs_in kept x.counts.running) (sym noted) (counted_same b.shelf.shelf runs_in w.callbacks kept b.counts.running are (by.counts.runs b.shelf.shelf))
  running_noted (Submits callback) by acts are noted =
      subst (λ (x : Beside). AreCounted b.shelf.shelf runs_in kept x.counts.running) (sym noted) (counted_same b.shelf.shelf runs_in w.callbacks kept b.counts.running are (by.counts.runs b.shelf.shelf))
  running_noted Finishes by acts are noted =
      subst (λ (x : Beside). AreCounted b.shelf.shelf runs_in kept x.counts.running) (sym noted) (counted_same b.shelf.shelf runs_in w.callbacks kept b.counts.running are (by.counts.runs b.shelf.shelf))
  running_noted Nothing by acts are noted =
      subst (λ (x : Beside). AreCounted b.shelf.shelf runs_in kept x.counts.running) (sym noted) (counted_same b.shelf.shelf runs_in w.callbacks kept b.counts.running are (by.counts.runs b.shelf.shelf))

  -- ---- actors

  module _ (sound : IsSound (length w.callbacks + 1) w) (keeps : (number : ℕ) (c : CallbackRow) → find (has_number number) w.callbacks ≡ Some c → IsKeptRow after number c) where
    run_taken : (callback : ℕ) (object : ObjectId) (t : IsTaken w who callback object kept) → run_in after (Some callback) ≡ Some (callback, object.0)
    run_taken callback object t = ap (λ o. Some (callback, o)) (object_kept w after sound keeps callback t.callback t.found ∙ ap (λ (o : ObjectId). o.0) t.of)

    pub actors_noted : (effect : Effect) → By w b.shelf.shelf who effect library after now kept → AreActors w b.actors → IsNoted b who effect library new → AreActors after new.actors
    actors_noted (Takes callback object) by are noted =
        subst (λ (x : Beside). AreActors after x.actors) (sym noted)
        (subst (λ run. AreActors after (with_run b.actors who run)) (run_taken callback object by.counts) (actors_run w after sound keeps b.actors who (Some callback) by.finished by.runs are))
    actors_noted Returns by are noted = subst (λ (x : Beside). AreActors after x.actors) (sym noted) (actors_run w after sound keeps b.actors who None by.finished by.runs are)
    actors_noted Finishes by are noted = subst (λ (x : Beside). AreActors after x.actors) (sym noted) (actors_finish w after sound keeps b.actors who by.finished by.runs are)
    actors_noted (Closes group cancelled) by are noted =
        subst (AreActors after) (sym (ap (λ (x : Beside). x.actors) noted.0)) (actors_same w after sound keeps b.actors by.finished by.runs are)
    actors_noted (Cancels object count) by are noted = subst (λ (x : Beside). AreActors after x.actors) (sym noted) (actors_same w after sound keeps b.actors by.finished by.runs are)
    actors_noted (Makes group) by are noted = subst (λ (x : Beside). AreActors after x.actors) (sym noted) (actors_same w after sound keeps b.actors by.finished by.runs are)
    actors_noted (Releases object) by are noted = subst (λ (x : Beside). AreActors after x.actors) (sym noted) (actors_same w after sound keeps b.actors by.finished by.runs are)
    actors_noted (Submits callback) by are noted = subst (λ (x : Beside). AreActors after x.actors) (sym noted) (actors_same w after sound keeps b.actors by.finished by.runs are)
    actors_noted Nothing by are noted = subst (λ (x : Beside). AreActors after x.actors) (sym noted) (actors_same w after sound keeps b.actors by.finished by.runs are)
