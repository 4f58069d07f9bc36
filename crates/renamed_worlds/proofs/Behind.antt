-- Behind each change a world whose waits cover only what is outstanding is what the whole one is, tidied.
use Rattle.std.proofs.Common.{◌≡◌, ℕ, not, Bool, true, false, cond, List, [], ◌∷◌, ◌++◌, map, slice_get, Option, Some, None, option_map, refl, sym, ap, ap₂, ◌∙◌, filter}
use Rattle.std.specs.List.{AllByRecursion}
use Rattle.std.proofs.lemmas.List.{map-append}
use Rattle.tp_base.specs.Actors.{is_same_actor}
use Rattle.tp_base.specs.declared.answers.Answer.{Answer}
use Rattle.tp_base.specs.declared.calls.Call.{Call}
use Rattle.tp_base.specs.declared.ids.ObjectId.{ObjectId}
use Rattle.tp_base.specs.declared.ids.Who.{Who}
use Rattle.tp_base.specs.declared.plans.Change.{Change}
use Rattle.tp_base.specs.declared.plans.Change.TheVariants as change
use Rattle.tp_base.specs.declared.plans.PoolChange.{PoolChange}
use Rattle.tp_base.specs.declared.plans.WaitEnd.{WaitEnd}
use Rattle.tp_base.specs.declared.plans.WaitEnd.TheVariants.{Exhausted, Free, Stalled}
use Rattle.tp_base.specs.declared.rows.CallbackRow.{CallbackRow}
use Rattle.tp_base.specs.declared.rows.KernelRow.{KernelRow}
use Rattle.tp_base.specs.declared.rows.ObjectRow.{ObjectRow}
use Rattle.tp_base.specs.declared.rows.PoolRow.{PoolRow}
use Rattle.tp_base.specs.declared.rows.WaitTarget.{WaitTarget}
use Rattle.tp_base.specs.declared.rows.WaitTarget.TheVariants.{Group, Kernel, Object}
use Rattle.tp_model.specs.World.{World, BegunWait}
use Rattle.tp_model.specs.Changes.{change_pool, changed, end_wait, give_notice, given_up_after, kernels_left, new_close, new_wait, notified, release_object}
use Rattle.tp_model.specs.Counts.{numbered}
use Rattle.tp_model.specs.Groups.{notices_of}
use Rattle.tp_model.specs.Support.Remembered.{forget, lives}
use Rattle.tp_model.specs.Support.Safe.{IsSafeChange}
use Rattle.tp_model.specs.Support.Sound.{IsSound, IsWaitSound}
use Rattle.tp_model.specs.Waits.{cancel_where, is_cancelled_by, target_of, wait_of}
use Rattle.tp_model.proofs.Lists.{all_filter}
use Rattle.renamed_worlds.specs.Closed.{settled, tidied}
use Rattle.renamed_worlds.proofs.Mapped.{filter_map}
use Rattle.renamed_worlds.proofs.Settled.{wait_settled}
use Rattle.renamed_worlds.proofs.Tidied.{all_kept_again, kept_again, kept_by}

module _ (next_number : ℕ) (w : World) (who : Who) (call : Call) (told : Answer) (s : IsSound next_number w) where
  -- ---- a change of no wait

  unwaiting : (how : Change) → IsSafeChange next_number w who call told how → changed (settled w) how ≡ record (changed w how) { waits = map (kept_by w.callbacks) w.waits } → (changed w how).waits ≡ w.waits → tidied (changed (settled w) how) ≡ tidied (changed w how)
  unwaiting how safe only same =
      ap tidied only
      ∙ ap (λ (bs : List BegunWait). record (forget (changed w how)) { waits = bs }) (all_kept_again next_number w who call told how s safe w.waits s.waits ∙ ap (map (kept_by (filter lives (changed w how).callbacks))) (sym same))

  pool_waits : (pool : ℕ) (how : PoolChange) (row : Option PoolRow) → (change_pool (settled w) pool how row ≡ record (change_pool w pool how row) { waits = map (kept_by w.callbacks) w.waits }) × ((change_pool w pool how row).waits ≡ w.waits)
  pool_waits pool how None = (refl, refl)
  pool_waits pool how (Some row) = (refl, refl)

  release_waits : (object : ObjectId) (row : Option ObjectRow) → (release_object (settled w) object row ≡ record (release_object w object row) { waits = map (kept_by w.callbacks) w.waits }) × ((release_object w object row).waits ≡ w.waits)
  release_waits object None = (refl, refl)
  release_waits object (Some row) = (refl, refl)

  -- ---- a wait more

  appended_again : (how : Change) → IsSafeChange next_number w who call told how → (b : BegunWait) → map (kept_by (filter lives (changed w how).callbacks)) (map (kept_by w.callbacks) w.waits ++ b ∷ []) ≡ map (kept_by (filter lives (changed w how).callbacks)) (w.waits ++ b ∷ [])
  appended_again how safe b =
      let k : BegunWait → BegunWait = kept_by (filter lives (changed w how).callbacks) in
      map-append k (map (kept_by w.callbacks) w.waits) (b ∷ [])
      ∙ ap (λ bs. bs ++ k b ∷ []) (all_kept_again next_number w who call told how s safe w.waits s.waits)
      ∙ sym (map-append k w.waits (b ∷ []))

  -- ---- a notice

  noticed_again : (how : Change) → IsSafeChange next_number w who call told how → (actor : Who) (bs : List BegunWait) → AllByRecursion (IsWaitSound next_number w.callbacks) bs
      → map (kept_by (filter lives (changed w how).callbacks)) (give_notice actor (map (kept_by w.callbacks) bs)) ≡ map (kept_by (filter lives (changed w how).callbacks)) (give_notice actor bs)
  noticed_again how safe actor [] sound = refl
  noticed_again how safe actor (b ∷ bs) sound = ap₂ (λ x xs. x ∷ xs) (one (is_same_actor b.actor actor)) (noticed_again how safe actor bs sound.1)
    where
      one : (t : Bool) → kept_by (filter lives (changed w how).callbacks) (cond t (notified (kept_by w.callbacks b)) (kept_by w.callbacks b)) ≡ kept_by (filter lives (changed w how).callbacks) (cond t (notified b) b)
      one true = ap notified (kept_again next_number w who call told how s safe b sound.0)
      one false = kept_again next_number w who call told how s safe b sound.0

  -- ---- the end of a wait

  left_again : (actor : Who) (how : WaitEnd) (o : Option BegunWait) → kernels_left (settled w) actor how (option_map (kept_by w.callbacks) o) ≡ kernels_left w actor how o
  left_again actor Exhausted o = refl
  left_again actor Stalled o = refl
  left_again actor Free None = refl
  left_again actor Free (Some b) = of_target b.target
    where
      of_target : (target : WaitTarget) → kernels_left (settled w) actor Free (Some (record b { target = target })) ≡ kernels_left w actor Free (Some (record b { target = target }))
      of_target (Object object) = refl
      of_target (Group group) = refl
      of_target (Kernel kernel) = refl

  given_again : (how : WaitEnd) (o : Option BegunWait) → given_up_after w.given_up how (option_map (kept_by w.callbacks) o) ≡ given_up_after w.given_up how o
  given_again Free o = refl
  given_again Exhausted o = refl
  given_again Stalled None = refl
  given_again Stalled (Some b) = refl

  ended_again : (actor : Who) (how : WaitEnd) → IsSafeChange next_number w who call told (change.EndWait actor how) → tidied (end_wait (settled w) actor how) ≡ tidied (end_wait w actor how)
  ended_again actor how safe =
      let others : BegunWait → Bool = λ (b : BegunWait). not (is_same_actor b.actor actor) in
      let k : BegunWait → BegunWait = kept_by (filter lives w.callbacks) in
      ap₂ (λ (ks : List KernelRow) (n : ℕ). record (forget w) { waits = map k (filter others (map (kept_by w.callbacks) w.waits)); kernels = ks; given_up = n })
      (ap (kernels_left (settled w) actor how) (wait_settled w actor) ∙ left_again actor how (wait_of w actor))
      (ap (given_up_after w.given_up how) (wait_settled w actor) ∙ given_again how (wait_of w actor))
      ∙ ap (λ (bs : List BegunWait). record (forget (end_wait w actor how)) { waits = bs })
      (
      ap (map k) (filter_map (kept_by w.callbacks) others others (λ _. refl) w.waits)
      ∙ all_kept_again next_number w who call told (change.EndWait actor how) s safe (filter others w.waits) (all_filter (IsWaitSound next_number w.callbacks) others w.waits s.waits)
      )

  -- ---- each change

  pub tidied_behind : (how : Change) → IsSafeChange next_number w who call told how → tidied (changed (settled w) how) ≡ tidied (changed w how)
  tidied_behind change.Keep safe = unwaiting change.Keep safe refl refl
  tidied_behind change.CreatePool safe = unwaiting change.CreatePool safe refl refl
  tidied_behind (change.ChangePool pool how) safe = unwaiting (change.ChangePool pool how) safe (pool_waits pool.0 how (slice_get w.pools pool.0)).0 (pool_waits pool.0 how (slice_get w.pools pool.0)).1
  tidied_behind change.CreateGroup safe = unwaiting change.CreateGroup safe refl refl
  tidied_behind (change.CloseGroup group) safe = unwaiting (change.CloseGroup group) safe refl refl
  tidied_behind (change.CreateObject row) safe = unwaiting (change.CreateObject row) safe refl refl
  tidied_behind (change.ReleaseObject object) safe = unwaiting (change.ReleaseObject object) safe (release_waits object (numbered w.objects object.0)).0 (release_waits object (numbered w.objects object.0)).1
  tidied_behind (change.QueueCallback c) safe = unwaiting (change.QueueCallback c) safe refl refl
  tidied_behind (change.ExpectCallback c) safe = unwaiting (change.ExpectCallback c) safe refl refl
  tidied_behind (change.Operate c how) safe = unwaiting (change.Operate c how) safe refl refl
  tidied_behind (change.Fire trigger first count) safe = unwaiting (change.Fire trigger first count) safe refl refl
  tidied_behind (change.CreateKernel state) safe = unwaiting (change.CreateKernel state) safe refl refl
  tidied_behind (change.ChangeKernel kernel how) safe = unwaiting (change.ChangeKernel kernel how) safe refl refl
  tidied_behind (change.Attach worker pool) safe = unwaiting (change.Attach worker pool) safe refl refl
  tidied_behind (change.Detach by) safe = unwaiting (change.Detach by) safe refl refl
  tidied_behind (change.Take by c) safe = unwaiting (change.Take by c) safe refl refl
  tidied_behind (change.Mark by mark) safe = unwaiting (change.Mark by mark) safe refl refl
  tidied_behind (change.Return by words first count) safe = unwaiting (change.Return by words first count) safe refl refl
  tidied_behind (change.BeginWait actor awaited cancel) safe =
      let kept : List CallbackRow = cancel_where (is_cancelled_by (target_of awaited) cancel) w.callbacks in
      ap (λ (bs : List BegunWait). record (forget (changed w (change.BeginWait actor awaited cancel))) { waits = bs }) (appended_again (change.BeginWait actor awaited cancel) safe (new_wait actor (target_of awaited) cancel kept))
  tidied_behind (change.BeginClose actor group cancel context notices) safe =
      let kept : List CallbackRow = cancel_where (is_cancelled_by (Group group) cancel) w.callbacks in
      ap (λ (bs : List BegunWait). record (forget (changed w (change.BeginClose actor group cancel context notices))) { waits = bs })
      (appended_again (change.BeginClose actor group cancel context notices) safe (new_close actor group cancel context (notices_of w group.0 cancel) kept))
  tidied_behind (change.GiveNotice actor) safe = ap (λ (bs : List BegunWait). record (forget w) { waits = bs }) (noticed_again (change.GiveNotice actor) safe actor w.waits s.waits)
  tidied_behind (change.EndWait actor how) safe = ended_again actor how safe
  tidied_behind (change.Finish client) safe = unwaiting (change.Finish client) safe refl refl
