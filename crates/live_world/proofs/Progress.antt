-- How far a wait has come.
use Rattle.std.proofs.Common.{◌≡◌, ℕ, subst, true, false, cond, List, [], ◌∷◌, slice_get, Option, Some, None, is_none, option_map, refl, sym, ap, ◌∙◌, unwrap_or}
use Rattle.std.specs.List.{AllByRecursion}
use Rattle.std.specs.Option.{option_map_or}
use Rattle.tp_base.specs.declared.ids.Who.{Who}
use Rattle.tp_base.specs.declared.ids.GroupId.{GroupId}
use Rattle.tp_base.specs.declared.ids.KernelId.{KernelId}
use Rattle.tp_base.specs.declared.ids.ObjectId.{ObjectId}
use Rattle.tp_base.specs.declared.rows.ObjectRow.{ObjectRow}
use Rattle.tp_base.specs.declared.rows.WaitTarget.{WaitTarget}
use Rattle.tp_base.specs.declared.rows.WaitTarget.TheVariants.{Object, Group, Kernel}
use Rattle.tp_model.specs.World.{World, BegunWait}
use Rattle.tp_model.specs.Counts.{numbered}
use Rattle.tp_model.specs.Groups.{is_object_that}
use Rattle.tp_model.specs.Sources.{no_object}
use Rattle.tp_model.specs.Support.Sound.{IsSound, IsWaitSound, is_told}
use Rattle.tp_model.specs.Waits.{held, is_group_target, wait_of}
use Rattle.tp_model.proofs.Lists.{find_all}
use Rattle.tp_model.proofs.Releasing.{that_row}
use Rattle.tp_model.specs.Calls.Waits.{holds_starved}
use Rattle.begun_waits.specs.Begun.{closing_by, closing_of, kernel_in, notices_by}
use Rattle.world_reads.specs.Progress.{progress_left, progress_with, progress_for, progress_in, progress_of}
use Rattle.world_reads.specs.declared.waiting.Progress.{Progress}
use Rattle.live_world.specs.Waiting.{held_by, progress_free}
use Rattle.world_reads.specs.declared.waiting.Progress.TheVariants.{NotBegun, Free, Notifies, Starved, Holds, Acquires}
use Rattle.tp_base.specs.Actors.{is_same_actor}

-- the actor has begun no wait
pub not_begun : (w : World) (room : ℕ) (who : Who) → None ≡ option_map (λ (b : BegunWait). b.target) (wait_of w who) → NotBegun ≡ progress_of w room who
not_begun w room who none = known (wait_of w who) none
  where
    known : (o : Option BegunWait) → None ≡ option_map (λ (b : BegunWait). b.target) o → NotBegun ≡ progress_in w room o
    known None e = refl
    known (Some b) e = absurd cc

-- or it has begun one
pub has_begun : (o : Option BegunWait) (target : WaitTarget) → Some target ≡ option_map (λ (b : BegunWait). b.target) o → is_none o ≡ false
has_begun None target e = absurd cc
has_begun (Some b) target e = refl

pub no_kernel : (target : WaitTarget) → ((kernel : KernelId) → target ≡ Kernel kernel → ⊥) → kernel_in target ≡ None
no_kernel (Object object) other = refl
no_kernel (Group group) other = refl
no_kernel (Kernel kernel) other = absurd (other kernel refl)

-- what is told of a wait that holds these numbers
abbrev progress_held : World → ℕ → Option BegunWait → List ℕ → Progress
progress_held w room None ns = NotBegun
progress_held w room (Some b) ns = progress_with w room b ns

-- the actor waits for a kernel object
pub begun_acquires : (w : World) (room : ℕ) (who : Who) (target : WaitTarget) (kernel : KernelId) → Some target ≡ option_map (λ (b : BegunWait). b.target) (wait_of w who) → target ≡ Kernel kernel → Acquires kernel ≡ progress_of w room who
begun_acquires w room who target kernel for is = known (wait_of w who) for
  where
    known : (o : Option BegunWait) → Some target ≡ option_map (λ (b : BegunWait). b.target) o → Acquires kernel ≡ progress_in w room o
    known None e = absurd cc
    known (Some b) e = let same : Kernel kernel ≡ b.target = cc in ap (progress_for w room b) same

module _ (w : World) (room : ℕ) (who : Who) (target : WaitTarget) (for : Some target ≡ option_map (λ (b : BegunWait). b.target) (wait_of w who)) (out : kernel_in target ≡ None) where
  -- or for callbacks, and this is what its wait holds
  begun_one : progress_held w room (wait_of w who) (held_by w who) ≡ progress_of w room who
  begun_one = known (wait_of w who) for
    where
      of_target : (b : BegunWait) (t : WaitTarget) → kernel_in t ≡ None → progress_with w room b (held w b) ≡ progress_for w room b t
      of_target b (Object object) e = refl
      of_target b (Group group) e = refl
      of_target b (Kernel kernel) e = absurd cc

      known : (o : Option BegunWait) → Some target ≡ option_map (λ (b : BegunWait). b.target) o → progress_held w room o (option_map_or (held w) o []) ≡ progress_in w room o
      known None e = absurd cc
      known (Some b) e = let same : target ≡ b.target = cc in of_target b b.target (ap kernel_in (sym same) ∙ out)

  pub begun_free : None ≡ slice_get (held_by w who) 0 → progress_free w (wait_of w who) ≡ progress_of w room who
  begun_free none = of_wait (wait_of w who) (held_by w who) (sym none) ∙ begun_one
    where
      of_wait : (o : Option BegunWait) (ns : List ℕ) → slice_get ns 0 ≡ None → progress_free w o ≡ progress_held w room o ns
      of_wait None ns e = refl
      of_wait (Some b) [] e = refl
      of_wait (Some b) (n ∷ ns) e = absurd cc

  pub begun_holds : (number : ℕ) → Some number ≡ slice_get (held_by w who) 0 → cond (holds_starved w room (held_by w who)) Starved (Holds number) ≡ progress_of w room who
  begun_holds number first = of_wait (wait_of w who) (held_by w who) (has_begun (wait_of w who) target for) (sym first) ∙ begun_one
    where
      of_wait : (o : Option BegunWait) (ns : List ℕ) → is_none o ≡ false → slice_get ns 0 ≡ Some number → cond (holds_starved w room ns) Starved (Holds number) ≡ progress_held w room o ns
      of_wait None ns h e = absurd cc
      of_wait (Some b) [] h e = absurd cc
      of_wait (Some b) (n ∷ ns) h e = let same_number : number ≡ n = cc in ap (λ m. cond (holds_starved w room (n ∷ ns)) Starved (Holds m)) same_number

-- ---- what the actor's wait closes, and its notices

-- none is left
pub no_notice : (w : World) (who : Who) → is_none (wait_of w who) ≡ false → slice_get (notices_by (wait_of w who)) 0 ≡ None → Free ≡ progress_free w (wait_of w who)
no_notice w who begun none = of_wait (wait_of w who) begun none
  where
    of_notices : (b : BegunWait) (os : List ObjectId) → slice_get os 0 ≡ None → Free ≡ progress_left w b.cleanup os
    of_notices b [] e = refl
    of_notices b (o ∷ os) e = absurd cc

    of_wait : (o : Option BegunWait) → is_none o ≡ false → slice_get (notices_by o) 0 ≡ None → Free ≡ progress_free w o
    of_wait None h e = absurd cc
    of_wait (Some b) h e = of_notices b b.notices e

-- or the first of them is of this object
pub record IsNotice (w : World) (who : Who) (object : ObjectId) : Type 0 where
  pub wait : BegunWait
  pub begun : wait_of w who ≡ Some wait
  pub rest : List ObjectId
  pub left : wait.notices ≡ object ∷ rest
  pub group : GroupId
  pub closes : closing_by (wait_of w who) ≡ Some (record { group = group; context = wait.cleanup })
  pub row : ObjectRow
  pub stands : numbered w.objects object.0 ≡ Some row

pub is_notice : (next_number : ℕ) (w : World) (who : Who) (object : ObjectId) → IsSound next_number w → slice_get (notices_by (wait_of w who)) 0 ≡ Some object → IsNotice w who object
is_notice next_number w who object sound says = of_wait (wait_of w who) refl says
  where
    of_target : (b : BegunWait) (t : WaitTarget) → b.target ≡ t → wait_of w who ≡ Some b → (os : List ObjectId) → b.notices ≡ os → slice_get os 0 ≡ Some object → IsNotice w who object
    of_target b t et e [] en h = absurd cc
    of_target b (Object o) et e (x ∷ os) en h =
        let s = find_all (IsWaitSound next_number w.callbacks) (λ (y : BegunWait). is_same_actor y.actor who) b w.waits sound.waits e in
        let none : [] ≡ x ∷ os = sym (s.quiet (ap is_group_target et)) ∙ en in
        absurd cc
    of_target b (Kernel o) et e (x ∷ os) en h =
        let s = find_all (IsWaitSound next_number w.callbacks) (λ (y : BegunWait). is_same_actor y.actor who) b w.waits sound.waits e in
        let none : [] ≡ x ∷ os = sym (s.quiet (ap is_group_target et)) ∙ en in
        absurd cc
    of_target b (Group g) et e (x ∷ os) en h =
        let same : x ≡ object = cc in
        let all = find_all (λ (y : BegunWait). AllByRecursion (λ (o : ObjectId). is_object_that is_told w.objects o.0 ≡ true) y.notices) (λ (y : BegunWait). is_same_actor y.actor who) b w.waits sound.notices e in
        let told : is_object_that is_told w.objects x.0 ≡ true = (subst (AllByRecursion (λ (o : ObjectId). is_object_that is_told w.objects o.0 ≡ true)) en all).0 in
        let row = that_row is_told w.objects x.0 told in
        record {
          wait = b;
          begun = e;
          rest = os;
          left = en ∙ ap (λ o. o ∷ os) same;
          group = g;
          closes = ap closing_by e ∙ ap (closing_of b) et;
          row = row.0;
          stands = ap (λ (o : ObjectId). numbered w.objects o.0) (sym same) ∙ row.1;
        }

    of_wait : (o : Option BegunWait) → wait_of w who ≡ o → slice_get (notices_by o) 0 ≡ Some object → IsNotice w who object
    of_wait None e h = absurd cc
    of_wait (Some b) e h = of_target b b.target refl e b.notices refl h

-- and it is told so
pub told_notice : (w : World) (who : Who) (object : ObjectId) → (n : IsNotice w who object) → Notifies object n.row.env.cancel n.row.context n.wait.cleanup ≡ progress_free w (wait_of w who)
told_notice w who object n =
    ap (λ (o : Option ObjectRow). Notifies object (unwrap_or o no_object).env.cancel (unwrap_or o no_object).context n.wait.cleanup) (sym n.stands)
    ∙ ap (progress_left w n.wait.cleanup) (sym n.left)
    ∙ ap (progress_free w) (sym n.begun)
