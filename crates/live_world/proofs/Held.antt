-- What a wait still holds first, by what it covers.
use Rattle.std.proofs.Common.{◌≡◌, ℕ, ◌+◌, ◌<◌, ◌≤◌, Bool, true, false, cond, ◌&&◌, ◌||◌, ◌==◌, List, [], ◌∷◌, nat_le, slice_get, Option, Some, None, refl, sym, ap, ap₂, ◌∙◌, subst, arith, filter, find, option_map, eqb-true, eq-eqb}
use Rattle.std.specs.List.{AllByRecursion}
use Rattle.std.specs.Option.{option_map_or}
use Rattle.std.proofs.lemmas.Bool.{le-leb, lt-leb}
use Rattle.std.proofs.lemmas.Map.Views.{any-filter_same}
use Rattle.tp_base.specs.declared.ids.Who.{Who}
use Rattle.tp_base.specs.declared.ids.GroupId.{GroupId}
use Rattle.tp_base.specs.declared.ids.KernelId.{KernelId}
use Rattle.tp_base.specs.declared.rows.CallbackRow.{CallbackRow}
use Rattle.tp_base.specs.declared.rows.Status.{Status}
use Rattle.tp_base.specs.declared.rows.WaitTarget.{WaitTarget}
use Rattle.tp_base.specs.declared.rows.WaitTarget.TheVariants.{Group, Kernel}
use Rattle.tp_model.specs.World.{BegunWait}
use Rattle.tp_model.specs.Counts.{callback_of, has_number, is_live}
use Rattle.tp_model.specs.Support.Remembered.{lives}
use Rattle.tp_model.specs.Laws.Entries.{is_among}
use Rattle.tp_model.specs.Support.Sound.{IsRising}
use Rattle.tp_model.specs.Waits.{held, is_held_for, is_outstanding_for, wait_of}
use Rattle.tp_model.proofs.Callbacks.{find_numbered, found_bounds}
use Rattle.tp_model.proofs.Lists.{find_passes}
use Rattle.tp_model.proofs.Refusals.{false_true, neither}
use Rattle.begun_waits.specs.Begun.{place_of, wait_among}
use Rattle.live_world.specs.declared.LiveWorld.TheInside.{Inside}
use Rattle.begun_waits.specs.Covers.{bound_of, covers, listed_of}
use Rattle.live_world.specs.Covers.{Ascend, IsCover}
use Rattle.live_world.specs.Live.{Live}
use Rattle.live_world.specs.Parts.{is_held_among}
use Rattle.live_world.specs.View.{shown, IsLiveWorld}
use Rattle.live_world.specs.Waiting.{held_by}
use Rattle.live_world.proofs.Along.{first_filtered, number_of}
use Rattle.live_world.proofs.Covered.{held_live}
use Rattle.live_world.proofs.Lists.{all_pass}

-- ---- of rising numbers

above_low : (low n : ℕ) (ns : List ℕ) → Ascend low ns → is_among n ns ≡ true → low ≤ n
above_low low n [] r e = absurd (false_true e)
above_low low n (m ∷ ns) r e =
    elim (m == n) as (λ b. (m == n) ≡ b → (b || is_among n ns) ≡ true → low ≤ n) [
      | true ↦ λ is _. let same : m ≡ n = eqb-true m n is in omega (arith, same, r.0)
      | false ↦ λ _ h. omega (arith, r.0, above_low (m + 1) n ns r.1 h)
    ] refl e

-- the least that passes comes first
first_passing : (p : ℕ → Bool) (x low : ℕ) (ns : List ℕ) → Ascend low ns → p x ≡ true → is_among x ns ≡ true → ((n : ℕ) → p n ≡ true → x ≤ n) → find p ns ≡ Some x
first_passing p x low [] r passes among least = absurd (false_true among)
first_passing p x low (n ∷ ns) r passes among least =
    elim (p n) as (λ b. p n ≡ b → cond b (Some n) (find p ns) ≡ Some x) [
      | true ↦ λ e.
          ap (λ m. Some m)
          (elim (n == x) as (λ t. (n == x) ≡ t → (t || is_among x ns) ≡ true → n ≡ x) [
            | true ↦ λ is _. eqb-true n x is
            | false ↦ λ _ h. absurd (omega (arith, least n e, above_low (n + 1) x ns r.1 h))
          ] refl among)
      | false ↦ λ e.
          first_passing p x (n + 1) ns r.1 passes
          (elim (n == x) as (λ t. (n == x) ≡ t → (t || is_among x ns) ≡ true → is_among x ns ≡ true) [
            | true ↦ λ is _. absurd (false_true (sym e ∙ ap p (eqb-true n x is) ∙ passes))
            | false ↦ λ _ h. h
          ] refl among) least
    ] refl

none_passing : (p : ℕ → Bool) (ns : List ℕ) → ((n : ℕ) → p n ≡ true → is_among n ns ≡ false) → find p ns ≡ None
none_passing p [] none = refl
none_passing p (n ∷ ns) none =
    elim (p n) as (λ b. p n ≡ b → cond b (Some n) (find p ns) ≡ None) [
      | true ↦ λ e. absurd (false_true (sym (none n e) ∙ ap (λ b. b || is_among n ns) (eq-eqb n n refl)))
      | false ↦ λ _. none_passing p ns (λ m e. (neither (n == m) (is_among m ns) (none m e)).1)
    ] refl

-- ---- of the rows

-- a row that passes doesn't come before the first one
least_row : (q : CallbackRow → Bool) (low next_number : ℕ) (cs : List CallbackRow) → IsRising low next_number cs → (c : CallbackRow) → find q cs ≡ Some c → (n : ℕ) (d : CallbackRow) → find (has_number n) cs ≡ Some d → q d ≡ true → c.number ≤ n
least_row q low next_number [] r c first n d found passes = absurd cc
least_row q low next_number (x ∷ xs) r c first n d found passes =
    elim (q x) as (λ b. q x ≡ b → cond b (Some x) (find q xs) ≡ Some c → c.number ≤ n) [
      | true ↦ λ _ h.
          let same : x ≡ c = cc in
          elim (has_number n x) as (λ t. has_number n x ≡ t → cond t (Some x) (find (has_number n) xs) ≡ Some d → c.number ≤ n) [
            | true ↦ λ e _. omega (arith, eqb-true x.number n e, ap number_of same)
            | false ↦ λ _ k. omega (arith, (found_bounds n (x.number + 1) next_number d xs r.1 k).0, ap number_of same)
          ] refl found
      | false ↦ λ fails h.
          elim (has_number n x) as (λ t. has_number n x ≡ t → cond t (Some x) (find (has_number n) xs) ≡ Some d → c.number ≤ n) [
            | true ↦ λ _ k. let same : x ≡ d = cc in absurd (false_true (sym fails ∙ ap q same ∙ passes))
            | false ↦ λ _ k. least_row q (x.number + 1) next_number xs r.1 c h n d k passes
          ] refl found
    ] refl first

no_row : (q : CallbackRow → Bool) (cs : List CallbackRow) → find q cs ≡ None → (n : ℕ) (d : CallbackRow) → find (has_number n) cs ≡ Some d → q d ≡ true → ⊥
no_row q [] none n d found passes = absurd cc
no_row q (x ∷ xs) none n d found passes =
    elim (q x) as (λ b. q x ≡ b → cond b (Some x) (find q xs) ≡ None → ⊥) [
      | true ↦ λ _ h. absurd cc
      | false ↦ λ fails h.
          elim (has_number n x) as (λ t. has_number n x ≡ t → cond t (Some x) (find (has_number n) xs) ≡ Some d → ⊥) [
            | true ↦ λ _ k. let same : x ≡ d = cc in absurd (false_true (sym fails ∙ ap q same ∙ passes))
            | false ↦ λ _ k. no_row q xs h n d k passes
          ] refl found
    ] refl none

-- what is kept of a group is outstanding for it
pub first_of_group : (group : GroupId) (cs : List CallbackRow) → filter lives cs ≡ cs → find (λ (c : CallbackRow). c.group.0 == group.0) cs ≡ find (is_outstanding_for (Group group)) cs
first_of_group group cs living = each cs (subst (AllByRecursion (λ c. lives c ≡ true)) living (all_pass lives cs))
  where
    and_live : (b : Bool) (s : Status) → is_live s ≡ true → b ≡ (b && is_held_for (Group group) s)
    and_live false s e = refl
    and_live true s e = sym (held_live group s ∙ e)

    each : (ds : List CallbackRow) → AllByRecursion (λ c. lives c ≡ true) ds → find (λ (c : CallbackRow). c.group.0 == group.0) ds ≡ find (is_outstanding_for (Group group)) ds
    each [] all = refl
    each (d ∷ ds) all = ap₂ (λ b o. cond b (Some d) o) (and_live (d.group.0 == group.0) d.status all.0) (each ds all.1)

pub first_of_kernel : (kernel : KernelId) (cs : List CallbackRow) → find (is_outstanding_for (Kernel kernel)) cs ≡ None
first_of_kernel kernel [] = refl
first_of_kernel kernel (c ∷ cs) = first_of_kernel kernel cs

-- ---- of an actor's wait

-- the wait that an actor has begun for a target, and what stands at the actor's place
record IsWait (i : Inside) (who : Who) (place : ℕ) (target : WaitTarget) : Type 0 where
  wait : BegunWait
  begun : wait_among i.waits.waits who ≡ Some wait
  for : wait.target ≡ target
  cover : IsCover i.made i.callbacks.rows (bound_of i.covers place) (listed_of i.covers place) wait

wait_here : (i : Inside) (l : Live) (who : Who) (place : ℕ) (target : WaitTarget) → shown i ≡ l → IsLiveWorld i → place_of l.world.limits who ≡ Some place → option_map (λ (b : BegunWait). b.target) (wait_of l.world who) ≡ Some target → IsWait i who place target
wait_here i l who place target is k at for =
    of_wait (wait_among i.waits.waits who) refl (ap (λ (x : Live). option_map (λ (b : BegunWait). b.target) (wait_of x.world who)) is ∙ for)
  where
    of_wait : (o : Option BegunWait) → wait_among i.waits.waits who ≡ o → option_map (λ (b : BegunWait). b.target) o ≡ Some target → IsWait i who place target
    of_wait None begun e = absurd cc
    of_wait (Some b) begun e = record { wait = b; begun = begun; for = cc; cover = k.covered.covered who place b (ap (λ (x : Live). place_of x.world.limits who) is ∙ at) begun }

module _ (i : Inside) (who : Who) (place : ℕ) (target : WaitTarget) (w : IsWait i who place target) where
  abbrev is_held_here : ℕ → Bool
  is_held_here n = is_held_among i.callbacks.rows target n

  -- what it holds first
  first_is : find is_held_here w.wait.covered ≡ slice_get (held_by (shown i).world who) 0
  first_is =
      ap (λ t. find (is_held_among i.callbacks.rows t) w.wait.covered) (sym w.for)
      ∙ first_filtered (is_held_among i.callbacks.rows w.wait.target) w.wait.covered
      ∙ ap (λ o. slice_get (option_map_or (held (shown i).world) o []) 0) (sym w.begun)

  -- what is held is covered as it is told
  tells_here : (n : ℕ) → is_held_here n ≡ true → covers (bound_of i.covers place) (listed_of i.covers place) n ≡ is_among n w.wait.covered
  tells_here n e = w.cover.tells n (ap (λ t. is_held_among i.callbacks.rows t n) w.for ∙ e)

  -- and a callback that is outstanding is held where it is covered
  among_held : (c : CallbackRow) → find (has_number c.number) i.callbacks.rows ≡ Some c → is_among c.number (held_by (shown i).world who) ≡ (is_outstanding_for target c && covers (bound_of i.covers place) (listed_of i.covers place) c.number)
  among_held c found =
      let row : is_held_here c.number ≡ is_outstanding_for target c = ap (λ o. option_map_or (is_outstanding_for target) o false) found in
      ap (λ o. is_among c.number (option_map_or (held (shown i).world) o [])) w.begun
      ∙ any-filter_same (λ m. m == c.number) (is_held_among i.callbacks.rows w.wait.target) (is_held_among i.callbacks.rows w.wait.target c.number) (λ m same. ap (is_held_among i.callbacks.rows w.wait.target) (eqb-true m c.number same)) w.wait.covered
      ∙ ap (λ t. is_held_among i.callbacks.rows t c.number && is_among c.number w.wait.covered) w.for
      ∙ elim (is_held_here c.number) as (λ b. is_held_here c.number ≡ b → (b && is_among c.number w.wait.covered) ≡ (b && covers (bound_of i.covers place) (listed_of i.covers place) c.number)) [
        | true ↦ λ e. sym (tells_here c.number e)
        | false ↦ λ _. refl
      ] refl
      ∙ ap (λ b. b && covers (bound_of i.covers place) (listed_of i.covers place) c.number) row

  first_listed : bound_of i.covers place ≡ None → find is_held_here (listed_of i.covers place) ≡ slice_get (held_by (shown i).world who) 0
  first_listed none = ap (find is_held_here) (w.cover.lists none) ∙ first_is

  module _ (rising : IsRising 1 (i.made + 1) i.callbacks.rows) (last : ℕ) (bound : bound_of i.covers place ≡ Some last) where
    tells_last : (n : ℕ) → is_held_here n ≡ true → nat_le n last ≡ is_among n w.wait.covered
    tells_last n e = ap (λ o. covers o (listed_of i.covers place) n) (sym bound) ∙ tells_here n e

    -- nothing that is held is above the first
    least_held : (c : CallbackRow) → find (is_outstanding_for target) i.callbacks.rows ≡ Some c → (n : ℕ) → is_held_here n ≡ true → c.number ≤ n
    least_held c first n e = of_row (find (has_number n) i.callbacks.rows) refl e
      where
        of_row : (o : Option CallbackRow) → find (has_number n) i.callbacks.rows ≡ o → option_map_or (is_outstanding_for target) o false ≡ true → c.number ≤ n
        of_row None found h = absurd (false_true h)
        of_row (Some d) found h = least_row (is_outstanding_for target) 1 (i.made + 1) i.callbacks.rows rising c first n d found h

    none_held : ((n : ℕ) → is_held_here n ≡ true → last < n) → None ≡ slice_get (held_by (shown i).world who) 0
    none_held above = sym (none_passing is_held_here w.wait.covered (λ n e. sym (tells_last n e) ∙ lt-leb n last (above n e))) ∙ first_is

    -- what is outstanding first is held, if it isn't above the bound
    first_within : (first : ℕ) → Some first ≡ option_map number_of (find (is_outstanding_for target) i.callbacks.rows) → first ≤ last → Some first ≡ slice_get (held_by (shown i).world who) 0
    first_within first is within = of_row (find (is_outstanding_for target) i.callbacks.rows) refl is
      where
        of_row : (o : Option CallbackRow) → find (is_outstanding_for target) i.callbacks.rows ≡ o → Some first ≡ option_map number_of o → Some first ≡ slice_get (held_by (shown i).world who) 0
        of_row None found e = absurd cc
        of_row (Some c) found e =
            let same : first ≡ c.number = cc in
            let there = find_numbered (is_outstanding_for target) 1 (i.made + 1) i.callbacks.rows c rising found in
            let held_it : is_held_here c.number ≡ true = ap (λ o. option_map_or (is_outstanding_for target) o false) there ∙ find_passes (is_outstanding_for target) c i.callbacks.rows found in
            ap (λ n. Some n) same
            ∙ sym (first_passing is_held_here c.number 0 w.wait.covered w.cover.rises held_it (sym (tells_last c.number held_it) ∙ le-leb c.number last (omega (arith, within, same))) (least_held c found))
            ∙ first_is

    first_past : (first : ℕ) → Some first ≡ option_map number_of (find (is_outstanding_for target) i.callbacks.rows) → last < first → None ≡ slice_get (held_by (shown i).world who) 0
    first_past first is past = of_row (find (is_outstanding_for target) i.callbacks.rows) refl is
      where
        of_row : (o : Option CallbackRow) → find (is_outstanding_for target) i.callbacks.rows ≡ o → Some first ≡ option_map number_of o → None ≡ slice_get (held_by (shown i).world who) 0
        of_row None found e = absurd cc
        of_row (Some c) found e = let same : first ≡ c.number = cc in none_held (λ n h. omega (arith, least_held c found n h, past, same))

    nothing_first : None ≡ option_map number_of (find (is_outstanding_for target) i.callbacks.rows) → None ≡ slice_get (held_by (shown i).world who) 0
    nothing_first is = of_row (find (is_outstanding_for target) i.callbacks.rows) refl is
      where
        of_row : (o : Option CallbackRow) → find (is_outstanding_for target) i.callbacks.rows ≡ o → None ≡ option_map number_of o → None ≡ slice_get (held_by (shown i).world who) 0
        of_row (Some c) found e = absurd cc
        of_row None found e = none_held (λ n h. absurd (none_outstanding n (find (has_number n) i.callbacks.rows) refl h))
          where
            none_outstanding : (n : ℕ) (o : Option CallbackRow) → find (has_number n) i.callbacks.rows ≡ o → option_map_or (is_outstanding_for target) o false ≡ true → ⊥
            none_outstanding n None there h = false_true h
            none_outstanding n (Some d) there h = no_row (is_outstanding_for target) i.callbacks.rows found n d there h

-- as the world shows it
pub held_where : (i : Inside) (l : Live) (who : Who) (place : ℕ) (target : WaitTarget) → shown i ≡ l → IsLiveWorld i → place_of l.world.limits who ≡ Some place → option_map (λ (b : BegunWait). b.target) (wait_of l.world who) ≡ Some target
    → (c : CallbackRow) → callback_of l.world c.number ≡ Some c → is_among c.number (held_by l.world who) ≡ (is_outstanding_for target c && covers (bound_of i.covers place) (listed_of i.covers place) c.number)
held_where i l who place target is k at for c found =
    ap (λ (x : Live). is_among c.number (held_by x.world who)) (sym is)
    ∙ among_held i who place target (wait_here i l who place target is k at for) c (ap (λ (x : Live). callback_of x.world c.number) is ∙ found)

module _ (i : Inside) (l : Live) (who : Who) (place : ℕ) (target : WaitTarget) (is : shown i ≡ l) (k : IsLiveWorld i) (at : place_of l.world.limits who ≡ Some place) (for : option_map (λ (b : BegunWait). b.target) (wait_of l.world who) ≡ Some target) where
  seen : (o : Option ℕ) → o ≡ slice_get (held_by (shown i).world who) 0 → o ≡ slice_get (held_by l.world who) 0
  seen o e = e ∙ ap (λ (x : Live). slice_get (held_by x.world who) 0) is

  pub listed_where : bound_of i.covers place ≡ None → find (is_held_among i.callbacks.rows target) (listed_of i.covers place) ≡ slice_get (held_by l.world who) 0
  listed_where none = seen (find (is_held_among i.callbacks.rows target) (listed_of i.covers place)) (first_listed i who place target (wait_here i l who place target is k at for) none)

  module _ (last : ℕ) (bound : bound_of i.covers place ≡ Some last) where
    pub within_where : (first : ℕ) → Some first ≡ option_map number_of (find (is_outstanding_for target) i.callbacks.rows) → first ≤ last → Some first ≡ slice_get (held_by l.world who) 0
    within_where first first_is le = seen (Some first) (first_within i who place target (wait_here i l who place target is k at for) k.sound.numbers last bound first first_is le)

    pub past_where : (first : ℕ) → Some first ≡ option_map number_of (find (is_outstanding_for target) i.callbacks.rows) → last < first → None ≡ slice_get (held_by l.world who) 0
    past_where first first_is past = seen None (first_past i who place target (wait_here i l who place target is k at for) k.sound.numbers last bound first first_is past)

    pub nothing_where : None ≡ option_map number_of (find (is_outstanding_for target) i.callbacks.rows) → None ≡ slice_get (held_by l.world who) 0
    nothing_where none = seen None (nothing_first i who place target (wait_here i l who place target is k at for) k.sound.numbers last bound none)
