-- What begun waits cover, as callbacks change and as waits begin and end.
use Rattle.std.proofs.Common.{◌≡◌, ◌≢◌, ℕ, ◌+◌, ◌-◌, ◌<◌, ◌≤◌, Bool, true, false, cond, not, ◌&&◌, ◌||◌, ◌==◌, List, [], ◌∷◌, ◌++◌, length, map}
use Rattle.std.proofs.Common.{slice_get, Option, Some, None, IfSome, IsSome, is_some, is_none, refl, sym, ap, ap₂, ◌∙◌, subst, arith, filter, find, option_map, eqb-true, eq-eqb, ne_eqb, length-set, get_or-set_same, get_or-set_other}
use Rattle.std.specs.List.{AllByRecursion, list_any}
use Rattle.std.specs.Option.{option_map_or}
use Rattle.std.proofs.lemmas.Bool.{false≢true, lt-leb}
use Rattle.std.proofs.lemmas.List.{length-map}
use Rattle.tp_base.specs.declared.ids.Who.{Who}
use Rattle.tp_base.specs.declared.ids.Who.TheVariants.{Client, Worker}
use Rattle.tp_base.specs.declared.ids.GroupId.{GroupId}
use Rattle.tp_base.specs.declared.ids.ObjectId.{ObjectId}
use Rattle.tp_base.specs.declared.rows.Status.{Status}
use Rattle.tp_base.specs.declared.rows.Status.TheVariants.{Expected, Issued, Pending, Running, Returned, Cancelled}
use Rattle.tp_base.specs.declared.limits.Limits.{Limits}
use Rattle.tp_base.specs.declared.rows.CallbackRow.{CallbackRow}
use Rattle.tp_base.specs.declared.rows.WaitTarget.{WaitTarget}
use Rattle.tp_base.specs.declared.rows.WaitTarget.TheVariants.{Object, Group, Kernel}
use Rattle.tp_model.specs.World.{BegunWait}
use Rattle.tp_model.specs.Counts.{has_number, is_live, numbered}
use Rattle.tp_base.specs.Actors.{is_same_actor}
use Rattle.tp_model.specs.Conditions.{is_actor}
use Rattle.tp_model.specs.Changes.{replaced}
use Rattle.tp_model.specs.Support.Sound.{IsRising}
use Rattle.tp_model.specs.Support.Remembered.{lives}
use Rattle.tp_model.specs.Waits.{is_held_for, is_outstanding_for}
use Rattle.tp_model.specs.Laws.Entries.{is_among}
use Rattle.tp_model.proofs.Lists.{find_all}
use Rattle.tp_model.proofs.Callbacks.{find_replaced, find_replaced_other}
use Rattle.tp_model.proofs.Forgetting.{over_forget, over_not_outstanding}
use Rattle.tp_model.proofs.Refusals.{both, made, false_true, is_own_actor, same_actor_is}
use Rattle.begun_waits.specs.Begun.{Begun, is_waiting, place_of, wait_among, without_waits}
use Rattle.begun_waits.proofs.Actors.{begun_elsewhere, begun_found, changed_elsewhere, changed_to, ended_elsewhere, ended_gone, one_place, place_there, within_place}
use Rattle.live_world.specs.Parts.{shown_worker, is_held_among}
use Rattle.begun_waits.specs.Covers.{Covering, bound_of, covers, listed_of, with_cover}
use Rattle.live_world.specs.Covers.{IsCover}
use Rattle.live_world.specs.Invariant.{AreCovered}
use Rattle.live_world.specs.Live.{Live}
use Rattle.live_world.specs.View.{shown, IsLiveWorld}
use Rattle.live_world.specs.declared.LiveWorld.TheInside.{Inside}
use Rattle.live_callbacks.specs.Callbacks.{is_tied}
use Rattle.live_callbacks.proofs.Lines.{held_alike}

-- ---- a row in place of another

-- what lives is held for its group
pub held_live : (group : GroupId) (s : Status) → is_held_for (Group group) s ≡ is_live s
held_live group Expected = refl
held_live group Issued = refl
held_live group Pending = refl
held_live group (Running worker associated slots) = refl
held_live group Returned = refl
held_live group Cancelled = refl

-- it is outstanding for nothing that the one before wasn't
pub outstanding_before : (r c : CallbackRow) → r.object ≡ c.object → r.group ≡ c.group → (is_tied r ≡ true → is_tied c ≡ true) → lives c ≡ true → (target : WaitTarget) → is_outstanding_for target r ≡ true → is_outstanding_for target c ≡ true
outstanding_before r c object group tied live (Object o) e =
    let parts = both (r.object.0 == o.0) (is_held_for (Object o) r.status) e in
    ap₂ (λ a b. a && b) (ap (λ (x : ObjectId). x.0 == o.0) (sym object) ∙ parts.0) (held_alike o c.object c.status ∙ tied (sym (held_alike o r.object r.status) ∙ parts.1))
outstanding_before r c object group tied live (Group g) e =
    ap₂ (λ a b. a && b) (ap (λ (x : GroupId). x.0 == g.0) (sym group) ∙ (both (r.group.0 == g.0) (is_held_for (Group g) r.status) e).0) (held_live g c.status ∙ live)
outstanding_before r c object group tied live (Kernel kernel) e = absurd (false_true e)

-- nor is what is over
pub never_outstanding : (r c : CallbackRow) → lives r ≡ false → (target : WaitTarget) → is_outstanding_for target r ≡ true → is_outstanding_for target c ≡ true
never_outstanding r c over target e = absurd (false_true (sym (over_not_outstanding target r over) ∙ e))

-- what is held after was held before
held_before : (r c : CallbackRow) (cs : List CallbackRow) (target : WaitTarget) → find (has_number r.number) cs ≡ Some c → (is_outstanding_for target r ≡ true → is_outstanding_for target c ≡ true) → (n : ℕ) → is_held_among (replaced r cs) target n ≡ true → is_held_among cs target n ≡ true
held_before r c cs target found before n =
    elim (has_number n r) as (λ b. has_number n r ≡ b → is_held_among (replaced r cs) target n ≡ true → is_held_among cs target n ≡ true) [
      | true ↦ λ e held.
          let is : r.number ≡ n = eqb-true r.number n e in
          let now : is_held_among (replaced r cs) target r.number ≡ is_outstanding_for target r = ap (λ o. option_map_or (is_outstanding_for target) o false) (find_replaced r c cs found) in
          subst (λ m. is_held_among cs target m ≡ true) is
          (ap (λ o. option_map_or (is_outstanding_for target) o false) found ∙ before (sym now ∙ ap (is_held_among (replaced r cs) target) is ∙ held))
      | false ↦ λ e held. ap (λ o. option_map_or (is_outstanding_for target) o false) (sym (find_replaced_other r n cs e)) ∙ held
    ] refl

-- ---- of each wait

-- what the wait covers was made before the next number
abbrev pub CoversBelow : ℕ → BegunWait → Type 0
CoversBelow next_number b = AllByRecursion (λ n. n < next_number) b.covered

above_absent : (number : ℕ) (ns : List ℕ) → AllByRecursion (λ n. n < number) ns → is_among number ns ≡ false
above_absent number [] below = refl
above_absent number (n ∷ ns) below = ap₂ (λ a b. a || b) (ne_eqb n number (λ same. omega (arith, same, below.0))) (above_absent number ns below.1)

-- a number that isn't given yet isn't covered
not_given : (made : ℕ) (bound : Option ℕ) (listed covered : List ℕ) → IfSome bound (λ last. last ≤ made) → (bound ≡ None → listed ≡ covered) → AllByRecursion (λ n. n < made + 1) covered → covers bound listed (made + 1) ≡ is_among (made + 1) covered
not_given made None listed covered given lists below = ap (is_among (made + 1)) (lists refl)
not_given made (Some last) listed covered given lists below = lt-leb (made + 1) last (omega (arith, given)) ∙ sym (above_absent (made + 1) covered below)

given_more : (made : ℕ) (bound : Option ℕ) → IfSome bound (λ last. last ≤ made) → IfSome bound (λ last. last ≤ made + 1)
given_more made None given = tt
given_more made (Some last) given = omega (arith, given)

module _ {limits : Limits} {made : ℕ} {cs : List CallbackRow} {waits : Begun} {covering : Covering} where
  -- nothing is outstanding that wasn't
  covered_fewer : (ds : List CallbackRow) → ((target : WaitTarget) (n : ℕ) → is_held_among ds target n ≡ true → is_held_among cs target n ≡ true) → AreCovered limits made cs waits covering → AreCovered limits made ds waits covering
  covered_fewer ds fewer k =
      record {
        wait_limits = k.wait_limits;
        bounds = k.bounds;
        lists = k.lists;
        room = k.room;
        covered = λ who place b at is.
            let one = k.covered who place b at is in
            record { given = one.given; tells = λ n held. one.tells n (fewer b.target n held); lists = one.lists; rises = one.rises };
      }

  pub covered_replaced : (r c : CallbackRow) → ((target : WaitTarget) → is_outstanding_for target r ≡ true → is_outstanding_for target c ≡ true) → find (has_number r.number) cs ≡ Some c → AreCovered limits made cs waits covering → AreCovered limits made (replaced r cs) waits covering
  covered_replaced r c before found = covered_fewer (replaced r cs) (λ target n. held_before r c cs target found (before target) n)

  -- what is over is held by no wait
  pub covered_lives : (next_number : ℕ) → IsRising 1 next_number cs → AreCovered limits made cs waits covering → AreCovered limits made (filter lives cs) waits covering
  covered_lives next_number rising =
      covered_fewer (filter lives cs) (λ target n held. sym (over_forget (is_outstanding_for target) (over_not_outstanding target) 1 next_number n cs rising) ∙ held)

  -- and no callback that is made later
  pub covered_more : (c : CallbackRow) → c.number ≡ made + 1 → AllByRecursion (CoversBelow (made + 1)) waits.waits → AreCovered limits made cs waits covering → AreCovered limits (made + 1) (cs ++ c ∷ []) waits covering
  covered_more c number below k =
      record {
        wait_limits = k.wait_limits;
        bounds = k.bounds;
        lists = k.lists;
        room = k.room;
        covered = λ who place b at is.
            let one = k.covered who place b at is in
            let bound = bound_of covering place in
            let listed = listed_of covering place in
            record {
              given = given_more made bound one.given;
              tells = λ n. elim (has_number n c) as (λ t. has_number n c ≡ t → is_held_among (cs ++ c ∷ []) b.target n ≡ true → covers bound listed n ≡ is_among n b.covered) [
                | true ↦ λ e held.
                    subst (λ m. covers bound listed m ≡ is_among m b.covered) (sym number ∙ eqb-true c.number n e)
                    (not_given made bound listed b.covered one.given one.lists (find_all (CoversBelow (made + 1)) (λ (x : BegunWait). is_same_actor x.actor who) b waits.waits below is))
                | false ↦ λ e held. one.tells n (ap (λ o. option_map_or (is_outstanding_for b.target) o false) (sym (appended n cs e)) ∙ held)
              ] refl;
              lists = one.lists;
              rises = one.rises;
            };
      }
    where
      appended : (n : ℕ) (ds : List CallbackRow) → has_number n c ≡ false → find (has_number n) (ds ++ c ∷ []) ≡ find (has_number n) ds
      appended n [] other = ap (λ b. cond b (Some c) None) other
      appended n (d ∷ ds) other = ap (λ t. cond (has_number n d) (Some d) t) (appended n ds other)

-- ---- waits that begin and end

pub nowhere : {X : Type 0} (o : Option X) → ((x : X) → o ≡ Some x → ⊥) → o ≡ None
nowhere None h = refl
nowhere (Some x) h = absurd (h x refl)

pub not_found : {X : Type 0} (p : X → Bool) (xs : List X) → not (list_any p xs) ≡ is_none (find p xs)
not_found p [] = refl
not_found p (x ∷ xs) = elim (p x) as (λ b. not (b || list_any p xs) ≡ is_none (cond b (Some x) (find p xs))) [ true ↦ refl | false ↦ not_found p xs ]

one_same : {X : Type 0} (x y : X) → Some x ≡ Some y → x ≡ y
one_same x y e = cc

module _ {limits : Limits} {made : ℕ} {cs : List CallbackRow} {waits : Begun} {covering : Covering} where
  -- the place of an actor
  pub placed : (who : Who) (o : Option ℕ) → place_of waits.limits who ≡ o → AreCovered limits made cs waits covering → place_of limits who ≡ o
  placed who o at k = ap (λ ls. place_of ls who) (sym k.wait_limits) ∙ at

  pub covered_begun : (place : ℕ) (b : BegunWait) (bound : Option ℕ) (listed : List ℕ) → place_of limits b.actor ≡ Some place → is_waiting waits.waits b.actor ≡ false → IsCover made cs bound listed b
      → AreCovered limits made cs waits covering → AreCovered limits made cs (record waits { waits = waits.waits ++ b ∷ [] }) (with_cover covering place bound listed)
  covered_begun place b bound listed at none new k =
      record {
        wait_limits = k.wait_limits;
        bounds = length-set covering.bounds place bound ∙ k.bounds;
        lists = length-set covering.listed place listed ∙ k.lists;
        room = k.room;
        covered = λ who p x there is. elim (is_same_actor b.actor who) as (λ t. is_same_actor b.actor who ≡ t → IsCover made cs (bound_of (with_cover covering place bound listed) p) (listed_of (with_cover covering place bound listed) p) x) [
          | true ↦ λ e.
              let same : b.actor ≡ who = same_actor_is b.actor who e in
              let same_place : place ≡ p = one_same place p (sym at ∙ ap (place_of limits) same ∙ there) in
              let this : b ≡ x = one_same b x (sym (begun_found b waits.waits none) ∙ ap (wait_among (waits.waits ++ b ∷ [])) same ∙ is) in
              let within = place_there limits b.actor place at in
              rw (← same_place, ← this, get_or-set_same covering.bounds place bound None (omega (arith, within, k.bounds)), get_or-set_same covering.listed place listed [] (omega (arith, within, k.lists))) new
          | false ↦ λ e.
              let apart : p ≢ place = λ same. false≢true (sym e ∙ ap (is_same_actor b.actor) (one_place limits who b.actor place (subst (λ n. place_of limits who ≡ Some n) same there) at) ∙ is_own_actor b.actor) in
              rw (get_or-set_other covering.bounds place p bound None apart, get_or-set_other covering.listed place p listed [] apart) (k.covered who p x there (sym (begun_elsewhere b who e waits.waits) ∙ is))
        ] refl;
      }

  pub covered_ended : (who : Who) (given_up : ℕ) → AreCovered limits made cs waits covering → AreCovered limits made cs (record waits { waits = without_waits who waits.waits; given_up = given_up }) covering
  covered_ended who given_up k =
      record {
        wait_limits = k.wait_limits;
        bounds = k.bounds;
        lists = k.lists;
        room = k.room;
        covered = λ other p x there is. elim (is_same_actor who other) as (λ t. is_same_actor who other ≡ t → IsCover made cs (bound_of covering p) (listed_of covering p) x) [
          | true ↦ λ e. absurd (let none : None ≡ Some x = sym (ended_gone who waits.waits) ∙ ap (wait_among (without_waits who waits.waits)) (same_actor_is who other e) ∙ is in cc)
          | false ↦ λ e. k.covered other p x there (sym (ended_elsewhere who other e waits.waits) ∙ is)
        ] refl;
      }

  -- what a wait covers is nothing that its notices tell
  pub covered_noted : (who : Who) (f : BegunWait → BegunWait) → ((b : BegunWait) → (f b).actor ≡ b.actor) → ((b : BegunWait) → (f b).target ≡ b.target) → ((b : BegunWait) → (f b).covered ≡ b.covered)
      → AreCovered limits made cs waits covering → AreCovered limits made cs (record waits { waits = map (λ (b : BegunWait). cond (is_same_actor b.actor who) (f b) b) waits.waits }) covering
  covered_noted who f stays target covered k =
      record {
        wait_limits = k.wait_limits;
        bounds = k.bounds;
        lists = k.lists;
        room = k.room;
        covered = λ other p x there is. elim (is_same_actor who other) as (λ t. is_same_actor who other ≡ t → IsCover made cs (bound_of covering p) (listed_of covering p) x) [
          | true ↦ λ e.
              let same : who ≡ other = same_actor_is who other e in
              changed_one p x (wait_among waits.waits who) (λ b was. k.covered who p b (ap (place_of limits) same ∙ there) was)
              (sym (changed_to who f stays waits.waits) ∙ ap (wait_among (map (λ (b : BegunWait). cond (is_same_actor b.actor who) (f b) b) waits.waits)) same ∙ is)
          | false ↦ λ e. k.covered other p x there (sym (changed_elsewhere who f stays other e waits.waits) ∙ is)
        ] refl;
      }
    where
      changed_one : (p : ℕ) (x : BegunWait) (o : Option BegunWait) → ((b : BegunWait) → o ≡ Some b → IsCover made cs (bound_of covering p) (listed_of covering p) b) → option_map f o ≡ Some x → IsCover made cs (bound_of covering p) (listed_of covering p) x
      changed_one p x None had e = absurd cc
      changed_one p x (Some b) had e =
          let one = had b refl in
          subst (IsCover made cs (bound_of covering p) (listed_of covering p)) (one_same (f b) x e)
          (record { given = one.given; tells = rw (target b, covered b) one.tells; lists = rw (covered b) one.lists; rises = rw (covered b) one.rises })

-- a row of this number is within the rows
pub number_most : {X : Type 0} (rows : List X) (number : ℕ) → is_some (numbered rows number) ≡ true → (1 ≤ number) × (number ≤ length rows)
number_most rows number there =
    elim (number == 0) as (λ b. (number == 0) ≡ b → is_some (cond b None (slice_get rows (number - 1))) ≡ true → (1 ≤ number) × (number ≤ length rows)) [
      | true ↦ λ _ h. absurd (false_true h)
      | false ↦ λ e h.
          let positive : number ≢ 0 = λ z. false_true (sym e ∙ eq-eqb number 0 z) in
          let within : number - 1 < length rows = made rows (number - 1) h in
          (omega (arith, positive), omega (arith, within, positive))
    ] refl there

-- an actor of the machine has a place
pub actor_somewhere : (i : Inside) (who : Who) → IsLiveWorld i → is_actor (shown i).world who ≡ true → IsSome (place_of i.waits.limits who)
actor_somewhere i who k acts = subst (λ ls. IsSome (place_of ls who)) (sym k.covered.wait_limits) (of_kind who acts)
  where
    or_nothing : (b : Bool) → (b || false) ≡ true → b ≡ true
    or_nothing true e = refl
    or_nothing false e = e

    of_kind : (a : Who) → is_actor (shown i).world a ≡ true → IsSome (place_of i.limits a)
    of_kind (Client n) acts_here =
        let within = number_most i.clients.items n (or_nothing (is_some (numbered i.clients.items n)) acts_here) in
        ap is_some (within_place 0 i.limits.clients n within.0 (omega (arith, within.1, k.sized.client_count)))
    of_kind (Worker n) acts_here =
        let within = number_most (map shown_worker i.pools.workers) n acts_here in
        ap is_some (within_place i.limits.clients i.limits.workers n within.0 (omega (arith, within.1, length-map i.pools.workers shown_worker, k.sized.worker_count)))

-- and what its wait covers stands there
pub place_within : (i : Inside) (l : Live) (who : Who) (place : ℕ) → shown i ≡ l → IsLiveWorld i → place_of l.world.limits who ≡ Some place → place < length i.covers.bounds
place_within i l who place is k at = omega (arith, place_there i.limits who place (ap (λ (x : Live). place_of x.world.limits who) is ∙ at), k.covered.bounds)
