-- Whether a wait holds a callback that is starved, from the first pending callback of its object.
use Rattle.std.proofs.Common.{◌≡◌, ◌≢◌, ℕ, ◌+◌, ◌≤◌, Bool, true, false, cond, ◌&&◌, ◌||◌, ◌==◌, List, [], ◌∷◌, nat_lt, slice_get, Option, Some, None, option_map, refl, sym, ap, ap₂, ◌∙◌, subst, arith, ⊎_elim, filter, find, eqb-true, eq-eqb, le-ltb}
use Rattle.std.specs.List.{list_any}
use Rattle.std.specs.Option.{option_map_or}
use Rattle.std.proofs.lemmas.Bool.{cases_eq}
use Rattle.std.proofs.lemmas.Map.Views.{any-filter_same}
use Rattle.tp_base.specs.declared.ids.Who.{Who}
use Rattle.tp_base.specs.declared.ids.ObjectId.{ObjectId}
use Rattle.tp_base.specs.declared.ids.PoolId.{PoolId}
use Rattle.tp_base.specs.declared.rows.ObjectRow.{ObjectRow}
use Rattle.tp_base.specs.declared.rows.CallbackRow.{CallbackRow}
use Rattle.tp_base.specs.declared.rows.WaitTarget.{WaitTarget}
use Rattle.tp_base.specs.declared.rows.WaitTarget.TheVariants.{Object}
use Rattle.tp_model.specs.World.{World, BegunWait}
use Rattle.tp_model.specs.Counts.{numbered, has_number, attached, callback_of, is_pending}
use Rattle.tp_model.specs.Waits.{is_held_for, is_outstanding_for, is_held, held, wait_of}
use Rattle.tp_base.specs.Actors.{is_same_actor}
use Rattle.tp_model.specs.Calls.Waits.{is_starved, holds_starved}
use Rattle.tp_model.specs.Laws.Entries.{is_among}
use Rattle.tp_model.specs.Support.Sound.{IsSound, IsRising, IsNamed, IsCallbackSound, IsWaitSound, is_left_of, is_left_among}
use Rattle.tp_model.proofs.Lists.{find_all, find_kept, find_passes}
use Rattle.tp_model.proofs.Callbacks.{find_numbered, found_bounds, rising_filter}
use Rattle.tp_model.proofs.Refusals.{both, and_false, false_true}
use Rattle.tp_model.proofs.Fates.{pending_left}
use Rattle.live_world.specs.Waiting.{held_by, is_pending_for, pending_of}
use Rattle.live_world.proofs.Along.{first_passes, first_by_number}
use Rattle.live_world.proofs.Moving.{pending_tied}

-- ---- of a list

any_among : (f : ℕ → Bool) (n : ℕ) (ns : List ℕ) → is_among n ns ≡ true → f n ≡ true → list_any f ns ≡ true
any_among f n [] among passes = absurd (false_true among)
any_among f n (m ∷ ns) among passes =
    elim (m == n) as (λ b. (m == n) ≡ b → (b || is_among n ns) ≡ true → (f m || list_any f ns) ≡ true) [
      | true ↦ λ is _. ap (λ b. b || list_any f ns) (ap f (eqb-true m n is) ∙ passes)
      | false ↦ λ _ h. elim (f m) as (λ b. (b || list_any f ns) ≡ true) [ true ↦ refl | false ↦ any_among f n ns h passes ]
    ] refl among

some_among : (f : ℕ → Bool) (ns : List ℕ) → list_any f ns ≡ true → (n : ℕ) × (is_among n ns ≡ true) × (f n ≡ true)
some_among f [] e = absurd (false_true e)
some_among f (m ∷ ns) e =
    elim (f m) as (λ b. f m ≡ b → (b || list_any f ns) ≡ true → (n : ℕ) × (is_among n (m ∷ ns) ≡ true) × (f n ≡ true)) [
      | true ↦ λ is _. (m, ap (λ b. b || is_among m ns) (eq-eqb m m refl), is)
      | false ↦ λ _ h.
          let rest = some_among f ns h in
          (rest.0, elim (m == rest.0) as (λ b. (b || is_among rest.0 ns) ≡ true) [ true ↦ refl | false ↦ rest.1 ], rest.2)
    ] refl e

among_filter : (p : ℕ → Bool) (n : ℕ) (ns : List ℕ) → is_among n (filter p ns) ≡ (p n && is_among n ns)
among_filter p n ns = any-filter_same (λ m. m == n) p (p n) (λ m same. ap p (eqb-true m n same)) ns

same_truth : (a b : Bool) → (a ≡ true → b ≡ true) → (b ≡ true → a ≡ true) → a ≡ b
same_truth true b there back = sym (there refl)
same_truth false true there back = back refl
same_truth false false there back = refl

-- where there is room none is starved
pub not_starved : (w : World) (room : ℕ) (ns : List ℕ) → 4 ≤ room → holds_starved w room ns ≡ false
not_starved w room [] many = refl
not_starved w room (n ∷ ns) many = ap₂ (λ a b. a || b) (of_row (callback_of w n)) (not_starved w room ns many)
  where
    of_row : (o : Option CallbackRow) → option_map_or (is_starved w room) o false ≡ false
    of_row None = refl
    of_row (Some c) =
        ap₂ (λ a b. is_pending c.status && (a || (b && (attached w c.pool.0 == 0)))) (le-ltb room 2 (omega (arith, many))) (le-ltb room 4 many)
        ∙ and_false (is_pending c.status)

-- the first row of rising numbers has the least
first_least : (low next_number n : ℕ) (d : CallbackRow) (cs : List CallbackRow) → IsRising low next_number cs → find (has_number n) cs ≡ Some d → (p : CallbackRow) × (slice_get cs 0 ≡ Some p) × (p.number ≤ n)
first_least low next_number n d [] rising found = absurd cc
first_least low next_number n d (c ∷ cs) rising found =
    elim (has_number n c) as (λ b. has_number n c ≡ b → cond b (Some c) (find (has_number n) cs) ≡ Some d → (p : CallbackRow) × (slice_get (c ∷ cs) 0 ≡ Some p) × (p.number ≤ n)) [
      | true ↦ λ is _. let same : c.number ≡ n = eqb-true c.number n is in (c, refl, omega (arith, same))
      | false ↦ λ _ h. let bounds = found_bounds n (c.number + 1) next_number d cs rising.1 h in (c, refl, omega (arith, bounds.0))
    ] refl found

-- ---- of a wait

-- callbacks of one object are of one pool
one_pool : (objects : List ObjectRow) (c d : CallbackRow) → IsCallbackSound objects c → IsCallbackSound objects d → c.object.0 ≡ d.object.0 → d.object.0 ≢ 0 → c.pool ≡ d.pool
one_pool objects c d sound_c sound_d same named =
    let of_c = sound_c (λ none. named (sym same ∙ none)) in
    let of_d = sound_d named in
    let both_stand : Some of_c.row ≡ Some of_d.row = sym of_c.stands ∙ ap (numbered objects) same ∙ of_d.stands in
    let row : of_c.row ≡ of_d.row = cc in
    of_c.home ∙ ap (λ (o : ObjectRow). o.env.pool) row ∙ sym of_d.home

module _ (w : World) (next_number room : ℕ) (sound : IsSound next_number w) (b : BegunWait) (kept : IsWaitSound next_number w.callbacks b) (object : ObjectId) (target : b.target ≡ Object object) where
  -- the callback of this number is starved
  abbrev starves : ℕ → Bool
  starves n = option_map_or (is_starved w room) (callback_of w n) false

  -- the first pending callback is starved and held
  abbrev pub tells : CallbackRow → Bool
  tells c = is_starved w room c && is_among c.number (held w b)

  named : object.0 ≢ 0
  named = subst (λ (t : WaitTarget). IsNamed t) target kept.named

  -- a pending callback of the object is held where it is covered
  pending_held : (c : CallbackRow) → find (has_number c.number) w.callbacks ≡ Some c → is_pending_for object c ≡ true → is_held w b.target c.number ≡ true
  pending_held c found pends =
      let parts = both (is_pending c.status) (c.object.0 == object.0) pends in
      ap (λ t. is_held w t c.number) target ∙ ap (λ o. option_map_or (is_outstanding_for (Object object)) o false) found
      ∙ ap₂ (λ p q. p && q) parts.1 (pending_tied object c.status parts.0)

  left_pending : (n : ℕ) (c : CallbackRow) → find (has_number n) w.callbacks ≡ Some c → is_pending_for object c ≡ true → is_left_among w.callbacks b.target n ≡ true
  left_pending n c found pends =
      let parts = both (is_pending c.status) (c.object.0 == object.0) pends in
      ap (λ t. is_left_among w.callbacks t n) target ∙ ap (λ o. option_map_or (is_left_of (Object object)) o false) found
      ∙ ap₂ (λ p q. p && q) parts.1 (pending_left c.status parts.0)

  -- the first pending callback of the object is found by its number, and it is pending
  first_found_row : (c : CallbackRow) → slice_get (pending_of w object) 0 ≡ Some c → find (has_number c.number) w.callbacks ≡ Some c
  first_found_row c first = first_by_number next_number w.callbacks (is_pending_for object) c sound.numbers first

  -- it tells of all
  told : (c : CallbackRow) → slice_get (pending_of w object) 0 ≡ Some c → tells c ≡ true → holds_starved w room (held w b) ≡ true
  told c first e =
      let parts = both (is_starved w room c) (is_among c.number (held w b)) e in
      any_among starves c.number (held w b) parts.1 (ap (λ o. option_map_or (is_starved w room) o false) (first_found_row c first) ∙ parts.0)

  -- where one is starved, there is a first, and it is told
  record IsTold : Type 0 where
    first : CallbackRow
    is : slice_get (pending_of w object) 0 ≡ Some first
    tells_it : tells first ≡ true

  telling : (n : ℕ) (d : CallbackRow) → find (has_number n) w.callbacks ≡ Some d → is_starved w room d ≡ true → is_among n (held w b) ≡ true → IsTold
  telling n d found starved among =
      let has = both (is_held w b.target n) (is_among n b.covered) (sym (among_filter (is_held w b.target) n b.covered) ∙ among) in
      let outstanding : is_outstanding_for (Object object) d ≡ true = sym (ap (λ t. is_held w t n) target ∙ ap (λ o. option_map_or (is_outstanding_for (Object object)) o false) found) ∙ has.0 in
      let of_it : (d.object.0 == object.0) ≡ true = (both (d.object.0 == object.0) (is_held_for (Object object) d.status) outstanding).0 in
      let starved_parts = both (is_pending d.status) (nat_lt room 2 || (nat_lt room 4 && (attached w d.pool.0 == 0))) starved in
      let pends : is_pending_for object d ≡ true = ap₂ (λ p q. p && q) starved_parts.0 of_it in
      let least = first_least 1 next_number n d (pending_of w object) (rising_filter (is_pending_for object) 1 next_number w.callbacks sound.numbers) (find_kept (has_number n) (is_pending_for object) d pends w.callbacks found) in
      let c : CallbackRow = least.0 in
      let there : find (has_number c.number) w.callbacks ≡ Some c = first_found_row c least.1 in
      let c_pends : is_pending_for object c ≡ true = first_passes (is_pending_for object) c w.callbacks least.1 in
      let c_parts = both (is_pending c.status) (c.object.0 == object.0) c_pends in
      let sound_c = find_all (IsCallbackSound w.objects) (has_number c.number) c w.callbacks sound.callback_objects there in
      let sound_d = find_all (IsCallbackSound w.objects) (has_number n) d w.callbacks sound.callback_objects found in
      let is_c : c.object.0 ≡ object.0 = eqb-true c.object.0 object.0 c_parts.1 in
      let is_d : d.object.0 ≡ object.0 = eqb-true d.object.0 object.0 of_it in
      let pool : c.pool ≡ d.pool = one_pool w.objects c d sound_c sound_d (is_c ∙ sym is_d) (λ none. named (sym is_d ∙ none)) in
      let starves_c : is_starved w room c ≡ true
      = ap₂ (λ p (q : PoolId). p && (nat_lt room 2 || (nat_lt room 4 && (attached w q.0 == 0)))) (c_parts.0 ∙ sym starved_parts.0) pool ∙ starved in
      let covers_c : is_among c.number b.covered ≡ true
      = ⊎_elim
      (λ (same : c.number ≡ n). ap (λ m. is_among m b.covered) same ∙ has.1)
      (λ (apart : c.number ≢ n). kept.closed c.number n (omega (arith, least.2, apart)) (left_pending c.number c there c_pends) (left_pending n d found pends) has.1)
      (cases_eq c.number n) in
      record {
        first = c;
        is = least.1;
        tells_it = ap₂ (λ p q. p && q) starves_c (among_filter (is_held w b.target) c.number b.covered ∙ ap₂ (λ p q. p && q) (pending_held c there c_pends) covers_c);
      }

  all_told : holds_starved w room (held w b) ≡ true → IsTold
  all_told e =
      let one = some_among starves (held w b) e in
      of_row (callback_of w one.0) refl one.2
    where
      of_row : (o : Option CallbackRow) → callback_of w (some_among starves (held w b) e).0 ≡ o → option_map_or (is_starved w room) o false ≡ true → IsTold
      of_row None found h = absurd (false_true h)
      of_row (Some d) found h = telling (some_among starves (held w b) e).0 d found h (some_among starves (held w b) e).1

  pub first_tells : (first : Option CallbackRow) → first ≡ slice_get (pending_of w object) 0 → option_map_or tells first false ≡ holds_starved w room (held w b)
  first_tells None is =
      same_truth false (holds_starved w room (held w b)) (λ e. absurd (false_true e))
      (λ e. let all = all_told e in let none : None ≡ Some all.first = is ∙ all.is in absurd cc)
  first_tells (Some c) is =
      same_truth (tells c) (holds_starved w room (held w b)) (told c (sym is))
      (λ e. let all = all_told e in let same : Some c ≡ Some all.first = is ∙ all.is in let this : c ≡ all.first = cc in ap tells this ∙ all.tells_it)

-- ---- of an actor's wait

-- one for an object holds a starved callback where the first pending one of the object is starved and held
pub starved_by_pending : (w : World) (who : Who) (object : ObjectId) (next_number room : ℕ) → IsSound next_number w → option_map (λ (b : BegunWait). b.target) (wait_of w who) ≡ Some (Object object) → (pending : Option CallbackRow) → pending ≡ slice_get (pending_of w object) 0
    → option_map_or (λ c. is_starved w room c && is_among c.number (held_by w who)) pending false ≡ holds_starved w room (held_by w who)
starved_by_pending w who object next_number room sound for pending is = of_wait (wait_of w who) refl for
  where
    of_wait : (o : Option BegunWait) → wait_of w who ≡ o → option_map (λ (b : BegunWait). b.target) o ≡ Some (Object object)
        → option_map_or (λ c. is_starved w room c && is_among c.number (option_map_or (held w) o [])) pending false ≡ holds_starved w room (option_map_or (held w) o [])
    of_wait None begun e = absurd cc
    of_wait (Some b) begun e =
        let kept = find_all (IsWaitSound next_number w.callbacks) (λ (x : BegunWait). is_same_actor x.actor who) b w.waits sound.waits begun in
        let target : b.target ≡ Object object = cc in
        first_tells w next_number room sound b kept object target pending is

-- and one of these numbers is that of a starved callback where a row is starved and has one of them
module _ (w : World) (next_number room : ℕ) (rising : IsRising 1 next_number w.callbacks) (ns : List ℕ) where
  abbrev pub starves_row : CallbackRow → Bool
  starves_row c = is_starved w room c && is_among c.number ns

  abbrev starves_number : ℕ → Bool
  starves_number n = option_map_or (is_starved w room) (callback_of w n) false

  some_row : (q : CallbackRow → Bool) (cs : List CallbackRow) → list_any q cs ≡ true → (c : CallbackRow) × (find q cs ≡ Some c)
  some_row q [] e = absurd (false_true e)
  some_row q (c ∷ cs) e =
      elim (q c) as (λ b. (b || list_any q cs) ≡ true → (d : CallbackRow) × (cond b (Some c) (find q cs) ≡ Some d)) [ true ↦ λ _. (c, refl) | false ↦ λ h. some_row q cs h ] e

  row_any : (q : CallbackRow → Bool) (n : ℕ) (c : CallbackRow) (cs : List CallbackRow) → find (has_number n) cs ≡ Some c → q c ≡ true → list_any q cs ≡ true
  row_any q n c [] found passes = absurd cc
  row_any q n c (d ∷ ds) found passes =
      elim (has_number n d) as (λ b. cond b (Some d) (find (has_number n) ds) ≡ Some c → (q d || list_any q ds) ≡ true) [
        | true ↦ λ h. let same : d ≡ c = cc in ap (λ b. b || list_any q ds) (ap q same ∙ passes)
        | false ↦ λ h. elim (q d) as (λ b. (b || list_any q ds) ≡ true) [ true ↦ refl | false ↦ row_any q n c ds h passes ]
      ] found

  pub any_starved : list_any starves_row w.callbacks ≡ holds_starved w room ns
  any_starved =
      same_truth (list_any starves_row w.callbacks) (holds_starved w room ns)
      (λ e.
      let one = some_row starves_row w.callbacks e in
      let found = find_numbered starves_row 1 next_number w.callbacks one.0 rising one.1 in
      let parts = both (is_starved w room one.0) (is_among one.0.number ns) (find_passes starves_row one.0 w.callbacks one.1) in
      any_among starves_number one.0.number ns parts.1 (ap (λ o. option_map_or (is_starved w room) o false) found ∙ parts.0))
      (λ e. let one = some_among starves_number ns e in of_row one.0 (callback_of w one.0) refl one.1 one.2)
    where
      of_row : (n : ℕ) (o : Option CallbackRow) → callback_of w n ≡ o → is_among n ns ≡ true → option_map_or (is_starved w room) o false ≡ true → list_any starves_row w.callbacks ≡ true
      of_row n None found among starved = absurd (false_true starved)
      of_row n (Some c) found among starved =
          row_any starves_row n c w.callbacks found (ap₂ (λ a b. a && b) starved (ap (λ m. is_among m ns) (eqb-true c.number n (find_passes (has_number n) c w.callbacks found)) ∙ among))
