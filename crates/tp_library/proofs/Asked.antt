-- A call of the machine that is answered, and what is kept beside it then.
use Rattle.std.proofs.Common.{Bool, Global, Vec, ◌≡◌, ℕ, ◌+◌, ◌<◌, ◌≤◌, ◌^◌, [], ◌∷◌, length, sym, ap, ◌∙◌, subst, arith, length-append}
use Rattle.std.specs.Prelude.{map}
use Rattle.std.specs.List.{count_by, range_with_len}
use Rattle.std.proofs.lemmas.List.Sums.{count_by-le-length}
use Rattle.tp_base.specs.declared.answers.Answer.{Answer}
use Rattle.tp_base.specs.declared.answers.Outcome.TheVariants as outcome
use Rattle.tp_base.specs.declared.calls.Call.{Call}
use Rattle.tp_base.specs.declared.ids.Who.{Who}
use Rattle.tp_base.specs.declared.rows.ObjectRow.{ObjectRow}
use Rattle.tp_base.specs.Ranges.{IsAnswerInRange}
use Rattle.tp_model.specs.Laws.Entries.{made_by}
use Rattle.tp_model.specs.Laws.Once.{left}
use Rattle.tp_model.specs.World.{World}
use Rattle.tp_model.proofs.Fitting.{legal_fits}
use Rattle.recorded.specs.Recordings.{outcome_behind, recorded, world_behind, Recording}
use Rattle.tp_library.specs.Tallied.{row_of, Tallied}
use Rattle.tp_library.specs.Counted.{is_left_in, left_in, on_objects, runs_in, IsShelfOf}
use Rattle.tp_library.specs.Effecting.{effect_of}
use Rattle.tp_library.specs.Kept.{IsCounted, IsKept}
use Rattle.tp_library.specs.Noted.{CanNote, IsNoted}
use Rattle.tp_library.specs.Rows.{counted_left, is_row_in, rows_in}
use Rattle.tp_library.specs.Libraries.{shelf_answered}
use Rattle.tp_library.specs.Shelves.{Shelf}
use Rattle.tp_library.specs.Tallies.{at}
use Rattle.tp_library.specs.declared.beside.Beside.{Beside}
use Rattle.tp_library.specs.declared.TheConstants.{LIBRARY_LIMIT}
use Rattle.tp_library.proofs.Above.{all_above, left_rises}
use Rattle.tp_library.proofs.Asking.{answered, can_note_by, counted_by, group_by, news_by, simple_by}
use Rattle.tp_library.proofs.Counting.{left_listed, runs_appended}
use Rattle.tp_library.proofs.Effected.{groups_applied, groups_by, said_by, shelf_by, shelf_is, By}
use Rattle.tp_library.proofs.Effects.{Effects, IsShelfKept}
use Rattle.tp_library.proofs.EffectsOf.{callbacks_few, legal_after}
use Rattle.tp_library.proofs.Grouping.{named_group}
use Rattle.tp_library.proofs.Holding.{held, Held}
use Rattle.tp_library.proofs.Keeping.{few_callbacks}
use Rattle.tp_library.proofs.News.{range_same}
use Rattle.tp_library.proofs.Noted.{actors_noted, cancelled_of, left_noted, owned_noted, rest_noted, running_noted, IsRest}
use Rattle.tp_library.proofs.Noting.{AreCounted, AreOwned}
use Rattle.tp_library.proofs.Summing.{above_new}

module _ (r : Recording) (b : Beside) (k : IsKept r b) (who : Who) (call : Call) (library : ℕ) (a : Answer) (told : outcome_behind r who call ≡ outcome.Done a) (m : Effects r who call a) where
  abbrev pub behind : Recording
  behind = recorded r who call (outcome.Done a)

  abbrev pub after : World
  after = world_behind (recorded r who call (outcome.Done a))

  abbrev pub now : Shelf
  now = shelf_by b.shelf.shelf who (effect_of call a) library

  pub now_is : shelf_answered b.shelf.shelf who call library a ≡ now
  now_is = shelf_is b.shelf.shelf who call library a (answered r b k who call a told)

  facts : By (world_behind r) b.shelf.shelf who (effect_of call a) library after now m.kept
  facts =
      let w = world_behind r in
      said_by w b.shelf.shelf who library after now m.kept call a (answered r b k who call a told) (
        subst (Held w b.shelf.shelf call library a after) now_is (held r.limits w who after b.shelf.shelf library k.shelf call a m),
        m.counts,
        m.clients,
        m.workers,
        ap (map (λ (o : ObjectRow). o.env.group.0)) m.objects ∙ groups_applied (on_objects call a) w.objects,
      )

  shelf_kept : IsShelfKept b.shelf.shelf now (world_behind r) after m.kept
  shelf_kept = subst (λ s. IsShelfKept b.shelf.shelf s (world_behind r) after m.kept) now_is (m.shelf b.shelf.shelf library k.shelf)

  has_room : length r.history < r.capacity
  has_room = omega (
    arith,
    legal_fits r.limits r.capacity r.capacity behind.history (omega arith) k.clients (legal_after r k.legal who call a told),
    length-append r.history (record { who = who; call = call; answer = a } ∷ []),
  )

  pub can_note : library ≤ LIBRARY_LIMIT → CanNote b (effect_of call a) library
  can_note is_library =
      can_note_by r b k who library after now m.kept is_library has_room m.few_after.objects (effect_of call a) facts
      (group_by (world_behind r) call a (named_group r k.legal who call a told))
      (simple_by (world_behind r) call a m.new m.simple)

  -- ---- once it was noted

  module _ (new : Beside) (noted : IsNoted b who (effect_of call a) library new) (first count : ℕ) (made : made_by (record { who = who; call = call; answer = a }) ≡ range_with_len first count) where
    news : (count ≡ length m.new) × (0 < count → first ≡ length (world_behind r).callbacks + 1)
    news = range_same first count (length (world_behind r).callbacks + 1) (length m.new) (sym made ∙ m.numbers)

    left_kept : cancelled_of (effect_of call a) ≡ 0 → AreCounted b.shelf.shelf left_in m.kept new.counts.left
    left_kept = left_noted (world_behind r) b who library after now m.kept new (effect_of call a) facts (record { many = k.full.left; each = k.counts.left }) noted

    -- all that may still run, and those that were made
    all_left : (l : ℕ) → rows_in now l 0 (left after) ≡ left_in now l after.callbacks
    all_left l = ap (count_by (is_row_in now l)) (all_above 0 0 (left after) (left_rises behind (legal_after r k.legal who call a told)) (omega arith)) ∙ sym (left_listed after now l)

    new_left : (l : ℕ) → 0 < length m.new → rows_in now l (length (world_behind r).callbacks) (left after) ≡ left_in now l m.new
    new_left l some = above_new now l (length (world_behind r).callbacks) (length after.callbacks + 1) after m.kept m.new m.callbacks m.sound_after.numbers (λ place c at. (m.rows place c at).number) some

    counted_now : (l : ℕ) → l ≤ LIBRARY_LIMIT → counted_left now l (effect_of call a) first count (left after) new.counts.left ≡ left_in now l after.callbacks
    counted_now l h =
        counted_by now l first count (length (world_behind r).callbacks) after m.kept m.new new.counts.left m.callbacks news.0 news.1 (all_left l) (new_left l) (effect_of call a)
        (news_by who call a first count made)
        (λ none. (left_kept none).each l h ∙ sym (shelf_kept.left l))

    pub shelf_now : new.shelf.shelf ≡ now
    shelf_now = (rest_noted b who (effect_of call a) library new noted).shelf

    few_now : IsAnswerInRange a → (l : ℕ) → left_in now l after.callbacks < 2 ^ 64
    few_now in_range l = omega (
      arith,
      count_by-le-length (is_left_in now l) after.callbacks,
      callbacks_few r.limits (world_behind r) who call a after m in_range,
      few_callbacks r b k,
    )

    pub counted_fits : IsAnswerInRange a → (l : ℕ) → l ≤ LIBRARY_LIMIT → counted_left new.shelf.shelf l (effect_of call a) first count (left after) new.counts.left < 2 ^ 64
    counted_fits in_range l h =
        subst (λ s. counted_left s l (effect_of call a) first count (left after) new.counts.left < 2 ^ 64) (sym shelf_now)
        (omega (arith, counted_now l h, few_now in_range l))

    -- ---- once the callbacks were counted

    module _ (is_library : library ≤ LIBRARY_LIMIT) (in_range : IsAnswerInRange a) (c : Tallied) (left_is : (l : ℕ) → l ≤ LIBRARY_LIMIT → at c.left l ≡ counted_left new.shelf.shelf l (effect_of call a) first count (left after) new.counts.left) (many : length c.left ≡ LIBRARY_LIMIT + 1) (same : c ≡ record new.counts { left = c.left }) where
      rest : IsRest b who (effect_of call a) library new
      rest = rest_noted b who (effect_of call a) library new noted

      one_longer : length behind.history ≡ length r.history + 1
      one_longer = length-append r.history (record { who = who; call = call; answer = a } ∷ [])

      owned : AreOwned after now new.counts.owned new.counts.own
      owned =
          owned_noted (world_behind r) b who library after now m.kept new (effect_of call a)
          (can_note is_library)
          facts k.counts.groups (record { many = k.full.owned; rows = k.full.own; objects = k.counts.owned; members = λ group l in_own h. k.counts.own group l in_own h }) noted

      running : AreCounted b.shelf.shelf runs_in m.kept new.counts.running
      running = running_noted (world_behind r) b who library after now m.kept new (effect_of call a) facts k.actors (record { many = k.full.running; each = k.counts.running }) noted

      owned_is : c.owned ≡ new.counts.owned
      owned_is = ap (λ (x : Tallied). x.owned) same

      own_is : c.own ≡ new.counts.own
      own_is = ap (λ (x : Tallied). x.own) same

      running_is : c.running ≡ new.counts.running
      running_is = ap (λ (x : Tallied). x.running) same

      counts_now : IsCounted after now c
      counts_now = record {
        owned = λ l h. ap (λ t. at t l) owned_is ∙ owned.objects l h;
        own = λ g l in_own h. ap (λ o. at (row_of o g) l) own_is ∙ owned.members g l (omega (arith, in_own, ap length own_is)) h;
        left = λ l h. left_is l h ∙ ap (λ s. counted_left s l (effect_of call a) first count (left after) new.counts.left) shelf_now ∙ counted_now l h;
        running = λ l h. omega (
          arith,
          ap (λ t. at t l) running_is,
          running.each l h,
          shelf_kept.runs l,
          runs_appended now l m.kept m.new,
          m.new_runs now l,
          ap (runs_in now l) m.callbacks,
        );
        groups = ap (λ (x : Tallied). x.groups) same ∙ rest.groups ∙ ap (groups_by (effect_of call a)) k.counts.groups ∙ sym facts.groups;
      }

      pub asked_kept : IsKept behind (record { shelf = new.shelf; counts = c; actors = new.actors; before = new.before })
      asked_kept = record {
        legal = legal_after r k.legal who call a told;
        limits = k.limits;
        clients = k.clients;
        capacity = k.capacity;
        shelf = subst (λ s. IsShelfOf s after) (sym shelf_now) shelf_kept.fits;
        objects_fit = omega (arith, k.objects_fit, rest.objects);
        groups_fit = omega (arith, k.groups_fit, rest.room, ap (λ (x : Tallied). x.room) same);
        simple_fit = omega (arith, k.simple_fit, rest.simple);
        simple_few = omega (arith, k.simple_few, rest.simples, one_longer);
        callbacks_few = omega (arith, k.callbacks_few, callbacks_few r.limits (world_behind r) who call a after m in_range, one_longer);
        own = ap length own_is ∙ rest.own ∙ k.own;
        full = record {
          owned = ap length owned_is ∙ owned.many;
          left = many;
          running = ap length running_is ∙ running.many;
          own = λ g h. ap (λ o. length (row_of o g)) own_is ∙ owned.rows g (omega (arith, h, ap length own_is));
        };
        counts = subst (λ s. IsCounted after s c) (sym shelf_now) counts_now;
        actors = actors_noted (world_behind r) b who library after now m.kept new m.sound m.keeps (effect_of call a) facts k.actors noted;
        before = ap (λ (x : Vec Bool Global). length x.items) rest.before ∙ k.before;
      }
