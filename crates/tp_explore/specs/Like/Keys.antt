-- Boards of one key in order are alike up to which worker is which.
use Rattle.std.proofs.Common.{◌≡◌, ℕ, zero, suc, ◌+◌, ◌<◌, ◌==◌, ◌&&◌, Bool, true, false, cond, nat_lt, List, [], ◌∷◌, ◌++◌, length, map, fold, slice_get, Option, None, Some, option_map, refl, sym, ap, ◌∙◌, subst, eqb-true}
use Rattle.std.specs.Option.{option_map_or}
use Rattle.std.proofs.lemmas.Bool.{and_parts, ltb-false, ltb-true}
use Rattle.std.proofs.lemmas.Option.{slice_get_past}
use Rattle.tp_base.specs.declared.ids.Who.{Who}
use Rattle.tp_base.specs.declared.ids.Who.TheVariants.{Client, Worker}
use Rattle.tp_base.specs.declared.limits.Limits.{Limits}
use Rattle.tp_base.specs.declared.rows.CallbackRow.{CallbackRow}
use Rattle.tp_base.specs.declared.rows.KernelRow.{KernelRow}
use Rattle.tp_base.specs.declared.rows.KernelState.{KernelState}
use Rattle.tp_base.specs.declared.rows.KernelState.TheVariants.{Mutex, Section}
use Rattle.tp_base.specs.declared.rows.Status.{Status}
use Rattle.tp_base.specs.declared.rows.Status.TheVariants.{Running}
use Rattle.tp_base.specs.declared.rows.WorkerRow.{WorkerRow}
use Rattle.tp_model.specs.World.{BegunWait, World}
use Rattle.renamed_worlds.specs.Exchanged.{exchanged, exchanged_callback, exchanged_kernel, exchanged_number, exchanged_place, exchanged_rows, exchanged_state, exchanged_status, exchanged_wait, exchanged_who}
use Rattle.renamed_worlds.specs.Ordered.{is_out_of_order, is_worker_below, order_of, places_in_turn, settled_at}
use Rattle.renamed_worlds.proofs.Exchange.Rows.{length_exchanged}
use Rattle.tp_explore.specs.AreKeys.{board_told}
use Rattle.tp_explore.specs.Boards.{Board}
use Rattle.tp_explore.specs.Exchanging.{exchanged_board, in_order, is_whole, key_in_order, rearranged_board, AreAlong, AreExchanged, AreLike}
use Rattle.tp_explore.specs.Like.Faults.{uses_back, uses_exchanged}

-- ---- what changed places twice is where it was

place_back : (at place : ℕ) → exchanged_place at (exchanged_place at place) ≡ place
place_back zero zero = refl
place_back zero (suc zero) = refl
place_back zero (suc (suc place)) = refl
place_back (suc at) zero = refl
place_back (suc at) (suc place) = ap suc (place_back at place)

rows_back : {X : Type 0} (at : ℕ) (xs : List X) → exchanged_rows at (exchanged_rows at xs) ≡ xs
rows_back at [] = refl
rows_back zero (x ∷ []) = refl
rows_back zero (x ∷ y ∷ xs) = refl
rows_back (suc at) (x ∷ xs) = ap (λ t. x ∷ t) (rows_back at xs)

map_back : {X : Type 0} (f : X → X) → ((x : X) → f (f x) ≡ x) → (xs : List X) → map f (map f xs) ≡ xs
map_back f back [] = refl
map_back f back (x ∷ xs) = λ i. back x i ∷ map_back f back xs i

module _ (at : ℕ) where
  number_back : (number : ℕ) → exchanged_number at (exchanged_number at number) ≡ number
  number_back zero = refl
  number_back (suc place) = ap suc (place_back at place)

  who_back : (who : Who) → exchanged_who at (exchanged_who at who) ≡ who
  who_back (Client number) = refl
  who_back (Worker number) = ap (λ n. Worker n) (number_back number)

  owner_back : (owner : Option Who) → option_map (exchanged_who at) (option_map (exchanged_who at) owner) ≡ owner
  owner_back None = refl
  owner_back (Some who) = ap (λ w. Some w) (who_back who)

  status_back : (s : Status) → exchanged_status at (exchanged_status at s) ≡ s
  status_back (Running worker associated slots) = ap (λ n. Running n associated slots) (number_back worker)
  status_back s = refl

  state_back : (s : KernelState) → exchanged_state at (exchanged_state at s) ≡ s
  state_back (Mutex owner takings) = ap (λ who. Mutex who takings) (owner_back owner)
  state_back (Section owner takings) = ap (λ who. Section who takings) (owner_back owner)
  state_back s = refl

  callback_back : (c : CallbackRow) → exchanged_callback at (exchanged_callback at c) ≡ c
  callback_back c = ap (λ (s : Status). record c { status = s }) (status_back c.status)

  kernel_back : (k : KernelRow) → exchanged_kernel at (exchanged_kernel at k) ≡ k
  kernel_back k = ap (λ (s : KernelState). record k { state = s }) (state_back k.state)

  wait_back : (b : BegunWait) → exchanged_wait at (exchanged_wait at b) ≡ b
  wait_back b = ap (λ (who : Who). record b { actor = who }) (who_back b.actor)

  world_back : (w : World) → exchanged at (exchanged at w) ≡ w
  world_back w = λ i. record w {
    workers = rows_back at w.workers i;
    callbacks = map_back (exchanged_callback at) callback_back w.callbacks i;
    kernels = map_back (exchanged_kernel at) kernel_back w.kernels i;
    waits = map_back (exchanged_wait at) wait_back w.waits i;
  }

-- ---- an order's places have a next one

-- out of order are two rows that are there
row_behind : (rows : List WorkerRow) (at : ℕ) → is_out_of_order rows at ≡ true → at + 1 < length rows
row_behind rows at out = of_test (nat_lt (at + 1) (length rows)) refl
  where
    nowhere : (first : Option WorkerRow) → option_map_or (λ a. option_map_or (λ b. is_worker_below b a) None false) first false ≡ false
    nowhere None = refl
    nowhere (Some a) = refl

    of_test : (b : Bool) → nat_lt (at + 1) (length rows) ≡ b → at + 1 < length rows
    of_test true less = ltb-true (at + 1) (length rows) less
    of_test false past =
        let none : slice_get rows (at + 1) ≡ None = slice_get_past rows (at + 1) (ltb-false (at + 1) (length rows) past) in
        let not_out : is_out_of_order rows at ≡ false = ap (λ next. option_map_or (λ a. option_map_or (λ b. is_worker_below b a) next false) (slice_get rows at) false) none ∙ nowhere (slice_get rows at) in
        absurd cc

-- each of these places has a next one among so many
abbrev AreWithin : ℕ → List ℕ → Type 0
AreWithin count [] = Unit {0}
AreWithin count (at ∷ ats) = (at + 1 < count) × AreWithin count ats

within_more : (count : ℕ) (ats : List ℕ) (at : ℕ) → AreWithin count ats → at + 1 < count → AreWithin count (ats ++ at ∷ [])
within_more count [] at within fits = (fits, tt)
within_more count (first ∷ ats) at (one, within) fits = (one, within_more count ats at within fits)

settled_within : (count : ℕ) (places : List ℕ) (rows : List WorkerRow) (order : List ℕ) → length rows ≡ count → AreWithin count order → AreWithin count (fold settled_at (rows, order) places).1
settled_within count [] rows order same within = within
settled_within count (at ∷ places) rows order same within = of_test (settled_within count places) (is_out_of_order rows at) refl
  where
    of_test : ((rs : List WorkerRow) (ats : List ℕ) → length rs ≡ count → AreWithin count ats → AreWithin count (fold settled_at (rs, ats) places).1)
        → (out : Bool) → is_out_of_order rows at ≡ out → AreWithin count (fold settled_at (cond out (exchanged_rows at rows, order ++ at ∷ []) (rows, order)) places).1
    of_test further true out = further (exchanged_rows at rows) (order ++ at ∷ []) (length_exchanged at rows ∙ same) (within_more count order at within (subst (λ n. at + 1 < n) same (row_behind rows at out)))
    of_test further false in_place = further rows order same within

order_within : (rows : List WorkerRow) → AreWithin (length rows) (order_of rows)
order_within rows = settled_within (length rows) (places_in_turn (length rows)) rows [] refl tt

module _ (limits : Limits) where
  -- ---- chains of exchanges

  exchanged_back : (at : ℕ) (b c : Board) → AreExchanged limits at b c → AreExchanged limits at c b
  exchanged_back at b c e = record {
    client = e.client;
    workers = e.workers;
    rows = ap (λ (w : World). length w.workers) e.world ∙ length_exchanged at b.world.workers ∙ e.rows;
    count = ap (λ ps. length ps) e.places ∙ length_exchanged (limits.clients + at) b.places ∙ e.count;
    world = sym (ap (exchanged at) e.world ∙ world_back at b.world);
    made = sym e.made;
    places = sym (ap (exchanged_rows (limits.clients + at)) e.places ∙ rows_back (limits.clients + at) b.places);
    noted = record {
      freed = sym e.noted.freed;
      quiet = sym e.noted.quiet;
      lines = sym e.noted.lines;
      held = uses_back at b.noted.held c.noted.held e.noted.held;
      leaving = uses_back at b.noted.leaving c.noted.leaving e.noted.leaving;
    };
  }

  along_both : (first next : List ℕ) (b c d : Board) → AreAlong limits first b c → AreAlong limits next c d → AreAlong limits (first ++ next) b d
  along_both [] next b c d same further = subst (λ m. AreAlong limits next m d) (sym same) further
  along_both (at ∷ first) next b c d (m, step, rest) further = (m, step, along_both first next m c d rest further)

  pub like_both : (b c d : Board) → AreLike limits b c → AreLike limits c d → AreLike limits b d
  like_both b c d (first, along) (next, further) = (first ++ next, along_both first next b c d along further)

  along_back : (ats : List ℕ) (b c : Board) → AreAlong limits ats b c → AreLike limits c b
  along_back [] b c same = ([], sym same)
  along_back (at ∷ ats) b c (m, step, rest) = like_both c m b (along_back ats m c rest) (at ∷ [], (b, exchanged_back at b m step, refl))

  pub like_back : (b c : Board) → AreLike limits b c → AreLike limits c b
  like_back b c (ats, along) = along_back ats b c along

  -- ---- workers in order

  along_order : (ats : List ℕ) (b : Board) → 0 < limits.clients → length b.world.workers ≡ limits.workers → length b.places ≡ limits.clients + limits.workers → AreWithin limits.workers ats → AreAlong limits ats b (fold (exchanged_board limits) b ats)
  along_order [] b client rows count within = refl
  along_order (at ∷ ats) b client rows count (fits, within) = (
    exchanged_board limits b at,
    record {
      client = client;
      workers = fits;
      rows = rows;
      count = count;
      world = refl;
      made = refl;
      places = refl;
      noted = record { freed = refl; quiet = refl; lines = refl; held = uses_exchanged at b.noted.held; leaving = uses_exchanged at b.noted.leaving };
    },
    along_order ats (exchanged_board limits b at) client (length_exchanged at b.world.workers ∙ rows) (length_exchanged (limits.clients + at) b.places ∙ count) within,
  )

  pub like_in_order : (b : Board) → AreLike limits b (in_order limits b)
  like_in_order b = of_whole (is_whole limits b) refl
    where
      of_whole : (whole : Bool) → is_whole limits b ≡ whole → AreLike limits b (rearranged_board limits (cond whole (order_of b.world.workers) []) b)
      of_whole false part = ([], refl)
      of_whole true whole =
          let both = and_parts (nat_lt 0 limits.clients) ((length b.world.workers == limits.workers) && (length b.places == limits.clients + limits.workers)) whole in
          let parts = and_parts (length b.world.workers == limits.workers) (length b.places == limits.clients + limits.workers) both.1 in
          let rows : length b.world.workers ≡ limits.workers = eqb-true (length b.world.workers) limits.workers parts.0 in
          let count : length b.places ≡ limits.clients + limits.workers = eqb-true (length b.places) (limits.clients + limits.workers) parts.1 in
          (order_of b.world.workers, along_order (order_of b.world.workers) b (ltb-true 0 limits.clients both.0) rows count (subst (λ n. AreWithin n (order_of b.world.workers)) rows (order_within b.world.workers)))

  -- ---- of two boards of one key each is like the other

  pub like_kept : (b c d : Board) → AreLike limits b c → key_in_order limits c ≡ key_in_order limits d → AreLike limits b d
  like_kept b c d like same =
      let told : in_order limits c ≡ in_order limits d = board_told (in_order limits c) (in_order limits d) same in
      like_both b c d like (like_both c (in_order limits c) d (like_in_order c) (subst (λ m. AreLike limits m d) (sym told) (like_back d (in_order limits d) (like_in_order d))))
