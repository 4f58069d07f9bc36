-- All rows pass a test where all of their numbers do.
use Rattle.std.proofs.Common.{◌≡◌, ◌+◌, ◌-◌, Bool, false, cond, ◌&&◌, ◌==◌, slice_get, List, [], ◌∷◌, ◌++◌, length, None, Some, refl, sym, ap, ap₂, ◌∙◌, arith, ne_eqb, append_assoc, length-append}
use Rattle.std.specs.List.{list_all, range_with_len}
use Rattle.std.specs.Option.{option_map_or}
use Rattle.tp_base.specs.declared.ids.Who.TheVariants.{Client}
use Rattle.tp_base.specs.declared.rows.ClientRow.{ClientRow}
use Rattle.tp_model.specs.Conditions.{is_finished}
use Rattle.tp_model.specs.Counts.{numbered}
use Rattle.tp_model.specs.World.{World}

-- ---- the rows that follow some others, by their numbers

at_seam : {R : Type 0} (front : List R) (r : R) (rows : List R) → slice_get (front ++ r ∷ rows) (length front) ≡ Some r
at_seam [] r rows = refl
at_seam (f ∷ front) r rows = at_seam front r rows

all_behind : {R : Type 0} (test : R → Bool) (front rows : List R) → list_all (λ n. option_map_or test (numbered (front ++ rows) n) false) (range_with_len (length front + 1) (length rows)) ≡ list_all test rows
all_behind test front [] = refl
all_behind test front (r ∷ rows) = ap₂ (λ a b. a && b) here (longer ∙ all_behind test (front ++ r ∷ []) rows)
  where
    some_number : (length front + 1 == 0) ≡ false
    some_number = ne_eqb (length front + 1) 0 (λ e. omega (arith, e))

    one_back : (length front + 1) - 1 ≡ length front
    one_back = omega arith

    here : option_map_or test (numbered (front ++ r ∷ rows) (length front + 1)) false ≡ test r
    here =
        ap₂ (λ b k. option_map_or test (cond b None (slice_get (front ++ r ∷ rows) k)) false) some_number one_back
        ∙ ap (λ o. option_map_or test o false) (at_seam front r rows)

    one_more : length front + 1 ≡ length (front ++ r ∷ [])
    one_more = omega (arith, length-append front (r ∷ []))

    longer : list_all (λ n. option_map_or test (numbered (front ++ r ∷ rows) n) false) (range_with_len (length front + 1 + 1) (length rows))
        ≡ list_all (λ n. option_map_or test (numbered ((front ++ r ∷ []) ++ rows) n) false) (range_with_len (length (front ++ r ∷ []) + 1) (length rows))
    longer = ap₂ (λ xs k. list_all (λ n. option_map_or test (numbered xs n) false) (range_with_len (k + 1) (length rows))) (sym (append_assoc front (r ∷ []) rows)) one_more

-- ---- of a world

pub finished_by_number : (w : World) → list_all (λ number. is_finished w (Client number)) (range_with_len 1 (length w.clients)) ≡ list_all (λ (r : ClientRow). r.finished) w.clients
finished_by_number w = all_behind (λ (r : ClientRow). r.finished) [] w.clients
