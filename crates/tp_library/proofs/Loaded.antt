-- The library of what is held is loaded: what is held counts itself.
use Rattle.std.proofs.Common.{◌≡◌, ◌≢◌, ℕ, ◌<◌, ◌≤◌, Bool, true, false, not, ◌&&◌, List, [], ◌∷◌, refl, ap, ap₂, arith, eq-eqb}
use Rattle.std.specs.List.{AllByRecursion, count_by, zip}
use Rattle.tp_base.specs.declared.rows.CallbackRow.{CallbackRow}
use Rattle.tp_base.specs.declared.rows.ObjectRow.{ObjectRow}
use Rattle.tp_model.specs.Counts.{is_live}
use Rattle.tp_model.proofs.Lists.{all_along}
use Rattle.tp_library.specs.Laws.{AreLoaded}
use Rattle.tp_library.specs.Shelves.{holds, is_callback_in, is_object_in, library_of, Stand, world_of}
use Rattle.tp_library.proofs.Counting.{as_one, count_cons}

-- each of a list that passes a test of its own is counted by it
module _ {X : Type 0} (Good : X → Type 0) (test : X → X → Bool) (own : (x : X) → Good x → test x x ≡ true) (all : List X) where
  counted : (xs : List X) → ((q : X → Bool) → count_by q xs ≤ count_by q all) → AllByRecursion (λ x. Good x → 0 < count_by (test x) all) xs
  counted [] within = tt
  counted (x ∷ xs) within = (
    (λ good. omega (arith, within (test x), count_cons (test x) x xs, ap as_one (own x good))),
    counted xs (λ q. omega (arith, within q, count_cons q x xs)),
  )

module _ (t : Stand) where
  own_callback : (c : CallbackRow) → is_live c.status ≡ true → is_callback_in t.shelf (library_of t.shelf c) c ≡ true
  own_callback c live = ap₂ (λ a b. a && b) live (eq-eqb (library_of t.shelf c) (library_of t.shelf c) refl)

  own_object : (made : ObjectRow × ℕ) → made.0.released ≡ false → is_object_in made.1 made ≡ true
  own_object made kept = ap₂ (λ a b. not a && b) kept (eq-eqb made.1 made.1 refl)

  pub loaded : AreLoaded t
  loaded = record {
    callbacks = all_along (λ (c : CallbackRow). is_live c.status ≡ true → 0 < count_by (is_callback_in t.shelf (library_of t.shelf c)) (world_of t).callbacks)
        (λ (c : CallbackRow). is_live c.status ≡ true → library_of t.shelf c ≢ 0 → 0 < holds t (library_of t.shelf c))
        (λ c known live _. omega (arith, known live))
        (world_of t).callbacks
        (counted (λ (c : CallbackRow). is_live c.status ≡ true) (λ c. is_callback_in t.shelf (library_of t.shelf c)) own_callback (world_of t).callbacks (world_of t).callbacks (λ q. omega arith));
    objects = all_along (λ (made : ObjectRow × ℕ). made.0.released ≡ false → 0 < count_by (is_object_in made.1) (zip (world_of t).objects t.shelf.of_object))
        (λ (made : ObjectRow × ℕ). made.0.released ≡ false → made.1 ≢ 0 → 0 < holds t made.1)
        (λ made known kept _. omega (arith, known kept))
        (zip (world_of t).objects t.shelf.of_object)
        (counted (λ (made : ObjectRow × ℕ). made.0.released ≡ false) (λ made. is_object_in made.1) own_object (zip (world_of t).objects t.shelf.of_object) (zip (world_of t).objects t.shelf.of_object) (λ q. omega arith));
  }
