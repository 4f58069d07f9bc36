-- A search within a state, behind its next move.
use Rattle.std.proofs.Common.{◌≡◌, ◌≢◌, ℕ, ◌+◌, ◌<◌, ◌≤◌, Bool, true, false, is_some, List, [], ◌∷◌, ◌++◌, drop, length, map, get_or, if◌then◌else◌, refl, sym, ap, ◌∙◌, subst, arith}
use borrow.Author.Tests.{lt-ltb}
use Rattle.std.specs.Global.{Vec}
use Rattle.std.specs.Map.{lookup}
use Rattle.std.proofs.lemmas.List.{map-append, length-append, drop-append-le}
use Rattle.std.proofs.lemmas.Map.Entries.{place_from_lookup}
use Rattle.std.proofs.lemmas.Option.{slice_get_within}
use Rattle.breadth_first.specs.declared.Next.{Next}
use Rattle.breadth_first.specs.declared.Next.TheVariants.{Nowhere, To}
use Rattle.breadth_first.specs.declared.searching.Origin.{Origin}
use Rattle.breadth_first.specs.declared.searching.Search.{Search}
use Rattle.breadth_first.specs.declared.searching.Waiting.{Waiting}
use Rattle.breadth_first.specs.Rules.{Rules, move_of}
use Rattle.breadth_first.specs.Searched.{next_origin, remade, Entry, IsHeld, IsLedTo, IsSearched, IsWithin, Met, keys_of}
use Rattle.breadth_first.proofs.Held.{as_many, held_more, met_at, none_found}
use Rattle.breadth_first.proofs.Places.{get_kept, none_of, some_of}
use Rattle.breadth_first.proofs.Steps.{behind, met_more, met_passed, met_through}

-- what comes of a move that is one
pub move_is : {S : Type 0} (r : Rules S) (s : S) (by : ℕ) → by < r.width → move_of r s by ≡ r.after s by
move_is {S} r s by h = ap (λ (b : Bool). if b then r.after s by else Nowhere) (lt-ltb by r.width h)

-- of states that are the same, a move comes to the same
pub move_same : {S : Type 0} (r : Rules S) (s t : S) (by : ℕ) → s ≡ t → move_of r s by ≡ move_of r t by
move_same {S} r s t by same = ap (λ (x : S). move_of r x by) same

module _ {S : Type 0} (r : Rules S) (most : ℕ) (origin : Origin) (state : S) (search : Search S) (within : IsWithin r most origin state search) where
  -- a move of the state at hand, as one of what was met there
  pub met_move : (next : Next S) → move_of r state origin.by ≡ next → move_of r within.met.state origin.by ≡ next
  met_move next leads = ap (λ (s : S). move_of r s origin.by) within.this ∙ leads

  -- its next move leads to what was met
  pub led_on : (next : Next S) → move_of r state origin.by ≡ next → IsLedTo r within.mets (length within.met.path + 1) next → IsWithin r most (next_origin origin) state search
  led_on next leads led = record {
    mets = within.mets;
    of = within.of;
    are = met_passed r within.mets origin.from origin.by within.are within.met within.here (subst (IsLedTo r within.mets (length within.met.path + 1)) (sym (met_move next leads)) led);
    met = within.met;
    here = within.here;
    this = within.this;
    deep = within.deep;
  }

  pub led_nowhere : move_of r state origin.by ≡ Nowhere → IsWithin r most (next_origin origin) state search
  led_nowhere leads = led_on Nowhere leads tt

  -- all its moves were made
  pub led_through : r.width ≤ origin.by → IsSearched r most (origin.from + 1) search
  led_through all = record {
    mets = within.mets;
    of = within.of;
    are = met_through r within.mets origin.from origin.by within.are within.met within.here all;
  }

  module _ (next : S) (leads : move_of r state origin.by ≡ To next) (test : Vec ℕ → Bool) where
    -- its key is that of a state that was met
    pub led_back : ((k : Vec ℕ) → test k ≡ true → k.items ≡ r.key next) → is_some (lookup test search.origins.entries) ≡ true → IsWithin r most (next_origin origin) state search
    led_back tells is =
        let found = some_of (lookup test search.origins.entries) is in
        let place = place_from_lookup test search.origins.entries found.0 found.1 in
        let there = met_at r within.mets search.origins.entries within.of.held place.0 (place.1, found.0) place.2 in
        led_on (To next) leads (place.0, there.0, there.1, sym (there.2 ∙ tells place.1 place.3), within.are.near place.0 within.met there.0 within.here there.1)

    -- no state with its key was met
    pub led_new : ((k : Vec ℕ) → k.items ≡ r.key next → test k ≡ true) → is_some (lookup test search.origins.entries) ≡ false → (i : ℕ) (d : List ℕ) → i < length (keys_of r within.mets) → get_or (keys_of r within.mets) i d ≢ r.key next
    led_new tells none = subst (λ (keys : List (List ℕ)). (i : ℕ) (d : List ℕ) → i < length keys → get_or keys i d ≢ r.key next) within.of.held.keys (none_found test (r.key next) tells search.origins.entries (none_of (lookup test search.origins.entries) none))

    -- and now it is
    pub led_more : ((k : Vec ℕ) → k.items ≡ r.key next → test k ≡ true) → is_some (lookup test search.origins.entries) ≡ false
        → (after : Search S) (key : Vec ℕ) → key.items ≡ r.key next → after.most ≡ search.most → length search.origins.entries < most
        → after.origins.entries ≡ search.origins.entries ++ (key, origin) ∷ [] → (waits : Waiting S) → remade r waits ≡ To next → after.waiting.items ≡ search.waiting.items ++ waits ∷ []
        → IsWithin r most (next_origin origin) state after
    led_more tells none after key is_key limit fewer entries waits made waiting =
        let mets = within.mets ++ behind within.met next origin.by ∷ [] in
        record {
          mets = mets;
          of = record {
            limit = limit ∙ within.of.limit;
            within = omega (arith, as_many r within.mets search.origins.entries within.of.held, length-append within.mets (behind within.met next origin.by ∷ []));
            held = subst (λ (es : List Entry). IsHeld mets r es) (sym entries) (held_more r within.mets search.origins.entries within.of.held origin.from within.met within.here next origin.by key origin is_key refl refl (sym within.deep));
            queue =
                ap (map (remade r)) waiting
                ∙ map-append (remade r) search.waiting.items (waits ∷ [])
                ∙ ap (λ (x : Next S). map (remade r) search.waiting.items ++ x ∷ []) made
                ∙ ap (λ (xs : List (Next S)). xs ++ To next ∷ []) within.of.queue
                ∙ queued;
          };
          are = met_more r within.mets origin.from origin.by within.are within.met within.here next (met_move (To next) leads) (led_new tells none);
          met = within.met;
          here = get_kept within.mets (behind within.met next origin.by ∷ []) origin.from within.met within.here;
          this = within.this;
          deep = within.deep;
        }
      where
        queued : map (λ (m : Met S). To m.state) (drop (origin.from + 1) within.mets) ++ To next ∷ [] ≡ map (λ (m : Met S). To m.state) (drop (origin.from + 1) (within.mets ++ behind within.met next origin.by ∷ []))
        queued =
            sym (map-append (λ (m : Met S). To m.state) (drop (origin.from + 1) within.mets) (behind within.met next origin.by ∷ []))
            ∙ ap (map (λ (m : Met S). To m.state)) (sym (drop-append-le (origin.from + 1) within.mets (behind within.met next origin.by ∷ []) (omega (arith, slice_get_within within.mets origin.from within.met within.here))))
