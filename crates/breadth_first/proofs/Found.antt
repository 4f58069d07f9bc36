-- What a search may answer.
use Rattle.std.proofs.Common.{◌≡◌, ◌≢◌, ℕ, ◌+◌, ◌-◌, ◌<◌, ◌≤◌, Some, List, [], ◌∷◌, ◌++◌, drop, length, map, max, slice_get, get_or, refl, sym, ap, ◌∙◌, subst, inl, inr, arith}
use Rattle.std.specs.Global.{Vec}
use Rattle.std.proofs.lemmas.Bool.{cases_lt}
use Rattle.std.proofs.lemmas.List.{length-append, length-map, length-drop}
use Rattle.std.proofs.lemmas.List.Elements.{All-push}
use Rattle.std.proofs.lemmas.List.Quantifiers.{all_pairs_push}
use Rattle.std.proofs.lemmas.Option.{slice_get_within}
use Rattle.breadth_first.specs.declared.Answer.TheVariants.{Bad as BadFor, GaveUp}
use Rattle.breadth_first.specs.declared.Next.TheVariants.{Bad, To}
use Rattle.breadth_first.specs.declared.searching.Origin.{Origin}
use Rattle.breadth_first.specs.declared.searching.Search.{Search}
use Rattle.breadth_first.specs.declared.searching.Waiting.{Waiting}
use Rattle.breadth_first.specs.Answers.{IsKeyMet}
use Rattle.breadth_first.specs.Rules.{Rules, comes_to, move_of, Keeps}
use Rattle.breadth_first.specs.Searched.{origin_of, remade, AreMet, Entry, IsFound, IsHeld, IsSearched, IsWithin, Met, keys_of, way_to}
use Rattle.breadth_first.proofs.Ahead.{none_bad}
use Rattle.breadth_first.proofs.Held.{as_many, entry_at, way_there}
use Rattle.breadth_first.proofs.Moves.{met_move}
use Rattle.breadth_first.proofs.Places.{all_map, drop_at, get_some}
use Rattle.breadth_first.proofs.Steps.{comes_by}

module _ {S : Type 0} (r : Rules S) (like : S → S → Type 0)
    (itself : (s : S) → like s s)
    (kept : (s t u : S) → like s t → r.key t ≡ r.key u → like s u)
    (keeps : (s t : S) (by : ℕ) → like s t → Keeps r like s t by) where
  -- no bad state is met by fewer moves than the state at hand
  none_before : (mets : List (Met S)) (at by : ℕ) (are : AreMet r mets at by) (m : Met S) → slice_get mets at ≡ Some m → (moves : List ℕ) → length moves ≤ length m.path → comes_to r moves ≢ Bad
  none_before mets at by are m here =
      none_bad r like itself kept keeps mets at by (length m.path) are
      (λ i n there deep. elim (cases_lt i at) [ inl below ↦ below | inr not ↦ absurd (omega (arith, are.rising at i m n not here there)) ])

  module _ (most : ℕ) (origin : Origin) (state : S) (search : Search S) (within : IsWithin r most origin state search) where
    -- a move of the state at hand is bad
    pub bad_found : move_of r state origin.by ≡ Bad → (path : Vec ℕ) → path.items ≡ way_to search.origins.entries (origin.depth - 1) origin.from ++ origin.by ∷ [] → IsFound r most (BadFor path)
    bad_found bad path told = record {
      answers = record {
        bad = ap (comes_to r) is_path ∙ comes_by r within.met.path within.met.state origin.by (within.are.reached origin.from within.met within.here) ∙ met_move r most origin state search within Bad bad;
        shortest = λ moves h. elim (cases_lt (length within.met.path) (length moves)) [
          | inl longer ↦ omega (arith, ap length is_path, length-append within.met.path (origin.by ∷ []))
          | inr not ↦ absurd (none_before within.mets origin.from origin.by within.are within.met within.here moves not h)
        ];
      };
      gives_up = λ deepest. tt;
    }
      where
        is_path : path.items ≡ within.met.path ++ origin.by ∷ []
        is_path = told ∙ ap (λ (way : List ℕ). way ++ origin.by ∷ []) (way_there r within.mets search.origins.entries within.of.held (origin.depth - 1) origin.from within.met within.here (omega (arith, within.deep)))

    -- more states are met than may be
    pub more_found : (next : S) → move_of r state origin.by ≡ To next → ((i : ℕ) (d : List ℕ) → i < length (keys_of r within.mets) → get_or (keys_of r within.mets) i d ≢ r.key next)
        → length search.origins.entries ≡ most → (states : ℕ) → IsFound r most (GaveUp states (origin.depth - 1))
    more_found next leads new full states = record {
      answers = λ moves few. none_before within.mets origin.from origin.by within.are within.met within.here moves (omega (arith, within.deep));
      gives_up = λ deepest. inl (record {
        keys = keys_of r within.mets ++ r.key next ∷ [];
        more = omega (arith, length-append (keys_of r within.mets) (r.key next ∷ []), length-map within.mets (λ (m : Met S). r.key m.state), as_many r within.mets search.origins.entries within.of.held);
        apart = all_pairs_push (λ (a b : List ℕ). a ≢ b) (keys_of r within.mets) (r.key next) within.are.apart new;
        met = All-push (IsKeyMet r) (keys_of r within.mets) (r.key next)
            (all_map (λ (m : Met S). r.key m.state) (IsKeyMet r) within.mets (λ i m there. (m.path, m.state, within.are.reached i m there, refl)))
            (within.met.path ++ origin.by ∷ [], next, comes_by r within.met.path within.met.state origin.by (within.are.reached origin.from within.met within.here) ∙ met_move r most origin state search within (To next) leads, refl);
      });
    }

  module _ (most at : ℕ) (search : Search S) (searched : IsSearched r most at search) where
    -- all states that were met were gone through
    all_gone : length searched.mets ≤ at → (moves : List ℕ) → comes_to r moves ≢ Bad
    all_gone all moves =
        none_bad r like itself kept keeps searched.mets at 0 (length moves) searched.are (λ i n there deep. omega (arith, slice_get_within searched.mets i n there)) moves (omega arith)

    as_long : length search.waiting.items + at ≡ max at (length searched.mets)
    as_long = omega (arith, ap length searched.of.queue, length-map search.waiting.items (remade r), length-map (drop at searched.mets) (λ (m : Met S). To m.state), length-drop at searched.mets)

    -- no state waits
    pub none_left : length search.waiting.items ≡ 0 → (moves : List ℕ) → comes_to r moves ≢ Bad
    none_left none = all_gone (omega (arith, as_long))

    -- as many were gone through as may be met
    pub none_more : most ≤ at → (moves : List ℕ) → comes_to r moves ≢ Bad
    none_more all = all_gone (omega (arith, searched.of.within))

    -- the state that waits first
    module _ (next : Waiting S) (rest : List (Waiting S)) (waits : search.waiting.items ≡ next ∷ rest) (depth : ℕ) (told : (e : Entry) → slice_get search.origins.entries at ≡ Some e → depth ≡ e.1.depth) where
      first_waits : (m : Met S) × (slice_get searched.mets at ≡ Some m)
      first_waits = get_some searched.mets at (omega (arith, as_long, ap length waits))

      first_deep : length first_waits.0.path ≡ depth
      first_deep =
          let there = entry_at r searched.mets search.origins.entries searched.of.held at first_waits.0 first_waits.1 in
          sym there.2.depth ∙ sym (told there.0 there.1)

      -- no moves come to what is bad that are no more than those that met it
      pub none_few : (moves : List ℕ) → length moves ≤ depth → comes_to r moves ≢ Bad
      none_few moves few = none_before searched.mets at 0 searched.are first_waits.0 first_waits.1 moves (omega (arith, first_deep))

      queued : remade r next ∷ map (remade r) rest ≡ To first_waits.0.state ∷ map (λ (m : Met S). To m.state) (drop (at + 1) searched.mets)
      queued = ap (map (remade r)) (sym waits) ∙ searched.of.queue ∙ ap (map (λ (m : Met S). To m.state)) (drop_at searched.mets at first_waits.0 first_waits.1)

      made : remade r next ≡ To first_waits.0.state
      made = let e = queued in cc

      -- it can be made again
      pub makes : (s : S) × (remade r next ≡ To s)
      makes = (first_waits.0.state, made)

      -- it is gone through next
      pub entered : (state : S) → remade r next ≡ To state → (after : Search S) → after.most ≡ search.most → after.origins.entries ≡ search.origins.entries → after.waiting.items ≡ rest → IsWithin r most (origin_of at 0 (depth + 1)) state after
      entered state is after limit entries waiting = record {
        mets = searched.mets;
        of = record {
          limit = limit ∙ searched.of.limit;
          within = searched.of.within;
          held = subst (IsHeld searched.mets r) (sym entries) searched.of.held;
          queue = ap (map (remade r)) waiting ∙ left;
        };
        are = searched.are;
        met = first_waits.0;
        here = first_waits.1;
        this = same;
        deep = omega (arith, first_deep);
      }
        where
          left : map (remade r) rest ≡ map (λ (m : Met S). To m.state) (drop (at + 1) searched.mets)
          left = let e = queued in cc

          same : first_waits.0.state ≡ state
          same = let e : To first_waits.0.state ≡ To state = sym made ∙ is in cc
