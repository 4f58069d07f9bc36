-- What the map and the queue hold of what was met.
use Rattle.std.proofs.Common.{◌≡◌, ◌≢◌, ◌⊎◌, ℕ, zero, suc, ◌+◌, ◌<◌, Bool, true, false, cond, Option, None, Some, List, [], ◌∷◌, ◌++◌, length, map, slice_get, get_or, refl, sym, ap, ◌∙◌, subst, inl, inr, arith}
use Rattle.std.specs.Map.{lookup}
use Rattle.std.specs.Option.{option_map}
use Rattle.std.specs.Global.{Vec}
use Rattle.std.proofs.lemmas.List.{map-append, length-append, length-map}
use Rattle.std.proofs.lemmas.Option.{slice_get-map, slice_get_within}
use Rattle.breadth_first.specs.declared.searching.Origin.{Origin}
use Rattle.breadth_first.specs.Rules.{Rules}
use Rattle.breadth_first.specs.Searched.{of_origin, way_to, Entry, IsHeld, Met, Tells, origin_of}
use Rattle.breadth_first.proofs.Places.{get_kept, get_pushed, get_some}
use Rattle.breadth_first.proofs.Steps.{behind}

-- no bytes are left of a list without length
none_long : (xs : List ℕ) → length xs ≡ 0 → xs ≡ []
none_long [] h = refl
none_long (x ∷ xs) h = absurd (omega arith)

module _ {S : Type 0} (r : Rules S) (mets : List (Met S)) (entries : List Entry) (held : IsHeld mets r entries) where
  pub as_many : length entries ≡ length mets
  as_many = sym (length-map entries (λ (e : Entry). e.0.items)) ∙ ap length held.keys ∙ length-map mets (λ (m : Met S). r.key m.state)

  -- an entry is told of a state that was met
  pub met_at : (i : ℕ) (e : Entry) → slice_get entries i ≡ Some e → (m : Met S) × (slice_get mets i ≡ Some m) × (r.key m.state ≡ e.0.items)
  met_at i e h =
      let there = get_some mets i (omega (arith, slice_get_within entries i e h, as_many)) in
      let key = slice_get-map (λ (m : Met S). r.key m.state) mets i ∙ ap (option_map (λ (m : Met S). r.key m.state)) there.1 in
      let items = slice_get-map (λ (x : Entry). x.0.items) entries i ∙ ap (option_map (λ (x : Entry). x.0.items)) h in
      let both = sym key ∙ sym (ap (λ (l : List (List ℕ)). slice_get l i) held.keys) ∙ items in
      (there.0, there.1, cc)

  pub entry_at : (i : ℕ) (m : Met S) → slice_get mets i ≡ Some m → (e : Entry) × (slice_get entries i ≡ Some e) × Tells mets e.1 m
  entry_at i m h =
      let there = get_some entries i (omega (arith, slice_get_within mets i m h, as_many)) in
      (there.0, there.1, held.told i there.0 m there.1 h)

  -- the origins tell the moves that came to a state
  pub way_there : (depth at : ℕ) (m : Met S) → slice_get mets at ≡ Some m → length m.path ≡ depth → way_to entries depth at ≡ m.path
  way_there zero at m h long = sym (none_long m.path long)
  way_there (suc depth) at m h long = by (entry_at at m h) (λ place before. way_there depth place before)
    where
      by : ((e : Entry) × (slice_get entries at ≡ Some e) × Tells mets e.1 m) → ((place : ℕ) (before : Met S) → slice_get mets place ≡ Some before → length before.path ≡ depth → way_to entries depth place ≡ before.path) → way_to entries (suc depth) at ≡ m.path
      by there on = elim there.2.last [
        | inl none ↦ absurd (omega (arith, ap length none))
        | inr some ↦
            let deep : length some.0.path ≡ depth = omega (arith, long, ap length some.2, length-append some.0.path (there.0.1.by ∷ [])) in
            ap (λ (o : Option Entry). of_origin o (λ origin. way_to entries depth origin.from ++ origin.by ∷ [])) there.1
            ∙ ap (λ (way : List ℕ). way ++ there.0.1.by ∷ []) (on there.0.1.from some.0 some.1 deep)
            ∙ sym some.2
      ]

  -- one more is held
  module _ (at : ℕ) (m : Met S) (here : slice_get mets at ≡ Some m) (s : S) (by : ℕ) (key : Vec ℕ) (origin : Origin)
      (is_key : key.items ≡ r.key s) (from : origin.from ≡ at) (move : origin.by ≡ by) (deep : origin.depth ≡ length m.path + 1) where
    now : Met S
    now = behind m s by

    tells_more : (o : Origin) (n : Met S) → Tells mets o n → Tells (mets ++ behind m s by ∷ []) o n
    tells_more o n h = record {
      depth = h.depth;
      last = elim h.last [
        | inl none ↦ inl none
        | inr some ↦ inr (some.0, get_kept mets (behind m s by ∷ []) o.from some.0 some.1, some.2)
      ];
    }

    tells_now : Tells (mets ++ behind m s by ∷ []) origin (behind m s by)
    tells_now = record {
      depth = deep ∙ sym (length-append m.path (by ∷ []));
      last = inr (m, subst (λ (place : ℕ). slice_get (mets ++ behind m s by ∷ []) place ≡ Some m) (sym from) (get_kept mets (behind m s by ∷ []) at m here), ap (λ (k : ℕ). m.path ++ k ∷ []) (sym move));
    }

    pub held_more : IsHeld (mets ++ behind m s by ∷ []) r (entries ++ (key, origin) ∷ [])
    held_more = record {
      keys = map-append (λ (e : Entry). e.0.items) entries ((key, origin) ∷ []) ∙ cong2 held.keys is_key ∙ sym (map-append (λ (x : Met S). r.key x.state) mets (behind m s by ∷ []));
      told = λ i e n h k. told i e n (get_pushed entries (key, origin) i e h) (get_pushed mets (behind m s by) i n k);
    }
      where
        cong2 : {xs ys : List (List ℕ)} {x y : List ℕ} → xs ≡ ys → x ≡ y → xs ++ x ∷ [] ≡ ys ++ y ∷ []
        cong2 e f = λ i. e i ++ f i ∷ []

        told : (i : ℕ) (e : Entry) (n : Met S) → (slice_get entries i ≡ Some e) ⊎ ((i ≡ length entries) × ((key, origin) ≡ e)) → (slice_get mets i ≡ Some n) ⊎ ((i ≡ length mets) × (behind m s by ≡ n)) → Tells (mets ++ behind m s by ∷ []) e.1 n
        told i e n (inl h) (inl k) = tells_more e.1 n (held.told i e n h k)
        told i e n (inl h) (inr k) = absurd (omega (arith, slice_get_within entries i e h, as_many))
        told i e n (inr h) (inl k) = absurd (omega (arith, slice_get_within mets i n k, as_many))
        told i e n (inr h) (inr k) = subst (λ (x : Entry). Tells (mets ++ behind m s by ∷ []) x.1 n) h.1 (subst (λ (x : Met S). Tells (mets ++ behind m s by ∷ []) origin x) k.1 tells_now)

-- the first state alone is held
pub held_first : {S : Type 0} (r : Rules S) (key : Vec ℕ) → key.items ≡ r.key r.first → IsHeld (record { state = r.first; path = [] } ∷ []) r ((key, origin_of 0 0 0) ∷ [])
held_first {S} r key is_key = record {
  keys = ap (λ (k : List ℕ). k ∷ []) is_key;
  told = told;
}
  where
    first : Met S
    first = record { state = r.first; path = [] }

    told : (i : ℕ) (e : Entry) (m : Met S) → slice_get ((key, origin_of 0 0 0) ∷ []) i ≡ Some e → slice_get (record { state = r.first; path = [] } ∷ []) i ≡ Some m → Tells (record { state = r.first; path = [] } ∷ []) e.1 m
    told zero e m h k =
        let entry : (key, origin_of 0 0 0) ≡ e = cc in
        let met : record { state = r.first; path = [] } ≡ m = cc in
        subst (λ (x : Entry). Tells (record { state = r.first; path = [] } ∷ []) x.1 m) entry (subst (λ (x : Met S). Tells (record { state = r.first; path = [] } ∷ []) (origin_of 0 0 0) x) met (record { depth = refl; last = inl refl }))
    told (suc i) e m h k = let off : ⊥ = cc in absurd off

-- a key that isn't found differs from each that is held
pub none_found : (test : Vec ℕ → Bool) (key : List ℕ) → ((k : Vec ℕ) → k.items ≡ key → test k ≡ true) → (entries : List Entry) → lookup test entries ≡ None → (i : ℕ) (d : List ℕ) → i < length (map (λ (e : Entry). e.0.items) entries) → get_or (map (λ (e : Entry). e.0.items) entries) i d ≢ key
none_found test key same [] h i d within e = absurd (omega arith)
none_found test key same (x ∷ xs) h i d within e = by (test x.0) refl i within e (λ k j. none_found test key same xs k j d)
  where
    by : (b : Bool) → test x.0 ≡ b → (i : ℕ) → i < length (map (λ (y : Entry). y.0.items) (x ∷ xs)) → get_or (map (λ (y : Entry). y.0.items) (x ∷ xs)) i d ≡ key
        → (lookup test xs ≡ None → (j : ℕ) → j < length (map (λ (y : Entry). y.0.items) xs) → get_or (map (λ (y : Entry). y.0.items) xs) j d ≢ key) → ⊥
    by true t i within e on = let both = sym (ap (λ (b : Bool). cond b (Some x.1) (lookup test xs)) t) ∙ h in let off : ⊥ = cc in off
    by false t zero within e on = let yes = same x.0 e in let both = sym yes ∙ t in let off : ⊥ = cc in off
    by false t (suc i) within e on = on (sym (ap (λ (b : Bool). cond b (Some x.1) (lookup test xs)) t) ∙ h) i (omega arith) e
