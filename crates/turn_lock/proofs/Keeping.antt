-- The rule holds of a new lock, and the steps of a seat on the two words keep it.
use Rattle.std.proofs.Common.{◌≡◌, ◌≢◌, ℕ, zero, suc, ◌+◌, ◌%◌, ◌^◌, ◌<◌, ◌≤◌, true, false, true≢false, List, [], ◌∷◌, ◌++◌, map, length, get_or, set, All, refl, sym, ap, ◌∙◌, subst, inl, inr, arith, eqb, length-append}
use Rattle.std.proofs.lemmas.List.Elements.{All-nil, All-cons, All-head, All-tail, All-push}
use mathlib.Core.Option.{Option, some, none, some-injective, some-ne-none}
use mathlib.Core.Logic.{dite}
use native.Mathlib.Decide.{ℕ_discrete}
use lib.ListN.{get_elem?}
use prog.Atomic.{either}
use Rattle.atomic_table.specs.Table.{State, Me, Act, step, keeps, takes, gives, stepped, Allows, Valid, opening, put_back, carried_after}
use Rattle.atomic_table.proofs.Lists.{exchanged}
use Rattle.tp_base.specs.declared.answers.Entry.{Entry}
use Rattle.tp_model.specs.History.{IsLegal}
use Rattle.recorded.specs.Recordings.{Recording}
use Rattle.turn_lock.specs.declared.views.Part.{Part}
use Rattle.turn_lock.specs.declared.views.Setup.{Setup}
use Rattle.turn_lock.specs.declared.views.View.{View}
use Rattle.turn_lock.specs.Histories.{actor_of, own}
use Rattle.turn_lock.specs.Rule.{IsAnother, IsSeated, Stands, Holds, Fits, IsHome, Ruled}
use Rattle.turn_lock.specs.Steps.{Informs, fronted, grabbed, appended, gave_back, history_in_hand}
use Rattle.turn_lock.specs.Views.{part, HasNumber, informed, holding, let_go, has_met, recording_of, opening_view}
use Rattle.turn_lock.proofs.Beginnings.{starts_itself, starts_nothing, starts_longer, own_other, actors_apart}
use Rattle.turn_lock.proofs.Numbering.{all_dealt, at_itself, each_set, has_stands, held_set, Once, once_set, one_view}

-- ---- what fits

abbrev Seats : Setup → List Entry → Type 0
Seats setup history = All (λ (entry : Entry). IsSeated setup entry.who) history

fits_informed : (setup : Setup) (history : List Entry) (holder : ℕ) (v : View) → v.holds ≡ false → Fits setup history holder v → Fits setup history holder (informed v history)
fits_informed setup history holder v off f = record {
  setup_is = f.setup_is;
  seen = starts_itself history;
  told = starts_nothing history;
  parts = f.parts;
  turn = λ on. absurd (true≢false (sym on ∙ off));
}

informs : (setup : Setup) (history : List Entry) (holder : ℕ) (v : View) → v.spent ≡ false → IsLegal setup.limits setup.capacity history → Seats setup history → Fits setup history holder v → Informs v history
informs setup history holder v there legal seated f = let is : v.setup ≡ setup = f.setup_is there in record {
  seen = f.seen;
  told = f.told;
  legal = subst (λ (x : Setup). IsLegal x.limits x.capacity history) (sym is) legal;
  parts = subst (λ (x : Setup). All (Stands x history) v.parts) (sym is) f.parts;
  seated = subst (λ (x : Setup). Seats x history) (sym is) seated;
}

-- nobody holds the turn where word 1 is 0
free_fits : (setup : Setup) (history : List Entry) (holder : ℕ) (v : View) → Fits setup history 0 v → Fits setup history holder v
free_fits setup history holder v f = record {
  setup_is = f.setup_is;
  seen = f.seen;
  told = f.told;
  parts = f.parts;
  turn = λ on. let h = f.turn on in absurd (h.some_holder refl);
}

module _ {B : Type 0} (recording : B → Recording) (setup : Setup) where
  abbrev Rule : State B View → Type 0
  Rule s = Ruled recording setup s

  holder_is : (s : State B View) (r : Rule s) → get_or s.words 1 0 ≡ r.holder
  holder_is s r = ap (λ (ws : List ℕ). get_or ws 1 0) r.words

  -- a step that changes one view, and neither its numbers nor who holds the turn
  seen_anew : (s : State B View) (r : Rule s) (id : ℕ) (v w : View) (words : List ℕ) → get_elem? s.views id ≡ some v → words ≡ length r.history ∷ r.holder ∷ [] → Fits setup r.history r.holder w → w.parts ≡ v.parts → w.holds ≡ v.holds
      → Rule record { words = words; homes = s.homes; views = set s.views id w }
  seen_anew s r id v w words at is fits same still = record {
    history = r.history;
    holder = r.holder;
    words = is;
    few = r.few;
    legal = r.legal;
    seated = r.seated;
    home = r.home;
    held = λ some_holder. held_set s.views id v w r.holder at (λ has on. (subst (HasNumber r.holder) (sym same) has, still ∙ on)) (r.held some_holder);
    each = each_set (Fits setup r.history r.holder) s.views id w fits (λ j u _ e. r.each j u e);
    once = once_set s.views id v w at (λ number has. subst (HasNumber number) same has) r.once;
  }

  pub fronts : (slots id : ℕ) (me : Me B View) → me.0.spent ≡ false → me.0.holds ≡ false → Allows Rule slots id me 0 (λ n. n) (fronted (step slots 0 0 0 none) me)
  fronts slots id me there off s r wide at small =
      let v : View = me.0 in
      let f = r.each id v at in
      let count : get_or s.words 0 0 ≡ length r.history = ap (λ (ws : List ℕ). get_or ws 0 0) r.words in (
        informed v r.history,
        keeps,
        tt,
        seen_anew s r id v (informed v r.history) (set s.words 0 (get_or s.words 0 0)) at (ap (λ (ws : List ℕ). set ws 0 (get_or ws 0 0)) r.words) (fits_informed setup r.history r.holder v off f) refl refl,
        record { seat = refl; count = count; informs = informs setup r.history r.holder v there r.legal r.seated f },
      )

  -- the turn is free
  takes_turn : (s : State B View) (r : Rule s) (id number : ℕ) (mine : List Entry) (v : View) (carried : List (ℕ × B)) (home : IsHome recording setup s.homes r.history) → get_elem? s.views id ≡ some v → number ≢ 0 → v.spent ≡ false → v.parts ≡ part number mine ∷ []
      → r.holder ≡ 0 → Rule (stepped s 1 number id carried (holding (informed v r.history)) (takes 0 home.book))
  takes_turn s r id number mine v carried home at some_number there parts free =
      let f = r.each id v at in
      let w : View = holding (informed v r.history) in
      let here : HasNumber number v.parts = subst (HasNumber number) (sym parts) (inl refl) in record {
        history = r.history;
        holder = number;
        words = ap (λ (ws : List ℕ). set ws 1 number) r.words;
        few = r.few;
        legal = r.legal;
        seated = r.seated;
        home = λ none_there. absurd (some_number none_there);
        held = λ _. record { seat = id; view = w; at = at_itself s.views id v w at; number = here; holds = refl };
        each = each_set (Fits setup r.history number) s.views id w
            (record { setup_is = f.setup_is; seen = starts_itself r.history; told = starts_nothing r.history; parts = f.parts; turn = λ _. record { some_holder = some_number; number = here; seen = refl; there = there } })
            (λ j u _ e. free_fits setup r.history number u (subst (λ (n : ℕ). Fits setup r.history n u) free (r.each j u e)));
        once = once_set s.views id v w at (λ _ has. has) r.once;
      }

  -- another seat holds it
  misses : (s : State B View) (r : Rule s) (id number : ℕ) (mine : List Entry) (v : View) → get_elem? s.views id ≡ some v → v.holds ≡ false → v.parts ≡ part number mine ∷ [] → r.holder ≢ 0 → IsAnother setup number r.holder × (r.holder < 2 ^ 32)
  misses s r id number mine v at off parts some_holder =
      let h = r.held some_holder in
      let u = r.each h.seat h.view h.at in
      let in_range = has_stands setup r.history h.view.parts r.holder h.number u.parts in
      let few = r.few in (
        record {
          least = in_range.0;
          most = in_range.1;
          apart = λ is.
              let here : HasNumber r.holder v.parts = subst (HasNumber r.holder) (sym parts) (inl (sym is)) in
              let same : v ≡ h.view = one_view s.views id h.seat v h.view (r.once id h.seat v h.view r.holder at h.at here h.number) at h.at in
              true≢false (sym h.holds ∙ (ap (λ (x : View). x.holds) (sym same) ∙ off));
        },
        omega arith,
      )

  pub grabs : (slots id number : ℕ) (mine : List Entry) (me : Me B View) → number ≢ 0 → me.0.spent ≡ false → me.0.holds ≡ false → me.0.parts ≡ part number mine ∷ []
      → Allows Rule slots id me 1 (λ n. either (eqb n 0) number n) (grabbed recording (step slots 1 0 number none) me)
  grabs slots id number mine me some_number there off parts s r wide at small =
      let v : View = me.0 in
      let f = r.each id v at in
      let x : ℕ = get_or s.words 1 0 in
      exchanged x 0 number
      (λ (n : ℕ). (w : View) × (a : Act B) × Valid s.homes me.1 a × Rule (stepped s 1 n id me.1 w a) × grabbed recording (step slots 1 0 number none) me x (w, carried_after me.1 a))
      (λ (free : x ≡ 0).
      let none_there : r.holder ≡ 0 = sym (holder_is s r) ∙ free in
      let home = r.home none_there in
      let is : v.setup ≡ setup = f.setup_is there in (
        holding (informed v r.history),
        takes 0 home.book,
        ap (λ (hs : List (Option B)). get_elem? hs 0) home.at,
        takes_turn s r id number mine v me.1 home at some_number there parts none_there,
        (
          (λ _. record { book = home.book; seat = refl; recorded = home.recorded ∙ ap (λ (y : Setup). recording_of y r.history) (sym is); informs = informs setup r.history r.holder v there r.legal r.seated f }),
          (λ taken. absurd (taken free)),
        ),
      ))
      (λ (taken : x ≢ 0).
      let some_holder : r.holder ≢ 0 = λ z. taken (holder_is s r ∙ z) in
      let missed = misses s r id number mine v at off parts some_holder in
      let is : v.setup ≡ setup = f.setup_is there in
      let other : IsAnother v.setup number x = subst (λ (t : Setup × ℕ). IsAnother t.0 number t.1) (λ i. (sym is i, sym (holder_is s r) i)) missed.0 in (
        has_met v x,
        keeps,
        tt,
        seen_anew s r id v (has_met v x) (set s.words 1 x) at (ap (λ (ws : List ℕ). set ws 1 (get_or ws 1 0)) r.words)
            (record { setup_is = f.setup_is; seen = f.seen; told = f.told; parts = f.parts; turn = λ on. absurd (true≢false (sym on ∙ off)) }) refl refl,
        (
          (λ free. absurd (taken free)),
          (λ _. record { other = other; small = subst (λ (n : ℕ). n < 2 ^ 32) (sym (holder_is s r)) missed.1; seat = refl }),
        ),
      ))

  -- the seat that holds the turn has seen the whole history
  at_turn : (s : State B View) (r : Rule s) (id : ℕ) (v : View) → get_elem? s.views id ≡ some v → v.holds ≡ true → Holds r.history r.holder v
  at_turn s r id v at on = let f = r.each id v at in f.turn on

  -- and no other seat holds it
  not_another : (s : State B View) (r : Rule s) (id j : ℕ) (v u : View) → get_elem? s.views id ≡ some v → v.holds ≡ true → j ≢ id → get_elem? s.views j ≡ some u → u.holds ≡ true → ⊥
  not_another s r id j v u at on apart there also =
      let mine = at_turn s r id v at on in
      let other = at_turn s r j u there also in
      apart (sym (r.once id j v u r.holder at there mine.number other.number))

  -- ---- the history grows by an entry of a number that a seat doesn't have

  stands_on : (history : List Entry) (entry : Entry) (number : ℕ) (p : Part) → entry.who ≡ actor_of setup.limits number → p.number ≢ number → Stands setup history p → Stands setup (history ++ entry ∷ []) p
  stands_on history entry number p who apart stands = record {
    least = stands.least;
    most = stands.most;
    mine = stands.mine ∙ sym (own_other (actor_of setup.limits p.number) history entry (λ is. apart (sym (actors_apart setup.limits number p.number (sym who ∙ is)))));
  }

  all_stand_on : (history : List Entry) (entry : Entry) (number : ℕ) (parts : List Part) → entry.who ≡ actor_of setup.limits number → (HasNumber number parts → ⊥) → All (Stands setup history) parts → All (Stands setup (history ++ entry ∷ [])) parts
  all_stand_on history entry number [] who lacks all = All-nil (Stands setup (history ++ entry ∷ []))
  all_stand_on history entry number (p ∷ parts) who lacks all =
      All-cons (Stands setup (history ++ entry ∷ [])) p parts
      (stands_on history entry number p who (λ is. lacks (inl is)) (All-head (Stands setup history) p parts all))
      (all_stand_on history entry number parts who (λ has. lacks (inr has)) (All-tail (Stands setup history) p parts all))

  fits_on : (history : List Entry) (entry : Entry) (number holder : ℕ) (v : View) → entry.who ≡ actor_of setup.limits number → (HasNumber number v.parts → ⊥) → (v.holds ≡ true → ⊥) → Fits setup history holder v → Fits setup (history ++ entry ∷ []) holder v
  fits_on history entry number holder v who lacks off f = record {
    setup_is = f.setup_is;
    seen = starts_longer history v.seen (entry ∷ []) f.seen;
    told = starts_longer history v.told (entry ∷ []) f.told;
    parts = all_stand_on history entry number v.parts who lacks f.parts;
    turn = λ on. absurd (off on);
  }

  -- the seat that made the entry has one number
  abbrev one_entered : View → ℕ → List Entry → View
  one_entered v number history = record v { seen = history; parts = part number (own (actor_of v.setup.limits number) history) ∷ [] }

  appends_here : (s : State B View) (r : Rule s) (id number : ℕ) (mine : List Entry) (entry : Entry) (v w : View) (words : List ℕ) → get_elem? s.views id ≡ some v → v.holds ≡ true → v.parts ≡ part number mine ∷ []
      → entry.who ≡ actor_of setup.limits number → IsLegal setup.limits setup.capacity (r.history ++ entry ∷ []) → words ≡ length (r.history ++ entry ∷ []) ∷ r.holder ∷ [] → w ≡ one_entered v number (r.history ++ entry ∷ [])
      → Rule record { words = words; homes = s.homes; views = set s.views id w }
  appends_here s r id number mine entry v w words at on parts who legal words_are is =
      let new : List Entry = r.history ++ entry ∷ [] in
      let f = r.each id v at in
      let h = at_turn s r id v at on in
      let setup_same : v.setup ≡ setup = f.setup_is h.there in
      let stands = All-head (Stands setup r.history) (part number mine) [] (subst (All (Stands setup r.history)) parts f.parts) in
      let same_number : (n : ℕ) → HasNumber n w.parts → HasNumber n v.parts = λ n has. subst (HasNumber n) (sym parts) (subst (λ (x : View). HasNumber n x.parts) is has) in
      let back : HasNumber r.holder w.parts = subst (λ (x : View). HasNumber r.holder x.parts) (sym is) (subst (HasNumber r.holder) parts h.number) in
      let fits : Fits setup new r.holder w = subst (Fits setup new r.holder) (sym is) (record {
        setup_is = f.setup_is;
        seen = starts_itself new;
        told = starts_longer r.history v.told (entry ∷ []) f.told;
        parts = All-cons (Stands setup new) (part number (own (actor_of v.setup.limits number) new)) []
            (record { least = stands.least; most = stands.most; mine = ap (λ (x : Setup). own (actor_of x.limits number) new) setup_same }) (All-nil (Stands setup new));
        turn = λ _. record { some_holder = h.some_holder; number = subst (HasNumber r.holder) parts h.number; seen = refl; there = h.there };
      }) in
      record {
        history = new;
        holder = r.holder;
        words = words_are;
        few = r.few;
        legal = legal;
        seated = All-push (λ (e : Entry). IsSeated setup e.who) r.history entry r.seated (record { number = number; least = stands.least; most = stands.most; is = who });
        home = λ none_there. absurd (h.some_holder none_there);
        held = λ some_holder. held_set s.views id v w r.holder at (λ _ _. (back, ap (λ (x : View). x.holds) is ∙ on)) (r.held some_holder);
        each = each_set (Fits setup new r.holder) s.views id w fits
            (λ j u apart e. fits_on r.history entry number r.holder u who
            (λ has. apart (sym (r.once id j v u number at e (subst (HasNumber number) (sym parts) (inl refl)) has)))
            (λ also. not_another s r id j v u at on apart e also)
            (r.each j u e));
        once = once_set s.views id v w at same_number r.once;
      }

  pub appends : (slots id number : ℕ) (mine : List Entry) (entry : Entry) (book : B) (me : Me B View) → me.1 ≡ (0, book) ∷ [] → me.0.holds ≡ true → me.0.parts ≡ part number mine ∷ []
      → recording book ≡ recording_of me.0.setup (me.0.seen ++ entry ∷ []) → entry.who ≡ actor_of me.0.setup.limits number
      → IsLegal (recording book).limits (recording book).capacity (recording book).history → length (recording book).history < 2 ^ 32
      → Allows Rule slots id me 0 (λ n. (n + 1) % 2 ^ 64) (appended recording (step slots 0 1 0 none) me)
  appends slots id number mine entry book me carried on parts recorded who legal short s r wide at small =
      let v : View = me.0 in
      let f = r.each id v at in
      let h = at_turn s r id v at on in
      let setup_same : v.setup ≡ setup = f.setup_is h.there in
      let new : List Entry = r.history ++ entry ∷ [] in
      let is : recording book ≡ recording_of setup new = recorded ∙ (λ i. recording_of (setup_same i) (h.seen i ++ entry ∷ [])) in
      let in_hand : history_in_hand recording me.1 ≡ new = ap (history_in_hand recording) carried ∙ ap (λ (y : Recording). y.history) is in
      let w : View = one_entered v number new in
      let count : get_or s.words 0 0 ≡ length r.history = ap (λ (ws : List ℕ). get_or ws 0 0) r.words in
      let grown : length new ≡ length r.history + 1 = length-append r.history (entry ∷ []) in
      let below : length new < 2 ^ 32 = subst (λ (y : Recording). length y.history < 2 ^ 32) is short in
      let next : (get_or s.words 0 0 + 1) % 2 ^ 64 ≡ length new = omega arith in (
        w,
        keeps,
        tt,
        appends_here s r id number mine entry v w (set s.words 0 ((get_or s.words 0 0 + 1) % 2 ^ 64)) at on parts (who ∙ ap (λ (x : Setup). actor_of x.limits number) setup_same)
            (subst (λ (y : Recording). IsLegal y.limits y.capacity y.history) is legal)
            (λ i. set (r.words i) 0 (next i)) refl,
        (λ i. (record v { seen = sym in_hand i; parts = map (λ (p : Part). part p.number (own (actor_of v.setup.limits p.number) (sym in_hand i))) (sym parts i) }, me.1)),
      )

  -- ---- the turn is let go

  one_slot : (homes : List (Option B)) (book : B) → length homes ≡ 1 → set homes 0 (some book) ≡ some book ∷ []
  one_slot [] book wide = absurd (omega arith)
  one_slot (x ∷ []) book wide = refl
  one_slot (x ∷ y ∷ homes) book wide = absurd (omega arith)

  pub lets_go : (slots id : ℕ) (book : B) (me : Me B View) → slots ≡ 1 → me.1 ≡ (0, book) ∷ [] → me.0.holds ≡ true → recording book ≡ recording_of me.0.setup me.0.seen
      → Allows Rule slots id me 1 (λ _. 0) (λ _. gave_back (step slots 1 0 0 none) me 0)
  lets_go slots id book me one carried on recorded s r wide at small =
      let v : View = me.0 in
      let f = r.each id v at in
      let h = at_turn s r id v at on in
      let setup_same : v.setup ≡ setup = f.setup_is h.there in (
        let_go v,
        gives,
        tt,
        record {
          history = r.history;
          holder = 0;
          words = ap (λ (ws : List ℕ). set ws 1 0) r.words;
          few = r.few;
          legal = r.legal;
          seated = r.seated;
          home = λ _. record { book = book; at = ap (put_back s.homes) carried ∙ one_slot s.homes book (wide ∙ one); recorded = recorded ∙ (λ i. recording_of (setup_same i) (h.seen i)) };
          held = λ some_holder. absurd (some_holder refl);
          each = each_set (Fits setup r.history 0) s.views id (let_go v)
              (record { setup_is = f.setup_is; seen = f.seen; told = f.told; parts = f.parts; turn = λ off. absurd (true≢false (sym off)) })
              (λ j u apart e. let g = r.each j u e in record { setup_is = g.setup_is; seen = g.seen; told = g.told; parts = g.parts; turn = λ also. absurd (not_another s r id j v u at on apart e also) });
          once = once_set s.views id v (let_go v) at (λ _ has. has) r.once;
        },
        refl,
      )

  -- ---- the lock is new

  pub opens : (words : List ℕ) (slots : List B) (book : B) → words ≡ 0 ∷ 0 ∷ [] → slots ≡ book ∷ [] → recording book ≡ recording_of setup [] → setup.seats < 2 ^ 32 → Rule (opening words slots (opening_view setup))
  opens words slots book words_are slots_are recorded few = record {
    history = [];
    holder = 0;
    words = words_are;
    few = few;
    legal = tt;
    seated = All-nil (λ (e : Entry). IsSeated setup e.who);
    home = λ _. record { book = book; at = ap (map some) slots_are; recorded = recorded };
    held = λ some_holder. absurd (some_holder refl);
    each = one_each;
    once = one_once;
  }
    where
      fits : Fits setup [] 0 (opening_view setup)
      fits = record { setup_is = λ _. refl; seen = starts_nothing []; told = starts_nothing []; parts = all_dealt setup 1 setup.seats (omega arith) (omega arith); turn = λ on. absurd (true≢false (sym on)) }

      one_each : (i : ℕ) (v : View) → get_elem? (opening_view setup ∷ []) i ≡ some v → Fits setup [] 0 v
      one_each zero v e = subst (Fits setup [] 0) (some-injective (opening_view setup) v e) fits
      one_each (suc i) v e = absurd (some-ne-none v (sym e))

      one_once : Once (opening_view setup ∷ [])
      one_once zero zero v w number p q a b = refl
      one_once (suc i) j v w number p q a b = absurd (some-ne-none v (sym p))
      one_once zero (suc j) v w number p q a b = absurd (some-ne-none w (sym q))

  -- ---- the lock is closed

  -- where a seat that doesn't hold the turn has all numbers, the book is at home
  pub comes_home : (s : State B View) (r : Rule s) (id : ℕ) (v : View) → get_elem? s.views id ≡ some v → v.holds ≡ false → ((n : ℕ) → 1 ≤ n → n ≤ setup.seats → HasNumber n v.parts) → IsHome recording setup s.homes r.history
  comes_home s r id v at off all = dite (ℕ_discrete r.holder 0) r.home
      (λ some_holder.
      let h = r.held some_holder in
      let f = r.each h.seat h.view h.at in
      let in_range = has_stands setup r.history h.view.parts r.holder h.number f.parts in
      let same : v ≡ h.view = one_view s.views id h.seat v h.view (r.once id h.seat v h.view r.holder at h.at (all r.holder in_range.0 in_range.1) h.number) at h.at in
      absurd (true≢false (sym h.holds ∙ (ap (λ (x : View). x.holds) (sym same) ∙ off))))
