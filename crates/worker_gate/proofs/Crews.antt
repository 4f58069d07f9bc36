-- Rounds of actors that one thread plays.
use Rattle.std.proofs.Common.{◌≡◌, ℕ, suc, ◌+◌, ◌<◌, ◌≤◌, true, List, [], ◌∷◌, ◌++◌, ◌⊎◌, inl, inr, length, max, take, drop, set, get_or, refl, sym, ap, subst, ◌∙◌, arith, map, All, IfOk, Result, Ok, Err}
use Rattle.std.proofs.Math.Seq.{drop-cons, take-length}
use Rattle.std.proofs.Math.ListN.{get_or-map}
use Rattle.std.proofs.lemmas.List.{length-append, length-map, drop-set-lt, length-set, take_more, take_more_set}
use Rattle.std.proofs.lemmas.List.Elements.{All-append, All-cons, All-map, All-nil, All-set, recursion_from_All}
use Rattle.std.proofs.lemmas.List.Sums.{sum_by-append}
use Rattle.std.specs.List.{AllByRecursion}
use Rattle.tp_base.specs.declared.ids.Who.{Who}
use Rattle.turn_lock.specs.declared.views.Setup.{Setup}
use Rattle.turn_lock.specs.Seats.{mine_of, seen_of}
use Rattle.turn_lock.proofs.Beginnings.{starts_itself, starts_through}
use Rattle.shared_pool.specs.declared.pool.SharedPool.{SharedPool}
use Rattle.worker_gate.specs.declared.actor.Actor.{Actor}
use Rattle.part_places.specs.declared.place.Place.{Place}
use Rattle.worker_gate.specs.declared.role.Turn.{Turn}
use Rattle.worker_gate.specs.declared.role.Turn.TheVariants.{Moved, Waiting, Ended}
use Rattle.worker_gate.specs.Acting.{due_by, has_ended, holds_up, made_by, most_of, GoesOn, HasMet, HasMoved, HasWaited, IsReady, Said}
use Rattle.worker_gate.specs.Crews.{both, left_of, spare, AllReady, AreCrewsBack, AreHandedBack, GoOn, HasCause, HasPlayedRound, HaveCauses, RoundSaid}
use Rattle.part_places.specs.Places.{Given}
use Rattle.worker_gate.specs.Roles.{due_of}

module _ {B : Type 0} where
  -- ---- the same actors

  goes_on_itself : (a : Actor B) → GoesOn a a
  goes_on_itself a = record {
    same = record { lock = refl; number = refl; setup = refl };
    who_is = refl;
    starts = starts_itself (seen_of a.seat);
    mine_more = starts_itself (mine_of a.seat);
    met_more = omega arith;
  }

  goes_on_through : (a b d : Actor B) → GoesOn a b → GoesOn b d → GoesOn a d
  goes_on_through a b d first next = record {
    same = record { lock = next.same.lock ∙ first.same.lock; number = next.same.number ∙ first.same.number; setup = next.same.setup ∙ first.same.setup };
    who_is = next.who_is ∙ first.who_is;
    starts = starts_through (seen_of d.seat) (seen_of b.seat) (seen_of a.seat) next.starts first.starts;
    mine_more = starts_through (mine_of d.seat) (mine_of b.seat) (mine_of a.seat) next.mine_more first.mine_more;
    met_more = let x = first.met_more in let y = next.met_more in omega (arith, x, y);
  }

  pub go_on_itself : (crew : List (Actor B)) → GoOn crew crew
  go_on_itself [] = tt
  go_on_itself (a ∷ crew) = (goes_on_itself a, go_on_itself crew)

  pub go_on_through : (crew mid later : List (Actor B)) → GoOn crew mid → GoOn mid later → GoOn crew later
  go_on_through [] [] [] first next = tt
  go_on_through (a ∷ crew) (b ∷ mid) (d ∷ later) first next = (goes_on_through a b d first.0 next.0, go_on_through crew mid later first.1 next.1)
  go_on_through [] [] (d ∷ later) first next = absurd next
  go_on_through [] (b ∷ mid) later first next = absurd first
  go_on_through (a ∷ crew) [] later first next = absurd first
  go_on_through (a ∷ crew) (b ∷ mid) [] first next = absurd next

  go_on_snoc : (crew later : List (Actor B)) (a b : Actor B) → GoOn crew later → GoesOn a b → GoOn (crew ++ a ∷ []) (later ++ b ∷ [])
  go_on_snoc [] [] a b on next = (next, tt)
  go_on_snoc (x ∷ crew) (y ∷ later) a b on next = (on.0, go_on_snoc crew later a b on.1 next)
  go_on_snoc [] (y ∷ later) a b on next = absurd on
  go_on_snoc (x ∷ crew) [] a b on next = absurd on

  -- ---- causes

  causes_snoc : (g : Given) (crew later : List (Actor B)) (a b : Actor B) → HaveCauses g crew later → HasCause g a b → HaveCauses g (crew ++ a ∷ []) (later ++ b ∷ [])
  causes_snoc g [] [] a b causes cause = (cause, tt)
  causes_snoc g (x ∷ crew) (y ∷ later) a b causes cause = (causes.0, causes_snoc g crew later a b causes.1 cause)
  causes_snoc g [] (y ∷ later) a b causes cause = absurd causes
  causes_snoc g (x ∷ crew) [] a b causes cause = absurd causes

  cause_through : (g : Given) (a b d : Actor B) → GoesOn a b → HasCause g b d → HasCause g a d
  cause_through g a b d on (inl ended) = inl ended
  cause_through g a b d on (inr (inl met)) = let more = on.met_more in inr (inl (omega (arith, met, more)))
  cause_through g a b d on (inr (inr held)) = inr (inr held)

  causes_through : (g : Given) (crew mid later : List (Actor B)) → GoOn crew mid → HaveCauses g mid later → HaveCauses g crew later
  causes_through g [] [] [] on causes = tt
  causes_through g (a ∷ crew) (b ∷ mid) (d ∷ later) on causes = (cause_through g a b d on.0 causes.0, causes_through g crew mid later on.1 causes.1)
  causes_through g [] [] (d ∷ later) on causes = absurd causes
  causes_through g [] (b ∷ mid) later on causes = absurd on
  causes_through g (a ∷ crew) [] later on causes = absurd on
  causes_through g (a ∷ crew) (b ∷ mid) [] on causes = absurd causes

  ended_by : (g : Given) (crew later : List (Actor B)) → GoOn crew later → AllByRecursion (λ (b : Actor B). has_ended b ≡ true) later → HaveCauses g crew later
  ended_by g [] [] on ended = tt
  ended_by g (a ∷ crew) (b ∷ later) on ended = (inl ended.0, ended_by g crew later on.1 ended.1)
  ended_by g [] (b ∷ later) on ended = absurd on
  ended_by g (a ∷ crew) [] on ended = absurd on

  -- who has ended has that as its cause
  ended_causes : (g : Given) (crew later : List (Actor B)) → GoOn crew later → All (λ (b : Actor B). has_ended b ≡ true) later → HaveCauses g crew later
  ended_causes g crew later on ended = ended_by g crew later on (recursion_from_All (λ (b : Actor B). has_ended b ≡ true) later ended)

  -- an actor that waited would make the same call again
  waited_by : (g : Given) (a b : Actor B) → GoesOn a b → b.role.place ≡ a.role.place → HasMet a b ⊎ (holds_up b (due_by g a a.role.marked) ≡ true) → HasCause g a b
  waited_by g a b on place (inl met) = inr (inl met)
  waited_by g a b on place (inr held) =
      let due : due_by g b a.role.marked ≡ due_by g a a.role.marked = ap (λ (w : Who). due_of g w b.role.place a.role.marked) on.who_is ∙ ap (λ (p : Place). due_of g a.role.who p a.role.marked) place in
      inr (inr (a.role.marked, ap (holds_up b) due ∙ held))

  waited_cause : (g : Given) (a b : Actor B) → GoesOn a b → HasWaited g a b → HasCause g a b
  waited_cause g a b on waited = waited_by g a b on waited.place waited.cause

  -- ---- how many entries they can still make

  spare_snoc : (crew : List (Actor B)) (a : Actor B) → spare (crew ++ a ∷ []) ≡ spare crew + left_of a
  spare_snoc crew a =
      let one : spare (a ∷ []) ≡ 0 + left_of a = refl in
      let both = sum_by-append left_of crew (a ∷ []) in
      omega (arith, one, both)

  left_fewer : (g : Given) (a b : Actor B) → GoesOn a b → HasMoved g a b → left_of b < left_of a
  left_fewer g a b on moved =
      let most : most_of b ≡ most_of a = ap (λ (s : Setup). max s.capacity s.limits.clients) on.same.setup in
      let made : made_by b ≡ made_by a + 1 = ap length moved.mine ∙ length-append (mine_of a.seat) _ in
      let within = moved.within in
      omega (arith, most, made, within)

  left_same : (a b : Actor B) → GoesOn a b → mine_of b.seat ≡ mine_of a.seat → left_of b ≡ left_of a
  left_same a b on mine =
      let most : most_of b ≡ most_of a = ap (λ (s : Setup). max s.capacity s.limits.clients) on.same.setup in
      let made : made_by b ≡ made_by a = ap length mine in
      omega (arith, most, made)

  left_most : (g : Given) (a b : Actor B) (turn : Turn) → GoesOn a b → Said g a b turn → left_of b ≤ left_of a
  left_most g a b Moved on said = let fewer = left_fewer g a b on said in omega (arith, fewer)
  left_most g a b Waiting on said = let same = left_same a b on said.mine in omega (arith, same)
  left_most g a b Ended on said = let same = left_same a b on said.mine in omega (arith, same)

  -- ---- a round

  module _ (g : Given) (crew later : List (Actor B)) (a b : Actor B) (on : GoOn crew later) (next : GoesOn a b) where
    more_spare : spare later ≡ spare crew → left_of b ≡ left_of a → spare (later ++ b ∷ []) ≡ spare (crew ++ a ∷ [])
    more_spare same left = let x = spare_snoc later b in let y = spare_snoc crew a in omega (arith, same, left, x, y)

    fewer_spare : spare later ≡ spare crew → left_of b < left_of a → spare (later ++ b ∷ []) < spare (crew ++ a ∷ [])
    fewer_spare same left = let x = spare_snoc later b in let y = spare_snoc crew a in omega (arith, same, left, x, y)

    said_more : (round turn : Turn) → RoundSaid g crew later round → Said g a b turn → RoundSaid g (crew ++ a ∷ []) (later ++ b ∷ []) (both round turn)
    said_more Moved turn fewer said =
        let left = left_most g a b turn next said in let x = spare_snoc later b in let y = spare_snoc crew a in omega (arith, fewer, left, x, y)
    said_more Waiting Moved so said = fewer_spare so.0 (left_fewer g a b next said)
    said_more Waiting Waiting so said = (more_spare so.0 (left_same a b next said.mine), causes_snoc g crew later a b so.1 (waited_cause g a b next said))
    said_more Waiting Ended so said = (more_spare so.0 (left_same a b next said.mine), causes_snoc g crew later a b so.1 (inl said.ended))
    said_more Ended Moved so said = fewer_spare so.0 (left_fewer g a b next said)
    said_more Ended Waiting so said = (more_spare so.0 (left_same a b next said.mine), causes_snoc g crew later a b (ended_causes g crew later on so.1) (waited_cause g a b next said))
    said_more Ended Ended so said = (more_spare so.0 (left_same a b next said.mine), All-append (λ (x : Actor B). has_ended x ≡ true) later (b ∷ []) so.1 (All-cons (λ (x : Actor B). has_ended x ≡ true) b [] said.ended (All-nil (λ (x : Actor B). has_ended x ≡ true))))

    played_more : (round turn : Turn) → HasPlayedRound g crew later round → Said g a b turn → HasPlayedRound g (crew ++ a ∷ []) (later ++ b ∷ []) (both round turn)
    played_more round turn so said = record { go_on = go_on_snoc crew later a b on next; said = said_more round turn so.said said }

  -- the actors before a place have had their turn
  pub record RoundSoFar (g : Given) (pool : SharedPool B) (crew later : List (Actor B)) (place : ℕ) (round : Turn) : Type 0 where
    pub ready : AllReady g pool later
    pub count : length later ≡ length crew
    pub played : HasPlayedRound g (take place crew) (take place later) round
    pub rest : drop place later ≡ drop place crew

  pub round_begins : (g : Given) (pool : SharedPool B) (crew : List (Actor B)) → AllReady g pool crew → RoundSoFar g pool crew crew 0 Ended
  round_begins g pool crew ready = record { ready = ready; count = refl; played = record { go_on = tt; said = (refl, All-nil (λ (x : Actor B). has_ended x ≡ true)) }; rest = refl }

  head_is : (x y : Actor B) (xs ys : List (Actor B)) → x ∷ xs ≡ y ∷ ys → (x ≡ y) × (xs ≡ ys)
  head_is x y xs ys is = (cc, cc)

  pub round_goes_on : (g : Given) (pool : SharedPool B) (crew later : List (Actor B)) (place : ℕ) (round turn next : Turn) (a b : Actor B) → place < length later → RoundSoFar g pool crew later place round
      → a ≡ get_or later place a → IsReady g pool b → GoesOn a b → Said g a b turn → next ≡ both round turn → RoundSoFar g pool crew (set later place b) (place + 1) next
  round_goes_on g pool crew later place round turn next a b there so at ready on said is =
      let one : place + 1 ≡ suc place = omega arith in
      let there' : place < length crew = let n = so.count in omega (arith, n, there) in
      let parts = head_is (get_or later place a) (get_or crew place a) (drop (suc place) later) (drop (suc place) crew) (sym (drop-cons later place a there) ∙ (so.rest ∙ drop-cons crew place a there')) in
      let crew' : take (place + 1) crew ≡ take place crew ++ a ∷ [] = take_more crew place a there' ∙ ap (λ (x : Actor B). take place crew ++ x ∷ []) (sym (at ∙ parts.0)) in
      let later' : take (place + 1) (set later place b) ≡ take place later ++ b ∷ [] = take_more_set later place b there in
      let played = subst (HasPlayedRound g (take place crew ++ a ∷ []) (take place later ++ b ∷ [])) (sym is) (played_more g (take place crew) (take place later) a b so.played.go_on on round turn so.played said) in
      record {
        ready = All-set (IsReady g pool) later place b ready so.ready;
        count = length-set later place b ∙ so.count;
        played = subst (λ (x : List (Actor B)). HasPlayedRound g x (take (place + 1) (set later place b)) next) (sym crew') (subst (λ (x : List (Actor B)). HasPlayedRound g (take place crew ++ a ∷ []) x next) (sym later') played);
        rest = drop-set-lt (place + 1) later place b (omega arith) ∙ (ap (λ (n : ℕ). drop n later) one ∙ (parts.1 ∙ ap (λ (n : ℕ). drop n crew) (sym one)));
      }

  pub round_ends : (g : Given) (pool : SharedPool B) (crew later : List (Actor B)) (place : ℕ) (round : Turn) → place ≡ length later → RoundSoFar g pool crew later place round → HasPlayedRound g crew later round
  round_ends g pool crew later place round end so =
      let crew' : take place crew ≡ crew = ap (λ (n : ℕ). take n crew) (end ∙ so.count) ∙ take-length crew in
      let later' : take place later ≡ later = ap (λ (n : ℕ). take n later) end ∙ take-length later in
      subst (λ (x : List (Actor B)). HasPlayedRound g x later round) crew' (subst (λ (x : List (Actor B)). HasPlayedRound g (take place crew) x round) later' so.played)

  -- ---- a crew

  -- after so many rounds in succession in which none moved
  pub record CrewSoFar (g : Given) (pool : SharedPool B) (crew later : List (Actor B)) (idle : ℕ) : Type 0 where
    pub ready : AllReady g pool later
    pub go_on : GoOn crew later
    pub fits : idle ≤ 10000
    pub causes : 0 < idle → HaveCauses g crew later

  pub crew_begins : (g : Given) (pool : SharedPool B) (crew : List (Actor B)) → AllReady g pool crew → CrewSoFar g pool crew crew 0
  crew_begins g pool crew ready = record { ready = ready; go_on = go_on_itself crew; fits = omega arith; causes = λ some. absurd (omega (arith, some)) }

  module _ (g : Given) (pool : SharedPool B) (crew mid later : List (Actor B)) (idle : ℕ) (so : CrewSoFar g pool crew mid idle) (ready : AllReady g pool later) where
    pub crew_moved : HasPlayedRound g mid later Moved → CrewSoFar g pool crew later 0
    crew_moved round = record { ready = ready; go_on = go_on_through crew mid later so.go_on round.go_on; fits = omega arith; causes = λ some. absurd (omega (arith, some)) }

    pub crew_waited : idle < 10000 → HasPlayedRound g mid later Waiting → CrewSoFar g pool crew later (idle + 1)
    crew_waited below round = record { ready = ready; go_on = go_on_through crew mid later so.go_on round.go_on; fits = omega (arith, below); causes = λ some. causes_through g crew mid later so.go_on round.said.1 }

    pub crew_ended : HasPlayedRound g mid later Ended → AreHandedBack g crew later
    crew_ended round = record { go_on = go_on_through crew mid later so.go_on round.go_on; causes = causes_through g crew mid later so.go_on (ended_causes g mid later round.go_on round.said.1) }

  pub crew_idle : (g : Given) (pool : SharedPool B) (crew later : List (Actor B)) (idle : ℕ) → 0 < idle → CrewSoFar g pool crew later idle → AreHandedBack g crew later
  crew_idle g pool crew later idle some so = record { go_on = so.go_on; causes = so.causes some }

  -- ---- crews, each with a list of its own

  module _ (g : Given) (pool : SharedPool B) {V : Type 0} (crew_of : V → List (Actor B)) where
    pub crew_ready : (crews : List V) (i : ℕ) (crew : V) → i < length crews → crew ≡ get_or crews i crew → All (AllReady g pool) (map crew_of crews) → AllReady g pool (crew_of crew)
    crew_ready crews i crew below at ready =
        subst (AllReady g pool) (get_or-map crew_of crews i crew ∙ ap crew_of (sym at)) (ready i (crew_of crew) (let n = length-map crews crew_of in omega (arith, n, below)))

    pub crews_ready : (crews laters : List V) → length laters ≡ length crews → ((i : ℕ) (d : V) → i < length crews → AllReady g pool (crew_of (get_or laters i d))) → All (AllReady g pool) (map crew_of laters)
    crews_ready crews laters count each = All-map (AllReady g pool) crew_of laters (λ i d below. each i d (omega (arith, count, below)))

    back_to : (crew job : V) (later : List (Actor B)) → crew ≡ job → AreHandedBack g (crew_of job) later → AreHandedBack g (crew_of crew) later
    back_to crew job later is back = subst (λ (v : V). AreHandedBack g (crew_of v) later) (sym is) back

    pub crews_back : (crews laters : List V) → length laters ≡ length crews
        → ((i : ℕ) (d e : V) → i < length crews → (job : V) × (get_or crews i d ≡ job) × AreHandedBack g (crew_of job) (crew_of (get_or laters i e))) → AreCrewsBack g (map crew_of crews) (map crew_of laters)
    crews_back [] [] count each = tt
    crews_back (x ∷ crews) (y ∷ laters) count each =
        let first = each 0 x y (omega arith) in
        (back_to x first.0 (crew_of y) first.1 first.2, crews_back crews laters (omega (arith, count)) (λ i d e below. each (suc i) d e (omega (arith, below))))
    crews_back [] (y ∷ laters) count each = absurd (omega (arith, count))
    crews_back (x ∷ crews) [] count each = absurd (omega (arith, count))

-- what both hold of an answer
pub if_both : {X E : Type 0} (r : Result X E) (P Q R : X → Type 0) → IfOk r P → IfOk r Q → ((x : X) → P x → Q x → R x) → IfOk r R
if_both (Ok x) P Q R p q f = f x p q
if_both (Err e) P Q R p q f = tt
