-- What client 1 has told the others.
use Rattle.std.proofs.Common.{◌≡◌, ℕ, suc, ◌+◌, ◌<◌, List, [], ◌∷◌, ◌++◌, length, take, drop, set, get_or, refl, sym, ap, subst, ◌∙◌, arith, All}
use Rattle.std.proofs.Math.Seq.{drop-cons, take-length}
use Rattle.std.proofs.lemmas.List.{drop-set-lt, length-set, take_more, take_more_set}
use Rattle.std.proofs.lemmas.List.Elements.{All-set}
use Rattle.tp_base.specs.declared.ids.Who.{Who}
use Rattle.turn_lock.specs.Histories.{own}
use Rattle.turn_lock.specs.Seats.{mine_of, seen_of}
use Rattle.turn_lock.proofs.Beginnings.{starts_through}
use Rattle.shared_pool.specs.declared.pool.SharedPool.{SharedPool}
use Rattle.shared_pool.specs.Pools.{IsPlayer}
use Rattle.worker_gate.specs.declared.actor.Actor.{Actor}
use Rattle.worker_gate.specs.Acting.{GoesOn}
use Rattle.worker_gate.specs.Closing.{HasHeard, HasTold, HaveHeard}
use Rattle.worker_gate.proofs.Crews.{go_on_itself, go_on_through}

module _ {B : Type 0} where
  pub goes_on_still : (a : Actor B) → GoesOn a a
  goes_on_still a = (go_on_itself (a ∷ [])).0

  pub goes_on_more : (a b d : Actor B) → GoesOn a b → GoesOn b d → GoesOn a d
  goes_on_more a b d first next = (go_on_through (a ∷ []) (b ∷ []) (d ∷ []) (first, tt) (next, tt)).0

  -- what an actor has made is what it has seen of itself
  pub own_seen : (pool : SharedPool B) (a : Actor B) → IsPlayer pool a.seat → mine_of a.seat ≡ own a.role.who (seen_of a.seat)
  own_seen pool a player = player.idle.whole.informed.own_is player.numbered ∙ ap (λ (w : Who). own w (seen_of a.seat)) (sym a.is_its)

  -- ---- one after another

  told_still : (pool : SharedPool B) (a : Actor B) → IsPlayer pool a.seat → HasTold a a
  told_still pool a player = record { goes_on = goes_on_still a; role_is = refl; mine = refl; own_is = own_seen pool a player }

  told_more : (a b d : Actor B) → HasTold a b → HasTold b d → HasTold a d
  told_more a b d first next = record { goes_on = goes_on_more a b d first.goes_on next.goes_on; role_is = next.role_is ∙ first.role_is; mine = next.mine ∙ first.mine; own_is = next.own_is }

  heard_before : (first then a b : Actor B) → GoesOn first then → HasHeard then a b → HasHeard first a b
  heard_before first then a b on heard = record {
    goes_on = heard.goes_on;
    role_is = heard.role_is;
    mine = heard.mine;
    told = starts_through (seen_of b.seat) (seen_of then.seat) (seen_of first.seat) heard.told on.starts;
    own_is = heard.own_is;
  }

  heard_snoc : (first : Actor B) (olds news : List (Actor B)) (a b : Actor B) → HaveHeard first olds news → HasHeard first a b → HaveHeard first (olds ++ a ∷ []) (news ++ b ∷ [])
  heard_snoc first [] [] a b all one = (one, tt)
  heard_snoc first (x ∷ olds) (y ∷ news) a b all one = (all.0, heard_snoc first olds news a b all.1 one)
  heard_snoc first [] (y ∷ news) a b all one = absurd all
  heard_snoc first (x ∷ olds) [] a b all one = absurd all

  pub record ToldSoFar (pool : SharedPool B) (first now : Actor B) (olds news : List (Actor B)) (place : ℕ) : Type 0 where
    pub player : IsPlayer pool now.seat
    pub players : All (λ (other : Actor B). IsPlayer pool other.seat) news
    pub count : length news ≡ length olds
    pub told : HasTold first now
    pub heard : HaveHeard first (take place olds) (take place news)
    pub rest : drop place news ≡ drop place olds

  pub telling_begins : (pool : SharedPool B) (first : Actor B) (others : List (Actor B)) → IsPlayer pool first.seat → All (λ (other : Actor B). IsPlayer pool other.seat) others → ToldSoFar pool first first others others 0
  telling_begins pool first others player players = record { player = player; players = players; count = refl; told = told_still pool first player; heard = tt; rest = refl }

  head_same : (x y : Actor B) (xs ys : List (Actor B)) → x ∷ xs ≡ y ∷ ys → (x ≡ y) × (xs ≡ ys)
  head_same x y xs ys is = (cc, cc)

  pub telling_goes_on : (pool : SharedPool B) (first now next : Actor B) (olds news : List (Actor B)) (place : ℕ) (a b : Actor B) → place < length news → ToldSoFar pool first now olds news place → a ≡ get_or news place a
      → IsPlayer pool next.seat → IsPlayer pool b.seat → HasTold now next → HasHeard now a b → ToldSoFar pool first next olds (set news place b) (place + 1)
  telling_goes_on pool first now next olds news place a b there so at player other told heard =
      let one : place + 1 ≡ suc place = omega arith in
      let there' : place < length olds = let n = so.count in omega (arith, n, there) in
      let parts = head_same (get_or news place a) (get_or olds place a) (drop (suc place) news) (drop (suc place) olds) (sym (drop-cons news place a there) ∙ (so.rest ∙ drop-cons olds place a there')) in
      let olds' : take (place + 1) olds ≡ take place olds ++ a ∷ [] = take_more olds place a there' ∙ ap (λ (x : Actor B). take place olds ++ x ∷ []) (sym (at ∙ parts.0)) in
      let news' : take (place + 1) (set news place b) ≡ take place news ++ b ∷ [] = take_more_set news place b there in
      let all = heard_snoc first (take place olds) (take place news) a b so.heard (heard_before first now a b so.told.goes_on heard) in
      record {
        player = player;
        players = All-set (λ (x : Actor B). IsPlayer pool x.seat) news place b other so.players;
        count = length-set news place b ∙ so.count;
        told = told_more first now next so.told told;
        heard = subst (λ (x : List (Actor B)). HaveHeard first x (take (place + 1) (set news place b))) (sym olds') (subst (HaveHeard first (take place olds ++ a ∷ [])) (sym news') all);
        rest = drop-set-lt (place + 1) news place b (omega arith) ∙ (ap (λ (n : ℕ). drop n news) one ∙ (parts.1 ∙ ap (λ (n : ℕ). drop n olds) (sym one)));
      }

  pub telling_ends : (pool : SharedPool B) (first now : Actor B) (olds news : List (Actor B)) (place : ℕ) → place ≡ length news → ToldSoFar pool first now olds news place → HaveHeard first olds news
  telling_ends pool first now olds news place end so =
      let olds' : take place olds ≡ olds = ap (λ (n : ℕ). take n olds) (end ∙ so.count) ∙ take-length olds in
      let news' : take place news ≡ news = ap (λ (n : ℕ). take n news) end ∙ take-length news in
      subst (λ (x : List (Actor B)). HaveHeard first x news) olds' (subst (HaveHeard first (take place olds)) news' so.heard)
