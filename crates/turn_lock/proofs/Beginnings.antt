-- Histories that grow, and what their actors have of them.
use Rattle.std.proofs.Common.{◌≡◌, ℕ, ◌-◌, Bool, true, false, cond, nat_le, List, [], ◌∷◌, ◌++◌, refl, sym, ap, ◌∙◌, append_assoc, append-nil, arith}
use Rattle.std.proofs.lemmas.List.Elements.{filter-append}
use Rattle.std.proofs.lemmas.Bool.Decides.{nat_tests}
use Rattle.tp_base.specs.declared.answers.Entry.{Entry}
use Rattle.tp_base.specs.declared.ids.Who.{Who}
use Rattle.tp_base.specs.declared.ids.Who.TheVariants.{Client, Worker}
use Rattle.tp_base.specs.declared.limits.Limits.{Limits}
use Rattle.tp_base.specs.Actors.{is_same_actor}
use Rattle.turn_lock.specs.Histories.{actor_of, own, StartsWith}
use Rattle.tp_model.proofs.Refusals.{is_own_actor, same_actor_is}

pub starts_itself : (history : List Entry) → StartsWith history history
starts_itself history = record { rest = []; is = sym (append-nil history) }

pub starts_nothing : (history : List Entry) → StartsWith history []
starts_nothing history = record { rest = history; is = refl }

pub starts_longer : (history front more : List Entry) → StartsWith history front → StartsWith (history ++ more) front
starts_longer history front more s = record { rest = s.rest ++ more; is = ap (λ (h : List Entry). h ++ more) s.is ∙ append_assoc front s.rest more }

pub starts_through : (history front first : List Entry) → StartsWith history front → StartsWith front first → StartsWith history first
starts_through history front first s t = record { rest = t.rest ++ s.rest; is = s.is ∙ (ap (λ (h : List Entry). h ++ s.rest) t.is ∙ append_assoc first t.rest s.rest) }

pub own_more : (who : Who) (history : List Entry) (entry : Entry) → entry.who ≡ who → own who (history ++ entry ∷ []) ≡ own who history ++ entry ∷ []
own_more who history entry is = filter-append (λ (e : Entry). is_same_actor e.who who) history (entry ∷ []) ∙ ap (λ (b : Bool). own who history ++ cond b (entry ∷ []) []) (ap (λ (w : Who). is_same_actor w who) is ∙ is_own_actor who)

own_other_at : (who : Who) (history : List Entry) (entry : Entry) (b : Bool) → is_same_actor entry.who who ≡ b → b ≡ false → own who (history ++ entry ∷ []) ≡ own who history
own_other_at who history entry b is off = filter-append (λ (e : Entry). is_same_actor e.who who) history (entry ∷ []) ∙ (ap (λ (x : Bool). own who history ++ cond x (entry ∷ []) []) (is ∙ off) ∙ append-nil (own who history))

not_same : (a b : Who) (x : Bool) → (a ≡ b → ⊥) → is_same_actor a b ≡ x → x ≡ false
not_same a b true apart is = absurd (apart (same_actor_is a b is))
not_same a b false apart is = refl

pub own_other : (who : Who) (history : List Entry) (entry : Entry) → (entry.who ≡ who → ⊥) → own who (history ++ entry ∷ []) ≡ own who history
own_other who history entry apart = own_other_at who history entry (is_same_actor entry.who who) refl (not_same entry.who who (is_same_actor entry.who who) apart refl)

actors_apart_at : (clients a b : ℕ) (x y : Bool) → nat_le a clients ≡ x → nat_le b clients ≡ y → cond x (Client a) (Worker (a - clients)) ≡ cond y (Client b) (Worker (b - clients)) → a ≡ b
actors_apart_at clients a b true true p q is = cc
actors_apart_at clients a b true false p q is = absurd (cc)
actors_apart_at clients a b false true p q is = absurd (cc)
actors_apart_at clients a b false false p q is = let e : a - clients ≡ b - clients = cc in grind (arith, nat_tests)

-- two numbers stand for two actors
pub actors_apart : (limits : Limits) (a b : ℕ) → actor_of limits a ≡ actor_of limits b → a ≡ b
actors_apart limits a b is = actors_apart_at limits.clients a b (nat_le a limits.clients) (nat_le b limits.clients) refl refl is
