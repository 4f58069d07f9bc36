-- What one thread plays is determined.
use Rattle.std.proofs.Common.{◌≡◌, ℕ, zero, suc, ◌+◌, ◌-◌, ◌<◌, ◌≤◌, Bool, true, false, nat_le, List, [], ◌∷◌, refl, sym, ap, subst, ◌∙◌, arith}
use Rattle.std.proofs.lemmas.Bool.Decides.{nat_tests}
use Rattle.std.proofs.lemmas.List.Elements.{All-cons, All-nil, recursion_from_All}
use Rattle.std.specs.List.{AllByRecursion}
use Rattle.tp_base.specs.declared.answers.Entry.{Entry}
use Rattle.tp_base.specs.declared.limits.Limits.{Limits}
use Rattle.worker_gate.specs.declared.role.Role.{Role}
use Rattle.worker_gate.specs.Alone.{other_roles, IsAlone}
use Rattle.part_places.specs.Places.{Given}
use Rattle.worker_gate.specs.Roles.{ended_turn, turned, Turned}
use Rattle.worker_gate.specs.Rounds.{round_of, rounds, scene, ArePlayed, HaveEnded, Scene}
use Rattle.worker_gate.proofs.Playing.{on_off, or_off, turned_is}

module _ (g : Given) (limits : Limits) (capacity : ℕ) where
  -- who has ended does nothing
  pub ended_still : (history : List Entry) (r : Role) → r.ended ≡ true → turned g limits capacity history r ≡ ended_turn history r
  ended_still history r ended =
      turned_is g limits capacity (λ (t : Turned). t ≡ ended_turn history r) history r (λ ends. refl) (λ on. absurd (on_off r.ended ended (or_off r.ended _ on)))

  round_still : (history : List Entry) (roles : List Role) → AllByRecursion (λ (r : Role). r.ended ≡ true) roles → round_of g limits capacity history roles ≡ scene history roles
  round_still history [] ended = refl
  round_still history (r ∷ roles) ended =
      ap (λ (t : Turned). let rest = round_of g limits capacity t.history roles in scene rest.history (t.role ∷ rest.roles)) (ended_still history r ended.0)
      ∙ (ap (λ (s : Scene). scene s.history (record r { ended = true } ∷ s.roles)) (round_still history roles ended.1)
      ∙ ap (λ (b : Bool). scene history (record r { ended = b } ∷ roles)) (sym ended.0))

  -- rounds behind the last that does something change nothing
  rounds_still : (s : Scene) (n k m : ℕ) → m ≡ n + k → HaveEnded (rounds g limits capacity n s).roles → rounds g limits capacity m s ≡ rounds g limits capacity n s
  rounds_still s n zero m is ended = let same : m ≡ n = omega (arith, is) in ap (λ (x : ℕ). rounds g limits capacity x s) same
  rounds_still s n (suc k) zero is ended = absurd (omega (arith, is))
  rounds_still s n (suc k) (suc m) is ended =
      let u = rounds g limits capacity n s in
      ap (λ (t : Scene). round_of g limits capacity t.history t.roles) (rounds_still s n k m (omega (arith, is)) ended)
      ∙ round_still u.history u.roles (recursion_from_All (λ (r : Role). r.ended ≡ true) u.roles ended)

  same_by : (s : Scene) (n m : ℕ) (b : Bool) → nat_le n m ≡ b → HaveEnded (rounds g limits capacity n s).roles → HaveEnded (rounds g limits capacity m s).roles → rounds g limits capacity n s ≡ rounds g limits capacity m s
  same_by s n m true is first next = let le : n ≤ m = grind (arith, nat_tests) in sym (rounds_still s n (m - n) m (omega (arith, le)) first)
  same_by s n m false is first next = let less : m < n = grind (arith, nat_tests) in rounds_still s m (n - m) n (omega (arith, less)) next

  -- so rounds until all have ended lead to one scene
  pub ends_same : (s t u : Scene) → ArePlayed g limits capacity s t → ArePlayed g limits capacity s u → HaveEnded t.roles → HaveEnded u.roles → t ≡ u
  ends_same s t u first next t_ended u_ended =
      sym first.1 ∙ (same_by s first.0 next.0 (nat_le first.0 next.0) refl (subst (λ (x : Scene). HaveEnded x.roles) (sym first.1) t_ended) (subst (λ (x : Scene). HaveEnded x.roles) (sym next.1) u_ended) ∙ next.1)

  pub all_of_one : (r : Role) → r.ended ≡ true → HaveEnded (r ∷ [])
  all_of_one r ended = All-cons (λ (x : Role). x.ended ≡ true) r [] ended (All-nil (λ (x : Role). x.ended ≡ true))

  pub one_alone : (history later : List Entry) → IsAlone g limits capacity history → IsAlone g limits capacity later → history ≡ later
  one_alone history later a b =
      let fronts : scene a.front (a.first ∷ []) ≡ scene b.front (b.first ∷ []) = ends_same _ (scene a.front (a.first ∷ [])) (scene b.front (b.first ∷ [])) a.set_up b.set_up (all_of_one a.first a.first_ended) (all_of_one b.first b.first_ended) in
      let front : a.front ≡ b.front = ap (λ (s : Scene). s.history) fronts in
      let played : ArePlayed g limits capacity (scene b.front (other_roles limits)) (scene history a.later) = subst (λ (h : List Entry). ArePlayed g limits capacity (scene h (other_roles limits)) (scene history a.later)) front a.rounds_of_others in
      ap (λ (s : Scene). s.history) (ends_same (scene b.front (other_roles limits)) (scene history a.later) (scene later b.later) played b.rounds_of_others a.all_ended b.all_ended)
