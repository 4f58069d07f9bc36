-- The passes of a new port, dealt one by one.
use Rattle.std.proofs.Common.{◌≡◌, ℕ, zero, suc, ◌+◌, ◌<◌, List, [], ◌∷◌, ◌++◌, length, get_or, sum, refl, sym, ap, ◌∙◌, subst, arith, length-append}
use Rattle.crossbeam_queue.specs.Passes.{view, ruled_capacity, IsPassOf, Pass}
use Rattle.tp_port.specs.declared.passes.PostPass.{PostPass}
use Rattle.tp_port.specs.declared.port.Port.{Port}
use Rattle.tp_port.specs.declared.views.Part.{Part}
use Rattle.tp_port.specs.declared.views.Part.TheVariants.{Posts, Takes}
use Rattle.port_facts.specs.declared.Posted.{Posted}
use Rattle.tp_port.specs.Lists.{quota_of}
use Rattle.tp_port.specs.Parts.{begun, dealt, undealt, opening_part, put_in, quota_in, room_in}
use Rattle.tp_port.specs.Ports.{IsNewPost}

-- so many passes were dealt
pub record Dealing (port : Port) (quotas : List ℕ) (index number : ℕ) (raw : Pass Posted Part) (posts : List PostPass) : Type 0 where
  pub number_is : number ≡ index
  pub of : IsPassOf port.queue raw
  pub knows : view raw ≡ Takes quotas index [] []
  pub count : length posts ≡ index
  pub each : (k : ℕ) (d : PostPass) → k < length posts → IsNewPost port quotas (k + 1) (get_or posts k d)

each_push : (P : ℕ → PostPass → Type 0) (posts : List PostPass) (last : PostPass) → ((k : ℕ) (d : PostPass) → k < length posts → P k (get_or posts k d)) → P (length posts) last
    → (k : ℕ) (d : PostPass) → k < length (posts ++ last ∷ []) → P k (get_or (posts ++ last ∷ []) k d)
each_push P [] last all here zero d inside = here
each_push P [] last all here (suc k) d inside = absurd (omega arith)
each_push P (x ∷ posts) last all here zero d inside = all zero d (omega arith)
each_push P (x ∷ posts) last all here (suc k) d inside = each_push (λ j. P (suc j)) posts last (λ j e i. all (suc j) e (omega arith)) here k d (omega arith)

module _ (port : Port) (quotas : List ℕ) where
  pub starts : (raw : Pass Posted Part) → IsPassOf port.queue raw → view raw ≡ begun quotas opening_part → Dealing port quotas 0 0 raw []
  starts raw of knows = record { number_is = refl; of = of; knows = knows; count = refl; each = λ k d inside. absurd (omega arith) }

  new_post : (number : ℕ) (new : Pass Posted Part) → IsPassOf port.queue new → view new ≡ Posts number (quota_of quotas number) (sum quotas) [] → ruled_capacity port.queue ≡ sum quotas + 1 → IsNewPost port quotas number (record { number = number; raw = new })
  new_post number new of is room = record {
    of = record {
      of = of;
      knows = is ∙ (λ i. Posts number (quota_in (sym is i)) (room_in (sym is i)) (put_in (sym is i)));
      capacity = room ∙ ap (λ (v : Part). room_in v + 1) (sym is);
    };
    number_is = refl;
    quota_is = ap quota_in is;
    posted = ap put_in is;
  }

  pub dealt_next : (index number : ℕ) (raw next new : Pass Posted Part) (posts after : List PostPass) → Dealing port quotas index number raw posts → ruled_capacity port.queue ≡ sum quotas + 1
      → IsPassOf port.queue next → IsPassOf port.queue new → view next ≡ undealt (view raw) → view new ≡ dealt (view raw) → after ≡ posts ++ record { number = number + 1; raw = new } ∷ [] → Dealing port quotas (index + 1) (number + 1) next after
  dealt_next index number raw next new posts after d room next_of new_of left right after_is =
      let n = index + 1 in
      let same : number + 1 ≡ n = ap (λ (i : ℕ). i + 1) d.number_is in
      let post : PostPass = record { number = number + 1; raw = new } in
      let right_is : view new ≡ Posts n (quota_of quotas n) (sum quotas) [] = right ∙ ap dealt d.knows in
      let fresh : IsNewPost port quotas n post = subst (λ (i : ℕ). IsNewPost port quotas n (record { number = i; raw = new })) (sym same) (new_post n new new_of right_is room) in
      let count : length posts ≡ index = d.count in
      record {
        number_is = same;
        of = next_of;
        knows = left ∙ ap undealt d.knows;
        count = ap length after_is ∙ omega (arith, length-append posts (post ∷ []));
        each = subst (λ (l : List PostPass). (k : ℕ) (x : PostPass) → k < length l → IsNewPost port quotas (k + 1) (get_or l k x)) (sym after_is)
            (each_push (λ k p. IsNewPost port quotas (k + 1) p) posts post d.each (subst (λ (i : ℕ). IsNewPost port quotas (i + 1) post) (sym count) fresh));
      }
