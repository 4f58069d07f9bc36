-- Devices post their lists, each in a thread of its own.
use Rattle.std.proofs.Common.{◌≡◌, ℕ, ◌+◌, ◌<◌, List, [], ◌∷◌, ◌++◌, length, get_or, take, refl, sym, ap, ◌∙◌, subst, arith, length-append, append_assoc}
use Rattle.std.proofs.Math.ListN.{get_or-append}
use Rattle.std.proofs.Math.Seq.{get_or-append_seam}
use Rattle.std.proofs.lemmas.List.{get_or_default}
use mathlib.Core.Logic.{dite}
use native.Mathlib.Decide.{ℕ_discrete}
use Rattle.std.specs.Global.{Vec}
use Rattle.tp_port.specs.declared.devices.Started.{Started}
use Rattle.tp_port.specs.declared.passes.PostPass.{PostPass}
use Rattle.tp_port.specs.declared.passes.TakePass.{TakePass}
use Rattle.tp_port.specs.declared.port.Port.{Port}
use Rattle.port_facts.specs.declared.Completion.{Completion}
use Rattle.tp_port.specs.Devices.{AreEnded, AreFinished, AreReady, AreStarted, Finishes, HasPostedAll, IsReady, IsStarted}
use Rattle.tp_port.specs.Ports.{posted_by, quota, number_of, quotas_of, AreBack, IsPostAt}

-- ---- a device posts

-- it has posted so many of its list
pub record Posting (port : Port) (number : ℕ) (list : List Completion) (index : ℕ) (pass : PostPass) : Type 0 where
  pub at : IsPostAt port number pass
  pub quota_is : quota pass ≡ length list
  pub posted : posted_by pass ≡ take index list

-- ---- what holds of each place of two lists, one of which grows

module _ {S P : Type 0} (F : ℕ → S → P → Type 0) where
  abbrev pub EachPair : List S → List P → Type 0
  EachPair ss ps = (k : ℕ) (s : S) (p : P) → k < length ps → F k (get_or ss k s) (get_or ps k p)

  -- where the second list gets one more
  pub each_more : (ss : List S) (ps : List P) (last : P) → EachPair ss ps → ((s : S) → F (length ps) (get_or ss (length ps) s) last) → EachPair ss (ps ++ last ∷ [])
  each_more ss ps last all here k s p inside =
      dite (ℕ_discrete k (length ps))
      (λ same.
      let there : get_or (ps ++ last ∷ []) (length ps) p ≡ last = get_or-append_seam ps last [] p in
      subst (λ (i : ℕ). F i (get_or ss i s) (get_or (ps ++ last ∷ []) i p)) (sym same) (subst (F (length ps) (get_or ss (length ps) s)) (sym there) (here s)))
      (λ apart.
      let less : k < length ps = omega (arith, length-append ps (last ∷ [])) in
      subst (F k (get_or ss k s)) (sym (get_or-append ps (last ∷ []) p k less)) (all k s p less))

-- ---- the devices are started

-- so many were
pub record Starting (port : Port) (devices : List (Vec Completion)) (index : ℕ) (started : List Started) : Type 0 where
  pub count : length started ≡ index
  pub each : (k : ℕ) (d : Vec Completion) (s : Started) → k < length started → IsStarted port (k + 1) (get_or devices k d).items (get_or started k s)

-- what is left of a list, as one is taken from it
pub parts_next : {X : Type 0} (all yielded items rest : List X) (x : X) → all ≡ yielded ++ items → items ≡ x ∷ rest → all ≡ (yielded ++ x ∷ []) ++ rest
parts_next all yielded items rest x parts is = parts ∙ (ap (λ l. yielded ++ l) is ∙ sym (append_assoc yielded (x ∷ []) rest))

pub sized_next : {X : Type 0} (items rest : List X) (x : X) (n m : ℕ) → n ≡ length items → m + 1 ≡ n → items ≡ x ∷ rest → m ≡ length rest
sized_next items rest x n m sized less is = omega (arith, ap length is)

-- the pass that is next is the one of the next device
pub ready_at : (port : Port) (devices : List (Vec Completion)) (posts yielded rest : List PostPass) (pass : PostPass) (list : Vec Completion) → AreReady port devices posts → posts ≡ yielded ++ pass ∷ rest
    → list ≡ get_or devices (length yielded) list → IsReady port (length yielded + 1) list.items pass
ready_at port devices posts yielded rest pass list ready parts is =
    let there : get_or posts (length yielded) pass ≡ pass = ap (λ (l : List PostPass). get_or l (length yielded) pass) parts ∙ get_or-append_seam yielded pass rest pass in
    let inside : length yielded < length posts = omega (arith, ap length parts, length-append yielded (pass ∷ rest)) in
    let at = ready.each (length yielded) list pass inside in
    subst (λ (x : Vec Completion × PostPass). IsReady port (length yielded + 1) x.0.items x.1) (λ i. (sym is i, there i)) at

pub started_next : (port : Port) (devices : List (Vec Completion)) (posts yielded rest : List PostPass) (pass : PostPass) (list : Vec Completion) (started after : List Started) (s : Started)
    → AreReady port devices posts → posts ≡ yielded ++ pass ∷ rest → Starting port devices (length yielded) started → list ≡ get_or devices (length yielded) list
    → IsStarted port (number_of pass) list.items s → after ≡ started ++ s ∷ [] → Starting port devices (length (yielded ++ pass ∷ [])) after
started_next port devices posts yielded rest pass list started after s ready parts so is here after_is =
    let at = ready_at port devices posts yielded rest pass list ready parts is in
    let count : length started ≡ length yielded = so.count in
    let inside : length yielded < length devices = omega (arith, ap length parts, length-append yielded (pass ∷ rest), ready.count) in
    let last : (d : Vec Completion) → IsStarted port (length started + 1) (get_or devices (length started) d).items s
    = λ d. subst (λ (n : ℕ). IsStarted port (n + 1) (get_or devices n d).items s) (sym count)
    (subst (λ (x : ℕ × Vec Completion). IsStarted port x.0 x.1.items s) (λ i. (at.at.number_is i, (is ∙ get_or_default devices (length yielded) list d inside) i)) here) in
    record {
      count = ap length after_is ∙ omega (arith, length-append started (s ∷ []), length-append yielded (pass ∷ []));
      each = subst (λ (l : List Started). (k : ℕ) (d : Vec Completion) (x : Started) → k < length l → IsStarted port (k + 1) (get_or devices k d).items (get_or l k x)) (sym after_is)
          (each_more (λ k (d : Vec Completion) x. IsStarted port (k + 1) d.items x) devices started s so.each last);
    }

-- ---- the devices end

pub finished_next : (started : List Started) (ended after : List PostPass) (s : Started) (p : PostPass) → AreFinished started ended → Finishes s p → after ≡ ended ++ p ∷ [] → AreFinished (started ++ s ∷ []) after
finished_next started ended after s p so here after_is =
    let more : List Started = started ++ s ∷ [] in
    let count : length ended ≡ length started = so.count in
    let grown : length (ended ++ p ∷ []) ≡ length more = omega (arith, length-append started (s ∷ []), length-append ended (p ∷ [])) in
    let there : (x : Started) → get_or more (length started) x ≡ s = λ x. get_or-append_seam started s [] x in
    let old : (k : ℕ) (x : Started) (y : PostPass) → k < length ended → Finishes (get_or more k x) (get_or ended k y)
    = λ k x y inside. let less : k < length started = omega arith in subst (λ (z : Started). Finishes z (get_or ended k y)) (sym (get_or-append started (s ∷ []) x k less)) (so.each k x y less) in
    let all = each_more (λ k x y. Finishes x y) more ended p old (λ x. subst (λ (n : ℕ). Finishes (get_or more n x) p) (sym count) (subst (λ (z : Started). Finishes z p) (sym (there x)) here)) in
    record {
      count = ap length after_is ∙ grown;
      each = λ k x y inside. subst (λ (l : List PostPass). Finishes (get_or more k x) (get_or l k y)) (sym after_is) (all k x y (omega (arith, grown)));
    }

-- what was started has posted its list when it has ended
pub all_ended : (port : Port) (devices : List (Vec Completion)) (started : List Started) (posts : List PostPass) → AreStarted port devices started → AreFinished started posts → AreEnded port devices posts
all_ended port devices started posts so done = record {
  count = done.count ∙ so.count;
  each = λ k d p inside. let count = done.count in let less : k < length started = omega arith in
      first_of_started k d p less;
}
  where
    first_of_started : (k : ℕ) (d : Vec Completion) (p : PostPass) → k < length started → HasPostedAll port (k + 1) (get_or devices k d).items (get_or posts k p)
    first_of_started k d p less = with_first started refl
      where
        with_first : (l : List Started) → started ≡ l → HasPostedAll port (k + 1) (get_or devices k d).items (get_or posts k p)
        with_first [] is = absurd (omega (arith, ap length is))
        with_first (x ∷ l) is = done.each k x p less port (k + 1) (get_or devices k d).items (so.each k d x less)

-- so they are those that the taker takes in
pub all_are_back : (port : Port) (devices : List (Vec Completion)) (posts : List PostPass) (pass : TakePass) → AreEnded port devices posts → length (quotas_of pass) ≡ length devices → AreBack port pass posts
all_are_back port devices posts pass ended count = record {
  count = ended.count ∙ sym count;
  each = λ k p inside. at_place k p inside devices refl;
}
  where
    at_place : (k : ℕ) (p : PostPass) → k < length posts → (l : List (Vec Completion)) → devices ≡ l → IsPostAt port (k + 1) (get_or posts k p)
    at_place k p inside [] is = absurd (omega (arith, ended.count, ap length is))
    at_place k p inside (d ∷ l) is = (ended.each k d p inside).at
