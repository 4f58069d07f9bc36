-- The passes of the devices come back to the taker, and what is left is taken.
use Rattle.std.proofs.Common.{◌≡◌, ◌≢◌, ℕ, zero, suc, ◌+◌, ◌<◌, ◌≤◌, List, [], ◌∷◌, ◌++◌, length, get_or, map, set, refl, sym, ap, ◌∙◌, subst, ⊎_elim, lt_of_not-le, arith, add-one, length-append, append_assoc}
use Rattle.std.proofs.lemmas.List.{append-nil, get_or_past, length-map, nil_from_length}
use mathlib.Core.Option.{some, none}
use mathlib.Core.Logic.{dite}
use native.Mathlib.Decide.{dec_le, ℕ_discrete}
use lib.ListN.{get_elem?}
use Rattle.std.proofs.Math.ListN.{get_or-append}
use Rattle.std.proofs.Math.Seq.{get_or-append_seam}
use Rattle.crossbeam_queue.specs.Fifo.{Pops, Merges, Learns}
use Rattle.crossbeam_queue.specs.Passes.{view, IsPassOf}
use Rattle.crossbeam_queue.proofs.Lists.{at_set}
use Rattle.tp_port.specs.declared.passes.LastPass.{LastPass}
use Rattle.tp_port.specs.declared.passes.PostPass.{PostPass}
use Rattle.tp_port.specs.declared.passes.TakePass.{TakePass}
use Rattle.tp_port.specs.declared.port.Port.{Port}
use Rattle.port_facts.specs.declared.Completion.{Completion}
use Rattle.tp_port.specs.declared.views.Part.{Part}
use Rattle.tp_port.specs.declared.views.Part.TheVariants.{Spent, Posts, Takes}
use Rattle.port_facts.specs.declared.Posted.{Posted}
use Rattle.tp_port.specs.Lists.{quota_of}
use Rattle.port_facts.specs.Interleaved.{list_of, of}
use Rattle.tp_port.specs.Parts.{gathered, known_in, quotas_in, spent_part, taken_in, with_taken}
use Rattle.tp_port.specs.Ports.{posted_by, posted_last, quotas_of, taken_by, AreBack, IsGathered, IsPostAt}
use Rattle.tp_port.specs.Rule.{AreBegun, AreKnown, Delivers, Fits, FitsPost, FitsTake, Ledger}
use Rattle.tp_port.proofs.Keeping.{apart_devices, each_set, gets, not_out}
use Rattle.tp_port.proofs.Lists.{changed, changed_here, changed_else, changed_same, of_append}

-- ---- a device's pass comes back

-- the device has no pass any more
abbrev unseated : Ledger → ℕ → Ledger
unseated l device = record l { seat = changed l.seat device none }

fits_unseated : (l : Ledger) (pass other d : ℕ) → pass ≡ l.reader → l.seat d ≡ some other → (j : ℕ) (u : Part) → j ≢ pass → j ≢ other → Fits l j u → Fits (unseated l d) j u
fits_unseated l pass other d mine theirs j Spent apart also f = tt
fits_unseated l pass other d mine theirs j (Posts e q r put) apart also f = record {
  some_device = f.some_device;
  seat = changed_else l.seat d none e (apart_devices l d e other j theirs f.seat also) ∙ f.seat;
  put_is = f.put_is;
  quota_is = f.quota_is;
  room_is = f.room_is;
}
fits_unseated l pass other d mine theirs j (Takes q m t k) apart also f = absurd (apart (f.reader ∙ sym mine))

module _ (pass : ℕ) (q : List ℕ) (m : ℕ) (t : List Posted) (k : List (List Completion)) where
  -- what the taker knows then
  fits_gathered : (l : Ledger) (other d : ℕ) (put : List Completion) → FitsTake l pass q m t k → d ≡ length k + 1 → l.seat d ≡ some other → put ≡ l.posted d → FitsTake (unseated l d) pass q m t (k ++ put ∷ [])
  fits_gathered l other d put f next theirs put_is =
      let last : get_or (k ++ put ∷ []) (length k) [] ≡ put = get_or-append_seam k put [] [] in
      let d_made : d ≤ m = dite (dec_le d m) (λ (le : d ≤ m). le) (λ above. absurd (not_out l d d other theirs (f.later d (lt_of_not-le above)).0 refl)) in
      record {
        reader = f.reader;
        quotas_are = f.quotas_are;
        taken_is = f.taken_is;
        later = λ e above. let g = f.later e above in (changed_same l.seat d none e g.0, g.1);
        back = λ i inside. dite (ℕ_discrete i (length k))
            (λ same. (changed_here l.seat d none (i + 1) (omega arith), ap (λ (n : ℕ). get_or (k ++ put ∷ []) n []) same ∙ (last ∙ (put_is ∙ ap l.posted (omega arith)))))
            (λ apart.
            let less : i < length k = omega (arith, length-append k (put ∷ [])) in
            let g = f.back i less in
            (changed_same l.seat d none (i + 1) g.0, get_or-append k (put ∷ []) [] i less ∙ g.1));
        count = omega (arith, length-append k (put ∷ []));
      }

  pub gathers : (other d qq r : ℕ) (put : List Completion) → d ≡ length k + 1 → Merges Delivers pass (Takes q m t k) other (Posts d qq r put) (gathered (Takes q m t k) (Posts d qq r put)) spent_part
  gathers other d qq r put next items views h at two at_other =
      let l = h.ledger in
      let both : Part = Takes q m t (k ++ put ∷ []) in
      let there : Part = Posts d qq r put in
      let was : get_elem? views other ≡ some there = ⊎_elim (λ (x : (other ≡ pass) × (both ≡ there)). absurd (two x.0)) (λ (x : (other ≢ pass) × (get_elem? views other ≡ some there)). x.1) (at_set views pass other both there at_other) in
      let f : FitsTake l pass q m t k = h.each pass (Takes q m t k) at in
      let g : FitsPost l other d qq r put = h.each other there was in
      let new : Ledger = unseated l d in record {
        ledger = new;
        order = h.order;
        within = h.within;
        each = each_set (Fits new) (set views pass both) other spent_part tt
            (λ j u apart e. each_set (λ i x. i ≢ other → Fits new i x) views pass both
            (λ _. fits_gathered l other d put f next g.seat g.put_is)
            (λ i x mine e2 also. fits_unseated l pass other d f.reader g.seat i x mine also (h.each i x e2)) j u e apart);
      }

  -- ---- when all came back

  module _ (all : length q ≤ length k) where
    pub knows : Learns Delivers pass (Takes q m t k) (λ items. (device : ℕ) → of device (t ++ items) ≡ list_of k device)
    knows items views h at device =
        let l = h.ledger in
        let f : FitsTake l pass q m t k = h.each pass (Takes q m t k) at in
        let order : of device (t ++ items) ≡ l.posted device = ap (λ (s : List Posted). of device (s ++ items)) f.taken_is ∙ h.order device in
        order ∙ posted_is l f h.within device
      where
        posted_is : (l : Ledger) → FitsTake l pass q m t k → ((e : ℕ) → length (l.posted e) ≤ quota_of l.quotas e) → (e : ℕ) → l.posted e ≡ list_of k e
        posted_is l f within zero = nil_from_length (l.posted 0) (omega (arith, within 0))
        posted_is l f within (suc e) =
            dite (dec_le (length k) e)
            (λ past.
            let no_quota : get_or l.quotas e 0 ≡ 0 = ap (λ (qs : List ℕ). get_or qs e 0) (sym f.quotas_are) ∙ get_or_past q e 0 (omega arith) in
            nil_from_length (l.posted (suc e)) (omega (arith, within (suc e))) ∙ sym (get_or_past k e [] past))
            (λ inside. ap l.posted (sym (add-one e)) ∙ sym (f.back e (lt_of_not-le inside)).1)

    pub gets_last : Pops Delivers pass (Takes q m t k) (λ x w. (w ≡ with_taken (Takes q m t k) x) × (0 < quota_of q x.device) × AreBegun w)
    gets_last x items views h at =
        let got = gets pass q m t k x items views h at in
        let begun : AreBegun (Takes q m (t ++ x ∷ []) k) = λ device. record {
          rest = of device items;
          is = sym (knows (x ∷ items) views h at device) ∙ (ap (of device) (sym (append_assoc t (x ∷ []) items)) ∙ of_append device (t ++ x ∷ []) items);
        } in
        (got.0, got.1, (got.2.0, got.2.1, subst AreBegun (sym got.2.0) begun))

-- ---- the same, of a pass that is known to know this

pub may_gather : (pass : ℕ) (q : List ℕ) (m : ℕ) (t : List Posted) (k : List (List Completion)) (other d qq r : ℕ) (put : List Completion) (v w : Part) → v ≡ Takes q m t k → w ≡ Posts d qq r put → d ≡ length k + 1
    → Merges Delivers pass v other w (gathered v w) spent_part
may_gather pass q m t k other d qq r put v w v_is w_is next =
    subst (λ (x : Part × Part). Merges Delivers pass x.0 other x.1 (gathered x.0 x.1) spent_part) (λ i. (sym v_is i, sym w_is i)) (gathers pass q m t k other d qq r put next)

pub may_learn : (pass : ℕ) (q : List ℕ) (m : ℕ) (t : List Posted) (k : List (List Completion)) (v : Part) → v ≡ Takes q m t k → length q ≤ length k → Learns Delivers pass v (AreKnown v)
may_learn pass q m t k v is all = subst (λ (u : Part). Learns Delivers pass u (AreKnown u)) (sym is) (knows pass q m t k all)

pub may_take_last : (pass : ℕ) (q : List ℕ) (m : ℕ) (t : List Posted) (k : List (List Completion)) (v : Part) → v ≡ Takes q m t k → length q ≤ length k
    → Pops Delivers pass v (λ x w. (w ≡ with_taken v x) × (0 < quota_of (quotas_in v) x.device) × AreBegun w) × Learns Delivers pass v (AreKnown v)
may_take_last pass q m t k v is all =
    subst (λ (u : Part). Pops Delivers pass u (λ x w. (w ≡ with_taken u x) × (0 < quota_of (quotas_in u) x.device) × AreBegun w) × Learns Delivers pass u (AreKnown u)) (sym is)
    (gets_last pass q m t k all, knows pass q m t k all)

-- ---- the passes that came back, in their order

-- the next one is the one of the next device
pub post_at : (port : Port) (pass : TakePass) (posts yielded rest : List PostPass) (post : PostPass) → AreBack port pass posts → posts ≡ yielded ++ post ∷ rest → IsPostAt port (length yielded + 1) post
post_at port pass posts yielded rest post back is =
    let there : get_or posts (length yielded) post ≡ post = ap (λ (l : List PostPass). get_or l (length yielded) post) is ∙ get_or-append_seam yielded post rest post in
    let inside : length yielded < length posts = omega (arith, ap length is, length-append yielded (post ∷ rest)) in
    subst (IsPostAt port (length yielded + 1)) there (back.each (length yielded) post inside)

pub all_back : (port : Port) (posts yielded rest : List PostPass) (left : ℕ) (pass : TakePass) (last : LastPass) (before : Part) (items : List Posted) → AreBack port pass posts → posts ≡ yielded ++ rest → left ≡ length rest → left ≡ 0
    → IsPassOf port.queue last.raw → view last.raw ≡ before → before ≡ Takes (quotas_of pass) (length (quotas_of pass)) (taken_by pass) (map posted_by yielded) → AreKnown before items → IsGathered port posts pass last
all_back port posts yielded rest left pass last before items back parts sized none_left pass_of same is_known known =
    let is : posts ≡ yielded = parts ∙ (ap (λ (l : List PostPass). yielded ++ l) (nil_from_length rest (sym sized ∙ none_left)) ∙ append-nil yielded) in
    let v_is : view last.raw ≡ Takes (quotas_of pass) (length (quotas_of pass)) (taken_by pass) (map posted_by yielded) = same ∙ is_known in
    let posted : posted_last last ≡ map posted_by posts = ap known_in v_is ∙ ap (map posted_by) (sym is) in
    let count : length (posted_last last) ≡ length (quotas_of pass) = ap length posted ∙ (length-map posts posted_by ∙ back.count) in
    let begun : AreBegun before = λ device. record { rest = of device items; is = sym (known device) ∙ of_append device (taken_in before) items } in
    record {
      of = record {
        of = pass_of;
        knows = v_is ∙ (λ i. Takes (quotas_in (sym v_is i)) (length (quotas_in (sym v_is i))) (taken_in (sym v_is i)) (known_in (sym v_is i)));
        count = count ∙ ap (λ (v : Part). length (quotas_in v)) (sym v_is);
        begun = subst AreBegun (sym same) begun;
      };
      quotas_are = ap quotas_in v_is;
      taken = ap taken_in v_is;
      posted = posted;
    }

pub may_learn_all : (port : Port) (posts yielded rest : List PostPass) (left id : ℕ) (pass : TakePass) (v : Part) → AreBack port pass posts → posts ≡ yielded ++ rest → left ≡ length rest → left ≡ 0
    → v ≡ Takes (quotas_of pass) (length (quotas_of pass)) (taken_by pass) (map posted_by yielded) → Learns Delivers id v (AreKnown v)
may_learn_all port posts yielded rest left id pass v back parts sized none_left is_known =
    may_learn id _ _ _ _ v is_known (omega (arith, ap length parts, length-append yielded rest, length-map yielded posted_by, back.count))
