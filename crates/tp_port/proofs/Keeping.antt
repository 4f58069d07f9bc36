-- Each kind of step keeps the rule.
use Rattle.std.proofs.Common.{◌≡◌, ◌≢◌, ◌⊎◌, ℕ, zero, suc, ◌+◌, ◌<◌, ◌≤◌, List, [], ◌∷◌, ◌++◌, length, set, sum, refl, sym, ap, ◌∙◌, subst, ⊎_elim, inl, inr, arith, length-append, append_assoc}
use Rattle.std.proofs.lemmas.List.{append-nil}
use mathlib.Core.Option.{some, none, some-injective, some-ne-none}
use mathlib.Core.Logic.{dite}
use native.Mathlib.Decide.{ℕ_discrete}
use lib.ListN.{get_elem?}
use Rattle.crossbeam_queue.specs.Fifo.{Pushes, Pops, Forks, Learns}
use Rattle.crossbeam_queue.proofs.Lists.{at_set}
use Rattle.port_facts.specs.declared.Completion.{Completion}
use Rattle.tp_port.specs.declared.views.Part.{Part}
use Rattle.tp_port.specs.declared.views.Part.TheVariants.{Spent, Posts, Takes}
use Rattle.port_facts.specs.declared.Posted.{Posted}
use Rattle.tp_port.specs.Lists.{quota_of}
use Rattle.port_facts.specs.Interleaved.{of}
use Rattle.tp_port.specs.Parts.{begun, dealt, undealt, opening_part, quotas_in, room_in, spent_part, with_put, with_taken}
use Rattle.tp_port.specs.Rule.{Delivers, Fits, FitsPost, FitsTake, Ledger}
use Rattle.tp_port.proofs.Lists.{changed, changed_here, changed_else, fits_room, of_append, of_one, of_other, quota_none, sum_cons}

-- ---- views in a list

abbrev pub Each : (ℕ → Part → Type 0) → List Part → Type 0
Each F views = (pass : ℕ) (v : Part) → get_elem? views pass ≡ some v → F pass v

-- what holds of each view, after one was replaced
pub each_set : (F : ℕ → Part → Type 0) (views : List Part) (pass : ℕ) (w : Part) → F pass w → ((j : ℕ) (u : Part) → j ≢ pass → get_elem? views j ≡ some u → F j u) → Each F (set views pass w)
each_set F views pass w mine others j u e =
    ⊎_elim
    (λ (t : (j ≡ pass) × (w ≡ u)). subst (λ (y : ℕ × Part). F y.0 y.1) (λ i. (sym t.0 i, t.1 i)) mine)
    (λ (t : (j ≢ pass) × (get_elem? views j ≡ some u)). others j u t.0 t.1)
    (at_set views pass j w u e)

at_end : (views : List Part) (right : Part) (j : ℕ) (u : Part) → get_elem? (views ++ right ∷ []) j ≡ some u → (get_elem? views j ≡ some u) ⊎ ((j ≡ length views) × (right ≡ u))
at_end [] right zero u e = inr (refl, some-injective right u e)
at_end [] right (suc j) u e = absurd (some-ne-none u (sym e))
at_end (x ∷ views) right zero u e = inl e
at_end (x ∷ views) right (suc j) u e = ⊎_elim (λ (there : get_elem? views j ≡ some u). inl there) (λ (t : (j ≡ length views) × (right ≡ u)). inr (ap suc t.0, t.1)) (at_end views right j u e)

-- the same, after one was cut in two
each_forked : (F : ℕ → Part → Type 0) (views : List Part) (pass : ℕ) (left right : Part) → F pass left → F (length (set views pass left)) right → ((j : ℕ) (u : Part) → j ≢ pass → get_elem? views j ≡ some u → F j u) → Each F (set views pass left ++ right ∷ [])
each_forked F views pass left right mine new others j u e =
    ⊎_elim
    (λ (there : get_elem? (set views pass left) j ≡ some u). each_set F views pass left mine others j u there)
    (λ (t : (j ≡ length (set views pass left)) × (right ≡ u)). subst (λ (y : ℕ × Part). F y.0 y.1) (λ i. (sym t.0 i, t.1 i)) new)
    (at_end (set views pass left) right j u e)

-- ---- two passes know of two devices, and one takes

pub apart_devices : (l : Ledger) (d e pass j : ℕ) → l.seat d ≡ some pass → l.seat e ≡ some j → j ≢ pass → e ≢ d
apart_devices l d e pass j mine theirs apart same = apart (some-injective j pass (sym theirs ∙ (ap l.seat same ∙ mine)))

pub not_out : (l : Ledger) (d e pass : ℕ) → l.seat d ≡ some pass → l.seat e ≡ none → e ≢ d
not_out l d e pass mine theirs same = some-ne-none pass (sym mine ∙ (ap l.seat (sym same) ∙ theirs))

-- ---- the queue is new

pub begins : Delivers [] (opening_part ∷ [])
begins = record {
  ledger = record { quotas = []; reader = 0; seat = λ _. none; posted = λ _. []; taken = [] };
  order = λ _. refl;
  within = λ device. omega arith;
  each = each_set (Fits (record { quotas = []; reader = 0; seat = λ _. none; posted = λ _. []; taken = [] })) (opening_part ∷ []) 0 opening_part
      (record { reader = refl; quotas_are = refl; taken_is = refl; later = λ _ _. (refl, refl); back = λ k inside. absurd (omega arith); count = omega arith })
      (λ j u apart e. absurd (apart (first_alone j u e)));
}
  where
    first_alone : (j : ℕ) (u : Part) → get_elem? (opening_part ∷ []) j ≡ some u → j ≡ 0
    first_alone zero u e = refl
    first_alone (suc j) u e = absurd (some-ne-none u (sym e))

-- ---- a device posts

abbrev put_on : Ledger → ℕ → Completion → Ledger
put_on l d c = record l { posted = changed l.posted d (l.posted d ++ c ∷ []) }

fits_put : (l : Ledger) (pass d : ℕ) (c : Completion) → l.seat d ≡ some pass → (j : ℕ) (u : Part) → j ≢ pass → Fits l j u → Fits (put_on l d c) j u
fits_put l pass d c mine j Spent apart f = tt
fits_put l pass d c mine j (Posts e q r put) apart f = record {
  some_device = f.some_device;
  seat = f.seat;
  put_is = f.put_is ∙ sym (changed_else l.posted d (l.posted d ++ c ∷ []) e (apart_devices l d e pass j mine f.seat apart));
  quota_is = f.quota_is;
  room_is = f.room_is;
}
fits_put l pass d c mine j (Takes q m t k) apart f = record {
  reader = f.reader;
  quotas_are = f.quotas_are;
  taken_is = f.taken_is;
  later = λ e above. let g = f.later e above in (g.0, changed_else l.posted d (l.posted d ++ c ∷ []) e (not_out l d e pass mine g.0) ∙ g.1);
  back = λ i inside. let g = f.back i inside in (g.0, g.1 ∙ sym (changed_else l.posted d (l.posted d ++ c ∷ []) (i + 1) (not_out l d (i + 1) pass mine g.0)));
  count = f.count;
}

posted_more : (f : ℕ → List Completion) (d e : ℕ) (x : Posted) → x.device ≡ d → f e ++ of e (x ∷ []) ≡ changed f d (f d ++ x.completion ∷ []) e
posted_more f d e x is =
    let more : List Completion = f d ++ x.completion ∷ [] in
    dite (ℕ_discrete e d)
    (λ same. ap (λ (l : List Completion). f e ++ l) (of_one e x [] (is ∙ sym same)) ∙ (ap (λ (n : ℕ). f n ++ x.completion ∷ []) same ∙ sym (changed_here f d more e same)))
    (λ apart. ap (λ (l : List Completion). f e ++ l) (of_other e x [] (λ same. apart (sym same ∙ is))) ∙ (append-nil (f e) ∙ sym (changed_else f d more e apart)))

module _ (n pass d q r : ℕ) (put : List Completion) (x : Posted) where
  pub puts : x.device ≡ d → length put < q → Pushes Delivers n pass (Posts d q r put) x (λ w. w ≡ with_put (Posts d q r put) x)
  puts is less items views _ h at =
      let l = h.ledger in
      let f : FitsPost l pass d q r put = h.each pass (Posts d q r put) at in
      let c = x.completion in
      let more : List Completion = l.posted d ++ c ∷ [] in
      let new : Ledger = put_on l d c in
      let w : Part = Posts d q r (put ++ c ∷ []) in
      let long : length more ≤ quota_of l.quotas d = omega (arith, ap length f.put_is, f.quota_is, length-append (l.posted d) (c ∷ [])) in (
        w,
        record {
          ledger = new;
          order = λ e. ap (of e) (sym (append_assoc l.taken items (x ∷ []))) ∙ (of_append e (l.taken ++ items) (x ∷ []) ∙ (ap (λ (k : List Completion). k ++ of e (x ∷ [])) (h.order e) ∙ posted_more l.posted d e x is));
          within = λ e. dite (ℕ_discrete e d)
              (λ same. subst (λ (k : List Completion). length k ≤ quota_of l.quotas e) (sym (changed_here l.posted d more e same)) (subst (λ (i : ℕ). length more ≤ quota_of l.quotas i) (sym same) long))
              (λ apart. subst (λ (k : List Completion). length k ≤ quota_of l.quotas e) (sym (changed_else l.posted d more e apart)) (h.within e));
          each = each_set (Fits new) views pass w
              (record { some_device = f.some_device; seat = f.seat; put_is = ap (λ (k : List Completion). k ++ c ∷ []) f.put_is ∙ sym (changed_here l.posted d more d refl); quota_is = f.quota_is; room_is = f.room_is })
              (λ j u apart e. fits_put l pass d c f.seat j u apart (h.each j u e));
        },
        refl,
      )

  -- there is room for it
  pub roomy : Learns Delivers pass (Posts d q r put) (λ items. length items ≤ r)
  roomy items views h at =
      let l = h.ledger in
      let f : FitsPost l pass d q r put = h.each pass (Posts d q r put) at in
      let few : length items ≤ sum (0 ∷ l.quotas) = fits_room items (0 ∷ l.quotas)
      (λ e. let within = h.within e in omega (arith, ap length (h.order e), ap length (of_append e l.taken items), length-append (of e l.taken) (of e items))) in
      omega (arith, f.room_is, sum_cons 0 l.quotas)

-- ---- the taker takes

fits_taken : (l : Ledger) (pass : ℕ) (t : List Posted) → pass ≡ l.reader → (j : ℕ) (u : Part) → j ≢ pass → Fits l j u → Fits (record l { taken = t }) j u
fits_taken l pass t mine j Spent apart f = tt
fits_taken l pass t mine j (Posts e q r put) apart f = record { some_device = f.some_device; seat = f.seat; put_is = f.put_is; quota_is = f.quota_is; room_is = f.room_is }
fits_taken l pass t mine j (Takes q m taken k) apart f = absurd (apart (f.reader ∙ sym mine))

module _ (pass : ℕ) (q : List ℕ) (m : ℕ) (t : List Posted) (k : List (List Completion)) where
  pub gets : Pops Delivers pass (Takes q m t k) (λ x w. (w ≡ with_taken (Takes q m t k) x) × (0 < quota_of q x.device))
  gets x items views h at =
      let l = h.ledger in
      let f : FitsTake l pass q m t k = h.each pass (Takes q m t k) at in
      let d = x.device in
      let within = h.within d in
      let all : List Posted = l.taken ++ x ∷ items in
      let there : length (of d all) ≡ length (of d l.taken) + length (of d (x ∷ items)) = ap length (of_append d l.taken (x ∷ items)) ∙ length-append (of d l.taken) (of d (x ∷ items)) in
      let one : length (of d (x ∷ items)) ≡ length (of d items) + 1 = ap length (of_one d x items refl) ∙ omega arith in
      let some_quota : 0 < quota_of l.quotas d = omega (arith, ap length (h.order d)) in
      let new : Ledger = record l { taken = l.taken ++ x ∷ [] } in
      let w : Part = Takes q m (t ++ x ∷ []) k in (
        w,
        record {
          ledger = new;
          order = λ e. ap (of e) (append_assoc l.taken (x ∷ []) items) ∙ h.order e;
          within = h.within;
          each = each_set (Fits new) views pass w
              (record { reader = f.reader; quotas_are = f.quotas_are; taken_is = ap (λ (s : List Posted). s ++ x ∷ []) f.taken_is; later = f.later; back = f.back; count = f.count })
              (λ j u apart e. fits_taken l pass (l.taken ++ x ∷ []) f.reader j u apart (h.each j u e));
        },
        (refl, subst (λ (qs : List ℕ). 0 < quota_of qs d) (sym f.quotas_are) some_quota),
      )

-- ---- the quotas are settled

fits_settled : (l : Ledger) (pass : ℕ) (quotas : List ℕ) → FitsTake l pass [] 0 [] [] → (j : ℕ) (u : Part) → j ≢ pass → Fits l j u → Fits (record l { quotas = quotas }) j u
fits_settled l pass quotas mine j Spent apart f = tt
fits_settled l pass quotas mine j (Posts e q r put) apart f = absurd (some-ne-none j (sym f.seat ∙ (mine.later e f.some_device).0))
fits_settled l pass quotas mine j (Takes q m t k) apart f = absurd (apart (f.reader ∙ sym mine.reader))

pub settles : (pass : ℕ) (quotas : List ℕ) → Forks Delivers pass opening_part (begun quotas opening_part) spent_part
settles pass quotas items views h at =
    let l = h.ledger in
    let f : FitsTake l pass [] 0 [] [] = h.each pass opening_part at in
    let new : Ledger = record l { quotas = quotas } in record {
      ledger = new;
      order = h.order;
      within = λ e. let within : length (l.posted e) ≤ quota_of [] e = subst (λ (qs : List ℕ). length (l.posted e) ≤ quota_of qs e) (sym f.quotas_are) (h.within e) in omega (arith, quota_none e);
      each = each_forked (Fits new) views pass (begun quotas opening_part) spent_part
          (record { reader = f.reader; quotas_are = refl; taken_is = f.taken_is; later = f.later; back = f.back; count = f.count })
          tt
          (λ j u apart e. fits_settled l pass quotas f j u apart (h.each j u e));
    }

-- ---- a pass of a device is made

abbrev seated : Ledger → ℕ → ℕ → Ledger
seated l device pass = record l { seat = changed l.seat device (some pass) }

fits_seated : (l : Ledger) (pass device new : ℕ) → pass ≡ l.reader → l.seat device ≡ none → (j : ℕ) (u : Part) → j ≢ pass → Fits l j u → Fits (seated l device new) j u
fits_seated l pass device new mine free j Spent apart f = tt
fits_seated l pass device new mine free j (Posts e q r put) apart f = record {
  some_device = f.some_device;
  seat = changed_else l.seat device (some new) e (λ same. some-ne-none j (sym f.seat ∙ (ap l.seat same ∙ free))) ∙ f.seat;
  put_is = f.put_is;
  quota_is = f.quota_is;
  room_is = f.room_is;
}
fits_seated l pass device new mine free j (Takes q m t k) apart f = absurd (apart (f.reader ∙ sym mine))

pub deals : (pass : ℕ) (q : List ℕ) (m : ℕ) (t : List Posted) (k : List (List Completion)) → Forks Delivers pass (Takes q m t k) (undealt (Takes q m t k)) (dealt (Takes q m t k))
deals pass q m t k items views h at =
    let l = h.ledger in
    let f : FitsTake l pass q m t k = h.each pass (Takes q m t k) at in
    let left : Part = Takes q (m + 1) t k in
    let right : Part = Posts (m + 1) (quota_of q (m + 1)) (sum q) [] in
    let id = length (set views pass left) in
    let new : Ledger = seated l (m + 1) id in
    let next = f.later (m + 1) (omega arith) in
    let few = f.count in record {
      ledger = new;
      order = h.order;
      within = h.within;
      each = each_forked (Fits new) views pass left right
          (record {
            reader = f.reader;
            quotas_are = f.quotas_are;
            taken_is = f.taken_is;
            later = λ e above. let g = f.later e (omega arith) in (changed_else l.seat (m + 1) (some id) e (λ same. omega arith) ∙ g.0, g.1);
            back = λ i inside. let g = f.back i inside in (changed_else l.seat (m + 1) (some id) (i + 1) (λ same. omega arith) ∙ g.0, g.1);
            count = omega arith;
          })
          (record {
            some_device = omega arith;
            seat = changed_here l.seat (m + 1) (some id) (m + 1) refl;
            put_is = sym next.1;
            quota_is = ap (λ (qs : List ℕ). quota_of qs (m + 1)) f.quotas_are;
            room_is = ap sum f.quotas_are;
          })
          (λ j u apart e. fits_seated l pass (m + 1) id f.reader next.0 j u apart (h.each j u e));
    }

-- ---- the same, of a pass that is known to know this

pub may_post : (n pass d q r : ℕ) (put : List Completion) (v : Part) (x : Posted) → v ≡ Posts d q r put → x.device ≡ d → length put < q
    → Pushes Delivers n pass v x (λ w. w ≡ with_put v x) × Learns Delivers pass v (λ items. length items ≤ room_in v)
may_post n pass d q r put v x knows is less =
    subst (λ (u : Part). Pushes Delivers n pass u x (λ w. w ≡ with_put u x) × Learns Delivers pass u (λ items. length items ≤ room_in u)) (sym knows) (puts n pass d q r put x is less, roomy n pass d q r put x)

pub may_take : (pass : ℕ) (q : List ℕ) (m : ℕ) (t : List Posted) (k : List (List Completion)) (v : Part) → v ≡ Takes q m t k
    → Pops Delivers pass v (λ x w. (w ≡ with_taken v x) × (0 < quota_of (quotas_in v) x.device)) × Learns Delivers pass v (λ _. Unit {0})
may_take pass q m t k v knows =
    subst (λ (u : Part). Pops Delivers pass u (λ x w. (w ≡ with_taken u x) × (0 < quota_of (quotas_in u) x.device)) × Learns Delivers pass u (λ _. Unit {0})) (sym knows) (gets pass q m t k, λ _ _ _ _. tt)

pub may_settle : (pass : ℕ) (quotas : List ℕ) (v : Part) → v ≡ opening_part → Forks Delivers pass v (begun quotas v) spent_part
may_settle pass quotas v knows = subst (λ (u : Part). Forks Delivers pass u (begun quotas u) spent_part) (sym knows) (settles pass quotas)

pub may_deal : (pass : ℕ) (q : List ℕ) (m : ℕ) (t : List Posted) (k : List (List Completion)) (v : Part) → v ≡ Takes q m t k → Forks Delivers pass v (undealt v) (dealt v)
may_deal pass q m t k v knows = subst (λ (u : Part). Forks Delivers pass u (undealt u) (dealt u)) (sym knows) (deals pass q m t k)
