-- What a pump begins with.
use Rattle.std.proofs.Common.{◌≡◌, ℕ, zero, suc, ◌+◌, ◌<◌, ◌≤◌, List, [], ◌∷◌, ◌++◌, length, get_or, sum, take, refl, sym, ap, ◌∙◌, subst, arith, add-one, length-append}
use Rattle.std.proofs.lemmas.List.{length-map, take_all}
use Rattle.std.specs.Global.{Vec}
use Rattle.tp_port.specs.declared.passes.PostPass.{PostPass}
use Rattle.tp_port.specs.declared.port.Port.{Port}
use Rattle.port_facts.specs.declared.Completion.{Completion}
use Rattle.tp_port.specs.Devices.{AreReady}
use Rattle.tp_port.specs.Lists.{quota_of}
use Rattle.port_facts.specs.Interleaved.{listed}
use Rattle.tp_port.specs.Ports.{AreDealt}
use Rattle.tp_port.specs.Pumps.{lists_of, quotas_for}
use Rattle.tp_port.proofs.Lists.{sum_cons}

-- the quotas together are the number of all completions
pub sum_is : (devices : List (Vec Completion)) → sum (quotas_for devices) ≡ length (listed (lists_of devices))
sum_is [] = refl
sum_is (list ∷ devices) = sum_cons (length list.items) (quotas_for devices) ∙ omega (arith, sum_is devices, length-append list.items (listed (lists_of devices)))

-- each list is no longer than all together
pub one_of_all : (devices : List (Vec Completion)) (k : ℕ) (d : Vec Completion) → k < length devices → length (get_or devices k d).items ≤ length (listed (lists_of devices))
one_of_all [] k d inside = absurd (omega arith)
one_of_all (list ∷ devices) zero d inside = omega (arith, length-append list.items (listed (lists_of devices)))
one_of_all (list ∷ devices) (suc k) d inside = omega (arith, length-append list.items (listed (lists_of devices)), one_of_all devices k d (omega arith))

quota_at : (devices : List (Vec Completion)) (k : ℕ) (d : Vec Completion) → k < length devices → get_or (quotas_for devices) k 0 ≡ length (get_or devices k d).items
quota_at [] k d inside = absurd (omega arith)
quota_at (list ∷ devices) zero d inside = refl
quota_at (list ∷ devices) (suc k) d inside = quota_at devices k d (omega arith)

pub quotas_next : (devices : List (Vec Completion)) (k : ℕ) (d : Vec Completion) (quotas after : List ℕ) → k < length devices → quotas ≡ take k (quotas_for devices) → after ≡ quotas ++ length (get_or devices k d).items ∷ []
    → after ≡ take (k + 1) (quotas_for devices)
quotas_next devices k d quotas after inside so is =
    is ∙ (ap (λ (l : List ℕ). l ++ length (get_or devices k d).items ∷ []) so ∙ (one_more devices k inside ∙ ap (λ (n : ℕ). take n (quotas_for devices)) (sym (add-one k))))
  where
    one_more : (l : List (Vec Completion)) (n : ℕ) → n < length l → take n (quotas_for l) ++ length (get_or l n d).items ∷ [] ≡ take (suc n) (quotas_for l)
    one_more [] n less = absurd (omega arith)
    one_more (x ∷ l) zero less = refl
    one_more (x ∷ l) (suc n) less = ap (λ m. length x.items ∷ m) (one_more l n (omega arith))

pub all_quotas : (devices now : List (Vec Completion)) (quotas : List ℕ) (k : ℕ) → now ≡ devices → length now ≤ k → quotas ≡ take k (quotas_for devices) → quotas ≡ quotas_for devices
all_quotas devices now quotas k same all is = is ∙ take_all k (quotas_for devices) (omega (arith, ap length same, length-map devices (λ (list : Vec Completion). length list.items)))

-- an element of the list of devices, as an index gives it
pub element_at : (devices now : List (Vec Completion)) (k : ℕ) (list : Vec Completion) → now ≡ devices → list ≡ get_or now k list → list ≡ get_or devices k list
element_at devices now k list same is = is ∙ ap (λ (l : List (Vec Completion)). get_or l k list) same

pub short_list : (devices now : List (Vec Completion)) (k : ℕ) (list : Vec Completion) → now ≡ devices → list ≡ get_or now k list → k < length now → length list.items ≤ length (listed (lists_of devices))
short_list devices now k list same is inside =
    subst (λ (v : Vec Completion). length v.items ≤ length (listed (lists_of devices))) (sym (element_at devices now k list same is)) (one_of_all devices k list (omega (arith, ap length same)))

pub are_ready : (port : Port) (devices : List (Vec Completion)) (quotas : List ℕ) (posts : List PostPass) → quotas ≡ quotas_for devices → AreDealt port quotas posts → AreReady port devices posts
are_ready port devices quotas posts is dealt =
    let count : length posts ≡ length devices = dealt.count ∙ (ap length is ∙ length-map devices (λ (list : Vec Completion). length list.items)) in record {
      count = count;
      each = λ k d p inside.
          let new = dealt.each k p inside in
          let quota_is : quota_of quotas (k + 1) ≡ length (get_or devices k d).items = ap (quota_of quotas) (add-one k) ∙ (ap (λ (l : List ℕ). get_or l k 0) is ∙ quota_at devices k d (omega (arith, count))) in
          record { at = record { of = new.of; number_is = new.number_is }; quota_is = new.quota_is ∙ quota_is; posted = new.posted };
    }
