-- Lists of completions by device, and functions of a number that are changed in one place.
use Rattle.std.proofs.Common.{◌≡◌, ◌≢◌, ℕ, zero, suc, ◌+◌, ◌-◌, ◌<◌, ◌≤◌, Bool, cond, filter, List, [], ◌∷◌, ◌++◌, if◌then◌else◌, length, map, get_or, sum, refl, sym, ap, ◌∙◌, subst, eq-eqb, ne_eqb, arith}
use Rattle.std.proofs.lemmas.List.Sums.{sum_by-cons}
use mathlib.Core.Logic.{dite}
use native.Mathlib.Decide.{ℕ_discrete}
use Rattle.std.specs.Prelude.{nat_eq}
use Rattle.port_facts.specs.declared.Completion.{Completion}
use Rattle.port_facts.specs.declared.Posted.{Posted}
use Rattle.tp_port.specs.Lists.{quota_of}
use Rattle.port_facts.specs.Interleaved.{of}

-- ---- a function that has another value in one place

abbrev pub changed : {A : Type 0} → (ℕ → A) → ℕ → A → ℕ → A
changed f n a m = if nat_eq m n then a else f m

module _ {A : Type 0} (f : ℕ → A) (n : ℕ) (a : A) (m : ℕ) where
  pub changed_here : m ≡ n → changed f n a m ≡ a
  changed_here same = ap (λ (b : Bool). if b then a else f m) (eq-eqb m n same)

  pub changed_else : m ≢ n → changed f n a m ≡ f m
  changed_else apart = ap (λ (b : Bool). if b then a else f m) (ne_eqb m n apart)

  pub changed_same : f m ≡ a → changed f n a m ≡ a
  changed_same is = dite (ℕ_discrete m n) changed_here (λ apart. changed_else apart ∙ is)

-- ---- the completions of one device

abbrev completion_in : Posted → Completion
completion_in x = x.completion

abbrev is_of : ℕ → Posted → Bool
is_of device x = nat_eq x.device device

pub of_one : (device : ℕ) (x : Posted) (posted : List Posted) → x.device ≡ device → of device (x ∷ posted) ≡ x.completion ∷ of device posted
of_one device x posted same = ap (λ (b : Bool). map completion_in (cond b (x ∷ filter (is_of device) posted) (filter (is_of device) posted))) (eq-eqb x.device device same)

pub of_other : (device : ℕ) (x : Posted) (posted : List Posted) → x.device ≢ device → of device (x ∷ posted) ≡ of device posted
of_other device x posted apart = ap (λ (b : Bool). map completion_in (cond b (x ∷ filter (is_of device) posted) (filter (is_of device) posted))) (ne_eqb x.device device apart)

pub of_append : (device : ℕ) (posted more : List Posted) → of device (posted ++ more) ≡ of device posted ++ of device more
of_append device [] more = refl
of_append device (x ∷ posted) more =
    dite (ℕ_discrete x.device device)
    (λ same. of_one device x (posted ++ more) same ∙ (ap (λ l. x.completion ∷ l) (of_append device posted more) ∙ ap (λ (l : List Completion). l ++ of device more) (sym (of_one device x posted same))))
    (λ apart. of_other device x (posted ++ more) apart ∙ (of_append device posted more ∙ ap (λ (l : List Completion). l ++ of device more) (sym (of_other device x posted apart))))

-- ---- quotas

pub quota_none : (device : ℕ) → quota_of [] device ≡ 0
quota_none zero = refl
quota_none (suc device) = refl

-- one quota is lower by one
abbrev lower : List ℕ → ℕ → List ℕ
lower [] k = []
lower (q ∷ quotas) zero = (q - 1) ∷ quotas
lower (q ∷ quotas) (suc k) = q ∷ lower quotas k

lower_here : (quotas : List ℕ) (k : ℕ) → 0 < get_or quotas k 0 → get_or (lower quotas k) k 0 + 1 ≡ get_or quotas k 0
lower_here [] k some_left = absurd (omega arith)
lower_here (q ∷ quotas) zero some_left = omega arith
lower_here (q ∷ quotas) (suc k) some_left = lower_here quotas k some_left

lower_else : (quotas : List ℕ) (k j : ℕ) → j ≢ k → get_or (lower quotas k) j 0 ≡ get_or quotas j 0
lower_else [] k j apart = refl
lower_else (q ∷ quotas) zero zero apart = absurd (apart refl)
lower_else (q ∷ quotas) zero (suc j) apart = refl
lower_else (q ∷ quotas) (suc k) zero apart = refl
lower_else (q ∷ quotas) (suc k) (suc j) apart = lower_else quotas k j (λ same. apart (ap suc same))

pub sum_cons : (q : ℕ) (quotas : List ℕ) → sum (q ∷ quotas) ≡ q + sum quotas
sum_cons q quotas = sum_by-cons (λ (n : ℕ). n) q quotas

lower_sum : (quotas : List ℕ) (k : ℕ) → 0 < get_or quotas k 0 → sum (lower quotas k) + 1 ≡ sum quotas
lower_sum [] k some_left = absurd (omega arith)
lower_sum (q ∷ quotas) zero some_left = omega (arith, sum_cons q quotas, sum_cons (q - 1) quotas)
lower_sum (q ∷ quotas) (suc k) some_left = omega (arith, sum_cons q quotas, sum_cons q (lower quotas k), lower_sum quotas k some_left)

-- where each device keeps to its quota, all together do
pub fits_room : (items : List Posted) (quotas : List ℕ) → ((device : ℕ) → length (of device items) ≤ get_or quotas device 0) → length items ≤ sum quotas
fits_room [] quotas fits = omega arith
fits_room (x ∷ items) quotas fits =
    let d = x.device in
    let one : suc (length (of d items)) ≤ get_or quotas d 0 = subst (λ (l : List Completion). length l ≤ get_or quotas d 0) (of_one d x items refl) (fits d) in
    let some_left : 0 < get_or quotas d 0 = omega arith in
    let rest : length items ≤ sum (lower quotas d) = fits_room items (lower quotas d)
    (λ e. dite (ℕ_discrete e d)
    (λ same. subst (λ (k : ℕ). length (of k items) ≤ get_or (lower quotas d) k 0) (sym same) (omega (arith, lower_here quotas d some_left)))
    (λ apart.
    let one_less : length (of e items) ≤ get_or quotas e 0 = subst (λ (l : List Completion). length l ≤ get_or quotas e 0) (of_other e x items (λ same. apart (sym same))) (fits e) in
    subst (λ (n : ℕ). length (of e items) ≤ n) (sym (lower_else quotas d e apart)) one_less)) in
    omega (arith, lower_sum quotas d some_left)
