-- What a worker takes next comes first of what it may take.
use Rattle.std.proofs.Common.{◌≡◌, ℕ, ◌+◌, ◌≤◌, Bool, true, false, cond, ◌&&◌, ◌||◌, ◌==◌, nat_lt, nat_le, List, [], ◌∷◌, ◌++◌, slice_get, Option, Some, None, refl, sym, ap, ap₂, ◌∙◌, subst, find, filter, arith, is_some}
use Rattle.std.proofs.lemmas.Bool.{le-leb}
use Rattle.tp_base.specs.declared.calls.Priority.{Priority}
use Rattle.tp_base.specs.declared.calls.Priority.TheVariants.{High, Normal, Low}
use Rattle.tp_base.specs.declared.rows.CallbackRow.{CallbackRow}
use Rattle.tp_model.specs.World.{World}
use Rattle.tp_model.specs.Counts.{callback_of, has_number, is_open_to, is_high, is_normal, is_low, waiting, next}
use Rattle.tp_model.specs.Next.{rank, comes_first, IsNext, IsNextOrNone}
use Rattle.tp_model.specs.Support.Sound.{IsSound, IsRising}
use Rattle.tp_model.proofs.Callbacks.{found_bounds, kept_found}
use Rattle.tp_model.proofs.Refusals.{both, false_true}

-- the first that is kept has the least number of those that pass
head_least : (p : CallbackRow → Bool) (low next_number : ℕ) (cs : List CallbackRow) (c d : CallbackRow) → IsRising low next_number cs → slice_get (filter p cs) 0 ≡ Some c → find (has_number d.number) cs ≡ Some d → p d ≡ true → c.number ≤ d.number
head_least p low next_number [] c d r e found passes = absurd cc
head_least p low next_number (x ∷ cs) c d r e found passes =
    elim (p x) as (λ b. p x ≡ b → slice_get (cond b (x ∷ filter p cs) (filter p cs)) 0 ≡ Some c → c.number ≤ d.number) [
      | true ↦ λ _ h.
          let same : x ≡ c = cc in
          let from : IsRising x.number next_number (x ∷ cs) = (omega arith, r.1) in
          subst (λ (y : CallbackRow). y.number ≤ d.number) same (found_bounds d.number x.number next_number d (x ∷ cs) from found).0
      | false ↦ λ out h. head_least p (x.number + 1) next_number cs c d r.1 h (behind (has_number d.number x) refl out found) passes
    ] refl e
  where
    behind : (b : Bool) → has_number d.number x ≡ b → p x ≡ false → cond (has_number d.number x) (Some x) (find (has_number d.number) cs) ≡ Some d → find (has_number d.number) cs ≡ Some d
    behind true is out h =
        let here : Some x ≡ Some d = sym (ap (λ t. cond t (Some x) (find (has_number d.number) cs)) is) ∙ h in
        let same : x ≡ d = cc in
        absurd (false_true (sym out ∙ ap p same ∙ passes))
    behind false is out h = sym (ap (λ t. cond t (Some x) (find (has_number d.number) cs)) is) ∙ h

-- where none is kept, none passes
none_kept : (p : CallbackRow → Bool) (cs : List CallbackRow) (k : ℕ) (d : CallbackRow) → slice_get (filter p cs) 0 ≡ None → find (has_number k) cs ≡ Some d → p d ≡ false
none_kept p [] k d e found = absurd cc
none_kept p (x ∷ cs) k d e found =
    elim (p x) as (λ b. p x ≡ b → slice_get (cond b (x ∷ filter p cs) (filter p cs)) 0 ≡ None → p d ≡ false) [
      | true ↦ λ _ h. absurd cc
      | false ↦ λ out h. elim (has_number k x) as (λ b. cond b (Some x) (find (has_number k) cs) ≡ Some d → p d ≡ false) [
        | true ↦ λ f. let same : x ≡ d = cc in ap p (sym same) ∙ out
        | false ↦ λ f. none_kept p cs k d h f
      ] found
    ] refl e

-- the order of two priorities and two numbers
abbrev before : Priority → ℕ → Priority → ℕ → Bool
before p m q n = nat_lt (rank p) (rank q) || ((rank p == rank q) && nat_le m n)

high_first : (p q : Priority) (m n : ℕ) → is_high p ≡ true → (is_high q ≡ true → m ≤ n) → before p m q n ≡ true
high_first High High m n own least = le-leb m n (least refl)
high_first High Normal m n own least = refl
high_first High Low m n own least = refl
high_first Normal q m n own least = absurd (false_true own)
high_first Low q m n own least = absurd (false_true own)

normal_first : (p q : Priority) (m n : ℕ) → is_normal p ≡ true → is_high q ≡ false → (is_normal q ≡ true → m ≤ n) → before p m q n ≡ true
normal_first Normal High m n own other least = absurd (false_true (sym other))
normal_first Normal Normal m n own other least = le-leb m n (least refl)
normal_first Normal Low m n own other least = refl
normal_first High q m n own other least = absurd (false_true own)
normal_first Low q m n own other least = absurd (false_true own)

low_first : (p q : Priority) (m n : ℕ) → is_low p ≡ true → is_high q ≡ false → is_normal q ≡ false → (is_low q ≡ true → m ≤ n) → before p m q n ≡ true
low_first Low High m n own high normal least = absurd (false_true (sym high))
low_first Low Normal m n own high normal least = absurd (false_true (sym normal))
low_first Low Low m n own high normal least = le-leb m n (least refl)
low_first High q m n own high normal least = absurd (false_true own)
low_first Normal q m n own high normal least = absurd (false_true own)

none_of_all : (q : Priority) → is_high q ≡ false → is_normal q ≡ false → is_low q ≡ false → ⊥
none_of_all High h n l = false_true (sym h)
none_of_all Normal h n l = false_true (sym n)
none_of_all Low h n l = false_true (sym l)

module _ (next_number : ℕ) (w : World) (pool : ℕ) (persistent : Bool) (s : IsSound next_number w) where
  kept_first : (of : Priority → Bool) (c : CallbackRow) → slice_get (waiting w pool persistent of) 0 ≡ Some c → (callback_of w c.number ≡ Some c) × ((is_open_to w pool persistent c && of c.priority) ≡ true)
  kept_first of c e = kept_found (λ x. is_open_to w pool persistent x && of x.priority) 1 next_number w.callbacks 0 c s.numbers e

  least_of : (of : Priority → Bool) (c d : CallbackRow) → slice_get (waiting w pool persistent of) 0 ≡ Some c → callback_of w d.number ≡ Some d → is_open_to w pool persistent d ≡ true → of d.priority ≡ true → c.number ≤ d.number
  least_of of c d e found may own = head_least (λ x. is_open_to w pool persistent x && of x.priority) 1 next_number w.callbacks c d s.numbers e found (ap₂ (λ a b. a && b) may own)

  none_of : (of : Priority → Bool) (d : CallbackRow) → slice_get (waiting w pool persistent of) 0 ≡ None → callback_of w d.number ≡ Some d → is_open_to w pool persistent d ≡ true → of d.priority ≡ false
  none_of of d none found may = sym (ap (λ b. b && of d.priority) may) ∙ none_kept (λ c. is_open_to w pool persistent c && of c.priority) w.callbacks d.number d none found

  is_next : (of : Priority → Bool) (c : CallbackRow) → slice_get (waiting w pool persistent of) 0 ≡ Some c
      → ((d : CallbackRow) → callback_of w d.number ≡ Some d → is_open_to w pool persistent d ≡ true → of c.priority ≡ true → comes_first c d ≡ true) → IsNext w pool persistent c
  is_next of c e first =
      let here = kept_first of c e in
      let apart = both (is_open_to w pool persistent c) (of c.priority) here.1 in
      record { found = here.0; open_to = apart.0; first = λ d found may. first d found may apart.1 }

  of_high : (o : Option CallbackRow) → slice_get (waiting w pool persistent is_high) 0 ≡ o → is_some o ≡ true → IsNextOrNone w pool persistent o
  of_high None e there = absurd (false_true there)
  of_high (Some c) e there = is_next is_high c e (λ d found may own. high_first c.priority d.priority c.number d.number own (least_of is_high c d e found may))

  of_normal : (o : Option CallbackRow) → slice_get (waiting w pool persistent is_high) 0 ≡ None → slice_get (waiting w pool persistent is_normal) 0 ≡ o → is_some o ≡ true → IsNextOrNone w pool persistent o
  of_normal None none e there = absurd (false_true there)
  of_normal (Some c) none e there =
      is_next is_normal c e (λ d found may own. normal_first c.priority d.priority c.number d.number own (none_of is_high d none found may) (least_of is_normal c d e found may))

  of_low : (o : Option CallbackRow) → slice_get (waiting w pool persistent is_high) 0 ≡ None → slice_get (waiting w pool persistent is_normal) 0 ≡ None → slice_get (waiting w pool persistent is_low) 0 ≡ o → IsNextOrNone w pool persistent o
  of_low None none also e = λ d found may. none_of_all d.priority (none_of is_high d none found may) (none_of is_normal d also found may) (none_of is_low d e found may)
  of_low (Some c) none also e =
      is_next is_low c e (λ d found may own. low_first c.priority d.priority c.number d.number own (none_of is_high d none found may) (none_of is_normal d also found may) (least_of is_low c d e found may))

  of_queue : (hs ns ls : List CallbackRow) → waiting w pool persistent is_high ≡ hs → waiting w pool persistent is_normal ≡ ns → waiting w pool persistent is_low ≡ ls → (o : Option CallbackRow) → slice_get (hs ++ ns ++ ls) 0 ≡ o → IsNextOrNone w pool persistent o
  of_queue (h ∷ hs) ns ls eh en el o e = of_high o (ap (λ l. slice_get l 0) eh ∙ e) (ap is_some (sym e))
  of_queue [] (n ∷ ns) ls eh en el o e = of_normal o (ap (λ l. slice_get l 0) eh) (ap (λ l. slice_get l 0) en ∙ e) (ap is_some (sym e))
  of_queue [] [] ls eh en el o e = of_low o (ap (λ l. slice_get l 0) eh) (ap (λ l. slice_get l 0) en) (ap (λ l. slice_get l 0) el ∙ e)

  pub next_first : IsNextOrNone w pool persistent (next w pool persistent)
  next_first = of_queue (waiting w pool persistent is_high) (waiting w pool persistent is_normal) (waiting w pool persistent is_low) refl refl refl (next w pool persistent) refl
