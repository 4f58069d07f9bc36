-- The callbacks above a number, as they are gone along by rising number.
use Rattle.std.proofs.Common.{◌≡◌, ℕ, ◌+◌, ◌<◌, Bool, true, false, cond, ◌&&◌, ◌||◌, List, [], ◌∷◌, length, nat_lt, Some, None, refl, sym, ap, ◌∙◌, arith, filter, find, lt-ltb, ltb-true}
use Rattle.std.specs.List.{list_any}
use Rattle.std.proofs.lemmas.Bool.{le-ltb, ltb-false}
use Rattle.tp_base.specs.declared.rows.CallbackRow.{CallbackRow}
use Rattle.tp_model.specs.Counts.{is_live}
use Rattle.tp_model.specs.Support.Remembered.{lives}
use Rattle.tp_model.specs.Support.Sound.{IsRising}
use Rattle.tp_model.proofs.Lists.{find_passes}

abbrev pub above : ℕ → List CallbackRow → List CallbackRow
above n cs = filter (λ (c : CallbackRow). nat_lt n c.number) cs

-- all of those from a greater number on
pub all_above : (n low next_number : ℕ) (cs : List CallbackRow) → n < low → IsRising low next_number cs → above n cs ≡ cs
all_above n low next_number [] less rising = refl
all_above n low next_number (c ∷ cs) less rising =
    ap (λ b. cond b (c ∷ above n cs) (above n cs)) (lt-ltb n c.number (omega (arith, less, rising.0)))
    ∙ ap (λ ds. c ∷ ds) (all_above n (c.number + 1) next_number cs (omega (arith, less, rising.0)) rising.1)

-- the first of them, and those above it
pub first_above : (n low next_number : ℕ) (cs : List CallbackRow) (c : CallbackRow) → IsRising low next_number cs → find (λ (x : CallbackRow). nat_lt n x.number) cs ≡ Some c → above n cs ≡ c ∷ above c.number cs
first_above n low next_number [] c rising is = absurd cc
first_above n low next_number (d ∷ ds) c rising is =
    elim (nat_lt n d.number) as (λ b. nat_lt n d.number ≡ b → cond b (Some d) (find (λ (x : CallbackRow). nat_lt n x.number) ds) ≡ Some c
    → cond b (d ∷ above n ds) (above n ds) ≡ c ∷ above c.number (d ∷ ds)) [
      | true ↦ λ e found.
          let same : d ≡ c = cc in
          ap (λ xs. d ∷ xs) (all_above n (d.number + 1) next_number ds (omega (arith, ltb-true n d.number e)) rising.1 ∙ sym (all_above d.number (d.number + 1) next_number ds (omega arith) rising.1)
          ∙ sym (ap (λ b. cond b (d ∷ above d.number ds) (above d.number ds)) (le-ltb d.number d.number (omega arith))))
          ∙ ap (λ x. x ∷ above x.number (d ∷ ds)) same
      | false ↦ λ e found.
          let more : n < c.number = ltb-true n c.number (find_passes (λ (x : CallbackRow). nat_lt n x.number) c ds found) in
          first_above n (d.number + 1) next_number ds c rising.1 found
          ∙ ap (λ xs. c ∷ xs) (sym (ap (λ b. cond b (d ∷ above c.number ds) (above c.number ds)) (le-ltb c.number d.number (omega (arith, more, ltb-false n d.number e)))))
    ] refl is

-- or none
pub none_above : (n : ℕ) (cs : List CallbackRow) → find (λ (x : CallbackRow). nat_lt n x.number) cs ≡ None → above n cs ≡ []
none_above n [] is = refl
none_above n (c ∷ cs) is =
    elim (nat_lt n c.number) as (λ b. cond b (Some c) (find (λ (x : CallbackRow). nat_lt n x.number) cs) ≡ None → cond b (c ∷ above n cs) (above n cs) ≡ []) [
      | true ↦ λ found. absurd cc
      | false ↦ λ found. none_above n cs found
    ] is

-- so fewer are left behind it
pub fewer_above : (n next_number : ℕ) (cs : List CallbackRow) (c : CallbackRow) → IsRising 1 next_number cs → find (λ (x : CallbackRow). nat_lt n x.number) cs ≡ Some c → length (above c.number cs) < length (above n cs)
fewer_above n next_number cs c rising is = omega (arith, ap length (first_above n 1 next_number cs c rising is))

-- ---- whether one of them passes a test

-- the test is passed by none that was gone past
abbrev pub IsPassed : (CallbackRow → Bool) → ℕ → List CallbackRow → Type 0
IsPassed t n cs = list_any t (above n cs) ≡ list_any t cs

pub passed_none : (t : CallbackRow → Bool) (next_number : ℕ) (cs : List CallbackRow) → IsRising 1 next_number cs → IsPassed t 0 cs
passed_none t next_number cs rising = ap (list_any t) (all_above 0 1 next_number cs (omega arith) rising)

-- the next one passes it, or is gone past too
pub record Looks (t : CallbackRow → Bool) (cs : List CallbackRow) (c : CallbackRow) : Type 0 where
  pub passes : t c ≡ true → list_any t cs ≡ true
  pub others : t c ≡ false → IsPassed t c.number cs

pub looks : (t : CallbackRow → Bool) (n next_number : ℕ) (cs : List CallbackRow) (c : CallbackRow) → IsRising 1 next_number cs → find (λ (x : CallbackRow). nat_lt n x.number) cs ≡ Some c → IsPassed t n cs → Looks t cs c
looks t n next_number cs c rising is passed =
    let here : (t c || list_any t (above c.number cs)) ≡ list_any t cs = sym (ap (list_any t) (first_above n 1 next_number cs c rising is)) ∙ passed in
    record {
      passes = λ e. sym here ∙ ap (λ b. b || list_any t (above c.number cs)) e;
      others = λ e. ap (λ b. b || list_any t (above c.number cs)) (sym e) ∙ here;
    }

-- what is kept lives
pub all_live : (t : CallbackRow → Bool) (cs : List CallbackRow) → filter lives cs ≡ cs → list_any t cs ≡ list_any (λ c. is_live c.status && t c) cs
all_live t cs living = ap (list_any t) (sym living) ∙ each cs
  where
    each : (ds : List CallbackRow) → list_any t (filter lives ds) ≡ list_any (λ c. is_live c.status && t c) ds
    each [] = refl
    each (d ∷ ds) =
        elim (lives d) as (λ b. list_any t (cond b (d ∷ filter lives ds) (filter lives ds)) ≡ ((b && t d) || list_any (λ (c : CallbackRow). is_live c.status && t c) ds)) [
          | true ↦ ap (λ b. t d || b) (each ds)
          | false ↦ each ds
        ]
