-- Steps of loops that go over a list: what is made so far, and what the rest comes to.
use Rattle.std.proofs.Common.{◌≡◌, Bool, true, false, nat_lt, ltb-false, Some, None, cond, not, filter, take, ap₂, ℕ, suc, ◌+◌, ◌-◌, ◌<◌, ◌≤◌, List, [], ◌∷◌, ◌++◌, length, drop, refl, sym, ap, ◌∙◌, arith}
use Rattle.std.specs.List.{position, position_or_len}
use Rattle.std.specs.Option.{unwrap_or}
use Rattle.std.proofs.Math.ListN.{drop_of_length-le}
use Rattle.std.proofs.Math.Numerals.{one-add}
use Rattle.std.proofs.lemmas.List.{append-nil}
use Rattle.std.proofs.lemmas.List.Sums.{prefix_len-le-length}
use Rattle.tp_base.specs.declared.rows.TimerSetting.{TimerSetting}
use Rattle.tp_base.specs.Timers.{after_expiry, expired as expired_of, expires_before, is_due, set_all_again, with_setting}
use Rattle.tp_model.specs.Sources.{Firing, release_first, release_times}

-- a wait is released
pub released_one : (kernel most i : ℕ) (f : Firing) → i < most → release_times (most - (i + 1)) kernel (release_first kernel f) ≡ release_times (most - i) kernel f
released_one kernel most i f h = let e : most - i ≡ suc (most - (i + 1)) = omega arith in rw e refl

-- the rest is empty
pub all_through : {A B : Type 0} (g : List A → List B) (xs : List A) (ys whole : List B) (i : ℕ) → g [] ≡ [] → length xs ≤ i → ys ++ g (drop i xs) ≡ whole → ys ≡ whole
all_through g xs ys whole i n h e = let d : drop i xs ≡ [] = drop_of_length-le xs h in sym (append-nil ys) ∙ ap (λ v. ys ++ v) (sym (ap g d ∙ n)) ∙ e

pub expired_all : (now : ℕ) (expired settings left all : List TimerSetting) (i : ℕ) → length expired ≤ i → set_all_again now (drop i expired) settings ≡ set_all_again now expired left
    → expired ≡ expired_of now all → left ≡ filter (λ (s : TimerSetting). not (is_due now s)) all → settings ≡ after_expiry now all
expired_all now expired settings left all i h e due kept =
    let d : drop i expired ≡ [] = drop_of_length-le expired h in
    ap (λ v. set_all_again now v settings) (sym d) ∙ e ∙ ap₂ (set_all_again now) due kept

-- ---- a setting's place

pub placed : (s : TimerSetting) (ts : List TimerSetting) → take (position_or_len (expires_before s) ts) ts ++ s ∷ drop (position_or_len (expires_before s) ts) ts ≡ with_setting s ts
placed s [] = refl
placed s (t ∷ ts) = by_test (placed s ts) (expires_before s t)
  where
    by_test : (take (position_or_len (expires_before s) ts) ts ++ s ∷ drop (position_or_len (expires_before s) ts) ts ≡ with_setting s ts) → (b : Bool) → take (cond (not b) (1 + position_or_len (expires_before s) ts) 0) (t ∷ ts) ++ s ∷ drop (cond (not b) (1 + position_or_len (expires_before s) ts) 0) (t ∷ ts) ≡ cond b (s ∷ t ∷ ts) (t ∷ with_setting s ts)
    by_test rest true = refl
    by_test rest false = rw one-add (ap (λ v. t ∷ v) rest)

pub placed_within : (s : TimerSetting) (ts : List TimerSetting) → position_or_len (expires_before s) ts ≤ length ts
placed_within s ts = prefix_len-le-length (λ t. not (expires_before s t)) ts

pub unwrapped : (p : TimerSetting → Bool) (ts : List TimerSetting) → unwrap_or (position p ts) (length ts) ≡ position_or_len p ts
unwrapped p ts = by_test (nat_lt (position_or_len p ts) (length ts)) refl
  where
    by_test : (b : Bool) → nat_lt (position_or_len p ts) (length ts) ≡ b → unwrap_or (cond b (Some (position_or_len p ts)) None) (length ts) ≡ position_or_len p ts
    by_test true e = refl
    by_test false e =
        let most : position_or_len p ts ≤ length ts = prefix_len-le-length (λ t. not (p t)) ts in
        let least : length ts ≤ position_or_len p ts = ltb-false (position_or_len p ts) (length ts) e in
        omega arith
