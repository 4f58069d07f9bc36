-- The operations of a set-up, each listed once in the order of their numbers, may be completed.
use Rattle.std.proofs.Common.{◌≡◌, ℕ, zero, suc, ◌+◌, ◌<◌, ◌≤◌, eqb, false, true, List, length, get_or, is_some, sym, ap, subst, arith, ne_eqb}
use Rattle.std.proofs.lemmas.Option.{slice_get-get_or}
use Rattle.std.specs.List.{range_with_len, AllByRecursion, IsDistinct}
use Rattle.tp_base.specs.declared.ids.ObjectId.{ObjectId}
use Rattle.tp_base.specs.declared.limits.Limits.{Limits}
use Rattle.tp_model.specs.Calls.Io.{issued_of}
use Rattle.tp_model.specs.World.{World}
use Rattle.recorded.specs.Recordings.{world_behind}
use Rattle.port_facts.specs.Interleaved.{AreInOrder, AreListed}
use Rattle.port_facts.specs.SetUp.{behind_set_up, IsSetUp}
use Rattle.port_facts.specs.declared.Completion.{Completion}

all_range : (P : ℕ → Type 0) (from count : ℕ) → ((n : ℕ) → from ≤ n → n < from + count → P n) → AllByRecursion P (range_with_len from count)
all_range P from zero each = tt
all_range P from (suc count) each = (each from (omega arith) (omega arith), all_range P (from + 1) count (λ n above below. each n (omega (arith, above)) (omega (arith, below))))

distinct_range : (from count : ℕ) → IsDistinct eqb (range_with_len from count)
unfolding IsDistinct
distinct_range from zero = tt
distinct_range from (suc count) = (all_range (λ n. eqb from n ≡ false) (from + 1) count (λ n above below. ne_eqb from n (λ e. omega (arith, e, above))), distinct_range (from + 1) count)

pub are_listed : (limits : Limits) (capacity count : ℕ) (objects : List ObjectId) → IsSetUp limits capacity count objects → (devices : List (List Completion)) → length devices + 1 ≡ limits.clients → AreInOrder (length objects) devices
    → AreListed (world_behind (behind_set_up limits capacity count objects)) devices
are_listed limits capacity count objects s devices clients is =
    record {
      clients = λ client above below. s.clients client above (omega (arith, below, clients));
      issued = subst (AllByRecursion (λ n. is_some (issued_of w n) ≡ true)) (sym is) (all_range (λ n. is_some (issued_of w n) ≡ true) 1 (length objects) each);
      distinct = subst (IsDistinct eqb) (sym is) (distinct_range 1 (length objects));
    }
  where
    w : World
    w = world_behind (behind_set_up limits capacity count objects)

    no_object : ObjectId
    no_object = record { 0 = 0 }

    each : (n : ℕ) → 1 ≤ n → n < 1 + length objects → is_some (issued_of w n) ≡ true
    each zero above below = absurd (omega (arith, above))
    each (suc i) above below =
        let o = s.operations i (get_or objects i no_object) (slice_get-get_or objects i no_object (omega (arith, below))) in
        subst (λ n. is_some (issued_of w n) ≡ true) (omega arith) (ap is_some o.issued)
