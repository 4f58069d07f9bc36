-- The members of a group as a list, and those of them that get a notice.
use Rattle.std.proofs.Common.{◌≡◌, ℕ, zero, suc, ◌+◌, Bool, true, false, ◌&&◌, List, length, slice_get, Option, None, Some, sym, ap, refl, ◌∙◌, arith, filter, find}
use Rattle.std.specs.List.{range_with_len}
use Rattle.std.specs.Option.{option_map_or}
use Rattle.tp_base.specs.declared.rows.ObjectRow.{ObjectRow}
use Rattle.tp_model.specs.World.{World}
use Rattle.tp_model.specs.Counts.{numbered}
use Rattle.tp_model.specs.Groups.{first_member, gets_notice, has_cancel, is_member, is_member_at, is_object_that, members, numbers_in, objects_that}
use Rattle.tp_model.proofs.Lists.{filter_filter, find_agree}
use Rattle.live_world.proofs.Along.{find_filter, first_found}
use Rattle.live_world.proofs.Walks.{Rises, rises_filter, itself}

range_rises : (first count : ℕ) → Rises itself first (range_with_len first count)
range_rises first zero = tt
range_rises first (suc count) = (omega arith, range_rises (first + 1) count)

pub members_rise : (w : World) (group : ℕ) → Rises itself 1 (members w group)
members_rise w group = rises_filter itself (is_member_at w group) 1 (numbers_in w.objects) (range_rises 1 (length w.objects))

least_member : (w : World) (group : ℕ) → find (λ _. true) (members w group) ≡ first_member w group
least_member w group = find_filter (is_member_at w group) (λ _. true) (numbers_in w.objects) ∙ find_agree (λ n. is_member_at w group n && true) (is_member_at w group) (λ n. and_true (is_member_at w group n)) (numbers_in w.objects)
  where
    and_true : (b : Bool) → (b && true) ≡ b
    and_true true = refl
    and_true false = refl

pub first_is_least : (w : World) (group : ℕ) (next : Option ℕ) → next ≡ first_member w group → next ≡ slice_get (members w group) 0
first_is_least w group next is = is ∙ sym (least_member w group) ∙ first_found (members w group)

-- those that get a notice
pub noticed_members : (group : ℕ) (os : List ObjectRow) → filter (is_object_that (gets_notice group) os) (objects_that (is_member group) os) ≡ objects_that (gets_notice group) os
noticed_members group os = filter_filter (is_object_that (gets_notice group) os) (is_object_that (is_member group) os) (λ n out. of_row (numbered os n) out) (numbers_in os)
  where
    of_row : (o : Option ObjectRow) → option_map_or (is_member group) o false ≡ false → option_map_or (gets_notice group) o false ≡ false
    of_row None out = refl
    of_row (Some row) out = ap (λ b. b && has_cancel row) out
