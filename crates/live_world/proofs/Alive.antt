-- Callbacks that live, as they change.
use Rattle.std.proofs.Common.{◌≡◌, true, false, cond, not, ◌==◌, [], ◌∷◌, ◌++◌, sym, ap, ap₂, ◌∙◌, subst, filter}
use Rattle.std.specs.List.{AllByRecursion}
use Rattle.std.proofs.lemmas.List.Elements.{filter-append}
use Rattle.tp_base.specs.declared.limits.Limits.{Limits}
use Rattle.tp_base.specs.declared.rows.CallbackRow.{CallbackRow}
use Rattle.live_callbacks.specs.Callbacks.{Callbacks}
use Rattle.tp_model.specs.Counts.{has_number}
use Rattle.tp_model.specs.Changes.{replaced}
use Rattle.tp_model.specs.Support.Remembered.{lives}
use Rattle.tp_model.proofs.Lists.{all_map, filter_filter}
use Rattle.tp_model.proofs.Callbacks.{filter_replaced_out}
use Rattle.live_world.specs.Invariant.{AreLive}
use Rattle.live_world.proofs.Lists.{filter_all, all_pass}

-- a callback is made
pub alive_more : {limits : Limits} (callbacks : Callbacks) (c : CallbackRow) → lives c ≡ true → AreLive limits callbacks → AreLive limits (record callbacks { rows = callbacks.rows ++ c ∷ [] })
alive_more callbacks c here k =
    record {
      slot_limit = k.slot_limit;
      pool_limit = k.pool_limit;
      object_limit = k.object_limit;
      live = filter-append lives callbacks.rows (c ∷ []) ∙ ap₂ (λ xs b. xs ++ cond b (c ∷ []) []) k.live here;
    }

-- a row gets the place of another
pub alive_replaced : {limits : Limits} (callbacks : Callbacks) (r : CallbackRow) → lives r ≡ true → AreLive limits callbacks → AreLive limits (record callbacks { rows = replaced r callbacks.rows })
alive_replaced callbacks r here k =
    let all : AllByRecursion (λ x. lives x ≡ true) callbacks.rows = subst (λ xs. AllByRecursion (λ x. lives x ≡ true) xs) k.live (all_pass lives callbacks.rows) in
    record {
      slot_limit = k.slot_limit;
      pool_limit = k.pool_limit;
      object_limit = k.object_limit;
      live = filter_all lives (replaced r callbacks.rows) (all_map (λ x. lives x ≡ true) (λ c. cond (has_number r.number c) r c) (λ c h. elim (has_number r.number c) as (λ b. lives (cond b r c) ≡ true) [ true ↦ here | false ↦ h ]) callbacks.rows all);
    }

-- the rows without that of a callback which is over
pub removed_rows : {limits : Limits} (callbacks : Callbacks) (r : CallbackRow) → lives r ≡ false → AreLive limits callbacks → filter (λ (x : CallbackRow). not (x.number == r.number)) callbacks.rows ≡ filter lives (replaced r callbacks.rows)
removed_rows callbacks r over k = sym (filter_replaced_out lives r callbacks.rows over ∙ ap (filter (λ (x : CallbackRow). not (has_number r.number x))) k.live)

pub alive_less : {limits : Limits} (callbacks : Callbacks) (r : CallbackRow) → lives r ≡ false → AreLive limits callbacks → AreLive limits (record callbacks { rows = filter (λ (x : CallbackRow). not (x.number == r.number)) callbacks.rows })
alive_less callbacks r over k =
    let rows_now = removed_rows callbacks r over k in
    record {
      slot_limit = k.slot_limit;
      pool_limit = k.pool_limit;
      object_limit = k.object_limit;
      live = ap (filter lives) rows_now ∙ filter_filter lives lives (λ _ e. e) (replaced r callbacks.rows) ∙ sym rows_now;
    }
