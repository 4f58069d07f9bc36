-- What follows a row in a list.
use Rattle.std.proofs.Common.{◌≡◌, ℕ, ◌<◌, ◌==◌, List, filter, find, nat_lt, Option, option_map, ap, ◌∙◌}
use Rattle.std.specs.Prelude.{IfSome}
use Rattle.tp_base.specs.declared.rows.CallbackRow.{CallbackRow}
use Rattle.linked_lists.specs.Linked.{Linked, list_of, owner_of, place_after}
use Rattle.live_callbacks.specs.Held.{AreApart, Held, IsHeldUnder, row_under, rows_of}
use Rattle.live_callbacks.specs.Lists.{AreListed, marks}
use Rattle.live_callbacks.proofs.Found.{is_later, later_row, next_is, owner_is, found_held, found_row}
use Rattle.live_callbacks.proofs.Standing.{IsAmong}

module _
    {heads places : ℕ}
    {hs : List Held}
    {all : Linked}
    {row : CallbackRow}
    (line : CallbackRow → ℕ)
    (list : ℕ)
    (are : AreListed heads places (marks line hs) all)
    (apart : AreApart hs)
    (is : IsAmong hs row)
    (key : ℕ)
    (same : key ≡ is.held.key)
    (own : line row ≡ list)
    (within : list < heads)
  where
    held_own : line is.held.row ≡ list
    held_own = ap line is.row ∙ own

    pub following_owner : owner_of all key ≡ list
    following_owner = ap (λ k. owner_of all k) same ∙ owner_is line hs is.held is.around list held_own are

    module _ (place : Option ℕ) (told : place ≡ place_after key (list_of all (owner_of all key))) where
      place_is : place ≡ option_map (λ (g : Held). g.key) (find (λ g. is_later line hs is.held is.around list held_own g.row) hs)
      place_is =
          told
          ∙ ap (λ s. place_after key (list_of all s)) following_owner
          ∙ ap (λ k. place_after k (list_of all list)) same
          ∙ next_is line hs is.held is.around list held_own are within

      pub following_held : IfSome place (IsHeldUnder hs)
      following_held = found_held hs apart (is_later line hs is.held is.around list held_own) place place_is

      pub following_row : row_under hs place ≡ find (λ c. nat_lt row.number c.number) (filter (λ c. line c == list) (rows_of hs))
      following_row =
          found_row hs apart (is_later line hs is.held is.around list held_own) place place_is
          ∙ later_row line hs is.held is.around list held_own
          ∙ ap (λ (c : CallbackRow). find (λ x. nat_lt c.number x.number) (filter (λ x. line x == list) (rows_of hs))) is.row
