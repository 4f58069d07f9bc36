-- What the lists of all families are as a callback comes, changes or leaves.
use Rattle.std.proofs.Common.{◌≡◌, ℕ, ◌+◌, ◌<◌, ◌≤◌, Bool, true, false, cond, not, ◌==◌, List, [], ◌∷◌, ◌++◌, Some, filter, find, length, map, if◌then◌else◌, refl, sym, ap, ap₂, subst, ◌∙◌, arith, option_map, eq-eqb, eqb-true, Option}
use Rattle.std.specs.List.{AllByRecursion}
use Rattle.std.proofs.lemmas.Bool.{ne_eqb}
use Rattle.std.proofs.lemmas.List.{map-append}
use Rattle.std.proofs.lemmas.Bool.Decides.{nat_tests}
use Rattle.tp_base.specs.declared.rows.CallbackRow.{CallbackRow}
use Rattle.tp_model.specs.Counts.{has_number}
use Rattle.tp_model.specs.Support.Sound.{IsRising}
use Rattle.tp_model.proofs.Lists.{all_along}
use Rattle.live_callbacks.specs.declared.lists.Lists.{Lists}
use Rattle.live_callbacks.specs.declared.lists.Standing.{Standing}
use Rattle.live_callbacks.specs.Families.{AreSettled, AreSettledInGroup, HaveLists, IsNowhere, IsStanding, StandIn}
use Rattle.live_callbacks.specs.Held.{AreApart, Held, rows_of}
use Rattle.live_callbacks.specs.Lists.{AreListed, IsSettled, Mark, MaySettle, group_of, line_of, lines, mark, marks, object_of}
use Rattle.live_callbacks.proofs.Parts.{Parts, is_held, marks_rise, one_out, one_put, parts}
use Rattle.live_callbacks.proofs.Settled.{IsStep, may_settle, settled}

-- ---- a row that is there

pub record IsAmong (hs : List Held) (b : CallbackRow) : Type 0 where
  pub held : Held
  pub row : held.row ≡ b
  pub found : find (λ (g : Held). g.row.number == b.number) hs ≡ Some held
  pub around : Parts hs held

pub among : (above : ℕ) (hs : List Held) (b : CallbackRow) → IsRising 0 above (rows_of hs) → AreApart hs → find (has_number b.number) (rows_of hs) ≡ Some b → IsAmong hs b
among above hs b rising apart found =
    let is = is_held b hs found in
    let same : is.held.row.number ≡ b.number = ap (λ (c : CallbackRow). c.number) is.row in
    record {
      held = is.held;
      row = is.row;
      found = is.found;
      around = parts 0 above hs is.held rising apart (ap (λ n. find (λ (g : Held). g.row.number == n) hs) same ∙ is.found);
    }

module _ {hs : List Held} {b : CallbackRow} (is : IsAmong hs b) (n : ℕ) (same : n ≡ b.number) where
  number : is.held.row.number ≡ n
  number = ap (λ (c : CallbackRow). c.number) is.row ∙ sym same

  pub key_found : option_map (λ (g : Held). g.key) (find (λ (g : Held). g.row.number == n) hs) ≡ Some is.held.key
  key_found = ap (λ m. option_map (λ (g : Held). g.key) (find (λ (g : Held). g.row.number == m) hs)) same ∙ ap (option_map (λ (g : Held). g.key)) is.found

  pub key_is : (o : Option ℕ) (key : ℕ) → o ≡ option_map (λ (g : Held). g.key) (find (λ (g : Held). g.row.number == n) hs) → o ≡ Some key → key ≡ is.held.key
  key_is o key told some = let both : Some key ≡ Some is.held.key = sym some ∙ told ∙ key_found in cc

  low_fails : AllByRecursion (λ (g : Held). (g.row.number == n) ≡ false) is.around.lo
  low_fails = all_along (λ (g : Held). g.row.number < is.held.row.number) (λ (g : Held). (g.row.number == n) ≡ false) (λ g lt. ne_eqb g.row.number n (λ e. absurd (omega (arith, e, lt, number)))) is.around.lo is.around.low

  high_fails : AllByRecursion (λ (g : Held). (g.row.number == n) ≡ false) is.around.hi
  high_fails = all_along (λ (g : Held). is.held.row.number < g.row.number) (λ (g : Held). (g.row.number == n) ≡ false) (λ g lt. ne_eqb g.row.number n (λ e. absurd (omega (arith, e, lt, number)))) is.around.hi is.around.high

  pub put_among : (r : CallbackRow) → map (λ (g : Held). if g.row.number == n then record { key = g.key; row = r } else g) hs ≡ is.around.lo ++ record { key = is.held.key; row = r } ∷ is.around.hi
  put_among r =
      ap (map (λ (g : Held). if g.row.number == n then record { key = g.key; row = r } else g)) is.around.is
      ∙ one_put (λ (g : Held). g.row.number == n) (λ (g : Held). record { key = g.key; row = r }) is.around.lo is.held is.around.hi low_fails (eq-eqb is.held.row.number n number) high_fails

  -- what a family has of the rows, where the list and the number of the one that is put are those of the one before
  pub marks_put : (line : CallbackRow → ℕ) (r : CallbackRow) → r.number ≡ n → line r ≡ line b → marks line (is.around.lo ++ record { key = is.held.key; row = r } ∷ is.around.hi) ≡ marks line hs
  marks_put line r numbered listed =
      let new : Held = record { key = is.held.key; row = r } in
      let as_before : mark line new ≡ mark line is.held = ap₂ (λ m l. record { key = is.held.key; number = m; list = l }) (numbered ∙ sym number) (listed ∙ sym (ap line is.row)) in
      map-append (mark line) is.around.lo (new ∷ is.around.hi)
      ∙ ap (λ (m : Mark). marks line is.around.lo ++ m ∷ marks line is.around.hi) as_before
      ∙ sym (ap (marks line) is.around.is ∙ map-append (mark line) is.around.lo (is.held ∷ is.around.hi))

  pub out_among : filter (λ (g : Held). not (g.row.number == n)) hs ≡ is.around.lo ++ is.around.hi
  out_among = ap (filter (λ (g : Held). not (g.row.number == n))) is.around.is ∙ one_out (λ (g : Held). g.row.number == n) is.around.lo is.held is.around.hi low_fails (eq-eqb is.held.row.number n number) high_fails

-- ---- the rows alone

pub rows_put : (n : ℕ) (r : CallbackRow) (hs : List Held) → rows_of (map (λ (g : Held). if g.row.number == n then record { key = g.key; row = r } else g) hs) ≡ map (λ c. if c.number == n then r else c) (rows_of hs)
rows_put n r [] = refl
rows_put n r (h ∷ hs) = grind (arith, rows_put n r hs)

pub rows_out : (n : ℕ) (hs : List Held) → rows_of (filter (λ (g : Held). not (g.row.number == n)) hs) ≡ filter (λ c. not (c.number == n)) (rows_of hs)
rows_out n [] = refl
rows_out n (h ∷ hs) = grind (arith, rows_out n hs)

-- ---- how many pass

pub count_more : (p : CallbackRow → Bool) (r : CallbackRow) (cs : List CallbackRow) → length (filter p (cs ++ r ∷ [])) ≡ length (filter p cs) + (if p r then 1 else 0)
count_more p r [] = grind arith
count_more p r (c ∷ cs) = grind (arith, count_more p r cs)

pub count_most : (p : CallbackRow → Bool) (cs : List CallbackRow) → length (filter p cs) ≤ length cs
count_most p [] = omega arith
count_most p (c ∷ cs) = grind (arith, count_most p cs)

module _ (p : CallbackRow → Bool) (next_number : ℕ) (c : CallbackRow) where
  abbrev others : List CallbackRow → List CallbackRow
  others ds = filter (λ x. not (x.number == c.number)) ds

  above : (low : ℕ) (ds : List CallbackRow) → c.number < low → IsRising low next_number ds → others ds ≡ ds
  above low [] lt h = refl
  above low (d ∷ ds) lt h = grind (arith, nat_tests, above (d.number + 1) ds (omega (arith, h.0, lt)) h.1)

  pub count_fewer : (low : ℕ) (ds : List CallbackRow) → IsRising low next_number ds → find (has_number c.number) ds ≡ Some c → length (filter p (others ds)) + (if p c then 1 else 0) ≡ length (filter p ds)
  count_fewer low [] h e = absurd cc
  count_fewer low (d ∷ ds) h e =
      elim (has_number c.number d) as (λ b. has_number c.number d ≡ b → cond b (Some d) (find (has_number c.number) ds) ≡ Some c → length (filter p (cond (not b) (d ∷ others ds) (others ds))) + cond (p c) 1 0 ≡ length (filter p (d ∷ ds))) [
        | true ↦ λ same here.
            let is : p d ≡ p c = ap p cc in
            let rest : others ds ≡ ds = above (d.number + 1) ds (omega (arith, eqb-true d.number c.number same)) h.1 in
            grind (arith, is, rest)
        | false ↦ λ _ later. grind (arith, count_fewer (d.number + 1) ds h.1 later)
      ] refl e

-- ---- all families

pub lists_there : {places : ℕ} {hs : List Held} {all : Lists} → StandIn places hs all → HaveLists all
lists_there k = record { lines_many = k.by_line.many; objects_many = k.by_object.many; groups_many = k.in_group.many }

-- where a key belongs, told for each family alike by its number of lists and by its list of a row
pub record Belongs (all : Lists) (to : Standing) (at : ℕ → (CallbackRow → ℕ) → ℕ) : Type 0 where
  pub line : to.line ≡ at (lines all.pools all.objects) (line_of all.pools all.objects)
  pub object : to.object ≡ at (all.objects + 1) (object_of all.objects)
  pub group : to.group ≡ at (all.groups + 1) (group_of all.groups)
  pub line_within : to.line ≤ lines all.pools all.objects
  pub object_within : to.object ≤ all.objects + 1
  pub group_within : to.group ≤ all.groups + 1

pub of_row : (all : Lists) (to : Standing) (r : CallbackRow) → IsStanding all r to → Belongs all to (λ heads line. line r)
of_row all to r is = record {
  line = is.line;
  object = is.object;
  group = is.group;
  line_within = is.line_within;
  object_within = is.object_within;
  group_within = is.group_within;
}

pub of_none : (all : Lists) (to : Standing) → IsNowhere all to → Belongs all to (λ heads line. heads)
of_none all to is = record {
  line = is.line;
  object = is.object;
  group = is.group;
  line_within = omega (arith, is.line);
  object_within = omega (arith, is.object);
  group_within = omega (arith, is.group);
}

module _ {places : ℕ} {hs : List Held} {all : Lists} (key : ℕ) (to : Standing) (at : ℕ → (CallbackRow → ℕ) → ℕ) (k : StandIn places hs all) (belongs : Belongs all to at) where
  module _ (next_number : ℕ) (rising : IsRising 0 next_number (rows_of hs)) (there : key < places) where
    pub may_line : MaySettle (lines all.pools all.objects) all.lines key to.line
    may_line = may_settle key to.line k.by_line belongs.line_within (marks_rise (line_of all.pools all.objects) 0 next_number hs rising) there

    pub may_object : MaySettle (all.objects + 1) all.outstanding key to.object
    may_object = may_settle key to.object k.by_object belongs.object_within (marks_rise (object_of all.objects) 0 next_number hs rising) there

    pub may_group : MaySettle (all.groups + 1) all.by_group key to.group
    may_group = may_settle key to.group k.in_group belongs.group_within (marks_rise (group_of all.groups) 0 next_number hs rising) there

  module _ (ds : List Held) (n : ℕ) (new : Lists) (step : (heads : ℕ) (line : CallbackRow → ℕ) → IsStep heads (marks line hs) (marks line ds) key n (at heads line)) where
    line_stands : IsSettled (lines all.pools all.objects) all.lines new.lines key to.line n → AreListed (lines all.pools all.objects) places (marks (line_of all.pools all.objects) ds) new.lines
    line_stands done =
        settled key to.line k.by_line belongs.line_within (marks (line_of all.pools all.objects) ds) n new.lines
        (subst (IsStep (lines all.pools all.objects) (marks (line_of all.pools all.objects) hs) (marks (line_of all.pools all.objects) ds) key n) (sym belongs.line) (step (lines all.pools all.objects) (line_of all.pools all.objects)))
        done

    object_stands : IsSettled (all.objects + 1) all.outstanding new.outstanding key to.object n → AreListed (all.objects + 1) places (marks (object_of all.objects) ds) new.outstanding
    object_stands done =
        settled key to.object k.by_object belongs.object_within (marks (object_of all.objects) ds) n new.outstanding
        (subst (IsStep (all.objects + 1) (marks (object_of all.objects) hs) (marks (object_of all.objects) ds) key n) (sym belongs.object) (step (all.objects + 1) (object_of all.objects)))
        done

    pub stand : AreSettled all new key n to → StandIn places ds new
    stand done =
        record {
          lines_fit = rw (done.pools, done.objects) k.lines_fit;
          groups_fit = rw done.groups k.groups_fit;
          by_line = rw (done.pools, done.objects) (line_stands done.by_line);
          by_object = rw done.objects (object_stands done.by_object);
          in_group =
              rw done.groups
              (settled key to.group k.in_group belongs.group_within (marks (group_of all.groups) ds) n new.by_group
              (subst (IsStep (all.groups + 1) (marks (group_of all.groups) hs) (marks (group_of all.groups) ds) key n) (sym belongs.group) (step (all.groups + 1) (group_of all.groups)))
              done.in_group);
        }

    -- where no group changes
    pub stand_in_group : marks (group_of all.groups) ds ≡ marks (group_of all.groups) hs → AreSettledInGroup all new key n to → StandIn places ds new
    stand_in_group same done = record {
      lines_fit = rw (done.pools, done.objects) k.lines_fit;
      groups_fit = rw done.groups k.groups_fit;
      by_line = rw (done.pools, done.objects) (line_stands done.by_line);
      by_object = rw done.objects (object_stands done.by_object);
      in_group = rw (done.groups, done.in_group, same) k.in_group;
    }
