-- Boards whose workers change places, and boards whose workers are in an order of their own.
use Rattle.std.specs.Prelude.{◌≡◌, ℕ, ◌+◌, ◌*◌, ◌/◌, ◌%◌, ◌<◌, ◌==◌, ◌&&◌, nat_lt, Bool, List, [], ◌∷◌, length, fold, if◌then◌else◌}
use Rattle.std.specs.List.{list_any}
use Rattle.tp_base.specs.declared.answers.Entry.{Entry}
use Rattle.tp_base.specs.declared.ids.Who.{Who}
use Rattle.tp_base.specs.declared.limits.Limits.{Limits}
use Rattle.part_places.specs.declared.place.Place.{Place}
use Rattle.renamed_worlds.specs.Exchanged.{exchanged, exchanged_place, exchanged_rows, exchanged_who}
use Rattle.renamed_worlds.specs.Ordered.{order_of}
use Rattle.tp_explore.specs.declared.noted.Use.{Use}
use Rattle.tp_explore.specs.Boards.{Board}
use Rattle.tp_explore.specs.Keys.{board_code}
use Rattle.tp_explore.specs.Noted.{Noted, is_use, is_use_below, with_one}

-- ---- what is kept where two workers of neighbouring numbers change places

abbrev pub exchanged_use : ℕ → Use → Use
exchanged_use at u = record u { who = exchanged_who at u.who }

-- one use more, by the other worker
abbrev pub with_exchanged : ℕ → List Use → Use → List Use
with_exchanged at uses u = with_one is_use_below (exchanged_use at u) uses

-- they rise again
abbrev pub exchanged_uses : ℕ → List Use → List Use
exchanged_uses at uses = fold (with_exchanged at) [] uses

abbrev pub exchanged_noted : ℕ → Noted → Noted
exchanged_noted at noted = record noted { held = exchanged_uses at noted.held; leaving = exchanged_uses at noted.leaving }

abbrev pub exchanged_board : Limits → Board → ℕ → Board
exchanged_board limits b at = record {
  world = exchanged at b.world;
  made = b.made;
  places = exchanged_rows (limits.clients + at) b.places;
  noted = exchanged_noted at b.noted;
}

-- ---- one exchange after another

abbrev pub rearranged_places : Limits → List ℕ → List Place → List Place
rearranged_places limits order places = fold (λ (ps : List Place) (at : ℕ). exchanged_rows (limits.clients + at) ps) places order

abbrev pub rearranged_noted : List ℕ → Noted → Noted
rearranged_noted order noted = fold (λ (n : Noted) (at : ℕ). exchanged_noted at n) noted order

abbrev pub rearranged_board : Limits → List ℕ → Board → Board
rearranged_board limits order b = fold (exchanged_board limits) b order

-- ---- workers in order

-- it has a client, which tells who has a turn, and a row and a place for each actor, as all boards of a search have
abbrev pub is_whole : Limits → Board → Bool
is_whole limits b = nat_lt 0 limits.clients && ((length b.world.workers == limits.workers) && (length b.places == limits.clients + limits.workers))

-- the exchanges that bring its workers in order
abbrev pub order_in : Limits → Board → List ℕ
order_in limits b = if is_whole limits b then order_of b.world.workers else []

abbrev pub in_order : Limits → Board → Board
in_order limits b = rearranged_board limits (order_in limits b) b

-- boards that differ in which worker is which have one key
abbrev pub key_in_order : Limits → Board → List ℕ
key_in_order limits b = board_code (in_order limits b)

-- ---- boards that are alike up to which worker is which

-- the move of the other worker
abbrev pub exchanged_by : Limits → ℕ → ℕ → ℕ
exchanged_by limits at by = exchanged_place (limits.clients + at) (by / 2) * 2 + by % 2

abbrev pub exchanged_entry : ℕ → Entry → Entry
exchanged_entry at e = record e { who = exchanged_who at e.who }

-- the same uses but for their actors, in whatever order
abbrev pub AreExchangedUses : ℕ → List Use → List Use → Type 0
AreExchangedUses at uses others = (who : Who) (memory : ℕ) → list_any (is_use (exchanged_who at who) memory) others ≡ list_any (is_use who memory) uses

-- the same is noted but for the actors of uses
pub record IsNotedAlike (at : ℕ) (noted other : Noted) : Type 0 where
  pub freed : other.freed ≡ noted.freed
  pub quiet : other.quiet ≡ noted.quiet
  pub lines : other.lines ≡ noted.lines
  pub held : AreExchangedUses at noted.held other.held
  pub leaving : AreExchangedUses at noted.leaving other.leaving

pub record AreExchanged (limits : Limits) (at : ℕ) (b c : Board) : Type 0 where
  pub client : 0 < limits.clients
  pub workers : at + 1 < limits.workers
  pub rows : length b.world.workers ≡ limits.workers
  pub count : length b.places ≡ limits.clients + limits.workers
  pub world : c.world ≡ exchanged at b.world
  pub made : c.made ≡ b.made
  pub places : c.places ≡ exchanged_rows (limits.clients + at) b.places
  pub noted : IsNotedAlike at b.noted c.noted

-- such exchanges, one after another
abbrev pub AreAlong : Limits → List ℕ → Board → Board → Type 0
AreAlong limits [] b c = b ≡ c
AreAlong limits (at ∷ ats) b c = (m : Board) × AreExchanged limits at b m × AreAlong limits ats m c

abbrev pub AreLike : Limits → Board → Board → Type 0
AreLike limits b c = (ats : List ℕ) × AreAlong limits ats b c
