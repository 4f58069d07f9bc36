-- What the marks of a script leave behind. Each list rises, and has nothing twice: the order of what happened is in none.
use Rattle.std.specs.Prelude.{ℕ, Bool, true, false, not, ◌&&◌, ◌||◌, ◌==◌, nat_lt, List, [], ◌∷◌, if◌then◌else◌}
use Rattle.std.specs.List.{filter, list_any}
use Rattle.tp_base.specs.Actors.{is_same_actor}
use Rattle.tp_base.specs.declared.ids.Who.{Who}
use Rattle.tp_base.specs.declared.ids.Who.TheVariants.{Client, Worker}
use Rattle.tp_base.specs.declared.rows.WaitTarget.{WaitTarget}
use Rattle.tp_base.specs.declared.rows.WaitTarget.TheVariants.{Object, Group, Kernel}
use Rattle.tp_explore.specs.declared.noted.Hush.{Hush}
use Rattle.tp_explore.specs.declared.noted.Use.{Use}

pub record Noted : Type 0 where
  -- the memories that were freed
  pub freed : List ℕ
  -- the uses that were begun and not ended: those that their parts go on with, and those that end with their actor's next entry
  pub held : List Use
  pub leaving : List Use
  -- of what no callback may run any more, and which line says so
  pub quiet : List Hush
  -- the lines that made the objects, in the order of their numbers
  pub lines : List ℕ

abbrev pub nothing_noted : Noted
nothing_noted = record { freed = []; held = []; leaving = []; quiet = []; lines = [] }

-- ---- lists that rise

-- with one more, unless it is there
abbrev pub with_one : {X : Type 0} → (X → X → Bool) → X → List X → List X
with_one below x [] = x ∷ []
with_one below x (y ∷ ys) = if below x y then x ∷ y ∷ ys else (if below y x then y ∷ with_one below x ys else y ∷ ys)

-- clients before workers, each by number
abbrev pub is_actor_below : Who → Who → Bool
is_actor_below (Client a) (Client b) = nat_lt a b
is_actor_below (Client a) (Worker b) = true
is_actor_below (Worker a) (Client b) = false
is_actor_below (Worker a) (Worker b) = nat_lt a b

abbrev pub is_use_below : Use → Use → Bool
is_use_below a b = nat_lt a.memory b.memory || ((a.memory == b.memory) && is_actor_below a.who b.who)

abbrev pub number_of : WaitTarget → ℕ
number_of (Object object) = object.0
number_of (Group group) = group.0
number_of (Kernel kernel) = kernel.0

-- a line says it of objects or of groups alone
abbrev pub is_hush_below : Hush → Hush → Bool
is_hush_below a b = nat_lt a.line b.line || ((a.line == b.line) && nat_lt (number_of a.target) (number_of b.target))

-- ---- uses

abbrev pub is_by : Who → Use → Bool
is_by who use_made = is_same_actor use_made.who who

abbrev pub without : Who → List Use → List Use
without who uses = filter (λ (u : Use). not (is_by who u)) uses

abbrev pub is_of_memory : ℕ → Use → Bool
is_of_memory memory u = u.memory == memory

abbrev pub is_use : Who → ℕ → Use → Bool
is_use who memory u = is_by who u && is_of_memory memory u

-- some use of the memory has begun and not ended
abbrev pub is_in_use : Noted → ℕ → Bool
is_in_use noted memory = list_any (is_of_memory memory) noted.held || list_any (is_of_memory memory) noted.leaving
