-- Two jugs, one for 3 and one for 5, and what a move makes of them.
use Rattle.std.specs.Prelude.{◌≡◌, ℕ, ◌+◌, ◌-◌, ◌==◌, ◌||◌, List, [], ◌∷◌, if◌then◌else◌, min}
use Rattle.breadth_first.specs.declared.Next.{Next}
use Rattle.breadth_first.specs.declared.Next.TheVariants.{Bad, To}
use Rattle.breadth_first.specs.Rules.{Rules}
use Rattle.breadth_first.specs.Same.{TellsApart}
use Rattle.part_tests.specs.declared.jugs.Jars.{Jars}
use Rattle.part_tests.specs.declared.jugs.Jugs.{Jugs}

abbrev pub jars : ℕ → ℕ → Jars
jars three five = record { three = three; five = five }

-- one is filled or emptied, or as much as goes is poured into the other
abbrev pub poured : Jars → ℕ → Jars
poured j by =
    if by == 0 then jars 3 j.five
    else (if by == 1 then jars j.three 5
    else (if by == 2 then jars 0 j.five
    else (if by == 3 then jars j.three 0
    else (if by == 4 then jars (j.three - min j.three (5 - j.five)) (j.five + min j.three (5 - j.five))
    else jars (j.three + min j.five (3 - j.three)) (j.five - min j.five (3 - j.three))))))

-- what is looked for is a jug with this much
abbrev pub shown : ℕ → Jars → Next Jars
shown goal j = if (j.three == goal) || (j.five == goal) then Bad else To j

abbrev pub jug_rules : Jugs → Rules Jars
jug_rules jugs = record {
  first = jars 0 0;
  width = 6;
  after = λ j by. shown jugs.goal (poured j by);
  key = λ j. j.three ∷ j.five ∷ [];
}

pub jug_keys : (jugs : Jugs) → TellsApart (jug_rules jugs)
jug_keys jugs s t h = λ i. jars (first (h i)) (second (h i))
  where
    first : List ℕ → ℕ
    first [] = 0
    first (x ∷ xs) = x

    second : List ℕ → ℕ
    second [] = 0
    second (x ∷ xs) = first xs
