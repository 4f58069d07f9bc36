-- How many steps were counted.
use Rattle.std.specs.Prelude.{ℕ, ◌+◌}
use Rattle.steps.specs.declared.Count.{Count, Zero, More'}

abbrev pub count_of : Count → ℕ
count_of Zero = 0
count_of (More' marker before) = count_of before + 1
