-- Environments at the front of a text.
use Rattle.std.specs.Prelude.{◌≡◌, ℕ, ◌≤◌, List, ◌++◌}
use Rattle.tp_base.specs.declared.calls.Environ.{Environ}
use Rattle.tp_lines.specs.Calls.{environ_parts}
use Rattle.tp_lines.specs.Parts.{parts_text}

-- the text is that of an environment, and then the rest; a line can have its numbers
pub record IsEnvironFront (text : List ℕ) (env : Environ) (rest : List ℕ) : Type 0 where
  pub split : text ≡ parts_text (environ_parts env) ++ rest
  pub pool : env.pool.0 ≤ 65535
  pub group : env.group.0 ≤ 65535
  pub cancel : env.cancel.0 ≤ 65535
  -- without a group there is no cancel routine
  pub grouped : env.group.0 ≡ 0 → env.cancel.0 ≡ 0
