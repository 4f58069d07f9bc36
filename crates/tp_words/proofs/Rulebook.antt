-- The command as `clap` builds it: its rules, and which of them each word finds.
use Rattle.std.proofs.Common.{◌≡◌, ◌∙◌, ℕ, Bool, true, false, cond, List, [], ◌∷◌, ◌++◌, Option, Some, None, refl, inl, inr, ap, map}
use Rattle.std.specs.Prelude.{◌⊎◌, ◌||◌, codes, fold}
use Rattle.std.specs.Str.{bytes_eq}
use Rattle.clap.specs.Faults.{check_fault, default_fault, defaults_fault}
use Rattle.clap.specs.Kinds.{or_else}
use Rattle.clap.specs.Simple.{App, Shape, built, new_rule, new_shape}
use Rattle.clap.specs.Walk.{Row, Rule, Text, arg_by_id, arg_by_index, arg_by_long, arg_by_short, has_row, with_default}
use Rattle.clap.specs.declared.builder.action.ArgAction.TheVariants.{Set, SetTrue}
use Rattle.clap.specs.declared.builder.value_parser.ValueParser.TheVariants as vp
use Rattle.tp_words.specs.Rules.{tpool}
use Rattle.tp_words.specs.Said.{flags, named, options}

-- an argument with one value
abbrev pub one : Text → Option Text → Option ℕ → Rule
one id long index = record (new_rule id) {
  long = long;
  index = index;
  action = Some Set;
  parser = Some vp.String;
  range = Some (record { start_inclusive = 1; end_inclusive = 1 });
}

abbrev pub flag_rule : Text → Rule
flag_rule id = record (new_rule id) {
  long = Some id;
  action = Some SetTrue;
  defaults = codes "false" ∷ [];
  missing = codes "true" ∷ [];
  parser = Some vp.Bool;
  range = Some (record { start_inclusive = 0; end_inclusive = 0 });
}

abbrev pub option_rule : Text → Rule
option_rule id = one id (Some id) None

abbrev ones : List Rule
ones = one (codes "command") None (Some 1) ∷ one (codes "number") None (Some 2) ∷ map option_rule options

unfoldable pub rules : List Rule
rules = ones ++ map flag_rule flags

abbrev pub shape : Shape
shape = record (new_shape (codes "tpool")) {
  rules = rules;
  no_binary_name = true;
  disable_help_flag = true;
  disable_help_subcommand = true;
  is_built = true;
}

abbrev pub app : App
app = record { top = shape; subs = [] }

pub built_is : built tpool ≡ app
unfolding rules
built_is = refl

-- ---- which rule is found

-- the name is that of an argument with one value
pub record IsOne (id : Text) : Type 0 where
  pub long : Option Text
  pub index : Option ℕ
  pub rule : arg_by_id rules id ≡ Some (one id long index)
  pub same : bytes_eq id id ≡ true

pub command_is_one : IsOne (codes "command")
unfolding rules
command_is_one = record { long = None; index = Some 1; rule = refl; same = refl }

pub number_is_one : IsOne (codes "number")
unfolding rules
number_is_one = record { long = None; index = Some 2; rule = refl; same = refl }

option_is_one : (id : Text) → arg_by_id rules id ≡ Some (option_rule id) → bytes_eq id id ≡ true → IsOne id
option_is_one id rule same = record { long = Some id; index = None; rule = rule; same = same }

pub first_place : arg_by_index rules 1 ≡ Some (one (codes "command") None (Some 1))
unfolding rules
first_place = refl

pub second_place : arg_by_index rules 2 ≡ Some (one (codes "number") None (Some 2))
unfolding rules
second_place = refl

pub third_place : arg_by_index rules 3 ≡ None
unfolding rules
third_place = refl

pub no_letter : (letter : ℕ) → arg_by_short rules letter ≡ None
unfolding rules
no_letter letter = refl

-- a long name is that of an option with a value, of a flag, or of nothing
abbrev pub IsLong : Option Rule → Option Text → Option Text → Type 0
IsLong found option flag =
    ((id : Text) × IsOne id × (found ≡ Some (option_rule id)) × (option ≡ Some id))
    ⊎ (((id : Text) × (found ≡ Some (flag_rule id)) × (option ≡ None) × (flag ≡ Some id)) ⊎ ((found ≡ None) × (option ≡ None) × (flag ≡ None)))

pub long_cases : (name : Text) → IsLong (arg_by_long rules name) (named options name) (named flags name)
unfolding rules
long_cases name = go (bytes_eq (codes "threads") name) (bytes_eq (codes "seed") name) (bytes_eq (codes "workers") name) (bytes_eq (codes "events") name) (bytes_eq (codes "states") name) (bytes_eq (codes "json") name) (bytes_eq (codes "each") name)
  where
    go : (a b c d e f g : Bool) → IsLong
        (cond (a || false) (Some (option_rule (codes "threads"))) (cond (b || false) (Some (option_rule (codes "seed")))
        (cond (c || false) (Some (option_rule (codes "workers"))) (cond (d || false) (Some (option_rule (codes "events")))
        (cond (e || false) (Some (option_rule (codes "states"))) (cond (f || false) (Some (flag_rule (codes "json")))
        (cond (g || false) (Some (flag_rule (codes "each"))) None)))))))
        (cond a (Some (codes "threads")) (cond b (Some (codes "seed")) (cond c (Some (codes "workers")) (cond d (Some (codes "events")) (cond e (Some (codes "states")) None)))))
        (cond f (Some (codes "json")) (cond g (Some (codes "each")) None))
    go true b c d e f g = inl (codes "threads", option_is_one (codes "threads") refl refl, refl, refl)
    go false true c d e f g = inl (codes "seed", option_is_one (codes "seed") refl refl, refl, refl)
    go false false true d e f g = inl (codes "workers", option_is_one (codes "workers") refl refl, refl, refl)
    go false false false true e f g = inl (codes "events", option_is_one (codes "events") refl refl, refl, refl)
    go false false false false true f g = inl (codes "states", option_is_one (codes "states") refl refl, refl, refl)
    go false false false false false true g = inr (inl (codes "json", refl, refl, refl))
    go false false false false false false true = inr (inl (codes "each", refl, refl, refl))
    go false false false false false false false = inr (inr (refl, refl, refl))

-- ---- the end of a parse

cond_same : {X : Type 0} (b : Bool) (x : X) → cond b x x ≡ x
cond_same true x = refl
cond_same false x = refl

-- an argument with one value has no default
no_default : (id : Text) (long : Option Text) (index : Option ℕ) (rows : List Row) → with_default rows (one id long index) ≡ rows
no_default id long index rows = cond_same (has_row id rows) rows

abbrev Kept : List Rule → Type 0
Kept [] = Unit {0}
Kept (rule ∷ rest) = ((rows : List Row) → with_default rows rule ≡ rows) × Kept rest

kept : (rs more : List Rule) → Kept rs → (rows : List Row) → fold with_default rows (rs ++ more) ≡ fold with_default rows more
kept [] more each rows = refl
kept (rule ∷ rest) more each rows = ap (λ r. fold with_default r (rest ++ more)) (each.0 rows) ∙ kept rest more each.1 rows

options_kept : (names : List Text) → Kept (map option_rule names)
options_kept [] = tt
options_kept (name ∷ names) = (no_default name (Some name) None, options_kept names)

pub defaults_are : (rows : List Row) → fold with_default rows rules ≡ fold with_default rows (map flag_rule flags)
unfolding rules
defaults_are rows = kept ones (map flag_rule flags) (no_default (codes "command") None (Some 1), (no_default (codes "number") None (Some 2), options_kept options)) rows

-- no argument's default is a fault
abbrev Quiet : List Rule → Type 0
Quiet [] = Unit {0}
Quiet (rule ∷ rest) = ((rows : List Row) → default_fault rows rule ≡ []) × Quiet rest

quiet : (rs : List Rule) → Quiet rs → (rows : List Row) → defaults_fault rows rs ≡ []
unfolding defaults_fault
quiet [] each rows = refl
quiet (rule ∷ rest) each rows = ap (λ k. or_else k (defaults_fault (with_default rows rule) rest)) (each.0 rows) ∙ quiet rest each.1 (with_default rows rule)

one_default : (id : Text) (long : Option Text) (index : Option ℕ) (rows : List Row) → default_fault rows (one id long index) ≡ []
one_default id long index rows = cond_same (has_row id rows || true) []

options_quiet : (names : List Text) (more : List Rule) → Quiet more → Quiet (map option_rule names ++ more)
options_quiet [] more each = each
options_quiet (name ∷ names) more each = (one_default name (Some name) None, options_quiet names more each)

flags_quiet : (names : List Text) → Quiet (map flag_rule names)
flags_quiet [] = tt
flags_quiet (name ∷ names) = ((λ rows. cond_same (has_row name rows || false) []), flags_quiet names)

pub no_default_fault : (rows : List Row) → defaults_fault rows rules ≡ []
unfolding rules
no_default_fault rows = quiet rules (
  one_default (codes "command") None (Some 1),
  (one_default (codes "number") None (Some 2), options_quiet options (map flag_rule flags) (flags_quiet flags)),
) rows

pub no_check_fault : (rows : List Row) (has_subcommand : Bool) → check_fault shape rows has_subcommand ≡ []
unfolding rules
no_check_fault rows true = refl
no_check_fault rows false = refl
