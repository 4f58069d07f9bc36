-- What words say is what `clap` says that they say.
use Rattle.std.proofs.Common.{◌≡◌, ◌∙◌, Bool, true, false, cond, List, [], ◌∷◌, map, Option, Some, None, refl, ap, codes}
use Rattle.std.specs.Prelude.{fold, is_some, option_and_then, option_map, string_bytes}
use Rattle.std.specs.List.{list_any}
use Rattle.std.specs.Str.{bytes_eq}
use Rattle.std.proofs.lemmas.Str.{IsUtf8-string_bytes}
use Rattle.std.specs.declared.string.String.{String}
use Rattle.clap.specs.Faults.{built_fault, check_fault, defaults_fault, entered_fault, settle_fault, walk_fault}
use Rattle.clap.specs.Kinds.{Kinds, or_else}
use Rattle.clap.specs.Simple.{entered, names_of}
use Rattle.clap.specs.Walk.{Held, Row, Text, finished, nothing_held, rows_after, settled, walk, walk_from, with_default}
use Rattle.clap.specs.Words.{fault_of, matches_of}
use Rattle.tp_words.specs.Rules.{tpool}
use Rattle.tp_words.specs.Said.{Said, Use, flags, is_once, is_true, said, said_by, start, uses_in}
use Rattle.tp_words.proofs.Faults.{parsed, said_by_rows, unless}
use Rattle.tp_words.proofs.Rulebook.{app, built_is, defaults_are, flag_rule, no_check_fault, no_default_fault, rules, shape}
use Rattle.tp_words.proofs.Added.{add_all, added_from_nothing, flag_text, other_text, row, text_in}
use Rattle.tp_words.proofs.Walked.{AreTexts, else_nothing, rows_found, unless_else}

abbrev end_of : List Text → Held
end_of words = (walk rules [] nothing_held words).held

abbrev rows_at_end : List Text → List Row
rows_at_end words = (settled rules (end_of words)).rows

no_subcommand : (stop : Option (Text × List Text)) → entered_fault app stop ≡ []
no_subcommand None = refl
no_subcommand (Some met) = refl

only : (a b c d e : Kinds) → b ≡ [] → d ≡ [] → e ≡ [] → or_else a (or_else b (or_else c (or_else d e))) ≡ or_else a c
only a b c d e none_b none_d none_e =
    (λ i. or_else a (or_else (none_b i) (or_else c (or_else (none_d i) (none_e i))))) ∙ ap (or_else a) (else_nothing c)

-- the only faults are those of the walk and of what is held at its end
faults_are : (words : List Text) → fault_of tpool words ≡ or_else (walk_fault shape [] (walk_from nothing_held) words) (settle_fault rules false (end_of words))
faults_are words =
    let stop = (walk rules [] nothing_held words).stopped in
    ap (λ a. built_fault a nothing_held words) built_is
    ∙ only (walk_fault shape [] (walk_from nothing_held) words) (entered_fault app stop) (settle_fault rules false (end_of words))
    (defaults_fault (rows_at_end words) rules) (check_fault shape (finished rules (end_of words)) (is_some (entered app stop)))
    (no_subcommand stop) (no_default_fault (rows_at_end words)) (no_check_fault (finished rules (end_of words)) (is_some (entered app stop)))

rows_are : (words : List Text) → matches_of tpool words ≡ fold with_default (rows_at_end words) (map flag_rule flags)
rows_are words = ap (λ a. rows_after a.top.rules (names_of a) words) built_is ∙ defaults_are (rows_at_end words)

abbrev told : List Row → Said
told rows = said_by_rows (fold with_default rows (map flag_rule flags))

told_is : (uses : List Use) → told (map row uses) ≡ said_by uses
told_is uses =
    let text = λ (id : Text) (other : list_any (λ flag. bytes_eq flag id) flags ≡ false). other_text id flags (map row uses) other ∙ text_in id uses in
    let is_there = λ (id : Text). flag_text id flags (map row uses) ∙ ap is_true (text_in id uses) in
    λ i. record {
      command = text (codes "command") refl i;
      number = text (codes "number") refl i;
      threads = text (codes "threads") refl i;
      seed = text (codes "seed") refl i;
      workers = text (codes "workers") refl i;
      events = text (codes "events") refl i;
      states = text (codes "states") refl i;
      json = is_there (codes "json") i;
      each = is_there (codes "each") i;
    }

map_unless : (f : List Row → Said) (a : Kinds) (o : Option (List Row)) → unless a (option_map f o) ≡ option_map f (unless a o)
map_unless f [] o = refl
map_unless f (k ∷ ks) o = refl

by_uses : (uses : Option (List Use)) → option_map told (option_and_then (λ us. add_all [] us) uses)
    ≡ option_and_then (λ us. cond (is_once us) (Some (said_by us)) None) uses
by_uses None = refl
by_uses (Some us) = ap (option_map told) (added_from_nothing us) ∙ go (is_once us)
  where
    go : (b : Bool) → option_map told (cond b (Some (map row us)) None) ≡ cond b (Some (said_by us)) None
    go true = ap Some (told_is us)
    go false = refl

pub said_is_read : (words : List Text) → AreTexts words → parsed words ≡ said words
said_is_read words texts =
    let walking = walk_fault shape [] (walk_from nothing_held) words in
    let settling = settle_fault rules false (end_of words) in
    (λ i. unless (faults_are words i) (Some (said_by_rows (rows_are words i))))
    ∙ (unless_else walking settling (Some (told (rows_at_end words)))
    ∙ (ap (unless walking) (map_unless told settling (Some (rows_at_end words)))
    ∙ (map_unless told walking (unless settling (Some (rows_at_end words)))
    ∙ (ap (option_map told) (rows_found words texts) ∙ by_uses (uses_in start words)))))

pub strings_are_texts : {Z : Type 0} (strings : List (String Z)) → AreTexts (map string_bytes strings)
strings_are_texts [] = tt
strings_are_texts (s ∷ strings) = (IsUtf8-string_bytes s, strings_are_texts strings)
