-- Names as the map keeps them.
use Rattle.std.proofs.Common.{◌≡◌, ℕ, Bool, true, false, cond, List, [], ◌∷◌, Some, bytes_eq, refl, ap, Bor, if◌then◌else◌}
use Rattle.std.specs.Map.{lookup}
use Rattle.indexmap.specs.IndexMap.{insert_entry}
use Rattle.script_lines.specs.declared.names.Named.{Named}
use Rattle.script_lines.specs.Names.{name_in, names_in}

abbrev Entry : Type 0
Entry = Bor (List ℕ) × Named

pub find_name : (word : List ℕ) (entries : List Entry) → lookup (λ (name : Bor (List ℕ)). bytes_eq word name.now) entries ≡ lookup (bytes_eq word) (names_in entries)
find_name word [] = refl
find_name word (entry ∷ entries) = ap (λ found. cond (bytes_eq word entry.0.now) (Some entry.1) found) (find_name word entries)

pub insert_name : (name : Bor (List ℕ)) (named : Named) (entries : List Entry)
    → names_in (insert_entry (λ (one other : Bor (List ℕ)). bytes_eq one.now other.now) entries name named) ≡ insert_entry bytes_eq (names_in entries) name.now named
insert_name name named [] = refl
insert_name name named (entry ∷ entries) = by (bytes_eq name.now entry.0.now) (insert_name name named entries)
  where
    by : (same : Bool) → (names_in (insert_entry (λ (one other : Bor (List ℕ)). bytes_eq one.now other.now) entries name named) ≡ insert_entry bytes_eq (names_in entries) name.now named)
        → names_in (if same then (entry.0, named) ∷ entries else entry ∷ insert_entry (λ (one other : Bor (List ℕ)). bytes_eq one.now other.now) entries name named)
        ≡ (if same then (entry.0.now, named) ∷ names_in entries else name_in entry ∷ insert_entry bytes_eq (names_in entries) name.now named)
    by true behind = refl
    by false behind = ap (λ rest. name_in entry ∷ rest) behind
