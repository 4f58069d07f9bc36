-- What a parse of the command tells of the words.
use Rattle.std.proofs.Common.{◌≡◌, List, [], ◌∷◌, Option, Some, None, inl, inr, true, refl, ap, codes, subst}
use Rattle.clap.specs.Words.{HasKind, IsAmong, Kinds, Row, Text, fault_of, first_of, is_simple, is_simple_and_free, kind_of, matches_of}
use Rattle.clap.specs.declared.error.Error.{Error}
use Rattle.clap.specs.declared.error.kind.ErrorKind.TheVariants.{OutOfMemory}
use Rattle.clap.proofs.OnLiterals.{clap_on_literals}
use Rattle.tp_words.specs.Rules.{tpool}
use Rattle.tp_words.specs.Said.{Said, is_true}

pub is_plain : is_simple tpool ≡ true
unfolding clap_on_literals
is_plain = refl

pub is_free : is_simple_and_free tpool ≡ true
unfolding clap_on_literals
is_free = refl

-- none where there is a fault
abbrev pub unless : {X : Type 0} → Kinds → Option X → Option X
unless [] found = found
unless (kind ∷ kinds) found = None

pub unless_none : {X : Type 0} (faults : Kinds) (found : Option X) → faults ≡ [] → unless faults found ≡ found
unless_none faults found none = ap (λ (k : Kinds). unless k found) none

pub unless_some : {X : Type 0} (faults : Kinds) (found : Option X) → (faults ≡ [] → ⊥) → unless faults found ≡ None
unless_some [] found some = absurd (some refl)
unless_some (kind ∷ kinds) found some = refl

-- an error that isn't of memory has one of the kinds, so there are some
pub is_fault : (faults : Kinds) (error : Error) → HasKind faults error → (kind_of error ≡ OutOfMemory → ⊥) → faults ≡ [] → ⊥
is_fault faults error (inl memory) other none = other memory
is_fault faults error (inr among) other none = subst (IsAmong (kind_of error)) none among

-- what the rows of a parse say
abbrev pub said_by_rows : List Row → Said
said_by_rows rows = record {
  command = first_of (codes "command") rows;
  number = first_of (codes "number") rows;
  threads = first_of (codes "threads") rows;
  seed = first_of (codes "seed") rows;
  workers = first_of (codes "workers") rows;
  events = first_of (codes "events") rows;
  states = first_of (codes "states") rows;
  json = is_true (first_of (codes "json") rows);
  each = is_true (first_of (codes "each") rows);
}

-- what `clap` says that the words say
abbrev pub parsed : List Text → Option Said
parsed words = unless (fault_of tpool words) (Some (said_by_rows (matches_of tpool words)))
