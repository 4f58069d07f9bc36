-- How far a text has been played.
use Rattle.std.proofs.Common.{◌≡◌, ℕ, ◌+◌, ◌<◌, ◌≤◌, List, [], ◌∷◌, ◌++◌, length, drop, max, refl, sym, ap, ap₂, ◌∙◌, subst, arith, append_assoc, length-append}
use Rattle.std.proofs.lemmas.List.{append-nil, length-take-le, nil_from_length, take-append-drop}
use Rattle.std.specs.Prelude.{fold}
use Rattle.line_grammar.specs.Language.{AnyOf, IsReadTo, IsStuck}
use Rattle.line_grammar.specs.Lines.{AreLines, AreLinesTo}
use Rattle.line_grammar.specs.Parts.{IsPart}
use Rattle.line_grammar.specs.Traces.{Ended, IsTraceFault}
use Rattle.line_grammar.proofs.LineLists.{lines_count, lines_fault, lines_no, lines_only, lines_push}
use Rattle.tp_base.specs.declared.ids.Who.{Who}
use Rattle.tp_base.specs.declared.ids.Who.TheVariants.{Client, Worker}
use Rattle.tp_lines.specs.Calls.{client_number, IsWhoInRange}
use Rattle.layers.specs.declared.playing.Played.{Played}
use Rattle.layers.specs.Playing.{ArePlayed, IsPlayedTo}

clients_push : {M : Type 0} (who : M → Who) (made : List M) (value : M) (least : ℕ)
    → fold (λ greatest (one : M). max greatest (client_number (who one))) least (made ++ value ∷ []) ≡ max (fold (λ greatest (one : M). max greatest (client_number (who one))) least made) (client_number (who value))
clients_push who [] value least = refl
clients_push who (one ∷ made) value least = clients_push who made value (max least (client_number (who one)))

few : (actor : Who) → IsWhoInRange actor → client_number actor ≤ 16
few (Client number) h = h.1
few (Worker number) h = omega arith

module _ {M : Type 0} (W : M → List ℕ → Type 0) (who : M → Who) (told behind : List M → List ℕ) (bytes rest text : List ℕ) (greatest lines : ℕ)
    (p : IsPlayedTo W who told behind bytes rest text greatest lines) where
  pub played_few : lines + length rest ≤ length bytes
  played_few = omega (arith, p.counts, lines_count W rest p.made bytes p.read)

  -- a line more was read and played
  pub played_next : (after : List M → List ℕ) (value : M) (size next : ℕ) (actor : Who) (longer : List ℕ) → IsReadTo (Ended W) rest value size
      → ((more : List M) → text ++ behind (value ∷ more) ≡ longer ++ after more) → actor ≡ who value → IsWhoInRange actor → next ≡ max greatest (client_number actor)
      → IsPlayedTo W who told after bytes (drop size rest) longer next (lines + 1)
  played_next after value size next actor longer read printed named in_range is =
      let t = read.text_of in
      let first : rest ≡ t.line ++ 10 ∷ drop size rest
      = sym (take-append-drop size rest) ∙ ap (λ l. l ++ drop size rest) t.split ∙ append_assoc t.line (10 ∷ []) (drop size rest) in
      record {
        made = p.made ++ value ∷ [];
        read = lines_push W rest (drop size rest) p.made value t.line bytes p.read t.is_line first;
        counts = omega (arith, p.counts, length-append p.made (value ∷ []));
        goes_on = λ more. sym (printed more) ∙ p.goes_on (value ∷ more) ∙ ap told (sym (append_assoc p.made (value ∷ []) more));
        greatest_is = is ∙ ap₂ (λ m w. max m (client_number w)) p.greatest_is named ∙ sym (clients_push who p.made value 0);
        most = omega (arith, is, p.most, few actor in_range);
      }

  text_is : behind [] ≡ [] → text ≡ told p.made
  text_is ends = sym (append-nil text) ∙ ap (λ t. text ++ t) (sym ends) ∙ p.goes_on [] ∙ ap told (append-nil p.made)

  are_lines : length rest ≡ 0 → AreLines W p.made bytes
  are_lines none = subst (λ r. AreLinesTo W r p.made bytes) (nil_from_length rest none) p.read

  module _ (part : IsPart 10 W) where
    pub played_only : (played : Played) → played.text.items ≡ text → played.clients ≡ greatest → length rest ≡ 0 → behind [] ≡ [] → (all : List M) → AreLines W all bytes → ArePlayed who told all played
    played_only played same count none ends all whole =
        subst (λ made. ArePlayed who told made played) (lines_only W part p.made all bytes (are_lines none) whole)
        (record { text_is = same ∙ text_is ends; clients_is = count ∙ p.greatest_is })

    pub played_fault : (place : ℕ) → 0 < length rest → IsStuck (Ended W) rest place → IsTraceFault (AnyOf W) bytes (lines + 1) (place + 1)
    played_fault place more stuck = subst (λ n. IsTraceFault (AnyOf W) bytes (n + 1) (place + 1)) (sym p.counts) (lines_fault W part rest p.made bytes place p.read more stuck)

    pub played_no : (place : ℕ) → 0 < length rest → IsStuck (Ended W) rest place → (all : List M) → AreLines W all bytes → ⊥
    played_no place more stuck all whole = lines_no W part rest p.made all bytes place p.read more stuck whole

-- a line that was read has its line feed at least
pub read_some : {M : Type 0} (W : M → List ℕ → Type 0) (text : List ℕ) (value : M) (size : ℕ) → IsReadTo (Ended W) text value size → 0 < size
read_some W text value size read =
    let line = read.text_of.line in
    omega (arith, length-take-le size text read.within, ap length read.text_of.split, length-append line (10 ∷ []))
