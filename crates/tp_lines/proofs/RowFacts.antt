-- The parts of a row, one after another.
use Rattle.std.proofs.Common.{◌≡◌, ℕ, zero, suc, ◌+◌, ◌≤◌, List, [], ◌∷◌, ◌++◌, drop, refl, sym, ap, ◌∙◌, subst, arith, Bool, true, false, nat_eq}
use Rattle.std.specs.Prelude.{if◌then◌else◌}
use Rattle.std.proofs.lemmas.List.{append-nil, append_assoc}
use Rattle.line_grammar.specs.Language.{AnyOf, IsReadTo, IsStuck}
use Rattle.line_grammar.specs.Parts.{IsPair, Opens, Pairs, IsPart, IsTail}
use Rattle.line_grammar.proofs.Pairs.{pairs_read, pairs_stuck_first, pairs_stuck_second, pair_same}
use Rattle.line_grammar.proofs.Readings.{read_renamed, stuck_renamed}
use Rattle.tp_lines.specs.declared.parts.Form.{Form}
use Rattle.tp_lines.specs.declared.parts.Form.TheVariants as form
use Rattle.tp_lines.specs.declared.parts.Part.{Part}
use Rattle.tp_lines.specs.declared.words.Field.{Field}
use Rattle.tp_lines.specs.declared.words.Field.TheVariants as field
use Rattle.tp_lines.specs.Choices.{PartTexts}
use Rattle.tp_lines.specs.Parts.{AreFit, Fits, FitsForm, PartsTexts, after, form_of, instead_of, number_of, number_part, parts_text, room, room_of, text_of_part}
use Rattle.tp_lines.specs.Rows.{ArePartsRead}
use Rattle.tp_lines.specs.Shapes.{fields_of, table_of}
use Rattle.tp_lines.proofs.PartFacts.{part_part, some_part}
use Rattle.tp_lines.proofs.WordRules.{roomy}

-- the fields behind a part have less room
group_room : (b : Bool) (fields : List Field) → room (if b then field.NoCancel ∷ [] else fields) + 1 ≤ 2 + room fields
group_room true fields = omega arith
group_room false fields = omega arith

some_room : (f : Field) → 1 ≤ room_of f
some_room field.Short = omega arith
some_room _ = omega arith

number_room : (f : Field) (n : ℕ) (fields : List Field) → room (after (number_part f n) fields) + 1 ≤ room_of f + room fields
number_room field.Group n fields = group_room (nat_eq n 0) fields
number_room _ n fields = omega arith

instead_room : (own fields : List Field) (n : ℕ) → room own + 1 ≤ n → room (instead_of own fields) + 1 ≤ n + room fields
instead_room [] fields n h = omega arith
instead_room (g ∷ own) fields n h = omega arith

room_by_form : (x : Form) (f : Field) (p : Part) (fields : List Field) → FitsForm x f p → room (after p fields) + 1 ≤ room_of f + room fields
room_by_form (form.Number least most) f p fields h =
    subst (λ q. room (after q fields) + 1 ≤ room_of f + room fields) (sym h.is) (number_room f (number_of p) fields)
room_by_form (form.Lettered letter least most) f p fields h =
    subst (λ q. room (after q fields) + 1 ≤ room_of f + room fields) (sym h.is) (number_room f (number_of p) fields)
room_by_form form.Due f p fields h = subst (λ q. room (after q fields) + 1 ≤ room_of f + room fields) (sym h.is) (omega (arith, some_room f))
room_by_form form.Named f p fields h = subst (λ q. room (after q fields) + 1 ≤ room_of f + room fields) (sym h.is) (omega (arith, some_room f))
room_by_form form.Millis f p fields h = subst (λ q. room (after q fields) + 1 ≤ room_of f + room fields) (sym h.is) (omega (arith, some_room f))
room_by_form form.Choice f p fields h =
    subst (λ q. room (after q fields) + 1 ≤ room_of f + room fields) (sym h.is)
    (subst (λ g. room (instead_of (fields_of h.word) fields) + 1 ≤ room_of g + room fields) h.table (instead_room (fields_of h.word) fields (room_of (table_of h.word)) (roomy h.word)))

pub room_after : (f : Field) (p : Part) (fields : List Field) → Fits f p → room (after p fields) + 1 ≤ room_of f + room fields
room_after f p fields h = room_by_form (form_of f) f p fields h

-- something fits in all fields
some_fit : (n : ℕ) (fields : List Field) → room fields ≤ n → (parts : List Part) × AreFit fields parts
some_fit n [] h = ([], tt)
some_fit zero (f ∷ fields) h = let p = some_part f in absurd (omega (arith, room_after f p.0 fields p.1))
some_fit (suc n) (f ∷ fields) h =
    let p = some_part f in let rest = some_fit n (after p.0 fields) (omega (arith, room_after f p.0 fields p.1)) in
    (p.0 ∷ rest.0, (p.1, rest.1))

parts_opens : (fields : List Field) (parts : List Part) (text : List ℕ) → PartsTexts fields parts text → Opens 32 text
parts_opens fields [] text a = subst (λ l. Opens 32 l) (sym a.split) tt
parts_opens fields (p ∷ parts) text a = subst (λ l. Opens 32 l) (sym a.split) refl

pub parts_tail : (fields : List Field) → IsTail 32 (PartsTexts fields)
parts_tail fields = record {
  opens = parts_opens fields;
  some = let s = some_fit (room fields) fields (omega arith) in (s.0, parts_text s.0, record { fit = s.1; split = refl });
}

-- a field, and those behind it
module _ (f : Field) (fields : List Field) where
  abbrev Both : (Part × List Part) → List ℕ → Type 0
  Both = Pairs (PartTexts f) (λ p. PartsTexts (after p fields))

  both_to : (p : Part) (parts : List Part) (t : List ℕ) → IsPair (PartTexts f) (λ q. PartsTexts (after q fields)) p parts t → PartsTexts (f ∷ fields) (p ∷ parts) t
  both_to p parts t a = record {
    fit = (a.first.behind.fits, a.second.fit);
    split = a.split ∙ ap (λ l. l ++ a.back) (a.first.split ∙ ap (λ l. 32 ∷ l) a.first.behind.split) ∙ ap (λ l. 32 ∷ text_of_part p ++ l) a.second.split;
  }

  both_from : (parts : List Part) (t : List ℕ) → PartsTexts (f ∷ fields) parts t
      → (p : Part) × (rest : List Part) × IsPair (PartTexts f) (λ q. PartsTexts (after q fields)) p rest t × (parts ≡ p ∷ rest)
  both_from [] t a = absurd a.fit
  both_from (p ∷ parts) t a = (
    p,
    parts,
    record {
      front = 32 ∷ text_of_part p;
      back = parts_text parts;
      split = a.split;
      first = record { rest = text_of_part p; split = refl; behind = record { fits = a.fit.0; split = refl } };
      second = record { fit = a.fit.1; split = refl };
    },
    refl,
  )

  both_back : (parts : List Part) (t : List ℕ) → PartsTexts (f ∷ fields) parts t → AnyOf Both t
  both_back parts t a = let b = both_from parts t a in ((b.0, b.1), b.2)

  both_any : (v : Part × List Part) (t : List ℕ) → Both v t → AnyOf (PartsTexts (f ∷ fields)) t
  both_any (p, parts) t a = (p ∷ parts, both_to p parts t a)

  pub parts_read : (text : List ℕ) (p : Part) (n : ℕ) → IsReadTo (PartTexts f) text p n → (rest : List ℕ) → rest ≡ drop n text
      → (left : List Field) → left ≡ after p fields → (before now : List Part) (m : ℕ) → ArePartsRead left rest (before ++ p ∷ []) now m
      → ArePartsRead (f ∷ fields) text before now (n + m)
  parts_read text p n first rest e left g before now m second = record {
    added = p ∷ second.added;
    split = second.split ∙ append_assoc before (p ∷ []) second.added;
    read =
        read_renamed Both (PartsTexts (f ∷ fields)) both_back text (p, second.added) (p ∷ second.added) (n + m) (λ t a. both_to p second.added t a)
        (pairs_read 32 (PartTexts f) (λ q. PartsTexts (after q fields)) (part_part f) (λ q. parts_tail (after q fields)) text p n first second.added m
        (subst (λ l. IsReadTo (PartsTexts l) (drop n text) second.added m) g (subst (λ l. IsReadTo (PartsTexts left) l second.added m) e second.read)));
  }

  pub parts_stuck_first : (text : List ℕ) (k : ℕ) → IsStuck (PartTexts f) text k → IsStuck (PartsTexts (f ∷ fields)) text k
  parts_stuck_first text k stuck =
      stuck_renamed Both (PartsTexts (f ∷ fields)) both_back text k both_any
      (pairs_stuck_first 32 (PartTexts f) (λ q. PartsTexts (after q fields)) (part_part f) (λ q. parts_tail (after q fields)) text k stuck)

  pub parts_stuck_second : (text : List ℕ) (p : Part) (n : ℕ) → IsReadTo (PartTexts f) text p n → (rest : List ℕ) → rest ≡ drop n text
      → (left : List Field) → left ≡ after p fields → (k : ℕ) → IsStuck (PartsTexts left) rest k → IsStuck (PartsTexts (f ∷ fields)) text (n + k)
  parts_stuck_second text p n first rest e left g k stuck =
      stuck_renamed Both (PartsTexts (f ∷ fields)) both_back text (n + k) both_any
      (pairs_stuck_second 32 (PartTexts f) (λ q. PartsTexts (after q fields)) (part_part f) (λ q. parts_tail (after q fields)) text p n first k
      (subst (λ l. IsStuck (PartsTexts l) (drop n text) k) g (subst (λ l. IsStuck (PartsTexts left) l k) e stuck)))

-- a text, and one that has more behind it, have the same parts
nothing_more : (text more : List ℕ) → text ≡ [] → [] ≡ text ++ more → more ≡ []
nothing_more text more e f = sym (f ∙ ap (λ l. l ++ more) e)

same_parts : (parts others : List Part) (fields : List Field) (text more : List ℕ) → Opens 32 more → PartsTexts fields parts text → PartsTexts fields others (text ++ more)
    → (others ≡ parts) × (more ≡ [])
unfolding both_from
same_parts [] [] fields text more opened a b = (refl, nothing_more text more a.split (sym b.split))
same_parts [] (q ∷ others) [] text more opened a b = absurd b.fit
same_parts [] (q ∷ others) (f ∷ fields) text more opened a b = absurd a.fit
same_parts (p ∷ parts) others [] text more opened a b = absurd a.fit
same_parts (p ∷ parts) [] (f ∷ fields) text more opened a b = absurd b.fit
same_parts (p ∷ parts) (q ∷ others) (f ∷ fields) text more opened a b =
    let first = both_from f fields (p ∷ parts) text a in
    let second = both_from f fields (q ∷ others) (text ++ more) b in
    let same = pair_same 32 (PartTexts f) (λ r. PartsTexts (after r fields)) (part_part f) (λ r. parts_tail (after r fields)) p parts q others text more opened first.2 second.2 in
    let rest = same_parts parts others (after p fields) first.2.back more opened first.2.second same.1 in
    (ap (λ r. r ∷ others) same.0 ∙ ap (λ l. p ∷ l) rest.0, rest.1)

no_separator : (more : List ℕ) → 32 ∷ more ≡ [] → ⊥
no_separator more e = let no_such : ⊥ = cc in no_such

pub parts_part : (fields : List Field) → IsPart 32 (PartsTexts fields)
parts_part fields = record {
  unique = λ v w text a b. sym (same_parts v w fields text [] tt a (subst (λ l. PartsTexts fields w l) (sym (append-nil text)) b)).0;
  apart = λ v w text more a b. no_separator more (same_parts v w fields text (32 ∷ more) refl a b).1;
}
