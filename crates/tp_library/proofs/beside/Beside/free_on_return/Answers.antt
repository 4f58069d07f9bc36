use Rattle.std.proofs.Common.{◌≡◌, ◌≢◌, ◌==◌, ◌∙◌, ℕ, refl, sym, ap, subst, true, false, arith}
use Rattle.std.proofs.lemmas.Bool.Decides.{nat_tests}
use Rattle.tp_library.specs.Shelved.{Stocked}
use Rattle.tp_library.specs.Kept.{stand_of}
use Rattle.tp_library.specs.Stepped.{IsStep}
use Rattle.tp_library.specs.declared.LibAnswer.TheVariants.{Done}
use Rattle.tp_library.specs.declared.LibCall.TheVariants.{FreeOnReturn}
use Rattle.tp_library.specs.Libraries.{slot_of}
use Rattle.tp_library.specs.Shelves.{load, Shelf}
use Rattle.tp_library.proofs.Stepping.{acts, Acts, no_load_left, not_running, slot_filled, slot_parts, slot_taken}
use Rattle.tp_library.proofs.beside.Beside.free_on_return.Goals as goal
use Rattle.tp_library.proofs.beside.Beside.free_on_return.Goals.{In_default}

is_zero : (n m : ℕ) → n ≡ m → n ≡ 0 → (m == 0) ≡ true
is_zero n m e z = grind (arith, nat_tests, e, z)

isnt_zero : (n m : ℕ) → n ≡ m → n ≢ 0 → (m == 0) ≡ false
isnt_zero n m e z = grind (arith, nat_tests, e, z)

may_act : (c : In_default) → Acts c.args.self.now.actors c.args.who
may_act c = acts c.args.self.now.actors c.args.who (sym c.refused_actor.ensures ∙ c.in_default.is)

pub returns-then-not-is_running : goal.returns-then-not-is_running
returns-then-not-is_running c =
    let b = c.args.self.now in
    record { same = refl; step = λ r are. not_running (stand_of r b) b.actors c.args.who c.args.library are (may_act (goal.at.returns-then-not-is_running c).In_default) (sym c.is_running.ensures ∙ c.if-not-is_running.true) }

pub returns-then-slot-ne0 : goal.returns-then-slot-ne0
returns-then-slot-ne0 c =
    let b = c.args.self.now in
    record {
      same = refl;
      step = λ r are. slot_taken (stand_of r b) b.actors c.args.who c.args.library are (may_act (goal.at.returns-then-slot-ne0 c).In_default)
          (sym c.is_running.ensures ∙ c.if-not-is_running.false)
          (isnt_zero c.slot.result (slot_of b.shelf.shelf c.args.who) c.slot.ensures.value c.if-slot-ne0.true);
    }

pub returns-then-load-eq0 : goal.returns-then-load-eq0
returns-then-load-eq0 c =
    let b = c.args.self.now in
    record {
      same = refl;
      step = λ r are. no_load_left (stand_of r b) b.actors c.args.who c.args.library are (may_act (goal.at.returns-then-load-eq0 c).In_default)
          (sym c.is_running.ensures ∙ c.if-not-is_running.false)
          (is_zero c.slot.result (slot_of b.shelf.shelf c.args.who) c.slot.ensures.value c.if-slot-ne0.false)
          (is_zero c.load.result (load b.shelf.shelf c.args.library.0) c.load.ensures.value c.if-load-eq0.true);
    }

pub returns : goal.returns
returns c =
    let b = c.args.self.now in
    subst (λ (s : Stocked). IsStep b c.args.who (FreeOnReturn c.args.library) (record b { shelf = s }) Done) (sym c.set_slot.ensures)
    (record {
      same = ap (λ (s : Shelf). record b { shelf = record b.shelf { shelf = s } }) (slot_parts b.shelf.shelf c.args.who c.args.library.0);
      step = λ r are. slot_filled (stand_of r b) b.actors c.args.who c.args.library are (may_act (goal.at.returns c).In_default)
          (sym c.is_running.ensures ∙ c.if-not-is_running.false)
          (is_zero c.slot.result (slot_of b.shelf.shelf c.args.who) c.slot.ensures.value c.if-slot-ne0.false)
          (isnt_zero c.load.result (load b.shelf.shelf c.args.library.0) c.load.ensures.value c.if-load-eq0.false);
    })
