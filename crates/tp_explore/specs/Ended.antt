-- What an entry makes, brings and ends.
use Rattle.std.specs.Prelude.{List, ◌++◌, Bool, ◌&&◌, ◌||◌, ◌==◌, not, if◌then◌else◌}
use Rattle.std.specs.List.{filter, fold}
use Rattle.tp_base.specs.declared.answers.Entry.{Entry}
use Rattle.tp_base.specs.declared.ids.Who.{Who}
use Rattle.tp_base.specs.declared.limits.Limits.{Limits}
use Rattle.tp_model.specs.World.{World}
use Rattle.part_places.specs.declared.place.Place.{Place}
use Rattle.part_places.specs.Places.{is_taken}
use Rattle.tp_explore.specs.declared.fault.Fault.{Fault}
use Rattle.tp_explore.specs.declared.passage.Passage.{Passage}
use Rattle.tp_explore.specs.Faults.{answer_faults, behind, deed_faults, deeds, is_create, is_made, left_faults, noted_at}
use Rattle.tp_explore.specs.Noted.{Noted, without}
use Rattle.tp_explore.specs.Watched.{Watched}

-- the uses of an actor that were to end, and with its part all that it goes on with
abbrev pub ended_by : Who → Bool → Noted → Noted
ended_by who with_part noted = record noted { held = if with_part then without who noted.held else noted.held; leaving = without who noted.leaving }

abbrev pub makes_object : Entry → Bool
makes_object e = is_create e.call && is_made e.answer

-- the actor comes to another place of its part
abbrev pub goes_on : Place → Place → Entry → Bool
goes_on before after e = is_taken e.answer || not (before.at.op == after.at.op)

module _ (k : Watched) (limits : Limits) where
  -- what is noted behind an entry, and the faults that it brings in the world behind it, as far as they are looked for
  abbrev pub noted_by_entry : Passage → Noted → Noted
  noted_by_entry p noted = fold behind (noted_at k noted p.before p.after p.entry) (deeds k limits p.before p.after p.entry)

  abbrev pub brought : World → Passage → Noted → List Fault
  brought w p noted = filter k.wants (
      answer_faults k noted w p.entry.who p.before p.entry.answer
      ++ deed_faults w (noted_at k noted p.before p.after p.entry) (deeds k limits p.before p.after p.entry)
      ++ left_faults w (noted_by_entry p noted).lines)
