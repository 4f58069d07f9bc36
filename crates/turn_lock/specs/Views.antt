-- What a seat knows, and how it changes.
use Rattle.std.specs.Prelude.{◌≡◌, ℕ, true, false, List, [], ◌∷◌, ◌++◌, ◌⊎◌, map}
use Rattle.std.specs.List.{range_with_len}
use Rattle.tp_base.specs.declared.answers.Entry.{Entry}
use Rattle.recorded.specs.Recordings.{Recording}
use Rattle.turn_lock.specs.declared.views.Part.{Part}
use Rattle.turn_lock.specs.declared.views.Setup.{Setup}
use Rattle.turn_lock.specs.declared.views.View.{View}
use Rattle.turn_lock.specs.Histories.{actor_of, own}

-- a lock over this book, with so many seats
abbrev pub setup_with : Recording → ℕ → Setup
setup_with r seats = record { limits = r.limits; capacity = r.capacity; seats = seats }

-- a book of this setup whose history this is
abbrev pub recording_of : Setup → List Entry → Recording
recording_of setup history = record { limits = setup.limits; capacity = setup.capacity; history = history }

abbrev pub part : ℕ → List Entry → Part
part number mine = record { number = number; mine = mine }

-- the number is one of those of the parts
abbrev pub HasNumber : ℕ → List Part → Type 0
HasNumber number [] = ⊥
HasNumber number (p ∷ parts) = (p.number ≡ number) ⊎ HasNumber number parts

-- the first view has all numbers
abbrev pub opening_view : Setup → View
opening_view setup = record {
  setup = setup;
  seen = [];
  told = [];
  parts = map (λ number. part number []) (range_with_len 1 setup.seats);
  met = [];
  holds = false;
  spent = false;
}

-- the history so far was seen
abbrev pub informed : View → List Entry → View
informed v history = record v { seen = history; told = [] }

abbrev pub holding : View → View
holding v = record v { holds = true }

abbrev pub let_go : View → View
let_go v = record v { holds = false }

-- the number of a holder was found
abbrev pub has_met : View → ℕ → View
has_met v holder = record v { met = v.met ++ holder ∷ [] }

-- the history has one entry more, which the one who sees it has made
abbrev pub entered : View → List Entry → View
entered v history = record v { seen = history; parts = map (λ (p : Part). part p.number (own (actor_of v.setup.limits p.number) history)) v.parts }

-- what a copy of a seat knows: as much, and it stands for nobody
abbrev pub copied : View → View
copied v = record v { told = []; parts = []; met = []; holds = false }

abbrev pub first_part : List Part → List Part
first_part [] = []
first_part (p ∷ parts) = p ∷ []

abbrev pub other_parts : List Part → List Part
other_parts [] = []
other_parts (p ∷ parts) = parts

-- the first number is dealt out; and what is left to deal
abbrev pub dealt : View → View
dealt v = record v { told = []; parts = first_part v.parts; met = []; holds = false }

abbrev pub undealt : View → View
undealt v = record v { parts = other_parts v.parts }

-- it takes over what another seat has seen, and its numbers
abbrev pub taking_in : View → View → View
taking_in v w = record v { told = w.seen; parts = v.parts ++ w.parts }

-- what is left of that seat
abbrev pub spent_view : View
spent_view = record {
  setup = record { limits = record { clients = 0; workers = 0; pools = 0; groups = 0; objects = 0; kernels = 0; slots = 0 }; capacity = 0; seats = 0 };
  seen = [];
  told = [];
  parts = [];
  met = [];
  holds = false;
  spent = true;
}
