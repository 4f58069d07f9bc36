-- Lists of words, and what they say.
use Rattle.std.proofs.Common.{◌≡◌, false, true, [], ◌∷◌, Some, None, codes, refl}
use Rattle.tp_words.specs.Said.{Said, said}

abbrev silent : Said
silent = record { command = None; number = None; threads = None; seed = None; workers = None; events = None; states = None; json = false; each = false }

-- ---- good lists

no_word : said [] ≡ Some silent
no_word = refl

a_command : said (codes "trace" ∷ []) ≡ Some (record silent { command = Some (codes "trace") })
a_command = refl

an_empty_word : said ([] ∷ []) ≡ Some (record silent { command = Some [] })
an_empty_word = refl

a_hyphen : said (codes "trace" ∷ codes "-" ∷ []) ≡ Some (record silent { command = Some (codes "trace"); number = Some (codes "-") })
a_hyphen = refl

a_number_behind_dashes : said (codes "gen" ∷ codes "--" ∷ codes "-7" ∷ []) ≡ Some (record silent { command = Some (codes "gen"); number = Some (codes "-7") })
a_number_behind_dashes = refl

dashes_alone : said (codes "--" ∷ codes "trace" ∷ codes "--" ∷ []) ≡ Some (record silent { command = Some (codes "trace"); number = Some (codes "--") })
dashes_alone = refl

options_before_and_behind : said (codes "--workers" ∷ codes "4" ∷ codes "trace" ∷ codes "--events=16" ∷ codes "--threads" ∷ codes "1" ∷ codes "--states=9" ∷ []) ≡ Some (record silent {
  command = Some (codes "trace");
  threads = Some (codes "1");
  workers = Some (codes "4");
  events = Some (codes "16");
  states = Some (codes "9");
})
options_before_and_behind = refl

a_seed_and_json : said (codes "--json" ∷ codes "run" ∷ codes "--seed" ∷ codes "07" ∷ []) ≡ Some (record silent { command = Some (codes "run"); seed = Some (codes "07"); json = true })
a_seed_and_json = refl

both_flags : said (codes "explore" ∷ codes "--each" ∷ codes "--json" ∷ []) ≡ Some (record silent { command = Some (codes "explore"); json = true; each = true })
both_flags = refl

no_text_behind_equals : said (codes "trace" ∷ codes "--workers=" ∷ []) ≡ Some (record silent { command = Some (codes "trace"); workers = Some [] })
no_text_behind_equals = refl

two_equals : said (codes "--threads=1=2" ∷ []) ≡ Some (record silent { threads = Some (codes "1=2") })
two_equals = refl

-- ---- others

three_alone : said (codes "gen" ∷ codes "7" ∷ codes "7" ∷ []) ≡ None
three_alone = refl

help : said (codes "--help" ∷ []) ≡ None
help = refl

a_letter : said (codes "-h" ∷ []) ≡ None
a_letter = refl

a_version : said (codes "--version" ∷ []) ≡ None
a_version = refl

a_part_of_a_name : said (codes "trace" ∷ codes "--worker" ∷ codes "4" ∷ []) ≡ None
a_part_of_a_name = refl

no_value : said (codes "run" ∷ codes "--threads" ∷ []) ≡ None
no_value = refl

no_value_before_dashes : said (codes "trace" ∷ codes "--workers" ∷ codes "--" ∷ codes "4" ∷ []) ≡ None
no_value_before_dashes = refl

no_value_before_an_option : said (codes "--workers" ∷ codes "--json" ∷ codes "trace" ∷ []) ≡ None
no_value_before_an_option = refl

a_value_with_a_hyphen : said (codes "run" ∷ codes "--seed" ∷ codes "-1" ∷ []) ≡ None
a_value_with_a_hyphen = refl

an_option_twice : said (codes "run" ∷ codes "--seed" ∷ codes "1" ∷ codes "--seed=1" ∷ []) ≡ None
an_option_twice = refl

a_flag_twice : said (codes "trace" ∷ codes "--json" ∷ codes "--json" ∷ []) ≡ None
a_flag_twice = refl

each_twice : said (codes "explore" ∷ codes "--each" ∷ codes "--json" ∷ codes "--each" ∷ []) ≡ None
each_twice = refl

a_flag_with_a_value : said (codes "trace" ∷ codes "--json=1" ∷ []) ≡ None
a_flag_with_a_value = refl

a_flag_with_no_text : said (codes "--json=" ∷ []) ≡ None
a_flag_with_no_text = refl

a_command_as_an_option : said (codes "--command=trace" ∷ []) ≡ None
a_command_as_an_option = refl
