-- The codes of boards are codes, so of boards with one key the boards are one.
use Rattle.std.proofs.Common.{◌≡◌, ℕ, List, ◌++◌, get_or, refl, ap, arith}
use Rattle.short_codes.specs.Codes.{IsCode}
use Rattle.short_codes.proofs.Codes.{flag_code, list_code, mapped_code, number_code, pair_code, whole}
use Rattle.row_codes.specs.AreCodes.{is_routine_id_code, is_target_code, is_who_code}
use Rattle.row_codes.proofs.Worlds.{is_world_code}
use Rattle.tp_base.specs.declared.plans.Stage.{Stage}
use Rattle.tp_base.specs.declared.plans.Stage.TheVariants.{Away, Busy, Idle, Over, Playing}
use Rattle.tp_script.specs.declared.routines.Progress.{Progress}
use Rattle.part_places.specs.declared.place.Place.{Place}
use Rattle.tp_explore.specs.declared.noted.Hush.{Hush}
use Rattle.tp_explore.specs.declared.noted.Use.{Use}
use Rattle.tp_explore.specs.Boards.{Board}
use Rattle.tp_explore.specs.Keys.{board_code, hush_code, noted_code, place_code, progress_code, stage_code, use_code}
use Rattle.tp_explore.specs.Names.{is_names_code}
use Rattle.tp_explore.specs.Noted.{Noted}

-- the first byte of a text
abbrev first : List ℕ → ℕ
first text = get_or text 0 0

stage_code_tells : (x y : Stage) (s t : List ℕ) → stage_code x ++ s ≡ stage_code y ++ t → (x ≡ y) × (s ≡ t)
stage_code_tells Playing Playing s t h = (refl, cc)
stage_code_tells Over Over s t h = (refl, cc)
stage_code_tells Away Away s t h = (refl, cc)
stage_code_tells Idle Idle s t h = (refl, cc)
stage_code_tells (Busy a) (Busy b) s t h = let p = is_routine_id_code.tells a b s t cc in (ap (λ q. Busy q) p.0, p.1)
stage_code_tells x y s t h = absurd (omega (arith, ap first h))

pub is_stage_code : IsCode stage_code
is_stage_code = record { tells = stage_code_tells }

pub is_progress_code : IsCode progress_code
is_progress_code = mapped_code
    (λ (at : Progress). (((((at.op, at.done), at.met), at.ending), at.locals), at.operations))
    (λ q. record { op = q.0.0.0.0.0; done = q.0.0.0.0.1; met = q.0.0.0.1; ending = q.0.0.1; locals = q.0.1; operations = q.1 })
    (λ at. refl)
    (pair_code (pair_code (pair_code (pair_code (pair_code number_code number_code) flag_code) flag_code) is_names_code) is_names_code)

pub is_place_code : IsCode place_code
is_place_code = mapped_code
    (λ (p : Place). (((p.stage, p.waits), p.at), p.cut))
    (λ q. record { stage = q.0.0.0; waits = q.0.0.1; at = q.0.1; cut = q.1 })
    (λ p. refl)
    (pair_code (pair_code (pair_code is_stage_code flag_code) is_progress_code) flag_code)

pub is_use_code : IsCode use_code
is_use_code = mapped_code (λ (u : Use). (u.who, u.memory)) (λ q. record { who = q.0; memory = q.1 }) (λ u. refl) (pair_code is_who_code number_code)

pub is_hush_code : IsCode hush_code
is_hush_code = mapped_code (λ (h : Hush). (h.line, h.target)) (λ q. record { line = q.0; target = q.1 }) (λ h. refl) (pair_code number_code is_target_code)

pub is_noted_code : IsCode noted_code
is_noted_code = mapped_code
    (λ (n : Noted). ((((n.freed, n.held), n.leaving), n.quiet), n.lines))
    (λ q. record { freed = q.0.0.0.0; held = q.0.0.0.1; leaving = q.0.0.1; quiet = q.0.1; lines = q.1 })
    (λ n. refl)
    (pair_code (pair_code (pair_code (pair_code (list_code number_code) (list_code is_use_code)) (list_code is_use_code)) (list_code is_hush_code)) (list_code number_code))

pub is_board_code : IsCode board_code
is_board_code = mapped_code
    (λ (b : Board). (((b.world, b.made), b.places), b.noted))
    (λ q. record { world = q.0.0.0; made = q.0.0.1; places = q.0.1; noted = q.1 })
    (λ b. refl)
    (pair_code (pair_code (pair_code is_world_code number_code) (list_code is_place_code)) is_noted_code)

pub board_told : (a b : Board) → board_code a ≡ board_code b → a ≡ b
board_told a b = whole is_board_code a b
