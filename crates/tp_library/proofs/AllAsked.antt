-- The machine has made what calls asked of it.
use Rattle.std.proofs.Common.{◌≡◌, List, [], ◌∷◌, ◌++◌, Option, Some, None, refl, sym, ap, ◌∙◌}
use Rattle.tp_base.specs.declared.calls.Call.{Call}
use Rattle.tp_base.specs.declared.ids.Who.{Who}
use Rattle.recorded.specs.Recordings.{all_made, made, Recording}
use Rattle.tp_library.specs.Libraries.{all_asked, asked, asked_by, asked_unless, made_at, refusal, stand_after, step_at, unless_refused}
use Rattle.tp_library.specs.Shelves.{Stand}
use Rattle.tp_library.specs.declared.LibCall.{LibCall}
use Rattle.tp_library.specs.declared.LibCall.TheVariants.{Load, Free, FreeOnReturn, Pool}
use Rattle.tp_library.specs.declared.LibRefusal.{LibRefusal}

all_made-append : (r : Recording) (before calls : List (Who × Call)) → all_made r (before ++ calls) ≡ all_made (all_made r before) calls
all_made-append r [] calls = refl
all_made-append r (call ∷ before) calls = all_made-append (made r call) before calls

unrefused : (t : Stand) (who : Who) (call : LibCall) → (made_at t who call).0.recording ≡ all_made t.recording (asked who call)
unrefused t who (Load library) = refl
unrefused t who (Free library) = refl
unrefused t who (FreeOnReturn library) = refl
unrefused t who (Pool call library) = refl

one_made : (t : Stand) (who : Who) (call : LibCall) (refused : Option LibRefusal)
    → (unless_refused refused t (made_at t who call)).0.recording ≡ all_made t.recording (asked_unless refused (asked who call))
one_made t who call (Some refusal) = refl
one_made t who call None = unrefused t who call

pub asked_made : (t : Stand) (calls : List (Who × LibCall)) → (stand_after t calls).recording ≡ all_made t.recording (all_asked t calls)
asked_made t [] = refl
asked_made t (call ∷ calls) =
    let next : Stand = (step_at t call.0 call.1).0 in
    asked_made next calls
    ∙ ap (λ r. all_made r (all_asked next calls)) (one_made t call.0 call.1 (refusal t call.0 call.1))
    ∙ sym (all_made-append t.recording (asked_by t call.0 call.1) (all_asked next calls))
