-- What is claimed of a result where memory was refused: nothing.
use Rattle.std.proofs.Common.{◌≡◌, ℕ, IfErr, sym, subst}
use Rattle.std.specs.Prelude.{Result, Err}
use Rattle.std.specs.Result.{IsErrAnd}
use Rattle.std.proofs.lemmas.Result.{err_from_is_err_and}
use Rattle.line_grammar.specs.Faults.{IsOrNoMemory, IsPlace}
use Rattle.line_grammar.specs.declared.faults.TextFault.{TextFault}
use Rattle.line_grammar.specs.declared.faults.TextFault.TheVariants.{NoMemory}

pub or_no_memory : {T : Type 0} (P : T → Type 0) (r : Result T TextFault) → IsErrAnd r (λ fault. fault ≡ NoMemory) → IsOrNoMemory P r
or_no_memory P r refused =
    let e = err_from_is_err_and r refused in
    subst (λ x. IsOrNoMemory P x) (sym e.1) (subst (λ fault. IsOrNoMemory P (Err fault)) (sym e.2) tt)

pub no_place : {T : Type 0} (F : ℕ → ℕ → Type 0) (r : Result T TextFault) → IsErrAnd r (λ fault. fault ≡ NoMemory) → IfErr r (λ fault. IsPlace F fault)
no_place F r refused =
    let e = err_from_is_err_and r refused in
    subst (λ x. IfErr x (λ fault. IsPlace F fault)) (sym e.1) (subst (λ fault. IsPlace F fault) (sym e.2) tt)
