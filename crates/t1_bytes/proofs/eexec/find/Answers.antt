use Rattle.std.proofs.Common.{sym, ap, subst, ◌∙◌, ◌-◌, Ok, arith, length, ℕ, List}
use Rattle.t1_bytes.{specs.Faults.{Refused}, proofs.EexecLemmas.{placed, cipher_of, split_within, split_absent, split_found, err_placed, cipher_stays}}
use Rattle.t1_bytes.proofs.eexec.find.Goals as goal

pub overflow_sub-result : goal.overflow_sub-result
overflow_sub-result c = split_within c.args.flat.now c.in-Some.after.now (sym c.in-Some.ensures)

pub returns-in_default-clause-found : goal.returns-in_default-clause-found
returns-in_default-clause-found c = split_absent c.args.flat.now (sym c.in_default.ensures)

pub returns-in-Ok-clause-found : goal.returns-in-Ok-clause-found
returns-in-Ok-clause-found c =
    let n = length c.args.flat.now - length c.in-Some.after.now in
    split_found c.args.flat.now c.in-Some.after.now (sym c.in-Some.ensures)
    ∙ (ap (placed n) c.in-Ok.ensures.cipher
    ∙ ap (λ (cipher : List ℕ). Ok (n, cipher)) (cipher_stays c.args.flat.now c.in-Some.after.now (sym c.in-Some.ensures) c.in-Ok.cipher c.in-Ok.ensures.last))

pub returns-in-Ok-clause-last : goal.returns-in-Ok-clause-last
returns-in-Ok-clause-last c = omega (arith, c.in-Ok.ensures.last, split_within c.args.flat.now c.in-Some.after.now (sym c.in-Some.ensures))

pub returns-in-Err-clause-found : goal.returns-in-Err-clause-found
returns-in-Err-clause-found c =
    let n = length c.args.flat.now - length c.in-Some.after.now in
    subst (Refused c.in-Err.fault) (sym (split_found c.args.flat.now c.in-Some.after.now (sym c.in-Some.ensures)))
    (err_placed c.in-Err.fault n (cipher_of c.in-Some.after.now) c.in-Err.ensures.cipher)
