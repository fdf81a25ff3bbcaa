use Rattle.std.proofs.lemmas.Result.{err_from_is_err_and}
use Rattle.sql_keeper.proofs.read_back.read_all.Goals as goal

pub returns-in_err-finish-clause-damaged : goal.returns-in_err-finish-clause-damaged
returns-in_err-finish-clause-damaged g c =
    let passed = err_from_is_err_and c.from_residual-in_err-finish.result c.from_residual-in_err-finish.ensures.1 in
    rw (passed.1, passed.2) (λ place text is. c.in_err-finish.ensures.damaged place text (cc is))
