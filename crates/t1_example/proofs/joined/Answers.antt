use Rattle.std.proofs.lemmas.Result.{err_from_is_err_and}
use Rattle.t1_font.specs.ReadFont.{read_font}
use Rattle.t1_algebra.specs.{Keep.{subset}, Profile.{profile}}
use Rattle.t1_example.proofs.{Callers.{only_memory, read_back}, Outcomes.{first_unread, second_unread, both_read}}
use Rattle.t1_example.proofs.joined.Goals as goal

pub returns-in_err-one-clause-subsets : goal.returns-in_err-one-clause-subsets
returns-in_err-one-clause-subsets c = let p = err_from_is_err_and c.from_residual.result c.from_residual.ensures.1 in rw (p.1, p.2) (λ f a b w i k e.
    only_memory (read_font c.args.first.now) (subset profile f a) c.in_err-one.field-0.0 e.0 c.in_err-one.ensures.exact)

pub returns-in-Err-clause-subsets : goal.returns-in-Err-clause-subsets
returns-in-Err-clause-subsets c = λ f a b w i k e.
    only_memory (read_font c.args.second.now) (subset profile f b) c.in-Err.fault e.1 c.in-Err.ensures.exact

pub returns-clause-subsets : goal.returns-clause-subsets
returns-clause-subsets c = λ f a b w i k e.
    c.merged_file-file.ensures.subsets f a b w i k
    (read_back c.args.first.now (subset profile f a) c.in_ok-one.one e.0 c.in_ok-one.ensures.exact)
    (read_back c.args.second.now (subset profile f b) c.in-Ok.other e.1 c.in-Ok.ensures.exact)

pub returns-in_err-one-clause-comes : goal.returns-in_err-one-clause-comes
returns-in_err-one-clause-comes c = let p = err_from_is_err_and c.from_residual.result c.from_residual.ensures.1 in rw (p.1, p.2) (
    first_unread c.in_err-one.field-0.0 (read_font c.args.first.now) (read_font c.args.second.now) c.args.form c.in_err-one.ensures.exact)

pub returns-in-Err-clause-comes : goal.returns-in-Err-clause-comes
returns-in-Err-clause-comes c =
    second_unread c.in-Err.fault (read_font c.args.first.now)
    (read_font c.args.second.now) c.args.form c.in_ok-one.one c.in_ok-one.ensures.exact c.in-Err.ensures.exact

pub returns-clause-comes : goal.returns-clause-comes
returns-clause-comes c =
    both_read (read_font c.args.first.now) (read_font c.args.second.now)
    c.args.form c.in_ok-one.one c.in-Ok.other c.merged_file-file.result c.in_ok-one.ensures.exact c.in-Ok.ensures.exact c.merged_file-file.ensures.comes
