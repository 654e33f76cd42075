use Rattle.std.proofs.Common.{map, refl}
use Rattle.t1_subset.specs.NameSets.{lent}
use Rattle.t1_dsc.specs.Joining.{joined_pages}
use Rattle.t1_cmd.proofs.pages.pages.Goals as goal

pub returns-in-Err-clause-refused : goal.returns-in-Err-clause-refused
returns-in-Err-clause-refused c =
    let fonts = c.in_ok-separated.separated.fonts.items in
    let lined = map (λ d. d.items) c.in_ok-separated.separated.documents.items in
    c.reason_of.ensures c.args.tags (lent c.args.documents.now) (joined_pages fonts lined) (fonts, lined, c.in_ok-separated.ensures.apart, refl)
    c.in-Err.ensures.over
