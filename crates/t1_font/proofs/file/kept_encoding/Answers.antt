use Rattle.std.{proofs.{Common.{sym, subst}, lemmas.Cmp.{nat_cmp_total}}, specs.{Ordering.{nat_cmp}, FinMap.{nat_cmp-IsAntisymmetric}}}
use Rattle.t1_join.specs.TableMeaning.{Rises}
use Rattle.t1_text.specs.Entries.{has_name}
use Rattle.t1_text.proofs.MapLaws.{sorted_filter}
use Rattle.std.specs.FinMap as fin
use Rattle.t1_font.proofs.file.kept_encoding.Goals as goal

pub returns-in_ok-kept-in-Puts-clause-rise : goal.returns-in_ok-kept-in-Puts-clause-rise
returns-in_ok-kept-in-Puts-clause-rise c =
    subst (Rises nat_cmp) (sym c.in_ok-kept-in-Puts.ensures) (sorted_filter nat_cmp_total nat_cmp-IsAntisymmetric has_name
    (fin.entries c.args.codes.now) (fin.entries_sorted c.args.codes.now))
