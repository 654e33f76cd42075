-- A start of names that stands nowhere.
use Rattle.std.proofs.Common.{ℕ, List}
use Rattle.t1_document.{specs.Pooling.{free_start}, proofs.{OwnStarts.{start_is_free}, FreeStarts.{IsStart, start_absent, free_is, the_longest, all_free}}}
use Rattle.t1_dsc.specs.{Joining.{names_start}, Laws.{NamesAreFree}}

-- what the names begin with is a start
pub names_start_is : (fonts : List ℕ) (documents : List (List ℕ)) → IsStart (names_start fonts documents)
names_start_is fonts documents = (the_longest (free_start fonts) documents (free_is fonts)).is

pub names_are_free : NamesAreFree
names_are_free = record {
  fonts = λ fonts documents.
      let last = the_longest (free_start fonts) documents (free_is fonts) in
      start_absent (free_start fonts) (names_start fonts documents) fonts (free_is fonts) last.is last.first (start_is_free fonts);
  documents = λ fonts documents. all_free (free_start fonts) documents (free_is fonts);
}
