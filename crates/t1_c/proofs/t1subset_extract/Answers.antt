use Rattle.t1_subset.specs.NameSets.{lent}
use Rattle.t1_cmd.specs.{Documents.{text_input}, Extracts.{ExtractsTo}}
use Rattle.t1_c.proofs.Given.{gives_files}
use Rattle.t1_c.proofs.t1subset_extract.Goals as goal

pub returns : goal.returns
returns c =
    gives_files text_input (ExtractsTo c.args.name.now) (lent c.args.documents.now) (λ v. v.items) c.extract_file.result c.give_files.result
    c.give_files.new.answer c.extract_file.ensures.text c.extract_file.ensures.refused c.give_files.ensures.whole c.give_files.ensures.told
