-- Files whose documents are levelled.
use Rattle.std.specs.Prelude.{◌≡◌, ℕ, List, [], ◌∷◌, map, Result, Ok, Err}
use Rattle.t1_jobs.specs.{declared.jobs.NoDocument.{NoDocument}, Jobs.{Job, job_of, with_document}}
use Rattle.t1_document.specs.{Rewriting.{NewTexts, levelled}, Joins.{Outcomes, AreOutcomes, new_texts, places_of_all}}

-- the document of a job; no bytes where there is none
abbrev pub document_or : Result Job NoDocument → List ℕ
document_or (Ok job) = job.document
document_or (Err why) = []

-- the document that a file carries
abbrev pub carried : List ℕ → List ℕ
carried file = document_or (job_of file)

-- a file with its document levelled; what stands around it stays
abbrev pub levelled_file : NewTexts → List ℕ → List ℕ
levelled_file new file = with_document file (levelled new (carried file))

-- files that carry these documents in place of their own, one for one
abbrev pub files_with : List (List ℕ) → List (List ℕ) → List (List ℕ)
files_with [] documents = []
files_with (f ∷ fs) [] = []
files_with (f ∷ fs) (d ∷ ds) = with_document f d ∷ files_with fs ds

-- the outcomes are those of the fonts of all documents, and each file with its document levelled is one of these
abbrev pub LevelsFiles : List (List ℕ) → List (List ℕ) → Type 0
LevelsFiles files out = (outcomes : Outcomes) × AreOutcomes (places_of_all (map carried files)) outcomes
    × (out ≡ map (levelled_file (new_texts outcomes)) files)
