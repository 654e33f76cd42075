-- The document that a file carries, and what stands around it.
use Rattle.std.specs.Prelude.{ℕ, ◌-◌, Bool, List, ◌++◌, length, take, drop, codes, Option, Some, None, Result, Ok, Err, if◌then◌else◌}
use Rattle.t1_jobs.specs.{declared.jobs.NoDocument.{NoDocument}}
use Rattle.t1_jobs.specs.declared.jobs.NoDocument.TheVariants.{IsA, BadHeader, JobEnds}
use Rattle.t1_jobs.specs.{Kinds.{begins_with, file_kind, kind_text}, Words.{behind_words, document_len}, Dos.{dos_mark, dos_postscript, with_postscript}}

-- a document, and how many bytes stand before it and behind it in its job
pub record Job : Type 0 where
  pub document : List ℕ
  pub before : ℕ
  pub behind : ℕ

-- so many bytes of what stands in a job behind the words that begin it are the document
abbrev pub job_with : List ℕ → List ℕ → Option ℕ → Result Job NoDocument
job_with job text None = Err JobEnds
job_with job text (Some n) = Ok (record { document = take n text; before = length job - length text; behind = length text - n })

-- The document of a job: PostScript behind the words of the printer with which the job begins, and before those with which it ends.
abbrev pub job_behind : List ℕ → List ℕ → Result Job NoDocument
job_behind job text = if begins_with (codes "%!") text then job_with job text (document_len text) else Err (IsA (file_kind text))

abbrev pub in_job : List ℕ → Result Job NoDocument
in_job job = job_behind job (behind_words job)

-- the document of the PostScript in an EPS file for DOS, if there is any
abbrev pub in_section : Option (List ℕ) → Result Job NoDocument
in_section None = Err BadHeader
in_section (Some job) = in_job job

-- a file begins as an EPS file for DOS does
abbrev pub is_dos : List ℕ → Bool
is_dos file = begins_with dos_mark file

-- the document that a file carries: that of the PostScript in an EPS file for DOS, or its own
abbrev pub job_by : Bool → List ℕ → Result Job NoDocument
job_by dos file = if dos then in_section (dos_postscript file) else in_job file

-- the document that a file carries
abbrev pub job_of : List ℕ → Result Job NoDocument
job_of file = job_by (is_dos file) file

-- ---- with another document

-- a job with this document in place of its own
abbrev pub job_around : List ℕ → List ℕ → Job → List ℕ
job_around job document j = take j.before job ++ (document ++ drop (length job - j.behind) job)

-- the same where there is one; else the document alone
abbrev pub around_if : List ℕ → List ℕ → Result Job NoDocument → List ℕ
around_if job document (Ok j) = job_around job document j
around_if job document (Err why) = document

-- a job that carries this document in place of its own
abbrev pub job_with_document : List ℕ → List ℕ → List ℕ
job_with_document job document = around_if job document (in_job job)

-- a file, or else its PostScript alone
abbrev pub file_or : Option (List ℕ) → List ℕ → List ℕ
file_or None postscript = postscript
file_or (Some file) postscript = file

-- an EPS file for DOS with this PostScript, or the PostScript alone where its header can't say how long that is
abbrev pub dos_or_postscript : List ℕ → List ℕ → List ℕ
dos_or_postscript file postscript = file_or (with_postscript file postscript) postscript

-- an EPS file for DOS whose PostScript carries this document in place of its own; where it lacks its PostScript, the document alone
abbrev pub dos_with_document : List ℕ → List ℕ → Option (List ℕ) → List ℕ
dos_with_document file document None = document
dos_with_document file document (Some job) = dos_or_postscript file (job_with_document job document)

-- a file that carries this document in place of its own
abbrev pub with_document : List ℕ → List ℕ → List ℕ
with_document file document = if is_dos file then dos_with_document file document (dos_postscript file) else job_with_document file document

-- ---- what is printed

-- what is printed where a file carries no document
abbrev pub no_document_text : NoDocument → List ℕ
no_document_text (IsA kind) = codes "no document: " ++ kind_text kind
no_document_text BadHeader = codes "no document: an EPS file for DOS without its PostScript"
no_document_text JobEnds = codes "no document: a job ends inside"
