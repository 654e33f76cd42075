-- What the engines over documents read and write.
use Rattle.std.specs.{Prelude.{◌≡◌, ℕ, Bool, true, false, ◌≤◌, ◌<◌, List, [], ◌∷◌, ◌++◌, map, length, codes, Option, Some, Result, Ok, Err, if◌then◌else◌}, List.{flat_map}}
use Rattle.t1_bytes.specs.Limits.{file_limit}
use Rattle.t1_join.specs.Shown.{shown}
use Rattle.t1_document.specs.{declared.joins.Outcome.{Outcome}, declared.joins.Outcome.TheVariants.{Stays}, declared.joins.Kept.TheVariants.{Barred}}
use Rattle.t1_document.specs.{declared.pooling.Key.{Key}, declared.pooling.Key.TheVariants.{Name, Family}, Lines.{one_text}, Documents.{Place, document_of}}
use Rattle.t1_document.specs.{Joins.{Outcomes, AreOutcomes, kept_text, names_from, new_texts}, Rewriting.{is_seen}}
use Rattle.t1_document.specs.{Pooling.{free_start, keyed, left_keys}, PoolLaws.{PooledByKeys}}
use Rattle.t1_jobs.specs.{declared.jobs.NoDocument.{NoDocument}, Jobs.{Job, job_of}}
use Rattle.t1_cmd.specs.{declared.documents.Taken.{Taken}, declared.documents.Taken.TheVariants.{Document, File}}
use Rattle.t1_cmd.specs.{declared.faults.Reason.{Reason}, declared.faults.Reason.TheVariants.{TooLong, Document as DocumentReason}, Answers.{within_limit}}

-- the document of a job, or the file in which that job is; or why there is none
abbrev pub taken_of : Taken → List ℕ → Result Job NoDocument → Result (List ℕ) Reason
taken_of taken file (Err why) = Err (DocumentReason why)
taken_of Document file (Ok job) = Ok job.document
taken_of File file (Ok job) = Ok file

-- what is taken of a file that carries a document
abbrev pub taken_input : Taken → List ℕ → Result (List ℕ) Reason
taken_input taken = within_limit (λ bytes. taken_of taken bytes (job_of bytes))

-- the document that a file carries
abbrev pub text_input : List ℕ → Result (List ℕ) Reason
text_input = taken_input Document

-- the file itself
abbrev pub file_input : List ℕ → Result (List ℕ) Reason
file_input = taken_input File

-- ---- pooled

-- a text with each font once: one font for each name, and then also one for names that are equal without their tags
abbrev pub PooledAs : Bool → List ℕ → List ℕ → Type 0
PooledAs false text out = PooledByKeys Name text out
PooledAs true text out = (between : List ℕ) × PooledByKeys Name text between × PooledByKeys Family between out

-- documents one behind the other with each font once, if they are together within the file limit
abbrev pub PoolsBehind : Bool → List (List ℕ) → Result (List ℕ) Reason → Type 0
PoolsBehind tags documents (Ok out) = (length (one_text documents) ≤ file_limit) × PooledAs tags (one_text documents) out
PoolsBehind tags documents (Err TooLong) = file_limit < length (one_text documents)
PoolsBehind tags documents (Err r) = ⊥

-- ---- what is told of names that keep their fonts

-- the line of a name that keeps its fonts
abbrev pub kept_line : List ℕ → Option Outcome → List ℕ
kept_line name (Some (Stays why)) = codes "kept " ++ shown name ++ codes ": " ++ kept_text why ++ 10 ∷ []
kept_line name o = []

-- the lines of the names of places that keep their fonts, in the order in which they come first
abbrev pub kept_lines : Outcomes → List Place → List ℕ
kept_lines outcomes ps = flat_map (λ name. kept_line name (outcomes name)) (names_from [] ps)

-- these are the lines of the names that keep their fonts among places
abbrev pub TellsKept : List Place → List ℕ → Type 0
TellsKept ps lines = (outcomes : Outcomes) × AreOutcomes ps outcomes × (lines ≡ kept_lines outcomes ps)

-- what is told of keys: those that are left keep their fonts since the joined font doesn't fit a place
abbrev pub told_of : List (List ℕ) → Outcomes → Outcomes
told_of left outcomes key = if is_seen left key then Some (Stays Barred) else outcomes key

-- the line of each name of places, which is empty where the name is told nothing of, in the order in which the names come first
abbrev pub told_lines : Outcomes → List Place → List (List ℕ)
told_lines outcomes ps = map (λ name. kept_line name (outcomes name)) (names_from [] ps)

-- the keys of a text that are left, if fonts come to this
abbrev pub left_of : Key → List ℕ → Outcomes → List (List ℕ)
left_of by text outcomes = left_keys (free_start text) by (new_texts outcomes) (document_of text).places

-- these are the lines of the keys of a text that keep their fonts, as these don't rejoin or as the key is left
abbrev pub TellsKeys : Key → List ℕ → List (List ℕ) → Type 0
TellsKeys by text lines = (outcomes : Outcomes) × AreOutcomes (keyed by (document_of text).places) outcomes
    × (lines ≡ told_lines (told_of (left_of by text outcomes) outcomes) (keyed by (document_of text).places))

-- lines, one behind the other, without those that are told already
abbrev pub new_lines : List (List ℕ) → List (List ℕ) → List ℕ
new_lines told lines = flat_map (λ line. if is_seen told line then [] else line) lines

-- These are the lines of the names of a text that keep their fonts, and, if families are joined, behind them those of the families of the text that came
-- out that do, but none of them a second time.
abbrev pub TellsPooled : Bool → List ℕ → List ℕ → Type 0
TellsPooled false text lines = (names : List (List ℕ)) × TellsKeys Name text names × (lines ≡ new_lines [] names)
TellsPooled true text lines = (between : List ℕ) × (names families : List (List ℕ)) × PooledByKeys Name text between
    × TellsKeys Name text names × TellsKeys Family between families × (lines ≡ new_lines [] names ++ new_lines names families)
