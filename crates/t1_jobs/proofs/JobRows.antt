-- Rows of jobs, computed.
use Rattle.std.proofs.Common.{◌≡◌, refl}
use Rattle.std.specs.Prelude.{[], ◌∷◌, ◌++◌, codes, Ok, Err}
use Rattle.t1_jobs.specs.declared.kinds.FileKind.TheVariants.{Empty, Pdf, Pfb, OpenType, TrueType, Html, Other}
use Rattle.t1_jobs.specs.declared.jobs.NoDocument.TheVariants.{IsA, BadHeader, JobEnds}
use Rattle.t1_jobs.specs.{Kinds.{font_kind, packed_kind, file_kind}, Words.{universal_exit, pjl_line, word, behind_some, len_within}, Dos.{part, header, dos_postscript}}
use Rattle.t1_jobs.specs.Jobs.{job_of}

-- a document by itself
alone : job_of (codes "%!x\n") ≡ Ok (record { document = codes "%!x\n"; before = 0; behind = 0 })
unfolding word pjl_line behind_some len_within
alone = refl

-- ^D before it, and ^D and LF behind it
between_ends : job_of (4 ∷ (codes "%!x\n" ++ 4 ∷ 10 ∷ [])) ≡ Ok (record { document = codes "%!x\n"; before = 1; behind = 2 })
unfolding word pjl_line behind_some len_within
between_ends = refl

-- a job by PJL
by_pjl : job_of (universal_exit ++ (codes "@PJL JOB\r\n" ++ (codes "%!x\n" ++ (universal_exit ++ codes "@PJL EOJ"))))
    ≡ Ok (record { document = codes "%!x\n"; before = 19; behind = 17 })
unfolding word pjl_line behind_some len_within
by_pjl = refl

-- ^D among data stays
data_stays : job_of (codes "%!x" ++ 4 ∷ codes "y") ≡ Ok (record { document = codes "%!x" ++ 4 ∷ codes "y"; before = 0; behind = 0 })
unfolding word pjl_line behind_some len_within
data_stays = refl

-- another document behind ^D
two_jobs : job_of (codes "%!x" ++ 4 ∷ codes "\n%!y") ≡ Err JobEnds
unfolding word pjl_line behind_some len_within
two_jobs = refl

-- something else behind the universal exit
other_language : job_of (codes "%!x" ++ (universal_exit ++ codes "y")) ≡ Err JobEnds
unfolding word pjl_line behind_some len_within
other_language = refl

-- what is no document
no_bytes : job_of [] ≡ Err (IsA Empty)
unfolding word pjl_line behind_some len_within file_kind font_kind packed_kind
no_bytes = refl

a_pdf : job_of (codes "%PDF-1.4") ≡ Err (IsA Pdf)
unfolding word pjl_line behind_some len_within file_kind font_kind packed_kind
a_pdf = refl

-- an EPS file for DOS: its PostScript stands behind the header of 30 bytes, or behind others
dos : job_of (197 ∷ 208 ∷ 211 ∷ 198 ∷ 31 ∷ 0 ∷ 0 ∷ 0 ∷ 3 ∷ 0 ∷ 0 ∷ 0 ∷ (codes "123456789012345678" ++ codes "-%!x-"))
    ≡ Ok (record { document = codes "%!x"; before = 0; behind = 0 })
unfolding word pjl_line behind_some len_within part header dos_postscript
dos = refl

-- one that ends before its header says
dos_short : job_of (197 ∷ 208 ∷ 211 ∷ 198 ∷ 30 ∷ 0 ∷ 0 ∷ 0 ∷ 6 ∷ 0 ∷ 0 ∷ 0 ∷ (codes "123456789012345678" ++ codes "-%!x-")) ≡ Err BadHeader
unfolding word pjl_line behind_some len_within part header dos_postscript
dos_short = refl

-- kinds
kinds : (file_kind (codes "OTTO") ≡ OpenType) × (file_kind (0 ∷ 1 ∷ 0 ∷ 0 ∷ []) ≡ TrueType) × (file_kind (128 ∷ 1 ∷ []) ≡ Pfb)
    × (file_kind (codes "<html>") ≡ Html) × (file_kind (codes "%") ≡ Other)
unfolding file_kind font_kind packed_kind
kinds = (refl, refl, refl, refl, refl)
