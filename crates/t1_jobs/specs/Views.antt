-- What values of the code mean.
use Rattle.t1_jobs.specs.{declared.jobs.Job.{Job as CodeJob}, declared.dos.Part.{Part as CodePart}, declared.dos.Header.{Header as CodeHeader}, Jobs.{Job}, Dos.{Part, Header}}

-- a document with what stands around it
abbrev pub job_view : CodeJob → Job
job_view c = record { document = c.document.now; before = c.before; behind = c.behind }

-- a part of a file
abbrev pub part_view : CodePart → Part
part_view p = record { start = p.start; len = p.len }

-- a header
abbrev pub header_view : CodeHeader → Header
header_view h = record { postscript = part_view h.postscript; metafile = part_view h.metafile; tiff = part_view h.tiff }
