-- EPS files for DOS, which have a header before the PostScript (Encapsulated PostScript File Format 3.0, 5.2).
use Rattle.std.specs.{Prelude.{ℕ, ◌+◌, ◌^◌, nat_le, nat_lt, List, [], ◌∷◌, ◌++◌, length, take, drop, Option, Some, None, if◌then◌else◌}, Option.{option_and_then}}
use Rattle.byteorder.specs.Endian.{little_number, little_bytes}
use Rattle.t1_grammar.specs.Grammar.{Grammar, ◌>>=◌, ◌>>◌, pure, count, fixed}
use Rattle.t1_bytes.specs.White.{has_bytes}

-- the four bytes that such a file begins with, and no text does
abbrev pub dos_mark : List ℕ
dos_mark = 197 ∷ 208 ∷ 211 ∷ 198 ∷ []

-- a part of a file: where it begins, and how many bytes it has
pub record Part : Type 0 where
  pub start : ℕ
  pub len : ℕ

-- the parts of which a header speaks: the PostScript, and previews as a Windows metafile and as TIFF
pub record Header : Type 0 where
  pub postscript : Part
  pub metafile : Part
  pub tiff : Part

-- where a part begins and how long it is, in four bytes each, the lowest first
unfoldable pub part : Grammar Part
part = do
  start ← count 4
  len ← count 4
  pure (record { start = little_number 4 start; len = little_number 4 len })

-- the header: its mark, three parts, and a sum of two bytes
unfoldable pub header : Grammar Header
header = do
  fixed dos_mark
  postscript ← part
  metafile ← part
  tiff ← part
  count 2
  pure (record { postscript = postscript; metafile = metafile; tiff = tiff })

-- the bytes of a part, if the file has all of them
abbrev pub part_of : List ℕ → Part → Option (List ℕ)
part_of file p = if nat_le (p.start + p.len) (length file) then Some (take p.len (drop p.start file)) else None

-- the PostScript stands behind the header of 30 bytes
abbrev pub section : List ℕ → Header × List ℕ → Option (List ℕ)
section file x = if nat_le 30 x.0.postscript.start then part_of file x.0.postscript else None

-- the PostScript of an EPS file for DOS
unfoldable pub dos_postscript : List ℕ → Option (List ℕ)
dos_postscript file = option_and_then (section file) (header.read file)

-- ---- with other PostScript

-- the bytes of a preview; none where the file ends before them
abbrev pub some_bytes : Option (List ℕ) → List ℕ
some_bytes None = []
some_bytes (Some bytes) = bytes

-- a part in a header, which begins behind so many bytes; both numbers are 0 where it has no bytes
abbrev pub place_bytes : ℕ → List ℕ → List ℕ
place_bytes at bytes = if has_bytes bytes then little_bytes 4 at ++ little_bytes 4 (length bytes) else little_bytes 4 0 ++ little_bytes 4 0

-- An EPS file for DOS: the header, which has no sum (all bits of its bytes are set), then PostScript, and previews.
abbrev pub dos_bytes : List ℕ → List ℕ → List ℕ → List ℕ
dos_bytes postscript metafile tiff =
    dos_mark ++ (place_bytes 30 postscript ++ (place_bytes (30 + length postscript) metafile
    ++ (place_bytes (30 + length postscript + length metafile) tiff ++ (255 ∷ 255 ∷ [] ++ (postscript ++ (metafile ++ tiff))))))

-- the same, if its numbers fit into four bytes
abbrev pub dos_if_short : List ℕ → List ℕ → List ℕ → Option (List ℕ)
dos_if_short postscript metafile tiff =
    if nat_lt (30 + length postscript + length metafile + length tiff) (2 ^ 32) then Some (dos_bytes postscript metafile tiff) else None

-- with the previews of a file
abbrev pub with_previews : List ℕ → List ℕ → Header × List ℕ → Option (List ℕ)
with_previews file postscript x = dos_if_short postscript (some_bytes (part_of file x.0.metafile)) (some_bytes (part_of file x.0.tiff))

-- an EPS file for DOS with this PostScript in place of its own, if that is not too long
unfoldable pub with_postscript : List ℕ → List ℕ → Option (List ℕ)
with_postscript file postscript = option_and_then (with_previews file postscript) (header.read file)
