-- What a file is, by its first bytes: each kind by the signature that its own format gives it.
use Rattle.std.specs.Prelude.{ℕ, ◌&&◌, ◌||◌, ◌==◌, nat_lt, Bool, List, [], ◌∷◌, ◌++◌, length, get_or, codes, Option, Some, None, is_some, if◌then◌else◌}
use Rattle.t1_grammar.specs.Grammar.{fixed}
use Rattle.t1_bytes.specs.White.{has_bytes}
use Rattle.t1_jobs.specs.declared.kinds.FileKind.{FileKind}
use Rattle.t1_jobs.specs.declared.kinds.FileKind.TheVariants.{Empty, PostScript, DosEps, Pdf, Pfb, OpenType, TrueType, Woff, Cff, Afm, Pfm, Gzip, Xz, Zip, Html, Other}

-- bytes begin with this word
abbrev pub begins_with : List ℕ → List ℕ → Bool
begins_with word bytes = is_some ((fixed word).read bytes)

-- The header of the metrics for Windows comes: the version 1.0, and no more than 16 MB as the length of the file.
abbrev pub pfm_comes : List ℕ → Bool
pfm_comes bytes = nat_lt 6 (length bytes) && begins_with (0 ∷ 1 ∷ []) bytes && get_or bytes 5 0 == 0

-- the kind of font, or of its metrics, that bytes begin with
unfoldable pub font_kind : List ℕ → Option FileKind
font_kind bytes =
    if begins_with (codes "OTTO") bytes then Some OpenType
    else if begins_with (0 ∷ 1 ∷ 0 ∷ 0 ∷ []) bytes || begins_with (codes "true") bytes || begins_with (codes "ttcf") bytes then Some TrueType
    else if begins_with (codes "wOFF") bytes || begins_with (codes "wOF2") bytes then Some Woff
    else if begins_with (128 ∷ 1 ∷ []) bytes then Some Pfb
    else if begins_with (1 ∷ 0 ∷ 4 ∷ []) bytes then Some Cff
    else if begins_with (codes "StartFontMetrics") bytes then Some Afm
    else if pfm_comes bytes then Some Pfm
    else None

-- the kind of packed file or page that bytes begin with
unfoldable pub packed_kind : List ℕ → FileKind
packed_kind bytes =
    if begins_with (31 ∷ 139 ∷ []) bytes then Gzip
    else if begins_with (253 ∷ (codes "7zXZ" ++ 0 ∷ [])) bytes then Xz
    else if begins_with (codes "PK" ++ 3 ∷ 4 ∷ []) bytes then Zip
    else if begins_with (codes "<!DOCTYPE") bytes || begins_with (codes "<html") bytes then Html
    else Other

-- the kind of font if there is one, else this
abbrev pub or_kind : Option FileKind → FileKind → FileKind
or_kind None kind = kind
or_kind (Some font) kind = font

-- what a file is
unfoldable pub file_kind : List ℕ → FileKind
file_kind bytes =
    if has_bytes bytes then
    if begins_with (codes "%!") bytes then PostScript
    else if begins_with (197 ∷ 208 ∷ 211 ∷ 198 ∷ []) bytes then DosEps
    else if begins_with (codes "%PDF-") bytes then Pdf
    else or_kind (font_kind bytes) (packed_kind bytes)
    else Empty

-- what is printed of a kind
abbrev pub kind_text : FileKind → List ℕ
kind_text Empty = codes "an empty file"
kind_text PostScript = codes "a PostScript file"
kind_text DosEps = codes "an EPS file for DOS"
kind_text Pdf = codes "a PDF file"
kind_text Pfb = codes "a PFB font"
kind_text OpenType = codes "an OpenType font"
kind_text TrueType = codes "a TrueType font"
kind_text Woff = codes "a WOFF font"
kind_text Cff = codes "a CFF font"
kind_text Afm = codes "an AFM file"
kind_text Pfm = codes "a PFM file"
kind_text Gzip = codes "a gzip file"
kind_text Xz = codes "an xz file"
kind_text Zip = codes "a zip file"
kind_text Html = codes "an HTML page"
kind_text Other = codes "an unknown file"
