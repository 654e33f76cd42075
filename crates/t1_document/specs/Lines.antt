-- The lines of a PostScript document: one begins at the start and behind each CR, LF and CR LF.
use Rattle.std.specs.Prelude.{ℕ, suc, ◌==◌, ◌&&◌, ◌||◌, not, Bool, true, false, List, [], ◌∷◌, ◌++◌, take, drop, if◌then◌else◌}

-- LF comes
abbrev pub lf_comes : List ℕ → Bool
lf_comes [] = false
lf_comes (b ∷ bs) = b == 10

-- a line ends with this byte, before these: it is LF, or CR that no LF follows
abbrev pub line_closes : ℕ → List ℕ → Bool
line_closes b behind = b == 10 || b == 13 && not (lf_comes behind)

-- a byte, at the front of the first line
abbrev pub into_first : ℕ → List (List ℕ) → List (List ℕ)
into_first b [] = (b ∷ []) ∷ []
into_first b (line ∷ lines) = (b ∷ line) ∷ lines

-- the lines of a text, each with its end; the last one may have none
unfoldable pub lines_of : List ℕ → List (List ℕ)
lines_of [] = []
lines_of (b ∷ bs) = if line_closes b bs then (b ∷ []) ∷ lines_of bs else into_first b (lines_of bs)

-- how many bytes the first line has, with its end
unfoldable pub line_len : List ℕ → ℕ
line_len [] = 0
line_len (b ∷ bs) = if line_closes b bs then 1 else suc (line_len bs)

-- the first line with its end, and the text behind it
abbrev pub line_of : List ℕ → List ℕ × List ℕ
line_of text = (take (line_len text) text, drop (line_len text) text)

-- CR or LF
abbrev pub is_line_end : ℕ → Bool
is_line_end b = b == 10 || b == 13

-- how many bytes the end of a line has that comes first: two for CR LF, and none if there are no bytes
abbrev pub end_len : List ℕ → ℕ
end_len [] = 0
end_len (b ∷ bs) = if b == 13 && lf_comes bs then 2 else 1

-- there are no bytes
abbrev pub no_bytes : List ℕ → Bool
no_bytes [] = true
no_bytes (b ∷ bs) = false

-- between these two texts a line ends, or one of them is empty
abbrev pub breaks : List ℕ → List ℕ → Bool
breaks [] behind = true
breaks (b ∷ []) behind = no_bytes behind || line_closes b behind
breaks (b ∷ c ∷ text) behind = breaks (c ∷ text) behind

-- a document behind others: an LF stands between if no line ends there
abbrev pub with_document : List ℕ → List ℕ → List ℕ
with_document text document = if breaks text document then text ++ document else (text ++ 10 ∷ []) ++ document

-- documents behind others
abbrev pub behind_documents : List ℕ → List (List ℕ) → List ℕ
behind_documents text [] = text
behind_documents text (d ∷ ds) = behind_documents (with_document text d) ds

-- documents one behind the other
abbrev pub one_text : List (List ℕ) → List ℕ
one_text documents = behind_documents [] documents
