-- What a printer reads around a document: ^D, which ends a job where bytes come one by one, and Hewlett-Packard's Printer Job Language,
-- which begins and ends with its universal exit.
use Rattle.std.specs.Prelude.{◌≡◌, ◌≤◌, drop, ℕ, zero, suc, ◌+◌, ◌-◌, ◌==◌, ◌||◌, not, Bool, List, [], ◌∷◌, length, codes, Option, Some, None, if◌then◌else◌}
use Rattle.std.specs.Option.{option_map}
use Rattle.t1_grammar.specs.Grammar.{Grammar, ◌>>◌, run, fixed, either, may_be}
use Rattle.t1_bytes.specs.White.{has_bytes}
use Rattle.t1_jobs.specs.Kinds.{begins_with}

-- ^D
abbrev pub end_of_job : List ℕ
end_of_job = 4 ∷ []

-- the universal exit
abbrev pub universal_exit : List ℕ
universal_exit = 27 ∷ codes "%-12345X"

-- not LF
abbrev pub is_in_line : ℕ → Bool
is_in_line b = not (b == 10)

-- a line of PJL, which ends with LF or with the file
unfoldable pub pjl_line : Grammar (List ℕ)
pjl_line = do
  fixed (codes "@PJL")
  run is_in_line
  may_be (fixed (10 ∷ []))

-- CR or LF
abbrev pub line_end : Grammar (List ℕ)
line_end = either (fixed (13 ∷ [])) (fixed (10 ∷ []))

-- a word of a printer: ^D, the universal exit, a line of PJL, or the end of a line
unfoldable pub word : Grammar (List ℕ)
word = either (either (fixed end_of_job) (fixed universal_exit)) (either pjl_line line_end)

-- where a word is read, f of what stands behind it; else the text
abbrev pub past_word : (List ℕ → List ℕ) → List ℕ → Option (List ℕ × List ℕ) → List ℕ
past_word f text None = text
past_word f text (Some x) = f x.1

-- a text without the words, at most n of them, that it begins with
unfoldable pub behind_some : ℕ → List ℕ → List ℕ
behind_some zero text = text
behind_some (suc n) text = past_word (behind_some n) text (word.read text)

-- a text without the words that it begins with
abbrev pub behind_words : List ℕ → List ℕ
behind_words text = behind_some (length text) text

-- ---- where a document ends

-- a job may end here: ^D or the universal exit comes
abbrev pub may_end : List ℕ → Bool
may_end text = begins_with end_of_job text || begins_with universal_exit text

-- Something else begins where these bytes stand behind words: another document, or what the universal exit left PostScript for.
abbrev pub another_begins : List ℕ → List ℕ → Bool
another_begins words behind = begins_with universal_exit words || begins_with (codes "%!") behind

-- the same behind so many more bytes
abbrev pub further : ℕ → Option ℕ → Option ℕ
further n len = option_map (λ m. n + m) len

-- What the words come to at which a job may end: with the file the document ends before them; it is no document if something else begins
-- behind them; else they are bytes of its data.
abbrev pub at_words : (List ℕ → Option ℕ) → List ℕ → List ℕ → Option ℕ
at_words len text behind =
    if has_bytes behind then (if another_begins text behind then None else further (length text - length behind) (len behind)) else Some 0

-- how many bytes a document has in a text of at most n bytes, if nothing else begins in it
unfoldable pub len_within : ℕ → List ℕ → Option ℕ
len_within n [] = Some 0
len_within zero (b ∷ bs) = Some 0
len_within (suc n) (b ∷ bs) =
    if may_end (b ∷ bs) then at_words (len_within n) (b ∷ bs) (behind_words (b ∷ bs)) else further 1 (len_within n bs)

-- how many bytes of a text stand before the words that end the job, if nothing else begins in it
abbrev pub document_len : List ℕ → Option ℕ
document_len text = len_within (length text) text

-- so many bytes of a text were passed, and what is left says how many the document has
pub record Scanned (text : List ℕ) (at : ℕ) : Type 0 where
  pub within : at ≤ length text
  pub left : document_len text ≡ further at (document_len (drop at text))
