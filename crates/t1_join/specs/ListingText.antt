-- The text of a listing: lines `S INDEX HEX` and `G NAME HEX`, each ended by a line feed.
use Rattle.std.specs.Prelude.{ℕ, ◌+◌, ◌-◌, ◌*◌, ◌==◌, ◌&&◌, not, nat_le, Bool, false, if◌then◌else◌, cond, List, [], ◌∷◌, ◌++◌, length, Option, Some, None, unwrap_or, Result, Ok, Err}
use Rattle.std.specs.{Prelude.{option_and_then, flat_map, slice_index}, Option.{option_map}, Result.{result_ok}, Ordering.{eq_by_cmp}, List.{list_any}, Fmt.{decimal}}
use Rattle.hex.specs.Hex.{decode_of, encode_lower}
use Rattle.t1_join.specs.{declared.listing.ListFault.{ListFault}, declared.listing.ListFault.TheVariants.{BadLine, Repeated}, Meaning.{Meaning, meaning_cmp, of_number}}
use Rattle.t1_join.specs.ListingMeaning.{ListingMeaning, is_listed_name}
use Rattle.std.specs.FinMap as fin

-- what a line says: an index or a name, and the bytes that stand there
pub data ListedEntry : Type 0 where
  subr : ℕ → List ℕ → ListedEntry
  glyph : List ℕ → List ℕ → ListedEntry

abbrev pub with_digit : ℕ → List ℕ × List ℕ → List ℕ × List ℕ
with_digit b p = (b ∷ p.0, p.1)

-- what stands before and after the first c
abbrev pub split_at : ℕ → List ℕ → Option (List ℕ × List ℕ)
split_at c [] = None
split_at c (b ∷ bs) = cond (b == c) (Some ([], bs)) (option_map (with_digit b) (split_at c bs))

-- n followed by the decimal digits, if all are digits
abbrev pub number_after : ℕ → List ℕ → Option ℕ
number_after n [] = Some n
number_after n (c ∷ cs) = cond (nat_le 48 c && nat_le c 57) (number_after (n * 10 + (c - 48)) cs) None

abbrev pub up_to : ℕ → ℕ → Option ℕ
up_to most n = cond (nat_le n most) (Some n) None

-- one to five digits, with a value below the limit of indices
abbrev pub listed_index : List ℕ → Option ℕ
listed_index word = cond (nat_le 1 (length word) && nat_le (length word) 5) (option_and_then (up_to 65534) (number_after 0 word)) None

abbrev pub name_of : List ℕ → Option (List ℕ)
name_of word = cond (is_listed_name word) (Some word) None

-- how many digits a value has at most, two for each byte
abbrev pub digits_limit : ℕ
digits_limit = 131070

-- pairs of hexadecimal digits
abbrev pub bytes_of : List ℕ → Option (List ℕ)
bytes_of hex = cond (nat_le (length hex) digits_limit) (result_ok (decode_of hex)) None

-- the bytes that digits spell, where they do
abbrev pub spelled : List ℕ → List ℕ
spelled hex = unwrap_or (bytes_of hex) []

abbrev pub subr_of : List ℕ × List ℕ → Option ListedEntry
subr_of p = option_and_then (λ i. option_map (subr i) (bytes_of p.1)) (listed_index p.0)

abbrev pub glyph_of : List ℕ × List ℕ → Option ListedEntry
glyph_of p = option_and_then (λ n. option_map (glyph n) (bytes_of p.1)) (name_of p.0)

-- what a line says, without its line feed
abbrev pub listed_entry : List ℕ → Option ListedEntry
listed_entry [] = None
listed_entry (kind ∷ []) = None
listed_entry (kind ∷ blank ∷ rest) =
    if not (blank == 32) then None
    else if kind == 83 then option_and_then subr_of (split_at 32 rest)
    else if kind == 71 then option_and_then glyph_of (split_at 32 rest)
    else None

-- a byte goes onto the first line, or where there is none onto what is left
abbrev pub pushed : ℕ → List (List ℕ) → List ℕ → List (List ℕ) × List ℕ
pushed b [] rest = ([], b ∷ rest)
pushed b (line ∷ lines) rest = ((b ∷ line) ∷ lines, rest)

-- the lines, each without its line feed, and what stands after the last line feed
abbrev pub listing_lines : List ℕ → List (List ℕ) × List ℕ
listing_lines [] = ([], [])
listing_lines (b ∷ bs) = cond (b == 10) ([] ∷ (listing_lines bs).0, (listing_lines bs).1) (pushed b (listing_lines bs).0 (listing_lines bs).1)

-- the entries have the same key
abbrev pub same_key : ListedEntry → ListedEntry → Bool
same_key (subr i v) (subr j w) = eq_by_cmp meaning_cmp (of_number i) (of_number j)
same_key (subr i v) (glyph n w) = false
same_key (glyph m v) (subr j w) = false
same_key (glyph m v) (glyph n w) = eq_by_cmp meaning_cmp m n

-- one line, after the entries that were seen, the newest first; `next` reads the lines after it
abbrev pub read_entry : ℕ → List ListedEntry → Option ListedEntry → (List ListedEntry → Result (List ListedEntry) ListFault) →
    Result (List ListedEntry) ListFault
read_entry n seen None next = Err (BadLine n)
read_entry n seen (Some e) next = cond (list_any (same_key e) seen) (Err (Repeated n)) (next (e ∷ seen))

abbrev pub at_end : ℕ → List ListedEntry → List ℕ → Result (List ListedEntry) ListFault
at_end n seen [] = Ok seen
at_end n seen (b ∷ rest) = Err (BadLine n)

-- the lines from line n on, where `rest` stands after the last line feed
abbrev pub read_lines : ℕ → List ListedEntry → List (List ℕ) → List ℕ → Result (List ListedEntry) ListFault
read_lines n seen [] rest = at_end n seen rest
read_lines n seen (line ∷ lines) rest = read_entry n seen (listed_entry line) (λ more. read_lines (n + 1) more lines rest)

-- the entries of a text, the newest first, or its first fault
abbrev pub entries_of : List ℕ → Result (List ListedEntry) ListFault
entries_of text = read_lines 1 [] (listing_lines text).0 (listing_lines text).1

-- a listing with one more entry
abbrev pub with_entry : ListedEntry → ListingMeaning → ListingMeaning
with_entry (subr i v) l = record { subrs = fin.insert l.subrs (of_number i) v; glyphs = l.glyphs }
with_entry (glyph n v) l = record { subrs = l.subrs; glyphs = fin.insert l.glyphs n v }

-- the listing that has these entries
abbrev pub listing_from : List ListedEntry → ListingMeaning
listing_from [] = record { subrs = fin.empty; glyphs = fin.empty }
listing_from (e ∷ es) = with_entry e (listing_from es)

abbrev pub listing_result : Result (List ListedEntry) ListFault → Result ListingMeaning ListFault
listing_result (Ok es) = Ok (listing_from es)
listing_result (Err e) = Err e

-- what a text reads as
abbrev pub listing_of : List ℕ → Result ListingMeaning ListFault
listing_of text = listing_result (entries_of text)

-- the lines of a listing, in the order of the keys
abbrev pub subr_line : Meaning × Meaning → List ℕ
subr_line e = 83 ∷ 32 ∷ (decimal (slice_index e.0 0) ++ 32 ∷ (encode_lower e.1 ++ 10 ∷ []))

abbrev pub glyph_line : Meaning × Meaning → List ℕ
glyph_line e = 71 ∷ 32 ∷ (e.0 ++ 32 ∷ (encode_lower e.1 ++ 10 ∷ []))

-- how a listing is written
abbrev pub text_of : ListingMeaning → List ℕ
text_of l = flat_map subr_line (fin.entries l.subrs) ++ flat_map glyph_line (fin.entries l.glyphs)
